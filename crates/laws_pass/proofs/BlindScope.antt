-- What the pass asks of the scopes, and what it does to them, is the same after the literals of the recorded values and the constants are
-- relabelled. Assumes nothing.
use mathlib.Core.Path.{◌≡◌, refl, ap, ap₂, ◌∙◌}
use mathlib.Core.Bool.{Bool, true, false, ◌&&◌, ◌||◌, not}
use mathlib.Core.Option.{Option, none, some}
use mathlib.Core.List.{List, [], ◌∷◌, ◌++◌, map}
use Prim.Native.Nat.{ℕ, suc, ◌+◌}
use lib.Dec.{eqb}
use lib.ListN.{length, length-map}
use Rattle.def_tree.specs.Base.{pick, or_else}
use Rattle.def_pass.specs.Tree.{Tree, Forest, node, nil, cons, kids, is_member, head_t}
use Rattle.def_pass.specs.Relabel.{has_origin, relabel, relabel_f}
use Rattle.def_pass.specs.Scope
use Rattle.def_pass.specs.Scope.{VarInfo, Scope as Sc, Stack, Init, no_init, recorded, seen, VarType}
use Rattle.def_tree.proofs.Tests.{is_T}
use Rattle.laws_pass.proofs.Blind.{pick_same, elim-same, on_o, ident-num, same-count_o}

module _ (r : ℕ → ℕ) where
  abbrev pub on_b : VarInfo → VarInfo
  on_b b = Scope.with_value (on_o r b.value) b

  abbrev pub on_c : ℕ × Option Tree → ℕ × Option Tree
  on_c c = (c.0, on_o r c.1)

  abbrev pub on_s : Sc → Sc
  on_s s = record { kind = s.kind; inline_barriers = s.inline_barriers; bindings = map on_b s.bindings; unresolved_usages = s.unresolved_usages; constants = map on_c s.constants }

  abbrev pub on : Stack → Stack
  on st = map on_s st

  abbrev pub on_ob : Option VarInfo → Option VarInfo
  on_ob none = none
  on_ob (some b) = some (on_b b)

  -- lookups

  some_same : (o : Option VarInfo) → Scope.is_some (on_ob o) ≡ Scope.is_some o
  some_same none = refl
  some_same (some b) = refl

  in-same : (i : ℕ) (bs : List VarInfo) → Scope.find_in i (map on_b bs) ≡ on_ob (Scope.find_in i bs)
  in-same i [] = refl
  in-same i (b ∷ bs) = elim-same on_ob (eqb b.id i) (eqb b.id i) (some b) (Scope.find_in i bs) (some (on_b b)) (Scope.find_in i (map on_b bs)) refl refl (in-same i bs)

  has_same : (i : ℕ) (bs : List VarInfo) → Scope.has_in i (map on_b bs) ≡ Scope.has_in i bs
  has_same i bs = ap Scope.is_some (in-same i bs) ∙ some_same (Scope.find_in i bs)

  pub find-same : (i : ℕ) (st : Stack) → Scope.find_binding i (on st) ≡ on_ob (Scope.find_binding i st)
  find-same i [] = refl
  find-same i (s ∷ st) = ap₂ or_else (in-same i s.bindings) (find-same i st) ∙ go (Scope.find_in i s.bindings) (Scope.find_binding i st)
    where
      go : (x y : Option VarInfo) → or_else (on_ob x) (on_ob y) ≡ on_ob (or_else x y)
      go none y = refl
      go (some x) y = refl

  pub here-same : (i : ℕ) (st : Stack) → Scope.find_binding_from_current i (on st) ≡ on_ob (Scope.find_binding_from_current i st)
  here-same i [] = refl
  here-same i (s ∷ st) = in-same i s.bindings

  abbrev on_oo : Option (Option Tree) → Option (Option Tree)
  on_oo none = none
  on_oo (some v) = some (on_o r v)

  const-in : (i : ℕ) (cs : List (ℕ × Option Tree)) → Scope.const_in i (map on_c cs) ≡ on_oo (Scope.const_in i cs)
  const-in i [] = refl
  const-in i (c ∷ cs) = elim-same on_oo (eqb c.0 i) (eqb c.0 i) (some c.1) (Scope.const_in i cs) (some (on_o r c.1)) (Scope.const_in i (map on_c cs)) refl refl (const-in i cs)

  const-some : (i : ℕ) (cs : List (ℕ × Option Tree)) → Scope.is_some (Scope.const_in i (map on_c cs)) ≡ Scope.is_some (Scope.const_in i cs)
  const-some i cs = ap Scope.is_some (const-in i cs) ∙ go (Scope.const_in i cs)
    where
      go : (v : Option (Option Tree)) → Scope.is_some (on_oo v) ≡ Scope.is_some v
      go none = refl
      go (some v) = refl

  has_const-same : (i : ℕ) (st : Stack) → Scope.has_constant i (on st) ≡ Scope.has_constant i st
  has_const-same i [] = refl
  has_const-same i (s ∷ st) = ap₂ ◌||◌ (const-some i s.constants) (has_const-same i st)

  pub const-same : (i : ℕ) (st : Stack) → Scope.find_constant i (on st) ≡ on_o r (Scope.find_constant i st)
  const-same i [] = refl
  const-same i (s ∷ st) = ap₂ (λ v w. or_else (Scope.flat v) w) (const-in i s.constants) (const-same i st) ∙ go (Scope.const_in i s.constants) (Scope.find_constant i st)
    where
      go : (x : Option (Option Tree)) (y : Option Tree) → or_else (Scope.flat (on_oo x)) (on_o r y) ≡ on_o r (or_else (Scope.flat x) y)
      go none y = refl
      go (some none) y = refl
      go (some (some x)) y = refl

  -- changes of bindings, in one scope and in the stack

  bindings-same : (f g : List VarInfo → List VarInfo) (s : Sc) → g (map on_b s.bindings) ≡ map on_b (f s.bindings) → Scope.on_bindings g (on_s s) ≡ on_s (Scope.on_bindings f s)
  bindings-same f g s e = ap (λ bs. record { kind = s.kind; inline_barriers = s.inline_barriers; bindings = bs; unresolved_usages = s.unresolved_usages; constants = (on_s s).constants }) e

  abbrev two : Sc → Stack → Stack
  two s st = s ∷ st

  change_in-same : (i : ℕ) (f g : VarInfo → VarInfo) → ((b : VarInfo) → g (on_b b) ≡ on_b (f b)) → (bs : List VarInfo) → Scope.change_in i g (map on_b bs) ≡ map on_b (Scope.change_in i f bs)
  change_in-same i f g h [] = refl
  change_in-same i f g h (b ∷ bs) = elim-same (map on_b) (eqb b.id i) (eqb b.id i) (f b ∷ bs) (b ∷ Scope.change_in i f bs) (g (on_b b) ∷ map on_b bs) (on_b b ∷ Scope.change_in i g (map on_b bs)) refl
      (ap (λ (c : VarInfo). c ∷ map on_b bs) (h b)) (ap (λ cs. on_b b ∷ cs) (change_in-same i f g h bs))

  pub change-same : (i : ℕ) (f g : VarInfo → VarInfo) → ((b : VarInfo) → g (on_b b) ≡ on_b (f b)) → (st : Stack) → Scope.change i g (on st) ≡ on (Scope.change i f st)
  change-same i f g h [] = refl
  change-same i f g h (s ∷ st) = elim-same on (Scope.has_in i s.bindings) (Scope.has_in i (map on_b s.bindings)) (Scope.on_bindings (Scope.change_in i f) s ∷ st) (s ∷ Scope.change i f st)
      (Scope.on_bindings (Scope.change_in i g) (on_s s) ∷ on st) (on_s s ∷ Scope.change i g (on st)) (has_same i s.bindings)
      (ap (λ x. two x (on st)) (bindings-same (Scope.change_in i f) (Scope.change_in i g) s (change_in-same i f g h s.bindings))) (ap (two (on_s s)) (change-same i f g h st))

  map_same : (f : VarInfo → VarInfo) → ((b : VarInfo) → f (on_b b) ≡ on_b (f b)) → (bs : List VarInfo) → map f (map on_b bs) ≡ map on_b (map f bs)
  map_same f h [] = refl
  map_same f h (b ∷ bs) = ap₂ {C = List VarInfo} (λ x xs. x ∷ xs) (h b) (map_same f h bs)

  -- prevent_inline

  value-is : (i : ℕ) (v : Option Tree) → Scope.value_is i (on_o r v) ≡ Scope.value_is i v
  value-is i none = refl
  value-is i (some (node k f a ts)) = go (eqb k 21) refl
    where
      go : (c : Bool) → eqb k 21 ≡ c → (c && eqb (pick (has_origin k) (r a) a) i) ≡ (c && eqb a i)
      go false e = refl
      go true e = ap (λ n. eqb n i) (ident-num r (node k f a ts) (is_T (eqb k 21) e))

  prevent-one : (i : ℕ) (b : VarInfo) → Scope.prevent_one i (on_b b) ≡ on_b (Scope.prevent_one i b)
  prevent-one i b = pick_same on_b (eqb b.id i || Scope.value_is i b.value) (eqb b.id i || Scope.value_is i (on_o r b.value)) (Scope.prevent b) b (Scope.prevent (on_b b)) (on_b b) (ap (λ c. eqb b.id i || c) (value-is i b.value)) refl refl

  pub prevent-same : (i : ℕ) (st : Stack) → Scope.prevent_inline i (on st) ≡ on (Scope.prevent_inline i st)
  prevent-same i [] = refl
  prevent-same i (s ∷ st) = ap₂ two (bindings-same (map (Scope.prevent_one i)) (map (Scope.prevent_one i)) s (map_same (Scope.prevent_one i) (prevent-one i) s.bindings)) (prevent-same i st)

  prevent-param : (b : VarInfo) → Scope.prevent_param (on_b b) ≡ on_b (Scope.prevent_param b)
  prevent-param b = pick_same on_b (Scope.is_param b.kind) (Scope.is_param b.kind) (Scope.prevent b) b (Scope.prevent (on_b b)) (on_b b) refl refl refl

  params_same : (st : Stack) → Scope.prevent_inline_of_params (on st) ≡ on (Scope.prevent_inline_of_params st)
  params_same [] = refl
  params_same (s ∷ st) = ap₂ two (bindings-same (map Scope.prevent_param) (map Scope.prevent_param) s (map_same Scope.prevent_param prevent-param s.bindings))
      (elim-same on (Scope.is_fn s.kind) (Scope.is_fn s.kind) st (Scope.prevent_inline_of_params st) (on st) (Scope.prevent_inline_of_params (on st)) refl refl (params_same st))

  pub prevent_o-same : (i : Option ℕ) (st : Stack) → Scope.prevent_inline_o i (on st) ≡ on (Scope.prevent_inline_o i st)
  prevent_o-same none st = refl
  prevent_o-same (some i) st = prevent-same i st

  -- the tests before a read or a write

  write_prevents-same : (i : ℕ) (st : Stack) → Scope.write_prevents_inline i (on st) ≡ Scope.write_prevents_inline i st
  write_prevents-same i [] = refl
  write_prevents-same i (s ∷ st) = ap₂ {C = Bool} (λ (c d : Bool). elim c [ true ↦ false | false ↦ elim (Scope.is_block s.kind) [ true ↦ d | false ↦ true ] ]) (has_same i s.bindings) (write_prevents-same i st)

  read_prevents-same : (i : ℕ) (st : Stack) → Scope.read_prevents_inlining i (on st) ≡ Scope.read_prevents_inlining i st
  read_prevents-same i st = ap₂ (λ o c. not (Scope.free_to_read o) && c) (find-same i st) (write_prevents-same i st) ∙ ap (λ c. not c && Scope.write_prevents_inline i st) (go (Scope.find_binding i st))
    where
      go : (o : Option VarInfo) → Scope.free_to_read (on_ob o) ≡ Scope.free_to_read o
      go none = refl
      go (some b) = refl

  unresolved-same : (i : ℕ) (st : Stack) → Scope.add_unresolved i (on st) ≡ on (Scope.add_unresolved i st)
  unresolved-same i [] = refl
  unresolved-same i (s ∷ st) = refl

  append-map : (bs : List VarInfo) (b : VarInfo) → map on_b bs ++ (on_b b ∷ []) ≡ map on_b (bs ++ (b ∷ []))
  append-map [] b = refl
  append-map (c ∷ bs) b = ap (λ (cs : List VarInfo). on_b c ∷ cs) (append-map bs b)

  append-same : (b : VarInfo) (st : Stack) → Scope.append (on_b b) (on st) ≡ on (Scope.append b st)
  append-same b [] = refl
  append-same b (s ∷ st) = ap (λ x. two x (on st)) (bindings-same (λ bs. bs ++ (b ∷ [])) (λ bs. bs ++ (on_b b ∷ [])) s (append-map s.bindings b))

  scope_for-same : (here : Bool) (i : ℕ) (st : Stack) → Scope.scope_for here i (on st) ≡ Scope.scope_for here i st
  scope_for-same here i [] = refl
  scope_for-same here i (s ∷ []) = ap (λ (c : Bool). (c, here)) (has_same i s.bindings)
  scope_for-same here i (s ∷ p ∷ st) = elim-same (λ x. x) (Scope.is_some (Scope.const_in i s.constants) || Scope.has_in i s.bindings) (Scope.is_some (Scope.const_in i (map on_c s.constants)) || Scope.has_in i (map on_b s.bindings))
      (Scope.has_in i s.bindings, here) (Scope.scope_for false i (p ∷ st)) (Scope.has_in i (map on_b s.bindings), here) (Scope.scope_for false i (on (p ∷ st)))
      (ap₂ ◌||◌ (const-some i s.constants) (has_same i s.bindings)) (ap (λ (c : Bool). (c, here)) (has_same i s.bindings)) (scope_for-same false i (p ∷ st))

  -- add_read

  read_tail : ℕ → Stack → Stack
  read_tail i x = pick (Scope.is_some (Scope.find_binding i x)) (Scope.change i Scope.count_read x) (Scope.add_unresolved i x)

  read_tail-same : (i : ℕ) (x : Stack) → read_tail i (on x) ≡ on (read_tail i x)
  unfolding read_tail
  read_tail-same i x = pick_same on (Scope.is_some (Scope.find_binding i x)) (Scope.is_some (Scope.find_binding i (on x))) (Scope.change i Scope.count_read x) (Scope.add_unresolved i x) (Scope.change i Scope.count_read (on x)) (Scope.add_unresolved i (on x))
      (ap Scope.is_some (find-same i x) ∙ some_same (Scope.find_binding i x)) (change-same i Scope.count_read Scope.count_read (λ b. refl) x) (unresolved-same i x)

  -- what comes first in a read and in a write: the identifier prevented, and the parameters if it is `arguments`
  abbrev first : ℕ → Bool → Bool → Stack → Stack
  first i c args st = (let st₁ = pick c (Scope.prevent_inline i st) st in pick args (Scope.prevent_inline_of_params st₁) st₁)

  first-same : (i : ℕ) (c d args : Bool) (st : Stack) → d ≡ c → first i d args (on st) ≡ on (first i c args st)
  first-same i c d args st e =
      let x = pick c (Scope.prevent_inline i st) st in
      let y = pick d (Scope.prevent_inline i (on st)) (on st) in
      let p : y ≡ on x = pick_same on c d (Scope.prevent_inline i st) st (Scope.prevent_inline i (on st)) (on st) e (prevent-same i st) refl in
      pick_same on args args (Scope.prevent_inline_of_params x) x (Scope.prevent_inline_of_params y) y refl (ap Scope.prevent_inline_of_params p ∙ params_same x) p

  pub add_read-same : (i : ℕ) (args : Bool) (st : Stack) → Scope.add_read i args (on st) ≡ on (Scope.add_read i args st)
  unfolding Scope.add_read read_tail
  add_read-same i args st = ap (read_tail i) (first-same i (Scope.read_prevents_inlining i st) (Scope.read_prevents_inlining i (on st)) args st (read_prevents-same i st)) ∙ read_tail-same i (first i (Scope.read_prevents_inlining i st) args st)

  -- add_write

  write_tail : ℕ → Bool → Stack → Stack
  write_tail i force x =
      let where' = Scope.scope_for true i x in
      let bound = (let st₃ = Scope.change i Scope.defined x in pick (not where'.1 || force) (Scope.prevent_inline i st₃) st₃) in
      pick where'.0 bound (pick (Scope.has_constant i x) x (Scope.append (Scope.fresh i Scope.v_var none force false none) x))

  write_tail-same : (i : ℕ) (force : Bool) (x : Stack) → write_tail i force (on x) ≡ on (write_tail i force x)
  unfolding write_tail
  write_tail-same i force x =
      let w = Scope.scope_for true i x in
      let e = scope_for-same true i x in
      let y = Scope.change i Scope.defined x in
      let y' = Scope.change i Scope.defined (on x) in
      let h : y' ≡ on y = change-same i Scope.defined Scope.defined (λ b. refl) x in
      let b = Scope.fresh i Scope.v_var none force false none in
      pick_same on w.0 (Scope.scope_for true i (on x)).0 (pick (not w.1 || force) (Scope.prevent_inline i y) y) (pick (Scope.has_constant i x) x (Scope.append b x))
      (pick (not (Scope.scope_for true i (on x)).1 || force) (Scope.prevent_inline i y') y') (pick (Scope.has_constant i (on x)) (on x) (Scope.append b (on x)))
      (ap (λ (z : Bool × Bool). z.0) e)
      (pick_same on (not w.1 || force) (not (Scope.scope_for true i (on x)).1 || force) (Scope.prevent_inline i y) y (Scope.prevent_inline i y') y' (ap (λ (z : Bool × Bool). not z.1 || force) e) (ap (Scope.prevent_inline i) h ∙ prevent-same i y) h)
      (pick_same on (Scope.has_constant i x) (Scope.has_constant i (on x)) x (Scope.append b x) (on x) (Scope.append b (on x)) (has_const-same i x) refl (append-same b x))

  pub add_write-same : (i : ℕ) (args force : Bool) (st : Stack) → Scope.add_write i args force (on st) ≡ on (Scope.add_write i args force st)
  unfolding Scope.add_write write_tail
  add_write-same i args force st = ap (write_tail i force) (first-same i (Scope.write_prevents_inline i st) (Scope.write_prevents_inline i (on st)) args st (write_prevents-same i st)) ∙ write_tail-same i force (first i (Scope.write_prevents_inline i st) args st)

  -- marks, barriers, constants

  pub sensitive-same : (i : Option ℕ) (st : Stack) → Scope.mark_this_sensitive i (on st) ≡ on (Scope.mark_this_sensitive i st)
  sensitive-same none st = refl
  sensitive-same (some i) st = change-same i Scope.sensitive_now Scope.sensitive_now (λ b. refl) st

  barrier-at : Sc → ℕ → Sc
  barrier-at s n = record { kind = s.kind; inline_barriers = λ (j : ℕ). eqb n j || s.inline_barriers j; bindings = map on_b s.bindings; unresolved_usages = s.unresolved_usages; constants = map on_c s.constants }

  pub barrier-same : (st : Stack) → Scope.store_inline_barrier (on st) ≡ on (Scope.store_inline_barrier st)
  unfolding barrier-at
  barrier-same [] = refl
  barrier-same (s ∷ st) = ap₂ two (ap (barrier-at s) (length-map s.bindings on_b)) (barrier-same st)

  put_const-same : (i : ℕ) (v : Option Tree) (cs : List (ℕ × Option Tree)) → Scope.put_const i (on_o r v) (map on_c cs) ≡ map on_c (Scope.put_const i v cs)
  put_const-same i v [] = refl
  put_const-same i v (c ∷ cs) = elim-same (map on_c) (eqb c.0 i) (eqb c.0 i) ((i, v) ∷ cs) (c ∷ Scope.put_const i v cs) ((i, on_o r v) ∷ map on_c cs) (on_c c ∷ Scope.put_const i (on_o r v) (map on_c cs)) refl refl
      (ap (λ (ds : List (ℕ × Option Tree)). on_c c ∷ ds) (put_const-same i v cs))

  untargeted-same : (tg : ℕ → Bool) (v : Option Tree) → Scope.untargeted tg (on_o r v) ≡ on_o r (Scope.untargeted tg v)
  untargeted-same tg none = refl
  untargeted-same tg (some (node k f a ts)) = pick_same (on_o r) (eqb k 21 && tg a) (eqb k 21 && tg (pick (has_origin k) (r a) a)) none (some (node k f a ts)) none (some (relabel r (node k f a ts))) (go (eqb k 21) refl) refl refl
    where
      go : (b : Bool) → eqb k 21 ≡ b → (b && tg (pick (has_origin k) (r a) a)) ≡ (b && tg a)
      go true e = ap tg (ident-num r (node k f a ts) (is_T (eqb k 21) e))
      go false e = refl

  pub add_const-same : (tg : ℕ → Bool) (i : ℕ) (v : Option Tree) (st : Stack) → Scope.add_const tg i (on_o r v) (on st) ≡ on (Scope.add_const tg i v st)
  add_const-same tg i v [] = refl
  add_const-same tg i v (s ∷ st) = ap (λ cs. two (record { kind = s.kind; inline_barriers = s.inline_barriers; bindings = map on_b s.bindings; unresolved_usages = s.unresolved_usages; constants = cs }) (on st))
      (ap (λ w. Scope.put_const i w (map on_c s.constants)) (untargeted-same tg v) ∙ put_const-same i (Scope.untargeted tg v) s.constants)

  -- is_inline_prevented

  pub ident_of-same : (v : Option Tree) → Scope.ident_of (on_o r v) ≡ Scope.ident_of v
  ident_of-same none = refl
  ident_of-same (some (node k f a ts)) = go (eqb k 21) refl
    where
      go : (c : Bool) → eqb k 21 ≡ c → pick c (some (pick (has_origin k) (r a) a)) none ≡ pick c (some a) none
      go true e = ap some (ident-num r (node k f a ts) (is_T (eqb k 21) e))
      go false e = refl

  mark_of-same : (i : Option ℕ) (st : Stack) → Scope.mark_of_id i (on st) ≡ Scope.mark_of_id i st
  mark_of-same none st = refl
  mark_of-same (some i) st = ap Scope.mark_of (find-same i st) ∙ go (Scope.find_binding i st)
    where
      go : (o : Option VarInfo) → Scope.mark_of (on_ob o) ≡ Scope.mark_of o
      go none = refl
      go (some b) = refl

  pub prevented-same : (t : Tree) (st : Stack) → Scope.is_inline_prevented (relabel r t) (on st) ≡ Scope.is_inline_prevented t st
  prevented-same (node k f a ts) st = ap (λ c. eqb k 31 || eqb k 35 || eqb k 36 || eqb k 41 || c) (mark_of-same (asked (relabel r (node k f a ts))) st ∙ ap (λ i. Scope.mark_of_id i st) same_asked)
    where
      asked : Tree → Option ℕ
      asked t = pick (is_member t) (Scope.ident_of (head_t (kids t))) (Scope.ident_of (some t))

      head : (us : Forest) → Scope.ident_of (head_t (relabel_f r us)) ≡ Scope.ident_of (head_t us)
      head nil = refl
      head (cons u us) = ident_of-same (some u)

      same_asked : asked (relabel r (node k f a ts)) ≡ asked (node k f a ts)
      same_asked = ap₂ (λ (x y : Option ℕ). pick (eqb k 37 || eqb k 38) x y) (head ts) (ident_of-same (some (node k f a ts)))

  pub prevented_o-same : (v : Option Tree) (st : Stack) → Scope.prevented_o (on_o r v) (on st) ≡ Scope.prevented_o v st
  prevented_o-same none st = refl
  prevented_o-same (some t) st = prevented-same t st

  member_o-same : (v : Option Tree) → Scope.member_o (on_o r v) ≡ Scope.member_o v
  member_o-same none = refl
  member_o-same (some (node k f a ts)) = refl

  pub var_prevented-same : (b : VarInfo) → Scope.var_inline_prevented (on_b b) ≡ Scope.var_inline_prevented b
  var_prevented-same b = ap (λ c. b.inline_prevented || (b.this_sensitive && c)) (member_o-same b.value)

  pub same_this-same : (o : Option VarInfo) (v : Option Tree) → Scope.has_same_this (on_ob o) (on_o r v) ≡ Scope.has_same_this o v
  same_this-same none v = refl
  same_this-same (some b) v = ap (λ c. not (b.this_sensitive && c)) (member_o-same v)

  should_prevent-same : (i : ℕ) (st : Stack) → Scope.should_prevent_inline_because_of_scope i (on st) ≡ Scope.should_prevent_inline_because_of_scope i st
  should_prevent-same i [] = refl
  should_prevent-same i (s ∷ st) = ap₂ (λ c d. s.unresolved_usages i || c || d) (should_prevent-same i st) (ap Scope.is_hoisted_prevented (find-same i st) ∙ go (Scope.find_binding i st))
    where
      go : (o : Option VarInfo) → Scope.is_hoisted_prevented (on_ob o) ≡ Scope.is_hoisted_prevented o
      go none = refl
      go (some b) = ap (λ c. b.hoisted && c) (var_prevented-same b)

  -- declare

  abbrev pub on_i : Init → Init
  on_i no_init = no_init
  on_i (recorded t) = recorded (relabel r t)
  on_i (seen t) = seen (relabel r t)

  init_of-same : (v : Init) → Scope.init_of (on_i v) ≡ on_o r (Scope.init_of v)
  init_of-same no_init = refl
  init_of-same (recorded t) = refl
  init_of-same (seen t) = refl

  kept_same : (v : Init) (o : Option Tree) → Scope.kept (on_i v) (on_o r o) ≡ on_o r (Scope.kept v o)
  kept_same no_init o = refl
  kept_same (recorded t) o = refl
  kept_same (seen t) o = refl

  value_o-same : (o : Option VarInfo) → Scope.value_o (on_ob o) ≡ on_o r (Scope.value_o o)
  value_o-same none = refl
  value_o-same (some b) = refl

  -- a binding with its place
  abbrev on_p : Option (ℕ × VarInfo) → Option (ℕ × VarInfo)
  on_p none = none
  on_p (some p) = some (p.0, on_b p.1)

  idx-same : (n i : ℕ) (bs : List VarInfo) → Scope.idx_val n i (map on_b bs) ≡ on_p (Scope.idx_val n i bs)
  idx-same n i [] = refl
  idx-same n i (b ∷ bs) = elim-same on_p (eqb b.id i) (eqb b.id i) (some (n, b)) (Scope.idx_val (suc n) i bs) (some (n, on_b b)) (Scope.idx_val (suc n) i (map on_b bs)) refl refl (idx-same (suc n) i bs)

  idx_o-same : (i : Option ℕ) (bs : List VarInfo) → Scope.idx_val_o i (map on_b bs) ≡ on_p (Scope.idx_val_o i bs)
  idx_o-same none bs = refl
  idx_o-same (some i) bs = idx-same 0 i bs

  alias-same : (o : Option (ℕ × VarInfo)) → Scope.alias_from (on_p o) ≡ Scope.alias_from o
  alias-same none = refl
  alias-same (some p) = refl

  place_or-same : (n : ℕ) (o : Option (ℕ × VarInfo)) → Scope.place_or n (on_p o) ≡ Scope.place_or n o
  place_or-same n none = refl
  place_or-same n (some p) = refl

  barred-same : (o : Option (ℕ × VarInfo)) (n : ℕ) (bars : ℕ → Bool) → Scope.barred (on_p o) n bars ≡ Scope.barred o n bars
  barred-same none n bars = refl
  barred-same (some p) n bars = refl

  in_loop-same : (st : Stack) → Scope.in_loop (on st) ≡ Scope.in_loop st
  in_loop-same [] = refl
  in_loop-same (s ∷ st) = ap {B = Bool} (λ (c : Bool). elim (Scope.is_fn s.kind) [ true ↦ false | false ↦ elim (Scope.is_loop s.kind) [ true ↦ true | false ↦ c ] ]) (in_loop-same st)

  -- `declare`, by what it finds: the alias, the mark, the old binding, a loop, a barrier, the value's identifier
  declare_by : ℕ → Init → Bool → VarType → Option VarType → Bool → Option VarInfo → Bool → Bool → Option ℕ → Sc → Stack → Stack
  declare_by i v u k al p old loop bar io s st =
      let new = pick (Scope.is_some old) (Scope.change_in i (Scope.redeclare p u (Scope.kept v (Scope.value_o old))) s.bindings) (s.bindings ++ (Scope.fresh i k al p u (Scope.kept v none) ∷ [])) in
      let st₁ = Scope.on_bindings (λ bs. new) s ∷ st in
      let st₂ = pick loop (Scope.prevent_inline i st₁) st₁ in
      pick (not (Scope.is_param k) && not (Scope.param_o al) && bar) (Scope.prevent_inline_o io (Scope.prevent_inline i st₂)) st₂

  declare_by-same : (i : ℕ) (v : Init) (u : Bool) (k : VarType) (al : Option VarType) (p : Bool) (old : Option VarInfo) (loop bar : Bool) (io : Option ℕ) (s : Sc) (st : Stack)
      → declare_by i (on_i v) u k al p (on_ob old) loop bar io (on_s s) (on st) ≡ on (declare_by i v u k al p old loop bar io s st)
  unfolding declare_by
  declare_by-same i v u k al p old loop bar io s st =
      let f = Scope.redeclare p u (Scope.kept v (Scope.value_o old)) in
      let g = Scope.redeclare p u (Scope.kept (on_i v) (Scope.value_o (on_ob old))) in
      let b = Scope.fresh i k al p u (Scope.kept v none) in
      let c = Scope.fresh i k al p u (Scope.kept (on_i v) none) in
      let new = pick (Scope.is_some old) (Scope.change_in i f s.bindings) (s.bindings ++ (b ∷ [])) in
      let new' = pick (Scope.is_some (on_ob old)) (Scope.change_in i g (map on_b s.bindings)) (map on_b s.bindings ++ (c ∷ [])) in
      let x : Stack = Scope.on_bindings (λ bs. new) s ∷ st in
      let x' : Stack = Scope.on_bindings (λ bs. new') (on_s s) ∷ on st in
      let y = pick loop (Scope.prevent_inline i x) x in
      let y' = pick loop (Scope.prevent_inline i x') x' in
      let kept-is : Scope.kept (on_i v) (Scope.value_o (on_ob old)) ≡ on_o r (Scope.kept v (Scope.value_o old)) = ap (Scope.kept (on_i v)) (value_o-same old) ∙ kept_same v (Scope.value_o old) in
      let changed : Scope.change_in i g (map on_b s.bindings) ≡ map on_b (Scope.change_in i f s.bindings) = change_in-same i f g (λ d. ap (λ w. Scope.redeclare p u w d) kept-is) s.bindings in
      let fresh-is : c ≡ on_b b = ap (Scope.fresh i k al p u) (kept_same v none) in
      let added : map on_b s.bindings ++ (c ∷ []) ≡ map on_b (s.bindings ++ (b ∷ [])) = ap (λ (d : VarInfo). map on_b s.bindings ++ (d ∷ [])) fresh-is ∙ append-map s.bindings b in
      let e : new' ≡ map on_b new = pick_same (map on_b) (Scope.is_some old) (Scope.is_some (on_ob old)) (Scope.change_in i f s.bindings) (s.bindings ++ (b ∷ [])) (Scope.change_in i g (map on_b s.bindings)) (map on_b s.bindings ++ (c ∷ [])) (some_same old) changed added in
      let ex : x' ≡ on x = ap (λ z. two z (on st)) (bindings-same (λ bs. new) (λ bs. new') s e) in
      let ey : y' ≡ on y = pick_same on loop loop (Scope.prevent_inline i x) x (Scope.prevent_inline i x') x' refl (ap (Scope.prevent_inline i) ex ∙ prevent-same i x) ex in
      pick_same on (not (Scope.is_param k) && not (Scope.param_o al) && bar) (not (Scope.is_param k) && not (Scope.param_o al) && bar) (Scope.prevent_inline_o io (Scope.prevent_inline i y)) y
      (Scope.prevent_inline_o io (Scope.prevent_inline i y')) y' refl (ap (λ z. Scope.prevent_inline_o io (Scope.prevent_inline i z)) ey ∙ ap (Scope.prevent_inline_o io) (prevent-same i y) ∙ prevent_o-same io (Scope.prevent_inline i y)) ey

  pub declare-same : (again : Bool) (i : ℕ) (v : Init) (u : Bool) (k : VarType) (st : Stack) → Scope.declare again i (on_i v) u k (on st) ≡ on (Scope.declare again i v u k st)
  unfolding Scope.declare declare_by
  declare-same again i v u k [] = refl
  declare-same again i v u k (s ∷ st) = go ∙ declare_by-same i v u k al p old loop bar io s st
    where
      e : Option Tree
      e = Scope.init_of v

      e' : Option Tree
      e' = Scope.init_of (on_i v)

      io : Option ℕ
      io = Scope.ident_of e

      io' : Option ℕ
      io' = Scope.ident_of e'

      target : Option (ℕ × VarInfo)
      target = Scope.idx_val_o io s.bindings

      target' : Option (ℕ × VarInfo)
      target' = Scope.idx_val_o io' (map on_b s.bindings)

      al : Option VarType
      al = Scope.alias_from target

      p : Bool
      p = again || Scope.should_prevent_inline_because_of_scope i (s ∷ st) || Scope.prevented_o e (s ∷ st)

      p' : Bool
      p' = again || Scope.should_prevent_inline_because_of_scope i (on (s ∷ st)) || Scope.prevented_o e' (on (s ∷ st))

      idx : ℕ
      idx = Scope.place_or (length s.bindings) (Scope.idx_val 0 i s.bindings)

      idx' : ℕ
      idx' = Scope.place_or (length (map on_b s.bindings)) (Scope.idx_val 0 i (map on_b s.bindings))

      old : Option VarInfo
      old = Scope.find_in i s.bindings

      loop : Bool
      loop = Scope.in_loop (s ∷ st)

      bar : Bool
      bar = Scope.barred target idx s.inline_barriers

      io-is : io' ≡ io
      io-is = ap Scope.ident_of (init_of-same v) ∙ ident_of-same e

      target_is : target' ≡ on_p target
      target_is = ap (λ j. Scope.idx_val_o j (map on_b s.bindings)) io-is ∙ idx_o-same io s.bindings

      al-is : Scope.alias_from target' ≡ al
      al-is = ap Scope.alias_from target_is ∙ alias-same target

      p-is : p' ≡ p
      p-is = ap₂ (λ a b. again || a || b) (should_prevent-same i (s ∷ st)) (ap (λ w. Scope.prevented_o w (on (s ∷ st))) (init_of-same v) ∙ prevented_o-same e (s ∷ st))

      idx-is : idx' ≡ idx
      idx-is = ap₂ Scope.place_or (length-map s.bindings on_b) (idx-same 0 i s.bindings) ∙ place_or-same (length s.bindings) (Scope.idx_val 0 i s.bindings)

      bar-is : Scope.barred target' idx' s.inline_barriers ≡ bar
      bar-is = ap₂ (λ o n. Scope.barred o n s.inline_barriers) target_is idx-is ∙ barred-same target idx s.inline_barriers

      all : (al₁ : Option VarType) (p₁ : Bool) (old₁ : Option VarInfo) (loop₁ bar₁ : Bool) (io₁ : Option ℕ) → al₁ ≡ al → p₁ ≡ p → old₁ ≡ on_ob old → loop₁ ≡ loop → bar₁ ≡ bar → io₁ ≡ io
          → declare_by i (on_i v) u k al₁ p₁ old₁ loop₁ bar₁ io₁ (on_s s) (on st) ≡ declare_by i (on_i v) u k al p (on_ob old) loop bar io (on_s s) (on st)
      all al₁ p₁ old₁ loop₁ bar₁ io₁ q₁ q₂ q₃ q₄ q₅ q₆ = cc

      go : Scope.declare again i (on_i v) u k (on (s ∷ st)) ≡ declare_by i (on_i v) u k al p (on_ob old) loop bar io (on_s s) (on st)
      go = all (Scope.alias_from target') p' (Scope.find_in i (map on_b s.bindings)) (Scope.in_loop (on (s ∷ st))) (Scope.barred target' idx' s.inline_barriers) io' al-is p-is (in-same i s.bindings) (in_loop-same (s ∷ st)) bar-is io-is

  -- the end of a scope

  put_same : (c : VarInfo) (bs : List VarInfo) → Scope.put (on_b c) (map on_b bs) ≡ map on_b (Scope.put c bs)
  put_same c [] = refl
  put_same c (b ∷ bs) = elim-same (map on_b) (eqb b.id c.id) (eqb b.id c.id) (c ∷ bs) (b ∷ Scope.put c bs) (on_b c ∷ map on_b bs) (on_b b ∷ Scope.put (on_b c) (map on_b bs)) refl refl
      (ap (λ (ds : List VarInfo). on_b b ∷ ds) (put_same c bs))

  hoist-same : (us : ℕ → Bool) (cs bs : List VarInfo) → Scope.hoist_all us (map on_b cs) (map on_b bs) ≡ map on_b (Scope.hoist_all us cs bs)
  hoist-same us [] bs = refl
  hoist-same us (c ∷ cs) bs =
      let x = pick (Scope.is_var c.kind) (Scope.put (Scope.hoist us c) bs) bs in
      ap (Scope.hoist_all us (map on_b cs)) (pick_same (map on_b) (Scope.is_var c.kind) (Scope.is_var c.kind) (Scope.put (Scope.hoist us c) bs) bs (Scope.put (Scope.hoist us c) (map on_b bs)) (map on_b bs) refl (put_same (Scope.hoist us c) bs) refl)
      ∙ hoist-same us cs x

  pub close-same : (st : Stack) → Scope.close (on st) ≡ on (Scope.close st)
  unfolding Scope.close
  close-same [] = refl
  close-same (c ∷ []) = refl
  close-same (c ∷ s ∷ st) =
      let us : ℕ → Bool = λ j. c.unresolved_usages j || s.unresolved_usages j in
      ap (λ bs. two (record { kind = s.kind; inline_barriers = s.inline_barriers; bindings = bs; unresolved_usages = us; constants = map on_c s.constants }) (on st))
      (pick_same (map on_b) (Scope.is_fn c.kind) (Scope.is_fn c.kind) s.bindings (Scope.hoist_all us c.bindings s.bindings) (map on_b s.bindings) (Scope.hoist_all us (map on_b c.bindings) (map on_b s.bindings)) refl refl (hoist-same us c.bindings s.bindings))

  -- what then ends of the counts

  counts_in-same : (bs : List VarInfo) → Scope.counts_in (map on_b bs) ≡ Scope.counts_in bs
  counts_in-same [] = refl
  counts_in-same (b ∷ bs) = ap (λ n. b.count + n) (counts_in-same bs)

  count_in-same : (i : ℕ) (bs : List VarInfo) → Scope.count_in i (map on_b bs) ≡ Scope.count_in i bs
  count_in-same i [] = refl
  count_in-same i (b ∷ bs) = elim-same (λ n. n) (eqb b.id i) (eqb b.id i) b.count (Scope.count_in i bs) b.count (Scope.count_in i (map on_b bs)) refl refl (count_in-same i bs)

  ending_all-same : (us : ℕ → Bool) (cs bs : List VarInfo) → Scope.ending_all us (map on_b cs) (map on_b bs) ≡ Scope.ending_all us cs bs
  ending_all-same us [] bs = refl
  ending_all-same us (c ∷ cs) bs =
      let x = pick (Scope.is_var c.kind) (Scope.put (Scope.hoist us c) bs) bs in
      ap₂ (λ m n. m + n) (ap (λ n. pick (Scope.is_var c.kind) n c.count) (count_in-same c.id bs))
      (ap (Scope.ending_all us (map on_b cs)) (pick_same (map on_b) (Scope.is_var c.kind) (Scope.is_var c.kind) (Scope.put (Scope.hoist us c) bs) bs (Scope.put (Scope.hoist us c) (map on_b bs)) (map on_b bs) refl (put_same (Scope.hoist us c) bs) refl) ∙ ending_all-same us cs x)

  pub ending-same : (st : Stack) → Scope.ending (on st) ≡ Scope.ending st
  unfolding Scope.ending
  ending-same [] = refl
  ending-same (c ∷ []) = counts_in-same c.bindings
  ending-same (c ∷ s ∷ st) = ap₂ (pick (Scope.is_fn c.kind)) (counts_in-same c.bindings) (ending_all-same (λ j. c.unresolved_usages j || s.unresolved_usages j) c.bindings s.bindings)

  -- what row 9 counts

  values_in-same : (bs : List VarInfo) → Scope.values_in (map on_b bs) ≡ Scope.values_in bs
  values_in-same [] = refl
  values_in-same (b ∷ bs) = ap₂ (λ m n. m + n) (same-count_o r b.value) (values_in-same bs)

  values_of-same : (cs : List (ℕ × Option Tree)) → Scope.values_of (map on_c cs) ≡ Scope.values_of cs
  values_of-same [] = refl
  values_of-same (c ∷ cs) = ap₂ (λ m n. m + n) (same-count_o r c.1) (values_of-same cs)

  pub recorded-same : (st : Stack) → Scope.recorded_nodes (on st) ≡ Scope.recorded_nodes st
  recorded-same [] = refl
  recorded-same (s ∷ st) = ap₂ (λ m n. m + n) (ap₂ (λ m n. m + n) (values_in-same s.bindings) (values_of-same s.constants)) (recorded-same st)

  pub live_same : (st : Stack) → Scope.live (on st) ≡ Scope.live st
  live_same [] = refl
  live_same (s ∷ st) = ap₂ (λ m n. m + n) (ap₂ (λ m n. m + n) (length-map s.bindings on_b) (length-map s.constants on_c)) (live_same st)
