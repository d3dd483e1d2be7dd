-- What every walk keeps: a property N of each node's kind, form and number, in the tree, the recorded values and the constants,
-- and of each binding's identifier; and that no scope has two bindings of one identifier. The walks make no node but `void 0` and an identifier from a binding. Assumes nothing.
use mathlib.Core.Path.{◌≡◌, refl, sym, ◌∙◌, subst}
use mathlib.Core.Bool.{Bool, true, false, ◌&&◌, not, ◌||◌}
use mathlib.Core.Option.{Option, none, some}
use mathlib.Core.List.{List, [], ◌∷◌, ◌++◌, map}
use Prim.Native.Nat.{ℕ, suc, ◌+◌}
use lib.Dec.{T, eqb, eqb→eq}
use Rattle.def_tree.proofs.Tests.{is_T}
use Rattle.laws_pass.proofs.All.{All, all_map, all_append}
use Rattle.laws_pass.proofs.Tests.{pick-ok, pick_known, elim-ok}
use Rattle.laws_pass.proofs.Effects.{Law, Effects, GF, VF, VO, VB, VI, Passed, pass-does}
use Rattle.laws_pass.proofs.Single.{Single, ids, has-mem, ids-append, ids-map, ids-change, pick_id, single-append, single-put, Fresh, unbound}
use lib.ListN.{length}
use Rattle.def_tree.specs.Base.{pick, or_else}
use Rattle.def_pass.specs.Tree.{Tree, Forest, node, nil, cons, kind, num, is_ident}
use Rattle.def_pass.specs.Twice.{unflagged, is_function, is_named, twice, flag, flags, flag_named, flagged}
use Rattle.def_pass.specs.Scope as Scope
use Rattle.def_pass.specs.Walk as Walk
use Rattle.def_pass.specs.Walk.{St}

module _ (N : ℕ → ℕ → ℕ → Type 0) (to-ident : (f a : ℕ) → N 20 f a → N 21 (unflagged f) a) (n-void : N 30 0 0) (n-zero : N 22 0 0) where
  abbrev mutual
    pub OkT : Tree → Type 0
    OkT (node k f a ts) = N k f a × OkF ts

    pub OkF : Forest → Type 0
    OkF nil = Unit {0}
    OkF (cons t ts) = OkT t × OkF ts

  abbrev pub OkO : Option Tree → Type 0
  OkO none = Unit {0}
  OkO (some t) = OkT t

  -- the identifier of some node
  pub record OkId (i : ℕ) : Type 0 where
    pub flag : ℕ
    pub ok : N 21 flag i

  abbrev pub OkB : Scope.VarInfo → Type 0
  OkB b = OkId b.id × OkO b.value

  abbrev pub OkC : ℕ × Option Tree → Type 0
  OkC c = OkO c.1

  abbrev pub OkS : Scope.Scope → Type 0
  OkS s = All OkB s.bindings × All OkC s.constants × Single (ids s.bindings)

  abbrev pub OkSt : Scope.Stack → Type 0
  OkSt st = All OkS st

  abbrev pub OkOB : Option Scope.VarInfo → Type 0
  OkOB none = Unit {0}
  OkOB (some b) = OkB b

  ok_in : (i : ℕ) (bs : List Scope.VarInfo) → All OkB bs → OkOB (Scope.find_in i bs)
  ok_in i [] h = tt
  ok_in i (b ∷ bs) h = elim-ok OkOB (eqb b.id i) (some b) (Scope.find_in i bs) h.0 (ok_in i bs h.1)

  ok-else : (x y : Option Scope.VarInfo) → OkOB x → OkOB y → OkOB (or_else x y)
  ok-else none y h k = k
  ok-else (some x) y h k = h

  ok-else_t : (x y : Option Tree) → OkO x → OkO y → OkO (or_else x y)
  ok-else_t none y h k = k
  ok-else_t (some x) y h k = h

  pub ok-find : (i : ℕ) (st : Scope.Stack) → OkSt st → OkOB (Scope.find_binding i st)
  ok-find i [] h = tt
  ok-find i (s ∷ st) h = ok-else (Scope.find_in i s.bindings) (Scope.find_binding i st) (ok_in i s.bindings h.0.0) (ok-find i st h.1)

  pub ok-here : (i : ℕ) (st : Scope.Stack) → OkSt st → OkOB (Scope.find_binding_from_current i st)
  ok-here i [] h = tt
  ok-here i (s ∷ st) h = ok_in i s.bindings h.0.0

  abbrev OkOO : Option (Option Tree) → Type 0
  OkOO none = Unit {0}
  OkOO (some v) = OkO v

  ok-const-in : (i : ℕ) (cs : List (ℕ × Option Tree)) → All OkC cs → OkO (Scope.flat (Scope.const_in i cs))
  ok-const-in i cs h = go (Scope.const_in i cs) (got i cs h)
    where
      got : (i : ℕ) (cs : List (ℕ × Option Tree)) → All OkC cs → OkOO (Scope.const_in i cs)
      got i [] h = tt
      got i (c ∷ cs) h = elim-ok OkOO (eqb c.0 i) (some c.1) (Scope.const_in i cs) h.0 (got i cs h.1)

      go : (v : Option (Option Tree)) → OkOO v → OkO (Scope.flat v)
      go none h = tt
      go (some v) h = h

  pub ok-const : (i : ℕ) (st : Scope.Stack) → OkSt st → OkO (Scope.find_constant i st)
  ok-const i [] h = tt
  ok-const i (s ∷ st) h = ok-else_t (Scope.flat (Scope.const_in i s.constants)) (Scope.find_constant i st) (ok-const-in i s.constants h.0.1) (ok-const i st h.1)

  ok-put_const : (i : ℕ) (v : Option Tree) → OkO v → (cs : List (ℕ × Option Tree)) → All OkC cs → All OkC (Scope.put_const i v cs)
  ok-put_const i v k [] h = (k, tt)
  ok-put_const i v k (c ∷ cs) h = elim-ok (All OkC) (eqb c.0 i) ((i, v) ∷ cs) (c ∷ Scope.put_const i v cs) (k, h.1) (h.0, ok-put_const i v k cs h.1)

  ok-untargeted : (tg : ℕ → Bool) (v : Option Tree) → OkO v → OkO (Scope.untargeted tg v)
  ok-untargeted tg none k = tt
  ok-untargeted tg (some t) k = pick-ok OkO (is_ident t && tg (num t)) none (some t) tt k

  pub ok-add_const : (tg : ℕ → Bool) (i : ℕ) (v : Option Tree) → OkO v → (st : Scope.Stack) → OkSt st → OkSt (Scope.add_const tg i v st)
  ok-add_const tg i v k [] h = tt
  ok-add_const tg i v k (s ∷ st) h = ((h.0.0, ok-put_const i (Scope.untargeted tg v) (ok-untargeted tg v k) s.constants h.0.1, h.0.2), h.1)

  -- a change of one binding
  ok-change_in : (i : ℕ) (f : Scope.VarInfo → Scope.VarInfo) → ((b : Scope.VarInfo) → OkB b → OkB (f b)) → (bs : List Scope.VarInfo) → All OkB bs → All OkB (Scope.change_in i f bs)
  ok-change_in i f k [] h = tt
  ok-change_in i f k (b ∷ bs) h = elim-ok (All OkB) (eqb b.id i) (f b ∷ bs) (b ∷ Scope.change_in i f bs) (k b h.0, h.1) (h.0, ok-change_in i f k bs h.1)

  pub ok-change : (i : ℕ) (f : Scope.VarInfo → Scope.VarInfo) → ((b : Scope.VarInfo) → (f b).id ≡ b.id) → ((b : Scope.VarInfo) → OkB b → OkB (f b)) → (st : Scope.Stack) → OkSt st → OkSt (Scope.change i f st)
  ok-change i f e k [] h = tt
  ok-change i f e k (s ∷ st) h = elim-ok OkSt (Scope.has_in i s.bindings) (Scope.on_bindings (Scope.change_in i f) s ∷ st) (s ∷ Scope.change i f st)
      ((ok-change_in i f k s.bindings h.0.0, h.0.1, subst Single (sym (ids-change f e i s.bindings)) h.0.2), h.1) (h.0, ok-change i f e k st h.1)

  ok-prevent_one : (i : ℕ) (b : Scope.VarInfo) → OkB b → OkB (Scope.prevent_one i b)
  ok-prevent_one i b h = pick-ok OkB (eqb b.id i || Scope.value_is i b.value) (Scope.prevent b) b h h

  pub ok-prevent : (i : ℕ) (st : Scope.Stack) → OkSt st → OkSt (Scope.prevent_inline i st)
  ok-prevent i [] h = tt
  ok-prevent i (s ∷ st) h = ((all_map OkB (Scope.prevent_one i) (ok-prevent_one i) s.bindings h.0.0, h.0.1, subst Single (sym (ids-map (Scope.prevent_one i) (λ b. pick_id (eqb b.id i || Scope.value_is i b.value) (Scope.prevent b) b refl) s.bindings)) h.0.2), ok-prevent i st h.1)

  ok-params : (st : Scope.Stack) → OkSt st → OkSt (Scope.prevent_inline_of_params st)
  ok-params [] h = tt
  ok-params (s ∷ st) h = (
    (all_map OkB Scope.prevent_param (λ b k. pick-ok OkB (Scope.is_param b.kind) (Scope.prevent b) b k k) s.bindings h.0.0, h.0.1, subst Single (sym (ids-map Scope.prevent_param (λ b. pick_id (Scope.is_param b.kind) (Scope.prevent b) b refl) s.bindings)) h.0.2),
    elim-ok OkSt (Scope.is_fn s.kind) st (Scope.prevent_inline_of_params st) h.1 (ok-params st h.1),
  )

  ok-unresolved : (i : ℕ) (st : Scope.Stack) → OkSt st → OkSt (Scope.add_unresolved i st)
  ok-unresolved i [] h = tt
  ok-unresolved i (s ∷ st) h = h

  pub ok-add_read : (i : ℕ) (g : Bool) (st : Scope.Stack) → OkSt st → OkSt (Scope.add_read i g st)
  unfolding Scope.add_read
  ok-add_read i g st h =
      let st₁ = pick (Scope.read_prevents_inlining i st) (Scope.prevent_inline i st) st in
      let st₂ = pick g (Scope.prevent_inline_of_params st₁) st₁ in
      let h₁ = pick-ok OkSt (Scope.read_prevents_inlining i st) (Scope.prevent_inline i st) st (ok-prevent i st h) h in
      let h₂ = pick-ok OkSt g (Scope.prevent_inline_of_params st₁) st₁ (ok-params st₁ h₁) h₁ in
      pick-ok OkSt (Scope.is_some (Scope.find_binding i st₂)) (Scope.change i Scope.count_read st₂) (Scope.add_unresolved i st₂) (ok-change i Scope.count_read (λ b. refl) (λ b k. k) st₂ h₂) (ok-unresolved i st₂ h₂)

  once_more : (bs : List Scope.VarInfo) (b : Scope.VarInfo) → Single (ids bs) → Scope.has_in b.id bs ≡ false → Single (ids (bs ++ (b ∷ [])))
  once_more bs b h e = subst Single (sym (ids-append bs b)) (single-append (ids bs) b.id h (sym (has-mem b.id bs) ∙ e))

  ok-append : (b : Scope.VarInfo) → OkB b → (st : Scope.Stack) → Fresh b.id st → OkSt st → OkSt (Scope.append b st)
  ok-append b k [] e h = tt
  ok-append b k (s ∷ st) e h = ((all_append OkB s.bindings b h.0.0 k, h.0.1, once_more s.bindings b h.0.2 e), h.1)

  pub ok-add_write : (i : ℕ) (g force : Bool) → OkId i → (st : Scope.Stack) → OkSt st → OkSt (Scope.add_write i g force st)
  unfolding Scope.add_write
  ok-add_write i g force k st h =
      let st₁ = pick (Scope.write_prevents_inline i st) (Scope.prevent_inline i st) st in
      let st₂ = pick g (Scope.prevent_inline_of_params st₁) st₁ in
      let st₃ = Scope.change i Scope.defined st₂ in
      let new = Scope.append (Scope.fresh i Scope.v_var none force false none) st₂ in
      let h₁ = pick-ok OkSt (Scope.write_prevents_inline i st) (Scope.prevent_inline i st) st (ok-prevent i st h) h in
      let h₂ = pick-ok OkSt g (Scope.prevent_inline_of_params st₁) st₁ (ok-params st₁ h₁) h₁ in
      let h₃ = ok-change i Scope.defined (λ b. refl) (λ b l. l) st₂ h₂ in
      let w = Scope.scope_for true i st₂ in
      pick_known OkSt w.0 (pick (not w.1 || force) (Scope.prevent_inline i st₃) st₃) (pick (Scope.has_constant i st₂) st₂ new)
      (λ e. pick-ok OkSt (not w.1 || force) (Scope.prevent_inline i st₃) st₃ (ok-prevent i st₃ h₃) h₃)
      (λ e. pick-ok OkSt (Scope.has_constant i st₂) st₂ new h₂ (ok-append (Scope.fresh i Scope.v_var none force false none) (k, tt) st₂ (unbound true i st₂ e) h₂))

  pub ok-barrier : (st : Scope.Stack) → OkSt st → OkSt (Scope.store_inline_barrier st)
  ok-barrier [] h = tt
  ok-barrier (s ∷ st) h = (h.0, ok-barrier st h.1)

  pub ok-sensitive : (i : Option ℕ) (st : Scope.Stack) → OkSt st → OkSt (Scope.mark_this_sensitive i st)
  ok-sensitive none st h = h
  ok-sensitive (some i) st h = ok-change i Scope.sensitive_now (λ b. refl) (λ b k. k) st h

  -- declare
  abbrev pub OkInit : Scope.Init → Type 0
  OkInit Scope.no_init = Unit {0}
  OkInit (Scope.recorded t) = OkT t
  OkInit (Scope.seen t) = OkT t

  ok-kept : (v : Scope.Init) (old : Option Tree) → OkInit v → OkO old → OkO (Scope.kept v old)
  ok-kept Scope.no_init old h k = tt
  ok-kept (Scope.recorded t) old h k = h
  ok-kept (Scope.seen t) old h k = k

  ok-value : (b : Option Scope.VarInfo) → OkOB b → OkO (Scope.value_o b)
  ok-value none h = tt
  ok-value (some b) h = h.1

  ok-prevent_o : (i : Option ℕ) (st : Scope.Stack) → OkSt st → OkSt (Scope.prevent_inline_o i st)
  ok-prevent_o none st h = h
  ok-prevent_o (some i) st h = ok-prevent i st h

  pub ok-declare : (again : Bool) (i : ℕ) (v : Scope.Init) (u : Bool) (k : Scope.VarType) → OkId i → OkInit v → (st : Scope.Stack) → OkSt st → OkSt (Scope.declare again i v u k st)
  unfolding Scope.declare
  ok-declare again i v u k g w [] h = tt
  ok-declare again i v u k g w (s ∷ st) h =
      let e = Scope.init_of v in
      let target = Scope.idx_val_o (Scope.ident_of e) s.bindings in
      let al = Scope.alias_from target in
      let p = again || Scope.should_prevent_inline_because_of_scope i (s ∷ st) || Scope.prevented_o e (s ∷ st) in
      let idx = Scope.place_or (length s.bindings) (Scope.idx_val 0 i s.bindings) in
      let old = Scope.find_in i s.bindings in
      let f = Scope.redeclare p u (Scope.kept v (Scope.value_o old)) in
      let b = Scope.fresh i k al p u (Scope.kept v none) in
      let new = pick (Scope.is_some old) (Scope.change_in i f s.bindings) (s.bindings ++ (b ∷ [])) in
      let st₁ : Scope.Stack = Scope.on_bindings (λ bs. new) s ∷ st in
      let st₂ = pick (Scope.in_loop (s ∷ st)) (Scope.prevent_inline i st₁) st₁ in
      let works = not (Scope.is_param k) && not (Scope.param_o al) in
      let hn = pick-ok (All OkB) (Scope.is_some old) (Scope.change_in i f s.bindings) (s.bindings ++ (b ∷ []))
      (ok-change_in i f (λ c l. (l.0, ok-kept v (Scope.value_o old) w (ok-value old (ok_in i s.bindings h.0.0)))) s.bindings h.0.0)
      (all_append OkB s.bindings b h.0.0 (g, ok-kept v none w tt)) in
      let hs = pick_known (λ (bs : List Scope.VarInfo). Single (ids bs)) (Scope.is_some old) (Scope.change_in i f s.bindings) (s.bindings ++ (b ∷ []))
      (λ e. subst Single (sym (ids-change f (λ c. refl) i s.bindings)) h.0.2) (λ e. once_more s.bindings b h.0.2 e) in
      let h₁ : OkSt st₁ = ((hn, h.0.1, hs), h.1) in
      let h₂ = pick-ok OkSt (Scope.in_loop (s ∷ st)) (Scope.prevent_inline i st₁) st₁ (ok-prevent i st₁ h₁) h₁ in
      pick-ok OkSt (works && Scope.barred target idx s.inline_barriers) (Scope.prevent_inline_o (Scope.ident_of e) (Scope.prevent_inline i st₂)) st₂
      (ok-prevent_o (Scope.ident_of e) (Scope.prevent_inline i st₂) (ok-prevent i st₂ h₂)) h₂

  -- close
  ok-put : (c : Scope.VarInfo) → OkB c → (bs : List Scope.VarInfo) → All OkB bs → All OkB (Scope.put c bs)
  ok-put c k [] h = (k, tt)
  ok-put c k (b ∷ bs) h = elim-ok (All OkB) (eqb b.id c.id) (c ∷ bs) (b ∷ Scope.put c bs) (k, h.1) (h.0, ok-put c k bs h.1)

  ok-hoist : (us : ℕ → Bool) (cs bs : List Scope.VarInfo) → All OkB cs → All OkB bs → All OkB (Scope.hoist_all us cs bs)
  ok-hoist us [] bs h k = k
  ok-hoist us (c ∷ cs) bs h k = ok-hoist us cs (pick (Scope.is_var c.kind) (Scope.put (Scope.hoist us c) bs) bs) h.1
      (pick-ok (All OkB) (Scope.is_var c.kind) (Scope.put (Scope.hoist us c) bs) bs (ok-put (Scope.hoist us c) (h.0.0, tt) bs k) k)

  single-hoist : (us : ℕ → Bool) (cs bs : List Scope.VarInfo) → Single (ids bs) → Single (ids (Scope.hoist_all us cs bs))
  single-hoist us [] bs h = h
  single-hoist us (c ∷ cs) bs h = single-hoist us cs (pick (Scope.is_var c.kind) (Scope.put (Scope.hoist us c) bs) bs)
      (pick-ok (λ (ds : List Scope.VarInfo). Single (ids ds)) (Scope.is_var c.kind) (Scope.put (Scope.hoist us c) bs) bs (single-put (Scope.hoist us c) bs h) h)

  pub ok-close : (st : Scope.Stack) → OkSt st → OkSt (Scope.close st)
  unfolding Scope.close
  ok-close [] h = tt
  ok-close (c ∷ []) h = tt
  ok-close (c ∷ s ∷ st) h =
      let us : ℕ → Bool = λ j. c.unresolved_usages j || s.unresolved_usages j in
      ((pick-ok (All OkB) (Scope.is_fn c.kind) s.bindings (Scope.hoist_all us c.bindings s.bindings) h.1.0.0 (ok-hoist us c.bindings s.bindings h.0.0 h.1.0.0), h.1.0.1, pick-ok (λ (bs : List Scope.VarInfo). Single (ids bs)) (Scope.is_fn c.kind) s.bindings (Scope.hoist_all us c.bindings s.bindings) h.1.0.2 (single-hoist us c.bindings s.bindings h.1.0.2)), h.1.1)

  -- as a law of the walks
  abbrev pub keeps : Law
  keeps = record { Inv = λ s. OkSt s.stack; Move = λ m s n s'. Unit {0}; Good = λ p t. OkT t; Val = OkT; Rel = λ t u. Unit {0}; Id = OkId; Stop = λ n. Unit {0}; Tells = ⊥ }

  goods : (p : ℕ) (ts : Forest) → OkF ts → GF keeps p ts
  goods p nil o = tt
  goods p (cons t ts) o = (o.0, goods p ts o.1)

  okays : (p : ℕ) (ts : Forest) → GF keeps p ts → OkF ts
  okays p nil o = tt
  okays p (cons t ts) o = (o.0, okays p ts o.1)

  vals : (ts : Forest) → OkF ts → VF keeps ts
  vals nil o = tt
  vals (cons t ts) o = (o.0, vals ts o.1)

  id-of : (t : Tree) → OkT t → T (eqb (kind t) 20 || eqb (kind t) 21) → OkId (num t)
  id-of (node k f a ts) o h = go (eqb k 20) refl (eqb k 21) refl h
    where
      go : (p : Bool) → eqb k 20 ≡ p → (q : Bool) → eqb k 21 ≡ q → T (p || q) → OkId a
      go true e q d h = record { flag = unflagged f; ok = to-ident f a (subst (λ (m : ℕ). N m f a) (eqb→eq k 20 (is_T _ e)) o.0) }
      go false e true d h = record { flag = f; ok = subst (λ (m : ℕ). N m f a) (eqb→eq k 21 (is_T _ d)) o.0 }
      go false e false d h = absurd h

  ident-ok : (t : Tree) → OkT t → T (eqb (kind t) 20) → OkT (Walk.as_ident t)
  ident-ok (node k f a ts) o h = (to-ident f a (subst (λ (m : ℕ). N m f a) (eqb→eq k 20 h) o.0), o.1)

  of-value : (v : Option Tree) → OkO v → VO keeps v
  of-value none o = tt
  of-value (some t) o = o

  of-binding : (b : Option Scope.VarInfo) → OkOB b → VB keeps b
  of-binding none o = tt
  of-binding (some b) o = of-value b.value o.1

  to-value : (v : Option Tree) → VO keeps v → OkO v
  to-value none o = tt
  to-value (some t) o = o

  to-init : (v : Scope.Init) → VI keeps v → OkInit v
  to-init Scope.no_init o = tt
  to-init (Scope.recorded t) o = o
  to-init (Scope.seen t) o = o

  pub kept : Effects keeps
  unfolding Walk.restore
  kept = record {
    s-refl = λ n s. tt;
    s-trans = λ l m n a b c h k. tt;
    s-frame = λ k m n a b h. tt;
    q-refl = λ t. tt;
    q-trans = λ t u v h k. tt;
    eight = tt;
    nine = tt;
    kids = λ p k f a ts o. goods (suc p) ts o.1;
    around = λ p k f a ts us o h q e. ((o.0, okays (suc p) us h), tt);
    body = λ p k f a ts e. absurd e;
    init = λ p k f a n es e o. vals es o.1.1;
    taken = λ p k f a n e es h o. ((o.0, (o.1.0, o.1.1.1)), tt);
    name = λ p t o h. id-of t o h;
    bound = λ p t o h. ident-ok t o h;
    cheap = λ p t o h. o;
    void = (n-void, ((n-zero, tt), tt));
    value = λ i s o. of-binding (Scope.find_binding i s.stack) (ok-find i s.stack o);
    constant = λ i s o. of-value (Scope.find_constant i s.stack) (ok-const i s.stack o);
    replaced = λ p t e o i v h. (v, tt);
    recount = λ t e s o h. (o, tt);
    leave = λ n e s o. (o, tt);
    write = λ i g force k n s o. (ok-add_write i g force k s.stack o, tt);
    declare = λ again i v u k g w n s o. (ok-declare again i v u k g (to-init v w) s.stack o, tt);
    const = λ i v g w n s o. (ok-add_const s.targeted i v (to-value v w) s.stack o, tt);
    prevent = λ i n s o. (ok-prevent i s.stack o, tt);
    read = λ i g k n s o. (ok-add_read i g s.stack o, tt);
    store = λ i v w n s o. (ok-change i (Scope.with_value v) (λ b. refl) (λ b m. (m.0, to-value v w)) s.stack o, tt);
    sensitive = λ i n s o. (ok-sensitive i s.stack o, tt);
    barrier = λ n s o. (ok-barrier s.stack o, tt);
    tally = λ i n s f o. (ok-change i Scope.count_one (λ b. refl) (λ b k. k) s.stack o, tt);
    opened = λ k s o. ((tt, tt, tt), o);
    closed = λ k m n s s' o o' h. (ok-close s'.stack o', tt);
    fields = λ n s s' e o. (subst OkSt (sym e.0) o, tt);
  }

  -- of an outcome: the tree and the root's identifiers
  abbrev pub OkOut : Walk.Outcome → Type 0
  OkOut (Walk.refused n) = Unit {0}
  OkOut (Walk.result k c t ms) = OkT t × All (λ (m : Walk.Rooted). OkId m.0) ms × Single (map (λ (m : Walk.Rooted). m.0) ms)

  roots-ok : (st : Scope.Stack) → OkSt st → All (λ (m : Walk.Rooted). OkId m.0) (Walk.root_marks st)
  roots-ok [] h = tt
  roots-ok (s ∷ []) h = go s.bindings h.0.0
    where
      go : (bs : List Scope.VarInfo) → All OkB bs → All (λ (m : Walk.Rooted). OkId m.0) (map (λ (b : Scope.VarInfo). (b.id, b.inline_prevented, b.count)) bs)
      go [] k = tt
      go (b ∷ bs) k = (k.0.0, go bs k.1)
  roots-ok (s ∷ p ∷ st) h = roots-ok (p ∷ st) h.1

  roots-single : (st : Scope.Stack) → OkSt st → Single (map (λ (m : Walk.Rooted). m.0) (Walk.root_marks st))
  roots-single [] h = tt
  roots-single (s ∷ []) h = subst Single (sym (go s.bindings)) h.0.2
    where
      go : (bs : List Scope.VarInfo) → map (λ (m : Walk.Rooted). m.0) (map (λ (b : Scope.VarInfo). (b.id, b.inline_prevented, b.count)) bs) ≡ ids bs
      go [] = refl
      go (b ∷ bs) = rw (go bs) refl
  roots-single (s ∷ p ∷ st) h = roots-single (p ∷ st) h.1

  out-ok : (t : Tree) (s : St) (o : Walk.Outcome) → Passed keeps t s o → OkOut o
  out-ok t s (Walk.refused n) e = tt
  out-ok t s (Walk.result k c u ms) e = (e.good, subst (All (λ (m : Walk.Rooted). OkId m.0)) (sym e.roots) (roots-ok e.last.stack e.inv), subst (λ (xs : List Walk.Rooted). Single (map (λ (m : Walk.Rooted). m.0) xs)) (sym e.roots) (roots-single e.last.stack e.inv))

  -- with bindings flagged, where N looks at no binding's form
  module _ (any-form : (f g a : ℕ) → N 20 f a → N 20 g a) where
    flag-node : (k f g a : ℕ) (c : Bool) → N k f a → N k (pick (eqb k 20 && c) g f) a
    flag-node k f g a c h = go (eqb k 20) refl c
      where
        go : (p : Bool) → eqb k 20 ≡ p → (c : Bool) → N k (pick (p && c) g f) a
        go true e true = subst (λ (m : ℕ). N m g a) (sym (eqb→eq k 20 (is_T _ e))) (any-form f g a (subst (λ (m : ℕ). N m f a) (eqb→eq k 20 (is_T _ e)) h))
        go true e false = h
        go false e c = h

    mutual
      pub flag_ok : (b : ℕ → Bool) (t : Tree) → OkT t → OkT (flag b t)
      flag_ok b (node k f a ts) h = (
        flag-node k f (f + 2) a (b a) h.0,
        elim-ok OkF (is_function k) (elim (is_named k f) [ true ↦ flag_named b ts | false ↦ flags (twice ts) ts ]) (flags b ts) (elim-ok OkF (is_named k f) (flag_named b ts) (flags (twice ts) ts) (name-ok b ts h.1) (flags-ok (twice ts) ts h.1)) (flags-ok b ts h.1),
      )

      flags-ok : (b : ℕ → Bool) (ts : Forest) → OkF ts → OkF (flags b ts)
      flags-ok b nil h = tt
      flags-ok b (cons t ts) h = (flag_ok b t h.0, flags-ok b ts h.1)

      name-ok : (b : ℕ → Bool) (ts : Forest) → OkF ts → OkF (flag_named b ts)
      name-ok b nil h = tt
      name-ok b (cons t ts) h = (flag_ok b t h.0, flags-ok (twice ts) ts h.1)

  -- the pass keeps N
  pub pass-ok : (n : ℕ) (t : Tree) → OkT (flagged t) → OkOut (Walk.core_pass n t)
  pass-ok n t o = out-ok (flagged t) (Walk.start t) (Walk.core_pass n t) (pass-does keeps kept n t o ((tt, tt, tt), tt))
