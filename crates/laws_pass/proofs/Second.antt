-- A declare with the flag leaves the current scope's binding marked. Assumes nothing.
use mathlib.Core.Path.{◌≡◌, refl, sym, ap, ap₂, ◌∙◌, subst}
use mathlib.Core.Bool.{Bool, true, false, ◌&&◌, ◌||◌, not}
use mathlib.Core.Option.{Option, none, some}
use mathlib.Core.List.{List, [], ◌∷◌, ◌++◌, map}
use Prim.Native.Nat.{ℕ, ◌+◌}
use lib.Dec.{T, eqb, ltb, eqb_refl, eqb→eq}
use lib.ListN.{length}
use Rattle.def_tree.specs.Base.{pick}
use Rattle.def_tree.specs.Tree.{length_f, Core, core, flat, flats}
use Rattle.def_tree.specs.Combine.{Res, stop, done, Nothing}
use Rattle.def_file.specs.Script.{Script}
use Rattle.def_file.specs.Core.{Out, back}
use Rattle.def_pass.specs.Tree.{Tree, Forest, node, nil, cons, form, num, kids}
use Rattle.def_pass.specs.Twice.{is_twice, is_function, is_named, twice, flag, flags, flag_named}
use Rattle.def_pass.specs.Scope as Scope
use Rattle.def_pass.specs.Scope.{VarInfo, Stack}
use Rattle.def_pass.specs.Walk as Walk
use Rattle.def_pass.specs.Walk.{St}
use Rattle.laws_pass.specs.Second.{Marked, DeclareMarks, FlaggedMarked, FlagsUnseen}
use Rattle.def_tree.proofs.Tests.{is_true, is_T}
use Rattle.laws_pass.proofs.Flags.{flag-length, named-length}
use Rattle.laws_pass.proofs.Tests.{pick-ok, pick_known, elim-ok}

-- of the bindings of a scope
abbrev In : ℕ → List VarInfo → Type 0
In i bs = Scope.mark_of (Scope.find_in i bs) ≡ true

changed : (i : ℕ) (f : VarInfo → VarInfo) → ((b : VarInfo) → (f b).id ≡ b.id) → ((b : VarInfo) → (f b).inline_prevented ≡ true) → (bs : List VarInfo) → Scope.has_in i bs ≡ true → In i (Scope.change_in i f bs)
changed i f same marks [] h = h
changed i f same marks (b ∷ bs) h = go (eqb b.id i) refl h (changed i f same marks bs)
  where
    go : (p : Bool) → eqb b.id i ≡ p → Scope.is_some {A = VarInfo} (elim p [ true ↦ some b | false ↦ Scope.find_in i bs ]) ≡ true → (Scope.has_in i bs ≡ true → In i (Scope.change_in i f bs)) → In i (elim p [ true ↦ f b ∷ bs | false ↦ b ∷ Scope.change_in i f bs ])
    go true e h k = ap {B = Bool} (λ (q : Bool). Scope.mark_of (elim q [ true ↦ some (f b) | false ↦ Scope.find_in i bs ])) (ap (λ (n : ℕ). eqb n i) (same b) ∙ e) ∙ marks b
    go false e h k = ap {B = Bool} (λ (q : Bool). Scope.mark_of (elim q [ true ↦ some b | false ↦ Scope.find_in i (Scope.change_in i f bs) ])) e ∙ k h

added : (b : VarInfo) → b.inline_prevented ≡ true → (bs : List VarInfo) → Scope.has_in b.id bs ≡ false → In b.id (bs ++ (b ∷ []))
added b m [] h = ap {B = Bool} (λ (q : Bool). Scope.mark_of (elim q [ true ↦ some b | false ↦ none ])) (is_true (eqb b.id b.id) (eqb_refl b.id)) ∙ m
added b m (c ∷ bs) h = go (eqb c.id b.id) h (added b m bs)
  where
    go : (p : Bool) → Scope.is_some {A = VarInfo} (elim p [ true ↦ some c | false ↦ Scope.find_in b.id bs ]) ≡ false → (Scope.has_in b.id bs ≡ false → In b.id (bs ++ (b ∷ []))) → Scope.mark_of (elim p [ true ↦ some c | false ↦ Scope.find_in b.id (bs ++ (b ∷ [])) ]) ≡ true
    go true h k = absurd (subst T h tt)
    go false h k = k h

-- marks stay
prevented : (i j : ℕ) (bs : List VarInfo) → In i bs → In i (map (Scope.prevent_one j) bs)
prevented i j [] h = h
prevented i j (b ∷ bs) h = go (eqb b.id j || Scope.value_is j b.value) (eqb b.id i) refl h (prevented i j bs)
  where
    go : (c p : Bool) → eqb b.id i ≡ p → Scope.mark_of (elim p [ true ↦ some b | false ↦ Scope.find_in i bs ]) ≡ true → (In i bs → In i (map (Scope.prevent_one j) bs)) → In i (pick c (Scope.prevent b) b ∷ map (Scope.prevent_one j) bs)
    go true true e h k = ap {B = Bool} (λ (q : Bool). Scope.mark_of (elim q [ true ↦ some (Scope.prevent b) | false ↦ Scope.find_in i (map (Scope.prevent_one j) bs) ])) e
    go false true e h k = ap {B = Bool} (λ (q : Bool). Scope.mark_of (elim q [ true ↦ some b | false ↦ Scope.find_in i (map (Scope.prevent_one j) bs) ])) e ∙ h
    go true false e h k = ap {B = Bool} (λ (q : Bool). Scope.mark_of (elim q [ true ↦ some (Scope.prevent b) | false ↦ Scope.find_in i (map (Scope.prevent_one j) bs) ])) e ∙ k h
    go false false e h k = ap {B = Bool} (λ (q : Bool). Scope.mark_of (elim q [ true ↦ some b | false ↦ Scope.find_in i (map (Scope.prevent_one j) bs) ])) e ∙ k h

stays : (i j : ℕ) (st : Stack) → Marked i st → Marked i (Scope.prevent_inline j st)
stays i j [] h = h
stays i j (s ∷ st) h = prevented i j s.bindings h

stays_o : (i : ℕ) (o : Option ℕ) (st : Stack) → Marked i st → Marked i (Scope.prevent_inline_o o st)
stays_o i none st h = h
stays_o i (some j) st h = stays i j st h

pub declare-marks : DeclareMarks
unfolding Scope.declare
declare-marks i v u k s st =
    let e = Scope.init_of v in
    let target = Scope.idx_val_o (Scope.ident_of e) s.bindings in
    let al = Scope.alias_from target in
    let idx = Scope.place_or (length s.bindings) (Scope.idx_val 0 i s.bindings) in
    let old = Scope.find_in i s.bindings in
    let f = Scope.redeclare true u (Scope.kept v (Scope.value_o old)) in
    let b = Scope.fresh i k al true u (Scope.kept v none) in
    let new = pick (Scope.is_some old) (Scope.change_in i f s.bindings) (s.bindings ++ (b ∷ [])) in
    let st₁ : Stack = Scope.on_bindings (λ bs. new) s ∷ st in
    let st₂ = pick (Scope.in_loop (s ∷ st)) (Scope.prevent_inline i st₁) st₁ in
    let works = not (Scope.is_param k) && not (Scope.param_o al) in
    let h₁ : Marked i st₁ = pick_known (In i) (Scope.is_some old) (Scope.change_in i f s.bindings) (s.bindings ++ (b ∷ [])) (λ e. changed i f (λ c. refl) (λ c. refl) s.bindings e) (λ e. added b refl s.bindings e) in
    let h₂ = pick-ok (Marked i) (Scope.in_loop (s ∷ st)) (Scope.prevent_inline i st₁) st₁ (stays i i st₁ h₁) h₁ in
    pick-ok (Marked i) (works && Scope.barred target idx s.inline_barriers) (Scope.prevent_inline_o (Scope.ident_of e) (Scope.prevent_inline i st₂)) st₂
    (stays_o i (Scope.ident_of e) (Scope.prevent_inline i st₂) (stays i i st₂ h₂)) h₂

-- within row 9 the scopes are as `f` left them
grown : (f : Stack → Stack) (s s' : St) → Walk.grow f s ≡ done s' tt → f s.stack ≡ s'.stack
grown f s s' = go (ltb 512 (Scope.recorded_nodes (f s.stack)) || ltb 256 (Scope.live (f s.stack)))
  where
    go : (b : Bool) → elim b as (λ x. Res St Nothing) [ true ↦ stop 9 | false ↦ done (Walk.set_stack (f s.stack) s) tt ] ≡ done s' tt → f s.stack ≡ s'.stack
    go true e = absurd (subst (λ (x : Res St Nothing). elim x as (λ y. Type 0) [ stop n ↦ Unit {0} | done a b ↦ ⊥ ]) e tt)
    go false e = ap (λ (x : Res St Nothing). elim x as (λ y. Stack) [ stop n ↦ s'.stack | done a b ↦ a.stack ]) e

pub flagged-marked : FlaggedMarked
unfolding Walk.declare_m
flagged-marked name h v c k s s' o os q e =
    let u = Scope.is_var s.var_decl_kind && not c && Walk.no_value v && s.inlining in
    subst (Marked (num name)) (grown (Scope.declare (is_twice (form name)) (num name) v u k) s s' e)
    (subst (λ (b : Bool). Marked (num name) (Scope.declare b (num name) v u k s.stack)) (sym h) (subst (λ (st : Stack). Marked (num name) (Scope.declare true (num name) v u k st)) (sym q) (declare-marks (num name) v u k o os)))

-- the way back to file nodes passes over a binding's form
module _ (s : Script) where
  abbrev backs : List Core → List Out
  backs cs = map (back s) cs

  unseen-node : (k f g n a : ℕ) (c : Bool) → back s (core k (pick (eqb k 20 && c) g f) n a) ≡ back s (core k f n a)
  unfolding back
  unseen-node k f g n a c = go (eqb k 20) refl
    where
      go : (p : Bool) → eqb k 20 ≡ p → back s (core k (pick (p && c) g f) n a) ≡ back s (core k f n a)
      go true e = subst (λ (j : ℕ). back s (core j (pick c g f) n a) ≡ back s (core j f n a)) (sym (eqb→eq k 20 (is_T (eqb k 20) e))) refl
      go false e = refl

  mutual
    unseen : (b : ℕ → Bool) (t : Tree) (xs ys : List Core) → backs xs ≡ backs ys → backs (flat (flag b t) xs) ≡ backs (flat t ys)
    unseen b (node k f a ts) xs ys h =
        let inside : Forest = elim (is_named k f) [ true ↦ flag_named b ts | false ↦ flags (twice ts) ts ] in
        let us : Forest = elim (is_function k) [ true ↦ inside | false ↦ flags b ts ] in
        go us (elim-ok Same (is_function k) inside (flags b ts)
        (elim-ok Same (is_named k f) (flag_named b ts) (flags (twice ts) ts) (named-length b ts, unseen-named b ts xs ys h) (flag-length (twice ts) ts, unseens (twice ts) ts xs ys h)) (flag-length b ts, unseens b ts xs ys h))
      where
        Same : Forest → Type 0
        Same us = (length_f us ≡ length_f ts) × (backs (flats us xs) ≡ backs (flats ts ys))

        go : (us : Forest) → Same us → backs (core k (pick (eqb k 20 && b a) (f + 2) f) (length_f us) a ∷ flats us xs) ≡ backs (core k f (length_f ts) a ∷ flats ts ys)
        go us p = ap₂ {C = List Out} (λ x zs. x ∷ zs) (ap (λ (n : ℕ). back s (core k (pick (eqb k 20 && b a) (f + 2) f) n a)) p.0 ∙ unseen-node k f (f + 2) (length_f ts) a (b a)) p.1

    unseens : (b : ℕ → Bool) (ts : Forest) (xs ys : List Core) → backs xs ≡ backs ys → backs (flats (flags b ts) xs) ≡ backs (flats ts ys)
    unseens b nil xs ys h = h
    unseens b (cons t ts) xs ys h = unseen b t (flats (flags b ts) xs) (flats ts ys) (unseens b ts xs ys h)

    unseen-named : (b : ℕ → Bool) (ts : Forest) (xs ys : List Core) → backs xs ≡ backs ys → backs (flats (flag_named b ts) xs) ≡ backs (flats ts ys)
    unseen-named b nil xs ys h = h
    unseen-named b (cons t ts) xs ys h = unseen b t (flats (flags (twice ts) ts) xs) (flats ts ys) (unseens (twice ts) ts xs ys h)

pub flags-unseen : FlagsUnseen
flags-unseen s t = unseen s (twice (kids t)) t [] [] refl
