-- What the open scopes have in their bindings and constants, measured scope by scope: if marks, changes that keep a binding's count, and a new binding with count 0 keep it,
-- then every step does but those that add a constant, count a replacement or end a scope. Assumes nothing.
use mathlib.Core.Path.{◌≡◌, refl, ap, ◌∙◌}
use mathlib.Core.Bool.{Bool, true, false, ◌&&◌, not, ◌||◌}
use mathlib.Core.Option.{Option, none, some}
use mathlib.Core.List.{List, [], ◌∷◌, ◌++◌, map}
use Prim.Native.Nat.{ℕ}
use lib.Dec.{eqb}
use lib.ListN.{length}
use Rattle.def_tree.specs.Base.{pick}
use Rattle.def_pass.specs.Tree.{Tree}
use Rattle.def_pass.specs.Scope as Scope
use Rattle.def_pass.specs.Scope.{VarInfo, Stack}

abbrev pub Const : Type 0
Const = ℕ × Option Tree

-- of one scope
pub record Kept {X : Type 0} (m : List VarInfo → List Const → X) : Type 0 where
  pub mapped : (f : VarInfo → VarInfo) → ((b : VarInfo) → (f b).count ≡ b.count) → (bs : List VarInfo) (cs : List Const) → m (map f bs) cs ≡ m bs cs
  pub changed : (i : ℕ) (f : VarInfo → VarInfo) → ((b : VarInfo) → (f b).count ≡ b.count) → (bs : List VarInfo) (cs : List Const) → m (Scope.change_in i f bs) cs ≡ m bs cs
  pub appended : (b : VarInfo) → b.count ≡ 0 → (bs : List VarInfo) (cs : List Const) → m (bs ++ (b ∷ [])) cs ≡ m bs cs

pick-count : (c : Bool) (x b : VarInfo) → x.count ≡ b.count → (pick c x b).count ≡ b.count
pick-count true x b e = e
pick-count false x b e = refl

module _ {X : Type 0} (m : List VarInfo → List Const → X) where
  -- of each open scope
  abbrev pub all : Stack → List X
  all [] = []
  all (s ∷ st) = m s.bindings s.constants ∷ all st

  same-pick : (c : Bool) (x y : Stack) {k : List X} → all x ≡ k → all y ≡ k → all (pick c x y) ≡ k
  same-pick true x y h k = h
  same-pick false x y h k = k

  module _ (K : Kept m) where
    pub same-prevent : (i : ℕ) (st : Stack) → all (Scope.prevent_inline i st) ≡ all st
    same-prevent i [] = refl
    same-prevent i (s ∷ st) =
        let e = K.mapped (Scope.prevent_one i) (λ b. pick-count (eqb b.id i || Scope.value_is i b.value) (Scope.prevent b) b refl) s.bindings s.constants in
        ap (λ (x : X). x ∷ all (Scope.prevent_inline i st)) e ∙ ap (λ (l : List X). m s.bindings s.constants ∷ l) (same-prevent i st)

    same_params : (st : Stack) → all (Scope.prevent_inline_of_params st) ≡ all st
    same_params [] = refl
    same_params (s ∷ st) =
        let e = K.mapped Scope.prevent_param (λ b. pick-count (Scope.is_param b.kind) (Scope.prevent b) b refl) s.bindings s.constants in
        ap (λ (x : X). x ∷ all (elim (Scope.is_fn s.kind) [ true ↦ st | false ↦ Scope.prevent_inline_of_params st ])) e ∙ ap (λ (l : List X). m s.bindings s.constants ∷ l) (go (Scope.is_fn s.kind) (same_params st))
      where
        go : (c : Bool) → all (Scope.prevent_inline_of_params st) ≡ all st → all (elim c [ true ↦ st | false ↦ Scope.prevent_inline_of_params st ]) ≡ all st
        go true h = refl
        go false h = h

    pub same-change : (i : ℕ) (f : VarInfo → VarInfo) → ((b : VarInfo) → (f b).count ≡ b.count) → (st : Stack) → all (Scope.change i f st) ≡ all st
    same-change i f e [] = refl
    same-change i f e (s ∷ st) = go (Scope.has_in i s.bindings) (same-change i f e st)
      where
        go : (c : Bool) → all (Scope.change i f st) ≡ all st → all (elim c [ true ↦ Scope.on_bindings (Scope.change_in i f) s ∷ st | false ↦ s ∷ Scope.change i f st ]) ≡ m s.bindings s.constants ∷ all st
        go true h = ap (λ (x : X). x ∷ all st) (K.changed i f e s.bindings s.constants)
        go false h = ap (λ (l : List X). m s.bindings s.constants ∷ l) h

    same-unresolved : (i : ℕ) (st : Stack) → all (Scope.add_unresolved i st) ≡ all st
    same-unresolved i [] = refl
    same-unresolved i (s ∷ st) = refl

    same-append : (b : VarInfo) → b.count ≡ 0 → (st : Stack) → all (Scope.append b st) ≡ all st
    same-append b e [] = refl
    same-append b e (s ∷ st) = ap (λ (x : X). x ∷ all st) (K.appended b e s.bindings s.constants)

    -- what add_read and add_write do first
    same_first : (a g : Bool) (i : ℕ) (st : Stack) → (let st₁ = pick a (Scope.prevent_inline i st) st in all (pick g (Scope.prevent_inline_of_params st₁) st₁)) ≡ all st
    same_first a g i st =
        let st₁ = pick a (Scope.prevent_inline i st) st in
        let h = same-pick a (Scope.prevent_inline i st) st (same-prevent i st) refl in
        same-pick g (Scope.prevent_inline_of_params st₁) st₁ (same_params st₁ ∙ h) h

    pub same_read : (i : ℕ) (g : Bool) (st : Stack) → all (Scope.add_read i g st) ≡ all st
    unfolding Scope.add_read
    same_read i g st =
        let st₁ = pick (Scope.read_prevents_inlining i st) (Scope.prevent_inline i st) st in
        let st₂ = pick g (Scope.prevent_inline_of_params st₁) st₁ in
        let h = same_first (Scope.read_prevents_inlining i st) g i st in
        same-pick (Scope.is_some (Scope.find_binding i st₂)) (Scope.change i Scope.count_read st₂) (Scope.add_unresolved i st₂) (same-change i Scope.count_read (λ b. refl) st₂ ∙ h) (same-unresolved i st₂ ∙ h)

    pub same_write : (i : ℕ) (g force : Bool) (st : Stack) → all (Scope.add_write i g force st) ≡ all st
    unfolding Scope.add_write
    same_write i g force st =
        let st₁ = pick (Scope.write_prevents_inline i st) (Scope.prevent_inline i st) st in
        let st₂ = pick g (Scope.prevent_inline_of_params st₁) st₁ in
        let st₃ = Scope.change i Scope.defined st₂ in
        let new = Scope.append (Scope.fresh i Scope.v_var none force false none) st₂ in
        let w = Scope.scope_for true i st₂ in
        let h = same_first (Scope.write_prevents_inline i st) g i st in
        let h₃ = same-change i Scope.defined (λ b. refl) st₂ ∙ h in
        same-pick w.0 (pick (not w.1 || force) (Scope.prevent_inline i st₃) st₃) (pick (Scope.has_constant i st₂) st₂ new)
        (same-pick (not w.1 || force) (Scope.prevent_inline i st₃) st₃ (same-prevent i st₃ ∙ h₃) h₃)
        (same-pick (Scope.has_constant i st₂) st₂ new h (same-append (Scope.fresh i Scope.v_var none force false none) refl st₂ ∙ h))

    pub same-barrier : (st : Stack) → all (Scope.store_inline_barrier st) ≡ all st
    same-barrier [] = refl
    same-barrier (s ∷ st) = ap (λ (l : List X). m s.bindings s.constants ∷ l) (same-barrier st)

    pub same-sensitive : (i : Option ℕ) (st : Stack) → all (Scope.mark_this_sensitive i st) ≡ all st
    same-sensitive none st = refl
    same-sensitive (some i) st = same-change i Scope.sensitive_now (λ b. refl) st

    same-prevent_o : (i : Option ℕ) (st : Stack) → all (Scope.prevent_inline_o i st) ≡ all st
    same-prevent_o none st = refl
    same-prevent_o (some i) st = same-prevent i st

    pub same-declare : (again : Bool) (i : ℕ) (v : Scope.Init) (u : Bool) (k : Scope.VarType) (st : Stack) → all (Scope.declare again i v u k st) ≡ all st
    unfolding Scope.declare
    same-declare again i v u k [] = refl
    same-declare again i v u k (s ∷ st) =
        let e = Scope.init_of v in
        let target = Scope.idx_val_o (Scope.ident_of e) s.bindings in
        let al = Scope.alias_from target in
        let p = again || Scope.should_prevent_inline_because_of_scope i (s ∷ st) || Scope.prevented_o e (s ∷ st) in
        let idx = Scope.place_or (length s.bindings) (Scope.idx_val 0 i s.bindings) in
        let old = Scope.find_in i s.bindings in
        let f = Scope.redeclare p u (Scope.kept v (Scope.value_o old)) in
        let b = Scope.fresh i k al p u (Scope.kept v none) in
        let new = pick (Scope.is_some old) (Scope.change_in i f s.bindings) (s.bindings ++ (b ∷ [])) in
        let st₁ : Stack = Scope.on_bindings (λ bs. new) s ∷ st in
        let st₂ = pick (Scope.in_loop (s ∷ st)) (Scope.prevent_inline i st₁) st₁ in
        let works = not (Scope.is_param k) && not (Scope.param_o al) in
        let h₁ : all st₁ ≡ all (s ∷ st) = ap (λ (x : X). x ∷ all st) (one (Scope.is_some old) f (λ c. refl) b refl) in
        let h : all st₂ ≡ all (s ∷ st) = same-pick (Scope.in_loop (s ∷ st)) (Scope.prevent_inline i st₁) st₁ (same-prevent i st₁ ∙ h₁) h₁ in
        same-pick (works && Scope.barred target idx s.inline_barriers) (Scope.prevent_inline_o (Scope.ident_of e) (Scope.prevent_inline i st₂)) st₂
        (same-prevent_o (Scope.ident_of e) (Scope.prevent_inline i st₂) ∙ same-prevent i st₂ ∙ h) h
      where
        one : (c : Bool) (f : VarInfo → VarInfo) → ((b : VarInfo) → (f b).count ≡ b.count) → (b : VarInfo) → b.count ≡ 0 → m (pick c (Scope.change_in i f s.bindings) (s.bindings ++ (b ∷ []))) s.constants ≡ m s.bindings s.constants
        one true f e b z = K.changed i f e s.bindings s.constants
        one false f e b z = K.appended b z s.bindings s.constants
