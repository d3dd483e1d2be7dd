-- Marking an identifier and its aliases a second time changes nothing, even where its binding was defined between. Assumes nothing.
use mathlib.Core.Path.{◌≡◌, refl, sym, ap, ap₂, ◌∙◌}
use mathlib.Core.Bool.{Bool, true, false, not, ◌&&◌, ◌||◌}
use mathlib.Core.List.{List, [], ◌∷◌, map}
use mathlib.Core.Option.{some}
use Prim.Native.Nat.{ℕ}
use native.Mathlib.Omega.{arith}
use lib.Dec.{eqb}
use Rattle.def_tree.specs.Base.{pick}
use Rattle.def_pass.specs.Scope.{VarInfo, Scope, Stack, is_some, find_in, has_in, value_is, on_bindings, prevent, defined, change_in, change, prevent_one, prevent_inline, prevent_inline_of_params}
use Rattle.scope_find.specs.Answers.{write_bound}

abbrev with' : Scope → List VarInfo → Scope
with' s bs = on_bindings (λ x. bs) s

never : ◌≡◌ {A = Bool} false true → ⊥
never e = let y : ◌≡◌ {A = ℕ} 0 1 = cc in omega arith

module _ (i : ℕ) where
  -- one binding
  twice-one : (b : VarInfo) → prevent_one i (prevent_one i b) ≡ prevent_one i b
  twice-one b = go (eqb b.id i || value_is i b.value) refl
    where
      go : (h : Bool) → (eqb b.id i || value_is i b.value) ≡ h → prevent_one i (pick h (prevent b) b) ≡ pick h (prevent b) b
      go true e = rw e refl
      go false e = rw e refl

  defined-one : (b : VarInfo) → prevent_one i (defined b) ≡ defined (prevent_one i b)
  defined-one b = go (eqb b.id i || value_is i b.value)
    where
      go : (h : Bool) → pick h (prevent (defined b)) (defined b) ≡ defined (pick h (prevent b) b)
      go true = refl
      go false = refl

  same_id_lem : (b : VarInfo) → (prevent_one i b).id ≡ b.id
  same_id_lem b = go (eqb b.id i || value_is i b.value)
    where
      go : (h : Bool) → (pick h (prevent b) b).id ≡ b.id
      go true = refl
      go false = refl

  -- a scope's bindings
  twice-all : (bs : List VarInfo) → map (prevent_one i) (map (prevent_one i) bs) ≡ map (prevent_one i) bs
  twice-all [] = refl
  twice-all (b ∷ bs) = ap₂ {C = List VarInfo} ◌∷◌ (twice-one b) (twice-all bs)

  has_all : (bs : List VarInfo) → has_in i (map (prevent_one i) bs) ≡ has_in i bs
  has_all [] = refl
  has_all (b ∷ bs) = go (has_all bs) (eqb (prevent_one i b).id i) (eqb b.id i) (ap (λ (m : ℕ). eqb m i) (same_id_lem b))
    where
      go : has_in i (map (prevent_one i) bs) ≡ has_in i bs → (h k : Bool) → h ≡ k → is_some {A = VarInfo} (elim h [ true ↦ some (prevent_one i b) | false ↦ find_in i (map (prevent_one i) bs) ]) ≡ is_some {A = VarInfo} (elim k [ true ↦ some b | false ↦ find_in i bs ])
      go r true true e = refl
      go r true false e = absurd (never (sym e))
      go r false true e = absurd (never e)
      go r false false e = r

  defined-all : (bs : List VarInfo) → map (prevent_one i) (change_in i defined bs) ≡ change_in i defined (map (prevent_one i) bs)
  defined-all [] = refl
  defined-all (b ∷ bs) = go (defined-all bs) (eqb b.id i) (eqb (prevent_one i b).id i) (ap (λ (m : ℕ). eqb m i) (sym (same_id_lem b)))
    where
      go : map (prevent_one i) (change_in i defined bs) ≡ change_in i defined (map (prevent_one i) bs) → (h k : Bool) → h ≡ k → map (prevent_one i) (elim h [ true ↦ defined b ∷ bs | false ↦ b ∷ change_in i defined bs ]) ≡ elim k [ true ↦ defined (prevent_one i b) ∷ map (prevent_one i) bs | false ↦ prevent_one i b ∷ change_in i defined (map (prevent_one i) bs) ]
      go r true true e = ap (λ c. c ∷ map (prevent_one i) bs) (defined-one b)
      go r true false e = absurd (never (sym e))
      go r false true e = absurd (never e)
      go r false false e = ap (λ cs. prevent_one i b ∷ cs) r

  -- all scopes
  pub twice : (st : Stack) → prevent_inline i (prevent_inline i st) ≡ prevent_inline i st
  twice [] = refl
  twice (s ∷ st) = ap₂ {C = Stack} ◌∷◌ (ap (with' s) (twice-all s.bindings)) (twice st)

  defined-then : (st : Stack) → prevent_inline i (change i defined st) ≡ change i defined (prevent_inline i st)
  defined-then [] = refl
  defined-then (s ∷ st) = go (defined-then st) (has_in i s.bindings) (has_in i (map (prevent_one i) s.bindings)) (sym (has_all s.bindings))
    where
      go : prevent_inline i (change i defined st) ≡ change i defined (prevent_inline i st) → (h k : Bool) → h ≡ k → prevent_inline i (elim h [ true ↦ on_bindings (change_in i defined) s ∷ st | false ↦ s ∷ change i defined st ]) ≡ elim k [ true ↦ on_bindings (change_in i defined) (on_bindings (map (prevent_one i)) s) ∷ prevent_inline i st | false ↦ on_bindings (map (prevent_one i)) s ∷ change i defined (prevent_inline i st) ]
      go r true true e = ap (λ bs. with' s bs ∷ prevent_inline i st) (defined-all s.bindings)
      go r true false e = absurd (never (sym e))
      go r false true e = absurd (never e)
      go r false false e = ap (λ ss. on_bindings (map (prevent_one i)) s ∷ ss) r

  -- a write that does not mark again
  pub not-again : (far marked : Bool) (st : Stack) → (marked ≡ true → prevent_inline i st ≡ st) → write_bound i (far && not marked) st ≡ write_bound i far st
  not-again true true st e = sym (defined-then st ∙ ap (change i defined) (e refl))
  not-again true false st e = refl
  not-again false m st e = refl

  -- what was marked, and no parameter after it, is marked
  pub marked-before : (p a : Bool) (st : Stack) {m : Bool} {st₁ st₂ : Stack} → m ≡ (p && not a) → st₁ ≡ pick p (prevent_inline i st) st → st₂ ≡ pick a (prevent_inline_of_params st₁) st₁ → m ≡ true → prevent_inline i st₂ ≡ st₂
  marked-before true false st e q r t = ap (prevent_inline i) (r ∙ q) ∙ twice st ∙ sym (r ∙ q)
  marked-before true true st e q r t = absurd (never (sym e ∙ t))
  marked-before false a st e q r t = absurd (never (sym e ∙ t))
