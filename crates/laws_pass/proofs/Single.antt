-- Lists in which each number stands once, and what the scopes' functions do to the identifiers of a list of bindings. Assumes nothing.
use mathlib.Core.Path.{◌≡◌, refl, sym, ap, subst}
use mathlib.Core.Bool.{Bool, true, false, ◌||◌}
use mathlib.Core.List.{List, [], ◌∷◌, ◌++◌, map}
use mathlib.Core.Option.{some}
use Prim.Native.Nat.{ℕ}
use lib.Dec.{eqb}
use borrow.Author.Tests.{eqb-true, eqb-false, ne_eqb}
use Rattle.def_tree.specs.Base.{pick}
use Rattle.def_pass.specs.Scope as Scope
use Rattle.def_pass.specs.Scope.{VarInfo}

abbrev pub mem : ℕ → List ℕ → Bool
mem i [] = false
mem i (x ∷ xs) = eqb x i || mem i xs

abbrev pub Single : List ℕ → Type 0
Single [] = Unit {0}
Single (x ∷ xs) = (mem x xs ≡ false) × Single xs

pub or_no : (p q : Bool) → (p || q) ≡ false → (p ≡ false) × (q ≡ false)
or_no true q e = (e, absurd (eqb-false 0 0 e refl))
or_no false q e = (refl, e)

pub no-sym : (i j : ℕ) → eqb i j ≡ false → eqb j i ≡ false
no-sym i j e = ne_eqb j i (λ q. eqb-false i j e (sym q))

mem-append : (i y : ℕ) (xs : List ℕ) → mem i xs ≡ false → eqb y i ≡ false → mem i (xs ++ (y ∷ [])) ≡ false
mem-append i y [] h e = rw e refl
mem-append i y (x ∷ xs) h e = (let p = or_no (eqb x i) (mem i xs) h in rw p.0 (mem-append i y xs p.1 e))

pub single-append : (xs : List ℕ) (y : ℕ) → Single xs → mem y xs ≡ false → Single (xs ++ (y ∷ []))
single-append [] y h e = (refl, tt)
single-append (x ∷ xs) y h e =
    let p = or_no (eqb x y) (mem y xs) e in
    (mem-append x y xs h.0 (no-sym x y p.0), single-append xs y h.1 p.1)

-- the identifiers of bindings
abbrev pub ids : List VarInfo → List ℕ
ids bs = map (λ (b : VarInfo). b.id) bs

pub has-mem : (i : ℕ) (bs : List VarInfo) → Scope.has_in i bs ≡ mem i (ids bs)
has-mem i [] = refl
has-mem i (b ∷ bs) = go (eqb b.id i) (has-mem i bs)
  where
    go : (p : Bool) → Scope.has_in i bs ≡ mem i (ids bs) → Scope.is_some {A = VarInfo} (elim p [ true ↦ some b | false ↦ Scope.find_in i bs ]) ≡ (p || mem i (ids bs))
    go true h = refl
    go false h = h

pub ids-append : (bs : List VarInfo) (b : VarInfo) → ids (bs ++ (b ∷ [])) ≡ ids bs ++ (b.id ∷ [])
ids-append [] b = refl
ids-append (c ∷ bs) b = ap (λ (xs : List ℕ). c.id ∷ xs) (ids-append bs b)

module _ (f : VarInfo → VarInfo) (same : (b : VarInfo) → (f b).id ≡ b.id) where
  pub ids-map : (bs : List VarInfo) → ids (map f bs) ≡ ids bs
  ids-map [] = refl
  ids-map (b ∷ bs) = rw (same b, ids-map bs) refl

  pub ids-change : (i : ℕ) (bs : List VarInfo) → ids (Scope.change_in i f bs) ≡ ids bs
  ids-change i [] = refl
  ids-change i (b ∷ bs) = go (eqb b.id i) (ids-change i bs)
    where
      go : (p : Bool) → ids (Scope.change_in i f bs) ≡ ids bs → ids (elim p [ true ↦ f b ∷ bs | false ↦ b ∷ Scope.change_in i f bs ]) ≡ b.id ∷ ids bs
      go true h = ap (λ (n : ℕ). n ∷ ids bs) (same b)
      go false h = ap (λ (xs : List ℕ). b.id ∷ xs) h

-- one of two bindings with one identifier
pub pick_id : (p : Bool) (b c : VarInfo) → b.id ≡ c.id → (pick p b c).id ≡ c.id
pick_id true b c e = e
pick_id false b c e = refl

-- a binding put in place of that of its identifier, or behind the last one
put-mem : (c : VarInfo) (bs : List VarInfo) (j : ℕ) → eqb c.id j ≡ false → mem j (ids bs) ≡ false → mem j (ids (Scope.put c bs)) ≡ false
put-mem c [] j e h = rw e refl
put-mem c (b ∷ bs) j e h = go (eqb b.id c.id) (or_no (eqb b.id j) (mem j (ids bs)) h) (put-mem c bs j e)
  where
    go : (p : Bool) → (eqb b.id j ≡ false) × (mem j (ids bs) ≡ false) → (mem j (ids bs) ≡ false → mem j (ids (Scope.put c bs)) ≡ false) → mem j (ids (elim p [ true ↦ c ∷ bs | false ↦ b ∷ Scope.put c bs ])) ≡ false
    go true q k = rw (e, q.1) refl
    go false q k = rw q.0 (k q.1)

pub single-put : (c : VarInfo) (bs : List VarInfo) → Single (ids bs) → Single (ids (Scope.put c bs))
single-put c [] h = (refl, tt)
single-put c (b ∷ bs) h = go (eqb b.id c.id) refl (single-put c bs h.1)
  where
    go : (p : Bool) → eqb b.id c.id ≡ p → Single (ids (Scope.put c bs)) → Single (ids (elim p [ true ↦ c ∷ bs | false ↦ b ∷ Scope.put c bs ]))
    go true e k = (subst (λ (n : ℕ). mem n (ids bs) ≡ false) (eqb-true b.id c.id e) h.0, h.1)
    go false e k = (put-mem c bs b.id (no-sym b.id c.id e) h.0, k)

-- where no scope has it
abbrev pub Fresh : ℕ → Scope.Stack → Type 0
Fresh i [] = Unit {0}
Fresh i (s ∷ st) = Scope.has_in i s.bindings ≡ false

abbrev found : Bool → Bool → Bool → Bool × Bool → Bool × Bool
found here c q x = elim (c || q) [ true ↦ (q, here) | false ↦ x ]

pub unbound : (here : Bool) (i : ℕ) (st : Scope.Stack) → (Scope.scope_for here i st).0 ≡ false → Fresh i st
unbound here i [] e = tt
unbound here i (s ∷ []) e = e
unbound here i (s ∷ p ∷ st) e = go (Scope.is_some (Scope.const_in i s.constants)) (Scope.has_in i s.bindings) (Scope.scope_for false i (p ∷ st)) e
  where
    go : (c q : Bool) (x : Bool × Bool) → (found here c q x).0 ≡ false → q ≡ false
    go c false x e = refl
    go true true x e = e
    go false true x e = e
