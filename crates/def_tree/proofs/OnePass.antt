-- Two passes through a list that change what a test asks for are one pass with both tests: the change is made once or twice alike, and the second test
-- does not see it. Assumes nothing.
use mathlib.Core.Path.{◌≡◌, refl}
use mathlib.Core.Bool.{Bool, true, false, ◌||◌}
use mathlib.Core.List.{List, [], ◌∷◌, map}
use Rattle.def_tree.specs.Base.{pick, change_if}

module _ {A : Type 0} (f : A → A) (p q : A → Bool) (again : (x : A) → f (f x) ≡ f x) (unseen : (x : A) → q (f x) ≡ q x) where
  one : (x : A) → change_if f q (change_if f p x) ≡ change_if f (λ y. p y || q y) x
  one x = go (p x) (q x) refl
    where
      go : (a b : Bool) → q x ≡ b → change_if f q (pick a (f x) x) ≡ pick (a || b) (f x) x
      go true true e = rw (unseen x, e) (again x)
      go true false e = rw (unseen x, e) refl
      go false true e = rw e refl
      go false false e = rw e refl

  pub one-pass : (xs : List A) → map (change_if f q) (map (change_if f p) xs) ≡ map (change_if f (λ y. p y || q y)) xs
  one-pass [] = refl
  one-pass (x ∷ xs) = rw (one x, one-pass xs) refl
