-- A test's two branches. Assumes nothing.
use mathlib.Core.Path.{◌≡◌, refl}
use mathlib.Core.Bool.{Bool, true, false}
use Rattle.def_tree.specs.Base.{pick}

pub pick-ok : {A : Type 0} (P : A → Type 0) (c : Bool) (x y : A) → P x → P y → P (pick c x y)
pick-ok P true x y h k = h
pick-ok P false x y h k = k

pub pick_known : {A : Type 0} (P : A → Type 0) (c : Bool) (x y : A) → (c ≡ true → P x) → (c ≡ false → P y) → P (pick c x y)
pick_known P true x y h k = h refl
pick_known P false x y h k = k refl

pub elim-ok : {A : Type 0} (P : A → Type 0) (c : Bool) (x y : A) → P x → P y → P (elim c [ true ↦ x | false ↦ y ])
elim-ok P true x y h k = h
elim-ok P false x y h k = k
