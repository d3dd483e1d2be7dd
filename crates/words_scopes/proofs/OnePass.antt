-- A pass by name and then one by value leave what one pass leaves. Assumes nothing.
use mathlib.Core.Path.{◌≡◌, refl, ◌∙◌}
use mathlib.Core.Bool.{Bool, true, false, ◌||◌}
use mathlib.Core.List.{List, [], ◌∷◌, map}
use Prim.Native.Nat.{ℕ}
use lib.Dec.{eqb}
use Rattle.def_tree.specs.Base.{pick, change_if}
use Rattle.def_tree.proofs.OnePass.{one-pass}
use Rattle.words_scopes.specs.Mark.{prevent, is_ident_of, marked, OnePass}
use Rattle.words_scopes.specs.declared.binding.Binding.{Binding}

-- the mark as a change
marked-if : (x : ℕ) (b : Binding) → change_if prevent (λ c. eqb c.id x || is_ident_of c.value x) b ≡ marked x b
marked-if x b = go (eqb b.id x) (is_ident_of b.value x) b.prevented refl
  where
    go : (n v p : Bool) → b.prevented ≡ p → pick (n || v) (prevent b) b ≡ record { id = b.id; value = b.value; prevented = (p || n) || v }
    go true true true e = refl
    go true true false e = refl
    go true false true e = refl
    go true false false e = refl
    go false true true e = refl
    go false true false e = refl
    go false false true e = rw e refl
    go false false false e = rw e refl

all-marked : (x : ℕ) (bs : List Binding) → map (change_if prevent (λ c. eqb c.id x || is_ident_of c.value x)) bs ≡ map (marked x) bs
all-marked x [] = refl
all-marked x (b ∷ bs) = rw (marked-if x b, all-marked x bs) refl

pub marks-once : OnePass
marks-once x bs = one-pass prevent (λ b. eqb b.id x) (λ b. is_ident_of b.value x) (λ b. refl) (λ b. refl) bs ∙ all-marked x bs
