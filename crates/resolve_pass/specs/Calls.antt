-- What the C functions of the pass promise of a call, with so many words, but for what they leave in them. Assumes nothing: these are definitions.
use Rattle.std.specs.Prelude.{◌≡◌, List, ℕ, length}
use Rattle.def_pass.specs.Entry.{entry}
use Rattle.pass_roots.specs.Listing as lists
use Rattle.pass_answers.specs.declared.Inlined.{Inlined}
use Rattle.pass_answers.specs.declared.Roots.{Roots}
use Rattle.pass_answers.specs.Entry as entries
use Rattle.pass_answers.specs.Roots as roots
use Rattle.pass_answers.specs.Roots.{listing}

pub record PassIs (bs r r' : List ℕ) (runs words : ℕ) (c : Inlined) : Type 0 where
  pub answer : c ≡ entries.numbers (entry runs words bs (length r))
  pub result : r' ≡ entries.left r (entry runs words bs (length r))

pub record ListIs (bs r r' : List ℕ) (runs words : ℕ) (c : Roots) : Type 0 where
  pub answer : c ≡ roots.numbers (listing runs words bs (length r))
  pub roots : r' ≡ lists.left r (listing runs words bs (length r))
