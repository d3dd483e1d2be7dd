-- Demand 3 of the port: what two calls of one of its C functions on paired scripts have in common. Assumes nothing: these are definitions.
use Rattle.std.specs.Prelude.{◌≡◌, List, ℕ, leb, length}
use Rattle.std.proofs.Math.Option.{none, some}
use Rattle.def_file.specs.Script.{Script}
use Rattle.def_file.specs.Read.{script, read}
use Rattle.def_pass.specs.Script.{Answer, no!, yes!, pass_file}
use Rattle.def_pass.specs.Entry.{Entry, refused, passed}
use Rattle.def_pass.specs.Paired.{Paired, Together, AlikeRoots, AlikeEntry, Alike, Kept, file_of}
use Rattle.pass_answers.specs.declared.Inlined.{Inlined}
use Rattle.pass_answers.specs.declared.Roots.{Roots}
use Rattle.pass_answers.specs.Entry.{numbers, left, InlineIs}
use Rattle.pass_roots.specs.Listing.{Listing, listed}
use Rattle.pass_answers.specs.Roots.{RootsIs, RootIs, NthRoot, stopped, given, nth_numbers}
use Rattle.pass_answers.specs.declared.RootBinding.{RootBinding}
use Rattle.pass_roots.specs.Listing as lists
use Rattle.pass_answers.specs.Roots as roots

-- a result's file holds the nodes of the definition's result, so that a literal there has the origin of the definition's at the same number
abbrev pub Holds : Script → Answer → Entry → Type 0
Holds s x (refused m) = Unit {0}
Holds s (no! m) (passed n l d out ss) = ⊥
Holds s (yes! k c xs rs) (passed n l d out ss) = out ≡ file_of s xs

-- what a call answered and left in its result buffer are the numbers and bytes of two ends that are alike: refusals are the same, or results
-- have the same runs and mark, equally many nodes, in pairs literals of one origin or nodes whose identifiers stand together in the scripts,
-- and each literal is that of its origin; the origins are the definition's
pub record AlikeEnds (as' bs : List ℕ) (runs : ℕ) (a b : Script) (x y : Inlined) (r r' s s' : List ℕ) : Type 0 where
  pub one : Entry
  pub two : Entry
  pub one_answer : x ≡ numbers one
  pub two-answer : y ≡ numbers two
  pub one-result : r' ≡ left r one
  pub two-result : s' ≡ left s two
  pub alike : AlikeEntry a b one two
  pub one_holds : Holds a (pass_file runs as') one
  pub two-holds : Holds b (pass_file runs bs) two
  pub origins : Alike a b (pass_file runs as') (pass_file runs bs)
  pub one_kept : Kept a (pass_file runs as')
  pub two-kept : Kept b (pass_file runs bs)

-- for every pair of files of paired scripts, every run limit, and all buffers, as long as both have words enough or neither has
abbrev pub Demand3Inline : Type 0
Demand3Inline = (as' bs : List ℕ) (a b : Script) → read as' ≡ script a → read bs ≡ script b → Paired a b
    → (runs : ℕ) (r r' w w' : List ℕ) (x : Inlined) (s s' v v' : List ℕ) (y : Inlined) → leb 16384 (length w) ≡ leb 16384 (length v)
    → InlineIs as' r r' w w' runs x → InlineIs bs s s' v v' runs y → AlikeEnds as' bs runs a b x y r r' s s'

-- the root bindings pair by their places in the two lists: identifiers that stand together, and equal marks and counts; one list may fit its buffer where the other does not
abbrev pub AlikeListing : Script → Script → Listing → Listing → Type 0
AlikeListing a b (lists.refused n) (lists.refused m) = n ≡ m
AlikeListing a b (lists.refused n) (listed ss) = n ≡ 10
AlikeListing a b (listed rs) (lists.refused m) = m ≡ 10
AlikeListing a b (listed rs) (listed ss) = AlikeRoots a b rs ss

pub record AlikeLists (a b : Script) (x y : Roots) (r r' s s' : List ℕ) : Type 0 where
  pub one : Listing
  pub two : Listing
  pub one_answer : x ≡ roots.numbers one
  pub two-answer : y ≡ roots.numbers two
  pub one-roots : r' ≡ lists.left r one
  pub two-roots : s' ≡ lists.left s two
  pub alike : AlikeListing a b one two

abbrev pub Demand3Roots : Type 0
Demand3Roots = (as' bs : List ℕ) (a b : Script) → read as' ≡ script a → read bs ≡ script b → Paired a b
    → (runs : ℕ) (r r' w w' : List ℕ) (x : Roots) (s s' v v' : List ℕ) (y : Roots) → leb 16384 (length w) ≡ leb 16384 (length v)
    → RootsIs as' r r' w w' runs x → RootsIs bs s s' v v' runs y → AlikeLists a b x y r r' s s'

-- the root bindings of one number: none in both, or identifiers that stand together, with equal marks and counts
abbrev pub AlikeNth : Script → Script → NthRoot → NthRoot → Type 0
AlikeNth a b (stopped n) (stopped m) = n ≡ m
AlikeNth a b (stopped n) (given s) = ⊥
AlikeNth a b (given r) (stopped m) = ⊥
AlikeNth a b (given none) (given none) = Unit {0}
AlikeNth a b (given none) (given (some s)) = ⊥
AlikeNth a b (given (some r)) (given none) = ⊥
AlikeNth a b (given (some r)) (given (some s)) = Together a b r.key s.key × (r.mark ≡ s.mark) × (r.count ≡ s.count)

pub record AlikeBindings (a b : Script) (x y : RootBinding) : Type 0 where
  pub one : NthRoot
  pub two : NthRoot
  pub one_answer : x ≡ nth_numbers one
  pub two-answer : y ≡ nth_numbers two
  pub alike : AlikeNth a b one two

abbrev pub Demand3Root : Type 0
Demand3Root = (as' bs : List ℕ) (a b : Script) → read as' ≡ script a → read bs ≡ script b → Paired a b
    → (runs n : ℕ) (w w' : List ℕ) (x : RootBinding) (v v' : List ℕ) (y : RootBinding) → leb 16384 (length w) ≡ leb 16384 (length v)
    → RootIs as' w w' runs n x → RootIs bs v v' runs n y → AlikeBindings a b x y
