-- What the C function of the pass answers, and what it leaves in both buffers, by the definition's entry. Assumes nothing: these are definitions.
use Rattle.std.specs.Prelude.{◌≡◌, List, ◌++◌, ℕ, length, drop, Result, Ok, Err}
use Rattle.def_tree.specs.Base.{to_nat}
use Rattle.def_pass.specs.Entry.{Entry, refused, passed, enough, entry}
use Rattle.file_copy.specs.Copy.{WordsAre}
use Rattle.refusal.specs.declared.Refusal.{Refusal}
use Rattle.refusal.specs.Number.{number}
use Rattle.pass_answers.specs.declared.Done.{Done}
use Rattle.pass_answers.specs.declared.Inlined.{Inlined}

-- the four numbers of an answer
abbrev pub numbers : Entry → Inlined
numbers (refused m) = record { refused = m; length = 0; runs = 0; changed = 0 }
numbers (passed n k c out rs) = record { refused = 0; length = n; runs = k; changed = to_nat c }

-- the same of the answer that they are made of
abbrev pub inlined : Result Done Refusal → Inlined
inlined (Ok d) = record { refused = 0; length = d.length; runs = d.runs; changed = to_nat d.changed }
inlined (Err r) = record { refused = number r; length = 0; runs = 0; changed = 0 }

-- the result buffer r after an answer: a refusal leaves it as it was, and the bytes behind the result stay
abbrev pub left : List ℕ → Entry → List ℕ
left r (refused m) = r
left r (passed n k c out rs) = out ++ drop n r

-- for all arguments; the words are kept by row 1, and after all else the first 16,384 are 0 and those past them kept
pub record InlineIs (bs r r' w w' : List ℕ) (runs : ℕ) (c : Inlined) : Type 0 where
  pub answer : c ≡ numbers (entry runs (length w) bs (length r))
  pub result : r' ≡ left r (entry runs (length w) bs (length r))
  pub words : WordsAre w w' (enough runs (length w))
