-- Of the bytes that the C function of the pass leaves: every `=` of the script that stands outside an initialiser is in the result exactly once, with
-- its target, and they keep their order. `Trees` (crates/laws_pass/specs/FromFile.antt) says it of the script's tree and the result's. Assumes
-- nothing: these are definitions.
use Rattle.std.specs.Prelude.{◌≡◌, Bool, List, ◌++◌, ℕ, length, drop}
use Rattle.def_file.specs.Script.{Script}
use Rattle.def_file.specs.Read as file
use Rattle.def_file.specs.Read.{read}
use Rattle.def_tree.specs.Base.{to_nat}
use Rattle.def_pass.specs.Script.{Out, Root, yes!, pass_file}
use Rattle.def_pass.specs.Paired.{file_of}
use Rattle.laws_pass.specs.FromFile.{Trees}
use Rattle.pass_answers.specs.declared.Inlined.{Inlined}
use Rattle.pass_answers.specs.Entry.{InlineIs}

-- out is the file of what the pass makes of the script in bs, in `count` runs and with that mark; its assignments, which have their origins in the pass's own
-- answer, are the script's
pub record FileKept (bs out : List ℕ) (runs count : ℕ) (mark : Bool) : Type 0 where
  pub script : Script
  pub nodes : List Out
  pub roots : List Root
  pub is : read bs ≡ file.script script
  pub passed : pass_file runs bs ≡ yes! count mark nodes roots
  pub file : out ≡ file_of script nodes
  pub trees : Trees runs script count mark nodes

-- r' begins with such a file
pub record BytesKept (bs r r' : List ℕ) (runs : ℕ) (c : Inlined) : Type 0 where
  pub out : List ℕ
  pub mark : Bool
  pub begins : r' ≡ out ++ drop (length out) r
  pub told : c ≡ record { refused = 0; length = length out; runs = c.runs; changed = to_nat mark }
  pub kept : FileKept bs out runs c.runs mark

-- of every file, run limit and buffer, whenever the call does not refuse
abbrev pub AssignmentsStay : Type 0
AssignmentsStay = (bs r r' w w' : List ℕ) (runs : ℕ) (c : Inlined) → InlineIs bs r r' w w' runs c → c.refused ≡ 0 → BytesKept bs r r' runs c
