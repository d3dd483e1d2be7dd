-- What reading a file and running the pass over it promise, rows 1 and 10 aside. Assumes nothing: these are definitions.
use Rattle.std.specs.Prelude.{◌≡◌, List, ℕ, length, Result, Ok, Err}
use Rattle.def_tree.specs.Combine.{Flat}
use Rattle.words.specs.Moved.{Cleared}
use Rattle.def_file.specs.Script.{Script, idents}
use Rattle.def_file.specs.Core.{core_nodes}
use Rattle.def_file.specs.Read.{Read, bad, script, read}
use Rattle.file_read.specs.Idents.{ids_of, Listed}
use Rattle.file_read.specs.Load.{Kept}
use Rattle.def_pass.specs.Walk.{St}
use Rattle.laws_flat.specs.WalkF.{OutcomeF, refused_f, runs_f}
use Rattle.laws_flat.specs.PassF.{start_f, targets_l, flagged_l}
use Rattle.words_nodes.specs.Nodes.{Planted}
use Rattle.words_balance.specs.Balance.{WordsBalance}
use Rattle.pass_run.specs.declared.Ran.{Ran}
use Rattle.refusal.specs.declared.Refusal.{Refusal}
use Rattle.pass_run.specs.Run.{outcome}

-- a script before its first run
abbrev pub begin : Script → Flat St
begin s = record { nodes = flagged_l (core_nodes s); rest = start_f (length s.nodes) (targets_l (core_nodes s)) }

-- a refusal, or the runs
abbrev pub read_runs : ℕ → Read → OutcomeF
read_runs n (bad m) = refused_f m
read_runs n (script s) = runs_f n 0 (begin s)

-- the words hold a result of the script that was read, under a table or without one, and list its identifiers; the live counts and the ended total are the replacements
-- made; x is what was read
pub record Final (x : Read) (bs w u : List ℕ) : Type 0 where
  pub script : Script
  pub found : x ≡ Read.script script
  pub is : read bs ≡ Read.script script
  pub planted : Planted u
  pub balance : WordsBalance u
  pub ids : ids_of bs u ≡ idents script
  pub listed : Listed u (length script.nodes)
  pub kept : Kept w u

abbrev pub Leaves : Read → List ℕ → List ℕ → List ℕ → Result Ran Refusal → Type 0
Leaves x bs w u (Ok r) = Final x bs w u
Leaves x bs w u (Err r) = Cleared w u

pub record FileIs (x : Read) (bs w u : List ℕ) (n : ℕ) (r : Result Ran Refusal) : Type 0 where
  pub is : outcome r u ≡ read_runs n x
  pub words : Leaves x bs w u r
