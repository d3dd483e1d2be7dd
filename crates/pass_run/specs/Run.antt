-- What runs of the pass promise: their answer and the words are the outcome of the runs on the list of nodes.
-- Assumes nothing: these are definitions.
use Rattle.std.specs.Prelude.{◌≡◌, List, ℕ, Result, Ok, Err}
use Rattle.words.specs.Layout.{tree}
use Rattle.def_pass.specs.Walk.{root_marks}
use Rattle.laws_flat.specs.WalkF.{OutcomeF, refused_f, result_f}
use Rattle.words_scopes.specs.State.{stack}
use Rattle.words_state.specs.State.{Ok as Fine}
use Rattle.pass_run.specs.declared.Ran.{Ran}
use Rattle.refusal.specs.declared.Refusal.{Refusal}
use Rattle.refusal.specs.Number.{number}

-- an answer with the words it left: document 01's number of a refusal, or runs, mark, nodes, and the root's bindings with their marks
abbrev pub outcome : Result Ran Refusal → List ℕ → OutcomeF
outcome (Ok r) u = result_f r.runs r.changed (tree u) (root_marks (stack u))
outcome (Err r) u = refused_f (number r)

pub record RunsIs (w u : List ℕ) (r : Result Ran Refusal) (x : OutcomeF) : Type 0 where
  pub ok : Fine w u
  pub is : outcome r u ≡ x
