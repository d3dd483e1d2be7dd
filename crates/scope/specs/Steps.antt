-- A step on the state of the pass that leaves the nodes alone. Assumes nothing: these are definitions.
use Rattle.std.specs.Prelude.{◌≡◌, List, ℕ, Result, Ok, Err}
use Rattle.def_tree.specs.Tree.{Tree, node, nil}
use Rattle.def_file.specs.declared.kind.Kind.TheVariants.{BindingIdent}
use Rattle.def_file.specs.Named.{number_of}
use Rattle.def_tree.specs.Combine.{Res, stop, done, Flat}
use Rattle.def_pass.specs.Walk.{St}
use Rattle.refusal.specs.declared.Refusal.{Refusal}
use Rattle.refusal.specs.Number.{number}
use Rattle.words.specs.Layout.{tree}
use Rattle.words_state.specs.State as state
use Rattle.words_state.specs.State.{abs}

-- the name of a declarator: only its form, whether it is flagged (request 3), and its number are looked at
abbrev pub named : ℕ → ℕ → Tree
named f x = node (number_of BindingIdent) f x nil

-- an answer: its value and the state, or the number of its refusal
abbrev pub done_of : {S A : Type 0} → Result A Refusal → S → Res S A
done_of (Ok a) s = done s a
done_of (Err r) s = stop (number r)

-- m is what the definition does from the state of w, r the same by the step's answer; the tree's nodes are as they were, after a refusal too
pub record Moves {A : Type 0} (w u : List ℕ) (m r : Res St A) : Type 0 where
  pub ok : state.Ok w u
  pub nodes : tree u ≡ tree w
  pub is : m ≡ r

-- m is what the definition does on the list of nodes from the state of w: a step answers r and leaves the words u. After a refusal `ok` says what is kept of
-- what was done so far: the words stand for some state, and their length, word 4, words 14 and 15 and those from 8,336 on are as they were
pub record Did {A : Type 0} (w u : List ℕ) (r : Result A Refusal) (m : Res (Flat St) A) : Type 0 where
  pub ok : state.Ok w u
  pub is : m ≡ done_of r (abs u)
