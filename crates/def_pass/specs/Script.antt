-- The pass over a script: the pass on its core, and the result put back into file nodes.
use Rattle.std.specs.Prelude.{Bool, List, [], map, ℕ}
use Rattle.std.proofs.Math.Option.{Option, none, some}
use Rattle.def_tree.specs.Tree.{flat, plant}
use Rattle.def_file.specs.declared.Raw.{Raw}
use Rattle.def_file.specs.Script.{Script, idents}
use Rattle.def_file.specs.Read.{Read, bad, script, read}
pub use Rattle.def_file.specs.Core.{has_text, core_node, core_from, core_nodes, Out, ident_at, lit_out, id_out, plain_out, back}
use Rattle.def_pass.specs.Tree.{Tree, head_t}
use Rattle.def_pass.specs.Walk.{core_pass, Rooted, Outcome, refused, result}

-- a root binding: text, context, mark, count (request 9)
pub record Root : Type 0 where
  pub key : Raw
  pub mark : Bool
  pub count : ℕ

unfoldable pub root_of : Script → Rooted → Root
unfolding idents
root_of s r = record { key = ident_at s r.0; mark = r.1; count = r.2 }

pub data Answer : Type 0 where
  no! : ℕ → Answer
  yes! : ℕ → Bool → List Out → List Root → Answer

abbrev pub answer : Script → Outcome → Answer
answer s (refused n) = no! n
answer s (result k c t ms) = yes! k c (map (back s) (flat t [])) (map (root_of s) ms)

abbrev pub core_tree : Script → Option Tree
core_tree s = head_t (plant (core_nodes s))

-- row 6 refuses a file whose nodes are no tree
abbrev pub pass_tree : ℕ → Option Tree → Outcome
pass_tree n none = refused 6
pass_tree n (some t) = core_pass n t

-- the pass from a readable script on
unfoldable pub pass : ℕ → Script → Answer
unfolding core_pass core_nodes back root_of
pass n s = answer s (pass_tree n (core_tree s))

abbrev pub pass_read : ℕ → Read → Answer
pass_read n (bad r) = no! r
pass_read n (script s) = pass n s

-- the whole pass over a file, rows 1 and 10 aside
unfoldable pub pass_file : ℕ → List ℕ → Answer
unfolding read pass
pass_file n bs = pass_read n (read bs)
