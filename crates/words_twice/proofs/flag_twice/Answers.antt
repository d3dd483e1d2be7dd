-- The script's statements are the children of the one tree. Assumes nothing.
use mathlib.Core.Path.{ap, ◌∙◌}
use Prim.Native.Nat.{ℕ}
use Rattle.def_pass.specs.Twice.{twice}
use Rattle.words.specs.Layout.{tree}
use Rattle.words_nodes.specs.Nodes.{forest_from}
use Rattle.words_twice.specs.Twice.{flagged_from}
use Rattle.words_twice.proofs.Looks as looks
use Rattle.words_twice.proofs.Steps as steps
use Rattle.words_twice.proofs.flag_twice.Goals as goal

pub declared-seen-requires : goal.declared-seen-requires
declared-seen-requires c = (c.requires.0, rw c.arity_at-n.ensures (looks.kids-stand c.requires.0 (steps.some-node c.requires.0)))

pub returns : goal.returns
returns c = rw (ap (λ (n : ℕ). flagged_from (twice (forest_from (tree c.args.w.now) n 1)) (tree c.args.w.now) 1 0) c.arity_at-n.ensures ∙ steps.all-flagged c.requires.0) at (c.flags.ensures.1 _ c.declared-seen.ensures.1)
