-- One tree, with no scope around. Assumes nothing.
use Rattle.std.proofs.Common.{refl}
use Rattle.words_contexts.proofs.Walking as walking
use Rattle.words_contexts.proofs.contexts.Goals as goal

pub returns : goal.returns
returns c = walking.script-is (record { at = 0; next = 1 }) c.requires.0 c.requires.1 refl refl (walking.none-view c.args.arguments) c.trees.ensures
