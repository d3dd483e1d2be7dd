-- Assumes nothing.
use Rattle.text_walk.proofs.Numbers.{pushed-one}
use Rattle.text_walk.proofs.list.push.Goals as goal

pub returns : goal.returns
returns c = pushed-one c.args.words.now c.args.code c.requires.0 c.requires.1
