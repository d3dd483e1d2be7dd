-- The end of the tree moved. Assumes nothing.
use Rattle.words_nodes.proofs.Splice.{slid, unslid}
use Rattle.words_nodes.proofs.slide.Goals as goal

pub returns-then-old-m : goal.returns-then-old-m
returns-then-old-m c = unslid c.args.w.now c.args.i c.if-old-m.true

pub returns : goal.returns
returns c = slid c.args.w.now c.shift.new.w c.args.i c.args.old c.args.m c.requires.0 c.requires.2 c.requires.3 c.shift.ensures
