-- The statements so far are put. Assumes nothing.
use Rattle.std.proofs.Common.{◌-◌}
use Rattle.text_walk.proofs.Statements.{Lines}
use Rattle.text_walk.proofs.walk.Printer.script.Given as goal

abbrev pub invariant-loop-i : goal.invariant-loop-i
invariant-loop-i l = Lines l.self.nodes.file.now l.self.nodes.header l.self.nodes.readable l.fn.words (l.count - l._i) l.next l.words
