-- No text, no room for it, or the text. Assumes nothing.
use Rattle.file_text.proofs.Ends as ends
use Rattle.file_text.proofs.write.Goals as goal

pub returns-then-not-script : goal.returns-then-not-script
returns-then-not-script c = ends.no-text-so c.args.file.now c.args.header c.requires.0 (rw c.if-not-script.true at c.script.ensures)

pub returns-then-text-len : goal.returns-then-text-len
returns-then-text-len c = ends.no-room-so c.args.file.now c.args.header c.requires.0 (rw c.if-not-script.false at c.script.ensures) c.measure-len.ensures c.if-text-len.true

pub returns : goal.returns
returns c = ends.written-so c.args.file.now c.args.header c.requires.0 (rw c.if-not-script.false at c.script.ensures) c.measure-len.ensures c.if-text-len.false c.put_tokens.ensures
