-- A number that is known, no room, and a new number. Assumes nothing.
use Rattle.std.proofs.Common.{sym, ◌∙◌}
use Rattle.file_resolve.proofs.Keys.{note-old, note-full, note-new}
use Rattle.file_resolve.proofs.idents.note.Goals as goal

pub returns-then-is_noted : goal.returns-then-is_noted
returns-then-is_noted c = note-old c.args.words.now c.args.key c.requires.0 c.requires.1 (sym c.is_noted.ensures ∙ c.if-is_noted.true)

pub returns-then-count-eq256 : goal.returns-then-count-eq256
returns-then-count-eq256 c = note-full c.args.words.now c.args.key c.requires.0 c.requires.1 (sym c.is_noted.ensures ∙ c.if-is_noted.false) c.if-count-eq256.true

pub returns : goal.returns
returns c = note-new c.args.words.now c.args.key c.requires.0 c.requires.1 c.if-count-eq256.false (sym c.is_noted.ensures ∙ c.if-is_noted.false)
