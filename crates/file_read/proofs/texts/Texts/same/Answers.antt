-- `file_read::texts::Texts::same` meets its contract. Assumes nothing.
use Rattle.std.proofs.Common.{Bool, sym, ap₂, ◌∙◌}
use Rattle.def_file.specs.Script.{same_text}
use Rattle.file_read.specs.Text.{text_in}
use Rattle.file_read.proofs.Strings.{apart, same_pointwise}
use Rattle.file_read.proofs.texts.Texts.same.Goals as goal

pub returns-then-one-other : goal.returns-then-one-other
returns-then-one-other c = c.eq.ensures ∙ (same_pointwise c.text-x.result.now c.text-y.result.now ∙ ap₂ {C = Bool} same_text c.text-x.ensures c.text-y.ensures)

pub returns : goal.returns
returns c =
    let a = c.args in
    apart (text_in a.file.now a.self.ends a.self.bytes a.i) (text_in a.file.now a.self.ends a.self.bytes a.j) (λ e. c.if-one-other.false (c.requires.4 a.i c.requires.1 ∙ (e ∙ sym (c.requires.4 a.j c.requires.2))))
