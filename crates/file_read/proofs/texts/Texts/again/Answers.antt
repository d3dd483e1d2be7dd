-- `file_read::texts::Texts::again` meets its contract: it looks at the texts behind text i, one by one. Assumes nothing.
use Rattle.std.proofs.Common.{◌+◌, ◌-◌, refl, ◌∙◌, arith, rules, tests}
use Rattle.std.proofs.lemmas.Iterator.{YieldsList-from_range}
use Rattle.std.proofs.lemmas.Iterator.Search.{any_from_yields_List}
use Rattle.def_file.specs.Script.{same_text}
use Rattle.file_read.specs.Text.{text_in}
use Rattle.file_read.proofs.Strings.{any-range}
use Rattle.file_read.proofs.texts.Texts.again.Goals as goal

pub returns : goal.returns
returns c =
    let a = c.args in
    let x = text_in a.file.now a.self.ends a.self.bytes a.i in
    any_from_yields_List (λ j. same_text x (text_in a.file.now a.self.ends a.self.bytes j)) _ _ _ c.any.ensures.ran (YieldsList-from_range (a.i + 1) a.self.count (a.self.count - (a.i + 1)) refl refl) (λ j b q k. search (rules, tests))
    ∙ any-range c.requires.0 x (a.i + 1) (a.self.count - (a.i + 1)) (omega (arith, c.requires.1))
