-- `file_read::texts::Texts::distinct` meets its contract: it looks behind each text, one by one. Assumes nothing.
use Rattle.std.proofs.Common.{◌+◌, ◌∙◌, drop, refl, arith, rules, tests}
use mathlib.Core.Bool.{not}
use Rattle.std.proofs.lemmas.Iterator.{YieldsList-from_range}
use Rattle.std.proofs.lemmas.Iterator.Search.{all_from_yields_List}
use Rattle.def_file.specs.Read.{any_text}
use Rattle.file_read.specs.Text.{text_in, texts_of}
use Rattle.file_read.proofs.Strings.{all-range}
use Rattle.file_read.proofs.texts.Texts.distinct.Goals as goal

pub returns : goal.returns
returns c =
    let a = c.args in
    all_from_yields_List (λ i. not (any_text (text_in a.file.now a.self.ends a.self.bytes i) (drop (i + 1) (texts_of a.file.now a.self)))) _ _ _ c.all.ensures.ran (YieldsList-from_range 0 a.self.count a.self.count refl (omega arith)) (λ i b q k. search (rules, tests))
    ∙ all-range c.requires 0 a.self.count (omega arith)
