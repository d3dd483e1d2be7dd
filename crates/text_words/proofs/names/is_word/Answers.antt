-- Assumes nothing.
use Rattle.std.proofs.Common.{ℕ, take, ap, ◌∙◌}
use Rattle.def_file.specs.Script.{same_text}
use Rattle.text_words.proofs.Every.{same-pointwise}
use Rattle.text_words.proofs.names.is_word.Goals as goal

pub returns : goal.returns
returns c = c.eq.ensures ∙ same-pointwise c.args.text.now _ ∙ ap (λ (n : ℕ). same_text c.args.text.now (take n c.args.word.now.bytes)) c.from.ensures
