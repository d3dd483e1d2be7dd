-- Assumes nothing.
use Rattle.std.proofs.Common.{◌≡◌, ℕ, false, get_or, inl, inr, sym, ap, ◌∙◌, subst, arith}
use Rattle.std.proofs.lemmas.Bool.{cases_eq}
use Rattle.def_file.specs.Script.{same_text}
use Rattle.text_words.specs.declared.word.Word.{Word as Entry}
use Rattle.text_words.specs.declared.word.TheConstants.{RESERVED}
use Rattle.text_words.specs.Words.{bytes_of}
use Rattle.text_words.proofs.Every.{no_entry, get-same, hit, miss, len-at}
use Rattle.text_words.proofs.names.is_reserved.Goals as goal

pub is_word-requires : goal.is_word-requires
is_word-requires c = len-at c.loop-word.word-index _ c.loop-word-test.true

pub returns-then-is_word : goal.returns-then-is_word
returns-then-is_word c = sym (hit c.args.text.now c.loop-word.word-index _ c.loop-word-test.true (sym c.is_word.ensures ∙ c.if-is_word.true))

pub loop-word-preserved : goal.loop-word-preserved
loop-word-preserved c = λ k l. elim (cases_eq k c.loop-word.word-index) [
  | inl s ↦ subst (λ (j : ℕ). same_text c.args.text.now (bytes_of (get_or RESERVED j no_entry)) ≡ false) (sym s) (ap (λ (x : Entry). same_text c.args.text.now (bytes_of x)) (get-same RESERVED c.loop-word.word-index no_entry _ c.loop-word-test.true) ∙ sym c.is_word.ensures ∙ c.if-is_word.false)
  | inr o ↦ c.loop-word.invariant k (omega arith)
]

pub returns : goal.returns
returns c = sym (miss c.args.text.now (λ i l. c.loop-word.invariant i (omega arith)))
