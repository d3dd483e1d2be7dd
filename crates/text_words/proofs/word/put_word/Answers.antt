-- Assumes nothing.
use Rattle.std.proofs.Common.{◌≡◌, ℕ, ◌+◌, ◌<◌, ◌≤◌, List, length, take, get_or, sym, ap, ◌∙◌, subst, arith}
use Rattle.number_text.specs.Put.{Puts}
use Rattle.text_words.specs.declared.word.TheConstants.{WORDS}
use Rattle.text_words.specs.Words.{word}
use Rattle.text_words.proofs.Every.{no_entry, word-at, word-full}
use Rattle.text_words.proofs.word.put_word.Goals as goal

-- the bytes that are copied
copied : (i n : ℕ) → i < 85 → n ≡ (get_or WORDS i no_entry).len → word i ≡ take n (get_or WORDS i no_entry).bytes
copied i n h e = word-at i no_entry h ∙ ap (λ (m : ℕ). take m (get_or WORDS i no_entry).bytes) (sym e)

pub shared_ref_as_front-put_bytes : goal.shared_ref_as_front-put_bytes
shared_ref_as_front-put_bytes c = let f = word-full c.args.i no_entry c.requires.0 in omega (arith, c.from.ensures, f.0)

pub put_bytes-requires : goal.put_bytes-requires
put_bytes-requires c = subst (λ (v : List ℕ). c.args.«at» + length v ≤ length c.args.out.now) (copied c.args.i c.from.result c.requires.0 c.from.ensures) c.requires.1

pub returns : goal.returns
returns c = subst (λ (v : List ℕ). (c.put_bytes.result ≡ c.args.«at» + length v) × Puts c.args.out.now c.put_bytes.new.out c.args.«at» v) (sym (copied c.args.i c.from.result c.requires.0 c.from.ensures)) c.put_bytes.ensures
