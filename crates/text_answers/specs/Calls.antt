-- What holds of the bytes that the C function of the printer leaves, and of calls of it on two files. `TextIs` is what the function promises of a call: of the
-- file, the text buffer and the words before and after, and the answer. Assumes nothing: these are definitions.
use Rattle.std.specs.Prelude.{◌≡◌, T, List, [], ◌∷◌, ℕ, ◌≤◌, leb, length, take}
use Rattle.def_tree.specs.Tree.{Tree}
use Rattle.def_file.specs.Script.{Script}
use Rattle.def_file.specs.Read.{bad, script, read}
use Rattle.def_text.specs.Words.{Word}
use Rattle.def_text.specs.Derives as Derives
use Rattle.def_text.specs.Derives.{erase, derives, laid}
use Rattle.def_text.specs.Print.{start, printed}
use Rattle.def_text.specs.Lexing.{Lexes}
use Rattle.def_text.specs.Entry.{tree, spell, Printing, print_entry}
use Rattle.laws_text.specs.Claims.{Less, Elsewhere, Smallest}
use Rattle.laws_text.specs.Entry.{ReadsAs, Why}
use Rattle.text_words.specs.Decimals.{decimal_text}
use Rattle.file_copy.specs.declared.Copied.{Copied}
use Rattle.file_copy.specs.Copy.{numbers}
use Rattle.file_text.specs.Text.{told, left, TextIs}

-- the same of a call, with so many words, but for what it leaves in them
pub record CallIs (bs r r' : List ℕ) (words : ℕ) (c : Copied) : Type 0 where
  pub answer : c ≡ numbers (told (print_entry decimal_text words bs (length r)))
  pub result : r' ≡ left r (print_entry decimal_text words bs (length r))

-- the bytes that were written: the first ones of the text buffer
abbrev pub written : Copied → List ℕ → List ℕ
written c r' = take c.length r'

-- how a script's names, strings and numbers are spelled, and its tree with the pairs that it needs
abbrev pub spelling : Script → ℕ → ℕ → Word
spelling s = spell decimal_text s

abbrev pub shown : Script → Tree
shown s = printed (spelling s) (tree s)

-- the bytes, cut into tokens as ECMA-262 cuts them, read as the script's tree: they are cut in one way, and of the trees with pairs that are the script's
-- but for kind 41, one has these tokens
pub record IsText (bs out : List ℕ) : Type 0 where
  pub given : Script
  pub is : read bs ≡ script given
  pub tokens : List Word
  pub cut : Lexes out tokens
  pub only : (ws : List Word) → Lexes out ws → ws ≡ tokens
  pub reads : ReadsAs decimal_text tokens given
  pub once : (u : Tree) → Derives.tokens (spelling given) u ≡ tokens → T (derives (spelling given) u Derives.script) → erase u ≡ erase (laid (tree given)) → u ≡ shown given

abbrev pub WrittenReads : Type 0
WrittenReads = (bs r r' w w' : List ℕ) (c : Copied) → TextIs bs r r' w w' c → c.refused ≡ 0 → IsText bs (written c r')

-- of the printed tree no added pair is needless: without any one of them, or with pairs round smaller expressions inside of it in its place, what is left
-- does not read as the script's tree; and where one is added, each reading of the expression there has a pair round all of it
pub record NoneNeedless (bs out : List ℕ) : Type 0 where
  pub given : Script
  pub is : read bs ≡ script given
  pub cut : Lexes out (Derives.tokens (spelling given) (shown given))
  pub least : (v : Tree) → Less (spelling given) (laid (tree given)) (start ∷ []) v → ReadsAs decimal_text (Derives.tokens (spelling given) v) given → ⊥
  pub none-inside : (v : Tree) → Elsewhere (spelling given) (laid (tree given)) (start ∷ []) v → ReadsAs decimal_text (Derives.tokens (spelling given) v) given → ⊥
  pub smallest : Smallest (spelling given)

abbrev pub WrittenNeeded : Type 0
WrittenNeeded = (bs r r' w w' : List ℕ) (c : Copied) → TextIs bs r r' w w' c → c.refused ≡ 0 → NoneNeedless bs (written c r')

-- an answer is a refusal on its own condition, and no other, or a text: 1, 2 to 7, then 12 and 11
pub record HasReason (bs r w : List ℕ) (c : Copied) : Type 0 where
  pub end : Printing
  pub answer : c ≡ numbers (told end)
  pub why : Why decimal_text (length w) bs (length r) end
  pub number : (n : ℕ) → read bs ≡ bad n → (2 ≤ n) × (n ≤ 7)

abbrev pub EachAnswer : Type 0
EachAnswer = (bs r r' w w' : List ℕ) (c : Copied) → TextIs bs r r' w w' c → HasReason bs r w c

-- the bytes have one list of tokens, which reads as the trees of two files
pub record OneText (as' bs out : List ℕ) : Type 0 where
  pub one : Script
  pub two : Script
  pub left-is : read as' ≡ script one
  pub right-is : read bs ≡ script two
  pub tokens : List Word
  pub cut : Lexes out tokens
  pub only : (ws : List Word) → Lexes out ws → ws ≡ tokens
  pub left-reads : ReadsAs decimal_text tokens one
  pub right-reads : ReadsAs decimal_text tokens two

abbrev pub SameBytes : Type 0
SameBytes = (as' bs r r' w w' s s' v v' : List ℕ) (c d : Copied) → TextIs as' r r' w w' c → TextIs bs s s' v v' d → c.refused ≡ 0 → d.refused ≡ 0 → written c r' ≡ written d s' → OneText as' bs (written c r')

-- two files of the same texts, with trees that differ in nothing but kind 41
pub record ButPairs (as' bs : List ℕ) (a b : Script) : Type 0 where
  pub left-is : read as' ≡ script a
  pub right-is : read bs ≡ script b
  pub texts : a.texts ≡ b.texts
  pub same : erase (laid (tree a)) ≡ erase (laid (tree b))

-- refusal 12 is for both or for neither, and the same bytes are of one tree, kind 41 included
pub record AlikeTexts (a b : Script) (r' s' : List ℕ) (c d : Copied) : Type 0 where
  pub left-none : c.refused ≡ 12 → d.refused ≡ 12
  pub right-none : d.refused ≡ 12 → c.refused ≡ 12
  pub one_tree : c.refused ≡ 0 → d.refused ≡ 0 → written c r' ≡ written d s' → shown a ≡ shown b

abbrev pub PairsAside : Type 0
PairsAside = (as' bs : List ℕ) (a b : Script) → ButPairs as' bs a b
    → (r r' w w' s s' v v' : List ℕ) (c d : Copied) → leb 16384 (length w) ≡ leb 16384 (length v) → TextIs as' r r' w w' c → TextIs bs s s' v v' d → AlikeTexts a b r' s' c d
