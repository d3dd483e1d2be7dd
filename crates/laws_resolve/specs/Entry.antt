-- What holds of the resolver's answers: each refusal on its own condition, what is written, and the pass on it. Assumes nothing: these are definitions.
use Rattle.std.specs.Prelude.{◌≡◌, Bool, true, false, ◌⊎◌, List, [], ℕ, zero, suc, ◌-◌, ◌≤◌, ◌<◌, T, leb, ltb, length, get_or}
use Rattle.std.proofs.Math.Option.{Option, none, some}
use Rattle.def_tree.specs.Base.{member}
use Rattle.def_file.specs.Script.{Script, idents}
use Rattle.def_file.specs.Read.{Read, bad, script, read}
use Rattle.def_file.specs.Write.{file}
use Rattle.def_pass.specs.Tree.{Tree, Forest, node, nil, cons, count}
use Rattle.def_pass.specs.Paired.{Paired, AlikeEntry, file_of}
use Rattle.def_pass.specs.Entry as ends
use Rattle.def_pass.specs.Entry.{Entry, entry}
use Rattle.def_pass.specs.Script.{Out, Root, pass_file}
use Rattle.laws_roundtrip.specs.Fits.{Bytes}
use Rattle.def_resolve.specs.Scopes.{Role, apart, role, role_before, Counted, counted, counts}
use Rattle.def_resolve.specs.Resolve.{bare, names_tree, clashes_in, resolved}
use Rattle.def_resolve.specs.Entry.{Resolving, refused, wrote, read_shaped, resolve_entry}
use Rattle.laws_resolve.specs.Laws.{SameButContexts, ByVariables, ByNameResults, ByNameAnswers}

-- a name stands at two places of a list; and in two lists
pub record TwiceIn (xs : List ℕ) : Type 0 where
  pub first : ℕ
  pub second : ℕ
  pub later : first < second
  pub within : second < length xs
  pub same : get_or xs first 0 ≡ get_or xs second 0

pub record InBoth (xs ys : List ℕ) : Type 0 where
  pub name : ℕ
  pub left : T (member name xs)
  pub right : T (member name ys)

-- what is counted at the node that is n nodes behind the first
abbrev mutual
  pub counted_at : Role → Tree → ℕ → Counted
  counted_at r (node k f a ts) zero = counts r (node k f a ts)
  counted_at r (node k f a ts) (suc n) = counted_at_f (role k f ts) ts n

  pub counted_at_f : Role → Forest → ℕ → Counted
  counted_at_f r nil n = counted [] []
  counted_at_f r (cons t ts) n = elim (ltb n (count t)) [ true ↦ counted_at (role_before r ts) t n | false ↦ counted_at_f r ts (n - count t) ]

-- at some node a lexical name is declared twice in the scope, or is a var-declared name of what stands in it too or, in a function's body, a parameter
pub record ClashAt (r : Role) (t : Tree) : Type 0 where
  pub place : ℕ
  pub within : place < count t
  pub clash : TwiceIn (counted_at r t place).lexical ⊎ InBoth (counted_at r t place).lexical (counted_at r t place).others

abbrev pub Clashing : Option Tree → Type 0
Clashing none = ⊥
Clashing (some t) = ClashAt apart t

abbrev pub ClashesIn : Script → Type 0
ClashesIn s = Clashing (names_tree s)

-- names clash exactly so
abbrev pub Thirteen : Type 0
Thirteen = (s : Script) → (clashes_in s ≡ true → ClashesIn s) × (ClashesIn s → clashes_in s ≡ true)

-- refusals 2 to 6 are those of the pass: its reading is this one, and then 7
abbrev pub seven : Read → Read
seven (bad n) = bad n
seven (script s) = elim (leb (length (idents s)) 256) [ false ↦ bad 7 | true ↦ script s ]

abbrev pub ShapedRead : Type 0
ShapedRead = (bs : List ℕ) → read bs ≡ seven (read_shaped bs)

-- why the resolver answers as it does: each refusal on its own condition, and no other. 1 by the words alone, 2 to 6, then 13, then 7, then 10
pub data Why (words : ℕ) (bs : List ℕ) (room : ℕ) : Resolving → Type 0 where
  few_words : words < 16384 → Why words bs room (refused 1)
  not_read : (n : ℕ) → 16384 ≤ words → read_shaped bs ≡ bad n → 2 ≤ n → n ≤ 6 → Why words bs room (refused n)
  clashing : (s : Script) → 16384 ≤ words → read_shaped bs ≡ script s → ClashesIn s → Why words bs room (refused 13)
  many_names : (s : Script) → 16384 ≤ words → read_shaped bs ≡ script s → (ClashesIn s → ⊥) → 256 < length (idents (resolved s)) → Why words bs room (refused 7)
  no_room : (s : Script) → 16384 ≤ words → read_shaped bs ≡ script s → (ClashesIn s → ⊥) → length (idents (resolved s)) ≤ 256 → room < length (file (resolved s)) → Why words bs room (refused 10)
  has_room : (s : Script) → 16384 ≤ words → read_shaped bs ≡ script s → (ClashesIn s → ⊥) → length (idents (resolved s)) ≤ 256 → length (file (resolved s)) ≤ room → Why words bs room (wrote (file (resolved s)))

abbrev pub Answers : Type 0
Answers = (words : ℕ) (bs : List ℕ) (room : ℕ) → Why words bs room (resolve_entry words bs room)

-- what is written is a readable file, read as the resolved script, as long as the given one, and its own resolved file
pub record Written (words : ℕ) (bs : List ℕ) (room : ℕ) (out : List ℕ) : Type 0 where
  pub given : Script
  pub shaped : read_shaped bs ≡ script given
  pub bytes : Bytes out
  pub again : read out ≡ script (resolved given)
  pub long : length out ≡ length bs
  pub still : resolve_entry words out room ≡ wrote out

abbrev pub Writes : Type 0
Writes = (words : ℕ) (bs : List ℕ) (room : ℕ) (out : List ℕ) → Bytes bs → resolve_entry words bs room ≡ wrote out → Written words bs room out

-- the contexts of the given file are never looked at
abbrev pub ContextsIgnoredFiles : Type 0
ContextsIgnoredFiles = (as' bs : List ℕ) (a b : Script) → Bytes as' → read_shaped as' ≡ script a → read_shaped bs ≡ script b → SameButContexts a b → (words room : ℕ) → resolve_entry words as' room ≡ resolve_entry words bs room

-- of two files whose names are paired before resolving the resolver gives the same refusal, but that one result may fit its buffer where the other, with its
-- own texts, does not; and the pass on the two resolved files ends alike, at every run limit
abbrev pub AlikeResolving : Resolving → Resolving → Type 0
AlikeResolving (refused n) (refused m) = n ≡ m
AlikeResolving (refused n) (wrote out') = n ≡ 10
AlikeResolving (wrote out) (refused m) = m ≡ 10
AlikeResolving (wrote out) (wrote out') = Unit {0}

pub record AlikeFiles (a b : Script) (as' bs : List ℕ) : Type 0 where
  pub answers : (words room room' : ℕ) → AlikeResolving (resolve_entry words as' room) (resolve_entry words bs room')
  pub passes : (words room room' : ℕ) (out out' : List ℕ) → resolve_entry words as' room ≡ wrote out → resolve_entry words bs room' ≡ wrote out'
      → (runs words' space space' : ℕ) → AlikeEntry (resolved a) (resolved b) (entry runs words' out space) (entry runs words' out' space')

abbrev pub RenamedFiles : Type 0
RenamedFiles = (as' bs : List ℕ) (a b : Script) → Bytes as' → Bytes bs → read_shaped as' ≡ script a → read_shaped bs ≡ script b → Paired (bare a) (bare b) → AlikeFiles a b as' bs

-- a file resolved here, and the same script resolved elsewhere to the same variables: the pass on the two files, with any run limit
abbrev pub ElsewhereFiles : Type 0
ElsewhereFiles = (words : ℕ) (bs : List ℕ) (room : ℕ) (out cs : List ℕ) (s b : Script) → Bytes bs → resolve_entry words bs room ≡ wrote out → read_shaped bs ≡ script s → read cs ≡ script b → SameButContexts s b → ByVariables s b
    → (n : ℕ) → ByNameAnswers (resolved s) b (pass_file n out) (pass_file n cs)

-- and of the entry, with one room for both results: the same refusal, 10 too, or files of such results, equally long
pub record ByNamePassed (a b : Script) (n m k l : ℕ) (c d : Bool) (out out' : List ℕ) (rs ss : List Root) : Type 0 where
  pub one : List Out
  pub two : List Out
  pub one-file : out ≡ file_of a one
  pub two-file : out' ≡ file_of b two
  pub lengths : n ≡ m
  pub results : ByNameResults a b k l c d one two rs ss

abbrev pub ByNameEntry : Script → Script → Entry → Entry → Type 0
ByNameEntry a b (ends.refused n) (ends.refused m) = n ≡ m
ByNameEntry a b (ends.refused n) (ends.passed m l d out' ss) = ⊥
ByNameEntry a b (ends.passed n k c out rs) (ends.refused m) = ⊥
ByNameEntry a b (ends.passed n k c out rs) (ends.passed m l d out' ss) = ByNamePassed a b n m k l c d out out' rs ss

abbrev pub ElsewhereEntries : Type 0
ElsewhereEntries = (words : ℕ) (bs : List ℕ) (room : ℕ) (out cs : List ℕ) (s b : Script) → Bytes bs → resolve_entry words bs room ≡ wrote out → read_shaped bs ≡ script s → read cs ≡ script b → SameButContexts s b → ByVariables s b
    → (runs words' space : ℕ) → ByNameEntry (resolved s) b (entry runs words' out space) (entry runs words' cs space)
