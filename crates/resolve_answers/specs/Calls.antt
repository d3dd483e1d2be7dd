-- What holds of the bytes that the C function of the resolver leaves, of calls of it on files that differ in a known way, and of the pass behind it.
-- `ResolveIs` and `InlineIs` are what the two functions promise of a call: of the file, the result buffer and the words before and after, and the answer.
-- Assumes nothing: these are definitions.
use Rattle.std.specs.Prelude.{◌≡◌, ◌⊎◌, List, ◌++◌, ℕ, ◌≤◌, leb, length, take, drop}
use Rattle.def_file.specs.Script.{Script}
use Rattle.def_file.specs.Read.{script, read}
use Rattle.def_pass.specs.Entry.{Entry}
use Rattle.def_pass.specs.Paired.{Paired}
use Rattle.def_resolve.specs.Resolve.{bare, resolved}
use Rattle.def_resolve.specs.Entry.{Resolving, read_shaped, resolve_entry}
use Rattle.laws_roundtrip.specs.Fits.{Bytes}
use Rattle.laws_resolve.specs.Laws.{SameButContexts, ByVariables}
use Rattle.laws_resolve.specs.Entry.{Why, ByNameEntry}
use Rattle.file_copy.specs.declared.Copied.{Copied}
use Rattle.file_copy.specs.Copy.{numbers}
use Rattle.file_resolve.specs.Resolve.{told, left, ResolveIs}
use Rattle.pass_answers.specs.declared.Inlined.{Inlined}
use Rattle.pass_answers.specs.declared.Roots.{Roots}
use Rattle.pass_answers.specs.Entry as entries
use Rattle.pass_answers.specs.Entry.{InlineIs}
use Rattle.pass_answers.specs.Roots.{RootsIs}
use Rattle.pass_answers.specs.Demand.{AlikeEnds, AlikeLists}

-- the same of a call, with so many words, but for what it leaves in them
pub record CallIs (bs r r' : List ℕ) (words : ℕ) (c : Copied) : Type 0 where
  pub answer : c ≡ numbers (told (resolve_entry words bs (length r)))
  pub result : r' ≡ left r (resolve_entry words bs (length r))

-- the bytes that were written: the first ones of the result buffer
abbrev pub written : Copied → List ℕ → List ℕ
written c r' = take c.length r'

-- the resolved file: as long as the given one, and its script differs from the given one in nothing but contexts; two names have one identifier exactly
-- when they mean the same variable or are one undeclared name
pub record IsResolved (bs out : List ℕ) : Type 0 where
  pub given : Script
  pub shaped : read_shaped bs ≡ script given
  pub is : read out ≡ script (resolved given)
  pub long : length out ≡ length bs
  pub same : SameButContexts given (resolved given)
  pub variables : ByVariables given (resolved given)

abbrev pub ExactlyOneVariable : Type 0
ExactlyOneVariable = (bs r r' w w' : List ℕ) (c : Copied) → Bytes bs → ResolveIs bs r r' w w' c → c.refused ≡ 0 → IsResolved bs (written c r')

-- an answer is a refusal on its own condition, and no other, or a result: rows 1 to 6, then 13, 7 and 10
pub record HasReason (bs r w : List ℕ) (c : Copied) : Type 0 where
  pub end : Resolving
  pub answer : c ≡ numbers (told end)
  pub why : Why (length w) bs (length r) end

abbrev pub EachRefusal : Type 0
EachRefusal = (bs r r' w w' : List ℕ) (c : Copied) → ResolveIs bs r r' w w' c → HasReason bs r w c

-- resolving the resolved file changes nothing
pub record Unchanged (out s s' : List ℕ) (c d : Copied) : Type 0 where
  pub answer : d ≡ c
  pub result : s' ≡ out ++ drop (length out) s

abbrev pub ResolvedAgain : Type 0
ResolvedAgain = (bs r r' w w' : List ℕ) (c : Copied) → Bytes bs → ResolveIs bs r r' w w' c → c.refused ≡ 0
    → (s s' v v' : List ℕ) (d : Copied) → ResolveIs (written c r') s s' v v' d → 16384 ≤ length v → c.length ≤ length s → Unchanged (written c r') s s' c d

-- the contexts of the given file are never looked at: two files that differ in nothing else get the same answer and the same bytes
abbrev pub SameCall : (r' s' : List ℕ) → Copied → Copied → Type 0
SameCall r' s' c d = (c ≡ d) × (written c r' ≡ written d s')

pub record DifferInContexts (as' bs : List ℕ) : Type 0 where
  pub one : Script
  pub two : Script
  pub left-is : read_shaped as' ≡ script one
  pub right-is : read_shaped bs ≡ script two
  pub same : SameButContexts one two

abbrev pub ContextsIgnored : Type 0
ContextsIgnored = (as' bs : List ℕ) → Bytes as' → DifferInContexts as' bs
    → (r r' w w' s s' v v' : List ℕ) (c d : Copied) → leb 16384 (length w) ≡ leb 16384 (length v) → length r ≡ length s → ResolveIs as' r r' w w' c → ResolveIs bs s s' v v' d → SameCall r' s' c d

-- names paired one to one before resolving, `arguments` only with `arguments`: the same refusal, but that one result may fit its buffer where the other,
-- with its own texts, does not; and the pass treats the two resolved files alike, at every run limit
abbrev pub AlikeAnswers : Copied → Copied → Type 0
AlikeAnswers c d = (c.refused ≡ d.refused) ⊎ (((c.refused ≡ 10) × (d.refused ≡ 0)) ⊎ ((c.refused ≡ 0) × (d.refused ≡ 10)))

pub record Renamed (as' bs : List ℕ) (a b : Script) : Type 0 where
  pub left-is : read_shaped as' ≡ script a
  pub right-is : read_shaped bs ≡ script b
  pub paired : Paired (bare a) (bare b)

abbrev pub RenamedAnswers : Type 0
RenamedAnswers = (as' bs : List ℕ) (a b : Script) → Bytes as' → Bytes bs → Renamed as' bs a b
    → (r r' w w' s s' v v' : List ℕ) (c d : Copied) → leb 16384 (length w) ≡ leb 16384 (length v) → ResolveIs as' r r' w w' c → ResolveIs bs s s' v v' d → AlikeAnswers c d

abbrev pub RenamedInline : Type 0
RenamedInline = (as' bs : List ℕ) (a b : Script) → Bytes as' → Bytes bs → Renamed as' bs a b
    → (r r' w w' s s' v v' : List ℕ) (c d : Copied) → ResolveIs as' r r' w w' c → ResolveIs bs s s' v v' d → c.refused ≡ 0 → d.refused ≡ 0
    → (runs : ℕ) (p p' t t' q q' u u' : List ℕ) (x y : Inlined) → leb 16384 (length t) ≡ leb 16384 (length u) → InlineIs (written c r') p p' t t' runs x → InlineIs (written d s') q q' u u' runs y
    → AlikeEnds (written c r') (written d s') runs (resolved a) (resolved b) x y p p' q q'

abbrev pub RenamedRoots : Type 0
RenamedRoots = (as' bs : List ℕ) (a b : Script) → Bytes as' → Bytes bs → Renamed as' bs a b
    → (r r' w w' s s' v v' : List ℕ) (c d : Copied) → ResolveIs as' r r' w w' c → ResolveIs bs s s' v v' d → c.refused ≡ 0 → d.refused ≡ 0
    → (runs : ℕ) (p p' t t' q q' u u' : List ℕ) (x y : Roots) → leb 16384 (length t) ≡ leb 16384 (length u) → RootsIs (written c r') p p' t t' runs x → RootsIs (written d s') q q' u u' runs y
    → AlikeLists (resolved a) (resolved b) x y p p' q q'

-- a file resolved here, and the same script resolved elsewhere to the same variables: the pass gives the same four numbers, and results that differ only,
-- for each name, by a one-to-one change of contexts; and its root lines come in pairs, in their order, with equal marks and counts
pub record Elsewhere (bs cs : List ℕ) (s b : Script) : Type 0 where
  pub left-is : read_shaped bs ≡ script s
  pub right-is : read cs ≡ script b
  pub same : SameButContexts s b
  pub variables : ByVariables s b

pub record ByNameEnds (a b : Script) (x y : Inlined) (p p' q q' : List ℕ) : Type 0 where
  pub answers : x ≡ y
  pub one : Entry
  pub two : Entry
  pub one_answer : x ≡ entries.numbers one
  pub two-answer : y ≡ entries.numbers two
  pub one-result : p' ≡ entries.left p one
  pub two-result : q' ≡ entries.left q two
  pub alike : ByNameEntry a b one two

abbrev pub ElsewhereInline : Type 0
ElsewhereInline = (bs cs : List ℕ) (s b : Script) → Bytes bs → Elsewhere bs cs s b
    → (r r' w w' : List ℕ) (c : Copied) → ResolveIs bs r r' w w' c → c.refused ≡ 0
    → (runs : ℕ) (p p' t t' q q' u u' : List ℕ) (x y : Inlined) → leb 16384 (length t) ≡ leb 16384 (length u) → length p ≡ length q → InlineIs (written c r') p p' t t' runs x → InlineIs cs q q' u u' runs y
    → ByNameEnds (resolved s) b x y p p' q q'

abbrev pub ElsewhereRoots : Type 0
ElsewhereRoots = (bs cs : List ℕ) (s b : Script) → Bytes bs → Elsewhere bs cs s b
    → (r r' w w' : List ℕ) (c : Copied) → ResolveIs bs r r' w w' c → c.refused ≡ 0
    → (runs : ℕ) (p p' t t' q q' u u' : List ℕ) (x y : Roots) → leb 16384 (length t) ≡ leb 16384 (length u) → RootsIs (written c r') p p' t t' runs x → RootsIs cs q q' u u' runs y
    → AlikeLists (resolved s) b x y p p' q q'
