-- One file for one script; the file of the canonical form is read again, and written as it is; and why the writer answers as it does. Assumes nothing.
use mathlib.Core.Path.{◌≡◌, refl, sym, ap, ◌∙◌, subst}
use mathlib.Core.Bool.{Bool, true, false}
use mathlib.Core.List.{List, [], ◌∷◌, ◌++◌}
use Prim.Native.Nat.{ℕ, zero, suc, ◌+◌, ◌*◌, ◌/◌, ◌%◌, ◌≤◌, ◌<◌}
use native.Mathlib.Omega.{arith}
use lib.Dec.{leb}
use lib.ListN.{length, get_or}
use borrow.Author.Tests.{leb-true, leb-false, clash}
use Rattle.def_file.specs.declared.Raw.{Raw}
use Rattle.def_file.specs.Script.{Script}
use Rattle.def_file.specs.Read.{Read, bad, script, read}
use Rattle.def_file.specs.Write.{bytes, raw_bytes, node_bytes, end_bytes, text_bytes, head_bytes, file}
use Rattle.laws_roundtrip.specs.Fits.{Bytes, Fits}
use Rattle.laws_roundtrip.proofs.Round.{back, fits_read, again}
use Rattle.laws_pass.proofs.FromFile.{ReadsOk, read_ok}
use Rattle.laws_pass.proofs.ReadsAgain.{file-length}
use Rattle.def_canon.specs.Canon.{canon}
use Rattle.def_canon.specs.Entry.{Writing, refused, wrote, in_room, canon_read, canon_entry}
use Rattle.def_canon.specs.Differ.{Differ}
use Rattle.laws_canon.specs.Canon.{OneFile, CanonReadable, Again, WritesAgain, Why, few_words, not_read, no_room, has_room, Answers}
use Rattle.laws_canon.proofs.Same.{sound_read, same-canon, joined}
use Rattle.laws_canon.proofs.Form.{differ-canon, sound, canon-fits, canon-short}

-- a file's bytes
bytes-append : (xs ys : List ℕ) → Bytes xs → Bytes ys → Bytes (xs ++ ys)
bytes-append [] ys h k = k
bytes-append (x ∷ xs) ys h k = go (bytes-append xs ys (λ i. h (suc i)) k)
  where
    go : Bytes (xs ++ ys) → (i : ℕ) → get_or (x ∷ (xs ++ ys)) i 0 < 256
    go f zero = h 0
    go f (suc i) = f i

number-bytes : (k n : ℕ) → Bytes (bytes k n)
number-bytes zero n = λ i. omega arith
number-bytes (suc k) n = go (number-bytes k (n / 256))
  where
    go : Bytes (bytes k (n / 256)) → (i : ℕ) → get_or (n % 256 ∷ bytes k (n / 256)) i 0 < 256
    go f zero = omega arith
    go f (suc i) = f i

raw-bytes : (x : Raw) → Bytes (raw_bytes x)
raw-bytes x =
    let a = bytes 1 x.kind in
    let b = bytes 1 x.form in
    let c = bytes 2 x.arity in
    let d = bytes 4 x.text in
    bytes-append (a ++ b ++ c ++ d) (bytes 8 x.bits) (bytes-append (a ++ b ++ c) d (bytes-append (a ++ b) c (bytes-append a b (number-bytes 1 x.kind) (number-bytes 1 x.form)) (number-bytes 2 x.arity)) (number-bytes 4 x.text)) (number-bytes 8 x.bits)

nodes-bytes : (xs : List Raw) → Bytes (node_bytes xs)
unfolding node_bytes
nodes-bytes [] = λ i. omega arith
nodes-bytes (x ∷ xs) = bytes-append (raw_bytes x) (node_bytes xs) (raw-bytes x) (nodes-bytes xs)

ends-bytes : (at : ℕ) (ts : List (List ℕ)) → Bytes (end_bytes at ts)
unfolding end_bytes
ends-bytes at [] = λ i. omega arith
ends-bytes at (t ∷ ts) = bytes-append (bytes 4 (at + length t)) (end_bytes (at + length t) ts) (number-bytes 4 (at + length t)) (ends-bytes (at + length t) ts)

texts-bytes : (ts : List (List ℕ)) → ((k : ℕ) → Bytes (get_or ts k [])) → Bytes (text_bytes ts)
unfolding text_bytes
texts-bytes [] h = λ i. omega arith
texts-bytes (t ∷ ts) h = bytes-append t (text_bytes ts) (h 0) (texts-bytes ts (λ k. h (suc k)))

abbrev ByteList : Type 0
ByteList = (xs : List ℕ) × Bytes xs

abbrev and_number : ByteList → ℕ → ByteList
and_number h x = (h.0 ++ bytes 4 x, bytes-append h.0 (bytes 4 x) h.1 (number-bytes 4 x))

head-bytes : (n t b : ℕ) → Bytes (head_bytes n t b)
head-bytes n t b = (and_number (and_number (and_number (and_number (and_number (and_number (and_number (bytes 4 1, number-bytes 4 1) (32 + 16 * n + 4 * t + b)) n) 32) t) (32 + 16 * n)) (32 + 16 * n + 4 * t)) b).1

pub file-bytes : (s : Script) → Fits s → Bytes (file s)
unfolding file
file-bytes s f =
    let h = head_bytes (length s.nodes) (length s.texts) (length (text_bytes s.texts)) in
    bytes-append (h ++ node_bytes s.nodes ++ end_bytes 0 s.texts) (text_bytes s.texts)
    (bytes-append (h ++ node_bytes s.nodes) (end_bytes 0 s.texts) (bytes-append h (node_bytes s.nodes) (head-bytes (length s.nodes) (length s.texts) (length (text_bytes s.texts))) (nodes-bytes s.nodes)) (ends-bytes 0 s.texts))
    (texts-bytes s.texts f.bytes)

-- the canonical form of a script that was read
module _ (bs : List ℕ) (s : Script) (y : Bytes bs) (q : read bs ≡ script s) where
  pub fits-canon : Fits (canon s)
  fits-canon = canon-fits s (sound_read bs s q) (fits_read bs s y q)

  pub read-canon : read (file (canon s)) ≡ script (canon s)
  read-canon = again (canon s) fits-canon

  pub differ : Differ s (canon s)
  differ = differ-canon s (sound_read bs s q)

  twice : canon (canon s) ≡ canon s
  twice = sym (same-canon s (canon s) (sound_read bs s q) (sound s (sound_read bs s q)) differ)

  short : length (file (canon s)) ≤ length bs
  short =
      let c = canon-short s (sound_read bs s q) (fits_read bs s y q) in
      omega (arith, file-length (canon s), file-length s, ap (λ (zs : List ℕ). length zs) (back bs s y q), c)

same_script : (a b : Script) → script a ≡ script b → a ≡ b
same_script a b e = cc

pub one-file : OneFile
one-file as' bs a b x y p q = (
  (λ e. (let c : canon a ≡ canon b = same_script (canon a) (canon b) (sym (read-canon as' a x p) ∙ ap read e ∙ read-canon bs b y q) in
      joined a b (canon b) (subst (λ (z : Script). Differ a z) c (differ as' a x p)) (differ bs b y q))),
  λ d. ap file (same-canon a b (sound_read as' a p) (sound_read bs b q) d),
)

pub canon-readable : CanonReadable
canon-readable bs s y q = record { bytes = file-bytes (canon s) (fits-canon bs s y q); again = read-canon bs s y q; short = short bs s y q }

pub canon-again : Again
canon-again bs s y q = twice bs s y q

-- what the writer answers
is_refused : Writing → Bool
is_refused (refused n) = true
is_refused (wrote out) = false

written_of : Writing → List ℕ
written_of (refused n) = []
written_of (wrote out) = out

no : (n : ℕ) (out : List ℕ) → refused n ≡ wrote out → ⊥
unfolding is_refused
no n out e = clash (sym (ap is_refused e))

is_out : (a b : List ℕ) → wrote a ≡ wrote b → a ≡ b
unfolding written_of
is_out a b e = ap written_of e

pub writes-again : WritesAgain
unfolding canon_entry
writes-again words bs room out y e = go (leb 16384 words) (read bs) refl e
  where
    go : (p : Bool) (r : Read) → read bs ≡ r → elim p as (λ x. Writing) [ false ↦ refused 1 | true ↦ canon_read room r ] ≡ wrote out → elim p as (λ x. Writing) [ false ↦ refused 1 | true ↦ canon_read room (read out) ] ≡ wrote out
    go false r q e = e
    go true (bad n) q e = absurd (no n out e)
    go true (script s) q e = by (leb (length (file (canon s))) room) refl e
      where
        by : (b : Bool) → leb (length (file (canon s))) room ≡ b → elim b as (λ x. Writing) [ true ↦ wrote (file (canon s)) | false ↦ refused 16 ] ≡ wrote out → canon_read room (read out) ≡ wrote out
        by false l e = absurd (no 16 out e)
        by true l e = subst (λ (z : List ℕ). canon_read room (read z) ≡ wrote z) (is_out (file (canon s)) out e)
            (ap (canon_read room) (read-canon bs s y q) ∙ ap (λ (z : Script). in_room room (file z)) (twice bs s y q) ∙ ap (λ (b : Bool). elim b as (λ x. Writing) [ true ↦ wrote (file (canon s)) | false ↦ refused 16 ]) l)

pub answers : Answers
unfolding canon_entry
answers words bs room = go (leb 16384 words) refl (read bs) refl (read_ok bs)
  where
    go : (p : Bool) → leb 16384 words ≡ p → (r : Read) → read bs ≡ r → ReadsOk r → Why words bs room (elim p as (λ x. Writing) [ false ↦ refused 1 | true ↦ canon_read room r ])
    go false e r q h = few_words (leb-false 16384 words e)
    go true e (bad n) q h = not_read n (leb-true 16384 words e) q h.0 h.1
    go true e (script s) q h = by (leb (length (file (canon s))) room) refl
      where
        by : (b : Bool) → leb (length (file (canon s))) room ≡ b → Why words bs room (elim b as (λ x. Writing) [ true ↦ wrote (file (canon s)) | false ↦ refused 16 ])
        by false l = no_room s (leb-true 16384 words e) q (leb-false (length (file (canon s))) room l)
        by true l = has_room s (leb-true 16384 words e) q (leb-true (length (file (canon s))) room l)
