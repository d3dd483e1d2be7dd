-- The ends of writing: not read, no room, and the whole file; and what reading says of the script. Assumes nothing.
use mathlib.Core.Path.{◌≡◌, refl, sym, ap, ap₂, ◌∙◌, subst}
use mathlib.Core.Bool.{Bool, true, false}
use mathlib.Core.List.{List, [], ◌++◌}
use Prim.Native.Nat.{ℕ, ◌+◌, ◌-◌, ◌*◌, ◌≤◌, ◌<◌}
use native.Mathlib.Omega.{arith}
use borrow.Author.Tests.{le-leb, lt-leb}
use lib.Dec.{leb}
use lib.ListN.{length, get_or, drop}
use Rattle.words.specs.Moved.{Cleared}
use Rattle.def_file.specs.Script.{Script}
use Rattle.def_file.specs.Read.{Read, bad, script, u32, rising, ends_from, nodes_ok, read}
use Rattle.def_file.specs.Write.{text_bytes, file}
use Rattle.def_canon.specs.Canon.{has_text_number, text_number, texts_used, canon}
use Rattle.def_canon.specs.Entry.{Writing, refused, wrote, in_room, canon_read, canon_entry}
use Rattle.laws_roundtrip.specs.Fits.{Bytes, Fits}
use Rattle.laws_roundtrip.proofs.Nodes.{nodes-length}
use Rattle.laws_roundtrip.proofs.Texts.{texts-length}
use Rattle.laws_roundtrip.proofs.Round.{Found, found}
use Rattle.laws_pass.proofs.All.{All, get_d-in}
use Rattle.laws_canon.proofs.Uses.{uses-all}
use Rattle.laws_canon.proofs.Same.{sound_read, in-range}
use Rattle.laws_canon.proofs.Laws.{fits-canon}
use Rattle.std.specs.Prelude.{Result, Ok, Err}
use Rattle.refusal.specs.declared.Refusal.{Refusal}
use Rattle.refusal.specs.declared.Refusal.TheVariants.{CanonBuffer}
use Rattle.refusal.specs.Number.{number}
use Rattle.file_read.specs.declared.header.Header.{Header}
use Rattle.file_read.specs.Load.{script_of, Readable}
use Rattle.file_read.specs.Reading.{counts_of, Told, answer_of, After, ReadIs}
use Rattle.file_write.specs.Written.{says}
use Rattle.file_copy.specs.declared.Copied.{Copied}
use Rattle.file_copy.specs.Copy.{numbers, WordsAre}
use Rattle.file_copy.proofs.Ends.{WasRead, was_read}
use Rattle.file_canon.specs.Uses.{Numbered}
use Rattle.file_canon.specs.Form.{read_of, form_of, Held}
use Rattle.file_canon.specs.Canon.{told, left, Wrote, CanonIs}

-- room for a file, or not
module _ (r out : List ℕ) where
  short : length r < length out → in_room (length r) out ≡ refused 16
  short l = rw (lt-leb (length out) (length r) l, in_room) refl

  long-enough : length out ≤ length r → in_room (length r) out ≡ wrote out
  long-enough l = rw (le-leb (length out) (length r) l, in_room) refl

  pub no-room : length r < length out → Wrote r r (in_room (length r) out) (Err CanonBuffer)
  no-room l = subst (λ (x : Writing). Wrote r r x (Err CanonBuffer)) (sym (short l)) (record { is = refl; leaves = refl })

  pub written : {r' : List ℕ} {n : ℕ} → length out ≤ length r → n ≡ length out → r' ≡ out ++ drop (length out) r → Wrote r r' (in_room (length r) out) (Ok n)
  written {r'} {n} l e q = subst (λ (x : Writing). Wrote r r' x (Ok n)) (sym (long-enough l)) (record { is = ap says (ap Ok e); leaves = q })

-- the writer, by what reading answers
entry-read : (words : ℕ) (bs : List ℕ) (room : ℕ) → canon_entry words bs room ≡ canon_read room (answer_of words (read bs))
unfolding canon_entry
entry-read words bs room = go (leb 16384 words)
  where
    go : (p : Bool) → elim p as (λ q. Writing) [ false ↦ refused 1 | true ↦ canon_read room (read bs) ] ≡ canon_read room (elim p as (λ q. Read) [ false ↦ bad 1 | true ↦ read bs ])
    go false = refl
    go true = refl

canon_is : {bs r r' w w' : List ℕ} {c : Copied} (z : Writing) → canon_entry (length w) bs (length r) ≡ z → c ≡ numbers (told z) → r' ≡ left r z → WordsAre w w' (leb 16384 (length w)) → CanonIs bs r r' w w' c
canon_is {r = r} z e a l h = record { answer = a ∙ ap (λ (x : Writing). numbers (told x)) (sym e); result = l ∙ ap (left r) (sym e); words = h }

module _ {bs w w₁ : List ℕ} {a : Result Header Refusal} (R : ReadIs bs w w₁ a) where
  -- not read
  module _ (m : Refusal) (e : a ≡ Err m) where
    why : answer_of (length w) (read bs) ≡ bad (number m)
    why = let t : Told bs (answer_of (length w) (read bs)) (Err m) = subst (λ (x : Result Header Refusal). Told bs (answer_of (length w) (read bs)) x) e R.answer in t

    left-so : WordsAre w w₁ (leb 16384 (length w))
    left-so = go (leb 16384 (length w)) (read bs) R.words why
      where
        same : (x : Read) → x ≡ bad (number m) → After bs w w₁ x → Cleared w w₁
        same (bad k) q h = h
        same (script s) q h = let z : ⊥ = cc in absurd z

        go : (p : Bool) (x : Read) → elim p as (λ q. Type 0) [ false ↦ w₁ ≡ w | true ↦ After bs w w₁ x ] → elim p as (λ q. Read) [ false ↦ bad 1 | true ↦ x ] ≡ bad (number m) → WordsAre w w₁ p
        go false x h q = h
        go true x h q = same x q h

    pub not-read : {r : List ℕ} → CanonIs bs r r w w₁ (numbers (says (Err m)))
    not-read {r} = canon_is (refused (number m)) (entry-read (length w) bs (length r) ∙ ap (canon_read (length r)) why) refl refl left-so

  -- read
  module _ (h : Header) (e : a ≡ Ok h) where
    abbrev W : WasRead bs w w₁
    W = was_read h R e

    abbrev s : Script
    s = W.script

    read-so : answer_of (length w) (read bs) ≡ script s
    read-so = ap₂ {C = Read} (λ (p : Bool) (x : Read). elim p [ false ↦ bad 1 | true ↦ x ]) W.long W.is

    counts : h ≡ counts_of bs s
    counts =
        let t : Told bs (answer_of (length w) (read bs)) (Ok h) = subst (λ (x : Result Header Refusal). Told bs (answer_of (length w) (read bs)) x) e R.answer in
        let q : script t.0 ≡ script s = sym t.1 ∙ read-so in
        let z : t.0 ≡ s = cc in
        t.2 ∙ ap (counts_of bs) z

    f : Found bs s (u32 bs 8) (u32 bs 16) (u32 bs 28)
    f = found bs s W.is

    nodes-are : h.nodes ≡ u32 bs 8
    nodes-are = ap (λ (x : Header). x.nodes) counts ∙ ap (λ (x : Script). length x.nodes) (sym f.is) ∙ nodes-length (u32 bs 8) (drop 32 bs)

    texts-are : h.texts ≡ u32 bs 16
    texts-are = ap (λ (x : Header). x.texts) counts ∙ ap (λ (x : Script). length x.texts) (sym f.is) ∙ texts-length (u32 bs 16) 0 (drop (32 + 16 * u32 bs 8) bs) (drop (32 + 16 * u32 bs 8 + 4 * u32 bs 16) bs)

    pub script-is : read_of bs h ≡ s
    script-is = ap₂ {C = Script} (λ (n t : ℕ). script_of bs n t) nodes-are texts-are ∙ f.is

    readable : Readable bs h.nodes h.texts
    readable =
        subst (λ (n : ℕ). Readable bs n h.texts) (sym nodes-are) (subst (λ (t : ℕ). Readable bs (u32 bs 8) t) (sym texts-are)
        (record {
          some = f.head.some;
          few = f.head.few;
          placed = record {
            stored = record { low = omega (arith, f.head.few); high = omega (arith, f.head.few, f.head.named); few = f.head.named; room = omega (arith, f.head.long) };
            size = omega (arith, f.head.long);
            rises = ap (rising 0 (ends_from (u32 bs 16) (drop (32 + 16 * u32 bs 8) bs))) rest ∙ f.rises;
          };
          ok = ap nodes_ok f.is ∙ f.shape;
        }))
      where
        rest : length bs - (32 + 16 * u32 bs 8 + 4 * u32 bs 16) ≡ u32 bs 28
        rest = omega (arith, f.head.long)

    module _ (y : Bytes bs) where
      in-texts : (i : ℕ) → i < length (texts_used s) → get_or (texts_used s) i 0 < h.texts
      unfolding texts_used
      in-texts i l =
          let all : All (λ (n : ℕ). n < length s.texts) (texts_used s) = uses-all has_text_number text_number (λ (n : ℕ). n < length s.texts) [] s.nodes tt (in-range s (sound_read bs s W.is)) in
          omega (arith, get_d-in (λ (n : ℕ). n < length s.texts) (texts_used s) i 0 all l, ap (λ (x : Header). x.texts) counts)

      fits : Fits (canon s)
      fits = fits-canon bs s y W.is

      pub held : {w₂ : List ℕ} → Numbered bs w₁ w₂ h.nodes → Held bs w₂ h
      unfolding form_of
      held N = record {
        readable = readable;
        used = N.used;
        known = subst (λ (z : Script). (i : ℕ) → i < length (texts_used z) → get_or (texts_used z) i 0 < h.texts) (sym script-is) in-texts;
        few = subst (λ (z : Script). length (canon z).texts ≤ 256) (sym script-is) fits.texts;
        small = subst (λ (z : Script). length (text_bytes (canon z).texts) ≤ 4096) (sym script-is) fits.size;
      }

      form-is : form_of bs h ≡ canon s
      unfolding form_of
      form-is = ap canon script-is

      pub written-so : {r r' w₂ w₃ : List ℕ} {x : Result ℕ Refusal} → Numbered bs w₁ w₂ h.nodes → Wrote r r' (in_room (length r) (file (form_of bs h))) x → Cleared w₂ w₃ → CanonIs bs r r' w w₃ (numbers (says x))
      written-so {r} {r'} {w₂} {w₃} {x} N O C =
          canon_is (in_room (length r) (file (form_of bs h))) (entry-read (length w) bs (length r) ∙ ap (canon_read (length r)) read-so ∙ ap (λ (z : Script). in_room (length r) (file z)) (sym form-is)) (ap numbers O.is) O.leaves
          (subst (WordsAre w w₃) (sym W.long) (record { size = C.size ∙ N.kept.size ∙ W.kept.size; here = C.here; rest = C.rest ∙ N.kept.rest ∙ W.kept.rest }))
