-- The ends of printing: no text, no room for it, and the text; and what reading says of the script. Assumes nothing.
use mathlib.Core.Path.{◌≡◌, refl, sym, ap, ap₂, ◌∙◌, subst}
use mathlib.Core.Bool.{Bool, true, false}
use mathlib.Core.List.{List, ◌++◌}
use Prim.Native.Nat.{ℕ, ◌+◌, ◌-◌, ◌*◌, ◌≤◌, ◌<◌}
use native.Mathlib.Nat.{zero-add}
use native.Mathlib.Omega.{arith}
use borrow.Author.Tests.{le-leb, lt-leb}
use lib.Dec.{leb}
use lib.ListN.{length, drop}
use Rattle.std.specs.Prelude.{Result, Ok, Err}
use Rattle.refusal.specs.declared.Refusal.{Refusal}
use Rattle.refusal.specs.declared.Refusal.TheVariants.{NoText, TextBuffer}
use Rattle.refusal.specs.Number.{number}
use Rattle.words.specs.Moved.{Cleared}
use Rattle.def_file.specs.Script.{Script}
use Rattle.def_file.specs.Read.{Read, bad, script, u32, rising, ends_from, nodes_ok, read}
use Rattle.laws_roundtrip.proofs.Nodes.{nodes-length}
use Rattle.laws_roundtrip.proofs.Texts.{texts-length}
use Rattle.laws_roundtrip.proofs.Round.{Found, found}
use Rattle.file_read.specs.declared.header.Header.{Header}
use Rattle.file_read.specs.Load.{Kept, script_of, Readable}
use Rattle.file_read.specs.Reading.{counts_of, Told, answer_of, After, ReadIs}
use Rattle.file_write.specs.Written.{says}
use Rattle.file_copy.specs.declared.Copied.{Copied}
use Rattle.file_copy.specs.Copy.{numbers, WordsAre}
use Rattle.file_copy.proofs.Ends.{WasRead, was_read, long-words}
use Rattle.number_text.specs.Put.{Puts}
use Rattle.def_text.specs.Print.{has_text, text}
use Rattle.def_text.specs.Entry.{Printing, refused, wrote, tree, print_read, print_entry}
use Rattle.text_words.specs.Decimals.{decimal_text}
use Rattle.text_tokens.specs.Tokens.{script_at}
use Rattle.text_tokens.specs.Bytes.{rendered}
use Rattle.text_choice.specs.Trees.{spelled}
use Rattle.text_walk.specs.Lists.{listed}
use Rattle.text_walk.specs.Walk.{Lined, ScriptIs, put_script}
use Rattle.file_text.specs.Text.{told, left, Wrote, TextIs}
use Rattle.file_text.proofs.Trees.{text-is, no-text}

-- what is written of a script that was read
module _ (bs : List ℕ) (h : Header) (R : Readable bs h.nodes h.texts) where
  abbrev s : Script
  s = script_at bs h

  abbrev out : List ℕ
  out = text (spelled bs h) (tree s)

  by : (room : ℕ) (p q : Bool) → has_text (spelled bs h) (tree s) ≡ p → leb (length out) room ≡ q → print_read decimal_text room (script s) ≡ elim p [ false ↦ refused 12 | true ↦ elim q [ false ↦ refused 11 | true ↦ wrote out ] ]
  by room p q e f = ap₂ {C = Printing} (λ (p q : Bool). elim p [ false ↦ refused 12 | true ↦ elim q [ false ↦ refused 11 | true ↦ wrote out ] ]) e f

  wrote_so : {r r' w w' : List ℕ} {a : Result ℕ Refusal} (z : Printing) → print_read decimal_text (length r) (script s) ≡ z → says a ≡ told z → r' ≡ left r z → Kept w w' → Wrote s r r' w w' a
  wrote_so {r} z e a l k = record { is = a ∙ ap told (sym e); leaves = l ∙ ap (left r) (sym e); kept = k }

  pub no-text-so : {r w w' : List ℕ} → ScriptIs bs h w w' false → Wrote s r r w w' (Err NoText)
  no-text-so {r} S = wrote_so (refused 12) (by (length r) false (leb (length out) (length r)) (no-text bs h R S.0) refl) refl refl S.1

  module _ {w w' : List ℕ} (L : Lined bs h w w' (put_script bs h)) where
    is-text : rendered bs h (listed w') ≡ out
    is-text = L.bytes ∙ (text-is bs h R L.lists L.is).1

    pub no-room-so : {r : List ℕ} {n : ℕ} → n ≡ length (rendered bs h (listed w')) → length r < n → Wrote s r r w w' (Err TextBuffer)
    no-room-so {r} e l = wrote_so (refused 11) (by (length r) true false (text-is bs h R L.lists L.is).0 (lt-leb (length out) (length r) (omega (arith, e, ap length is-text)))) refl refl L.kept

    pub written-so : {r r' : List ℕ} {n : ℕ} → n ≡ length (rendered bs h (listed w')) → n ≤ length r → Puts r r' 0 (rendered bs h (listed w')) → Wrote s r r' w w' (Ok n)
    written-so {r} {r'} {n} e l p =
        let q : n ≡ length out = e ∙ ap length is-text in
        wrote_so (wrote out) (by (length r) true true (text-is bs h R L.lists L.is).0 (le-leb (length out) (length r) (omega (arith, q)))) (ap says (ap (λ (m : ℕ). Ok m) q))
        (p ∙ ap (λ (xs : List ℕ). xs ++ drop (0 + length xs) r) is-text ∙ ap (λ (m : ℕ). out ++ drop m r) (zero-add (length out))) L.kept

-- the writer, by what reading answers
entry-read : (words : ℕ) (bs : List ℕ) (room : ℕ) → print_entry decimal_text words bs room ≡ print_read decimal_text room (answer_of words (read bs))
unfolding print_entry
entry-read words bs room = go (leb 16384 words)
  where
    go : (p : Bool) → elim p as (λ q. Printing) [ false ↦ refused 1 | true ↦ print_read decimal_text room (read bs) ] ≡ print_read decimal_text room (elim p as (λ q. Read) [ false ↦ bad 1 | true ↦ read bs ])
    go false = refl
    go true = refl

text_is : {bs r r' w w' : List ℕ} {c : Copied} (z : Printing) → print_entry decimal_text (length w) bs (length r) ≡ z → c ≡ numbers (told z) → r' ≡ left r z → WordsAre w w' (leb 16384 (length w)) → TextIs bs r r' w w' c
text_is {r = r} z e a l h = record { answer = a ∙ ap (λ (x : Printing). numbers (told x)) (sym e); result = l ∙ ap (left r) (sym e); words = h }

module _ {bs w w₁ : List ℕ} {a : Result Header Refusal} (R : ReadIs bs w w₁ a) where
  -- not read
  module _ (m : Refusal) (e : a ≡ Err m) where
    why : answer_of (length w) (read bs) ≡ bad (number m)
    why = let t : Told bs (answer_of (length w) (read bs)) (Err m) = subst (λ (x : Result Header Refusal). Told bs (answer_of (length w) (read bs)) x) e R.answer in t

    left-so : WordsAre w w₁ (leb 16384 (length w))
    left-so = go (leb 16384 (length w)) (read bs) R.words why
      where
        same : (x : Read) → x ≡ bad (number m) → After bs w w₁ x → Cleared w w₁
        same (bad k) q h = h
        same (script s) q h = let z : ⊥ = cc in absurd z

        go : (p : Bool) (x : Read) → elim p as (λ q. Type 0) [ false ↦ w₁ ≡ w | true ↦ After bs w w₁ x ] → elim p as (λ q. Read) [ false ↦ bad 1 | true ↦ x ] ≡ bad (number m) → WordsAre w w₁ p
        go false x h q = h
        go true x h q = same x q h

    pub not-read : {r : List ℕ} → TextIs bs r r w w₁ (numbers (says (Err m)))
    not-read {r} = text_is (refused (number m)) (entry-read (length w) bs (length r) ∙ ap (print_read decimal_text (length r)) why) refl refl left-so

  -- read
  module _ (h : Header) (e : a ≡ Ok h) where
    abbrev W : WasRead bs w w₁
    W = was_read h R e

    abbrev z : Script
    z = W.script

    read-so : answer_of (length w) (read bs) ≡ script z
    read-so = ap₂ {C = Read} (λ (p : Bool) (x : Read). elim p [ false ↦ bad 1 | true ↦ x ]) W.long W.is

    counts : h ≡ counts_of bs z
    counts =
        let t : Told bs (answer_of (length w) (read bs)) (Ok h) = subst (λ (x : Result Header Refusal). Told bs (answer_of (length w) (read bs)) x) e R.answer in
        let q : script t.0 ≡ script z = sym t.1 ∙ read-so in
        let p : t.0 ≡ z = cc in
        t.2 ∙ ap (counts_of bs) p

    f : Found bs z (u32 bs 8) (u32 bs 16) (u32 bs 28)
    f = found bs z W.is

    nodes-are : h.nodes ≡ u32 bs 8
    nodes-are = ap (λ (x : Header). x.nodes) counts ∙ ap (λ (x : Script). length x.nodes) (sym f.is) ∙ nodes-length (u32 bs 8) (drop 32 bs)

    texts-are : h.texts ≡ u32 bs 16
    texts-are = ap (λ (x : Header). x.texts) counts ∙ ap (λ (x : Script). length x.texts) (sym f.is) ∙ texts-length (u32 bs 16) 0 (drop (32 + 16 * u32 bs 8) bs) (drop (32 + 16 * u32 bs 8 + 4 * u32 bs 16) bs)

    script-is : script_at bs h ≡ z
    script-is = ap₂ {C = Script} (λ (n t : ℕ). script_of bs n t) nodes-are texts-are ∙ f.is

    pub readable : Readable bs h.nodes h.texts
    readable =
        subst (λ (n : ℕ). Readable bs n h.texts) (sym nodes-are) (subst (λ (t : ℕ). Readable bs (u32 bs 8) t) (sym texts-are)
        (record {
          some = f.head.some;
          few = f.head.few;
          placed = record {
            stored = record { low = omega (arith, f.head.few); high = omega (arith, f.head.few, f.head.named); few = f.head.named; room = omega (arith, f.head.long) };
            size = omega (arith, f.head.long);
            rises = ap (rising 0 (ends_from (u32 bs 16) (drop (32 + 16 * u32 bs 8) bs))) rest ∙ f.rises;
          };
          ok = ap nodes_ok f.is ∙ f.shape;
        }))
      where
        rest : length bs - (32 + 16 * u32 bs 8 + 4 * u32 bs 16) ≡ u32 bs 28
        rest = omega (arith, f.head.long)

    pub short : length bs ≤ 65536
    short = omega (arith, f.head.long, f.head.few, f.head.named, f.head.small)

    pub long-enough : 16384 ≤ length w₁
    long-enough = long-words W

    pub text-so : {r r' w₂ w₃ : List ℕ} {x : Result ℕ Refusal} → Wrote (script_at bs h) r r' w₁ w₂ x → Cleared w₂ w₃ → TextIs bs r r' w w₃ (numbers (says x))
    text-so {r} {r'} {w₂} {w₃} {x} O C =
        text_is (print_read decimal_text (length r) (script (script_at bs h))) (entry-read (length w) bs (length r) ∙ ap (print_read decimal_text (length r)) (read-so ∙ ap (λ (y : Script). script y) (sym script-is))) (ap numbers O.is) O.leaves
        (subst (WordsAre w w₃) (sym W.long) (record { size = C.size ∙ O.kept.size ∙ W.kept.size; here = C.here; rest = C.rest ∙ O.kept.rest ∙ W.kept.rest }))
