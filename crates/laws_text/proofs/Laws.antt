-- The entry answers as it should. Assumes nothing.
use mathlib.Core.Path.{◌≡◌, refl, subst}
use mathlib.Core.Bool.{Bool, true, false, ◌&&◌}
use mathlib.Core.List.{List}
use Prim.Native.Nat.{ℕ, ◌+◌, ◌*◌, ◌≤◌}
use native.Mathlib.Omega.{arith}
use Rattle.std.proofs.Common.{inl, inr}
use lib.Dec.{T, eqb, leb}
use lib.ListN.{length, drop}
use borrow.Author.Tests.{leb-true, leb-false}
use Rattle.def_file.specs.Script.{Script, idents}
use Rattle.def_file.specs.Read.{Read, bad, script, u32, ends_from, texts_from, nodes_from, rising, distinct, nodes_ok, checked, read}
use Rattle.def_text.specs.Words.{Word}
use Rattle.def_text.specs.Derives.{tokens}
use Rattle.def_text.specs.Print.{printed, has_text, text}
use Rattle.def_text.specs.Entry.{tree, spell, refused, wrote, print_read, print_entry}
use Rattle.laws_text.specs.Entry.{Why, few_words, not_read, no_text, no_room, prints, Answers, PairsNeeded}
use Rattle.laws_text.proofs.Basics.{is_T}
use Rattle.laws_text.proofs.Shape.{sound}
use Rattle.laws_text.proofs.Bytes.{lexed}
use Rattle.laws_text.proofs.Complete as Complete
use Rattle.laws_text.proofs.Least.{least}
use Rattle.laws_text.proofs.Elsewhere.{none-inside}
use Rattle.laws_text.proofs.Readable.{pairs-read}

-- what was read passed row 6
not-bad : {P : Type 0} (r : ℕ) (s : Script) → bad r ≡ script s → P
not-bad r s e = let z : ◌≡◌ {A = ℕ} 0 1 = cc in absurd (omega arith)

same-script : (a b : Script) → script a ≡ script b → a ≡ b
same-script a b e = cc

passed : {P : Type 0} (c : Bool) (r : ℕ) (x : Read) (s : Script) → elim c [ false ↦ bad r | true ↦ x ] ≡ script s → (T c → x ≡ script s → P) → P
passed false r x s e k = not-bad r s e
passed true r x s e k = k tt e

checked-ok : (a s : Script) → checked a ≡ script s → T (nodes_ok s)
unfolding nodes_ok idents
checked-ok a s e = passed (nodes_ok a) 6 _ s e λ t e₁. passed (leb (length (idents a)) 256) 7 (script a) s e₁ λ u e₂. subst (λ (x : Script). T (nodes_ok x)) (same-script a s e₂) t

pub read_ok : (bs : List ℕ) (s : Script) → read bs ≡ script s → T (nodes_ok s)
unfolding read
read_ok bs s e =
    let n = u32 bs 8 in
    let t = u32 bs 16 in
    let b = u32 bs 28 in
    let ends = ends_from t (drop (32 + 16 * n) bs) in
    let texts = texts_from 0 ends (drop (32 + 16 * n + 4 * t) bs) in
    passed (leb 32 (length bs) && eqb (u32 bs 0) 1) 2 _ s e λ h e₁.
    passed (leb 1 n && leb n 1024 && leb t 256 && leb b 4096) 3 _ s e₁ λ h e₂.
    passed (eqb (u32 bs 4) (length bs) && eqb (u32 bs 12) 32 && eqb (u32 bs 20) (32 + 16 * n) && eqb (u32 bs 24) (32 + 16 * n + 4 * t) && eqb (u32 bs 4) (32 + 16 * n + 4 * t + b)) 4 _ s e₂ λ h e₃.
    passed (rising 0 ends b && distinct texts) 5 _ s e₃ λ h e₄. checked-ok (record { nodes = nodes_from n (drop 32 bs); texts = texts }) s e₄

module _ (decimal : ℕ → Word) (words : ℕ) (bs : List ℕ) (room : ℕ) (w : 16384 ≤ words) where
  written : (s : Script) → read bs ≡ script s → T (has_text (spell decimal s) (tree s)) → (b : Bool) → leb (length (text (spell decimal s) (tree s))) room ≡ b → Why decimal words bs room (elim b [ false ↦ refused 11 | true ↦ wrote (text (spell decimal s) (tree s)) ])
  written s e h true q = prints s (tokens (spell decimal s) (printed (spell decimal s) (tree s))) w e (lexed (spell decimal s) (tree s) h) (sound (spell decimal s) (tree s) h) (leb-true (length (text (spell decimal s) (tree s))) room q)
  written s e h false q = no_room s (tokens (spell decimal s) (printed (spell decimal s) (tree s))) w e (sound (spell decimal s) (tree s) h) (leb-false (length (text (spell decimal s) (tree s))) room q)

  read-script : (s : Script) → read bs ≡ script s → (b : Bool) → has_text (spell decimal s) (tree s) ≡ b
      → Why decimal words bs room (elim b [ false ↦ refused 12 | true ↦ elim (leb (length (text (spell decimal s) (tree s))) room) [ false ↦ refused 11 | true ↦ wrote (text (spell decimal s) (tree s)) ] ])
  read-script s e true q = written s e (is_T (has_text (spell decimal s) (tree s)) q) (leb (length (text (spell decimal s) (tree s))) room) refl
  read-script s e false q = no_text s w e (λ ws r. subst T q (Complete.refused (spell decimal s) (tree s) ws (pairs-read s (read_ok bs s e)) r))

  read-by : (x : Read) → read bs ≡ x → Why decimal words bs room (print_read decimal room x)
  read-by (bad n) e = not_read n w e
  read-by (script s) e = read-script s e (has_text (spell decimal s) (tree s)) refl

pub answers : Answers
unfolding print_entry
answers decimal words bs room = go (leb 16384 words) refl
  where
    go : (b : Bool) → leb 16384 words ≡ b → Why decimal words bs room (elim b [ false ↦ refused 1 | true ↦ print_read decimal room (read bs) ])
    go true e = read-by decimal words bs room (leb-true 16384 words e) (read bs) refl
    go false e = few_words (leb-false 16384 words e)

pub pairs-needed : PairsNeeded
pairs-needed decimal bs s v e (inl l) r = least (spell decimal s) (tree s) v (pairs-read s (read_ok bs s e)) l r
pairs-needed decimal bs s v e (inr l) r = none-inside (spell decimal s) (tree s) v (pairs-read s (read_ok bs s e)) l r
