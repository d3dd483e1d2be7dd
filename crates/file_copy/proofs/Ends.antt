-- The ends of copying: not read, no room, and the whole file. Assumes nothing.
use mathlib.Core.Path.{◌≡◌, refl, sym, ap, ap₂, ◌∙◌, subst}
use mathlib.Core.Bool.{Bool, true, false}
use mathlib.Core.List.{List}
use Prim.Native.Nat.{ℕ, ◌+◌, ◌*◌, ◌≤◌}
use native.Mathlib.Omega.{arith}
use lib.Dec.{leb}
use lib.ListN.{length, drop}
use Rattle.words.specs.Moved.{Cleared}
use Rattle.def_file.specs.Script.{Script}
use Rattle.def_file.specs.Read.{Read, bad, script, read, u32}
use Rattle.def_file.specs.Write.{file}
use Rattle.laws_roundtrip.specs.Fits.{Bytes}
use Rattle.laws_roundtrip.proofs.Nodes.{nodes-length}
use Rattle.laws_roundtrip.proofs.Round.{Found, found}
use Rattle.file_read.specs.declared.header.Header.{Header}
use Rattle.file_read.specs.Idents.{Listed}
use Rattle.file_read.specs.Load.{Kept}
use Rattle.file_read.specs.Reading.{Held, Told, After, WordsAre as ReadWords, ReadIs}
use Rattle.std.specs.Prelude.{Result, Ok, Err}
use Rattle.refusal.specs.declared.Refusal.{Refusal}
use Rattle.refusal.specs.Number.{number}
use Rattle.file_write.specs.Written.{Answer as Said, refused, says, in_room, written, left, result_bytes, Wrote}
use Rattle.file_write.proofs.Tied.{result_script, wrote-file}
use Rattle.file_copy.specs.declared.Copied.{Copied}
use Rattle.file_copy.specs.Copy.{roomed, ending, numbers, WordsAre, CopyIs}
use Rattle.file_copy.proofs.Again.{same-file}

-- how it ends, by what is read
module _ (bs r w : List ℕ) where
  ends : (p : Bool) (x : Read) → leb 16384 (length w) ≡ p → read bs ≡ x → ending bs (length r) (length w) ≡ elim p [ false ↦ refused 1 | true ↦ roomed bs (length r) x ]
  ends p x e q = ap₂ {C = Said} (λ (p : Bool) (x : Read). elim p [ false ↦ refused 1 | true ↦ roomed bs (length r) x ]) e q

  copy_is : {r' w' : List ℕ} {c : Copied} (z : Said) (p : Bool) → ending bs (length r) (length w) ≡ z → leb 16384 (length w) ≡ p → c ≡ numbers z → r' ≡ left bs r z → WordsAre w w' p → CopyIs bs r r' w w' c
  copy_is {r'} {w'} z p e q a l h = record { answer = a ∙ ap numbers (sym e); result = l ∙ ap (left bs r) (sym e); words = subst (WordsAre w w') (sym q) h }

-- what reading answered, by the two tests of row 1 and of the others
module _ {bs w w₁ : List ℕ} {a : Result Header Refusal} (R : ReadIs bs w w₁ a) where
  by : (p : Bool) (x : Read) → leb 16384 (length w) ≡ p → read bs ≡ x → Told bs (elim p [ false ↦ bad 1 | true ↦ x ]) a
  by p x e q = subst (λ (y : Read). Told bs y a) (ap₂ {C = Read} (λ (p : Bool) (x : Read). elim p [ false ↦ bad 1 | true ↦ x ]) e q) R.answer

  told-err : (y : Read) (m : Refusal) → a ≡ Err m → Told bs y a → y ≡ bad (number m)
  told-err y m e t = subst (λ (z : Result Header Refusal). Told bs y z) e t

  after : (x : Read) → leb 16384 (length w) ≡ true → read bs ≡ x → After bs w w₁ x
  after x e q = subst (After bs w w₁) q (subst (ReadWords (read bs) bs w w₁) e R.words)

  pub not-read : {r : List ℕ} (m : Refusal) → a ≡ Err m → CopyIs bs r r w w₁ (numbers (refused (number m)))
  not-read {r} m h = go (leb 16384 (length w)) (read bs) refl refl
    where
      same : (j k : ℕ) → bad j ≡ bad k → numbers (refused k) ≡ numbers (refused j)
      same j k z = cc

      go : (p : Bool) (x : Read) → leb 16384 (length w) ≡ p → read bs ≡ x → CopyIs bs r r w w₁ (numbers (refused (number m)))
      go false x e q = copy_is bs r w (refused 1) false (ends bs r w false x e q) e (same 1 (number m) (told-err (bad 1) m h (by false x e q))) refl (subst (ReadWords (read bs) bs w w₁) e R.words)
      go true (bad k) e q = copy_is bs r w (refused k) true (ends bs r w true (bad k) e q) e (same k (number m) (told-err (bad k) m h (by true (bad k) e q))) refl (after (bad k) e q)
      go true (script s) e q = let z = told-err (script s) m h (by true (script s) e q) in cc

-- a script that was read
pub record WasRead (bs w w₁ : List ℕ) : Type 0 where
  pub script : Script
  pub is : read bs ≡ Read.script script
  pub long : leb 16384 (length w) ≡ true
  pub held : Held bs w₁ script
  pub kept : Kept w w₁

pub was_read : {bs w w₁ : List ℕ} {a : Result Header Refusal} (h : Header) → ReadIs bs w w₁ a → a ≡ Ok h → WasRead bs w w₁
was_read {bs} {w} {w₁} {a} h R z = go (leb 16384 (length w)) (read bs) refl refl
  where
    told-ok : (y : Read) → Told bs y a → (s : Script) × (y ≡ script s)
    told-ok y t = let u : Told bs y (Ok h) = subst (λ (x : Result Header Refusal). Told bs y x) z t in (u.0, u.1)

    go : (p : Bool) (x : Read) → leb 16384 (length w) ≡ p → read bs ≡ x → WasRead bs w w₁
    go false x e q = let t = (told-ok (bad 1) (by R false x e q)).1 in cc
    go true (bad k) e q = let t = (told-ok (bad k) (by R true (bad k) e q)).1 in cc
    go true (script s) e q = record { script = s; is = q; long = e; held = (after R (script s) e q).0; kept = (after R (script s) e q).1 }

module _ {bs w w₁ : List ℕ} (W : WasRead bs w w₁) where
  was : Found bs W.script (u32 bs 8) (u32 bs 16) (u32 bs 28)
  was = found bs W.script W.is

  count : length W.script.nodes ≡ u32 bs 8
  count = ap (λ (s : Script). length s.nodes) (sym was.is) ∙ nodes-length (u32 bs 8) (drop 32 bs)

  pub long-words : 16384 ≤ length w₁
  long-words = W.held.listed.long

  module _ (y : Bytes bs) {r r' w₂ : List ℕ} {x : Result ℕ Refusal} (O : Wrote (result_bytes bs w₁) r r' (written bs w₁ (length r)) x) (C : Cleared w₁ w₂) where
    same : file (result_script W.script w₁) ≡ bs
    same = same-file y W.is W.held

    -- the file itself was written, or did not fit
    wrote-same : Wrote bs r r' (in_room (length bs) (length r)) x
    wrote-same =
        subst (λ (out : List ℕ). Wrote out r r' (in_room (length out) (length r)) x) same
        (wrote-file bs w₁ W.script W.is (subst (λ (n : ℕ). Listed w₁ n) count W.held.listed) W.held.ids y long-words
        (omega (arith, W.held.count, count, was.head.some)) (omega (arith, W.held.count, count, was.head.few)) r r' x O)

    ends_so : ending bs (length r) (length w) ≡ in_room (length bs) (length r)
    ends_so = ends bs r w true (script W.script) W.long W.is

    -- and the answer says so
    pub written_back : CopyIs bs r r' w w₂ (numbers (says x))
    written_back =
        copy_is bs r w (in_room (length bs) (length r)) true ends_so W.long (ap numbers wrote-same.is) wrote-same.leaves
        (record { size = C.size ∙ W.kept.size; here = C.here; rest = C.rest ∙ W.kept.rest })

-- the counts of a script that was read are within the file
pub within : {bs w w₁ : List ℕ} {a : Result Header Refusal} (h : Header) → ReadIs bs w w₁ a → a ≡ Ok h → (h.nodes ≤ 1024) × (32 + 16 * h.nodes ≤ length bs)
within {bs} {w} {w₁} {a} h R z =
    let W = was_read h R z in
    let t : Told bs (script W.script) (Ok h) = subst (λ (x : Result Header Refusal). Told bs (script W.script) x) z (by R true (script W.script) W.long W.is) in
    let n = count W in
    (omega (arith, same t, n, (was W).head.few), omega (arith, same t, n, (was W).head.long))
  where
    same : {s : Script} → Told bs (script s) (Ok h) → h.nodes ≡ length s.nodes
    same {s} t = let q : script s ≡ script t.0 = t.1 in let r : s ≡ t.0 = cc in ap (λ (i : Header). i.nodes) t.2 ∙ ap (λ (x : Script). length x.nodes) (sym r)
