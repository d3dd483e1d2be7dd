-- The ends of resolving: not read, names that clash, too many identifiers, and what writing answers. Assumes nothing.
use mathlib.Core.Path.{◌≡◌, refl, sym, ap, ap₂, ◌∙◌, subst}
use mathlib.Core.Bool.{Bool, true, false}
use mathlib.Core.List.{List}
use Prim.Native.Nat.{ℕ, ◌≤◌, ◌<◌}
use borrow.Author.Tests.{le-leb, lt-leb}
use lib.Dec.{leb}
use lib.ListN.{length}
use Rattle.std.proofs.Common.{Result, Err}
use Rattle.refusal.specs.declared.Refusal.{Refusal}
use Rattle.refusal.specs.declared.Refusal.TheVariants as Row
use Rattle.refusal.specs.Number.{number}
use Rattle.words.specs.Moved.{Cleared}
use Rattle.def_file.specs.Script.{Script, idents}
use Rattle.def_file.specs.Read.{bad}
use Rattle.def_file.specs.Write.{file}
use Rattle.def_resolve.specs.Resolve.{clashes_in, resolved}
use Rattle.def_resolve.specs.Entry.{Resolving, refused, in_room, resolve_script, resolve_read, read_shaped, resolve_entry}
use Rattle.file_write.specs.Written.{says, refused as not_written}
use Rattle.file_copy.specs.Copy.{numbers, WordsAre}
use Rattle.file_read.specs.declared.header.Header.{Header}
use Rattle.file_read.specs.Load.{Kept}
use Rattle.file_resolve.specs.Check.{read_of, Shaped}
use Rattle.file_resolve.specs.Resolve.{told, left, Wrote, Resolves, ResolveIs}

-- a refusal by its number
pub wrote-none : {r : List ℕ} {n : ℕ} (m : Refusal) → number m ≡ n → Wrote r r (refused n) (Err m)
wrote-none m e = record { is = ap (λ (n : ℕ). not_written n) e; leaves = refl }

pub resolves-as : {r r' w w' : List ℕ} {x y : Resolving} {a : Result ℕ Refusal} → y ≡ x → Wrote r r' x a → Kept w w' → Resolves r r' w w' y a
resolves-as {r} {r'} {a = a} e o k = record { wrote = subst (λ (z : Resolving). Wrote r r' z a) (sym e) o; kept = k }

-- the rows of a script that was read
module _ (room : ℕ) (s : Script) where
  by : (p q : Bool) → clashes_in s ≡ p → leb (length (idents (resolved s))) 256 ≡ q → resolve_script room s ≡ elim p [ true ↦ refused 13 | false ↦ elim q [ false ↦ refused 7 | true ↦ in_room room (file (resolved s)) ] ]
  by p q e f = ap₂ {C = Resolving} (λ (p q : Bool). elim p [ true ↦ refused 13 | false ↦ elim q [ false ↦ refused 7 | true ↦ in_room room (file (resolved s)) ] ]) e f

  pub clash-so : clashes_in s ≡ true → resolve_script room s ≡ refused 13
  clash-so e = by true (leb (length (idents (resolved s))) 256) e refl

  module _ (e : clashes_in s ≡ false) where
    pub many-so : 256 < length (idents (resolved s)) → resolve_script room s ≡ refused 7
    many-so h = by false false e (lt-leb (length (idents (resolved s))) 256 h)

    pub few-so : length (idents (resolved s)) ≤ 256 → resolve_script room s ≡ in_room room (file (resolved s))
    few-so h = by false true e (le-leb (length (idents (resolved s))) 256 h)

-- the whole
pub unread : (bs r w : List ℕ) {m : Refusal} → read_shaped bs ≡ bad (number m) → Resolves r r w w (resolve_read (length r) (read_shaped bs)) (Err m)
unread bs r w {m} e = resolves-as (ap (resolve_read (length r)) e) (wrote-none m refl) (record { size = refl; rest = refl })

pub was-read : {bs r r' w w' : List ℕ} {h : Header} {a : Result ℕ Refusal} → Shaped bs h → Resolves r r' w w' (resolve_script (length r) (read_of bs h)) a → Resolves r r' w w' (resolve_read (length r) (read_shaped bs)) a
was-read {r = r} S R = resolves-as (ap (resolve_read (length r)) S.is) R.wrote R.kept

resolve_is : {bs r r' w w' : List ℕ} {a : Result ℕ Refusal} (z : Resolving) → resolve_entry (length w) bs (length r) ≡ z → Wrote r r' z a → WordsAre w w' (leb 16384 (length w)) → ResolveIs bs r r' w w' (numbers (says a))
resolve_is {r = r} z e o h = record { answer = ap numbers o.is ∙ ap (λ (x : Resolving). numbers (told x)) (sym e); result = o.leaves ∙ ap (left r) (sym e); words = h }

module _ (bs r w : List ℕ) where
  entry : (p : Bool) → leb 16384 (length w) ≡ p → resolve_entry (length w) bs (length r) ≡ elim p [ false ↦ refused 1 | true ↦ resolve_read (length r) (read_shaped bs) ]
  unfolding resolve_entry
  entry p e = ap {B = Resolving} (λ (p : Bool). elim p [ false ↦ refused 1 | true ↦ resolve_read (length r) (read_shaped bs) ]) e

  pub few-words : length w < 16384 → ResolveIs bs r r w w (numbers (says (Err Row.Call)))
  few-words l =
      let e = lt-leb 16384 (length w) l in
      resolve_is (refused 1) (entry false e) (wrote-none Row.Call refl) (subst (WordsAre w w) (sym e) refl)

  pub ended : {r' w₁ w₂ : List ℕ} {a : Result ℕ Refusal} → 16384 ≤ length w → Resolves r r' w w₁ (resolve_read (length r) (read_shaped bs)) a → Cleared w₁ w₂ → ResolveIs bs r r' w w₂ (numbers (says a))
  ended {w₂ = w₂} l R C =
      let e = le-leb 16384 (length w) l in
      resolve_is (resolve_read (length r) (read_shaped bs)) (entry true e) R.wrote
      (subst (WordsAre w w₂) (sym e) (record { size = C.size ∙ R.kept.size; here = C.here; rest = C.rest ∙ R.kept.rest }))
