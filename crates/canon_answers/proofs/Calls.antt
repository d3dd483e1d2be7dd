-- What calls have in common that write canonical files, or make the pass on one. Assumes nothing.
use mathlib.Core.Path.{◌≡◌, refl, sym, ap, ap₂, ◌∙◌, subst}
use mathlib.Core.Bool.{Bool, true, false, ◌&&◌}
use mathlib.Core.List.{List, ◌++◌}
use Prim.Native.Nat.{ℕ, ◌≤◌}
use native.Mathlib.Omega.{arith}
use lib.Dec.{leb}
use borrow.Author.Tests.{clash}
use Rattle.std.proofs.Math.Seq.{take-append_seam}
use Rattle.std.proofs.Common.{◌↔◌, length-append}
use Rattle.laws_roundtrip.specs.Fits.{Bytes}
use lib.ListN.{length, take, drop}
use Rattle.def_file.specs.Script.{Script}
use Rattle.def_file.specs.Read.{bad, script, read}
use Rattle.def_file.specs.Write.{file}
use Rattle.def_pass.specs.Entry as entries
use Rattle.def_pass.specs.Entry.{Entry, enough, entry_read, entry}
use Rattle.def_under.specs.Reading.{lent}
use Rattle.def_under.specs.Entry.{entry_under}
use Rattle.def_canon.specs.Canon.{canon}
use Rattle.def_canon.specs.Differ.{Differ, SameEnds}
use Rattle.def_canon.specs.Entry.{Writing, refused, wrote, canon_entry}
use Rattle.laws_canon.specs.Canon.{Why, few_words, not_read, no_room, has_room}
use Rattle.laws_canon.proofs.Laws.{one-file, canon-again, writes-again, answers, read-canon}
use Rattle.laws_canon.proofs.Commutes.{commutes}
use Rattle.laws_canon.proofs.Under.{commutes-under}
use Rattle.file_copy.specs.declared.Copied.{Copied}
use Rattle.file_copy.specs.Copy.{numbers, WordsAre}
use Rattle.file_canon.specs.Canon.{told, left, CanonIs}
use Rattle.canon_answers.specs.Calls.{CallIs, written, Unchanged, Wrote, OneFileForOneScript, WrittenOnce, PassOnWritten, PassOnWrittenUnder}

-- a call of the writer that does not refuse
pub record Did (bs r r' w : List ℕ) (c : Copied) : Type 0 where
  pub given : Script
  pub enough : 16384 ≤ length w
  pub is-read : read bs ≡ script given
  pub answer : c ≡ record { refused = 0; length = length (file (canon given)) }
  pub is : written c r' ≡ file (canon given)

not-refused : {P : Type 0} {n : ℕ} {c : Copied} → c ≡ record { refused = n; length = 0 } → c.refused ≡ 0 → 1 ≤ n → P
not-refused {P} {n} {c} e h l = let r : c.refused ≡ n = ap (λ (x : Copied). x.refused) e in absurd (omega (arith, r, h, l))

did : {bs r r' w w' : List ℕ} {c : Copied} → CanonIs bs r r' w w' c → c.refused ≡ 0 → Did bs r r' w c
did {bs} {r} {r'} {w} {w'} {c} R z = go (answers (length w) bs (length r)) R.answer R.result
  where
    go : {x : Writing} → Why (length w) bs (length r) x → c ≡ numbers (told x) → r' ≡ left r x → Did bs r r' w c
    go (few_words l) e q = not-refused e z (omega arith)
    go (not_read n l k a b) e q = not-refused e z (omega (arith, a))
    go (no_room s l k a) e q = not-refused e z (omega arith)
    go (has_room s l k a) e q = record {
      given = s;
      enough = l;
      is-read = k;
      answer = e;
      is = ap₂ {C = List ℕ} take (ap (λ (y : Copied). y.length) e) q ∙ take-append_seam (file (canon s)) (drop (length (file (canon s))) r);
    }

-- what was written is the canonical file of the script that was read
pub record Written (bs out : List ℕ) : Type 0 where
  pub script! : Script
  pub is-read : read bs ≡ script script!
  pub is : out ≡ file (canon script!)

of-script : (bs out : List ℕ) → Wrote bs out → Written bs out
of-script bs out x = let d = did x.call x.accepted in record { script! = d.given; is-read = d.is-read; is = x.is ∙ d.is }

same-script : (a b : Script) (bs : List ℕ) → read bs ≡ script a → read bs ≡ script b → a ≡ b
same-script a b bs p q = one (sym p ∙ q)
  where
    one : script a ≡ script b → a ≡ b
    one e = cc

-- so what was written is that script's canonical file
written-of : (bs out : List ℕ) (s : Script) → read bs ≡ script s → Wrote bs out → out ≡ file (canon s)
written-of bs out s p x = let m = of-script bs out x in m.is ∙ ap (λ (t : Script). file (canon t)) (same-script m.script! s bs m.is-read p)

pub one-file-for-one-script : OneFileForOneScript
one-file-for-one-script as' bs a b out out' y z p q x w =
    let l = one-file as' bs a b y z p q in
    let f = written-of as' out a p x in
    let g = written-of bs out' b q w in
    (λ e. l.0 (sym f ∙ e ∙ g), λ d. f ∙ l.1 d ∙ sym g)

pub written-once : WrittenOnce
written-once bs out out' y x w =
    let m = of-script bs out x in
    let r : read out ≡ script (canon m.script!) = ap read m.is ∙ read-canon bs m.script! y m.is-read in
    written-of out out' (canon m.script!) r w ∙ ap file (canon-again bs m.script! y m.is-read) ∙ sym m.is

-- of the words only whether they are enough matters
entry-words : (runs n m : ℕ) (bs : List ℕ) (room : ℕ) → leb 16384 n ≡ leb 16384 m → entry runs n bs room ≡ entry runs m bs room
unfolding entry
entry-words runs n m bs room e = ap {B = Entry} (λ (p : Bool). elim (leb 1 runs && leb runs 16 && p) [ false ↦ entries.refused 1 | true ↦ entry_read runs room (read bs) ]) e

entry-words-under : (T : List ℕ) (runs n m : ℕ) (bs : List ℕ) (room : ℕ) → leb 16384 n ≡ leb 16384 m → entry_under runs n T bs room ≡ entry_under runs m T bs room
unfolding entry_under
entry-words-under T runs n m bs room e = ap {B = Entry} (λ (p : Bool). elim (leb 1 runs && leb runs 16 && p) [ false ↦ entries.refused 1 | true ↦ entry_read runs room (lent T bs) ]) e

pub pass-on-written : PassOnWritten
pass-on-written bs out y x runs r r' w w' c s s' v v' d e X Y =
    let m = of-script bs out x in
    record {
      one = entry runs (length w) bs (length r);
      two = entry runs (length v) out (length s);
      one_answer = X.answer;
      two-answer = Y.answer;
      one_result = X.result;
      two-result = Y.result;
      same = subst (λ (z : Entry). SameEnds (entry runs (length w) bs (length r)) z) (entry-words runs (length w) (length v) (file (canon m.script!)) (length s) e ∙ ap (λ (o : List ℕ). entry runs (length v) o (length s)) (sym m.is)) (commutes bs m.script! y m.is-read runs (length w) (length r) (length s));
    }

pub pass-on-written-under : PassOnWrittenUnder
pass-on-written-under T bs out y x runs r r' w w' c s s' v v' d e X Y =
    let m = of-script bs out x in
    record {
      one = entry_under runs (length w) T bs (length r);
      two = entry_under runs (length v) T out (length s);
      one_answer = X.answer;
      two-answer = Y.answer;
      one_result = X.result;
      two-result = Y.result;
      same = subst (λ (z : Entry). SameEnds (entry_under runs (length w) T bs (length r)) z) (entry-words-under T runs (length w) (length v) (file (canon m.script!)) (length s) e ∙ ap (λ (o : List ℕ). entry_under runs (length v) T o (length s)) (sym m.is)) (commutes-under T bs m.script! y m.is-read runs (length w) (length r) (length s));
    }

-- the words are as many as before
words-size : (w w' : List ℕ) (p : Bool) → WordsAre w w' p → length w' ≡ length w
words-size w w' false h = ap length h
words-size w w' true h = h.size

pub canon-size : {bs r r' w w' : List ℕ} {c : Copied} → CanonIs bs r r' w w' c → length w' ≡ length w
canon-size {w = w} {w' = w'} R = words-size w w' (leb 16384 (length w)) R.words

pub call-is : {bs r r' w w' : List ℕ} {c : Copied} → CanonIs bs r r' w w' c → {n : ℕ} → n ≡ length w → CallIs bs r r' n c
call-is R e = rw e (record { answer = R.answer; result = R.result })

words-then : (u v w : List ℕ) (p q : Bool) → WordsAre u v p → WordsAre v w q → (q ≡ true → p ≡ true) → WordsAre u w p
words-then u v w p q h g f = go p q h g f
  where
    go : (p q : Bool) → WordsAre u v p → WordsAre v w q → (q ≡ true → p ≡ true) → WordsAre u w p
    go true true h g f = record { size = g.size ∙ h.size; here = g.here; rest = g.rest ∙ h.rest }
    go true false h g f = rw g h
    go false true h g f = absurd (clash (f refl))
    go false false h g f = g ∙ h

pub canon-words : {bs cs r r' s s' u v w : List ℕ} {c d : Copied} → CanonIs bs r r' u v c → CanonIs cs s s' v w d → WordsAre u w (leb 16384 (length u))
canon-words {u = u} {v = v} {w = w} R S = words-then u v w (leb 16384 (length u)) (leb 16384 (length v)) R.words S.words (λ e. ap (leb 16384) (sym (canon-size R)) ∙ e)

-- what was written is within the buffer
pub within-buffer : {bs r r' w w' : List ℕ} {c : Copied} → CanonIs bs r r' w w' c → c.length ≤ length r'
within-buffer {bs} {r} {r'} {w} {w'} {c} R = go (canon_entry (length w) bs (length r)) R.answer R.result
  where
    go : (x : Writing) → c ≡ numbers (told x) → r' ≡ left r x → c.length ≤ length r'
    go (refused n) e q = let l : c.length ≡ 0 = ap (λ (y : Copied). y.length) e in omega (arith, l)
    go (wrote out) e q =
        let l : c.length ≡ length out = ap (λ (y : Copied). y.length) e in
        let m : length r' ≡ length (out ++ drop (length out) r) = ap length q in
        omega (arith, l, m, length-append out (drop (length out) r))

-- where there is room, a script's canonical file is written
has-written : (words : ℕ) (bs : List ℕ) (room : ℕ) (s : Script) → 16384 ≤ words → read bs ≡ script s → length (file (canon s)) ≤ room → canon_entry words bs room ≡ wrote (file (canon s))
has-written words bs room s l q n = go (answers words bs room)
  where
    go : {x : Writing} → Why words bs room x → x ≡ wrote (file (canon s))
    go (few_words k) = absurd (omega arith)
    go (not_read m k r a b) = let e : script s ≡ bad m = sym q ∙ r in cc
    go (no_room t k r a) = let e : length (file (canon t)) ≡ length (file (canon s)) = ap (λ (z : Script). length (file (canon z))) (same-script t s bs r q) in absurd (omega (arith, e, a, n))
    go (has_room t k r a) = ap (λ (z : Script). wrote (file (canon z))) (same-script t s bs r q)

-- the writer on what it wrote
pub again-done : {bs r r' w w' : List ℕ} {c : Copied} → Bytes bs → CanonIs bs r r' w w' c → {fs s s' v' : List ℕ} {d : Copied} → fs ≡ written c r' → CanonIs fs s s' w' v' d → c.refused ≡ 0 → c.length ≤ length s → Unchanged (written c r') s s' c d
again-done {bs} {r} {r'} {w} {w'} {c} y R {fs} {s} {s'} {v'} {d} f S z m =
    let o = did R z in
    let out : List ℕ = file (canon o.given) in
    let l : 16384 ≤ length w' = omega (arith, o.enough, canon-size R) in
    let n : length out ≤ length s = omega (arith, m, ap (λ (x : Copied). x.length) o.answer) in
    let e : canon_entry (length w') fs (length s) ≡ wrote out =
    ap (λ (xs : List ℕ). canon_entry (length w') xs (length s)) (f ∙ o.is) ∙ writes-again (length w') bs (length s) out y (has-written (length w') bs (length s) o.given l o.is-read n) in
    record {
      answer = S.answer ∙ ap (λ (x : Writing). numbers (told x)) e ∙ sym o.answer;
      result = S.result ∙ ap (left s) e ∙ sym (ap (λ (xs : List ℕ). xs ++ drop (length xs) s) o.is);
    }

wrote-by : {bs r r' w w' : List ℕ} {c : Copied} → CanonIs bs r r' w w' c → c.refused ≡ 0 → Wrote bs (written c r')
wrote-by {bs} {r} {r'} {w} {w'} {c} R z = record { buffer = r; buffer_after = r'; words = w; words_after = w'; answer = c; call = R; accepted = z; is = refl }

-- the writer on two files
pub one_file-done : {as' bs : List ℕ} → Bytes as' → Bytes bs → {r r' w w' s s' v v' : List ℕ} {c d : Copied} → CanonIs as' r r' w w' c → CanonIs bs s s' v v' d → (a b : Script) → read as' ≡ script a → read bs ≡ script b → c.refused ≡ 0 → d.refused ≡ 0 → (written c r' ≡ written d s') ↔ Differ a b
one_file-done {as'} {bs} x y {r} {r'} {w} {w'} {s} {s'} {v} {v'} {c} {d} R S a b p q z o = one-file-for-one-script as' bs a b (written c r') (written d s') x y p q (wrote-by R z) (wrote-by S o)
