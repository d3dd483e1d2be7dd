-- The laws of the resolver of its calls. Assumes nothing.
use mathlib.Core.Path.{◌≡◌, refl, sym, ap, ap₂, ◌∙◌, subst, subst₂}
use mathlib.Core.Logic.{inl, inr}
use mathlib.Core.Bool.{Bool, true, false, ◌&&◌}
use mathlib.Core.List.{List, [], ◌∷◌, ◌++◌}
use Prim.Native.Nat.{ℕ, ◌≤◌}
use native.Mathlib.Omega.{arith}
use lib.Dec.{leb}
use lib.ListN.{length, take, drop}
use borrow.Author.Tests.{le-true, clash}
use Rattle.def_file.specs.Script.{Script}
use Rattle.def_file.specs.Read.{script, read}
use Rattle.def_pass.specs.Entry as ends
use Rattle.def_pass.specs.Entry.{Entry, entry}
use Rattle.def_pass.specs.Paired.{Paired}
use Rattle.laws_roundtrip.specs.Fits.{Bytes}
use Rattle.def_resolve.specs.Resolve.{bare, resolved}
use Rattle.def_resolve.specs.Entry.{Resolving, refused, wrote, read_shaped, resolve_read, resolve_entry}
use Rattle.laws_resolve.specs.Entry.{Why, few_words, not_read, clashing, many_names, no_room, has_room, AlikeResolving, ByNameEntry}
use Rattle.laws_resolve.proofs.Scripts.{exactly}
use Rattle.laws_resolve.proofs.Pairs.{renamed}
use Rattle.laws_resolve.proofs.Elsewhere.{elsewhere, by-name-paired}
use Rattle.laws_resolve.proofs.Files.{answers, writes, shaped_read, written-read, written-in, ignored-files, renamed-files, elsewhere-entries}
use Rattle.file_copy.specs.declared.Copied.{Copied}
use Rattle.file_copy.specs.Copy.{numbers, WordsAre}
use Rattle.file_resolve.specs.Resolve.{told, left, ResolveIs}
use Rattle.pass_answers.specs.Entry as entries
use Rattle.pass_answers.proofs.Demands.{demand3-inline, demand3-roots}
use Rattle.resolve_answers.specs.Calls.{CallIs, written, ExactlyOneVariable, EachRefusal, Unchanged, ResolvedAgain, DifferInContexts, SameCall, ContextsIgnored, Renamed, AlikeAnswers, RenamedAnswers, RenamedInline, RenamedRoots, ElsewhereInline, ElsewhereRoots}

-- a refusal's number is not 0
refusal-some : {words : ℕ} {bs : List ℕ} {room n : ℕ} → Why words bs room (refused n) → n ≡ 0 → ⊥
refusal-some (few_words l) e = absurd (omega (arith, e))
refusal-some (not_read n l q h k) e = absurd (omega (arith, e))
refusal-some (clashing s l q h) e = absurd (omega (arith, e))
refusal-some (many_names s l q h k) e = absurd (omega (arith, e))
refusal-some (no_room s l q h k m) e = absurd (omega (arith, e))

take-front : (xs ys : List ℕ) → take (length xs) (xs ++ ys) ≡ xs
take-front [] ys = refl
take-front (x ∷ xs) ys = ap (λ (zs : List ℕ). x ∷ zs) (take-front xs ys)

-- a call that does not refuse
pub record Did (bs r r' w : List ℕ) (c : Copied) : Type 0 where
  pub out : List ℕ
  pub end : resolve_entry (length w) bs (length r) ≡ wrote out
  pub answer : c ≡ numbers (told (wrote out))
  pub is : written c r' ≡ out

pub did : {bs r r' w w' : List ℕ} {c : Copied} → ResolveIs bs r r' w w' c → c.refused ≡ 0 → Did bs r r' w c
did {bs} {r} {r'} {w} {w'} {c} R z = go (resolve_entry (length w) bs (length r)) refl (answers (length w) bs (length r))
  where
    go : (x : Resolving) → resolve_entry (length w) bs (length r) ≡ x → Why (length w) bs (length r) (resolve_entry (length w) bs (length r)) → Did bs r r' w c
    go (refused n) e y = absurd (refusal-some (subst (Why (length w) bs (length r)) e y) (sym (ap (λ (d : Copied). d.refused) (R.answer ∙ ap (λ (x : Resolving). numbers (told x)) e)) ∙ z))
    go (wrote out) e y = record {
      out = out;
      end = e;
      answer = R.answer ∙ ap (λ (x : Resolving). numbers (told x)) e;
      is =
          ap (λ (d : Copied). take d.length r') (R.answer ∙ ap (λ (x : Resolving). numbers (told x)) e)
          ∙ ap (take (length out)) (R.result ∙ ap (left r) e) ∙ take-front out (drop (length out) r);
    }

pub exactly-one-variable : ExactlyOneVariable
exactly-one-variable bs r r' w w' c y R z =
    let d = did R z in
    let k = writes (length w) bs (length r) d.out y d.end in
    let e = exactly k.given (shaped_read bs k.given y k.shaped).shape in
    record {
      given = k.given;
      shaped = k.shaped;
      is = ap read d.is ∙ k.again;
      long = ap length d.is ∙ k.long;
      same = e.0;
      variables = e.1;
    }

pub each-refusal : EachRefusal
each-refusal bs r r' w w' c R = record { end = resolve_entry (length w) bs (length r); answer = R.answer; why = answers (length w) bs (length r) }

pub resolved-again : ResolvedAgain
resolved-again bs r r' w w' c y R z s s' v v' d S l m =
    let o = did R z in
    let n : length o.out ≤ length s = omega (arith, m, ap (λ (x : Copied). x.length) o.answer) in
    let k = writes (length v) bs (length s) o.out y (written-in (length w) (length v) bs (length r) (length s) o.out o.end (sym (le-true 16384 (length v) l)) (sym (le-true (length o.out) (length s) n))) in
    let e : resolve_entry (length v) (written c r') (length s) ≡ wrote o.out = ap (λ (xs : List ℕ). resolve_entry (length v) xs (length s)) o.is ∙ k.still in
    record {
      answer = S.answer ∙ ap (λ (x : Resolving). numbers (told x)) e ∙ sym o.answer;
      result = S.result ∙ ap (left s) e ∙ sym (ap (λ (xs : List ℕ). xs ++ drop (length xs) s) o.is);
    }

-- of the words only whether they are enough matters
entry-words : (n m : ℕ) (bs : List ℕ) (room : ℕ) → leb 16384 n ≡ leb 16384 m → resolve_entry n bs room ≡ resolve_entry m bs room
unfolding resolve_entry
entry-words n m bs room e = ap (λ (p : Bool). by p) e
  where
    by : Bool → Resolving
    by p = elim p as (λ z. Resolving) [ false ↦ refused 1 | true ↦ resolve_read room (read_shaped bs) ]

same-call : (r s r' s' : List ℕ) (x z : Resolving) (c d : Copied) → x ≡ z → c ≡ numbers (told x) → d ≡ numbers (told z) → r' ≡ left r x → s' ≡ left s z → SameCall r' s' c d
same-call r s r' s' x z c d e f g h k = go x (f) (g ∙ ap (λ (u : Resolving). numbers (told u)) (sym e)) h (k ∙ ap (left s) (sym e))
  where
    go : (x : Resolving) → c ≡ numbers (told x) → d ≡ numbers (told x) → r' ≡ left r x → s' ≡ left s x → SameCall r' s' c d
    go (refused n) f g h k = (f ∙ sym g, ap (λ (u : Copied). take u.length r') f ∙ sym (ap (λ (u : Copied). take u.length s') g))
    go (wrote out) f g h k = (
      f ∙ sym g,
      ap (λ (u : Copied). take u.length r') f ∙ ap (take (length out)) h ∙ take-front out (drop (length out) r)
          ∙ sym (ap (λ (u : Copied). take u.length s') g ∙ ap (take (length out)) k ∙ take-front out (drop (length out) s)),
    )

pub contexts-ignored : ContextsIgnored
contexts-ignored as' bs y D r r' w w' s s' v v' c d e l R S =
    let h : resolve_entry (length w) as' (length r) ≡ resolve_entry (length v) bs (length s) =
    ignored-files as' bs D.one D.two y D.left-is D.right-is D.same (length w) (length r) ∙ entry-words (length w) (length v) bs (length r) e ∙ ap (resolve_entry (length v) bs) l in
    same-call r s r' s' (resolve_entry (length w) as' (length r)) (resolve_entry (length v) bs (length s)) c d h R.answer S.answer R.result S.result

-- renamed
alike-answers : (x z : Resolving) (c d : Copied) → AlikeResolving x z → c ≡ numbers (told x) → d ≡ numbers (told z) → AlikeAnswers c d
alike-answers (refused n) (refused m) c d h e f = inl (ap (λ (u : Copied). u.refused) e ∙ h ∙ sym (ap (λ (u : Copied). u.refused) f))
alike-answers (refused n) (wrote out') c d h e f = inr (inl (ap (λ (u : Copied). u.refused) e ∙ h, ap (λ (u : Copied). u.refused) f))
alike-answers (wrote out) (refused m) c d h e f = inr (inr (ap (λ (u : Copied). u.refused) e, ap (λ (u : Copied). u.refused) f ∙ h))
alike-answers (wrote out) (wrote out') c d h e f = inl (ap (λ (u : Copied). u.refused) e ∙ sym (ap (λ (u : Copied). u.refused) f))

pub renamed-answers : RenamedAnswers
renamed-answers as' bs a b x y N r r' w w' s s' v v' c d e R S =
    alike-answers (resolve_entry (length w) as' (length r)) (resolve_entry (length w) bs (length s)) c d
    ((renamed-files as' bs a b x y N.left-is N.right-is N.paired).answers (length w) (length r) (length s)) R.answer (S.answer ∙ ap (λ (z : Resolving). numbers (told z)) (sym (entry-words (length w) (length v) bs (length s) e)))

-- what was written, read
read-written : (bs : List ℕ) (s : Script) → Bytes bs → read_shaped bs ≡ script s → {r r' w w' : List ℕ} {c : Copied} → ResolveIs bs r r' w w' c → c.refused ≡ 0 → read (written c r') ≡ script (resolved s)
read-written bs s y q {r} {r'} {w} R z = let d = did R z in ap read d.is ∙ written-read (length w) bs (length r) d.out s y d.end q

module _ (as' bs : List ℕ) (a b : Script) (x : Bytes as') (y : Bytes bs) (p : read_shaped as' ≡ script a) (q : read_shaped bs ≡ script b) where
  pair : Paired (bare a) (bare b) → Paired (resolved a) (resolved b)
  pair P = (renamed a b (shaped_read as' a x p).shape (shaped_read bs b y q).shape P).2

pub renamed-inline : RenamedInline
renamed-inline as' bs a b x y N r r' w w' s s' v v' c d R S z o runs p p' t t' q q' u u' k l e P Q =
    demand3-inline (written c r') (written d s') (resolved a) (resolved b) (read-written as' a x N.left-is R z) (read-written bs b y N.right-is S o) (pair as' bs a b x y N.left-is N.right-is N.paired) runs p p' t t' k q q' u u' l e P Q

pub renamed-roots : RenamedRoots
renamed-roots as' bs a b x y N r r' w w' s s' v v' c d R S z o runs p p' t t' q q' u u' k l e P Q =
    demand3-roots (written c r') (written d s') (resolved a) (resolved b) (read-written as' a x N.left-is R z) (read-written bs b y N.right-is S o) (pair as' bs a b x y N.left-is N.right-is N.paired) runs p p' t t' k q q' u u' l e P Q

-- elsewhere
same-numbers : (a b : Script) (x z : Entry) → ByNameEntry a b x z → entries.numbers x ≡ entries.numbers z
same-numbers a b (ends.refused n) (ends.refused m) h = ap (λ (i : ℕ). entries.numbers (ends.refused i)) h
same-numbers a b (ends.refused n) (ends.passed m l d out' ss) h = absurd h
same-numbers a b (ends.passed n k c out rs) (ends.refused m) h = absurd h
same-numbers a b (ends.passed n k c out rs) (ends.passed m l d out' ss) h =
    ap₂ (λ (i j : ℕ). entries.numbers (ends.passed i j c out rs)) h.lengths h.results.runs ∙ ap (λ (p : Bool). entries.numbers (ends.passed m l p out rs)) h.results.marks

pass-words : (runs n m : ℕ) (bs : List ℕ) (room : ℕ) → leb 16384 n ≡ leb 16384 m → entry runs n bs room ≡ entry runs m bs room
unfolding entry
pass-words runs n m bs room e = ap {B = Entry} (λ (p : Bool). elim (leb 1 runs && leb runs 16 && p) [ false ↦ ends.refused 1 | true ↦ ends.entry_read runs room (read bs) ]) e

pub elsewhere-inline : ElsewhereInline
elsewhere-inline bs cs s b y E r r' w w' c R z runs p p' t t' q q' u u' k l e f P Q =
    let d = did R z in
    let one : Entry = entry runs (length t) (written c r') (length p) in
    let two : Entry = entry runs (length u) cs (length q) in
    let h : ByNameEntry (resolved s) b one two =
    subst₂ (λ (i j : Entry). ByNameEntry (resolved s) b i j) (ap (λ (xs : List ℕ). entry runs (length t) xs (length p)) (sym d.is)) (pass-words runs (length t) (length u) cs (length p) e ∙ ap (entry runs (length u) cs) f)
    (elsewhere-entries (length w) bs (length r) d.out cs s b y d.end E.left-is E.right-is E.same E.variables runs (length t) (length p)) in
    record {
      answers = P.answer ∙ same-numbers (resolved s) b one two h ∙ sym Q.answer;
      one = one;
      two = two;
      one_answer = P.answer;
      two-answer = Q.answer;
      one-result = P.result;
      two-result = Q.result;
      alike = h;
    }

pub elsewhere-roots : ElsewhereRoots
elsewhere-roots bs cs s b y E r r' w w' c R z runs p p' t t' q q' u u' k l e P Q =
    demand3-roots (written c r') cs (resolved s) b (read-written bs s y E.left-is R z) E.right-is
    (by-name-paired (resolved s) b (elsewhere s b (shaped_read bs s y E.left-is).shape E.same E.variables runs).0) runs p p' t t' k q q' u u' l e P Q

-- the words are as many as before
pub words-size : (w w' : List ℕ) (p : Bool) → WordsAre w w' p → length w' ≡ length w
words-size w w' false h = ap length h
words-size w w' true h = h.size

pub resolved-size : {bs r r' w w' : List ℕ} {c : Copied} → ResolveIs bs r r' w w' c → length w' ≡ length w
resolved-size {w = w} {w' = w'} R = words-size w w' (leb 16384 (length w)) R.words

pub call-is : {bs r r' w w' : List ℕ} {c : Copied} → ResolveIs bs r r' w w' c → {n : ℕ} → n ≡ length w → CallIs bs r r' n c
call-is R e = rw e (record { answer = R.answer; result = R.result })

pub words-then : (u v w : List ℕ) (p q : Bool) → WordsAre u v p → WordsAre v w q → (q ≡ true → p ≡ true) → WordsAre u w p
words-then u v w p q h g f = go p q h g f
  where
    go : (p q : Bool) → WordsAre u v p → WordsAre v w q → (q ≡ true → p ≡ true) → WordsAre u w p
    go true true h g f = record { size = g.size ∙ h.size; here = g.here; rest = g.rest ∙ h.rest }
    go true false h g f = rw g h
    go false true h g f = absurd (clash (f refl))
    go false false h g f = g ∙ h

pub resolved-words : {bs cs r r' s s' u v w : List ℕ} {c d : Copied} → ResolveIs bs r r' u v c → ResolveIs cs s s' v w d → WordsAre u w (leb 16384 (length u))
resolved-words {u = u} {v = v} {w = w} R S = words-then u v w (leb 16384 (length u)) (leb 16384 (length v)) R.words S.words (λ e. ap (leb 16384) (sym (resolved-size R)) ∙ e)

words-enough : {n : ℕ} {bs : List ℕ} {room : ℕ} {out : List ℕ} → Why n bs room (wrote out) → 16384 ≤ n
words-enough (has_room s l q h k m) = l

-- the resolver on what it wrote
pub again-done : {bs r r' w w' : List ℕ} {c : Copied} → Bytes bs → ResolveIs bs r r' w w' c → {fs s s' v' : List ℕ} {d : Copied} → fs ≡ written c r' → ResolveIs fs s s' w' v' d → c.refused ≡ 0 → c.length ≤ length s → Unchanged (written c r') s s' c d
again-done {bs} {r} {r'} {w} {w'} {c} y R {fs} {s} {s'} {v'} {d} f S z m =
    let o = did R z in
    let l : 16384 ≤ length w = words-enough (subst (Why (length w) bs (length r)) o.end (answers (length w) bs (length r))) in
    let k : 16384 ≤ length w' = omega (arith, l, resolved-size R) in
    resolved-again bs r r' w w' c y R z s s' w' v' d (rw f at S) k m

-- two files with the words of one after the other
pub ignored-done : {as' bs : List ℕ} → Bytes as' → {r r' w w' s s' v' : List ℕ} {c d : Copied} → ResolveIs as' r r' w w' c → ResolveIs bs s s' w' v' d → DifferInContexts as' bs → length r ≡ length s → SameCall r' s' c d
ignored-done {as'} {bs} y {r} {r'} {w} {w'} {s} {s'} {v'} {c} {d} R S D l = contexts-ignored as' bs y D r r' w w' s s' w' v' c d (ap (leb 16384) (sym (resolved-size R))) l R S

pub renamed-done : {as' bs : List ℕ} → Bytes as' → Bytes bs → {r r' w w' s s' v' : List ℕ} {c d : Copied} → ResolveIs as' r r' w w' c → ResolveIs bs s s' w' v' d → (a b : Script) → Renamed as' bs a b → AlikeAnswers c d
renamed-done {as'} {bs} x y {r} {r'} {w} {w'} {s} {s'} {v'} {c} {d} R S a b N = renamed-answers as' bs a b x y N r r' w w' s s' w' v' c d (ap (leb 16384) (sym (resolved-size R))) R S
