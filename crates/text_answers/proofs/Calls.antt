-- The laws of the printer of its calls. Assumes nothing.
use mathlib.Core.Path.{◌≡◌, refl, sym, ap, ap₂, ◌∙◌, subst}
use mathlib.Core.Bool.{Bool, true, false}
use mathlib.Core.List.{List, [], ◌∷◌, ◌++◌}
use Prim.Native.Nat.{ℕ, ◌≤◌}
use native.Mathlib.Omega.{arith}
use lib.Dec.{T, leb}
use lib.ListN.{length, take, drop}
use borrow.Author.Tests.{clash}
use Rattle.def_tree.specs.Tree.{Tree}
use Rattle.def_file.specs.Script.{Script}
use Rattle.def_file.specs.Read.{Read, bad, script, read}
use Rattle.def_text.specs.Words.{Word}
use Rattle.def_text.specs.Derives as Derives
use Rattle.def_text.specs.Derives.{erase, derives, laid, Reads}
use Rattle.def_text.specs.Print.{start, has_text, text}
use Rattle.def_text.specs.Lexing.{Lexes}
use Rattle.def_text.specs.Entry.{tree, Printing, refused, wrote, print_read, print_entry}
use Rattle.laws_text.specs.Entry.{ReadsAs}
use Rattle.laws_text.proofs.Basics.{is_T}
use Rattle.laws_text.proofs.Shape.{fix-dressed, erase-dressed, sound}
use Rattle.laws_text.proofs.Bytes.{lexed}
use Rattle.laws_text.proofs.Smallest.{smallest}
use Rattle.laws_text.proofs.Least.{least}
use Rattle.laws_text.proofs.Elsewhere.{none-inside}
use Rattle.laws_text.proofs.Readable.{pairs-read}
use Rattle.laws_text.proofs.Complete as Complete
use Rattle.laws_text.proofs.Laws.{read_ok, answers}
use Rattle.text_words.specs.Decimals.{decimal_text}
use Rattle.file_copy.specs.declared.Copied.{Copied}
use Rattle.file_copy.specs.Copy.{numbers, WordsAre}
use Rattle.file_text.specs.Text.{told, left, TextIs}
use Rattle.text_answers.specs.Calls.{CallIs, written, spelling, shown, WrittenReads, WrittenNeeded, EachAnswer, OneText, SameBytes, ButPairs, AlikeTexts, PairsAside}
use Rattle.text_answers.proofs.Once.{lexes-once, one-tree, refusal-number}

take-front : (xs ys : List ℕ) → take (length xs) (xs ++ ys) ≡ xs
take-front [] ys = refl
take-front (x ∷ xs) ys = ap (λ (zs : List ℕ). x ∷ zs) (take-front xs ys)

-- the entry by its tests
abbrev outcome : Bool → Bool → Bool → List ℕ → Printing
outcome p q r out = elim p [ false ↦ refused 1 | true ↦ elim q [ false ↦ refused 12 | true ↦ elim r [ false ↦ refused 11 | true ↦ wrote out ] ] ]

abbrev unread : Bool → ℕ → Printing
unread p n = elim p [ false ↦ refused 1 | true ↦ refused n ]

-- a script's text
abbrev text_of : Script → List ℕ
text_of s = text (spelling s) (tree s)

module _ (bs : List ℕ) (words room : ℕ) where
  entry : print_entry decimal_text words bs room ≡ elim (leb 16384 words) as (λ z. Printing) [ false ↦ refused 1 | true ↦ print_read decimal_text room (read bs) ]
  unfolding print_entry
  entry = refl

  not-read : (n : ℕ) → read bs ≡ bad n → print_entry decimal_text words bs room ≡ unread (leb 16384 words) n
  not-read n e = entry ∙ ap (λ (x : Read). elim (leb 16384 words) as (λ z. Printing) [ false ↦ refused 1 | true ↦ print_read decimal_text room x ]) e

  is-read : (s : Script) → read bs ≡ script s → print_entry decimal_text words bs room ≡ outcome (leb 16384 words) (has_text (spelling s) (tree s)) (leb (length (text_of s)) room) (text_of s)
  is-read s e = entry ∙ ap (λ (x : Read). elim (leb 16384 words) as (λ z. Printing) [ false ↦ refused 1 | true ↦ print_read decimal_text room x ]) e

-- the number of a refusal
refusal : {c : Copied} {n k : ℕ} → c ≡ numbers (told (refused n)) → c.refused ≡ k → n ≡ k
refusal e z = sym (ap (λ (d : Copied). d.refused) e) ∙ z

accepted : {c : Copied} (out : List ℕ) {k : ℕ} → c ≡ numbers (told (wrote out)) → c.refused ≡ k → 0 ≡ k
accepted out e z = sym (ap (λ (d : Copied). d.refused) e) ∙ z

-- a call that does not refuse
record Did (bs r' : List ℕ) (c : Copied) : Type 0 where
  pub given : Script
  pub is : read bs ≡ script given
  pub has : T (has_text (spelling given) (tree given))
  pub out : written c r' ≡ text_of given

did : {bs r r' w w' : List ℕ} {c : Copied} → TextIs bs r r' w w' c → c.refused ≡ 0 → Did bs r' c
did {bs} {r} {r'} {w} {w'} {c} R z = go (read bs) refl
  where
    bad-by : (p : Bool) (n : ℕ) → 2 ≤ n → c ≡ numbers (told (unread p n)) → ⊥
    bad-by false n l e = let q : 1 ≡ 0 = refusal e z in omega (arith, q)
    bad-by true n l e = let q : n ≡ 0 = refusal e z in omega (arith, q, l)

    read-by : (s : Script) → read bs ≡ script s → (p q t : Bool) → has_text (spelling s) (tree s) ≡ q → c ≡ numbers (told (outcome p q t (text_of s))) → r' ≡ left r (outcome p q t (text_of s)) → Did bs r' c
    read-by s i false q t h e f = let k : 1 ≡ 0 = refusal e z in absurd (omega (arith, k))
    read-by s i true false t h e f = let k : 12 ≡ 0 = refusal e z in absurd (omega (arith, k))
    read-by s i true true false h e f = let k : 11 ≡ 0 = refusal e z in absurd (omega (arith, k))
    read-by s i true true true h e f = record {
      given = s;
      is = i;
      has = is_T (has_text (spelling s) (tree s)) h;
      out = ap (λ (d : Copied). take d.length r') e ∙ ap (take (length (text_of s))) f ∙ take-front (text_of s) (drop (length (text_of s)) r);
    }

    go : (x : Read) → read bs ≡ x → Did bs r' c
    go (bad n) e = absurd (bad-by (leb 16384 (length w)) n ((refusal-number bs n e).0) (R.answer ∙ ap (λ (x : Printing). numbers (told x)) (not-read bs (length w) (length r) n e)))
    go (script s) e =
        let q = is-read bs (length w) (length r) s e in
        read-by s e (leb 16384 (length w)) (has_text (spelling s) (tree s)) (leb (length (text_of s)) (length r)) refl (R.answer ∙ ap (λ (x : Printing). numbers (told x)) q) (R.result ∙ ap (left r) q)

-- the tokens of a text
module _ (s : Script) (h : T (has_text (spelling s) (tree s))) where
  abbrev tokens_of : List Word
  tokens_of = Derives.tokens (spelling s) (shown s)

  cut-so : Lexes (text_of s) tokens_of
  cut-so = lexed (spelling s) (tree s) h

  reads-so : ReadsAs decimal_text tokens_of s
  reads-so = sound (spelling s) (tree s) h

  erased-so : erase (shown s) ≡ erase (laid (tree s))
  erased-so = erase-dressed (laid (tree s)) (shown s) (fix-dressed (spelling s) (laid (tree s)) (start ∷ []))

  once-so : (u : Tree) → Derives.tokens (spelling s) u ≡ tokens_of → T (derives (spelling s) u Derives.script) → erase u ≡ erase (laid (tree s)) → u ≡ shown s
  once-so u w d e = one-tree (spelling s) u (shown s) d h (e ∙ sym erased-so) w

pub written-reads : WrittenReads
written-reads bs r r' w w' c R z =
    let d = did R z in
    let l = subst (λ (x : List ℕ). Lexes x (tokens_of d.given d.has)) (sym d.out) (cut-so d.given d.has) in
    record {
      given = d.given;
      is = d.is;
      tokens = tokens_of d.given d.has;
      cut = l;
      only = λ ws k. lexes-once k l;
      reads = reads-so d.given d.has;
      once = λ u q i e. once-so d.given d.has u q i e;
    }

pub written-needed : WrittenNeeded
written-needed bs r r' w w' c R z =
    let d = did R z in
    let s = d.given in
    let p = pairs-read s (read_ok bs s d.is) in
    record {
      given = s;
      is = d.is;
      cut = subst (λ (x : List ℕ). Lexes x (tokens_of s d.has)) (sym d.out) (cut-so s d.has);
      least = λ v l k. least (spelling s) (tree s) v p l k;
      none-inside = λ v l k. none-inside (spelling s) (tree s) v p l k;
      smallest = smallest (spelling s);
    }

pub each-answer : EachAnswer
each-answer bs r r' w w' c R = record { end = print_entry decimal_text (length w) bs (length r); answer = R.answer; why = answers decimal_text (length w) bs (length r); number = refusal-number bs }

-- ---- two files

pub same-bytes : SameBytes
same-bytes as' bs r r' w w' s s' v v' c d R S y z q =
    let i = did R y in
    let j = did S z in
    let l = subst (λ (x : List ℕ). Lexes x (tokens_of i.given i.has)) (sym i.out) (cut-so i.given i.has) in
    let m = subst (λ (x : List ℕ). Lexes x (tokens_of j.given j.has)) (sym (q ∙ j.out)) (cut-so j.given j.has) in
    record {
      one = i.given;
      two = j.given;
      left-is = i.is;
      right-is = j.is;
      tokens = tokens_of i.given i.has;
      cut = l;
      only = λ ws k. lexes-once k l;
      left-reads = reads-so i.given i.has;
      right-reads = subst (λ (ws : List Word). ReadsAs decimal_text ws j.given) (lexes-once m l) (reads-so j.given j.has);
    }

-- where the trees are one but for kind 41, and the texts too
module _ (as' bs : List ℕ) (a b : Script) (B : ButPairs as' bs a b) where
  spelled-alike : spelling a ≡ spelling b
  spelled-alike = ap (λ (ts : List (List ℕ)). spelling (record { nodes = []; texts = ts })) B.texts

  over : T (has_text (spelling a) (tree a)) → T (has_text (spelling b) (tree b))
  over h =
      let x : Reads (spelling b) (tokens_of a h) (laid (tree a)) = subst (λ (f : ℕ → ℕ → Word). Reads f (tokens_of a h) (laid (tree a))) spelled-alike (reads-so a h) in
      Complete.refused (spelling b) (tree b) (tokens_of a h) (pairs-read b (read_ok bs b B.right-is)) (x.0, x.1, x.2, x.3 ∙ B.same)

swap : {as' bs : List ℕ} {a b : Script} → ButPairs as' bs a b → ButPairs bs as' b a
swap B = record { left-is = B.right-is; right-is = B.left-is; texts = sym B.texts; same = sym B.same }

has-alike : (p q : Bool) → (T p → T q) → (T q → T p) → p ≡ q
has-alike false false f g = refl
has-alike false true f g = absurd (g tt)
has-alike true false f g = absurd (f tt)
has-alike true true f g = refl

-- refusal 12 of the one
none-by : (p q t u : Bool) (xs ys : List ℕ) (c d : Copied) → c ≡ numbers (told (outcome p q t xs)) → d ≡ numbers (told (outcome p q u ys)) → c.refused ≡ 12 → d.refused ≡ 12
none-by false q t u xs ys c d e f z = let k : 1 ≡ 12 = refusal e z in absurd (omega (arith, k))
none-by true false t u xs ys c d e f z = ap (λ (x : Copied). x.refused) f
none-by true true false u xs ys c d e f z = let k : 11 ≡ 12 = refusal e z in absurd (omega (arith, k))
none-by true true true u xs ys c d e f z = let k : 0 ≡ 12 = accepted xs e z in absurd (omega (arith, k))

none-so : {as' bs : List ℕ} {a b : Script} → ButPairs as' bs a b → {r r' w w' s s' v v' : List ℕ} {c d : Copied} → leb 16384 (length w) ≡ leb 16384 (length v) → TextIs as' r r' w w' c → TextIs bs s s' v v' d → c.refused ≡ 12 → d.refused ≡ 12
none-so {as'} {bs} {a} {b} B {r} {r'} {w} {w'} {s} {s'} {v} {v'} {c} {d} l R S z =
    let h = has-alike (has_text (spelling a) (tree a)) (has_text (spelling b) (tree b)) (over as' bs a b B) (over bs as' b a (swap B)) in
    none-by (leb 16384 (length w)) (has_text (spelling a) (tree a)) (leb (length (text_of a)) (length r)) (leb (length (text_of b)) (length s)) (text_of a) (text_of b) c d
    (R.answer ∙ ap (λ (x : Printing). numbers (told x)) (is-read as' (length w) (length r) a B.left-is))
    (S.answer ∙ ap (λ (x : Printing). numbers (told x)) (is-read bs (length v) (length s) b B.right-is ∙ ap₂ {C = Printing} (λ (p q : Bool). outcome p q (leb (length (text_of b)) (length s)) (text_of b)) (sym l) (sym h))) z

-- the same bytes
one-so : {as' bs : List ℕ} {a b : Script} → ButPairs as' bs a b → {r r' w w' s s' v v' : List ℕ} {c d : Copied} → TextIs as' r r' w w' c → TextIs bs s s' v v' d → c.refused ≡ 0 → d.refused ≡ 0 → written c r' ≡ written d s' → shown a ≡ shown b
one-so {as'} {bs} {a} {b} B {r} {r'} {w} {w'} {s} {s'} {v} {v'} {c} {d} R S y z q =
    let i = did R y in
    let j = did S z in
    let e : i.given ≡ a = let k : script i.given ≡ script a = sym i.is ∙ B.left-is in cc in
    let f : j.given ≡ b = let k : script j.given ≡ script b = sym j.is ∙ B.right-is in cc in
    let ha : T (has_text (spelling a) (tree a)) = subst (λ (x : Script). T (has_text (spelling x) (tree x))) e i.has in
    let hb : T (has_text (spelling b) (tree b)) = subst (λ (x : Script). T (has_text (spelling x) (tree x))) f j.has in
    let bytes : text_of a ≡ text_of b = sym (i.out ∙ ap text_of e) ∙ q ∙ (j.out ∙ ap text_of f) in
    let w₁ : tokens_of a ha ≡ tokens_of b hb = lexes-once (subst (λ (x : List ℕ). Lexes x (tokens_of a ha)) bytes (cut-so a ha)) (cut-so b hb) in
    one-tree (spelling b) (shown a) (shown b) (subst (λ (g : ℕ → ℕ → Word). T (derives g (shown a) Derives.script)) (spelled-alike as' bs a b B) ha) hb
    (erased-so a ha ∙ B.same ∙ sym (erased-so b hb)) (ap (λ (g : ℕ → ℕ → Word). Derives.tokens g (shown a)) (sym (spelled-alike as' bs a b B)) ∙ w₁)

pub pairs-aside : PairsAside
pairs-aside as' bs a b B r r' w w' s s' v v' c d l R S = record {
  left-none = none-so B l R S;
  right-none = none-so (swap B) (sym l) S R;
  one_tree = one-so B R S;
}

-- ---- the words of one call after the other

words-size : (w w' : List ℕ) (p : Bool) → WordsAre w w' p → length w' ≡ length w
words-size w w' false h = ap length h
words-size w w' true h = h.size

pub text-size : {bs r r' w w' : List ℕ} {c : Copied} → TextIs bs r r' w w' c → length w' ≡ length w
text-size {w = w} {w' = w'} R = words-size w w' (leb 16384 (length w)) R.words

pub call-is : {bs r r' w w' : List ℕ} {c : Copied} → TextIs bs r r' w w' c → {n : ℕ} → n ≡ length w → CallIs bs r r' n c
call-is R e = rw e (record { answer = R.answer; result = R.result })

words-then : (u v w : List ℕ) (p q : Bool) → WordsAre u v p → WordsAre v w q → (q ≡ true → p ≡ true) → WordsAre u w p
words-then u v w p q h g f = go p q h g f
  where
    go : (p q : Bool) → WordsAre u v p → WordsAre v w q → (q ≡ true → p ≡ true) → WordsAre u w p
    go true true h g f = record { size = g.size ∙ h.size; here = g.here; rest = g.rest ∙ h.rest }
    go true false h g f = rw g h
    go false true h g f = absurd (clash (f refl))
    go false false h g f = g ∙ h

pub text-words : {bs cs r r' s s' u v w : List ℕ} {c d : Copied} → TextIs bs r r' u v c → TextIs cs s s' v w d → WordsAre u w (leb 16384 (length u))
text-words {u = u} {v = v} {w = w} R S = words-then u v w (leb 16384 (length u)) (leb 16384 (length v)) R.words S.words (λ e. ap (leb 16384) (sym (text-size R)) ∙ e)

pub same-done : {as' bs r r' w w' s s' v' : List ℕ} {c d : Copied} → TextIs as' r r' w w' c → TextIs bs s s' w' v' d → c.refused ≡ 0 → d.refused ≡ 0 → written c r' ≡ written d s' → OneText as' bs (written c r')
same-done {as'} {bs} {r} {r'} {w} {w'} {s} {s'} {v'} {c} {d} R S y z q = same-bytes as' bs r r' w w' s s' w' v' c d R S y z q

pub pairs-done : {as' bs r r' w w' s s' v' : List ℕ} {c d : Copied} → TextIs as' r r' w w' c → TextIs bs s s' w' v' d → (a b : Script) → ButPairs as' bs a b → AlikeTexts a b r' s' c d
pairs-done {as'} {bs} {r} {r'} {w} {w'} {s} {s'} {v'} {c} {d} R S a b B = pairs-aside as' bs a b B r r' w w' s s' w' v' c d (ap (leb 16384) (sym (text-size R))) R S
