-- The resolver over files: what it reads, why it answers as it does, and what is written. Assumes nothing.
use mathlib.Core.Path.{◌≡◌, refl, sym, ap, ap₂, ◌∙◌, subst, subst₂}
use mathlib.Core.Bool.{Bool, true, false, ◌&&◌}
use mathlib.Core.List.{List, [], ◌∷◌, map}
use Prim.Native.Nat.{ℕ, suc, ◌+◌, ◌-◌, ◌*◌, ◌≤◌, ◌<◌}
use native.Mathlib.Omega.{arith}
use native.Mathlib.Decide.{dec_le}
use lib.Dec.{eqb, leb}
use lib.ListN.{length, get_or, drop, length-drop, get_or-eq_default}
use lib.Seq.{take_all}
use borrow.Author.Tests.{leb-true, leb-false, clash}
use Rattle.std.proofs.Math.Option.{Option}
use Rattle.def_tree.specs.Base.{pick}
use Rattle.def_tree.specs.Tree.{Core}
use Rattle.def_tree.proofs.Tests.{is_T}
use Rattle.def_file.specs.declared.Raw.{Raw}
use Rattle.def_file.specs.Script.{Script, has_id, idents, node_at, zero_node}
use Rattle.def_file.specs.Read.{Read, bad, script, u32, ends_from, rising, distinct, nodes_ok, header, parts, read}
use Rattle.def_file.specs.Write.{text_bytes, file}
use Rattle.def_pass.specs.Tree.{Tree}
use Rattle.def_pass.specs.Paired.{Paired, AlikeEntry, file_of}
use Rattle.def_pass.specs.Entry as ends
use Rattle.def_pass.specs.Entry.{Entry, enough, entry_read, entry}
use Rattle.laws_roundtrip.specs.Fits.{Bytes, Narrow, Fits}
use Rattle.laws_roundtrip.proofs.Numbers.{bytes_drop}
use Rattle.laws_roundtrip.proofs.Nodes.{narrow-nodes, nodes-length}
use Rattle.laws_roundtrip.proofs.Texts.{both, bytes-texts, texts-length, texts-narrow}
use Rattle.laws_roundtrip.proofs.Header.{passed, row2, row3, row4, Headed, header-passed}
use Rattle.laws_roundtrip.proofs.Round.{again as round-again, ends_part, texts_part, script_in}
use Rattle.laws_pass.proofs.ReadsAgain.{file-length}
use Rattle.laws_pass.proofs.Demand.{demand3-entry}
use Rattle.laws_canon.proofs.Laws.{file-bytes}
use Rattle.def_resolve.specs.Scopes.{apart}
use Rattle.def_pass.specs.Script.{Out, Root, Answer, no!, yes!, core_tree, pass, pass_read, pass_file}
use Rattle.def_resolve.specs.Resolve.{resolve, bare_node, bare, names_tree, clashes_in, contexts_of, put_contexts, resolved, clashing as clashing_o}
use Rattle.def_resolve.specs.Entry.{shaped, parts_shaped, read_shaped, Resolving, refused, wrote, resolve_read, resolve_entry}
use Rattle.laws_resolve.specs.Variables.{nth, variable, number_of}
use Rattle.laws_pass.specs.Again.{outcome}
use Rattle.laws_resolve.specs.Laws.{Again, ByNameResults, ByNameAnswers}
use Rattle.laws_resolve.specs.Entry.{ElsewhereFiles, ByNamePassed, ByNameEntry, ElsewhereEntries, ClashesIn, seven, ShapedRead, Why, few_words, not_read, clashing, many_names, no_room, has_room, Answers, Writes, AlikeResolving, ContextsIgnoredFiles, RenamedFiles}
use Rattle.laws_resolve.proofs.Scripts.{put, tree, tree-count, resolved-length, node-is, named-is, nodes-ok-resolved}
use Rattle.laws_resolve.proofs.Apart.{number-low}
use Rattle.laws_resolve.proofs.Bound.{opens-few}
use Rattle.laws_resolve.proofs.Clashes.{thirteen}
use Rattle.laws_resolve.proofs.Pairs.{renamed}
use Rattle.laws_resolve.proofs.Ignored.{ignored}
use Rattle.laws_resolve.proofs.Elsewhere.{elsewhere}

-- resolving once more
put-twice : (x : Raw) (v : ℕ) → put (put x v) v ≡ put x v
put-twice x v = ap (λ (b : ℕ). record { kind = x.kind; form = x.form; arity = x.arity; text = x.text; bits = b }) (go (has_id x))
  where
    go : (p : Bool) → pick p v (pick p v x.bits) ≡ pick p v x.bits
    go true = refl
    go false = refl

bare-put : (x : Raw) (v : ℕ) → bare_node (put x v) ≡ bare_node x
bare-put x v = ap (λ (b : ℕ). record { kind = x.kind; form = x.form; arity = x.arity; text = x.text; bits = b }) (go (has_id x))
  where
    go : (p : Bool) → pick p 0 (pick p v x.bits) ≡ pick p 0 x.bits
    go true = refl
    go false = refl

puts-twice : (xs : List Raw) (cs : List Core) → put_contexts (put_contexts xs cs) cs ≡ put_contexts xs cs
puts-twice [] cs = refl
puts-twice (x ∷ xs) [] = refl
puts-twice (x ∷ xs) (c ∷ cs) = ap₂ {C = List Raw} (λ y ys. y ∷ ys) (put-twice x c.num) (puts-twice xs cs)

bare-puts : (xs : List Raw) (cs : List Core) → map bare_node (put_contexts xs cs) ≡ map bare_node xs
bare-puts [] cs = refl
bare-puts (x ∷ xs) [] = refl
bare-puts (x ∷ xs) (c ∷ cs) = ap₂ {C = List Raw} (λ y ys. y ∷ ys) (bare-put x c.num) (bare-puts xs cs)

bare-resolved : (s : Script) → bare (resolved s) ≡ bare s
unfolding resolved
bare-resolved s = ap (λ (xs : List Raw). record { nodes = xs; texts = s.texts }) (bare-puts s.nodes (contexts_of (names_tree s)))

names-resolved : (s : Script) → names_tree (resolved s) ≡ names_tree s
unfolding names_tree
names-resolved s = ap (λ (z : Script). core_tree z) (bare-resolved s)

resolved-twice : (s : Script) → resolved (resolved s) ≡ resolved s
unfolding resolved
resolved-twice s =
    ap (λ (o : Option Tree). record { nodes = put_contexts (put_contexts s.nodes (contexts_of (names_tree s))) (contexts_of o); texts = s.texts }) (names-resolved s)
    ∙ ap (λ (xs : List Raw). record { nodes = xs; texts = s.texts }) (puts-twice s.nodes (contexts_of (names_tree s)))

clashes-resolved : (s : Script) → clashes_in (resolved s) ≡ clashes_in s
unfolding clashes_in
clashes-resolved s = ap clashing_o (names-resolved s)

pub resolves-again : Again
resolves-again s = (bare-resolved s, resolved-twice s)

-- rows 2 to 6 are those of the pass
seven-header : (bs : List ℕ) (x y : Read) → y ≡ seven x → header bs y ≡ seven (header bs x)
seven-header bs x y e = go (leb 32 (length bs) && eqb (u32 bs 0) 1) (row3 (u32 bs 8) (u32 bs 16) (u32 bs 28)) (row4 bs (u32 bs 8) (u32 bs 16) (u32 bs 28))
  where
    go : (p q r : Bool) → elim p as (λ z. Read) [ false ↦ bad 2 | true ↦ elim q as (λ z. Read) [ false ↦ bad 3 | true ↦ elim r as (λ z. Read) [ false ↦ bad 4 | true ↦ y ] ] ]
        ≡ seven (elim p as (λ z. Read) [ false ↦ bad 2 | true ↦ elim q as (λ z. Read) [ false ↦ bad 3 | true ↦ elim r as (λ z. Read) [ false ↦ bad 4 | true ↦ x ] ] ])
    go false q r = refl
    go true false r = refl
    go true true false = refl
    go true true true = e

seven-parts : (n t b : ℕ) (bs : List ℕ) → parts n t b bs ≡ seven (parts_shaped n t b bs)
seven-parts n t b bs = go (rising 0 (ends_from t (ends_part n bs)) b && distinct x.texts) (nodes_ok x)
  where
    x : Script
    x = script_in n t bs

    go : (p q : Bool) → elim p as (λ z. Read) [ false ↦ bad 5 | true ↦ elim q as (λ z. Read) [ false ↦ bad 6 | true ↦ seven (script x) ] ]
        ≡ seven (elim p as (λ z. Read) [ false ↦ bad 5 | true ↦ elim q as (λ z. Read) [ false ↦ bad 6 | true ↦ script x ] ])
    go false q = refl
    go true false = refl
    go true true = refl

pub shaped-read : ShapedRead
unfolding read read_shaped
shaped-read bs = seven-header bs (parts_shaped (u32 bs 8) (u32 bs 16) (u32 bs 28) bs) (parts (u32 bs 8) (u32 bs 16) (u32 bs 28) bs) (seven-parts (u32 bs 8) (u32 bs 16) (u32 bs 28) bs)

-- what is read by them: all that a file asks for, but the number of identifiers
pub record Shaped (s : Script) : Type 0 where
  pub narrow : (k : ℕ) → Narrow (get_or s.nodes k zero_node)
  pub bytes : (k : ℕ) → Bytes (get_or s.texts k [])
  pub some : 1 ≤ length s.nodes
  pub few : length s.nodes ≤ 1024
  pub texts : length s.texts ≤ 256
  pub size : length (text_bytes s.texts) ≤ 4096
  pub apart : distinct s.texts ≡ true
  pub shape : nodes_ok s ≡ true

record Found (bs : List ℕ) (s : Script) (n t b : ℕ) : Type 0 where
  head : Headed bs n t b
  is : script_in n t bs ≡ s
  rises : rising 0 (ends_from t (ends_part n bs)) b ≡ true
  apart : distinct s.texts ≡ true
  shape : nodes_ok s ≡ true

found : (bs : List ℕ) (s : Script) → read_shaped bs ≡ script s → Found bs s (u32 bs 8) (u32 bs 16) (u32 bs 28)
unfolding read_shaped
found bs s h =
    let n = u32 bs 8 in
    let t = u32 bs 16 in
    let b = u32 bs 28 in
    let ends = ends_from t (ends_part n bs) in
    let (head, h1) = header-passed bs (parts_shaped n t b bs) s h in
    let x = script_in n t bs in
    let (h2, h3) = passed (rising 0 ends b && distinct x.texts) 5 (shaped x) s h1 in
    let (rise, dist) = both (rising 0 ends b) (distinct x.texts) h2 in
    let (shape, h4) = passed (nodes_ok x) 6 (script x) s h3 in
    let e : x ≡ s = cc in
    record { head = head; is = e; rises = rise; apart = rw (← e) dist; shape = rw (← e) shape }

module _ (bs : List ℕ) (s : Script) (y : Bytes bs) (q : read_shaped bs ≡ script s) where
  abbrev n : ℕ
  n = u32 bs 8

  abbrev t : ℕ
  t = u32 bs 16

  abbrev b : ℕ
  b = u32 bs 28

  f : Found bs s n t b
  f = found bs s q

  body-length : length (texts_part n t bs) ≡ b
  body-length = length-drop (32 + 16 * n + 4 * t) bs ∙ omega (arith, f.head.long)

  texts-written : text_bytes (script_in n t bs).texts ≡ texts_part n t bs
  texts-written = bytes-texts b 0 (ends_from t (ends_part n bs)) (texts_part n t bs) (omega (arith, body-length)) f.rises ∙ take_all (b - 0) (texts_part n t bs) (omega (arith, body-length))

  pub shaped_read : Shaped s
  shaped_read =
      let e = sym f.is in
      record {
        narrow = rw e (narrow-nodes n (drop 32 bs) (bytes_drop 32 bs y));
        bytes = rw e (texts-narrow 0 (ends_from t (ends_part n bs)) (texts_part n t bs) (bytes_drop (32 + 16 * n + 4 * t) bs y));
        some = rw (e, nodes-length n (drop 32 bs)) f.head.some;
        few = rw (e, nodes-length n (drop 32 bs)) f.head.few;
        texts = rw (e, texts-length t 0 (ends_part n bs) (texts_part n t bs)) f.head.named;
        size = rw (e, texts-written, body-length) f.head.small;
        apart = f.apart;
        shape = f.shape;
      }

  -- and the length of its file
  pub same-length : length (file s) ≡ length bs
  same-length =
      let e = sym f.is in
      let l₁ : length s.nodes ≡ n = rw e (nodes-length n (drop 32 bs)) in
      let l₂ : length s.texts ≡ t = rw e (texts-length t 0 (ends_part n bs) (texts_part n t bs)) in
      let l₃ : length (text_bytes s.texts) ≡ b = rw (e, texts-written) body-length in
      omega (arith, file-length s, l₁, l₂, l₃, f.head.long)

zero-narrow : Narrow zero_node
zero-narrow = record { kind = omega arith; form = omega arith; arity = omega arith; text = omega arith; bits = omega arith }

-- the resolved script fits a file, if it has not too many identifiers
module _ (s : Script) (h : Shaped s) where
  put-narrow : (i : ℕ) → i < length s.nodes → Narrow (node_at (resolved s) (suc i))
  put-narrow i l = go (has_id (node_at s (suc i))) refl
    where
      x : Raw
      x = node_at s (suc i)

      low : number_of (tree s h.shape) (variable (tree s h.shape) i) < 18446744073709551616
      low = omega (arith, number-low (tree s h.shape) i, opens-few apart (tree s h.shape), tree-count s h.shape, h.few)

      with-bits : (v : ℕ) → v < 18446744073709551616 → Narrow (record { kind = (node_at s (suc i)).kind; form = (node_at s (suc i)).form; arity = (node_at s (suc i)).arity; text = (node_at s (suc i)).text; bits = v })
      with-bits v k = (let n = h.narrow i in record { kind = n.kind; form = n.form; arity = n.arity; text = n.text; bits = k })

      picked : (p : Bool) (v w : ℕ) → v < 18446744073709551616 → w < 18446744073709551616 → pick p v w < 18446744073709551616
      picked true v w k l = k
      picked false v w k l = l

      plain : (p : Bool) → p ≡ false → (v w : ℕ) → w < 18446744073709551616 → pick p v w < 18446744073709551616
      plain true e v w k = absurd (clash (sym e))
      plain false e v w k = k

      go : (p : Bool) → has_id (node_at s (suc i)) ≡ p → Narrow (node_at (resolved s) (suc i))
      go true e = subst Narrow (sym (named-is s h.shape i l (is_T _ e))) (with-bits (pick (has_id (node_at s (suc i))) (number_of (tree s h.shape) (variable (tree s h.shape) i)) (node_at s (suc i)).bits) (picked (has_id (node_at s (suc i))) _ _ low (h.narrow i).bits))
      go false e = subst Narrow (sym (node-is s h.shape i l)) (with-bits (pick (has_id (node_at s (suc i))) (nth (resolve apart (tree s h.shape) [] 1) i).num (node_at s (suc i)).bits) (plain (has_id (node_at s (suc i))) e _ _ (h.narrow i).bits))

  resolved-narrow : (k : ℕ) → Narrow (get_or (resolved s).nodes k zero_node)
  resolved-narrow k = go (dec_le (suc k) (length s.nodes))
    where
      go : Dec (suc k ≤ length s.nodes) → Narrow (get_or (resolved s).nodes k zero_node)
      go (yes l) = put-narrow k l
      go (no g) = subst Narrow (sym (get_or-eq_default (resolved s).nodes zero_node (omega (arith, g, resolved-length s h.shape)))) zero-narrow

  pub resolved-fits : length (idents (resolved s)) ≤ 256 → Fits (resolved s)
  unfolding resolved
  resolved-fits m = record {
    narrow = resolved-narrow;
    bytes = h.bytes;
    some = omega (arith, h.some, resolved-length s h.shape);
    few = omega (arith, h.few, resolved-length s h.shape);
    texts = h.texts;
    size = h.size;
    apart = h.apart;
    shape = nodes-ok-resolved s ∙ h.shape;
    names = m;
  }

  pub resolved-long : length (file (resolved s)) ≡ length (file s)
  unfolding resolved
  resolved-long = omega (arith, file-length (resolved s), file-length s, resolved-length s h.shape)

-- the answers
abbrev fit : Script → Bool
fit s = leb (length (idents (resolved s))) 256

abbrev short : ℕ → Script → Bool
short room s = leb (length (file (resolved s))) room

abbrev by : ℕ → Script → Bool → Bool → Bool → Resolving
by room s p q r = elim p as (λ z. Resolving) [ true ↦ refused 13 | false ↦ elim q as (λ z. Resolving) [ false ↦ refused 7 | true ↦ elim r as (λ z. Resolving) [ true ↦ wrote (file (resolved s)) | false ↦ refused 10 ] ] ]

abbrev RowOk : Read → Type 0
RowOk (bad n) = (2 ≤ n) × (n ≤ 6)
RowOk (script s) = Unit {0}

row_ok : (bs : List ℕ) → RowOk (read_shaped bs)
unfolding read_shaped
row_ok bs =
    let n = u32 bs 8 in
    let t = u32 bs 16 in
    let b = u32 bs 28 in
    let x = script_in n t bs in
    go (row2 bs) (row3 n t b) (row4 bs n t b) (rising 0 (ends_from t (ends_part n bs)) b && distinct x.texts) (nodes_ok x) x
  where
    go : (p q r u v : Bool) (x : Script) → RowOk (elim p as (λ z. Read) [ false ↦ bad 2 | true ↦ elim q as (λ z. Read) [ false ↦ bad 3 | true ↦ elim r as (λ z. Read) [ false ↦ bad 4 | true ↦ elim u as (λ z. Read) [ false ↦ bad 5 | true ↦ elim v as (λ z. Read) [ false ↦ bad 6 | true ↦ script x ] ] ] ] ])
    go false q r u v x = (omega arith, omega arith)
    go true false r u v x = (omega arith, omega arith)
    go true true false u v x = (omega arith, omega arith)
    go true true true false v x = (omega arith, omega arith)
    go true true true true false x = (omega arith, omega arith)
    go true true true true true x = tt

pub answers : Answers
unfolding resolve_entry
answers words bs room = go (leb 16384 words) refl (read_shaped bs) refl (row_ok bs)
  where
    go : (p : Bool) → leb 16384 words ≡ p → (r : Read) → read_shaped bs ≡ r → RowOk r → Why words bs room (elim p as (λ z. Resolving) [ false ↦ refused 1 | true ↦ resolve_read room r ])
    go false e r q h = few_words (leb-false 16384 words e)
    go true e (bad n) q h = not_read n (leb-true 16384 words e) q h.0 h.1
    go true e (script s) q h = rows (clashes_in s) refl (fit s) refl (short room s) refl
      where
        l : 16384 ≤ words
        l = leb-true 16384 words e

        none : clashes_in s ≡ false → ClashesIn s → ⊥
        none c z = clash (sym c ∙ (thirteen s).1 z)

        rows : (c : Bool) → clashes_in s ≡ c → (m : Bool) → fit s ≡ m → (k : Bool) → short room s ≡ k → Why words bs room (by room s c m k)
        rows true d m f k g = clashing s (leb-true 16384 words e) q ((thirteen s).0 d)
        rows false d false f k g = many_names s (leb-true 16384 words e) q (none d) (leb-false (length (idents (resolved s))) 256 f)
        rows false d true f false g = no_room s (leb-true 16384 words e) q (none d) (leb-true (length (idents (resolved s))) 256 f) (leb-false (length (file (resolved s))) room g)
        rows false d true f true g = has_room s (leb-true 16384 words e) q (none d) (leb-true (length (idents (resolved s))) 256 f) (leb-true (length (file (resolved s))) room g)

is_refused : Resolving → Bool
is_refused (refused n) = true
is_refused (wrote out) = false

written_of : Resolving → List ℕ
written_of (refused n) = []
written_of (wrote out) = out

never : (n : ℕ) (out : List ℕ) → refused n ≡ wrote out → ⊥
unfolding is_refused
never n out e = clash (sym (ap is_refused e))

is_out : (a b : List ℕ) → wrote a ≡ wrote b → a ≡ b
unfolding written_of
is_out a b e = ap written_of e

-- what has been written
record Wrote (words : ℕ) (bs : List ℕ) (room : ℕ) (out : List ℕ) : Type 0 where
  given : Script
  words-enough : leb 16384 words ≡ true
  shaped-as : read_shaped bs ≡ script given
  unclashed : clashes_in given ≡ false
  fits : fit given ≡ true
  room-enough : short room given ≡ true
  is : file (resolved given) ≡ out

wrote-how : (words : ℕ) (bs : List ℕ) (room : ℕ) (out : List ℕ) → resolve_entry words bs room ≡ wrote out → Wrote words bs room out
unfolding resolve_entry
wrote-how words bs room out e = go (leb 16384 words) refl (read_shaped bs) refl e
  where
    go : (p : Bool) → leb 16384 words ≡ p → (r : Read) → read_shaped bs ≡ r → elim p as (λ z. Resolving) [ false ↦ refused 1 | true ↦ resolve_read room r ] ≡ wrote out → Wrote words bs room out
    go false d r q x = absurd (never 1 out x)
    go true d (bad n) q x = absurd (never n out x)
    go true d (script s) q x = rows (clashes_in s) refl (fit s) refl (short room s) refl x
      where
        rows : (c : Bool) → clashes_in s ≡ c → (m : Bool) → fit s ≡ m → (k : Bool) → short room s ≡ k → by room s c m k ≡ wrote out → Wrote words bs room out
        rows true c m f k g x = absurd (never 13 out x)
        rows false c false f k g x = absurd (never 7 out x)
        rows false c true f false g x = absurd (never 10 out x)
        rows false c true f true g x = record { given = s; words-enough = d; shaped-as = q; unclashed = c; fits = f; room-enough = g; is = is_out (file (resolved s)) out x }

-- from a reading by all rows to one by rows 2 to 6
from-read : (bs : List ℕ) (s : Script) → read bs ≡ script s → read_shaped bs ≡ script s
from-read bs s e = go (read_shaped bs) refl (sym (shaped-read bs) ∙ e)
  where
    go : (r : Read) → read_shaped bs ≡ r → seven r ≡ script s → read_shaped bs ≡ script s
    go (bad n) q x = absurd (unlike n x)
      where
        unlike : (n : ℕ) → bad n ≡ script s → ⊥
        unlike n x = (let z : ◌≡◌ {A = ℕ} 0 1 = cc in omega (arith, z))
    go (script u) q x = q ∙ (passed (leb (length (idents u)) 256) 7 (script u) s x).1

entry-is : (words room : ℕ) (bs : List ℕ) (s : Script) → leb 16384 words ≡ true → read_shaped bs ≡ script s → resolve_entry words bs room ≡ by room s (clashes_in s) (fit s) (short room s)
unfolding resolve_entry
entry-is words room bs s e q = ap₂ {C = Resolving} (λ (p : Bool) (r : Read). elim p as (λ z. Resolving) [ false ↦ refused 1 | true ↦ resolve_read room r ]) e q

by-same : (room : ℕ) (s : Script) (p q r : Bool) → p ≡ false → q ≡ true → r ≡ true → by room s p q r ≡ wrote (file (resolved s))
by-same room s p q r e f g = rw (e, f, g) refl

pub writes : Writes
writes words bs room out y e =
    let w = wrote-how words bs room out e in
    let s = w.given in
    let h = shaped_read bs s y w.shaped-as in
    let f = resolved-fits s h (leb-true (length (idents (resolved s))) 256 w.fits) in
    let a : read out ≡ script (resolved s) = ap read (sym w.is) ∙ round-again (resolved s) f in
    let t = resolved-twice s in
    record {
      given = s;
      shaped = w.shaped-as;
      bytes = subst Bytes w.is (file-bytes (resolved s) f);
      again = a;
      long = sym (ap length w.is) ∙ resolved-long s h ∙ same-length bs s y w.shaped-as;
      still = entry-is words room out (resolved s) w.words-enough (from-read out (resolved s) a)
          ∙ by-same room (resolved s) (clashes_in (resolved s)) (fit (resolved s)) (short room (resolved s)) (clashes-resolved s ∙ w.unclashed) (ap (λ (z : Script). leb (length (idents z)) 256) t ∙ w.fits) (ap (λ (z : Script). leb (length (file z)) room) t ∙ w.room-enough)
          ∙ ap (λ (z : Script). wrote (file z)) t ∙ ap wrote w.is;
    }

-- files whose names are paired
module _ (as' bs : List ℕ) (a b : Script) (x : Bytes as') (y : Bytes bs) (p : read_shaped as' ≡ script a) (q : read_shaped bs ≡ script b) (P : Paired (bare a) (bare b)) where
  ha : Shaped a
  ha = shaped_read as' a x p

  hb : Shaped b
  hb = shaped_read bs b y q

  by-alike : (room room' : ℕ) (c m k k' : Bool) → AlikeResolving (by room a c m k) (by room' b c m k')
  by-alike room room' true m k k' = refl
  by-alike room room' false false k k' = refl
  by-alike room room' false true true true = tt
  by-alike room room' false true true false = refl
  by-alike room room' false true false true = refl
  by-alike room room' false true false false = refl

  alike-answers : (words room room' : ℕ) → AlikeResolving (resolve_entry words as' room) (resolve_entry words bs room')
  unfolding resolve_entry
  alike-answers words room room' = go (leb 16384 words)
    where
      r : (clashes_in a ≡ clashes_in b) × (length (idents (resolved a)) ≡ length (idents (resolved b))) × Paired (resolved a) (resolved b)
      r = renamed a b (shaped_read as' a x p).shape (shaped_read bs b y q).shape P

      go : (c : Bool) → AlikeResolving (elim c as (λ z. Resolving) [ false ↦ refused 1 | true ↦ resolve_read room (read_shaped as') ]) (elim c as (λ z. Resolving) [ false ↦ refused 1 | true ↦ resolve_read room' (read_shaped bs) ])
      go false = refl
      go true = subst₂ (λ (u v : Read). AlikeResolving (resolve_read room u) (resolve_read room' v)) (sym p) (sym q)
          (subst₂ (λ (c m : Bool). AlikeResolving (by room a (clashes_in a) (fit a) (short room a)) (by room' b c m (short room' b))) r.0 (ap (λ (i : ℕ). leb i 256) r.1) (by-alike room room' (clashes_in a) (fit a) (short room a) (short room' b)))

  same-given : (us : List ℕ) (s u : Script) → read_shaped us ≡ script s → read_shaped us ≡ script u → s ≡ u
  same-given us s u e f = (let g : script s ≡ script u = sym e ∙ f in cc)

  alike-passes : (words room room' : ℕ) (out out' : List ℕ) → resolve_entry words as' room ≡ wrote out → resolve_entry words bs room' ≡ wrote out'
      → (runs words' space space' : ℕ) → AlikeEntry (resolved a) (resolved b) (entry runs words' out space) (entry runs words' out' space')
  alike-passes words room room' out out' d e runs words' space space' =
      let v = writes words as' room out x d in
      let w = writes words bs room' out' y e in
      let g : v.given ≡ a = same-given as' v.given a v.shaped p in
      let h : w.given ≡ b = same-given bs w.given b w.shaped q in
      demand3-entry out out' (resolved a) (resolved b) (v.again ∙ ap (λ (s : Script). script (resolved s)) g) (w.again ∙ ap (λ (s : Script). script (resolved s)) h) (renamed a b ha.shape hb.shape P).2 runs words' space space'

pub renamed-files : RenamedFiles
renamed-files as' bs a b x y p q P = record { answers = alike-answers as' bs a b x y p q P; passes = alike-passes as' bs a b x y p q P }

given-same : (us : List ℕ) (s u : Script) → read_shaped us ≡ script s → read_shaped us ≡ script u → s ≡ u
given-same us s u e f = (let g : script s ≡ script u = sym e ∙ f in cc)

-- what was written for a file is read as its resolved script
pub written-read : (words : ℕ) (bs : List ℕ) (room : ℕ) (out : List ℕ) (s : Script) → Bytes bs → resolve_entry words bs room ≡ wrote out → read_shaped bs ≡ script s → read out ≡ script (resolved s)
written-read words bs room out s y e q = let w = writes words bs room out y e in w.again ∙ ap (λ (z : Script). script (resolved z)) (given-same bs w.given s w.shaped q)

-- and is written whenever words and room are enough
pub written-in : (words words' : ℕ) (bs : List ℕ) (room room' : ℕ) (out : List ℕ) → resolve_entry words bs room ≡ wrote out → leb 16384 words' ≡ true → leb (length out) room' ≡ true → resolve_entry words' bs room' ≡ wrote out
written-in words words' bs room room' out e l m =
    let w = wrote-how words bs room out e in
    entry-is words' room' bs w.given l w.shaped-as ∙ by-same room' w.given (clashes_in w.given) (fit w.given) (short room' w.given) w.unclashed w.fits (ap (λ (xs : List ℕ). leb (length xs) room') w.is ∙ m) ∙ ap wrote w.is

-- a file resolved here, and one resolved elsewhere
pub elsewhere-files : ElsewhereFiles
unfolding pass_file
elsewhere-files words bs room out cs s b y e q r d v n =
    subst₂ (λ (x z : Read). ByNameAnswers (resolved s) b (pass_read n x) (pass_read n z)) (sym (written-read words bs room out s y e q)) (sym r) (elsewhere s b (shaped_read bs s y q).shape d v n).1

-- results of one length, so that both fit the room or neither
module _ (a b : Script) (k l : ℕ) (c d : Bool) (xs ys : List Out) (rs ss : List Root) (h : ByNameResults a b k l c d xs ys rs ss) where
  as-long : length (file_of a xs) ≡ length (file_of b ys)
  as-long = file-length (outcome a xs) ∙ ap₂ {C = ℕ} (λ (n : ℕ) (ts : List (List ℕ)). 32 + 16 * n + 4 * length ts + length (text_bytes ts)) h.nodes.same.count h.nodes.same.texts ∙ sym (file-length (outcome b ys))

  fitting : (room : ℕ) (p q : Bool) → p ≡ q
      → ByNameEntry a b (elim p as (λ z. Entry) [ true ↦ ends.passed (length (file_of a xs)) k c (file_of a xs) rs | false ↦ ends.refused 10 ]) (elim q as (λ z. Entry) [ true ↦ ends.passed (length (file_of b ys)) l d (file_of b ys) ss | false ↦ ends.refused 10 ])
  fitting room true true e = record { one = xs; two = ys; one-file = refl; two-file = refl; lengths = as-long; results = h }
  fitting room true false e = absurd (clash (sym e))
  fitting room false true e = absurd (clash e)
  fitting room false false e = refl

  fitted : (room : ℕ) → ByNameEntry a b (ends.written room a (yes! k c xs rs)) (ends.written room b (yes! l d ys ss))
  fitted room = fitting room (leb (length (file_of a xs)) room) (leb (length (file_of b ys)) room) (ap (λ (n : ℕ). leb n room) as-long)

written-by-name : (a b : Script) (room : ℕ) (x z : Answer) → ByNameAnswers a b x z → ByNameEntry a b (ends.written room a x) (ends.written room b z)
written-by-name a b room (no! n) (no! m) h = h
written-by-name a b room (no! n) (yes! l d ys ss) h = absurd h
written-by-name a b room (yes! k c xs rs) (no! m) h = absurd h
written-by-name a b room (yes! k c xs rs) (yes! l d ys ss) h = fitted a b k l c d xs ys rs ss h room

pub elsewhere-entries : ElsewhereEntries
unfolding entry
elsewhere-entries words bs room out cs s b y e q r d v runs words' space = go (enough runs words')
  where
    go : (p : Bool) → ByNameEntry (resolved s) b (elim p as (λ z. Entry) [ false ↦ ends.refused 1 | true ↦ entry_read runs space (read out) ]) (elim p as (λ z. Entry) [ false ↦ ends.refused 1 | true ↦ entry_read runs space (read cs) ])
    go false = refl
    go true = subst₂ (λ (x z : Read). ByNameEntry (resolved s) b (entry_read runs space x) (entry_read runs space z)) (sym (written-read words bs room out s y e q)) (sym r) (written-by-name (resolved s) b space (pass runs (resolved s)) (pass runs b) (elsewhere s b (shaped_read bs s y q).shape d v runs).1)

-- files that differ in nothing but contexts
pub ignored-files : ContextsIgnoredFiles
unfolding resolve_entry
ignored-files as' bs a b x p q d words room =
    let r = ignored a b (shaped_read as' a x p).shape d in
    ap (λ (z : Read). elim (leb 16384 words) as (λ u. Resolving) [ false ↦ refused 1 | true ↦ resolve_read room z ]) p
    ∙ ap₂ {C = Resolving} (λ (c : Bool) (s : Script). elim (leb 16384 words) as (λ u. Resolving) [ false ↦ refused 1 | true ↦ by-clash room c s ]) r.0 r.1
    ∙ sym (ap (λ (z : Read). elim (leb 16384 words) as (λ u. Resolving) [ false ↦ refused 1 | true ↦ resolve_read room z ]) q)
  where
    by-clash : ℕ → Bool → Script → Resolving
    by-clash room c s = elim c as (λ z. Resolving) [ true ↦ refused 13 | false ↦ elim (leb (length (idents s)) 256) as (λ z. Resolving) [ false ↦ refused 7 | true ↦ elim (leb (length (file s)) room) as (λ z. Resolving) [ true ↦ wrote (file s) | false ↦ refused 10 ] ] ]
