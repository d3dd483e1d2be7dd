-- The file of a result is read again, as the result; and how long a file is. Assumes nothing.
use mathlib.Core.Path.{◌≡◌, refl, sym, ap, subst}
use mathlib.Core.Bool.{Bool, true, false, ◌&&◌, ◌||◌, not}
use mathlib.Core.Option.{Option}
use mathlib.Core.List.{List, [], ◌∷◌, ◌++◌, map}
use Prim.Native.Nat.{ℕ, zero, suc, ◌+◌, ◌*◌, ◌≤◌, ◌<◌}
use native.Mathlib.Omega.{arith}
use lib.Dec.{eqb, leb}
use lib.ListN.{length, get_or, length-append}
use borrow.Author.Tests.{leb-true}
use Rattle.def_tree.specs.Base.{pick, to_nat}
use Rattle.def_tree.specs.Tree.{Core, length_f, take_f, drop_f, plant, flat, flats}
use Rattle.def_file.specs.declared.Raw.{Raw}
use Rattle.def_file.specs.Script.{Script, is_lit, has_id, known, enter, enter_all, idents, is_arguments, place_of, zero_node, node_at}
use Rattle.def_file.specs.Read.{Read, bad, script, checked, nodes_ok, read}
use Rattle.def_file.specs.Core.{has_text, core_node, core_from, core_nodes, Out, ident_at, lit_out, id_out, plain_out, back}
use Rattle.laws_roundtrip.specs.Fits.{Narrow, Fits}
use Rattle.def_file.specs.Write.{head_bytes, node_bytes, end_bytes, text_bytes, file}
use Rattle.laws_roundtrip.proofs.Nodes.{node-bytes-length}
use Rattle.laws_roundtrip.proofs.Texts.{end-bytes-length}
use Rattle.laws_roundtrip.proofs.Header.{passed}
use Rattle.laws_roundtrip.proofs.Round.{fits_read, again}
use Rattle.def_pass.specs.Tree.{Tree, Forest, node, nil, cons, count, counts, kids}
use Rattle.def_pass.specs.Twice.{unflagged, twice}
use Rattle.def_pass.specs.Walk as Walk
use Rattle.def_pass.specs.Script.{core_tree, pass_tree, pass, answer}
use Rattle.laws_pass.specs.Again.{raws_of, outcome, RefillsIn, AgainIn, AgainOf, ReadsAgain}
use Rattle.laws_pass.specs.Readable.{Readable, ReadableOut}
use Rattle.laws_pass.proofs.All.{All, all_append, get_d-all}
use Rattle.laws_pass.proofs.Keep as Keep
use Rattle.laws_pass.proofs.FromFile.{ReadOk, ReadsOk, read_ok, Whole, whole}
use Rattle.laws_pass.proofs.Readable.{result-readable}
use Rattle.laws_pass.proofs.Again.{fills-again}

all_get_d : (P : Raw → Type 0) (xs : List Raw) → ((k : ℕ) → P (get_or xs k zero_node)) → All P xs
all_get_d P [] h = tt
all_get_d P (x ∷ xs) h = (h 0, all_get_d P xs (λ k. h (suc k)))

-- the kind, and the form of what is no identifier, in a byte
abbrev Byte : ℕ → ℕ → ℕ → Type 0
Byte k f a = (k < 256) × ((eqb k 20 || eqb k 21) ≡ false → f < 256)

differ : true ≡ false → ⊥
differ q = let y : ◌≡◌ {A = ℕ} 0 1 = cc in omega arith

byte-ident : (f a : ℕ) → Byte 20 f a → Byte 21 (unflagged f) a
byte-ident f a h = (omega arith, λ e. absurd (differ e))

byte-void : Byte 30 0 0
byte-void = (omega arith, λ e. omega arith)

byte-zero : Byte 22 0 0
byte-zero = (omega arith, λ e. omega arith)

-- flagged or not
byte-form : (f g a : ℕ) → Byte 20 f a → Byte 20 g a
byte-form f g a h = (h.0, λ e. absurd (differ e))

abbrev ByteT : Tree → Type 0
ByteT t = Keep.OkT Byte byte-ident byte-void byte-zero t

abbrev ByteF : Forest → Type 0
ByteF ts = Keep.OkF Byte byte-ident byte-void byte-zero ts

abbrev ByteC : Core → Type 0
ByteC c = Byte c.kind c.form c.num

take-byte : (n : ℕ) (ts : Forest) → ByteF ts → ByteF (take_f n ts)
take-byte zero ts h = tt
take-byte (suc n) nil h = tt
take-byte (suc n) (cons t ts) h = (h.0, take-byte n ts h.1)

drop-byte : (n : ℕ) (ts : Forest) → ByteF ts → ByteF (drop_f n ts)
drop-byte zero ts h = h
drop-byte (suc n) nil h = tt
drop-byte (suc n) (cons t ts) h = drop-byte n ts h.1

plant-byte : (cs : List Core) → All ByteC cs → ByteF (plant cs)
plant-byte [] h = tt
plant-byte (c ∷ cs) h = ((h.0, take-byte c.arity (plant cs) (plant-byte cs h.1)), drop-byte c.arity (plant cs) (plant-byte cs h.1))

core-byte : (s : Script) (n : ℕ) (x : Raw) → Narrow x → ByteC (core_node s n x)
unfolding core_node
core-byte s n x h = go (is_lit x) (has_id x)
  where
    flag : (b : Bool) → to_nat b < 256
    flag true = omega arith
    flag false = omega arith

    go : (q r : Bool) → ByteC (pick q (record { kind = 22; form = 0; arity = 0; num = n }) (pick r (record { kind = x.kind; form = to_nat (is_arguments s x); arity = x.arity; num = place_of x (idents s) }) (record { kind = x.kind; form = x.form; arity = x.arity; num = n })))
    go true r = (omega arith, λ e. omega arith)
    go false true = (h.kind, λ e. flag (is_arguments s x))
    go false false = (h.kind, λ e. h.form)

cores-byte : (s : Script) (n : ℕ) (xs : List Raw) → All Narrow xs → All ByteC (core_from s n xs)
cores-byte s n [] h = tt
cores-byte s n (x ∷ xs) h = (core-byte s n x h.0, cores-byte s (suc n) xs h.1)

-- the nodes of a tree
record Slim (c : Core) : Type 0 where
  kind : c.kind < 256
  form : (eqb c.kind 20 || eqb c.kind 21) ≡ false → c.form < 256
  arity : c.arity < 65536

short : (ts : Forest) → length_f ts ≤ counts ts
short nil = omega arith
short (cons (node k f a us) ts) = (let l = short ts in omega (arith, l))

mutual
  flat-slim : (t : Tree) (rest : List Core) → ByteT t → count t ≤ 1024 → All Slim rest → All Slim (flat t rest)
  flat-slim (node k f a ts) rest h l r = (let n = short ts in record { kind = h.0.0; form = h.0.1; arity = omega (arith, l, n) }, flats-slim ts rest h.1 (omega (arith, l)) r)

  flats-slim : (ts : Forest) (rest : List Core) → ByteF ts → counts ts ≤ 1024 → All Slim rest → All Slim (flats ts rest)
  flats-slim nil rest h l r = r
  flats-slim (cons t ts) rest h l r = flat-slim t (flats ts rest) h.0 (omega (arith, l)) (flats-slim ts rest h.1 (omega (arith, l)) r)

mutual
  flat-count : (t : Tree) (rest : List Core) → length (flat t rest) ≡ count t + length rest
  flat-count (node k f a ts) rest = omega (arith, flats-count ts rest)

  flats-count : (ts : Forest) (rest : List Core) → length (flats ts rest) ≡ counts ts + length rest
  flats-count nil rest = omega arith
  flats-count (cons t ts) rest = omega (arith, flat-count t (flats ts rest), flats-count ts rest)

one_more_lem : (t : Tree) → 1 ≤ count t
one_more_lem (node k f a ts) = omega arith

raws-count : (s : Script) (cs : List Core) → length (raws_of s cs) ≡ length cs
raws-count s [] = refl
raws-count s (c ∷ cs) = ap suc (raws-count s cs)

-- back in a file's nodes
zero-narrow : Narrow zero_node
zero-narrow = record { kind = omega arith; form = omega arith; arity = omega arith; text = omega arith; bits = omega arith }

enter-narrow : (ids : List Raw) (x : Raw) → Narrow x → All Narrow ids → All Narrow (enter ids x)
enter-narrow ids x f h = go (has_id x && not (known x ids))
  where
    go : (p : Bool) → All Narrow (pick p (ids ++ (x ∷ [])) ids)
    go true = all_append Narrow ids x h f
    go false = h

all-narrow : (ids xs : List Raw) → All Narrow xs → All Narrow ids → All Narrow (enter_all ids xs)
unfolding enter_all
all-narrow ids [] f h = h
all-narrow ids (x ∷ xs) f h = all-narrow (enter ids x) xs f.1 (enter-narrow ids x f.0 h)

module _ (s : Script) (ok : All Narrow s.nodes) where
  at-narrow : (a : ℕ) → Narrow (node_at s a)
  at-narrow a = get_d-all Narrow (zero_node ∷ s.nodes) a zero_node (zero-narrow, ok) zero-narrow

  ident-narrow : (i : ℕ) → Narrow (ident_at s i)
  unfolding idents
  ident-narrow i = get_d-all Narrow (idents s) i zero_node (all-narrow [] s.nodes ok tt) zero-narrow

  back-narrow : (c : Core) → Slim c → Narrow (back s c).raw
  unfolding back
  back-narrow c h = go (leb 22 c.kind && leb c.kind 25) (eqb c.kind 20 || eqb c.kind 21) refl
    where
      word : (b : Bool) → pick b (node_at s c.num).text 0 < 4294967296
      word true = (at-narrow c.num).text
      word false = omega arith

      go : (u v : Bool) → (eqb c.kind 20 || eqb c.kind 21) ≡ v → Narrow (pick {A = Out} u (lit_out s c) (pick {A = Out} v (id_out s c) (plain_out s c))).raw
      go true v e = at-narrow c.num
      go false true e = record { kind = h.kind; form = omega arith; arity = h.arity; text = (ident-narrow c.num).text; bits = (ident-narrow c.num).bits }
      go false false e = record { kind = h.kind; form = h.form e; arity = h.arity; text = word (has_text c.kind); bits = omega arith }

  backs-narrow : (cs : List Core) → All Slim cs → All Narrow (raws_of s cs)
  backs-narrow [] h = tt
  backs-narrow (c ∷ cs) h = (back-narrow c h.0, backs-narrow cs h.1)

-- the result's script fits a file
fits-again : (s : Script) → Fits s → (u : Tree) → Readable u → ByteT u → checked (outcome s (map (back s) (flat u []))) ≡ script (outcome s (map (back s) (flat u []))) → Fits (outcome s (map (back s) (flat u [])))
fits-again s f u h b e =
    let r = outcome s (map (back s) (flat u [])) in
    let p = passed (nodes_ok r) 6 _ r e in
    let q = passed (leb (length (idents r)) 256) 7 (script r) r p.1 in
    let n = raws-count s (flat u []) in
    let m = flat-count u [] in
    let l = h.small.1 in
    let o = one_more_lem u in
    record {
      narrow = λ k. get_d-all Narrow (raws_of s (flat u [])) k zero_node (backs-narrow s (all_get_d Narrow s.nodes f.narrow) (flat u []) (flat-slim u [] b l tt)) zero-narrow;
      bytes = f.bytes;
      some = omega (arith, n, m, o);
      few = omega (arith, n, m, l);
      texts = f.texts;
      size = f.size;
      apart = f.apart;
      shape = p.0;
      names = leb-true (length (idents r)) 256 q.0;
    }

nodes-byte : (s : Script) → Fits s → All ByteC (core_nodes s)
unfolding core_nodes
nodes-byte s f = cores-byte s 1 s.nodes (all_get_d Narrow s.nodes f.narrow)

-- the result of a script that is read
pub again-in : (n : ℕ) (s : Script) → Fits s → ReadOk s → AgainIn s (pass n s)
unfolding pass
again-in n s f o = by (whole s o)
  where
    out : (x : Walk.Outcome) → ReadableOut x → Keep.OkOut Byte byte-ident byte-void byte-zero x → RefillsIn s (answer s x) → AgainIn s (answer s x)
    out (Walk.refused r) h b e = tt
    out (Walk.result m c u ms) h b e = again (outcome s (map (back s) (flat u []))) (fits-again s f u h b.0 e)

    tree-byte : (w : Whole s) → ByteT w.tree
    tree-byte w = (subst ByteF w.alone (plant-byte (core_nodes s) (nodes-byte s f))).0

    by : Whole s → AgainIn s (answer s (pass_tree n (core_tree s)))
    by w = subst (λ (x : Option Tree). AgainIn s (answer s (pass_tree n x))) (sym w.is) (out (Walk.core_pass n w.tree) (result-readable n w.tree w.readable) (Keep.pass-ok Byte byte-ident byte-void byte-zero n w.tree (Keep.flag_ok Byte byte-ident byte-void byte-zero byte-form (twice (kids w.tree)) w.tree (tree-byte w))) (subst (λ (x : Option Tree). RefillsIn s (answer s (pass_tree n x))) w.is (fills-again n s o)))

pub reads-again : ReadsAgain
reads-again n bs y = go (read bs) refl (read_ok bs)
  where
    go : (r : Read) → read bs ≡ r → ReadsOk r → AgainOf n r
    go (bad r) q o = tt
    go (script s) q o = again-in n s (fits_read bs s y q) o

-- a file's length, by its nodes and texts
pub file-length : (s : Script) → length (file s) ≡ 32 + 16 * length s.nodes + 4 * length s.texts + length (text_bytes s.texts)
unfolding file
file-length s =
    let n = length s.nodes in
    let t = length s.texts in
    let b = length (text_bytes s.texts) in
    let f₁ = length-append (head_bytes n t b ++ node_bytes s.nodes ++ end_bytes 0 s.texts) (text_bytes s.texts) in
    let f₂ = length-append (head_bytes n t b ++ node_bytes s.nodes) (end_bytes 0 s.texts) in
    let f₃ = length-append (head_bytes n t b) (node_bytes s.nodes) in
    omega (arith, f₁, f₂, f₃, node-bytes-length s.nodes, end-bytes-length 0 s.texts)
