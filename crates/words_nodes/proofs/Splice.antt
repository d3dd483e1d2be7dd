-- Nodes stored, moved and copied in the words, and what that makes of the tree. Assumes nothing.
use mathlib.Core.Path.{◌≡◌, refl, sym, ap, ◌∙◌}
use mathlib.Core.List.{List, [], ◌∷◌, ◌++◌}
use mathlib.Core.Option.{some}
use mathlib.Core.Logic.{⊎_elim}
use Prim.Native.Nat.{ℕ, zero, suc, ◌+◌, ◌-◌, ◌*◌, ◌≤◌, ◌<◌}
use native.Mathlib.Omega.{arith}
use lib.ListN.{length, get_or, take, drop, set, length-set, length-drop, get_or-append}
use lib.Seq.{get_or-set_same, get_or-set_other, get_or-drop, take_at, ext_get_or}
use Rattle.def_tree.specs.Tree.{Tree, Forest, node, count, Core, core, no_core, flat, plant, first_t}
use Rattle.def_tree.specs.Combine.{re_arity}
use Rattle.def_tree.proofs.Place.{plant-flat}
use Rattle.def_tree.proofs.Whole.{Whole as Whole', whole_drop}
use Rattle.def_pass.specs.Tree.{void_zero}
use Rattle.def_file.specs.Named.{number_of}
use Rattle.def_file.proofs.Named.{numbered}
use Rattle.words.specs.declared.Node.{Node}
use Rattle.words.specs.Node.{IsNode, Packed, core_of}
use Rattle.words.specs.Layout.{core_from, node_of, run, tree}
use Rattle.words.specs.Moved.{Moved}
use Rattle.words.proofs.Nodes.{core-same, tree-length, tree-at, run_length, run-at}
use Rattle.words_scopes.specs.State.{Names, Whole, value_of, run_of}
use Rattle.words_nodes.specs.Nodes.{tree_from, Trees, Planted, Child, put_at, cut_at, Apart, NodePut, Slid, Replants}
use Rattle.words_nodes.proofs.Lists.{spliced, names-append, names-take, names-drop, names-set}
use Rattle.words_nodes.proofs.Trees.{one-whole, flat_append, length-flat, flat-from, put_one, cut-one, behind-le, child-lt, child-in, whole-trees}
use Rattle.words_nodes.proofs.Words.{tree-whole}
use Rattle.words.proofs.Stored.{apart-then, put-tree}
use Rattle.words_nodes.proofs.Apart.{replants}

-- in the place of `old` nodes from i on stand vs
pub record Spliced (w w' : List ℕ) (i old : ℕ) (vs : List Core) : Type 0 where
  pub apart : Apart w w'
  pub count : get_or w' 0 0 ≡ get_or w 0 0 + length vs - old
  pub low : (j : ℕ) → j < i → node_of w' j ≡ node_of w j
  pub new : (j : ℕ) → j < length vs → node_of w' (i + j) ≡ get_or vs j no_core
  pub high : (j : ℕ) → j < get_or w 0 0 - (i + old) → node_of w' (i + length vs + j) ≡ node_of w (i + old + j)

module _ {w w' : List ℕ} {i old : ℕ} {vs : List Core} (s : Spliced w w' i old vs) (l : i + old ≤ get_or w 0 0) where
  pub spliced-tree : tree w' ≡ take i (tree w) ++ (vs ++ drop (i + old) (tree w))
  spliced-tree =
      let n = tree-length w in
      let c = s.count in
      spliced no_core (tree w') (tree w) vs i (i + old) (omega arith) (tree-length w' ∙ omega arith)
      (λ j a. tree-at w' j (omega arith) ∙ s.low j a ∙ sym (tree-at w j (omega arith)))
      (λ j a. tree-at w' (i + j) (omega arith) ∙ s.new j a)
      (λ j a. let b : j < get_or w 0 0 - (i + old) = omega arith in tree-at w' (i + length vs + j) (omega arith) ∙ s.high j b ∙ sym (tree-at w (i + old + j) (omega arith)))

-- e in the place of the tree at i
module _ {w : List ℕ} (g : Planted w) {i : ℕ} (l : i < get_or w 0 0) where
  abbrev old : ℕ
  old = count (tree_from (tree w) i)

  here : i < length (tree w)
  here = rw tree-length l

  pub room : i + old ≤ get_or w 0 0
  room = rw tree-length at (behind-le (tree w) i here (tree-whole g))

  pub put-done : {w' : List ℕ} (e : Tree) → Spliced w w' i old (flat e []) → Names (flat e []) → get_or w 0 0 + count e ≤ 1024 + old → Replants w w' (put_at (tree w) i e)
  unfolding put_at
  put-done {w'} e s n f =
      let xs : List Core = tree w in
      let is : take i xs ++ (flat e [] ++ drop (i + old) xs) ≡ put_at xs i e = ap (λ (l : List Core). take i xs ++ l) (sym (flat_append e (drop (i + old) xs))) in
      replants (put_at xs i e) g s.apart (omega (arith, s.count, length-flat e [])) (spliced-tree s room ∙ is)
      (rw (← is) (names-append (take i xs) (flat e [] ++ drop (i + old) xs) (names-take i xs (omega (arith, here)) g.good.names) (names-append (flat e []) (drop (i + old) xs) n (names-drop (i + old) xs g.good.names))))
      (put_one xs i here e g.one)

-- as many nodes as before: nothing moves
pub unslid : (w : List ℕ) (i : ℕ) {old m : ℕ} → old ≡ m → Slid w w i old m
unslid w i {old} {m} e = record {
  apart = record { size = refl; low = λ j a b. refl; high = λ j l. refl };
  count = omega (arith, e);
  low = λ j l. refl;
  high = λ j l. ap (λ (k : ℕ). node_of w (i + k + j)) (sym e);
}

-- the nodes behind the first i + old moved behind the first i + m
module _ (w u : List ℕ) (i old m : ℕ) (long : 16384 ≤ length w) (l : i + old ≤ get_or w 0 0) (f : get_or w 0 0 + m ≤ 1024 + old)
    (s : Moved w u (16 + (i + old) * 2) (16 + (i + m) * 2) ((get_or w 0 0 - i - old) * 2)) where
  abbrev u' : List ℕ
  u' = set u 0 (get_or w 0 0 + m - old)

  behind : (j : ℕ) → 0 < j → get_or u' j 0 ≡ get_or u j 0
  behind j a = get_or-set_other u 0 j (get_or w 0 0 + m - old) 0 (λ e. omega arith)

  pub slid : Slid w u' i old m
  slid = record {
    apart = record {
      size = simp length-set s.size;
      low = λ j a b. behind j (omega arith) ∙ s.low j (omega arith);
      high = λ j a. behind j (omega arith) ∙ s.high j (omega arith);
    };
    count = get_or-set_same u 0 (get_or w 0 0 + m - old) 0 (omega (arith, s.size));
    low = λ j a. core-same w u' (16 + j * 2) (16 + j * 2) (behind (16 + j * 2) (omega arith) ∙ s.low (16 + j * 2) (omega arith)) (behind (16 + j * 2 + 1) (omega arith) ∙ s.low (16 + j * 2 + 1) (omega arith));
    high = λ j a.
        let at : (q : ℕ) → q < 2 → get_or u' (16 + (i + m) * 2 + (j * 2 + q)) 0 ≡ get_or w (16 + (i + old) * 2 + (j * 2 + q)) 0 = λ q b. behind (16 + (i + m) * 2 + (j * 2 + q)) (omega arith) ∙ s.here (j * 2 + q) (omega arith) in
        let a0 : 16 + (i + m) * 2 + (j * 2 + 0) ≡ 16 + (i + m + j) * 2 = omega arith in
        let a1 : 16 + (i + m) * 2 + (j * 2 + 1) ≡ 16 + (i + m + j) * 2 + 1 = omega arith in
        let b0 : 16 + (i + old) * 2 + (j * 2 + 0) ≡ 16 + (i + old + j) * 2 = omega arith in
        let b1 : 16 + (i + old) * 2 + (j * 2 + 1) ≡ 16 + (i + old + j) * 2 + 1 = omega arith in
        core-same w u' (16 + (i + m + j) * 2) (16 + (i + old + j) * 2) (rw (a0, b0) at (at 0 (omega arith))) (rw (a1, b1) at (at 1 (omega arith)));
  }

-- a stretch of nodes copied to node i
module _ {u v : List ℕ} (src i m : ℕ) (s : Moved u v src (16 + i * 2) (m * 2)) (f : i + m ≤ 1024) where
  copied-apart : Apart u v
  copied-apart = record { size = s.size; low = λ j a b. s.low j (omega arith); high = λ j a. s.high j (omega arith) }

  copied-low : (j : ℕ) → j < i → node_of v j ≡ node_of u j
  copied-low j a = core-same u v (16 + j * 2) (16 + j * 2) (s.low (16 + j * 2) (omega arith)) (s.low (16 + j * 2 + 1) (omega arith))

  copied-high : (j : ℕ) → i + m ≤ j → node_of v j ≡ node_of u j
  copied-high j a = core-same u v (16 + j * 2) (16 + j * 2) (s.high (16 + j * 2) (omega arith)) (s.high (16 + j * 2 + 1) (omega arith))

  copied-new : (j : ℕ) → j < m → node_of v (i + j) ≡ core_from u (src + j * 2)
  copied-new j a =
      let a0 : 16 + i * 2 + (j * 2 + 0) ≡ 16 + (i + j) * 2 = omega arith in
      let a1 : 16 + i * 2 + (j * 2 + 1) ≡ 16 + (i + j) * 2 + 1 = omega arith in
      let b0 : src + (j * 2 + 0) ≡ src + j * 2 = omega arith in
      let b1 : src + (j * 2 + 1) ≡ src + j * 2 + 1 = omega arith in
      core-same u v (16 + (i + j) * 2) (src + j * 2) (rw (a0, b0) at (s.here (j * 2 + 0) (omega arith))) (rw (a1, b1) at (s.here (j * 2 + 1) (omega arith)))

-- a place made, and then a run of a store copied there, or `void 0` written
module _ {w u : List ℕ} {i old m : ℕ} (a : Slid w u i old m) (l : i + old ≤ get_or w 0 0) (f : get_or w 0 0 + m ≤ 1024 + old) where
  pub run-spliced : {v : List ℕ} (base at : ℕ) → 2064 ≤ base → Moved u v (base + at * 2) (16 + i * 2) (m * 2) → Spliced w v i old (run w base at m)
  run-spliced {v} base at b s =
      let src : ℕ = base + at * 2 in
      let f' : i + m ≤ 1024 = omega arith in
      let n = run_length w base at m in
      record {
        apart = apart-then a.apart (copied-apart src i m s f');
        count = s.low 0 (omega arith) ∙ a.count ∙ omega arith;
        low = λ j q. copied-low src i m s f' j q ∙ a.low j (omega arith);
        new = λ j q.
            let q' : j < m = omega arith in
            let e : src + j * 2 ≡ base + (at + j) * 2 = omega arith in
            copied-new src i m s f' j q' ∙ core-same w u (src + j * 2) (src + j * 2) (a.apart.high (src + j * 2) (omega arith)) (a.apart.high (src + j * 2 + 1) (omega arith)) ∙ ap (core_from w) e ∙ sym (run-at w base at m j q');
        high = λ j q. let e : i + length (run w base at m) + j ≡ i + m + j = omega arith in rw e (copied-high src i m s f' (i + m + j) (omega arith) ∙ a.high j q);
      }

pub void-spliced : {w u v x : List ℕ} {i old : ℕ} → Slid w u i old 2 → i + old ≤ get_or w 0 0 → NodePut u v i (core 30 0 1 0) → NodePut v x (i + 1) (core 22 0 0 0) → Spliced w x i old (flat void_zero [])
void-spliced {w} {u} {v} {x} {i} {old} a l s t = record {
  apart = apart-then a.apart (apart-then s.apart t.apart);
  count = t.count ∙ s.count ∙ a.count;
  low = λ j q. t.other j (λ e. omega arith) ∙ s.other j (λ e. omega arith) ∙ a.low j (omega arith);
  new = new;
  high = λ j q. t.other (i + 2 + j) (λ e. omega arith) ∙ s.other (i + 2 + j) (λ e. omega arith) ∙ a.high j q;
}
  where
    new : (j : ℕ) → j < 2 → node_of x (i + j) ≡ get_or (flat void_zero []) j no_core
    new zero h = let e : i + 0 ≡ i = omega arith in rw e (t.other i (λ q. omega arith) ∙ s.here)
    new (suc zero) h = t.here
    new (suc (suc j)) h = absurd (omega arith)

-- a recorded value in the place of the tree at i
run-one : (xs : List Core) → 0 < length xs → run_of (value_of xs) ≡ xs → flat (first_t (plant xs)) [] ≡ xs
run-one [] h e = absurd (omega arith)
run-one (x ∷ xs) h e = e

module _ (w : List ℕ) (base at m : ℕ) (z : 0 < m) (h : Whole (run w base at m)) where
  pub run_is : flat (first_t (plant (run w base at m))) [] ≡ run w base at m
  run_is = run-one (run w base at m) (omega (arith, run_length w base at m)) h.one

  pub run-count : count (first_t (plant (run w base at m))) ≡ m
  run-count = omega (arith, sym (length-flat (first_t (plant (run w base at m))) []) ∙ ap length run_is ∙ run_length w base at m)

pub run-done : {w : List ℕ} (g : Planted w) {i : ℕ} (l : i < get_or w 0 0) (base at m : ℕ) → 0 < m → Whole (run w base at m) → get_or w 0 0 + m ≤ 1024 + count (tree_from (tree w) i)
    → {w' : List ℕ} → Spliced w w' i (count (tree_from (tree w) i)) (run w base at m) → Replants w w' (put_at (tree w) i (first_t (plant (run w base at m))))
run-done {w} g l base at m z h f s =
    let e : flat (first_t (plant (run w base at m))) [] ≡ run w base at m = run_is w base at m z h in
    put-done g l (first_t (plant (run w base at m))) (rw e s) (rw e h.names) (omega (arith, run-count w base at m z h))

pub run-trees : (w : List ℕ) (base at m : ℕ) → 0 < m → Whole (run w base at m) → Trees (run w base at m)
run-trees w base at m z h = whole-trees (run w base at m) (one-whole (record { is = run_is w base at m z h }))

pub void-names : Names (flat void_zero [])
void-names zero o = ⊎_elim (λ (e : 30 ≡ 20). absurd (omega arith)) (λ (e : 30 ≡ 21). absurd (omega arith)) o
void-names (suc zero) o = ⊎_elim (λ (e : 22 ≡ 20). absurd (omega arith)) (λ (e : 22 ≡ 21). absurd (omega arith)) o
void-names (suc (suc j)) o = ⊎_elim (λ (e : 0 ≡ 20). absurd (omega arith)) (λ (e : 0 ≡ 21). absurd (omega arith)) o

value-flat : (t : Tree) → value_of (flat t []) ≡ some t
value-flat (node k f a ts) = ap (λ (us : Forest). some (first_t us)) (plant-flat (node k f a ts) [])

-- the nodes of the tree at j
module _ {w : List ℕ} (g : Planted w) {j : ℕ} (l : j < get_or w 0 0) where
  abbrev e : Tree
  e = tree_from (tree w) j

  nodes-of : flat e [] ++ drop (j + count e) (tree w) ≡ drop j (tree w)
  nodes-of = sym (flat_append e (drop (j + count e) (tree w))) ∙ flat-from (tree w) j (rw tree-length l) (tree-whole g)

  long-e : length (flat e []) ≡ count e
  long-e = length-flat e [] ∙ omega arith

  node-of : (q : ℕ) → q < count e → get_or (flat e []) q no_core ≡ node_of w (j + q)
  node-of q h =
      let r = room g l in
      sym (get_or-append (flat e []) (drop (j + count e) (tree w)) no_core q (omega (arith, long-e))) ∙ ap (λ (l : List Core). get_or l q no_core) nodes-of ∙ get_or-drop j (tree w) q no_core ∙ tree-at w (j + q) (omega arith)

  names_of : Names (flat e [])
  names_of =
      let r = room g l in
      let is : take (count e) (drop j (tree w)) ≡ flat e [] = ap (take (count e)) (sym nodes-of) ∙ take_at (flat e []) (drop (j + count e) (tree w)) (count e) long-e in
      rw is at (names-take (count e) (drop j (tree w)) (omega (arith, length-drop j (tree w), tree-length w)) (names-drop j (tree w) g.good.names))

  -- as a run, which a function that records a value copies
  pub subtree-run : run w 16 j (count e) ≡ flat e []
  subtree-run = ext_get_or no_core (run w 16 j (count e)) (flat e []) (run_length w 16 j (count e) ∙ sym long-e)
      (λ q h. let q' : q < count e = omega (arith, run_length w 16 j (count e)) in run-at w 16 j (count e) q q' ∙ sym (node-of q q'))

  pub subtree-value : value_of (run w 16 j (count e)) ≡ some e
  subtree-value = ap value_of subtree-run ∙ value-flat e

  pub subtree-one : run_of (value_of (run w 16 j (count e))) ≡ run w 16 j (count e)
  subtree-one = ap run_of subtree-value ∙ sym subtree-run

-- the tree at j in the place of that at i, whose child it is: copied there, and then the end moved
module _ {w : List ℕ} (g : Planted w) {i j : ℕ} (h : Child (tree w) i 1 j) where
  inner : Whole' (drop i (tree w))
  inner = whole_drop i (tree w) (tree-whole g)

  pub outer-in : i < get_or w 0 0
  outer-in = rw tree-length at h.parent

  pub inner-in : j < get_or w 0 0
  inner-in = rw tree-length at (child-lt h inner).1

  pub inner-lt : i < j
  inner-lt = (child-lt h inner).0

  pub inner-le : j + count (tree_from (tree w) j) ≤ i + count (tree_from (tree w) i)
  inner-le = child-in h inner

  -- all that the indices of the copy and of the move need
  pub lift-room : (i < j) × (j + count (tree_from (tree w) j) ≤ i + count (tree_from (tree w) i)) × (i + count (tree_from (tree w) i) ≤ get_or w 0 0) × (get_or w 0 0 ≤ 1024) × (16384 ≤ length w)
  lift-room = (inner-lt, inner-le, room g outer-in, g.good.nodes, g.good.long)

  pub lift-done : {u v : List ℕ} {old m : ℕ} → m ≡ count (tree_from (tree w) j) → old ≡ count (tree_from (tree w) i) → Moved w u (16 + j * 2) (16 + i * 2) (m * 2) → Slid u v i old m → Replants w v (put_at (tree w) i (tree_from (tree w) j))
  lift-done {u} {v} {old} {m} em eo s t =
      let r = lift-room in
      let f : i + m ≤ 1024 = omega arith in
      let c : get_or u 0 0 ≡ get_or w 0 0 = s.low 0 (omega arith) in
      let long = long-e g inner-in in
      let done : Spliced w v i old (flat (tree_from (tree w) j) []) = record {
        apart = apart-then (copied-apart (16 + j * 2) i m s f) t.apart;
        count = t.count ∙ omega arith;
        low = λ k q. t.low k (omega arith) ∙ copied-low (16 + j * 2) i m s f k q;
        new = λ k q.
            let q' : k < m = omega arith in
            let p : 16 + j * 2 + k * 2 ≡ 16 + (j + k) * 2 = omega arith in
            t.low (i + k) (omega arith) ∙ copied-new (16 + j * 2) i m s f k q' ∙ ap (core_from w) p ∙ sym (node-of g inner-in k (omega arith));
        high = λ k q.
            let p : i + length (flat (tree_from (tree w) j) []) + k ≡ i + m + k = omega arith in
            rw p (t.high k (omega arith) ∙ copied-high (16 + j * 2) i m s f (i + old + k) (omega arith));
      } in
      put-done g outer-in (tree_from (tree w) j) (rw eo at done) (names_of g inner-in) (omega arith)

-- a node read, with one child less
module _ {c : Core} {x : Node} (r : IsNode c x) where
  kind-is : number_of x.kind ≡ c.kind
  kind-is = numbered x.kind c.kind r.0.1

  pub fewer-packed : c.kind < 64 → c.form < 32 → c.arity < 65536 → Packed (record x { arity = x.arity - 1 })
  fewer-packed k f a = (omega (arith, kind-is), omega arith, omega arith)

  pub fewer-core : core_of (record x { arity = x.arity - 1 }) ≡ re_arity (c.arity - 1) c
  fewer-core = rw (kind-is, r.1, r.2, r.3) refl

-- the tree at i, a child of the node at q, taken out
module _ {w : List ℕ} (g : Planted w) {q i : ℕ} (h : Child (tree w) q 1 i) where
  abbrev ys : List Core
  ys = tree w

  abbrev c : Core
  c = get_or ys q no_core

  parent_is : node_of w q ≡ c
  parent_is = sym (tree-at w q (rw tree-length at h.parent))

  pub parent-in : q < 1024
  parent-in = omega (arith, inner-lt g h, inner-in g h, g.good.nodes)

  module _ {u : List ℕ} {old : ℕ} (eo : old ≡ count (tree_from ys i)) (s : Slid w u i old 0) where
    parent-kept : node_of u q ≡ c
    parent-kept = s.low q (omega (arith, inner-lt g h)) ∙ parent_is

    pub has-kids : 1 < (node_of u q).arity
    has-kids = omega (arith, ap (λ (d : Core). d.arity) parent-kept, h.few)

    gone : Spliced w u i old []
    gone = record {
      apart = s.apart;
      count = s.count;
      low = λ j l. s.low j (omega arith);
      new = λ j l. absurd (omega arith);
      high = λ j l. s.high j l;
    }

    pub cut-done : {v : List ℕ} {x : Node} → IsNode (node_of u q) x → NodePut u v q (core_of (record x { arity = x.arity - 1 })) → Replants w v (cut_at ys q i)
    unfolding cut_at
    cut-done {v} {x} y put =
        let fewer : NodePut u v q (re_arity (c.arity - 1) c) = rw (fewer-core y ∙ ap (λ (d : Core). re_arity (d.arity - 1) d) parent-kept) at put in
        let r = room g (inner-in g h) in
        let lt = inner-lt g h in
        let n : get_or u 0 0 ≡ get_or w 0 0 + 0 - old = s.count in
        let c' : Core = re_arity (c.arity - 1) c in
        let is : tree v ≡ cut_at ys q i = put-tree fewer (omega arith) ∙ ap (λ (l : List Core). set l q c') (spliced-tree gone (omega arith) ∙ ap (λ (k : ℕ). take i ys ++ drop (i + k) ys) eo) in
        replants (cut_at ys q i) g (apart-then s.apart fewer.apart) (omega (arith, fewer.count, g.good.nodes)) is
        (names-set (take i ys ++ drop (i + count (tree_from ys i)) ys) q c' (g.good.names q) (names-append (take i ys) (drop (i + count (tree_from ys i)) ys) (names-take i ys (omega (arith, tree-length w)) g.good.names) (names-drop (i + count (tree_from ys i)) ys g.good.names)))
        (cut-one h (whole_drop q ys (tree-whole g)) g.one)
