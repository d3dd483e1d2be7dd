-- What a call of a walk or of a step is given: that trees begin there, after what was done before it. Assumes nothing.
use Rattle.std.proofs.Common.{Ok}
use mathlib.Core.Path.{◌≡◌, sym, ap, ◌∙◌, subst}
use mathlib.Core.List.{List, []}
use Prim.Native.Nat.{ℕ, suc, ◌+◌, ◌-◌, ◌≤◌, ◌<◌}
use native.Mathlib.Omega.{arith}
use lib.ListN.{length, get_or, drop}
use Rattle.def_tree.specs.Tree.{Tree, Forest, Core, no_core, length_f, count, counts, plant, first_t}
use Rattle.def_tree.specs.Combine.{Res, stop, done, M, Nothing, Flat, Walk, Walks, on_rest, act, act_f, tree_at, forest_at, many, carry}
use Rattle.def_tree.proofs.Sims.{Sim, SimF, sim-each}
use Rattle.words.specs.Layout.{tree, node_of}
use Rattle.words.proofs.Nodes.{tree-at, tree-length}
use Rattle.def_pass.specs.Walk.{St}
use Rattle.words_nodes.specs.Nodes.{Planted, tree_from}
use Rattle.words_nodes.proofs.Trees.{length-flat, count-some}
use Rattle.walk_laws.specs.Shape.{Room}
use Rattle.words_nodes.proofs.Walks.{forest-at-is}
use Rattle.words_nodes.proofs.Loops.{forest-first}
use Rattle.walk_laws.proofs.Shapes.{room-stays, trees-end}
use Rattle.words_state.specs.State.{abs, Acts, Act, Turns}
use Rattle.walk_laws.specs.Did.{Did, Here}
use Rattle.walk_laws.proofs.Rooms.{whole_of, room-one, room-kids, room-less, room-node, room-behind, room_next}

-- the node at i, as the readers of a node and `skip` ask for it
pub here-node : {w : List ℕ} {i p d : ℕ} → Here w 1 i p d → i < get_or w 0 0
here-node {w} h = room-node w (omega arith) h.room

pub at-node : {w : List ℕ} {i p d : ℕ} → Here w 1 i p d → (16384 ≤ length w) × (i < 1024)
at-node {w} {i} h = (h.planted.good.long, omega (arith, here-node h, h.planted.good.nodes))

pub at-skip : {w : List ℕ} {i p d : ℕ} → Here w 1 i p d → Planted w × (i < get_or w 0 0)
at-skip h = (h.planted, here-node h)

-- one level lower, at the children; and the same tree
pub here-kids : {w : List ℕ} {n i p d : ℕ} → Here w 1 i p (d + 1) → n ≡ (node_of w i).arity → Here w n (i + 1) (p + 1) d
here-kids {w} {n} {i} {p} {d} h e = record { planted = h.planted; room = subst (λ (m : ℕ). Room (tree w) m (i + 1)) (sym e) (room-kids h.planted (here-node h)); depth = omega (arith, h.depth) }

pub here-up : {w : List ℕ} {i p l : ℕ} → (l ≡ 0 → ⊥) → Here w 1 i p l → Here w 1 i p (l - 1 + 1)
here-up {w} {i} {p} {l} z h = record { planted = h.planted; room = h.room; depth = omega (arith, h.depth, z) }

-- fewer of them
pub here-one : {w : List ℕ} {n i p d : ℕ} → (n ≡ 0 → ⊥) → Here w n i p d → Here w 1 i p d
here-one z h = record { planted = h.planted; room = room-less (omega (arith, z)) h.room; depth = h.depth }

pub here-less : {w : List ℕ} {n i p d : ℕ} → Here w n i p d → Here w (n - 1) i p d
here-less h = record { planted = h.planted; room = room-less (omega arith) h.room; depth = h.depth }

-- for a step no depth is asked
pub here-flat : {w : List ℕ} {n i p d : ℕ} → Here w n i p d → Here w n i 0 0
here-flat h = record { planted = h.planted; room = h.room; depth = omega arith }

pub here-level : {w : List ℕ} {n i p d : ℕ} → Here w n i p d → Here w n i p 0
here-level h = record { planted = h.planted; room = h.room; depth = omega (arith, h.depth) }

-- after a step that leaves the nodes
pub here-turn : {w u : List ℕ} {s : St} {n i p d : ℕ} → Turns w u s → Here w n i p d → Here u n i p d
here-turn {w} {u} {s} {n} {i} t h = record { planted = t.ok.planted; room = subst (λ (xs : List Core). Room xs n i) (sym t.nodes) h.room; depth = h.depth }

act-nodes : (w u : List ℕ) (q : Res St Nothing) → Acts u 0 (carry {F = Flat St} (λ s a. record { nodes = tree w; rest = s }) (λ a. a) q) → tree u ≡ tree w
act-nodes w u (stop m) a = absurd (omega (arith, a.1))
act-nodes w u (done s x) a = ap (λ (st : Flat St). st.nodes) a.1

pub here-act : {w u : List ℕ} (q : Res St Nothing) {n i p d : ℕ} → Act w u 0 (carry {F = Flat St} (λ s a. record { nodes = tree w; rest = s }) (λ a. a) q) → Here w n i p d → Here u n i p d
here-act {w} {u} q {n} {i} a h = record { planted = a.ok.planted; room = subst (λ (xs : List Core). Room xs n i) (sym (act-nodes w u q a.acts)) h.room; depth = h.depth }

pub here-rest : (m : M St Nothing) {w u : List ℕ} {n i p d : ℕ} → Act w u 0 (on_rest m (abs w)) → Here w n i p d → Here u n i p d
here-rest m {w} a h = here-act (m (abs w).rest) a h

pub here-tree : (m : Tree → M St Nothing) (k : ℕ) {w u : List ℕ} {n i p d : ℕ} → Act w u 0 (act m k (abs w)) → Here w n i p d → Here u n i p d
here-tree m k {w} a h = here-act (m (tree_at (abs w) k) (abs w).rest) a h

pub here-trees : (m : Forest → M St Nothing) (q k : ℕ) {w u : List ℕ} {n i p d : ℕ} → Act w u 0 (act_f m q k (abs w)) → Here w n i p d → Here u n i p d
here-trees m q k {w} a h = here-act (m (forest_at (abs w) q k) (abs w).rest) a h

-- what was read of a node stays read
pub arity-act : {w u : List ℕ} (q : Res St Nothing) {m i p d : ℕ} → Act w u 0 (carry {F = Flat St} (λ s a. record { nodes = tree w; rest = s }) (λ a. a) q) → Here w 1 i p d → m ≡ (node_of w i).arity → m ≡ (node_of u i).arity
arity-act {w} {u} q {m} {i} a h r =
    let n = act-nodes w u q a.acts in
    r ∙ ap (λ c. c.arity) (sym (tree-at w i (here-node h)) ∙ ap (λ (xs : List Core). get_or xs i no_core) (sym n) ∙ tree-at u i (here-node (here-act q a h)))

pub arity-tree : (m : Tree → M St Nothing) (k : ℕ) {w u : List ℕ} {n i p d : ℕ} → Act w u 0 (act m k (abs w)) → Here w 1 i p d → n ≡ (node_of w i).arity → n ≡ (node_of u i).arity
arity-tree m k {w} a h r = arity-act (m (tree_at (abs w) k) (abs w).rest) a h r

-- after a walk of all n: as many begin there; after one of n, and after k of n: the others begin behind
module _ {f : Forest → M St Forest} {g : Walks St} (s : SimF f g) {w u : List ℕ} {j n i p d : ℕ} (h : Here w n i p d) where
  pub here-again : Did w u (Ok j) (g n i (abs w)) → Here u n i p d
  here-again x = record { planted = x.ok.planted; room = room-stays s (abs w) n i (whole_of h.planted) h.room x.is; depth = h.depth }

  pub here-behind : (k : ℕ) → k < n → Did w u (Ok j) (g k i (abs w)) → Here u 1 j p d
  here-behind k l x =
      let r : Room (tree w) (k + 1) i = room-less (omega arith) h.room in
      record { planted = x.ok.planted; room = room-behind s h.planted r x; depth = h.depth }

module _ {f : Tree → M St Tree} {g : Walk St} (s : Sim f g) {w u : List ℕ} {j n i p d : ℕ} (h : Here w n i p d) where
  pub here-next : (n ≡ 0 → ⊥) → Did w u (Ok j) (g i (abs w)) → Here u (n - 1) j p d
  here-next z x =
      let m : n ≡ suc (n - 1) = omega (arith, z) in
      record { planted = x.ok.planted; room = room_next s h.planted (subst (λ (k : ℕ). Room (tree w) k i) m h.room) x; depth = h.depth }

  pub here-still : n ≡ 1 → Did w u (Ok j) (g i (abs w)) → Here u n i p d
  unfolding many
  here-still o x = subst (λ (k : ℕ). Here u k i p d) (sym o) (here-again (sim-each s) (subst (λ (k : ℕ). Here w k i p d) o h) x)

-- a node before it
pub here-below : {w : List ℕ} {n i p d : ℕ} (q : ℕ) → q < i → Here w n i p d → Planted w × (q < get_or w 0 0)
here-below {w} q l h = (h.planted, omega (arith, h.room.low, tree-length w))

-- as some steps ask for it: n trees begin there
pub at-trees : {w : List ℕ} {n i p d : ℕ} → Here w n i p d → Planted w × (n ≤ length_f (plant (drop i (tree w))))
at-trees h = (h.planted, h.room.trees)

-- the script itself
pub here-root : {w : List ℕ} → Planted w → Here w 1 0 1 200
here-root {w} g =
    let l : 0 < get_or w 0 0 = omega (arith, tree-length w, ap length g.one.is, length-flat (first_t (plant (tree w))) [], count-some (first_t (plant (tree w)))) in
    record { planted = g; room = room-one g l; depth = omega arith }

-- a walk of a tree ends where the tree ends
pub walk_end : {f : Tree → M St Tree} {g : Walk St} (s : Sim f g) {w u : List ℕ} {j i p d : ℕ} → Here w 1 i p d → Did w u (Ok j) (g i (abs w)) → j ≡ i + count (tree_from (tree u) i)
unfolding many
walk_end {g = g} s {w} {u} {j} {i} h x =
    let l = here-node (here-again (sim-each s) h x) in
    let t = trees-end (sim-each s) (abs w) 1 i (whole_of h.planted) h.room x.is in
    let c : counts (forest_at (abs u) 1 i) ≡ count (tree_from (tree u) i) + 0 = ap counts (forest-at-is (abs u) 1 i ∙ forest-first (tree u) i (omega (arith, l, tree-length u))) in
    omega (arith, t, c)
