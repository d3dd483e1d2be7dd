-- A height bounded: the children measured one after the other, each with one less. Assumes nothing.
use Rattle.std.proofs.Common.{◌≡◌, ℕ, List, ◌+◌, ◌*◌, ◌-◌, ◌<◌, drop, get_or, sym, ap, ◌∙◌, arith}
use Rattle.def_tree.specs.Tree.{Core, no_core}
use Rattle.def_pass.specs.Tree.{height}
use Rattle.words.specs.Layout.{core_from, run}
use Rattle.words_nodes.specs.Nodes.{tree_from}
use Rattle.words_nodes.proofs.Trees.{trees-whole, whole-trees, node-height, child-lt, child-whole}
use Rattle.words_nodes.proofs.Loops.{measuring-none, measuring-child, measuring-more, measuring-over, measuring-all}
use Rattle.words_nodes.proofs.Words.{store_at, store_length}
use Rattle.words_nodes.proofs.+within_height.Goals as goal

-- the arity that the node in the words has
arity : (w : List ℕ) (base at end : ℕ) → at < end → {n : ℕ} → n ≡ (core_from w (base + at * 2)).arity → (get_or (run w base 0 end) at no_core).arity ≡ n
arity w base at end h e = ap (λ (x : Core). x.arity) (store_at w base end at h) ∙ sym e

pub returns-then-left-eq0 : goal.returns-then-left-eq0
returns-then-left-eq0 t c =
    let a = c.args in
    omega (arith, node-height (run a.w.now a.base 0 a.end) a.at (rw store_length c.requires.1))

pub loop-k-init : goal.loop-k-init
loop-k-init t c =
    let a = c.args in
    measuring-none (run a.w.now a.base 0 a.end) a.at (a.left - 1)

pub within_height-requires : goal.within_height-requires
within_height-requires t c =
    let a = c.args in
    let ch = measuring-child (rw store_length c.requires.1) c.loop-k.invariant (rw (arity a.w.now a.base a.at a.end c.requires.1 c.node_at-n.ensures.2) c.loop-k-test.true) (trees-whole c.requires.2) in
    let lt = child-lt ch (trees-whole c.requires.2) in
    (omega (arith, c.decreases), (c.requires.0, rw store_length at lt.1, whole-trees (drop c.loop-k.j (run a.w.now a.base 0 a.end)) (child-whole ch (trees-whole c.requires.2))))

pub returns-in_err-j : goal.returns-in_err-j
returns-in_err-j t c =
    let a = c.args in
    let m : a.left - 1 < height (tree_from (run a.w.now a.base 0 a.end) c.loop-k.j) = c.in_err-j.ensures in
    let h : a.left < height (tree_from (run a.w.now a.base 0 a.end) a.at) = omega (arith, measuring-over (rw store_length c.requires.1) c.loop-k.invariant (rw (arity a.w.now a.base a.at a.end c.requires.1 c.node_at-n.ensures.2) c.loop-k-test.true) (trees-whole c.requires.2) m) in
    rw c.from_residual.ensures h

pub loop-k-preserved : goal.loop-k-preserved
loop-k-preserved t c =
    let a = c.args in
    let m = c.in_ok-j.ensures in
    measuring-more (rw store_length c.requires.1) c.loop-k.invariant (rw (arity a.w.now a.base a.at a.end c.requires.1 c.node_at-n.ensures.2) c.loop-k-test.true) (trees-whole c.requires.2) m.0 m.1

pub returns : goal.returns
returns t c =
    let a = c.args in
    let m = measuring-all (rw store_length c.requires.1) c.loop-k.invariant (omega (arith, arity a.w.now a.base a.at a.end c.requires.1 c.node_at-n.ensures.2, c.loop-k.invariant.few)) in
    (m.0, omega (arith, m.1))
