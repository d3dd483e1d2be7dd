-- Assumes nothing.
use Rattle.std.proofs.Common.{◌≡◌, ◌<◌, get_or, sym, ap, ◌∙◌, arith}
use Rattle.def_tree.specs.Tree.{Core, no_core}
use Rattle.def_file.specs.declared.Raw.{Raw}
use Rattle.words_nodes.proofs.Loops.{open-here, open-le, open_in, passed_none, passed-more, passed-all}
use Rattle.text_choice.specs.Trees.{cores}
use Rattle.text_choice.proofs.Planted.{nodes-length, whole, core-at}
use Rattle.text_choice.proofs.trees.skip.Goals as goal

pub loop-trees-init : goal.loop-trees-init
loop-trees-init c =
    let s = c.args.nodes in
    passed_none (cores s.file.now s.header) c.args.k (omega (arith, nodes-length s.file.now s.header s.readable))

pub node-requires : goal.node-requires
node-requires c =
    let s = c.args.nodes in
    omega (arith, open-here (whole s.file.now s.header s.readable) c.loop-trees.invariant.still c.loop-trees-test.true, nodes-length s.file.now s.header s.readable)

arity-is : (c : goal.After-from) → c.from.result ≡ (get_or (cores c.args.nodes.file.now c.args.nodes.header) c.loop-trees.«at» no_core).arity
arity-is c =
    let s = c.args.nodes in
    let l : c.loop-trees.«at» < s.header.nodes = omega (arith, open-here (whole s.file.now s.header s.readable) c.loop-trees.invariant.still c.loop-trees-test.true, nodes-length s.file.now s.header s.readable) in
    c.from.ensures ∙ ap (λ (x : Raw). x.arity) c.node.ensures ∙ sym (ap (λ (x : Core). x.arity) (core-at s.file.now s.header s.readable c.loop-trees.«at» l))

pub overflow_add-trees : goal.overflow_add-trees
overflow_add-trees c =
    let s = c.args.nodes in
    let w = whole s.file.now s.header s.readable in
    omega (arith, open-le (open_in w c.loop-trees.invariant.still c.loop-trees-test.true), nodes-length s.file.now s.header s.readable, s.readable.few, arity-is c)

pub overflow_add-at : goal.overflow_add-at
overflow_add-at c =
    let s = c.args.nodes in
    omega (arith, open-here (whole s.file.now s.header s.readable) c.loop-trees.invariant.still c.loop-trees-test.true, nodes-length s.file.now s.header s.readable, s.readable.few)

pub loop-trees-smaller : goal.loop-trees-smaller
loop-trees-smaller c =
    let s = c.args.nodes in
    omega (arith, open-here (whole s.file.now s.header s.readable) c.loop-trees.invariant.still c.loop-trees-test.true, nodes-length s.file.now s.header s.readable)

pub loop-trees-preserved : goal.loop-trees-preserved
loop-trees-preserved c = passed-more (whole c.args.nodes.file.now c.args.nodes.header c.args.nodes.readable) c.loop-trees.invariant c.loop-trees-test.true (arity-is c)

pub returns : goal.returns
returns c = passed-all (omega (arith, c.loop-trees-test.false)) c.loop-trees.invariant
