-- Node by node. Assumes nothing.
use Rattle.std.proofs.Common.{ℕ, arith}
use Rattle.def_file.specs.declared.Raw.{Raw}
use Rattle.words.specs.Layout.{node_of}
use Rattle.file_write.specs.Back.{back_in}
use Rattle.file_write.proofs.Backs as backs
use Rattle.file_write.proofs.nodes.Source.put_nodes.Goals as goal

pub loop-k-init : goal.loop-k-init
loop-k-init c = let a = c.args in backs.nodes-none (λ j. back_in a.self.file.now a.self.words.now (node_of a.self.words.now j)) a.out.now

pub loop-k-preserved : goal.loop-k-preserved
loop-k-preserved c =
    let l = c.loop-k in
    let a = c.args in
    let f : ℕ → Raw = λ j. back_in a.self.file.now a.self.words.now (node_of a.self.words.now j) in
    backs.nodes-more f l.k a.out.now c.back-x.result l.invariant c.back-x.ensures c.put_raw.ensures

pub returns : goal.returns
returns c = let a = c.args in backs.nodes-all (back_in a.self.file.now a.self.words.now) a.self.words.now a.out.now c.loop-k.k (omega arith) c.loop-k.invariant
