-- Node by node. Assumes nothing.
use Rattle.std.proofs.Common.{◌<◌, length, arith}
use Rattle.def_resolve.specs.Resolve.{resolved}
use Rattle.file_canon.proofs.Written.{nodes-none, nodes-more, nodes-all}
use Rattle.file_resolve.specs.Check.{read_of}
use Rattle.file_resolve.proofs.Written.{nodes-count}
use Rattle.file_resolve.proofs.write.Resolved.put_nodes.Goals as goal

pub loop-k-init : goal.loop-k-init
loop-k-init c = nodes-none c.args.buffer.now

pub loop-k-preserved : goal.loop-k-preserved
loop-k-preserved c =
    let s = c.args.self in
    let xs = (resolved (read_of s.file.now s.header)).nodes in
    let k = c.loop-k.k in
    let l : k < length xs = omega (arith, nodes-count s.shaped) in
    nodes-more xs k c.args.buffer.now c.node.result l c.loop-k.invariant c.node.ensures c.put_raw.ensures

pub returns : goal.returns
returns c =
    let s = c.args.self in
    let xs = (resolved (read_of s.file.now s.header)).nodes in
    nodes-all xs c.loop-k.k c.args.buffer.now (omega (arith, nodes-count s.shaped)) c.loop-k.invariant
