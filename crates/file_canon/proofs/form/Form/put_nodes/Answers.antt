-- Node by node. Assumes nothing.
use Rattle.std.proofs.Common.{◌<◌, length, arith}
use Rattle.file_canon.specs.Form.{form_of}
use Rattle.file_canon.proofs.Formed.{form-length}
use Rattle.file_canon.proofs.Written.{nodes-none, nodes-more, nodes-all}
use Rattle.file_canon.proofs.form.Form.put_nodes.Goals as goal

pub loop-k-init : goal.loop-k-init
loop-k-init c = nodes-none c.args.res.now

pub loop-k-preserved : goal.loop-k-preserved
loop-k-preserved c =
    let s = c.args.self in
    let xs = (form_of s.file.now s.header).nodes in
    let k = c.loop-k.k in
    let l : k < length xs = omega (arith, form-length s.held) in
    nodes-more xs k c.args.res.now c.node.result l c.loop-k.invariant c.node.ensures c.put_raw.ensures

pub returns : goal.returns
returns c =
    let s = c.args.self in
    let xs = (form_of s.file.now s.header).nodes in
    nodes-all xs c.loop-k.k c.args.res.now (omega (arith, form-length s.held)) c.loop-k.invariant
