-- End by end. Assumes nothing.
use Rattle.std.proofs.Common.{◌<◌, ◌+◌, length, sym, ap, arith}
use Rattle.file_canon.specs.Form.{form_of}
use Rattle.file_canon.proofs.Written.{bytes-none, ends-none, bytes-more, bytes-part, ends-more, ends-all}
use Rattle.file_canon.proofs.form.Form.put_ends.Goals as goal

pub loop-i-init : goal.loop-i-init
loop-i-init c = (sym bytes-none, ends-none c.args.res.now c.args.p)

pub overflow_add-end : goal.overflow_add-end
overflow_add-end c =
    let s = c.args.self in
    let ts = (form_of s.file.now s.header).texts in
    let i = c.loop-i.i in
    let l : i < length ts = omega (arith, c.texts-i-end.ensures) in
    omega (arith, c.loop-i.invariant.0, ap length c.text.ensures, bytes-more ts i l, bytes-part (i + 1) ts, s.held.small)

pub put_number-requires : goal.put_number-requires
put_number-requires c =
    let s = c.args.self in
    let ts = (form_of s.file.now s.header).texts in
    let i = c.loop-i.i in
    let l : i < length ts = omega (arith, c.texts-i-end.ensures) in
    (omega (arith, c.requires), omega (arith, c.loop-i.invariant.0, ap length c.text.ensures, bytes-more ts i l, bytes-part (i + 1) ts, s.held.small))

pub loop-i-preserved : goal.loop-i-preserved
loop-i-preserved c =
    let s = c.args.self in
    let ts = (form_of s.file.now s.header).texts in
    let i = c.loop-i.i in
    let l : i < length ts = omega (arith, c.texts-i-end.ensures) in
    let n = ap length c.text.ensures in
    (omega (arith, c.loop-i.invariant.0, n, bytes-more ts i l), ends-more ts i l c.args.res.now c.args.p (c.loop-i.end + length c.text.result.now) c.loop-i.invariant.1 (omega (arith, c.loop-i.invariant.0, n)) c.put_number.ensures)

pub returns : goal.returns
returns c =
    let s = c.args.self in
    let ts = (form_of s.file.now s.header).texts in
    ends-all ts c.loop-i.i (omega (arith, c.texts-i-end.ensures)) c.args.res.now c.args.p c.loop-i.invariant.1
