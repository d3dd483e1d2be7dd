-- Text by text. Assumes nothing.
use Rattle.std.proofs.Common.{◌<◌, ◌+◌, length, sym, ap, ◌∙◌, arith}
use Rattle.file_canon.specs.Form.{form_of}
use Rattle.file_canon.proofs.Written.{bytes-none, bytes-more, bytes-part, bytes-all}
use Rattle.file_canon.proofs.form.Form.text_bytes.Goals as goal

pub loop-i-init : goal.loop-i-init
loop-i-init c = sym bytes-none

pub overflow_add-sum : goal.overflow_add-sum
overflow_add-sum c =
    let s = c.args.self in
    let ts = (form_of s.file.now s.header).texts in
    let i = c.loop-i.i in
    let l : i < length ts = omega (arith, c.texts-i-end.ensures) in
    omega (arith, c.loop-i.invariant, ap length c.text.ensures, bytes-more ts i l, bytes-part (i + 1) ts, s.held.small)

pub loop-i-preserved : goal.loop-i-preserved
loop-i-preserved c =
    let s = c.args.self in
    let ts = (form_of s.file.now s.header).texts in
    let i = c.loop-i.i in
    let l : i < length ts = omega (arith, c.texts-i-end.ensures) in
    omega (arith, c.loop-i.invariant, ap length c.text.ensures, bytes-more ts i l)

pub returns : goal.returns
returns c =
    let s = c.args.self in
    let ts = (form_of s.file.now s.header).texts in
    c.loop-i.invariant ∙ bytes-all ts c.loop-i.i (omega (arith, c.texts-i-end.ensures))
