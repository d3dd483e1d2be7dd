-- Text by text. Assumes nothing.
use Rattle.std.proofs.Common.{◌≡◌, ◌<◌, ◌≤◌, ◌+◌, length, refl, ap, ◌∙◌, arith}
use Rattle.std.proofs.lemmas.List.Edits.{sets}
use Rattle.file_canon.specs.Form.{form_of}
use Rattle.file_canon.proofs.Written.{bytes-none, texts-none, bytes-more, bytes-part, copied, texts-more, texts-all}
use Rattle.file_canon.proofs.form.Form.put_texts.Goals as goal

pub loop-i-init : goal.loop-i-init
loop-i-init c = (omega (arith, bytes-none), texts-none c.args.res.now c.args.p)

pub copy-requires : goal.copy-requires
copy-requires c =
    let s = c.args.self in
    let ts = (form_of s.file.now s.header).texts in
    let i = c.loop-i.i in
    let l : i < length ts = omega (arith, c.texts-i-end.ensures) in
    (omega arith, omega (arith, c.loop-i.invariant.0, c.loop-i.auto.res, ap length c.text-text.ensures, bytes-more ts i l, bytes-part (i + 1) ts, c.requires))

pub loop-i-preserved : goal.loop-i-preserved
loop-i-preserved c =
    let s = c.args.self in
    let ts = (form_of s.file.now s.header).texts in
    let i = c.loop-i.i in
    let t = c.text-text.result.now in
    let l : i < length ts = omega (arith, c.texts-i-end.ensures) in
    let n = ap length c.text-text.ensures in
    let room : c.loop-i.end + length t ≤ length c.loop-i.res = omega (arith, c.loop-i.invariant.0, c.loop-i.auto.res, n, bytes-more ts i l, bytes-part (i + 1) ts, c.requires) in
    let put : c.copy.new.dst ≡ sets c.loop-i.res c.loop-i.end t = c.copy.ensures ∙ copied c.loop-i.res t c.loop-i.end (length t) refl room in
    (omega (arith, c.loop-i.invariant.0, n, bytes-more ts i l), texts-more ts i l c.args.res.now c.args.p c.loop-i.invariant.1 c.text-text.ensures (rw (← c.loop-i.invariant.0) put))

pub returns : goal.returns
returns c =
    let s = c.args.self in
    let ts = (form_of s.file.now s.header).texts in
    texts-all ts c.loop-i.i (omega (arith, c.texts-i-end.ensures)) c.args.res.now c.args.p c.loop-i.invariant.1
