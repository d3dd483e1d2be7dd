-- Assumes nothing.
use Rattle.std.proofs.Common.{◌≡◌, ◌+◌, ◌<◌, true, length, get_or, sym, ap, ◌∙◌, arith}
use Rattle.text_tokens.specs.Bytes.{codes_of, fresh_after, piece}
use Rattle.text_tokens.proofs.Render.{length-next, fresh-next}
use Rattle.text_tokens.proofs.bytes.measure.Goals as goal

pub loop-i-preserved : goal.loop-i-preserved
loop-i-preserved c =
    let s = c.args.nodes in
    let w = c.args.words.now in
    let i = c.loop-i.i in
    let v = c.loop-i.invariant in
    let h : i + 1 < length w = omega (arith, c.requires.long) in
    let p : c.piece_len-len.result ≡ length (piece s.file.now s.header (fresh_after true (codes_of w i)) (get_or w (1 + i) 0)) = c.piece_len-len.ensures.is ∙ ap (λ (b : _). length (piece s.file.now s.header b (get_or w (1 + i) 0))) v.1 in
    (omega (arith, v.0, p, length-next s.file.now s.header w i h), sym (fresh-next s.file.now s.header w i h), omega (arith, v.2, c.piece_len-len.ensures.few))
