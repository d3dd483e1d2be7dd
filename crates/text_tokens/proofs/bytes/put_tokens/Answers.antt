-- Assumes nothing.
use Rattle.std.proofs.Common.{ℕ, ◌+◌, ◌<◌, Bool, true, length, get_or, sym, ap, subst, arith}
use Rattle.number_text.specs.Put.{Puts}
use Rattle.text_tokens.specs.Bytes.{codes_of, fresh_after, piece}
use Rattle.text_tokens.proofs.Render.{length-next, fresh-next, piece-room, puts-next}
use Rattle.text_tokens.proofs.bytes.put_tokens.Goals as goal

pub put_piece-at-requires : goal.put_piece-at-requires
put_piece-at-requires c =
    let s = c.args.nodes in
    let w = c.args.words.now in
    let i = c.loop-i.i in
    let v = c.loop-i.invariant in
    let r = piece-room s.file.now s.header w i c.args.count c.requires.0.long c.loop-i-test.true in
    (c.requires.0.each i c.loop-i-test.true, omega (arith, v.0, r, c.requires.1, ap (λ (b : Bool). length (piece s.file.now s.header b (get_or w (1 + i) 0))) v.1))

pub loop-i-preserved : goal.loop-i-preserved
loop-i-preserved c =
    let s = c.args.nodes in
    let w = c.args.words.now in
    let i = c.loop-i.i in
    let v = c.loop-i.invariant in
    let h : i + 1 < length w = omega (arith, c.requires.0.long) in
    let b = v.1 in
    let e = c.put_piece-at.ensures in
    let p = ap (λ (b : Bool). length (piece s.file.now s.header b (get_or w (1 + i) 0))) b in
    let q = subst (λ (x : Bool). Puts c.loop-i.out c.put_piece-at.new.out c.loop-i.«at» (piece s.file.now s.header x (get_or w (1 + i) 0))) b e.1 in
    let q' = subst (λ (n : ℕ). Puts c.loop-i.out c.put_piece-at.new.out n (piece s.file.now s.header (fresh_after true (codes_of w i)) (get_or w (1 + i) 0))) v.0 q in (
      omega (arith, e.0, v.0, p, length-next s.file.now s.header w i h),
      sym (fresh-next s.file.now s.header w i h),
      puts-next s.file.now s.header w c.args.out.now c.loop-i.out c.put_piece-at.new.out i c.args.count c.requires.0.long c.loop-i-test.true c.requires.1 v.2 q',
    )
