-- Assumes nothing.
use Rattle.std.proofs.Common.{◌≡◌, ℕ, List, [], ◌∷◌, length, sym, ap, subst, arith}
use Rattle.number_text.specs.Put.{Puts}
use Rattle.number_text.proofs.Puts.{puts_then}
use Rattle.text_tokens.specs.Tokens.{token}
use Rattle.text_tokens.specs.Bytes.{piece}
use Rattle.text_tokens.proofs.Render.{piece-behind}
use Rattle.text_tokens.proofs.bytes.put_piece.Goals as goal

pub returns : goal.returns
returns c =
    let s = c.args.nodes in
    let t = token s.file.now s.header c.args.code in
    let e : piece s.file.now s.header c.args.fresh c.args.code ≡ 32 ∷ t = piece-behind s.file.now s.header c.args.fresh c.args.code c.if-code-eq-LINE.false c.if-fresh.false in
    let n = c.put_byte-next.ensures in
    let p = c.put_token-2.ensures in
    let l = ap length e in
    let q = subst (λ (k : ℕ). Puts c.put_byte-next.new.out c.put_token-2.new.out k t) n.0 p.1 in
    (omega (arith, p.0, n.0, l), subst (λ (v : List ℕ). Puts c.args.out.now c.put_token-2.new.out c.args.«at» v) (sym e) (puts_then c.args.out.now c.put_byte-next.new.out c.put_token-2.new.out c.args.«at» (32 ∷ []) t (omega (arith, l, c.requires.1)) n.1 q))
