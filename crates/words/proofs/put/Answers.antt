-- An array, stored at once. Assumes nothing.
use Rattle.std.proofs.Common.{◌≡◌, ◌+◌, ◌-◌, length, length-take, length-drop, ◌∙◌, ap, arith}
use borrow.Rule.Slice.PartMut.{put_mid}
use Rattle.words.proofs.Stored.{stretch}
use Rattle.words.proofs.put.Goals as goal

pub returns : goal.returns
returns g c =
    let a = c.args in
    let f = c.copy_from_slice.ensures in
    let l = simp (length-take, length-drop) at (f.len) in
    let n : length a.a ≡ g.row.N = omega (arith, l, ap (λ xs. length xs) f.after) in
    ap (put_mid a.p (a.p + g.row.N - a.p) a.w.now) f.after ∙ stretch a.w.now a.a a.p (a.p + g.row.N - a.p) (omega arith) (omega arith)
