-- The counts, as their table has them. Assumes nothing.
use Rattle.std.proofs.Common.{◌≡◌, ◌+◌, ◌-◌, arith}
use Rattle.scope_child.proofs.Ends as ends
use Rattle.scope_child.proofs.sum_counts.Goals as goal

pub returns : goal.returns
returns c =
    let a = c.args in
    let e : a.a + (a.e - a.a) ≡ a.e = omega arith in
    let s = ends.sum_counts a.w.now a.a (a.e - a.a) in
    let t = rw e at s in
    omega (arith, t, c.sum_at.ensures)
