-- From the last binding down: the invariant is that the index is that of the bindings before. Assumes nothing.
use Rattle.std.proofs.Common.{◌≡◌, ℕ, ◌+◌, ◌-◌, arith}
use Rattle.words_scopes.proofs.Index.{restored-all, restored-less}
use Rattle.words_scopes.proofs.restore.Goals as goal

pub loop-j-init : goal.loop-j-init
loop-j-init c = (c.requires.1, restored-all c.args.w.now c.requires.0)

pub loop-j-preserved : goal.loop-j-preserved
loop-j-preserved c =
    let k : ℕ = c.loop-j.j - 1 in
    let e : c.loop-j.j ≡ k + 1 = omega arith in
    (omega arith, restored-less c.args.w.now c.loop-j.w c.requires.0 k (omega arith) (rw e at c.loop-j.invariant.1))
