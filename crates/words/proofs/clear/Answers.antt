-- The first 16,384 words set to 0. Assumes nothing.
use Rattle.std.proofs.Common.{◌≡◌, ◌+◌, arith}
use Rattle.words.proofs.Nodes.{beyond-same}
use Rattle.words.proofs.clear.Goals as goal

pub returns : goal.returns
returns c =
    let z = c.wipe.ensures in
    record {
      size = z.size;
      here = λ j l. let e : 0 + j ≡ j = omega arith in rw e at (z.here j l);
      rest = beyond-same c.args.w.now c.wipe.new.w z.size (λ j l. z.high j (omega arith));
    }
