-- The nodes of the earlier constants. Assumes nothing.
use Rattle.std.proofs.Common.{◌+◌, ◌*◌, arith, get_or}
use Rattle.words.specs.Tab as sums
use Rattle.words_scopes.specs.State.{clen_at}
use Rattle.words_scopes.proofs.Words.{words-const}
use Rattle.scope_values.proofs.const_offset.Goals as goal

pub returns : goal.returns
returns c =
    let w = c.args.w.now in
    let l = sums.sum-le (λ j. clen_at w j) c.args.k (get_or w 3 0) c.requires.1 in
    let z = sums.sum-zero (λ j. get_or w (6673 + j * 2) 0) in
    (omega (arith, c.sum_at.ensures, words-const w c.args.k), omega (arith, c.sum_at.ensures, words-const w c.args.k, c.requires.0.cvals))
