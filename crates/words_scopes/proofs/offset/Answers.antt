-- From the first binding on. Assumes nothing.
use Rattle.std.proofs.Common.{sym, arith}
use Rattle.words.specs.Tab as sums
use Rattle.words_scopes.specs.State.{len_at}
use Rattle.words_scopes.proofs.offset.Goals as goal

pub offset_from-requires : goal.offset_from-requires
offset_from-requires c = (c.requires.0, omega arith, c.requires.1, sym (sums.sum-zero (λ i. len_at c.args.w.now i)), omega arith)
