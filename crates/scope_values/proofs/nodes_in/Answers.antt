-- The lengths of its bindings' values, and of its constants'. Assumes nothing.
use Rattle.std.proofs.Common.{arith, get_or}
use Rattle.words.specs.Tab as sums
use Rattle.words_scopes.specs.State.{len_at, clen_at}
use Rattle.words_scopes.proofs.Words.{words-bind, words-const}
use Rattle.scope_values.proofs.nodes_in.Goals as goal

pub overflow_add-result : goal.overflow_add-result
overflow_add-result c =
    let w = c.args.w.now in
    let g = c.requires.0 in
    let l = sums.sum-le (λ j. len_at w j) c.args.e (get_or w 1 0) c.requires.3 in
    let m = sums.sum-le (λ j. clen_at w j) c.args.c (get_or w 3 0) c.requires.5 in
    omega (arith, c.sum_at.ensures, c.sum_at-2.ensures, words-bind w c.args.e, words-const w c.args.c, g.vals, g.cvals)

pub returns : goal.returns
returns c =
    let w = c.args.w.now in
    let a = c.first_binding.result in
    let b = c.first_constant.result in
    rw (← c.first_binding.ensures, ← c.first_constant.ensures) (omega (arith, c.sum_at.ensures, c.sum_at-2.ensures, words-bind w a, words-bind w c.args.e, words-const w b, words-const w c.args.c))
