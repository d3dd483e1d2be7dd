-- Refused before the words change. Assumes nothing.
use Rattle.std.proofs.Common.{length, refl, arith, le-leb}
use borrow.Author.Tests.{lt-leb}
use Rattle.words_scopes.specs.State.{stack}
use Rattle.scope_values.proofs.Count.{depth_is}
use Rattle.scope_child.proofs.open_scope.Goals as goal

pub returns-then-w-ge32 : goal.returns-then-w-ge32
returns-then-w-ge32 c =
    let w = c.args.w.now in
    (refl, le-leb 32 (length (stack w)) (omega (arith, depth_is w, c.if-w-ge32.true)), refl)

pub returns : goal.returns
returns c =
    let w = c.args.w.now in
    (c.«open».ensures, lt-leb 32 (length (stack w)) (omega (arith, depth_is w, c.if-w-ge32.false)))
