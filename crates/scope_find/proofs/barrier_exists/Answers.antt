-- The bindings of a stretch, one after the other. Assumes nothing.
use Rattle.std.proofs.Common.{◌+◌, sym, ◌∙◌, arith, rules}
use Rattle.std.proofs.lemmas.Iterator.{YieldsList-from_range}
use Rattle.std.proofs.lemmas.Iterator.Search.{any_from_yields_List}
use Rattle.words_scopes.specs.State.{stack}
use Rattle.scope_find.specs.Look.{bars_here}
use Rattle.scope_find.proofs.Facts as facts
use Rattle.scope_find.proofs.barrier_exists.Goals as goal

pub returns : goal.returns
returns c =
    let a = c.args.a in
    let m = c.args.m in
    let bars = bars_here (stack c.args.w.now) in
    any_from_yields_List bars _ _ _ c.any.ensures.ran (YieldsList-from_range a (a + m) m (cc) (omega arith)) (λ x b q h. search rules) ∙ sym (facts.any-listed bars a m)
