-- No more nodes than there were, or added from the current scope outwards. Assumes nothing.
use Rattle.std.proofs.Common.{◌+◌, ◌-◌, refl, sym, ap, ◌∙◌, arith, le-ltb, is_some}
use Rattle.def_pass.specs.Scope.{recorded_nodes}
use Rattle.words_scopes.specs.State.{stack}
use Rattle.scope_values.proofs.Count.{recorded-is}
use Rattle.scope_values.proofs.Outwards.{answers}
use Rattle.scope_values.proofs.nodes_pass.Goals as goal

pub returns-then-old-m : goal.returns-then-old-m
returns-then-old-m c =
    let a = c.args in
    c.is_some.ensures ∙ ap is_some c.stops_at.ensures ∙ answers (a.m - a.old) a.old a.m (stack a.w.now) refl (omega arith) c.requires.1

pub returns-else-old-m : goal.returns-else-old-m
returns-else-old-m c =
    let w = c.args.w.now in
    let g = c.requires.0 in
    le-ltb c.args.old c.args.m (omega arith) ∙ sym (le-ltb 512 (recorded_nodes (stack w) - c.args.old + c.args.m) (omega (arith, recorded-is w g, g.recorded, c.requires.1, c.if-old-m.false)))
