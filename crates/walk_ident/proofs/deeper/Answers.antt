-- Refused before the words change, or counted. Assumes nothing.
use mathlib.Core.Path.{refl}
use Rattle.refusal.specs.declared.Refusal.TheVariants.{Depth}
use Rattle.walk_ident.proofs.Laws as laws
use Rattle.walk_ident.proofs.Scopes as scopes
use Rattle.words_state.proofs.Fields.{ok-self}
use Rattle.walk_ident.proofs.deeper.Goals as goal

pub returns-then-n-ge12-clause-did : goal.returns-then-n-ge12-clause-did
returns-then-n-ge12-clause-did c =
    let w = c.args.w.now in
    record { ok = ok-self c.requires; nodes = refl; acts = laws.acts-stop w Depth (scopes.deeper-full w c.if-n-ge12.true) }

pub returns-clause-did : goal.returns-clause-did
returns-clause-did c =
    let w = c.args.w.now in
    let t = c.set_conds.ensures in
    record { ok = t.ok; nodes = t.nodes; acts = laws.acts-done _ (scopes.deeper-one w c.if-n-ge12.false) (laws.turns-abs t) }
