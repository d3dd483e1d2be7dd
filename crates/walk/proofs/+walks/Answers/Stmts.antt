-- The goals of stmts. Assumes nothing.
use mathlib.Core.Path.{sym, ◌∙◌}
use native.Mathlib.Omega.{arith}
use Rattle.def_tree.proofs.Sims.{sim-each}
use Rattle.laws_flat.specs.WalkF.{walks_f}
use Rattle.laws_flat.proofs.Sim.{sims}
use Rattle.walk_laws.proofs.Heres as heres
use Rattle.walk_laws.proofs.Ways as ways
use Rattle.walk.proofs.+walks.Goals as goal

pub stmts-many-requires : goal.stmts-many-requires
stmts-many-requires t c = (omega (arith, c.decreases), c.requires)

pub stmts-returns-then-not-inlining : goal.stmts-returns-then-not-inlining
stmts-returns-then-not-inlining t c = ways.stmts-once (walks_f c.args.below) c.args.depth c.args.n c.args.node (sym c.inlining.ensures ∙ c.if-not-inlining.true) c.many.ensures

pub stmts-many-requires-2 : goal.stmts-many-requires-2
stmts-many-requires-2 t c = (omega (arith, c.decreases), (heres.here-turn c.set_inlining.ensures c.requires))

pub stmts-returns-in_err-many : goal.stmts-returns-in_err-many
stmts-returns-in_err-many t c = ways.did-exit c.from_residual.result c.from_residual.ensures.1 (ways.stmts-stop (walks_f c.args.below) c.args.depth c.args.n c.args.node (sym c.inlining.ensures ∙ c.if-not-inlining.false) c.set_inlining.ensures c.in_err-many.ensures)

pub stmts-many-requires-3 : goal.stmts-many-requires-3
stmts-many-requires-3 t c = (omega (arith, c.decreases), (heres.here-turn c.set_inlining-2.ensures (heres.here-again (sim-each ((sims c.args.below).full c.args.depth)) (heres.here-turn c.set_inlining.ensures c.requires) c.in_ok-many.ensures)))

pub stmts-returns : goal.stmts-returns
stmts-returns t c = ways.stmts-then (walks_f c.args.below) c.args.depth c.args.n c.args.node (sym c.inlining.ensures ∙ c.if-not-inlining.false) c.set_inlining.ensures c.in_ok-many.ensures c.set_inlining-2.ensures c.many-3.ensures
