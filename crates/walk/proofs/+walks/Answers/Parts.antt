-- The goals of parts. Assumes nothing.
use mathlib.Core.Path.{refl, ap, ◌∙◌}
use native.Mathlib.Omega.{arith}
use lib.Dec.{eqb}
use Rattle.def_file.specs.Named.{kind_of}
use Rattle.def_tree.proofs.Sims.{sim-each, sim-skip, sim-node, sim-if}
use Rattle.laws_flat.specs.WalkF.{walks_f}
use Rattle.laws_flat.proofs.Sim.{sims}
use Rattle.walk_laws.specs.Did.{clause_f}
use Rattle.walk_laws.proofs.Laws as laws
use Rattle.walk_laws.proofs.Heres as heres
use Rattle.walk_laws.proofs.Ways as ways
use Rattle.walk.proofs.+walks.Goals.{parts-in-CatchClause+in_ok-at-in-CatchClause, parts-in_default}
use Rattle.walk.proofs.+walks.Goals as goal

pub parts-loop-k-init : goal.parts-loop-k-init
parts-loop-k-init t c = laws.many-none (clause_f (walks_f c.args.below) c.args.depth) c.args.node c.requires.planted

pub parts-kind_at-requires : goal.parts-kind_at-requires
parts-kind_at-requires t c = heres.at-node (heres.here-behind (sim-each (sim-node (λ s c. eqb c.kind 17) (λ b. sim-if b ((sims c.args.below).full c.args.depth) sim-skip))) c.requires c.loop-k._k c.loop-k-test.true c.loop-k.invariant)

pub parts-skip-at-requires : goal.parts-skip-at-requires
parts-skip-at-requires t c = heres.at-skip (heres.here-behind (sim-each (sim-node (λ s c. eqb c.kind 17) (λ b. sim-if b ((sims c.args.below).full c.args.depth) sim-skip))) c.requires c.loop-k._k c.loop-k-test.true c.loop-k.invariant)

pub parts-full-requires : goal.parts-full-requires
parts-full-requires t c = (omega (arith, c.decreases), (heres.here-behind (sim-each (sim-node (λ s c. eqb c.kind 17) (λ b. sim-if b ((sims c.args.below).full c.args.depth) sim-skip))) c.requires c.loop-k._k c.loop-k-test.true c.loop-k.invariant))

pub parts-returns-in_err-at-in-CatchClause : goal.parts-returns-in_err-at-in-CatchClause
parts-returns-in_err-at-in-CatchClause t c = ways.did-exit c.from_residual.result c.from_residual.ensures.1 (ways.many-stop (clause_f (walks_f c.args.below) c.args.depth) c.args.node c.loop-k._k c.args.n c.loop-k.invariant c.loop-k-test.true (ways.iff-yes _ _ (ways.kind-yes (heres.here-behind (sim-each (sim-node (λ s c. eqb c.kind 17) (λ b. sim-if b ((sims c.args.below).full c.args.depth) sim-skip))) c.requires c.loop-k._k c.loop-k-test.true c.loop-k.invariant) refl (rw c.in-CatchClause.is at c.kind_at.ensures.1)) c.in_err-at-in-CatchClause.ensures))

pub parts-loop-k-preserved : goal.parts-loop-k-preserved
parts-loop-k-preserved t c =
    let here = heres.here-behind (sim-each (sim-node (λ s c. eqb c.kind 17) (λ b. sim-if b ((sims c.args.below).full c.args.depth) sim-skip))) c.requires c.loop-k._k c.loop-k-test.true c.loop-k.invariant in
    elim c.match-kind_at.branch [
      | parts-in-CatchClause+in_ok-at-in-CatchClause b ↦ rw (b.w-is, b.at-is) (ways.many-next (clause_f (walks_f c.args.below) c.args.depth) c.args.node c.loop-k._k c.args.n c.loop-k.invariant (ways.iff-yes _ _ (ways.kind-yes here refl (rw b.in-CatchClause.is at c.kind_at.ensures.1)) b.in_ok-at-in-CatchClause.ensures))
      | parts-in_default b ↦ rw (b.w-is, b.at-is) (ways.many-next (clause_f (walks_f c.args.below) c.args.depth) c.args.node c.loop-k._k c.args.n c.loop-k.invariant (ways.iff-no _ _ (ways.kind-no here 17 refl (λ e. b.in_default.not-CatchClause (c.kind_at.ensures.0 ∙ ap kind_of e))) (ways.did-skip c.loop-k.at here.planted b.skip-at.ensures.0)))
    ]

pub parts-returns : goal.parts-returns
parts-returns t c = ways.many-end (clause_f (walks_f c.args.below) c.args.depth) c.args.node c.loop-k._k c.args.n c.loop-k.invariant c.loop-k.auto._k-end c.loop-k-test.false
