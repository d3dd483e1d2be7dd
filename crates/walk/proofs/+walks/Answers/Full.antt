-- The goals of full. Assumes nothing.
use Prim.Native.Nat.{◌-◌}
use mathlib.Core.Path.{refl, sym, ap, ◌∙◌}
use native.Mathlib.Omega.{arith}
use Rattle.def_file.specs.Named.{kind_of}
use Rattle.laws_flat.specs.WalkF.{walks_f}
use Rattle.laws_flat.proofs.Sim.{sims, sim-own}
use Rattle.walk_laws.proofs.Shorts as shorts
use Rattle.walk_laws.proofs.Heres as heres
use Rattle.walk_laws.proofs.Ways as ways
use Rattle.walk.proofs.+walks.Goals as goal

pub full-returns-then-levels-eq0 : goal.full-returns-then-levels-eq0
full-returns-then-levels-eq0 t c = ways.full-none c.args.depth c.args.node c.args.levels c.requires.planted c.if-levels-eq0.true

pub full-bare-requires : goal.full-bare-requires
full-bare-requires t c = heres.here-flat c.requires

pub full-kind_at-requires : goal.full-kind_at-requires
full-kind_at-requires t c = heres.at-node c.requires

pub full-ident-requires : goal.full-ident-requires
full-ident-requires t c = (omega (arith, c.decreases, c.if-levels-eq0.false), (heres.here-up c.if-levels-eq0.false c.requires, rw c.in-Ident.is at c.kind_at.ensures.1))

pub full-returns-in-Ident : goal.full-returns-in-Ident
full-returns-in-Ident t c = shorts.bare-ident (heres.here-up c.if-levels-eq0.false c.requires) c.if-levels-eq0.false (sym c.bare.ensures ∙ c.if-bare.true) refl (rw c.in-Ident.is at c.kind_at.ensures.1) c.ident.ensures

pub full-overflow_add-result : goal.full-overflow_add-result
full-overflow_add-result t c = omega (arith, c.requires.depth, (heres.at-node c.requires).1)

pub full-returns-in_default : goal.full-returns-in_default
full-returns-in_default t c = shorts.bare-other (heres.here-up c.if-levels-eq0.false c.requires) c.if-levels-eq0.false (sym c.bare.ensures ∙ c.if-bare.true) refl (λ e. c.in_default.not-Ident (c.kind_at.ensures.0 ∙ ap kind_of e))

pub full-returns-then-leaf : goal.full-returns-then-leaf
full-returns-then-leaf t c = shorts.leaf-over (heres.here-up c.if-levels-eq0.false c.requires) c.if-levels-eq0.false (sym c.leaf.ensures ∙ c.if-leaf.true)

pub full-own-requires : goal.full-own-requires
full-own-requires t c = (omega (arith, c.decreases, c.if-levels-eq0.false), heres.here-up c.if-levels-eq0.false c.requires)

pub full-returns-in_err-j : goal.full-returns-in_err-j
full-returns-in_err-j t c = ways.did-exit c.from_residual.result c.from_residual.ensures.1 (ways.full-stop c.args.depth c.args.node c.args.levels c.if-levels-eq0.false c.in_err-j.ensures)

pub full-settled-requires : goal.full-settled-requires
full-settled-requires t c = heres.here-flat (heres.here-still (sim-own (sims (c.args.levels - 1)) c.args.depth) (heres.here-up c.if-levels-eq0.false c.requires) refl c.in_ok-j.ensures)

pub full-returns-then-settled : goal.full-returns-then-settled
full-returns-then-settled t c = ways.full-then c.args.depth c.args.node c.args.levels c.if-levels-eq0.false c.in_ok-j.ensures (shorts.settled-after (walks_f (c.args.levels - 1)) (heres.here-still (sim-own (sims (c.args.levels - 1)) c.args.depth) (heres.here-up c.if-levels-eq0.false c.requires) refl c.in_ok-j.ensures) (sym c.settled.ensures ∙ c.if-settled.true) (heres.walk_end (sim-own (sims (c.args.levels - 1)) c.args.depth) (heres.here-up c.if-levels-eq0.false c.requires) c.in_ok-j.ensures))

pub full-after-requires : goal.full-after-requires
full-after-requires t c = (omega (arith, c.decreases, c.if-levels-eq0.false), (heres.here-still (sim-own (sims (c.args.levels - 1)) c.args.depth) (heres.here-up c.if-levels-eq0.false c.requires) refl c.in_ok-j.ensures, heres.walk_end (sim-own (sims (c.args.levels - 1)) c.args.depth) (heres.here-up c.if-levels-eq0.false c.requires) c.in_ok-j.ensures))

pub full-returns : goal.full-returns
full-returns t c = ways.full-then c.args.depth c.args.node c.args.levels c.if-levels-eq0.false c.in_ok-j.ensures c.after.ensures
