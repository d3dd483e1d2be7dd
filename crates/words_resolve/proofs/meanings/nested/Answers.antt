-- Name by name. Assumes nothing.
use Rattle.std.proofs.Common.{refl, sym, ap, arith, ◌≡◌, ◌∙◌}
use mathlib.Core.Bool.{Bool, ◌&&◌}
use lib.Dec.{eqb}
use lib.ListN.{get_or}
use Rattle.def_tree.specs.Base.{pick}
use Rattle.words_resolve.specs.Meanings.{declared}
use Rattle.words_resolve.specs.declared.names.Seen.TheVariants.{Never}
use Rattle.words_resolve.proofs.Views.{filling-none, filling-more, filling-all}
use Rattle.words_resolve.proofs.meanings.nested.Goals.{then-cut, else-cut}
use Rattle.words_resolve.proofs.meanings.nested.Goals as goal

pub loop-x-init : goal.loop-x-init
loop-x-init c = filling-none refl

pub loop-x-preserved : goal.loop-x-preserved
loop-x-preserved c =
    let is : c.if-cut.inside ≡ (c.args.cut && eqb c.loop-x.x c.args.arguments) = elim c.if-cut.branch [ then-cut w ↦ w.inside-is ∙ sym (ap (λ (p : Bool). p && eqb c.loop-x.x c.args.arguments) w.if-cut.true) | else-cut w ↦ w.inside-is ∙ w.if-cut.false ∙ sym (ap (λ (p : Bool). p && eqb c.loop-x.x c.args.arguments) w.if-cut.false) ] in
    filling-more c.loop-x.invariant c.loop-x-test.true (c.inside.ensures ∙ ap (λ (p : Bool). pick (declared (get_or c.args.seen.now c.loop-x.x Never)) c.args.number (pick p 0 (get_or c.args.around.now c.loop-x.x 0))) is)

pub returns : goal.returns
returns c = filling-all c.loop-x.invariant (omega (arith, c.loop-x-test.false))
