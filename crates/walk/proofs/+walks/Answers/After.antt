-- The goals of after. Assumes nothing.
use mathlib.Core.Path.{◌≡◌, refl, sym, ap, ◌∙◌}
use native.Mathlib.Omega.{arith}
use lib.Dec.{eqb}
use Rattle.def_file.specs.Named.{kind_of}
use Rattle.def_tree.specs.Combine.{node_at}
use Rattle.words.specs.Layout.{node_of}
use Rattle.words_state.specs.State.{abs}
use Rattle.laws_flat.specs.WalkF.{walks_f}
use Rattle.walk_laws.proofs.Heres as heres
use Rattle.walk_laws.proofs.Ways as ways
use Rattle.walk.proofs.+walks.Goals.{after-else-form_at-eq-ASSIGN-via-else-form_at-eq-ASSIGN, after-else-form_at-eq-ASSIGN-via-then-form_at-eq-ASSIGN+else-inlining}
use Rattle.walk.proofs.+walks.Goals as goal

pub after-kind_at-requires : goal.after-kind_at-requires
after-kind_at-requires t c = heres.at-node c.requires.0

pub after-ident-requires : goal.after-ident-requires
after-ident-requires t c = (omega (arith, c.decreases), (c.requires.0, rw c.in-Ident.is at c.kind_at.ensures.1))

pub after-returns-in-Ident : goal.after-returns-in-Ident
after-returns-in-Ident t c = ways.after-ident (walks_f c.args.below) c.args.depth c.args.node (ways.kind-yes c.requires.0 refl (rw c.in-Ident.is at c.kind_at.ensures.1)) c.ident.ensures

pub after-logic-requires : goal.after-logic-requires
after-logic-requires t c = (omega (arith, c.decreases), c.requires.0)

pub after-returns-in-Bin : goal.after-returns-in-Bin
after-returns-in-Bin t c = ways.after-logic (walks_f c.args.below) c.args.depth c.args.node (ways.kind-no c.requires.0 21 refl (λ e. let is : _ ≡ 32 = rw c.in-Bin.is at c.kind_at.ensures.1 in omega (arith, e, is))) (ways.first-no _ (ways.kind-no c.requires.0 33 refl (λ e. let is : _ ≡ 32 = rw c.in-Bin.is at c.kind_at.ensures.1 in omega (arith, e, is)))) c.logic.ensures

pub after-form_at-requires : goal.after-form_at-requires
after-form_at-requires t c = heres.at-node c.requires.0

pub after-after_assign-requires : goal.after-after_assign-requires
after-after_assign-requires t c = (c.requires.0.planted, heres.here-node c.requires.0, omega (arith, c.requires.0.depth))

pub after-returns-then-inlining : goal.after-returns-then-inlining
after-returns-then-inlining t c =
    let is : (node_of c.args.w.now c.args.node).kind ≡ 33 = rw c.in-Assign.is at c.kind_at.ensures.1 in
    ways.after-assign (walks_f c.args.below) c.args.depth c.args.node (ways.kind-no c.requires.0 21 refl (λ e. omega (arith, e, is))) (ways.both_yes (ways.kind-yes c.requires.0 refl is) (ways.form-yes c.requires.0 c.form_at.ensures c.if-form_at-eq-ASSIGN.true)) (ways.iff-yes _ _ (sym c.inlining.ensures ∙ c.if-inlining.true) c.after_assign.ensures)

pub after-returns-else-form_at-eq-ASSIGN : goal.after-returns-else-form_at-eq-ASSIGN
after-returns-else-form_at-eq-ASSIGN t c =
    let is : (node_of c.args.w.now c.args.node).kind ≡ 33 = rw c.in-Assign.is at c.kind_at.ensures.1 in
    elim c.else-form_at-eq-ASSIGN.branch [
      | after-else-form_at-eq-ASSIGN-via-else-form_at-eq-ASSIGN b ↦ ways.after-logic (walks_f c.args.below) c.args.depth c.args.node (ways.kind-no c.requires.0 21 refl (λ e. omega (arith, e, is))) (ways.second-no (eqb (node_at (abs c.args.w.now) c.args.node).kind 33) (ways.form-no c.requires.0 0 c.form_at.ensures b.if-form_at-eq-ASSIGN.false)) (ways.logic-other (walks_f c.args.below) c.args.depth c.args.node c.requires.0.planted (ways.kind-no c.requires.0 32 refl (λ e. omega (arith, e, is))) c.requires.1)
      | after-else-form_at-eq-ASSIGN-via-then-form_at-eq-ASSIGN+else-inlining b ↦ ways.after-assign (walks_f c.args.below) c.args.depth c.args.node (ways.kind-no c.requires.0 21 refl (λ e. omega (arith, e, is))) (ways.both_yes (ways.kind-yes c.requires.0 refl is) (ways.form-yes c.requires.0 c.form_at.ensures b.if-form_at-eq-ASSIGN.true)) (ways.iff-no _ _ (sym b.inlining.ensures ∙ b.if-inlining.false) (ways.did-skip c.args.node c.requires.0.planted c.requires.1))
    ]

pub after-returns-in_default : goal.after-returns-in_default
after-returns-in_default t c = ways.after-logic (walks_f c.args.below) c.args.depth c.args.node (ways.kind-no c.requires.0 21 refl (λ e. c.in_default.not-Ident (c.kind_at.ensures.0 ∙ ap kind_of e))) (ways.first-no _ (ways.kind-no c.requires.0 33 refl (λ e. c.in_default.not-Assign (c.kind_at.ensures.0 ∙ ap kind_of e)))) (ways.logic-other (walks_f c.args.below) c.args.depth c.args.node c.requires.0.planted (ways.kind-no c.requires.0 32 refl (λ e. c.in_default.not-Bin (c.kind_at.ensures.0 ∙ ap kind_of e))) c.requires.1)
