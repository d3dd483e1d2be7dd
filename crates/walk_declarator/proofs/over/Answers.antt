-- The initialiser is the second tree. Assumes nothing.
use Rattle.std.proofs.Common.{false, arith}
use Rattle.def_tree.specs.Combine.{ret}
use Rattle.words.specs.Layout.{tree}
use Rattle.words_state.specs.State.{rest}
use Rattle.walk_declarator.proofs.Acts as acts
use Rattle.walk_declarator.proofs.Parts as parts
use Rattle.walk_declarator.proofs.over.Goals as goal

pub returns-in_err-over_none-clause-did : goal.returns-in_err-over_none-clause-did
returns-in_err-over_none-clause-did c = acts.moves-exit _ (λ u. ret false) c.from_residual.result c.from_residual.ensures.1 (parts.over-one c.args.name.form c.args.name.ident c.args.n c.args.i (tree c.args.w.now) (rest c.args.w.now) c.if-n-lt2.true) c.in_err-over_none.ensures.did

pub returns-then-n-lt2-clause-did : goal.returns-then-n-lt2-clause-did
returns-then-n-lt2-clause-did c =
    let p = c.in_ok-over_none.ensures.did in
    acts.moves-by (parts.over-one c.args.name.form c.args.name.ident c.args.n c.args.i (tree c.args.w.now) (rest c.args.w.now) c.if-n-lt2.true) (acts.moves-then (λ u. ret false) p (acts.moves-self p.ok.planted false))

pub skip-e-requires : goal.skip-e-requires
skip-e-requires c = (c.requires.0, parts.some-trees c.args.w.now c.args.i (omega (arith, c.requires.1, c.if-n-lt2)))

pub over_some-requires : goal.over_some-requires
over_some-requires c = (c.requires.0, parts.second-in c.requires.0 c.args.n c.args.i c.skip-e.result c.requires.1 (omega (arith, c.if-n-lt2)) c.skip-e.ensures.0)

pub returns-clause-did : goal.returns-clause-did
returns-clause-did c = acts.moves-by (parts.over-two c.requires.0 c.args.n c.args.i c.skip-e.result c.requires.1 (omega (arith, c.if-n-lt2)) c.skip-e.ensures.0 c.args.name.form c.args.name.ident (rest c.args.w.now)) c.over_some.ensures.did
