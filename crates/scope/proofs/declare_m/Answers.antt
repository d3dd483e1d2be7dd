use Rattle.scope.proofs.Undefined as undefined
use Rattle.scope.proofs.Moves as moves
use Rattle.scope_values.proofs.Listed.{grown-kept}
use Rattle.words.specs.Layout.{tree}
use Rattle.words_state.specs.State.{rest}
use Rattle.def_pass.specs.Scope.{declare}
use Rattle.words_scopes.specs.Kinds.{type_of}
use Rattle.scope_declare.specs.Inits.{init_from}
use Rattle.scope.proofs.declare_m.Goals as goal

pub returns-clause-did : goal.returns-clause-did
returns-clause-did c =
    let w = c.args.w.now in
    let e = c.sited-e.result in
    let k = type_of c.args.kind in
    let m = moves.moves-by (undefined.declare-m-is c.args.name.form c.args.name.ident c.twice.result (tree w) e c.args.is_change c.undefined_now-undefined.result k (rest w) c.twice.ensures c.undefined_now-undefined.ensures) (moves.grown-moves (declare c.twice.result c.args.name.ident (init_from (tree w) e) c.undefined_now-undefined.result k) c.requires c.declare.auto.w c.declare.result c.declare.ensures) in
    rw c.sited-e.ensures.1 at m

pub returns-clause-kept : goal.returns-clause-kept
returns-clause-kept c = grown-kept c.args.w.now c.declare.new.w _ c.declare.result c.declare.ensures
