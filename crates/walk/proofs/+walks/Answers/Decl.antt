-- The goals of decl. Assumes nothing.
use native.Mathlib.Omega.{arith}
use Rattle.def_tree.specs.Combine.{node_at}
use Rattle.def_pass.specs.Walk.{set_var_decl_kind, decl_kind_of}
use Rattle.words_state.specs.State.{abs}
use Rattle.laws_flat.specs.WalkF.{walks_f, plain_f, visit_mut_var_decl_f}
use Rattle.walk_laws.proofs.Heres as heres
use Rattle.walk_laws.proofs.Ways as ways
use Rattle.walk.proofs.+walks.Goals as goal

pub decl-form_at-f-requires : goal.decl-form_at-f-requires
decl-form_at-f-requires t c = heres.at-node c.requires

pub decl-kids-requires : goal.decl-kids-requires
decl-kids-requires t c = (omega (arith, c.decreases), heres.here-turn c.set_var_decl_kind.ensures c.requires)

pub decl-returns : goal.decl-returns
unfolding visit_mut_var_decl_f
decl-returns t c = ways.modify-then (set_var_decl_kind (decl_kind_of (node_at (abs c.args.w.now) c.args.node).form)) (plain_f (walks_f c.args.below) c.args.depth c.args.node) (ways.decl-turn c.requires c.form_at-f.ensures c.decl_kind.ensures c.set_var_decl_kind.ensures) c.kids.ensures
