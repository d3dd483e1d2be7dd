-- One field after the other. Assumes nothing.
use Rattle.def_pass.specs.Walk.{set_var_decl_kind, set_pat_mode, set_in_test}
use Rattle.words_scopes.specs.Kinds.{type_of}
use Rattle.words_state.specs.State.{pat_mode_of}
use Rattle.words_state.proofs.Fields.{turns-then}
use Rattle.words_state.proofs.restore_fields.Goals as goal

pub returns : goal.returns
returns c =
    let f = c.args.f in
    let t₁ = turns-then (set_var_decl_kind (type_of f.var_decl_kind)) c.set_inlining.ensures c.set_var_decl_kind.ensures in
    let t₂ = turns-then (set_pat_mode (pat_mode_of f.pat_mode)) t₁ c.set_pat_mode.ensures in
    turns-then (set_in_test f.in_test) t₂ c.set_in_test.ensures
