-- By the binding found. Assumes nothing.
use Rattle.std.proofs.Common.{suc, sym, ap, ◌∙◌}
use Rattle.def_pass.specs.Scope.{is_var}
use Rattle.words_scopes.specs.State.{stack, bind_at}
use Rattle.scope_find.proofs.Facts as facts
use Rattle.scope_find.proofs.read_prevents_inlining.Goals as goal
use Rattle.scope_find.proofs.read_prevents_inlining.Goals.{then-not-is_var-via-then-not-is_var, then-not-is_var-via-else-not-is_var+then-hoisted, in-Some+else-not-is_var+else-hoisted, in_default}

pub returns-then-not-is_var : goal.returns-then-not-is_var
returns-then-not-is_var c =
    let w = c.args.w.now in
    let b = bind_at w c.in-Some.k in
    let f = facts.found_at w c.args.x (suc c.in-Some.k) c.in-Some.ensures.place in
    let kind = ap is_var (sym c.var_type.ensures) ∙ sym c.is_var.ensures in
    sym (elim c.then-not-is_var.branch [
      | then-not-is_var-via-then-not-is_var v ↦ facts.reads_other c.args.x (stack w) b f (kind ∙ v.if-not-is_var.true)
      | then-not-is_var-via-else-not-is_var+then-hoisted v ↦ facts.reads-hoisted c.args.x (stack w) b f (kind ∙ v.if-not-is_var.false) (sym v.hoisted.ensures ∙ v.if-hoisted.true)
    ])

pub returns : goal.returns
returns c =
    let w = c.args.w.now in
    c.write_prevents_inline.ensures ∙ sym (elim c.match-find_binding.branch [
      | in-Some+else-not-is_var+else-hoisted v ↦ facts.reads-var c.args.x (stack w) (bind_at w v.in-Some.k) (facts.found_at w c.args.x (suc v.in-Some.k) v.in-Some.ensures.place) (ap is_var (sym v.var_type.ensures) ∙ sym v.is_var.ensures ∙ v.if-not-is_var.false) (sym v.hoisted.ensures ∙ v.if-hoisted.false)
      | in_default v ↦ facts.reads-free c.args.x (stack w) (facts.found_at w c.args.x 0 v.in_default.ensures.place)
    ])
