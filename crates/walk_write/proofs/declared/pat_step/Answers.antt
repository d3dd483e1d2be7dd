-- By the kind and the mode. Assumes nothing.
use Rattle.std.proofs.Common.{◌≡◌, ap, ◌∙◌}
use Rattle.def_file.specs.Named.{kind_of}
use Rattle.words.specs.Layout.{node_of}
use Rattle.walk_write.proofs.Declares.{pat-other, pat-assigning, pat-param, pat-catch, pat-declaring}
use Rattle.walk_write.proofs.declared.pat_step.Goals as goal

pub returns-in_default : goal.returns-in_default
returns-in_default c = pat-other c.args.w.now c.args.i c.requires.1 c.requires.0 (λ (e : (node_of c.args.w.now c.args.i).kind ≡ 20). c.in_default.not-BindingIdent (c.kind_at.ensures.0 ∙ ap kind_of e))

pub returns-in-Assign : goal.returns-in-Assign
returns-in-Assign c = pat-assigning c.args.w.now c.args.i c.requires.1 (rw c.in-BindingIdent.is at c.kind_at.ensures.1) c.in-Assign.ensures c.write_unbound.ensures

pub returns-in-Param : goal.returns-in-Param
returns-in-Param c = pat-param c.args.w.now c.args.i c.requires.1 (rw c.in-BindingIdent.is at c.kind_at.ensures.1) c.in-Param.ensures c.declare_bound.ensures

pub returns-in-CatchParam : goal.returns-in-CatchParam
returns-in-CatchParam c = pat-catch c.args.w.now c.args.i c.requires.1 (rw c.in-BindingIdent.is at c.kind_at.ensures.1) c.in-CatchParam.ensures c.declare_bound-in-CatchParam.ensures

pub returns-in-VarDecl : goal.returns-in-VarDecl
returns-in-VarDecl c = pat-declaring c.args.w.now c.args.i c.requires.1 (rw c.in-BindingIdent.is at c.kind_at.ensures.1) c.requires.0 c.in-VarDecl.ensures
