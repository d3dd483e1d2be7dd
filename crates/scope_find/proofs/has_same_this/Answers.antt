-- By the binding found. Assumes nothing.
use Rattle.std.proofs.Common.{◌≡◌, not, ◌&&◌, ◌||◌, ℕ, eqb, suc, sym, ap, ◌∙◌}
use mathlib.Core.Option.{Option, some}
use Rattle.def_tree.specs.Tree.{kind}
use Rattle.def_pass.specs.Tree.{is_member}
use Rattle.def_pass.specs.Scope.{VarInfo, has_same_this}
use Rattle.words_scopes.specs.State.{bind_at}
use Rattle.scope_find.specs.Look.{node_tree}
use Rattle.scope_find.proofs.Facts as facts
use Rattle.scope_find.proofs.has_same_this.Goals as goal
use Rattle.scope_find.proofs.has_same_this.Goals.{then-this_sensitive, else-this_sensitive}

pub returns-in_default : goal.returns-in_default
returns-in_default c = sym (ap (λ (o : Option VarInfo). has_same_this o (some (node_tree c.args.w.now c.args.i))) (facts.found_at c.args.w.now c.args.x 0 c.in_default.ensures.place))

pub returns : goal.returns
returns c =
    let w = c.args.w.now in
    let t = node_tree w c.args.i in
    let b = bind_at w c.in-Some.k in
    let matters : c.if-this_sensitive.result ≡ (b.this_sensitive && is_member t) = elim c.if-this_sensitive.branch [
      | then-this_sensitive v ↦ rw (sym c.this_sensitive.ensures ∙ v.if-this_sensitive.true) (v.result-is ∙ v.is_member.ensures _ v.kind_at.ensures.1 ∙ ap (λ (n : ℕ). eqb n 37 || eqb n 38) (sym (ap kind (facts.node-tree w c.args.i c.requires.1))))
      | else-this_sensitive v ↦ rw (sym c.this_sensitive.ensures ∙ v.if-this_sensitive.false) (v.result-is ∙ v.if-this_sensitive.false)
    ] in
    ap not matters ∙ sym (ap (λ (o : Option VarInfo). has_same_this o (some t)) (facts.found_at w c.args.x (suc c.in-Some.k) c.in-Some.ensures.place))
