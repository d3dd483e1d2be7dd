-- Dropped, and then hoisted into what is innermost now. Assumes nothing.
use Rattle.std.proofs.Common.{◌≡◌, true, false, ◌-◌, ℕ, ◌+◌, ◌*◌, ◌%◌, ◌<◌, get_or, sym, ap, ◌∙◌, arith}
use Rattle.def_pass.specs.Scope.{is_fn}
use Rattle.words_scopes.specs.declared.kinds.ScopeKind.{ScopeKind}
use Rattle.words_scopes.specs.Kinds.{kind_of}
use Rattle.words_scopes.specs.State.{stack, scope_kind_of}
use Rattle.scope_find.specs.Look.{scope_at}
use Rattle.scope_values.proofs.Count.{depth_is}
use Rattle.scope_values.proofs.Listed.{becomes-then}
use Rattle.scope_declare.proofs.Top as top
use Rattle.scope_child.proofs.Ends as ends
use Rattle.scope_child.proofs.close.Goals as goal

pub sum_counts-ended-requires : goal.sum_counts-ended-requires
sum_counts-ended-requires c = (c.requires.long, omega arith, c.requires.count)

pub returns-then-d-lt2 : goal.returns-then-d-lt2
returns-then-d-lt2 c =
    let w = c.args.w.now in
    (rw (ends.close-few (stack w) (omega (arith, depth_is w, c.if-d-lt2.true))) c.drop_all.ensures, c.sum_counts-ended.ensures ∙ ap (λ (n : ℕ). n % 4294967296) (sym (ends.ends-few w c.requires c.if-d-lt2.true)))

pub hoist_all-requires : goal.hoist_all-requires
hoist_all-requires c =
    let w = c.args.w.now in
    let u = c.drop_scope.new.w in
    let e = c.drop_scope.ensures in
    let z : 1 < get_or w 2 0 = omega arith in
    (e.0.good, ends.still-deep w u c.requires z e.0.is, omega (arith, e.2, c.first_binding-a.ensures), omega (arith, c.first_binding-a.ensures, top.top-fits w c.requires (omega arith)), omega (arith, e.3, c.requires.live), λ j l. rw (e.1.0 (4112 + j * 10) (omega arith) (omega (arith, c.requires.count))) (c.requires.ids j l))

pub shape_of-w-in-Cond : goal.shape_of-w-in-Cond
shape_of-w-in-Cond c = c.hoist_all.auto.w ∙ c.drop_scope.auto.w

pub returns-in-Cond : goal.returns-in-Cond
unfolding scope_at
returns-in-Cond c =
    let w = c.args.w.now in
    let u = c.drop_scope.new.w in
    let e = c.drop_scope.ensures in
    let z : 1 < get_or w 2 0 = omega arith in
    let no : is_fn (scope_kind_of (get_or w (7184 + (get_or w 2 0 - 1) * 4) 0)) ≡ false = sym (ap is_fn c.scope_kind-kind.ensures) ∙ ends.no-fn c.scope_kind-kind.result c.in-Cond.is in
    let h = rw c.first_binding-a.ensures at c.hoist_all.ensures in
    (becomes-then e.0 (rw (ends.closed-var w u c.requires z e.0.is no e.1) at h.0), h.1 ∙ ap (λ (n : ℕ). n % 4294967296) (ends.ended-var w u c.requires z e.0.is no e.1))

pub sum_counts-ended-requires-in-Fn : goal.sum_counts-ended-requires-in-Fn
sum_counts-ended-requires-in-Fn c =
    let z : 1 < get_or c.args.w.now 2 0 = omega arith in
    (c.requires.long, omega (arith, c.first_binding-a.ensures, top.top-fits c.args.w.now c.requires (omega arith)), c.requires.count)

pub returns-in-Fn : goal.returns-in-Fn
unfolding scope_at
returns-in-Fn c =
    let w = c.args.w.now in
    let u = c.drop_scope-in-Fn.new.w in
    let e = c.drop_scope-in-Fn.ensures in
    let z : 1 < get_or w 2 0 = omega arith in
    let yes : is_fn (scope_kind_of (get_or w (7184 + (get_or w 2 0 - 1) * 4) 0)) ≡ true = sym (ap is_fn c.scope_kind-kind.ensures) ∙ ap (λ (k : ScopeKind). is_fn (kind_of k)) c.in-Fn.is in
    (rw (ends.closed-fn w u c.requires z e.0.is yes) at e.0, rw c.first_binding-a.ensures at c.sum_counts-ended-in-Fn.ensures ∙ ap (λ (n : ℕ). n % 4294967296) (sym (ends.ends-fn w c.requires (omega arith) z yes)))
