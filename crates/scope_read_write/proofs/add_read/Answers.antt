-- Marks, and the count. Assumes nothing.
use Rattle.std.proofs.Common.{sym, ◌∙◌}
use Rattle.def_tree.specs.Base.{pick}
use Rattle.def_pass.specs.Scope.{Stack, is_some, find_binding, change, count_read, add_unresolved, prevent_inline, prevent_inline_of_params, read_prevents_inlining, add_read}
use Rattle.words_scopes.specs.State.{Becomes, stack}
use Rattle.scope_read_write.proofs.Limits as limits
use Rattle.scope_read_write.proofs.add_read.Goals as goal
use Rattle.scope_read_write.proofs.add_read.Goals.{then-read_prevents_inlining, else-read_prevents_inlining, then-args, else-args}

pub returns : goal.returns
unfolding add_read
returns c =
    let w = c.args.w.now in
    let x = c.args.x in
    let u = c.if-read_prevents_inlining.w in
    let v = c.if-args.w in
    let p = c.read_prevents_inlining.ensures in
    let marked : Becomes w u (pick (read_prevents_inlining x (stack w)) (prevent_inline x (stack w)) (stack w)) = elim c.if-read_prevents_inlining.branch [
      | then-read_prevents_inlining t ↦ limits.step-yes (stack w) (sym p ∙ t.if-read_prevents_inlining.true) t.w-is t.prevent_inline.ensures
      | else-read_prevents_inlining t ↦ limits.step-no (prevent_inline x (stack w)) c.requires (sym p ∙ t.if-read_prevents_inlining.false) t.w-is
    ] in
    let params : Becomes u v (pick c.args.args (prevent_inline_of_params (stack u)) (stack u)) = elim c.if-args.branch [
      | then-args t ↦ limits.step-yes (stack u) t.if-args.true t.w-is t.prevent_inline_of_params.ensures
      | else-args t ↦ limits.step-no (prevent_inline_of_params (stack u)) marked.good t.if-args.false t.w-is
    ] in
    limits.becomes-then (λ (st : Stack). pick (is_some (find_binding x st)) (change x count_read st) (add_unresolved x st))
    (limits.becomes-then (λ (st : Stack). pick c.args.args (prevent_inline_of_params st) st) marked params) c.count_read.ensures
