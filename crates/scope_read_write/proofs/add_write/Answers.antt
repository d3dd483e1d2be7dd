-- Marks, and the rest. Assumes nothing.
use Rattle.std.proofs.Common.{◌≡◌, not, ◌&&◌, List, ℕ, ◌∙◌}
use Rattle.def_tree.specs.Base.{pick}
use Rattle.def_pass.specs.Scope.{Stack, prevent_inline, prevent_inline_of_params, add_write}
use Rattle.words_scopes.specs.State.{Becomes, stack}
use Rattle.scope_find.specs.Answers.{write_to}
use Rattle.scope_read_write.specs.Writes.{forced}
use Rattle.scope_read_write.proofs.Again as again
use Rattle.scope_read_write.proofs.Limits as limits
use Rattle.scope_read_write.proofs.add_write.Goals as goal
use Rattle.scope_read_write.proofs.add_write.Goals.{Joined-args, then-far, else-far, then-args, else-args, then-far-2, else-far-2}

module _ (c : Joined-args) where
  abbrev w : List ℕ
  w = c.args.w.now

  marked : Becomes w c.if-far.w (pick c.write_prevents_inline-far.result (prevent_inline c.args.x (stack w)) (stack w))
  marked = elim c.if-far.branch [
    | then-far t ↦ limits.step-yes (stack w) t.if-far.true t.w-is t.prevent_inline.ensures
    | else-far t ↦ limits.step-no (prevent_inline c.args.x (stack w)) c.requires t.if-far.false t.w-is
  ]

  params : Becomes c.if-far.w c.if-args.w (pick c.args.args (prevent_inline_of_params (stack c.if-far.w)) (stack c.if-far.w))
  params = elim c.if-args.branch [
    | then-args t ↦ limits.step-yes (stack c.if-far.w) t.if-args.true t.w-is t.prevent_inline_of_params.ensures
    | else-args t ↦ limits.step-no (prevent_inline_of_params (stack c.if-far.w)) marked.good t.if-args.false t.w-is
  ]

pub write_to-requires : goal.write_to-requires
write_to-requires c =
    let j = (goal.at.write_to-requires c).Joined-args in
    let p = c.write_prevents_inline-far.result in
    let alone : c.if-far-2.write_to ≡ (p && not c.args.args) = elim c.if-far-2.branch [
      | then-far-2 t ↦ rw t.if-far-2.true t.write_to-is
      | else-far-2 t ↦ rw t.if-far-2.false (t.write_to-is ∙ t.if-far-2.false)
    ] in
    ((params j).good, again.marked-before c.args.x p c.args.args (stack c.args.w.now) alone (marked j).is (params j).is)

pub returns : goal.returns
unfolding add_write
returns c =
    let j = (goal.at.returns c).Joined-args in
    limits.stepped_then c.write_to.new.w (λ (st : Stack). write_to c.args.x (forced c.args.how) st) c.write_to.result
    (limits.becomes-then (λ (st : Stack). pick c.args.args (prevent_inline_of_params st) st) (rw c.write_prevents_inline-far.ensures at (marked j)) (params j)) c.write_to.ensures
