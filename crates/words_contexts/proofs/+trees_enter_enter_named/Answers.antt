-- The children of a node in two parts, those outside its innermost scope and those in it; trees node by node. Assumes nothing.
use Rattle.std.proofs.Common.{sym, ap, arith, length-set, ◌∙◌, ◌-◌}
use Rattle.def_resolve.specs.Scopes.{Role}
use Rattle.words.specs.Layout.{tree}
use Rattle.words_nodes.specs.Nodes.{tree_from}
use Rattle.words_nodes.proofs.Trees.{count-some}
use Rattle.words_nodes.proofs.Words.{few-open}
use Rattle.words_twice.proofs.Looks.{in-words}
use Rattle.words_contexts.specs.Walk.{role_of, last_before}
use Rattle.words_contexts.proofs.Walking as walking
use Rattle.words_contexts.proofs.+trees_enter_enter_named.Goals as goal

pub enter-trees-place-requires : goal.enter-trees-place-requires
enter-trees-place-requires t c =
    let g = c.requires.0.planted in
    let stands = walking.outside-stand g c.args.from c.requires.2 c.outside-before.ensures c.arity_at.ensures in
    (omega (arith, c.decreases, (in-words g c.requires.2).1), (c.requires.0, c.requires.1, stands, omega (arith, c.requires.3)))

pub enter-trees-requires : goal.enter-trees-requires
enter-trees-requires t c =
    let g = c.requires.0.planted in
    let role = c.before-2.ensures ∙ ap (λ (y : Role). last_before y (c.arity_at.result - c.outside-before.result)) c.last_role-last.ensures in
    let stands = walking.inside-stand g c.args.from c.requires.2 c.outside-before.ensures c.arity_at.ensures role c.trees-place.ensures in
    let few = walking.inside-few g c.args.from c.requires.2 c.outside-before.ensures c.arity_at.ensures role c.trees-place.ensures c.requires.3 in (
      omega (arith, c.decreases, (in-words g c.requires.2).1, c.trees-place.ensures.at),
      (record { planted = g; arguments = c.requires.0.arguments; room = c.trees-place.ensures.long ∙ c.requires.0.room }, c.in_scope-inner.ensures.long, stands, few),
    )

pub enter-returns : goal.enter-returns
enter-returns t c =
    let g = c.requires.0.planted in
    let role = c.before-2.ensures ∙ ap (λ (y : Role). last_before y (c.arity_at.result - c.outside-before.result)) c.last_role-last.ensures in
    walking.entered-all g c.args.from c.requires.2 c.outside-before.ensures c.arity_at.ensures role c.trees-place.ensures (role_of c.args.role) c.in_scope-inner.ensures c.last_role-last.ensures c.trees.ensures

pub enter_named-returns : goal.enter_named-returns
enter_named-returns t c = walking.named-all c.requires.4 c.in_name-name.ensures c.enter.ensures

pub trees-number-requires : goal.trees-number-requires
trees-number-requires t c = let g = c.requires.0.planted in (g, walking.here g c.loop-more.invariant (omega arith), c.requires.1)

pub trees-offset_bounds-out-node : goal.trees-offset_bounds-out-node
trees-offset_bounds-out-node t c = let g = c.requires.0.planted in omega (arith, (in-words g (walking.here g c.loop-more.invariant (omega arith))).1)

pub trees-bounds-out-node : goal.trees-bounds-out-node
trees-bounds-out-node t c = let g = c.requires.0.planted in omega (arith, (in-words g (walking.here g c.loop-more.invariant (omega arith))).1, c.loop-more.invariant.long, c.requires.0.room)

pub trees-opened-requires : goal.trees-opened-requires
trees-opened-requires t c = let g = c.requires.0.planted in (g, walking.here g c.loop-more.invariant (omega arith))

pub trees-arity_at-requires : goal.trees-arity_at-requires
trees-arity_at-requires t c = let g = c.requires.0.planted in in-words g (walking.here g c.loop-more.invariant (omega arith))

pub trees-overflow_add-more : goal.trees-overflow_add-more
trees-overflow_add-more t c = omega (arith, few-open c.requires.0.planted c.loop-more.invariant.still (omega arith), c.arity_at.ensures)

pub trees-overflow_add-place : goal.trees-overflow_add-place
trees-overflow_add-place t c = let g = c.requires.0.planted in omega (arith, (in-words g (walking.here g c.loop-more.invariant (omega arith))).1)

pub trees-loop-more-smaller-in-0 : goal.trees-loop-more-smaller-in-0
trees-loop-more-smaller-in-0 t c = let g = c.requires.0.planted in omega (arith, (in-words g (walking.here g c.loop-more.invariant (omega arith))).1)

pub trees-loop-more-preserved-in-0 : goal.trees-loop-more-preserved-in-0
trees-loop-more-preserved-in-0 t c =
    walking.walking-in c.requires.0.planted c.loop-more.invariant (omega arith) c.arity_at.ensures c.before-role.ensures c.after-last.ensures
    (λ es v. c.number.ensures _ es c.requires.0.arguments v) (sym c.in-0.is ∙ c.opened.ensures)

pub trees-enter-place-requires : goal.trees-enter-place-requires
trees-enter-place-requires t c =
    let g = c.requires.0.planted in
    let F = c.loop-more.invariant in
    let here = walking.here g F (omega arith) in (
      omega (arith, c.decreases, F.from, (in-words g here).1),
      (record { planted = g; arguments = c.requires.0.arguments; room = length-set _ _ _ ∙ F.long ∙ c.requires.0.room }, c.requires.1, here, omega (arith, F.few), omega (arith, c.in-1.is, c.opened.ensures)),
    )

pub trees-loop-more-smaller-in-1 : goal.trees-loop-more-smaller-in-1
trees-loop-more-smaller-in-1 t c =
    let g = c.requires.0.planted in
    omega (arith, c.enter-place.ensures.at, count-some (tree_from (tree c.args.w.now) c.loop-more.place.at), (in-words g (walking.here g c.loop-more.invariant (omega arith))).1)

pub trees-loop-more-preserved-in-1 : goal.trees-loop-more-preserved-in-1
trees-loop-more-preserved-in-1 t c =
    let g = c.requires.0.planted in
    let F = c.loop-more.invariant in
    walking.walking-past g F (omega arith) c.before-role.ensures
    (walking.entered-past g c.loop-more.place (walking.here g F (omega arith)) (λ es v. c.number.ensures _ es c.requires.0.arguments v) (role_of c.before-role.result) (sym c.in-1.is ∙ c.opened.ensures) c.enter-place.ensures)

pub trees-enter_named-place-requires : goal.trees-enter_named-place-requires
trees-enter_named-place-requires t c =
    let g = c.requires.0.planted in
    let F = c.loop-more.invariant in
    let here = walking.here g F (omega arith) in (
      omega (arith, c.decreases, F.from, (in-words g here).1),
      (record { planted = g; arguments = c.requires.0.arguments; room = length-set _ _ _ ∙ F.long ∙ c.requires.0.room }, c.requires.1, here, F.few, omega (arith, c.opened.ensures)),
    )

pub trees-loop-more-smaller : goal.trees-loop-more-smaller
trees-loop-more-smaller t c =
    let g = c.requires.0.planted in
    omega (arith, c.enter_named-place.ensures.at, count-some (tree_from (tree c.args.w.now) c.loop-more.place.at), (in-words g (walking.here g c.loop-more.invariant (omega arith))).1)

pub trees-loop-more-preserved : goal.trees-loop-more-preserved
trees-loop-more-preserved t c =
    let g = c.requires.0.planted in
    let F = c.loop-more.invariant in
    walking.walking-past g F (omega arith) c.before-role.ensures
    (walking.opened-past g c.loop-more.place (walking.here g F (omega arith)) (λ es v. c.number.ensures _ es c.requires.0.arguments v) (role_of c.before-role.result) c.enter_named-place.ensures)

pub trees-returns : goal.trees-returns
trees-returns t c = walking.walking-all c.loop-more.invariant (omega arith)
