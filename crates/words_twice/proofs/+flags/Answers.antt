-- Node by node; a function by two calls, its name with what is declared outside and the rest with its own. Assumes nothing.
use mathlib.Core.Path.{refl, sym, ◌∙◌}
use Prim.Native.Nat.{ℕ, ◌-◌, ◌<◌}
use native.Mathlib.Omega.{arith}
use Rattle.words.specs.Layout.{tree}
use Rattle.words_nodes.proofs.Words.{few-open}
use Rattle.words_twice.specs.Twice.{Stand, Plain}
use Rattle.words_twice.proofs.Flagging.{left_open}
use Rattle.words_twice.proofs.Steps as steps
use Rattle.words_twice.proofs.+flags.Goals.{After-flags-inside}
use Rattle.words_twice.proofs.+flags.Goals as goal

pub loop-more-init : goal.loop-more-init
loop-more-init t c b h = steps.flagging-start b c.requires.0 c.requires.1 c.requires.2

pub kind_at-k-requires : goal.kind_at-k-requires
kind_at-k-requires t c = steps.here (steps.known c.args.seen.now c.loop-more.invariant) (omega arith)

pub arity_at-c-requires : goal.arity_at-c-requires
arity_at-c-requires t c = steps.here (steps.known c.args.seen.now c.loop-more.invariant) (omega arith)

pub form_at-f-requires : goal.form_at-f-requires
form_at-f-requires t c = steps.here (steps.known c.args.seen.now c.loop-more.invariant) (omega arith)

pub flags-inside-requires : goal.flags-inside-requires
flags-inside-requires t c =
    let F = steps.known c.args.seen.now c.loop-more.invariant in
    let name = steps.name F (omega arith) refl c.form_at-f.ensures c.arity_at-c.ensures (c.outside-out.ensures _ c.kind_at-k.ensures.1) in
    (omega (arith, c.decreases, F.from, (steps.here F (omega arith)).1), (F.planted, name.0, name.1, c.requires.3))

-- a function whose name is flagged: the rest of it
body : {t : ℕ} (c : After-flags-inside t) → (c.loop-more.at < c.flags-inside.result) × Stand (tree c.flags-inside.new.w) c.flags-inside.result (c.arity_at-c.result - c.outside-out.result) × Plain (tree c.flags-inside.new.w) c.flags-inside.result
body c = steps.body (steps.known c.args.seen.now c.loop-more.invariant) (omega arith) refl c.form_at-f.ensures c.arity_at-c.ensures (c.outside-out.ensures _ c.kind_at-k.ensures.1) c.flags-inside.ensures.0 (c.flags-inside.ensures.1 _ (λ x l. refl))

pub declared-own-requires : goal.declared-own-requires
declared-own-requires t c = ((c.flags-inside.ensures.1 (steps.told_by c.args.seen.now) (λ x l. refl)).planted, (body (goal.at.declared-own-requires t c).After-flags-inside).1)

pub flags-at-requires : goal.flags-at-requires
flags-at-requires t c =
    let F = steps.known c.args.seen.now c.loop-more.invariant in
    let rest = body (goal.at.flags-at-requires t c).After-flags-inside in (
      omega (arith, c.decreases, F.from, (steps.here F (omega arith)).1, rest.0),
      ((c.flags-inside.ensures.1 (steps.told_by c.args.seen.now) (λ x l. refl)).planted, rest.1, rest.2, c.declared-own.ensures.0),
    )

pub loop-more-smaller-then-is_function : goal.loop-more-smaller-then-is_function
loop-more-smaller-then-is_function t c = omega (arith, (steps.here (steps.known c.args.seen.now c.loop-more.invariant) (omega arith)).1, (body (goal.at.loop-more-smaller-then-is_function t c).After-flags-inside).0, c.flags-at.ensures.0)

pub loop-more-preserved-then-is_function : goal.loop-more-preserved-then-is_function
loop-more-preserved-then-is_function t c b h = steps.shut-done (c.loop-more.invariant b h) (omega arith) refl c.form_at-f.ensures c.arity_at-c.ensures (c.outside-out.ensures _ c.kind_at-k.ensures.1) c.flags-inside.ensures.0 (c.flags-inside.ensures.1 b h) (sym (c.is_function.ensures _ c.kind_at-k.ensures.1) ∙ c.if-is_function.true) c.flags-at.ensures.0 (c.flags-at.ensures.1 _ c.declared-own.ensures.1)

pub flag_node-requires : goal.flag_node-requires
flag_node-requires t c = let F = steps.known c.args.seen.now c.loop-more.invariant in (F.planted, steps.inside F (omega arith), F.plain, c.requires.3)

pub overflow_add-more : goal.overflow_add-more
overflow_add-more t c = let F = steps.known c.args.seen.now c.loop-more.invariant in omega (arith, few-open F.planted (left_open F.left) (omega arith), c.arity_at-c.ensures)

pub overflow_add-at-else-is_function : goal.overflow_add-at-else-is_function
overflow_add-at-else-is_function t c = omega (arith, (steps.here (steps.known c.args.seen.now c.loop-more.invariant) (omega arith)).1)

pub loop-more-smaller : goal.loop-more-smaller
loop-more-smaller t c = omega (arith, (steps.here (steps.known c.args.seen.now c.loop-more.invariant) (omega arith)).1)

pub loop-more-preserved : goal.loop-more-preserved
loop-more-preserved t c b h = steps.open_done (c.loop-more.invariant b h) (omega arith) refl c.arity_at-c.ensures (sym (c.is_function.ensures _ c.kind_at-k.ensures.1) ∙ c.if-is_function.false) (c.flag_node.ensures b h)

pub returns : goal.returns
returns t c = ((steps.flagging-all c.requires.0 (steps.known c.args.seen.now c.loop-more.invariant) (omega arith)).0, λ b h. (steps.flagging-all c.requires.0 (c.loop-more.invariant b h) (omega arith)).1)
