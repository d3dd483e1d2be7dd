-- The goals of assign. Assumes nothing.
use Rattle.std.proofs.Common.{Result, Ok}
use mathlib.Core.Path.{◌≡◌}
use mathlib.Core.Bool.{Bool}
use mathlib.Core.List.{List}
use Prim.Native.Nat.{ℕ, ◌+◌}
use native.Mathlib.Omega.{arith}
use Rattle.refusal.specs.declared.Refusal.{Refusal}
use Rattle.words.specs.Layout.{node_of}
use Rattle.def_tree.specs.Combine.{and_then, ◌>>◌, iff, ret, Walks, act_f, skip, many, split_f, on_kids_f, node_at, tree_at}
use Rattle.def_tree.proofs.Sims.{sim-each, sim-skip, sim-split, sim_f-if}
use Rattle.def_pass.specs.Walk.{St, set_pat_mode, assigning, assign_first, assign_last, to_pattern}
use Rattle.laws_flat.specs.WalkF.{WalksF, walks_f, visit_mut_assign_expr_f, assign_kids_f}
use Rattle.laws_flat.proofs.Sim.{sims}
use Rattle.words_state.specs.State.{abs, rest, Turns}
use Rattle.walk_laws.specs.Did.{Did, Here}
use Rattle.walk_laws.proofs.Laws as laws
use Rattle.walk_laws.proofs.Heres as heres
use Rattle.walk_laws.proofs.Ways as ways
use Rattle.walk.proofs.+walks.Goals as goal
use Rattle.walk.proofs.+walks.Goals.{assign-Joined-pat, assign-then-pat+in_ok-j, assign-else-pat+in_ok-j-2}

-- the children: written, walked from the first or the second on, and recorded
abbrev chosen : WalksF → Bool → ℕ → Walks St
chosen v b q n i = iff b (many (v.full q) n i) (split_f skip (many (v.full q)) n i)

abbrev inside : WalksF → ℕ → Bool → ℕ → Walks St
inside v f b q n i = act_f (assign_first f) n i >> (λ st. and_then (chosen v b q n i st) (λ j. act_f assign_last n i >> ret j))

assigned : (v : WalksF) {w u x : List ℕ} {a : Result ℕ Refusal} {i p d f n : ℕ} {b : Bool} → Here w 1 i p d → Turns w u (set_pat_mode assigning (rest w)) → f ≡ (node_of u i).form → b ≡ to_pattern (tree_at (abs u) i) → n ≡ (node_of u i).arity → Did u x a (inside v f b (p + 1) n (i + 1) (abs u)) → Did w x a (visit_mut_assign_expr_f v p i (abs w))
unfolding visit_mut_assign_expr_f assign_kids_f
assigned v {i = i} {p} {f = f} {b = b} h t e z r s =
    let k = heres.here-turn t h in
    ways.modify-then (set_pat_mode assigning) (λ st. on_kids_f (assign_kids_f v p (node_at st i).form (to_pattern (tree_at st i))) i st) t (ways.assign-form k v p e z (ways.on-kids (inside v f b) k r s))

pub assign-form_at-f-requires : goal.assign-form_at-f-requires
assign-form_at-f-requires t c = heres.at-node (heres.here-turn c.set_pat_mode.ensures c.requires)

pub assign-to_pattern-pat-requires : goal.assign-to_pattern-pat-requires
assign-to_pattern-pat-requires t c = heres.here-flat (heres.here-turn c.set_pat_mode.ensures c.requires)

pub assign-arity_at-n-requires : goal.assign-arity_at-n-requires
assign-arity_at-n-requires t c = heres.at-node (heres.here-turn c.set_pat_mode.ensures c.requires)

pub assign-overflow_add-node : goal.assign-overflow_add-node
assign-overflow_add-node t c = omega (arith, c.requires.depth, (heres.at-node c.requires).1)

pub assign-assign_first-requires : goal.assign-assign_first-requires
assign-assign_first-requires t c = heres.at-trees (heres.here-kids (heres.here-turn c.set_pat_mode.ensures c.requires) c.arity_at-n.ensures)

pub assign-returns-in_err-assign_first : goal.assign-returns-in_err-assign_first
assign-returns-in_err-assign_first t c = ways.did-exit c.from_residual.result c.from_residual.ensures.1 (assigned (walks_f c.args.below) c.requires c.set_pat_mode.ensures c.form_at-f.ensures c.to_pattern-pat.ensures c.arity_at-n.ensures (laws.act-stop _ c.in_err-assign_first.ensures))

-- the walk, from the first or the second on
walked : (t : ℕ) (c : assign-Joined-pat t) → Did c.assign_first.new.w c.if-pat.w (Ok c.if-pat.j) (chosen (walks_f c.args.below) c.to_pattern-pat.result (c.args.depth + 1) c.arity_at-n.result (c.args.node + 1) (abs c.assign_first.new.w))
walked t c = elim c.if-pat.branch [
  | assign-then-pat+in_ok-j b ↦ rw (b.w-is, b.j-is) (ways.iff-yes _ _ b.if-pat.true b.in_ok-j.ensures)
  | assign-else-pat+in_ok-j-2 b ↦ rw (b.w-is, b.j-is) (ways.iff-no _ _ b.if-pat.false b.in_ok-j-2.ensures)
]

pub assign-overflow_add-depth : goal.assign-overflow_add-depth
assign-overflow_add-depth t c = omega (arith, c.requires.depth, (heres.at-node c.requires).1)

pub assign-overflow_add-node-then-pat : goal.assign-overflow_add-node-then-pat
assign-overflow_add-node-then-pat t c = omega (arith, c.requires.depth, (heres.at-node c.requires).1)

pub assign-overflow_add-node-else-pat : goal.assign-overflow_add-node-else-pat
assign-overflow_add-node-else-pat t c = omega (arith, c.requires.depth, (heres.at-node c.requires).1)

pub assign-overflow_add-node-2 : goal.assign-overflow_add-node-2
assign-overflow_add-node-2 t c = omega (arith, c.requires.depth, (heres.at-node c.requires).1)

pub assign-many-requires : goal.assign-many-requires
assign-many-requires t c = (omega (arith, c.decreases), (heres.here-trees (assign_first c.form_at-f.result) c.arity_at-n.result (c.args.node + 1) c.in_ok-assign_first.ensures (heres.here-kids (heres.here-turn c.set_pat_mode.ensures c.requires) c.arity_at-n.ensures)))

pub assign-tail-requires : goal.assign-tail-requires
assign-tail-requires t c = (omega (arith, c.decreases), (heres.here-trees (assign_first c.form_at-f.result) c.arity_at-n.result (c.args.node + 1) c.in_ok-assign_first.ensures (heres.here-kids (heres.here-turn c.set_pat_mode.ensures c.requires) c.arity_at-n.ensures)))

pub assign-returns-in_err-j : goal.assign-returns-in_err-j
assign-returns-in_err-j t c = ways.did-exit c.from_residual-in_err-j.result c.from_residual-in_err-j.ensures.1 (assigned (walks_f c.args.below) c.requires c.set_pat_mode.ensures c.form_at-f.ensures c.to_pattern-pat.ensures c.arity_at-n.ensures (laws.act-then _ c.in_ok-assign_first.ensures (laws.did-stop _ (ways.iff-yes _ _ c.if-pat.true c.in_err-j.ensures))))

pub assign-returns-in_err-j-2 : goal.assign-returns-in_err-j-2
assign-returns-in_err-j-2 t c = ways.did-exit c.from_residual-in_err-j-2.result c.from_residual-in_err-j-2.ensures.1 (assigned (walks_f c.args.below) c.requires c.set_pat_mode.ensures c.form_at-f.ensures c.to_pattern-pat.ensures c.arity_at-n.ensures (laws.act-then _ c.in_ok-assign_first.ensures (laws.did-stop _ (ways.iff-no _ _ c.if-pat.false c.in_err-j-2.ensures))))

pub assign-assign_last-requires : goal.assign-assign_last-requires
assign-assign_last-requires t c =
    let each = sim-each ((sims c.args.below).full (c.args.depth + 1)) in
    let here = heres.here-trees (assign_first c.form_at-f.result) c.arity_at-n.result (c.args.node + 1) c.in_ok-assign_first.ensures (heres.here-kids (heres.here-turn c.set_pat_mode.ensures c.requires) c.arity_at-n.ensures) in
    heres.at-trees (heres.here-again (sim_f-if c.to_pattern-pat.result each (sim-split sim-skip each)) here (walked t (goal.at.assign-assign_last-requires t c).Joined-pat))

pub assign-returns-in_err-assign_last : goal.assign-returns-in_err-assign_last
assign-returns-in_err-assign_last t c = ways.did-exit c.from_residual-in_err-assign_last.result c.from_residual-in_err-assign_last.ensures.1 (assigned (walks_f c.args.below) c.requires c.set_pat_mode.ensures c.form_at-f.ensures c.to_pattern-pat.ensures c.arity_at-n.ensures (laws.act-then _ c.in_ok-assign_first.ensures (laws.did_then _ (walked t (goal.at.assign-returns-in_err-assign_last t c).Joined-pat) (laws.act-stop _ c.in_err-assign_last.ensures))))

pub assign-returns : goal.assign-returns
assign-returns t c = assigned (walks_f c.args.below) c.requires c.set_pat_mode.ensures c.form_at-f.ensures c.to_pattern-pat.ensures c.arity_at-n.ensures (laws.act-then _ c.in_ok-assign_first.ensures (laws.did_then _ (walked t (goal.at.assign-returns t c).Joined-pat) (ways.act-end c.if-pat.j c.in_ok-assign_last.ensures)))
