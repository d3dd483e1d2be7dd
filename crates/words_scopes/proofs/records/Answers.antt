-- The records of a window, one after the other; `o` is the sum of the lengths passed. Assumes nothing.
use Rattle.std.proofs.Common.{◌≡◌, ℕ, ◌+◌, ◌*◌, ◌<◌, get_or, refl, ap, ◌∙◌, arith, length-set}
use Rattle.words.specs.Tab.{sum-next}
use Rattle.words.proofs.Yes.{yes-not_zero}
use Rattle.words_scopes.specs.State.{off, len_at}
use Rattle.words_scopes.proofs.Words as laws
use Rattle.words_scopes.proofs.records.Goals as goal

pub named-requires : goal.named-requires
named-requires c =
    let less : c.args.k + c.loop-i.i < get_or c.args.w.now 1 0 = omega (arith, c.min-e.ensures) in
    ((c.requires.0.0, less), c.loop-i.invariant.begins, omega (arith, laws.room _ c.requires.0.0 _ less, c.loop-i.invariant.begins))

pub overflow_add-o-in-loop-i-2 : goal.overflow_add-o-in-loop-i-2
overflow_add-o-in-loop-i-2 c =
    let less : c.args.k + c.loop-i.i < get_or c.args.w.now 1 0 = omega (arith, c.min-e.ensures) in
    omega (arith, laws.room _ c.requires.0.0 _ less, c.loop-i.invariant.begins)

pub loop-i-preserved : goal.loop-i-preserved
loop-i-preserved c =
    let w = c.args.w.now in
    let j = c.args.k + c.loop-i.i in
    let v = c.loop-i.invariant in
    let next : c.loop-i.o + len_at w j ≡ off w (j + 1) = omega (arith, v.begins, sum-next (λ (q : ℕ). len_at w q) j) in
    record {
      size = simp length-set v.size;
      begins = next ∙ ap (λ (q : ℕ). off w q) (omega arith);
      done = laws.record-put w c.args.k c.loop-i.i c.loop-i.bs _ (omega (arith, v.size, c.min-e.ensures)) (laws.record-eq refl c.named.ensures (yes-not_zero (get_or w (4112 + j * 10 + 4) 0))) v.done;
    }
