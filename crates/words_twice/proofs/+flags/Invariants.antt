-- Node by node; a function by two calls, its name with what is declared outside and the rest with its own. Assumes nothing.
use Rattle.std.specs.Prelude.{Bool, ℕ, ◌-◌}
use Rattle.words_twice.specs.Twice.{Tells}
use Rattle.words_twice.proofs.Steps as steps
use Rattle.words_twice.proofs.+flags.Given as goal

abbrev pub decreases-flags : goal.decreases-flags
decreases-flags l = 1024 - l.i

abbrev pub invariant-loop-more : goal.invariant-loop-more
invariant-loop-more l = (b : ℕ → Bool) → Tells l.seen b → steps.Flagging b l.fn.w l.w l.fn.n l.fn.i l.at l.more

abbrev pub decreases-loop-more : goal.decreases-loop-more
decreases-loop-more l = 1024 - l.at
