-- The index says it. Assumes nothing.
use Rattle.std.proofs.Common.{ℕ, ◌-◌, ◌≤◌, ◌<◌, Option, Some, None, IfSome, SomeIff, get_or, arith}
use Rattle.words_scopes.proofs.Index.{indexed}
use Rattle.words_scopes.proofs.find_binding.Goals as goal

less-one : (n m : ℕ) (r : Option ℕ) → SomeIff r (1 ≤ n) (n - 1) → n ≤ m → IfSome r (λ k. k < m)
less-one n m None h l = tt
less-one n m (Some k) h l = omega arith

pub returns-clause-bound : goal.returns-clause-bound
returns-clause-bound c =
    let i = indexed c.args.w.now c.requires c.from.result (omega (arith, c.from.ensures)) in
    less-one _ (get_or c.args.w.now 1 0) _ c.checked_sub.ensures (omega (arith, i.1, c.from.ensures))
