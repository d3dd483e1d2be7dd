-- The first number of a range at which the test holds. Assumes nothing.
use Rattle.std.proofs.Common.{rules, ◌≡◌, ℕ, ◌+◌, ◌*◌, get_or}
use Rattle.std.proofs.lemmas.Iterator.{first_from_Range}
use borrow.Author.Tests.{tests}
use Rattle.words.proofs.first_at.Goals as goal

pub returns : goal.returns
returns c =
    let t = c.args.t in
    let Is : ℕ → Type 0 = λ k. get_or c.args.w.now (t.base + k * t.stride) 0 ≡ c.args.x in
    first_from_Range _ _ _ c.find.result Is (λ k. Is k → ⊥) c.find.ensures.ran (λ k f h. search (rules, tests)) (λ k f h. search (rules, tests))
