-- The sum of the words of a table, as that of a list. Assumes nothing.
use Rattle.std.proofs.Common.{rules, ◌≡◌, ℕ, zero, suc, ◌+◌, ◌-◌, ◌*◌, get_or, refl, arith}
use Rattle.std.specs.List.{range_with_len, sum_by}
use Rattle.std.proofs.lemmas.Iterator.{YieldsList-from_range, YieldsList-from_map}
use Rattle.std.proofs.lemmas.Iterator.Adapters.{fits_from_length, at_most_from_yields_List}
use Rattle.std.proofs.lemmas.Iterator.Consumers.{sum_by_from_yields_List}
use Rattle.std.proofs.lemmas.List.FromFn.{length-range_with_len}
use Rattle.std.proofs.lemmas.List.Sums.{sum_by-cons}
use Rattle.words.specs.Tab.{sum, sum-next}
use Rattle.words.proofs.sum_at.Goals as goal

pub sum-requires-clause-fits : goal.sum-requires-clause-fits
sum-requires-clause-fits c =
    let a = c.args in
    let n : ℕ = a.e - a.a in
    fits_from_length _ _ 256 _ (at_most_from_yields_List (YieldsList-from_range a.a a.e n c.map.ensures.source refl) (omega (arith, length-range_with_len a.a n)))
    c.map.ensures.closure (omega arith) (λ x r q k. search rules)

-- the part of a sum from place a on, n places long
part : (f : ℕ → ℕ) (a n e : ℕ) → a + n ≡ e → sum f a + sum_by f (range_with_len a n) ≡ sum f e
part f a zero e h = let q : e ≡ a = omega arith in rw q (omega arith)
part f a (suc n) e h = omega (arith, sum_by-cons f a (range_with_len (a + 1) n), part f (a + 1) n e (omega arith), sum-next f a)

pub returns : goal.returns
returns c =
    let a = c.args in
    let f : ℕ → ℕ = λ k. get_or a.w.now (a.t.base + k * a.t.stride) 0 in
    let n : ℕ = a.e - a.a in
    let s : c.sum.result ≡ sum_by f (range_with_len a.a n) = sum_by_from_yields_List f (range_with_len a.a n) c.map.result c.sum.result c.sum.ensures.ran
    (YieldsList-from_map _ f (YieldsList-from_range a.a a.e n c.map.ensures.source refl) c.map.ensures.closure (λ x r q k. search rules)) in
    rw s (part f a.a n a.e (omega arith))
