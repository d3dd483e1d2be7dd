-- The numbers of the scopes outwards, as `rev` of a range gives them. Assumes nothing.
use mathlib.Core.Path.{◌≡◌, refl, sym, ap, subst, ◌∙◌}
use mathlib.Core.Bool.{Bool}
use mathlib.Core.List.{List, [], ◌∷◌}
use Prim.Native.Nat.{ℕ, zero, suc, ◌+◌, ◌-◌, ◌<◌}
use native.Mathlib.Omega.{arith}
use lib.ListN.{length}
use denote.Ref.{Bor}
use denote.Param.Members.{Mut}
use Rattle.std.proofs.Common.{Option, Some, None, MatchOption}
use Rattle.std.specs.declared.ops.Range.{Range}
use Rattle.std.specs.declared.iter.Rev.{Rev}
use Rattle.std.specs.Fn.{CalledAt}
use Rattle.std.specs.Iterator.{FindsItem}
use Rattle.std.specs.List.{find}
use Rattle.std.specs.Option.{option_map}
use Rattle.std.specs.Iterator.Adapters.{rev_source, rev_steps}
use Rattle.std.proofs.lemmas.Iterator.{YieldsList}
use Rattle.std.proofs.lemmas.Iterator.Search.{find_from_yields_List}
use Rattle.std.proofs.lemmas.Iterator.Splits.{YieldsList-from_shown_while}

-- n - 1 first, 0 last
abbrev pub down : ℕ → List ℕ
down zero = []
down (suc n) = n ∷ down n

-- a step of `rev`, of which a range loses its end
abbrev pub range_back : Range ℕ → Option ℕ → Range ℕ → Type 0
range_back s r t = (t.start ≡ s.start) × MatchOption r ((s.end - s.start ≡ 0) × (t.end ≡ s.end)) (λ x. (0 < s.end - s.start) × (x ≡ t.end) × (s.end ≡ t.end + 1))

abbrev pub left : Rev (Range ℕ) → ℕ
left s = (rev_source s).end

pub downwards : {s : Rev (Range ℕ)} (n : ℕ) → rev_source s ≡ record { start = 0; end = n } → YieldsList (rev_steps range_back) (λ x. x) s (down n)
downwards {s} n e = subst (λ (r : Range ℕ). YieldsList (rev_steps range_back) (λ x. x) s (down r.end)) e
    (YieldsList-from_shown_while (rev_steps range_back) (λ x. x) (λ u. down (left u)) (λ u. (rev_source u).start ≡ 0)
    (λ u t z p. let q : left u ≡ 0 = omega (arith, z, p.1.0) in ap (λ n. length (down n)) q)
    (λ u x t z p. let q : left u ≡ suc (left t) = omega (arith, p.1.2) in (p.0 ∙ z, ap down q ∙ ap (λ n. n ∷ down (left t)) (sym p.1.1)))
    s (ap (λ (r : Range ℕ). r.start) e))

-- `find` answers the first of them that passes
pub find_down : {F : Type 0} {g : Mut F (Bor ℕ × Unit {0}) Bool} {s : Rev (Range ℕ)} (n : ℕ) (test : ℕ → Bool) (u : Rev (Range ℕ)) (f : F) (r : Option ℕ)
    → FindsItem (rev_steps range_back) g s f r u → rev_source s ≡ record { start = 0; end = n } → ((x : ℕ) (b : Bool) (q : F) → CalledAt g f x b q → (q ≡ f) × (b ≡ test x)) → r ≡ find test (down n)
find_down n test u f r d e k = itself r ∙ find_from_yields_List test u f r d (downwards n e) k
  where
    itself : (r : Option ℕ) → r ≡ option_map (λ x. x) r
    itself None = refl
    itself (Some x) = refl
