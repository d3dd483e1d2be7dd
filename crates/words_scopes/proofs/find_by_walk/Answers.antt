-- Scope by scope, innermost first: in a scope the oldest binding of the name. Assumes nothing.
use Rattle.std.proofs.Common.{◌≡◌, ℕ, suc, ◌+◌, ◌-◌, ◌*◌, ◌<◌, ◌≤◌, List, get_or, sym, refl, ap, ◌∙◌, arith}
use Rattle.words_scopes.specs.State.{Fits, heads_at, heads, binds, place}
use Rattle.words_scopes.proofs.Words.{up_to, step-hit, step-miss}
use Rattle.words_scopes.proofs.find_by_walk.Goals as goal

pub loop-k-init : goal.loop-k-init
unfolding heads binds
loop-k-init c = record { within = omega arith; fits = c.requires.fits; same = refl }

-- the scope that a turn looks at
scope_in : (w : List ℕ) (k e : ℕ) → 0 < k → Fits (heads_at w k) e → Fits (heads_at w (suc (k - 1))) e
scope_in w k e z f = let q : k ≡ suc (k - 1) = omega arith in rw q at f

begins : (w : List ℕ) (k e : ℕ) → Fits (heads_at w (suc k)) e → get_or w (7184 + k * 4 + 1) 0 ≤ e
unfolding heads_at
begins w k e f = f.0

pub first_at-requires : goal.first_at-requires
first_at-requires c =
    let b = begins c.args.w.now (c.loop-k.k - 1) c.loop-k.e (scope_in c.args.w.now c.loop-k.k c.loop-k.e c.loop-k-test.true c.loop-k.invariant.fits) in
    (c.requires.long, rw c.first_binding-a.ensures b, omega (arith, c.requires.count, c.loop-k.invariant.within), omega arith, omega arith)

pub returns-in-Some-clause-place : goal.returns-in-Some-clause-place
returns-in-Some-clause-place c =
    let w = c.args.w.now in
    let k = c.loop-k.k in
    let e = c.loop-k.e in
    let q : k ≡ suc (k - 1) = omega (arith, c.loop-k-test.true) in
    let h = rw c.first_binding-a.ensures at c.in-Some.ensures in
    let there = step-hit w c.args.x (k - 1) e c.in-Some.r (scope_in w k e c.loop-k-test.true c.loop-k.invariant.fits) h.0 h.3 h.1 h.2 in
    let same = c.loop-k.invariant.same ∙ ap (λ (n : ℕ). place c.args.x (heads_at w n) (up_to w e)) q ∙ there in
    omega (arith, same)

pub loop-k-preserved : goal.loop-k-preserved
loop-k-preserved c =
    let w = c.args.w.now in
    let k = c.loop-k.k in
    let e = c.loop-k.e in
    let q : k ≡ suc (k - 1) = omega (arith, c.loop-k-test.true) in
    let f = scope_in w k e c.loop-k-test.true c.loop-k.invariant.fits in
    let s = step-miss w c.args.x (k - 1) e e f (begins w (k - 1) e f) (rw c.first_binding-a.ensures at c.in_default.ensures) (omega arith) in
    rw c.first_binding-a.ensures (record {
      within = omega (arith, s.1, c.loop-k.invariant.within);
      fits = s.2;
      same = c.loop-k.invariant.same ∙ ap (λ (n : ℕ). place c.args.x (heads_at w n) (up_to w e)) q ∙ s.0;
    })

pub returns-clause-place : goal.returns-clause-place
unfolding heads_at
returns-clause-place c =
    let z : c.loop-k.k ≡ 0 = omega arith in
    sym (c.loop-k.invariant.same ∙ ap (λ (n : ℕ). place c.args.x (heads_at c.args.w.now n) (up_to c.args.w.now c.loop-k.e)) z)
