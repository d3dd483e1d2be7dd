-- Binding by binding, the oldest first. Assumes nothing.
use Rattle.std.proofs.Common.{◌≡◌, ℕ, suc, ◌+◌, ◌-◌, ◌*◌, ◌%◌, length, refl, ap, ◌∙◌, arith}
use Rattle.words_scopes.specs.State.{stack}
use Rattle.scope_values.proofs.Count.{depth_is}
use Rattle.scope_values.proofs.Listed.{becomes-self, becomes-then}
use Rattle.scope_child.specs.Hoist.{record_at, hoist_one, hoist_up, end_one, end_up}
use Rattle.scope_child.proofs.Hoist.{length_up, record_same}
use Rattle.scope_child.proofs.hoist_all.Goals as goal

pub loop-j-init : goal.loop-j-init
loop-j-init c =
    let w = c.args.w.now in
    let e : c.args.a - c.args.a ≡ 0 = omega arith in
    (c.requires.2, (λ i l h. refl, λ i l h. refl), rw e (becomes-self w (stack w) c.requires.0 refl), refl, rw e refl)

pub hoist_one-n-requires : goal.hoist_one-n-requires
hoist_one-n-requires c =
    let w₀ = c.args.w.now in
    let a = c.args.a in
    let j = c.loop-j.j in
    let i = c.loop-j.invariant in
    let w = c.loop-j.w in
    let s = ap length i.2.is ∙ length_up (λ k. record_at w₀ k) a (j - a) (stack w₀) in
    (i.2.good, omega (arith, depth_is w, depth_is w₀, s, c.requires.1), i.0, omega (arith, c.requires.4, i.3), rw (i.1.0 (4112 + j * 10) (omega arith) (omega (arith, c.requires.4))) (c.requires.5 j c.loop-j-test.true))

pub loop-j-preserved : goal.loop-j-preserved
loop-j-preserved c =
    let w₀ = c.args.w.now in
    let a = c.args.a in
    let j = c.loop-j.j in
    let i = c.loop-j.invariant in
    let w = c.loop-j.w in
    let e = c.hoist_one-n.ensures in
    let n : j + 1 - a ≡ suc (j - a) = omega arith in
    let q : a + (j - a) ≡ j = omega arith in
    let same = record_same w₀ w j (λ k l h. i.1.0 k l (omega (arith, c.requires.4))) (i.1.1 (8080 + j) (omega arith) (omega (arith, c.requires.4))) in
    let s : hoist_one (record_at w j) (stack w) ≡ hoist_up (λ k. record_at w₀ k) a (j + 1 - a) (stack w₀) = rw (n, q, same, i.2.is) refl in
    let t : end_up (λ k. record_at w₀ k) a (j + 1 - a) (stack w₀) ≡ end_up (λ k. record_at w₀ k) a (j - a) (stack w₀) + end_one (record_at w j) (stack w) = rw (n, q, same, i.2.is) refl in
    (e.2, (λ k l h. e.1.0 k (omega arith) h ∙ i.1.0 k (omega arith) h, λ k l h. e.1.1 k (omega arith) h ∙ i.1.1 k (omega arith) h), becomes-then i.2 (rw s at e.0), e.3 ∙ i.3, more c.loop-j.ended c.hoist_one-n.result (end_up (λ k. record_at w₀ k) a (j - a) (stack w₀)) (end_one (record_at w j) (stack w)) (end_up (λ k. record_at w₀ k) a (j + 1 - a) (stack w₀)) i.4 e.4 t)
  where
    more : (s r x y z : ℕ) → s ≡ x % 4294967296 → r ≡ y → z ≡ x + y → (s + r) % 4294967296 ≡ z % 4294967296
    more s r x y z p q t = omega (arith, p, q, t)

pub returns : goal.returns
returns c = let e : c.loop-j.j ≡ c.args.e = omega arith in (rw e at c.loop-j.invariant.2, rw e at c.loop-j.invariant.4)
