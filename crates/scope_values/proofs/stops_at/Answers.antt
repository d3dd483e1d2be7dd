-- Scope by scope, the current one first: the invariant is that the answer is that of the scopes left. Assumes nothing.
use Prim.Native.Nat.{ℕ, suc, ◌+◌, ◌*◌, ◌-◌, ◌<◌}
use mathlib.Core.List.{List}
use mathlib.Core.Path.{◌≡◌, refl, sym, ap, ◌∙◌}
use Rattle.std.proofs.Common.{Some}
use native.Mathlib.Omega.{arith}
use lib.ListN.{get_or}
use Rattle.words_scopes.specs.State.{Fits, CFits, heads_at, heads}
use Rattle.words_scopes.proofs.Look.{outer, outer-all}
use Rattle.scope_values.specs.Outwards.{stops_at}
use Rattle.scope_values.proofs.Outwards.{begins, goes_on, over-now, at_end, later, later-one, later-none}
use Rattle.scope_values.proofs.stops_at.Goals as goal

pub loop-k-init : goal.loop-k-init
unfolding heads
loop-k-init c =
    let w = c.args.w.now in
    let n = c.args.n in
    let q : get_or w 2 0 - get_or w 2 0 ≡ 0 = omega arith in (
      refl,
      omega arith,
      omega arith,
      c.requires.0.fits,
      c.requires.0.cfits,
      refl,
      ap (stops_at n) (outer-all w) ∙ sym (later-none (stops_at n (outer w (get_or w 2 0) (get_or w 1 0) (get_or w 3 0)))) ∙ ap (λ (m : ℕ). later m (stops_at n (outer w (get_or w 2 0) (get_or w 1 0) (get_or w 3 0)))) (sym q),
    )

-- the scopes before one that is left, by the one below
last : (w : List ℕ) (k e : ℕ) → 0 < k → Fits (heads_at w k) e → Fits (heads_at w (suc (k - 1))) e
last w k e z f = let q : k ≡ suc (k - 1) = omega arith in rw q at f

clast : (w : List ℕ) (k c : ℕ) → 0 < k → CFits (heads_at w k) c → CFits (heads_at w (suc (k - 1))) c
clast w k c z f = let q : k ≡ suc (k - 1) = omega arith in rw q at f

pub returns-then-sum-gt512 : goal.returns-then-sum-gt512
returns-then-sum-gt512 c =
    let w = c.args.w.now in
    let k = c.loop-k.k in
    let z : get_or w 2 0 - k + 0 ≡ get_or w 2 0 - 1 - (k - 1) = omega arith in
    sym (c.loop-k.invariant.6 ∙ ap (later (get_or w 2 0 - k)) (over-now c.loop-k.sum (outer w k c.loop-k.e c.loop-k.c) (omega arith)) ∙ ap Some z)

pub nodes_in-sum-requires : goal.nodes_in-sum-requires
nodes_in-sum-requires c =
    let w = c.args.w.now in
    let g = c.requires.0 in
    let v = c.loop-k.invariant in
    let z = c.loop-k-test.true in
    let t = begins w g (c.loop-k.k - 1) c.loop-k.e c.loop-k.c (last w c.loop-k.k c.loop-k.e z v.3) (clast w c.loop-k.k c.loop-k.c z v.4) v.1 v.2 in
    (g, omega (arith, g.depth), t.0, v.1, t.1, v.2)

pub loop-k-preserved : goal.loop-k-preserved
loop-k-preserved c =
    let w = c.args.w.now in
    let g = c.requires.0 in
    let v = c.loop-k.invariant in
    let z = c.loop-k-test.true in
    let k : ℕ = c.loop-k.k - 1 in
    let q : c.loop-k.k ≡ suc k = omega arith in
    let f = last w c.loop-k.k c.loop-k.e z v.3 in
    let h = clast w c.loop-k.k c.loop-k.c z v.4 in
    let t = begins w g k c.loop-k.e c.loop-k.c f h v.1 v.2 in
    let a = get_or w (7184 + k * 4 + 1) 0 in
    let b = get_or w (7184 + k * 4 + 2) 0 in
    let r = c.nodes_in-sum.result in
    let s = c.loop-k.sum in
    let i : ℕ = get_or w 2 0 - c.loop-k.k in
    let p : i + 1 ≡ get_or w 2 0 - k = omega arith in rw (c.first_binding-e.ensures, c.first_constant-c.ensures) (
      refl,
      omega arith,
      omega arith,
      t.2,
      t.3,
      omega arith,
      v.6 ∙ ap (λ (m : ℕ). later i (stops_at s (outer w m c.loop-k.e c.loop-k.c))) q
          ∙ ap (later i) (goes_on w g k c.loop-k.e c.loop-k.c f h v.1 v.2 s r c.nodes_in-sum.ensures (omega arith))
          ∙ later-one i (stops_at (s + r) (outer w k a b)) ∙ ap (λ (m : ℕ). later m (stops_at (s + r) (outer w k a b))) p,
    )

pub returns : goal.returns
unfolding heads_at
returns c =
    let w = c.args.w.now in
    let d = get_or w 2 0 in
    let z : c.loop-k.k ≡ 0 = omega arith in
    let y : d - c.loop-k.k ≡ d = omega arith in
    c.then_some.ensures ∙ sym (c.loop-k.invariant.6 ∙ ap (λ (m : ℕ). later m (stops_at c.loop-k.sum (outer w c.loop-k.k c.loop-k.e c.loop-k.c))) y ∙ ap (λ (m : ℕ). later d (stops_at c.loop-k.sum (outer w m c.loop-k.e c.loop-k.c))) z ∙ at_end c.loop-k.sum d)
