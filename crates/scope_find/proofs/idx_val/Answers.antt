-- The index in the current scope. Assumes nothing.
use Rattle.std.proofs.Common.{◌≡◌, ℕ, suc, ◌+◌, ◌-◌, get_or, ap, ◌∙◌, refl, arith}
use Rattle.words_scopes.specs.State.{index_in}
use Rattle.scope_find.specs.Look.{first, scope_at, idx_here}
use Rattle.scope_find.proofs.Facts as facts
use Rattle.scope_find.proofs.Out as out
use Rattle.scope_find.proofs.Placed as places
use Rattle.scope_find.proofs.idx_val.Goals as goal

pub returns-in_err-k : goal.returns-in_err-k
returns-in_err-k c = rw c.from_residual.ensures (ap (idx_here c.args.x) (out.none-open c.args.w.now (omega (arith, c.in_err-k.ensures))))

pub found_in-requires : goal.found_in-requires
found_in-requires c = ((c.requires, omega (arith, c.in_ok-k.ensures)), places.placed-current c.args.w.now c.args.x c.in_ok-k.k (omega (arith, c.in_ok-k.ensures)))

pub returns-in_err-b : goal.returns-in_err-b
returns-in_err-b c =
    let w = c.args.w.now in
    let x = c.args.x in
    let k = c.in_ok-k.k in
    rw c.from_residual-in_err-b.ensures (ap (idx_here x) (out.current w k c.requires (omega (arith, c.in_ok-k.ensures))) ∙ facts.idx-find 0 x (scope_at w k).bindings
    ∙ ap (facts.with_index (0 + index_in x (scope_at w k).bindings)) c.in_err-b.ensures.is)

pub returns : goal.returns
returns c =
    let w = c.args.w.now in
    let x = c.args.x in
    let k = c.in_ok-k.k in
    let b = c.in_ok-b.b in
    let i : ℕ = index_in x (scope_at w k).bindings in
    let e : suc b ≡ suc (first w k + i) = c.in_ok-b.ensures.index (omega arith) in
    let d : get_or w 2 0 - 1 ≡ k = omega (arith, c.in_ok-k.ensures) in
    let p : b - c.first_of.result ≡ i = omega (arith, c.first_of.ensures) in
    let q : first w (get_or w 2 0 - 1) + i ≡ b = ap (λ (n : ℕ). first w n + i) d ∙ omega arith in
    let z : 0 + i ≡ i = omega arith in
    ap (idx_here x) (out.current w k c.requires (omega (arith, c.in_ok-k.ensures))) ∙ facts.idx-find 0 x (scope_at w k).bindings
    ∙ ap (facts.with_index (0 + i)) c.in_ok-b.ensures.is ∙ rw (p, q, z) refl
