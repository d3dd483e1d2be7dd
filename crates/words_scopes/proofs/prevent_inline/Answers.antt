-- The pass through all bindings; a window of records is made where a mark is missing, and `o` is the sum of the lengths passed. Assumes nothing.
use Rattle.std.proofs.Common.{◌≡◌, ℕ, List, ◌+◌, ◌*◌, ◌<◌, ◌≤◌, take, length-take, get_or, sym, refl, ap, ◌∙◌, arith}
use Rattle.words.specs.Tab.{sum-next, sum-zero}
use Rattle.words_scopes.specs.State.{Good, off, len_at}
use Rattle.words_scopes.proofs.Words as laws
use Rattle.words_scopes.proofs.prevent_inline.Goals as goal
use Rattle.words_scopes.proofs.prevent_inline.Goals.{then-b, else-b}

-- where the loop has come to binding j: the words there stand for a state, with as many bindings, and the value of binding j begins at o
record Come (w₀ w : List ℕ) (j o : ℕ) : Type 0 where
  pub good : Good w
  pub many : get_or w 1 0 ≡ get_or w₀ 1 0
  pub this : j < get_or w 1 0
  pub begins : o ≡ off w j

come : {w₀ w : List ℕ} {x j o : ℕ} → Good w₀ → laws.Swept w₀ w x j → j < get_or w₀ 1 0 → o ≡ off w₀ j → Come w₀ w j o
come {w₀} {w} {x} {j} {o} g s h e =
    let n : get_or w 1 0 ≡ get_or w₀ 1 0 = s.kept.counts 1 (omega arith) (omega arith) in
    record {
      good = laws.swept-good g s (omega arith);
      many = n;
      this = omega arith;
      begins = e ∙ sym (laws.runs-off g s.runs j (omega (arith, g.count)));
    }

-- the length read there
read : (w : List ℕ) (p j : ℕ) → p ≡ 4112 + j * 10 → get_or w (p + 8) 0 ≡ len_at w j
read w p j e = ap (λ (q : ℕ). get_or w (q + 8) 0) e

pub loop-j-init : goal.loop-j-init
loop-j-init c =
    let w = c.args.w.now in
    record { within = omega arith; many = refl; swept = laws.swept-self w c.args.x 0 (λ q l. absurd (omega arith)); begins = sym (sum-zero (λ q. len_at w q)); here = refl }

pub to_mark-requires : goal.to_mark-requires
to_mark-requires c =
    let v = c.loop-j.invariant in
    let k = come c.requires v.swept c.loop-j-test.true v.begins in
    ((k.good, k.this), v.here, k.begins)

pub marks_of-bs-requires : goal.marks_of-bs-requires
marks_of-bs-requires c =
    let v = c.loop-j.invariant in
    let k = come c.requires v.swept c.loop-j-test.true v.begins in
    ((k.good, k.this), k.begins)

pub loop-b-init : goal.loop-b-init
loop-b-init c =
    let v = c.loop-j.invariant in
    let k = come c.requires v.swept c.loop-j-test.true v.begins in
    let s = laws.swept-on v.swept in
    record { at = omega arith; swept = s; begins = k.begins; ahead = laws.ahead-take c.loop-j.w c.args.x c.loop-j.j c.marks_of-bs.result (c.min-e.ensures ∙ omega (arith, k.many)) (laws.ahead-load s c.marks_of-bs.result c.marks_of-bs.ensures) }

pub overflow_add-o-in-loop-b-2 : goal.overflow_add-o-in-loop-b-2
overflow_add-o-in-loop-b-2 c =
    let v = c.loop-j.invariant in
    let u = c.loop-b.invariant in
    let k = come c.requires v.swept c.loop-j-test.true v.begins in
    let l : c.loop-b.j ≤ get_or c.loop-j.w 1 0 = omega (arith, c.min-e.ensures, k.many, u.at, length-take c.min-e.result c.marks_of-bs.result) in
    omega (arith, u.begins, laws.off-room c.loop-j.w k.good c.loop-b.j l, c.type_inv.w (4112 + c.loop-b.j * 10 + 8))

pub loop-b-preserved : goal.loop-b-preserved
loop-b-preserved c =
    let v = c.loop-j.invariant in
    let u = c.loop-b.invariant in
    let k = come c.requires v.swept c.loop-j-test.true v.begins in
    let w₁ = c.loop-j.w in
    let x = c.args.x in
    let items = take c.min-e.result c.marks_of-bs.result in
    let j = c.loop-b.j in
    let h : j < get_or w₁ 1 0 = omega (arith, c.min-e.ensures, k.many, u.at, length-take c.min-e.result c.marks_of-bs.result) in
    let this = laws.ahead-this w₁ x j c.loop-b.b-index items u.ahead (omega (arith, c.min-e.ensures, length-take c.min-e.result c.marks_of-bs.result)) h in
    let d : laws.Swept w₁ c.if-b.w x (j + 1) =
    elim c.if-b.branch [
      | then-b t ↦ rw t.w-is (laws.swept-hit k.good u.swept h (sym t.if-b.true ∙ this))
      | else-b t ↦ rw t.w-is (laws.swept-miss k.good u.swept h (sym t.if-b.false ∙ this))
    ] in
    let len : len_at c.if-b.w j ≡ len_at w₁ j = d.runs.lens j (omega (arith, k.good.count)) in
    let next : c.loop-b.o + len_at c.if-b.w j ≡ off w₁ (j + 1) = omega (arith, u.begins, sum-next (λ q. len_at w₁ q) j) in
    record { at = omega (arith, u.at); swept = d; begins = next; ahead = laws.ahead-next w₁ x j c.loop-b.b-index items u.ahead }

pub loop-j-preserved-then-to_mark : goal.loop-j-preserved-then-to_mark
loop-j-preserved-then-to_mark c =
    let v = c.loop-j.invariant in
    let u = c.loop-b.invariant in
    let j = c.loop-b.j in
    let l : j ≤ get_or c.args.w.now 1 0 = omega (arith, c.min-e.ensures, u.at, length-take c.min-e.result c.marks_of-bs.result) in
    record {
      within = l;
      many = refl;
      swept = laws.swept-then v.swept j (omega (arith, u.at)) l u.swept;
      begins = u.begins ∙ laws.runs-off c.requires v.swept.runs j (omega (arith, l, c.requires.count));
      here = refl;
    }

pub overflow_add-o-else-to_mark : goal.overflow_add-o-else-to_mark
overflow_add-o-else-to_mark c =
    let v = c.loop-j.invariant in
    let k = come c.requires v.swept c.loop-j-test.true v.begins in
    omega (arith, read c.loop-j.w c.loop-j.p c.loop-j.j v.here, k.begins, laws.room c.loop-j.w k.good c.loop-j.j k.this)

pub loop-j-preserved : goal.loop-j-preserved
loop-j-preserved c =
    let w₀ = c.args.w.now in
    let j = c.loop-j.j in
    let v = c.loop-j.invariant in
    let h = c.loop-j-test.true in
    let t = c.to_mark in
    let len : len_at c.loop-j.w j ≡ len_at w₀ j = v.swept.runs.lens j (omega (arith, h, c.requires.count)) in
    record {
      within = omega (arith, h);
      many = refl;
      swept = laws.swept_same c.requires v.swept h (laws.swept-not c.requires v.swept h t.result t.ensures c.if-to_mark.false);
      begins = omega (arith, v.begins, read c.loop-j.w c.loop-j.p j v.here, len, sum-next (λ q. len_at w₀ q) j);
      here = omega (arith, v.here);
    }

pub returns : goal.returns
returns c =
    let e : c.loop-j.j ≡ get_or c.args.w.now 1 0 = omega (arith, c.loop-j.invariant.within, c.loop-j-test.false) in
    laws.swept_all c.args.x c.requires (rw e at c.loop-j.invariant.swept)
