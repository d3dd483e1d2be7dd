-- A flag of the current scope. Assumes nothing.
use Rattle.std.proofs.Common.{◌≡◌, ℕ, suc, ◌+◌, ◌*◌, ◌-◌, get_or, sym, ap, ◌∙◌, arith}
use borrow.Author.Tests.{lt-leb}
use Rattle.def_pass.specs.Scope.{Stack}
use Rattle.words.specs.Layout.{yes}
use Rattle.scope_find.specs.Look.{first, scope_at, bars_here}
use Rattle.scope_find.proofs.Facts as facts
use Rattle.scope_find.proofs.Out as out
use Rattle.scope_find.proofs.bar.Goals as goal

pub returns-in_default : goal.returns-in_default
returns-in_default c = sym (ap (λ (st : Stack). bars_here st c.args.j) (out.none-open c.args.w.now (sym c.in_default.ensures)))

pub returns-then-j-eq0 : goal.returns-then-j-eq0
returns-then-j-eq0 c =
    let w = c.args.w.now in
    let k = c.in-Some.d in
    facts.flag (get_or w (7184 + k * 4 + 3) 0) ∙ sym (ap (λ (st : Stack). bars_here st c.args.j) (out.current w k c.requires c.in-Some.ensures) ∙ ap (scope_at w k).inline_barriers c.if-j-eq0.true ∙ facts.bar-first w k)

pub overflow_sub-w : goal.overflow_sub-w
overflow_sub-w c =
    let w = c.args.w.now in
    let l = out.first-le w c.requires c.in-Some.d (omega (arith, c.in-Some.ensures)) in
    omega (arith, c.first_of-a.ensures)

pub overflow_add-a : goal.overflow_add-a
overflow_add-a c =
    let w = c.args.w.now in
    let l = out.first-le w c.requires c.in-Some.d (omega (arith, c.in-Some.ensures)) in
    omega (arith, c.first_of-a.ensures, c.requires.count)

pub is_set-requires : goal.is_set-requires
is_set-requires c =
    let w = c.args.w.now in
    let l = out.first-le w c.requires c.in-Some.d (omega (arith, c.in-Some.ensures)) in
    ((c.requires, omega (arith, c.first_of-a.ensures)), omega arith)

pub returns-then-j-w : goal.returns-then-j-w
returns-then-j-w c =
    let w = c.args.w.now in
    let k = c.in-Some.d in
    let j = c.args.j in
    let f = out.first-in w k (omega (arith, c.in-Some.ensures)) in
    let n : first w (suc k) ≡ get_or w 1 0 = out.first-end w (suc k) (omega (arith, c.in-Some.ensures)) in
    let l = out.first-le w c.requires k (omega (arith, c.in-Some.ensures)) in
    let i : c.first_of-a.result + j - 1 ≡ get_or w (7184 + k * 4 + 1) 0 + (j - 1) = omega (arith, c.first_of-a.ensures) in
    c.is_set.ensures ∙ ap (λ (i : ℕ). yes (get_or w (4112 + i * 10 + 9) 0)) i
    ∙ sym (ap (λ (st : Stack). bars_here st j) (out.current w k c.requires c.in-Some.ensures) ∙ facts.bar-in w k j c.if-j-eq0.false (omega (arith, c.first_of-a.ensures)))

pub returns-else-j-w : goal.returns-else-j-w
returns-else-j-w c =
    let w = c.args.w.now in
    let k = c.in-Some.d in
    let f = out.first-in w k (omega (arith, c.in-Some.ensures)) in
    let n : first w (suc k) ≡ get_or w 1 0 = out.first-end w (suc k) (omega (arith, c.in-Some.ensures)) in
    lt-leb _ _ c.if-j-w.false
    ∙ sym (ap (λ (st : Stack). bars_here st c.args.j) (out.current w k c.requires c.in-Some.ensures) ∙ facts.bar-out w k c.args.j c.if-j-eq0.false (omega (arith, c.first_of-a.ensures)))
