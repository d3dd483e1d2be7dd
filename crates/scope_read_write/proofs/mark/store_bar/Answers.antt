-- Behind the last binding, or before the first. Assumes nothing.
use Prim.Native.Nat.{suc}
use mathlib.Core.Path.{◌≡◌, ap, ◌∙◌}
use native.Mathlib.Numerals.{add-one}
use native.Mathlib.Omega.{arith}
use Rattle.scope_find.specs.Look.{first}
use Rattle.scope_find.proofs.Touch as touch
use Rattle.scope_find.proofs.Out as out
use Rattle.scope_read_write.proofs.mark.store_bar.Goals as goal

pub overflow_mul-w : goal.overflow_mul-w
overflow_mul-w c =
    let w = c.args.w.now in
    let k = c.args.k in
    let e : c.first_of-e.result ≡ first w (suc k) = c.first_of-e.ensures ∙ ap (first w) (add-one k) in
    let l = out.first-le w c.requires.0 (suc k) (omega arith) in
    omega (arith, c.requires.0.long, c.requires.0.count)

pub overflow_add-w : goal.overflow_add-w
overflow_add-w c =
    let w = c.args.w.now in
    let k = c.args.k in
    let e : c.first_of-e.result ≡ first w (suc k) = c.first_of-e.ensures ∙ ap (first w) (add-one k) in
    let l = out.first-le w c.requires.0 (suc k) (omega arith) in
    omega (arith, c.requires.0.long, c.requires.0.count)

pub overflow_add-w-then-a-e : goal.overflow_add-w-then-a-e
overflow_add-w-then-a-e c =
    let w = c.args.w.now in
    let k = c.args.k in
    let e : c.first_of-e.result ≡ first w (suc k) = c.first_of-e.ensures ∙ ap (first w) (add-one k) in
    let l = out.first-le w c.requires.0 (suc k) (omega arith) in
    omega (arith, c.requires.0.long, c.requires.0.count)

pub offset_bounds-w-e : goal.offset_bounds-w-e
offset_bounds-w-e c =
    let w = c.args.w.now in
    let k = c.args.k in
    let e : c.first_of-e.result ≡ first w (suc k) = c.first_of-e.ensures ∙ ap (first w) (add-one k) in
    let l = out.first-le w c.requires.0 (suc k) (omega arith) in
    omega (arith, c.requires.0.long, c.requires.0.count)

pub bounds-w-e : goal.bounds-w-e
bounds-w-e c =
    let w = c.args.w.now in
    let k = c.args.k in
    let e : c.first_of-e.result ≡ first w (suc k) = c.first_of-e.ensures ∙ ap (first w) (add-one k) in
    let l = out.first-le w c.requires.0 (suc k) (omega arith) in
    omega (arith, c.requires.0.long, c.requires.0.count)

pub returns-then-a-e : goal.returns-then-a-e
returns-then-a-e c =
    let w = c.args.w.now in
    let k = c.args.k in
    let e : c.first_of-e.result ≡ first w (suc k) = c.first_of-e.ensures ∙ ap (first w) (add-one k) in
    let l = out.first-le w c.requires.0 (suc k) (omega arith) in
    rw e (touch.bar-last w c.requires.0 k c.requires.1 (omega (arith, c.first_of-a.ensures)))

pub returns-else-a-e : goal.returns-else-a-e
returns-else-a-e c =
    let w = c.args.w.now in
    let k = c.args.k in
    let e : c.first_of-e.result ≡ first w (suc k) = c.first_of-e.ensures ∙ ap (first w) (add-one k) in
    let l = out.first-le w c.requires.0 (suc k) (omega arith) in
    touch.bar-empty w c.requires.0 k c.requires.1 (omega (arith, c.first_of-a.ensures))
