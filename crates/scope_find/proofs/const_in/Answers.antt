-- The constants of one scope. Assumes nothing.
use Rattle.std.proofs.Common.{◌≡◌, List, ℕ, suc, ◌+◌, ap, ◌∙◌, add-one, arith}
use Rattle.scope_find.specs.Look.{start, cfirst}
use Rattle.scope_find.proofs.Out as out
use Rattle.scope_find.proofs.const_in.Goals as goal

begin : (w : List ℕ) (k r : ℕ) → r ≡ start w k 2 3 → r ≡ cfirst w k
unfolding cfirst
begin w k r e = e

end : (w : List ℕ) (k r : ℕ) → r ≡ start w (k + 1) 2 3 → r ≡ cfirst w (suc k)
unfolding cfirst
end w k r e = e ∙ ap (λ n. start w n 2 3) (add-one k)

pub first_at-requires : goal.first_at-requires
first_at-requires c =
    let w = c.args.w.now in
    let k = c.args.k in
    let o = out.order w c.requires.0 k c.requires.1 in
    let l = out.first-le w c.requires.0 (suc k) (omega arith) in
    let b = begin w k _ c.start_of-a.ensures in
    let e = end w k _ c.start_of-e.ensures in
    (c.requires.0.long, omega arith, omega (arith, c.requires.0.ccount), omega arith, omega arith)

pub returns : goal.returns
returns c =
    let w = c.args.w.now in
    let k = c.args.k in
    c.is_some.ensures ∙ out.const-first w c.requires.0 k c.requires.1 c.args.x c.first_at.result (rw (begin w k _ c.start_of-a.ensures, end w k _ c.start_of-e.ensures) at c.first_at.ensures)
