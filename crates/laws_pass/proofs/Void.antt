-- The zero of the `void 0` that the pass writes has origin 0, which stays under a relabelling that keeps 0. Assumes nothing.
use mathlib.Core.Path.{◌≡◌, ap}
use Prim.Native.Nat.{ℕ}
use Rattle.def_pass.specs.Tree.{node, nil, cons, void_zero}
use Rattle.def_pass.specs.Relabel.{relabel}

pub same-void : (r : ℕ → ℕ) → r 0 ≡ 0 → relabel r void_zero ≡ void_zero
same-void r r0 = ap (λ n. node 30 0 0 (cons (node 22 0 n nil) nil)) r0
