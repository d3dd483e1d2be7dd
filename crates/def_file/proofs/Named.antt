-- A number that names no kind; a kind is that of its number. Assumes nothing.
use Rattle.std.proofs.Common.{◌≡◌, ℕ, zero, suc, ◌<◌, ◌≤◌, refl, sym, ◌∙◌, arith}
use mathlib.Core.Logic.{inl, inr}
use lib.ListN.{get_or-eq_default}
use Rattle.def_file.specs.declared.kind.Kind.{Kind}
use Rattle.def_file.specs.declared.kind.Kind.TheVariants.{Invalid}
use Rattle.def_file.specs.Named.{Coded, kinds, kind_of, number_of}

pub invalid : (n : ℕ) → (0 < n → 49 ≤ n) → (Invalid n ≡ kind_of n) × (Coded (Invalid n) n)
invalid zero h = (refl, (refl, inl refl))
invalid (suc m) h = (sym (get_or-eq_default kinds (Invalid (suc m)) (h (omega arith))), (refl, inr (h (omega arith))))

-- a kind is that of its number
pub of-coded : (k : Kind) (n : ℕ) → Coded k n → k ≡ kind_of n
of-coded (Invalid m) n (e, inl z) = let y : m ≡ 0 = sym e ∙ z in rw (e, y) refl
of-coded (Invalid m) n (e, inr l) = let h : 49 ≤ m = omega (arith, e, l) in rw e (sym (get_or-eq_default kinds (Invalid m) h))
of-coded k n e = rw e refl

-- and has that number
pub numbered : (k : Kind) (n : ℕ) → Coded k n → number_of k ≡ n
numbered (Invalid m) n e = sym e.0
numbered k n e = sym e
