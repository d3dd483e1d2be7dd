-- A running pass refuses by 8 or 9 alone. Assumes nothing.
use Prim.Native.Nat.{ℕ, ◌≤◌}
use native.Mathlib.Omega.{arith}
use Rattle.def_pass.specs.Tree.{Tree}
use Rattle.def_pass.specs.Walk as Walk
use Rattle.def_pass.specs.Walk.{St}
use Rattle.laws_pass.proofs.Effects.{Passed, runs-do}
use Rattle.laws_pass.proofs.StateLaws.{StateLaw, StateEffects, law, effects}

abbrev pub Low : Walk.Outcome → Type 0
Low (Walk.refused n) = (8 ≤ n) × (n ≤ 9)
Low (Walk.result k c t ms) = Unit {0}

abbrev pub low : StateLaw
low = record { Inv = λ s. Unit {0}; Move = λ m s n s'. Unit {0}; Stop = λ n. (8 ≤ n) × (n ≤ 9) }

pub lows : StateEffects low
lows = record {
  s-refl = λ n s. tt;
  s-trans = λ l m n a b c h k. tt;
  s-frame = λ k m n a b h. tt;
  eight = (omega arith, omega arith);
  nine = (omega arith, omega arith);
  recount = λ t e s o h. (tt, tt);
  leave = λ n e s o. (tt, tt);
  write = λ i g force n s o. (tt, tt);
  declare = λ again i v u k n s o. (tt, tt);
  const = λ i v n s o. (tt, tt);
  prevent = λ i n s o. (tt, tt);
  read = λ i g n s o. (tt, tt);
  store = λ i v n s o. (tt, tt);
  sensitive = λ i n s o. (tt, tt);
  barrier = λ n s o. (tt, tt);
  tally = λ i n s f o. (tt, tt);
  opened = λ k s o. tt;
  closed = λ k m n s s' o o' h. (tt, tt);
  fields = λ n s s' e o. (tt, tt);
}

out : (t : Tree) (s : St) (o : Walk.Outcome) → Passed (law low) t s o → Low o
out t s (Walk.refused n) h = h
out t s (Walk.result k c u ms) h = tt

pub runs-low : (n k : ℕ) (t : Tree) (s : St) → Low (Walk.runs n k t s)
runs-low n k t s = out t s (Walk.runs n k t s) (runs-do (law low) (effects low lows) n k t s tt tt)
