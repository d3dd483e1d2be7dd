-- A result is 200 deep at most and has 1,024 nodes at most. Assumes nothing.
use mathlib.Core.Path.{◌≡◌, refl, sym, ap, subst}
use Prim.Native.Nat.{ℕ, suc, ◌+◌, ◌-◌, ◌≤◌}
use native.Mathlib.Omega.{arith}
use borrow.Author.Tests.{ltb-false}
use Rattle.def_pass.specs.Tree.{Tree, Forest, nil, cons, kids, count, height, heights}
use Rattle.def_pass.specs.Twice.{twice, flagged}
use Rattle.def_pass.specs.Walk as Walk
use Rattle.laws_pass.specs.Small.{SmallOut, StaysSmall}
use Rattle.laws_pass.proofs.Effects.{GF, VF, Passed, pass-does}
use Rattle.laws_pass.proofs.Flags.{flag-height, flag-count}
use Rattle.laws_pass.proofs.TreeLaws as trees
use Rattle.laws_pass.proofs.TreeLaws.{TreeLaw, TreeEffects}
use Rattle.laws_pass.proofs.StateLaws as states
use Rattle.laws_pass.proofs.StateLaws.{StateLaw, StateEffects}

-- the state's number of nodes is that of the tree, as long as it began so
abbrev nodes : StateLaw
nodes = record { Inv = λ s. s.nodes ≤ 1024; Move = λ m s n s'. m ≤ s.nodes → s'.nodes + m ≡ s.nodes + n; Stop = λ n. Unit {0} }

counted : StateEffects nodes
unfolding Walk.restore
counted = record {
  s-refl = λ n s h. refl;
  s-trans = λ l m n a b c h k x. step l m n a.nodes b.nodes c.nodes x (h x) k;
  s-frame = λ k m n a b h x. beside k m n a.nodes b.nodes x h;
  eight = tt;
  nine = tt;
  recount = λ t e s o h. (ltb-false 1024 ((s.nodes + count e) - count t) h, λ x. omega arith);
  leave = λ n e s o. (omega (arith, o), λ x. omega (arith, x));
  write = λ i g force n s o. (o, λ x. refl);
  declare = λ again i v u k n s o. (o, λ x. refl);
  const = λ i v n s o. (o, λ x. refl);
  prevent = λ i n s o. (o, λ x. refl);
  read = λ i g n s o. (o, λ x. refl);
  store = λ i v n s o. (o, λ x. refl);
  sensitive = λ i n s o. (o, λ x. refl);
  barrier = λ n s o. (o, λ x. refl);
  tally = λ i n s f o. (o, λ x. refl);
  opened = λ k s o. o;
  closed = λ k m n s s' o o' h. (o', h);
  fields = λ n s s' e o. (subst (λ (x : ℕ). x ≤ 1024) (sym e.1) o, λ x. ap (λ (y : ℕ). y + n) e.1);
}
  where
    step : (l m n a b c : ℕ) → l ≤ a → b + l ≡ a + m → (m ≤ b → c + m ≡ b + n) → c + l ≡ a + n
    step l m n a b c x e k = omega (arith, x, e, k (omega (arith, x, e)))

    beside : (k m n a b : ℕ) → k + m ≤ a → (m ≤ a → b + m ≡ a + n) → b + (k + m) ≡ a + (k + n)
    beside k m n a b x h = omega (arith, x, h (omega (arith, x)))

-- tree depth and height together
abbrev flat : TreeLaw
flat = record { Good = λ p t. p + height t ≤ 201; Val = λ t. Unit {0}; Rel = λ t u. Unit {0}; Tells = ⊥ }

low : (p : ℕ) (ts : Forest) → p + heights ts ≤ 201 → GF (trees.law flat) p ts
low p nil h = tt
low p (cons t ts) h = (omega (arith, h), low p ts (omega (arith, h)))

high : (p : ℕ) (ts : Forest) → p ≤ 201 → GF (trees.law flat) p ts → p + heights ts ≤ 201
high p nil h g = omega (arith, h)
high p (cons t ts) h g = omega (arith, g.0, high p ts h g.1)

vals : (ts : Forest) → VF (trees.law flat) ts
vals nil = tt
vals (cons t ts) = (tt, vals ts)

shallow : TreeEffects flat
shallow = record {
  q-refl = λ t. tt;
  q-trans = λ t u v h k. tt;
  kids = λ p k f a ts o. low (suc p) ts (omega (arith, o));
  around = λ p k f a ts us o h q e. (under p (heights us) (high (suc p) us (omega (arith, o)) h), tt);
  body = λ p k f a ts e. absurd e;
  init = λ p k f a n es e o. vals es;
  taken = λ p k f a n e es h o. (omega (arith, o), tt);
  bound = λ p t o h. tt;
  cheap = λ p t o h. tt;
  void = tt;
  replaced = λ p t e o i v h. (ltb-false 201 (p + height e) h, tt);
}
  where
    under : (p h : ℕ) → suc p + h ≤ 201 → p + (1 + h) ≤ 201
    under p h x = omega (arith, x)

out : (t : Tree) (o : Walk.Outcome) → Passed (states.law nodes) (flagged t) (Walk.start t) o → Passed (trees.law flat) (flagged t) (Walk.start t) o → SmallOut o
out t (Walk.refused n) h k = tt
out t (Walk.result r c u ms) h k =
    let e = h.moved (omega (arith, flag-count (twice (kids t)) t)) in
    (omega (arith, k.good), omega (arith, e, h.inv, flag-count (twice (kids t)) t))

pub stays-small : StaysSmall
stays-small n t h = out t (Walk.core_pass n t) (pass-does (states.law nodes) (states.effects nodes counted) n t tt h.1) (pass-does (trees.law flat) (trees.effects flat shallow) n t (omega (arith, h.0, flag-height (twice (kids t)) t)) (trees.started flat t))
