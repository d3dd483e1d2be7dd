-- Row 9's sum from the current scope outwards: it stops exactly where the sum from the root inwards is over 512. Assumes nothing.
use mathlib.Core.Path.{◌≡◌, refl, sym, ap, ◌∙◌}
use mathlib.Core.Bool.{Bool, true, false}
use mathlib.Core.List.{List, [], ◌∷◌}
use Rattle.std.proofs.Common.{Option, Some, None, is_some}
use Rattle.std.specs.Bool.{then_some}
use mathlib.Core.Option as math
use Prim.Native.Nat.{ℕ, zero, suc, ◌+◌, ◌-◌, ◌*◌, ◌≤◌, ◌<◌}
use native.Mathlib.Omega.{arith}
use lib.ListN.{get_or, take, drop}
use lib.Dec.{ltb}
use borrow.Author.Tests.{ltb-true, ltb-false, lt-ltb, le-ltb}
use Rattle.def_tree.specs.Tree.{Tree}
use Rattle.def_pass.specs.Scope.{VarInfo, Scope, Stack, recorded_nodes}
use Rattle.words.specs.Tab.{tab, take-tab}
use Rattle.words_scopes.specs.State.{Good, bind_at, const_at, heads_at, off, coff, Fits, CFits}
use Rattle.words_scopes.proofs.Look.{outer, inner, outer-next}
use Rattle.scope_values.specs.Outwards.{nodes_here, one_more, stops_at, inwards, StopsExactly, StopsFirst}
use Rattle.scope_values.proofs.Count.{total, nodes_b, nodes_c, total-cut, values-in, values-of, upto-binds, upto-consts}

more-some : (o : Option ℕ) → is_some (one_more o) ≡ is_some o
more-some None = refl
more-some (Some k) = refl

exactly : (n : ℕ) (st : Stack) → is_some (stops_at n st) ≡ ltb 512 (n + inwards st)
exactly n [] = go (ltb 512 n) refl
  where
    go : (p : Bool) → ltb 512 n ≡ p → is_some {T = ℕ} (elim p [ true ↦ Some 0 | false ↦ None ]) ≡ ltb 512 (n + 0)
    go true e = sym (lt-ltb 512 (n + 0) (omega (arith, ltb-true 512 n e)))
    go false e = sym (le-ltb 512 (n + 0) (omega (arith, ltb-false 512 n e)))
exactly n (s ∷ st) = go (ltb 512 n) refl (exactly (n + nodes_here s) st)
  where
    go : (p : Bool) → ltb 512 n ≡ p → is_some (stops_at (n + nodes_here s) st) ≡ ltb 512 (n + nodes_here s + inwards st) → is_some {T = ℕ} (elim p [ true ↦ Some 0 | false ↦ one_more (stops_at (n + nodes_here s) st) ]) ≡ ltb 512 (n + (inwards st + nodes_here s))
    go true e k = sym (lt-ltb 512 (n + (inwards st + nodes_here s)) (omega (arith, ltb-true 512 n e)))
    go false e k = let f : n + nodes_here s + inwards st ≡ n + (inwards st + nodes_here s) = omega arith in more-some (stops_at (n + nodes_here s) st) ∙ k ∙ ap (ltb 512) f

inwards-is : (st : Stack) → inwards st ≡ recorded_nodes st
inwards-is [] = refl
inwards-is (s ∷ st) = omega (arith, inwards-is st)

pub stops-exactly : StopsExactly
stops-exactly n st = (exactly n st, inwards-is st)

-- the first one
was-more : (o : Option ℕ) (k : ℕ) → one_more o ≡ Some (suc k) → o ≡ Some k
was-more None k e = cc
was-more (Some j) k e = cc

never-zero : (o : Option ℕ) → one_more o ≡ Some 0 → ⊥
never-zero None e = let z : ◌≡◌ {A = ℕ} 0 1 = cc in omega arith
never-zero (Some j) e = let z : ◌≡◌ {A = ℕ} 0 1 = cc in omega arith

zero_is : (k : ℕ) → ◌≡◌ {A = Option ℕ} (Some 0) (Some k) → k ≡ 0
zero_is k e = cc

-- n is over 512 at once, or not yet
module _ (n : ℕ) where
  at_once : (k : ℕ) (st : Stack) → 512 < n → k ≡ 0 → (512 < n + inwards (take k st)) × ((j : ℕ) → j < k → n + inwards (take j st) ≤ 512)
  at_once k st h e = rw e (omega arith, λ j l. absurd (omega arith))

pub stops_first : StopsFirst
stops_first n k [] e = go (ltb 512 n) refl e
  where
    go : (p : Bool) → ltb 512 n ≡ p → ◌≡◌ {A = Option ℕ} (elim p [ true ↦ Some 0 | false ↦ None ]) (Some k) → (512 < n + inwards (take k [])) × ((j : ℕ) → j < k → n + inwards (take j []) ≤ 512)
    go true t q = at_once n k [] (ltb-true 512 n t) (zero_is k q)
    go false t q = absurd (let z : ◌≡◌ {A = ℕ} 0 1 = cc in omega arith)
stops_first n zero (s ∷ st) e = go (ltb 512 n) refl e
  where
    go : (p : Bool) → ltb 512 n ≡ p → ◌≡◌ {A = Option ℕ} (elim p [ true ↦ Some 0 | false ↦ one_more (stops_at (n + nodes_here s) st) ]) (Some 0) → (512 < n + 0) × ((j : ℕ) → j < 0 → n + inwards (take j (s ∷ st)) ≤ 512)
    go true t q = (omega (arith, ltb-true 512 n t), λ j l. absurd (omega arith))
    go false t q = absurd (never-zero (stops_at (n + nodes_here s) st) q)
stops_first n (suc k) (s ∷ st) e = go (ltb 512 n) refl e (λ q. stops_first (n + nodes_here s) k st (was-more (stops_at (n + nodes_here s) st) k q))
  where
    go : (p : Bool) → ltb 512 n ≡ p → ◌≡◌ {A = Option ℕ} (elim p [ true ↦ Some 0 | false ↦ one_more (stops_at (n + nodes_here s) st) ]) (Some (suc k))
        → (one_more (stops_at (n + nodes_here s) st) ≡ Some (suc k) → (512 < n + nodes_here s + inwards (take k st)) × ((j : ℕ) → j < k → n + nodes_here s + inwards (take j st) ≤ 512))
        → (512 < n + (inwards (take k st) + nodes_here s)) × ((j : ℕ) → j < suc k → n + inwards (take j (s ∷ st)) ≤ 512)
    go true t q r = absurd (let z : suc k ≡ 0 = zero_is (suc k) q in omega arith)
    go false t q r = (omega (arith, (r q).0), each)
      where
        each : (j : ℕ) → j < suc k → n + inwards (take j (s ∷ st)) ≤ 512
        each zero l = omega (arith, ltb-false 512 n t)
        each (suc j) l = omega (arith, (r q).1 j (omega arith))

next : (n : ℕ) (s : Scope) (st : Stack) → n ≤ 512 → stops_at n (s ∷ st) ≡ one_more (stops_at (n + nodes_here s) st)
next n s st h = rw (stops_at, le-ltb 512 n h) refl

-- the words: scope k, whose bindings end before e and its constants before c
module _ (w : List ℕ) (g : Good w) (k e c : ℕ) (f : Fits (heads_at w (suc k)) e) (h : CFits (heads_at w (suc k)) c) (l : e ≤ get_or w 1 0) (m : c ≤ get_or w 3 0) where
  abbrev a : ℕ
  a = get_or w (7184 + k * 4 + 1) 0

  abbrev b : ℕ
  b = get_or w (7184 + k * 4 + 2) 0

  pub begins : (a ≤ e) × (b ≤ c) × Fits (heads_at w k) a × CFits (heads_at w k) b
  unfolding heads_at
  begins = (f.0, h.0, f.1, h.1)

  here-nodes : off w a + coff w b + nodes_here (inner w k e c) ≡ off w e + coff w c
  here-nodes =
      let x : List VarInfo = tab e (λ j. bind_at w j) in
      let y : List (ℕ × math.Option Tree) = tab c (λ j. const_at w j) in
      let p = ap (total nodes_b) (take-tab a e (λ j. bind_at w j) begins.0) ∙ upto-binds w g a (omega (arith, begins.0)) in
      let q = ap (total nodes_c) (take-tab b c (λ j. const_at w j) begins.1) ∙ upto-consts w g b (omega (arith, begins.1)) in
      omega (arith, p, q, values-in (drop a x), values-of (drop b y), total-cut nodes_b a x, total-cut nodes_c b y, upto-binds w g e l, upto-consts w g c m)

  -- one scope more, of r nodes, where n are counted
  module _ (n r : ℕ) (sum : off w a + coff w b + r ≡ off w e + coff w c) where
    pub goes_on : n ≤ 512 → stops_at n (outer w (suc k) e c) ≡ one_more (stops_at (n + r) (outer w k a b))
    goes_on u = ap (stops_at n) (outer-next w k e c f h) ∙ next n (inner w k e c) (outer w k a b) u ∙ ap (λ (m : ℕ). one_more (stops_at (n + m) (outer w k a b))) here
      where
        here : nodes_here (inner w k e c) ≡ r
        here = omega (arith, here-nodes, sum)

-- n are over 512 at once
pub over-now : (n : ℕ) (st : Stack) → 512 < n → stops_at n st ≡ Some 0
over-now n [] h = rw (stops_at, lt-ltb 512 n h) refl
over-now n (s ∷ st) h = rw (stops_at, lt-ltb 512 n h) refl

-- i scopes are added already
abbrev pub later : ℕ → Option ℕ → Option ℕ
later i None = None
later i (Some k) = Some (i + k)

-- no scope is left behind the first i
pub at_end : (n i : ℕ) → later i (stops_at n []) ≡ then_some (ltb 512 n) i
at_end n i = go (ltb 512 n)
  where
    go : (p : Bool) → later i (elim p [ true ↦ Some 0 | false ↦ None ]) ≡ then_some p i
    go true = let e : i + 0 ≡ i = omega arith in ap Some e
    go false = refl

pub later-one : (i : ℕ) (o : Option ℕ) → later i (one_more o) ≡ later (i + 1) o
later-one i None = refl
later-one i (Some k) = let e : i + suc k ≡ i + 1 + k = omega arith in ap Some e

pub later-none : (o : Option ℕ) → later 0 o ≡ o
later-none None = refl
later-none (Some k) = let e : 0 + k ≡ k = omega arith in ap Some e

-- the answer says whether the sum is over 512
pub answers : (n old m : ℕ) (st : Stack) → n ≡ m - old → old ≤ m → old ≤ recorded_nodes st → is_some (stops_at n st) ≡ ltb 512 (recorded_nodes st - old + m)
answers n old m st e l h = let f : n + inwards st ≡ recorded_nodes st - old + m = omega (arith, inwards-is st) in exactly n st ∙ ap (ltb 512) f
