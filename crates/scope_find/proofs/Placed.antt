-- Where the innermost binding of an identifier is in the first scopes: what the index and the table of what is shadowed say of it. Assumes nothing.
use mathlib.Core.Path.{◌≡◌, refl, sym, ap, ◌∙◌}
use mathlib.Core.List.{List, ◌∷◌}
use mathlib.Core.Bool.{true, false}
use mathlib.Core.Option.{some}
use Prim.Native.Nat.{ℕ, zero, suc, ◌+◌, ◌-◌, ◌*◌, ◌≤◌, ◌<◌}
use native.Mathlib.Omega.{arith}
use lib.ListN.{length, get_or, take, drop, length-drop}
use lib.Seq.{get_or-drop}
use Rattle.def_pass.specs.Scope.{VarInfo, has_in, is_some, find_binding_from_current}
use Rattle.std.proofs.Common.{Option as Answer, Some, None}
use Rattle.words.specs.Place.{placed}
use Rattle.words.specs.Tab.{tab, length-tab, get_d-tab, take-tab}
use Rattle.words_scopes.specs.State.{bind_at, head_at, heads_at, heads, binds, stack, place, index_in, Good}
use Rattle.words_scopes.proofs.Split as laws
use Rattle.words_scopes.proofs.Index as index
use Rattle.scope_find.specs.Look.{first, scope_at, at_place, place_below, FoundIn}
use Rattle.scope_find.specs.Own.{Own}
use Rattle.scope_find.proofs.Out as out

-- all scopes
pub placed-all : (w : List ℕ) (x : ℕ) → place x (heads w) (binds w) ≡ place_below w x (get_or w 2 0)
unfolding place_below heads binds
placed-all w x = rw (out.first-end w (get_or w 2 0) (omega arith)) refl

module _ (w : List ℕ) (g : Good w) where
  -- scopes that begin behind the first n bindings
  past : (m k : ℕ) → get_or w 2 0 ≡ k + m → (i n : ℕ) → n ≤ first w k → place i (heads w) (tab n (λ j. bind_at w j)) ≡ place i (heads_at w k) (tab n (λ j. bind_at w j))
  unfolding heads heads_at
  past zero k e i n l = let q : get_or w 2 0 ≡ k = omega arith in ap (λ (d : ℕ). place i (heads_at w d) (tab n (λ j. bind_at w j))) q
  past (suc m) k e i n l =
      past m (suc k) (omega arith) i n (omega (arith, out.order w g k (omega arith)))
      ∙ index.place-past i (head_at w k) (heads_at w k) (tab n (λ j. bind_at w j)) (omega (arith, length-tab n (λ j. bind_at w j), out.first-in w k (omega arith)))

  module _ (k : ℕ) (h : k < get_or w 2 0) (x : ℕ) where
    abbrev e : ℕ
    e = first w (suc k)

    abbrev a : ℕ
    a = get_or w (7184 + k * 4 + 1) 0

    abbrev bs : List VarInfo
    bs = tab e (λ j. bind_at w j)

    abbrev p : ℕ
    p = place x (head_at w k ∷ heads_at w k) bs

    pub is-p : place_below w x (suc k) ≡ p
    unfolding place_below heads_at
    is-p = refl

    begin : (first w k ≡ a) × (a ≤ e) × (e ≤ get_or w 1 0)
    begin = (out.first-in w k h, omega (arith, out.first-in w k h, out.order w g k h), (out.first-le w g (suc k) (omega arith)).0)

    size : length bs ≡ e
    size = length-tab e (λ j. bind_at w j)

    below : take a bs ≡ tab (first w k) (λ j. bind_at w j)
    below = take-tab a e (λ j. bind_at w j) begin.1 ∙ ap (λ (n : ℕ). tab n (λ j. bind_at w j)) (sym begin.0)

    -- it stands in scope k, or further out
    within : first w k < p → has_in x (drop a bs) ≡ true
    within l = index.place_here_lem x (head_at w k) (heads_at w k) bs (omega (arith, begin.0))

    not_within : p ≤ first w k → has_in x (drop a bs) ≡ false
    not_within l = index.place-above x (head_at w k) (heads_at w k) bs (omega (arith, begin.0))

    found-there : first w k < p → FoundIn w k x p
    unfolding scope_at
    found-there l =
        let t = within l in
        let i : ℕ = index_in x (drop a bs) in
        let q : p ≡ suc (a + i) = laws.place-yes x (head_at w k) (heads_at w k) bs t in
        let lt : a + i < e = omega (arith, laws.index-lt x (drop a bs) t, length-drop a bs, size) in
        record {
          is = laws.in-found x (drop a bs) t ∙ ap some (get_or-drop a bs i laws.no_bind ∙ get_d-tab e (λ j. bind_at w j) (a + i) laws.no_bind lt) ∙ ap (at_place w) (sym q);
          index = λ z. omega (arith, q, begin.0);
          low = omega (arith, laws.place-le x (head_at w k ∷ heads_at w k) bs, size, begin.2);
        }

    found-not : p ≤ first w k → FoundIn w k x 0
    unfolding scope_at
    found-not l = record { is = laws.in-none x (drop a bs) (not_within l); index = λ z. absurd (omega arith); low = omega arith }

    -- by the innermost one in the scopes up to k, none or binding b
    pub found-none : 0 ≡ place_below w x (suc k) → FoundIn w k x 0
    found-none e = found-not (omega (arith, e ∙ is-p))

    module _ (b : ℕ) (e : suc b ≡ place_below w x (suc k)) where
      pub found-here : first w k ≤ b → FoundIn w k x (suc b)
      found-here l = rw (e ∙ is-p) (found-there (omega (arith, e ∙ is-p)))

      pub found-outer : b < first w k → FoundIn w k x 0
      found-outer l = found-not (omega (arith, e ∙ is-p))

    outer_same : p ≤ first w k → p ≡ place_below w x k
    unfolding place_below
    outer_same l = laws.place-no x (head_at w k) (heads_at w k) bs (not_within l) ∙ ap (place x (heads_at w k)) below

    -- none of it is in scope k: the same by what was found
    pub outer-none : has_in x (scope_at w k).bindings ≡ false → place_below w x (suc k) ≡ place_below w x k
    unfolding place_below heads_at scope_at
    outer-none n = laws.place-no x (head_at w k) (heads_at w k) bs n ∙ ap (place x (heads_at w k)) below

    -- the binding has kept what it shadows
    module _ (l : first w k < p) where
      abbrev j : ℕ
      j = p - 1

      j-in : j < e
      j-in = omega (arith, laws.place-le x (head_at w k ∷ heads_at w k) bs, size)

      name : get_or w (4112 + j * 10) 0 ≡ x
      name = ap (λ (b : VarInfo). b.id) (sym (get_d-tab e (λ k. bind_at w k) j laws.no_bind j-in)) ∙ index.place-id x (head_at w k) (heads_at w k) bs (omega (arith, begin.0))

      shadowed : get_or w (7824 + j) 0 ≡ place_below w x k
      unfolding place_below heads_at
      shadowed =
          g.beside.shadow j (omega (arith, j-in, begin.2)) ∙ ap (λ (i : ℕ). place i (heads w) (tab j (λ k. bind_at w k))) name
          ∙ past (get_or w 2 0 - suc k) (suc k) (omega arith) x j (omega (arith, j-in))
          ∙ ap (place x (head_at w k ∷ heads_at w k)) (sym (take-tab j e (λ k. bind_at w k) (omega (arith, j-in))))
          ∙ index.place-under x (head_at w k) (heads_at w k) bs (omega (arith, begin.0)) ∙ ap (place x (heads_at w k)) below

    -- binding b was found in it
    module _ (b : ℕ) (f : FoundIn w k x (suc b)) where
      has : has_in x (drop a bs) ≡ true
      unfolding scope_at
      has = ap is_some f.is

      there : p ≡ suc b
      unfolding scope_at
      there = laws.place-yes x (head_at w k) (heads_at w k) bs has ∙ omega (arith, f.index (omega arith), begin.0)

      pub own-place : place_below w x (suc k) ≡ suc b
      own-place = is-p ∙ there

      pub own-name : get_or w (4112 + b * 10) 0 ≡ x
      own-name = let q : p - 1 ≡ b = omega (arith, there) in rw q at name (omega (arith, f.index (omega arith), there))

    -- outside scope k
    pub outside-none : 0 ≡ place_below w x (suc k) → 0 ≡ place_below w x k
    outside-none e = e ∙ is-p ∙ outer_same (omega (arith, e ∙ is-p))

    module _ (b : ℕ) (e : suc b ≡ place_below w x (suc k)) where
      pub outside-same : b < first w k → suc b ≡ place_below w x k
      outside-same l = e ∙ is-p ∙ outer_same (omega (arith, e ∙ is-p))

      pub outside-fits : b < 256
      outside-fits = omega (arith, e ∙ is-p, laws.place-le x (head_at w k ∷ heads_at w k) bs, size, begin.2, g.count)

      pub outside-shadowed : first w k ≤ b → get_or w (7824 + b) 0 ≡ place_below w x k
      outside-shadowed l = let q : b ≡ p - 1 = omega (arith, e ∙ is-p) in rw q (shadowed (omega (arith, e ∙ is-p)))

-- scope k is the current one
pub placed-current : (w : List ℕ) (x k : ℕ) → suc k ≡ get_or w 2 0 → place x (heads w) (binds w) ≡ place_below w x (suc k)
placed-current w x k e = placed-all w x ∙ ap (place_below w x) (sym e)

-- its own binding
module _ (w : List ℕ) (g : Good w) (x k : ℕ) (e : suc k ≡ get_or w 2 0) where
  pub from-current : (r : ℕ) → FoundIn w k x r → find_binding_from_current x (stack w) ≡ at_place w r
  from-current r f = ap (find_binding_from_current x) (out.current w k g e) ∙ f.is

  pub own : (r : Answer ℕ) → FoundIn w k x (placed r) → Own w x r
  own None f = ap is_some (from-current 0 f)
  own (Some b) f =
      let l : k < get_or w 2 0 = omega arith in
      record { below = f.low; place = placed-current w x k e ∙ own-place w g k l x b f; named = own-name w g k l x b f; found = from-current (suc b) f }
