-- The walk through the scopes from the current one outwards, or from the root inwards. Assumes nothing.
use mathlib.Core.Path.{◌≡◌, refl, sym, ap, ◌∙◌}
use mathlib.Core.List.{List, [], ◌∷◌, map}
use mathlib.Core.Bool.{Bool, true, false, ◌||◌}
use mathlib.Core.Option.{Option, none, some}
use Rattle.std.proofs.Common.{Option as Answer, Some, None, is_some as holds}
use Rattle.words.specs.Place.{placed, FirstAt}
use Prim.Native.Nat.{ℕ, zero, suc, ◌+◌, ◌-◌, ◌*◌, ◌≤◌, ◌<◌}
use native.Mathlib.Omega.{arith}
use borrow.Author.Tests.{eq-eqb, ne_eqb, lt-ltb, le-ltb}
use lib.ListN.{length, get_or, drop, length-drop}
use lib.Dec.{eqb}
use lib.Seq.{get_or-drop}
use Rattle.def_tree.specs.Tree.{Tree}
use Rattle.def_pass.specs.Scope.{ScopeKind, cond, loop, block, fn, Scope, Stack, is_fn, is_loop, is_block, is_some, has_in, const_in, write_prevents_inline, in_loop}
use Rattle.words.specs.Tab.{tab, length-tab, get_d-tab}
use Rattle.words_scopes.specs.declared.kinds.ScopeKind.{ScopeKind as Kind}
use Rattle.words_scopes.specs.declared.kinds.ScopeKind.TheVariants.{Cond, Loop, Block, Fn}
use Rattle.words_scopes.specs.Kinds.{kind_of}
use Rattle.words_scopes.specs.State.{const_at, heads_at, heads, stack, Fits, CFits, Good}
use Rattle.words_scopes.proofs.Split as laws
use Rattle.words_scopes.proofs.Look as outwards
use Rattle.std.specs.List.{find}
use Rattle.scope_find.proofs.Down.{down}
use Rattle.scope_find.specs.Look.{first, cfirst, scope_at, below, at_place, FoundIn}

abbrev pub no_const : ℕ × Option Tree
no_const = (0, none)

-- a constant among others
module _ (x : ℕ) (c : ℕ × Option Tree) (cs : List (ℕ × Option Tree)) where
  pub const-is : eqb c.0 x ≡ true → is_some (const_in x (c ∷ cs)) ≡ true
  const-is e = ap (λ (p : Bool). is_some {A = Option Tree} (elim p [ true ↦ some c.1 | false ↦ const_in x cs ])) e

  pub const-not : eqb c.0 x ≡ false → is_some (const_in x (c ∷ cs)) ≡ is_some (const_in x cs)
  const-not e = ap (λ (p : Bool). is_some {A = Option Tree} (elim p [ true ↦ some c.1 | false ↦ const_in x cs ])) e

pub const-yes : (x : ℕ) (cs : List (ℕ × Option Tree)) (r : ℕ) → r < length cs → (get_or cs r no_const).0 ≡ x → is_some (const_in x cs) ≡ true
const-yes x [] r h e = absurd (omega arith)
const-yes x (c ∷ cs) zero h e = const-is x c cs (eq-eqb c.0 x e)
const-yes x (c ∷ cs) (suc r) h e = laws.tested (eqb c.0 x) (const-is x c cs) (λ q. const-not x c cs q ∙ const-yes x cs r (omega arith) e)

pub const-no : (x : ℕ) (cs : List (ℕ × Option Tree)) → ((j : ℕ) → j < length cs → (get_or cs j no_const).0 ≡ x → ⊥) → is_some (const_in x cs) ≡ false
const-no x [] m = refl
const-no x (c ∷ cs) m = const-not x c cs (ne_eqb c.0 x (m 0 (omega arith))) ∙ const-no x cs (λ j l. m (suc j) (omega arith))

module _ (w : List ℕ) where
  pub first-in : (k : ℕ) → k < get_or w 2 0 → first w k ≡ get_or w (7184 + k * 4 + 1) 0
  unfolding first
  first-in k h = rw (lt-ltb k (get_or w 2 0) h) refl

  pub cfirst-in : (k : ℕ) → k < get_or w 2 0 → cfirst w k ≡ get_or w (7184 + k * 4 + 2) 0
  unfolding cfirst
  cfirst-in k h = rw (lt-ltb k (get_or w 2 0) h) refl

  pub first-end : (k : ℕ) → get_or w 2 0 ≤ k → first w k ≡ get_or w 1 0
  unfolding first
  first-end k h = rw (le-ltb k (get_or w 2 0) h) refl

  pub cfirst-end : (k : ℕ) → get_or w 2 0 ≤ k → cfirst w k ≡ get_or w 3 0
  unfolding cfirst
  cfirst-end k h = rw (le-ltb k (get_or w 2 0) h) refl

  -- all scopes
  pub below_all : stack w ≡ below w (get_or w 2 0)
  unfolding below
  below_all = outwards.outer-all w ∙ rw (first-end (get_or w 2 0) (omega arith), cfirst-end (get_or w 2 0) (omega arith)) refl

module _ (w : List ℕ) (g : Good w) where
  -- m scopes are open from scope k on
  fits-from : (m k : ℕ) → get_or w 2 0 ≡ k + m → Fits (heads_at w k) (first w k) × CFits (heads_at w k) (cfirst w k)
  unfolding heads heads_at
  fits-from zero k e =
      let q : get_or w 2 0 ≡ k = omega arith in
      rw (first-end w k (omega arith), cfirst-end w k (omega arith), ← q) (g.fits, g.cfits)
  fits-from (suc m) k e =
      let t = fits-from m (suc k) (omega arith) in
      rw (first-in w k (omega arith), cfirst-in w k (omega arith)) (t.0.1, t.1.1)

  pub fits-at : (k : ℕ) → k ≤ get_or w 2 0 → Fits (heads_at w k) (first w k) × CFits (heads_at w k) (cfirst w k)
  fits-at k h = fits-from (get_or w 2 0 - k) k (omega arith)

  module _ (k : ℕ) (h : k < get_or w 2 0) where
    fits : Fits (heads_at w (suc k)) (first w (suc k)) × CFits (heads_at w (suc k)) (cfirst w (suc k))
    fits = fits-at (suc k) (omega arith)

    pub order : (first w k ≤ first w (suc k)) × (cfirst w k ≤ cfirst w (suc k))
    unfolding heads_at
    order = rw (first-in w k h, cfirst-in w k h) (fits.0.0, fits.1.0)

    pub below_next : below w (suc k) ≡ scope_at w k ∷ below w k
    unfolding below scope_at
    below_next = outwards.outer-next w k (first w (suc k)) (cfirst w (suc k)) fits.0 fits.1 ∙ rw (first-in w k h, cfirst-in w k h) refl

    -- x is among its constants at r, and not before; or not at all
    module _ (x r : ℕ) (low : cfirst w k ≤ r) (miss : (j : ℕ) → cfirst w k ≤ j → j < r → get_or w (6672 + j * 2) 0 ≡ x → ⊥) where
      abbrev ce : ℕ
      ce = cfirst w (suc k)

      abbrev ca : ℕ
      ca = get_or w (7184 + k * 4 + 2) 0

      abbrev cs : List (ℕ × Option Tree)
      cs = drop ca (tab ce (λ j. const_at w j))

      at : (j : ℕ) → ca + j < ce → (get_or cs j no_const).0 ≡ get_or w (6672 + (ca + j) * 2) 0
      at j l = ap (λ (c : ℕ × Option Tree). c.0) (get_or-drop ca (tab ce (λ j. const_at w j)) j no_const ∙ get_d-tab ce (λ j. const_at w j) (ca + j) no_const l)

      size : length cs ≡ ce - ca
      size = length-drop ca (tab ce (λ j. const_at w j)) ∙ ap (λ (n : ℕ). n - ca) (length-tab ce (λ j. const_at w j))

      const-hit : r < ce → get_or w (6672 + r * 2) 0 ≡ x → is_some (const_in x (scope_at w k).constants) ≡ true
      unfolding scope_at
      const-hit l q =
          let c : ca ≤ r = rw (cfirst-in w k h) at low in
          let s : ca + (r - ca) ≡ r = omega arith in
          const-yes x cs (r - ca) (omega (arith, size)) (at (r - ca) (omega arith) ∙ rw s q)

      const-miss : ce ≤ r → is_some (const_in x (scope_at w k).constants) ≡ false
      unfolding scope_at
      const-miss l =
          let m : (j : ℕ) → ca ≤ j → j < r → get_or w (6672 + j * 2) 0 ≡ x → ⊥ = rw (cfirst-in w k h) at miss in
          const-no x cs (λ j a q. let b : ca + j < ce = omega (arith, size) in m (ca + j) (omega arith) (omega arith) (sym (at j b) ∙ q))

    -- by the first one, if there is one
    pub const-first : (x : ℕ) (r : Answer ℕ) → FirstAt w 6672 2 (cfirst w k) (cfirst w (suc k)) x r → holds r ≡ is_some (const_in x (scope_at w k).constants)
    const-first x None m = sym (const-miss x (cfirst w (suc k)) order.1 m (omega arith))
    const-first x (Some r) f = sym (const-hit x r f.0 f.3 f.1 f.2)

-- no scope begins behind the last record
module _ (w : List ℕ) (g : Good w) where
  le_from : (m k : ℕ) → get_or w 2 0 ≡ k + m → (first w k ≤ get_or w 1 0) × (cfirst w k ≤ get_or w 3 0)
  le_from zero k e = rw (first-end w k (omega arith), cfirst-end w k (omega arith)) (omega arith, omega arith)
  le_from (suc m) k e =
      let t = le_from m (suc k) (omega arith) in
      let o = order w g k (omega arith) in
      (omega arith, omega arith)

  pub first-le : (k : ℕ) → k ≤ get_or w 2 0 → (first w k ≤ get_or w 1 0) × (cfirst w k ≤ get_or w 3 0)
  first-le k h = le_from (get_or w 2 0 - k) k (omega arith)

-- one turn outwards
pub turn : (w : List ℕ) (k : ℕ) → Good w → 0 < k → k ≤ get_or w 2 0 → below w k ≡ scope_at w (k - 1) ∷ below w (k - 1)
turn w k g z h = let e : k ≡ suc (k - 1) = omega arith in ap (below w) e ∙ below_next w g (k - 1) (omega arith)

pub below_none : (w : List ℕ) → below w 0 ≡ []
unfolding below heads_at
below_none w = refl

pub below_end : (w : List ℕ) (k : ℕ) → k ≡ 0 → below w k ≡ []
below_end w k e = ap (below w) e ∙ below_none w

-- no scope is open; or scope k is the current one
pub none-open : (w : List ℕ) → get_or w 2 0 ≡ 0 → stack w ≡ []
none-open w z = below_all w ∙ below_end w (get_or w 2 0) z

pub current : (w : List ℕ) (k : ℕ) → Good w → suc k ≡ get_or w 2 0 → stack w ≡ scope_at w k ∷ below w k
current w k g e = below_all w ∙ ap (below w) (sym e) ∙ below_next w g k (omega arith)

-- a scope's kind
pub block_other : (t : Kind) → (t ≡ Block → ⊥) → is_block (kind_of t) ≡ false
block_other Cond h = refl
block_other Loop h = refl
block_other Block h = absurd (h refl)
block_other (Fn b) h = refl

-- is there one, by the place found
pub at_holds : (w : List ℕ) (r : Answer ℕ) → is_some (at_place w (placed r)) ≡ holds r
at_holds w None = refl
at_holds w (Some k) = refl

pub has-it : {w : List ℕ} {k x : ℕ} {b : Bool} (r : Answer ℕ) → FoundIn w k x (placed r) → b ≡ holds r → has_in x (scope_at w k).bindings ≡ b
has-it {w} r f e = ap is_some f.is ∙ at_holds w r ∙ sym e

-- the definition's functions at one more scope, by what is found in it
module _ (x : ℕ) (s : Scope) (st : Stack) where
  pub writes-here : has_in x s.bindings ≡ true → write_prevents_inline x (s ∷ st) ≡ false
  writes-here e = rw (write_prevents_inline, e) refl

  module _ (e : has_in x s.bindings ≡ false) where
    pub writes-shut : is_block s.kind ≡ false → write_prevents_inline x (s ∷ st) ≡ true
    writes-shut b = rw (write_prevents_inline, e, b) refl

    pub writes-on : is_block s.kind ≡ true → write_prevents_inline x (s ∷ st) ≡ write_prevents_inline x st
    writes-on b = rw (write_prevents_inline, e, b) refl

module _ (s : Scope) (st : Stack) where
  pub loop-out : is_fn s.kind ≡ true → in_loop (s ∷ st) ≡ false
  loop-out f = rw (in_loop, f) refl

  module _ (f : is_fn s.kind ≡ false) where
    pub loop-here : is_loop s.kind ≡ true → in_loop (s ∷ st) ≡ true
    loop-here l = rw (in_loop, f, l) refl

    pub loop-on : is_loop s.kind ≡ false → in_loop (s ∷ st) ≡ in_loop st
    loop-on l = rw (in_loop, f, l) refl

-- the first scope outwards that is a function or a loop
abbrev pub kind-at : List ℕ → ℕ → ScopeKind
kind-at w k = (scope_at w k).kind

abbrev pub stops : ScopeKind → Bool
stops k = is_fn k || is_loop k

abbrev pub said : Answer ScopeKind → Bool
said None = false
said (Some k) = is_loop k

no-loop : (k : ScopeKind) → is_fn k ≡ true → is_loop k ≡ false
no-loop cond e = refl
no-loop loop e = absurd (laws.never e)
no-loop block e = refl
no-loop (fn n) e = refl

module _ (w : List ℕ) (g : Good w) where
  pub loop-first : (d : ℕ) → d ≤ get_or w 2 0 → said (find stops (map (kind-at w) (down d))) ≡ in_loop (below w d)
  loop-first zero h = sym (ap in_loop (below_none w))
  loop-first (suc d) h = laws.tested (is_fn (kind-at w d))
      (λ f. rw f (no-loop (kind-at w d) f) ∙ sym (ap in_loop (below_next w g d (omega arith)) ∙ loop-out (scope_at w d) (below w d) f))
      (λ f. laws.tested (is_loop (kind-at w d))
      (λ l. rw (f, l) l ∙ sym (ap in_loop (below_next w g d (omega arith)) ∙ loop-here (scope_at w d) (below w d) f l))
      (λ l. rw (f, l) (loop-first d (omega arith)) ∙ sym (ap in_loop (below_next w g d (omega arith)) ∙ loop-on (scope_at w d) (below w d) f l)))
