-- A binding by its number, and a tree by its node. Assumes nothing.
use mathlib.Core.Path.{◌≡◌, refl, sym, ap, ◌∙◌, subst}
use mathlib.Core.List.{List, [], ◌∷◌, ◌++◌}
use mathlib.Core.Option.{Option, none, some}
use Prim.Native.Nat.{ℕ, zero, suc, ◌+◌, ◌-◌, ◌≤◌, ◌<◌, min}
use native.Mathlib.Omega.{arith}
use borrow.Author.Tests.{lt-ltb, le-ltb}
use mathlib.Core.Bool.{Bool, true, false}
use lib.ListN.{length, get_or, get_elem?, take, drop, length-take, take-append-drop}
use lib.Dec.{eqb}
use Rattle.std.specs.Prelude.{Option as Maybe, Some, None, Result, Err, IfSome}
use Rattle.words.specs.Place as place
use Rattle.std.specs.Bool.{then_some}
use Rattle.refusal.specs.declared.Refusal.{Refusal}
use Rattle.refusal.specs.declared.Refusal.TheVariants.{Depth}
use Rattle.def_tree.specs.Tree.{Tree, Core}
use Rattle.def_pass.specs.Scope.{VarInfo, Stack, find_in, find_constant, Free}
use Rattle.scope_values.specs.Consts.{Found}
use Rattle.words.specs.Tab.{get_d-tab, sum-part}
use Rattle.words.specs.Layout.{tree, run}
use Rattle.words.specs.declared.Run.{Run}
use Rattle.words.proofs.Nodes.{tree-length, run_length}
use Rattle.def_pass.specs.Tree.{count_o, height}
use Rattle.def_tree.specs.Tree.{plant, first_t, count}
use Rattle.words_scopes.specs.State.{Good, Head, Fits, split, heads, flags, binds, consts, stack, bind_at, index_in, off, len_at, run_at, value_of, targeted}
use Rattle.words_scopes.proofs.Split.{no_bind, tested}
use Rattle.scope_values.proofs.Count.{length-binds, fits-binds, nodes-bind}
use Rattle.scope_find.specs.Look.{node_tree, at_place, idx_here, idx_at, first}
use Rattle.scope_find.proofs.Facts.{with_index as at_index, idx-find}
use Rattle.words_nodes.specs.Nodes.{tree_from, value_from, Swapped}
use Rattle.words_nodes.proofs.Trees.{count-some}
use Rattle.words_nodes.proofs.Splice.{run-count}
use Rattle.scope.specs.Handles.{bindings_of, numbered, tree_o, with_index, IsBinding, indexed, of_constants, Held, value_tree, Puts}

no-elements : {A : Type 0} (xs : List A) → length xs ≡ 0 → xs ≡ []
no-elements [] e = refl
no-elements (x ∷ xs) e = absurd (omega arith)

-- the bindings of the scopes that a list is cut into are that list
bindings-split : (hs : List Head) (fl : List ℕ) (bs : List VarInfo) (cs : List (ℕ × Option Tree)) → Fits hs (length bs) → bindings_of (split hs fl bs cs) ≡ bs
bindings-split [] fl bs cs f = sym (no-elements bs f)
bindings-split (h ∷ hs) fl bs cs f =
    let e : length (take h.start bs) ≡ h.start = length-take h.start bs ∙ min-is h.start (length bs) f.0 in
    ap (λ (xs : List VarInfo). xs ++ drop h.start bs) (bindings-split hs (take h.start fl) (take h.start bs) (take h.cstart cs) (rw e f.1)) ∙ take-append-drop h.start bs
  where
    min-is : (a b : ℕ) → a ≤ b → min a b ≡ a
    min-is a b l = omega arith

pub bindings-stack : (w : List ℕ) → Good w → bindings_of (stack w) ≡ binds w
unfolding stack
bindings-stack w g = bindings-split (heads w) (flags w) (binds w) (consts w) (fits-binds w g)

elem_in : {A : Type 0} (xs : List A) (k : ℕ) (d : A) → k < length xs → get_elem? xs k ≡ some (get_or xs k d)
elem_in [] k d h = absurd (omega arith)
elem_in (x ∷ xs) zero d h = refl
elem_in (x ∷ xs) (suc k) d h = elem_in xs k d (omega arith)

elem_out : {A : Type 0} (xs : List A) (k : ℕ) → length xs ≤ k → get_elem? xs k ≡ none
elem_out [] k h = refl
elem_out (x ∷ xs) zero h = absurd (omega arith)
elem_out (x ∷ xs) (suc k) h = elem_out xs k (omega arith)

module _ (w : List ℕ) (g : Good w) where
  at-binds : (k : ℕ) → k < get_or w 1 0 → get_or (binds w) k no_bind ≡ bind_at w k
  unfolding binds
  at-binds k h = get_d-tab (get_or w 1 0) (λ j. bind_at w j) k no_bind h

  -- a number that a binding has
  pub number_in : (k : ℕ) → k < get_or w 1 0 → numbered (stack w) (suc k) ≡ some (bind_at w k)
  number_in k h = rw (bindings-stack w g) (elem_in (binds w) k no_bind (omega (arith, length-binds w g)) ∙ ap some (at-binds k h))

  -- and one that none has
  pub number-out : (k : ℕ) → get_or w 1 0 ≤ k → numbered (stack w) (suc k) ≡ none
  number-out k h = rw (bindings-stack w g) (elem_out (binds w) k (omega (arith, length-binds w g)))

  pub number-most : (r : ℕ) → r ≤ get_or w 1 0 → r ≤ length (bindings_of (stack w))
  number-most r h = rw (bindings-stack w g) (omega (arith, length-binds w g))

  -- a place in the words is a number
  pub number-place : (r : ℕ) → r ≤ get_or w 1 0 → at_place w r ≡ numbered (stack w) r
  number-place zero h = refl
  number-place (suc k) h = sym (number_in k (omega arith))

-- a number that is known, or none
pub binding-is : (w : List ℕ) → Good w → (b : ℕ) (p : Bool) → (p ≡ true → b < get_or w 1 0) → (p ≡ false → numbered (stack w) (suc b) ≡ none) → IsBinding w (numbered (stack w) (suc b)) (then_some p b)
binding-is w g b true y n = (number_in w g b (y refl), y refl)
binding-is w g b false y n = n refl

-- an answer is a number or 0
pub placed-most : (o : Maybe ℕ) (n : ℕ) → IfSome o (λ k. k < n) → place.placed o ≤ n
placed-most None n h = omega arith
placed-most (Some k) n h = let l : k < n = h in omega arith

-- a number that is not past the last
pub number-some : (st : Stack) (k : ℕ) → suc k ≤ length (bindings_of st) → numbered st (suc k) ≡ some (get_or (bindings_of st) k no_bind)
number-some st k h = elem_in (bindings_of st) k no_bind (omega arith)

-- the tree at a node
module _ (w : List ℕ) (i : ℕ) where
  pub node-from : node_tree w i ≡ tree_from (tree w) i
  unfolding node_tree tree_from
  node-from = refl

  pub tree-in : i < get_or w 0 0 → tree_o (tree w) i ≡ some (tree_from (tree w) i)
  tree-in h = rw (lt-ltb i (length (tree w)) (omega (arith, tree-length w))) refl

  pub tree-out : get_or w 0 0 ≤ i → tree_o (tree w) i ≡ none
  tree-out h = rw (le-ltb i (length (tree w)) (omega (arith, tree-length w))) refl

-- a value that has nodes, and one that has none
pub value-some : (xs : List Core) → 0 < length xs → value_of xs ≡ some (first_t (plant xs))
value-some [] h = absurd (omega arith)
value-some (x ∷ xs) h = refl

value_none : (xs : List Core) → length xs ≡ 0 → value_of xs ≡ none
value_none [] e = refl
value_none (x ∷ xs) e = absurd (omega arith)

pub some_of : (m : ℕ) → (m ≡ 0 → ⊥) → 0 < m
some_of zero n = absurd (n refl)
some_of (suc m) n = omega arith

-- the value of binding k
module _ (w : List ℕ) (g : Good w) (k : ℕ) (h : k < get_or w 1 0) where
  pub bound-none : len_at w k ≡ 0 → (bind_at w k).value ≡ none
  bound-none z = value_none (run_at w k) (run_length w 2064 (off w k) (len_at w k) ∙ z)

  pub bound-count : count_o (bind_at w k).value ≡ len_at w k
  bound-count = nodes-bind w g k h

  module _ (at m : ℕ) (p : at ≡ off w k) (q : m ≡ len_at w k) (z : 0 < m) where
    bound-value : (bind_at w k).value ≡ some (value_from w 2064 at m)
    bound-value = rw (p, q) (value-some (run_at w k) (omega (arith, run_length w 2064 (off w k) (len_at w k))))

    bound-held : Held w 2064 at m
    bound-held = record { some = z; inside = omega (arith, sum-part (λ j. len_at w j) k (get_or w 1 0) h, g.vals, p, q); whole = rw (p, q) (g.whole k h) }

    -- is recorded there
    pub bound-kept : ((bind_at w k).value ≡ some (value_from w 2064 at m)) × ((2064 ≤ of_constants) × Held w 2064 at m)
    bound-kept = (bound-value, (omega arith, bound-held))

  pub bound-inside : off w k + len_at w k ≤ 512
  bound-inside = omega (arith, sum-part (λ j. len_at w j) k (get_or w 1 0) h, g.vals)

-- the constant that was found
module _ (w : List ℕ) (x : ℕ) where
  pub const-kept : (r : Run) → Found w x (Some r) → (find_constant x (stack w) ≡ some (value_from w of_constants r.at r.len)) × ((of_constants ≤ of_constants) × Held w of_constants r.at r.len)
  const-kept r h =
      (h.0 ∙ value-some (run w 3088 r.at r.len) (omega (arith, run_length w 3088 r.at r.len, h.1)), (omega arith, record { some = h.1; inside = h.2; whole = h.3 }))

  -- an identifier that it gives is not targeted
  pub const_free : (q : Maybe Run) → Found w x q → Free (targeted w) (find_constant x (stack w))
  const_free None f = subst (Free (targeted w)) (sym f) tt
  const_free (Some r) f = subst (Free (targeted w)) (sym f.0) f.4

pub held-count : {w : List ℕ} {base at m : ℕ} → Held w base at m → count (value_from w base at m) ≡ m
held-count {w} {base} {at} {m} h = run-count w base at m h.some h.whole

pub value_tree-some : (o : Option Tree) → 0 < count_o o → o ≡ some (value_tree o)
value_tree-some none z = absurd (omega arith)
value_tree-some (some t) z = refl

pub count_none : (o : Option Tree) → count_o o ≡ 0 → o ≡ none
count_none none z = refl
count_none (some t) z = absurd (omega (arith, count-some t))

-- a value in the place of a tree, and one that is too deep
module _ (w : List ℕ) (p i : ℕ) (e : Tree) where
  pub puts-at : (r : Result Unit Refusal) (u : List ℕ) → i < get_or w 0 0 → Swapped r w u p i e → Puts r w u p i (tree_o (tree w) i) (some e)
  puts-at r u h s = subst (λ (o : Option Tree). Puts r w u p i o (some e)) (sym (tree-in w i h)) s

  pub puts-swapped : (r : Result Unit Refusal) (u : List ℕ) (v : Option Tree) → i < get_or w 0 0 → v ≡ some e → Puts r w u p i (tree_o (tree w) i) v → Swapped r w u p i e
  puts-swapped r u v h q s =
      subst (λ (o : Option Tree). Puts r w u p i o (some e)) (tree-in w i h) (subst (λ (x : Option Tree). Puts r w u p i (tree_o (tree w) i) x) q s)

  pub too-deep : 201 < p → Swapped (Err Depth) w w p i e
  too-deep h = (rw (lt-ltb 201 (p + height e) (omega arith)) refl, refl)

-- idx_val: the binding at its index
abbrev index_o : Option (ℕ × VarInfo) → ℕ
index_o none = 0
index_o (some p) = p.0

abbrev binding_o : Option (ℕ × VarInfo) → Option VarInfo
binding_o none = none
binding_o (some p) = some p.1

module _ (x : ℕ) (c : VarInfo) (bs : List VarInfo) where
  find-by : (p : Bool) → eqb c.id x ≡ p → find_in x (c ∷ bs) ≡ elim p [ true ↦ some c | false ↦ find_in x bs ]
  find-by p e = ap (λ (q : Bool). elim q [ true ↦ some c | false ↦ find_in x bs ]) e

  index-by : (p : Bool) → eqb c.id x ≡ p → index_in x (c ∷ bs) ≡ elim p [ true ↦ 0 | false ↦ suc (index_in x bs) ]
  index-by p e = ap (λ (q : Bool). elim q [ true ↦ 0 | false ↦ suc (index_in x bs) ]) e

find-elem : (x : ℕ) (bs : List VarInfo) (b : VarInfo) → find_in x bs ≡ some b → get_elem? bs (index_in x bs) ≡ some b
find-elem x [] b e = e
find-elem x (c ∷ bs) b e = tested (eqb c.id x)
    (λ t. rw (index-by x c bs true t) (sym (find-by x c bs true t) ∙ e))
    (λ t. rw (index-by x c bs false t) (find-elem x bs b (sym (find-by x c bs false t) ∙ e)))

at_index-binding : (n : ℕ) (o : Option VarInfo) → binding_o (at_index n o) ≡ o
at_index-binding n none = refl
at_index-binding n (some b) = refl

at_index-index : (n : ℕ) (o : Option VarInfo) (b : VarInfo) → o ≡ some b → index_o (at_index n o) ≡ n
at_index-index n o b e = ap (λ (p : Option VarInfo). index_o (at_index n p)) e

pub index_is : (w : List ℕ) (st : Stack) (x r : ℕ) → idx_here x st ≡ idx_at w r → idx_here x st ≡ indexed st r
index_is w [] x r e = refl
index_is w (s ∷ st) x zero e = e
index_is w (s ∷ st) x (suc j) e =
    let b = bind_at w (first w (get_or w 2 0 - 1) + j) in
    let o = find_in x s.bindings in
    let q : at_index (0 + index_in x s.bindings) o ≡ some (j, b) = sym (idx-find 0 x s.bindings) ∙ e in
    let f : o ≡ some b = sym (at_index-binding (0 + index_in x s.bindings) o) ∙ ap binding_o q in
    let i : index_in x s.bindings ≡ j = omega (arith, sym (at_index-index (0 + index_in x s.bindings) o b f) ∙ ap index_o q) in
    e ∙ sym (ap (with_index j) (rw i at (find-elem x s.bindings b f)))
