-- What a look-up's answer says, from the words that it reads. Assumes nothing.
use mathlib.Core.Path.{◌≡◌, refl, sym, ap, ◌∙◌}
use mathlib.Core.List.{List, [], ◌∷◌}
use mathlib.Core.Bool.{Bool, true, false, ◌||◌, ◌&&◌, not}
use mathlib.Core.Option.{Option, none, some}
use Rattle.std.proofs.Common.{Option as Answer, Some, None, SomeIff}
use Rattle.words.specs.Place.{placed as at}
use mathlib.Core.Logic.{◌⊎◌, ⊎_elim}
use Prim.Native.Nat.{ℕ, zero, suc, ◌+◌, ◌-◌, ◌*◌, ◌%◌, ◌≤◌, ◌<◌}
use native.Mathlib.Nat.{eq-or-lt_of_le}
use native.Mathlib.Numerals.{add-one}
use native.Mathlib.Omega.{arith}
use borrow.Author.Tests.{eq-eqb, ne_eqb, eqb-true}
use lib.ListN.{length, get_or, drop, drop_of_length-le}
use lib.Dec.{eqb}
use Rattle.std.specs.List.{range_with_len, list_any}
use lib.Seq.{get_or-drop, drop-cons}
use Rattle.def_tree.specs.Base.{pick, or_else}
use Rattle.def_file.specs.declared.kind.Kind.{Kind as NodeKind}
use Rattle.def_file.specs.Named.{IsKindOf}
use Rattle.def_tree.specs.Tree.{Tree, Forest, node, nil, cons, kind, num, kids, Core, no_core, take_f, drop_f, plant, first_t}
use Rattle.def_pass.specs.Scope.{VarInfo, Scope, Stack, is_var, is_some, find_in, has_in, const_in, find_binding, idx_val, free_to_read, is_hoisted_prevented, read_prevents_inlining, write_prevents_inline, scope_for, should_prevent_inline_because_of_scope, any_from, between, ident_of, mark_of, mark_of_id, is_inline_prevented}
use Rattle.def_pass.specs.Tree.{is_member, head_t}
use Rattle.words.specs.Tab.{tab, get_d-tab, get_d-tab-out}
use Rattle.words.specs.Layout.{yes, core_from, node_of, tree}
use Rattle.words.proofs.Nodes.{run_length, run-at, tree-length, tree-at}
use Rattle.words.specs.Flags.{flag_at}
use Rattle.words_scopes.specs.State.{unres_at, value_of, len_at, off, run_at, heads, binds, stack, Good, place, index_in, Named}
use Rattle.words_scopes.proofs.Split as laws
use Rattle.words_scopes.proofs.Look as outwards
use Rattle.scope_find.specs.Look.{first, scope_at, below, at_place, IsKindOfValue, held, node_tree}
use Rattle.scope_find.proofs.Out as out

-- a word as a flag
pub flag : (v : ℕ) → not (eqb v 0) ≡ yes v
flag zero = refl
flag (suc v) = ap not (ne_eqb (suc v) 0 (λ e. omega arith))

-- a number less one, if there is one, by its place
pub placed-less : (n : ℕ) (r : Answer ℕ) → SomeIff r (1 ≤ n) (n - 1) → at r ≡ n
placed-less n None h = omega arith
placed-less n (Some k) h = omega arith

-- the innermost binding, by its place
pub found_at : (w : List ℕ) (x r : ℕ) → r ≡ place x (heads w) (binds w) → find_binding x (stack w) ≡ at_place w r
found_at w x zero e = outwards.missing w x (sym e)
found_at w x (suc k) e = outwards.found w x k (sym e)

-- a value's kind is its first node's
first_kind : (xs : List Core) → 0 < length xs → (r : NodeKind) → IsKindOf (get_or xs 0 no_core).kind r → IsKindOfValue (value_of xs) (Some r)
first_kind [] l r h = absurd (omega arith)
first_kind (x ∷ xs) l r h = h

module _ (w : List ℕ) (k : ℕ) where
  size : length (run_at w k) ≡ len_at w k
  size = run_length w 2064 (off w k) (len_at w k)

  pub kind-none : len_at w k ≡ 0 → IsKindOfValue (value_of (run_at w k)) None
  kind-none z = empty (run_at w k) (size ∙ z)
    where
      empty : (xs : List Core) → length xs ≡ 0 → IsKindOfValue (value_of xs) None
      empty [] e = tt
      empty (x ∷ xs) e = absurd (omega arith)

  pub kind-first : (o : ℕ) → o ≡ off w k → (len_at w k ≡ 0 → ⊥) → (r : NodeKind) → IsKindOf (get_or w (2064 + o * 2) 0 % 64) r → IsKindOfValue (value_of (run_at w k)) (Some r)
  kind-first o e z r h =
      let p : 0 < len_at w k = omega arith in
      let q : off w k + 0 ≡ o = omega arith in
      let same = ap (λ (c : Core). c.kind) (run-at w 2064 (off w k) (len_at w k) 0 p ∙ ap (λ (n : ℕ). core_from w (2064 + n * 2)) q) in
      first_kind (run_at w k) (omega (arith, size)) r (rw (sym same) at h)

-- read_prevents_inlining, by the binding found
module _ (x : ℕ) (st : Stack) where
  pub reads-free : find_binding x st ≡ none → read_prevents_inlining x st ≡ write_prevents_inline x st
  reads-free e = ap (λ (o : Option VarInfo). not (free_to_read o) && write_prevents_inline x st) e

  module _ (b : VarInfo) (e : find_binding x st ≡ some b) where
    by : read_prevents_inlining x st ≡ (not (not (is_var b.kind) || b.hoisted) && write_prevents_inline x st)
    by = ap (λ (o : Option VarInfo). not (free_to_read o) && write_prevents_inline x st) e

    pub reads_other : is_var b.kind ≡ false → read_prevents_inlining x st ≡ false
    reads_other v = by ∙ rw v refl

    module _ (v : is_var b.kind ≡ true) where
      pub reads-hoisted : b.hoisted ≡ true → read_prevents_inlining x st ≡ false
      reads-hoisted h = by ∙ rw (v, h) refl

      pub reads-var : b.hoisted ≡ false → read_prevents_inlining x st ≡ write_prevents_inline x st
      reads-var h = by ∙ rw (v, h) refl

-- idx_val: the place is that of the first binding
idx-no : (n x : ℕ) (b : VarInfo) (bs : List VarInfo) → eqb b.id x ≡ false → idx_val n x (b ∷ bs) ≡ idx_val (suc n) x bs
idx-no n x b bs e = ap (λ (p : Bool). elim p [ true ↦ some (n, b) | false ↦ idx_val (suc n) x bs ]) e

idx-yes : (n x : ℕ) (b : VarInfo) (bs : List VarInfo) → eqb b.id x ≡ true → idx_val n x (b ∷ bs) ≡ some (n, b)
idx-yes n x b bs e = ap (λ (p : Bool). elim p [ true ↦ some (n, b) | false ↦ idx_val (suc n) x bs ]) e

find-no : (x : ℕ) (b : VarInfo) (bs : List VarInfo) → eqb b.id x ≡ false → find_in x (b ∷ bs) ≡ find_in x bs
find-no x b bs e = ap (λ (p : Bool). elim p [ true ↦ some b | false ↦ find_in x bs ]) e

find-yes : (x : ℕ) (b : VarInfo) (bs : List VarInfo) → eqb b.id x ≡ true → find_in x (b ∷ bs) ≡ some b
find-yes x b bs e = ap (λ (p : Bool). elim p [ true ↦ some b | false ↦ find_in x bs ]) e

index-by : (x : ℕ) (b : VarInfo) (bs : List VarInfo) (p : Bool) → eqb b.id x ≡ p → index_in x (b ∷ bs) ≡ elim p [ true ↦ 0 | false ↦ suc (index_in x bs) ]
index-by x b bs p e = ap (λ (q : Bool). elim q [ true ↦ 0 | false ↦ suc (index_in x bs) ]) e

-- the binding found, with its index
abbrev pub with_index : ℕ → Option VarInfo → Option (ℕ × VarInfo)
with_index n none = none
with_index n (some b) = some (n, b)

pub idx-find : (n x : ℕ) (bs : List VarInfo) → idx_val n x bs ≡ with_index (n + index_in x bs) (find_in x bs)
idx-find n x [] = refl
idx-find n x (b ∷ bs) = laws.tested (eqb b.id x)
    (λ e. let z : n + 0 ≡ n = omega arith in idx-yes n x b bs e ∙ sym (rw (find-yes x b bs e, index-by x b bs true e, z) refl))
    (λ e. let s : n + suc (index_in x bs) ≡ suc n + index_in x bs = omega arith in idx-no n x b bs e ∙ idx-find (suc n) x bs ∙ sym (rw (find-no x b bs e, index-by x b bs false e, s) refl))

-- scope_for: whether the scope found has a binding does not hang on where the walk began
pub or-true : (a : Bool) → (a || true) ≡ true
or-true true = refl
or-true false = refl

pub or-false : (a : Bool) → (a || false) ≡ a
or-false true = refl
or-false false = refl

module _ (x : ℕ) where
  found-or : (here : Bool) (s p : Scope) (st : Stack) (q : Bool) → (is_some (const_in x s.constants) || has_in x s.bindings) ≡ q
      → scope_for here x (s ∷ p ∷ st) ≡ elim q [ true ↦ (has_in x s.bindings, here) | false ↦ scope_for false x (p ∷ st) ]
  found-or here s p st q e = ap (λ (t : Bool). elim t [ true ↦ (has_in x s.bindings, here) | false ↦ scope_for false x (p ∷ st) ]) e

  begun : (here there : Bool) (p : Scope) (st : Stack) → (scope_for here x (p ∷ st)).0 ≡ (scope_for there x (p ∷ st)).0
  begun here there p [] = refl
  begun here there p (q ∷ st) = laws.tested (is_some (const_in x p.constants) || has_in x p.bindings)
      (λ e. ap (λ (t : Bool × Bool). t.0) (found-or here p q st true e) ∙ sym (ap (λ (t : Bool × Bool). t.0) (found-or there p q st true e)))
      (λ e. ap (λ (t : Bool × Bool). t.0) (found-or here p q st false e ∙ sym (found-or there p q st false e)))

  pub for-bound : (here : Bool) (s : Scope) (st : Stack) → has_in x s.bindings ≡ true → (scope_for here x (s ∷ st)).0 ≡ true
  for-bound here s [] e = e
  for-bound here s (p ∷ st) e = ap (λ (t : Bool × Bool). t.0) (found-or here s p st true (rw e (or-true (is_some (const_in x s.constants))))) ∙ e

  module _ (s : Scope) (e : has_in x s.bindings ≡ false) where
    pub for-const : (here : Bool) (st : Stack) → is_some (const_in x s.constants) ≡ true → (scope_for here x (s ∷ st)).0 ≡ false
    for-const here [] c = e
    for-const here (p ∷ st) c = ap (λ (t : Bool × Bool). t.0) (found-or here s p st true (rw c refl)) ∙ e

    pub for-on : (st : Stack) → is_some (const_in x s.constants) ≡ false → (here there : Bool) → (scope_for here x (s ∷ st)).0 ≡ (scope_for there x st).0
    for-on [] c here there = e
    for-on (p ∷ st) c here there = ap (λ (t : Bool × Bool). t.0) (found-or here s p st false (rw (c, e) refl)) ∙ begun false there p st

  -- the current scope is found where it has x, and where it is the root
  not-current : (st : Stack) → (scope_for false x st).1 ≡ false
  not-current [] = refl
  not-current (s ∷ []) = refl
  not-current (s ∷ p ∷ st) = laws.tested (is_some (const_in x s.constants) || has_in x s.bindings)
      (λ e. ap (λ (t : Bool × Bool). t.1) (found-or false s p st true e))
      (λ e. ap (λ (t : Bool × Bool). t.1) (found-or false s p st false e) ∙ not-current (p ∷ st))

  for-current : (s p : Scope) (st : Stack) → (scope_for true x (s ∷ p ∷ st)).1 ≡ (is_some (const_in x s.constants) || has_in x s.bindings)
  for-current s p st = laws.tested (is_some (const_in x s.constants) || has_in x s.bindings)
      (λ e. ap (λ (t : Bool × Bool). t.1) (found-or true s p st true e) ∙ sym e)
      (λ e. ap (λ (t : Bool × Bool). t.1) (found-or true s p st false e) ∙ not-current (p ∷ st) ∙ sym e)

  pub root-current : (w : List ℕ) → Good w → get_or w 2 0 ≤ 1 → (scope_for true x (stack w)).1 ≡ true
  root-current w g h = ap (λ (st : Stack). (scope_for true x st).1) (out.below_all w) ∙ few (get_or w 2 0) h (omega arith)
    where
      few : (k : ℕ) → k ≤ 1 → k ≤ get_or w 2 0 → (scope_for true x (below w k)).1 ≡ true
      few zero a b = ap (λ (st : Stack). (scope_for true x st).1) (out.below_none w)
      few (suc zero) a b = ap (λ (st : Stack). (scope_for true x st).1) (out.below_next w g 0 (omega arith) ∙ ap (λ (st : Stack). scope_at w 0 ∷ st) (out.below_none w))
      few (suc (suc k)) a b = absurd (omega arith)

  pub inner-current : (w : List ℕ) → Good w → 1 < get_or w 2 0 → (scope_for true x (stack w)).1 ≡ (is_some (const_in x (scope_at w (get_or w 2 0 - 1)).constants) || has_in x (scope_at w (get_or w 2 0 - 1)).bindings)
  inner-current w g h =
      let k : ℕ = get_or w 2 0 - 1 in
      ap (λ (st : Stack). (scope_for true x st).1) (out.below_all w ∙ out.turn w (get_or w 2 0) g (omega arith) (omega arith) ∙ ap (λ (st : Stack). scope_at w k ∷ st) (out.turn w k g (omega arith) (omega arith)))
      ∙ for-current (scope_at w k) (scope_at w (k - 1)) (below w (k - 1))

  -- should_prevent_inline_because_of_scope, scope by scope
  held_found : (st : Stack) → is_hoisted_prevented (find_binding x st) ≡ true → held x st ≡ true
  held_found [] e = e
  held_found (s ∷ st) e = in_scope_lem (find_in x s.bindings) (held_found st) e
    where
      in_scope_lem : (o : Option VarInfo) → (is_hoisted_prevented (find_binding x st) ≡ true → held x st ≡ true) → is_hoisted_prevented (or_else o (find_binding x st)) ≡ true → (s.unresolved_usages x || (is_hoisted_prevented o || held x st)) ≡ true
      in_scope_lem none h q = rw (h q) (or-true (s.unresolved_usages x))
      in_scope_lem (some b) h q = rw q (or-true (s.unresolved_usages x))

  pub should-held : (s : Scope) (st : Stack) → should_prevent_inline_because_of_scope x (s ∷ st) ≡ (s.unresolved_usages x || held x st)
  should-held s [] = or-false (s.unresolved_usages x || false)
  should-held s (p ∷ st) = ap (λ (t : Bool). s.unresolved_usages x || t || is_hoisted_prevented (find_binding x (p ∷ st))) (should-held p st) ∙ in_scope_lem (find_in x p.bindings)
    where
      or_swap : (a b c d : Bool) → (a || (b || d) || c) ≡ (a || (b || (c || d)))
      or_swap true b c d = refl
      or_swap false true c d = refl
      or_swap false false true true = refl
      or_swap false false true false = refl
      or_swap false false false true = refl
      or_swap false false false false = refl

      absorb : (a b c d : Bool) → (c ≡ true → d ≡ true) → (a || (b || d) || c) ≡ (a || (b || d))
      absorb a b true d h = rw (h refl, or-true b, or-true a) refl
      absorb a b false d h = or-false (a || (b || d))

      in_scope_lem : (o : Option VarInfo) → (s.unresolved_usages x || (p.unresolved_usages x || held x st) || is_hoisted_prevented (or_else o (find_binding x st))) ≡ (s.unresolved_usages x || (p.unresolved_usages x || (is_hoisted_prevented o || held x st)))
      in_scope_lem none = absorb (s.unresolved_usages x) (p.unresolved_usages x) (is_hoisted_prevented (find_binding x st)) (held x st) (held_found st)
      in_scope_lem (some b) = or_swap (s.unresolved_usages x) (p.unresolved_usages x) (is_hoisted_prevented (some b)) (held x st)

  pub held_next : (s : Scope) (st : Stack) → s.unresolved_usages x ≡ false → is_hoisted_prevented (find_in x s.bindings) ≡ false → held x (s ∷ st) ≡ held x st
  held_next s st u h = rw (u, h) refl

  pub held-hoisted : (s : Scope) (st : Stack) → is_hoisted_prevented (find_in x s.bindings) ≡ true → held x (s ∷ st) ≡ true
  held-hoisted s st h = rw h (or-true (s.unresolved_usages x))

  pub held-unresolved : (s : Scope) (st : Stack) → s.unresolved_usages x ≡ true → held x (s ∷ st) ≡ true
  held-unresolved s st u = rw u refl

-- is x unresolved in scope k
pub unresolved-at : (w : List ℕ) (k x : ℕ) → x < 256 → (scope_at w k).unresolved_usages x ≡ yes (flag_at w (7312 + k * 8) x)
unfolding scope_at unres_at
unresolved-at w k x h = ap yes (get_d-tab 256 (λ j. flag_at w (7312 + k * 8) j) x 0 h)

-- barriers
module _ (w : List ℕ) (k : ℕ) where
  pub bar-first : (scope_at w k).inline_barriers 0 ≡ yes (get_or w (7184 + k * 4 + 3) 0)
  unfolding scope_at
  bar-first = refl

  abbrev a : ℕ
  a = get_or w (7184 + k * 4 + 1) 0

  later : (j : ℕ) → (scope_at w k).inline_barriers (suc j) ≡ yes (get_or (tab (first w (suc k)) (λ j. get_or w (4112 + j * 10 + 9) 0)) (a + j) 0)
  unfolding scope_at
  later j = ap yes (get_or-drop a (tab (first w (suc k)) (λ j. get_or w (4112 + j * 10 + 9) 0)) j 0)

  pub bar-in : (j : ℕ) → (j ≡ 0 → ⊥) → a + (j - 1) < first w (suc k) → (scope_at w k).inline_barriers j ≡ yes (get_or w (4112 + (a + (j - 1)) * 10 + 9) 0)
  bar-in j z h = let e : j ≡ suc (j - 1) = omega arith in ap (scope_at w k).inline_barriers e ∙ later (j - 1) ∙ ap yes (get_d-tab (first w (suc k)) (λ i. get_or w (4112 + i * 10 + 9) 0) (a + (j - 1)) 0 h)

  pub bar-out : (j : ℕ) → (j ≡ 0 → ⊥) → first w (suc k) ≤ a + (j - 1) → (scope_at w k).inline_barriers j ≡ false
  bar-out j z h = let e : j ≡ suc (j - 1) = omega arith in ap (scope_at w k).inline_barriers e ∙ later (j - 1) ∙ ap yes (get_d-tab-out (first w (suc k)) (λ i. get_or w (4112 + i * 10 + 9) 0) (a + (j - 1)) 0 h)

-- does one of the numbers pass the test: looked at from the last one on, and from the first one on
any-first : (p : ℕ → Bool) (a n : ℕ) → any_from p a (suc n) ≡ (p a || any_from p (a + 1) n)
any-first p a zero = let z : a + 0 ≡ a = omega arith in rw z (sym (or-false (p a)))
any-first p a (suc n) =
    let s : a + suc n ≡ a + 1 + n = omega arith in
    rw (any-first p a n, s) (or_assoc (p a) (any_from p (a + 1) n) (p (a + 1 + n)))
  where
    or_assoc : (x y z : Bool) → (x || y || z) ≡ (x || (y || z))
    or_assoc true y z = refl
    or_assoc false y z = refl

pub any-listed : (p : ℕ → Bool) (a n : ℕ) → any_from p a n ≡ list_any p (range_with_len a n)
any-listed p a zero = refl
any-listed p a (suc n) = any-first p a n ∙ ap (λ t. p a || t) (any-listed p (a + 1) n)

pub between-up : (p : ℕ → Bool) (v b : ℕ) → v ≤ b → between v b p ≡ any_from p v (b + 1 - v)
between-up p v b h = ⊎_elim
    (λ (e : v ≡ b). let q : suc v - v ≡ 1 = omega arith in let q₂ : v + 1 - v ≡ 1 = omega arith in rw (← e, q, q₂) (or_same (any_from p v 1)))
    (λ (l : v < b). let z : suc v - b ≡ 0 = omega arith in let q : suc b - v ≡ b + 1 - v = omega arith in rw (z, q) (or-false (any_from p v (b + 1 - v))))
    (eq-or-lt_of_le h)
  where
    or_same : (t : Bool) → (t || t) ≡ t
    or_same true = refl
    or_same false = refl

-- the tree that begins at a node
module _ (w : List ℕ) (i : ℕ) (h : i < get_or w 0 0) where
  node-here : drop i (tree w) ≡ node_of w i ∷ drop (suc i) (tree w)
  node-here = drop-cons (tree w) i no_core (omega (arith, tree-length w)) ∙ ap (λ (c : Core). c ∷ drop (suc i) (tree w)) (tree-at w i h)

  -- its parts
  abbrev below-it : Forest
  below-it = plant (drop (suc i) (tree w))

  pub node-tree : node_tree w i ≡ node (node_of w i).kind (node_of w i).form (node_of w i).num (take_f (node_of w i).arity below-it)
  unfolding node_tree
  node-tree = ap (λ (xs : List Core). first_t (plant xs)) node-here

  pub node-name : Good w → ((node_of w i).kind ≡ 20) ⊎ ((node_of w i).kind ≡ 21) → (node_of w i).num < 256
  node-name g e = let n : Named (node_of w i) = rw (tree-at w i h) at (g.names i) in n e

  pub object-none : (node_of w i).arity ≡ 0 → ident_of (head_t (kids (node_tree w i))) ≡ none
  object-none z = ap (λ (t : Tree). ident_of (head_t (kids t))) node-tree ∙ ap (λ (a : ℕ). ident_of (head_t (take_f a below-it))) z

take_none : (a : ℕ) → head_t (take_f a nil) ≡ none
take_none zero = refl
take_none (suc a) = refl

take-one : (a : ℕ) (t : Tree) (ts : Forest) → (a ≡ 0 → ⊥) → head_t (take_f a (cons t ts)) ≡ some t
take-one zero t ts h = absurd (h refl)
take-one (suc a) t ts h = refl

module _ (w : List ℕ) (i : ℕ) (h : i < get_or w 0 0) where
  abbrev n : ℕ
  n = (node_of w i).arity

  pub object-end : get_or w 0 0 ≤ i + 1 → ident_of (head_t (kids (node_tree w i))) ≡ none
  object-end l =
      let e : drop (suc i) (tree w) ≡ [] = drop_of_length-le (tree w) {i = suc i} (omega (arith, tree-length w)) in
      ap (λ (t : Tree). ident_of (head_t (kids t))) (node-tree w i h) ∙ ap (λ (xs : List Core). ident_of (head_t (take_f n (plant xs)))) e ∙ ap ident_of (take_none n)

  module _ (z : n ≡ 0 → ⊥) (l : i + 1 < get_or w 0 0) where
    -- the first child is the next node
    abbrev c : Core
    c = node_of w (i + 1)

    child : ident_of (head_t (kids (node_tree w i))) ≡ pick (eqb c.kind 21) (some c.num) none
    child =
        let e : drop (suc i) (tree w) ≡ c ∷ drop (suc (i + 1)) (tree w) = sym (ap (λ (k : ℕ). drop k (tree w)) (add-one i)) ∙ node-here w (i + 1) l in
        let ts : Forest = plant (drop (suc (i + 1)) (tree w)) in
        ap (λ (t : Tree). ident_of (head_t (kids t))) (node-tree w i h) ∙ ap (λ (xs : List Core). ident_of (head_t (take_f n (plant xs)))) e
        ∙ ap ident_of (take-one n (node c.kind c.form c.num (take_f c.arity ts)) (drop_f c.arity ts) z)

    pub object-other : (c.kind ≡ 21 → ⊥) → ident_of (head_t (kids (node_tree w i))) ≡ none
    object-other e = child ∙ rw (ne_eqb c.kind 21 e) refl

    pub object-is : c.kind ≡ 21 → ident_of (head_t (kids (node_tree w i))) ≡ some c.num
    object-is e = child ∙ rw (eq-eqb c.kind 21 e) refl

-- Scope::is_inline_prevented, by the kind
module _ (t : Tree) (st : Stack) where
  pub expr-ident : kind t ≡ 21 → is_inline_prevented t st ≡ mark_of (find_binding (num t) st)
  expr-ident e = rw e refl

  pub expr-member : is_member t ≡ true → is_inline_prevented t st ≡ mark_of_id (ident_of (head_t (kids t))) st
  expr-member m = laws.tested (eqb (kind t) 37)
      (λ e. let k : kind t ≡ 37 = eqb-true (kind t) 37 e in rw k refl)
      (λ e. let k : kind t ≡ 38 = eqb-true (kind t) 38 (rw e at m) in rw k refl)

  pub expr-other : (kind t ≡ 21 → ⊥) → is_member t ≡ false → is_inline_prevented t st ≡ (eqb (kind t) 31 || eqb (kind t) 35 || eqb (kind t) 36 || eqb (kind t) 41)
  expr-other a m = rw (m, ne_eqb (kind t) 21 a) (or-false (eqb (kind t) 31 || eqb (kind t) 35 || eqb (kind t) 36 || eqb (kind t) 41))
