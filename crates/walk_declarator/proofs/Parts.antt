-- The steps of declarators by their parts. Assumes nothing.
use mathlib.Core.Path.{◌≡◌, refl, sym, ap, ◌∙◌}
use mathlib.Core.List.{List, [], ◌∷◌}
use mathlib.Core.Bool.{Bool, true, false, ◌||◌, ◌&&◌, not}
use mathlib.Core.Option.{Option, none, some}
use Prim.Native.Nat.{ℕ, zero, suc, ◌+◌, ◌-◌, ◌≤◌, ◌<◌}
use native.Mathlib.Omega.{arith}
use lib.ListN.{length, get_or, drop, length-drop}
use lib.Seq.{drop-drop}
use lib.Dec.{eqb}
use Rattle.def_tree.specs.Base.{pick}
use Rattle.def_tree.specs.Tree.{Tree, Forest, Core, node, form, num, nil, cons, length_f, count, counts, plant, take_f, drop_f, first_t}
use Rattle.def_tree.proofs.Whole.{Whole, whole_drop}
use Rattle.def_tree.specs.Combine.{Res, stop, done, Nothing, and_then, ret, iff, ◌>>◌, tree_at}
use Rattle.def_pass.specs.Tree.{is_ident, is_cheap, has_this, head_t, tail_f}
use Rattle.def_pass.specs.Scope as def
use Rattle.def_pass.specs.Scope.{VarInfo, Stack, VarType, is_const, add_const, is_inline_prevented, prevent_inline, find_binding, mark_of, has_same_this}
use Rattle.def_pass.specs.Walk.{St, M, when, mark, grow, declare_m, declr_analysis, over_m, stays, takes, read_once?}
use Rattle.std.specs.Bool.{then_some}
use Rattle.scope.specs.Given.{value_at}
use Rattle.scope_declare.proofs.Init.{from-kind}
use Rattle.scope.proofs.Numbers.{tree-in}
use Rattle.words.specs.Layout.{node_of, tree}
use Rattle.words.proofs.Nodes.{tree-length}
use Rattle.words_nodes.specs.Nodes.{Planted, tree_from, forest_from}
use Rattle.words_nodes.proofs.Trees.{trees-le, plant-behind}
use Rattle.words_nodes.proofs.Words.{tree-whole}
use Rattle.scope_find.specs.Look.{reads_o}
use Rattle.walk_declarator.specs.Steps.{named, over_none, over_const, over_cheap, over_other, wants, take_ident, take_value, take_or_mark, take_init, cheap_at}

-- a literal or an identifier, and what is recorded of a constant's value
pub cheap-is : (w : List ℕ) (i k : ℕ) → i < get_or w 0 0 → k ≡ (node_of w i).kind → (eqb k 22 || eqb k 21) ≡ is_cheap (tree_from (tree w) i)
cheap-is w i k l e = ap (λ (n : ℕ). eqb n 22 || eqb n 21) (e ∙ sym (from-kind w i l))

cheap-value : (w : List ℕ) (i : ℕ) (b : Bool) → i < get_or w 0 0 → pick b (some (tree_from (tree w) i)) none ≡ value_at (tree w) (then_some b i)
cheap-value w i true l = sym (tree-in w i l)
cheap-value w i false l = refl

pub kept-is : (w : List ℕ) (j : ℕ) (p : Bool) → j < get_or w 0 0 → p ≡ is_cheap (tree_from (tree w) j) → value_at (tree w) (then_some p j) ≡ cheap_at w j
unfolding tree_at tree_from
kept-is w j p l e = sym (cheap-value w j p l) ∙ ap (λ (c : Bool). pick c (some (tree_from (tree w) j)) none) e

-- a constant
module _ (x : ℕ) (s : St) (e : Tree) where
  pub const-later : s.is_first_run ≡ false → over_const x e s ≡ done s tt
  unfolding over_const
  const-later f = rw f refl

  pub const-first : (v : Option Tree) → pick (is_cheap e) (some e) none ≡ v → s.is_first_run ≡ true → over_const x e s ≡ grow (add_const s.targeted x v) s
  unfolding over_const
  const-first v h f = rw (f, h) refl

-- declr_analysis
module _ (f x : ℕ) (s : St) where
  pub none-const : is_const s.var_decl_kind ≡ true → over_none f x s ≡ done s tt
  unfolding over_none
  none-const e = rw e refl

  pub none-declared : (k : VarType) → k ≡ s.var_decl_kind → is_const s.var_decl_kind ≡ false → over_none f x s ≡ declare_m (named f x) def.no_init true k s
  unfolding over_none
  none-declared k d e = rw (d, e) refl

  pub none_is : declr_analysis (named f x) none s ≡ and_then (over_none f x s) (λ u. ret false)
  unfolding declr_analysis over_none
  none_is = refl

  module _ (e : Tree) where
    pub some-const : is_const s.var_decl_kind ≡ true → declr_analysis (named f x) (some e) s ≡ and_then (over_const x e s) (λ u. ret false)
    unfolding declr_analysis over_const
    some-const c = rw c refl

    pub some-cheap : (k : VarType) → k ≡ s.var_decl_kind → is_const s.var_decl_kind ≡ false → is_cheap e ≡ true → declr_analysis (named f x) (some e) s ≡ and_then (over_cheap f x k e s) (λ u. ret false)
    unfolding declr_analysis over_cheap
    some-cheap k d c h = rw (d, c, h) (go (declare_m (named f x) (def.recorded e) false s.var_decl_kind s))
      where
        go : (r : Res St Nothing) → and_then r (λ a s₁. and_then (when (is_inline_prevented e s₁.stack) (mark (prevent_inline x)) s₁) (λ u. ret false)) ≡ and_then (and_then r (λ a s₁. when (is_inline_prevented e s₁.stack) (mark (prevent_inline x)) s₁)) (λ u. ret false)
        go (stop n) = refl
        go (done s₁ a) = refl

    pub some-other : (k : VarType) → k ≡ s.var_decl_kind → is_const s.var_decl_kind ≡ false → is_cheap e ≡ false → declr_analysis (named f x) (some e) s ≡ over_other f x k e s
    unfolding declr_analysis over_other
    some-other k d c h = rw (d, c, h) (ap (λ (g : Nothing → M Bool). and_then (declare_m (named f x) (def.seen e) false s.var_decl_kind s) g) (go (has_this e)))
      where
        go : (b : Bool) → ◌≡◌ {A = Nothing → M Bool} (λ a. iff b (mark (prevent_inline x) >> ret true) (ret false)) (λ a. when b (mark (prevent_inline x)) >> ret b)
        go true = refl
        go false = refl

-- declared, and then marked
module _ (f x : ℕ) (k : VarType) (e : Tree) (s : St) where
  pub cheap-then : over_cheap f x k e s ≡ and_then (declare_m (named f x) (def.recorded e) false k s) (λ u s₁. when (is_inline_prevented e s₁.stack) (mark (prevent_inline x)) s₁)
  unfolding over_cheap
  cheap-then = refl

  pub other-then : over_other f x k e s ≡ and_then (declare_m (named f x) (def.seen e) false k s) (λ u. when (has_this e) (mark (prevent_inline x)) >> ret (has_this e))
  unfolding over_other
  other-then = refl

-- takes
module _ (f x : ℕ) (k : VarType) (e : Tree) (s : St) where
  pub ident-yes : is_ident e ≡ true → take_ident f x k e s ≡ declare_m (named f x) (def.recorded e) false k s
  unfolding take_ident
  ident-yes h = rw h refl

  pub ident-no : is_ident e ≡ false → take_ident f x k e s ≡ done s tt
  unfolding take_ident
  ident-no h = rw h refl

  pub value-yes : wants x e s.stack ≡ true → take_value f x k e s ≡ and_then (declare_m (named f x) (def.recorded e) false k s) (λ u. ret true)
  unfolding take_value
  value-yes h = rw h refl

  pub value-no : wants x e s.stack ≡ false → take_value f x k e s ≡ done s false
  unfolding take_value
  value-no h = rw h refl

  pub marked : is_inline_prevented e s.stack ≡ true → take_or_mark f x k e s ≡ and_then (when true (mark (prevent_inline x)) s) (λ u. ret false)
  unfolding take_or_mark
  marked h = rw h refl

  pub unmarked : is_inline_prevented e s.stack ≡ false → take_or_mark f x k e s ≡ take_value f x k e s
  unfolding take_or_mark
  unmarked h = rw h refl

  pub init-then : take_init f x k e s ≡ and_then (take_ident f x k e s) (λ u. take_or_mark f x k e)
  unfolding take_init
  init-then = refl

-- the name alone
abbrev pub once_o : Option ℕ → Bool
once_o none = false
once_o (some n) = eqb n 1

once-reads : (o : Option VarInfo) → read_once? o ≡ once_o (reads_o o)
once-reads none = refl
once-reads (some b) = refl

module _ (x : ℕ) (st : Stack) where
  pub stays-marked : (ts : Forest) → mark_of (find_binding x st) ≡ true → stays (named 0 x) ts st ≡ true
  unfolding stays
  stays-marked nil h = h
  stays-marked (cons t ts) h = ap (λ (b : Bool). b || not (has_same_this (find_binding x st) (some t))) h

  pub stays-none : mark_of (find_binding x st) ≡ false → stays (named 0 x) nil st ≡ false
  unfolding stays
  stays-none h = h

  pub stays-some : (t : Tree) (ts : Forest) → mark_of (find_binding x st) ≡ false → stays (named 0 x) (cons t ts) st ≡ not (has_same_this (find_binding x st) (some t))
  unfolding stays
  stays-some t ts h = ap (λ (b : Bool). b || not (has_same_this (find_binding x st) (some t))) h

  pub wants-no : (e : Tree) → is_cheap e ≡ false → mark_of (find_binding x st) ≡ true → wants x e st ≡ false
  wants-no e c h = ap (λ (b : Bool). b || (not (mark_of (find_binding x st)) && read_once? (find_binding x st))) c ∙ ap (λ (b : Bool). not b && read_once? (find_binding x st)) h

  pub wants-once : (e : Tree) → is_cheap e ≡ false → mark_of (find_binding x st) ≡ false → wants x e st ≡ once_o (reads_o (find_binding x st))
  wants-once e c h = ap (λ (b : Bool). b || (not (mark_of (find_binding x st)) && read_once? (find_binding x st))) c ∙ ap (λ (b : Bool). not b && read_once? (find_binding x st)) h ∙ once-reads (find_binding x st)

-- trees from i on
pub some-tree : (xs : List Core) → 0 < length xs → 0 < length_f (plant xs)
some-tree [] h = absurd (omega arith)
some-tree (x ∷ xs) h = omega arith

pub some-trees : (w : List ℕ) (i : ℕ) → 0 < length_f (plant (drop i (tree w))) → i < get_or w 0 0
some-trees w i h = omega (arith, trees-le (drop i (tree w)), length-drop i (tree w), tree-length w)

first_of : (n : ℕ) (ts : Forest) → 0 < n → 0 < length_f ts → take_f n ts ≡ cons (first_t ts) (take_f (n - 1) (tail_f ts))
first_of zero ts a b = absurd (omega arith)
first_of (suc n) nil a b = absurd (omega arith)
first_of (suc n) (cons t ts) a b = let e : suc n - 1 ≡ n = omega arith in rw e refl

pub forest-none : (xs : List Core) (n i : ℕ) → n ≡ 0 → forest_from xs n i ≡ nil
unfolding forest_from
forest-none xs n i e = rw e refl

pub forest-some : (xs : List Core) (n i : ℕ) → 0 < n → 0 < length_f (plant (drop i xs)) → forest_from xs n i ≡ cons (tree_from xs i) (take_f (n - 1) (tail_f (plant (drop i xs))))
unfolding forest_from tree_from
forest-some xs n i a b = first_of n (plant (drop i xs)) a b

one_none : (n : ℕ) (ts : Forest) → n < 2 → head_t (tail_f (take_f n ts)) ≡ none
one_none zero ts h = refl
one_none (suc zero) nil h = refl
one_none (suc zero) (cons t ts) h = refl
one_none (suc (suc n)) ts h = absurd (omega arith)

two-some : (n : ℕ) (ts : Forest) → 2 ≤ n → n ≤ length_f ts → head_t (tail_f (take_f n ts)) ≡ some (first_t (tail_f ts))
two-some zero ts a b = absurd (omega arith)
two-some (suc zero) ts a b = absurd (omega arith)
two-some (suc (suc n)) nil a b = absurd (omega arith)
two-some (suc (suc n)) (cons t nil) a b = absurd (omega arith)
two-some (suc (suc n)) (cons t (cons u us)) a b = refl

one-count : (ts : Forest) → 0 < length_f ts → counts (take_f 1 ts) ≡ count (first_t ts)
one-count nil h = absurd (omega arith)
one-count (cons t ts) h = omega arith

one-behind : (ts : Forest) → drop_f 1 ts ≡ tail_f ts
one-behind nil = refl
one-behind (cons t ts) = refl

behind-first : (xs : List Core) → Whole xs → 0 < length_f (plant xs) → plant (drop (count (first_t (plant xs))) xs) ≡ tail_f (plant xs)
behind-first xs h l = ap (λ (n : ℕ). plant (drop n xs)) (sym (one-count (plant xs) l)) ∙ plant-behind 1 xs h ∙ one-behind (plant xs)

length-tail : (ts : Forest) → 2 ≤ length_f ts → 0 < length_f (tail_f ts)
length-tail nil h = absurd (omega arith)
length-tail (cons t ts) h = omega arith

-- a declarator's trees: the name alone, and the initialiser behind it
pub over-one : (f x n i : ℕ) (xs : List Core) (s : St) → n < 2 → over_m (named f x) (forest_from xs n i) s ≡ and_then (over_none f x s) (λ u. ret false)
unfolding over_m forest_from
over-one f x n i xs s h = ap (λ (o : Option Tree). declr_analysis (named f x) o s) (one_none n (plant (drop i xs)) h) ∙ none_is f x s

module _ {w : List ℕ} (g : Planted w) (n i e : ℕ) (h : n ≤ length_f (plant (drop i (tree w)))) (two : 2 ≤ n) (at : e ≡ i + count (tree_from (tree w) i)) where
  abbrev ts : Forest
  ts = plant (drop i (tree w))

  behind : plant (drop e (tree w)) ≡ tail_f ts
  unfolding tree_from
  behind = ap (λ (k : ℕ). plant (drop k (tree w))) at ∙ ap plant (sym (drop-drop (count (first_t ts)) i (tree w))) ∙ behind-first (drop i (tree w)) (whole_drop i (tree w) (tree-whole g)) (omega arith)

  pub second-in : e < get_or w 0 0
  second-in = some-trees w e (rw behind (length-tail ts (omega arith)))

  pub over-two : (f x : ℕ) (s : St) → over_m (named f x) (forest_from (tree w) n i) s ≡ declr_analysis (named f x) (some (tree_from (tree w) e)) s
  unfolding over_m forest_from tree_from
  over-two f x s = ap (λ (o : Option Tree). declr_analysis (named f x) o s) (two-some n ts two h ∙ ap (λ (us : Forest). some (first_t us)) (sym behind))

-- of a name only the form and the number are looked at
declr-name : (name : Tree) (o : Option Tree) → declr_analysis name o ≡ declr_analysis (named (form name) (num name)) o
unfolding declr_analysis declare_m
declr-name name none = refl
declr-name name (some e) = refl

pub over-name : (name : Tree) (ts : Forest) → over_m name ts ≡ over_m (named (form name) (num name)) ts
unfolding over_m
over-name name ts = declr-name name (head_t (tail_f ts))

pub stays-name : (name : Tree) (ts : Forest) → stays name ts ≡ stays (named 0 (num name)) ts
unfolding stays
stays-name (node k f a us) nil = refl
stays-name (node k f a us) (cons e es) = refl

pub takes-name : (k : VarType) (name : Tree) (ts : Forest) → takes k name ts ≡ takes k (named (form name) (num name)) ts
unfolding takes declare_m
takes-name k (node l f a us) nil = refl
takes-name k (node l f a us) (cons e es) = refl
