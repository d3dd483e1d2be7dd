-- What the words show of a node, as the scans see it. Assumes nothing.
use mathlib.Core.Path.{◌≡◌, refl, sym, ap, ap₂, ◌∙◌}
use mathlib.Core.Bool.{Bool, true, false, ◌&&◌, ◌||◌, not}
use mathlib.Core.Logic.{inl}
use mathlib.Core.List.{List, [], ◌∷◌, ◌++◌}
use Prim.Native.Nat.{ℕ, zero, suc, ◌+◌, ◌-◌, ◌≤◌, ◌<◌}
use native.Mathlib.Omega.{arith}
use borrow.Author.Tests.{eq-eqb, ne_eqb}
use lib.Dec.{eqb}
use lib.ListN.{length, get_or, set}
use Rattle.def_tree.specs.Base.{pick}
use Rattle.def_tree.specs.Tree.{Tree, Forest, node, nil, cons, kind, kids, count, Core, no_core}
use Rattle.def_tree.proofs.Place.{append_f}
use Rattle.def_pass.specs.Tree.{head_t, in_pattern}
use Rattle.def_pass.specs.Twice.{is_function, no_literal, declarator, declarators, vars_f}
use Rattle.words.specs.Layout.{tree, node_of}
use Rattle.words.proofs.Nodes.{tree-length, tree-at}
use Rattle.words_nodes.specs.Nodes.{Planted, tree_from, forest_from}
use Rattle.words_nodes.proofs.Loops.{Open, open-first, open_in, open-past, forest-first}
use Rattle.words_nodes.proofs.Words.{tree-whole, in_tree}
use Rattle.words_twice.specs.declared.Seen.{Seen}
use Rattle.words_twice.specs.declared.Seen.TheVariants.{Never}
use Rattle.words_twice.specs.Twice.{next, Declares, is_binding, named, is_costly, own, Stand}
use Rattle.words_twice.proofs.Places.{tree_is, forest-none, forest-cons, open-stand}
use Rattle.words_twice.proofs.Declaring.{Declaring, declares-none, declares-as, declares-one, declaring-past, declaring-in, named_in, named-past, vars-shut, vars-open}

or_true : (b : Bool) → (b || true) ≡ true
or_true true = refl
or_true false = refl

module _ {w : List ℕ} (g : Planted w) {j : ℕ} (l : j < get_or w 0 0) where
  abbrev t : Tree
  t = tree_from (tree w) j

  abbrev n : Core
  n = node_of w j

  there : j < length (tree w)
  there = rw tree-length l

  -- the node stands in the words
  pub in-words : (16384 ≤ length w) × (j < 1024)
  in-words = (g.good.long, omega (arith, g.good.nodes, l))

  pub node-tree : t ≡ node n.kind n.form n.num (forest_from (tree w) n.arity (j + 1))
  node-tree = tree_is (tree w) j there ∙ ap (λ (c : Core). node c.kind c.form c.num (forest_from (tree w) c.arity (j + 1))) (tree-at w j l)

  pub node-kids : kids t ≡ forest_from (tree w) n.arity (j + 1)
  node-kids = ap kids node-tree

  kids-open : Open (tree w) (j + 1) n.arity
  kids-open =
      let o : Open (tree w) (j + 1) (1 - 1 + (get_or (tree w) j no_core).arity) = open_in (tree-whole g) (open-first (tree w) j there) (omega arith) in
      let e : 1 - 1 + (get_or (tree w) j no_core).arity ≡ n.arity = omega (arith, ap (λ (c : Core). c.arity) (tree-at w j l)) in
      rw e at o

  pub kids-stand : Stand (tree w) (j + 1) n.arity
  kids-stand = open-stand (omega (arith, there)) kids-open

  -- a binding is one of 256
  pub below : n.kind ≡ 20 → n.num < 256
  below e = let h = rw (tree-at w j l) at (g.good.names j) in h (inl e)

  module _ {seen : List Seen} (size : length seen ≡ 256) (c : Bool) where
    pub name-none : (n.kind ≡ 20 → ⊥) → Declares seen seen (λ x. pick (is_binding x n) (c ∷ []) [])
    name-none h = declares-none size (λ x. ap (λ (b : Bool). pick (b && eqb n.num x) (c ∷ []) []) (ne_eqb n.kind 20 h))

    pub name-one : n.kind ≡ 20 → {k : ℕ} → k ≡ n.num → Declares seen (set seen k (next (get_or seen k Never) c)) (λ x. pick (is_binding x n) (c ∷ []) [])
    name-one e q = rw q (declares-as (declares-one seen c size (below e)) (λ x. ap (λ (b : Bool). pick (b && eqb n.num x) (c ∷ []) []) (eq-eqb n.kind 20 e)))

  -- part of a pattern, or not
  module _ (c : Bool) (x : ℕ) (ts : Forest) where
    pattern-here : in_pattern n.kind ≡ true → named c x (cons t ts) ≡ [] ++ named c x (append_f (forest_from (tree w) (get_or (tree w) j no_core).arity (j + 1)) ts)
    pattern-here h =
        ap (λ (u : Tree). named c x (cons u ts)) node-tree ∙ named_in c x n.kind n.form n.num (forest_from (tree w) n.arity (j + 1)) ts h
        ∙ ap (λ (y : Core). named c x (append_f (forest_from (tree w) y.arity (j + 1)) ts)) (sym (tree-at w j l))

    name-here : in_pattern n.kind ≡ false → named c x (cons t ts) ≡ pick (is_binding x n) (c ∷ []) [] ++ named c x ts
    name-here h = ap (λ (u : Tree). named c x (cons u ts)) node-tree ∙ named-past c x n.kind n.form n.num (forest_from (tree w) n.arity (j + 1)) ts h

  -- a declarator
  module _ {c : ℕ} (ec : c ≡ n.arity) where
    no-kids : c ≡ 0 → kids t ≡ nil
    no-kids z = node-kids ∙ ap (λ (k : ℕ). forest_from (tree w) k (j + 1)) (sym ec ∙ z) ∙ forest-none (tree w) (j + 1)

    pub declares-nothing : c ≡ 0 → {seen : List Seen} → length seen ≡ 256 → Declares seen seen (λ x. declarator x (kids t))
    declares-nothing z size = declares-none size (λ x. ap (declarator x) (no-kids z))

    module _ (z : 0 < c) where
      some-kids : 0 < n.arity
      some-kids = omega (arith, ec)

      pub first-in : j + 1 < get_or w 0 0
      first-in = in_tree g kids-open some-kids

      pub first-stands : Stand (tree w) (j + 1) 1
      first-stands = open-stand (omega (arith, tree-length w, first-in)) (open-first (tree w) (j + 1) (rw tree-length first-in))

      abbrev name : Tree
      name = tree_from (tree w) (j + 1)

      abbrev e : ℕ
      e = j + 1 + count name

      abbrev others : Forest
      others = forest_from (tree w) (n.arity - 1) e

      split : kids t ≡ cons name others
      split = node-kids ∙ forest-cons (tree-whole g) kids-open some-kids

      pub declares-name : {old new : List Seen} {b : Bool} → b ≡ is_costly (kids t) → Declares old new (λ x. named b x (forest_from (tree w) 1 (j + 1))) → Declares old new (λ x. declarator x (kids t))
      declares-name {old} {new} {b} q d = declares-as d (λ x.
          ap (declarator x) split
          ∙ ap₂ {C = List Bool} (λ (p : Bool) (ts : Forest). named p x ts) (ap is_costly (sym split) ∙ sym q) (sym (forest-first (tree w) (j + 1) (rw tree-length first-in))))

      -- its initialiser
      module _ (q : 2 ≤ c) where
        second-open : Open (tree w) e (n.arity - 1)
        second-open = open-past (tree-whole g) kids-open some-kids

        more_kids : 0 < n.arity - 1
        more_kids = omega (arith, ec)

        pub second-in : e < get_or w 0 0
        second-in = in_tree g second-open more_kids

        kind-from : (i : ℕ) → i < get_or w 0 0 → kind (tree_from (tree w) i) ≡ (node_of w i).kind
        kind-from i m = ap kind (tree_is (tree w) i (rw tree-length m)) ∙ ap (λ (y : Core). y.kind) (tree-at w i m)

        abbrev pattern! : Bool
        pattern! = eqb (node_of w (j + 1)).kind 45 || eqb (node_of w (j + 1)).kind 46

        costly-is : is_costly (kids t) ≡ (pattern! || not (eqb (node_of w e).kind 22))
        costly-is =
            ap is_costly split ∙ ap (λ (ts : Forest). no_literal name (head_t ts)) (forest-cons (tree-whole g) second-open more_kids)
            ∙ ap₂ {C = Bool} (λ (k m : ℕ). (eqb k 45 || eqb k 46) || not (eqb m 22)) (kind-from (j + 1) first-in) (kind-from e second-in)

        pub costly-pattern : pattern! ≡ true → true ≡ is_costly (kids t)
        costly-pattern h = sym (costly-is ∙ ap (λ (b : Bool). b || not (eqb (node_of w e).kind 22)) h)

        pub costly-value : ((node_of w e).kind ≡ 22 → ⊥) → true ≡ is_costly (kids t)
        costly-value h = sym (costly-is ∙ ap (λ (b : Bool). pattern! || not b) (ne_eqb (node_of w e).kind 22 h) ∙ or_true pattern!)

        pub costly-literal : pattern! ≡ false → (node_of w e).kind ≡ 22 → false ≡ is_costly (kids t)
        costly-literal o h = sym (costly-is ∙ ap₂ {C = Bool} (λ (b c : Bool). b || not c) o (eq-eqb (node_of w e).kind 22 h))

    -- it has none
    pub costly-none : c < 2 → false ≡ is_costly (kids t)
    costly-none m = go c ec m
      where
        go : (k : ℕ) → k ≡ n.arity → k < 2 → false ≡ is_costly (kids t)
        go zero q m = sym (ap is_costly (node-kids ∙ ap (λ (k : ℕ). forest_from (tree w) k (j + 1)) (sym q) ∙ forest-none (tree w) (j + 1)))
        go (suc k) q m =
            let z : n.arity - 1 ≡ 0 = omega (arith, q) in
            sym (ap is_costly (node-kids ∙ forest-cons (tree-whole g) kids-open (omega (arith, q))) ∙ ap (λ (ts : Forest). no_literal (tree_from (tree w) (j + 1)) (head_t ts)) (ap (λ (k : ℕ). forest_from (tree w) k (j + 1 + count (tree_from (tree w) (j + 1)))) z ∙ forest-none (tree w) (j + 1 + count (tree_from (tree w) (j + 1)))))

  -- a `var`
  abbrev by : ℕ → Bool → List Bool
  by x b = pick b (declarators x (forest_from (tree w) n.arity (j + 1))) []

  own_is : (x : ℕ) → own x t ≡ by x (eqb n.kind 5 && eqb n.form 0)
  own_is x = ap (own x) node-tree

  pub own-other : (n.kind ≡ 5 → ⊥) → {seen : List Seen} → length seen ≡ 256 → Declares seen seen (λ x. own x t)
  own-other h size = declares-none size (λ x. own_is x ∙ ap (λ (b : Bool). by x (b && eqb n.form 0)) (ne_eqb n.kind 5 h))

  module _ (e : n.kind ≡ 5) where
    own-form : (x : ℕ) → own x t ≡ by x (eqb n.form 0)
    own-form x = own_is x ∙ ap (λ (b : Bool). by x (b && eqb n.form 0)) (eq-eqb n.kind 5 e)

    pub own-let : (n.form ≡ 0 → ⊥) → {seen : List Seen} → length seen ≡ 256 → Declares seen seen (λ x. own x t)
    own-let h size = declares-none size (λ x. own-form x ∙ ap (by x) (ne_eqb n.form 0 h))

    pub own-var : n.form ≡ 0 → {c : ℕ} → c ≡ n.arity → {old new : List Seen} → Declares old new (λ x. declarators x (forest_from (tree w) c (j + 1))) → Declares old new (λ x. own x t)
    own-var h q d = declares-as d (λ x. own-form x ∙ ap (by x) (eq-eqb n.form 0 h) ∙ ap (λ (k : ℕ). declarators x (forest_from (tree w) k (j + 1))) (sym q))

  -- a function, or not
  shut-here : is_function n.kind ≡ true → (x : ℕ) (ts : Forest) → vars_f x (cons t ts) ≡ [] ++ vars_f x ts
  shut-here h x ts = vars-shut x t ts (ap is_function (ap kind node-tree) ∙ h)

  open-here : is_function n.kind ≡ false → (x : ℕ) (ts : Forest) → vars_f x (cons t ts) ≡ own x t ++ vars_f x (append_f (forest_from (tree w) (get_or (tree w) j no_core).arity (j + 1)) ts)
  open-here h x ts =
      vars-open x t ts (ap is_function (ap kind node-tree) ∙ h)
      ∙ ap (λ (us : Forest). own x t ++ vars_f x (append_f us ts)) (node-kids ∙ ap (λ (y : Core). forest_from (tree w) y.arity (j + 1)) (sym (tree-at w j l)))

-- a loop over nodes, into patterns
module _ {w : List ℕ} (g : Planted w) (c : Bool) {i n : ℕ} {old now : List Seen} {at more : ℕ} (h : Declaring (named c) (tree w) i n old now at more) (z : 0 < more) where
  pub names-in : in_pattern (node_of w at).kind ≡ true → {a : ℕ} → a ≡ (get_or (tree w) at no_core).arity → Declaring (named c) (tree w) i n old now (at + 1) (more - 1 + a)
  names-in f q = declaring-in h (tree-whole g) z (λ x. []) (declares-none h.size (λ x. refl)) (λ x ts. pattern-here g (in_tree g h.still z) c x ts f) q

  pub names-past : in_pattern (node_of w at).kind ≡ false → {new : List Seen} → Declares now new (λ x. pick (is_binding x (node_of w at)) (c ∷ []) []) → {behind : ℕ} → behind ≡ at + count (tree_from (tree w) at) → Declaring (named c) (tree w) i n old new behind (more - 1)
  names-past f d q = declaring-past h (tree-whole g) z (λ x. pick (is_binding x (node_of w at)) (c ∷ []) []) d (λ x ts. name-here g (in_tree g h.still z) c x ts f) q

-- a loop over declarators
module _ {w : List ℕ} (g : Planted w) {i n : ℕ} {old now : List Seen} {at k : ℕ} (h : Declaring declarators (tree w) i n old now at (n - k)) (z : k < n) where
  pub declarators-next : {new : List Seen} → Declares now new (λ x. declarator x (kids (tree_from (tree w) at))) → {behind : ℕ} → behind ≡ at + count (tree_from (tree w) at) → Declaring declarators (tree w) i n old new behind (n - (k + 1))
  declarators-next d q =
      let m : n - (k + 1) ≡ n - k - 1 = omega arith in
      rw m (declaring-past h (tree-whole g) (omega arith) (λ x. declarator x (kids (tree_from (tree w) at))) d (λ x ts. refl) q)

-- a loop over nodes, past functions
module _ {w : List ℕ} (g : Planted w) {i n : ℕ} {old now : List Seen} {at more : ℕ} (h : Declaring vars_f (tree w) i n old now at more) (z : 0 < more) where
  pub vars-past : is_function (node_of w at).kind ≡ true → {behind : ℕ} → behind ≡ at + count (tree_from (tree w) at) → Declaring vars_f (tree w) i n old now behind (more - 1)
  vars-past f q = declaring-past h (tree-whole g) z (λ x. []) (declares-none h.size (λ x. refl)) (shut-here g (in_tree g h.still z) f) q

  pub vars-in : is_function (node_of w at).kind ≡ false → {new : List Seen} → Declares now new (λ x. own x (tree_from (tree w) at)) → {a : ℕ} → a ≡ (get_or (tree w) at no_core).arity → Declaring vars_f (tree w) i n old new (at + 1) (more - 1 + a)
  vars-in f d q = declaring-in h (tree-whole g) z (λ x. own x (tree_from (tree w) at)) d (open-here g (in_tree g h.still z) f) q
