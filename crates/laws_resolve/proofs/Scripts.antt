-- The same of scripts: node for node. Assumes nothing.
use mathlib.Core.Path.{◌≡◌, refl, sym, ap, ap₂, ◌∙◌, subst}
use mathlib.Core.Bool.{Bool, true, false, ◌&&◌, ◌||◌}
use mathlib.Core.List.{List, [], ◌∷◌, map}
use Prim.Native.Nat.{ℕ, zero, suc, ◌+◌, ◌-◌, ◌<◌}
use native.Mathlib.Omega.{arith}
use lib.Dec.{T, eqb, ltb}
use lib.ListN.{length, get_or, get_or-map, length-map}
use borrow.Author.Tests.{ltb-true, ltb-false, eqb-true, eq-eqb, both_ways}
use Rattle.std.proofs.Math.Option.{Option, some}
use Rattle.def_tree.specs.Base.{pick, to_nat}
use Rattle.def_tree.specs.Tree.{Core, core, no_core, flat, flats}
use Rattle.def_tree.proofs.Tests.{is_T, is_true, and_left, and_right, both}
use Rattle.def_file.specs.declared.Raw.{Raw}
use Rattle.def_file.specs.declared.kinds.Class.TheVariants.{Root}
use Rattle.def_file.specs.Kinds.{allows, row_of, form_ok, count_ok, child_of, uses_text}
use Rattle.def_file.specs.Script.{Script, is_lit, has_id, same_id, is_arguments, place_of, idents, node_at, zero_node}
use Rattle.def_file.specs.Read.{Place, node_ok, below, fills, nodes_ok}
use Rattle.def_file.specs.Core.{core_node, core_from, core_nodes}
use Rattle.def_file.proofs.Tested.{lit-no-id}
use Rattle.def_pass.specs.Tree.{Tree, Forest, node, nil, cons, count, counts, head_t}
use Rattle.def_pass.specs.Paired.{Number}
use Rattle.laws_flat.proofs.File.{Planted, planted-ok}
use Rattle.def_resolve.specs.Scopes.{apart}
use Rattle.def_resolve.specs.Resolve.{is_name, resolve, bare_node, bare, names_tree, contexts_of, put_contexts, resolved}
use Rattle.laws_resolve.specs.Variables.{nth, nth_f, variable, number_of}
use Rattle.laws_resolve.specs.Laws.{variable_o, variable_in, ByVariables, SameButContexts, Exactly}
use Rattle.laws_resolve.proofs.Numbers.{resolve-count}
use Rattle.laws_resolve.proofs.Apart.{numbered-names, numbers-apart}

-- a tree's nodes in the list
mutual
  pub nth-flat : (t : Tree) (xs : List Core) (n : ℕ) → n < count t → get_or (flat t xs) n no_core ≡ nth t n
  nth-flat (node k f a ts) xs zero l = refl
  nth-flat (node k f a ts) xs (suc n) l = nth-flats ts xs n (omega (arith, l))

  pub nth-flats : (ts : Forest) (xs : List Core) (n : ℕ) → n < counts ts → get_or (flats ts xs) n no_core ≡ nth_f ts n
  nth-flats nil xs n l = absurd (omega (arith, l))
  nth-flats (cons t ts) xs n l =
      go (ltb n (count t)) refl (λ e. nth-flat t (flats ts xs) n (ltb-true n (count t) e))
      (λ e. (let k : count t + (n - count t) ≡ n = omega (arith, ltb-false n (count t) e) in ap (λ (i : ℕ). get_or (flat t (flats ts xs)) i no_core) (sym k) ∙ past-flat t (flats ts xs) (n - count t) ∙ nth-flats ts xs (n - count t) (omega (arith, l, ltb-false n (count t) e))))
    where
      go : (p : Bool) → ltb n (count t) ≡ p → (ltb n (count t) ≡ true → get_or (flat t (flats ts xs)) n no_core ≡ nth t n) → (ltb n (count t) ≡ false → get_or (flat t (flats ts xs)) n no_core ≡ nth_f ts (n - count t))
          → get_or (flat t (flats ts xs)) n no_core ≡ elim p as (λ z. Core) [ true ↦ nth t n | false ↦ nth_f ts (n - count t) ]
      go true e f g = f e
      go false e f g = g e

  past-flat : (t : Tree) (xs : List Core) (n : ℕ) → get_or (flat t xs) (count t + n) no_core ≡ get_or xs n no_core
  past-flat (node k f a ts) xs n = (let e : suc (counts ts) + n ≡ suc (counts ts + n) = omega arith in ap (λ (i : ℕ). get_or (flat (node k f a ts) xs) i no_core) e ∙ past-flats ts xs n)

  past-flats : (ts : Forest) (xs : List Core) (n : ℕ) → get_or (flats ts xs) (counts ts + n) no_core ≡ get_or xs n no_core
  past-flats nil xs n = (let e : 0 + n ≡ n = omega arith in ap (λ (i : ℕ). get_or xs i no_core) e)
  past-flats (cons t ts) xs n = (let e : count t + counts ts + n ≡ count t + (counts ts + n) = omega arith in ap (λ (i : ℕ). get_or (flat t (flats ts xs)) i no_core) e ∙ past-flat t (flats ts xs) (counts ts + n) ∙ past-flats ts xs n)

mutual
  pub length-flat : (t : Tree) (xs : List Core) → length (flat t xs) ≡ count t + length xs
  length-flat (node k f a ts) xs = ap suc (length-flats ts xs) ∙ omega arith

  length-flats : (ts : Forest) (xs : List Core) → length (flats ts xs) ≡ counts ts + length xs
  length-flats nil xs = omega arith
  length-flats (cons t ts) xs = length-flat t (flats ts xs) ∙ ap (λ (i : ℕ). count t + i) (length-flats ts xs) ∙ omega arith

core-count : (s : Script) (n : ℕ) (xs : List Raw) → length (core_from s n xs) ≡ length xs
core-count s n [] = refl
core-count s n (x ∷ xs) = ap suc (core-count s (suc n) xs)

core-at : (s : Script) (n : ℕ) (xs : List Raw) (i : ℕ) → i < length xs → get_or (core_from s n xs) i no_core ≡ core_node s (n + i) (get_or xs i zero_node)
core-at s n [] i l = absurd (omega (arith, l))
core-at s n (x ∷ xs) zero l = (let e : n ≡ n + zero = omega arith in ap (λ (m : ℕ). core_node s m x) e)
core-at s n (x ∷ xs) (suc i) l = (let e : suc n + i ≡ n + suc i = omega arith in core-at s (suc n) xs i (omega (arith, l)) ∙ ap (λ (m : ℕ). core_node s m (get_or xs i zero_node)) e)

-- a node with another context; both `bare_node` and `put_context` make one
abbrev pub put : Raw → ℕ → Raw
put x v = record { kind = x.kind; form = x.form; arity = x.arity; text = x.text; bits = pick (has_id x) v x.bits }

-- row 6 does not look at contexts
below-put : (x : Raw) (v n i m : ℕ) (ps : List Place) → below n (put x v) i m ps ≡ below n x i m ps
unfolding below
below-put x v n i zero ps = refl
below-put x v n i (suc m) ps = ap (λ (qs : List Place). record { class = child_of (row_of x.kind x.form) x.arity i; left = n } ∷ qs) (below-put x v n (suc i) m ps)

node-put : (t : ℕ) (p : Place) (x : Raw) (v : ℕ) → node_ok t p (put x v) ≡ node_ok t p x
unfolding node_ok
node-put t p x v =
    let r = row_of x.kind x.form in
    ap (λ (b : Bool). ltb 0 p.left && allows p.class x.kind x.arity && (pick (uses_text x.kind) (ltb x.text t) (eqb x.text 0) && b) && form_ok r x.form && count_ok r x.arity) (bits (eqb x.kind 20) (eqb x.kind 21) (eqb x.kind 24))
  where
    bits : (u w z : Bool) → (u || w || z || eqb (pick (u || w) v x.bits) 0) ≡ (u || w || z || eqb x.bits 0)
    bits true w z = refl
    bits false true z = refl
    bits false false z = refl

fills-bare : (t : ℕ) (ps : List Place) (xs : List Raw) → fills t ps (map bare_node xs) ≡ fills t ps xs
unfolding fills
fills-bare t [] [] = refl
fills-bare t [] (x ∷ xs) = refl
fills-bare t (p ∷ ps) [] = refl
fills-bare t (p ∷ ps) (x ∷ xs) = ap₂ {C = Bool} (λ (b r : Bool). elim b as (λ z. Bool) [ true ↦ r | false ↦ false ]) (node-put t p x 0)
    (ap (λ (qs : List Place). fills t qs (map bare_node xs)) (below-put x 0 (p.left - 1) 0 x.arity ps) ∙ fills-bare t (below (p.left - 1) x 0 x.arity ps) xs)

fills-put : (t : ℕ) (ps : List Place) (xs : List Raw) (cs : List Core) → fills t ps (put_contexts xs cs) ≡ fills t ps xs
unfolding fills
fills-put t ps [] cs = refl
fills-put t ps (x ∷ xs) [] = refl
fills-put t [] (x ∷ xs) (c ∷ cs) = refl
fills-put t (p ∷ ps) (x ∷ xs) (c ∷ cs) = ap₂ {C = Bool} (λ (b r : Bool). elim b as (λ z. Bool) [ true ↦ r | false ↦ false ]) (node-put t p x c.num)
    (ap (λ (qs : List Place). fills t qs (put_contexts xs cs)) (below-put x c.num (p.left - 1) 0 x.arity ps) ∙ fills-put t (below (p.left - 1) x 0 x.arity ps) xs cs)

pub nodes-ok-bare : (s : Script) → nodes_ok (bare s) ≡ nodes_ok s
unfolding nodes_ok
nodes-ok-bare s = fills-bare (length s.texts) (record { class = Root; left = 200 } ∷ []) s.nodes

pub nodes-ok-resolved : (s : Script) → nodes_ok (resolved s) ≡ nodes_ok s
unfolding nodes_ok resolved
nodes-ok-resolved s = fills-put (length s.texts) (record { class = Root; left = 200 } ∷ []) s.nodes (contexts_of (names_tree s))

-- contexts put into nodes
pub put-length : (xs : List Raw) (cs : List Core) → length (put_contexts xs cs) ≡ length xs
put-length [] cs = refl
put-length (x ∷ xs) [] = refl
put-length (x ∷ xs) (c ∷ cs) = ap suc (put-length xs cs)

pub put-at : (xs : List Raw) (cs : List Core) (i : ℕ) → i < length xs → length cs ≡ length xs → get_or (put_contexts xs cs) i zero_node ≡ put (get_or xs i zero_node) (get_or cs i no_core).num
put-at [] cs i l e = absurd (omega (arith, l))
put-at (x ∷ xs) [] i l e = absurd (omega (arith, e))
put-at (x ∷ xs) (c ∷ cs) zero l e = refl
put-at (x ∷ xs) (c ∷ cs) (suc i) l e = put-at xs cs i (omega (arith, l)) (omega (arith, e))

-- a name's core
lit-none : (x : Raw) → T (has_id x) → is_lit x ≡ false
lit-none x h = go (is_lit x) refl
  where
    go : (p : Bool) → is_lit x ≡ p → p ≡ false
    go true e = absurd (both_ways (has_id x) (lit-no-id x (is_T _ e)) (is_true _ h))
    go false e = refl

name-core : (s : Script) (n : ℕ) (x : Raw) → T (has_id x) → core_node s n x ≡ core x.kind (to_nat (is_arguments s x)) x.arity (place_of x (idents s))
unfolding core_node idents
name-core s n x h = rw (lit-none x h, is_true (has_id x) h) refl

-- a script that passed row 6, and its tree of names
module _ (s : Script) (o : nodes_ok s ≡ true) where
  p : Planted (bare s)
  p = planted-ok (bare s) (is_T _ (nodes-ok-bare s ∙ o))

  pub tree : Tree
  tree = p.tree

  pub is-tree : names_tree s ≡ some tree
  unfolding names_tree tree
  is-tree = ap head_t p.planted

  pub contexts : List Core
  contexts = flat (resolve apart tree [] 1) []

  pub contexts-are : contexts_of (names_tree s) ≡ contexts
  unfolding contexts
  contexts-are = ap contexts_of is-tree

  pub resolved-nodes : (resolved s).nodes ≡ put_contexts s.nodes contexts
  unfolding resolved contexts
  resolved-nodes = ap (λ (u : Option Tree). put_contexts s.nodes (contexts_of u)) is-tree

  pub tree-count : count tree ≡ length s.nodes
  unfolding tree core_nodes
  tree-count = (let l = length-flat p.tree [] in omega (arith, l)) ∙ ap length p.nodes ∙ core-count (bare s) 1 (bare s).nodes ∙ length-map s.nodes bare_node

  pub contexts-length : length contexts ≡ length s.nodes
  unfolding contexts
  contexts-length = (let l = length-flat (resolve apart tree [] 1) [] in omega (arith, l)) ∙ resolve-count apart tree [] 1 ∙ tree-count

  pub resolved-length : length (resolved s).nodes ≡ length s.nodes
  resolved-length = ap length resolved-nodes ∙ put-length s.nodes contexts

  pub node-is : (i : ℕ) → i < length s.nodes → node_at (resolved s) (suc i) ≡ put (node_at s (suc i)) (nth (resolve apart tree [] 1) i).num
  unfolding contexts
  node-is i l =
      ap (λ (xs : List Raw). get_or xs i zero_node) resolved-nodes
      ∙ put-at s.nodes contexts i l contexts-length
      ∙ ap (λ (c : Core). put (get_or s.nodes i zero_node) c.num) (nth-flat (resolve apart tree [] 1) [] i (omega (arith, l, tree-count, resolve-count apart tree [] 1)))

  core-is : (i : ℕ) → i < length s.nodes → nth tree i ≡ core_node (bare s) (suc i) (bare_node (node_at s (suc i)))
  unfolding tree core_nodes
  core-is i l =
      sym (nth-flat p.tree [] i (omega (arith, l, tree-count)))
      ∙ ap (λ (cs : List Core). get_or cs i no_core) p.nodes
      ∙ core-at (bare s) 1 (map bare_node s.nodes) i (omega (arith, l, length-map s.nodes bare_node))
      ∙ (let e : 1 + i ≡ suc i = omega arith in ap (λ (m : ℕ). core_node (bare s) m (get_or (map bare_node s.nodes) i zero_node)) e)
      ∙ ap (core_node (bare s) (suc i)) (get_or-map bare_node s.nodes i zero_node)

  name-is : (i : ℕ) → i < length s.nodes → T (has_id (node_at s (suc i))) → T (is_name (nth tree i).kind)
  name-is i l h = subst (λ (c : Core). T (is_name c.kind)) (sym (core-is i l ∙ name-core (bare s) (suc i) (bare_node (node_at s (suc i))) h)) h

  variable-is : (i : ℕ) → variable_in s (suc i) ≡ variable tree i
  unfolding variable_in
  variable-is i = (let e : suc i - 1 ≡ i = omega arith in ap (λ (u : Option Tree). variable_o u (suc i)) is-tree ∙ ap (variable tree) e)

  -- the number of a name's scope
  abbrev pub number-of : ℕ → ℕ
  number-of i = number_of tree (variable tree i)

  pub named-is : (i : ℕ) → i < length s.nodes → T (has_id (node_at s (suc i))) → node_at (resolved s) (suc i) ≡ put (node_at s (suc i)) (number-of i)
  named-is i l h = node-is i l ∙ ap (put (node_at s (suc i))) (numbered-names tree i (omega (arith, l, tree-count)) (name-is i l h))

  pub same-but-contexts : SameButContexts s (resolved s)
  unfolding resolved
  same-but-contexts = record {
    count = sym resolved-length;
    texts = refl;
    shape = λ n r. (let e = put-of n r in record { kinds = sym (ap (λ (x : Raw). x.kind) e); forms = sym (ap (λ (x : Raw). x.form) e); arities = sym (ap (λ (x : Raw). x.arity) e) });
    words = λ n r. sym (ap (λ (x : Raw). x.text) (put-of n r));
    bits = λ n r h. sym (ap (λ (x : Raw). x.bits) (put-of n r) ∙ ap (λ (b : Bool). pick b (nth (resolve apart tree [] 1) (n - 1)).num (node_at s n).bits) h);
  }
    where
      put-of : (n : ℕ) → Number s n → node_at (resolved s) n ≡ put (node_at s n) (nth (resolve apart tree [] 1) (n - 1)).num
      put-of zero r = absurd (omega (arith, r.0))
      put-of (suc i) r = (let e : i ≡ suc i - 1 = omega arith in node-is i r.1 ∙ ap (λ (j : ℕ). put (node_at s (suc i)) (nth (resolve apart tree [] 1) j).num) e)

  -- the test of two names
  pub test-is : (i j : ℕ) → i < length s.nodes → j < length s.nodes → T (has_id (node_at s (suc i))) → T (has_id (node_at s (suc j)))
      → same_id (node_at (resolved s) (suc i)) (node_at (resolved s) (suc j)) ≡ (eqb (node_at s (suc i)).text (node_at s (suc j)).text && eqb (number-of i) (number-of j))
  test-is i j l k h g =
      let x = node_at s (suc i) in
      let y = node_at s (suc j) in
      ap₂ same_id (named-is i l h) (named-is j k g)
      ∙ ap₂ {C = Bool} (λ (u v : Bool). eqb x.text y.text && eqb (pick u (number-of i) x.bits) (pick v (number-of j) y.bits)) (is_true (has_id x) h) (is_true (has_id y) g)

  pub by-variables : ByVariables s (resolved s)
  by-variables zero n r q h g = absurd (omega (arith, r.0))
  by-variables (suc i) zero r q h g = absurd (omega (arith, q.0))
  by-variables (suc i) (suc j) r q h g = (
    (λ e. (let t = is_T (eqb (node_at s (suc i)).text (node_at s (suc j)).text && eqb (number-of i) (number-of j)) (sym (test-is i j r.1 q.1 h g) ∙ e) in (
      eqb-true (node_at s (suc i)).text (node_at s (suc j)).text (is_true _ (and_left (eqb (node_at s (suc i)).text (node_at s (suc j)).text) (eqb (number-of i) (number-of j)) t)),
      variable-is i ∙ numbers-apart tree i j (omega (arith, r.1, tree-count)) (omega (arith, q.1, tree-count)) (eqb-true (number-of i) (number-of j) (is_true _ (and_right (eqb (node_at s (suc i)).text (node_at s (suc j)).text) (eqb (number-of i) (number-of j)) t))) ∙ sym (variable-is j),
    ))),
    (λ v. test-is i j r.1 q.1 h g ∙ is_true _ (both (eqb (node_at s (suc i)).text (node_at s (suc j)).text) (eqb (number-of i) (number-of j)) (is_T _ (eq-eqb (node_at s (suc i)).text (node_at s (suc j)).text v.0)) (is_T _ (eq-eqb (number-of i) (number-of j) (ap (number_of tree) (sym (variable-is i) ∙ v.1 ∙ variable-is j)))))),
  )

pub exactly : Exactly
exactly s o = (same-but-contexts s o, by-variables s o)
