-- What the walk over the words gives is the contexts of the resolved script's names, and check 13 over the words is that of the script. Assumes nothing.
use mathlib.Core.Path.{◌≡◌, refl, sym, ap, ◌∙◌}
use mathlib.Core.Bool.{Bool, true}
use mathlib.Core.List.{List, [], ◌∷◌, ◌++◌, append_assoc, append-nil, map}
use Prim.Native.Nat.{ℕ, suc, ◌<◌, ◌≤◌}
use native.Mathlib.Numerals.{add-one}
use native.Mathlib.Omega.{arith}
use lib.ListN.{length, get_or, set, drop, get_or-map, get_or-append, length-map}
use lib.Seq.{sets, length-sets}
use Rattle.std.proofs.Math.Option.{some}
use Rattle.def_tree.specs.Tree.{Core, no_core, flat, flats, plant, first_t}
use Rattle.def_tree.proofs.Tests.{is_T}
use Rattle.def_pass.specs.Tree.{Tree, Forest, node, nil, cons, count, head_t}
use Rattle.def_file.specs.declared.Raw.{Raw}
use Rattle.def_file.specs.Script.{Script, zero_node, has_id}
use Rattle.def_file.specs.Core.{core_nodes}
use Rattle.def_file.specs.Read.{nodes_ok}
use Rattle.def_resolve.specs.Scopes.{apart, clashes}
use Rattle.def_resolve.specs.Resolve.{resolve, bare, names_tree, clashing, clashes_in, resolved}
use Rattle.laws_resolve.specs.Variables.{nth}
use Rattle.laws_resolve.proofs.Numbers.{resolve-count}
use Rattle.laws_resolve.proofs.Apart.{number-low}
use Rattle.laws_resolve.proofs.Bound.{opens-few}
use Rattle.laws_resolve.proofs.Scripts.{tree as names-tree, is-tree, tree-count, nth-flat, node-is, named-is, number-of, length-flat}
use Rattle.words_nodes.specs.Nodes.{tree_from}
use Rattle.words_resolve.specs.Walk.{nums, nums_f, writes}
use Rattle.file_write.proofs.Laid.{sets-front}
use Rattle.file_resolve.specs.Idents.{with_context, Contexts}

-- numbers written one behind another
writes-sets : (out : List ℕ) (i : ℕ) (xs : List ℕ) → writes out i xs ≡ sets out i xs
writes-sets out i [] = refl
writes-sets out i (x ∷ xs) = ap (λ (j : ℕ). writes (set out i x) j xs) (add-one i) ∙ writes-sets (set out i x) (suc i) xs

written-at : (out xs : List ℕ) (k : ℕ) → k < length xs → length xs ≤ length out → get_or (writes out 0 xs) k 0 ≡ get_or xs k 0
written-at out xs k l h = ap (λ (ys : List ℕ). get_or ys k 0) (writes-sets out 0 xs ∙ sets-front out xs (length xs) refl h) ∙ get_or-append xs (drop (length xs) out) 0 k l

-- the numbers of a tree's nodes
abbrev num : Core → ℕ
num c = c.num

mutual
  nums-flat : (t : Tree) (xs : List Core) → map num (flat t xs) ≡ nums t ++ map num xs
  nums-flat (node k f a ts) xs = ap (λ (ys : List ℕ). a ∷ ys) (nums-flats ts xs)

  nums-flats : (ts : Forest) (xs : List Core) → map num (flats ts xs) ≡ nums_f ts ++ map num xs
  nums-flats nil xs = refl
  nums-flats (cons t ts) xs = nums-flat t (flats ts xs) ∙ ap (λ (ys : List ℕ). nums t ++ ys) (nums-flats ts xs) ∙ sym (append_assoc (nums t) (nums_f ts) (map num xs))

nums-are : (t : Tree) → nums t ≡ map num (flat t [])
nums-are t = sym (nums-flat t [] ∙ append-nil (nums t))

nums-length : (t : Tree) → length (nums t) ≡ count t
nums-length t = ap length (nums-are t) ∙ length-map (flat t []) num ∙ (let l = length-flat t [] in omega (arith, l))

nums-at : (t : Tree) (k : ℕ) → k < count t → get_or (nums t) k 0 ≡ (nth t k).num
nums-at t k l = ap (λ (ys : List ℕ). get_or ys k 0) (nums-are t) ∙ get_or-map num (flat t []) k no_core ∙ ap num (nth-flat t [] k l)

-- the tree of the words
first-is : (ts : Forest) (t : Tree) → head_t ts ≡ some t → first_t ts ≡ t
first-is nil t e = cc
first-is (cons u us) t e = cc

module _ (s : Script) (ok : nodes_ok s ≡ true) where
  tree-is : tree_from (core_nodes (bare s)) 0 ≡ names-tree s ok
  unfolding tree_from names_tree
  tree-is = first-is (plant (core_nodes (bare s))) (names-tree s ok) (is-tree s ok)

  pub clashes-are : {cs : List Core} {b : Bool} → cs ≡ core_nodes (bare s) → b ≡ clashes apart (tree_from cs 0) → clashes_in s ≡ b
  unfolding clashes_in
  clashes-are e q = ap clashing (is-tree s ok) ∙ sym (q ∙ ap (λ (xs : List Core). clashes apart (tree_from xs 0)) e ∙ ap (clashes apart) tree-is)

  abbrev out : Tree
  out = resolve apart (names-tree s ok) [] 1

  out-count : count out ≡ length s.nodes
  out-count = resolve-count apart (names-tree s ok) [] 1 ∙ tree-count s ok

  pub contexts-are : (cs : List Core) (old new : List ℕ) → length s.nodes ≤ 1024 → length old ≡ 1024 → cs ≡ core_nodes (bare s) → new ≡ writes old 0 (nums (resolve apart (tree_from cs 0) [] 1)) → Contexts s new
  contexts-are cs old new few z e q = record {
    long = omega (arith, few, ap length is-writes, ap length (writes-sets old 0 (nums out)), length-sets old 0 (nums out), z);
    small = λ k l h. omega (arith, sym (context-of k l h), number-low (names-tree s ok) k, opens-few apart (names-tree s ok), tree-count s ok, few);
    is = node-of;
  }
    where
      is-writes : new ≡ writes old 0 (nums out)
      is-writes = q ∙ ap (λ (xs : List Core). writes old 0 (nums (resolve apart (tree_from xs 0) [] 1))) e ∙ ap (λ (t : Tree). writes old 0 (nums (resolve apart t [] 1))) tree-is

      there : (k : ℕ) → k < length s.nodes → get_or new k 0 ≡ (nth out k).num
      there k l =
          ap (λ (ys : List ℕ). get_or ys k 0) is-writes
          ∙ written-at old (nums out) k (omega (arith, l, nums-length out, out-count)) (omega (arith, few, z, nums-length out, out-count))
          ∙ nums-at out k (omega (arith, l, out-count))

      node-of : (k : ℕ) → k < length s.nodes → get_or (resolved s).nodes k zero_node ≡ with_context (get_or s.nodes k zero_node) (get_or new k 0)
      node-of k l = node-is s ok k l ∙ ap (with_context (get_or s.nodes k zero_node)) (sym (there k l))

      of-name : (x : Raw) (v : ℕ) → has_id x ≡ true → (with_context x v).bits ≡ v
      of-name x v h = rw h refl

      context-of : (k : ℕ) → k < length s.nodes → has_id (get_or s.nodes k zero_node) ≡ true → get_or new k 0 ≡ number-of s ok k
      context-of k l h =
          let x = get_or s.nodes k zero_node in
          sym (of-name x (get_or new k 0) h) ∙ ap (λ (y : Raw). y.bits) (sym (node-of k l) ∙ named-is s ok k l (is_T _ h)) ∙ of-name x (number-of s ok k) h
