-- The tree's nodes in the working words: what the functions here keep, and what they turn the list of nodes into. `put_at` and `cut_at` are
-- what `put` and `cut_first` with `set_arity` of the walk on the list do to the nodes. Assumes nothing: these are definitions.
use Rattle.std.specs.Prelude.{◌≡◌, Option, Some, None, Result, Ok, Err, List, [], ◌++◌, ℕ, ◌+◌, ◌-◌, ◌≤◌, ◌<◌, ltb, length, get_or, take, drop, set}
use Rattle.def_tree.specs.Base.{pick}
use Rattle.def_tree.specs.Tree.{Tree, Forest, count, counts, Core, no_core, flat, flats, take_f, plant, first_t}
use Rattle.def_tree.specs.Combine.{re_arity}
use Rattle.def_pass.specs.Tree.{height}
use Rattle.words.specs.Layout.{node_of, run, tree, beyond, node_count}
pub use Rattle.words.specs.Node.{Apart, NodePut}
use Rattle.words_scopes.specs.State.{Good, Others, stack}
use Rattle.refusal.specs.declared.Refusal.{Refusal}
use Rattle.refusal.specs.Number.{number}

-- how many nodes the tree has
abbrev pub size : List ℕ → ℕ
size w = node_count w

-- the tree whose nodes begin at i, and the first n trees from there on
unfoldable pub tree_from : List Core → ℕ → Tree
tree_from xs i = first_t (plant (drop i xs))

unfoldable pub forest_from : List Core → ℕ → ℕ → Forest
forest_from xs n i = take_f n (plant (drop i xs))

-- the nodes of one tree
pub record One (xs : List Core) : Type 0 where
  pub is : flat (first_t (plant xs)) [] ≡ xs

-- the nodes of some trees
pub record Trees (xs : List Core) : Type 0 where
  pub are : flats (plant xs) [] ≡ xs

-- what every function here asks for and keeps
pub record Planted (w : List ℕ) : Type 0 where
  pub good : Good w
  pub one : One (tree w)

-- child m of the node at q begins at i
pub record Child (xs : List Core) (q m i : ℕ) : Type 0 where
  pub parent : q < length xs
  pub few : m < (get_or xs q no_core).arity
  pub at : i ≡ q + 1 + counts (forest_from xs m (q + 1))

-- e in the place of the tree at i
unfoldable pub put_at : List Core → ℕ → Tree → List Core
put_at xs i e = take i xs ++ flat e (drop (i + count (tree_from xs i)) xs)

-- without the tree at i, of which the node at q has one child less
unfoldable pub cut_at : List Core → ℕ → ℕ → List Core
cut_at xs q i = set (take i xs ++ drop (i + count (tree_from xs i)) xs) q (re_arity ((get_or xs q no_core).arity - 1) (get_or xs q no_core))

-- the nodes behind the first i + old now stand behind the first i + m, and are counted so
pub record Slid (w w' : List ℕ) (i old m : ℕ) : Type 0 where
  pub apart : Apart w w'
  pub count : node_count w' ≡ node_count w + m - old
  pub low : (j : ℕ) → j < i + m → node_of w' j ≡ node_of w j
  pub high : (j : ℕ) → j < node_count w - (i + old) → node_of w' (i + m + j) ≡ node_of w (i + old + j)

-- the tree's nodes became xs, one tree again: the scopes and all else are as they were
pub record Replants (w w' : List ℕ) (xs : List Core) : Type 0 where
  pub planted : Planted w'
  pub is : tree w' ≡ xs
  pub stack : stack w' ≡ stack w
  pub others : Others w w'
  pub rest : beyond w' ≡ beyond w
  pub apart : Apart w w'

-- document 01's number of the row that refuses `new` in the place of `old`, at depth p of a tree of n nodes; 0 if none does
abbrev pub refusal : ℕ → ℕ → Tree → Tree → ℕ
refusal p n old new = pick (ltb 201 (p + height new)) 8 (pick (ltb 1024 (n + count new - count old)) 9 0)

-- what is said of a tree t at i: where it ends if it is at most h high, else that it is not
abbrev pub Measured : Option ℕ → ℕ → ℕ → Tree → Type 0
Measured (Some j) i h t = (j ≡ i + count t) × (height t ≤ h)
Measured None i h t = h < height t

-- a step that refuses by number n, and leaves the words alone, or makes xs of the nodes
abbrev pub Stepped : Result Unit Refusal → List ℕ → List ℕ → ℕ → List Core → Type 0
Stepped (Ok _) w w' n xs = (n ≡ 0) × Replants w w' xs
Stepped (Err r) w w' n xs = (n ≡ number r) × (w' ≡ w)

-- the tree at i, at depth p, gives way to e, or a row refuses
abbrev pub Swapped : Result Unit Refusal → List ℕ → List ℕ → ℕ → ℕ → Tree → Type 0
Swapped r w w' p i e = Stepped r w w' (refusal p (node_count w) (tree_from (tree w) i) e) (put_at (tree w) i e)

-- the tree of the m nodes from `at` on of the store at word `base`
abbrev pub value_from : List ℕ → ℕ → ℕ → ℕ → Tree
value_from w base at m = first_t (plant (run w base at m))
