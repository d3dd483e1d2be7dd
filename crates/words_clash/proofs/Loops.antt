-- The loops over nodes and over children, and what a node counts. Assumes nothing.
use mathlib.Core.Path.{◌≡◌, refl, sym, ap, ap₂, ◌∙◌}
use mathlib.Core.Bool.{Bool, true, false, ◌||◌, ◌&&◌}
use mathlib.Core.List.{List, []}
use Prim.Native.Nat.{ℕ, ◌+◌, ◌-◌, ◌<◌}
use native.Mathlib.Omega.{arith}
use lib.Dec.{eqb}
use lib.ListN.{get_or}
use Rattle.def_tree.specs.Base.{pick}
use Rattle.def_tree.specs.Tree.{Tree, Forest, node, nil, cons, kind, form, kids, count, Core, no_core}
use Rattle.def_resolve.specs.Names.{lexical_names_f, var_names_f, top_lexical, top_var}
use Rattle.def_resolve.specs.Scopes.{apart, clashes, counted, clash, params, bound_params, statements, init_f}
use Rattle.words.specs.Layout.{tree, node_of}
use Rattle.words.proofs.Nodes.{tree-length}
use Rattle.words_nodes.specs.Nodes.{Planted, tree_from, forest_from}
use Rattle.words_nodes.proofs.Loops.{Open, open_in, open-past, forest-first}
use Rattle.words_nodes.proofs.Words.{tree-whole, in_tree}
use Rattle.words_twice.specs.Twice.{Stand}
use Rattle.words_twice.proofs.Places.{forest-none, forest-cons, forest-in, stand-open, tree_is}
use Rattle.words_twice.proofs.Looks.{node-tree}
use Rattle.words_resolve.specs.declared.scopes.Trees.{Trees}
use Rattle.words_resolve.specs.Clashes.{met_in, catch_counts, function_counts}
use Rattle.words_resolve.specs.Scopes.{StandAs}
use Rattle.words_resolve.proofs.Looks.{node-kind}
use Rattle.words_clash.specs.declared.Counting.{Counting}
use Rattle.words_clash.specs.declared.Counting.TheVariants.{Function, Statements, Catch, Script, Nothing}
use Rattle.words_clash.specs.Clash.{counting, counts_as, own_clash, block_clash, blocks_clash, shares, apart_f, node_clash, all_clash, nodes_clash}
use Rattle.words_clash.proofs.Nodes.{nodes-append, whole}
use Rattle.words_clash.proofs.Tables.{met-clash}
use Rattle.words_clash.proofs.Low.{Lows, all-kids-low, params-low, statements-low, append-low, bounds-low, lexicals-low, top-lexical-low}

-- no clash before the tree at `at`, the first of `more` that are left
pub record Without (f : Forest → Bool) (xs : List Core) (i n at more : ℕ) : Type 0 where
  pub still : Open xs at more
  pub same : f (forest_from xs more at) ≡ f (forest_from xs n i)

pub without-none : (f : Forest → Bool) {xs : List Core} {i n : ℕ} → Stand xs i n → Without f xs i n i n
without-none f s = record { still = stand-open s; same = refl }

pub without-all : {f : Forest → Bool} {xs : List Core} {i n at more : ℕ} → Without f xs i n at more → more ≡ 0 → f nil ≡ false → false ≡ f (forest_from xs n i)
without-all {f} {xs} {at = at} h z e = sym (sym h.same ∙ ap (λ (k : ℕ). f (forest_from xs k at)) z ∙ ap f (forest-none xs at) ∙ e)

-- the trees behind the one at `at`
abbrev behind : List ℕ → ℕ → ℕ → Forest
behind w at more = forest_from (tree w) (more - 1) (at + count (tree_from (tree w) at))

module _ {w : List ℕ} (g : Planted w) {i n at more : ℕ} (z : 0 < more) where
  -- blocks, tree by tree
  module _ (h : Without blocks_clash (tree w) i n at more) where
    blocks-here : blocks_clash (forest_from (tree w) more at) ≡ (block_clash (tree_from (tree w) at) || blocks_clash (behind w at more))
    blocks-here = ap blocks_clash (forest-cons (tree-whole g) h.still z)

    pub block-found : block_clash (tree_from (tree w) at) ≡ true → true ≡ blocks_clash (forest_from (tree w) n i)
    block-found e = sym (sym h.same ∙ blocks-here ∙ ap (λ (b : Bool). b || blocks_clash (behind w at more)) e)

    pub block-past : block_clash (tree_from (tree w) at) ≡ false → {next : ℕ} → next ≡ at + count (tree_from (tree w) at) → Without blocks_clash (tree w) i n next (more - 1)
    block-past e q = rw q (record { still = open-past (tree-whole g) h.still z; same = sym (blocks-here ∙ ap (λ (b : Bool). b || blocks_clash (behind w at more)) e) ∙ h.same })

  -- nodes, one by one
  module _ (h : Without nodes_clash (tree w) i n at more) where
    below : nodes_clash (forest_from (tree w) (more - 1 + (get_or (tree w) at no_core).arity) (at + 1)) ≡ (nodes_clash (forest_from (tree w) (get_or (tree w) at no_core).arity (at + 1)) || nodes_clash (behind w at more))
    below = ap nodes_clash (forest-in (tree-whole g) h.still z) ∙ nodes-append (forest_from (tree w) (get_or (tree w) at no_core).arity (at + 1)) (behind w at more)

    at-node : (t : Tree) → all_clash t ≡ (node_clash t || nodes_clash (kids t))
    at-node (node k f a ts) = refl

    nodes-here : nodes_clash (forest_from (tree w) more at) ≡ ((node_clash (tree_from (tree w) at) || nodes_clash (forest_from (tree w) (get_or (tree w) at no_core).arity (at + 1))) || nodes_clash (behind w at more))
    nodes-here =
        ap nodes_clash (forest-cons (tree-whole g) h.still z) ∙ ap (λ (b : Bool). b || nodes_clash (behind w at more)) (at-node (tree_from (tree w) at))
        ∙ ap (λ (ts : Forest). (node_clash (tree_from (tree w) at) || nodes_clash ts) || nodes_clash (behind w at more)) (ap kids (tree_is (tree w) at (rw tree-length (in_tree g h.still z))))

    pub node-found : node_clash (tree_from (tree w) at) ≡ true → true ≡ nodes_clash (forest_from (tree w) n i)
    node-found e = sym (sym h.same ∙ nodes-here ∙ ap (λ (b : Bool). (b || nodes_clash (forest_from (tree w) (get_or (tree w) at no_core).arity (at + 1))) || nodes_clash (behind w at more)) e)

    pub node-in : node_clash (tree_from (tree w) at) ≡ false → {c : ℕ} → c ≡ (get_or (tree w) at no_core).arity → Without nodes_clash (tree w) i n (at + 1) (more - 1 + c)
    node-in e q = rw q (record {
      still = open_in (tree-whole g) h.still z;
      same = below ∙ sym (nodes-here ∙ ap (λ (b : Bool). (b || nodes_clash (forest_from (tree w) (get_or (tree w) at no_core).arity (at + 1))) || nodes_clash (behind w at more)) e) ∙ h.same;
    })

-- a loop that counts its trees
pub block-next : {w : List ℕ} → Planted w → {i n at k : ℕ} → k < n → Without blocks_clash (tree w) i n at (n - k) → block_clash (tree_from (tree w) at) ≡ false → {next : ℕ} → next ≡ at + count (tree_from (tree w) at)
    → Without blocks_clash (tree w) i n next (n - (k + 1))
block-next g {n = n} {k = k} l h e q = let m : n - (k + 1) ≡ n - k - 1 = omega arith in rw m (block-past g (omega arith) h e q)

-- what a node counts
module _ {w : List ℕ} (g : Planted w) {j : ℕ} (l : j < get_or w 0 0) where
  abbrev k : ℕ
  k = (node_of w j).kind

  abbrev f : ℕ
  f = (node_of w j).form

  abbrev us : Forest
  us = kids (tree_from (tree w) j)

  low : Lows us
  low = all-kids-low g j

  own-is : own_clash (tree_from (tree w) j) ≡ clash (counts_as (counting k) k f us)
  own-is = go (tree_from (tree w) j) ∙ ap₂ {C = Bool} (λ (m h : ℕ). clash (counts_as (counting m) m h us)) (node-kind g l) (ap form (node-tree g l))
    where
      go : (t : Tree) → own_clash t ≡ clash (counts_as (counting (kind t)) (kind t) (form t) (kids t))
      go (node m h a ts) = refl

  own : {m : Counting} → m ≡ counting k → own_clash (tree_from (tree w) j) ≡ clash (counts_as m k f us)
  own e = own-is ∙ sym (ap (λ (m : Counting). clash (counts_as m k f us)) e)

  pub own-nothing : {m : Counting} → m ≡ counting k → m ≡ Nothing → false ≡ own_clash (tree_from (tree w) j)
  own-nothing e q = sym (own (sym q ∙ e))

  module _ {m : Counting} (e : m ≡ counting k) {r : Bool} where
    pub own-function : m ≡ Function → r ≡ met_in (function_counts k f us) → r ≡ own_clash (tree_from (tree w) j)
    own-function q d = d ∙ met-clash (function_counts k f us) (top-lexical-low (statements us) (statements-low us low)) ∙ sym (own (sym q ∙ e))

    pub own-statements : m ≡ Statements → r ≡ met_in (counted (lexical_names_f us) (var_names_f us)) → r ≡ own_clash (tree_from (tree w) j)
    own-statements q d = d ∙ met-clash (counted (lexical_names_f us) (var_names_f us)) (lexicals-low us low) ∙ sym (own (sym q ∙ e))

    pub own-catch : m ≡ Catch → r ≡ met_in (catch_counts k f us) → r ≡ own_clash (tree_from (tree w) j)
    own-catch q d =
        d
        ∙ met-clash (catch_counts k f us) (append-low (bound_params k f us) (lexical_names_f (statements us)) (bounds-low (params k f us) [] (params-low k f us low) tt) (lexicals-low (statements us) (statements-low us low)))
        ∙ sym (own (sym q ∙ e))

    pub own-script : m ≡ Script → r ≡ met_in (counted (top_lexical us) (top_var us)) → r ≡ own_clash (tree_from (tree w) j)
    own-script q d = d ∙ met-clash (counted (top_lexical us) (top_var us)) (top-lexical-low us low) ∙ sym (own (sym q ∙ e))

  block-is : block_clash (tree_from (tree w) j) ≡ (eqb k 2 && clash (counted (lexical_names_f us) (var_names_f us)))
  block-is = go (tree_from (tree w) j) ∙ ap (λ (m : ℕ). eqb m 2 && clash (counted (lexical_names_f us) (var_names_f us))) (node-kind g l)
    where
      go : (t : Tree) → block_clash t ≡ (eqb (kind t) 2 && clash (counted (lexical_names_f (kids t)) (var_names_f (kids t))))
      go (node m h a ts) = refl

  pub block-some : true ≡ eqb k 2 → {r : Bool} → r ≡ met_in (counted (lexical_names_f us) (var_names_f us)) → r ≡ block_clash (tree_from (tree w) j)
  block-some e d = d ∙ met-clash (counted (lexical_names_f us) (var_names_f us)) (lexicals-low us low) ∙ sym (block-is ∙ ap (λ (b : Bool). b && clash (counted (lexical_names_f us) (var_names_f us))) (sym e))

  pub block-none : {b : Bool} → b ≡ false → b ≡ eqb k 2 → b ≡ block_clash (tree_from (tree w) j)
  block-none n e = n ∙ sym (block-is ∙ ap (λ (b : Bool). b && clash (counted (lexical_names_f us) (var_names_f us))) (sym e ∙ n))

  -- its children
  node-clash-is : node_clash (tree_from (tree w) j) ≡ (own_clash (tree_from (tree w) j) || blocks_clash (apart_f k f us))
  node-clash-is = go (tree_from (tree w) j) ∙ ap₂ {C = Bool} (λ (m h : ℕ). own_clash (tree_from (tree w) j) || blocks_clash (apart_f m h us)) (node-kind g l) (ap form (node-tree g l))
    where
      go : (t : Tree) → node_clash t ≡ (own_clash t || blocks_clash (apart_f (kind t) (form t) (kids t)))
      go (node m h a ts) = refl

  module _ {o : Bool} (d : o ≡ own_clash (tree_from (tree w) j)) where
    pub node-own : o ≡ true → true ≡ node_clash (tree_from (tree w) j)
    node-own e = sym (node-clash-is ∙ ap (λ (b : Bool). b || blocks_clash (apart_f k f us)) (sym d ∙ e))

    module _ (e : o ≡ false) {s : Bool} (h : s ≡ shares k f us) {r : Bool} where
      children : r ≡ blocks_clash (apart_f k f us) → r ≡ node_clash (tree_from (tree w) j)
      children q = q ∙ sym (node-clash-is ∙ ap (λ (b : Bool). b || blocks_clash (apart_f k f us)) (sym d ∙ e))

      pub node-shares : s ≡ true → {t : Trees} → StandAs (tree w) t (init_f us) → r ≡ blocks_clash (forest_from (tree w) t.count t.at) → r ≡ node_clash (tree_from (tree w) j)
      node-shares p a q = children (q ∙ ap blocks_clash a.are ∙ sym (ap (λ (b : Bool). blocks_clash (pick b (init_f us) us)) (sym h ∙ p)))

      pub node-apart : s ≡ false → {t : Trees} → StandAs (tree w) t us → r ≡ blocks_clash (forest_from (tree w) t.count t.at) → r ≡ node_clash (tree_from (tree w) j)
      node-apart p a q = children (q ∙ ap blocks_clash a.are ∙ sym (ap (λ (b : Bool). blocks_clash (pick b (init_f us) us)) (sym h ∙ p)))

-- the whole script
module _ {w : List ℕ} (g : Planted w) (s : Stand (tree w) 0 1) where
  pub first-in : 0 < get_or w 0 0
  first-in = in_tree g (stand-open s) (omega arith)

  one-tree : forest_from (tree w) 1 0 ≡ cons (tree_from (tree w) 0) nil
  one-tree = forest-first (tree w) 0 (rw tree-length first-in)

  module _ {b : Bool} (d : b ≡ block_clash (tree_from (tree w) 0)) where
    pub whole-block : b ≡ true → b ≡ clashes apart (tree_from (tree w) 0)
    whole-block e = e ∙ sym (whole (tree_from (tree w) 0) ∙ ap (λ (p : Bool). p || nodes_clash (cons (tree_from (tree w) 0) nil)) (sym d ∙ e))

    pub whole-nodes : b ≡ false → {r : Bool} → r ≡ nodes_clash (forest_from (tree w) 1 0) → r ≡ clashes apart (tree_from (tree w) 0)
    whole-nodes e q = q ∙ ap nodes_clash one-tree ∙ sym (whole (tree_from (tree w) 0) ∙ ap (λ (p : Bool). p || nodes_clash (cons (tree_from (tree w) 0) nil)) (sym d ∙ e))
