-- A walk of the tree at i leaves the nodes before it, and those behind it, as they were. Assumes nothing: these are definitions.
use Rattle.std.specs.Prelude.{◌≡◌, List, ℕ, ◌+◌, ◌≤◌, length, take, drop}
use Rattle.def_tree.specs.Tree.{Core, length_f, counts, plant}
use Rattle.def_tree.specs.Combine.{Flat, forest_at}

-- n trees begin at i
pub record Room (xs : List Core) (n i : ℕ) : Type 0 where
  pub low : i ≤ length xs
  pub trees : n ≤ length_f (plant (drop i xs))

-- the nodes before i are as they were, and those from j on are those that stood behind the n trees from i on
pub record Shape {S : Type 0} (st : Flat S) (n i : ℕ) (st' : Flat S) (j : ℕ) : Type 0 where
  pub front : take i st'.nodes ≡ take i st.nodes
  pub back : drop j st'.nodes ≡ drop (i + counts (forest_at st n i)) st.nodes
  pub inside : (i ≤ j) × (j ≤ length st'.nodes)
