-- The contexts of the nodes of trees, in an array with a place for each node. Assumes nothing: these are definitions.
use Rattle.std.specs.Prelude.{List, [], ◌∷◌, ◌++◌, ℕ, ◌+◌, set}
use Rattle.def_pass.specs.Tree.{Tree, Forest, node, nil, cons}

-- the numbers of the nodes, in their order
abbrev mutual
  pub nums : Tree → List ℕ
  nums (node k f a ts) = a ∷ nums_f ts

  pub nums_f : Forest → List ℕ
  nums_f nil = []
  nums_f (cons t ts) = nums t ++ nums_f ts

-- numbers written one behind another
abbrev pub writes : List ℕ → ℕ → List ℕ → List ℕ
writes out i [] = out
writes out i (x ∷ xs) = writes (set out i x) (i + 1) xs
