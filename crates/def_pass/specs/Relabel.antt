-- A tree and an outcome with other origins of literals and assignments.
use Rattle.std.specs.Prelude.{Bool, ◌||◌, ℕ}
use Rattle.def_tree.specs.Base.{pick}
use Rattle.def_file.specs.declared.kind.Kind.TheVariants.{Null, Assign}
use Rattle.def_file.specs.Named.{is_kind}
use Rattle.def_pass.specs.Tree.{Tree, Forest, node, nil, cons}
use Rattle.def_pass.specs.Walk.{Outcome, refused, result}

-- the number of a literal, and of an assignment, is its origin (see Tree)
abbrev pub has_origin : ℕ → Bool
has_origin k = is_kind Null k || is_kind Assign k

abbrev mutual
  pub relabel : (ℕ → ℕ) → Tree → Tree
  relabel r (node k f a ts) = node k f (pick (has_origin k) (r a) a) (relabel_f r ts)

  pub relabel_f : (ℕ → ℕ) → Forest → Forest
  relabel_f r nil = nil
  relabel_f r (cons t ts) = cons (relabel r t) (relabel_f r ts)

abbrev pub relabel_out : (ℕ → ℕ) → Outcome → Outcome
relabel_out r (refused n) = refused n
relabel_out r (result k c t ms) = result k c (relabel r t) ms
