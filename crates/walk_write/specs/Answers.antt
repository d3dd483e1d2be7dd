-- Answers of the functions below the steps. Assumes nothing: these are definitions.
use Rattle.std.specs.Prelude.{ℕ}
use Rattle.def_tree.specs.Tree.{Core, core}

-- a node with another kind and form
abbrev pub re_kind : ℕ → ℕ → Core → Core
re_kind k f c = core k f c.arity c.num
