-- A result tree fits the kinds' places again, 200 deep, with 1,024 nodes. On core trees: all literals are `Null`, and the form of a binding
-- or an identifier tells whether it is `arguments`. Assumes nothing: these are definitions.
use Rattle.std.specs.Prelude.{◌&&◌, ◌||◌, ℕ, zero, suc, T}
use Rattle.def_tree.specs.Base.{pick}
use Rattle.def_tree.specs.Tree.{length_f}
use Rattle.def_file.specs.declared.kinds.Row.{Row}
use Rattle.def_file.specs.declared.kinds.Class.TheVariants.{Root}
use Rattle.def_file.specs.declared.kind.Kind.TheVariants.{BindingIdent, Ident}
use Rattle.def_file.specs.Named.{is_kind}
use Rattle.def_file.specs.Kinds.{allows, row_of, form_ok, count_ok, child_of}
use Rattle.def_pass.specs.Tree.{Tree, Forest, node, nil, cons, kind, kids}
use Rattle.def_pass.specs.Walk.{core_pass, Outcome, refused, result}
use Rattle.laws_pass.specs.Small.{Small}

-- the form by which a kind's row is found
abbrev pub form_of : ℕ → ℕ → ℕ
form_of k f = pick (is_kind BindingIdent k || is_kind Ident k) 0 f

abbrev pub row_at : ℕ → ℕ → Row
row_at k f = row_of k (form_of k f)

abbrev mutual
  -- form and number of children, and each child at its place
  pub Fits : Tree → Type 0
  Fits (node k f a ts) = T (form_ok (row_at k f) (form_of k f) && count_ok (row_at k f) (length_f ts)) × FitsF (row_at k f) (length_f ts) zero ts

  -- children i and up of n
  pub FitsF : Row → ℕ → ℕ → Forest → Type 0
  FitsF r n i nil = Unit {0}
  FitsF r n i (cons t ts) = T (allows (child_of r n i) (kind t) (length_f (kids t))) × Fits t × FitsF r n (suc i) ts

pub record Readable (t : Tree) : Type 0 where
  pub root : T (allows Root (kind t) (length_f (kids t)))
  pub fits : Fits t
  pub small : Small t

abbrev pub ReadableOut : Outcome → Type 0
ReadableOut (refused n) = Unit {0}
ReadableOut (result k c t ms) = Readable t

-- of every run limit
abbrev pub ResultReadable : Type 0
ResultReadable = (n : ℕ) (t : Tree) → Readable t → ReadableOut (core_pass n t)
