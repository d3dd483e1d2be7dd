-- What is declared of each identifier, and the nodes with the bindings of some trees flagged. Assumes nothing: these are definitions.
use Rattle.std.specs.Prelude.{Bool, true, false, ◌&&◌, List, [], ◌∷◌, ◌++◌, ◌≡◌, ℕ, ◌+◌, ◌≤◌, ◌<◌, eqb, length, get_or, take, drop}
use Rattle.def_tree.specs.Base.{pick, to_nat}
use Rattle.def_tree.specs.Tree.{Tree, Forest, node, nil, cons, length_f, counts, Core, core, no_core, flats, plant}
use Rattle.def_file.specs.declared.kind.Kind.TheVariants.{VarDecl, BindingIdent}
use Rattle.def_file.specs.Named.{number_of, is_kind}
use Rattle.def_pass.specs.Tree.{head_t, bound_names_f}
use Rattle.def_pass.specs.Twice.{is_named, among, no_literal, declarators, flags}
use Rattle.laws_flat.specs.PassF.{some! }
use Rattle.words_nodes.specs.Nodes.{forest_from}
use Rattle.words_twice.specs.declared.Seen.{Seen}
use Rattle.words_twice.specs.declared.Seen.TheVariants.{Never, Once, OnceCostly, Again, AgainCostly}

-- one declaration more, of which it is told whether its initialiser is no literal; and some more
abbrev pub next : Seen → Bool → Seen
next Never d = pick d OnceCostly Once
next Once d = pick d AgainCostly Again
next OnceCostly d = AgainCostly
next Again d = pick d AgainCostly Again
next AgainCostly d = AgainCostly

abbrev pub after : Seen → List Bool → Seen
after s [] = s
after s (d ∷ ds) = after (next s d) ds

-- more than once, and one initialiser is no literal
abbrev pub told : Seen → Bool
told Never = false
told Once = false
told OnceCostly = false
told Again = false
told AgainCostly = true

-- of each identifier what there was, and then these declarations
pub record Declares (old new : List Seen) (f : ℕ → List Bool) : Type 0 where
  pub size : length new ≡ 256
  pub here : (x : ℕ) → x < 256 → get_or new x Never ≡ after (get_or old x Never) (f x)

-- the identifiers that pass the test are those of which it is told
abbrev pub Tells : List Seen → (ℕ → Bool) → Type 0
Tells seen b = (x : ℕ) → x < 256 → told (get_or seen x Never) ≡ b x

-- the node is a binding of i
abbrev pub is_binding : ℕ → Core → Bool
is_binding i c = is_kind BindingIdent c.kind && eqb c.num i

-- of the names that some trees bind, each that is i, with an initialiser that is no literal or not
abbrev pub named : Bool → ℕ → Forest → List Bool
named c i ts = among i c (bound_names_f ts [])

-- has a declarator of these children an initialiser that is no literal
abbrev pub is_costly : Forest → Bool
is_costly nil = false
is_costly (cons name es) = no_literal name (head_t es)

-- the declarations that a node itself makes, without those in it: a `var`'s
abbrev pub own : ℕ → Tree → List Bool
own i (node k f a ts) = pick (is_kind VarDecl k && eqb f 0) (declarators i ts) []

-- how many of the c children of a function are its name
abbrev pub outside : ℕ → ℕ → ℕ → ℕ
outside k f c = pick (is_named k f) (to_nat (some! c)) 0

-- n trees stand from i on
pub record Stand (xs : List Core) (i n : ℕ) : Type 0 where
  pub inside : i ≤ length xs
  pub trees : n ≤ length_f (plant (drop i xs))

-- the bindings from i on have room for a flag
pub record Plain (xs : List Core) (i : ℕ) : Type 0 where
  pub low : (j : ℕ) → i ≤ j → (get_or xs j no_core).kind ≡ number_of BindingIdent → (get_or xs j no_core).form < 30

-- a node flagged, if it is a binding that passes the test
abbrev pub flag_node : (ℕ → Bool) → Core → Core
flag_node b c = core c.kind (pick (is_kind BindingIdent c.kind && b c.num) (c.form + 2) c.form) c.arity c.num

-- the n trees from i on, flagged in their place
unfoldable pub flagged_from : (ℕ → Bool) → List Core → ℕ → ℕ → List Core
flagged_from b xs n i = take i xs ++ flats (flags b (forest_from xs n i)) (drop (i + counts (forest_from xs n i)) xs)
