-- What the reader of a node promises. Assumes nothing: these are definitions.
use Rattle.std.specs.Prelude.{◌≡◌, Bool, true, false, ◌&&◌, List, ◌∷◌, ℕ, ◌+◌, ◌*◌, ◌<◌, ◌≤◌, T, Option, Result, Ok, Err, length, drop, get_or}
use Rattle.def_file.specs.declared.kinds.Class.{Class}
use Rattle.def_file.specs.declared.kinds.Class.TheVariants as Kind
use Rattle.def_file.specs.declared.Raw.{Raw}
use Rattle.def_file.specs.Kinds.{allows, is_binding_name}
use Rattle.def_file.specs.Script.{zero_node}
use Rattle.def_file.specs.Read.{Place, node_ok, fills, nodes_from}
use Rattle.def_kinds.specs.Pairs.{under, pairs}
use Rattle.refusal.specs.declared.Refusal.{Refusal}
use Rattle.refusal.specs.Number.{number}
use Rattle.file_read.specs.declared.preorder.Child.{Child}
use Rattle.file_read.specs.declared.preorder.Child.TheVariants.{Binding, Other}

abbrev pub place : Class → ℕ → Place
place c n = record { class = c; left = n }

-- the script's own place
abbrev pub root_place : Place
root_place = place Kind.Root 200

-- the index behind a node that was read
abbrev pub behind : Child → ℕ
behind (Binding j) = j
behind (Other j) = j

-- the nodes fill the places ps, and the table allows each under its parent, those at the places ps under qs
abbrev pub fills_under : ℕ → List ℕ → List Place → List (Option ℕ) → List Raw → Bool
fills_under t table ps qs xs = fills t ps xs && pairs table qs xs

-- do the nodes behind it: not after a refusal
abbrev pub after : ℕ → List ℕ → List Raw → List Place → List (Option ℕ) → Result Child Refusal → Bool
after t table xs ps qs (Ok c) = fills_under t table ps qs (drop (behind c) xs)
after t table xs ps qs (Err r) = false

-- the node x, at the place p, is of that kind
abbrev pub Kinded : Place → Raw → Child → Type 0
Kinded p x (Binding j) = Unit {0}
Kinded p x (Other j) = T (allows p.class x.kind x.arity) × (is_binding_name x.kind ≡ false)

-- the index behind is at most n; the node x has that kind; a refusal is by document 01's row 6
abbrev pub Fits : Place → Raw → ℕ → Result Child Refusal → Type 0
Fits p x n (Ok c) = (behind c ≤ n) × Kinded p x c
Fits p x n (Err r) = number r ≡ 6

-- the n nodes of a file
abbrev pub nodes_of : List ℕ → ℕ → List Raw
nodes_of bs n = nodes_from n (drop 32 bs)

-- they stand in it
pub record Room (bs : List ℕ) (n : ℕ) : Type 0 where
  pub few : n ≤ 1024
  pub room : 32 + 16 * n ≤ length bs

-- the node at index `at` fits the place p, and the table allows it under q
pub record Fitting (bs : List ℕ) (n t : ℕ) (table : List ℕ) (at : ℕ) (p : Place) (q : Option ℕ) : Type 0 where
  pub shallow : p.left ≤ 200
  pub less : at < n
  pub fits : node_ok t p (get_or (nodes_of bs n) at zero_node) ≡ true
  pub stands : under table q (get_or (nodes_of bs n) at zero_node).kind ≡ true

-- the answer to reading the node at index `at` of xs at the place p, under q
pub record Filled (t : ℕ) (table : List ℕ) (xs : List Raw) (p : Place) (q : Option ℕ) (at : ℕ) (r : Result Child Refusal) : Type 0 where
  pub is : (ps : List Place) (qs : List (Option ℕ)) → fills_under t table (p ∷ ps) (q ∷ qs) (drop at xs) ≡ after t table xs ps qs r
  pub fits : Fits p (get_or xs at zero_node) (length xs) r
