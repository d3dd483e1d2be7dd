-- The set of targets in the words, node by node. Assumes nothing: these are definitions.
use Rattle.std.specs.Prelude.{◌≡◌, Option, Some, None, List, [], ◌∷◌, Bool, false, ◌&&◌, ◌||◌, ℕ, suc, eqb, ◌+◌, ◌≤◌, ◌<◌, length, get_or, drop}
use Rattle.def_tree.specs.Base.{member}
use Rattle.def_tree.specs.Tree.{Core}
use Rattle.def_file.specs.declared.kind.Kind.TheVariants.{Ident}
use Rattle.def_file.specs.Named.{is_kind}
use Rattle.def_pass.specs.Targets.{aims}
use Rattle.laws_flat.specs.PassF.{some!, bounds_l, next_is, targets_l}
use Rattle.words.specs.Flags.{flag_at}
use Rattle.words.specs.Layout.{yes, node_of, tree, targeted_base, node_count}
use Rattle.words_scopes.specs.State.{Names, targeted}

-- a script stands in the words, and nothing is known of the others: a fact of the words, which stay a lent slice, and so a clause of three functions, as
-- `Good` is in words_scopes
pub record Script (w : List ℕ) : Type 0 where
  pub long : 16384 ≤ length w
  pub few : node_count w ≤ 1024
  pub names : Names (tree w)

-- all but the set is kept
pub record Beside (w u : List ℕ) : Type 0 where
  pub size : length u ≡ length w
  pub low : (j : ℕ) → j < targeted_base → get_or u j 0 ≡ get_or w j 0
  pub high : (j : ℕ) → targeted_base + 8 ≤ j → get_or u j 0 ≡ get_or w j 0

-- the tree that comes next, itself a target, targets identifier i: it is that identifier, or binds it
abbrev pub aimed : ℕ → List Core → Bool
aimed i [] = false
aimed i (c ∷ cs) = (is_kind Ident c.kind && eqb c.num i) || member i (bounds_l 1 0 (c ∷ cs))

-- the node where the target stands, if there is one: the test holds for what is targeted there
abbrev pub Aimed : List ℕ → Option ℕ → (ℕ → Bool) → Type 0
Aimed w (Some k) b = (k < node_count w) × ((i : ℕ) → b i ≡ aimed i (drop k (tree w)))
Aimed w None b = (i : ℕ) → b i ≡ false

-- node k targets identifier i
abbrev pub hits : List ℕ → ℕ → ℕ → Bool
hits w k i = aims (node_of w k).kind && (some! (node_of w k).arity && next_is i (drop (suc k) (tree w)))

-- the identifiers that pass the test are in the set, with what was there
pub record Joined (w u : List ℕ) (b : ℕ → Bool) : Type 0 where
  pub beside : Beside w u
  pub here : (i : ℕ) → i < 256 → yes (flag_at u targeted_base i) ≡ (b i || yes (flag_at w targeted_base i))

-- the set is what the tree targets
pub record Targeted (w u : List ℕ) : Type 0 where
  pub beside : Beside w u
  pub is : targeted u ≡ targets_l (tree w)
