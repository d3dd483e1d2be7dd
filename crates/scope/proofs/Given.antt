-- An init and a value that are given, by their node. Assumes nothing.
use mathlib.Core.Path.{◌≡◌, refl, sym, ap, ◌∙◌}
use mathlib.Core.List.{List}
use mathlib.Core.Logic.{inl, inr}
use mathlib.Core.Option.{none}
use Prim.Native.Nat.{ℕ, ◌+◌, ◌≤◌, ◌<◌}
use native.Mathlib.Omega.{arith}
use lib.ListN.{get_or}
use Rattle.std.specs.Prelude.{None}
use Rattle.def_pass.specs.Scope as def
use Rattle.words.specs.Layout.{tree, run}
use Rattle.def_tree.specs.Tree.{Core, count}
use Rattle.words_scopes.specs.State.{value_of}
use Rattle.words_nodes.specs.Nodes.{Planted, tree_from}
use Rattle.words_nodes.proofs.Splice.{subtree-value, subtree-one}
use Rattle.scope_declare.specs.declared.define.Init.{Init}
use Rattle.scope_declare.specs.declared.define.Init.TheVariants.{NoInit, Recorded, Seen}
use Rattle.scope_declare.specs.Kinds.{start_of}
use Rattle.scope_declare.specs.Inits.{init_from, Sited}
use Rattle.scope_declare.proofs.Init.{run_none, none-one, At, given_none}
use Rattle.scope.specs.Handles.{tree_o}
use Rattle.scope.proofs.Numbers.{tree-in}
use Rattle.scope.specs.Given.{init_by, init_o, Runs}

-- the nodes of a value that is given
pub runs_none : (w : List ℕ) → Runs w none 0 0
runs_none w = record { inside = omega arith; one = none-one w; is = ap value_of (run_none w) }

pub runs-tree : {w : List ℕ} (g : Planted w) {i : ℕ} (h : i < get_or w 0 0) (m : ℕ) → m ≡ count (tree_from (tree w) i) → i + m ≤ get_or w 0 0 → Runs w (tree_o (tree w) i) i m
runs-tree {w} g {i} h m e l = record { inside = l; one = rw e (subtree-one g h); is = ap (λ (n : ℕ). value_of (run w 16 i n)) e ∙ subtree-value g h ∙ sym (tree-in w i h) }

-- an init whose tree is in the state
pub sited-in : (n : ℕ) {v : Init} {i : ℕ} → At v i → i < n → Sited v n
sited-in n o h = elim o [ inl e ↦ rw e h | inr e ↦ rw e h ]

pub recorded-in : (w : List ℕ) (i : ℕ) → i < get_or w 0 0 → def.recorded (tree_from (tree w) i) ≡ init_o (tree w) (Recorded i)
recorded-in w i h = sym (ap (init_by def.recorded) (tree-in w i h))

pub seen-in : (w : List ℕ) (i : ℕ) → i < get_or w 0 0 → def.seen (tree_from (tree w) i) ≡ init_o (tree w) (Seen i)
seen-in w i h = sym (ap (init_by def.seen) (tree-in w i h))

pub init-in : (w : List ℕ) {v : Init} {i : ℕ} → At v i → i < get_or w 0 0 → init_from (tree w) v ≡ init_o (tree w) v
init-in w {v} {i} o h = elim o [ inl e ↦ rw e (recorded-in w i h) | inr e ↦ rw e (seen-in w i h) ]

-- one whose tree is not, and one without
pub init-out : (xs : List Core) {v : Init} {i : ℕ} → At v i → tree_o xs i ≡ none → def.no_init ≡ init_o xs v
init-out xs o h = elim o [ inl e ↦ rw e (sym (ap (init_by def.recorded) h)) | inr e ↦ rw e (sym (ap (init_by def.seen) h)) ]

pub init-bare : (xs : List Core) (v : Init) → start_of v ≡ None → def.no_init ≡ init_o xs v
init-bare xs NoInit e = refl
init-bare xs (Recorded i) e = given_none e
init-bare xs (Seen i) e = given_none e
