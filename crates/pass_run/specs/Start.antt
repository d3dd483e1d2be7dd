-- The words of a script that was read become the state before the first run. Assumes nothing: these are definitions.
use Rattle.std.specs.Prelude.{◌≡◌, List, ℕ, ◌≤◌, ◌<◌, length, get_or}
use Rattle.words.specs.Layout.{Agree, tree, beyond, reserved_base, index_base, shadowed_base, idents_base, targeted_base, node_count, binding_count, scope_count, constant_count, ident_count, changed_word, inlining_word, is_first_run_word, var_decl_kind_word, pat_mode_word, in_test_word, conds_word, ended_word, replaced_word, index_word}
use Rattle.laws_flat.specs.PassF.{start_f, targets_l, flagged_l}
use Rattle.words_scopes.specs.State.{Names}
use Rattle.words_nodes.specs.Nodes.{One, Planted}
use Rattle.words_state.specs.State.{rest}
use Rattle.words_twice.specs.Twice.{Plain}

-- one tree stands in the words, its bindings have room for a flag, and nothing is known of the others
pub record Loaded (w : List ℕ) : Type 0 where
  pub long : 16384 ≤ length w
  pub few : node_count w ≤ 1024
  pub names : Names (tree w)
  pub one : One (tree w)
  pub plain : Plain (tree w) 0

-- the counts of records, the visitor's words and the index are stored, and all else is kept
pub record Fields (w u : List ℕ) : Type 0 where
  pub size : length u ≡ length w
  pub nodes : node_count u ≡ node_count w
  pub bindings : binding_count u ≡ 0
  pub scopes : scope_count u ≡ 0
  pub constants : constant_count u ≡ 0
  pub idents : ident_count u ≡ ident_count w
  pub changed : changed_word u ≡ 0
  pub inlining : inlining_word u ≡ 0
  pub is_first_run : is_first_run_word u ≡ 1
  pub var_decl_kind : var_decl_kind_word u ≡ 1
  pub pat_mode : pat_mode_word u ≡ 3
  pub in_test : in_test_word u ≡ 0
  pub conds : conds_word u ≡ 0
  pub ended : ended_word u ≡ 0
  pub replaced : replaced_word u ≡ 0
  pub index : (x : ℕ) → x < 256 → index_word u x ≡ 0
  pub mid : Agree reserved_base index_base w u
  pub high : (j : ℕ) → shadowed_base ≤ j → get_or u j 0 ≡ get_or w j 0

-- the same tree, flagged, and the visitor before its first run, with what the tree targets; the identifiers and the words past the first 16,384 are as they were
pub record Started (w u : List ℕ) : Type 0 where
  pub planted : Planted u
  pub size : length u ≡ length w
  pub nodes : tree u ≡ flagged_l (tree w)
  pub is : rest u ≡ start_f (node_count w) (targets_l (tree w))
  pub idents : ident_count u ≡ ident_count w
  pub high : Agree idents_base targeted_base w u
  pub rest : beyond u ≡ beyond w
