-- The whole state of the pass behind the working words: the tree's nodes, the scopes, the visitor's fields, and what is targeted.
-- Assumes nothing: these are definitions.
use Rattle.std.specs.Prelude.{◌≡◌, List, ℕ, zero, suc, ◌<◌, length}
use Rattle.def_tree.specs.Combine.{Res, stop, done, Nothing, Flat}
use Rattle.words.specs.Layout.{Agree, yes, tree, beyond, reserved_base, nodes_base, used_texts_base, node_count, ident_count, changed_word, inlining_word, is_first_run_word, var_decl_kind_word, pat_mode_word, in_test_word, conds_word, ended_word, replaced_word}
use Rattle.def_pass.specs.Walk.{St, PatMode, assigning, as_param, as_catch, declaring}
use Rattle.words_scopes.specs.Kinds.{var_type_of, type_of}
use Rattle.words_scopes.specs.State.{stack, targeted}
use Rattle.words_nodes.specs.Nodes.{Planted}
use Rattle.words_state.specs.declared.PatFoldingMode.{PatFoldingMode}
use Rattle.words_state.specs.declared.PatFoldingMode.TheVariants.{Assign, Param, CatchParam, VarDecl}
use Rattle.words_state.specs.declared.SavedFields.{SavedFields}

-- the port's own modes, and what of the definition each case is
abbrev pub pat_mode_of : PatFoldingMode → PatMode
pat_mode_of Assign = assigning
pat_mode_of Param = as_param
pat_mode_of CatchParam = as_catch
pat_mode_of VarDecl = declaring

-- a mode as a word
abbrev pub mode_of : ℕ → PatMode
mode_of zero = assigning
mode_of (suc zero) = as_param
mode_of (suc (suc zero)) = as_catch
mode_of (suc (suc (suc n))) = declaring

abbrev pub IsModeWord : PatFoldingMode → ℕ → Type 0
IsModeWord m n = (mode_of n ≡ pat_mode_of m) × (n < 4)

-- what the words say besides the nodes; `inlining` is the phase, `conds` are the right sides open in their Cond scopes
unfoldable pub rest : List ℕ → St
rest w = record {
  stack = stack w;
  changed = yes (changed_word w);
  inlining = yes (inlining_word w);
  is_first_run = yes (is_first_run_word w);
  var_decl_kind = var_type_of (var_decl_kind_word w);
  pat_mode = mode_of (pat_mode_word w);
  in_test = yes (in_test_word w);
  conds = conds_word w;
  nodes = node_count w;
  targeted = targeted w;
  ended = ended_word w;
  replaced = replaced_word w;
}

-- the ended total alone changed
abbrev pub set_ended : ℕ → St → St
set_ended x s = record { stack = s.stack; changed = s.changed; inlining = s.inlining; is_first_run = s.is_first_run; var_decl_kind = s.var_decl_kind; pat_mode = s.pat_mode; in_test = s.in_test; conds = s.conds; nodes = s.nodes; targeted = s.targeted; ended = x; replaced = s.replaced }

-- the fields that a scope or a child gives back as it found them: f has those of a state; and a state with those of f
pub record Fielded (f : SavedFields) (s : St) : Type 0 where
  pub inlining : f.inlining ≡ s.inlining
  pub var_decl_kind : type_of f.var_decl_kind ≡ s.var_decl_kind
  pub pat_mode : pat_mode_of f.pat_mode ≡ s.pat_mode
  pub in_test : f.in_test ≡ s.in_test

abbrev pub given_back : SavedFields → St → St
given_back f s = record { stack = s.stack; changed = s.changed; inlining = f.inlining; is_first_run = s.is_first_run; var_decl_kind = type_of f.var_decl_kind; pat_mode = pat_mode_of f.pat_mode; in_test = f.in_test; conds = s.conds; nodes = s.nodes; targeted = s.targeted; ended = s.ended; replaced = s.replaced }

-- the state of the walk on the list of nodes
abbrev pub abs : List ℕ → Flat St
abs w = record { nodes = tree w; rest = rest w }

-- what every step keeps: the words stand for a state; the identifiers, what is reserved, and the words past the first 16,384 are as they were
pub record Ok (w u : List ℕ) : Type 0 where
  pub planted : Planted u
  pub size : length u ≡ length w
  pub idents : ident_count u ≡ ident_count w
  pub reserved : Agree reserved_base nodes_base w u
  pub high : Agree used_texts_base 16384 w u
  pub rest : beyond u ≡ beyond w

-- a step's answer: 0, and the state is that of the result, or document 01's number of its refusal. Of the words after a refusal `Ok` says what is kept:
-- they stand for some state, and their length, the count of identifiers, the words that are free, and those behind the counts of the bindings are as they were
abbrev pub Acts : List ℕ → ℕ → Res (Flat St) Nothing → Type 0
Acts u n (stop m) = (n ≡ m) × (0 < n)
Acts u n (done st x) = (n ≡ 0) × (abs u ≡ st)

-- a step that leaves the tree's nodes as they were, whether it refuses or not
pub record Act (w u : List ℕ) (n : ℕ) (r : Res (Flat St) Nothing) : Type 0 where
  pub ok : Ok w u
  pub nodes : tree u ≡ tree w
  pub acts : Acts u n r

-- a step that never refuses
pub record Turns (w u : List ℕ) (s : St) : Type 0 where
  pub ok : Ok w u
  pub nodes : tree u ≡ tree w
  pub is : rest u ≡ s
