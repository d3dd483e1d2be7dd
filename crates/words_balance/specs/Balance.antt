-- Request 9 in the words: the live counts plus the ended total are the replacements made. Assumes nothing: these are definitions.
use Rattle.std.specs.Prelude.{◌≡◌, Bool, List, ℕ, ◌+◌, ◌%◌, Result, Ok, Err}
use Rattle.def_tree.specs.Tree.{Tree}
use Rattle.def_tree.specs.Combine.{done}
use Rattle.words.specs.Layout.{binding_count, ended_word, replaced_word, count_word}
use Rattle.words.specs.Tab.{sum}
use Rattle.def_pass.specs.Scope.{live_counts}
use Rattle.laws_pass.specs.Reached.{Reached}
use Rattle.laws_flat.specs.WalkF.{run_f}
use Rattle.laws_flat.specs.PassF.{start_f}
use Rattle.words_scopes.specs.State.{Good, stack}
use Rattle.words_nodes.specs.Nodes.{Planted}
use Rattle.words_state.specs.State.{rest, abs}

abbrev pub live_words : List ℕ → ℕ
live_words w = sum (λ k. count_word w k) (binding_count w)

abbrev pub WordsBalance : List ℕ → Type 0
WordsBalance w = (live_words w + ended_word w) % 4294967296 ≡ replaced_word w

-- of words that an answer without a refusal leaves
abbrev pub OkBalance : {A E : Type 0} → Result A E → List ℕ → Type 0
OkBalance (Ok a) w = WordsBalance w
OkBalance (Err e) w = Unit {0}

pub record PortBalance : Type 0 where
  -- the words have the counts of the state that they stand for
  pub live : (w : List ℕ) → Good w → live_words w ≡ live_counts (stack w)
  -- and so they balance in every state that a pass reaches
  pub reached : (t : Tree) (w : List ℕ) → Good w → Reached t (rest w) → WordsBalance w
  -- the first state is one
  pub begun : (w : List ℕ) (n : ℕ) (tg : ℕ → Bool) → Good w → rest w ≡ start_f n tg → WordsBalance w
  -- and a run of the port, which does what a run on the list of nodes does, leads from such a state to such a state, and keeps the balance in any
  pub next : (t : Tree) (w u : List ℕ) (j : ℕ) → Planted w → run_f 0 (abs w) ≡ done (abs u) j → Reached t (rest w) → Reached t (rest u)
  pub run : (w u : List ℕ) (j : ℕ) → Planted w → Planted u → run_f 0 (abs w) ≡ done (abs u) j → WordsBalance w → WordsBalance u
