-- The root bindings: how they stand in the words, and what is written of each. Assumes nothing: these are definitions.
use Rattle.std.specs.Prelude.{◌≡◌, true, false, List, [], ◌∷◌, ◌++◌, map, ℕ, ◌+◌, ◌*◌, ◌/◌, ◌%◌, ◌≤◌, ◌<◌, leb, length, get_or, drop, Result, Ok, Err}
use Rattle.def_tree.specs.Base.{to_nat}
use Rattle.words.specs.Tab.{tab}
use Rattle.words.specs.Layout.{yes, ident_count, id_word, inline_prevented_word, count_word, ident_word}
use Rattle.def_file.specs.Script.{zero_node}
use Rattle.file_read.specs.Idents.{ids_of}
use Rattle.refusal.specs.declared.Refusal.{Refusal}
use Rattle.refusal.specs.Number.{number}
use Rattle.def_pass.specs.Script.{Root}
use Rattle.def_pass.specs.Walk.{Rooted, root_marks}
use Rattle.words_scopes.specs.State.{stack}
use Rattle.pass_roots.specs.declared.Root.{Root as Binding}

-- the first n bindings of all scopes: identifier, mark and count
abbrev pub marks_to : List ℕ → ℕ → List Rooted
marks_to w n = tab n (λ k. (id_word w k, yes (inline_prevented_word w k), count_word w k))

-- binding k with its identifier's text and context
abbrev pub root_at : List ℕ → List ℕ → ℕ → Root
root_at bs w k = record { key = get_or (ids_of bs w) (id_word w k) zero_node; mark = yes (inline_prevented_word w k); count = count_word w k }

-- the root's bindings
abbrev pub roots_in : List ℕ → List ℕ → List Root
roots_in bs w = map (λ (r : Rooted). record { key = get_or (ids_of bs w) r.0 zero_node; mark = r.1; count = r.2 }) (root_marks (stack w))

-- the words list identifiers of nodes of the file
pub record Known (bs w : List ℕ) : Type 0 where
  pub long : 16384 ≤ length w
  pub few : ident_count w ≤ 256
  pub low : (i : ℕ) → i < ident_count w → 0 < ident_word w i
  pub room : (i : ℕ) → i < ident_count w → 32 + 16 * ident_word w i ≤ length bs

-- a binding as it is answered
abbrev pub given : Root → Binding
given r = record { text = r.key.text; context = r.key.bits; prevented = r.mark; count = r.count }

-- text number, context's low and high half, mark, count (request 9)
abbrev pub words_of : Binding → List ℕ
words_of b = b.text ∷ b.context % 4294967296 ∷ b.context / 4294967296 ∷ to_nat b.prevented ∷ b.count ∷ []

abbrev pub root_words : Root → List ℕ
root_words r = words_of (given r)

unfoldable pub root_list : List Root → List ℕ
root_list [] = []
root_list (r ∷ rs) = root_words r ++ root_list rs

-- document 01's number of a refusal, or the root bindings
pub data Listing : Type 0 where
  refused : ℕ → Listing
  listed : List Root → Listing

-- row 10: five words for each
abbrev pub in_room : ℕ → List Root → Listing
in_room room rs = elim (leb (5 * length rs) room) [ false ↦ refused 10 | true ↦ listed rs ]

-- the buffer r after an answer: a refusal leaves it as it was, and the words behind the bindings stay
abbrev pub left : List ℕ → Listing → List ℕ
left r (refused m) = r
left r (listed rs) = root_list rs ++ drop (5 * length rs) r

-- what writing them answers
abbrev pub SaysSo : Result ℕ Refusal → Listing → Type 0
SaysSo (Ok n) (refused m) = ⊥
SaysSo (Ok n) (listed rs) = n ≡ length rs
SaysSo (Err r) (refused m) = number r ≡ m
SaysSo (Err r) (listed rs) = ⊥

pub record WroteRoots (r r' : List ℕ) (z : Listing) (x : Result ℕ Refusal) : Type 0 where
  pub says : SaysSo x z
  pub leaves : r' ≡ left r z
