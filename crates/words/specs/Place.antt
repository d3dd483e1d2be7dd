-- Places as answers: an index from 0, or none. Assumes nothing: these are definitions.
use Rattle.std.specs.Prelude.{◌≡◌, List, ℕ, suc, ◌+◌, ◌*◌, ◌≤◌, ◌<◌, get_or, Option, Some, None, MatchOption}

-- 1 + the index, 0 for none
abbrev pub placed : Option ℕ → ℕ
placed None = 0
placed (Some k) = suc k

-- no word from place a up to e is x; word 0 stands at p, and each s behind the one before
abbrev pub NoneAt : List ℕ → (p s a e x : ℕ) → Type 0
NoneAt w p s a e x = (j : ℕ) → a ≤ j → j < e → get_or w (p + j * s) 0 ≡ x → ⊥

-- the first of the places from a up to e whose word is x, if there is one
abbrev pub FirstAt : List ℕ → (p s a e x : ℕ) → Option ℕ → Type 0
FirstAt w p s a e x r = MatchOption r (NoneAt w p s a e x) (λ k. (a ≤ k) × (k < e) × (get_or w (p + k * s) 0 ≡ x) × NoneAt w p s a k x)
