-- What a look-up through the open scopes sees. Assumes nothing.
use Rattle.std.proofs.Common.{◌≡◌, ℕ, suc, ◌+◌, ◌*◌, List, ◌∷◌, get_or, drop, refl, ap, ◌∙◌, arith}
use mathlib.Core.Option.{none, some}
use Rattle.def_pass.specs.Scope.{VarInfo, Scope, Stack, find_binding}
use Rattle.words.specs.Tab.{tab, length-tab, get_d-tab, take-tab}
use Rattle.words_scopes.specs.State.{bind_at, const_at, head_at, heads_at, heads, flags, binds, consts, split, scope_of, stack, Fits, CFits, place}
use Rattle.words_scopes.proofs.Split as laws

-- the binding at its place
pub found : (w : List ℕ) (x k : ℕ) → place x (heads w) (binds w) ≡ suc k → find_binding x (stack w) ≡ some (bind_at w k)
unfolding stack binds
found w x k e =
    let b : ℕ → VarInfo = λ j. bind_at w j in
    let n : ℕ = get_or w 1 0 in
    laws.find-split x (heads w) (flags w) (tab n b) (consts w) ∙ rw e (ap some (get_d-tab n b k laws.no_bind (omega (arith, laws.find-place x (heads w) (tab n b) k e, length-tab n b))))

pub missing : (w : List ℕ) (x : ℕ) → place x (heads w) (binds w) ≡ 0 → find_binding x (stack w) ≡ none
unfolding stack
missing w x e = laws.find-split x (heads w) (flags w) (binds w) (consts w) ∙ rw e refl

-- the outermost k scopes, which have the first e bindings and the first c constants
abbrev pub outer : List ℕ → ℕ → ℕ → ℕ → Stack
outer w k e c = split (heads_at w k) (tab e (λ j. get_or w (4112 + j * 10 + 9) 0)) (tab e (λ j. bind_at w j)) (tab c (λ j. const_at w j))

-- the innermost of them
abbrev pub inner : List ℕ → ℕ → ℕ → ℕ → Scope
inner w k e c =
    let a = get_or w (7184 + k * 4 + 1) 0 in
    scope_of (head_at w k) (drop a (tab e (λ j. get_or w (4112 + j * 10 + 9) 0))) (drop a (tab e (λ j. bind_at w j))) (drop (get_or w (7184 + k * 4 + 2) 0) (tab c (λ j. const_at w j)))

-- a walk outwards begins with all, and goes from one scope to the next
pub outer-all : (w : List ℕ) → stack w ≡ outer w (get_or w 2 0) (get_or w 1 0) (get_or w 3 0)
unfolding stack heads flags binds consts
outer-all w = refl

module _ (w : List ℕ) (k e c : ℕ) (f : Fits (heads_at w (suc k)) e) (g : CFits (heads_at w (suc k)) c) where
  pub outer-next : outer w (suc k) e c ≡ inner w k e c ∷ outer w k (get_or w (7184 + k * 4 + 1) 0) (get_or w (7184 + k * 4 + 2) 0)
  unfolding heads_at
  outer-next = rw (take-tab (get_or w (7184 + k * 4 + 1) 0) e (λ j. get_or w (4112 + j * 10 + 9) 0) f.0, take-tab (get_or w (7184 + k * 4 + 1) 0) e (λ j. bind_at w j) f.0, take-tab (get_or w (7184 + k * 4 + 2) 0) c (λ j. const_at w j) g.0) refl
