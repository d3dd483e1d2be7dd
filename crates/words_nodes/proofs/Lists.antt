-- Lists with a stretch replaced, and the identifiers' numbers in them. Assumes nothing.
use mathlib.Core.Path.{◌≡◌, sym, ap, ◌∙◌}
use mathlib.Core.List.{List, ◌++◌}
use mathlib.Core.Logic.{⊎_elim}
use Prim.Native.Nat.{ℕ, ◌+◌, ◌-◌, ◌≤◌, ◌<◌}
use native.Mathlib.Omega.{arith}
use lib.ListN.{length, get_or, take, drop, set, length-append, length-drop, length-set, get_or-append, get_or-eq_default}
use lib.Seq.{length-take-le, get_or-append-add, get_or-take, get_or-drop, get_or-set_same, get_or-set_other, ext_get_or}
use Rattle.def_tree.specs.Tree.{Core, no_core}
use Rattle.words.specs.Tab.{below_or_not, same_or_not}
use Rattle.words_scopes.specs.State.{Named, Names}

-- behind a list of known length
get_d-behind : {A : Type 0} (xs ys : List A) (d : A) (k j : ℕ) → length xs ≡ k → get_or (xs ++ ys) (k + j) d ≡ get_or ys j d
get_d-behind xs ys d k j e = rw (← e) (get_or-append-add xs ys j d)

-- a list that is known element by element: the first i of xs, then vs, then xs from k on
pub spliced : {A : Type 0} (d : A) (ys xs vs : List A) (i k : ℕ) → i ≤ length xs → length ys ≡ i + (length vs + (length xs - k))
    → ((j : ℕ) → j < i → get_or ys j d ≡ get_or xs j d)
    → ((j : ℕ) → j < length vs → get_or ys (i + j) d ≡ get_or vs j d)
    → ((j : ℕ) → j < length xs - k → get_or ys (i + length vs + j) d ≡ get_or xs (k + j) d)
    → ys ≡ take i xs ++ (vs ++ drop k xs)
spliced {A} d ys xs vs i k l n low new high =
    let a : length (take i xs) ≡ i = length-take-le i xs l in
    let e : length ys ≡ length (take i xs ++ (vs ++ drop k xs)) = sym (length-append (take i xs) (vs ++ drop k xs) ∙ omega (arith, length-append vs (drop k xs), length-drop k xs)) in
    let whole : List A = take i xs ++ (vs ++ drop k xs) in
    let first : (j : ℕ) → j < i → get_or ys j d ≡ get_or whole j d = λ j q. low j q ∙ sym (get_or-append (take i xs) (vs ++ drop k xs) d j (omega arith) ∙ get_or-take i xs j d q) in
    let second : (j : ℕ) → j < length vs → get_or ys (i + j) d ≡ get_or whole (i + j) d = λ j q. new j q ∙ sym (get_d-behind (take i xs) (vs ++ drop k xs) d i j a ∙ get_or-append vs (drop k xs) d j q) in
    let third : (j : ℕ) → j < length xs - k → get_or ys (i + (length vs + j)) d ≡ get_or whole (i + (length vs + j)) d = λ j q.
    let s : i + length vs + j ≡ i + (length vs + j) = omega arith in
    rw s at (high j q) ∙ sym (get_d-behind (take i xs) (vs ++ drop k xs) d i (length vs + j) a ∙ get_or-append-add vs (drop k xs) j d ∙ get_or-drop k xs j d) in
    ext_get_or d ys whole e (λ j q. ⊎_elim
    (λ (x : j < i). first j x)
    (λ (x : i ≤ j). ⊎_elim
    (λ (y : j - i < length vs). let s : i + (j - i) ≡ j = omega arith in rw s at (second (j - i) y))
    (λ (y : length vs ≤ j - i). let s : i + (length vs + (j - i - length vs)) ≡ j = omega arith in rw s at (third (j - i - length vs) (omega arith)))
    (below_or_not (j - i) (length vs)))
    (below_or_not j i))

-- what holds of each identifier
unnamed : Named no_core
unnamed o = ⊎_elim (λ (e : 0 ≡ 20). omega arith) (λ (e : 0 ≡ 21). omega arith) o

pub names-append : (xs ys : List Core) → Names xs → Names ys → Names (xs ++ ys)
names-append xs ys a b j = ⊎_elim
    (λ (l : j < length xs). rw (get_or-append xs ys no_core j l) (a j))
    (λ (l : length xs ≤ j). let s : length xs + (j - length xs) ≡ j = omega arith in rw (ap (λ (k : ℕ). get_or (xs ++ ys) k no_core) (sym s) ∙ get_or-append-add xs ys (j - length xs) no_core) (b (j - length xs)))
    (below_or_not j (length xs))

pub names-take : (i : ℕ) (xs : List Core) → i ≤ length xs → Names xs → Names (take i xs)
names-take i xs h a j = ⊎_elim
    (λ (l : j < i). rw (get_or-take i xs j no_core l) (a j))
    (λ (l : i ≤ j). rw (get_or-eq_default (take i xs) no_core {n = j} (omega (arith, length-take-le i xs h))) unnamed)
    (below_or_not j i)

pub names-drop : (i : ℕ) (xs : List Core) → Names xs → Names (drop i xs)
names-drop i xs a j = rw (get_or-drop i xs j no_core) (a (i + j))

pub names-set : (xs : List Core) (i : ℕ) (c : Core) → Named c → Names xs → Names (set xs i c)
names-set xs i c h a j = ⊎_elim
    (λ (e : j ≡ i). ⊎_elim
    (λ (l : i < length xs). rw (e, get_or-set_same xs i c no_core l) h)
    (λ (l : length xs ≤ i). rw (get_or-eq_default (set xs i c) no_core {n = j} (omega (arith, length-set xs i c))) unnamed)
    (below_or_not i (length xs)))
    (λ (e : j ≡ i → ⊥). rw (get_or-set_other xs i j c no_core e) (a j))
    (same_or_not j i)
