-- The names that a tree in the words declares are below 256. Assumes nothing.
use mathlib.Core.Path.{◌≡◌, refl}
use mathlib.Core.Logic.{inl}
use mathlib.Core.Bool.{Bool, true, false}
use mathlib.Core.List.{List, [], ◌∷◌, ◌++◌}
use Prim.Native.Nat.{ℕ, zero, suc, ◌<◌}
use native.Mathlib.Omega.{arith}
use lib.Dec.{eqb}
use lib.ListN.{get_or, drop}
use borrow.Author.Tests.{eqb-true}
use Rattle.def_tree.specs.Base.{pick}
use Rattle.def_tree.specs.Tree.{Tree, Forest, node, nil, cons, kids, Core, no_core, take_f, drop_f, plant, first_t}
use Rattle.def_pass.specs.Tree.{tail_f, in_pattern, bound_names, bound_names_f}
use Rattle.def_pass.specs.Twice.{is_named}
use Rattle.def_resolve.specs.Names.{bound_first, declared, passes_names, lexical_names, lexical_names_f, is_function_statement, top_lexical}
use Rattle.def_resolve.specs.Scopes.{init_f, params, statements}
use Rattle.words.specs.Layout.{tree}
use Rattle.words_nodes.specs.Nodes.{Planted, tree_from}
use Rattle.words_clash.proofs.Tables.{AllLow}

-- the bindings of a tree
abbrev mutual
  pub Low : Tree → Type 0
  Low (node k f a ts) = (eqb k 20 ≡ true → a < 256) × Lows ts

  pub Lows : Forest → Type 0
  Lows nil = Unit {0}
  Lows (cons t ts) = Low t × Lows ts

-- parts of trees
take-low : (n : ℕ) (ts : Forest) → Lows ts → Lows (take_f n ts)
take-low zero ts h = tt
take-low (suc n) nil h = tt
take-low (suc n) (cons t ts) h = (h.0, take-low n ts h.1)

drop-low : (n : ℕ) (ts : Forest) → Lows ts → Lows (drop_f n ts)
drop-low zero ts h = h
drop-low (suc n) nil h = tt
drop-low (suc n) (cons t ts) h = drop-low n ts h.1

kids-low : (t : Tree) → Low t → Lows (kids t)
kids-low (node k f a ts) h = h.1

tail-low : (ts : Forest) → Lows ts → Lows (tail_f ts)
tail-low nil h = tt
tail-low (cons t ts) h = h.1

init-low : (ts : Forest) → Lows ts → Lows (init_f ts)
init-low nil h = tt
init-low (cons t nil) h = tt
init-low (cons t (cons u us)) h = (h.0, init-low (cons u us) h.1)

pub params-low : (k f : ℕ) (ts : Forest) → Lows ts → Lows (params k f ts)
params-low k f ts h = init-low (pick (is_named k f) (tail_f ts) ts) (go (is_named k f))
  where
    go : (b : Bool) → Lows (pick b (tail_f ts) ts)
    go true = tail-low ts h
    go false = h

pub statements-low : (ts : Forest) → Lows ts → Lows (statements ts)
statements-low nil h = tt
statements-low (cons (node k f a us) nil) h = go (eqb k 2)
  where
    go : (b : Bool) → Lows (pick b us nil)
    go true = h.0.1
    go false = tt
statements-low (cons t (cons u us)) h = statements-low (cons u us) h.1

-- names
pub append-low : (xs ys : List ℕ) → AllLow xs → AllLow ys → AllLow (xs ++ ys)
append-low [] ys h g = g
append-low (x ∷ xs) ys h g = (h.0, append-low xs ys h.1 g)

pick-low : (b : Bool) (xs ys : List ℕ) → AllLow xs → AllLow ys → AllLow (pick b xs ys)
pick-low true xs ys h g = h
pick-low false xs ys h g = g

mutual
  bound-low : (t : Tree) (xs : List ℕ) → Low t → AllLow xs → AllLow (bound_names t xs)
  bound-low (node k f a ts) xs h g = go (eqb k 20) refl (in_pattern k) (bounds-low ts xs h.1 g)
    where
      go : (p : Bool) → eqb k 20 ≡ p → (q : Bool) → AllLow (bound_names_f ts xs) → AllLow (elim p as (λ z. List ℕ) [ true ↦ a ∷ xs | false ↦ elim q as (λ z. List ℕ) [ true ↦ bound_names_f ts xs | false ↦ xs ] ])
      go true e q i = (h.0 e, g)
      go false e true i = i
      go false e false i = g

  pub bounds-low : (ts : Forest) (xs : List ℕ) → Lows ts → AllLow xs → AllLow (bound_names_f ts xs)
  bounds-low nil xs h g = g
  bounds-low (cons t ts) xs h g = bound-low t (bound_names_f ts xs) h.0 (bounds-low ts xs h.1 g)

first-low : (ts : Forest) → Lows ts → AllLow (bound_first ts)
first-low nil h = tt
first-low (cons t ts) h = bound-low t [] h.0 tt

declared-low : (ts : Forest) → Lows ts → AllLow (declared ts)
declared-low nil h = tt
declared-low (cons t ts) h = append-low (bound_first (kids t)) (declared ts) (first-low (kids t) (kids-low t h.0)) (declared-low ts h.1)

mutual
  lexical-low : (t : Tree) → Low t → AllLow (lexical_names t)
  lexical-low (node k f a ts) h = go (eqb k 5) (eqb k 7) (passes_names k) (lexicals-low ts h.1)
    where
      go : (p q r : Bool) → AllLow (lexical_names_f ts) → AllLow (elim p as (λ z. List ℕ) [ true ↦ pick (eqb f 0) [] (declared ts) | false ↦ elim q as (λ z. List ℕ) [ true ↦ bound_first ts | false ↦ elim r as (λ z. List ℕ) [ true ↦ lexical_names_f ts | false ↦ [] ] ] ])
      go true q r i = pick-low (eqb f 0) [] (declared ts) tt (declared-low ts h.1)
      go false true r i = first-low ts h.1
      go false false true i = i
      go false false false i = tt

  pub lexicals-low : (ts : Forest) → Lows ts → AllLow (lexical_names_f ts)
  lexicals-low nil h = tt
  lexicals-low (cons t ts) h = append-low (lexical_names t) (lexical_names_f ts) (lexical-low t h.0) (lexicals-low ts h.1)

pub top-lexical-low : (ts : Forest) → Lows ts → AllLow (top_lexical ts)
top-lexical-low nil h = tt
top-lexical-low (cons t ts) h = append-low (pick (is_function_statement t) [] (lexical_names t)) (top_lexical ts) (pick-low (is_function_statement t) [] (lexical_names t) tt (lexical-low t h.0)) (top-lexical-low ts h.1)

-- the tree in the words
abbrev Cores : List Core → Type 0
Cores [] = Unit {0}
Cores (x ∷ xs) = (x.kind ≡ 20 → x.num < 256) × Cores xs

cores : (xs : List Core) → ((j : ℕ) → (get_or xs j no_core).kind ≡ 20 → (get_or xs j no_core).num < 256) → Cores xs
cores [] h = tt
cores (x ∷ xs) h = (h 0, cores xs (λ j. h (suc j)))

cores-drop : (i : ℕ) (xs : List Core) → Cores xs → Cores (drop i xs)
cores-drop zero xs h = h
cores-drop (suc i) [] h = tt
cores-drop (suc i) (x ∷ xs) h = cores-drop i xs h.1

plant-low : (xs : List Core) → Cores xs → Lows (plant xs)
plant-low [] h = tt
plant-low (x ∷ xs) h = ((λ e. h.0 (eqb-true x.kind 20 e), take-low x.arity (plant xs) (plant-low xs h.1)), drop-low x.arity (plant xs) (plant-low xs h.1))

first-tree-low : (ts : Forest) → Lows ts → Low (first_t ts)
first-tree-low nil h = ((λ e. omega arith), tt)
first-tree-low (cons t ts) h = h.0

pub tree-low : {w : List ℕ} → Planted w → (j : ℕ) → Low (tree_from (tree w) j)
unfolding tree_from
tree-low {w} g j = first-tree-low (plant (drop j (tree w))) (plant-low (drop j (tree w)) (cores-drop j (tree w) (cores (tree w) (λ i e. g.good.names i (inl e)))))

pub all-kids-low : {w : List ℕ} → Planted w → (j : ℕ) → Lows (kids (tree_from (tree w) j))
all-kids-low {w} g j = kids-low (tree_from (tree w) j) (tree-low g j)
