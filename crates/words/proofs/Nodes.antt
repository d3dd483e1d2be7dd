-- What is decoded stays where its words stay, and moves with them. Assumes nothing.
use mathlib.Core.Path.{◌≡◌, refl, sym, ap, ◌∙◌}
use mathlib.Core.List.{List}
use Prim.Native.Nat.{ℕ, ◌+◌, ◌-◌, ◌*◌, ◌/◌, ◌%◌, ◌≤◌, ◌<◌}
use native.Mathlib.Omega.{arith}
use lib.ListN.{length, get_or, drop, length-drop}
use lib.Seq.{get_or-drop, ext_get_or}
use Rattle.def_tree.specs.Tree.{no_core}
use Rattle.words.specs.Tab.{length-tab, get_d-tab, get_d-tab-out, tab-ext}
use Rattle.words.specs.Layout.{Agree, core_from, run, node_of, tree, beyond}

pub core-same : (w w' : List ℕ) (p q : ℕ) → get_or w' p 0 ≡ get_or w q 0 → get_or w' (p + 1) 0 ≡ get_or w (q + 1) 0 → core_from w' p ≡ core_from w q
core-same w w' p q a b = rw (a, b) refl

pub run-same : (w w' : List ℕ) (base o n m : ℕ) → o + n ≤ m → Agree base (base + m * 2) w w' → run w' base o n ≡ run w base o n
unfolding run
run-same w w' base o n m h a = tab-ext n (λ j. core_from w' (base + (o + j) * 2)) (λ j. core_from w (base + (o + j) * 2))
    (λ j l. core-same w w' (base + (o + j) * 2) (base + (o + j) * 2) (a (base + (o + j) * 2) (omega arith) (omega arith)) (a (base + (o + j) * 2 + 1) (omega arith) (omega arith)))

-- a run that stands elsewhere
pub run_moved : (w w' : List ℕ) (base o base' o' n : ℕ) → ((q : ℕ) → q < n * 2 → get_or w' (base' + o' * 2 + q) 0 ≡ get_or w (base + o * 2 + q) 0) → run w' base' o' n ≡ run w base o n
unfolding run
run_moved w w' base o base' o' n h = tab-ext n (λ j. core_from w' (base' + (o' + j) * 2)) (λ j. core_from w (base + (o + j) * 2)) (λ j l.
    let at : (q s s' : ℕ) → q < n * 2 → s' ≡ base' + o' * 2 + q → s ≡ base + o * 2 + q → get_or w' s' 0 ≡ get_or w s 0 = λ q s s' m e' e. rw (e, e') (h q m) in
    core-same w w' (base' + (o' + j) * 2) (base + (o + j) * 2)
    (at (j * 2) (base + (o + j) * 2) (base' + (o' + j) * 2) (omega arith) (omega arith) (omega arith))
    (at (j * 2 + 1) (base + (o + j) * 2 + 1) (base' + (o' + j) * 2 + 1) (omega arith) (omega arith) (omega arith)))

module _ (w : List ℕ) (base o n : ℕ) where
  pub run_length : length (run w base o n) ≡ n
  unfolding run
  run_length = length-tab n (λ j. core_from w (base + (o + j) * 2))

  pub run-at : (j : ℕ) → j < n → get_or (run w base o n) j no_core ≡ core_from w (base + (o + j) * 2)
  unfolding run
  run-at j h = get_d-tab n (λ j. core_from w (base + (o + j) * 2)) j no_core h

  pub run_out : (j : ℕ) → n ≤ j → get_or (run w base o n) j no_core ≡ no_core
  unfolding run
  run_out j h = get_d-tab-out n (λ j. core_from w (base + (o + j) * 2)) j no_core h

-- the tree
pub tree-length : (w : List ℕ) → length (tree w) ≡ get_or w 0 0
unfolding tree
tree-length w = length-tab (get_or w 0 0) (λ k. node_of w k)

pub tree-at : (w : List ℕ) (k : ℕ) → k < get_or w 0 0 → get_or (tree w) k no_core ≡ node_of w k
unfolding tree
tree-at w k h = get_d-tab (get_or w 0 0) (λ k. node_of w k) k no_core h

pub tree-same : (w w' : List ℕ) → get_or w 0 0 ≤ 1024 → get_or w' 0 0 ≡ get_or w 0 0 → Agree 16 2064 w w' → tree w' ≡ tree w
unfolding tree
tree-same w w' l e t = rw e (tab-ext (get_or w 0 0) (λ k. node_of w' k) (λ k. node_of w k) (λ k h. core-same w w' (16 + k * 2) (16 + k * 2) (t (16 + k * 2) (omega arith) (omega arith)) (t (16 + k * 2 + 1) (omega arith) (omega arith))))

-- the words past the first 16,384
pub beyond-same : (w w' : List ℕ) → length w' ≡ length w → ((j : ℕ) → 16384 ≤ j → get_or w' j 0 ≡ get_or w j 0) → beyond w' ≡ beyond w
unfolding beyond
beyond-same w w' l h = ext_get_or 0 (drop 16384 w') (drop 16384 w) (length-drop 16384 w' ∙ ap (λ (n : ℕ). n - 16384) l ∙ sym (length-drop 16384 w))
    (λ j q. get_or-drop 16384 w' j 0 ∙ h (16384 + j) (omega arith) ∙ sym (get_or-drop 16384 w j 0))

-- a node's first word, packed and taken apart
module _ (k f n : ℕ) (hk : k < 64) (hf : f < 32) where
  pub unpack-kind : (k + 64 * (f + 32 * n)) % 64 ≡ k
  unpack-kind = omega arith

  pub unpack-form : (k + 64 * (f + 32 * n)) / 64 % 32 ≡ f
  unpack-form = omega arith

  pub unpack-arity : n < 65536 → (k + 64 * (f + 32 * n)) / 2048 % 65536 ≡ n
  unpack-arity h = omega arith
