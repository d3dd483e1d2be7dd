-- A node and an identifier by their numbers, and the bytes of all nodes. Assumes nothing.
use mathlib.Core.Path.{◌≡◌, refl, sym, ap, ◌∙◌}
use mathlib.Core.Bool.{true, ◌&&◌}
use mathlib.Core.List.{List, [], ◌∷◌, ◌++◌, map, map-append, append-nil}
use Prim.Native.Nat.{ℕ, zero, suc, ◌+◌, ◌*◌, ◌≤◌, ◌<◌}
use native.Mathlib.Omega.{arith}
use borrow.Author.Tests.{lt-ltb, le-ltb}
use lib.Dec.{leb}
use lib.ListN.{get_or}
use lib.Seq.{sets}
use Rattle.def_tree.specs.Tree.{Core}
use Rattle.def_file.specs.declared.Raw.{Raw}
use Rattle.def_file.specs.Script.{zero_node}
use Rattle.def_file.specs.Read.{u32}
use Rattle.def_file.specs.Write.{raw_bytes, node_bytes}
use Rattle.words.specs.Tab.{tab, tab-suc, length-tab}
use Rattle.words.specs.Layout.{node_of, tree}
use Rattle.file_read.specs.Idents.{numbered}
use Rattle.laws_roundtrip.proofs.Nodes.{node-bytes-length}
use Rattle.file_write.specs.Back.{node_in, ident_in}
use Rattle.file_write.proofs.Stores.{first, then}

module _ (bs : List ℕ) where
  pub node-there : (n m : ℕ) → n ≡ u32 bs 8 → (leb 1 m && leb m n) ≡ true → node_in bs m ≡ numbered bs m
  unfolding node_in
  node-there n m e h = rw (← e, h) refl

  module _ (w : List ℕ) where
    pub ident-there : (i : ℕ) → i < get_or w 4 0 → ident_in bs w i ≡ node_in bs (get_or w (15504 + i) 0)
    unfolding ident_in
    ident-there i h = rw (lt-ltb i (get_or w 4 0) h) refl

    pub ident-none : (i : ℕ) → get_or w 4 0 ≤ i → ident_in bs w i ≡ zero_node
    unfolding ident_in
    ident-none i h = rw (le-ltb i (get_or w 4 0) h) refl

-- the bytes of one node more
pub node-bytes-snoc : (xs : List Raw) (x : Raw) → node_bytes (xs ++ (x ∷ [])) ≡ node_bytes xs ++ raw_bytes x
unfolding node_bytes
node-bytes-snoc [] x = append-nil (raw_bytes x)
node-bytes-snoc (y ∷ ys) x = ap (λ (r : List ℕ). raw_bytes y ++ r) (node-bytes-snoc ys x)

pub nodes-more : (f : ℕ → Raw) (k : ℕ) (o : List ℕ) {o₁ o₂ : List ℕ} (x : Raw) → o₁ ≡ sets o 0 (node_bytes (tab k f)) → x ≡ f k → o₂ ≡ sets o₁ (16 * k) (raw_bytes x) → o₂ ≡ sets o 0 (node_bytes (tab (k + 1) f))
nodes-more f k o x p e q =
    (then (first o 0 (node_bytes (tab k f)) p) (16 * k) (raw_bytes x) q (omega (arith, node-bytes-length (tab k f), length-tab k f))).is
    ∙ ap (sets o 0) (sym (ap node_bytes (tab-suc k f) ∙ node-bytes-snoc (tab k f) (f k) ∙ ap (λ (y : Raw). node_bytes (tab k f) ++ raw_bytes y) (sym e)))

pub nodes-none : (f : ℕ → Raw) (o : List ℕ) → o ≡ sets o 0 (node_bytes (tab 0 f))
unfolding node_bytes tab
nodes-none f o = refl

map-tab : (g : Core → Raw) (n : ℕ) (f : ℕ → Core) → map g (tab n f) ≡ tab n (λ k. g (f k))
unfolding tab
map-tab g zero f = refl
map-tab g (suc n) f = map-append g (tab n f) (f n ∷ []) ∙ ap (λ (r : List Raw). r ++ (g (f n) ∷ [])) (map-tab g n f)

pub nodes-all : (g : Core → Raw) (w o : List ℕ) (k : ℕ) {o₁ : List ℕ} → k ≡ get_or w 0 0 → o₁ ≡ sets o 0 (node_bytes (tab k (λ j. g (node_of w j)))) → o₁ ≡ sets o 0 (node_bytes (map g (tree w)))
unfolding tree
nodes-all g w o k e p = p ∙ ap (λ (xs : List Raw). sets o 0 (node_bytes xs)) (ap (λ (n : ℕ). tab n (λ j. g (node_of w j))) e ∙ sym (map-tab g (get_or w 0 0) (λ j. node_of w j)))
