-- Nodes stored in the words, and what that makes of the tree. Assumes nothing.
use mathlib.Core.Path.{◌≡◌, refl, sym, ap, ◌∙◌}
use mathlib.Core.List.{List, [], ◌∷◌, ◌++◌}
use Prim.Native.Nat.{ℕ, zero, suc, ◌+◌, ◌*◌, ◌/◌, ◌%◌, ◌≤◌, ◌<◌}
use native.Mathlib.Omega.{arith}
use lib.ListN.{length, get_or, set, take, drop, length-set}
use lib.Seq.{get_or-set_same, get_or-set_other, sets, sets-eq, drop-drop}
use borrow.Rule.Slice.PartMut.{put_mid}
use Rattle.std.proofs.Common.{append_assoc}
use Rattle.def_tree.specs.Tree.{Core, core}
use Rattle.words.specs.Tab.{tab-suc, tab-ext, set-tab}
use Rattle.words.specs.Layout.{node_of, tree}
use Rattle.words.specs.Moved.{Put}
use Rattle.words.specs.Node.{Apart, NodePut}
use Rattle.words.proofs.Nodes.{core-same, unpack-kind, unpack-form, unpack-arity}

pub apart-self : (w : List ℕ) → Apart w w
apart-self w = record { size = refl; low = λ j a b. refl; high = λ j a. refl }

pub apart-then : {u v w : List ℕ} → Apart u v → Apart v w → Apart u w
apart-then a b = record { size = b.size ∙ a.size; low = λ j l h. b.low j l h ∙ a.low j l h; high = λ j l. b.high j l ∙ a.high j l }

-- one node stored
module _ (w : List ℕ) (k v x : ℕ) (long : 16384 ≤ length w) (l : k < 1024) where
  abbrev p : ℕ
  p = 16 + k * 2

  abbrev w₁ : List ℕ
  w₁ = set w p v

  keeps : (j : ℕ) → (j ≡ p → ⊥) → (j ≡ p + 1 → ⊥) → get_or (set w₁ (p + 1) x) j 0 ≡ get_or w j 0
  keeps j a b = get_or-set_other w₁ (p + 1) j x 0 b ∙ get_or-set_other w p j v 0 a

  pub node-put : NodePut w (set w₁ (p + 1) x) k (core (v % 64) (v / 64 % 32) (v / 2048 % 65536) x)
  node-put =
      let a : get_or (set w₁ (p + 1) x) p 0 ≡ v = get_or-set_other w₁ (p + 1) p x 0 (λ e. omega arith) ∙ get_or-set_same w p v 0 (omega arith) in
      let b : get_or (set w₁ (p + 1) x) (p + 1) 0 ≡ x = get_or-set_same w₁ (p + 1) x 0 (simp length-set (omega arith)) in
      record {
        apart = record { size = simp length-set; low = λ j y z. keeps j (λ e. omega arith) (λ e. omega arith); high = λ j y. keeps j (λ e. omega arith) (λ e. omega arith) };
        count = keeps 0 (λ e. omega arith) (λ e. omega arith);
        here = rw (a, b) refl;
        other = λ j d. core-same w (set w₁ (p + 1) x) (16 + j * 2) (16 + j * 2) (keeps (16 + j * 2) (λ e. d (omega arith)) (λ e. omega arith)) (keeps (16 + j * 2 + 1) (λ e. omega arith) (λ e. d (omega arith)));
      }

-- the tree with a node stored, and with one more
pub put-tree : {w w' : List ℕ} {k : ℕ} {c : Core} → NodePut w w' k c → k < get_or w 0 0 → tree w' ≡ set (tree w) k c
unfolding tree
put-tree {w} {w'} {k} {c} s l = rw s.count (set-tab (get_or w 0 0) (λ j. node_of w j) (λ j. node_of w' j) k c l s.here (λ j a d. s.other j d))

pub add-tree : {w u : List ℕ} {c : Core} (w' : List ℕ) → NodePut w u (get_or w 0 0) c → get_or w' 0 0 ≡ get_or w 0 0 + 1 → ((j : ℕ) → node_of w' j ≡ node_of u j) → tree w' ≡ tree w ++ (c ∷ [])
unfolding tree
add-tree {w} {u} {c} w' s e o =
    let n : ℕ = get_or w 0 0 in
    rw (e, tab-suc n (λ k. node_of w' k), o n, s.here) (ap (λ (l : List Core). l ++ (c ∷ [])) (tab-ext n (λ k. node_of w' k) (λ k. node_of w k) (λ k l. o k ∙ s.other k (λ q. omega arith))))

pub node-stored : (w : List ℕ) (k kind form arity num : ℕ) → 16384 ≤ length w → k < 1024 → kind < 64 → form < 32 → arity < 65536 → NodePut w (set (set w (16 + k * 2) (kind + 64 * (form + 32 * arity))) (16 + k * 2 + 1) num) k (core kind form arity num)
node-stored w k kind form arity num long l a b c =
    rw (unpack-kind kind form arity a b, unpack-form kind form arity a b, unpack-arity kind form arity a b c) at (node-put w k (kind + 64 * (form + 32 * arity)) num long l)

pub node-added : (w u : List ℕ) {c : Core} → 16384 ≤ length w → NodePut w u (get_or w 0 0) c → (tree (set u 0 (get_or w 0 0 + 1)) ≡ tree w ++ (c ∷ [])) × Apart w (set u 0 (get_or w 0 0 + 1))
node-added w u long s =
    let v : ℕ = get_or w 0 0 + 1 in
    let o : (j : ℕ) → 0 < j → get_or (set u 0 v) j 0 ≡ get_or u j 0 = λ j a. get_or-set_other u 0 j v 0 (λ e. omega arith) in (
      add-tree (set u 0 v) s (get_or-set_same u 0 v 0 (omega (arith, s.apart.size))) (λ j. core-same u (set u 0 v) (16 + j * 2) (16 + j * 2) (o (16 + j * 2) (omega arith)) (o (16 + j * 2 + 1) (omega arith))),
      apart-then s.apart (record { size = simp length-set; low = λ j a b. o j (omega arith); high = λ j a. o j (omega arith) }),
    )

-- a stretch stored at once
pub stretch : {A : Type 0} (l vs : List A) (i k : ℕ) → k ≡ length vs → i + length vs ≤ length l → put_mid i k l vs ≡ sets l i vs
stretch {A} l vs i k e h =
    ap (λ (r : List A). take i l ++ (vs ++ r)) (drop-drop k i l ∙ ap (λ (n : ℕ). drop (i + n) l) e)
    ∙ sym (append_assoc (take i l) vs (drop (i + length vs) l)) ∙ sym (sets-eq vs l i h)

-- the same word by word
pub put-sets : (w : List ℕ) (p : ℕ) (xs : List ℕ) → p + length xs ≤ length w → Put w (sets w p xs) p xs
put-sets w p [] h = record { size = refl; here = λ j l. absurd (omega arith); low = λ j l. refl; high = λ j l. refl }
put-sets w p (x ∷ xs) h =
    let s = put-sets (set w p x) (suc p) xs (simp length-set (omega arith)) in
    record {
      size = s.size ∙ length-set w p x;
      here = here s;
      low = λ j l. s.low j (omega arith) ∙ get_or-set_other w p j x 0 (λ e. omega arith);
      high = λ j l. s.high j (omega arith) ∙ get_or-set_other w p j x 0 (λ e. omega arith);
    }
  where
    here : Put (set w p x) (sets (set w p x) (suc p) xs) (suc p) xs → (j : ℕ) → j < suc (length xs) → get_or (sets (set w p x) (suc p) xs) (p + j) 0 ≡ get_or (x ∷ xs) j 0
    here s zero l = let e : p + 0 ≡ p = omega arith in rw e (s.low p (omega arith) ∙ get_or-set_same w p x 0 (omega arith))
    here s (suc j) l = let e : p + suc j ≡ suc p + j = omega arith in rw e (s.here j (omega arith))

pub put-by : {w w' : List ℕ} {p : ℕ} {xs : List ℕ} → p + length xs ≤ length w → w' ≡ sets w p xs → Put w w' p xs
put-by {w} {w'} {p} {xs} h e = rw e (put-sets w p xs h)
