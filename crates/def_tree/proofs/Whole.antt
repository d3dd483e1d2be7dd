-- What the port's leaf functions need of the list of nodes, whatever the walks: `Whole`, that each node has its children. It goes into
-- `Good`; it holds of each end of a list that has it; it is kept where one tree takes another's place. Assumes nothing.
use mathlib.Core.Path.{◌≡◌, refl, sym, ap, ◌∙◌}
use mathlib.Core.List.{List, [], ◌∷◌}
use Prim.Native.Nat.{ℕ, zero, suc, ◌+◌, ◌-◌, ◌≤◌, ◌<◌}
use native.Mathlib.Nat.{zero-add, suc-add, sub-zero, zero-sub, suc-sub-suc, not-suc-le-zero, le_of_suc-le-suc}
use native.Mathlib.Omega.{arith}
use lib.ListN.{length, drop}
use lib.Seq.{drop-cons, drop-drop}
use Rattle.def_tree.specs.Tree.{Tree, Forest, node, nil, cons, kind, form, num, length_f, count, counts, Core, no_core, flat, flats, take_f, drop_f, plant, first_t}
use Rattle.def_tree.specs.Combine.{Flat, tree_at, node_at}
use Rattle.def_tree.proofs.Place.{onto, append_f, plant-flat, plant-flats, drop-onto, drop-flat}

abbrev pub Whole : List Core → Type 0
Whole [] = Unit {0}
Whole (x ∷ xs) = (x.arity ≤ length_f (plant xs)) × Whole xs

pub whole_drop : (n : ℕ) (xs : List Core) → Whole xs → Whole (drop n xs)
whole_drop zero xs h = h
whole_drop (suc n) [] h = tt
whole_drop (suc n) (x ∷ xs) h = whole_drop n xs h.1

pub length-append_f : (ts us : Forest) → length_f (append_f ts us) ≡ length_f ts + length_f us
length-append_f nil us = sym (zero-add (length_f us))
length-append_f (cons t ts) us = ap suc (length-append_f ts us) ∙ sym (suc-add (length_f ts) (length_f us))

pub length-take_f : (n : ℕ) (ts : Forest) → n ≤ length_f ts → length_f (take_f n ts) ≡ n
length-take_f zero ts h = refl
length-take_f (suc n) nil h = absurd (not-suc-le-zero h)
length-take_f (suc n) (cons t ts) h = ap suc (length-take_f n ts (le_of_suc-le-suc h))

pub length-drop_f : (n : ℕ) (ts : Forest) → length_f (drop_f n ts) ≡ length_f ts - n
length-drop_f zero ts = sym (sub-zero (length_f ts))
length-drop_f (suc n) nil = sym (zero-sub (suc n))
length-drop_f (suc n) (cons t ts) = length-drop_f n ts ∙ sym (suc-sub-suc (length_f ts) n)

pub flats-take-drop : (n : ℕ) (ts : Forest) (xs : List Core) → flats (take_f n ts) (flats (drop_f n ts) xs) ≡ flats ts xs
flats-take-drop zero ts xs = refl
flats-take-drop (suc n) nil xs = refl
flats-take-drop (suc n) (cons t ts) xs = ap (flat t) (flats-take-drop n ts xs)

-- a whole list is the list of its trees
pub unplant : (xs : List Core) → Whole xs → flats (plant xs) [] ≡ xs
unplant [] h = refl
unplant (x ∷ xs) h = rw (length-take_f x.arity (plant xs) h.0, flats-take-drop x.arity (plant xs) [], unplant xs h.1) refl

mutual
  pub whole-flat : (t : Tree) (xs : List Core) → Whole xs → Whole (flat t xs)
  whole-flat (node k f a ts) xs h = (rw (plant-flats ts xs) (omega (arith, length-append_f ts (plant xs))), whole-flats ts xs h)

  pub whole-flats : (ts : Forest) (xs : List Core) → Whole xs → Whole (flats ts xs)
  whole-flats nil xs h = h
  whole-flats (cons t ts) xs h = whole-flat t (flats ts xs) (whole-flats ts xs h)

-- another end with as many trees
pub whole-onto : (pre ys zs : List Core) → length_f (plant zs) ≡ length_f (plant ys) → Whole zs → Whole (onto pre ys) → Whole (onto pre zs)
whole-onto [] ys zs e h w = h
whole-onto (c ∷ pre) ys zs e h w =
    let q : Whole (c ∷ ys) = rw (drop-onto pre (c ∷ ys)) at (whole_drop (length pre) (onto pre (c ∷ ys)) w) in
    whole-onto pre (c ∷ ys) (c ∷ zs) (ap suc (length-drop_f c.arity (plant zs) ∙ ap (λ (n : ℕ). n - c.arity) e ∙ sym (length-drop_f c.arity (plant ys)))) (rw e q.0, h) w

pub whole-put : (pre post : List Core) (t e : Tree) → Whole (onto pre (flat t post)) → Whole (onto pre (flat e post))
whole-put pre post t e w =
    let h : Whole post = rw (drop-flat t post) at (whole_drop (count t) (flat t post) (rw (drop-onto pre (flat t post)) at (whole_drop (length pre) (onto pre (flat t post)) w))) in
    whole-onto pre (flat t post) (flat e post) (ap length_f (plant-flat e post) ∙ sym (ap length_f (plant-flat t post))) (whole-flat e post h) w

module _ {S : Type 0} (st : Flat S) (i : ℕ) (l : i < length st.nodes) where
  -- in a whole list the nodes from i on begin with the nodes of the tree at i: what a copy of that tree copies
  pub tree-nodes : Whole st.nodes → flat (tree_at st i) (drop (i + count (tree_at st i)) st.nodes) ≡ drop i st.nodes
  unfolding tree_at
  tree-nodes w = rw (← (drop-drop (count (first_t (plant (drop i st.nodes)))) i st.nodes)) (go (drop i st.nodes) (drop-cons st.nodes i no_core l) (whole_drop i st.nodes w))
    where
      behind : (t : Tree) (ts : Forest) (xs : List Core) → flats (cons t ts) [] ≡ xs → flat t (drop (count t) xs) ≡ xs
      behind t ts xs e = ap (λ (ys : List Core). flat t (drop (count t) ys)) (sym e) ∙ ap (flat t) (drop-flat t (flats ts [])) ∙ e

      go : (xs : List Core) {x : Core} {ys : List Core} → xs ≡ x ∷ ys → Whole xs → flat (first_t (plant xs)) (drop (count (first_t (plant xs))) xs) ≡ xs
      go [] e h = let z : ◌≡◌ {A = ℕ} 0 1 = cc in absurd (omega arith)
      go (x ∷ xs) e h = behind (node x.kind x.form x.num (take_f x.arity (plant xs))) (drop_f x.arity (plant xs)) (x ∷ xs) (unplant (x ∷ xs) h)

  -- the tree at i has the kind, form and number of the node at i
  pub kind_at : kind (tree_at st i) ≡ (node_at st i).kind
  unfolding tree_at
  kind_at = rw (drop-cons st.nodes i no_core l) refl

  pub form-at : form (tree_at st i) ≡ (node_at st i).form
  unfolding tree_at
  form-at = rw (drop-cons st.nodes i no_core l) refl

  pub num-at : num (tree_at st i) ≡ (node_at st i).num
  unfolding tree_at
  num-at = rw (drop-cons st.nodes i no_core l) refl

-- a loop to the end of a tree, of any list: n trees are still open, and the next node opens its children
counts-take-add : (n m : ℕ) (ts : Forest) → counts (take_f (n + m) ts) ≡ counts (take_f n ts) + counts (take_f m (drop_f n ts))
counts-take-add zero m ts = rw (zero-add m, zero-add (counts (take_f m ts))) refl
counts-take-add (suc n) m nil = rw suc-add (none m)
  where
    none : (m : ℕ) → 0 ≡ 0 + counts (take_f m nil)
    none zero = refl
    none (suc m) = refl
counts-take-add (suc n) m (cons t ts) = rw (suc-add, counts-take-add n m ts) (omega arith)

pub counts-more : (n : ℕ) (x : Core) (xs : List Core) → counts (take_f (suc n) (plant (x ∷ xs))) ≡ suc (counts (take_f (x.arity + n) (plant xs)))
counts-more n x xs = rw (counts-take-add x.arity n (plant xs)) (omega arith)
