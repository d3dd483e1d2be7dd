-- A node's children from one of them on, laid out. Assumes nothing.
use Rattle.std.proofs.Common.{◌≡◌, ℕ, zero, suc, ◌+◌, ◌-◌, ◌<◌, ◌≤◌, Bool, true, false, eqb, List, length, refl, sym, ap, ap₂, ◌∙◌, subst, arith}
use Rattle.std.proofs.lemmas.Bool.{eqb-true}
use Rattle.def_tree.specs.Base.{pick}
use Rattle.def_tree.specs.Tree.{Forest, nil, cons, length_f, count, counts, take_f, drop_f}
use Rattle.def_tree.proofs.Whole.{length-take_f}
use Rattle.def_text.specs.Derives.{laid, laid_all}
use Rattle.file_read.specs.declared.header.Header.{Header}
use Rattle.file_read.specs.Load.{Readable}
use Rattle.words_nodes.specs.Nodes.{forest_from}
use Rattle.words_nodes.proofs.Loops.{open-here, open-past}
use Rattle.words_nodes.proofs.Trees.{count-some}
use Rattle.words_twice.specs.Twice.{Stand}
use Rattle.words_twice.proofs.Places.{forest-none, forest-cons, stand-open, open-stand}
use Rattle.text_table.specs.Put.{default_count}
use Rattle.text_tokens.specs.Tokens.{node_of}
use Rattle.text_choice.specs.Trees.{extra, lay, lay_first, cores, tree_of, trees_of}
use Rattle.text_choice.proofs.Planted.{first-none, default-laid, nodes-length, whole, tree-in}
use Rattle.text_walk.specs.Walk.{extra_at, laid_from}

laid-take : (n : ℕ) (ts : Forest) → take_f n (laid_all ts) ≡ laid_all (take_f n ts)
laid-take zero ts = refl
laid-take (suc n) nil = refl
laid-take (suc n) (cons t ts) = ap (cons (laid t)) (laid-take n ts)

first-take : (d n : ℕ) (ts : Forest) → take_f n (lay_first d ts) ≡ lay_first d (take_f n ts)
first-take d zero ts = refl
first-take d (suc n) nil = refl
first-take d (suc n) (cons t ts) = ap (cons (lay d t)) (laid-take n ts)

length-first : (d : ℕ) (ts : Forest) → length_f (lay_first d ts) ≡ length_f ts
length-first d nil = refl
length-first d (cons t ts) = ap suc (go ts)
  where
    go : (ts : Forest) → length_f (laid_all ts) ≡ length_f ts
    go nil = refl
    go (cons t ts) = ap suc (go ts)

pub stand-none : (bs : List ℕ) (h : Header) (i : ℕ) → i ≤ length (cores bs h) → Stand (cores bs h) i 0
stand-none bs h i l = record { inside = l; trees = omega arith }

module _ (bs : List ℕ) (h : Header) (R : Readable bs h.nodes h.texts) where
  -- where some trees stand
  module _ (k n i : ℕ) (s : Stand (cores bs h) i n) where
    pub here : 0 < n → i < h.nodes
    here z = omega (arith, open-here (whole bs h R) (stand-open s) z, nodes-length bs h R)

    pub laid-length : length_f (laid_from bs h k n i) ≡ n
    unfolding forest_from
    laid-length = length-first (extra_at bs h k i) (trees_of bs h n i) ∙ length-take_f n _ s.trees

    pub trees-cons : 0 < n → trees_of bs h n i ≡ cons (tree_of bs h i) (trees_of bs h (n - 1) (i + count (tree_of bs h i)))
    trees-cons z = forest-cons (whole bs h R) (stand-open s) z

    pub stand-past : 0 < n → Stand (cores bs h) (i + count (tree_of bs h i)) (n - 1)
    stand-past z = open-stand (omega (arith, tree-in bs h R i (here z), nodes-length bs h R)) (open-past (whole bs h R) (stand-open s) z)

    -- what stands behind the first child is not the first
    pub laid-cons : k < i → 0 < n → laid_from bs h k n i ≡ cons (lay (extra_at bs h k i) (tree_of bs h i)) (laid_from bs h k (n - 1) (i + count (tree_of bs h i)))
    laid-cons l z =
        let j = i + count (tree_of bs h i) in
        let ts = trees_of bs h (n - 1) j in
        ap (lay_first (extra_at bs h k i)) (trees-cons z)
        ∙ ap (cons (lay (extra_at bs h k i) (tree_of bs h i))) (sym (first-none ts) ∙ ap (λ (d : ℕ). lay_first d ts) (sym (later j (omega (arith, count-some (tree_of bs h i))))))
      where
        later : (j : ℕ) → k + 1 < j → extra_at bs h k j ≡ 0
        later j l = go (eqb j (k + 1)) refl
          where
            go : (b : Bool) → eqb j (k + 1) ≡ b → pick b (extra (node_of bs h k).kind (node_of bs h k).form) 0 ≡ 0
            go true e = absurd (omega (arith, eqb-true j (k + 1) e))
            go false e = refl

  abbrev next : ℕ → ℕ
  next i = i + count (tree_of bs h i)

  less : {i n c : ℕ} → Stand (cores bs h) i n → c ≤ n → Stand (cores bs h) i c
  less s l = record { inside = s.inside; trees = omega (arith, s.trees) }

  -- the first c of n children, and those behind them
  pub record Split (k n i c : ℕ) : Type 0 where
    pub first : Stand (cores bs h) i c
    pub rest : Stand (cores bs h) (i + counts (trees_of bs h c i)) (n - c)
    pub taken : take_f c (laid_from bs h k n i) ≡ laid_from bs h k c i
    pub dropped : drop_f c (laid_from bs h k n i) ≡ laid_from bs h k (n - c) (i + counts (trees_of bs h c i))
    pub all : counts (trees_of bs h n i) ≡ counts (trees_of bs h c i) + counts (trees_of bs h (n - c) (i + counts (trees_of bs h c i)))

  none-here : (i : ℕ) → i + counts (trees_of bs h 0 i) ≡ i
  none-here i = omega (arith, ap counts (forest-none (cores bs h) i))

  pub split : (c k n i : ℕ) → Stand (cores bs h) i n → c ≤ n → k < i → Split k n i c
  split zero k n i s l z =
      let e : i ≡ i + counts (trees_of bs h 0 i) = sym (none-here i) in
      let m : n ≡ n - 0 = omega arith in record {
        first = less s (omega arith);
        rest = subst (λ (j : ℕ). Stand (cores bs h) j (n - 0)) e (less s (omega arith));
        taken = sym (ap (lay_first (extra_at bs h k i)) (forest-none (cores bs h) i));
        dropped = ap₂ {C = Forest} (λ (a b : ℕ). laid_from bs h k a b) m e;
        all = omega (arith, ap counts (forest-none (cores bs h) i), ap₂ {C = ℕ} (λ (a b : ℕ). counts (trees_of bs h a b)) m e);
      }
  split (suc c) k n i s l z =
      let j = next i in
      let p : 0 < n = omega arith in
      let s' : Stand (cores bs h) j (n - 1) = stand-past k n i s p in
      let q = split c k (n - 1) j s' (omega arith) (omega (arith, count-some (tree_of bs h i))) in
      let f : Stand (cores bs h) i (suc c) = less s l in
      let e : suc c - 1 ≡ c = omega arith in
      let t : trees_of bs h (suc c) i ≡ cons (tree_of bs h i) (trees_of bs h c j) = trees-cons k (suc c) i f (omega arith) ∙ ap (λ (a : ℕ). cons (tree_of bs h i) (trees_of bs h a j)) e in
      let g : j + counts (trees_of bs h c j) ≡ i + counts (trees_of bs h (suc c) i) = omega (arith, ap counts t) in
      let m : n - 1 - c ≡ n - suc c = omega arith in record {
        first = f;
        rest = subst (λ (b : ℕ). Stand (cores bs h) b (n - suc c)) g (subst (Stand (cores bs h) (j + counts (trees_of bs h c j))) m q.rest);
        taken =
            ap (take_f (suc c)) (laid-cons k n i s z p) ∙ ap (cons (lay (extra_at bs h k i) (tree_of bs h i))) q.taken
            ∙ ap (λ (a : ℕ). cons (lay (extra_at bs h k i) (tree_of bs h i)) (laid_from bs h k a j)) (sym e) ∙ sym (laid-cons k (suc c) i f z (omega arith));
        dropped = ap (drop_f (suc c)) (laid-cons k n i s z p) ∙ q.dropped ∙ ap₂ {C = Forest} (λ (a b : ℕ). laid_from bs h k a b) m g;
        all = omega (arith, ap counts (trees-cons k n i s p), ap counts t, q.all, ap₂ {C = ℕ} (λ (a b : ℕ). counts (trees_of bs h a b)) m g);
      }

  -- the default clauses among the first m
  pub defaults-here : (k m n i : ℕ) → Stand (cores bs h) i n → m ≤ n → k < i → default_count (take_f m (laid_from bs h k n i)) ≡ default_count (laid_all (trees_of bs h m i))
  defaults-here k m n i s l z = ap default_count (split m k n i s l z).taken ∙ default-laid (extra_at bs h k i) (trees_of bs h m i)
