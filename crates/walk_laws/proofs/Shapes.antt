-- The shape that a walk keeps follows from what it does on trees. Assumes nothing.
use mathlib.Core.Path.{◌≡◌, refl, sym, ap, ap₂, ◌∙◌}
use mathlib.Core.List.{List, [], ◌∷◌, ◌++◌}
use Prim.Native.Nat.{ℕ, ◌+◌, ◌≤◌, ◌<◌}
use native.Mathlib.Omega.{arith}
use lib.ListN.{length, take, drop, length-append, take-append-drop}
use lib.Seq.{length-take-le}
use Rattle.def_tree.specs.Tree.{Tree, Forest, nil, cons, Core, length_f, counts, flat, flats, plant, take_f, drop_f}
use Rattle.def_tree.specs.Combine as TreeWalks
use Rattle.def_tree.specs.Combine.{Res, stop, done, M, and_then, ret, Flat, tree_at, forest_at, Walks, skip, split_f}
use Rattle.def_tree.proofs.Place.{onto, pasts, length-pasts, onto-pasts, take-onto, drop-onto, onto-append, length-onto, drops-here, tree-here, forest-here, plant-flats}
use Rattle.def_tree.proofs.Sims.{SimF, sim-skip, sim-split, land_f, Ends}
use Rattle.def_tree.proofs.Whole.{Whole, whole_drop, length-take_f, flats-take-drop, unplant, length-append_f}
use Rattle.walk_laws.specs.Shape.{Room, Shape}

-- a list as what stands behind its first nodes, the last one first
rev : {A : Type 0} → List A → List A → List A
rev [] acc = acc
rev (x ∷ xs) acc = rev xs (x ∷ acc)

onto-rev : {A : Type 0} (xs acc ys : List A) → onto (rev xs acc) ys ≡ onto acc (xs ++ ys)
unfolding rev
onto-rev [] acc ys = refl
onto-rev (x ∷ xs) acc ys = onto-rev xs (x ∷ acc) ys

length-rev : {A : Type 0} (xs acc : List A) → length (rev xs acc) ≡ length xs + length acc
unfolding rev
length-rev [] acc = omega arith
length-rev (x ∷ xs) acc = length-rev xs (x ∷ acc) ∙ omega arith

-- n trees from i on, with what stands before and behind them
record Split (xs : List Core) (n i : ℕ) : Type 0 where
  pre : List Core
  ts : Forest
  post : List Core
  is : xs ≡ onto pre (flats ts post)
  far : length pre ≡ i
  size : length_f ts ≡ n

split : (xs : List Core) (n i : ℕ) → Whole xs → Room xs n i → Split xs n i
split xs n i w r = record {
  pre = rev (take i xs) [];
  ts = take_f n (plant (drop i xs));
  post = flats (drop_f n (plant (drop i xs))) [];
  is = sym (onto-rev (take i xs) [] (flats (take_f n (plant (drop i xs))) (flats (drop_f n (plant (drop i xs))) []))
      ∙ ap (λ (ys : List Core). take i xs ++ ys) (flats-take-drop n (plant (drop i xs)) [] ∙ unplant (drop i xs) (whole_drop i xs w))
      ∙ take-append-drop i xs);
  far = length-rev (take i xs) [] ∙ omega (arith, length-take-le i xs r.low);
  size = length-take_f n (plant (drop i xs)) r.trees;
}

module _ {S : Type 0} where
  -- a state by its parts
  same-state : (st : Flat S) (xs : List Core) → st.nodes ≡ xs → st ≡ record { nodes = xs; rest = st.rest }
  same-state st xs e = ap (λ (ys : List Core). record { nodes = ys; rest = st.rest }) e

  -- what landing says
  module _ {f : Forest → M S Forest} {g : Walks S} (h : SimF f g) (st : Flat S) (n i : ℕ) (w : Whole st.nodes) (r : Room st.nodes n i) where
    pub shape-trees : {st' : Flat S} {j : ℕ} → g n i st ≡ done st' j → Shape st n i st' j
    shape-trees {st'} {j} e = go (split st.nodes n i w r)
      where
        go : Split st.nodes n i → Shape st n i st' j
        go s = by (f s.ts st.rest) (sym (h.run s.pre s.post st.rest s.ts) ∙ ap (λ (q : Flat S). g (length_f s.ts) (length s.pre) q) (sym (same-state st (onto s.pre (flats s.ts s.post)) s.is)) ∙ ap (λ (m : ℕ). g m (length s.pre) st) s.size ∙ ap (λ (m : ℕ). g n m st) s.far ∙ e)
          where
            forest : forest_at st n i ≡ s.ts
            forest = ap (λ (m : ℕ). forest_at st m i) (sym s.size) ∙ ap (λ (m : ℕ). forest_at st (length_f s.ts) m) (sym s.far) ∙ ap (λ (q : Flat S). forest_at q (length_f s.ts) (length s.pre)) (same-state st (onto s.pre (flats s.ts s.post)) s.is) ∙ forest-here s.ts s.pre s.post st.rest

            by : (q : Res S Forest) → land_f s.pre s.post q ≡ done st' j → Shape st n i st' j
            by (stop m) z = absurd (let y : ◌≡◌ {A = ℕ} 0 1 = cc in omega arith)
            by (done s' us) z =
                let nodes' : st'.nodes ≡ onto s.pre (flats us s.post) = cc in
                let j' : j ≡ length (pasts us s.pre) = cc in
                let len = length-pasts us s.pre in
                record {
                  front = ap₂ {C = List Core} take (sym s.far) nodes' ∙ take-onto s.pre (flats us s.post) ∙ sym (ap₂ {C = List Core} take (sym s.far) s.is ∙ take-onto s.pre (flats s.ts s.post));
                  back = ap₂ {C = List Core} drop (j' ∙ len) nodes' ∙ drops-here us s.pre s.post
                      ∙ sym (ap₂ {C = List Core} drop (ap₂ {C = ℕ} ◌+◌ (sym s.far) (ap counts forest)) s.is ∙ drops-here s.ts s.pre s.post);
                  inside = (omega (arith, j', len, s.far), rw (j', nodes') (inside-onto us s.pre s.post));
                }
              where
                inside-onto : (us : Forest) (pre post : List Core) → length (pasts us pre) ≤ length (onto pre (flats us post))
                inside-onto us pre post = rw (sym (onto-pasts us pre post), onto-append (pasts us pre) post, length-append, length-onto) (omega arith)

    -- the trees after the walk
    record Landed (s : Split st.nodes n i) (st' : Flat S) (j : ℕ) : Type 0 where
      us : Forest
      nodes : st'.nodes ≡ onto s.pre (flats us s.post)
      end : j ≡ length (pasts us s.pre)
      size : length_f us ≡ n

    landed : (s : Split st.nodes n i) {st' : Flat S} {j : ℕ} → g n i st ≡ done st' j → Landed s st' j
    landed s {st'} {j} e = by (f s.ts st.rest) (h.size st.rest s.ts) (sym (h.run s.pre s.post st.rest s.ts) ∙ ap (λ (q : Flat S). g (length_f s.ts) (length s.pre) q) (sym (same-state st (onto s.pre (flats s.ts s.post)) s.is)) ∙ ap (λ (m : ℕ). g m (length s.pre) st) s.size ∙ ap (λ (m : ℕ). g n m st) s.far ∙ e)
      where
        by : (q : Res S Forest) → Ends (λ us. length_f us ≡ length_f s.ts) q → land_f s.pre s.post q ≡ done st' j → Landed s st' j
        by (stop m) k z = absurd (let y : ◌≡◌ {A = ℕ} 0 1 = cc in omega arith)
        by (done s' us) k z = record { us = us; nodes = cc; end = cc; size = k ∙ s.size }

    -- as many trees begin there again
    pub room-stays : {st' : Flat S} {j : ℕ} → g n i st ≡ done st' j → Room st'.nodes n i
    room-stays {st'} {j} e = go (split st.nodes n i w r)
      where
        go : Split st.nodes n i → Room st'.nodes n i
        go s =
            let l = landed s e in
            let there : drop i st'.nodes ≡ flats l.us s.post = ap₂ {C = List Core} drop (sym s.far) l.nodes ∙ drop-onto s.pre (flats l.us s.post) in
            let them : length_f (plant (drop i st'.nodes)) ≡ length_f l.us + length_f (plant s.post) = ap (λ (xs : List Core). length_f (plant xs)) there ∙ ap length_f (plant-flats l.us s.post) ∙ length-append_f l.us (plant s.post) in
            record { low = let q = shape-trees e in omega (arith, q.inside); trees = omega (arith, them, l.size) }

    -- the walk ends where they end
    pub trees-end : {st' : Flat S} {j : ℕ} → g n i st ≡ done st' j → j ≡ i + counts (forest_at st' n i)
    trees-end {st'} {j} e = go (split st.nodes n i w r)
      where
        go : Split st.nodes n i → j ≡ i + counts (forest_at st' n i)
        go s =
            let l = landed s e in
            let forest : forest_at st' n i ≡ l.us = ap (λ (m : ℕ). forest_at st' m i) (sym l.size) ∙ ap (λ (m : ℕ). forest_at st' (length_f l.us) m) (sym s.far) ∙ ap (λ (q : Flat S). forest_at q (length_f l.us) (length s.pre)) (same-state st' (onto s.pre (flats l.us s.post)) l.nodes) ∙ forest-here l.us s.pre s.post st'.rest in
            omega (arith, l.end, length-pasts l.us s.pre, s.far, ap counts forest)

  -- a walk of all but the first tree leaves that one
  module _ {k : Forest → M S Forest} {k' : Walks S} (h : SimF k k') (st : Flat S) (n i : ℕ) (w : Whole st.nodes) (r : Room st.nodes n i) where
    pub first-stays : {st' : Flat S} {j : ℕ} → 0 < n → split_f skip k' n i st ≡ done st' j → tree_at st' i ≡ tree_at st i
    first-stays {st'} {j} z e = go (split st.nodes n i w r)
      where
        go : Split st.nodes n i → tree_at st' i ≡ tree_at st i
        go s = by s.ts s.size s.is (sym ((sim-split sim-skip h).run s.pre s.post st.rest s.ts) ∙ ap (λ (q : Flat S). split_f skip k' (length_f s.ts) (length s.pre) q) (sym (same-state st (onto s.pre (flats s.ts s.post)) s.is)) ∙ ap (λ (m : ℕ). split_f skip k' m (length s.pre) st) s.size ∙ ap (λ (m : ℕ). split_f skip k' n m st) s.far ∙ e)
          where
            tree_of : (q : Flat S) (t : Tree) (xs : List Core) → q.nodes ≡ onto s.pre (flat t xs) → tree_at q i ≡ t
            tree_of q t xs e = ap (λ (m : ℕ). tree_at q m) (sym s.far) ∙ ap (λ (q : Flat S). tree_at q (length s.pre)) (same-state q (onto s.pre (flat t xs)) e) ∙ tree-here t s.pre xs q.rest

            at-end : (t : Tree) (r : Res S Forest) → land_f s.pre s.post (and_then r (λ us s₂. done s₂ (cons t us))) ≡ done st' j → tree_at st' i ≡ t
            at-end t (stop m) q = absurd (let y : ◌≡◌ {A = ℕ} 0 1 = cc in omega arith)
            at-end t (done s' us) q = let nodes' : st'.nodes ≡ onto s.pre (flat t (flats us s.post)) = cc in tree_of st' t (flats us s.post) nodes'

            by : (ts : Forest) → length_f ts ≡ n → st.nodes ≡ onto s.pre (flats ts s.post) → land_f s.pre s.post (TreeWalks.split ret k ts st.rest) ≡ done st' j → tree_at st' i ≡ tree_at st i
            by nil o x q = absurd (omega (arith, o, z))
            by (cons t ts) o x q = at-end t (k ts st.rest) q ∙ sym (tree_of st t (flats ts s.post) x)
