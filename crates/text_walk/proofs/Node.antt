-- A node by its row, and by the row that is chosen for it. Assumes nothing.
use Rattle.std.proofs.Common.{◌≡◌, ℕ, ◌+◌, ◌-◌, ◌*◌, ◌<◌, ◌≤◌, Bool, true, false, eqb, eq-eqb, List, [], ◌∷◌, ◌++◌, length, take, drop, get_or, Option, Some, None, refl, sym, ap, ap₂, ◌∙◌, subst, length-take, length-drop, arith}
use Rattle.std.specs.Prelude.{T, codes}
use Rattle.def_tree.specs.Base.{pick}
use Rattle.def_tree.specs.Tree.{Tree, Forest, nil, cons, count, counts}
use Rattle.def_file.specs.declared.Raw.{Raw}
use Rattle.def_file.specs.declared.kind.Kind.TheVariants as Kinds
use Rattle.def_file.specs.Named.{is_kind}
use Rattle.file_read.specs.declared.header.Header.{Header}
use Rattle.file_read.specs.Load.{Readable}
use Rattle.def_text.specs.Words.{Word}
use Rattle.def_text.specs.Grammar.{is_for}
use Rattle.def_text.specs.Derives.{laid}
use Rattle.def_text.specs.Entry.{own_number}
use Rattle.words_nodes.proofs.Loops.{forest-first, open-first}
use Rattle.laws_text.proofs.Rows.{for-kind}
use Rattle.words_nodes.proofs.Trees.{count-some}
use Rattle.words_twice.specs.Twice.{Stand}
use Rattle.text_table.specs.declared.Part.{Part}
use Rattle.text_table.specs.Rows.{words, rows, no_row}
use Rattle.text_table.specs.Put.{Spot, put, choice}
use Rattle.text_words.specs.Words.{word}
use Rattle.text_tokens.specs.Tokens.{node_of, own_of}
use Rattle.text_spots.specs.Spots.{spot_of}
use Rattle.text_parts.specs.Parts.{list_length, row_parts, kid_count, PartsFit, joined, in_pair, put_parts}
use Rattle.text_parts.proofs.Table.{eleven, fitting, all-kids}
use Rattle.text_parts.proofs.Put.{put-by-parts, put-nothing}
use Rattle.text_parts.proofs.Uses.{number-fine, do-while-row, do-while, do-count, while-count}
use Rattle.text_choice.specs.declared.Choice.{Choice as Chose}
use Rattle.text_choice.specs.Trees.{extra, form_of, lay, lay_first, cores, tree_of, trees_of, kids_of, shown, spelled}
use Rattle.text_choice.specs.Choice.{Chosen}
use Rattle.text_choice.proofs.Planted.{lay-none, nodes-length, tree-node, tree-in, kids-stand, kids-laid, kids-two, kids-turned, laid-shown, length-kids}
use Rattle.text_walk.specs.Lists.{used, Pushed}
use Rattle.text_walk.specs.Walk.{DefaultsFit, Printed, PrintIs, extra_at, laid_from, RowFor, put_tree, put_row, put_right}
use Rattle.text_walk.proofs.Numbers.{pushed-then}
use Rattle.text_walk.proofs.Defaults.{row-defaults, front-defaults, back-defaults}

-- the same, said otherwise
module _ (bs : List ℕ) (h : Header) (w v : List ℕ) (o o' : Option (List Word)) (i c room i' c' room' : ℕ) where
  pub print-as : (r : Option ℕ) → o' ≡ o → i' + c' ≡ i + c → room ≤ room' → PrintIs bs h w v o i c room r → PrintIs bs h w v o' i' c' room' r
  print-as None e a l p = (e ∙ p.0, p.1)
  print-as (Some j) e a l p = record { tokens = p.tokens; is = e ∙ p.is; pushed = p.pushed; few = omega (arith, p.few); at = omega (arith, p.at) }

module _ (bs : List ℕ) (h : Header) (R : Readable bs h.nodes h.texts) (k : ℕ) (l : k < h.nodes) where
  abbrev x : Raw
  x = node_of bs h k

  pub count-is : count (tree_of bs h k) ≡ counts (trees_of bs h x.arity (k + 1)) + 1
  count-is = omega (arith, ap count (tree-node bs h R k l))

  -- ---- by a row

  module _ (r : ℕ) (few : r < 136) (q : RowFor bs h k r) (m : ℕ) (em : m ≡ list_length r x.arity) (ps : List Part) (ep : ps ≡ row_parts r) where
    pub parts-long : length ps ≡ 11
    parts-long = ap length ep ∙ eleven (get_or rows r no_row)

    kind-is : (get_or rows r no_row).rule.kind ≡ x.kind
    kind-is = for-kind x.kind q.0 x.arity (get_or rows r no_row).rule q.1

    pub parts-fit : PartsFit x.kind ps
    parts-fit = subst (PartsFit x.kind) (sym ep) (subst (λ (j : ℕ). PartsFit j (row_parts r)) kind-is (fitting r few))

    pub parts-defaults : DefaultsFit m ps
    parts-defaults = subst (DefaultsFit m) (sym ep) (row-defaults m r few)

    pub all-there : kid_count m ps ≡ x.arity
    all-there = ap₂ {C = ℕ} kid_count em ep ∙ all-kids x.kind q.0 x.arity r few q.1

    pub right-stand : Stand (cores bs h) (k + 1) (kid_count m ps)
    right-stand = subst (Stand (cores bs h) (k + 1)) (sym all-there) (kids-stand bs h R k l)

    pub right-counts : counts (trees_of bs h (kid_count m ps) (k + 1)) + 1 ≡ count (tree_of bs h k)
    right-counts = omega (arith, count-is, ap (λ (n : ℕ). counts (trees_of bs h n (k + 1))) all-there)

    first-extra : extra_at bs h k (k + 1) ≡ extra x.kind x.form
    first-extra = ap (λ (b : Bool). pick b (extra x.kind x.form) 0) (eq-eqb (k + 1) (k + 1) refl)

    pub row-right : is_kind Kinds.DoWhile x.kind ≡ false → (s : Spot) → put_row bs h k r s ≡ put_right bs h k m s ps (k + 1)
    row-right e s =
        let f : kids_of bs h k ≡ laid_from bs h k (kid_count m ps) (k + 1) = kids-laid bs h R k l e ∙ ap₂ {C = Forest} (λ (d n : ℕ). lay_first d (trees_of bs h n (k + 1))) (sym first-extra) (sym all-there) in
        ap (λ (ts : Forest). put_parts (spelled bs h) (own_of bs h k) (list_length r x.arity) s s.bars s.next (row_parts r) ts) f
        ∙ ap₂ {C = Option (List Word)} (λ (n : ℕ) (us : List Part). put_parts (spelled bs h) (own_of bs h k) n s s.bars s.next us (laid_from bs h k (kid_count m ps) (k + 1))) (sym em) (sym ep)

    -- ---- a do-while: its statement is its second child, and stands first

    module _ (e : x.kind ≡ 11) where
      do-row : (r ≡ 23) × (x.arity ≡ 2)
      do-row = do-while-row q.0 x.arity r few (subst (λ (j : ℕ). T (is_for j q.0 x.arity (get_or rows r no_row).rule)) e q.1)

      parts-are : ps ≡ row_parts 23
      parts-are = ep ∙ ap row_parts do-row.0

      abbrev second : ℕ
      second = k + 1 + count (tree_of bs h (k + 1))

      pub front-default : DefaultsFit m (take 2 ps)
      front-default = subst (λ (us : List Part). DefaultsFit m (take 2 us)) (sym parts-are) (front-defaults m)

      pub back-default : DefaultsFit m (drop 2 ps)
      back-default = subst (λ (us : List Part). DefaultsFit m (drop 2 us)) (sym parts-are) (back-defaults m)

      pub front-count : kid_count m (take 2 ps) ≡ 1
      front-count = ap (λ (us : List Part). kid_count m (take 2 us)) parts-are ∙ do-count m

      pub back-count : kid_count m (drop 2 ps) ≡ 1
      back-count = ap (λ (us : List Part). kid_count m (drop 2 us)) parts-are ∙ while-count m

      two : trees_of bs h x.arity (k + 1) ≡ cons (tree_of bs h (k + 1)) (cons (tree_of bs h second) nil)
      two = kids-two bs h R k l do-row.1

      pub both-counts : count (tree_of bs h k) ≡ count (tree_of bs h (k + 1)) + count (tree_of bs h second) + 1
      both-counts = omega (arith, count-is, ap counts two)

      pub first-in : k + 1 < h.nodes
      first-in = omega (arith, both-counts, tree-in bs h R k l, count-some (tree_of bs h second), count-some (tree_of bs h (k + 1)))

      pub second-in : second < h.nodes
      second-in = omega (arith, both-counts, tree-in bs h R k l, count-some (tree_of bs h second))

      one-there : (i : ℕ) → i < h.nodes → trees_of bs h 1 i ≡ cons (tree_of bs h i) nil
      one-there i z = forest-first (cores bs h) i (omega (arith, nodes-length bs h R))

      one-stands : (i : ℕ) → i < h.nodes → Stand (cores bs h) i 1
      one-stands i z = record { inside = omega (arith, nodes-length bs h R); trees = (open-first (cores bs h) i (omega (arith, nodes-length bs h R))).trees }

      pub front-stand : {i : ℕ} → i ≡ second → Stand (cores bs h) i (kid_count m (take 2 ps))
      front-stand {i} f = subst (Stand (cores bs h) i) (sym front-count) (subst (λ (j : ℕ). Stand (cores bs h) j 1) (sym f) (one-stands second second-in))

      pub back-stand : Stand (cores bs h) (k + 1) (kid_count m (drop 2 ps))
      back-stand = subst (Stand (cores bs h) (k + 1)) (sym back-count) (one-stands (k + 1) first-in)

      pub front-counts : {i : ℕ} → i ≡ second → counts (trees_of bs h (kid_count m (take 2 ps)) i) ≡ count (tree_of bs h second)
      front-counts {i} f = ap₂ {C = ℕ} (λ (n j : ℕ). counts (trees_of bs h n j)) front-count f ∙ ap counts (one-there second second-in) ∙ omega arith

      pub back-counts : counts (trees_of bs h (kid_count m (drop 2 ps)) (k + 1)) ≡ count (tree_of bs h (k + 1))
      back-counts = ap (λ (n : ℕ). counts (trees_of bs h n (k + 1))) back-count ∙ ap counts (one-there (k + 1) first-in) ∙ omega arith

      no-extra : (i : ℕ) → extra_at bs h k i ≡ 0
      no-extra i = ap (λ (j : ℕ). pick (eqb i (k + 1)) (extra j x.form) 0) e ∙ go (eqb i (k + 1))
        where
          go : (b : Bool) → ◌≡◌ {A = ℕ} (pick b 0 0) 0
          go true = refl
          go false = refl

      laid-one : (n i : ℕ) → n ≡ 1 → i < h.nodes → laid_from bs h k n i ≡ cons (laid (tree_of bs h i)) nil
      laid-one n i f z =
          ap₂ {C = Forest} (λ (d c : ℕ). lay_first d (trees_of bs h c i)) (no-extra i) f ∙ ap (lay_first 0) (one-there i z) ∙ ap (λ (t : Tree). cons t nil) (lay-none (tree_of bs h i))

      pub do-both : (s : Spot) {i : ℕ} → i ≡ second → put_row bs h k r s ≡ joined (put_right bs h k m s (take 2 ps) i) (put_right bs h k m s (drop 2 ps) (k + 1))
      do-both s {i} f =
          let o = own_of bs h k in
          let t = laid (tree_of bs h (k + 1)) in
          let u = laid (tree_of bs h second) in
          let g : kids_of bs h k ≡ cons u (cons t nil) = kids-turned bs h R k l e do-row.1 in
          let a : laid_from bs h k (kid_count m (take 2 ps)) i ≡ cons u nil = ap (laid_from bs h k (kid_count m (take 2 ps))) f ∙ laid-one (kid_count m (take 2 ps)) second front-count second-in in
          let b : laid_from bs h k (kid_count m (drop 2 ps)) (k + 1) ≡ cons t nil = laid-one (kid_count m (drop 2 ps)) (k + 1) back-count first-in in
          ap (λ (ts : Forest). put_parts (spelled bs h) o (list_length r x.arity) s s.bars s.next (row_parts r) ts) g
          ∙ ap₂ {C = Option (List Word)} (λ (n j : ℕ). put_parts (spelled bs h) o n s s.bars s.next (row_parts j) (cons u (cons t nil))) (sym em) do-row.0
          ∙ do-while (spelled bs h) o m s s.bars s.next u t
          ∙ ap (λ (us : List Part). joined (put_parts (spelled bs h) o m s s.bars s.next (take 2 us) (cons u nil)) (put_parts (spelled bs h) o m s s.bars s.next (drop 2 us) (cons t nil))) (sym parts-are)
          ∙ ap₂ {C = Option (List Word)} (λ (us vs : Forest). joined (put_parts (spelled bs h) o m s s.bars s.next (take 2 ps) us) (put_parts (spelled bs h) o m s s.bars s.next (drop 2 ps) vs)) (sym a) (sym b)

      -- both halves are printed, the first or the second is not
      pub both-printed : (s : Spot) {i j g : ℕ} {w v u : List ℕ} → (f : i ≡ second) → Printed bs h w v (put_right bs h k m s (take 2 ps) i) i (counts (trees_of bs h (kid_count m (take 2 ps)) i)) (length (take 2 ps) + 14 * counts (trees_of bs h (kid_count m (take 2 ps)) i)) j
          → Printed bs h v u (put_right bs h k m s (drop 2 ps) (k + 1)) (k + 1) (counts (trees_of bs h (kid_count m (drop 2 ps)) (k + 1))) (length (drop 2 ps) + 14 * counts (trees_of bs h (kid_count m (drop 2 ps)) (k + 1))) g
          → Printed bs h w u (put_row bs h k r s) k (count (tree_of bs h k)) (14 * count (tree_of bs h k) - 3) j
      both-printed s {i} f a b = record {
        tokens = a.tokens ++ b.tokens;
        is = do-both s f ∙ ap₂ {C = Option (List Word)} joined a.is b.is;
        pushed = pushed-then bs h a.pushed b.pushed;
        few = omega (arith, a.few, b.few, front-counts f, back-counts, both-counts, parts-long, length-take 2 ps, length-drop 2 ps);
        at = omega (arith, a.at, f, front-counts f, both-counts);
      }

      pub front-none : (s : Spot) {i : ℕ} → i ≡ second → put_right bs h k m s (take 2 ps) i ≡ None → put_row bs h k r s ≡ None
      front-none s f a = do-both s f ∙ ap (λ (y : Option (List Word)). joined y (put_right bs h k m s (drop 2 ps) (k + 1))) a

      pub back-none : (s : Spot) {i : ℕ} → i ≡ second → (t : List Word) → put_right bs h k m s (take 2 ps) i ≡ Some t → put_right bs h k m s (drop 2 ps) (k + 1) ≡ None → put_row bs h k r s ≡ None
      back-none s f t a b = do-both s f ∙ ap₂ {C = Option (List Word)} joined a b

  -- ---- by the row that is chosen

  module _ (d : ℕ) (s : Spot) {g : ℕ} (eg : g ≡ form_of x.kind x.form d) where
    pub shown-is : lay d (tree_of bs h k) ≡ shown bs h k g
    shown-is = laid-shown bs h R k l d ∙ ap (shown bs h k) (sym eg)

    pub chosen-none : choice (spelled bs h) (shown bs h k g) s ≡ None → put_tree bs h k d s ≡ None
    chosen-none e = ap (λ (t : Tree). put (spelled bs h) t s) shown-is ∙ put-nothing (spelled bs h) (shown bs h k g) s e

    module _ {c : Chose} (C : Chosen (spelled bs h) (shown bs h k g) s c) where
      is-row : T (is_for x.kind g x.arity (get_or rows c.row no_row).rule)
      is-row = subst (λ (n : ℕ). T (is_for x.kind g n (get_or rows c.row no_row).rule)) (length-kids bs h R k l) C.row

      pub chosen-for : RowFor bs h k c.row
      chosen-for = (g, is-row)

      pub chosen-put : put_tree bs h k d s ≡ in_pair c.paired (put_row bs h k c.row (spot_of c.spot))
      chosen-put =
          ap (λ (t : Tree). put (spelled bs h) t s) shown-is
          ∙ put-by-parts (spelled bs h) x.kind g (own_number x) (kids_of bs h k) s (spot_of c.spot) c.row c.paired (number-fine x) C.few C.row C.is
          ∙ ap (λ (n : ℕ). in_pair c.paired (put_parts (spelled bs h) (own_of bs h k) (list_length c.row n) (spot_of c.spot) (spot_of c.spot).bars (spot_of c.spot).next (row_parts c.row) (kids_of bs h k))) (length-kids bs h R k l)

      plain : (o : Option (List Word)) → in_pair false o ≡ o
      plain None = refl
      plain (Some ws) = refl

      pub chosen-plain : c.paired ≡ false → put_tree bs h k d s ≡ put_row bs h k c.row (spot_of c.spot)
      chosen-plain e = chosen-put ∙ ap (λ (b : Bool). in_pair b (put_row bs h k c.row (spot_of c.spot))) e ∙ plain (put_row bs h k c.row (spot_of c.spot))

      in-parentheses : c.paired ≡ true → put_tree bs h k d s ≡ in_pair true (put_row bs h k c.row (spot_of c.spot))
      in-parentheses e = chosen-put ∙ ap (λ (b : Bool). in_pair b (put_row bs h k c.row (spot_of c.spot))) e

      pub pair-none : c.paired ≡ true → put_row bs h k c.row (spot_of c.spot) ≡ None → put_tree bs h k d s ≡ None
      pair-none e a = in-parentheses e ∙ ap (in_pair true) a

      open-word : word 8 ≡ codes "("
      unfolding word words
      open-word = refl

      close-word : word 9 ≡ codes ")"
      unfolding word words
      close-word = refl

      pub pair-printed : c.paired ≡ true → {w v u z : List ℕ} {j : ℕ} → Pushed bs h w v (word 8 ∷ []) → used v ≡ used w + 1 → Printed bs h v u (put_row bs h k c.row (spot_of c.spot)) k (count (tree_of bs h k)) (14 * count (tree_of bs h k) - 3) j → Pushed bs h u z (word 9 ∷ []) → used z ≡ used u + 1
          → Printed bs h w z (put_tree bs h k d s) k (count (tree_of bs h k)) (14 * count (tree_of bs h k) - 1) j
      pair-printed e a ea p b eb = record {
        tokens = (word 8 ∷ []) ++ (p.tokens ++ (word 9 ∷ []));
        is = in-parentheses e ∙ ap (in_pair true) p.is ∙ ap₂ {C = Option (List Word)} (λ (y z : Word). Some (y ∷ (p.tokens ++ (z ∷ [])))) (sym open-word) (sym close-word);
        pushed = pushed-then bs h a (pushed-then bs h p.pushed b);
        few = omega (arith, ea, eb, p.few, count-some (tree_of bs h k));
        at = p.at;
      }
