-- The statements of a script, each with the end of its line. Assumes nothing.
use Rattle.std.proofs.Common.{◌≡◌, ℕ, zero, suc, ◌+◌, ◌-◌, ◌*◌, ◌<◌, ◌≤◌, inl, inr, Bool, true, false, eqb, List, [], ◌∷◌, ◌++◌, map, length, take, drop, get_or, set, Option, Some, None, refl, sym, ap, ap₂, ◌∙◌, append_assoc, append-nil, length-drop, get_or-set_same, subst, arith}
use Rattle.std.proofs.lemmas.Bool.{eqb-true}
use Rattle.std.proofs.lemmas.List.{get_or-drop}
use Rattle.def_tree.specs.Base.{pick}
use Rattle.def_tree.specs.Tree.{Tree, Forest, nil, count}
use Rattle.file_read.specs.declared.header.Header.{Header}
use Rattle.file_read.specs.Load.{Kept, Readable}
use Rattle.def_text.specs.Words.{Word}
use Rattle.def_text.specs.Derives.{laid, laid_all}
use Rattle.def_text.specs.Print.{joined}
use Rattle.words_nodes.proofs.Trees.{count-some}
use Rattle.words_twice.specs.Twice.{Stand}
use Rattle.words_twice.proofs.Places.{forest-none}
use Rattle.text_table.specs.Put.{item, items, both, put, put_all}
use Rattle.text_tokens.specs.Tokens.{token, node_of}
use Rattle.text_tokens.specs.Bytes.{Token, Listed, Tokens, fresh_after, piece, render, rendered}
use Rattle.text_choice.specs.Trees.{cores, tree_of, trees_of, spelled}
use Rattle.text_choice.proofs.Planted.{lay-none, nodes-length, tree-in, kids-stand}
use Rattle.text_walk.specs.Lists.{used, listed, Appended, AllTokens}
use Rattle.text_walk.specs.Walk.{Printed, put_tree, put_script, lines_of, Lined}
use Rattle.text_walk.proofs.Numbers.{kept-then, kept-set}
use Rattle.text_walk.proofs.Laid.{here, trees-cons, stand-past}

-- ---- statements that may have no text

abbrev pub behind : List (List Word) → Option (List (List Word)) → Option (List (List Word))
behind ls None = None
behind ls (Some ms) = Some (ls ++ ms)

behind-nothing : (o : Option (List (List Word))) → o ≡ behind [] o
behind-nothing None = refl
behind-nothing (Some ms) = refl

behind-one : (ls : List (List Word)) (ws : List Word) (o : Option (List (List Word))) → behind ls (both (Some ws) o) ≡ behind (ls ++ (ws ∷ [])) o
behind-one ls ws None = refl
behind-one ls ws (Some ms) = ap {B = Option (List (List Word))} Some (sym (append_assoc ls (ws ∷ []) ms))

lines-one : (ls : List (List Word)) (ws : List Word) → lines_of (ls ++ (ws ∷ [])) ≡ lines_of ls ++ (joined ws ++ (10 ∷ []))
lines-one [] ws = refl
lines-one (l ∷ ls) ws = ap (λ (z : List ℕ). joined l ++ (10 ∷ z)) (lines-one ls ws) ∙ sym (append_assoc (joined l) (10 ∷ lines_of ls) (joined ws ++ (10 ∷ [])))

-- ---- bytes

module _ (bs : List ℕ) (h : Header) where
  not-line : (c : ℕ) → Token bs h c → eqb c 127 ≡ false
  not-line c t = go (eqb c 127) refl
    where
      go : (b : Bool) → eqb c 127 ≡ b → b ≡ false
      go true e = absurd (elim t [ inl l ↦ omega (arith, eqb-true c 127 e, l) | inr l ↦ omega (arith, eqb-true c 127 e, l.0) ])
      go false e = refl

  abbrev tail : List ℕ → List ℕ
  tail [] = []
  tail (c ∷ cs) = 32 ∷ (token bs h c ++ tail cs)

  tail-joined : (c : ℕ) (cs : List ℕ) → joined (token bs h c ∷ map (token bs h) cs) ≡ token bs h c ++ tail cs
  tail-joined c [] = sym (append-nil (token bs h c))
  tail-joined c (d ∷ cs) = ap (λ (z : List ℕ). token bs h c ++ (32 ∷ z)) (tail-joined d cs)

  piece-of : (f : Bool) (c : ℕ) → Token bs h c → piece bs h f c ≡ pick f [] (32 ∷ []) ++ token bs h c
  piece-of f c t = ap (λ (b : Bool). pick b (10 ∷ []) (pick f [] (32 ∷ []) ++ token bs h c)) (not-line c t)

  line-rest : (cs : List ℕ) → AllTokens bs h cs → render bs h false (cs ++ (127 ∷ [])) ≡ tail cs ++ (10 ∷ [])
  line-rest [] t = refl
  line-rest (c ∷ cs) t =
      ap₂ {C = List ℕ} (λ (x y : List ℕ). x ++ y) (piece-of false c t.0) (ap (λ (b : Bool). render bs h b (cs ++ (127 ∷ []))) (not-line c t.0) ∙ line-rest cs t.1)
      ∙ ap {B = List ℕ} (λ (z : List ℕ). 32 ∷ z) (sym (append_assoc (token bs h c) (tail cs) (10 ∷ [])))

  line-bytes : (cs : List ℕ) → AllTokens bs h cs → render bs h true (cs ++ (127 ∷ [])) ≡ joined (map (token bs h) cs) ++ (10 ∷ [])
  line-bytes [] t = refl
  line-bytes (c ∷ cs) t =
      ap₂ {C = List ℕ} (λ (x y : List ℕ). x ++ y) (piece-of true c t.0) (ap (λ (b : Bool). render bs h b (cs ++ (127 ∷ []))) (not-line c t.0) ∙ line-rest cs t.1)
      ∙ sym (append_assoc (token bs h c) (tail cs) (10 ∷ [])) ∙ ap (λ (z : List ℕ). z ++ (10 ∷ [])) (sym (tail-joined c cs))

  render-append : (f : Bool) (xs ys : List ℕ) → render bs h f (xs ++ ys) ≡ render bs h f xs ++ render bs h (fresh_after f xs) ys
  render-append f [] ys = refl
  render-append f (x ∷ xs) ys = ap (λ (z : List ℕ). piece bs h f x ++ z) (render-append (eqb x 127) xs ys) ∙ sym (append_assoc (piece bs h f x) (render bs h (eqb x 127) xs) (render bs h (fresh_after (eqb x 127) xs) ys))

  fresh-append : (f : Bool) (xs ys : List ℕ) → fresh_after f (xs ++ ys) ≡ fresh_after (fresh_after f xs) ys
  fresh-append f [] ys = refl
  fresh-append f (x ∷ xs) ys = fresh-append (eqb x 127) xs ys

  fresh-line : (f : Bool) (cs : List ℕ) → fresh_after f (cs ++ (127 ∷ [])) ≡ true
  fresh-line f [] = refl
  fresh-line f (c ∷ cs) = fresh-line (eqb c 127) cs

  -- each is a token or the end of a line
  abbrev All : List ℕ → Type 0
  All [] = Unit {0}
  All (c ∷ cs) = Listed bs h c × All cs

  all-append : (xs ys : List ℕ) → All xs → All ys → All (xs ++ ys)
  all-append [] ys a b = b
  all-append (x ∷ xs) ys a b = (a.0, all-append xs ys a.1 b)

  all-tokens : (cs : List ℕ) → AllTokens bs h cs → All cs
  all-tokens [] t = tt
  all-tokens (c ∷ cs) t = (inr t.0, all-tokens cs t.1)

  all-at : (cs : List ℕ) (i : ℕ) → All cs → i < length cs → Listed bs h (get_or cs i 0)
  all-at [] i a l = absurd (omega arith)
  all-at (c ∷ cs) zero a l = a.0
  all-at (c ∷ cs) (suc i) a l = all-at cs i a.1 (omega arith)

  get-take : (n i : ℕ) (xs : List ℕ) → i < n → get_or (take n xs) i 0 ≡ get_or xs i 0
  get-take zero i xs l = absurd (omega arith)
  get-take (suc n) i [] l = refl
  get-take (suc n) zero (x ∷ xs) l = refl
  get-take (suc n) (suc i) (x ∷ xs) l = get-take n i xs (omega arith)

  long-take : (n : ℕ) (xs : List ℕ) → n ≤ length xs → length (take n xs) ≡ n
  long-take zero xs l = refl
  long-take (suc n) [] l = absurd (omega arith)
  long-take (suc n) (x ∷ xs) l = ap suc (long-take n xs (omega arith))

  tokens-of : (w : List ℕ) → 16384 ≤ length w → used w ≤ 16383 → All (listed w) → Tokens bs h w (used w)
  tokens-of w l f a = record {
    long = omega arith;
    few = omega arith;
    each = λ i z.
        let n : i < length (listed w) = omega (arith, long-take (used w) (drop 1 w) (omega (arith, length-drop 1 w))) in
        subst (Listed bs h) (get-take (used w) i (drop 1 w) z ∙ get_or-drop 1 w i 0) (all-at (listed w) i a n);
  }

-- ---- the loop

module _ (bs : List ℕ) (h : Header) (R : Readable bs h.nodes h.texts) (w : List ℕ) where
  abbrev n : ℕ
  n = (node_of bs h 0).arity

  -- all but `left` statements are put, and the next one begins at j
  pub record Lines (left j : ℕ) (v : List ℕ) : Type 0 where
    pub done : List (List Word)
    pub whole : put_script bs h ≡ behind done (put_all (spelled bs h) (laid_all (trees_of bs h left j)) (items left))
    pub all : All bs h (listed v)
    pub fresh : fresh_after true (listed v) ≡ true
    pub bytes : rendered bs h (listed v) ≡ lines_of done
    pub kept : Kept w v
    pub few : used v ≤ 14 * j
    pub stand : Stand (cores bs h) j left

  module _ {left j : ℕ} {v : List ℕ} (L : Lines left j v) (z : 0 < left) where
    pub lines-here : j < h.nodes
    lines-here = here bs h R 0 left j L.stand z

    pub lines-room : used v + 14 * count (tree_of bs h j) ≤ 14336
    lines-room = omega (arith, L.few, tree-in bs h R j lines-here, R.few)

    abbrev to : ℕ
    to = j + count (tree_of bs h j)

    one : left ≡ suc (left - 1)
    one = omega arith

    rest : put_script bs h ≡ behind L.done (both (put (spelled bs h) (laid (tree_of bs h j)) item) (put_all (spelled bs h) (laid_all (trees_of bs h (left - 1) to)) (items (left - 1))))
    rest = L.whole ∙ ap₂ {C = Option (List (List Word))} (λ (ts : Forest) (m : ℕ). behind L.done (put_all (spelled bs h) (laid_all ts) (items m))) (trees-cons bs h R 0 left j L.stand z) one

    tree-is : put_tree bs h j 0 item ≡ put (spelled bs h) (laid (tree_of bs h j)) item
    tree-is = ap (λ (t : Tree). put (spelled bs h) t item) (lay-none (tree_of bs h j))

    pub lines-none : put_tree bs h j 0 item ≡ None → put_script bs h ≡ None
    lines-none e = rest ∙ ap (λ (o : Option (List Word)). behind L.done (both o (put_all (spelled bs h) (laid_all (trees_of bs h (left - 1) to)) (items (left - 1))))) (sym tree-is ∙ e)

    pub lines-more : {v₁ v₂ : List ℕ} {e : ℕ} → Printed bs h v v₁ (put_tree bs h j 0 item) j (count (tree_of bs h j)) (14 * count (tree_of bs h j) - 1) e → Appended v₁ v₂ 127 → Lines (left - 1) e v₂
    lines-more {v₁} {v₂} {e} p a =
        let cs = p.pushed.numbers in
        let list : listed v₂ ≡ listed v ++ (cs ++ (127 ∷ [])) = a.list ∙ ap (λ (y : List ℕ). y ++ (127 ∷ [])) p.pushed.list ∙ append_assoc (listed v) cs (127 ∷ []) in
        let N = put_all (spelled bs h) (laid_all (trees_of bs h (left - 1) to)) (items (left - 1)) in
        record {
          done = L.done ++ (p.tokens ∷ []);
          whole =
              rest ∙ ap (λ (o : Option (List Word)). behind L.done (both o N)) (sym tree-is ∙ p.is) ∙ behind-one L.done p.tokens N
              ∙ ap (λ (g : ℕ). behind (L.done ++ (p.tokens ∷ [])) (put_all (spelled bs h) (laid_all (trees_of bs h (left - 1) g)) (items (left - 1)))) (sym p.at);
          all = subst (All bs h) (sym list) (all-append bs h (listed v) (cs ++ (127 ∷ [])) L.all (all-append bs h cs (127 ∷ []) (all-tokens bs h cs p.pushed.each) (inl refl, tt)));
          fresh = ap (fresh_after true) list ∙ fresh-append bs h true (listed v) (cs ++ (127 ∷ [])) ∙ fresh-line bs h (fresh_after true (listed v)) cs;
          bytes =
              ap (rendered bs h) list ∙ render-append bs h true (listed v) (cs ++ (127 ∷ []))
              ∙ ap₂ {C = List ℕ} (λ (x y : List ℕ). x ++ y) L.bytes (ap (λ (b : Bool). render bs h b (cs ++ (127 ∷ []))) L.fresh ∙ line-bytes bs h cs p.pushed.each ∙ ap (λ (ws : List Word). joined ws ++ (10 ∷ [])) p.pushed.are)
              ∙ sym (lines-one L.done p.tokens);
          kept = kept-then L.kept (kept-then p.pushed.kept a.kept);
          few = omega (arith, L.few, p.few, a.count, p.at, count-some (tree_of bs h j));
          stand = subst (λ (g : ℕ). Stand (cores bs h) g (left - 1)) (sym p.at) (stand-past bs h R 0 left j L.stand z);
        }

  pub lines-start : 16384 ≤ length w → Lines n 1 (set w 0 0)
  lines-start l =
      let u : used (set w 0 0) ≡ 0 = get_or-set_same w 0 0 0 (omega arith) in
      let e : listed (set w 0 0) ≡ [] = ap (λ (m : ℕ). take m (drop 1 (set w 0 0))) u in
      record {
        done = [];
        whole = behind-nothing (put_script bs h);
        all = subst (All bs h) (sym e) tt;
        fresh = ap (fresh_after true) e;
        bytes = ap (rendered bs h) e;
        kept = kept-set w 0 0 (omega arith);
        few = omega (arith, u);
        stand = kids-stand bs h R 0 (omega (arith, R.some));
      }

  pub lines-all : {left j : ℕ} {v : List ℕ} → 16384 ≤ length w → Lines left j v → left ≡ 0 → Lined bs h w v (put_script bs h)
  lines-all {left} {j} {v} l L e =
      let none : laid_all (trees_of bs h left j) ≡ nil = ap (λ (m : ℕ). laid_all (trees_of bs h m j)) e ∙ ap laid_all (forest-none (cores bs h) j) in record {
        lists = L.done;
        is = L.whole ∙ ap₂ {C = Option (List (List Word))} (λ (ts : Forest) (m : ℕ). behind L.done (put_all (spelled bs h) ts (items m))) none e ∙ ap {B = Option (List (List Word))} Some (append-nil L.done);
        tokens = tokens-of bs h v (omega (arith, L.kept.size, l)) (omega (arith, L.few, L.stand.inside, nodes-length bs h R, R.few)) L.all;
        bytes = L.bytes;
        kept = L.kept;
      }
