-- No added pair is needless. Assumes nothing.
use mathlib.Core.Path.{◌≡◌, refl, sym, ap, ◌∙◌, subst}
use mathlib.Core.Bool.{Bool, true, false, ◌||◌, not}
use mathlib.Core.List.{List, [], ◌∷◌, ◌++◌, append_assoc, append-nil, map}
use Prim.Native.Nat.{ℕ, suc}
use lib.Dec.{T, eqb, leb, eqb→eq}
use Rattle.std.proofs.Common.{inl, inr}
use Rattle.def_tree.specs.Base.{pick}
use Rattle.def_tree.specs.Tree.{Tree, Forest, node, nil, cons, kind, length_f}
use Rattle.def_file.specs.declared.kind.Kind.TheVariants as Kinds
use Rattle.def_file.specs.Named.{is_kind}
use Rattle.def_file.specs.Script.{same_text}
use Rattle.def_text.specs.Words.{Word}
use Rattle.def_text.specs.Grammar.{AssignmentPattern, Place, Slot, at_slot, Part, word, own, kid, run, commas, more, look, if_has, if_not, one_default, Rule, is_for, right_for}
use Rattle.def_text.specs.Table.{code, reaches, rules}
use Rattle.def_text.specs.Derives.{fill, right_of, begins, barred, sort_ok, has, fits, rules_at, token_lists, defaults, follows, children, laid, passed, erase, erase_all, is_paren, script, tokens, tokens_all, derives}
use Rattle.def_text.specs.Print.{At, start, bars_for, Walk, follow, child_at, behind, first_places, passed_by, asked, walks_of, walks, is_pattern, opening_of, in_pair, pair, wrap, none, inside, opening, opening_first, unbarred, stays, lacks, chosen, fix, fix_all}
use Rattle.laws_text.specs.Claims.{pairs_ok, paired, all_paired, Less, LessAll, Least}
use Rattle.laws_text.proofs.Basics.{and_left, and_right, both, is_true, is_T, T-not, Within, here, there, passing-in}
use Rattle.laws_text.proofs.Rows.{fill-of}
use Rattle.laws_text.proofs.Fit.{yes-then, no-then, derived, canon-kids, counted-by, root}
use Rattle.laws_text.proofs.Shape.{Dressed, DressedAll, less-dressed, less-all-dressed, fix-all-dressed, erase-dressed, paired-dressed, canons-erase, canons-back, pairs-laid, root-same}
use Rattle.laws_text.proofs.Canon.{pair_ok, canons}
use Rattle.laws_text.proofs.Unique.{unique-script}

-- ---- beginnings

pub Prefix : List Word → List Word → Type 0
Prefix p l = (r : List Word) × (p ++ r ≡ l)

pub begins-more : (b p r : List Word) → T (begins b p) → T (begins b (p ++ r))
begins-more [] p r h = tt
begins-more (x ∷ b) [] r h = absurd h
begins-more (x ∷ b) (y ∷ p) r h = both (same_text x y) (begins b (p ++ r)) (and_left (same_text x y) (begins b p) h) (begins-more b p r (and_right (same_text x y) (begins b p) h))

barred-or : (b : List Word) (bs : List (List Word)) (ws vs : List Word) (p : Bool) → begins b ws ≡ p → (T (begins b ws) → T (begins b vs)) → (T (barred bs ws) → T (barred bs vs)) → T (elim p [ true ↦ true | false ↦ barred bs ws ])
    → T (elim (begins b vs) [ true ↦ true | false ↦ barred bs vs ])
barred-or b bs ws vs true e f g h = rw (is_true (begins b vs) (f (is_T (begins b ws) e))) tt
barred-or b bs ws vs false e f g h = go (begins b vs) (g h)
  where
    go : (q : Bool) → T (barred bs vs) → T (elim q [ true ↦ true | false ↦ barred bs vs ])
    go true k = tt
    go false k = k

pub barred-more : (bs : List (List Word)) (p r : List Word) → T (barred bs p) → T (barred bs (p ++ r))
barred-more [] p r h = absurd h
barred-more (b ∷ bs) p r h = barred-or b bs p (p ++ r) (begins b p) refl (begins-more b p r) (barred-more bs p r) h

pub barred-prefix : (bs : List (List Word)) (p l : List Word) → Prefix p l → T (not (barred bs l)) → T (not (barred bs p))
unfolding Prefix
barred-prefix bs p l q h = go (barred bs p) refl
  where
    go : (b : Bool) → barred bs p ≡ b → T (not b)
    go true e = T-not (barred bs l) h (subst (λ (x : List Word). T (barred bs x)) q.1 (barred-more bs p q.0 (is_T (barred bs p) e)))
    go false e = tt

pub nothing-barred : (ws : List Word) → T (not (barred [] ws))
nothing-barred ws = tt

prefix-cons : (w : Word) (p l : List Word) → Prefix p l → Prefix (w ∷ p) (w ∷ l)
unfolding Prefix
prefix-cons w p l q = (q.0, ap {B = List Word} (λ x. w ∷ x) q.1)

pub prefix-nil : (l : List Word) → Prefix [] l
unfolding Prefix
prefix-nil l = (l, refl)

prefix-all : (l : List Word) → Prefix l l
unfolding Prefix
prefix-all l = ([], append-nil l)

prefix-left : (x p l : List Word) → Prefix p l → Prefix (x ++ p) (x ++ l)
unfolding Prefix
prefix-left x p l q = (q.0, append_assoc x p q.0 ∙ ap (λ y. x ++ y) q.1)

prefix-more : (p x r : List Word) → Prefix p x → Prefix p (x ++ r)
unfolding Prefix
prefix-more p x r q = (q.0 ++ r, sym (append_assoc p q.0 r) ∙ ap (λ y. y ++ r) q.1)

-- the token that follows
follow-prefix : (o : Word) (ps : List Part) (ls : List (List Word)) (n : List Word) → Prefix (follow ps n) (fill o ps ls ++ n)
follow-prefix o [] ls n = prefix-all n
follow-prefix o (word w ∷ ps) ls n = prefix-cons w [] (fill o ps ls ++ n) (prefix-nil (fill o ps ls ++ n))
follow-prefix o (own s ∷ ps) ls n = prefix-nil (o ∷ (fill o ps ls ++ n))
follow-prefix o (kid x ∷ ps) ls n = prefix-nil (fill o (kid x ∷ ps) ls ++ n)
follow-prefix o (run x ∷ ps) ls n = prefix-nil (fill o (run x ∷ ps) ls ++ n)
follow-prefix o (commas x ∷ ps) ls n = prefix-nil (fill o (commas x ∷ ps) ls ++ n)
follow-prefix o (more x ∷ ps) ls n = prefix-nil (fill o (more x ∷ ps) ls ++ n)
follow-prefix o (look bs ∷ ps) ls n = follow-prefix o ps ls n
follow-prefix o (if_has q ∷ ps) ls n = follow-prefix o ps ls n
follow-prefix o (if_not q ∷ ps) ls n = follow-prefix o ps ls n
follow-prefix o (one_default ∷ ps) ls n = follow-prefix o ps ls n

-- ---- a child of a derived node stands where `fix` looks for it

module _ (spell : ℕ → ℕ → Word) where
  -- one of the places takes the tree
  pub record StandsAt (u : Tree) (ss : List At) : Type 0 where
    pub place : At
    pub within : Within place ss
    pub derived! : T (derives spell u place.place)
    pub free : T (not (barred place.bars (tokens spell u ++ place.next)))

  free-kid : (g : Place) (o : Word) (bs : List (List Word)) (n : List Word) (x : Slot) (ps : List Part) (u : Tree) (us : Forest) → T (not (barred bs (fill o (kid x ∷ ps) (tokens_all spell (cons u us)) ++ n))) → T (not (barred bs (tokens spell u ++ follow ps n)))
  free-kid g o bs n x ps u us h =
      barred-prefix bs (tokens spell u ++ follow ps n) (fill o (kid x ∷ ps) (tokens_all spell (cons u us)) ++ n)
      (subst (λ (y : List Word). Prefix (tokens spell u ++ follow ps n) y) (sym (append_assoc (tokens spell u) (fill o ps (tokens_all spell us)) n)) (prefix-left (tokens spell u) (follow ps n) (fill o ps (tokens_all spell us) ++ n) (follow-prefix o ps (tokens_all spell us) n))) h

  free-bars : (x : Slot) (bs : List (List Word)) (ws : List Word) → T (not (barred bs ws)) → T (not (barred (bars_for x.symbol bs) ws))
  free-bars x bs ws h = go (eqb (code x.symbol) (code AssignmentPattern))
    where
      go : (b : Bool) → T (not (barred (elim b [ true ↦ [] | false ↦ bs ]) ws))
      go true = tt
      go false = h

  token-lists : (us : Forest) → token_lists (children spell us) ≡ tokens_all spell us
  token-lists nil = refl
  token-lists (cons u us) = ap {B = List (List Word)} (λ z. tokens spell u ∷ z) (token-lists us)

  pub first-stands : (g : Place) (o : Word) (bs : List (List Word)) (n : List Word) (ps : List Part) (u : Tree) (us : Forest) → T (follows g o ps (children spell (cons u us)))
      → T (not (barred bs (fill o ps (tokens_all spell (cons u us)) ++ n))) → StandsAt u (child_at g bs n ps)
  first-stands g o bs n [] u us h b = absurd h
  first-stands g o bs n (word w ∷ ps) u us h b = first-stands g o [] n ps u us h tt
  first-stands g o bs n (own s ∷ ps) u us h b = first-stands g o [] n ps u us (yes-then (sort_ok s o) (follows g o ps (children spell (cons u us))) h).1 tt
  first-stands g o bs n (kid x ∷ ps) u us h b =
      record { place = record { place = at_slot g x; bars = bars_for x.symbol bs; next = follow ps n }; within = here []; derived! = (yes-then (derives spell u (at_slot g x)) (follows g o ps (children spell us)) h).0; free = free-bars x bs (tokens spell u ++ follow ps n) (free-kid g o bs n x ps u us b) }
  first-stands g o bs n (run x ∷ ps) u us h b = absurd h
  first-stands g o bs n (commas x ∷ ps) u us h b = absurd h
  first-stands g o bs n (more x ∷ ps) u us h b = absurd h
  first-stands g o bs n (look cs ∷ ps) u us h b =
      let y = no-then (barred cs (fill o ps (token_lists (children spell (cons u us))))) (follows g o ps (children spell (cons u us))) h in
      let l = subst (λ (z : List (List Word)). T (not (barred cs (fill o ps z)))) (token-lists (cons u us)) y.0 in
      first-stands g o cs [] ps u us y.1 (subst (λ (z : List Word). T (not (barred cs z))) (sym (append-nil (fill o ps (tokens_all spell (cons u us))))) l)
  first-stands g o bs n (if_has q ∷ ps) u us h b = first-stands g o bs n ps u us (yes-then (has q g) (follows g o ps (children spell (cons u us))) h).1 b
  first-stands g o bs n (if_not q ∷ ps) u us h b = first-stands g o bs n ps u us (no-then (has q g) (follows g o ps (children spell (cons u us))) h).1 b
  first-stands g o bs n (one_default ∷ ps) u us h b = first-stands g o bs n ps u us (yes-then (leb (defaults (children spell (cons u us))) 1) (follows g o ps (children spell (cons u us))) h).1 b

  -- and what is behind it is followed
  pub rest-follows : (g : Place) (o : Word) (ps : List Part) (u : Tree) (us : Forest) → T (follows g o ps (children spell (cons u us))) → T (follows g o (behind ps) (children spell us))
  rest-follows g o [] u us h = absurd h
  rest-follows g o (word w ∷ ps) u us h = rest-follows g o ps u us h
  rest-follows g o (own s ∷ ps) u us h = rest-follows g o ps u us (yes-then (sort_ok s o) (follows g o ps (children spell (cons u us))) h).1
  rest-follows g o (kid x ∷ ps) u us h = (yes-then (derives spell u (at_slot g x)) (follows g o ps (children spell us)) h).1
  rest-follows g o (run x ∷ ps) u us h = absurd h
  rest-follows g o (commas x ∷ ps) u us h = absurd h
  rest-follows g o (more x ∷ ps) u us h = absurd h
  rest-follows g o (look bs ∷ ps) u us h = rest-follows g o ps u us (no-then (barred bs (fill o ps (token_lists (children spell (cons u us))))) (follows g o ps (children spell (cons u us))) h).1
  rest-follows g o (if_has q ∷ ps) u us h = rest-follows g o ps u us (yes-then (has q g) (follows g o ps (children spell (cons u us))) h).1
  rest-follows g o (if_not q ∷ ps) u us h = rest-follows g o ps u us (no-then (has q g) (follows g o ps (children spell (cons u us))) h).1
  rest-follows g o (one_default ∷ ps) u us h = rest-follows g o ps u us (yes-then (leb (defaults (children spell (cons u us))) 1) (follows g o ps (children spell (cons u us))) h).1

  pub asked-follows : (g : Place) (o : Word) (ps : List Part) (us : Forest) → T (follows g o ps (children spell us)) → T (asked g ps)
  asked-follows g o [] us h = tt
  asked-follows g o (word w ∷ ps) us h = asked-follows g o ps us h
  asked-follows g o (own s ∷ ps) us h = asked-follows g o ps us (yes-then (sort_ok s o) (follows g o ps (children spell us)) h).1
  asked-follows g o (kid x ∷ ps) nil h = absurd h
  asked-follows g o (kid x ∷ ps) (cons u us) h = asked-follows g o ps us (yes-then (derives spell u (at_slot g x)) (follows g o ps (children spell us)) h).1
  asked-follows g o (run x ∷ ps) us h = absurd h
  asked-follows g o (commas x ∷ ps) us h = absurd h
  asked-follows g o (more x ∷ ps) us h = absurd h
  asked-follows g o (look bs ∷ ps) us h = asked-follows g o ps us (no-then (barred bs (fill o ps (token_lists (children spell us)))) (follows g o ps (children spell us)) h).1
  asked-follows g o (if_has q ∷ ps) us h = let y = yes-then (has q g) (follows g o ps (children spell us)) h in both (has q g) (asked g ps) y.0 (asked-follows g o ps us y.1)
  asked-follows g o (if_not q ∷ ps) us h = let y = no-then (has q g) (follows g o ps (children spell us)) h in both (not (has q g)) (asked g ps) y.0 (asked-follows g o ps us y.1)
  asked-follows g o (one_default ∷ ps) us h = asked-follows g o ps us (yes-then (leb (defaults (children spell us)) 1) (follows g o ps (children spell us)) h).1

  -- ---- where a right side is found

  abbrev pub walk-at : At → List Part → Walk
  walk-at s ps = record { at = s; right = ps }

  -- one of the right sides fits the children, and nothing that is barred comes first
  pub record Follows (o : Word) (us : Forest) (ws : List Walk) : Type 0 where
    pub walk : Walk
    pub within : Within walk ws
    pub follows! : T (follows walk.at.place o walk.right (children spell us))
    pub free : T (not (barred walk.at.bars (fill o walk.right (tokens_all spell us) ++ walk.at.next)))

within-left : {A : Type 0} (x : A) (xs ys : List A) → Within x xs → Within x (xs ++ ys)
within-left x xs ys (here zs) = here (zs ++ ys)
within-left x xs ys (there z zs w) = there z (zs ++ ys) (within-left x zs ys w)

within-right : {A : Type 0} (x : A) (xs ys : List A) → Within x ys → Within x (xs ++ ys)
within-right x [] ys w = w
within-right x (z ∷ zs) ys w = there z (zs ++ ys) (within-right x zs ys w)

within-map : {A B : Type 0} (f : A → B) (x : A) (xs : List A) → Within x xs → Within (f x) (map f xs)
within-map f x xs (here zs) = here (map f zs)
within-map f x xs (there z zs w) = there (f z) (map f zs) (within-map f x zs w)

within-walks_of : (s : At) (ps : List Part) (pss : List (List Part)) → Within ps pss → T (asked s.place ps) → Within (record { at = s; right = ps }) (walks_of s pss)
within-walks_of s ps pss (here zs) h = rw (is_true (asked s.place ps) h, walks_of) (here (walks_of s zs))
within-walks_of s ps pss (there z zs w) h = go (asked s.place z) (within-walks_of s ps zs w h)
  where
    go : (b : Bool) → Within (record { at = s; right = ps }) (walks_of s zs) → Within (record { at = s; right = ps }) (pick b (record { at = s; right = z } ∷ walks_of s zs) (walks_of s zs))
    go true v = there (record { at = s; right = z }) (walks_of s zs) v
    go false v = v

pub walk-in : (k f n : ℕ) (s : At) (ss : List At) (r : Rule) → Within s ss → Within r rules → T (is_for k f n r) → T (reaches s.place.symbol r.left) → T (asked s.place (right_for n r))
    → Within (record { at = s; right = right_for n r }) (walks k f n ss)
unfolding walks rules_at
walk-in k f n s ss r (here zs) v i e h =
    within-left _ (walks_of s (map (right_for n) (rules_at k f n s.place))) (walks k f n zs)
    (within-walks_of s (right_for n r) (map (right_for n) (rules_at k f n s.place)) (within-map (right_for n) r (rules_at k f n s.place) (passing-in (fits k f n s.place) r rules v (both (is_for k f n r) (reaches s.place.symbol r.left) i e))) h)
walk-in k f n s ss r (there z zs w) v i e h = within-right _ (walks_of z (map (right_for n) (rules_at k f n z.place))) (walks k f n zs) (walk-in k f n s zs r w v i e h)

pub first-in : (w : Walk) (ws : List Walk) (c : At) → Within w ws → Within c (child_at w.at.place w.at.bars w.at.next w.right) → Within c (first_places ws)
first-in w ws c (here zs) v = within-left c (child_at w.at.place w.at.bars w.at.next w.right) (first_places zs) v
first-in w ws c (there z zs u) v = within-right c (child_at z.at.place z.at.bars z.at.next z.right) (first_places zs) (first-in w zs c u v)

abbrev pub onward : Walk → Walk
onward w = record { at = record { place = w.at.place; bars = []; next = w.at.next }; right = behind w.right }

pub onward-in : (w : Walk) (ws : List Walk) → Within w ws → Within (onward w) (passed_by ws)
onward-in w ws (here zs) = here (passed_by zs)
onward-in w ws (there z zs u) = there (onward z) (passed_by zs) (onward-in w zs u)

none-in : (w : Walk) (ws : List Walk) → none ws ≡ true → Within w ws → ⊥
none-in w ws e (here zs) = absurd (cc)
none-in w ws e (there z zs u) = absurd (cc)

pub length-dressed : (ts us : Forest) → DressedAll ts us → length_f us ≡ length_f ts
length-dressed nil us d = ap length_f d
length-dressed (cons t ts) us d = ap length_f d.2 ∙ ap suc (length-dressed ts d.1 d.4)

pub pattern-no-pair : (k : ℕ) → T (is_pattern k) → T (in_pair k) → ⊥
pattern-no-pair k p i = go (is_kind Kinds.ObjectPat k) (λ t. subst (λ (j : ℕ). T (in_pair j)) (eqb→eq k 45 t) i) (λ t. subst (λ (j : ℕ). T (in_pair j)) (eqb→eq k 46 t) i) p
  where
    go : (b : Bool) → (T b → ⊥) → (T (is_kind Kinds.ArrayPat k) → ⊥) → T (b || is_kind Kinds.ArrayPat k) → ⊥
    go true f g h = f tt
    go false f g h = g h

module _ (spell : ℕ → ℕ → Word) where
  -- ---- the tokens that a node begins with

  abbrev pub FirstOk : List Word → Forest → Type 0
  FirstOk first nil = first ≡ []
  FirstOk first (cons u us) = Prefix first (tokens spell u)

  open-fill : (o : Word) (n : List Word) (ps : List Part) (first : List Word) (us : Forest) → FirstOk first us → Prefix (opening_of o n ps first) (fill o ps (tokens_all spell us) ++ n)
  open-fill o n [] first us h = prefix-nil n
  open-fill o n (word w ∷ ps) first us h = prefix-cons w (follow ps n) (fill o ps (tokens_all spell us) ++ n) (follow-prefix o ps (tokens_all spell us) n)
  open-fill o n (own s ∷ ps) first us h = prefix-cons o (follow ps n) (fill o ps (tokens_all spell us) ++ n) (follow-prefix o ps (tokens_all spell us) n)
  open-fill o n (kid x ∷ ps) first nil h = subst (λ (y : List Word). Prefix y (fill o ps [] ++ n)) (sym h) (prefix-nil (fill o ps [] ++ n))
  open-fill o n (kid x ∷ ps) first (cons u us) h = prefix-more first (tokens spell u ++ fill o ps (tokens_all spell us)) n (prefix-more first (tokens spell u) (fill o ps (tokens_all spell us)) h)
  open-fill o n (run x ∷ ps) first us h = prefix-nil (fill o ps (tokens_all spell us) ++ n)
  open-fill o n (commas x ∷ ps) first us h = prefix-nil (fill o ps (tokens_all spell us) ++ n)
  open-fill o n (more x ∷ ps) first us h = prefix-nil (fill o ps (tokens_all spell us) ++ n)
  open-fill o n (look bs ∷ ps) first us h = open-fill o n ps first us h
  open-fill o n (if_has q ∷ ps) first us h = open-fill o n ps first us h
  open-fill o n (if_not q ∷ ps) first us h = open-fill o n ps first us h
  open-fill o n (one_default ∷ ps) first us h = open-fill o n ps first us h

  pub open-node : (k f a : ℕ) (ts us : Forest) (n : List Word) → length_f us ≡ length_f ts → FirstOk (opening_first spell ts) us → Prefix (opening spell (node k f a ts) n) (tokens spell (node k f a us) ++ n)
  open-node k f a ts us n l h =
      subst (λ (m : ℕ). Prefix (opening_of (spell k a) n (right_of k f (length_f ts)) (opening_first spell ts)) (fill (spell k a) (right_of k f m) (tokens_all spell us) ++ n)) (sym l)
      (open-fill (spell k a) n (right_of k f (length_f ts)) (opening_first spell ts) us h)

  open-unwrapped : (k f a : ℕ) (ts us : Forest) (v : Tree) (b : Bool) → v ≡ wrap b (node k f a us) → (T b → T (in_pair k)) → T (is_pattern k) → length_f us ≡ length_f ts → FirstOk (opening_first spell ts) us → Prefix (opening spell (node k f a ts) []) (tokens spell v)
  open-unwrapped k f a ts us v true e i p l h = absurd (pattern-no-pair k p (i tt))
  open-unwrapped k f a ts us v false e i p l h =
      subst (λ (x : Tree). Prefix (opening spell (node k f a ts) []) (tokens spell x)) (sym e) (subst (λ (y : List Word). Prefix (opening spell (node k f a ts) []) y) (append-nil (tokens spell (node k f a us))) (open-node k f a ts us [] l h))

  first-by : (t : Tree) (ts us : Forest) (u : Tree) (vs : Forest) (b : Bool) → is_pattern (kind t) ≡ b → us ≡ cons u vs → (T (is_pattern (kind t)) → Prefix (opening spell t []) (tokens spell u)) → FirstOk (elim b [ true ↦ opening spell t [] | false ↦ [] ]) us
  first-by t ts us u vs true e q h = subst (λ (x : Forest). FirstOk (opening spell t []) x) (sym q) (h (is_T (is_pattern (kind t)) e))
  first-by t ts us u vs false e q h = subst (λ (x : Forest). FirstOk [] x) (sym q) (prefix-nil (tokens spell u))

  mutual
    open-dressed : (t v : Tree) → Dressed t v → T (is_pattern (kind t)) → Prefix (opening spell t []) (tokens spell v)
    open-dressed (node k f a ts) v d p = open-unwrapped k f a ts d.1 v d.0 d.2 d.3 p (length-dressed ts d.1 d.4) (first-dressed ts d.1 d.4)

    pub first-dressed : (ts us : Forest) → DressedAll ts us → FirstOk (opening_first spell ts) us
    first-dressed nil us d = subst (λ (x : Forest). FirstOk [] x) (sym d) refl
    first-dressed (cons t ts) us d = first-by t ts us d.0 d.1 (is_pattern (kind t)) refl d.2 (λ p. open-dressed t d.0 d.3 p)

  -- ---- with a pair left out, nothing derives the tree

  -- a node's right side among those at its places
  pub node-follows : (k f a : ℕ) (us : Forest) (ss : List At) (m : ℕ) → length_f us ≡ m → (s : At) → Within s ss → T (derives spell (node k f a us) s.place) → T (not (barred s.bars (tokens spell (node k f a us) ++ s.next))) → Follows spell (spell k a) us (walks k f m ss)
  node-follows k f a us ss m l s v h b =
      let d = derived spell k f a us s.place h in
      let n = length_f us in
      let r = d.rule in
      record {
        walk = record { at = s; right = right_for n r };
        within = subst (λ (j : ℕ). Within (record { at = s; right = right_for n r }) (walks k f j ss)) l (walk-in k f n s ss r v d.inside d.is-for d.reached (asked-follows spell s.place (spell k a) (right_for n r) us d.followed));
        follows! = d.followed;
        free = subst (λ (y : List Word). T (not (barred s.bars (y ++ s.next)))) (fill-of k f n r (spell k a) (tokens_all spell us) d.inside d.is-for) b;
      }

  pub stays-follows : (k f a : ℕ) (ts us : Forest) (ss : List At) → length_f us ≡ length_f ts → FirstOk (opening_first spell ts) us → StandsAt spell (node k f a us) ss → Follows spell (spell k a) us (stays spell k f a ts ss)
  stays-follows k f a ts us ss l h st =
      let s = st.place in
      let n = barred-prefix s.bars (opening spell (node k f a ts) s.next) (tokens spell (node k f a us) ++ s.next) (open-node k f a ts us s.next l h) st.free in
      node-follows k f a us (unbarred spell (node k f a ts) ss) (length_f ts) l s (passing-in (λ x. not (barred x.bars (opening spell (node k f a ts) x.next))) s ss st.within n) st.derived! st.free

  pub inside-stands : (t : Tree) (ss : List At) → StandsAt spell (pair t) ss → StandsAt spell t (inside ss)
  inside-stands t ss st =
      let f = node-follows 41 0 0 (cons t nil) ss 1 refl st.place st.within st.derived! st.free in
      let w = f.walk in
      let c = first-stands spell w.at.place (spell 41 0) w.at.bars w.at.next w.right t nil f.follows! f.free in
      record { place = c.place; within = first-in w (walks 41 0 1 ss) c.place f.within c.within; derived! = c.derived!; free = c.free }

  pub inside-follows : (k f a : ℕ) (us : Forest) (ss : List At) (m : ℕ) → length_f us ≡ m → StandsAt spell (node k f a us) ss → Follows spell (spell k a) us (walks k f m ss)
  inside-follows k f a us ss m l st = node-follows k f a us ss m l st.place st.within st.derived! st.free

  pub kid-stands : (o : Word) (u : Tree) (us : Forest) (ws : List Walk) → Follows spell o (cons u us) ws → StandsAt spell u (first_places ws)
  kid-stands o u us ws f =
      let w = f.walk in
      let c = first-stands spell w.at.place o w.at.bars w.at.next w.right u us f.follows! f.free in
      record { place = c.place; within = first-in w ws c.place f.within c.within; derived! = c.derived!; free = c.free }

  pub kids-follow : (o : Word) (u : Tree) (us : Forest) (ws : List Walk) → Follows spell o (cons u us) ws → Follows spell o us (passed_by ws)
  kids-follow o u us ws f =
      let w = f.walk in
      record { walk = onward w; within = onward-in w ws f.within; follows! = rest-follows spell w.at.place o w.right u us f.follows!; free = tt }

  pub no-stays : (k f a : ℕ) (ts us : Forest) (ss : List At) → lacks spell k f a ts ss ≡ true → Follows spell (spell k a) us (stays spell k f a ts ss) → ⊥
  no-stays k f a ts us ss e h = none-in h.walk (stays spell k f a ts ss) (is_true (none (stays spell k f a ts ss)) (and_right (in_pair k) (none (stays spell k f a ts ss)) (is_T _ e))) h.within

  abbrev NotAll : Forest → Type 0
  NotAll ts = (ws : List Walk) (us : Forest) (o : Word) → LessAll spell ts ws us → Follows spell o us ws → ⊥

  below : (k f a : ℕ) (ts us : Forest) (ss : List At) (b : Bool) → lacks spell k f a ts ss ≡ b → NotAll ts → DressedAll ts us → LessAll spell ts (pick b (walks k f (length_f ts) (inside ss)) (stays spell k f a ts ss)) us
      → StandsAt spell (wrap b (node k f a us)) ss → ⊥
  below k f a ts us ss true e no! d l st = no! (walks k f (length_f ts) (inside ss)) us (spell k a) l (inside-follows k f a us (inside ss) (length_f ts) (length-dressed ts us d) (inside-stands (node k f a us) ss st))
  below k f a ts us ss false e no! d l st = no! (stays spell k f a ts ss) us (spell k a) l (stays-follows k f a ts us ss (length-dressed ts us d) (first-dressed ts us d) st)

  mutual
    pub misfit : (t : Tree) (ss : List At) (v : Tree) → Less spell t ss v → StandsAt spell v ss → ⊥
    misfit (node k f a ts) ss v (inl l) st =
        let us = fix_all spell ts (chosen spell k f a ts ss) in
        let d = fix-all-dressed spell ts (chosen spell k f a ts ss) in
        no-stays k f a ts us ss l.0 (stays-follows k f a ts us ss (length-dressed ts us d) (first-dressed ts us d) (subst (λ (x : Tree). StandsAt spell x ss) l.1 st))
    misfit (node k f a ts) ss v (inr l) st =
        below k f a ts l.0 ss (lacks spell k f a ts ss) refl (λ ws us o m h. misfit-all ts ws us o m h) (less-all-dressed spell ts (chosen spell k f a ts ss) l.0 l.1) l.1 (subst (λ (x : Tree). StandsAt spell x ss) l.2 st)

    misfit-all : (ts : Forest) (ws : List Walk) (us : Forest) (o : Word) → LessAll spell ts ws us → Follows spell o us ws → ⊥
    misfit-all nil ws us o l h = l
    misfit-all (cons t ts) ws us o (inl l) h = misfit t (first_places ws) l.0 l.1 (kid-stands o l.0 (fix_all spell ts (passed_by ws)) ws (subst (λ (x : Forest). Follows spell o x ws) l.2 h))
    misfit-all (cons t ts) ws us o (inr l) h = misfit-all ts (passed_by ws) l.0 o l.1 (kids-follow o (fix spell t (first_places ws)) l.0 ws (subst (λ (x : Forest). Follows spell o x ws) l.2 h))

  least-at : (t v : Tree) (k f a : ℕ) (us : Forest) → T (pairs_ok (laid t)) → Less spell (laid t) (start ∷ []) v → tokens spell (node k f a us) ≡ tokens spell v → T (derives spell (node k f a us) script) → erase (node k f a us) ≡ erase (laid t) → ⊥
  least-at t v k f a us p l w h e =
      let d = derived spell k f a us script h in
      let r = root spell k f a us d in
      let dressed = less-dressed spell (laid t) (start ∷ []) v l in
      let plain : passed (is_paren k) (node k f a (erase_all us)) (erase_all us) ≡ node k f a (erase_all us) = ap (λ (j : ℕ). passed (is_paren j) (node k f a (erase_all us)) (erase_all us)) r.kind-is in
      let q = paired-dressed (laid t) v p dressed in
      let s = root-same k f a us v (λ x. subst (λ (j : ℕ). T (in_pair j)) r.kind-is x) q (erase-dressed (laid t) v dressed ∙ sym e ∙ plain) in
      let ps = and_right (pair_ok k f a s.kids) (all_paired s.kids) (subst (λ (x : Tree). T (paired x)) s.is q) in
      let cs = canons-back spell s.kids ps (subst (λ (x : Forest). T (canons spell x)) (sym s.erased) (canons-erase spell us (canon-kids spell k f a us script d))) in
      let same = unique-script spell k f a us s.kids (counted-by spell k f a us script d) (canon-kids spell k f a us script d) cs (sym s.erased) (w ∙ ap (λ (x : Tree). tokens spell x) s.is) in
      misfit (laid t) (start ∷ []) v l (record { place = start; within = here []; derived! = subst (λ (x : Tree). T (derives spell x script)) (ap (λ (x : Forest). node k f a x) same ∙ sym s.is) h; free = tt })

  least-of : (t v u : Tree) → T (pairs_ok (laid t)) → Less spell (laid t) (start ∷ []) v → tokens spell u ≡ tokens spell v → T (derives spell u script) → erase u ≡ erase (laid t) → ⊥
  least-of t v (node k f a us) p l w h e = least-at t v k f a us p l w h e

  pub least : Least spell
  least t v p l r = least-of t v r.0 (pairs-laid t p) l r.1 r.2 r.3
