-- Where the innermost binding of an identifier is, as bindings are appended and scopes opened and dropped; and what that rests on: the identifiers of
-- the bindings, and where the scopes begin. Assumes nothing.
use Rattle.std.proofs.Common.{◌≡◌, ℕ, zero, suc, ◌+◌, ◌-◌, ◌*◌, ◌<◌, ◌≤◌, true, false, eqb, List, [], ◌∷◌, ◌++◌, map, length, get_or, take, drop, set, sym, refl, ap, ◌∙◌, inl, inr, ⊎_elim, arith, length-append, length-drop, length-set, drop_of_length-le, length-take, length-take-le, get_or-drop, take_all, get_or-set_other, get_or-set_same, take-take, take-add, drop_at, eq-eqb, ne_eqb, eqb-true}
use lib.Seq.{take-append-le, drop-append-le}
use Rattle.def_pass.specs.Scope.{VarInfo, has_in}
use Rattle.words.specs.Tab.{tab, tab-suc, length-tab, below_or_not, same_or_not}
use Rattle.words.specs.Layout.{Agree}
use Rattle.words_scopes.specs.State.{Head, heads_at, heads, binds, bind_at, place, index_in, Beside, Good}
use Rattle.words_scopes.specs.Index.{Entered, Restored}
use Rattle.words_scopes.proofs.Split as laws

abbrev pub named : VarInfo → ℕ
named b = b.id

abbrev pub begins : Head → ℕ
begins h = h.start

-- what it rests on
module _ {A : Type 0} (f : A → ℕ) where
  map-drop : (n : ℕ) (xs : List A) → map f (drop n xs) ≡ drop n (map f xs)
  map-drop zero xs = refl
  map-drop (suc n) [] = refl
  map-drop (suc n) (x ∷ xs) = map-drop n xs

  map-take : (n : ℕ) (xs : List A) → map f (take n xs) ≡ take n (map f xs)
  map-take zero xs = refl
  map-take (suc n) [] = refl
  map-take (suc n) (x ∷ xs) = ap (λ (l : List ℕ). f x ∷ l) (map-take n xs)

  map_snoc : (xs : List A) (x : A) → map f (xs ++ (x ∷ [])) ≡ map f xs ++ (f x ∷ [])
  map_snoc [] x = refl
  map_snoc (y ∷ xs) x = ap (λ (l : List ℕ). f y ∷ l) (map_snoc xs x)

  pub map-tab-same : (n : ℕ) (t u : ℕ → A) → ((k : ℕ) → k < n → f (u k) ≡ f (t k)) → map f (tab n u) ≡ map f (tab n t)
  unfolding tab
  map-tab-same zero t u h = refl
  map-tab-same (suc n) t u h = map_snoc (tab n u) (u n) ∙ rw (h n (omega arith), map-tab-same n t u (λ k l. h k (omega arith))) (sym (map_snoc (tab n t) (t n)))

first-same : (a b : ℕ) (xs ys : List ℕ) → a ∷ xs ≡ b ∷ ys → a ≡ b
first-same a b xs ys e = cc

rest-same : (a b : ℕ) (xs ys : List ℕ) → a ∷ xs ≡ b ∷ ys → xs ≡ ys
rest-same a b xs ys e = cc

some-none : (a : ℕ) (xs : List ℕ) → a ∷ xs ≡ [] → ⊥
some-none a xs e = let z : ◌≡◌ {A = ℕ} 0 1 = cc in omega arith

in-same : (i : ℕ) (bs cs : List VarInfo) → map named cs ≡ map named bs → (has_in i cs ≡ has_in i bs) × (index_in i cs ≡ index_in i bs)
in-same i [] [] e = (refl, refl)
in-same i [] (c ∷ cs) e = absurd (some-none c.id (map named cs) e)
in-same i (b ∷ bs) [] e = absurd (some-none b.id (map named bs) (sym e))
in-same i (b ∷ bs) (c ∷ cs) e =
    let q : c.id ≡ b.id = first-same c.id b.id (map named cs) (map named bs) e in
    let t = in-same i bs cs (rest-same c.id b.id (map named cs) (map named bs) e) in
    laws.tested (eqb b.id i)
    (λ (y : eqb b.id i ≡ true). let z : eqb c.id i ≡ true = rw q y in (laws.has-yes i c cs z ∙ sym (laws.has-yes i b bs y), laws.index-yes i c cs z ∙ sym (laws.index-yes i b bs y)))
    (λ (n : eqb b.id i ≡ false). let z : eqb c.id i ≡ false = rw q n in (laws.has_no i c cs z ∙ t.0 ∙ sym (laws.has_no i b bs n), laws.index-no i c cs z ∙ ap suc t.1 ∙ sym (laws.index-no i b bs n)))

pub place_same : (i : ℕ) (hs hs' : List Head) (bs bs' : List VarInfo) → map begins hs' ≡ map begins hs → map named bs' ≡ map named bs → place i hs' bs' ≡ place i hs bs
place_same i [] [] bs bs' e f = refl
place_same i [] (h' ∷ hs') bs bs' e f = absurd (some-none h'.start (map begins hs') e)
place_same i (h ∷ hs) [] bs bs' e f = absurd (some-none h.start (map begins hs) (sym e))
place_same i (h ∷ hs) (h' ∷ hs') bs bs' e f =
    let a : ℕ = h.start in
    let q : h'.start ≡ a = first-same h'.start a (map begins hs') (map begins hs) e in
    let t = in-same i (drop a bs) (drop a bs') (map-drop named a bs' ∙ ap (drop a) f ∙ sym (map-drop named a bs)) in
    let r = place_same i hs hs' (take a bs) (take a bs') (rest-same h'.start a (map begins hs') (map begins hs) e) (map-take named a bs' ∙ ap (take a) f ∙ sym (map-take named a bs)) in
    laws.tested (has_in i (drop a bs))
    (λ y. laws.place-yes i h' hs' bs' (ap (λ (n : ℕ). has_in i (drop n bs')) q ∙ t.0 ∙ y) ∙ ap (λ (n : ℕ). suc (n + index_in i (drop n bs'))) q ∙ ap (λ (n : ℕ). suc (a + n)) t.1 ∙ sym (laws.place-yes i h hs bs y))
    (λ n. laws.place-no i h' hs' bs' (ap (λ (n : ℕ). has_in i (drop n bs')) q ∙ t.0 ∙ n) ∙ ap (λ (n : ℕ). place i hs' (take n bs')) q ∙ r ∙ sym (laws.place-no i h hs bs n))

-- scopes that begin behind the bindings
pub place-past : (i : ℕ) (h : Head) (hs : List Head) (bs : List VarInfo) → length bs ≤ h.start → place i (h ∷ hs) bs ≡ place i hs bs
place-past i h hs bs l = laws.place-no i h hs bs (ap (has_in i) (drop_of_length-le bs l)) ∙ ap (place i hs) (take_all h.start bs l)

-- a binding more: of another identifier
module _ (i : ℕ) (b : VarInfo) where
  in-other : (b.id ≡ i → ⊥) → (bs : List VarInfo) → (has_in i (bs ++ (b ∷ [])) ≡ has_in i bs) × (has_in i bs ≡ true → index_in i (bs ++ (b ∷ [])) ≡ index_in i bs)
  in-other d [] = (laws.has_no i b [] (ne_eqb b.id i d), λ e. absurd (laws.never e))
  in-other d (c ∷ bs) =
      let t = in-other d bs in
      laws.tested (eqb c.id i)
      (λ (y : eqb c.id i ≡ true). (laws.has-yes i c (bs ++ (b ∷ [])) y ∙ sym (laws.has-yes i c bs y), λ e. laws.index-yes i c (bs ++ (b ∷ [])) y ∙ sym (laws.index-yes i c bs y)))
      (λ (n : eqb c.id i ≡ false). (laws.has_no i c (bs ++ (b ∷ [])) n ∙ t.0 ∙ sym (laws.has_no i c bs n), λ e. laws.index-no i c (bs ++ (b ∷ [])) n ∙ ap suc (t.1 (sym (laws.has_no i c bs n) ∙ e)) ∙ sym (laws.index-no i c bs n)))

  pub place_other : (b.id ≡ i → ⊥) → (hs : List Head) (bs : List VarInfo) → place i hs (bs ++ (b ∷ [])) ≡ place i hs bs
  place_other d [] bs = refl
  place_other d (h ∷ hs) bs = ⊎_elim
      (λ (l : length bs < h.start). place-past i h hs (bs ++ (b ∷ [])) (omega (arith, length-append bs (b ∷ []))) ∙ place_other d hs bs ∙ sym (place-past i h hs bs (omega arith)))
      (λ (l : h.start ≤ length bs). inside l)
      (below_or_not (length bs) h.start)
    where
      inside : h.start ≤ length bs → place i (h ∷ hs) (bs ++ (b ∷ [])) ≡ place i (h ∷ hs) bs
      inside l =
          let a : ℕ = h.start in
          let t = in-other d (drop a bs) in
          let e : drop a (bs ++ (b ∷ [])) ≡ drop a bs ++ (b ∷ []) = drop-append-le a bs (b ∷ []) l in
          laws.tested (has_in i (drop a bs))
          (λ y. laws.place-yes i h hs (bs ++ (b ∷ [])) (ap (has_in i) e ∙ t.0 ∙ y) ∙ ap (λ (n : ℕ). suc (a + n)) (ap (index_in i) e ∙ t.1 y) ∙ sym (laws.place-yes i h hs bs y))
          (λ n. laws.place-no i h hs (bs ++ (b ∷ [])) (ap (has_in i) e ∙ t.0 ∙ n) ∙ ap (place i hs) (take-append-le a bs (b ∷ []) l) ∙ sym (laws.place-no i h hs bs n))

  -- of the same
  in-there : (bs : List VarInfo) → has_in i bs ≡ true → (has_in i (bs ++ (b ∷ [])) ≡ true) × (index_in i (bs ++ (b ∷ [])) ≡ index_in i bs)
  in-there [] h = absurd (laws.never h)
  in-there (c ∷ bs) h = laws.tested (eqb c.id i)
      (λ (y : eqb c.id i ≡ true). (laws.has-yes i c (bs ++ (b ∷ [])) y, laws.index-yes i c (bs ++ (b ∷ [])) y ∙ sym (laws.index-yes i c bs y)))
      (λ (n : eqb c.id i ≡ false). let t = in-there bs (sym (laws.has_no i c bs n) ∙ h) in (laws.has_no i c (bs ++ (b ∷ [])) n ∙ t.0, laws.index-no i c (bs ++ (b ∷ [])) n ∙ ap suc t.1 ∙ sym (laws.index-no i c bs n)))

  in-last : b.id ≡ i → (bs : List VarInfo) → has_in i bs ≡ false → (has_in i (bs ++ (b ∷ [])) ≡ true) × (index_in i (bs ++ (b ∷ [])) ≡ length bs)
  in-last q [] h = (laws.has-yes i b [] (eq-eqb b.id i q), laws.index-yes i b [] (eq-eqb b.id i q))
  in-last q (c ∷ bs) h = laws.tested (eqb c.id i)
      (λ (y : eqb c.id i ≡ true). absurd (laws.never (sym h ∙ laws.has-yes i c bs y)))
      (λ (n : eqb c.id i ≡ false). let t = in-last q bs (sym (laws.has_no i c bs n) ∙ h) in (laws.has_no i c (bs ++ (b ∷ [])) n ∙ t.0, laws.index-no i c (bs ++ (b ∷ [])) n ∙ ap suc t.1))

-- a place is in the innermost scope exactly if it is behind its beginning
module _ (i : ℕ) (h : Head) (hs : List Head) (bs : List VarInfo) where
  pub place_here_lem : h.start < place i (h ∷ hs) bs → has_in i (drop h.start bs) ≡ true
  place_here_lem l = laws.tested (has_in i (drop h.start bs)) (λ y. y)
      (λ n. absurd (omega (arith, laws.place-no i h hs bs n, laws.place-le i hs (take h.start bs), length-take h.start bs)))

  pub place-above : place i (h ∷ hs) bs ≤ h.start → has_in i (drop h.start bs) ≡ false
  place-above l = laws.tested (has_in i (drop h.start bs)) (λ y. absurd (omega (arith, laws.place-yes i h hs bs y))) (λ n. n)

  module _ (b : VarInfo) (q : b.id ≡ i) (m : h.start ≤ length bs) where
    pub place-again : h.start < place i (h ∷ hs) bs → place i (h ∷ hs) (bs ++ (b ∷ [])) ≡ place i (h ∷ hs) bs
    place-again l =
        let a : ℕ = h.start in
        let y = place_here_lem l in
        let t = in-there i b (drop a bs) y in
        let e : drop a (bs ++ (b ∷ [])) ≡ drop a bs ++ (b ∷ []) = drop-append-le a bs (b ∷ []) m in
        laws.place-yes i h hs (bs ++ (b ∷ [])) (ap (has_in i) e ∙ t.0) ∙ ap (λ (n : ℕ). suc (a + n)) (ap (index_in i) e ∙ t.1) ∙ sym (laws.place-yes i h hs bs y)

    pub place-last : place i (h ∷ hs) bs ≤ h.start → place i (h ∷ hs) (bs ++ (b ∷ [])) ≡ suc (length bs)
    place-last l =
        let a : ℕ = h.start in
        let t = in-last i b q (drop a bs) (place-above l) in
        let e : drop a (bs ++ (b ∷ [])) ≡ drop a bs ++ (b ∷ []) = drop-append-le a bs (b ∷ []) m in
        laws.place-yes i h hs (bs ++ (b ∷ [])) (ap (has_in i) e ∙ t.0) ∙ ap (λ (n : ℕ). suc (a + n)) (ap (index_in i) e ∙ t.1 ∙ length-drop a bs) ∙ omega arith

-- the first k scopes begin where they began
pub begins-same : (w w' : List ℕ) (k : ℕ) → ((j : ℕ) → j < k → get_or w' (7184 + j * 4 + 1) 0 ≡ get_or w (7184 + j * 4 + 1) 0) → map begins (heads_at w' k) ≡ map begins (heads_at w k)
unfolding heads_at
begins-same w w' zero h = refl
begins-same w w' (suc k) h = rw (h k (omega arith), begins-same w w' k (λ j l. h j (omega arith))) refl

-- the frame: the words of the tables, the identifiers of the bindings, and where scopes begin, are kept
pub beside_same : {w w' : List ℕ} → Beside w → get_or w' 1 0 ≡ get_or w 1 0 → map begins (heads w') ≡ map begins (heads w) → ((k : ℕ) → k < get_or w 1 0 → get_or w' (4112 + k * 10) 0 ≡ get_or w (4112 + k * 10) 0) → Agree 7568 8080 w w' → get_or w 1 0 ≤ 256 → Beside w'
unfolding binds
beside_same {w} {w'} s n b i t l = record {
  index = λ x h. t (7568 + x) (omega arith) (omega arith) ∙ s.index x h ∙ sym (rw n (place_same x (heads w) (heads w') (tab (get_or w 1 0) (λ k. bind_at w k)) (tab (get_or w 1 0) (λ k. bind_at w' k)) b (map-tab-same named (get_or w 1 0) (λ k. bind_at w k) (λ k. bind_at w' k) i)));
  shadow = λ k h. let m : k < get_or w 1 0 = rw n at h in t (7824 + k) (omega arith) (omega arith) ∙ s.shadow k m ∙ sym (rw (i k m) (place_same (get_or w (4112 + k * 10) 0) (heads w) (heads w') (tab k (λ j. bind_at w j)) (tab k (λ j. bind_at w' j)) b (map-tab-same named k (λ j. bind_at w j) (λ j. bind_at w' j) (λ j q. i j (omega arith)))));
}

-- a binding is entered
module _ (w : List ℕ) (n x a : ℕ) (long : 16384 ≤ length w) (h : n < 256) (small : x < 256) where
  abbrev t : List ℕ
  t = set w (7824 + n) (get_or w (7568 + x) 0)

  pub entered-again : a < get_or w (7568 + x) 0 → Entered w t n x a
  entered-again l = record {
    size = simp length-set;
    shadow = get_or-set_same w (7824 + n) (get_or w (7568 + x) 0) 0 (omega arith);
    first = λ m. absurd (omega arith);
    again = λ m. get_or-set_other w (7824 + n) (7568 + x) (get_or w (7568 + x) 0) 0 (λ e. omega arith);
    other = λ j p q. get_or-set_other w (7824 + n) j (get_or w (7568 + x) 0) 0 p;
  }

  pub entered-first : get_or w (7568 + x) 0 ≤ a → Entered w (set t (7568 + x) (n + 1)) n x a
  entered-first l = record {
    size = simp length-set;
    shadow = get_or-set_other t (7568 + x) (7824 + n) (n + 1) 0 (λ e. omega arith) ∙ get_or-set_same w (7824 + n) (get_or w (7568 + x) 0) 0 (omega arith);
    first = λ m. get_or-set_same t (7568 + x) (n + 1) 0 (simp length-set (omega arith));
    again = λ m. absurd (omega arith);
    other = λ j p q. get_or-set_other t (7568 + x) j (n + 1) 0 q ∙ get_or-set_other w (7824 + n) j (get_or w (7568 + x) 0) 0 p;
  }

-- the index set back
pub restored-all : (w : List ℕ) → Good w → Restored w w (get_or w 1 0)
unfolding binds
restored-all w g = record { size = refl; index = g.beside.index; other = λ j o. refl }

pub restored-name : {w u : List ℕ} {a : ℕ} → Good w → Restored w u a → (k : ℕ) → k < get_or w 1 0 → get_or u (4112 + k * 10) 0 < 256
restored-name g r k h = rw (r.other (4112 + k * 10) (inl (omega (arith, g.count)))) (g.ids k h)

module _ (w u : List ℕ) (g : Good w) (k : ℕ) (h : k < get_or w 1 0) (r : Restored w u (k + 1)) where
  abbrev i : ℕ
  i = get_or u (4112 + k * 10) 0

  abbrev v : ℕ
  v = get_or u (7824 + k) 0

  name-is : i ≡ get_or w (4112 + k * 10) 0
  name-is = r.other (4112 + k * 10) (inl (omega (arith, g.count)))

  value-is : v ≡ place i (heads w) (tab k (λ j. bind_at w j))
  value-is = r.other (7824 + k) (inr (omega arith)) ∙ g.beside.shadow k h ∙ ap (λ (n : ℕ). place n (heads w) (tab k (λ j. bind_at w j))) (sym name-is)

  pub restored-less : Restored w (set u (7568 + i) v) k
  restored-less = let s : i < 256 = restored-name g r k h in record {
    size = simp length-set r.size;
    index = λ x l. ⊎_elim
        (λ (e : x ≡ i). rw e (get_or-set_same u (7568 + i) v 0 (omega (arith, r.size, g.long)) ∙ value-is))
        (λ (d : x ≡ i → ⊥). get_or-set_other u (7568 + i) (7568 + x) v 0 (λ e. d (omega arith)) ∙ r.index x l ∙ ap (place x (heads w)) (tab-suc k (λ j. bind_at w j))
        ∙ place_other x (bind_at w k) (λ e. d (sym (name-is ∙ e))) (heads w) (tab k (λ j. bind_at w j)))
        (same_or_not x i);
    other = λ j o. get_or-set_other u (7568 + i) j v 0 (λ e. ⊎_elim (λ (l : j < 7568). omega arith) (λ (l : 7824 ≤ j). omega arith) o) ∙ r.other j o;
  }

-- the index says where the innermost binding is
pub indexed : (w : List ℕ) → Good w → (x : ℕ) → x < 256 → (get_or w (7568 + x) 0 ≡ place x (heads w) (binds w)) × (get_or w (7568 + x) 0 ≤ get_or w 1 0)
unfolding binds
indexed w g x l = (g.beside.index x l, omega (arith, g.beside.index x l, laws.place-le x (heads w) (tab (get_or w 1 0) (λ k. bind_at w k)), length-tab (get_or w 1 0) (λ k. bind_at w k)))

-- no scope: an index of zeros
pub beside_none : (w : List ℕ) → get_or w 1 0 ≡ 0 → get_or w 2 0 ≡ 0 → ((x : ℕ) → x < 256 → get_or w (7568 + x) 0 ≡ 0) → Beside w
unfolding heads heads_at
beside_none w n d z = record { index = λ x l. z x l ∙ sym (rw d refl); shadow = λ k l. absurd (omega (arith, n, l)) }

-- the first binding of an identifier in a scope: none of it stands before it there, and what stands outside is what it shadows
index-id : (i : ℕ) (bs : List VarInfo) → has_in i bs ≡ true → (get_or bs (index_in i bs) laws.no_bind).id ≡ i
index-id i [] h = absurd (laws.never h)
index-id i (b ∷ bs) h = laws.tested (eqb b.id i)
    (λ y. ap (λ (n : ℕ). (get_or (b ∷ bs) n laws.no_bind).id) (laws.index-yes i b bs y) ∙ eqb-true b.id i y)
    (λ n. ap (λ (m : ℕ). (get_or (b ∷ bs) m laws.no_bind).id) (laws.index-no i b bs n) ∙ index-id i bs (sym (laws.has_no i b bs n) ∙ h))

index-first : (i : ℕ) (bs : List VarInfo) → has_in i (take (index_in i bs) bs) ≡ false
index-first i [] = refl
index-first i (b ∷ bs) = laws.tested (eqb b.id i)
    (λ y. ap (λ (n : ℕ). has_in i (take n (b ∷ bs))) (laws.index-yes i b bs y))
    (λ n. ap (λ (m : ℕ). has_in i (take m (b ∷ bs))) (laws.index-no i b bs n) ∙ laws.has_no i b (take (index_in i bs) bs) n ∙ index-first i bs)

module _ (i : ℕ) (h : Head) (hs : List Head) (bs : List VarInfo) (l : h.start < place i (h ∷ hs) bs) where
  abbrev a : ℕ
  a = h.start

  abbrev m : ℕ
  m = index_in i (drop a bs)

  has : has_in i (drop a bs) ≡ true
  has = place_here_lem i h hs bs l

  long : a ≤ length bs
  long = omega (arith, laws.index-lt i (drop a bs) has, length-drop a bs)

  at-is : place i (h ∷ hs) bs - 1 ≡ a + m
  at-is = omega (arith, laws.place-yes i h hs bs has)

  pub place-id : (get_or bs (place i (h ∷ hs) bs - 1) laws.no_bind).id ≡ i
  place-id = ap (λ (n : ℕ). (get_or bs n laws.no_bind).id) at-is ∙ ap (λ (b : VarInfo). b.id) (sym (get_or-drop a bs m laws.no_bind)) ∙ index-id i (drop a bs) has

  pub place-under : place i (h ∷ hs) (take (place i (h ∷ hs) bs - 1) bs) ≡ place i hs (take a bs)
  place-under =
      let e : drop a (take (a + m) bs) ≡ take m (drop a bs) = ap (drop a) (take-add a m bs) ∙ drop_at (take a bs) (take m (drop a bs)) a (length-take-le a bs long) in
      ap (λ (n : ℕ). place i (h ∷ hs) (take n bs)) at-is
      ∙ laws.place-no i h hs (take (a + m) bs) (ap (has_in i) e ∙ index-first i (drop a bs)) ∙ ap (place i hs) (take-take a (a + m) bs (omega arith))
