-- The walks on the list do what the walks on trees do: one law for each part that walks are made of. Generic in the rest of the state.
-- Assumes nothing.
use mathlib.Core.Path.{◌≡◌, refl, ap, ◌∙◌}
use mathlib.Core.Bool.{Bool, true, false}
use mathlib.Core.List.{List, ◌∷◌}
use Prim.Native.Nat.{ℕ, zero, suc, ◌-◌}
use native.Mathlib.Numerals.{add-one}
use native.Mathlib.Omega.{arith}
use lib.ListN.{length}
use Rattle.def_tree.specs.Tree.{Tree, Forest, node, nil, cons, length_f, count, Core, core, flat, flats, top, tail_f}
use Rattle.def_tree.specs.Combine.{Res, stop, done, M, Nothing, and_then, ◌>>=◌, ◌>>◌, ret, refuse, iff, within, each, split, each_but, on_kids, Flat, node_at, tree_at, forest_at, Walk, Walks, ReWalks, carry, act_n, act, act_f, within_f, skip, skips, put, many, split_f, each_but_f, on_kids_f, re_kids_f, same, split_r, cut_first, cut}
use Rattle.def_tree.proofs.Place.{past, pasts, onto-append, length-past, length-pasts, take-onto, set-onto, drop_here, drops-here, at, at-past, tree-here, node-here, forest-here}

-- P of the answer, if there is one
abbrev pub Ends : {S A : Type 0} → (A → Type 0) → Res S A → Type 0
Ends P (stop n) = Unit {0}
Ends P (done s a) = P a

pub ends-then : {S A B : Type 0} (P : A → Type 0) (Q : B → Type 0) (f : A → M S B) (r : Res S A) → Ends P r → ((s : S) (a : A) → P a → Ends Q (f a s)) → Ends Q (and_then r f)
ends-then P Q f (stop n) e k = tt
ends-then P Q f (done s a) e k = k s a e

-- the first steps agree, and what follows them
pub carry-then : {S F A B C D : Type 0} (h : S → A → F) (e : A → B) (h' : S → C → F) (e' : C → D) (f : A → M S C) (g : B → M F D) (r : Res S A) {r' : Res F B} → r' ≡ carry h e r
    → ((s : S) (a : A) → g (e a) (h s a) ≡ carry h' e' (f a s)) → and_then r' g ≡ carry h' e' (and_then r f)
carry-then h e h' e' f g (stop n) q k = rw q refl
carry-then h e h' e' f g (done s a) q k = rw q (k s a)

-- the same with something known of the first answer
pub carry-then-with : {S F A B C D : Type 0} (P : A → Type 0) (h : S → A → F) (e : A → B) (h' : S → C → F) (e' : C → D) (f : A → M S C) (g : B → M F D) (r : Res S A) {r' : Res F B} → Ends P r → r' ≡ carry h e r
    → ((s : S) (a : A) → P a → g (e a) (h s a) ≡ carry h' e' (f a s)) → and_then r' g ≡ carry h' e' (and_then r f)
carry-then-with P h e h' e' f g (stop n) p q k = rw q refl
carry-then-with P h e h' e' f g (done s a) p q k = rw q (k s a p)

pub then-assoc : {S A B C : Type 0} (r : Res S A) (f : A → M S B) (g : B → M S C) → and_then (and_then r f) g ≡ and_then r (λ a s. and_then (f a s) g)
then-assoc (stop n) f g = refl
then-assoc (done s a) f g = refl

then-ret : {S A : Type 0} (r : Res S A) → r ≡ and_then r (λ a s. done s a)
then-ret (stop n) = refl
then-ret (done s a) = refl

-- n trees, the first one first
pub many-front : {S : Type 0} (f : Walk S) (n i : ℕ) (st : Flat S) → many f (suc n) i st ≡ and_then (f i st) (many f n)
unfolding many
many-front f zero i st = then-ret (f i st)
many-front f (suc n) i st = rw (many-front f n i st) (then-assoc (f i st) (many f n) f)

module _ {S : Type 0} where
  -- t, or ts, in its place
  abbrev pub land_t : List Core → List Core → Res S Tree → Res (Flat S) ℕ
  land_t pre post = carry (λ s t. at pre (flat t post) s) (λ t. length (past t pre))

  abbrev pub land_f : List Core → List Core → Res S Forest → Res (Flat S) ℕ
  land_f pre post = carry (λ s ts. at pre (flats ts post) s) (λ ts. length (pasts ts pre))

  -- the walk g on the list does what f does on trees
  pub record Sim (f : Tree → M S Tree) (g : Walk S) : Type 0 where
    pub run : (pre post : List Core) (s : S) (t : Tree) → g (length pre) (at pre (flat t post) s) ≡ land_t pre post (f t s)

  -- the same for several trees; their number stays
  pub record SimF (f : Forest → M S Forest) (g : Walks S) : Type 0 where
    pub run : (pre post : List Core) (s : S) (ts : Forest) → g (length_f ts) (length pre) (at pre (flats ts post) s) ≡ land_f pre post (f ts s)
    pub size : (s : S) (ts : Forest) → Ends (λ us. length_f us ≡ length_f ts) (f ts s)

  -- trees

  pub sim-skip : Sim ret skip
  sim-skip = record { run = λ pre post s t. rw (tree-here t pre post s, length-past t pre) refl }

  pub sim_put : (e : Tree) → Sim (λ t. ret e) (put e)
  sim_put e = record { run = λ pre post s t. rw (tree-here t pre post s, drop_here t pre post, take-onto pre (flat t post), length-past e pre, onto-append pre (flat e post)) refl }

  pub sim-refuse : (n : ℕ) → Sim (λ t. refuse n) (λ i. refuse n)
  sim-refuse n = record { run = λ pre post s t. refl }

  module _ {f g : Tree → M S Tree} {f' g' : Walk S} where
    -- one walk after the other, of the same tree
    pub sim_then : Sim f f' → Sim g g' → Sim (λ t. f t >>= g) (λ i. f' i >>= λ j. g' i)
    sim_then h k = record { run = λ pre post s t. carry-then _ _ _ _ g (λ j. g' (length pre)) (f t s) (h.run pre post s t) (λ s₁ t₁. k.run pre post s₁ t₁) }

    pub sim-if : (b : Bool) → Sim f f' → Sim g g' → Sim (λ t. iff b (f t) (g t)) (λ i. iff b (f' i) (g' i))
    sim-if true h k = record { run = h.run }
    sim-if false h k = record { run = k.run }

  -- by what the state and the tree are
  pub sim-ask : {B : Type 0} (q : S → Tree → B) {f : B → Tree → M S Tree} {g : B → Walk S} → ((b : B) → Sim (f b) (g b)) → Sim (λ t s. f (q s t) t s) (λ i st. g (q st.rest (tree_at st i)) i st)
  sim-ask q {f} {g} h = record { run = λ pre post s t. rw (tree-here t pre post s) ((h (q s t)).run pre post s t) }

  -- by the state and the tree's own node
  pub sim-node : {B : Type 0} (q : S → Core → B) {f : B → Tree → M S Tree} {g : B → Walk S} → ((b : B) → Sim (f b) (g b)) → Sim (λ t s. f (q s (top t)) t s) (λ i st. g (q st.rest (node_at st i)) i st)
  sim-node q {f} {g} h = record { run = λ pre post s t. go pre post s t }
    where
      go : (pre post : List Core) (s : S) (t : Tree) → g (q s (node_at (at pre (flat t post) s) (length pre))) (length pre) (at pre (flat t post) s) ≡ land_t pre post (f (q s (top t)) t s)
      go pre post s (node k o a ts) = rw (node-here (core k o (length_f ts) a) pre (flats ts post) s) ((h (q s (core k o (length_f ts) a))).run pre post s (node k o a ts))

  -- something on the rest of the state first
  pub sim-act : {A : Type 0} (m : Tree → M S A) {f : A → Tree → M S Tree} {g : A → Walk S} → ((a : A) → Sim (f a) (g a)) → Sim (λ t. m t >>= λ a. f a t) (λ i. act m i >>= λ a. g a i)
  sim-act m {f} {g} h = record { run = λ pre post s t. rw (tree-here t pre post s) (carry-then (λ s₁ a. at pre (flat t post) s₁) (λ a. a) _ _ (λ a. f a t) (λ a. g a (length pre)) (m t s) refl (λ s₁ a. (h a).run pre post s₁ t)) }

  -- the same, by the tree's own node
  pub sim-act_n : {A : Type 0} (m : Core → M S A) {f : A → Tree → M S Tree} {g : A → Walk S} → ((a : A) → Sim (f a) (g a)) → Sim (λ t. m (top t) >>= λ a. f a t) (λ i. act_n m i >>= λ a. g a i)
  sim-act_n m {f} {g} h = record { run = λ pre post s t. go pre post s t }
    where
      go : (pre post : List Core) (s : S) (t : Tree) → and_then (act_n m (length pre) (at pre (flat t post) s)) (λ a. g a (length pre)) ≡ land_t pre post (and_then (m (top t) s) (λ a. f a t))
      go pre post s (node k o a ts) =
          let c : Core = core k o (length_f ts) a in
          rw (node-here c pre (flats ts post) s) (carry-then (λ s₁ x. at pre (c ∷ flats ts post) s₁) (λ x. x) _ _ (λ x. f x (node k o a ts)) (λ x. g x (length pre)) (m c s) refl (λ s₁ x. (h x).run pre post s₁ (node k o a ts)))

  -- and last, with a look at the walked tree
  pub sim-tap : {f : Tree → M S Tree} {g : Walk S} (m : Tree → M S Nothing) → Sim f g → Sim (λ t. f t >>= λ u. m u >> ret u) (λ i. g i >>= λ j. act m i >> ret j)
  sim-tap {f} {g} m h = record {
    run = λ pre post s t. carry-then _ _ _ _ (λ u. m u >> ret u) (λ j. act m (length pre) >> ret j) (f t s) (h.run pre post s t)
        (λ s₁ u. rw (tree-here u pre post s₁) (carry-then (λ s₂ a. at pre (flat u post) s₂) (λ a. a) _ _ (λ a. ret u) (λ a. ret (length (past u pre))) (m u s₁) refl (λ s₂ a. refl)));
  }

  pub sim-within : {f : Tree → M S Tree} {g : Walk S} (enter : M S Nothing) (leave : S → S → S) → Sim f g → Sim (λ t. within enter leave (f t)) (λ i. within_f enter leave (g i))
  sim-within {f} {g} enter leave h = record {
    run = λ pre post s t.
        carry-then (λ s₁ a. at pre (flat t post) s₁) (λ a. a) _ _ (λ u s₁. and_then (f t s₁) (λ a s₂. done (leave s s₂) a)) _ (enter s) refl
        (λ s₁ a. carry-then _ _ _ _ (λ a s₂. done (leave s s₂) a) _ (f t s₁) (h.run pre post s₁ t) (λ s₂ u. refl));
  }

  -- f in other words
  pub sim-as : {f f₁ : Tree → M S Tree} {g : Walk S} → ((t : Tree) (s : S) → f₁ t s ≡ f t s) → Sim f g → Sim f₁ g
  sim-as e h = record { run = λ pre post s t. rw (e t s) (h.run pre post s t) }

  -- several trees

  pub sim_f-as : {f f₁ : Forest → M S Forest} {g : Walks S} → ((ts : Forest) (s : S) → f₁ ts s ≡ f ts s) → SimF f g → SimF f₁ g
  sim_f-as e h = record { run = λ pre post s ts. rw (e ts s) (h.run pre post s ts); size = λ s ts. rw (e ts s) (h.size s ts) }

  pub sim-skips : SimF ret skips
  sim-skips = record { run = λ pre post s ts. rw (forest-here ts pre post s, length-pasts ts pre) refl; size = λ s ts. refl }

  land-cons : (t : Tree) (pre post : List Core) (r : Res S Forest) → land_f (past t pre) post r ≡ land_f pre post (and_then r (λ us s. done s (cons t us)))
  land-cons t pre post (stop n) = refl
  land-cons t pre post (done s us) = rw (at-past t pre (flats us post) s) refl

  land-one : (pre post : List Core) (r : Res S Tree) → land_t pre post r ≡ land_f pre post (and_then r (λ t s. done s (cons t nil)))
  land-one pre post (stop n) = refl
  land-one pre post (done s t) = refl

  -- the first tree, and then the others
  front : {f : Tree → M S Tree} {g : Walk S} → Sim f g → (k : Forest → M S Forest) (k' : Walk S) (pre post : List Core) (s : S) (t : Tree) (ts : Forest)
      → ((pre₁ : List Core) (s₁ : S) → k' (length pre₁) (at pre₁ (flats ts post) s₁) ≡ land_f pre₁ post (k ts s₁))
      → and_then (g (length pre) (at pre (flat t (flats ts post)) s)) k' ≡ land_f pre post (and_then (f t s) (λ t₁ s₁. and_then (k ts s₁) (λ us s₂. done s₂ (cons t₁ us))))
  front {f} {g} h k k' pre post s t ts e =
      carry-then (λ s t. at pre (flat t (flats ts post)) s) (λ t. length (past t pre)) _ _ (λ t₁ s₁. and_then (k ts s₁) (λ us s₂. done s₂ (cons t₁ us))) k' (f t s) (h.run pre (flats ts post) s t)
      (λ s₁ t₁. rw (at-past t₁ pre (flats ts post) s₁) (e (past t₁ pre) s₁ ∙ land-cons t₁ pre post (k ts s₁)))

  front-size : (r : Res S Tree) (k : M S Forest) (ts : Forest) → ((s : S) → Ends (λ us. length_f us ≡ length_f ts) (k s))
      → Ends (λ us. length_f us ≡ suc (length_f ts)) (and_then r (λ t₁ s₁. and_then (k s₁) (λ us s₂. done s₂ (cons t₁ us))))
  front-size (stop n) k ts e = tt
  front-size (done s t) k ts e = ends-then (λ us. length_f us ≡ length_f ts) (λ us. length_f us ≡ suc (length_f ts)) (λ us s₂. done s₂ (cons t us)) (k s) (e s) (λ s₁ us q. ap suc q)

  module _ {f : Tree → M S Tree} {g : Walk S} (h : Sim f g) where
    each-run : (pre post : List Core) (s : S) (ts : Forest) → many g (length_f ts) (length pre) (at pre (flats ts post) s) ≡ land_f pre post (each f ts s)
    unfolding many
    each-run pre post s nil = refl
    each-run pre post s (cons t ts) =
        many-front g (length_f ts) (length pre) (at pre (flat t (flats ts post)) s) ∙ front h (each f) (many g (length_f ts)) pre post s t ts (λ pre₁ s₁. each-run pre₁ post s₁ ts)

    each-size : (s : S) (ts : Forest) → Ends (λ us. length_f us ≡ length_f ts) (each f ts s)
    each-size s nil = refl
    each-size s (cons t ts) = front-size (f t s) (each f ts) ts (λ s₁. each-size s₁ ts)

    pub sim-each : SimF (each f) (many g)
    sim-each = record { run = each-run; size = each-size }

    module _ {k : Forest → M S Forest} {k' : Walks S} (e : SimF k k') where
      split-run : (pre post : List Core) (s : S) (ts : Forest) → split_f g k' (length_f ts) (length pre) (at pre (flats ts post) s) ≡ land_f pre post (split f k ts s)
      split-run pre post s nil = refl
      split-run pre post s (cons t ts) = front h k (k' (length_f ts)) pre post s t ts (λ pre₁ s₁. e.run pre₁ post s₁ ts)

      split-size : (s : S) (ts : Forest) → Ends (λ us. length_f us ≡ length_f ts) (split f k ts s)
      split-size s nil = refl
      split-size s (cons t ts) = front-size (f t s) (k ts) ts (λ s₁. e.size s₁ ts)

      pub sim-split : SimF (split f k) (split_f g k')
      sim-split = record { run = split-run; size = split-size }

    module _ {l : Tree → M S Tree} {l' : Walk S} (e : Sim l l') where
      but-run : (pre post : List Core) (s : S) (ts : Forest) → each_but_f g l' (length_f ts) (length pre) (at pre (flats ts post) s) ≡ land_f pre post (each_but f l ts s)
      unfolding many
      but-run pre post s nil = refl
      but-run pre post s (cons t nil) = e.run pre post s t ∙ land-one pre post (l t s)
      but-run pre post s (cons t (cons u us)) =
          ap (λ (r : Res (Flat S) ℕ). and_then r l') (many-front g (length_f us) (length pre) (at pre (flat t (flats (cons u us) post)) s))
          ∙ then-assoc (g (length pre) (at pre (flat t (flats (cons u us) post)) s)) (many g (length_f us)) l'
          ∙ front h (each_but f l) (each_but_f g l' (suc (length_f us))) pre post s t (cons u us) (λ pre₁ s₁. but-run pre₁ post s₁ (cons u us))

      but-size : (s : S) (ts : Forest) → Ends (λ us. length_f us ≡ length_f ts) (each_but f l ts s)
      but-size s nil = refl
      but-size s (cons t nil) = go (l t s)
        where
          go : (r : Res S Tree) → Ends (λ us. length_f us ≡ 1) (and_then r (λ t₁ s₁. done s₁ (cons t₁ nil)))
          go (stop n) = tt
          go (done s₁ t₁) = refl
      but-size s (cons t (cons u us)) = front-size (f t s) (each_but f l (cons u us)) (cons u us) (λ s₁. but-size s₁ (cons u us))

      pub sim-each_but : SimF (each_but f l) (each_but_f g l')
      sim-each_but = record { run = but-run; size = but-size }

  module _ {f g : Forest → M S Forest} {f' g' : Walks S} where
    -- one walk after the other, of the same trees
    pub sim_f-then : SimF f f' → SimF g g' → SimF (λ ts. f ts >>= g) (λ n i. f' n i >>= λ j. g' n i)
    sim_f-then h k = record {
      run = λ pre post s ts. carry-then-with (λ us. length_f us ≡ length_f ts) _ _ _ _ g (λ j. g' (length_f ts) (length pre)) (f ts s) (h.size s ts) (h.run pre post s ts)
          (λ s₁ us q. rw (← q) (k.run pre post s₁ us));
      size = λ s ts. ends-then (λ us. length_f us ≡ length_f ts) (λ us. length_f us ≡ length_f ts) g (f ts s) (h.size s ts) (λ s₁ us q. rw q at (k.size s₁ us));
    }

    pub sim_f-if : (b : Bool) → SimF f f' → SimF g g' → SimF (λ ts. iff b (f ts) (g ts)) (λ n i. iff b (f' n i) (g' n i))
    sim_f-if true h k = record { run = h.run; size = h.size }
    sim_f-if false h k = record { run = k.run; size = k.size }

  pub sim_f-ask : {B : Type 0} (q : S → B) {f : B → Forest → M S Forest} {g : B → Walks S} → ((b : B) → SimF (f b) (g b)) → SimF (λ ts s. f (q s) ts s) (λ n i st. g (q st.rest) n i st)
  sim_f-ask q h = record { run = λ pre post s ts. (h (q s)).run pre post s ts; size = λ s ts. (h (q s)).size s ts }

  pub sim_f-act : {A : Type 0} (m : Forest → M S A) {f : A → Forest → M S Forest} {g : A → Walks S} → ((a : A) → SimF (f a) (g a)) → SimF (λ ts. m ts >>= λ a. f a ts) (λ n i. act_f m n i >>= λ a. g a n i)
  sim_f-act m {f} {g} h = record {
    run = λ pre post s ts. rw (forest-here ts pre post s) (carry-then (λ s₁ a. at pre (flats ts post) s₁) (λ a. a) _ _ (λ a. f a ts) (λ a. g a (length_f ts) (length pre)) (m ts s) refl (λ s₁ a. (h a).run pre post s₁ ts));
    size = λ s ts. go ts (m ts s);
  }
    where
      go : (ts : Forest) (r : Res S _) → Ends (λ us. length_f us ≡ length_f ts) (and_then r (λ a. f a ts))
      go ts (stop n) = tt
      go ts (done s a) = (h a).size s ts

  pub sim_f-tap : {f : Forest → M S Forest} {g : Walks S} (m : Forest → M S Nothing) → SimF f g → SimF (λ ts. f ts >>= λ us. m us >> ret us) (λ n i. g n i >>= λ j. act_f m n i >> ret j)
  sim_f-tap {f} {g} m h = record {
    run = λ pre post s ts. carry-then-with (λ us. length_f us ≡ length_f ts) _ _ _ _ (λ us. m us >> ret us) (λ j. act_f m (length_f ts) (length pre) >> ret j) (f ts s) (h.size s ts) (h.run pre post s ts)
        (λ s₁ us q. rw (← q, forest-here us pre post s₁) (carry-then (λ s₂ a. at pre (flats us post) s₂) (λ a. a) _ _ (λ a. ret us) (λ a. ret (length (pasts us pre))) (m us s₁) refl (λ s₂ a. refl)));
    size = λ s ts. ends-then (λ us. length_f us ≡ length_f ts) _ _ (f ts s) (h.size s ts) (λ s₁ us q. go ts us q (m us s₁));
  }
    where
      go : (ts us : Forest) → length_f us ≡ length_f ts → (r : Res S Nothing) → Ends (λ vs. length_f vs ≡ length_f ts) (and_then r (λ a. ret us))
      go ts us q (stop n) = tt
      go ts us q (done s a) = q

  pub sim_f-within : {f : Forest → M S Forest} {g : Walks S} (enter : M S Nothing) (leave : S → S → S) → SimF f g → SimF (λ ts. within enter leave (f ts)) (λ n i. within_f enter leave (g n i))
  sim_f-within {f} {g} enter leave h = record {
    run = λ pre post s ts.
        carry-then (λ s₁ a. at pre (flats ts post) s₁) (λ a. a) _ _ (λ u s₁. and_then (f ts s₁) (λ a s₂. done (leave s s₂) a)) _ (enter s) refl
        (λ s₁ a. carry-then _ _ _ _ (λ a s₂. done (leave s s₂) a) _ (f ts s₁) (h.run pre post s₁ ts) (λ s₂ u. refl));
    size = λ s ts. ends-then (λ u. Unit {0}) _ _ (enter s) (unit (enter s)) (λ s₁ u x. ends-then (λ us. length_f us ≡ length_f ts) _ _ (f ts s₁) (h.size s₁ ts) (λ s₂ us q. q));
  }
    where
      unit : (r : Res S Nothing) → Ends (λ u. Unit {0}) r
      unit (stop n) = tt
      unit (done s a) = tt

  -- the children of a node

  kids-land : (k o a n : ℕ) (pre post : List Core) (r : Res S Forest) → Ends (λ us. length_f us ≡ n) r → land_f (core k o n a ∷ pre) post r ≡ land_t pre post (and_then r (λ us s. done s (node k o a us)))
  kids-land k o a n pre post (stop m) e = refl
  kids-land k o a n pre post (done s us) e = rw (← e) refl

  pub sim-on_kids : {f : Forest → M S Forest} {g : Walks S} → SimF f g → Sim (on_kids f) (on_kids_f g)
  sim-on_kids {f} {g} h = record { run = go }
    where
      go : (pre post : List Core) (s : S) (t : Tree) → on_kids_f g (length pre) (at pre (flat t post) s) ≡ land_t pre post (on_kids f t s)
      go pre post s (node k o a ts) =
          let c : Core = core k o (length_f ts) a in
          rw (node-here c pre (flats ts post) s, add-one (length pre)) (h.run (c ∷ pre) post s ts ∙ kids-land k o a (length_f ts) pre post (f ts s) (h.size s ts))

  -- children whose number changes: the list's side answers the new number too
  abbrev land_r : List Core → List Core → Res S Forest → Res (Flat S) (ℕ × ℕ)
  land_r pre post = carry (λ s us. at pre (flats us post) s) (λ us. (length_f us, length (pasts us pre)))

  pub record SimR (f : Forest → M S Forest) (g : ReWalks S) : Type 0 where
    pub run : (pre post : List Core) (s : S) (ts : Forest) → g (length_f ts) (length pre) (at pre (flats ts post) s) ≡ land_r pre post (f ts s)

  pub sim-re_kids : {f : Forest → M S Forest} {g : ReWalks S} → SimR f g → Sim (on_kids f) (re_kids_f g)
  sim-re_kids {f} {g} h = record { run = go }
    where
      go : (pre post : List Core) (s : S) (t : Tree) → re_kids_f g (length pre) (at pre (flat t post) s) ≡ land_t pre post (on_kids f t s)
      go pre post s (node k o a ts) =
          let c : Core = core k o (length_f ts) a in
          rw (node-here c pre (flats ts post) s, add-one (length pre))
          (carry-then _ _ _ _ (λ us s₁. done s₁ (node k o a us)) _ (f ts s) (h.run (c ∷ pre) post s ts)
          (λ s₁ us. rw (node-here c pre (flats us post) s₁, set-onto pre c (flats us post) (core k o (length_f us) a), length-pasts us (c ∷ pre), length-pasts us (core k o (length_f us) a ∷ pre)) refl))

  -- the children are walked, and then, if `m` says so, all taken out
  pub sim_r-cut : {f : Forest → M S Forest} {g : Walks S} (m : Forest → M S Bool) → SimF f g → SimR (λ ts. f ts >>= λ us. m us >>= λ b. iff b (ret nil) (ret us)) (λ n i. g n i >>= λ j. act_f m n i >>= λ b. iff b (cut i j) (ret (n, j)))
  sim_r-cut {f} {g} m h = record {
    run = λ pre post s ts. carry-then-with (λ us. length_f us ≡ length_f ts) _ _ _ _ (λ us. m us >>= λ b. iff b (ret nil) (ret us)) _ (f ts s) (h.size s ts) (h.run pre post s ts)
        (λ s₁ us q. rw (← q, forest-here us pre post s₁) (carry-then (λ s₂ b. at pre (flats us post) s₂) (λ b. b) _ _ (λ b. iff b (ret nil) (ret us)) _ (m us s₁) refl (λ s₂ b. go pre post us s₂ b)));
  }
    where
      go : (pre post : List Core) (us : Forest) (s : S) (b : Bool) → iff b (cut (length pre) (length (pasts us pre))) (ret (length_f us, length (pasts us pre))) (at pre (flats us post) s) ≡ land_r pre post (iff b (ret nil) (ret us) s)
      go pre post us s true = rw (length-pasts us pre, take-onto pre (flats us post), drops-here us pre post, onto-append pre post) refl
      go pre post us s false = refl

  pub sim_r-same : {f : Forest → M S Forest} {g : Walks S} → SimF f g → SimR f (same g)
  sim_r-same {f} {g} h = record { run = λ pre post s ts. rw (h.run pre post s ts) (go pre post (length_f ts) (f ts s) (h.size s ts)) }
    where
      go : (pre post : List Core) (n : ℕ) (r : Res S Forest) → Ends (λ us. length_f us ≡ n) r → and_then (land_f pre post r) (λ j. ret (n, j)) ≡ land_r pre post r
      go pre post n (stop m) q = refl
      go pre post n (done s us) q = rw q refl

  pub sim_r-as : {f f₁ : Forest → M S Forest} {g : ReWalks S} → ((ts : Forest) (s : S) → f₁ ts s ≡ f ts s) → SimR f g → SimR f₁ g
  sim_r-as e h = record { run = λ pre post s ts. rw (e ts s) (h.run pre post s ts) }

  pub sim_r-then : {f k : Forest → M S Forest} {f' : Walks S} {k' : ReWalks S} → SimF f f' → SimR k k' → SimR (λ ts. f ts >>= k) (λ n i. f' n i >>= λ j. k' n i)
  sim_r-then {f} {k} {f'} {k'} h e = record {
    run = λ pre post s ts. carry-then-with (λ us. length_f us ≡ length_f ts) _ _ _ _ k (λ j. k' (length_f ts) (length pre)) (f ts s) (h.size s ts) (h.run pre post s ts)
        (λ s₁ us q. rw (← q) (e.run pre post s₁ us));
  }

  pub sim_r-act : {A : Type 0} (m : Forest → M S A) {f : A → Forest → M S Forest} {g : A → ReWalks S} → ((a : A) → SimR (f a) (g a)) → SimR (λ ts. m ts >>= λ a. f a ts) (λ n i. act_f m n i >>= λ a. g a n i)
  sim_r-act m {f} {g} h = record {
    run = λ pre post s ts. rw (forest-here ts pre post s) (carry-then (λ s₁ a. at pre (flats ts post) s₁) (λ a. a) _ _ (λ a. f a ts) (λ a. g a (length_f ts) (length pre)) (m ts s) refl (λ s₁ a. (h a).run pre post s₁ ts));
  }

  pub sim_r-ask : {B : Type 0} (q : S → Forest → B) {f : B → Forest → M S Forest} {g : B → ReWalks S} → ((b : B) → SimR (f b) (g b)) → SimR (λ ts s. f (q s ts) ts s) (λ n i st. g (q st.rest (forest_at st n i)) n i st)
  sim_r-ask q h = record { run = λ pre post s ts. rw (forest-here ts pre post s) ((h (q s ts)).run pre post s ts) }

  pub sim_r-if : {f g : Forest → M S Forest} {f' g' : ReWalks S} (b : Bool) → SimR f f' → SimR g g' → SimR (λ ts. iff b (f ts) (g ts)) (λ n i. iff b (f' n i) (g' n i))
  sim_r-if true h k = record { run = h.run }
  sim_r-if false h k = record { run = k.run }

  module _ {f : Tree → M S Tree} {g : Walk S} (h : Sim f g) {k : Forest → M S Forest} {k' : ReWalks S} (e : SimR k k') where
    split_r-run : (pre post : List Core) (s : S) (ts : Forest) → split_r g k' (length_f ts) (length pre) (at pre (flats ts post) s) ≡ land_r pre post (split f k ts s)
    split_r-run pre post s nil = refl
    split_r-run pre post s (cons t ts) =
        carry-then (λ s t. at pre (flat t (flats ts post)) s) (λ t. length (past t pre)) _ _ (λ t₁ s₁. and_then (k ts s₁) (λ us s₂. done s₂ (cons t₁ us))) _ (f t s) (h.run pre (flats ts post) s t)
        (λ s₁ t₁. rw (at-past t₁ pre (flats ts post) s₁) (carry-then _ _ _ _ (λ us s₂. done s₂ (cons t₁ us)) _ (k ts s₁) (e.run (past t₁ pre) post s₁ ts)
        (λ s₂ us. rw (at-past t₁ pre (flats us post) s₂) refl)))

    pub sim_r-split : SimR (split f k) (split_r g k')
    sim_r-split = record { run = split_r-run }

  -- the trees are walked, and then, if `m` says so, the first one is taken out
  pub sim_r-cut_first : {f : Forest → M S Forest} {g : Walks S} (m : Forest → M S Bool) → SimF f g → SimR (λ ts. f ts >>= λ us. m us >>= λ b. iff b (ret (tail_f us)) (ret us)) (λ n i. g n i >>= λ j. act_f m n i >>= λ b. iff b (cut_first n i j) (ret (n, j)))
  sim_r-cut_first {f} {g} m h = record {
    run = λ pre post s ts. carry-then-with (λ us. length_f us ≡ length_f ts) _ _ _ _ (λ us. m us >>= λ b. iff b (ret (tail_f us)) (ret us)) _ (f ts s) (h.size s ts) (h.run pre post s ts)
        (λ s₁ us q. rw (← q, forest-here us pre post s₁) (carry-then (λ s₂ b. at pre (flats us post) s₂) (λ b. b) _ _ (λ b. iff b (ret (tail_f us)) (ret us)) _ (m us s₁) refl (λ s₂ b. go pre post us s₂ b)));
  }
    where
      less : (pre : List Core) (t : Tree) (ts : Forest) → length (pasts (cons t ts) pre) - count t ≡ length (pasts ts pre)
      less pre t ts = omega (arith, length-pasts (cons t ts) pre, length-pasts ts pre)

      go : (pre post : List Core) (us : Forest) (s : S) (b : Bool) → iff b (cut_first (length_f us) (length pre) (length (pasts us pre))) (ret (length_f us, length (pasts us pre))) (at pre (flats us post) s) ≡ land_r pre post (iff b (ret (tail_f us)) (ret us) s)
      go pre post nil s true = refl
      go pre post (cons t ts) s true = rw (tree-here t pre (flats ts post) s, take-onto pre (flat t (flats ts post)), drop_here t pre (flats ts post), less pre t ts, onto-append pre (flats ts post)) refl
      go pre post us s false = refl
