-- The loop that flags: what stands before the next node is done, and the trees from there on are as they were. Assumes nothing.
use mathlib.Core.Path.{◌≡◌, refl, sym, ap, ap₂, ◌∙◌}
use mathlib.Core.Bool.{Bool, true, false, ◌&&◌, ◌||◌}
use mathlib.Core.Logic.{◌⊎◌, ⊎_elim}
use mathlib.Core.List.{List, [], ◌∷◌, ◌++◌, append_assoc}
use Prim.Native.Nat.{ℕ, zero, suc, ◌+◌, ◌-◌, ◌≤◌}
use native.Mathlib.Omega.{arith}
use borrow.Author.Tests.{eq-eqb, ne_eqb}
use lib.Dec.{eqb}
use lib.ListN.{length, take, drop, length-append}
use lib.Seq.{take_at, drop_at, drop-drop, length-take-le}
use Rattle.def_tree.specs.Base.{pick, to_nat}
use Rattle.def_tree.specs.Tree.{Tree, Forest, node, nil, cons, length_f, count, counts, Core, core, flat, flats, take_f, drop_f, plant}
use Rattle.def_tree.proofs.Place.{append_f, plant-flats, drop-flats, take-append_f}
use Rattle.def_tree.proofs.Whole.{Whole, length-append_f, length-take_f, length-drop_f, flats-take-drop}
use Rattle.def_pass.specs.Twice.{is_function, is_named, twice, flag, flags, flag_named}
use Rattle.laws_flat.specs.PassF.{some! }
use Rattle.words_nodes.specs.Nodes.{forest_from}
use Rattle.words_nodes.proofs.Loops.{Open}
use Rattle.words_nodes.proofs.Trees.{counts-append, length-flat}
use Rattle.words_twice.specs.Twice.{outside, Stand, flag_node, flagged_from}
use Rattle.words_twice.proofs.Places.{split-trees, counts-take-drop}

-- trees in their place, behind p and before z
module _ (p : List Core) (ts : Forest) (z : List Core) where
  abbrev xs : List Core
  xs = p ++ flats ts z

  module _ {at : ℕ} (l : length p ≡ at) where
    behind-p : drop at xs ≡ flats ts z
    behind-p = drop_at p (flats ts z) at l

    pub place-forest : {n : ℕ} → length_f ts ≡ n → forest_from xs n at ≡ ts
    unfolding forest_from
    place-forest {n} e = ap (take_f n) (ap plant behind-p ∙ plant-flats ts z) ∙ ap (λ (k : ℕ). take_f k (append_f ts (plant z))) (sym e) ∙ take-append_f ts (plant z)

    pub place-behind : drop (at + counts ts) xs ≡ z
    place-behind = sym (drop-drop (counts ts) at xs) ∙ ap (drop (counts ts)) behind-p ∙ drop-flats ts z

    pub place-flagged : (b : ℕ → Bool) {n : ℕ} → length_f ts ≡ n → flagged_from b xs n at ≡ p ++ flats (flags b ts) z
    unfolding flagged_from
    place-flagged b {n} e =
        let q : forest_from xs n at ≡ ts = place-forest e in
        ap₂ {C = List Core} (λ (us : List Core) (vs : Forest). us ++ flats (flags b vs) (drop (at + counts vs) xs)) (take_at p (flats ts z) at l) q
        ∙ ap (λ (us : List Core). p ++ flats (flags b ts) us) place-behind

    pub place-open : {n : ℕ} → length_f ts ≡ n → Open xs at n
    place-open e = record { trees = rw (behind-p, plant-flats ts z) (omega (arith, length-append_f ts (plant z), e)) }

-- forests end to end
flags-append : (b : ℕ → Bool) (ts us : Forest) → flags b (append_f ts us) ≡ append_f (flags b ts) (flags b us)
flags-append b nil us = refl
flags-append b (cons t ts) us = ap (cons (flag b t)) (flags-append b ts us)

flats-append_f : (ts us : Forest) (z : List Core) → flats (append_f ts us) z ≡ flats ts (flats us z)
flats-append_f nil us z = refl
flats-append_f (cons t ts) us z = ap (flat t) (flats-append_f ts us z)

mutual
  flat-end : (t : Tree) (z : List Core) → flat t z ≡ flat t [] ++ z
  flat-end (node k f a ts) z = ap (λ (l : List Core). core k f (length_f ts) a ∷ l) (flats-end ts z)

  flats-end : (ts : Forest) (z : List Core) → flats ts z ≡ flats ts [] ++ z
  flats-end nil z = refl
  flats-end (cons t ts) z = flat-end t (flats ts z) ∙ ap (λ (l : List Core). flat t [] ++ l) (flats-end ts z) ∙ sym (append_assoc (flat t []) (flats ts []) z) ∙ ap (λ (l : List Core). l ++ z) (sym (flat-end t (flats ts [])))

length-flats : (ts : Forest) → length (flats ts []) ≡ counts ts
length-flats ts = omega (arith, length-flat (node 0 0 0 ts) [])

-- as many nodes as before
length-flags : (b : ℕ → Bool) (ts : Forest) → length_f (flags b ts) ≡ length_f ts
length-flags b nil = refl
length-flags b (cons t ts) = ap suc (length-flags b ts)

mutual
  pub count-flag : (b : ℕ → Bool) (t : Tree) → count (flag b t) ≡ count t
  count-flag b (node k f a ts) = ap suc (go (is_function k) (is_named k f) (counts-named b ts) (counts-flags (twice ts) ts) (counts-flags b ts))
    where
      go : (p q : Bool) → counts (flag_named b ts) ≡ counts ts → counts (flags (twice ts) ts) ≡ counts ts → counts (flags b ts) ≡ counts ts
          → counts (elim p as (λ x. Forest) [ true ↦ elim q as (λ x. Forest) [ true ↦ flag_named b ts | false ↦ flags (twice ts) ts ] | false ↦ flags b ts ]) ≡ counts ts
      go true true c d e = c
      go true false c d e = d
      go false q c d e = e

  pub counts-flags : (b : ℕ → Bool) (ts : Forest) → counts (flags b ts) ≡ counts ts
  counts-flags b nil = refl
  counts-flags b (cons t ts) = ap₂ {C = ℕ} (λ (m n : ℕ). m + n) (count-flag b t) (counts-flags b ts)

  counts-named : (b : ℕ → Bool) (ts : Forest) → counts (flag_named b ts) ≡ counts ts
  counts-named b nil = refl
  counts-named b (cons t ts) = ap₂ {C = ℕ} (λ (m n : ℕ). m + n) (count-flag b t) (counts-flags (twice ts) ts)

-- a node that is no function: it is flagged by itself, and its children with what follows
flag-open : (b : ℕ → Bool) (k f a : ℕ) (ts : Forest) → is_function k ≡ false → flag b (node k f a ts) ≡ node k (pick (eqb k 20 && b a) (f + 2) f) a (flags b ts)
flag-open b k f a ts e = ap (λ (p : Bool). node k (pick (eqb k 20 && b a) (f + 2) f) a (elim p as (λ x. Forest) [ true ↦ elim (is_named k f) as (λ x. Forest) [ true ↦ flag_named b ts | false ↦ flags (twice ts) ts ] | false ↦ flags b ts ])) e

-- a function: its name by the test outside, the rest by its own
abbrev inner : (ℕ → Bool) → ℕ → Forest → Forest
inner b n ts = append_f (flags b (take_f n ts)) (flags (twice (drop_f n ts)) (drop_f n ts))

no-binding : (k : ℕ) → is_function k ≡ true → eqb k 20 ≡ false
no-binding k e = ne_eqb k 20 (λ q. let y : is_function 20 ≡ true = rw q at e in differ y)
  where
    differ : false ≡ true → ⊥
    differ q = let y : ◌≡◌ {A = ℕ} 0 1 = cc in omega arith

kids-named : (b : ℕ → Bool) (us : Forest) → flag_named b us ≡ inner b (to_nat (some! (length_f us))) us
kids-named b nil = refl
kids-named b (cons u us) = refl

flag-shut : (b : ℕ → Bool) (k f a : ℕ) (ts : Forest) → is_function k ≡ true → flag b (node k f a ts) ≡ node k f a (inner b (outside k f (length_f ts)) ts)
flag-shut b k f a ts e =
    ap (λ (p : Bool). node k (pick (eqb k 20 && b a) (f + 2) f) a (elim p as (λ x. Forest) [ true ↦ elim (is_named k f) as (λ x. Forest) [ true ↦ flag_named b ts | false ↦ flags (twice ts) ts ] | false ↦ flags b ts ])) e
    ∙ ap (λ (p : Bool). node k (pick (p && b a) (f + 2) f) a (elim (is_named k f) as (λ x. Forest) [ true ↦ flag_named b ts | false ↦ flags (twice ts) ts ])) (no-binding k e)
    ∙ ap (node k f a) (go (is_named k f))
  where
    go : (q : Bool) → elim q as (λ x. Forest) [ true ↦ flag_named b ts | false ↦ flags (twice ts) ts ] ≡ inner b (pick q (to_nat (some! (length_f ts))) 0) ts
    go true = kids-named b ts
    go false = refl

pub outside-le : (k f c : ℕ) → outside k f c ≤ c
outside-le k f c = go (is_named k f) c
  where
    go : (q : Bool) (c : ℕ) → pick q (to_nat (some! c)) 0 ≤ c
    go true zero = omega arith
    go true (suc c) = omega arith
    go false c = omega arith

module _ (k f c : ℕ) where
  pub outside-none : c ≡ 0 → outside k f c ≡ 0
  outside-none e = ap (λ (m : ℕ). outside k f m) e ∙ go (is_named k f)
    where
      go : (q : Bool) → pick {A = ℕ} q 0 0 ≡ 0
      go true = refl
      go false = refl

  one : (c ≡ 0 → ⊥) → to_nat (some! c) ≡ 1
  one h = go c h
    where
      go : (m : ℕ) → (m ≡ 0 → ⊥) → to_nat (some! m) ≡ 1
      go zero h = absurd (h refl)
      go (suc m) h = refl

  pub outside-7 : (c ≡ 0 → ⊥) → k ≡ 7 → outside k f c ≡ 1
  outside-7 h e = ap (λ (q : Bool). pick q (to_nat (some! c)) 0) (ap (λ (q : Bool). q || (eqb k 39 && eqb f 1)) (eq-eqb k 7 e)) ∙ one h

  pub outside-39 : (c ≡ 0 → ⊥) → k ≡ 39 → f ≡ 1 → outside k f c ≡ 1
  outside-39 h e d = ap (λ (q : Bool). pick q (to_nat (some! c)) 0) (ap₂ {C = Bool} (λ (j g : ℕ). is_named j g) e d) ∙ one h

  pub outside-not : (k ≡ 7 → ⊥) → (k ≡ 39 → ⊥) ⊎ (f ≡ 1 → ⊥) → outside k f c ≡ 0
  outside-not h o = ap (λ (q : Bool). pick q (to_nat (some! c)) 0) (ap (λ (q : Bool). q || (eqb k 39 && eqb f 1)) (ne_eqb k 7 h) ∙ ⊎_elim (λ (d : k ≡ 39 → ⊥). ap (λ (q : Bool). q && eqb f 1) (ne_eqb k 39 d)) (λ (d : f ≡ 1 → ⊥). ap (λ (q : Bool). eqb k 39 && q) (ne_eqb f 1 d) ∙ no (eqb k 39)) o)
    where
      no : (q : Bool) → (q && false) ≡ false
      no true = refl
      no false = refl

-- what is left to do of the trees that end at e
pub record Left (b : ℕ → Bool) (goal : List Core) (e : ℕ) (ys : List Core) (at more : ℕ) : Type 0 where
  pub before : List Core
  pub trees : Forest
  pub after : List Core
  pub here : ys ≡ before ++ flats trees after
  pub long : length before ≡ at
  pub many : length_f trees ≡ more
  pub ends : at + counts trees ≡ e
  pub goes : before ++ flats (flags b trees) after ≡ goal

pub left-start : (b : ℕ → Bool) (xs : List Core) (n i : ℕ) → Whole xs → Stand xs i n → Left b (flagged_from b xs n i) (i + counts (forest_from xs n i)) xs i n
unfolding flagged_from forest_from
left-start b xs n i w s = record {
  before = take i xs;
  trees = forest_from xs n i;
  after = drop (i + counts (forest_from xs n i)) xs;
  here = sym (split-trees xs n i w);
  long = length-take-le i xs s.inside;
  many = length-take_f n (plant (drop i xs)) s.trees;
  ends = refl;
  goes = refl;
}

pub left-all : {b : ℕ → Bool} {goal : List Core} {e : ℕ} {ys : List Core} {at more : ℕ} → Left b goal e ys at more → more ≡ 0 → (at ≡ e) × (ys ≡ goal)
left-all {b} {goal} {e} {ys} {at} L z = go L.trees (L.many ∙ z) L.here L.ends L.goes
  where
    go : (ts : Forest) → length_f ts ≡ 0 → ys ≡ L.before ++ flats ts L.after → at + counts ts ≡ e → L.before ++ flats (flags b ts) L.after ≡ goal → (at ≡ e) × (ys ≡ goal)
    go nil l h n g = (omega arith, h ∙ g)
    go (cons t ts) l h n g = absurd (omega arith)

pub left_open : {b : ℕ → Bool} {goal : List Core} {e : ℕ} {ys : List Core} {at more : ℕ} → Left b goal e ys at more → Open ys at more
left_open L = rw L.here (place-open L.before L.trees L.after L.long L.many)

-- the next node, its children and what follows them
module _ (b : ℕ → Bool) (p : List Core) (k f a : ℕ) (us vs : Forest) (z : List Core) where
  abbrev x : Core
  x = core k f (length_f us) a

  abbrev q : List Core
  q = p ++ (x ∷ [])

  abbrev Z : List Core
  Z = flats vs z

  abbrev W : List Core
  W = flats (flags b vs) z

  module _ {at : ℕ} (l : length p ≡ at) where
    long-one : (c : Core) → length (p ++ (c ∷ [])) ≡ at + 1
    long-one c = length-append p (c ∷ []) ∙ omega arith

    pub in_step : {goal : List Core} {e more : ℕ} → suc (length_f vs) ≡ more → at + (suc (counts us) + counts vs) ≡ e → p ++ flats (flags b (cons (node k f a us) vs)) z ≡ goal → is_function k ≡ false
        → Left b goal e (p ++ (flag_node b x ∷ flats us Z)) (at + 1) (more - 1 + length_f us)
    in_step {goal} m n g h =
        let c : Core = flag_node b x in
        let flagged : flat (flag b (node k f a us)) W ≡ c ∷ flats (flags b us) W =
        ap (λ (t : Tree). flat t W) (flag-open b k f a us h) ∙ ap (λ (m : ℕ). core k (pick (eqb k 20 && b a) (f + 2) f) m a ∷ flats (flags b us) W) (length-flags b us) in
        let both : flats (flags b (append_f us vs)) z ≡ flats (flags b us) W = ap (λ (ts : Forest). flats ts z) (flags-append b us vs) ∙ flats-append_f (flags b us) (flags b vs) z in
        record {
          before = p ++ (c ∷ []);
          trees = append_f us vs;
          after = z;
          here = ap (λ (r : List Core). p ++ (c ∷ r)) (sym (flats-append_f us vs z)) ∙ sym (append_assoc p (c ∷ []) (flats (append_f us vs) z));
          long = long-one c;
          many = length-append_f us vs ∙ omega (arith, m);
          ends = omega (arith, counts-append us vs, n);
          goes = append_assoc p (c ∷ []) (flats (flags b (append_f us vs)) z) ∙ ap (λ (r : List Core). p ++ (c ∷ r)) both ∙ ap (λ (r : List Core). p ++ r) (sym flagged) ∙ g;
        }

    -- a function: first its name, then the rest of it
    abbrev n : ℕ
    n = outside k f (length_f us)

    abbrev u₁ : Forest
    u₁ = take_f n us

    abbrev u₂ : Forest
    u₂ = drop_f n us

    abbrev ys : List Core
    ys = p ++ (x ∷ flats us Z)

    many₁ : length_f u₁ ≡ n
    many₁ = length-take_f n us (outside-le k f (length_f us))

    many₂ : length_f u₂ ≡ length_f us - n
    many₂ = length-drop_f n us

    first-place : ys ≡ q ++ flats u₁ (flats u₂ Z)
    first-place = ap (λ (r : List Core). p ++ (x ∷ r)) (sym (flats-take-drop n us Z)) ∙ sym (append_assoc p (x ∷ []) (flats u₁ (flats u₂ Z)))

    first-forest : forest_from ys n (at + 1) ≡ u₁
    first-forest = ap (λ (r : List Core). forest_from r n (at + 1)) first-place ∙ place-forest q u₁ (flats u₂ Z) (long-one x) many₁

    pub first-stand : Stand ys (at + 1) n
    first-stand = record { inside = omega (arith, length-append p (x ∷ flats us Z)); trees = rw first-place (place-open q u₁ (flats u₂ Z) (long-one x) many₁).trees }

    abbrev r₁ : ℕ
    r₁ = at + 1 + counts u₁

    abbrev q₁ : List Core
    q₁ = q ++ flats (flags b u₁) []

    long₁ : length q₁ ≡ r₁
    long₁ = length-append q (flats (flags b u₁) []) ∙ omega (arith, long-one x, length-flats (flags b u₁), counts-flags b u₁)

    -- the nodes once the name is done
    abbrev ys₁ : List Core
    ys₁ = q₁ ++ flats u₂ Z

    first_done : flagged_from b ys n (at + 1) ≡ ys₁
    first_done =
        ap (λ (r : List Core). flagged_from b r n (at + 1)) first-place ∙ place-flagged q u₁ (flats u₂ Z) (long-one x) b many₁
        ∙ ap (λ (r : List Core). q ++ r) (flats-end (flags b u₁) (flats u₂ Z)) ∙ sym (append_assoc q (flats (flags b u₁) []) (flats u₂ Z))

    second-forest : forest_from ys₁ (length_f us - n) r₁ ≡ u₂
    second-forest = place-forest q₁ u₂ Z long₁ many₂

    second-stand : Stand ys₁ r₁ (length_f us - n)
    second-stand = record { inside = omega (arith, length-append q₁ (flats u₂ Z), long₁); trees = (place-open q₁ u₂ Z long₁ many₂).trees }

    abbrev q₂ : List Core
    q₂ = q₁ ++ flats (flags (twice u₂) u₂) []

    second-done : flagged_from (twice u₂) ys₁ (length_f us - n) r₁ ≡ q₂ ++ Z
    second-done = place-flagged q₁ u₂ Z long₁ (twice u₂) many₂ ∙ ap (λ (r : List Core). q₁ ++ r) (flats-end (flags (twice u₂) u₂) Z) ∙ sym (append_assoc q₁ (flats (flags (twice u₂) u₂) []) Z)

    past-step : {goal : List Core} {e more : ℕ} → suc (length_f vs) ≡ more → at + (suc (counts us) + counts vs) ≡ e → p ++ flats (flags b (cons (node k f a us) vs)) z ≡ goal → is_function k ≡ true
        → Left b goal e (flagged_from (twice u₂) ys₁ (length_f us - n) r₁) (r₁ + counts u₂) (more - 1)
    past-step {goal} m e g h =
        let A : Forest = flags b u₁ in
        let B : Forest = flags (twice u₂) u₂ in
        let long : length_f (append_f A B) ≡ length_f us = length-append_f A B ∙ omega (arith, length-flags b u₁, length-flags (twice u₂) u₂, many₁, many₂, outside-le k f (length_f us)) in
        let flagged : flat (flag b (node k f a us)) W ≡ x ∷ flats A (flats B W) =
        ap (λ (t : Tree). flat t W) (flag-shut b k f a us h) ∙ ap (λ (m : ℕ). core k f m a ∷ flats (append_f A B) W) long ∙ ap (λ (r : List Core). x ∷ r) (flats-append_f A B W) in
        record {
          before = q₂;
          trees = vs;
          after = z;
          here = second-done;
          long = length-append q₁ (flats B []) ∙ omega (arith, long₁, length-flats B, counts-flags (twice u₂) u₂);
          many = omega (arith, m);
          ends = omega (arith, counts-take-drop n us, e);
          goes =
              append_assoc q₁ (flats B []) W ∙ ap (λ (r : List Core). q₁ ++ r) (sym (flats-end B W)) ∙ append_assoc q (flats A []) (flats B W) ∙ ap (λ (r : List Core). q ++ r) (sym (flats-end A (flats B W)))
              ∙ append_assoc p (x ∷ []) (flats A (flats B W)) ∙ ap (λ (r : List Core). p ++ r) (sym flagged) ∙ g;
        }

    -- the same as the calls leave it
    module _ {xs₁ : List Core} {at₁ : ℕ} (d₁ : xs₁ ≡ flagged_from b ys n (at + 1)) (e₁ : at₁ ≡ at + 1 + counts (forest_from ys n (at + 1))) where
      nodes₁ : xs₁ ≡ ys₁
      nodes₁ = d₁ ∙ first_done

      place₁ : at₁ ≡ r₁
      place₁ = e₁ ∙ ap (λ (ts : Forest). at + 1 + counts ts) first-forest

      pub body-stand : Stand xs₁ at₁ (length_f us - n)
      body-stand = rw (nodes₁, place₁) second-stand

      pub past-done : {xs₂ : List Core} {at₂ : ℕ} → xs₂ ≡ flagged_from (twice (forest_from xs₁ (length_f us - n) at₁)) xs₁ (length_f us - n) at₁ → at₂ ≡ at₁ + counts (forest_from xs₁ (length_f us - n) at₁)
          → {goal : List Core} {e more : ℕ} → suc (length_f vs) ≡ more → at + (suc (counts us) + counts vs) ≡ e → p ++ flats (flags b (cons (node k f a us) vs)) z ≡ goal → is_function k ≡ true → Left b goal e xs₂ at₂ (more - 1)
      past-done {xs₂} {at₂} d₂ e₂ m e g h =
          let same : forest_from xs₁ (length_f us - n) at₁ ≡ u₂ = ap₂ {C = Forest} (λ (xs : List Core) (j : ℕ). forest_from xs (length_f us - n) j) nodes₁ place₁ ∙ second-forest in
          let nodes₂ : xs₂ ≡ flagged_from (twice u₂) ys₁ (length_f us - n) r₁ =
          d₂ ∙ ap (λ (ts : Forest). flagged_from (twice ts) xs₁ (length_f us - n) at₁) same ∙ ap₂ {C = List Core} (λ (xs : List Core) (j : ℕ). flagged_from (twice u₂) xs (length_f us - n) j) nodes₁ place₁ in
          let place₂ : at₂ ≡ r₁ + counts u₂ = e₂ ∙ ap₂ {C = ℕ} (λ (j : ℕ) (ts : Forest). j + counts ts) place₁ same in
          rw (nodes₂, place₂) (past-step m e g h)
