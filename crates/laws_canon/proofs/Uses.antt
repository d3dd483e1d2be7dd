-- Numbers in the order of first use, and where one stands among them. Assumes nothing.
use mathlib.Core.Path.{◌≡◌, refl, sym, ap, ap₂, ◌∙◌, subst}
use mathlib.Core.Bool.{Bool, true, false, ◌&&◌, ◌||◌, not}
use mathlib.Core.List.{List, [], ◌∷◌, ◌++◌, map}
use Prim.Native.Nat.{ℕ, zero, suc, ◌+◌, ◌≤◌, ◌<◌}
use native.Mathlib.Omega.{arith}
use lib.Dec.{T, eqb, eqb_refl}
use lib.ListN.{length, get_or, length-append}
use borrow.Author.Tests.{eqb-true, eqb-false, eq-eqb, ne_eqb, clash}
use Rattle.def_tree.specs.Base.{pick, member}
use Rattle.def_file.specs.declared.Raw.{Raw}
use Rattle.def_file.specs.Script.{zero_node}
use Rattle.def_tree.proofs.Tests.{is_T, or_left, or_right}
use Rattle.laws_pass.proofs.All.{All, all_append}
use Rattle.def_canon.specs.Canon.{first_use, first_uses, index_of}

-- a member, and one more
member-snoc : (i : ℕ) (ns : List ℕ) (n : ℕ) → member i (ns ++ (n ∷ [])) ≡ (member i ns || eqb i n)
member-snoc i [] n = go (eqb i n)
  where
    go : (p : Bool) → elim p as (λ x. Bool) [ true ↦ true | false ↦ false ] ≡ p
    go true = refl
    go false = refl
member-snoc i (k ∷ ns) n = go (eqb i k) (member-snoc i ns n)
  where
    go : (p : Bool) → member i (ns ++ (n ∷ [])) ≡ (member i ns || eqb i n) → elim p as (λ x. Bool) [ true ↦ true | false ↦ member i (ns ++ (n ∷ [])) ] ≡ (elim p as (λ x. Bool) [ true ↦ true | false ↦ member i ns ] || eqb i n)
    go true h = refl
    go false h = h

-- where a number stands
pub index-le : (n : ℕ) (ns : List ℕ) → index_of n ns ≤ length ns
index-le n [] = omega arith
index-le n (m ∷ ms) = go (eqb n m) (index-le n ms)
  where
    go : (p : Bool) → index_of n ms ≤ length ms → elim p as (λ x. ℕ) [ true ↦ 0 | false ↦ suc (index_of n ms) ] ≤ suc (length ms)
    go true h = omega arith
    go false h = omega (arith, h)

pub index-lt : (n : ℕ) (ns : List ℕ) → T (member n ns) → index_of n ns < length ns
index-lt n [] t = absurd t
index-lt n (m ∷ ms) t = go (eqb n m) t (index-lt n ms)
  where
    go : (p : Bool) → T (elim p as (λ x. Bool) [ true ↦ true | false ↦ member n ms ]) → (T (member n ms) → index_of n ms < length ms) → elim p as (λ x. ℕ) [ true ↦ 0 | false ↦ suc (index_of n ms) ] < suc (length ms)
    go true t h = omega arith
    go false t h = (let l = h t in omega (arith, l))

-- it stands there, also in what is made of the numbers
pub index_is : {A : Type 0} (f : ℕ → A) (d : A) (n : ℕ) (ns : List ℕ) → T (member n ns) → get_or (map f ns) (index_of n ns) d ≡ f n
index_is f d n [] t = absurd t
index_is f d n (m ∷ ms) t = go (eqb n m) refl t (index_is f d n ms)
  where
    go : (p : Bool) → eqb n m ≡ p → T (elim p as (λ x. Bool) [ true ↦ true | false ↦ member n ms ]) → (T (member n ms) → get_or (map f ms) (index_of n ms) d ≡ f n) → get_or (f m ∷ map f ms) (elim p as (λ x. ℕ) [ true ↦ 0 | false ↦ suc (index_of n ms) ]) d ≡ f n
    go true e t h = ap f (sym (eqb-true n m e))
    go false e t h = h t

pub index-eqb : (m n : ℕ) (ns : List ℕ) → T (member m ns) → T (member n ns) → eqb m n ≡ eqb (index_of m ns) (index_of n ns)
index-eqb m n ns t u = go (eqb m n) refl
  where
    there : (k : ℕ) → T (member k ns) → get_or (map (λ (i : ℕ). i) ns) (index_of k ns) 0 ≡ k
    there k = index_is (λ (i : ℕ). i) 0 k ns

    go : (p : Bool) → eqb m n ≡ p → p ≡ eqb (index_of m ns) (index_of n ns)
    go true e = sym (eq-eqb (index_of m ns) (index_of n ns) (ap (λ (k : ℕ). index_of k ns) (eqb-true m n e)))
    go false e = sym (ne_eqb (index_of m ns) (index_of n ns) (λ q. eqb-false m n e (sym (there m t) ∙ ap (λ (i : ℕ). get_or (map (λ (k : ℕ). k) ns) i 0) q ∙ there n u)))

-- no number stands twice
abbrev pub Lone : List ℕ → Type 0
Lone [] = Unit {0}
Lone (n ∷ ns) = (member n ns ≡ false) × Lone ns

lone-snoc : (ns : List ℕ) (n : ℕ) → Lone ns → member n ns ≡ false → Lone (ns ++ (n ∷ []))
lone-snoc [] n h e = (refl, tt)
lone-snoc (k ∷ ns) n h e = go (eqb n k) refl e (lone-snoc ns n h.1)
  where
    go : (p : Bool) → eqb n k ≡ p → elim p as (λ x. Bool) [ true ↦ true | false ↦ member n ns ] ≡ false → (member n ns ≡ false → Lone (ns ++ (n ∷ []))) → (member k (ns ++ (n ∷ [])) ≡ false) × Lone (ns ++ (n ∷ []))
    go true q e f = absurd (clash (sym e))
    go false q e f = (member-snoc k ns n ∙ ap₂ ◌||◌ h.0 (ne_eqb k n (λ r. eqb-false n k q (sym r))), f e)

module _ (has : Raw → Bool) (of : Raw → ℕ) where
  -- what was used stays there
  kept-one : (m : ℕ) (ns : List ℕ) (x : Raw) → T (member m ns) → T (member m (first_use has of ns x))
  kept-one m ns x t = go (has x && not (member (of x) ns))
    where
      go : (p : Bool) → T (member m (pick p (ns ++ (of x ∷ [])) ns))
      go true = subst T (sym (member-snoc m ns (of x))) (or_left (member m ns) (eqb m (of x)) t)
      go false = t

  kept : (m : ℕ) (ns : List ℕ) (xs : List Raw) → T (member m ns) → T (member m (first_uses has of ns xs))
  unfolding first_uses
  kept m ns [] t = t
  kept m ns (x ∷ xs) t = kept m (first_use has of ns x) xs (kept-one m ns x t)

  now : (ns : List ℕ) (x : Raw) → T (has x) → T (member (of x) (first_use has of ns x))
  now ns x t = go (has x) t (member (of x) ns) refl
    where
      go : (p : Bool) → T p → (q : Bool) → member (of x) ns ≡ q → T (member (of x) (pick (p && not q) (ns ++ (of x ∷ [])) ns))
      go true t true e = is_T _ e
      go true t false e = subst T (sym (member-snoc (of x) ns (of x))) (or_right (member (of x) ns) (eqb (of x) (of x)) (eqb_refl (of x)))
      go false t q e = absurd t

  -- each node's number is there
  pub all-used : (ns : List ℕ) (xs : List Raw) → All (λ (x : Raw). T (has x) → T (member (of x) (first_uses has of ns xs))) xs
  unfolding first_uses
  all-used ns [] = tt
  all-used ns (x ∷ xs) = ((λ t. kept (of x) (first_use has of ns x) xs (now ns x t)), all-used (first_use has of ns x) xs)

  -- each once
  pub uses-lone : (ns : List ℕ) (xs : List Raw) → Lone ns → Lone (first_uses has of ns xs)
  unfolding first_uses
  uses-lone ns [] h = h
  uses-lone ns (x ∷ xs) h = uses-lone (first_use has of ns x) xs (go (has x) (member (of x) ns) refl)
    where
      go : (p q : Bool) → member (of x) ns ≡ q → Lone (pick (p && not q) (ns ++ (of x ∷ [])) ns)
      go true true e = h
      go true false e = lone-snoc ns (of x) h e
      go false q e = h

  -- no more than nodes, and nothing but what nodes have
  pub uses-few : (ns : List ℕ) (xs : List Raw) → length (first_uses has of ns xs) ≤ length ns + length xs
  unfolding first_uses
  uses-few ns [] = omega arith
  uses-few ns (x ∷ xs) = (let l = uses-few (first_use has of ns x) xs in let k = one (has x && not (member (of x) ns)) in omega (arith, l, k))
    where
      one : (p : Bool) → length (pick p (ns ++ (of x ∷ [])) ns) ≤ suc (length ns)
      one true = omega (arith, length-append ns (of x ∷ []))
      one false = omega arith

  pub uses-all : (P : ℕ → Type 0) (ns : List ℕ) (xs : List Raw) → All P ns → All (λ (x : Raw). T (has x) → P (of x)) xs → All P (first_uses has of ns xs)
  unfolding first_uses
  uses-all P ns [] h k = h
  uses-all P ns (x ∷ xs) h k = uses-all P (first_use has of ns x) xs (go (has x) (member (of x) ns) k.0) k.1
    where
      go : (p q : Bool) → (T p → P (of x)) → All P (pick (p && not q) (ns ++ (of x ∷ [])) ns)
      go true true f = h
      go true false f = all_append P ns (of x) h (f tt)
      go false q f = h

-- two lists of one length, whose elements are in a relation
abbrev pub AllZip : {A B : Type 0} → (A → B → Type 0) → List A → List B → Type 0
AllZip R [] [] = Unit {0}
AllZip R [] (y ∷ ys) = ⊥
AllZip R (x ∷ xs) [] = ⊥
AllZip R (x ∷ xs) (y ∷ ys) = R x y × AllZip R xs ys

-- nodes that both have a number, in a relation, or neither
pub record Mate (P : ℕ → ℕ → Type 0) (has : Raw → Bool) (of : Raw → ℕ) (x y : Raw) : Type 0 where
  pub both : has x ≡ has y
  pub pair : T (has x) → P (of x) (of y)

-- numbers of two scripts in a relation by which two are equal in one where their fellows are in the other
module _ (P : ℕ → ℕ → Type 0) (same : (x u y v : ℕ) → P x y → P u v → eqb x u ≡ eqb y v) where
  zip-member : (x y : ℕ) → P x y → (us vs : List ℕ) → AllZip P us vs → member x us ≡ member y vs
  zip-member x y p [] [] h = refl
  zip-member x y p [] (v ∷ vs) h = absurd h
  zip-member x y p (u ∷ us) [] h = absurd h
  zip-member x y p (u ∷ us) (v ∷ vs) h = ap₂ {C = Bool} (λ (q r : Bool). elim q as (λ z. Bool) [ true ↦ true | false ↦ r ]) (same x u y v p h.0) (zip-member x y p us vs h.1)

  pub zip-index : (x y : ℕ) → P x y → (us vs : List ℕ) → AllZip P us vs → index_of x us ≡ index_of y vs
  zip-index x y p [] [] h = refl
  zip-index x y p [] (v ∷ vs) h = absurd h
  zip-index x y p (u ∷ us) [] h = absurd h
  zip-index x y p (u ∷ us) (v ∷ vs) h = ap₂ {C = ℕ} (λ (q : Bool) (n : ℕ). elim q as (λ z. ℕ) [ true ↦ 0 | false ↦ suc n ]) (same x u y v p h.0) (zip-index x y p us vs h.1)

  zip-snoc : (x y : ℕ) → P x y → (us vs : List ℕ) → AllZip P us vs → AllZip P (us ++ (x ∷ [])) (vs ++ (y ∷ []))
  zip-snoc x y p [] [] h = (p, tt)
  zip-snoc x y p [] (v ∷ vs) h = absurd h
  zip-snoc x y p (u ∷ us) [] h = absurd h
  zip-snoc x y p (u ∷ us) (v ∷ vs) h = (h.0, zip-snoc x y p us vs h.1)

  module _ (has : Raw → Bool) (of : Raw → ℕ) where
    zip-use : (x y : Raw) → Mate P has of x y → (us vs : List ℕ) → AllZip P us vs → AllZip P (first_use has of us x) (first_use has of vs y)
    zip-use x y m us vs h = subst (λ (r : Bool). AllZip P (first_use has of us x) (pick (r && not (member (of y) vs)) (vs ++ (of y ∷ [])) vs)) m.both (go (has x) refl)
      where
        tested : (q : Bool) → P (of x) (of y) → AllZip P (pick q (us ++ (of x ∷ [])) us) (pick q (vs ++ (of y ∷ [])) vs)
        tested true p = zip-snoc (of x) (of y) p us vs h
        tested false p = h

        go : (p : Bool) → has x ≡ p → AllZip P (pick (p && not (member (of x) us)) (us ++ (of x ∷ [])) us) (pick (p && not (member (of y) vs)) (vs ++ (of y ∷ [])) vs)
        go true e =
            let p = m.pair (is_T (has x) e) in
            subst (λ (q : Bool). AllZip P (pick (not (member (of x) us)) (us ++ (of x ∷ [])) us) (pick (not q) (vs ++ (of y ∷ [])) vs)) (zip-member (of x) (of y) p us vs h) (tested (not (member (of x) us)) p)
        go false e = h

    pub zip-uses : (xs ys : List Raw) → AllZip (Mate P has of) xs ys → (us vs : List ℕ) → AllZip P us vs → AllZip P (first_uses has of us xs) (first_uses has of vs ys)
    unfolding first_uses
    zip-uses [] [] m us vs h = h
    zip-uses [] (y ∷ ys) m us vs h = absurd m
    zip-uses (x ∷ xs) [] m us vs h = absurd m
    zip-uses (x ∷ xs) (y ∷ ys) m us vs h = zip-uses xs ys m.1 (first_use has of us x) (first_use has of vs y) (zip-use x y m.0 us vs h)

-- lists of nodes, place for place
pub zip-ext : (R : Raw → Raw → Type 0) (xs ys : List Raw) → length xs ≡ length ys → ((i : ℕ) → i < length xs → R (get_or xs i zero_node) (get_or ys i zero_node)) → AllZip R xs ys
zip-ext R [] [] e h = tt
zip-ext R [] (y ∷ ys) e h = absurd (omega (arith, e))
zip-ext R (x ∷ xs) [] e h = absurd (omega (arith, e))
zip-ext R (x ∷ xs) (y ∷ ys) e h = (h 0 (omega arith), zip-ext R xs ys (omega (arith, e)) (λ i l. h (suc i) (omega (arith, l))))

pub zip-at : (R : Raw → Raw → Type 0) (xs ys : List Raw) → AllZip R xs ys → (i : ℕ) → i < length xs → R (get_or xs i zero_node) (get_or ys i zero_node)
zip-at R [] ys h i l = absurd (omega (arith, l))
zip-at R (x ∷ xs) [] h i l = absurd h
zip-at R (x ∷ xs) (y ∷ ys) h zero l = h.0
zip-at R (x ∷ xs) (y ∷ ys) h (suc i) l = zip-at R xs ys h.1 i (omega (arith, l))

pub zip-length : {A B : Type 0} (R : A → B → Type 0) (xs : List A) (ys : List B) → AllZip R xs ys → length xs ≡ length ys
zip-length R [] [] h = refl
zip-length R [] (y ∷ ys) h = absurd h
zip-length R (x ∷ xs) [] h = absurd h
zip-length R (x ∷ xs) (y ∷ ys) h = ap suc (zip-length R xs ys h.1)

pub zip-maps : {A B C : Type 0} (R : A → B → Type 0) (f : A → C) (g : B → C) → ((x : A) (y : B) → R x y → f x ≡ g y) → (xs : List A) (ys : List B) → AllZip R xs ys → map f xs ≡ map g ys
zip-maps R f g e [] [] h = refl
zip-maps R f g e [] (y ∷ ys) h = absurd h
zip-maps R f g e (x ∷ xs) [] h = absurd h
zip-maps {C = C} R f g e (x ∷ xs) (y ∷ ys) h = ap₂ {C = List C} (λ z zs. z ∷ zs) (e x y h.0) (zip-maps R f g e xs ys h.1)

pub zip-mono : {A B : Type 0} (R S : A → B → Type 0) → ((x : A) (y : B) → R x y → S x y) → (xs : List A) (ys : List B) → AllZip R xs ys → AllZip S xs ys
zip-mono R S f [] [] h = tt
zip-mono R S f [] (y ∷ ys) h = absurd h
zip-mono R S f (x ∷ xs) [] h = absurd h
zip-mono R S f (x ∷ xs) (y ∷ ys) h = (f x y h.0, zip-mono R S f xs ys h.1)
