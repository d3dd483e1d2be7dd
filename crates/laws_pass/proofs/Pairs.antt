-- Paired scripts have equal cores. Assumes nothing.
use mathlib.Core.Path.{◌≡◌, refl, sym, ap, ap₂, ◌∙◌, subst}
use mathlib.Core.Logic.{◌⊎◌, inl, inr}
use mathlib.Core.Bool.{Bool, true, false, ◌&&◌, ◌||◌, not}
use mathlib.Core.List.{List, [], ◌∷◌, ◌++◌}
use Prim.Native.Nat.{ℕ, zero, suc, ◌+◌, ◌<◌, suc-le-suc, zero-le}
use native.Mathlib.Nat.{add-zero, add-suc, suc-add, suc_inj, suc-ne-zero, le_of_suc-le-suc, not-suc-le-zero}
use native.Mathlib.Omega.{arith}
use lib.Dec.{T, eqb, leb}
use lib.ListN.{length, get_or}
use Rattle.def_tree.specs.Tree.{Core}
use Rattle.def_tree.specs.Base.{pick, to_nat}
use Rattle.def_file.specs.declared.Raw.{Raw}
use Rattle.def_file.specs.Script.{Script, is_lit, has_id, same_id, is_arguments, node_at, zero_node, known, enter, enter_all, idents, place_of}
use Rattle.def_file.specs.Core.{core_node, core_from, core_nodes}
use Rattle.def_pass.specs.Paired.{Agree, Paired, Number}
use Rattle.def_tree.proofs.Tests.{is_true, is_T, and_left}
use Rattle.def_file.proofs.Tested.{lit-no-id}

-- the nodes at one number of two scripts, where they have identifiers
pub record Twin (a b : Script) (x y : Raw) : Type 0 where
  pub place : ℕ
  pub number : Number a place
  pub has : T (has_id (node_at a place))
  pub left : x ≡ node_at a place
  pub right : y ≡ node_at b place

abbrev pub Twins : Script → Script → List Raw → List Raw → Type 0
Twins a b [] [] = Unit {0}
Twins a b [] (y ∷ ys) = ⊥
Twins a b (x ∷ xs) [] = ⊥
Twins a b (x ∷ xs) (y ∷ ys) = Twin a b x y × Twins a b xs ys

pub twins-at : (a b : Script) (us vs : List Raw) → Twins a b us vs → (i : ℕ) → i < length us → Twin a b (get_or us i zero_node) (get_or vs i zero_node)
twins-at a b [] [] h i l = absurd (not-suc-le-zero l)
twins-at a b [] (v ∷ vs) h i l = absurd h
twins-at a b (u ∷ us) [] h i l = absurd h
twins-at a b (u ∷ us) (v ∷ vs) h zero l = h.0
twins-at a b (u ∷ us) (v ∷ vs) h (suc i) l = twins-at a b us vs h.1 i (le_of_suc-le-suc l)

twins-append : (a b : Script) (us vs : List Raw) (x y : Raw) → Twins a b us vs → Twin a b x y → Twins a b (us ++ (x ∷ [])) (vs ++ (y ∷ []))
twins-append a b [] [] x y h t = (t, tt)
twins-append a b [] (v ∷ vs) x y h t = absurd h
twins-append a b (u ∷ us) [] x y h t = absurd h
twins-append a b (u ∷ us) (v ∷ vs) x y h t = (h.0, twins-append a b us vs x y h.1 t)

-- the nodes at one number: both have an identifier or none has
record Mate (a b : Script) (x y : Raw) : Type 0 where
  same : has_id x ≡ has_id y
  twin : T (has_id x) → Twin a b x y

abbrev Mates : Script → Script → List Raw → List Raw → Type 0
Mates a b [] [] = Unit {0}
Mates a b [] (y ∷ ys) = ⊥
Mates a b (x ∷ xs) [] = ⊥
Mates a b (x ∷ xs) (y ∷ ys) = Mate a b x y × Mates a b xs ys

mates-ext : (a b : Script) (xs ys : List Raw) → length xs ≡ length ys → ((i : ℕ) → i < length xs → Mate a b (get_or xs i zero_node) (get_or ys i zero_node)) → Mates a b xs ys
mates-ext a b [] [] e h = tt
mates-ext a b [] (y ∷ ys) e h = absurd (suc-ne-zero _ (sym e))
mates-ext a b (x ∷ xs) [] e h = absurd (suc-ne-zero _ e)
mates-ext a b (x ∷ xs) (y ∷ ys) e h = (h 0 (suc-le-suc zero-le), mates-ext a b xs ys (suc_inj e) (λ i l. h (suc i) (suc-le-suc l)))

-- a core node, from what it looks at
body : ℕ → ℕ → ℕ → ℕ → Bool → ℕ → Core
body n k f r g i =
    pick (leb 22 k && leb k 25) (record { kind = 22; form = 0; arity = 0; num = n })
    (pick (eqb k 20 || eqb k 21) (record { kind = k; form = to_nat g; arity = r; num = i }) (record { kind = k; form = f; arity = r; num = n }))

body-plain : (n k f r : ℕ) (g h : Bool) (i j : ℕ) → (eqb k 20 || eqb k 21) ≡ false → body n k f r g i ≡ body n k f r h j
unfolding body
body-plain n k f r g h i j e = rw e refl

body-lit : (n k l f f' r r' : ℕ) (g h : Bool) (i j : ℕ) → (leb 22 k && leb k 25) ≡ true → (leb 22 l && leb l 25) ≡ true → body n k f r g i ≡ body n l f' r' h j
unfolding body
body-lit n k l f f' r r' g h i j e e' = rw (e, e') refl

body_same : (n k k' f f' r r' : ℕ) (g g' : Bool) (i i' : ℕ) → k ≡ k' → f ≡ f' → r ≡ r' → g ≡ g' → i ≡ i' → body n k f r g i ≡ body n k' f' r' g' i'
body_same n k k' f f' r r' g g' i i' p q s t u = cc

module _ (a b : Script) (P : Paired a b) where
  -- identifiers that stand together are known together, and at one place
  twin-same : (x y u v : Raw) → Twin a b x y → Twin a b u v → same_id x u ≡ same_id y v
  twin-same x y u v t r = ap₂ same_id t.left r.left ∙ P.idents t.place r.place t.number r.number t.has r.has ∙ sym (ap₂ same_id t.right r.right)

  twins-known : (x y : Raw) → Twin a b x y → (us vs : List Raw) → Twins a b us vs → known x us ≡ known y vs
  twins-known x y t [] [] h = refl
  twins-known x y t [] (v ∷ vs) h = absurd h
  twins-known x y t (u ∷ us) [] h = absurd h
  twins-known x y t (u ∷ us) (v ∷ vs) h = ap₂ ◌||◌ (twin-same x y u v t h.0) (twins-known x y t us vs h.1)

  twins-place : (x y : Raw) → Twin a b x y → (us vs : List Raw) → Twins a b us vs → place_of x us ≡ place_of y vs
  twins-place x y t [] [] h = refl
  twins-place x y t [] (v ∷ vs) h = absurd h
  twins-place x y t (u ∷ us) [] h = absurd h
  twins-place x y t (u ∷ us) (v ∷ vs) h = ap₂ {C = ℕ} (λ (p : Bool) (n : ℕ). elim p [ true ↦ 0 | false ↦ suc n ]) (twin-same x y u v t h.0) (twins-place x y t us vs h.1)

  enter-twins : (x y : Raw) → Mate a b x y → (us vs : List Raw) → Twins a b us vs → Twins a b (enter us x) (enter vs y)
  enter-twins x y m us vs h = subst (λ q. Twins a b (enter us x) (pick q (vs ++ (y ∷ [])) vs)) tests (go (has_id x && not (known x us)) (λ t. t))
    where
      tests : (has_id x && not (known x us)) ≡ (has_id y && not (known y vs))
      tests = by (has_id x) refl ∙ ap (λ p. p && not (known y vs)) m.same
        where
          by : (p : Bool) → has_id x ≡ p → (p && not (known x us)) ≡ (p && not (known y vs))
          by false e = refl
          by true e = ap not (twins-known x y (m.twin (is_T (has_id x) e)) us vs h)

      go : (p : Bool) → (T p → T (has_id x && not (known x us))) → Twins a b (pick p (us ++ (x ∷ [])) us) (pick p (vs ++ (y ∷ [])) vs)
      go true k = twins-append a b us vs x y h (m.twin (and_left (has_id x) (not (known x us)) (k tt)))
      go false k = h

  all-twins : (xs ys : List Raw) → Mates a b xs ys → (us vs : List Raw) → Twins a b us vs → Twins a b (enter_all us xs) (enter_all vs ys)
  unfolding enter_all
  all-twins [] [] m us vs h = h
  all-twins [] (y ∷ ys) m us vs h = absurd m
  all-twins (x ∷ xs) [] m us vs h = absurd m
  all-twins (x ∷ xs) (y ∷ ys) m us vs h = all-twins xs ys m.1 (enter us x) (enter vs y) (enter-twins x y m.0 us vs h)

  mate-at : (i : ℕ) → i < length a.nodes → Mate a b (node_at a (suc i)) (node_at b (suc i))
  mate-at i l = record { same = go (P.shape (suc i) num); twin = λ t. record { place = suc i; number = num; has = t; left = refl; right = refl } }
    where
      num : Number a (suc i)
      num = (suc-le-suc zero-le, l)

      go : (T (is_lit (node_at a (suc i))) × T (is_lit (node_at b (suc i)))) ⊎ Agree (node_at a (suc i)) (node_at b (suc i)) → has_id (node_at a (suc i)) ≡ has_id (node_at b (suc i))
      go (inl ls) = lit-no-id (node_at a (suc i)) ls.0 ∙ sym (lit-no-id (node_at b (suc i)) ls.1)
      go (inr g) = ap (λ (k : ℕ). eqb k 20 || eqb k 21) g.kinds

  -- so the identifiers stand together, in one order
  pub idents-twins : Twins a b (idents a) (idents b)
  unfolding idents
  idents-twins = all-twins a.nodes b.nodes (mates-ext a b a.nodes b.nodes P.count mate-at) [] [] tt

  same_place : (n : ℕ) → Number a n → T (has_id (node_at a n)) → place_of (node_at a n) (idents a) ≡ place_of (node_at b n) (idents b)
  same_place n r t = twins-place (node_at a n) (node_at b n) (record { place = n; number = r; has = t; left = refl; right = refl }) (idents a) (idents b) idents-twins

  -- core nodes at one number
  same-core : (n : ℕ) → Number a n → core_node a n (node_at a n) ≡ core_node b n (node_at b n)
  unfolding core_node body
  same-core n r = go (P.shape n r)
    where
      x : Raw
      x = node_at a n

      y : Raw
      y = node_at b n

      F : ℕ
      F = place_of x (idents a)

      G : ℕ
      G = place_of y (idents b)

      by-id : (p : Bool) → has_id x ≡ p → Agree x y
          → body n x.kind x.form x.arity (is_arguments a x) F ≡ body n y.kind y.form y.arity (is_arguments b y) G
      by-id true e g = body_same n x.kind y.kind x.form y.form x.arity y.arity (is_arguments a x) (is_arguments b y) F G g.kinds g.forms g.arities (P.named n r (is_T _ e)) (same_place n r (is_T _ e))
      by-id false e g = body-plain n x.kind x.form x.arity (is_arguments a x) (is_arguments b y) F G e
          ∙ body_same n x.kind y.kind x.form y.form x.arity y.arity (is_arguments b y) (is_arguments b y) G G g.kinds g.forms g.arities refl refl

      go : (T (is_lit x) × T (is_lit y)) ⊎ Agree x y → body n x.kind x.form x.arity (is_arguments a x) F ≡ body n y.kind y.form y.arity (is_arguments b y) G
      go (inl ls) = body-lit n x.kind y.kind x.form y.form x.arity y.arity (is_arguments a x) (is_arguments b y) F G (is_true _ ls.0) (is_true _ ls.1)
      go (inr g) = by-id (has_id x) refl g

-- lists of core nodes that are equal at each place
core-ext : (a b : Script) (n : ℕ) (xs ys : List Raw) → length xs ≡ length ys
    → ((i : ℕ) → i < length xs → core_node a (n + i) (get_or xs i zero_node) ≡ core_node b (n + i) (get_or ys i zero_node))
    → core_from a n xs ≡ core_from b n ys
unfolding core_node
core-ext a b n [] [] e h = refl
core-ext a b n [] (y ∷ ys) e h = absurd (suc-ne-zero _ (sym e))
core-ext a b n (x ∷ xs) [] e h = absurd (suc-ne-zero _ e)
core-ext a b n (x ∷ xs) (y ∷ ys) e h =
    ap₂ {C = List Core} (λ c cs. c ∷ cs) (subst (λ (m : ℕ). core_node a m x ≡ core_node b m y) (add-zero n) (h 0 (suc-le-suc zero-le)))
    (core-ext a b (suc n) xs ys (suc_inj e) (λ i l. subst (λ (m : ℕ). core_node a m (get_or xs i zero_node) ≡ core_node b m (get_or ys i zero_node)) (add-suc n i ∙ sym (suc-add n i)) (h (suc i) (suc-le-suc l))))

pub same-cores : (a b : Script) → Paired a b → core_nodes a ≡ core_nodes b
unfolding core_nodes
same-cores a b P = core-ext a b 1 a.nodes b.nodes P.count (λ i l.
    subst (λ (m : ℕ). core_node a m (get_or a.nodes i zero_node) ≡ core_node b m (get_or b.nodes i zero_node)) (sym (one-add i)) (same-core a b P (suc i) (suc-le-suc zero-le, l)))
  where
    one-add : (i : ℕ) → 1 + i ≡ suc i
    one-add i = omega arith
