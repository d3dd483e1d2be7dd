-- A flag goes with the function in which it stands: a law of the trees, beside that a tree fits. Assumes nothing.
use mathlib.Core.Path.{◌≡◌, refl, sym, ap, ap₂, ◌∙◌, subst}
use mathlib.Core.Bool.{Bool, true, false}
use mathlib.Core.Logic.{inl, inr}
use mathlib.Core.List.{List, [], ◌∷◌, ◌++◌}
use Prim.Native.Nat.{ℕ, suc}
use lib.Dec.{T, eqb, eqb→eq}
use Rattle.def_file.specs.Kinds.{is_expr}
use Rattle.def_pass.specs.Tree.{Tree, Forest, node, nil, cons, kind, kids, tail_f, is_ident}
use Rattle.def_pass.specs.Twice.{is_twice, is_function, is_named, twice, flagged}
use Rattle.def_pass.specs.Walk as Walk
use Rattle.laws_pass.specs.Readable.{Fits}
use Rattle.laws_pass.specs.Second.{Own, owns, owns_f, owns_first, region, regions, regions_f, Regions, RegionsF, Among, FlagsIn, FlagsStay}
use Rattle.def_tree.proofs.Tests.{is_T}
use Rattle.laws_pass.proofs.Effects.{GF, QF, VF, Passed, pass-does}
use Rattle.laws_pass.proofs.TreeLaws.{TreeLaw, TreeEffects, law, effects, started}
use Rattle.laws_pass.proofs.Readable.{Rel, fitting, kept}
use Rattle.laws_pass.proofs.Flags.{flag-fits}

-- an expression has no binding of its own
no_owns : (t : Tree) → T (is_expr (kind t)) → owns t ≡ []
no_owns (node k f a ts) h = go (eqb k 20) refl (is_expr k) h
  where
    own : Bool → Bool → List Own
    own b c = elim b [ true ↦ (a, is_twice f) ∷ [] | false ↦ elim c [ true ↦ [] | false ↦ elim (eqb k 7) [ true ↦ owns_first ts | false ↦ owns_f ts ] ] ]

    go : (b : Bool) → eqb k 20 ≡ b → (c : Bool) → T c → own b c ≡ []
    go true e c g = absurd (subst (λ (n : ℕ). T (is_expr n)) (eqb→eq k 20 (is_T _ e)) h)
    go false e true g = refl
    go false e false g = absurd g

ident_owns : (t : Tree) → T (is_ident t) → owns t ≡ []
ident_owns (node k f a ts) i = no_owns (node k f a ts) (subst (λ (n : ℕ). T (is_expr n)) (sym (eqb→eq k 21 i)) tt)

-- children with the same bindings
record Alike (ts us : Forest) : Type 0 where
  all : owns_f us ≡ owns_f ts
  first : owns_first us ≡ owns_first ts
  rest : owns_f (tail_f us) ≡ owns_f (tail_f ts)

same-owns : (k f a : ℕ) (ts us : Forest) → Alike ts us → owns (node k f a us) ≡ owns (node k f a ts)
same-owns k f a ts us w = go (eqb k 20) (is_expr k) (eqb k 7)
  where
    own : Bool → Bool → Bool → Forest → List Own
    own b c d vs = elim b [ true ↦ (a, is_twice f) ∷ [] | false ↦ elim c [ true ↦ [] | false ↦ elim d [ true ↦ owns_first vs | false ↦ owns_f vs ] ] ]

    go : (b c d : Bool) → own b c d us ≡ own b c d ts
    go true c d = refl
    go false true d = refl
    go false false true = w.first
    go false false false = w.all

same-region : (k f : ℕ) (ts us : Forest) → Alike ts us → region k f us ≡ region k f ts
same-region k f ts us w = go (is_named k f)
  where
    of : Bool → Forest → List Own
    of b vs = elim b [ true ↦ owns_f (tail_f vs) | false ↦ owns_f vs ]

    go : (b : Bool) → of b us ≡ of b ts
    go true = w.rest
    go false = w.all

-- as a law of the trees
module _ (R : List Own → Type 0) where
  abbrev keeps : TreeLaw
  keeps = record {
    Good = λ p t. Fits t × Regions R t;
    Val = λ t. (Fits t × T (is_expr (kind t))) × Regions R t;
    Rel = λ t u. Rel t u × (owns u ≡ owns t);
    Tells = Unit {0};
  }

  goods : (p : ℕ) (ts : Forest) → GF (law fitting) p ts → RegionsF R ts → GF (law keeps) p ts
  goods p nil g r = tt
  goods p (cons t ts) g r = ((g.0, r.0), goods p ts g.1 r.1)

  fits-of : (p : ℕ) (ts : Forest) → GF (law keeps) p ts → GF (law fitting) p ts
  fits-of p nil g = tt
  fits-of p (cons t ts) g = (g.0.0, fits-of p ts g.1)

  regions-of : (p : ℕ) (ts : Forest) → GF (law keeps) p ts → RegionsF R ts
  regions-of p nil g = tt
  regions-of p (cons t ts) g = (g.0.1, regions-of p ts g.1)

  related : (ts us : Forest) → QF (law keeps) ts us → QF (law fitting) ts us
  related nil nil q = tt
  related nil (cons u us) q = q
  related (cons t ts) nil q = q
  related (cons t ts) (cons u us) q = (q.0.0, related ts us q.1)

  alike : (ts us : Forest) → QF (law keeps) ts us → Alike ts us
  alike nil nil q = record { all = refl; first = refl; rest = refl }
  alike nil (cons u us) q = absurd q
  alike (cons t ts) nil q = absurd q
  alike (cons t ts) (cons u us) q = (let w = alike ts us q.1 in record { all = ap₂ ◌++◌ q.0.1 w.all; first = q.0.1; rest = w.all })

  values : (ts : Forest) → VF (law fitting) ts → RegionsF R ts → VF (law keeps) ts
  values nil v r = tt
  values (cons t ts) v r = ((v.0, r.0), values ts v.1 r.1)

  around-ok : (p k f a : ℕ) (ts us : Forest) → Fits (node k f a us) × Rel (node k f a ts) (node k f a us) → Regions R (node k f a ts) → GF (law keeps) p us → QF (law keeps) ts us
      → keeps.Good p (node k f a us) × keeps.Rel (node k f a ts) (node k f a us)
  around-ok p k f a ts us F r g q =
      let w = alike ts us q in
      ((F.0, ((λ x. subst R (sym (same-region k f ts us w)) (r.0 x)), regions-of p us g)), (F.1, same-owns k f a ts us w))

  -- a declarator without its initialiser
  taken6 : (p k f a : ℕ) (n e : Tree) (es : Forest) → T (eqb k 6) → T (is_expr (kind e)) → Fits (node k f a (cons n es)) × Rel (node k f a (cons n (cons e es))) (node k f a (cons n es))
      → Regions R (node k f a (cons n (cons e es))) → keeps.Good p (node k f a (cons n es)) × keeps.Rel (node k f a (cons n (cons e es))) (node k f a (cons n es))
  taken6 p k f a n e es x i F r =
      let k6 = eqb→eq k 6 x in (
        (F.0, ((λ y. absurd (subst (λ (m : ℕ). T (is_function m)) k6 y)), (r.1.0, r.1.1.1))),
        (F.1, subst (λ (m : ℕ). owns (node m f a (cons n es)) ≡ owns (node m f a (cons n (cons e es)))) (sym k6) (ap (λ (xs : List Own). owns n ++ (xs ++ owns_f es)) (sym (no_owns e i)))),
      )

  bound20 : (t : Tree) → Fits (Walk.as_ident t) × T (is_expr (kind (Walk.as_ident t))) → Regions R t → keeps.Val (Walk.as_ident t)
  bound20 (node k f a ts) F r = (F, ((λ x. absurd x), r.1))

  inside : (k f a : ℕ) (ts : Forest) → Regions R (node k f a ts) → RegionsF R ts
  inside k f a ts r = r.1

  stay : TreeEffects keeps
  stay = record {
    q-refl = λ t. (kept.q-refl t, refl);
    q-trans = λ t u v h k. (kept.q-trans t u v h.0 k.0, k.1 ∙ h.1);
    kids = λ p k f a ts o. goods (suc p) ts (kept.kids p k f a ts o.0) o.1.1;
    around = λ p k f a ts us o g q e. around-ok (suc p) k f a ts us (kept.around p k f a ts us o.0 (fits-of (suc p) us g) (related ts us q) e) o.1 g q;
    body = λ p k f a ts l x o. kept.body p k f a ts l x o.0;
    init = λ p k f a n es x o. values es (kept.init p k f a n es x o.0) o.1.1.1;
    taken = λ p k f a n e es x o. taken6 p k f a n e es x (kept.init p k f a n (cons e es) x o.0).0.1 (kept.taken p k f a n e es x o.0) o.1;
    bound = λ p t o x. bound20 t (kept.bound p t o.0 x) o.1;
    cheap = λ p t o x. (kept.cheap p t o.0 x, o.1);
    void = (kept.void, ((λ x. absurd x), (((λ x. absurd x), tt), tt)));
    replaced = λ p t e o i v h. ((v.0.0, v.1), ((kept.replaced p t e o.0 i v.0 h).1, no_owns e v.0.1 ∙ sym (ident_owns t i)));
  }

-- the functions of a tree are among those of the whole
left : (xs ys : List (List Own)) (r : List Own) → Among xs r → Among (xs ++ ys) r
left [] ys r h = absurd h
left (x ∷ xs) ys r (inl e) = inl e
left (x ∷ xs) ys r (inr h) = inr (left xs ys r h)

right : (xs ys : List (List Own)) (r : List Own) → Among ys r → Among (xs ++ ys) r
right [] ys r h = h
right (x ∷ xs) ys r h = inr (right xs ys r h)

module _ (all : List (List Own)) where
  abbrev Within : List (List Own) → Type 0
  Within xs = (r : List Own) → Among xs r → Among all r

  mutual
    within : (t : Tree) → Within (regions t) → Regions (Among all) t
    within (node k f a ts) h = go (is_function k) h (λ g. within_f ts g)
      where
        of : Bool → List (List Own)
        of b = elim b [ true ↦ region k f ts ∷ regions_f ts | false ↦ regions_f ts ]

        go : (b : Bool) → Within (of b) → (Within (regions_f ts) → RegionsF (Among all) ts) → (T b → Among all (region k f ts)) × RegionsF (Among all) ts
        go true h g = ((λ x. h (region k f ts) (inl refl)), g (λ r m. h r (inr m)))
        go false h g = ((λ x. absurd x), g h)

    within_f : (ts : Forest) → Within (regions_f ts) → RegionsF (Among all) ts
    within_f nil h = tt
    within_f (cons t ts) h = (within t (λ r m. h r (left (regions t) (regions_f ts) r m)), within_f ts (λ r m. h r (right (regions t) (regions_f ts) r m)))

out : (t : Tree) (o : Walk.Outcome) → Passed (law (keeps (Among (regions (flagged t))))) (flagged t) (Walk.start t) o → FlagsIn t o
out t (Walk.refused n) h = tt
out t (Walk.result k c u ms) h = (h.related.1, h.good.1)

pub flags-stay : FlagsStay
flags-stay n t r =
    let R = Among (regions (flagged t)) in
    out t (Walk.core_pass n t) (pass-does (law (keeps R)) (effects (keeps R) (stay R)) n t (flag-fits (twice (kids t)) t r.fits, within (regions (flagged t)) (flagged t) (λ r m. m)) (started (keeps R) t))
