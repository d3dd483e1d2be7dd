-- Each `=` outside the initialisers stays, with its target but for defaults. Assumes nothing.
use mathlib.Core.Path.{◌≡◌, refl, sym, ap, ap₂, ◌∙◌, subst}
use mathlib.Core.Bool.{Bool, true, false, ◌&&◌, ◌||◌}
use mathlib.Core.Option.{Option, some}
use mathlib.Core.Logic.{inl, inr}
use mathlib.Core.List.{List, [], ◌∷◌, ◌++◌}
use Prim.Native.Nat.{ℕ, suc, ◌+◌, ◌%◌}
use native.Mathlib.Omega.{arith}
use lib.Dec.{T, eqb, eqb→eq}
use Rattle.def_pass.specs.Tree.{Tree, Forest, node, nil, cons, kind, kids, head_t, tail_f, is_ident, is_cheap, is_pattern, in_pattern}
use Rattle.def_tree.specs.Base.{pick}
use Rattle.def_pass.specs.Twice.{twice, flag, flags, flag_named, flagged}
use Rattle.def_pass.specs.Walk as Walk
use Rattle.def_pass.specs.Walk.{St}
use Rattle.laws_pass.specs.Assigns.{Assign, plain, plains, nothing, skeleton, skeletons, target, target_o, Expressions, listed, own_assign, assigns, assigns_f, LastBlock, Here, Outside, OutsideF, KeptOut, AssignsKept}
use Rattle.def_tree.proofs.Tests.{is_T, is_true, or_left, or_right}
use Rattle.laws_pass.proofs.Flags.{inner, by_way}
use Rattle.laws_pass.proofs.Effects.{GF, QF, VF, Left, LastOther, fixed, Passed, pass-does}
use Rattle.laws_pass.proofs.TreeLaws.{TreeLaw, TreeEffects, law, effects, started}

pub none_left : (xs ys : List Assign) → xs ++ ys ≡ [] → xs ≡ []
none_left [] ys e = refl
none_left (x ∷ xs) ys e = absurd (subst Some e tt)
  where
    Some : List Assign → Type 0
    Some [] = ⊥
    Some (z ∷ zs) = Unit {0}

pub none_right : (xs ys : List Assign) → xs ++ ys ≡ [] → ys ≡ []
none_right xs ys e = subst (λ (zs : List Assign). zs ++ ys ≡ []) (none_left xs ys e) e

-- of one kind, a test of kinds computes
pub at-kind : (P : ℕ → Bool) (k j : ℕ) → T (eqb k j) → T (P k) → T (P j)
at-kind P k j h p = subst (λ (n : ℕ). T (P n)) (eqb→eq k j h) p

-- a block is no update and no assignment
pub no_other : (ts : Forest) → LastBlock ts → LastOther ts
no_other nil h = tt
no_other (cons t nil) h = at-kind fixed (kind t) 2 h
no_other (cons t (cons u us)) h = no_other (cons u us) h

-- what is no binding and of no pattern
pub no_names : (t : Tree) (j : ℕ) → (eqb j 20 || in_pattern j) ≡ false → T (eqb (kind t) j) → skeleton t ≡ nothing
no_names (node k f a ts) j e h = ap {B = Tree} (λ (b : Bool). elim b [ true ↦ node k (pick (eqb k 20) (f % 2) f) a (skeletons ts) | false ↦ nothing ]) (ap (λ (n : ℕ). eqb n 20 || in_pattern n) (eqb→eq k j h) ∙ e)

-- a pattern's skeleton is one
pattern-stays : (t : Tree) → is_pattern (skeleton t) ≡ is_pattern t
pattern-stays (node k f a ts) = go (eqb k 20 || in_pattern k) refl
  where
    none : (eqb k 20 || in_pattern k) ≡ false → (p : Bool) → eqb k 45 ≡ p → (q : Bool) → eqb k 46 ≡ q → false ≡ (p || q)
    none e true d q c = absurd (subst T (ap (λ (n : ℕ). eqb n 20 || in_pattern n) (sym (eqb→eq k 45 (is_T _ d))) ∙ e) tt)
    none e false d true c = absurd (subst T (ap (λ (n : ℕ). eqb n 20 || in_pattern n) (sym (eqb→eq k 46 (is_T _ c))) ∙ e) tt)
    none e false d false c = refl

    go : (b : Bool) → (eqb k 20 || in_pattern k) ≡ b → is_pattern (elim b [ true ↦ node k (pick (eqb k 20) (f % 2) f) a (skeletons ts) | false ↦ nothing ]) ≡ is_pattern (node k f a ts)
    go true e = refl
    go false e = none e (eqb k 45) refl (eqb k 46) refl

pattern-target : (t u : Tree) → skeleton u ≡ skeleton t → T (is_pattern t) → target u ≡ target t
pattern-target t u e h =
    let d : is_pattern u ≡ true = sym (pattern-stays u) ∙ ap is_pattern e ∙ pattern-stays t ∙ is_true (is_pattern t) h in
    ap (λ (b : Bool). pick b (skeleton u) (plain u)) d ∙ e ∙ sym (ap (λ (b : Bool). pick b (skeleton t) (plain t)) (is_true (is_pattern t) h))

module _ (asked : ℕ → Bool) where
  -- a value holds none, and is an expression
  abbrev keeps : TreeLaw
  keeps = record {
    Good = λ p t. Outside asked t;
    Val = λ t. Outside asked t × (assigns asked t ≡ []) × (skeleton t ≡ nothing);
    Rel = λ t u. (assigns asked u ≡ assigns asked t) × (T (eqb (kind t) 2) → T (eqb (kind u) 2)) × (skeleton u ≡ skeleton t);
    Tells = Unit {0};
  }

  goods : (p : ℕ) (ts : Forest) → OutsideF asked ts → GF (law keeps) p ts
  goods p nil o = tt
  goods p (cons t ts) o = (o.0, goods p ts o.1)

  outsides : (p : ℕ) (ts : Forest) → GF (law keeps) p ts → OutsideF asked ts
  outsides p nil o = tt
  outsides p (cons t ts) o = (o.0, outsides p ts o.1)

  vals : (ts : Forest) → OutsideF asked ts → assigns_f asked ts ≡ [] → Expressions ts → VF (law keeps) ts
  vals nil o e x = tt
  vals (cons t ts) o e x = ((o.0, none_left (assigns asked t) (assigns_f asked ts) e, x.0), vals ts o.1 (none_right (assigns asked t) (assigns_f asked ts) e) x.1)

  same : (ts us : Forest) → QF (law keeps) ts us → assigns_f asked us ≡ assigns_f asked ts
  same nil nil q = refl
  same nil (cons u us) q = absurd q
  same (cons t ts) nil q = absurd q
  same (cons t ts) (cons u us) q = rw (q.0.0, same ts us q.1) refl

  same-tail : (ts us : Forest) → QF (law keeps) ts us → assigns_f asked (tail_f us) ≡ assigns_f asked (tail_f ts)
  same-tail nil nil q = refl
  same-tail nil (cons u us) q = absurd q
  same-tail (cons t ts) nil q = absurd q
  same-tail (cons t ts) (cons u us) q = same ts us q.1

  same_names : (ts us : Forest) → QF (law keeps) ts us → skeletons us ≡ skeletons ts
  same_names nil nil q = refl
  same_names nil (cons u us) q = absurd q
  same_names (cons t ts) nil q = absurd q
  same_names (cons t ts) (cons u us) q = ap₂ cons q.0.2 (same_names ts us q.1)

  same-values : (ts us : Forest) → QF (law keeps) ts us → Expressions ts → Expressions us
  same-values nil nil q x = tt
  same-values nil (cons u us) q x = absurd q
  same-values (cons t ts) nil q x = absurd q
  same-values (cons t ts) (cons u us) q x = (q.0.2 ∙ x.0, same-values ts us q.1 x.1)

  tail-values : (ts us : Forest) → QF (law keeps) ts us → Expressions (tail_f ts) → Expressions (tail_f us)
  tail-values nil nil q x = tt
  tail-values nil (cons u us) q x = absurd q
  tail-values (cons t ts) nil q x = absurd q
  tail-values (cons t ts) (cons u us) q x = same-values ts us q.1 x

  -- a target that is walked is a pattern
  same_left : (ts us : Forest) → QF (law keeps) ts us → Left ts us → target_o (head_t us) ≡ target_o (head_t ts)
  same_left ts us q (inl e) = ap target_o e
  same_left nil nil q (inr h) = refl
  same_left nil (cons u us) q (inr h) = absurd q
  same_left (cons t ts) nil q (inr h) = absurd q
  same_left (cons t ts) (cons u us) q (inr h) = ap some (pattern-target t u q.0.2 h)

  same-last : (ts us : Forest) → QF (law keeps) ts us → LastBlock ts → LastBlock us
  same-last nil nil q h = tt
  same-last nil (cons u us) q h = absurd q
  same-last (cons t ts) nil q h = absurd q
  same-last (cons t nil) (cons u nil) q h = q.0.1 h
  same-last (cons t nil) (cons u (cons v vs)) q h = absurd q.1
  same-last (cons t (cons r rs)) (cons u nil) q h = absurd q.1
  same-last (cons t (cons r rs)) (cons u (cons v vs)) q h = same-last (cons r rs) (cons v vs) q.1 h

  -- a node's own
  own-none : (k f a : ℕ) (l : Option Tree) → (T (eqb k 33) → ⊥) → own_assign asked k f a l ≡ []
  own-none k f a l n = go (eqb k 33) n
    where
      go : (p : Bool) → (T p → ⊥) → listed (p && eqb f 0 && asked a) (a, target_o l) ≡ []
      go true n = absurd (n tt)
      go false n = refl

  own_same : (k f a : ℕ) (l m : Option Tree) → (T (eqb k 33) → target_o m ≡ target_o l) → own_assign asked k f a m ≡ own_assign asked k f a l
  own_same k f a l m e = go (eqb k 33) e
    where
      go : (p : Bool) → (T p → target_o m ≡ target_o l) → listed (p && eqb f 0 && asked a) (a, target_o m) ≡ listed (p && eqb f 0 && asked a) (a, target_o l)
      go true e = ap (λ (x : Option Tree). listed (eqb f 0 && asked a) (a, x)) (e tt)
      go false e = refl

  leaf : (k f a : ℕ) (ts : Forest) → T (eqb k 20 || eqb k 21 || eqb k 22) → Here asked k ts → assigns asked (node k f a ts) ≡ []
  leaf k f a ts h o = ap (λ (xs : List Assign). xs ++ assigns_f asked ts) (own-none k f a (head_t ts) (λ e. at-kind (λ n. eqb n 20 || eqb n 21 || eqb n 22) k 33 e h)) ∙ o.leaves h

  kept : TreeEffects keeps
  kept = record {
    q-refl = λ t. (refl, λ b. b, refl);
    q-trans = λ t u v h k. (k.0 ∙ h.0, λ b. k.1 (h.1 b), k.2 ∙ h.2);
    kids = λ p k f a ts o. goods (suc p) ts o.1;
    around = λ p k f a ts us o h q e. (
      (record { inits = λ x. same-tail ts us q ∙ o.0.inits x; values = λ x. tail-values ts us q (o.0.values x); leaves = λ x. same ts us q ∙ o.0.leaves x; ends = λ x. same-last ts us q (o.0.ends x) }, outsides (suc p) us h),
      (
        rw (own_same k f a (head_t ts) (head_t us) (λ x. same_left ts us q ((e tt).1 x)), same ts us q) refl,
        λ b. b,
        ap {B = Tree} (λ (vs : Forest). elim (eqb k 20 || in_pattern k) [ true ↦ node k (pick (eqb k 20) (f % 2) f) a vs | false ↦ nothing ]) (same_names ts us q),
      ),
    );
    body = λ p k f a ts l x o. no_other ts (o.0.ends x);
    init = λ p k f a n es x o. vals es o.1.1 (o.0.inits x) (o.0.values x);
    taken = λ p k f a n e es x o. (let z = o.0.inits x in (
      (
        record {
          inits = λ y. none_right (assigns asked e) (assigns_f asked es) z;
          values = λ y. (o.0.values x).1;
          leaves = λ y. absurd (at-kind (λ m. eqb m 20 || eqb m 21 || eqb m 22) k 6 x y);
          ends = λ y. absurd (at-kind (λ m. eqb m 7 || eqb m 39) k 6 x y);
        },
        (o.1.0, o.1.1.1),
      ),
      (rw (none_left (assigns asked e) (assigns_f asked es) z) refl, λ b. b, no_names (node k f a (cons n es)) 6 refl x ∙ sym (no_names (node k f a (cons n (cons e es))) 6 refl x)),
    ));
    bound = λ p t o h. binding t o h;
    cheap = λ p t o h. (o, cheap-none t o h, cheap-value t h);
    void = ((record { inits = λ x. absurd x; values = λ x. absurd x; leaves = λ x. absurd x; ends = λ x. absurd x }, ((record { inits = λ x. absurd x; values = λ x. absurd x; leaves = λ x. refl; ends = λ x. absurd x }, tt), tt)), refl, refl);
    replaced = λ p t e o i v h. (v.0, (v.1 ∙ sym (ident-none t o i), λ b. absurd (at-kind (λ m. eqb m 2) (kind t) 21 i b), v.2 ∙ sym (no_names t 21 refl i)));
  }
    where
      binding : (t : Tree) → Outside asked t → T (eqb (kind t) 20) → Outside asked (Walk.as_ident t) × (assigns asked (Walk.as_ident t) ≡ []) × (skeleton (Walk.as_ident t) ≡ nothing)
      binding (node k f a ts) o h =
          let z = o.0.leaves (or_left (eqb k 20 || eqb k 21) (eqb k 22) (or_left (eqb k 20) (eqb k 21) h)) in
          ((record { inits = λ x. absurd x; values = λ x. absurd x; leaves = λ x. z; ends = λ x. absurd x }, o.1), z, refl)

      ident-none : (t : Tree) → Outside asked t → T (is_ident t) → assigns asked t ≡ []
      ident-none (node k f a ts) o h = leaf k f a ts (or_left (eqb k 20 || eqb k 21) (eqb k 22) (or_right (eqb k 20) (eqb k 21) h)) o.0

      cheap-value : (t : Tree) → T (is_cheap t) → skeleton t ≡ nothing
      cheap-value t h = go (eqb (kind t) 22) refl h
        where
          go : (p : Bool) → eqb (kind t) 22 ≡ p → T (p || eqb (kind t) 21) → skeleton t ≡ nothing
          go true e x = no_names t 22 refl (is_T _ e)
          go false e x = no_names t 21 refl x

      cheap-none : (t : Tree) → Outside asked t → T (is_cheap t) → assigns asked t ≡ []
      cheap-none (node k f a ts) o h = leaf k f a ts (turn (eqb k 20) (eqb k 21) (eqb k 22) h) o.0
        where
          turn : (p q r : Bool) → T (r || q) → T (p || q || r)
          turn p q true h = or_right (p || q) true tt
          turn p q false h = or_left (p || q) false (or_right p q h)

  out : (t : Tree) (s : St) (o : Walk.Outcome) → Passed (law keeps) t s o → KeptOut asked t o
  out t s (Walk.refused n) h = tt
  out t s (Walk.result k c u ms) h = h.related.0

-- with bindings flagged
form-flag : (p c : Bool) (f : ℕ) → pick p (pick (p && c) (f + 2) f % 2) (pick (p && c) (f + 2) f) ≡ pick p (f % 2) f
form-flag true true f = omega arith
form-flag true false f = refl
form-flag false c f = refl

mutual
  plain-flag : (b : ℕ → Bool) (t : Tree) → plain (flag b t) ≡ plain t
  plain-flag b (node k f a ts) = ap₂ (λ (g : ℕ) (us : Forest). node k g a us) (form-flag (eqb k 20) (b a) f) (by_way (λ us. plains us ≡ plains ts) b k f ts (plain-named b ts) (plain-flags (twice ts) ts) (plain-flags b ts))

  plain-flags : (b : ℕ → Bool) (ts : Forest) → plains (flags b ts) ≡ plains ts
  plain-flags b nil = refl
  plain-flags b (cons t ts) = ap₂ cons (plain-flag b t) (plain-flags b ts)

  plain-named : (b : ℕ → Bool) (ts : Forest) → plains (flag_named b ts) ≡ plains ts
  plain-named b nil = refl
  plain-named b (cons t ts) = ap₂ cons (plain-flag b t) (plain-flags (twice ts) ts)

mutual
  names-flag : (b : ℕ → Bool) (t : Tree) → skeleton (flag b t) ≡ skeleton t
  names-flag b (node k f a ts) = ap₂ {C = Tree} (λ (g : ℕ) (us : Forest). elim (eqb k 20 || in_pattern k) [ true ↦ node k g a us | false ↦ nothing ]) (form-flag (eqb k 20) (b a) f) (by_way (λ us. skeletons us ≡ skeletons ts) b k f ts (names-named b ts) (names-flags (twice ts) ts) (names-flags b ts))

  names-flags : (b : ℕ → Bool) (ts : Forest) → skeletons (flags b ts) ≡ skeletons ts
  names-flags b nil = refl
  names-flags b (cons t ts) = ap₂ cons (names-flag b t) (names-flags b ts)

  names-named : (b : ℕ → Bool) (ts : Forest) → skeletons (flag_named b ts) ≡ skeletons ts
  names-named b nil = refl
  names-named b (cons t ts) = ap₂ cons (names-flag b t) (names-flags (twice ts) ts)

kind-flag : (b : ℕ → Bool) (t : Tree) → kind (flag b t) ≡ kind t
kind-flag b (node k f a ts) = refl

target-flag : (b : ℕ → Bool) (t : Tree) → target (flag b t) ≡ target t
target-flag b t = ap (λ (k : ℕ). pick (eqb k 45 || eqb k 46) (skeleton (flag b t)) (plain (flag b t))) (kind-flag b t) ∙ ap₂ (pick (is_pattern t)) (names-flag b t) (plain-flag b t)

values-flags : (b : ℕ → Bool) (ts : Forest) → Expressions ts → Expressions (flags b ts)
values-flags b nil x = tt
values-flags b (cons t ts) x = (names-flag b t ∙ x.0, values-flags b ts x.1)

not-both : (k : ℕ) → k ≡ 20 → eqb k 33 ≡ false
not-both k e = rw e refl

-- the same first target, the same `=` in all and behind the first, where expressions stay such, and the same last kind
record Alike (asked : ℕ → Bool) (ts us : Forest) : Type 0 where
  first : target_o (head_t us) ≡ target_o (head_t ts)
  all : assigns_f asked us ≡ assigns_f asked ts
  rest : assigns_f asked (tail_f us) ≡ assigns_f asked (tail_f ts)
  values : Expressions (tail_f ts) → Expressions (tail_f us)
  last : LastBlock ts → LastBlock us

last-flags : (b : ℕ → Bool) (ts : Forest) → LastBlock ts → LastBlock (flags b ts)
last-flags b nil h = tt
last-flags b (cons t nil) h = subst (λ (k : ℕ). T (eqb k 2)) (sym (kind-flag b t)) h
last-flags b (cons t (cons u us)) h = last-flags b (cons u us) h

last-named : (b : ℕ → Bool) (ts : Forest) → LastBlock ts → LastBlock (flag_named b ts)
last-named b nil h = tt
last-named b (cons t nil) h = subst (λ (k : ℕ). T (eqb k 2)) (sym (kind-flag b t)) h
last-named b (cons t (cons u us)) h = last-flags (twice (cons u us)) (cons u us) h

module _ (asked : ℕ → Bool) where
  mutual
    flag-assigns : (b : ℕ → Bool) (t : Tree) → assigns asked (flag b t) ≡ assigns asked t
    flag-assigns b (node k f a ts) = (let w = by_way (Alike asked ts) b k f ts (named-alike b ts) (flags-alike (twice ts) ts) (flags-alike b ts) in ap₂ ◌++◌ (go (eqb k 20) refl (b a) w.first) w.all)
      where
        go : (p : Bool) → eqb k 20 ≡ p → (c : Bool) → {l m : Option Tree} → m ≡ l → listed (eqb k 33 && eqb (pick (p && c) (f + 2) f) 0 && asked a) (a, m) ≡ listed (eqb k 33 && eqb f 0 && asked a) (a, l)
        go true e c q = rw (not-both k (eqb→eq k 20 (is_T _ e))) refl
        go false e c q = ap (λ (x : Option Tree). listed (eqb k 33 && eqb f 0 && asked a) (a, x)) q

    flags-alike : (b : ℕ → Bool) (ts : Forest) → Alike asked ts (flags b ts)
    flags-alike b nil = record { first = refl; all = refl; rest = refl; values = λ x. x; last = λ h. h }
    flags-alike b (cons t ts) = (let w = flags-alike b ts in record { first = ap some (target-flag b t); all = ap₂ ◌++◌ (flag-assigns b t) w.all; rest = w.all; values = values-flags b ts; last = last-flags b (cons t ts) })

    named-alike : (b : ℕ → Bool) (ts : Forest) → Alike asked ts (flag_named b ts)
    named-alike b nil = record { first = refl; all = refl; rest = refl; values = λ x. x; last = λ h. h }
    named-alike b (cons t ts) = (let w = flags-alike (twice ts) ts in record { first = ap some (target-flag b t); all = ap₂ ◌++◌ (flag-assigns b t) w.all; rest = w.all; values = values-flags (twice ts) ts; last = last-named b (cons t ts) })

  inner-alike : (b : ℕ → Bool) (k f : ℕ) (ts : Forest) → Alike asked ts (inner b k f ts)
  inner-alike b k f ts = by_way (Alike asked ts) b k f ts (named-alike b ts) (flags-alike (twice ts) ts) (flags-alike b ts)

  mutual
    flag-outside : (b : ℕ → Bool) (t : Tree) → Outside asked t → Outside asked (flag b t)
    flag-outside b (node k f a ts) o = (let w = inner-alike b k f ts in (
      record { inits = λ x. w.rest ∙ o.0.inits x; values = λ x. w.values (o.0.values x); leaves = λ x. w.all ∙ o.0.leaves x; ends = λ x. w.last (o.0.ends x) },
      by_way (OutsideF asked) b k f ts (named-outside b ts o.1) (flags-outside (twice ts) ts o.1) (flags-outside b ts o.1),
    ))

    flags-outside : (b : ℕ → Bool) (ts : Forest) → OutsideF asked ts → OutsideF asked (flags b ts)
    flags-outside b nil o = tt
    flags-outside b (cons t ts) o = (flag-outside b t o.0, flags-outside b ts o.1)

    named-outside : (b : ℕ → Bool) (ts : Forest) → OutsideF asked ts → OutsideF asked (flag_named b ts)
    named-outside b nil o = tt
    named-outside b (cons t ts) o = (flag-outside b t o.0, flags-outside (twice ts) ts o.1)

from-flagged : (asked : ℕ → Bool) (t : Tree) (o : Walk.Outcome) → KeptOut asked (flagged t) o → KeptOut asked t o
from-flagged asked t (Walk.refused n) h = tt
from-flagged asked t (Walk.result k c u ms) h = h ∙ flag-assigns asked (twice (kids t)) t

pub assigns-kept : AssignsKept
assigns-kept asked n t o = from-flagged asked t (Walk.core_pass n t) (out asked (flagged t) (Walk.start t) (Walk.core_pass n t) (pass-does (law (keeps asked)) (effects (keeps asked) (kept asked)) n t (flag-outside asked (twice (kids t)) t o) (started (keeps asked) t)))
