-- A result tree fits the kinds' places again. Assumes nothing.
use mathlib.Core.Path.{◌≡◌, refl, sym, ap, ap₂, ◌∙◌, subst}
use mathlib.Core.Bool.{Bool, true, false, ◌&&◌, not, ◌||◌}
use mathlib.Core.List.{List, [], ◌∷◌}
use Prim.Native.Nat.{ℕ, zero, suc, ◌+◌, ◌%◌}
use native.Mathlib.Omega.{arith}
use lib.Dec.{T, eqb, leb, eqb→eq, leb→le}
use lib.ListN.{get_or}
use borrow.Author.Tests.{eqb-false, ne_eqb, eq-eqb}
use Rattle.def_tree.specs.Base.{pick}
use Rattle.def_tree.specs.Tree.{length_f}
use Rattle.def_file.specs.declared.kinds.Class.{Class}
use Rattle.def_file.specs.declared.kinds.Row.{Row}
use Rattle.def_file.specs.declared.kinds.Class.TheVariants.{Root, Statement, Expression, Binding, Name, Target, Block, Declarator, Catch, Case, Property, PatternProperty, Updated, Assigned, Destructured, Start, Head}
use Rattle.def_file.specs.Kinds.{is_expr, allows, rows, no_row, row_of, form_ok, count_ok, child_of}
use Rattle.def_file.specs.Kinds as Kinds
use Rattle.def_pass.specs.Tree.{Tree, Forest, node, nil, cons, kind, kids, is_ident, in_pattern}
use Rattle.def_pass.specs.Twice.{twice, flagged}
use Rattle.def_pass.specs.Walk as Walk
use Rattle.laws_pass.specs.Small.{SmallOut}
use Rattle.laws_pass.specs.Assigns.{nothing, skeleton, skeletons, LastBlock, Expressions}
use Rattle.laws_pass.specs.Readable.{form_of, row_at, Fits, FitsF, Readable, ReadableOut, ResultReadable}
use Rattle.def_tree.proofs.Tests.{is_T, and_left, and_right, both, or_right}
use Rattle.laws_pass.proofs.Tests.{pick-ok}
use Rattle.laws_pass.proofs.Effects.{GF, QF, VF, Passed, pass-does}
use Rattle.laws_pass.proofs.TreeLaws.{TreeLaw, TreeEffects, law, effects, started}
use Rattle.laws_pass.proofs.Small.{stays-small}
use Rattle.laws_pass.proofs.Flags.{flag-allows, flag-fits}
use Rattle.laws_pass.proofs.Assigns.{at-kind, no_other}

-- the place of what is updated: an identifier there is no expression among others
abbrev updated : Class → Bool
updated Root = false
updated Statement = false
updated Expression = false
updated Binding = false
updated Name = false
updated Target = false
updated Block = false
updated Declarator = false
updated Catch = false
updated Case = false
updated Property = false
updated PatternProperty = false
updated Updated = true
updated Assigned = false
updated Destructured = false
updated Start = false
updated Head = false

abbrev clean : Row → Bool
clean r = (not (updated r.only) && not (updated r.first)) && (not (updated r.rest) && not (updated r.last))

-- no row but that of kind 31 has such a place
abbrev Clean : ℕ → List (ℕ → Row) → Type 0
Clean n [] = Unit {0}
Clean n (r ∷ rs) = ((T (eqb n 31) → ⊥) → (f : ℕ) → T (clean (r f))) × Clean (suc n) rs

for-clean : (f : ℕ) → T (clean (Kinds.for_row f))
for-clean f = go (eqb (f % 2) 1)
  where
    go : (p : Bool) → T ((true && not (updated (pick p Start Expression))) && true)
    go true = tt
    go false = tt

try-clean : (f : ℕ) → T (clean (Kinds.try_row f))
try-clean f = go (eqb f 1)
  where
    go : (p : Bool) → T (not (updated (pick p Catch Block)))
    go true = tt
    go false = tt

case-clean : (f : ℕ) → T (clean (Kinds.case_row f))
case-clean f = go (eqb f 1)
  where
    go : (p : Bool) → T ((not (updated (pick p Expression Statement)) && not (updated (pick p Expression Statement))) && true)
    go true = tt
    go false = tt

assign-clean : (f : ℕ) → T (clean (Kinds.assign_row f))
assign-clean f = go (eqb f 0)
  where
    go : (p : Bool) → T ((not (updated (pick p Destructured Assigned)) && not (updated (pick p Destructured Assigned))) && true)
    go true = tt
    go false = tt

function-clean : (f : ℕ) → T (clean (Kinds.function_row f))
function-clean f = go (eqb f 1)
  where
    go : (p : Bool) → T ((true && not (updated (pick p Binding Target))) && true)
    go true = tt
    go false = tt

arrow-clean : (f : ℕ) → T (clean (Kinds.arrow_row f))
arrow-clean f = go (eqb f 1)
  where
    go : (p : Bool) → T ((not (updated (pick p Expression Block)) && true) && not (updated (pick p Expression Block)))
    go true = tt
    go false = tt

abbrev ok : {A : Type 0} → A → ℕ → Unit {0}
ok n f = tt

all-clean : Clean 0 rows
all-clean = (ok, (ok, (ok, (ok, (ok, (ok, (ok, (ok, (ok, (ok, (ok, (ok, ((λ n f. for-clean f), (ok, (ok, (ok, ((λ n f. try-clean f), (ok, (ok, ((λ n f. case-clean f), (ok, (ok, (ok, (ok, (ok, (ok, (ok, (ok, (ok, (ok, (ok, ((λ n f. absurd (n tt)), (ok, ((λ n f. assign-clean f), (ok, (ok, (ok, (ok, (ok, ((λ n f. function-clean f), ((λ n f. arrow-clean f), (ok, (ok, (ok, (ok, (ok, (ok, (ok, (ok, tt)))))))))))))))))))))))))))))))))))))))))))))))))

clean-from : (rs : List (ℕ → Row)) (n k : ℕ) → Clean n rs → (T (eqb (k + n) 31) → ⊥) → (f : ℕ) → T (clean (get_or rs k (λ g. no_row) f))
clean-from [] n k c h f = tt
clean-from (r ∷ rs) n zero c h f = (let d : n ≡ zero + n = omega arith in c.0 (λ e. h (subst (λ (m : ℕ). T (eqb m 31)) d e)) f)
clean-from (r ∷ rs) n (suc k) c h f = (let d : k + suc n ≡ suc k + n = omega arith in clean-from rs (suc n) k c.1 (λ e. h (subst (λ (m : ℕ). T (eqb m 31)) d e)) f)

row-clean : (k f : ℕ) → (T (eqb k 31) → ⊥) → T (clean (row_of k f))
unfolding row_of
row-clean k f h = (let d : k + 0 ≡ k = omega arith in clean-from rows 0 k all-clean (λ e. h (subst (λ (m : ℕ). T (eqb m 31)) d e)) f)

child-clean : (r : Row) (n i : ℕ) → T (clean r) → T (updated (child_of r n i)) → ⊥
child-clean r n i c =
    let P : Class → Type 0 = λ x. T (updated x) → ⊥ in
    let a = and_left (not (updated r.only) && not (updated r.first)) (not (updated r.rest) && not (updated r.last)) c in
    let b = and_right (not (updated r.only) && not (updated r.first)) (not (updated r.rest) && not (updated r.last)) c in
    pick-ok P (eqb n 1) r.only (pick (eqb i 0) r.first (pick (eqb (i + 1) n) r.last r.rest)) (no (updated r.only) (and_left (not (updated r.only)) (not (updated r.first)) a))
    (pick-ok P (eqb i 0) r.first (pick (eqb (i + 1) n) r.last r.rest) (no (updated r.first) (and_right (not (updated r.only)) (not (updated r.first)) a))
    (pick-ok P (eqb (i + 1) n) r.last r.rest (no (updated r.last) (and_right (not (updated r.rest)) (not (updated r.last)) b)) (no (updated r.rest) (and_left (not (updated r.rest)) (not (updated r.last)) b))))
  where
    no : (p : Bool) → T (not p) → T p → ⊥
    no true h k = h
    no false h k = k

-- what may stand where t does
abbrev pub Rel : Tree → Tree → Type 0
Rel t u = (c : Class) → (T (updated c) → ⊥) → T (allows c (kind t) (length_f (kids t))) → T (allows c (kind u) (length_f (kids u)))

abbrev pub fitting : TreeLaw
fitting = record { Good = λ p t. Fits t; Val = λ t. Fits t × T (is_expr (kind t)); Rel = Rel; Tells = Unit {0} }

len : (ts us : Forest) → QF (law fitting) ts us → length_f us ≡ length_f ts
len nil nil q = refl
len nil (cons u us) q = absurd q
len (cons t ts) nil q = absurd q
len (cons t ts) (cons u us) q = ap suc (len ts us q.1)

goods : (p : ℕ) (r : Row) (n i : ℕ) (ts : Forest) → FitsF r n i ts → GF (law fitting) p ts
goods p r n i nil o = tt
goods p r n i (cons t ts) o = (o.1, goods p r n (suc i) ts o.2)

-- what became of children stands at their places
again : (p : ℕ) (r : Row) (n i : ℕ) (ts us : Forest) → T (clean r) → QF (law fitting) ts us → GF (law fitting) p us → FitsF r n i ts → FitsF r n i us
again p r n i nil nil c q g o = tt
again p r n i nil (cons u us) c q g o = absurd q
again p r n i (cons t ts) nil c q g o = absurd q
again p r n i (cons t ts) (cons u us) c q g o = (q.0 (child_of r n i) (child-clean r n i c) o.0, g.0, again p r n (suc i) ts us c q.1 g.1 o.2)

around-ok : (p k f a : ℕ) (ts us : Forest) → Fits (node k f a ts) → GF (law fitting) p us → QF (law fitting) ts us → (T (eqb k 31) → ⊥) → Fits (node k f a us) × Rel (node k f a ts) (node k f a us)
around-ok p k f a ts us o g q n =
    let r = row_at k f in
    let e = sym (len ts us q) in
    let h : FitsF r (length_f ts) zero us = again p r (length_f ts) zero ts us (row-clean k (form_of k f) n) q g o.1 in
    ((subst (λ (m : ℕ). T (form_ok r (form_of k f) && count_ok r m)) e o.0, subst (λ (m : ℕ). FitsF r m zero us) e h), λ c x y. subst (λ (m : ℕ). T (allows c k m)) e y)

-- a function ends in a block
last-class : (r : Row) (n i : ℕ) → n ≡ suc i → child_of r n i ≡ pick (eqb n 1) r.only r.last
last-class r n i e = go (eqb n 1) refl
  where
    go : (p : Bool) → eqb n 1 ≡ p → pick p r.only (pick (eqb i 0) r.first (pick (eqb (i + 1) n) r.last r.rest)) ≡ pick p r.only r.last
    go true d = refl
    go false d = rw (ne_eqb i 0 (λ q. eqb-false n 1 d (omega (arith, q, e))), eq-eqb (i + 1) n (omega (arith, e))) refl

blocks : (r : Row) (n i : ℕ) (ts : Forest) → n ≡ i + length_f ts → r.only ≡ Block → r.last ≡ Block → FitsF r n i ts → LastBlock ts
blocks r n i nil e a b o = tt
blocks r n i (cons t nil) e a b o = subst (λ (c : Class). T (allows c (kind t) (length_f (kids t)))) (last-class r n i (omega (arith, e)) ∙ pick-ok (λ c. c ≡ Block) (eqb n 1) r.only r.last a b) o.0
blocks r n i (cons t (cons u us)) e a b o = blocks r n (suc i) (cons u us) (omega (arith, e)) a b o.2

pub body_ok : (k f a : ℕ) (ts : Forest) → T (eqb k 7 || eqb k 39) → Fits (node k f a ts) → LastBlock ts
unfolding row_of
body_ok k f a ts h o = go (eqb k 7) refl (eqb k 39) refl h
  where
    go : (p : Bool) → eqb k 7 ≡ p → (q : Bool) → eqb k 39 ≡ q → T (p || q) → LastBlock ts
    go true e q d h = blocks (row_at 7 f) (length_f ts) 0 ts (omega arith) refl refl (subst (λ (m : ℕ). Fits (node m f a ts)) (eqb→eq k 7 (is_T _ e)) o).1
    go false e true d h = blocks (row_at 39 f) (length_f ts) 0 ts (omega arith) refl refl (subst (λ (m : ℕ). Fits (node m f a ts)) (eqb→eq k 39 (is_T _ d)) o).1
    go false e false d h = absurd h

-- a declarator
long : (m : ℕ) → T (leb (suc (suc (suc m))) 2) → ⊥
long m h = (let l = leb→le (suc (suc (suc m))) 2 h in omega (arith, l))

init6 : (f a : ℕ) (n : Tree) (es : Forest) → Fits (node 6 f a (cons n es)) → VF (law fitting) es
unfolding row_of
init6 f a n nil o = tt
init6 f a n (cons e nil) o = ((o.1.2.1, o.1.2.0), tt)
init6 f a n (cons e (cons d es)) o = absurd (long (length_f es) (and_right (leb 1 (suc (suc (suc (length_f es))))) (leb (suc (suc (suc (length_f es)))) 2) (and_right (leb 0 f && leb f 0) (leb 1 (suc (suc (suc (length_f es)))) && leb (suc (suc (suc (length_f es)))) 2) o.0)))

-- which is no binding and of no pattern
expression : (k : ℕ) → T (is_expr k) → (eqb k 20 || in_pattern k) ≡ false
expression k h =
    let l = leb→le 21 k (and_left (leb 21 k) (leb k 42) (and_left (leb 21 k && leb k 42) (not (eqb k 29)) h)) in
    let g = leb→le k 42 (and_right (leb 21 k) (leb k 42) (and_left (leb 21 k && leb k 42) (not (eqb k 29)) h)) in
    ap₂ ◌||◌ (ne_eqb k 20 (λ e. omega (arith, l, e))) (ap (λ (b : Bool). b && leb k 48) (no (leb 45 k) (λ t. (let m = leb→le 45 k t in omega (arith, m, g)))))
  where
    no : (b : Bool) → (T b → ⊥) → b ≡ false
    no true f = absurd (f tt)
    no false f = refl

pub init-value : (f a : ℕ) (n : Tree) (es : Forest) → Fits (node 6 f a (cons n es)) → Expressions es
init-value f a n es o = go es (init6 f a n es o)
  where
    one : (t : Tree) → T (is_expr (kind t)) → skeleton t ≡ nothing
    one (node k g b ts) h = ap {B = Tree} (λ (c : Bool). elim c [ true ↦ node k (pick (eqb k 20) (g % 2) g) b (skeletons ts) | false ↦ nothing ]) (expression k h)

    go : (es : Forest) → VF (law fitting) es → Expressions es
    go nil v = tt
    go (cons e es) v = (one e v.0.1, go es v.1)

declarators : (m n : ℕ) (c : Class) → T (allows c 6 m) → T (allows c 6 n)
declarators m n Root h = h
declarators m n Statement h = h
declarators m n Expression h = h
declarators m n Binding h = h
declarators m n Name h = h
declarators m n Target h = h
declarators m n Block h = h
declarators m n Declarator h = h
declarators m n Catch h = h
declarators m n Case h = h
declarators m n Property h = h
declarators m n PatternProperty h = h
declarators m n Updated h = h
declarators m n Assigned h = h
declarators m n Destructured h = h
declarators m n Start h = h
declarators m n Head h = h

taken6 : (f a : ℕ) (n e : Tree) (es : Forest) → Fits (node 6 f a (cons n (cons e es))) → Fits (node 6 f a (cons n es)) × Rel (node 6 f a (cons n (cons e es))) (node 6 f a (cons n es))
unfolding row_of
taken6 f a n e nil o = ((both (leb 0 f && leb f 0) true (and_left (leb 0 f && leb f 0) true o.0) tt, (o.1.0, o.1.1, tt)), λ c x y. declarators 2 1 c y)
taken6 f a n e (cons d es) o = absurd (long (length_f es) (and_right (leb 1 (suc (suc (suc (length_f es))))) (leb (suc (suc (suc (length_f es)))) 2) (and_right (leb 0 f && leb f 0) (leb 1 (suc (suc (suc (length_f es)))) && leb (suc (suc (suc (length_f es)))) 2) o.0)))

-- a binding as an identifier
bound20 : (f a : ℕ) (ts : Forest) → Fits (node 20 f a ts) → Fits (node 21 f a ts)
unfolding row_of
bound20 f a nil o = (tt, tt)
bound20 f a (cons t ts) o = absurd (none (length_f ts) (and_right (leb 0 (suc (length_f ts))) (leb (suc (length_f ts)) 0) o.0))
  where
    none : (m : ℕ) → T (leb (suc m) 0) → ⊥
    none m h = (let l = leb→le (suc m) 0 h in omega (arith, l))

-- an expression where an identifier stood
idents : (k m n : ℕ) → T (is_expr k) → (c : Class) → (T (updated c) → ⊥) → T (allows c 21 m) → T (allows c k n)
idents k m n e Root x h = absurd h
idents k m n e Statement x h = absurd h
idents k m n e Expression x h = e
idents k m n e Binding x h = absurd h
idents k m n e Name x h = absurd h
idents k m n e Target x h = absurd h
idents k m n e Block x h = absurd h
idents k m n e Declarator x h = absurd h
idents k m n e Catch x h = absurd h
idents k m n e Case x h = absurd h
idents k m n e Property x h = absurd h
idents k m n e PatternProperty x h = absurd h
idents k m n e Updated x h = absurd (x tt)
idents k m n e Assigned x h = absurd h
idents k m n e Destructured x h = absurd h
idents k m n e Start x h = or_right (eqb k 5) (is_expr k) e
idents k m n e Head x h = absurd h

pub kept : TreeEffects fitting
unfolding row_of
kept = record {
  q-refl = λ t c x y. y;
  q-trans = λ t u v h k c x y. k c x (h c x y);
  kids = λ p k f a ts o. goods (suc p) (row_at k f) (length_f ts) zero ts o.1;
  around = λ p k f a ts us o h q e. around-ok (suc p) k f a ts us o h q (e tt).0;
  body = λ p k f a ts l x o. no_other ts (body_ok k f a ts x o);
  init = λ p k f a n es x o. init6 f a n es (subst (λ (m : ℕ). Fits (node m f a (cons n es))) (eqb→eq k 6 x) o);
  taken = λ p k f a n e es x o. subst (λ (m : ℕ). Fits (node m f a (cons n es)) × Rel (node m f a (cons n (cons e es))) (node m f a (cons n es))) (sym (eqb→eq k 6 x)) (taken6 f a n e es (subst (λ (m : ℕ). Fits (node m f a (cons n (cons e es)))) (eqb→eq k 6 x) o));
  bound = λ p t o h. binding t o h;
  cheap = λ p t o h. (o, by_kind (kind t) h);
  void = ((tt, (tt, (tt, tt), tt)), tt);
  replaced = λ p t e o i v h. (v.0, replaced t e i v.1);
}
  where
    binding : (t : Tree) → Fits t → T (eqb (kind t) 20) → Fits (Walk.as_ident t) × T (is_expr (kind (Walk.as_ident t)))
    binding (node k f a ts) o h = (bound20 f a ts (subst (λ (m : ℕ). Fits (node m f a ts)) (eqb→eq k 20 h) o), tt)

    by_kind : (k : ℕ) → T (eqb k 22 || eqb k 21) → T (is_expr k)
    by_kind k h = go (eqb k 22) refl (eqb k 21) refl h
      where
        go : (p : Bool) → eqb k 22 ≡ p → (q : Bool) → eqb k 21 ≡ q → T (p || q) → T (is_expr k)
        go true e q d h = subst (λ (m : ℕ). T (is_expr m)) (sym (eqb→eq k 22 (is_T _ e))) tt
        go false e true d h = subst (λ (m : ℕ). T (is_expr m)) (sym (eqb→eq k 21 (is_T _ d))) tt
        go false e false d h = absurd h

    replaced : (t e : Tree) → T (is_ident t) → T (is_expr (kind e)) → Rel t e
    replaced (node k f a ts) e i x c y z = idents (kind e) (length_f ts) (length_f (kids e)) x c y (at-kind (λ m. allows c m (length_f ts)) k 21 i z)

out : (t : Tree) (o : Walk.Outcome) → Readable t → Passed (law fitting) (flagged t) (Walk.start t) o → SmallOut o → ReadableOut o
out t (Walk.refused n) r h k = tt
out t (Walk.result m c u ms) r h k = record { root = h.related Root (λ x. x) (flag-allows (twice (kids t)) t (λ k m. T (allows Root k m)) r.root); fits = h.good; small = k }

pub result-readable : ResultReadable
result-readable n t r = out t (Walk.core_pass n t) r (pass-does (law fitting) (effects fitting kept) n t (flag-fits (twice (kids t)) t r.fits) (started fitting t)) (stays-small n t r.small)
