-- Places filled by nodes that the table allows: what one node does, and its children one by one. Assumes nothing.
use mathlib.Core.Path.{◌≡◌, refl, sym, ap, ap₂, ◌∙◌, subst}
use mathlib.Core.Bool.{Bool, true, false, ◌&&◌}
use mathlib.Core.List.{List, [], ◌∷◌}
use Prim.Native.Nat.{ℕ, zero, suc, ◌+◌, ◌-◌, ◌*◌, ◌≤◌, ◌<◌}
use native.Mathlib.Numerals.{add-one}
use native.Mathlib.Nat.{sub-zero}
use native.Mathlib.Omega.{arith}
use lib.Dec.{T, ltb, ltb→lt, eqb, leb, leb→le, eqb-zero-suc, eqb-suc-suc}
use Rattle.def_tree.specs.Base.{pick}
use Rattle.def_file.specs.declared.kinds.Class.TheVariants as Kind
use lib.ListN.{length, get_or, drop, drop_of_length-le}
use lib.Seq.{drop-cons}
use Rattle.def_file.specs.declared.kinds.Class.{Class}
use Rattle.def_file.specs.declared.Raw.{Raw}
use Rattle.def_file.specs.declared.kinds.Row.{Row}
use Rattle.def_file.specs.Kinds.{allows, row_of, form_ok, count_ok, child_of}
use Rattle.def_file.specs.Script.{zero_node}
use Rattle.def_file.specs.Read.{Place, raw_of, fields_ok, node_ok, below, fills}
use Rattle.def_kinds.specs.Pairs.{under, parents, pairs}
use Rattle.def_file.proofs.Tested.{tested}
use Rattle.def_tree.proofs.Tests.{is_T, and_left, and_right}
use Rattle.std.proofs.Common.{Result, Ok, Err}
use Rattle.std.specs.Prelude.{Option, Some}
use Rattle.std.proofs.lemmas.Bool as bools
use Rattle.std.specs.Result.{MatchResult}
use Rattle.refusal.specs.declared.Refusal.{Refusal}
use Rattle.file_read.specs.declared.preorder.Child.{Child}
use Rattle.refusal.specs.declared.Refusal.TheVariants.{Nodes}
use Rattle.file_read.proofs.Raws.{nodes-length, node-raw}
use Rattle.file_read.specs.Child.{behind, place, fills_under, Kinded, Filled, nodes_of, Fitting}

-- one node more
step : (t : ℕ) (p : Place) (ps : List Place) (x : Raw) (xs : List Raw) (b : Bool) → node_ok t p x ≡ b
    → fills t (p ∷ ps) (x ∷ xs) ≡ elim b [ true ↦ fills t (below (p.left - 1) x 0 x.arity ps) xs | false ↦ false ]
unfolding fills
step t p ps x xs b e = ap {B = Bool} (λ (b : Bool). elim b [ true ↦ fills t (below (p.left - 1) x 0 x.arity ps) xs | false ↦ false ]) e

-- and its parent
pair-step : (table : List ℕ) (q : Option ℕ) (qs : List (Option ℕ)) (x : Raw) (xs : List Raw) (b : Bool) → under table q x.kind ≡ b
    → pairs table (q ∷ qs) (x ∷ xs) ≡ elim b [ true ↦ pairs table (parents x.kind x.arity qs) xs | false ↦ false ]
unfolding pairs
pair-step table q qs x xs b e = ap {B = Bool} (λ (b : Bool). elim b [ true ↦ pairs table (parents x.kind x.arity qs) xs | false ↦ false ]) e

module _ (t : ℕ) (table : List ℕ) (xs : List Raw) (at : ℕ) (p : Place) (q : Option ℕ) (ps : List Place) (qs : List (Option ℕ)) where
  -- a node that fits opens its children's places, under it
  fill-open : at < length xs → node_ok t p (get_or xs at zero_node) ≡ true → under table q (get_or xs at zero_node).kind ≡ true
      → fills_under t table (p ∷ ps) (q ∷ qs) (drop at xs)
      ≡ fills_under t table (below (p.left - 1) (get_or xs at zero_node) 0 (get_or xs at zero_node).arity ps) (parents (get_or xs at zero_node).kind (get_or xs at zero_node).arity qs) (drop (at + 1) xs)
  fill-open h e u =
      rw (drop-cons xs at zero_node h, add-one)
      (ap₂ (λ (a b : Bool). a && b) (step t p ps (get_or xs at zero_node) (drop (suc at) xs) true e) (pair-step table q qs (get_or xs at zero_node) (drop (suc at) xs) true u))

  -- one that does not fit, or that the table does not allow, or is missing, fills nothing
  pub fill-shut : at < length xs → node_ok t p (get_or xs at zero_node) ≡ false → fills_under t table (p ∷ ps) (q ∷ qs) (drop at xs) ≡ false
  fill-shut h e =
      rw (drop-cons xs at zero_node h)
      (bools.and_left (fills t (p ∷ ps) (get_or xs at zero_node ∷ drop (suc at) xs)) (pairs table (q ∷ qs) (get_or xs at zero_node ∷ drop (suc at) xs)) (step t p ps (get_or xs at zero_node) (drop (suc at) xs) false e))

  pub fill-barred : at < length xs → under table q (get_or xs at zero_node).kind ≡ false → fills_under t table (p ∷ ps) (q ∷ qs) (drop at xs) ≡ false
  fill-barred h u =
      rw (drop-cons xs at zero_node h)
      (bools.and_right (fills t (p ∷ ps) (get_or xs at zero_node ∷ drop (suc at) xs)) (pairs table (q ∷ qs) (get_or xs at zero_node ∷ drop (suc at) xs)) (pair-step table q qs (get_or xs at zero_node) (drop (suc at) xs) false u))

  pub fill_none : length xs ≤ at → fills_under t table (p ∷ ps) (q ∷ qs) (drop at xs) ≡ false
  unfolding fills
  fill_none h = rw (drop_of_length-le xs h) refl

-- what a node that fits shows of its place
module _ (t : ℕ) (p : Place) (x : Raw) where
  abbrev t2 : Bool
  t2 = allows p.class x.kind x.arity

  abbrev t3 : Bool
  t3 = fields_ok t x

  abbrev t4 : Bool
  t4 = form_ok (row_of x.kind x.form) x.form

  abbrev t5 : Bool
  t5 = count_ok (row_of x.kind x.form) x.arity

  pub deep-not : p.left ≡ 0 → node_ok t p x ≡ false
  unfolding node_ok
  deep-not q = rw q refl

  -- with some depth left the rest of the test decides
  pub deep-ok : 0 < p.left → node_ok t p x ≡ (t2 && t3 && t4 && t5)
  unfolding node_ok
  deep-ok h = ap {B = Bool} (λ (c : Bool). c && t2 && t3 && t4 && t5) (lt h)
    where
      lt : 0 < p.left → ltb 0 p.left ≡ true
      lt h = go (ltb 0 p.left) refl
        where
          go : (c : Bool) → ltb 0 p.left ≡ c → c ≡ true
          go true q = refl
          go false q = absurd (omega (arith, borrow.Author.Tests.ltb-false 0 p.left q))

  ok-left : node_ok t p x ≡ true → 0 < p.left
  ok-left q = ltb→lt 0 p.left (tested t p x (is_T _ q)).room

  pub ok-allows : node_ok t p x ≡ true → T t2
  ok-allows q = (tested t p x (is_T _ q)).allowed

  ok-count : node_ok t p x ≡ true → T t5
  ok-count q = (tested t p x (is_T _ q)).count

-- the places of children, one by one
pub below_step : (n : ℕ) (x : Raw) (i m : ℕ) (ps : List Place) → i < m
    → below n x i (m - i) ps ≡ place (child_of (row_of x.kind x.form) x.arity i) n ∷ below n x (i + 1) (m - (i + 1)) ps
unfolding below
below_step n x i m ps h = rw (e, add-one) refl
  where
    e : m - i ≡ suc (m - (i + 1))
    e = omega arith

pub below_end : (n : ℕ) (x : Raw) (i m : ℕ) (ps : List Place) → m ≤ i → below n x i (m - i) ps ≡ ps
unfolding below
below_end n x i m ps h = rw e refl
  where
    e : m - i ≡ 0
    e = omega arith

-- their parents
parents_step : (k : ℕ) (i m : ℕ) (qs : List (Option ℕ)) → i < m → parents k (m - i) qs ≡ Some k ∷ parents k (m - (i + 1)) qs
parents_step k i m qs h = rw e refl
  where
    e : m - i ≡ suc (m - (i + 1))
    e = omega arith

parents_end : (k : ℕ) (i m : ℕ) (qs : List (Option ℕ)) → m ≤ i → parents k (m - i) qs ≡ qs
parents_end k i m qs h = rw e refl
  where
    e : m - i ≡ 0
    e = omega arith

-- the first i children of the node x at `at` are read, with n levels left, and the next one is at `next`
pub record Upto (t : ℕ) (table : List ℕ) (xs : List Raw) (n : ℕ) (x : Raw) (at i next : ℕ) : Type 0 where
  pub is : (ps : List Place) (qs : List (Option ℕ)) → fills_under t table (below n x 0 x.arity ps) (parents x.kind x.arity qs) (drop (at + 1) xs) ≡ fills_under t table (below n x i (x.arity - i) ps) (parents x.kind (x.arity - i) qs) (drop next xs)
  pub inside : next ≤ length xs

-- the places of the children from i on, the next one first
next_place : (t : ℕ) (table : List ℕ) (xs : List Raw) (n : ℕ) (x : Raw) (i next : ℕ) → i < x.arity → (ps : List Place) (qs : List (Option ℕ))
    → fills_under t table (below n x i (x.arity - i) ps) (parents x.kind (x.arity - i) qs) (drop next xs)
    ≡ fills_under t table (place (child_of (row_of x.kind x.form) x.arity i) n ∷ below n x (i + 1) (x.arity - (i + 1)) ps) (Some x.kind ∷ parents x.kind (x.arity - (i + 1)) qs) (drop next xs)
next_place t table xs n x i next h ps qs = ap₂ (λ (rs : List Place) (ss : List (Option ℕ)). fills_under t table rs ss (drop next xs)) (below_step n x i x.arity ps h) (parents_step x.kind i x.arity qs h)

module _ {t : ℕ} {table : List ℕ} {xs : List Raw} {n : ℕ} {x : Raw} {at : ℕ} where
  upto-none : at < length xs → Upto t table xs n x at 0 (at + 1)
  upto-none h = record { is = λ ps qs. rw sub-zero refl; inside = omega arith }

  pub upto-more : {i next : ℕ} {c : Child} → Upto t table xs n x at i next → i < x.arity → Filled t table xs (place (child_of (row_of x.kind x.form) x.arity i) n) (Some x.kind) next (Ok c) → Upto t table xs n x at (i + 1) (behind c)
  upto-more {i} {next} u h f =
      record {
        is = λ ps qs. u.is ps qs ∙ next_place t table xs n x i next h ps qs ∙ f.is (below n x (i + 1) (x.arity - (i + 1)) ps) (parents x.kind (x.arity - (i + 1)) qs);
        inside = f.fits.0;
      }

  upto-refused : {i next : ℕ} {m : Refusal} → Upto t table xs n x at i next → i < x.arity → Filled t table xs (place (child_of (row_of x.kind x.form) x.arity i) n) (Some x.kind) next (Err m)
      → (ps : List Place) (qs : List (Option ℕ)) → fills_under t table (below n x 0 x.arity ps) (parents x.kind x.arity qs) (drop (at + 1) xs) ≡ false
  upto-refused {i} {next} u h f ps qs = u.is ps qs ∙ next_place t table xs n x i next h ps qs ∙ f.is (below n x (i + 1) (x.arity - (i + 1)) ps) (parents x.kind (x.arity - (i + 1)) qs)

  upto-end : {i next : ℕ} → Upto t table xs n x at i next → x.arity ≤ i
      → (ps : List Place) (qs : List (Option ℕ)) → fills_under t table (below n x 0 x.arity ps) (parents x.kind x.arity qs) (drop (at + 1) xs) ≡ fills_under t table ps qs (drop next xs)
  upto-end {i} {next} u h ps qs = u.is ps qs ∙ ap₂ (λ (rs : List Place) (ss : List (Option ℕ)). fills_under t table rs ss (drop next xs)) (below_end n x i x.arity ps h) (parents_end x.kind i x.arity qs h)

-- a node that fits its place, at index `at`
module _ {bs : List ℕ} {n t : ℕ} {table : List ℕ} {at : ℕ} {p : Place} {q : Option ℕ} (F : Fitting bs n t table at p q) where
  abbrev xs : List Raw
  xs = nodes_of bs n

  abbrev x : Raw
  x = get_or xs at zero_node

  inside : at < length xs
  inside = rw nodes-length F.less

  pub fitting-read : {y : Raw} → y ≡ raw_of (drop (32 + 16 * at) bs) → y ≡ x
  fitting-read e = e ∙ sym (node-raw n at bs F.less)

  pub fitting-left : 0 < p.left
  fitting-left = ok-left t p x F.fits

  -- its children are read one by one
  pub fitting-none : Upto t table xs (p.left - 1) x at 0 (at + 1)
  fitting-none = upto-none inside

  -- until all are, or one is refused
  pub fitting-all : {i next : ℕ} (c : Child) → Upto t table xs (p.left - 1) x at i next → x.arity ≤ i → behind c ≡ next → Kinded p x c → Filled t table xs p q at (Ok c)
  fitting-all {i} {next} c u h e k =
      record {
        is = λ ps qs. fill-open t table xs at p q ps qs inside F.fits F.stands ∙ upto-end u h ps qs ∙ ap (λ (j : ℕ). fills_under t table ps qs (drop j xs)) (sym e);
        fits = (rw e u.inside, k);
      }

  pub fitting-refused : {i next : ℕ} {m : Refusal} → Upto t table xs (p.left - 1) x at i next → i < x.arity
      → Filled t table xs (place (child_of (row_of x.kind x.form) x.arity i) (p.left - 1)) (Some x.kind) next (Err m) → Filled t table xs p q at (Err m)
  fitting-refused u h f = record { is = λ ps qs. fill-open t table xs at p q ps qs inside F.fits F.stands ∙ upto-refused u h f ps qs; fits = f.fits }

-- one that does not fit, or is missing
pub unfit : {t : ℕ} {table : List ℕ} {at : ℕ} {xs : List Raw} {p : Place} {q : Option ℕ} → ((ps : List Place) (qs : List (Option ℕ)) → fills_under t table (p ∷ ps) (q ∷ qs) (drop at xs) ≡ false) → Filled t table xs p q at (Err Nodes)
unfit h = record { is = h; fits = refl }

-- a child's place, as the code found its class: x is the node, row its kind's row
pub child-at : {t : ℕ} {table : List ℕ} {xs : List Raw} {n next : ℕ} {r : Result Child Refusal} {x x₀ : Raw} {row : Row} {c : Class} (i : ℕ) → x ≡ x₀ → row ≡ row_of x.kind x.form → c ≡ child_of row x.arity i
    → Filled t table xs (place c n) (Some x.kind) next r → Filled t table xs (place (child_of (row_of x₀.kind x₀.form) x₀.arity i) n) (Some x₀.kind) next r
child-at {t} {table} {xs} {n} {next} {r} {x} {x₀} {row} {c} i p q e f =
    subst (λ (y : Raw). Filled t table xs (place (child_of (row_of y.kind y.form) y.arity i) n) (Some y.kind) next r) p
    (subst (λ (d : Class). Filled t table xs (place d n) (Some x.kind) next r) (e ∙ ap (λ (s : Row). child_of s x.arity i) q) f)

-- the child of a node that was read at x₀
pub child-of : {t : ℕ} {table : List ℕ} {xs : List Raw} {n next : ℕ} {r : Result Child Refusal} {x x₀ : Raw} {c : Class} → x ≡ x₀ → Filled t table xs (place c n) (Some x.kind) next r → Filled t table xs (place c n) (Some x₀.kind) next r
child-of {t} {table} {xs} {n} {next} {r} {x} {x₀} {c} p f = subst (λ (y : Raw). Filled t table xs (place c n) (Some y.kind) next r) p f

-- 6 declarator: it has one child or two, the first a name (20, 45 or 46) and the second an expression
declr-some : (x : Raw) → x.kind ≡ 6 → T (count_ok (row_of x.kind x.form) x.arity) → 0 < x.arity
unfolding row_of
declr-some x k h = leb→le 1 x.arity (and_left (leb 1 x.arity) (leb x.arity 2) (rw k at h))

declr-two : (x : Raw) → x.kind ≡ 6 → T (count_ok (row_of x.kind x.form) x.arity) → (x.arity ≡ 1 → ⊥) → x.arity ≡ 2
unfolding row_of
declr-two x k h n =
    let lo = leb→le 1 x.arity (and_left (leb 1 x.arity) (leb x.arity 2) (rw k at h)) in
    let hi = leb→le x.arity 2 (and_right (leb 1 x.arity) (leb x.arity 2) (rw k at h)) in
    omega (arith, lo, hi)

first-name : (f n : ℕ) → child_of (row_of 6 f) n 0 ≡ Kind.Name
unfolding row_of
first-name f n = go (eqb n 1)
  where
    go : (b : Bool) → pick b Kind.Name Kind.Name ≡ Kind.Name
    go true = refl
    go false = refl

declr-first : {t : ℕ} {table : List ℕ} {xs : List Raw} {n next : ℕ} {q : Option ℕ} {r : Result Child Refusal} (x : Raw) → x.kind ≡ 6 → Filled t table xs (place Kind.Name n) q next r → Filled t table xs (place (child_of (row_of x.kind x.form) x.arity 0) n) q next r
declr-first {t} {table} {xs} {n} {next} {q} {r} x k f = subst (λ (d : Class). Filled t table xs (place d n) q next r) (sym (ap (λ (j : ℕ). child_of (row_of j x.form) x.arity 0) k ∙ first-name x.form x.arity)) f

declr-second : {t : ℕ} {table : List ℕ} {xs : List Raw} {n next : ℕ} {q : Option ℕ} {r : Result Child Refusal} (x : Raw) → x.kind ≡ 6 → x.arity ≡ 2 → Filled t table xs (place Kind.Expression n) q next r → Filled t table xs (place (child_of (row_of x.kind x.form) x.arity 1) n) q next r
unfolding row_of
declr-second {t} {table} {xs} {n} {next} {q} {r} x k m f = subst (λ (d : Class). Filled t table xs (place d n) q next r) (sym (ap (λ (j : ℕ). child_of (row_of j x.form) x.arity 1) k ∙ ap (λ (j : ℕ). child_of (row_of 6 x.form) j 1) m)) f

module _ {bs : List ℕ} {n t : ℕ} {table : List ℕ} {at : ℕ} {p : Place} {q : Option ℕ} (F : Fitting bs n t table at p q) (k : (get_or (nodes_of bs n) at zero_node).kind ≡ 6) where
  abbrev ys : List Raw
  ys = nodes_of bs n

  abbrev y : Raw
  y = get_or ys at zero_node

  counted : T (count_ok (row_of y.kind y.form) y.arity)
  counted = ok-count t p y F.fits

  other : (j : ℕ) → Kinded p y (Child.Other j)
  other j = (ok-allows t p y F.fits, rw k refl)

  pub declr-unnamed : {m : Refusal} → Filled t table ys (place Kind.Name (p.left - 1)) (Some y.kind) (at + 1) (Err m) → Filled t table ys p q at (Err m)
  declr-unnamed f = fitting-refused F (fitting-none F) (declr-some y k counted) (declr-first y k f)

  -- its first child is a name
  pub declr-no_other : {c : Child} {j : ℕ} → Filled t table ys (place Kind.Name (p.left - 1)) (Some y.kind) (at + 1) (Ok c) → c ≡ Child.Other j → ⊥
  declr-no_other f e = let h = subst (Kinded (place Kind.Name (p.left - 1)) (get_or ys (at + 1) zero_node)) e f.fits.1 in subst T h.1 h.0

  module _ {c : Child} {next : ℕ} (f : Filled t table ys (place Kind.Name (p.left - 1)) (Some y.kind) (at + 1) (Ok c)) (e : c ≡ Child.Binding next) where
    named : Upto t table ys (p.left - 1) y at 1 next
    named = subst (λ (d : Child). Upto t table ys (p.left - 1) y at 1 (behind d)) e (upto-more (fitting-none F) (declr-some y k counted) (declr-first y k f))

    pub declr-alone : y.arity ≡ 1 → Filled t table ys p q at (Ok (Child.Other next))
    declr-alone o = fitting-all F (Child.Other next) named (omega arith) refl (other next)

    module _ (o : y.arity ≡ 1 → ⊥) where
      two : y.arity ≡ 2
      two = declr-two y k counted o

      pub declr-init : {d : Child} {m : ℕ} → Filled t table ys (place Kind.Expression (p.left - 1)) (Some y.kind) next (Ok d) → m ≡ behind d → Filled t table ys p q at (Ok (Child.Other m))
      declr-init {d} {m} g q = fitting-all F (Child.Other m) (upto-more named (omega (arith, two)) (declr-second y k two g)) (omega (arith, two)) q (other m)

      pub declr-bad : {m : Refusal} → Filled t table ys (place Kind.Expression (p.left - 1)) (Some y.kind) next (Err m) → Filled t table ys p q at (Err m)
      declr-bad g = fitting-refused F named (omega (arith, two)) (declr-second y k two g)

-- the test of a node, but for the depth, looks at the node alone
pub rest-same : {x y : Raw} (t : ℕ) (c : Class) → x ≡ y
    → (allows c y.kind y.arity && fields_ok t y && form_ok (row_of y.kind y.form) y.form && count_ok (row_of y.kind y.form) y.arity)
    ≡ (allows c x.kind x.arity && fields_ok t x && form_ok (row_of x.kind x.form) x.form && count_ok (row_of x.kind x.form) x.arity)
rest-same t c e = ap (λ (z : Raw). allows c z.kind z.arity && fields_ok t z && form_ok (row_of z.kind z.form) z.form && count_ok (row_of z.kind z.form) z.arity) (sym e)

-- at the end no place is left, and no node may be
fills-end : (t : ℕ) (xs : List Raw) (j : ℕ) → j ≤ length xs → fills t [] (drop j xs) ≡ eqb j (length xs)
unfolding fills
fills-end t [] zero h = refl
fills-end t [] (suc j) h = absurd (omega arith)
fills-end t (x ∷ xs) zero h = sym (eqb-zero-suc (length xs))
fills-end t (x ∷ xs) (suc j) h = fills-end t xs j (omega arith) ∙ sym (eqb-suc-suc j (length xs))

-- where no place is left the table is asked for no node
pairs-none : (table : List ℕ) (zs : List Raw) → pairs table [] zs ≡ true
unfolding pairs
pairs-none table [] = refl
pairs-none table (z ∷ zs) = refl

and-true : (a b : Bool) → b ≡ true → (a && b) ≡ a
and-true true b e = e
and-true false b e = refl

fills_under-end : (t : ℕ) (table : List ℕ) (xs : List Raw) (j : ℕ) → j ≤ length xs → fills_under t table [] [] (drop j xs) ≡ eqb j (length xs)
fills_under-end t table xs j h = and-true (fills t [] (drop j xs)) (pairs table [] (drop j xs)) (pairs-none table (drop j xs)) ∙ fills-end t xs j h

-- what a test of the index behind the script's node says of its place
pub filled-whole : {t n : ℕ} {table : List ℕ} {xs : List Raw} {p : Place} {q : Option ℕ} {P : Child → Type 0} (r : Result Child Refusal) (b : Bool) → length xs ≡ n → Filled t table xs p q 0 r → MatchResult r P (λ _. b ≡ false)
    → ((c : Child) → P c → b ≡ eqb (behind c) n) → b ≡ fills_under t table (p ∷ []) (q ∷ []) xs
filled-whole {t} {n} {table} {xs} (Ok c) b e f m h = h c m ∙ ap (eqb (behind c)) (sym e) ∙ sym (f.is [] [] ∙ fills_under-end t table xs (behind c) f.fits.0)
filled-whole (Err _) b e f m h = m ∙ sym (f.is [] [])

-- a table that allows all that fills its places changes nothing
pub and-implied : (a b : Bool) → (a ≡ true → b ≡ true) → (a && b) ≡ a
and-implied true b h = h refl
and-implied false b h = refl
