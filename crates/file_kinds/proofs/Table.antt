-- The constant table: no entry is missing, none is idle, and reading with it is reading without it. Assumes nothing.
use Rattle.std.proofs.Common.{◌≡◌, ℕ, zero, suc, ◌+◌, ◌-◌, ◌*◌, ◌/◌, ◌%◌, ◌<◌, ◌≤◌, eqb, leb, Bool, true, false, ◌&&◌, List, [], ◌∷◌, get_or, refl, sym, ap, ◌∙◌, arith}
use Rattle.std.specs.Prelude.{Option, Some, None}
use Rattle.std.proofs.lemmas.Bool.{and_parts, and_from, leb-true, le-leb, eqb-true, eq-eqb, true≢false}
use Rattle.std.proofs.lemmas.Nat.{div-mul-add, mod-mul-add}
use Rattle.def_tree.specs.Base.{to_nat}
use Rattle.def_file.specs.declared.Raw.{Raw}
use Rattle.def_file.specs.declared.kinds.Class.TheVariants.{Root}
use Rattle.def_file.specs.Kinds.{allows, row_of, form_ok, count_ok}
use Rattle.def_file.specs.Read.{Place, node_ok, below, fills}
use Rattle.def_kinds.specs.Stands.{stands}
use Rattle.def_kinds.specs.Pairs.{allowed, under, parents, pairs}
use Rattle.file_kinds.specs.declared.TheConstants.{KINDS}
use Rattle.def_tree.proofs.Tests.{is_T, is_true}
use Rattle.def_file.proofs.Tested.{tested}
use Rattle.file_kinds.specs.Table.{NoneMissing, NoneIdle, Unmoved}
use Rattle.file_kinds.proofs.Whole.{agrees}
use Rattle.file_kinds.proofs.Places.{takes-stands, takes-kinds, stands-somewhere}

-- the entry of a parent and a child
entry : (p c : ℕ) → 1 ≤ p → p ≤ 48 → 1 ≤ c → c ≤ 48 → get_or KINDS ((p - 1) * 48 + (c - 1)) 0 ≡ to_nat (stands p c)
entry p c a b d e =
    let q : (p - 1) * 48 + (c - 1) < 2304 = omega arith in
    let row : ((p - 1) * 48 + (c - 1)) / 48 + 1 ≡ p = rw (div-mul-add (p - 1) 48 (c - 1) (omega arith)) (omega arith) in
    let column : ((p - 1) * 48 + (c - 1)) % 48 + 1 ≡ c = rw (mod-mul-add (p - 1) 48 (c - 1) (omega arith)) (omega arith) in
    agrees ((p - 1) * 48 + (c - 1)) q ∙ ap (λ (r : ℕ). to_nat (stands r (((p - 1) * 48 + (c - 1)) % 48 + 1))) row ∙ ap (λ (r : ℕ). to_nat (stands p r)) column

pub none-missing : NoneMissing KINDS
none-missing p f n i c m t =
    let k = takes-kinds p f n i c m t in
    let one = entry p c k.0 k.1 k.2 k.3 ∙ ap to_nat (takes-stands p f n i c m t) in
    let head = and_from (leb 1 p && leb p 48 && leb 1 c) (leb c 48) (and_from (leb 1 p && leb p 48) (leb 1 c) (and_from (leb 1 p) (leb p 48) (le-leb 1 p k.0) (le-leb p 48 k.1)) (le-leb 1 c k.2)) (le-leb c 48 k.3) in
    and_from (leb 1 p && leb p 48 && leb 1 c && leb c 48) (eqb (get_or KINDS ((p - 1) * 48 + (c - 1)) 0) 1) head (eq-eqb _ 1 one)

-- a number that is 1 is that of a test that passes
one-true : (b : Bool) → to_nat b ≡ 1 → b ≡ true
one-true true e = refl
one-true false e = absurd (omega (arith, e))

pub none-idle : NoneIdle KINDS
none-idle p c e =
    let a = and_parts (leb 1 p && leb p 48 && leb 1 c && leb c 48) (eqb (get_or KINDS ((p - 1) * 48 + (c - 1)) 0) 1) e in
    let b = and_parts (leb 1 p && leb p 48 && leb 1 c) (leb c 48) a.0 in
    let d = and_parts (leb 1 p && leb p 48) (leb 1 c) b.0 in
    let g = and_parts (leb 1 p) (leb p 48) d.0 in
    let one = sym (entry p c (leb-true 1 p g.0) (leb-true p 48 g.1) (leb-true 1 c d.1) (leb-true c 48 b.1)) ∙ eqb-true _ 1 a.1 in
    stands-somewhere p c (one-true (stands p c) one)

-- at a place below q whatever the place takes is allowed
abbrev Below : Place → Option ℕ → Type 0
Below p None = Unit {0}
Below p (Some k) = (c m : ℕ) → allows p.class c m ≡ true → allowed KINDS k c ≡ true

below-under : (p : Place) (q : Option ℕ) (c m : ℕ) → Below p q → allows p.class c m ≡ true → under KINDS q c ≡ true
below-under p None c m d e = refl
below-under p (Some k) c m d e = d c m e

-- each place of the one list is below the parent at its place in the other
abbrev Matched : List Place → List (Option ℕ) → Type 0
Matched [] qs = Unit {0}
Matched (p ∷ ps) [] = Unit {0}
Matched (p ∷ ps) (q ∷ qs) = Below p q × Matched ps qs

-- so are the places of a node's children
matched-below : (n : ℕ) (x : Raw) → form_ok (row_of x.kind x.form) x.form ≡ true → count_ok (row_of x.kind x.form) x.arity ≡ true
    → (i m : ℕ) → i + m ≤ x.arity → (ps : List Place) (qs : List (Option ℕ)) → Matched ps qs → Matched (below n x i m ps) (parents x.kind m qs)
unfolding below
matched-below n x f k i zero h ps qs d = d
matched-below n x f k i (suc m) h ps qs d =
    (λ c j e. none-missing x.kind x.form x.arity i c j (record { form = f; count = k; place = omega arith; child = e }), matched-below n x f k (suc i) m (omega arith) ps qs d)

-- the tests of a node that fits
module _ (t : ℕ) (p : Place) (x : Raw) (e : node_ok t p x ≡ true) where
  fits-parts : (allows p.class x.kind x.arity ≡ true) × (form_ok (row_of x.kind x.form) x.form ≡ true) × (count_ok (row_of x.kind x.form) x.arity ≡ true)
  fits-parts = let s = tested t p x (is_T _ e) in (is_true _ s.allowed, is_true _ s.form, is_true _ s.count)

pairs-allowed : (t : ℕ) (xs : List Raw) (ps : List Place) (qs : List (Option ℕ)) → Matched ps qs → fills t ps xs ≡ true → pairs KINDS qs xs ≡ true
unfolding fills pairs
pairs-allowed t [] ps qs d e = refl
pairs-allowed t (x ∷ xs) [] qs d e = absurd (true≢false (sym e))
pairs-allowed t (x ∷ xs) (p ∷ ps) [] d e = refl
pairs-allowed t (x ∷ xs) (p ∷ ps) (q ∷ qs) d e = go (node_ok t p x) refl e (λ m r. pairs-allowed t xs (below (p.left - 1) x 0 x.arity ps) (parents x.kind x.arity qs) m r)
  where
    go : (b : Bool) → node_ok t p x ≡ b → elim b [ true ↦ fills t (below (p.left - 1) x 0 x.arity ps) xs | false ↦ false ] ≡ true
        → (Matched (below (p.left - 1) x 0 x.arity ps) (parents x.kind x.arity qs) → fills t (below (p.left - 1) x 0 x.arity ps) xs ≡ true → pairs KINDS (parents x.kind x.arity qs) xs ≡ true)
        → pairs KINDS (q ∷ qs) (x ∷ xs) ≡ true
    go true s r rest =
        let h = fits-parts t p x s in
        ap {B = Bool} (λ (b : Bool). elim b [ true ↦ pairs KINDS (parents x.kind x.arity qs) xs | false ↦ false ]) (below-under p q x.kind x.arity d.0 h.0)
        ∙ rest (matched-below (p.left - 1) x h.1 h.2 0 x.arity (omega arith) ps qs d.1) r
    go false s r rest = absurd (true≢false (sym r))

pub unmoved : Unmoved KINDS
unmoved t xs e = pairs-allowed t xs (record { class = Root; left = 200 } ∷ []) (None ∷ []) (tt, tt) e
