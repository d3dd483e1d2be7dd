-- What row 6 shows of the fields that the core of a node leaves out. Assumes nothing.
use mathlib.Core.Path.{◌≡◌, refl, sym, ap, ◌∙◌}
use mathlib.Core.Bool.{Bool, true, false, ◌&&◌, ◌||◌}
use mathlib.Core.List.{List, [], ◌∷◌}
use Prim.Native.Nat.{ℕ, zero, suc, ◌-◌, ◌≤◌, ◌<◌}
use native.Mathlib.Nat.{le_of_suc-le-suc, not-suc-le-zero}
use native.Mathlib.Omega.{arith}
use borrow.Author.Tests.{eqb-true}
use lib.Dec.{T, eqb, leb, leb→le, ltb}
use lib.ListN.{length, get_or}
use Rattle.def_tree.specs.Base.{pick}
use Rattle.def_file.specs.declared.Raw.{Raw}
use Rattle.def_file.specs.declared.kinds.Class.TheVariants.{Root}
use Rattle.def_file.specs.declared.kinds.Row.{Row}
use Rattle.def_file.specs.Kinds.{row_of, form_ok, uses_text, uses_bits}
use Rattle.def_file.specs.Script.{Script, has_id, zero_node}
use Rattle.def_file.specs.Core.{has_text}
use Rattle.def_file.specs.Read.{Place, node_ok, below, fills, nodes_ok}
use Rattle.def_file.proofs.Tested.{Tested, tested}
use Rattle.def_tree.proofs.Tests.{is_T, is_true, and_left, and_right}

pub record Zeros (x : Raw) : Type 0 where
  pub text : uses_text x.kind ≡ false → x.text ≡ 0
  pub bits : uses_bits x.kind ≡ false → x.bits ≡ 0
  pub form : has_id x ≡ true → x.form ≡ 0

-- 20 binding and 21 identifier have the form 0 alone
id-row : (k f : ℕ) (a b : Bool) → eqb k 20 ≡ a → eqb k 21 ≡ b → (a || b) ≡ true → (row_of k f).to ≡ 0
unfolding row_of
id-row k f true b e q h = ap (λ (j : ℕ). (row_of j f).to) (eqb-true k 20 e)
id-row k f false true e q h = ap (λ (j : ℕ). (row_of j f).to) (eqb-true k 21 q)
id-row k f false false e q h = absurd (is_T false h)

zeros : (t : ℕ) (p : Place) (x : Raw) → node_ok t p x ≡ true → Zeros x
zeros t p x q = record { text = of-text (uses_text x.kind) known; bits = of-bits (uses_bits x.kind) unused; form = of-form }
  where
    r : Row
    r = row_of x.kind x.form

    five : Tested t p x
    five = tested t p x (is_T _ q)

    known : T (pick (uses_text x.kind) (ltb x.text t) (eqb x.text 0))
    known = and_left (pick (uses_text x.kind) (ltb x.text t) (eqb x.text 0)) (uses_bits x.kind || eqb x.bits 0) five.fields

    unused : T (uses_bits x.kind || eqb x.bits 0)
    unused = and_right (pick (uses_text x.kind) (ltb x.text t) (eqb x.text 0)) (uses_bits x.kind || eqb x.bits 0) five.fields

    of-text : (b : Bool) → T (pick b (ltb x.text t) (eqb x.text 0)) → b ≡ false → x.text ≡ 0
    of-text true h e = absurd (is_T false (sym e))
    of-text false h e = eqb-true x.text 0 (is_true (eqb x.text 0) h)

    of-bits : (b : Bool) → T (b || eqb x.bits 0) → b ≡ false → x.bits ≡ 0
    of-bits true h e = absurd (is_T false (sym e))
    of-bits false h e = eqb-true x.bits 0 (is_true (eqb x.bits 0) h)

    low : T (form_ok r x.form) → x.form ≤ r.to
    low h = leb→le x.form r.to (and_right (leb r.from x.form) (leb x.form r.to) h)

    of-form : has_id x ≡ true → x.form ≡ 0
    of-form h = omega (arith, low five.form, id-row x.kind x.form (eqb x.kind 20) (eqb x.kind 21) refl refl h)

filled : (t : ℕ) (ps : List Place) (xs : List Raw) → fills t ps xs ≡ true → (k : ℕ) → k < length xs → Zeros (get_or xs k zero_node)
unfolding fills
filled t ps [] e k h = absurd (not-suc-le-zero h)
filled t [] (x ∷ xs) e k h = absurd (is_T false e)
filled t (p ∷ ps) (x ∷ xs) e zero h = go (node_ok t p x) refl e
  where
    go : (b : Bool) → node_ok t p x ≡ b → elim b [ true ↦ fills t (below (p.left - 1) x 0 x.arity ps) xs | false ↦ false ] ≡ true → Zeros x
    go true q z = zeros t p x q
    go false q z = absurd (is_T false z)
filled t (p ∷ ps) (x ∷ xs) e (suc k) h = go (node_ok t p x) e (λ z. filled t (below (p.left - 1) x 0 x.arity ps) xs z k (le_of_suc-le-suc h))
  where
    go : (b : Bool) → elim b [ true ↦ fills t (below (p.left - 1) x 0 x.arity ps) xs | false ↦ false ] ≡ true → (fills t (below (p.left - 1) x 0 x.arity ps) xs ≡ true → Zeros (get_or xs k zero_node)) → Zeros (get_or xs k zero_node)
    go true z r = r z
    go false z r = absurd (is_T false z)

pub node-zeros : (s : Script) → nodes_ok s ≡ true → (k : ℕ) → k < length s.nodes → Zeros (get_or s.nodes k zero_node)
unfolding nodes_ok
node-zeros s e k h = filled (length s.texts) (record { class = Root; left = 200 } ∷ []) s.nodes e k h

-- a kind that is no literal's
not-lit : (k m : ℕ) → (leb 22 m && leb m 25) ≡ true → (leb 22 k && leb k 25) ≡ false → eqb k m ≡ false
not-lit k m h q = go (eqb k m) refl
  where
    go : (b : Bool) → eqb k m ≡ b → eqb k m ≡ false
    go true e = absurd (is_T false (sym q ∙ ap (λ (j : ℕ). leb 22 j && leb j 25) (eqb-true k m e) ∙ h))
    go false e = e

three : (a b c : Bool) → (a || b) ≡ false → c ≡ false → (a || b || c) ≡ false
three true b c p q = absurd (is_T false (sym p))
three false true c p q = absurd (is_T false (sym p))
three false false c p q = q

six : (a b c d e f : Bool) → (a || b) ≡ false → c ≡ false → (d || e || f) ≡ false → (a || b || c || d || e || f) ≡ false
six true b c d e f p q r = absurd (is_T false (sym p))
six false true c d e f p q r = absurd (is_T false (sym p))
six false false true d e f p q r = absurd (is_T false (sym q))
six false false false d e f p q r = r

-- neither name nor literal: no bits; and neither property, member nor pattern property: no text
module _ (k : ℕ) (name : (eqb k 20 || eqb k 21) ≡ false) (literal : (leb 22 k && leb k 25) ≡ false) where
  pub no_text : has_text k ≡ false → uses_text k ≡ false
  no_text r = six (eqb k 20) (eqb k 21) (eqb k 25) (eqb k 29) (eqb k 37) (eqb k 47) name (not-lit k 25 refl literal) r

  pub no_bits : uses_bits k ≡ false
  no_bits = three (eqb k 20) (eqb k 21) (eqb k 24) name (not-lit k 24 refl literal)
