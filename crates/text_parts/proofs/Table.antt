-- The parts of a row in the constant table: where they are, that they fit its kind, and how many children they ask for. Assumes nothing.
use Rattle.std.proofs.Common.{◌≡◌, ℕ, zero, suc, ◌+◌, ◌*◌, ◌<◌, ◌≤◌, Bool, true, ◌&&◌, eqb, ltb, List, [], ◌∷◌, ◌++◌, length, get_or, take, drop, Option, None, refl, sym, ap, ◌∙◌, subst, arith}
use lib.Dec.{eqb_refl}
use Rattle.std.specs.Prelude.{T, not}
use Rattle.std.proofs.lemmas.Bool.{eqb-true, ltb-true}
use Rattle.def_file.specs.Kinds.{uses_text}
use Rattle.def_text.specs.Words.{every}
use Rattle.def_text.specs.Grammar.{Part as Right, word, own, kid, run, commas, more, look, if_has, if_not, one_default}
use Rattle.def_text.specs.Table.{rules}
use Rattle.laws_text.proofs.Basics.{and_left, and_right, is_true, T-not, every-split}
use Rattle.text_table.specs.declared.Sort.{Sort}
use Rattle.text_table.specs.declared.Sort.TheVariants as Sorts
use Rattle.text_table.specs.declared.Part.{Part}
use Rattle.text_table.specs.declared.Part.TheVariants as Parts
use Rattle.text_table.specs.Rows.{words, Row, rows, no_row, parts, parts_of, all_parts}
use Rattle.text_table.proofs.Table.{table-parts}
use Rattle.text_rows.proofs.Tests.{rows-length}
use Rattle.text_tokens.specs.Tokens.{SortFits}
use Rattle.text_parts.specs.Parts.{list_length, PartFits, kid_count}
use Rattle.text_parts.specs.Claims.{InTable, Fitting, AllKids}
use Rattle.text_parts.proofs.Tests.{row-at, need, need-all, good-at}

-- ---- where they are

parts-length : (m : ℕ) (c : Option ℕ) (ps : List Right) → length (parts m c ps) ≡ m
parts-length zero c ps = refl
parts-length (suc m) c [] = ap suc (parts-length m c [])
parts-length (suc m) c (word w ∷ ps) = ap suc (parts-length m c ps)
parts-length (suc m) c (own q ∷ ps) = ap suc (parts-length m c ps)
parts-length (suc m) c (kid x ∷ ps) = ap suc (parts-length m None ps)
parts-length (suc m) c (run x ∷ ps) = ap suc (parts-length m None ps)
parts-length (suc m) c (commas x ∷ ps) = ap suc (parts-length m None ps)
parts-length (suc m) c (more x ∷ ps) = ap suc (parts-length m None ps)
parts-length (suc m) c (look cs ∷ ps) = ap suc (parts-length m c ps)
parts-length (suc m) c (if_has p ∷ ps) = ap suc (parts-length m c ps)
parts-length (suc m) c (if_not p ∷ ps) = ap suc (parts-length m c ps)
parts-length (suc m) c (one_default ∷ ps) = ap suc (parts-length m c ps)

pub eleven : (r : Row) → length (parts_of r) ≡ 11
unfolding parts_of
eleven r = parts-length 11 r.first r.rule.right

take-all : (xs ys : List Part) → take (length xs) (xs ++ ys) ≡ xs
take-all [] ys = refl
take-all (x ∷ xs) ys = ap {B = List Part} (λ (zs : List Part). x ∷ zs) (take-all xs ys)

drop-past : (xs ys : List Part) (j : ℕ) → drop (length xs + j) (xs ++ ys) ≡ drop j ys
drop-past [] ys j = ap (λ (i : ℕ). drop i ys) (omega arith)
drop-past (x ∷ xs) ys j = (let e : suc (length xs) + j ≡ suc (length xs + j) = omega arith in ap (λ (i : ℕ). drop i (x ∷ (xs ++ ys))) e) ∙ drop-past xs ys j

stands-at : (rs : List Row) (i : ℕ) → i < length rs → take 11 (drop (i * 11) (all_parts rs)) ≡ parts_of (get_or rs i no_row)
stands-at [] i h = absurd (omega arith)
stands-at (r ∷ rs) zero h = ap (λ (m : ℕ). take m (parts_of r ++ all_parts rs)) (sym (eleven r)) ∙ take-all (parts_of r) (all_parts rs)
stands-at (r ∷ rs) (suc i) h =
    (let e : suc i * 11 ≡ length (parts_of r) + i * 11 = omega (arith, eleven r) in ap (λ (m : ℕ). take 11 (drop m (parts_of r ++ all_parts rs))) e)
    ∙ ap (take 11) (drop-past (parts_of r) (all_parts rs) (i * 11)) ∙ stands-at rs i (omega arith)

pub in-table : InTable
in-table i h = ap (λ (ps : List Part). take 11 (drop (i * 11) ps)) table-parts ∙ stands-at rows i (omega (arith, rows-length))

-- ---- they fit

abbrev sort_fits : ℕ → Sort → Bool
sort_fits k Sorts.Name = (uses_text k && not (eqb k 25)) && not (eqb k 24)
sort_fits k Sorts.Variable = (uses_text k && not (eqb k 25)) && not (eqb k 24)
sort_fits k Sorts.Number = eqb k 24
sort_fits k Sorts.Text = eqb k 25

abbrev part_fits : ℕ → Part → Bool
part_fits k (Parts.Word i) = ltb i 85
part_fits k (Parts.Own q) = sort_fits k q
part_fits k (Parts.Kids x) = ltb x.place 53
part_fits k p = true

all-fit : T (every (λ r. every (part_fits r.rule.kind) (parts_of r)) rows)
unfolding rows rules words parts_of
all-fit = tt

no-kind : (k n : ℕ) → T (not (eqb k n)) → k ≡ n → ⊥
no-kind k n h e = T-not (eqb k n) h (subst (λ (j : ℕ). T (eqb k j)) e (eqb_refl k))

name-fits : (k : ℕ) → T ((uses_text k && not (eqb k 25)) && not (eqb k 24)) → T (uses_text k) × (k ≡ 25 → ⊥) × (k ≡ 24 → ⊥)
name-fits k h =
    let a = and_left (uses_text k && not (eqb k 25)) (not (eqb k 24)) h in
    (and_left (uses_text k) (not (eqb k 25)) a, no-kind k 25 (and_right (uses_text k) (not (eqb k 25)) a), no-kind k 24 (and_right (uses_text k && not (eqb k 25)) (not (eqb k 24)) h))

sort-fits : (k : ℕ) (q : Sort) → T (sort_fits k q) → SortFits k q
sort-fits k Sorts.Name h = name-fits k h
sort-fits k Sorts.Variable h = name-fits k h
sort-fits k Sorts.Number h = eqb-true k 24 (is_true _ h)
sort-fits k Sorts.Text h = eqb-true k 25 (is_true _ h)

part-fits : (k : ℕ) (p : Part) → T (part_fits k p) → PartFits k p
part-fits k Parts.End h = tt
part-fits k (Parts.Word i) h = ltb-true i 85 (is_true _ h)
part-fits k (Parts.Own q) h = sort-fits k q h
part-fits k (Parts.Kids x) h = ltb-true x.place 53 (is_true _ h)
part-fits k (Parts.Look b) h = tt
part-fits k (Parts.Has p) h = tt
part-fits k (Parts.HasNot p) h = tt
part-fits k Parts.OneDefault h = tt

fits-at : (k : ℕ) (ps : List Part) (j : ℕ) → T (every (part_fits k) ps) → PartFits k (get_or ps j Parts.End)
fits-at k [] j h = tt
fits-at k (p ∷ ps) zero h = part-fits k p (every-split (part_fits k) p ps h).0
fits-at k (p ∷ ps) (suc j) h = fits-at k ps j (every-split (part_fits k) p ps h).1

pub fitting : Fitting
fitting i h = let r = get_or rows i no_row in record { each = λ (j : ℕ). fits-at r.rule.kind (parts_of r) j (row-at (λ r. every (part_fits r.rule.kind) (parts_of r)) i all-fit h) }

-- ---- how many children

ends-none : (m d : ℕ) (c : Option ℕ) → kid_count d (parts m c []) ≡ 0
ends-none zero d c = refl
ends-none (suc m) d c = refl

kids-needed : (m d : ℕ) (c : Option ℕ) (ps : List Right) → length ps ≤ m → kid_count d (parts m c ps) ≡ need d ps
kids-needed m d c [] h = ends-none m d c
kids-needed zero d c (p ∷ ps) h = absurd (omega arith)
kids-needed (suc m) d c (word w ∷ ps) h = kids-needed m d c ps (omega arith)
kids-needed (suc m) d c (own q ∷ ps) h = kids-needed m d c ps (omega arith)
kids-needed (suc m) d c (kid x ∷ ps) h = let e = kids-needed m d None ps (omega arith) in omega (arith, e)
kids-needed (suc m) d c (run x ∷ ps) h = ap (λ (n : ℕ). d + n) (kids-needed m d None ps (omega arith))
kids-needed (suc m) d c (commas x ∷ ps) h = ap (λ (n : ℕ). d + n) (kids-needed m d None ps (omega arith))
kids-needed (suc m) d c (more x ∷ ps) h = ap (λ (n : ℕ). d + n) (kids-needed m d None ps (omega arith))
kids-needed (suc m) d c (look cs ∷ ps) h = kids-needed m d c ps (omega arith)
kids-needed (suc m) d c (if_has p ∷ ps) h = kids-needed m d c ps (omega arith)
kids-needed (suc m) d c (if_not p ∷ ps) h = kids-needed m d c ps (omega arith)
kids-needed (suc m) d c (one_default ∷ ps) h = kids-needed m d c ps (omega arith)

pub all-kids : AllKids
unfolding parts_of
all-kids k f n i l h = let r = get_or rows i no_row in kids-needed 11 (list_length i n) r.first r.rule.right (good-at i l).short ∙ need-all k f n i l h
