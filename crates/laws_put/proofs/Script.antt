-- The statements of a script. Assumes nothing.
use mathlib.Core.Path.{◌≡◌, refl, sym, ap, ap₂, ◌∙◌, subst}
use mathlib.Core.Bool.{Bool, true, false, ◌&&◌, ◌||◌}
use mathlib.Core.List.{List, [], ◌∷◌}
use Prim.Native.Nat.{ℕ, zero, suc}
use native.Mathlib.Nat.{sub-zero}
use lib.Dec.{T, eqb, leb}
use Rattle.std.proofs.Common.{inl, Option, Some, None}
use Rattle.std.specs.Prelude.{get_or, drop}
use Rattle.std.proofs.lemmas.Bool.{le-leb}
use native.Mathlib.Omega.{arith}
use Rattle.def_tree.specs.Tree.{Tree, Forest, node, nil, cons, kids, length_f}
use Rattle.def_text.specs.Words.{Word}
use Rattle.def_text.specs.Grammar.{Script, StatementListItem, Place, Slot, is_for, plus, minus, same, Part, each, right_for}
use Rattle.def_text.specs.Table.{rules}
use Rattle.def_text.specs.Derives.{laid_all, script, tokens_all, derives}
use Rattle.def_text.specs.Print.{At, start, asked, stays, walks, fix, fix_all, printed, has_text}
use Rattle.laws_text.specs.Claims.{all_pairs_ok}
use Rattle.laws_text.proofs.Basics.{both, is_T, is_true}
use Rattle.laws_text.proofs.Shape.{all-pairs-laid}
use Rattle.laws_text.proofs.Least.{StandsAt}
use Rattle.laws_text.proofs.Feeds.{only-one}
use Rattle.laws_text.proofs.Basics.{here}
use Rattle.text_table.specs.Rows.{Row, rows, no_row}
use Rattle.text_table.specs.Put.{Spot, start as start_spot, item, items, symbol_at, has_bit, stands, first_row, ats, stand, spots, spots_of, parts_ok, put_all}
use Rattle.laws_put.specs.Claims.{Printed}
use Rattle.laws_put.proofs.Fine.{clear! }
use Rattle.laws_put.proofs.Rows.{Standing, standing}
use Rattle.laws_put.proofs.Near.{fix-all-alike}
use Rattle.laws_put.proofs.Text.{start-alike, node-sound, kids-sound, sound-all, complete!, sides, as-stays, lacks-some, was-put, choose-plainly}
use Rattle.laws_put.proofs.Fine.{fine-row}
use Rattle.laws_put.proofs.Rows.{row-fits}

-- the first row is the script's
abbrev first! : Row
first! = get_or rows 0 no_row

abbrev statement : Slot
statement = record { symbol = StatementListItem; in_mode = plus; return_mode = same; else_mode = minus }

right-is : (n : ℕ) → right_for n first!.rule ≡ each statement n []
unfolding rows rules
right-is n = ap (λ (m : ℕ). each statement m []) (sub-zero n)

found-first : (p : Row → Bool) (r : Row) (rs : List Row) → p r ≡ true → first_row p (r ∷ rs) ≡ Some r
found-first p r rs e = ap (λ (b : Bool). elim b as (λ z. Option Row) [ true ↦ Some r | false ↦ first_row p rs ]) e

asked-each : (g : Place) (n : ℕ) → T (asked g (each statement n []))
asked-each g zero = tt
asked-each g (suc n) = asked-each g n

or-true : (a b : Bool) → b ≡ true → (a || b) ≡ true
or-true true b e = refl
or-true false b e = e

for-script : (n : ℕ) → is_for 1 0 n first!.rule ≡ true
unfolding rows rules
for-script n = or-true (eqb 0 n) (leb 0 n) (le-leb 0 n (omega arith))

bit-script : has_bit first!.at 0 ≡ true
unfolding rows
bit-script = refl

abbrev others : List Row
others = drop 1 rows

rows-are : rows ≡ first! ∷ drop 1 rows
unfolding rows rules
rows-are = refl

stand-script : (n : ℕ) → stand 1 0 n start_spot ≡ Some first!
unfolding stand
stand-script n =
    ap (first_row (stands 1 0 n start_spot)) rows-are
    ∙ found-first (stands 1 0 n start_spot) first! (drop 1 rows)
    (is_true _ (both (is_for 1 0 n first!.rule && has_bit first!.at 0) (asked (symbol_at start_spot Script) (right_for n first!.rule)) (both (is_for 1 0 n first!.rule) (has_bit first!.at 0) (is_T _ (for-script n)) (is_T _ bit-script))
    (subst (λ (ps : List Part). T (asked (symbol_at start_spot Script) ps)) (sym (right-is n)) (asked-each (symbol_at start_spot Script) n))))

spots-are : (n : ℕ) → spots None start_spot [] [] (each statement n []) ≡ items n
spots-are zero = refl
spots-are (suc n) = ap {B = List Spot} (λ ss. item ∷ ss) (spots-are n)

parts-are : (o : Word) (ts : Forest) (n : ℕ) → T (parts_ok o ts (each statement n []))
parts-are o ts zero = tt
parts-are o nil (suc n) = parts-are o nil n
parts-are o (cons t ts) (suc n) = parts-are o ts n

first-none : first!.first ≡ None
unfolding rows
first-none = refl

spots-of-are : (n : ℕ) → spots_of first! n start_spot ≡ items n
spots-of-are n = ap₂ {C = List Spot} (λ (c : Option ℕ) (ps : List Part). spots c start_spot [] [] ps) first-none (right-is n) ∙ spots-are n

length-laid : (ts : Forest) → length_f (laid_all ts) ≡ length_f ts
length-laid nil = refl
length-laid (cons t ts) = ap suc (length-laid ts)

module _ (spell : ℕ → ℕ → Word) (ts : Forest) (p : T (all_pairs_ok ts)) where
  abbrev us : Forest
  us = laid_all ts

  abbrev n : ℕ
  n = length_f us

  pairs! : T (all_pairs_ok us)
  pairs! = all-pairs-laid ts p

  printed-is : printed spell (node 1 0 0 ts) ≡ fix spell (node 1 0 0 us) (ats start_spot)
  printed-is = ap (fix spell (node 1 0 0 us)) (sym start-alike)

  S : Standing 1 0 n start_spot first!
  S = standing 1 0 n start_spot first! (stand-script n)

  fixed : fix spell (node 1 0 0 us) (ats start_spot) ≡ node 1 0 0 (fix_all spell us (walks 1 0 n (ats start_spot)))
  fixed = as-stays spell 1 0 0 us start_spot (lacks-some spell 1 0 0 us start_spot first! S) ∙ ap (node 1 0 0) (fix-all-alike spell us (stays spell 1 0 0 us (ats start_spot)) (walks 1 0 n (ats start_spot)) (sides spell 1 0 0 us start_spot))

  when-put : (ls : List (List Word)) → put_all spell us (items n) ≡ Some ls → T (has_text spell (node 1 0 0 ts)) × (tokens_all spell (kids (printed spell (node 1 0 0 ts))) ≡ ls)
  when-put ls e =
      let e' = ap (put_all spell us) (spots-of-are n) ∙ e in
      let pk = subst (λ (ps : List Part). T (parts_ok (spell 1 0) us ps)) (sym (right-is n)) (parts-are (spell 1 0) us n) in
      let x = node-sound spell 1 0 0 us start_spot first! S (clear! refl) (inl refl) (sound-all spell us) pairs! tt pk ls e' in
      let k = kids-sound spell us (spots_of first! n start_spot) (walks 1 0 n (ats start_spot)) ls (sound-all spell us) (fine-row 1 0 n start_spot first! S (clear! refl)) (row-fits 1 0 n start_spot first! S) pairs! e' in
      let st = subst (λ (z : List At). StandsAt spell (node 1 0 0 (fix_all spell us (walks 1 0 n (ats start_spot)))) z) start-alike x.0 in
      let i = only-one st.place start st.within in (
        subst (λ (t : Tree). T (derives spell t script)) (sym (printed-is ∙ fixed)) (subst (λ (a : At). T (derives spell (node 1 0 0 (fix_all spell us (walks 1 0 n (ats start_spot)))) a.place)) i st.derived!),
        ap (λ (t : Tree). tokens_all spell (kids t)) (printed-is ∙ fixed) ∙ k.are,
      )

  when-text : T (has_text spell (node 1 0 0 ts)) → (ls : List (List Word)) × (put_all spell us (items n) ≡ Some ls)
  when-text h =
      let t = fix spell (node 1 0 0 us) (ats start_spot) in
      let st : StandsAt spell t (ats start_spot) = subst (λ (z : List At). StandsAt spell t z) (sym start-alike) (record { place = start; within = here []; derived! = subst (λ (x : Tree). T (derives spell x script)) printed-is h; free = tt }) in
      let x = complete! spell (node 1 0 0 us) start_spot pairs! st in
      let w = was-put spell 1 0 0 us start_spot x.0 x.1 in
      let c = same-choice (sym w.chose! ∙ choose-plainly spell 1 0 0 us start_spot first! (stand-script n)) in
      (w.lists, ap (put_all spell us) (sym (spots-of-are n)) ∙ ap (λ (z : _). put_all spell us (spots_of z.row n z.spot)) (sym c) ∙ w.kids)
    where
      same-choice : {A : Type 0} {x y : A} → Some x ≡ Some y → x ≡ y
      same-choice e = cc

  by : (b : Bool) → has_text spell (node 1 0 0 ts) ≡ b → put_all spell us (items n) ≡ elim b as (λ z. Option (List (List Word))) [ true ↦ Some (tokens_all spell (kids (printed spell (node 1 0 0 ts)))) | false ↦ None ]
  by true e = let x = when-text (is_T _ e) in x.1 ∙ ap Some (sym (when-put x.0 x.1).1)
  by false e = go (put_all spell us (items n)) refl
    where
      go : (x : Option (List (List Word))) → put_all spell us (items n) ≡ x → put_all spell us (items n) ≡ None
      go None q = q
      go (Some ls) q = absurd (subst T e (when-put ls q).0)

pub printed-by-rows : Printed
printed-by-rows spell ts p = ap (λ (m : ℕ). put_all spell (laid_all ts) (items m)) (sym (length-laid ts)) ∙ by spell ts p (has_text spell (node 1 0 0 ts)) refl
