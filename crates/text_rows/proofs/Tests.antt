-- The constant table read at a row, and tests over all rows. Assumes nothing.
use Rattle.std.proofs.Common.{◌≡◌, ℕ, zero, suc, ◌+◌, ◌-◌, ◌*◌, ◌<◌, ◌≤◌, Bool, true, false, ◌&&◌, leb, List, [], ◌∷◌, length, get_or, map, refl, sym, ap, ◌∙◌, subst, inl, inr, arith}
use Rattle.std.specs.Prelude.{T, not}
use Rattle.std.proofs.lemmas.Bool.{cases_eq, leb-true}
use Rattle.def_text.specs.Words.{every}
use Rattle.def_text.specs.Grammar.{Script, Place, Slot, Part, word, own, kid, run, commas, more, look, if_has, if_not, one_default, each, each_after, each_between, write_out, is_for, singles, right_for}
use Rattle.def_text.specs.Table.{rules}
use Rattle.def_text.specs.Derives.{has}
use Rattle.def_text.specs.Print.{asked}
use Rattle.text_table.specs.declared.TheConstants.{ROWS, STARTS}
use Rattle.text_table.specs.declared.Row.{Row as Entry}
use Rattle.text_table.specs.Rows.{Row, rows, no_row, entry, guard_of}
use Rattle.text_table.proofs.Table.{table-rows}
use Rattle.text_rows.specs.Rows.{guard_ok, counts}

get-map : {A B : Type 0} (f : A → B) (xs : List A) (i : ℕ) (d : B) (e : A) → i < length xs → get_or (map f xs) i d ≡ f (get_or xs i e)
get-map f [] i d e h = absurd (omega arith)
get-map f (x ∷ xs) zero d e h = refl
get-map f (x ∷ xs) (suc i) d e h = get-map f xs i d e (omega arith)

pub rows-length : length rows ≡ 136
unfolding rows
rows-length = refl

pub table-at : (i : ℕ) (d : Entry) → i < 136 → get_or ROWS i d ≡ entry (get_or rows i no_row)
table-at i d h = ap (λ (xs : List Entry). get_or xs i d) table-rows ∙ get-map entry rows i d no_row (omega (arith, rows-length))

pub counts-is : (i k f n : ℕ) (d : Entry) → i < 136 → counts (get_or ROWS i d) k f n ≡ is_for k f n (get_or rows i no_row).rule
counts-is i k f n d h = ap (λ (x : Entry). counts x k f n) (table-at i d h)

-- ---- tests below a number

abbrev pub all_below : (ℕ → Bool) → ℕ → Bool
all_below p zero = true
all_below p (suc n) = p n && all_below p n

and-left : (p q : Bool) → T (p && q) → T p
and-left true q t = tt
and-left false q t = t

and-right : (p q : Bool) → T (p && q) → T q
and-right true q t = t
and-right false q t = absurd t

is-true : (b : Bool) → T b → b ≡ true
is-true true t = refl
is-true false t = absurd t

pub below-at : (p : ℕ → Bool) (n k : ℕ) → T (all_below p n) → k < n → T (p k)
below-at p zero k e h = absurd (omega arith)
below-at p (suc n) k e h = elim (cases_eq k n) [
  | inl s ↦ subst (λ (j : ℕ). T (p j)) (sym s) (and-left (p n) (all_below p n) e)
  | inr o ↦ below-at p n k (and-right (p n) (all_below p n) e) (omega arith)
]

-- row i is among those of its kind and form
abbrev key : ℕ → ℕ
key i = (get_or rows i no_row).rule.kind * 32 + (get_or rows i no_row).rule.form

abbrev in_range : ℕ → Bool
in_range i = leb (get_or rows i no_row).rule.kind 48 && leb (get_or rows i no_row).rule.form 31 && leb (get_or STARTS (key i) 0) i && leb (i + 1) (get_or STARTS (key i + 1) 0)

ranges-ok : T (all_below in_range 136)
unfolding rows rules
ranges-ok = tt

pub record InRange (i : ℕ) : Type 0 where
  pub kind : (get_or rows i no_row).rule.kind ≤ 48
  pub form : (get_or rows i no_row).rule.form ≤ 31
  pub low : get_or STARTS ((get_or rows i no_row).rule.kind * 32 + (get_or rows i no_row).rule.form) 0 ≤ i
  pub high : i + 1 ≤ get_or STARTS ((get_or rows i no_row).rule.kind * 32 + (get_or rows i no_row).rule.form + 1) 0

pub ranges-at : (i : ℕ) → i < 136 → InRange i
ranges-at i h =
    let r = (get_or rows i no_row).rule in
    let t = below-at in_range 136 i ranges-ok h in
    let a = and-left (leb r.kind 48 && leb r.form 31 && leb (get_or STARTS (key i) 0) i) (leb (i + 1) (get_or STARTS (key i + 1) 0)) t in
    let b = and-left (leb r.kind 48 && leb r.form 31) (leb (get_or STARTS (key i) 0) i) a in
    record {
      kind = leb-true r.kind 48 (is-true _ (and-left (leb r.kind 48) (leb r.form 31) b));
      form = leb-true r.form 31 (is-true _ (and-right (leb r.kind 48) (leb r.form 31) b));
      low = leb-true (get_or STARTS (key i) 0) i (is-true _ (and-right (leb r.kind 48 && leb r.form 31) (leb (get_or STARTS (key i) 0) i) a));
      high = leb-true (i + 1) (get_or STARTS (key i + 1) 0) (is-true _ (and-right (leb r.kind 48 && leb r.form 31 && leb (get_or STARTS (key i) 0) i) (leb (i + 1) (get_or STARTS (key i + 1) 0)) t));
    }

starts-few : T (every (λ x. leb x 136) STARTS)
starts-few = tt

few-first : (x : ℕ) (xs : List ℕ) (i : ℕ) (b : Bool) → leb x 136 ≡ b → T (elim b [ true ↦ every (λ x. leb x 136) xs | false ↦ false ]) → ((i : ℕ) → T (every (λ x. leb x 136) xs) → get_or xs i 0 ≤ 136) → get_or (x ∷ xs) i 0 ≤ 136
few-first x xs zero true e h f = leb-true x 136 e
few-first x xs (suc i) true e h f = f i h
few-first x xs i false e h f = absurd h

few-at : (xs : List ℕ) (i : ℕ) → T (every (λ x. leb x 136) xs) → get_or xs i 0 ≤ 136
few-at [] i h = omega arith
few-at (x ∷ xs) i h = few-first x xs i (leb x 136) refl h (λ j k. few-at xs j k)

pub starts-at : (i : ℕ) → get_or STARTS i 0 ≤ 136
starts-at i = few-at STARTS i starts-few

-- ---- what a row asks of the parameters

abbrev same_bool : Bool → Bool → Bool
same_bool true b = b
same_bool false true = false
same_bool false false = true

same-eq : (a b : Bool) → T (same_bool a b) → a ≡ b
same-eq true true h = refl
same-eq true false h = absurd h
same-eq false true h = absurd h
same-eq false false h = refl

abbrev params : Bool → Bool → Bool → Place
params i r e = record { symbol = Script; has_in = i; has_return = r; has_else = e }

abbrev guarded : Bool → Bool → Bool → Row → Bool
guarded i r e x = same_bool (asked (params i r e) x.rule.right) (guard_ok (guard_of x.rule.right) i r e)

guards-ok : (i r e : Bool) → T (every (guarded i r e) rows)
unfolding rows rules
guards-ok true true true = tt
guards-ok true true false = tt
guards-ok true false true = tt
guards-ok true false false = tt
guards-ok false true true = tt
guards-ok false true false = tt
guards-ok false false true = tt
guards-ok false false false = tt

every-first : (p : Row → Bool) (x : Row) (xs : List Row) (i : ℕ) (b : Bool) → p x ≡ b → T (elim b [ true ↦ every p xs | false ↦ false ]) → i < suc (length xs) → ((i : ℕ) → T (every p xs) → i < length xs → T (p (get_or xs i no_row))) → T (p (get_or (x ∷ xs) i no_row))
every-first p x xs zero true e h l f = subst T (sym e) tt
every-first p x xs (suc i) true e h l f = f i h (omega arith)
every-first p x xs i false e h l f = absurd h

every-get : (p : Row → Bool) (xs : List Row) (i : ℕ) → T (every p xs) → i < length xs → T (p (get_or xs i no_row))
every-get p [] i h l = absurd (omega arith)
every-get p (x ∷ xs) i h l = every-first p x xs i (p x) refl h l (λ j k m. every-get p xs j k m)

asked-each : (g : Place) (x : Slot) (m : ℕ) (ps : List Part) → asked g (each x m ps) ≡ asked g ps
asked-each g x zero ps = refl
asked-each g x (suc m) ps = asked-each g x m ps

asked-after : (g : Place) (x : Slot) (m : ℕ) (ps : List Part) → asked g (each_after x m ps) ≡ asked g ps
asked-after g x zero ps = refl
asked-after g x (suc m) ps = asked-after g x m ps

asked-between : (g : Place) (x : Slot) (m : ℕ) (ps : List Part) → asked g (each_between x m ps) ≡ asked g ps
asked-between g x zero ps = refl
asked-between g x (suc m) ps = asked-after g x m ps

asked-out : (g : Place) (m : ℕ) (ps : List Part) → asked g (write_out m ps) ≡ asked g ps
asked-out g m [] = refl
asked-out g m (word w ∷ ps) = asked-out g m ps
asked-out g m (own s ∷ ps) = asked-out g m ps
asked-out g m (kid x ∷ ps) = asked-out g m ps
asked-out g m (run x ∷ ps) = asked-each g x m (write_out m ps) ∙ asked-out g m ps
asked-out g m (commas x ∷ ps) = asked-between g x m (write_out m ps) ∙ asked-out g m ps
asked-out g m (more x ∷ ps) = asked-after g x m (write_out m ps) ∙ asked-out g m ps
asked-out g m (look cs ∷ ps) = asked-out g m ps
asked-out g m (if_has p ∷ ps) = ap (λ (b : Bool). has p g && b) (asked-out g m ps)
asked-out g m (if_not p ∷ ps) = ap (λ (b : Bool). not (has p g) && b) (asked-out g m ps)
asked-out g m (one_default ∷ ps) = asked-out g m ps

pub guard-is : (i n : ℕ) (d : Entry) (hi hr he : Bool) → i < 136 → guard_ok (get_or ROWS i d).guard hi hr he ≡ asked (params hi hr he) (right_for n (get_or rows i no_row).rule)
guard-is i n d hi hr he h =
    let r = get_or rows i no_row in
    ap (λ (x : Entry). guard_ok x.guard hi hr he) (table-at i d h) ∙ sym (same-eq _ _ (every-get (guarded hi hr he) rows i (guards-ok hi hr he) (omega (arith, rows-length)))) ∙ sym (asked-out (params hi hr he) (n - singles r.rule.right) r.rule.right)
