-- The constant table among lent ones: what it is as a list, what it is compared with, and that it refuses nothing. Assumes nothing.
use Rattle.std.proofs.Common.{◌≡◌, ℕ, zero, suc, ◌+◌, ◌*◌, ◌/◌, ◌%◌, ◌<◌, ◌≤◌, eqb, leb, Bool, true, false, ◌&&◌, ◌||◌, not, List, [], ◌∷◌, map, length, get_or, drop, refl, sym, ap, ap₂, ◌∙◌, arith}
use Rattle.std.specs.List.{list_all, range_with_len, zip}
use Rattle.std.proofs.lemmas.Bool.{and_parts, le-leb}
use Rattle.std.proofs.lemmas.Bool.Decides.{nat_tests}
use native.Mathlib.Numerals.{add-one}
use lib.ListN.{drop_of_length-le}
use lib.Seq.{drop-cons}
use Rattle.def_tree.specs.Base.{to_nat}
use Rattle.def_kinds.specs.Stands.{stands}
use Rattle.def_kinds.specs.Lent.{is_table, within}
use Rattle.file_kinds.specs.declared.TheConstants.{KINDS}
use Rattle.file_kinds.proofs.Whole.{agrees}
use Rattle.file_kinds.proofs.Table.{unmoved}
use Rattle.def_file.specs.Script.{Script, idents}
use Rattle.def_file.specs.Read.{Read, bad, script, u32, rising, distinct, ends_from, nodes_ok, header, read}
use Rattle.def_under.specs.Reading.{pairs_ok, read_under, constant, lent}
use Rattle.def_under.specs.Laws.{script_in}
use Rattle.file_read.specs.Table.{OwnRead}

-- a list is its elements
listed : (f : ℕ → ℕ) (a m : ℕ) (xs : List ℕ) → length xs ≡ m → ((n : ℕ) → n < m → get_or xs n 0 ≡ f (a + n)) → xs ≡ map f (range_with_len a m)
listed f a zero [] e h = refl
listed f a zero (x ∷ xs) e h = absurd (omega (arith, e))
listed f a (suc m) [] e h = absurd (omega (arith, e))
listed f a (suc m) (x ∷ xs) e h =
    let here : a + 0 ≡ a = omega arith in
    let head : x ≡ f a = h 0 (omega arith) ∙ ap f here in
    let tail = listed f (a + 1) m xs (omega (arith, e)) (λ n l. let more : a + suc n ≡ (a + 1) + n = omega arith in h (suc n) (omega arith) ∙ ap f more) in
    ap₂ {C = List ℕ} (λ (y : ℕ) (ys : List ℕ). y ∷ ys) head tail

pub constant-is : KINDS ≡ constant
unfolding constant
constant-is =
    let f : ℕ → ℕ = λ n. to_nat (stands (n / 48 + 1) (n % 48 + 1)) in
    listed f 0 2304 KINDS refl (λ n l. let e : n ≡ 0 + n = omega arith in agrees n l ∙ ap f e)

-- of entries that are 0 or 1 a pair is allowed by both where the one is no greater than the other
no_greater : (b k : ℕ) → leb b 1 ≡ true → leb k 1 ≡ true → leb b k ≡ (not (eqb b 1) || eqb k 1)
no_greater zero k g h = le-leb 0 k (omega arith)
no_greater (suc zero) zero g h = refl
no_greater (suc zero) (suc zero) g h = refl
no_greater (suc zero) (suc (suc k)) g h = absurd (grind (arith, nat_tests))
no_greater (suc (suc b)) k g h = absurd (grind (arith, nat_tests))

-- a test of each element, one after the other; and of two lists at each place
pub all_step : (p : ℕ → Bool) (xs : List ℕ) (i : ℕ) (known : Bool) → i < length xs → ((known && p (get_or xs i 0)) && list_all p (drop (i + 1) xs)) ≡ (known && list_all p (drop i xs))
all_step p xs i true h = rw (drop-cons xs i 0 h, add-one) refl
all_step p xs i false h = refl

pub all_done : (p : ℕ → Bool) (xs : List ℕ) (i : ℕ) (known : Bool) → length xs ≤ i → known ≡ (known && list_all p (drop i xs))
all_done p xs i true h = rw (drop_of_length-le xs h) refl
all_done p xs i false h = refl

pub no_greater_from : List ℕ → List ℕ → ℕ → Bool
no_greater_from xs ks i = list_all (λ (p : ℕ × ℕ). leb p.0 p.1) (zip (drop i xs) (drop i ks))

pub zip_step : (xs ks : List ℕ) (i : ℕ) (known : Bool) → i < length xs → i < length ks → ((known && leb (get_or xs i 0) (get_or ks i 0)) && no_greater_from xs ks (i + 1)) ≡ (known && no_greater_from xs ks i)
unfolding no_greater_from
zip_step xs ks i true h l = rw (drop-cons xs i 0 h, drop-cons ks i 0 l, add-one) refl
zip_step xs ks i false h l = refl

pub zip_done : (xs ks : List ℕ) (i : ℕ) (known : Bool) → length xs ≤ i → known ≡ (known && no_greater_from xs ks i)
unfolding no_greater_from
zip_done xs ks i true h = rw (drop_of_length-le xs h) refl
zip_done xs ks i false h = refl

zip-within : (xs ks : List ℕ) → length xs ≡ length ks → list_all (λ b. leb b 1) xs ≡ true → list_all (λ b. leb b 1) ks ≡ true → list_all (λ (p : ℕ × ℕ). leb p.0 p.1) (zip xs ks) ≡ within xs ks
zip-within [] ks e g h = refl
zip-within (b ∷ bs) [] e g h = absurd (omega (arith, e))
zip-within (b ∷ bs) (k ∷ ks) e g h =
    let p = and_parts (leb b 1) (list_all (λ b. leb b 1) bs) g in
    let q = and_parts (leb k 1) (list_all (λ b. leb b 1) ks) h in
    ap₂ {C = Bool} (λ (u v : Bool). u && v) (no_greater b k p.0 q.0) (zip-within bs ks (omega (arith, e)) p.1 q.1)

bits : list_all (λ b. leb b 1) KINDS ≡ true
bits = refl

pub table-long : (T : List ℕ) → is_table T ≡ true → length T ≡ 2304
table-long T e = grind (arith, nat_tests, and_parts (eqb (length T) 2304) (list_all (λ b. leb b 1) T) e)

within-constant : (T : List ℕ) → is_table T ≡ true → list_all (λ (p : ℕ × ℕ). leb p.0 p.1) (zip T KINDS) ≡ within T constant
within-constant T e =
    let p = and_parts (eqb (length T) 2304) (list_all (λ b. leb b 1) T) e in
    zip-within T KINDS (table-long T e) p.1 bits ∙ ap (within T) constant-is

pub from_start : (T : List ℕ) → is_table T ≡ true → no_greater_from T KINDS 0 ≡ within T constant
unfolding no_greater_from
from_start T e = within-constant T e

-- it is a table, and allows what it allows
within_itself : (xs : List ℕ) → within xs xs ≡ true
within_itself [] = refl
within_itself (b ∷ bs) = ap₂ {C = Bool} (λ (u v : Bool). u && v) (go (eqb b 1)) (within_itself bs)
  where
    go : (c : Bool) → (not c || c) ≡ true
    go true = refl
    go false = refl

-- no pair of a script is forbidden
all-there : (q p : Bool) → (q ≡ true → p ≡ true) → (q && p) ≡ q
all-there true p h = h refl
all-there false p h = refl

no-forbidden : (s : Script) → nodes_ok s ≡ true → pairs_ok KINDS s ≡ true
unfolding nodes_ok pairs_ok
no-forbidden s e = unmoved (length s.texts) s.nodes e

own-under : (bs : List ℕ) → read_under KINDS bs ≡ read bs
unfolding read_under read
own-under bs =
    let s = script_in bs in
    ap (λ (p : Bool). header bs (elim (rising 0 (ends_from (u32 bs 16) (drop (32 + 16 * u32 bs 8) bs)) (u32 bs 28) && distinct s.texts) [ false ↦ bad 5 | true ↦ elim p [ false ↦ bad 6 | true ↦ elim (leb (length (idents s)) 256) [ false ↦ bad 7 | true ↦ script s ] ] ]))
    (all-there (nodes_ok s) (pairs_ok KINDS s) (no-forbidden s))

pub own-read : OwnRead
unfolding lent
own-read bs = ap {B = Read} (λ (w : Bool). elim w [ false ↦ bad 15 | true ↦ read_under KINDS bs ]) (ap (within KINDS) (sym constant-is) ∙ within_itself KINDS) ∙ own-under bs
