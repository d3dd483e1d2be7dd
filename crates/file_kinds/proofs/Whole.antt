-- The one test over the whole table, entry by entry. Assumes nothing.
use Rattle.std.proofs.Common.{◌≡◌, ℕ, zero, suc, ◌+◌, ◌/◌, ◌%◌, ◌<◌, ◌==◌, Bool, true, ◌&&◌, List, [], ◌∷◌, length, get_or, refl, ap, ◌∙◌, arith}
use Rattle.std.proofs.lemmas.Bool.{and_parts, eqb-true}
use Rattle.def_tree.specs.Base.{to_nat}
use Rattle.def_kinds.specs.Stands.{stands}
use Rattle.file_kinds.specs.declared.TheConstants.{KINDS}
use Rattle.file_kinds.specs.Table.{Agrees}

-- what the kind list says of entry n
abbrev said : ℕ → ℕ
said n = to_nat (stands (n / 48 + 1) (n % 48 + 1))

-- the entries are those from n on
abbrev right_from : ℕ → List ℕ → Bool
right_from n [] = true
right_from n (x ∷ xs) = (x == said n) && right_from (suc n) xs

right_at : (xs : List ℕ) (n k : ℕ) → right_from n xs ≡ true → k < length xs → get_or xs k 0 ≡ said (n + k)
right_at [] n k h l = absurd (omega arith)
right_at (x ∷ xs) n zero h l =
    let e : n ≡ n + 0 = omega arith in
    eqb-true x (said n) (and_parts (x == said n) (right_from (suc n) xs) h).0 ∙ ap said e
right_at (x ∷ xs) n (suc k) h l =
    let e : suc n + k ≡ n + suc k = omega arith in
    right_at xs (suc n) k (and_parts (x == said n) (right_from (suc n) xs) h).1 (omega arith) ∙ ap said e

whole : right_from 0 KINDS ≡ true
unfolding stands
whole = refl

pub agrees : Agrees KINDS
agrees n h =
    let e : 0 + n ≡ n = omega arith in
    right_at KINDS 0 n whole h ∙ ap said e
