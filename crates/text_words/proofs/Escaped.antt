-- A string in quotes, byte by byte. Assumes nothing.
use Rattle.std.proofs.Common.{◌≡◌, ℕ, ◌+◌, ◌*◌, ◌<◌, ◌≤◌, Bool, true, false, ◌||◌, eqb, List, [], ◌∷◌, ◌++◌, length, get_or, take, drop, refl, sym, ap, ◌∙◌, length-append, add-one, take-append-drop, arith}
use Rattle.std.proofs.Math.Seq.{take-suc}
use Rattle.def_text.specs.Entry.{escaped, quoted}
use Rattle.number_text.specs.Put.{Puts}
use Rattle.number_text.proofs.Puts.{puts_then}

abbrev one : Bool → ℕ → List ℕ → List ℕ
one b c w = elim b [ true ↦ 92 ∷ c ∷ w | false ↦ c ∷ w ]

one-append : (b : Bool) (c : ℕ) (v w : List ℕ) → one b c (v ++ w) ≡ one b c v ++ w
one-append true c v w = refl
one-append false c v w = refl

pub escaped-append : (v w : List ℕ) → escaped (v ++ w) ≡ escaped v ++ escaped w
escaped-append [] w = refl
escaped-append (c ∷ v) w = ap (one (eqb c 34 || eqb c 92) c) (escaped-append v w) ∙ one-append (eqb c 34 || eqb c 92) c (escaped v) (escaped w)

-- the first k bytes, and one more
pub escaped-next : (w : List ℕ) (k : ℕ) → k < length w → escaped (take (k + 1) w) ≡ escaped (take k w) ++ escaped (get_or w k 0 ∷ [])
escaped-next w k h = (let e : take (k + 1) w ≡ take k w ++ (get_or w k 0 ∷ []) = rw add-one (take-suc w k 0 h) in ap escaped e) ∙ escaped-append (take k w) (get_or w k 0 ∷ [])

pub escaped-rest : (w : List ℕ) (k : ℕ) → length (escaped (take k w)) ≤ length (escaped w)
escaped-rest w k = let e = ap (λ (v : List ℕ). length (escaped v)) (sym (take-append-drop k w)) ∙ ap length (escaped-append (take k w) (drop k w)) ∙ length-append (escaped (take k w)) (escaped (drop k w)) in omega (arith, e)

one-length : (b : Bool) (c : ℕ) (w : List ℕ) → length (one b c w) ≤ 2 + length w
one-length true c w = omega arith
one-length false c w = omega arith

pub escaped-length : (w : List ℕ) → length (escaped w) ≤ 2 * length w
escaped-length [] = omega arith
escaped-length (c ∷ w) = omega (arith, one-length (eqb c 34 || eqb c 92) c (escaped w), escaped-length w)

pub quoted-length : (w : List ℕ) → length (quoted w) ≡ length (escaped w) + 2
quoted-length w = omega (arith, length-append (escaped w) (34 ∷ []))

-- how many bytes one takes
pub one-taken : (c : ℕ) (b : Bool) → (eqb c 34 || eqb c 92) ≡ b → length (escaped (c ∷ [])) ≡ elim b [ true ↦ 2 | false ↦ 1 ]
one-taken c b e = ap (λ (z : Bool). length (one z c [])) e ∙ go b
  where
    go : (z : Bool) → length (one z c []) ≡ elim z as (λ x. ℕ) [ true ↦ 2 | false ↦ 1 ]
    go true = refl
    go false = refl

pub one-is : (c : ℕ) (b : Bool) → (eqb c 34 || eqb c 92) ≡ b → escaped (c ∷ []) ≡ elim b [ true ↦ 92 ∷ c ∷ [] | false ↦ c ∷ [] ]
one-is c b e = ap (λ (z : Bool). one z c []) e

-- a string so far, and one byte more
pub puts-next : (o m n w : List ℕ) (at k : ℕ) → k < length w → at + 1 + length (escaped (take k w)) ≤ length o → Puts o m at (34 ∷ escaped (take k w)) → Puts m n (at + 1 + length (escaped (take k w))) (escaped (get_or w k 0 ∷ [])) → Puts o n at (34 ∷ escaped (take (k + 1) w))
puts-next o m n w at k h l p q =
    let e : at + 1 + length (escaped (take k w)) ≡ at + length (34 ∷ escaped (take k w)) = omega arith in
    let r = puts_then o m n at (34 ∷ escaped (take k w)) (escaped (get_or w k 0 ∷ [])) (omega arith) p (rw e at q) in
    rw (escaped-next w k h) r

-- and the last quote
pub puts-quote : (o m n w : List ℕ) (at : ℕ) → at + 1 + length (escaped w) ≤ length o → Puts o m at (34 ∷ escaped w) → Puts m n (at + 1 + length (escaped w)) (34 ∷ []) → Puts o n at (quoted w)
puts-quote o m n w at l p q =
    let e : at + 1 + length (escaped w) ≡ at + length (34 ∷ escaped w) = omega arith in
    puts_then o m n at (34 ∷ escaped w) (34 ∷ []) (omega arith) p (rw e at q)

pub one-few : (c : ℕ) → length (escaped (c ∷ [])) ≤ 2
one-few c = omega (arith, one-length (eqb c 34 || eqb c 92) c [])

pub next-length : (w : List ℕ) (k : ℕ) → k < length w → length (escaped (take (k + 1) w)) ≡ length (escaped (take k w)) + length (escaped (get_or w k 0 ∷ []))
next-length w k h = ap length (escaped-next w k h) ∙ length-append (escaped (take k w)) (escaped (get_or w k 0 ∷ []))
