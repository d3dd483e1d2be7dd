-- Of names below 256, two tables meet exactly where names clash. Assumes nothing.
use mathlib.Core.Path.{◌≡◌, refl, sym, ap, ap₂, ◌∙◌}
use mathlib.Core.Logic.{◌⊎◌, inl, inr}
use mathlib.Core.Bool.{Bool, true, false, ◌||◌}
use mathlib.Core.List.{List, [], ◌∷◌}
use Prim.Native.Nat.{ℕ, zero, suc, ◌<◌}
use native.Mathlib.Omega.{arith}
use lib.Dec.{eqb}
use lib.ListN.{length, get_or, length-set}
use lib.Seq.{get_or-set_same, get_or-set_other}
use borrow.Author.Tests as tests
use borrow.Author.Tests.{eq-eqb, ne_eqb, eqb-true}
use Rattle.std.proofs.lemmas.List.{get_or-replicate}
use Rattle.def_tree.specs.Base.{pick, member}
use Rattle.def_resolve.specs.Scopes.{twice, meets, Counted, clash}
use Rattle.words.specs.Tab.{same_or_not}
use Rattle.words_resolve.specs.declared.names.Seen.{Seen}
use Rattle.words_resolve.specs.declared.names.Seen.TheVariants.{Never, Once, Again}
use Rattle.words_resolve.specs.Names.{next, add, adds, fresh}
use Rattle.words_resolve.specs.Clashes.{clash_of, met, met_in}
use Rattle.words_resolve.proofs.Lists.{adds-length}

-- what a table says of one name, after some were added
abbrev after : ℕ → Seen → List ℕ → Seen
after x s [] = s
after x s (y ∷ ys) = after x (pick (eqb x y) (next s) s) ys

after-add : (seen : List Seen) (y x : ℕ) → length seen ≡ 256 → x < 256 → get_or (add seen y) x Never ≡ pick (eqb x y) (next (get_or seen x Never)) (get_or seen x Never)
after-add seen y x n l = by (same_or_not x y)
  where
    by : (x ≡ y) ⊎ (x ≡ y → ⊥) → get_or (add seen y) x Never ≡ pick (eqb x y) (next (get_or seen x Never)) (get_or seen x Never)
    by (inl e) =
        ap (λ (i : ℕ). get_or (add seen y) i Never) e ∙ get_or-set_same seen y (next (get_or seen y Never)) Never (omega (arith, n, l, e))
        ∙ ap (λ (i : ℕ). next (get_or seen i Never)) (sym e) ∙ sym (ap (λ (b : Bool). pick b (next (get_or seen x Never)) (get_or seen x Never)) (eq-eqb x y e))
    by (inr e) = get_or-set_other seen y x (next (get_or seen y Never)) Never e ∙ sym (ap (λ (b : Bool). pick b (next (get_or seen x Never)) (get_or seen x Never)) (ne_eqb x y e))

after-adds : (seen : List Seen) (xs : List ℕ) (x : ℕ) → length seen ≡ 256 → x < 256 → get_or (adds seen xs) x Never ≡ after x (get_or seen x Never) xs
after-adds seen [] x n l = refl
after-adds seen (y ∷ ys) x n l = after-adds (add seen y) ys x (length-set seen y (next (get_or seen y Never)) ∙ n) l ∙ ap (λ (s : Seen). after x s ys) (after-add seen y x n l)

pub told : (xs : List ℕ) (x : ℕ) → x < 256 → get_or (adds fresh xs) x Never ≡ after x Never xs
told xs x l = after-adds fresh xs x refl l ∙ ap (λ (s : Seen). after x s xs) (get_or-replicate 256 x Never Never l)

-- of a name that came twice, once, or not yet
after-again : (x : ℕ) (xs : List ℕ) → after x Again xs ≡ Again
after-again x [] = refl
after-again x (y ∷ ys) = ap (λ (s : Seen). after x s ys) (go (eqb x y)) ∙ after-again x ys
  where
    go : (b : Bool) → pick b Again Again ≡ Again
    go true = refl
    go false = refl

after-once : (x : ℕ) (xs : List ℕ) → after x Once xs ≡ pick (member x xs) Again Once
after-once x [] = refl
after-once x (y ∷ ys) = go (eqb x y) (after-once x ys)
  where
    go : (b : Bool) → after x Once ys ≡ pick (member x ys) Again Once → after x (pick b Again Once) ys ≡ pick (elim b as (λ z. Bool) [ true ↦ true | false ↦ member x ys ]) Again Once
    go true i = after-again x ys
    go false i = i

-- a name comes again behind its first place
abbrev again : ℕ → List ℕ → Bool
again x [] = false
again x (y ∷ ys) = elim (eqb x y) [ true ↦ member x ys | false ↦ again x ys ]

after-never : (x : ℕ) (xs : List ℕ) → after x Never xs ≡ pick (again x xs) Again (pick (member x xs) Once Never)
after-never x [] = refl
after-never x (y ∷ ys) = go (eqb x y) (after-never x ys)
  where
    either : (b : Bool) → pick b Again Once ≡ pick b Again (pick true Once Never)
    either true = refl
    either false = refl

    go : (b : Bool) → after x Never ys ≡ pick (again x ys) Again (pick (member x ys) Once Never) → after x (pick b Once Never) ys ≡ pick (elim b as (λ z. Bool) [ true ↦ member x ys | false ↦ again x ys ]) Again (pick (elim b as (λ z. Bool) [ true ↦ true | false ↦ member x ys ]) Once Never)
    go true i = after-once x ys ∙ either (member x ys)
    go false i = i

-- a name that comes again is in the list; and a list has a name twice exactly if one comes again
member-again : (x : ℕ) (xs : List ℕ) → again x xs ≡ true → member x xs ≡ true
member-again x [] e = e
member-again x (y ∷ ys) e = go (eqb x y) (member-again x ys) e
  where
    go : (b : Bool) → (again x ys ≡ true → member x ys ≡ true) → elim b as (λ z. Bool) [ true ↦ member x ys | false ↦ again x ys ] ≡ true → elim b as (λ z. Bool) [ true ↦ true | false ↦ member x ys ] ≡ true
    go true i e = refl
    go false i e = i e

or-right : (b : Bool) {c : Bool} → c ≡ true → (b || c) ≡ true
or-right true e = refl
or-right false e = e

or-left : {b : Bool} (c : Bool) → b ≡ true → (b || c) ≡ true
or-left c e = ap (λ (a : Bool). a || c) e

or-case : (b c : Bool) → (b || c) ≡ true → (b ≡ true) ⊎ (c ≡ true)
or-case true c e = inl refl
or-case false c e = inr e

again-twice : (x : ℕ) (xs : List ℕ) → again x xs ≡ true → twice xs ≡ true
again-twice x [] e = e
again-twice x (y ∷ ys) e = go (eqb x y) refl (again-twice x ys) e
  where
    go : (b : Bool) → eqb x y ≡ b → (again x ys ≡ true → twice ys ≡ true) → elim b as (λ z. Bool) [ true ↦ member x ys | false ↦ again x ys ] ≡ true → (member y ys || twice ys) ≡ true
    go true q i e = or-left (twice ys) (ap (λ (j : ℕ). member j ys) (sym (eqb-true x y q)) ∙ e)
    go false q i e = or-right (member y ys) (i e)

pub record Some (P : ℕ → Bool) : Type 0 where
  pub name : ℕ
  pub is : P name ≡ true

twice-again : (xs : List ℕ) → twice xs ≡ true → Some (λ x. again x xs)
twice-again [] e = record { name = 0; is = e }
twice-again (y ∷ ys) e = by (twice-again ys) (or-case (member y ys) (twice ys) e)
  where
    later : (x : ℕ) → again x ys ≡ true → (b : Bool) → elim b as (λ z. Bool) [ true ↦ member x ys | false ↦ again x ys ] ≡ true
    later x a true = member-again x ys a
    later x a false = a

    by : (twice ys ≡ true → Some (λ x. again x ys)) → (member y ys ≡ true) ⊎ (twice ys ≡ true) → Some (λ x. again x (y ∷ ys))
    by i (inl m) = record { name = y; is = ap (λ (b : Bool). elim b as (λ z. Bool) [ true ↦ member y ys | false ↦ again y ys ]) (eq-eqb y y refl) ∙ m }
    by i (inr t) = let s = i t in record { name = s.name; is = later s.name s.is (eqb s.name y) }

-- two lists meet exactly if one name is in both
both-meet : (x : ℕ) (xs ys : List ℕ) → member x xs ≡ true → member x ys ≡ true → meets xs ys ≡ true
both-meet x [] ys e d = e
both-meet x (z ∷ zs) ys e d = go (eqb x z) refl (λ m. both-meet x zs ys m d) e
  where
    go : (b : Bool) → eqb x z ≡ b → (member x zs ≡ true → meets zs ys ≡ true) → elim b as (λ z. Bool) [ true ↦ true | false ↦ member x zs ] ≡ true → (member z ys || meets zs ys) ≡ true
    go true q i e = or-left (meets zs ys) (ap (λ (j : ℕ). member j ys) (sym (eqb-true x z q)) ∙ d)
    go false q i e = or-right (member z ys) (i e)

pub record InTwo (xs ys : List ℕ) : Type 0 where
  pub name : ℕ
  pub left : member name xs ≡ true
  pub right : member name ys ≡ true

meet-both : (xs ys : List ℕ) → meets xs ys ≡ true → InTwo xs ys
meet-both [] ys e = absurd (tests.clash e)
meet-both (z ∷ zs) ys e = by (meet-both zs ys) (or-case (member z ys) (meets zs ys) e)
  where
    later : (x : ℕ) → member x zs ≡ true → (b : Bool) → elim b as (λ z. Bool) [ true ↦ true | false ↦ member x zs ] ≡ true
    later x a true = refl
    later x a false = a

    by : (meets zs ys ≡ true → InTwo zs ys) → (member z ys ≡ true) ⊎ (meets zs ys ≡ true) → InTwo (z ∷ zs) ys
    by i (inl m) = record { name = z; left = ap (λ (b : Bool). elim b as (λ q. Bool) [ true ↦ true | false ↦ member z zs ]) (eq-eqb z z refl); right = m }
    by i (inr t) = let s = i t in record { name = s.name; left = later s.name s.left (eqb s.name z); right = s.right }

-- one name, by its places in the tables and in the lists
abbrev one : Bool → Bool → Seen
one a m = pick a Again (pick m Once Never)

clash-of-one : (a m b n : Bool) → clash_of (one a m) (one b n) ≡ true → (a ≡ true) ⊎ ((m ≡ true) × (one b n ≡ Never → ⊥))
clash-of-one true m b n e = inl refl
clash-of-one false true b n e = inr (refl, λ q. tests.clash (sym (ap (clash_of Once) q) ∙ e))
clash-of-one false false b n e = absurd (tests.clash e)

not-never : (b n : Bool) → (one b n ≡ Never → ⊥) → (b ≡ true) ⊎ (n ≡ true)
not-never true n h = inl refl
not-never false true h = inr refl
not-never false false h = absurd (h refl)

once-other : (b : Bool) → clash_of Once (one b true) ≡ true
once-other true = refl
once-other false = refl

of-again : (m b n : Bool) → clash_of (one true m) (one b n) ≡ true
of-again m b n = refl

of-both : (a b : Bool) → clash_of (one a true) (one b true) ≡ true
of-both true b = refl
of-both false true = refl
of-both false false = refl

module _ (ls os : List ℕ) where
  abbrev at : ℕ → Bool
  at x = clash_of (after x Never ls) (after x Never os)

  at-is : (x : ℕ) → at x ≡ clash_of (one (again x ls) (member x ls)) (one (again x os) (member x os))
  at-is x = ap₂ clash_of (after-never x ls) (after-never x os)

  clash-in : (x : ℕ) → at x ≡ true → (twice ls || meets ls os) ≡ true
  clash-in x e = by (clash-of-one (again x ls) (member x ls) (again x os) (member x os) (sym (at-is x) ∙ e))
    where
      other : (again x os ≡ true) ⊎ (member x os ≡ true) → member x os ≡ true
      other (inl a) = member-again x os a
      other (inr m) = m

      by : (again x ls ≡ true) ⊎ ((member x ls ≡ true) × (one (again x os) (member x os) ≡ Never → ⊥)) → (twice ls || meets ls os) ≡ true
      by (inl a) = or-left (meets ls os) (again-twice x ls a)
      by (inr m) = or-right (twice ls) (both-meet x ls os m.0 (other (not-never (again x os) (member x os) m.1)))

  -- where there is a clash, there is a name
  pub record Place : Type 0 where
    pub name : ℕ
    pub member : member name ls ≡ true
    pub is : at name ≡ true

  clash-out : (twice ls || meets ls os) ≡ true → Place
  clash-out e = by (or-case (twice ls) (meets ls os) e)
    where
      by : (twice ls ≡ true) ⊎ (meets ls os ≡ true) → Place
      by (inl t) =
          let s = twice-again ls t in
          record { name = s.name; member = member-again s.name ls s.is; is = at-is s.name ∙ ap (λ (a : Bool). clash_of (one a (member s.name ls)) (one (again s.name os) (member s.name os))) s.is }
      by (inr t) =
          let s = meet-both ls os t in
          record { name = s.name; member = s.left; is = at-is s.name ∙ ap₂ {C = Bool} (λ (m n : Bool). clash_of (one (again s.name ls) m) (one (again s.name os) n)) s.left s.right ∙ of-both (again s.name ls) (again s.name os) }

-- tables, entry by entry
pub record Met (ls os : List Seen) : Type 0 where
  pub name : ℕ
  pub low : name < length ls
  pub is : clash_of (get_or ls name Never) (get_or os name Never) ≡ true

met-at : (ls os : List Seen) → met ls os ≡ true → Met ls os
met-at [] os e = absurd (tests.clash e)
met-at (l ∷ ls) [] e = absurd (tests.clash e)
met-at (l ∷ ls) (o ∷ os) e = by (met-at ls os) (or-case (clash_of l o) (met ls os) e)
  where
    by : (met ls os ≡ true → Met ls os) → (clash_of l o ≡ true) ⊎ (met ls os ≡ true) → Met (l ∷ ls) (o ∷ os)
    by i (inl c) = record { name = 0; low = omega arith; is = c }
    by i (inr m) = let s = i m in record { name = suc s.name; low = omega (arith, s.low); is = s.is }

at-met : (ls os : List Seen) (x : ℕ) → x < length ls → x < length os → clash_of (get_or ls x Never) (get_or os x Never) ≡ true → met ls os ≡ true
at-met [] os x l m e = absurd (omega (arith, l))
at-met (l' ∷ ls) [] x l m e = absurd (omega (arith, m))
at-met (l' ∷ ls) (o ∷ os) zero l m e = or-left (met ls os) e
at-met (l' ∷ ls) (o ∷ os) (suc x) l m e = or-right (clash_of l' o) (at-met ls os x (omega (arith, l)) (omega (arith, m)) e)

-- all names are below 256
abbrev pub AllLow : List ℕ → Type 0
AllLow [] = Unit {0}
AllLow (x ∷ xs) = (x < 256) × AllLow xs

low-member : (x : ℕ) (xs : List ℕ) → AllLow xs → member x xs ≡ true → x < 256
low-member x [] h e = absurd (tests.clash e)
low-member x (y ∷ ys) h e = go (eqb x y) refl (low-member x ys h.1) e
  where
    go : (b : Bool) → eqb x y ≡ b → (member x ys ≡ true → x < 256) → elim b as (λ z. Bool) [ true ↦ true | false ↦ member x ys ] ≡ true → x < 256
    go true q i e = let d : x ≡ y = eqb-true x y q in omega (arith, d, h.0)
    go false q i e = i e

same-true : (a b : Bool) → (a ≡ true → b ≡ true) → (b ≡ true → a ≡ true) → a ≡ b
same-true true b f g = sym (f refl)
same-true false true f g = absurd (tests.clash (g refl))
same-true false false f g = refl

pub met-clash : (c : Counted) → AllLow c.lexical → met_in c ≡ clash c
met-clash c h = same-true (met_in c) (clash c) into out
  where
    long : (xs : List ℕ) → length (adds fresh xs) ≡ 256
    long xs = adds-length fresh xs

    entries : (x : ℕ) → x < 256 → clash_of (get_or (adds fresh c.lexical) x Never) (get_or (adds fresh c.others) x Never) ≡ clash_of (after x Never c.lexical) (after x Never c.others)
    entries x l = ap₂ clash_of (told c.lexical x l) (told c.others x l)

    into : met_in c ≡ true → clash c ≡ true
    into e = let m = met-at (adds fresh c.lexical) (adds fresh c.others) e in let l : m.name < 256 = omega (arith, m.low, long c.lexical) in clash-in c.lexical c.others m.name (sym (entries m.name l) ∙ m.is)

    out : clash c ≡ true → met_in c ≡ true
    out e =
        let p = clash-out c.lexical c.others e in
        let l : p.name < 256 = low-member p.name c.lexical h p.member in
        at-met (adds fresh c.lexical) (adds fresh c.others) p.name (omega (arith, l, long c.lexical)) (omega (arith, l, long c.others)) (entries p.name l ∙ p.is)
