-- What a node begins with, by its row's parts. Assumes nothing.
use Rattle.std.proofs.Common.{◌≡◌, ℕ, zero, suc, ◌<◌, ◌≤◌, Bool, true, false, ◌&&◌, ◌||◌, eqb, leb, List, [], ◌∷◌, length, get_or, Option, None, refl, sym, ap, ap₂, ◌∙◌, arith}
use Rattle.std.specs.Prelude.{T}
use Rattle.std.proofs.lemmas.Bool.{eqb-true}
use Rattle.def_tree.specs.Base.{pick}
use Rattle.def_text.specs.Words.{Word, every, some}
use Rattle.def_text.specs.Grammar.{Slot, Part as Right, word, own, kid, run, commas, more, look, if_has, if_not, one_default, each, each_after, each_between, write_out, Rule, singles, has_list, is_for, right_for}
use Rattle.def_text.specs.Table.{rules}
use Rattle.def_text.specs.Derives.{right_of, first_right}
use Rattle.def_text.specs.Print.{follow, opening_of}
use Rattle.laws_text.proofs.Basics.{and_left, and_right, is_true, Within, here, there, every-at, some-found}
use Rattle.laws_text.proofs.Rows.{open-same}
use Rattle.laws_put.proofs.Tests.{rule-in}
use Rattle.text_table.specs.Rows.{Row, rows, no_row, bars, parts, parts_of}
use Rattle.text_rows.proofs.Tests.{rows-length}
use Rattle.text_spots.specs.Spots.{bars_of}
use Rattle.text_parts.specs.Parts.{list_length, comma, follow_parts, begin_parts}
use Rattle.text_parts.specs.Claims.{Begins, NoRow}
use Rattle.text_parts.proofs.Tests.{known, list_ok, good, good-at, row-in, known-word, comma-word, same_bars}

pick-some : {A : Type 0} (d : ℕ) (x y : A) → pick (eqb (suc d) 0) x y ≡ y
pick-some d x y = go (eqb (suc d) 0) refl
  where
    go : (b : Bool) → eqb (suc d) 0 ≡ b → pick b x y ≡ y
    go true e = absurd (let i = eqb-true (suc d) 0 e in omega arith)
    go false e = refl

-- ---- the token behind

ends-follow : (m d : ℕ) (c : Option ℕ) (n : List Word) → n ≡ follow_parts d (parts m c []) n
ends-follow zero d c n = refl
ends-follow (suc m) d c n = refl

run-follow : (x : Slot) (d : ℕ) (ps : List Right) (n r : List Word) → follow ps n ≡ r → follow (each x d ps) n ≡ pick (eqb d 0) r []
run-follow x zero ps n r e = e
run-follow x (suc d) ps n r e = sym (pick-some d r [])

commas-follow : (x : Slot) (d : ℕ) (ps : List Right) (n r : List Word) → follow ps n ≡ r → follow (each_between x d ps) n ≡ pick (eqb d 0) r []
commas-follow x zero ps n r e = e
commas-follow x (suc d) ps n r e = sym (pick-some d r [])

more-follow : (x : Slot) (d : ℕ) (ps : List Right) (n r : List Word) → follow ps n ≡ r → follow (each_after x d ps) n ≡ pick (eqb d 0) r comma
more-follow x zero ps n r e = e
more-follow x (suc d) ps n r e = ap {B = List Word} (λ (w : Word). w ∷ []) (sym comma-word) ∙ sym (pick-some d r comma)

-- the parts are followed as the right side written out is
pub follow-same : (m d : ℕ) (c : Option ℕ) (b : Bool) (ps : List Right) (n : List Word) → length ps ≤ m → T (good c b ps) → follow (write_out d ps) n ≡ follow_parts d (parts m c ps) n
follow-same m d c b [] n h g = ends-follow m d c n
follow-same zero d c b (p ∷ ps) n h g = absurd (omega arith)
follow-same (suc m) d c b (word w ∷ ps) n h g = ap {B = List Word} (λ (v : Word). v ∷ []) (sym (known-word w (and_left (known w) (good c true ps) g)))
follow-same (suc m) d c b (own q ∷ ps) n h g = refl
follow-same (suc m) d c b (kid x ∷ ps) n h g = refl
follow-same (suc m) d c b (run x ∷ ps) n h g = run-follow x d (write_out d ps) n _ (follow-same m d None true ps n (omega arith) (and_right (list_ok c b ps) (good None true ps) g))
follow-same (suc m) d c b (commas x ∷ ps) n h g = commas-follow x d (write_out d ps) n _ (follow-same m d None true ps n (omega arith) (and_right (list_ok c b ps) (good None true ps) g))
follow-same (suc m) d c b (more x ∷ ps) n h g = more-follow x d (write_out d ps) n _ (follow-same m d None true ps n (omega arith) (and_right (list_ok c b ps) (good None true ps) g))
follow-same (suc m) d c b (look cs ∷ ps) n h g = follow-same m d c false ps n (omega arith) (and_right (same_bars (bars_of (bars cs)) cs) (good c false ps) g)
follow-same (suc m) d c b (if_has p ∷ ps) n h g = follow-same m d c b ps n (omega arith) g
follow-same (suc m) d c b (if_not p ∷ ps) n h g = follow-same m d c b ps n (omega arith) g
follow-same (suc m) d c b (one_default ∷ ps) n h g = follow-same m d c b ps n (omega arith) (and_right _ (good c b ps) g)

-- ---- the first tokens

ends-begin : (m d : ℕ) (c : Option ℕ) (o : Word) (n first : List Word) → [] ≡ begin_parts d o n first (parts m c [])
ends-begin zero d c o n first = refl
ends-begin (suc m) d c o n first = refl

run-begin : (x : Slot) (d : ℕ) (ps : List Right) (o : Word) (n first r : List Word) → opening_of o n ps first ≡ r → opening_of o n (each x d ps) first ≡ pick (eqb d 0) r first
run-begin x zero ps o n first r e = e
run-begin x (suc d) ps o n first r e = sym (pick-some d r first)

commas-begin : (x : Slot) (d : ℕ) (ps : List Right) (o : Word) (n first r : List Word) → opening_of o n ps first ≡ r → opening_of o n (each_between x d ps) first ≡ pick (eqb d 0) r first
commas-begin x zero ps o n first r e = e
commas-begin x (suc d) ps o n first r e = sym (pick-some d r first)

more-begin : (x : Slot) (d : ℕ) (ps : List Right) (o : Word) (n first r : List Word) → opening_of o n ps first ≡ r → opening_of o n (each_after x d ps) first ≡ pick (eqb d 0) r comma
more-begin x zero ps o n first r e = e
more-begin x (suc d) ps o n first r e = ap {B = List Word} (λ (w : Word). w ∷ []) (sym comma-word) ∙ sym (pick-some d r comma)

-- they begin with what it begins with
begin-same : (m d : ℕ) (c : Option ℕ) (b : Bool) (ps : List Right) (o : Word) (n first : List Word) → length ps ≤ m → T (good c b ps) → opening_of o n (write_out d ps) first ≡ begin_parts d o n first (parts m c ps)
begin-same m d c b [] o n first h g = ends-begin m d c o n first
begin-same zero d c b (p ∷ ps) o n first h g = absurd (omega arith)
begin-same (suc m) d c b (word w ∷ ps) o n first h g =
    ap₂ {C = List Word} (λ (v : Word) (vs : List Word). v ∷ vs) (sym (known-word w (and_left (known w) (good c true ps) g))) (follow-same m d c true ps n (omega arith) (and_right (known w) (good c true ps) g))
begin-same (suc m) d c b (own q ∷ ps) o n first h g = ap {B = List Word} (λ (vs : List Word). o ∷ vs) (follow-same m d c true ps n (omega arith) g)
begin-same (suc m) d c b (kid x ∷ ps) o n first h g = refl
begin-same (suc m) d c b (run x ∷ ps) o n first h g = run-begin x d (write_out d ps) o n first _ (begin-same m d None true ps o n first (omega arith) (and_right (list_ok c b ps) (good None true ps) g))
begin-same (suc m) d c b (commas x ∷ ps) o n first h g = commas-begin x d (write_out d ps) o n first _ (begin-same m d None true ps o n first (omega arith) (and_right (list_ok c b ps) (good None true ps) g))
begin-same (suc m) d c b (more x ∷ ps) o n first h g = more-begin x d (write_out d ps) o n first _ (begin-same m d None true ps o n first (omega arith) (and_right (list_ok c b ps) (good None true ps) g))
begin-same (suc m) d c b (look cs ∷ ps) o n first h g = begin-same m d c false ps o n first (omega arith) (and_right (same_bars (bars_of (bars cs)) cs) (good c false ps) g)
begin-same (suc m) d c b (if_has p ∷ ps) o n first h g = begin-same m d c b ps o n first (omega arith) g
begin-same (suc m) d c b (if_not p ∷ ps) o n first h g = begin-same m d c b ps o n first (omega arith) g
begin-same (suc m) d c b (one_default ∷ ps) o n first h g = begin-same m d c b ps o n first (omega arith) (and_right _ (good c b ps) g)

pub begins : Begins
unfolding parts_of
begins k f m i o n first l h =
    let r = get_or rows i no_row in
    let a = good-at i l in
    open-same k f m r.rule o n first (rule-in r (row-in i l)) h ∙ begin-same 11 (list_length i m) r.first false r.rule.right o n first a.short a.fine

-- ---- where there is no row there is no production

abbrev same_bool : Bool → Bool → Bool
same_bool true b = b
same_bool false true = false
same_bool false false = true

-- each production has a row for the same nodes
abbrev twins : Rule → Row → Bool
twins q r = ((eqb r.rule.kind q.kind && eqb r.rule.form q.form) && eqb (singles r.rule.right) (singles q.right)) && same_bool (has_list r.rule.right) (has_list q.right)

all-twins : T (every (λ q. some (twins q) rows) rules)
unfolding rules rows
all-twins = tt

bool-eq : (a b : Bool) → T (same_bool a b) → a ≡ b
bool-eq true true h = refl
bool-eq true false h = absurd h
bool-eq false true h = absurd h
bool-eq false false h = refl

-- a row that is as a production is for the same nodes
twin-for : (k f m : ℕ) (q : Rule) (r : Row) → T (twins q r) → is_for k f m q ≡ is_for k f m r.rule
twin-for k f m q r h =
    let K = eqb r.rule.kind q.kind in
    let F = eqb r.rule.form q.form in
    let S = eqb (singles r.rule.right) (singles q.right) in
    let L = same_bool (has_list r.rule.right) (has_list q.right) in
    let a = and_left ((K && F) && S) L h in
    let b = and_left (K && F) S a in
    let k! = sym (eqb-true r.rule.kind q.kind (is_true _ (and_left K F b))) in
    let f! = sym (eqb-true r.rule.form q.form (is_true _ (and_right K F b))) in
    let s! = sym (eqb-true (singles r.rule.right) (singles q.right) (is_true _ (and_right (K && F) S a))) in
    let l! = sym (bool-eq (has_list r.rule.right) (has_list q.right) (and_right ((K && F) && S) L h)) in
    ap₂ (λ (x y : ℕ). eqb x k && eqb y f && (eqb (singles q.right) m || (has_list q.right && leb (singles q.right) m))) k! f!
    ∙ ap₂ (λ (x : ℕ) (y : Bool). eqb r.rule.kind k && eqb r.rule.form f && (eqb x m || (y && leb x m))) s! l!

record Numbered {A : Type 0} (d x : A) (xs : List A) : Type 0 where
  number : ℕ
  below : number < length xs
  is : get_or xs number d ≡ x

number-of : {A : Type 0} (d x : A) (xs : List A) → Within x xs → Numbered d x xs
number-of d x xs (here ys) = record { number = 0; below = omega arith; is = refl }
number-of d x xs (there y ys w) = let e = number-of d x ys w in record { number = suc e.number; below = omega (arith, e.below); is = e.is }

-- no production, nothing on the right
none-right : (k f m : ℕ) (qs : List Rule) → ((q : Rule) → Within q qs → is_for k f m q ≡ false) → first_right k f m qs ≡ []
none-right k f m [] h = refl
none-right k f m (q ∷ qs) h = ap (λ (b : Bool). elim b as (λ z. List Right) [ true ↦ right_for m q | false ↦ first_right k f m qs ]) (h q (here qs)) ∙ none-right k f m qs (λ p w. h p (there q qs w))

pub no-row : NoRow
unfolding right_of
no-row k f m o n first h = ap (λ (ps : List Right). opening_of o n ps first) (none-right k f m rules none)
  where
    none : (q : Rule) → Within q rules → is_for k f m q ≡ false
    none q w =
        let t = some-found (twins q) rows (every-at (λ q. some (twins q) rows) q rules all-twins w) in
        let i = number-of no_row t.one rows t.inside in
        twin-for k f m q t.one t.passes ∙ ap (λ (r : Row). is_for k f m r.rule) (sym i.is) ∙ h i.number (omega (arith, i.below, rows-length))
