-- Loops that declare, tree by tree or node by node. Assumes nothing.
use mathlib.Core.Path.{◌≡◌, refl, sym, ap, ap₂, ◌∙◌}
use mathlib.Core.Bool.{Bool, true, false, ◌&&◌}
use mathlib.Core.Logic.{◌⊎◌, inl, inr}
use mathlib.Core.List.{List, [], ◌∷◌, ◌++◌, append_assoc}
use Prim.Native.Nat.{ℕ, ◌+◌, ◌-◌, ◌<◌}
use native.Mathlib.Omega.{arith}
use borrow.Author.Tests.{eq-eqb, ne_eqb, lt-ltb}
use lib.Dec.{eqb, ltb}
use lib.ListN.{length, get_or, set, length-set}
use lib.Seq.{get_or-set_same, get_or-set_other}
use Rattle.def_tree.specs.Base.{pick}
use Rattle.def_tree.specs.Tree.{Tree, Forest, node, nil, cons, kind, kids, count, Core, no_core}
use Rattle.def_tree.proofs.Place.{append_f}
use Rattle.def_tree.proofs.Whole.{Whole}
use Rattle.def_pass.specs.Tree.{in_pattern, bound_names, bound_names_f}
use Rattle.def_pass.specs.Twice.{is_function, among, vars, vars_f, params, any_of, twice}
use Rattle.words.specs.Tab.{same_or_not}
use Rattle.words_scopes.proofs.Split.{never}
use Rattle.words_nodes.specs.Nodes.{tree_from, forest_from}
use Rattle.words_nodes.proofs.Loops.{Open, open_in, open-past}
use Rattle.words_twice.specs.declared.Seen.{Seen}
use Rattle.words_twice.specs.declared.Seen.TheVariants.{Never, Once, OnceCostly, Again, AgainCostly}
use Rattle.words_twice.specs.Twice.{next, after, told, Declares, Tells, named, own}
use Rattle.words_twice.proofs.Places.{forest-none, forest-cons, forest-in}

after-append : (s : Seen) (ds es : List Bool) → after s (ds ++ es) ≡ after (after s ds) es
after-append s [] es = refl
after-append s (d ∷ ds) es = after-append (next s d) ds es

pub not-told : (s : Seen) → (s ≡ AgainCostly → ⊥) → told s ≡ false
not-told Never h = refl
not-told Once h = refl
not-told OnceCostly h = refl
not-told Again h = refl
not-told AgainCostly h = absurd (h refl)

-- what is told of some declarations
told-both : (ds : List Bool) → told (after AgainCostly ds) ≡ true
told-both [] = refl
told-both (d ∷ ds) = told-both ds

told-again : (ds : List Bool) → told (after Again ds) ≡ any_of ds
told-again [] = refl
told-again (true ∷ ds) = told-both ds
told-again (false ∷ ds) = told-again ds

-- a first one is known
told-one : (d : Bool) (ds : List Bool) → told (after (pick d OnceCostly Once) ds) ≡ (ltb 1 (length (d ∷ ds)) && any_of (d ∷ ds))
told-one true [] = refl
told-one true (e ∷ ds) = told-both ds ∙ sym (ap (λ (b : Bool). b && true) (lt-ltb 1 (length (true ∷ e ∷ ds)) (omega arith)))
told-one false [] = refl
told-one false (true ∷ ds) = told-both ds ∙ sym (ap (λ (b : Bool). b && true) (lt-ltb 1 (length (false ∷ true ∷ ds)) (omega arith)))
told-one false (false ∷ ds) = told-again ds ∙ sym (ap (λ (b : Bool). b && any_of ds) (lt-ltb 1 (length (false ∷ false ∷ ds)) (omega arith)))

told-never : (ds : List Bool) → told (after Never ds) ≡ (ltb 1 (length ds) && any_of ds)
told-never [] = refl
told-never (d ∷ ds) = told-one d ds

-- the names that a tree binds, and those that follow
among-append : (i : ℕ) (b : Bool) (is js : List ℕ) → among i b (is ++ js) ≡ among i b is ++ among i b js
among-append i b [] js = refl
among-append i b (k ∷ is) js = go (eqb k i) (among-append i b is js)
  where
    go : (q : Bool) → among i b (is ++ js) ≡ among i b is ++ among i b js
        → ◌≡◌ {A = List Bool} (elim q as (λ x. List Bool) [ true ↦ b ∷ among i b (is ++ js) | false ↦ among i b (is ++ js) ]) (elim q as (λ x. List Bool) [ true ↦ b ∷ among i b is | false ↦ among i b is ] ++ among i b js)
    go true e = ap (λ (ds : List Bool). b ∷ ds) e
    go false e = e

mutual
  bounds-then : (t : Tree) (is : List ℕ) → bound_names t is ≡ bound_names t [] ++ is
  bounds-then (node k f a ts) is = go (eqb k 20) (in_pattern k) (bounds_f-then ts is)
    where
      go : (b p : Bool) → bound_names_f ts is ≡ bound_names_f ts [] ++ is
          → ◌≡◌ {A = List ℕ} (elim b [ true ↦ a ∷ is | false ↦ elim p [ true ↦ bound_names_f ts is | false ↦ is ] ]) (elim b as (λ x. List ℕ) [ true ↦ a ∷ [] | false ↦ elim p as (λ x. List ℕ) [ true ↦ bound_names_f ts [] | false ↦ [] ] ] ++ is)
      go true p e = refl
      go false true e = e
      go false false e = refl

  bounds_f-then : (ts : Forest) (is : List ℕ) → bound_names_f ts is ≡ bound_names_f ts [] ++ is
  bounds_f-then nil is = refl
  bounds_f-then (cons t ts) is = bounds-then t (bound_names_f ts is) ∙ ap (λ (js : List ℕ). bound_names t [] ++ js) (bounds_f-then ts is) ∙ sym (append_assoc (bound_names t []) (bound_names_f ts []) is) ∙ ap (λ (js : List ℕ). js ++ is) (sym (bounds-then t (bound_names_f ts [])))

params_are : (i : ℕ) (ts : Forest) → params i ts ≡ named false i ts
params_are i nil = refl
params_are i (cons t ts) = ap (λ (ds : List Bool). among i false (bound_names t []) ++ ds) (params_are i ts) ∙ sym (among-append i false (bound_names t []) (bound_names_f ts [])) ∙ ap (among i false) (sym (bounds-then t (bound_names_f ts [])))

bounds-append : (us ts : Forest) (is : List ℕ) → bound_names_f (append_f us ts) is ≡ bound_names_f us (bound_names_f ts is)
bounds-append nil ts is = refl
bounds-append (cons u us) ts is = ap (bound_names u) (bounds-append us ts is)

-- one node: part of a pattern, or not
module _ (c : Bool) (i k f a : ℕ) (us ts : Forest) where
  abbrev js : List ℕ
  js = bound_names_f ts []

  abbrev by : Bool → Bool → List Bool
  by b p = among i c (elim b as (λ x. List ℕ) [ true ↦ a ∷ js | false ↦ elim p as (λ x. List ℕ) [ true ↦ bound_names_f us js | false ↦ js ] ])

  pub named_in : in_pattern k ≡ true → named c i (cons (node k f a us) ts) ≡ [] ++ named c i (append_f us ts)
  named_in e =
      let no : eqb k 20 ≡ false = ne_eqb k 20 (λ q. never (sym (ap in_pattern q) ∙ e)) in
      ap₂ {C = List Bool} by no e ∙ ap (among i c) (sym (bounds-append us ts []))

  pub named-past : in_pattern k ≡ false → named c i (cons (node k f a us) ts) ≡ pick (eqb k 20 && eqb a i) (c ∷ []) [] ++ named c i ts
  named-past e = ap (by (eqb k 20)) e ∙ go (eqb k 20)
    where
      one : (q : Bool) → ◌≡◌ {A = List Bool} (elim q as (λ x. List Bool) [ true ↦ c ∷ named c i ts | false ↦ named c i ts ]) (pick q (c ∷ []) [] ++ named c i ts)
      one true = refl
      one false = refl

      go : (b : Bool) → by b false ≡ pick (b && eqb a i) (c ∷ []) [] ++ named c i ts
      go true = one (eqb a i)
      go false = refl

-- one node: a function, or not
module _ (i : ℕ) where
  pub vars-shut : (t : Tree) (ts : Forest) → is_function (kind t) ≡ true → vars_f i (cons t ts) ≡ [] ++ vars_f i ts
  vars-shut (node k f a us) ts e = ap (λ (b : Bool). elim b as (λ x. List Bool) [ true ↦ [] | false ↦ own i (node k f a us) ++ vars_f i us ] ++ vars_f i ts) e

  vars-append : (us ts : Forest) → vars_f i (append_f us ts) ≡ vars_f i us ++ vars_f i ts
  vars-append nil ts = refl
  vars-append (cons u us) ts = ap (λ (ds : List Bool). vars i u ++ ds) (vars-append us ts) ∙ sym (append_assoc (vars i u) (vars_f i us) (vars_f i ts))

  pub vars-open : (t : Tree) (ts : Forest) → is_function (kind t) ≡ false → vars_f i (cons t ts) ≡ own i t ++ vars_f i (append_f (kids t) ts)
  vars-open (node k f a us) ts e =
      ap (λ (b : Bool). elim b as (λ x. List Bool) [ true ↦ [] | false ↦ own i (node k f a us) ++ vars_f i us ] ++ vars_f i ts) e
      ∙ append_assoc (own i (node k f a us)) (vars_f i us) (vars_f i ts) ∙ ap (λ (ds : List Bool). own i (node k f a us) ++ ds) (sym (vars-append us ts))

-- the table from one that has nothing
pub tells-twice : (ts : Forest) {none mid seen : List Seen} → ((x : ℕ) → x < 256 → get_or none x Never ≡ Never) → Declares none mid (λ x. named false x ts) → Declares mid seen (λ x. vars_f x ts) → Tells seen (twice ts)
tells-twice ts {none} {mid} {seen} z a b x l =
    let p : after Never (named false x ts) ≡ get_or mid x Never = ap (λ (s : Seen). after s (named false x ts)) (sym (z x l)) ∙ sym (a.here x l) in
    ap told (b.here x l ∙ ap (λ (s : Seen). after s (vars_f x ts)) (sym p) ∙ sym (after-append Never (named false x ts) (vars_f x ts)) ∙ ap (λ (ds : List Bool). after Never (ds ++ vars_f x ts)) (sym (params_are x ts))) ∙ told-never (params x ts ++ vars_f x ts)

-- nothing is declared; and the same in other words
pub declares-none : {seen : List Seen} {f : ℕ → List Bool} → length seen ≡ 256 → ((x : ℕ) → f x ≡ []) → Declares seen seen f
declares-none {seen} n e = record { size = n; here = λ x l. ap (after (get_or seen x Never)) (sym (e x)) }

pub declares-as : {old new : List Seen} {f g : ℕ → List Bool} → Declares old new f → ((x : ℕ) → g x ≡ f x) → Declares old new g
declares-as {old} d e = record { size = d.size; here = λ x l. d.here x l ∙ ap (after (get_or old x Never)) (sym (e x)) }

-- a loop over trees that declares what f gives: behind `at` stand the `more` trees that are not yet looked at
pub record Declaring (f : ℕ → Forest → List Bool) (xs : List Core) (i n : ℕ) (old now : List Seen) (at more : ℕ) : Type 0 where
  pub still : Open xs at more
  pub size : length now ≡ 256
  pub is : (x : ℕ) → x < 256 → after (get_or now x Never) (f x (forest_from xs more at)) ≡ after (get_or old x Never) (f x (forest_from xs n i))

pub declaring-none : (f : ℕ → Forest → List Bool) {xs : List Core} {i n : ℕ} {old : List Seen} → Open xs i n → length old ≡ 256 → Declaring f xs i n old old i n
declaring-none f o e = record { still = o; size = e; is = λ x l. refl }

module _ {f : ℕ → Forest → List Bool} {xs : List Core} {i n : ℕ} {old now : List Seen} {at more : ℕ} (h : Declaring f xs i n old now at more) where
  pub declaring-all : more ≡ 0 → ((x : ℕ) → f x nil ≡ []) → Declares old now (λ x. f x (forest_from xs n i))
  declaring-all z e = record {
    size = h.size;
    here = λ x l. sym (ap (after (get_or now x Never)) (ap (f x) (ap (λ (k : ℕ). forest_from xs k at) z ∙ forest-none xs at) ∙ e x)) ∙ h.is x l;
  }

  module _ (w : Whole xs) (z : 0 < more) (r : ℕ → List Bool) {new : List Seen} (d : Declares now new r) where
    abbrev behind : Forest
    behind = forest_from xs (more - 1) (at + count (tree_from xs at))

    told-then : (us : ℕ → Forest) → ((x : ℕ) → f x (forest_from xs more at) ≡ r x ++ f x (us x)) → (x : ℕ) → x < 256 → after (get_or new x Never) (f x (us x)) ≡ after (get_or old x Never) (f x (forest_from xs n i))
    told-then us e x l =
        ap (λ (s : Seen). after s (f x (us x))) (d.here x l) ∙ sym (after-append (get_or now x Never) (r x) (f x (us x)))
        ∙ ap (after (get_or now x Never)) (sym (e x)) ∙ h.is x l

    pub declaring-past : {next : ℕ} → ((x : ℕ) (ts : Forest) → f x (cons (tree_from xs at) ts) ≡ r x ++ f x ts) → next ≡ at + count (tree_from xs at) → Declaring f xs i n old new next (more - 1)
    declaring-past e q = rw q (record { still = open-past w h.still z; size = d.size; is = told-then (λ x. behind) (λ x. ap (f x) (forest-cons w h.still z) ∙ e x behind) })

    pub declaring-in : {c : ℕ} → ((x : ℕ) (ts : Forest) → f x (cons (tree_from xs at) ts) ≡ r x ++ f x (append_f (forest_from xs (get_or xs at no_core).arity (at + 1)) ts)) → c ≡ (get_or xs at no_core).arity → Declaring f xs i n old new (at + 1) (more - 1 + c)
    declaring-in e q = rw q (record {
      still = open_in w h.still z;
      size = d.size;
      is = told-then (λ x. forest_from xs (more - 1 + (get_or xs at no_core).arity) (at + 1)) (λ x. ap (f x) (forest-cons w h.still z) ∙ e x behind ∙ ap (λ (ts : Forest). r x ++ f x ts) (sym (forest-in w h.still z)));
    })

-- a name, which is one of 256
pub declares-one : (seen : List Seen) (b : Bool) {k : ℕ} → length seen ≡ 256 → k < 256 → Declares seen (set seen k (next (get_or seen k Never) b)) (λ x. pick (eqb k x) (b ∷ []) [])
declares-one seen b {k} size l = record { size = length-set seen k (next (get_or seen k Never) b) ∙ size; here = λ x m. by x (same_or_not x k) }
  where
    by : (x : ℕ) → (x ≡ k) ⊎ (x ≡ k → ⊥) → get_or (set seen k (next (get_or seen k Never) b)) x Never ≡ after (get_or seen x Never) (pick (eqb k x) (b ∷ []) [])
    by x (inl e) = rw e (get_or-set_same seen k (next (get_or seen k Never) b) Never (omega (arith, size)) ∙ sym (ap (λ (p : Bool). after (get_or seen k Never) (pick p (b ∷ []) [])) (eq-eqb k k refl)))
    by x (inr e) = get_or-set_other seen k x (next (get_or seen k Never) b) Never e ∙ sym (ap (λ (p : Bool). after (get_or seen x Never) (pick p (b ∷ []) [])) (ne_eqb k x (λ q. e (sym q))))
