-- The scopes that a node opens, by its kind. Assumes nothing.
use mathlib.Core.Path.{◌≡◌, refl, sym, ap, ap₂, ◌∙◌, subst}
use mathlib.Core.Bool.{Bool, true, false, ◌||◌, ◌&&◌, not}
use mathlib.Core.List.{List, [], ◌∷◌}
use Prim.Native.Nat.{ℕ, ◌<◌}
use native.Mathlib.Omega.{arith}
use lib.Dec.{eqb, leb}
use lib.ListN.{length, get_or}
use borrow.Author.Tests.{eqb-true, clash}
use Rattle.def_tree.specs.Base.{pick}
use Rattle.def_pass.specs.Tree.{Tree, Forest, node, kids}
use Rattle.def_pass.specs.Twice.{is_function, is_named}
use Rattle.def_resolve.specs.Names.{bound_first, lexical_names_f}
use Rattle.def_resolve.specs.Scopes.{Scope, scope, Role, apart, shared, body, role, defaults, tops, opened_block, opened, first_outside}
use Rattle.words.specs.Layout.{node_of, tree}
use Rattle.words_nodes.specs.Nodes.{Planted, tree_from}
use Rattle.words_twice.proofs.Looks.{node-tree, node-kids}
use Rattle.words_resolve.specs.Scopes.{catch_names, function_names}
use Rattle.words_contexts.specs.declared.scopes.Role.{Role as Standing}
use Rattle.words_contexts.specs.declared.scopes.Role.TheVariants.{Apart, Shared, Body}
use Rattle.words_contexts.specs.Walk.{role_of, opens_one, innermost, last_role}

-- a block, with a scope of its own
pub block-own : (s : Standing) (ts : Forest) → (s ≡ Body → ⊥) → 0 < length (opened_block (role_of s) ts) → lexical_names_f ts ≡ (innermost (opened_block (role_of s) ts)).names
block-own Apart ts n l = refl
block-own Shared ts n l = absurd (omega arith)
block-own Body ts n l = absurd (n refl)

-- a scope that is no function's has no `arguments`
block-plain : (r : Role) (ts : Forest) → (innermost (opened_block r ts)).function ≡ false
block-plain apart ts = refl
block-plain shared ts = refl
block-plain body ts = refl

block-few : (r : Role) (ts : Forest) → 1 < length (opened_block r ts) → ⊥
block-few apart ts e = omega arith
block-few shared ts e = omega arith
block-few body ts e = omega arith

-- scopes by how many they are
pub one-of : (ss : List Scope) → length ss ≡ 1 → ss ≡ innermost ss ∷ []
one-of [] e = absurd (omega arith)
one-of (s ∷ []) e = refl
one-of (s ∷ (u ∷ us)) e = absurd (omega arith)

pub none-of : (ss : List Scope) → length ss ≡ 0 → ss ≡ []
none-of [] e = refl
none-of (s ∷ ss) e = absurd (omega arith)

module _ (k f : ℕ) (ts : Forest) where
  -- a function's own scope, and that of its name
  abbrev own : Scope
  own = record { names = function_names k f ts; function = not (eqb k 40) }

  abbrev with_name : Bool → List Scope
  with_name b = pick b (scope (bound_first ts) ∷ own ∷ []) (own ∷ [])

  function-inner : (b : Bool) → innermost (with_name b) ≡ own
  function-inner true = refl
  function-inner false = refl

  own-arguments : is_function k ≡ true → not (eqb k 40) ≡ (eqb k 7 || eqb k 39)
  own-arguments h = go (eqb k 7) refl (eqb k 39) refl (eqb k 40) refl h
    where
      go : (p : Bool) → eqb k 7 ≡ p → (q : Bool) → eqb k 39 ≡ q → (u : Bool) → eqb k 40 ≡ u → ((p || q) || u) ≡ true → not (eqb k 40) ≡ (p || q)
      go true x q y u z h = subst (λ (m : ℕ). not (eqb m 40) ≡ true) (sym (eqb-true k 7 x)) refl
      go false x true y u z h = subst (λ (m : ℕ). not (eqb m 40) ≡ true) (sym (eqb-true k 39 y)) refl
      go false x false y true z h = ap not z
      go false x false y false z h = absurd (clash h)

  -- what is no block and no function
  abbrev others : Bool → Bool → Bool → List Scope
  others u v s = elim u as (λ z. List Scope) [ true ↦ scope (lexical_names_f ts) ∷ [] | false ↦ elim v as (λ z. List Scope) [ true ↦ scope (catch_names k f ts) ∷ [] | false ↦ elim s as (λ z. List Scope) [ true ↦ scope (tops ts) ∷ [] | false ↦ [] ] ] ]

  abbrev loops : ℕ → Bool
  loops m = (leb 12 m && leb m 14) || eqb m 18

  abbrev other : List Scope
  other = others (loops k) (eqb k 17) (eqb k 1)

  others-one : (u v s : Bool) → (u || (v || s)) ≡ true → 1 ≡ length (others u v s)
  others-one true v s h = refl
  others-one false true s h = refl
  others-one false false true h = refl
  others-one false false false h = absurd (clash h)

  others-none : (u v s : Bool) → (u || (v || s)) ≡ false → 0 ≡ length (others u v s)
  others-none true v s h = absurd (clash (sym h))
  others-none false true s h = absurd (clash (sym h))
  others-none false false true h = absurd (clash (sym h))
  others-none false false false h = refl

  others-plain : (u v s : Bool) → (innermost (others u v s)).function ≡ false
  others-plain true v s = refl
  others-plain false true s = refl
  others-plain false false true = refl
  others-plain false false false = refl

  others-few : (u v s : Bool) → 1 < length (others u v s) → ⊥
  others-few true v s e = omega arith
  others-few false true s e = omega arith
  others-few false false true e = omega arith
  others-few false false false e = omega arith

  others-not : (u v s : Bool) → length (others u v s) ≡ 0 → (u ≡ false) × (v ≡ false)
  others-not true v s e = absurd (omega arith)
  others-not false true s e = absurd (omega arith)
  others-not false false s e = (refl, refl)

  some-name : (b : Bool) → length (with_name b) ≡ 0 → ⊥
  some-name true e = omega arith
  some-name false e = omega arith

  abbrev names : Bool → Bool → Bool → List ℕ
  names u v s = (innermost (others u v s)).names

  catch-inner : eqb k 17 ≡ true → catch_names k f ts ≡ names (loops k) (eqb k 17) (eqb k 1)
  catch-inner h = sym (ap₂ {C = List ℕ} (λ (u v : Bool). names u v (eqb k 1)) (subst (λ (m : ℕ). loops m ≡ false) (sym (eqb-true k 17 h)) refl) h)

  script-inner : eqb k 1 ≡ true → tops ts ≡ names (loops k) (eqb k 17) (eqb k 1)
  script-inner h =
      let e = eqb-true k 1 h in
      sym (ap₂ {C = List ℕ} (λ (u v : Bool). names u v (eqb k 1)) (subst (λ (m : ℕ). loops m ≡ false) (sym e) refl) (subst (λ (m : ℕ). eqb m 17 ≡ false) (sym e) refl) ∙ ap (names false false) h)

  loop-inner : (u v s : Bool) → v ≡ false → s ≡ false → 0 < length (others u v s) → lexical_names_f ts ≡ names u v s
  loop-inner true v s e d l = refl
  loop-inner false true s e d l = absurd (clash (sym e))
  loop-inner false false true e d l = absurd (clash (sym d))
  loop-inner false false false e d l = absurd (omega arith)

  no-function : (p q u : Bool) → ((p || q) || u) ≡ false → (p || q) ≡ false
  no-function true q u h = h
  no-function false true u h = h
  no-function false false u h = refl

  -- the definition, by its tests
  module _ (r : Role) (a : ℕ) where
    abbrev by : Bool → Bool → List Scope
    by p q = elim p as (λ z. List Scope) [ true ↦ opened_block r ts | false ↦ elim q as (λ z. List Scope) [ true ↦ with_name (eqb k 39 && is_named k f) | false ↦ other ] ]

    opened-block : eqb k 2 ≡ true → opened r (node k f a ts) ≡ opened_block r ts
    opened-block e = ap (λ (p : Bool). by p (is_function k)) e

    opened-function : eqb k 2 ≡ false → is_function k ≡ true → opened r (node k f a ts) ≡ with_name (eqb k 39 && is_named k f)
    opened-function e d = ap₂ {C = List Scope} by e d

    opened-other : eqb k 2 ≡ false → is_function k ≡ false → opened r (node k f a ts) ≡ other
    opened-other e d = ap₂ {C = List Scope} by e d

    arguments-own : (eqb k 7 || eqb k 39) ≡ (innermost (opened r (node k f a ts))).function
    arguments-own = go (eqb k 2) refl (is_function k) refl
      where
        go : (p : Bool) → eqb k 2 ≡ p → (q : Bool) → is_function k ≡ q → (eqb k 7 || eqb k 39) ≡ (innermost (opened r (node k f a ts))).function
        go true x q y = subst (λ (m : ℕ). (eqb m 7 || eqb m 39) ≡ false) (sym (eqb-true k 2 x)) refl ∙ sym (ap (λ (ss : List Scope). (innermost ss).function) (opened-block x) ∙ block-plain r ts)
        go false x true y = sym (ap (λ (ss : List Scope). (innermost ss).function) (opened-function x y) ∙ ap (λ (s : Scope). s.function) (function-inner (eqb k 39 && is_named k f)) ∙ own-arguments y)
        go false x false y = no-function (eqb k 7) (eqb k 39) (eqb k 40) y ∙ sym (ap (λ (ss : List Scope). (innermost ss).function) (opened-other x y) ∙ others-plain (loops k) (eqb k 17) (eqb k 1))

    Two : List Scope → Type 0
    Two ss = ss ≡ scope (bound_first ts) ∷ innermost ss ∷ []

    abbrev More : List Scope → Type 0
    More ss = 1 < length ss

    -- two scopes are those of a function expression and its name
    pub two-is : 1 < length (opened r (node k f a ts)) → opened r (node k f a ts) ≡ scope (bound_first ts) ∷ innermost (opened r (node k f a ts)) ∷ []
    unfolding Two
    two-is e = go (eqb k 2) refl (is_function k) refl
      where
        named : (b : Bool) → 1 < length (with_name b) → Two (with_name b)
        named true e = refl
        named false e = absurd (omega arith)

        go : (p : Bool) → eqb k 2 ≡ p → (q : Bool) → is_function k ≡ q → opened r (node k f a ts) ≡ scope (bound_first ts) ∷ innermost (opened r (node k f a ts)) ∷ []
        go true x q y = absurd (block-few r ts (subst More (opened-block x) e))
        go false x true y = subst Two (sym (opened-function x y)) (named (eqb k 39 && is_named k f) (subst More (opened-function x y) e))
        go false x false y = absurd (others-few (loops k) (eqb k 17) (eqb k 1) (subst More (opened-other x y) e))

    -- a node that opens no scope is no function, no catch and no switch
    pub quiet : length (opened r (node k f a ts)) ≡ 0 → (role k f ts ≡ apart) × (first_outside k f ≡ false)
    quiet e = go (eqb k 2) refl (is_function k) refl
      where
        left : (p q : Bool) → (p || q) ≡ false → p ≡ false
        left true q h = h
        left false q h = refl

        right : (p q : Bool) → (p || q) ≡ false → q ≡ false
        right true q h = absurd (clash (sym h))
        right false q h = h

        go : (p : Bool) → eqb k 2 ≡ p → (q : Bool) → is_function k ≡ q → (role k f ts ≡ apart) × (first_outside k f ≡ false)
        go true x q y = subst (λ (m : ℕ). (role m f ts ≡ apart) × (first_outside m f ≡ false)) (sym (eqb-true k 2 x)) (refl, refl)
        go false x true y = absurd (some-name (eqb k 39 && is_named k f) (sym (ap length (opened-function x y)) ∙ e))
        go false x false y =
            let z = others-not (loops k) (eqb k 17) (eqb k 1) (sym (ap length (opened-other x y)) ∙ e) in
            let e7 = left (eqb k 7) (eqb k 39) (left (eqb k 7 || eqb k 39) (eqb k 40) y) in
            let e39 = right (eqb k 7) (eqb k 39) (left (eqb k 7 || eqb k 39) (eqb k 40) y) in
            let e18 = right (leb 12 k && leb k 14) (eqb k 18) z.0 in (
              ap₂ {C = Role} (λ (p q : Bool). pick p (pick (defaults k f ts) body shared) (pick (q && not (defaults k f ts)) shared apart)) y z.1,
              ap₂ {C = Bool} (λ (p q : Bool). (p || (q && eqb f 1)) || eqb k 18) e7 e39 ∙ e18,
            )

-- of a node in the words
module _ {w : List ℕ} (g : Planted w) {j : ℕ} (l : j < get_or w 0 0) where
  abbrev k : ℕ
  k = (node_of w j).kind

  abbrev f : ℕ
  f = (node_of w j).form

  abbrev t : Tree
  t = tree_from (tree w) j

  pub the-node : t ≡ node k f (node_of w j).num (kids t)
  the-node = node-tree g l ∙ ap (node k f (node_of w j).num) (sym (node-kids g l))

  module _ (r : Role) where
    abbrev ss : List Scope
    ss = opened r t

    pub is-block : eqb k 2 ≡ true → ss ≡ opened_block r (kids t)
    is-block e = ap (opened r) the-node ∙ opened-block k f (kids t) r (node_of w j).num e

    is-function : eqb k 2 ≡ false → is_function k ≡ true → ss ≡ with_name k f (kids t) (eqb k 39 && is_named k f)
    is-function e d = ap (opened r) the-node ∙ opened-function k f (kids t) r (node_of w j).num e d

    is-other : eqb k 2 ≡ false → is_function k ≡ false → ss ≡ other k f (kids t)
    is-other e d = ap (opened r) the-node ∙ opened-other k f (kids t) r (node_of w j).num e d

    pub arguments-are : (eqb k 7 || eqb k 39) ≡ (innermost ss).function
    arguments-are = arguments-own k f (kids t) r (node_of w j).num ∙ ap (λ (u : Tree). (innermost (opened r u)).function) (sym the-node)

    -- how many
    pub block-count : eqb k 2 ≡ true → {n : ℕ} → n ≡ length (opened_block r (kids t)) → n ≡ length ss
    block-count e q = q ∙ ap length (sym (is-block e))

    module _ (e : eqb k 2 ≡ false) where
      pub two-scopes : is_function k ≡ true → (eqb k 39 && is_named k f) ≡ true → 2 ≡ length ss
      two-scopes d b = sym (ap length (is-function e d) ∙ ap (λ (p : Bool). length (with_name k f (kids t) p)) b)

      pub one-scope : is_function k ≡ true → (eqb k 39 && is_named k f) ≡ false → 1 ≡ length ss
      one-scope d b = sym (ap length (is-function e d) ∙ ap (λ (p : Bool). length (with_name k f (kids t) p)) b)

      module _ (d : is_function k ≡ false) where
        pub other-one : opens_one k ≡ true → 1 ≡ length ss
        other-one h = others-one k f (kids t) (loops k f (kids t) k) (eqb k 17) (eqb k 1) h ∙ ap length (sym (is-other e d))

        pub other-none : opens_one k ≡ false → 0 ≡ length ss
        other-none h = others-none k f (kids t) (loops k f (kids t) k) (eqb k 17) (eqb k 1) h ∙ ap length (sym (is-other e d))

        -- the names of the innermost
        abbrev ns : List Scope → List ℕ
        ns us = (innermost us).names

        pub catch-names : eqb k 17 ≡ true → catch_names k f (kids t) ≡ ns ss
        catch-names h = catch-inner k f (kids t) h ∙ ap ns (sym (is-other e d))

        pub script-names : eqb k 1 ≡ true → tops (kids t) ≡ ns ss
        script-names h = script-inner k f (kids t) h ∙ ap ns (sym (is-other e d))

        pub loop-names : eqb k 17 ≡ false → eqb k 1 ≡ false → 0 < length ss → lexical_names_f (kids t) ≡ ns ss
        loop-names x y z = loop-inner k f (kids t) (loops k f (kids t) k) (eqb k 17) (eqb k 1) x y (subst (λ (us : List Scope). 0 < length us) (is-other e d) z) ∙ ap ns (sym (is-other e d))

      pub function-names : is_function k ≡ true → function_names k f (kids t) ≡ (innermost ss).names
      function-names d = sym (ap (λ (us : List Scope). (innermost us).names) (is-function e d) ∙ ap (λ (s : Scope). s.names) (function-inner k f (kids t) (eqb k 39 && is_named k f)))

  pub block-lexical : (s : Standing) → eqb k 2 ≡ true → (s ≡ Body → ⊥) → 0 < length (opened (role_of s) t) → lexical_names_f (kids t) ≡ (innermost (opened (role_of s) t)).names
  block-lexical s e n z = block-own s (kids t) n (subst (λ (us : List Scope). 0 < length us) (is-block (role_of s) e) z) ∙ ap (λ (us : List Scope). (innermost us).names) (sym (is-block (role_of s) e))

  pub block-tops : (s : Standing) → eqb k 2 ≡ true → s ≡ Body → tops (kids t) ≡ (innermost (opened (role_of s) t)).names
  block-tops s e b = sym (ap (λ (us : List Scope). (innermost us).names) (is-block (role_of s) e) ∙ ap (λ (u : Standing). (innermost (opened_block (role_of u) (kids t))).names) b)

  -- how its last child stands
  role-is : last_role t ≡ role k f (kids t)
  role-is = ap last_role the-node

  abbrev roles : Bool → Bool → Bool → Role
  roles p q d = pick p (pick d body shared) (pick (q && not d) shared apart)

  pub role-of : {p q d : Bool} → is_function k ≡ p → eqb k 17 ≡ q → defaults k f (kids t) ≡ d → {x : Role} → x ≡ roles p q d → x ≡ last_role t
  role-of {p} {q} {d} a b c e = e ∙ sym (role-is ∙ ap (λ (p : Bool). roles p (eqb k 17) (defaults k f (kids t))) a ∙ ap₂ {C = Role} (roles p) b c)
