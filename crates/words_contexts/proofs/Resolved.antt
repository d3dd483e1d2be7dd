-- What the definition makes of trees one behind another, and of a node by the scopes that it opens. Assumes nothing.
use mathlib.Core.Path.{◌≡◌, refl, sym, ap, ap₂, ◌∙◌}
use mathlib.Core.Bool.{Bool, true, false}
use mathlib.Core.List.{List, ◌∷◌, ◌++◌}
use Prim.Native.Nat.{ℕ, suc, ◌+◌, ◌*◌, ◌≤◌, ◌<◌}
use native.Mathlib.Numerals.{add-one}
use native.Mathlib.Omega.{arith}
use lib.Dec.{eqb}
use lib.ListN.{length, get_or}
use borrow.Author.Tests.{ne_eqb}
use Rattle.def_tree.specs.Base.{pick}
use Rattle.def_tree.specs.Tree.{length_f}
use Rattle.def_tree.proofs.Place.{append_f}
use Rattle.def_pass.specs.Tree.{Tree, Forest, node, nil, cons, num, kids, count, counts}
use Rattle.def_resolve.specs.Names.{bound_first}
use Rattle.def_resolve.specs.Scopes.{Scope, scope, Role, apart, role, role_before, opened, first_outside}
use Rattle.def_resolve.specs.Resolve.{Numbered, push, outer, opens, opens_f, resolve, resolve_f}
use Rattle.laws_resolve.proofs.Bound.{opens-few}
use Rattle.laws_resolve.proofs.Numbers.{resolve-count, resolve-counts}
use Rattle.words.specs.Layout.{node_of, tree}
use Rattle.words_nodes.specs.Nodes.{Planted, tree_from}
use Rattle.words_resolve.specs.Meanings.{context}
use Rattle.words_resolve.specs.Walk.{nums, nums_f, writes}
use Rattle.words_resolve.proofs.Walks.{nums-append, nums-length, nums_f-length, writes-append}
use Rattle.words_contexts.specs.Walk.{innermost, last_role, below, last_before, last_after}
use Rattle.words_contexts.proofs.Opened as by

-- trees one behind another
before-append : (r : Role) (us ts : Forest) → role_before r (append_f us ts) ≡ role_before (role_before r ts) us
before-append r nil ts = refl
before-append r (cons u us) ts = refl

resolve-append : (r : Role) (us ts : Forest) (es : List Numbered) (c : ℕ) → resolve_f r (append_f us ts) es es c ≡ append_f (resolve_f (role_before r ts) us es es c) (resolve_f r ts es es (c + opens_f (role_before r ts) us))
resolve-append r nil ts es c = (let e : c ≡ c + 0 = omega arith in ap (resolve_f r ts es es) e)
resolve-append r (cons u us) ts es c =
    let q = role_before r ts in
    let here = role_before q us in
    let d = c + opens here u in
    ap (λ (x : Role). cons (resolve x u es c) (resolve_f r (append_f us ts) es es (c + opens x u))) (before-append r us ts)
    ∙ ap (cons (resolve here u es c)) (resolve-append r us ts es d ∙ (let e : d + opens_f q us ≡ c + (opens here u + opens_f q us) = omega arith in ap (λ (m : ℕ). append_f (resolve_f q us es es d) (resolve_f r ts es es m)) e))

pub opens-append : (r : Role) (us ts : Forest) → opens_f r (append_f us ts) ≡ opens_f (role_before r ts) us + opens_f r ts
opens-append r nil ts = omega arith
opens-append r (cons u us) ts = ap (λ (x : Role). opens x u + opens_f r (append_f us ts)) (before-append r us ts) ∙ omega (arith, opens-append r us ts)

-- the role of the last, once one has given way to its children
abbrev pub after : Role → Forest → Role
after l nil = apart
after l (cons t ts) = l

pub before-is : (l : Role) (ts : Forest) {n : ℕ} → length_f ts ≡ n → last_before l n ≡ role_before l ts
before-is l ts e = ap (last_before l) (sym e) ∙ go ts
  where
    go : (us : Forest) → last_before l (length_f us) ≡ role_before l us
    go nil = refl
    go (cons u us) = ap (λ (b : Bool). pick b l apart) (ne_eqb (suc (length_f us)) 0 (λ q. omega (arith, q)))

pub after-is : (l : Role) (ts : Forest) {n : ℕ} → length_f ts ≡ n → last_after l n ≡ after l ts
after-is l ts e = ap (last_after l) (sym e) ∙ go ts
  where
    go : (us : Forest) → last_after l (length_f us) ≡ after l us
    go nil = refl
    go (cons u us) = ap (λ (b : Bool). pick b apart l) (ne_eqb (suc (length_f us)) 0 (λ q. omega (arith, q)))

pub resolve-after : (l : Role) (us ts : Forest) (es : List Numbered) (c : ℕ) → resolve_f (after l ts) (append_f us ts) es es c ≡ append_f (resolve_f apart us es es c) (resolve_f l ts es es (c + opens_f apart us))
resolve-after l us nil es c = resolve-append apart us nil es c
resolve-after l us (cons t ts) es c = resolve-append l us (cons t ts) es c

pub opens-after : (l : Role) (us ts : Forest) → opens_f (after l ts) (append_f us ts) ≡ opens_f apart us + opens_f l ts
opens-after l us nil = opens-append apart us nil
opens-after l us (cons t ts) = opens-append l us (cons t ts)

-- the first of a node's children outside its innermost scope
pub resolve-parts : (b : Bool) (r : Role) (us ts : Forest) (es ds : List Numbered) (c : ℕ) → length_f us ≡ pick b (pick (eqb (length_f (append_f us ts)) 0) 0 1) 0
    → resolve_f r (append_f us ts) (pick b es ds) ds c ≡ append_f (resolve_f (role_before r ts) us es es c) (resolve_f r ts ds ds (c + opens_f (role_before r ts) us))
resolve-parts b r nil nil es ds c e = refl
resolve-parts true r nil (cons t ts) es ds c e = absurd (zero-one (e ∙ ap (λ (b : Bool). pick b 0 1) (ne_eqb (suc (length_f ts)) 0 (λ q. omega (arith, q)))))
  where
    zero-one : ◌≡◌ {A = ℕ} 0 1 → ⊥
    zero-one q = omega arith
resolve-parts false r nil (cons t ts) es ds c e = (let q : c ≡ c + 0 = omega arith in ap (resolve_f r (cons t ts) ds ds) q)
resolve-parts false r (cons u us) ts es ds c e = absurd (omega arith)
resolve-parts true r (cons u nil) ts es ds c e = (let o = opens (role_before r ts) u in let q : c + o ≡ c + (o + 0) = omega arith in ap (λ (m : ℕ). cons (resolve (role_before r ts) u es c) (resolve_f r ts ds ds m)) q)
resolve-parts true r (cons u (cons v us)) ts es ds c e = absurd (many (eqb (length_f (append_f (cons u (cons v us)) ts)) 0) e)
  where
    many : (b : Bool) → suc (suc (length_f us)) ≡ pick b 0 1 → ⊥
    many true q = omega arith
    many false q = omega arith

-- a node by its scopes
module _ (r : Role) (k f a : ℕ) (us : Forest) where
  abbrev made : List Scope → List Numbered → ℕ → Forest
  made ss es c = resolve_f (role k f us) us (pick (first_outside k f) (outer (push c ss es)) (push c ss es)) (push c ss es) (c + length ss)

-- none
pub none-made : (r : Role) (t : Tree) → length (opened r t) ≡ 0 → (es : List Numbered) (c : ℕ) → kids (resolve r t es c) ≡ resolve_f apart (kids t) es es c
none-made r (node k f a us) e es c =
    let q = by.quiet k f us r a e in
    ap (λ (ss : List Scope). made r k f a us ss es c) (by.none-of (opened r (node k f a us)) e)
    ∙ (let z : c + 0 ≡ c = omega arith in ap₂ {C = Forest} (λ (b : Bool) (m : ℕ). resolve_f (role k f us) us (pick b (outer es) es) es m) q.1 z) ∙ ap (λ (x : Role). resolve_f x us es es c) q.0

pub none-opens : (r : Role) (t : Tree) → length (opened r t) ≡ 0 → opens r t ≡ opens_f apart (kids t)
none-opens r (node k f a us) e = omega (arith, e, ap (λ (x : Role). opens_f x us) (by.quiet k f us r a e).0)

-- one
pub one-made : (r : Role) (t : Tree) → length (opened r t) ≡ 1 → (es : List Numbered) (c : ℕ) → kids (resolve r t es c) ≡ below r t es c
one-made r (node k f a us) e es c = ap (λ (ss : List Scope). made r k f a us ss es c) (by.one-of (opened r (node k f a us)) e)

pub one-opens : (r : Role) (t : Tree) → length (opened r t) ≡ 1 → opens r t ≡ 1 + opens_f (last_role t) (kids t)
one-opens r (node k f a us) e = omega (arith, e)

-- two: a function expression's, its name's outside
pub two-made : (r : Role) (t : Tree) → 1 < length (opened r t) → (es : List Numbered) (c : ℕ) → kids (resolve r t es c) ≡ below r t (record { number = c; scope = scope (bound_first (kids t)) } ∷ es) (c + 1)
two-made r (node k f a us) e es c =
    let n : Numbered = record { number = c; scope = scope (bound_first us) } in
    let s = innermost (opened r (node k f a us)) in
    let inner : ℕ → ℕ → Forest = λ (m d : ℕ). resolve_f (role k f us) us (pick (first_outside k f) (n ∷ es) (record { number = m; scope = s } ∷ n ∷ es)) (record { number = m; scope = s } ∷ n ∷ es) d in
    ap (λ (ss : List Scope). made r k f a us ss es c) (by.two-is k f us r a e) ∙ (let z : c + 2 ≡ c + 1 + 1 = omega arith in ap₂ {C = Forest} inner (sym (add-one c)) z)

pub two-opens : (r : Role) (t : Tree) → 1 < length (opened r t) → opens r t ≡ 2 + opens_f (last_role t) (kids t)
two-opens r (node k f a us) e = omega (arith, ap length (by.two-is k f us r a e))

-- at most two for each node
pub opens-few-f : (r : Role) (ts : Forest) → opens_f r ts ≤ 2 * counts ts
opens-few-f r nil = omega arith
opens-few-f r (cons t ts) = omega (arith, opens-few (role_before r ts) t, opens-few-f r ts)

-- a node's own number, and those below it
pub count-kids : (t : Tree) → count t ≡ counts (kids t) + 1
count-kids (node k f a us) = omega arith

nums-of : (t : Tree) → nums t ≡ num t ∷ nums_f (kids t)
nums-of (node k f a us) = refl

pub nums-here : {w : List ℕ} (g : Planted w) {j : ℕ} (l : j < get_or w 0 0) (r : Role) (es : List Numbered) (c : ℕ) → nums (resolve r (tree_from (tree w) j) es c) ≡ context (node_of w j) es ∷ nums_f (kids (resolve r (tree_from (tree w) j) es c))
nums-here {w} g {j} l r es c =
    let t = tree_from (tree w) j in
    nums-of (resolve r t es c) ∙ ap (λ (x : ℕ). x ∷ nums_f (kids (resolve r t es c))) (ap (λ (u : Tree). num (resolve r u es c)) (by.the-node g l))

-- written one behind the other
pub writes-tree : (out : List ℕ) (i : ℕ) (r : Role) (t : Tree) (es : List Numbered) (c : ℕ) (ys : List ℕ) → writes (writes out i (nums (resolve r t es c))) (i + count t) ys ≡ writes out i (nums (resolve r t es c) ++ ys)
writes-tree out i r t es c ys =
    let xs = nums (resolve r t es c) in
    ap (λ (m : ℕ). writes (writes out i xs) (i + m) ys) (sym (nums-length (resolve r t es c) ∙ resolve-count r t es c)) ∙ sym (writes-append out i xs ys)

pub writes-trees : (out : List ℕ) (i : ℕ) (r : Role) (ts : Forest) (es : List Numbered) (c : ℕ) (us : Forest) → writes (writes out i (nums_f (resolve_f r ts es es c))) (i + counts ts) (nums_f us) ≡ writes out i (nums_f (append_f (resolve_f r ts es es c) us))
writes-trees out i r ts es c us =
    let vs = resolve_f r ts es es c in
    ap (λ (m : ℕ). writes (writes out i (nums_f vs)) (i + m) (nums_f us)) (sym (nums_f-length vs ∙ resolve-counts r ts es es c)) ∙ sym (writes-append out i (nums_f vs) (nums_f us)) ∙ ap (writes out i) (sym (nums-append vs us))
