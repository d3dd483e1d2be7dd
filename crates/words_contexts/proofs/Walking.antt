-- The loop over trees: what stands before the next node is done. Assumes nothing.
use mathlib.Core.Path.{◌≡◌, refl, sym, ap, ap₂, ◌∙◌, subst}
use mathlib.Core.Bool.{Bool, true, false}
use mathlib.Core.List.{List, [], ◌∷◌, ◌++◌}
use Prim.Native.Nat.{ℕ, ◌+◌, ◌-◌, ◌*◌, ◌≤◌, ◌<◌}
use native.Mathlib.Omega.{arith}
use lib.Dec.{eqb}
use lib.ListN.{length, get_or, set, length-set}
use borrow.Author.Tests.{eqb-false}
use Rattle.std.specs.Prelude.{replicate}
use Rattle.std.proofs.lemmas.List.{get_or-replicate}
use Rattle.def_tree.specs.Base.{pick}
use Rattle.def_tree.specs.Tree.{Tree, Forest, nil, cons, kind, form, kids, length_f, count, counts, Core, no_core}
use Rattle.def_tree.proofs.Place.{append_f}
use Rattle.def_resolve.specs.Names.{bound_first}
use Rattle.def_resolve.specs.Scopes.{Role, scope, apart, role_before, opened, first_outside}
use Rattle.def_resolve.specs.Resolve.{Numbered, opens, opens_f, resolve, resolve_f}
use Rattle.laws_resolve.proofs.Bound.{opens-few}
use Rattle.words.specs.Layout.{node_of, tree}
use Rattle.words.proofs.Nodes.{tree-at}
use Rattle.words_nodes.specs.Nodes.{Planted, tree_from, forest_from}
use Rattle.words_nodes.proofs.Loops.{Open, open-here, open_in, open-past, forest-first}
use Rattle.words_nodes.proofs.Trees.{counts-append}
use Rattle.words_nodes.proofs.Words.{tree-whole, in_tree}
use Rattle.words_twice.specs.Twice.{Stand}
use Rattle.words_twice.proofs.Looks.{node-kids, kids-stand}
use Rattle.words_twice.proofs.Places.{forest-none, forest-cons, forest-in, stand-open}
use Rattle.words_resolve.specs.Meanings.{View, Inside, context}
use Rattle.words_resolve.specs.Walk.{nums, nums_f, writes}
use Rattle.words_resolve.proofs.Walks.{nums-append, writes-append}
use Rattle.words_contexts.specs.declared.Place.{Place}
use Rattle.words_contexts.specs.Walk.{last_before, last_after, last_role, outside, innermost, entered, Walked, Entered, Opened}
use Rattle.words_contexts.proofs.Opened.{the-node}
use Rattle.words_contexts.proofs.Parts as parts
use Rattle.words_contexts.proofs.Resolved as resolved

pub record Walking (xs : List Core) (a : ℕ) (table : List ℕ) (r : Role) (n : ℕ) (p : Place) (old : List ℕ) (l : Role) (more : ℕ) (q : Place) (now : List ℕ) : Type 0 where
  pub still : Open xs q.at more
  pub at : q.at + counts (forest_from xs more q.at) ≡ p.at + counts (forest_from xs n p.at)
  pub next : q.next + opens_f l (forest_from xs more q.at) ≡ p.next + opens_f r (forest_from xs n p.at)
  pub from : p.at ≤ q.at
  pub few : q.next ≤ 2 * q.at + 1
  pub long : length now ≡ length old
  pub is : (es : List Numbered) → View a table es → writes now q.at (nums_f (resolve_f l (forest_from xs more q.at) es es q.next)) ≡ writes old p.at (nums_f (resolve_f r (forest_from xs n p.at) es es p.next))

pub walking-none : {xs : List Core} {a : ℕ} {table : List ℕ} {r : Role} {n : ℕ} {p : Place} {old : List ℕ} → Stand xs p.at n → p.next ≤ 2 * p.at + 1 → Walking xs a table r n p old r n p old
walking-none s l = record { still = stand-open s; at = refl; next = refl; from = omega arith; few = l; long = refl; is = λ es v. refl }

pub walking-all : {xs : List Core} {a : ℕ} {table : List ℕ} {r : Role} {n : ℕ} {p : Place} {old : List ℕ} {l : Role} {more : ℕ} {q : Place} {now : List ℕ} → Walking xs a table r n p old l more q now → more ≡ 0 → Walked a table r (forest_from xs n p.at) p q old now
walking-all {xs} {l = l} {more = more} {q = q} {now = now} h z =
    let none : forest_from xs more q.at ≡ nil = ap (λ (m : ℕ). forest_from xs m q.at) z ∙ forest-none xs q.at in record {
      at = omega (arith, h.at, ap counts none);
      next = omega (arith, h.next, ap (opens_f l) none);
      long = h.long;
      is = λ es v. ap (λ (ts : Forest). writes now q.at (nums_f (resolve_f l ts es es q.next))) (sym none) ∙ h.is es v;
    }

-- one tree walked
pub record Past (a : ℕ) (table : List ℕ) (r : Role) (t : Tree) (p q : Place) (old new : List ℕ) : Type 0 where
  pub at : q.at ≡ p.at + count t
  pub next : q.next ≡ p.next + opens r t
  pub long : length new ≡ length old
  pub is : (es : List Numbered) → View a table es → new ≡ writes old p.at (nums (resolve r t es p.next))

module _ {w : List ℕ} (g : Planted w) (p : Place) (l : p.at < get_or w 0 0) where
  abbrev t : Tree
  t = tree_from (tree w) p.at

  module _ {a : ℕ} {table : List ℕ} {v : ℕ} (own : (es : List Numbered) → View a table es → v ≡ context (node_of w p.at) es) (r : Role) where
    own-first : (es : List Numbered) → View a table es → (c : ℕ) {us : Forest} → kids (resolve r t es c) ≡ us → v ∷ nums_f us ≡ nums (resolve r t es c)
    own-first es u c e = ap₂ {C = List ℕ} (λ (x : ℕ) (us : Forest). x ∷ nums_f us) (own es u) (sym e) ∙ sym (resolved.nums-here g l r es c)

    pub entered-past : 1 ≡ length (opened r t) → {q : Place} {old new : List ℕ} → Entered a table r t p q (set old p.at v) new → Past a table r t p q old new
    entered-past e {q} {old} h = record {
      at = h.at;
      next = omega (arith, h.next, resolved.one-opens r t (sym e));
      long = h.long ∙ length-set old p.at v;
      is = λ es u. h.is es u ∙ ap (writes old p.at) (own-first es u p.next (resolved.one-made r t (sym e) es p.next));
    }

    pub opened-past : {q : Place} {old new : List ℕ} → Opened a table r t p q (set old p.at v) new → Past a table r t p q old new
    opened-past {q} {old} h = record { at = h.at; next = h.next; long = h.long ∙ length-set old p.at v; is = λ es u. h.is es u ∙ ap (writes old p.at) (own-first es u p.next refl) }

-- a step of the loop
module _ {w : List ℕ} (g : Planted w) {a : ℕ} {table : List ℕ} {r : Role} {n : ℕ} {p : Place} {old : List ℕ} {l : Role} {more : ℕ} {q : Place} {now : List ℕ} (h : Walking (tree w) a table r n p old l more q now) (z : 0 < more) where
  pub here : q.at < get_or w 0 0
  here = in_tree g h.still z

  abbrev xs : List Core
  xs = tree w

  abbrev u : Tree
  u = tree_from xs q.at

  abbrev ts : Forest
  ts = forest_from xs (more - 1) (q.at + count u)

  cons-is : forest_from xs more q.at ≡ cons u ts
  cons-is = forest-cons (tree-whole g) h.still z

  many : length_f ts ≡ more - 1
  many = parts.forest-length (open-past (tree-whole g) h.still z)

  abbrev done : Role
  done = role_before l ts

  abbrev goal : List Numbered → List ℕ
  goal es = writes old p.at (nums_f (resolve_f r (forest_from xs n p.at) es es p.next))

  left : (es : List Numbered) → View a table es → writes now q.at (nums (resolve done u es q.next) ++ nums_f (resolve_f l ts es es (q.next + opens done u))) ≡ goal es
  left es v = ap (λ (us : Forest). writes now q.at (nums_f (resolve_f l us es es q.next))) (sym cons-is) ∙ h.is es v

  past : {to : Place} {new : List ℕ} → Past a table done u q to now new → Walking xs a table r n p old l (more - 1) to new
  past {to} {new} k =
      let rest : forest_from xs (more - 1) to.at ≡ ts = ap (forest_from xs (more - 1)) k.at in record {
        still = subst (λ (i : ℕ). Open xs i (more - 1)) (sym k.at) (open-past (tree-whole g) h.still z);
        at = omega (arith, k.at, h.at, ap counts cons-is, ap counts rest);
        next = omega (arith, k.next, h.next, ap (opens_f l) cons-is, ap (opens_f l) rest);
        from = omega (arith, k.at, h.from);
        few = omega (arith, k.at, k.next, h.few, opens-few done u);
        long = k.long ∙ h.long;
        is = λ es v.
            ap₂ {C = List ℕ} (λ (us : Forest) (m : ℕ). writes new to.at (nums_f (resolve_f l us es es m))) rest k.next
            ∙ ap₂ {C = List ℕ} (λ (out : List ℕ) (i : ℕ). writes out i (nums_f (resolve_f l ts es es (q.next + opens done u)))) (k.is es v) k.at
            ∙ resolved.writes-tree now q.at done u es q.next (nums_f (resolve_f l ts es es (q.next + opens done u)))
            ∙ left es v;
      }

  pub walking-past : {x : Role} → x ≡ last_before l (more - 1) → {to : Place} {new : List ℕ} → Past a table x u q to now new → Walking xs a table r n p old l (more - 1) to new
  walking-past e {to} {new} k = past (subst (λ (y : Role). Past a table y u q to now new) (e ∙ resolved.before-is l ts many) k)

  module _ {c : ℕ} (few : c ≡ (node_of w q.at).arity) where
    in-is : forest_from xs (more - 1 + c) (q.at + 1) ≡ append_f (kids u) ts
    in-is =
        let e : c ≡ (get_or xs q.at no_core).arity = few ∙ ap (λ (y : Core). y.arity) (sym (tree-at w q.at here)) in
        ap (λ (m : ℕ). forest_from xs (more - 1 + m) (q.at + 1)) e ∙ forest-in (tree-whole g) h.still z
        ∙ ap (λ (us : Forest). append_f us ts) (ap (λ (m : ℕ). forest_from xs m (q.at + 1)) (sym e ∙ few) ∙ sym (node-kids g here))

    abbrev to : Place
    to = record { at = q.at + 1; next = q.next }

    into : {v : ℕ} → ((es : List Numbered) → View a table es → v ≡ context (node_of w q.at) es) → length (opened done u) ≡ 0 → Walking xs a table r n p old (resolved.after l ts) (more - 1 + c) to (set now q.at v)
    into {v} own e =
        let k : Role = resolved.after l ts in record {
          still = subst (λ (m : ℕ). Open xs (q.at + 1) (more - 1 + m)) (ap (λ (y : Core). y.arity) (tree-at w q.at here) ∙ sym few) (open_in (tree-whole g) h.still z);
          at = omega (arith, h.at, ap counts cons-is, ap counts in-is, counts-append (kids u) ts, resolved.count-kids u);
          next = omega (arith, h.next, ap (opens_f l) cons-is, ap (opens_f k) in-is, resolved.opens-after l (kids u) ts, resolved.none-opens done u e);
          from = omega (arith, h.from);
          few = omega (arith, h.few);
          long = length-set now q.at v ∙ h.long;
          is = λ es y.
              ap (λ (us : Forest). writes now q.at (v ∷ nums_f (resolve_f k us es es q.next))) in-is
              ∙ ap (λ (us : Forest). writes now q.at (v ∷ nums_f us)) (resolved.resolve-after l (kids u) ts es q.next)
              ∙ ap (λ (ys : List ℕ). writes now q.at (v ∷ ys)) (nums-append (resolve_f apart (kids u) es es q.next) (resolve_f l ts es es (q.next + opens_f apart (kids u))))
              ∙ ap (λ (m : ℕ). writes now q.at ((v ∷ nums_f (resolve_f apart (kids u) es es q.next)) ++ nums_f (resolve_f l ts es es (q.next + m)))) (sym (resolved.none-opens done u e))
              ∙ ap (λ (ys : List ℕ). writes now q.at (ys ++ nums_f (resolve_f l ts es es (q.next + opens done u)))) (own-first g q here own done es y q.next (resolved.none-made done u e es q.next))
              ∙ left es y;
        }

    pub walking-in : {x : Role} → x ≡ last_before l (more - 1) → {y : Role} → y ≡ last_after l (more - 1) → {v : ℕ} → ((es : List Numbered) → View a table es → v ≡ context (node_of w q.at) es) → 0 ≡ length (opened x u) → Walking xs a table r n p old y (more - 1 + c) to (set now q.at v)
    walking-in {x} e {y} d {v} own k =
        subst (λ (b : Role). Walking xs a table r n p old b (more - 1 + c) to (set now q.at v)) (sym (d ∙ resolved.after-is l ts many)) (into own (sym (k ∙ ap (λ (b : Role). length (opened b u)) (e ∙ resolved.before-is l ts many))))

outside-few : (b : Bool) (c : ℕ) → pick b (pick (eqb c 0) 0 1) 0 ≤ c
outside-few true c = go (eqb c 0) refl
  where
    go : (x : Bool) → eqb c 0 ≡ x → pick x 0 1 ≤ c
    go true e = omega arith
    go false e = omega (arith, eqb-false c 0 e)
outside-few false c = omega arith

-- the children of a node with one more scope
module _ {w : List ℕ} (g : Planted w) (p : Place) (l : p.at < get_or w 0 0) {o n : ℕ} (eo : o ≡ outside (node_of w p.at).kind (node_of w p.at).form (node_of w p.at).arity) (en : n ≡ (node_of w p.at).arity) where
  pub few-outside : o ≤ n
  few-outside = omega (arith, eo, en, outside-few (first_outside (node_of w p.at).kind (node_of w p.at).form) (node_of w p.at).arity)

  abbrev s : Tree
  s = tree_from (tree w) p.at

  children : Stand (tree w) (p.at + 1) n
  children = subst (Stand (tree w) (p.at + 1)) (sym en) (kids-stand g l)

  pub outside-stand : Stand (tree w) (p.at + 1) o
  outside-stand = parts.first-stand (tree-whole g) children few-outside

  abbrev us : Forest
  us = forest_from (tree w) o (p.at + 1)

  abbrev first : Place
  first = record { at = p.at + 1; next = p.next + 1 }

  module _ {x : Role} (ex : x ≡ last_before (last_role s) (n - o)) {a : ℕ} {table old mid : List ℕ} {q : Place} (h : Walked a table x us first q old mid) where
    pub inside-stand : Stand (tree w) q.at (n - o)
    inside-stand = subst (λ (i : ℕ). Stand (tree w) i (n - o)) (sym h.at) (parts.rest-stand (tree-whole g) children few-outside)

    pub inside-few : p.next ≤ 2 * p.at + 2 → q.next ≤ 2 * q.at + 1
    inside-few f = omega (arith, f, h.at, h.next, resolved.opens-few-f x us)

    abbrev vs : Forest
    vs = forest_from (tree w) (n - o) q.at

    both : kids s ≡ append_f us vs
    both =
        node-kids g l ∙ ap (λ (m : ℕ). forest_from (tree w) m (p.at + 1)) (sym en) ∙ parts.two-parts (tree-whole g) children few-outside
        ∙ ap (λ (i : ℕ). append_f us (forest_from (tree w) (n - o) i)) (sym h.at)

    abbrev role_there : Role
    role_there = role_before (last_role s) vs

    x-is : x ≡ role_there
    x-is = ex ∙ resolved.before-is (last_role s) vs (parts.forest-length (stand-open inside-stand))

    abbrev b : Bool
    b = first_outside (kind s) (form s)

    long-us : length_f us ≡ pick b (pick (eqb (length_f (append_f us vs)) 0) 0 1) 0
    long-us =
        let many : length_f (append_f us vs) ≡ (node_of w p.at).arity = ap length_f (sym both) ∙ ap length_f (node-kids g l ∙ ap (λ (m : ℕ). forest_from (tree w) m (p.at + 1)) (sym en)) ∙ parts.forest-length (stand-open children) ∙ en in
        parts.forest-length (stand-open outside-stand) ∙ eo ∙ ap₂ {C = ℕ} (λ (k f : ℕ). outside k f (node_of w p.at).arity) (sym (ap kind (the-node g l))) (sym (ap form (the-node g l)))
        ∙ ap (λ (m : ℕ). pick b (pick (eqb m 0) 0 1) 0) (sym many)

    entered-by : (r : Role) {inner : List ℕ} → Inside a table p.next (innermost (opened r s)) inner → {to : Place} {new : List ℕ} → Walked a inner (last_role s) vs q to mid new → Entered a table r s p to old new
    entered-by r i k = record {
      at = omega (arith, h.at, k.at, ap counts both, counts-append us vs, resolved.count-kids s);
      next = omega (arith, h.next, k.next, ap (opens_f (last_role s)) both, resolved.opens-append (last_role s) us vs, ap (λ (y : Role). opens_f y us) x-is);
      long = k.long ∙ h.long;
      is = λ es v.
          let ds : List Numbered = entered r s p.next ∷ es in
          let c : ℕ = p.next + 1 in
          let d : ℕ = c + opens_f role_there us in
          k.is ds (i.is es v)
          ∙ ap₂ {C = List ℕ} (λ (out : List ℕ) (j : ℕ). writes out j (nums_f (resolve_f (last_role s) vs ds ds q.next))) (h.is es v ∙ ap (λ (y : Role). writes old (p.at + 1) (nums_f (resolve_f y us es es c))) x-is) h.at
          ∙ ap (λ (m : ℕ). writes (writes old (p.at + 1) (nums_f (resolve_f role_there us es es c))) (p.at + 1 + counts us) (nums_f (resolve_f (last_role s) vs ds ds m))) (h.next ∙ ap (λ (y : Role). c + opens_f y us) x-is)
          ∙ resolved.writes-trees old (p.at + 1) role_there us es c (resolve_f (last_role s) vs ds ds d)
          ∙ ap (λ (ws : Forest). writes old (p.at + 1) (nums_f ws)) (sym (resolved.resolve-parts b (last_role s) us vs es ds c long-us))
          ∙ ap (λ (ws : Forest). writes old (p.at + 1) (nums_f (resolve_f (last_role s) ws (pick b es ds) ds c))) (sym both);
    }

    pub entered-all : (r : Role) {inner : List ℕ} → Inside a table p.next (innermost (opened r s)) inner → {y : Role} → y ≡ last_role s → {to : Place} {new : List ℕ} → Walked a inner y vs q to mid new → Entered a table r s p to old new
    entered-all r {inner} i ey {to} {new} k = entered-by r i (subst (λ (y : Role). Walked a inner y vs q to mid new) ey k)

-- the children of a function expression with two more scopes
pub named-all : {a : ℕ} {table name : List ℕ} {r : Role} {t : Tree} {p q : Place} {old new : List ℕ} → 1 < length (opened r t) → Inside a table p.next (scope (bound_first (kids t))) name → Entered a name r t (record { at = p.at; next = p.next + 1 }) q old new → Opened a table r t p q old new
named-all {r = r} {t = t} {p = p} {old = old} e i h = record {
  at = h.at;
  next = omega (arith, h.next, resolved.two-opens r t e);
  long = h.long;
  is = λ es v. h.is (record { number = p.next; scope = scope (bound_first (kids t)) } ∷ es) (i.is es v) ∙ ap (λ (us : Forest). writes old (p.at + 1) (nums_f us)) (sym (resolved.two-made r t e es p.next));
}

-- the whole script, with no scope around
pub none-view : (a : ℕ) → View a (replicate 256 0) []
none-view a = record { is = λ x l. get_or-replicate 256 x 0 0 l }

pub script-is : {w : List ℕ} {a : ℕ} {table old new : List ℕ} (p : Place) {q : Place} → Planted w → Stand (tree w) 0 1 → p.at ≡ 0 → p.next ≡ 1 → View a table [] → Walked a table apart (forest_from (tree w) 1 0) p q old new → new ≡ writes old 0 (nums (resolve apart (tree_from (tree w) 0) [] 1))
script-is {w} {old = old} p g s e d v h =
    let t = tree_from (tree w) 0 in
    h.is [] v
    ∙ ap₂ {C = List ℕ} (λ (i c : ℕ). writes old i (nums_f (resolve_f apart (forest_from (tree w) 1 0) [] [] c))) e d
    ∙ ap (λ (ts : Forest). writes old 0 (nums_f (resolve_f apart ts [] [] 1))) (forest-first (tree w) 0 (open-here (tree-whole g) (stand-open s) (omega arith)))
    ∙ writes-append old 0 (nums (resolve apart t [] 1)) []
