-- Tables of what names mean, in a scope more. Assumes nothing.
use mathlib.Core.Path.{◌≡◌, refl, sym, ap, ap₂, ◌∙◌}
use mathlib.Core.Logic.{◌⊎◌, inl, inr}
use mathlib.Core.Bool.{Bool, true, false, ◌&&◌, ◌||◌}
use mathlib.Core.List.{List, [], ◌∷◌}
use Prim.Native.Nat.{ℕ, ◌+◌, ◌<◌, ◌≤◌}
use native.Mathlib.Omega.{arith}
use lib.Dec.{eqb}
use lib.ListN.{length, get_or, set, length-set}
use lib.Seq.{get_or-set_same, get_or-set_other}
use borrow.Author.Tests.{eq-eqb, ne_eqb, eqb-true, clash}
use Rattle.std.proofs.lemmas.List.Edits.{fill_by_more}
use Rattle.std.proofs.lemmas.List.{get_or-replicate}
use Rattle.def_tree.specs.Base.{pick, member}
use Rattle.def_tree.specs.Tree.{Core}
use Rattle.def_resolve.specs.Scopes.{Scope}
use Rattle.def_resolve.specs.Resolve.{Numbered, means, is_name}
use Rattle.words.specs.Tab.{same_or_not}
use Rattle.words.specs.Layout.{node_of, tree}
use Rattle.words.proofs.Nodes.{tree-at, tree-length}
use Rattle.words_nodes.specs.Nodes.{Planted}
use Rattle.words_resolve.specs.declared.names.Seen.{Seen}
use Rattle.words_resolve.specs.declared.names.Seen.TheVariants.{Never, Once, Again}
use Rattle.words_resolve.specs.Names.{next, add, adds, fresh}
use Rattle.words_resolve.specs.Meanings.{OneArguments, View, declared, inner_at, Nested, Inside, context}

declared-next : (s : Seen) → declared (next s) ≡ true
declared-next Never = refl
declared-next Once = refl
declared-next Again = refl

-- what a table of names says of one more, and of some
declared-add : (seen : List Seen) (y x : ℕ) → length seen ≡ 256 → x < 256 → declared (get_or (add seen y) x Never) ≡ (eqb x y || declared (get_or seen x Never))
declared-add seen y x n l = by (same_or_not x y)
  where
    by : (x ≡ y) ⊎ (x ≡ y → ⊥) → declared (get_or (add seen y) x Never) ≡ (eqb x y || declared (get_or seen x Never))
    by (inl e) =
        ap (λ (i : ℕ). declared (get_or (set seen y (next (get_or seen y Never))) i Never)) e
        ∙ ap declared (get_or-set_same seen y (next (get_or seen y Never)) Never (omega (arith, n, l, e))) ∙ declared-next (get_or seen y Never)
        ∙ sym (ap (λ (b : Bool). b || declared (get_or seen x Never)) (eq-eqb x y e))
    by (inr e) = ap declared (get_or-set_other seen y x (next (get_or seen y Never)) Never e) ∙ sym (ap (λ (b : Bool). b || declared (get_or seen x Never)) (ne_eqb x y e))

declared-adds : (seen : List Seen) (xs : List ℕ) (x : ℕ) → length seen ≡ 256 → x < 256 → declared (get_or (adds seen xs) x Never) ≡ (member x xs || declared (get_or seen x Never))
declared-adds seen [] x n l = refl
declared-adds seen (y ∷ xs) x n l =
    declared-adds (add seen y) xs x (length-set seen y (next (get_or seen y Never)) ∙ n) l
    ∙ ap (λ (b : Bool). member x xs || b) (declared-add seen y x n l) ∙ turn (eqb x y) (member x xs) (declared (get_or seen x Never))
  where
    turn : (p q r : Bool) → (q || (p || r)) ≡ (elim p as (λ z. Bool) [ true ↦ true | false ↦ q ] || r)
    turn true true r = refl
    turn true false r = refl
    turn false q r = refl

or-none : (b : Bool) → (b || false) ≡ b
or-none true = refl
or-none false = refl

pub declared-fresh : (xs : List ℕ) (x : ℕ) → x < 256 → declared (get_or (adds fresh xs) x Never) ≡ member x xs
declared-fresh xs x l = declared-adds fresh xs x refl l ∙ ap (λ (s : Seen). member x xs || declared s) (get_or-replicate 256 x Never Never l) ∙ or-none (member x xs)

-- in a scope more
pub view-inside : {a : ℕ} {around : List ℕ} (s : Scope) {seen : List Seen} → seen ≡ adds fresh s.names → {c : ℕ} {cut : Bool} → cut ≡ s.function → {table : List ℕ} → Nested around seen c cut a table → Inside a around c s table
view-inside {a} {around} s {seen} e {c} {cut} q {table} n = record {
  long = n.long;
  is = λ es v. record {
    is = λ x l.
        n.is x l
        ∙ ap₂ {C = ℕ} (λ (d p : Bool). pick d c (pick (p && eqb x a) 0 (get_or around x 0))) (ap (λ (t : List Seen). declared (get_or t x Never)) e ∙ declared-fresh s.names x l) q
        ∙ go (member x s.names) s.function (eqb x a) (get_or around x 0) (means (eqb x a) x es) (v.is x l);
  };
}
  where
    go : (d p b : Bool) (i j : ℕ) → i ≡ j → pick d c (pick (p && b) 0 i) ≡ elim d as (λ z. ℕ) [ true ↦ c | false ↦ elim (b && p) as (λ z. ℕ) [ true ↦ 0 | false ↦ j ] ]
    go true p b i j e = refl
    go false true true i j e = refl
    go false true false i j e = e
    go false false true i j e = e
    go false false false i j e = e

-- a table filled up to x
pub record Filling (around : List ℕ) (seen : List Seen) (c : ℕ) (cut : Bool) (a : ℕ) (inner : List ℕ) (x : ℕ) : Type 0 where
  pub long : length inner ≡ 256
  pub is : (k : ℕ) → k < x → get_or inner k 0 ≡ inner_at around seen c cut a k

pub filling-none : {around : List ℕ} {seen : List Seen} {c : ℕ} {cut : Bool} {a : ℕ} {inner : List ℕ} → length inner ≡ 256 → Filling around seen c cut a inner 0
filling-none e = record { long = e; is = λ k l. absurd (omega (arith, l)) }

pub filling-more : {around : List ℕ} {seen : List Seen} {c : ℕ} {cut : Bool} {a : ℕ} {inner : List ℕ} {x : ℕ} → Filling around seen c cut a inner x → x < 256 → {v : ℕ} → v ≡ inner_at around seen c cut a x → Filling around seen c cut a (set inner x v) (x + 1)
filling-more {around} {seen} {c} {cut} {a} {inner} {x} f l {v} e = record {
  long = length-set inner x v ∙ f.long;
  is = λ k m. ap (λ (i : ℕ). get_or (set inner x i) k 0) e ∙ fill_by_more (inner_at around seen c cut a) inner x 0 (omega (arith, f.long, l)) f.is k m;
}

pub filling-all : {around : List ℕ} {seen : List Seen} {c : ℕ} {cut : Bool} {a : ℕ} {inner : List ℕ} {x : ℕ} → Filling around seen c cut a inner x → 256 ≤ x → Nested around seen c cut a inner
filling-all f l = record { long = f.long; is = λ k m. f.is k (omega (arith, l, m)) }

-- names in the words
module _ {w : List ℕ} (g : Planted w) {j : ℕ} (l : j < get_or w 0 0) (h : is_name (node_of w j).kind ≡ true) where
  pub low : (node_of w j).num < 256
  low = (let n = rw (tree-at w j l) at (g.good.names j) in n (go (eqb (node_of w j).kind 20) refl (eqb (node_of w j).kind 21) refl h))
    where
      go : (p : Bool) → eqb (node_of w j).kind 20 ≡ p → (q : Bool) → eqb (node_of w j).kind 21 ≡ q → (p || q) ≡ true → ((node_of w j).kind ≡ 20) ⊎ ((node_of w j).kind ≡ 21)
      go true e q d r = inl (eqb-true (node_of w j).kind 20 e)
      go false e true d r = inr (eqb-true (node_of w j).kind 21 d)
      go false e false d r = absurd (clash r)

  -- `arguments` by its number
  pub by-table : {a : ℕ} (es : List Numbered) {x : ℕ} → x ≡ (node_of w j).num → OneArguments (tree w) a → {table : List ℕ} → View a table es → get_or table x 0 ≡ context (node_of w j) es
  by-table {a} es {x} q o {table} v =
      let n = node_of w j in
      let s : eqb n.form 1 ≡ eqb n.num a = rw (tree-at w j l) at (o.is j (omega (arith, tree-length w, l)) (ap (λ (y : Core). is_name y.kind) (tree-at w j l) ∙ h)) in
      ap (λ (i : ℕ). get_or table i 0) q ∙ v.is n.num low ∙ ap (λ (b : Bool). means b n.num es) (sym s) ∙ sym (ap (λ (b : Bool). elim b as (λ z. ℕ) [ true ↦ means (eqb n.form 1) n.num es | false ↦ n.num ]) h)

  pub low-in : {x : ℕ} → x ≡ (node_of w j).num → {n : ℕ} → n ≡ 256 → x < n
  low-in q r = omega (arith, low)

-- another node
pub no-name : (x : Core) → is_name x.kind ≡ false → (es : List Numbered) → x.num ≡ context x es
no-name x h es = sym (ap (λ (b : Bool). elim b as (λ z. ℕ) [ true ↦ means (eqb x.form 1) x.num es | false ↦ x.num ]) h)
