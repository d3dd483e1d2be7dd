-- The core nodes of a script whose contexts are passed over: one tree, whose names have numbers below 256. Assumes nothing.
use mathlib.Core.Path.{◌≡◌, refl, sym, ap, ap₂, ◌∙◌, subst}
use mathlib.Core.Bool.{Bool, true, false}
use mathlib.Core.Logic.{◌⊎◌, inl, inr}
use mathlib.Core.List.{List, [], ◌∷◌}
use Prim.Native.Nat.{ℕ, zero, suc, ◌+◌, ◌<◌, ◌≤◌}
use native.Mathlib.Omega.{arith}
use native.Mathlib.Decide.{dec_le}
use lib.Dec.{eqb}
use lib.ListN.{length, get_or, get_or-eq_default}
use borrow.Author.Tests.{ne_eqb, clash}
use Rattle.def_tree.specs.Base.{pick, member, to_nat}
use Rattle.def_tree.specs.Tree.{Forest, length_f, Core, core, no_core, flat, first_t}
use Rattle.def_tree.proofs.Tests.{is_T, is_true}
use Rattle.def_file.specs.declared.Raw.{Raw}
use Rattle.def_file.specs.Script.{Script, zero_node, is_lit, has_id, is_arguments, idents, place_of}
use Rattle.def_file.specs.Core.{core_node, core_from, core_nodes}
use Rattle.def_file.specs.Read.{nodes_ok}
use Rattle.def_canon.specs.Canon.{index_of}
use Rattle.def_resolve.specs.Resolve.{is_name, bare_node, bare}
use Rattle.laws_canon.proofs.Uses.{index-eqb}
use Rattle.laws_flat.proofs.File.{Planted, planted-ok}
use Rattle.laws_resolve.proofs.Scripts.{nodes-ok-bare}
use Rattle.words_scopes.specs.State.{Named, Names}
use Rattle.words_nodes.specs.Nodes.{One}
use Rattle.words_twice.specs.Twice.{Stand}
use Rattle.file_read.proofs.Cores.{core-lit, core-id, core-plain}
use Rattle.words_resolve.specs.Meanings.{OneArguments}
use Rattle.file_resolve.specs.Load.{Arguments}
use Rattle.file_resolve.proofs.Names.{bare-at, bare-length, texts, number-is, name-there, text-low, number-low}

-- by place
core-length : (s : Script) (m : ℕ) (xs : List Raw) → length (core_from s m xs) ≡ length xs
core-length s m [] = refl
core-length s m (x ∷ xs) = ap suc (core-length s (suc m) xs)

core-at : (s : Script) (m : ℕ) (xs : List Raw) (k : ℕ) → k < length xs → get_or (core_from s m xs) k no_core ≡ core_node s (m + k) (get_or xs k zero_node)
core-at s m [] k h = absurd (omega (arith, h))
core-at s m (x ∷ xs) zero h = let e : m ≡ m + 0 = omega arith in ap (λ (j : ℕ). core_node s j x) e
core-at s m (x ∷ xs) (suc k) h = let e : suc m + k ≡ m + suc k = omega arith in core-at s (suc m) xs k (omega (arith, h)) ∙ ap (λ (j : ℕ). core_node s j (get_or xs k zero_node)) e

-- a name's core
pub record NameCore (s : Script) (c : Core) (x : Raw) : Type 0 where
  pub named : has_id x ≡ true
  pub is : c ≡ core x.kind (to_nat (is_arguments s x)) x.arity (place_of x (idents s))

name-core : (s : Script) (m : ℕ) (x : Raw) → is_name (core_node s m x).kind ≡ true → NameCore s (core_node s m x) x
name-core s m x = go (is_lit x) (has_id x) refl refl
  where
    go : (p q : Bool) → is_lit x ≡ p → has_id x ≡ q → is_name (core_node s m x).kind ≡ true → NameCore s (core_node s m x) x
    go true q a b h = absurd (clash (sym (ap (λ (c : Core). is_name c.kind) (core-lit s m x a)) ∙ h))
    go false true a b h = record { named = b; is = core-id s m x a b }
    go false false a b h = absurd (clash (sym b ∙ sym (ap (λ (c : Core). is_name c.kind) (core-plain s m x a b)) ∙ h))

named-kind : (k : ℕ) → (k ≡ 20) ⊎ (k ≡ 21) → is_name k ≡ true
named-kind k (inl e) = rw e refl
named-kind k (inr e) = rw e refl

module _ (s : Script) (ok : nodes_ok s ≡ true) (few : length s.texts ≤ 256) where
  abbrev cs : List Core
  cs = core_nodes (bare s)

  pub cores-length : length cs ≡ length s.nodes
  unfolding core_nodes
  cores-length = core-length (bare s) 1 (bare s).nodes ∙ bare-length s

  core-is : (k : ℕ) → k < length s.nodes → get_or cs k no_core ≡ core_node (bare s) (1 + k) (bare_node (get_or s.nodes k zero_node))
  unfolding core_nodes
  core-is k l = core-at (bare s) 1 (bare s).nodes k (omega (arith, l, bare-length s)) ∙ ap (core_node (bare s) (1 + k)) (bare-at s k)

  name-is : (k : ℕ) → k < length s.nodes → is_name (get_or cs k no_core).kind ≡ true → NameCore (bare s) (get_or cs k no_core) (bare_node (get_or s.nodes k zero_node))
  name-is k l h =
      let e = core-is k l in
      let n = name-core (bare s) (1 + k) (bare_node (get_or s.nodes k zero_node)) (ap (λ (c : Core). is_name c.kind) (sym e) ∙ h) in
      record { named = n.named; is = e ∙ n.is }

  name-small : (k : ℕ) → k < length s.nodes → is_name (get_or cs k no_core).kind ≡ true → (get_or cs k no_core).num < 256
  name-small k l h = let n = name-is k l h in omega (arith, ap (λ (c : Core). c.num) n.is, number-low s ok k l n.named)

  pub core-names : Names cs
  core-names k = go (dec_le (suc k) (length s.nodes))
    where
      none : (e : get_or cs k no_core ≡ no_core) → Named (get_or cs k no_core)
      none e = subst Named (sym e) (λ z. no z)
        where
          no : (◌≡◌ {A = ℕ} 0 20) ⊎ (◌≡◌ {A = ℕ} 0 21) → 0 < 256
          no z = omega arith

      go : Dec (suc k ≤ length s.nodes) → Named (get_or cs k no_core)
      go (yes l) = λ e. name-small k l (named-kind (get_or cs k no_core).kind e)
      go (no g) = none (get_or-eq_default cs no_core (omega (arith, g, cores-length)))

  p : Planted (bare s)
  p = planted-ok (bare s) (is_T _ (nodes-ok-bare s ∙ ok))

  pub core-one : One cs
  unfolding p
  core-one = record { is = ap (λ (ts : Forest). flat (first_t ts) []) p.planted ∙ p.nodes }

  pub core-stand : Stand cs 0 1
  unfolding p
  core-stand = record { inside = omega arith; trees = subst (λ (ts : Forest). 1 ≤ length_f ts) (sym p.planted) (omega arith) }

  -- which of them are `arguments`
  module _ (a b : ℕ) (A : Arguments s a) (low : a < 256 → b ≡ pick (member a (texts s)) (index_of a (texts s)) 256) (none : 256 ≤ a → b ≡ 256) where
    numbers-tell : (k : ℕ) → k < length s.nodes → has_id (get_or s.nodes k zero_node) ≡ true → eqb (get_or s.nodes k zero_node).text a ≡ eqb (place_of (bare_node (get_or s.nodes k zero_node)) (idents (bare s))) b
    numbers-tell k l e = go (dec_le (suc a) 256) (member a (texts s)) refl
      where
        x : Raw
        x = get_or s.nodes k zero_node

        n : ℕ
        n = place_of (bare_node (get_or s.nodes k zero_node)) (idents (bare s))

        apart : (b ≡ 256) → ((get_or s.nodes k zero_node).text ≡ a → ⊥) → eqb (get_or s.nodes k zero_node).text a ≡ eqb (place_of (bare_node (get_or s.nodes k zero_node)) (idents (bare s))) b
        apart q d = ne_eqb (get_or s.nodes k zero_node).text a d ∙ sym (ne_eqb (place_of (bare_node (get_or s.nodes k zero_node)) (idents (bare s))) b (λ z. omega (arith, z, q, number-low s ok k l e)))

        go : Dec (suc a ≤ 256) → (m : Bool) → member a (texts s) ≡ m → eqb (get_or s.nodes k zero_node).text a ≡ eqb (place_of (bare_node (get_or s.nodes k zero_node)) (idents (bare s))) b
        go (no g) m q = apart (none (omega (arith, g))) (λ z. omega (arith, z, g, text-low s ok k l e))
        go (yes g) true q = index-eqb (get_or s.nodes k zero_node).text a (texts s) (name-there s k l e) (is_T _ q) ∙ ap₂ {C = Bool} (λ i j. eqb i j) (sym (number-is s k e)) (sym (low g ∙ ap (λ (m : Bool). pick m (index_of a (texts s)) 256) q))
        go (yes g) false q = apart (low g ∙ ap (λ (m : Bool). pick m (index_of a (texts s)) 256) q) (λ z. clash (sym q ∙ ap (λ (i : ℕ). member i (texts s)) (sym z) ∙ is_true _ (name-there s k l e)))

    flag-is : (c : Bool) → eqb (to_nat c) 1 ≡ c
    flag-is true = refl
    flag-is false = refl

    pub core-arguments : OneArguments cs b
    core-arguments = record {
      is = λ k l h.
          let m : k < length s.nodes = omega (arith, l, cores-length) in
          let n = name-is k m h in
          let x = get_or s.nodes k zero_node in
          ap (λ (c : Core). eqb c.form 1) n.is ∙ flag-is (is_arguments (bare s) (bare_node x)) ∙ A.is x.text (text-low s ok k m n.named) ∙ numbers-tell k m n.named ∙ sym (ap (λ (c : Core). eqb c.num b) n.is);
    }
