-- The contexts of the given script are never looked at. Assumes nothing.
use mathlib.Core.Path.{◌≡◌, refl, sym, ap, ap₂, ◌∙◌}
use mathlib.Core.Bool.{Bool, true, false}
use mathlib.Core.List.{List, [], ◌∷◌, map}
use Prim.Native.Nat.{ℕ, zero, suc, ◌<◌}
use native.Mathlib.Omega.{arith}
use lib.ListN.{length, get_or, get_or-map, length-map}
use Rattle.def_tree.specs.Base.{pick}
use Rattle.def_tree.specs.Tree.{Core}
use Rattle.def_file.specs.declared.Raw.{Raw}
use Rattle.def_file.specs.Script.{Script, has_id, node_at, zero_node}
use Rattle.def_file.specs.Read.{nodes_ok}
use Rattle.def_pass.specs.Script.{core_tree}
use Rattle.def_resolve.specs.Resolve.{bare_node, bare, names_tree, clashes_in, clashing, contexts_of, put_contexts, resolved}
use Rattle.laws_resolve.specs.Laws.{SameButContexts, ContextsIgnored}
use Rattle.laws_resolve.proofs.Scripts.{contexts, contexts-length, contexts-are, put, put-at, put-length}

-- two lists of nodes with the same node at each place
alike : (xs ys : List Raw) → length xs ≡ length ys → ((i : ℕ) → i < length xs → get_or xs i zero_node ≡ get_or ys i zero_node) → xs ≡ ys
alike [] [] e h = refl
alike [] (y ∷ ys) e h = absurd (omega (arith, e))
alike (x ∷ xs) [] e h = absurd (omega (arith, e))
alike (x ∷ xs) (y ∷ ys) e h = ap₂ {C = List Raw} (λ z zs. z ∷ zs) (h 0 (omega arith)) (alike xs ys (omega (arith, e)) (λ i l. h (suc i) (omega (arith, l))))

module _ (a b : Script) (d : SameButContexts a b) where
  module _ (i : ℕ) (l : i < length a.nodes) where
    abbrev x : Raw
    x = node_at a (suc i)

    abbrev y : Raw
    y = node_at b (suc i)

    names-alike : has_id x ≡ has_id y
    names-alike = ap has_kind (d.shape (suc i) (omega arith, l)).kinds
      where
        has_kind : ℕ → Bool
        has_kind k = has_id (record { kind = k; form = 0; arity = 0; text = 0; bits = 0 })

    -- with one context for both
    put-alike : (v : ℕ) → put x v ≡ put y v
    put-alike v = (
        let s = d.shape (suc i) (omega arith, l) in
        let e : pick (has_id x) v x.bits ≡ pick (has_id y) v y.bits = go (has_id x) refl in
        ap₂ {C = Raw} (λ (k f : ℕ). record { kind = k; form = f; arity = x.arity; text = x.text; bits = pick (has_id x) v x.bits }) s.kinds s.forms
        ∙ ap₂ {C = Raw} (λ (n t : ℕ). record { kind = y.kind; form = y.form; arity = n; text = t; bits = pick (has_id x) v x.bits }) s.arities (d.words (suc i) (omega arith, l))
        ∙ ap (λ (c : ℕ). record { kind = y.kind; form = y.form; arity = y.arity; text = y.text; bits = c }) e)
      where
        go : (p : Bool) → has_id x ≡ p → pick (has_id x) v x.bits ≡ pick (has_id y) v y.bits
        go true e = ap (λ (p : Bool). pick p v x.bits) e ∙ sym (ap (λ (p : Bool). pick p v y.bits) (sym names-alike ∙ e))
        go false e = ap (λ (p : Bool). pick p v x.bits) e ∙ d.bits (suc i) (omega arith, l) e ∙ sym (ap (λ (p : Bool). pick p v y.bits) (sym names-alike ∙ e))

  pub bare-alike : bare a ≡ bare b
  bare-alike = ap₂ {C = Script} (λ (xs : List Raw) (ts : List (List ℕ)). record { nodes = xs; texts = ts }) nodes d.texts
    where
      nodes : map bare_node a.nodes ≡ map bare_node b.nodes
      nodes = alike (map bare_node a.nodes) (map bare_node b.nodes) (length-map a.nodes bare_node ∙ d.count ∙ sym (length-map b.nodes bare_node))
          (λ i l. get_or-map bare_node a.nodes i zero_node ∙ put-alike i (omega (arith, l, length-map a.nodes bare_node)) 0 ∙ sym (get_or-map bare_node b.nodes i zero_node))

  pub trees-alike : names_tree a ≡ names_tree b
  unfolding names_tree
  trees-alike = ap (λ (s : Script). core_tree s) bare-alike

  pub clashes-alike : clashes_in a ≡ clashes_in b
  unfolding clashes_in
  clashes-alike = ap clashing trees-alike

  module _ (o : nodes_ok a ≡ true) where
    abbrev cs : List Core
    cs = contexts a o

    puts-alike : put_contexts a.nodes cs ≡ put_contexts b.nodes cs
    puts-alike = alike (put_contexts a.nodes cs) (put_contexts b.nodes cs) (put-length a.nodes cs ∙ d.count ∙ sym (put-length b.nodes cs)) each
      where
        each : (i : ℕ) → i < length (put_contexts a.nodes cs) → get_or (put_contexts a.nodes cs) i zero_node ≡ get_or (put_contexts b.nodes cs) i zero_node
        each i l =
            let m : i < length a.nodes = omega (arith, l, put-length a.nodes cs) in
            put-at a.nodes cs i m (contexts-length a o) ∙ put-alike i m _ ∙ sym (put-at b.nodes cs i (omega (arith, m, d.count)) (contexts-length a o ∙ d.count))

    pub resolved-alike : resolved a ≡ resolved b
    unfolding resolved
    resolved-alike =
        let e : contexts_of (names_tree b) ≡ cs = ap contexts_of (sym trees-alike) ∙ contexts-are a o in
        ap₂ {C = Script} (λ (xs : List Raw) (ts : List (List ℕ)). record { nodes = xs; texts = ts })
        (ap (put_contexts a.nodes) (contexts-are a o) ∙ puts-alike ∙ sym (ap (put_contexts b.nodes) e)) d.texts

pub ignored : ContextsIgnored
ignored a b o d = (clashes-alike a b d, resolved-alike a b d o)
