-- Demand 3: paired scripts are treated alike; and a result's literals are the input's. Assumes nothing.
use mathlib.Core.Path.{◌≡◌, refl, sym, ap, ◌∙◌, subst, subst₂}
use mathlib.Core.Logic.{◌⊎◌, inl, inr}
use mathlib.Core.Bool.{Bool, true, false}
use mathlib.Core.List.{List, [], ◌∷◌, map}
use Prim.Native.Nat.{ℕ, zero, suc, ◌<◌, ◌≤◌, suc-le-suc, zero-le}
use native.Mathlib.Nat.{le_of_suc-le-suc, not-suc-le-zero}
use native.Mathlib.Omega.{arith}
use native.Mathlib.Decide.{dec_le}
use lib.Dec.{T}
use lib.ListN.{length, get_or, length-map, get_or-map, get_or-eq_default}
use Rattle.def_tree.specs.Tree.{Core, flat, plant}
use Rattle.def_tree.specs.Base.{pick}
use Rattle.def_pass.specs.Tree.{head_t}
use Rattle.def_pass.specs.Walk.{Rooted, Outcome, refused, result}
use Rattle.def_file.specs.declared.Raw.{Raw}
use Rattle.def_file.specs.Script.{Script, is_lit, has_id, same_id, node_at, zero_node, idents}
use Rattle.def_file.specs.Core.{back, lit_out, id_out, plain_out, ident_at, core_nodes}
use Rattle.def_pass.specs.Script.{core_tree, pass_tree, answer, pass, root_of}
use Rattle.def_pass.specs.Paired.{Agree, Paired, Together, AlikeNode, AlikeRoots, Alike, KeptLit, KeptAll, Kept}
use Rattle.def_tree.proofs.Tests.{is_true, is_T}
use Rattle.def_file.proofs.Tested.{lit-no-id}
use Rattle.laws_pass.proofs.Idents.{same_id-refl}
use Rattle.laws_pass.proofs.Pairs.{Twin, twins-at, idents-twins, same-cores}
use Rattle.laws_pass.proofs.All.{All}
use Rattle.laws_pass.proofs.Keep.{OkId}
use Rattle.laws_pass.proofs.Origin.{NamedC, NamedOut, Named, to-ident, void-named, zero-named, lit_kind, id_kind, flat-named, out-named}

all-get : {A : Type 0} (P : A → Type 0) (xs : List A) (n : ℕ) (d : A) → All P xs → n < length xs → P (get_or xs n d)
all-get P [] n d h l = absurd (not-suc-le-zero l)
all-get P (x ∷ xs) zero d h l = h.0
all-get P (x ∷ xs) (suc n) d h l = all-get P xs n d h.1 (le_of_suc-le-suc l)

module _ (a b : Script) (P : Paired a b) where
  -- a test of a node's kind that holds of both literals or of neither gives the same in both scripts
  same_test : (f : Raw → Bool) (c : Bool) → ((x : Raw) → T (is_lit x) → f x ≡ c) → ((x y : Raw) → x.kind ≡ y.kind → f x ≡ f y) → (n : ℕ) → f (node_at a n) ≡ f (node_at b n)
  same_test f c lits kinds zero = refl
  same_test f c lits kinds (suc i) = go (dec_le (suc i) (length a.nodes))
    where
      at : (T (is_lit (node_at a (suc i))) × T (is_lit (node_at b (suc i)))) ⊎ Agree (node_at a (suc i)) (node_at b (suc i)) → f (node_at a (suc i)) ≡ f (node_at b (suc i))
      at (inl ls) = lits (node_at a (suc i)) ls.0 ∙ sym (lits (node_at b (suc i)) ls.1)
      at (inr g) = kinds (node_at a (suc i)) (node_at b (suc i)) g.kinds

      go : Dec (suc i ≤ length a.nodes) → f (node_at a (suc i)) ≡ f (node_at b (suc i))
      go (yes l) = at (P.shape (suc i) (suc-le-suc zero-le, l))
      go (no g) = ap f (get_or-eq_default a.nodes zero_node (omega arith) ∙ sym (get_or-eq_default b.nodes zero_node (omega (arith, P.count))))

  same-has_id : (n : ℕ) → has_id (node_at a n) ≡ has_id (node_at b n)
  same-has_id = same_test has_id false lit-no-id (λ x y e. ap id_kind e)

  same-is_lit : (n : ℕ) → is_lit (node_at a n) ≡ is_lit (node_at b n)
  same-is_lit = same_test is_lit true (λ x t. is_true (is_lit x) t) (λ x y e. ap lit_kind e)

  -- the identifiers of one number stand together
  together : (i : ℕ) (x y : Raw) → T (same_id x (ident_at a i)) → T (same_id y (ident_at b i)) → i < length (idents a) → Together a b x y
  unfolding idents
  together i x y p q l = go (twins-at a b (idents a) (idents b) (idents-twins a b P) i l)
    where
      go : Twin a b (ident_at a i) (ident_at b i) → Together a b x y
      go t = record {
        place = t.place;
        left-id = t.has;
        right-id = subst T (same-has_id t.place) t.has;
        left = subst (λ z. T (same_id x z)) t.left p;
        right = subst (λ z. T (same_id y z)) t.right q;
      }

  alike-node : (c : Core) → NamedC a c → AlikeNode a b (back a c) (back b c)
  unfolding back
  alike-node c h = go (lit_kind c.kind) refl (id_kind c.kind) refl
    where
      go : (p : Bool) → lit_kind c.kind ≡ p → (q : Bool) → id_kind c.kind ≡ q → AlikeNode a b (pick p (lit_out a c) (pick q (id_out a c) (plain_out a c))) (pick p (lit_out b c) (pick q (id_out b c) (plain_out b c)))
      go true e q f = (let l = h.lit (is_T (lit_kind c.kind) e) in inl (record { one = l; two = subst T (same-is_lit c.num) l; origins = refl }))
      go false e true f = inr (record {
        one = λ t. subst T e t;
        two = λ t. subst T e t;
        agree = record { kinds = refl; forms = refl; arities = refl };
        ids = λ t. together c.num (id_out a c).raw (id_out b c).raw (same_id-refl (ident_at a c.num)) (same_id-refl (ident_at b c.num)) (h.ident (is_T (id_kind c.kind) f));
      })
      go false e false f = inr (record {
        one = λ t. subst T e t;
        two = λ t. subst T e t;
        agree = record { kinds = refl; forms = refl; arities = refl };
        ids = λ t. absurd (subst T f t);
      })

  alike-roots : (ms : List Rooted) → All (λ (m : Rooted). OkId (Named a) (to-ident a) (void-named a) (zero-named a) m.0) ms → AlikeRoots a b (map (root_of a) ms) (map (root_of b) ms)
  unfolding root_of
  alike-roots [] h = tt
  alike-roots (m ∷ ms) h = (together m.0 (ident_at a m.0) (ident_at b m.0) (same_id-refl (ident_at a m.0)) (same_id-refl (ident_at b m.0)) (h.0.ok.ident tt), refl, refl, alike-roots ms h.1)

  zero_core : Core
  zero_core = record { kind = 22; form = 0; arity = 0; num = 0 }

  alike-answer : (o : Outcome) → NamedOut a o → Alike a b (answer a o) (answer b o)
  unfolding back root_of zero_core
  alike-answer (refused n) h = refl
  alike-answer (result k c t ms) h = record {
    runs = refl;
    marks = refl;
    count = length-map (flat t []) (back a) ∙ sym (length-map (flat t []) (back b));
    each = λ n l. subst₂ (AlikeNode a b) (sym (get_or-map (back a) (flat t []) n zero_core)) (sym (get_or-map (back b) (flat t []) n zero_core))
        (alike-node (get_or (flat t []) n zero_core) (all-get (NamedC a) (flat t []) n zero_core (flat-named a t [] h.0 tt) (subst (λ (m : ℕ). n < m) (length-map (flat t []) (back a)) l)));
    roots = alike-roots ms h.1;
  }

  -- for every pair and run limit
  pub alike : (n : ℕ) → Alike a b (pass n a) (pass n b)
  unfolding pass
  alike n = subst (λ (cs : List Core). Alike a b (answer a (pass_tree n (head_t (plant (core_nodes a))))) (answer b (pass_tree n (head_t (plant cs))))) (same-cores a b P)
      (alike-answer (pass_tree n (head_t (plant (core_nodes a)))) (out-named a n))

-- a literal of a result has the kind, form, text and bits of the input node that its origin names (of origin 0: the number 0)
literal-kept : (s : Script) (c : Core) → NamedC s c → T (is_lit (back s c).raw) → KeptLit s (back s c)
unfolding back
literal-kept s c h = go (lit_kind c.kind) refl (id_kind c.kind)
  where
    go : (p : Bool) → lit_kind c.kind ≡ p → (q : Bool) → T (is_lit (pick p (lit_out s c) (pick q (id_out s c) (plain_out s c))).raw) → KeptLit s (pick p (lit_out s c) (pick q (id_out s c) (plain_out s c)))
    go true e q t = record { origin = h.low (is_T (lit_kind c.kind) e); raw = refl }
    go false e true t = absurd (subst T e t)
    go false e false t = absurd (subst T e t)

kept-all : (s : Script) (cs : List Core) → All (NamedC s) cs → KeptAll s (map (back s) cs)
kept-all s [] h = tt
kept-all s (c ∷ cs) h = (literal-kept s c h.0, kept-all s cs h.1)

kept-answer : (s : Script) (o : Outcome) → NamedOut s o → Kept s (answer s o)
unfolding back root_of
kept-answer s (refused n) h = tt
kept-answer s (result k c t ms) h = kept-all s (flat t []) (flat-named s t [] h.0 tt)

pub kept : (s : Script) (n : ℕ) → Kept s (pass n s)
unfolding pass
kept s n = kept-answer s (pass_tree n (core_tree s)) (out-named s n)
