-- Demand 3 under a table. Assumes nothing.
use mathlib.Core.Path.{◌≡◌, refl, sym, ap, ap₂, ◌∙◌, subst, subst₂}
use mathlib.Core.Bool.{Bool, true, false}
use mathlib.Core.List.{List, [], ◌∷◌}
use Prim.Native.Nat.{ℕ, suc, ◌-◌}
use native.Mathlib.Omega.{arith}
use borrow.Author.Tests.{leb-true}
use lib.Dec.{T, leb}
use lib.ListN.{length}
use Rattle.std.specs.Prelude.{Option, Some, None}
use Rattle.def_tree.specs.Base.{pick, to_nat}
use Rattle.def_tree.specs.Tree.{Core}
use Rattle.def_kinds.specs.Pairs.{under, parents, pairs}
use Rattle.def_kinds.specs.Lent.{is_table, within}
use Rattle.def_file.specs.declared.kinds.Class.TheVariants.{Root}
use Rattle.def_file.specs.declared.Raw.{Raw}
use Rattle.def_file.specs.Script.{Script, is_lit, has_id, is_arguments, idents, place_of}
use Rattle.def_file.specs.Read.{Read, bad, script, Place, node_ok, below, fills, nodes_ok, read}
use Rattle.def_file.specs.Core.{core_node, core_from, core_nodes}
use Rattle.def_pass.specs.Script.{Answer}
use Rattle.def_pass.specs.Entry.{Entry}
use Rattle.def_pass.specs.Paired as paired
use Rattle.laws_roundtrip.proofs.Texts.{both}
use Rattle.laws_roundtrip.proofs.Header.{passed}
use Rattle.laws_roundtrip.proofs.Round.{found}
use Rattle.def_file.proofs.Tested.{tested, lit-leaf}
use Rattle.def_tree.proofs.Tests.{is_T}
use Rattle.laws_pass.proofs.Pairs.{same-cores}
use Rattle.laws_pass.proofs.Demand.{demand3, demand3-entry}
use Rattle.def_under.specs.Reading.{pairs_ok, read_under, constant, lent}
use Rattle.def_under.proofs.Reading.{exactly, lent-read}
use Rattle.laws_under.specs.Paired.{Demand3Under, Demand3EntryUnder, LiteralsAlike, ReadAlike}
use Rattle.laws_under.proofs.Today.{once-read}

pub demand3-under : Demand3Under
demand3-under T as' bs a b P n =
    let x = (once-read T as' a P.one).pass n in
    let y = (once-read T bs b P.two).pass n in
    let d = demand3 as' bs a b (lent-read T as' a P.one) (lent-read T bs b P.two) P.pair n in (
      subst₂ (λ (x y : Answer). paired.Alike a b x y) (sym x) (sym y) d.0,
      subst (λ (x : Answer). paired.Kept a x) (sym x) d.1,
      subst (λ (x : Answer). paired.Kept b x) (sym y) d.2,
    )

pub demand3-entry-under : Demand3EntryUnder
demand3-entry-under T as' bs a b P runs words room room' =
    subst₂ (λ (x y : Entry). paired.AlikeEntry a b x y) (sym ((once-read T as' a P.one).entry runs words room)) (sym ((once-read T bs b P.two).entry runs words room'))
    (demand3-entry as' bs a b (lent-read T as' a P.one) (lent-read T bs b P.two) P.pair runs words room room')

-- the literals among nodes that fill their places have no children
abbrev Leaves : List Raw → Type 0
Leaves [] = Unit {0}
Leaves (x ∷ xs) = (is_lit x ≡ true → x.arity ≡ 0) × Leaves xs

leaf : (t : ℕ) (p : Place) (x : Raw) → node_ok t p x ≡ true → is_lit x ≡ true → x.arity ≡ 0
leaf t p x e l = lit-leaf x.kind (is_T _ l) x.form x.arity (tested t p x (is_T _ e)).count

leaves : (t : ℕ) (ps : List Place) (xs : List Raw) → fills t ps xs ≡ true → Leaves xs
unfolding fills
leaves t ps [] e = tt
leaves t [] (x ∷ xs) e = cc
leaves t (p ∷ ps) (x ∷ xs) e = go (node_ok t p x) refl e (leaves t (below (p.left - 1) x 0 x.arity ps) xs)
  where
    go : (q : Bool) → node_ok t p x ≡ q → elim q [ true ↦ fills t (below (p.left - 1) x 0 x.arity ps) xs | false ↦ false ] ≡ true → (fills t (below (p.left - 1) x 0 x.arity ps) xs ≡ true → Leaves xs) → Leaves (x ∷ xs)
    go true q e k = (leaf t p x q, k e)
    go false q e k = cc

-- the pairs of cores: a literal's kind there is 22
abbrev core_pairs : List ℕ → List (Option ℕ) → List Core → Bool
core_pairs T qs [] = true
core_pairs T [] (c ∷ cs) = true
core_pairs T (q ∷ qs) (c ∷ cs) = elim (under T q c.kind) [ true ↦ core_pairs T (parents c.kind c.arity qs) cs | false ↦ false ]

module _ (T : List ℕ) (L : LiteralsAlike T) (s : Script) where
  as_null : (q : Option ℕ) (x : Raw) → is_lit x ≡ true → under T q x.kind ≡ under T q 22
  as_null None x e = refl
  as_null (Some p) x e =
      let b = both (leb 22 x.kind) (leb x.kind 25) e in
      L p x.kind 22 (leb-true 22 x.kind b.0) (leb-true x.kind 25 b.1) (omega arith) (omega arith)

  -- what is tested of a node, and what stands above its children, is that of its core
  abbrev Same : Raw → Core → Type 0
  Same x c = (q : Option ℕ) (qs : List (Option ℕ)) → (under T q x.kind ≡ under T q c.kind) × (parents x.kind x.arity qs ≡ parents c.kind c.arity qs)

  same-node : (m : ℕ) (x : Raw) → (is_lit x ≡ true → x.arity ≡ 0) → Same x (core_node s m x)
  unfolding core_node
  same-node m x h = go (is_lit x) (has_id x) refl
    where
      go : (u v : Bool) → is_lit x ≡ u → Same x (pick {A = Core} u (record { kind = 22; form = 0; arity = 0; num = m }) (pick {A = Core} v (record { kind = x.kind; form = to_nat (is_arguments s x); arity = x.arity; num = place_of x (idents s) }) (record { kind = x.kind; form = x.form; arity = x.arity; num = m })))
      go true v e = λ q qs. (as_null q x e, ap (λ (n : ℕ). parents x.kind n qs) (h e))
      go false true e = λ q qs. (refl, refl)
      go false false e = λ q qs. (refl, refl)

  by-cores : (m : ℕ) (qs : List (Option ℕ)) (xs : List Raw) → Leaves xs → pairs T qs xs ≡ core_pairs T qs (core_from s m xs)
  unfolding pairs
  by-cores m qs [] h = refl
  by-cores m [] (x ∷ xs) h = refl
  by-cores m (q ∷ qs) (x ∷ xs) h =
      let n = same-node m x h.0 q qs in
      ap₂ {C = Bool} (λ (u : Bool) (rs : List (Option ℕ)). elim u [ true ↦ pairs T rs xs | false ↦ false ]) n.0 n.1
      ∙ ap {B = Bool} (λ (w : Bool). elim (under T q (core_node s m x).kind) [ true ↦ w | false ↦ false ]) (by-cores (suc m) (parents (core_node s m x).kind (core_node s m x).arity qs) xs h.1)

-- so paired scripts have the same pairs
same-pairs : (T : List ℕ) → LiteralsAlike T → (a b : Script) → nodes_ok a ≡ true → nodes_ok b ≡ true → paired.Paired a b → pairs_ok T a ≡ pairs_ok T b
unfolding pairs_ok nodes_ok core_nodes
same-pairs T L a b f g P =
    by-cores T L a 1 (None ∷ []) a.nodes (leaves (length a.texts) (record { class = Root; left = 200 } ∷ []) a.nodes f)
    ∙ ap (core_pairs T (None ∷ [])) (same-cores a b P)
    ∙ sym (by-cores T L b 1 (None ∷ []) b.nodes (leaves (length b.texts) (record { class = Root; left = 200 } ∷ []) b.nodes g))

-- from one side to the other
read-too : (T as' bs : List ℕ) (a b : Script) → pairs_ok T a ≡ pairs_ok T b → read bs ≡ script b → lent T as' ≡ script a → lent T bs ≡ script b
unfolding lent
read-too T as' bs a b s q e =
    let t = passed (is_table T) 14 _ a e in
    let w = passed (within T constant) 15 _ a t.1 in
    let r = (exactly T bs b).1 (q, sym s ∙ ((exactly T as' a).0 w.1).1) in
    ap₂ {C = Read} (λ (u v : Bool). elim u [ false ↦ bad 14 | true ↦ elim v [ false ↦ bad 15 | true ↦ read_under T bs ] ]) t.0 w.0 ∙ r

pub read-alike : ReadAlike
read-alike T as' bs a b L p q P =
    let s = same-pairs T L a b (found as' a p).shape (found bs b q).shape P in
    (read-too T as' bs a b s q, read-too T bs as' b a (sym s) p)
