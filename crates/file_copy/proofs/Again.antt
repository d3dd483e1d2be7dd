-- A script's core turned back is the script, and its file the file that was read. Assumes nothing.
use mathlib.Core.Path.{◌≡◌, refl, sym, ap, ap₂, ◌∙◌, subst}
use mathlib.Core.Bool.{Bool, true, false, ◌||◌}
use mathlib.Core.List.{List, [], ◌∷◌, map}
use Prim.Native.Nat.{ℕ, suc, ◌+◌, ◌<◌}
use native.Mathlib.Nat.{le_of_suc-le-suc, not-suc-le-zero}
use native.Mathlib.Numerals.{add-one}
use native.Mathlib.Omega.{arith}
use borrow.Author.Tests.{eqb-true}
use lib.Dec.{eqb}
use lib.ListN.{length, get_or, take, length-append}
use Rattle.def_tree.specs.Base.{pick}
use Rattle.def_tree.specs.Tree.{Core}
use Rattle.def_file.specs.declared.Raw.{Raw}
use Rattle.def_file.specs.Script.{Script, is_lit, has_id, same_id, known, enter, enter_all, idents, place_of, zero_node, node_at}
use Rattle.def_file.specs.Core.{has_text, core_node, core_from, core_nodes, back}
use Rattle.def_file.specs.Read.{script, read, nodes_ok}
use Rattle.def_file.specs.Write.{file}
use Rattle.laws_roundtrip.specs.Fits.{Bytes}
use Rattle.laws_roundtrip.proofs.Texts.{both}
use Rattle.laws_roundtrip.proofs.Round.{found, back as file-back}
use Rattle.file_read.specs.Reading.{Held}
use Rattle.def_tree.proofs.Tests.{is_T}
use Rattle.file_read.proofs.Names.{enter-old, enter-new, place-new}
use Rattle.file_read.proofs.Cores.{core-lit, core-id, core-plain, place-final, ids_more}
use Rattle.file_write.proofs.Tied.{result_script}
use Rattle.file_copy.proofs.Zeros.{Zeros, node-zeros, no_text, no_bits}

-- a known identifier has a place, and one of its own stands there
place_in : (x : Raw) (ids : List Raw) → known x ids ≡ true → place_of x ids < length ids
place_in x [] h = absurd (is_T false h)
place_in x (y ∷ ys) h = go (same_id x y) h (place_in x ys)
  where
    go : (b : Bool) → (b || known x ys) ≡ true → (known x ys ≡ true → place_of x ys < length ys) → elim b [ true ↦ 0 | false ↦ suc (place_of x ys) ] < suc (length ys)
    go true q k = omega arith
    go false q k = omega (arith, k q)

place_same : (x : Raw) (ids : List Raw) → place_of x ids < length ids → same_id x (get_or ids (place_of x ids) zero_node) ≡ true
place_same x [] h = absurd (not-suc-le-zero h)
place_same x (y ∷ ys) h = go (same_id x y) refl h (place_same x ys)
  where
    go : (b : Bool) → same_id x y ≡ b → elim b [ true ↦ 0 | false ↦ suc (place_of x ys) ] < suc (length ys) → (place_of x ys < length ys → same_id x (get_or ys (place_of x ys) zero_node) ≡ true)
        → same_id x (get_or (y ∷ ys) (elim b [ true ↦ 0 | false ↦ suc (place_of x ys) ]) zero_node) ≡ true
    go true e l k = e
    go false e l k = k (le_of_suc-le-suc l)

-- an identifier that was entered has one
pub place-enter : (ids : List Raw) (x : Raw) → has_id x ≡ true → place_of x (enter ids x) < length (enter ids x)
place-enter ids x h = go (known x ids) refl
  where
    go : (b : Bool) → known x ids ≡ b → place_of x (enter ids x) < length (enter ids x)
    go true e = subst (λ (is : List Raw). place_of x is < length is) (sym (enter-old ids x e)) (place_in x ids e)
    go false e = subst (λ (is : List Raw). place_of x is < length is) (sym (enter-new ids x h e)) (omega (arith, place-new x ids e, length-append ids (x ∷ [])))

same-fields : {k f n t b k' f' n' t' b' : ℕ} → k ≡ k' → f ≡ f' → n ≡ n' → t ≡ t' → b ≡ b' → ◌≡◌ {A = Raw} (record { kind = k; form = f; arity = n; text = t; bits = b }) (record { kind = k'; form = f'; arity = n'; text = t'; bits = b' })
same-fields p q r u v = cc

-- the nodes of a core, each turned back, given that each node's own core is
all_back : (g : Core → Raw) (s : Script) (xs : List Raw) (m : ℕ) → ((k j : ℕ) → j ≡ m + k → k < length xs → g (core_node s j (get_or xs k zero_node)) ≡ get_or xs k zero_node) → map g (core_from s m xs) ≡ xs
all_back g s [] m h = refl
all_back g s (x ∷ xs) m h = ap₂ {C = List Raw} (λ y ys. y ∷ ys) (h 0 m (omega arith) (omega arith)) (all_back g s xs (suc m) (λ k j e l. h (suc k) j (omega arith) (omega arith)))

-- a node of a script that passed row 6, by its place
module _ (s : Script) (ok : nodes_ok s ≡ true) (k : ℕ) (l : k < length s.nodes) where
  abbrev x : Raw
  x = get_or s.nodes k zero_node

  zs : Zeros x
  zs = node-zeros s ok k l

  node_at_lem : node_at s (k + 1) ≡ x
  node_at_lem = ap (node_at s) (add-one k)

  literal : is_lit x ≡ true → (back s (core_node s (k + 1) x)).raw ≡ x
  unfolding back
  literal h = ap (λ (c : Core). (back s c).raw) (core-lit s (k + 1) x h) ∙ node_at_lem

  module _ (nl : is_lit x ≡ false) where
    -- the identifier at a node's place is the node's own
    at : has_id x ≡ true → place_of x (idents s) < length (idents s)
    at h = omega (arith, place-final s k l h, ids_more s k l, place-enter (enter_all [] (take k s.nodes)) x h)

    name : has_id x ≡ true → (back s (core_node s (k + 1) x)).raw ≡ x
    unfolding back
    name h =
        let y = get_or (idents s) (place_of x (idents s)) zero_node in
        let same = both (eqb x.text y.text) (eqb x.bits y.bits) (place_same x (idents s) (at h)) in
        ap (λ (c : Core). (back s c).raw) (core-id s (k + 1) x nl h)
        ∙ rw (nl, h) (same-fields refl (sym (zs.form h)) refl (sym (eqb-true x.text y.text same.0)) (sym (eqb-true x.bits y.bits same.1)))

    -- the text of a property, member or pattern property is its node's own, and no other has one
    text-is : has_id x ≡ false → (q : Bool) → has_text x.kind ≡ q → pick q (node_at s (k + 1)).text 0 ≡ x.text
    text-is h true z = ap (λ (y : Raw). y.text) node_at_lem
    text-is h false z = sym (zs.text (no_text x.kind h nl z))

    other : has_id x ≡ false → (back s (core_node s (k + 1) x)).raw ≡ x
    unfolding back
    other h =
        ap (λ (c : Core). (back s c).raw) (core-plain s (k + 1) x nl h)
        ∙ rw (nl, h) (same-fields refl refl refl (text-is h (has_text x.kind) refl) (sym (zs.bits (no_bits x.kind h nl))))

  node-back : (back s (core_node s (k + 1) x)).raw ≡ x
  node-back = go (is_lit x) (has_id x) refl refl
    where
      go : (p q : Bool) → is_lit x ≡ p → has_id x ≡ q → (back s (core_node s (k + 1) x)).raw ≡ x
      go true q u v = literal u
      go false true u v = name u v
      go false false u v = other u v

nodes-back : (s : Script) → nodes_ok s ≡ true → map (λ (c : Core). (back s c).raw) (core_nodes s) ≡ s.nodes
unfolding core_nodes
nodes-back s ok = all_back (λ (c : Core). (back s c).raw) s s.nodes 1 (λ k j q l. let z : j ≡ k + 1 = omega arith in rw z (node-back s ok k l))

-- writing what was read gives the file
pub same-file : {bs w : List ℕ} {s : Script} → Bytes bs → read bs ≡ script s → Held bs w s → file (result_script s w) ≡ bs
same-file {bs} {w} {s} y e H =
    ap (λ (ns : List Raw). file (record { nodes = ns; texts = s.texts })) (ap (map (λ (c : Core). (back s c).raw)) H.tree ∙ nodes-back s (found bs s e).shape)
    ∙ file-back bs s y e
