-- A file that is read is one tree in preorder, whose literals have no children; so the pass on the list of its nodes is the pass of the
-- definition. Assumes nothing.
use mathlib.Core.Path.{◌≡◌, refl, sym, ap, ap₂, ◌∙◌, subst, fun_ext}
use mathlib.Core.Bool.{Bool, true, false, ◌&&◌, ◌||◌}
use mathlib.Core.List.{List, [], ◌∷◌}
use Prim.Native.Nat.{ℕ, zero, suc, ◌+◌, ◌-◌, ◌*◌}
use native.Mathlib.Nat.{zero-add, suc-add, suc_inj, suc-ne-zero}
use native.Mathlib.Omega.{arith}
use lib.Dec.{T, eqb, leb}
use lib.ListN.{length, drop}
use Rattle.def_tree.specs.Tree.{Tree, Forest, node, nil, cons, length_f, count, counts, Core, core, flat, flats, plant}
use Rattle.def_tree.proofs.Whole.{Whole, length-drop_f, unplant}
use Rattle.def_tree.specs.Base.{pick, to_nat, member}
use Rattle.def_pass.specs.Tree.{head_t}
use Rattle.def_pass.specs.Targets.{aims, aimed_at, first_is, targets, targets_f}
use Rattle.def_pass.specs.Twice.{flagged}
use Rattle.def_pass.specs.Walk.{Outcome, refused, result, core_pass}
use Rattle.def_file.proofs.Tested.{tested, lit-leaf}
use Rattle.def_file.specs.declared.kinds.Class.TheVariants.{Root}
use Rattle.def_file.specs.declared.Raw.{Raw}
use Rattle.def_file.specs.Script.{Script, is_lit, has_id, is_arguments, idents, place_of}
use Rattle.def_file.specs.Read.{Read, bad, script, Place, u32, ends_from, texts_from, nodes_from, rising, distinct, node_ok, below, fills, nodes_ok, checked, read}
use Rattle.def_file.specs.Core.{core_node, core_from, core_nodes, back}
use Rattle.def_pass.specs.Script.{Answer, answer, pass_tree, pass, root_of, pass_read, pass_file}
use Rattle.def_pass.specs.Entry.{Entry, refused as refusedE, written, enough, entry_read, entry}
use Rattle.laws_flat.specs.WalkF.{runs_f, flat_outcome}
use Rattle.laws_flat.specs.PassF.{some!, flagged_o, next_is, targets_l, start_f, answer_f, pass_f, pass_read_f, pass_file_f, entry_read_f, entry_f}
use Rattle.laws_flat.proofs.Sim.{pass_same}
use Rattle.laws_flat.proofs.Bounds.{bounds-tree}

-- what was read passed row 6

not-bad : {P : Type 0} (r : ℕ) (s : Script) → bad r ≡ script s → P
not-bad r s e = let z : ◌≡◌ {A = ℕ} 0 1 = cc in absurd (omega arith)

same-script : (a b : Script) → script a ≡ script b → a ≡ b
same-script a b e = cc

passed : {P : Type 0} (c : Bool) (r : ℕ) (x : Read) (s : Script) → elim c [ false ↦ bad r | true ↦ x ] ≡ script s → (T c → x ≡ script s → P) → P
passed false r x s e k = not-bad r s e
passed true r x s e k = k tt e

checked-ok : (a s : Script) → checked a ≡ script s → T (nodes_ok s)
unfolding nodes_ok idents
checked-ok a s e = passed (nodes_ok a) 6 _ s e λ t e₁. passed (leb (length (idents a)) 256) 7 (script a) s e₁ λ u e₂. subst (λ (x : Script). T (nodes_ok x)) (same-script a s e₂) t

read_ok : (bs : List ℕ) (s : Script) → read bs ≡ script s → T (nodes_ok s)
unfolding read
read_ok bs s e =
    let n = u32 bs 8 in
    let t = u32 bs 16 in
    let b = u32 bs 28 in
    let ends = ends_from t (drop (32 + 16 * n) bs) in
    let texts = texts_from 0 ends (drop (32 + 16 * n + 4 * t) bs) in
    passed (leb 32 (length bs) && eqb (u32 bs 0) 1) 2 _ s e λ h e₁.
    passed (leb 1 n && leb n 1024 && leb t 256 && leb b 4096) 3 _ s e₁ λ h e₂.
    passed (eqb (u32 bs 4) (length bs) && eqb (u32 bs 12) 32 && eqb (u32 bs 20) (32 + 16 * n) && eqb (u32 bs 24) (32 + 16 * n + 4 * t) && eqb (u32 bs 4) (32 + 16 * n + 4 * t + b)) 4 _ s e₂ λ h e₃.
    passed (rising 0 ends b && distinct texts) 5 _ s e₃ λ h e₄. checked-ok (record { nodes = nodes_from n (drop 32 bs); texts = texts }) s e₄

-- nodes that are n trees, neither missing nor left over
abbrev Trees : ℕ → List Core → Type 0
Trees n cs = (length_f (plant cs) ≡ n) × Whole cs

trees-more : (n : ℕ) (c : Core) (cs : List Core) → Trees (c.arity + n) cs → Trees (suc n) (c ∷ cs)
trees-more n c cs h = (ap suc (length-drop_f c.arity (plant cs) ∙ omega (arith, h.0)), (omega (arith, h.0), h.1))

-- a literal has no children
node-leaf : (t : ℕ) (p : Place) (x : Raw) → T (node_ok t p x) → T (is_lit x) → x.arity ≡ 0
node-leaf t p x h l = lit-leaf x.kind l x.form x.arity (tested t p x h).count

length-below : (n : ℕ) (x : Raw) (i m : ℕ) (ps : List Place) → length (below n x i m ps) ≡ m + length ps
unfolding below
length-below n x i zero ps = sym (zero-add (length ps))
length-below n x i (suc m) ps = ap suc (length-below n x (suc i) m ps) ∙ sym (suc-add m (length ps))

-- so the core's nodes are as many trees
pick-arity : (p q : Bool) (a b c : Core) (m : ℕ) → (T p → a.arity ≡ m) → b.arity ≡ m → c.arity ≡ m → (pick p a (pick q b c)).arity ≡ m
pick-arity true q a b c m h k l = h tt
pick-arity false true a b c m h k l = k
pick-arity false false a b c m h k l = l

core-arity : (s : Script) (n : ℕ) (x : Raw) → (T (is_lit x) → x.arity ≡ 0) → (core_node s n x).arity ≡ x.arity
unfolding core_node
core-arity s n x h = pick-arity (is_lit x) (has_id x) (core 22 0 0 n) (core x.kind (to_nat (is_arguments s x)) x.arity (place_of x (idents s))) (core x.kind x.form x.arity n) x.arity (λ t. sym (h t)) refl refl

-- the nodes that fill the places are as many trees
core-trees : (s : Script) (m t : ℕ) (ps : List Place) (xs : List Raw) → T (fills t ps xs) → Trees (length ps) (core_from s m xs)
unfolding fills core_node
core-trees s m t [] [] h = (refl, tt)
core-trees s m t [] (x ∷ xs) h = absurd h
core-trees s m t (p ∷ ps) [] h = absurd h
core-trees s m t (p ∷ ps) (x ∷ xs) h = go (node_ok t p x) refl h (core-trees s (suc m) t (below (p.left - 1) x 0 x.arity ps) xs)
  where
    go : (q : Bool) → node_ok t p x ≡ q → T (elim q [ true ↦ fills t (below (p.left - 1) x 0 x.arity ps) xs | false ↦ false ])
        → (T (fills t (below (p.left - 1) x 0 x.arity ps) xs) → Trees (length (below (p.left - 1) x 0 x.arity ps)) (core_from s (suc m) xs))
        → Trees (suc (length ps)) (core_node s m x ∷ core_from s (suc m) xs)
    go true e h ih = trees-more (length ps) (core_node s m x) (core_from s (suc m) xs) (subst (λ (n : ℕ). Trees n (core_from s (suc m) xs))
        (length-below (p.left - 1) x 0 x.arity ps ∙ ap (λ (n : ℕ). n + length ps) (sym (core-arity s m x (node-leaf t p x (subst T (sym e) tt))))) (ih h))
    go false e h ih = absurd h

record One (ts : Forest) : Type 0 where
  tree : Tree
  is : ts ≡ cons tree nil

one-tree : (ts : Forest) → length_f ts ≡ 1 → One ts
one-tree nil e = absurd (suc-ne-zero _ (sym e))
one-tree (cons t nil) e = record { tree = t; is = refl }
one-tree (cons t (cons u us)) e = absurd (suc-ne-zero _ (suc_inj e))

-- a script that passed row 6 has one core tree, whose nodes are its core nodes
pub record Planted (s : Script) : Type 0 where
  pub tree : Tree
  pub planted : plant (core_nodes s) ≡ cons tree nil
  pub nodes : flat tree [] ≡ core_nodes s

pub planted-ok : (s : Script) → T (nodes_ok s) → Planted s
unfolding nodes_ok core_nodes
planted-ok s t = record { tree = o.tree; planted = o.is; nodes = ap (λ (ts : Forest). flats ts []) (sym o.is) ∙ unplant (core_nodes s) c.1 }
  where
    c : Trees 1 (core_nodes s)
    c = core-trees s 1 (length s.texts) (record { class = Root; left = 200 } ∷ []) s.nodes t

    o : One (plant (core_nodes s))
    o = one-tree (plant (core_nodes s)) c.0

-- the number of nodes
mutual
  length-flat : (t : Tree) (xs : List Core) → length (flat t xs) ≡ count t + length xs
  length-flat (node k f a ts) xs = ap suc (length-flats ts xs) ∙ sym (suc-add (counts ts) (length xs))

  length-flats : (ts : Forest) (xs : List Core) → length (flats ts xs) ≡ counts ts + length xs
  length-flats nil xs = sym (zero-add (length xs))
  length-flats (cons t ts) xs = length-flat t (flats ts xs) ∙ ap (λ (n : ℕ). count t + n) (length-flats ts xs) ∙ omega arith

-- and what they target
with_rest : (a b c : Bool) → ((a || b) || c) ≡ (a || (b || c))
with_rest true b c = refl
with_rest false b c = refl

mutual
  next-aimed : (i : ℕ) (t : Tree) (xs : List Core) → next_is i (flat t xs) ≡ aimed_at i t
  next-aimed i (node k f a ts) xs = ap₂ {C = Bool} (λ (b c : Bool). elim (eqb k 5 || eqb k 6) [ true ↦ b | false ↦ (eqb k 21 && eqb a i) || c ]) (next-first i ts xs) (ap (member i) (bounds-tree (node k f a ts) xs))

  next-first : (i : ℕ) (ts : Forest) (xs : List Core) → (some! (length_f ts) && next_is i (flats ts xs)) ≡ first_is i ts
  next-first i nil xs = refl
  next-first i (cons t ts) xs = next-aimed i t (flats ts xs)

mutual
  targets-flat : (i : ℕ) (t : Tree) (xs : List Core) → targets_l (flat t xs) i ≡ (targets t i || targets_l xs i)
  targets-flat i (node k f a ts) xs = ap₂ (λ (b c : Bool). (aims k && b) || c) (next-first i ts xs) (targets-flats i ts xs) ∙ sym (with_rest (aims k && first_is i ts) (targets_f ts i) (targets_l xs i))

  targets-flats : (i : ℕ) (ts : Forest) (xs : List Core) → targets_l (flats ts xs) i ≡ (targets_f ts i || targets_l xs i)
  targets-flats i nil xs = refl
  targets-flats i (cons t ts) xs = targets-flat i t (flats ts xs) ∙ ap (λ (b : Bool). targets t i || b) (targets-flats i ts xs) ∙ sym (with_rest (targets t i) (targets_f ts i) (targets_l xs i))

or-false : (b : Bool) → (b || false) ≡ b
or-false true = refl
or-false false = refl

same-targets : (t : Tree) → targets_l (flat t []) ≡ targets t
same-targets t = fun_ext (λ i. targets-flat i t [] ∙ or-false (targets t i))

length-core : (s : Script) (n : ℕ) (xs : List Raw) → length (core_from s n xs) ≡ length xs
unfolding core_node
length-core s n [] = refl
length-core s n (x ∷ xs) = ap suc (length-core s (suc n) xs)

answer-same : (s : Script) (o : Outcome) → answer_f s (flat_outcome o) ≡ answer s o
unfolding back root_of
answer-same s (refused n) = refl
answer-same s (result k c t ms) = refl

-- the pass over a script that was read
pub script-same : (n : ℕ) (s : Script) → T (nodes_ok s) → pass_f n s ≡ pass n s
unfolding pass_f pass
script-same n s t = go (planted-ok s t)
  where
    go : Planted s → pass_f n s ≡ pass n s
    go p =
        let u = p.tree in
        let k : length s.nodes ≡ count u = sym (length-core s 1 s.nodes) ∙ ap length (sym p.nodes) ∙ length-flat u [] ∙ omega arith in
        ap₂ {C = Answer} (λ (ts : Forest) (m : ℕ). answer_f s (runs_f n 0 (record { nodes = flagged_o (head_t ts); rest = start_f m (targets_l (core_nodes s)) }))) p.planted k
        ∙ ap (λ (tg : ℕ → Bool). answer_f s (runs_f n 0 (record { nodes = flat (flagged u) []; rest = start_f (count u) tg }))) (ap targets_l (sym p.nodes) ∙ same-targets u)
        ∙ ap (answer_f s) (pass_same n u)
        ∙ answer-same s (core_pass n u)
        ∙ ap (λ (ts : Forest). answer s (pass_tree n (head_t ts))) (sym p.planted)

-- from the file's bytes on
pub file-same : (n : ℕ) (bs : List ℕ) → pass_file_f n bs ≡ pass_file n bs
unfolding pass_file_f pass_file
file-same n bs = go (read bs) refl
  where
    go : (x : Read) → read bs ≡ x → pass_read_f n x ≡ pass_read n x
    go (bad r) e = refl
    go (script s) e = script-same n s (read_ok bs s e)

-- the whole entry: what a function of the port that meets `entry_f` gives
pub entry-same : (runs words : ℕ) (bytes : List ℕ) (room : ℕ) → entry_f runs words bytes room ≡ entry runs words bytes room
unfolding entry_f entry
entry-same runs words bytes room = ap {B = Entry} (λ (x : Entry). elim (enough runs words) [ false ↦ refusedE 1 | true ↦ x ]) (go (read bytes) refl)
  where
    go : (x : Read) → read bytes ≡ x → entry_read_f runs room x ≡ entry_read runs room x
    go (bad r) e = refl
    go (script s) e = ap (written room s) (script-same runs s (read_ok bytes s e))
