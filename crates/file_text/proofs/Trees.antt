-- The tree of a script that is read is a script with the trees of its statements, and what is put of these by the rows is its text. Assumes nothing.
use mathlib.Core.Path.{◌≡◌, refl, sym, ap, ◌∙◌, subst}
use mathlib.Core.Bool.{Bool, true, false}
use mathlib.Core.List.{List, [], ◌∷◌, ◌++◌, map}
use Prim.Native.Nat.{ℕ, zero, suc, ◌+◌, ◌-◌}
use native.Mathlib.Omega.{arith}
use lib.Dec.{T, eqb→eq}
use lib.ListN.{length, get_or, drop}
use Rattle.std.proofs.Common.{Option, Some, None}
use Rattle.def_tree.specs.Base.{pick}
use Rattle.def_tree.specs.Tree.{Tree, Forest, node, nil, cons, kids, length_f, take_f, drop_f, plant, first_t}
use Rattle.def_tree.proofs.Whole.{length-take_f, length-drop_f}
use Rattle.def_file.specs.declared.Raw.{Raw}
use Rattle.def_file.specs.declared.kinds.Class.TheVariants.{Root}
use Rattle.def_file.specs.declared.kind.Kind.TheVariants as Kinds
use Rattle.def_file.specs.Named.{is_kind}
use Rattle.def_file.specs.Kinds.{row_of, form_ok, uses_text}
use Rattle.def_file.specs.Script.{zero_node}
use Rattle.def_file.specs.Read.{Place, node_ok, below, fills, nodes_ok}
use Rattle.def_file.proofs.Tested.{Tested, tested, zero_of}
use Rattle.file_read.specs.declared.header.Header.{Header}
use Rattle.file_read.specs.Load.{Readable}
use Rattle.def_text.specs.Words.{Word}
use Rattle.def_text.specs.Derives.{laid_all, tokens, tokens_all}
use Rattle.def_text.specs.Print.{joined, lines, printed, has_text, text}
use Rattle.def_text.specs.Entry.{own_number, print_node, tree}
use Rattle.laws_text.specs.Claims.{pairs_ok, all_pairs_ok}
use Rattle.laws_text.proofs.Basics.{and_right, is_T}
use Rattle.laws_text.proofs.Readable.{pairs-read}
use Rattle.laws_put.proofs.Script.{printed-by-rows}
use Rattle.words_nodes.specs.Nodes.{forest_from}
use Rattle.text_table.specs.Put.{items, put_all}
use Rattle.text_tokens.specs.Tokens.{script_at, node_of}
use Rattle.text_choice.specs.Trees.{spelled}
use Rattle.text_walk.specs.Walk.{lines_of, put_script, statements}

-- the nodes fill so many places
length-below : (n : ℕ) (x : Raw) (i m : ℕ) (ps : List Place) → length (below n x i m ps) ≡ m + length ps
unfolding below
length-below n x i zero ps = omega arith
length-below n x i (suc m) ps = ap suc (length-below n x (suc i) m ps) ∙ omega arith

trees-fill : (t : ℕ) (ps : List Place) (xs : List Raw) → T (fills t ps xs) → length_f (plant (map print_node xs)) ≡ length ps
unfolding fills
trees-fill t [] [] h = refl
trees-fill t [] (x ∷ xs) h = absurd h
trees-fill t (p ∷ ps) [] h = absurd h
trees-fill t (p ∷ ps) (x ∷ xs) h = ap suc (go (node_ok t p x) h (λ q. trees-fill t (below (p.left - 1) x 0 x.arity ps) xs q))
  where
    go : (b : Bool) → T (elim b [ true ↦ fills t (below (p.left - 1) x 0 x.arity ps) xs | false ↦ false ])
        → (T (fills t (below (p.left - 1) x 0 x.arity ps) xs) → length_f (plant (map print_node xs)) ≡ length (below (p.left - 1) x 0 x.arity ps)) → length_f (drop_f x.arity (plant (map print_node xs))) ≡ length ps
    go false h ih = absurd h
    go true h ih =
        let e = ih h ∙ length-below (p.left - 1) x 0 x.arity ps in
        length-drop_f x.arity (plant (map print_node xs)) ∙ omega (arith, e)

-- refusal 6 of kind 1
root-form : (f : ℕ) → T (form_ok (row_of 1 f) f) → f ≡ 0
unfolding row_of
root-form f h = zero_of f h

-- the first node's tree
pub record Rooted (xs : List Raw) : Type 0 where
  pub is : first_t (plant (map print_node xs)) ≡ node 1 0 0 (take_f (get_or xs 0 zero_node).arity (plant (drop 1 (map print_node xs))))
  pub long : length_f (take_f (get_or xs 0 zero_node).arity (plant (drop 1 (map print_node xs)))) ≡ (get_or xs 0 zero_node).arity

abbrev place : Place
place = record { class = Root; left = 200 }

rooted : (t : ℕ) (xs : List Raw) → T (fills t (place ∷ []) xs) → Rooted xs
unfolding fills
rooted t [] h = absurd h
rooted t (x ∷ xs) h = go (node_ok t place x) refl h
  where
    go : (b : Bool) → node_ok t place x ≡ b → T (elim b [ true ↦ fills t (below 199 x 0 x.arity []) xs | false ↦ false ]) → Rooted (x ∷ xs)
    go false e h = absurd h
    go true e h =
        let k : Tested t place x = tested t place x (is_T (node_ok t place x) e) in
        let q : x.kind ≡ 1 = eqb→eq x.kind 1 k.allowed in
        let f : x.form ≡ 0 = root-form x.form (subst (λ (j : ℕ). T (form_ok (row_of j x.form) x.form)) q k.form) in
        let a : own_number x ≡ 0 = ap (λ (j : ℕ). pick (uses_text j) x.text (pick (is_kind Kinds.Number j) x.bits 0)) q in
        let ts : Forest = take_f x.arity (plant (map print_node xs)) in
        let l : length_f (plant (map print_node xs)) ≡ x.arity + 0 = trees-fill t (below 199 x 0 x.arity []) xs h ∙ length-below 199 x 0 x.arity [] in
        record {
          is = ap (λ (j : ℕ). node j x.form (own_number x) ts) q ∙ ap (λ (j : ℕ). node 1 j (own_number x) ts) f ∙ ap (λ (j : ℕ). node 1 0 j ts) a;
          long = length-take_f x.arity (plant (map print_node xs)) (omega (arith, l));
        }

-- the bytes of lines
lines-are : (spell : ℕ → ℕ → Word) (ts : Forest) → lines_of (tokens_all spell ts) ≡ lines spell ts
lines-are spell nil = refl
lines-are spell (cons t ts) = ap (λ (bs : List ℕ). joined (tokens spell t) ++ (10 ∷ bs)) (lines-are spell ts)

module _ (bs : List ℕ) (h : Header) (R : Readable bs h.nodes h.texts) where
  root : Rooted (script_at bs h).nodes
  unfolding nodes_ok
  root = rooted (length (script_at bs h).texts) (script_at bs h).nodes (is_T (nodes_ok (script_at bs h)) R.ok)

  tree-is : tree (script_at bs h) ≡ node 1 0 0 (statements bs h)
  unfolding tree forest_from
  tree-is = root.is

  count-is : length_f (statements bs h) ≡ (node_of bs h 0).arity
  unfolding forest_from
  count-is = root.long

  pairs : T (all_pairs_ok (statements bs h))
  pairs = subst (λ (t : Tree). T (all_pairs_ok (kids t))) tree-is (only (tree (script_at bs h)) (pairs-read (script_at bs h) (is_T (nodes_ok (script_at bs h)) R.ok)))
    where
      only : (t : Tree) → T (pairs_ok t) → T (all_pairs_ok (kids t))
      only (node k f a ts) h = and_right _ (all_pairs_ok ts) h

  -- what is put is the text's, or there is none
  pub put-is : put_script bs h ≡ elim (has_text (spelled bs h) (tree (script_at bs h))) [ true ↦ Some (tokens_all (spelled bs h) (kids (printed (spelled bs h) (tree (script_at bs h))))) | false ↦ None ]
  put-is =
      ap (λ (n : ℕ). put_all (spelled bs h) (laid_all (statements bs h)) (items n)) (sym count-is) ∙ printed-by-rows (spelled bs h) (statements bs h) pairs
      ∙ ap (λ (t : Tree). elim (has_text (spelled bs h) t) as (λ b. Option (List (List Word))) [ true ↦ Some (tokens_all (spelled bs h) (kids (printed (spelled bs h) t))) | false ↦ None ]) (sym tree-is)

  -- the text's bytes
  pub text-is : (ls : List (List Word)) → put_script bs h ≡ Some ls → (has_text (spelled bs h) (tree (script_at bs h)) ≡ true) × (lines_of ls ≡ text (spelled bs h) (tree (script_at bs h)))
  text-is ls e = go (has_text (spelled bs h) (tree (script_at bs h))) (sym put-is ∙ e)
    where
      us : Forest
      us = kids (printed (spelled bs h) (tree (script_at bs h)))

      go : (b : Bool) → elim b as (λ b. Option (List (List Word))) [ true ↦ Some (tokens_all (spelled bs h) us) | false ↦ None ] ≡ Some ls → (b ≡ true) × (lines_of ls ≡ lines (spelled bs h) us)
      go true q = let z : tokens_all (spelled bs h) us ≡ ls = cc in (refl, ap lines_of (sym z) ∙ lines-are (spelled bs h) us)
      go false q = let z : ⊥ = cc in absurd z

  pub no-text : put_script bs h ≡ None → has_text (spelled bs h) (tree (script_at bs h)) ≡ false
  no-text e = go (has_text (spelled bs h) (tree (script_at bs h))) (sym put-is ∙ e)
    where
      us : Forest
      us = kids (printed (spelled bs h) (tree (script_at bs h)))

      go : (b : Bool) → elim b as (λ b. Option (List (List Word))) [ true ↦ Some (tokens_all (spelled bs h) us) | false ↦ None ] ≡ None → b ≡ false
      go false q = refl
      go true q = let z : ⊥ = cc in absurd z
