-- The trees of a readable file's nodes, and how they are laid out. Assumes nothing.
use mathlib.Core.Path.{subst}
use Rattle.std.proofs.Common.{◌≡◌, ℕ, zero, suc, ◌+◌, ◌-◌, ◌%◌, ◌<◌, ◌≤◌, ◌⊎◌, inl, inr, Bool, true, false, ◌&&◌, ◌||◌, eqb, List, [], ◌∷◌, leb, length, map, get_or, drop, length-drop, refl, sym, ap, ◌∙◌, arith}
use Rattle.std.specs.Prelude.{T}
use Rattle.std.proofs.lemmas.Bool.{eqb-true}
use lib.Dec.{leb→le}
use Rattle.def_tree.specs.Base.{pick}
use Rattle.def_tree.specs.Tree.{Tree, Forest, node, nil, cons, length_f, count, counts, Core, no_core, plant}
use Rattle.def_tree.proofs.Whole.{Whole, length-take_f, length-drop_f}
use Rattle.def_tree.proofs.Tests.{and_right}
use Rattle.def_file.specs.declared.Raw.{Raw}
use Rattle.def_file.specs.declared.kind.Kind.TheVariants as Kinds
use Rattle.def_file.specs.declared.kinds.Class.TheVariants.{Root}
use Rattle.def_file.specs.Named.{is_kind}
use Rattle.def_file.specs.Kinds.{row_of, form_ok}
use Rattle.def_file.specs.Script.{zero_node}
use Rattle.def_file.specs.Read.{Place, node_ok, below, fills, nodes_ok}
use Rattle.def_text.specs.Derives.{swapped, headed, arranged, laid, laid_all, is_default}
use Rattle.def_text.specs.Entry.{own_number, print_node}
use Rattle.file_read.specs.declared.header.Header.{Header}
use Rattle.file_read.specs.Load.{Readable}
use Rattle.file_read.proofs.Raws as raws
use Rattle.laws_pass.proofs.All.{get_d-in}
use Rattle.laws_pass.proofs.Again.{Fine, all-fine}
use Rattle.text_table.specs.Put.{default_count}
pub use Rattle.text_parts.proofs.Uses.{number-fine}
use Rattle.text_tokens.specs.Tokens.{script_at, node_of}
use Rattle.words_nodes.specs.Nodes.{tree_from, forest_from}
use Rattle.words_nodes.proofs.Loops.{Open, open-first, forest-first, open_in, open-past}
use Rattle.words_twice.specs.Twice.{Stand}
use Rattle.words_twice.proofs.Places.{tree_is, forest-none, forest-cons, counts-forest, open-stand}
use Rattle.text_choice.specs.Trees.{extra, form_of, lay, lay_first, cores, tree_of, trees_of, kids_of, shown}

-- ---- any trees

-- nothing added
pub lay-none : (t : Tree) → lay 0 t ≡ laid t
lay-none (node k f a ts) = go (is_kind Kinds.VarDecl k)
  where
    go : (b : Bool) → node k (pick b (f + 0) f) a (arranged k f (laid_all ts)) ≡ node k f a (arranged k f (laid_all ts))
    go true = ap (λ (g : ℕ). node k g a (arranged k f (laid_all ts))) (omega arith)
    go false = refl

pub first-none : (ts : Forest) → lay_first 0 ts ≡ laid_all ts
first-none nil = refl
first-none (cons t ts) = ap (λ (u : Tree). cons u (laid_all ts)) (lay-none t)

headed-first : (d : ℕ) (ts : Forest) → headed d (laid_all ts) ≡ lay_first d ts
headed-first d nil = refl
headed-first d (cons (node k f a us) ts) = refl

-- but for kind 11 the first child alone is changed
pub arranged-first : (k f : ℕ) (ts : Forest) → is_kind Kinds.DoWhile k ≡ false → arranged k f (laid_all ts) ≡ lay_first (extra k f) ts
arranged-first k f ts e = go (is_kind Kinds.DoWhile k) (is_kind Kinds.For k && eqb (f % 2) 1) (is_kind Kinds.ForIn k || is_kind Kinds.ForOf k) e
  where
    go : (a b c : Bool) → a ≡ false → pick a (swapped (laid_all ts)) (pick b (headed 3 (laid_all ts)) (pick c (headed 6 (laid_all ts)) (laid_all ts))) ≡ lay_first (pick b 3 (pick c 6 0)) ts
    go true b c e = absurd (cc)
    go false true c e = headed-first 3 ts
    go false false true e = headed-first 6 ts
    go false false false e = sym (first-none ts)

pub arranged-turned : (k f : ℕ) (t u : Tree) → k ≡ 11 → arranged k f (cons t (cons u nil)) ≡ cons u (cons t nil)
arranged-turned k f t u e = ap (λ (j : ℕ). arranged j f (cons t (cons u nil))) e

pub length-laid : (ts : Forest) → length_f (laid_all ts) ≡ length_f ts
length-laid nil = refl
length-laid (cons t ts) = ap suc (length-laid ts)

length-swapped : (ts : Forest) → length_f (swapped ts) ≡ length_f ts
length-swapped nil = refl
length-swapped (cons t nil) = refl
length-swapped (cons t (cons u ts)) = refl

length-headed : (d : ℕ) (ts : Forest) → length_f (headed d ts) ≡ length_f ts
length-headed d nil = refl
length-headed d (cons (node k f a us) ts) = refl

pub length-arranged : (k f : ℕ) (ts : Forest) → length_f (arranged k f ts) ≡ length_f ts
length-arranged k f ts = go (is_kind Kinds.DoWhile k) (is_kind Kinds.For k && eqb (f % 2) 1) (is_kind Kinds.ForIn k || is_kind Kinds.ForOf k)
  where
    go : (a b c : Bool) → length_f (pick a (swapped ts) (pick b (headed 3 ts) (pick c (headed 6 ts) ts))) ≡ length_f ts
    go true b c = length-swapped ts
    go false true c = length-headed 3 ts
    go false false true = length-headed 6 ts
    go false false false = refl

-- a declaration is no default clause
default-form : (k f d : ℕ) → (is_kind Kinds.SwitchCase k && eqb (form_of k f d) 0) ≡ (is_kind Kinds.SwitchCase k && eqb f 0)
default-form k f d = go (is_kind Kinds.VarDecl k) refl
  where
    go : (b : Bool) → is_kind Kinds.VarDecl k ≡ b → (is_kind Kinds.SwitchCase k && eqb (pick b (f + d) f) 0) ≡ (is_kind Kinds.SwitchCase k && eqb f 0)
    go true e = ap (λ (j : ℕ). is_kind Kinds.SwitchCase j && eqb (f + d) 0) (eqb-true k 5 e) ∙ sym (ap (λ (j : ℕ). is_kind Kinds.SwitchCase j && eqb f 0) (eqb-true k 5 e))
    go false e = refl

pub default-lay : (d : ℕ) (t : Tree) → is_default (lay d t) ≡ is_default (laid t)
default-lay d (node k f a ts) = default-form k f d

pub default-laid : (d : ℕ) (ts : Forest) → default_count (lay_first d ts) ≡ default_count (laid_all ts)
default-laid d nil = refl
default-laid d (cons t ts) = ap (λ (b : Bool). pick b (suc (default_count (laid_all ts))) (default_count (laid_all ts))) (default-lay d t)

-- ---- the nodes fill the places, none missing and none left over

abbrev Trees : ℕ → List Core → Type 0
Trees n cs = (length_f (plant cs) ≡ n) × Whole cs

trees-more : (n : ℕ) (c : Core) (cs : List Core) → Trees (c.arity + n) cs → Trees (suc n) (c ∷ cs)
trees-more n c cs h = (ap suc (length-drop_f c.arity (plant cs) ∙ omega (arith, h.0)), (omega (arith, h.0), h.1))

length-below : (n : ℕ) (x : Raw) (i m : ℕ) (ps : List Place) → length (below n x i m ps) ≡ m + length ps
unfolding below
length-below n x i zero ps = omega arith
length-below n x i (suc m) ps = omega (arith, length-below n x (suc i) m ps)

trees-read : (t : ℕ) (ps : List Place) (xs : List Raw) → T (fills t ps xs) → Trees (length ps) (map print_node xs)
unfolding fills
trees-read t [] [] h = (refl, tt)
trees-read t [] (x ∷ xs) h = absurd h
trees-read t (p ∷ ps) [] h = absurd h
trees-read t (p ∷ ps) (x ∷ xs) h = go (node_ok t p x) h (trees-read t (below (p.left - 1) x 0 x.arity ps) xs)
  where
    go : (q : Bool) → T (elim q [ true ↦ fills t (below (p.left - 1) x 0 x.arity ps) xs | false ↦ false ])
        → (T (fills t (below (p.left - 1) x 0 x.arity ps) xs) → Trees (length (below (p.left - 1) x 0 x.arity ps)) (map print_node xs))
        → Trees (suc (length ps)) (print_node x ∷ map print_node xs)
    go true h k = trees-more (length ps) (print_node x) (map print_node xs) (subst (λ (n : ℕ). Trees n (map print_node xs)) (length-below (p.left - 1) x 0 x.arity ps) (k h))
    go false h k = absurd h

length-nodes : (xs : List Raw) → length (map print_node xs) ≡ length xs
length-nodes [] = refl
length-nodes (x ∷ xs) = ap suc (length-nodes xs)

get-nodes : (xs : List Raw) (k : ℕ) → k < length xs → get_or (map print_node xs) k no_core ≡ print_node (get_or xs k zero_node)
get-nodes [] k h = absurd (omega arith)
get-nodes (x ∷ xs) zero h = refl
get-nodes (x ∷ xs) (suc k) h = get-nodes xs k (omega arith)

module _ (bs : List ℕ) (h : Header) (R : Readable bs h.nodes h.texts) where
  both : Trees 1 (cores bs h)
  unfolding nodes_ok
  both = trees-read (length (script_at bs h).texts) (record { class = Root; left = 200 } ∷ []) (script_at bs h).nodes (subst T (sym R.ok) tt)

  pub nodes-length : length (cores bs h) ≡ h.nodes
  nodes-length = length-nodes (script_at bs h).nodes ∙ raws.nodes-length h.nodes _

  pub whole : Whole (cores bs h)
  whole = both.1

  pub one-tree : length_f (plant (cores bs h)) ≡ 1
  one-tree = both.0

  module _ (k : ℕ) (l : k < h.nodes) where
    abbrev x : Raw
    x = node_of bs h k

    inside : k < length (cores bs h)
    inside = omega (arith, nodes-length)

    pub core-at : get_or (cores bs h) k no_core ≡ print_node x
    core-at = get-nodes (script_at bs h).nodes k (omega (arith, raws.nodes-length h.nodes (drop 32 bs)))

    pub tree-node : tree_of bs h k ≡ node x.kind x.form (own_number x) (trees_of bs h x.arity (k + 1))
    tree-node = tree_is (cores bs h) k inside ∙ ap (λ (c : Core). node c.kind c.form c.num (forest_from (cores bs h) c.arity (k + 1))) core-at

    -- it ends among the nodes
    pub tree-in : k + count (tree_of bs h k) ≤ h.nodes
    unfolding forest_from
    tree-in =
        let cs = cores bs h in
        let a : counts (forest_from cs 1 k) ≤ length (drop k cs) = counts-forest (drop k cs) 1 0 in
        omega (arith, a, ap counts (forest-first cs k inside), length-drop k cs, nodes-length)

    kids-open : Open (cores bs h) (k + 1) x.arity
    kids-open = record { trees = omega (arith, (open_in whole (open-first (cores bs h) k inside) (omega arith)).trees, ap (λ (c : Core). c.arity) core-at) }

    pub kids-stand : Stand (cores bs h) (k + 1) x.arity
    kids-stand = open-stand (omega (arith, inside)) kids-open

    -- a node's tree with the form that it has where it stands
    pub laid-shown : (d : ℕ) → lay d (tree_of bs h k) ≡ shown bs h k (form_of x.kind x.form d)
    laid-shown d = ap (lay d) tree-node

    pub kids-laid : is_kind Kinds.DoWhile x.kind ≡ false → kids_of bs h k ≡ lay_first (extra x.kind x.form) (trees_of bs h x.arity (k + 1))
    kids-laid e = arranged-first x.kind x.form (trees_of bs h x.arity (k + 1)) e

    pub kids-two : x.arity ≡ 2 → trees_of bs h x.arity (k + 1) ≡ cons (tree_of bs h (k + 1)) (cons (tree_of bs h (k + 1 + count (tree_of bs h (k + 1)))) nil)
    kids-two e =
        let cs = cores bs h in
        let i = k + 1 + count (tree_of bs h (k + 1)) in
        let o : Open cs (k + 1) 2 = subst (Open cs (k + 1)) e kids-open in
        ap (λ (n : ℕ). forest_from cs n (k + 1)) e ∙ forest-cons whole o (omega arith)
        ∙ ap (cons (tree_from cs (k + 1))) (forest-cons whole (open-past whole o (omega arith)) (omega arith) ∙ ap (cons (tree_from cs i)) (forest-none cs (i + count (tree_from cs i))))

    pub kids-turned : x.kind ≡ 11 → x.arity ≡ 2 → kids_of bs h k ≡ cons (laid (tree_of bs h (k + 1 + count (tree_of bs h (k + 1))))) (cons (laid (tree_of bs h (k + 1))) nil)
    kids-turned e m = ap (λ (ts : Forest). arranged x.kind x.form (laid_all ts)) (kids-two m) ∙ arranged-turned x.kind x.form (laid (tree_of bs h (k + 1))) (laid (tree_of bs h (k + 1 + count (tree_of bs h (k + 1))))) e

    pub length-kids : length_f (kids_of bs h k) ≡ x.arity
    unfolding forest_from
    length-kids = length-arranged x.kind x.form (laid_all (trees_of bs h x.arity (k + 1))) ∙ length-laid (trees_of bs h x.arity (k + 1)) ∙ length-take_f x.arity _ kids-open.trees

    -- by row 6
    pub node-fine : Fine (length (script_at bs h).texts) x
    unfolding nodes_ok
    node-fine = get_d-in (Fine (length (script_at bs h).texts)) (script_at bs h).nodes k zero_node (all-fine (length (script_at bs h).texts) (script_at bs h).nodes (record { class = Root; left = 200 } ∷ []) (subst T (sym R.ok) tt)) (omega (arith, raws.nodes-length h.nodes (drop 32 bs)))

    pub form-few : x.kind ≡ 5 → x.form ≤ 2
    unfolding row_of
    form-few e = leb→le x.form 2 (and_right (leb 0 x.form) (leb x.form 2) (subst (λ (j : ℕ). T (form_ok (row_of j x.form) x.form)) e node-fine.form))

    -- a pattern has form 0
    pub pattern-form : (x.kind ≡ 45) ⊎ (x.kind ≡ 46) → x.form ≡ 0
    unfolding row_of
    pattern-form o =
        let l : T (form_ok (row_of 45 x.form) x.form) = elim o [ inl e ↦ subst (λ (j : ℕ). T (form_ok (row_of j x.form) x.form)) e node-fine.form | inr e ↦ subst (λ (j : ℕ). T (form_ok (row_of j x.form) x.form)) e node-fine.form ] in
        omega (arith, leb→le x.form 0 (and_right (leb 0 x.form) (leb x.form 0) l))
