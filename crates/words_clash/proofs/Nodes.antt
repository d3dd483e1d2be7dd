-- Names clash in a tree exactly if they do at some node or in a block among its children. Assumes nothing.
use mathlib.Core.Path.{◌≡◌, refl, sym, ap, ap₂, ◌∙◌}
use mathlib.Core.Bool.{Bool, true, false, ◌||◌, ◌&&◌, not}
use Prim.Native.Nat.{ℕ}
use lib.Dec.{eqb, leb}
use borrow.Author.Tests.{eqb-true}
use Rattle.def_tree.specs.Base.{pick}
use Rattle.def_tree.specs.Tree.{Tree, Forest, node, nil, cons}
use Rattle.def_tree.proofs.Place.{append_f}
use Rattle.def_pass.specs.Twice.{is_function}
use Rattle.def_resolve.specs.Names.{lexical_names_f, var_names_f}
use Rattle.def_resolve.specs.Scopes.{Role, apart, shared, body, role, role_before, Counted, counted, counts, counts_block, clash, clashes, clashes_f, defaults, init_f}
use Rattle.words_clash.specs.declared.Counting.{Counting}
use Rattle.words_clash.specs.declared.Counting.TheVariants.{Function, Statements, Catch, Script, Nothing}
use Rattle.words_clash.specs.Clash.{counting, counts_as, own_clash, block_clash, blocks_clash, apart_f, all_clash, nodes_clash}

or-or : (a b c : Bool) → ((a || b) || c) ≡ (a || (b || c))
or-or true b c = refl
or-or false b c = refl

or-none : (b : Bool) → (b || false) ≡ b
or-none true = refl
or-none false = refl

or-swap : (a b c : Bool) → (a || (b || c)) ≡ (b || (a || c))
or-swap true true c = refl
or-swap true false c = refl
or-swap false b c = refl

across : (a b c d : Bool) → ((a || b) || (c || d)) ≡ ((a || c) || (b || d))
across true b c d = refl
across false b c d = or-swap b c d

-- children one behind another
pub nodes-append : (us ts : Forest) → nodes_clash (append_f us ts) ≡ (nodes_clash us || nodes_clash ts)
nodes-append nil ts = refl
nodes-append (cons u us) ts = ap (λ (b : Bool). all_clash u || b) (nodes-append us ts) ∙ sym (or-or (all_clash u) (nodes_clash us) (nodes_clash ts))

-- what a node counts that is no block
module _ (k f a : ℕ) (ts : Forest) where
  abbrev statement : Counted
  statement = counted (lexical_names_f ts) (var_names_f ts)

  -- by the tests for a function, a loop or a switch, a catch and a script
  abbrev of : Bool → Bool → Bool → Bool → Counting
  of p q r s = elim p as (λ z. Counting) [ true ↦ Function | false ↦ elim q as (λ z. Counting) [ true ↦ Statements | false ↦ elim r as (λ z. Counting) [ true ↦ Catch | false ↦ elim s as (λ z. Counting) [ true ↦ Script | false ↦ Nothing ] ] ] ]

  abbrev counted_by : Bool → Bool → Bool → Bool → Counted
  counted_by p q r s =
      elim p as (λ z. Counted) [
        | true ↦ counts_as Function k f ts
        | false ↦ elim q as (λ z. Counted) [ true ↦ counts_as Statements k f ts | false ↦ elim r as (λ z. Counted) [ true ↦ counts_as Catch k f ts | false ↦ elim s as (λ z. Counted) [ true ↦ counts_as Script k f ts | false ↦ counts_as Nothing k f ts ] ] ]
      ]

  same : (p q r s : Bool) → counts_as (of p q r s) k f ts ≡ counted_by p q r s
  same true q r s = refl
  same false true r s = refl
  same false false true s = refl
  same false false false true = refl
  same false false false false = refl

  abbrev rest : Counted
  rest = counted_by (is_function k) ((leb 12 k && leb k 14) || eqb k 18) (eqb k 17) (eqb k 1)

  own : own_clash (node k f a ts) ≡ clash rest
  own = ap clash (same (is_function k) ((leb 12 k && leb k 14) || eqb k 18) (eqb k 17) (eqb k 1))

  -- a block counts nothing so
  block-own : eqb k 2 ≡ true → own_clash (node k f a ts) ≡ false
  block-own e = ap (λ (c : Counting). clash (counts_as c k f ts)) (ap counting (eqb-true k 2 e))

  -- a node by its role
  by-role : (r : Role) → clash (counts r (node k f a ts)) ≡ ((eqb k 2 && clash (counts_block r ts)) || own_clash (node k f a ts))
  by-role r = go (eqb k 2) refl
    where
      go : (b : Bool) → eqb k 2 ≡ b → clash (elim b as (λ z. Counted) [ true ↦ counts_block r ts | false ↦ rest ]) ≡ ((b && clash (counts_block r ts)) || own_clash (node k f a ts))
      go true e = sym (or-none (clash (counts_block r ts))) ∙ ap (λ (c : Bool). clash (counts_block r ts) || c) (sym (block-own e))
      go false e = sym own

and-none : (b : Bool) → (b && false) ≡ false
and-none true = refl
and-none false = refl

alone : (us : Forest) → role_before apart us ≡ apart
alone nil = refl
alone (cons v vs) = refl

-- the parts of an equation put together: o of the node, b of the blocks, n of the nodes below, x of the node as a block
gather : (x o b n c : Bool) → c ≡ (b || n) → ((x || o) || c) ≡ (x || ((o || b) || n))
gather x o b n c e = ap (λ (d : Bool). (x || o) || d) e ∙ or-or x o (b || n) ∙ ap (λ (d : Bool). x || d) (sym (or-or o b n))

pub record Silent (r : Role) : Type 0 where
  pub counts : (ts : Forest) → clash (counts_block r ts) ≡ false

-- the children of a node, by the role of the last
module _ (k f : ℕ) (ts : Forest) where
  abbrev All : Role → Forest → Type 0
  All r us = clashes_f r ts ≡ (blocks_clash us || nodes_clash ts)

  below : All apart ts → All shared (init_f ts) → All body (init_f ts) → All (role k f ts) (apart_f k f ts)
  below a s b = go (is_function k) (eqb k 17) (defaults k f ts)
    where
      go : (p q d : Bool) → All (pick p (pick d body shared) (pick (q && not d) shared apart)) (pick (p || (q && not d)) (init_f ts) ts)
      go true q true = b
      go true q false = s
      go false true true = a
      go false true false = s
      go false false d = a

in_shared : Silent shared
in_shared = record { counts = λ ts. refl }

in_body : Silent body
in_body = record { counts = λ ts. refl }

mutual
  tree-apart : (t : Tree) → clashes apart t ≡ (block_clash t || all_clash t)
  tree-apart (node k f a ts) =
      ap (λ (b : Bool). b || clashes_f (role k f ts) ts) (by-role k f a ts apart)
      ∙ gather (eqb k 2 && clash (counted (lexical_names_f ts) (var_names_f ts))) (own_clash (node k f a ts)) (blocks_clash (apart_f k f ts)) (nodes_clash ts) (clashes_f (role k f ts) ts) (below k f ts (children ts) (last-children shared in_shared ts) (last-children body in_body ts))

  tree-silent : (r : Role) → Silent r → (t : Tree) → clashes r t ≡ all_clash t
  tree-silent r s (node k f a ts) =
      ap (λ (b : Bool). b || clashes_f (role k f ts) ts) (by-role k f a ts r)
      ∙ gather (eqb k 2 && clash (counts_block r ts)) (own_clash (node k f a ts)) (blocks_clash (apart_f k f ts)) (nodes_clash ts) (clashes_f (role k f ts) ts) (below k f ts (children ts) (last-children shared in_shared ts) (last-children body in_body ts))
      ∙ ap (λ (b : Bool). (eqb k 2 && b) || all_clash (node k f a ts)) (s.counts ts) ∙ ap (λ (b : Bool). b || all_clash (node k f a ts)) (and-none (eqb k 2))

  children : (ts : Forest) → clashes_f apart ts ≡ (blocks_clash ts || nodes_clash ts)
  children nil = refl
  children (cons t ts) = ap₂ (λ (r : Role) (b : Bool). clashes r t || b) (alone ts) (children ts) ∙ ap (λ (b : Bool). b || (blocks_clash ts || nodes_clash ts)) (tree-apart t) ∙ across (block_clash t) (all_clash t) (blocks_clash ts) (nodes_clash ts)

  last-children : (r : Role) → Silent r → (ts : Forest) → clashes_f r ts ≡ (blocks_clash (init_f ts) || nodes_clash ts)
  last-children r s nil = refl
  last-children r s (cons t nil) = ap (λ (b : Bool). b || false) (tree-silent r s t)
  last-children r s (cons t (cons u us)) =
      ap (λ (b : Bool). clashes apart t || b) (last-children r s (cons u us)) ∙ ap (λ (b : Bool). b || (blocks_clash (init_f (cons u us)) || nodes_clash (cons u us))) (tree-apart t)
      ∙ across (block_clash t) (all_clash t) (blocks_clash (init_f (cons u us))) (nodes_clash (cons u us))

pub whole : (t : Tree) → clashes apart t ≡ (block_clash t || nodes_clash (cons t nil))
whole t = tree-apart t ∙ ap (λ (b : Bool). block_clash t || b) (sym (or-none (all_clash t)))
