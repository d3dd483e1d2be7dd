-- What is written before the walk of an assignment's value. Assumes nothing.
use mathlib.Core.Path.{◌≡◌, refl, sym, ap, ◌∙◌}
use mathlib.Core.List.{List, [], ◌∷◌, ◌++◌, append_assoc}
use mathlib.Core.Bool.{Bool, true, false, ◌||◌}
use Prim.Native.Nat.{ℕ, ◌+◌, ◌-◌, ◌≤◌, ◌<◌}
use native.Mathlib.Omega.{arith}
use lib.Dec.{eqb}
use lib.ListN.{get_or, drop}
use borrow.Author.Tests.{eq-eqb, ne_eqb}
use Rattle.def_tree.specs.Tree.{Tree, Forest, node, nil, cons, length_f, Core, no_core, take_f, drop_f, plant}
use Rattle.def_tree.specs.Combine.{Res, stop, done, Nothing, M, and_then, iff, ◌>>◌, forest_at, act_f}
use Rattle.def_pass.specs.Tree.{is_member, ident_list, ident_list_f}
use Rattle.def_pass.specs.Walk.{St, when, write, writes, write_tree, write_forest, assign_first}
use Rattle.words.specs.Layout.{tree, node_of}
use Rattle.words_nodes.specs.Nodes.{Planted, forest_from}
use Rattle.words_nodes.proofs.Loops.{Open, forest-here}
use Rattle.words_nodes.proofs.Words.{tree-whole, node-here}
use Rattle.words_state.specs.State.{rest, abs, Act}
use Rattle.walk_write.proofs.Steps.{Step, step-act, act-step, step-as, step-none, step_then, step-stop, step-tree}

-- names of a tree before others
mutual
  names-tail : (t : Tree) (r : List Tree) → ident_list t r ≡ ident_list t [] ++ r
  names-tail (node k f a ts) r = go (ident_list_f ts r) (names-tails ts r) (eqb k 20 || eqb k 21)
    where
      go : (l : List Tree) → l ≡ ident_list_f ts [] ++ r → (p : Bool) → elim p [ true ↦ node k f a nil ∷ r | false ↦ l ] ≡ elim p [ true ↦ node k f a nil ∷ [] | false ↦ ident_list_f ts [] ] ++ r
      go l e true = refl
      go l e false = e

  names-tails : (ts : Forest) (r : List Tree) → ident_list_f ts r ≡ ident_list_f ts [] ++ r
  names-tails nil r = refl
  names-tails (cons t ts) r = names-tail t (ident_list_f ts r) ∙ ap (λ (l : List Tree). ident_list t [] ++ l) (names-tails ts r) ∙ sym (append_assoc (ident_list t []) (ident_list_f ts []) r) ∙ ap (λ (l : List Tree). l ++ r) (sym (names-tail t (ident_list_f ts [])))

-- one after the other
then-then : (r : Res St Nothing) (k l : M St Nothing) → and_then (and_then r (λ a. k)) (λ a. l) ≡ and_then r (λ a s. and_then (k s) (λ b. l))
then-then (stop n) k l = refl
then-then (done s a) k l = refl

writes-append : (force : Bool) (ts us : List Tree) (s : St) → writes force (ts ++ us) s ≡ and_then (writes force ts s) (λ a. writes force us)
unfolding writes
writes-append force [] us s = refl
writes-append force (t ∷ ts) us s = go (λ s₁. writes-append force ts us s₁) (write force t s)
  where
    go : ((s₁ : St) → writes force (ts ++ us) s₁ ≡ and_then (writes force ts s₁) (λ a. writes force us)) → (r : Res St Nothing) → and_then r (λ a. writes force (ts ++ us)) ≡ and_then (and_then r (λ a. writes force ts)) (λ a. writes force us)
    go h (stop n) = refl
    go h (done s₁ a) = h s₁

-- a tree and others
both : (force : Bool) (l : Tree) (rs : Forest) (s : St) → (write_tree force l >> write_forest force rs) s ≡ write_forest force (cons l rs) s
unfolding write_tree write_forest
both force l rs s = sym (ap (λ (ts : List Tree). writes force ts s) (names-tail l (ident_list_f rs [])) ∙ writes-append force (ident_list l []) (ident_list_f rs []) s)

-- an assignment of form f to l
module _ (f : ℕ) (l : Tree) (rs : Forest) where
  abbrev ts : Forest
  ts = cons l rs

  abbrev more : M St Nothing
  more = when (is_member l) (write_tree true l >> write_forest true rs)

  first-forced : (f ≡ 0 → ⊥) → (s : St) → write_forest true ts s ≡ assign_first f ts s
  unfolding assign_first
  first-forced h s = sym (ap (λ (p : Bool). iff p (write_tree false l >> (write_forest false rs >> more)) (write_tree true l >> write_forest true rs) s) (ne_eqb f 0 h) ∙ both true l rs s)

  first_plain : f ≡ 0 → (s : St) → and_then (write_forest false ts s) (λ a. more) ≡ assign_first f ts s
  unfolding assign_first
  first_plain e s =
      sym (ap (λ (p : Bool). iff p (write_tree false l >> (write_forest false rs >> more)) (write_tree true l >> write_forest true rs) s) (eq-eqb f 0 e)
      ∙ sym (then-then (write_tree false l s) (write_forest false rs) more) ∙ ap (λ (r : Res St Nothing). and_then r (λ a. more)) (both false l rs s))

  more_no : is_member l ≡ false → (s : St) → done s tt ≡ more s
  more_no e s = sym (ap (λ (p : Bool). when p (write_tree true l >> write_forest true rs) s) e)

  more_yes : is_member l ≡ true → (s : St) → write_forest true ts s ≡ more s
  more_yes e s = sym (ap (λ (p : Bool). when p (write_tree true l >> write_forest true rs) s) e ∙ both true l rs s)

-- n trees from i on
module _ {w : List ℕ} (g : Planted w) (f n i : ℕ) where
  pub first-none : n ≡ 0 → Act w w 0 (act_f (assign_first f) n i (abs w))
  unfolding assign_first forest_at
  first-none z = rw z (step-act (assign_first f nil) (step-none g))

  module _ (o : n ≤ length_f (plant (drop i (tree w)))) (h : n ≡ 0 → ⊥) where
    still : Open (tree w) i n
    still = record { trees = o }

    abbrev c : Core
    c = get_or (tree w) i no_core

    abbrev l : Tree
    l = node c.kind c.form c.num (take_f c.arity (plant (drop (i + 1) (tree w))))

    abbrev rs : Forest
    rs = take_f (n - 1) (drop_f c.arity (plant (drop (i + 1) (tree w))))

    trees-are : forest_at (abs w) n i ≡ cons l rs
    unfolding forest_at forest_from
    trees-are = forest-here (tree-whole g) still (omega (arith, h))

    member_is : {m : Bool} → (eqb (node_of w i).kind 37 || eqb (node_of w i).kind 38) ≡ m → is_member l ≡ m
    member_is e = sym (ap (λ (x : Core). eqb x.kind 37 || eqb x.kind 38) (node-here g still (omega (arith, h)))) ∙ e

    -- by what the forest is
    of-trees : {u : List ℕ} {r : ℕ} (m : Forest → M St Nothing) → Act w u r (act_f m n i (abs w)) → Step w u r (m (cons l rs) (rest w))
    of-trees m a = rw trees-are at (act-step (m (forest_at (abs w) n i)) a)

    to-trees : {u : List ℕ} {r : ℕ} (m : Forest → M St Nothing) → Step w u r (m (cons l rs) (rest w)) → Act w u r (act_f m n i (abs w))
    to-trees m d = step-act (m (forest_at (abs w) n i)) (rw trees-are d)

    pub first-always : {u : List ℕ} {r : ℕ} → (f ≡ 0 → ⊥) → Act w u r (act_f (write_forest true) n i (abs w)) → Act w u r (act_f (assign_first f) n i (abs w))
    first-always e a = to-trees (assign_first f) (step-as (first-forced f l rs e (rest w)) (of-trees (write_forest true) a))

    module _ {u : List ℕ} {r : ℕ} (e : f ≡ 0) (a : Act w u r (act_f (write_forest false) n i (abs w))) where
      first : Step w u r (write_forest false (cons l rs) (rest w))
      first = of-trees (write_forest false) a

      plain : {v : List ℕ} {m : ℕ} → Step w v m (and_then (write_forest false (cons l rs) (rest w)) (λ x. more f l rs)) → Act w v m (act_f (assign_first f) n i (abs w))
      plain d = to-trees (assign_first f) (step-as (first_plain f l rs e (rest w)) d)

      pub first-stop : 0 < r → Act w u r (act_f (assign_first f) n i (abs w))
      first-stop z = plain (step-stop (more f l rs) first z)

      pub first-once : r ≡ 0 → (eqb (node_of w i).kind 37 || eqb (node_of w i).kind 38) ≡ false → Act w u 0 (act_f (assign_first f) n i (abs w))
      first-once z y = plain (step_then (more f l rs) first z (step-as (more_no f l rs (member_is y) (rest u)) (step-none a.ok.planted)))

      pub first-again : {v : List ℕ} {m : ℕ} → r ≡ 0 → (eqb (node_of w i).kind 37 || eqb (node_of w i).kind 38) ≡ true → Act u v m (act_f (write_forest true) n i (abs u)) → Act w v m (act_f (assign_first f) n i (abs w))
      unfolding forest_at
      first-again {v} {m} z e b =
          let t : tree u ≡ tree w = step-tree (more f l rs) first z in
          let d : Step u v m (write_forest true (take_f n (plant (drop i (tree u)))) (rest u)) = act-step (write_forest true (forest_at (abs u) n i)) b in
          let q : take_f n (plant (drop i (tree u))) ≡ cons l rs = ap (λ (xs : List Core). take_f n (plant (drop i xs))) t ∙ trees-are in
          plain (step_then (more f l rs) first z (step-as (ap (λ (us : Forest). write_forest true us (rest u)) q ∙ more_yes f l rs (member_is e) (rest u)) d))
