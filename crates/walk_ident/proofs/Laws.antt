-- Contracts in the terms of the walk on the list: what the words stand for after a step, and a replacement with its rows. Assumes nothing.
use mathlib.Core.Path.{ap₂}
use Rattle.std.proofs.Common.{◌≡◌, Ok, Err, ℕ, ◌+◌, ◌-◌, ◌%◌, ◌<◌, ◌≤◌, Bool, true, false, not, List, length, get_or, take, drop, sym, refl, ap, ◌∙◌, subst, arith, length-append, length-drop, length-take-le}
use Rattle.def_tree.specs.Tree.{Tree, kind, form, num, Core, count, flat}
use Rattle.def_tree.specs.Combine.{Res, stop, done, Nothing, and_then, Flat, on_rest}
use Rattle.def_tree.proofs.Whole as whole
use Rattle.def_pass.specs.Scope.{Stack, change, count_one, wrap}
use Rattle.def_pass.specs.Walk.{St, when, modify, set_stack, set_nodes, set_changed, set_replaced, tally, same_ident}
use Rattle.words.specs.Layout.{node_of, tree}
use Rattle.words.proofs.Nodes.{tree-length, tree-at}
use Rattle.words_scopes.specs.State.{Becomes, stack}
use Rattle.words_nodes.specs.Nodes.{Planted, tree_from, put_at, Swapped}
use Rattle.refusal.specs.declared.Refusal.{Refusal}
use Rattle.refusal.specs.Number.{number}
use Rattle.refusal.proofs.Rows.{number-some}
use Rattle.words_nodes.proofs.Trees.{tree-at-is, behind-le, length-flat}
use Rattle.words_nodes.proofs.Words.{tree-whole}
use Rattle.words_nodes.proofs.Walks.{swap-stop, swap-done}
use Rattle.words_state.specs.State.{rest, abs, Acts, Turns}
use Rattle.words_state.proofs.Fields.{becomes-rest, becomes-turns, count_kept, ok-self, ok-then, replants-ok, replants-rest}
use Rattle.scope.specs.Steps.{Did}
use Rattle.walk_ident.specs.Steps.{Note, quiet, changes, counts, noted, counts_if, swap_f, value_f}

-- a state, part by part
pub flat-eq : {xs ys : List Core} {s t : St} → xs ≡ ys → s ≡ t → ◌≡◌ {A = Flat St} (record { nodes = xs; rest = s }) (record { nodes = ys; rest = t })
flat-eq p q = cc

pub turns-abs : {w u : List ℕ} {s : St} → Turns w u s → abs u ≡ record { nodes = tree w; rest = s }
turns-abs t = flat-eq t.nodes t.is

pub becomes-abs : {w u : List ℕ} {st : Stack} → Planted w → Becomes w u st → abs u ≡ record { nodes = tree w; rest = set_stack st (rest w) }
becomes-abs P b = flat-eq b.tree (becomes-rest P (count_kept b) b)

-- steps of the visitor one after the other
pub turns-self : {w : List ℕ} → Planted w → Turns w w (rest w)
turns-self P = record { ok = ok-self P; nodes = refl; is = refl }

pub then_turns : {w v u : List ℕ} {s : St} (f : St → St) → Turns w v s → Turns v u (f (rest v)) → Turns w u (f s)
then_turns f a t = record { ok = ok-then a.ok t.ok; nodes = t.nodes ∙ a.nodes; is = t.is ∙ ap f a.is }

-- a change marked, and a replacement counted at a binding and in all
pub counted-turns : {w w₁ w₂ w₃ : List ℕ} (x v : ℕ) → Turns w w₁ (set_changed true (rest w)) → length w₂ ≡ length w₁ → Becomes w₁ w₂ (change x count_one (stack w₁)) → v ≡ (get_or w₂ 13 0 + 1) % 4294967296 → Turns w₂ w₃ (set_replaced v (rest w₂))
    → Turns w w₃ (tally x (set_changed true (rest w)))
unfolding rest
counted-turns {w} {w₁} {w₂} {w₃} x v a z b e t =
    let d : Turns w w₂ (set_stack (change x count_one (rest w).stack) (set_changed true (rest w))) = then_turns (λ s. set_stack (change x count_one s.stack) s) a (becomes-turns a.ok.planted z b) in
    let q : v ≡ wrap (get_or w 13 0 + 1) = e ∙ ap (λ (m : ℕ). wrap (m + 1)) (ap (λ (s : St). s.replaced) d.is) in
    subst (λ (m : ℕ). Turns w w₃ (set_replaced m (set_stack (change x count_one (rest w).stack) (set_changed true (rest w))))) q (then_turns (set_replaced v) d t)

-- a step's answer, by its result
pub acts-done : (u : List ℕ) {r : Res (Flat St) Nothing} {st : Flat St} → r ≡ done st tt → abs u ≡ st → Acts u 0 r
acts-done u e q = rw e (refl, q)

pub acts-stop : (u : List ℕ) {r : Res (Flat St) Nothing} (e : Refusal) → r ≡ stop (number e) → Acts u (number e) r
acts-stop u e q = rw q (refl, number-some e)

-- the node at i, as the first of its tree
module _ (w : List ℕ) (i : ℕ) (l : i < get_or w 0 0) where
  abbrev st : Flat (Unit {0})
  st = record { nodes = tree w; rest = tt }

  inside : i < length (tree w)
  inside = rw tree-length l

  pub tree-kind : kind (tree_from (tree w) i) ≡ (node_of w i).kind
  tree-kind = sym (ap kind (tree-at-is st i)) ∙ whole.kind_at st i inside ∙ ap (λ (c : Core). c.kind) (tree-at w i l)

  pub tree-form : form (tree_from (tree w) i) ≡ (node_of w i).form
  tree-form = sym (ap form (tree-at-is st i)) ∙ whole.form-at st i inside ∙ ap (λ (c : Core). c.form) (tree-at w i l)

  pub tree-num : num (tree_from (tree w) i) ≡ (node_of w i).num
  tree-num = sym (ap num (tree-at-is st i)) ∙ whole.num-at st i inside ∙ ap (λ (c : Core). c.num) (tree-at w i l)

-- another tree in the place of that at i
put-length : (xs : List Core) (i : ℕ) (e : Tree) → i + count (tree_from xs i) ≤ length xs → length (put_at xs i e) ≡ length xs + count e - count (tree_from xs i)
unfolding put_at
put-length xs i e h =
    length-append (take i xs) (flat e (drop (i + count (tree_from xs i)) xs))
    ∙ omega (arith, length-take-le i xs (omega arith), length-flat e (drop (i + count (tree_from xs i)) xs), length-drop (i + count (tree_from xs i)) xs)

-- the visitor's own count
pub rest-nodes : (w : List ℕ) → (rest w).nodes ≡ get_or w 0 0
unfolding rest
rest-nodes w = refl

-- by its rows, from any visitor that counts the nodes
module _ (w u : List ℕ) (p i : ℕ) (e : Tree) (s : St) (z : s.nodes ≡ get_or w 0 0) where
  abbrev before : Flat St
  before = record { nodes = tree w; rest = s }

  pub swap-refused : (r : Refusal) → Swapped (Err r) w u p i e → swap_f p e i before ≡ stop (number r)
  swap-refused r h = swap-stop before p i e (number r) (number-some r) (rw z h.0)

  pub swap-made : Planted w → i < get_or w 0 0 → Swapped (Ok tt) w u p i e → swap_f p e i before ≡ done (record { nodes = tree u; rest = set_nodes (get_or u 0 0) s }) (i + count e)
  swap-made P l h =
      let n : s.nodes + count e - count (tree_from (tree w) i) ≡ get_or u 0 0 =
      rw (z, ← (tree-length w)) (sym (put-length (tree w) i e (behind-le (tree w) i (rw tree-length l) (tree-whole P))) ∙ sym (ap length h.1.is) ∙ tree-length u) in
      swap-done before p i e (rw z h.0) ∙ ap (λ (st : Flat St). done st (i + count e)) (flat-eq (sym h.1.is) (ap (λ (k : ℕ). set_nodes k s) n))

-- and then the note: f is the replacement from a visitor that has it
module _ (w v : List ℕ) (p i : ℕ) (e : Tree) (P : Planted w) (l : i < get_or w 0 0) (note : Note) {f : Res (Flat St) ℕ} (q : f ≡ swap_f p e i (record { nodes = tree w; rest = noted note (rest w) })) where
  count-is : (noted note (rest w)).nodes ≡ get_or w 0 0
  count-is = go note ∙ rest-nodes w
    where
      go : (b : Note) → (noted b (rest w)).nodes ≡ (rest w).nodes
      go quiet = refl
      go changes = refl
      go (counts x) = refl

  pub goes-stop : (r : Refusal) → Swapped (Err r) w v p i e → Did w v (Err r) f
  goes-stop r h = record { ok = rw h.1 (ok-self P); is = q ∙ swap-refused w v p i e (noted note (rest w)) count-is r h }

  pub goes_on : {u : List ℕ} {j : ℕ} → Swapped (Ok tt) w v p i e → Turns v u (noted note (rest v)) → j ≡ i + count e → Did w u (Ok j) f
  goes_on {u} {j} h t n =
      let r : rest v ≡ set_nodes (get_or v 0 0) (rest w) = replants-rest h.1 ∙ ap (λ (k : ℕ). set_nodes k (rest w)) (sym (ap length h.1.is) ∙ tree-length v) in
      let s : abs u ≡ record { nodes = tree v; rest = set_nodes (get_or v 0 0) (noted note (rest w)) } = turns-abs t ∙ flat-eq refl (ap (noted note) r ∙ late note) in
      record {
        ok = ok-then (replants-ok h.1) t.ok;
        is = q ∙ swap-made w v p i e (noted note (rest w)) count-is P l h ∙ ap₂ {C = Res (Flat St) ℕ} done (sym s) (sym n);
      }
    where
      late : (b : Note) → noted b (set_nodes (get_or v 0 0) (rest w)) ≡ set_nodes (get_or v 0 0) (noted b (rest w))
      late quiet = refl
      late changes = refl
      late (counts x) = refl

-- a value, with the mark of a change and counted unless it is the same identifier
module _ (w : List ℕ) (p i : ℕ) (e : Tree) where
  abbrev marked : Bool → ℕ → Res (Flat St) ℕ
  marked b x = and_then (on_rest (when (not b) (modify (λ s. tally x (set_changed true s)))) (abs w)) (λ a. swap_f p e i)

  by-mark : (b : Bool) (x : ℕ) → marked b x ≡ swap_f p e i (record { nodes = tree w; rest = noted (counts_if (not b) x) (rest w) })
  by-mark true x = refl
  by-mark false x = refl

  pub value-is : (b : Bool) (x : ℕ) → b ≡ same_ident (tree_from (tree w) i) e → x ≡ num (tree_from (tree w) i) → value_f p e i (abs w) ≡ swap_f p e i (record { nodes = tree w; rest = noted (counts_if (not b) x) (rest w) })
  value-is b x q n = ap (λ (t : Tree). marked (same_ident t e) (num t)) (tree-at-is (abs w) i) ∙ ap (λ (c : Bool). marked c (num (tree_from (tree w) i))) (sym q) ∙ ap (marked b) (sym n) ∙ by-mark b x
