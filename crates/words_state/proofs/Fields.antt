-- A visitor's field stored, and what the words stand for then. Assumes nothing.
use mathlib.Core.Path.{◌≡◌, refl, sym, ap, ◌∙◌}
use mathlib.Core.List.{List}
use Prim.Native.Nat.{ℕ, ◌≤◌, ◌<◌}
use native.Mathlib.Omega.{arith}
use lib.ListN.{length, get_or, set, length-set}
use lib.Seq.{get_or-set_same, get_or-set_other}
use Rattle.words.specs.Layout.{yes, tree}
use Rattle.words.proofs.Nodes.{tree-same, tree-length, beyond-same}
use mathlib.Core.Bool.{Bool}
use mathlib.Core.Logic.{⊎_elim}
use lib.Dec.{eqb}
use borrow.Author.Tests.{eq-eqb, ne_eqb}
use Rattle.def_tree.specs.Base.{pick}
use Rattle.words.specs.Tab.{same_or_not}
use Rattle.def_tree.specs.Tree.{Core}
use Rattle.def_pass.specs.Scope.{Stack, VarType}
use Rattle.def_pass.specs.Walk.{St, PatMode, set_stack, set_nodes}
use Rattle.words_scopes.specs.State.{Becomes, stack, var_type_of, targeted}
use Rattle.words_scopes.proofs.Words.{targeted-same}
use Rattle.words_nodes.specs.Nodes.{Planted, Replants}
use Rattle.words_nodes.proofs.Apart.{Beside, beside-stack, beside-good, becomes-planted}
use Rattle.words_state.specs.State.{mode_of, rest, Ok, Turns}

-- a visitor, field by field
pub st-eq : {a a' : Stack} {b b' c c' d d' g g' : Bool} {e e' : VarType} {f f' : PatMode} {h h' i i' : ℕ} {k k' : ℕ → Bool} {m m' n n' : ℕ} → a ≡ a' → b ≡ b' → c ≡ c' → d ≡ d' → e ≡ e' → f ≡ f' → g ≡ g' → h ≡ h' → i ≡ i' → k ≡ k' → m ≡ m' → n ≡ n'
    → ◌≡◌ {A = St} (record { stack = a; changed = b; inlining = c; is_first_run = d; var_decl_kind = e; pat_mode = f; in_test = g; conds = h; nodes = i; targeted = k; ended = m; replaced = n })
    (record { stack = a'; changed = b'; inlining = c'; is_first_run = d'; var_decl_kind = e'; pat_mode = f'; in_test = g'; conds = h'; nodes = i'; targeted = k'; ended = m'; replaced = n' })
st-eq p q r s t u v x y z b c = cc

-- the state by its words 0 and 5 to 13
abbrev pub rest_by : (ℕ → ℕ) → Stack → (ℕ → Bool) → St
rest_by f st tg = record {
  stack = st;
  changed = yes (f 5);
  inlining = yes (f 6);
  is_first_run = yes (f 7);
  var_decl_kind = var_type_of (f 8);
  pat_mode = mode_of (f 9);
  in_test = yes (f 10);
  conds = f 11;
  nodes = f 0;
  targeted = tg;
  ended = f 12;
  replaced = f 13;
}

-- one word of 5 to 13 stored
module _ (w : List ℕ) (P : Planted w) (k v : ℕ) (lo : 5 ≤ k) (hi : k ≤ 13) where
  abbrev w' : List ℕ
  w' = set w k v

  other : (j : ℕ) → (j ≡ k → ⊥) → get_or w' j 0 ≡ get_or w j 0
  other j e = get_or-set_other w k j v 0 e

  word : (j : ℕ) → get_or w' j 0 ≡ pick (eqb j k) v (get_or w j 0)
  word j = ⊎_elim
      (λ (e : j ≡ k). rw (e, eq-eqb k k refl) (get_or-set_same w k v 0 (omega (arith, P.good.long))))
      (λ (d : j ≡ k → ⊥). rw (ne_eqb j k d) (other j d))
      (same_or_not j k)

  beside : Beside w w'
  beside = record { size = simp length-set; counts = λ j l h. other j (λ e. omega (arith, e)); high = λ j l. other j (λ e. omega (arith, e)) }

  field-tree : tree w' ≡ tree w
  field-tree = tree-same w w' P.good.nodes (other 0 (λ e. omega (arith, e))) (λ j l h. other j (λ e. omega (arith, e)))

  field-ok : Ok w w'
  field-ok = record {
    planted = record { good = beside-good P.good beside (rw (other 0 (λ e. omega (arith, e))) P.good.nodes) (rw field-tree P.good.names); one = rw field-tree P.one };
    size = simp length-set;
    idents = other 4 (λ e. omega (arith, e));
    reserved = λ j l h. other j (λ e. omega (arith, e));
    high = λ j l h. other j (λ e. omega (arith, e));
    rest = beyond-same w w' (simp length-set) (λ j l. other j (λ e. omega (arith, e)));
  }

  field-rest : rest w' ≡ rest_by (λ j. pick (eqb j k) v (get_or w j 0)) (stack w) (targeted w)
  unfolding rest
  field-rest = st-eq (beside-stack P.good beside) (ap yes (word 5)) (ap yes (word 6)) (ap yes (word 7)) (ap var_type_of (word 8)) (ap mode_of (word 9)) (ap yes (word 10)) (word 11) (word 0) (targeted-same w w' (λ j l h. other j (λ e. omega (arith, e)))) (word 12) (word 13)

  -- the step: the word's own field is changed, and no other
  pub field-turns : {s : St} → rest_by (λ j. pick (eqb j k) v (get_or w j 0)) (stack w) (targeted w) ≡ s → Turns w (set w k v) s
  field-turns e = record { ok = field-ok; nodes = field-tree; is = field-rest ∙ e }

-- the scopes became st, and nothing else changed
pub becomes-rest : {w u : List ℕ} {st : Stack} → Planted w → get_or u 0 0 ≡ get_or w 0 0 → Becomes w u st → rest u ≡ set_stack st (rest w)
unfolding rest
becomes-rest {w} {u} g n b = (let o : (j : ℕ) → 4 ≤ j → j < 16 → get_or u j 0 ≡ get_or w j 0 = b.others.low in
    st-eq b.is (ap yes (o 5 (omega arith) (omega arith))) (ap yes (o 6 (omega arith) (omega arith))) (ap yes (o 7 (omega arith) (omega arith))) (ap var_type_of (o 8 (omega arith) (omega arith))) (ap mode_of (o 9 (omega arith) (omega arith))) (ap yes (o 10 (omega arith) (omega arith))) (o 11 (omega arith) (omega arith)) n (targeted-same w u (λ j l h. b.others.high j (omega arith) (omega arith))) (o 12 (omega arith) (omega arith)) (o 13 (omega arith) (omega arith)))

pub count_kept : {w u : List ℕ} {st : Stack} → Becomes w u st → get_or u 0 0 ≡ get_or w 0 0
count_kept {w} {u} b = sym (tree-length u) ∙ ap length b.tree ∙ tree-length w

pub becomes-ok : {w u : List ℕ} {st : Stack} → Planted w → length u ≡ length w → Becomes w u st → Ok w u
becomes-ok g z b = record {
  planted = becomes-planted g b;
  size = z;
  idents = b.others.low 4 (omega arith) (omega arith);
  reserved = λ j l h. b.others.low j (omega arith) h;
  high = b.others.high;
  rest = b.rest;
}

pub becomes-turns : {w u : List ℕ} {st : Stack} → Planted w → length u ≡ length w → Becomes w u st → Turns w u (set_stack st (rest w))
becomes-turns g z b = record { ok = becomes-ok g z b; nodes = b.tree; is = becomes-rest g (count_kept b) b }

-- steps one after the other
pub ok-self : {w : List ℕ} → Planted w → Ok w w
ok-self g = record { planted = g; size = refl; idents = refl; reserved = λ j l h. refl; high = λ j l h. refl; rest = refl }

pub ok-then : {w u v : List ℕ} → Ok w u → Ok u v → Ok w v
ok-then a b = record {
  planted = b.planted;
  size = b.size ∙ a.size;
  idents = b.idents ∙ a.idents;
  reserved = λ j l h. b.reserved j l h ∙ a.reserved j l h;
  high = λ j l h. b.high j l h ∙ a.high j l h;
  rest = b.rest ∙ a.rest;
}

pub turns-then : {w u v : List ℕ} {s : St} (f : St → St) → Turns w u s → Turns u v (f (rest u)) → Turns w v (f s)
turns-then f a b = record { ok = ok-then a.ok b.ok; nodes = b.nodes ∙ a.nodes; is = b.is ∙ ap f a.is }

-- the tree's nodes became xs
pub replants-ok : {w u : List ℕ} {xs : List Core} → Replants w u xs → Ok w u
replants-ok b = record {
  planted = b.planted;
  size = b.apart.size;
  idents = b.others.low 4 (omega arith) (omega arith);
  reserved = λ j l h. b.others.low j (omega arith) h;
  high = b.others.high;
  rest = b.rest;
}

pub replants-rest : {w u : List ℕ} {xs : List Core} → Replants w u xs → rest u ≡ set_nodes (length xs) (rest w)
unfolding rest
replants-rest {w} {u} {xs} b = (let o : (j : ℕ) → 4 ≤ j → j < 16 → get_or u j 0 ≡ get_or w j 0 = b.others.low in
    st-eq b.stack (ap yes (o 5 (omega arith) (omega arith))) (ap yes (o 6 (omega arith) (omega arith))) (ap yes (o 7 (omega arith) (omega arith))) (ap var_type_of (o 8 (omega arith) (omega arith))) (ap mode_of (o 9 (omega arith) (omega arith))) (ap yes (o 10 (omega arith) (omega arith))) (o 11 (omega arith) (omega arith)) (sym (tree-length u) ∙ ap length b.is) (targeted-same w u (λ j l h. b.others.high j (omega arith) (omega arith))) (o 12 (omega arith) (omega arith)) (o 13 (omega arith) (omega arith)))
