-- How the walks of the port are put together: each form of a handler, from what was done in its parts. Assumes nothing.
use Rattle.def_tree.proofs.Sims.{then-assoc}
use Rattle.std.proofs.Common.{Result, Ok, Err, IsErrAnd}
use mathlib.Core.Path.{◌≡◌, refl, sym, ap, ap₂, ◌∙◌, subst}
use mathlib.Core.Bool.{Bool, true, false, ◌&&◌, not}
use mathlib.Core.List.{List, [], ◌∷◌}
use mathlib.Core.Logic.{◌⊎◌, ⊎_elim}
use Prim.Native.Nat.{ℕ, zero, suc, ◌+◌, ◌-◌, ◌≤◌, ◌<◌}
use native.Mathlib.Numerals.{add-one}
use native.Mathlib.Omega.{arith}
use lib.ListN.{get_or}
use lib.Dec.{eqb, ltb}
use borrow.Author.Tests.{eq-eqb, ne_eqb, lt-ltb, le-ltb}
use mathlib.Core.Option.{Option, none, some}
use Rattle.def_tree.specs.Base.{pick}
use Rattle.def_tree.specs.Tree.{Tree, count, form, num}
use Rattle.def_tree.specs.Combine.{Res, stop, done, M, Nothing, and_then, ◌>>◌, iff, Flat, node_at, tree_at, Walk, Walks, on_rest, act, put, within_f, skip, many, split_f, each_but_f, on_kids_f}
use Rattle.words.specs.Layout.{tree, node_of}
use Rattle.words.proofs.Nodes.{tree-at}
use Rattle.def_pass.specs.Scope.{VarType, ScopeKind, VarInfo, prevent_each, add_read, find_constant}
use Rattle.def_pass.specs.Tree.{bound_names}
use Rattle.def_file.specs.declared.kind.Kind.{Kind}
use Rattle.def_file.specs.declared.kind.Kind.TheVariants.{Invalid}
use Rattle.def_file.specs.Named.{kinds, kind_of}
use Rattle.def_pass.specs.Walk.{St, modify, opening, restore, deeper, shallower, set_inlining, set_in_test, set_conds, set_var_decl_kind, set_pat_mode, as_param, decl_kind_of, set_changed, tally, same_ident, replace, when, mark, to_pattern, Handler, handler_of, h_plain}
use Rattle.words_nodes.specs.Nodes.{Planted, tree_from}
use Rattle.words_state.specs.State.{rest, abs, Fielded, Act, Turns}
use Rattle.words_state.proofs.Fields.{ok-self}
use Rattle.laws_flat.specs.WalkF.{WalksF, walks_f, in_scope_f, in_cond_f, visit_mut_expr_f, visit_mut_stmts_f, assign_kids_f, catch_param_f, handle_f, own_f, logical_f, test_read, ident_analysis_f, inline_value_f, by_const_f, after_ident_f, after_assign_f, after_by, after_f, script_f}
use Rattle.refusal.specs.declared.Refusal.{Refusal}
use Rattle.refusal.specs.declared.Refusal.TheVariants.{Depth}
use Rattle.refusal.specs.Number.{number}
use Rattle.refusal.proofs.Rows.{exit}
use Rattle.words_state.specs.declared.SavedFields.{SavedFields}
use Rattle.walk_ident.specs.Steps.{Restored}
use Rattle.walk_laws.specs.Did.{Did, Here}
use Rattle.walk_laws.proofs.Laws.{did_then, did-stop, act-then, did-here, many_more, many-cut, within-full, within-stop, within-then}
use Rattle.walk_laws.proofs.Heres.{here-node}

abbrev F : Type 0 → Type 0
F A = M (Flat St) A

-- the same in other words, and an exit by `?`
pub did-to : {A : Type 0} {w u : List ℕ} {a : Result A Refusal} {r q : Res (Flat St) A} → r ≡ q → Did w u a r → Did w u a q
did-to e d = record { ok = d.ok; is = sym e ∙ d.is }

pub did-at : {w u : List ℕ} {j k : ℕ} {r : Res (Flat St) ℕ} → j ≡ k → Did w u (Ok j) r → Did w u (Ok k) r
did-at {w} {u} {r = r} e d = subst (λ (k : ℕ). Did w u (Ok k) r) e d

pub did-exit : {A : Type 0} {w u : List ℕ} {e : Refusal} {x : Res (Flat St) A} (r : Result A Refusal) → IsErrAnd r (λ y. y ≡ e) → Did w u (Err e) x → Did w u r x
did-exit {w = w} {u} {x = x} r e d = exit (λ r. Did w u r x) r e d

-- by the depth that is left
level : (l : ℕ) → (l ≡ 0 → ⊥) → suc (l - 1) ≡ l
level l z = omega (arith, z)

module _ {w : List ℕ} (p i l : ℕ) where
  pub full-none : Planted w → l ≡ 0 → Did w w (Err Depth) ((walks_f l).full p i (abs w))
  unfolding walks_f
  full-none g e = subst (λ (k : ℕ). Did w w (Err Depth) ((walks_f k).full p i (abs w))) (sym e) (record { ok = ok-self g; is = refl })

  pub bare-none : Planted w → l ≡ 0 → Did w w (Err Depth) ((walks_f l).bare p i (abs w))
  unfolding walks_f
  bare-none g e = subst (λ (k : ℕ). Did w w (Err Depth) ((walks_f k).bare p i (abs w))) (sym e) (record { ok = ok-self g; is = refl })

  pub inner-none : Planted w → l ≡ 0 → Did w w (Err Depth) ((walks_f l).inner p i (abs w))
  unfolding walks_f
  inner-none g e = subst (λ (k : ℕ). Did w w (Err Depth) ((walks_f k).inner p i (abs w))) (sym e) (record { ok = ok-self g; is = refl })

  module _ {u : List ℕ} (z : l ≡ 0 → ⊥) where
    pub bare_of_lem : {a : Result ℕ Refusal} → Did w u a (own_f (walks_f (l - 1)) p i (abs w)) → Did w u a ((walks_f l).bare p i (abs w))
    unfolding walks_f
    bare_of_lem {a} d = subst (λ (k : ℕ). Did w u a ((walks_f k).bare p i (abs w))) (level l z) d

    pub inner_of : {a : Result ℕ Refusal} → Did w u a (script_f (walks_f (l - 1)) p i (abs w)) → Did w u a ((walks_f l).inner p i (abs w))
    unfolding walks_f
    inner_of {a} d = subst (λ (k : ℕ). Did w u a ((walks_f k).inner p i (abs w))) (level l z) d

    pub full-stop : {e : Refusal} → Did w u (Err e) (own_f (walks_f (l - 1)) p i (abs w)) → Did w u (Err e) ((walks_f l).full p i (abs w))
    unfolding walks_f visit_mut_expr_f
    full-stop {e} d = subst (λ (k : ℕ). Did w u (Err e) ((walks_f k).full p i (abs w))) (level l z) (did-stop (λ j. after_f (walks_f (l - 1)) p i) d)

    pub full-then : {v : List ℕ} {a : Result ℕ Refusal} {j : ℕ} → Did w u (Ok j) (own_f (walks_f (l - 1)) p i (abs w)) → Did u v a (after_f (walks_f (l - 1)) p i (abs u)) → Did w v a ((walks_f l).full p i (abs w))
    unfolding walks_f visit_mut_expr_f
    full-then {v} {a} d n = subst (λ (k : ℕ). Did w v a ((walks_f k).full p i (abs w))) (level l z) (did_then (λ j. after_f (walks_f (l - 1)) p i) d n)

-- past a tree
pub did-skip : {w : List ℕ} {r : ℕ} (i : ℕ) → Planted w → r ≡ i + count (tree_from (tree w) i) → Did w w (Ok r) (skip i (abs w))
unfolding tree_at tree_from
did-skip {w} i g e = record { ok = ok-self g; is = ap (done (abs w)) (sym e) }

-- the node at i
pub node-is : {w : List ℕ} {i p d : ℕ} → Here w 1 i p d → node_at (abs w) i ≡ node_of w i
node-is {w} {i} h = tree-at w i (here-node h)

-- the children
pub on-kids : (g : ℕ → Walks St) {w u : List ℕ} {a : Result ℕ Refusal} {n i p d : ℕ} → Here w 1 i p d → n ≡ (node_of w i).arity → Did w u a (g (p + 1) n (i + 1) (abs w)) → Did w u a (on_kids_f (g (suc p)) i (abs w))
on-kids g {w} {u} {a} {n} {i} {p} h e x = did-to (ap₂ {C = Res (Flat St) ℕ} (λ q m. g q m (i + 1) (abs w)) (add-one p) (e ∙ ap (λ c. c.arity) (sym (node-is h)))) x

-- the first, and the others
module _ (f : Walk St) (g : Walks St) {w : List ℕ} (n i : ℕ) where
  pub split-none : n ≡ 0 → Planted w → Did w w (Ok i) (split_f f g n i (abs w))
  split-none z h = subst (λ (k : ℕ). Did w w (Ok i) (split_f f g k i (abs w))) (sym z) (did-here i h)

  pub split-stop : {u : List ℕ} {e : Refusal} → (n ≡ 0 → ⊥) → Did w u (Err e) (f i (abs w)) → Did w u (Err e) (split_f f g n i (abs w))
  split-stop {u} {e} z d = subst (λ (k : ℕ). Did w u (Err e) (split_f f g k i (abs w))) (level n z) (did-stop (g (n - 1)) d)

  pub split-then : {u v : List ℕ} {a : Result ℕ Refusal} {j : ℕ} → (n ≡ 0 → ⊥) → Did w u (Ok j) (f i (abs w)) → Did u v a (g (n - 1) j (abs u)) → Did w v a (split_f f g n i (abs w))
  split-then {u} {v} {a} z d x = subst (λ (k : ℕ). Did w v a (split_f f g k i (abs w))) (level n z) (did_then (g (n - 1)) d x)

-- all but the last, and the last
module _ (f g : Walk St) {w : List ℕ} (n i : ℕ) where
  pub but-none : n ≡ 0 → Planted w → Did w w (Ok i) (each_but_f f g n i (abs w))
  but-none z h = subst (λ (k : ℕ). Did w w (Ok i) (each_but_f f g k i (abs w))) (sym z) (did-here i h)

  pub but-stop : {u : List ℕ} {e : Refusal} → (n ≡ 0 → ⊥) → Did w u (Err e) (many f (n - 1) i (abs w)) → Did w u (Err e) (each_but_f f g n i (abs w))
  but-stop {u} {e} z d = subst (λ (k : ℕ). Did w u (Err e) (each_but_f f g k i (abs w))) (level n z) (did-stop g d)

  pub but-then : {u v : List ℕ} {a : Result ℕ Refusal} {j : ℕ} → (n ≡ 0 → ⊥) → Did w u (Ok j) (many f (n - 1) i (abs w)) → Did u v a (g j (abs u)) → Did w v a (each_but_f f g n i (abs w))
  but-then {u} {v} {a} z d x = subst (λ (k : ℕ). Did w v a (each_but_f f g k i (abs w))) (level n z) (did_then g d x)

-- a loop's turn, its end, and a refusal in it
module _ (f : Walk St) (i k n : ℕ) {w u : List ℕ} {j : ℕ} (d : Did w u (Ok j) (many f k i (abs w))) where
  pub many-next : {v : List ℕ} {m : ℕ} → Did u v (Ok m) (f j (abs u)) → Did w v (Ok m) (many f (k + 1) i (abs w))
  many-next x = many_more f (abs w) i j k d x

  pub many-stop : {v : List ℕ} {e : Refusal} → k < n → Did u v (Err e) (f j (abs u)) → Did w v (Err e) (many f n i (abs w))
  many-stop l x = many-cut f (abs w) i (k + 1) n (omega arith) (many_more f (abs w) i j k d x)

  pub many-end : k ≤ n → n ≤ k → Did w u (Ok j) (many f n i (abs w))
  many-end l h = let s : k ≡ n = omega arith in subst (λ (m : ℕ). Did w u (Ok j) (many f m i (abs w))) s d

-- a change of one field, as a step
pub turn-act : {w u : List ℕ} (f : St → St) → Turns w u (f (rest w)) → Act w u 0 (on_rest (modify f) (abs w))
turn-act f t = record { ok = t.ok; nodes = t.nodes; acts = (refl, ap₂ {C = Flat St} (λ xs s. record { nodes = xs; rest = s }) t.nodes t.is) }

pub modify-then : {B : Type 0} {w u v : List ℕ} {b : Result B Refusal} (f : St → St) (m : F B) → Turns w u (f (rest w)) → Did u v b (m (abs u)) → Did w v b (and_then (on_rest (modify f) (abs w)) (λ x. m))
modify-then f m t d = act-then (λ x. m) (turn-act f t) d

-- a scope
module _ (k : ScopeKind) (m : F ℕ) {w u : List ℕ} where
  pub scope-full : {e : Refusal} → Act w u (number e) (on_rest (opening k) (abs w)) → Did w u (Err e) (in_scope_f k m (abs w))
  scope-full a = within-full (opening k) restore m a

  module _ (a : Act w u 0 (on_rest (opening k) (abs w))) where
    pub scope-stop : {v : List ℕ} {e : Refusal} → Did u v (Err e) (m (abs u)) → Did w v (Err e) (in_scope_f k m (abs w))
    scope-stop d = within-stop (opening k) restore m a d

    pub scope_then : {v x : List ℕ} {j : ℕ} {f : SavedFields} → Did u v (Ok j) (m (abs u)) → Fielded f (rest w) → Restored v x f → Did w x (Ok j) (in_scope_f k m (abs w))
    scope_then d s r =
        let b = r.is (rest w) s in
        within-then (opening k) restore m a d (record { ok = r.ok; nodes = ap (λ (st : Flat St). st.nodes) b; is = ap (λ (st : Flat St). st.rest) b })

-- in_test, and the count of open right sides
abbrev out-test : St → St → St
out-test old s = set_in_test old.in_test s

module _ (m : F ℕ) {w u : List ℕ} where
  module _ (t : Turns w u (set_in_test true (rest w))) where
    pub test-stop : {v : List ℕ} {e : Refusal} → Did u v (Err e) (m (abs u)) → Did w v (Err e) (within_f (modify (set_in_test true)) (λ old s. set_in_test old.in_test s) m (abs w))
    test-stop d = within-stop (modify (set_in_test true)) out-test m (turn-act (set_in_test true) t) d

    pub test-then : {v x : List ℕ} {j : ℕ} {b : Bool} → Did u v (Ok j) (m (abs u)) → b ≡ (rest w).in_test → Turns v x (set_in_test b (rest v)) → Did w x (Ok j) (within_f (modify (set_in_test true)) (λ old s. set_in_test old.in_test s) m (abs w))
    test-then {v} {x} d e r = within-then (modify (set_in_test true)) out-test m (turn-act (set_in_test true) t) d (subst (λ (b : Bool). Turns v x (set_in_test b (rest v))) e r)

  pub cond-full : {e : Refusal} → Act w u (number e) (on_rest deeper (abs w)) → Did w u (Err e) (within_f deeper shallower m (abs w))
  cond-full a = within-full deeper shallower m a

  module _ (a : Act w u 0 (on_rest deeper (abs w))) where
    pub cond-stop : {v : List ℕ} {e : Refusal} → Did u v (Err e) (m (abs u)) → Did w v (Err e) (within_f deeper shallower m (abs w))
    cond-stop d = within-stop deeper shallower m a d

    pub cond-then : {v x : List ℕ} {j : ℕ} → Did u v (Ok j) (m (abs u)) → Turns v x (set_conds (get_or w 11 0) (rest v)) → Did w x (Ok j) (within_f deeper shallower m (abs w))
    unfolding rest
    cond-then d r = within-then deeper shallower m a d r

-- by a test
pub iff-yes : {w u : List ℕ} {a : Result ℕ Refusal} {b : Bool} (m k : F ℕ) → b ≡ true → Did w u a (m (abs w)) → Did w u a (iff b m k (abs w))
iff-yes {w} {u} {a} m k e d = subst (λ (b : Bool). Did w u a (iff b m k (abs w))) (sym e) d

pub iff-no : {w u : List ℕ} {a : Result ℕ Refusal} {b : Bool} (m k : F ℕ) → b ≡ false → Did w u a (k (abs w)) → Did w u a (iff b m k (abs w))
iff-no {w} {u} {a} m k e d = subst (λ (b : Bool). Did w u a (iff b m k (abs w))) (sym e) d

-- visit_mut_stmts
abbrev again : WalksF → ℕ → ℕ → ℕ → F ℕ
again v p n i = on_rest (modify (set_inlining true)) >> many (v.full p) n i

abbrev first : WalksF → ℕ → ℕ → ℕ → F ℕ
first v p n i = λ st. and_then (many (v.full p) n i st) (λ j. again v p n i)

abbrev twice : WalksF → ℕ → ℕ → ℕ → F ℕ
twice v p n i = on_rest (modify (set_inlining false)) >> first v p n i

module _ (v : WalksF) (p n i : ℕ) {w u : List ℕ} where
  pub stmts-once : {a : Result ℕ Refusal} → (rest w).inlining ≡ false → Did w u a (many (v.full p) n i (abs w)) → Did w u a (visit_mut_stmts_f v p n i (abs w))
  unfolding visit_mut_stmts_f
  stmts-once z d = iff-no (twice v p n i) (many (v.full p) n i) z d

  module _ (z : (rest w).inlining ≡ true) (t : Turns w u (set_inlining false (rest w))) where
    pub stmts-stop : {x : List ℕ} {e : Refusal} → Did u x (Err e) (many (v.full p) n i (abs u)) → Did w x (Err e) (visit_mut_stmts_f v p n i (abs w))
    unfolding visit_mut_stmts_f
    stmts-stop d = iff-yes (twice v p n i) (many (v.full p) n i) z (modify-then (set_inlining false) (first v p n i) t (did-stop (λ j. again v p n i) d))

    pub stmts-then : {x y k : List ℕ} {b : Result ℕ Refusal} {j : ℕ} → Did u x (Ok j) (many (v.full p) n i (abs u)) → Turns x y (set_inlining true (rest x)) → Did y k b (many (v.full p) n i (abs y)) → Did w k b (visit_mut_stmts_f v p n i (abs w))
    unfolding visit_mut_stmts_f
    stmts-then d s r = iff-yes (twice v p n i) (many (v.full p) n i) z (modify-then (set_inlining false) (first v p n i) t (did_then (λ j. again v p n i) d (modify-then (set_inlining true) (many (v.full p) n i) s r)))

-- what was read of the node at i
module _ {w : List ℕ} {i p d : ℕ} (h : Here w 1 i p d) {x : ℕ} where
  pub form-is : x ≡ (node_of w i).form → (node_at (abs w) i).form ≡ x
  form-is e = ap (λ c. c.form) (node-is h) ∙ sym e

  pub kind-is : x ≡ (node_of w i).kind → (node_at (abs w) i).kind ≡ x
  kind-is e = ap (λ c. c.kind) (node-is h) ∙ sym e

  pub form-yes : {m : ℕ} → x ≡ (node_of w i).form → x ≡ m → eqb (node_at (abs w) i).form m ≡ true
  form-yes {m} e s = eq-eqb (node_at (abs w) i).form m (form-is e ∙ s)

  pub form-no : (m : ℕ) → x ≡ (node_of w i).form → (x ≡ m → ⊥) → eqb (node_at (abs w) i).form m ≡ false
  form-no m e s = ne_eqb (node_at (abs w) i).form m (λ y. s (sym (form-is e) ∙ y))

  pub kind-yes : {m : ℕ} → x ≡ (node_of w i).kind → x ≡ m → eqb (node_at (abs w) i).kind m ≡ true
  kind-yes {m} e s = eq-eqb (node_at (abs w) i).kind m (kind-is e ∙ s)

  pub kind-no : (m : ℕ) → x ≡ (node_of w i).kind → (x ≡ m → ⊥) → eqb (node_at (abs w) i).kind m ≡ false
  kind-no m e s = ne_eqb (node_at (abs w) i).kind m (λ y. s (sym (kind-is e) ∙ y))

  pub form-low : x ≡ (node_of w i).form → x < 2 → ltb (node_at (abs w) i).form 2 ≡ true
  form-low e s = lt-ltb (node_at (abs w) i).form 2 (omega (arith, form-is e))

  pub form-high : x ≡ (node_of w i).form → 2 ≤ x → ltb (node_at (abs w) i).form 2 ≡ false
  form-high e s = le-ltb (node_at (abs w) i).form 2 (omega (arith, form-is e))

  pub decl-turn : {u : List ℕ} {k : VarType} → x ≡ (node_of w i).form → k ≡ decl_kind_of x → Turns w u (set_var_decl_kind k (rest w)) → Turns w u (set_var_decl_kind (decl_kind_of (node_at (abs w) i).form) (rest w))
  decl-turn {u} e s t = subst (λ (y : VarType). Turns w u (set_var_decl_kind y (rest w))) (s ∙ ap decl_kind_of (sym (form-is e))) t

  pub assign-form : (v : WalksF) (q : ℕ) {b : Bool} {u : List ℕ} {a : Result ℕ Refusal} → x ≡ (node_of w i).form → b ≡ to_pattern (tree_at (abs w) i) → Did w u a (on_kids_f (assign_kids_f v q x b) i (abs w)) → Did w u a (on_kids_f (assign_kids_f v q (node_at (abs w) i).form (to_pattern (tree_at (abs w) i))) i (abs w))
  assign-form v q {b} {u} {a} e z s =
      let p : Bool = to_pattern (tree_at (abs w) i) in
      subst (λ (y : ℕ). Did w u a (on_kids_f (assign_kids_f v q y p) i (abs w))) (sym (form-is e)) (subst (λ (y : Bool). Did w u a (on_kids_f (assign_kids_f v q x y) i (abs w))) z s)

pub both_yes : {a b : Bool} → a ≡ true → b ≡ true → (a && b) ≡ true
both_yes {a} {b} x y = rw (x, y)

pub first-no : {a : Bool} (b : Bool) → a ≡ false → (a && b) ≡ false
first-no {a} b x = rw x

pub second-no : (a : Bool) {b : Bool} → b ≡ false → (a && b) ≡ false
second-no true x = x
second-no false x = refl

-- a step on a condition
pub when-yes : {w u : List ℕ} {n : ℕ} {b : Bool} (m : M St Nothing) → b ≡ true → Act w u n (on_rest m (abs w)) → Act w u n (on_rest (when b m) (abs w))
when-yes {w} {u} {n} m e a = subst (λ (b : Bool). Act w u n (on_rest (when b m) (abs w))) (sym e) a

pub when-no : {w : List ℕ} {b : Bool} (m : M St Nothing) (j : ℕ) → b ≡ false → Planted w → Did w w (Ok j) (and_then (on_rest (when b m) (abs w)) (λ x st. done st j))
when-no {w} m j e g = subst (λ (b : Bool). Did w w (Ok j) (and_then (on_rest (when b m) (abs w)) (λ x st. done st j))) (sym e) (did-here j g)

-- the last step of a walk
pub act-end : {w u : List ℕ} {r : Res (Flat St) Nothing} (j : ℕ) → Act w u 0 r → Did w u (Ok j) (and_then r (λ x st. done st j))
act-end j a = act-then (λ x st. done st j) a (did-here j a.ok.planted)

-- a catch clause's parameter
pub bound-stop : (v : WalksF) (p i : ℕ) {w u : List ℕ} {e : Refusal} → Did w u (Err e) (v.full p i (abs w)) → Did w u (Err e) (catch_param_f v p i (abs w))
unfolding catch_param_f
bound-stop v p i d = did-stop _ d

pub bound-then : (v : WalksF) (p i : ℕ) {w u y : List ℕ} {j : ℕ} → Did w u (Ok j) (v.full p i (abs w)) → Act u y 0 (act (λ b s. when (not s.inlining) (mark (prevent_each (bound_names b []))) s) i (abs u)) → Did w y (Ok j) (catch_param_f v p i (abs w))
unfolding catch_param_f
bound-then v p i {j = j} d t = did_then _ d (act-end j t)

-- a function's inside
pub func-in : (v : WalksF) (p n i : ℕ) {w u x : List ℕ} {a : Result ℕ Refusal} → Turns w u (set_pat_mode as_param (rest w)) → Did u x a (each_but_f (v.full (p + 1)) (v.inner (p + 1)) n i (abs u)) → Did w x a (and_then (on_rest (modify (set_pat_mode as_param)) (abs w)) (λ y. each_but_f (v.full (suc p)) (v.inner (suc p)) n i))
func-in v p n i {w} {u} {x} {a} t d = modify-then (set_pat_mode as_param) (each_but_f (v.full (suc p)) (v.inner (suc p)) n i) t (subst (λ (q : ℕ). Did u x a (each_but_f (v.full q) (v.inner q) n i (abs u))) (add-one p) d)

-- no && or ||: the end of the tree
pub logic-other : (v : WalksF) (p i : ℕ) {w : List ℕ} {j : ℕ} → Planted w → eqb (node_at (abs w) i).kind 32 ≡ false → j ≡ i + count (tree_from (tree w) i) → Did w w (Ok j) (logical_f v p i (abs w))
unfolding logical_f
logic-other v p i {w} g e s = iff-no (on_kids_f (split_f skip (many (λ r. in_cond_f (v.bare (suc p) r)))) i) (skip i) (first-no (ltb (node_at (abs w) i).form 2) e) (did-skip i g s)

-- the steps after a handler
module _ (v : WalksF) (p i : ℕ) {w u : List ℕ} {a : Result ℕ Refusal} where
  pub after-ident : eqb (node_at (abs w) i).kind 21 ≡ true → Did w u a (after_ident_f v p i (abs w)) → Did w u a (after_f v p i (abs w))
  unfolding after_f
  after-ident e d = subst (λ (b : Bool). Did w u a (after_by v p b (eqb (node_at (abs w) i).kind 33 && eqb (node_at (abs w) i).form 0) i (abs w))) (sym e) d

  pub after-logic : eqb (node_at (abs w) i).kind 21 ≡ false → (eqb (node_at (abs w) i).kind 33 && eqb (node_at (abs w) i).form 0) ≡ false → Did w u a (logical_f v p i (abs w)) → Did w u a (after_f v p i (abs w))
  unfolding after_f
  after-logic e s d = subst (λ (b : Bool). Did w u a (after_by v p b (eqb (node_at (abs w) i).kind 33 && eqb (node_at (abs w) i).form 0) i (abs w))) (sym e) (subst (λ (b : Bool). Did w u a (after_by v p false b i (abs w))) (sym s) d)

  pub after-assign : eqb (node_at (abs w) i).kind 21 ≡ false → (eqb (node_at (abs w) i).kind 33 && eqb (node_at (abs w) i).form 0) ≡ true → Did w u a (iff (rest w).inlining (after_assign_f p i) (skip i) (abs w)) → Did w u a (after_f v p i (abs w))
  unfolding after_f
  after-assign e s d = subst (λ (b : Bool). Did w u a (after_by v p b (eqb (node_at (abs w) i).kind 33 && eqb (node_at (abs w) i).form 0) i (abs w))) (sym e) (subst (λ (b : Bool). Did w u a (after_by v p false b i (abs w))) (sym s) d)

-- which handler a kind has
pub own-by : (v : WalksF) (g : Handler) {w u : List ℕ} {a : Result ℕ Refusal} {i p d k : ℕ} → Here w 1 i p d → k ≡ (node_of w i).kind → handler_of (kind_of k) ≡ g → Did w u a (handle_f g v p i (abs w)) → Did w u a (own_f v p i (abs w))
unfolding own_f
own-by v g {w} {u} {a} {i} {p} {d} {k} h e s x = subst (λ (y : Handler). Did w u a (handle_f y v p i (abs w))) (sym (ap (λ (m : ℕ). handler_of (kind_of m)) (kind-is h e) ∙ s)) x

-- kinds from number n on, of which each has the default handler or a number that k is not
abbrev Off : ℕ → ℕ → List Kind → Type 0
Off k n [] = Unit {0}
Off k n (x ∷ xs) = ((handler_of x ≡ h_plain) ⊎ (k ≡ n → ⊥)) × Off k (suc n) xs

pub off-plain : (k n m : ℕ) (xs : List Kind) → k ≡ n + m → Off k n xs → handler_of (get_or xs m (Invalid k)) ≡ h_plain
off-plain k n m [] e o = refl
off-plain k n zero (x ∷ xs) e o = ⊎_elim (λ h. h) (λ z. absurd (omega (arith, z, e))) o.0
off-plain k n (suc m) (x ∷ xs) e o = off-plain k (suc n) m xs (omega (arith, e)) o.1

pub kind-plain : (k : ℕ) → Off k 0 kinds → handler_of (kind_of k) ≡ h_plain
kind-plain k o = off-plain k 0 k kinds (omega arith) o

-- an identifier: what each step did, and what follows it. const_f, value_f and swap_f of the steps are these
abbrev pub swaps_f : ℕ → Tree → Walk St
swaps_f p e i = act (λ t. replace p t e) i >> put e i

swap-then : {B : Type 0} (p : ℕ) (e : Tree) (i : ℕ) (g : ℕ → M (Flat St) B) (st : Flat St) → and_then (swaps_f p e i st) g ≡ and_then (act (λ t. replace p t e) i st) (λ x st₁. and_then (put e i st₁) g)
swap-then p e i g st = then-assoc (act (λ t. replace p t e) i st) (λ x. put e i) g

value-is : {A : Type 0} (p i : ℕ) (e : Tree) (g : ℕ → F ℕ) (r : Res (Flat St) A) → and_then (and_then r (λ x. swaps_f p e i)) g ≡ and_then r (λ x st. and_then (act (λ t. replace p t e) i st) (λ y st₁. and_then (put e i st₁) g))
value-is p i e g (stop n) = refl
value-is p i e g (done st x) = swap-then p e i g st

module _ (v : WalksF) (p i : ℕ) {w : List ℕ} where
  pub ident-by : (o : Option Tree) {u : List ℕ} {a : Result ℕ Refusal} → pick (rest w).is_first_run (find_constant (node_at (abs w) i).num (rest w).stack) none ≡ o → Did w u a (by_const_f v p o i (abs w)) → Did w u a (after_ident_f v p i (abs w))
  unfolding after_ident_f
  ident-by o {u} {a} e d = subst (λ (x : Option Tree). Did w u a (by_const_f v p x i (abs w))) (sym e) d

  -- a constant, and the walk of what it became
  module _ (e : Tree) {u : List ℕ} where
    pub const-stop : {r : Refusal} → Did w u (Err r) (and_then (on_rest (modify (set_changed true)) (abs w)) (λ x. swaps_f p e i)) → Did w u (Err r) (by_const_f v p (some e) i (abs w))
    const-stop d = did-to (swap-then p e i (λ j. v.full p i) (record { nodes = tree w; rest = set_changed true (rest w) })) (did-stop (λ j. v.full p i) d)

    pub const-then : {x : List ℕ} {b : Result ℕ Refusal} {j : ℕ} → Did w u (Ok j) (and_then (on_rest (modify (set_changed true)) (abs w)) (λ y. swaps_f p e i)) → Did u x b (v.full p i (abs u)) → Did w x b (by_const_f v p (some e) i (abs w))
    const-then d n = did-to (swap-then p e i (λ j. v.full p i) (record { nodes = tree w; rest = set_changed true (rest w) })) (did_then (λ j. v.full p i) d n)

  -- a value, and its right side again
  module _ (b : VarInfo) (e : Tree) {u : List ℕ} where
    pub value-stop : {r : Refusal} → Did w u (Err r) (and_then (act (λ t. when (not (same_ident t e)) (modify (λ s. tally (num t) (set_changed true s)))) i (abs w)) (λ x. swaps_f p e i)) → Did w u (Err r) (inline_value_f v p b (some e) i (abs w))
    value-stop d = did-to (value-is p i e (λ j. logical_f v p i) (act (λ t. when (not (same_ident t e)) (modify (λ s. tally (num t) (set_changed true s)))) i (abs w))) (did-stop (λ j. logical_f v p i) d)

    pub value-then : {x : List ℕ} {c : Result ℕ Refusal} {j : ℕ} → Did w u (Ok j) (and_then (act (λ t. when (not (same_ident t e)) (modify (λ s. tally (num t) (set_changed true s)))) i (abs w)) (λ y. swaps_f p e i)) → Did u x c (logical_f v p i (abs u)) → Did w x c (inline_value_f v p b (some e) i (abs w))
    value-then d n = did-to (value-is p i e (λ j. logical_f v p i) (act (λ t. when (not (same_ident t e)) (modify (λ s. tally (num t) (set_changed true s)))) i (abs w))) (did_then (λ j. logical_f v p i) d n)

-- Analysis
pub analysis-then : (i : ℕ) {w u x : List ℕ} {a : Result ℕ Refusal} → Act w u 0 (and_then (act test_read i (abs w)) (λ y. act (λ t. mark (add_read (num t) (eqb (form t) 1))) i)) → Did u x a (skip i (abs u)) → Did w x a (ident_analysis_f i (abs w))
unfolding ident_analysis_f
analysis-then i {w} s d = did-to (then-assoc (act test_read i (abs w)) (λ y. act (λ t. mark (add_read (num t) (eqb (form t) 1))) i) (λ y. skip i)) (act-then (λ y. skip i) s d)
