-- A function's name, and the binding of a pattern, declared. Assumes nothing.
use Rattle.std.proofs.Common.{Result, Ok, Err}
use mathlib.Core.Path.{◌≡◌, refl, sym, ap, ◌∙◌}
use mathlib.Core.List.{List}
use mathlib.Core.Bool.{Bool, true, false, not, ◌&&◌}
use mathlib.Core.Option.{none, some}
use mathlib.Core.Logic.{◌⊎◌, inr}
use Prim.Native.Nat.{ℕ, ◌+◌, ◌<◌}
use native.Mathlib.Omega.{arith}
use borrow.Author.Tests.{eq-eqb, ne_eqb}
use lib.Dec.{eqb, ltb}
use lib.ListN.{length, get_or, set, length-set}
use lib.Seq.{get_or-set_same}
use Rattle.def_tree.specs.Tree.{Tree, node, form, num, kids, Core, no_core}
use Rattle.def_tree.specs.Combine.{Res, stop, done, Nothing, M, tree_at, act}
use Rattle.def_pass.specs.Tree.{head_t}
use Rattle.def_pass.specs.Twice.{unflagged}
use Rattle.def_pass.specs.Scope.{Stack, VarType, param, v_var, is_var, no_init, recorded, declare}
use Rattle.def_pass.specs.Walk.{St, PatMode, assigning, as_param, as_catch, declaring, grow, when, is_bind, as_ident, no_value, declare_m, declare_name, pat_by}
use Rattle.words.specs.Layout.{tree, node_of}
use Rattle.words.proofs.Nodes.{tree-length, tree-at}
use Rattle.words_scopes.specs.State.{stack}
use Rattle.scope_values.specs.Steps.{Grown}
use Rattle.refusal.specs.declared.Refusal.{Refusal}
use Rattle.refusal.specs.Number.{refused}
use Rattle.words_nodes.specs.Nodes.{Planted, Replants, tree_from}
use Rattle.words_nodes.proofs.Words.{tree-whole}
use Rattle.words_state.specs.State.{rest, abs, Act}
use Rattle.words_state.proofs.Fields.{replants-ok, ok-then}
use Rattle.walk_write.specs.Answers.{re_kind}
use Rattle.walk_write.proofs.Steps.{Step, Does, step-act, act-step, step-as, step-none, record-step}
use Rattle.walk_write.proofs.Marks.{kind-here, when-no, when-yes}
use Rattle.walk_write.proofs.Shapes.{child-act}
use Rattle.walk_write.proofs.Turned.{of_kind, turned-tree, turned-rest, turned-back}
use Rattle.walk_write.proofs.Writing.{num-here, form-here}

-- no change, and a value, are never undefined
changes : (a b : Bool) → (a && not true && no_value no_init && b) ≡ false
changes true b = refl
changes false b = refl

valued : (a b : Bool) (t : Tree) → (a && not false && no_value (recorded t) && b) ≡ false
valued true b t = refl
valued false b t = refl

neither : (b : Bool) → (b && not true) ≡ false
neither true = refl
neither false = refl

-- the name of a function
module _ {w : List ℕ} (i : ℕ) where
  pub declare-none : Planted w → head_t (kids (tree_at (abs w) i)) ≡ none → Act w w 0 (act (λ t. declare_name (head_t (kids t))) i (abs w))
  unfolding declare_name
  declare-none g e = child-act i declare_name e (step-none g)

  module _ (g : Planted w) (l : i + 1 < get_or w 0 0) (e : head_t (kids (tree_at (abs w) i)) ≡ some (tree_at (abs w) (i + 1))) where
    abbrev t : Tree
    t = tree_at (abs w) (i + 1)

    pub declare-other : ((node_of w (i + 1)).kind ≡ 20 → ⊥) → Act w w 0 (act (λ t. declare_name (head_t (kids t))) i (abs w))
    unfolding declare_name
    declare-other h = child-act i declare_name e (when-no (declare_m t no_init true v_var) g (ap (λ (p : Bool). p && not (rest w).inlining) (ap (λ (k : ℕ). eqb k 20) (kind-here w (i + 1) l) ∙ ne_eqb (node_of w (i + 1)).kind 20 h)))

    pub declare-off : (rest w).inlining ≡ true → Act w w 0 (act (λ t. declare_name (head_t (kids t))) i (abs w))
    unfolding declare_name
    declare-off h = child-act i declare_name e (when-no (declare_m t no_init true v_var) g (ap (λ (p : Bool). is_bind t && not p) h ∙ neither (is_bind t)))

    module _ (k : (node_of w (i + 1)).kind ≡ 20) where
      test : (is_bind t && not (rest w).inlining) ≡ not (rest w).inlining
      test = ap (λ (p : Bool). p && not (rest w).inlining) (ap (λ (k : ℕ). eqb k 20) (kind-here w (i + 1) l) ∙ eq-eqb (node_of w (i + 1)).kind 20 k)

      pub declare-on : {u : List ℕ} (f x : ℕ) (s : Result Unit Refusal) → (rest w).inlining ≡ false → f ≡ (node_of w (i + 1)).form → x ≡ (node_of w (i + 1)).num → Grown w u (declare (ltb 1 f) x no_init false v_var (stack w)) s → Act w u (refused s) (act (λ t. declare_name (head_t (kids t))) i (abs w))
      unfolding declare_name declare_m
      declare-on f x s z r q b =
          let to : ℕ → ℕ → Bool → Res St Nothing = λ h y p. grow (declare (ltb 1 h) y no_init p v_var) (rest w) in
          child-act i declare_name e (when-yes (declare_m t no_init true v_var) (test ∙ ap not z)
          (step-as (ap (λ (h : ℕ). to h x false) (r ∙ sym (form-here w (i + 1) l)) ∙ ap (λ (y : ℕ). to (form t) y false) (q ∙ sym (num-here w (i + 1) l)) ∙ ap (λ (p : Bool). to (form t) (num t) p) (sym (changes (is_var (rest w).var_decl_kind) (rest w).inlining))) (record-step g (declare (ltb 1 f) x no_init false v_var) s b)))

-- the binding of a pattern: its node is an identifier, without the flag, while it is recorded
grown-tree : (w u : List ℕ) (st : Stack) (s : Result Unit Refusal) → Grown w u st s → tree u ≡ tree w
grown-tree w u st (Ok _) b = b.0.tree
grown-tree w u st (Err e) b = ap tree b.2

as-ident : (t : Tree) → of_kind 21 (unflagged (form t)) t ≡ as_ident t
as-ident (node k f a ts) = refl

module _ {w : List ℕ} (g : Planted w) (i : ℕ) (l : i < get_or w 0 0) (k : (node_of w i).kind ≡ 20) {b f : ℕ} (eb : b ≡ (node_of w i).form) (ef : f ≡ unflagged b) {w₁ : List ℕ} (a : Replants w w₁ (set (tree w) i (re_kind 21 f (get_or (tree w) i no_core)))) where
  inside : i < length (tree w)
  inside = rw tree-length l

  abbrev name : Tree
  name = tree_at (abs w) i

  form-is : b ≡ form name
  form-is = eb ∙ sym (form-here w i l)

  value-is : tree_from (tree w₁) i ≡ as_ident name
  unfolding tree_at tree_from
  value-is = ap (λ (xs : List Core). tree_from xs i) a.is ∙ turned-tree (tree w) i 21 f inside (tree-whole g) ∙ ap (λ (n : ℕ). of_kind 21 n name) (ef ∙ ap unflagged form-is) ∙ as-ident name

  pub turned-in : i < get_or w₁ 0 0
  turned-in =
      let e : length (set (tree w) i (re_kind 21 f (get_or (tree w) i no_core))) ≡ get_or w 0 0 = simp length-set (tree-length w) in
      omega (arith, sym (tree-length w₁) ∙ ap length a.is ∙ e)

  module _ (w₂ : List ℕ) (x : ℕ) (v : VarType) (s : Result Unit Refusal) (q : x ≡ (node_of w i).num) (r : Grown w₁ w₂ (declare (ltb 1 b) x (recorded (tree_from (tree w₁) i)) false v (stack w₁)) s) where
    abbrev to : M St Nothing
    to = grow (declare (ltb 1 b) x (recorded (as_ident name)) false v)

    declared : Step w₁ w₂ (refused s) (to (rest w))
    declared =
        rw (turned-rest g i l (re_kind 21 f (get_or (tree w) i no_core)) a) at (record-step a.planted (declare (ltb 1 b) x (recorded (as_ident name)) false v) s (rw value-is at r))

    tree-kept : tree w₂ ≡ tree w₁
    tree-kept = grown-tree w₁ w₂ (declare (ltb 1 b) x (recorded (tree_from (tree w₁) i)) false v (stack w₁)) s r

    still-in : i < get_or w₂ 0 0
    still-in = omega (arith, turned-in, sym (tree-length w₂) ∙ ap length tree-kept ∙ tree-length w₁)

    -- what turning it back asks for
    pub bound-needs : b < 32 → Planted w₂ × (i < get_or w₂ 0 0) × (((node_of w₂ i).kind ≡ 20) ⊎ ((node_of w₂ i).kind ≡ 21)) × (b < 32)
    bound-needs h =
        let c : Core = re_kind 21 f (get_or (tree w) i no_core) in
        let e : node_of w₂ i ≡ c = sym (tree-at w₂ i still-in) ∙ ap (λ (xs : List Core). get_or xs i no_core) (tree-kept ∙ a.is) ∙ get_or-set_same (tree w) i c no_core inside in
        (declared.ok.planted, still-in, inr (ap (λ (d : Core). d.kind) e), h)

    pub bound-act : {w₃ : List ℕ} → Replants w₂ w₃ (set (tree w₂) i (re_kind 20 b (get_or (tree w₂) i no_core))) → Act w w₃ (refused s) (act (λ t. declare_m t (recorded (as_ident t)) false v) i (abs w))
    unfolding declare_m
    bound-act {w₃} c =
        let e : tree w₂ ≡ set (tree w) i (re_kind 21 f (get_or (tree w) i no_core)) = tree-kept ∙ a.is in
        let back : tree w₃ ≡ tree w = c.is ∙ ap (λ (xs : List Core). set xs i (re_kind 20 b (get_or xs i no_core))) e ∙ turned-back (tree w) i f b inside (ap (λ (c : Core). c.kind) (tree-at w i l) ∙ k) (ap (λ (c : Core). c.form) (tree-at w i l) ∙ sym eb) in
        let same : rest w₃ ≡ rest w₂ = turned-rest declared.ok.planted i still-in (re_kind 20 b (get_or (tree w₂) i no_core)) c in
        let by : ℕ → ℕ → Bool → Res St Nothing = λ h y p. grow (declare (ltb 1 h) y (recorded (as_ident name)) p v) (rest w) in
        let d : Step w w₃ (refused s) (to (rest w)) = record { ok = ok-then (ok-then (replants-ok a) declared.ok) (replants-ok c); nodes = back; does = go back same (to (rest w)) declared.does } in
        step-act (declare_m name (recorded (as_ident name)) false v) (step-as (ap (λ (h : ℕ). by h x false) form-is ∙ ap (λ (y : ℕ). by (form name) y false) (q ∙ sym (num-here w i l)) ∙ ap (λ (p : Bool). by (form name) (num name) p) (sym (valued (is_var (rest w).var_decl_kind) (rest w).inlining (as_ident name)))) d)
      where
        go : tree w₃ ≡ tree w → rest w₃ ≡ rest w₂ → (r : Res St Nothing) → Does w₁ w₂ (refused s) r → Does w w₃ (refused s) r
        go p o (stop m) h = h
        go p o (done st y) h = (h.0, p, o ∙ h.2)

-- by the mode
module _ (w : List ℕ) (i : ℕ) (l : i < get_or w 0 0) where
  abbrev pat : Tree → M St Nothing
  pat t s = when (is_bind t) (pat_by s.pat_mode t) s

  pub pat-other : Planted w → ((node_of w i).kind ≡ 20 → ⊥) → Act w w 0 (act (λ t s. when (is_bind t) (pat_by s.pat_mode t) s) i (abs w))
  pat-other g h = step-act (pat (tree_at (abs w) i)) (when-no (pat_by (rest w).pat_mode (tree_at (abs w) i)) g (ap (λ (k : ℕ). eqb k 20) (kind-here w i l) ∙ ne_eqb (node_of w i).kind 20 h))

  module _ (k : (node_of w i).kind ≡ 20) where
    by_mode : {u : List ℕ} {r : ℕ} (m : PatMode) → m ≡ (rest w).pat_mode → Step w u r (pat_by m (tree_at (abs w) i) (rest w)) → Act w u r (act (λ t s. when (is_bind t) (pat_by s.pat_mode t) s) i (abs w))
    by_mode m e d =
        step-act (pat (tree_at (abs w) i)) (when-yes (pat_by (rest w).pat_mode (tree_at (abs w) i)) (ap (λ (k : ℕ). eqb k 20) (kind-here w i l) ∙ eq-eqb (node_of w i).kind 20 k) (step-as (ap (λ (x : PatMode). pat_by x (tree_at (abs w) i) (rest w)) e) d))

    pub pat-assigning : {u : List ℕ} {r : ℕ} → assigning ≡ (rest w).pat_mode → Act w u r (act (pat_by assigning) i (abs w)) → Act w u r (act (λ t s. when (is_bind t) (pat_by s.pat_mode t) s) i (abs w))
    pat-assigning e a = by_mode assigning e (act-step (pat_by assigning (tree_at (abs w) i)) a)

    pub pat-param : {u : List ℕ} {r : ℕ} → as_param ≡ (rest w).pat_mode → Act w u r (act (λ t. declare_m t (recorded (as_ident t)) false param) i (abs w)) → Act w u r (act (λ t s. when (is_bind t) (pat_by s.pat_mode t) s) i (abs w))
    unfolding pat_by
    pat-param e a = by_mode as_param e (act-step (declare_m (tree_at (abs w) i) (recorded (as_ident (tree_at (abs w) i))) false param) a)

    pub pat-catch : {u : List ℕ} {r : ℕ} → as_catch ≡ (rest w).pat_mode → Act w u r (act (λ t. declare_m t (recorded (as_ident t)) false v_var) i (abs w)) → Act w u r (act (λ t s. when (is_bind t) (pat_by s.pat_mode t) s) i (abs w))
    unfolding pat_by
    pat-catch e a = by_mode as_catch e (act-step (declare_m (tree_at (abs w) i) (recorded (as_ident (tree_at (abs w) i))) false v_var) a)

    pub pat-declaring : Planted w → declaring ≡ (rest w).pat_mode → Act w w 0 (act (λ t s. when (is_bind t) (pat_by s.pat_mode t) s) i (abs w))
    unfolding pat_by
    pat-declaring g e = by_mode declaring e (step-none g)
