-- The walks on the list do what the walks on trees do: every handler, a run, and the pass. Each handler is one term of
-- the laws of its parts (Sims of the crate `def_tree`). Assumes nothing.
use mathlib.Core.Path.{◌≡◌, refl, ◌∙◌}
use mathlib.Core.Bool.{Bool, true, false, ◌&&◌, not}
use mathlib.Core.Option.{Option, none, some}
use mathlib.Core.List.{[]}
use Prim.Native.Nat.{ℕ, zero, suc}
use native.Mathlib.Nat.{zero-add}
use lib.Dec.{eqb, ltb}
use lib.ListN.{length}
use Rattle.def_tree.specs.Base.{pick}
use Rattle.def_file.specs.Named.{kind_of}
use Rattle.def_pass.specs.Tree.{Tree, kind, form, num, kids, head_t, tail_f, void_zero, count, bound_names}
use Rattle.def_pass.specs.Twice.{flagged}
use Rattle.def_pass.specs.Scope.{VarType, is_const, ScopeKind, cond, loop, block, fn, VarInfo, prevent_each, is_inline_prevented, var_inline_prevented, find_binding, find_binding_from_current, find_constant, add_read, mark_this_sensitive, ident_of, change, with_value, defined}
use Rattle.def_tree.specs.Tree.{Core, flat}
use Rattle.def_tree.specs.Combine
use Rattle.def_tree.specs.Combine.{Res, stop, done, ◌>>=◌, ◌>>◌, ret, iff, Flat, carry}
use Rattle.def_tree.proofs.Place.{past, length-past}
use Rattle.def_tree.proofs.Sims.{Sim, SimF, SimR, sim-skip, sim-skips, sim_put, sim-refuse, sim_then, sim-if, sim-ask, sim-node, sim-act, sim-act_n, sim-tap, sim-within, sim-each, sim-split, sim-each_but, sim-on_kids, sim-re_kids, sim_f-then, sim_f-if, sim_f-ask, sim_f-act, sim_f-tap, sim_f-within, sim_r-same, sim_r-then, sim_r-act, sim_r-ask, sim_r-if, sim_r-split, sim_r-cut_first}
use Rattle.def_pass.specs.Walk
use Rattle.def_pass.specs.Walk.{St, M, Walks, Handler, h_plain, h_script, h_block, h_decl, h_declr, h_fun, h_if, h_while, h_for, h_for_in, h_try, h_catch, h_case, h_pat, h_unary, h_update, h_assign, h_call, h_new, h_fun_expr, h_arrow, handler_of, when, modify, mark, grow, replace, restore, opening, deeper, shallower, set_inlining, set_var_decl_kind, set_pat_mode, set_in_test, set_changed, declaring, assigning, as_param, as_catch, decl_kind_of, declare_name, write_name, write_tree, write_forest, but_last, store_inline_barrier_m, is_bind, pat_by, over_m, stays, takes, head_bind, assign_first, assign_last, to_pattern, same_ident}
use Rattle.laws_flat.specs.WalkF

pub record Sims (w : Walks) (v : WalkF.WalksF) : Type 0 where
  pub full : (p : ℕ) → Sim (w.full p) (v.full p)
  pub bare : (p : ℕ) → Sim (w.bare p) (v.bare p)
  pub inner : (p : ℕ) → Sim (w.inner p) (v.inner p)

-- the definition's inner tests, each as a function of what it asks for
abbrev found_by : Walks → ℕ → Option VarInfo → Tree → M Tree
found_by w p o t = λ s. elim o [ none ↦ done s t | some b ↦ iff (var_inline_prevented b) (ret t) (Walk.inline_value w p t b b.value) s ]

abbrev first_by : ℕ → Tree → Tree → Option VarInfo → Tree → M Tree
first_by p l r o t = λ s. elim o [
  | none ↦ done s t
  | some b ↦ iff (b.is_undefined && not (var_inline_prevented b) && not (is_inline_prevented r s.stack)) (do
    grow (change (num l) (λ c. defined (with_value (some r) c)))
    replace p t r
    ret r) (ret t) s
]

abbrev other_by : Walks → ℕ → Bool → Tree → M Tree
other_by w p b t = elim b [ true ↦ (λ s. iff s.inlining (Walk.after_assign p t) (ret t) s) | false ↦ Walk.logical w p t ]

abbrev is_assign : Core → Bool
is_assign c = eqb c.kind 33 && eqb c.form 0

abbrev after_by : Walks → ℕ → Bool → Tree → M Tree
after_by w p b t = elim b [ true ↦ Walk.after_ident w p t | false ↦ other_by w p (eqb (kind t) 33 && eqb (form t) 0) t ]

-- the steps that walk nothing

sim-first : (p : ℕ) (l r : Tree) (o : Option VarInfo) → Sim (first_by p l r o) (WalkF.first_to p l r o)
sim-first p l r none = sim-skip
sim-first p l r (some b) =
    sim-node (λ s c. b.is_undefined && not (var_inline_prevented b) && not (is_inline_prevented r s.stack)) (λ c. sim-if c
    (sim-act (λ t. grow (change (num l) (λ c. defined (with_value (some r) c)))) (λ a. sim-act (λ t. replace p t r) (λ a. sim_put r))) sim-skip)

sim-sides : (p : ℕ) (l r : Option Tree) → Sim (λ t. Walk.after_sides p t l r) (WalkF.after_sides_f p l r)
unfolding Walk.after_sides
sim-sides p none r = sim-skip
sim-sides p (some l) none = sim-skip
sim-sides p (some l) (some r) = sim-if (is_bind l) (sim-node (λ s c. find_binding_from_current (num l) s.stack) {f = first_by p l r} (sim-first p l r)) sim-skip

sim-after_assign : (p : ℕ) → Sim (Walk.after_assign p) (WalkF.after_assign_f p)
unfolding Walk.after_assign WalkF.after_assign_f
sim-after_assign p = sim-ask (λ s t. head_t (kids t)) (λ l. sim-ask (λ s t. head_t (tail_f (kids t))) (λ r. sim-sides p l r))

sim-ident_analysis : Sim Walk.ident_analysis WalkF.ident_analysis_f
unfolding Walk.ident_analysis WalkF.ident_analysis_f WalkF.test_read
sim-ident_analysis = sim-act WalkF.test_read (λ a. sim-act (λ t. mark (add_read (num t) (eqb (form t) 1))) (λ a. sim-skip))

module _ {w : Walks} {v : WalkF.WalksF} (h : Sims w v) where
  pub sim-stmts : (p : ℕ) → SimF (Walk.visit_mut_stmts w p) (WalkF.visit_mut_stmts_f v p)
  unfolding Walk.visit_mut_stmts WalkF.visit_mut_stmts_f
  sim-stmts p =
      sim_f-ask (λ s. s.inlining) (λ b. sim_f-if b
      (sim_f-act (λ ts. modify (set_inlining false)) (λ a. sim_f-then (sim-each (h.full p)) (sim_f-act (λ ts. modify (set_inlining true)) (λ a. sim-each (h.full p)))))
      (sim-each (h.full p)))

  pub sim-plain : (p : ℕ) → Sim (Walk.plain w p) (WalkF.plain_f v p)
  unfolding WalkF.plain_f
  sim-plain p = sim-on_kids (sim-each (h.full (suc p)))

  pub sim-block : (p : ℕ) → Sim (Walk.visit_mut_block_stmt w p) (WalkF.visit_mut_block_stmt_f v p)
  unfolding Walk.visit_mut_block_stmt WalkF.visit_mut_block_stmt_f
  sim-block p = sim-within (opening block) restore (sim-on_kids (sim-stmts (suc p)))

  pub sim-script : (p : ℕ) → Sim (Walk.script_walk w p) (WalkF.script_f v p)
  unfolding Walk.script_walk WalkF.script_f
  sim-script p = sim-on_kids (sim-stmts (suc p))

  pub sim-branch : (p : ℕ) (k : ScopeKind) → Sim (Walk.visit_with_child w p k) (WalkF.visit_with_child_f v p k)
  unfolding Walk.visit_with_child WalkF.visit_with_child_f
  sim-branch p k = sim-within (opening k) restore (h.bare p)

  pub sim-decl : (p : ℕ) → Sim (Walk.visit_mut_var_decl w p) (WalkF.visit_mut_var_decl_f v p)
  unfolding Walk.visit_mut_var_decl WalkF.visit_mut_var_decl_f
  sim-decl p = sim-act_n (λ c. modify (set_var_decl_kind (decl_kind_of c.form))) (λ a. sim-plain p)

  pub sim-name : (p : ℕ) → SimF (Walk.name_last w p) (WalkF.name_last_f v p)
  sim-name p = sim-split (h.full (suc p)) sim-skips

  pub sim-inlining : (p : ℕ) (k : VarType) (name : Tree) → SimR (Walk.declr_inlining w p k name) (WalkF.declr_inlining_f v p k name)
  unfolding Walk.declr_inlining WalkF.declr_inlining_f
  sim-inlining p k name = sim_r-ask (λ s ts. stays name ts s.stack) (λ b. sim_r-if b (sim_r-same sim-skips) (sim_r-cut_first (takes k name) (sim-split (h.full (suc p)) sim-skips)))

  pub sim-declr_to : (p : ℕ) (o : Option Tree) (b : Bool) (k : VarType) → SimR (Walk.declr_to w p o b k) (WalkF.declr_to_f v p o b k)
  unfolding Walk.declr_to WalkF.declr_to_f
  sim-declr_to p none b k = sim_r-same (sim-name p)
  sim-declr_to p (some name) b k =
      sim_r-if b (sim_r-if (is_const k) (sim_r-same (sim-name p)) (sim_r-split sim-skip (sim-inlining p k name)))
      (sim_r-act (over_m name) (λ over. sim_r-if over (sim_r-same sim-skips) (sim_r-same (sim-name p))))

  pub sim-declr : (p : ℕ) → Sim (Walk.visit_mut_var_declarator w p) (WalkF.visit_mut_var_declarator_f v p)
  unfolding Walk.visit_mut_var_declarator WalkF.visit_mut_var_declarator_f
  sim-declr p =
      sim-re_kids (sim_r-then (sim-split sim-skip (sim-each (h.full (suc p)))) (sim_r-act (λ ts. modify (set_pat_mode declaring)) (λ a.
      sim_r-ask (λ s ts. head_bind ts) (λ o. sim_r-ask (λ s ts. s.inlining) (λ b. sim_r-ask (λ s ts. s.var_decl_kind) (λ k. sim-declr_to p o b k))))))

  pub sim-function : (p : ℕ) (b : Bool) → SimF (Walk.visit_mut_function w p b) (WalkF.visit_mut_function_f v p b)
  unfolding Walk.visit_mut_function WalkF.visit_mut_function_f
  sim-function p b = sim_f-within (opening (fn b)) restore (sim_f-act (λ ts. modify (set_pat_mode as_param)) (λ a. sim-each_but (h.full (suc p)) (h.inner (suc p))))

  pub sim-fun : (p : ℕ) → Sim (Walk.visit_mut_fn_decl w p) (WalkF.visit_mut_fn_decl_f v p)
  unfolding Walk.visit_mut_fn_decl WalkF.visit_mut_fn_decl_f
  sim-fun p = sim-act (λ t. declare_name (head_t (kids t))) (λ a. sim-on_kids (sim-split sim-skip (sim-function p true)))

  pub sim-fun_expr : (p : ℕ) → Sim (Walk.visit_mut_fn_expr w p) (WalkF.visit_mut_fn_expr_f v p)
  unfolding Walk.visit_mut_fn_expr WalkF.visit_mut_fn_expr_f
  sim-fun_expr p = sim-node (λ s c. eqb c.form 1) (λ b. sim-if b (sim-act (λ t. write_name (head_t (kids t))) (λ a. sim-on_kids (sim-split sim-skip (sim-function p false)))) (sim-on_kids (sim-function p false)))

  pub sim-arrow : (p : ℕ) → Sim (Walk.visit_mut_arrow_expr w p) (WalkF.visit_mut_arrow_expr_f v p)
  unfolding Walk.visit_mut_arrow_expr WalkF.visit_mut_arrow_expr_f
  sim-arrow p = sim-within (opening (fn false)) restore (sim-plain p)

  pub sim-tested : (p : ℕ) → Sim (Walk.tested w p) (WalkF.tested_f v p)
  unfolding Walk.tested WalkF.tested_f
  sim-tested p = sim-within (modify (set_in_test true)) (λ old s. set_in_test old.in_test s) (h.full p)

  pub sim-ifs : (p : ℕ) → Sim (Walk.visit_mut_if_stmt w p) (WalkF.visit_mut_if_stmt_f v p)
  unfolding Walk.visit_mut_if_stmt WalkF.visit_mut_if_stmt_f
  sim-ifs p = sim-on_kids (sim-split (sim-tested (suc p)) (sim-each (sim-branch (suc p) cond)))

  pub sim-while : (p : ℕ) → Sim (Walk.visit_mut_while_stmt w p) (WalkF.visit_mut_while_stmt_f v p)
  unfolding Walk.visit_mut_while_stmt WalkF.visit_mut_while_stmt_f
  sim-while p = sim-act (λ t. write_forest true (but_last (kids t))) (λ a. sim-on_kids (sim-each_but (h.full (suc p)) (sim-branch (suc p) loop)))

  pub sim-for : (p : ℕ) → Sim (Walk.visit_mut_for_stmt w p) (WalkF.visit_mut_for_stmt_f v p)
  unfolding Walk.visit_mut_for_stmt WalkF.visit_mut_for_stmt_f
  sim-for p =
      sim-act (λ t. write_forest true (but_last (kids t))) (λ a. sim-node (λ s c. eqb c.form 0) (λ b.
      sim-tap (λ u. when b store_inline_barrier_m) (sim-on_kids (sim-each_but (h.full (suc p)) (sim-branch (suc p) loop)))))

  pub sim-for_in : (p : ℕ) → Sim (Walk.visit_mut_for_in_stmt w p) (WalkF.visit_mut_for_in_stmt_f v p)
  unfolding Walk.visit_mut_for_in_stmt WalkF.visit_mut_for_in_stmt_f
  sim-for_in p =
      sim-act (λ t. modify (set_pat_mode as_param)) (λ a. sim-on_kids (sim-split (sim-tap (write_tree true) (h.full (suc p)))
      (sim_f-act (λ ts. write_forest true (but_last ts)) (λ a. sim-each_but (h.full (suc p)) (sim-branch (suc p) loop)))))

  pub sim-try : (p : ℕ) → Sim (Walk.visit_mut_try_stmt w p) (WalkF.visit_mut_try_stmt_f v p)
  unfolding Walk.visit_mut_try_stmt WalkF.visit_mut_try_stmt_f
  sim-try p = sim-on_kids (sim-split (sim-act (write_tree true) (λ a. sim-skip)) (sim-each (sim-node (λ s c. eqb c.kind 17) (λ b. sim-if b (h.full (suc p)) sim-skip))))

  pub sim-catch_param : (p : ℕ) → Sim (Walk.catch_param w p) (WalkF.catch_param_f v p)
  unfolding Walk.catch_param WalkF.catch_param_f
  sim-catch_param p = sim-tap (λ b s. when (not s.inlining) (mark (prevent_each (bound_names b []))) s) (h.full p)

  pub sim-catch : (p : ℕ) → Sim (Walk.visit_mut_catch_clause w p) (WalkF.visit_mut_catch_clause_f v p)
  unfolding Walk.visit_mut_catch_clause WalkF.visit_mut_catch_clause_f
  sim-catch p = sim-within (opening block) restore (sim-act (λ t. modify (set_pat_mode as_catch)) (λ a. sim-on_kids (sim-each_but (sim-catch_param (suc p)) (h.full (suc p)))))

  pub sim-case : (p : ℕ) → Sim (Walk.visit_mut_switch_case w p) (WalkF.visit_mut_switch_case_f v p)
  unfolding Walk.visit_mut_switch_case WalkF.visit_mut_switch_case_f
  sim-case p = sim-within (opening block) restore (sim-node (λ s c. eqb c.form 1) (λ b. sim-if b (sim-on_kids (sim-split (h.full (suc p)) (sim-stmts (suc p)))) (sim-on_kids (sim-stmts (suc p)))))

  pub sim-pat : (p : ℕ) → Sim (Walk.visit_mut_pat w p) (WalkF.visit_mut_pat_f v p)
  unfolding Walk.visit_mut_pat WalkF.visit_mut_pat_f
  sim-pat p = sim-act (λ t s. when (is_bind t) (pat_by s.pat_mode t) s) (λ a. sim-skip)

  pub sim-unary : (p : ℕ) → Sim (Walk.visit_mut_unary_expr w p) (WalkF.visit_mut_unary_expr_f v p)
  unfolding Walk.visit_mut_unary_expr WalkF.visit_mut_unary_expr_f
  sim-unary p = sim-node (λ s c. eqb c.form 6) (λ b. sim-if b (sim-act (λ t. write_forest true (kids t)) (λ a. sim-skip)) (sim-plain p))

  pub sim-update : (p : ℕ) → Sim (Walk.visit_mut_update_expr w p) (WalkF.visit_mut_update_expr_f v p)
  unfolding Walk.visit_mut_update_expr WalkF.visit_mut_update_expr_f
  sim-update p = sim-act (λ t. write_forest true (kids t)) (λ a. sim-skip)

  pub sim-call : (b : Bool) (p : ℕ) → Sim (Walk.visit_mut_call_expr b w p) (WalkF.visit_mut_call_expr_f b v p)
  unfolding Walk.visit_mut_call_expr WalkF.visit_mut_call_expr_f
  sim-call b p =
      sim-tap (λ u. store_inline_barrier_m) (sim-on_kids (sim-split (sim-tap (λ c s. when (not s.inlining) (mark (mark_this_sensitive (ident_of (some c)))) s) (h.full (suc p)))
      (sim_f-act (λ ts. when b (write_forest false ts)) (λ a. sim-each (h.full (suc p))))))

  pub sim-assign_kids : (p f : ℕ) (pat : Bool) → SimF (Walk.assign_kids w p f pat) (WalkF.assign_kids_f v p f pat)
  unfolding Walk.assign_kids WalkF.assign_kids_f
  sim-assign_kids p f pat = sim_f-act (assign_first f) (λ a. sim_f-tap assign_last (sim_f-if pat (sim-each (h.full (suc p))) (sim-split sim-skip (sim-each (h.full (suc p))))))

  pub sim-assign : (p : ℕ) → Sim (Walk.visit_mut_assign_expr w p) (WalkF.visit_mut_assign_expr_f v p)
  unfolding Walk.visit_mut_assign_expr WalkF.visit_mut_assign_expr_f
  sim-assign p = sim-act (λ t. modify (set_pat_mode assigning)) (λ a. sim-node (λ s c. c.form) (λ f. sim-ask (λ s t. to_pattern t) (λ pat. sim-on_kids (sim-assign_kids p f pat))))

  pub sim-handle : (k : Handler) (p : ℕ) → Sim (Walk.handle k w p) (WalkF.handle_f k v p)
  unfolding Walk.handle WalkF.handle_f
  sim-handle h_plain p = sim-plain p
  sim-handle h_script p = sim-script p
  sim-handle h_block p = sim-block p
  sim-handle h_decl p = sim-decl p
  sim-handle h_declr p = sim-declr p
  sim-handle h_fun p = sim-fun p
  sim-handle h_if p = sim-ifs p
  sim-handle h_while p = sim-while p
  sim-handle h_for p = sim-for p
  sim-handle h_for_in p = sim-for_in p
  sim-handle h_try p = sim-try p
  sim-handle h_catch p = sim-catch p
  sim-handle h_case p = sim-case p
  sim-handle h_pat p = sim-pat p
  sim-handle h_unary p = sim-unary p
  sim-handle h_update p = sim-update p
  sim-handle h_assign p = sim-assign p
  sim-handle h_call p = sim-call true p
  sim-handle h_new p = sim-call false p
  sim-handle h_fun_expr p = sim-fun_expr p
  sim-handle h_arrow p = sim-arrow p

  pub sim-own : (p : ℕ) → Sim (Walk.own w p) (WalkF.own_f v p)
  unfolding Walk.own WalkF.own_f
  sim-own p = sim-node (λ s c. handler_of (kind_of c.kind)) (λ k. sim-handle k p)

  -- the steps after a node's own handler

  pub sim-logical : (p : ℕ) → Sim (Walk.logical w p) (WalkF.logical_f v p)
  unfolding Walk.logical WalkF.logical_f
  sim-logical p =
      sim-node (λ s c. eqb c.kind 32 && ltb c.form 2) (λ b. sim-if b
      (sim-on_kids (sim-split sim-skip (sim-each (sim-within deeper shallower (sim-within (opening cond) restore (h.bare (suc p))))))) sim-skip)

  pub sim-inline : (p : ℕ) (b : VarInfo) (o : Option Tree) → Sim (λ t. Walk.inline_value w p t b o) (WalkF.inline_value_f v p b o)
  unfolding Walk.inline_value
  sim-inline p b none = sim-if b.is_undefined (sim-act (λ t. replace p t void_zero) (λ a. sim_put void_zero)) sim-skip
  sim-inline p b (some e) = sim-act (λ t. when (not (same_ident t e)) (modify (λ s. Walk.tally (num t) (set_changed true s)))) (λ a. sim-act (λ t. replace p t e) (λ a. sim_then (sim_put e) (sim-logical p)))

  pub sim-found : (p : ℕ) (o : Option VarInfo) → Sim (found_by w p o) (WalkF.found_f v p o)
  sim-found p none = sim-skip
  sim-found p (some b) = sim-if (var_inline_prevented b) sim-skip (sim-inline p b b.value)

  pub sim-ident_inlining : (p : ℕ) → Sim (Walk.ident_inlining w p) (WalkF.ident_inlining_f v p)
  unfolding Walk.ident_inlining WalkF.ident_inlining_f
  sim-ident_inlining p = sim-node (λ s c. find_binding c.num s.stack) {f = found_by w p} (sim-found p)

  pub sim-const : (p : ℕ) (o : Option Tree) → Sim (λ t. Walk.by_const w p t o) (WalkF.by_const_f v p o)
  unfolding Walk.by_const
  sim-const p none = sim-node (λ s c. s.inlining) (λ b. sim-if b (sim-ident_inlining p) sim-ident_analysis)
  sim-const p (some e) = sim-act (λ t. modify (set_changed true)) (λ a. sim-act (λ t. replace p t e) (λ a. sim_then (sim_put e) (h.full p)))

  pub sim-after_ident : (p : ℕ) → Sim (Walk.after_ident w p) (WalkF.after_ident_f v p)
  unfolding Walk.after_ident WalkF.after_ident_f
  sim-after_ident p = sim-node (λ s c. pick s.is_first_run (find_constant c.num s.stack) none) (sim-const p)

  pub sim-after_other : (p : ℕ) (b : Bool) → Sim (other_by w p b) (WalkF.after_by v p false b)
  sim-after_other p true = sim-node (λ s c. s.inlining) (λ b. sim-if b (sim-after_assign p) sim-skip)
  sim-after_other p false = sim-logical p

  pub sim-after_by : (p : ℕ) (b : Bool) → Sim (after_by w p b) (λ i st. WalkF.after_by v p b (is_assign (Combine.node_at st i)) i st)
  sim-after_by p true = sim-after_ident p
  sim-after_by p false = sim-node (λ s c. is_assign c) {f = other_by w p} (sim-after_other p)

  pub sim-after : (p : ℕ) → Sim (Walk.after w p) (WalkF.after_f v p)
  unfolding Walk.after WalkF.after_f
  sim-after p = sim-node (λ s c. eqb c.kind 21) {f = after_by w p} (sim-after_by p)

  pub sim-full : (p : ℕ) → Sim (Walk.visit_mut_expr w p) (WalkF.visit_mut_expr_f v p)
  unfolding Walk.visit_mut_expr WalkF.visit_mut_expr_f
  sim-full p = sim_then (sim-own p) (sim-after p)

-- the knot, by depth
pub sims : (d : ℕ) → Sims (Walk.walks d) (WalkF.walks_f d)
unfolding Walk.walks WalkF.walks_f
sims zero = record { full = λ p. sim-refuse 8; bare = λ p. sim-refuse 8; inner = λ p. sim-refuse 8 }
sims (suc d) = record { full = sim-full (sims d); bare = sim-own (sims d); inner = sim-script (sims d) }

pub sim-run : Sim Walk.run WalkF.run_f
unfolding Walk.run WalkF.run_f
sim-run =
    sim-act (λ t. modify (set_inlining false)) (λ a. sim_then (sim-own (sims 199) 1)
    (sim-act (λ t. modify (set_inlining true)) (λ a. sim-tap (λ u. modify (set_inlining false)) (sim-own (sims 199) 1))))

-- a run of the whole script: what the port's entry needs
pub whole_run : (t : Tree) (s : St) → WalkF.run_f 0 (record { nodes = flat t []; rest = s }) ≡ carry {F = Flat St} (λ s₁ u. record { nodes = flat u []; rest = s₁ }) count (Walk.run t s)
whole_run t s = sim-run.run [] [] s t ∙ go (Walk.run t s)
  where
    go : (r : Res St Tree) → carry {F = Flat St} (λ s₁ u. record { nodes = flat u []; rest = s₁ }) (λ u. length (past u [])) r ≡ carry {F = Flat St} (λ s₁ u. record { nodes = flat u []; rest = s₁ }) count r
    go (stop n) = refl
    go (done s₁ u) = rw (length-past u [], zero-add (count u)) refl

-- the whole pass
again-same : (k : ℕ) (go : Tree → St → Walk.Outcome) (goF : Flat St → WalkF.OutcomeF) → ((t : Tree) (s : St) → goF (record { nodes = flat t []; rest = s }) ≡ WalkF.flat_outcome (go t s)) → (r : Res St Tree)
    → WalkF.again_f goF k (carry {F = Flat St} (λ s u. record { nodes = flat u []; rest = s }) count r) ≡ WalkF.flat_outcome (Walk.again go k r)
again-same k go goF h (stop n) = refl
again-same k go goF h (done s t) = by s.changed
  where
    by : (b : Bool) → elim b [ true ↦ goF (record { nodes = flat t []; rest = Walk.set_is_first_run false s }) | false ↦ WalkF.result_f k false (flat t []) (Walk.root_marks s.stack) ]
        ≡ WalkF.flat_outcome (elim b [ true ↦ go t (Walk.set_is_first_run false s) | false ↦ Walk.result k false t (Walk.root_marks s.stack) ])
    by true = h t (Walk.set_is_first_run false s)
    by false = refl

pub runs_same : (n k : ℕ) (t : Tree) (s : St) → WalkF.runs_f n k (record { nodes = flat t []; rest = s }) ≡ WalkF.flat_outcome (Walk.runs n k t s)
unfolding Walk.runs WalkF.runs_f
runs_same zero k t s = refl
runs_same (suc n) k t s = rw (whole_run t (set_changed false s)) (again-same (suc k) (Walk.runs n (suc k)) (WalkF.runs_f n (suc k)) (runs_same n (suc k)) (Walk.run t (set_changed false s)))

-- the list of a tree's nodes goes through the pass as the tree does: with this the port's entry meets the public definition
pub pass_same : (n : ℕ) (t : Tree) → WalkF.runs_f n 0 (record { nodes = flat (flagged t) []; rest = Walk.start t }) ≡ WalkF.flat_outcome (Walk.core_pass n t)
unfolding Walk.core_pass
pass_same n t = runs_same n 0 (flagged t) (Walk.start t)
