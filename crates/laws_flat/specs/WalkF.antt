-- The walks of Walk, on the list of nodes with an index: each part of a handler under its other name (Combine of the crate `def_tree`).
-- Each stands for the Rust item that Walk names at the one of the same name (`visit_mut_block_stmt_f`: `visit_mut_block_stmt`).
-- This is what the port's functions are proved against. Assumes nothing: these are definitions.
use Rattle.std.specs.Prelude.{Bool, true, false, ◌&&◌, not, List, [], ℕ, zero, suc, eqb, ltb}
use Rattle.std.proofs.Math.Option.{Option, none, some}
use Rattle.def_tree.specs.Base.{pick}
use Rattle.def_file.specs.declared.kind.Kind.TheVariants.{CatchClause, Ident, Bin, Assign}
use Rattle.def_file.specs.Named.{kind_of, is_kind}
use Rattle.def_pass.specs.Tree.{Tree, form, num, kids, head_t, tail_f, void_zero, bound_names}
use Rattle.def_pass.specs.Scope.{VarType, is_const, ScopeKind, cond, loop, block, fn, VarInfo, prevent_inline, prevent_each, is_inline_prevented, var_inline_prevented, find_binding, find_binding_from_current, find_constant, add_read, mark_this_sensitive, ident_of, change, with_value, defined}
use Rattle.def_tree.specs.Tree.{Core, flat}
use Rattle.def_tree.specs.Combine.{Res, stop, done, M as MS, Nothing, ◌>>=◌, ◌>>◌, ret, refuse, iff, Flat, node_at, tree_at, forest_at, Walk as One, Walks as Many, ReWalks, on_rest, act_n, act, act_f, within_f, skip, skips, put, many, split_f, each_but_f, on_kids_f, re_kids_f, same, split_r, cut_first}
use Rattle.def_pass.specs.Walk.{Rooted, Outcome, refused, result, root_marks, set_is_first_run, St, tally, Handler, h_plain, h_script, h_block, h_decl, h_declr, h_fun, h_if, h_while, h_for, h_for_in, h_try, h_catch, h_case, h_pat, h_unary, h_update, h_assign, h_call, h_new, h_fun_expr, h_arrow, handler_of, when, modify, mark, grow, replace, restore, opening, deeper, shallower, set_inlining, set_var_decl_kind, set_pat_mode, set_in_test, set_changed, declaring, assigning, as_param, as_catch, decl_kind_of, declare_name, write_name, write_tree, write_forest, but_last, store_inline_barrier_m, is_bind, pat_by, over_m, stays, takes, head_bind, assign_first, assign_last, to_pattern, same_ident, cheap_o}

abbrev pub F : Type 0 → Type 0
F A = MS (Flat St) A

pub record WalksF : Type 0 where
  pub full : ℕ → One St
  pub bare : ℕ → One St
  pub inner : ℕ → One St

abbrev pub in_scope_f : {A : Type 0} → ScopeKind → F A → F A
in_scope_f k m = within_f (opening k) restore m

abbrev pub in_cond_f : {A : Type 0} → F A → F A
in_cond_f m = within_f deeper shallower (in_scope_f cond m)

unfoldable pub visit_mut_stmts_f : WalksF → ℕ → Many St
visit_mut_stmts_f v p n i = λ st. iff st.rest.inlining (do
  on_rest (modify (set_inlining false))
  j ← many (v.full p) n i
  on_rest (modify (set_inlining true))
  many (v.full p) n i) (many (v.full p) n i) st

unfoldable pub plain_f : WalksF → ℕ → One St
plain_f v p i = on_kids_f (many (v.full (suc p))) i

unfoldable pub visit_mut_block_stmt_f : WalksF → ℕ → One St
visit_mut_block_stmt_f v p i = in_scope_f block (on_kids_f (visit_mut_stmts_f v (suc p)) i)

unfoldable pub script_f : WalksF → ℕ → One St
script_f v p i = on_kids_f (visit_mut_stmts_f v (suc p)) i

unfoldable pub visit_with_child_f : WalksF → ℕ → ScopeKind → One St
visit_with_child_f v p k i = in_scope_f k (v.bare p i)

unfoldable pub visit_mut_var_decl_f : WalksF → ℕ → One St
visit_mut_var_decl_f v p i = act_n (λ c. modify (set_var_decl_kind (decl_kind_of c.form))) i >> plain_f v p i

abbrev pub name_last_f : WalksF → ℕ → Many St
name_last_f v p n i = split_f (v.full (suc p)) skips n i

unfoldable pub declr_inlining_f : WalksF → ℕ → VarType → Tree → ReWalks St
declr_inlining_f v p k name n i = λ st. iff (stays name (forest_at st n i) st.rest.stack) (same skips n i) (do
  j ← split_f (v.full (suc p)) skips n i
  gone ← act_f (takes k name) n i
  iff gone (cut_first n i j) (ret (n, j))) st

unfoldable pub declr_to_f : WalksF → ℕ → Option Tree → Bool → VarType → ReWalks St
declr_to_f v p none inl k n i = same (name_last_f v p) n i
declr_to_f v p (some name) inl k n i = iff inl (iff (is_const k) (same (name_last_f v p) n i) (split_r skip (declr_inlining_f v p k name) n i)) (do
  over ← act_f (over_m name) n i
  iff over (same skips n i) (same (name_last_f v p) n i))

unfoldable pub visit_mut_var_declarator_f : WalksF → ℕ → One St
visit_mut_var_declarator_f v p i = re_kids_f (λ n i₁. do
  j ← split_f skip (many (v.full (suc p))) n i₁
  on_rest (modify (set_pat_mode declaring))
  (λ st. declr_to_f v p (head_bind (forest_at st n i₁)) st.rest.inlining st.rest.var_decl_kind n i₁ st)) i

unfoldable pub visit_mut_function_f : WalksF → ℕ → Bool → Many St
visit_mut_function_f v p named n i = in_scope_f (fn named) (on_rest (modify (set_pat_mode as_param)) >> each_but_f (v.full (suc p)) (v.inner (suc p)) n i)

unfoldable pub visit_mut_fn_decl_f : WalksF → ℕ → One St
visit_mut_fn_decl_f v p i = act (λ t. declare_name (head_t (kids t))) i >> on_kids_f (split_f skip (visit_mut_function_f v p true)) i

unfoldable pub visit_mut_fn_expr_f : WalksF → ℕ → One St
visit_mut_fn_expr_f v p i = λ st. iff (eqb (node_at st i).form 1) (act (λ t. write_name (head_t (kids t))) i >> on_kids_f (split_f skip (visit_mut_function_f v p false)) i) (on_kids_f (visit_mut_function_f v p false) i) st

unfoldable pub visit_mut_arrow_expr_f : WalksF → ℕ → One St
visit_mut_arrow_expr_f v p i = in_scope_f (fn false) (plain_f v p i)

unfoldable pub tested_f : WalksF → ℕ → One St
tested_f v p i = within_f (modify (set_in_test true)) (λ old s. set_in_test old.in_test s) (v.full p i)

unfoldable pub visit_mut_if_stmt_f : WalksF → ℕ → One St
visit_mut_if_stmt_f v p i = on_kids_f (split_f (tested_f v (suc p)) (many (visit_with_child_f v (suc p) cond))) i

unfoldable pub visit_mut_while_stmt_f : WalksF → ℕ → One St
visit_mut_while_stmt_f v p i = act (λ t. write_forest true (but_last (kids t))) i >> on_kids_f (each_but_f (v.full (suc p)) (visit_with_child_f v (suc p) loop)) i

unfoldable pub visit_mut_for_stmt_f : WalksF → ℕ → One St
visit_mut_for_stmt_f v p i = do
  act (λ t. write_forest true (but_last (kids t))) i
  (λ st. (do
    j ← on_kids_f (each_but_f (v.full (suc p)) (visit_with_child_f v (suc p) loop)) i
    on_rest (when (eqb (node_at st i).form 0) store_inline_barrier_m)
    ret j) st)

unfoldable pub visit_mut_for_in_stmt_f : WalksF → ℕ → One St
visit_mut_for_in_stmt_f v p i = do
  on_rest (modify (set_pat_mode as_param))
  on_kids_f (split_f (λ i₁. do
    j ← v.full (suc p) i₁
    act (write_tree true) i₁
    ret j) (λ n i₁. do
      act_f (λ ts. write_forest true (but_last ts)) n i₁
      each_but_f (v.full (suc p)) (visit_with_child_f v (suc p) loop) n i₁)) i

unfoldable pub visit_mut_try_stmt_f : WalksF → ℕ → One St
visit_mut_try_stmt_f v p i = on_kids_f (split_f (λ i₁. act (write_tree true) i₁ >> skip i₁) (many (λ i₁ st. iff (is_kind CatchClause (node_at st i₁).kind) (v.full (suc p) i₁) (skip i₁) st))) i

unfoldable pub catch_param_f : WalksF → ℕ → One St
catch_param_f v p i = do
  j ← v.full p i
  act (λ b s. when (not s.inlining) (mark (prevent_each (bound_names b []))) s) i
  ret j

unfoldable pub visit_mut_catch_clause_f : WalksF → ℕ → One St
visit_mut_catch_clause_f v p i = in_scope_f block (on_rest (modify (set_pat_mode as_catch)) >> on_kids_f (each_but_f (catch_param_f v (suc p)) (v.full (suc p))) i)

unfoldable pub visit_mut_switch_case_f : WalksF → ℕ → One St
visit_mut_switch_case_f v p i = in_scope_f block (λ st. iff (eqb (node_at st i).form 1) (on_kids_f (split_f (v.full (suc p)) (visit_mut_stmts_f v (suc p))) i) (on_kids_f (visit_mut_stmts_f v (suc p)) i) st)

unfoldable pub visit_mut_pat_f : WalksF → ℕ → One St
visit_mut_pat_f v p i = act (λ t s. when (is_bind t) (pat_by s.pat_mode t) s) i >> skip i

unfoldable pub visit_mut_unary_expr_f : WalksF → ℕ → One St
visit_mut_unary_expr_f v p i = λ st. iff (eqb (node_at st i).form 6) (act (λ t. write_forest true (kids t)) i >> skip i) (plain_f v p i) st

unfoldable pub visit_mut_update_expr_f : WalksF → ℕ → One St
visit_mut_update_expr_f v p i = act (λ t. write_forest true (kids t)) i >> skip i

unfoldable pub visit_mut_call_expr_f : Bool → WalksF → ℕ → One St
visit_mut_call_expr_f call v p i = do
  j ← on_kids_f (split_f (λ i₁. do
    j ← v.full (suc p) i₁
    act (λ c s. when (not s.inlining) (mark (mark_this_sensitive (ident_of (some c)))) s) i₁
    ret j) (λ n i₁. act_f (λ ts. when call (write_forest false ts)) n i₁ >> many (v.full (suc p)) n i₁)) i
  on_rest store_inline_barrier_m
  ret j

unfoldable pub assign_kids_f : WalksF → ℕ → ℕ → Bool → Many St
assign_kids_f v p f pat n i = do
  act_f (assign_first f) n i
  j ← iff pat (many (v.full (suc p)) n i) (split_f skip (many (v.full (suc p))) n i)
  act_f assign_last n i
  ret j

unfoldable pub visit_mut_assign_expr_f : WalksF → ℕ → One St
visit_mut_assign_expr_f v p i = on_rest (modify (set_pat_mode assigning)) >> (λ st. on_kids_f (assign_kids_f v p (node_at st i).form (to_pattern (tree_at st i))) i st)

unfoldable pub handle_f : Handler → WalksF → ℕ → One St
handle_f h_plain v p i = plain_f v p i
handle_f h_script v p i = script_f v p i
handle_f h_block v p i = visit_mut_block_stmt_f v p i
handle_f h_decl v p i = visit_mut_var_decl_f v p i
handle_f h_declr v p i = visit_mut_var_declarator_f v p i
handle_f h_fun v p i = visit_mut_fn_decl_f v p i
handle_f h_if v p i = visit_mut_if_stmt_f v p i
handle_f h_while v p i = visit_mut_while_stmt_f v p i
handle_f h_for v p i = visit_mut_for_stmt_f v p i
handle_f h_for_in v p i = visit_mut_for_in_stmt_f v p i
handle_f h_try v p i = visit_mut_try_stmt_f v p i
handle_f h_catch v p i = visit_mut_catch_clause_f v p i
handle_f h_case v p i = visit_mut_switch_case_f v p i
handle_f h_pat v p i = visit_mut_pat_f v p i
handle_f h_unary v p i = visit_mut_unary_expr_f v p i
handle_f h_update v p i = visit_mut_update_expr_f v p i
handle_f h_assign v p i = visit_mut_assign_expr_f v p i
handle_f h_call v p i = visit_mut_call_expr_f true v p i
handle_f h_new v p i = visit_mut_call_expr_f false v p i
handle_f h_fun_expr v p i = visit_mut_fn_expr_f v p i
handle_f h_arrow v p i = visit_mut_arrow_expr_f v p i

unfoldable pub own_f : WalksF → ℕ → One St
own_f v p i = λ st. handle_f (handler_of (kind_of (node_at st i).kind)) v p i st

-- the steps after a node's own handler

unfoldable pub logical_f : WalksF → ℕ → One St
logical_f v p i = λ st. iff (is_kind Bin (node_at st i).kind && ltb (node_at st i).form 2) (on_kids_f (split_f skip (many (λ r. in_cond_f (v.bare (suc p) r)))) i) (skip i) st

abbrev pub first_to : ℕ → Tree → Tree → Option VarInfo → One St
first_to p l r none i = skip i
first_to p l r (some b) i = λ st. iff (b.is_undefined && not (var_inline_prevented b) && not (is_inline_prevented r st.rest.stack)) (do
  on_rest (grow (change (num l) (λ c. defined (with_value (some r) c))))
  act (λ t. replace p t r) i
  put r i) (skip i) st

abbrev pub after_sides_f : ℕ → Option Tree → Option Tree → One St
after_sides_f p none r i = skip i
after_sides_f p (some l) none i = skip i
after_sides_f p (some l) (some r) i = iff (is_bind l) (λ st. first_to p l r (find_binding_from_current (num l) st.rest.stack) i st) (skip i)

unfoldable pub after_assign_f : ℕ → One St
after_assign_f p i = λ st. after_sides_f p (head_t (kids (tree_at st i))) (head_t (tail_f (kids (tree_at st i)))) i st

unfoldable pub test_read : Tree → St → Res St Nothing
test_read t s = when s.in_test (λ s₁. elim (find_binding (num t) s₁.stack) [ none ↦ done s₁ tt | some b ↦ when (not (cheap_o b.value)) (mark (prevent_inline (num t))) s₁ ]) s

unfoldable pub ident_analysis_f : One St
ident_analysis_f i = do
  act test_read i
  act (λ t. mark (add_read (num t) (eqb (form t) 1))) i
  skip i

abbrev pub inline_value_f : WalksF → ℕ → VarInfo → Option Tree → One St
inline_value_f v p b none i = iff b.is_undefined (act (λ t. replace p t void_zero) i >> put void_zero i) (skip i)
inline_value_f v p b (some e) i = do
  act (λ t. when (not (same_ident t e)) (modify (λ s. tally (num t) (set_changed true s)))) i
  act (λ t. replace p t e) i
  j ← put e i
  logical_f v p i

abbrev pub found_f : WalksF → ℕ → Option VarInfo → One St
found_f v p none i = skip i
found_f v p (some b) i = iff (var_inline_prevented b) (skip i) (inline_value_f v p b b.value i)

unfoldable pub ident_inlining_f : WalksF → ℕ → One St
ident_inlining_f v p i = λ st. found_f v p (find_binding (node_at st i).num st.rest.stack) i st

abbrev pub by_const_f : WalksF → ℕ → Option Tree → One St
by_const_f v p none i = λ st. iff st.rest.inlining (ident_inlining_f v p i) (ident_analysis_f i) st
by_const_f v p (some e) i = do
  on_rest (modify (set_changed true))
  act (λ t. replace p t e) i
  j ← put e i
  v.full p i

unfoldable pub after_ident_f : WalksF → ℕ → One St
after_ident_f v p i = λ st. by_const_f v p (pick st.rest.is_first_run (find_constant (node_at st i).num st.rest.stack) none) i st

abbrev pub after_by : WalksF → ℕ → Bool → Bool → One St
after_by v p true b i = after_ident_f v p i
after_by v p false true i = λ st. iff st.rest.inlining (after_assign_f p i) (skip i) st
after_by v p false false i = logical_f v p i

unfoldable pub after_f : WalksF → ℕ → One St
after_f v p i = λ st. after_by v p (is_kind Ident (node_at st i).kind) (is_kind Assign (node_at st i).kind && eqb (node_at st i).form 0) i st

unfoldable pub visit_mut_expr_f : WalksF → ℕ → One St
visit_mut_expr_f v p i = do
  j ← own_f v p i
  after_f v p i

unfoldable pub walks_f : ℕ → WalksF
walks_f zero = record { full = λ p i. refuse 8; bare = λ p i. refuse 8; inner = λ p i. refuse 8 }
walks_f (suc d) = record { full = visit_mut_expr_f (walks_f d); bare = own_f (walks_f d); inner = script_f (walks_f d) }

unfoldable pub run_f : One St
run_f i = do
  on_rest (modify (set_inlining false))
  j ← own_f (walks_f 199) 1 i
  on_rest (modify (set_inlining true))
  k ← own_f (walks_f 199) 1 i
  on_rest (modify (set_inlining false))
  ret k

-- the pass: runs until one leaves no mark
pub data OutcomeF : Type 0 where
  refused_f : ℕ → OutcomeF
  result_f : ℕ → Bool → List Core → List Rooted → OutcomeF

abbrev pub on_st : (St → St) → Flat St → Flat St
on_st f st = record { nodes = st.nodes; rest = f st.rest }

abbrev pub again_f : (Flat St → OutcomeF) → ℕ → Res (Flat St) ℕ → OutcomeF
again_f go k (stop r) = refused_f r
again_f go k (done st j) = elim st.rest.changed [ true ↦ go (on_st (set_is_first_run false) st) | false ↦ result_f k false st.nodes (root_marks st.rest.stack) ]

unfoldable pub runs_f : ℕ → ℕ → Flat St → OutcomeF
runs_f zero k st = result_f k true st.nodes (root_marks st.rest.stack)
runs_f (suc n) k st = again_f (runs_f n (suc k)) (suc k) (run_f 0 (on_st (set_changed false) st))

-- the definition's outcome, with the tree as the port writes it
abbrev pub flat_outcome : Outcome → OutcomeF
flat_outcome (refused n) = refused_f n
flat_outcome (result k c t ms) = result_f k c (flat t []) ms
