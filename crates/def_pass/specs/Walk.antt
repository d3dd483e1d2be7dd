-- mod.rs: the walks over the core tree, with refusals 8 and 9.
-- Open recursion: a handler is no recursive function. It takes the walks of one depth less, `w`, and `walks` ties the knot by falling depth.
use Rattle.std.specs.Prelude.{Bool, true, false, ◌&&◌, ◌||◌, not, List, [], ◌∷◌, map, ℕ, zero, suc, ◌+◌, ◌-◌, eqb, ltb, leb, length}
use Rattle.std.proofs.Math.Option.{Option, none, some}
use Rattle.def_tree.specs.Combine.{Res, stop, done, M as MS, Nothing, ◌>>=◌, ◌>>◌, ret, refuse, iff, within, each, split, each_but, on_kids}
use Rattle.def_tree.specs.Base.{pick}
use Rattle.def_file.specs.declared.kind.Kind.{Kind}
use Rattle.def_file.specs.declared.kind.Kind.TheVariants.{Script, Block, VarDecl, VarDeclarator, FnDecl, If, While, DoWhile, For, ForIn, ForOf, Try, CatchClause, SwitchCase, BindingIdent, Ident, Unary, Update, Bin, Assign, Call, New, FnExpr, Arrow}
use Rattle.def_file.specs.Named.{kind_of, number_of, is_kind}
use Rattle.def_pass.specs.Tree.{Tree, Forest, node, nil, cons, kind, form, num, kids, is_ident, is_cheap, head_t, tail_f, count, height, void_zero, has_this, is_member, is_pattern, bound_names, ident_list, ident_list_f}
use Rattle.def_pass.specs.Targets.{targets}
use Rattle.def_pass.specs.Twice.{is_twice, is_args, unflagged, flagged}
use Rattle.def_pass.specs.Scope.{VarType, param, v_var, v_let, v_const, is_var, is_const, ScopeKind, cond, loop, block, fn, Stack, VarInfo, new_scope, prevent_inline, prevent_each, is_inline_prevented, var_inline_prevented, prevented_o, find_binding, find_binding_from_current, find_constant, add_const, add_read, add_write, mark_this_sensitive, ident_of, store_inline_barrier, has_same_this, Init, no_init, recorded, seen, seen_init, declare, close, change, with_value, defined, wrap, count_one, ending, recorded_nodes, live}

-- PatFoldingMode
pub data PatMode : Type 0 where
  assigning as_param as_catch declaring : PatMode

-- Inlining, without `ident_type` and `pass`, which nothing reads. `inlining`: the phase; `is_first_run`: the first run; `conds`: the right sides open in their Cond scopes; `nodes`: of the tree now; `targeted`: by the script as read (request 8), and never changed;
-- `ended`: the counts of records that are gone, `replaced`: the replacements made so far, both of all runs (request 9)
pub record St : Type 0 where
  pub stack : Stack
  pub changed : Bool
  pub inlining : Bool
  pub is_first_run : Bool
  pub var_decl_kind : VarType
  pub pat_mode : PatMode
  pub in_test : Bool
  pub conds : ℕ
  pub nodes : ℕ
  pub targeted : ℕ → Bool
  pub ended : ℕ
  pub replaced : ℕ

abbrev pub M : Type 0 → Type 0
M A = MS St A

abbrev pub get : M St
get = λ s. done s s

abbrev pub when : Bool → M Nothing → M Nothing
when b m = iff b m (ret tt)

-- changes of one field
abbrev pub set_stack : Stack → St → St
set_stack x s = record { stack = x; changed = s.changed; inlining = s.inlining; is_first_run = s.is_first_run; var_decl_kind = s.var_decl_kind; pat_mode = s.pat_mode; in_test = s.in_test; conds = s.conds; nodes = s.nodes; targeted = s.targeted; ended = s.ended; replaced = s.replaced }

abbrev pub set_changed : Bool → St → St
set_changed x s = record { stack = s.stack; changed = x; inlining = s.inlining; is_first_run = s.is_first_run; var_decl_kind = s.var_decl_kind; pat_mode = s.pat_mode; in_test = s.in_test; conds = s.conds; nodes = s.nodes; targeted = s.targeted; ended = s.ended; replaced = s.replaced }

abbrev pub set_inlining : Bool → St → St
set_inlining x s = record { stack = s.stack; changed = s.changed; inlining = x; is_first_run = s.is_first_run; var_decl_kind = s.var_decl_kind; pat_mode = s.pat_mode; in_test = s.in_test; conds = s.conds; nodes = s.nodes; targeted = s.targeted; ended = s.ended; replaced = s.replaced }

abbrev pub set_is_first_run : Bool → St → St
set_is_first_run x s = record { stack = s.stack; changed = s.changed; inlining = s.inlining; is_first_run = x; var_decl_kind = s.var_decl_kind; pat_mode = s.pat_mode; in_test = s.in_test; conds = s.conds; nodes = s.nodes; targeted = s.targeted; ended = s.ended; replaced = s.replaced }

abbrev pub set_var_decl_kind : VarType → St → St
set_var_decl_kind x s = record { stack = s.stack; changed = s.changed; inlining = s.inlining; is_first_run = s.is_first_run; var_decl_kind = x; pat_mode = s.pat_mode; in_test = s.in_test; conds = s.conds; nodes = s.nodes; targeted = s.targeted; ended = s.ended; replaced = s.replaced }

abbrev pub set_pat_mode : PatMode → St → St
set_pat_mode x s = record { stack = s.stack; changed = s.changed; inlining = s.inlining; is_first_run = s.is_first_run; var_decl_kind = s.var_decl_kind; pat_mode = x; in_test = s.in_test; conds = s.conds; nodes = s.nodes; targeted = s.targeted; ended = s.ended; replaced = s.replaced }

abbrev pub set_in_test : Bool → St → St
set_in_test x s = record { stack = s.stack; changed = s.changed; inlining = s.inlining; is_first_run = s.is_first_run; var_decl_kind = s.var_decl_kind; pat_mode = s.pat_mode; in_test = x; conds = s.conds; nodes = s.nodes; targeted = s.targeted; ended = s.ended; replaced = s.replaced }

abbrev pub set_conds : ℕ → St → St
set_conds x s = record { stack = s.stack; changed = s.changed; inlining = s.inlining; is_first_run = s.is_first_run; var_decl_kind = s.var_decl_kind; pat_mode = s.pat_mode; in_test = s.in_test; conds = x; nodes = s.nodes; targeted = s.targeted; ended = s.ended; replaced = s.replaced }

abbrev pub set_nodes : ℕ → St → St
set_nodes x s = record { stack = s.stack; changed = s.changed; inlining = s.inlining; is_first_run = s.is_first_run; var_decl_kind = s.var_decl_kind; pat_mode = s.pat_mode; in_test = s.in_test; conds = s.conds; nodes = x; targeted = s.targeted; ended = s.ended; replaced = s.replaced }

abbrev pub set_replaced : ℕ → St → St
set_replaced x s = record { stack = s.stack; changed = s.changed; inlining = s.inlining; is_first_run = s.is_first_run; var_decl_kind = s.var_decl_kind; pat_mode = s.pat_mode; in_test = s.in_test; conds = s.conds; nodes = s.nodes; targeted = s.targeted; ended = s.ended; replaced = x }

-- request 9: an identifier is replaced by the value of its innermost binding
abbrev pub tally : ℕ → St → St
tally i s = set_replaced (wrap (s.replaced + 1)) (set_stack (change i count_one s.stack) s)

abbrev pub modify : (St → St) → M Nothing
modify f = λ s. done (f s) tt

-- a change of the scopes that adds no binding and no value
abbrev pub mark : (Stack → Stack) → M Nothing
mark f = λ s. done (set_stack (f s.stack) s) tt

-- row 9: of the recorded values and the bindings
abbrev pub within_records : M Nothing
within_records = λ s. elim (ltb 512 (recorded_nodes s.stack) || ltb 256 (live s.stack)) [ true ↦ stop 9 | false ↦ done s tt ]

-- a change of the scopes that may add
abbrev pub grow : (Stack → Stack) → M Nothing
grow f = mark f >> within_records

-- a tree `old` at tree depth p is replaced by `new`: rows 8 and 9 of the tree
abbrev pub replace : ℕ → Tree → Tree → M Nothing
replace p old new = λ s.
    let n = (s.nodes + count new) - count old in
    elim (ltb 201 (p + height new)) [ true ↦ stop 8 | false ↦ elim (ltb 1024 n) [ true ↦ stop 9 | false ↦ done (set_nodes n s) tt ] ]

-- the initialiser leaves its declarator at the end of its walk
abbrev pub leave : Tree → M Nothing
leave t = λ s. done (set_nodes (s.nodes - count t) s) tt

-- with_child: a new scope, `m` in it with its own copies of the visitor's fields, and its end
unfoldable pub restore : St → St → St
unfolding close ending
restore old s = record { stack = close s.stack; changed = s.changed; inlining = old.inlining; is_first_run = s.is_first_run; var_decl_kind = old.var_decl_kind; pat_mode = old.pat_mode; in_test = old.in_test; conds = s.conds; nodes = s.nodes; targeted = s.targeted; ended = wrap (s.ended + ending s.stack); replaced = s.replaced }

unfoldable pub opening : ScopeKind → M Nothing
opening k = λ s. elim (leb 32 (length s.stack)) [ true ↦ stop 8 | false ↦ done (set_var_decl_kind v_var (set_stack (new_scope k ∷ s.stack) s)) tt ]

unfoldable pub in_scope : {A : Type 0} → ScopeKind → M A → M A
unfolding opening restore
in_scope k m = within (opening k) restore m

-- row 8: inside a right side walked in its Cond scope
unfoldable pub deeper : M Nothing
deeper = λ s. elim (leb 12 s.conds) [ true ↦ stop 8 | false ↦ done (set_conds (suc s.conds) s) tt ]

abbrev pub shallower : St → St → St
shallower old s = set_conds old.conds s

unfoldable pub in_cond : {A : Type 0} → M A → M A
unfolding deeper in_scope
in_cond m = within deeper shallower (in_scope cond m)

-- the identifier of a binding's or identifier's node is written, forced or not
unfoldable pub write : Bool → Tree → M Nothing
unfolding add_write
write force t = grow (add_write (num t) (is_args (form t)) force)

unfoldable pub writes : Bool → List Tree → M Nothing
unfolding write
writes force [] = ret tt
writes force (t ∷ ts) = write force t >> writes force ts

-- IdentListVisitor (forced) and WriteVisitor (not)
unfoldable pub write_tree : Bool → Tree → M Nothing
unfolding writes
write_tree force t = writes force (ident_list t [])

unfoldable pub write_forest : Bool → Forest → M Nothing
unfolding writes
write_forest force ts = writes force (ident_list_f ts [])

-- the walks of one depth: of a child at a given tree depth. `full`: as its parent's default walk calls it; `bare`: its kind's own handler;
-- `inner`: a function's body, its statements without its block's own scope
pub record Walks : Type 0 where
  pub full : ℕ → Tree → M Tree
  pub bare : ℕ → Tree → M Tree
  pub inner : ℕ → Tree → M Tree

-- all but the last
abbrev pub but_last : Forest → Forest
but_last nil = nil
but_last (cons t nil) = nil
but_last (cons t (cons u us)) = cons t (but_last (cons u us))

-- visit_mut_stmts: plainly in Analysis; in Inlining both ways
unfoldable pub visit_mut_stmts : Walks → ℕ → Forest → M Forest
visit_mut_stmts w p ts = do
  s ← get
  iff s.inlining (do
    modify (set_inlining false)
    ts₁ ← each (w.full p) ts
    modify (set_inlining true)
    each (w.full p) ts₁) (each (w.full p) ts)

-- visit_mut_children_with
abbrev pub plain : Walks → ℕ → Tree → M Tree
plain w p t = on_kids (each (w.full (suc p))) t

-- visit_mut_block_stmt; and the same of the script, or of a function's body, without the scope
unfoldable pub visit_mut_block_stmt : Walks → ℕ → Tree → M Tree
unfolding in_scope visit_mut_stmts
visit_mut_block_stmt w p t = in_scope block (on_kids (visit_mut_stmts w (suc p)) t)

unfoldable pub script_walk : Walks → ℕ → Tree → M Tree
unfolding visit_mut_stmts
script_walk w p t = on_kids (visit_mut_stmts w (suc p)) t

-- visit_with_child: the statement of a loop or branch, in its scope
unfoldable pub visit_with_child : Walks → ℕ → ScopeKind → Tree → M Tree
unfolding in_scope
visit_with_child w p k t = in_scope k (w.bare p t)

abbrev pub decl_kind_of : ℕ → VarType
decl_kind_of f = pick (eqb f 0) v_var (pick (eqb f 1) v_let v_const)

-- visit_mut_var_decl
unfoldable pub visit_mut_var_decl : Walks → ℕ → Tree → M Tree
visit_mut_var_decl w p t = modify (set_var_decl_kind (decl_kind_of (form t))) >> plain w p t

abbrev pub no_value : Init → Bool
no_value no_init = true
no_value (recorded t) = false
no_value (seen t) = false

-- Inlining::declare
unfoldable pub declare_m : Tree → Init → Bool → VarType → M Nothing
unfolding declare
declare_m name v isChange k = do
  s ← get
  grow (declare (is_twice (form name)) (num name) v (is_var s.var_decl_kind && not isChange && no_value v && s.inlining) k)

-- constants.insert: without an identifier that the script as read targets (request 8)
abbrev pub insert_const : ℕ → Option Tree → M Nothing
insert_const i v = λ s. grow (add_const s.targeted i v) s

-- visit_mut_var_declarator: the initialiser is walked, then it depends on the phase what is done for a name that is a binding, and unless that
-- returns, the name is walked last. Branch by branch:

-- both phases: is the name a binding (Pat::Ident)
abbrev pub is_bind : Tree → Bool
is_bind t = is_kind BindingIdent (kind t)

abbrev pub head_bind : Forest → Option Tree
head_bind nil = none
head_bind (cons t ts) = pick (is_bind t) (some t) none

-- Analysis, by the initialiser: does it return
unfoldable pub declr_analysis : Tree → Option Tree → M Bool
unfolding declare_m
-- none: declared, unless it is `const`
declr_analysis name none = do
  s ← get
  when (not (is_const s.var_decl_kind)) (declare_m name no_init true s.var_decl_kind)
  ret false
-- `const`: in the first run a constant, whose value is a literal or an identifier or nothing.
-- A literal or an identifier: declared, and prevented as the initialiser is.
-- Any other: declared; one that contains `this` is prevented, and returns
declr_analysis name (some e) = do
  s ← get
  iff (is_const s.var_decl_kind) (do
    when s.is_first_run (insert_const (num name) (pick (is_cheap e) (some e) none))
    ret false) (iff (is_cheap e) (do
      declare_m name (seen_init e) false s.var_decl_kind
      s₁ ← get
      when (is_inline_prevented e s₁.stack) (mark (prevent_inline (num name)))
      ret false) (do
        declare_m name (seen_init e) false s.var_decl_kind
        iff (has_this e) (mark (prevent_inline (num name)) >> ret true) (ret false)))

unfoldable pub over_m : Tree → Forest → M Bool
unfolding declr_analysis
over_m name ts = declr_analysis name (head_t (tail_f ts))

-- Inlining, first: does it return with the initialiser as it is, since the name is prevented or has not the same `this`
abbrev pub as_ident : Tree → Tree
as_ident (node k f a ts) = node (number_of Ident) (unflagged f) a ts

unfoldable pub stays : Tree → Forest → Stack → Bool
stays name nil st = is_inline_prevented (as_ident name) st
stays name (cons e es) st = is_inline_prevented (as_ident name) st || not (has_same_this (find_binding (num name) st) (some e))

-- Inlining, last, once the initialiser is walked again: is it taken out, or put back
abbrev pub read_once? : Option VarInfo → Bool
read_once? none = false
read_once? (some b) = eqb b.read_cnt 1

unfoldable pub takes : VarType → Tree → Forest → M Bool
unfolding declare_m
-- none: declared
takes k name nil = declare_m name no_init false k >> ret false
-- An identifier: declared here already.
-- Prevented: put back, and the name is prevented too.
-- A literal or an identifier, or any other if the name is not prevented and is read once: declared, and taken out.
-- Any other: put back
takes k name (cons e es) = do
  when (is_ident e) (declare_m name (recorded e) false k)
  s ← get
  iff (is_inline_prevented e s.stack) (mark (prevent_inline (num name)) >> ret false) (
      iff (is_cheap e || (not (is_inline_prevented (as_ident name) s.stack) && read_once? (find_binding (num name) s.stack))) (do
        declare_m name (recorded e) false k
        leave e
        ret true) (ret false))

-- Inlining of `let` and `var`: it always returns
unfoldable pub declr_inlining : Walks → ℕ → VarType → Tree → Forest → M Forest
unfolding stays takes
declr_inlining w p k name ts = λ s. iff (stays name ts s.stack) (ret ts) (do
  us ← split (w.full (suc p)) ret ts
  gone ← takes k name us
  iff gone (ret (tail_f us)) (ret us)) s

-- the name's walk
abbrev pub name_last : Walks → ℕ → Forest → M Forest
name_last w p ts = split (w.full (suc p)) ret ts

unfoldable pub declr_to : Walks → ℕ → Option Tree → Bool → VarType → Forest → M Forest
unfolding over_m declr_inlining
-- no binding, in either phase
declr_to w p none inl k ts = name_last w p ts
-- Inlining, where nothing is done for `const`; Analysis
declr_to w p (some name) inl k ts = iff inl (iff (is_const k) (name_last w p ts) (split ret (declr_inlining w p k name) ts)) (do
  over ← over_m name ts
  iff over (ret ts) (name_last w p ts))

-- the whole
unfoldable pub visit_mut_var_declarator : Walks → ℕ → Tree → M Tree
unfolding declr_to
visit_mut_var_declarator w p t = on_kids (λ ts. do
  us ← split ret (each (w.full (suc p))) ts
  modify (set_pat_mode declaring)
  (λ s. declr_to w p (head_bind us) s.inlining s.var_decl_kind us s)) t

-- visit_mut_function: parameters and body
unfoldable pub visit_mut_function : Walks → ℕ → Bool → Forest → M Forest
unfolding in_scope
visit_mut_function w p named ts = in_scope (fn named) (modify (set_pat_mode as_param) >> each_but (w.full (suc p)) (w.inner (suc p)) ts)

unfoldable pub declare_name : Option Tree → M Nothing
unfolding declare_m
declare_name none = ret tt
declare_name (some name) = do
  s ← get
  when (is_bind name && not s.inlining) (declare_m name no_init true v_var)

unfoldable pub write_name : Option Tree → M Nothing
unfolding write
write_name none = ret tt
write_name (some name) = when (is_bind name) (write true name)

-- visit_mut_fn_decl
unfoldable pub visit_mut_fn_decl : Walks → ℕ → Tree → M Tree
unfolding visit_mut_function declare_name
visit_mut_fn_decl w p t = declare_name (head_t (kids t)) >> on_kids (split ret (visit_mut_function w p true)) t

-- visit_mut_fn_expr: form 1 has a name
unfoldable pub visit_mut_fn_expr : Walks → ℕ → Tree → M Tree
unfolding visit_mut_function write_name
visit_mut_fn_expr w p t = iff (eqb (form t) 1) (write_name (head_t (kids t)) >> on_kids (split ret (visit_mut_function w p false)) t) (on_kids (visit_mut_function w p false) t)

-- visit_mut_arrow_expr
unfoldable pub visit_mut_arrow_expr : Walks → ℕ → Tree → M Tree
unfolding in_scope
visit_mut_arrow_expr w p t = in_scope (fn false) (plain w p t)

-- visit_mut_if_stmt
unfoldable pub tested : Walks → ℕ → Tree → M Tree
tested w p t = do
  s ← get
  modify (set_in_test true)
  t' ← w.full p t
  modify (set_in_test s.in_test)
  ret t'

unfoldable pub visit_mut_if_stmt : Walks → ℕ → Tree → M Tree
unfolding visit_with_child tested
visit_mut_if_stmt w p t = on_kids (split (tested w (suc p)) (each (visit_with_child w (suc p) cond))) t

-- visit_mut_while_stmt, visit_mut_do_while_stmt
unfoldable pub visit_mut_while_stmt : Walks → ℕ → Tree → M Tree
unfolding write_forest visit_with_child
visit_mut_while_stmt w p t = do
  write_forest true (but_last (kids t))
  on_kids (each_but (w.full (suc p)) (visit_with_child w (suc p) loop)) t

-- store_inline_barrier, by the phase
unfoldable pub store_inline_barrier_m : M Nothing
store_inline_barrier_m = λ s. iff s.inlining (ret tt) (mark store_inline_barrier) s

-- visit_mut_for_stmt
unfoldable pub visit_mut_for_stmt : Walks → ℕ → Tree → M Tree
unfolding write_forest visit_with_child store_inline_barrier_m
visit_mut_for_stmt w p t = do
  write_forest true (but_last (kids t))
  t' ← on_kids (each_but (w.full (suc p)) (visit_with_child w (suc p) loop)) t
  when (eqb (form t) 0) store_inline_barrier_m
  ret t'

-- visit_mut_for_in_stmt, visit_mut_for_of_stmt
unfoldable pub visit_mut_for_in_stmt : Walks → ℕ → Tree → M Tree
unfolding write_tree write_forest visit_with_child
visit_mut_for_in_stmt w p t = do
  modify (set_pat_mode as_param)
  on_kids (split (λ l. do
    l' ← w.full (suc p) l
    write_tree true l'
    ret l') (λ ts. do
      write_forest true (but_last ts)
      each_but (w.full (suc p)) (visit_with_child w (suc p) loop) ts)) t

-- visit_mut_try_stmt: the block's identifiers, then the handler alone
abbrev pub is_catch : Tree → Bool
is_catch t = is_kind CatchClause (kind t)

unfoldable pub visit_mut_try_stmt : Walks → ℕ → Tree → M Tree
unfolding write_tree
visit_mut_try_stmt w p t = on_kids (split (λ b. write_tree true b >> ret b) (each (λ h. iff (is_catch h) (w.full (suc p) h) (ret h)))) t

-- visit_mut_catch_clause
unfoldable pub catch_param : Walks → ℕ → Tree → M Tree
catch_param w p b = do
  b' ← w.full p b
  s ← get
  when (not s.inlining) (mark (prevent_each (bound_names b' [])))
  ret b'

unfoldable pub visit_mut_catch_clause : Walks → ℕ → Tree → M Tree
unfolding in_scope catch_param
visit_mut_catch_clause w p t = in_scope block (modify (set_pat_mode as_catch) >> on_kids (each_but (catch_param w (suc p)) (w.full (suc p))) t)

-- visit_mut_switch_case: form 1 has a test
unfoldable pub visit_mut_switch_case : Walks → ℕ → Tree → M Tree
unfolding in_scope visit_mut_stmts
visit_mut_switch_case w p t = in_scope block (iff (eqb (form t) 1) (on_kids (split (w.full (suc p)) (visit_mut_stmts w (suc p))) t) (on_kids (visit_mut_stmts w (suc p)) t))

-- visit_mut_pat of a binding; of any other pattern it is its children's walk alone, `plain`. The mode is the state's: what a default
-- assigns leaves `assigning` to the names behind it
unfoldable pub pat_by : PatMode → Tree → M Nothing
unfolding write declare_m
pat_by as_param t = declare_m t (recorded (as_ident t)) false param
pat_by as_catch t = declare_m t (recorded (as_ident t)) false v_var
pat_by declaring t = ret tt
pat_by assigning t = λ s. elim (find_binding_from_current (num t) s.stack) [ none ↦ write false t s | some b ↦ done s tt ]

unfoldable pub visit_mut_pat : Walks → ℕ → Tree → M Tree
unfolding pat_by
visit_mut_pat w p t = do
  s ← get
  when (is_bind t) (pat_by s.pat_mode t)
  ret t

-- visit_mut_unary_expr: form 6 is `delete`
unfoldable pub visit_mut_unary_expr : Walks → ℕ → Tree → M Tree
unfolding write_forest
visit_mut_unary_expr w p t = iff (eqb (form t) 6) (write_forest true (kids t) >> ret t) (plain w p t)

-- visit_mut_update_expr
unfoldable pub visit_mut_update_expr : Walks → ℕ → Tree → M Tree
unfolding write_forest
visit_mut_update_expr w p t = write_forest true (kids t) >> ret t

-- visit_mut_call_expr, visit_mut_new_expr; `call`: are the arguments written first
unfoldable pub visit_mut_call_expr : Bool → Walks → ℕ → Tree → M Tree
unfolding write_forest store_inline_barrier_m
visit_mut_call_expr call w p t = do
  t' ← on_kids (split (λ c. do
    c' ← w.full (suc p) c
    s ← get
    when (not s.inlining) (mark (mark_this_sensitive (ident_of (some c'))))
    ret c') (λ ts. when call (write_forest false ts) >> each (w.full (suc p)) ts)) t
  store_inline_barrier_m
  ret t'

-- visit_mut_assign_expr: target and value
abbrev pub store_value : Tree → Tree → M Nothing
store_value l r = λ s. elim (find_binding (num l) s.stack) [ none ↦ done s tt | some b ↦ iff (var_inline_prevented b) (ret tt) (grow (change (num l) (with_value (pick (is_cheap r) (some r) none)))) s ]

abbrev pub store_o : Tree → Option Tree → M Nothing
store_o l none = ret tt
store_o l (some r) = store_value l r

-- what is written before the value's walk, and what is stored after it
unfoldable pub assign_first : ℕ → Forest → M Nothing
unfolding write_tree write_forest
assign_first f nil = ret tt
assign_first f (cons l rs) = iff (eqb f 0) (do
  write_tree false l
  write_forest false rs
  when (is_member l) (write_tree true l >> write_forest true rs)) (write_tree true l >> write_forest true rs)

unfoldable pub assign_last : Forest → M Nothing
unfolding write
assign_last nil = ret tt
assign_last (cons l rs) = do
  s ← get
  iff (prevented_o (head_t rs) s.stack) (mark (prevent_each (bound_names l []))) (when (is_bind l) (do
    write false l
    store_o l (head_t rs)))

-- AssignTarget::Pat: `=` to a pattern, whose left side is walked too, before the right
abbrev pub pattern_o : Option Tree → Bool
pattern_o none = false
pattern_o (some t) = is_pattern t

abbrev pub to_pattern : Tree → Bool
to_pattern t = eqb (form t) 0 && pattern_o (head_t (kids t))

unfoldable pub assign_kids : Walks → ℕ → ℕ → Bool → Forest → M Forest
unfolding assign_first assign_last
assign_kids w p f pat ts = do
  assign_first f ts
  us ← iff pat (each (w.full (suc p)) ts) (split ret (each (w.full (suc p))) ts)
  assign_last us
  ret us

unfoldable pub visit_mut_assign_expr : Walks → ℕ → Tree → M Tree
unfolding assign_kids
visit_mut_assign_expr w p t = modify (set_pat_mode assigning) >> on_kids (assign_kids w p (form t) (to_pattern t)) t

-- the handlers, and which one a kind has: mod.rs has none for the others, whose children are walked
pub data Handler : Type 0 where
  h_plain h_script h_block h_decl h_declr h_fun h_if h_while h_for h_for_in h_try h_catch h_case h_pat h_unary h_update h_assign h_call h_new h_fun_expr h_arrow : Handler

abbrev pub handler_of : Kind → Handler
handler_of Script = h_script
handler_of Block = h_block
handler_of VarDecl = h_decl
handler_of VarDeclarator = h_declr
handler_of FnDecl = h_fun
handler_of If = h_if
handler_of While = h_while
handler_of DoWhile = h_while
handler_of For = h_for
handler_of ForIn = h_for_in
handler_of ForOf = h_for_in
handler_of Try = h_try
handler_of CatchClause = h_catch
handler_of SwitchCase = h_case
handler_of BindingIdent = h_pat
handler_of Unary = h_unary
handler_of Update = h_update
handler_of Assign = h_assign
handler_of Call = h_call
handler_of New = h_new
handler_of FnExpr = h_fun_expr
handler_of Arrow = h_arrow
handler_of k = h_plain

unfoldable pub handle : Handler → Walks → ℕ → Tree → M Tree
unfolding visit_mut_block_stmt script_walk visit_mut_var_decl visit_mut_var_declarator visit_mut_fn_decl visit_mut_fn_expr visit_mut_arrow_expr visit_mut_if_stmt visit_mut_while_stmt visit_mut_for_stmt visit_mut_for_in_stmt visit_mut_try_stmt visit_mut_catch_clause visit_mut_switch_case visit_mut_pat visit_mut_unary_expr visit_mut_update_expr visit_mut_call_expr visit_mut_assign_expr
handle h_plain w p t = plain w p t
handle h_script w p t = script_walk w p t
handle h_block w p t = visit_mut_block_stmt w p t
handle h_decl w p t = visit_mut_var_decl w p t
handle h_declr w p t = visit_mut_var_declarator w p t
handle h_fun w p t = visit_mut_fn_decl w p t
handle h_if w p t = visit_mut_if_stmt w p t
handle h_while w p t = visit_mut_while_stmt w p t
handle h_for w p t = visit_mut_for_stmt w p t
handle h_for_in w p t = visit_mut_for_in_stmt w p t
handle h_try w p t = visit_mut_try_stmt w p t
handle h_catch w p t = visit_mut_catch_clause w p t
handle h_case w p t = visit_mut_switch_case w p t
handle h_pat w p t = visit_mut_pat w p t
handle h_unary w p t = visit_mut_unary_expr w p t
handle h_update w p t = visit_mut_update_expr w p t
handle h_assign w p t = visit_mut_assign_expr w p t
handle h_call w p t = visit_mut_call_expr true w p t
handle h_new w p t = visit_mut_call_expr false w p t
handle h_fun_expr w p t = visit_mut_fn_expr w p t
handle h_arrow w p t = visit_mut_arrow_expr w p t

unfoldable pub own : Walks → ℕ → Tree → M Tree
unfolding handle
own w p t = handle (handler_of (kind_of (kind t))) w p t

-- the steps of visit_mut_expr after the node's own handler

-- a right side of && or ||, again in a Cond scope
unfoldable pub logical : Walks → ℕ → Tree → M Tree
unfolding in_cond
logical w p t = iff (is_kind Bin (kind t) && ltb (form t) 2) (on_kids (split ret (each (λ r. in_cond (w.bare (suc p) r)))) t) (ret t)

-- `=` in Inlining: the first value of what was undefined
abbrev pub first_value : ℕ → Tree → Tree → Tree → M Tree
first_value p t l r = λ s. elim (find_binding_from_current (num l) s.stack) [
  | none ↦ done s t
  | some b ↦ iff (b.is_undefined && not (var_inline_prevented b) && not (is_inline_prevented r s.stack)) (do
    grow (change (num l) (λ c. defined (with_value (some r) c)))
    replace p t r
    ret r) (ret t) s
]

unfoldable pub after_sides : ℕ → Tree → Option Tree → Option Tree → M Tree
after_sides p t none r = ret t
after_sides p t (some l) none = ret t
after_sides p t (some l) (some r) = iff (is_bind l) (first_value p t l r) (ret t)

unfoldable pub after_assign : ℕ → Tree → M Tree
unfolding after_sides
after_assign p t = after_sides p t (head_t (kids t)) (head_t (tail_f (kids t)))

-- an identifier in Analysis
abbrev pub cheap_o : Option Tree → Bool
cheap_o none = false
cheap_o (some t) = is_cheap t

unfoldable pub ident_analysis : Tree → M Tree
unfolding add_read
ident_analysis t = do
  s ← get
  when s.in_test (λ s₁. elim (find_binding (num t) s₁.stack) [ none ↦ done s₁ tt | some b ↦ when (not (cheap_o b.value)) (mark (prevent_inline (num t))) s₁ ])
  mark (add_read (num t) (eqb (form t) 1))
  ret t

-- an identifier in Inlining
abbrev pub same_ident : Tree → Tree → Bool
same_ident t e = is_ident e && eqb (num e) (num t)

unfoldable pub inline_value : Walks → ℕ → Tree → VarInfo → Option Tree → M Tree
unfolding logical
inline_value w p t b none = iff b.is_undefined (replace p t void_zero >> ret void_zero) (ret t)
inline_value w p t b (some e) = do
  when (not (same_ident t e)) (modify (λ s. tally (num t) (set_changed true s)))
  replace p t e
  logical w p e

unfoldable pub ident_inlining : Walks → ℕ → Tree → M Tree
unfolding inline_value
ident_inlining w p t = λ s. elim (find_binding (num t) s.stack) [ none ↦ done s t | some b ↦ iff (var_inline_prevented b) (ret t) (inline_value w p t b b.value) s ]

-- an identifier, by the constant that it names, if it does
unfoldable pub by_const : Walks → ℕ → Tree → Option Tree → M Tree
unfolding ident_analysis ident_inlining
by_const w p t none = λ s. iff s.inlining (ident_inlining w p t) (ident_analysis t) s
by_const w p t (some e) = do
  modify (set_changed true)
  replace p t e
  w.full p e

unfoldable pub after_ident : Walks → ℕ → Tree → M Tree
unfolding by_const
after_ident w p t = λ s. by_const w p t (pick s.is_first_run (find_constant (num t) s.stack) none) s

unfoldable pub after : Walks → ℕ → Tree → M Tree
unfolding logical after_assign after_ident
after w p t = elim (is_ident t) [
  | true ↦ after_ident w p t
  | false ↦ elim (is_kind Assign (kind t) && eqb (form t) 0) [
    | true ↦ (λ s. iff s.inlining (after_assign p t) (ret t) s)
    | false ↦ logical w p t
  ]
]

unfoldable pub visit_mut_expr : Walks → ℕ → Tree → M Tree
unfolding own after
visit_mut_expr w p t = do
  t' ← own w p t
  after w p t'

-- the knot: at depth 0 no node's walk can be opened
unfoldable pub walks : ℕ → Walks
unfolding script_walk own visit_mut_expr
walks zero = record { full = λ p t. refuse 8; bare = λ p t. refuse 8; inner = λ p t. refuse 8 }
walks (suc d) = record { full = visit_mut_expr (walks d); bare = own (walks d); inner = script_walk (walks d) }

-- visit_mut_program: Analysis, then Inlining
unfoldable pub run : Tree → M Tree
unfolding own walks
run t = do
  modify (set_inlining false)
  t₁ ← own (walks 199) 1 t
  modify (set_inlining true)
  t₂ ← own (walks 199) 1 t₁
  modify (set_inlining false)
  ret t₂

-- inlining: the visitor before its first run
abbrev pub start : Tree → St
start t = record { stack = new_scope (fn false) ∷ []; changed = false; inlining = false; is_first_run = true; var_decl_kind = v_var; pat_mode = declaring; in_test = false; conds = 0; nodes = count t; targeted = targets t; ended = 0; replaced = 0 }

-- a binding of the root: its identifier, mark and count
abbrev pub Rooted : Type 0
Rooted = ℕ × Bool × ℕ

-- the result of the pass: runs done, the last run's mark, the tree, and the root's bindings with their marks and counts
pub data Outcome : Type 0 where
  refused : ℕ → Outcome
  result : ℕ → Bool → Tree → List Rooted → Outcome

abbrev pub root_marks : Stack → List Rooted
root_marks [] = []
root_marks (s ∷ []) = map (λ (b : VarInfo). (b.id, b.inline_prevented, b.count)) s.bindings
root_marks (s ∷ p ∷ st) = root_marks (p ∷ st)

-- Repeated::changed and reset: after a run the refusal, or on with `go` if the mark is set
abbrev pub again : (Tree → St → Outcome) → ℕ → Res St Tree → Outcome
again go k (stop r) = refused r
again go k (done s t) = elim s.changed [ true ↦ go t (set_is_first_run false s) | false ↦ result k false t (root_marks s.stack) ]

-- k runs are done; at most n more
unfoldable pub runs : ℕ → ℕ → Tree → St → Outcome
unfolding run
runs zero k t s = result k true t (root_marks s.stack)
runs (suc n) k t s = again (runs n (suc k)) (suc k) (run t (set_changed false s))

-- the pass on a core tree, with at most n runs
unfoldable pub core_pass : ℕ → Tree → Outcome
unfolding runs
core_pass n t = runs n 0 (flagged t) (start t)
