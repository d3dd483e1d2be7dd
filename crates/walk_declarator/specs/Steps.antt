-- What the steps of declarators look up, answer and do. Assumes nothing: these are definitions.
use Rattle.std.specs.Prelude.{◌≡◌, List, Bool, true, false, ◌&&◌, ◌||◌, not, ℕ, suc, ◌+◌, ◌≤◌, ◌<◌, length, get_or}
use Rattle.std.proofs.Math.Option.{Option, none, some}
use Rattle.def_tree.specs.Tree.{Tree, Core, no_core, count}
use Rattle.def_tree.specs.Combine.{done, M as MS, Nothing, ◌>>=◌, ◌>>◌, ret, iff, Flat, act_f, cut_first, set_arity, tree_at}
use Rattle.def_pass.specs.Scope as def
use Rattle.def_pass.specs.Tree.{is_ident, is_cheap, has_this}
use Rattle.def_pass.specs.Scope.{Stack, is_const, is_inline_prevented, prevent_inline, find_binding}
use Rattle.def_pass.specs.Walk.{St, M, when, mark, insert_const, declare_m, as_ident, read_once?, takes}
use Rattle.def_tree.specs.Base.{pick}
use Rattle.words_nodes.specs.Nodes.{tree_from}
pub use Rattle.scope.specs.Steps.{named, done_of, Moves, Did}
use Rattle.words_state.specs.State.{abs}
use Rattle.scope_find.specs.declared.Name.{Name}
use Rattle.walk_declarator.specs.declared.Spot.{Spot}

-- the name of a declarator, as a tree
abbrev pub name_of : Name → Tree
name_of m = named m.form m.ident

-- declr_analysis in its parts, of a name with its form and number
unfoldable pub over_none : ℕ → ℕ → M Nothing
over_none f x = λ s. when (not (is_const s.var_decl_kind)) (declare_m (named f x) def.no_init true s.var_decl_kind) s

unfoldable pub over_const : ℕ → Tree → M Nothing
over_const x e = λ s. when s.is_first_run (insert_const x (pick (is_cheap e) (some e) none)) s

unfoldable pub over_cheap : ℕ → ℕ → def.VarType → Tree → M Nothing
over_cheap f x k e = declare_m (named f x) (def.recorded e) false k >> (λ s. when (is_inline_prevented e s.stack) (mark (prevent_inline x)) s)

unfoldable pub over_other : ℕ → ℕ → def.VarType → Tree → M Bool
over_other f x k e = declare_m (named f x) (def.seen e) false k >> when (has_this e) (mark (prevent_inline x)) >> ret (has_this e)

-- takes of an initialiser in its parts, without `leave`
abbrev pub wants : ℕ → Tree → Stack → Bool
wants x e st = is_cheap e || (not (is_inline_prevented (as_ident (named 0 x)) st) && read_once? (find_binding x st))

unfoldable pub take_ident : ℕ → ℕ → def.VarType → Tree → M Nothing
take_ident f x k e = when (is_ident e) (declare_m (named f x) (def.recorded e) false k)

unfoldable pub take_value : ℕ → ℕ → def.VarType → Tree → M Bool
take_value f x k e = λ s. iff (wants x e s.stack) (declare_m (named f x) (def.recorded e) false k >> ret true) (ret false) s

unfoldable pub take_or_mark : ℕ → ℕ → def.VarType → Tree → M Bool
unfolding take_value
take_or_mark f x k e = λ s. iff (is_inline_prevented e s.stack) (mark (prevent_inline x) >> ret false) (take_value f x k e) s

unfoldable pub take_init : ℕ → ℕ → def.VarType → Tree → M Bool
unfolding take_ident take_or_mark
take_init f x k e = take_ident f x k e >> take_or_mark f x k e

-- the tree at j as it is recorded
abbrev pub cheap_at : List ℕ → ℕ → Option Tree
cheap_at w j = pick (is_cheap (tree_at (abs w) j)) (some (tree_at (abs w) j)) none

-- where a declarator is: at q, with its name and n trees from i on, which end at j
pub record Stands (xs : List Core) (s : Spot) : Type 0 where
  pub name : s.q + 1 < length xs
  pub arity : (get_or xs s.q no_core).arity ≡ suc s.n
  pub at : s.i ≡ s.q + 1 + count (tree_from xs (s.q + 1))
  pub end : 0 < s.n → s.i + count (tree_from xs s.i) ≤ s.j

-- the end of declr_inlining, after the initialiser's second walk: of the n trees from i on, which end at j, the first is taken out or not,
-- and the declarator at q has one child more than there are
abbrev pub declr_after : ℕ → def.VarType → Tree → ℕ → ℕ → ℕ → MS (Flat St) ℕ
declr_after q k name n i j = do
  gone ← act_f (takes k name) n i
  r ← iff gone (cut_first n i j) (ret (n, j))
  (λ st. done (set_arity q (suc r.0) st) r.1)
