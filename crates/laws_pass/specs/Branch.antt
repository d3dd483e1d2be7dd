-- Request 14: "The Rust has a branch in which `y = x` becomes `x`. Show that in no accepted script does the walk take it: the write just before has
-- always cleared the undefined mark." The branch is `first_value` of the definition; `after_assign` comes to it behind the handler of an assignment, in
-- Inlining. Where the value is prevented there is no such write, and the branch asks for one that is not. Assumes nothing: these are definitions.
use Rattle.std.specs.Prelude.{◌≡◌, refl, Bool, true, false, ◌&&◌, [], ◌∷◌, ℕ, zero, suc, eqb}
use Rattle.std.proofs.Math.Option.{Option, none, some}
use Rattle.def_tree.specs.Combine.{Res, stop, done, ◌>>=◌, ◌>>◌, ret, refuse}
use Rattle.def_file.specs.declared.kind.Kind.TheVariants as Kind
use Rattle.def_file.specs.Named.{is_kind}
use Rattle.def_pass.specs.Tree.{Tree, nil, kind, form, is_ident}
use Rattle.def_pass.specs.Twice.{flagged}
use Rattle.def_pass.specs.Scope.{VarInfo, Stack, v_var, fn, fresh, append, new_scope, find_binding_from_current, add_write}
use Rattle.def_pass.specs.Walk.{St, M, Walks, Outcome, result, modify, set_stack, set_inlining, set_changed, start, script_walk, visit_mut_assign_expr, own, logical, after_assign, after_ident, walks, again, root_marks, core_pass}
use Rattle.def_pass.specs.Cases.{script, assign, name}

-- a binding without the undefined mark, or none
abbrev pub Cleared : Option VarInfo → Type 0
Cleared none = Unit {0}
Cleared (some b) = b.is_undefined ≡ false

-- a write of i clears the mark of its binding in the current scope, which is the one that the branch asks
abbrev pub WriteClears : Type 0
WriteClears = (i : ℕ) (args force : Bool) (st : Stack) → Cleared (find_binding_from_current i (add_write i args force st))

-- with its handler an assignment ends: what comes behind it leaves tree and state as they are
abbrev pub Ends : ℕ → Res St Tree → Type 0
Ends p (stop n) = Unit {0}
Ends p (done s t) = after_assign p t s ≡ done s t

-- of every walk of its parts, place, tree and state, and so of every script and run
abbrev pub NeverTaken : Type 0
NeverTaken = (w : Walks) (p : ℕ) (t : Tree) (s : St) → Ends p (visit_mut_assign_expr w p t s)

-- the branch is there: with y undefined, as no write leaves it, `y = x` becomes `x`
abbrev pub undefined_y : St
undefined_y = set_stack (append (fresh 1 v_var none false true none) (new_scope (fn false) ∷ [])) (start (script nil))

abbrev pub tree_of : Res St Tree → Option Tree
tree_of (stop n) = none
tree_of (done s t) = some t

pub taken : tree_of (after_assign 1 (assign 1 (name 2)) undefined_y) ≡ some (name 2)
unfolding after_assign
taken = refl

-- The walks once more, without the branch: behind its handler an `=` stays. All else is as in the definition
unfoldable pub after_without : Walks → ℕ → Tree → M Tree
unfolding logical after_ident
after_without w p t = elim (is_ident t) [
  | true ↦ after_ident w p t
  | false ↦ elim (is_kind Kind.Assign (kind t) && eqb (form t) 0) [
    | true ↦ ret t
    | false ↦ logical w p t
  ]
]

unfoldable pub expr_without : Walks → ℕ → Tree → M Tree
unfolding own after_without
expr_without w p t = do
  t' ← own w p t
  after_without w p t'

unfoldable pub walks_without : ℕ → Walks
unfolding script_walk own expr_without
walks_without zero = record { full = λ p t. refuse 8; bare = λ p t. refuse 8; inner = λ p t. refuse 8 }
walks_without (suc d) = record { full = expr_without (walks_without d); bare = own (walks_without d); inner = script_walk (walks_without d) }

-- they are the walks: of every depth, place, tree and state
abbrev pub SameWalks : Type 0
SameWalks = (d : ℕ) → ((p : ℕ) (t : Tree) (s : St) → (walks_without d).full p t s ≡ (walks d).full p t s)
    × ((p : ℕ) (t : Tree) (s : St) → (walks_without d).bare p t s ≡ (walks d).bare p t s)
    × ((p : ℕ) (t : Tree) (s : St) → (walks_without d).inner p t s ≡ (walks d).inner p t s)

-- a run, the runs and the pass over them
unfoldable pub run_without : Tree → M Tree
unfolding own walks_without
run_without t = do
  modify (set_inlining false)
  t₁ ← own (walks_without 199) 1 t
  modify (set_inlining true)
  t₂ ← own (walks_without 199) 1 t₁
  modify (set_inlining false)
  ret t₂

unfoldable pub runs_without : ℕ → ℕ → Tree → St → Outcome
unfolding run_without
runs_without zero k t s = result k true t (root_marks s.stack)
runs_without (suc n) k t s = again (runs_without n (suc k)) (suc k) (run_without t (set_changed false s))

unfoldable pub pass_without : ℕ → Tree → Outcome
unfolding runs_without
pass_without n t = runs_without n 0 (flagged t) (start t)

-- so the pass is the pass without the branch, of every run limit and tree
abbrev pub SamePass : Type 0
SamePass = (n : ℕ) (t : Tree) → pass_without n t ≡ core_pass n t
