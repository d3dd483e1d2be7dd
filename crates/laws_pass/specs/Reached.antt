-- The states that a pass reaches, in any of its runs, step by step; and that no walk, run or pass meets another. Assumes nothing: these are definitions.
use Rattle.std.specs.Prelude.{◌≡◌, Bool, true, List, ◌∷◌, ℕ}
use Rattle.std.proofs.Math.Option.{Option}
use Rattle.def_tree.specs.Combine.{done}
use Rattle.def_pass.specs.Tree.{Tree}
use Rattle.def_pass.specs.Targets.{targets}
use Rattle.def_pass.specs.Scope.{ScopeKind, VarType, Init, Stack, new_scope, prevent_inline, add_read, add_write, mark_this_sensitive, store_inline_barrier, declare, add_const, change, with_value, defined, is_some, find_binding}
use Rattle.def_pass.specs.Walk.{St, start, set_stack, tally, restore, walks, run, runs, core_pass, Outcome, refused, result, Rooted, root_marks}

-- what the steps of the walks do to the scopes
pub data Step (tg : ℕ → Bool) : (Stack → Stack) → Type 0 where
  opens : (k : ScopeKind) → Step tg (λ st. new_scope k ∷ st)
  prevents : (i : ℕ) → Step tg (prevent_inline i)
  reads : (i : ℕ) (args : Bool) → Step tg (add_read i args)
  writes : (i : ℕ) (args force : Bool) → Step tg (add_write i args force)
  senses : (i : Option ℕ) → Step tg (mark_this_sensitive i)
  bars : Step tg store_inline_barrier
  declares : (again : Bool) (i : ℕ) (v : Init) (u : Bool) (k : VarType) → Step tg (declare again i v u k)
  stores : (i : ℕ) (v : Option Tree) → Step tg (change i (with_value v))
  begins : (i : ℕ) (v : Option Tree) → Step tg (change i (λ b. defined (with_value v b)))
  fixes : (i : ℕ) (v : Option Tree) → Step tg (add_const tg i v)

-- a state of a pass on t, in any of its runs: the first one; after a step on the scopes; after the end of a scope; after a replacement is counted;
-- with the same scopes and totals. No walk is one of the steps: what follows says that the walks make no others
pub data Reached (t : Tree) : St → Type 0 where
  first : Reached t (start t)
  step : (f : Stack → Stack) (s : St) → Step (targets t) f → Reached t s → Reached t (set_stack (f s.stack) s)
  closes : (old s : St) → Reached t s → Reached t (restore old s)
  counts : (i : ℕ) (s : St) → is_some (find_binding i s.stack) ≡ true → Reached t s → Reached t (tally i s)
  same : (s s' : St) → Reached t s → s'.stack ≡ s.stack → s'.targeted ≡ s.targeted → s'.ended ≡ s.ended → s'.replaced ≡ s.replaced → Reached t s'

-- from a state that a pass on t reaches, a walk of any depth and of any tree ends in one
pub record WalksReached : Type 0 where
  pub full : (d p : ℕ) (t u u' : Tree) (s s' : St) → Reached t s → (walks d).full p u s ≡ done s' u' → Reached t s'
  pub bare : (d p : ℕ) (t u u' : Tree) (s s' : St) → Reached t s → (walks d).bare p u s ≡ done s' u' → Reached t s'
  pub inner : (d p : ℕ) (t u u' : Tree) (s s' : St) → Reached t s → (walks d).inner p u s ≡ done s' u' → Reached t s'

-- and so does a run
abbrev pub RunReached : Type 0
RunReached = (t u u' : Tree) (s s' : St) → Reached t s → run u s ≡ done s' u' → Reached t s'

-- the root bindings that are told are those of such a state
pub record Last (t : Tree) (ms : List Rooted) : Type 0 where
  pub state : St
  pub reached : Reached t state
  pub roots : ms ≡ root_marks state.stack

abbrev pub LastReached : Tree → Outcome → Type 0
LastReached t (refused n) = Unit {0}
LastReached t (result k c u ms) = Last t ms

-- all runs, whatever the limit, and the pass
abbrev pub RunsReached : Type 0
RunsReached = (n k : ℕ) (t u : Tree) (s : St) → Reached t s → LastReached t (runs n k u s)

abbrev pub PassReached : Type 0
PassReached = (n : ℕ) (t : Tree) → LastReached t (core_pass n t)
