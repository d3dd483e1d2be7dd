-- The binding of a pattern. Assumes nothing.
use mathlib.Core.Path.{◌≡◌, sym, ap, ◌∙◌}
use mathlib.Core.List.{List}
use mathlib.Core.Bool.{false}
use mathlib.Core.Option.{Option, none, some}
use Prim.Native.Nat.{ℕ, suc, ◌≤◌, ◌<◌}
use native.Mathlib.Omega.{arith}
use lib.ListN.{length, get_or}
use Rattle.def_tree.specs.Tree.{Tree}
use Rattle.def_tree.specs.Combine.{Res, done, Nothing, tree_at, act}
use Rattle.def_pass.specs.Scope.{VarInfo, find_binding_from_current}
use Rattle.def_pass.specs.Walk.{St, write, assigning, pat_by}
use Rattle.words.specs.Layout.{node_of}
use Rattle.words_scopes.specs.State.{stack}
use Rattle.words_scopes.proofs.Split.{no_bind}
use Rattle.words_nodes.specs.Nodes.{Planted}
use Rattle.words_state.specs.State.{rest, abs, Act}
use Rattle.scope.specs.Handles.{bindings_of, numbered}
use Rattle.scope.proofs.Numbers.{number-some}
use Rattle.walk_write.proofs.Steps.{step-act, act-step, step-as, step-none}
use Rattle.walk_write.proofs.Writing.{num-here}

-- in an assignment
module _ (w : List ℕ) (i x k : ℕ) (l : i < get_or w 0 0) (q : x ≡ (node_of w i).num) (p : find_binding_from_current x (stack w) ≡ numbered (stack w) k) where
  abbrev t : Tree
  t = tree_at (abs w) i

  abbrev by : Option VarInfo → Res St Nothing
  by o = elim o [ none ↦ write false t (rest w) | some b ↦ done (rest w) tt ]

  by-is : (o : Option VarInfo) → numbered (stack w) k ≡ o → by o ≡ pat_by assigning t (rest w)
  unfolding pat_by rest
  by-is o e = ap by (sym (ap (λ (a : ℕ). find_binding_from_current a (stack w)) (num-here w i l ∙ sym q) ∙ p ∙ e))

  pub bound-act : (b : ℕ) → k ≡ suc b → k ≤ length (bindings_of (stack w)) → Planted w → Act w w 0 (act (pat_by assigning) i (abs w))
  bound-act b e m g = step-act (pat_by assigning t) (step-as (by-is (some (get_or (bindings_of (stack w)) b no_bind)) (ap (numbered (stack w)) e ∙ number-some (stack w) b (omega (arith, e, m)))) (step-none g))

  pub unbound-act : {u : List ℕ} {r : ℕ} → k ≡ 0 → Act w u r (act (write false) i (abs w)) → Act w u r (act (pat_by assigning) i (abs w))
  unbound-act z a = step-act (pat_by assigning t) (step-as (by-is none (ap (numbered (stack w)) z)) (act-step (write false t) a))
