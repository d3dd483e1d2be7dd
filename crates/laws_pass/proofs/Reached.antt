-- A pass meets the states that it reaches step by step, and no other: each change that a walk makes is one of the steps. Assumes nothing.
use mathlib.Core.Path.{◌≡◌, refl, sym, ◌∙◌, subst}
use mathlib.Core.Bool.{Bool}
use mathlib.Core.List.{◌∷◌}
use Prim.Native.Nat.{ℕ}
use Rattle.def_tree.specs.Combine.{Res, done}
use Rattle.def_pass.specs.Tree.{Tree}
use Rattle.def_pass.specs.Targets.{targets}
use Rattle.def_pass.specs.Twice.{flagged}
use Rattle.def_pass.specs.Scope as Scope
use Rattle.def_pass.specs.Walk as Walk
use Rattle.def_pass.specs.Walk.{St}
use Rattle.laws_pass.specs.Reached.{opens, prevents, reads, writes, senses, bars, declares, stores, fixes, Reached, first, step, closes, counts, same, WalksReached, RunReached, LastReached, RunsReached, PassReached}
use Rattle.laws_pass.proofs.Effects.{Went, Passed, full-does, bare-does, inner-does, run-does, runs-do}
use Rattle.laws_pass.proofs.StateLaws.{StateLaw, StateEffects, law, effects}

-- what is targeted stays
still : (old s : St) → (Walk.restore old s).targeted ≡ s.targeted
unfolding Walk.restore
still old s = refl

targets-stay : (t : Tree) {s : St} → Reached t s → s.targeted ≡ targets t
targets-stay t first = refl
targets-stay t (step f s g r) = targets-stay t r
targets-stay t (closes old s r) = still old s ∙ targets-stay t r
targets-stay t (counts i s f r) = targets-stay t r
targets-stay t (same s s' r a b c d) = b ∙ targets-stay t r

-- as a law of the walks
module _ (t : Tree) where
  abbrev meets : StateLaw
  meets = record { Inv = Reached t; Move = λ m s n s'. Unit {0}; Stop = λ n. Unit {0} }

  steps : StateEffects meets
  steps = record {
    s-refl = λ n s. tt;
    s-trans = λ l m n a b c h k. tt;
    s-frame = λ k m n a b h. tt;
    eight = tt;
    nine = tt;
    recount = λ u e s o h. (same s _ o refl refl refl refl, tt);
    leave = λ n e s o. (same s _ o refl refl refl refl, tt);
    write = λ i g force n s o. (step _ s (writes i g force) o, tt);
    declare = λ again i v u k n s o. (step _ s (declares again i v u k) o, tt);
    const = λ i v n s o. (subst (λ (tg : ℕ → Bool). Reached t (Walk.set_stack (Scope.add_const tg i v s.stack) s)) (sym (targets-stay t o)) (step _ s (fixes i v) o), tt);
    prevent = λ i n s o. (step _ s (prevents i) o, tt);
    read = λ i g n s o. (step _ s (reads i g) o, tt);
    store = λ i v n s o. (step _ s (stores i v) o, tt);
    sensitive = λ i n s o. (step _ s (senses i) o, tt);
    barrier = λ n s o. (step _ s bars o, tt);
    tally = λ i n s f o. (counts i s f o, tt);
    opened = λ k s o. same (Walk.set_stack (Scope.new_scope k ∷ s.stack) s) _ (step _ s (opens k) o) refl refl refl refl;
    closed = λ k m n s s' o o' h. (closes s s' o', tt);
    fields = λ n s s' e o. (same s s' o e.0 e.2 e.3 e.4, tt);
  }

  next : (p : ℕ) (u u' : Tree) (s s' : St) (r : Res St Tree) → Went (law meets) p u s r → r ≡ done s' u' → Reached t s'
  next p u u' s s' r h e = (let k : Went (law meets) p u s (done s' u') = subst (Went (law meets) p u s) e h in k.0)

  last : (u : Tree) (s : St) (o : Walk.Outcome) → Passed (law meets) u s o → LastReached t o
  last u s (Walk.refused n) h = tt
  last u s (Walk.result k c v ms) h = record { state = h.last; reached = h.inv; roots = h.roots }

pub walks-reached : WalksReached
walks-reached = record {
  full = λ d p t u u' s s' r e. next t p u u' s s' ((Walk.walks d).full p u s) (full-does (law (meets t)) (effects (meets t) (steps t)) d p u tt s r) e;
  bare = λ d p t u u' s s' r e. next t p u u' s s' ((Walk.walks d).bare p u s) (bare-does (law (meets t)) (effects (meets t) (steps t)) d p u tt s r) e;
  inner = λ d p t u u' s s' r e. next t p u u' s s' ((Walk.walks d).inner p u s) (inner-does (law (meets t)) (effects (meets t) (steps t)) d p u (λ x. absurd x) tt s r) e;
}

pub run-reached : RunReached
run-reached t u u' s s' r e = next t 1 u u' s s' (Walk.run u s) (run-does (law (meets t)) (effects (meets t) (steps t)) u tt s r) e

pub runs-reached : RunsReached
runs-reached n k t u s r = last t u s (Walk.runs n k u s) (runs-do (law (meets t)) (effects (meets t) (steps t)) n k u s tt r)

pub pass-reached : PassReached
unfolding Walk.core_pass
pass-reached n t = runs-reached n 0 t (flagged t) (Walk.start t) first
