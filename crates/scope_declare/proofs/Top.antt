-- The innermost scope: what it is in the words. Assumes nothing.
use mathlib.Core.Path.{◌≡◌, refl, sym, ap, ◌∙◌}
use mathlib.Core.List.{List, [], ◌∷◌}
use mathlib.Core.Bool.{Bool, true, false}
use Prim.Native.Nat.{ℕ, suc, ◌+◌, ◌-◌, ◌*◌, ◌≤◌, ◌<◌}
use native.Mathlib.Omega.{arith}
use lib.ListN.{length, get_or, take, drop}
use Rattle.def_pass.specs.Scope.{VarInfo, Scope, Stack, find_binding_from_current, is_some, put, change, append, on_bindings}
use Rattle.words.specs.Tab.{get_d-tab}
use Rattle.words.specs.Layout.{yes}
use Rattle.words.specs.Flags.{flag_at}
use Rattle.words_scopes.specs.State.{Good, Fits, split, scope_of, head_at, heads_at, heads, flags, binds, consts, stack, unres_at}
use Rattle.words_scopes.proofs.Split as laws
use Rattle.words_scopes.proofs.Grow.{some-head}
use Rattle.scope_values.proofs.Count.{depth_is}

-- a binding put into the innermost scope
abbrev pub put_top : VarInfo → Stack → Stack
put_top c [] = []
put_top c (s ∷ st) = on_bindings (put c) s ∷ st

pub put-there : (c : VarInfo) (st : Stack) → is_some (find_binding_from_current c.id st) ≡ true → put_top c st ≡ change c.id (λ b. c) st
put-there c [] h = refl
put-there c (s ∷ st) h = laws.put-top c s st h

pub put-absent : (c : VarInfo) (st : Stack) → is_some (find_binding_from_current c.id st) ≡ false → put_top c st ≡ append c st
put-absent c [] h = refl
put-absent c (s ∷ st) h = laws.put-append c s st h

-- what is unresolved in it
abbrev pub unres_top : Stack → ℕ → Bool
unres_top [] = λ j. false
unres_top (s ∷ st) = s.unresolved_usages

module _ (w : List ℕ) (g : Good w) (z : 0 < get_or w 2 0) where
  abbrev d : ℕ
  d = get_or w 2 0 - 1

  abbrev a : ℕ
  a = get_or w (7184 + d * 4 + 1) 0

  pub heads-top : heads w ≡ head_at w d ∷ heads_at w d
  unfolding heads
  heads-top = some-head w (get_or w 2 0) z

  pub top-fits : a ≤ get_or w 1 0
  top-fits = let f : Fits (head_at w d ∷ heads_at w d) (get_or w 1 0) = rw heads-top at g.fits in f.0

  abbrev pub top_scope : Scope
  top_scope = scope_of (head_at w d) (drop a (flags w)) (drop a (binds w)) (drop (head_at w d).cstart (consts w))

  abbrev pub under : Stack
  under = split (heads_at w d) (take a (flags w)) (take a (binds w)) (take (head_at w d).cstart (consts w))

  pub stack_top : stack w ≡ top_scope ∷ under
  unfolding stack
  stack_top = rw heads-top refl

  pub under-length : length under ≡ d
  under-length = let l : suc (length under) ≡ get_or w 2 0 = sym (ap length stack_top) ∙ depth_is w in omega arith

  pub unres-at : (x : ℕ) → x < 256 → unres_top (stack w) x ≡ yes (flag_at w (7312 + d * 8) x)
  unfolding unres_at
  unres-at x h = rw stack_top (ap yes (get_d-tab 256 (λ j. flag_at w (7312 + d * 8) j) x 0 h))
