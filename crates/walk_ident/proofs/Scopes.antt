-- A scope entered and left, and a right side in its Cond scope, as the walk does it. Assumes nothing.
use Rattle.std.proofs.Common.{◌≡◌, ℕ, suc, ◌+◌, ◌%◌, ◌<◌, ◌≤◌, Bool, true, false, leb, List, ◌∷◌, length, get_or, refl, ap, ◌∙◌, add-one, arith, le-leb}
use borrow.Author.Tests.{lt-leb}
use Rattle.def_tree.specs.Combine.{Res, stop, done, Nothing, carry, Flat, on_rest}
use Rattle.def_pass.specs.Scope.{ScopeKind, v_var, new_scope, close, wrap, ending}
use Rattle.def_pass.specs.Walk.{St, opening, deeper, restore, set_stack, set_var_decl_kind, set_conds}
use Rattle.words.specs.Layout.{tree}
use Rattle.words_scopes.specs.State.{stack}
use Rattle.words_state.specs.declared.SavedFields.{SavedFields}
use Rattle.words_state.specs.State.{rest, abs, given_back, set_ended, Turns}
use Rattle.walk_ident.specs.Steps.{Restored}
use Rattle.walk_ident.proofs.Laws.{flat-eq, turns-abs}

module _ (w : List ℕ) (k : ScopeKind) where
  abbrev opened : Bool → Res (Flat St) Nothing
  opened b = carry (λ s a. record { nodes = tree w; rest = s }) (λ a. a) (elim b [ true ↦ stop 8 | false ↦ done (set_var_decl_kind v_var (set_stack (new_scope k ∷ stack w) (rest w))) tt ])

  by : {b : Bool} → leb 32 (length (stack w)) ≡ b → on_rest (opening k) (abs w) ≡ opened b
  unfolding opening rest
  by e = ap opened e

  pub enter-full : leb 32 (length (stack w)) ≡ true → on_rest (opening k) (abs w) ≡ stop 8
  enter-full h = by h

  pub enter-open : leb 32 (length (stack w)) ≡ false → on_rest (opening k) (abs w) ≡ done (record { nodes = tree w; rest = set_var_decl_kind v_var (set_stack (new_scope k ∷ stack w) (rest w)) }) tt
  enter-open h = by h

module _ (w : List ℕ) where
  abbrev deep : Bool → Res (Flat St) Nothing
  deep b = carry (λ s a. record { nodes = tree w; rest = s }) (λ a. a) (elim b [ true ↦ stop 8 | false ↦ done (set_conds (suc (get_or w 11 0)) (rest w)) tt ])

  by-deep : {b : Bool} → leb 12 (get_or w 11 0) ≡ b → on_rest deeper (abs w) ≡ deep b
  unfolding deeper rest
  by-deep e = ap deep e

  pub deeper-full : 12 ≤ get_or w 11 0 → on_rest deeper (abs w) ≡ stop 8
  deeper-full h = by-deep (le-leb 12 (get_or w 11 0) h)

  pub deeper-one : get_or w 11 0 < 12 → on_rest deeper (abs w) ≡ done (record { nodes = tree w; rest = set_conds (get_or w 11 0 + 1) (rest w) }) tt
  deeper-one h = rw add-one (by-deep (lt-leb 12 (get_or w 11 0) h))

-- the counts that end, added to their total
pub total : (a b n e v : ℕ) → a ≡ b → n ≡ wrap e → v ≡ (a + n) % 4294967296 → v ≡ wrap (b + e)
total a b n e v p q r = omega (arith, p, q, r)

-- the words' visitor after `close` and the stores is that of `restore`
pub left_is : (w u : List ℕ) (ended : ℕ) (f : SavedFields) → ended ≡ wrap (get_or w 12 0 + ending (stack w)) → Turns w u (given_back f (set_ended ended (set_stack (close (stack w)) (rest w)))) → Restored w u f
unfolding restore rest
left_is w u ended f e t = record { ok = t.ok; is = λ old s. turns-abs t ∙ flat-eq refl (rw (← s.inlining, ← s.var_decl_kind, ← s.pat_mode, ← s.in_test, e) refl) }
