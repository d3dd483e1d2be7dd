-- The look-up of a constant gives no targeted identifier: through every step, walk and run the constants of the open scopes are free of
-- targeted identifiers, and what is targeted stays. Assumes nothing.
use mathlib.Core.Path.{◌≡◌, refl, sym, ap, ◌∙◌, subst}
use mathlib.Core.Bool.{Bool, true, false, ◌&&◌}
use mathlib.Core.Option.{Option, none, some}
use mathlib.Core.List.{List, [], ◌∷◌}
use Prim.Native.Nat.{ℕ}
use native.Mathlib.Omega.{arith}
use lib.Dec.{eqb}
use Rattle.def_tree.specs.Base.{pick, or_else}
use Rattle.def_pass.specs.Tree.{Tree, num, is_ident}
use Rattle.def_pass.specs.Targets.{targets}
use Rattle.def_pass.specs.Scope as Scope
use Rattle.def_pass.specs.Scope.{VarInfo, Stack, Free}
use Rattle.def_pass.specs.Walk as Walk
use Rattle.def_pass.specs.Walk.{St}
use Rattle.laws_pass.specs.Reached.{Step, opens, prevents, reads, writes, senses, bars, declares, stores, begins, fixes, Reached, first, step, closes, counts, same}
use Rattle.laws_pass.specs.Constants.{LookUpFree}
use Rattle.laws_pass.proofs.Tests.{elim-ok}
use Rattle.laws_pass.proofs.All.{All}
use Rattle.laws_pass.proofs.Measure.{Const, Kept, all, same-prevent, same-change, same_read, same_write, same-barrier, same-sensitive, same-declare}

-- the constants of the open scopes: no step but `add_const`, and the ends of scopes, changes them
abbrev per : List VarInfo → List Const → List Const
per bs cs = cs

untouched : Kept per
untouched = record { mapped = λ f e bs cs. refl; changed = λ i f e bs cs. refl; appended = λ b e bs cs. refl }

abbrev consts : Stack → List (List Const)
consts st = all per st

-- any change of a binding keeps them
same-change-any : (i : ℕ) (f : VarInfo → VarInfo) (st : Stack) → consts (Scope.change i f st) ≡ consts st
same-change-any i f [] = refl
same-change-any i f (s ∷ st) = go (Scope.has_in i s.bindings) (same-change-any i f st)
  where
    go : (c : Bool) → consts (Scope.change i f st) ≡ consts st → consts (elim c [ true ↦ Scope.on_bindings (Scope.change_in i f) s ∷ st | false ↦ s ∷ Scope.change i f st ]) ≡ s.constants ∷ consts st
    go true h = refl
    go false h = ap (λ (l : List (List Const)). s.constants ∷ l) h

-- all of them are free
module _ (tg : ℕ → Bool) where
  abbrev FreeC : List Const → Type 0
  FreeC cs = All (λ (c : Const). Free tg c.1) cs

  abbrev FreeSt : Stack → Type 0
  FreeSt st = All FreeC (consts st)

  free-untargeted : (v : Option Tree) → Free tg (Scope.untargeted tg v)
  free-untargeted none = tt
  free-untargeted (some t) = go (is_ident t) refl (tg (num t)) refl
    where
      go : (a : Bool) → is_ident t ≡ a → (b : Bool) → tg (num t) ≡ b → Free tg (pick (a && b) none (some t))
      go true e true d = tt
      go true e false d = λ h. d
      go false e b d = λ h. absurd (let z : false ≡ true = sym e ∙ h in let n : ◌≡◌ {A = ℕ} 0 1 = cc in omega arith)

  free-put : (i : ℕ) (v : Option Tree) → Free tg v → (cs : List Const) → FreeC cs → FreeC (Scope.put_const i v cs)
  free-put i v k [] h = (k, tt)
  free-put i v k (c ∷ cs) h = elim-ok FreeC (eqb c.0 i) ((i, v) ∷ cs) (c ∷ Scope.put_const i v cs) (k, h.1) (h.0, free-put i v k cs h.1)

  free-add : (i : ℕ) (v : Option Tree) (st : Stack) → FreeSt st → FreeSt (Scope.add_const tg i v st)
  free-add i v [] h = tt
  free-add i v (s ∷ st) h = (free-put i (Scope.untargeted tg v) (free-untargeted v) s.constants h.0, h.1)

  free-close : (st : Stack) → FreeSt st → FreeSt (Scope.close st)
  unfolding Scope.close
  free-close [] h = tt
  free-close (c ∷ []) h = tt
  free-close (c ∷ s ∷ st) h = h.1

  free_in : (i : ℕ) (cs : List Const) → FreeC cs → Free tg (Scope.flat (Scope.const_in i cs))
  free_in i [] h = tt
  free_in i (c ∷ cs) h = go (eqb c.0 i) (free_in i cs h.1)
    where
      go : (p : Bool) → Free tg (Scope.flat (Scope.const_in i cs)) → Free tg (Scope.flat (elim p [ true ↦ some c.1 | false ↦ Scope.const_in i cs ]))
      go true k = h.0
      go false k = k

  -- and so is what is found
  free-find : (i : ℕ) (st : Stack) → FreeSt st → Free tg (Scope.find_constant i st)
  free-find i [] h = tt
  free-find i (s ∷ st) h = go (Scope.flat (Scope.const_in i s.constants)) (free_in i s.constants h.0) (free-find i st h.1)
    where
      go : (o : Option Tree) → Free tg o → Free tg (Scope.find_constant i st) → Free tg (or_else o (Scope.find_constant i st))
      go none h k = k
      go (some t) h k = h

-- a state that is reached
abbrev Good : (ℕ → Bool) → St → Type 0
Good tg s = FreeSt tg s.stack × (s.targeted ≡ tg)

stepped : {tg : ℕ → Bool} {f : Stack → Stack} → Step tg f → (st : Stack) → FreeSt tg st → FreeSt tg (f st)
stepped (opens k) st h = (tt, h)
stepped {tg} (prevents i) st h = subst (All (FreeC tg)) (sym (same-prevent per untouched i st)) h
stepped {tg} (reads i a) st h = subst (All (FreeC tg)) (sym (same_read per untouched i a st)) h
stepped {tg} (writes i a b) st h = subst (All (FreeC tg)) (sym (same_write per untouched i a b st)) h
stepped {tg} (senses i) st h = subst (All (FreeC tg)) (sym (same-sensitive per untouched i st)) h
stepped {tg} bars st h = subst (All (FreeC tg)) (sym (same-barrier per untouched st)) h
stepped {tg} (declares again i v u k) st h = subst (All (FreeC tg)) (sym (same-declare per untouched again i v u k st)) h
stepped {tg} (stores i v) st h = subst (All (FreeC tg)) (sym (same-change per untouched i (Scope.with_value v) (λ b. refl) st)) h
stepped {tg} (begins i v) st h = subst (All (FreeC tg)) (sym (same-change per untouched i (λ b. Scope.defined (Scope.with_value v b)) (λ b. refl) st)) h
stepped {tg} (fixes i v) st h = free-add tg i v st h

ended : (tg : ℕ → Bool) (old s : St) → Good tg s → Good tg (Walk.restore old s)
unfolding Walk.restore
ended tg old s h = (free-close tg s.stack h.0, h.1)

reached : (t : Tree) {s : St} → Reached t s → Good (targets t) s
reached t first = ((tt, tt), refl)
reached t (step f s g r) = (let h = reached t r in (stepped g s.stack h.0, h.1))
reached t (closes old s r) = (let h = reached t r in ended (targets t) old s h)
reached t (counts i s f r) = (let h = reached t r in (subst (All (FreeC (targets t))) (sym (same-change-any i Scope.count_one s.stack)) h.0, h.1))
reached t (same s s' r a b c d) = (let h = reached t r in (subst (FreeSt (targets t)) (sym a) h.0, b ∙ h.1))

pub look-up-free : LookUpFree
look-up-free t s r x e f i = subst (Free (targets t)) f (free-find (targets t) x s.stack (reached t r).0) i
