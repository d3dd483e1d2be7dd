-- In every open scope the identifiers' list only grows at its end, through every walk and all runs. Assumes nothing.
use mathlib.Core.Path.{◌≡◌, refl, sym, ap, ◌∙◌, subst}
use mathlib.Core.Bool.{Bool, true, false, ◌&&◌, not, ◌||◌}
use mathlib.Core.Option.{Option, none, some}
use mathlib.Core.List.{List, [], ◌∷◌, ◌++◌, map}
use Prim.Native.Nat.{ℕ}
use lib.Dec.{eqb}
use lib.ListN.{length}
use borrow.Author.Tests.{eqb-true}
use Rattle.def_tree.specs.Base.{pick}
use Rattle.def_tree.specs.Combine.{Res, stop, done}
use Rattle.def_pass.specs.Tree.{Tree}
use Rattle.def_pass.specs.Scope as Scope
use Rattle.def_pass.specs.Scope.{VarInfo, Stack}
use Rattle.def_pass.specs.Walk as Walk
use Rattle.def_pass.specs.Walk.{St}
use Rattle.laws_pass.specs.Grown.{ids_of, root_ids, Longer, Grown, GrownOut, RootsGrow}
use Rattle.laws_pass.proofs.Tests.{pick-ok, elim-ok}
use Rattle.laws_pass.proofs.Single.{ids, ids-append, ids-map, ids-change, pick_id}
use Rattle.laws_pass.proofs.Effects.{Effects, Went, Passed, full-does, bare-does, inner-does, run-does, runs-do}
use Rattle.laws_pass.proofs.StateLaws.{StateLaw, law, effects}

-- ys begins with xs
abbrev Ext : List ℕ → List ℕ → Type 0
Ext [] ys = Unit {0}
Ext (x ∷ xs) [] = ⊥
Ext (x ∷ xs) (y ∷ ys) = (x ≡ y) × Ext xs ys

ext_refl : (xs : List ℕ) → Ext xs xs
ext_refl [] = tt
ext_refl (x ∷ xs) = (refl, ext_refl xs)

ext_same : (xs ys : List ℕ) → ys ≡ xs → Ext xs ys
ext_same xs ys e = subst (Ext xs) (sym e) (ext_refl xs)

ext_trans : (xs ys zs : List ℕ) → Ext xs ys → Ext ys zs → Ext xs zs
ext_trans [] ys zs h k = tt
ext_trans (x ∷ xs) [] zs h k = absurd h
ext_trans (x ∷ xs) (y ∷ ys) [] h k = absurd k
ext_trans (x ∷ xs) (y ∷ ys) (z ∷ zs) h k = (h.0 ∙ k.0, ext_trans xs ys zs h.1 k.1)

ext-append : (xs ys : List ℕ) → Ext xs (xs ++ ys)
ext-append [] ys = tt
ext-append (x ∷ xs) ys = (refl, ext-append xs ys)

longer : (xs ys : List ℕ) → Ext xs ys → Longer xs ys
longer [] ys h = record { more = ys; is = refl }
longer (x ∷ xs) [] h = absurd h
longer (x ∷ xs) (y ∷ ys) h = (let l = longer xs ys h.1 in record { more = l.more; is = ap (λ (z : ℕ). z ∷ ys) (sym h.0) ∙ ap (λ (zs : List ℕ). x ∷ zs) l.is })

-- of bindings
abbrev On : List VarInfo → List VarInfo → Type 0
On bs cs = Ext (ids bs) (ids cs)

on_same : (bs cs : List VarInfo) → ids cs ≡ ids bs → On bs cs
on_same bs cs e = ext_same (ids bs) (ids cs) e

on-append : (bs : List VarInfo) (b : VarInfo) → On bs (bs ++ (b ∷ []))
on-append bs b = subst (Ext (ids bs)) (sym (ids-append bs b)) (ext-append (ids bs) (b.id ∷ []))

on-put : (c : VarInfo) (bs : List VarInfo) → On bs (Scope.put c bs)
on-put c [] = tt
on-put c (b ∷ bs) = go (eqb b.id c.id) refl (on-put c bs)
  where
    go : (p : Bool) → eqb b.id c.id ≡ p → On bs (Scope.put c bs) → On (b ∷ bs) (elim p [ true ↦ c ∷ bs | false ↦ b ∷ Scope.put c bs ])
    go true e k = (eqb-true b.id c.id e, ext_refl (ids bs))
    go false e k = (refl, k)

on-hoist : (us : ℕ → Bool) (cs bs : List VarInfo) → On bs (Scope.hoist_all us cs bs)
on-hoist us [] bs = ext_refl (ids bs)
on-hoist us (c ∷ cs) bs =
    let new = pick (Scope.is_var c.kind) (Scope.put (Scope.hoist us c) bs) bs in
    ext_trans (ids bs) (ids new) (ids (Scope.hoist_all us cs new)) (pick-ok (On bs) (Scope.is_var c.kind) (Scope.put (Scope.hoist us c) bs) bs (on-put (Scope.hoist us c) bs) (ext_refl (ids bs))) (on-hoist us cs new)

-- of the open scopes
abbrev Grow : Stack → Stack → Type 0
Grow [] [] = Unit {0}
Grow [] (u ∷ su) = ⊥
Grow (s ∷ st) [] = ⊥
Grow (s ∷ st) (u ∷ su) = On s.bindings u.bindings × Grow st su

g-refl : (st : Stack) → Grow st st
g-refl [] = tt
g-refl (s ∷ st) = (ext_refl (ids s.bindings), g-refl st)

g-trans : (st su sv : Stack) → Grow st su → Grow su sv → Grow st sv
g-trans [] [] sv h k = k
g-trans [] (u ∷ su) sv h k = absurd h
g-trans (s ∷ st) [] sv h k = absurd h
g-trans (s ∷ st) (u ∷ su) [] h k = absurd k
g-trans (s ∷ st) (u ∷ su) (v ∷ sv) h k = (ext_trans (ids s.bindings) (ids u.bindings) (ids v.bindings) h.0 k.0, g-trans st su sv h.1 k.1)

-- one of two
g-pick : (st : Stack) (c : Bool) (su : Stack) (f : Stack → Stack) → ((sv : Stack) → Grow sv (f sv)) → Grow st su → Grow st (pick c (f su) su)
g-pick st c su f h k = pick-ok (Grow st) c (f su) su (g-trans st su (f su) k (h su)) k

g-prevent : (i : ℕ) (st : Stack) → Grow st (Scope.prevent_inline i st)
g-prevent i [] = tt
g-prevent i (s ∷ st) = (on_same s.bindings (map (Scope.prevent_one i) s.bindings) (ids-map (Scope.prevent_one i) (λ b. pick_id (eqb b.id i || Scope.value_is i b.value) (Scope.prevent b) b refl) s.bindings), g-prevent i st)

g-params : (st : Stack) → Grow st (Scope.prevent_inline_of_params st)
g-params [] = tt
g-params (s ∷ st) = (
  on_same s.bindings (map Scope.prevent_param s.bindings) (ids-map Scope.prevent_param (λ b. pick_id (Scope.is_param b.kind) (Scope.prevent b) b refl) s.bindings),
  elim-ok (Grow st) (Scope.is_fn s.kind) st (Scope.prevent_inline_of_params st) (g-refl st) (g-params st),
)

g-change : (i : ℕ) (f : VarInfo → VarInfo) → ((b : VarInfo) → (f b).id ≡ b.id) → (st : Stack) → Grow st (Scope.change i f st)
g-change i f e [] = tt
g-change i f e (s ∷ st) = elim-ok (Grow (s ∷ st)) (Scope.has_in i s.bindings) (Scope.on_bindings (Scope.change_in i f) s ∷ st) (s ∷ Scope.change i f st)
    (on_same s.bindings (Scope.change_in i f s.bindings) (ids-change f e i s.bindings), g-refl st) (ext_refl (ids s.bindings), g-change i f e st)

g-unresolved : (i : ℕ) (st : Stack) → Grow st (Scope.add_unresolved i st)
g-unresolved i [] = tt
g-unresolved i (s ∷ st) = g-refl (s ∷ st)

g-append : (b : VarInfo) (st : Stack) → Grow st (Scope.append b st)
g-append b [] = tt
g-append b (s ∷ st) = (on-append s.bindings b, g-refl st)

g-const : (tg : ℕ → Bool) (i : ℕ) (v : Option Tree) (st : Stack) → Grow st (Scope.add_const tg i v st)
g-const tg i v [] = tt
g-const tg i v (s ∷ st) = g-refl (s ∷ st)

g-barrier : (st : Stack) → Grow st (Scope.store_inline_barrier st)
g-barrier [] = tt
g-barrier (s ∷ st) = (ext_refl (ids s.bindings), g-barrier st)

g-sensitive : (i : Option ℕ) (st : Stack) → Grow st (Scope.mark_this_sensitive i st)
g-sensitive none st = g-refl st
g-sensitive (some i) st = g-change i Scope.sensitive_now (λ b. refl) st

g-prevent_o : (i : Option ℕ) (st : Stack) → Grow st (Scope.prevent_inline_o i st)
g-prevent_o none st = g-refl st
g-prevent_o (some i) st = g-prevent i st

g-read : (i : ℕ) (args : Bool) (st : Stack) → Grow st (Scope.add_read i args st)
unfolding Scope.add_read
g-read i args st =
    let st₁ = pick (Scope.read_prevents_inlining i st) (Scope.prevent_inline i st) st in
    let st₂ = pick args (Scope.prevent_inline_of_params st₁) st₁ in
    let h₁ = g-pick st (Scope.read_prevents_inlining i st) st (Scope.prevent_inline i) (g-prevent i) (g-refl st) in
    let h₂ = g-pick st args st₁ Scope.prevent_inline_of_params g-params h₁ in
    pick-ok (Grow st) (Scope.is_some (Scope.find_binding i st₂)) (Scope.change i Scope.count_read st₂) (Scope.add_unresolved i st₂)
    (g-trans st st₂ (Scope.change i Scope.count_read st₂) h₂ (g-change i Scope.count_read (λ b. refl) st₂)) (g-trans st st₂ (Scope.add_unresolved i st₂) h₂ (g-unresolved i st₂))

g-write : (i : ℕ) (args force : Bool) (st : Stack) → Grow st (Scope.add_write i args force st)
unfolding Scope.add_write
g-write i args force st =
    let st₁ = pick (Scope.write_prevents_inline i st) (Scope.prevent_inline i st) st in
    let st₂ = pick args (Scope.prevent_inline_of_params st₁) st₁ in
    let st₃ = Scope.change i Scope.defined st₂ in
    let b = Scope.fresh i Scope.v_var none force false none in
    let w = Scope.scope_for true i st₂ in
    let h₁ = g-pick st (Scope.write_prevents_inline i st) st (Scope.prevent_inline i) (g-prevent i) (g-refl st) in
    let h₂ = g-pick st args st₁ Scope.prevent_inline_of_params g-params h₁ in
    let h₃ = g-trans st st₂ st₃ h₂ (g-change i Scope.defined (λ b. refl) st₂) in
    pick-ok (Grow st) w.0 (pick (not w.1 || force) (Scope.prevent_inline i st₃) st₃) (pick (Scope.has_constant i st₂) st₂ (Scope.append b st₂))
    (g-pick st (not w.1 || force) st₃ (Scope.prevent_inline i) (g-prevent i) h₃)
    (pick-ok (Grow st) (Scope.has_constant i st₂) st₂ (Scope.append b st₂) h₂ (g-trans st st₂ (Scope.append b st₂) h₂ (g-append b st₂)))

g-declare : (again : Bool) (i : ℕ) (v : Scope.Init) (u : Bool) (k : Scope.VarType) (st : Stack) → Grow st (Scope.declare again i v u k st)
unfolding Scope.declare
g-declare again i v u k [] = tt
g-declare again i v u k (s ∷ st) =
    let e = Scope.init_of v in
    let target = Scope.idx_val_o (Scope.ident_of e) s.bindings in
    let al = Scope.alias_from target in
    let p = again || Scope.should_prevent_inline_because_of_scope i (s ∷ st) || Scope.prevented_o e (s ∷ st) in
    let idx = Scope.place_or (length s.bindings) (Scope.idx_val 0 i s.bindings) in
    let old = Scope.find_in i s.bindings in
    let f = Scope.redeclare p u (Scope.kept v (Scope.value_o old)) in
    let b = Scope.fresh i k al p u (Scope.kept v none) in
    let new = pick (Scope.is_some old) (Scope.change_in i f s.bindings) (s.bindings ++ (b ∷ [])) in
    let st₁ : Stack = Scope.on_bindings (λ bs. new) s ∷ st in
    let st₂ = pick (Scope.in_loop (s ∷ st)) (Scope.prevent_inline i st₁) st₁ in
    let works = not (Scope.is_param k) && not (Scope.param_o al) in
    let hn = pick-ok (On s.bindings) (Scope.is_some old) (Scope.change_in i f s.bindings) (s.bindings ++ (b ∷ [])) (on_same s.bindings (Scope.change_in i f s.bindings) (ids-change f (λ c. refl) i s.bindings)) (on-append s.bindings b) in
    let h₁ : Grow (s ∷ st) st₁ = (hn, g-refl st) in
    let h₂ = g-pick (s ∷ st) (Scope.in_loop (s ∷ st)) st₁ (Scope.prevent_inline i) (g-prevent i) h₁ in
    g-pick (s ∷ st) (works && Scope.barred target idx s.inline_barriers) st₂ (λ x. Scope.prevent_inline_o (Scope.ident_of e) (Scope.prevent_inline i x))
    (λ x. g-trans x (Scope.prevent_inline i x) (Scope.prevent_inline_o (Scope.ident_of e) (Scope.prevent_inline i x)) (g-prevent i x) (g-prevent_o (Scope.ident_of e) (Scope.prevent_inline i x))) h₂

g-close : (k : Scope.ScopeKind) (st su : Stack) → Grow (Scope.new_scope k ∷ st) su → Grow st (Scope.close su)
unfolding Scope.close
g-close k st [] h = absurd h
g-close k [] (c ∷ []) h = tt
g-close k (s ∷ st) (c ∷ []) h = absurd h.1
g-close k [] (c ∷ u ∷ su) h = absurd h.1
g-close k (s ∷ st) (c ∷ u ∷ su) h =
    let us : ℕ → Bool = λ j. c.unresolved_usages j || u.unresolved_usages j in
    let new = pick (Scope.is_fn c.kind) u.bindings (Scope.hoist_all us c.bindings u.bindings) in
    (ext_trans (ids s.bindings) (ids u.bindings) (ids new) h.1.0 (pick-ok (On u.bindings) (Scope.is_fn c.kind) u.bindings (Scope.hoist_all us c.bindings u.bindings) (ext_refl (ids u.bindings)) (on-hoist us c.bindings u.bindings)), h.1.1)

-- as a law of the walks
abbrev grows : StateLaw
grows = record { Inv = λ s. Unit {0}; Move = λ m s n s'. Grow s.stack s'.stack; Stop = λ n. Unit {0} }

grown : Effects (law grows)
unfolding Walk.restore
grown = effects grows (record {
  s-refl = λ n s. g-refl s.stack;
  s-trans = λ l m n a b c h k. g-trans a.stack b.stack c.stack h k;
  s-frame = λ k m n a b h. h;
  eight = tt;
  nine = tt;
  recount = λ t e s o h. (tt, g-refl s.stack);
  leave = λ n e s o. (tt, g-refl s.stack);
  write = λ i g force n s o. (tt, g-write i g force s.stack);
  declare = λ again i v u k n s o. (tt, g-declare again i v u k s.stack);
  const = λ i v n s o. (tt, g-const s.targeted i v s.stack);
  prevent = λ i n s o. (tt, g-prevent i s.stack);
  read = λ i g n s o. (tt, g-read i g s.stack);
  store = λ i v n s o. (tt, g-change i (Scope.with_value v) (λ b. refl) s.stack);
  sensitive = λ i n s o. (tt, g-sensitive i s.stack);
  barrier = λ n s o. (tt, g-barrier s.stack);
  tally = λ i n s f o. (tt, g-change i Scope.count_one (λ b. refl) s.stack);
  opened = λ k s o. tt;
  closed = λ k m n s s' o o' h. (tt, g-close k s.stack s'.stack h);
  fields = λ n s s' e o. (tt, subst (Grow s.stack) (sym e.0) (g-refl s.stack));
})

-- of the root
numbers : (bs : List VarInfo) → ids_of (map (λ (b : VarInfo). (b.id, b.inline_prevented, b.count)) bs) ≡ ids bs
numbers [] = refl
numbers (b ∷ bs) = rw (numbers bs) refl

root : (st su : Stack) → Grow st su → Ext (root_ids st) (root_ids su)
root [] su h = tt
root (s ∷ st) [] h = absurd h
root (s ∷ []) (u ∷ []) h = subst (Ext (root_ids (s ∷ []))) (sym (numbers u.bindings)) (subst (λ (xs : List ℕ). Ext xs (ids u.bindings)) (sym (numbers s.bindings)) h.0)
root (s ∷ []) (u ∷ v ∷ su) h = absurd h.1
root (s ∷ r ∷ st) (u ∷ []) h = absurd h.1
root (s ∷ r ∷ st) (u ∷ v ∷ su) h = root (r ∷ st) (v ∷ su) h.1

went : (p : ℕ) (t : Tree) (s : St) (r : Res St Tree) → Went (law grows) p t s r → Grown s r
went p t s (stop n) h = tt
went p t s (done s' u) h = longer (root_ids s.stack) (root_ids s'.stack) (root s.stack s'.stack h.1)

passed : (t : Tree) (s : St) (o : Walk.Outcome) → Passed (law grows) t s o → GrownOut s o
passed t s (Walk.refused n) h = tt
passed t s (Walk.result k c u ms) h = longer (root_ids s.stack) (ids_of ms) (subst (λ (x : List Walk.Rooted). Ext (root_ids s.stack) (ids_of x)) (sym h.roots) (root s.stack h.last.stack h.moved))

pub roots-grow : RootsGrow
roots-grow = record {
  full = λ d p t s. went p t s ((Walk.walks d).full p t s) (full-does (law grows) grown d p t tt s tt);
  bare = λ d p t s. went p t s ((Walk.walks d).bare p t s) (bare-does (law grows) grown d p t tt s tt);
  inner = λ d p t s. went p t s ((Walk.walks d).inner p t s) (inner-does (law grows) grown d p t (λ e. absurd e) tt s tt);
  one = λ t s. went 1 t s (Walk.run t s) (run-does (law grows) grown t tt s tt);
  all = λ n k t s. passed t s (Walk.runs n k t s) (runs-do (law grows) grown n k t s tt tt);
}
