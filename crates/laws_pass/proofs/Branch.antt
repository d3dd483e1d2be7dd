-- In Inlining `y = x` never becomes `x`: the write just before has cleared the undefined mark, or x is prevented. Assumes nothing.
use mathlib.Core.Path.{◌≡◌, refl, sym, subst}
use mathlib.Core.Bool.{Bool, true, false, ◌&&◌, ◌||◌, not}
use mathlib.Core.Option.{Option, none, some}
use mathlib.Core.Logic.{◌⊎◌, inl, inr}
use mathlib.Core.List.{List, [], ◌∷◌, ◌++◌, map}
use Prim.Native.Nat.{ℕ, suc}
use lib.Dec.{T, eqb, ltb, eqb→eq}
use Rattle.def_tree.specs.Base.{pick, or_else}
use Rattle.def_tree.specs.Combine.{Res, stop, done, Nothing, and_then, ◌>>◌, ret, iff, each, split}
use Rattle.def_pass.specs.Tree as Tree'
use Rattle.def_pass.specs.Tree.{Tree, Forest, node, nil, cons, kind, form, num, kids, head_t}
use Rattle.def_pass.specs.Twice.{is_args}
use Rattle.def_pass.specs.Scope as Scope
use Rattle.def_pass.specs.Scope.{VarInfo, Stack}
use Rattle.def_pass.specs.Walk as Walk
use Rattle.def_pass.specs.Walk.{St, M, Walks}
use Rattle.laws_pass.specs.Branch.{Cleared, WriteClears, Ends, NeverTaken}
use Rattle.laws_pass.proofs.Single.{Fresh, unbound}
use Rattle.laws_pass.proofs.Tests.{pick-ok, pick_known}

none-cleared : (o : Option VarInfo) → Scope.is_some o ≡ false → Cleared o
none-cleared none e = tt
none-cleared (some b) e = absurd (subst T e tt)

in-define : (i : ℕ) (bs : List VarInfo) → Cleared (Scope.find_in i (Scope.change_in i Scope.defined bs))
in-define i [] = tt
in-define i (b ∷ bs) = go (eqb b.id i) refl (in-define i bs)
  where
    go : (p : Bool) → eqb b.id i ≡ p → Cleared (Scope.find_in i (Scope.change_in i Scope.defined bs)) → Cleared (Scope.find_in i (elim p [ true ↦ Scope.defined b ∷ bs | false ↦ b ∷ Scope.change_in i Scope.defined bs ]))
    go true e k = rw (e, Cleared) refl
    go false e k = rw (e, Cleared) k

in-value : (i : ℕ) (v : Option Tree) (bs : List VarInfo) → Cleared (Scope.find_in i bs) → Cleared (Scope.find_in i (Scope.change_in i (Scope.with_value v) bs))
in-value i v [] h = tt
in-value i v (b ∷ bs) h = go (eqb b.id i) refl h (in-value i v bs)
  where
    go : (p : Bool) → eqb b.id i ≡ p → Cleared (elim p [ true ↦ some b | false ↦ Scope.find_in i bs ]) → (Cleared (Scope.find_in i bs) → Cleared (Scope.find_in i (Scope.change_in i (Scope.with_value v) bs))) → Cleared (Scope.find_in i (elim p [ true ↦ Scope.with_value v b ∷ bs | false ↦ b ∷ Scope.change_in i (Scope.with_value v) bs ]))
    go true e h k = rw (e, Cleared) h
    go false e h k = rw (e, Cleared) (k h)

in-prevent : (i j : ℕ) (bs : List VarInfo) → Cleared (Scope.find_in i bs) → Cleared (Scope.find_in i (map (Scope.prevent_one j) bs))
in-prevent i j [] h = tt
in-prevent i j (b ∷ bs) h = go (eqb b.id j || Scope.value_is j b.value) (eqb b.id i) refl h (in-prevent i j bs)
  where
    go : (c p : Bool) → eqb b.id i ≡ p → Cleared (elim p [ true ↦ some b | false ↦ Scope.find_in i bs ]) → (Cleared (Scope.find_in i bs) → Cleared (Scope.find_in i (map (Scope.prevent_one j) bs))) → Cleared (Scope.find_in i (pick c (Scope.prevent b) b ∷ map (Scope.prevent_one j) bs))
    go true true e h k = rw (e, Cleared) h
    go true false e h k = rw (e, Cleared) (k h)
    go false true e h k = rw (e, Cleared) h
    go false false e h k = rw (e, Cleared) (k h)

in-append : (i : ℕ) (p : Bool) (bs : List VarInfo) → Cleared (Scope.find_in i bs) → Cleared (Scope.find_in i (bs ++ (Scope.fresh i Scope.v_var none p false none ∷ [])))
in-append i p [] h = go (eqb i i)
  where
    go : (q : Bool) → Cleared (elim q [ true ↦ some (Scope.fresh i Scope.v_var none p false none) | false ↦ none ])
    go true = refl
    go false = tt
in-append i p (b ∷ bs) h = go (eqb b.id i) h (in-append i p bs)
  where
    go : (q : Bool) → Cleared (elim q [ true ↦ some b | false ↦ Scope.find_in i bs ]) → (Cleared (Scope.find_in i bs) → Cleared (Scope.find_in i (bs ++ (Scope.fresh i Scope.v_var none p false none ∷ [])))) → Cleared (elim q [ true ↦ some b | false ↦ Scope.find_in i (bs ++ (Scope.fresh i Scope.v_var none p false none ∷ [])) ])
    go true h k = h
    go false h k = k h

-- in the current scope
abbrev Here : ℕ → Stack → Type 0
Here i st = Cleared (Scope.find_binding_from_current i st)

here-define : (i : ℕ) (st : Stack) → Here i (Scope.change i Scope.defined st)
here-define i [] = tt
here-define i (s ∷ st) = go (Scope.has_in i s.bindings) refl
  where
    go : (p : Bool) → Scope.has_in i s.bindings ≡ p → Here i (elim p [ true ↦ Scope.on_bindings (Scope.change_in i Scope.defined) s ∷ st | false ↦ s ∷ Scope.change i Scope.defined st ])
    go true e = in-define i s.bindings
    go false e = none-cleared (Scope.find_in i s.bindings) e

here-value : (i : ℕ) (v : Option Tree) (st : Stack) → Here i st → Here i (Scope.change i (Scope.with_value v) st)
here-value i v [] h = tt
here-value i v (s ∷ st) h = go (Scope.has_in i s.bindings)
  where
    go : (p : Bool) → Here i (elim p [ true ↦ Scope.on_bindings (Scope.change_in i (Scope.with_value v)) s ∷ st | false ↦ s ∷ Scope.change i (Scope.with_value v) st ])
    go true = in-value i v s.bindings h
    go false = h

here-prevent : (i j : ℕ) (st : Stack) → Here i st → Here i (Scope.prevent_inline j st)
here-prevent i j [] h = tt
here-prevent i j (s ∷ st) h = in-prevent i j s.bindings h

here-append : (i : ℕ) (p : Bool) (st : Stack) → Here i st → Here i (Scope.append (Scope.fresh i Scope.v_var none p false none) st)
here-append i p [] h = tt
here-append i p (s ∷ st) h = in-append i p s.bindings h

here-fresh : (i : ℕ) (st : Stack) → Fresh i st → Here i st
here-fresh i [] h = tt
here-fresh i (s ∷ st) h = none-cleared (Scope.find_in i s.bindings) h

-- a write of i clears it
pub here-write : WriteClears
unfolding Scope.add_write
here-write i args force st =
    let st₁ = pick (Scope.write_prevents_inline i st) (Scope.prevent_inline i st) st in
    let st₂ = pick args (Scope.prevent_inline_of_params st₁) st₁ in
    let w = Scope.scope_for true i st₂ in
    pick_known (Here i) w.0 _ _
    (λ e. pick-ok (Here i) (not w.1 || force) _ _ (here-prevent i i (Scope.change i Scope.defined st₂) (here-define i st₂)) (here-define i st₂))
    (λ e. let f = here-fresh i st₂ (unbound true i st₂ e) in pick-ok (Here i) (Scope.has_constant i st₂) _ _ f (here-append i force st₂ f))

-- a mark stays
found_map : (i j : ℕ) (bs : List VarInfo) → Scope.mark_of (Scope.find_in j bs) ≡ true → Scope.mark_of (Scope.find_in j (map (Scope.prevent_one i) bs)) ≡ true
found_map i j [] h = h
found_map i j (b ∷ bs) h = go (eqb b.id i || Scope.value_is i b.value) (eqb b.id j) refl h (found_map i j bs)
  where
    go : (c p : Bool) → eqb b.id j ≡ p → Scope.mark_of (elim p [ true ↦ some b | false ↦ Scope.find_in j bs ]) ≡ true → (Scope.mark_of (Scope.find_in j bs) ≡ true → Scope.mark_of (Scope.find_in j (map (Scope.prevent_one i) bs)) ≡ true) → Scope.mark_of (Scope.find_in j (pick c (Scope.prevent b) b ∷ map (Scope.prevent_one i) bs)) ≡ true
    go true true e h k = rw (e, Scope.mark_of) refl
    go true false e h k = rw (e, Scope.mark_of) (k h)
    go false true e h k = rw (e, Scope.mark_of) h
    go false false e h k = rw (e, Scope.mark_of) (k h)

lost-map : (i j : ℕ) (bs : List VarInfo) → Scope.is_some (Scope.find_in j (map (Scope.prevent_one i) bs)) ≡ Scope.is_some (Scope.find_in j bs)
lost-map i j [] = refl
lost-map i j (b ∷ bs) = go (eqb b.id i || Scope.value_is i b.value) (eqb b.id j) refl (lost-map i j bs)
  where
    go : (c p : Bool) → eqb b.id j ≡ p → Scope.is_some (Scope.find_in j (map (Scope.prevent_one i) bs)) ≡ Scope.is_some (Scope.find_in j bs) → Scope.is_some (Scope.find_in j (pick c (Scope.prevent b) b ∷ map (Scope.prevent_one i) bs)) ≡ Scope.is_some {A = VarInfo} (elim p [ true ↦ some b | false ↦ Scope.find_in j bs ])
    go true true e k = rw (e, Scope.is_some) refl
    go true false e k = rw (e, Scope.is_some) k
    go false true e k = rw (e, Scope.is_some) refl
    go false false e k = rw (e, Scope.is_some) k

mark-stays : (i j : ℕ) (st : Stack) → Scope.mark_of (Scope.find_binding j st) ≡ true → Scope.mark_of (Scope.find_binding j (Scope.prevent_inline i st)) ≡ true
mark-stays i j [] h = h
mark-stays i j (s ∷ st) h = go (Scope.find_in j s.bindings) (Scope.find_in j (map (Scope.prevent_one i) s.bindings)) (lost-map i j s.bindings) (found_map i j s.bindings) h (mark-stays i j st)
  where
    go : (o q : Option VarInfo) → Scope.is_some q ≡ Scope.is_some o → (Scope.mark_of o ≡ true → Scope.mark_of q ≡ true) → Scope.mark_of (or_else o (Scope.find_binding j st)) ≡ true
        → (Scope.mark_of (Scope.find_binding j st) ≡ true → Scope.mark_of (Scope.find_binding j (Scope.prevent_inline i st)) ≡ true) → Scope.mark_of (or_else q (Scope.find_binding j (Scope.prevent_inline i st))) ≡ true
    go none none e f h k = k h
    go none (some c) e f h k = absurd (subst T e tt)
    go (some b) none e f h k = absurd (subst T (sym e) tt)
    go (some b) (some c) e f h k = f h

id-stays : (i : ℕ) (o : Option ℕ) (st : Stack) → Scope.mark_of_id o st ≡ true → Scope.mark_of_id o (Scope.prevent_inline i st) ≡ true
id-stays i none st h = h
id-stays i (some j) st h = mark-stays i j st h

or_mono : (p q r : Bool) → (q ≡ true → r ≡ true) → (p || q) ≡ true → (p || r) ≡ true
or_mono true q r f h = h
or_mono false q r f h = f h

pub held_stays : (i : ℕ) (t : Tree) (st : Stack) → Scope.is_inline_prevented t st ≡ true → Scope.is_inline_prevented t (Scope.prevent_inline i st) ≡ true
held_stays i t st h =
    let a = eqb (kind t) 31 in
    let b = eqb (kind t) 35 in
    let c = eqb (kind t) 36 in
    let d = eqb (kind t) 41 in
    let o = pick (Tree'.is_member t) (Scope.ident_of (head_t (kids t))) (Scope.ident_of (some t)) in
    let m = Scope.mark_of_id o st in
    let n = Scope.mark_of_id o (Scope.prevent_inline i st) in
    or_mono (a || b || c || d) m n (id-stays i o st) h

each-stays : (is : List ℕ) (t : Tree) (st : Stack) → Scope.is_inline_prevented t st ≡ true → Scope.is_inline_prevented t (Scope.prevent_each is st) ≡ true
each-stays [] t st h = h
each-stays (i ∷ is) t st h = each-stays is t (Scope.prevent_inline i st) (held_stays i t st h)

-- what is left behind an assignment: its value is prevented, or the target's own binding is not undefined
abbrev Held : Tree → Tree → Stack → Type 0
Held l r st = (Scope.is_inline_prevented r st ≡ true) ⊎ Here (num l) st

abbrev Post : Bool → Tree → Option Tree → Res St Nothing → Type 0
Post k l r (stop n) = Unit {0}
Post k l none (done s u) = Unit {0}
Post k l (some r) (done s u) = T k → Held l r s.stack

post-none : (k : Bool) (l : Tree) (x : Res St Nothing) → Post k l none x
post-none k l (stop n) = tt
post-none k l (done s u) = tt

grown : (l r : Tree) (f : Stack → Stack) (s : St) (k : St → Res St Nothing) → (Here (num l) (f s.stack) → Post true l (some r) (k (Walk.set_stack (f s.stack) s))) → Here (num l) (f s.stack) → Post true l (some r) (and_then (Walk.grow f s) (λ u. k))
grown l r f s k h g = go (ltb 512 (Scope.recorded_nodes (f s.stack)) || ltb 256 (Scope.live (f s.stack)))
  where
    go : (c : Bool) → Post true l (some r) (and_then (and_then {S = St} {A = Nothing} {B = Nothing} (done (Walk.set_stack (f s.stack) s) tt) (λ u s₁. elim c [ true ↦ stop 9 | false ↦ done s₁ tt ])) (λ u. k))
    go true = tt
    go false = h g

abbrev kept : Tree → Option Tree
kept r = pick (Tree'.is_cheap r) (some r) none

post-store : (l r : Tree) (s : St) → Here (num l) s.stack → Post true l (some r) (Walk.store_value l r s)
post-store l r s g = go (Scope.find_binding (num l) s.stack)
  where
    by : (c : Bool) → Post true l (some r) (iff c (ret tt) (Walk.grow (Scope.change (num l) (Scope.with_value (kept r)))) s)
    by true = λ h. inr g
    by false =
        go₁ (ltb 512 (Scope.recorded_nodes (Scope.change (num l) (Scope.with_value (kept r)) s.stack)) || ltb 256 (Scope.live (Scope.change (num l) (Scope.with_value (kept r)) s.stack)))
      where
        go₁ : (c : Bool) → Post true l (some r) (elim c as (λ x. Res St Nothing) [ true ↦ stop 9 | false ↦ done (Walk.set_stack (Scope.change (num l) (Scope.with_value (kept r)) s.stack) s) tt ])
        go₁ true = tt
        go₁ false = λ h. inr (here-value (num l) (kept r) s.stack g)

    go : (o : Option VarInfo) → Post true l (some r) (elim o as (λ x. Res St Nothing) [ none ↦ done s tt | some b ↦ iff (Scope.var_inline_prevented b) (ret tt) (Walk.grow (Scope.change (num l) (Scope.with_value (kept r)))) s ])
    go none = λ h. inr g
    go (some b) = by (Scope.var_inline_prevented b)

pub post-last : (l : Tree) (rs : Forest) (s : St) → Post (eqb (kind l) 20) l (head_t rs) (Walk.assign_last (cons l rs) s)
unfolding Walk.assign_last Walk.write
post-last l nil s = post-none (eqb (kind l) 20) l (Walk.assign_last (cons l nil) s)
post-last l (cons r rs) s = go (Scope.is_inline_prevented r s.stack) refl (eqb (kind l) 20)
  where
    go : (c : Bool) → Scope.is_inline_prevented r s.stack ≡ c → (k : Bool)
        → Post k l (some r) (iff c (Walk.mark (Scope.prevent_each (Tree'.bound_names l []))) (Walk.when k (Walk.write false l >> Walk.store_o l (some r))) s)
    go true e k = λ h. inl (each-stays (Tree'.bound_names l []) r s.stack e)
    go false e true = grown l r (Scope.add_write (num l) (is_args (form l)) false) s (Walk.store_value l r) (post-store l r (Walk.set_stack (Scope.add_write (num l) (is_args (form l)) false s.stack) s)) (here-write (num l) (is_args (form l)) false s.stack)
    go false e false = λ h. absurd h

no-first : (u v w : Bool) → u ≡ false → (u && v && w) ≡ false
no-first false v w e = refl
no-first true v w e = absurd (subst T e tt)

no_last : (u v w : Bool) → w ≡ true → (u && v && not w) ≡ false
no_last true true true e = refl
no_last true false true e = refl
no_last false v true e = refl
no_last u v false e = absurd (subst T (sym e) tt)

-- so the branch is not taken
pub stays : (p : ℕ) (t l r : Tree) (s : St) → (T (eqb (kind l) 20) → Held l r s.stack) → Walk.after_sides p t (some l) (some r) s ≡ done s t
unfolding Walk.after_sides
stays p t l r s h = go (eqb (kind l) 20) h
  where
    by : (o : Option VarInfo) → (Scope.is_inline_prevented r s.stack ≡ true) ⊎ Cleared o → elim o as (λ x. Res St Tree) [
      | none ↦ done s t
      | some b ↦ iff (b.is_undefined && not (Scope.var_inline_prevented b) && not (Scope.is_inline_prevented r s.stack)) (Walk.grow (Scope.change (num l) (λ c. Scope.defined (Scope.with_value (some r) c))) >> (Walk.replace p t r >> ret r)) (ret t) s
    ] ≡ done s t
    by none h = refl
    by (some b) (inl e) = rw (no_last b.is_undefined (not (Scope.var_inline_prevented b)) (Scope.is_inline_prevented r s.stack) e) refl
    by (some b) (inr e) = rw (no-first b.is_undefined (not (Scope.var_inline_prevented b)) (not (Scope.is_inline_prevented r s.stack)) e) refl

    go : (k : Bool) → (T k → Held l r s.stack) → iff k (Walk.first_value p t l r) (ret t) s ≡ done s t
    go true h = by (Scope.find_binding_from_current (num l) s.stack) (h tt)
    go false h = refl

-- on the whole handler of `=`
module _ (p k f a : ℕ) where
  abbrev EndsF : Res St Forest → Type 0
  EndsF (stop n) = Unit {0}
  EndsF (done s us) = Walk.after_assign p (node k f a us) s ≡ done s (node k f a us)

  ends-then : {A : Type 0} (x : Res St A) (g : A → M Forest) → ((b : A) (s : St) → EndsF (g b s)) → EndsF (and_then x g)
  ends-then (stop n) g h = tt
  ends-then (done s b) g h = h b s

  ends_last : (us : Forest) (s : St) → EndsF (and_then (Walk.assign_last us s) (λ u. ret us))
  unfolding Walk.assign_last Walk.after_assign Walk.after_sides
  ends_last nil s = refl
  ends_last (cons l rs) s = go rs (Walk.assign_last (cons l rs) s) (post-last l rs s)
    where
      go : (rs : Forest) (x : Res St Nothing) → Post (eqb (kind l) 20) l (head_t rs) x → EndsF (and_then x (λ u. ret (cons l rs)))
      go rs (stop n) h = tt
      go nil (done s₁ u) h = refl
      go (cons r rs) (done s₁ u) h = stays p (node k f a (cons l (cons r rs))) l r s₁ h

pub never : NeverTaken
unfolding Walk.visit_mut_assign_expr Walk.assign_kids
never w p (node k f a ts) s =
    let pat = Walk.to_pattern (node k f a ts) in
    out (Walk.assign_kids w p f pat ts (Walk.set_pat_mode Walk.assigning s)) (ends-then p k f a (Walk.assign_first f ts (Walk.set_pat_mode Walk.assigning s)) _ (λ u s₁. ends-then p k f a (iff pat (each (w.full (suc p)) ts) (split ret (each (w.full (suc p))) ts) s₁) _ (λ us s₂. ends_last p k f a us s₂)))
  where
    out : (x : Res St Forest) → EndsF p k f a x → Ends p (and_then x (λ us. ret (node k f a us)))
    out (stop n) h = tt
    out (done s₁ us) h = h

-- behind a node's own handler, if that node is an assignment
pub ends-own : (w : Walks) (p : ℕ) (t : Tree) → T (eqb (kind t) 33) → (s : St) → Ends p (Walk.own w p t s)
unfolding Walk.own Walk.handle
ends-own w p (node k f a ts) e s = subst (λ (n : ℕ). Ends p (Walk.own w p (node n f a ts) s)) (sym (eqb→eq k 33 e)) (never w p (node 33 f a ts) s)
