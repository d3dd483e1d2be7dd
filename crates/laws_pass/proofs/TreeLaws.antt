-- Laws of the trees alone: what is shown of trees holds through every walk, with every recorded value and constant one that may be recorded. Assumes nothing.
use mathlib.Core.Path.{◌≡◌, sym, subst}
use mathlib.Core.Bool.{Bool, true, false, ◌&&◌, not, ◌||◌}
use mathlib.Core.Option.{Option, none, some}
use mathlib.Core.List.{List, [], ◌∷◌, ◌++◌}
use Prim.Native.Nat.{ℕ, suc, ◌+◌}
use lib.Dec.{T, eqb, ltb}
use lib.ListN.{length}
use Rattle.def_tree.specs.Base.{pick, or_else}
use Rattle.def_pass.specs.Tree.{Tree, Forest, node, cons, kind, num, is_ident, is_cheap, height, void_zero}
use Rattle.def_pass.specs.Scope as Scope
use Rattle.def_pass.specs.Scope.{VarInfo, Stack}
use Rattle.def_pass.specs.Walk as Walk
use Rattle.laws_pass.proofs.Tests.{pick-ok, elim-ok}
use Rattle.laws_pass.proofs.All.{All, all_map, all_append}
use Rattle.laws_pass.proofs.Effects.{Law, Effects, GF, QF, VF, VO, VB, VI, Left, LastOther}

-- every value and constant of the open scopes, of which V holds
module _ (V? : Option Tree → Type 0) (nothing : V? none) where
  abbrev Held : VarInfo → Type 0
  Held b = V? b.value

  abbrev Const : ℕ × Option Tree → Type 0
  Const c = V? c.1

  abbrev pub HeldS : Scope.Scope → Type 0
  HeldS s = All Held s.bindings × All Const s.constants

  abbrev pub HeldSt : Stack → Type 0
  HeldSt st = All HeldS st

  abbrev pub HeldO : Option VarInfo → Type 0
  HeldO none = Unit {0}
  HeldO (some b) = V? b.value

  in_scope_lem : (i : ℕ) (bs : List VarInfo) → All Held bs → HeldO (Scope.find_in i bs)
  in_scope_lem i [] h = tt
  in_scope_lem i (b ∷ bs) h = elim-ok HeldO (eqb b.id i) (some b) (Scope.find_in i bs) h.0 (in_scope_lem i bs h.1)

  pub v-find : (i : ℕ) (st : Stack) → HeldSt st → HeldO (Scope.find_binding i st)
  v-find i [] h = tt
  v-find i (s ∷ st) h = go (Scope.find_in i s.bindings) (in_scope_lem i s.bindings h.0.0) (v-find i st h.1)
    where
      go : (o : Option VarInfo) → HeldO o → HeldO (Scope.find_binding i st) → HeldO (or_else o (Scope.find_binding i st))
      go none h k = k
      go (some b) h k = h

  const-in : (i : ℕ) (cs : List (ℕ × Option Tree)) → All Const cs → V? (Scope.flat (Scope.const_in i cs))
  const-in i [] h = nothing
  const-in i (c ∷ cs) h = go (eqb c.0 i) (const-in i cs h.1)
    where
      go : (p : Bool) → V? (Scope.flat (Scope.const_in i cs)) → V? (Scope.flat (elim p [ true ↦ some c.1 | false ↦ Scope.const_in i cs ]))
      go true k = h.0
      go false k = k

  pub v-const : (i : ℕ) (st : Stack) → HeldSt st → V? (Scope.find_constant i st)
  v-const i [] h = nothing
  v-const i (s ∷ st) h = go (Scope.flat (Scope.const_in i s.constants)) (const-in i s.constants h.0.1) (v-const i st h.1)
    where
      go : (o : Option Tree) → V? o → V? (Scope.find_constant i st) → V? (or_else o (Scope.find_constant i st))
      go none h k = k
      go (some b) h k = h

  put_const_lem : (i : ℕ) (v : Option Tree) → V? v → (cs : List (ℕ × Option Tree)) → All Const cs → All Const (Scope.put_const i v cs)
  put_const_lem i v k [] h = (k, tt)
  put_const_lem i v k (c ∷ cs) h = elim-ok (All Const) (eqb c.0 i) ((i, v) ∷ cs) (c ∷ Scope.put_const i v cs) (k, h.1) (h.0, put_const_lem i v k cs h.1)

  v-untargeted : (tg : ℕ → Bool) (v : Option Tree) → V? v → V? (Scope.untargeted tg v)
  v-untargeted tg none k = k
  v-untargeted tg (some t) k = pick-ok V? (is_ident t && tg (num t)) none (some t) nothing k

  pub v-add_const : (tg : ℕ → Bool) (i : ℕ) (v : Option Tree) → V? v → (st : Stack) → HeldSt st → HeldSt (Scope.add_const tg i v st)
  v-add_const tg i v k [] h = tt
  v-add_const tg i v k (s ∷ st) h = ((h.0.0, put_const_lem i (Scope.untargeted tg v) (v-untargeted tg v k) s.constants h.0.1), h.1)

  change-in : (i : ℕ) (f : VarInfo → VarInfo) → ((b : VarInfo) → Held b → Held (f b)) → (bs : List VarInfo) → All Held bs → All Held (Scope.change_in i f bs)
  change-in i f k [] h = tt
  change-in i f k (b ∷ bs) h = elim-ok (All Held) (eqb b.id i) (f b ∷ bs) (b ∷ Scope.change_in i f bs) (k b h.0, h.1) (h.0, change-in i f k bs h.1)

  pub v-change : (i : ℕ) (f : VarInfo → VarInfo) → ((b : VarInfo) → Held b → Held (f b)) → (st : Stack) → HeldSt st → HeldSt (Scope.change i f st)
  v-change i f k [] h = tt
  v-change i f k (s ∷ st) h = elim-ok HeldSt (Scope.has_in i s.bindings) (Scope.on_bindings (Scope.change_in i f) s ∷ st) (s ∷ Scope.change i f st) ((change-in i f k s.bindings h.0.0, h.0.1), h.1) (h.0, v-change i f k st h.1)

  pub v-prevent : (i : ℕ) (st : Stack) → HeldSt st → HeldSt (Scope.prevent_inline i st)
  v-prevent i [] h = tt
  v-prevent i (s ∷ st) h = ((all_map Held (Scope.prevent_one i) (λ b k. pick-ok Held (eqb b.id i || Scope.value_is i b.value) (Scope.prevent b) b k k) s.bindings h.0.0, h.0.1), v-prevent i st h.1)

  v-prevent_o : (i : Option ℕ) (st : Stack) → HeldSt st → HeldSt (Scope.prevent_inline_o i st)
  v-prevent_o none st h = h
  v-prevent_o (some i) st h = v-prevent i st h

  v-params : (st : Stack) → HeldSt st → HeldSt (Scope.prevent_inline_of_params st)
  v-params [] h = tt
  v-params (s ∷ st) h = (
    (all_map Held Scope.prevent_param (λ b k. pick-ok Held (Scope.is_param b.kind) (Scope.prevent b) b k k) s.bindings h.0.0, h.0.1),
    elim-ok HeldSt (Scope.is_fn s.kind) st (Scope.prevent_inline_of_params st) h.1 (v-params st h.1),
  )

  v-unresolved : (i : ℕ) (st : Stack) → HeldSt st → HeldSt (Scope.add_unresolved i st)
  v-unresolved i [] h = tt
  v-unresolved i (s ∷ st) h = h

  v-append : (b : VarInfo) → Held b → (st : Stack) → HeldSt st → HeldSt (Scope.append b st)
  v-append b k [] h = tt
  v-append b k (s ∷ st) h = ((all_append Held s.bindings b h.0.0 k, h.0.1), h.1)

  pub v-read : (i : ℕ) (g : Bool) (st : Stack) → HeldSt st → HeldSt (Scope.add_read i g st)
  unfolding Scope.add_read
  v-read i g st h =
      let st₁ = pick (Scope.read_prevents_inlining i st) (Scope.prevent_inline i st) st in
      let st₂ = pick g (Scope.prevent_inline_of_params st₁) st₁ in
      let h₁ = pick-ok HeldSt (Scope.read_prevents_inlining i st) (Scope.prevent_inline i st) st (v-prevent i st h) h in
      let h₂ = pick-ok HeldSt g (Scope.prevent_inline_of_params st₁) st₁ (v-params st₁ h₁) h₁ in
      pick-ok HeldSt (Scope.is_some (Scope.find_binding i st₂)) (Scope.change i Scope.count_read st₂) (Scope.add_unresolved i st₂) (v-change i Scope.count_read (λ b k. k) st₂ h₂) (v-unresolved i st₂ h₂)

  pub v-write : (i : ℕ) (g force : Bool) (st : Stack) → HeldSt st → HeldSt (Scope.add_write i g force st)
  unfolding Scope.add_write
  v-write i g force st h =
      let st₁ = pick (Scope.write_prevents_inline i st) (Scope.prevent_inline i st) st in
      let st₂ = pick g (Scope.prevent_inline_of_params st₁) st₁ in
      let st₃ = Scope.change i Scope.defined st₂ in
      let b = Scope.fresh i Scope.v_var none force false none in
      let w = Scope.scope_for true i st₂ in
      let h₁ = pick-ok HeldSt (Scope.write_prevents_inline i st) (Scope.prevent_inline i st) st (v-prevent i st h) h in
      let h₂ = pick-ok HeldSt g (Scope.prevent_inline_of_params st₁) st₁ (v-params st₁ h₁) h₁ in
      let h₃ = v-change i Scope.defined (λ b k. k) st₂ h₂ in
      pick-ok HeldSt w.0 (pick (not w.1 || force) (Scope.prevent_inline i st₃) st₃) (pick (Scope.has_constant i st₂) st₂ (Scope.append b st₂))
      (pick-ok HeldSt (not w.1 || force) (Scope.prevent_inline i st₃) st₃ (v-prevent i st₃ h₃) h₃)
      (pick-ok HeldSt (Scope.has_constant i st₂) st₂ (Scope.append b st₂) h₂ (v-append b nothing st₂ h₂))

  pub v-barrier : (st : Stack) → HeldSt st → HeldSt (Scope.store_inline_barrier st)
  v-barrier [] h = tt
  v-barrier (s ∷ st) h = (h.0, v-barrier st h.1)

  pub v-sensitive : (i : Option ℕ) (st : Stack) → HeldSt st → HeldSt (Scope.mark_this_sensitive i st)
  v-sensitive none st h = h
  v-sensitive (some i) st h = v-change i Scope.sensitive_now (λ b k. k) st h

  -- the value that is left by a declaration
  abbrev pub Kept : Scope.Init → Type 0
  Kept v = (old : Option Tree) → V? old → V? (Scope.kept v old)

  of-value : (b : Option VarInfo) → HeldO b → V? (Scope.value_o b)
  of-value none h = nothing
  of-value (some b) h = h

  pub v-declare : (again : Bool) (i : ℕ) (v : Scope.Init) (u : Bool) (k : Scope.VarType) → Kept v → (st : Stack) → HeldSt st → HeldSt (Scope.declare again i v u k st)
  unfolding Scope.declare
  v-declare again i v u k w [] h = tt
  v-declare again i v u k w (s ∷ st) h =
      let e = Scope.init_of v in
      let target = Scope.idx_val_o (Scope.ident_of e) s.bindings in
      let al = Scope.alias_from target in
      let p = again || Scope.should_prevent_inline_because_of_scope i (s ∷ st) || Scope.prevented_o e (s ∷ st) in
      let idx = Scope.place_or (length s.bindings) (Scope.idx_val 0 i s.bindings) in
      let old = Scope.find_in i s.bindings in
      let f = Scope.redeclare p u (Scope.kept v (Scope.value_o old)) in
      let b = Scope.fresh i k al p u (Scope.kept v none) in
      let new = pick (Scope.is_some old) (Scope.change_in i f s.bindings) (s.bindings ++ (b ∷ [])) in
      let st₁ : Stack = Scope.on_bindings (λ bs. new) s ∷ st in
      let st₂ = pick (Scope.in_loop (s ∷ st)) (Scope.prevent_inline i st₁) st₁ in
      let works = not (Scope.is_param k) && not (Scope.param_o al) in
      let hn = pick-ok (All Held) (Scope.is_some old) (Scope.change_in i f s.bindings) (s.bindings ++ (b ∷ []))
      (change-in i f (λ c l. w (Scope.value_o old) (of-value old (in_scope_lem i s.bindings h.0.0))) s.bindings h.0.0)
      (all_append Held s.bindings b h.0.0 (w none nothing)) in
      let h₁ : HeldSt st₁ = ((hn, h.0.1), h.1) in
      let h₂ = pick-ok HeldSt (Scope.in_loop (s ∷ st)) (Scope.prevent_inline i st₁) st₁ (v-prevent i st₁ h₁) h₁ in
      pick-ok HeldSt (works && Scope.barred target idx s.inline_barriers) (Scope.prevent_inline_o (Scope.ident_of e) (Scope.prevent_inline i st₂)) st₂
      (v-prevent_o (Scope.ident_of e) (Scope.prevent_inline i st₂) (v-prevent i st₂ h₂)) h₂

  put_in : (c : VarInfo) → Held c → (bs : List VarInfo) → All Held bs → All Held (Scope.put c bs)
  put_in c k [] h = (k, tt)
  put_in c k (b ∷ bs) h = elim-ok (All Held) (eqb b.id c.id) (c ∷ bs) (b ∷ Scope.put c bs) (k, h.1) (h.0, put_in c k bs h.1)

  hoisted : (us : ℕ → Bool) (cs bs : List VarInfo) → All Held bs → All Held (Scope.hoist_all us cs bs)
  hoisted us [] bs k = k
  hoisted us (c ∷ cs) bs k = hoisted us cs (pick (Scope.is_var c.kind) (Scope.put (Scope.hoist us c) bs) bs) (pick-ok (All Held) (Scope.is_var c.kind) (Scope.put (Scope.hoist us c) bs) bs (put_in (Scope.hoist us c) nothing bs k) k)

  pub v-close : (st : Stack) → HeldSt st → HeldSt (Scope.close st)
  unfolding Scope.close
  v-close [] h = tt
  v-close (c ∷ []) h = tt
  v-close (c ∷ s ∷ st) h =
      let us : ℕ → Bool = λ j. c.unresolved_usages j || s.unresolved_usages j in
      ((pick-ok (All Held) (Scope.is_fn c.kind) s.bindings (Scope.hoist_all us c.bindings s.bindings) h.1.0.0 (hoisted us c.bindings s.bindings h.1.0.0), h.1.0.1), h.1.1)

-- a law of the trees: as in Law
pub record TreeLaw : Type 1 where
  pub Good : ℕ → Tree → Type 0
  pub Val : Tree → Type 0
  pub Rel : Tree → Tree → Type 0
  pub Tells : Type 0

abbrev some_v : (Tree → Type 0) → Option Tree → Type 0
some_v V' none = Unit {0}
some_v V' (some t) = V' t

module _ (X : TreeLaw) where
  abbrev pub law : Law
  law = record { Inv = λ s. HeldSt (some_v X.Val) tt s.stack; Move = λ m s n s'. Unit {0}; Good = X.Good; Val = X.Val; Rel = X.Rel; Id = λ i. Unit {0}; Stop = λ n. Unit {0}; Tells = X.Tells }

  -- what is to be shown: as in Effects
  pub record TreeEffects : Type 0 where
    pub q-refl : (t : Tree) → X.Rel t t
    pub q-trans : (t u v : Tree) → X.Rel t u → X.Rel u v → X.Rel t v
    pub kids : (p k f a : ℕ) (ts : Forest) → X.Good p (node k f a ts) → GF law (suc p) ts
    pub around : (p k f a : ℕ) (ts us : Forest) → X.Good p (node k f a ts) → GF law (suc p) us → QF law ts us → (X.Tells → (T (eqb k 31) → ⊥) × (T (eqb k 33) → Left ts us)) → X.Good p (node k f a us) × X.Rel (node k f a ts) (node k f a us)
    pub body : (p k f a : ℕ) (ts : Forest) → X.Tells → T (eqb k 7 || eqb k 39) → X.Good p (node k f a ts) → LastOther ts
    pub init : (p k f a : ℕ) (n : Tree) (es : Forest) → T (eqb k 6) → X.Good p (node k f a (cons n es)) → VF law es
    pub taken : (p k f a : ℕ) (n e : Tree) (es : Forest) → T (eqb k 6) → X.Good p (node k f a (cons n (cons e es))) → X.Good p (node k f a (cons n es)) × X.Rel (node k f a (cons n (cons e es))) (node k f a (cons n es))
    pub bound : (p : ℕ) (t : Tree) → X.Good p t → T (eqb (kind t) 20) → X.Val (Walk.as_ident t)
    pub cheap : (p : ℕ) (t : Tree) → X.Good p t → T (is_cheap t) → X.Val t
    pub void : X.Val void_zero
    pub replaced : (p : ℕ) (t e : Tree) → X.Good p t → T (is_ident t) → X.Val e → ltb 201 (p + height e) ≡ false → X.Good p e × X.Rel t e

  same-O : (v : Option Tree) → some_v X.Val v → VO law v
  same-O none h = tt
  same-O (some t) h = h

  back-O : (v : Option Tree) → VO law v → some_v X.Val v
  back-O none h = tt
  back-O (some t) h = h

  same-B : (b : Option VarInfo) → HeldO (some_v X.Val) tt b → VB law b
  same-B none h = tt
  same-B (some b) h = same-O b.value h

  kept-I : (v : Scope.Init) → VI law v → Kept (some_v X.Val) tt v
  kept-I Scope.no_init h old o = tt
  kept-I (Scope.recorded t) h old o = h
  kept-I (Scope.seen t) h old o = o

  pub effects : TreeEffects → Effects law
  unfolding Walk.restore
  effects E =
      let V? = some_v X.Val in
      record {
        s-refl = λ n s. tt;
        s-trans = λ l m n a b c h k. tt;
        s-frame = λ k m n a b h. tt;
        q-refl = E.q-refl;
        q-trans = E.q-trans;
        eight = tt;
        nine = tt;
        kids = E.kids;
        around = E.around;
        body = E.body;
        init = E.init;
        taken = E.taken;
        name = λ p t o h. tt;
        bound = E.bound;
        cheap = E.cheap;
        void = E.void;
        value = λ i s o. same-B (Scope.find_binding i s.stack) (v-find V? tt i s.stack o);
        constant = λ i s o. same-O (Scope.find_constant i s.stack) (v-const V? tt i s.stack o);
        replaced = E.replaced;
        recount = λ t e s o h. (o, tt);
        leave = λ n e s o. (o, tt);
        write = λ i g force k n s o. (v-write V? tt i g force s.stack o, tt);
        declare = λ again i v u k g w n s o. (v-declare V? tt again i v u k (kept-I v w) s.stack o, tt);
        const = λ i v g w n s o. (v-add_const V? tt s.targeted i v (back-O v w) s.stack o, tt);
        prevent = λ i n s o. (v-prevent V? tt i s.stack o, tt);
        read = λ i g k n s o. (v-read V? tt i g s.stack o, tt);
        store = λ i v w n s o. (v-change V? tt i (Scope.with_value v) (λ b m. back-O v w) s.stack o, tt);
        sensitive = λ i n s o. (v-sensitive V? tt i s.stack o, tt);
        barrier = λ n s o. (v-barrier V? tt s.stack o, tt);
        tally = λ i n s f o. (v-change V? tt i Scope.count_one (λ b k. k) s.stack o, tt);
        opened = λ k s o. ((tt, tt), o);
        closed = λ k m n s s' o o' h. (v-close V? tt s'.stack o', tt);
        fields = λ n s s' e o. (subst (HeldSt V? tt) (sym e.0) o, tt);
      }

  -- at the start of a pass
  pub started : (t : Tree) → law.Inv (Walk.start t)
  started t = ((tt, tt), tt)
