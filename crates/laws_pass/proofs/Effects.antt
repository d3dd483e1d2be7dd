-- The induction over the walks, once for every law of them. A law is told by what holds of states, trees, values and refusals, how a state and
-- a tree may move, and why each of the changes that the walks make is such a move (Effects). Then every walk, run and pass does it. Assumes nothing.
use mathlib.Core.Path.{◌≡◌, refl, sym, ap, subst}
use mathlib.Core.Bool.{Bool, true, false, ◌&&◌, not, ◌||◌}
use mathlib.Core.Option.{Option, none, some}
use mathlib.Core.Logic.{◌⊎◌, inl, inr}
use mathlib.Core.List.{List, [], ◌∷◌}
use Prim.Native.Nat.{ℕ, zero, suc, ◌+◌, ◌-◌}
use native.Mathlib.Omega.{arith}
use lib.Dec.{T, eqb, ltb, leb, eqb→eq}
use lib.ListN.{length, get_or}
use Rattle.def_tree.specs.Base.{pick}
use Rattle.def_tree.specs.Combine.{Res, stop, done, Nothing, and_then, ◌>>=◌, ◌>>◌, ret, refuse, iff, each, split, each_but, on_kids}
use Rattle.def_file.specs.declared.kind.Kind.{Kind}
use Rattle.def_file.specs.declared.kind.Kind.TheVariants.{Invalid}
use Rattle.def_file.specs.Named.{kinds, kind_of}
use Rattle.def_pass.specs.Tree.{Tree, Forest, node, nil, cons, kind, form, num, kids, head_t, tail_f, is_ident, is_cheap, is_member, bound_names, has_this, count, counts, height, ident_list, ident_list_f, void_zero}
use Rattle.def_pass.specs.Twice.{is_twice, is_args, flagged}
use Rattle.def_pass.specs.Scope as Scope
use Rattle.def_pass.specs.Walk as Walk
use Rattle.def_pass.specs.Walk.{St, M, Walks, when, modify, mark, grow, in_scope, visit_mut_stmts, plain}
use Rattle.def_tree.proofs.Tests.{is_T, and_left, and_right, or_left, or_right}
use Rattle.laws_pass.proofs.All.{All}
use Rattle.laws_pass.proofs.Tests.{pick-ok}
use Rattle.laws_pass.specs.Branch.{Ends}
use Rattle.laws_pass.proofs.Branch.{ends-own}

-- what a law speaks of
pub record Law : Type 1 where
  -- of every state between two steps
  pub Inv : St → Type 0
  -- how the state may move while a tree of m nodes becomes one of n: (m, before) to (n, after)
  pub Move : ℕ → St → ℕ → St → Type 0
  -- of a tree at tree depth p, before and after its walk
  pub Good : ℕ → Tree → Type 0
  -- of a tree that is recorded as a value or a constant
  pub Val : Tree → Type 0
  -- a tree and what became of it
  pub Rel : Tree → Tree → Type 0
  -- of the number of an identifier that stands in a tree
  pub Id : ℕ → Type 0
  -- of a refusal's number
  pub Stop : ℕ → Type 0
  -- are updates and the targets of assignments told apart, and so no function's body one of them
  pub Tells : Type 0

-- a state in a new scope
abbrev pub inside : Scope.ScopeKind → St → St
inside k s = Walk.set_var_decl_kind Scope.v_var (Walk.set_stack (Scope.new_scope k ∷ s.stack) s)

-- s' differs from s in the visitor's other fields alone
abbrev pub Aside : St → St → Type 0
Aside s s' = (s'.stack ≡ s.stack) × (s'.nodes ≡ s.nodes) × (s'.targeted ≡ s.targeted) × (s'.ended ≡ s.ended) × (s'.replaced ≡ s.replaced)

-- what is updated stays, and an assignment's target, if it is no pattern
abbrev pub fixed : ℕ → Bool
fixed k = eqb k 31 || eqb k 33

-- the one kind of a handler whose node's kind matters: a declarator may lose its initialiser, a function has a body
abbrev role : Walk.Handler → ℕ
role h = elim h as (λ x. ℕ) [
  | Walk.h_plain ↦ 0
  | Walk.h_script ↦ 0
  | Walk.h_block ↦ 0
  | Walk.h_decl ↦ 0
  | Walk.h_declr ↦ 6
  | Walk.h_fun ↦ 7
  | Walk.h_if ↦ 0
  | Walk.h_while ↦ 0
  | Walk.h_for ↦ 0
  | Walk.h_for_in ↦ 0
  | Walk.h_try ↦ 0
  | Walk.h_catch ↦ 0
  | Walk.h_case ↦ 0
  | Walk.h_pat ↦ 0
  | Walk.h_unary ↦ 0
  | Walk.h_update ↦ 31
  | Walk.h_assign ↦ 33
  | Walk.h_call ↦ 0
  | Walk.h_new ↦ 0
  | Walk.h_fun_expr ↦ 39
  | Walk.h_arrow ↦ 0
]

fits-fixed : (k : ℕ) → T (fixed k) → T (fixed (role (Walk.handler_of (kind_of k))))
fits-fixed k h = go (eqb k 31) refl (eqb k 33) refl h
  where
    go : (p : Bool) → eqb k 31 ≡ p → (q : Bool) → eqb k 33 ≡ q → T (p || q) → T (fixed (role (Walk.handler_of (kind_of k))))
    go true e q d h = subst (λ (n : ℕ). T (fixed (role (Walk.handler_of (kind_of n))))) (sym (eqb→eq k 31 (is_T _ e))) tt
    go false e true d h = subst (λ (n : ℕ). T (fixed (role (Walk.handler_of (kind_of n))))) (sym (eqb→eq k 33 (is_T _ d))) tt
    go false e false d h = absurd h

abbrev Fits : Walk.Handler → ℕ → Type 0
Fits h k = T (eqb (role h) 0 || eqb (role h) k)

abbrev role_of : Kind → ℕ
role_of x = role (Walk.handler_of x)

abbrev fitting : ℕ → List Kind → Bool
fitting n [] = true
fitting n (x ∷ xs) = (eqb (role_of x) 0 || eqb (role_of x) n) && fitting (suc n) xs

fits-from : (xs : List Kind) (m n k : ℕ) → T (fitting n xs) → Fits (Walk.handler_of (get_or xs k (Invalid m))) (k + n)
fits-from [] m n zero c = tt
fits-from [] m n (suc k) c = tt
fits-from (x ∷ xs) m n zero c = subst (Fits (Walk.handler_of x)) (omega arith) (and_left (eqb (role_of x) 0 || eqb (role_of x) n) (fitting (suc n) xs) c)
fits-from (x ∷ xs) m n (suc k) c = subst (Fits (Walk.handler_of (get_or xs k (Invalid m)))) (omega arith) (fits-from xs m (suc n) k (and_right (eqb (role_of x) 0 || eqb (role_of x) n) (fitting (suc n) xs) c))

fits : (k : ℕ) → Fits (Walk.handler_of (kind_of k)) k
fits k = subst (Fits (Walk.handler_of (kind_of k))) (omega arith) (fits-from kinds k 0 k tt)

turned : (m k : ℕ) → T (eqb m m) → T (eqb m k) → T (eqb k m)
turned m k r h = subst (λ (n : ℕ). T (eqb n m)) (eqb→eq m k h) r

-- an assignment's target is as it was, or a pattern, which is walked
abbrev pub Left : Forest → Forest → Type 0
Left ts us = (head_t us ≡ head_t ts) ⊎ T (Walk.pattern_o (head_t ts))

-- the last tree is no update and no assignment
abbrev pub LastOther : Forest → Type 0
LastOther nil = Unit {0}
LastOther (cons t nil) = T (fixed (kind t)) → ⊥
LastOther (cons t (cons u us)) = LastOther (cons u us)

module _ (L : Law) where
  abbrev pub GF : ℕ → Forest → Type 0
  GF p nil = Unit {0}
  GF p (cons t ts) = L.Good p t × GF p ts

  abbrev pub VF : Forest → Type 0
  VF nil = Unit {0}
  VF (cons t ts) = L.Val t × VF ts

  abbrev pub QF : Forest → Forest → Type 0
  QF nil nil = Unit {0}
  QF nil (cons u us) = ⊥
  QF (cons t ts) nil = ⊥
  QF (cons t ts) (cons u us) = L.Rel t u × QF ts us

  abbrev pub VO : Option Tree → Type 0
  VO none = Unit {0}
  VO (some t) = L.Val t

  abbrev pub VB : Option Scope.VarInfo → Type 0
  VB none = Unit {0}
  VB (some b) = VO b.value

  abbrev pub VI : Scope.Init → Type 0
  VI Scope.no_init = Unit {0}
  VI (Scope.recorded t) = L.Val t
  VI (Scope.seen t) = L.Val t

  -- s may move to s' while n nodes stay n nodes
  abbrev pub Moves : ℕ → St → St → Type 0
  Moves n s s' = L.Inv s' × L.Move n s n s'

  -- a change of the scopes
  abbrev pub On : (Scope.Stack → Scope.Stack) → Type 0
  On f = (n : ℕ) (s : St) → L.Inv s → Moves n s (Walk.set_stack (f s.stack) s)

  -- what is to be shown
  pub record Effects : Type 0 where
    -- Move and Rel are preorders, and Move is one beside k more nodes
    pub s-refl : (n : ℕ) (s : St) → L.Move n s n s
    pub s-trans : (l m n : ℕ) (a b c : St) → L.Move l a m b → L.Move m b n c → L.Move l a n c
    pub s-frame : (k m n : ℕ) (a b : St) → L.Move m a n b → L.Move (k + m) a (k + n) b
    pub q-refl : (t : Tree) → L.Rel t t
    pub q-trans : (t u v : Tree) → L.Rel t u → L.Rel u v → L.Rel t v
    -- refusals
    pub eight : L.Stop 8
    pub nine : L.Stop 9
    -- a node's children, and the node around what became of them: no update, and of an assignment the target is as it was or a pattern
    pub kids : (p k f a : ℕ) (ts : Forest) → L.Good p (node k f a ts) → GF (suc p) ts
    pub around : (p k f a : ℕ) (ts us : Forest) → L.Good p (node k f a ts) → GF (suc p) us → QF ts us → (L.Tells → (T (eqb k 31) → ⊥) × (T (eqb k 33) → Left ts us)) → L.Good p (node k f a us) × L.Rel (node k f a ts) (node k f a us)
    pub body : (p k f a : ℕ) (ts : Forest) → L.Tells → T (eqb k 7 || eqb k 39) → L.Good p (node k f a ts) → LastOther ts
    -- an initialiser may be recorded; and it may be taken out
    pub init : (p k f a : ℕ) (n : Tree) (es : Forest) → T (eqb k 6) → L.Good p (node k f a (cons n es)) → VF es
    pub taken : (p k f a : ℕ) (n e : Tree) (es : Forest) → T (eqb k 6) → L.Good p (node k f a (cons n (cons e es))) → L.Good p (node k f a (cons n es)) × L.Rel (node k f a (cons n (cons e es))) (node k f a (cons n es))
    -- an identifier's number; a binding as an identifier, and a literal or identifier, may be recorded
    pub name : (p : ℕ) (t : Tree) → L.Good p t → T (eqb (kind t) 20 || eqb (kind t) 21) → L.Id (num t)
    pub bound : (p : ℕ) (t : Tree) → L.Good p t → T (eqb (kind t) 20) → L.Val (Walk.as_ident t)
    pub cheap : (p : ℕ) (t : Tree) → L.Good p t → T (is_cheap t) → L.Val t
    -- an identifier is replaced by a value, a constant or void 0
    pub void : L.Val void_zero
    pub value : (i : ℕ) (s : St) → L.Inv s → VB (Scope.find_binding i s.stack)
    pub constant : (i : ℕ) (s : St) → L.Inv s → VO (Scope.find_constant i s.stack)
    pub replaced : (p : ℕ) (t e : Tree) → L.Good p t → T (is_ident t) → L.Val e → ltb 201 (p + height e) ≡ false → L.Good p e × L.Rel t e
    -- the state's number of nodes
    pub recount : (t e : Tree) (s : St) → L.Inv s → ltb 1024 ((s.nodes + count e) - count t) ≡ false → L.Inv (Walk.set_nodes ((s.nodes + count e) - count t) s) × L.Move (count t) s (count e) (Walk.set_nodes ((s.nodes + count e) - count t) s)
    pub leave : (n : ℕ) (e : Tree) (s : St) → L.Inv s → L.Inv (Walk.set_nodes (s.nodes - count e) s) × L.Move (count e + n) s n (Walk.set_nodes (s.nodes - count e) s)
    -- changes of the scopes
    pub write : (i : ℕ) (args force : Bool) → L.Id i → On (Scope.add_write i args force)
    pub declare : (again : Bool) (i : ℕ) (v : Scope.Init) (u : Bool) (k : Scope.VarType) → L.Id i → VI v → On (Scope.declare again i v u k)
    pub const : (i : ℕ) (v : Option Tree) → L.Id i → VO v → (n : ℕ) (s : St) → L.Inv s → Moves n s (Walk.set_stack (Scope.add_const s.targeted i v s.stack) s)
    pub prevent : (i : ℕ) → On (Scope.prevent_inline i)
    pub read : (i : ℕ) (args : Bool) → L.Id i → On (Scope.add_read i args)
    pub store : (i : ℕ) (v : Option Tree) → VO v → On (Scope.change i (Scope.with_value v))
    pub sensitive : (i : Option ℕ) → On (Scope.mark_this_sensitive i)
    pub barrier : On Scope.store_inline_barrier
    -- a replacement is counted at the binding found
    pub tally : (i n : ℕ) (s : St) → Scope.is_some (Scope.find_binding i s.stack) ≡ true → L.Inv s → Moves n s (Walk.tally i s)
    -- a scope is opened, and closed
    pub opened : (k : Scope.ScopeKind) (s : St) → L.Inv s → L.Inv (inside k s)
    pub closed : (k : Scope.ScopeKind) (m n : ℕ) (s s' : St) → L.Inv s → L.Inv s' → L.Move m (inside k s) n s' → L.Inv (Walk.restore s s') × L.Move m s n (Walk.restore s s')
    -- the visitor's other fields, also between two runs
    pub fields : (n : ℕ) (s s' : St) → Aside s s' → L.Inv s → Moves n s s'

  -- what is then so

  -- a step from m nodes to `v a` nodes with an answer a of which B holds
  abbrev pub Out : {A : Type 0} → (A → ℕ) → ℕ → (A → Type 0) → St → Res St A → Type 0
  Out v m B s (stop n) = L.Stop n
  Out v m B s (done s' a) = L.Inv s' × L.Move m s (v a) s' × B a

  abbrev pub To : ℕ → Tree → Tree → Type 0
  To p t u = L.Good p u × L.Rel t u

  -- a walk of t at tree depth p from s on
  abbrev pub Went : ℕ → Tree → St → Res St Tree → Type 0
  Went p t s r = Out count (count t) (To p t) s r

  -- the runs on t from s on
  pub record Ended (t : Tree) (s : St) (u : Tree) (ms : List Walk.Rooted) : Type 0 where
    pub last : St
    pub inv : L.Inv last
    pub moved : L.Move (count t) s (count u) last
    pub good : L.Good 1 u
    pub related : L.Rel t u
    pub roots : ms ≡ Walk.root_marks last.stack

  abbrev pub Passed : Tree → St → Walk.Outcome → Type 0
  Passed t s (Walk.refused n) = L.Stop n
  Passed t s (Walk.result k c u ms) = Ended t s u ms

  module _ (E : Effects) where
    qf-refl : (ts : Forest) → QF ts ts
    qf-refl nil = tt
    qf-refl (cons t ts) = (E.q-refl t, qf-refl ts)

    qf-trans : (ts us vs : Forest) → QF ts us → QF us vs → QF ts vs
    qf-trans nil nil nil h k = tt
    qf-trans nil nil (cons v vs) h k = k
    qf-trans nil (cons u us) vs h k = absurd h
    qf-trans (cons t ts) nil vs h k = absurd h
    qf-trans (cons t ts) (cons u us) nil h k = k
    qf-trans (cons t ts) (cons u us) (cons v vs) h k = (E.q-trans t u v h.0 k.0, qf-trans ts us vs h.1 k.1)

    record Pres {A : Type 0} (v : A → ℕ) (m : ℕ) (B : A → Type 0) (f : M A) : Type 0 where
      from : (s : St) → L.Inv s → Out v m B s (f s)

    abbrev Any : {A : Type 0} → A → Type 0
    Any a = Unit {0}

    abbrev at : {A : Type 0} → ℕ → A → ℕ
    at n a = n

    -- a step, from one state, and what follows it
    bind-at : {A C : Type 0} (v : A → ℕ) (m : ℕ) (B : A → Type 0) (w : C → ℕ) (D : C → Type 0) (g : A → M C) (s : St) (r : Res St A) → Out v m B s r → ((a : A) → B a → Pres w (v a) D (g a)) → Out w m D s (and_then r g)
    bind-at v m B w D g s (stop n) o k = o
    bind-at {A} {C} v m B w D g s (done s₁ a) o k = end (g a s₁) ((k a o.2).from s₁ o.0)
      where
        end : (r : Res St C) → Out w (v a) D s₁ r → Out w m D s r
        end (stop n) q = q
        end (done s₂ c) q = (q.0, E.s-trans m (v a) (w c) s s₁ s₂ o.1 q.1, q.2)

    bind : {A C : Type 0} {v : A → ℕ} {m : ℕ} {B : A → Type 0} {w : C → ℕ} {D : C → Type 0} {f : M A} {g : A → M C} → Pres v m B f → ((a : A) → B a → Pres w (v a) D (g a)) → Pres w m D (f >>= g)
    bind {A} {C} {v} {m} {B} {w} {D} {f} {g} h k = record { from = λ s o. bind-at v m B w D g s (f s) (h.from s o) k }

    after : {A C : Type 0} {m n : ℕ} {B : A → Type 0} {w : C → ℕ} {D : C → Type 0} {f : M A} {g : M C} → Pres (at n) m B f → Pres w n D g → Pres w m D (f >> g)
    after {A} {C} {m} {n} {B} {w} {D} {f} {g} h k = bind {f = f} {g = λ a. g} h λ a b. k

    weaken : {A : Type 0} {v : A → ℕ} {m : ℕ} {B D : A → Type 0} {f : M A} → ((a : A) → B a → D a) → Pres v m B f → Pres v m D f
    weaken {A} {v} {m} {B} {D} {f} h k = record { from = λ s o. go s (f s) (k.from s o) }
      where
        go : (s : St) (r : Res St A) → Out v m B s r → Out v m D s r
        go s (stop n) o = o
        go s (done s₁ a) o = (o.0, o.1, h a o.2)

    -- beside k nodes
    frame : {A : Type 0} {v : A → ℕ} {m : ℕ} {B : A → Type 0} {f : M A} (k : ℕ) → Pres v m B f → Pres (λ a. k + v a) (k + m) B f
    frame {A} {v} {m} {B} {f} k h = record { from = λ s o. go s (f s) (h.from s o) }
      where
        go : (s : St) (r : Res St A) → Out v m B s r → Out (λ a. k + v a) (k + m) B s r
        go s (stop n) o = o
        go s (done s₁ a) o = (o.0, E.s-frame k m (v a) s s₁ o.1, o.2)

    reweigh : {A : Type 0} {v w : A → ℕ} {m n : ℕ} {B : A → Type 0} {f : M A} → m ≡ n → ((a : A) → v a ≡ w a) → Pres v m B f → Pres w n B f
    reweigh {A} {v} {w} {m} {n} {B} {f} e d h = record { from = λ s o. go s (f s) (h.from s o) }
      where
        go : (s : St) (r : Res St A) → Out v m B s r → Out w n B s r
        go s (stop n) o = o
        go s (done s₁ a) o = (o.0, subst (λ (x : ℕ). L.Move x s (w a) s₁) e (subst (λ (x : ℕ). L.Move m s x s₁) (d a) o.1), o.2)

    frame_r : {A : Type 0} {v : A → ℕ} {m : ℕ} {B : A → Type 0} {f : M A} (k : ℕ) → Pres v m B f → Pres (λ a. v a + k) (m + k) B f
    frame_r {A} {v} {m} {B} {f} k h = reweigh (omega arith) (λ a. omega arith) (frame k h)

    frame1 : {A : Type 0} {v : A → ℕ} {m : ℕ} {B : A → Type 0} {f : M A} → Pres v m B f → Pres (λ a. suc (v a)) (suc m) B f
    frame1 {A} {v} {m} {B} {f} h = reweigh (omega arith) (λ a. omega arith) (frame 1 h)

    ret-ok : {A : Type 0} {v : A → ℕ} {B : A → Type 0} (a : A) → B a → Pres v (v a) B (ret a)
    ret-ok {A} {v} {B} a b = record { from = λ s o. (o, E.s-refl (v a) s, b) }

    -- of the state first
    by_state-ok : {A : Type 0} {v : A → ℕ} {m : ℕ} {B : A → Type 0} (k : St → M A) → ((s : St) → L.Inv s → Pres v m B (k s)) → Pres v m B (λ s. k s s)
    by_state-ok k h = record { from = λ s o. (h s o).from s o }

    iff-ok : {A : Type 0} {v : A → ℕ} {m : ℕ} {B : A → Type 0} (c : Bool) {f g : M A} → Pres v m B f → Pres v m B g → Pres v m B (iff c f g)
    iff-ok true h k = h
    iff-ok false h k = k

    iff-by : {A : Type 0} {v : A → ℕ} {m : ℕ} {B : A → Type 0} (c : Bool) {f g : M A} → (T c → Pres v m B f) → Pres v m B g → Pres v m B (iff c f g)
    iff-by true h k = h tt
    iff-by false h k = k

    when-by : {n : ℕ} (c : Bool) {f : M Nothing} → (T c → Pres (at n) n Any f) → Pres (at n) n Any (when c f)
    when-by true h = h tt
    when-by {n} false h = ret-ok {v = at n} tt tt

    when-ok : {n : ℕ} (c : Bool) {f : M Nothing} → Pres (at n) n Any f → Pres (at n) n Any (when c f)
    when-ok c h = when-by c λ b. h

    mod-ok : {n : ℕ} (f : St → St) → ((s : St) → Aside s (f s)) → Pres (at n) n Any (modify f)
    mod-ok {n} f e = record { from = λ s o. (let h = E.fields n s (f s) (e s) o in (h.0, h.1, tt)) }

    mark-ok : {n : ℕ} (f : Scope.Stack → Scope.Stack) → On f → Pres (at n) n Any (mark f)
    mark-ok {n} f h = record { from = λ s o. (let k = h n s o in (k.0, k.1, tt)) }

    out-if : {A : Type 0} (v : A → ℕ) (m : ℕ) (B : A → Type 0) (s : St) (c : Bool) (x y : Res St A) → (c ≡ true → Out v m B s x) → (c ≡ false → Out v m B s y) → Out v m B s (elim c [ true ↦ x | false ↦ y ])
    out-if v m B s true x y h k = h refl
    out-if v m B s false x y h k = k refl

    records-ok : {n : ℕ} → Pres (at n) n Any Walk.within_records
    records-ok {n} = record { from = λ s o. out-if (at n) n Any s (ltb 512 (Scope.recorded_nodes s.stack) || ltb 256 (Scope.live s.stack)) (stop 9) (done s tt) (λ e. E.nine) (λ e. (o, E.s-refl n s, tt)) }

    grow-ok : {n : ℕ} (f : Scope.Stack → Scope.Stack) → On f → Pres (at n) n Any (grow f)
    grow-ok f h = after (mark-ok f h) records-ok

    insert-ok : {n : ℕ} (i : ℕ) (v : Option Tree) → L.Id i → VO v → Pres (at n) n Any (Walk.insert_const i v)
    insert-ok {n} i v g w = after {B = Any} {f = marks} (record { from = λ s o. (let k = E.const i v g w n s o in (k.0, k.1, tt)) }) records-ok
      where
        marks : M Nothing
        marks = λ s. done (Walk.set_stack (Scope.add_const s.targeted i v s.stack) s) tt

    in_scope-ok : {A : Type 0} {v : A → ℕ} {m : ℕ} {B : A → Type 0} (k : Scope.ScopeKind) {f : M A} → Pres v m B f → Pres v m B (in_scope k f)
    unfolding in_scope Walk.opening
    in_scope-ok {A} {v} {m} {B} k {f} h = record { from = λ s o. go s o (leb 32 (length s.stack)) }
      where
        last : (s : St) → L.Inv s → (r : Res St A) → Out v m B (inside k s) r → Out v m B s (and_then r (λ a s₁. done (Walk.restore s s₁) a))
        last s o (stop n) q = q
        last s o (done s₁ a) q = (let c = E.closed k m (v a) s s₁ o q.0 q.1 in (c.0, c.1, q.2))

        go : (s : St) → L.Inv s → (c : Bool) → Out v m B s (and_then {S = St} {A = Nothing} {B = A} (elim c [ true ↦ stop 8 | false ↦ done (inside k s) tt ]) (λ u s₁. and_then (f s₁) (λ a s₂. done (Walk.restore s s₂) a)))
        go s o true = E.eight
        go s o false = last s o (f (inside k s)) (h.from (inside k s) (E.opened k s o))

    in_cond-ok : {A : Type 0} {v : A → ℕ} {m : ℕ} {B : A → Type 0} {f : M A} → Pres v m B f → Pres v m B (Walk.in_cond f)
    unfolding Walk.in_cond Walk.deeper
    in_cond-ok {A} {v} {m} {B} {f} h = record { from = λ s o. go s o (leb 12 s.conds) }
      where
        last : (s s₁ : St) → L.Move m s m s₁ → (r : Res St A) → Out v m B s₁ r → Out v m B s (and_then r (λ a s₂. done (Walk.shallower s s₂) a))
        last s s₁ e (stop n) q = q
        last s s₁ e (done s₂ a) q =
            let c = E.fields (v a) s₂ (Walk.shallower s s₂) (refl, refl, refl, refl, refl) q.0 in
            (c.0, E.s-trans m m (v a) s s₁ (Walk.shallower s s₂) e (E.s-trans m (v a) (v a) s₁ s₂ (Walk.shallower s s₂) q.1 c.1), q.2)

        go : (s : St) → L.Inv s → (c : Bool) → Out v m B s (and_then {S = St} {A = Nothing} {B = A} (elim c [ true ↦ stop 8 | false ↦ done (Walk.set_conds (suc s.conds) s) tt ]) (λ u s₁. and_then (in_scope Scope.cond f s₁) (λ a s₂. done (Walk.shallower s s₂) a)))
        go s o true = E.eight
        go s o false =
            let s₁ = Walk.set_conds (suc s.conds) s in
            let c = E.fields m s s₁ (refl, refl, refl, refl, refl) o in
            last s s₁ c.1 (in_scope Scope.cond f s₁) ((in_scope-ok Scope.cond h).from s₁ c.0)

    -- on forests
    abbrev ToF : ℕ → Forest → Forest → Type 0
    ToF p ts us = GF p us × QF ts us

    -- a node's own walk leaves its kind
    abbrev Own : ℕ → Tree → Tree → Type 0
    Own p t u = L.Good p u × L.Rel t u × (kind u ≡ kind t)

    -- of the children of a node
    abbrev In : ℕ → ℕ → ℕ → ℕ → Forest → Forest → Type 0
    In p k f a ts us = L.Good p (node k f a us) × L.Rel (node k f a ts) (node k f a us)

    abbrev WT : ℕ → Tree → M Tree → Type 0
    WT p t m = Pres count (count t) (To p t) m

    abbrev WF : ℕ → Forest → M Forest → Type 0
    WF p ts m = Pres counts (counts ts) (ToF p ts) m

    abbrev WO : ℕ → Tree → M Tree → Type 0
    WO p t m = Pres count (count t) (Own p t) m

    abbrev WN : ℕ → ℕ → ℕ → ℕ → Forest → M Forest → Type 0
    WN p k f a ts m = Pres counts (counts ts) (In p k f a ts) m

    keep-ok : (p : ℕ) (t : Tree) → L.Good p t → WT p t (ret t)
    keep-ok p t g = ret-ok t (g, E.q-refl t)

    keep_f-ok : (p : ℕ) (ts : Forest) → GF p ts → WF p ts (ret ts)
    keep_f-ok p ts g = ret-ok ts (g, qf-refl ts)

    keep_o-ok : (p : ℕ) (t : Tree) → L.Good p t → WO p t (ret t)
    keep_o-ok p t g = ret-ok t (g, E.q-refl t, refl)

    cons_ok : (p : ℕ) (t : Tree) (ts : Forest) (f : M Tree) (g : M Forest) → WT p t f → WF p ts g → WF p (cons t ts) (f >>= λ t'. g >>= λ ts'. ret (cons t' ts'))
    cons_ok p t ts f g h k = bind (frame_r (counts ts) h) λ t₁ q. bind (frame (count t₁) k) λ us r. ret-ok (cons t₁ us) ((q.0, r.0), (q.1, r.1))

    each-ok : (p : ℕ) (f : Tree → M Tree) → ((t : Tree) → L.Good p t → WT p t (f t)) → (ts : Forest) → GF p ts → WF p ts (each f ts)
    each-ok p f h nil g = keep_f-ok p nil g
    each-ok p f h (cons t ts) g = cons_ok p t ts (f t) (each f ts) (h t g.0) (each-ok p f h ts g.1)

    split-ok : (p : ℕ) (f : Tree → M Tree) (g : Forest → M Forest) → ((t : Tree) → L.Good p t → WT p t (f t)) → ((ts : Forest) → GF p ts → WF p ts (g ts)) → (ts : Forest) → GF p ts → WF p ts (split f g ts)
    split-ok p f g h k nil o = keep_f-ok p nil o
    split-ok p f g h k (cons t ts) o = cons_ok p t ts (f t) (g ts) (h t o.0) (k ts o.1)

    one_ok : (p : ℕ) (t : Tree) (f : M Tree) → WT p t f → WF p (cons t nil) (f >>= λ t'. ret (cons t' nil))
    one_ok p t f h = bind (frame_r 0 h) λ t₁ q. ret-ok (cons t₁ nil) ((q.0, tt), (q.1, tt))

    each_but-ok : (p : ℕ) (f g : Tree → M Tree) → ((t : Tree) → L.Good p t → WT p t (f t)) → ((t : Tree) → L.Good p t → WT p t (g t)) → (ts : Forest) → GF p ts → WF p ts (each_but f g ts)
    each_but-ok p f g h k nil o = keep_f-ok p nil o
    each_but-ok p f g h k (cons t nil) o = one_ok p t (g t) (k t o.0)
    each_but-ok p f g h k (cons t (cons u us)) o = cons_ok p t (cons u us) (f t) (each_but f g (cons u us)) (h t o.0) (each_but-ok p f g h k (cons u us) o.1)

    -- all but the first
    headed-ok : (p : ℕ) (g : Forest → M Forest) → ((ts : Forest) → GF p ts → WF p ts (g ts)) → (ts : Forest) → GF p ts → Pres counts (counts ts) (λ us. ToF p ts us × (head_t us ≡ head_t ts)) (split ret g ts)
    headed-ok p g h nil o = ret-ok nil ((tt, tt), refl)
    headed-ok p g h (cons t ts) o = bind (frame (count t) (h ts o.1)) λ us r. ret-ok (cons t us) (((o.0, r.0), (E.q-refl t, r.1)), refl)

    -- no update and no assignment
    abbrev Other : Tree → Type 0
    Other t = L.Tells → T (fixed (kind t)) → ⊥

    told : (k : ℕ) (ts us : Forest) → (L.Tells → T (fixed k) → ⊥) → L.Tells → (T (eqb k 31) → ⊥) × (T (eqb k 33) → Left ts us)
    told k ts us n l = (λ e. n l (or_left (eqb k 31) (eqb k 33) e), λ e. absurd (n l (or_right (eqb k 31) (eqb k 33) e)))

    promote : {m : M Forest} (p k f a : ℕ) (ts : Forest) → (L.Tells → T (fixed k) → ⊥) → L.Good p (node k f a ts) → WF (suc p) ts m → WN p k f a ts m
    promote p k f a ts n o h = weaken (λ us q. E.around p k f a ts us o q.0 q.1 (told k ts us n)) h

    node_n-ok : (p k f a : ℕ) (g : Forest → M Forest) (ts : Forest) → WN p k f a ts (g ts) → WO p (node k f a ts) (on_kids g (node k f a ts))
    node_n-ok p k f a g ts h = bind (frame1 h) λ us q. ret-ok (node k f a us) (q.0, q.1, refl)

    on_kids-ok : (p : ℕ) (g : Forest → M Forest) → ((ts : Forest) → GF (suc p) ts → WF (suc p) ts (g ts)) → (t : Tree) → Other t → L.Good p t → WO p t (on_kids g t)
    on_kids-ok p g h (node k f a ts) n o = node_n-ok p k f a g ts (promote p k f a ts n o (h ts (E.kids p k f a ts o)))

    loose : {m : M Tree} (p : ℕ) (t : Tree) → WO p t m → WT p t m
    loose p t h = weaken (λ u q. (q.0, q.1)) h

    -- identifiers
    abbrev IdT : Tree → Type 0
    IdT t = L.Id (num t)

    abbrev IdO : Option Tree → Type 0
    IdO none = Unit {0}
    IdO (some t) = IdT t

    abbrev GO : ℕ → Option Tree → Type 0
    GO p none = Unit {0}
    GO p (some t) = L.Good p t

    kids_of : (p : ℕ) (t : Tree) → L.Good p t → GF (suc p) (kids t)
    kids_of p (node k f a ts) o = E.kids p k f a ts o

    head_ok : (p : ℕ) (ts : Forest) → GF p ts → GO p (head_t ts)
    head_ok p nil o = tt
    head_ok p (cons t ts) o = o.0

    tail-ok : (p : ℕ) (ts : Forest) → GF p ts → GF p (tail_f ts)
    tail-ok p nil o = tt
    tail-ok p (cons t ts) o = o.1

    but_last-ok : (p : ℕ) (ts : Forest) → GF p ts → GF p (Walk.but_last ts)
    but_last-ok p nil o = tt
    but_last-ok p (cons t nil) o = tt
    but_last-ok p (cons t (cons u us)) o = (o.0, but_last-ok p (cons u us) o.1)

    id-bind : (p : ℕ) (t : Tree) → L.Good p t → T (eqb (kind t) 20) → IdT t
    id-bind p t o h = E.name p t o (or_left (eqb (kind t) 20) (eqb (kind t) 21) h)

    id-ident : (p : ℕ) (t : Tree) → L.Good p t → T (is_ident t) → IdT t
    id-ident p t o h = E.name p t o (or_right (eqb (kind t) 20) (eqb (kind t) 21) h)

    mutual
      idents-ok : (p : ℕ) (t : Tree) → L.Good p t → (rest : List Tree) → All IdT rest → All IdT (ident_list t rest)
      idents-ok p (node k f a ts) o rest r = go (eqb k 20 || eqb k 21) refl (idents_f-ok (suc p) ts (E.kids p k f a ts o) rest r)
        where
          go : (q : Bool) → (eqb k 20 || eqb k 21) ≡ q → All IdT (ident_list_f ts rest) → All IdT (elim q [ true ↦ node k f a nil ∷ rest | false ↦ ident_list_f ts rest ])
          go true e h = (E.name p (node k f a ts) o (is_T _ e), r)
          go false e h = h

      idents_f-ok : (p : ℕ) (ts : Forest) → GF p ts → (rest : List Tree) → All IdT rest → All IdT (ident_list_f ts rest)
      idents_f-ok p nil o rest r = r
      idents_f-ok p (cons t ts) o rest r = idents-ok p t o.0 (ident_list_f ts rest) (idents_f-ok p ts o.1 rest r)

    write-ok : {n : ℕ} (force : Bool) (t : Tree) → IdT t → Pres (at n) n Any (Walk.write force t)
    unfolding Walk.write
    write-ok force t o = grow-ok (Scope.add_write (num t) (is_args (form t)) force) (E.write (num t) (is_args (form t)) force o)

    writes_ok : {n : ℕ} (force : Bool) (ts : List Tree) → All IdT ts → Pres (at n) n Any (Walk.writes force ts)
    unfolding Walk.writes
    writes_ok {n} force [] o = ret-ok {v = at n} tt tt
    writes_ok force (t ∷ ts) o = after (write-ok force t o.0) (writes_ok force ts o.1)

    write_t-ok : {n : ℕ} (p : ℕ) (force : Bool) (t : Tree) → L.Good p t → Pres (at n) n Any (Walk.write_tree force t)
    unfolding Walk.write_tree
    write_t-ok p force t o = writes_ok force (ident_list t []) (idents-ok p t o [] tt)

    write_f-ok : {n : ℕ} (p : ℕ) (force : Bool) (ts : Forest) → GF p ts → Pres (at n) n Any (Walk.write_forest force ts)
    unfolding Walk.write_forest
    write_f-ok p force ts o = writes_ok force (ident_list_f ts []) (idents_f-ok p ts o [] tt)

    prevent-ok : {n : ℕ} (i : ℕ) → Pres (at n) n Any (mark (Scope.prevent_inline i))
    prevent-ok i = mark-ok (Scope.prevent_inline i) (E.prevent i)

    each_on : (is : List ℕ) → On (Scope.prevent_each is)
    each_on [] n s o = (o, E.s-refl n s)
    each_on (i ∷ is) n s o =
        let s₁ = Walk.set_stack (Scope.prevent_inline i s.stack) s in
        let h = E.prevent i n s o in
        let k = each_on is n s₁ h.0 in
        (k.0, E.s-trans n n n s s₁ (Walk.set_stack (Scope.prevent_each is s₁.stack) s₁) h.1 k.1)

    prevent_each-ok : {n : ℕ} (is : List ℕ) → Pres (at n) n Any (mark (Scope.prevent_each is))
    prevent_each-ok is = mark-ok (Scope.prevent_each is) (each_on is)

    declare_m-ok : {n : ℕ} (name : Tree) (v : Scope.Init) (c : Bool) (k : Scope.VarType) → IdT name → VI v → Pres (at n) n Any (Walk.declare_m name v c k)
    unfolding Walk.declare_m
    declare_m-ok name v c k g w = by_state-ok (λ s. grow (Scope.declare (is_twice (form name)) (num name) v (Scope.is_var s.var_decl_kind && not c && Walk.no_value v && s.inlining) k)) λ s o.
        (let u = Scope.is_var s.var_decl_kind && not c && Walk.no_value v && s.inlining in grow-ok (Scope.declare (is_twice (form name)) (num name) v u k) (E.declare (is_twice (form name)) (num name) v u k g w))

    leave-ok : {n : ℕ} (e : Tree) → Pres (at n) (count e + n) Any (Walk.leave e)
    leave-ok {n} e = record { from = λ s o. (let h = E.leave n e s o in (h.0, h.1, tt)) }

    -- by the binding of an identifier
    by_found-ok : {A : Type 0} {v : A → ℕ} {n : ℕ} {B : A → Type 0} (i : ℕ) (m : M A) (k : Scope.VarInfo → M A) → Pres v n B m
        → ((b : Scope.VarInfo) → VO b.value → (s : St) → Scope.is_some (Scope.find_binding i s.stack) ≡ true → L.Inv s → Out v n B s (k b s))
        → Pres v n B (λ s. elim (Scope.find_binding i s.stack) [ none ↦ m s | some b ↦ k b s ])
    by_found-ok {A} {v} {n} {B} i m k h l = record { from = λ s o. go s o (Scope.find_binding i s.stack) refl (E.value i s o) }
      where
        go : (s : St) → L.Inv s → (f : Option Scope.VarInfo) → Scope.find_binding i s.stack ≡ f → VB f → Out v n B s (elim f as (λ x. Res St A) [ none ↦ m s | some b ↦ k b s ])
        go s o none e g = h.from s o
        go s o (some b) e g = l b g s (ap Scope.is_some e) o

    by_find-ok : {A : Type 0} {v : A → ℕ} {n : ℕ} {B : A → Type 0} (i : ℕ) (m : M A) (k : Scope.VarInfo → M A) → Pres v n B m → ((b : Scope.VarInfo) → VO b.value → Pres v n B (k b))
        → Pres v n B (λ s. elim (Scope.find_binding i s.stack) [ none ↦ m s | some b ↦ k b s ])
    by_find-ok i m k h l = by_found-ok i m k h (λ b g s e o. (l b g).from s o)

    by_here-ok : {A : Type 0} {v : A → ℕ} {n : ℕ} {B : A → Type 0} (i : ℕ) (m : M A) (k : Scope.VarInfo → M A) → Pres v n B m → ((b : Scope.VarInfo) → Pres v n B (k b))
        → Pres v n B (λ s. elim (Scope.find_binding_from_current i s.stack) [ none ↦ m s | some b ↦ k b s ])
    by_here-ok {A} {v} {n} {B} i m k h l = record { from = λ s o. go s o (Scope.find_binding_from_current i s.stack) }
      where
        go : (s : St) → L.Inv s → (f : Option Scope.VarInfo) → Out v n B s (elim f as (λ x. Res St A) [ none ↦ m s | some b ↦ k b s ])
        go s o none = h.from s o
        go s o (some b) = (l b).from s o

    -- an identifier is replaced
    replace-ok : (p : ℕ) (t e : Tree) {m : M Tree} → L.Good p t → T (is_ident t) → L.Val e → (L.Good p e → WT p e m) → WT p t (Walk.replace p t e >> m)
    replace-ok p t e {m} g i v k = record { from = λ s o. first s o (ltb 201 (p + height e)) refl }
      where
        end : (s s₁ : St) (r : Res St Tree) → L.Rel t e → L.Move (count t) s (count e) s₁ → Out count (count e) (To p e) s₁ r → Out count (count t) (To p t) s r
        end s s₁ (stop n) q h o = o
        end s s₁ (done s₂ u) q h o = (o.0, E.s-trans (count t) (count e) (count u) s s₁ s₂ h o.1, (o.2.0, E.q-trans t e u q o.2.1))

        second : (s : St) → L.Inv s → ltb 201 (p + height e) ≡ false → (c : Bool) → ltb 1024 ((s.nodes + count e) - count t) ≡ c
            → Out count (count t) (To p t) s (and_then {S = St} {A = Nothing} {B = Tree} (elim c [ true ↦ stop 9 | false ↦ done (Walk.set_nodes ((s.nodes + count e) - count t) s) tt ]) (λ a. m))
        second s o d true c = E.nine
        second s o d false c =
            let s₁ = Walk.set_nodes ((s.nodes + count e) - count t) s in
            let h = E.recount t e s o c in
            let r = E.replaced p t e g i v d in
            end s s₁ (m s₁) r.1 h.1 ((k r.0).from s₁ h.0)

        first : (s : St) → L.Inv s → (c : Bool) → ltb 201 (p + height e) ≡ c
            → Out count (count t) (To p t) s (and_then {S = St} {A = Nothing} {B = Tree} (elim c [ true ↦ stop 8 | false ↦ elim (ltb 1024 ((s.nodes + count e) - count t)) [ true ↦ stop 9 | false ↦ done (Walk.set_nodes ((s.nodes + count e) - count t) s) tt ] ]) (λ a. m))
        first s o true d = E.eight
        first s o false d = second s o d (ltb 1024 ((s.nodes + count e) - count t)) refl

    -- declarators
    seen-ok : (t : Tree) → L.Val t → VI (Scope.seen_init t)
    seen-ok t o = pick-ok VI (is_cheap t) (Scope.recorded t) (Scope.seen t) o o

    some-ok : (c : Bool) (e : Tree) → (T c → L.Val e) → VO (pick c (some e) none)
    some-ok true e o = o tt
    some-ok false e o = tt

    declr_analysis-ok : {n : ℕ} (name : Tree) → IdT name → (e : Option Tree) → VO e → Pres (at n) n Any (Walk.declr_analysis name e)
    unfolding Walk.declr_analysis
    declr_analysis-ok {n} name g none o = by_state-ok (λ s. when (not (Scope.is_const s.var_decl_kind)) (Walk.declare_m name Scope.no_init true s.var_decl_kind) >> ret false) λ s h.
        after (when-ok (not (Scope.is_const s.var_decl_kind)) (declare_m-ok name Scope.no_init true s.var_decl_kind g tt)) (ret-ok {v = at n} false tt)
    declr_analysis-ok {n} name g (some e) o = by_state-ok _ λ s h. iff-ok (Scope.is_const s.var_decl_kind)
        (after (when-ok s.is_first_run (insert-ok (num name) (pick (is_cheap e) (some e) none) g (some-ok (is_cheap e) e (λ c. o)))) (ret-ok {v = at n} false tt))
        (iff-ok (is_cheap e)
        (after (declare_m-ok name (Scope.seen_init e) false s.var_decl_kind g (seen-ok e o)) (by_state-ok (λ s₁. when (Scope.is_inline_prevented e s₁.stack) (mark (Scope.prevent_inline (num name))) >> ret false) λ s₁ h₁. after (when-ok (Scope.is_inline_prevented e s₁.stack) (prevent-ok (num name))) (ret-ok {v = at n} false tt)))
        (after (declare_m-ok name (Scope.seen_init e) false s.var_decl_kind g (seen-ok e o)) (iff-ok (has_this e) (after (prevent-ok (num name)) (ret-ok {v = at n} true tt)) (ret-ok {v = at n} false tt))))

    -- the initialiser's nodes, if it is taken out
    abbrev left : Forest → Bool → ℕ
    left us gone = counts (pick gone (tail_f us) us)

    takes-ok : (k : Scope.VarType) (name : Tree) → IdT name → (us : Forest) → VF us → Pres (left us) (counts us) Any (Walk.takes k name us)
    unfolding Walk.takes
    takes-ok k name g nil o = after (declare_m-ok name Scope.no_init false k g tt) (ret-ok {v = left nil} false tt)
    takes-ok k name g (cons e es) o = after (when-ok (is_ident e) (declare_m-ok name (Scope.recorded e) false k g o.0)) (by_state-ok _ λ s h.
        iff-ok (Scope.is_inline_prevented e s.stack) (after (prevent-ok (num name)) (ret-ok {v = left (cons e es)} false tt))
        (iff-ok (is_cheap e || (not (Scope.is_inline_prevented (Walk.as_ident name) s.stack) && Walk.read_once? (Scope.find_binding (num name) s.stack))) (after (declare_m-ok name (Scope.recorded e) false k g o.0) (after (leave-ok e) (ret-ok {v = left (cons e es)} true tt))) (ret-ok {v = left (cons e es)} false tt)))

    head_bind-ok : (p : ℕ) (ts : Forest) → GF p ts → IdO (Walk.head_bind ts)
    head_bind-ok p nil o = tt
    head_bind-ok p (cons t ts) o = go (Walk.is_bind t) refl
      where
        go : (b : Bool) → Walk.is_bind t ≡ b → IdO (pick b (some t) none)
        go true e = id-bind p t o.0 (is_T _ e)
        go false e = tt

    -- the handlers, over walks that do it
    record Does (w : Walks) : Type 0 where
      full : (p : ℕ) (t : Tree) → L.Good p t → WT p t (w.full p t)
      bare : (p : ℕ) (t : Tree) → L.Good p t → WT p t (w.bare p t)
      inner : (p : ℕ) (t : Tree) → Other t → L.Good p t → WT p t (w.inner p t)

    module _ (w : Walks) (W : Does w) where
      stmts-ok : (p : ℕ) (ts : Forest) → GF p ts → WF p ts (visit_mut_stmts w p ts)
      unfolding visit_mut_stmts
      stmts-ok p ts o = by_state-ok _ λ s g. iff-ok s.inlining
          (after (mod-ok (Walk.set_inlining false) (λ s. (refl, refl, refl, refl, refl))) (bind (each-ok p (w.full p) (W.full p) ts o) λ us q.
          after (mod-ok (Walk.set_inlining true) (λ s. (refl, refl, refl, refl, refl))) (weaken (λ vs r. (r.0, qf-trans ts us vs q.1 r.1)) (each-ok p (w.full p) (W.full p) us q.0))))
          (each-ok p (w.full p) (W.full p) ts o)

      plain_ok : (p : ℕ) (t : Tree) → Other t → L.Good p t → WO p t (plain w p t)
      plain_ok p t n o = on_kids-ok p (each (w.full (suc p))) (each-ok (suc p) (w.full (suc p)) (W.full (suc p))) t n o

      script-ok : (p : ℕ) (t : Tree) → Other t → L.Good p t → WO p t (Walk.script_walk w p t)
      unfolding Walk.script_walk
      script-ok p t n o = on_kids-ok p (visit_mut_stmts w (suc p)) (stmts-ok (suc p)) t n o

      block-ok : (p : ℕ) (t : Tree) → Other t → L.Good p t → WO p t (Walk.visit_mut_block_stmt w p t)
      unfolding Walk.visit_mut_block_stmt
      block-ok p t n o = in_scope-ok Scope.block (on_kids-ok p (visit_mut_stmts w (suc p)) (stmts-ok (suc p)) t n o)

      branch-ok : (p : ℕ) (k : Scope.ScopeKind) (t : Tree) → L.Good p t → WT p t (Walk.visit_with_child w p k t)
      unfolding Walk.visit_with_child
      branch-ok p k t o = in_scope-ok k (W.bare p t o)

      decl-ok : (p : ℕ) (t : Tree) → Other t → L.Good p t → WO p t (Walk.visit_mut_var_decl w p t)
      unfolding Walk.visit_mut_var_decl
      decl-ok p t n o = after (mod-ok (Walk.set_var_decl_kind (Walk.decl_kind_of (form t))) (λ s. (refl, refl, refl, refl, refl))) (plain_ok p t n o)

      -- a declarator
      module _ (p k f a : ℕ) (six : T (eqb k 6)) (n : L.Tells → T (fixed k) → ⊥) where
        name_last-ok : (ts : Forest) → L.Good p (node k f a ts) → WN p k f a ts (Walk.name_last w p ts)
        name_last-ok ts o = promote p k f a ts n o (split-ok (suc p) (w.full (suc p)) ret (W.full (suc p)) (keep_f-ok (suc p)) ts (E.kids p k f a ts o))

        -- the initialiser's part
        abbrev Rest : Tree → Forest → Forest → Type 0
        Rest b es fs = L.Good p (node k f a (cons b fs)) × L.Rel (node k f a (cons b es)) (node k f a (cons b fs))

        ending : (b : Tree) (es us : Forest) (gone : Bool) → Rest b es us → Pres counts (left us gone) (Rest b es) (iff gone (ret (tail_f us)) (ret us))
        ending b es us false r = ret-ok us r
        ending b es nil true r = ret-ok nil r
        ending b es (cons e us) true r =
            let q = E.taken p k f a b e us six r.0 in
            ret-ok us (q.0, E.q-trans (node k f a (cons b es)) (node k f a (cons b (cons e us))) (node k f a (cons b us)) r.1 q.1)

        declr_inlining-ok : (v : Scope.VarType) (name b : Tree) → IdT name → (es : Forest) → L.Good p (node k f a (cons b es)) → Pres counts (counts es) (Rest b es) (Walk.declr_inlining w p v name es)
        unfolding Walk.declr_inlining
        declr_inlining-ok v name b g es o =
            let gs = E.kids p k f a (cons b es) o in
            by_state-ok _ λ s h. iff-ok (Walk.stays name es s.stack) (ret-ok es (o, E.q-refl (node k f a (cons b es))))
            (bind (split-ok (suc p) (w.full (suc p)) ret (W.full (suc p)) (keep_f-ok (suc p)) es gs.1) λ us q.
            (let r = E.around p k f a (cons b es) (cons b us) o (gs.0, q.0) (E.q-refl b, q.1) (told k (cons b es) (cons b us) n) in
            bind (takes-ok v name g us (E.init p k f a b us six r.0)) λ gone u. ending b es us gone r))

        rest_ok : (v : Scope.VarType) (name : Tree) → IdT name → (ts : Forest) → L.Good p (node k f a ts) → WN p k f a ts (split ret (Walk.declr_inlining w p v name) ts)
        rest_ok v name g nil o = ret-ok nil (o, E.q-refl (node k f a nil))
        rest_ok v name g (cons b es) o = bind (frame (count b) (declr_inlining-ok v name b g es o)) λ fs r. ret-ok (cons b fs) r

        over-ok : {m : ℕ} (name : Tree) → IdT name → (ts : Forest) → L.Good p (node k f a ts) → Pres (at m) m Any (Walk.over_m name ts)
        unfolding Walk.over_m
        over-ok name g nil o = declr_analysis-ok name g none tt
        over-ok name g (cons b nil) o = declr_analysis-ok name g none tt
        over-ok name g (cons b (cons e es)) o = declr_analysis-ok name g (some e) (E.init p k f a b (cons e es) six o).0

        declr_to-ok : (name : Option Tree) → IdO name → (now : Bool) (v : Scope.VarType) (ts : Forest) → L.Good p (node k f a ts) → WN p k f a ts (Walk.declr_to w p name now v ts)
        unfolding Walk.declr_to
        declr_to-ok none g now v ts o = name_last-ok ts o
        declr_to-ok (some name) g now v ts o = iff-ok now
            (iff-ok (Scope.is_const v) (name_last-ok ts o) (rest_ok v name g ts o))
            (bind (over-ok name g ts o) λ over u. iff-ok over (ret-ok ts (o, E.q-refl (node k f a ts))) (name_last-ok ts o))

        abbrev declr_kids : Forest → M Forest
        declr_kids ts = split ret (each (w.full (suc p))) ts >>= λ us. modify (Walk.set_pat_mode Walk.declaring) >> (λ s. Walk.declr_to w p (Walk.head_bind us) s.inlining s.var_decl_kind us s)

        declr_kids-ok : (ts : Forest) → L.Good p (node k f a ts) → WO p (node k f a ts) (Walk.visit_mut_var_declarator w p (node k f a ts))
        unfolding Walk.visit_mut_var_declarator
        declr_kids-ok ts o = node_n-ok p k f a declr_kids ts (bind (promote p k f a ts n o (split-ok (suc p) ret (each (w.full (suc p))) (keep-ok (suc p)) (each-ok (suc p) (w.full (suc p)) (W.full (suc p))) ts (E.kids p k f a ts o))) λ us q.
            after (mod-ok (Walk.set_pat_mode Walk.declaring) (λ s. (refl, refl, refl, refl, refl))) (by_state-ok (λ s. Walk.declr_to w p (Walk.head_bind us) s.inlining s.var_decl_kind us) λ s h.
            weaken (λ vs r. (r.0, E.q-trans (node k f a ts) (node k f a us) (node k f a vs) q.1 r.1)) (declr_to-ok (Walk.head_bind us) (head_bind-ok (suc p) us (E.kids p k f a us q.0)) s.inlining s.var_decl_kind us q.0)))

      declr-ok : (p : ℕ) (t : Tree) → T (eqb (kind t) 6) → Other t → L.Good p t → WO p t (Walk.visit_mut_var_declarator w p t)
      declr-ok p (node k f a ts) six n o = declr_kids-ok p k f a six n ts o

      -- functions
      bodied-ok : (p : ℕ) (ts : Forest) → (L.Tells → LastOther ts) → GF p ts → WF p ts (each_but (w.full p) (w.inner p) ts)
      bodied-ok p nil n o = keep_f-ok p nil o
      bodied-ok p (cons t nil) n o = one_ok p t (w.inner p t) (W.inner p t n o.0)
      bodied-ok p (cons t (cons u us)) n o = cons_ok p t (cons u us) (w.full p t) (each_but (w.full p) (w.inner p) (cons u us)) (W.full p t o.0) (bodied-ok p (cons u us) n o.1)

      function-ok : (p : ℕ) (named : Bool) (ts : Forest) → (L.Tells → LastOther ts) → GF (suc p) ts → WF (suc p) ts (Walk.visit_mut_function w p named ts)
      unfolding Walk.visit_mut_function
      function-ok p named ts n o = in_scope-ok (Scope.fn named) (after (mod-ok (Walk.set_pat_mode Walk.as_param) (λ s. (refl, refl, refl, refl, refl))) (bodied-ok (suc p) ts n o))

      declare_name-ok : {m : ℕ} (p : ℕ) (n : Option Tree) → GO p n → Pres (at m) m Any (Walk.declare_name n)
      unfolding Walk.declare_name
      declare_name-ok {m} p none o = ret-ok {v = at m} tt tt
      declare_name-ok p (some name) o = by_state-ok (λ s. when (Walk.is_bind name && not s.inlining) (Walk.declare_m name Scope.no_init true Scope.v_var)) λ s h.
          when-by (Walk.is_bind name && not s.inlining) λ b. declare_m-ok name Scope.no_init true Scope.v_var (id-bind p name o (and_left (Walk.is_bind name) (not s.inlining) b)) tt

      write_name-ok : {m : ℕ} (p : ℕ) (n : Option Tree) → GO p n → Pres (at m) m Any (Walk.write_name n)
      unfolding Walk.write_name
      write_name-ok {m} p none o = ret-ok {v = at m} tt tt
      write_name-ok p (some name) o = when-by (Walk.is_bind name) λ b. write-ok true name (id-bind p name o b)

      -- a node that is a function, with a name before it or not
      abbrev Fun : Tree → Type 0
      Fun t = T (eqb (kind t) 7 || eqb (kind t) 39)

      rest-last : (t : Tree) (ts : Forest) → LastOther (cons t ts) → LastOther ts
      rest-last t nil h = tt
      rest-last t (cons u us) h = h

      named_ok : (p : ℕ) (named : Bool) (t : Tree) → Fun t → Other t → L.Good p t → WO p t (on_kids (split ret (Walk.visit_mut_function w p named)) t)
      named_ok p named (node k f a nil) m n o = node_n-ok p k f a (split ret (Walk.visit_mut_function w p named)) nil (promote p k f a nil n o (keep_f-ok (suc p) nil tt))
      named_ok p named (node k f a (cons t ts)) m n o =
          let gs = E.kids p k f a (cons t ts) o in
          node_n-ok p k f a (split ret (Walk.visit_mut_function w p named)) (cons t ts) (promote p k f a (cons t ts) n o
          (cons_ok (suc p) t ts (ret t) (Walk.visit_mut_function w p named ts) (keep-ok (suc p) t gs.0) (function-ok p named ts (λ l. rest-last t ts (E.body p k f a (cons t ts) l m o)) gs.1)))

      fun-ok : (p : ℕ) (t : Tree) → Fun t → Other t → L.Good p t → WO p t (Walk.visit_mut_fn_decl w p t)
      unfolding Walk.visit_mut_fn_decl
      fun-ok p t m n o = after (declare_name-ok (suc p) (head_t (kids t)) (head_ok (suc p) (kids t) (kids_of p t o))) (named_ok p true t m n o)

      nameless-ok : (p : ℕ) (t : Tree) → Fun t → Other t → L.Good p t → WO p t (on_kids (Walk.visit_mut_function w p false) t)
      nameless-ok p (node k f a ts) m n o = node_n-ok p k f a (Walk.visit_mut_function w p false) ts (promote p k f a ts n o (function-ok p false ts (λ l. E.body p k f a ts l m o) (E.kids p k f a ts o)))

      fun_expr-ok : (p : ℕ) (t : Tree) → Fun t → Other t → L.Good p t → WO p t (Walk.visit_mut_fn_expr w p t)
      unfolding Walk.visit_mut_fn_expr
      fun_expr-ok p t m n o = iff-ok (eqb (form t) 1)
          (after (write_name-ok (suc p) (head_t (kids t)) (head_ok (suc p) (kids t) (kids_of p t o))) (named_ok p false t m n o))
          (nameless-ok p t m n o)

      arrow-ok : (p : ℕ) (t : Tree) → Other t → L.Good p t → WO p t (Walk.visit_mut_arrow_expr w p t)
      unfolding Walk.visit_mut_arrow_expr
      arrow-ok p t n o = in_scope-ok (Scope.fn false) (plain_ok p t n o)

      -- branches and loops
      tested-ok : (p : ℕ) (t : Tree) → L.Good p t → WT p t (Walk.tested w p t)
      unfolding Walk.tested
      tested-ok p t o = by_state-ok _ λ s h. after (mod-ok (Walk.set_in_test true) (λ s. (refl, refl, refl, refl, refl))) (bind (W.full p t o) λ u q. after (mod-ok (Walk.set_in_test s.in_test) (λ s. (refl, refl, refl, refl, refl))) (ret-ok u q))

      if_ok : (p : ℕ) (t : Tree) → Other t → L.Good p t → WO p t (Walk.visit_mut_if_stmt w p t)
      unfolding Walk.visit_mut_if_stmt
      if_ok p t n o = on_kids-ok p _ (split-ok (suc p) (Walk.tested w (suc p)) (each (Walk.visit_with_child w (suc p) Scope.cond)) (tested-ok (suc p)) (each-ok (suc p) (Walk.visit_with_child w (suc p) Scope.cond) (branch-ok (suc p) Scope.cond))) t n o

      loop-ok : (p : ℕ) (ts : Forest) → GF p ts → WF p ts (each_but (w.full p) (Walk.visit_with_child w p Scope.loop) ts)
      loop-ok p ts o = each_but-ok p (w.full p) (Walk.visit_with_child w p Scope.loop) (W.full p) (branch-ok p Scope.loop) ts o

      heads-ok : {m : ℕ} (p : ℕ) (t : Tree) → L.Good p t → Pres (at m) m Any (Walk.write_forest true (Walk.but_last (kids t)))
      heads-ok p t o = write_f-ok (suc p) true (Walk.but_last (kids t)) (but_last-ok (suc p) (kids t) (kids_of p t o))

      while-ok : (p : ℕ) (t : Tree) → Other t → L.Good p t → WO p t (Walk.visit_mut_while_stmt w p t)
      unfolding Walk.visit_mut_while_stmt
      while-ok p t n o = after (heads-ok p t o) (on_kids-ok p _ (loop-ok (suc p)) t n o)

      barrier_m-ok : {m : ℕ} → Pres (at m) m Any Walk.store_inline_barrier_m
      unfolding Walk.store_inline_barrier_m
      barrier_m-ok {m} = by_state-ok (λ s. iff s.inlining (ret tt) (mark Scope.store_inline_barrier)) λ s h. iff-ok s.inlining (ret-ok {v = at m} tt tt) (mark-ok Scope.store_inline_barrier E.barrier)

      for-ok : (p : ℕ) (t : Tree) → Other t → L.Good p t → WO p t (Walk.visit_mut_for_stmt w p t)
      unfolding Walk.visit_mut_for_stmt
      for-ok p t n o = after (heads-ok p t o) (bind (on_kids-ok p _ (loop-ok (suc p)) t n o) λ u q. after (when-ok (eqb (form t) 0) barrier_m-ok) (ret-ok u q))

      for_in-ok : (p : ℕ) (t : Tree) → Other t → L.Good p t → WO p t (Walk.visit_mut_for_in_stmt w p t)
      unfolding Walk.visit_mut_for_in_stmt
      for_in-ok p t n o = after (mod-ok (Walk.set_pat_mode Walk.as_param) (λ s. (refl, refl, refl, refl, refl))) (on_kids-ok p _ (split-ok (suc p) _ _
          (λ l ol. bind (W.full (suc p) l ol) λ u q. after (write_t-ok (suc p) true u q.0) (ret-ok u q))
          (λ ts os. after (write_f-ok (suc p) true (Walk.but_last ts) (but_last-ok (suc p) ts os)) (loop-ok (suc p) ts os))) t n o)

      try_ok : (p : ℕ) (t : Tree) → Other t → L.Good p t → WO p t (Walk.visit_mut_try_stmt w p t)
      unfolding Walk.visit_mut_try_stmt
      try_ok p t n o = on_kids-ok p _ (split-ok (suc p) _ _ (λ b ob. after (write_t-ok (suc p) true b ob) (keep-ok (suc p) b ob)) (each-ok (suc p) _ (λ h oh. iff-ok (Walk.is_catch h) (W.full (suc p) h oh) (keep-ok (suc p) h oh)))) t n o

      catch_param-ok : (p : ℕ) (b : Tree) → L.Good p b → WT p b (Walk.catch_param w p b)
      unfolding Walk.catch_param
      catch_param-ok p b o = bind (W.full p b o) λ u q. by_state-ok (λ s. when (not s.inlining) (mark (Scope.prevent_each (bound_names u []))) >> ret u) λ s h. after (when-ok (not s.inlining) (prevent_each-ok (bound_names u []))) (ret-ok u q)

      catch-ok : (p : ℕ) (t : Tree) → Other t → L.Good p t → WO p t (Walk.visit_mut_catch_clause w p t)
      unfolding Walk.visit_mut_catch_clause
      catch-ok p t n o = in_scope-ok Scope.block (after (mod-ok (Walk.set_pat_mode Walk.as_catch) (λ s. (refl, refl, refl, refl, refl))) (on_kids-ok p _ (each_but-ok (suc p) (Walk.catch_param w (suc p)) (w.full (suc p)) (catch_param-ok (suc p)) (W.full (suc p))) t n o))

      case-ok : (p : ℕ) (t : Tree) → Other t → L.Good p t → WO p t (Walk.visit_mut_switch_case w p t)
      unfolding Walk.visit_mut_switch_case
      case-ok p t n o = in_scope-ok Scope.block (iff-ok (eqb (form t) 1) (on_kids-ok p _ (split-ok (suc p) (w.full (suc p)) (visit_mut_stmts w (suc p)) (W.full (suc p)) (stmts-ok (suc p))) t n o) (on_kids-ok p _ (stmts-ok (suc p)) t n o))

      -- expressions
      unary-ok : (p : ℕ) (t : Tree) → Other t → L.Good p t → WO p t (Walk.visit_mut_unary_expr w p t)
      unfolding Walk.visit_mut_unary_expr
      unary-ok p t n o = iff-ok (eqb (form t) 6) (after (write_f-ok (suc p) true (kids t) (kids_of p t o)) (keep_o-ok p t o)) (plain_ok p t n o)

      update-ok : (p : ℕ) (t : Tree) → L.Good p t → WO p t (Walk.visit_mut_update_expr w p t)
      unfolding Walk.visit_mut_update_expr
      update-ok p t o = after (write_f-ok (suc p) true (kids t) (kids_of p t o)) (keep_o-ok p t o)

      call_ok : (c : Bool) (p : ℕ) (t : Tree) → Other t → L.Good p t → WO p t (Walk.visit_mut_call_expr c w p t)
      unfolding Walk.visit_mut_call_expr
      call_ok c p t n o = bind (on_kids-ok p _ (split-ok (suc p) _ _
          (λ e oe. bind (W.full (suc p) e oe) λ u q. by_state-ok (λ s. when (not s.inlining) (mark (Scope.mark_this_sensitive (Scope.ident_of (some u)))) >> ret u) λ s h.
          after (when-ok (not s.inlining) (mark-ok (Scope.mark_this_sensitive (Scope.ident_of (some u))) (E.sensitive (Scope.ident_of (some u))))) (ret-ok u q))
          (λ ts os. after (when-ok c (write_f-ok (suc p) false ts os)) (each-ok (suc p) (w.full (suc p)) (W.full (suc p)) ts os))) t n o) λ u q. after barrier_m-ok (ret-ok u q)

      pat-ok : (p : ℕ) (t : Tree) → L.Good p t → WO p t (Walk.visit_mut_pat w p t)
      unfolding Walk.visit_mut_pat Walk.pat_by
      pat-ok p t o = by_state-ok (λ s. when (Walk.is_bind t) (Walk.pat_by s.pat_mode t) >> ret t) λ s h. after (when-by (Walk.is_bind t) λ b. by s.pat_mode b) (keep_o-ok p t o)
        where
          by : {m : ℕ} (d : Walk.PatMode) → T (Walk.is_bind t) → Pres (at m) m Any (Walk.pat_by d t)
          by Walk.as_param b = declare_m-ok t (Scope.recorded (Walk.as_ident t)) false Scope.param (id-bind p t o b) (E.bound p t o b)
          by Walk.as_catch b = declare_m-ok t (Scope.recorded (Walk.as_ident t)) false Scope.v_var (id-bind p t o b) (E.bound p t o b)
          by {m} Walk.declaring b = ret-ok {v = at m} tt tt
          by {m} Walk.assigning b = by_here-ok (num t) (Walk.write false t) (λ c. ret tt) (write-ok false t (id-bind p t o b)) (λ c. ret-ok {v = at m} tt tt)

      -- assignments
      store_ok : {m : ℕ} (p : ℕ) (l : Tree) (r : Option Tree) → GO p r → Pres (at m) m Any (Walk.store_o l r)
      store_ok {m} p l none o = ret-ok {v = at m} tt tt
      store_ok {m} p l (some r) o = by_find-ok (num l) (ret tt) (λ b. iff (Scope.var_inline_prevented b) (ret tt) (grow (Scope.change (num l) (Scope.with_value (pick (is_cheap r) (some r) none))))) (ret-ok {v = at m} tt tt)
          (λ b k. iff-ok (Scope.var_inline_prevented b) (ret-ok {v = at m} tt tt) (grow-ok (Scope.change (num l) (Scope.with_value (pick (is_cheap r) (some r) none))) (E.store (num l) (pick (is_cheap r) (some r) none) (some-ok (is_cheap r) r (E.cheap p r o)))))

      assign_first-ok : {m : ℕ} (p f : ℕ) (ts : Forest) → GF p ts → Pres (at m) m Any (Walk.assign_first f ts)
      unfolding Walk.assign_first
      assign_first-ok {m} p f nil o = ret-ok {v = at m} tt tt
      assign_first-ok p f (cons l rs) o = iff-ok (eqb f 0)
          (after (write_t-ok p false l o.0) (after (write_f-ok p false rs o.1) (when-ok (is_member l) (after (write_t-ok p true l o.0) (write_f-ok p true rs o.1)))))
          (after (write_t-ok p true l o.0) (write_f-ok p true rs o.1))

      assign_last-ok : {m : ℕ} (p : ℕ) (ts : Forest) → GF p ts → Pres (at m) m Any (Walk.assign_last ts)
      unfolding Walk.assign_last
      assign_last-ok {m} p nil o = ret-ok {v = at m} tt tt
      assign_last-ok p (cons l rs) o = by_state-ok _ λ s h.
          iff-ok (Scope.prevented_o (head_t rs) s.stack) (prevent_each-ok (bound_names l []))
          (when-by (eqb (kind l) 20) λ b. after (write-ok false l (id-bind p l o.0 b)) (store_ok p l (head_t rs) (head_ok p rs o.1)))

      -- both sides, or the right one
      sides-ok : (p f : ℕ) (ts : Forest) → GF (suc p) ts → Pres counts (counts ts) (λ us. ToF (suc p) ts us × Left ts us) (iff (eqb f 0 && Walk.pattern_o (head_t ts)) (each (w.full (suc p)) ts) (split ret (each (w.full (suc p))) ts))
      sides-ok p f ts gs = iff-by (eqb f 0 && Walk.pattern_o (head_t ts)) (λ c. weaken (λ us q. (q, inr (and_right (eqb f 0) (Walk.pattern_o (head_t ts)) c))) (each-ok (suc p) (w.full (suc p)) (W.full (suc p)) ts gs))
          (weaken (λ us q. (q.0, inl q.1)) (headed-ok (suc p) (each (w.full (suc p))) (each-ok (suc p) (w.full (suc p)) (W.full (suc p))) ts gs))

      assign-ok : (p : ℕ) (t : Tree) → T (eqb 33 (kind t)) → L.Good p t → WO p t (Walk.visit_mut_assign_expr w p t)
      unfolding Walk.visit_mut_assign_expr Walk.assign_kids
      assign-ok p (node k f a ts) m o =
          let gs = E.kids p k f a ts o in
          let pat = Walk.to_pattern (node k f a ts) in
          after (mod-ok (Walk.set_pat_mode Walk.assigning) (λ s. (refl, refl, refl, refl, refl))) (node_n-ok p k f a (Walk.assign_kids w p f pat) ts (after (assign_first-ok (suc p) f ts gs)
          (bind (sides-ok p f ts gs) λ us q. after (assign_last-ok (suc p) us q.0.0) (ret-ok us (E.around p k f a ts us o q.0.0 q.0.1 (λ l. (λ e. subst (λ (n : ℕ). T (eqb n 31)) (sym (eqb→eq 33 k m)) e, λ e. q.1)))))))

      -- by kind
      handle-ok : (h : Walk.Handler) (p : ℕ) (t : Tree) → (L.Tells → T (fixed (kind t)) → T (fixed (role h))) → Fits h (kind t) → L.Good p t → WO p t (Walk.handle h w p t)
      unfolding Walk.handle
      handle-ok Walk.h_plain p t n m o = plain_ok p t n o
      handle-ok Walk.h_script p t n m o = script-ok p t n o
      handle-ok Walk.h_block p t n m o = block-ok p t n o
      handle-ok Walk.h_decl p t n m o = decl-ok p t n o
      handle-ok Walk.h_declr p t n m o = declr-ok p t (turned 6 (kind t) tt m) n o
      handle-ok Walk.h_fun p t n m o = fun-ok p t (or_left (eqb (kind t) 7) (eqb (kind t) 39) (turned 7 (kind t) tt m)) n o
      handle-ok Walk.h_if p t n m o = if_ok p t n o
      handle-ok Walk.h_while p t n m o = while-ok p t n o
      handle-ok Walk.h_for p t n m o = for-ok p t n o
      handle-ok Walk.h_for_in p t n m o = for_in-ok p t n o
      handle-ok Walk.h_try p t n m o = try_ok p t n o
      handle-ok Walk.h_catch p t n m o = catch-ok p t n o
      handle-ok Walk.h_case p t n m o = case-ok p t n o
      handle-ok Walk.h_pat p t n m o = pat-ok p t o
      handle-ok Walk.h_unary p t n m o = unary-ok p t n o
      handle-ok Walk.h_update p t n m o = update-ok p t o
      handle-ok Walk.h_assign p t n m o = assign-ok p t m o
      handle-ok Walk.h_call p t n m o = call_ok true p t n o
      handle-ok Walk.h_new p t n m o = call_ok false p t n o
      handle-ok Walk.h_fun_expr p t n m o = fun_expr-ok p t (or_right (eqb (kind t) 7) (eqb (kind t) 39) (turned 39 (kind t) tt m)) n o
      handle-ok Walk.h_arrow p t n m o = arrow-ok p t n o

      own-ok : (p : ℕ) (t : Tree) → L.Good p t → WO p t (Walk.own w p t)
      unfolding Walk.own
      own-ok p t o = handle-ok (Walk.handler_of (kind_of (kind t))) p t (λ l. fits-fixed (kind t)) (fits (kind t)) o

      -- after a node's own handler
      logical-ok : (p : ℕ) (t : Tree) → L.Good p t → WT p t (Walk.logical w p t)
      unfolding Walk.logical
      logical-ok p t o = iff-by (eqb (kind t) 32 && ltb (form t) 2) (λ c. loose p t (on_kids-ok p _ (split-ok (suc p) ret _ (keep-ok (suc p)) (each-ok (suc p) _ (λ r or. in_cond-ok (W.bare (suc p) r or)))) t (λ l. other (kind t) (and_left (eqb (kind t) 32) (ltb (form t) 2) c)) o)) (keep-ok p t o)
        where
          other : (k : ℕ) → T (eqb k 32) → T (fixed k) → ⊥
          other k h = subst (λ (n : ℕ). T (fixed n) → ⊥) (sym (eqb→eq k 32 h)) (λ e. e)

      ident_analysis-ok : (p : ℕ) (t : Tree) → L.Good p t → T (is_ident t) → WT p t (Walk.ident_analysis t)
      unfolding Walk.ident_analysis
      ident_analysis-ok p t o i = by_state-ok _ λ s h.
          after (when-ok s.in_test (by_find-ok (num t) (ret tt) (λ b. when (not (Walk.cheap_o b.value)) (mark (Scope.prevent_inline (num t)))) (ret-ok {v = at (count t)} tt tt) (λ b k. when-ok (not (Walk.cheap_o b.value)) (prevent-ok (num t)))))
          (after (mark-ok (Scope.add_read (num t) (eqb (form t) 1)) (E.read (num t) (eqb (form t) 1) (id-ident p t o i))) (keep-ok p t o))

      -- from a state that has the binding
      inline_value-ok : (p : ℕ) (t : Tree) (b : Scope.VarInfo) (v : Option Tree) → L.Good p t → T (is_ident t) → VO v → (s : St) → Scope.is_some (Scope.find_binding (num t) s.stack) ≡ true → L.Inv s → Went p t s (Walk.inline_value w p t b v s)
      unfolding Walk.inline_value
      inline_value-ok p t b none o i v s f h = (iff-ok b.is_undefined (replace-ok p t void_zero o i E.void (keep-ok p void_zero)) (keep-ok p t o)).from s h
      inline_value-ok p t b (some e) o i v s f h = bind-at (at (count t)) (count t) Any count (To p t) (λ x. Walk.replace p t e >> Walk.logical w p e) s (when (not (Walk.same_ident t e)) once s) (go (not (Walk.same_ident t e))) (λ a x. replace-ok p t e o i v (logical-ok p e))
        where
          once : M Nothing
          once = modify (λ s. Walk.tally (num t) (Walk.set_changed true s))

          go : (c : Bool) → Out (at (count t)) (count t) Any s (when c once s)
          go true =
              let s₁ = Walk.set_changed true s in
              let x = E.fields (count t) s s₁ (refl, refl, refl, refl, refl) h in
              let y = E.tally (num t) (count t) s₁ f x.0 in
              (y.0, E.s-trans (count t) (count t) (count t) s s₁ (Walk.tally (num t) s₁) x.1 y.1, tt)
          go false = (h, E.s-refl (count t) s, tt)

      ident_inlining-ok : (p : ℕ) (t : Tree) → L.Good p t → T (is_ident t) → WT p t (Walk.ident_inlining w p t)
      unfolding Walk.ident_inlining
      ident_inlining-ok p t o i = by_found-ok (num t) (ret t) (λ b. iff (Scope.var_inline_prevented b) (ret t) (Walk.inline_value w p t b b.value)) (keep-ok p t o) (λ b k s f h. by (Scope.var_inline_prevented b) b k s f h)
        where
          by : (c : Bool) (b : Scope.VarInfo) → VO b.value → (s : St) → Scope.is_some (Scope.find_binding (num t) s.stack) ≡ true → L.Inv s → Went p t s (iff c (ret t) (Walk.inline_value w p t b b.value) s)
          by true b k s f h = (keep-ok p t o).from s h
          by false b k s f h = inline_value-ok p t b b.value o i k s f h

      by_const-ok : (p : ℕ) (t : Tree) (v : Option Tree) → L.Good p t → T (is_ident t) → VO v → WT p t (Walk.by_const w p t v)
      unfolding Walk.by_const
      by_const-ok p t none o i v = by_state-ok (λ s. iff s.inlining (Walk.ident_inlining w p t) (Walk.ident_analysis t)) λ s h. iff-ok s.inlining (ident_inlining-ok p t o i) (ident_analysis-ok p t o i)
      by_const-ok p t (some e) o i v = after (mod-ok (Walk.set_changed true) (λ s. (refl, refl, refl, refl, refl))) (replace-ok p t e o i v (W.full p e))

      after_ident-ok : (p : ℕ) (t : Tree) → L.Good p t → T (is_ident t) → WT p t (Walk.after_ident w p t)
      unfolding Walk.after_ident
      after_ident-ok p t o i = by_state-ok (λ s. Walk.by_const w p t (pick s.is_first_run (Scope.find_constant (num t) s.stack) none)) λ s h.
          by_const-ok p t (pick s.is_first_run (Scope.find_constant (num t) s.stack) none) o i (pick-ok VO s.is_first_run (Scope.find_constant (num t) s.stack) none (E.constant (num t) s h) tt)

      -- an assignment that its own handler left stays
      after-ok : (p : ℕ) (t : Tree) (s : St) → L.Good p t → (T (eqb (kind t) 33) → Walk.after_assign p t s ≡ done s t) → L.Inv s → Out count (count t) (To p t) s (Walk.after w p t s)
      unfolding Walk.after
      after-ok p t s o d h = go (is_ident t) refl (eqb (kind t) 33) refl (eqb (form t) 0)
        where
          rest : Bool → M Tree
          rest c = elim c [ true ↦ (λ s₁. iff s₁.inlining (Walk.after_assign p t) (ret t) s₁) | false ↦ Walk.logical w p t ]

          by : (c : Bool) → Walk.after_assign p t s ≡ done s t → Out count (count t) (To p t) s (iff c (Walk.after_assign p t) (ret t) s)
          by true e = subst (Out count (count t) (To p t) s) (sym e) ((keep-ok p t o).from s h)
          by false e = (keep-ok p t o).from s h

          go : (a : Bool) → is_ident t ≡ a → (b : Bool) → eqb (kind t) 33 ≡ b → (c : Bool) → Out count (count t) (To p t) s (elim a as (λ x. M Tree) [ true ↦ Walk.after_ident w p t | false ↦ rest (b && c) ] s)
          go true i b e c = (after_ident-ok p t o (is_T _ i)).from s h
          go false i true e true = by s.inlining (d (is_T _ e))
          go false i true e false = (logical-ok p t o).from s h
          go false i false e c = (logical-ok p t o).from s h

      full-ok : (p : ℕ) (t : Tree) → L.Good p t → WT p t (Walk.visit_mut_expr w p t)
      unfolding Walk.visit_mut_expr
      full-ok p t o = record { from = λ s h. go s (Walk.own w p t s) ((own-ok p t o).from s h) (λ e. ends-own w p t e s) }
        where
          end : (s s₁ : St) (u : Tree) (r : Res St Tree) → L.Rel t u → L.Move (count t) s (count u) s₁ → Out count (count u) (To p u) s₁ r → Out count (count t) (To p t) s r
          end s s₁ u (stop n) q m x = x
          end s s₁ u (done s₂ v) q m x = (x.0, E.s-trans (count t) (count u) (count v) s s₁ s₂ m x.1, (x.2.0, E.q-trans t u v q x.2.1))

          go : (s : St) (r : Res St Tree) → Out count (count t) (Own p t) s r → (T (eqb (kind t) 33) → Ends p r) → Out count (count t) (To p t) s (and_then r (Walk.after w p))
          go s (stop n) x d = x
          go s (done s₁ u) x d = end s s₁ u (Walk.after w p u s₁) x.2.1 x.1 (after-ok p u s₁ x.2.0 (λ e. d (subst (λ (n : ℕ). T (eqb n 33)) x.2.2 e)) x.0)

    refuse-ok : {A : Type 0} {v : A → ℕ} {m : ℕ} {B : A → Type 0} → Pres v m B (refuse 8)
    refuse-ok = record { from = λ s o. E.eight }

    walks-do : (d : ℕ) → Does (Walk.walks d)
    unfolding Walk.walks
    walks-do zero = record { full = λ p t o. refuse-ok; bare = λ p t o. refuse-ok; inner = λ p t n o. refuse-ok }
    walks-do (suc d) = record {
      full = full-ok (Walk.walks d) (walks-do d);
      bare = λ p t o. loose p t (own-ok (Walk.walks d) (walks-do d) p t o);
      inner = λ p t n o. loose p t (script-ok (Walk.walks d) (walks-do d) p t n o);
    }

    -- a node's own walk, with its kind
    pub own-does : (d p : ℕ) (t : Tree) → L.Good p t → (s : St) → L.Inv s → Out count (count t) (λ u. L.Good p u × L.Rel t u × (kind u ≡ kind t)) s (Walk.own (Walk.walks d) p t s)
    own-does d p t o s h = (own-ok (Walk.walks d) (walks-do d) p t o).from s h

    -- every walk of every depth
    pub full-does : (d p : ℕ) (t : Tree) → L.Good p t → (s : St) → L.Inv s → Went p t s ((Walk.walks d).full p t s)
    full-does d p t o s h = ((walks-do d).full p t o).from s h

    pub bare-does : (d p : ℕ) (t : Tree) → L.Good p t → (s : St) → L.Inv s → Went p t s ((Walk.walks d).bare p t s)
    bare-does d p t o s h = ((walks-do d).bare p t o).from s h

    pub inner-does : (d p : ℕ) (t : Tree) → Other t → L.Good p t → (s : St) → L.Inv s → Went p t s ((Walk.walks d).inner p t s)
    inner-does d p t n o s h = ((walks-do d).inner p t n o).from s h

    run_ok : (t : Tree) → L.Good 1 t → WT 1 t (Walk.run t)
    unfolding Walk.run
    run_ok t o = after (mod-ok (Walk.set_inlining false) (λ s. (refl, refl, refl, refl, refl))) (bind (own-ok (Walk.walks 199) (walks-do 199) 1 t o) λ u q.
        after (mod-ok (Walk.set_inlining true) (λ s. (refl, refl, refl, refl, refl))) (bind (own-ok (Walk.walks 199) (walks-do 199) 1 u q.0) λ v r.
        after (mod-ok (Walk.set_inlining false) (λ s. (refl, refl, refl, refl, refl))) (ret-ok v (r.0, E.q-trans t u v q.1 r.1))))

    -- a run, the runs, and the pass
    pub run-does : (t : Tree) → L.Good 1 t → (s : St) → L.Inv s → Went 1 t s (Walk.run t s)
    run-does t o s h = (run_ok t o).from s h

    ended : (t u v : Tree) (s s₁ : St) (ms : List Walk.Rooted) → L.Move (count t) s (count u) s₁ → L.Rel t u → Ended u s₁ v ms → Ended t s v ms
    ended t u v s s₁ ms m q e = record {
      last = e.last;
      inv = e.inv;
      moved = E.s-trans (count t) (count u) (count v) s s₁ e.last m e.moved;
      good = e.good;
      related = E.q-trans t u v q e.related;
      roots = e.roots;
    }

    passed : (t u : Tree) (s s₁ : St) (x : Walk.Outcome) → L.Move (count t) s (count u) s₁ → L.Rel t u → Passed u s₁ x → Passed t s x
    passed t u s s₁ (Walk.refused n) m q e = e
    passed t u s s₁ (Walk.result k c v ms) m q e = ended t u v s s₁ ms m q e

    pub runs-do : (n k : ℕ) (t : Tree) (s : St) → L.Good 1 t → L.Inv s → Passed t s (Walk.runs n k t s)
    unfolding Walk.runs
    runs-do zero k t s o h = record { last = s; inv = h; moved = E.s-refl (count t) s; good = o; related = E.q-refl t; roots = refl }
    runs-do (suc n) k t s o h =
        let s₁ = Walk.set_changed false s in
        let f = E.fields (count t) s s₁ (refl, refl, refl, refl, refl) h in
        go s₁ f.1 (Walk.run t s₁) (run-does t o s₁ f.0) (λ u s₂ g i. runs-do n (suc k) u s₂ g i)
      where
        both : (u : Tree) (s₂ : St) → L.Move (count t) s (count u) s₂ → To 1 t u → L.Inv s₂ → (c : Bool) → ((u : Tree) (s₂ : St) → L.Good 1 u → L.Inv s₂ → Passed u s₂ (Walk.runs n (suc k) u s₂))
            → Passed t s (elim c as (λ x. Walk.Outcome) [ true ↦ Walk.runs n (suc k) u (Walk.set_is_first_run false s₂) | false ↦ Walk.result (suc k) false u (Walk.root_marks s₂.stack) ])
        both u s₂ m q i true ih =
            let s₃ = Walk.set_is_first_run false s₂ in
            let f = E.fields (count u) s₂ s₃ (refl, refl, refl, refl, refl) i in
            passed t u s s₃ (Walk.runs n (suc k) u s₃) (E.s-trans (count t) (count u) (count u) s s₂ s₃ m f.1) q.1 (ih u s₃ q.0 f.0)
        both u s₂ m q i false ih = record { last = s₂; inv = i; moved = m; good = q.0; related = q.1; roots = refl }

        go : (s₁ : St) → L.Move (count t) s (count t) s₁ → (r : Res St Tree) → Went 1 t s₁ r → ((u : Tree) (s₂ : St) → L.Good 1 u → L.Inv s₂ → Passed u s₂ (Walk.runs n (suc k) u s₂)) → Passed t s (Walk.again (Walk.runs n (suc k)) (suc k) r)
        go s₁ m (stop x) o ih = o
        go s₁ m (done s₂ u) o ih = both u s₂ (E.s-trans (count t) (count t) (count u) s s₁ s₂ m o.1) o.2 o.0 s₂.changed ih

    pub pass-does : (n : ℕ) (t : Tree) → L.Good 1 (flagged t) → L.Inv (Walk.start t) → Passed (flagged t) (Walk.start t) (Walk.core_pass n t)
    unfolding Walk.core_pass
    pass-does n t o h = runs-do n 0 (flagged t) (Walk.start t) o h
