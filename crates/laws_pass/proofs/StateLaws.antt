-- Laws of the state alone, and of the refusals: nothing is asked of a tree. Assumes nothing.
use mathlib.Core.Path.{◌≡◌}
use mathlib.Core.Bool.{Bool, true, false}
use mathlib.Core.Option.{Option, none, some}
use Prim.Native.Nat.{ℕ, suc, ◌+◌, ◌-◌}
use lib.Dec.{ltb}
use Rattle.def_pass.specs.Tree.{Tree, Forest, nil, cons, count}
use Rattle.def_pass.specs.Scope as Scope
use Rattle.def_pass.specs.Scope.{VarInfo}
use Rattle.def_pass.specs.Walk as Walk
use Rattle.def_pass.specs.Walk.{St}
use Rattle.laws_pass.proofs.Effects.{Law, Effects, GF, VF, VO, VB, On, Moves, Aside, inside}

-- as in Law
pub record StateLaw : Type 1 where
  pub Inv : St → Type 0
  pub Move : ℕ → St → ℕ → St → Type 0
  pub Stop : ℕ → Type 0

module _ (X : StateLaw) where
  abbrev pub law : Law
  law = record { Inv = X.Inv; Move = X.Move; Good = λ p t. Unit {0}; Val = λ t. Unit {0}; Rel = λ t u. Unit {0}; Id = λ i. Unit {0}; Stop = X.Stop; Tells = ⊥ }

  -- what is to be shown: as in Effects
  pub record StateEffects : Type 0 where
    pub s-refl : (n : ℕ) (s : St) → X.Move n s n s
    pub s-trans : (l m n : ℕ) (a b c : St) → X.Move l a m b → X.Move m b n c → X.Move l a n c
    pub s-frame : (k m n : ℕ) (a b : St) → X.Move m a n b → X.Move (k + m) a (k + n) b
    pub eight : X.Stop 8
    pub nine : X.Stop 9
    pub recount : (t e : Tree) (s : St) → X.Inv s → ltb 1024 ((s.nodes + count e) - count t) ≡ false → X.Inv (Walk.set_nodes ((s.nodes + count e) - count t) s) × X.Move (count t) s (count e) (Walk.set_nodes ((s.nodes + count e) - count t) s)
    pub leave : (n : ℕ) (e : Tree) (s : St) → X.Inv s → X.Inv (Walk.set_nodes (s.nodes - count e) s) × X.Move (count e + n) s n (Walk.set_nodes (s.nodes - count e) s)
    pub write : (i : ℕ) (args force : Bool) → On law (Scope.add_write i args force)
    pub declare : (again : Bool) (i : ℕ) (v : Scope.Init) (u : Bool) (k : Scope.VarType) → On law (Scope.declare again i v u k)
    pub const : (i : ℕ) (v : Option Tree) → (n : ℕ) (s : St) → X.Inv s → Moves law n s (Walk.set_stack (Scope.add_const s.targeted i v s.stack) s)
    pub prevent : (i : ℕ) → On law (Scope.prevent_inline i)
    pub read : (i : ℕ) (args : Bool) → On law (Scope.add_read i args)
    pub store : (i : ℕ) (v : Option Tree) → On law (Scope.change i (Scope.with_value v))
    pub sensitive : (i : Option ℕ) → On law (Scope.mark_this_sensitive i)
    pub barrier : On law Scope.store_inline_barrier
    pub tally : (i n : ℕ) (s : St) → Scope.is_some (Scope.find_binding i s.stack) ≡ true → X.Inv s → Moves law n s (Walk.tally i s)
    pub opened : (k : Scope.ScopeKind) (s : St) → X.Inv s → X.Inv (inside k s)
    pub closed : (k : Scope.ScopeKind) (m n : ℕ) (s s' : St) → X.Inv s → X.Inv s' → X.Move m (inside k s) n s' → X.Inv (Walk.restore s s') × X.Move m s n (Walk.restore s s')
    pub fields : (n : ℕ) (s s' : St) → Aside s s' → X.Inv s → Moves law n s s'

  any : (p : ℕ) (ts : Forest) → GF law p ts
  any p nil = tt
  any p (cons t ts) = (tt, any p ts)

  any_v : (ts : Forest) → VF law ts
  any_v nil = tt
  any_v (cons t ts) = (tt, any_v ts)

  any_o : (v : Option Tree) → VO law v
  any_o none = tt
  any_o (some t) = tt

  any_b : (b : Option VarInfo) → VB law b
  any_b none = tt
  any_b (some b) = any_o b.value

  pub effects : StateEffects → Effects law
  effects E = record {
    s-refl = E.s-refl;
    s-trans = E.s-trans;
    s-frame = E.s-frame;
    q-refl = λ t. tt;
    q-trans = λ t u v h k. tt;
    eight = E.eight;
    nine = E.nine;
    kids = λ p k f a ts o. any (suc p) ts;
    around = λ p k f a ts us o h q e. (tt, tt);
    body = λ p k f a ts e. absurd e;
    init = λ p k f a n es e o. any_v es;
    taken = λ p k f a n e es h o. (tt, tt);
    name = λ p t o h. tt;
    bound = λ p t o h. tt;
    cheap = λ p t o h. tt;
    void = tt;
    value = λ i s o. any_b (Scope.find_binding i s.stack);
    constant = λ i s o. any_o (Scope.find_constant i s.stack);
    replaced = λ p t e o i v h. (tt, tt);
    recount = E.recount;
    leave = E.leave;
    write = λ i g force k. E.write i g force;
    declare = λ again i v u k g w. E.declare again i v u k;
    const = λ i v g w. E.const i v;
    prevent = E.prevent;
    read = λ i g k. E.read i g;
    store = λ i v w. E.store i v;
    sensitive = E.sensitive;
    barrier = E.barrier;
    tally = E.tally;
    opened = E.opened;
    closed = E.closed;
    fields = E.fields;
  }
