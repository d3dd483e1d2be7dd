-- A computation and the same computation on relabelled things: laws for the parts of walks. Assumes nothing.
use mathlib.Core.Path.{◌≡◌, refl, sym, ap, ap₂, ◌∙◌, subst, fun_ext}
use mathlib.Core.Bool.{Bool, true, false, ◌&&◌, ◌||◌, not}
use mathlib.Core.Option.{Option, none, some}
use mathlib.Core.List.{List, [], ◌∷◌, map}
use Prim.Native.Nat.{ℕ, zero, suc, ◌+◌, ◌-◌}
use lib.Dec.{T, eqb, ltb, leb}
use lib.ListN.{length, length-map}
use Rattle.def_tree.specs.Base.{pick}
use Rattle.def_tree.specs.Combine.{Res, stop, done, Nothing, and_then, ◌>>=◌, ◌>>◌, ret, refuse, iff, within, each, split, each_but, on_kids}
use Rattle.def_file.specs.Named.{kind_of}
use Rattle.def_pass.specs.Tree.{Tree, Forest, node, nil, cons, form, num, head_t, tail_f, is_ident, is_cheap, is_member, bound_names, has_this, count, height, ident_list, ident_list_f, void_zero}
use Rattle.def_pass.specs.Relabel.{relabel, relabel_f, relabel_out}
use Rattle.laws_pass.specs.Demand.{OriginBlind}
use Rattle.def_pass.specs.Twice.{is_twice, is_args, flagged}
use Rattle.def_pass.specs.Scope as Scope
use Rattle.def_pass.specs.Scope.{VarInfo, Stack, Init}
use Rattle.def_pass.specs.Walk as Walk
use Rattle.def_pass.specs.Walk.{St, M, Walks, get, when, modify, mark, grow, in_scope, visit_mut_stmts, plain}
use Rattle.def_tree.proofs.Tests.{is_T, and_left}
use Rattle.laws_pass.proofs.Blind.{pick_same, elim-same, on_o, Bound, bound, ident-num, same_kind, same-form, same_head, same-tail, same-but_last, same_count, same-targets, same-flagged, same-height, same-this, same-bound, same-idents, same-idents_f}
use Rattle.laws_pass.proofs.Void.{same-void}
use Rattle.laws_pass.proofs.BlindScope.{on_b, on_ob, on_i, on, find-same, here-same, const-same, change-same, prevent-same, add_read-same, add_write-same, sensitive-same, barrier-same, add_const-same, ident_of-same, prevented-same, prevented_o-same, var_prevented-same, same_this-same, declare-same, close-same, ending-same, recorded-same, live_same}

module _ (r : ℕ → ℕ) where
  abbrev pub rel : Tree → Tree
  rel t = relabel r t

  abbrev pub rels : Forest → Forest
  rels ts = relabel_f r ts

  abbrev pub lab : St → St
  lab s = Walk.set_stack (on r s.stack) s

  abbrev pub keep : {A : Type 0} → A → A
  keep a = a

  abbrev pub map_r : {A : Type 0} → (A → A) → Res St A → Res St A
  map_r e (stop n) = stop n
  map_r e (done s a) = done (lab s) (e a)

  -- m' does on relabelled things what m does; e relabels the answers
  pub record Eq {A : Type 0} (e : A → A) (m m' : M A) : Type 0 where
    pub from : (s : St) → m' (lab s) ≡ map_r e (m s)

  pub bind : {A B : Type 0} {e : A → A} {g : B → B} {m m' : M A} {f : A → M B} (f' : A → M B) → Eq e m m' → ((a : A) → Eq g (f a) (f' (e a))) → Eq g (m >>= f) (m' >>= f')
  bind {A} {B} {e} {g} {m} {m'} {f} f' h k = record { from = λ s. ap (λ (x : Res St A). and_then x f') (h.from s) ∙ go (m s) }
    where
      go : (x : Res St A) → and_then (map_r e x) f' ≡ map_r g (and_then x f)
      go (stop n) = refl
      go (done s a) = (k a).from s

  pub after : {A B : Type 0} {e : A → A} {g : B → B} {m m' : M A} {k k' : M B} → Eq e m m' → Eq g k k' → Eq g (m >> k) (m' >> k')
  after {A} {B} {e} {g} {m} {m'} {k} {k'} h l = record { from = λ s. ap (λ (x : Res St A). and_then x (λ a. k')) (h.from s) ∙ go (m s) }
    where
      go : (x : Res St A) → and_then (map_r e x) (λ a. k') ≡ map_r g (and_then x (λ a. k))
      go (stop n) = refl
      go (done s a) = l.from s

  pub ret_to : {A : Type 0} {e : A → A} (a b : A) → b ≡ e a → Eq e (ret a) (ret b)
  ret_to a b q = record { from = λ s. ap (done (lab s)) q }

  pub ret-eq : {A : Type 0} {e : A → A} (a : A) → Eq e (ret a) (ret (e a))
  ret-eq a = record { from = λ s. refl }

  pub get-eq : Eq lab get get
  get-eq = record { from = λ s. refl }

  pub refuse-eq : {A : Type 0} {e : A → A} (n : ℕ) → Eq e (refuse n) (refuse n)
  refuse-eq n = record { from = λ s. refl }

  -- choices: by one test, with its outcome at hand, or by two that agree
  pub iff-by : {A : Type 0} {e : A → A} (c : Bool) {m m' k k' : M A} → (T c → Eq e m m') → Eq e k k' → Eq e (iff c m k) (iff c m' k')
  iff-by true h l = h tt
  iff-by false h l = l

  pub iff-eq : {A : Type 0} {e : A → A} (c d : Bool) {m m' k k' : M A} → d ≡ c → Eq e m m' → Eq e k k' → Eq e (iff c m k) (iff d m' k')
  iff-eq {A} {e} c d {m} {m'} {k} {k'} q h l = subst (λ (b : Bool). Eq e (iff c m k) (iff b m' k')) (sym q) (iff-by c (λ t. h) l)

  pub when-by : (c : Bool) {m m' : M Nothing} → (T c → Eq keep m m') → Eq keep (when c m) (when c m')
  when-by c h = iff-by c h (ret-eq tt)

  pub when-eq : (c d : Bool) {m m' : M Nothing} → d ≡ c → Eq keep m m' → Eq keep (when c m) (when d m')
  when-eq c d q h = iff-eq c d q h (ret-eq tt)

  pub elim-by : {A : Type 0} {e : A → A} (c : Bool) (m m' k k' : M A) → (T c → Eq e m m') → Eq e k k' → Eq e (elim c [ true ↦ m | false ↦ k ]) (elim c [ true ↦ m' | false ↦ k' ])
  elim-by true m m' k k' h l = h tt
  elim-by false m m' k k' h l = l

  -- changes of the state
  pub mod-eq : (f : St → St) → ((s : St) → f (lab s) ≡ lab (f s)) → Eq keep (modify f) (modify f)
  mod-eq f h = record { from = λ s. ap {B = Res St Nothing} (λ (x : St). done x tt) (h s) }

  pub mark-eq : (f g : Stack → Stack) → ((st : Stack) → g (on r st) ≡ on r (f st)) → Eq keep (mark f) (mark g)
  mark-eq f g h = record { from = λ s. ap {B = Res St Nothing} (λ (x : Stack). done (Walk.set_stack x s) tt) (h s.stack) }

  records-eq : Eq keep Walk.within_records Walk.within_records
  records-eq = record {
    from = λ s. elim-same (map_r (keep {A = Nothing})) (ltb 512 (Scope.recorded_nodes s.stack) || ltb 256 (Scope.live s.stack)) (ltb 512 (Scope.recorded_nodes (on r s.stack)) || ltb 256 (Scope.live (on r s.stack))) (stop 9) (done s tt) (stop 9) (done (lab s) tt)
        (ap₂ (λ m n. ltb 512 m || ltb 256 n) (recorded-same r s.stack) (live_same r s.stack)) refl refl;
  }

  pub grow-eq : (f g : Stack → Stack) → ((st : Stack) → g (on r st) ≡ on r (f st)) → Eq keep (grow f) (grow g)
  grow-eq f g h = after (mark-eq f g h) records-eq

  -- scopes
  pub within-eq : {A : Type 0} {e : A → A} {enter : M Nothing} (leave : St → St → St) {m m' : M A} → Eq keep enter enter → ((old s : St) → leave (lab old) (lab s) ≡ lab (leave old s)) → Eq e m m' → Eq e (within enter leave m) (within enter leave m')
  within-eq {A} {e} {enter} leave {m} {m'} h l k = record { from = λ s. ap (λ (x : Res St Nothing). and_then x (rest (lab s) m')) (h.from s) ∙ first s (enter s) }
    where
      rest : St → M A → Nothing → M A
      rest old n u = λ s₁. and_then (n s₁) (λ a s₂. done (leave old s₂) a)

      last : (old : St) (x : Res St A) → and_then (map_r e x) (λ a s. done (leave (lab old) s) a) ≡ map_r e (and_then x (λ a s. done (leave old s) a))
      last old (stop n) = refl
      last old (done s a) = ap (λ (y : St). done y (e a)) (l old s)

      first : (old : St) (x : Res St Nothing) → and_then (map_r (keep {A = Nothing}) x) (rest (lab old) m') ≡ map_r e (and_then x (rest old m))
      first old (stop n) = refl
      first old (done s u) = ap (λ (y : Res St A). and_then y (λ a s₂. done (leave (lab old) s₂) a)) (k.from s) ∙ last old (m s)

  opening-eq : (k : Scope.ScopeKind) → Eq keep (Walk.opening k) (Walk.opening k)
  unfolding Walk.opening
  opening-eq k = record {
    from = λ s. elim-same (map_r (keep {A = Nothing})) (leb 32 (length s.stack)) (leb 32 (length (on r s.stack))) (stop 8) (done (Walk.set_var_decl_kind Scope.v_var (Walk.set_stack (Scope.new_scope k ∷ s.stack) s)) tt) (stop 8) (done (Walk.set_var_decl_kind Scope.v_var (Walk.set_stack (Scope.new_scope k ∷ on r s.stack) s)) tt)
        (ap (leb 32) (length-map s.stack _)) refl refl;
  }

  pub in_scope-eq : {A : Type 0} {e : A → A} (k : Scope.ScopeKind) {m m' : M A} → Eq e m m' → Eq e (in_scope k m) (in_scope k m')
  unfolding in_scope
  in_scope-eq k h = within-eq Walk.restore (opening-eq k) (λ old s. ap₂ (λ (x : Stack) (n : ℕ). record { stack = x; changed = s.changed; inlining = old.inlining; is_first_run = s.is_first_run; var_decl_kind = old.var_decl_kind; pat_mode = old.pat_mode; in_test = old.in_test; conds = s.conds; nodes = s.nodes; targeted = s.targeted; ended = Scope.wrap (s.ended + n); replaced = s.replaced }) (close-same r s.stack) (ending-same r s.stack)) h

  deeper-eq : Eq keep Walk.deeper Walk.deeper
  unfolding Walk.deeper
  deeper-eq = record { from = λ s. elim-same (map_r (keep {A = Nothing})) (leb 12 s.conds) (leb 12 s.conds) (stop 8) (done (Walk.set_conds (suc s.conds) s) tt) (stop 8) (done (Walk.set_conds (suc s.conds) (lab s)) tt) refl refl refl }

  pub in_cond-eq : {A : Type 0} {e : A → A} {m m' : M A} → Eq e m m' → Eq e (Walk.in_cond m) (Walk.in_cond m')
  unfolding Walk.in_cond
  in_cond-eq h = within-eq Walk.shallower deeper-eq (λ old s. refl) (in_scope-eq Scope.cond h)

  -- children
  pub each-eq : (f : Tree → M Tree) → ((t : Tree) → Eq rel (f t) (f (rel t))) → (ts : Forest) → Eq rels (each f ts) (each f (rels ts))
  each-eq f h nil = ret-eq nil
  each-eq f h (cons t ts) = bind _ (h t) λ t'. bind _ (each-eq f h ts) λ ts'. ret-eq (cons t' ts')

  pub split-eq : (f : Tree → M Tree) (g g' : Forest → M Forest) → ((t : Tree) → Eq rel (f t) (f (rel t))) → ((ts : Forest) → Eq rels (g ts) (g' (rels ts))) → (ts : Forest) → Eq rels (split f g ts) (split f g' (rels ts))
  split-eq f g g' h k nil = ret-eq nil
  split-eq f g g' h k (cons t ts) = bind _ (h t) λ t'. bind _ (k ts) λ ts'. ret-eq (cons t' ts')

  pub each_but-eq : (f g : Tree → M Tree) → ((t : Tree) → Eq rel (f t) (f (rel t))) → ((t : Tree) → Eq rel (g t) (g (rel t))) → (ts : Forest) → Eq rels (each_but f g ts) (each_but f g (rels ts))
  each_but-eq f g h k nil = ret-eq nil
  each_but-eq f g h k (cons t nil) = bind _ (k t) λ t'. ret-eq (cons t' nil)
  each_but-eq f g h k (cons t (cons u us)) = bind _ (h t) λ t'. bind _ (each_but-eq f g h k (cons u us)) λ ts'. ret-eq (cons t' ts')

  pub on_kids-eq : (g : Forest → M Forest) → ((ts : Forest) → Eq rels (g ts) (g (rels ts))) → (t : Tree) → Eq rel (on_kids g t) (on_kids g (rel t))
  on_kids-eq g h (node k f a ts) = bind _ (h ts) λ ts'. ret-eq (node k f a ts')

  -- by the binding that is found, and by the state
  pub by_look-eq : {A : Type 0} {e : A → A} (look look' : Stack → Option VarInfo) → ((st : Stack) → look' (on r st) ≡ on_ob r (look st)) → (m m' : M A) (k k' : VarInfo → M A) → Eq e m m' → ((b : VarInfo) → Eq e (k b) (k' (on_b r b)))
      → Eq e (λ s. elim (look s.stack) [ none ↦ m s | some b ↦ k b s ]) (λ s. elim (look' s.stack) [ none ↦ m' s | some b ↦ k' b s ])
  by_look-eq {A} {e} look look' q m m' k k' h l = record { from = λ s. ap {B = Res St A} (λ (o : Option VarInfo). elim o [ none ↦ m' (lab s) | some b ↦ k' b (lab s) ]) (q s.stack) ∙ go s (look s.stack) }
    where
      go : (s : St) (o : Option VarInfo) → elim (on_ob r o) as (λ x. Res St A) [ none ↦ m' (lab s) | some b ↦ k' b (lab s) ] ≡ map_r e (elim o [ none ↦ m s | some b ↦ k b s ])
      go s none = h.from s
      go s (some b) = (l b).from s

  pub by_state-eq : {A : Type 0} {e : A → A} (k k' : St → M A) → ((s : St) → Eq e (k s) (k' (lab s))) → Eq e (λ s. k s s) (λ s. k' s s)
  by_state-eq k k' h = record { from = λ s. (h s).from s }

  -- a tree's place taken by another of the same size
  step : ℕ → ℕ → ℕ → ℕ → M Nothing
  step p new old high = λ s.
      let n = (s.nodes + new) - old in
      elim (ltb 201 (p + high)) [ true ↦ stop 8 | false ↦ elim (ltb 1024 n) [ true ↦ stop 9 | false ↦ done (Walk.set_nodes n s) tt ] ]

  step-eq : (p new old high : ℕ) → Eq keep (step p new old high) (step p new old high)
  unfolding step
  step-eq p new old high = record {
    from = λ s.
        let n = (s.nodes + new) - old in
        let x : Res St Nothing = elim (ltb 1024 n) [ true ↦ stop 9 | false ↦ done (Walk.set_nodes n s) tt ] in
        let y : Res St Nothing = elim (ltb 1024 n) [ true ↦ stop 9 | false ↦ done (Walk.set_nodes n (lab s)) tt ] in
        elim-same (map_r (keep {A = Nothing})) (ltb 201 (p + high)) (ltb 201 (p + high)) (stop 8) x (stop 8) y refl refl
        (elim-same (map_r (keep {A = Nothing})) (ltb 1024 n) (ltb 1024 n) (stop 9) (done (Walk.set_nodes n s) tt) (stop 9) (done (Walk.set_nodes n (lab s)) tt) refl refl refl);
  }

  pub replace-eq : (p : ℕ) (old new old' new' : Tree) → count old' ≡ count old → count new' ≡ count new → height new' ≡ height new → Eq keep (Walk.replace p old new) (Walk.replace p old' new')
  unfolding step
  replace-eq p old new old' new' a b c = go (count old') (count new') (height new') a b c
    where
      go : (x y z : ℕ) → x ≡ count old → y ≡ count new → z ≡ height new → Eq keep (step p (count new) (count old) (height new)) (step p y x z)
      go x y z a b c = subst (λ (n : ℕ). Eq keep (step p (count new) (count old) (height new)) (step p y n z)) (sym a) (subst (λ (n : ℕ). Eq keep (step p (count new) (count old) (height new)) (step p n (count old) z)) (sym b)
          (subst (λ (n : ℕ). Eq keep (step p (count new) (count old) (height new)) (step p (count new) (count old) n)) (sym c) (step-eq p (count new) (count old) (height new))))

  pub leave-eq : (t : Tree) → Eq keep (Walk.leave t) (Walk.leave (rel t))
  leave-eq t = record { from = λ s. ap {B = Res St Nothing} (λ (n : ℕ). done (Walk.set_nodes (s.nodes - n) (lab s)) tt) (same_count r t) }

  -- identifiers that are written
  pub write-eq : (force : Bool) (t u : Tree) → num u ≡ num t → form u ≡ form t → Eq keep (Walk.write force t) (Walk.write force u)
  unfolding Walk.write
  write-eq force t u p q = grow-eq (Scope.add_write (num t) (is_args (form t)) force) (Scope.add_write (num u) (is_args (form u)) force) (λ st. ap₂ (λ (i f : ℕ). Scope.add_write i (is_args f) force (on r st)) p q ∙ add_write-same r (num t) (is_args (form t)) force st)

  writes-eq : (force : Bool) (ts : List Tree) → Eq keep (Walk.writes force ts) (Walk.writes force ts)
  unfolding Walk.writes
  writes-eq force [] = ret-eq tt
  writes-eq force (t ∷ ts) = after (write-eq force t t refl refl) (writes-eq force ts)

  pub write_t-eq : (force : Bool) (t : Tree) → Eq keep (Walk.write_tree force t) (Walk.write_tree force (rel t))
  unfolding Walk.write_tree
  write_t-eq force t = subst (λ (l : List Tree). Eq keep (Walk.writes force (ident_list t [])) (Walk.writes force l)) (sym (same-idents r t [])) (writes-eq force (ident_list t []))

  pub write_f-eq : (force : Bool) (ts us : Forest) → us ≡ rels ts → Eq keep (Walk.write_forest force ts) (Walk.write_forest force us)
  unfolding Walk.write_forest
  write_f-eq force ts us e = subst (λ (l : List Tree). Eq keep (Walk.writes force (ident_list_f ts [])) (Walk.writes force l)) (sym (ap (λ (vs : Forest). ident_list_f vs []) e ∙ same-idents_f r ts [])) (writes-eq force (ident_list_f ts []))

  -- a name that is declared
  no_value-same : (v : Init) → Walk.no_value (on_i r v) ≡ Walk.no_value v
  no_value-same Scope.no_init = refl
  no_value-same (Scope.recorded t) = refl
  no_value-same (Scope.seen t) = refl

  pub declare_m-eq : (name name' : Tree) → num name' ≡ num name → form name' ≡ form name → (v v' : Init) → v' ≡ on_i r v → (c : Bool) (k : Scope.VarType) → Eq keep (Walk.declare_m name v c k) (Walk.declare_m name' v' c k)
  unfolding Walk.declare_m
  declare_m-eq name name' p g v v' q c k = subst (λ (x : Init). Eq keep (Walk.declare_m name v c k) (Walk.declare_m name' x c k)) (sym q) (bind (λ s. grow (Scope.declare (is_twice (form name')) (num name') (on_i r v) (Scope.is_var s.var_decl_kind && not c && Walk.no_value (on_i r v) && s.inlining) k)) get-eq λ s.
      let u = Scope.is_var s.var_decl_kind && not c && Walk.no_value v && s.inlining in
      let u' = Scope.is_var s.var_decl_kind && not c && Walk.no_value (on_i r v) && s.inlining in
      grow-eq (Scope.declare (is_twice (form name)) (num name) v u k) (Scope.declare (is_twice (form name')) (num name') (on_i r v) u' k) (λ st. ap (λ (f : ℕ). Scope.declare (is_twice f) (num name') (on_i r v) u' k (on r st)) g ∙ ap₂ (λ (i : ℕ) (b : Bool). Scope.declare (is_twice (form name)) i (on_i r v) b k (on r st)) p (ap (λ (b : Bool). Scope.is_var s.var_decl_kind && not c && b && s.inlining) (no_value-same v)) ∙ declare-same r (is_twice (form name)) (num name) v u k st))

  -- the declarator

  cheap-same : (e : Tree) → is_cheap (rel e) ≡ is_cheap e
  cheap-same (node k f a ts) = refl

  cheap_o-is : (e : Tree) → pick (is_cheap (rel e)) (some (rel e)) none ≡ on_o r (pick (is_cheap e) (some e) none)
  cheap_o-is e = pick_same (on_o r) (is_cheap e) (is_cheap (rel e)) (some e) none (some (rel e)) none (cheap-same e) refl refl

  seen_init-is : (e : Tree) → Scope.seen_init (rel e) ≡ on_i r (Scope.seen_init e)
  seen_init-is e = pick_same (on_i r) (is_cheap e) (is_cheap (rel e)) (Scope.recorded e) (Scope.seen e) (Scope.recorded (rel e)) (Scope.seen (rel e)) (cheap-same e) refl refl

  prevent_m-eq : (i j : ℕ) → j ≡ i → Eq keep (mark (Scope.prevent_inline i)) (mark (Scope.prevent_inline j))
  prevent_m-eq i j p = mark-eq (Scope.prevent_inline i) (Scope.prevent_inline j) (λ st. ap (λ (n : ℕ). Scope.prevent_inline n (on r st)) p ∙ prevent-same r i st)

  each_same : (is : List ℕ) (st : Stack) → Scope.prevent_each is (on r st) ≡ on r (Scope.prevent_each is st)
  each_same [] st = refl
  each_same (i ∷ is) st = ap (Scope.prevent_each is) (prevent-same r i st) ∙ each_same is (Scope.prevent_inline i st)

  prevent_each-eq : (t : Tree) → Eq keep (mark (Scope.prevent_each (bound_names t []))) (mark (Scope.prevent_each (bound_names (rel t) [])))
  prevent_each-eq t = mark-eq (Scope.prevent_each (bound_names t [])) (Scope.prevent_each (bound_names (rel t) [])) (λ st. ap (λ (is : List ℕ). Scope.prevent_each is (on r st)) (same-bound r t []) ∙ each_same (bound_names t []) st)

  module _ (name : Tree) (B : Bound r name) where
    declared-eq : (v v' : Init) → v' ≡ on_i r v → (c : Bool) (k : Scope.VarType) → Eq keep (Walk.declare_m name v c k) (Walk.declare_m (rel name) v' c k)
    declared-eq v v' q c k = declare_m-eq name (rel name) B.number (same-form r name) v v' q c k

    analysis-eq : (v : Option Tree) → Eq keep (Walk.declr_analysis name v) (Walk.declr_analysis (rel name) (on_o r v))
    unfolding Walk.declr_analysis
    analysis-eq none = bind (λ s. when (not (Scope.is_const s.var_decl_kind)) (Walk.declare_m (rel name) Scope.no_init true s.var_decl_kind) >> ret false) get-eq λ s.
        after (when-by (not (Scope.is_const s.var_decl_kind)) (λ t. declared-eq Scope.no_init Scope.no_init refl true s.var_decl_kind)) (ret-eq false)
    analysis-eq (some e) = bind (λ s. iff (Scope.is_const s.var_decl_kind) (when s.is_first_run (Walk.insert_const (num (rel name)) (pick (is_cheap (rel e)) (some (rel e)) none)) >> ret false) (iff (is_cheap (rel e)) (do
      Walk.declare_m (rel name) (Scope.seen_init (rel e)) false s.var_decl_kind
      s₁ ← get
      when (Scope.is_inline_prevented (rel e) s₁.stack) (mark (Scope.prevent_inline (num (rel name))))
      ret false) (do
        Walk.declare_m (rel name) (Scope.seen_init (rel e)) false s.var_decl_kind
        iff (has_this (rel e)) (mark (Scope.prevent_inline (num (rel name))) >> ret true) (ret false)))) get-eq λ s.
        iff-by (Scope.is_const s.var_decl_kind)
        (λ t. after (when-by s.is_first_run (λ u. by_state-eq (λ s₁. grow (Scope.add_const s₁.targeted (num name) (pick (is_cheap e) (some e) none))) (λ s₁. grow (Scope.add_const s₁.targeted (num (rel name)) (pick (is_cheap (rel e)) (some (rel e)) none))) λ s₁. grow-eq (Scope.add_const s₁.targeted (num name) (pick (is_cheap e) (some e) none)) (Scope.add_const s₁.targeted (num (rel name)) (pick (is_cheap (rel e)) (some (rel e)) none))
        (λ st. ap₂ (λ (i : ℕ) (v : Option Tree). Scope.add_const s₁.targeted i v (on r st)) B.number (cheap_o-is e) ∙ add_const-same r s₁.targeted (num name) (pick (is_cheap e) (some e) none) st))) (ret-eq false))
        (iff-eq (is_cheap e) (is_cheap (rel e)) (cheap-same e)
        (after (declared-eq (Scope.seen_init e) (Scope.seen_init (rel e)) (seen_init-is e) false s.var_decl_kind)
        (bind (λ s₁. when (Scope.is_inline_prevented (rel e) s₁.stack) (mark (Scope.prevent_inline (num (rel name)))) >> ret false) get-eq λ s₁. after (when-eq (Scope.is_inline_prevented e s₁.stack) (Scope.is_inline_prevented (rel e) (on r s₁.stack)) (prevented-same r e s₁.stack) (prevent_m-eq (num name) (num (rel name)) B.number)) (ret-eq false)))
        (after (declared-eq (Scope.seen_init e) (Scope.seen_init (rel e)) (seen_init-is e) false s.var_decl_kind)
        (iff-eq (has_this e) (has_this (rel e)) (same-this r e) (after (prevent_m-eq (num name) (num (rel name)) B.number) (ret-eq true)) (ret-eq false))))

    over-eq : (ts : Forest) → Eq keep (Walk.over_m name ts) (Walk.over_m (rel name) (rels ts))
    unfolding Walk.over_m
    over-eq ts = subst (λ (v : Option Tree). Eq keep (Walk.declr_analysis name (head_t (tail_f ts))) (Walk.declr_analysis (rel name) v)) (sym (ap head_t (same-tail r ts) ∙ same_head r (tail_f ts))) (analysis-eq (head_t (tail_f ts)))

    as_ident-prevented : (st : Stack) → Scope.is_inline_prevented (Walk.as_ident (rel name)) (on r st) ≡ Scope.is_inline_prevented (Walk.as_ident name) st
    as_ident-prevented st = ap (λ (t : Tree). Scope.is_inline_prevented t (on r st)) B.ident ∙ prevented-same r (Walk.as_ident name) st

    found-same : (st : Stack) → Scope.find_binding (num (rel name)) (on r st) ≡ on_ob r (Scope.find_binding (num name) st)
    found-same st = ap (λ (i : ℕ). Scope.find_binding i (on r st)) B.number ∙ find-same r (num name) st

    stays_same : (ts : Forest) (st : Stack) → Walk.stays (rel name) (rels ts) (on r st) ≡ Walk.stays name ts st
    unfolding Walk.stays
    stays_same nil st = as_ident-prevented st
    stays_same (cons e es) st = ap₂ (λ (c d : Bool). c || not d) (as_ident-prevented st) (ap (λ (o : Option VarInfo). Scope.has_same_this o (some (rel e))) (found-same st) ∙ same_this-same r (Scope.find_binding (num name) st) (some e))

    read_once-same : (st : Stack) → Walk.read_once? (Scope.find_binding (num (rel name)) (on r st)) ≡ Walk.read_once? (Scope.find_binding (num name) st)
    read_once-same st = ap Walk.read_once? (found-same st) ∙ go (Scope.find_binding (num name) st)
      where
        go : (o : Option VarInfo) → Walk.read_once? (on_ob r o) ≡ Walk.read_once? o
        go none = refl
        go (some b) = refl

    takes-eq : (k : Scope.VarType) (ts : Forest) → Eq keep (Walk.takes k name ts) (Walk.takes k (rel name) (rels ts))
    unfolding Walk.takes
    takes-eq k nil = after (declared-eq Scope.no_init Scope.no_init refl false k) (ret-eq false)
    takes-eq k (cons e es) = after (when-eq (is_ident e) (is_ident (rel e)) (ap (λ (n : ℕ). eqb n 21) (same_kind r e)) (declared-eq (Scope.recorded e) (Scope.recorded (rel e)) refl false k))
        (bind (λ s. iff (Scope.is_inline_prevented (rel e) s.stack) (mark (Scope.prevent_inline (num (rel name))) >> ret false) (
        iff (is_cheap (rel e) || (not (Scope.is_inline_prevented (Walk.as_ident (rel name)) s.stack) && Walk.read_once? (Scope.find_binding (num (rel name)) s.stack))) (do
          Walk.declare_m (rel name) (Scope.recorded (rel e)) false k
          Walk.leave (rel e)
          ret true) (ret false))) get-eq λ s.
        iff-eq (Scope.is_inline_prevented e s.stack) (Scope.is_inline_prevented (rel e) (on r s.stack)) (prevented-same r e s.stack) (after (prevent_m-eq (num name) (num (rel name)) B.number) (ret-eq false))
        (iff-eq (is_cheap e || (not (Scope.is_inline_prevented (Walk.as_ident name) s.stack) && Walk.read_once? (Scope.find_binding (num name) s.stack))) (is_cheap (rel e) || (not (Scope.is_inline_prevented (Walk.as_ident (rel name)) (on r s.stack)) && Walk.read_once? (Scope.find_binding (num (rel name)) (on r s.stack))))
        (ap₂ (λ (c d : Bool). c || d) (cheap-same e) (ap₂ (λ (c d : Bool). not c && d) (as_ident-prevented s.stack) (read_once-same s.stack)))
        (after (declared-eq (Scope.recorded e) (Scope.recorded (rel e)) refl false k) (after (leave-eq e) (ret-eq true))) (ret-eq false)))

  -- names that are written or declared only where they are bindings
  declare_name-eq : (v : Option Tree) → Eq keep (Walk.declare_name v) (Walk.declare_name (on_o r v))
  unfolding Walk.declare_name
  declare_name-eq none = ret-eq tt
  declare_name-eq (some (node k f a ts)) = (let t = node k f a ts in bind (λ s. when (eqb k 20 && not s.inlining) (Walk.declare_m (rel t) Scope.no_init true Scope.v_var)) get-eq λ s.
      when-by (eqb k 20 && not s.inlining) λ b. declare_m-eq t (rel t) (bound r t (and_left (eqb k 20) (not s.inlining) b)).number refl Scope.no_init Scope.no_init refl true Scope.v_var)

  write_name-eq : (v : Option Tree) → Eq keep (Walk.write_name v) (Walk.write_name (on_o r v))
  unfolding Walk.write_name
  write_name-eq none = ret-eq tt
  write_name-eq (some (node k f a ts)) = (let t = node k f a ts in when-by (eqb k 20) λ b. write-eq true t (rel t) (bound r t b).number refl)

  keep_t-eq : (t : Tree) → Eq rel (ret t) (ret (rel t))
  keep_t-eq t = ret-eq t

  keep_f-eq : (ts : Forest) → Eq rels (ret ts) (ret (rels ts))
  keep_f-eq ts = ret-eq ts

  barrier_m-eq : Eq keep Walk.store_inline_barrier_m Walk.store_inline_barrier_m
  unfolding Walk.store_inline_barrier_m
  barrier_m-eq = by_state-eq (λ s. iff s.inlining (ret tt) (mark Scope.store_inline_barrier)) (λ s. iff s.inlining (ret tt) (mark Scope.store_inline_barrier)) λ s. iff-by s.inlining (λ t. ret-eq tt) (mark-eq Scope.store_inline_barrier Scope.store_inline_barrier (barrier-same r))

  -- the handlers, over walks that are blind
  record EqW (w : Walks) : Type 0 where
    full : (p : ℕ) (t : Tree) → Eq rel (w.full p t) (w.full p (rel t))
    bare : (p : ℕ) (t : Tree) → Eq rel (w.bare p t) (w.bare p (rel t))
    inner : (p : ℕ) (t : Tree) → Eq rel (w.inner p t) (w.inner p (rel t))

  module _ (w : Walks) (W : EqW w) where
    all-eq : (p : ℕ) (ts : Forest) → Eq rels (each (w.full p) ts) (each (w.full p) (rels ts))
    all-eq p = each-eq (w.full p) (W.full p)

    stmts-eq : (p : ℕ) (ts : Forest) → Eq rels (visit_mut_stmts w p ts) (visit_mut_stmts w p (rels ts))
    unfolding visit_mut_stmts
    stmts-eq p ts = bind (λ s. iff s.inlining (do
      modify (Walk.set_inlining false)
      ts₁ ← each (w.full p) (rels ts)
      modify (Walk.set_inlining true)
      each (w.full p) ts₁) (each (w.full p) (rels ts))) get-eq λ s. iff-by s.inlining
        (λ t. after (mod-eq (Walk.set_inlining false) (λ s. refl)) (bind _ (all-eq p ts) λ ts₁. after (mod-eq (Walk.set_inlining true) (λ s. refl)) (all-eq p ts₁)))
        (all-eq p ts)

    plain-eq : (p : ℕ) (t : Tree) → Eq rel (plain w p t) (plain w p (rel t))
    plain-eq p t = on_kids-eq (each (w.full (suc p))) (all-eq (suc p)) t

    script-eq : (p : ℕ) (t : Tree) → Eq rel (Walk.script_walk w p t) (Walk.script_walk w p (rel t))
    unfolding Walk.script_walk
    script-eq p t = on_kids-eq (visit_mut_stmts w (suc p)) (stmts-eq (suc p)) t

    block-eq : (p : ℕ) (t : Tree) → Eq rel (Walk.visit_mut_block_stmt w p t) (Walk.visit_mut_block_stmt w p (rel t))
    unfolding Walk.visit_mut_block_stmt
    block-eq p t = in_scope-eq Scope.block (on_kids-eq (visit_mut_stmts w (suc p)) (stmts-eq (suc p)) t)

    branch-eq : (p : ℕ) (k : Scope.ScopeKind) (t : Tree) → Eq rel (Walk.visit_with_child w p k t) (Walk.visit_with_child w p k (rel t))
    unfolding Walk.visit_with_child
    branch-eq p k t = in_scope-eq k (W.bare p t)

    decl-eq : (p : ℕ) (t : Tree) → Eq rel (Walk.visit_mut_var_decl w p t) (Walk.visit_mut_var_decl w p (rel t))
    unfolding Walk.visit_mut_var_decl
    decl-eq p (node k f a ts) = after (mod-eq (Walk.set_var_decl_kind (Walk.decl_kind_of f)) (λ s. refl)) (plain-eq p (node k f a ts))

    name_last-eq : (p : ℕ) (ts : Forest) → Eq rels (Walk.name_last w p ts) (Walk.name_last w p (rels ts))
    name_last-eq p ts = split-eq (w.full (suc p)) ret ret (W.full (suc p)) keep_f-eq ts

    rest_first-eq : (p : ℕ) (ts : Forest) → Eq rels (split ret (each (w.full (suc p))) ts) (split ret (each (w.full (suc p))) (rels ts))
    rest_first-eq p ts = split-eq ret (each (w.full (suc p))) (each (w.full (suc p))) keep_t-eq (all-eq (suc p)) ts

    gone-eq : (gone : Bool) (us : Forest) → Eq rels (iff gone (ret (tail_f us)) (ret us)) (iff gone (ret (tail_f (rels us))) (ret (rels us)))
    gone-eq gone us = iff-by gone (λ t. ret_to (tail_f us) (tail_f (rels us)) (same-tail r us)) (ret-eq us)

    inlining-eq : (p : ℕ) (k : Scope.VarType) (name : Tree) → Bound r name → (ts : Forest) → Eq rels (Walk.declr_inlining w p k name ts) (Walk.declr_inlining w p k (rel name) (rels ts))
    unfolding Walk.declr_inlining
    inlining-eq p k name B ts = by_state-eq (λ s. iff (Walk.stays name ts s.stack) (ret ts) (do
      us ← split (w.full (suc p)) ret ts
      gone ← Walk.takes k name us
      iff gone (ret (tail_f us)) (ret us))) (λ s. iff (Walk.stays (rel name) (rels ts) s.stack) (ret (rels ts)) (do
        us ← split (w.full (suc p)) ret (rels ts)
        gone ← Walk.takes k (rel name) us
        iff gone (ret (tail_f us)) (ret us))) λ s.
        iff-eq (Walk.stays name ts s.stack) (Walk.stays (rel name) (rels ts) (on r s.stack)) (stays_same name B ts s.stack) (ret-eq ts)
        (bind (λ us. Walk.takes k (rel name) us >>= λ gone. iff gone (ret (tail_f us)) (ret us)) (name_last-eq p ts) λ us. bind (λ gone. iff gone (ret (tail_f (rels us))) (ret (rels us))) (takes-eq name B k us) λ gone. gone-eq gone us)

    declr_some-eq : (p : ℕ) (name : Tree) → Bound r name → (inl : Bool) (k : Scope.VarType) (ts : Forest) → Eq rels (Walk.declr_to w p (some name) inl k ts) (Walk.declr_to w p (some (rel name)) inl k (rels ts))
    unfolding Walk.declr_to
    declr_some-eq p name B inl k ts = iff-by inl
        (λ t. iff-by (Scope.is_const k) (λ u. name_last-eq p ts) (split-eq ret (Walk.declr_inlining w p k name) (Walk.declr_inlining w p k (rel name)) keep_t-eq (inlining-eq p k name B) ts))
        (bind (λ over. iff over (ret (rels ts)) (name_last-w (rels ts))) (over-eq name B ts) λ over. iff-by over (λ t. ret-eq ts) (name_last-eq p ts))
      where
        name_last-w : Forest → M Forest
        name_last-w us = Walk.name_last w p us

    declr_to-eq : (p : ℕ) (inl : Bool) (k : Scope.VarType) (ts : Forest) → Eq rels (Walk.declr_to w p (Walk.head_bind ts) inl k ts) (Walk.declr_to w p (Walk.head_bind (rels ts)) inl k (rels ts))
    unfolding Walk.declr_to
    declr_to-eq p inl k nil = name_last-eq p nil
    declr_to-eq p inl k (cons (node l f a us) ts) = go (eqb l 20) refl
      where
        t : Tree
        t = node l f a us

        go : (b : Bool) → eqb l 20 ≡ b → Eq rels (Walk.declr_to w p (pick b (some t) none) inl k (cons t ts)) (Walk.declr_to w p (pick b (some (rel t)) none) inl k (rels (cons t ts)))
        go true e = declr_some-eq p t (bound r t (is_T (eqb l 20) e)) inl k (cons t ts)
        go false e = name_last-eq p (cons t ts)

    declr-eq : (p : ℕ) (t : Tree) → Eq rel (Walk.visit_mut_var_declarator w p t) (Walk.visit_mut_var_declarator w p (rel t))
    unfolding Walk.visit_mut_var_declarator
    declr-eq p t = on_kids-eq _ (λ ts. bind (λ us. modify (Walk.set_pat_mode Walk.declaring) >> (λ s. Walk.declr_to w p (Walk.head_bind us) s.inlining s.var_decl_kind us s)) (rest_first-eq p ts) λ us. after (mod-eq (Walk.set_pat_mode Walk.declaring) (λ s. refl))
        (by_state-eq (λ s. Walk.declr_to w p (Walk.head_bind us) s.inlining s.var_decl_kind us) (λ s. Walk.declr_to w p (Walk.head_bind (rels us)) s.inlining s.var_decl_kind (rels us)) λ s. declr_to-eq p s.inlining s.var_decl_kind us)) t

    function-eq : (p : ℕ) (named : Bool) (ts : Forest) → Eq rels (Walk.visit_mut_function w p named ts) (Walk.visit_mut_function w p named (rels ts))
    unfolding Walk.visit_mut_function
    function-eq p named ts = in_scope-eq (Scope.fn named) (after (mod-eq (Walk.set_pat_mode Walk.as_param) (λ s. refl)) (each_but-eq (w.full (suc p)) (w.inner (suc p)) (W.full (suc p)) (W.inner (suc p)) ts))

    named-eq : (p : ℕ) (named : Bool) (t : Tree) → Eq rel (on_kids (split ret (Walk.visit_mut_function w p named)) t) (on_kids (split ret (Walk.visit_mut_function w p named)) (rel t))
    named-eq p named t = on_kids-eq (split ret (Walk.visit_mut_function w p named)) (split-eq ret (Walk.visit_mut_function w p named) (Walk.visit_mut_function w p named) keep_t-eq (function-eq p named)) t

    headed : (f : Option Tree → M Nothing) → ((v : Option Tree) → Eq keep (f v) (f (on_o r v))) → (ts : Forest) → Eq keep (f (head_t ts)) (f (head_t (rels ts)))
    headed f h ts = subst (λ (v : Option Tree). Eq keep (f (head_t ts)) (f v)) (sym (same_head r ts)) (h (head_t ts))

    fun-eq : (p : ℕ) (t : Tree) → Eq rel (Walk.visit_mut_fn_decl w p t) (Walk.visit_mut_fn_decl w p (rel t))
    unfolding Walk.visit_mut_fn_decl
    fun-eq p (node k f a ts) = after (headed Walk.declare_name declare_name-eq ts) (named-eq p true (node k f a ts))

    fun_expr-eq : (p : ℕ) (t : Tree) → Eq rel (Walk.visit_mut_fn_expr w p t) (Walk.visit_mut_fn_expr w p (rel t))
    unfolding Walk.visit_mut_fn_expr
    fun_expr-eq p (node k f a ts) = iff-by (eqb f 1) (λ t. after (headed Walk.write_name write_name-eq ts) (named-eq p false (node k f a ts))) (on_kids-eq (Walk.visit_mut_function w p false) (function-eq p false) (node k f a ts))

    arrow-eq : (p : ℕ) (t : Tree) → Eq rel (Walk.visit_mut_arrow_expr w p t) (Walk.visit_mut_arrow_expr w p (rel t))
    unfolding Walk.visit_mut_arrow_expr
    arrow-eq p t = in_scope-eq (Scope.fn false) (plain-eq p t)

    tested_eq : (p : ℕ) (t : Tree) → Eq rel (Walk.tested w p t) (Walk.tested w p (rel t))
    unfolding Walk.tested
    tested_eq p t = bind (λ s. modify (Walk.set_in_test true) >> w.full p (rel t) >>= λ t'. modify (Walk.set_in_test s.in_test) >> ret t') get-eq λ s.
        after (mod-eq (Walk.set_in_test true) (λ s. refl)) (bind _ (W.full p t) λ t'. after (mod-eq (Walk.set_in_test s.in_test) (λ s. refl)) (ret-eq t'))

    if-eq : (p : ℕ) (t : Tree) → Eq rel (Walk.visit_mut_if_stmt w p t) (Walk.visit_mut_if_stmt w p (rel t))
    unfolding Walk.visit_mut_if_stmt
    if-eq p t = on_kids-eq _ (split-eq (Walk.tested w (suc p)) (each (Walk.visit_with_child w (suc p) Scope.cond)) (each (Walk.visit_with_child w (suc p) Scope.cond)) (tested_eq (suc p)) (each-eq (Walk.visit_with_child w (suc p) Scope.cond) (branch-eq (suc p) Scope.cond))) t

    loop-eq : (p : ℕ) (ts : Forest) → Eq rels (each_but (w.full (suc p)) (Walk.visit_with_child w (suc p) Scope.loop) ts) (each_but (w.full (suc p)) (Walk.visit_with_child w (suc p) Scope.loop) (rels ts))
    loop-eq p ts = each_but-eq (w.full (suc p)) (Walk.visit_with_child w (suc p) Scope.loop) (W.full (suc p)) (branch-eq (suc p) Scope.loop) ts

    heads-eq : (ts : Forest) → Eq keep (Walk.write_forest true (Walk.but_last ts)) (Walk.write_forest true (Walk.but_last (rels ts)))
    heads-eq ts = write_f-eq true (Walk.but_last ts) (Walk.but_last (rels ts)) (same-but_last r ts)

    while-eq : (p : ℕ) (t : Tree) → Eq rel (Walk.visit_mut_while_stmt w p t) (Walk.visit_mut_while_stmt w p (rel t))
    unfolding Walk.visit_mut_while_stmt
    while-eq p (node k f a ts) = after (heads-eq ts) (on_kids-eq _ (loop-eq p) (node k f a ts))

    for-eq : (p : ℕ) (t : Tree) → Eq rel (Walk.visit_mut_for_stmt w p t) (Walk.visit_mut_for_stmt w p (rel t))
    unfolding Walk.visit_mut_for_stmt
    for-eq p (node k f a ts) = after (heads-eq ts) (bind _ (on_kids-eq _ (loop-eq p) (node k f a ts)) λ t'. after (when-by (eqb f 0) (λ b. barrier_m-eq)) (ret-eq t'))

    for_in-eq : (p : ℕ) (t : Tree) → Eq rel (Walk.visit_mut_for_in_stmt w p t) (Walk.visit_mut_for_in_stmt w p (rel t))
    unfolding Walk.visit_mut_for_in_stmt
    for_in-eq p t = after (mod-eq (Walk.set_pat_mode Walk.as_param) (λ s. refl)) (on_kids-eq _ (split-eq _ _ _
        (λ l. bind _ (W.full (suc p) l) λ l'. after (write_t-eq true l') (ret-eq l'))
        (λ ts. after (heads-eq ts) (loop-eq p ts))) t)

    try-eq : (p : ℕ) (t : Tree) → Eq rel (Walk.visit_mut_try_stmt w p t) (Walk.visit_mut_try_stmt w p (rel t))
    unfolding Walk.visit_mut_try_stmt
    try-eq p t = on_kids-eq _ (split-eq _ _ _ (λ b. after (write_t-eq true b) (ret-eq b)) (each-eq _ (λ h. iff-eq (Walk.is_catch h) (Walk.is_catch (rel h)) (ap (λ (n : ℕ). eqb n 17) (same_kind r h)) (W.full (suc p) h) (ret-eq h)))) t

    catch_param-eq : (p : ℕ) (b : Tree) → Eq rel (Walk.catch_param w p b) (Walk.catch_param w p (rel b))
    unfolding Walk.catch_param
    catch_param-eq p b = bind _ (W.full p b) λ b'. bind (λ s. when (not s.inlining) (mark (Scope.prevent_each (bound_names (rel b') []))) >> ret (rel b')) get-eq λ s.
        after (when-by (not s.inlining) (λ t. prevent_each-eq b')) (ret-eq b')

    catch-eq : (p : ℕ) (t : Tree) → Eq rel (Walk.visit_mut_catch_clause w p t) (Walk.visit_mut_catch_clause w p (rel t))
    unfolding Walk.visit_mut_catch_clause
    catch-eq p t = in_scope-eq Scope.block (after (mod-eq (Walk.set_pat_mode Walk.as_catch) (λ s. refl)) (on_kids-eq _ (each_but-eq (Walk.catch_param w (suc p)) (w.full (suc p)) (catch_param-eq (suc p)) (W.full (suc p))) t))

    case-eq : (p : ℕ) (t : Tree) → Eq rel (Walk.visit_mut_switch_case w p t) (Walk.visit_mut_switch_case w p (rel t))
    unfolding Walk.visit_mut_switch_case
    case-eq p (node k f a ts) = in_scope-eq Scope.block (iff-by (eqb f 1) (λ t. on_kids-eq _ (split-eq (w.full (suc p)) (visit_mut_stmts w (suc p)) (visit_mut_stmts w (suc p)) (W.full (suc p)) (stmts-eq (suc p))) (node k f a ts)) (on_kids-eq _ (stmts-eq (suc p)) (node k f a ts)))

    unary-eq : (p : ℕ) (t : Tree) → Eq rel (Walk.visit_mut_unary_expr w p t) (Walk.visit_mut_unary_expr w p (rel t))
    unfolding Walk.visit_mut_unary_expr
    unary-eq p (node k f a ts) = iff-by (eqb f 6) (λ t. after (write_f-eq true ts (rels ts) refl) (ret-eq (node k f a ts))) (plain-eq p (node k f a ts))

    update-eq : (p : ℕ) (t : Tree) → Eq rel (Walk.visit_mut_update_expr w p t) (Walk.visit_mut_update_expr w p (rel t))
    unfolding Walk.visit_mut_update_expr
    update-eq p (node k f a ts) = after (write_f-eq true ts (rels ts) refl) (ret-eq (node k f a ts))

    callee-eq : (p : ℕ) (f : Tree) → Eq rel (do
      f' ← w.full p f
      s ← get
      when (not s.inlining) (mark (Scope.mark_this_sensitive (Scope.ident_of (some f'))))
      ret f') (do
        f' ← w.full p (rel f)
        s ← get
        when (not s.inlining) (mark (Scope.mark_this_sensitive (Scope.ident_of (some f'))))
        ret f')
    callee-eq p f = bind (λ f'. get >>= λ s. when (not s.inlining) (mark (Scope.mark_this_sensitive (Scope.ident_of (some f')))) >> ret f') (W.full p f) λ f'.
        bind (λ s. when (not s.inlining) (mark (Scope.mark_this_sensitive (Scope.ident_of (some (rel f'))))) >> ret (rel f')) get-eq λ s.
        after (when-by (not s.inlining) (λ t. mark-eq (Scope.mark_this_sensitive (Scope.ident_of (some f'))) (Scope.mark_this_sensitive (Scope.ident_of (some (rel f')))) (λ st. ap (λ (i : Option ℕ). Scope.mark_this_sensitive i (on r st)) (ident_of-same r (some f')) ∙ sensitive-same r (Scope.ident_of (some f')) st))) (ret-eq f')

    call-eq : (c : Bool) (p : ℕ) (t : Tree) → Eq rel (Walk.visit_mut_call_expr c w p t) (Walk.visit_mut_call_expr c w p (rel t))
    unfolding Walk.visit_mut_call_expr
    call-eq c p t = bind _ (on_kids-eq _ (split-eq _ _ _ (callee-eq (suc p)) (λ ts. after (when-by c (λ b. write_f-eq false ts (rels ts) refl)) (all-eq (suc p) ts))) t) λ t'. after barrier_m-eq (ret-eq t')

    pat-eq : (p : ℕ) (t : Tree) → Eq rel (Walk.visit_mut_pat w p t) (Walk.visit_mut_pat w p (rel t))
    unfolding Walk.visit_mut_pat Walk.pat_by
    pat-eq p (node k f a ts) = bind (λ s. when (eqb k 20) (Walk.pat_by s.pat_mode (rel t)) >> ret (rel t)) get-eq λ s. after (when-by (eqb k 20) λ b. by s.pat_mode (bound r t b)) (ret-eq t)
      where
        t : Tree
        t = node k f a ts

        by : (m : Walk.PatMode) → Bound r t → Eq keep (Walk.pat_by m t) (Walk.pat_by m (rel t))
        by Walk.as_param B = declare_m-eq t (rel t) B.number (same-form r t) (Scope.recorded (Walk.as_ident t)) (Scope.recorded (Walk.as_ident (rel t))) (ap Scope.recorded B.ident) false Scope.param
        by Walk.as_catch B = declare_m-eq t (rel t) B.number (same-form r t) (Scope.recorded (Walk.as_ident t)) (Scope.recorded (Walk.as_ident (rel t))) (ap Scope.recorded B.ident) false Scope.v_var
        by Walk.declaring B = ret-eq tt
        by Walk.assigning B = by_look-eq (Scope.find_binding_from_current (num t)) (Scope.find_binding_from_current (num (rel t))) (λ st. ap (λ (i : ℕ). Scope.find_binding_from_current i (on r st)) B.number ∙ here-same r (num t) st)
            (Walk.write false t) (Walk.write false (rel t)) (λ c. ret tt) (λ c. ret tt) (write-eq false t (rel t) B.number refl) (λ c. ret-eq tt)

    -- the value of an assignment, stored
    store-eq : (l : Tree) → Bound r l → (v : Option Tree) → Eq keep (Walk.store_o l v) (Walk.store_o (rel l) (on_o r v))
    store-eq l B none = ret-eq tt
    store-eq l B (some e) = by_look-eq (Scope.find_binding (num l)) (Scope.find_binding (num (rel l))) (found-same l B) (ret tt) (ret tt)
        (λ b. iff (Scope.var_inline_prevented b) (ret tt) (grow (Scope.change (num l) (Scope.with_value (pick (is_cheap e) (some e) none)))))
        (λ b. iff (Scope.var_inline_prevented b) (ret tt) (grow (Scope.change (num (rel l)) (Scope.with_value (pick (is_cheap (rel e)) (some (rel e)) none)))))
        (ret-eq tt) (λ b. iff-eq (Scope.var_inline_prevented b) (Scope.var_inline_prevented (on_b r b)) (var_prevented-same r b) (ret-eq tt)
        (grow-eq (Scope.change (num l) (Scope.with_value (pick (is_cheap e) (some e) none))) (Scope.change (num (rel l)) (Scope.with_value (pick (is_cheap (rel e)) (some (rel e)) none))) (λ st.
        ap (λ (i : ℕ). Scope.change i (Scope.with_value (pick (is_cheap (rel e)) (some (rel e)) none)) (on r st)) B.number
        ∙ change-same r (num l) (Scope.with_value (pick (is_cheap e) (some e) none)) (Scope.with_value (pick (is_cheap (rel e)) (some (rel e)) none)) (λ c. ap (λ (v : Option Tree). Scope.with_value v c) (cheap_o-is e)) st)))

    assign_first-eq : (f : ℕ) (ts : Forest) → Eq keep (Walk.assign_first f ts) (Walk.assign_first f (rels ts))
    unfolding Walk.assign_first
    assign_first-eq f nil = ret-eq tt
    assign_first-eq f (cons l rs) = iff-by (eqb f 0)
        (λ t. after (write_t-eq false l) (after (write_f-eq false rs (rels rs) refl) (when-eq (is_member l) (is_member (rel l)) (ap (λ (n : ℕ). eqb n 37 || eqb n 38) (same_kind r l)) (after (write_t-eq true l) (write_f-eq true rs (rels rs) refl)))))
        (after (write_t-eq true l) (write_f-eq true rs (rels rs) refl))

    assign_last-eq : (ts : Forest) → Eq keep (Walk.assign_last ts) (Walk.assign_last (rels ts))
    unfolding Walk.assign_last
    assign_last-eq nil = ret-eq tt
    assign_last-eq (cons (node k f a us) rs) = (let l = node k f a us in bind (λ s. iff (Scope.prevented_o (head_t (rels rs)) s.stack) (mark (Scope.prevent_each (bound_names (rel l) []))) (when (eqb k 20) (do
      Walk.write false (rel l)
      Walk.store_o (rel l) (head_t (rels rs))))) get-eq λ s.
        iff-eq (Scope.prevented_o (head_t rs) s.stack) (Scope.prevented_o (head_t (rels rs)) (on r s.stack)) (ap (λ (v : Option Tree). Scope.prevented_o v (on r s.stack)) (same_head r rs) ∙ prevented_o-same r (head_t rs) s.stack)
        (prevent_each-eq l)
        (when-by (eqb k 20) (λ b. after (write-eq false l (rel l) (bound r l b).number refl) (subst (λ (v : Option Tree). Eq keep (Walk.store_o l (head_t rs)) (Walk.store_o (rel l) v)) (sym (same_head r rs)) (store-eq l (bound r l b) (head_t rs))))))

    assign_kids-eq : (p f : ℕ) (pat : Bool) (ts : Forest) → Eq rels (Walk.assign_kids w p f pat ts) (Walk.assign_kids w p f pat (rels ts))
    unfolding Walk.assign_kids
    assign_kids-eq p f pat ts = after (assign_first-eq f ts) (bind _ (iff-by pat (λ t. each-eq _ (W.full (suc p)) ts) (rest_first-eq p ts)) λ us. after (assign_last-eq us) (ret-eq us))

    assign-eq : (p : ℕ) (t : Tree) → Eq rel (Walk.visit_mut_assign_expr w p t) (Walk.visit_mut_assign_expr w p (rel t))
    unfolding Walk.visit_mut_assign_expr
    assign-eq p (node k f a ts) =
        let t = node k f a ts in
        let pat = Walk.to_pattern t in
        after (mod-eq (Walk.set_pat_mode Walk.assigning) (λ s. refl)) (subst (λ (b : Bool). Eq rel (on_kids (Walk.assign_kids w p f pat) t) (on_kids (Walk.assign_kids w p f b) (rel t))) (sym (pattern-same ts)) (on_kids-eq (Walk.assign_kids w p f pat) (assign_kids-eq p f pat) t))
      where
        pattern-same : (ts : Forest) → (eqb f 0 && Walk.pattern_o (head_t (rels ts))) ≡ (eqb f 0 && Walk.pattern_o (head_t ts))
        pattern-same nil = refl
        pattern-same (cons t us) = ap (λ (n : ℕ). eqb f 0 && (eqb n 45 || eqb n 46)) (same_kind r t)

    handle-eq : (h : Walk.Handler) (p : ℕ) (t : Tree) → Eq rel (Walk.handle h w p t) (Walk.handle h w p (rel t))
    unfolding Walk.handle
    handle-eq Walk.h_plain p t = plain-eq p t
    handle-eq Walk.h_script p t = script-eq p t
    handle-eq Walk.h_block p t = block-eq p t
    handle-eq Walk.h_decl p t = decl-eq p t
    handle-eq Walk.h_declr p t = declr-eq p t
    handle-eq Walk.h_fun p t = fun-eq p t
    handle-eq Walk.h_if p t = if-eq p t
    handle-eq Walk.h_while p t = while-eq p t
    handle-eq Walk.h_for p t = for-eq p t
    handle-eq Walk.h_for_in p t = for_in-eq p t
    handle-eq Walk.h_try p t = try-eq p t
    handle-eq Walk.h_catch p t = catch-eq p t
    handle-eq Walk.h_case p t = case-eq p t
    handle-eq Walk.h_pat p t = pat-eq p t
    handle-eq Walk.h_unary p t = unary-eq p t
    handle-eq Walk.h_update p t = update-eq p t
    handle-eq Walk.h_assign p t = assign-eq p t
    handle-eq Walk.h_call p t = call-eq true p t
    handle-eq Walk.h_new p t = call-eq false p t
    handle-eq Walk.h_fun_expr p t = fun_expr-eq p t
    handle-eq Walk.h_arrow p t = arrow-eq p t

    own_eq : (p : ℕ) (t : Tree) → Eq rel (Walk.own w p t) (Walk.own w p (rel t))
    unfolding Walk.own
    own_eq p (node k f a ts) = handle-eq (Walk.handler_of (kind_of k)) p (node k f a ts)

    -- the steps after a node's own handler

    logical-eq : (p : ℕ) (t : Tree) → Eq rel (Walk.logical w p t) (Walk.logical w p (rel t))
    unfolding Walk.logical
    logical-eq p (node k f a ts) = iff-by (eqb k 32 && ltb f 2) (λ t. on_kids-eq _ (split-eq ret _ _ keep_t-eq (each-eq _ (λ e. in_cond-eq (W.bare (suc p) e)))) (node k f a ts)) (ret-eq (node k f a ts))

    after_sides-eq : (p : ℕ) (t : Tree) (l e : Option Tree) → Eq rel (Walk.after_sides p t l e) (Walk.after_sides p (rel t) (on_o r l) (on_o r e))
    unfolding Walk.after_sides
    after_sides-eq p t none e = ret-eq t
    after_sides-eq p t (some l) none = ret-eq t
    after_sides-eq p t (some (node k f a ts)) (some e) = iff-by (eqb k 20) (λ b. first (bound r l b)) (ret-eq t)
      where
        l : Tree
        l = node k f a ts

        value : Tree → VarInfo → VarInfo
        value u c = Scope.defined (Scope.with_value (some u) c)

        first : Bound r l → Eq rel (Walk.first_value p t l e) (Walk.first_value p (rel t) (rel l) (rel e))
        first B = by_state-eq (λ s s₁. elim (Scope.find_binding_from_current (num l) s₁.stack) [
          | none ↦ done s₁ t
          | some b ↦ iff (b.is_undefined && not (Scope.var_inline_prevented b) && not (Scope.is_inline_prevented e s.stack)) (grow (Scope.change (num l) (value e)) >> Walk.replace p t e >> ret e) (ret t) s₁
        ]) (λ s s₁. elim (Scope.find_binding_from_current (num (rel l)) s₁.stack) [
          | none ↦ done s₁ (rel t)
          | some b ↦ iff (b.is_undefined && not (Scope.var_inline_prevented b) && not (Scope.is_inline_prevented (rel e) s.stack)) (grow (Scope.change (num (rel l)) (value (rel e))) >> Walk.replace p (rel t) (rel e) >> ret (rel e)) (ret (rel t)) s₁
        ]) λ s. by_look-eq (Scope.find_binding_from_current (num l)) (Scope.find_binding_from_current (num (rel l))) (λ st. ap (λ (i : ℕ). Scope.find_binding_from_current i (on r st)) B.number ∙ here-same r (num l) st) (ret t) (ret (rel t))
            (λ b. iff (b.is_undefined && not (Scope.var_inline_prevented b) && not (Scope.is_inline_prevented e s.stack)) (grow (Scope.change (num l) (value e)) >> Walk.replace p t e >> ret e) (ret t))
            (λ b. iff (b.is_undefined && not (Scope.var_inline_prevented b) && not (Scope.is_inline_prevented (rel e) (on r s.stack))) (grow (Scope.change (num (rel l)) (value (rel e))) >> Walk.replace p (rel t) (rel e) >> ret (rel e)) (ret (rel t)))
            (ret-eq t) (λ b. iff-eq (b.is_undefined && not (Scope.var_inline_prevented b) && not (Scope.is_inline_prevented e s.stack)) (b.is_undefined && not (Scope.var_inline_prevented (on_b r b)) && not (Scope.is_inline_prevented (rel e) (on r s.stack)))
            (ap₂ (λ (c d : Bool). b.is_undefined && not c && not d) (var_prevented-same r b) (prevented-same r e s.stack))
            (after (grow-eq (Scope.change (num l) (value e)) (Scope.change (num (rel l)) (value (rel e))) (λ st. ap (λ (i : ℕ). Scope.change i (value (rel e)) (on r st)) B.number ∙ change-same r (num l) (value e) (value (rel e)) (λ c. refl) st))
            (after (replace-eq p t e (rel t) (rel e) (same_count r t) (same_count r e) (same-height r e)) (ret-eq e))) (ret-eq t))

    after_assign-eq : (p : ℕ) (t : Tree) → Eq rel (Walk.after_assign p t) (Walk.after_assign p (rel t))
    unfolding Walk.after_assign
    after_assign-eq p (node k f a ts) = (let t = node k f a ts in
        subst (λ (v : Option Tree). Eq rel (Walk.after_sides p t (head_t ts) (head_t (tail_f ts))) (Walk.after_sides p (rel t) v (head_t (tail_f (rels ts))))) (sym (same_head r ts))
        (subst (λ (v : Option Tree). Eq rel (Walk.after_sides p t (head_t ts) (head_t (tail_f ts))) (Walk.after_sides p (rel t) (on_o r (head_t ts)) v)) (sym (ap head_t (same-tail r ts) ∙ same_head r (tail_f ts))) (after_sides-eq p t (head_t ts) (head_t (tail_f ts)))))

    -- an identifier
    module _ (p : ℕ) (t : Tree) (N : num (rel t) ≡ num t) where
      look-same : (st : Stack) → Scope.find_binding (num (rel t)) (on r st) ≡ on_ob r (Scope.find_binding (num t) st)
      look-same st = ap (λ (i : ℕ). Scope.find_binding i (on r st)) N ∙ find-same r (num t) st

      cheap?-same : (v : Option Tree) → Walk.cheap_o (on_o r v) ≡ Walk.cheap_o v
      cheap?-same none = refl
      cheap?-same (some e) = cheap-same e

      tests : (t : Tree) → VarInfo → M Nothing
      tests u b = when (not (Walk.cheap_o b.value)) (mark (Scope.prevent_inline (num u)))

      ident_analysis-eq : Eq rel (Walk.ident_analysis t) (Walk.ident_analysis (rel t))
      unfolding Walk.ident_analysis tests
      ident_analysis-eq = bind (λ s. when s.in_test (λ s₁. elim (Scope.find_binding (num (rel t)) s₁.stack) [ none ↦ done s₁ tt | some b ↦ tests (rel t) b s₁ ]) >> mark (Scope.add_read (num (rel t)) (eqb (form (rel t)) 1)) >> ret (rel t)) get-eq λ s.
          after (when-by s.in_test (λ u. by_look-eq (Scope.find_binding (num t)) (Scope.find_binding (num (rel t))) look-same (ret tt) (ret tt) (tests t) (tests (rel t)) (ret-eq tt)
          (λ b. when-eq (not (Walk.cheap_o b.value)) (not (Walk.cheap_o (on_o r b.value))) (ap not (cheap?-same b.value)) (prevent_m-eq (num t) (num (rel t)) N))))
          (after (mark-eq (Scope.add_read (num t) (eqb (form t) 1)) (Scope.add_read (num (rel t)) (eqb (form (rel t)) 1)) (λ st. ap₂ (λ (i f : ℕ). Scope.add_read i (eqb f 1) (on r st)) N (same-form r t) ∙ add_read-same r (num t) (eqb (form t) 1) st)) (ret-eq t))

      same_ident-same : (e : Tree) → Walk.same_ident (rel t) (rel e) ≡ Walk.same_ident t e
      same_ident-same (node k f a ts) = go (eqb k 21) refl
        where
          go : (c : Bool) → eqb k 21 ≡ c → (c && eqb (num (rel (node k f a ts))) (num (rel t))) ≡ (c && eqb a (num t))
          go false e = refl
          go true e = ap₂ eqb (ident-num r (node k f a ts) (is_T (eqb k 21) e)) N

      tally-eq : Eq keep (modify (λ s. Walk.tally (num t) (Walk.set_changed true s))) (modify (λ s. Walk.tally (num (rel t)) (Walk.set_changed true s)))
      tally-eq = record { from = λ s. ap {B = Res St Nothing} (λ (x : Stack). done (Walk.set_replaced (Scope.wrap (s.replaced + 1)) (Walk.set_stack x (Walk.set_changed true s))) tt) (ap (λ (i : ℕ). Scope.change i Scope.count_one (on r s.stack)) N ∙ change-same r (num t) Scope.count_one Scope.count_one (λ b. refl) s.stack) }

      inline_value-eq : r 0 ≡ 0 → (b : VarInfo) (v : Option Tree) → Eq rel (Walk.inline_value w p t b v) (Walk.inline_value w p (rel t) (on_b r b) (on_o r v))
      unfolding Walk.inline_value
      inline_value-eq r0 b none = iff-by b.is_undefined (λ u. after (replace-eq p t void_zero (rel t) void_zero (same_count r t) refl refl) (ret_to void_zero void_zero (sym (same-void r r0)))) (ret-eq t)
      inline_value-eq r0 b (some e) = after (when-eq (not (Walk.same_ident t e)) (not (Walk.same_ident (rel t) (rel e))) (ap not (same_ident-same e)) tally-eq)
          (after (replace-eq p t e (rel t) (rel e) (same_count r t) (same_count r e) (same-height r e)) (logical-eq p e))

      ident_inlining-eq : r 0 ≡ 0 → Eq rel (Walk.ident_inlining w p t) (Walk.ident_inlining w p (rel t))
      unfolding Walk.ident_inlining
      ident_inlining-eq r0 = by_look-eq (Scope.find_binding (num t)) (Scope.find_binding (num (rel t))) look-same (ret t) (ret (rel t))
          (λ b. iff (Scope.var_inline_prevented b) (ret t) (Walk.inline_value w p t b b.value)) (λ b. iff (Scope.var_inline_prevented b) (ret (rel t)) (Walk.inline_value w p (rel t) b b.value)) (ret-eq t)
          (λ b. iff-eq (Scope.var_inline_prevented b) (Scope.var_inline_prevented (on_b r b)) (var_prevented-same r b) (ret-eq t) (inline_value-eq r0 b b.value))

      by_const-eq : r 0 ≡ 0 → (v : Option Tree) → Eq rel (Walk.by_const w p t v) (Walk.by_const w p (rel t) (on_o r v))
      unfolding Walk.by_const
      by_const-eq r0 none = by_state-eq (λ s. iff s.inlining (Walk.ident_inlining w p t) (Walk.ident_analysis t)) (λ s. iff s.inlining (Walk.ident_inlining w p (rel t)) (Walk.ident_analysis (rel t))) λ s. iff-by s.inlining (λ u. ident_inlining-eq r0) ident_analysis-eq
      by_const-eq r0 (some e) = after (mod-eq (Walk.set_changed true) (λ s. refl)) (after (replace-eq p t e (rel t) (rel e) (same_count r t) (same_count r e) (same-height r e)) (W.full p e))

      after_ident-eq : r 0 ≡ 0 → Eq rel (Walk.after_ident w p t) (Walk.after_ident w p (rel t))
      unfolding Walk.after_ident
      after_ident-eq r0 = by_state-eq (λ s. Walk.by_const w p t (pick s.is_first_run (Scope.find_constant (num t) s.stack) none)) (λ s. Walk.by_const w p (rel t) (pick s.is_first_run (Scope.find_constant (num (rel t)) s.stack) none)) λ s.
          (let v = pick s.is_first_run (Scope.find_constant (num t) s.stack) none in
          subst (λ (x : Option Tree). Eq rel (Walk.by_const w p t v) (Walk.by_const w p (rel t) x))
          (sym (pick_same (on_o r) s.is_first_run s.is_first_run (Scope.find_constant (num t) s.stack) none (Scope.find_constant (num (rel t)) (on r s.stack)) none refl (ap (λ (i : ℕ). Scope.find_constant i (on r s.stack)) N ∙ const-same r (num t) s.stack) refl))
          (by_const-eq r0 v))

    after-eq : r 0 ≡ 0 → (p : ℕ) (t : Tree) → Eq rel (Walk.after w p t) (Walk.after w p (rel t))
    unfolding Walk.after
    after-eq r0 p (node k f a ts) = (let t = node k f a ts in elim-by (eqb k 21) (Walk.after_ident w p t) (Walk.after_ident w p (rel t)) _ _ (λ h. after_ident-eq p t (ident-num r t h) r0)
        (elim-by (eqb k 33 && eqb f 0) (λ s. iff s.inlining (Walk.after_assign p t) (ret t) s) (λ s. iff s.inlining (Walk.after_assign p (rel t)) (ret (rel t)) s) (Walk.logical w p t) (Walk.logical w p (rel t))
        (λ h. by_state-eq (λ s. iff s.inlining (Walk.after_assign p t) (ret t)) (λ s. iff s.inlining (Walk.after_assign p (rel t)) (ret (rel t))) λ s. iff-by s.inlining (λ u. after_assign-eq p t) (ret-eq t)) (logical-eq p t)))

    full_step-eq : r 0 ≡ 0 → (p : ℕ) (t : Tree) → Eq rel (Walk.visit_mut_expr w p t) (Walk.visit_mut_expr w p (rel t))
    unfolding Walk.visit_mut_expr
    full_step-eq r0 p t = bind (Walk.after w p) (own_eq p t) λ t'. after-eq r0 p t'

  -- the knot, by depth
  walks-eq : r 0 ≡ 0 → (d : ℕ) → EqW (Walk.walks d)
  unfolding Walk.walks
  walks-eq r0 zero = record { full = λ p t. refuse-eq 8; bare = λ p t. refuse-eq 8; inner = λ p t. refuse-eq 8 }
  walks-eq r0 (suc d) = record { full = full_step-eq (Walk.walks d) (walks-eq r0 d) r0; bare = own_eq (Walk.walks d) (walks-eq r0 d); inner = script-eq (Walk.walks d) (walks-eq r0 d) }

  run-eq : r 0 ≡ 0 → (t : Tree) → Eq rel (Walk.run t) (Walk.run (rel t))
  unfolding Walk.run
  run-eq r0 t = after (mod-eq (Walk.set_inlining false) (λ s. refl)) (bind _ (own_eq (Walk.walks 199) (walks-eq r0 199) 1 t) λ t₁.
      after (mod-eq (Walk.set_inlining true) (λ s. refl)) (bind _ (own_eq (Walk.walks 199) (walks-eq r0 199) 1 t₁) λ t₂.
      after (mod-eq (Walk.set_inlining false) (λ s. refl)) (ret-eq t₂)))

  -- the runs
  marks-same : (st : Stack) → Walk.root_marks (on r st) ≡ Walk.root_marks st
  marks-same [] = refl
  marks-same (s ∷ []) = go s.bindings
    where
      one : VarInfo → Walk.Rooted
      one b = (b.id, b.inline_prevented, b.count)

      go : (bs : List VarInfo) → map one (map (on_b r) bs) ≡ map one bs
      go [] = refl
      go (b ∷ bs) = ap (λ (ms : List Walk.Rooted). one b ∷ ms) (go bs)
  marks-same (s ∷ q ∷ st) = marks-same (q ∷ st)

  again-same : (k : ℕ) (go : Tree → St → Walk.Outcome) → ((t : Tree) (s : St) → go (rel t) (lab s) ≡ relabel_out r (go t s)) → (x : Res St Tree) → Walk.again go k (map_r rel x) ≡ relabel_out r (Walk.again go k x)
  again-same k go h (stop n) = refl
  again-same k go h (done s t) = elim-same (relabel_out r) s.changed s.changed (go t (Walk.set_is_first_run false s)) (Walk.result k false t (Walk.root_marks s.stack)) (go (rel t) (Walk.set_is_first_run false (lab s))) (Walk.result k false (rel t) (Walk.root_marks (on r s.stack))) refl
      (h t (Walk.set_is_first_run false s)) (ap (Walk.result k false (rel t)) (marks-same s.stack))

  runs_same : r 0 ≡ 0 → (n k : ℕ) (t : Tree) (s : St) → Walk.runs n k (rel t) (lab s) ≡ relabel_out r (Walk.runs n k t s)
  unfolding Walk.runs
  runs_same r0 zero k t s = ap (Walk.result k true (rel t)) (marks-same s.stack)
  runs_same r0 (suc n) k t s = ap (Walk.again (Walk.runs n (suc k)) (suc k)) ((run-eq r0 t).from (Walk.set_changed false s)) ∙ again-same (suc k) (Walk.runs n (suc k)) (runs_same r0 n (suc k)) (Walk.run t (Walk.set_changed false s))

  start_is : (t : Tree) → Walk.start (rel t) ≡ lab (Walk.start t)
  start_is t = ap₂ (λ (n : ℕ) (tg : ℕ → Bool). begin n tg) (same_count r t) (fun_ext (λ i. same-targets r i t))
    where
      begin : ℕ → (ℕ → Bool) → St
      begin n tg = record { stack = Scope.new_scope (Scope.fn false) ∷ []; changed = false; inlining = false; is_first_run = true; var_decl_kind = Scope.v_var; pat_mode = Walk.declaring; in_test = false; conds = 0; nodes = n; targeted = tg; ended = 0; replaced = 0 }

-- relabelling the origins and then passing is passing and then relabelling
pub origin-blind : OriginBlind
unfolding Walk.core_pass
origin-blind r r0 n t = ap₂ (Walk.runs n 0) (same-flagged r t) (start_is r t) ∙ runs_same r r0 n 0 (flagged t) (Walk.start t)
