-- A binding declared: in place, or appended; and what row 9 counts of it. Assumes nothing.
use mathlib.Core.Path.{◌≡◌, refl, sym, ap, ◌∙◌}
use mathlib.Core.List.{List, [], ◌∷◌, ◌++◌, map}
use mathlib.Core.Bool.{Bool, true, false, ◌||◌}
use mathlib.Core.Option.{Option, none, some}
use Prim.Native.Nat.{ℕ, suc, ◌+◌, ◌-◌, ◌*◌, ◌≤◌, ◌<◌}
use native.Mathlib.Omega.{arith}
use lib.ListN.{length, get_or, set, drop, length-drop, length-append}
use lib.Dec.{eqb, ltb}
use lib.Seq.{get_or-drop, get_or_at, set_at, drop-set-add, take-set-le}
use Rattle.def_tree.specs.Base.{pick}
use Rattle.def_tree.specs.Tree.{Tree, Core, first_t, plant}
use Rattle.def_pass.specs.Tree.{count_o}
use Rattle.def_pass.specs.Scope.{VarInfo, Stack, VarType, find_in, has_in, is_some, change_in, change, on_bindings, append, fresh, redeclare, defined, with_value, value_o, values_in, values_of, recorded_nodes, live, prevent, prevent_one, prevent_inline, prevent_inline_o, find_binding_from_current, value_is, kept}
use Rattle.words_scopes.specs.State.{Good, Becomes, binds, stack, bind_at, off, coff, value_of}
use Rattle.words_scopes.proofs.Split as laws
use Rattle.words.specs.declared.Run.{Run}
use Rattle.scope_values.specs.Steps.{over, put_at, run_value}
use Rattle.words.specs.Layout.{run}
use Rattle.words.proofs.Nodes.{run_length}
use Rattle.scope_values.proofs.Count.{depth_is, nodes_b, total-append, length-binds, recorded-is, values-in}
use Rattle.scope_values.proofs.Listed.{bind-there, change-at}
use Rattle.std.proofs.Common.{None}
use Rattle.scope_find.specs.Own.{Own, OwnAt}
use Rattle.scope_declare.specs.Declare.{put_declared, declare_with}
use Rattle.scope_declare.specs.Kinds.{init_at, nodes_of, is_seen, Sized}
use Rattle.scope_declare.specs.declared.define.Init.{Init}
use Rattle.scope_declare.specs.declared.define.Init.TheVariants.{NoInit, Recorded, Seen}
use Rattle.scope_declare.proofs.Top.{stack_top, heads-top}

-- two changes of one binding
module _ (x : ℕ) (f g : VarInfo → VarInfo) (same : (b : VarInfo) → (f b).id ≡ b.id) where
  kept-name : (b : VarInfo) (p : Bool) → eqb b.id x ≡ p → eqb (f b).id x ≡ p
  kept-name b p e = ap (λ (n : ℕ). eqb n x) (same b) ∙ e

  has-after : (bs : List VarInfo) → has_in x (change_in x f bs) ≡ has_in x bs
  has-after [] = refl
  has-after (b ∷ bs) = laws.tested (eqb b.id x)
      (λ e. ap (has_in x) (laws.change-yes x b bs f e) ∙ laws.has-yes x (f b) bs (kept-name b true e) ∙ sym (laws.has-yes x b bs e))
      (λ e. ap (has_in x) (laws.change-no x b bs f e) ∙ laws.has_no x b (change_in x f bs) e ∙ has-after bs ∙ sym (laws.has_no x b bs e))

  twice_in : (bs : List VarInfo) → change_in x g (change_in x f bs) ≡ change_in x (λ b. g (f b)) bs
  twice_in [] = refl
  twice_in (b ∷ bs) = laws.tested (eqb b.id x)
      (λ e. ap (change_in x g) (laws.change-yes x b bs f e) ∙ laws.change-yes x (f b) bs g (kept-name b true e) ∙ sym (laws.change-yes x b bs (λ b. g (f b)) e))
      (λ e. ap (change_in x g) (laws.change-no x b bs f e) ∙ laws.change-no x b (change_in x f bs) g e ∙ ap (λ (l : List VarInfo). b ∷ l) (twice_in bs) ∙ sym (laws.change-no x b bs (λ b. g (f b)) e))

  change-twice : (st : Stack) → change x g (change x f st) ≡ change x (λ b. g (f b)) st
  change-twice [] = refl
  change-twice (s ∷ st) = laws.tested (has_in x s.bindings)
      (λ e. ap (change x g) (laws.here-yes x f s st e) ∙ laws.here-yes x g (on_bindings (change_in x f) s) st (has-after s.bindings ∙ e) ∙ ap (λ (l : List VarInfo). on_bindings (λ bs. l) s ∷ st) (twice_in s.bindings) ∙ sym (laws.here-yes x (λ b. g (f b)) s st e))
      (λ e. ap (change x g) (laws.here-no x f s st e) ∙ laws.here-no x g s (change x f st) e ∙ ap (λ (l : Stack). s ∷ l) (change-twice st) ∙ sym (laws.here-no x (λ b. g (f b)) s st e))

-- the first half of `declare`, where the binding is there, and where not
pub declared-there : (i : ℕ) (v : Option Tree → Option Tree) (p u : Bool) (k : VarType) (al : Option VarType) (st : Stack) → is_some (find_binding_from_current i st) ≡ true
    → put_declared i v p u k al st ≡ change i (redeclare p u (v (value_o (find_binding_from_current i st)))) st
declared-there i v p u k al [] h = refl
declared-there i v p u k al (s ∷ st) h = rw h (sym (laws.here-yes i (redeclare p u (v (value_o (find_in i s.bindings)))) s st h))

pub declared-absent : (i : ℕ) (v : Option Tree → Option Tree) (p u : Bool) (k : VarType) (al : Option VarType) (st : Stack) → is_some (find_binding_from_current i st) ≡ false
    → put_declared i v p u k al st ≡ append (fresh i k al p u (v none)) st
declared-absent i v p u k al [] h = refl
declared-absent i v p u k al (s ∷ st) h = rw h refl

-- row 9 of a binding appended
pub recorded-append : (b : VarInfo) (st : Stack) → 0 < length st → recorded_nodes (append b st) ≡ recorded_nodes st - 0 + count_o b.value
recorded-append b [] h = absurd (omega arith)
recorded-append b (s ∷ st) h = omega (arith, values-in (s.bindings ++ (b ∷ [])), values-in s.bindings, total-append nodes_b s.bindings (b ∷ []))

pub live-append : (b : VarInfo) (st : Stack) → 0 < length st → live (append b st) ≡ live st + 1
live-append b [] h = absurd (omega arith)
live-append b (s ∷ st) h = omega (arith, length-append s.bindings (b ∷ []))

-- and of marks
marked-value : (t : Bool) (b : VarInfo) → nodes_b (pick t (prevent b) b) ≡ nodes_b b
marked-value true b = refl
marked-value false b = refl

marked-values : (i : ℕ) (bs : List VarInfo) → values_in (map (prevent_one i) bs) ≡ values_in bs
marked-values i [] = refl
marked-values i (b ∷ bs) = omega (arith, marked-value (eqb b.id i || value_is i b.value) b, marked-values i bs)

marked-length : (i : ℕ) (bs : List VarInfo) → length (map (prevent_one i) bs) ≡ length bs
marked-length i [] = refl
marked-length i (b ∷ bs) = ap suc (marked-length i bs)

recorded_marked : (i : ℕ) (st : Stack) → recorded_nodes (prevent_inline i st) ≡ recorded_nodes st
recorded_marked i [] = refl
recorded_marked i (s ∷ st) = omega (arith, marked-values i s.bindings, recorded_marked i st)

live-marked : (i : ℕ) (st : Stack) → live (prevent_inline i st) ≡ live st
live-marked i [] = refl
live-marked i (s ∷ st) = omega (arith, marked-length i s.bindings, live-marked i st)

pub over-marked : (i : ℕ) (st : Stack) → over (prevent_inline i st) ≡ over st
over-marked i st = rw (recorded_marked i st, live-marked i st) refl

-- and of a change that keeps the value
module _ (x : ℕ) (f : VarInfo → VarInfo) (same : (b : VarInfo) → nodes_b (f b) ≡ nodes_b b) where
  changed-values : (bs : List VarInfo) → values_in (change_in x f bs) ≡ values_in bs
  changed-values [] = refl
  changed-values (b ∷ bs) = laws.tested (eqb b.id x)
      (λ e. ap values_in (laws.change-yes x b bs f e) ∙ ap (λ (n : ℕ). n + values_in bs) (same b))
      (λ e. ap values_in (laws.change-no x b bs f e) ∙ ap (λ (n : ℕ). nodes_b b + n) (changed-values bs))

  changed-length : (bs : List VarInfo) → length (change_in x f bs) ≡ length bs
  changed-length [] = refl
  changed-length (b ∷ bs) = laws.tested (eqb b.id x)
      (λ e. ap length (laws.change-yes x b bs f e))
      (λ e. ap length (laws.change-no x b bs f e) ∙ ap suc (changed-length bs))

  recorded-changed : (st : Stack) → recorded_nodes (change x f st) ≡ recorded_nodes st
  recorded-changed [] = refl
  recorded-changed (s ∷ st) = laws.tested (has_in x s.bindings)
      (λ e. ap recorded_nodes (laws.here-yes x f s st e) ∙ ap (λ (n : ℕ). n + values_of s.constants + recorded_nodes st) (changed-values s.bindings))
      (λ e. ap recorded_nodes (laws.here-no x f s st e) ∙ ap (λ (n : ℕ). values_in s.bindings + values_of s.constants + n) (recorded-changed st))

  live-changed : (st : Stack) → live (change x f st) ≡ live st
  live-changed [] = refl
  live-changed (s ∷ st) = laws.tested (has_in x s.bindings)
      (λ e. ap live (laws.here-yes x f s st e) ∙ ap (λ (n : ℕ). n + length s.constants + live st) (changed-length s.bindings))
      (λ e. ap live (laws.here-no x f s st e) ∙ ap (λ (n : ℕ). length s.bindings + length s.constants + n) (live-changed st))

  over-changed : (st : Stack) → over (change x f st) ≡ over st
  over-changed st = rw (recorded-changed st, live-changed st) refl

-- a first value: recorded, and then defined
module _ (x : ℕ) (v : Option Tree) (st : Stack) where
  pub first-is : change x defined (change x (with_value v) st) ≡ change x (λ b. defined (with_value v b)) st
  first-is = change-twice x (with_value v) defined (λ b. refl) st

  pub over-first : over (change x (λ b. defined (with_value v b)) st) ≡ over (change x (with_value v) st)
  over-first = ap over (sym first-is) ∙ over-changed x defined (λ b. refl) (change x (with_value v) st)

-- the last binding overwritten
abbrev set_last : VarInfo → Stack → Stack
set_last c [] = []
set_last c (s ∷ st) = on_bindings (λ bs. set bs (length bs - 1) c) s ∷ st

last-append : (c b : VarInfo) (st : Stack) → set_last c (append b st) ≡ append c st
last-append c b [] = refl
last-append c b (s ∷ st) =
    let e : length (s.bindings ++ (b ∷ [])) - 1 ≡ length s.bindings = omega (arith, length-append s.bindings (b ∷ [])) in
    ap (λ (l : List VarInfo). on_bindings (λ bs. l) s ∷ st) (rw e (set_at s.bindings b [] c (length s.bindings) refl))

abbrev last_of : Stack → VarInfo
last_of [] = laws.no_bind
last_of (s ∷ st) = get_or s.bindings (length s.bindings - 1) laws.no_bind

last-is : (b : VarInfo) (st : Stack) → 0 < length st → last_of (append b st) ≡ b
last-is b [] h = absurd (omega arith)
last-is b (s ∷ st) h =
    let e : length (s.bindings ++ (b ∷ [])) - 1 ≡ length s.bindings = omega (arith, length-append s.bindings (b ∷ [])) in
    rw e (get_or_at s.bindings b [] laws.no_bind (length s.bindings) refl)

abbrev size_of : Stack → ℕ
size_of [] = 0
size_of (s ∷ st) = length s.bindings

size-append : (b : VarInfo) (st : Stack) → 0 < length st → 0 < size_of (append b st)
size-append b [] h = absurd (omega arith)
size-append b (s ∷ st) h = omega (arith, length-append s.bindings (b ∷ []))

module _ (u : List ℕ) (g : Good u) (z : 0 < get_or u 2 0) (n : ℕ) (is : get_or u 1 0 ≡ n + 1) (b : VarInfo) (st : Stack) (e : stack u ≡ append b st) (deep : 0 < length st) where
  abbrev a : ℕ
  a = get_or u (7184 + (get_or u 2 0 - 1) * 4 + 1) 0

  len : length (drop a (binds u)) ≡ n + 1 - a
  len = length-drop a (binds u) ∙ ap (λ (k : ℕ). k - a) (length-binds u g ∙ is)

  some-own : a ≤ n
  some-own = let s : size_of (stack u) ≡ n + 1 - a = ap size_of (stack_top u g z) ∙ len in let q : size_of (stack u) ≡ size_of (append b st) = ap size_of e in omega (arith, size-append b st deep)

  pub last-bind : bind_at u n ≡ b
  last-bind =
      let h : a + (n - a) ≡ n = omega (arith, some-own) in
      let q : length (drop a (binds u)) - 1 ≡ n - a = omega (arith, len) in
      let l : last_of (stack u) ≡ bind_at u n = ap last_of (stack_top u g z) ∙ ap (λ (k : ℕ). get_or (drop a (binds u)) k laws.no_bind) q ∙ get_or-drop a (binds u) (n - a) laws.no_bind ∙ ap (λ (k : ℕ). get_or (binds u) k laws.no_bind) h ∙ bind-there u n (omega arith) laws.no_bind in
      sym l ∙ ap last_of e ∙ last-is b st deep

  pub last-put : (c : VarInfo) → put_at u n c ≡ append c st
  last-put c =
      let h : a + (n - a) ≡ n = omega (arith, some-own) in
      let q : length (drop a (binds u)) - 1 ≡ n - a = omega (arith, len) in
      let d : drop a (set (binds u) n c) ≡ set (drop a (binds u)) (length (drop a (binds u)) - 1) c = ap (λ (k : ℕ). drop a (set (binds u) k c)) (sym h) ∙ drop-set-add a (binds u) (n - a) c ∙ ap (λ (k : ℕ). set (drop a (binds u)) k c) (sym q) in
      rw (heads-top u g z) (rw (d, take-set-le a (binds u) n c some-own) refl) ∙ ap (set_last c) (sym (stack_top u g z) ∙ e) ∙ last-append c b st

append-depth : (b : VarInfo) (st : Stack) → length (append b st) ≡ length st
append-depth b [] = refl
append-depth b (s ∷ st) = refl

-- a binding without a value was appended: what a value for it has to fit, and what it then is
module _ (w : List ℕ) (g : Good w) (z : 0 < get_or w 2 0) (b : VarInfo) where
  deep : 0 < length (stack w)
  deep = omega (arith, depth_is w)

  pub over-append : over (append b (stack w)) ≡ (ltb 512 (recorded_nodes (stack w) - 0 + count_o b.value) || ltb 256 (live (stack w) + 1))
  over-append = rw (recorded-append b (stack w) deep, live-append b (stack w) deep) refl

  module _ (u : List ℕ) (t : Becomes w u (append b (stack w))) (is : get_or u 1 0 ≡ get_or w 1 0 + 1) where
    deep-after : 0 < get_or u 2 0
    deep-after = omega (arith, depth_is u, ap length t.is, append-depth b (stack w), depth_is w)

    pub vals-after : off u (get_or u 1 0) + coff u (get_or u 3 0) ≤ recorded_nodes (stack w) + count_o b.value
    vals-after = omega (arith, recorded-is u t.good, ap recorded_nodes t.is, recorded-append b (stack w) deep)

    pub last-valued : (v : Option Tree) → put_at u (get_or w 1 0) (with_value v (bind_at u (get_or w 1 0))) ≡ append (with_value v b) (stack w)
    last-valued v = ap (λ (c : VarInfo). put_at u (get_or w 1 0) (with_value v c)) (last-bind u t.good deep-after (get_or w 1 0) is b (stack w) t.is deep) ∙ last-put u t.good deep-after (get_or w 1 0) is b (stack w) t.is deep (with_value v b)

-- no nodes are no value
no_value_lem : (xs : List Core) → length xs ≡ 0 → value_of xs ≡ none
no_value_lem [] e = refl
no_value_lem (x ∷ xs) e = absurd (omega arith)

pub run-no-value : (w : List ℕ) (i m : ℕ) → m ≡ 0 → value_of (run w 16 i m) ≡ none
run-no-value w i m e = no_value_lem (run w 16 i m) (run_length w 16 i m ∙ e)

-- the value after a declaration, by the run of its nodes
some_value : (xs : List Core) → 0 < length xs → some (first_t (plant xs)) ≡ value_of xs
some_value [] h = absurd (omega arith)
some_value (x ∷ xs) h = refl

kept_at : (w : List ℕ) (v : Init) (m : ℕ) → Sized v m → (old : Option Tree) → kept (init_at w v m) old ≡ pick (is_seen v) old (run_value w (nodes_of v m))
kept_at w NoInit m h old = sym (run-no-value w 0 0 refl)
kept_at w (Recorded i) m h old = some_value (run w 16 i m) (omega (arith, h, run_length w 16 i m))
kept_at w (Seen i) m h old = refl

kept-is : (w : List ℕ) (v : Init) (m : ℕ) → Sized v m → ◌≡◌ {A = Option Tree → Option Tree} (kept (init_at w v m)) (λ old. pick (is_seen v) old (run_value w (nodes_of v m)))
kept-is w v m h = λ t old. kept_at w v m h old t

pub same-declared : (w : List ℕ) (v : Init) (m : ℕ) → Sized v m → {seen : Bool} → seen ≡ is_seen v → {r : Run} → r ≡ nodes_of v m → (x : ℕ) (p u : Bool) (k : VarType) (al : Option VarType) (st : Stack)
    → put_declared x (λ old. pick seen old (run_value w r)) p u k al st ≡ put_declared x (kept (init_at w v m)) p u k al st
same-declared w v m h es er x p u k al st = rw (es, er) (ap (λ (f : Option Tree → Option Tree). put_declared x f p u k al st) (sym (kept-is w v m h)))

over-pick : (t : Bool) (i : ℕ) (st : Stack) → over (pick t (prevent_inline i st) st) ≡ over st
over-pick true i st = over-marked i st
over-pick false i st = refl

-- the first half of `declare` in the words
module _ (w : List ℕ) (x : ℕ) (seen : Bool) (v : Option Tree) (p u : Bool) (k : VarType) (al : Option VarType) where
  pub put-there-is : (r : ℕ) → OwnAt w x r → put_declared x (λ old. pick seen old v) p u k al (stack w) ≡ put_at w r (redeclare p u (pick seen (bind_at w r).value v) (bind_at w r))
  put-there-is r o =
      declared-there x (λ old. pick seen old v) p u k al (stack w) (ap is_some o.found)
      ∙ change-at w r o.below x (redeclare p u (pick seen (value_o (find_binding_from_current x (stack w))) v)) o.place
      ∙ ap (λ (old : Option VarInfo). put_at w r (redeclare p u (pick seen (value_o old) v) (bind_at w r))) o.found

  pub put-absent-is : Own w x None → put_declared x (λ old. pick seen old v) p u k al (stack w) ≡ append (fresh x k al p u (pick seen none v)) (stack w)
  put-absent-is o = declared-absent x (λ old. pick seen old v) p u k al (stack w) o

over-barred : (e : Option ℕ) (i : ℕ) (st : Stack) → over (pick (is_some e) (prevent_inline_o e (prevent_inline i st)) st) ≡ over st
over-barred none i st = refl
over-barred (some x) i st = over-marked x (prevent_inline i st) ∙ over-marked i st

-- no mark is counted
pub over-with : (i : ℕ) (f : Option Tree → Option Tree) (e : Option ℕ) (p u : Bool) (k : VarType) (al : Option VarType) (looped : Bool) (st : Stack) → over (declare_with i f e p u k al looped st) ≡ over (put_declared i f p u k al st)
over-with i f e p u k al looped st = over-barred e i (pick looped (prevent_inline i (put_declared i f p u k al st)) (put_declared i f p u k al st)) ∙ over-pick looped i (put_declared i f p u k al st)
