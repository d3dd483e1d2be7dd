-- One binding's fields stored; the parameters swept. Assumes nothing.
use mathlib.Core.Path.{◌≡◌, refl, sym, ap, ◌∙◌}
use mathlib.Core.List.{List, [], ◌∷◌, map}
use mathlib.Core.Bool.{Bool, true, false, cond, ◌||◌}
use mathlib.Core.Option.{Option}
use mathlib.Core.Logic.{⊎_elim}
use Prim.Native.Nat.{ℕ, zero, suc, ◌+◌, ◌*◌, ◌≤◌, ◌<◌}
use native.Mathlib.Nat.{eq-or-lt_of_le}
use native.Mathlib.Omega.{arith}
use borrow.Author.Tests.{lt-ltb, le-ltb}
use lib.ListN.{length, get_or, set, take, drop, length-take}
use lib.Dec.{ltb}
use lib.Seq.{ext_get_or}
use Rattle.def_tree.specs.Base.{pick}
use Rattle.def_tree.specs.Tree.{Tree}
use Rattle.def_pass.specs.Scope.{VarInfo, Scope, Stack, is_fn, is_param, change, sensitive_now, prevent, one_more, count_read, prevent_param, prevent_inline_of_params, on_bindings}
use Rattle.words.specs.Tab.{tab, tab-ext, length-tab, get_d-tab, below_or_not}
use Rattle.words.specs.Layout.{yes}
use Rattle.words_scopes.specs.State.{bind_at, Head, head_at, heads_at, heads, flags, binds, consts, split, scope_of, stack, Good, HasBinding, Becomes, Fits, place}
use Rattle.words_scopes.proofs.Split as laws
use Rattle.words_scopes.proofs.Words as words
use Rattle.words_scopes.proofs.Stored.{store-this, store-becomes}
use Rattle.std.proofs.Common.{Option as Answer, Some, None}
use Rattle.std.specs.List.{find}
use Rattle.scope_find.specs.Look.{first, scope_at, fn_start, params_from}
use Rattle.scope_find.proofs.Out as out
use Rattle.scope_find.proofs.Down.{down}

pub sensed : (w : List ℕ) → Good w → (k : ℕ) → k < get_or w 1 0 → (x : ℕ) → place x (heads w) (binds w) ≡ suc k → Becomes w (set w (4112 + k * 10 + 6) 1) (change x sensitive_now (stack w))
sensed w g k h = store-becomes w g k h 6 1 (omega arith) (omega arith) sensitive_now refl

-- two fields
abbrev with-mark : Bool → VarInfo → VarInfo
with-mark m b = record { id = b.id; kind = b.kind; alias_of = b.alias_of; read_cnt = b.read_cnt; inline_prevented = m; is_undefined = b.is_undefined; value = b.value; this_sensitive = b.this_sensitive; hoisted = b.hoisted; count = b.count }

module _ (w : List ℕ) (g : Good w) (k : ℕ) (h : k < get_or w 1 0) where
  read-now : (n p : ℕ) → n ≡ one_more (bind_at w k).read_cnt → yes p ≡ ((bind_at w k).hoisted || (bind_at w k).inline_prevented) → (x : ℕ) → place x (heads w) (binds w) ≡ suc k
      → Becomes w (set (set w (4112 + k * 10 + 3) n) (4112 + k * 10 + 4) p) (change x count_read (stack w))
  read-now n p e q =
      let u : List ℕ = set w (4112 + k * 10 + 3) n in
      let gu : Good u = words.field-good w g k h 3 n (omega arith) (omega arith) in
      let t = words.field-kept w g k h 3 n (omega arith) (omega arith) in
      let c : get_or u 1 0 ≡ get_or w 1 0 = t.counts 1 (omega arith) (omega arith) in
      let hu : k < get_or u 1 0 = omega arith in
      let this : bind_at (set u (4112 + k * 10 + 4) p) k ≡ count_read (bind_at w k) =
      store-this u gu k hu 4 p (omega arith) (omega arith) ∙ ap (with-mark (yes p)) (store-this w g k h 3 n (omega arith) (omega arith)) ∙ rw (q, e) refl in
      words.changed g (words.kept_then t (words.field-kept u gu k hu 4 p (omega arith) (omega arith))) k h count_read this
      (λ j a d. words.field-other u gu k hu 4 p (omega arith) (omega arith) j (omega arith) d ∙ words.field-other w g k h 3 n (omega arith) (omega arith) j a d)
      (words.field-good u gu k hu 4 p (omega arith) (omega arith))

  -- a read is counted, n now, and marks a hoisted binding
  module _ (n : ℕ) (e : n ≡ one_more (bind_at w k).read_cnt) where
    abbrev u : List ℕ
    u = set w (4112 + k * 10 + 3) n

    pub counted : HasBinding u k
    counted = (words.field-good w g k h 3 n (omega arith) (omega arith), omega (arith, (words.field-kept w g k h 3 n (omega arith) (omega arith)).counts 1 (omega arith) (omega arith)))

    hoisted-same : (bind_at u k).hoisted ≡ (bind_at w k).hoisted
    hoisted-same = ap yes (words.field-same w g k h 3 n (omega arith) (omega arith) k 7 (omega arith) (λ z. omega arith))

    pub read-marked : (bind_at u k).hoisted ≡ true → (x : ℕ) → place x (heads w) (binds w) ≡ suc k → Becomes w (set u (4112 + k * 10 + 4) 1) (change x count_read (stack w))
    read-marked m = read-now n 1 e (sym (rw (sym hoisted-same ∙ m) refl))

    pub read-plain : (bind_at u k).hoisted ≡ false → (x : ℕ) → place x (heads w) (binds w) ≡ suc k → Becomes w u (change x count_read (stack w))
    read-plain z = store-becomes w g k h 3 n (omega arith) (omega arith) count_read (rw (e, sym hoisted-same ∙ z) refl)

-- the parameters, from a place on
drop-params : (a l : ℕ) (bs : List VarInfo) → l ≤ a → drop a (params_from l bs) ≡ map prevent_param (drop a bs)
drop-params a zero bs h = laws.map-drop prevent_param a bs
drop-params zero (suc l) bs h = absurd (omega arith)
drop-params (suc a) (suc l) [] h = refl
drop-params (suc a) (suc l) (b ∷ bs) h = drop-params a l bs (omega arith)

take-params : (a l : ℕ) (bs : List VarInfo) → take a (params_from l bs) ≡ params_from l (take a bs)
take-params a zero bs = laws.map-take prevent_param a bs
take-params zero (suc l) bs = refl
take-params (suc a) (suc l) [] = refl
take-params (suc a) (suc l) (b ∷ bs) = ap (λ (t : List VarInfo). b ∷ t) (take-params a l bs)

no-params : (l : ℕ) (bs : List VarInfo) → length bs ≤ l → params_from l bs ≡ bs
no-params zero [] h = refl
no-params zero (b ∷ bs) h = absurd (omega arith)
no-params (suc l) [] h = refl
no-params (suc l) (b ∷ bs) h = ap (λ (t : List VarInfo). b ∷ t) (no-params l bs (omega arith))

module _ (h : Head) (hs : List Head) where
  start-fn : is_fn h.kind ≡ true → fn_start (h ∷ hs) ≡ h.start
  start-fn e = ap (λ (p : Bool). elim p [ true ↦ h.start | false ↦ fn_start hs ]) e

  start-on : is_fn h.kind ≡ false → fn_start (h ∷ hs) ≡ fn_start hs
  start-on e = ap (λ (p : Bool). elim p [ true ↦ h.start | false ↦ fn_start hs ]) e

start-le : (hs : List Head) (n : ℕ) → Fits hs n → fn_start hs ≤ n
start-le [] n f = omega arith
start-le (h ∷ hs) n f = laws.tested (is_fn h.kind)
    (λ e. omega (arith, start-fn h hs e, f.0))
    (λ e. omega (arith, start-on h hs e, start-le hs h.start f.1, f.0))

module _ (s : Scope) (st : Stack) where
  params-fn : is_fn s.kind ≡ true → prevent_inline_of_params (s ∷ st) ≡ on_bindings (map prevent_param) s ∷ st
  params-fn e = ap (λ (p : Bool). on_bindings (map prevent_param) s ∷ elim p [ true ↦ st | false ↦ prevent_inline_of_params st ]) e

  params-on : is_fn s.kind ≡ false → prevent_inline_of_params (s ∷ st) ≡ on_bindings (map prevent_param) s ∷ prevent_inline_of_params st
  params-on e = ap (λ (p : Bool). on_bindings (map prevent_param) s ∷ elim p [ true ↦ st | false ↦ prevent_inline_of_params st ]) e

pub params-split : (hs : List Head) (fl : List ℕ) (bs : List VarInfo) (cs : List (ℕ × Option Tree)) → Fits hs (length bs)
    → prevent_inline_of_params (split hs fl bs cs) ≡ split hs fl (params_from (fn_start hs) bs) cs
params-split [] fl bs cs f = refl
params-split (h ∷ hs) fl bs cs f =
    let a : ℕ = h.start in
    let s : Scope = scope_of h (drop a fl) (drop a bs) (drop h.cstart cs) in
    let st : Stack = split hs (take a fl) (take a bs) (take h.cstart cs) in
    let l : length (take a bs) ≡ a = omega (arith, length-take a bs, f.0) in
    laws.tested (is_fn h.kind)
    (λ e. params-fn s st e ∙ rw (start-fn h hs e, drop-params a a bs (omega arith), take-params a a bs, no-params a (take a bs) (omega arith)) refl)
    (λ e.
    let o = start-le hs a f.1 in
    params-on s st e ∙ rw (start-on h hs e, drop-params a (fn_start hs) bs o, take-params a (fn_start hs) bs, params-split hs (take a fl) (take a bs) (take h.cstart cs) (rw l f.1)) refl)

-- the sweep: from lo up to k it is done
param-yes : (b : VarInfo) → is_param b.kind ≡ true → prevent b ≡ prevent_param b
param-yes b e = rw e refl

param-no : (b : VarInfo) → is_param b.kind ≡ false → b ≡ prevent_param b
param-no b e = rw e refl

abbrev pub swept_at : ℕ → ℕ → VarInfo → VarInfo
swept_at lo j b = pick (ltb j lo) b (prevent_param b)

pub record Swept (w₀ w : List ℕ) (lo k : ℕ) : Type 0 where
  pub kept : words.Kept w₀ w
  pub runs : words.Runs w₀ w
  pub done : (j : ℕ) → j < k → bind_at w j ≡ swept_at lo j (bind_at w₀ j)
  pub left : (j : ℕ) → k ≤ j → j < get_or w₀ 1 0 → bind_at w j ≡ bind_at w₀ j

pub swept_none : (w : List ℕ) (lo : ℕ) → Swept w w lo lo
swept_none w lo = record { kept = words.kept_self w; runs = words.runs-self w; done = λ j l. rw (lt-ltb j lo l) refl; left = λ j a b. refl }

module _ {w₀ w : List ℕ} {lo k : ℕ} (g : Good w₀) (s : Swept w₀ w lo k) (o : lo ≤ k) (h : k < get_or w₀ 1 0) where
  pub swept-good : Good w
  swept-good = words.runs-good g s.runs s.kept

  was : bind_at w k ≡ bind_at w₀ k
  was = s.left k (omega arith) h

  upto : (w' : List ℕ) → bind_at w' k ≡ prevent_param (bind_at w₀ k) → ((j : ℕ) → j < get_or w₀ 1 0 → (j ≡ k → ⊥) → bind_at w' j ≡ bind_at w j) → (j : ℕ) → j < k + 1 → bind_at w' j ≡ swept_at lo j (bind_at w₀ j)
  upto w' e d j l = ⊎_elim (λ (q : j ≡ k). rw (q, le-ltb k lo o) e) (λ (q : j < k). d j (omega arith) (λ z. omega arith) ∙ s.done j q) (eq-or-lt_of_le (omega arith))

  pub swept-miss : is_param (bind_at w k).kind ≡ false → Swept w₀ w lo (k + 1)
  swept-miss e = record {
    kept = s.kept;
    runs = s.runs;
    done = upto w (was ∙ param-no (bind_at w₀ k) (ap (λ (b : VarInfo). is_param b.kind) (sym was) ∙ e)) (λ j a b. refl);
    left = λ j a b. s.left j (omega arith) b;
  }

  pub swept-hit : is_param (bind_at w k).kind ≡ true → Swept w₀ (set w (4112 + k * 10 + 4) 1) lo (k + 1)
  swept-hit e =
      let g' = swept-good in
      let n : get_or w 1 0 ≡ get_or w₀ 1 0 = s.kept.counts 1 (omega arith) (omega arith) in
      let h' : k < get_or w 1 0 = omega arith in
      let other : (j : ℕ) → j < get_or w₀ 1 0 → (j ≡ k → ⊥) → bind_at (set w (4112 + k * 10 + 4) 1) j ≡ bind_at w j = λ j a b. words.field-other w g' k h' 4 1 (omega arith) (omega arith) j (omega arith) b in
      record {
        kept = words.kept_then s.kept (words.field-kept w g' k h' 4 1 (omega arith) (omega arith));
        runs = words.runs_then s.runs (words.field-runs w g' k h' 4 1 (omega arith) (omega arith));
        done = upto (set w (4112 + k * 10 + 4) 1) (words.mark-this w g' k h' ∙ ap prevent was ∙ param-yes (bind_at w₀ k) (ap (λ (b : VarInfo). is_param b.kind) (sym was) ∙ e)) other;
        left = λ j a b. other j b (λ q. omega arith) ∙ s.left j (omega arith) b;
      }

-- a list from a place on, by its elements
params-tab : (lo n : ℕ) (t : ℕ → VarInfo) → tab n (λ j. swept_at lo j (t j)) ≡ params_from lo (tab n t)
params-tab lo n t =
    ext_get_or laws.no_bind (tab n (λ j. swept_at lo j (t j))) (params_from lo (tab n t)) (length-tab n (λ j. swept_at lo j (t j)) ∙ sym (length-params lo (tab n t) ∙ length-tab n t))
    (λ j l. let m : j < n = rw length-tab at l in
    get_d-tab n (λ j. swept_at lo j (t j)) j laws.no_bind m ∙ sym (get_d-params lo (tab n t) j (rw length-tab m) ∙ ap (swept_at lo j) (get_d-tab n t j laws.no_bind m)))
  where
    length-map : (bs : List VarInfo) → length (map prevent_param bs) ≡ length bs
    length-map [] = refl
    length-map (b ∷ bs) = ap suc (length-map bs)

    length-params : (l : ℕ) (bs : List VarInfo) → length (params_from l bs) ≡ length bs
    length-params zero bs = length-map bs
    length-params (suc l) [] = refl
    length-params (suc l) (b ∷ bs) = ap suc (length-params l bs)

    get_d_map : (bs : List VarInfo) (j : ℕ) → j < length bs → get_or (map prevent_param bs) j laws.no_bind ≡ prevent_param (get_or bs j laws.no_bind)
    get_d_map [] j h = absurd (omega arith)
    get_d_map (b ∷ bs) zero h = refl
    get_d_map (b ∷ bs) (suc j) h = get_d_map bs j (omega arith)

    get_d-params : (l : ℕ) (bs : List VarInfo) (j : ℕ) → j < length bs → get_or (params_from l bs) j laws.no_bind ≡ swept_at l j (get_or bs j laws.no_bind)
    get_d-params zero bs j h = get_d_map bs j h ∙ sym (rw (le-ltb j 0 (omega arith)) refl)
    get_d-params (suc l) [] j h = absurd (omega arith)
    get_d-params (suc l) (b ∷ bs) zero h = sym (rw (lt-ltb 0 (suc l) (omega arith)) refl)
    get_d-params (suc l) (b ∷ bs) (suc j) h = get_d-params l bs j (omega arith) ∙ ap (λ (p : Bool). pick p (get_or bs j laws.no_bind) (prevent_param (get_or bs j laws.no_bind))) (⊎_elim
        (λ (a : j < l). lt-ltb j l a ∙ sym (lt-ltb (suc j) (suc l) (omega arith)))
        (λ (a : l ≤ j). le-ltb j l a ∙ sym (le-ltb (suc j) (suc l) (omega arith)))
        (below_or_not j l))

pub swept_all : {w₀ w : List ℕ} (lo : ℕ) → Good w₀ → Swept w₀ w lo (get_or w₀ 1 0) → Becomes w₀ w (split (heads w₀) (flags w₀) (params_from lo (binds w₀)) (consts w₀))
unfolding binds
swept_all {w₀} {w} lo g s =
    let n : ℕ = get_or w₀ 1 0 in
    let t : ℕ → VarInfo = λ k. bind_at w₀ k in
    let new : tab (get_or w 1 0) (λ k. bind_at w k) ≡ params_from lo (tab n t) =
    rw (s.kept.counts 1 (omega arith) (omega arith)) (tab-ext n (λ k. bind_at w k) (λ j. swept_at lo j (t j)) s.done ∙ params-tab lo n t) in
    words.kept-becomes g s.kept (params_from lo (tab n t)) (split (heads w₀) (flags w₀) (params_from lo (tab n t)) (consts w₀)) (words.runs-good g s.runs s.kept) new refl

-- both together
params_are : (w : List ℕ) → Good w → prevent_inline_of_params (stack w) ≡ split (heads w) (flags w) (params_from (fn_start (heads w)) (binds w)) (consts w)
unfolding stack binds
params_are w g = params-split (heads w) (flags w) (binds w) (consts w) (rw (length-tab (get_or w 1 0) (λ k. bind_at w k)) g.fits)

pub params-becomes : {w w' : List ℕ} (lo : ℕ) → Good w → lo ≡ fn_start (heads w) → Becomes w w' (split (heads w) (flags w) (params_from lo (binds w)) (consts w)) → Becomes w w' (prevent_inline_of_params (stack w))
params-becomes {w} lo g e b = rw (params_are w g, ← e) b

pub start-low : (w : List ℕ) → Good w → fn_start (heads w) ≤ get_or w 1 0
start-low w g = start-le (heads w) (get_or w 1 0) g.fits

-- by the first scope outwards that is a function, if there is one
abbrev pub start_of : List ℕ → Answer ℕ → ℕ
start_of w None = 0
start_of w (Some k) = first w k

module _ (w : List ℕ) where
  abbrev pub fn-at : ℕ → Bool
  fn-at k = is_fn (scope_at w k).kind

  nearest : (d : ℕ) → d ≤ get_or w 2 0 → start_of w (find fn-at (down d)) ≡ fn_start (heads_at w d)
  unfolding heads_at scope_at
  nearest zero h = refl
  nearest (suc d) h = laws.tested (fn-at d)
      (λ e. ap (λ (p : Bool). start_of w (cond p (Some d) (find fn-at (down d)))) e ∙ out.first-in w d (omega arith) ∙ sym (start-fn (head_at w d) (heads_at w d) e))
      (λ e. ap (λ (p : Bool). start_of w (cond p (Some d) (find fn-at (down d)))) e ∙ nearest d (omega arith) ∙ sym (start-on (head_at w d) (heads_at w d) e))

  pub nearest-all : start_of w (find fn-at (down (get_or w 2 0))) ≡ fn_start (heads w)
  unfolding heads
  nearest-all = nearest (get_or w 2 0) (omega arith)
