-- What an operation on the stack is on the list of all bindings. Pure lists: no words. Assumes nothing.
use Rattle.std.proofs.Common.{◌≡◌, ℕ, zero, suc, ◌+◌, ◌<◌, ◌≤◌, Bool, true, false, ◌||◌, eqb, List, [], ◌∷◌, ◌++◌, map, length, get_or, take, drop, set, sym, refl, ap, ◌∙◌, suc-add, zero-add, arith, length-drop, length-take, get_or-drop, get_or-take, eq-eqb, ne_eqb}
use mathlib.Core.Option.{Option, none, some}
use lib.Seq.{take-append-le, drop-append-le, take-length, drop-length}
use Rattle.def_tree.specs.Base.{or_else}
use Rattle.def_tree.specs.Tree.{Tree}
use Rattle.def_pass.specs.Scope.{VarInfo, Scope, Stack, ScopeKind, find_in, has_in, is_some, change_in, change, on_bindings, prevent_one, prevent_inline, new_scope, append, param, put, find_binding}
use Rattle.words.specs.Layout.{yes}
use Rattle.words_scopes.specs.State.{Head, split, scope_of, index_in, place, drop_inner}

abbrev pub no_bind : VarInfo
no_bind = record { id = 0; kind = param; alias_of = none; read_cnt = 0; inline_prevented = false; is_undefined = false; value = none; this_sensitive = false; hoisted = false; count = 0 }

-- the element at k changed by f
abbrev pub touch : ℕ → (VarInfo → VarInfo) → List VarInfo → List VarInfo
touch k f [] = []
touch zero f (b ∷ bs) = f b ∷ bs
touch (suc k) f (b ∷ bs) = b ∷ touch k f bs

pub length-touch : (k : ℕ) (f : VarInfo → VarInfo) (bs : List VarInfo) → length (touch k f bs) ≡ length bs
length-touch k f [] = refl
length-touch zero f (b ∷ bs) = refl
length-touch (suc k) f (b ∷ bs) = ap suc (length-touch k f bs)

pub touch-set : (k : ℕ) (f : VarInfo → VarInfo) (bs : List VarInfo) (d : VarInfo) → k < length bs → touch k f bs ≡ set bs k (f (get_or bs k d))
touch-set k f [] d h = absurd (omega arith)
touch-set zero f (b ∷ bs) d h = refl
touch-set (suc k) f (b ∷ bs) d h = ap (λ (l : List VarInfo). b ∷ l) (touch-set k f bs d (omega arith))

drop-touch : (a k : ℕ) (f : VarInfo → VarInfo) (bs : List VarInfo) → drop a (touch (a + k) f bs) ≡ touch k f (drop a bs)
drop-touch zero k f bs = rw zero-add refl
drop-touch (suc a) k f [] = refl
drop-touch (suc a) k f (b ∷ bs) = rw suc-add (drop-touch a k f bs)

take-touch : (a k : ℕ) (f : VarInfo → VarInfo) (bs : List VarInfo) → take a (touch (a + k) f bs) ≡ take a bs
take-touch zero k f bs = refl
take-touch (suc a) k f [] = refl
take-touch (suc a) k f (b ∷ bs) = rw suc-add (ap (λ (l : List VarInfo). b ∷ l) (take-touch a k f bs))

drop-touch-lt : (a k : ℕ) (f : VarInfo → VarInfo) (bs : List VarInfo) → k < a → drop a (touch k f bs) ≡ drop a bs
drop-touch-lt zero k f bs h = absurd (omega arith)
drop-touch-lt (suc a) k f [] h = refl
drop-touch-lt (suc a) zero f (b ∷ bs) h = refl
drop-touch-lt (suc a) (suc k) f (b ∷ bs) h = drop-touch-lt a k f bs (omega arith)

take-touch-lt : (a k : ℕ) (f : VarInfo → VarInfo) (bs : List VarInfo) → k < a → take a (touch k f bs) ≡ touch k f (take a bs)
take-touch-lt zero k f bs h = absurd (omega arith)
take-touch-lt (suc a) k f [] h = refl
take-touch-lt (suc a) zero f (b ∷ bs) h = refl
take-touch-lt (suc a) (suc k) f (b ∷ bs) h = ap (λ (l : List VarInfo). b ∷ l) (take-touch-lt a k f bs (omega arith))

-- a test that is known
module _ (i : ℕ) (b : VarInfo) (bs : List VarInfo) where
  pub has-yes : eqb b.id i ≡ true → has_in i (b ∷ bs) ≡ true
  has-yes e = ap (λ (p : Bool). is_some {A = VarInfo} (elim p [ true ↦ some b | false ↦ find_in i bs ])) e

  pub has_no : eqb b.id i ≡ false → has_in i (b ∷ bs) ≡ has_in i bs
  has_no e = ap (λ (p : Bool). is_some {A = VarInfo} (elim p [ true ↦ some b | false ↦ find_in i bs ])) e

  pub index-yes : eqb b.id i ≡ true → index_in i (b ∷ bs) ≡ 0
  index-yes e = ap (λ (p : Bool). elim p [ true ↦ 0 | false ↦ suc (index_in i bs) ]) e

  pub index-no : eqb b.id i ≡ false → index_in i (b ∷ bs) ≡ suc (index_in i bs)
  index-no e = ap (λ (p : Bool). elim p [ true ↦ 0 | false ↦ suc (index_in i bs) ]) e

  pub change-yes : (f : VarInfo → VarInfo) → eqb b.id i ≡ true → change_in i f (b ∷ bs) ≡ f b ∷ bs
  change-yes f e = ap (λ (p : Bool). elim p [ true ↦ f b ∷ bs | false ↦ b ∷ change_in i f bs ]) e

  pub change-no : (f : VarInfo → VarInfo) → eqb b.id i ≡ false → change_in i f (b ∷ bs) ≡ b ∷ change_in i f bs
  change-no f e = ap (λ (p : Bool). elim p [ true ↦ f b ∷ bs | false ↦ b ∷ change_in i f bs ]) e

module _ (i : ℕ) (h : Head) (hs : List Head) (bs : List VarInfo) where
  pub place-yes : has_in i (drop h.start bs) ≡ true → place i (h ∷ hs) bs ≡ suc (h.start + index_in i (drop h.start bs))
  place-yes e = ap (λ (p : Bool). elim p [ true ↦ suc (h.start + index_in i (drop h.start bs)) | false ↦ place i hs (take h.start bs) ]) e

  pub place-no : has_in i (drop h.start bs) ≡ false → place i (h ∷ hs) bs ≡ place i hs (take h.start bs)
  place-no e = ap (λ (p : Bool). elim p [ true ↦ suc (h.start + index_in i (drop h.start bs)) | false ↦ place i hs (take h.start bs) ]) e

module _ (i : ℕ) (f : VarInfo → VarInfo) (s : Scope) (st : Stack) where
  pub here-yes : has_in i s.bindings ≡ true → change i f (s ∷ st) ≡ on_bindings (change_in i f) s ∷ st
  here-yes e = ap (λ (p : Bool). elim p [ true ↦ on_bindings (change_in i f) s ∷ st | false ↦ s ∷ change i f st ]) e

  pub here-no : has_in i s.bindings ≡ false → change i f (s ∷ st) ≡ s ∷ change i f st
  here-no e = ap (λ (p : Bool). elim p [ true ↦ on_bindings (change_in i f) s ∷ st | false ↦ s ∷ change i f st ]) e

-- either way
pub tested : {A : Type 0} (p : Bool) → (p ≡ true → A) → (p ≡ false → A) → A
tested true x y = x refl
tested false x y = y refl

-- in one scope
pub in-hit : (i : ℕ) (bs : List VarInfo) (r : ℕ) → r < length bs → (get_or bs r no_bind).id ≡ i → ((j : ℕ) → j < r → (get_or bs j no_bind).id ≡ i → ⊥) → (has_in i bs ≡ true) × (index_in i bs ≡ r)
in-hit i [] r h e m = absurd (omega arith)
in-hit i (b ∷ bs) zero h e m = let q = eq-eqb b.id i e in (has-yes i b bs q, index-yes i b bs q)
in-hit i (b ∷ bs) (suc r) h e m =
    let t = in-hit i bs r (omega arith) e (λ j l. m (suc j) (omega arith)) in
    let q = ne_eqb b.id i (m 0 (omega arith)) in
    (has_no i b bs q ∙ t.0, index-no i b bs q ∙ ap suc t.1)

pub in-miss : (i : ℕ) (bs : List VarInfo) → ((j : ℕ) → j < length bs → (get_or bs j no_bind).id ≡ i → ⊥) → has_in i bs ≡ false
in-miss i [] m = refl
in-miss i (b ∷ bs) m = has_no i b bs (ne_eqb b.id i (m 0 (omega arith))) ∙ in-miss i bs (λ j l. m (suc j) (omega arith))

pub never : false ≡ true → ⊥
never e = let z : ◌≡◌ {A = ℕ} 0 1 = cc in omega arith

pub index-lt : (i : ℕ) (bs : List VarInfo) → has_in i bs ≡ true → index_in i bs < length bs
index-lt i [] h = absurd (never h)
index-lt i (b ∷ bs) h = tested (eqb b.id i)
    (λ e. omega (arith, index-yes i b bs e))
    (λ e. omega (arith, index-no i b bs e, index-lt i bs (sym (has_no i b bs e) ∙ h)))

change-touch : (i : ℕ) (f : VarInfo → VarInfo) (bs : List VarInfo) → has_in i bs ≡ true → change_in i f bs ≡ touch (index_in i bs) f bs
change-touch i f [] h = refl
change-touch i f (b ∷ bs) h = tested (eqb b.id i)
    (λ e. change-yes i b bs f e ∙ rw (index-yes i b bs e) refl)
    (λ e. change-no i b bs f e ∙ rw (index-no i b bs e) (ap (λ (l : List VarInfo). b ∷ l) (change-touch i f bs (sym (has_no i b bs e) ∙ h))))

-- in all scopes
abbrev pub touched : ℕ → (VarInfo → VarInfo) → List VarInfo → List VarInfo
touched zero f bs = bs
touched (suc k) f bs = touch k f bs

pub place-le : (i : ℕ) (hs : List Head) (bs : List VarInfo) → place i hs bs ≤ length bs
place-le i [] bs = omega arith
place-le i (h ∷ hs) bs = tested (has_in i (drop h.start bs))
    (λ e. omega (arith, place-yes i h hs bs e, length-drop h.start bs, index-lt i (drop h.start bs) e))
    (λ e. omega (arith, place-no i h hs bs e, place-le i hs (take h.start bs), length-take h.start bs))

-- the change lies below a
below : (a : ℕ) (f : VarInfo → VarInfo) (bs : List VarInfo) (k : ℕ) → k ≤ length (take a bs) → (touched k f (take a bs) ≡ take a (touched k f bs)) × (drop a (touched k f bs) ≡ drop a bs)
below a f bs zero l = (refl, refl)
below a f bs (suc k) l = let m : k < a = omega (arith, length-take a bs) in (sym (take-touch-lt a k f bs m), drop-touch-lt a k f bs m)

pub change-place : (i : ℕ) (f : VarInfo → VarInfo) (hs : List Head) (fl : List ℕ) (bs : List VarInfo) (cs : List (ℕ × Option Tree))
    → change i f (split hs fl bs cs) ≡ split hs fl (touched (place i hs bs) f bs) cs
change-place i f [] fl bs cs = refl
change-place i f (h ∷ hs) fl bs cs =
    let a : ℕ = h.start in
    let s : Scope = scope_of h (drop a fl) (drop a bs) (drop h.cstart cs) in
    let st : Stack = split hs (take a fl) (take a bs) (take h.cstart cs) in
    tested (has_in i (drop a bs))
    (λ e. here-yes i f s st e ∙ rw (place-yes i h hs bs e, drop-touch a (index_in i (drop a bs)) f bs, take-touch a (index_in i (drop a bs)) f bs, change-touch i f (drop a bs) e) refl)
    (λ e.
    let l = below a f bs (place i hs (take a bs)) (place-le i hs (take a bs)) in
    here-no i f s st e ∙ rw (place-no i h hs bs e, l.1, ← l.0, change-place i f hs (take a fl) (take a bs) (take h.cstart cs)) refl)

-- the binding found
pub find-place : (i : ℕ) (hs : List Head) (bs : List VarInfo) (k : ℕ) → place i hs bs ≡ suc k → k < length bs
find-place i hs bs k e = omega (arith, place-le i hs bs)

module _ (i : ℕ) (b : VarInfo) (bs : List VarInfo) where
  found-yes : eqb b.id i ≡ true → find_in i (b ∷ bs) ≡ some b
  found-yes e = ap (λ (p : Bool). elim p [ true ↦ some b | false ↦ find_in i bs ]) e

  found-no : eqb b.id i ≡ false → find_in i (b ∷ bs) ≡ find_in i bs
  found-no e = ap (λ (p : Bool). elim p [ true ↦ some b | false ↦ find_in i bs ]) e

pub in-found : (i : ℕ) (bs : List VarInfo) → has_in i bs ≡ true → find_in i bs ≡ some (get_or bs (index_in i bs) no_bind)
in-found i [] h = absurd (never h)
in-found i (b ∷ bs) h = tested (eqb b.id i)
    (λ e. found-yes i b bs e ∙ rw (index-yes i b bs e) refl)
    (λ e. found-no i b bs e ∙ rw (index-no i b bs e) (in-found i bs (sym (has_no i b bs e) ∙ h)))

pub in-none : (i : ℕ) (bs : List VarInfo) → has_in i bs ≡ false → find_in i bs ≡ none
in-none i [] h = refl
in-none i (b ∷ bs) h = tested (eqb b.id i)
    (λ e. absurd (never (sym h ∙ has-yes i b bs e)))
    (λ e. found-no i b bs e ∙ in-none i bs (sym (has_no i b bs e) ∙ h))

-- the binding at a place
abbrev pub at : ℕ → List VarInfo → Option VarInfo
at zero bs = none
at (suc k) bs = some (get_or bs k no_bind)

at_take : (k a : ℕ) (bs : List VarInfo) → k ≤ length (take a bs) → at k (take a bs) ≡ at k bs
at_take zero a bs h = refl
at_take (suc k) a bs h = ap some (get_or-take a bs k no_bind (omega (arith, length-take a bs)))

pub find-split : (i : ℕ) (hs : List Head) (fl : List ℕ) (bs : List VarInfo) (cs : List (ℕ × Option Tree)) → find_binding i (split hs fl bs cs) ≡ at (place i hs bs) bs
find-split i [] fl bs cs = refl
find-split i (h ∷ hs) fl bs cs =
    let a : ℕ = h.start in
    let rest : Option VarInfo = find_binding i (split hs (take a fl) (take a bs) (take h.cstart cs)) in
    tested (has_in i (drop a bs))
    (λ e. ap (λ (o : Option VarInfo). or_else o rest) (in-found i (drop a bs) e) ∙ rw (place-yes i h hs bs e, get_or-drop a bs (index_in i (drop a bs)) no_bind) refl)
    (λ e. ap (λ (o : Option VarInfo). or_else o rest) (in-none i (drop a bs) e) ∙ find-split i hs (take a fl) (take a bs) (take h.cstart cs) ∙ rw (place-no i h hs bs e) (at_take (place i hs (take a bs)) a bs (place-le i hs (take a bs))))

-- prevent_inline
pub map-drop : (f : VarInfo → VarInfo) (n : ℕ) (bs : List VarInfo) → drop n (map f bs) ≡ map f (drop n bs)
map-drop f zero bs = refl
map-drop f (suc n) [] = refl
map-drop f (suc n) (b ∷ bs) = map-drop f n bs

pub map-take : (f : VarInfo → VarInfo) (n : ℕ) (bs : List VarInfo) → take n (map f bs) ≡ map f (take n bs)
map-take f zero bs = refl
map-take f (suc n) [] = refl
map-take f (suc n) (b ∷ bs) = ap (λ (l : List VarInfo). f b ∷ l) (map-take f n bs)

pub prevent-split : (i : ℕ) (hs : List Head) (fl : List ℕ) (bs : List VarInfo) (cs : List (ℕ × Option Tree)) → prevent_inline i (split hs fl bs cs) ≡ split hs fl (map (prevent_one i) bs) cs
prevent-split i [] fl bs cs = refl
prevent-split i (h ∷ hs) fl bs cs = rw (map-drop (prevent_one i) h.start bs, map-take (prevent_one i) h.start bs, prevent-split i hs (take h.start fl) (take h.start bs) (take h.cstart cs)) refl

-- a scope is opened
no-bars : (j : ℕ) → ◌≡◌ {A = ℕ} (get_or (0 ∷ []) j 0) 0
no-bars zero = refl
no-bars (suc j) = refl

pub open-split : (k : ScopeKind) (h : Head) (hs : List Head) (fl : List ℕ) (bs : List VarInfo) (cs : List (ℕ × Option Tree))
    → h.kind ≡ k → h.zeroth ≡ 0 → ((j : ℕ) → get_or h.unres j 0 ≡ 0) → h.start ≡ length bs → h.cstart ≡ length cs → length fl ≡ length bs
    → split (h ∷ hs) fl bs cs ≡ new_scope k ∷ split hs fl bs cs
open-split k h hs fl bs cs w z u s c l =
    rw (w, z, s, c, ← l, take-length fl, drop-length fl, l, take-length bs, drop-length bs, take-length cs, drop-length cs)
    (ap (λ (v : (ℕ → Bool) × (ℕ → Bool)). record { kind = k; inline_barriers = v.0; bindings = []; unresolved_usages = v.1; constants = [] } ∷ split hs fl bs cs) (λ t. (λ j. ap yes (no-bars j) t, λ j. ap yes (u j) t)))

-- a binding is appended to the innermost scope
bars-more : (xs : List ℕ) (j : ℕ) → get_or (xs ++ (0 ∷ [])) j 0 ≡ get_or xs j 0
bars-more [] j = no-bars j
bars-more (x ∷ xs) zero = refl
bars-more (x ∷ xs) (suc j) = bars-more xs j

pub append-split : (b : VarInfo) (h : Head) (hs : List Head) (fl : List ℕ) (bs : List VarInfo) (cs : List (ℕ × Option Tree)) → h.start ≤ length bs → length fl ≡ length bs
    → split (h ∷ hs) (fl ++ (0 ∷ [])) (bs ++ (b ∷ [])) cs ≡ append b (split (h ∷ hs) fl bs cs)
append-split b h hs fl bs cs s l =
    let s' : h.start ≤ length fl = omega arith in
    let v : ◌≡◌ {A = ℕ → Bool} (λ j. yes (get_or (h.zeroth ∷ (drop h.start fl ++ (0 ∷ []))) j 0)) (λ j. yes (get_or (h.zeroth ∷ drop h.start fl) j 0)) = λ t j. ap yes (bars-more (h.zeroth ∷ drop h.start fl) j) t in
    rw (drop-append-le h.start bs (b ∷ []) s, take-append-le h.start bs (b ∷ []) s, drop-append-le h.start fl (0 ∷ []) s', take-append-le h.start fl (0 ∷ []) s', v) refl

-- a scope is dropped: s becomes s', with what was unresolved in h
pub drop-split : (h s s' : Head) (hs : List Head) (fl : List ℕ) (bs : List VarInfo) (cs : List (ℕ × Option Tree))
    → s'.kind ≡ s.kind → s'.start ≡ s.start → s'.cstart ≡ s.cstart → s'.zeroth ≡ s.zeroth → ((j : ℕ) → yes (get_or s'.unres j 0) ≡ (yes (get_or h.unres j 0) || yes (get_or s.unres j 0)))
    → split (s' ∷ hs) (take h.start fl) (take h.start bs) (take h.cstart cs) ≡ drop_inner (split (h ∷ s ∷ hs) fl bs cs)
drop-split h s s' hs fl bs cs a b c d u =
    let v : ◌≡◌ {A = ℕ → Bool} (λ j. yes (get_or s'.unres j 0)) (λ j. yes (get_or h.unres j 0) || yes (get_or s.unres j 0)) = λ t j. u j t in
    rw (a, b, c, d, v) refl

-- hoisting: a binding that is put is changed where it is found, and appended where not, in the innermost scope
put-yes : (c b : VarInfo) (bs : List VarInfo) → eqb b.id c.id ≡ true → put c (b ∷ bs) ≡ c ∷ bs
put-yes c b bs e = ap (λ (p : Bool). elim p [ true ↦ c ∷ bs | false ↦ b ∷ put c bs ]) e

put-no : (c b : VarInfo) (bs : List VarInfo) → eqb b.id c.id ≡ false → put c (b ∷ bs) ≡ b ∷ put c bs
put-no c b bs e = ap (λ (p : Bool). elim p [ true ↦ c ∷ bs | false ↦ b ∷ put c bs ]) e

pub put-found : (c : VarInfo) (bs : List VarInfo) → has_in c.id bs ≡ true → put c bs ≡ change_in c.id (λ b. c) bs
put-found c [] h = absurd (never h)
put-found c (b ∷ bs) h = tested (eqb b.id c.id)
    (λ e. put-yes c b bs e ∙ sym (change-yes c.id b bs (λ b. c) e))
    (λ e. put-no c b bs e ∙ ap (λ (l : List VarInfo). b ∷ l) (put-found c bs (sym (has_no c.id b bs e) ∙ h)) ∙ sym (change-no c.id b bs (λ b. c) e))

pub put-new : (c : VarInfo) (bs : List VarInfo) → has_in c.id bs ≡ false → put c bs ≡ bs ++ (c ∷ [])
put-new c [] h = refl
put-new c (b ∷ bs) h = tested (eqb b.id c.id)
    (λ e. absurd (never (sym h ∙ has-yes c.id b bs e)))
    (λ e. put-no c b bs e ∙ ap (λ (l : List VarInfo). b ∷ l) (put-new c bs (sym (has_no c.id b bs e) ∙ h)))

pub put-top : (c : VarInfo) (s : Scope) (st : Stack) → has_in c.id s.bindings ≡ true → on_bindings (put c) s ∷ st ≡ change c.id (λ b. c) (s ∷ st)
put-top c s st h = ap (λ (l : List VarInfo). on_bindings (λ bs. l) s ∷ st) (put-found c s.bindings h) ∙ sym (here-yes c.id (λ b. c) s st h)

pub put-append : (c : VarInfo) (s : Scope) (st : Stack) → has_in c.id s.bindings ≡ false → on_bindings (put c) s ∷ st ≡ append c (s ∷ st)
put-append c s st h = ap (λ (l : List VarInfo). on_bindings (λ bs. l) s ∷ st) (put-new c s.bindings h)
