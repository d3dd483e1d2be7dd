-- The counts balance: through every step, walk and run the live counts and the ended total are the replacements made. Assumes nothing.
use mathlib.Core.Path.{◌≡◌, refl, sym, ap, ◌∙◌, subst}
use mathlib.Core.Bool.{Bool, true, false, ◌||◌}
use mathlib.Core.Option.{Option, none, some}
use mathlib.Core.List.{List, [], ◌∷◌, ◌++◌, map}
use Prim.Native.Nat.{ℕ, ◌+◌, ◌%◌}
use native.Mathlib.Omega.{arith}
use lib.Dec.{eqb}
use Rattle.def_tree.specs.Base.{pick, or_else}
use Rattle.def_tree.specs.Combine.{Res, done}
use Rattle.def_pass.specs.Tree.{Tree}
use Rattle.def_pass.specs.Scope as Scope
use Rattle.def_pass.specs.Scope.{VarInfo, Stack, counts_in, count_in, live_counts, hoist_all, ending_all, ending, close}
use Rattle.def_pass.specs.Walk as Walk
use Rattle.def_pass.specs.Walk.{St}
use Rattle.laws_pass.specs.Reached.{Step, opens, prevents, reads, writes, senses, bars, declares, stores, begins, fixes, first, step, closes, counts, same}
use Rattle.laws_pass.specs.Balanced.{Balanced, CountsBalance}
use Rattle.laws_pass.proofs.Measure.{Const, Kept, all, same-prevent, same-change, same_read, same_write, same-barrier, same-sensitive, same-declare}
use Rattle.laws_pass.proofs.Effects.{Went, run-does}
use Rattle.laws_pass.proofs.StateLaws.{StateLaw, StateEffects, law, effects}

-- scope by scope
abbrev per : List VarInfo → List Const → ℕ
per bs cs = counts_in bs

abbrev sum : List ℕ → ℕ
sum [] = 0
sum (n ∷ ns) = n + sum ns

by-scope : (st : Stack) → live_counts st ≡ sum (all per st)
by-scope [] = refl
by-scope (s ∷ st) = ap (λ (n : ℕ). counts_in s.bindings + n) (by-scope st)

mapped : (f : VarInfo → VarInfo) → ((b : VarInfo) → (f b).count ≡ b.count) → (bs : List VarInfo) → counts_in (map f bs) ≡ counts_in bs
mapped f e [] = refl
mapped f e (b ∷ bs) = omega (arith, e b, mapped f e bs)

changed : (i : ℕ) (f : VarInfo → VarInfo) → ((b : VarInfo) → (f b).count ≡ b.count) → (bs : List VarInfo) → counts_in (Scope.change_in i f bs) ≡ counts_in bs
changed i f e [] = refl
changed i f e (b ∷ bs) = go (eqb b.id i) (changed i f e bs)
  where
    go : (c : Bool) → counts_in (Scope.change_in i f bs) ≡ counts_in bs → counts_in (elim c [ true ↦ f b ∷ bs | false ↦ b ∷ Scope.change_in i f bs ]) ≡ b.count + counts_in bs
    go true h = omega (arith, e b)
    go false h = omega (arith, h)

appended : (b : VarInfo) → b.count ≡ 0 → (bs : List VarInfo) → counts_in (bs ++ (b ∷ [])) ≡ counts_in bs
appended b e [] = omega (arith, e)
appended b e (c ∷ bs) = omega (arith, appended b e bs)

kept : Kept per
kept = record { mapped = λ f e bs cs. mapped f e bs; changed = λ i f e bs cs. changed i f e bs; appended = λ b e bs cs. appended b e bs }

-- a new constant
with-const : (tg : ℕ → Bool) (i : ℕ) (v : Option Tree) (st : Stack) → all per (Scope.add_const tg i v st) ≡ all per st
with-const tg i v [] = refl
with-const tg i v (s ∷ st) = refl

-- a replacement counted at the binding found
counted-in : (i : ℕ) (bs : List VarInfo) → Scope.has_in i bs ≡ true → counts_in (Scope.change_in i Scope.count_one bs) % 4294967296 ≡ (counts_in bs + 1) % 4294967296
counted-in i [] h = absurd (let n : ◌≡◌ {A = ℕ} 0 1 = cc in omega arith)
counted-in i (b ∷ bs) h = go (eqb b.id i) h (counted-in i bs)
  where
    go : (c : Bool) → Scope.is_some {A = VarInfo} (elim c [ true ↦ some b | false ↦ Scope.find_in i bs ]) ≡ true → (Scope.has_in i bs ≡ true → counts_in (Scope.change_in i Scope.count_one bs) % 4294967296 ≡ (counts_in bs + 1) % 4294967296)
        → counts_in (elim c [ true ↦ Scope.count_one b ∷ bs | false ↦ b ∷ Scope.change_in i Scope.count_one bs ]) % 4294967296 ≡ (b.count + counts_in bs + 1) % 4294967296
    go true h k = omega arith
    go false h k = omega (arith, k h)

counted : (i : ℕ) (st : Stack) → Scope.is_some (Scope.find_binding i st) ≡ true → live_counts (Scope.change i Scope.count_one st) % 4294967296 ≡ (live_counts st + 1) % 4294967296
counted i [] h = absurd (let n : ◌≡◌ {A = ℕ} 0 1 = cc in omega arith)
counted i (s ∷ st) h = go (Scope.find_in i s.bindings) refl h (counted i st)
  where
    go : (o : Option VarInfo) → Scope.find_in i s.bindings ≡ o → Scope.is_some (or_else o (Scope.find_binding i st)) ≡ true
        → (Scope.is_some (Scope.find_binding i st) ≡ true → live_counts (Scope.change i Scope.count_one st) % 4294967296 ≡ (live_counts st + 1) % 4294967296)
        → live_counts (elim (Scope.is_some o) [ true ↦ Scope.on_bindings (Scope.change_in i Scope.count_one) s ∷ st | false ↦ s ∷ Scope.change i Scope.count_one st ]) % 4294967296 ≡ (counts_in s.bindings + live_counts st + 1) % 4294967296
    go none e h k = omega (arith, k h)
    go (some b) e h k = omega (arith, counted-in i s.bindings (ap Scope.is_some e))

-- a scope ends
put-over : (c : VarInfo) (bs : List VarInfo) → counts_in (Scope.put c bs) + count_in c.id bs ≡ c.count + counts_in bs
put-over c [] = omega arith
put-over c (b ∷ bs) = go (eqb b.id c.id) (put-over c bs)
  where
    go : (p : Bool) → counts_in (Scope.put c bs) + count_in c.id bs ≡ c.count + counts_in bs
        → counts_in (elim p [ true ↦ c ∷ bs | false ↦ b ∷ Scope.put c bs ]) + elim p [ true ↦ b.count | false ↦ count_in c.id bs ] ≡ c.count + (b.count + counts_in bs)
    go true h = omega arith
    go false h = omega (arith, h)

hoisted : (us : ℕ → Bool) (cs bs : List VarInfo) → counts_in (hoist_all us cs bs) + ending_all us cs bs ≡ counts_in cs + counts_in bs
hoisted us [] bs = omega arith
hoisted us (c ∷ cs) bs = go (Scope.is_var c.kind) (λ new. hoisted us cs new)
  where
    go : (p : Bool) → ((new : List VarInfo) → counts_in (hoist_all us cs new) + ending_all us cs new ≡ counts_in cs + counts_in new)
        → (let new = pick p (Scope.put (Scope.hoist us c) bs) bs in counts_in (hoist_all us cs new) + (pick p (count_in c.id bs) c.count + ending_all us cs new) ≡ c.count + counts_in cs + counts_in bs)
    go true h = omega (arith, h (Scope.put (Scope.hoist us c) bs), put-over (Scope.hoist us c) bs)
    go false h = omega (arith, h bs)

closed : (st : Stack) → live_counts (close st) + ending st ≡ live_counts st
unfolding close ending
closed [] = refl
closed (c ∷ []) = omega arith
closed (c ∷ s ∷ st) = go (Scope.is_fn c.kind)
  where
    us : ℕ → Bool
    us = λ j. c.unresolved_usages j || s.unresolved_usages j

    go : (p : Bool) → counts_in (pick p s.bindings (hoist_all us c.bindings s.bindings)) + live_counts st + pick p (counts_in c.bindings) (ending_all us c.bindings s.bindings) ≡ counts_in c.bindings + (counts_in s.bindings + live_counts st)
    go true = omega arith
    go false = omega (arith, hoisted us c.bindings s.bindings)

-- as a law of the walks
abbrev balance : StateLaw
balance = record { Inv = Balanced; Move = λ m s n s'. Unit {0}; Stop = λ n. Unit {0} }

-- a step that keeps the counts of each scope
stays : (f : Stack → Stack) → ((st : Stack) → all per (f st) ≡ all per st) → (s : St) → Balanced s → Balanced (Walk.set_stack (f s.stack) s)
stays f e s o = ap (λ (n : ℕ). Scope.wrap (n + s.ended)) (by-scope (f s.stack) ∙ ap sum (e s.stack) ∙ sym (by-scope s.stack)) ∙ o

tallied : (i : ℕ) (s : St) → Scope.is_some (Scope.find_binding i s.stack) ≡ true → Balanced s → Balanced (Walk.tally i s)
tallied i s f o = go (live_counts (Scope.change i Scope.count_one s.stack)) (live_counts s.stack) s.ended s.replaced (counted i s.stack f) o
  where
    go : (x y e r : ℕ) → x % 4294967296 ≡ (y + 1) % 4294967296 → (y + e) % 4294967296 ≡ r → (x + e) % 4294967296 ≡ (r + 1) % 4294967296
    go x y e r h k = sym (less x e) ∙ ap (λ (z : ℕ). (z + e) % 4294967296) h ∙ less (y + 1) e ∙ over ∙ sym (less (y + e) 1) ∙ ap (λ (z : ℕ). (z + 1) % 4294967296) k
      where
        less : (a b : ℕ) → (a % 4294967296 + b) % 4294967296 ≡ (a + b) % 4294967296
        less a b = omega arith

        over : (y + 1 + e) % 4294967296 ≡ (y + e + 1) % 4294967296
        over = ap (λ (z : ℕ). z % 4294967296) (omega arith)

restored : (old s : St) → Balanced s → Balanced (Walk.restore old s)
unfolding Walk.restore
restored old s o = go (live_counts (close s.stack)) (ending s.stack) (live_counts s.stack) s.ended s.replaced (closed s.stack) o
  where
    go : (x n y e r : ℕ) → x + n ≡ y → (y + e) % 4294967296 ≡ r → (x + (e + n) % 4294967296) % 4294967296 ≡ r
    go x n y e r h k = omega (arith, h, k)

opened : (k : Scope.ScopeKind) (s : St) → Balanced s → Balanced (Walk.set_stack (Scope.new_scope k ∷ s.stack) s)
opened k s o = ap (λ (n : ℕ). Scope.wrap (n + s.ended)) (omega arith) ∙ o

aside : (s s' : St) → s'.stack ≡ s.stack → s'.ended ≡ s.ended → s'.replaced ≡ s.replaced → Balanced s → Balanced s'
aside s s' a b c o = rw (a, b, c) o

balanced : StateEffects balance
balanced = record {
  s-refl = λ n s. tt;
  s-trans = λ l m n a b c h k. tt;
  s-frame = λ k m n a b h. tt;
  eight = tt;
  nine = tt;
  recount = λ t e s o h. (o, tt);
  leave = λ n e s o. (o, tt);
  write = λ i g force n s o. (stays (Scope.add_write i g force) (same_write per kept i g force) s o, tt);
  declare = λ again i v u k n s o. (stays (Scope.declare again i v u k) (same-declare per kept again i v u k) s o, tt);
  const = λ i v n s o. (stays (Scope.add_const s.targeted i v) (with-const s.targeted i v) s o, tt);
  prevent = λ i n s o. (stays (Scope.prevent_inline i) (same-prevent per kept i) s o, tt);
  read = λ i g n s o. (stays (Scope.add_read i g) (same_read per kept i g) s o, tt);
  store = λ i v n s o. (stays (Scope.change i (Scope.with_value v)) (same-change per kept i (Scope.with_value v) (λ b. refl)) s o, tt);
  sensitive = λ i n s o. (stays (Scope.mark_this_sensitive i) (same-sensitive per kept i) s o, tt);
  barrier = λ n s o. (stays Scope.store_inline_barrier (same-barrier per kept) s o, tt);
  tally = λ i n s f o. (tallied i s f o, tt);
  opened = λ k s o. opened k s o;
  closed = λ k m n s s' o o' h. (restored s s' o', tt);
  fields = λ n s s' e o. (aside s s' e.0 e.3 e.4 o, tt);
}

-- of the states that a pass reaches
stepped : {tg : ℕ → Bool} {f : Stack → Stack} → Step tg f → (s : St) → Balanced s → Balanced (Walk.set_stack (f s.stack) s)
stepped (opens k) s o = opened k s o
stepped (prevents i) s o = stays (Scope.prevent_inline i) (same-prevent per kept i) s o
stepped (reads i a) s o = stays (Scope.add_read i a) (same_read per kept i a) s o
stepped (writes i a b) s o = stays (Scope.add_write i a b) (same_write per kept i a b) s o
stepped (senses i) s o = stays (Scope.mark_this_sensitive i) (same-sensitive per kept i) s o
stepped bars s o = stays Scope.store_inline_barrier (same-barrier per kept) s o
stepped (declares again i v u k) s o = stays (Scope.declare again i v u k) (same-declare per kept again i v u k) s o
stepped (stores i v) s o = stays (Scope.change i (Scope.with_value v)) (same-change per kept i (Scope.with_value v) (λ b. refl)) s o
stepped (begins i v) s o = stays (Scope.change i (λ b. Scope.defined (Scope.with_value v b))) (same-change per kept i (λ b. Scope.defined (Scope.with_value v b)) (λ b. refl)) s o
stepped {tg} (fixes i v) s o = stays (Scope.add_const tg i v) (with-const tg i v) s o

next : (p : ℕ) (u u' : Tree) (s s' : St) (r : Res St Tree) → Went (law balance) p u s r → r ≡ done s' u' → Balanced s'
next p u u' s s' r h e = (let k : Went (law balance) p u s (done s' u') = subst (Went (law balance) p u s) e h in k.0)

-- a run, from any balanced state
pub run-balances : (t u : Tree) (s s' : St) → Balanced s → Walk.run t s ≡ done s' u → Balanced s'
run-balances t u s s' o e = next 1 t u s s' (Walk.run t s) (run-does (law balance) (effects balance balanced) t tt s o) e

pub counts-balance : CountsBalance
counts-balance t s first = refl
counts-balance t s' (step f s g r) = stepped g s (counts-balance t s r)
counts-balance t s' (closes old s r) = restored old s (counts-balance t s r)
counts-balance t s' (counts i s f r) = tallied i s f (counts-balance t s r)
counts-balance t s'' (same s s' r a b c d) = aside s s' a c d (counts-balance t s r)
