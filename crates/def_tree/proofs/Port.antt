-- The laws by which a function of the port, on words, meets the walk on the list; and by them the needs of a loop over children and of a
-- scope around a walk. W: the words; abs: what they stand for; Ok: what every function keeps. Assumes nothing.
use mathlib.Core.Path.{◌≡◌, refl, sym, ap, ◌∙◌}
use Prim.Native.Nat.{ℕ, zero, suc, ◌+◌, ◌-◌, ◌≤◌, ◌<◌}
use native.Mathlib.Nat.{zero-add, suc-add}
use native.Mathlib.Numerals.{add-one}
use native.Mathlib.Omega.{arith}
use Rattle.def_tree.specs.Combine.{Res, stop, done, M, Nothing, and_then, ◌>>=◌, Flat, Walk, on_rest, within_f, many}

-- what a function of the port answers
pub data Ans : Type 0 where
  At : ℕ → Ans
  Refused : ℕ → Ans

pub never : {A : Type 0} (j n : ℕ) → At j ≡ Refused n → A
never j n e = let z : ◌≡◌ {A = ℕ} 0 1 = cc in absurd (omega arith)

pub same_at : (j k : ℕ) → At j ≡ At k → j ≡ k
same_at j k e = cc

-- the answer and the state that is left are those of r
abbrev pub Lands : {F : Type 0} → Ans → F → Res F ℕ → Type 0
Lands a st (stop n) = a ≡ Refused n
Lands a st (done st' j) = (a ≡ At j) × (st ≡ st')

-- the last step of `within_f`
abbrev pub leaving : {S : Type 0} → (S → S → S) → S → ℕ → M (Flat S) ℕ
leaving leave s a = λ st. done (record { nodes = st.nodes; rest = leave s st.rest }) a

module _ {S W : Type 0} (abs : W → Flat S) (Ok : W → W → Type 0) (trans : (w u v : W) → Ok w u → Ok u v → Ok w v) where
  -- the words became u, with the answer a, and that is what r says. After a refusal nothing is said of the state
  pub record Did (w u : W) (a : Ans) (r : Res (Flat S) ℕ) : Type 0 where
    pub ok : Ok w u
    pub lands : Lands a (abs u) r

  -- a leaf function that leaves the nodes alone: the number 0, or a refusal's
  abbrev Acts : W → ℕ → Res (Flat S) Nothing → Type 0
  Acts u n (stop m) = (n ≡ m) × (0 < n)
  Acts u n (done st x) = (n ≡ 0) × (abs u ≡ st)

  pub did_then : {w u v : W} {a b : Ans} {j : ℕ} {r : Res (Flat S) ℕ} (f : ℕ → M (Flat S) ℕ) → a ≡ At j → Did w u a r → Did u v b (f j (abs u)) → Did w v b (and_then r f)
  did_then {w} {u} {v} {a} {b} {j} {r} f e d n = record { ok = trans _ _ _ d.ok n.ok; lands = go r d.lands n.lands }
    where
      go : (r : Res (Flat S) ℕ) → Lands a (abs u) r → Lands b (abs v) (f j (abs u)) → Lands b (abs v) (and_then r f)
      go (stop m) l k = never j m (sym e ∙ l)
      go (done st i) l k = rw (same_at j i (sym e ∙ l.0), l.1) at k

  pub did-stop : {w u : W} {a : Ans} {m : ℕ} {r : Res (Flat S) ℕ} (f : ℕ → M (Flat S) ℕ) → a ≡ Refused m → Did w u a r → Did w u a (and_then r f)
  did-stop {w} {u} {a} {m} {r} f e d = record { ok = d.ok; lands = go r d.lands }
    where
      go : (r : Res (Flat S) ℕ) → Lands a (abs u) r → Lands a (abs u) (and_then r f)
      go (stop n) l = l
      go (done st i) l = never i m (sym l.0 ∙ e)

  -- a loop over n trees from i on
  module _ (f : Walk S) where
    pub many-none : {w : W} (i : ℕ) → Ok w w → Did w w (At i) (many f 0 i (abs w))
    unfolding many
    many-none i o = record { ok = o; lands = (refl, refl) }

    pub many_more : {w u v : W} {a : Ans} (st : Flat S) (i j k : ℕ) → Did w u (At j) (many f k i st) → Did u v a (f j (abs u)) → Did w v a (many f (k + 1) i st)
    unfolding many
    many_more st i j k d n = rw add-one (did_then f refl d n)

    many-on : (st : Flat S) (i k m n : ℕ) → many f k i st ≡ stop m → many f (n + k) i st ≡ stop m
    unfolding many
    many-on st i k m zero e = rw zero-add e
    many-on st i k m (suc n) e = rw (suc-add, many-on st i k m n e) refl

    pub many-cut : {w u : W} {a : Ans} (st : Flat S) (i k m n : ℕ) → a ≡ Refused m → k ≤ n → Did w u a (many f k i st) → Did w u a (many f n i st)
    many-cut {w} {u} {a} st i k m n e l d = record { ok = d.ok; lands = go (many f k i st) refl d.lands }
      where
        go : (r : Res (Flat S) ℕ) → many f k i st ≡ r → Lands a (abs u) r → Lands a (abs u) (many f n i st)
        go (stop x) q h = let y : n ≡ n - k + k = omega arith in rw (ap (λ (z : ℕ). many f z i st) y ∙ many-on st i k x (n - k) q) h
        go (done st₁ j) q h = never j m (sym h.0 ∙ e)

  -- between enter and leave
  module _ (enter : M S Nothing) (leave : S → S → S) (m : M (Flat S) ℕ) {w u : W} {n : ℕ} (o : Ok w u) (e : Acts u n (on_rest enter (abs w))) where
    pub within-full : 0 < n → Did w u (Refused n) (within_f enter leave m (abs w))
    within-full h = record { ok = o; lands = go (on_rest enter (abs w)) e }
      where
        go : (r : Res (Flat S) Nothing) → Acts u n r → Lands (Refused n) (abs u) (and_then r (λ x st₁. and_then (m st₁) (leaving leave (abs w).rest)))
        go (stop k) x = ap Refused x.0
        go (done st a) x = absurd (omega (arith, x.0))

    inside : {v : W} {a : Ans} → n ≡ 0 → Did u v a (and_then (m (abs u)) (leaving leave (abs w).rest)) → Did w v a (within_f enter leave m (abs w))
    inside {v} {a} h d = record { ok = trans _ _ _ o d.ok; lands = go (on_rest enter (abs w)) e d.lands }
      where
        go : (r : Res (Flat S) Nothing) → Acts u n r → Lands a (abs v) (and_then (m (abs u)) (leaving leave (abs w).rest)) → Lands a (abs v) (and_then r (λ x st₁. and_then (m st₁) (leaving leave (abs w).rest)))
        go (stop k) x l = absurd (omega (arith, x.1))
        go (done st y) x l = rw x.1 at l

    pub within-stop : {v : W} {a : Ans} {k : ℕ} → n ≡ 0 → a ≡ Refused k → Did u v a (m (abs u)) → Did w v a (within_f enter leave m (abs w))
    within-stop h q d = inside h (did-stop (leaving leave (abs w).rest) q d)

    pub within-then : {v x : W} {a : Ans} {j : ℕ} → n ≡ 0 → a ≡ At j → Did u v a (m (abs u)) → Ok v x → abs x ≡ record { nodes = (abs v).nodes; rest = leave (abs w).rest (abs v).rest } → Did w x (At j) (within_f enter leave m (abs w))
    within-then h q d o₁ c = inside h (did_then (leaving leave (abs w).rest) q d (record { ok = o₁; lands = (refl, c) }))

  -- the needs of && (plain, then once more in a scope) by these laws: one line each
  module _ (g : Walk S) (enter : M S Nothing) (leave : S → S → S) where
    abbrev both_f : Walk S
    both_f i = g i >>= λ j. within_f enter leave (g i)

    exit-1 : {w u : W} {a : Ans} {i n : ℕ} → a ≡ Refused n → Did w u a (g i (abs w)) → Did w u a (both_f i (abs w))
    exit-1 {i = i} e d = did-stop (λ j. within_f enter leave (g i)) e d

    exit-2 : {w u u₁ : W} {a : Ans} {i j n : ℕ} → a ≡ At j → Did w u a (g i (abs w)) → Ok u u₁ → Acts u₁ n (on_rest enter (abs u)) → 0 < n → Did w u₁ (Refused n) (both_f i (abs w))
    exit-2 {i = i} e d o x h = did_then (λ j. within_f enter leave (g i)) e d (within-full enter leave (g i) o x h)

    exit-3 : {w u u₁ v : W} {a b : Ans} {i j n k : ℕ} → a ≡ At j → Did w u a (g i (abs w)) → Ok u u₁ → Acts u₁ n (on_rest enter (abs u)) → n ≡ 0 → Did u₁ v b (g i (abs u₁)) → b ≡ Refused k → Did w v b (both_f i (abs w))
    exit-3 {i = i} e d o x h d₁ q = did_then (λ j. within_f enter leave (g i)) e d (within-stop enter leave (g i) o x h q d₁)

    exit-4 : {w u u₁ v v₁ : W} {a b : Ans} {i j n k : ℕ} → a ≡ At j → Did w u a (g i (abs w)) → Ok u u₁ → Acts u₁ n (on_rest enter (abs u)) → n ≡ 0 → Did u₁ v b (g i (abs u₁)) → b ≡ At k → Ok v v₁
        → abs v₁ ≡ record { nodes = (abs v).nodes; rest = leave (abs u).rest (abs v).rest } → Did w v₁ (At k) (both_f i (abs w))
    exit-4 {i = i} e d o x h d₁ q o₁ c = did_then (λ j. within_f enter leave (g i)) e d (within-then enter leave (g i) o x h q d₁ o₁ c)
