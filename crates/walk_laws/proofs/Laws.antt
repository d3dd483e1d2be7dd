-- The laws by which the walks of the port meet the walks on the list: one after the other, refused, and between the two ends of a scope.
-- Assumes nothing.
use Rattle.std.proofs.Common.{◌≡◌, refl, sym, ap, ◌∙◌, Result, Ok, Err, List, ℕ, zero, suc, ◌+◌, ◌-◌, ◌≤◌, zero-add, suc-add, add-one, arith}
use mathlib.Core.Path.{ap₂}
use Rattle.def_tree.specs.Combine.{Res, stop, done, M, Nothing, and_then, Flat, Walk, on_rest, within_f, many}
use Rattle.refusal.specs.declared.Refusal.{Refusal}
use Rattle.refusal.specs.Number.{number}
use Rattle.refusal.proofs.Rows.{number-some}
use Rattle.words.specs.Layout.{tree}
use Rattle.def_pass.specs.Walk.{St}
use Rattle.words_nodes.specs.Nodes.{Planted}
use Rattle.words_state.specs.State.{rest, abs, Acts, Act, Turns}
use Rattle.words_state.proofs.Fields.{ok-self, ok-then}
use Rattle.scope.specs.Steps.{done_of}
use Rattle.walk_laws.specs.Did.{Did}

abbrev F : Type 0 → Type 0
F A = M (Flat St) A

module _ {A B : Type 0} where
  -- a walk, and what follows it
  pub did_then : {w u v : List ℕ} {a : A} {b : Result B Refusal} {r : Res (Flat St) A} (f : A → F B) → Did w u (Ok a) r → Did u v b (f a (abs u)) → Did w v b (and_then r f)
  did_then f d n = record { ok = ok-then d.ok n.ok; is = ap (λ x. and_then x f) d.is ∙ n.is }

  pub did-stop : {w u : List ℕ} {e : Refusal} {r : Res (Flat St) A} (f : A → F B) → Did w u (Err e) r → Did w u (Err e) (and_then r f)
  did-stop f d = record { ok = d.ok; is = ap (λ x. and_then x f) d.is }

module _ {B : Type 0} where
  -- a step, and what follows it
  pub act-then : {w u v : List ℕ} {b : Result B Refusal} {r : Res (Flat St) Nothing} (f : Nothing → F B) → Act w u 0 r → Did u v b (f tt (abs u)) → Did w v b (and_then r f)
  act-then {w} {u} {v} {b} {r} f a d = record { ok = ok-then a.ok d.ok; is = go r a.acts d.is }
    where
      go : (r : Res (Flat St) Nothing) → Acts u 0 r → f tt (abs u) ≡ done_of b (abs v) → and_then r f ≡ done_of b (abs v)
      go (stop m) l k = absurd (omega (arith, l.1))
      go (done st x) l k = rw l.1 at k

  pub act-stop : {w u : List ℕ} {e : Refusal} {r : Res (Flat St) Nothing} (f : Nothing → F B) → Act w u (number e) r → Did w u (Err e) (and_then r f)
  act-stop {w} {u} {e} {r} f a = record { ok = a.ok; is = go r a.acts }
    where
      go : (r : Res (Flat St) Nothing) → Acts u (number e) r → and_then r f ≡ stop (number e)
      go (stop m) l = ap stop (sym l.0)
      go (done st x) l = absurd (omega (arith, l.0, number-some e))

  -- a change of the visitor's fields alone, and what follows it
  pub turn-then : {w u v : List ℕ} {b : Result B Refusal} {s : St} (f : F B) → Turns w u s → Did u v b (f (abs u)) → Did w v b (f (record { nodes = tree w; rest = s }))
  turn-then {w} {u} {v} {b} {s} f t d = record { ok = ok-then t.ok d.ok; is = ap f (sym (same t)) ∙ d.is }
    where
      same : Turns w u s → abs u ≡ record { nodes = tree w; rest = s }
      same t = ap₂ {C = Flat St} (λ xs s. record { nodes = xs; rest = s }) t.nodes t.is

-- nothing is done
pub did-here : {w : List ℕ} (j : ℕ) → Planted w → Did w w (Ok j) (done (abs w) j)
did-here j g = record { ok = ok-self g; is = refl }

-- a loop over n trees
module _ (f : Walk St) where
  pub many-none : {w : List ℕ} (i : ℕ) → Planted w → Did w w (Ok i) (many f 0 i (abs w))
  unfolding many
  many-none i g = did-here i g

  pub many_more : {w u v : List ℕ} {b : Result ℕ Refusal} (st : Flat St) (i j k : ℕ) → Did w u (Ok j) (many f k i st) → Did u v b (f j (abs u)) → Did w v b (many f (k + 1) i st)
  unfolding many
  many_more st i j k d n = rw add-one (did_then f d n)

  many-on : (st : Flat St) (i k m n : ℕ) → many f k i st ≡ stop m → many f (n + k) i st ≡ stop m
  unfolding many
  many-on st i k m zero e = rw zero-add e
  many-on st i k m (suc n) e = rw (suc-add, many-on st i k m n e) refl

  -- refused after k of them
  pub many-cut : {w u : List ℕ} {e : Refusal} (st : Flat St) (i k n : ℕ) → k ≤ n → Did w u (Err e) (many f k i st) → Did w u (Err e) (many f n i st)
  many-cut {e = e} st i k n l d =
      let y : n ≡ n - k + k = omega arith in
      record { ok = d.ok; is = ap (λ (z : ℕ). many f z i st) y ∙ many-on st i k (number e) (n - k) d.is }

-- between enter and leave: refused on entering; refused inside; and to the end
module _ (enter : M St Nothing) (leave : St → St → St) (m : F ℕ) where
  -- the last step, and what follows the entering, from a visitor before it
  abbrev left : St → ℕ → F ℕ
  left s j = λ st. done (record { nodes = st.nodes; rest = leave s st.rest }) j

  abbrev body : St → Nothing → F ℕ
  body s x = λ st. and_then (m st) (left s)

  module _ {w u : List ℕ} where
    pub within-full : {e : Refusal} → Act w u (number e) (on_rest enter (abs w)) → Did w u (Err e) (within_f enter leave m (abs w))
    within-full a = act-stop (body (rest w)) a

    module _ (a : Act w u 0 (on_rest enter (abs w))) where
      pub within-stop : {v : List ℕ} {e : Refusal} → Did u v (Err e) (m (abs u)) → Did w v (Err e) (within_f enter leave m (abs w))
      within-stop d = act-then (body (rest w)) a (did-stop (left (rest w)) d)

      pub within-then : {v x : List ℕ} {j : ℕ} → Did u v (Ok j) (m (abs u)) → Turns v x (leave (rest w) (rest v)) → Did w x (Ok j) (within_f enter leave m (abs w))
      within-then {j = j} d t = act-then (body (rest w)) a (did_then (left (rest w)) d (record { ok = t.ok; is = ap₂ {C = Res (Flat St) ℕ} (λ xs s. done (record { nodes = xs; rest = s }) j) (sym t.nodes) (sym t.is) }))
