-- Steps that leave the tree alone, as steps of the walk on the list: from what the functions below ensure, and one after the other. Assumes nothing.
use Rattle.std.proofs.Common.{Result, Ok, Err, IsErrAnd}
use mathlib.Core.Path.{◌≡◌, refl, sym, ap, ◌∙◌}
use mathlib.Core.List.{List}
use mathlib.Core.Bool.{true, false}
use Prim.Native.Nat.{ℕ, ◌<◌}
use native.Mathlib.Omega.{arith}
use lib.ListN.{length, get_or, length-drop}
use Rattle.def_tree.specs.Tree.{Core}
use Rattle.def_tree.specs.Combine.{Res, stop, done, M, Nothing, and_then, Flat, carry, on_rest}
use Rattle.def_pass.specs.Scope.{Stack}
use Rattle.def_pass.specs.Walk.{St, mark, grow}
use Rattle.words.specs.Layout.{tree, beyond}
use Rattle.words.proofs.Nodes.{tree-length}
use Rattle.words_scopes.specs.State.{Good, Others, Becomes, stack}
use Rattle.scope_values.specs.Steps as records
use Rattle.refusal.specs.declared.Refusal.{Refusal}
use Rattle.refusal.specs.Number.{number, refused}
use Rattle.refusal.proofs.Rows.{exit}
use Rattle.scope_read_write.proofs.Limits.{grow-done, grow-stop}
use Rattle.words_nodes.specs.Nodes.{Planted}
use Rattle.words_state.specs.State as state
use Rattle.words_state.specs.State.{rest, abs, Acts, Act}
use Rattle.words_state.proofs.Fields.{becomes-turns, ok-self, ok-then}

-- what the words are after a step on the rest of the state
abbrev pub Does : List ℕ → List ℕ → ℕ → Res St Nothing → Type 0
Does w u n (stop m) = (n ≡ m) × (0 < n)
Does w u n (done s x) = (n ≡ 0) × (tree u ≡ tree w) × (rest u ≡ s)

pub record Step (w u : List ℕ) (n : ℕ) (r : Res St Nothing) : Type 0 where
  pub ok : state.Ok w u
  pub nodes : tree u ≡ tree w
  pub does : Does w u n r

flat-eq : {a b : List Core} {s t : St} → a ≡ b → s ≡ t → ◌≡◌ {A = Flat St} (record { nodes = a; rest = s }) (record { nodes = b; rest = t })
flat-eq p q = cc

module _ {w u : List ℕ} {n : ℕ} where
  pub step-act : (m : M St Nothing) → Step w u n (m (rest w)) → Act w u n (on_rest m (abs w))
  step-act m d = record { ok = d.ok; nodes = d.nodes; acts = go (m (rest w)) d.does }
    where
      go : (r : Res St Nothing) → Does w u n r → Acts u n (carry (λ (s : St) (a : Nothing). record { nodes = tree w; rest = s }) (λ (a : Nothing). a) r)
      go (stop k) x = x
      go (done s y) x = (x.0, flat-eq x.1 x.2)

  pub act-step : (m : M St Nothing) → Act w u n (on_rest m (abs w)) → Step w u n (m (rest w))
  act-step m d = record { ok = d.ok; nodes = d.nodes; does = go (m (rest w)) d.acts }
    where
      go : (r : Res St Nothing) → Acts u n (carry (λ (s : St) (a : Nothing). record { nodes = tree w; rest = s }) (λ (a : Nothing). a) r) → Does w u n r
      go (stop k) x = x
      go (done s y) x = (x.0, ap (λ (f : Flat St). f.nodes) x.1, ap (λ (f : Flat St). f.rest) x.1)

-- nothing is done
pub step-none : {w : List ℕ} → Planted w → Step w w 0 (done (rest w) tt)
step-none g = record { ok = ok-self g; nodes = refl; does = (refl, refl, refl) }

-- one step, and then another; the first one refuses
module _ {w u : List ℕ} {n : ℕ} {r : Res St Nothing} (k : M St Nothing) (d : Step w u n r) where
  pub step_then : {v : List ℕ} {p : ℕ} → n ≡ 0 → Step u v p (k (rest u)) → Step w v p (and_then r (λ a. k))
  step_then {v} {p} z e = record { ok = ok-then d.ok e.ok; nodes = e.nodes ∙ d.nodes; does = go r d.does e.does }
    where
      from : (r : Res St Nothing) → tree u ≡ tree w → Does u v p r → Does w v p r
      from (stop m) q x = x
      from (done s y) q x = (x.0, x.1 ∙ q, x.2)

      go : (r : Res St Nothing) → Does w u n r → Does u v p (k (rest u)) → Does w v p (and_then r (λ a. k))
      go (stop m) x y = absurd (omega (arith, x.1))
      go (done s a) x y = from (k s) x.1 (rw x.2 at y)

  pub step-stop : 0 < n → Step w u n (and_then r (λ a. k))
  step-stop z = record { ok = d.ok; nodes = d.nodes; does = go r d.does }
    where
      go : (r : Res St Nothing) → Does w u n r → Does w u n (and_then r (λ a. k))
      go (stop m) x = x
      go (done s a) x = absurd (omega (arith, x.0))

  -- the tree stays
  pub step-tree : n ≡ 0 → tree u ≡ tree w
  step-tree z = go r d.does
    where
      go : (r : Res St Nothing) → Does w u n r → tree u ≡ tree w
      go (stop m) x = absurd (omega (arith, x.1))
      go (done s a) x = x.1

-- what it leaves the state in
pub step-done : {w u : List ℕ} {n : ℕ} {r : Res St Nothing} → Step w u n r → n ≡ 0 → r ≡ done (rest u) tt
step-done {w} {u} {n} {r} d z = go r d.does
  where
    go : (r : Res St Nothing) → Does w u n r → r ≡ done (rest u) tt
    go (stop m) x = absurd (omega (arith, x.1))
    go (done s a) x = ap (λ (q : St). done q tt) (sym x.2)

-- after steps that left the tree alone
pub step-on : {v w u : List ℕ} {n : ℕ} {r : Res St Nothing} → state.Ok v w → tree w ≡ tree v → Step w u n r → Step v u n r
step-on {v} {w} {u} {n} {r} o t d = record { ok = ok-then o d.ok; nodes = d.nodes ∙ t; does = go r d.does }
  where
    go : (r : Res St Nothing) → Does w u n r → Does v u n r
    go (stop m) x = x
    go (done s a) x = (x.0, x.1 ∙ t, x.2)

pub act-tree : {w u : List ℕ} {n : ℕ} (m : M St Nothing) → Act w u n (on_rest m (abs w)) → n ≡ 0 → tree u ≡ tree w
act-tree m a z = step-tree (λ s. done s tt) (act-step m a) z

pub act-count : {w u : List ℕ} {n : ℕ} (m : M St Nothing) → Act w u n (on_rest m (abs w)) → n ≡ 0 → get_or u 0 0 ≡ get_or w 0 0
act-count {w} {u} m a z = sym (tree-length u) ∙ ap length (act-tree m a z) ∙ tree-length w

-- by another name
pub act-as : {w u : List ℕ} {n : ℕ} {r q : Res (Flat St) Nothing} → r ≡ q → Act w u n r → Act w u n q
act-as e d = rw e at d

pub step-as : {w u : List ℕ} {n : ℕ} {r q : Res St Nothing} → r ≡ q → Step w u n r → Step w u n q
step-as e d = rw e at d

-- the words past the first 16,384 give the length
pub size_of : {w u : List ℕ} → Good w → Good u → beyond u ≡ beyond w → length u ≡ length w
unfolding beyond
size_of {w} {u} g h e = omega (arith, g.long, h.long, sym (length-drop 16384 u) ∙ ap length e ∙ length-drop 16384 w)

module _ {w u : List ℕ} (g : Planted w) where
  -- the scopes became another stack
  pub mark-step : (f : Stack → Stack) → Becomes w u (f (stack w)) → Step w u 0 (mark f (rest w))
  unfolding rest
  mark-step f b = let t = becomes-turns g (size_of g.good b.good b.rest) b in record { ok = t.ok; nodes = t.nodes; does = (refl, t.nodes, t.is) }

  still-ok : Good u → tree u ≡ tree w → Others w u → beyond u ≡ beyond w → state.Ok w u
  still-ok h t o b = (becomes-turns g (size_of g.good h b) (record { good = h; is = refl; tree = t; others = o; rest = b })).ok

  module _ (f : Stack → Stack) where
    grown : Becomes w u (f (stack w)) → records.over (f (stack w)) ≡ false → Step w u 0 (grow f (rest w))
    unfolding rest
    grown b e = step-as (sym (grow-done f (rest w) e)) (mark-step f b)

    over : {n : ℕ} → n ≡ 9 → records.over (f (stack w)) ≡ true → state.Ok w u → tree u ≡ tree w → Step w u n (grow f (rest w))
    unfolding rest
    over z e o t = step-as (sym (grow-stop f (rest w) e)) (record { ok = o; nodes = t; does = (z, omega (arith, z)) })

    -- by its answer
    pub record-step : (r : Result Unit Refusal) → records.Grown w u (f (stack w)) r → Step w u (refused r) (grow f (rest w))
    record-step (Ok _) b = grown b.0 b.1
    record-step (Err e) b = over b.0 b.1 (rw b.2 (ok-self g)) (ap tree b.2)

    pub late-step : (r : Result Unit Refusal) → records.GrownLate w u (f (stack w)) r → Step w u (refused r) (grow f (rest w))
    late-step (Ok _) b = grown b.0 b.1
    late-step (Err e) b = over b.0 b.1 (still-ok b.2.good b.2.tree b.2.others b.2.rest) b.2.tree

-- an exit by `?`
pub act-exit : {w u : List ℕ} (e : Refusal) {x : Res (Flat St) Nothing} (r : Result Unit Refusal) → IsErrAnd r (λ y. y ≡ e) → Act w u (number e) x → Act w u (refused r) x
act-exit {w} {u} e {x} r h d = exit (λ r. Act w u (refused r) x) r h d
