-- A run, and runs one after the other. Assumes nothing.
use mathlib.Core.Path.{◌≡◌, refl, sym, ap, ap₂, ◌∙◌, subst}
use mathlib.Core.Bool.{Bool, true, false}
use mathlib.Core.List.{List}
use Prim.Native.Nat.{ℕ, suc, ◌+◌, ◌-◌, ◌<◌}
use native.Mathlib.Omega.{arith}
use Rattle.def_tree.specs.Tree.{Core}
use Rattle.def_tree.specs.Combine.{Res, done, and_then, Flat}
use Rattle.words.specs.Layout.{tree}
use Rattle.def_pass.specs.Walk.{St, root_marks, set_inlining, set_changed, set_is_first_run}
use Rattle.laws_flat.specs.WalkF.{walks_f, own_f, run_f, runs_f, again_f, on_st, OutcomeF, result_f}
use Rattle.words_nodes.specs.Nodes.{Planted}
use Rattle.words_scopes.specs.State.{stack}
use Rattle.words_state.specs.State.{rest, abs, Ok as Fine, Turns}
use Rattle.words_state.proofs.Fields.{ok-self, ok-then}
use Rattle.words_balance.specs.Balance.{WordsBalance, OkBalance}
use Rattle.words_balance.proofs.Balance.{set_to, run_kept}
use Rattle.std.specs.Prelude.{Result, Ok, Err}
use Rattle.refusal.specs.declared.Refusal.{Refusal}
use Rattle.scope.specs.Steps.{done_of, Did}
use Rattle.pass_run.specs.Run.{RunsIs}

-- the state after a field was set
turned : {w u : List ℕ} {s : St} → Turns w u s → abs u ≡ record { nodes = tree w; rest = s }
turned t = ap₂ {C = Flat St} (λ (xs : List Core) (s : St). record { nodes = xs; rest = s }) t.nodes t.is

-- both walks of a run
abbrev own : Flat St → Res (Flat St) ℕ
own st = own_f (walks_f 199) 1 0 st

abbrev phase : Bool → Flat St → Flat St
phase b st = on_st (set_inlining b) st

abbrev last : ℕ → Flat St → Res (Flat St) ℕ
last k st = done (phase false st) k

abbrev second : ℕ → Flat St → Res (Flat St) ℕ
second j st = and_then (own (phase true st)) last

run_is : (st : Flat St) → run_f 0 st ≡ and_then (own (phase false st)) second
unfolding run_f
run_is st = refl

-- a walk after a phase was set, and what follows it
walked : {w u v : List ℕ} {b : Bool} {x r : Result ℕ Refusal} (f : ℕ → Flat St → Res (Flat St) ℕ) → Turns w u (set_inlining b (rest w)) → Did u v x (own (abs u)) → x ≡ r → and_then (own (phase b (abs w))) f ≡ and_then (done_of r (abs v)) f
walked {w} {u} {v} {b} {x} {r} f t d e =
    ap (λ (st : Flat St). and_then (own st) f) (sym (turned t)) ∙ ap (λ (y : Res (Flat St) ℕ). and_then y f) (d.is ∙ ap (λ (y : Result ℕ Refusal). done_of y (abs v)) e)

module _ {w u v : List ℕ} {x : Result ℕ Refusal} (t : Turns w u (set_inlining false (rest w))) (d : Did u v x (own (abs u))) where
  pub first-stop : (r : Refusal) → x ≡ Err r → Did w v (Err r) (run_f 0 (abs w))
  first-stop r e = record { ok = ok-then t.ok d.ok; is = run_is (abs w) ∙ walked second t d e }

  module _ {u' v' : List ℕ} {y : Result ℕ Refusal} {i : ℕ} (e : x ≡ Ok i) (t' : Turns v u' (set_inlining true (rest v))) (d' : Did u' v' y (own (abs u'))) where
    so_far : Fine w v'
    so_far = ok-then t.ok (ok-then d.ok (ok-then t'.ok d'.ok))

    pub second-stop : (r : Refusal) → y ≡ Err r → Did w v' (Err r) (run_f 0 (abs w))
    second-stop r q = record { ok = so_far; is = run_is (abs w) ∙ walked second t d e ∙ walked last t' d' q }

    pub second-done : {z : List ℕ} (j : ℕ) → y ≡ Ok j → Turns v' z (set_inlining false (rest v')) → Did w z (Ok j) (run_f 0 (abs w))
    second-done {z} j q t'' = record { ok = ok-then so_far t''.ok; is = run_is (abs w) ∙ walked second t d e ∙ walked last t' d' q ∙ ap (λ (st : Flat St). done st j) (sym (turned t'')) }

-- what a run does keeps the balance
pub did_balance : {w v : List ℕ} (x : Result ℕ Refusal) → Planted w → Did w v x (run_f 0 (abs w)) → WordsBalance w → OkBalance x v
did_balance (Ok j) W d h = run_kept j W d.ok.planted d.is h
did_balance (Err r) W d h = tt

-- k runs are done, and at most n - k are left
pub record Going (w u : List ℕ) (n k : ℕ) : Type 0 where
  pub ok : Fine w u
  pub is : runs_f n 0 (abs w) ≡ runs_f (n - k) k (abs u)
  pub balance : WordsBalance w → WordsBalance u

pub going-none : {w : List ℕ} (n : ℕ) → Planted w → Going w w n 0
going-none {w} n p = record { ok = ok-self p; is = ap (λ (m : ℕ). runs_f m 0 (abs w)) (omega arith); balance = λ h. h }

-- no run is left
pub going_end : {w u : List ℕ} (n k : ℕ) → Going w u n k → k ≡ n → RunsIs w u (Ok (record { runs = n; changed = true })) (runs_f n 0 (abs w))
unfolding runs_f rest
going_end {w} {u} n k g e =
    let none : n - k ≡ 0 = omega arith in
    record { ok = g.ok; is = sym (g.is ∙ ap (λ (m : ℕ). runs_f m k (abs u)) none ∙ ap (λ (m : ℕ). result_f m true (tree u) (root_marks (stack u))) e) }

-- one more run
module _ {w u v z : List ℕ} {x : Result ℕ Refusal} (n k : ℕ) (g : Going w u n k) (l : k < n) (t : Turns u v (set_changed false (rest u))) (d : Did v z x (run_f 0 (abs v))) (b : WordsBalance v → OkBalance x z) where
  left : n - k ≡ suc (n - (k + 1))
  left = omega arith

  more : runs_f n 0 (abs w) ≡ again_f (runs_f (n - (k + 1)) (suc k)) (suc k) (done_of x (abs z))
  unfolding runs_f
  more =
      g.is ∙ ap (λ (m : ℕ). runs_f m k (abs u)) left
      ∙ ap (λ (y : Res (Flat St) ℕ). again_f (runs_f (n - (k + 1)) (suc k)) (suc k) y) (ap (λ (st : Flat St). run_f 0 st) (sym (turned t)) ∙ d.is)

  so-far-runs : Fine w z
  so-far-runs = ok-then g.ok (ok-then t.ok d.ok)

  more-as : (r : Result ℕ Refusal) → x ≡ r → runs_f n 0 (abs w) ≡ again_f (runs_f (n - (k + 1)) (suc k)) (suc k) (done_of r (abs z))
  more-as r e = more ∙ ap (λ (y : Result ℕ Refusal). again_f (runs_f (n - (k + 1)) (suc k)) (suc k) (done_of y (abs z))) e

  pub going-stop : (r : Refusal) → x ≡ Err r → RunsIs w z (Err r) (runs_f n 0 (abs w))
  going-stop r e = record { ok = so-far-runs; is = sym (more-as (Err r) e) }

  -- by its mark
  module _ (j : ℕ) (e : x ≡ Ok j) where
    plus : suc k ≡ k + 1
    plus = omega arith

    pub going-balance : WordsBalance w → WordsBalance z
    going-balance h = subst (λ (r : Result ℕ Refusal). OkBalance r z) e (b (set_to (set_changed false (rest u)) g.ok.planted.good t.ok.planted.good (λ o. o) t.is (g.balance h)))

    marked : (b : Bool) → (rest z).changed ≡ b
        → runs_f n 0 (abs w) ≡ elim b [ true ↦ runs_f (n - (k + 1)) (suc k) (on_st (set_is_first_run false) (abs z)) | false ↦ result_f (suc k) false (tree z) (root_marks (stack z)) ]
    unfolding rest
    marked b q =
        more-as (Ok j) e
        ∙ ap (λ (c : Bool). elim c [ true ↦ runs_f (n - (k + 1)) (suc k) (on_st (set_is_first_run false) (abs z)) | false ↦ result_f (suc k) false (tree z) (root_marks (stack z)) ]) q

    pub going-last : (rest z).changed ≡ false → RunsIs w z (Ok (record { runs = k + 1; changed = false })) (runs_f n 0 (abs w))
    going-last q = record { ok = so-far-runs; is = sym (marked false q ∙ ap (λ (i : ℕ). result_f i false (tree z) (root_marks (stack z))) plus) }

    pub going_on : {z' : List ℕ} → (rest z).changed ≡ true → Turns z z' (set_is_first_run false (rest z)) → Going w z' n (k + 1)
    going_on {z'} q t' = record {
      ok = ok-then so-far-runs t'.ok;
      is = marked true q ∙ ap₂ {C = OutcomeF} (λ (i : ℕ) (st : Flat St). runs_f (n - (k + 1)) i st) plus (sym (turned t'));
      balance = λ h. set_to (set_is_first_run false (rest z)) d.ok.planted.good t'.ok.planted.good (λ o. o) t'.is (going-balance h);
    }
