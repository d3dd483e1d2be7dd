-- The counts in the words balance, through every run. Assumes nothing.
use mathlib.Core.Path.{◌≡◌, refl, sym, ap, subst, ◌∙◌}
use mathlib.Core.Bool.{Bool}
use mathlib.Core.List.{List, [], ◌∷◌, ◌++◌}
use mathlib.Core.Option.{Option}
use Prim.Native.Nat.{ℕ, zero, suc, ◌+◌, ◌%◌}
use native.Mathlib.Omega.{arith}
use lib.ListN.{length, get_or, take, drop}
use lib.Seq.{length-take-le}
use Rattle.def_tree.specs.Tree.{Tree, Core, flat, plant, first_t, count}
use Rattle.def_tree.specs.Combine.{Res, stop, done, carry, Flat}
use Rattle.words.specs.Tab.{tab, sum, length-tab}
use Rattle.words.specs.Layout.{tree}
use Rattle.def_pass.specs.Scope.{VarInfo, counts_in, live_counts}
use Rattle.def_pass.specs.Walk.{St, run}
use Rattle.laws_pass.specs.Balanced.{Balanced}
use Rattle.laws_pass.specs.Reached.{Reached}
use Rattle.laws_pass.proofs.Balanced.{run-balances, counts-balance}
use Rattle.laws_pass.proofs.Reached.{run-reached}
use Rattle.laws_flat.specs.WalkF.{run_f}
use Rattle.laws_flat.specs.PassF.{start_f}
use Rattle.laws_flat.proofs.Sim.{whole_run}
use Rattle.words_scopes.specs.State.{Good, Head, Fits, split, bind_at, heads, flags, binds, consts, stack}
use Rattle.words_nodes.specs.Nodes.{Planted}
use Rattle.words_state.specs.State.{rest, abs}
use Rattle.words_balance.specs.Balance.{live_words, WordsBalance, PortBalance}

-- the scopes' counts are those of all bindings
cut : (n : ℕ) (bs : List VarInfo) → counts_in (drop n bs) + counts_in (take n bs) ≡ counts_in bs
cut zero bs = omega arith
cut (suc n) [] = refl
cut (suc n) (b ∷ bs) = omega (arith, cut n bs)

live-split : (hs : List Head) (fl : List ℕ) (bs : List VarInfo) (cs : List (ℕ × Option Tree)) → Fits hs (length bs) → live_counts (split hs fl bs cs) ≡ counts_in bs
live-split [] fl [] cs f = refl
live-split [] fl (b ∷ bs) cs f = absurd (omega (arith, f))
live-split (h ∷ hs) fl bs cs f =
    let a = h.start in
    let z : length (take a bs) ≡ a = length-take-le a bs f.0 in
    omega (arith, live-split hs (take a fl) (take a bs) (take h.cstart cs) (rw z f.1), cut a bs)

-- and these the words'
snoc : (bs : List VarInfo) (b : VarInfo) → counts_in (bs ++ (b ∷ [])) ≡ counts_in bs + b.count
snoc [] b = omega arith
snoc (c ∷ bs) b = omega (arith, snoc bs b)

counts-tab : (n : ℕ) (f : ℕ → VarInfo) → counts_in (tab n f) ≡ sum (λ k. (f k).count) n
unfolding tab sum
counts-tab zero f = refl
counts-tab (suc n) f = snoc (tab n f) (f n) ∙ ap (λ (m : ℕ). m + (f n).count) (counts-tab n f)

live : (w : List ℕ) → Good w → live_words w ≡ live_counts (stack w)
unfolding stack binds
live w g = sym (live-split (heads w) (flags w) (tab (get_or w 1 0) (λ k. bind_at w k)) (consts w) (rw length-tab g.fits) ∙ counts-tab (get_or w 1 0) (λ k. bind_at w k))

to-state : (w : List ℕ) → Good w → WordsBalance w → Balanced (rest w)
unfolding rest
to-state w g h = ap (λ (n : ℕ). (n + get_or w 12 0) % 4294967296) (sym (live w g)) ∙ h

to-words : (w : List ℕ) → Good w → Balanced (rest w) → WordsBalance w
unfolding rest
to-words w g h = ap (λ (n : ℕ). (n + get_or w 12 0) % 4294967296) (live w g) ∙ h

-- a run on the list of nodes is one on the tree
abbrev visitor : St → Res (Flat St) ℕ → St
visitor s (stop n) = s
visitor s (done st j) = st.rest

abbrev ended : Res (Flat St) ℕ → ℕ
ended (stop n) = 0
ended (done st j) = 1

-- what a run keeps, of any state
abbrev Keeps : (St → Type 0) → Type 0
Keeps P = (t u : Tree) (s s' : St) → P s → run t s ≡ done s' u → P s'

kept : (P : St → Type 0) → Keeps P → (t : Tree) (s : St) (st : Flat St) (j : ℕ) (r : Res St Tree) → run t s ≡ r → P s → carry {F = Flat St} (λ s₁ u. record { nodes = flat u []; rest = s₁ }) count r ≡ done st j → P st.rest
kept P k t s st j (stop n) e h q = absurd (let z : ◌≡◌ {A = ℕ} 0 1 = ap ended q in omega (arith, z))
kept P k t s st j (done s₁ u) e h q = subst P (ap (visitor s) q) (k t u s s₁ h e)

by-run : (P : St → Type 0) → Keeps P → (w u : List ℕ) (j : ℕ) → Planted w → run_f 0 (abs w) ≡ done (abs u) j → P (rest w) → P (rest u)
by-run P k w u j W e h =
    let t = first_t (plant (tree w)) in
    let q : run_f 0 (record { nodes = flat t []; rest = rest w }) ≡ done (abs u) j = ap (λ (xs : List Core). run_f 0 (record { nodes = xs; rest = rest w })) W.one.is ∙ e in
    kept P k t (rest w) (abs u) j (run t (rest w)) refl h (sym (whole_run t (rest w)) ∙ q)

-- words that stand for another state
pub set_to : {w u : List ℕ} (s : St) → Good w → Good u → (Balanced (rest w) → Balanced s) → rest u ≡ s → WordsBalance w → WordsBalance u
set_to {w} {u} s g g' k e h = to-words u g' (subst Balanced (sym e) (k (to-state w g h)))

pub begun : {u : List ℕ} (n : ℕ) (tg : ℕ → Bool) → Good u → rest u ≡ start_f n tg → WordsBalance u
begun {u} n tg g e = to-words u g (subst Balanced (sym e) refl)

pub run_kept : {w u : List ℕ} (j : ℕ) → Planted w → Planted u → run_f 0 (abs w) ≡ done (abs u) j → WordsBalance w → WordsBalance u
run_kept {w} {u} j W U e h = to-words u U.good (by-run Balanced run-balances w u j W e (to-state w W.good h))

pub port-balance : PortBalance
port-balance = record {
  live = live;
  reached = λ t w g r. to-words w g (counts-balance t (rest w) r);
  begun = λ w n tg g e. begun n tg g e;
  next = λ t w u j W e r. by-run (Reached t) (λ v v' s s' h q. run-reached t v v' s s' h q) w u j W e r;
  run = λ w u j W U e h. run_kept j W U e h;
}
