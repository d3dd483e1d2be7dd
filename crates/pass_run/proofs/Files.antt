-- A script that was read is one tree of known identifiers; the pass over it. Assumes nothing.
use mathlib.Core.Path.{◌≡◌, refl, sym, ap, ap₂, ◌∙◌, subst}
use mathlib.Core.Bool.{Bool, true, false, ◌||◌}
use mathlib.Core.Logic.{◌⊎◌, inl, inr, ⊎_elim}
use mathlib.Core.List.{List, [], ◌∷◌}
use Prim.Native.Nat.{ℕ, zero, suc, ◌+◌, ◌≤◌, ◌<◌}
use native.Mathlib.Omega.{arith}
use borrow.Author.Tests.{le-leb, eq-eqb}
use lib.Dec.{T, eqb, leb}
use lib.ListN.{length, get_or, take, drop}
use Rattle.def_tree.specs.Base.{to_nat}
use Rattle.def_tree.specs.Tree.{Forest, Core, no_core, flat, first_t}
use Rattle.def_tree.specs.Combine.{Flat}
use Rattle.words.specs.Tab.{tab-ext}
use Rattle.words.specs.Moved.{Cleared}
use Rattle.def_file.specs.declared.Raw.{Raw}
use Rattle.def_file.specs.Script.{Script, is_lit, has_id, enter_all, idents, place_of, zero_node, is_arguments}
use Rattle.def_file.specs.Core.{core_node, core_from, core_nodes}
use Rattle.def_file.specs.Read.{Read, bad, script, u32, read}
use Rattle.laws_roundtrip.proofs.Nodes.{nodes-length}
use Rattle.laws_roundtrip.proofs.Round.{Found, found}
use Rattle.file_read.specs.declared.header.Header.{Header}
use Rattle.std.specs.Prelude.{Result, Ok, Err}
use Rattle.std.specs.Result.{is_err}
use Rattle.refusal.specs.declared.Refusal.{Refusal}
use Rattle.refusal.specs.Number.{number}
use Rattle.file_read.specs.Idents.{numbered, ids_of, Listed}
use Rattle.file_read.specs.Load.{Kept}
use Rattle.file_read.specs.Reading.{Told, After, WordsAre, ReadsAs}
use Rattle.file_read.proofs.Cores.{core-lit, core-id, core-plain, place-final, ids_more}
use Rattle.file_copy.proofs.Again.{place-enter}
use Rattle.file_copy.proofs.Ends.{WasRead}
use Rattle.def_pass.specs.Walk.{St}
use Rattle.laws_flat.specs.WalkF.{runs_f}
use Rattle.laws_flat.specs.PassF.{start_f, targets_l, flagged_l}
use Rattle.laws_flat.proofs.File.{planted-ok}
use Rattle.words_scopes.specs.State.{Named, Names}
use Rattle.words_nodes.specs.Nodes.{One}
use Rattle.words_twice.specs.Twice.{Plain}
use Rattle.words_state.specs.State.{abs}
use Rattle.words_balance.specs.Balance.{WordsBalance, OkBalance}
use Rattle.pass_run.specs.declared.Ran.{Ran}
use Rattle.pass_run.specs.Run.{outcome, RunsIs}
use Rattle.pass_run.specs.Start.{Loaded, Started}
use Rattle.pass_run.specs.Inline.{begin, read_runs, Final, Leaves, FileIs}

-- the core of a node has the number of an identifier, if it has one
differ : true ≡ false → ⊥
differ q = let y : ◌≡◌ {A = ℕ} 0 1 = cc in omega arith

no-id : (k : ℕ) → (eqb k 20 || eqb k 21) ≡ false → (k ≡ 20) ⊎ (k ≡ 21) → ⊥
no-id k h (inl e) = differ (sym (ap (λ (b : Bool). b || eqb k 21) (eq-eqb k 20 e)) ∙ h)
no-id k h (inr e) = go (eqb k 20) (ap (λ (b : Bool). eqb k 20 || b) (sym (eq-eqb k 21 e)) ∙ h)
  where
    go : (b : Bool) → (b || true) ≡ false → ⊥
    go true q = differ q
    go false q = differ q

core-named : (s : Script) (m : ℕ) (x : Raw) → (has_id x ≡ true → place_of x (idents s) < 256) → Named (core_node s m x)
core-named s m x h = go (is_lit x) (has_id x) refl refl
  where
    go : (p q : Bool) → is_lit x ≡ p → has_id x ≡ q → Named (core_node s m x)
    go true q a b = rw (core-lit s m x a) (λ e. absurd (⊎_elim (λ (z : 22 ≡ 20). omega (arith, z)) (λ (z : 22 ≡ 21). omega (arith, z)) e))
    go false true a b = rw (core-id s m x a b) (λ e. h b)
    go false false a b = rw (core-plain s m x a b) (λ e. absurd (no-id x.kind b e))

names-from : (s : Script) (m : ℕ) (xs : List Raw) → ((k : ℕ) → k < length xs → has_id (get_or xs k zero_node) ≡ true → place_of (get_or xs k zero_node) (idents s) < 256) → Names (core_from s m xs)
names-from s m [] h j = λ e. omega arith
names-from s m (x ∷ xs) h zero = core-named s m x (h 0 (omega arith))
names-from s m (x ∷ xs) h (suc j) = names-from s (suc m) xs (λ k l. h (suc k) (omega arith)) j

-- the core of a binding has form 0 or 1
core-low : (s : Script) (m : ℕ) (x : Raw) → (core_node s m x).kind ≡ 20 → (core_node s m x).form < 30
core-low s m x = go (is_lit x) (has_id x) refl refl
  where
    small : (b : Bool) → to_nat b < 30
    small true = omega arith
    small false = omega arith

    go : (p q : Bool) → is_lit x ≡ p → has_id x ≡ q → (core_node s m x).kind ≡ 20 → (core_node s m x).form < 30
    go true q a b = rw (core-lit s m x a) (λ e. omega (arith, e))
    go false true a b = rw (core-id s m x a b) (λ e. small (is_arguments s x))
    go false false a b = rw (core-plain s m x a b) (λ e. absurd (no-id x.kind b (inl e)))

low-from : (s : Script) (m : ℕ) (xs : List Raw) (j : ℕ) → (get_or (core_from s m xs) j no_core).kind ≡ 20 → (get_or (core_from s m xs) j no_core).form < 30
low-from s m [] j = λ e. omega arith
low-from s m (x ∷ xs) zero = core-low s m x
low-from s m (x ∷ xs) (suc j) = low-from s (suc m) xs j

core-room : (s : Script) → Plain (core_nodes s) 0
unfolding core_nodes
core-room s = record { low = λ j l. low-from s 1 s.nodes j }

-- a script that was read
module _ (bs : List ℕ) (s : Script) (h : read bs ≡ script s) where
  pub is_found : Found bs s (u32 bs 8) (u32 bs 16) (u32 bs 28)
  is_found = found bs s h

  core-names : Names (core_nodes s)
  unfolding core_nodes
  core-names = names-from s 1 s.nodes (λ k l i. omega (arith, place-final s k l i, ids_more s k l, place-enter (enter_all [] (take k s.nodes)) (get_or s.nodes k zero_node) i, is_found.names))

  core-one : One (core_nodes s)
  core-one =
      let p = planted-ok s (subst T (sym is_found.shape) tt) in
      record { is = ap (λ (ts : Forest). flat (first_t ts) []) p.planted ∙ p.nodes }

  pub node-count : length s.nodes ≡ u32 bs 8
  node-count = ap (λ (x : Script). length x.nodes) (sym is_found.is) ∙ nodes-length (u32 bs 8) (drop 32 bs)

-- the words after reading
pub loaded : {bs w w₁ : List ℕ} → WasRead bs w w₁ → Loaded w₁
loaded {bs} W = record {
  long = W.held.listed.long;
  few = omega (arith, W.held.count, node-count bs W.script W.is, (is_found bs W.script W.is).head.few);
  names = rw W.held.tree (core-names bs W.script W.is);
  one = rw W.held.tree (core-one bs W.script W.is);
  plain = rw W.held.tree (core-room W.script);
}

-- the identifiers stay listed
pub record Same (w u : List ℕ) : Type 0 where
  pub size : length u ≡ length w
  pub count : get_or u 4 0 ≡ get_or w 4 0
  pub each : (i : ℕ) → i < 256 → get_or u (15504 + i) 0 ≡ get_or w (15504 + i) 0

module _ {w u : List ℕ} {n : ℕ} (L : Listed w n) (e : Same w u) where
  listed-still : Listed u n
  listed-still = record {
    long = rw e.size L.long;
    few = rw e.count L.few;
    low = λ i l. rw (e.each i (omega (arith, L.few, e.count))) (L.low i (omega (arith, e.count)));
    high = λ i l. rw (e.each i (omega (arith, L.few, e.count))) (L.high i (omega (arith, e.count)));
  }

  ids-still : (bs : List ℕ) → ids_of bs u ≡ ids_of bs w
  unfolding ids_of
  ids-still bs = rw e.count (tab-ext (get_or w 4 0) (λ i. numbered bs (get_or u (15504 + i) 0)) (λ i. numbered bs (get_or w (15504 + i) 0)) (λ i l. ap (λ (m : ℕ). numbered bs m) (e.each i (omega (arith, L.few)))))

-- the pass over it, x being what was read
module _ {bs w w₁ u v : List ℕ} {x : Read} {r : Result Ran Refusal} (n : ℕ) (same_read : x ≡ read bs) (W : WasRead bs w w₁) (S : Started w₁ u) (R : RunsIs u v r (runs_f n 0 (abs u))) where
  begins : abs u ≡ begin W.script
  begins =
      ap₂ {C = Flat St} (λ (xs : List Core) (s : St). record { nodes = xs; rest = s }) (S.nodes ∙ ap (λ (xs : List Core). flagged_l xs) W.held.tree) (S.is ∙ ap₂ (λ (n : ℕ) (xs : List Core). start_f n (targets_l xs)) W.held.count W.held.tree)

  ends : outcome r v ≡ read_runs n x
  ends = R.is ∙ ap (λ (st : Flat St). runs_f n 0 st) begins ∙ ap (read_runs n) (sym (same_read ∙ W.is))

  same : Same w₁ v
  same = record {
    size = R.ok.size ∙ S.size;
    count = R.ok.idents ∙ S.idents;
    each = λ i l. R.ok.high (15504 + i) (omega arith) (omega arith) ∙ S.high (15504 + i) (omega arith) (omega arith);
  }

  kept : Kept w v
  kept = record { size = same.size ∙ W.kept.size; rest = R.ok.rest ∙ S.rest ∙ W.kept.rest }

  finished : WordsBalance v → Final x bs w v
  finished b = record { script = W.script; found = same_read ∙ W.is; is = W.is; planted = R.ok.planted; balance = b; ids = ids-still W.held.listed same bs ∙ W.held.ids; listed = listed-still W.held.listed same; kept = kept }

  -- the words are cleared after a refusal
  pub ran : OkBalance r v → is_err r ≡ false → FileIs x bs w v n r
  ran b h = record { is = ends; words = go r b h }
    where
      go : (r : Result Ran Refusal) → OkBalance r v → is_err r ≡ false → Leaves x bs w v r
      go (Ok r) b h = finished b
      go (Err r) b h = cc

  pub stopped : {z : List ℕ} → is_err r ≡ true → Cleared v z → FileIs x bs w z n r
  stopped {z} h C = record { is = told r h ∙ ends; words = go r h }
    where
      told : (r : Result Ran Refusal) → is_err r ≡ true → outcome r z ≡ outcome r v
      told (Ok r) h = cc
      told (Err r) h = refl

      go : (r : Result Ran Refusal) → is_err r ≡ true → Leaves x bs w z r
      go (Ok r) h = cc
      go (Err r) h = record { size = C.size ∙ kept.size; here = C.here; rest = C.rest ∙ kept.rest }

-- not read
pub not-read : {bs w w₁ : List ℕ} {x : Read} {a : Result Header Refusal} (n : ℕ) (m : Refusal) → 16384 ≤ length w → ReadsAs x bs w w₁ a → a ≡ Err m → FileIs x bs w w₁ n (Err m)
not-read {bs} {w} {w₁} {x} {a} n m l R z = go x refl
  where
    long : leb 16384 (length w) ≡ true
    long = le-leb 16384 (length w) l

    told-so : x ≡ bad (number m)
    told-so =
        let t : Told bs (elim (leb 16384 (length w)) [ false ↦ bad 1 | true ↦ x ]) (Err m) = subst (λ (r : Result Header Refusal). Told bs (elim (leb 16384 (length w)) [ false ↦ bad 1 | true ↦ x ]) r) z R.answer in
        sym (ap {B = Read} (λ (p : Bool). elim p [ false ↦ bad 1 | true ↦ x ]) long) ∙ t

    after : (y : Read) → x ≡ y → After bs w w₁ y
    after y q = subst (After bs w w₁) q (subst (WordsAre x bs w w₁) long R.words)

    go : (y : Read) → x ≡ y → FileIs x bs w w₁ n (Err m)
    go (bad k) q = record { is = ap (read_runs n) (sym told-so); words = after (bad k) q }
    go (script s) q = let e = sym q ∙ told-so in cc
