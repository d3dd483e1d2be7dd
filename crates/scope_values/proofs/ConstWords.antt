-- The words of constants: a value overwritten, a constant appended. Assumes nothing.
use mathlib.Core.Path.{◌≡◌, refl, ap, ◌∙◌, sym, subst}
use mathlib.Core.List.{List, [], ◌∷◌, ◌++◌, map}
use mathlib.Core.Bool.{Bool}
use mathlib.Core.Option.{none}
use mathlib.Core.Logic.{◌⊎◌, inl, inr, ⊎_elim}
use Prim.Native.Nat.{ℕ, ◌+◌, ◌*◌, ◌≤◌, ◌<◌}
use native.Mathlib.Nat.{eq-or-lt_of_le}
use native.Mathlib.Omega.{arith}
use lib.ListN.{length, get_or, set, length-set}
use lib.Seq.{get_or-set_same, get_or-set_other}
use Rattle.words.specs.Tab.{tab-zero, tab-suc, tab-ext, set-tab, same_or_not, sum-next}
use Rattle.words.specs.Layout.{Agree, run, tree, beyond, core_from}
use Rattle.words.proofs.Nodes.{beyond-same}
use Rattle.def_pass.specs.Scope.{Free}
use Rattle.words_scopes.specs.State.{heads, flags, binds, consts, const_at, clen_at, off, coff, crun_at, CFits, Good, Whole, value_of, targeted}
use Rattle.words_scopes.proofs.Words.{heads-part, part-tree, part-coff, part-crun, targeted-same, whole-none, words-const}
use Rattle.words_scopes.proofs.Grow.{part_off, part-run, part-binds, part-flags}
use Rattle.words_scopes.proofs.Index.{begins, beside_same}
use Rattle.words.specs.declared.Run.{Run}
use Rattle.words.specs.declared.layout.Table.{Table}
use Rattle.scope_values.specs.Steps.{Listed, Refilled, Offered, run_value, len_in, run_in}
use Rattle.scope_values.proofs.Constants.{Const, cfits-more}
use Rattle.scope_values.proofs.Store.{run-names, refilled-sum}

-- all but the constants' records, their values and their count is kept
pub record CKept (w w' : List ℕ) : Type 0 where
  pub size : length w' ≡ length w
  pub counts : (j : ℕ) → j < 16 → (j ≡ 3 → ⊥) → get_or w' j 0 ≡ get_or w j 0
  pub nodes : Agree 16 3088 w w'
  pub bind : Agree 4112 6672 w w'
  pub tail : Agree 7184 16384 w w'
  pub rest : beyond w' ≡ beyond w

module _ {w w' : List ℕ} (g : Good w) (t : CKept w w') where
  n0 : get_or w' 0 0 ≡ get_or w 0 0
  n0 = t.counts 0 (omega arith) (λ e. omega arith)

  n1 : get_or w' 1 0 ≡ get_or w 1 0
  n1 = t.counts 1 (omega arith) (λ e. omega arith)

  n2 : get_or w' 2 0 ≡ get_or w 2 0
  n2 = t.counts 2 (omega arith) (λ e. omega arith)

  abbrev bs : Agree 2064 3088 w w'
  bs = λ j a b. t.nodes j (omega arith) b

  abbrev bt : Agree 4112 (4112 + get_or w 1 0 * 10) w w'
  bt = λ j a b. t.bind j a (omega (arith, g.count))

  ckept-heads : heads w' ≡ heads w
  unfolding heads
  ckept-heads = let l = g.depth in rw n2 (heads-part w w' (get_or w 2 0) (λ j a b. t.tail j a (omega arith)) (λ j a b. t.tail j (omega arith) (omega arith)))

  ckept-tree : tree w' ≡ tree w
  ckept-tree = part-tree w' g n0 (λ j a b. t.nodes j a (omega arith))

  ckept-flags : flags w' ≡ flags w
  unfolding flags
  ckept-flags = rw n1 (part-flags w' g (get_or w 1 0) (omega arith) bs bt)

  ckept-binds : binds w' ≡ binds w
  unfolding binds
  ckept-binds = rw n1 (part-binds w' g (get_or w 1 0) (omega arith) bs bt (λ j a b. t.tail j (omega arith) (omega (arith, g.count))))

  module _ (c : ℕ) (is : get_or w' 3 0 ≡ c) where
    pub ckept-good : get_or w 1 0 + c ≤ 256 → off w (get_or w 1 0) + coff w' c ≤ 512 → CFits (heads w) c → ((k : ℕ) → k < c → get_or w' (6672 + k * 2) 0 < 256) → ((k : ℕ) → k < c → Whole (crun_at w' k)) → ((k : ℕ) → k < c → Free (targeted w) (value_of (crun_at w' k))) → Good w'
    ckept-good m v f i q p = record {
      long = rw t.size g.long;
      nodes = rw n0 g.nodes;
      count = rw n1 g.count;
      depth = rw n2 g.depth;
      ccount = rw is (omega arith);
      vals = rw (n1, part_off w' g (get_or w 1 0) (omega arith) bs bt (get_or w 1 0) (omega arith)) g.vals;
      cvals = rw is (omega arith);
      live = rw (n1, is) m;
      recorded = rw (n1, is, part_off w' g (get_or w 1 0) (omega arith) bs bt (get_or w 1 0) (omega arith)) v;
      fits = rw (ckept-heads, n1) g.fits;
      cfits = rw (ckept-heads, is) f;
      ids = rw n1 (λ k h. rw (bt (4112 + k * 10) (omega arith) (omega arith)) (g.ids k h));
      cids = rw is i;
      names = rw ckept-tree g.names;
      whole = rw n1 (λ k h. rw (part-run w' g (get_or w 1 0) (omega arith) bs bt k h) (g.whole k h));
      cwhole = rw is q;
      beside = beside_same g.beside n1 (ap (map begins) ckept-heads) (λ k h. bt (4112 + k * 10) (omega arith) (omega arith)) (λ j a b. t.tail j (omega arith) (omega arith)) g.count;
      cfree = rw is (λ k h. subst (λ (tg : ℕ → Bool). Free tg (value_of (crun_at w' k))) (sym (targeted-same w w' (λ j a b. t.tail j (omega arith) (omega arith)))) (p k h));
    }

  pub ckept-listed : (cs : List Const) → Good w' → consts w' ≡ cs → Listed w w' (binds w) cs
  ckept-listed cs good e = record {
    good = good;
    heads = ckept-heads;
    flags = ckept-flags;
    binds = ckept-binds;
    consts = e;
    tree = ckept-tree;
    others = record { low = λ j a b. t.counts j b (λ e. omega arith); high = λ j a b. t.tail j (omega arith) b };
    rest = t.rest;
  }

-- the constants' values, as a store
abbrev pub lengths : Table
lengths = record { base = 6673; stride = 2 }

pub len-const : (w : List ℕ) (k : ℕ) → len_in w lengths k ≡ clen_at w k
len-const w k = ap (λ (j : ℕ). get_or w j 0) (omega arith)

run-const : (w : List ℕ) (k : ℕ) → run_in w 3088 lengths k ≡ crun_at w k
run-const w k = rw (words-const w k, len-const w k) refl

-- the value of constant k becomes a run of the tree's nodes
module _ {w w' : List ℕ} (g : Good w) (k : ℕ) (h : k < get_or w 3 0) (r : Run) (o : Offered w r) (p : Free (targeted w) (run_value w r)) (hm : r.len + (off w (get_or w 1 0) + coff w (get_or w 3 0)) ≤ 512 + clen_at w k) (s : Refilled w w' 3088 lengths k (get_or w 3 0) r) where
  out : (j : ℕ) → (j < 3088) ⊎ (4112 ≤ j) → (j ≡ 6672 + k * 2 + 1 → ⊥) → get_or w' j 0 ≡ get_or w j 0
  out j l d = s.out j l (λ e. d (omega arith))

  set-kept : CKept w w'
  set-kept = let l = g.ccount in record {
    size = s.size;
    counts = λ j a b. out j (inl (omega arith)) (λ e. omega arith);
    nodes = λ j a b. out j (inl (omega arith)) (λ e. omega arith);
    bind = λ j a b. out j (inr (omega arith)) (λ e. omega arith);
    tail = λ j a b. out j (inr (omega arith)) (λ e. omega arith);
    rest = beyond-same w w' s.size (λ j a. out j (inr (omega arith)) (λ e. omega arith));
  }

  run-this : crun_at w' k ≡ run w 16 r.at r.len
  run-this = sym (run-const w' k) ∙ s.this

  run-other : (j : ℕ) → j < get_or w 3 0 → (j ≡ k → ⊥) → crun_at w' j ≡ crun_at w j
  run-other j l d = sym (run-const w' j) ∙ s.other j l d ∙ run-const w j

  named : (j : ℕ) → get_or w' (6672 + j * 2) 0 ≡ get_or w (6672 + j * 2) 0
  named j = out (6672 + j * 2) (inr (omega arith)) (λ e. omega arith)

  n3 : get_or w' 3 0 ≡ get_or w 3 0
  n3 = out 3 (inl (omega arith)) (λ e. omega arith)

  set-good : Good w'
  set-good = ckept-good g set-kept (get_or w 3 0) n3 g.live (omega (arith, refilled-sum s h, len-const w k, words-const w (get_or w 3 0), words-const w' (get_or w 3 0))) g.cfits (λ j l. rw (named j) (g.cids j l))
      (λ j l. ⊎_elim (λ (e : j ≡ k). rw (e, run-this) (record { one = o.one; names = run-names w r.at r.len g.names o.inside })) (λ (d : j ≡ k → ⊥). rw (run-other j l d) (g.cwhole j l)) (same_or_not j k))
      (λ j l. ⊎_elim (λ (e : j ≡ k). rw (e, run-this) p) (λ (d : j ≡ k → ⊥). rw (run-other j l d) (g.cfree j l)) (same_or_not j k))

  set-consts : consts w' ≡ set (consts w) k (get_or w (6672 + k * 2) 0, run_value w r)
  unfolding consts
  set-consts = rw n3 (set-tab (get_or w 3 0) (λ j. const_at w j) (λ j. const_at w' j) k (get_or w (6672 + k * 2) 0, run_value w r) h (rw (run-this, named k) refl) (λ j l d. rw (run-other j l d, named j) refl))

  pub const-set : Listed w w' (binds w) (set (consts w) k (get_or w (6672 + k * 2) 0, run_value w r))
  const-set = ckept-listed g set-kept (set (consts w) k (get_or w (6672 + k * 2) 0, run_value w r)) set-good set-consts

-- a constant without a value is appended
module _ (w : List ℕ) (g : Good w) (x : ℕ) (h : get_or w 1 0 + get_or w 3 0 < 256) (z : 0 < get_or w 2 0) (small : x < 256) where
  abbrev c : ℕ
  c = get_or w 3 0

  abbrev y : List ℕ
  y = set (set (set w (6672 + c * 2) x) (6672 + c * 2 + 1) 0) 3 (c + 1)

  keeps : (j : ℕ) → (j ≡ 6672 + c * 2 → ⊥) → (j ≡ 6672 + c * 2 + 1 → ⊥) → (j ≡ 3 → ⊥) → get_or y j 0 ≡ get_or w j 0
  keeps j a b d = get_or-set_other (set (set w (6672 + c * 2) x) (6672 + c * 2 + 1) 0) 3 j (c + 1) 0 d ∙ get_or-set_other (set w (6672 + c * 2) x) (6672 + c * 2 + 1) j 0 0 b ∙ get_or-set_other w (6672 + c * 2) j x 0 a

  new-name : get_or y (6672 + c * 2) 0 ≡ x
  new-name = let l = g.long in get_or-set_other (set (set w (6672 + c * 2) x) (6672 + c * 2 + 1) 0) 3 (6672 + c * 2) (c + 1) 0 (λ e. omega arith) ∙ get_or-set_other (set w (6672 + c * 2) x) (6672 + c * 2 + 1) (6672 + c * 2) 0 0 (λ e. omega arith) ∙ get_or-set_same w (6672 + c * 2) x 0 (omega arith)

  new-len : clen_at y c ≡ 0
  new-len = let l = g.long in get_or-set_other (set (set w (6672 + c * 2) x) (6672 + c * 2 + 1) 0) 3 (6672 + c * 2 + 1) (c + 1) 0 (λ e. omega arith) ∙ get_or-set_same (set w (6672 + c * 2) x) (6672 + c * 2 + 1) 0 0 (simp length-set (omega arith))

  new-count : get_or y 3 0 ≡ c + 1
  new-count = let l = g.long in get_or-set_same (set (set w (6672 + c * 2) x) (6672 + c * 2 + 1) 0) 3 (c + 1) 0 (simp length-set (omega arith))

  size : length y ≡ length w
  size = simp length-set

  push_kept : CKept w y
  push_kept = record {
    size = size;
    counts = λ j a b. keeps j (λ e. omega arith) (λ e. omega arith) b;
    nodes = λ j a b. keeps j (λ e. omega arith) (λ e. omega arith) (λ e. omega arith);
    bind = λ j a b. keeps j (λ e. omega arith) (λ e. omega arith) (λ e. omega arith);
    tail = λ j a b. keeps j (λ e. omega arith) (λ e. omega arith) (λ e. omega arith);
    rest = beyond-same w y size (λ j a. keeps j (λ e. omega arith) (λ e. omega arith) (λ e. omega arith));
  }

  abbrev cs : Agree 3088 4112 w y
  cs = λ j a b. keeps j (λ e. omega arith) (λ e. omega arith) (λ e. omega arith)

  abbrev ct : Agree 6672 (6672 + c * 2) w y
  ct = λ j a b. keeps j (λ e. omega arith) (λ e. omega arith) (λ e. omega arith)

  run-new : crun_at y c ≡ []
  unfolding run
  run-new = rw new-len (tab-zero (λ j. core_from y (3088 + (coff y c + j) * 2)))

  run-old : (k : ℕ) → k < c → crun_at y k ≡ crun_at w k
  run-old = part-crun y g c (omega arith) cs ct

  push-good : Good y
  push-good = ckept-good g push_kept (c + 1) new-count (omega arith) (omega (arith, sum-next (λ j. clen_at y j) c, part-coff y g c (omega arith) cs ct c (omega arith), new-len, g.recorded)) (cfits-more w g z)
      (λ k l. ⊎_elim (λ (e : k ≡ c). rw (e, new-name) small) (λ (q : k < c). rw (ct (6672 + k * 2) (omega arith) (omega arith)) (g.cids k q)) (eq-or-lt_of_le (omega arith)))
      (λ k l. ⊎_elim (λ (e : k ≡ c). rw (e, run-new) whole-none) (λ (q : k < c). rw (run-old k q) (g.cwhole k q)) (eq-or-lt_of_le (omega arith)))
      (λ k l. ⊎_elim (λ (e : k ≡ c). rw (e, run-new) tt) (λ (q : k < c). rw (run-old k q) (g.cfree k q)) (eq-or-lt_of_le (omega arith)))

  push-consts : consts y ≡ consts w ++ ((x, none) ∷ [])
  unfolding consts
  push-consts = rw new-count (tab-suc c (λ k. const_at y k) ∙ rw (run-new, new-name, tab-ext c (λ k. const_at y k) (λ k. const_at w k) (λ k l. rw (run-old k l, ct (6672 + k * 2) (omega arith) (omega arith)) refl)) refl)

  pub const-pushed : Listed w y (binds w) (consts w ++ ((x, none) ∷ []))
  const-pushed = ckept-listed g push_kept (consts w ++ ((x, none) ∷ [])) push-good push-consts
