-- What a change of the tree's words alone leaves as it was: the scopes, and all that is good but the tree. Assumes nothing.
use mathlib.Core.Path.{◌≡◌, refl, ap}
use mathlib.Core.List.{List, map}
use Prim.Native.Nat.{ℕ, ◌+◌, ◌*◌, ◌≤◌, ◌<◌}
use native.Mathlib.Omega.{arith}
use lib.ListN.{length, get_or}
use Rattle.def_tree.specs.Tree.{Core}
use Rattle.def_pass.specs.Scope.{Stack}
use Rattle.words.specs.Tab.{tab-ext}
use Rattle.words.specs.Layout.{Agree, tree, beyond}
use Rattle.words.proofs.Nodes.{beyond-same}
use Rattle.words_scopes.specs.State.{bind_at, heads, flags, binds, consts, stack, Good, Becomes, Others, Names}
use Rattle.words_scopes.proofs.Words.{heads-part, part-consts, part-coff, part-crun, Runs, runs-off, runs-at, bind-same, free-same}
use Rattle.words_scopes.proofs.Index.{begins, beside_same}
use Rattle.words_nodes.specs.Nodes.{One, Planted, Apart, Replants}

pub apart-rest : {w w' : List ℕ} → Apart w w' → beyond w' ≡ beyond w
apart-rest {w} {w'} a = beyond-same w w' a.size (λ j l. a.high j (omega arith))

pub apart-others : {w w' : List ℕ} → Apart w w' → Others w w'
apart-others a = record { low = λ j l h. a.low j (omega arith) h; high = λ j l h. a.high j (omega arith) }

-- the scopes' own counts, and all words behind the tree, are as they were
pub record Beside (w w' : List ℕ) : Type 0 where
  pub size : length w' ≡ length w
  pub counts : Agree 1 4 w w'
  pub high : (j : ℕ) → 2064 ≤ j → get_or w' j 0 ≡ get_or w j 0

module _ {w w' : List ℕ} (g : Good w) (a : Beside w w') where
  count_same : (k : ℕ) → 1 ≤ k → k < 4 → get_or w' k 0 ≡ get_or w k 0
  count_same k l h = a.counts k l h

  runs_same : Runs w w'
  runs_same = record { lens = λ k l. a.high _ (omega arith); ids = λ k l. a.high _ (omega arith); store = λ j l h. a.high j l }

  heads-same : heads w' ≡ heads w
  unfolding heads
  heads-same = rw (count_same 2 (omega arith) (omega arith)) (heads-part w w' (get_or w 2 0) (λ j l h. a.high j (omega arith)) (λ j l h. a.high j (omega arith)))

  flags-same : flags w' ≡ flags w
  unfolding flags
  flags-same = rw (count_same 1 (omega arith) (omega arith)) (tab-ext (get_or w 1 0) (λ k. get_or w' (4112 + k * 10 + 9) 0) (λ k. get_or w (4112 + k * 10 + 9) 0) (λ k l. a.high (4112 + k * 10 + 9) (omega arith)))

  binds-same : binds w' ≡ binds w
  unfolding binds
  binds-same = rw (count_same 1 (omega arith) (omega arith)) (tab-ext (get_or w 1 0) (λ k. bind_at w' k) (λ k. bind_at w k) (λ k l. bind-same w w' k (λ j x y. a.high j (omega arith)) (runs-at g runs_same k l) (a.high (8080 + k) (omega arith))))

  consts-same : consts w' ≡ consts w
  unfolding consts
  consts-same = rw (count_same 3 (omega arith) (omega arith)) (part-consts w' g (get_or w 3 0) (omega arith) (λ j x y. a.high j (omega arith)) (λ j x y. a.high j (omega arith)))

  pub beside-stack : stack w' ≡ stack w
  unfolding stack
  beside-stack = rw (heads-same, flags-same, binds-same, consts-same) refl

  pub beside-good : get_or w' 0 0 ≤ 1024 → Names (tree w') → Good w'
  beside-good l n =
      let one = count_same 1 (omega arith) (omega arith) in
      let three = count_same 3 (omega arith) (omega arith) in
      let c = g.count in
      let cs = part-crun w' g (get_or w 3 0) (omega arith) (λ j x y. a.high j (omega arith)) (λ j x y. a.high j (omega arith)) in
      record {
        long = rw a.size g.long;
        nodes = l;
        count = rw one g.count;
        depth = rw (count_same 2 (omega arith) (omega arith)) g.depth;
        ccount = rw three g.ccount;
        vals = rw (one, runs-off g runs_same (get_or w 1 0) g.count) g.vals;
        cvals = rw (three, part-coff w' g (get_or w 3 0) (omega arith) (λ j x y. a.high j (omega arith)) (λ j x y. a.high j (omega arith)) (get_or w 3 0) (omega arith)) g.cvals;
        live = rw (one, three) g.live;
        recorded = rw (one, three, runs-off g runs_same (get_or w 1 0) g.count, part-coff w' g (get_or w 3 0) (omega arith) (λ j x y. a.high j (omega arith)) (λ j x y. a.high j (omega arith)) (get_or w 3 0) (omega arith)) g.recorded;
        fits = rw (heads-same, one) g.fits;
        cfits = rw (heads-same, three) g.cfits;
        ids = rw one (λ k h. rw (a.high (4112 + k * 10) (omega arith)) (g.ids k h));
        cids = rw three (λ k h. rw (a.high (6672 + k * 2) (omega arith)) (g.cids k h));
        names = n;
        whole = rw one (λ k h. rw (runs-at g runs_same k h) (g.whole k h));
        cwhole = rw three (λ k h. rw (cs k h) (g.cwhole k h));
        beside = beside_same g.beside one (ap (map begins) heads-same) (λ k h. a.high (4112 + k * 10) (omega arith)) (λ j x y. a.high j (omega arith)) g.count;
        cfree = rw three (λ k h. free-same w w' k (λ j x y. a.high j (omega arith)) (cs k h) (g.cfree k h));
      }

beside : {w w' : List ℕ} → Apart w w' → Beside w w'
beside a = record { size = a.size; counts = λ j l h. a.low j l (omega arith); high = a.high }

-- the tree's nodes became xs
pub replants : {w w' : List ℕ} (xs : List Core) → Planted w → Apart w w' → get_or w' 0 0 ≤ 1024 → tree w' ≡ xs → Names xs → One xs → Replants w w' xs
replants xs g a l e n o = record {
  planted = record { good = beside-good g.good (beside a) l (rw e n); one = rw e o };
  is = e;
  stack = beside-stack g.good (beside a);
  others = apart-others a;
  rest = apart-rest a;
  apart = a;
}

-- what changes the scopes alone keeps the tree
pub becomes-planted : {w w' : List ℕ} {st : Stack} → Planted w → Becomes w w' st → Planted w'
becomes-planted g b = record { good = b.good; one = rw b.tree g.one }
