-- A binding stored twice, and what row 9 counts of a binding declared again. Assumes nothing.
use mathlib.Core.Path.{◌≡◌, sym, ap, ◌∙◌}
use mathlib.Core.List.{List}
use mathlib.Core.Bool.{◌||◌}
use Prim.Native.Nat.{ℕ, ◌+◌, ◌-◌, ◌<◌}
use native.Mathlib.Omega.{arith}
use lib.ListN.{length, get_or, set, length-set}
use lib.Dec.{ltb}
use lib.Seq.{get_or-set_same, set-set}
use Rattle.def_pass.specs.Tree.{count_o}
use Rattle.def_pass.specs.Scope.{VarInfo, recorded_nodes, live}
use Rattle.words_scopes.specs.State.{Good, bind_at, binds, consts, stack, len_at}
use Rattle.scope_values.specs.Steps.{Listed, over, put_at}
use Rattle.scope_values.proofs.Count.{length-binds, length-consts}
use Rattle.scope_values.proofs.Listed.{bind-there, over-put, listed_then}

-- two stores into one binding
pub twice : {w u v : List ℕ} (k : ℕ) (b : VarInfo) (f : VarInfo → VarInfo) → k < get_or w 1 0 → Good w → Listed w u (set (binds w) k b) (consts w) → Listed u v (set (binds u) k (f (bind_at u k))) (consts u) → Listed w v (set (binds w) k (f b)) (consts w)
twice {w} {u} {v} k b f h g one two =
    let n : get_or u 1 0 ≡ get_or w 1 0 = sym (length-binds u one.good) ∙ ap length one.binds ∙ simp length-set (length-binds w g) in
    let l : k < length (binds w) = rw (length-binds w g) h in
    let e : bind_at u k ≡ b = sym (bind-there u k (omega arith) b) ∙ ap (λ (bs : List VarInfo). get_or bs k b) one.binds ∙ get_or-set_same (binds w) k b b l in
    let s : set (binds u) k (f (bind_at u k)) ≡ set (binds w) k (f b) = ap (λ (c : VarInfo). set (binds u) k (f c)) e ∙ ap (λ (bs : List VarInfo). set bs k (f b)) one.binds ∙ set-set (binds w) k b (f b) in
    listed_then one (rw (s, one.consts) at two)

pub listed-count : {w u : List ℕ} (k : ℕ) (b : VarInfo) → Good w → Listed w u (set (binds w) k b) (consts w) → get_or u 1 0 ≡ get_or w 1 0
listed-count {w} {u} k b g l = sym (length-binds u l.good) ∙ ap length l.binds ∙ simp length-set (length-binds w g)

pub listed-ccount : {w u : List ℕ} {bs : List VarInfo} → Good w → Listed w u bs (consts w) → get_or u 3 0 ≡ get_or w 3 0
listed-ccount {w} {u} g l = sym (length-consts u l.good) ∙ ap length l.consts ∙ length-consts w g

-- a binding declared again, with a value of n nodes
pub over-re : (w : List ℕ) (g : Good w) (k n : ℕ) (h : k < get_or w 1 0) (c : VarInfo) → count_o c.value ≡ n → over (put_at w k c) ≡ (ltb 512 (recorded_nodes (stack w) - len_at w k + n) || ltb 256 (live (stack w) + 0))
over-re w g k n h c e = over-put w k h g c ∙ ap (λ (m : ℕ). ltb 512 (recorded_nodes (stack w) - len_at w k + m) || ltb 256 (live (stack w) + 0)) e
