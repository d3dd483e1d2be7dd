-- The nodes of a file, by their place. Assumes nothing.
use mathlib.Core.Path.{◌≡◌, refl, ap, ◌∙◌}
use mathlib.Core.List.{List}
use Prim.Native.Nat.{ℕ, zero, suc, ◌+◌, ◌*◌, ◌<◌}
use native.Mathlib.Nat.{le_of_suc-le-suc, not-suc-le-zero}
use native.Mathlib.Omega.{arith}
use lib.ListN.{get_or, drop}
use lib.Seq.{drop-drop}
pub use Rattle.def_file.proofs.Nodes.{nodes-length}
use Rattle.def_file.specs.Script.{zero_node}
use Rattle.def_file.specs.Read.{raw_of, nodes_from}

pub nodes-at : (n k : ℕ) (bs : List ℕ) → k < n → get_or (nodes_from n bs) k zero_node ≡ raw_of (drop (16 * k) bs)
unfolding nodes_from
nodes-at zero k bs h = absurd (not-suc-le-zero h)
nodes-at (suc n) zero bs h = refl
nodes-at (suc n) (suc k) bs h = nodes-at n k (drop 16 bs) (le_of_suc-le-suc h) ∙ ap raw_of (drop-drop (16 * k) 16 bs ∙ ap (λ (m : ℕ). drop m bs) (next k))
  where
    next : (k : ℕ) → 16 + 16 * k ≡ 16 * suc k
    next k = omega arith

-- as the file has them, behind its header
pub node-raw : (n k : ℕ) (bs : List ℕ) → k < n → get_or (nodes_from n (drop 32 bs)) k zero_node ≡ raw_of (drop (32 + 16 * k) bs)
node-raw n k bs h = nodes-at n k (drop 32 bs) h ∙ ap raw_of (drop-drop (16 * k) 32 bs)
