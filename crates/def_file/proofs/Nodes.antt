-- The nodes of a file, counted. Assumes nothing.
use mathlib.Core.Path.{◌≡◌, refl, ap}
use mathlib.Core.List.{List}
use Prim.Native.Nat.{ℕ, zero, suc}
use lib.ListN.{length, drop}
use Rattle.def_file.specs.Read.{nodes_from}

pub nodes-length : (n : ℕ) (bs : List ℕ) → length (nodes_from n bs) ≡ n
unfolding nodes_from
nodes-length zero bs = refl
nodes-length (suc n) bs = ap suc (nodes-length n (drop 16 bs))
