-- Nodes and their 16 bytes each. Assumes nothing.
use mathlib.Core.Path.{◌≡◌, refl, ap₂}
use mathlib.Core.List.{List, [], ◌∷◌, ◌++◌}
use Prim.Native.Nat.{ℕ, zero, suc, ◌+◌, ◌*◌, ◌≤◌}
use native.Mathlib.Omega.{arith}
use lib.ListN.{length, get_or, drop, length-drop}
use lib.Seq.{drop-drop}
pub use Rattle.def_file.proofs.Nodes.{nodes-length}
use Rattle.def_file.specs.declared.Raw.{Raw}
use Rattle.def_file.specs.Script.{zero_node}
use Rattle.def_file.specs.Read.{raw_of, nodes_from}
use Rattle.def_file.specs.Write.{raw_bytes, node_bytes}
use Rattle.laws_roundtrip.specs.Fits.{Bytes, Narrow}
use Rattle.laws_roundtrip.proofs.Numbers.{bytes_drop, number-bytes, number_lt, field}

-- one node
pub raw-bytes : (x : Raw) (rest : List ℕ) → Narrow x → raw_of (raw_bytes x ++ rest) ≡ x
raw-bytes x rest h = rw (number-bytes 1 x.kind [] h.kind, number-bytes 1 x.form [] h.form, number-bytes 2 x.arity [] h.arity, number-bytes 4 x.text [] h.text, number-bytes 8 x.bits [] h.bits) refl

pub bytes-raw : (bs : List ℕ) → Bytes bs → 16 ≤ length bs → raw_bytes (raw_of bs) ++ drop 16 bs ≡ bs
bytes-raw bs h l =
    field bs h 1 0 (omega arith) refl (field bs h 1 1 (omega arith) refl (field bs h 2 2 (omega arith) refl (field bs h 4 4 (omega arith) refl (field bs h 8 8 (omega arith) refl refl))))

pub narrow-raw : (bs : List ℕ) → Bytes bs → Narrow (raw_of bs)
narrow-raw bs h = record {
  kind = number_lt 1 bs h;
  form = number_lt 1 (drop 1 bs) (bytes_drop 1 bs h);
  arity = number_lt 2 (drop 2 bs) (bytes_drop 2 bs h);
  text = number_lt 4 (drop 4 bs) (bytes_drop 4 bs h);
  bits = number_lt 8 (drop 8 bs) (bytes_drop 8 bs h);
}

-- many
pub node-bytes-length : (xs : List Raw) → length (node_bytes xs) ≡ 16 * length xs
unfolding node_bytes
node-bytes-length [] = refl
node-bytes-length (x ∷ xs) = omega (arith, node-bytes-length xs)

pub nodes-bytes : (xs : List Raw) (rest : List ℕ) → ((k : ℕ) → Narrow (get_or xs k zero_node)) → nodes_from (length xs) (node_bytes xs ++ rest) ≡ xs
unfolding nodes_from node_bytes
nodes-bytes [] rest h = refl
nodes-bytes (x ∷ xs) rest h = ap₂ {C = List Raw} (λ y ys. y ∷ ys) (raw-bytes x (node_bytes xs ++ rest) (h 0)) (nodes-bytes xs rest (λ k. h (suc k)))

pub bytes-nodes : (n : ℕ) (bs : List ℕ) → Bytes bs → 16 * n ≤ length bs → node_bytes (nodes_from n bs) ++ drop (16 * n) bs ≡ bs
unfolding nodes_from node_bytes
bytes-nodes zero bs h l = refl
bytes-nodes (suc n) bs h l =
    let e : 16 * suc n ≡ 16 + 16 * n = omega arith in
    rw (e, ← drop-drop (16 * n) 16 bs, bytes-nodes n (drop 16 bs) (bytes_drop 16 bs h) (simp length-drop (omega arith))) (bytes-raw bs h (omega arith))

pub narrow-nodes : (n : ℕ) (bs : List ℕ) → Bytes bs → (k : ℕ) → Narrow (get_or (nodes_from n bs) k zero_node)
unfolding nodes_from
narrow-nodes zero bs h k = record { kind = omega arith; form = omega arith; arity = omega arith; text = omega arith; bits = omega arith }
narrow-nodes (suc n) bs h zero = narrow-raw bs h
narrow-nodes (suc n) bs h (suc k) = narrow-nodes n (drop 16 bs) (bytes_drop 16 bs h) k
