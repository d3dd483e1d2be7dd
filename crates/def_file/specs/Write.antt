-- Writing: a script's file. Assumes nothing: these are definitions.
use Rattle.std.specs.Prelude.{List, [], ◌∷◌, ◌++◌, ℕ, zero, suc, ◌+◌, ◌*◌, ◌/◌, ◌%◌, length}
use Rattle.def_file.specs.declared.Raw.{Raw}
use Rattle.def_file.specs.Script.{Script}

-- k bytes of a number, little-endian
abbrev pub bytes : ℕ → ℕ → List ℕ
bytes zero n = []
bytes (suc k) n = n % 256 ∷ bytes k (n / 256)

abbrev pub raw_bytes : Raw → List ℕ
raw_bytes x = bytes 1 x.kind ++ bytes 1 x.form ++ bytes 2 x.arity ++ bytes 4 x.text ++ bytes 8 x.bits

unfoldable pub node_bytes : List Raw → List ℕ
node_bytes [] = []
node_bytes (x ∷ xs) = raw_bytes x ++ node_bytes xs

unfoldable pub end_bytes : ℕ → List (List ℕ) → List ℕ
end_bytes at [] = []
end_bytes at (t ∷ ts) = bytes 4 (at + length t) ++ end_bytes (at + length t) ts

unfoldable pub text_bytes : List (List ℕ) → List ℕ
text_bytes [] = []
text_bytes (t ∷ ts) = t ++ text_bytes ts

-- the header of a file of n nodes, t texts and b text bytes
abbrev pub head_bytes : ℕ → ℕ → ℕ → List ℕ
head_bytes n t b = bytes 4 1 ++ bytes 4 (32 + 16 * n + 4 * t + b) ++ bytes 4 n ++ bytes 4 32 ++ bytes 4 t ++ bytes 4 (32 + 16 * n) ++ bytes 4 (32 + 16 * n + 4 * t) ++ bytes 4 b

unfoldable pub file : Script → List ℕ
unfolding node_bytes end_bytes text_bytes
file s = head_bytes (length s.nodes) (length s.texts) (length (text_bytes s.texts)) ++ node_bytes s.nodes ++ end_bytes 0 s.texts ++ text_bytes s.texts
