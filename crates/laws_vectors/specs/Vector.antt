-- The vectors of the tables beside this file: the answers of the original Rust, some amended by requests. The tables are written by tools/vectors.py
-- from tests/vectors/small.txt, some hundreds over all kinds, with refusals 2 to 9 and run limits 1 to 16.
-- The whole crate is checked in about 20 s on two processors.
use Rattle.std.specs.Prelude.{true, false, List, ℕ}
pub use Rattle.def_pass.specs.Vector.{Vector}
unfoldable pub use Rattle.def_pass.specs.Vector.{wrong}
use Rattle.def_pass.specs.Vector.{vector}

-- without counts, and with them
abbrev pub v : ℕ → ℕ → List ℕ → ℕ → List ℕ → Vector
v r n f m a = vector false false r n f m a

abbrev pub c : ℕ → ℕ → List ℕ → ℕ → List ℕ → Vector
c r n f m a = vector false true r n f m a
