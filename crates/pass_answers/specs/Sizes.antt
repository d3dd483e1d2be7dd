-- How large a result can be: what callers' buffers go by. Assumes nothing: these are definitions.
use Rattle.std.specs.Prelude.{◌≡◌, List, ℕ, ◌+◌, ◌*◌, ◌≤◌, length}
use Rattle.def_file.specs.Script.{Script}
use Rattle.def_file.specs.Read.{Read, bad, script, read}
use Rattle.laws_roundtrip.specs.Fits.{Bytes}
use Rattle.def_pass.specs.Script.{Out, Root, Answer, no!, yes!, pass_read}
use Rattle.def_pass.specs.Paired.{file_of}

pub record Sizes (bs : List ℕ) (s : Script) (xs : List Out) (rs : List Root) : Type 0 where
  pub nodes : length xs ≤ 1024
  -- 32 + 16 * 1,024 + 4 * 256 + 4,096
  pub bytes : length (file_of s xs) ≤ 21536
  -- the texts are the script's: a file of n nodes has a result of at most 16 * (1,024 - n) bytes more
  pub of-file : length (file_of s xs) + 16 * length s.nodes ≡ length bs + 16 * length xs
  pub roots : length rs ≤ 256

abbrev pub SizesIn : List ℕ → Script → Answer → Type 0
SizesIn bs s (no! n) = Unit {0}
SizesIn bs s (yes! k c xs rs) = Sizes bs s xs rs

abbrev pub SizesOf : ℕ → List ℕ → Read → Type 0
SizesOf n bs (bad r) = Unit {0}
SizesOf n bs (script s) = SizesIn bs s (pass_read n (script s))

-- of every file and run limit
abbrev pub ResultSizes : Type 0
ResultSizes = (n : ℕ) (bs : List ℕ) → Bytes bs → SizesOf n bs (read bs)
