-- Vectors: files with their answers, in numbers of 16 bytes, and which of them the definition answers otherwise. Assumes nothing: these are
-- definitions.
use Rattle.std.specs.Prelude.{Bool, true, false, ◌&&◌, List, [], ◌∷◌, ◌++◌, ℕ, suc, ◌-◌, length}
use Rattle.def_tree.specs.Base.{pick, to_nat}
use Rattle.def_file.specs.Script.{is_lit, same_text}
use Rattle.def_file.specs.Read.{Read, bad, script, read}
use Rattle.def_file.specs.Write.{bytes, raw_bytes, file}
use Rattle.def_pass.specs.Script.{Out, Root, Answer, no!, yes!, pass_file}

-- what an answer has of a result beside its nodes and root bindings: the origins of literals; counts (request 9), which the original has not
pub record Holds : Type 0 where
  pub origins : Bool
  pub counts : Bool

-- a run limit, and the file and its answer, each with its length
pub record Vector : Type 0 where
  pub holds : Holds
  pub runs : ℕ
  pub size : ℕ
  pub file : List ℕ
  pub answer_size : ℕ
  pub answer : List ℕ

abbrev pub vector : Bool → Bool → ℕ → ℕ → List ℕ → ℕ → List ℕ → Vector
vector o w r n f m a = record { holds = record { origins = o; counts = w }; runs = r; size = n; file = f; answer_size = m; answer = a }

-- one with the origins of literals
abbrev pub v : ℕ → ℕ → List ℕ → ℕ → List ℕ → Vector
v r n f m a = vector true false r n f m a

-- n bytes, in numbers of 16 bytes
abbrev pub chunks : ℕ → List ℕ → List ℕ
chunks n [] = []
chunks n (x ∷ []) = bytes n x
chunks n (x ∷ y ∷ ys) = bytes 16 x ++ chunks (n - 16) (y ∷ ys)

abbrev pub out_bytes : Bool → List Out → List ℕ
out_bytes o [] = []
out_bytes o (x ∷ xs) = raw_bytes x.raw ++ pick o (bytes 2 (pick (is_lit x.raw) x.origin 0)) [] ++ out_bytes o xs

abbrev pub root_bytes : Bool → List Root → List ℕ
root_bytes w [] = []
root_bytes w (r ∷ rs) = bytes 4 r.key.text ++ bytes 8 r.key.bits ++ (to_nat r.mark ∷ pick w (bytes 4 r.count) [] ++ root_bytes w rs)

-- a refusal's number; or 0, runs, mark, node count, nodes, root bindings in order
abbrev pub answer_bytes : Holds → Answer → List ℕ
answer_bytes h (no! r) = r ∷ []
answer_bytes h (yes! k m xs rs) = 0 ∷ k ∷ to_nat m ∷ bytes 2 (length xs) ++ out_bytes h.origins xs ++ root_bytes h.counts rs

-- a script that was read gives its file again
abbrev pub is_back : List ℕ → Read → Bool
unfolding file
is_back bs (bad r) = true
is_back bs (script s) = same_text (file s) bs

unfoldable pub right_vector : Vector → Bool
unfolding pass_file read file
right_vector x = let bs = chunks x.size x.file in same_text (answer_bytes x.holds (pass_file x.runs bs)) (chunks x.answer_size x.answer) && is_back bs (read bs)

-- the numbers of the vectors that come out otherwise, from n on
unfoldable pub wrong : ℕ → List Vector → List ℕ
unfolding right_vector
wrong n [] = []
wrong n (x ∷ xs) = elim (right_vector x) [ true ↦ wrong (suc n) xs | false ↦ n ∷ wrong (suc n) xs ]
