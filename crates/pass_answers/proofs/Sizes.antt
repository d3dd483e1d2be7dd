-- The sizes of a result: it is read again, with the script's texts. Assumes nothing.
use mathlib.Core.Path.{◌≡◌, refl, ap}
use mathlib.Core.List.{List, [], ◌∷◌, map}
use Prim.Native.Nat.{ℕ, suc}
use native.Mathlib.Omega.{arith}
use lib.ListN.{length, drop}
use Rattle.def_file.specs.Script.{Script}
use Rattle.def_file.specs.Read.{Read, bad, script, read, u32}
use Rattle.laws_roundtrip.proofs.Nodes.{nodes-length}
use Rattle.laws_roundtrip.proofs.Round.{found, back}
use Rattle.def_pass.specs.Script.{Out, Answer, no!, yes!, pass_read}
use Rattle.def_pass.specs.Paired.{file_of}
use Rattle.laws_pass.specs.Again.{outcome, AgainIn, AgainOf}
use Rattle.laws_pass.specs.Once.{FewIn, FewOf}
use Rattle.laws_pass.proofs.Names.{roots_few}
use Rattle.pass_answers.specs.Sizes.{SizesIn, SizesOf, ResultSizes}
use Rattle.laws_pass.proofs.ReadsAgain.{file-length, reads-again}

out-count : (xs : List Out) → length (map (λ (x : Out). x.raw) xs) ≡ length xs
out-count [] = refl
out-count (x ∷ xs) = ap suc (out-count xs)

pub result-sizes : ResultSizes
result-sizes n bs y = go (read bs) refl (reads-again n bs y) (roots_few n bs)
  where
    out : (s : Script) → read bs ≡ script s → (x : Answer) → AgainIn s x → FewIn s x → SizesIn bs s x
    out s q (no! m) h k = tt
    out s q (yes! m c xs rs) h k =
        let f = found (file_of s xs) (outcome s xs) h in
        let g = found bs s q in
        let e = ap (λ (zs : List ℕ). length zs) (back bs s y q) in
        let l = file-length (outcome s xs) in
        let i = file-length s in
        let o = out-count xs in
        record {
          nodes = omega (arith, f.head.few, nodes-length (u32 (file_of s xs) 8) (drop 32 (file_of s xs)), ap (λ (z : Script). length z.nodes) f.is, o);
          bytes = omega (arith, f.head.long, f.head.few, f.head.named, f.head.small);
          of-file = omega (arith, l, i, e, o);
          roots = omega (arith, g.names, k);
        }

    go : (r : Read) → read bs ≡ r → AgainOf n r → FewOf n r → SizesOf n bs r
    go (bad r) q h k = tt
    go (script s) q h k = out s q (pass_read n (script s)) h k
