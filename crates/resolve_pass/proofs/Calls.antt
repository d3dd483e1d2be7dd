-- Calls of the resolver and of the pass, one behind another with the same words. Assumes nothing.
use mathlib.Core.Path.{◌≡◌, refl, sym, ap, ◌∙◌}
use mathlib.Core.Bool.{Bool, true, false, ◌&&◌}
use mathlib.Core.List.{List}
use Prim.Native.Nat.{ℕ}
use lib.Dec.{leb}
use lib.ListN.{length}
use Rattle.def_file.specs.Script.{Script}
use Rattle.def_pass.specs.Entry.{enough}
use Rattle.laws_roundtrip.specs.Fits.{Bytes}
use Rattle.def_resolve.specs.Resolve.{resolved}
use Rattle.file_copy.specs.declared.Copied.{Copied}
use Rattle.file_copy.specs.Copy.{WordsAre}
use Rattle.file_resolve.specs.Resolve.{ResolveIs}
use Rattle.pass_answers.specs.declared.Inlined.{Inlined}
use Rattle.pass_answers.specs.declared.Roots.{Roots}
use Rattle.pass_answers.specs.Entry.{InlineIs}
use Rattle.pass_answers.specs.Roots.{RootsIs}
use Rattle.pass_answers.specs.Demand.{AlikeEnds, AlikeLists}
use Rattle.resolve_answers.specs.Calls.{written, Renamed, Elsewhere, ByNameEnds}
use Rattle.resolve_answers.proofs.Calls.{words-size, words-then, renamed-inline, renamed-roots, elsewhere-inline, elsewhere-roots}
use Rattle.resolve_pass.specs.Calls.{PassIs, ListIs}

pub pass-is : {bs r r' w w' : List ℕ} {runs : ℕ} {c : Inlined} → InlineIs bs r r' w w' runs c → {n : ℕ} → n ≡ length w → PassIs bs r r' runs n c
pass-is P e = rw e (record { answer = P.answer; result = P.result })

pub list-is : {bs r r' w w' : List ℕ} {runs : ℕ} {c : Roots} → RootsIs bs r r' w w' runs c → {n : ℕ} → n ≡ length w → ListIs bs r r' runs n c
list-is P e = rw e (record { answer = P.answer; roots = P.roots })

-- the words after a pass behind other calls
enough-words : (runs n : ℕ) → enough runs n ≡ true → leb 16384 n ≡ true
enough-words runs n e = go (leb 1 runs) (leb runs 16) (leb 16384 n) e
  where
    go : (p q r : Bool) → (p && q && r) ≡ true → r ≡ true
    go p q true e = refl
    go true true false e = e
    go true false false e = e
    go false q false e = e

pub words-more : (u v w : List ℕ) (runs : ℕ) → WordsAre u v (leb 16384 (length u)) → WordsAre v w (enough runs (length v)) → WordsAre u w (leb 16384 (length u))
words-more u v w runs h g =
    words-then u v w (leb 16384 (length u)) (enough runs (length v)) h g
    (λ e. ap (leb 16384) (sym (words-size u v (leb 16384 (length u)) h)) ∙ enough-words runs (length v) e)

module _ {as' bs : List ℕ} (x : Bytes as') (y : Bytes bs) {r r' s s' u v w : List ℕ} {c d : Copied} (R : ResolveIs as' r r' u v c) (S : ResolveIs bs s s' v w d) {fs gs : List ℕ} (f : fs ≡ written c r') (g : gs ≡ written d s') {p p' q q' t z : List ℕ} {runs : ℕ} where
  pub inlines-renamed : {i j : Inlined} → InlineIs fs p p' w t runs i → InlineIs gs q q' t z runs j → (a b : Script) → Renamed as' bs a b → c.refused ≡ 0 → d.refused ≡ 0
      → AlikeEnds (written c r') (written d s') runs (resolved a) (resolved b) i j p p' q q'
  inlines-renamed {i} {j} P Q a b N k l =
      renamed-inline as' bs a b x y N r r' u v s s' v w c d R S k l runs p p' w t q q' t z i j (ap (leb 16384) (sym (words-size w t (enough runs (length w)) P.words))) (rw f at P) (rw g at Q)

  pub roots-renamed : {i j : Roots} → RootsIs fs p p' w t runs i → RootsIs gs q q' t z runs j → (a b : Script) → Renamed as' bs a b → c.refused ≡ 0 → d.refused ≡ 0
      → AlikeLists (resolved a) (resolved b) i j p p' q q'
  roots-renamed {i} {j} P Q a b N k l =
      renamed-roots as' bs a b x y N r r' u v s s' v w c d R S k l runs p p' w t q q' t z i j (ap (leb 16384) (sym (words-size w t (enough runs (length w)) P.words))) (rw f at P) (rw g at Q)

module _ {bs cs : List ℕ} (y : Bytes bs) {r r' u v : List ℕ} {c : Copied} (R : ResolveIs bs r r' u v c) {fs : List ℕ} (f : fs ≡ written c r') {p p' q q' t z : List ℕ} {runs : ℕ} where
  pub inlines-elsewhere : {i j : Inlined} → InlineIs fs p p' v t runs i → InlineIs cs q q' t z runs j → (s b : Script) → Elsewhere bs cs s b → c.refused ≡ 0 → length p ≡ length q → ByNameEnds (resolved s) b i j p p' q q'
  inlines-elsewhere {i} {j} P Q s b E k l =
      elsewhere-inline bs cs s b y E r r' u v c R k runs p p' v t q q' t z i j (ap (leb 16384) (sym (words-size v t (enough runs (length v)) P.words))) l (rw f at P) Q

  pub roots-elsewhere : {i j : Roots} → RootsIs fs p p' v t runs i → RootsIs cs q q' t z runs j → (s b : Script) → Elsewhere bs cs s b → c.refused ≡ 0 → AlikeLists (resolved s) b i j p p' q q'
  roots-elsewhere {i} {j} P Q s b E k =
      elsewhere-roots bs cs s b y E r r' u v c R k runs p p' v t q q' t z i j (ap (leb 16384) (sym (words-size v t (enough runs (length v)) P.words))) (rw f at P) Q
