-- Tokens one after the other. Assumes nothing.
use Rattle.std.proofs.Common.{◌≡◌, ℕ, zero, suc, ◌+◌, ◌<◌, ◌≤◌, Bool, true, false, eqb, List, [], ◌∷◌, ◌++◌, length, get_or, take, drop, refl, sym, ap, ap₂, ◌∙◌, append_assoc, append-nil, length-append, length-drop, take-append-drop, add-one, subst, arith}
use Rattle.std.proofs.Math.Seq.{take-suc}
use Rattle.std.proofs.lemmas.List.{get_or-drop}
use Rattle.std.proofs.lemmas.Bool.{eqb-true}
use Rattle.def_tree.specs.Base.{pick}
use Rattle.file_read.specs.declared.header.Header.{Header}
use Rattle.number_text.specs.Put.{Puts}
use Rattle.number_text.proofs.Puts.{puts_then}
use Rattle.text_tokens.specs.Tokens.{token}
use Rattle.text_tokens.specs.Bytes.{codes_of, fresh_after, piece, render, rendered}

fresh-snoc : (f : Bool) (xs : List ℕ) (c : ℕ) → fresh_after f (xs ++ (c ∷ [])) ≡ eqb c 127
fresh-snoc f [] c = refl
fresh-snoc f (x ∷ xs) c = fresh-snoc (eqb x 127) xs c

take-of : (k n : ℕ) (xs : List ℕ) → k ≤ n → take k (take n xs) ≡ take k xs
take-of zero n xs l = refl
take-of (suc k) zero xs l = absurd (omega arith)
take-of (suc k) (suc n) [] l = refl
take-of (suc k) (suc n) (x ∷ xs) l = ap {B = List ℕ} (λ (v : List ℕ). x ∷ v) (take-of k n xs (omega arith))

module _ (bs : List ℕ) (h : Header) where
  render-snoc : (f : Bool) (xs : List ℕ) (c : ℕ) → render bs h f (xs ++ (c ∷ [])) ≡ render bs h f xs ++ piece bs h (fresh_after f xs) c
  render-snoc f [] c = append-nil (piece bs h f c)
  render-snoc f (x ∷ xs) c = ap (λ (v : List ℕ). piece bs h f x ++ v) (render-snoc (eqb x 127) xs c) ∙ sym (append_assoc (piece bs h f x) (render bs h (eqb x 127) xs) (piece bs h (fresh_after (eqb x 127) xs) c))

  codes-next : (w : List ℕ) (k : ℕ) → k + 1 < length w → codes_of w (k + 1) ≡ codes_of w k ++ (get_or w (1 + k) 0 ∷ [])
  codes-next w k l = let a : take (k + 1) (drop 1 w) ≡ take k (drop 1 w) ++ (get_or (drop 1 w) k 0 ∷ []) = rw add-one (take-suc (drop 1 w) k 0 (omega (arith, length-drop 1 w))) in a ∙ ap (λ (c : ℕ). take k (drop 1 w) ++ (c ∷ [])) (get_or-drop 1 w k 0)

  pub rendered-next : (w : List ℕ) (k : ℕ) → k + 1 < length w → rendered bs h (codes_of w (k + 1)) ≡ rendered bs h (codes_of w k) ++ piece bs h (fresh_after true (codes_of w k)) (get_or w (1 + k) 0)
  rendered-next w k l = ap (rendered bs h) (codes-next w k l) ∙ render-snoc true (codes_of w k) (get_or w (1 + k) 0)

  pub fresh-next : (w : List ℕ) (k : ℕ) → k + 1 < length w → fresh_after true (codes_of w (k + 1)) ≡ eqb (get_or w (1 + k) 0) 127
  fresh-next w k l = ap (fresh_after true) (codes-next w k l) ∙ fresh-snoc true (codes_of w k) (get_or w (1 + k) 0)

  pub length-next : (w : List ℕ) (k : ℕ) → k + 1 < length w → length (rendered bs h (codes_of w (k + 1))) ≡ length (rendered bs h (codes_of w k)) + length (piece bs h (fresh_after true (codes_of w k)) (get_or w (1 + k) 0))
  length-next w k l = ap length (rendered-next w k l) ∙ length-append (rendered bs h (codes_of w k)) (piece bs h (fresh_after true (codes_of w k)) (get_or w (1 + k) 0))

  pub render-le : (f : Bool) (xs ys : List ℕ) → length (render bs h f xs) ≤ length (render bs h f (xs ++ ys))
  render-le f [] ys = omega arith
  render-le f (x ∷ xs) ys = omega (arith, length-append (piece bs h f x) (render bs h (eqb x 127) xs), length-append (piece bs h f x) (render bs h (eqb x 127) (xs ++ ys)), render-le (eqb x 127) xs ys)

  -- the first of them have no more bytes than all
  pub rendered-le : (w : List ℕ) (k n : ℕ) → k ≤ n → length (rendered bs h (codes_of w k)) ≤ length (rendered bs h (codes_of w n))
  rendered-le w k n l =
      let e : codes_of w k ++ drop k (codes_of w n) ≡ codes_of w n = ap (λ (v : List ℕ). v ++ drop k (codes_of w n)) (sym (take-of k n (drop 1 w) l)) ∙ take-append-drop k (codes_of w n) in
      let a = render-le true (codes_of w k) (drop k (codes_of w n)) in
      subst (λ (v : List ℕ). length (rendered bs h (codes_of w k)) ≤ length (rendered bs h v)) e a

  -- a piece is at most the room that is left for it
  pub piece-room : (w : List ℕ) (k n : ℕ) → n + 1 ≤ length w → k < n → length (rendered bs h (codes_of w k)) + length (piece bs h (fresh_after true (codes_of w k)) (get_or w (1 + k) 0)) ≤ length (rendered bs h (codes_of w n))
  piece-room w k n l m = omega (arith, rendered-le w (k + 1) n (omega arith), length-next w k (omega arith))

  pub puts-next : (w o m o' : List ℕ) (k n : ℕ) → n + 1 ≤ length w → k < n → length (rendered bs h (codes_of w n)) ≤ length o → Puts o m 0 (rendered bs h (codes_of w k))
      → Puts m o' (length (rendered bs h (codes_of w k))) (piece bs h (fresh_after true (codes_of w k)) (get_or w (1 + k) 0)) → Puts o o' 0 (rendered bs h (codes_of w (k + 1)))
  puts-next w o m o' k n l m' r p q =
      let a = puts_then o m o' 0 (rendered bs h (codes_of w k)) (piece bs h (fresh_after true (codes_of w k)) (get_or w (1 + k) 0)) (omega (arith, rendered-le w k n (omega arith))) p (let z : length (rendered bs h (codes_of w k)) ≡ 0 + length (rendered bs h (codes_of w k)) = omega arith in rw z at q) in
      subst (λ (v : List ℕ). Puts o o' 0 v) (sym (rendered-next w k (omega arith))) a

  -- not at the beginning of a line
  pub piece-behind : (f : Bool) (c : ℕ) → (c ≡ 127 → ⊥) → f ≡ false → piece bs h f c ≡ 32 ∷ token bs h c
  piece-behind f c n e = ap₂ (λ (a b : Bool). pick a (10 ∷ []) (pick b [] (32 ∷ []) ++ token bs h c)) (not-true (eqb c 127) (λ q. n (eqb-true c 127 q))) e
    where
      not-true : (b : Bool) → (b ≡ true → ⊥) → b ≡ false
      not-true true g = absurd (g refl)
      not-true false g = refl
