-- Nodes, ends and texts, one behind the other: what stands in a buffer after each, and in the end. Assumes nothing.
use mathlib.Core.Path.{◌≡◌, refl, sym, ap, ◌∙◌}
use mathlib.Core.List.{List, [], ◌∷◌, ◌++◌, append_assoc, append-nil}
use Prim.Native.Nat.{ℕ, zero, suc, ◌+◌, ◌*◌, ◌≤◌, ◌<◌}
use native.Mathlib.Numerals.{add-one}
use native.Mathlib.Omega.{arith}
use lib.ListN.{length, get_or, take, drop, length-append}
use lib.Seq.{sets, sets-eq, paste, take-suc, take_all, length-take-le}
use Rattle.def_file.specs.declared.Raw.{Raw}
use Rattle.def_file.specs.Script.{Script, zero_node}
use Rattle.def_file.specs.Write.{bytes, raw_bytes, node_bytes, end_bytes, text_bytes, head_bytes, file}
use Rattle.laws_roundtrip.proofs.Nodes.{node-bytes-length}
use Rattle.laws_roundtrip.proofs.Texts.{end-bytes-length}
use Rattle.file_write.proofs.Backs.{node-bytes-snoc}
use Rattle.file_write.proofs.Stores.{first, then}
use Rattle.file_write.proofs.Laid.{sets-front}

-- one more
text_bytes-snoc : (ts : List (List ℕ)) (t : List ℕ) → text_bytes (ts ++ (t ∷ [])) ≡ text_bytes ts ++ t
unfolding text_bytes
text_bytes-snoc [] t = append-nil t
text_bytes-snoc (u ∷ us) t = ap (λ (r : List ℕ). u ++ r) (text_bytes-snoc us t) ∙ sym (append_assoc u (text_bytes us) t)

end_bytes-snoc : (at : ℕ) (ts : List (List ℕ)) (t : List ℕ) → end_bytes at (ts ++ (t ∷ [])) ≡ end_bytes at ts ++ bytes 4 (at + length (text_bytes ts) + length t)
unfolding end_bytes text_bytes
end_bytes-snoc at [] t = let e : at + 0 ≡ at = omega arith in rw e (append-nil (bytes 4 (at + length t)))
end_bytes-snoc at (u ∷ us) t =
    let e : at + length (u ++ text_bytes us) ≡ at + length u + length (text_bytes us) = omega (arith, length-append u (text_bytes us)) in
    rw e (ap (λ (r : List ℕ). bytes 4 (at + length u) ++ r) (end_bytes-snoc (at + length u) us t) ∙ sym (append_assoc (bytes 4 (at + length u)) (end_bytes (at + length u) us) (bytes 4 (at + length u + length (text_bytes us) + length t))))

-- the nodes, from byte 32 on
module _ (xs : List Raw) (k : ℕ) where
  nodes_written : k ≤ length xs → length (node_bytes (take k xs)) ≡ 16 * k
  nodes_written l = node-bytes-length (take k xs) ∙ ap (λ (n : ℕ). 16 * n) (length-take-le k xs l)

  pub nodes-more : (r : List ℕ) {r₁ r₂ : List ℕ} (x : Raw) → k < length xs → r₁ ≡ sets r 32 (node_bytes (take k xs)) → x ≡ get_or xs k zero_node → r₂ ≡ sets r₁ (32 + 16 * k) (raw_bytes x) → r₂ ≡ sets r 32 (node_bytes (take (k + 1) xs))
  nodes-more r {r₁} {r₂} x l p e q =
      (then (first r 32 (node_bytes (take k xs)) p) (32 + 16 * k) (raw_bytes x) q (omega (arith, nodes_written (omega arith)))).is
      ∙ ap (sets r 32) (sym (ap node_bytes (rw add-one (take-suc xs k zero_node l)) ∙ node-bytes-snoc (take k xs) (get_or xs k zero_node) ∙ ap (λ (y : Raw). node_bytes (take k xs) ++ raw_bytes y) (sym e)))

  pub nodes-all : (r : List ℕ) {r₁ : List ℕ} → length xs ≤ k → r₁ ≡ sets r 32 (node_bytes (take k xs)) → r₁ ≡ sets r 32 (node_bytes xs)
  nodes-all r l p = p ∙ ap (λ (ys : List Raw). sets r 32 (node_bytes ys)) (take_all k xs l)

-- the texts
module _ (ts : List (List ℕ)) (i : ℕ) where
  module _ (l : i < length ts) where
    texts-so : take (i + 1) ts ≡ take i ts ++ (get_or ts i [] ∷ [])
    texts-so = rw add-one (take-suc ts i [] l)

    pub bytes-more : length (text_bytes (take (i + 1) ts)) ≡ length (text_bytes (take i ts)) + length (get_or ts i [])
    bytes-more = ap length (ap text_bytes texts-so ∙ text_bytes-snoc (take i ts) (get_or ts i [])) ∙ length-append (text_bytes (take i ts)) (get_or ts i [])

    pub texts-more : (r : List ℕ) (p : ℕ) {r₁ r₂ t : List ℕ} → r₁ ≡ sets r p (text_bytes (take i ts)) → t ≡ get_or ts i [] → r₂ ≡ sets r₁ (p + length (text_bytes (take i ts))) t → r₂ ≡ sets r p (text_bytes (take (i + 1) ts))
    texts-more r p {r₁} {r₂} {t} e q u =
        (then (first r p (text_bytes (take i ts)) e) (p + length (text_bytes (take i ts))) t u refl).is
        ∙ ap (sets r p) (sym (ap text_bytes texts-so ∙ text_bytes-snoc (take i ts) (get_or ts i []) ∙ ap (λ (v : List ℕ). text_bytes (take i ts) ++ v) (sym q)))

    pub ends-more : (r : List ℕ) (p n : ℕ) {r₁ r₂ : List ℕ} → r₁ ≡ sets r p (end_bytes 0 (take i ts)) → n ≡ length (text_bytes (take i ts)) + length (get_or ts i []) → r₂ ≡ sets r₁ (p + 4 * i) (bytes 4 n) → r₂ ≡ sets r p (end_bytes 0 (take (i + 1) ts))
    ends-more r p n {r₁} {r₂} e q u =
        let z : 0 + length (text_bytes (take i ts)) ≡ length (text_bytes (take i ts)) = omega arith in
        (then (first r p (end_bytes 0 (take i ts)) e) (p + 4 * i) (bytes 4 n) u (omega (arith, end-bytes-length 0 (take i ts), length-take-le i ts (omega arith)))).is
        ∙ ap (sets r p) (sym (ap (end_bytes 0) texts-so ∙ end_bytes-snoc 0 (take i ts) (get_or ts i []) ∙ ap (λ (m : ℕ). end_bytes 0 (take i ts) ++ bytes 4 (m + length (get_or ts i []))) z ∙ ap (λ (m : ℕ). end_bytes 0 (take i ts) ++ bytes 4 m) (sym q)))

  module _ (l : length ts ≤ i) where
    pub bytes-all : length (text_bytes (take i ts)) ≡ length (text_bytes ts)
    bytes-all = ap (λ (us : List (List ℕ)). length (text_bytes us)) (take_all i ts l)

    pub texts-all : (r : List ℕ) (p : ℕ) {r₁ : List ℕ} → r₁ ≡ sets r p (text_bytes (take i ts)) → r₁ ≡ sets r p (text_bytes ts)
    texts-all r p e = e ∙ ap (λ (us : List (List ℕ)). sets r p (text_bytes us)) (take_all i ts l)

    pub ends-all : (r : List ℕ) (p : ℕ) {r₁ : List ℕ} → r₁ ≡ sets r p (end_bytes 0 (take i ts)) → r₁ ≡ sets r p (end_bytes 0 ts)
    ends-all r p e = e ∙ ap (λ (us : List (List ℕ)). sets r p (end_bytes 0 us)) (take_all i ts l)

-- some of the texts have no more bytes than all
pub bytes-part : (i : ℕ) (ts : List (List ℕ)) → length (text_bytes (take i ts)) ≤ length (text_bytes ts)
unfolding text_bytes
bytes-part zero ts = omega arith
bytes-part (suc i) [] = omega arith
bytes-part (suc i) (t ∷ ts) = omega (arith, length-append t (text_bytes (take i ts)), length-append t (text_bytes ts), bytes-part i ts)

-- a copy of all of a text
pub copied : (d t : List ℕ) (p n : ℕ) → n ≡ length t → p + n ≤ length d → paste d p (drop 0 t) n ≡ sets d p t
copied d t p n e l = rw e (ap (λ (u : List ℕ). take p d ++ u ++ drop (p + length t) d) (take_all (length t) t (omega arith)) ∙ sym (sets-eq t d p (omega arith)))

-- all of a file
module _ (s : Script) where
  pub file-length : length (file s) ≡ 32 + 16 * length s.nodes + 4 * length s.texts + length (text_bytes s.texts)
  unfolding file
  file-length = simp length-append (omega (arith, node-bytes-length s.nodes, end-bytes-length 0 s.texts))

  pub file-written : (r : List ℕ) {r₁ r₂ r₃ r₄ : List ℕ} → length (file s) ≤ length r → r₁ ≡ sets r 0 (head_bytes (length s.nodes) (length s.texts) (length (text_bytes s.texts)))
      → r₂ ≡ sets r₁ 32 (node_bytes s.nodes) → r₃ ≡ sets r₂ (32 + 16 * length s.nodes) (end_bytes 0 s.texts) → r₄ ≡ sets r₃ (32 + 16 * length s.nodes + 4 * length s.texts) (text_bytes s.texts) → r₄ ≡ file s ++ drop (length (file s)) r
  unfolding file
  file-written r l e₁ e₂ e₃ e₄ =
      let hs = head_bytes (length s.nodes) (length s.texts) (length (text_bytes s.texts)) in
      let s₁ = first r 0 hs e₁ in
      let s₂ = then s₁ 32 (node_bytes s.nodes) e₂ refl in
      let s₃ = then s₂ (32 + 16 * length s.nodes) (end_bytes 0 s.texts) e₃ (omega (arith, length-append hs (node_bytes s.nodes), node-bytes-length s.nodes)) in
      let s₄ = then s₃ (32 + 16 * length s.nodes + 4 * length s.texts) (text_bytes s.texts) e₄ (omega (arith, length-append (hs ++ node_bytes s.nodes) (end_bytes 0 s.texts), length-append hs (node_bytes s.nodes), node-bytes-length s.nodes, end-bytes-length 0 s.texts)) in
      s₄.is ∙ sets-front r (file s) (length (file s)) refl l

-- nothing written
pub bytes-none : ◌≡◌ {A = ℕ} (length (text_bytes [])) 0
unfolding text_bytes
bytes-none = refl

module _ (r : List ℕ) where
  pub nodes-none : r ≡ sets r 32 (node_bytes [])
  unfolding node_bytes
  nodes-none = refl

  pub ends-none : (p : ℕ) → r ≡ sets r p (end_bytes 0 [])
  unfolding end_bytes
  ends-none p = refl

  pub texts-none : (p : ℕ) → r ≡ sets r p (text_bytes [])
  unfolding text_bytes
  texts-none p = refl
