-- Bytes are cut into tokens in one way, tokens have pairs in one way, and reading refuses by 2 to 7. Assumes nothing.
use mathlib.Core.Path.{◌≡◌, refl, sym, ap, ap₂, ◌∙◌, subst}
use mathlib.Core.Bool.{Bool, true, false, ◌&&◌, ◌||◌}
use mathlib.Core.List.{List, [], ◌∷◌, ◌++◌}
use Prim.Native.Nat.{ℕ, ◌+◌, ◌*◌, ◌≤◌}
use native.Mathlib.Omega.{arith}
use lib.Dec.{T, eqb, leb, eqb→eq}
use lib.ListN.{length, drop}
use Rattle.def_tree.specs.Tree.{Tree, Forest, node, kids}
use Rattle.def_file.specs.Script.{Script, idents}
use Rattle.def_file.specs.Read.{Read, bad, script, u32, ends_from, texts_from, nodes_from, rising, distinct, nodes_ok, read}
use Rattle.def_text.specs.Words.{Word}
use Rattle.def_text.specs.Derives as Derives
use Rattle.def_text.specs.Derives.{erase, erase_all, passed, is_paren, tokens, derives}
use Rattle.def_text.specs.Lexing.{is_token, is_gap, Lexes, end, gap, token}
use Rattle.laws_text.proofs.Basics.{is_T}
use Rattle.laws_text.proofs.Fit.{derived, canon-kids, counted-by, root}
use Rattle.laws_text.proofs.Unique.{unique-script}

-- ---- tokens

-- no token is empty, and none begins with a gap
no-empty : T (is_token []) → ⊥
no-empty h = h

gap-first : (c : ℕ) (w : Word) → T (is_gap c) → T (is_token (c ∷ w)) → ⊥
gap-first c w g t = go (eqb c 32) refl (eqb c 10) refl g
  where
    go : (p : Bool) → eqb c 32 ≡ p → (q : Bool) → eqb c 10 ≡ q → T (p || q) → ⊥
    go true e q f h = subst (λ (d : ℕ). T (is_token (d ∷ w))) (eqb→eq c 32 (is_T _ e)) t
    go false e true f h = subst (λ (d : ℕ). T (is_token (d ∷ w))) (eqb→eq c 10 (is_T _ f)) t
    go false e false f h = h

apart : (c : ℕ) (bs v cs : List ℕ) → T (is_gap c) → T (is_token v) → c ∷ bs ≡ v ++ cs → ⊥
apart c bs [] cs g t e = no-empty t
apart c bs (d ∷ v) cs g t e = let q : c ≡ d = cc in gap-first d v (subst (λ (x : ℕ). T (is_gap x)) q g) t

nothing : (v cs : List ℕ) → T (is_token v) → [] ≡ v ++ cs → ⊥
nothing [] cs t e = no-empty t
nothing (d ∷ v) cs t e = cc

-- two beginnings of one length
front : (w b v d : List ℕ) → length w ≡ length v → w ++ b ≡ v ++ d → (w ≡ v) × (b ≡ d)
front [] b [] d l e = (refl, e)
front [] b (y ∷ v) d l e = absurd (omega (arith, l))
front (x ∷ w) b [] d l e = absurd (omega (arith, l))
front (x ∷ w) b (y ∷ v) d l e =
    let p : x ≡ y = cc in
    let q : w ++ b ≡ v ++ d = cc in
    let r = front w b v d (omega (arith, l)) q in
    (ap₂ {C = List ℕ} (λ z zs. z ∷ zs) p r.0, r.1)

lexes-alike : {bs cs : List ℕ} {ws vs : List Word} → Lexes bs ws → Lexes cs vs → bs ≡ cs → ws ≡ vs
lexes-alike end end e = refl
lexes-alike end (gap c cs vs g l) e = let z : ⊥ = cc in absurd z
lexes-alike end (token v cs vs t m l) e = absurd (nothing v cs t e)
lexes-alike (gap c bs ws g k) end e = let z : ⊥ = cc in absurd z
lexes-alike (gap c bs ws g k) (gap d cs vs h l) e = let q : bs ≡ cs = cc in lexes-alike k l q
lexes-alike (gap c bs ws g k) (token v cs vs t m l) e = absurd (apart c bs v cs g t e)
lexes-alike (token w bs ws s n k) end e = absurd (nothing w bs s (sym e))
lexes-alike (token w bs ws s n k) (gap d cs vs h l) e = absurd (apart d cs w bs h s (sym e))
lexes-alike (token w bs ws s n k) (token v cs vs t m l) e =
    let p : length v ≤ length w = n v cs t (sym e) in
    let q : length w ≤ length v = m w bs s e in
    let f = front w bs v cs (omega (arith, p, q)) e in
    ap₂ {C = List Word} (λ x xs. x ∷ xs) f.0 (lexes-alike k l f.1)

pub lexes-once : {bs : List ℕ} {ws vs : List Word} → Lexes bs ws → Lexes bs vs → ws ≡ vs
lexes-once k l = lexes-alike k l refl

-- ---- trees

module _ (spell : ℕ → ℕ → Word) where
  one-at : (k f a : ℕ) (us : Forest) (k' f' a' : ℕ) (vs : Forest) → T (derives spell (node k f a us) Derives.script) → T (derives spell (node k' f' a' vs) Derives.script)
      → erase (node k f a us) ≡ erase (node k' f' a' vs) → tokens spell (node k f a us) ≡ tokens spell (node k' f' a' vs) → node k f a us ≡ node k' f' a' vs
  one-at k f a us k' f' a' vs g h e w =
      let d = derived spell k f a us Derives.script g in
      let d' = derived spell k' f' a' vs Derives.script h in
      let r = root spell k f a us d in
      let r' = root spell k' f' a' vs d' in
      let q : node k' f' a' vs ≡ node k f a vs = ap (λ (j : ℕ). node j f' a' vs) (r'.kind-is ∙ sym r.kind-is) ∙ ap (λ (j : ℕ). node k j a' vs) (r'.form-is ∙ sym r.form-is) ∙ ap (λ (j : ℕ). node k f j vs) (r'.num-is ∙ sym r.num-is) in
      let p : (us : Forest) → erase (node k f a us) ≡ node k f a (erase_all us) = λ us. ap (λ (j : ℕ). passed (is_paren j) (node k f a (erase_all us)) (erase_all us)) r.kind-is in
      let same : erase_all us ≡ erase_all vs = ap kids (sym (p us) ∙ e ∙ ap erase q ∙ p vs) in
      ap (λ (x : Forest). node k f a x) (unique-script spell k f a us vs (counted-by spell k f a us Derives.script d) (canon-kids spell k f a us Derives.script d) (canon-kids spell k' f' a' vs Derives.script d') same (w ∙ ap (λ (x : Tree). tokens spell x) q))
      ∙ sym q

  pub one-tree : (u v : Tree) → T (derives spell u Derives.script) → T (derives spell v Derives.script) → erase u ≡ erase v → tokens spell u ≡ tokens spell v → u ≡ v
  one-tree (node k f a us) (node k' f' a' vs) g h e w = one-at k f a us k' f' a' vs g h e w

-- ---- refusals

abbrev Numbered : Read → Type 0
Numbered (bad n) = (2 ≤ n) × (n ≤ 7)
Numbered (script s) = Unit {0}

row : (c : Bool) (n : ℕ) (x : Read) → 2 ≤ n → n ≤ 7 → Numbered x → Numbered (elim c [ false ↦ bad n | true ↦ x ])
row false n x l m h = (l, m)
row true n x l m h = h

read-numbered : (bs : List ℕ) → Numbered (read bs)
unfolding read nodes_ok idents
read-numbered bs =
    let n = u32 bs 8 in
    let t = u32 bs 16 in
    let b = u32 bs 28 in
    let ends = ends_from t (drop (32 + 16 * n) bs) in
    let texts = texts_from 0 ends (drop (32 + 16 * n + 4 * t) bs) in
    let a : Script = record { nodes = nodes_from n (drop 32 bs); texts = texts } in
    row (leb 32 (length bs) && eqb (u32 bs 0) 1) 2 _ (omega arith) (omega arith)
    (row (leb 1 n && leb n 1024 && leb t 256 && leb b 4096) 3 _ (omega arith) (omega arith)
    (row (eqb (u32 bs 4) (length bs) && eqb (u32 bs 12) 32 && eqb (u32 bs 20) (32 + 16 * n) && eqb (u32 bs 24) (32 + 16 * n + 4 * t) && eqb (u32 bs 4) (32 + 16 * n + 4 * t + b)) 4 _ (omega arith) (omega arith)
    (row (rising 0 ends b && distinct texts) 5 _ (omega arith) (omega arith)
    (row (nodes_ok a) 6 _ (omega arith) (omega arith) (row (leb (length (idents a)) 256) 7 (script a) (omega arith) (omega arith) tt)))))

pub refusal-number : (bs : List ℕ) (n : ℕ) → read bs ≡ bad n → (2 ≤ n) × (n ≤ 7)
refusal-number bs n e = subst Numbered e (read-numbered bs)
