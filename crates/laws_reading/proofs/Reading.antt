-- A text reads as at most one tree. Assumes nothing.
use mathlib.Core.Path.{◌≡◌, refl, sym, ap, ap₂, ◌∙◌, subst}
use mathlib.Core.Bool.{Bool, true, false, ◌||◌, not}
use Prim.Native.Nat.{ℕ}
use lib.Dec.{T, eqb→eq}
use Rattle.def_tree.specs.Tree.{Tree, Forest, node, nil, cons, kids}
use Rattle.def_text.specs.Words.{Word}
use Rattle.def_text.specs.Derives.{is_paren, first_or, passed, erase, erase_all, derives, script}
use Rattle.laws_text.proofs.Basics.{and_left, and_right, both, is_T}
use Rattle.laws_text.proofs.Canon.{canon, canons, pair-of, kids-of}
use Rattle.laws_text.proofs.Unique.{no-pair}
use Rattle.laws_text.proofs.Fit.{derived, root, canon-kids}
use Rattle.laws_reading.specs.Claims.{is_plain, plain, all_plain, has_token, Alike, AllAlike, OneReading, Distinct, occur, all_occur, SameReading}
use Rattle.laws_reading.proofs.Once.{one-script}

module _ (spell : ℕ → ℕ → Word) where
  abbrev Kept : Tree → Type 0
  Kept u = T (canon spell u) → T (plain (erase u)) → T (plain u)

  abbrev AllKept : Forest → Type 0
  AllKept us = T (canons spell us) → T (all_plain (erase_all us)) → T (all_plain us)

  kept-pair : (k f a : ℕ) (ts : Forest) → is_paren k ≡ true → AllKept ts → T (canon spell (node k f a ts)) → T (plain (first_or (node k f a (erase_all ts)) (erase_all ts))) → T (is_plain k f) → T (plain (node k f a ts))
  kept-pair k f a nil e r c h p = absurd (no-pair spell k f a (is_paren k) refl (is_T (is_paren k) e) (pair-of spell k f a nil c))
  kept-pair k f a (cons t nil) e r c h p = both (is_plain k f) (all_plain (cons t nil)) p (r (kids-of spell k f a (cons t nil) c) (both (plain (erase t)) true h tt))
  kept-pair k f a (cons t (cons u ts)) e r c h p = absurd (no-pair spell k f a (is_paren k) refl (is_T (is_paren k) e) (pair-of spell k f a (cons t (cons u ts)) c))

  kept-node : (k f a : ℕ) (ts : Forest) (b : Bool) → is_paren k ≡ b → AllKept ts → T (canon spell (node k f a ts)) → T (plain (passed b (node k f a (erase_all ts)) (erase_all ts))) → T (plain (node k f a ts))
  kept-node k f a ts false e r c h = both (is_plain k f) (all_plain ts) (and_left (is_plain k f) (all_plain (erase_all ts)) h) (r (kids-of spell k f a ts c) (and_right (is_plain k f) (all_plain (erase_all ts)) h))
  kept-node k f a ts true e r c h = kept-pair k f a ts e r c h (subst (λ (j : ℕ). T (is_plain j f)) (sym (eqb→eq k 41 (is_T (is_paren k) e))) tt)

  mutual
    kept : (u : Tree) → Kept u
    kept (node k f a ts) = λ c h. kept-node k f a ts (is_paren k) refl (all-kept ts) c h

    all-kept : (us : Forest) → AllKept us
    all-kept nil = λ c h. tt
    all-kept (cons u us) = λ c h. both (plain u) (all_plain us) (kept u (and_left (canon spell u) (canons spell us) c) (and_left (plain (erase u)) (all_plain (erase_all us)) h)) (all-kept us (and_right (canon spell u) (canons spell us) c) (and_right (plain (erase u)) (all_plain (erase_all us)) h))

  plain-kids : (u : Tree) → T (derives spell u script) → T (all_plain (kids (erase u))) → T (all_plain (kids u))
  plain-kids (node k f a ts) d h =
      let i = derived spell k f a ts script d in
      let r = root spell k f a ts i in
      all-kept ts (canon-kids spell k f a ts script i) (subst (λ (b : Bool). T (all_plain (kids (passed b (node k f a (erase_all ts)) (erase_all ts))))) (ap (λ (j : ℕ). is_paren j) r.kind-is) h)

-- ---- alike but for kind 41

module _ (spell : ℕ → ℕ → Word) where
  passed-alike : (k f a l g b : ℕ) (ts us : Forest) (c d : Bool) → is_paren k ≡ c → is_paren l ≡ d → c ≡ d → Alike spell (node k f a ts) (node l g b us) → Alike spell (passed c (node k f a ts) ts) (passed d (node l g b us) us)
  passed-alike k f a l g b ts us false false e e' q h = h
  passed-alike k f a l g b nil nil true true e e' q h = h
  passed-alike k f a l g b nil (cons u us) true true e e' q h = absurd h.4
  passed-alike k f a l g b (cons t ts) nil true true e e' q h = absurd h.4
  passed-alike k f a l g b (cons t ts) (cons u us) true true e e' q h = h.4.0
  passed-alike k f a l g b ts us true false e e' q h = absurd (cc)
  passed-alike k f a l g b ts us false true e e' q h = absurd (cc)

  mutual
    alike-erased : (u v : Tree) → Alike spell u v → Alike spell (erase u) (erase v)
    alike-erased (node k f a ts) (node l g b us) h =
        passed-alike k f a l g b (erase_all ts) (erase_all us) (is_paren k) (is_paren l) refl refl (ap (λ (j : ℕ). is_paren j) h.0) (h.0, h.1, h.2, h.3, all-alike-erased ts us h.4)

    all-alike-erased : (ts us : Forest) → AllAlike spell ts us → AllAlike spell (erase_all ts) (erase_all us)
    all-alike-erased nil nil h = tt
    all-alike-erased nil (cons u us) h = absurd h
    all-alike-erased (cons t ts) nil h = absurd h
    all-alike-erased (cons t ts) (cons u us) h = (alike-erased t u h.0, all-alike-erased ts us h.1)

pub one-reading : (spell : ℕ → ℕ → Word) → OneReading spell
one-reading spell ws s t p q x y =
    let u = x.0 in
    let v = y.0 in
    let a = one-script spell u v (plain-kids spell u x.2 (subst (λ (z : Tree). T (all_plain (kids z))) (sym x.3) p)) (plain-kids spell v y.2 (subst (λ (z : Tree). T (all_plain (kids z))) (sym y.3) q)) x.2 y.2 (x.1 ∙ sym y.1) in
    subst (λ (z : Tree). Alike spell z (erase t)) x.3 (subst (λ (z : Tree). Alike spell (erase u) z) y.3 (alike-erased spell u v a))

-- ---- numbers that are told by their tokens

module _ (spell : ℕ → ℕ → Word) (p : ℕ → ℕ → Bool) (d : Distinct spell p) where
  number-of : (b c : Bool) → b ≡ true → T (not b || c) → T c
  number-of true c e h = h
  number-of false c e h = absurd (cc)

  same-number-by : (k l a b : ℕ) (w : Bool) → has_token k ≡ w → k ≡ l → spell k a ≡ spell l b → (T (not (has_token k)) → a ≡ b) → T (not (has_token k) || p k a) → T (not (has_token l) || p l b) → a ≡ b
  same-number-by k l a b true w e h f i j =
      d k a b (subst T (sym w) tt) (number-of (has_token k) (p k a) w i) (number-of (has_token k) (p k b) w (subst (λ (n : ℕ). T (not (has_token n) || p n b)) (sym e) j)) (h ∙ ap (λ (i : ℕ). spell i b) (sym e))
  same-number-by k l a b false w e h f i j = f (subst (λ (x : Bool). T (not x)) (sym w) tt)

  mutual
    same-tree : (u v : Tree) → Alike spell u v → T (occur spell p u) → T (occur spell p v) → u ≡ v
    same-tree (node k f a ts) (node l g b us) h i j =
        ap (λ (i : ℕ). node i f a ts) h.0 ∙ ap (λ (i : ℕ). node l i a ts) h.1
        ∙ ap (λ (i : ℕ). node l g i ts) (same-number-by k l a b (has_token k) refl h.0 h.2 h.3 (and_left (not (has_token k) || p k a) (all_occur spell p ts) i) (and_left (not (has_token l) || p l b) (all_occur spell p us) j))
        ∙ ap (λ (x : Forest). node l g b x) (same-forest ts us h.4 (and_right (not (has_token k) || p k a) (all_occur spell p ts) i) (and_right (not (has_token l) || p l b) (all_occur spell p us) j))

    same-forest : (ts us : Forest) → AllAlike spell ts us → T (all_occur spell p ts) → T (all_occur spell p us) → ts ≡ us
    same-forest nil nil h i j = refl
    same-forest nil (cons u us) h i j = absurd h
    same-forest (cons t ts) nil h i j = absurd h
    same-forest (cons t ts) (cons u us) h i j =
        ap₂ {C = Forest} (λ x xs. cons x xs) (same-tree t u h.0 (and_left (occur spell p t) (all_occur spell p ts) i) (and_left (occur spell p u) (all_occur spell p us) j))
        (same-forest ts us h.1 (and_right (occur spell p t) (all_occur spell p ts) i) (and_right (occur spell p u) (all_occur spell p us) j))

pub same-reading : (spell : ℕ → ℕ → Word) (p : ℕ → ℕ → Bool) → SameReading spell p
same-reading spell p d ws s t a b i j x y = same-tree spell p d (erase s) (erase t) (one-reading spell ws s t a b x y) i j
