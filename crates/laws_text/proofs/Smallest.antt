-- Round the smallest expression that helps. Assumes nothing.
use mathlib.Core.Path.{◌≡◌, refl, sym, ap, ◌∙◌, subst}
use mathlib.Core.Bool.{Bool, true, false, not}
use mathlib.Core.List.{List, [], ◌++◌, append-nil}
use Prim.Native.Nat.{ℕ}
use lib.Dec.{T, eqb→eq}
use Rattle.def_tree.specs.Tree.{Tree, Forest, node, nil, cons, kind, form, num, kids, length_f}
use Rattle.def_text.specs.Words.{Word, some}
use Rattle.def_text.specs.Derives.{barred, erase, erase_all, passed, is_paren, tokens, derives}
use Rattle.def_text.specs.Print.{At, is_pattern, in_pair, opening, opening_first, lacks}
use Rattle.laws_text.specs.Claims.{stands, Smallest}
use Rattle.laws_text.proofs.Basics.{and_left, and_right, is_T, some-found}
use Rattle.laws_text.proofs.Canon.{canon, canons, kids-of}
use Rattle.laws_text.proofs.Unique.{length-erase, in-erase}
use Rattle.laws_text.proofs.Fit.{derived, canon-kids}
use Rattle.laws_text.proofs.Least.{Prefix, prefix-nil, pattern-no-pair, StandsAt, FirstOk, open-node, stays-follows, no-stays}

pattern-plain : (k : ℕ) → T (is_pattern k) → (b : Bool) → is_paren k ≡ b → b ≡ false
pattern-plain k p false e = refl
pattern-plain k p true e = absurd (subst (λ (j : ℕ). T (is_pattern j)) (eqb→eq k 41 (is_T _ e)) p)

module _ (spell : ℕ → ℕ → Word) where
  -- a canonical pair's tree is of a kind that a pair stands round
  pair-kind : (k f a : ℕ) (us : Forest) → T (is_paren k) → T (canon spell (node k f a us)) → T (in_pair (kind (erase (node k f a us))))
  pair-kind k f a us p c = in-erase spell (node k f a us) c (subst (λ (j : ℕ). T (in_pair j)) (sym (eqb→eq k 41 p)) tt)

  same-first : (k f a : ℕ) (ts : Forest) (k' f' a' : ℕ) (us : Forest) → (k' ≡ k) → (f' ≡ f) → (a' ≡ a) → Prefix (opening spell (node k f a ts) []) (tokens spell (node k f a us)) → Prefix (opening spell (node k f a ts) []) (tokens spell (node k' f' a' us))
  same-first k f a ts k' f' a' us p q r h =
      subst (λ (x : Tree). Prefix (opening spell (node k f a ts) []) (tokens spell x)) (sym (ap (λ (i : ℕ). node i f' a' us) p ∙ ap (λ (i : ℕ). node k i a' us) q ∙ ap (λ (i : ℕ). node k f i us) r)) h

  open-erased-by : (k f a : ℕ) (ts : Forest) (k' f' a' : ℕ) (us : Forest) (b : Bool) → is_paren k' ≡ b → T (is_pattern k) → T (canon spell (node k' f' a' us)) → erase (node k' f' a' us) ≡ node k f a (erase_all ts)
      → ((us : Forest) → erase_all us ≡ erase_all ts → T (canons spell us) → FirstOk spell (opening_first spell ts) us) → Prefix (opening spell (node k f a ts) []) (tokens spell (node k' f' a' us))
  open-erased-by k f a ts k' f' a' us true q p c e h = absurd (pattern-no-pair k p (subst (λ (x : Tree). T (in_pair (kind x))) e (pair-kind k' f' a' us (is_T _ q) c)))
  open-erased-by k f a ts k' f' a' us false q p c e h =
      let g : node k' f' a' (erase_all us) ≡ node k f a (erase_all ts) = ap (λ (b : Bool). passed b (node k' f' a' (erase_all us)) (erase_all us)) (sym q) ∙ e in
      let s = ap kids g in
      let l = sym (length-erase us) ∙ ap length_f s ∙ length-erase ts in
      same-first k f a ts k' f' a' us (ap kind g) (ap form g) (ap num g)
      (subst (λ (y : List Word). Prefix (opening spell (node k f a ts) []) y) (append-nil (tokens spell (node k f a us))) (open-node spell k f a ts us [] l (h us s (kids-of spell k' f' a' us c))))

  first-erased-by : (t : Tree) (ts us : Forest) (b : Bool) → is_pattern (kind t) ≡ b → erase_all us ≡ erase_all (cons t ts) → T (canons spell us) → ((u : Tree) → erase u ≡ erase t → T (canon spell u) → T (is_pattern (kind t)) → Prefix (opening spell t []) (tokens spell u))
      → FirstOk spell (elim b [ true ↦ opening spell t [] | false ↦ [] ]) us
  first-erased-by t ts nil b q e c h = absurd (cc)
  first-erased-by t ts (cons u us) true q e c h = h u (ap (λ (x : Forest). first x) e) (and_left (canon spell u) (canons spell us) c) (is_T _ q)
    where
      first : Forest → Tree
      first nil = t
      first (cons x xs) = x
  first-erased-by t ts (cons u us) false q e c h = prefix-nil (tokens spell u)

  mutual
    open-erased : (t u : Tree) → erase u ≡ erase t → T (canon spell u) → T (is_pattern (kind t)) → Prefix (opening spell t []) (tokens spell u)
    open-erased (node k f a ts) (node k' f' a' us) e c p =
        open-erased-by k f a ts k' f' a' us (is_paren k') refl p c (e ∙ ap (λ (b : Bool). passed b (node k f a (erase_all ts)) (erase_all ts)) (pattern-plain k p (is_paren k) refl)) (λ vs s d. first-erased ts vs s d)

    pub first-erased : (ts us : Forest) → erase_all us ≡ erase_all ts → T (canons spell us) → FirstOk spell (opening_first spell ts) us
    first-erased nil nil e c = refl
    first-erased nil (cons u us) e c = absurd (cc)
    first-erased (cons t ts) us e c = first-erased-by t ts us (is_pattern (kind t)) refl e c (λ u s d p. open-erased t u s d p)

  stands-at : (u : Tree) (ss : List At) → T (some (stands spell u) ss) → StandsAt spell u ss
  stands-at u ss h =
      let f = some-found (stands spell u) ss h in
      record { place = f.one; within = f.inside; derived! = and_left (derives spell u f.one.place) (not (barred f.one.bars (tokens spell u ++ f.one.next))) f.passes; free = and_right (derives spell u f.one.place) (not (barred f.one.bars (tokens spell u ++ f.one.next))) f.passes }

  bare : (k f a : ℕ) (ts : Forest) (ss : List At) (k' f' a' : ℕ) (us : Forest) (b : Bool) → is_paren k' ≡ b → lacks spell k f a ts ss ≡ true → is_paren k ≡ false → StandsAt spell (node k' f' a' us) ss
      → erase (node k' f' a' us) ≡ erase (node k f a ts) → T b
  bare k f a ts ss k' f' a' us true q l n st e = tt
  bare k f a ts ss k' f' a' us false q l n st e =
      let g : node k' f' a' (erase_all us) ≡ node k f a (erase_all ts) = ap (λ (b : Bool). passed b (node k' f' a' (erase_all us)) (erase_all us)) (sym q) ∙ e ∙ ap (λ (b : Bool). passed b (node k f a (erase_all ts)) (erase_all ts)) n in
      let same = ap (λ (i : ℕ). node i f' a' us) (ap kind g) ∙ ap (λ (i : ℕ). node k i a' us) (ap form g) ∙ ap (λ (i : ℕ). node k f i us) (ap num g) in
      let s = ap kids g in
      let d = derived spell k' f' a' us st.place.place st.derived! in
      absurd (no-stays spell k f a ts us ss l (stays-follows spell k f a ts us ss (sym (length-erase us) ∙ ap length_f s ∙ length-erase ts) (first-erased ts us s (canon-kids spell k' f' a' us st.place.place d)) (subst (λ (x : Tree). StandsAt spell x ss) same st)))

  pub smallest-of : (k f a : ℕ) (ts : Forest) (ss : List At) (u : Tree) → lacks spell k f a ts ss ≡ true → is_paren k ≡ false → StandsAt spell u ss → erase u ≡ erase (node k f a ts) → T (is_paren (kind u))
  smallest-of k f a ts ss (node k' f' a' us) l n st e = bare k f a ts ss k' f' a' us (is_paren k') refl l n st e

  pub smallest : Smallest spell
  smallest k f a ts ss u l n h e = smallest-of k f a ts ss u l n (stands-at u ss h) e
