-- With pairs inside an added pair's expression, in place of that pair, nothing derives the tree. Assumes nothing.
use mathlib.Core.Path.{◌≡◌, refl, sym, ap, ap₂, ◌∙◌, subst}
use mathlib.Core.Bool.{Bool, true, false, ◌&&◌, ◌||◌, not}
use mathlib.Core.List.{List, [], ◌∷◌}
use Prim.Native.Nat.{ℕ}
use lib.Dec.{T, eqb}
use borrow.Author.Tests.{clash}
use Rattle.std.proofs.Common.{inl, inr}
use Rattle.def_tree.specs.Base.{pick}
use Rattle.def_tree.specs.Tree.{Tree, Forest, node, nil, cons, kind, length_f}
use Rattle.def_text.specs.Words.{Word}
use Rattle.def_text.specs.Derives.{passed, erase, erase_all, is_paren, laid, script, tokens, derives}
use Rattle.def_text.specs.Print.{At, start, Walk, first_places, passed_by, walks, in_pair, wrap, inside, stays, lacks, chosen, fix, fix_all}
use Rattle.laws_text.specs.Claims.{one_expression, pairs_ok, all_pairs_ok, one_inside, pair_ok, paired, all_paired, Elsewhere, ElsewhereAll, NoneInside}
use Rattle.laws_text.proofs.Basics.{and_left, and_right, both, here}
use Rattle.laws_text.proofs.Canon.{canons}
use Rattle.laws_text.proofs.Fit.{derived, canon-kids, counted-by, root}
use Rattle.laws_text.proofs.Shape.{expr-in-pair, pair-wrap, wraps, erase-wrap, fix-all-dressed, fix-dressed, erase-all-dressed, erase-dressed, paired-dressed, all-paired-dressed, canons-erase, canons-back, pairs-laid, root-same}
use Rattle.laws_text.proofs.Unique.{length-erase, unique-script}
use Rattle.laws_text.proofs.Least.{StandsAt, Follows, kid-stands, kids-follow, stays-follows, inside-follows, inside-stands}
use Rattle.laws_text.proofs.Smallest.{first-erased, smallest-of}

erase-node : (k f a : ℕ) (us ts : Forest) → erase_all us ≡ erase_all ts → erase (node k f a us) ≡ erase (node k f a ts)
erase-node k f a us ts e = ap (λ (vs : Forest). passed (is_paren k) (node k f a vs) vs) e

module _ (spell : ℕ → ℕ → Word) where
  mutual
    pub erase-elsewhere : (t : Tree) (ss : List At) (v : Tree) → Elsewhere spell t ss v → erase v ≡ erase t
    erase-elsewhere (node k f a ts) ss v (inl l) = l.3
    erase-elsewhere (node k f a ts) ss v (inr l) =
        ap erase l.2 ∙ erase-wrap (lacks spell k f a ts ss) (node k f a l.0) ∙ erase-node k f a l.0 ts (erase-all-elsewhere ts (chosen spell k f a ts ss) l.0 l.1)

    pub erase-all-elsewhere : (ts : Forest) (ws : List Walk) (us : Forest) → ElsewhereAll spell ts ws us → erase_all us ≡ erase_all ts
    erase-all-elsewhere nil ws us l = absurd l
    erase-all-elsewhere (cons t ts) ws us (inl l) =
        ap erase_all l.2 ∙ ap₂ {C = Forest} (λ x xs. cons x xs) (erase-elsewhere t (first_places ws) l.0 l.1) (erase-all-dressed ts (fix_all spell ts (passed_by ws)) (fix-all-dressed spell ts (passed_by ws)))
    erase-all-elsewhere (cons t ts) ws us (inr l) =
        ap erase_all l.2 ∙ ap₂ {C = Forest} (λ x xs. cons x xs) (erase-dressed t (fix spell t (first_places ws)) (fix-dressed spell t (first_places ws))) (erase-all-elsewhere ts (passed_by ws) l.0 l.1)

  length-elsewhere : (ts : Forest) (ws : List Walk) (us : Forest) → ElsewhereAll spell ts ws us → length_f us ≡ length_f ts
  length-elsewhere ts ws us l = sym (length-erase us) ∙ ap length_f (erase-all-elsewhere ts ws us l) ∙ length-erase ts

  -- pairs stay in order
  in-pair-elsewhere : (t : Tree) (ss : List At) (v : Tree) → Elsewhere spell t ss v → T (in_pair (kind t)) → T (in_pair (kind v))
  in-pair-elsewhere (node k f a ts) ss v (inl l) i = same v (is_paren (kind v)) refl l.2 (l.3 ∙ ap (λ (b : Bool). passed b (node k f a (erase_all ts)) (erase_all ts)) l.1)
    where
      same : (v : Tree) (b : Bool) → is_paren (kind v) ≡ b → b ≡ false → erase v ≡ node k f a (erase_all ts) → T (in_pair (kind v))
      same (node k' f' a' us) true q n e = absurd (clash (sym n))
      same (node k' f' a' us) false q n e = subst (λ (j : ℕ). T (in_pair j)) (sym (ap kind (ap (λ (b : Bool). passed b (node k' f' a' (erase_all us)) (erase_all us)) (sym q) ∙ e))) i
  in-pair-elsewhere (node k f a ts) ss v (inr l) i = subst (λ (x : Tree). T (in_pair (kind x))) (sym l.2) (go (lacks spell k f a ts ss))
    where
      go : (b : Bool) → T (in_pair (kind (wrap b (node k f a l.0))))
      go true = tt
      go false = i

  one-elsewhere : (ts : Forest) (ws : List Walk) (us : Forest) → ElsewhereAll spell ts ws us → T (one_expression ts) → T (one_inside us)
  one-elsewhere nil ws us l h = absurd h
  one-elsewhere (cons t nil) ws us (inl l) h = subst (λ (x : Forest). T (one_inside x)) (sym l.2) (in-pair-elsewhere t (first_places ws) l.0 l.1 (expr-in-pair (kind t) h))
  one-elsewhere (cons t nil) ws us (inr l) h = absurd l.1
  one-elsewhere (cons t (cons s ts)) ws us l h = absurd h

  pair-elsewhere : (k f a : ℕ) (ts : Forest) (ws : List Walk) (us : Forest) (b : Bool) → ElsewhereAll spell ts ws us → T (not b || (eqb f 0 && eqb a 0 && one_expression ts)) → T (not b || (eqb f 0 && eqb a 0 && one_inside us))
  pair-elsewhere k f a ts ws us false l h = tt
  pair-elsewhere k f a ts ws us true l h = both (eqb f 0 && eqb a 0) (one_inside us) (and_left (eqb f 0 && eqb a 0) (one_expression ts) h) (one-elsewhere ts ws us l (and_right (eqb f 0 && eqb a 0) (one_expression ts) h))

  mutual
    paired-elsewhere : (t : Tree) (ss : List At) (v : Tree) → Elsewhere spell t ss v → T (pairs_ok t) → T (paired v)
    paired-elsewhere (node k f a ts) ss v (inl l) h = l.4
    paired-elsewhere (node k f a ts) ss v (inr l) h =
        let ws = chosen spell k f a ts ss in
        let p = and_left (not (is_paren k) || (eqb f 0 && eqb a 0 && one_expression ts)) (all_pairs_ok ts) h in
        let q = and_right (not (is_paren k) || (eqb f 0 && eqb a 0 && one_expression ts)) (all_pairs_ok ts) h in
        subst (λ (x : Tree). T (paired x)) (sym l.2)
        (pair-wrap (lacks spell k f a ts ss) k f a l.0 (wraps spell k f a ts ss (lacks spell k f a ts ss) refl)
        (both (pair_ok k f a l.0) (all_paired l.0) (pair-elsewhere k f a ts ws l.0 (is_paren k) l.1 p) (all-paired-elsewhere ts ws l.0 l.1 q)))

    all-paired-elsewhere : (ts : Forest) (ws : List Walk) (us : Forest) → ElsewhereAll spell ts ws us → T (all_pairs_ok ts) → T (all_paired us)
    all-paired-elsewhere nil ws us l h = absurd l
    all-paired-elsewhere (cons t ts) ws us (inl l) h =
        subst (λ (x : Forest). T (all_paired x)) (sym l.2)
        (both (paired l.0) (all_paired (fix_all spell ts (passed_by ws))) (paired-elsewhere t (first_places ws) l.0 l.1 (and_left (pairs_ok t) (all_pairs_ok ts) h))
        (all-paired-dressed ts (fix_all spell ts (passed_by ws)) (and_right (pairs_ok t) (all_pairs_ok ts) h) (fix-all-dressed spell ts (passed_by ws))))
    all-paired-elsewhere (cons t ts) ws us (inr l) h =
        subst (λ (x : Forest). T (all_paired x)) (sym l.2)
        (both (paired (fix spell t (first_places ws))) (all_paired l.0) (paired-dressed t (fix spell t (first_places ws)) (and_left (pairs_ok t) (all_pairs_ok ts) h) (fix-dressed spell t (first_places ws)))
        (all-paired-elsewhere ts (passed_by ws) l.0 l.1 (and_right (pairs_ok t) (all_pairs_ok ts) h)))

  -- the children of what stands at a place
  kids-canon : (k f a : ℕ) (us : Forest) (ss : List At) → StandsAt spell (node k f a us) ss → T (canons spell us)
  kids-canon k f a us ss st = canon-kids spell k f a us st.place.place (derived spell k f a us st.place.place st.derived!)

  abbrev NotAll : Forest → Type 0
  NotAll ts = (ws : List Walk) (us : Forest) (o : Word) → ElsewhereAll spell ts ws us → Follows spell o us ws → ⊥

  below : (k f a : ℕ) (ts us : Forest) (ss : List At) (b : Bool) → lacks spell k f a ts ss ≡ b → NotAll ts → ElsewhereAll spell ts (pick b (walks k f (length_f ts) (inside ss)) (stays spell k f a ts ss)) us → length_f us ≡ length_f ts → erase_all us ≡ erase_all ts
      → StandsAt spell (wrap b (node k f a us)) ss → ⊥
  below k f a ts us ss true e no! l n d st = no! (walks k f (length_f ts) (inside ss)) us (spell k a) l (inside-follows spell k f a us (inside ss) (length_f ts) n (inside-stands spell (node k f a us) ss st))
  below k f a ts us ss false e no! l n d st = no! (stays spell k f a ts ss) us (spell k a) l (stays-follows spell k f a ts us ss n (first-erased spell ts us d (kids-canon k f a us ss st)) st)

  mutual
    misfit : (t : Tree) (ss : List At) (v : Tree) → Elsewhere spell t ss v → StandsAt spell v ss → ⊥
    misfit (node k f a ts) ss v (inl l) st = absurd (subst T l.2 (smallest-of spell k f a ts ss v l.0 l.1 st l.3))
    misfit (node k f a ts) ss v (inr l) st =
        below k f a ts l.0 ss (lacks spell k f a ts ss) refl (λ ws us o m h. misfit-all ts ws us o m h) l.1 (length-elsewhere ts (chosen spell k f a ts ss) l.0 l.1) (erase-all-elsewhere ts (chosen spell k f a ts ss) l.0 l.1) (subst (λ (x : Tree). StandsAt spell x ss) l.2 st)

    misfit-all : (ts : Forest) (ws : List Walk) (us : Forest) (o : Word) → ElsewhereAll spell ts ws us → Follows spell o us ws → ⊥
    misfit-all nil ws us o l h = l
    misfit-all (cons t ts) ws us o (inl l) h = misfit t (first_places ws) l.0 l.1 (kid-stands spell o l.0 (fix_all spell ts (passed_by ws)) ws (subst (λ (x : Forest). Follows spell o x ws) l.2 h))
    misfit-all (cons t ts) ws us o (inr l) h = misfit-all ts (passed_by ws) l.0 o l.1 (kids-follow spell o (fix spell t (first_places ws)) l.0 ws (subst (λ (x : Forest). Follows spell o x ws) l.2 h))

  inside-at : (t v : Tree) (k f a : ℕ) (us : Forest) → T (pairs_ok (laid t)) → Elsewhere spell (laid t) (start ∷ []) v → tokens spell (node k f a us) ≡ tokens spell v → T (derives spell (node k f a us) script) → erase (node k f a us) ≡ erase (laid t) → ⊥
  inside-at t v k f a us p l w h e =
      let d = derived spell k f a us script h in
      let r = root spell k f a us d in
      let plain : passed (is_paren k) (node k f a (erase_all us)) (erase_all us) ≡ node k f a (erase_all us) = ap (λ (j : ℕ). passed (is_paren j) (node k f a (erase_all us)) (erase_all us)) r.kind-is in
      let q = paired-elsewhere (laid t) (start ∷ []) v l p in
      let s = root-same k f a us v (λ x. subst (λ (j : ℕ). T (in_pair j)) r.kind-is x) q (erase-elsewhere (laid t) (start ∷ []) v l ∙ sym e ∙ plain) in
      let ps = and_right (pair_ok k f a s.kids) (all_paired s.kids) (subst (λ (x : Tree). T (paired x)) s.is q) in
      let cs = canons-back spell s.kids ps (subst (λ (x : Forest). T (canons spell x)) (sym s.erased) (canons-erase spell us (canon-kids spell k f a us script d))) in
      let same = unique-script spell k f a us s.kids (counted-by spell k f a us script d) (canon-kids spell k f a us script d) cs (sym s.erased) (w ∙ ap (λ (x : Tree). tokens spell x) s.is) in
      misfit (laid t) (start ∷ []) v l (record { place = start; within = here []; derived! = subst (λ (x : Tree). T (derives spell x script)) (ap (λ (x : Forest). node k f a x) same ∙ sym s.is) h; free = tt })

  inside-of : (t v u : Tree) → T (pairs_ok (laid t)) → Elsewhere spell (laid t) (start ∷ []) v → tokens spell u ≡ tokens spell v → T (derives spell u script) → erase u ≡ erase (laid t) → ⊥
  inside-of t v (node k f a us) p l w h e = inside-at t v k f a us p l w h e

  pub none-inside : NoneInside spell
  none-inside t v p l r = inside-of t v r.0 (pairs-laid t p) l r.1 r.2 r.3
