-- A tree and the same with pairs added: what `fix` makes of it, and that with one of the added pairs left out. Assumes nothing.
use mathlib.Core.Path.{◌≡◌, refl, sym, ap, ap₂, ◌∙◌, subst}
use mathlib.Core.Bool.{Bool, true, false, ◌&&◌, ◌||◌, not}
use mathlib.Core.List.{List, [], ◌∷◌}
use Prim.Native.Nat.{ℕ, ◌+◌, ◌%◌}
use lib.Dec.{T, eqb, eqb→eq}
use Rattle.std.proofs.Common.{inl, inr}
use Rattle.def_tree.specs.Base.{pick}
use Rattle.def_tree.specs.Tree.{Tree, Forest, node, nil, cons, kind, form, num, kids, length_f}
use Rattle.def_file.specs.declared.kind.Kind.TheVariants as Kinds
use Rattle.def_file.specs.Named.{is_kind}
use Rattle.def_file.specs.Kinds.{is_expr}
use Rattle.def_text.specs.Words.{Word}
use Rattle.def_text.specs.Table.{rules}
use Rattle.def_text.specs.Derives.{right_of, swapped, headed, arranged, laid, laid_all, erase, erase_all, passed, is_paren}
use Rattle.def_text.specs.Print.{At, start, Walk, first_places, passed_by, in_pair, wrap, none, stays, lacks, chosen, fix, fix_all, printed}
use Rattle.laws_text.specs.Claims.{paired, all_paired, one_expression, pairs_ok, all_pairs_ok, Less, LessAll, Sound}
use Rattle.laws_text.proofs.Basics.{and_left, and_right, both, is_T}
use Rattle.laws_text.proofs.Canon.{one_inside, pair_ok, node_ok, canon, canons}
use Rattle.laws_text.proofs.Unique.{length-erase}

-- v is t with pairs round some of the nodes that a pair may stand round
abbrev mutual
  pub Dressed : Tree → Tree → Type 0
  Dressed (node k f a ts) v = (b : Bool) × (us : Forest) × (v ≡ wrap b (node k f a us)) × (T b → T (in_pair k)) × DressedAll ts us

  pub DressedAll : Forest → Forest → Type 0
  DressedAll nil us = us ≡ nil
  DressedAll (cons t ts) us = (u : Tree) × (vs : Forest) × (us ≡ cons u vs) × Dressed t u × DressedAll ts vs

module _ (spell : ℕ → ℕ → Word) where
  pub wraps : (k f a : ℕ) (ts : Forest) (ss : List At) (b : Bool) → lacks spell k f a ts ss ≡ b → T b → T (in_pair k)
  wraps k f a ts ss true e t = and_left (in_pair k) (none (stays spell k f a ts ss)) (is_T _ e)
  wraps k f a ts ss false e t = absurd t

  mutual
    pub fix-dressed : (t : Tree) (ss : List At) → Dressed t (fix spell t ss)
    fix-dressed (node k f a ts) ss = (lacks spell k f a ts ss, fix_all spell ts (chosen spell k f a ts ss), refl, wraps k f a ts ss (lacks spell k f a ts ss) refl, fix-all-dressed ts (chosen spell k f a ts ss))

    pub fix-all-dressed : (ts : Forest) (ws : List Walk) → DressedAll ts (fix_all spell ts ws)
    fix-all-dressed nil ws = refl
    fix-all-dressed (cons t ts) ws = (fix spell t (first_places ws), fix_all spell ts (passed_by ws), refl, fix-dressed t (first_places ws), fix-all-dressed ts (passed_by ws))

  mutual
    pub less-dressed : (t : Tree) (ss : List At) (v : Tree) → Less spell t ss v → Dressed t v
    less-dressed (node k f a ts) ss v (inl l) = (false, fix_all spell ts (chosen spell k f a ts ss), l.1, (λ h. absurd h), fix-all-dressed ts (chosen spell k f a ts ss))
    less-dressed (node k f a ts) ss v (inr l) = (lacks spell k f a ts ss, l.0, l.2, wraps k f a ts ss (lacks spell k f a ts ss) refl, less-all-dressed ts (chosen spell k f a ts ss) l.0 l.1)

    pub less-all-dressed : (ts : Forest) (ws : List Walk) (us : Forest) → LessAll spell ts ws us → DressedAll ts us
    less-all-dressed nil ws us l = absurd l
    less-all-dressed (cons t ts) ws us (inl l) = (l.0, fix_all spell ts (passed_by ws), l.2, less-dressed t (first_places ws) l.0 l.1, fix-all-dressed ts (passed_by ws))
    less-all-dressed (cons t ts) ws us (inr l) = (fix spell t (first_places ws), l.0, l.2, fix-dressed t (first_places ws), less-all-dressed ts (passed_by ws) l.0 l.1)

-- ---- kind 41 passed over, nothing is changed

pub erase-wrap : (b : Bool) (t : Tree) → erase (wrap b t) ≡ erase t
erase-wrap true t = refl
erase-wrap false t = refl

mutual
  pub erase-dressed : (t v : Tree) → Dressed t v → erase v ≡ erase t
  erase-dressed (node k f a ts) v d = ap erase d.2 ∙ erase-wrap d.0 (node k f a d.1) ∙ ap (λ us. passed (is_paren k) (node k f a us) us) (erase-all-dressed ts d.1 d.4)

  pub erase-all-dressed : (ts us : Forest) → DressedAll ts us → erase_all us ≡ erase_all ts
  erase-all-dressed nil us d = ap erase_all d
  erase-all-dressed (cons t ts) us d = ap erase_all d.2 ∙ ap₂ {C = Forest} (λ x xs. cons x xs) (erase-dressed t d.0 d.3) (erase-all-dressed ts d.1 d.4)

pub sound : (spell : ℕ → ℕ → Word) → Sound spell
sound spell t h = (printed spell t, refl, h, erase-dressed (laid t) (printed spell t) (fix-dressed spell (laid t) (start ∷ [])))

-- ---- pairs stay in order

pub expr-in-pair : (k : ℕ) → T (is_expr k) → T (in_pair k)
expr-in-pair k h = go (is_kind Kinds.BindingIdent k) h
  where
    go : (b : Bool) → T (is_expr k) → T (b || is_expr k)
    go true h = tt
    go false h = h

dressed-kind : (t v : Tree) → T (in_pair (kind t)) → Dressed t v → T (in_pair (kind v))
dressed-kind (node k f a ts) v i d = subst (λ (x : Tree). T (in_pair (kind x))) (sym d.2) (go d.0)
  where
    go : (b : Bool) → T (in_pair (kind (wrap b (node k f a d.1))))
    go true = tt
    go false = i

pub pair-wrap : (b : Bool) (k f a : ℕ) (us : Forest) → (T b → T (in_pair k)) → T (paired (node k f a us)) → T (paired (wrap b (node k f a us)))
pair-wrap true k f a us h p = both (in_pair k) (paired (node k f a us) && true) (h tt) (both (paired (node k f a us)) true p tt)
pair-wrap false k f a us h p = p

one-dressed : (ts us : Forest) → T (one_expression ts) → DressedAll ts us → T (one_inside us)
one-dressed nil us h d = absurd h
one-dressed (cons t nil) us h d = subst (λ (x : Forest). T (one_inside x)) (sym (d.2 ∙ ap (λ (x : Forest). cons d.0 x) d.4)) (dressed-kind t d.0 (expr-in-pair (kind t) h) d.3)
one-dressed (cons t (cons s ts)) us h d = absurd h

pair-dressed : (k f a : ℕ) (ts us : Forest) (b : Bool) → T (not b || (eqb f 0 && eqb a 0 && one_expression ts)) → DressedAll ts us → T (not b || (eqb f 0 && eqb a 0 && one_inside us))
pair-dressed k f a ts us false h d = tt
pair-dressed k f a ts us true h d = both (eqb f 0 && eqb a 0) (one_inside us) (and_left (eqb f 0 && eqb a 0) (one_expression ts) h) (one-dressed ts us (and_right (eqb f 0 && eqb a 0) (one_expression ts) h) d)

mutual
  pub paired-dressed : (t v : Tree) → T (pairs_ok t) → Dressed t v → T (paired v)
  paired-dressed (node k f a ts) v h d =
      subst (λ (x : Tree). T (paired x)) (sym d.2)
      (pair-wrap d.0 k f a d.1 d.3
      (both (pair_ok k f a d.1) (all_paired d.1)
      (pair-dressed k f a ts d.1 (is_paren k) (and_left (not (is_paren k) || (eqb f 0 && eqb a 0 && one_expression ts)) (all_pairs_ok ts) h) d.4)
      (all-paired-dressed ts d.1 (and_right (not (is_paren k) || (eqb f 0 && eqb a 0 && one_expression ts)) (all_pairs_ok ts) h) d.4)))

  pub all-paired-dressed : (ts us : Forest) → T (all_pairs_ok ts) → DressedAll ts us → T (all_paired us)
  all-paired-dressed nil us h d = subst (λ (x : Forest). T (all_paired x)) (sym d) tt
  all-paired-dressed (cons t ts) us h d =
      subst (λ (x : Forest). T (all_paired x)) (sym d.2)
      (both (paired d.0) (all_paired d.1) (paired-dressed t d.0 (and_left (pairs_ok t) (all_pairs_ok ts) h) d.3) (all-paired-dressed ts d.1 (and_right (pairs_ok t) (all_pairs_ok ts) h) d.4))

-- ---- canonical, with and without pairs

pair-node : (spell : ℕ → ℕ → Word) (o : Word) → T (node_ok o 41 0 1)
unfolding right_of rules
pair-node spell o = tt

module _ (spell : ℕ → ℕ → Word) where
  erase-node : (k f a : ℕ) (ts : Forest) (b : Bool) → is_paren k ≡ b → T (canon spell (node k f a ts)) → T (canons spell (erase_all ts)) → T (canon spell (passed b (node k f a (erase_all ts)) (erase_all ts)))
  erase-node k f a ts false e c h =
      let n = and_left (node_ok (spell k a) k f (length_f ts)) (pair_ok k f a ts) (and_left (node_ok (spell k a) k f (length_f ts) && pair_ok k f a ts) (canons spell ts) c) in
      both (node_ok (spell k a) k f (length_f (erase_all ts)) && pair_ok k f a (erase_all ts)) (canons spell (erase_all ts))
      (both (node_ok (spell k a) k f (length_f (erase_all ts))) (pair_ok k f a (erase_all ts)) (subst (λ (m : ℕ). T (node_ok (spell k a) k f m)) (sym (length-erase ts)) n) (rw (e, pair_ok) tt)) h
  erase-node k f a nil true e c h = absurd (subst (λ (b : Bool). T (not b || (eqb f 0 && eqb a 0 && false)) → ⊥) (sym e) (λ x. and_right (eqb f 0 && eqb a 0) false x) (and_right (node_ok (spell k a) k f 0) (pair_ok k f a nil) (and_left (node_ok (spell k a) k f 0 && pair_ok k f a nil) true c)))
  erase-node k f a (cons t nil) true e c h = and_left (canon spell (erase t)) true h
  erase-node k f a (cons t (cons u ts)) true e c h =
      let n = length_f (cons t (cons u ts)) in
      absurd (subst (λ (b : Bool). T (not b || (eqb f 0 && eqb a 0 && false)) → ⊥) (sym e) (λ x. and_right (eqb f 0 && eqb a 0) false x) (and_right (node_ok (spell k a) k f n) (pair_ok k f a (cons t (cons u ts))) (and_left (node_ok (spell k a) k f n && pair_ok k f a (cons t (cons u ts))) (canons spell (cons t (cons u ts))) c)))

  mutual
    pub canon-erase : (u : Tree) → T (canon spell u) → T (canon spell (erase u))
    canon-erase (node k f a ts) c = erase-node k f a ts (is_paren k) refl c (canons-erase ts (and_right (node_ok (spell k a) k f (length_f ts) && pair_ok k f a ts) (canons spell ts) c))

    pub canons-erase : (us : Forest) → T (canons spell us) → T (canons spell (erase_all us))
    canons-erase nil c = tt
    canons-erase (cons u us) c = both (canon spell (erase u)) (canons spell (erase_all us)) (canon-erase u (and_left (canon spell u) (canons spell us) c)) (canons-erase us (and_right (canon spell u) (canons spell us) c))

  pair-canon : (k f a : ℕ) (t : Tree) → T (is_paren k) → T (not (is_paren k) || (eqb f 0 && eqb a 0 && one_inside (cons t nil))) → T (node_ok (spell k a) k f 1)
  pair-canon k f a t p h =
      let g = go (is_paren k) p h in
      let e = eqb→eq f 0 (and_left (eqb f 0) (eqb a 0) (and_left (eqb f 0 && eqb a 0) (in_pair (kind t)) g)) in
      subst (λ (j : ℕ). T (node_ok (spell k a) j f 1)) (sym (eqb→eq k 41 p)) (subst (λ (i : ℕ). T (node_ok (spell k a) 41 i 1)) (sym e) (pair-node spell (spell k a)))
    where
      go : (b : Bool) → T b → T (not b || (eqb f 0 && eqb a 0 && one_inside (cons t nil))) → T (eqb f 0 && eqb a 0 && one_inside (cons t nil))
      go true p h = h
      go false p h = absurd p

  back-node : (k f a : ℕ) (ts : Forest) (b : Bool) → is_paren k ≡ b → T (pair_ok k f a ts) → T (canon spell (passed b (node k f a (erase_all ts)) (erase_all ts))) → (T (canons spell (erase_all ts)) → T (canons spell ts)) → T (canon spell (node k f a ts))
  back-node k f a ts false e p c h =
      let us = erase_all ts in
      let n = and_left (node_ok (spell k a) k f (length_f us)) (pair_ok k f a us) (and_left (node_ok (spell k a) k f (length_f us) && pair_ok k f a us) (canons spell us) c) in
      both (node_ok (spell k a) k f (length_f ts) && pair_ok k f a ts) (canons spell ts)
      (both (node_ok (spell k a) k f (length_f ts)) (pair_ok k f a ts) (subst (λ (m : ℕ). T (node_ok (spell k a) k f m)) (length-erase ts) n) p) (h (and_right (node_ok (spell k a) k f (length_f us) && pair_ok k f a us) (canons spell us) c))
  back-node k f a nil true e p c h = absurd (subst (λ (b : Bool). T (not b || (eqb f 0 && eqb a 0 && false)) → ⊥) (sym e) (λ x. and_right (eqb f 0 && eqb a 0) false x) p)
  back-node k f a (cons t nil) true e p c h =
      both (node_ok (spell k a) k f 1 && pair_ok k f a (cons t nil)) (canons spell (cons t nil)) (both (node_ok (spell k a) k f 1) (pair_ok k f a (cons t nil)) (pair-canon k f a t (is_T (is_paren k) e) p) p) (h (both (canon spell (erase t)) true c tt))
  back-node k f a (cons t (cons u ts)) true e p c h = absurd (subst (λ (b : Bool). T (not b || (eqb f 0 && eqb a 0 && false)) → ⊥) (sym e) (λ x. and_right (eqb f 0 && eqb a 0) false x) p)

  mutual
    pub canon-back : (v : Tree) → T (paired v) → T (canon spell (erase v)) → T (canon spell v)
    canon-back (node k f a ts) p c = back-node k f a ts (is_paren k) refl (and_left (pair_ok k f a ts) (all_paired ts) p) c (λ h. canons-back ts (and_right (pair_ok k f a ts) (all_paired ts) p) h)

    pub canons-back : (vs : Forest) → T (all_paired vs) → T (canons spell (erase_all vs)) → T (canons spell vs)
    canons-back nil p c = tt
    canons-back (cons v vs) p c = both (canon spell v) (canons spell vs) (canon-back v (and_left (paired v) (all_paired vs) p) (and_left (canon spell (erase v)) (canons spell (erase_all vs)) c)) (canons-back vs (and_right (paired v) (all_paired vs) p) (and_right (canon spell (erase v)) (canons spell (erase_all vs)) c))

-- ---- the order of the text

laid-kind : (t : Tree) → kind (laid t) ≡ kind t
laid-kind (node k f a ts) = refl

headed-ok : (d : ℕ) (ts : Forest) → T (all_pairs_ok ts) → T (all_pairs_ok (headed d ts))
headed-ok d nil h = tt
headed-ok d (cons (node k f a us) ts) h = go (is_kind Kinds.VarDecl k) refl
  where
    first : T (pairs_ok (node k f a us))
    first = and_left (pairs_ok (node k f a us)) (all_pairs_ok ts) h

    -- a declaration is no pair
    other : k ≡ 5 → T (pairs_ok (node k (f + d) a us))
    other e = subst (λ (j : ℕ). T (pairs_ok (node j f a us)) → T (pairs_ok (node j (f + d) a us))) (sym e) (λ x. x) first

    go : (b : Bool) → is_kind Kinds.VarDecl k ≡ b → T (pairs_ok (node k (pick b (f + d) f) a us) && all_pairs_ok ts)
    go true e = both (pairs_ok (node k (f + d) a us)) (all_pairs_ok ts) (other (eqb→eq k 5 (is_T _ e))) (and_right (pairs_ok (node k f a us)) (all_pairs_ok ts) h)
    go false e = h

swapped-ok : (ts : Forest) → T (all_pairs_ok ts) → T (all_pairs_ok (swapped ts))
swapped-ok nil h = tt
swapped-ok (cons t nil) h = h
swapped-ok (cons t (cons u ts)) h =
    let r = and_right (pairs_ok t) (pairs_ok u && all_pairs_ok ts) h in
    both (pairs_ok u) (pairs_ok t && all_pairs_ok ts) (and_left (pairs_ok u) (all_pairs_ok ts) r) (both (pairs_ok t) (all_pairs_ok ts) (and_left (pairs_ok t) (pairs_ok u && all_pairs_ok ts) h) (and_right (pairs_ok u) (all_pairs_ok ts) r))

arranged-ok : (k f : ℕ) (ts : Forest) → T (all_pairs_ok ts) → T (all_pairs_ok (arranged k f ts))
arranged-ok k f ts h = go (is_kind Kinds.DoWhile k) (is_kind Kinds.For k && eqb (f % 2) 1) (is_kind Kinds.ForIn k || is_kind Kinds.ForOf k)
  where
    go : (a b c : Bool) → T (all_pairs_ok (pick a (swapped ts) (pick b (headed 3 ts) (pick c (headed 6 ts) ts))))
    go true b c = swapped-ok ts h
    go false true c = headed-ok 3 ts h
    go false false true = headed-ok 6 ts h
    go false false false = h

-- a pair's child stays where it is
pair-laid : (k f a : ℕ) (ts us : Forest) (b : Bool) → is_paren k ≡ b → (T (one_expression ts) → T (one_expression us)) → T (not b || (eqb f 0 && eqb a 0 && one_expression ts)) → T (not b || (eqb f 0 && eqb a 0 && one_expression (arranged k f us)))
pair-laid k f a ts us false e g h = tt
pair-laid k f a ts us true e g h =
    subst (λ (j : ℕ). T (eqb f 0 && eqb a 0 && one_expression (arranged j f us))) (sym (eqb→eq k 41 (is_T _ e)))
    (both (eqb f 0 && eqb a 0) (one_expression us) (and_left (eqb f 0 && eqb a 0) (one_expression ts) h) (g (and_right (eqb f 0 && eqb a 0) (one_expression ts) h)))

one-laid : (ts : Forest) → T (one_expression ts) → T (one_expression (laid_all ts))
one-laid nil h = absurd h
one-laid (cons t nil) h = subst (λ (j : ℕ). T (is_expr j)) (sym (laid-kind t)) h
one-laid (cons t (cons u ts)) h = absurd h

mutual
  pub pairs-laid : (t : Tree) → T (pairs_ok t) → T (pairs_ok (laid t))
  pairs-laid (node k f a ts) h =
      both (not (is_paren k) || (eqb f 0 && eqb a 0 && one_expression (arranged k f (laid_all ts)))) (all_pairs_ok (arranged k f (laid_all ts)))
      (pair-laid k f a ts (laid_all ts) (is_paren k) refl (one-laid ts) (and_left (not (is_paren k) || (eqb f 0 && eqb a 0 && one_expression ts)) (all_pairs_ok ts) h))
      (arranged-ok k f (laid_all ts) (all-pairs-laid ts (and_right (not (is_paren k) || (eqb f 0 && eqb a 0 && one_expression ts)) (all_pairs_ok ts) h)))

  pub all-pairs-laid : (ts : Forest) → T (all_pairs_ok ts) → T (all_pairs_ok (laid_all ts))
  all-pairs-laid nil h = tt
  all-pairs-laid (cons t ts) h = both (pairs_ok (laid t)) (all_pairs_ok (laid_all ts)) (pairs-laid t (and_left (pairs_ok t) (all_pairs_ok ts) h)) (all-pairs-laid ts (and_right (pairs_ok t) (all_pairs_ok ts) h))

-- a pair's child is of a kind that a pair stands round, kind 41 passed over
no-paired : (k f a : ℕ) (b : Bool) → is_paren k ≡ b → T b → T (not (is_paren k) || (eqb f 0 && eqb a 0 && false)) → ⊥
no-paired k f a true e t h = and_right (eqb f 0 && eqb a 0) false (subst (λ (b : Bool). T (not b || (eqb f 0 && eqb a 0 && false))) e h)
no-paired k f a false e t h = t

inner-paired : (k f a : ℕ) (v : Tree) (b : Bool) → is_paren k ≡ b → T (not b || (eqb f 0 && eqb a 0 && one_inside (cons v nil))) → T (in_pair k) → (T (in_pair (kind v)) → T (in_pair (kind (erase v)))) → T (in_pair (kind (passed b (node k f a (cons (erase v) nil)) (cons (erase v) nil))))
inner-paired k f a v true e p i h = h (and_right (eqb f 0 && eqb a 0) (in_pair (kind v)) p)
inner-paired k f a v false e p i h = i

kind-passed : (k f a : ℕ) (ts us : Forest) (b : Bool) → is_paren k ≡ b → (T (is_paren k) → ⊥) → T (in_pair k) → T (in_pair (kind (passed b (node k f a us) us)))
kind-passed k f a ts us true e n i = absurd (n (is_T _ e))
kind-passed k f a ts us false e n i = i

pub in-paired : (v : Tree) → T (paired v) → T (in_pair (kind v)) → T (in_pair (kind (erase v)))
in-paired (node k f a nil) p i = kind-passed k f a nil nil (is_paren k) refl (λ t. no-paired k f a (is_paren k) refl t (and_left (pair_ok k f a nil) true p)) i
in-paired (node k f a (cons v nil)) p i = inner-paired k f a v (is_paren k) refl (and_left (pair_ok k f a (cons v nil)) (paired v && true) p) i (λ j. in-paired v (and_left (paired v) true (and_right (pair_ok k f a (cons v nil)) (paired v && true) p)) j)
in-paired (node k f a (cons v (cons u vs))) p i =
    kind-passed k f a (cons v (cons u vs)) (erase_all (cons v (cons u vs))) (is_paren k) refl (λ t. no-paired k f a (is_paren k) refl t (and_left (pair_ok k f a (cons v (cons u vs))) (all_paired (cons v (cons u vs))) p)) i

-- a tree that is a script but for kind 41 is one
pub record Same (k f a : ℕ) (us : Forest) (v : Tree) : Type 0 where
  pub kids : Forest
  pub is : v ≡ node k f a kids
  pub erased : erase_all kids ≡ erase_all us

root-node : (k f a : ℕ) (us : Forest) (k' f' a' : ℕ) (vs : Forest) (b : Bool) → is_paren k' ≡ b → (T (in_pair k) → ⊥) → T (pair_ok k' f' a' vs) → T (all_paired vs) → passed b (node k' f' a' (erase_all vs)) (erase_all vs) ≡ node k f a (erase_all us) → Same k f a us (node k' f' a' vs)
root-node k f a us k' f' a' vs false q n p all e =
    record { kids = vs; is = ap (λ (i : ℕ). node i f' a' vs) (ap kind e) ∙ ap (λ (i : ℕ). node k i a' vs) (ap form e) ∙ ap (λ (i : ℕ). node k f i vs) (ap num e); erased = ap kids e }
root-node k f a us k' f' a' nil true q n p all e = absurd (no-paired k' f' a' (is_paren k') refl (is_T _ q) p)
root-node k f a us k' f' a' (cons v nil) true q n p all e =
    let i = subst (λ (b : Bool). T (not b || (eqb f' 0 && eqb a' 0 && one_inside (cons v nil)))) q p in
    absurd (n (subst (λ (x : Tree). T (in_pair (kind x))) e (in-paired v (and_left (paired v) true all) (and_right (eqb f' 0 && eqb a' 0) (in_pair (kind v)) i))))
root-node k f a us k' f' a' (cons v (cons w vs)) true q n p all e = absurd (no-paired k' f' a' (is_paren k') refl (is_T _ q) p)

pub root-same : (k f a : ℕ) (us : Forest) (v : Tree) → (T (in_pair k) → ⊥) → T (paired v) → erase v ≡ node k f a (erase_all us) → Same k f a us v
root-same k f a us (node k' f' a' vs) n p e = root-node k f a us k' f' a' vs (is_paren k') refl n (and_left (pair_ok k' f' a' vs) (all_paired vs) p) (and_right (pair_ok k' f' a' vs) (all_paired vs) p) e
