-- Right sides, their own text and their children, one after the other. Assumes nothing.
use mathlib.Core.Path.{◌≡◌, refl, sym, ap, ap₂, ◌∙◌, subst}
use mathlib.Core.Bool.{Bool, true, false, ◌&&◌, ◌||◌, not}
use mathlib.Core.List.{List, [], ◌∷◌}
use Prim.Native.Nat.{ℕ, zero, suc}
use lib.Dec.{T, eqb, leb, eqb→eq}
use lib.ListN.{length}
use Rattle.std.proofs.Common.{Option, None}
use Rattle.def_tree.specs.Base.{pick}
use Rattle.def_tree.specs.Tree.{Tree, Forest, node, nil, cons, kind, length_f, tail_f}
use Rattle.def_file.specs.declared.kind.Kind.TheVariants as Kinds
use Rattle.def_file.specs.Named.{is_kind}
use Rattle.def_file.specs.Kinds.{is_expr}
use Rattle.def_text.specs.Words.{Word}
use Rattle.def_text.specs.Grammar.{Place, Slot, at_slot, Part, word, own, kid, run, commas, more, look, if_has, if_not, one_default, each, each_after, each_between, write_out}
use Rattle.def_text.specs.Derives.{barred, sort_ok, has, fill, token_lists, is_default, defaults, follows, erase, erase_all, is_paren, passed, derives, children}
use Rattle.def_text.specs.Print.{Walk, first_places, passed_by, asked, fix, fix_all}
use Rattle.laws_text.specs.Claims.{pairs_ok, all_pairs_ok}
use Rattle.laws_text.proofs.Basics.{and_left, and_right, both, is_T}
use Rattle.laws_text.proofs.Fit.{yes-then, no-then}
use Rattle.laws_text.proofs.Shape.{fix-dressed, erase-dressed}
use Rattle.laws_text.proofs.Alike.{Before, looked, after_token, first, view_from, plain_head}
use Rattle.laws_text.proofs.Kids.{looks-at, looks_ok, HeadOk}
use Rattle.text_table.specs.Put.{Spot, default_count, parts_ok, spots}

-- ---- how many children

abbrev pub kid_count : List Part → ℕ
kid_count [] = zero
kid_count (word w ∷ ps) = kid_count ps
kid_count (own s ∷ ps) = kid_count ps
kid_count (kid x ∷ ps) = suc (kid_count ps)
kid_count (run x ∷ ps) = suc (kid_count ps)
kid_count (commas x ∷ ps) = suc (kid_count ps)
kid_count (more x ∷ ps) = suc (kid_count ps)
kid_count (look cs ∷ ps) = kid_count ps
kid_count (if_has p ∷ ps) = kid_count ps
kid_count (if_not p ∷ ps) = kid_count ps
kid_count (one_default ∷ ps) = kid_count ps

abbrev pub no_lists : List Part → Bool
no_lists [] = true
no_lists (word w ∷ ps) = no_lists ps
no_lists (own s ∷ ps) = no_lists ps
no_lists (kid x ∷ ps) = no_lists ps
no_lists (run x ∷ ps) = false
no_lists (commas x ∷ ps) = false
no_lists (more x ∷ ps) = false
no_lists (look cs ∷ ps) = no_lists ps
no_lists (if_has p ∷ ps) = no_lists ps
no_lists (if_not p ∷ ps) = no_lists ps
no_lists (one_default ∷ ps) = no_lists ps

each-lists : (x : Slot) (m : ℕ) (ps : List Part) → T (no_lists ps) → T (no_lists (each x m ps))
each-lists x zero ps h = h
each-lists x (suc m) ps h = each-lists x m ps h

after-lists : (x : Slot) (m : ℕ) (ps : List Part) → T (no_lists ps) → T (no_lists (each_after x m ps))
after-lists x zero ps h = h
after-lists x (suc m) ps h = after-lists x m ps h

between-lists : (x : Slot) (m : ℕ) (ps : List Part) → T (no_lists ps) → T (no_lists (each_between x m ps))
between-lists x zero ps h = h
between-lists x (suc m) ps h = after-lists x m ps h

pub out-lists : (m : ℕ) (ps : List Part) → T (no_lists (write_out m ps))
out-lists m [] = tt
out-lists m (word w ∷ ps) = out-lists m ps
out-lists m (own s ∷ ps) = out-lists m ps
out-lists m (kid x ∷ ps) = out-lists m ps
out-lists m (run x ∷ ps) = each-lists x m (write_out m ps) (out-lists m ps)
out-lists m (commas x ∷ ps) = between-lists x m (write_out m ps) (out-lists m ps)
out-lists m (more x ∷ ps) = after-lists x m (write_out m ps) (out-lists m ps)
out-lists m (look cs ∷ ps) = out-lists m ps
out-lists m (if_has p ∷ ps) = out-lists m ps
out-lists m (if_not p ∷ ps) = out-lists m ps
out-lists m (one_default ∷ ps) = out-lists m ps

pub spots-count : (c : Option ℕ) (s : Spot) (bs : List (List Word)) (n : List Word) (ps : List Part) → T (no_lists ps) → length (spots c s bs n ps) ≡ kid_count ps
spots-count c s bs n [] h = refl
spots-count c s bs n (word w ∷ ps) h = spots-count c s [] n ps h
spots-count c s bs n (own o ∷ ps) h = spots-count c s [] n ps h
spots-count c s bs n (kid x ∷ ps) h = ap suc (spots-count None s [] s.next ps h)
spots-count c s bs n (run x ∷ ps) h = absurd h
spots-count c s bs n (commas x ∷ ps) h = absurd h
spots-count c s bs n (more x ∷ ps) h = absurd h
spots-count c s bs n (look cs ∷ ps) h = spots-count c s cs [] ps h
spots-count c s bs n (if_has p ∷ ps) h = spots-count c s bs n ps h
spots-count c s bs n (if_not p ∷ ps) h = spots-count c s bs n ps h
spots-count c s bs n (one_default ∷ ps) h = spots-count c s bs n ps h

pub view-count : (h i : Before) (ps : List Part) (x : Slot) (t : List Part) → view_from h ps ≡ first i x t → kid_count ps ≡ suc (kid_count t)
view-count h i [] x t e = absurd (cc)
view-count h i (word w ∷ ps) x t e = view-count (after_token h) i ps x t e
view-count h i (own o ∷ ps) x t e = view-count (after_token h) i ps x t e
view-count h i (kid y ∷ ps) x t e = let q : ps ≡ t = cc in ap (λ (z : List Part). suc (kid_count z)) q
view-count h i (run y ∷ ps) x t e = absurd (cc)
view-count h i (commas y ∷ ps) x t e = absurd (cc)
view-count h i (more y ∷ ps) x t e = absurd (cc)
view-count h i (look cs ∷ ps) x t e = view-count (looked cs) i ps x t e
view-count h i (if_has p ∷ ps) x t e = view-count h i ps x t e
view-count h i (if_not p ∷ ps) x t e = view-count h i ps x t e
view-count h i (one_default ∷ ps) x t e = view-count h i ps x t e

-- ---- own text and default clauses

pub view-parts : (o : Word) (ts : Forest) (h i : Before) (ps : List Part) (x : Slot) (t : List Part) → T (plain_head ps) → view_from h ps ≡ first i x t → parts_ok o ts ps ≡ parts_ok o (tail_f ts) t
view-parts o ts h i [] x t g e = absurd g
view-parts o ts h i (word w ∷ ps) x t g e = view-parts o ts (after_token h) i ps x t g e
view-parts o ts h i (own s ∷ ps) x t g e = absurd g
view-parts o ts h i (kid y ∷ ps) x t g e = let q : ps ≡ t = cc in ap (parts_ok o (tail_f ts)) q
view-parts o ts h i (run y ∷ ps) x t g e = absurd g
view-parts o ts h i (commas y ∷ ps) x t g e = absurd g
view-parts o ts h i (more y ∷ ps) x t g e = absurd g
view-parts o ts h i (look cs ∷ ps) x t g e = view-parts o ts (looked cs) i ps x t g e
view-parts o ts h i (if_has p ∷ ps) x t g e = absurd g
view-parts o ts h i (if_not p ∷ ps) x t g e = absurd g
view-parts o ts h i (one_default ∷ ps) x t g e = absurd g

pub parts-behind : (o : Word) (ts : Forest) (h i : Before) (ps : List Part) (x : Slot) (t : List Part) → view_from h ps ≡ first i x t → T (parts_ok o ts ps) → T (parts_ok o (tail_f ts) t)
parts-behind o ts h i [] x t e k = absurd (cc)
parts-behind o ts h i (word w ∷ ps) x t e k = parts-behind o ts (after_token h) i ps x t e k
parts-behind o ts h i (own s ∷ ps) x t e k = parts-behind o ts (after_token h) i ps x t e (and_right (sort_ok s o) (parts_ok o ts ps) k)
parts-behind o ts h i (kid y ∷ ps) x t e k = let q : ps ≡ t = cc in subst (λ (z : List Part). T (parts_ok o (tail_f ts) z)) q k
parts-behind o ts h i (run y ∷ ps) x t e k = absurd (cc)
parts-behind o ts h i (commas y ∷ ps) x t e k = absurd (cc)
parts-behind o ts h i (more y ∷ ps) x t e k = absurd (cc)
parts-behind o ts h i (look cs ∷ ps) x t e k = parts-behind o ts (looked cs) i ps x t e k
parts-behind o ts h i (if_has p ∷ ps) x t e k = parts-behind o ts h i ps x t e k
parts-behind o ts h i (if_not p ∷ ps) x t e k = parts-behind o ts h i ps x t e k
parts-behind o ts h i (one_default ∷ ps) x t e k = parts-behind o ts h i ps x t e (and_right (leb (default_count ts) 1) (parts_ok o ts ps) k)

module _ (spell : ℕ → ℕ → Word) where
  -- the default clauses among children, kind 41 passed over, are those among other trees
  abbrev pub Defaults : Forest → Forest → Type 0
  Defaults nil nil = Unit {0}
  Defaults nil (cons u us) = ⊥
  Defaults (cons t ts) nil = ⊥
  Defaults (cons t ts) (cons u us) = (is_default (erase u) ≡ is_default t) × Defaults ts us

  pub defaults-same : (ts us : Forest) → Defaults ts us → defaults (children spell us) ≡ default_count ts
  defaults-same nil nil d = refl
  defaults-same nil (cons u us) d = absurd d
  defaults-same (cons t ts) nil d = absurd d
  defaults-same (cons t ts) (cons u us) d = ap₂ (λ (b : Bool) (n : ℕ). pick b (suc n) n) d.0 (defaults-same ts us d.1)

  -- what is asked before the first child
  pub head-ok : (g : Place) (o : Word) (ps : List Part) (ts us : Forest) → Defaults ts us → T (asked g ps) → T (parts_ok o ts ps) → HeadOk spell g o ps (children spell us)
  head-ok g o [] ts us d a k = tt
  head-ok g o (word w ∷ ps) ts us d a k = head-ok g o ps ts us d a k
  head-ok g o (own s ∷ ps) ts us d a k = (and_left (sort_ok s o) (parts_ok o ts ps) k, head-ok g o ps ts us d a (and_right (sort_ok s o) (parts_ok o ts ps) k))
  head-ok g o (kid x ∷ ps) ts us d a k = tt
  head-ok g o (run x ∷ ps) ts us d a k = tt
  head-ok g o (commas x ∷ ps) ts us d a k = tt
  head-ok g o (more x ∷ ps) ts us d a k = tt
  head-ok g o (look cs ∷ ps) ts us d a k = head-ok g o ps ts us d a k
  head-ok g o (if_has p ∷ ps) ts us d a k = (and_left (has p g) (asked g ps) a, head-ok g o ps ts us d (and_right (has p g) (asked g ps) a) k)
  head-ok g o (if_not p ∷ ps) ts us d a k = (and_left (not (has p g)) (asked g ps) a, head-ok g o ps ts us d (and_right (not (has p g)) (asked g ps) a) k)
  head-ok g o (one_default ∷ ps) ts us d a k =
      (subst (λ (n : ℕ). T (leb n 1)) (sym (defaults-same ts us d)) (and_left (leb (default_count ts) 1) (parts_ok o ts ps) k), head-ok g o ps ts us d a (and_right (leb (default_count ts) 1) (parts_ok o ts ps) k))

  yes-both : (b x : Bool) → T b → T x → T (elim b [ true ↦ x | false ↦ false ])
  yes-both true x h k = k
  yes-both false x h k = h

  no-both : (b x : Bool) → T (not b) → T x → T (elim b [ true ↦ false | false ↦ x ])
  no-both true x h k = h
  no-both false x h k = k

  suc-zero : {A : Type 0} (n : ℕ) → suc n ≡ zero → A
  suc-zero n e = absurd (cc)

  pub follows-nil : (g : Place) (o : Word) (ps : List Part) → T (asked g ps) → T (parts_ok o nil ps) → T (looks_ok ps) → kid_count ps ≡ zero → T (follows g o ps [])
  follows-nil g o [] a k l e = tt
  follows-nil g o (word w ∷ ps) a k l e = follows-nil g o ps a k l e
  follows-nil g o (own s ∷ ps) a k l e = yes-both (sort_ok s o) (follows g o ps []) (and_left (sort_ok s o) (parts_ok o nil ps) k) (follows-nil g o ps a (and_right (sort_ok s o) (parts_ok o nil ps) k) l e)
  follows-nil g o (kid x ∷ ps) a k l e = suc-zero (kid_count ps) e
  follows-nil g o (run x ∷ ps) a k l e = suc-zero (kid_count ps) e
  follows-nil g o (commas x ∷ ps) a k l e = suc-zero (kid_count ps) e
  follows-nil g o (more x ∷ ps) a k l e = suc-zero (kid_count ps) e
  follows-nil g o (look cs ∷ ps) a k l e = look-none cs ps (and_left (looks-at cs ps) (looks_ok ps) l) e
    where
      look-none : (cs : List (List Word)) (ps : List Part) → T (looks-at cs ps) → kid_count ps ≡ zero → T (follows g o (look cs ∷ ps) [])
      look-none cs [] l e = absurd l
      look-none cs (word w ∷ ps) l e = absurd l
      look-none cs (own s ∷ ps) l e = absurd l
      look-none cs (kid x ∷ ps) l e = suc-zero (kid_count ps) e
      look-none cs (run x ∷ ps) l e = absurd l
      look-none cs (commas x ∷ ps) l e = absurd l
      look-none cs (more x ∷ ps) l e = absurd l
      look-none cs (look ds ∷ ps) l e = absurd l
      look-none cs (if_has p ∷ ps) l e = absurd l
      look-none cs (if_not p ∷ ps) l e = absurd l
      look-none cs (one_default ∷ ps) l e = absurd l
  follows-nil g o (if_has p ∷ ps) a k l e = yes-both (has p g) (follows g o ps []) (and_left (has p g) (asked g ps) a) (follows-nil g o ps (and_right (has p g) (asked g ps) a) k l e)
  follows-nil g o (if_not p ∷ ps) a k l e = no-both (has p g) (follows g o ps []) (and_left (not (has p g)) (asked g ps) a) (follows-nil g o ps (and_right (not (has p g)) (asked g ps) a) k l e)
  follows-nil g o (one_default ∷ ps) a k l e = follows-nil g o ps a k l e

  -- from a right side that is followed
  pub follows-parts : (g : Place) (o : Word) (ps : List Part) (ts us : Forest) → Defaults ts us → T (follows g o ps (children spell us)) → T (parts_ok o ts ps) × (kid_count ps ≡ length_f us)
  follows-parts g o [] ts nil d f = (tt, refl)
  follows-parts g o [] ts (cons u us) d f = absurd f
  follows-parts g o (word w ∷ ps) ts us d f = follows-parts g o ps ts us d f
  follows-parts g o (own s ∷ ps) ts us d f =
      let y = yes-then (sort_ok s o) (follows g o ps (children spell us)) f in
      let r = follows-parts g o ps ts us d y.1 in
      (both (sort_ok s o) (parts_ok o ts ps) y.0 r.0, r.1)
  follows-parts g o (kid x ∷ ps) ts nil d f = absurd f
  follows-parts g o (kid x ∷ ps) nil (cons u us) d f = absurd d
  follows-parts g o (kid x ∷ ps) (cons t ts) (cons u us) d f =
      let y = yes-then (derives spell u (at_slot g x)) (follows g o ps (children spell us)) f in
      let r = follows-parts g o ps ts us d.1 y.1 in
      (r.0, ap suc r.1)
  follows-parts g o (run x ∷ ps) ts us d f = absurd f
  follows-parts g o (commas x ∷ ps) ts us d f = absurd f
  follows-parts g o (more x ∷ ps) ts us d f = absurd f
  follows-parts g o (look cs ∷ ps) ts us d f = follows-parts g o ps ts us d (no-then (barred cs (fill o ps (token_lists (children spell us)))) (follows g o ps (children spell us)) f).1
  follows-parts g o (if_has p ∷ ps) ts us d f = follows-parts g o ps ts us d (yes-then (has p g) (follows g o ps (children spell us)) f).1
  follows-parts g o (if_not p ∷ ps) ts us d f = follows-parts g o ps ts us d (no-then (has p g) (follows g o ps (children spell us)) f).1
  follows-parts g o (one_default ∷ ps) ts us d f =
      let y = yes-then (leb (defaults (children spell us)) 1) (follows g o ps (children spell us)) f in
      let r = follows-parts g o ps ts us d y.1 in
      (both (leb (default_count ts) 1) (parts_ok o ts ps) (subst (λ (n : ℕ). T (leb n 1)) (defaults-same ts us d) y.0) r.0, r.1)

-- ---- kind 41 is no default clause, nor is what it stands round

no-case : (k : ℕ) (b : Bool) → T (is_expr k) → (is_kind Kinds.SwitchCase k && b) ≡ false
no-case k b h = go (is_kind Kinds.SwitchCase k) refl
  where
    go : (c : Bool) → is_kind Kinds.SwitchCase k ≡ c → (c && b) ≡ false
    go true e = absurd (subst (λ (j : ℕ). T (is_expr j)) (eqb→eq k 19 (is_T _ e)) h)
    go false e = refl

paren-case : (k : ℕ) (b : Bool) → is_paren k ≡ true → (is_kind Kinds.SwitchCase k && b) ≡ false
paren-case k b e = ap (λ (j : ℕ). is_kind Kinds.SwitchCase j && b) (eqb→eq k 41 (is_T _ e))

pub default-erased : (t : Tree) → T (pairs_ok t) → (is_default (erase t) ≡ is_default t) × (T (is_expr (kind t)) → is_default (erase t) ≡ false)
default-erased (node k f a nil) h = by (is_paren k) refl h
  where
    by : (b : Bool) → is_paren k ≡ b → T ((not b || (eqb f 0 && eqb a 0 && false)) && true) → (is_default (passed b (node k f a nil) nil) ≡ is_default (node k f a nil)) × (T (is_expr k) → is_default (passed b (node k f a nil) nil) ≡ false)
    by true e h = absurd (and_right (eqb f 0 && eqb a 0) false (and_left (eqb f 0 && eqb a 0 && false) true h))
    by false e h = (refl, λ x. no-case k (eqb f 0) x)
default-erased (node k f a (cons t nil)) h = by (is_paren k) refl h (λ q. default-erased t q)
  where
    by : (b : Bool) → is_paren k ≡ b → T ((not b || (eqb f 0 && eqb a 0 && is_expr (kind t))) && (pairs_ok t && true)) → (T (pairs_ok t) → (is_default (erase t) ≡ is_default t) × (T (is_expr (kind t)) → is_default (erase t) ≡ false))
        → (is_default (passed b (node k f a (cons (erase t) nil)) (cons (erase t) nil)) ≡ is_default (node k f a (cons t nil))) × (T (is_expr k) → is_default (passed b (node k f a (cons (erase t) nil)) (cons (erase t) nil)) ≡ false)
    by true e h i =
        let x = and_right (eqb f 0 && eqb a 0) (is_expr (kind t)) (and_left (eqb f 0 && eqb a 0 && is_expr (kind t)) (pairs_ok t && true) h) in
        let r = (i (and_left (pairs_ok t) true (and_right (eqb f 0 && eqb a 0 && is_expr (kind t)) (pairs_ok t && true) h))).1 x in
        (r ∙ sym (paren-case k (eqb f 0) e), λ y. r)
    by false e h i = (refl, λ x. no-case k (eqb f 0) x)
default-erased (node k f a (cons t (cons u us))) h = by (is_paren k) refl h
  where
    by : (b : Bool) → is_paren k ≡ b → T ((not b || (eqb f 0 && eqb a 0 && false)) && (pairs_ok t && (pairs_ok u && all_pairs_ok us)))
        → (is_default (passed b (node k f a (cons (erase t) (cons (erase u) (erase_all us)))) (cons (erase t) (cons (erase u) (erase_all us)))) ≡ is_default (node k f a (cons t (cons u us))))
        × (T (is_expr k) → is_default (passed b (node k f a (cons (erase t) (cons (erase u) (erase_all us)))) (cons (erase t) (cons (erase u) (erase_all us)))) ≡ false)
    by true e h = absurd (and_right (eqb f 0 && eqb a 0) false (and_left (eqb f 0 && eqb a 0 && false) (pairs_ok t && (pairs_ok u && all_pairs_ok us)) h))
    by false e h = (refl, λ x. no-case k (eqb f 0) x)

module _ (spell : ℕ → ℕ → Word) where
  pub defaults-fixed : (ts : Forest) (ws : List Walk) → T (all_pairs_ok ts) → Defaults spell ts (fix_all spell ts ws)
  defaults-fixed nil ws h = tt
  defaults-fixed (cons t ts) ws h = (
    ap is_default (erase-dressed t (fix spell t (first_places ws)) (fix-dressed spell t (first_places ws))) ∙ (default-erased t (and_left (pairs_ok t) (all_pairs_ok ts) h)).0,
    defaults-fixed ts (passed_by ws) (and_right (pairs_ok t) (all_pairs_ok ts) h),
  )
