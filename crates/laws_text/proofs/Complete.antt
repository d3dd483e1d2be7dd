-- Where any text reads as a tree, the printed one does. Assumes nothing.
use mathlib.Core.Path.{◌≡◌, refl, sym, ap, ap₂, ◌∙◌, subst}
use mathlib.Core.Bool.{Bool, true, false, ◌&&◌, ◌||◌, not}
use mathlib.Core.List.{List, [], ◌∷◌, ◌++◌}
use Prim.Native.Nat.{ℕ, zero, suc, ◌-◌}
use lib.Dec.{T, eqb, leb, eqb→eq}
use Rattle.std.proofs.Common.{◌⊎◌, inl, inr}
use Rattle.std.specs.Prelude.{codes}
use Rattle.def_tree.specs.Base.{pick}
use Rattle.def_tree.specs.Tree.{Tree, Forest, node, nil, cons, kind, form, num, kids, length_f}
use Rattle.def_file.specs.Kinds.{is_expr}
use Rattle.def_file.specs.Script.{same_text}
use Rattle.def_text.specs.Words.{Word}
use Rattle.def_text.specs.Grammar.{Symbol, Expression, AssignmentTarget, MemberExpression, PrimaryExpression, Mode, plus, minus, same, In, Return, Else, Place, Slot, at_slot, by_mode, Part, word, own, kid, run, commas, more, look, if_has, if_not, one_default, Rule, singles, is_for, right_for, write_out, each, each_after, each_between}
use Rattle.def_text.specs.Table.{code, reaches, rules}
use Rattle.def_text.specs.Derives.{fill, right_of, begins, barred, sort_ok, has, token_lists, defaults, follows, number_ok, children, laid, passed, erase, erase_all, is_paren, script, tokens, tokens_all, derives}
use Rattle.def_text.specs.Print.{At, start, bars_for, Walk, child_at, first_places, passed_by, asked, walks, opening_of, in_pair, pair, wrap, none, inside, opening, opening_first, unbarred, stays, lacks, fix, fix_all, printed}
use Rattle.laws_text.specs.Claims.{one_expression, pairs_ok, all_pairs_ok, Refused}
use Rattle.laws_text.proofs.Basics.{and_left, and_right, both, is_true, is_T, T-not, Within, here, there, every-at, some-found, passing-in, passing-out}
use Rattle.laws_text.proofs.Rows.{for-kind, for-form, fill-of, open-same}
use Rattle.laws_text.proofs.Fit.{slots, slots-out, yes-then, no-then, Derived, derived, derives-by, no_script, pair-row-of}
use Rattle.laws_text.proofs.Least.{StandsAt, asked-follows, walk-in, first-in, length-dressed}
use Rattle.laws_text.proofs.Unique.{length-erase}
use Rattle.laws_text.proofs.Shape.{fix-dressed, fix-all-dressed, pairs-laid}
use Rattle.laws_text.proofs.Alike.{is_e, family, flexible, same_bool, in_family, same_mode, Before, nothing, token, looked, after_token, plain_head, first, view_from, code-eq, or-either}
use Rattle.laws_text.proofs.Kids.{first-out, Params, has-params, params-sym, params-trans, follows-params, build, behind-from, place_by, child-view, bar_ok, short, closed_slot, within-none}
use Rattle.laws_text.proofs.Feeds.{Like, Foreign, Good, Ends, Completes, CompletesAll, Feeds, fed, Done, Leads, kids-stand, slots-view, only-one, plain-heads, long, e-family, e-flexible, flex-family, family-in, zero-suc, suc-inj}
use Rattle.laws_text.proofs.Facts.{e-steps, left-one, member-primary, no_guards, in_guards, begins_ok, begins-out, row-ok, pair_slot, pairs-row, PairRule, pair-primary, pair-target, target-only, PairView, pair-seen, expression-member, target-self}
use Rattle.laws_text.proofs.Free.{parts-free, parts-alone}
use Rattle.laws_text.proofs.Site.{looks-out, walk-out, Site, site-ws, tail-of, unasked}

-- ---- families

bool-same : (b c : Bool) → T (same_bool b c) → b ≡ c
bool-same true true h = refl
bool-same true false h = absurd h
bool-same false true h = absurd h
bool-same false false h = refl

pub steps-eq : (y : Symbol) (r : Rule) → Within r rules → T (reaches y r.left) → is_e y ≡ is_e r.left
steps-eq y r v h = bool-same (is_e y) (is_e r.left) (e-steps y r v h)

pub in-fam : (y : Symbol) (r : Rule) → Within r rules → T (reaches y r.left) → T (in_family y r)
in-fam y r v h = go (is_e y) refl
  where
    go : (b : Bool) → is_e y ≡ b → T (elim b [ true ↦ is_e r.left | false ↦ reaches y r.left ])
    go true e = is_T (is_e r.left) (sym (steps-eq y r v h) ∙ e)
    go false e = h

e-from : (y : Symbol) → family y ≡ 0 → T (is_e y)
e-from y e = go (is_e y) refl
  where
    go : (b : Bool) → is_e y ≡ b → T b
    go true q = tt
    go false q = absurd (zero-suc (code y) (sym e ∙ ap (λ (b : Bool). elim b as (λ z. ℕ) [ true ↦ 0 | false ↦ suc (code y) ]) q))

plain-family : (y : Symbol) → is_e y ≡ false → family y ≡ suc (code y)
plain-family y q = ap (λ (b : Bool). elim b as (λ z. ℕ) [ true ↦ 0 | false ↦ suc (code y) ]) q

-- the left sides of two rows for one node, of alike families
fam-left : (k f n : ℕ) (c s : Symbol) (r₀ r : Rule) → Within r₀ rules → Within r rules → T (is_for k f n r₀) → T (is_for k f n r) → family c ≡ family s → T (in_family c r₀) → T (reaches s r.left) → family r₀.left ≡ family r.left
fam-left k f n c s r₀ r v u h i e a b = go (is_e s) refl
  where
    g : T (in_family s r₀)
    g = family-in c s e r₀ a

    go : (b : Bool) → is_e s ≡ b → family r₀.left ≡ family r.left
    go true q =
        let x = subst (λ (z : Bool). T (elim z [ true ↦ is_e r₀.left | false ↦ reaches s r₀.left ])) q g in
        e-family r₀.left x ∙ sym (e-family r.left (is_T (is_e r.left) (sym (steps-eq s r u b) ∙ q)))
    go false q =
        let x = subst (λ (z : Bool). T (elim z [ true ↦ is_e r₀.left | false ↦ reaches s r₀.left ])) q g in
        ap family (code-eq r₀.left r.left (left-one s r₀ r v u q x b (for-kind k f n r₀ h ∙ sym (for-kind k f n r i)) (for-form k f n r₀ h ∙ sym (for-form k f n r i))))

like-refl : (g : Place) → Like g g
like-refl g = record { families = refl; returns = refl; rest = inr (record { ins = refl; returns = refl; elses = refl }) }

-- a place of expressions or targets makes its rows so
pub flex-left : (c : Symbol) (r : Rule) → T (flexible c) → T (in_family c r) → T (flexible r.left)
flex-left c r h a = go (is_e c) refl
  where
    target : suc (code c) ≡ 19 → reaches c r.left ≡ reaches AssignmentTarget r.left
    target e = ap (λ (y : Symbol). reaches y r.left) (code-eq c AssignmentTarget (suc-inj (code c) 18 e))

    nineteen : (n : ℕ) → T (eqb (suc n) 0 || eqb (suc n) 19) → suc n ≡ 19
    nineteen n h = or-either (eqb (suc n) 0) (eqb (suc n) 19) h (λ t. absurd (zero-suc n (sym (eqb→eq (suc n) 0 t)))) (λ t. eqb→eq (suc n) 19 t)

    go : (b : Bool) → is_e c ≡ b → T (flexible r.left)
    go true q = e-flexible r.left (subst (λ (z : Bool). T (elim z [ true ↦ is_e r.left | false ↦ reaches c r.left ])) q a)
    go false q =
        let x = subst (λ (z : Bool). T (elim z [ true ↦ is_e r.left | false ↦ reaches c r.left ])) q a in
        let e = nineteen (code c) (subst (λ (n : ℕ). T (eqb n 0 || eqb n 19)) (plain-family c q) h) in
        subst (λ (y : Symbol). T (flexible y)) (sym (code-eq r.left AssignmentTarget (target-only r.left (subst T (target e) x)))) tt

-- ---- a derivation under its pairs

module _ (spell : ℕ → ℕ → Word) where
  feeds-of : (g : Place) (o : Word) (ps : List Part) (us : Forest) → T (follows g o ps (children spell us)) → Feeds spell g o ps us
  feeds-of g o [] nil h = tt
  feeds-of g o [] (cons u us) h = h
  feeds-of g o (word w ∷ ps) us h = feeds-of g o ps us h
  feeds-of g o (own s ∷ ps) us h = let y = yes-then (sort_ok s o) (follows g o ps (children spell us)) h in (y.0, feeds-of g o ps us y.1)
  feeds-of g o (kid x ∷ ps) nil h = h
  feeds-of g o (kid x ∷ ps) (cons u us) h = let y = yes-then (derives spell u (at_slot g x)) (follows g o ps (children spell us)) h in ((at_slot g x, y.0, like-refl (at_slot g x)), feeds-of g o ps us y.1)
  feeds-of g o (run x ∷ ps) us h = h
  feeds-of g o (commas x ∷ ps) us h = h
  feeds-of g o (more x ∷ ps) us h = h
  feeds-of g o (look bs ∷ ps) us h = feeds-of g o ps us (no-then (barred bs (fill o ps (token_lists (children spell us)))) (follows g o ps (children spell us)) h).1
  feeds-of g o (if_has q ∷ ps) us h = feeds-of g o ps us (yes-then (has q g) (follows g o ps (children spell us)) h).1
  feeds-of g o (if_not q ∷ ps) us h = feeds-of g o ps us (no-then (has q g) (follows g o ps (children spell us)) h).1
  feeds-of g o (one_default ∷ ps) us h = let y = yes-then (leb (defaults (children spell us)) 1) (follows g o ps (children spell us)) h in (y.0, feeds-of g o ps us y.1)

  -- the node under the pairs, derived by a row that may be where the whole is
  pub record Stripped (k f a : ℕ) (es : Forest) (c : Place) : Type 0 where
    pub kids : Forest
    pub erased : erase_all kids ≡ es
    pub place : Place
    pub derived! : Derived spell k f a kids place
    pub family! : T (in_family c.symbol derived!.rule)
    pub returns : c.has_return ≡ place.has_return
    pub rest : (place ≡ c) ⊎ T (flexible derived!.rule.left)

  strip-node : (k f a : ℕ) (us : Forest) (k' f' a' : ℕ) (es : Forest) (c : Place) → T (derives spell (node k f a us) c) → node k f a (erase_all us) ≡ node k' f' a' es → Stripped k' f' a' es c
  strip-node k f a us k' f' a' es c h e =
      let q = ap (λ (i : ℕ). node i f a us) (ap kind e) ∙ ap (λ (i : ℕ). node k' i a us) (ap form e) ∙ ap (λ (i : ℕ). node k' f' i us) (ap num e) in
      let d = derived spell k' f' a' us c (subst (λ (x : Tree). T (derives spell x c)) q h) in
      record { kids = us; erased = ap kids e; place = c; derived! = d; family! = in-fam c.symbol d.rule d.inside d.reached; returns = refl; rest = inl refl }

  -- inside a pair
  pub record Inner (c : Place) (u : Tree) : Type 0 where
    pub place : Place
    pub derived! : T (derives spell u place)
    pub returns : c.has_return ≡ place.has_return
    pub families : (r : Rule) → Within r rules → T (in_family place.symbol r) → T (in_family c.symbol r) × T (flexible r.left)

  mode-same : (m : Mode) (b : Bool) → T (same_mode m same) → by_mode m b ≡ b
  mode-same plus b h = absurd h
  mode-same minus b h = absurd h
  mode-same same b h = refl

  inner-families : (c p : Symbol) (y : Symbol) (x : Slot) → T ((is_e y && eqb (code x.symbol) (code Expression)) || (eqb (code y) (code AssignmentTarget) && eqb (code x.symbol) (code AssignmentTarget))) → (r : Rule) → Within r rules → y ≡ r.left → T (reaches c y) → family p ≡ family x.symbol
      → (s : Rule) → Within s rules → T (in_family p s) → T (in_family c s) × T (flexible s.left)
  inner-families c p y x h r v e i q s u a =
      or-either (is_e y && eqb (code x.symbol) (code Expression)) (eqb (code y) (code AssignmentTarget) && eqb (code x.symbol) (code AssignmentTarget)) h
      (λ t. let ee = steps-eq c r v (subst (λ (z : Symbol). T (reaches c z)) e i) in
      let ce = is_T (is_e c) (ee ∙ is_true (is_e r.left) (subst (λ (z : Symbol). T (is_e z)) e (and_left (is_e y) (eqb (code x.symbol) (code Expression)) t))) in
      let x-is = code-eq x.symbol Expression (eqb→eq (code x.symbol) (code Expression) (and_right (is_e y) (eqb (code x.symbol) (code Expression)) t)) in
      let fam = q ∙ ap family x-is ∙ sym (e-family c ce) in
      let g = family-in p c fam s a in
      (g, flex-left c s (e-flexible c ce) g))
      (λ t. let y-is = code-eq y AssignmentTarget (eqb→eq (code y) (code AssignmentTarget) (and_left (eqb (code y) (code AssignmentTarget)) (eqb (code x.symbol) (code AssignmentTarget)) t)) in
      let x-is = code-eq x.symbol AssignmentTarget (eqb→eq (code x.symbol) (code AssignmentTarget) (and_right (eqb (code y) (code AssignmentTarget)) (eqb (code x.symbol) (code AssignmentTarget)) t)) in
      let g = family-in p AssignmentTarget (q ∙ ap family x-is) s a in
      let s-is = code-eq s.left AssignmentTarget (target-only s.left g) in
      (in-fam c s u (subst (λ (z : Symbol). T (reaches c z)) (y-is ∙ sym s-is) i), subst (λ (z : Symbol). T (flexible z)) (sym s-is) tt))

  inner-of : (k f a : ℕ) (u : Tree) (c : Place) → T (is_paren k) → T (derives spell (node k f a (cons u nil)) c) → Inner c u
  inner-of k f a u c p h =
      let d = derived spell k f a (cons u nil) c h in
      let r = d.rule in
      let rk = subst (λ (j : ℕ). T (is_paren j)) (sym (for-kind k f 1 r d.is-for)) p in
      let t = pairs-row r d.inside rk in
      let l = (eqb (code r.left) (code PrimaryExpression) || eqb (code r.left) (code AssignmentTarget)) in
      let t1 = and_left (l && slots (pair_slot r.left) r.right && no_guards r.right && eqb r.form 0 && eqb (singles r.right) 1) _ t in
      let t2 = and_left (l && slots (pair_slot r.left) r.right && no_guards r.right && eqb r.form 0) _ t1 in
      let t3 = and_left (l && slots (pair_slot r.left) r.right && no_guards r.right) _ t2 in
      let t4 = and_left (l && slots (pair_slot r.left) r.right) _ t3 in
      let sl = slots-out (pair_slot r.left) (1 - singles r.right) r.right (and_right l (slots (pair_slot r.left) r.right) t4) in
      let F = fed spell c (spell k a) nothing (right_for 1 r) u nil (feeds-of c (spell k a) (right_for 1 r) (cons u nil) d.followed) in
      let x = F.slot in
      let ps = slots-view (pair_slot r.left) nothing F.before (right_for 1 r) x F.tail F.viewed sl in
      let m = and_left (same_mode x.in_mode plus && same_mode x.return_mode same && same_mode x.else_mode minus) _ ps in
      let m2 = and_left (same_mode x.in_mode plus && same_mode x.return_mode same) (same_mode x.else_mode minus) m in
      let fam = and_right (same_mode x.in_mode plus && same_mode x.return_mode same && same_mode x.else_mode minus) _ ps in
      record {
        place = F.place;
        derived! = F.derived!;
        returns = sym (F.alike.returns ∙ mode-same x.return_mode c.has_return (and_right (same_mode x.in_mode plus) (same_mode x.return_mode same) m2));
        families = λ s u a. inner-families c.symbol F.place.symbol r.left x fam r d.inside refl d.reached F.alike.families s u a;
      }

  strip-inner : (k f a : ℕ) (es : Forest) (c : Place) (u : Tree) → Inner c u → ((p : Place) → T (derives spell u p) → Stripped k f a es p) → Stripped k f a es c
  strip-inner k f a es c u i h =
      let s = h i.place i.derived! in
      let g = i.families s.derived!.rule s.derived!.inside s.family! in
      record { kids = s.kids; erased = s.erased; place = s.place; derived! = s.derived!; family! = g.0; returns = i.returns ∙ s.returns; rest = inr g.1 }

  strip-by : (k' f' a' : ℕ) (us : Forest) (b : Bool) → is_paren k' ≡ b → (k f a : ℕ) (es : Forest) (c : Place) → T (derives spell (node k' f' a' us) c) → passed b (node k' f' a' (erase_all us)) (erase_all us) ≡ node k f a es
      → ((u : Tree) → us ≡ cons u nil → (p : Place) → T (derives spell u p) → erase u ≡ node k f a es → Stripped k f a es p) → Stripped k f a es c
  strip-by k' f' a' us false q k f a es c h e g = strip-node k' f' a' us k f a es c h e
  strip-by k' f' a' nil true q k f a es c h e g =
      let d = derived spell k' f' a' nil c h in
      absurd (zero-suc 0 ((pair-row-of spell k' f' nil d.rule (is_T _ q) d.inside d.is-for).one))
  strip-by k' f' a' (cons u nil) true q k f a es c h e g = strip-inner k f a es c u (inner-of k' f' a' u c (is_T _ q) h) (λ p d. g u refl p d e)
  strip-by k' f' a' (cons u (cons v us)) true q k f a es c h e g =
      let d = derived spell k' f' a' (cons u (cons v us)) c h in
      absurd (zero-suc (length_f us) (sym (suc-inj (suc (length_f us)) 0 ((pair-row-of spell k' f' (cons u (cons v us)) d.rule (is_T _ q) d.inside d.is-for).one))))

  strip-kid : (us : Forest) (k f a : ℕ) (es : Forest) → Type 0
  strip-kid us k f a es = (u : Tree) → us ≡ cons u nil → (p : Place) → T (derives spell u p) → erase u ≡ node k f a es → Stripped k f a es p

  pub strip : (u : Tree) (k f a : ℕ) (es : Forest) (c : Place) → T (derives spell u c) → erase u ≡ node k f a es → Stripped k f a es c
  strip (node k' f' a' nil) k f a es c h e = strip-by k' f' a' nil (is_paren k') refl k f a es c h e (λ u q p d r. absurd (cc))
  strip (node k' f' a' (cons u nil)) k f a es c h e = strip-by k' f' a' (cons u nil) (is_paren k') refl k f a es c h e (λ v q p d r. strip-same u v k f a es p (cc) d r (λ p d r. strip u k f a es p d r))
    where
      strip-same : (u v : Tree) (k f a : ℕ) (es : Forest) (p : Place) → u ≡ v → T (derives spell v p) → erase v ≡ node k f a es → ((p : Place) → T (derives spell u p) → erase u ≡ node k f a es → Stripped k f a es p) → Stripped k f a es p
      strip-same u v k f a es p q d r g = g p (subst (λ (x : Tree). T (derives spell x p)) (sym q) d) (ap erase q ∙ r)
  strip (node k' f' a' (cons u (cons v us))) k f a es c h e = strip-by k' f' a' (cons u (cons v us)) (is_paren k') refl k f a es c h e (λ w q p d r. absurd (cc))

-- ---- a node that stays as it is, or stands in a pair

module _ (spell : ℕ → ℕ → Word) where
  -- children that a right side for a node is fed with
  pub record Seeded (k f a : ℕ) (ts : Forest) (c : Place) : Type 0 where
    pub kids : Forest
    pub erased : erase_all kids ≡ erase_all ts
    pub row : Rule
    pub inside : Within row rules
    pub is-for : T (is_for k f (length_f ts) row)
    pub family! : T (in_family c.symbol row)
    pub place : Place
    pub fed! : Feeds spell place (spell k a) (right_for (length_f ts) row) kids
    pub numbered : T (number_ok k a)
    pub returns : c.has_return ≡ place.has_return
    pub rest : (place ≡ c) ⊎ T (flexible row.left)

  module _ (k f a : ℕ) (ts : Forest) (c : Place) (S : List At) (G : Good c S) (Z : Seeded k f a ts c) where
    -- a place with a row for the node is like c
    pub record Known (s : At) : Type 0 where
      pub alike : Like c s.place
      pub params : Params s.place G.params
      pub bars-is : s.bars ≡ G.bars
      pub next-is : s.next ≡ G.next

    known : (s : At) → Within s S → (r : Rule) → Within r rules → r.kind ≡ k → T (in_family s.place.symbol r) → Known s
    known s u r v e h = go (G.each s u)
      where
        go : (Like c s.place × Params s.place G.params × (s.bars ≡ G.bars) × (s.next ≡ G.next)) ⊎ Foreign c.symbol s.place.symbol → Known s
        go (inl x) = record { alike = x.0; params = x.1; bars-is = x.2; next-is = x.3 }
        go (inr x) = absurd (x.apart Z.row r Z.inside v Z.family! h (for-kind k f (length_f ts) Z.row Z.is-for ∙ sym e))

    main-known : Known G.main
    main-known = known G.main G.main-in Z.row Z.inside (for-kind k f (length_f ts) Z.row Z.is-for) (family-in c.symbol G.main.place.symbol G.main-like.families Z.row Z.family!)

    known-for : (s : At) → Within s S → (r : Rule) → Within r rules → T (is_for k f (length_f ts) r) → T (reaches s.place.symbol r.left) → Known s
    known-for s u r v i h = known s u r v (for-kind k f (length_f ts) r i) (in-fam s.place.symbol r v h)

    stiff-left : flexible Z.row.left ≡ false → G.bars ≡ []
    stiff-left e = go (flexible c.symbol) refl
      where
        go : (b : Bool) → flexible c.symbol ≡ b → G.bars ≡ []
        go true q = absurd (subst T e (flex-left c.symbol Z.row (is_T _ q) Z.family!))
        go false q = G.stiff q

    site-of : (S' : List At) → ((s : At) → Within s S' → Within s S) → Within G.main S' → (w : Walk) → Within w (walks k f (length_f ts) S') → Site k f (length_f ts) Z.row G.params G.bars G.next S'
    site-of S' sub m w u =
        let o = walk-out k f (length_f ts) S' w u in
        record {
          inside = Z.inside;
          is-for = Z.is-for;
          each = λ s v r x i h. let q = known-for s (sub s v) r x i h in (q.params, q.bars-is, q.next-is, fam-left k f (length_f ts) c.symbol s.place.symbol Z.row r Z.inside x Z.is-for i q.alike.families Z.family! h);
          seed = o.at;
          seed-in = o.at-in;
          row = o.rule;
          row-in = o.inside;
          row-for = o.is-for;
          reached = o.reached;
          asks = o.asks;
          member = λ e. (G.main, m, G.main-open (e-from G.main.place.symbol (sym G.main-like.families ∙ (known-for o.at (sub o.at o.at-in) o.rule o.inside o.is-for o.reached).alike.families ∙ e-family o.at.place.symbol (is_T _ (steps-eq o.at.place.symbol o.rule o.inside o.reached ∙ is_true (is_e o.rule.left) e)))));
          shorts = G.shorts;
          stiffs = stiff-left;
        }

    rel : T (slots closed_slot (right_for (length_f ts) Z.row)) ⊎ Params Z.place G.params
    rel = go Z.rest G.main-like.rest
      where
        closed : T (flexible Z.row.left) → T (slots closed_slot (right_for (length_f ts) Z.row))
        closed h = slots-out closed_slot (length_f ts - singles Z.row.right) Z.row.right ((row-ok Z.row Z.inside).flex h).closed

        go : (Z.place ≡ c) ⊎ T (flexible Z.row.left) → T (flexible c.symbol) ⊎ Params c G.main.place → T (slots closed_slot (right_for (length_f ts) Z.row)) ⊎ Params Z.place G.params
        go (inr h) x = inl (closed h)
        go (inl e) (inl h) = inl (closed (flex-left c.symbol Z.row h Z.family!))
        go (inl e) (inr q) = inr (subst (λ (p : Place). Params p G.params) (sym e) (params-trans c G.main.place G.params q main-known.params))

    done : (S' : List At) → Site k f (length_f ts) Z.row G.params G.bars G.next S' → T (all_pairs_ok ts) → CompletesAll spell ts → Done spell Z.place (spell k a) ts (walks k f (length_f ts) S')
    done S' x p h =
        kids-stand spell Z.place (spell k a) ts Z.kids (right_for (length_f ts) Z.row) G.params G.bars G.next (walks k f (length_f ts) S') (site-ws k f (length_f ts) Z.row G.params G.bars G.next S' x)
        (sym Z.returns ∙ G.main-like.returns ∙ main-known.params.returns) rel (tail-of (length_f ts) Z.row Z.inside) Z.fed! Z.erased p h

    -- the node, with its children as `fix` makes them, at the place of a walk
    pub record Stood (S' : List At) : Type 0 where
      pub place : At
      pub within : Within place S'
      pub rule : Rule
      pub inside : Within rule rules
      pub reached : T (reaches place.place.symbol rule.left)
      pub is-for : T (is_for k f (length_f ts) rule)
      pub derived! : T (derives spell (node k f a (fix_all spell ts (walks k f (length_f ts) S'))) place.place)
      pub follows! : T (follows place.place (spell k a) (right_for (length_f ts) rule) (children spell (fix_all spell ts (walks k f (length_f ts) S'))))
      pub leads : Leads spell Z.place (spell k a) ts (walks k f (length_f ts) S') (record { at = place; right = right_for (length_f ts) rule })

    stood : (S' : List At) → Done spell Z.place (spell k a) ts (walks k f (length_f ts) S') → Stood S'
    stood S' d =
        let n = length_f ts in
        let o = walk-out k f n S' d.walk d.within in
        let vs = fix_all spell ts (walks k f n S') in
        let l = length-dressed ts vs (fix-all-dressed spell ts (walks k f n S')) in
        let fl = subst (λ (w : Walk). T (follows w.at.place (spell k a) w.right (children spell vs))) o.is d.follows! in
        record {
          place = o.at;
          within = o.at-in;
          rule = o.rule;
          inside = o.inside;
          reached = o.reached;
          is-for = o.is-for;
          follows! = fl;
          derived! = derives-by spell k f a vs o.at.place (record {
            rule = o.rule;
            inside = o.inside;
            is-for = subst (λ (m : ℕ). T (is_for k f m o.rule)) (sym l) o.is-for;
            reached = o.reached;
            numbered = Z.numbered;
            followed = subst (λ (m : ℕ). T (follows o.at.place (spell k a) (right_for m o.rule) (children spell vs))) (sym l) fl;
          });
          leads = subst (λ (w : Walk). Leads spell Z.place (spell k a) ts (walks k f n S') w) o.is d.leads;
        }

    free-node : (ss : List At) (vs : Forest) (st : At) (r : Rule) → Within r rules → T (is_for k f (length_f ts) r) → T (flexible r.left) → T (short st.bars) → length_f vs ≡ length_f ts → T (follows st.place (spell k a) (right_for (length_f ts) r) (children spell vs))
        → (ws : List Walk) → vs ≡ fix_all spell ts ws → Leads spell Z.place (spell k a) ts ws (record { at = st; right = right_for (length_f ts) r }) → T (not (barred st.bars (opening spell (node k f a ts) st.next))) → T (not (barred st.bars (tokens spell (node k f a vs) ++ st.next)))
    free-node ss vs st r v i fx sh l fo ws e le h =
        let n = length_f ts in
        let b = begins-out (n - singles r.right) r.right ((row-ok r v).flex fx).begins in
        let t = ap (λ (m : ℕ). fill (spell k a) (right_of k f m) (tokens_all spell vs)) l ∙ fill-of k f n r (spell k a) (tokens_all spell vs) v i in
        subst (λ (y : List Word). T (not (barred st.bars (y ++ st.next)))) (sym t)
        (go ts vs e le fo (subst (λ (y : List Word). T (not (barred st.bars y))) (open-same k f n r (spell k a) st.next (opening_first spell ts) v i) h) b)
      where
        go : (ts' us : Forest) → us ≡ fix_all spell ts' ws → Leads spell Z.place (spell k a) ts' ws (record { at = st; right = right_for (length_f ts) r }) → T (follows st.place (spell k a) (right_for (length_f ts) r) (children spell us))
            → T (not (barred st.bars (opening_of (spell k a) st.next (right_for (length_f ts) r) (opening_first spell ts')))) → T (begins_ok (right_for (length_f ts) r)) → T (not (barred st.bars (fill (spell k a) (right_for (length_f ts) r) (tokens_all spell us) ++ st.next)))
        go nil us q le fo h b = subst (λ (x : Forest). T (not (barred st.bars (fill (spell k a) (right_for (length_f ts) r) (tokens_all spell x) ++ st.next)))) (sym q)
            (parts-alone spell st.place (spell k a) st.bars st.next (right_for (length_f ts) r) b sh (subst (λ (x : Forest). T (follows st.place (spell k a) (right_for (length_f ts) r) (children spell x))) q fo) h)
        go (cons t ts') us q le fo h b = subst (λ (x : Forest). T (not (barred st.bars (fill (spell k a) (right_for (length_f ts) r) (tokens_all spell x) ++ st.next)))) (sym q)
            (parts-free spell (spell k a) st.bars st.next st.place (right_for (length_f ts) r) t ts' (fix_all spell ts' (passed_by ws)) (fix spell t (first_places ws)) b sh (fix-dressed spell t (first_places ws)) le.0 le.1 h)

    -- ---- as it stands

    n : ℕ
    n = length_f ts

    no-none : (ws : List Walk) (w : Walk) → Within w ws → none ws ≡ false
    no-none ws w (here xs) = refl
    no-none ws w (there x xs u) = refl

    and-false : (p q : Bool) → q ≡ false → (p && q) ≡ false
    and-false true q e = e
    and-false false q e = refl

    fix-stays : lacks spell k f a ts S ≡ false → fix spell (node k f a ts) S ≡ node k f a (fix_all spell ts (stays spell k f a ts S))
    fix-stays e = ap (λ (b : Bool). wrap b (node k f a (fix_all spell ts (pick b (walks k f (length_f ts) (inside S)) (stays spell k f a ts S))))) e

    main-unbarred : (w : Walk) → Within w (stays spell k f a ts S) → Within G.main (unbarred spell (node k f a ts) S)
    main-unbarred w u =
        let o = walk-out k f (length_f ts) (unbarred spell (node k f a ts) S) w u in
        let p = passing-out (λ s. not (barred s.bars (opening spell (node k f a ts) s.next))) o.at S o.at-in in
        let q = known-for o.at p.0 o.rule o.inside o.is-for o.reached in
        passing-in (λ s. not (barred s.bars (opening spell (node k f a ts) s.next))) G.main S G.main-in
        (subst (λ (m : List Word). T (not (barred G.main.bars (opening spell (node k f a ts) m)))) (q.next-is ∙ sym main-known.next-is)
        (subst (λ (b : List (List Word)). T (not (barred b (opening spell (node k f a ts) o.at.next)))) (q.bars-is ∙ sym main-known.bars-is) p.1))

    pub stay-ends : (w : Walk) → Within w (stays spell k f a ts S) → T (all_pairs_ok ts) → CompletesAll spell ts → Ends spell c (node k f a ts) S
    stay-ends w u p h =
        let S' = unbarred spell (node k f a ts) S in
        let sub : (s : At) → Within s S' → Within s S = λ s v. (passing-out (λ s. not (barred s.bars (opening spell (node k f a ts) s.next))) s S v).0 in
        let x = site-of S' sub (main-unbarred w u) w u in
        let st = stood S' (done S' x p h) in
        let vs = fix_all spell ts (stays spell k f a ts S) in
        let in-S = sub st.place st.within in
        let q = known-for st.place in-S st.rule st.inside st.is-for st.reached in
        let e = fix-stays (and-false (in_pair k) (none (stays spell k f a ts S)) (no-none (stays spell k f a ts S) w u)) in
        let nb = (passing-out (λ s. not (barred s.bars (opening spell (node k f a ts) s.next))) st.place S st.within).1 in
        let l = length-dressed ts vs (fix-all-dressed spell ts (stays spell k f a ts S)) in
        record {
          place = st.place;
          within = in-S;
          alike = q.alike;
          derived! = subst (λ (y : Tree). T (derives spell y st.place.place)) (sym e) st.derived!;
          free = subst (λ (y : Tree). T (not (barred st.place.bars (tokens spell y ++ st.place.next)))) (sym e)
              (free-of st vs q nb l (flexible Z.row.left) refl (fam-left k f (length_f ts) c.symbol st.place.place.symbol Z.row st.rule Z.inside st.inside Z.is-for st.is-for q.alike.families Z.family! st.reached));
        }
      where
        free-of : (st : Stood (unbarred spell (node k f a ts) S)) (vs : Forest) → Known st.place → T (not (barred st.place.bars (opening spell (node k f a ts) st.place.next))) → length_f (fix_all spell ts (stays spell k f a ts S)) ≡ length_f ts → (b : Bool) → flexible Z.row.left ≡ b → family Z.row.left ≡ family st.rule.left
            → T (not (barred st.place.bars (tokens spell (node k f a (fix_all spell ts (stays spell k f a ts S))) ++ st.place.next)))
        free-of st vs q nb l true e fm =
            free-node S (fix_all spell ts (stays spell k f a ts S)) st.place st.rule st.inside st.is-for (flex-family Z.row.left st.rule.left fm (is_T _ e)) (subst (λ (b : List (List Word)). T (short b)) (sym q.bars-is) G.shorts) l st.follows! (stays spell k f a ts S) refl st.leads nb
        free-of st vs q nb l false e fm = subst (λ (b : List (List Word)). T (not (barred b (tokens spell (node k f a (fix_all spell ts (stays spell k f a ts S))) ++ st.place.next)))) (sym (q.bars-is ∙ stiff-left e)) tt

expression-plain : T (no_script Expression)
unfolding rules reaches
expression-plain = tt

target-plain : T (no_script AssignmentTarget)
unfolding rules reaches
target-plain = tt

-- a pair's tokens, and no bar begins with one
pair-tokens : (spell : ℕ → ℕ → Word) (v : Tree) → tokens spell (pair v) ≡ codes "(" ∷ (tokens spell v ++ (codes ")" ∷ []))
unfolding right_of rules
pair-tokens spell v = refl

bar-paren : (b : List Word) (x : List Word) → T (bar_ok b) → T (begins b (codes "(" ∷ x)) → ⊥
bar-paren [] x o h = o
bar-paren (v ∷ []) x o h = T-not (same_text v (codes "(")) o (and_left (same_text v (codes "(")) true h)
bar-paren (v ∷ w ∷ []) x o h = T-not (same_text v (codes "(")) (and_left (not (same_text v (codes "("))) (same_text v (codes "let") || same_text v (codes "async")) o) (and_left (same_text v (codes "(")) (begins (w ∷ []) x) h)
bar-paren (v ∷ w ∷ z ∷ b) x o h = o

paren-free : (B : List (List Word)) (x : List Word) → T (short B) → T (not (barred B (codes "(" ∷ x)))
paren-free B x s = go (barred B (codes "(" ∷ x)) refl
  where
    go : (b : Bool) → barred B (codes "(" ∷ x) ≡ b → T (not b)
    go true e = let f = some-found (λ b. begins b (codes "(" ∷ x)) B (is_T _ e) in bar-paren f.one x (every-at bar_ok f.one B s f.inside) f.passes
    go false e = tt

asked-in : (p : Place) (m : ℕ) (ps : List Part) → p.has_in ≡ true → T (in_guards ps) → T (asked p (write_out m ps))
asked-in p m [] e h = tt
asked-in p m (word w ∷ ps) e h = asked-in p m ps e h
asked-in p m (own s ∷ ps) e h = asked-in p m ps e h
asked-in p m (kid x ∷ ps) e h = asked-in p m ps e h
asked-in p m (run x ∷ ps) e h = ask-run m (asked-in p m ps e h)
  where
    ask-run : (k : ℕ) → T (asked p (write_out m ps)) → T (asked p (each x k (write_out m ps)))
    ask-run zero q = q
    ask-run (suc k) q = ask-run k q
asked-in p m (commas x ∷ ps) e h = ask-list m (asked-in p m ps e h)
  where
    ask-more : (k : ℕ) → T (asked p (write_out m ps)) → T (asked p (each_after x k (write_out m ps)))
    ask-more zero q = q
    ask-more (suc k) q = ask-more k q

    ask-list : (k : ℕ) → T (asked p (write_out m ps)) → T (asked p (each_between x k (write_out m ps)))
    ask-list zero q = q
    ask-list (suc k) q = ask-more k q
asked-in p m (more x ∷ ps) e h = ask-more m (asked-in p m ps e h)
  where
    ask-more : (k : ℕ) → T (asked p (write_out m ps)) → T (asked p (each_after x k (write_out m ps)))
    ask-more zero q = q
    ask-more (suc k) q = ask-more k q
asked-in p m (look bs ∷ ps) e h = asked-in p m ps e h
asked-in p m (if_has In ∷ ps) e h = both p.has_in (asked p (write_out m ps)) (is_T p.has_in e) (asked-in p m ps e h)
asked-in p m (if_has Return ∷ ps) e h = absurd h
asked-in p m (if_has Else ∷ ps) e h = absurd h
asked-in p m (if_not q ∷ ps) e h = absurd h
asked-in p m (one_default ∷ ps) e h = asked-in p m ps e h

-- a slot inside a pair
pub record PairSlot (y : Symbol) (x : Slot) : Type 0 where
  pub ins : x.in_mode ≡ plus
  pub returns : x.return_mode ≡ same
  pub elses : x.else_mode ≡ minus
  pub symbols : (T (is_e y) × (x.symbol ≡ Expression)) ⊎ ((y ≡ AssignmentTarget) × (x.symbol ≡ AssignmentTarget))

mode-plus : (m : Mode) → T (same_mode m plus) → m ≡ plus
mode-plus plus h = refl
mode-plus minus h = absurd h
mode-plus same h = absurd h

mode-minus : (m : Mode) → T (same_mode m minus) → m ≡ minus
mode-minus minus h = refl
mode-minus plus h = absurd h
mode-minus same h = absurd h

mode-is-same : (m : Mode) → T (same_mode m same) → m ≡ same
mode-is-same same h = refl
mode-is-same minus h = absurd h
mode-is-same plus h = absurd h

pair-slot-of : (y : Symbol) (x : Slot) → T (pair_slot y x) → PairSlot y x
pair-slot-of y x h =
    let sy = (is_e y && eqb (code x.symbol) (code Expression)) || (eqb (code y) (code AssignmentTarget) && eqb (code x.symbol) (code AssignmentTarget)) in
    let a = and_left (same_mode x.in_mode plus && same_mode x.return_mode same && same_mode x.else_mode minus) sy h in
    let b = and_left (same_mode x.in_mode plus && same_mode x.return_mode same) (same_mode x.else_mode minus) a in
    record {
      ins = mode-plus x.in_mode (and_left (same_mode x.in_mode plus) (same_mode x.return_mode same) b);
      returns = mode-is-same x.return_mode (and_right (same_mode x.in_mode plus) (same_mode x.return_mode same) b);
      elses = mode-minus x.else_mode (and_right (same_mode x.in_mode plus && same_mode x.return_mode same) (same_mode x.else_mode minus) a);
      symbols = or-either (is_e y && eqb (code x.symbol) (code Expression)) (eqb (code y) (code AssignmentTarget) && eqb (code x.symbol) (code AssignmentTarget)) (and_right (same_mode x.in_mode plus && same_mode x.return_mode same && same_mode x.else_mode minus) sy h)
          (λ t. inl (and_left (is_e y) (eqb (code x.symbol) (code Expression)) t, code-eq x.symbol Expression (eqb→eq (code x.symbol) (code Expression) (and_right (is_e y) (eqb (code x.symbol) (code Expression)) t))))
          (λ t. inr (code-eq y AssignmentTarget (eqb→eq (code y) (code AssignmentTarget) (and_left (eqb (code y) (code AssignmentTarget)) (eqb (code x.symbol) (code AssignmentTarget)) t)), code-eq x.symbol AssignmentTarget (eqb→eq (code x.symbol) (code AssignmentTarget) (and_right (eqb (code y) (code AssignmentTarget)) (eqb (code x.symbol) (code AssignmentTarget)) t))));
    }

pair-place : (g h : Place) (y z : Symbol) (x w : Slot) → PairSlot y x → PairSlot z w → family y ≡ family z → g.has_return ≡ h.has_return → (x.symbol ≡ w.symbol) × Params (at_slot g x) (at_slot h w)
pair-place g h y z x w p q e r = (
  go p.symbols q.symbols,
  record {
    ins = ap (λ (m : Mode). by_mode m g.has_in) p.ins ∙ sym (ap (λ (m : Mode). by_mode m h.has_in) q.ins);
    returns = ap (λ (m : Mode). by_mode m g.has_return) p.returns ∙ r ∙ sym (ap (λ (m : Mode). by_mode m h.has_return) q.returns);
    elses = ap (λ (m : Mode). by_mode m g.has_else) p.elses ∙ sym (ap (λ (m : Mode). by_mode m h.has_else) q.elses);
  },
)
  where
    go : (T (is_e y) × (x.symbol ≡ Expression)) ⊎ ((y ≡ AssignmentTarget) × (x.symbol ≡ AssignmentTarget)) → (T (is_e z) × (w.symbol ≡ Expression)) ⊎ ((z ≡ AssignmentTarget) × (w.symbol ≡ AssignmentTarget)) → x.symbol ≡ w.symbol
    go (inl a) (inl b) = a.1 ∙ sym b.1
    go (inr a) (inr b) = a.1 ∙ sym b.1
    go (inl a) (inr b) = absurd (zero-suc 18 (sym (e-family y a.0) ∙ e ∙ ap family b.0))
    go (inr a) (inl b) = absurd (zero-suc 18 (sym (e-family z b.0) ∙ sym e ∙ ap family a.0))

-- where a first child that stands behind a token stands
pair-child : (p : Place) (B : List (List Word)) (N : List Word) (m : ℕ) (r : Rule) (v : PairView m r) → child_at p B N (right_for m r) ≡ record { place = at_slot p v.slot; bars = bars_for v.slot.symbol []; next = codes ")" ∷ [] } ∷ []
pair-child p B N m r v = child-view p B N (right_for m r) ∙ ap (λ z. place_by p B N z) v.viewed

no-bars : (x : Symbol) → bars_for x [] ≡ []
no-bars x = go (eqb (code x) 19)
  where
    go : (b : Bool) → (elim b as (λ y. List (List Word)) [ true ↦ [] | false ↦ [] ]) ≡ []
    go true = refl
    go false = refl

module _ (spell : ℕ → ℕ → Word) (k f a : ℕ) (ts : Forest) (c : Place) (S : List At) (G : Good c S) (Z : Seeded spell k f a ts c) (flex : T (flexible Z.row.left)) where
  -- a row of kind 41 for the place
  pub record MainPair : Type 0 where
    pub rule : Rule
    pub inside : Within rule rules
    pub is-for : T (is_for 41 0 1 rule)
    pub reached : T (reaches G.main.place.symbol rule.left)
    pub family! : T (in_family c.symbol rule)
    pub asks : T (no_guards rule.right)
    pub same-family : family Z.row.left ≡ family rule.left

  from-rule : (y : Symbol) → PairRule y → T (reaches G.main.place.symbol y) → T (in_family c.symbol Z.row) → family Z.row.left ≡ family y → ((r : Rule) → Within r rules → T (reaches G.main.place.symbol r.left) → T (in_family c.symbol r)) → MainPair
  from-rule y p h i e g =
      let q = subst (λ (z : Symbol). T (reaches G.main.place.symbol z)) (sym p.left-is) h in
      record { rule = p.rule; inside = p.inside; is-for = p.is-for; reached = q; family! = g p.rule p.inside q; asks = p.asks; same-family = e ∙ ap family (sym p.left-is) }

  main-pair : MainPair
  main-pair = go (is_e c.symbol) refl
    where
      back : (r : Rule) → Within r rules → T (reaches G.main.place.symbol r.left) → T (in_family c.symbol r)
      back r v h = family-in G.main.place.symbol c.symbol (sym G.main-like.families) r (in-fam G.main.place.symbol r v h)

      go : (b : Bool) → is_e c.symbol ≡ b → MainPair
      go true q =
          let e = subst (λ (z : Bool). T (elim z [ true ↦ is_e Z.row.left | false ↦ reaches c.symbol Z.row.left ])) q Z.family! in
          let m = e-from G.main.place.symbol (sym G.main-like.families ∙ e-family c.symbol (is_T _ q)) in
          from-rule PrimaryExpression pair-primary (member-primary G.main.place.symbol (G.main-open m)) Z.family! (e-family Z.row.left e) back
      go false q =
          let r = subst (λ (z : Bool). T (elim z [ true ↦ is_e Z.row.left | false ↦ reaches c.symbol Z.row.left ])) q Z.family! in
          let ne = sym (steps-eq c.symbol Z.row Z.inside r) ∙ q in
          let left = target-of Z.row.left flex ne in
          let same! = code-eq c.symbol G.main.place.symbol (main-code q) in
          from-rule AssignmentTarget pair-target (subst (λ (z : Symbol). T (reaches z AssignmentTarget)) same! (subst (λ (z : Symbol). T (reaches c.symbol z)) left r)) Z.family! (ap family left) back
        where
          target-of : (y : Symbol) → T (flexible y) → is_e y ≡ false → y ≡ AssignmentTarget
          target-of y h e = code-eq y AssignmentTarget (or-either (eqb (family y) 0) (eqb (family y) 19) h
              (λ t. absurd (zero-suc (code y) (sym (eqb→eq (family y) 0 t) ∙ plain-family y e))) (λ t. suc-inj (code y) 18 (sym (plain-family y e) ∙ eqb→eq (family y) 19 t)))

          main-code : is_e c.symbol ≡ false → code c.symbol ≡ code G.main.place.symbol
          main-code q = two (is_e G.main.place.symbol) refl
            where
              two : (b : Bool) → is_e G.main.place.symbol ≡ b → code c.symbol ≡ code G.main.place.symbol
              two true e = absurd (zero-suc (code c.symbol) (sym (e-family G.main.place.symbol (is_T _ e)) ∙ sym G.main-like.families ∙ plain-family c.symbol q))
              two false e = suc-inj (code c.symbol) (code G.main.place.symbol) (sym (plain-family c.symbol q) ∙ G.main-like.families ∙ plain-family G.main.place.symbol e)

  paren-kind : (r : Rule) → T (is_for 41 0 1 r) → T (is_paren r.kind)
  paren-kind r h = subst (λ (j : ℕ). T (is_paren j)) (sym (for-kind 41 0 1 r h)) tt

  V₁ : PairView 1 main-pair.rule
  V₁ = pair-seen 1 main-pair.rule main-pair.inside (paren-kind main-pair.rule main-pair.is-for)

  P₁ : PairSlot main-pair.rule.left V₁.slot
  P₁ = pair-slot-of main-pair.rule.left V₁.slot V₁.slot-ok

  abbrev pub inside-at : Place → Slot → At
  inside-at p x = record { place = at_slot p x; bars = bars_for x.symbol []; next = codes ")" ∷ [] }

  abbrev c₁ : At
  c₁ = inside-at G.main.place V₁.slot

  c₁-in : Within c₁ (inside S)
  c₁-in =
      let r = main-pair.rule in
      let w : Walk = record { at = G.main; right = right_for 1 r } in
      first-in w (walks 41 0 1 S) c₁ (walk-in 41 0 1 G.main S r G.main-in main-pair.inside main-pair.is-for main-pair.reached (unasked G.main.place (1 - singles r.right) r.right main-pair.asks))
      (subst (λ (y : List At). Within c₁ y) (sym (pair-child G.main.place G.main.bars G.main.next 1 r V₁)) (here []))

  -- a place inside a pair comes from one that is like c
  pub record InsideFrom (s : At) : Type 0 where
    pub outer : At
    pub outer-in : Within outer S
    pub rule : Rule
    pub inside! : Within rule rules
    pub is-for : T (is_for 41 0 1 rule)
    pub reached : T (reaches outer.place.symbol rule.left)
    pub seen : PairView 1 rule
    pub known! : Known spell k f a ts c S G Z outer
    pub is : s ≡ inside-at outer.place seen.slot

  known-pair : (s : At) → Within s S → (r : Rule) → Within r rules → T (is_for 41 0 1 r) → T (reaches s.place.symbol r.left) → Known spell k f a ts c S G Z s
  known-pair s u r v i h = go (G.each s u)
    where
      go : (Like c s.place × Params s.place G.params × (s.bars ≡ G.bars) × (s.next ≡ G.next)) ⊎ Foreign c.symbol s.place.symbol → Known spell k f a ts c S G Z s
      go (inl x) = record { alike = x.0; params = x.1; bars-is = x.2; next-is = x.3 }
      go (inr x) = absurd (x.apart main-pair.rule r main-pair.inside v main-pair.family! (in-fam s.place.symbol r v h) (for-kind 41 0 1 main-pair.rule main-pair.is-for ∙ sym (for-kind 41 0 1 r i)))

  inside-out : (s : At) → Within s (inside S) → InsideFrom s
  inside-out s u =
      let f = first-out s (walks 41 0 1 S) u in
      let o = walk-out 41 0 1 S f.walk f.within in
      let v = pair-seen 1 o.rule o.inside (paren-kind o.rule o.is-for) in
      let b = subst (λ (w : Walk). Within s (child_at w.at.place w.at.bars w.at.next w.right)) o.is f.child in
      record {
        outer = o.at;
        outer-in = o.at-in;
        rule = o.rule;
        inside! = o.inside;
        is-for = o.is-for;
        reached = o.reached;
        seen = v;
        known! = known-pair o.at o.at-in o.rule o.inside o.is-for o.reached;
        is = only-one s (inside-at o.at.place v.slot) (subst (λ (y : List At). Within s y) (pair-child o.at.place o.at.bars o.at.next 1 o.rule v) b);
      }

  like-inside : (s : At) → InsideFrom s → (Like c₁.place s.place × Params s.place c₁.place × (s.bars ≡ []) × (s.next ≡ codes ")" ∷ []))
  like-inside s i =
      let q = pair-place G.main.place i.outer.place main-pair.rule.left i.rule.left V₁.slot i.seen.slot P₁ (pair-slot-of i.rule.left i.seen.slot i.seen.slot-ok)
      (fam-left 41 0 1 c.symbol i.outer.place.symbol main-pair.rule i.rule main-pair.inside i.inside! main-pair.is-for i.is-for i.known!.alike.families main-pair.family! i.reached) (sym G.main-like.returns ∙ i.known!.alike.returns) in
      subst (λ (z : At). Like c₁.place z.place × Params z.place c₁.place × (z.bars ≡ []) × (z.next ≡ codes ")" ∷ [])) (sym i.is)
      (record { families = ap family q.0; returns = q.1.returns; rest = inr q.1 }, params-sym (at_slot G.main.place V₁.slot) (at_slot i.outer.place i.seen.slot) q.1, no-bars i.seen.slot.symbol, refl)

  open-inside : (T (is_e main-pair.rule.left) × (V₁.slot.symbol ≡ Expression)) ⊎ ((main-pair.rule.left ≡ AssignmentTarget) × (V₁.slot.symbol ≡ AssignmentTarget)) → T (is_e V₁.slot.symbol) → T (reaches V₁.slot.symbol MemberExpression)
  open-inside (inl x) h = subst (λ (y : Symbol). T (reaches y MemberExpression)) (sym x.1) expression-member
  open-inside (inr x) h = absurd (subst (λ (y : Symbol). T (is_e y)) x.1 h)

  G₁ : Good c₁.place (inside S)
  G₁ = record {
    params = c₁.place;
    bars = [];
    next = codes ")" ∷ [];
    each = λ s u. inl (like-inside s (inside-out s u));
    main = c₁;
    main-in = c₁-in;
    main-like = like-refl c₁.place;
    main-open = λ h. open-inside P₁.symbols h;
    shorts = tt;
    stiff = λ e. refl;
  }

  row-inside : (T (is_e main-pair.rule.left) × (V₁.slot.symbol ≡ Expression)) ⊎ ((main-pair.rule.left ≡ AssignmentTarget) × (V₁.slot.symbol ≡ AssignmentTarget)) → T (reaches V₁.slot.symbol Z.row.left)
  row-inside (inl x) =
      let e = e-from Z.row.left (main-pair.same-family ∙ e-family main-pair.rule.left x.0) in
      subst (λ (y : Symbol). T (reaches y Z.row.left)) (sym x.1) (go (is_e Z.row.left) e ((row-ok Z.row Z.inside).flex flex).from-e)
    where
      go : (b : Bool) → T b → T (not b || reaches Expression Z.row.left) → T (reaches Expression Z.row.left)
      go true t h = h
      go false t h = absurd t
  row-inside (inr x) = subst (λ (y : Symbol). T (reaches y Z.row.left)) (sym x.1) (two (is_e Z.row.left) refl)
    where
      two : (b : Bool) → is_e Z.row.left ≡ b → T (reaches AssignmentTarget Z.row.left)
      two true e = absurd (zero-suc 18 (sym (e-family Z.row.left (is_T _ e)) ∙ main-pair.same-family ∙ ap family x.0))
      two false e = subst (λ (y : Symbol). T (reaches AssignmentTarget y)) (sym (code-eq Z.row.left AssignmentTarget (suc-inj (code Z.row.left) 18 (sym (plain-family Z.row.left e) ∙ main-pair.same-family ∙ ap family x.0)))) target-self

  Z₁ : Seeded spell k f a ts c₁.place
  Z₁ = record {
    kids = Z.kids;
    erased = Z.erased;
    row = Z.row;
    inside = Z.inside;
    is-for = Z.is-for;
    family! = in-fam V₁.slot.symbol Z.row Z.inside (row-inside P₁.symbols);
    place = Z.place;
    fed! = Z.fed!;
    numbered = Z.numbered;
    returns = ap (λ (m : Mode). by_mode m G.main.place.has_return) P₁.returns ∙ sym G.main-like.returns ∙ Z.returns;
    rest = inr flex;
  }

  seed₁ : Within (record { at = c₁; right = right_for (length_f ts) Z.row }) (walks k f (length_f ts) (inside S))
  seed₁ = walk-in k f (length_f ts) c₁ (inside S) Z.row c₁-in Z.inside Z.is-for (row-inside P₁.symbols)
      (asked-in c₁.place (length_f ts - singles Z.row.right) Z.row.right (ap (λ (m : Mode). by_mode m G.main.place.has_in) P₁.ins) ((row-ok Z.row Z.inside).flex flex).guards)

  fix-pair : lacks spell k f a ts S ≡ true → fix spell (node k f a ts) S ≡ pair (node k f a (fix_all spell ts (walks k f (length_f ts) (inside S))))
  fix-pair e = ap (λ (b : Bool). wrap b (node k f a (fix_all spell ts (pick b (walks k f (length_f ts) (inside S)) (stays spell k f a ts S))))) e

  pair-derived : (v : Tree) (s : At) → Within s (inside S) → T (derives spell v s.place) → (i : InsideFrom s) → T (derives spell (pair v) i.outer.place)
  pair-derived v s u d i =
      let g = i.outer.place in
      let ps = right_for 1 i.rule in
      let dv = subst (λ (z : At). T (derives spell v z.place)) i.is d in
      let ns = spot-plain i.seen.slot.symbol (pair-slot-of i.rule.left i.seen.slot i.seen.slot-ok).symbols in
      let st : StandsAt spell v (child_at g [] [] ps) = record {
        place = inside-at g i.seen.slot;
        within = subst (λ (y : List At). Within (inside-at g i.seen.slot) y) (sym (pair-child g [] [] 1 i.rule i.seen)) (here []);
        derived! = dv;
        free = subst (λ (b : List (List Word)). T (not (barred b (tokens spell v ++ (codes ")" ∷ []))))) (sym (no-bars i.seen.slot.symbol)) tt;
      } in
      let rest = subst (λ (q : List Part). T (follows g (spell 41 0) q [])) (sym (behind-from nothing ps token i.seen.slot (word (codes ")") ∷ []) i.seen.viewed)) tt in
      let fo = build spell g (spell 41 0) [] [] ps v nil (looks-out (1 - singles i.rule.right) i.rule.right (row-ok i.rule i.inside!).looks) (long spell script (spell 41 0) v (at_slot g i.seen.slot) ns dv) (plain-heads spell g (spell 41 0) ps (children spell (cons v nil)) i.seen.plain) st rest in
      derives-by spell 41 0 0 (cons v nil) g (record { rule = i.rule; inside = i.inside!; is-for = i.is-for; reached = i.reached; followed = fo; numbered = tt })
    where
      spot-plain : (y : Symbol) → (T (is_e i.rule.left) × (y ≡ Expression)) ⊎ ((i.rule.left ≡ AssignmentTarget) × (y ≡ AssignmentTarget)) → T (no_script y)
      spot-plain y (inl x) = subst (λ (z : Symbol). T (no_script z)) (sym x.1) expression-plain
      spot-plain y (inr x) = subst (λ (z : Symbol). T (no_script z)) (sym x.1) target-plain

  pub pair-ends : lacks spell k f a ts S ≡ true → T (all_pairs_ok ts) → CompletesAll spell ts → Ends spell c (node k f a ts) S
  unfolding G₁
  pair-ends e p h =
      let x = site-of spell k f a ts c₁.place (inside S) G₁ Z₁ (inside S) (λ s v. v) c₁-in (record { at = c₁; right = right_for (length_f ts) Z.row }) seed₁ in
      let st = stood spell k f a ts c₁.place (inside S) G₁ Z₁ (inside S) (done spell k f a ts c₁.place (inside S) G₁ Z₁ (inside S) x p h) in
      let v = node k f a (fix_all spell ts (walks k f (length_f ts) (inside S))) in
      let i = inside-out st.place st.within in
      let q = fix-pair e in
      record {
        place = i.outer;
        within = i.outer-in;
        alike = i.known!.alike;
        derived! = subst (λ (y : Tree). T (derives spell y i.outer.place)) (sym q) (pair-derived v st.place st.within st.derived! i);
        free = subst (λ (y : Tree). T (not (barred i.outer.bars (tokens spell y ++ i.outer.next)))) (sym q)
            (subst (λ (y : List Word). T (not (barred i.outer.bars (y ++ i.outer.next)))) (sym (pair-tokens spell v)) (paren-free i.outer.bars _ (subst (λ (b : List (List Word)). T (short b)) (sym i.known!.bars-is) G.shorts)));
      }

-- ---- by the tree

asked-params : (g h : Place) (ps : List Part) → Params g h → asked g ps ≡ asked h ps
asked-params g h [] q = refl
asked-params g h (word w ∷ ps) q = asked-params g h ps q
asked-params g h (own s ∷ ps) q = asked-params g h ps q
asked-params g h (kid x ∷ ps) q = asked-params g h ps q
asked-params g h (run x ∷ ps) q = asked-params g h ps q
asked-params g h (commas x ∷ ps) q = asked-params g h ps q
asked-params g h (more x ∷ ps) q = asked-params g h ps q
asked-params g h (look bs ∷ ps) q = asked-params g h ps q
asked-params g h (if_has p ∷ ps) q = ap₂ ◌&&◌ (has-params p g h q) (asked-params g h ps q)
asked-params g h (if_not p ∷ ps) q = ap₂ ◌&&◌ (ap not (has-params p g h q)) (asked-params g h ps q)
asked-params g h (one_default ∷ ps) q = asked-params g h ps q

module _ (spell : ℕ → ℕ → Word) where
  -- a node that nothing stands round
  pub record Bare! (k f a : ℕ) (ts : Forest) (c : Place) : Type 0 where
    pub seeded : Seeded spell k f a ts c
    pub asks : T (asked seeded.place (right_for (length_f ts) seeded.row))

  seeded-of : (k f a : ℕ) (ts : Forest) (c : Place) → Stripped spell k f a (erase_all ts) c → Bare! k f a ts c
  seeded-of k f a ts c s =
      let l = sym (length-erase s.kids) ∙ ap length_f s.erased ∙ length-erase ts in
      let d = s.derived! in
      let fl = subst (λ (m : ℕ). T (follows s.place (spell k a) (right_for m d.rule) (children spell s.kids))) l d.followed in
      record {
        seeded = record {
          kids = s.kids;
          erased = s.erased;
          row = d.rule;
          inside = d.inside;
          is-for = subst (λ (m : ℕ). T (is_for k f m d.rule)) l d.is-for;
          family! = s.family!;
          place = s.place;
          fed! = feeds-of spell s.place (spell k a) (right_for (length_f ts) d.rule) s.kids fl;
          numbered = d.numbered;
          returns = s.returns;
          rest = s.rest;
        };
        asks = asked-follows spell s.place (spell k a) (right_for (length_f ts) d.rule) s.kids fl;
      }

  -- where no pair may stand round the node, the row that derives it is there
  stiff-walk : (k f a : ℕ) (ts : Forest) (c : Place) (S : List At) (G : Good c S) (B : Bare! k f a ts c) → flexible B.seeded.row.left ≡ false → Within (record { at = G.main; right = right_for (length_f ts) B.seeded.row }) (stays spell k f a ts S)
  stiff-walk k f a ts c S G B e =
      let Z = B.seeded in
      let kn = main-known spell k f a ts c S G Z in
      let no-bars! = kn.bars-is ∙ stiff-left spell k f a ts c S G Z e in
      walk-in k f (length_f ts) G.main (unbarred spell (node k f a ts) S) Z.row
      (passing-in (λ s. not (barred s.bars (opening spell (node k f a ts) s.next))) G.main S G.main-in (subst (λ (b : List (List Word)). T (not (barred b (opening spell (node k f a ts) G.main.next)))) (sym no-bars!) tt))
      Z.inside Z.is-for (reach (is_e c.symbol) refl) (ask Z.rest G.main-like.rest)
    where
      clash : {A : Type 0} → T (flexible B.seeded.row.left) → A
      clash h = absurd (subst T e h)

      reach : (b : Bool) → is_e c.symbol ≡ b → T (reaches G.main.place.symbol B.seeded.row.left)
      reach true q = clash (e-flexible B.seeded.row.left (subst (λ (z : Bool). T (elim z [ true ↦ is_e B.seeded.row.left | false ↦ reaches c.symbol B.seeded.row.left ])) q B.seeded.family!))
      reach false q = two (is_e G.main.place.symbol) refl (subst (λ (z : Bool). T (elim z [ true ↦ is_e B.seeded.row.left | false ↦ reaches c.symbol B.seeded.row.left ])) q B.seeded.family!)
        where
          two : (b : Bool) → is_e G.main.place.symbol ≡ b → T (reaches c.symbol B.seeded.row.left) → T (reaches G.main.place.symbol B.seeded.row.left)
          two true p h = absurd (zero-suc (code c.symbol) (sym (e-family G.main.place.symbol (is_T _ p)) ∙ sym G.main-like.families ∙ plain-family c.symbol q))
          two false p h = subst (λ (y : Symbol). T (reaches y B.seeded.row.left)) (code-eq c.symbol G.main.place.symbol (suc-inj (code c.symbol) (code G.main.place.symbol) (sym (plain-family c.symbol q) ∙ G.main-like.families ∙ plain-family G.main.place.symbol p))) h

      ask : (B.seeded.place ≡ c) ⊎ T (flexible B.seeded.row.left) → T (flexible c.symbol) ⊎ Params c G.main.place → T (asked G.main.place (right_for (length_f ts) B.seeded.row))
      ask (inr h) x = clash h
      ask (inl q) (inl h) = clash (flex-left c.symbol B.seeded.row h B.seeded.family!)
      ask (inl q) (inr x) = subst T (asked-params c G.main.place (right_for (length_f ts) B.seeded.row) x) (subst (λ (p : Place). T (asked p (right_for (length_f ts) B.seeded.row))) q B.asks)

  node-ends : (k f a : ℕ) (ts : Forest) (c : Place) (S : List At) (G : Good c S) (B : Bare! k f a ts c) → T (all_pairs_ok ts) → CompletesAll spell ts → (ws : List Walk) → stays spell k f a ts S ≡ ws → (b : Bool) → flexible B.seeded.row.left ≡ b → Ends spell c (node k f a ts) S
  node-ends k f a ts c S G B p h (w ∷ ws) e b q = stay-ends spell k f a ts c S G B.seeded w (subst (λ (x : List Walk). Within w x) (sym e) (here ws)) p h
  node-ends k f a ts c S G B p h [] e true q =
      let i = subst (λ (j : ℕ). T (in_pair j)) (for-kind k f (length_f ts) B.seeded.row B.seeded.is-for) ((row-ok B.seeded.row B.seeded.inside).flex (is_T _ q)).pairs in
      pair-ends spell k f a ts c S G B.seeded (is_T _ q) (is_true (lacks spell k f a ts S) (both (in_pair k) (none (stays spell k f a ts S)) i (subst (λ (x : List Walk). T (none x)) (sym e) tt))) p h
  node-ends k f a ts c S G B p h [] e false q = within-none (record { at = G.main; right = right_for (length_f ts) B.seeded.row }) (subst (λ (x : List Walk). Within (record { at = G.main; right = right_for (length_f ts) B.seeded.row }) x) e (stiff-walk k f a ts c S G B q))

  plain-completes : (k f a : ℕ) (ts : Forest) → is_paren k ≡ false → CompletesAll spell ts → Completes spell (node k f a ts)
  plain-completes k f a ts q h u c S d e p G =
      let e' = e ∙ ap (λ (b : Bool). passed b (node k f a (erase_all ts)) (erase_all ts)) q in
      let B = seeded-of k f a ts c (strip spell u k f a (erase_all ts) c d e') in
      node-ends k f a ts c S G B (and_right _ (all_pairs_ok ts) p) h (stays spell k f a ts S) refl (flexible B.seeded.row.left) refl

  -- ---- kind 41

  pair-feeds : (g : Place) (o : Word) (h i : Before) (ps : List Part) (x : Slot) (u : Tree) → view_from h ps ≡ first i x (word (codes ")") ∷ []) → T (plain_head ps) → (c : Place) → T (derives spell u c) → Like c (at_slot g x) → Feeds spell g o ps (cons u nil)
  pair-feeds g o h i [] x u e p c d l = absurd p
  pair-feeds g o h i (word w ∷ ps) x u e p c d l = pair-feeds g o (after_token h) i ps x u e p c d l
  pair-feeds g o h i (own s ∷ ps) x u e p c d l = absurd p
  pair-feeds g o h i (kid y ∷ ps) x u e p c d l =
      let a : x ≡ y = cc in
      let b : word (codes ")") ∷ [] ≡ ps = cc in
      ((c, d, subst (λ (z : Slot). Like c (at_slot g z)) a l), subst (λ (z : List Part). Feeds spell g o z nil) b tt)
  pair-feeds g o h i (run y ∷ ps) x u e p c d l = absurd p
  pair-feeds g o h i (commas y ∷ ps) x u e p c d l = absurd p
  pair-feeds g o h i (more y ∷ ps) x u e p c d l = absurd p
  pair-feeds g o h i (look cs ∷ ps) x u e p c d l = pair-feeds g o (looked cs) i ps x u e p c d l
  pair-feeds g o h i (if_has q ∷ ps) x u e p c d l = absurd p
  pair-feeds g o h i (if_not q ∷ ps) x u e p c d l = absurd p
  pair-feeds g o h i (one_default ∷ ps) x u e p c d l = absurd p

  tree-eta : (t : Tree) → t ≡ node (kind t) (form t) (num t) (kids t)
  tree-eta (node k f a ts) = refl

  -- of a pair's child, what is under its pairs is an expression
  expr-by : (k f a : ℕ) (ts : Forest) (b : Bool) → is_paren k ≡ b → T (is_expr k) → T (not b || (eqb f 0 && eqb a 0 && one_expression ts)) → ((t : Tree) → ts ≡ cons t nil → T (is_expr (kind t)) → T (is_expr (kind (erase t)))) → T (is_expr (kind (passed b (node k f a (erase_all ts)) (erase_all ts))))
  expr-by k f a ts false q x p h = x
  expr-by k f a nil true q x p h = absurd (and_right (eqb f 0 && eqb a 0) false p)
  expr-by k f a (cons t nil) true q x p h = h t refl (and_right (eqb f 0 && eqb a 0) (is_expr (kind t)) p)
  expr-by k f a (cons t (cons s ts)) true q x p h = absurd (and_right (eqb f 0 && eqb a 0) false p)

  expr-erase : (t : Tree) → T (pairs_ok t) → T (is_expr (kind t)) → T (is_expr (kind (erase t)))
  expr-erase (node k f a nil) p x = expr-by k f a nil (is_paren k) refl x (and_left (not (is_paren k) || (eqb f 0 && eqb a 0 && false)) true p) (λ t e y. absurd (cc))
  expr-erase (node k f a (cons t nil)) p x =
      expr-by k f a (cons t nil) (is_paren k) refl x (and_left (not (is_paren k) || (eqb f 0 && eqb a 0 && is_expr (kind t))) (pairs_ok t && true) p)
      (λ s e y. same s (cc) y (λ z. expr-erase t (and_left (pairs_ok t) true (and_right (not (is_paren k) || (eqb f 0 && eqb a 0 && is_expr (kind t))) (pairs_ok t && true) p)) z))
    where
      same : (s : Tree) → t ≡ s → T (is_expr (kind s)) → (T (is_expr (kind t)) → T (is_expr (kind (erase t)))) → T (is_expr (kind (erase s)))
      same s e y g = subst (λ (z : Tree). T (is_expr (kind (erase z)))) e (g (subst (λ (z : Tree). T (is_expr (kind z))) (sym e) y))
  expr-erase (node k f a (cons t (cons s ts))) p x = expr-by k f a (cons t (cons s ts)) (is_paren k) refl x (and_left (not (is_paren k) || (eqb f 0 && eqb a 0 && false)) (all_pairs_ok (cons t (cons s ts))) p) (λ t e y. absurd (cc))

  expr-under : (u : Tree) → T (is_expr (kind (erase u))) → T (is_expr (kind u))
  expr-under (node k f a us) h = go (is_paren k) refl h
    where
      go : (b : Bool) → is_paren k ≡ b → T (is_expr (kind (passed b (node k f a (erase_all us)) (erase_all us)))) → T (is_expr k)
      go true q h = subst (λ (j : ℕ). T (is_expr j)) (sym (eqb→eq k 41 (is_T _ q))) tt
      go false q h = h

  as-target : Place → Place
  as-target c = record { symbol = AssignmentTarget; has_in = c.has_in; has_return = c.has_return; has_else = c.has_else }

  -- what a place of targets among others derives, where it is of an expression's kind, a target is
  target-node : (k f a : ℕ) (us : Forest) (c : Place) → is_e c.symbol ≡ false → T (is_expr k) → T (derives spell (node k f a us) c) → T (derives spell (node k f a us) (as-target c))
  unfolding as-target
  target-node k f a us c e x h =
      let d = derived spell k f a us c h in
      let fx = or-either (not (is_expr d.rule.kind)) (flexible d.rule.left) (row-ok d.rule d.inside).exprs (λ t. absurd (T-not (is_expr d.rule.kind) t (subst (λ (j : ℕ). T (is_expr j)) (sym (for-kind k f (length_f us) d.rule d.is-for)) x))) (λ t. t) in
      let ne = sym (steps-eq c.symbol d.rule d.inside d.reached) ∙ e in
      let l = code-eq d.rule.left AssignmentTarget (or-either (eqb (family d.rule.left) 0) (eqb (family d.rule.left) 19) fx
      (λ t. absurd (zero-suc (code d.rule.left) (sym (eqb→eq (family d.rule.left) 0 t) ∙ plain-family d.rule.left ne))) (λ t. suc-inj (code d.rule.left) 18 (sym (plain-family d.rule.left ne) ∙ eqb→eq (family d.rule.left) 19 t))) in
      derives-by spell k f a us (as-target c) (record {
        rule = d.rule;
        inside = d.inside;
        is-for = d.is-for;
        numbered = d.numbered;
        reached = subst (λ (y : Symbol). T (reaches AssignmentTarget y)) (sym l) target-self;
        followed = subst T (follows-params c (as-target c) (spell k a) (right_for (length_f us) d.rule) (children spell us) (record { ins = refl; returns = refl; elses = refl })) d.followed;
      })

  target-derives : (u : Tree) (c : Place) → is_e c.symbol ≡ false → T (is_expr (kind u)) → T (derives spell u c) → T (derives spell u (as-target c))
  target-derives (node k f a us) c e x h = target-node k f a us c e x h

  -- where the child of a pair is derived, as inside the pair
  pub record Within! (u : Tree) (g : Place) (x : Slot) : Type 0 where
    pub place : Place
    pub derived! : T (derives spell u place)
    pub alike : Like place (at_slot g x)

  inside-derived : (u : Tree) (c g : Place) (y : Symbol) (x : Slot) → PairSlot y x → (r : Rule) → Within r rules → r.left ≡ y → T (in_family c.symbol r) → c.has_return ≡ g.has_return → T (is_expr (kind u)) → T (derives spell u c) → Within! u g x
  unfolding as-target
  inside-derived u c g y x p r v l i ret ex d = go p.symbols (is_e c.symbol) refl
    where
      ret! : c.has_return ≡ by_mode x.return_mode g.has_return
      ret! = ret ∙ sym (ap (λ (m : Mode). by_mode m g.has_return) p.returns)

      go : (T (is_e y) × (x.symbol ≡ Expression)) ⊎ ((y ≡ AssignmentTarget) × (x.symbol ≡ AssignmentTarget)) → (b : Bool) → is_e c.symbol ≡ b → Within! u g x
      go (inl a) true q = record { place = c; derived! = d; alike = record { families = e-family c.symbol (is_T _ q) ∙ sym (ap family a.1); returns = ret!; rest = inl (e-flexible c.symbol (is_T _ q)) } }
      go (inl a) false q =
          let h = subst (λ (z : Bool). T (elim z [ true ↦ is_e r.left | false ↦ reaches c.symbol r.left ])) q i in
          absurd (subst T (sym (steps-eq c.symbol r v h) ∙ q) (subst (λ (z : Symbol). T (is_e z)) (sym l) a.0))
      go (inr a) true q =
          let h = subst (λ (z : Bool). T (elim z [ true ↦ is_e r.left | false ↦ reaches c.symbol r.left ])) q i in
          absurd (subst (λ (z : Symbol). T (is_e z)) (l ∙ a.0) h)
      go (inr a) false q = record { place = as-target c; derived! = target-derives u c q ex d; alike = record { families = ap family (sym a.1); returns = ret!; rest = inl tt } }

  pair-opening : (t : Tree) (n : List Word) → opening spell (node 41 0 0 (cons t nil)) n ≡ codes "(" ∷ []
  unfolding right_of rules
  pair-opening t n = refl

  pair-completes : (t : Tree) → Completes spell t → Completes spell (node 41 0 0 (cons t nil))
  pair-completes t h u c S d e p G =
      let pt = and_left (pairs_ok t) true (and_right (is_expr (kind t)) (pairs_ok t && true) p) in
      let ex = expr-erase t pt (and_left (is_expr (kind t)) (pairs_ok t && true) p) in
      let r = erase t in
      let s = strip spell u (kind r) (form r) (num r) (kids r) c d (e ∙ tree-eta r) in
      let D = s.derived! in
      let Z : Seeded spell (kind r) (form r) (num r) s.kids c = record {
        kids = s.kids;
        erased = refl;
        row = D.rule;
        inside = D.inside;
        is-for = D.is-for;
        family! = s.family!;
        place = s.place;
        fed! = feeds-of spell s.place (spell (kind r) (num r)) (right_for (length_f s.kids) D.rule) s.kids D.followed;
        numbered = D.numbered;
        returns = s.returns;
        rest = s.rest;
      } in
      let flex = or-either (not (is_expr D.rule.kind)) (flexible D.rule.left) (row-ok D.rule D.inside).exprs (λ x. absurd (T-not (is_expr D.rule.kind) x (subst (λ (j : ℕ). T (is_expr j)) (sym (for-kind (kind r) (form r) (length_f s.kids) D.rule D.is-for)) ex))) (λ x. x) in
      let m = main-pair spell (kind r) (form r) (num r) s.kids c S G Z flex in
      let v = pair-seen 1 m.rule m.inside (subst (λ (j : ℕ). T (is_paren j)) (sym (for-kind 41 0 1 m.rule m.is-for)) tt) in
      let w = inside-derived u c G.main.place m.rule.left v.slot (pair-slot-of m.rule.left v.slot v.slot-ok) m.rule m.inside refl m.family! G.main-like.returns (expr-under u (subst (λ (x : Tree). T (is_expr (kind x))) (sym e) ex)) d in
      let Z' : Seeded spell 41 0 0 (cons t nil) c = record {
        kids = cons u nil;
        erased = ap {B = Forest} (λ x. cons x nil) e;
        row = m.rule;
        inside = m.inside;
        is-for = m.is-for;
        family! = m.family!;
        place = G.main.place;
        fed! = pair-feeds G.main.place (spell 41 0) nothing token (right_for 1 m.rule) v.slot u v.viewed v.plain w.place w.derived! w.alike;
        numbered = tt;
        returns = G.main-like.returns;
        rest = inr (flex-family D.rule.left m.rule.left m.same-family flex);
      } in
      let kn = main-known spell (kind r) (form r) (num r) s.kids c S G Z in
      let free! = subst (λ (l : List Word). T (not (barred G.main.bars l))) (sym (pair-opening t G.main.next)) (paren-free G.main.bars [] (subst (λ (b : List (List Word)). T (short b)) (sym kn.bars-is) G.shorts)) in
      let wk = walk-in 41 0 1 G.main (unbarred spell (node 41 0 0 (cons t nil)) S) m.rule (passing-in (λ x. not (barred x.bars (opening spell (node 41 0 0 (cons t nil)) x.next))) G.main S G.main-in free!) m.inside m.is-for m.reached (unasked G.main.place (1 - singles m.rule.right) m.rule.right m.asks) in
      stay-ends spell 41 0 0 (cons t nil) c S G Z' (record { at = G.main; right = right_for 1 m.rule }) wk (both (pairs_ok t) true pt tt) (h, tt)

  paren-completes : (k f a : ℕ) (ts : Forest) → is_paren k ≡ true → CompletesAll spell ts → Completes spell (node k f a ts)
  paren-completes k f a nil q h u c S d e p G = absurd (and_right (eqb f 0 && eqb a 0) false (subst (λ (b : Bool). T (not b || (eqb f 0 && eqb a 0 && false))) q (and_left (not (is_paren k) || (eqb f 0 && eqb a 0 && false)) true p)))
  paren-completes k f a (cons t (cons s ts)) q h u c S d e p G = absurd (and_right (eqb f 0 && eqb a 0) false (subst (λ (b : Bool). T (not b || (eqb f 0 && eqb a 0 && false))) q (and_left (not (is_paren k) || (eqb f 0 && eqb a 0 && false)) (all_pairs_ok (cons t (cons s ts))) p)))
  paren-completes k f a (cons t nil) q h u c S d e p G =
      let x = subst (λ (b : Bool). T (not b || (eqb f 0 && eqb a 0 && is_expr (kind t)))) q (and_left (not (is_paren k) || (eqb f 0 && eqb a 0 && is_expr (kind t))) (pairs_ok t && true) p) in
      let y = and_left (eqb f 0 && eqb a 0) (is_expr (kind t)) x in
      let same! : node k f a (cons t nil) ≡ node 41 0 0 (cons t nil) = ap (λ (i : ℕ). node i f a (cons t nil)) (eqb→eq k 41 (is_T _ q)) ∙ ap (λ (i : ℕ). node 41 i a (cons t nil)) (eqb→eq f 0 (and_left (eqb f 0) (eqb a 0) y)) ∙ ap (λ (i : ℕ). node 41 0 i (cons t nil)) (eqb→eq a 0 (and_right (eqb f 0) (eqb a 0) y)) in
      subst (λ (z : Tree). Ends spell c z S) (sym same!) (pair-completes t h.0 u c S d (e ∙ ap erase same!) (subst (λ (z : Tree). T (pairs_ok z)) same! p) G)

  by-paren : (k f a : ℕ) (ts : Forest) (b : Bool) → is_paren k ≡ b → CompletesAll spell ts → Completes spell (node k f a ts)
  by-paren k f a ts true q h = paren-completes k f a ts q h
  by-paren k f a ts false q h = plain-completes k f a ts q h

  mutual
    pub completes : (t : Tree) → Completes spell t
    completes (node k f a ts) = by-paren k f a ts (is_paren k) refl (completes-all ts)

    pub completes-all : (ts : Forest) → CompletesAll spell ts
    completes-all nil = tt
    completes-all (cons t ts) = (completes t, completes-all ts)

  start-good : Good script (start ∷ [])
  start-good = record {
    params = script;
    bars = [];
    next = [];
    each = λ s w. inl (subst (λ (z : At). Like script z.place × Params z.place script × (z.bars ≡ []) × (z.next ≡ [])) (sym (only-one s start w)) (like-refl script, record { ins = refl; returns = refl; elses = refl }, refl, refl));
    main = start;
    main-in = here [];
    main-like = like-refl script;
    main-open = λ h. absurd h;
    shorts = tt;
    stiff = λ e. refl;
  }

  pub refused : Refused spell
  refused t ws p r =
      let x = completes (laid t) r.0 script (start ∷ []) r.2 r.3 (pairs-laid t p) start-good in
      subst (λ (z : At). T (derives spell (printed spell t) z.place)) (only-one x.place start x.within) x.derived!
