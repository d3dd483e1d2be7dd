-- What is printed by the rows is what def_text prints, and where the rows print nothing no text reads as the tree. Assumes nothing.
use mathlib.Core.Path.{◌≡◌, refl, sym, ap, ap₂, ◌∙◌, subst}
use mathlib.Core.Bool.{Bool, true, false, ◌&&◌, ◌||◌, not}
use mathlib.Core.List.{List, [], ◌∷◌, ◌++◌, map}
use Prim.Native.Nat.{ℕ, suc, ◌-◌, ◌<◌, ◌≤◌}
use lib.Dec.{T, eqb}
use lib.ListN.{length}
use Rattle.std.proofs.Common.{◌⊎◌, inl, inr, Option, Some, None}
use Rattle.std.proofs.lemmas.Bool.{cases_lt}
use Rattle.std.specs.Prelude.{codes}
use Rattle.def_tree.specs.Base.{pick}
use Rattle.def_tree.specs.Tree.{Tree, Forest, node, nil, cons, length_f}
use Rattle.def_text.specs.Words.{Word}
use Rattle.def_text.specs.Grammar.{Symbol, Place, Part, word, right_for, singles, is_for}
use Rattle.def_text.specs.Table.{reaches, rules}
use Rattle.def_text.specs.Derives.{fill, right_of, barred, follows, number_ok, is_paren, tokens, tokens_all, children}
use Rattle.def_text.specs.Print.{At, start, Walk, child_at, first_places, passed_by, walks, in_pair, pair, wrap, none, inside, unbarred, opening, opening_first, opening_of, stays, lacks, fix, fix_all}
use Rattle.laws_text.specs.Claims.{one_expression, pairs_ok, all_pairs_ok}
use Rattle.laws_text.proofs.Basics.{and_left, and_right, both, is_true, is_T, Within, here, there, every-at, passing-out}
use Rattle.laws_text.proofs.Rows.{for-kind, fill-of, open-same}
use Rattle.laws_text.proofs.Fit.{slots, slots-of, derived, derives-by}
use Rattle.laws_text.proofs.Shape.{fix-dressed, fix-all-dressed}
use Rattle.laws_text.proofs.Least.{StandsAt, Follows, kid-stands, kids-follow, first-dressed, stays-follows, inside-stands, inside-follows, length-dressed}
use Rattle.laws_text.proofs.Alike.{flexible, nothing, token, view, plain_head}
use Rattle.laws_text.proofs.Kids.{behind-from, build, short, within-none}
use Rattle.laws_text.proofs.Site.{walk-out}
use Rattle.laws_text.proofs.Feeds.{plain-heads}
use Rattle.laws_text.proofs.Facts.{row-ok, begins_ok, begins-out, PairView, pair-seen}
use Rattle.laws_text.proofs.Free.{parts-free, parts-alone}
use Rattle.laws_text.proofs.Complete.{flex-left, in-fam}
use Rattle.text_table.specs.Rows.{Row}
use Rattle.text_table.specs.Put.{Spot, start as start_spot, members, is_bare, at_of, ats, as_is, stand, spots_of, first_spot, inner, parts_ok, Choice, chosen as chosen_by, in_inner, or_paired, around, both as both_lists, made, choice, put, put_all}
use Rattle.laws_put.proofs.Near.{Alike, AlikeWalks, near-barred, walks-alike, none-alike, fix-alike, fix-all-alike, stands-alike}
use Rattle.laws_put.proofs.Tests.{rule-in, beyond}
use Rattle.laws_put.proofs.Fits.{Fits, map-in, by_view, spots-view}
use Rattle.laws_put.proofs.Rows.{Standing, standing, row-fits, row-walk, Kept, kept, no-row}
use Rattle.laws_put.proofs.Parts.{kid_count, out-lists, spots-count, follows-parts, defaults-fixed}
use Rattle.laws_put.proofs.Right.{KidsStand, Done, right-done, parts-alike, count-alike, viewed, out-of, looks-of, apart}
use Rattle.laws_put.proofs.Fine.{Fine, clear!, flexed!, FineAll, fine-row, here-alike, here-fine, open-free}

-- ---- how a node is printed

pub data Chose (spell : ℕ → ℕ → Word) (k f a : ℕ) (ts : Forest) (s : Spot) (c : Choice) : Type 0 where
  plainly : (r : Row) → stand k f (length_f ts) (as_is spell (node k f a ts) s) ≡ Some r → c ≡ record { row = r; spot = as_is spell (node k f a ts) s; paired = false } → Chose spell k f a ts s c
  in-pair : (q : Spot) (r : Row) → stand k f (length_f ts) (as_is spell (node k f a ts) s) ≡ None → in_pair k ≡ true → inner s ≡ Some q → stand k f (length_f ts) q ≡ Some r → c ≡ record { row = r; spot = q; paired = true } → Chose spell k f a ts s c

module _ (spell : ℕ → ℕ → Word) where
  pub chose : (k f a : ℕ) (ts : Forest) (s : Spot) (c : Choice) → choice spell (node k f a ts) s ≡ Some c → Chose spell k f a ts s c
  unfolding choice
  chose k f a ts s c e = go (stand k f (length_f ts) (as_is spell (node k f a ts) s)) refl e
    where
      N : ℕ
      N = length_f ts

      last : (x : Option Row) (q : Spot) → stand k f (length_f ts) (as_is spell (node k f a ts) s) ≡ None → in_pair k ≡ true → inner s ≡ Some q → stand k f (length_f ts) q ≡ x → chosen_by x q true ≡ Some c → Chose spell k f a ts s c
      last None q z p i j e = absurd (cc)
      last (Some r) q z p i j e = in-pair q r z p i j (cc)

      mid : (x : Option Spot) → stand k f (length_f ts) (as_is spell (node k f a ts) s) ≡ None → in_pair k ≡ true → inner s ≡ x → in_inner k f (length_f ts) x ≡ Some c → Chose spell k f a ts s c
      mid None z p i e = absurd (cc)
      mid (Some q) z p i e = last (stand k f (length_f ts) q) q z p i refl e

      by : (b : Bool) → stand k f (length_f ts) (as_is spell (node k f a ts) s) ≡ None → in_pair k ≡ b → pick b (in_inner k f (length_f ts) (inner s)) None ≡ Some c → Chose spell k f a ts s c
      by true z p e = mid (inner s) z p refl e
      by false z p e = absurd (cc)

      go : (x : Option Row) → stand k f (length_f ts) (as_is spell (node k f a ts) s) ≡ x → or_paired x (as_is spell (node k f a ts) s) (pick (in_pair k) (in_inner k f (length_f ts) (inner s)) None) ≡ Some c → Chose spell k f a ts s c
      go (Some r) z e = plainly r z (cc)
      go None z e = by (in_pair k) z refl e

  -- what was put
  pub record Was (k f a : ℕ) (ts : Forest) (s : Spot) (ws : List Word) : Type 0 where
    pub choice! : Choice
    pub chose! : choice spell (node k f a ts) s ≡ Some choice!
    pub number : T (number_ok k a)
    pub parts : T (parts_ok (spell k a) ts (right_for (length_f ts) choice!.row.rule))
    pub lists : List (List Word)
    pub kids : put_all spell ts (spots_of choice!.row (length_f ts) choice!.spot) ≡ Some lists
    pub is : ws ≡ around choice!.paired (fill (spell k a) (right_for (length_f ts) choice!.row.rule) lists)

  pub was-put : (k f a : ℕ) (ts : Forest) (s : Spot) (ws : List Word) → put spell (node k f a ts) s ≡ Some ws → Was k f a ts s ws
  was-put k f a ts s ws e = go (choice spell (node k f a ts) s) refl e
    where
      kids! : (c : Choice) (x : Option (List (List Word))) → choice spell (node k f a ts) s ≡ Some c → T (number_ok k a && parts_ok (spell k a) ts (right_for (length_f ts) c.row.rule)) → put_all spell ts (spots_of c.row (length_f ts) c.spot) ≡ x
          → made c (length_f ts) (spell k a) x ≡ Some ws → Was k f a ts s ws
      kids! c None z h i e = absurd (cc)
      kids! c (Some ls) z h i e = record { choice! = c; chose! = z; number = and_left (number_ok k a) (parts_ok (spell k a) ts (right_for (length_f ts) c.row.rule)) h; parts = and_right (number_ok k a) (parts_ok (spell k a) ts (right_for (length_f ts) c.row.rule)) h; lists = ls; kids = i; is = cc }

      ok! : (c : Choice) (b : Bool) → choice spell (node k f a ts) s ≡ Some c → (number_ok k a && parts_ok (spell k a) ts (right_for (length_f ts) c.row.rule)) ≡ b
          → elim b as (λ z. Option (List Word)) [ false ↦ None | true ↦ made c (length_f ts) (spell k a) (put_all spell ts (spots_of c.row (length_f ts) c.spot)) ] ≡ Some ws → Was k f a ts s ws
      ok! c false z h e = absurd (cc)
      ok! c true z h e = kids! c (put_all spell ts (spots_of c.row (length_f ts) c.spot)) z (is_T _ h) refl e

      go : (x : Option Choice) → choice spell (node k f a ts) s ≡ x → elim x as (λ z. Option (List Word)) [
        | None ↦ None
        | Some c ↦ elim (number_ok k a && parts_ok (spell k a) ts (right_for (length_f ts) c.row.rule)) as (λ z. Option (List Word)) [ false ↦ None | true ↦ made c (length_f ts) (spell k a) (put_all spell ts (spots_of c.row (length_f ts) c.spot)) ]
      ] ≡ Some ws → Was k f a ts s ws
      go None z e = absurd (cc)
      go (Some c) z e = ok! c (number_ok k a && parts_ok (spell k a) ts (right_for (length_f ts) c.row.rule)) z refl e

  -- and what is to be put
  pub is-put : (k f a : ℕ) (ts : Forest) (s : Spot) (c : Choice) (ls : List (List Word)) → choice spell (node k f a ts) s ≡ Some c → T (number_ok k a) → T (parts_ok (spell k a) ts (right_for (length_f ts) c.row.rule)) → put_all spell ts (spots_of c.row (length_f ts) c.spot) ≡ Some ls
      → put spell (node k f a ts) s ≡ Some (around c.paired (fill (spell k a) (right_for (length_f ts) c.row.rule) ls))
  is-put k f a ts s c ls z n p i =
      ap (λ (x : Option Choice). elim x as (λ z. Option (List Word)) [
        | None ↦ None
        | Some c ↦ elim (number_ok k a && parts_ok (spell k a) ts (right_for (length_f ts) c.row.rule)) as (λ z. Option (List Word)) [ false ↦ None | true ↦ made c (length_f ts) (spell k a) (put_all spell ts (spots_of c.row (length_f ts) c.spot)) ]
      ]) z
      ∙ ap (λ (b : Bool). elim b as (λ z. Option (List Word)) [ false ↦ None | true ↦ made c (length_f ts) (spell k a) (put_all spell ts (spots_of c.row (length_f ts) c.spot)) ]) (is_true _ (both (number_ok k a) (parts_ok (spell k a) ts (right_for (length_f ts) c.row.rule)) n p))
      ∙ ap (made c (length_f ts) (spell k a)) i

  -- the choice, from its parts
  pub choose-plainly : (k f a : ℕ) (ts : Forest) (s : Spot) (r : Row) → stand k f (length_f ts) (as_is spell (node k f a ts) s) ≡ Some r → choice spell (node k f a ts) s ≡ Some (record { row = r; spot = as_is spell (node k f a ts) s; paired = false })
  unfolding choice
  choose-plainly k f a ts s r e = ap (λ (x : Option Row). or_paired x (as_is spell (node k f a ts) s) (pick (in_pair k) (in_inner k f (length_f ts) (inner s)) None)) e

  pub choose-paired : (k f a : ℕ) (ts : Forest) (s q : Spot) (r : Row) → stand k f (length_f ts) (as_is spell (node k f a ts) s) ≡ None → in_pair k ≡ true → inner s ≡ Some q → stand k f (length_f ts) q ≡ Some r
      → choice spell (node k f a ts) s ≡ Some (record { row = r; spot = q; paired = true })
  unfolding choice
  choose-paired k f a ts s q r e p i j =
      ap (λ (x : Option Row). or_paired x (as_is spell (node k f a ts) s) (pick (in_pair k) (in_inner k f (length_f ts) (inner s)) None)) e
      ∙ ap (λ (b : Bool). pick b (in_inner k f (length_f ts) (inner s)) None) p ∙ ap (in_inner k f (length_f ts)) i ∙ ap (λ (x : Option Row). chosen_by x q true) j

  -- ---- children

  abbrev pub Sound : Tree → Type 0
  Sound t = (s : Spot) → Fine s → T (pairs_ok t) → (ws : List Word) → put spell t s ≡ Some ws → StandsAt spell (fix spell t (ats s)) (ats s) × (ws ≡ tokens spell (fix spell t (ats s)))

  abbrev pub Complete : Tree → Type 0
  Complete t = (s : Spot) → T (pairs_ok t) → StandsAt spell (fix spell t (ats s)) (ats s) → (ws : List Word) × (put spell t s ≡ Some ws)

  abbrev pub SoundAll : Forest → Type 0
  SoundAll nil = Unit {0}
  SoundAll (cons t ts) = Sound t × SoundAll ts

  abbrev pub CompleteAll : Forest → Type 0
  CompleteAll nil = Unit {0}
  CompleteAll (cons t ts) = Complete t × CompleteAll ts

  pub record KidsPut (ts : Forest) (ss : List Spot) (vs : List Walk) (ls : List (List Word)) : Type 0 where
    pub stand! : KidsStand spell ts vs
    pub are : tokens_all spell (fix_all spell ts vs) ≡ ls
    pub count : length ss ≡ length_f ts

  pub kids-sound : (ts : Forest) (ss : List Spot) (vs : List Walk) (ls : List (List Word)) → SoundAll ts → FineAll ss → Fits ss vs → T (all_pairs_ok ts) → put_all spell ts ss ≡ Some ls → KidsPut ts ss vs ls
  kids-sound nil [] vs ls h f g p e = record { stand! = tt; are = cc; count = refl }
  kids-sound nil (s ∷ ss) vs ls h f g p e = absurd (cc)
  kids-sound (cons t ts) [] vs ls h f g p e = absurd (cc)
  kids-sound (cons t ts) (s ∷ ss) vs ls h f g p e = go (put spell t s) refl (put_all spell ts ss) refl e (λ ls e. kids-sound ts ss (passed_by vs) ls h.1 f.1 g.1 (and_right (pairs_ok t) (all_pairs_ok ts) p) e)
    where
      go : (x : Option (List Word)) → put spell t s ≡ x → (y : Option (List (List Word))) → put_all spell ts ss ≡ y → both_lists x y ≡ Some ls → ((ls : List (List Word)) → put_all spell ts ss ≡ Some ls → KidsPut ts ss (passed_by vs) ls) → KidsPut (cons t ts) (s ∷ ss) vs ls
      go None z y i e k = absurd (cc)
      go (Some l) z None i e k = absurd (cc)
      go (Some l) z (Some r) i e k =
          let a = h.0 s f.0 (and_left (pairs_ok t) (all_pairs_ok ts) p) l z in
          let b = k r i in
          let q = sym (fix-alike spell t (first_places vs) (ats s) g.0) in
          record {
            stand! = (stands-alike spell (fix spell t (first_places vs)) (ats s) (first_places vs) g.0.back (subst (λ (u : Tree). StandsAt spell u (ats s)) q a.0), b.stand!);
            are = ap₂ {C = List (List Word)} (λ (u : List Word) (v : List (List Word)). u ∷ v) (ap (tokens spell) (sym q) ∙ sym a.1) b.are ∙ (cc);
            count = ap suc b.count;
          }

  kids-complete : (o : Word) (ts : Forest) (ss : List Spot) (vs : List Walk) → CompleteAll ts → Fits ss vs → T (all_pairs_ok ts) → length ss ≡ length_f ts → Follows spell o (fix_all spell ts vs) vs → (ls : List (List Word)) × (put_all spell ts ss ≡ Some ls)
  kids-complete o nil [] vs h g p c w = ([], refl)
  kids-complete o nil (s ∷ ss) vs h g p c w = absurd (cc)
  kids-complete o (cons t ts) [] vs h g p c w = absurd (cc)
  kids-complete o (cons t ts) (s ∷ ss) vs h g p c w =
      let st = kid-stands spell o (fix spell t (first_places vs)) (fix_all spell ts (passed_by vs)) vs w in
      let q = fix-alike spell t (first_places vs) (ats s) g.0 in
      let a = h.0 s (and_left (pairs_ok t) (all_pairs_ok ts) p) (subst (λ (u : Tree). StandsAt spell u (ats s)) q (stands-alike spell (fix spell t (first_places vs)) (first_places vs) (ats s) g.0.there! st)) in
      let b = kids-complete o ts ss (passed_by vs) h.1 g.1 (and_right (pairs_ok t) (all_pairs_ok ts) p) (suc-same c) (kids-follow spell o (fix spell t (first_places vs)) (fix_all spell ts (passed_by vs)) vs w) in
      (a.0 ∷ b.0, ap₂ both_lists a.1 b.1)
    where
      suc-same : {i j : ℕ} → suc i ≡ suc j → i ≡ j
      suc-same e = cc

  -- what a node begins with
  begin-free : (o : Word) (ts : Forest) (ws : List Walk) (us : Forest) (B : List (List Word)) (N : List Word) (g : Place) (ps : List Part) → T (begins_ok ps) → T (short B) → us ≡ fix_all spell ts ws
      → ((t : Tree) (us' : Forest) → ts ≡ cons t us' → StandsAt spell (fix spell t (first_places ws)) (child_at g B N ps) × (1 ≤ length (tokens spell (fix spell t (first_places ws)))))
      → T (follows g o ps (children spell us)) → T (not (barred B (opening_of o N ps (opening_first spell ts)))) → T (not (barred B (fill o ps (tokens_all spell us) ++ N)))
  begin-free o nil ws us B N g ps b sh e l fo h =
      subst (λ (x : Forest). T (not (barred B (fill o ps (tokens_all spell x) ++ N)))) (sym e) (parts-alone spell g o B N ps b sh (subst (λ (x : Forest). T (follows g o ps (children spell x))) e fo) h)
  begin-free o (cons t ts) ws us B N g ps b sh e l fo h =
      let k = l t ts refl in
      subst (λ (x : Forest). T (not (barred B (fill o ps (tokens_all spell x) ++ N)))) (sym e)
      (parts-free spell o B N g ps t ts (fix_all spell ts (passed_by ws)) (fix spell t (first_places ws)) b sh (fix-dressed spell t (first_places ws)) k.0 k.1 h)

  -- ---- a node by its row

  module _ (k f a : ℕ) (ts : Forest) (q : Spot) (r : Row) (S : Standing k f (length_f ts) q r) where
    abbrev W : List Walk
    W = walks k f (length_f ts) (ats q)

    abbrev us : Forest
    us = fix_all spell ts W

    abbrev o : Word
    o = spell k a

    kids-len : length_f us ≡ length_f ts
    kids-len = length-dressed ts us (fix-all-dressed spell ts W)

    spots-len : length (spots_of r (length_f ts) q) ≡ kid_count (right_for (length_f ts) r.rule)
    spots-len = spots-count r.first q q.bars q.next (right_for (length_f ts) r.rule) (out-lists (length_f ts - singles r.rule.right) r.rule.right)

    -- its tokens
    node-tokens : tokens spell (node k f a us) ≡ fill o (right_for (length_f ts) r.rule) (tokens_all spell us)
    node-tokens = ap (λ (m : ℕ). fill o (right_of k f m) (tokens_all spell us)) kids-len ∙ fill-of k f (length_f ts) r.rule o (tokens_all spell us) (rule-in r S.inside) S.is-for

    -- derived at one of the places, and not beginning as it may not
    node-stands : Done spell k f (length_f ts) o ts W → T (number_ok k a) → Fine q → (q.bars ≡ []) ⊎ (barred q.bars (opening spell (node k f a ts) q.next) ≡ false) → StandsAt spell (node k f a us) (ats q)
    node-stands d n fi op =
        let w = d.walk in
        let x = kept k f (length_f ts) q r S w d.within in
        let fo = subst (λ (ps : List Part). T (follows w.at.place o ps (children spell us))) x.right-is d.follows! in
        record {
          place = w.at;
          within = subst (λ (z : At). Within z (ats q)) (sym x.at-is) (map-in (at_of q) x.symbol (members q.place) x.member);
          derived! = derives-by spell k f a us w.at.place (record {
            rule = x.rule;
            inside = x.inside;
            is-for = subst (λ (m : ℕ). T (is_for k f m x.rule)) (sym kids-len) x.is-for;
            reached = subst (λ (z : At). T (reaches z.place.symbol x.rule.left)) (sym x.at-is) x.reached;
            numbered = n;
            followed = subst (λ (m : ℕ). T (follows w.at.place o (right_for m x.rule) (children spell us))) (sym kids-len) fo;
          });
          free = free! x (is_bare x.symbol) refl fi op;
        }
      where
        clear : (bs : List (List Word)) (ws : List Word) → bs ≡ [] → T (not (barred bs ws))
        clear bs ws e = subst (λ (b : List (List Word)). T (not (barred b ws))) (sym e) tt

        free! : (x : Kept k f (length_f ts) q r S d.walk) → (b : Bool) → is_bare x.symbol ≡ b → Fine q → (q.bars ≡ []) ⊎ (barred q.bars (opening spell (node k f a ts) q.next) ≡ false) → T (not (barred d.walk.at.bars (tokens spell (node k f a us) ++ d.walk.at.next)))
        free! x true e fi op = clear d.walk.at.bars (tokens spell (node k f a us) ++ d.walk.at.next) (ap (λ (z : At). z.bars) x.at-is ∙ ap (λ (b : Bool). pick b [] q.bars) e)
        free! x false e (clear! c) op = clear d.walk.at.bars (tokens spell (node k f a us) ++ d.walk.at.next) (ap (λ (z : At). z.bars) x.at-is ∙ ap (λ (b : Bool). pick b [] q.bars) e ∙ c)
        free! x false e (flexed! sh fl) (inl c) = clear d.walk.at.bars (tokens spell (node k f a us) ++ d.walk.at.next) (ap (λ (z : At). z.bars) x.at-is ∙ ap (λ (b : Bool). pick b [] q.bars) e ∙ c)
        free! x false e (flexed! sh fl) (inr c) =
            let w = d.walk in
            let n = length_f ts in
            let bars! : w.at.bars ≡ q.bars = ap (λ (z : At). z.bars) x.at-is ∙ ap (λ (b : Bool). pick b [] q.bars) e in
            let next! : w.at.next ≡ q.next = ap (λ (z : At). z.next) x.at-is in
            let y = subst (λ (b : Bool). T (b || flexible x.symbol)) e (every-at (λ y. is_bare y || flexible y) x.symbol (members q.place) fl x.member) in
            let fx = flex-left x.symbol x.rule y (in-fam x.symbol x.rule x.inside x.reached) in
            let bg = begins-out (n - singles x.rule.right) x.rule.right ((row-ok x.rule x.inside).flex fx).begins in
            let op! = open-same k f n x.rule o q.next (opening_first spell ts) x.inside x.is-for in
            let tk = ap (λ (m : ℕ). fill o (right_of k f m) (tokens_all spell us)) kids-len ∙ fill-of k f n x.rule o (tokens_all spell us) x.inside x.is-for in
            let fo = subst (λ (ps : List Part). T (follows w.at.place o ps (children spell us))) x.right-is d.follows! in
            let r! = begin-free o ts W us q.bars q.next w.at.place (right_for n x.rule) bg sh refl
            (λ t us' z. let l = d.lead t us' z in (subst (λ (g : List At). StandsAt spell (fix spell t (first_places W)) g) (ap₂ {C = List At} (λ (b : List (List Word)) (m : List Word). child_at w.at.place b m w.right) bars! next! ∙ ap (child_at w.at.place q.bars q.next) x.right-is) l.0, l.1))
            fo (subst (λ (l : List Word). T (not (barred q.bars l))) op! (subst (λ (b : Bool). T (not b)) (sym c) tt)) in
            subst (λ (l : List Word). T (not (barred w.at.bars l))) (sym (ap₂ {C = List Word} (λ (l m : List Word). l ++ m) tk next!)) (subst (λ (b : List (List Word)). T (not (barred b (fill o (right_for n x.rule) (tokens_all spell us) ++ q.next)))) (sym bars!) r!)

    -- and from there back
    node-put : Follows spell o us W → T (all_pairs_ok ts) → CompleteAll ts → T (parts_ok o ts (right_for (length_f ts) r.rule)) × ((ls : List (List Word)) × (put_all spell ts (spots_of r (length_f ts) q) ≡ Some ls))
    node-put w p h =
        let x = kept k f (length_f ts) q r S w.walk w.within in
        let y = follows-parts spell w.walk.at.place o w.walk.right ts us (defaults-fixed spell ts W p) w.follows! in (
          subst T (parts-alike spell k f q o ts w.walk.right (right_for (length_f ts) r.rule) x.parts) y.0,
          kids-complete o ts (spots_of r (length_f ts) q) W h (row-fits k f (length_f ts) q r S) p (spots-len ∙ sym (count-alike spell k f q o w.walk.right (right_for (length_f ts) r.rule) x.parts) ∙ y.1 ∙ kids-len) w,
        )

  -- ---- in a pair, or not

  pub sides : (k f a : ℕ) (ts : Forest) (s : Spot) → AlikeWalks (stays spell k f a ts (ats s)) (walks k f (length_f ts) (ats (as_is spell (node k f a ts) s)))
  sides k f a ts s = walks-alike k f (length_f ts) (unbarred spell (node k f a ts) (ats s)) (ats (as_is spell (node k f a ts) s)) (here-alike spell (node k f a ts) s)

  some-walk : (ws : List Walk) (w : Walk) → Within w ws → none ws ≡ false
  some-walk ws w (here xs) = refl
  some-walk ws w (there x xs u) = refl

  no-walk : (ws : List Walk) → ((w : Walk) → Within w ws → ⊥) → none ws ≡ true
  no-walk [] h = refl
  no-walk (w ∷ ws) h = absurd (h w (here ws))

  and-false : (p q : Bool) → q ≡ false → (p && q) ≡ false
  and-false true q e = e
  and-false false q e = refl

  pub as-stays : (k f a : ℕ) (ts : Forest) (s : Spot) → lacks spell k f a ts (ats s) ≡ false → fix spell (node k f a ts) (ats s) ≡ node k f a (fix_all spell ts (stays spell k f a ts (ats s)))
  as-stays k f a ts s e = ap (λ (b : Bool). wrap b (node k f a (fix_all spell ts (pick b (walks k f (length_f ts) (inside (ats s))) (stays spell k f a ts (ats s)))))) e

  as-pair : (k f a : ℕ) (ts : Forest) (s : Spot) → lacks spell k f a ts (ats s) ≡ true → fix spell (node k f a ts) (ats s) ≡ pair (node k f a (fix_all spell ts (walks k f (length_f ts) (inside (ats s)))))
  as-pair k f a ts s e = ap (λ (b : Bool). wrap b (node k f a (fix_all spell ts (pick b (walks k f (length_f ts) (inside (ats s))) (stays spell k f a ts (ats s)))))) e

  -- no row, no walk
  never : (k f n : ℕ) (s : Spot) → stand k f n s ≡ None → (w : Walk) → Within w (walks k f n (ats s)) → ⊥
  never k f n s e w u = go (cases_lt s.place 53)
    where
      go : (s.place < 53) ⊎ (53 ≤ s.place) → ⊥
      go (inl l) = no-row k f n s l e w u
      go (inr h) = let o = walk-out k f n [] w (subst (λ (z : List Symbol). Within w (walks k f n (map (at_of s) z))) (beyond s.place h) u) in within-none o.at o.at-in

  lacks-none : (k f a : ℕ) (ts : Forest) (s : Spot) → stand k f (length_f ts) (as_is spell (node k f a ts) s) ≡ None → lacks spell k f a ts (ats s) ≡ in_pair k
  lacks-none k f a ts s e =
      ap (λ (b : Bool). in_pair k && b) (none-alike (stays spell k f a ts (ats s)) (walks k f (length_f ts) (ats (as_is spell (node k f a ts) s))) (sides k f a ts s) ∙ no-walk (walks k f (length_f ts) (ats (as_is spell (node k f a ts) s))) (never k f (length_f ts) (as_is spell (node k f a ts) s) e))
      ∙ and-true (in_pair k)
    where
      and-true : (b : Bool) → (b && true) ≡ b
      and-true true = refl
      and-true false = refl

  pub lacks-some : (k f a : ℕ) (ts : Forest) (s : Spot) (r : Row) → Standing k f (length_f ts) (as_is spell (node k f a ts) s) r → lacks spell k f a ts (ats s) ≡ false
  lacks-some k f a ts s r S =
      let w = row-walk k f (length_f ts) (as_is spell (node k f a ts) s) r S in
      and-false (in_pair k) (none (stays spell k f a ts (ats s))) (none-alike (stays spell k f a ts (ats s)) (walks k f (length_f ts) (ats (as_is spell (node k f a ts) s))) (sides k f a ts s) ∙ some-walk (walks k f (length_f ts) (ats (as_is spell (node k f a ts) s))) w.0 w.1)

  -- ---- a pair

  pair-tokens : (v : Tree) → tokens spell (pair v) ≡ codes "(" ∷ (tokens spell v ++ (codes ")" ∷ []))
  unfolding right_of rules
  pair-tokens v = refl

  record Inner (s q : Spot) : Type 0 where
    row : Row
    stands : Standing 41 0 1 s row
    seen : PairView 1 row.rule
    inside! : Alike (inside (ats s)) (ats q)
    clear : q.bars ≡ []

  inner-of : (s q : Spot) → inner s ≡ Some q → Inner s q
  inner-of s q e = go (stand 41 0 1 s) refl e
    where
      go : (x : Option Row) → stand 41 0 1 s ≡ x → elim x as (λ z. Option Spot) [ None ↦ None | Some r ↦ first_spot (spots_of r 1 s) ] ≡ Some q → Inner s q
      go None z e = absurd (cc)
      go (Some r) z e =
          let S = standing 41 0 1 s r z in
          let v = pair-seen 1 r.rule (rule-in r S.inside) (subst (λ (j : ℕ). T (is_paren j)) (sym (for-kind 41 0 1 r.rule S.is-for)) tt) in
          let sp = spots-view r.first s s.bars s.next (right_for 1 r.rule) ∙ ap (by_view r.first s s.bars s.next) v.viewed in
          let i = ap first_spot (sym sp) ∙ e in
          let f = subst (λ (ss : List Spot). Fits ss (walks 41 0 1 (ats s))) sp (row-fits 41 0 1 s r S) in
          record { row = r; stands = S; seen = v; inside! = subst (λ (x : Spot). Alike (inside (ats s)) (ats x)) (cc) f.0; clear = ap (λ (x : Option Spot). elim x as (λ z. List (List Word)) [ None ↦ [] | Some y ↦ y.bars ]) (sym i) }

  pair-stands : (s q : Spot) (v : Tree) → Fine s → Inner s q → StandsAt spell v (ats q) → StandsAt spell (pair v) (ats s)
  pair-stands s q v fi i st =
      let W41 = walks 41 0 1 (ats s) in
      let x = out-of spell v W41 (stands-alike spell v (ats q) (inside (ats s)) i.inside!.back st) in
      let w = x.0 in
      let y = kept 41 0 1 s i.row i.stands w x.1 in
      let z = pair-seen 1 y.rule y.inside (subst (λ (j : ℕ). T (is_paren j)) (sym (for-kind 41 0 1 y.rule y.is-for)) tt) in
      let d = viewed spell v w.at.place w.at.bars w.at.next w.right x.2 in
      let vw = ap view y.right-is ∙ z.viewed in
      let fo = build spell w.at.place (spell 41 0) w.at.bars w.at.next w.right v nil (looks-of spell 41 0 s (spell 41 0) 1 i.row i.stands w y) (d.is-long (subst (λ (ps : List Part). T (slots apart ps)) (sym y.right-is) (slots-of spell 1 y.rule y.inside)))
      (plain-heads spell w.at.place (spell 41 0) w.right (children spell (cons v nil)) (subst (λ (ps : List Part). T (plain_head ps)) (sym y.right-is) z.plain)) x.2
      (subst (λ (ps : List Part). T (follows w.at.place (spell 41 0) ps [])) (sym (behind-from nothing w.right token z.slot (word (codes ")") ∷ []) vw)) tt) in
      record {
        place = w.at;
        within = subst (λ (a : At). Within a (ats s)) (sym y.at-is) (map-in (at_of s) y.symbol (members s.place) y.member);
        derived! = derives-by spell 41 0 0 (cons v nil) w.at.place (record { rule = y.rule; inside = y.inside; is-for = y.is-for; reached = subst (λ (a : At). T (reaches a.place.symbol y.rule.left)) (sym y.at-is) y.reached; numbered = tt; followed = subst (λ (ps : List Part). T (follows w.at.place (spell 41 0) ps (children spell (cons v nil)))) y.right-is fo });
        free = free! fi (is_bare y.symbol) w.at y.symbol refl y.at-is;
      }
    where
      clear : (bs : List (List Word)) (ws : List Word) → bs ≡ [] → T (not (barred bs ws))
      clear bs ws e = subst (λ (b : List (List Word)). T (not (barred b ws))) (sym e) tt

      free! : Fine s → (b : Bool) (a : At) (y : Symbol) → is_bare y ≡ b → a ≡ at_of s y → T (not (barred a.bars (tokens spell (pair v) ++ a.next)))
      free! fi true a y e h = clear a.bars (tokens spell (pair v) ++ a.next) (ap (λ (z : At). z.bars) h ∙ ap (λ (b : Bool). pick b [] s.bars) e)
      free! (clear! c) false a y e h = clear a.bars (tokens spell (pair v) ++ a.next) (ap (λ (z : At). z.bars) h ∙ ap (λ (b : Bool). pick b [] s.bars) e ∙ c)
      free! (flexed! sh fl) false a y e h =
          let b! : a.bars ≡ s.bars = ap (λ (z : At). z.bars) h ∙ ap (λ (b : Bool). pick b [] s.bars) e in
          subst (λ (l : List Word). T (not (barred a.bars (l ++ a.next)))) (sym (pair-tokens v)) (open-free a.bars ((tokens spell v ++ (codes ")" ∷ [])) ++ a.next) (subst (λ (b : List (List Word)). T (short b)) (sym b!) sh))

  -- ---- all of it

  pub node-sound : (k f a : ℕ) (ts : Forest) (q : Spot) (r : Row) → Standing k f (length_f ts) q r → Fine q → (q.bars ≡ []) ⊎ (barred q.bars (opening spell (node k f a ts) q.next) ≡ false) → SoundAll ts → T (all_pairs_ok ts) → T (number_ok k a)
      → T (parts_ok (spell k a) ts (right_for (length_f ts) r.rule)) → (ls : List (List Word)) → put_all spell ts (spots_of r (length_f ts) q) ≡ Some ls
      → StandsAt spell (node k f a (fix_all spell ts (walks k f (length_f ts) (ats q)))) (ats q) × (tokens spell (node k f a (fix_all spell ts (walks k f (length_f ts) (ats q)))) ≡ fill (spell k a) (right_for (length_f ts) r.rule) ls)
  node-sound k f a ts q r S fi op h p n pk ls e =
      let W = walks k f (length_f ts) (ats q) in
      let b = kids-sound ts (spots_of r (length_f ts) q) W ls h (fine-row k f (length_f ts) q r S fi) (row-fits k f (length_f ts) q r S) p e in
      let d = right-done spell k f q (spell k a) ts r S p pk (sym (spots-len k f a ts q r S) ∙ b.count) b.stand! in
      (node-stands k f a ts q r S d n fi op, node-tokens k f a ts q r S ∙ ap (fill (spell k a) (right_for (length_f ts) r.rule)) b.are)

  sound-node : (k f a : ℕ) (ts : Forest) → SoundAll ts → (s : Spot) → Fine s → T (pairs_ok (node k f a ts)) → T (all_pairs_ok ts) → (ws : List Word) → put spell (node k f a ts) s ≡ Some ws
      → StandsAt spell (fix spell (node k f a ts) (ats s)) (ats s) × (ws ≡ tokens spell (fix spell (node k f a ts) (ats s)))
  sound-node k f a ts h s fi pp p ws e = go (was-put k f a ts s ws e)
    where
      N : Tree
      N = node k f a ts

      go : Was k f a ts s ws → StandsAt spell (fix spell (node k f a ts) (ats s)) (ats s) × (ws ≡ tokens spell (fix spell (node k f a ts) (ats s)))
      go w = by (chose k f a ts s w.choice! w.chose!)
        where
          by : Chose spell k f a ts s w.choice! → StandsAt spell (fix spell (node k f a ts) (ats s)) (ats s) × (ws ≡ tokens spell (fix spell (node k f a ts) (ats s)))
          by (plainly r z c) =
              let q = as_is spell (node k f a ts) s in
              let S = standing k f (length_f ts) q r z in
              let hf = here-fine spell (node k f a ts) s fi in
              let x = node-sound k f a ts q r S hf.0 hf.1 h p w.number (subst (λ (y : Choice). T (parts_ok (spell k a) ts (right_for (length_f ts) y.row.rule))) c w.parts) w.lists (ap (λ (y : Choice). put_all spell ts (spots_of y.row (length_f ts) y.spot)) (sym c) ∙ w.kids) in
              let fx = as-stays k f a ts s (lacks-some k f a ts s r S) ∙ ap (node k f a) (fix-all-alike spell ts (stays spell k f a ts (ats s)) (walks k f (length_f ts) (ats q)) (sides k f a ts s)) in
              let st = stands-alike spell (node k f a (fix_all spell ts (walks k f (length_f ts) (ats q)))) (ats q) (unbarred spell (node k f a ts) (ats s)) (here-alike spell (node k f a ts) s).back x.0 in
              let up : StandsAt spell (node k f a (fix_all spell ts (walks k f (length_f ts) (ats q)))) (ats s) = record { place = st.place; within = (passing-out (λ b. not (barred b.bars (opening spell (node k f a ts) b.next))) st.place (ats s) st.within).0; derived! = st.derived!; free = st.free } in (
                subst (λ (t : Tree). StandsAt spell t (ats s)) (sym fx) up,
                w.is ∙ ap (λ (y : Choice). around y.paired (fill (spell k a) (right_for (length_f ts) y.row.rule) w.lists)) c ∙ sym x.1 ∙ ap (tokens spell) (sym fx),
              )
          by (in-pair q r z ip iq y c) =
              let S = standing k f (length_f ts) q r y in
              let i = inner-of s q iq in
              let x = node-sound k f a ts q r S (clear! i.clear) (inl i.clear) h p w.number (subst (λ (y : Choice). T (parts_ok (spell k a) ts (right_for (length_f ts) y.row.rule))) c w.parts) w.lists (ap (λ (y : Choice). put_all spell ts (spots_of y.row (length_f ts) y.spot)) (sym c) ∙ w.kids) in
              let v = node k f a (fix_all spell ts (walks k f (length_f ts) (ats q))) in
              let fx = as-pair k f a ts s (lacks-none k f a ts s z ∙ ip) ∙ ap (λ (us : Forest). pair (node k f a us)) (fix-all-alike spell ts (walks k f (length_f ts) (inside (ats s))) (walks k f (length_f ts) (ats q)) (walks-alike k f (length_f ts) (inside (ats s)) (ats q) i.inside!)) in (
                subst (λ (t : Tree). StandsAt spell t (ats s)) (sym fx) (pair-stands s q v fi i x.0),
                w.is ∙ ap (λ (y : Choice). around y.paired (fill (spell k a) (right_for (length_f ts) y.row.rule) w.lists)) c ∙ ap (around true) (sym x.1) ∙ sym (pair-tokens v) ∙ ap (tokens spell) (sym fx),
              )

  mutual
    pub sound! : (t : Tree) → Sound t
    sound! (node k f a ts) s fi pp ws e = sound-node k f a ts (sound-all ts) s fi pp (and_right (not (is_paren k) || (eqb f 0 && eqb a 0 && one_expression ts)) (all_pairs_ok ts) pp) ws e

    pub sound-all : (ts : Forest) → SoundAll ts
    sound-all nil = tt
    sound-all (cons t ts) = (sound! t, sound-all ts)

  -- a walk that is followed, among walks alike
  follows-alike : (o : Word) (us : Forest) (vs ws : List Walk) → AlikeWalks vs ws → Follows spell o us vs → Follows spell o us ws
  follows-alike o us vs ws g f =
      let x = g.there! f.walk f.within in
      let v = f.walk in
      let w = x.walk in
      record {
        walk = w;
        within = x.within;
        follows! = subst (λ (ps : List Part). T (follows w.at.place o ps (children spell us))) x.right (subst (λ (p : Place). T (follows p o v.right (children spell us))) x.near.place f.follows!);
        free = subst (λ (b : Bool). T (not b)) (near-barred v.at w.at (λ n. fill o w.right (tokens_all spell us) ++ n) x.near) (subst (λ (ps : List Part). T (not (barred v.at.bars (fill o ps (tokens_all spell us) ++ v.at.next)))) x.right f.free);
      }

  numbered-by : (k f a : ℕ) (us : Forest) (ss : List At) → StandsAt spell (node k f a us) ss → T (number_ok k a)
  numbered-by k f a us ss st = (derived spell k f a us st.place.place st.derived!).numbered

  complete-node : (k f a : ℕ) (ts : Forest) → CompleteAll ts → (s : Spot) → T (all_pairs_ok ts) → StandsAt spell (fix spell (node k f a ts) (ats s)) (ats s) → (ws : List Word) × (put spell (node k f a ts) s ≡ Some ws)
  complete-node k f a ts h s p st = go (stand k f (length_f ts) (as_is spell (node k f a ts) s)) refl
    where
      len : (ws : List Walk) → length_f (fix_all spell ts ws) ≡ length_f ts
      len ws = length-dressed ts (fix_all spell ts ws) (fix-all-dressed spell ts ws)

      -- not in a pair
      plain-follows : lacks spell k f a ts (ats s) ≡ false → Follows spell (spell k a) (fix_all spell ts (stays spell k f a ts (ats s))) (stays spell k f a ts (ats s)) × T (number_ok k a)
      plain-follows e =
          let st' = subst (λ (t : Tree). StandsAt spell t (ats s)) (as-stays k f a ts s e) st in
          let us = fix_all spell ts (stays spell k f a ts (ats s)) in
          (stays-follows spell k f a ts us (ats s) (len (stays spell k f a ts (ats s))) (first-dressed spell ts us (fix-all-dressed spell ts (stays spell k f a ts (ats s)))) st', numbered-by k f a us (ats s) st')

      same! : (vs ws : List Walk) → AlikeWalks vs ws → Follows spell (spell k a) (fix_all spell ts vs) vs → Follows spell (spell k a) (fix_all spell ts ws) ws
      same! vs ws g f = subst (λ (us : Forest). Follows spell (spell k a) us ws) (fix-all-alike spell ts vs ws g) (follows-alike (spell k a) (fix_all spell ts vs) vs ws g f)

      stand-some : (r : Row) → stand k f (length_f ts) (as_is spell (node k f a ts) s) ≡ Some r → (ws : List Word) × (put spell (node k f a ts) s ≡ Some ws)
      stand-some r z =
          let q = as_is spell (node k f a ts) s in
          let S = standing k f (length_f ts) q r z in
          let x = plain-follows (lacks-some k f a ts s r S) in
          let y = node-put k f a ts q r S (same! (stays spell k f a ts (ats s)) (walks k f (length_f ts) (ats q)) (sides k f a ts s) x.0) p h in
          (around false (fill (spell k a) (right_for (length_f ts) r.rule) y.1.0), is-put k f a ts s (record { row = r; spot = q; paired = false }) y.1.0 (choose-plainly k f a ts s r z) x.1 y.0 y.1.1)

      no-pair : stand k f (length_f ts) (as_is spell (node k f a ts) s) ≡ None → in_pair k ≡ false → ⊥
      no-pair z ip =
          let x = plain-follows (lacks-none k f a ts s z ∙ ip) in
          let y = follows-alike (spell k a) (fix_all spell ts (stays spell k f a ts (ats s))) (stays spell k f a ts (ats s)) (walks k f (length_f ts) (ats (as_is spell (node k f a ts) s))) (sides k f a ts s) x.0 in
          never k f (length_f ts) (as_is spell (node k f a ts) s) z y.walk y.within

      paired-follows : stand k f (length_f ts) (as_is spell (node k f a ts) s) ≡ None → in_pair k ≡ true → StandsAt spell (node k f a (fix_all spell ts (walks k f (length_f ts) (inside (ats s))))) (inside (ats s))
      paired-follows z ip = inside-stands spell (node k f a (fix_all spell ts (walks k f (length_f ts) (inside (ats s))))) (ats s) (subst (λ (t : Tree). StandsAt spell t (ats s)) (as-pair k f a ts s (lacks-none k f a ts s z ∙ ip)) st)

      in-follows : (q : Spot) → Inner s q → stand k f (length_f ts) (as_is spell (node k f a ts) s) ≡ None → in_pair k ≡ true → Follows spell (spell k a) (fix_all spell ts (walks k f (length_f ts) (ats q))) (walks k f (length_f ts) (ats q)) × T (number_ok k a)
      in-follows q i z ip =
          let st' = paired-follows z ip in
          let V = walks k f (length_f ts) (inside (ats s)) in
          let us = fix_all spell ts V in
          (same! V (walks k f (length_f ts) (ats q)) (walks-alike k f (length_f ts) (inside (ats s)) (ats q) i.inside!) (inside-follows spell k f a us (inside (ats s)) (length_f ts) (len V) st'), numbered-by k f a us (inside (ats s)) st')

      with-row : (q : Spot) → inner s ≡ Some q → stand k f (length_f ts) (as_is spell (node k f a ts) s) ≡ None → in_pair k ≡ true → (x : Option Row) → stand k f (length_f ts) q ≡ x → (ws : List Word) × (put spell (node k f a ts) s ≡ Some ws)
      with-row q iq z ip None y = let f! = (in-follows q (inner-of s q iq) z ip).0 in absurd (never k f (length_f ts) q y f!.walk f!.within)
      with-row q iq z ip (Some r) y =
          let S = standing k f (length_f ts) q r y in
          let x = in-follows q (inner-of s q iq) z ip in
          let w = node-put k f a ts q r S x.0 p h in
          (around true (fill (spell k a) (right_for (length_f ts) r.rule) w.1.0), is-put k f a ts s (record { row = r; spot = q; paired = true }) w.1.0 (choose-paired k f a ts s q r z ip iq y) x.1 w.0 w.1.1)

      with-inner : (x : Option Spot) → inner s ≡ x → stand k f (length_f ts) (as_is spell (node k f a ts) s) ≡ None → in_pair k ≡ true → (ws : List Word) × (put spell (node k f a ts) s ≡ Some ws)
      with-inner None i z ip = absurd (none-inside (stand 41 0 1 s) refl i)
        where
          none-inside : (x : Option Row) → stand 41 0 1 s ≡ x → elim x as (λ z. Option Spot) [ None ↦ None | Some r ↦ first_spot (spots_of r 1 s) ] ≡ None → ⊥
          none-inside None y e = let w = out-of spell (node k f a (fix_all spell ts (walks k f (length_f ts) (inside (ats s))))) (walks 41 0 1 (ats s)) (paired-follows z ip) in never 41 0 1 s y w.0 w.1
          none-inside (Some r) y e =
              let S = standing 41 0 1 s r y in
              let v = pair-seen 1 r.rule (rule-in r S.inside) (subst (λ (j : ℕ). T (is_paren j)) (sym (for-kind 41 0 1 r.rule S.is-for)) tt) in
              let sp = spots-view r.first s s.bars s.next (right_for 1 r.rule) ∙ ap (by_view r.first s s.bars s.next) v.viewed in
              absurd (some-none (ap first_spot (sym sp) ∙ e))
            where
              some-none : {A : Type 0} {x : A} → Some x ≡ None → ⊥
              some-none e = absurd (cc)
      with-inner (Some q) i z ip = with-row q i z ip (stand k f (length_f ts) q) refl

      by-pair : (b : Bool) → in_pair k ≡ b → stand k f (length_f ts) (as_is spell (node k f a ts) s) ≡ None → (ws : List Word) × (put spell (node k f a ts) s ≡ Some ws)
      by-pair true ip z = with-inner (inner s) refl z ip
      by-pair false ip z = absurd (no-pair z ip)

      go : (x : Option Row) → stand k f (length_f ts) (as_is spell (node k f a ts) s) ≡ x → (ws : List Word) × (put spell (node k f a ts) s ≡ Some ws)
      go (Some r) z = stand-some r z
      go None z = by-pair (in_pair k) refl z

  mutual
    pub complete! : (t : Tree) → Complete t
    complete! (node k f a ts) s pp st = complete-node k f a ts (complete-all ts) s (and_right (not (is_paren k) || (eqb f 0 && eqb a 0 && one_expression ts)) (all_pairs_ok ts) pp) st

    complete-all : (ts : Forest) → CompleteAll ts
    complete-all nil = tt
    complete-all (cons t ts) = (complete! t, complete-all ts)

-- ---- the script

pub start-alike : ats start_spot ≡ start ∷ []
unfolding members
start-alike = refl
