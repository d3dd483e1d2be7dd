-- A right side whose children stand at their spots is followed, and one that is followed has such children. Assumes nothing.
use mathlib.Core.Path.{◌≡◌, refl, sym, ap, ap₂, ◌∙◌, subst}
use mathlib.Core.Bool.{Bool, not}
use mathlib.Core.List.{List, [], ◌∷◌}
use Prim.Native.Nat.{ℕ, suc, ◌-◌, ◌≤◌}
use lib.Dec.{T}
use lib.ListN.{length}
use Rattle.def_tree.specs.Tree.{Tree, Forest, nil, cons, length_f}
use Rattle.def_text.specs.Words.{Word}
use Rattle.def_text.specs.Grammar.{Script, Place, Slot, at_slot, by_mode, Part, word, own, kid, run, commas, more, look, if_has, if_not, one_default, right_for, singles}
use Rattle.def_text.specs.Derives.{has, follows, tokens, children}
use Rattle.def_text.specs.Print.{At, bars_for, Walk, follow, child_at, first_places, passed_by, asked, walks, fix, fix_all}
use Rattle.laws_text.specs.Claims.{pairs_ok, all_pairs_ok}
use Rattle.laws_text.proofs.Basics.{and_right, Within}
use Rattle.laws_text.proofs.Fit.{slots, no_script, slots-of}
use Rattle.laws_text.proofs.Least.{StandsAt, onward, onward-in}
use Rattle.laws_text.proofs.Alike.{Before, nothing, looked, after_token, View, no_child, first, view_from, view}
use Rattle.laws_text.proofs.Kids.{Params, params-sym, params-trans, bars_by, next_by, place_by, child-view, behind-from, looks-at, looks_ok, HeadOk, build, first-out, within-none}
use Rattle.laws_text.proofs.Feeds.{long, slots-view, only-one, plain-heads}
use Rattle.laws_text.proofs.Facts.{row-ok}
use Rattle.laws_text.proofs.Site.{looks-out}
use Rattle.text_table.specs.Rows.{Row}
use Rattle.text_table.specs.Put.{Spot, symbol_at, ats, parts_ok}
use Rattle.laws_put.proofs.Fits.{Even, EvenWalk, even-behind}
use Rattle.laws_put.proofs.Parts.{kid_count, view-count, view-parts, parts-behind, Defaults, head-ok, follows-nil, defaults-fixed}
use Rattle.laws_put.proofs.Rows.{Standing, asked-params, row-walk, row-after, Kept, kept, SameParts, equal!, twins! }

-- ---- what is behind the first child has what the whole has

pub asked-view : (g : Place) (h i : Before) (ps : List Part) (x : Slot) (t : List Part) → view_from h ps ≡ first i x t → T (asked g ps) → T (asked g t)
asked-view g h i [] x t e a = absurd (cc)
asked-view g h i (word w ∷ ps) x t e a = asked-view g (after_token h) i ps x t e a
asked-view g h i (own o ∷ ps) x t e a = asked-view g (after_token h) i ps x t e a
asked-view g h i (kid y ∷ ps) x t e a = let q : ps ≡ t = cc in subst (λ (z : List Part). T (asked g z)) q a
asked-view g h i (run y ∷ ps) x t e a = absurd (cc)
asked-view g h i (commas y ∷ ps) x t e a = absurd (cc)
asked-view g h i (more y ∷ ps) x t e a = absurd (cc)
asked-view g h i (look cs ∷ ps) x t e a = asked-view g (looked cs) i ps x t e a
asked-view g h i (if_has p ∷ ps) x t e a = asked-view g h i ps x t e (and_right (has p g) (asked g ps) a)
asked-view g h i (if_not p ∷ ps) x t e a = asked-view g h i ps x t e (and_right (not (has p g)) (asked g ps) a)
asked-view g h i (one_default ∷ ps) x t e a = asked-view g h i ps x t e a

looks-view : (h i : Before) (ps : List Part) (x : Slot) (t : List Part) → view_from h ps ≡ first i x t → T (looks_ok ps) → T (looks_ok t)
looks-view h i [] x t e a = absurd (cc)
looks-view h i (word w ∷ ps) x t e a = looks-view (after_token h) i ps x t e a
looks-view h i (own o ∷ ps) x t e a = looks-view (after_token h) i ps x t e a
looks-view h i (kid y ∷ ps) x t e a = let q : ps ≡ t = cc in subst (λ (z : List Part). T (looks_ok z)) q a
looks-view h i (run y ∷ ps) x t e a = absurd (cc)
looks-view h i (commas y ∷ ps) x t e a = absurd (cc)
looks-view h i (more y ∷ ps) x t e a = absurd (cc)
looks-view h i (look cs ∷ ps) x t e a = looks-view (looked cs) i ps x t e (and_right (looks-at cs ps) (looks_ok ps) a)
looks-view h i (if_has p ∷ ps) x t e a = looks-view h i ps x t e a
looks-view h i (if_not p ∷ ps) x t e a = looks-view h i ps x t e a
looks-view h i (one_default ∷ ps) x t e a = looks-view h i ps x t e a

slots-tail : (p : Slot → Bool) (h i : Before) (ps : List Part) (x : Slot) (t : List Part) → view_from h ps ≡ first i x t → T (slots p ps) → T (slots p t)
slots-tail p h i [] x t e a = absurd (cc)
slots-tail p h i (word w ∷ ps) x t e a = slots-tail p (after_token h) i ps x t e a
slots-tail p h i (own o ∷ ps) x t e a = slots-tail p (after_token h) i ps x t e a
slots-tail p h i (kid y ∷ ps) x t e a = let q : ps ≡ t = cc in subst (λ (z : List Part). T (slots p z)) q (and_right (p y) (slots p ps) a)
slots-tail p h i (run y ∷ ps) x t e a = absurd (cc)
slots-tail p h i (commas y ∷ ps) x t e a = absurd (cc)
slots-tail p h i (more y ∷ ps) x t e a = absurd (cc)
slots-tail p h i (look cs ∷ ps) x t e a = slots-tail p (looked cs) i ps x t e a
slots-tail p h i (if_has q ∷ ps) x t e a = slots-tail p h i ps x t e a
slots-tail p h i (if_not q ∷ ps) x t e a = slots-tail p h i ps x t e a
slots-tail p h i (one_default ∷ ps) x t e a = slots-tail p h i ps x t e a

suc-same : {i j : ℕ} → suc i ≡ suc j → i ≡ j
suc-same e = cc

slot-same : (g h : Place) (x : Slot) → Params g h → at_slot g x ≡ at_slot h x
slot-same g h x p =
    ap (λ (b : Bool). record { symbol = x.symbol; has_in = by_mode x.in_mode b; has_return = by_mode x.return_mode g.has_return; has_else = by_mode x.else_mode g.has_else }) p.ins
    ∙ ap (λ (b : Bool). record { symbol = x.symbol; has_in = by_mode x.in_mode h.has_in; has_return = by_mode x.return_mode b; has_else = by_mode x.else_mode g.has_else }) p.returns
    ∙ ap (λ (b : Bool). record { symbol = x.symbol; has_in = by_mode x.in_mode h.has_in; has_return = by_mode x.return_mode h.has_return; has_else = by_mode x.else_mode b }) p.elses

abbrev pub apart : Slot → Bool
apart x = no_script x.symbol

module _ (spell : ℕ → ℕ → Word) where
  -- where a first child stands there is one
  pub record Viewed (u : Tree) (g : Place) (B : List (List Word)) (N : List Word) (ps : List Part) : Type 0 where
    pub before : Before
    pub slot : Slot
    pub tail : List Part
    pub viewed : view ps ≡ first before slot tail
    pub stands : StandsAt spell u (place_by g B N (first before slot tail))
    pub is-long : T (slots apart ps) → 1 ≤ length (tokens spell u)

  viewed-by : (u : Tree) (g : Place) (B : List (List Word)) (N : List Word) (ps : List Part) (v : View) → view ps ≡ v → StandsAt spell u (place_by g B N v) → Viewed u g B N ps
  viewed-by u g B N ps no_child e st = within-none st.place st.within
  viewed-by u g B N ps (first h x t) e st = record {
    before = h;
    slot = x;
    tail = t;
    viewed = e;
    stands = st;
    is-long = λ k.
        let i = only-one st.place (record { place = at_slot g x; bars = bars_for x.symbol (bars_by h B); next = follow t (next_by h N) }) st.within in
        long spell g [] u st.place.place (subst (λ (z : At). T (no_script z.place.symbol)) (sym i) (slots-view apart nothing h ps x t e k)) st.derived!;
  }

  pub viewed : (u : Tree) (g : Place) (B : List (List Word)) (N : List Word) (ps : List Part) → StandsAt spell u (child_at g B N ps) → Viewed u g B N ps
  viewed u g B N ps st = viewed-by u g B N ps (view ps) refl (subst (λ (z : List At). StandsAt spell u z) (child-view g B N ps) st)

  -- the children stand, each at one of its places
  abbrev pub KidsStand : Forest → List Walk → Type 0
  KidsStand nil vs = Unit {0}
  KidsStand (cons t ts) vs = StandsAt spell (fix spell t (first_places vs)) (first_places vs) × KidsStand ts (passed_by vs)

  -- from one walk along a right side to another
  move : (s : Spot) (bs : List (List Word)) (ps : List Part) (v w : Walk) (u : Tree) → EvenWalk s bs ps v → EvenWalk s bs ps w → StandsAt spell u (child_at v.at.place v.at.bars v.at.next v.right) → StandsAt spell u (child_at w.at.place w.at.bars w.at.next ps)
  move s bs ps v w u a b st =
      let d = viewed u v.at.place v.at.bars v.at.next ps (subst (λ (z : List Part). StandsAt spell u (child_at v.at.place v.at.bars v.at.next z)) a.right st) in
      let h = d.before in
      let x = d.slot in
      let t = d.tail in
      let p : at_slot v.at.place x ≡ at_slot w.at.place x = slot-same v.at.place w.at.place x (params-trans v.at.place (symbol_at s Script) w.at.place a.at-spot.params (params-sym w.at.place (symbol_at s Script) b.at-spot.params)) in
      let c = a.bars h x t d.viewed ∙ sym (b.bars h x t d.viewed) in
      let n = a.at-spot.next ∙ sym b.at-spot.next in
      let e = ap₂ {C = At} (λ (g : Place) (B : List (List Word)). record { place = g; bars = bars_for x.symbol B; next = follow t (next_by h v.at.next) }) p c ∙ ap (λ (m : List Word). record { place = at_slot w.at.place x; bars = bars_for x.symbol (bars_by h w.at.bars); next = follow t (next_by h m) }) n in
      let q = subst (λ (z : At). StandsAt spell u (z ∷ [])) e d.stands in
      subst (λ (z : List At). StandsAt spell u z) (sym (child-view w.at.place w.at.bars w.at.next ps ∙ ap (place_by w.at.place w.at.bars w.at.next) d.viewed)) q

  pub out-of : (u : Tree) (vs : List Walk) → StandsAt spell u (first_places vs) → (v : Walk) × Within v vs × StandsAt spell u (child_at v.at.place v.at.bars v.at.next v.right)
  out-of u vs st = let o = first-out st.place vs st.within in (o.walk, o.within, record { place = st.place; within = o.child; derived! = st.derived!; free = st.free })

  pub tail-follows : (s : Spot) (o : Word) (ts : Forest) (bs : List (List Word)) (ps : List Part) (vs : List Walk) → Even s bs ps vs → T (asked (symbol_at s Script) ps) → T (parts_ok o ts ps) → T (looks_ok ps) → T (slots apart ps) → kid_count ps ≡ length_f ts → T (all_pairs_ok ts) → KidsStand ts vs
      → (v : Walk) → Within v vs → T (follows v.at.place o ps (children spell (fix_all spell ts vs)))
  tail-follows s o nil bs ps vs e a k l z c p ks v w = follows-nil spell v.at.place o ps (asked-params (symbol_at s Script) v.at.place ps (params-sym v.at.place (symbol_at s Script) (e.each v w).at-spot.params) a) k l c
  tail-follows s o (cons t ts) bs ps vs e a k l z c p ks v w =
      let u = fix spell t (first_places vs) in
      let us = fix_all spell ts (passed_by vs) in
      let f = out-of u vs ks.0 in
      let st = move s bs ps f.0 v u (e.each f.0 f.1) (e.each v w) f.2 in
      let d = viewed u v.at.place v.at.bars v.at.next ps st in
      let g = v.at.place in
      let ha = asked-params (symbol_at s Script) g ps (params-sym g (symbol_at s Script) (e.each v w).at-spot.params) a in
      let rest = tail-follows s o ts [] d.tail (passed_by vs) (even-behind s bs d.before d.slot d.tail ps vs d.viewed e) (asked-view (symbol_at s Script) nothing d.before ps d.slot d.tail d.viewed a)
      (parts-behind o (cons t ts) nothing d.before ps d.slot d.tail d.viewed k) (looks-view nothing d.before ps d.slot d.tail d.viewed l) (slots-tail apart nothing d.before ps d.slot d.tail d.viewed z)
      (suc-same (sym (view-count nothing d.before ps d.slot d.tail d.viewed) ∙ c)) (and_right (pairs_ok t) (all_pairs_ok ts) p) ks.1 (onward v) (onward-in v vs w) in
      build spell g o v.at.bars v.at.next ps u us l (d.is-long z) (head-ok spell g o ps (cons t ts) (cons u us) (defaults-fixed spell (cons t ts) vs p) ha k) st
      (subst (λ (q : List Part). T (follows g o q (children spell us))) (sym (behind-from nothing ps d.before d.slot d.tail d.viewed)) rest)

  -- ---- a row's right side

  -- a walk that is followed, and its first child
  pub record Done (k f n : ℕ) (o : Word) (ts : Forest) (ws : List Walk) : Type 0 where
    pub walk : Walk
    pub within : Within walk ws
    pub follows! : T (follows walk.at.place o walk.right (children spell (fix_all spell ts ws)))
    pub lead : (t : Tree) (us : Forest) → ts ≡ cons t us → StandsAt spell (fix spell t (first_places ws)) (child_at walk.at.place walk.at.bars walk.at.next walk.right) × (1 ≤ length (tokens spell (fix spell t (first_places ws))))

  module _ (k f : ℕ) (s : Spot) (o : Word) where
    pub parts-alike : (ts : Forest) (ps qs : List Part) → SameParts ps qs → parts_ok o ts ps ≡ parts_ok o ts qs
    parts-alike ts ps qs (equal! e) = ap (parts_ok o ts) e
    parts-alike ts ps qs (twins! i j y z u g h a b) = view-parts o ts nothing i ps y u g a ∙ sym (view-parts o ts nothing j qs z u h b)

    pub count-alike : (ps qs : List Part) → SameParts ps qs → kid_count ps ≡ kid_count qs
    count-alike ps qs (equal! e) = ap kid_count e
    count-alike ps qs (twins! i j y z u g h a b) = view-count nothing i ps y u a ∙ sym (view-count nothing j qs z u b)

    pub looks-of : (n : ℕ) (r : Row) (S : Standing k f n s r) (w : Walk) → Kept k f n s r S w → T (looks_ok w.right)
    looks-of n r S w q = subst (λ (z : List Part). T (looks_ok z)) (sym q.right-is) (looks-out (n - singles q.rule.right) q.rule.right (row-ok q.rule q.inside).looks)

    row-view : (ps qs : List Part) → SameParts ps qs → (i : Before) (y : Slot) (u : List Part) → view ps ≡ first i y u → (j : Before) × (z : Slot) × (view qs ≡ first j z u)
    row-view ps qs (equal! e) i y u v = (i, y, ap view (sym e) ∙ v)
    row-view ps qs (twins! i' j' y' z' u' g h a b) i y u v = let e : u' ≡ u = same-tail (sym a ∙ v) in (j', z', b ∙ ap (first j' z') e)
      where
        same-tail : first i' y' u' ≡ first i y u → u' ≡ u
        same-tail e = cc

    heads! : (ts us : Forest) (g : Place) (ps qs : List Part) → SameParts ps qs → Defaults spell ts us → T (asked g ps) → T (parts_ok o ts qs) → HeadOk spell g o ps (children spell us)
    heads! ts us g ps qs (equal! e) d a k = head-ok spell g o ps ts us d a (subst (λ (z : List Part). T (parts_ok o ts z)) (sym e) k)
    heads! ts us g ps qs (twins! i j y z u x h b c) d a k = plain-heads spell g o ps (children spell us) x

    pub right-done : (ts : Forest) (r : Row) (S : Standing k f (length_f ts) s r) → T (all_pairs_ok ts) → T (parts_ok o ts (right_for (length_f ts) r.rule)) → kid_count (right_for (length_f ts) r.rule) ≡ length_f ts
        → KidsStand ts (walks k f (length_f ts) (ats s)) → Done k f (length_f ts) o ts (walks k f (length_f ts) (ats s))
    right-done nil r S p pk c ks =
        let W = walks k f 0 (ats s) in
        let w = row-walk k f 0 s r S in
        let q = kept k f 0 s r S w.0 w.1 in
        record {
          walk = w.0;
          within = w.1;
          follows! = follows-nil spell w.0.at.place o w.0.right q.asks (subst T (sym (parts-alike nil w.0.right (right_for 0 r.rule) q.parts)) pk) (looks-of 0 r S w.0 q) (count-alike w.0.right (right_for 0 r.rule) q.parts ∙ c);
          lead = λ t us e. absurd (cc);
        }
    right-done (cons t ts) r S p pk c ks =
        let n = suc (length_f ts) in
        let W = walks k f n (ats s) in
        let u = fix spell t (first_places W) in
        let us = fix_all spell ts (passed_by W) in
        let x = out-of u W ks.0 in
        let w = x.0 in
        let q = kept k f n s r S w x.1 in
        let d = viewed u w.at.place w.at.bars w.at.next w.right x.2 in
        let v = row-view w.right (right_for n r.rule) q.parts d.before d.slot d.tail d.viewed in
        let z = subst (λ (y : List Part). T (slots apart y)) (sym q.right-is) (slots-of spell n q.rule q.inside) in
        let l = looks-of n r S w q in
        let rest = tail-follows s o ts [] d.tail (passed_by W) (row-after k f n s r S v.0 v.1 d.tail v.2) (asked-view (symbol_at s Script) nothing v.0 (right_for n r.rule) v.1 d.tail v.2 S.asks)
        (parts-behind o (cons t ts) nothing v.0 (right_for n r.rule) v.1 d.tail v.2 pk) (looks-view nothing d.before w.right d.slot d.tail d.viewed l) (slots-tail apart nothing d.before w.right d.slot d.tail d.viewed z)
        (suc-same (sym (view-count nothing v.0 (right_for n r.rule) v.1 d.tail v.2) ∙ c)) (and_right (pairs_ok t) (all_pairs_ok ts) p) ks.1 (onward w) (onward-in w W x.1) in
        record {
          walk = w;
          within = x.1;
          follows! = build spell w.at.place o w.at.bars w.at.next w.right u us l (d.is-long z) (heads! (cons t ts) (cons u us) w.at.place w.right (right_for n r.rule) q.parts (defaults-fixed spell (cons t ts) W p) q.asks pk) x.2
              (subst (λ (y : List Part). T (follows w.at.place o y (children spell us))) (sym (behind-from nothing w.right d.before d.slot d.tail d.viewed)) rest);
          lead = λ t' us' e. let a : t ≡ t' = cc in subst (λ (y : Tree). StandsAt spell (fix spell y (first_places W)) (child_at w.at.place w.at.bars w.at.next w.right) × (1 ≤ length (tokens spell (fix spell y (first_places W))))) a (x.2, d.is-long z);
        }
