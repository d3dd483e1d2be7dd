-- The row that stands for a node at a spot has the walks of def_text at its places. Assumes nothing.
use mathlib.Core.Path.{◌≡◌, refl, sym, ap, ap₂, ◌∙◌, subst}
use mathlib.Core.Bool.{Bool, true, false, ◌&&◌, ◌||◌, not}
use mathlib.Core.List.{List, [], ◌∷◌}
use Prim.Native.Nat.{ℕ, ◌-◌, ◌/◌, ◌%◌, ◌^◌, ◌<◌, ◌≤◌}
use native.Mathlib.Omega.{arith}
use lib.Dec.{T, eqb, leb, eqb→eq, eqb_refl}
use Rattle.std.proofs.Common.{◌⊎◌, inl, inr, Option, Some, None}
use Rattle.std.proofs.Math.Nat.{pow-le-pow_right, div-eq_of_lt}
use Rattle.std.proofs.lemmas.Bool.{cases_lt, leb-true}
use Rattle.def_tree.specs.Base.{pick}
use Rattle.def_text.specs.Words.{Word, some, every}
use Rattle.def_text.specs.Grammar.{Symbol, Script, AssignmentPattern, Place, Slot, at_slot, Part, word, own, kid, run, commas, more, look, if_has, if_not, one_default, Rule, singles, has_list, is_for, right_for, write_out}
use Rattle.def_text.specs.Table.{code, reaches, rules}
use Rattle.def_text.specs.Derives.{has}
use Rattle.def_text.specs.Print.{At, bars_for, Walk, follow, child_at, behind, first_places, passed_by, asked, walks}
use Rattle.laws_text.proofs.Basics.{and_left, and_right, both, is_T, is_true, Within, here, there, every-at, some-found, Found}
use Rattle.laws_text.proofs.Rows.{meets, two-meet, singles-same, for-met}
use Rattle.laws_text.proofs.Fit.{slots, slots-out}
use Rattle.laws_text.proofs.Alike.{same_bool, same_modes, same_parts, same_before, parts-eq, code-eq, before-eq, SameModes, modes-of, Before, nothing, token, looked, dark, after_token, View, no_child, first, view_from, view, view-out, plain_head, plain-out, or-either}
use Rattle.laws_text.proofs.Kids.{Params, has-params, bars_by, next_by, place_by, child-view, behind-from, first-out, passed-out, within-none}
use Rattle.laws_text.proofs.Facts.{no_guards}
use Rattle.laws_text.proofs.Least.{walk-in, first-in, onward, onward-in}
use Rattle.laws_text.proofs.Feeds.{only-one}
use Rattle.laws_text.proofs.Site.{walk-out, unasked}
use Rattle.text_table.specs.Rows.{Row, rows}
use Rattle.text_table.specs.Put.{members, Spot, symbol_at, is_bare, at_of, ats, has_bit, stands, first_row, stand, below as spot_below, spots, spots_of}
use Rattle.laws_put.proofs.Near.{Near, Covers}
use Rattle.laws_put.proofs.Tests.{below-at, then, same_node, plain_slot, word_first, bare_before, twin_views, alike_parts, twin, a-row, a-twin, serves, first_ok, first_is, reached_row, row_ok, rows-ok, rule-in, rows-small}
use Rattle.laws_put.proofs.Fits.{map-in, map-out, AtSpot, EvenWalk, Even, Fits, by_view, spots-view, even-fits, even-behind, place-below, next-near}

-- ---- the row that is found

pub found-in : (p : Row → Bool) (rs : List Row) (r : Row) → first_row p rs ≡ Some r → Within r rs × T (p r)
found-in p [] r e = absurd (cc)
found-in p (q ∷ rs) r e = go (p q) refl e (λ h. found-in p rs r h)
  where
    go : (b : Bool) → p q ≡ b → elim b as (λ z. Option Row) [ true ↦ Some q | false ↦ first_row p rs ] ≡ Some r → (first_row p rs ≡ Some r → Within r rs × T (p r)) → Within r (q ∷ rs) × T (p r)
    go true h e f = let i : q ≡ r = cc in (subst (λ (z : Row). Within z (q ∷ rs)) i (here rs), subst (λ (z : Row). T (p z)) i (is_T (p q) h))
    go false h e f = let x = f e in (there q rs x.0, x.1)

split : {A : Type 0} (x y : A) (ys : List A) → Within x (y ∷ ys) → (x ≡ y) ⊎ Within x ys
split x y ys (here zs) = inl refl
split x y ys (there z zs w) = inr w

none-first : (p : Row → Bool) (q : Row) (rs : List Row) (r : Row) → first_row p (q ∷ rs) ≡ None → Within r (q ∷ rs) → T (p r) → (first_row p rs ≡ None → Within r rs → ⊥) → ⊥
none-first p q rs r e w h f = go (p q) refl e
  where
    rest : p q ≡ false → first_row p rs ≡ None → (r ≡ q) ⊎ Within r rs → ⊥
    rest b e (inl i) = absurd (subst T b (subst (λ (z : Row). T (p z)) i h))
    rest b e (inr u) = f e u

    go : (b : Bool) → p q ≡ b → elim b as (λ z. Option Row) [ true ↦ Some q | false ↦ first_row p rs ] ≡ None → ⊥
    go true b e = absurd (cc)
    go false b e = rest b e (split r q rs w)

pub none-in : (p : Row → Bool) (rs : List Row) (r : Row) → first_row p rs ≡ None → Within r rs → T (p r) → ⊥
none-in p [] r e w h = within-none r w
none-in p (q ∷ rs) r e w h = none-first p q rs r e w h (λ e u. none-in p rs r e u h)

pub record Standing (k f n : ℕ) (s : Spot) (r : Row) : Type 0 where
  pub inside : Within r rows
  pub is-for : T (is_for k f n r.rule)
  pub bit : T (has_bit r.at s.place)
  pub asks : T (asked (symbol_at s Script) (right_for n r.rule))

pub standing : (k f n : ℕ) (s : Spot) (r : Row) → stand k f n s ≡ Some r → Standing k f n s r
unfolding stand
standing k f n s r e =
    let x = found-in (stands k f n s) rows r e in
    let a = and_left (is_for k f n r.rule && has_bit r.at s.place) (asked (symbol_at s Script) (right_for n r.rule)) x.1 in
    record { inside = x.0; is-for = and_left (is_for k f n r.rule) (has_bit r.at s.place) a; bit = and_right (is_for k f n r.rule) (has_bit r.at s.place) a; asks = and_right (is_for k f n r.rule && has_bit r.at s.place) (asked (symbol_at s Script) (right_for n r.rule)) x.1 }

-- a row stands at places below 53 alone
pub bit-low : (r : Row) (c : ℕ) → Within r rows → T (has_bit r.at c) → c < 53
bit-low r c w h = go (cases_lt c 53)
  where
    high : 53 ≤ c → ⊥
    high l =
        let a : r.at ≤ 2 ^ 53 - 1 = leb-true r.at (2 ^ 53 - 1) (is_true (leb r.at (2 ^ 53 - 1)) (every-at (λ (q : Row). leb q.at (2 ^ 53 - 1)) r rows rows-small w)) in
        let b : 2 ^ 53 ≤ 2 ^ c = pow-le-pow_right (omega arith) l in
        let e : r.at / 2 ^ c ≡ 0 = div-eq_of_lt (omega arith) in
        absurd (subst (λ (m : ℕ). T (eqb (m % 2) 1)) e h)

    go : (c < 53) ⊎ (53 ≤ c) → c < 53
    go (inl l) = l
    go (inr l) = absurd (high l)

-- ---- small facts

some-at : (c : ℕ) (q : Rule) → T (some (λ y. reaches y q.left) (members c)) → (y : Symbol) × Within y (members c) × T (reaches y q.left)
some-at c q h = let f = some-found (λ y. reaches y q.left) (members c) h in (f.one, f.inside, f.passes)

pub asked-params : (g h : Place) (ps : List Part) → Params g h → T (asked g ps) → T (asked h ps)
asked-params g h [] p a = tt
asked-params g h (word w ∷ ps) p a = asked-params g h ps p a
asked-params g h (own s ∷ ps) p a = asked-params g h ps p a
asked-params g h (kid x ∷ ps) p a = asked-params g h ps p a
asked-params g h (run x ∷ ps) p a = asked-params g h ps p a
asked-params g h (commas x ∷ ps) p a = asked-params g h ps p a
asked-params g h (more x ∷ ps) p a = asked-params g h ps p a
asked-params g h (look cs ∷ ps) p a = asked-params g h ps p a
asked-params g h (if_has q ∷ ps) p a = both (has q h) (asked h ps) (subst T (has-params q g h p) (and_left (has q g) (asked g ps) a)) (asked-params g h ps p (and_right (has q g) (asked g ps) a))
asked-params g h (if_not q ∷ ps) p a = both (not (has q h)) (asked h ps) (subst (λ (b : Bool). T (not b)) (has-params q g h p) (and_left (not (has q g)) (asked g ps) a)) (asked-params g h ps p (and_right (not (has q g)) (asked g ps) a))
asked-params g h (one_default ∷ ps) p a = asked-params g h ps p a

same-params : (s : Spot) (y z : Symbol) → Params (symbol_at s y) (symbol_at s z)
same-params s y z = record { ins = refl; returns = refl; elses = refl }

-- a token stands first: nothing from before is barred
abbrev started : Before → Bool
started nothing = false
started token = true
started (looked cs) = true
started dark = true

started-token : (h : Before) → T (started (after_token h))
started-token nothing = tt
started-token token = tt
started-token (looked cs) = tt
started-token dark = tt

steady : (g h : Before) (ps : List Part) (x : Slot) (t : List Part) → T (started g) → view_from g ps ≡ first h x t → T (started h)
steady g h [] x t s e = absurd (cc)
steady g h (word w ∷ ps) x t s e = steady (after_token g) h ps x t (started-token g) e
steady g h (own o ∷ ps) x t s e = steady (after_token g) h ps x t (started-token g) e
steady g h (kid y ∷ ps) x t s e = let i : g ≡ h = cc in subst (λ (z : Before). T (started z)) i s
steady g h (run y ∷ ps) x t s e = absurd (cc)
steady g h (commas y ∷ ps) x t s e = absurd (cc)
steady g h (more y ∷ ps) x t s e = absurd (cc)
steady g h (look cs ∷ ps) x t s e = steady (looked cs) h ps x t tt e
steady g h (if_has p ∷ ps) x t s e = steady g h ps x t s e
steady g h (if_not p ∷ ps) x t s e = steady g h ps x t s e
steady g h (one_default ∷ ps) x t s e = steady g h ps x t s e

started-bars : (h : Before) (bs cs : List (List Word)) → T (started h) → bars_by h bs ≡ bars_by h cs
started-bars nothing bs cs s = absurd s
started-bars token bs cs s = refl
started-bars (looked ds) bs cs s = refl
started-bars dark bs cs s = refl

word-started : (m : ℕ) (ps : List Part) (h : Before) (x : Slot) (t : List Part) → T (word_first ps) → view (write_out m ps) ≡ first h x t → T (started h)
word-started m [] h x t w e = absurd w
word-started m (word v ∷ ps) h x t w e = steady token h (write_out m ps) x t tt e
word-started m (own s ∷ ps) h x t w e = absurd w
word-started m (kid y ∷ ps) h x t w e = absurd w
word-started m (run y ∷ ps) h x t w e = absurd w
word-started m (commas y ∷ ps) h x t w e = absurd w
word-started m (more y ∷ ps) h x t w e = absurd w
word-started m (look cs ∷ ps) h x t w e = absurd w
word-started m (if_has p ∷ ps) h x t w e = absurd w
word-started m (if_not p ∷ ps) h x t w e = absurd w
word-started m (one_default ∷ ps) h x t w e = absurd w

-- the bars of a symbol's place, before the first child of a right side
bare-bars : (y : Symbol) (bs : List (List Word)) (m : ℕ) (ps : List Part) (h : Before) (x : Slot) (t : List Part) → T (not (is_bare y) || word_first ps) → view (write_out m ps) ≡ first h x t → bars_by h (pick (is_bare y) [] bs) ≡ bars_by h bs
bare-bars y bs m ps h x t c e = go (is_bare y) c
  where
    go : (b : Bool) → T (not b || word_first ps) → bars_by h (pick b [] bs) ≡ bars_by h bs
    go true k = started-bars h [] bs (word-started m ps h x t k e)
    go false k = refl

-- ---- a walk at the spot's places

module _ (k f n : ℕ) (s : Spot) (r : Row) (S : Standing k f n s r) where
  low : s.place < 53
  low = bit-low r s.place S.inside S.bit

  abbrev m : ℕ
  m = n - singles r.rule.right

  -- what a walk comes from
  record Comes (w : Walk) : Type 0 where
    symbol : Symbol
    member : Within symbol (members s.place)
    rule : Rule
    inside : Within rule rules
    is-for : T (is_for k f n rule)
    at-is : w.at ≡ at_of s symbol
    right-is : w.right ≡ write_out m rule.right
    twin! : T (twin r rule symbol)

  comes : (w : Walk) → Within w (walks k f n (ats s)) → Comes w
  comes w u =
      let o = walk-out k f n (ats s) w u in
      let y = map-out (at_of s) o.at (members s.place) o.at-in in
      let h = subst (λ (a : At). T (reaches a.place.symbol o.rule.left)) y.is o.reached in
      record {
        symbol = y.one;
        member = y.within;
        rule = o.rule;
        inside = o.inside;
        is-for = o.is-for;
        at-is = ap (λ (z : Walk). z.at) o.is ∙ y.is;
        right-is = ap (λ (z : Walk). z.right) o.is ∙ ap (λ (j : ℕ). write_out (n - j) o.rule.right) (singles-same k f n o.rule r.rule o.inside (rule-in r S.inside) o.is-for S.is-for);
        twin! = a-twin s.place y.one o.rule r low y.within o.inside h S.inside (two-meet k f n r.rule o.rule S.is-for o.is-for) S.bit;
      }

  at-spot : (w : Walk) (c : Comes w) → AtSpot s w
  at-spot w c = record { params = subst (λ (a : At). Params a.place (symbol_at s Script)) (sym c.at-is) (same-params s c.symbol Script); next = ap (λ (a : At). a.next) c.at-is }

  -- a production for the node that is reached makes a walk
  record Goes (q : Rule) : Type 0 where
    symbol : Symbol
    member : Within symbol (members s.place)
    inside : Within q rules
    is-for : T (is_for k f n q)
    reached : T (reaches symbol q.left)
    right-is : right_for n q ≡ write_out m q.right
    twin! : T (twin r q symbol)

  node-same : (q : Rule) → T (same_node r.rule q) → T (meets r.rule q)
  node-same q h =
      let a = and_left (eqb r.rule.kind q.kind && eqb r.rule.form q.form && eqb (singles r.rule.right) (singles q.right)) (same_bool (has_list r.rule.right) (has_list q.right)) h in
      both (eqb r.rule.kind q.kind && eqb r.rule.form q.form) (eqb (singles r.rule.right) (singles q.right) || has_list r.rule.right || has_list q.right)
      (and_left (eqb r.rule.kind q.kind && eqb r.rule.form q.form) (eqb (singles r.rule.right) (singles q.right)) a)
      (first! (eqb (singles r.rule.right) (singles q.right)) (has_list r.rule.right) (has_list q.right) (and_right (eqb r.rule.kind q.kind && eqb r.rule.form q.form) (eqb (singles r.rule.right) (singles q.right)) a))
    where
      first! : (a b c : Bool) → T a → T (a || b || c)
      first! true b c h = tt
      first! false b c h = absurd h

  goes : (q : Rule) → Within q rules → T (same_node r.rule q) → T (some (λ y. reaches y q.left) (members s.place)) → Goes q
  goes q u h l =
      let y = some-at s.place q l in
      let i = for-met k f n r.rule q (rule-in r S.inside) u (node-same q h) S.is-for in
      record {
        symbol = y.0;
        member = y.1;
        inside = u;
        is-for = i;
        reached = y.2;
        right-is = ap (λ (j : ℕ). write_out (n - j) q.right) (singles-same k f n q r.rule u (rule-in r S.inside) i S.is-for);
        twin! = a-twin s.place y.0 q r low y.1 u y.2 S.inside (two-meet k f n r.rule q S.is-for i) S.bit;
      }

  walk-of : (q : Rule) → Goes q → Walk
  walk-of q g = record { at = at_of s g.symbol; right = right_for n q }

  walk-there : (q : Rule) (g : Goes q) → T (asked (symbol_at s Script) (right_for n q)) → Within (record { at = at_of s g.symbol; right = right_for n q }) (walks k f n (ats s))
  walk-there q g a = walk-in k f n (at_of s g.symbol) (ats s) q (map-in (at_of s) g.symbol (members s.place) g.member) g.inside g.is-for g.reached (asked-params (symbol_at s Script) (symbol_at s g.symbol) (right_for n q) (same-params s Script g.symbol) a)

  ok! : T (row_ok s.place r)
  ok! = every-at (row_ok s.place) r rows (below-at (λ c. every (row_ok c) rows) 53 s.place rows-ok low) S.inside

  -- ---- no set: all right sides are the row's

  parts-none : (q : Rule) (y : Symbol) → r.first ≡ None → T (twin r q y) → (r.rule.right ≡ q.right) × T (slots plain_slot r.rule.right)
  parts-none q y e h =
      let a = and_left (alike_parts r.first r.rule.right q.right) (not (is_bare y) || word_first q.right) h in
      let b = subst (λ (o : Option ℕ). T (alike_parts o r.rule.right q.right)) e a in
      (parts-eq r.rule.right q.right (and_left (same_parts r.rule.right q.right) (slots plain_slot r.rule.right) b), and_right (same_parts r.rule.right q.right) (slots plain_slot r.rule.right) b)

  reached! : Found (reached_row s.place r) rules
  reached! = some-found (reached_row s.place r) rules (and_right (first_ok s.place r r.first) (some (reached_row s.place r) rules) (then (has_bit r.at s.place) (first_ok s.place r r.first && some (reached_row s.place r) rules) ok! S.bit))

  cond-both : (a b : Bool) → T (elim a [ true ↦ b | false ↦ false ]) → T a × T b
  cond-both true b h = (tt, h)
  cond-both false b h = absurd h

  even-walk : r.first ≡ None → (w : Walk) → Within w (walks k f n (ats s)) → EvenWalk s s.bars (right_for n r.rule) w
  even-walk e w u =
      let c = comes w u in
      let p = parts-none c.rule c.symbol e c.twin! in
      record {
        at-spot = at-spot w c;
        right = c.right-is ∙ ap (write_out m) (sym p.0);
        bars = λ h x t v.
            subst (λ (a : At). bars_by h a.bars ≡ bars_by h s.bars) (sym c.at-is)
            (bare-bars c.symbol s.bars m c.rule.right h x t (and_right (alike_parts r.first r.rule.right c.rule.right) (not (is_bare c.symbol) || word_first c.rule.right) c.twin!) (ap (λ (z : List Part). view (write_out m z)) (sym p.0) ∙ v));
      }

  even-none : r.first ≡ None → Even s s.bars (right_for n r.rule) (walks k f n (ats s))
  even-none e =
      let q = reached! in
      let b = cond-both (same_node r.rule q.one) (some (λ y. reaches y q.one.left) (members s.place)) q.passes in
      let g = goes q.one q.inside b.0 b.1 in
      let p = parts-none q.one g.symbol e g.twin! in
      let a = subst (λ (z : List Part). T (asked (symbol_at s Script) z)) (ap (write_out m) p.0 ∙ sym g.right-is) S.asks in
      record { each = λ w u. even-walk e w u; some! = record { at = at_of s g.symbol; right = right_for n q.one }; some-in = walk-there q.one g a }

  fits-none : r.first ≡ None → Fits (spots_of r n s) (walks k f n (ats s))
  fits-none e =
      let ev = even-none e in
      let c = comes ev.some! ev.some-in in
      let p = parts-none c.rule c.symbol e c.twin! in
      subst (λ (o : Option ℕ). Fits (spots o s s.bars s.next (right_for n r.rule)) (walks k f n (ats s))) (sym e) (even-fits s s.bars (right_for n r.rule) (walks k f n (ats s)) ev (slots-out plain_slot m r.rule.right p.1))

  -- ---- a set: the first child's symbol differs

  record Twins (d : ℕ) (h : Before) (x : Slot) (t : List Part) (q : Rule) : Type 0 where
    i : Before
    z : Slot
    there! : view q.right ≡ first i z t
    modes : SameModes x z
    member : T (some (λ y. eqb (code y) (code z.symbol)) (members d))
    plain : T (slots plain_slot t)
    bars : T (elim (is_bare z.symbol) [ true ↦ bare_before i z.symbol | false ↦ same_before h i ])
    unguarded : T (no_guards q.right)
    headed : T (plain_head q.right)

  twins-of : (d : ℕ) (h : Before) (x : Slot) (t : List Part) (q : Rule) (w : View) → view q.right ≡ w → T (twin_views d (first h x t) w) → T (no_guards q.right) → T (plain_head q.right) → Twins d h x t q
  twins-of d h x t q no_child g a k l = absurd a
  twins-of d h x t q (first i z u) g a k l =
      let b5 = elim (is_bare z.symbol) as (λ y. Bool) [ true ↦ bare_before i z.symbol | false ↦ same_before h i ] in
      let a4 = and_left (same_parts t u && same_modes x z && some (λ y. eqb (code y) (code z.symbol)) (members d) && slots plain_slot t && no_guards t) b5 a in
      let a3 = and_left (same_parts t u && same_modes x z && some (λ y. eqb (code y) (code z.symbol)) (members d) && slots plain_slot t) (no_guards t) a4 in
      let a2 = and_left (same_parts t u && same_modes x z && some (λ y. eqb (code y) (code z.symbol)) (members d)) (slots plain_slot t) a3 in
      let a1 = and_left (same_parts t u && same_modes x z) (some (λ y. eqb (code y) (code z.symbol)) (members d)) a2 in
      record {
        i = i;
        z = z;
        there! = g ∙ ap (first i z) (sym (parts-eq t u (and_left (same_parts t u) (same_modes x z) a1)));
        modes = modes-of x z (and_right (same_parts t u) (same_modes x z) a1);
        member = and_right (same_parts t u && same_modes x z) (some (λ y. eqb (code y) (code z.symbol)) (members d)) a2;
        plain = and_right (same_parts t u && same_modes x z && some (λ y. eqb (code y) (code z.symbol)) (members d)) (slots plain_slot t) a3;
        bars = and_right (same_parts t u && same_modes x z && some (λ y. eqb (code y) (code z.symbol)) (members d) && slots plain_slot t && no_guards t) b5 a;
        unguarded = k;
        headed = l;
      }

  -- the row's own view
  record Seen (d : ℕ) : Type 0 where
    h : Before
    x : Slot
    t : List Part
    here! : view r.rule.right ≡ first h x t

  seen-of : (d : ℕ) (v w : View) → view r.rule.right ≡ v → T (twin_views d v w) → Seen d
  seen-of d no_child w e a = absurd a
  seen-of d (first h x t) w e a = record { h = h; x = x; t = t; here! = e }

  views-of : (d : ℕ) (q : Rule) (y : Symbol) → r.first ≡ Some d → T (twin r q y) → T (twin_views d (view r.rule.right) (view q.right)) × T (no_guards q.right) × T (plain_head q.right) × T (plain_head r.rule.right)
  views-of d q y e h =
      let a = and_left (alike_parts r.first r.rule.right q.right) (not (is_bare y) || word_first q.right) h in
      let b = subst (λ (o : Option ℕ). T (alike_parts o r.rule.right q.right)) e a in
      let c = and_left (twin_views d (view r.rule.right) (view q.right) && (no_guards r.rule.right && plain_head r.rule.right)) (no_guards q.right && plain_head q.right) b in
      let g = and_right (twin_views d (view r.rule.right) (view q.right) && (no_guards r.rule.right && plain_head r.rule.right)) (no_guards q.right && plain_head q.right) b in (
        and_left (twin_views d (view r.rule.right) (view q.right)) (no_guards r.rule.right && plain_head r.rule.right) c,
        and_left (no_guards q.right) (plain_head q.right) g,
        and_right (no_guards q.right) (plain_head q.right) g,
        and_right (no_guards r.rule.right) (plain_head r.rule.right) (and_right (twin_views d (view r.rule.right) (view q.right)) (no_guards r.rule.right && plain_head r.rule.right) c),
      )

  module _ (d : ℕ) (e : r.first ≡ Some d) where
    own! : Seen d
    own! =
        let q = reached! in
        let b = cond-both (same_node r.rule q.one) (some (λ y. reaches y q.one.left) (members s.place)) q.passes in
        let g = goes q.one q.inside b.0 b.1 in
        seen-of d (view r.rule.right) (view q.one.right) refl (views-of d q.one g.symbol e g.twin!).0

    abbrev h : Before
    h = own!.h

    abbrev x : Slot
    x = own!.x

    abbrev t : List Part
    t = own!.t

    twins : (q : Rule) (y : Symbol) → T (twin r q y) → Twins d h x t q
    twins q y k =
        let v = views-of d q y e k in
        twins-of d h x t q (view q.right) refl (subst (λ (w : View). T (twin_views d w (view q.right))) own!.here! v.0) v.1 v.2

    abbrev spot : Spot
    spot = spot_below (Some d) s (bars_by h s.bars) (follow (write_out m t) (next_by h s.next)) x

    -- a walk by a twin has its first child there
    kid-at : At → Before → Slot → At
    kid-at a i z = record { place = at_slot a.place z; bars = bars_for z.symbol (bars_by i a.bars); next = follow (write_out m t) (next_by i a.next) }

    bars-nothing : (b : Bool) → elim b as (λ y. List (List Word)) [ true ↦ [] | false ↦ [] ] ≡ []
    bars-nothing true = refl
    bars-nothing false = refl

    bare : (i : Before) (z : Symbol) (bs : List (List Word)) → T (bare_before i z) → bars_for z (bars_by i bs) ≡ []
    bare nothing z bs b = ap (λ (b : Bool). elim b as (λ y. List (List Word)) [ true ↦ [] | false ↦ bs ]) (is_true (eqb (code z) (code AssignmentPattern)) b)
    bare token z bs b = bars-nothing (eqb (code z) (code AssignmentPattern))
    bare (looked cs) z bs b = ap (λ (b : Bool). elim b as (λ y. List (List Word)) [ true ↦ [] | false ↦ cs ]) (is_true (eqb (code z) (code AssignmentPattern)) b)
    bare dark z bs b = bars-nothing (eqb (code z) (code AssignmentPattern))

    not-bare : (z : Symbol) (bs : List (List Word)) → is_bare z ≡ false → bars_for z bs ≡ bs
    not-bare z bs e = go (eqb (code z) 19) (eqb (code z) 10) (eqb (code z) 11) e
      where
        go : (a b c : Bool) → (a || b || c) ≡ false → elim a as (λ y. List (List Word)) [ true ↦ [] | false ↦ bs ] ≡ bs
        go true true c e = absurd (cc)
        go true false true e = absurd (cc)
        go true false false e = absurd (cc)
        go false b c e = refl

    twin-near : (y : Symbol) (i : Before) (z : Slot) (B : List (List Word)) → SameModes x z → bars_by i B ≡ bars_by i s.bars → T (elim (is_bare z.symbol) [ true ↦ bare_before i z.symbol | false ↦ same_before h i ])
        → Near (record { place = at_slot (symbol_at s y) z; bars = bars_for z.symbol (bars_by i B); next = follow (write_out m t) (next_by i s.next) }) (at_of spot z.symbol)
    twin-near y i z B md q b = go (is_bare z.symbol) refl b
      where
        place! : at_slot (symbol_at s y) z ≡ symbol_at spot z.symbol
        place! = place-below (symbol_at s y) s x z (Some d) (bars_by h s.bars) (follow (write_out m t) (next_by h s.next)) (same-params s y Script) md.ins md.returns md.elses

        go : (c : Bool) → is_bare z.symbol ≡ c → T (elim c [ true ↦ bare_before i z.symbol | false ↦ same_before h i ])
            → Near (record { place = at_slot (symbol_at s y) z; bars = bars_for z.symbol (bars_by i B); next = follow (write_out m t) (next_by i s.next) }) (at_of spot z.symbol)
        go true e b =
            let n : bars_for z.symbol (bars_by i B) ≡ [] = bare i z.symbol B b in
            record { place = place!; bars = n ∙ ap (λ (c : Bool). pick c [] (bars_by h s.bars)) (sym e); next = inl n }
        go false e b =
            let j = before-eq h i b in
            let c : bars_for z.symbol (bars_by i B) ≡ bars_by h s.bars = not-bare z.symbol (bars_by i B) e ∙ q ∙ ap (λ (k : Before). bars_by k s.bars) (sym j) in
            record {
              place = place!;
              bars = c ∙ ap (λ (c : Bool). pick c [] (bars_by h s.bars)) (sym e);
              next = next-near (bars_for z.symbol (bars_by i B)) (bars_by h s.bars) (follow (write_out m t) (next_by i s.next)) (follow (write_out m t) (next_by h s.next)) (ap (λ (k : Before). follow (write_out m t) (next_by k s.next)) (sym j)) (inr (sym c));
            }

    -- a walk's first child, by the twin that it comes from
    first-child : (w : Walk) (y : Symbol) (q : Rule) (tw : Twins d h x t q) → w.at ≡ at_of s y → w.right ≡ write_out m q.right
        → child_at w.at.place w.at.bars w.at.next w.right ≡ record { place = at_slot (symbol_at s y) tw.z; bars = bars_for tw.z.symbol (bars_by tw.i (pick (is_bare y) [] s.bars)); next = follow (write_out m t) (next_by tw.i s.next) } ∷ []
    first-child w y q tw a b =
        ap₂ (λ (z : At) (ps : List Part). child_at z.place z.bars z.next ps) a b ∙ child-view (symbol_at s y) (pick (is_bare y) [] s.bars) s.next (write_out m q.right)
        ∙ ap (place_by (symbol_at s y) (pick (is_bare y) [] s.bars) s.next) (view-out m q.right nothing tw.i tw.z t tw.there!)

    twin-bars : (y : Symbol) (q : Rule) (tw : Twins d h x t q) → T (twin r q y) → bars_by tw.i (pick (is_bare y) [] s.bars) ≡ bars_by tw.i s.bars
    twin-bars y q tw k = bare-bars y s.bars m q.right tw.i tw.z (write_out m t) (and_right (alike_parts r.first r.rule.right q.right) (not (is_bare y) || word_first q.right) k) (view-out m q.right nothing tw.i tw.z t tw.there!)

    forth : Covers (first_places (walks k f n (ats s))) (ats spot)
    forth a u =
        let o = first-out a (walks k f n (ats s)) u in
        let c = comes o.walk o.within in
        let tw = twins c.rule c.symbol c.twin! in
        let g : At = record { place = at_slot (symbol_at s c.symbol) tw.z; bars = bars_for tw.z.symbol (bars_by tw.i (pick (is_bare c.symbol) [] s.bars)); next = follow (write_out m t) (next_by tw.i s.next) } in
        let i = only-one a g (subst (λ (z : List At). Within a z) (first-child o.walk c.symbol c.rule tw c.at-is c.right-is) o.child) in
        let mem = some-found (λ y. eqb (code y) (code tw.z.symbol)) (members d) tw.member in
        let same = code-eq mem.one tw.z.symbol (eqb→eq (code mem.one) (code tw.z.symbol) mem.passes) in
        record {
          at = at_of spot tw.z.symbol;
          within = map-in (at_of spot) tw.z.symbol (members d) (subst (λ (y : Symbol). Within y (members d)) same mem.inside);
          near = subst (λ (z : At). Near z (at_of spot tw.z.symbol)) (sym i) (twin-near c.symbol tw.i tw.z (pick (is_bare c.symbol) [] s.bars) tw.modes (twin-bars c.symbol c.rule tw c.twin!) tw.bars);
        }

    near-sym : (a b : At) → Near a b → Near b a
    near-sym a b p = record { place = sym p.place; bars = sym p.bars; next = go p.next }
      where
        go : (a.bars ≡ []) ⊎ (a.next ≡ b.next) → (b.bars ≡ []) ⊎ (b.next ≡ a.next)
        go (inl x) = inl (sym p.bars ∙ x)
        go (inr x) = inr (sym x)

    first-same : (y : Symbol) (v : View) (i : Before) (z : Slot) (u : List Part) → v ≡ first i z u → T (first_is y v) → z.symbol ≡ y
    first-same y no_child i z u e h = absurd h
    first-same y (first j a b) i z u e h = let q : a ≡ z = cc in code-eq z.symbol y (eqb→eq (code z.symbol) (code y) (subst (λ (c : Slot). T (eqb (code c.symbol) (code y))) q h))

    back! : Covers (ats spot) (first_places (walks k f n (ats s)))
    back! a u =
        let y = map-out (at_of spot) a (members d) u in
        let ok = and_left (first_ok s.place r r.first) (some (reached_row s.place r) rules) (then (has_bit r.at s.place) (first_ok s.place r r.first && some (reached_row s.place r) rules) ok! S.bit) in
        let ok1 = subst (λ (o : Option ℕ). T (first_ok s.place r o)) e ok in
        let q = some-found (serves s.place r y.one) rules (every-at (λ z. some (serves s.place r z) rules) y.one (members d) (and_right (leb d 52) (every (λ z. some (serves s.place r z) rules) (members d)) ok1) y.within) in
        let b = cond-both (same_node r.rule q.one) (some (λ y. reaches y q.one.left) (members s.place) && first_is y.one (view q.one.right)) q.passes in
        let g = goes q.one q.inside b.0 (and_left (some (λ y. reaches y q.one.left) (members s.place)) (first_is y.one (view q.one.right)) b.1) in
        let tw = twins q.one g.symbol g.twin! in
        let same = first-same y.one (view q.one.right) tw.i tw.z t tw.there! (and_right (some (λ y. reaches y q.one.left) (members s.place)) (first_is y.one (view q.one.right)) b.1) in
        let asks = subst (λ (ps : List Part). T (asked (symbol_at s Script) ps)) (sym g.right-is) (unasked (symbol_at s Script) m q.one.right tw.unguarded) in
        let w : Walk = record { at = at_of s g.symbol; right = right_for n q.one } in
        let c : At = record { place = at_slot (symbol_at s g.symbol) tw.z; bars = bars_for tw.z.symbol (bars_by tw.i (pick (is_bare g.symbol) [] s.bars)); next = follow (write_out m t) (next_by tw.i s.next) } in
        let there = walk-there q.one g asks in
        let ch = subst (λ (z : List At). Within c z) (sym (first-child w g.symbol q.one tw refl g.right-is)) (here []) in
        let nr = twin-near g.symbol tw.i tw.z (pick (is_bare g.symbol) [] s.bars) tw.modes (twin-bars g.symbol q.one tw g.twin!) tw.bars in
        record {
          at = c;
          within = first-in w (walks k f n (ats s)) c there ch;
          near = subst (λ (z : At). Near z c) (sym y.is) (subst (λ (z : Symbol). Near (at_of spot z) c) same (near-sym c (at_of spot tw.z.symbol) nr));
        }

    -- a walk, to begin with
    begun : (w : Walk) × Within w (walks k f n (ats s))
    begun =
        let q = reached! in
        let b = cond-both (same_node r.rule q.one) (some (λ y. reaches y q.one.left) (members s.place)) q.passes in
        let g = goes q.one q.inside b.0 b.1 in
        let tw = twins q.one g.symbol g.twin! in
        let asks = subst (λ (ps : List Part). T (asked (symbol_at s Script) ps)) (sym g.right-is) (unasked (symbol_at s Script) m q.one.right tw.unguarded) in
        (record { at = at_of s g.symbol; right = right_for n q.one }, walk-there q.one g asks)

    passed-walk : (w : Walk) → Within w (walks k f n (ats s)) → EvenWalk s [] (write_out m t) (onward w)
    passed-walk w u =
        let c = comes w u in
        let tw = twins c.rule c.symbol c.twin! in
        let a = at-spot w c in
        record { at-spot = record { params = a.params; next = a.next }; right = ap behind c.right-is ∙ behind-from nothing (write_out m c.rule.right) tw.i tw.z (write_out m t) (view-out m c.rule.right nothing tw.i tw.z t tw.there!); bars = λ i y q z. refl }

    even-some : Even s [] (write_out m t) (passed_by (walks k f n (ats s)))
    even-some = record {
      each = λ w u. let o = passed-out w (walks k f n (ats s)) u in subst (λ (z : Walk). EvenWalk s [] (write_out m t) z) (sym o.is) (passed-walk o.walk o.within);
      some! = onward begun.0;
      some-in = onward-in begun.0 (walks k f n (ats s)) begun.1;
    }

    plain! : T (slots plain_slot t)
    plain! = let c = comes begun.0 begun.1 in (twins c.rule c.symbol c.twin!).plain

    fits-some : Fits (spots_of r n s) (walks k f n (ats s))
    fits-some =
        subst (λ (o : Option ℕ). Fits (spots o s s.bars s.next (right_for n r.rule)) (walks k f n (ats s))) (sym e)
        (subst (λ (z : List Spot). Fits z (walks k f n (ats s))) (sym (spots-view (Some d) s s.bars s.next (right_for n r.rule) ∙ ap (by_view (Some d) s s.bars s.next) (view-out m r.rule.right nothing h x t own!.here!)))
        (record { there! = forth; back = back! }, even-fits s [] (write_out m t) (passed_by (walks k f n (ats s))) even-some (slots-out plain_slot m t plain!)))

  by-first : (o : Option ℕ) → r.first ≡ o → Fits (spots_of r n s) (walks k f n (ats s)) × ((w : Walk) × Within w (walks k f n (ats s)))
  by-first None e = let ev = even-none e in (fits-none e, (ev.some!, ev.some-in))
  by-first (Some d) e = (fits-some d e, begun d e)

  -- the children of the row stand where def_text has them
  pub row-fits : Fits (spots_of r n s) (walks k f n (ats s))
  row-fits = (by-first r.first refl).0

  pub row-walk : (w : Walk) × Within w (walks k f n (ats s))
  row-walk = (by-first r.first refl).1

  -- each walk's right side asks what the row's does, and has its own text where the row's has it
  pub row-walks : (w : Walk) → Within w (walks k f n (ats s)) → (y : Symbol) × Within y (members s.place) × ((q : Rule) × Within q rules × T (is_for k f n q) × (w.at ≡ at_of s y) × (w.right ≡ right_for n q) × T (meets r.rule q))
  row-walks w u = let c = comes w u in (c.symbol, c.member, (c.rule, c.inside, c.is-for, c.at-is, c.right-is ∙ ap (λ (j : ℕ). write_out (n - j) c.rule.right) (singles-same k f n r.rule c.rule (rule-in r S.inside) c.inside S.is-for c.is-for), two-meet k f n r.rule c.rule S.is-for c.is-for))

-- where no row stands, def_text has no walk
pub no-row : (k f n : ℕ) (s : Spot) → s.place < 53 → stand k f n s ≡ None → (w : Walk) → Within w (walks k f n (ats s)) → ⊥
unfolding stand
no-row k f n s l e w u =
    let o = walk-out k f n (ats s) w u in
    let y = map-out (at_of s) o.at (members s.place) o.at-in in
    let h = subst (λ (a : At). T (reaches a.place.symbol o.rule.left)) y.is o.reached in
    let asks = asked-params (symbol_at s y.one) (symbol_at s Script) (right_for n o.rule) (same-params s y.one Script) (subst (λ (a : At). T (asked a.place (right_for n o.rule))) y.is o.asks) in
    let f! = a-row s.place y.one o.rule l y.within o.inside h in
    let r = f!.one in
    let b = cond-two (same_node r.rule o.rule) _ f!.passes in
    let bit = and_left (has_bit r.at s.place) (same_parts r.rule.right o.rule.right || (no_guards r.rule.right && no_guards o.rule.right)) b.1 in
    let i = is-for-back r.rule o.rule (rule-in r f!.inside) o.inside b.0 o.is-for in
    let q = singles-same k f n r.rule o.rule (rule-in r f!.inside) o.inside i o.is-for in
    let a = or-either (same_parts r.rule.right o.rule.right) (no_guards r.rule.right && no_guards o.rule.right) (and_right (has_bit r.at s.place) (same_parts r.rule.right o.rule.right || (no_guards r.rule.right && no_guards o.rule.right)) b.1)
    (λ p. let eq = parts-eq r.rule.right o.rule.right p in subst (λ (ps : List Part). T (asked (symbol_at s Script) (write_out (n - singles ps) ps))) (sym eq) asks)
    (λ p. unasked (symbol_at s Script) (n - singles r.rule.right) r.rule.right (and_left (no_guards r.rule.right) (no_guards o.rule.right) p)) in
    none-in (stands k f n s) rows r e f!.inside (both (is_for k f n r.rule && has_bit r.at s.place) (asked (symbol_at s Script) (right_for n r.rule)) (both (is_for k f n r.rule) (has_bit r.at s.place) i bit) a)
  where
    cond-two : (a b : Bool) → T (elim a [ true ↦ b | false ↦ false ]) → T a × T b
    cond-two true b h = (tt, h)
    cond-two false b h = absurd h

    meet! : (r q : Rule) → T (same_node r q) → T (meets q r)
    meet! r q h =
        let a = and_left (eqb r.kind q.kind && eqb r.form q.form && eqb (singles r.right) (singles q.right)) (same_bool (has_list r.right) (has_list q.right)) h in
        let b = and_left (eqb r.kind q.kind && eqb r.form q.form) (eqb (singles r.right) (singles q.right)) a in
        let turn : (i j : ℕ) → T (eqb i j) → T (eqb j i) = λ i j t. subst (λ (z : ℕ). T (eqb j z)) (sym (eqb→eq i j t)) (eqb_refl j) in
        both (eqb q.kind r.kind && eqb q.form r.form) (eqb (singles q.right) (singles r.right) || has_list q.right || has_list r.right)
        (both (eqb q.kind r.kind) (eqb q.form r.form) (turn r.kind q.kind (and_left (eqb r.kind q.kind) (eqb r.form q.form) b)) (turn r.form q.form (and_right (eqb r.kind q.kind) (eqb r.form q.form) b)))
        (first! (eqb (singles q.right) (singles r.right)) (has_list q.right) (has_list r.right) (turn (singles r.right) (singles q.right) (and_right (eqb r.kind q.kind && eqb r.form q.form) (eqb (singles r.right) (singles q.right)) a)))
      where
        first! : (a b c : Bool) → T a → T (a || b || c)
        first! true b c h = tt
        first! false b c h = absurd h

    is-for-back : (r q : Rule) → Within r rules → Within q rules → T (same_node r q) → T (is_for k f n q) → T (is_for k f n r)
    is-for-back r q v u h i = for-met k f n q r u v (meet! r q h) i

-- ---- what the walks of a row's node have of the row

-- the same parts, or the first child differs, with no own text and no default clause before it
pub data SameParts (ps qs : List Part) : Type 0 where
  equal! : ps ≡ qs → SameParts ps qs
  twins! : (i j : Before) (y z : Slot) (u : List Part) → T (plain_head ps) → T (plain_head qs) → view ps ≡ first i y u → view qs ≡ first j z u → SameParts ps qs

module _ (k f n : ℕ) (s : Spot) (r : Row) (S : Standing k f n s r) where
  same-tail : {i j : Before} {y z : Slot} {u v : List Part} → first i y u ≡ first j z v → u ≡ v
  same-tail e = cc

  -- behind the first child
  pub row-after : (i : Before) (y : Slot) (u : List Part) → view (right_for n r.rule) ≡ first i y u → Even s [] u (passed_by (walks k f n (ats s)))
  row-after i y u v = go r.first refl
    where
      go : (o : Option ℕ) → r.first ≡ o → Even s [] u (passed_by (walks k f n (ats s)))
      go None e = even-behind s s.bars i y u (right_for n r.rule) (walks k f n (ats s)) v (even-none k f n s r S e)
      go (Some d) e =
          let w = own! k f n s r S d e in
          let q = view-out (n - singles r.rule.right) r.rule.right nothing w.h w.x w.t w.here! in
          let j : write_out (n - singles r.rule.right) w.t ≡ u = same-tail (sym q ∙ v) in
          subst (λ (z : List Part). Even s [] z (passed_by (walks k f n (ats s)))) j (even-some k f n s r S d e)

  pub record Kept (w : Walk) : Type 0 where
    pub rule : Rule
    pub inside : Within rule rules
    pub is-for : T (is_for k f n rule)
    pub right-is : w.right ≡ right_for n rule
    pub symbol : Symbol
    pub member : Within symbol (members s.place)
    pub at-is : w.at ≡ at_of s symbol
    pub reached : T (reaches symbol rule.left)
    pub asks : T (asked w.at.place w.right)
    pub parts : SameParts w.right (right_for n r.rule)

  pub kept : (w : Walk) → Within w (walks k f n (ats s)) → Kept w
  kept w v =
      let o = walk-out k f n (ats s) w v in
      let c = comes k f n s r S w v in
      let b = map-out (at_of s) o.at (members s.place) o.at-in in
      let tw = a-twin s.place b.one o.rule r (bit-low r s.place S.inside S.bit) b.within o.inside (subst (λ (a : At). T (reaches a.place.symbol o.rule.left)) b.is o.reached) S.inside (two-meet k f n r.rule o.rule S.is-for o.is-for) S.bit in
      let ri = ap (λ (z : Walk). z.right) o.is in
      let same = singles-same k f n o.rule r.rule o.inside (rule-in r S.inside) o.is-for S.is-for in
      record {
        rule = o.rule;
        inside = o.inside;
        is-for = o.is-for;
        right-is = ri;
        symbol = b.one;
        member = b.within;
        at-is = ap (λ (z : Walk). z.at) o.is ∙ b.is;
        reached = subst (λ (a : At). T (reaches a.place.symbol o.rule.left)) b.is o.reached;
        asks = subst (λ (z : Walk). T (asked z.at.place z.right)) (sym o.is) o.asks;
        parts = subst (λ (z : List Part). SameParts z (right_for n r.rule)) (sym (ri ∙ ap (λ (j : ℕ). write_out (n - j) o.rule.right) same)) (by o.rule b.one tw r.first refl);
      }
    where
      by : (q : Rule) (y : Symbol) → T (twin r q y) → (o : Option ℕ) → r.first ≡ o → SameParts (write_out (n - singles r.rule.right) q.right) (right_for n r.rule)
      by q y tw None e = equal! (ap (write_out (n - singles r.rule.right)) (sym (parts-none k f n s r S q y e tw).0))
      by q y tw (Some d) e =
          let w = own! k f n s r S d e in
          let t! = twins k f n s r S d e q y tw in
          let v = views-of k f n s r S d q y e tw in
          let m! = n - singles r.rule.right in
          twins! t!.i w.h t!.z w.x (write_out m! w.t) (plain-out m! q.right v.2) (plain-out m! r.rule.right v.3) (view-out m! q.right nothing t!.i t!.z w.t t!.there!) (view-out m! r.rule.right nothing w.h w.x w.t w.here!)
