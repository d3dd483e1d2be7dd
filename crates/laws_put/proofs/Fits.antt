-- The places that def_text goes down to are those of the spots that the rows go down to. Assumes nothing.
use mathlib.Core.Path.{◌≡◌, refl, sym, ap, ap₂, ◌∙◌, subst}
use mathlib.Core.Bool.{Bool, true, false, ◌||◌, not}
use mathlib.Core.List.{List, [], ◌∷◌, map}
use Prim.Native.Nat.{ℕ}
use lib.Dec.{T, eqb}
use Rattle.std.proofs.Common.{◌⊎◌, inl, inr, Option, None}
use Rattle.def_tree.specs.Base.{pick}
use Rattle.def_text.specs.Words.{Word}
use Rattle.def_text.specs.Grammar.{Symbol, Script, AssignmentPattern, ForInit, ForHead, Place, Slot, at_slot, by_mode, Part, word, own, kid, run, commas, more, look, if_has, if_not, one_default, Rule}
use Rattle.def_text.specs.Table.{code}
use Rattle.def_text.specs.Print.{At, bars_for, Walk, follow, child_at, behind, first_places, passed_by}
use Rattle.laws_text.proofs.Basics.{and_left, and_right, Within, here, there}
use Rattle.laws_text.proofs.Fit.{slots}
use Rattle.laws_text.proofs.Alike.{Before, nothing, token, looked, dark, after_token, View, no_child, first, view_from, view}
use Rattle.laws_text.proofs.Kids.{Params, bars_by, next_by, place_by, child-view, behind-from, first-out, passed-out, within-none}
use Rattle.laws_text.proofs.Least.{first-in, onward, onward-in}
use Rattle.laws_text.proofs.Feeds.{only-one}
use Rattle.text_table.specs.Put.{Spot, symbol_at, is_bare, at_of, ats, if_barred, below as spot_below, spots}
use Rattle.laws_put.proofs.Near.{Near, Covers, Alike, AlikeWalks, alike-trans, firsts-alike, passed-alike}
use Rattle.laws_put.proofs.Tests.{plain_slot, members-code}

-- ---- lists

pub map-in : {A B : Type 0} (f : A → B) (x : A) (xs : List A) → Within x xs → Within (f x) (map f xs)
map-in f x xs (here zs) = here (map f zs)
map-in f x xs (there z zs w) = there (f z) (map f zs) (map-in f x zs w)

pub record From {A B : Type 0} (f : A → B) (y : B) (xs : List A) : Type 0 where
  pub one : A
  pub within : Within one xs
  pub is : y ≡ f one

from-first : {A B : Type 0} (f : A → B) (y z : B) (zs : List B) (x : A) (xs : List A) → z ≡ f x → (Within y zs → From f y xs) → Within y (z ∷ zs) → From f y (x ∷ xs)
from-first f y z zs x xs e g (here us) = record { one = x; within = here xs; is = e }
from-first f y z zs x xs e g (there u us w) = let r = g w in record { one = r.one; within = there x xs r.within; is = r.is }

pub map-out : {A B : Type 0} (f : A → B) (y : B) (xs : List A) → Within y (map f xs) → From f y xs
map-out f y [] w = within-none y w
map-out f y (x ∷ xs) w = from-first f y (f x) (map f xs) x xs refl (λ u. map-out f y xs u) w

-- ---- the children of a right side, by the view

bars-token : (h : Before) (B : List (List Word)) → bars_by (after_token h) B ≡ []
bars-token nothing B = refl
bars-token token B = refl
bars-token (looked cs) B = refl
bars-token dark B = refl

next-token : (h : Before) (N : List Word) → next_by (after_token h) N ≡ next_by h N
next-token nothing N = refl
next-token token N = refl
next-token (looked cs) N = refl
next-token dark N = refl

abbrev pub by_view : Option ℕ → Spot → List (List Word) → List Word → View → List Spot
by_view c s bs n no_child = []
by_view c s bs n (first h x t) = spot_below c s (bars_by h bs) (follow t (next_by h n)) x ∷ spots None s [] s.next t

spots-from : (c : Option ℕ) (s : Spot) (bs : List (List Word)) (n : List Word) (h : Before) (ps : List Part) → spots c s (bars_by h bs) (next_by h n) ps ≡ by_view c s bs n (view_from h ps)
spots-from c s bs n h [] = refl
spots-from c s bs n h (word w ∷ ps) = ap₂ (λ b m. spots c s b m ps) (sym (bars-token h bs)) (sym (next-token h n)) ∙ spots-from c s bs n (after_token h) ps
spots-from c s bs n h (own o ∷ ps) = ap₂ (λ b m. spots c s b m ps) (sym (bars-token h bs)) (sym (next-token h n)) ∙ spots-from c s bs n (after_token h) ps
spots-from c s bs n h (kid x ∷ ps) = refl
spots-from c s bs n h (run x ∷ ps) = refl
spots-from c s bs n h (commas x ∷ ps) = refl
spots-from c s bs n h (more x ∷ ps) = refl
spots-from c s bs n h (look cs ∷ ps) = spots-from c s bs n (looked cs) ps
spots-from c s bs n h (if_has p ∷ ps) = spots-from c s bs n h ps
spots-from c s bs n h (if_not p ∷ ps) = spots-from c s bs n h ps
spots-from c s bs n h (one_default ∷ ps) = spots-from c s bs n h ps

pub spots-view : (c : Option ℕ) (s : Spot) (bs : List (List Word)) (n : List Word) (ps : List Part) → spots c s bs n ps ≡ by_view c s bs n (view ps)
spots-view c s bs n ps = spots-from c s bs n nothing ps

-- ---- walks along one right side

-- a walk at a place with the parameters of the spot s
pub record AtSpot (s : Spot) (w : Walk) : Type 0 where
  pub params : Params w.at.place (symbol_at s Script)
  pub next : w.at.next ≡ s.next

pub record EvenWalk (s : Spot) (bs : List (List Word)) (ps : List Part) (w : Walk) : Type 0 where
  pub at-spot : AtSpot s w
  pub right : w.right ≡ ps
  pub bars : (h : Before) (x : Slot) (t : List Part) → view ps ≡ first h x t → bars_by h w.at.bars ≡ bars_by h bs

pub record Even (s : Spot) (bs : List (List Word)) (ps : List Part) (ws : List Walk) : Type 0 where
  pub each : (w : Walk) → Within w ws → EvenWalk s bs ps w
  pub some! : Walk
  pub some-in : Within some! ws

-- the children of a list of walks stand at the spots
abbrev pub Fits : List Spot → List Walk → Type 0
Fits [] ws = Unit {0}
Fits (s ∷ ss) ws = Alike (first_places ws) (ats s) × Fits ss (passed_by ws)

pub fits-alike : (ss : List Spot) (vs ws : List Walk) → AlikeWalks vs ws → Fits ss ws → Fits ss vs
fits-alike [] vs ws g f = tt
fits-alike (s ∷ ss) vs ws g f = (alike-trans (first_places vs) (first_places ws) (ats s) (firsts-alike vs ws g) f.0, fits-alike ss (passed_by vs) (passed_by ws) (passed-alike vs ws g) f.1)

-- ---- a child's place

pub place-below : (g : Place) (s : Spot) (x z : Slot) (c : Option ℕ) (bs : List (List Word)) (n : List Word) → Params g (symbol_at s Script) → x.in_mode ≡ z.in_mode → x.return_mode ≡ z.return_mode → x.else_mode ≡ z.else_mode
    → at_slot g z ≡ symbol_at (spot_below c s bs n x) z.symbol
place-below g s x z c bs n p i r e =
    ap₂ {C = Place} (λ m (b : Bool). record { symbol = z.symbol; has_in = by_mode m b; has_return = by_mode z.return_mode g.has_return; has_else = by_mode z.else_mode g.has_else }) (sym i) p.ins
    ∙ ap₂ {C = Place} (λ m (b : Bool). record { symbol = z.symbol; has_in = by_mode x.in_mode s.has_in; has_return = by_mode m b; has_else = by_mode z.else_mode g.has_else }) (sym r) p.returns
    ∙ ap₂ {C = Place} (λ m (b : Bool). record { symbol = z.symbol; has_in = by_mode x.in_mode s.has_in; has_return = by_mode x.return_mode s.has_return; has_else = by_mode m b }) (sym e) p.elses

-- bars as a place has them, and as a spot gives them
bars-same : (y : Symbol) (bs : List (List Word)) → T (plain_slot (record { symbol = y; in_mode = Rattle.def_text.specs.Grammar.plus; return_mode = Rattle.def_text.specs.Grammar.plus; else_mode = Rattle.def_text.specs.Grammar.plus })) → bars_for y bs ≡ pick (is_bare y) [] bs
bars-same y bs h = go (eqb (code y) 19) (eqb (code y) 10) (eqb (code y) 11) h
  where
    go : (a b c : Bool) → T (not (b || c)) → elim a as (λ z. List (List Word)) [ true ↦ [] | false ↦ bs ] ≡ pick (a || b || c) [] bs
    go true true c h = absurd h
    go true false true h = absurd h
    go true false false h = refl
    go false true c h = absurd h
    go false false true h = absurd h
    go false false false h = refl

-- the token behind, if anything is barred
pub next-near : (bs cs : List (List Word)) (n m : List Word) → n ≡ m → (bs ≡ []) ⊎ (cs ≡ bs) → (bs ≡ []) ⊎ (n ≡ if_barred cs m)
next-near bs cs n m e (inl q) = inl q
next-near bs [] n m e (inr q) = inl (sym q)
next-near bs (b ∷ cs) n m e (inr q) = inr e

-- bars at the place of a child z that stands where x does, for a spot below with the bars bs
pub record KidBars (z : Slot) (cs bs : List (List Word)) : Type 0 where
  pub same! : bars_for z.symbol cs ≡ pick (is_bare z.symbol) [] bs
  pub kept : (bars_for z.symbol cs ≡ []) ⊎ (bs ≡ bars_for z.symbol cs)

pub kid-near : (g : Place) (s : Spot) (x z : Slot) (c : Option ℕ) (bs cs : List (List Word)) (n m : List Word) → Params g (symbol_at s Script) → x.in_mode ≡ z.in_mode → x.return_mode ≡ z.return_mode → x.else_mode ≡ z.else_mode → KidBars z cs bs → n ≡ m
    → Near (record { place = at_slot g z; bars = bars_for z.symbol cs; next = n }) (at_of (spot_below c s bs m x) z.symbol)
kid-near g s x z c bs cs n m p i r e k q = record { place = place-below g s x z c bs m p i r e; bars = k.same!; next = next-near (bars_for z.symbol cs) bs n m q k.kept }

-- ---- along one right side the children's places are those of the spots

module _ (s : Spot) where
  abbrev kid_spot : List (List Word) → Before → Slot → List Part → Spot
  kid_spot bs h x t = spot_below None s (bars_by h bs) (follow t (next_by h s.next)) x

  -- the first child stands where the spot does
  head : (bs : List (List Word)) (h : Before) (x : Slot) (t qs : List Part) (ws : List Walk) → view qs ≡ first h x t → Even s bs qs ws → T (plain_slot x) → Alike (first_places ws) (ats (spot_below None s (bars_by h bs) (follow t (next_by h s.next)) x))
  head bs h x t qs ws v e l = record { there! = forth; back = back! }
    where
      placed : (w : Walk) → EvenWalk s bs qs w → child_at w.at.place w.at.bars w.at.next w.right ≡ place_by w.at.place w.at.bars w.at.next (first h x t)
      placed w q = child-view w.at.place w.at.bars w.at.next w.right ∙ ap (λ (z : List Part). place_by w.at.place w.at.bars w.at.next (view z)) q.right ∙ ap (place_by w.at.place w.at.bars w.at.next) v

      kid-bars : (w : Walk) → EvenWalk s bs qs w → KidBars x (bars_by h w.at.bars) (bars_by h bs)
      kid-bars w q = record { same! = ap (bars_for x.symbol) (q.bars h x t v) ∙ bars-same x.symbol (bars_by h bs) l; kept = go (eqb (code x.symbol) (code AssignmentPattern)) }
        where
          go : (b : Bool) → (elim b as (λ z. List (List Word)) [ true ↦ [] | false ↦ bars_by h w.at.bars ] ≡ []) ⊎ (bars_by h bs ≡ elim b as (λ z. List (List Word)) [ true ↦ [] | false ↦ bars_by h w.at.bars ])
          go true = inl refl
          go false = inr (sym (q.bars h x t v))

      near : (w : Walk) → (q : EvenWalk s bs qs w) → Near (record { place = at_slot w.at.place x; bars = bars_for x.symbol (bars_by h w.at.bars); next = follow t (next_by h w.at.next) }) (at_of (kid_spot bs h x t) x.symbol)
      near w q = kid-near w.at.place s x x None (bars_by h bs) (bars_by h w.at.bars) (follow t (next_by h w.at.next)) (follow t (next_by h s.next)) q.at-spot.params refl refl refl (kid-bars w q) (ap (λ (n : List Word). follow t (next_by h n)) q.at-spot.next)

      only! : ats (kid_spot bs h x t) ≡ at_of (kid_spot bs h x t) x.symbol ∷ []
      only! = ap (map (at_of (kid_spot bs h x t))) (members-code x.symbol)

      forth : Covers (first_places ws) (ats (kid_spot bs h x t))
      forth a w =
          let o = first-out a ws w in
          let q = e.each o.walk o.within in
          let g : At = record { place = at_slot o.walk.at.place x; bars = bars_for x.symbol (bars_by h o.walk.at.bars); next = follow t (next_by h o.walk.at.next) } in
          let i = only-one a g (subst (λ (z : List At). Within a z) (placed o.walk q) o.child) in
          record { at = at_of (kid_spot bs h x t) x.symbol; within = subst (λ (z : List At). Within (at_of (kid_spot bs h x t) x.symbol) z) (sym only!) (here []); near = subst (λ (z : At). Near z (at_of (kid_spot bs h x t) x.symbol)) (sym i) (near o.walk q) }

      back! : Covers (ats (kid_spot bs h x t)) (first_places ws)
      back! a w =
          let i = only-one a (at_of (kid_spot bs h x t) x.symbol) (subst (λ (z : List At). Within a z) only! w) in
          let q = e.each e.some! e.some-in in
          let g : At = record { place = at_slot e.some!.at.place x; bars = bars_for x.symbol (bars_by h e.some!.at.bars); next = follow t (next_by h e.some!.at.next) } in
          record { at = g; within = first-in e.some! ws g e.some-in (subst (λ (z : List At). Within g z) (sym (placed e.some! q)) (here [])); near = subst (λ (z : At). Near z g) (sym i) (near-sym g (at_of (kid_spot bs h x t) x.symbol) (near e.some! q)) }
        where
          near-sym : (a b : At) → Near a b → Near b a
          near-sym a b p = record { place = sym p.place; bars = sym p.bars; next = go p.next }
            where
              go : (a.bars ≡ []) ⊎ (a.next ≡ b.next) → (b.bars ≡ []) ⊎ (b.next ≡ a.next)
              go (inl x) = inl (sym p.bars ∙ x)
              go (inr x) = inr (sym x)

  -- behind the first child all stand alike
  pub even-behind : (bs : List (List Word)) (h : Before) (x : Slot) (t qs : List Part) (ws : List Walk) → view qs ≡ first h x t → Even s bs qs ws → Even s [] t (passed_by ws)
  even-behind bs h x t qs ws v e = record {
    each = λ w u. let o = passed-out w ws u in let q = e.each o.walk o.within in subst (λ (z : Walk). EvenWalk s [] t z) (sym o.is) (record {
      at-spot = record { params = q.at-spot.params; next = q.at-spot.next };
      right = ap behind q.right ∙ behind-from nothing qs h x t v;
      bars = λ i y r z. refl;
    });
    some! = onward e.some!;
    some-in = onward-in e.some! ws e.some-in;
  }

  fits-from : (ps : List Part) (bs : List (List Word)) (h : Before) (qs : List Part) (ws : List Walk) → view qs ≡ view_from h ps → Even s bs qs ws → T (slots plain_slot ps) → Fits (by_view None s bs s.next (view_from h ps)) ws
  fits-from [] bs h qs ws v e l = tt
  fits-from (word w ∷ ps) bs h qs ws v e l = fits-from ps bs (after_token h) qs ws v e l
  fits-from (own o ∷ ps) bs h qs ws v e l = fits-from ps bs (after_token h) qs ws v e l
  fits-from (kid x ∷ ps) bs h qs ws v e l = (
    head bs h x ps qs ws v e (and_left (plain_slot x) (slots plain_slot ps) l),
    subst (λ (z : List Spot). Fits z (passed_by ws)) (sym (spots-view None s [] s.next ps)) (fits-from ps [] nothing ps (passed_by ws) refl (even-behind bs h x ps qs ws v e) (and_right (plain_slot x) (slots plain_slot ps) l)),
  )
  fits-from (run x ∷ ps) bs h qs ws v e l = tt
  fits-from (commas x ∷ ps) bs h qs ws v e l = tt
  fits-from (more x ∷ ps) bs h qs ws v e l = tt
  fits-from (look cs ∷ ps) bs h qs ws v e l = fits-from ps bs (looked cs) qs ws v e l
  fits-from (if_has p ∷ ps) bs h qs ws v e l = fits-from ps bs h qs ws v e l
  fits-from (if_not p ∷ ps) bs h qs ws v e l = fits-from ps bs h qs ws v e l
  fits-from (one_default ∷ ps) bs h qs ws v e l = fits-from ps bs h qs ws v e l

  pub even-fits : (bs : List (List Word)) (ps : List Part) (ws : List Walk) → Even s bs ps ws → T (slots plain_slot ps) → Fits (spots None s bs s.next ps) ws
  even-fits bs ps ws e l = subst (λ (z : List Spot). Fits z ws) (sym (spots-view None s bs s.next ps)) (fits-from ps bs nothing ps ws refl e l)
