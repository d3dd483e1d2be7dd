-- What printing does at a list of places depends on its members alone, and not on the token behind a place where nothing is barred. Assumes nothing.
use mathlib.Core.Path.{◌≡◌, refl, sym, ap, ap₂, ◌∙◌, subst}
use mathlib.Core.Bool.{Bool, true, false, ◌&&◌, not}
use mathlib.Core.List.{List, [], ◌∷◌, ◌++◌}
use Prim.Native.Nat.{ℕ}
use lib.Dec.{T, eqb}
use Rattle.std.proofs.Common.{◌⊎◌, inl, inr}
use Rattle.def_tree.specs.Base.{pick}
use Rattle.def_tree.specs.Tree.{Tree, Forest, node, nil, cons, length_f}
use Rattle.def_text.specs.Words.{Word}
use Rattle.def_text.specs.Grammar.{AssignmentPattern, Place, Slot, at_slot, Part, word, own, kid, run, commas, more, look, if_has, if_not, one_default, right_for}
use Rattle.def_text.specs.Table.{code, reaches}
use Rattle.def_text.specs.Derives.{barred, tokens, derives}
use Rattle.def_text.specs.Print.{At, bars_for, Walk, follow, child_at, behind, first_places, passed_by, asked, walks, in_pair, none, inside, wrap, opening, unbarred, stays, lacks, chosen, fix, fix_all}
use Rattle.laws_text.proofs.Basics.{Within, here, there, passing-in, passing-out}
use Rattle.laws_text.proofs.Kids.{first-out, passed-out, within-none}
use Rattle.laws_text.proofs.Least.{StandsAt, walk-in, first-in, onward, onward-in}
use Rattle.laws_text.proofs.Feeds.{only-one}
use Rattle.laws_text.proofs.Site.{walk-out}

-- the same place with the same barred; the same token behind, if anything is barred
pub record Near (a b : At) : Type 0 where
  pub place : a.place ≡ b.place
  pub bars : a.bars ≡ b.bars
  pub next : (a.bars ≡ []) ⊎ (a.next ≡ b.next)

pub record NearIn (a : At) (ys : List At) : Type 0 where
  pub at : At
  pub within : Within at ys
  pub near : Near a at

abbrev pub Covers : List At → List At → Type 0
Covers xs ys = (a : At) → Within a xs → NearIn a ys

pub record Alike (xs ys : List At) : Type 0 where
  pub there! : Covers xs ys
  pub back : Covers ys xs

-- walks of the same right sides at such places
pub record NearWalk (w : Walk) (ws : List Walk) : Type 0 where
  pub walk : Walk
  pub within : Within walk ws
  pub near : Near w.at walk.at
  pub right : w.right ≡ walk.right

abbrev pub CoversWalks : List Walk → List Walk → Type 0
CoversWalks vs ws = (w : Walk) → Within w vs → NearWalk w ws

pub record AlikeWalks (vs ws : List Walk) : Type 0 where
  pub there! : CoversWalks vs ws
  pub back : CoversWalks ws vs

pub near-refl : (a : At) → Near a a
near-refl a = record { place = refl; bars = refl; next = inr refl }

pub near-trans : (a b c : At) → Near a b → Near b c → Near a c
near-trans a b c p q = record { place = p.place ∙ q.place; bars = p.bars ∙ q.bars; next = go p.next q.next }
  where
    go : (a.bars ≡ []) ⊎ (a.next ≡ b.next) → (b.bars ≡ []) ⊎ (b.next ≡ c.next) → (a.bars ≡ []) ⊎ (a.next ≡ c.next)
    go (inl e) f = inl e
    go (inr e) (inl f) = inl (p.bars ∙ f)
    go (inr e) (inr f) = inr (e ∙ f)

pub covers-trans : (xs ys cs : List At) → Covers xs ys → Covers ys cs → Covers xs cs
covers-trans xs ys cs f g a w =
    let x = f a w in
    let y = g x.at x.within in
    record { at = y.at; within = y.within; near = near-trans a x.at y.at x.near y.near }

pub alike-trans : (xs ys cs : List At) → Alike xs ys → Alike ys cs → Alike xs cs
alike-trans xs ys cs f g = record { there! = covers-trans xs ys cs f.there! g.there!; back = covers-trans cs ys xs g.back f.back }

pub alike-sym : (xs ys : List At) → Alike xs ys → Alike ys xs
alike-sym xs ys f = record { there! = f.back; back = f.there! }

pub alike-refl : (xs : List At) → Alike xs xs
alike-refl xs = record { there! = λ a w. record { at = a; within = w; near = near-refl a }; back = λ a w. record { at = a; within = w; near = near-refl a } }

pub walks-sym : (vs ws : List Walk) → AlikeWalks vs ws → AlikeWalks ws vs
walks-sym vs ws f = record { there! = f.back; back = f.there! }

-- ---- barred

pub near-barred : (a b : At) (o : List Word → List Word) → Near a b → barred a.bars (o a.next) ≡ barred b.bars (o b.next)
near-barred a b o p = go p.next
  where
    nothing : (bs : List (List Word)) (x : List Word) → bs ≡ [] → barred bs x ≡ false
    nothing bs x e = ap (λ (z : List (List Word)). barred z x) e

    go : (a.bars ≡ []) ⊎ (a.next ≡ b.next) → barred a.bars (o a.next) ≡ barred b.bars (o b.next)
    go (inl e) = nothing a.bars (o a.next) e ∙ sym (nothing b.bars (o b.next) (sym p.bars ∙ e))
    go (inr e) = ap₂ (λ (z : List (List Word)) (n : List Word). barred z (o n)) p.bars e

module _ (spell : ℕ → ℕ → Word) where
  free-covers : (t : Tree) (xs ys : List At) → Covers xs ys → Covers (unbarred spell t xs) (unbarred spell t ys)
  free-covers t xs ys f a w =
      let p : At → Bool = λ s. not (barred s.bars (opening spell t s.next)) in
      let x = passing-out p a xs w in
      let y = f a x.0 in
      let e = ap not (near-barred a y.at (opening spell t) y.near) in
      record { at = y.at; within = passing-in p y.at ys y.within (subst T e x.1); near = y.near }

  pub free-alike : (t : Tree) (xs ys : List At) → Alike xs ys → Alike (unbarred spell t xs) (unbarred spell t ys)
  free-alike t xs ys f = record { there! = free-covers t xs ys f.there!; back = free-covers t ys xs f.back }

-- ---- walks

walks-cover : (k f n : ℕ) (xs ys : List At) → Covers xs ys → CoversWalks (walks k f n xs) (walks k f n ys)
walks-cover k f n xs ys g w v =
    let o = walk-out k f n xs w v in
    let x = g o.at o.at-in in
    let e = x.near.place in
    record {
      walk = record { at = x.at; right = right_for n o.rule };
      within = walk-in k f n x.at ys o.rule x.within o.inside o.is-for (subst (λ (p : Place). T (reaches p.symbol o.rule.left)) e o.reached) (subst (λ (p : Place). T (asked p (right_for n o.rule))) e o.asks);
      near = subst (λ (z : Walk). Near z.at x.at) (sym o.is) x.near;
      right = ap (λ (z : Walk). z.right) o.is;
    }

pub walks-alike : (k f n : ℕ) (xs ys : List At) → Alike xs ys → AlikeWalks (walks k f n xs) (walks k f n ys)
walks-alike k f n xs ys g = record { there! = walks-cover k f n xs ys g.there!; back = walks-cover k f n ys xs g.back }

none-cover : (vs ws : List Walk) → CoversWalks vs ws → none ws ≡ true → none vs ≡ true
none-cover [] ws f e = refl
none-cover (v ∷ vs) ws f e = let x = f v (here vs) in absurd (go ws x.walk x.within e)
  where
    go : (ws : List Walk) (w : Walk) → Within w ws → none ws ≡ true → ⊥
    go ws w (here xs) e = absurd (cc)
    go ws w (there x xs u) e = absurd (cc)

pub none-alike : (vs ws : List Walk) → AlikeWalks vs ws → none vs ≡ none ws
none-alike vs ws f = go (none vs) (none ws) refl refl
  where
    go : (a b : Bool) → none vs ≡ a → none ws ≡ b → a ≡ b
    go true true e g = refl
    go true false e g = sym (sym g ∙ none-cover ws vs f.back e)
    go false true e g = sym e ∙ none-cover vs ws f.there! g
    go false false e g = refl

-- ---- children

no-bars : (b : Bool) → elim b as (λ z. List (List Word)) [ true ↦ [] | false ↦ [] ] ≡ []
no-bars true = refl
no-bars false = refl

kid-next : (x : Slot) (bs : List (List Word)) (n m : List Word) (ps : List Part) → (bs ≡ []) ⊎ (n ≡ m) → (bars_for x.symbol bs ≡ []) ⊎ (follow ps n ≡ follow ps m)
kid-next x bs n m ps (inl q) = inl (ap (bars_for x.symbol) q ∙ no-bars (eqb (code x.symbol) (code AssignmentPattern)))
kid-next x bs n m ps (inr q) = inr (ap (follow ps) q)

child-near : (g : Place) (bs : List (List Word)) (n m : List Word) (ps : List Part) → (bs ≡ []) ⊎ (n ≡ m) → Covers (child_at g bs n ps) (child_at g bs m ps)
child-near g bs n m [] e a w = within-none a w
child-near g bs n m (word v ∷ ps) e a w = child-near g [] n m ps (inl refl) a w
child-near g bs n m (own s ∷ ps) e a w = child-near g [] n m ps (inl refl) a w
child-near g bs n m (kid x ∷ ps) e a w = subst (λ (z : At). NearIn z (child_at g bs m (kid x ∷ ps))) (sym (only-one a (record { place = at_slot g x; bars = bars_for x.symbol bs; next = follow ps n }) w))
    (record { at = record { place = at_slot g x; bars = bars_for x.symbol bs; next = follow ps m }; within = here []; near = record { place = refl; bars = refl; next = kid-next x bs n m ps e } })
child-near g bs n m (run x ∷ ps) e a w = within-none a w
child-near g bs n m (commas x ∷ ps) e a w = within-none a w
child-near g bs n m (more x ∷ ps) e a w = within-none a w
child-near g bs n m (look cs ∷ ps) e a w = record { at = a; within = w; near = near-refl a }
child-near g bs n m (if_has p ∷ ps) e a w = child-near g bs n m ps e a w
child-near g bs n m (if_not p ∷ ps) e a w = child-near g bs n m ps e a w
child-near g bs n m (one_default ∷ ps) e a w = child-near g bs n m ps e a w

firsts-cover : (vs ws : List Walk) → CoversWalks vs ws → Covers (first_places vs) (first_places ws)
firsts-cover vs ws f a u =
    let o = first-out a vs u in
    let x = f o.walk o.within in
    let v = o.walk in
    let w = x.walk in
    let here! = subst (λ (z : List Part). Within a (child_at v.at.place v.at.bars v.at.next z)) x.right o.child in
    let y = child-near v.at.place v.at.bars v.at.next w.at.next w.right x.near.next a here! in
    let p = subst (λ (z : Place). Within y.at (child_at z v.at.bars w.at.next w.right)) x.near.place y.within in
    let q = subst (λ (z : List (List Word)). Within y.at (child_at w.at.place z w.at.next w.right)) x.near.bars p in
    record { at = y.at; within = first-in w ws y.at x.within q; near = y.near }

pub firsts-alike : (vs ws : List Walk) → AlikeWalks vs ws → Alike (first_places vs) (first_places ws)
firsts-alike vs ws f = record { there! = firsts-cover vs ws f.there!; back = firsts-cover ws vs f.back }

passed-cover : (vs ws : List Walk) → CoversWalks vs ws → CoversWalks (passed_by vs) (passed_by ws)
passed-cover vs ws f w u =
    let o = passed-out w vs u in
    let x = f o.walk o.within in
    record {
      walk = onward x.walk;
      within = onward-in x.walk ws x.within;
      near = subst (λ (z : Walk). Near z.at (onward x.walk).at) (sym o.is) (record { place = x.near.place; bars = refl; next = inl refl });
      right = ap (λ (z : Walk). z.right) o.is ∙ ap behind x.right;
    }

pub passed-alike : (vs ws : List Walk) → AlikeWalks vs ws → AlikeWalks (passed_by vs) (passed_by ws)
passed-alike vs ws f = record { there! = passed-cover vs ws f.there!; back = passed-cover ws vs f.back }

-- ---- the tree xs it is printed

module _ (spell : ℕ → ℕ → Word) where
  pub stays-alike : (k f a : ℕ) (ts : Forest) (xs ys : List At) → Alike xs ys → AlikeWalks (stays spell k f a ts xs) (stays spell k f a ts ys)
  stays-alike k f a ts xs ys g = walks-alike k f (length_f ts) (unbarred spell (node k f a ts) xs) (unbarred spell (node k f a ts) ys) (free-alike spell (node k f a ts) xs ys g)

  pub inside-alike : (xs ys : List At) → Alike xs ys → Alike (inside xs) (inside ys)
  inside-alike xs ys g = firsts-alike (walks 41 0 1 xs) (walks 41 0 1 ys) (walks-alike 41 0 1 xs ys g)

  lacks-alike : (k f a : ℕ) (ts : Forest) (xs ys : List At) → Alike xs ys → lacks spell k f a ts xs ≡ lacks spell k f a ts ys
  lacks-alike k f a ts xs ys g = ap (λ (b : Bool). in_pair k && b) (none-alike (stays spell k f a ts xs) (stays spell k f a ts ys) (stays-alike k f a ts xs ys g))

  chosen-alike : (k f a : ℕ) (ts : Forest) (xs ys : List At) → Alike xs ys → AlikeWalks (chosen spell k f a ts xs) (chosen spell k f a ts ys)
  chosen-alike k f a ts xs ys g = go (lacks spell k f a ts xs) (lacks spell k f a ts ys) (lacks-alike k f a ts xs ys g)
    where
      n : ℕ
      n = length_f ts

      go : (p q : Bool) → p ≡ q → AlikeWalks (pick p (walks k f (length_f ts) (inside xs)) (stays spell k f a ts xs)) (pick q (walks k f (length_f ts) (inside ys)) (stays spell k f a ts ys))
      go true true e = walks-alike k f (length_f ts) (inside xs) (inside ys) (inside-alike xs ys g)
      go true false e = absurd (cc)
      go false true e = absurd (cc)
      go false false e = stays-alike k f a ts xs ys g

  mutual
    pub fix-alike : (t : Tree) (xs ys : List At) → Alike xs ys → fix spell t xs ≡ fix spell t ys
    fix-alike (node k f a ts) xs ys g =
        ap₂ {C = Tree} (λ (b : Bool) (us : Forest). wrap b (node k f a us)) (lacks-alike k f a ts xs ys g) (fix-all-alike ts (chosen spell k f a ts xs) (chosen spell k f a ts ys) (chosen-alike k f a ts xs ys g))

    pub fix-all-alike : (ts : Forest) (vs ws : List Walk) → AlikeWalks vs ws → fix_all spell ts vs ≡ fix_all spell ts ws
    fix-all-alike nil vs ws g = refl
    fix-all-alike (cons t ts) vs ws g = ap₂ cons (fix-alike t (first_places vs) (first_places ws) (firsts-alike vs ws g)) (fix-all-alike ts (passed_by vs) (passed_by ws) (passed-alike vs ws g))

  pub stands-alike : (u : Tree) (xs ys : List At) → Covers xs ys → StandsAt spell u xs → StandsAt spell u ys
  stands-alike u xs ys f st =
      let x = f st.place st.within in
      record {
        place = x.at;
        within = x.within;
        derived! = subst (λ (p : Place). T (derives spell u p)) x.near.place st.derived!;
        free = subst (λ (b : Bool). T (not b)) (near-barred st.place x.at (λ n. tokens spell u ++ n) x.near) st.free;
      }
