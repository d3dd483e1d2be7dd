-- The row by which a tree is printed. Assumes nothing.
use Rattle.std.proofs.Common.{◌≡◌, ℕ, ◌<◌, Bool, true, false, ◌&&◌, ◌||◌, ltb, List, [], ◌∷◌, get_or, Option, Some, None, refl, sym, ap, ap₂, ◌∙◌, subst}
use Rattle.std.specs.Prelude.{T, not}
use lib.Dec.{ltb→lt}
use Rattle.def_tree.specs.Base.{pick}
use Rattle.def_tree.specs.Tree.{Tree, Forest, node, length_f}
use Rattle.def_text.specs.Words.{Word, every}
use Rattle.def_text.specs.Grammar.{is_for}
use Rattle.def_text.specs.Table.{rules}
use Rattle.def_text.specs.Print.{in_pair}
use Rattle.text_table.specs.Rows.{Row, rows, no_row}
use Rattle.text_table.specs.Put.{Spot, freed, free, stands, first_row, stand, first_spot, spots_of, inner, as_is, Choice, chosen, in_inner, or_paired, choice}
use Rattle.text_rows.proofs.Tests.{all_below, below-at}
use Rattle.text_rows.specs.Rows.{spot_of as place_only}
use Rattle.text_spots.specs.Spots.{spot_of}
use Rattle.file_read.specs.declared.header.Header.{Header}
use Rattle.file_read.specs.Load.{Readable}
use Rattle.def_file.specs.declared.Raw.{Raw}
use Rattle.def_text.specs.Entry.{own_number}
use Rattle.text_rows.specs.Rows.{StandIs}
use Rattle.text_tokens.specs.Tokens.{node_of}
use Rattle.text_choice.specs.Trees.{kids_of, shown, spelled}
use Rattle.text_choice.specs.Choice.{Chosen}
use Rattle.text_choice.proofs.Planted.{length-kids}
use Rattle.text_spots.specs.declared.Spot.{Spot as At}

-- ---- the row found passes the test, and each test that all rows pass

some-eq : {A : Type 0} (x r : A) → Some x ≡ Some r → x ≡ r
some-eq x r h = cc

record Passes (p t : Row → Bool) (r : Row) : Type 0 where
  here : p r ≡ true
  too : T (t r)

found : (p t : Row → Bool) (rs : List Row) (r : Row) → first_row p rs ≡ Some r → T (every t rs) → Passes p t r
found p t [] r e h = absurd (cc)
found p t (x ∷ xs) r e h = go (p x) refl e (t x) refl h (λ f k. found p t xs r f k)
  where
    go : (b : Bool) → p x ≡ b → elim b as (λ z. Option Row) [ true ↦ Some x | false ↦ first_row p xs ] ≡ Some r → (c : Bool) → t x ≡ c → T (elim c [ true ↦ every t xs | false ↦ false ]) → (first_row p xs ≡ Some r → T (every t xs) → Passes p t r) → Passes p t r
    go true q f true w k ih = subst (Passes p t) (some-eq x r f) (record { here = q; too = subst T (sym w) tt })
    go false q f true w k ih = ih f k
    go b q f false w k ih = absurd k

all-pass : (rs : List Row) → T (every (λ r. true) rs)
all-pass [] = tt
all-pass (r ∷ rs) = all-pass rs

first-of : (p q r : Bool) → (p && q && r) ≡ true → T p
first-of true q r e = tt
first-of false q r e = absurd (cc)

pub stand-for : (k f n : ℕ) (s : Spot) (r : Row) → stand k f n s ≡ Some r → T (is_for k f n r.rule)
unfolding stand
stand-for k f n s r e = first-of (is_for k f n r.rule) _ _ (found (stands k f n s) (λ r. true) rows r e (all-pass rows)).here

-- by the place alone
pub stand-place : (k f n : ℕ) (s : At) → stand k f n (place_only s.place) ≡ stand k f n (spot_of s)
unfolding stand
stand-place k f n s = refl

-- ---- places there are

abbrev few : Option Spot → Bool
few None = true
few (Some s) = ltb s.place 53

abbrev pair_few : Spot → Row → Bool
pair_few s r = not (is_for 41 0 1 r.rule) || few (first_spot (spots_of r 1 s))

pairs-few : (s : Spot) → T (every (pair_few s) rows)
unfolding rows rules
pairs-few s = tt

inner-few : (s q : Spot) → inner s ≡ Some q → q.place < 53
unfolding stand
inner-few s q e = go (stand 41 0 1 s) refl e
  where
    go : (o : Option Row) → stand 41 0 1 s ≡ o → elim o as (λ z. Option Spot) [ None ↦ None | Some r ↦ first_spot (spots_of r 1 s) ] ≡ Some q → q.place < 53
    go None d f = absurd (cc)
    go (Some r) d f =
        (let p = found (stands 41 0 1 s) (pair_few s) rows r d (pairs-few s) in
        ltb→lt q.place 53 (subst (λ (o : Option Spot). T (few o)) f (second (is_for 41 0 1 r.rule) (few (first_spot (spots_of r 1 s))) (first-of (is_for 41 0 1 r.rule) _ _ p.here) p.too)))
      where
        second : (a b : Bool) → T a → T (not a || b) → T b
        second true b t h = h
        second false b t h = absurd t

pub inside-few : (s : At) (q : At) → inner (spot_of s) ≡ Some (spot_of q) → q.place.place < 53
inside-few s q e = inner-few (spot_of s) (spot_of q) e

abbrev freed_few : ℕ → Bool
freed_few c = ltb (freed c) 53

freed-tests : T (all_below freed_few 53)
unfolding freed
freed-tests = tt

module _ (spell : ℕ → ℕ → Word) (t : Tree) (s : At) (l : s.place.place < 53) where
  pub as-is-few : (q : At) → spot_of q ≡ as_is spell t (spot_of s) → q.place.place < 53
  as-is-few q e = rw (ap (λ (r : Spot). r.place) e) (go _)
    where
      go : (b : Bool) → (pick b (free (spot_of s)) (spot_of s)).place < 53
      go true = ltb→lt (freed s.place.place) 53 (below-at freed_few 53 s.place.place freed-tests l)
      go false = l

-- ---- how a tree is printed

module _ (spell : ℕ → ℕ → Word) (k f a : ℕ) (ts : Forest) (s : Spot) where
  abbrev t : Tree
  t = node k f a ts

  abbrev pair : Option Choice
  pair = pick (in_pair k) (in_inner k f (length_f ts) (inner s)) None

  pub choice-found : (r : Row) (here : Spot) → here ≡ as_is spell t s → stand k f (length_f ts) here ≡ Some r → choice spell t s ≡ Some (record { row = r; spot = here; paired = false })
  unfolding choice
  choice-found r here e h =
      ap (λ (o : Option Row). or_paired o (as_is spell t s) pair) (ap (stand k f (length_f ts)) (sym e) ∙ h)
      ∙ ap (λ (q : Spot). Some (record { row = r; spot = q; paired = false })) (sym e)

  module _ (here : Spot) (e : here ≡ as_is spell t s) (h : stand k f (length_f ts) here ≡ None) where
    pub choice-pair : choice spell t s ≡ pair
    unfolding choice
    choice-pair = ap (λ (o : Option Row). or_paired o (as_is spell t s) pair) (ap (stand k f (length_f ts)) (sym e) ∙ h)

    pub choice-none : in_pair k ≡ false → choice spell t s ≡ None
    choice-none p = choice-pair ∙ ap (λ (b : Bool). pick b (in_inner k f (length_f ts) (inner s)) None) p

    pub choice-inside : in_pair k ≡ true → choice spell t s ≡ in_inner k f (length_f ts) (inner s)
    choice-inside p = choice-pair ∙ ap (λ (b : Bool). pick b (in_inner k f (length_f ts) (inner s)) None) p

    pub choice-outside : in_pair k ≡ true → inner s ≡ None → choice spell t s ≡ None
    choice-outside p i = choice-inside p ∙ ap (in_inner k f (length_f ts)) i

    pub choice-in : in_pair k ≡ true → (q : Spot) → inner s ≡ Some q → choice spell t s ≡ chosen (stand k f (length_f ts) q) q true
    choice-in p q i = choice-inside p ∙ ap (in_inner k f (length_f ts)) i

-- ---- of a file's node, by its kind and how many children it has

module _ (bs : List ℕ) (h : Header) (R : Readable bs h.nodes h.texts) (k : ℕ) (l : k < h.nodes) (f : ℕ) (s : At) (few : s.place.place < 53) where
  abbrev x : Raw
  x = node_of bs h k

  abbrev count : ℕ
  count = length_f (kids_of bs h k)

  abbrev tree : Tree
  tree = shown bs h k f

  module _ (y : Raw) (n : ℕ) (e : y ≡ x) (c : n ≡ y.arity) where
    stand-same : (q : At) → stand y.kind f n (place_only q.place) ≡ stand x.kind f count (spot_of q)
    stand-same q = stand-place y.kind f n q ∙ ap₂ (λ (j m : ℕ). stand j f m (spot_of q)) (ap (λ (r : Raw). r.kind) e) (c ∙ ap (λ (r : Raw). r.arity) e ∙ sym (length-kids bs h R k l))

    module _ (here : At) (a : spot_of here ≡ as_is (spelled bs h) tree (spot_of s)) where
      pub chosen-here : (i : ℕ) → StandIs y.kind f n here.place (Some i) → Chosen (spelled bs h) tree (spot_of s) (record { row = i; spot = here; paired = false })
      chosen-here i w =
          let e = sym (stand-same here) ∙ w.1 in record {
            few = w.0;
            row = stand-for x.kind f count (spot_of here) (get_or rows i no_row) e;
            place = as-is-few (spelled bs h) tree s few here a;
            is = choice-found (spelled bs h) x.kind f (own_number x) (kids_of bs h k) (spot_of s) (get_or rows i no_row) (spot_of here) a e;
          }

      module _ (z : StandIs y.kind f n here.place None) where
        none-here : stand x.kind f count (spot_of here) ≡ None
        none-here = sym (stand-same here) ∙ z

        pub no-pair : in_pair y.kind ≡ false → choice (spelled bs h) tree (spot_of s) ≡ None
        no-pair p = choice-none (spelled bs h) x.kind f (own_number x) (kids_of bs h k) (spot_of s) (spot_of here) a none-here (ap (λ (r : Raw). in_pair r.kind) (sym e) ∙ p)

        module _ (p : in_pair y.kind ≡ true) where
          pub no-inside : inner (spot_of s) ≡ None → choice (spelled bs h) tree (spot_of s) ≡ None
          no-inside i = choice-outside (spelled bs h) x.kind f (own_number x) (kids_of bs h k) (spot_of s) (spot_of here) a none-here (ap (λ (r : Raw). in_pair r.kind) (sym e) ∙ p) i

          module _ (q : At) (i : inner (spot_of s) ≡ Some (spot_of q)) where
            choice-there : choice (spelled bs h) tree (spot_of s) ≡ chosen (stand x.kind f count (spot_of q)) (spot_of q) true
            choice-there = choice-in (spelled bs h) x.kind f (own_number x) (kids_of bs h k) (spot_of s) (spot_of here) a none-here (ap (λ (r : Raw). in_pair r.kind) (sym e) ∙ p) (spot_of q) i

            pub no-row : StandIs y.kind f n q.place None → choice (spelled bs h) tree (spot_of s) ≡ None
            no-row w = choice-there ∙ ap (λ (o : Option Row). chosen o (spot_of q) true) (sym (stand-same q) ∙ w)

            pub chosen-inside : (j : ℕ) → StandIs y.kind f n q.place (Some j) → Chosen (spelled bs h) tree (spot_of s) (record { row = j; spot = q; paired = true })
            chosen-inside j w =
                let t = sym (stand-same q) ∙ w.1 in record {
                  few = w.0;
                  row = stand-for x.kind f count (spot_of q) (get_or rows j no_row) t;
                  place = inside-few s q i;
                  is = choice-there ∙ ap (λ (o : Option Row). chosen o (spot_of q) true) t;
                }
