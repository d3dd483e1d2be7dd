-- The parts of a row, one after the other. Assumes nothing.
use Rattle.std.proofs.Common.{◌≡◌, ℕ, ◌+◌, ◌-◌, ◌*◌, ◌<◌, ◌≤◌, Bool, true, false, List, [], ◌∷◌, ◌++◌, leb, length, get_or, drop, Option, Some, None, refl, sym, ap, ap₂, ◌∙◌, append-nil, add-one, subst, arith}
use Rattle.std.proofs.Math.Seq.{drop-cons}
use Rattle.def_tree.specs.Tree.{Forest, counts, take_f}
use Rattle.def_text.specs.Words.{Word}
use Rattle.def_text.specs.Derives.{laid_all}
use Rattle.file_read.specs.declared.header.Header.{Header}
use Rattle.file_read.specs.Load.{Readable}
use Rattle.words_twice.specs.Twice.{Stand}
use Rattle.words_twice.proofs.Places.{forest-none}
use Rattle.text_table.specs.declared.Part.{Part}
use Rattle.text_table.specs.declared.Part.TheVariants as Parts
use Rattle.text_table.specs.declared.Kids.{Kids}
use Rattle.text_table.specs.declared.Sort.{Sort}
use Rattle.text_table.specs.declared.Bars.{Bars}
use Rattle.text_table.specs.declared.Parameter.{Parameter}
use Rattle.text_table.specs.Put.{Spot, if_barred, default_count}
use Rattle.text_words.specs.Words.{word}
use Rattle.text_tokens.specs.Tokens.{own_ok, own_of}
use Rattle.text_spots.specs.Spots.{bars_of}
use Rattle.text_parts.specs.Parts.{follow_parts, how_many, kid_count, in_front, joined, put_kids, put_parts}
use Rattle.text_parts.proofs.Whole.{front-nothing}
use Rattle.text_choice.specs.Trees.{cores, trees_of, spelled}
use Rattle.text_walk.specs.Lists.{used, Pushed}
use Rattle.text_walk.specs.Walk.{Printed, laid_from, put_list}
use Rattle.text_walk.proofs.Numbers.{pushed-none, pushed-then}
use Rattle.text_walk.proofs.Laid.{Split, split, defaults-here}
use Rattle.text_walk.proofs.Listing.{front-front}

abbrev only_if : Option (List Word) → Bool → Option (List Word)
only_if x y = elim y as (λ z. Option (List Word)) [ true ↦ x | false ↦ None ]

module _ (bs : List ℕ) (h : Header) (R : Readable bs h.nodes h.texts) (k m i all : ℕ) (s : Spot) (o : Option (List Word)) (w : List ℕ) where
  abbrev put! : List (List Word) → List Word → List Part → ℕ → Option (List Word)
  put! b n ps j = put_parts (spelled bs h) (own_of bs h k) m s b n ps (laid_from bs h k (kid_count m ps) j)

  -- of all children the next one begins at j, and ps are left of the parts, of which p are done
  pub record Going (p j : ℕ) (b : List (List Word)) (n : List Word) (ps : List Part) (v : List ℕ) : Type 0 where
    pub done : List Word
    pub whole : o ≡ in_front done (put! b n ps j)
    pub pushed : Pushed bs h w v done
    pub few : used v + 14 * i ≤ used w + p + 14 * j
    pub stand : Stand (cores bs h) j (kid_count m ps)
    pub at : j + counts (trees_of bs h (kid_count m ps) j) ≡ i + counts (trees_of bs h all i)
    pub low : k < j
    pub from : i ≤ j

  pub going-start : (ps : List Part) (b : List (List Word)) (n : List Word) → o ≡ put! b n ps i → Stand (cores bs h) i (kid_count m ps) → k < i → all ≡ kid_count m ps → Going 0 i b n ps w
  going-start ps b n e t l a = record {
    done = [];
    whole = e ∙ sym (front-nothing (put! b n ps i));
    pushed = pushed-none bs h w;
    few = omega arith;
    stand = t;
    at = ap (λ (c : ℕ). i + counts (trees_of bs h c i)) (sym a);
    low = l;
    from = omega arith;
  }

  -- the part at q of qs is next
  pub going-here : {p j : ℕ} {b : List (List Word)} {n : List Word} {v : List ℕ} (qs : List Part) (q : ℕ) (d r : Part) → q < length qs → get_or qs q d ≡ r → Going p j b n (drop q qs) v → Going p j b n (r ∷ drop (q + 1) qs) v
  going-here {p} {j} {b} {n} {v} qs q d r l e G = subst (λ (ps : List Part). Going p j b n ps v) (rw add-one (drop-cons qs q d l) ∙ ap (λ (y : Part). y ∷ drop (q + 1) qs) e) G

  pub going-done : {p j : ℕ} {b : List (List Word)} {n : List Word} {ps qs : List Part} {v : List ℕ} → ps ≡ qs → Going p j b n ps v → Going p j b n qs v
  going-done {p} {j} {b} {n} {ps} {qs} {v} e G = subst (λ (us : List Part). Going p j b n us v) e G

  -- the same, said otherwise
  pub going-as : {p j j' : ℕ} {b b' : List (List Word)} {n n' : List Word} {ps : List Part} {v v' : List ℕ} → j' ≡ j → b' ≡ b → n' ≡ n → v' ≡ v → Going p j b n ps v → Going p j' b' n' ps v'
  going-as {p} {j} {j'} {b} {b'} {n} {n'} {ps} {v} {v'} e f g u G =
      subst (λ (x : ℕ). Going p x b' n' ps v') (sym e) (subst (λ (x : List (List Word)). Going p j x n' ps v') (sym f) (subst (λ (x : List Word). Going p j b x ps v') (sym g) (subst (λ (x : List ℕ). Going p j b n ps x) (sym u) G)))

  module _ {p j : ℕ} {b : List (List Word)} {n : List Word} {ps : List Part} {v : List ℕ} where
    -- a part without children
    pub going-word : (c : ℕ) {v' : List ℕ} → Going p j b n (Parts.Word c ∷ ps) v → Pushed bs h v v' (word c ∷ []) → used v' ≡ used v + 1 → Going (p + 1) j [] n ps v'
    going-word c G q f = record {
      done = G.done ++ (word c ∷ []);
      whole = G.whole ∙ front-front G.done (word c ∷ []) (put! [] n ps j);
      pushed = pushed-then bs h G.pushed q;
      few = omega (arith, G.few, f);
      stand = G.stand;
      at = G.at;
      low = G.low;
      from = G.from;
    }

    pub going-own : (q : Sort) {v' : List ℕ} → Going p j b n (Parts.Own q ∷ ps) v → own_ok (own_of bs h k) q ≡ true → Pushed bs h v v' (own_of bs h k ∷ []) → used v' ≡ used v + 1 → Going (p + 1) j [] n ps v'
    going-own q G e u f = record {
      done = G.done ++ (own_of bs h k ∷ []);
      whole = G.whole ∙ ap (λ (y : Bool). in_front G.done (only_if (in_front (own_of bs h k ∷ []) (put! [] n ps j)) y)) e ∙ front-front G.done (own_of bs h k ∷ []) (put! [] n ps j);
      pushed = pushed-then bs h G.pushed u;
      few = omega (arith, G.few, f);
      stand = G.stand;
      at = G.at;
      low = G.low;
      from = G.from;
    }

    pub going-no-own : (q : Sort) → Going p j b n (Parts.Own q ∷ ps) v → own_ok (own_of bs h k) q ≡ false → o ≡ None
    going-no-own q G e = G.whole ∙ ap (λ (y : Bool). in_front G.done (only_if (in_front (own_of bs h k ∷ []) (put! [] n ps j)) y)) e

    pub going-look : (c : Bars) → Going p j b n (Parts.Look c ∷ ps) v → Going (p + 1) j (bars_of c) [] ps v
    going-look c G = record { done = G.done; whole = G.whole; pushed = G.pushed; few = omega (arith, G.few); stand = G.stand; at = G.at; low = G.low; from = G.from }

    pub going-has : (c : Parameter) → Going p j b n (Parts.Has c ∷ ps) v → Going (p + 1) j b n ps v
    going-has c G = record { done = G.done; whole = G.whole; pushed = G.pushed; few = omega (arith, G.few); stand = G.stand; at = G.at; low = G.low; from = G.from }

    pub going-has-not : (c : Parameter) → Going p j b n (Parts.HasNot c ∷ ps) v → Going (p + 1) j b n ps v
    going-has-not c G = record { done = G.done; whole = G.whole; pushed = G.pushed; few = omega (arith, G.few); stand = G.stand; at = G.at; low = G.low; from = G.from }

    -- no other part asks for anything
    pub going-other : (r : Part) → (r ≡ Parts.End → ⊥) → ((c : ℕ) → r ≡ Parts.Word c → ⊥) → ((c : Sort) → r ≡ Parts.Own c → ⊥) → ((c : Kids) → r ≡ Parts.Kids c → ⊥) → ((c : Bars) → r ≡ Parts.Look c → ⊥) → (r ≡ Parts.OneDefault → ⊥)
        → Going p j b n (r ∷ ps) v → Going (p + 1) j b n ps v
    going-other Parts.End e a o k l d G = absurd (e refl)
    going-other (Parts.Word c) e a o k l d G = absurd (a c refl)
    going-other (Parts.Own c) e a o k l d G = absurd (o c refl)
    going-other (Parts.Kids c) e a o k l d G = absurd (k c refl)
    going-other (Parts.Look c) e a o k l d G = absurd (l c refl)
    going-other (Parts.Has c) e a o k l d G = going-has c G
    going-other (Parts.HasNot c) e a o k l d G = going-has-not c G
    going-other Parts.OneDefault e a o k l d G = absurd (d refl)

    -- the default clauses among the next m children
    counted : Going p j b n (Parts.OneDefault ∷ ps) v → m ≤ kid_count m ps → default_count (take_f m (laid_from bs h k (kid_count m ps) j)) ≡ default_count (laid_all (trees_of bs h m j))
    counted G l = defaults-here bs h R k m (kid_count m ps) j G.stand l G.low

    pub going-default : Going p j b n (Parts.OneDefault ∷ ps) v → m ≤ kid_count m ps → leb (default_count (laid_all (trees_of bs h m j))) 1 ≡ true → Going (p + 1) j b n ps v
    going-default G l e = record {
      done = G.done;
      whole = G.whole ∙ ap (λ (y : Bool). in_front G.done (only_if (put! b n ps j) y)) (ap (λ (c : ℕ). leb c 1) (counted G l) ∙ e);
      pushed = G.pushed;
      few = omega (arith, G.few);
      stand = G.stand;
      at = G.at;
      low = G.low;
      from = G.from;
    }

    pub going-no-default : Going p j b n (Parts.OneDefault ∷ ps) v → m ≤ kid_count m ps → leb (default_count (laid_all (trees_of bs h m j))) 1 ≡ false → o ≡ None
    going-no-default G l e = G.whole ∙ ap (λ (y : Bool). in_front G.done (only_if (put! b n ps j) y)) (ap (λ (c : ℕ). leb c 1) (counted G l) ∙ e)

    -- children
    module _ (x : Kids) (G : Going p j b n (Parts.Kids x ∷ ps) v) where
      abbrev c : ℕ
      c = how_many x.style m

      abbrev last : List Word
      last = if_barred b (follow_parts m ps n)

      the-split : Split bs h R k (c + kid_count m ps) j c
      the-split = split bs h R c k (c + kid_count m ps) j G.stand (omega arith) G.low

      rest-many : c + kid_count m ps - c ≡ kid_count m ps
      rest-many = omega arith

      abbrev to : ℕ
      to = j + counts (trees_of bs h c j)

      pub kids-stand : Stand (cores bs h) j c
      kids-stand = the-split.first

      apart : o ≡ in_front G.done (joined (put_list bs h k x s b last c j) (put! [] s.next ps to))
      apart =
          G.whole
          ∙ ap₂ {C = Option (List Word)} (λ (f g : Forest). in_front G.done (joined (put_kids (spelled bs h) x s true b last f) (put_parts (spelled bs h) (own_of bs h k) m s [] s.next ps g)))
          the-split.taken (the-split.dropped ∙ ap (λ (r : ℕ). laid_from bs h k r to) rest-many)

      pub kids-few : counts (trees_of bs h (c + kid_count m ps) j) ≡ counts (trees_of bs h c j) + counts (trees_of bs h (kid_count m ps) to)
      kids-few = the-split.all ∙ ap (λ (r : ℕ). counts (trees_of bs h c j) + counts (trees_of bs h r to)) rest-many

      pub going-kids : {v' : List ℕ} {e : ℕ} → Printed bs h v v' (put_list bs h k x s b last c j) j (counts (trees_of bs h c j)) (14 * counts (trees_of bs h c j)) e → Going (p + 1) e [] s.next ps v'
      going-kids {v'} {e} q = record {
        done = G.done ++ q.tokens;
        whole =
            apart ∙ ap (λ (y : Option (List Word)). in_front G.done (joined y (put! [] s.next ps to))) q.is ∙ front-front G.done q.tokens (put! [] s.next ps to)
            ∙ ap (λ (g : ℕ). in_front (G.done ++ q.tokens) (put! [] s.next ps g)) (sym q.at);
        pushed = pushed-then bs h G.pushed q.pushed;
        few = omega (arith, G.few, q.few, q.at);
        stand = subst (λ (g : ℕ). Stand (cores bs h) g (kid_count m ps)) (sym q.at) (subst (Stand (cores bs h) to) rest-many the-split.rest);
        at = omega (arith, G.at, kids-few, q.at, ap (λ (g : ℕ). counts (trees_of bs h (kid_count m ps) g)) q.at);
        low = omega (arith, G.low, q.at);
        from = omega (arith, G.from, q.at);
      }

      pub going-no-kids : put_list bs h k x s b last c j ≡ None → o ≡ None
      going-no-kids e = apart ∙ ap (λ (y : Option (List Word)). in_front G.done (joined y (put! [] s.next ps to))) e

  -- there is room for the children of the next part, and among them for those whose default clauses are counted
  pub going-room : {p j : ℕ} {b : List (List Word)} {n : List Word} {ps : List Part} {v : List ℕ} → Going p j b n ps v → used v + 14 * counts (trees_of bs h (kid_count m ps) j) ≤ used w + p + 14 * counts (trees_of bs h all i)
  going-room G = omega (arith, G.few, G.at)

  pub going-first : {p j : ℕ} {b : List (List Word)} {n : List Word} {ps : List Part} {v : List ℕ} → Going p j b n ps v → m ≤ kid_count m ps → Stand (cores bs h) j m
  going-first G l = record { inside = G.stand.inside; trees = omega (arith, G.stand.trees) }

  -- nothing is left
  ended : (p j r : ℕ) (v : List ℕ) (done : List Word) → o ≡ in_front done (Some []) → Pushed bs h w v done → used v + 14 * i ≤ used w + p + 14 * j → r ≡ 0 → j + counts (trees_of bs h r j) ≡ i + counts (trees_of bs h all i) → (long : ℕ) → p ≤ long
      → Printed bs h w v o i (counts (trees_of bs h all i)) (long + 14 * counts (trees_of bs h all i)) j
  ended p j r v done e q f z a long l =
      let none : counts (trees_of bs h r j) ≡ 0 = ap (λ (r : ℕ). counts (trees_of bs h r j)) z ∙ ap counts (forest-none (cores bs h) j) in record {
        tokens = done;
        is = e ∙ ap {B = Option (List Word)} Some (append-nil done);
        pushed = q;
        few = omega (arith, f, a, none);
        at = omega (arith, a, none);
      }

  pub going-end : {p j : ℕ} {b : List (List Word)} {n : List Word} {ps : List Part} {v : List ℕ} → Going p j b n (Parts.End ∷ ps) v → (long : ℕ) → p ≤ long → Printed bs h w v o i (counts (trees_of bs h all i)) (long + 14 * counts (trees_of bs h all i)) j
  going-end {p} {j} {v = v} G long l = ended p j 0 v G.done G.whole G.pushed G.few refl G.at long l

  pub going-all : {p j : ℕ} {b : List (List Word)} {n : List Word} {v : List ℕ} → Going p j b n [] v → (long : ℕ) → p ≤ long → Printed bs h w v o i (counts (trees_of bs h all i)) (long + 14 * counts (trees_of bs h all i)) j
  going-all {p} {j} {v = v} G long l = ended p j 0 v G.done G.whole G.pushed G.few refl G.at long l
