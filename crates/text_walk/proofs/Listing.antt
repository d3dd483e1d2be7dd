-- Children of a list, one after the other. Assumes nothing.
use Rattle.std.proofs.Common.{◌≡◌, ℕ, ◌+◌, ◌-◌, ◌*◌, ◌<◌, ◌≤◌, Bool, true, false, List, [], ◌++◌, Option, Some, None, refl, sym, ap, ◌∙◌, append_assoc, append-nil, subst, arith}
use Rattle.def_tree.specs.Tree.{Tree, Forest, nil, count, counts}
use Rattle.def_text.specs.Words.{Word}
use Rattle.file_read.specs.declared.header.Header.{Header}
use Rattle.file_read.specs.Load.{Readable}
use Rattle.words_nodes.proofs.Trees.{count-some}
use Rattle.words_twice.specs.Twice.{Stand}
use Rattle.words_twice.proofs.Places.{forest-none}
use Rattle.text_table.specs.declared.Kids.{Kids}
use Rattle.text_table.specs.Put.{Spot, put}
use Rattle.text_parts.specs.Parts.{in_front, joined, comma_before, behind_child, bars_behind, child_spot, put_kids}
use Rattle.text_parts.proofs.Whole.{front-nothing}
use Rattle.text_choice.specs.Trees.{lay, lay_first, cores, tree_of, trees_of, spelled}
use Rattle.text_walk.specs.Lists.{used, Pushed}
use Rattle.text_walk.specs.Walk.{Printed, extra_at, laid_from}
use Rattle.text_walk.proofs.Numbers.{pushed-none, pushed-then}
use Rattle.text_walk.proofs.Laid.{here, laid-length, trees-cons, stand-past, laid-cons}

pub front-front : (a b : List Word) (o : Option (List Word)) → in_front a (in_front b o) ≡ in_front (a ++ b) o
front-front a b None = refl
front-front a b (Some ws) = ap {B = Option (List Word)} Some (sym (append_assoc a b ws))

module _ (bs : List ℕ) (h : Header) (R : Readable bs h.nodes h.texts) where
  -- ---- children of a list

  module _ (k n i : ℕ) (x : Kids) (s : Spot) (last : List Word) (o : Option (List Word)) (w : List ℕ) where
    -- all but `left` of n children are put, and the next one begins at j
    pub record Listing (left j : ℕ) (first : Bool) (b : List (List Word)) (v : List ℕ) : Type 0 where
      pub done : List Word
      pub whole : o ≡ in_front done (put_kids (spelled bs h) x s first b last (laid_from bs h k left j))
      pub pushed : Pushed bs h w v done
      pub few : used v + 14 * i ≤ used w + 14 * j
      pub stand : Stand (cores bs h) j left
      pub at : j + counts (trees_of bs h left j) ≡ i + counts (trees_of bs h n i)
      pub low : k < j
      pub from : i ≤ j

    module _ {left j : ℕ} {first : Bool} {b : List (List Word)} {v : List ℕ} (L : Listing left j first b v) (z : 0 < left) where
      abbrev t : Tree
      t = lay (extra_at bs h k j) (tree_of bs h j)

      abbrev c : List Word
      c = comma_before x.style first

      abbrev at! : Spot
      at! = child_spot x s (bars_behind c b) (behind_child x.style (left - 1) last)

      abbrev to : ℕ
      to = j + count (tree_of bs h j)

      rest : o ≡ in_front L.done (in_front c (joined (put (spelled bs h) t at!) (put_kids (spelled bs h) x s false [] last (laid_from bs h k (left - 1) to))))
      rest =
          L.whole ∙ ap (λ (ts : Forest). in_front L.done (put_kids (spelled bs h) x s first b last ts)) (laid-cons bs h R k left j L.stand L.low z)
          ∙ ap (λ (m : ℕ). in_front L.done (in_front c (joined (put (spelled bs h) t (child_spot x s (bars_behind c b) (behind_child x.style m last))) (put_kids (spelled bs h) x s false [] last (laid_from bs h k (left - 1) to))))) (laid-length bs h R k (left - 1) to (stand-past bs h R k left j L.stand z))

      -- the next child is put
      pub listing-more : {v₁ v₂ : List ℕ} {e : ℕ} → Pushed bs h v v₁ c → used v₁ ≤ used v + 1 → Printed bs h v₁ v₂ (put (spelled bs h) t at!) j (count (tree_of bs h j)) (14 * count (tree_of bs h j) - 1) e → Listing (left - 1) e false [] v₂
      listing-more {v₁} {v₂} {e} p f q =
          let N = put_kids (spelled bs h) x s false [] last (laid_from bs h k (left - 1) to) in
          let some : 0 < count (tree_of bs h j) = count-some (tree_of bs h j) in record {
            done = L.done ++ (c ++ q.tokens);
            whole =
                rest ∙ ap (λ (y : Option (List Word)). in_front L.done (in_front c (joined y N))) q.is ∙ ap (in_front L.done) (front-front c q.tokens N) ∙ front-front L.done (c ++ q.tokens) N
                ∙ ap (λ (g : ℕ). in_front (L.done ++ (c ++ q.tokens)) (put_kids (spelled bs h) x s false [] last (laid_from bs h k (left - 1) g))) (sym q.at);
            pushed = pushed-then bs h L.pushed (pushed-then bs h p q.pushed);
            few = omega (arith, L.few, f, q.few, q.at, some);
            stand = subst (λ (g : ℕ). Stand (cores bs h) g (left - 1)) (sym q.at) (stand-past bs h R k left j L.stand z);
            at = omega (arith, L.at, q.at, ap counts (trees-cons bs h R k left j L.stand z), ap (λ (g : ℕ). counts (trees_of bs h (left - 1) g)) q.at);
            low = omega (arith, L.low, q.at);
            from = omega (arith, L.from, q.at);
          }

      -- there is room for it
      pub listing-few : used v + 14 * count (tree_of bs h j) ≤ used w + 14 * counts (trees_of bs h n i)
      listing-few = omega (arith, L.few, L.at, ap counts (trees-cons bs h R k left j L.stand z))

      pub listing-here : j < h.nodes
      listing-here = here bs h R k left j L.stand z

      -- it is not
      pub listing-none : put (spelled bs h) t at! ≡ None → o ≡ None
      listing-none e = rest ∙ ap (λ (y : Option (List Word)). in_front L.done (in_front c (joined y (put_kids (spelled bs h) x s false [] last (laid_from bs h k (left - 1) to))))) e

    pub listing-start : (b : List (List Word)) → o ≡ put_kids (spelled bs h) x s true b last (laid_from bs h k n i) → Stand (cores bs h) i n → k < i → Listing n i true b w
    listing-start b e t l = record { done = []; whole = e ∙ sym (front-nothing (put_kids (spelled bs h) x s true b last (laid_from bs h k n i))); pushed = pushed-none bs h w; few = omega arith; stand = t; at = refl; low = l; from = omega arith }

    pub listing-all : {left j : ℕ} {first : Bool} {b : List (List Word)} {v : List ℕ} → Listing left j first b v → left ≡ 0 → Printed bs h w v o i (counts (trees_of bs h n i)) (14 * counts (trees_of bs h n i)) j
    listing-all {left} {j} {first} {b} L e =
        let none : trees_of bs h left j ≡ nil = ap (λ (m : ℕ). trees_of bs h m j) e ∙ forest-none (cores bs h) j in record {
          tokens = L.done;
          is = L.whole ∙ ap (λ (m : ℕ). in_front L.done (put_kids (spelled bs h) x s first b last (laid_from bs h k m j))) e ∙ ap (λ (ts : Forest). in_front L.done (put_kids (spelled bs h) x s first b last (lay_first (extra_at bs h k j) ts))) (forest-none (cores bs h) j) ∙ ap {B = Option (List Word)} Some (append-nil L.done);
          pushed = L.pushed;
          few = omega (arith, L.few, L.at, ap counts none);
          at = omega (arith, L.at, ap counts none);
        }
