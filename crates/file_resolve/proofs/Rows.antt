-- Refusals of texts and nodes (5, 6), and what passed them. Assumes nothing.
use mathlib.Core.Path.{◌≡◌, refl, sym, ap, ap₂, ◌∙◌}
use mathlib.Core.Bool.{Bool, true, false, ◌&&◌}
use mathlib.Core.List.{List, [], ◌∷◌}
use Prim.Native.Nat.{ℕ, ◌+◌, ◌*◌}
use lib.ListN.{drop}
use Rattle.std.proofs.Common.{Ok, Err}
use Rattle.refusal.specs.declared.Refusal.{Refusal}
use Rattle.refusal.specs.Number.{number}
use Rattle.def_file.specs.Read.{Read, bad, script, u32, rising, distinct, nodes_ok, fills, nodes_from, ends_from}
use Rattle.def_resolve.specs.Entry.{shaped, parts_shaped, read_shaped}
use Rattle.file_read.specs.declared.header.Header.{Header}
use Rattle.file_read.specs.Child.{root_place}
use Rattle.file_read.specs.Text.{texts_of}
use Rattle.file_read.specs.Head.{places, HeadIs, Counts}
use Rattle.file_read.proofs.Strings.{count-texts}
use Rattle.file_read.proofs.Readings as read
use Rattle.file_resolve.specs.Check.{read_of, Shaped}

-- after the header
pub read-not : {bs : List ℕ} {m : Refusal} → HeadIs bs (Err m) → read_shaped bs ≡ bad (number m)
unfolding read_shaped
read-not {bs} f = f.is (parts_shaped (u32 bs 8) (u32 bs 16) (u32 bs 28) bs)

module _ {bs : List ℕ} {h : Header} (f : HeadIs bs (Ok h)) where
  abbrev n : ℕ
  n = h.nodes

  abbrev t : ℕ
  t = h.texts

  abbrev ends : List ℕ
  ends = ends_from t (drop (32 + 16 * n) bs)

  abbrev texts : List (List ℕ)
  texts = texts_of bs (places n t)

  counts : Counts bs h
  counts = f.counts

  to-parts : read_shaped bs ≡ parts_shaped n t h.bytes bs
  unfolding read_shaped
  to-parts =
      f.is (parts_shaped (u32 bs 8) (u32 bs 16) (u32 bs 28) bs)
      ∙ sym (ap (λ (m : ℕ). parts_shaped m h.texts h.bytes bs) counts.nodes ∙ ap (λ (m : ℕ). parts_shaped (u32 bs 8) m h.bytes bs) counts.texts ∙ ap (λ (m : ℕ). parts_shaped (u32 bs 8) (u32 bs 16) m bs) counts.bytes)

  by-texts : (a b : Bool) → rising 0 ends h.bytes ≡ a → distinct texts ≡ b → read_shaped bs ≡ elim (a && b) [ false ↦ bad 5 | true ↦ shaped (read_of bs h) ]
  by-texts a b p q = to-parts ∙ ap₂ {C = Read} (λ (x y : Bool). elim (x && y) [ false ↦ bad 5 | true ↦ shaped (read_of bs h) ]) p q

  pub falls : rising 0 ends h.bytes ≡ false → read_shaped bs ≡ bad 5
  falls p = by-texts false (distinct texts) p refl

  pub twice : rising 0 ends h.bytes ≡ true → distinct texts ≡ false → read_shaped bs ≡ bad 5
  twice p q = by-texts true false p q

  module _ (p : rising 0 ends h.bytes ≡ true) (q : distinct texts ≡ true) where
    abbrev row6 : Bool
    row6 = fills t (root_place ∷ []) (nodes_from n (drop 32 bs))

    nodes-same : nodes_ok (read_of bs h) ≡ row6
    unfolding nodes_ok
    nodes-same = ap (λ (m : ℕ). fills m (root_place ∷ []) (nodes_from n (drop 32 bs))) (count-texts (read.placed [] f p))

    by-nodes : (b : Bool) → row6 ≡ b → read_shaped bs ≡ elim b [ false ↦ bad 6 | true ↦ script (read_of bs h) ]
    by-nodes b o = by-texts true true p q ∙ ap {B = Read} (λ (b : Bool). elim b [ false ↦ bad 6 | true ↦ script (read_of bs h) ]) (nodes-same ∙ o)

    pub not-nodes : row6 ≡ false → read_shaped bs ≡ bad 6
    not-nodes o = by-nodes false o

    pub passed : row6 ≡ true → Shaped bs h
    passed o = record {
      counts = counts;
      readable = record { some = counts.some; few = counts.few; placed = read.placed [] f p; ok = nodes-same ∙ o };
      apart = q;
      is = by-nodes true o;
    }
