-- Where a row counts default clauses it has a list. Assumes nothing.
use Rattle.std.proofs.Common.{◌≡◌, ℕ, zero, suc, ◌+◌, ◌<◌, ◌≤◌, Bool, true, false, ◌||◌, ◌&&◌, List, [], ◌∷◌, get_or, take, drop, refl, sym, subst, arith}
use Rattle.std.specs.Prelude.{T}
use Rattle.def_text.specs.Words.{every}
use Rattle.def_text.specs.Table.{rules}
use Rattle.laws_text.proofs.Basics.{and_left, and_right}
use Rattle.text_table.specs.declared.Part.{Part}
use Rattle.text_table.specs.declared.Part.TheVariants as Parts
use Rattle.text_table.specs.declared.Style.{Style}
use Rattle.text_table.specs.declared.Style.TheVariants as Styles
use Rattle.text_table.specs.Rows.{words, rows, parts_of}
use Rattle.text_parts.specs.Parts.{how_many, kid_count, row_parts}
use Rattle.text_parts.proofs.Tests.{row-at}
use Rattle.text_walk.specs.Walk.{DefaultsFit}

abbrev is_list : Style → Bool
is_list Styles.One = false
is_list Styles.Run = true
is_list Styles.Commas = true
is_list Styles.More = true

-- a list comes
abbrev listed : List Part → Bool
listed [] = false
listed (Parts.End ∷ ps) = false
listed (Parts.Kids x ∷ ps) = is_list x.style || listed ps
listed (p ∷ ps) = listed ps

abbrev fine : List Part → Bool
fine [] = true
fine (Parts.OneDefault ∷ ps) = listed ps && fine ps
fine (p ∷ ps) = fine ps

many : (s : Style) (m : ℕ) → T (is_list s) → how_many s m ≡ m
many Styles.One m t = absurd t
many Styles.Run m t = refl
many Styles.Commas m t = refl
many Styles.More m t = refl

enough : (m : ℕ) (ps : List Part) → T (listed ps) → m ≤ kid_count m ps
enough m [] t = absurd t
enough m (Parts.End ∷ ps) t = absurd t
enough m (Parts.Word i ∷ ps) t = enough m ps t
enough m (Parts.Own q ∷ ps) t = enough m ps t
enough m (Parts.Kids x ∷ ps) t = go (is_list x.style) refl t (enough m ps)
  where
    go : (b : Bool) → is_list x.style ≡ b → T (b || listed ps) → (T (listed ps) → m ≤ kid_count m ps) → m ≤ how_many x.style m + kid_count m ps
    go true e u f = omega (arith, many x.style m (subst T (sym e) tt))
    go false e u f = omega (arith, f u)
enough m (Parts.Look b ∷ ps) t = enough m ps t
enough m (Parts.Has p ∷ ps) t = enough m ps t
enough m (Parts.HasNot p ∷ ps) t = enough m ps t
enough m (Parts.OneDefault ∷ ps) t = enough m ps t

tail-fine : (p : Part) (ps : List Part) → T (fine (p ∷ ps)) → T (fine ps)
tail-fine Parts.End ps t = t
tail-fine (Parts.Word i) ps t = t
tail-fine (Parts.Own q) ps t = t
tail-fine (Parts.Kids x) ps t = t
tail-fine (Parts.Look b) ps t = t
tail-fine (Parts.Has q) ps t = t
tail-fine (Parts.HasNot q) ps t = t
tail-fine Parts.OneDefault ps t = and_right (listed ps) (fine ps) t

at-default : (m : ℕ) (p : Part) (ps : List Part) → T (fine (p ∷ ps)) → p ≡ Parts.OneDefault → m ≤ kid_count m (p ∷ ps)
at-default m Parts.OneDefault ps t e = enough m ps (and_left (listed ps) (fine ps) t)
at-default m Parts.End ps t e = absurd (cc)
at-default m (Parts.Word i) ps t e = absurd (cc)
at-default m (Parts.Own q) ps t e = absurd (cc)
at-default m (Parts.Kids x) ps t e = absurd (cc)
at-default m (Parts.Look b) ps t e = absurd (cc)
at-default m (Parts.Has q) ps t e = absurd (cc)
at-default m (Parts.HasNot q) ps t e = absurd (cc)

fine-at : (m : ℕ) (ps : List Part) → T (fine ps) → (j : ℕ) → get_or ps j Parts.End ≡ Parts.OneDefault → m ≤ kid_count m (drop j ps)
fine-at m [] t j e = absurd (cc)
fine-at m (p ∷ ps) t zero e = at-default m p ps t e
fine-at m (p ∷ ps) t (suc j) e = fine-at m ps (tail-fine p ps t) j e

rows-fine : T (every (λ r. fine (parts_of r)) rows)
unfolding rows rules words parts_of
rows-fine = tt

pub row-defaults : (m i : ℕ) → i < 136 → DefaultsFit m (row_parts i)
row-defaults m i l = record { each = fine-at m (row_parts i) (row-at (λ r. fine (parts_of r)) i rows-fine l) }

front-fine : T (fine (take 2 (row_parts 23)))
unfolding rows rules words parts_of
front-fine = tt

back-fine : T (fine (drop 2 (row_parts 23)))
unfolding rows rules words parts_of
back-fine = tt

pub front-defaults : (m : ℕ) → DefaultsFit m (take 2 (row_parts 23))
front-defaults m = record { each = fine-at m (take 2 (row_parts 23)) front-fine }

pub back-defaults : (m : ℕ) → DefaultsFit m (drop 2 (row_parts 23))
back-defaults m = record { each = fine-at m (drop 2 (row_parts 23)) back-fine }
