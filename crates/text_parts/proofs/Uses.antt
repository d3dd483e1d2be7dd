-- What else is of use where a row's parts are read: parts of its parts, a node's number, and the two halves of a do-while. Assumes nothing.
use Rattle.std.proofs.Common.{◌≡◌, ℕ, zero, suc, ◌+◌, ◌<◌, Bool, true, false, ◌&&◌, ◌||◌, eqb, List, [], ◌∷◌, get_or, take, drop, Option, Some, refl, sym, ap, ◌∙◌, subst}
use Rattle.std.specs.Prelude.{T, not}
use Rattle.std.proofs.lemmas.Bool.{eqb-true}
use Rattle.std.proofs.lemmas.List.{get_or-drop}
use Rattle.def_tree.specs.Tree.{Tree, nil, cons}
use Rattle.def_tree.specs.Base.{pick}
use Rattle.def_file.specs.declared.Raw.{Raw}
use Rattle.def_file.specs.declared.kind.Kind.TheVariants as Kinds
use Rattle.def_file.specs.Named.{is_kind}
use Rattle.def_file.specs.Kinds.{uses_text}
use Rattle.def_text.specs.Words.{Word}
use Rattle.def_text.specs.Grammar.{is_for}
use Rattle.def_text.specs.Table.{rules}
use Rattle.def_text.specs.Derives.{number_ok}
use Rattle.def_text.specs.Entry.{own_number}
use Rattle.laws_text.proofs.Basics.{and_left, and_right, is_true}
use Rattle.text_table.specs.declared.Mode.TheVariants as Modes
use Rattle.text_table.specs.declared.Style.TheVariants as Styles
use Rattle.text_table.specs.declared.Kids.{Kids}
use Rattle.text_table.specs.declared.Part.{Part}
use Rattle.text_table.specs.declared.Part.TheVariants as Parts
use Rattle.text_table.specs.Rows.{words, rows, no_row, parts_of}
use Rattle.text_table.specs.Put.{Spot}
use Rattle.text_words.specs.Words as Words
use Rattle.text_rows.proofs.Tests.{all_below, below-at}
use Rattle.text_parts.specs.Parts.{row_parts, PartFits, PartsFit, kid_count, begin_parts, in_front, joined, put_kids, put_parts}
use Rattle.text_parts.proofs.Whole.{front-joined, joined-nothing}

-- ---- some of the parts fit too

pub fits-drop : (k : ℕ) (ps : List Part) → PartsFit k ps → (j : ℕ) → PartsFit k (drop j ps)
fits-drop k ps f j = record { each = λ (i : ℕ). subst (PartFits k) (sym (get_or-drop j ps i Parts.End)) (f.each (j + i)) }

taken-fits : (k : ℕ) (ps : List Part) (j i : ℕ) → PartFits k (get_or ps i Parts.End) → PartFits k (get_or (take j ps) i Parts.End)
taken-fits k ps zero i f = tt
taken-fits k [] (suc j) i f = tt
taken-fits k (p ∷ ps) (suc j) zero f = f
taken-fits k (p ∷ ps) (suc j) (suc i) f = taken-fits k ps j i f

pub fits-take : (k : ℕ) (ps : List Part) → PartsFit k ps → (j : ℕ) → PartsFit k (take j ps)
fits-take k ps f j = record { each = λ (i : ℕ). taken-fits k ps j i (f.each i) }

-- ---- a node's number is one of its kind

pub number-fine : (x : Raw) → T (number_ok x.kind (own_number x))
number-fine x = go (uses_text x.kind) (is_kind Kinds.Number x.kind)
  where
    go : (b c : Bool) → T (b || c || eqb (pick b x.text (pick c x.bits 0)) 0)
    go true c = tt
    go false true = tt
    go false false = tt

-- ---- a do-while, whose children stand in a file the other way round

abbrev one_row : ℕ → Bool
one_row i = not (eqb (get_or rows i no_row).rule.kind 11) || eqb i 23

one-row : T (all_below one_row 136)
unfolding rows rules
one-row = tt

two-kids : (f n : ℕ) → T (is_for 11 f n (get_or rows 23 no_row).rule) → n ≡ 2
unfolding rows rules
two-kids f n h = sym (eqb-true 2 n (is_true _ (left (eqb 2 n) (and_right (eqb 0 f) (eqb 2 n || false) h))))
  where
    left : (b : Bool) → T (b || false) → T b
    left true t = t
    left false t = t

pub do-while-row : (f n i : ℕ) → i < 136 → T (is_for 11 f n (get_or rows i no_row).rule) → (i ≡ 23) × (n ≡ 2)
do-while-row f n i l h =
    let r = (get_or rows i no_row).rule in
    let k = and_left (eqb r.kind 11) (eqb r.form f) (and_left (eqb r.kind 11 && eqb r.form f) _ h) in
    let e = eqb-true i 23 (is_true _ (other (eqb r.kind 11) (eqb i 23) k (below-at one_row 136 i one-row l))) in
    (e, two-kids f n (subst (λ (j : ℕ). T (is_for 11 f n (get_or rows j no_row).rule)) e h))
  where
    other : (b c : Bool) → T b → T (not b || c) → T c
    other true c t h = h
    other false c t h = absurd t

-- where its statement stands
abbrev body : Kids
body = record { place = 2; has_in = Modes.Plus; has_return = Modes.Same; has_else = Modes.Minus; style = Styles.One }

in-two : (w : List Word) (a b : Option (List Word)) → in_front w (joined a b) ≡ joined (in_front w (joined a (Some []))) b
in-two w a b = sym (front-joined w (joined a (Some [])) b ∙ ap (λ (y : Option (List Word)). in_front w (joined y b)) (joined-nothing a))

pub do-while : (spell : ℕ → ℕ → Word) (o : Word) (m : ℕ) (s : Spot) (bs : List (List Word)) (n : List Word) (t u : Tree)
    → put_parts spell o m s bs n (row_parts 23) (cons t (cons u nil)) ≡ joined (put_parts spell o m s bs n (take 2 (row_parts 23)) (cons t nil)) (put_parts spell o m s bs n (drop 2 (row_parts 23)) (cons u nil))
unfolding rows rules parts_of words
do-while spell o m s bs n t u = in-two (Words.word 14 ∷ []) (put_kids spell body s true [] [] (cons t nil)) (put_parts spell o m s [] s.next (drop 2 (row_parts 23)) (cons u nil))

-- each half has one child
pub do-count : (m : ℕ) → kid_count m (take 2 (row_parts 23)) ≡ 1
unfolding rows rules parts_of words
do-count m = refl

pub while-count : (m : ℕ) → kid_count m (drop 2 (row_parts 23)) ≡ 1
unfolding rows rules parts_of words
while-count m = refl

-- it begins with a word, whatever its first child begins with
pub do-while-begins : (m : ℕ) (o : Word) (n first other : List Word) → begin_parts m o n first (row_parts 23) ≡ begin_parts m o n other (row_parts 23)
unfolding rows rules parts_of words
do-while-begins m o n first other = refl
