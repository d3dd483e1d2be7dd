-- Tests over all rows: what their right sides are like. Assumes nothing.
use Rattle.std.proofs.Common.{◌≡◌, ℕ, zero, suc, ◌+◌, ◌-◌, ◌<◌, ◌≤◌, Bool, true, false, ◌&&◌, ◌||◌, eqb, leb, List, [], ◌∷◌, length, get_or, Option, Some, None, refl, ap, ◌∙◌, arith}
use Rattle.std.specs.Prelude.{T, not}
use Rattle.std.proofs.lemmas.Bool.{eqb-true, leb-true}
use Rattle.def_file.specs.Script.{same_text}
use Rattle.def_text.specs.Words.{Word, every}
use Rattle.def_text.specs.Grammar.{Part, word, own, kid, run, commas, more, look, if_has, if_not, one_default, singles, has_list, is_for}
use Rattle.def_text.specs.Table.{rules}
use Rattle.laws_text.proofs.Basics.{and_left, and_right, is_true, text-eq, Within, here, there, every-at}
use Rattle.text_table.specs.Rows.{words, Row, rows, no_row, bars}
use Rattle.text_words.specs.Words as Words
use Rattle.text_rows.proofs.Tests.{rows-length}
use Rattle.text_spots.specs.Spots.{bars_of}

-- ---- a row by its number

get-within : {A : Type 0} (xs : List A) (i : ℕ) (d : A) → i < length xs → Within (get_or xs i d) xs
get-within [] i d h = absurd (omega arith)
get-within (x ∷ xs) zero d h = here xs
get-within (x ∷ xs) (suc i) d h = there x xs (get-within xs i d (omega arith))

pub row-in : (i : ℕ) → i < 136 → Within (get_or rows i no_row) rows
row-in i h = get-within rows i no_row (omega (arith, rows-length))

pub row-at : (p : Row → Bool) (i : ℕ) → T (every p rows) → i < 136 → T (p (get_or rows i no_row))
row-at p i t h = every-at p (get_or rows i no_row) rows t (row-in i h)

-- ---- right sides

-- a word's number, as the rows have it
abbrev pub number_in : List Word → Word → ℕ
number_in [] w = zero
number_in (v ∷ vs) w = elim (same_text v w) [ true ↦ zero | false ↦ suc (number_in vs w) ]

abbrev pub known : Word → Bool
known w = same_text (Words.word (number_in words w)) w

abbrev same_words : List Word → List Word → Bool
same_words [] [] = true
same_words (v ∷ vs) (w ∷ ws) = same_text v w && same_words vs ws
same_words vs ws = false

abbrev pub same_bars : List (List Word) → List (List Word) → Bool
same_bars [] [] = true
same_bars (b ∷ bs) (c ∷ cs) = same_words b c && same_bars bs cs
same_bars bs cs = false

-- how many children a right side asks for, m of them in each list
abbrev pub need : ℕ → List Part → ℕ
need m [] = zero
need m (word w ∷ ps) = need m ps
need m (own q ∷ ps) = need m ps
need m (kid x ∷ ps) = suc (need m ps)
need m (run x ∷ ps) = m + need m ps
need m (commas x ∷ ps) = m + need m ps
need m (more x ∷ ps) = m + need m ps
need m (look cs ∷ ps) = need m ps
need m (if_has p ∷ ps) = need m ps
need m (if_not p ∷ ps) = need m ps
need m (one_default ∷ ps) = need m ps

-- it has one list at most
abbrev pub one_list : List Part → Bool
one_list [] = true
one_list (word w ∷ ps) = one_list ps
one_list (own q ∷ ps) = one_list ps
one_list (kid x ∷ ps) = one_list ps
one_list (run x ∷ ps) = not (has_list ps)
one_list (commas x ∷ ps) = not (has_list ps)
one_list (more x ∷ ps) = not (has_list ps)
one_list (look cs ∷ ps) = one_list ps
one_list (if_has p ∷ ps) = one_list ps
one_list (if_not p ∷ ps) = one_list ps
one_list (one_default ∷ ps) = one_list ps

abbrev pub unset : Option ℕ → Bool
unset None = true
unset (Some c) = false

abbrev pub ended : List Part → Bool
ended [] = true
ended (p ∷ ps) = false

-- a list has its own places, and stands behind a token or a child, or last
abbrev pub list_ok : Option ℕ → Bool → List Part → Bool
list_ok c b ps = unset c && (b || ended ps)

-- the words are known, the lookaheads too, lists stand as they may, and a test for one default clause stands before nothing but a list; c is the place of
-- the first child, and b that nothing is barred
abbrev pub good : Option ℕ → Bool → List Part → Bool
good c b [] = true
good c b (word w ∷ ps) = known w && good c true ps
good c b (own q ∷ ps) = good c true ps
good c b (kid x ∷ ps) = good None true ps
good c b (run x ∷ ps) = list_ok c b ps && good None true ps
good c b (commas x ∷ ps) = list_ok c b ps && good None true ps
good c b (more x ∷ ps) = list_ok c b ps && good None true ps
good c b (look cs ∷ ps) = same_bars (bars_of (bars cs)) cs && good c false ps
good c b (if_has p ∷ ps) = good c b ps
good c b (if_not p ∷ ps) = good c b ps
good c b (one_default ∷ ps) = (eqb (singles ps) 0 && has_list ps && one_list ps) && good c b ps

abbrev row_good : Row → Bool
row_good r = (leb (length r.rule.right) 11 && one_list r.rule.right) && good r.first false r.rule.right

rows-good : T (every row_good rows)
unfolding rows rules words Words.word
rows-good = tt

pub record GoodRow (r : Row) : Type 0 where
  pub short : length r.rule.right ≤ 11
  pub lists : T (one_list r.rule.right)
  pub fine : T (good r.first false r.rule.right)

pub good-at : (i : ℕ) → i < 136 → GoodRow (get_or rows i no_row)
good-at i h =
    let r = get_or rows i no_row in
    let t = row-at row_good i rows-good h in
    let a = and_left (leb (length r.rule.right) 11 && one_list r.rule.right) (good r.first false r.rule.right) t in
    record {
      short = leb-true (length r.rule.right) 11 (is_true _ (and_left (leb (length r.rule.right) 11) (one_list r.rule.right) a));
      lists = and_right (leb (length r.rule.right) 11) (one_list r.rule.right) a;
      fine = and_right (leb (length r.rule.right) 11 && one_list r.rule.right) (good r.first false r.rule.right) t;
    }

-- ---- what the tests say

pub known-word : (w : Word) → T (known w) → Words.word (number_in words w) ≡ w
known-word w h = text-eq (Words.word (number_in words w)) w h

-- the comma
pub comma-word : Words.word 84 ≡ 44 ∷ []
unfolding words Words.word
comma-word = refl

words-eq : (vs ws : List Word) → T (same_words vs ws) → vs ≡ ws
words-eq [] [] h = refl
words-eq [] (w ∷ ws) h = absurd h
words-eq (v ∷ vs) [] h = absurd h
words-eq (v ∷ vs) (w ∷ ws) h = rw (text-eq v w (and_left (same_text v w) (same_words vs ws) h), words-eq vs ws (and_right (same_text v w) (same_words vs ws) h)) refl

pub bars-eq : (bs cs : List (List Word)) → T (same_bars bs cs) → bs ≡ cs
bars-eq [] [] h = refl
bars-eq [] (c ∷ cs) h = absurd h
bars-eq (b ∷ bs) [] h = absurd h
bars-eq (b ∷ bs) (c ∷ cs) h = rw (words-eq b c (and_left (same_words b c) (same_bars bs cs) h), bars-eq bs cs (and_right (same_words b c) (same_bars bs cs) h)) refl

-- without a list it asks for the single ones, and with one for the list's besides
pub need-single : (m : ℕ) (ps : List Part) → has_list ps ≡ false → need m ps ≡ singles ps
need-single m [] h = refl
need-single m (word w ∷ ps) h = need-single m ps h
need-single m (own q ∷ ps) h = need-single m ps h
need-single m (kid x ∷ ps) h = ap suc (need-single m ps h)
need-single m (run x ∷ ps) h = absurd (cc)
need-single m (commas x ∷ ps) h = absurd (cc)
need-single m (more x ∷ ps) h = absurd (cc)
need-single m (look cs ∷ ps) h = need-single m ps h
need-single m (if_has p ∷ ps) h = need-single m ps h
need-single m (if_not p ∷ ps) h = need-single m ps h
need-single m (one_default ∷ ps) h = need-single m ps h

not-false : (b : Bool) → T (not b) → b ≡ false
not-false true h = absurd h
not-false false h = refl

pub need-list : (m : ℕ) (ps : List Part) → T (one_list ps) → has_list ps ≡ true → need m ps ≡ m + singles ps
need-list m [] o h = absurd (cc)
need-list m (word w ∷ ps) o h = need-list m ps o h
need-list m (own q ∷ ps) o h = need-list m ps o h
need-list m (kid x ∷ ps) o h = let e = need-list m ps o h in omega (arith, e)
need-list m (run x ∷ ps) o h = ap (λ (n : ℕ). m + n) (need-single m ps (not-false _ o))
need-list m (commas x ∷ ps) o h = ap (λ (n : ℕ). m + n) (need-single m ps (not-false _ o))
need-list m (more x ∷ ps) o h = ap (λ (n : ℕ). m + n) (need-single m ps (not-false _ o))
need-list m (look cs ∷ ps) o h = need-list m ps o h
need-list m (if_has p ∷ ps) o h = need-list m ps o h
need-list m (if_not p ∷ ps) o h = need-list m ps o h
need-list m (one_default ∷ ps) o h = need-list m ps o h

-- a row for a node asks for the node's children
counted : (n : ℕ) (ps : List Part) (l : Bool) → has_list ps ≡ l → T (one_list ps) → (b : Bool) → eqb (singles ps) n ≡ b → T (b || (l && leb (singles ps) n)) → need (n - singles ps) ps ≡ n
counted n ps false e o true q h = need-single (n - singles ps) ps e ∙ eqb-true (singles ps) n q
counted n ps false e o false q h = absurd h
counted n ps true e o true q h = let i = eqb-true (singles ps) n q in need-list (n - singles ps) ps o e ∙ omega arith
counted n ps true e o false q h = let i = leb-true (singles ps) n (is_true _ h) in need-list (n - singles ps) ps o e ∙ omega arith

pub need-all : (k f n i : ℕ) → i < 136 → T (is_for k f n (get_or rows i no_row).rule) → need (n - singles (get_or rows i no_row).rule.right) (get_or rows i no_row).rule.right ≡ n
need-all k f n i l h =
    let r = (get_or rows i no_row).rule in
    counted n r.right (has_list r.right) refl (good-at i l).lists (eqb (singles r.right) n) refl (and_right (eqb r.kind k && eqb r.form f) (eqb (singles r.right) n || (has_list r.right && leb (singles r.right) n)) h)
