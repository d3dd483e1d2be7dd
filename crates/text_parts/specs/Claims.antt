-- What holds of a row's parts. Assumes nothing: these are definitions.
use Rattle.std.specs.Prelude.{◌≡◌, T, Bool, false, List, [], ℕ, ◌*◌, ◌<◌, Option, Some, None, get_or, take, drop}
use Rattle.def_tree.specs.Tree.{Tree, Forest, node, length_f}
use Rattle.def_text.specs.Words.{Word}
use Rattle.def_text.specs.Grammar.{is_for}
use Rattle.def_text.specs.Derives.{number_ok, right_of}
use Rattle.def_text.specs.Print.{opening_of}
use Rattle.text_table.specs.declared.TheConstants.{ALL_PARTS}
use Rattle.text_table.specs.Rows.{rows, no_row}
use Rattle.text_table.specs.Put.{Spot, choice, put}
use Rattle.text_parts.specs.Parts.{row_parts, list_length, PartsFit, kid_count, in_pair, put_parts, begin_parts}

-- the parts of row i stand in the constant table from 11 i on
abbrev pub InTable : Type 0
InTable = (i : ℕ) → i < 136 → take 11 (drop (i * 11) ALL_PARTS) ≡ row_parts i

-- they are for nodes of its kind
abbrev pub Fitting : Type 0
Fitting = (i : ℕ) → i < 136 → PartsFit (get_or rows i no_row).rule.kind (row_parts i)

-- they ask for all children
abbrev pub AllKids : Type 0
AllKids = (k f n i : ℕ) → i < 136 → T (is_for k f n (get_or rows i no_row).rule) → kid_count (list_length i n) (row_parts i) ≡ n

-- what a node itself begins with, by any row for it
abbrev pub Begins : Type 0
Begins = (k f m i : ℕ) (o : Word) (n first : List Word) → i < 136 → T (is_for k f m (get_or rows i no_row).rule) → opening_of o n (right_of k f m) first ≡ begin_parts (list_length i m) o n first (row_parts i)

-- and where there is none
abbrev pub NoRow : Type 0
NoRow = (k f m : ℕ) (o : Word) (n first : List Word) → ((i : ℕ) → i < 136 → is_for k f m (get_or rows i no_row).rule ≡ false) → opening_of o n (right_of k f m) first ≡ []

-- what is put by the parts is what is put by the row
abbrev pub chosen_by : (ℕ → ℕ → Word) → ℕ → Spot → Bool → ℕ → ℕ → Forest → Option (List Word)
chosen_by spell i s b k a ts = in_pair b (put_parts spell (spell k a) (list_length i (length_f ts)) s s.bars s.next (row_parts i) ts)

abbrev pub PutByParts : Type 0
PutByParts = (spell : ℕ → ℕ → Word) (k f a : ℕ) (ts : Forest) (s q : Spot) (i : ℕ) (b : Bool) → T (number_ok k a) → i < 136 → T (is_for k f (length_f ts) (get_or rows i no_row).rule)
    → choice spell (node k f a ts) s ≡ Some (record { row = get_or rows i no_row; spot = q; paired = b })
    → put spell (node k f a ts) s ≡ chosen_by spell i q b k a ts

abbrev pub PutNothing : Type 0
PutNothing = (spell : ℕ → ℕ → Word) (t : Tree) (s : Spot) → choice spell t s ≡ None → put spell t s ≡ None
