-- A row for a node asks for no more single children than there are. Assumes nothing.
use Rattle.std.proofs.Common.{◌≡◌, ℕ, ◌≤◌, ◌<◌, Bool, true, false, ◌&&◌, ◌||◌, eqb, leb, get_or, ap, refl, arith}
use Rattle.std.specs.Prelude.{T}
use Rattle.std.proofs.lemmas.Bool.{eqb-true, leb-true}
use Rattle.def_text.specs.Grammar.{Rule, singles, has_list, is_for}
use Rattle.laws_text.proofs.Rows.{for-count}
use Rattle.laws_text.proofs.Basics.{and_right, is_true}
use Rattle.text_table.specs.declared.TheConstants.{ROWS}
use Rattle.text_table.specs.declared.Row.{Row as Entry}
use Rattle.text_table.specs.Rows.{rows, no_row}
use Rattle.text_rows.proofs.Tests.{table-at}

pub singles-few : (k f n : ℕ) (r : Rule) → T (is_for k f n r) → singles r.right ≤ n
singles-few k f n r t = go (eqb (singles r.right) n) refl (for-count k f n r t)
  where
    go : (b : Bool) → eqb (singles r.right) n ≡ b → T (b || (has_list r.right && leb (singles r.right) n)) → singles r.right ≤ n
    go true e u = omega (arith, eqb-true (singles r.right) n e)
    go false e u = leb-true (singles r.right) n (is_true (leb (singles r.right) n) (and_right (has_list r.right) (leb (singles r.right) n) u))

pub singles-at : (i : ℕ) (d : Entry) → i < 136 → (get_or ROWS i d).singles ≡ singles (get_or rows i no_row).rule.right
singles-at i d l = ap (λ (x : Entry). x.singles) (table-at i d l)
