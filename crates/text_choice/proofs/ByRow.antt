-- What a node begins with, by a row for it. Assumes nothing.
use Rattle.std.proofs.Common.{◌≡◌, ℕ, ◌+◌, ◌-◌, ◌*◌, ◌<◌, ◌≤◌, Bool, true, false, ◌&&◌, ◌||◌, eqb, leb, List, get_or, take, drop, refl, sym, ap, ◌∙◌, subst, arith}
use Rattle.std.specs.Prelude.{T}
use Rattle.std.proofs.lemmas.Bool.{eqb-true}
use lib.Dec.{leb→le}
use Rattle.def_tree.specs.Tree.{Forest, length_f}
use Rattle.def_tree.proofs.Tests.{and_left, and_right, is_true}
use Rattle.def_file.specs.declared.Raw.{Raw}
use Rattle.def_file.specs.declared.kind.Kind.TheVariants as Kinds
use Rattle.def_file.specs.Named.{is_kind}
use Rattle.def_text.specs.Words.{Word}
use Rattle.def_text.specs.Grammar.{is_for, singles, has_list}
use Rattle.def_text.specs.Print.{opening, opening_first}
use Rattle.file_read.specs.declared.header.Header.{Header}
use Rattle.file_read.specs.Load.{Readable}
use Rattle.text_table.specs.declared.TheConstants.{ALL_PARTS, ROWS}
use Rattle.text_table.specs.declared.Row.{Row as Entry}
use Rattle.text_table.specs.Rows.{rows, no_row}
use Rattle.text_rows.proofs.Tests.{table-at}
use Rattle.text_tokens.specs.Tokens.{node_of, own_of}
use Rattle.text_parts.specs.Parts.{row_parts, list_length, PartsFit, begin_parts}
use Rattle.text_parts.proofs.Table.{in-table, fitting}
use Rattle.text_parts.proofs.Begins.{begins, no-row}
use Rattle.text_parts.proofs.Uses.{do-while-row, do-while-begins}
use Rattle.text_choice.specs.declared.opening.Beginning.{Beginning}
use Rattle.text_choice.specs.declared.opening.Beginning.TheVariants as Beginnings
use Rattle.text_choice.specs.Trees.{spelled, kids_of, shown}
use Rattle.text_choice.specs.Choice.{first_tokens, Opens}
use Rattle.text_choice.proofs.Planted.{kids-laid, length-kids}
use Rattle.text_choice.proofs.Openings.{opens-nothing}

-- its parts in the constant table
pub parts-there : (i : ℕ) → i < 136 → take (i * 11 + 11 - i * 11) (drop (i * 11) ALL_PARTS) ≡ row_parts i
parts-there i l = let e : i * 11 + 11 - i * 11 ≡ 11 = omega arith in ap (λ (n : ℕ). take n (drop (i * 11) ALL_PARTS)) e ∙ in-table i l

pub singles-there : (i : ℕ) (d : Entry) → i < 136 → (get_or ROWS i d).singles ≡ singles (get_or rows i no_row).rule.right
singles-there i d l = ap (λ (x : Entry). x.singles) (table-at i d l)

module _ (k f n i : ℕ) (l : i < 136) (h : T (is_for k f n (get_or rows i no_row).rule)) where
  pub row-kind : (get_or rows i no_row).rule.kind ≡ k
  row-kind =
      let r = (get_or rows i no_row).rule in
      eqb-true r.kind k (is_true _ (and_left (eqb r.kind k) (eqb r.form f) (and_left (eqb r.kind k && eqb r.form f) (eqb (singles r.right) n || (has_list r.right && leb (singles r.right) n)) h)))

  pub row-singles : singles (get_or rows i no_row).rule.right ≤ n
  row-singles =
      let r = (get_or rows i no_row).rule in
      go (eqb (singles r.right) n) refl (has_list r.right) (and_right (eqb r.kind k && eqb r.form f) (eqb (singles r.right) n || (has_list r.right && leb (singles r.right) n)) h)
    where
      go : (a : Bool) → eqb (singles (get_or rows i no_row).rule.right) n ≡ a → (b : Bool) → T (a || (b && leb (singles (get_or rows i no_row).rule.right) n)) → singles (get_or rows i no_row).rule.right ≤ n
      go true e b t = (let q = eqb-true (singles (get_or rows i no_row).rule.right) n e in omega arith)
      go false e true t = leb→le (singles (get_or rows i no_row).rule.right) n t
      go false e false t = absurd t

  pub row-fits : PartsFit k (row_parts i)
  row-fits = subst (λ (j : ℕ). PartsFit j (row_parts i)) row-kind (fitting i l)

module _ (bs : List ℕ) (h : Header) (R : Readable bs h.nodes h.texts) (k : ℕ) (b : k < h.nodes) (f : ℕ) (n : List Word) where
  abbrev x : Raw
  x = node_of bs h k

  module _ (i : ℕ) (l : i < 136) (t : T (is_for x.kind f x.arity (get_or rows i no_row).rule)) where
    -- of 11, whose first child is another in a file, it does not matter
    first-same : begin_parts (list_length i x.arity) (own_of bs h k) n (opening_first (spelled bs h) (kids_of bs h k)) (row_parts i) ≡ begin_parts (list_length i x.arity) (own_of bs h k) n (first_tokens bs h k) (row_parts i)
    first-same = go (is_kind Kinds.DoWhile x.kind) refl
      where
        go : (a : Bool) → is_kind Kinds.DoWhile x.kind ≡ a → begin_parts (list_length i x.arity) (own_of bs h k) n (opening_first (spelled bs h) (kids_of bs h k)) (row_parts i) ≡ begin_parts (list_length i x.arity) (own_of bs h k) n (first_tokens bs h k) (row_parts i)
        go false e = ap (λ (ts : Forest). begin_parts (list_length i x.arity) (own_of bs h k) n (opening_first (spelled bs h) ts) (row_parts i)) (kids-laid bs h R k b e)
        go true e =
            let q = eqb-true x.kind 11 e in
            let s = (do-while-row f x.arity i l (subst (λ (j : ℕ). T (is_for j f x.arity (get_or rows i no_row).rule)) q t)).0 in
            ap (λ (j : ℕ). begin_parts (list_length i x.arity) (own_of bs h k) n (opening_first (spelled bs h) (kids_of bs h k)) (row_parts j)) s
            ∙ do-while-begins (list_length i x.arity) (own_of bs h k) n (opening_first (spelled bs h) (kids_of bs h k)) (first_tokens bs h k)
            ∙ ap (λ (j : ℕ). begin_parts (list_length i x.arity) (own_of bs h k) n (first_tokens bs h k) (row_parts j)) (sym s)

    opening-is : opening (spelled bs h) (shown bs h k f) n ≡ begin_parts (list_length i x.arity) (own_of bs h k) n (first_tokens bs h k) (row_parts i)
    opening-is =
        let m = length-kids bs h R k b in
        begins x.kind f (length_f (kids_of bs h k)) i (own_of bs h k) n (opening_first (spelled bs h) (kids_of bs h k)) l (subst (λ (j : ℕ). T (is_for x.kind f j (get_or rows i no_row).rule)) (sym m) t)
        ∙ ap (λ (j : ℕ). begin_parts (list_length i j) (own_of bs h k) n (opening_first (spelled bs h) (kids_of bs h k)) (row_parts i)) m
        ∙ first-same

    pub opens-by : (o : Beginning) → Opens o (begin_parts (list_length i x.arity) (own_of bs h k) n (first_tokens bs h k) (row_parts i)) → Opens o (opening (spelled bs h) (shown bs h k f) n)
    opens-by o q = subst (λ (ws : List Word). Opens o ws) (sym opening-is) q

  pub opens-none : ((i : ℕ) → i < 136 → is_for x.kind f x.arity (get_or rows i no_row).rule ≡ false) → Opens Beginnings.Other (opening (spelled bs h) (shown bs h k f) n)
  opens-none q = subst (λ (ws : List Word). Opens Beginnings.Other ws)
      (sym (no-row x.kind f (length_f (kids_of bs h k)) (own_of bs h k) n (opening_first (spelled bs h) (kids_of bs h k)) (λ i l. ap (λ (j : ℕ). is_for x.kind f j (get_or rows i no_row).rule) (length-kids bs h R k b) ∙ q i l)))
      opens-nothing
