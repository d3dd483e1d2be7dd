-- A tree by its row, a row by its parts, a part's children one by one. Assumes nothing.
use Rattle.std.proofs.Common.{◌≡◌, ℕ, zero, suc, eqb, not, ◌⊎◌, inl, inr, ◌+◌, ◌-◌, ◌<◌, ◌≤◌, Bool, true, false, List, [], ◌∷◌, length, length-take, length-drop, drop, get_or, Option, Some, None, refl, sym, ap, ap₂, ◌∙◌, subst, add-one, arith}
use Rattle.std.proofs.Math.Seq.{drop-cons}
use Rattle.def_tree.specs.Tree.{counts}
use Rattle.def_file.specs.declared.Raw.{Raw}
use Rattle.def_text.specs.Words.{Word}
use Rattle.file_read.specs.declared.header.Header.{Header}
use Rattle.text_table.specs.declared.Kids.{Kids}
use Rattle.std.specs.Prelude.{T}
use Rattle.def_file.specs.Kinds.{uses_text}
use Rattle.def_file.specs.Named.{is_kind}
use Rattle.def_file.specs.declared.kind.Kind.TheVariants.{DoWhile}
use Rattle.std.proofs.lemmas.Bool.{eqb-true}
use Rattle.words_twice.specs.Twice.{Stand}
use Rattle.words_nodes.proofs.Trees.{count-some}
use Rattle.text_table.specs.declared.Sort.{Sort}
use Rattle.text_table.specs.declared.Sort.TheVariants as Sorts
use Rattle.text_table.specs.declared.Part.{Part}
use Rattle.text_table.specs.declared.Part.TheVariants as Parts
use Rattle.text_table.specs.Put as Put
use Rattle.text_table.specs.Put.{if_barred}
use Rattle.text_spots.specs.Spots.{bars_of, next_of, spot_of}
use Rattle.text_parts.specs.Parts.{list_length, kid_count, PartFits, PartsFit, comma_before, behind_child, bars_behind, child_spot}
use Rattle.text_parts.proofs.Uses.{fits-take, fits-drop}
use Rattle.text_tokens.specs.Tokens.{node_of, SortFits}
use Rattle.text_choice.specs.Trees.{lay, cores, tree_of, trees_of, spelled, form_of}
use Rattle.text_choice.proofs.Planted.{form-few}
use Rattle.text_walk.specs.Lists.{Appended}
use Rattle.text_walk.specs.Walk.{DefaultsFit, extra_at, put_tree, put_list, put_right, TreeIs, RowIs, RightIs, ListIs}
use Rattle.text_walk.proofs.Numbers.{kept-none, kept-then, pushed-word, pushed-own}
use Rattle.text_walk.proofs.Node as nodes
use Rattle.text_walk.proofs.Listing as listing
use Rattle.text_walk.proofs.Going as going
use Rattle.text_walk.proofs.walk.Printer.+print.Goals as goal
use Rattle.text_walk.proofs.walk.Printer.+print.Goals.{right-in-Word, right-in-Own+else-not-own_ok, right-in-Kids+in_ok-next-in-Kids, right-in-Look, right-in-OneDefault+else-not-one_default, right-in_default}

-- ---- a node by its row

length-of : (r a m : ℕ) (x y : Raw) → m ≡ list_length r a → a ≡ x.arity → x ≡ y → m ≡ list_length r y.arity
length-of r a m x y e f g = e ∙ ap (list_length r) (f ∙ ap (λ (z : Raw). z.arity) g)

do-kind : (b : Bool) (x y : Raw) → b ≡ is_kind DoWhile x.kind → x ≡ y → b ≡ true → y.kind ≡ 11
do-kind b x y e f g = eqb-true y.kind 11 (ap (λ (z : Raw). is_kind DoWhile z.kind) (sym f) ∙ sym e ∙ g)

not-do : (b : Bool) (x y : Raw) → b ≡ is_kind DoWhile x.kind → x ≡ y → b ≡ false → is_kind DoWhile y.kind ≡ false
not-do b x y e f g = ap (λ (z : Raw). is_kind DoWhile z.kind) (sym f) ∙ sym e ∙ g

pub by_row-right-requires : goal.by_row-right-requires
by_row-right-requires t c =
    let s = c.args.self.nodes in
    let em = length-of c.args.row c.from.result c.list_length-m.result c.node-node.result (node_of s.file.now s.header c.args.k) c.list_length-m.ensures c.from.ensures c.node-node.ensures in
    let p = c.row_parts-parts.result.now in
    let a = nodes.right-stand s.file.now s.header s.readable c.args.k c.requires.0 c.args.row c.requires.1 c.requires.2 c.list_length-m.result em p c.row_parts-parts.ensures in
    let f = nodes.right-counts s.file.now s.header s.readable c.args.k c.requires.0 c.args.row c.requires.1 c.requires.2 c.list_length-m.result em p c.row_parts-parts.ensures in
    let n = nodes.parts-long s.file.now s.header s.readable c.args.k c.requires.0 c.args.row c.requires.1 c.requires.2 c.list_length-m.result em p c.row_parts-parts.ensures in
    let q = nodes.parts-fit s.file.now s.header s.readable c.args.k c.requires.0 c.args.row c.requires.1 c.requires.2 c.list_length-m.result em p c.row_parts-parts.ensures in
    (omega (arith, c.decreases), (c.requires.0, omega arith, q, nodes.parts-defaults s.file.now s.header s.readable c.args.k c.requires.0 c.args.row c.requires.1 c.requires.2 c.list_length-m.result em p c.row_parts-parts.ensures, a, c.requires.3, omega (arith, c.requires.4, f, n)))

pub by_row-returns-then-not-is_do_while : goal.by_row-returns-then-not-is_do_while
by_row-returns-then-not-is_do_while t c =
    let s = c.args.self.nodes in
    let em = length-of c.args.row c.from.result c.list_length-m.result c.node-node.result (node_of s.file.now s.header c.args.k) c.list_length-m.ensures c.from.ensures c.node-node.ensures in
    let p = c.row_parts-parts.result.now in
    let f = nodes.right-counts s.file.now s.header s.readable c.args.k c.requires.0 c.args.row c.requires.1 c.requires.2 c.list_length-m.result em p c.row_parts-parts.ensures in
    let n = nodes.parts-long s.file.now s.header s.readable c.args.k c.requires.0 c.args.row c.requires.1 c.requires.2 c.list_length-m.result em p c.row_parts-parts.ensures in
    let d = not-do c.is_do_while.result c.node-node.result (node_of s.file.now s.header c.args.k) c.is_do_while.ensures c.node-node.ensures c.if-not-is_do_while.true in
    let e = nodes.row-right s.file.now s.header s.readable c.args.k c.requires.0 c.args.row c.requires.1 c.requires.2 c.list_length-m.result em p c.row_parts-parts.ensures d (spot_of c.args.spot) in
    nodes.print-as _ _ _ _ _ _ _ _ _ _ _ _ c.right.result e (omega (arith, f)) (omega (arith, f, n)) c.right.ensures

pub by_row-front-requires : goal.by_row-front-requires
by_row-front-requires t c =
    let s = c.args.self.nodes in
    let em = length-of c.args.row c.from.result c.list_length-m.result c.node-node.result (node_of s.file.now s.header c.args.k) c.list_length-m.ensures c.from.ensures c.node-node.ensures in
    let p = c.row_parts-parts.result.now in
    omega (arith, nodes.parts-long s.file.now s.header s.readable c.args.k c.requires.0 c.args.row c.requires.1 c.requires.2 c.list_length-m.result em p c.row_parts-parts.ensures)

pub by_row-skip-requires : goal.by_row-skip-requires
by_row-skip-requires t c =
    let s = c.args.self.nodes in
    let em = length-of c.args.row c.from.result c.list_length-m.result c.node-node.result (node_of s.file.now s.header c.args.k) c.list_length-m.ensures c.from.ensures c.node-node.ensures in
    let p = c.row_parts-parts.result.now in
    let e = do-kind c.is_do_while.result c.node-node.result (node_of s.file.now s.header c.args.k) c.is_do_while.ensures c.node-node.ensures c.if-not-is_do_while.false in
    nodes.first-in s.file.now s.header s.readable c.args.k c.requires.0 c.args.row c.requires.1 c.requires.2 c.list_length-m.result em p c.row_parts-parts.ensures e

pub by_row-right-requires-2 : goal.by_row-right-requires-2
by_row-right-requires-2 t c =
    let s = c.args.self.nodes in
    let em = length-of c.args.row c.from.result c.list_length-m.result c.node-node.result (node_of s.file.now s.header c.args.k) c.list_length-m.ensures c.from.ensures c.node-node.ensures in
    let p = c.row_parts-parts.result.now in
    let e = do-kind c.is_do_while.result c.node-node.result (node_of s.file.now s.header c.args.k) c.is_do_while.ensures c.node-node.ensures c.if-not-is_do_while.false in
    let kind = (node_of s.file.now s.header c.args.k).kind in
    let q = subst (PartsFit kind) (sym c.front.ensures) (fits-take kind p (nodes.parts-fit s.file.now s.header s.readable c.args.k c.requires.0 c.args.row c.requires.1 c.requires.2 c.list_length-m.result em p c.row_parts-parts.ensures) 2) in
    let a = subst (λ (us : List Part). Stand (cores s.file.now s.header) c.skip.result (kid_count c.list_length-m.result us)) (sym c.front.ensures) (nodes.front-stand s.file.now s.header s.readable c.args.k c.requires.0 c.args.row c.requires.1 c.requires.2 c.list_length-m.result em p c.row_parts-parts.ensures e c.skip.ensures) in
    let b = ap (λ (us : List Part). counts (trees_of s.file.now s.header (kid_count c.list_length-m.result us) c.skip.result)) c.front.ensures ∙ nodes.front-counts s.file.now s.header s.readable c.args.k c.requires.0 c.args.row c.requires.1 c.requires.2 c.list_length-m.result em p c.row_parts-parts.ensures e c.skip.ensures in
    let n = ap length c.front.ensures ∙ length-take 2 p in
    (omega (arith, c.decreases), (c.requires.0, omega (arith, c.skip.ensures), q, subst (DefaultsFit c.list_length-m.result) (sym c.front.ensures) (nodes.front-default s.file.now s.header s.readable c.args.k c.requires.0 c.args.row c.requires.1 c.requires.2 c.list_length-m.result em p c.row_parts-parts.ensures e), a, c.requires.3, omega (arith, c.requires.4, b, n, nodes.both-counts s.file.now s.header s.readable c.args.k c.requires.0 c.args.row c.requires.1 c.requires.2 c.list_length-m.result em p c.row_parts-parts.ensures e)))

pub by_row-returns-in_err-end : goal.by_row-returns-in_err-end
by_row-returns-in_err-end t c =
    let s = c.args.self.nodes in
    let em = length-of c.args.row c.from.result c.list_length-m.result c.node-node.result (node_of s.file.now s.header c.args.k) c.list_length-m.ensures c.from.ensures c.node-node.ensures in
    let p = c.row_parts-parts.result.now in
    let e = do-kind c.is_do_while.result c.node-node.result (node_of s.file.now s.header c.args.k) c.is_do_while.ensures c.node-node.ensures c.if-not-is_do_while.false in
    let r = subst (λ (us : List Part). RightIs s.file.now s.header c.args.words.now c.right-2.new.words c.args.k c.list_length-m.result (spot_of c.args.spot) us c.skip.result None) c.front.ensures c.in_err-end.ensures in
    subst (RowIs s.file.now s.header c.args.words.now c.right-2.new.words c.args.k c.args.row (spot_of c.args.spot)) (sym c.from_residual.ensures) (nodes.front-none s.file.now s.header s.readable c.args.k c.requires.0 c.args.row c.requires.1 c.requires.2 c.list_length-m.result em p c.row_parts-parts.ensures e (spot_of c.args.spot) c.skip.ensures r.0, r.1)

pub by_row-back-requires : goal.by_row-back-requires
by_row-back-requires t c =
    let s = c.args.self.nodes in
    let em = length-of c.args.row c.from.result c.list_length-m.result c.node-node.result (node_of s.file.now s.header c.args.k) c.list_length-m.ensures c.from.ensures c.node-node.ensures in
    let p = c.row_parts-parts.result.now in
    omega (arith, nodes.parts-long s.file.now s.header s.readable c.args.k c.requires.0 c.args.row c.requires.1 c.requires.2 c.list_length-m.result em p c.row_parts-parts.ensures)

pub by_row-right-requires-3 : goal.by_row-right-requires-3
by_row-right-requires-3 t c =
    let s = c.args.self.nodes in
    let em = length-of c.args.row c.from.result c.list_length-m.result c.node-node.result (node_of s.file.now s.header c.args.k) c.list_length-m.ensures c.from.ensures c.node-node.ensures in
    let p = c.row_parts-parts.result.now in
    let e = do-kind c.is_do_while.result c.node-node.result (node_of s.file.now s.header c.args.k) c.is_do_while.ensures c.node-node.ensures c.if-not-is_do_while.false in
    let kind = (node_of s.file.now s.header c.args.k).kind in
    let q = subst (PartsFit kind) (sym c.back.ensures) (fits-drop kind p (nodes.parts-fit s.file.now s.header s.readable c.args.k c.requires.0 c.args.row c.requires.1 c.requires.2 c.list_length-m.result em p c.row_parts-parts.ensures) 2) in
    let a = subst (λ (us : List Part). Stand (cores s.file.now s.header) (c.args.k + 1) (kid_count c.list_length-m.result us)) (sym c.back.ensures) (nodes.back-stand s.file.now s.header s.readable c.args.k c.requires.0 c.args.row c.requires.1 c.requires.2 c.list_length-m.result em p c.row_parts-parts.ensures e) in
    let b = ap (λ (us : List Part). counts (trees_of s.file.now s.header (kid_count c.list_length-m.result us) (c.args.k + 1))) c.back.ensures ∙ nodes.back-counts s.file.now s.header s.readable c.args.k c.requires.0 c.args.row c.requires.1 c.requires.2 c.list_length-m.result em p c.row_parts-parts.ensures e in
    let n = ap length c.back.ensures ∙ length-drop 2 p in
    let r = subst (λ (us : List Part). RightIs s.file.now s.header c.args.words.now c.right-2.new.words c.args.k c.list_length-m.result (spot_of c.args.spot) us c.skip.result (Some c.in_ok-end.end)) c.front.ensures c.in_ok-end.ensures in
    let f = nodes.front-counts s.file.now s.header s.readable c.args.k c.requires.0 c.args.row c.requires.1 c.requires.2 c.list_length-m.result em p c.row_parts-parts.ensures e c.skip.ensures in
    let long = nodes.parts-long s.file.now s.header s.readable c.args.k c.requires.0 c.args.row c.requires.1 c.requires.2 c.list_length-m.result em p c.row_parts-parts.ensures in
    (omega (arith, c.decreases), (c.requires.0, omega arith, q, subst (DefaultsFit c.list_length-m.result) (sym c.back.ensures) (nodes.back-default s.file.now s.header s.readable c.args.k c.requires.0 c.args.row c.requires.1 c.requires.2 c.list_length-m.result em p c.row_parts-parts.ensures e), a, omega (arith, r.pushed.kept.size, c.requires.3), omega (arith, c.requires.4, r.few, f, length-take 2 p, long, b, n, nodes.both-counts s.file.now s.header s.readable c.args.k c.requires.0 c.args.row c.requires.1 c.requires.2 c.list_length-m.result em p c.row_parts-parts.ensures e)))

pub by_row-returns-in_err-right : goal.by_row-returns-in_err-right
by_row-returns-in_err-right t c =
    let s = c.args.self.nodes in
    let em = length-of c.args.row c.from.result c.list_length-m.result c.node-node.result (node_of s.file.now s.header c.args.k) c.list_length-m.ensures c.from.ensures c.node-node.ensures in
    let p = c.row_parts-parts.result.now in
    let e = do-kind c.is_do_while.result c.node-node.result (node_of s.file.now s.header c.args.k) c.is_do_while.ensures c.node-node.ensures c.if-not-is_do_while.false in
    let r = subst (λ (us : List Part). RightIs s.file.now s.header c.args.words.now c.right-2.new.words c.args.k c.list_length-m.result (spot_of c.args.spot) us c.skip.result (Some c.in_ok-end.end)) c.front.ensures c.in_ok-end.ensures in
    let u = subst (λ (us : List Part). RightIs s.file.now s.header c.right-2.new.words c.right-3.new.words c.args.k c.list_length-m.result (spot_of c.args.spot) us (c.args.k + 1) None) c.back.ensures c.in_err-right.ensures in
    subst (RowIs s.file.now s.header c.args.words.now c.right-3.new.words c.args.k c.args.row (spot_of c.args.spot)) (sym c.from_residual-in_err-right.ensures) (nodes.back-none s.file.now s.header s.readable c.args.k c.requires.0 c.args.row c.requires.1 c.requires.2 c.list_length-m.result em p c.row_parts-parts.ensures e (spot_of c.args.spot) c.skip.ensures r.tokens r.is u.0, kept-then r.pushed.kept u.1)

pub by_row-returns : goal.by_row-returns
by_row-returns t c =
    let s = c.args.self.nodes in
    let em = length-of c.args.row c.from.result c.list_length-m.result c.node-node.result (node_of s.file.now s.header c.args.k) c.list_length-m.ensures c.from.ensures c.node-node.ensures in
    let p = c.row_parts-parts.result.now in
    let e = do-kind c.is_do_while.result c.node-node.result (node_of s.file.now s.header c.args.k) c.is_do_while.ensures c.node-node.ensures c.if-not-is_do_while.false in
    let r = subst (λ (us : List Part). RightIs s.file.now s.header c.args.words.now c.right-2.new.words c.args.k c.list_length-m.result (spot_of c.args.spot) us c.skip.result (Some c.in_ok-end.end)) c.front.ensures c.in_ok-end.ensures in
    let u = subst (λ (us : List Part). RightIs s.file.now s.header c.right-2.new.words c.right-3.new.words c.args.k c.list_length-m.result (spot_of c.args.spot) us (c.args.k + 1) (Some c.in_ok-right.field-0)) c.back.ensures c.in_ok-right.ensures in
    nodes.both-printed s.file.now s.header s.readable c.args.k c.requires.0 c.args.row c.requires.1 c.requires.2 c.list_length-m.result em p c.row_parts-parts.ensures e (spot_of c.args.spot) c.skip.ensures r u

-- ---- a tree by the row that is chosen for it

un-not : (b : Bool) → not b ≡ true → b ≡ false
un-not true e = absurd (cc)
un-not false e = refl

un-not-false : (b : Bool) → not b ≡ false → b ≡ true
un-not-false true e = refl
un-not-false false e = absurd (cc)

shape-of : (x y : Raw) (d g : ℕ) → g ≡ form_of x.kind x.form d → x ≡ y → g ≡ form_of y.kind y.form d
shape-of x y d g e f = e ∙ ap (λ (z : Raw). form_of z.kind z.form d) f

pub print-form_of-requires : goal.print-form_of-requires
print-form_of-requires t c =
    let s = c.args.self.nodes in
    λ e. omega (arith, form-few s.file.now s.header s.readable c.args.k c.requires.0 (ap (λ (x : Raw). x.kind) (sym c.node-node.ensures) ∙ e), ap (λ (x : Raw). x.form) c.node-node.ensures, c.requires.1)

pub print-choose-requires : goal.print-choose-requires
print-choose-requires t c = (c.requires.0, c.requires.2)

pub print-returns-in_err-choice : goal.print-returns-in_err-choice
print-returns-in_err-choice t c =
    let s = c.args.self.nodes in
    let g = shape-of c.node-node.result (node_of s.file.now s.header c.args.k) c.args.d c.form_of.result c.form_of.ensures c.node-node.ensures in
    subst (TreeIs s.file.now s.header c.args.words.now c.args.words.now c.args.k c.args.d (spot_of c.args.spot)) (sym c.from_residual.ensures) (nodes.chosen-none s.file.now s.header s.readable c.args.k c.requires.0 c.args.d (spot_of c.args.spot) g c.in_err-choice.ensures, kept-none c.args.words.now)

pub print-by_row-requires : goal.print-by_row-requires
print-by_row-requires t c =
    let s = c.args.self.nodes in
    let g = shape-of c.node-node.result (node_of s.file.now s.header c.args.k) c.args.d c.form_of.result c.form_of.ensures c.node-node.ensures in
    let C = c.in_ok-choice.ensures in
    (omega (arith, c.decreases), (c.requires.0, C.few, nodes.chosen-for s.file.now s.header s.readable c.args.k c.requires.0 c.args.d (spot_of c.args.spot) g C, c.requires.3, omega (arith, c.requires.4)))

pub print-returns-then-not-choice : goal.print-returns-then-not-choice
print-returns-then-not-choice t c =
    let s = c.args.self.nodes in
    let g = shape-of c.node-node.result (node_of s.file.now s.header c.args.k) c.args.d c.form_of.result c.form_of.ensures c.node-node.ensures in
    let C = c.in_ok-choice.ensures in
    nodes.print-as _ _ _ _ _ _ _ _ _ _ _ _ c.by_row.result (nodes.chosen-plain s.file.now s.header s.readable c.args.k c.requires.0 c.args.d (spot_of c.args.spot) g C (un-not c.in_ok-choice.choice.paired c.if-not-choice.true)) refl (omega arith) c.by_row.ensures

pub print-push-requires : goal.print-push-requires
print-push-requires t c = let s = c.args.self.nodes in (c.requires.3, omega (arith, c.requires.4, count-some (tree_of s.file.now s.header c.args.k)))

pub print-by_row-requires-2 : goal.print-by_row-requires-2
print-by_row-requires-2 t c =
    let s = c.args.self.nodes in
    let g = shape-of c.node-node.result (node_of s.file.now s.header c.args.k) c.args.d c.form_of.result c.form_of.ensures c.node-node.ensures in
    let C = c.in_ok-choice.ensures in
    let p = c.push.ensures in
    (omega (arith, c.decreases), (c.requires.0, C.few, nodes.chosen-for s.file.now s.header s.readable c.args.k c.requires.0 c.args.d (spot_of c.args.spot) g C, omega (arith, c.requires.3, p.kept.size), omega (arith, c.requires.4, p.count)))

pub print-returns-in_err-end : goal.print-returns-in_err-end
print-returns-in_err-end t c =
    let s = c.args.self.nodes in
    let g = shape-of c.node-node.result (node_of s.file.now s.header c.args.k) c.args.d c.form_of.result c.form_of.ensures c.node-node.ensures in
    let C = c.in_ok-choice.ensures in
    let r = c.in_err-end.ensures in
    subst (TreeIs s.file.now s.header c.args.words.now c.by_row-2.new.words c.args.k c.args.d (spot_of c.args.spot)) (sym c.from_residual-in_err-end.ensures) (nodes.pair-none s.file.now s.header s.readable c.args.k c.requires.0 c.args.d (spot_of c.args.spot) g C (un-not-false c.in_ok-choice.choice.paired c.if-not-choice.false) r.0, kept-then c.push.ensures.kept r.1)

pub print-push-requires-2 : goal.print-push-requires-2
print-push-requires-2 t c =
    let s = c.args.self.nodes in
    let p = c.push.ensures in
    let r = c.in_ok-end.ensures in
    (omega (arith, c.requires.3, p.kept.size, r.pushed.kept.size), omega (arith, c.requires.4, p.count, r.few, count-some (tree_of s.file.now s.header c.args.k)))

pub print-returns : goal.print-returns
print-returns t c =
    let s = c.args.self.nodes in
    let g = shape-of c.node-node.result (node_of s.file.now s.header c.args.k) c.args.d c.form_of.result c.form_of.ensures c.node-node.ensures in
    let C = c.in_ok-choice.ensures in
    let p = c.push.ensures in
    let r = c.in_ok-end.ensures in
    let q = c.push-2.ensures in
    nodes.pair-printed s.file.now s.header s.readable c.args.k c.requires.0 c.args.d (spot_of c.args.spot) g C (un-not-false c.in_ok-choice.choice.paired c.if-not-choice.false) (pushed-word s.file.now s.header 8 (subst (Appended c.args.words.now c.push.new.words) c.from.ensures p) (omega arith)) p.count r (pushed-word s.file.now s.header 9 (subst (Appended c.by_row-2.new.words c.push-2.new.words) c.from-2.ensures q) (omega arith)) q.count

-- ---- children of a list

some-left : (i n : ℕ) → i < n → 0 < n - i
some-left i n l = omega arith

not-first : (i : ℕ) → eqb (i + 1) 0 ≡ false
not-first i = go (eqb (i + 1) 0) refl
  where
    go : (b : Bool) → eqb (i + 1) 0 ≡ b → b ≡ false
    go true e = absurd (omega (arith, eqb-true (i + 1) 0 e))
    go false e = refl

pub kids-loop-i-init : goal.kids-loop-i-init
kids-loop-i-init t c =
    let s = c.args.self.nodes in
    let e : c.args.count ≡ c.args.count - 0 = omega arith in
    subst (λ (n : ℕ). listing.Listing s.file.now s.header s.readable c.args.k c.args.count c.args.«at» c.args.list.kids (spot_of c.args.spot) (next_of c.args.list.last) (put_list s.file.now s.header c.args.k c.args.list.kids (spot_of c.args.spot) (bars_of c.args.list.bars) (next_of c.args.list.last) c.args.count c.args.«at») c.args.words.now n c.args.«at» true (bars_of c.args.list.bars) c.args.words.now) e (listing.listing-start s.file.now s.header s.readable c.args.k c.args.count c.args.«at» c.args.list.kids (spot_of c.args.spot) (next_of c.args.list.last) (put_list s.file.now s.header c.args.k c.args.list.kids (spot_of c.args.spot) (bars_of c.args.list.bars) (next_of c.args.list.last) c.args.count c.args.«at») c.args.words.now (bars_of c.args.list.bars) refl c.requires.3 c.requires.1)

pub kids-put_comma-bars-requires : goal.kids-put_comma-bars-requires
kids-put_comma-bars-requires t c =
    let s = c.args.self.nodes in
    let V = c.loop-i.invariant in
    let f = listing.listing-few s.file.now s.header s.readable c.args.k c.args.count c.args.«at» c.args.list.kids (spot_of c.args.spot) (next_of c.args.list.last) (put_list s.file.now s.header c.args.k c.args.list.kids (spot_of c.args.spot) (bars_of c.args.list.bars) (next_of c.args.list.last) c.args.count c.args.«at») c.args.words.now V (some-left c.loop-i.i c.args.count c.loop-i-test.true) in
    (omega (arith, V.pushed.kept.size, c.requires.4), omega (arith, f, c.requires.5, count-some (tree_of s.file.now s.header c.loop-i.next)))

pub kids-print-requires : goal.kids-print-requires
kids-print-requires t c =
    let s = c.args.self.nodes in
    let V = c.loop-i.invariant in
    let z = some-left c.loop-i.i c.args.count c.loop-i-test.true in
    let f = listing.listing-few s.file.now s.header s.readable c.args.k c.args.count c.args.«at» c.args.list.kids (spot_of c.args.spot) (next_of c.args.list.last) (put_list s.file.now s.header c.args.k c.args.list.kids (spot_of c.args.spot) (bars_of c.args.list.bars) (next_of c.args.list.last) c.args.count c.args.«at») c.args.words.now V z in
    let l = listing.listing-here s.file.now s.header s.readable c.args.k c.args.count c.args.«at» c.args.list.kids (spot_of c.args.spot) (next_of c.args.list.last) (put_list s.file.now s.header c.args.k c.args.list.kids (spot_of c.args.spot) (bars_of c.args.list.bars) (next_of c.args.list.last) c.args.count c.args.«at») c.args.words.now V z in
    let q = c.put_comma-bars.ensures in (
      omega (arith, c.decreases, l, s.readable.few, V.low),
      (l, c.extra_at-d.ensures.few, omega (arith, ap (λ (y : Put.Spot). y.place) c.child.ensures, c.requires.2), omega (arith, q.pushed.kept.size, V.pushed.kept.size, c.requires.4), omega (arith, f, q.few, c.requires.5)),
    )

-- where the next child is put
module _ (bs : List ℕ) (h : Header) (k : ℕ) (x : Kids) (s : Put.Spot) (last : List Word) (left j d : ℕ) (first : Bool) (b b' : List (List Word)) (n : List Word) (y : Put.Spot) where
  child-put : d ≡ extra_at bs h k j → b' ≡ bars_behind (comma_before x.style first) b → n ≡ behind_child x.style (left - 1) last → y ≡ child_spot x s b' n
      → put_tree bs h j d y ≡ Put.put (spelled bs h) (lay (extra_at bs h k j) (tree_of bs h j)) (child_spot x s (bars_behind (comma_before x.style first) b) (behind_child x.style (left - 1) last))
  child-put e f g u =
      ap₂ {C = Option (List Word)} (λ (a : ℕ) (z : Put.Spot). put_tree bs h j a z) e u
      ∙ ap₂ {C = Option (List Word)} (λ (a : List (List Word)) (z : List Word). Put.put (spelled bs h) (lay (extra_at bs h k j) (tree_of bs h j)) (child_spot x s a z)) f g

behind-is : (x : Kids) (a i n : ℕ) (last m : List Word) → m ≡ behind_child x.style (n - 1 - i) last → m ≡ behind_child x.style (n - i - 1) last
behind-is x a i n last m e = e ∙ (let f : n - 1 - i ≡ n - i - 1 = omega arith in ap (λ (y : ℕ). behind_child x.style y last) f)

pub kids-returns-in_err-next : goal.kids-returns-in_err-next
kids-returns-in_err-next t c =
    let s = c.args.self.nodes in
    let V = c.loop-i.invariant in
    let z = some-left c.loop-i.i c.args.count c.loop-i-test.true in
    let q = c.put_comma-bars.ensures in
    let r = c.in_err-next.ensures in
    let p = child-put s.file.now s.header c.args.k c.args.list.kids (spot_of c.args.spot) (next_of c.args.list.last) (c.args.count - c.loop-i.i) c.loop-i.next c.extra_at-d.result (eqb c.loop-i.i 0) (bars_of c.loop-i.bars) (bars_of c.put_comma-bars.result) (next_of c.behind_child-behind.result) (spot_of c.child.result)
    c.extra_at-d.ensures.is q.bars (behind-is c.args.list.kids 0 c.loop-i.i c.args.count (next_of c.args.list.last) (next_of c.behind_child-behind.result) c.behind_child-behind.ensures) c.child.ensures in
    subst (ListIs s.file.now s.header c.args.words.now c.print.new.words c.args.k c.args.list.kids (spot_of c.args.spot) (bars_of c.args.list.bars) (next_of c.args.list.last) c.args.count c.args.«at») (sym c.from_residual.ensures)
    (listing.listing-none s.file.now s.header s.readable c.args.k c.args.count c.args.«at» c.args.list.kids (spot_of c.args.spot) (next_of c.args.list.last) (put_list s.file.now s.header c.args.k c.args.list.kids (spot_of c.args.spot) (bars_of c.args.list.bars) (next_of c.args.list.last) c.args.count c.args.«at») c.args.words.now V z (sym p ∙ r.0), kept-then V.pushed.kept (kept-then q.pushed.kept r.1))

pub kids-loop-i-preserved : goal.kids-loop-i-preserved
kids-loop-i-preserved t c =
    let s = c.args.self.nodes in
    let V = c.loop-i.invariant in
    let z = some-left c.loop-i.i c.args.count c.loop-i-test.true in
    let q = c.put_comma-bars.ensures in
    let r = c.in_ok-next.ensures in
    let p = child-put s.file.now s.header c.args.k c.args.list.kids (spot_of c.args.spot) (next_of c.args.list.last) (c.args.count - c.loop-i.i) c.loop-i.next c.extra_at-d.result (eqb c.loop-i.i 0) (bars_of c.loop-i.bars) (bars_of c.put_comma-bars.result) (next_of c.behind_child-behind.result) (spot_of c.child.result)
    c.extra_at-d.ensures.is q.bars (behind-is c.args.list.kids 0 c.loop-i.i c.args.count (next_of c.args.list.last) (next_of c.behind_child-behind.result) c.behind_child-behind.ensures) c.child.ensures in
    let N = listing.listing-more s.file.now s.header s.readable c.args.k c.args.count c.args.«at» c.args.list.kids (spot_of c.args.spot) (next_of c.args.list.last) (put_list s.file.now s.header c.args.k c.args.list.kids (spot_of c.args.spot) (bars_of c.args.list.bars) (next_of c.args.list.last) c.args.count c.args.«at») c.args.words.now V z q.pushed q.few (nodes.print-as _ _ _ _ _ _ _ _ _ _ _ _ (Some c.in_ok-next.next) (sym p) refl (omega arith) r) in
    let e : c.args.count - c.loop-i.i - 1 ≡ c.args.count - (c.loop-i.i + 1) = omega arith in
    subst (λ (n : ℕ). listing.Listing s.file.now s.header s.readable c.args.k c.args.count c.args.«at» c.args.list.kids (spot_of c.args.spot) (next_of c.args.list.last) (put_list s.file.now s.header c.args.k c.args.list.kids (spot_of c.args.spot) (bars_of c.args.list.bars) (next_of c.args.list.last) c.args.count c.args.«at») c.args.words.now n c.in_ok-next.next (eqb (c.loop-i.i + 1) 0) [] c.print.new.words) e (subst (λ (b : Bool). listing.Listing s.file.now s.header s.readable c.args.k c.args.count c.args.«at» c.args.list.kids (spot_of c.args.spot) (next_of c.args.list.last) (put_list s.file.now s.header c.args.k c.args.list.kids (spot_of c.args.spot) (bars_of c.args.list.bars) (next_of c.args.list.last) c.args.count c.args.«at») c.args.words.now (c.args.count - c.loop-i.i - 1) c.in_ok-next.next b [] c.print.new.words) (sym (not-first c.loop-i.i)) N)

pub kids-returns : goal.kids-returns
kids-returns t c = let s = c.args.self.nodes in listing.listing-all s.file.now s.header s.readable c.args.k c.args.count c.args.«at» c.args.list.kids (spot_of c.args.spot) (next_of c.args.list.last) (put_list s.file.now s.header c.args.k c.args.list.kids (spot_of c.args.spot) (bars_of c.args.list.bars) (next_of c.args.list.last) c.args.count c.args.«at») c.args.words.now c.loop-i.invariant (omega arith)

-- ---- parts of a row

default-here : (m : ℕ) (ps : List Part) (j : ℕ) (d : Part) → DefaultsFit m ps → j < length ps → get_or ps j d ≡ Parts.OneDefault → m ≤ kid_count m (drop (j + 1) ps)
default-here m ps j d f l e =
    let g = f.each j (get-same ps j d l ∙ e) in
    let q : drop j ps ≡ get_or ps j d ∷ drop (j + 1) ps = rw add-one (drop-cons ps j d l) in
    subst (λ (us : List Part). m ≤ kid_count m us) (q ∙ ap (λ (y : Part). y ∷ drop (j + 1) ps) e) g
  where
    get-same : (ps : List Part) (j : ℕ) (d : Part) → j < length ps → get_or ps j Parts.End ≡ get_or ps j d
    get-same [] j d l = absurd (omega arith)
    get-same (p ∷ ps) zero d l = refl
    get-same (p ∷ ps) (suc j) d l = get-same ps j d (omega arith)

has-own : (k : ℕ) (q : Sort) → SortFits k q → T (uses_text k) ⊎ (k ≡ 24)
has-own k Sorts.Name f = inl f.0
has-own k Sorts.Variable f = inl f.0
has-own k Sorts.Number f = inr f
has-own k Sorts.Text f = inl (subst (λ (j : ℕ). T (uses_text j)) (sym f) tt)

drop-all : (j : ℕ) (ps : List Part) → length ps ≤ j → drop j ps ≡ []
drop-all zero [] l = refl
drop-all (suc j) [] l = refl
drop-all zero (p ∷ ps) l = absurd (omega arith)
drop-all (suc j) (p ∷ ps) l = drop-all j ps (omega arith)

pub right-loop-j-init : goal.right-loop-j-init
right-loop-j-init t c = let s = c.args.self.nodes in going.going-start s.file.now s.header s.readable c.args.k c.args.m c.args.«at» (kid_count c.args.m c.args.parts.now) (spot_of c.args.spot) (put_right s.file.now s.header c.args.k c.args.m (spot_of c.args.spot) c.args.parts.now c.args.«at») c.args.words.now c.args.parts.now (bars_of c.args.spot.bars) (next_of c.args.spot.next) refl c.requires.4 c.requires.1 refl

pub right-returns-in-End : goal.right-returns-in-End
right-returns-in-End t c = let s = c.args.self.nodes in going.going-end s.file.now s.header s.readable c.args.k c.args.m c.args.«at» (kid_count c.args.m c.args.parts.now) (spot_of c.args.spot) (put_right s.file.now s.header c.args.k c.args.m (spot_of c.args.spot) c.args.parts.now c.args.«at») c.args.words.now (going.going-here s.file.now s.header s.readable c.args.k c.args.m c.args.«at» (kid_count c.args.m c.args.parts.now) (spot_of c.args.spot) (put_right s.file.now s.header c.args.k c.args.m (spot_of c.args.spot) c.args.parts.now c.args.«at») c.args.words.now c.args.parts.now c.loop-j.j _ Parts.End c.loop-j-test.true c.in-End.is c.loop-j.invariant) (length c.args.parts.now) (omega arith)

pub right-kids-requires : goal.right-kids-requires
right-kids-requires t c =
    let s = c.args.self.nodes in
    let V = going.going-here s.file.now s.header s.readable c.args.k c.args.m c.args.«at» (kid_count c.args.m c.args.parts.now) (spot_of c.args.spot) (put_right s.file.now s.header c.args.k c.args.m (spot_of c.args.spot) c.args.parts.now c.args.«at») c.args.words.now c.args.parts.now c.loop-j.j _ (Parts.Kids c.in-Kids.kids) c.loop-j-test.true c.in-Kids.is c.loop-j.invariant in
    let a = subst (Stand (cores s.file.now s.header) c.loop-j.next) (sym c.how_many.ensures) (going.kids-stand s.file.now s.header s.readable c.args.k c.args.m c.args.«at» (kid_count c.args.m c.args.parts.now) (spot_of c.args.spot) (put_right s.file.now s.header c.args.k c.args.m (spot_of c.args.spot) c.args.parts.now c.args.«at») c.args.words.now c.in-Kids.kids V) in
    let f = going.kids-few s.file.now s.header s.readable c.args.k c.args.m c.args.«at» (kid_count c.args.m c.args.parts.now) (spot_of c.args.spot) (put_right s.file.now s.header c.args.k c.args.m (spot_of c.args.spot) c.args.parts.now c.args.«at») c.args.words.now c.in-Kids.kids V in
    let r = going.going-room s.file.now s.header s.readable c.args.k c.args.m c.args.«at» (kid_count c.args.m c.args.parts.now) (spot_of c.args.spot) (put_right s.file.now s.header c.args.k c.args.m (spot_of c.args.spot) c.args.parts.now c.args.«at») c.args.words.now V in
    let n = ap (λ (y : ℕ). counts (trees_of s.file.now s.header y c.loop-j.next)) c.how_many.ensures in
    let place = subst (PartFits (node_of s.file.now s.header c.args.k).kind) c.in-Kids.is (c.requires.2.each c.loop-j.j) in
    (omega (arith, c.decreases), (c.requires.0, V.low, place, a, omega (arith, V.pushed.kept.size, c.requires.5), omega (arith, f, r, n, c.requires.6)))

-- what is said of the children at a part, by the place and the list that are asked for
module _ (bs : List ℕ) (h : Header) (w v : List ℕ) (k : ℕ) (x : Kids) (s : Put.Spot) (b : List (List Word)) (i : ℕ) where
  list-as : (n n' : ℕ) (last last' : List Word) (r : Option ℕ) → n ≡ n' → last ≡ last' → ListIs bs h w v k x s b last n i r → ListIs bs h w v k x s b last' n' i r
  list-as n n' last last' r e f p = subst (λ (y : ℕ). ListIs bs h w v k x s b last' y i r) e (subst (λ (y : List Word). ListIs bs h w v k x s b y n i r) f p)

pub right-returns-in_err-next-in-Kids : goal.right-returns-in_err-next-in-Kids
right-returns-in_err-next-in-Kids t c =
    let s = c.args.self.nodes in
    let V = going.going-here s.file.now s.header s.readable c.args.k c.args.m c.args.«at» (kid_count c.args.m c.args.parts.now) (spot_of c.args.spot) (put_right s.file.now s.header c.args.k c.args.m (spot_of c.args.spot) c.args.parts.now c.args.«at») c.args.words.now c.args.parts.now c.loop-j.j _ (Parts.Kids c.in-Kids.kids) c.loop-j-test.true c.in-Kids.is c.loop-j.invariant in
    let r = list-as s.file.now s.header c.loop-j.words c.kids.new.words c.args.k c.in-Kids.kids (spot_of c.args.spot) (bars_of c.loop-j.bars) c.loop-j.next _ _ _ _ None c.how_many.ensures c.last_word.ensures c.in_err-next-in-Kids.ensures in
    subst (RightIs s.file.now s.header c.args.words.now c.kids.new.words c.args.k c.args.m (spot_of c.args.spot) c.args.parts.now c.args.«at») (sym c.from_residual.ensures) (going.going-no-kids s.file.now s.header s.readable c.args.k c.args.m c.args.«at» (kid_count c.args.m c.args.parts.now) (spot_of c.args.spot) (put_right s.file.now s.header c.args.k c.args.m (spot_of c.args.spot) c.args.parts.now c.args.«at») c.args.words.now c.in-Kids.kids V r.0, kept-then V.pushed.kept r.1)

pub right-one_default-requires : goal.right-one_default-requires
right-one_default-requires t c =
    let s = c.args.self.nodes in
    let V = going.going-here s.file.now s.header s.readable c.args.k c.args.m c.args.«at» (kid_count c.args.m c.args.parts.now) (spot_of c.args.spot) (put_right s.file.now s.header c.args.k c.args.m (spot_of c.args.spot) c.args.parts.now c.args.«at») c.args.words.now c.args.parts.now c.loop-j.j _ Parts.OneDefault c.loop-j-test.true c.in-OneDefault.is c.loop-j.invariant in
    going.going-first s.file.now s.header s.readable c.args.k c.args.m c.args.«at» (kid_count c.args.m c.args.parts.now) (spot_of c.args.spot) (put_right s.file.now s.header c.args.k c.args.m (spot_of c.args.spot) c.args.parts.now c.args.«at») c.args.words.now V (default-here c.args.m c.args.parts.now c.loop-j.j _ c.requires.3 c.loop-j-test.true c.in-OneDefault.is)

pub right-returns-then-not-one_default : goal.right-returns-then-not-one_default
right-returns-then-not-one_default t c =
    let s = c.args.self.nodes in
    let V = going.going-here s.file.now s.header s.readable c.args.k c.args.m c.args.«at» (kid_count c.args.m c.args.parts.now) (spot_of c.args.spot) (put_right s.file.now s.header c.args.k c.args.m (spot_of c.args.spot) c.args.parts.now c.args.«at») c.args.words.now c.args.parts.now c.loop-j.j _ Parts.OneDefault c.loop-j-test.true c.in-OneDefault.is c.loop-j.invariant in
    (going.going-no-default s.file.now s.header s.readable c.args.k c.args.m c.args.«at» (kid_count c.args.m c.args.parts.now) (spot_of c.args.spot) (put_right s.file.now s.header c.args.k c.args.m (spot_of c.args.spot) c.args.parts.now c.args.«at») c.args.words.now V (default-here c.args.m c.args.parts.now c.loop-j.j _ c.requires.3 c.loop-j-test.true c.in-OneDefault.is) (sym c.one_default.ensures ∙ c.if-not-one_default.true), V.pushed.kept)

pub right-loop-j-preserved : goal.right-loop-j-preserved
right-loop-j-preserved t c =
    let s = c.args.self.nodes in
    elim c.match-parts-j.branch [
      | right-in-Word w ↦
          let V = going.going-here s.file.now s.header s.readable c.args.k c.args.m c.args.«at» (kid_count c.args.m c.args.parts.now) (spot_of c.args.spot) (put_right s.file.now s.header c.args.k c.args.m (spot_of c.args.spot) c.args.parts.now c.args.«at») c.args.words.now c.args.parts.now c.loop-j.j _ (Parts.Word w.in-Word.w) c.loop-j-test.true w.in-Word.is c.loop-j.invariant in
          let l = subst (Appended c.loop-j.words w.push.new.words) w.from.ensures w.push.ensures in
          let f = subst (PartFits (node_of s.file.now s.header c.args.k).kind) w.in-Word.is (c.requires.2.each c.loop-j.j) in
          going.going-as s.file.now s.header s.readable c.args.k c.args.m c.args.«at» (kid_count c.args.m c.args.parts.now) (spot_of c.args.spot) (put_right s.file.now s.header c.args.k c.args.m (spot_of c.args.spot) c.args.parts.now c.args.«at») c.args.words.now w.next-is (ap bars_of w.bars-is) (ap next_of w.behind-is) w.words-is (going.going-word s.file.now s.header s.readable c.args.k c.args.m c.args.«at» (kid_count c.args.m c.args.parts.now) (spot_of c.args.spot) (put_right s.file.now s.header c.args.k c.args.m (spot_of c.args.spot) c.args.parts.now c.args.«at») c.args.words.now w.in-Word.w V (pushed-word s.file.now s.header w.in-Word.w l f) l.count)
      | right-in-Own+else-not-own_ok w ↦
          let V = going.going-here s.file.now s.header s.readable c.args.k c.args.m c.args.«at» (kid_count c.args.m c.args.parts.now) (spot_of c.args.spot) (put_right s.file.now s.header c.args.k c.args.m (spot_of c.args.spot) c.args.parts.now c.args.«at») c.args.words.now c.args.parts.now c.loop-j.j _ (Parts.Own w.in-Own.sort) c.loop-j-test.true w.in-Own.is c.loop-j.invariant in
          let l = w.push-in-Own.ensures in
          let f = subst (PartFits (node_of s.file.now s.header c.args.k).kind) w.in-Own.is (c.requires.2.each c.loop-j.j) in
          going.going-as s.file.now s.header s.readable c.args.k c.args.m c.args.«at» (kid_count c.args.m c.args.parts.now) (spot_of c.args.spot) (put_right s.file.now s.header c.args.k c.args.m (spot_of c.args.spot) c.args.parts.now c.args.«at») c.args.words.now w.next-is (ap bars_of w.bars-is) (ap next_of w.behind-is) w.words-is
          (going.going-own s.file.now s.header s.readable c.args.k c.args.m c.args.«at» (kid_count c.args.m c.args.parts.now) (spot_of c.args.spot) (put_right s.file.now s.header c.args.k c.args.m (spot_of c.args.spot) c.args.parts.now c.args.«at») c.args.words.now w.in-Own.sort V (sym w.own_ok.ensures ∙ w.if-not-own_ok.false) (pushed-own s.file.now s.header _ c.args.k l refl c.requires.0 (has-own (node_of s.file.now s.header c.args.k).kind w.in-Own.sort f)) l.count)
      | right-in-Kids+in_ok-next-in-Kids w ↦
          let V = going.going-here s.file.now s.header s.readable c.args.k c.args.m c.args.«at» (kid_count c.args.m c.args.parts.now) (spot_of c.args.spot) (put_right s.file.now s.header c.args.k c.args.m (spot_of c.args.spot) c.args.parts.now c.args.«at») c.args.words.now c.args.parts.now c.loop-j.j _ (Parts.Kids w.in-Kids.kids) c.loop-j-test.true w.in-Kids.is c.loop-j.invariant in
          let r = list-as s.file.now s.header c.loop-j.words w.kids.new.words c.args.k w.in-Kids.kids (spot_of c.args.spot) (bars_of c.loop-j.bars) c.loop-j.next _ _ _ _ (Some w.in_ok-next-in-Kids.next) w.how_many.ensures w.last_word.ensures w.in_ok-next-in-Kids.ensures in
          going.going-as s.file.now s.header s.readable c.args.k c.args.m c.args.«at» (kid_count c.args.m c.args.parts.now) (spot_of c.args.spot) (put_right s.file.now s.header c.args.k c.args.m (spot_of c.args.spot) c.args.parts.now c.args.«at») c.args.words.now w.next-is (ap bars_of w.bars-is) (ap next_of w.behind-is) w.words-is (going.going-kids s.file.now s.header s.readable c.args.k c.args.m c.args.«at» (kid_count c.args.m c.args.parts.now) (spot_of c.args.spot) (put_right s.file.now s.header c.args.k c.args.m (spot_of c.args.spot) c.args.parts.now c.args.«at») c.args.words.now w.in-Kids.kids V r)
      | right-in-Look w ↦ going.going-as s.file.now s.header s.readable c.args.k c.args.m c.args.«at» (kid_count c.args.m c.args.parts.now) (spot_of c.args.spot) (put_right s.file.now s.header c.args.k c.args.m (spot_of c.args.spot) c.args.parts.now c.args.«at») c.args.words.now w.next-is (ap bars_of w.bars-is) (ap next_of w.behind-is) w.words-is (going.going-look s.file.now s.header s.readable c.args.k c.args.m c.args.«at» (kid_count c.args.m c.args.parts.now) (spot_of c.args.spot) (put_right s.file.now s.header c.args.k c.args.m (spot_of c.args.spot) c.args.parts.now c.args.«at») c.args.words.now w.in-Look.look (going.going-here s.file.now s.header s.readable c.args.k c.args.m c.args.«at» (kid_count c.args.m c.args.parts.now) (spot_of c.args.spot) (put_right s.file.now s.header c.args.k c.args.m (spot_of c.args.spot) c.args.parts.now c.args.«at») c.args.words.now c.args.parts.now c.loop-j.j _ (Parts.Look w.in-Look.look) c.loop-j-test.true w.in-Look.is c.loop-j.invariant))
      | right-in-OneDefault+else-not-one_default w ↦
          let V = going.going-here s.file.now s.header s.readable c.args.k c.args.m c.args.«at» (kid_count c.args.m c.args.parts.now) (spot_of c.args.spot) (put_right s.file.now s.header c.args.k c.args.m (spot_of c.args.spot) c.args.parts.now c.args.«at») c.args.words.now c.args.parts.now c.loop-j.j _ Parts.OneDefault c.loop-j-test.true w.in-OneDefault.is c.loop-j.invariant in
          going.going-as s.file.now s.header s.readable c.args.k c.args.m c.args.«at» (kid_count c.args.m c.args.parts.now) (spot_of c.args.spot) (put_right s.file.now s.header c.args.k c.args.m (spot_of c.args.spot) c.args.parts.now c.args.«at») c.args.words.now w.next-is (ap bars_of w.bars-is) (ap next_of w.behind-is) w.words-is
          (going.going-default s.file.now s.header s.readable c.args.k c.args.m c.args.«at» (kid_count c.args.m c.args.parts.now) (spot_of c.args.spot) (put_right s.file.now s.header c.args.k c.args.m (spot_of c.args.spot) c.args.parts.now c.args.«at») c.args.words.now V (default-here c.args.m c.args.parts.now c.loop-j.j _ c.requires.3 c.loop-j-test.true w.in-OneDefault.is) (sym w.one_default.ensures ∙ w.if-not-one_default.false))
      | right-in_default w ↦
          let V = going.going-here s.file.now s.header s.readable c.args.k c.args.m c.args.«at» (kid_count c.args.m c.args.parts.now) (spot_of c.args.spot) (put_right s.file.now s.header c.args.k c.args.m (spot_of c.args.spot) c.args.parts.now c.args.«at») c.args.words.now c.args.parts.now c.loop-j.j _ _ c.loop-j-test.true refl c.loop-j.invariant in
          going.going-as s.file.now s.header s.readable c.args.k c.args.m c.args.«at» (kid_count c.args.m c.args.parts.now) (spot_of c.args.spot) (put_right s.file.now s.header c.args.k c.args.m (spot_of c.args.spot) c.args.parts.now c.args.«at») c.args.words.now w.next-is (ap bars_of w.bars-is) (ap next_of w.behind-is) w.words-is
          (going.going-other s.file.now s.header s.readable c.args.k c.args.m c.args.«at» (kid_count c.args.m c.args.parts.now) (spot_of c.args.spot) (put_right s.file.now s.header c.args.k c.args.m (spot_of c.args.spot) c.args.parts.now c.args.«at») c.args.words.now _ w.in_default.not-End w.in_default.not-Word w.in_default.not-Own w.in_default.not-Kids w.in_default.not-Look w.in_default.not-OneDefault V)
    ]

pub right-returns : goal.right-returns
right-returns t c =
    let s = c.args.self.nodes in
    let none : drop c.loop-j.j c.args.parts.now ≡ [] = drop-all c.loop-j.j c.args.parts.now (omega arith) in
    going.going-all s.file.now s.header s.readable c.args.k c.args.m c.args.«at» (kid_count c.args.m c.args.parts.now) (spot_of c.args.spot) (put_right s.file.now s.header c.args.k c.args.m (spot_of c.args.spot) c.args.parts.now c.args.«at») c.args.words.now (going.going-done s.file.now s.header s.readable c.args.k c.args.m c.args.«at» (kid_count c.args.m c.args.parts.now) (spot_of c.args.spot) (put_right s.file.now s.header c.args.k c.args.m (spot_of c.args.spot) c.args.parts.now c.args.«at») c.args.words.now none c.loop-j.invariant) (length c.args.parts.now) (omega arith)
