-- Assumes nothing.
use Rattle.std.proofs.Common.{◌≡◌, ℕ, ◌-◌, List, get_or, sym, ap, ap₂, ◌∙◌, subst, arith}
use Rattle.std.specs.Prelude.{T}
use Rattle.def_file.specs.declared.Raw.{Raw}
use Rattle.def_text.specs.Grammar.{is_for, singles}
use Rattle.text_table.specs.declared.Part.{Part}
use Rattle.text_table.specs.Rows.{rows, no_row}
use Rattle.text_tokens.specs.Tokens.{node_of, own_of}
use Rattle.text_spots.specs.Spots.{next_of}
use Rattle.text_parts.specs.Parts.{row_parts, list_length, begin_parts, PartsFit}
use Rattle.text_choice.specs.Choice.{first_tokens, Opens}
use Rattle.text_choice.proofs.ByRow.{parts-there, singles-there, row-singles, row-fits, opens-by, opens-none}
use Rattle.text_choice.proofs.opening.opening.Goals as goal

pub overflow_sub-n : goal.overflow_sub-n
overflow_sub-n c =
    let a! = c.in-Some.ensures in
    let e : c.from.result ≡ singles (get_or rows c.in-Some.row no_row).rule.right = c.from.ensures ∙ singles-there c.in-Some.row _ a!.0 in
    omega (arith, row-singles c.node-node.result.kind c.args.form c.from-n.result c.in-Some.row a!.0 a!.1)

pub opening_parts-requires : goal.opening_parts-requires
opening_parts-requires c =
    let a! = c.in-Some.ensures in
    let f = row-fits c.node-node.result.kind c.args.form c.from-n.result c.in-Some.row a!.0 a!.1 in
    let s = c.args.nodes in
    (c.requires, subst (λ (ps : List Part). PartsFit (node_of s.file.now s.header c.args.k).kind ps) (sym (parts-there c.in-Some.row a!.0)) (subst (λ (r : Raw). PartsFit r.kind (row_parts c.in-Some.row)) c.node-node.ensures f))

pub returns-in-Some : goal.returns-in-Some
returns-in-Some c =
    let a! = c.in-Some.ensures in
    let s = c.args.nodes in
    let k = c.args.k in
    let i = c.in-Some.row in
    let x = node_of s.file.now s.header k in
    let o = own_of s.file.now s.header k in
    let n = next_of c.args.next in
    let first = first_tokens s.file.now s.header k in
    let r = c.opening_parts.result in
    let arity : c.from-n.result ≡ x.arity = c.from-n.ensures ∙ ap (λ (y : Raw). y.arity) c.node-node.ensures in
    let t = subst T (ap₂ (λ (j m : ℕ). is_for j c.args.form m (get_or rows i no_row).rule) (ap (λ (y : Raw). y.kind) c.node-node.ensures) arity) a!.1 in
    let m : c.from-n.result - c.from.result ≡ list_length i x.arity = ap₂ (λ (p q : ℕ). p - q) arity (c.from.ensures ∙ singles-there i _ a!.0) in
    opens-by s.file.now s.header s.readable k c.requires c.args.form n i a!.0 t r
    (subst (λ (j : ℕ). Opens r (begin_parts j o n first (row_parts i))) m
    (subst (λ (ps : List Part). Opens r (begin_parts (c.from-n.result - c.from.result) o n first ps)) (parts-there i a!.0) c.opening_parts.ensures))

pub returns-in-None : goal.returns-in-None
returns-in-None c =
    let s = c.args.nodes in
    let x = node_of s.file.now s.header c.args.k in
    let arity : c.from-n.result ≡ x.arity = c.from-n.ensures ∙ ap (λ (y : Raw). y.arity) c.node-node.ensures in
    opens-none s.file.now s.header s.readable c.args.k c.requires c.args.form (next_of c.args.next)
    (λ i l. sym (ap₂ (λ (j m : ℕ). is_for j c.args.form m (get_or rows i no_row).rule) (ap (λ (y : Raw). y.kind) c.node-node.ensures) arity) ∙ c.in-None.ensures i l)
