-- A node with its new numbers. Assumes nothing.
use Rattle.std.proofs.Common.{◌≡◌, ℕ, get_or, sym, ap, ◌∙◌, arith}
use Rattle.def_file.specs.Script.{zero_node}
use Rattle.def_canon.specs.Canon.{index_of}
use Rattle.laws_canon.proofs.Uses.{index-le}
use Rattle.file_canon.specs.Uses.{uses_of}
use Rattle.file_canon.specs.Form.{read_of}
use Rattle.file_read.proofs.Raws.{node-raw}
use Rattle.file_canon.proofs.Formed.{holds-texts, holds-contexts, plain-node, texted-node, named-node}
use Rattle.file_canon.proofs.form.Form.node.Goals as goal

pub returns-then-not-uses_text : goal.returns-then-not-uses_text
returns-then-not-uses_text c =
    let s = c.args.self in
    let x = c.node_at-x.result in
    let e : x ≡ get_or (read_of s.file.now s.header).nodes c.args.k zero_node = c.node_at-x.ensures ∙ sym (node-raw s.header.nodes c.args.k s.file.now c.requires) in
    plain-node s.held c.args.k c.requires x e (sym (c.uses_text.ensures x.kind c.from-kind.ensures.1) ∙ c.if-not-uses_text.true)

pub place_of-text-requires : goal.place_of-text-requires
place_of-text-requires c = holds-texts c.args.self.held

pub place_of-bits-requires : goal.place_of-bits-requires
place_of-bits-requires c = holds-contexts c.args.self.held

pub overflow_cast-text : goal.overflow_cast-text
overflow_cast-text c =
    let H = c.args.self.held in
    omega (arith, c.place_of-text.ensures, index-le c.from.result (uses_of c.args.self.words.now 8336), (holds-texts H).few)

pub returns-then-not-is_name : goal.returns-then-not-is_name
returns-then-not-is_name c =
    let s = c.args.self in
    let x = c.node_at-x.result in
    let e : x ≡ get_or (read_of s.file.now s.header).nodes c.args.k zero_node = c.node_at-x.ensures ∙ sym (node-raw s.header.nodes c.args.k s.file.now c.requires) in
    let kind = c.from-kind.ensures.1 in
    texted-node s.held c.args.k c.requires x e (sym (c.uses_text.ensures x.kind kind) ∙ c.if-not-uses_text.false) c.place_of-text.result (c.place_of-text.ensures ∙ ap (λ (t : ℕ). index_of t (uses_of s.words.now 8336)) c.from.ensures)
    (sym (c.is_name.ensures x.kind kind) ∙ c.if-not-is_name.true)

pub returns : goal.returns
returns c =
    let s = c.args.self in
    let x = c.node_at-x.result in
    let e : x ≡ get_or (read_of s.file.now s.header).nodes c.args.k zero_node = c.node_at-x.ensures ∙ sym (node-raw s.header.nodes c.args.k s.file.now c.requires) in
    let kind = c.from-kind.ensures.1 in
    named-node s.held c.args.k c.requires x e (sym (c.uses_text.ensures x.kind kind) ∙ c.if-not-uses_text.false) c.place_of-text.result (c.place_of-text.ensures ∙ ap (λ (t : ℕ). index_of t (uses_of s.words.now 8336)) c.from.ensures)
    (sym (c.is_name.ensures x.kind kind) ∙ c.if-not-is_name.false) c.place_of-bits.result c.place_of-bits.ensures
