-- A node, which has its context if it is a name. Assumes nothing.
use Rattle.std.proofs.Common.{◌≡◌, ◌<◌, get_or, length, sym, ap, ◌∙◌, arith, drop}
use Rattle.def_file.specs.Script.{zero_node, has_id}
use Rattle.file_read.proofs.Raws.{nodes-length, node-raw}
use Rattle.file_resolve.specs.Check.{read_of}
use Rattle.file_resolve.proofs.Written.{other-node, name-node}
use Rattle.file_resolve.proofs.write.Resolved.node.Goals as goal

pub returns-then-not-is_name : goal.returns-then-not-is_name
returns-then-not-is_name c =
    let s = c.args.self in
    let x = c.node_at-x.result in
    let e : x ≡ get_or (read_of s.file.now s.header).nodes c.args.k zero_node = c.node_at-x.ensures ∙ sym (node-raw s.header.nodes c.args.k s.file.now c.requires) in
    let l : c.args.k < length (read_of s.file.now s.header).nodes = omega (arith, nodes-length s.header.nodes (drop 32 s.file.now), c.requires) in
    e ∙ other-node (read_of s.file.now s.header) s.contexts.now s.names c.args.k l (ap has_id (sym e) ∙ sym (c.is_name.ensures x.kind c.from.ensures.1) ∙ c.if-not-is_name.true)

pub bounds-self-k : goal.bounds-self-k
bounds-self-k c =
    let s = c.args.self in
    omega (arith, s.names.long, nodes-length s.header.nodes (drop 32 s.file.now), c.requires)

pub returns : goal.returns
returns c =
    let s = c.args.self in
    let x = c.node_at-x.result in
    let e : x ≡ get_or (read_of s.file.now s.header).nodes c.args.k zero_node = c.node_at-x.ensures ∙ sym (node-raw s.header.nodes c.args.k s.file.now c.requires) in
    let l : c.args.k < length (read_of s.file.now s.header).nodes = omega (arith, nodes-length s.header.nodes (drop 32 s.file.now), c.requires) in
    name-node (read_of s.file.now s.header) s.contexts.now s.names c.args.k l (ap has_id (sym e) ∙ sym (c.is_name.ensures x.kind c.from.ensures.1) ∙ c.if-not-is_name.false) e c.from-2.ensures
