-- Assumes nothing.
use Rattle.std.proofs.Common.{◌+◌, ◌*◌, ap, ◌∙◌, arith}
use Rattle.def_file.specs.declared.Raw.{Raw}
use Rattle.file_read.specs.declared.texts.Texts.{Texts}
use Rattle.file_read.specs.Text.{text_in}
use Rattle.text_tokens.specs.Tokens.{node_of}
use Rattle.text_tokens.proofs.Found.{text-few, text-there}
use Rattle.text_tokens.proofs.nodes.Nodes.text.Goals as goal

pub text-requires : goal.text-requires
text-requires c =
    let s = c.args.self in
    let e = ap (λ (x : Raw). x.text) c.node-t.ensures in
    rw c.places.ensures (s.readable.placed.stored, omega (arith, e, text-few s.readable c.args.k c.requires.0 c.requires.1))

pub returns : goal.returns
returns c =
    let s = c.args.self in
    c.text.ensures ∙ ap (λ (x : Texts). text_in s.file.now x.ends x.bytes c.node-t.result.text) c.places.ensures
    ∙ ap (λ (x : Raw). text_in s.file.now (32 + 16 * s.header.nodes) (32 + 16 * s.header.nodes + 4 * s.header.texts) x.text) c.node-t.ensures
    ∙ text-there s.readable (node_of s.file.now s.header c.args.k).text (text-few s.readable c.args.k c.requires.0 c.requires.1)
