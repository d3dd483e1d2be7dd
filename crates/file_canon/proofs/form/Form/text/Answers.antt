-- A text by its number. Assumes nothing.
use Rattle.std.proofs.Common.{◌+◌, ◌*◌, ap, ◌∙◌, arith}
use Rattle.file_read.specs.declared.texts.Texts.{Texts}
use Rattle.file_read.specs.Text.{text_in}
use Rattle.file_canon.proofs.Formed.{holds-texts, text-known, text-there}
use Rattle.file_canon.proofs.form.Form.text.Goals as goal

pub at-t-requires : goal.at-t-requires
at-t-requires c = let H = c.args.self.held in (holds-texts H, omega (arith, H.few, c.requires))

pub text-requires : goal.text-requires
text-requires c =
    let H = c.args.self.held in
    rw c.places.ensures (H.readable.placed.stored, omega (arith, text-known H c.args.i c.requires, c.at-t.ensures))

pub returns : goal.returns
returns c =
    let s = c.args.self in
    c.text.ensures ∙ ap (λ (x : Texts). text_in s.file.now x.ends x.bytes c.at-t.result) c.places.ensures
    ∙ ap (text_in s.file.now (32 + 16 * s.header.nodes) (32 + 16 * s.header.nodes + 4 * s.header.texts)) c.at-t.ensures ∙ text-there s.held c.args.i c.requires
