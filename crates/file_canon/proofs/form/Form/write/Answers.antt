-- Header, nodes, ends and texts. Assumes nothing.
use Rattle.std.proofs.Common.{◌≡◌, ◌+◌, ◌*◌, length, arith}
use Rattle.std.proofs.lemmas.List.Edits.{sets}
use Rattle.def_file.specs.Write.{head_bytes, end_bytes, text_bytes, file}
use Rattle.file_canon.specs.Form.{form_of}
use Rattle.file_canon.proofs.Formed.{form-length}
use Rattle.file_canon.proofs.Written.{file-length, file-written}
use Rattle.file_canon.proofs.Ends.{no-room, written}
use Rattle.file_canon.proofs.form.Form.write.Goals as goal

pub returns-then-res-total : goal.returns-then-res-total
returns-then-res-total c =
    let s = c.args.self in
    let F = form_of s.file.now s.header in
    no-room c.args.res.now (file F) (omega (arith, c.if-res-total.true, c.total-total.ensures, c.texts.ensures, c.text_bytes.ensures, form-length s.held, file-length F))

pub returns : goal.returns
returns c =
    let s = c.args.self in
    let F = form_of s.file.now s.header in
    let r = c.args.res.now in
    let n = form-length s.held in
    let size : c.total-total.result ≡ length (file F) = omega (arith, c.total-total.ensures, c.texts.ensures, c.text_bytes.ensures, n, file-length F) in
    let e₁ : c.put_head.new.b ≡ sets r 0 (head_bytes (length F.nodes) (length F.texts) (length (text_bytes F.texts))) = rw (n, ← c.texts.ensures, ← c.text_bytes.ensures) c.put_head.ensures in
    let e₃ : c.put_ends.new.res ≡ sets c.put_nodes.new.res (32 + 16 * length F.nodes) (end_bytes 0 F.texts) = rw n (rw c.places-at.ensures at c.put_ends.ensures) in
    let e₄ : c.put_texts.new.res ≡ sets c.put_ends.new.res (32 + 16 * length F.nodes + 4 * length F.texts) (text_bytes F.texts) = rw (n, ← c.texts.ensures) (rw c.places-at.ensures at c.put_texts.ensures) in
    written r (file F) (omega (arith, size, c.if-res-total.false)) size (file-written F r (omega (arith, size, c.if-res-total.false)) e₁ c.put_nodes.ensures e₃ e₄)
