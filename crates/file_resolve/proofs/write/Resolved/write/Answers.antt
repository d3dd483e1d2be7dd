-- The file, and its nodes over it. Assumes nothing.
use Rattle.std.proofs.Common.{◌≡◌, ◌≤◌, length, ◌∙◌, sym, arith}
use Rattle.def_file.specs.Write.{file}
use Rattle.def_resolve.specs.Resolve.{resolved}
use Rattle.file_canon.proofs.Written.{copied}
use Rattle.file_resolve.specs.Check.{read_of}
use Rattle.file_resolve.proofs.Written.{file-length, total-is, file-written, no-room, written}
use Rattle.file_resolve.proofs.write.Resolved.write.Goals as goal

pub returns-then-buffer-total : goal.returns-then-buffer-total
returns-then-buffer-total c =
    let s = c.args.self in
    no-room c.args.buffer.now (file (resolved (read_of s.file.now s.header))) (omega (arith, c.if-buffer-total.true, c.total-total.ensures, file-length s.shaped s.bytes))

pub returns : goal.returns
returns c =
    let s = c.args.self in
    let r = c.args.buffer.now in
    let F = file (resolved (read_of s.file.now s.header)) in
    let size : c.total-total.result ≡ length F = omega (arith, c.total-total.ensures, file-length s.shaped s.bytes) in
    let room : length F ≤ length r = omega (arith, size, c.if-buffer-total.false) in
    written r F room size
    (file-written s.shaped s.bytes r c.total-total.result (omega (arith, room, file-length s.shaped s.bytes)) c.total-total.ensures
    (c.copy.ensures ∙ copied r s.file.now 0 c.total-total.result (c.total-total.ensures ∙ sym (total-is s.shaped s.bytes)) (omega (arith, room, size))) c.put_nodes.ensures)
