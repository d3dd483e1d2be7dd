-- Eight numbers, one behind the other. Assumes nothing.
use Rattle.std.proofs.Common.{◌+◌, ◌*◌, refl}
use Rattle.def_file.specs.Write.{bytes}
use Rattle.file_write.proofs.Stores.{first, then}
use Rattle.file_write.proofs.put.put_head.Goals as goal

pub returns : goal.returns
returns c =
    let a = c.args in
    let h = a.header in
    let total = c.total.ensures in
    let at = c.places-at.ensures in
    let s0 = first a.b.now 0 (bytes 4 1) c.put_number.ensures in
    let s1 = then s0 4 (bytes 4 (32 + 16 * h.nodes + 4 * h.texts + h.bytes)) (rw total at c.put_number-2.ensures) refl in
    let s2 = then s1 8 (bytes 4 h.nodes) c.put_number-3.ensures refl in
    let s3 = then s2 12 (bytes 4 32) c.put_number-4.ensures refl in
    let s4 = then s3 16 (bytes 4 h.texts) c.put_number-5.ensures refl in
    let s5 = then s4 20 (bytes 4 (32 + 16 * h.nodes)) (rw at at c.put_number-6.ensures) refl in
    let s6 = then s5 24 (bytes 4 (32 + 16 * h.nodes + 4 * h.texts)) (rw at at c.put_number-7.ensures) refl in
    (then s6 28 (bytes 4 h.bytes) c.put_number-8.ensures refl).is
