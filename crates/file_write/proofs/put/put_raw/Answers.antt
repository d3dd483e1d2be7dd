-- The fields of a node, one behind the other. Assumes nothing.
use Rattle.std.proofs.Common.{◌+◌, ◌++◌, ap, ◌∙◌, refl, arith}
use Rattle.std.proofs.lemmas.List.Edits.{sets}
use Rattle.def_file.specs.Write.{bytes}
use Rattle.file_write.proofs.Stores.{first, then_number, two_bytes}
use Rattle.file_write.proofs.put.put_raw.Goals as goal

pub returns : goal.returns
returns c =
    let a = c.args in
    let x = a.x in
    let i = a.i in
    let s2 = first a.b.now i (bytes 1 x.kind ++ bytes 1 x.form) (c.put.ensures ∙ ap (sets a.b.now i) (two_bytes x.kind x.form (omega arith) (omega arith))) in
    let s4 = then_number s2 (i + 2) 2 x.arity c.to_le_bytes.ensures c.put-2.ensures refl in
    let s8 = then_number s4 (i + 4) 4 x.text c.to_le_bytes-2.ensures c.put-3.ensures refl in
    (then_number s8 (i + 8) 8 x.bits c.to_le_bytes-3.ensures c.put-4.ensures refl).is
