-- The ends of the first i texts. Assumes nothing.
use Rattle.std.proofs.Common.{◌≡◌, length, take}
use Rattle.std.proofs.lemmas.List.Edits.{sets}
use Rattle.def_file.specs.Write.{end_bytes, text_bytes}
use Rattle.file_canon.specs.Form.{form_of}
use Rattle.file_canon.proofs.form.Form.put_ends.Given as goal

abbrev pub invariant-loop-i : goal.invariant-loop-i
invariant-loop-i l =
    (l.end ≡ length (text_bytes (take l.i (form_of l.self.file.now l.self.header).texts)))
    × (l.res ≡ sets l.initial.res l.p (end_bytes 0 (take l.i (form_of l.self.file.now l.self.header).texts)))
