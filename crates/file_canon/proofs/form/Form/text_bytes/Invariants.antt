-- The bytes of the first i texts. Assumes nothing.
use Rattle.std.proofs.Common.{◌≡◌, length, take}
use Rattle.def_file.specs.Write.{text_bytes}
use Rattle.file_canon.specs.Form.{form_of}
use Rattle.file_canon.proofs.form.Form.text_bytes.Given as goal

abbrev pub invariant-loop-i : goal.invariant-loop-i
invariant-loop-i l = l.sum ≡ length (text_bytes (take l.i (form_of l.self.file.now l.self.header).texts))
