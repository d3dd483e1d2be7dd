-- None of the first texts is `arguments`. Assumes nothing.
use Rattle.std.proofs.Common.{◌≡◌, ℕ, ◌<◌, false}
use Rattle.def_file.specs.Script.{same_text, text_at, arguments}
use Rattle.file_read.specs.Load.{script_of}
use Rattle.file_resolve.proofs.load.arguments_text.Given as goal

abbrev pub invariant-loop-t : goal.invariant-loop-t
invariant-loop-t l = (i : ℕ) → i < l.t → same_text (text_at (script_of l.file l.fn.header.nodes l.fn.header.texts) i) arguments ≡ false
