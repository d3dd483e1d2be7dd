use Rattle.std.proofs.Common.{◌+◌, refl}
use Rattle.std.proofs.Math.Seq.{drop-drop}
use Rattle.file_read.proofs.Numbers.{byte_at}
use Rattle.file_read.proofs.fields.raw_at.Goals as goal

pub returns : goal.returns
returns c =
    let xs = c.args.b.now in
    let i = c.args.i in
    rw (c.u16_at.ensures, c.u32_at.ensures, c.u64_at.ensures, drop-drop 1 i xs, drop-drop 2 i xs, drop-drop 4 i xs, drop-drop 8 i xs, byte_at i xs, byte_at (i + 1) xs) refl
