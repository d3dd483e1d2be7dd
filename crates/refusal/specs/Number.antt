-- The numbers of the refusals. Assumes nothing: these are definitions.
use Rattle.std.specs.Prelude.{ℕ, Result, Ok, Err}
use Rattle.refusal.specs.declared.Refusal.{Refusal}
use Rattle.refusal.specs.declared.Refusal.TheVariants.{Call, Version, Counts, Layout, Texts, Nodes, Idents, Depth, Room, Buffer, TextBuffer, NoText, Clash, Table, Pairs, CanonBuffer}

-- the number of its row
abbrev pub number : Refusal → ℕ
number Call = 1
number Version = 2
number Counts = 3
number Layout = 4
number Texts = 5
number Nodes = 6
number Idents = 7
number Depth = 8
number Room = 9
number Buffer = 10
number TextBuffer = 11
number NoText = 12
number Clash = 13
number Table = 14
number Pairs = 15
number CanonBuffer = 16

-- the number of the row that an answer refuses by, 0 if it refuses nothing
abbrev pub refused : {T : Type 0} → Result T Refusal → ℕ
refused (Ok _) = 0
refused (Err r) = number r
