-- What reading the header promises. Assumes nothing: these are definitions.
use Rattle.std.specs.Prelude.{◌≡◌, List, ℕ, ◌+◌, ◌*◌, ◌≤◌, length, Result, Ok, Err}
use Rattle.def_file.specs.Read.{Read, bad, u32, header}
use Rattle.refusal.specs.declared.Refusal.{Refusal}
use Rattle.refusal.specs.Number.{number}
use Rattle.file_read.specs.declared.texts.Texts.{Texts}
use Rattle.file_read.specs.declared.header.Header.{Header}

-- where the texts stand in a file of n nodes and t texts
abbrev pub places : ℕ → ℕ → Texts
places n t = record { ends = 32 + 16 * n; bytes = 32 + 16 * n + 4 * t; count = t }

-- what reading gives after the header, by what `rest` gives
abbrev pub headed : Result Header Refusal → Read → Read
headed (Ok h) rest = rest
headed (Err r) rest = bad (number r)

-- the counts of a header that was found
pub record Counts (bs : List ℕ) (h : Header) : Type 0 where
  pub nodes : h.nodes ≡ u32 bs 8
  pub texts : h.texts ≡ u32 bs 16
  pub bytes : h.bytes ≡ u32 bs 28
  pub some : 1 ≤ h.nodes
  pub few : h.nodes ≤ 1024
  pub few_texts : h.texts ≤ 256
  pub few_bytes : h.bytes ≤ 4096
  pub size : length bs ≡ 32 + 16 * h.nodes + 4 * h.texts + h.bytes

abbrev pub Headed : List ℕ → Result Header Refusal → Type 0
Headed bs (Ok h) = Counts bs h
Headed bs (Err r) = Unit {0}

pub record HeadIs (bs : List ℕ) (r : Result Header Refusal) : Type 0 where
  pub is : (rest : Read) → header bs rest ≡ headed r rest
  pub counts : Headed bs r
