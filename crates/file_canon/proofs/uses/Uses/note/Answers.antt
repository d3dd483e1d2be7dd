-- A number noted, or none. Assumes nothing.
use Rattle.std.proofs.Common.{◌≡◌, get_or, ◌∙◌, arith}
use Rattle.file_canon.specs.Uses.{uses_of}
use Rattle.file_canon.proofs.Numbers.{uses-length, not-used, known, nothing, put-behind}
use Rattle.file_canon.proofs.uses.Uses.note.Goals as goal
use Rattle.file_canon.proofs.uses.Uses.note.Goals.{then-not-used-via-then-not-used, then-not-used-via-else-not-used+then-place_of-count}

pub returns-then-not-used : goal.returns-then-not-used
returns-then-not-used c =
    let a = c.args in
    let us = uses_of a.words.now a.self.base in
    elim c.then-not-used.branch [
      | then-not-used-via-then-not-used w ↦ nothing a.words.now a.self.base a.used a.x (not-used a.x us a.used w.if-not-used.true)
      | then-not-used-via-else-not-used+then-place_of-count w ↦ nothing a.words.now a.self.base a.used a.x (known a.x us a.used (omega (arith, w.place_of.ensures, w.if-place_of-count.true, c.count-count.ensures)))
    ]

pub returns : goal.returns
returns c =
    let a = c.args in
    let w = a.words.now in
    let p = a.self.base in
    let count : c.count-count.result ≡ get_or w p 0 = c.count-count.ensures ∙ uses-length w p in
    rw count (put-behind w p a.x c.requires.0 c.requires.1 a.used c.if-not-used.false (omega (arith, c.place_of.ensures, c.if-place_of-count.false, c.count-count.ensures)))
