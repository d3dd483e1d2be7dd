-- `file_read::texts::Texts::rising` meets its contract. The invariant: the ends passed never fell, and the last of them is `at`. Assumes nothing.
use Rattle.std.proofs.Common.{◌≡◌, ℕ, ◌+◌, get_or, drop, sym, ap, ◌∙◌, arith}
use Rattle.def_file.specs.Read.{ends_from, rising}
use Rattle.file_read.proofs.Strings.{ends-length, end-raw, rising_step, rising-falls, rising-end}
use Rattle.file_read.proofs.texts.Texts.rising.Goals as goal

pub returns-then-e-at : goal.returns-then-e-at
returns-then-e-at c =
    let a = c.args in
    let es = ends_from a.self.count (drop a.self.ends a.file.now) in
    let k = c.loop-k.k in
    let len = ends-length a.self.count (drop a.self.ends a.file.now) in
    let e : get_or es k 0 ≡ c.end-e.result = end-raw a.self.count k a.self.ends a.file.now c.loop-k-test.true ∙ sym c.end-e.ensures.0 in
    sym (c.loop-k.invariant ∙ rising-falls es c.loop-k.at a.b k (omega arith) (omega arith))

pub loop-k-preserved : goal.loop-k-preserved
loop-k-preserved c =
    let a = c.args in
    let es = ends_from a.self.count (drop a.self.ends a.file.now) in
    let k = c.loop-k.k in
    let len = ends-length a.self.count (drop a.self.ends a.file.now) in
    let e : get_or es k 0 ≡ c.end-e.result = end-raw a.self.count k a.self.ends a.file.now c.loop-k-test.true ∙ sym c.end-e.ensures.0 in
    c.loop-k.invariant ∙ rising_step es c.loop-k.at a.b k (omega arith) (omega arith) ∙ ap (λ (m : ℕ). rising m (drop (k + 1) es) a.b) e

pub returns : goal.returns
returns c =
    let a = c.args in
    let es = ends_from a.self.count (drop a.self.ends a.file.now) in
    sym (c.loop-k.invariant ∙ rising-end es c.loop-k.at a.b c.loop-k.k (omega (arith, ends-length a.self.count (drop a.self.ends a.file.now))))
