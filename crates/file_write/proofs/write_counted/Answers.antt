-- Header, nodes and texts, one behind the other. Assumes nothing.
use Rattle.std.proofs.Common.{◌≡◌, ◌<◌, ◌≤◌, ◌+◌, ◌-◌, ◌*◌, length, get_or, sym, ◌∙◌, arith, rules, tests}
use mathlib.Core.Bool.{◌&&◌}
use lib.Dec.{leb}
use Rattle.refusal.specs.declared.Refusal.TheVariants.{Room, Buffer}
use Rattle.file_write.specs.Written.{fitted, total, result_bytes}
use Rattle.file_write.proofs.Laid as laid
use Rattle.file_write.proofs.write_counted.Goals as goal

pub returns-then-not-contains : goal.returns-then-not-contains
returns-then-not-contains c =
    let a = c.args in
    let bs = a.file.now in
    let w = a.words.now in
    let r = a.res.now in
    let m = get_or w 0 0 in
    let p : c.contains.result ≡ (leb 1 m && leb m 1024) = search (rules, tests) in
    laid.left_so (result_bytes bs w) r (fitted bs w (length r)) Room (laid.fit-not bs w (length r) (sym p ∙ c.if-not-contains.true))

pub returns-then-res-total : goal.returns-then-res-total
returns-then-res-total c =
    let a = c.args in
    let bs = a.file.now in
    let w = a.words.now in
    let r = a.res.now in
    let K = c.requires in
    let m = get_or w 0 0 in
    let some : 1 ≤ m = search (rules, tests, arith) in
    let few : m ≤ 1024 = search (rules, tests, arith) in
    let q : length r < total bs w = omega (arith, c.total-total.ensures, K.texts, K.bytes) in
    laid.left_so (result_bytes bs w) r (fitted bs w (length r)) Buffer (laid.fit-room bs w (length r) some few ∙ laid.too_short (total bs w) (length r) q)

pub returns : goal.returns
returns c =
    let a = c.args in
    let h = a.header in
    let w = a.words.now in
    let m = get_or w 0 0 in
    let some : 1 ≤ m = search (rules, tests, arith) in
    let few : m ≤ 1024 = search (rules, tests, arith) in
    let total = c.total-total.ensures in
    let r₁ = c.put_head.new.b in
    let texts : 32 + 16 * m + 4 * h.texts + h.bytes - (32 + 16 * m) ≡ 4 * h.texts + h.bytes = omega arith in
    let copied = rw (c.places-ends.ensures, c.places.ensures, total, texts) at c.copy.ensures in
    let room : 32 + 16 * m + 4 * h.texts + h.bytes ≤ length a.res.now = rw total at c.if-res-total.false in
    rw total (laid.all-wrote a.file.now w a.res.now h c.requires some few room r₁ c.put_nodes.new.out c.copy.new.dst (length r₁) c.put_head.auto.b c.put_head.ensures c.put_nodes.ensures copied)
