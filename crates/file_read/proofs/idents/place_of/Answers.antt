-- `file_read::idents::place_of` meets its contract. The invariant: none of the first j has the identifier. Assumes nothing.
use Rattle.std.proofs.Common.{◌≡◌, get_or, sym, ap, ◌∙◌, arith}
use Rattle.def_file.specs.Script.{zero_node, same_id}
use Rattle.file_read.specs.Idents.{ids_of}
use Rattle.file_read.proofs.Names.{ids-length, ids_at, place-hit, place-miss, known-no, same_as, first-none, first-from}
use Rattle.file_read.proofs.idents.place_of.Goals as goal

pub returns-in_err-first : goal.returns-in_err-first
returns-in_err-first c =
    let a = c.args in
    rw c.from_residual.ensures (first-none c.requires.2 a.x (omega (arith, c.in_err-first.ensures)))

pub loop-j-init : goal.loop-j-init
loop-j-init c =
    let a = c.args in
    first-from c.requires.2 a.x _ c.requires.3 (omega (arith, c.in_ok-first.ensures))

pub returns-then-eq : goal.returns-then-eq
returns-then-eq c =
    let a = c.args in
    let j = c.loop-j.j in
    let ids = ids_of a.file.now a.words.now in
    let len = ids-length a.file.now a.words.now in
    let p = c.ident.ensures in
    let r = c.ident-in-loop-j.ensures in
    let q : same_id a.x (get_or ids j zero_node) ≡ c.eq.result = ap (same_id a.x) (ids_at a.file.now a.words.now j c.loop-j-test.true ∙ sym c.node_at.ensures) ∙ same_as a.x c.node_at.result p.0 p.1 r.0 r.1 ∙ sym c.eq.ensures in
    (omega arith, omega (arith, place-hit a.x ids j (omega arith) (q ∙ c.if-eq.true)))

pub loop-j-preserved : goal.loop-j-preserved
loop-j-preserved c =
    let a = c.args in
    let j = c.loop-j.j in
    let ids = ids_of a.file.now a.words.now in
    let len = ids-length a.file.now a.words.now in
    let p = c.ident.ensures in
    let r = c.ident-in-loop-j.ensures in
    let q : same_id a.x (get_or ids j zero_node) ≡ c.eq.result = ap (same_id a.x) (ids_at a.file.now a.words.now j c.loop-j-test.true ∙ sym c.node_at.ensures) ∙ same_as a.x c.node_at.result p.0 p.1 r.0 r.1 ∙ sym c.eq.ensures in
    omega (arith, c.loop-j.invariant, place-miss a.x ids j (omega arith) (q ∙ c.if-eq.false))

pub returns : goal.returns
returns c =
    let a = c.args in
    known-no a.x (ids_of a.file.now a.words.now) (omega (arith, c.loop-j.invariant, ids-length a.file.now a.words.now))
