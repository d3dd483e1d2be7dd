-- Node by node, texts and contexts. Assumes nothing.
use Rattle.std.proofs.Common.{drop, refl, sym, ◌∙◌, arith}
use lib.Seq.{take_all}
use Rattle.def_file.specs.Read.{nodes_from}
use Rattle.file_read.proofs.Raws.{nodes-length, node-raw}
use Rattle.file_canon.proofs.Numbers.{noted-kept, kept-then, used-none, room-texts, room-contexts, used-more}
use Rattle.file_canon.proofs.number.Goals as goal

pub loop-k-init : goal.loop-k-init
loop-k-init c = used-none c.args.words.now c.requires.1

pub note-requires : goal.note-requires
note-requires c =
    let xs = nodes_from c.args.n (drop 32 c.args.file.now) in
    let n = nodes-length c.args.n (drop 32 c.args.file.now) in
    room-texts c.loop-k.words xs c.loop-k.k c.loop-k.invariant.0 (omega arith) (omega (arith, c.requires.0.few))

pub note-requires-in-loop-k : goal.note-requires-in-loop-k
note-requires-in-loop-k c =
    let xs = nodes_from c.args.n (drop 32 c.args.file.now) in
    let n = nodes-length c.args.n (drop 32 c.args.file.now) in
    room-contexts c.loop-k.words xs c.loop-k.k c.loop-k.invariant.0 (omega arith) (omega (arith, c.requires.0.few)) c.note.ensures

pub loop-k-preserved : goal.loop-k-preserved
loop-k-preserved c =
    let bs = c.args.file.now in
    let k = c.loop-k.k in
    let xs = nodes_from c.args.n (drop 32 bs) in
    let n = nodes-length c.args.n (drop 32 bs) in
    let x = c.node_at-x.result in
    let there = node-raw c.args.n k bs c.loop-k-test.true ∙ sym c.node_at-x.ensures in (
      used-more c.loop-k.words xs k c.loop-k.invariant.0 (omega arith) (omega (arith, c.requires.0.few)) c.note.ensures c.note-in-loop-k.ensures x there
          (c.uses_text.ensures x.kind c.from-kind.ensures.1) c.from.ensures (c.is_name.ensures x.kind c.from-kind.ensures.1) refl,
      kept-then c.loop-k.invariant.1 (kept-then (noted-kept (omega arith) c.note.ensures) (noted-kept (omega arith) c.note-in-loop-k.ensures)),
    )

pub returns : goal.returns
returns c =
    let xs = nodes_from c.args.n (drop 32 c.args.file.now) in
    let n = nodes-length c.args.n (drop 32 c.args.file.now) in
    let all = take_all c.loop-k.k xs (omega arith) in
    record { used = rw all at c.loop-k.invariant.0; kept = c.loop-k.invariant.1 }
