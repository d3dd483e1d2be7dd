-- Node by node, from the first on. Assumes nothing.
use native.Mathlib.Omega.{arith}
use Rattle.words_targets.proofs.Targets as laws
use Rattle.words_targets.proofs.mark_targets.Goals as goal

pub loop-k-init : goal.loop-k-init
loop-k-init c = (laws.beside-self c.wipe.new.w, laws.sum-start c.wipe.ensures)

pub scan_node-requires : goal.scan_node-requires
scan_node-requires c =
    let s = laws.beside-script c.requires (laws.zeroed-beside c.wipe.ensures) in
    (laws.beside-script s c.loop-k.invariant.0, omega (arith, c.loop-k.invariant.0.low 0 (omega arith)))

pub loop-k-preserved : goal.loop-k-preserved
loop-k-preserved c =
    let s = laws.beside-script c.requires (laws.zeroed-beside c.wipe.ensures) in
    (laws.beside-then c.loop-k.invariant.0 c.scan_node.ensures.beside, laws.sum_step c.loop-k.k s c.loop-k.invariant.0 (omega arith) c.loop-k.invariant.1 c.scan_node.ensures)

pub returns : goal.returns
returns c =
    let s = laws.beside-script c.requires (laws.zeroed-beside c.wipe.ensures) in
    laws.from-wiped c.requires c.wipe.ensures (laws.all-targets c.loop-k.k s c.loop-k.invariant.0 (omega arith) c.loop-k.invariant.1)
