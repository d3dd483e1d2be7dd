-- Node by node. Assumes nothing.
use Rattle.std.proofs.Common.{map, take}
use Rattle.scope_calls.specs.Begun.{Begun}
use Rattle.scope_calls.proofs.Keep as keep
use Rattle.scope_calls.proofs.begin.plant.Given as goal

abbrev pub invariant-loop-kind : goal.invariant-loop-kind
invariant-loop-kind l = Begun l.w (map keep.node-of (take l.kind-index keep.given))
