-- The sweep over the bindings from lo on. Assumes nothing.
use Rattle.scope_read_write.proofs.Fields as fields
use Rattle.scope_read_write.proofs.mark.prevent_params.Given as goal

abbrev pub invariant-loop-k : goal.invariant-loop-k
invariant-loop-k l = fields.Swept l.initial.w l.w l.lo l.k
