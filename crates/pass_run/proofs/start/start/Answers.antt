-- The targets, the fields, the root scope, and the flags. Assumes nothing.
use Rattle.std.proofs.Common.{ap}
use Rattle.words_scopes.specs.Kinds.{kind_of}
use Rattle.pass_run.proofs.Starts as starts
use Rattle.pass_run.proofs.start.start.Goals as goal

pub mark_targets-requires : goal.mark_targets-requires
mark_targets-requires c = starts.as-script c.requires

pub set_fields-requires : goal.set_fields-requires
set_fields-requires c = (starts.marked-loaded c.requires c.mark_targets.ensures).long

pub open_scope-requires : goal.open_scope-requires
open_scope-requires c = (starts.planted (starts.marked-loaded c.requires c.mark_targets.ensures) c.set_fields.ensures.is).good

pub unwrap-requires : goal.unwrap-requires
unwrap-requires c = starts.opens (starts.marked-loaded c.requires c.mark_targets.ensures) c.set_fields.ensures.is _ _ c.open_scope.result c.open_scope.ensures

pub flag_twice-requires : goal.flag_twice-requires
flag_twice-requires c =
    let o = starts.root-opened c.requires c.mark_targets.ensures c.set_fields.ensures.is c.open_scope.new.w c.new-root.result.kind c.open_scope.result (ap kind_of c.new-root.ensures) c.open_scope.auto.w c.open_scope.ensures in
    (o.planted, starts.opened-plain o c.requires)

pub returns : goal.returns
returns c =
    let o = starts.root-opened c.requires c.mark_targets.ensures c.set_fields.ensures.is c.open_scope.new.w c.new-root.result.kind c.open_scope.result (ap kind_of c.new-root.ensures) c.open_scope.auto.w c.open_scope.ensures in
    let s = starts.started o c.flag_twice.ensures in
    record { is = s; balance = starts.balances s }
