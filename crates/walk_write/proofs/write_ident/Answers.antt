-- The node's number and form. Assumes nothing.
use Rattle.scope_read_write.specs.Writes.{forced}
use Rattle.std.proofs.Common.{ap, ◌∙◌}
use Rattle.def_pass.specs.Twice.{is_args}
use Rattle.walk_write.proofs.Writing.{ident-act}
use Rattle.walk_write.proofs.write_ident.Goals as goal

pub returns : goal.returns
returns c = ident-act c.args.w.now c.args.i c.requires.1 c.name_at-name.result.ident c.arguments.result (forced c.args.how) c.add_write.result c.requires.0 c.name_at-name.ensures.0 (c.arguments.ensures ∙ ap is_args c.name_at-name.ensures.1) c.add_write.ensures
