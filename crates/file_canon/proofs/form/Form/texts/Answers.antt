-- How many texts there are. Assumes nothing.
use Rattle.std.proofs.Common.{◌∙◌}
use Rattle.file_canon.proofs.Formed.{texts-length, holds-texts}
use Rattle.file_canon.proofs.form.Form.texts.Goals as goal

pub count-requires : goal.count-requires
count-requires c = holds-texts c.args.self.held

pub returns : goal.returns
returns c = c.count.ensures ∙ texts-length c.args.self.held
