-- What `print_nodes` asks is what reading promises of a script's counts. Assumes nothing.
use Rattle.file_copy.proofs.Ends.{within}
use Rattle.show.proofs.show.Goals as goal

pub print_nodes-requires : goal.print_nodes-requires
print_nodes-requires g c = within _ c.read.ensures c.in-Ok.is
