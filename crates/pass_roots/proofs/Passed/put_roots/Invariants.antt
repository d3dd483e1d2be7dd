-- All root bindings written. Assumes nothing.
use Rattle.std.proofs.Common.{◌≡◌}
use Rattle.std.proofs.lemmas.List.Edits.{sets}
use Rattle.words.specs.Tab.{tab}
use Rattle.pass_roots.specs.Listing.{root_at, root_list}
use Rattle.pass_roots.proofs.Passed.put_roots.Given as goal

abbrev pub invariant-loop-k : goal.invariant-loop-k
invariant-loop-k l = l.roots ≡ sets l.initial.roots 0 (root_list (tab l.k (λ j. root_at l.self.file.now l.self.words.now j)))
