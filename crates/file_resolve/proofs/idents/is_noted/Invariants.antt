-- Whether it is one of the first ones. Assumes nothing.
use Rattle.std.proofs.Common.{◌≡◌}
use Rattle.def_tree.specs.Base.{member}
use Rattle.words.specs.Layout.{ident_word}
use Rattle.words.specs.Tab.{tab}
use Rattle.file_resolve.proofs.idents.is_noted.Given as goal

abbrev pub invariant-loop-j : goal.invariant-loop-j
invariant-loop-j l = l.noted ≡ member l.key (tab l.j (λ i. ident_word l.words i))
