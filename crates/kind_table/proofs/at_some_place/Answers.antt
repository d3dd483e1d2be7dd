-- `kind_table::at_some_place` meets its contract: it tries the places one by one. Assumes nothing.
use Rattle.std.proofs.Common.{refl, arith, rules, tests}
use Rattle.std.proofs.lemmas.Iterator.{YieldsList-from_range}
use Rattle.std.proofs.lemmas.Iterator.Search.{any_from_yields_List}
use Rattle.def_file.specs.Kinds.{allows, child_of}
use Rattle.kind_table.proofs.at_some_place.Goals as goal

pub returns : goal.returns
returns c = λ k e. any_from_yields_List (λ i. allows (child_of c.args.row c.args.n i) k 1) _ _ _ c.any.ensures.ran (YieldsList-from_range 0 c.args.n c.args.n refl (omega arith)) (λ i b q h. search (rules, tests))
