-- `kind_table::with_some_count` meets its contract: it tries 1 to 4 children. Assumes nothing.
use Rattle.std.proofs.Common.{refl, rules, tests, ◌&&◌}
use Rattle.std.proofs.lemmas.Iterator.{YieldsList-from_range}
use Rattle.std.proofs.lemmas.Iterator.Search.{any_from_yields_List}
use Rattle.def_file.specs.Kinds.{count_ok}
use Rattle.def_kinds.specs.Stands.{at_some_place}
use Rattle.kind_table.proofs.with_some_count.Goals as goal

pub returns : goal.returns
returns c = λ k e. any_from_yields_List (λ n. count_ok c.args.row n && at_some_place c.args.row k n) _ _ _ c.any.ensures.ran (YieldsList-from_range 1 5 4 refl refl) (λ n b q h. search (rules, tests))
