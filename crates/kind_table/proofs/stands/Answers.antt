-- `kind_table::stands` meets its contract: it tries the forms 0 to 24. Assumes nothing.
use Rattle.std.proofs.Common.{refl, rules, tests, ◌&&◌}
use Rattle.std.proofs.lemmas.Iterator.{YieldsList-from_range}
use Rattle.std.proofs.lemmas.Iterator.Search.{any_from_yields_List}
use Rattle.def_file.specs.Kinds.{row_of, form_ok}
use Rattle.def_kinds.specs.Stands.{with_some_count, stands}
use Rattle.kind_table.proofs.stands.Goals as goal

pub returns : goal.returns
unfolding stands
returns c = any_from_yields_List (λ f. form_ok (row_of c.args.parent f) f && with_some_count (row_of c.args.parent f) c.args.child) _ _ _ c.any.ensures.ran (YieldsList-from_range 0 25 25 refl refl) (λ f b q h. search (rules, tests))
