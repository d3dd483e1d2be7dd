-- Request 9: at any step the live counts plus the ended total equal the replacements made so far in all runs. Assumes nothing: these are definitions.
use Rattle.std.specs.Prelude.{◌≡◌, ◌+◌}
use Rattle.def_pass.specs.Tree.{Tree}
use Rattle.def_pass.specs.Scope.{wrap, live_counts}
use Rattle.def_pass.specs.Walk.{St}
use Rattle.laws_pass.specs.Reached.{Reached}

-- modulo 2^32
abbrev pub Balanced : St → Type 0
Balanced s = wrap (live_counts s.stack + s.ended) ≡ s.replaced

abbrev pub CountsBalance : Type 0
CountsBalance = (t : Tree) (s : St) → Reached t s → Balanced s
