-- The port's own enum for how a name is written, and what it is in the definition. Assumes nothing: these are definitions.
use Rattle.std.specs.Prelude.{Bool, true, false}
use Rattle.scope_read_write.specs.declared.Write.{Write}
use Rattle.scope_read_write.specs.declared.Write.TheVariants.{Plain, Forced}

-- is it prevented in any case
abbrev pub forced : Write → Bool
forced Plain = false
forced Forced = true
