-- Answers that may be none, and the parts of a write. Assumes nothing: these are definitions.
use Rattle.std.specs.Prelude.{Option as Answer, Some, None, Bool, true, false, ◌||◌, not, ℕ}
use Rattle.std.proofs.Math.Option.{Option, none, some}
use Rattle.def_tree.specs.Base.{pick}
use Rattle.def_tree.specs.Tree.{Core}
use Rattle.def_file.specs.declared.kind.Kind.TheVariants.{BindingIdent, Ident}
use Rattle.def_file.specs.Named.{is_kind}
use Rattle.def_pass.specs.Scope.{Stack, v_var, change, defined, prevent_inline, scope_for, has_constant, append, fresh}

-- an answer as the definition's option
abbrev pub count_of : Answer ℕ → Option ℕ
count_of None = none
count_of (Some n) = some n

-- the parts of add_write behind its marks: of an identifier that is bound, of one that is not, and both
abbrev pub write_bound : ℕ → Bool → Stack → Stack
write_bound x far st = pick far (prevent_inline x (change x defined st)) (change x defined st)

abbrev pub write_free : ℕ → Bool → Stack → Stack
write_free x force st = pick (has_constant x st) st (append (fresh x v_var none force false none) st)

abbrev pub write_to : ℕ → Bool → Stack → Stack
write_to x force st = pick (scope_for true x st).0 (write_bound x (not (scope_for true x st).1 || force) st) (write_free x force st)

-- a binding or an identifier
abbrev pub is_name : Core → Bool
is_name c = is_kind BindingIdent c.kind || is_kind Ident c.kind
