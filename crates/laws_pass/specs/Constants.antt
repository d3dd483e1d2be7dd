-- Request 8: in any pass the look-up of a constant gives no identifier that the script as read targets. Assumes nothing: these are definitions.
use Rattle.std.specs.Prelude.{◌≡◌, true, false, ℕ}
use Rattle.std.proofs.Math.Option.{some}
use Rattle.def_pass.specs.Tree.{Tree, num, is_ident}
use Rattle.def_pass.specs.Targets.{targets}
use Rattle.def_pass.specs.Scope.{find_constant}
use Rattle.def_pass.specs.Walk.{St}
use Rattle.laws_pass.specs.Reached.{Reached}

abbrev pub LookUpFree : Type 0
LookUpFree = (t : Tree) (s : St) → Reached t s → (x : ℕ) (e : Tree) → find_constant x s.stack ≡ some e → is_ident e ≡ true → targets t (num e) ≡ false
