-- declare's is_undefined. Assumes nothing.
use mathlib.Core.Path.{◌≡◌, refl, sym, ap, ◌∙◌}
use mathlib.Core.List.{List}
use mathlib.Core.Bool.{Bool, ◌&&◌, not}
use Prim.Native.Nat.{ℕ}
use Rattle.def_tree.specs.Tree.{Core}
use Rattle.def_pass.specs.Twice.{is_twice}
use Rattle.def_pass.specs.Scope.{VarType, is_var, declare}
use Rattle.def_pass.specs.Walk.{St, grow, declare_m, no_value}
use Rattle.scope_declare.specs.declared.define.Init.{Init}
use Rattle.scope_declare.specs.declared.define.Init.TheVariants.{NoInit, Recorded, Seen}
use Rattle.scope_declare.specs.Inits.{init_from, has_none}
use Rattle.scope.specs.Steps.{named}

no-value-is : (xs : List Core) (v : Init) → no_value (init_from xs v) ≡ has_none v
no-value-is xs NoInit = refl
no-value-is xs (Recorded i) = refl
no-value-is xs (Seen i) = refl

pub declare-m-is : (f x : ℕ) (a : Bool) (xs : List Core) (v : Init) (c u : Bool) (k : VarType) (s : St) → a ≡ is_twice f → u ≡ (is_var s.var_decl_kind && not c && has_none v && s.inlining) → declare_m (named f x) (init_from xs v) c k s ≡ grow (declare a x (init_from xs v) u k) s
unfolding declare_m
declare-m-is f x a xs v c u k s h e = rw h (ap (λ (b : Bool). grow (declare (is_twice f) x (init_from xs v) b k) s) (ap (λ (n : Bool). is_var s.var_decl_kind && not c && n && s.inlining) (no-value-is xs v) ∙ sym e))
