-- `declare` of the definition, with what it looks up given. Assumes nothing: these are definitions.
use Rattle.std.specs.Prelude.{[], ◌∷◌, ◌++◌, Bool, ℕ}
use Rattle.std.proofs.Math.Option.{Option, none}
use Rattle.def_tree.specs.Base.{pick}
use Rattle.def_tree.specs.Tree.{Tree}
use Rattle.def_pass.specs.Scope.{Stack, VarType, find_in, is_some, change_in, redeclare, fresh, value_o, on_bindings, prevent_inline, prevent_inline_o}

-- its first half: v gives the value from the one before
abbrev pub put_declared : ℕ → (Option Tree → Option Tree) → Bool → Bool → VarType → Option VarType → Stack → Stack
put_declared i v p u k al [] = []
put_declared i v p u k al (s ∷ st) =
    let old = find_in i s.bindings in
    let new = pick (is_some old) (change_in i (redeclare p u (v (value_o old))) s.bindings) (s.bindings ++ (fresh i k al p u (v none) ∷ [])) in
    on_bindings (λ bs. new) s ∷ st

-- all of it: where there is a barrier between i and the binding that the init names, `barred` is that binding
abbrev pub declare_with : ℕ → (Option Tree → Option Tree) → Option ℕ → Bool → Bool → VarType → Option VarType → Bool → Stack → Stack
declare_with i v barred p u k al looped st =
    let st₁ = put_declared i v p u k al st in
    let st₂ = pick looped (prevent_inline i st₁) st₁ in
    pick (is_some barred) (prevent_inline_o barred (prevent_inline i st₂)) st₂
