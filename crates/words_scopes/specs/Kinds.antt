-- The port's own kinds of bindings and of scopes, and what of the definition each case is. Assumes nothing: these are definitions.
use Rattle.std.specs.Prelude.{ℕ, zero, suc, ◌≡◌, ◌<◌, true, false, Option, Some, None}
use Rattle.std.proofs.Math.Option as math
use Rattle.def_pass.specs.Scope as def
use Rattle.words_scopes.specs.declared.kinds.VarDeclKind.{VarDeclKind}
use Rattle.words_scopes.specs.declared.kinds.VarDeclKind.TheVariants.{Var, Let, Const}
use Rattle.words_scopes.specs.declared.kinds.VarType.{VarType}
use Rattle.words_scopes.specs.declared.kinds.VarType.TheVariants.{Param, Declared}
use Rattle.words_scopes.specs.declared.kinds.ScopeKind.{ScopeKind}
use Rattle.words_scopes.specs.declared.kinds.ScopeKind.TheVariants.{Cond, Loop, Block, Fn}

abbrev pub decl_kind_of : VarDeclKind → def.VarType
decl_kind_of Var = def.v_var
decl_kind_of Let = def.v_let
decl_kind_of Const = def.v_const

abbrev pub type_of : VarType → def.VarType
type_of Param = def.param
type_of (Declared k) = decl_kind_of k

abbrev pub alias_of : Option VarType → math.Option def.VarType
alias_of None = math.none
alias_of (Some t) = math.some (type_of t)

abbrev pub kind_of : ScopeKind → def.ScopeKind
kind_of Cond = def.cond
kind_of Loop = def.loop
kind_of Block = def.block
kind_of (Fn named) = def.fn named

-- small numbers that stand for cases
abbrev pub var_type_of : ℕ → def.VarType
var_type_of zero = def.param
var_type_of (suc zero) = def.v_var
var_type_of (suc (suc zero)) = def.v_let
var_type_of (suc (suc (suc n))) = def.v_const

abbrev pub alias_at : ℕ → math.Option def.VarType
alias_at zero = math.none
alias_at (suc n) = math.some (var_type_of n)

abbrev pub scope_kind_of : ℕ → def.ScopeKind
scope_kind_of zero = def.cond
scope_kind_of (suc zero) = def.loop
scope_kind_of (suc (suc zero)) = def.block
scope_kind_of (suc (suc (suc zero))) = def.fn false
scope_kind_of (suc (suc (suc (suc n)))) = def.fn true

-- a number is the word of a type
abbrev pub IsTypeWord : VarType → ℕ → Type 0
IsTypeWord t n = (var_type_of n ≡ type_of t) × (n < 4)

-- a number is the word of a kind of scope
abbrev pub IsKindWord : ScopeKind → ℕ → Type 0
IsKindWord k n = (scope_kind_of n ≡ kind_of k) × (n < 5)
