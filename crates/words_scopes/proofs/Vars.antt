-- What is a `var`, by its word. Assumes nothing.
use Rattle.std.proofs.Common.{◌≡◌, ℕ, zero, suc, refl}
use Rattle.def_pass.specs.Scope as def
use Rattle.words_scopes.specs.Kinds.{var_type_of}

pub var-word : (n : ℕ) → var_type_of n ≡ def.v_var → n ≡ 1
var-word zero h = absurd (let z : def.param ≡ def.v_var = h in cc)
var-word (suc zero) h = refl
var-word (suc (suc zero)) h = absurd (let z : def.v_let ≡ def.v_var = h in cc)
var-word (suc (suc (suc n))) h = absurd (let z : def.v_const ≡ def.v_var = h in cc)
