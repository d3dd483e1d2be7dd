-- Request 3: the identifiers that a function or the script itself declares more than once by `var` (its parameters counted, nested functions
-- not), where one initialiser is no literal. Each binding of such an identifier that stands there is flagged in the script as read, by 2 on its
-- form, and is so wherever the walks move or copy it. Of a pattern (request 4) each bound name is declared; its initialiser is no literal, a
-- default no initialiser.
use Rattle.std.specs.Prelude.{Bool, true, false, ◌&&◌, ◌||◌, not, List, [], ◌∷◌, ◌++◌, ℕ, ◌+◌, ◌-◌, eqb, ltb, length}
use Rattle.std.proofs.Math.Option.{Option, none, some}
use Rattle.def_tree.specs.Base.{pick}
use Rattle.def_file.specs.declared.kind.Kind.TheVariants.{VarDecl, FnDecl, BindingIdent, FnExpr, Arrow}
use Rattle.def_file.specs.Named.{is_kind}
use Rattle.def_pass.specs.Tree.{Tree, Forest, node, nil, cons, kids, head_t, is_lit, is_pattern, bound_names}

-- the form of a binding: is it flagged; is its name `arguments`; and the form without the flag
abbrev pub is_twice : ℕ → Bool
is_twice f = ltb 1 f

abbrev pub unflagged : ℕ → ℕ
unflagged f = pick (is_twice f) (f - 2) f

abbrev pub is_args : ℕ → Bool
is_args f = eqb (unflagged f) 1

-- functions; of these, those whose first child is their name
abbrev pub is_function : ℕ → Bool
is_function k = is_kind FnDecl k || is_kind FnExpr k || is_kind Arrow k

abbrev pub is_named : ℕ → ℕ → Bool
is_named k f = is_kind FnDecl k || (is_kind FnExpr k && eqb f 1)

-- b for each of the names that is i
abbrev pub among : ℕ → Bool → List ℕ → List Bool
among i b [] = []
among i b (j ∷ js) = elim (eqb j i) [ true ↦ b ∷ among i b js | false ↦ among i b js ]

-- of a declarator's name and initialiser: is it no literal
abbrev pub no_literal : Tree → Option Tree → Bool
no_literal name none = false
no_literal name (some e) = is_pattern name || not (is_lit e)

-- the declarations of i, of each whether it has an initialiser that is no literal: by the declarators of one `var`; by every `var` of some
-- nodes, nested functions not; as a parameter
abbrev pub declarator : ℕ → Forest → List Bool
declarator i nil = []
declarator i (cons name es) = among i (no_literal name (head_t es)) (bound_names name [])

abbrev pub declarators : ℕ → Forest → List Bool
declarators i nil = []
declarators i (cons t ts) = declarator i (kids t) ++ declarators i ts

abbrev mutual
  pub vars : ℕ → Tree → List Bool
  vars i (node k f a ts) = elim (is_function k) [ true ↦ [] | false ↦ pick (is_kind VarDecl k && eqb f 0) (declarators i ts) [] ++ vars_f i ts ]

  pub vars_f : ℕ → Forest → List Bool
  vars_f i nil = []
  vars_f i (cons t ts) = vars i t ++ vars_f i ts

abbrev pub params : ℕ → Forest → List Bool
params i nil = []
params i (cons t ts) = among i false (bound_names t []) ++ params i ts

abbrev pub any_of : List Bool → Bool
any_of [] = false
any_of (b ∷ bs) = b || any_of bs

-- more than once, and one initialiser is no literal: of the statements of the script, or of the parameters and the body of a function
abbrev pub twice : Forest → ℕ → Bool
twice ts i = let ds = params i ts ++ vars_f i ts in ltb 1 (length ds) && any_of ds

-- the bindings flagged, by the test of the function or script in which they stand; a function's name stands outside it
abbrev mutual
  pub flag : (ℕ → Bool) → Tree → Tree
  flag b (node k f a ts) = node k (pick (is_kind BindingIdent k && b a) (f + 2) f) a (elim (is_function k) [ true ↦ elim (is_named k f) [ true ↦ flag_named b ts | false ↦ flags (twice ts) ts ] | false ↦ flags b ts ])

  pub flags : (ℕ → Bool) → Forest → Forest
  flags b nil = nil
  flags b (cons t ts) = cons (flag b t) (flags b ts)

  pub flag_named : (ℕ → Bool) → Forest → Forest
  flag_named b nil = nil
  flag_named b (cons t ts) = cons (flag b t) (flags (twice ts) ts)

-- the whole script
abbrev pub flagged : Tree → Tree
flagged t = flag (twice (kids t)) t
