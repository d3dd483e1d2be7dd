-- What statements declare: the static semantics of ECMA-262 that each definition is named beside, Annex B left out. On core trees, where a name is a number,
-- and where `bound_names` is BoundNames of a binding or a pattern. Assumes nothing: these are definitions.
use Rattle.std.specs.Prelude.{Bool, true, false, ◌||◌, List, [], ◌++◌, ℕ, eqb}
use Rattle.def_tree.specs.Base.{pick}
use Rattle.def_file.specs.declared.kind.Kind.TheVariants as Kind
use Rattle.def_file.specs.Named.{is_kind, is_between}
use Rattle.def_pass.specs.Tree.{Tree, Forest, node, nil, cons, kind, kids, bound_names}

-- BoundNames of a function, which is its name, and of a declarator, which is its name or its pattern
abbrev pub bound_first : Forest → List ℕ
bound_first nil = []
bound_first (cons t ts) = bound_names t []

-- BoundNames of a declaration: of its declarators, in their order
abbrev pub declared : Forest → List ℕ
declared nil = []
declared (cons t ts) = bound_first (kids t) ++ declared ts

-- statements in which VarDeclaredNames looks further: blocks, `if`, the iteration statements, `try` and its clauses, `switch` and its cases. In what is no
-- statement among their children nothing is found
abbrev pub holds_statements : ℕ → Bool
holds_statements k = is_kind Kind.Block k || is_between Kind.If Kind.ForOf k || is_between Kind.Try Kind.SwitchCase k

-- VarDeclaredNames: of a `var` its BoundNames, of the statements above those of what stands in them; of a function and of all else none
abbrev mutual
  pub var_names : Tree → List ℕ
  var_names (node k f a ts) = elim (is_kind Kind.VarDecl k) [ true ↦ pick (eqb f 0) (declared ts) [] | false ↦ elim (holds_statements k) [ true ↦ var_names_f ts | false ↦ [] ] ]

  pub var_names_f : Forest → List ℕ
  var_names_f nil = []
  var_names_f (cons t ts) = var_names t ++ var_names_f ts

-- statements that open no scope for the statements in them: `if`, `while` and `do`; and the cases of a switch, which has one scope for all of them
abbrev pub passes_names : ℕ → Bool
passes_names k = is_between Kind.If Kind.DoWhile k || is_kind Kind.SwitchCase k

-- LexicallyDeclaredNames: of a `let` or `const` its BoundNames, and of a function. ECMA-262's grammar has no such declaration as a branch or as a loop's body;
-- the trees have: it is a lexical name of the innermost scope around, and never var-declared
abbrev mutual
  pub lexical_names : Tree → List ℕ
  lexical_names (node k f a ts) =
      elim (is_kind Kind.VarDecl k) [
        | true ↦ pick (eqb f 0) [] (declared ts)
        | false ↦ elim (is_kind Kind.FnDecl k) [ true ↦ bound_first ts | false ↦ elim (passes_names k) [ true ↦ lexical_names_f ts | false ↦ [] ] ]
      ]

  pub lexical_names_f : Forest → List ℕ
  lexical_names_f nil = []
  lexical_names_f (cons t ts) = lexical_names t ++ lexical_names_f ts

-- TopLevelLexicallyDeclaredNames and TopLevelVarDeclaredNames, of a script and of a function's body: a function that stands at the top is var-declared
abbrev pub is_function_statement : Tree → Bool
is_function_statement t = is_kind Kind.FnDecl (kind t)

abbrev pub top_lexical : Forest → List ℕ
top_lexical nil = []
top_lexical (cons t ts) = pick (is_function_statement t) [] (lexical_names t) ++ top_lexical ts

abbrev pub top_var : Forest → List ℕ
top_var nil = []
top_var (cons t ts) = pick (is_function_statement t) (bound_first (kids t)) (var_names t) ++ top_var ts
