-- The scopes that a node opens, which of them its children stand in, and the names that clash in them. A scope stands for the environments that ECMA-262's
-- evaluation makes for the node. Assumes nothing: these are definitions.
use Rattle.std.specs.Prelude.{Bool, true, false, ◌&&◌, ◌||◌, not, List, [], ◌∷◌, ◌++◌, ℕ}
use Rattle.def_tree.specs.Base.{pick, member}
use Rattle.def_file.specs.declared.kind.Kind.TheVariants as Kind
use Rattle.def_file.specs.Named.{is_kind, is_between}
use Rattle.def_pass.specs.Tree.{Tree, Forest, node, nil, cons, tail_f, in_pattern, bound_names_f}
use Rattle.def_pass.specs.Twice.{is_function, is_named}
use Rattle.def_resolve.specs.Names.{bound_first, var_names_f, lexical_names_f, top_lexical, top_var}

-- the names that a scope declares; is it that of a function with an `arguments` object of its own, which each function but an arrow has
pub record Scope : Type 0 where
  pub names : List ℕ
  pub function : Bool

abbrev pub scope : List ℕ → Scope
scope ns = record { names = ns; function = false }

-- does a binding or a pattern hold a default (48), so that evaluating it runs code: ContainsExpression, but that a computed key has no kind here
abbrev mutual
  pub has_default : Tree → Bool
  has_default (node k f a ts) = elim (is_kind Kind.AssignPat k) [ true ↦ true | false ↦ elim (in_pattern k) [ true ↦ has_default_f ts | false ↦ false ] ]

  pub has_default_f : Forest → Bool
  has_default_f nil = false
  has_default_f (cons t ts) = has_default t || has_default_f ts

-- all but the last
abbrev pub init_f : Forest → Forest
init_f nil = nil
init_f (cons t nil) = nil
init_f (cons t (cons u us)) = cons t (init_f (cons u us))

-- the parameters of a function, the binding of a catch
abbrev pub params : ℕ → ℕ → Forest → Forest
params k f ts = init_f (pick (is_named k f) (tail_f ts) ts)

abbrev pub bound_params : ℕ → ℕ → Forest → List ℕ
bound_params k f ts = bound_names_f (params k f ts) []

abbrev pub defaults : ℕ → ℕ → Forest → Bool
defaults k f ts = has_default_f (params k f ts)

-- the statements of the block that stands last, of a function or a catch; an arrow may end in an expression, which has none
abbrev pub statements : Forest → Forest
statements nil = nil
statements (cons (node k f a us) nil) = pick (is_kind Kind.Block k) us nil
statements (cons t (cons u us)) = statements (cons u us)

-- how a block stands. Apart: it has a scope of its own. Shared: a catch's block shares its catch's, and a function's body its function's, unless the catch
-- binding or a parameter holds a 48. Body: then a function's body has a scope of its own, in which functions at its top are var-declared, and a catch's block
-- is as any block
pub data Role : Type 0 where
  apart shared body : Role

-- the role of the last child of a node, and of the others
abbrev pub role : ℕ → ℕ → Forest → Role
role k f ts = pick (is_function k) (pick (defaults k f ts) body shared) (pick (is_kind Kind.CatchClause k && not (defaults k f ts)) shared apart)

abbrev pub role_before : Role → Forest → Role
role_before r nil = r
role_before r (cons u us) = apart

-- what the scope of a script or of a function's body declares: GlobalDeclarationInstantiation, FunctionDeclarationInstantiation. ECMA-262 keeps lexical and
-- var-declared names in two environments there; as no name is in both (refusal 13), one scope tells the same
abbrev pub tops : Forest → List ℕ
tops ts = top_lexical ts ++ top_var ts

-- the scopes that a node opens, the outer first; they are numbered from 1 in node order. A script (1), a block (2), each loop with a head (12 to 14), a catch
-- (17), a switch (18) and a function (7, 39, 40) open one, and a named function expression (39) another just before it, for its name alone
-- (InstantiateOrdinaryFunctionExpression)
abbrev pub opened_block : Role → Forest → List Scope
opened_block apart ts = scope (lexical_names_f ts) ∷ []
opened_block shared ts = []
opened_block body ts = scope (tops ts) ∷ []

-- a function's own scope has its parameters, and the names of its body where that has no scope of its own (FunctionDeclarationInstantiation)
abbrev pub opened_function : ℕ → ℕ → Forest → List Scope
opened_function k f ts =
    let own : Scope = record { names = bound_params k f ts ++ pick (defaults k f ts) [] (tops (statements ts)); function = not (is_kind Kind.Arrow k) } in
    pick (is_kind Kind.FnExpr k && is_named k f) (scope (bound_first ts) ∷ own ∷ []) (own ∷ [])

abbrev pub opened : Role → Tree → List Scope
opened r (node k f a ts) =
    elim (is_kind Kind.Block k) [
      | true ↦ opened_block r ts
      | false ↦
          elim (is_function k) [
            | true ↦ opened_function k f ts
            | false ↦
                elim (is_between Kind.For Kind.ForOf k || is_kind Kind.Switch k) [
                  | true ↦ scope (lexical_names_f ts) ∷ []
                  | false ↦
                      elim (is_kind Kind.CatchClause k) [
                        | true ↦ scope (bound_params k f ts ++ pick (defaults k f ts) [] (lexical_names_f (statements ts))) ∷ []
                        | false ↦ elim (is_kind Kind.Script k) [ true ↦ scope (tops ts) ∷ [] | false ↦ [] ]
                      ]
                ]
          ]
    ]

-- a function's name stands outside its own scope, and what a switch looks at outside the switch's, since it is evaluated first; all that a loop's head has
-- stands inside, also what `in` and `of` go over (ForIn/OfHeadEvaluation, whose environment has the head's names)
abbrev pub first_outside : ℕ → ℕ → Bool
first_outside k f = is_named k f || is_kind Kind.Switch k

-- refusal 13: a lexical name is declared twice in a scope, or is a var-declared name of what stands in it too or, in a function's body, a parameter. A catch
-- binding is a lexical name, counted with those of its block. These are ECMA-262's early errors of scripts, blocks, `for` statements, `switch`, `try` and
-- functions; a body, and a catch's block that shares, are counted with their function or catch
abbrev pub twice : List ℕ → Bool
twice [] = false
twice (x ∷ xs) = member x xs || twice xs

abbrev pub meets : List ℕ → List ℕ → Bool
meets [] ys = false
meets (x ∷ xs) ys = member x ys || meets xs ys

-- the lexical names of a node's scope, and the names that none of them may be
pub record Counted : Type 0 where
  pub lexical : List ℕ
  pub others : List ℕ

abbrev pub counted : List ℕ → List ℕ → Counted
counted ns ms = record { lexical = ns; others = ms }

abbrev pub counts_block : Role → Forest → Counted
counts_block apart ts = counted (lexical_names_f ts) (var_names_f ts)
counts_block shared ts = counted [] []
counts_block body ts = counted [] []

abbrev pub counts : Role → Tree → Counted
counts r (node k f a ts) =
    elim (is_kind Kind.Block k) [
      | true ↦ counts_block r ts
      | false ↦
          elim (is_function k) [
            | true ↦ counted (top_lexical (statements ts)) (top_var (statements ts) ++ bound_params k f ts)
            | false ↦
                elim (is_between Kind.For Kind.ForOf k || is_kind Kind.Switch k) [
                  | true ↦ counted (lexical_names_f ts) (var_names_f ts)
                  | false ↦
                      elim (is_kind Kind.CatchClause k) [
                        | true ↦ counted (bound_params k f ts ++ lexical_names_f (statements ts)) (var_names_f (statements ts))
                        | false ↦ elim (is_kind Kind.Script k) [ true ↦ counted (top_lexical ts) (top_var ts) | false ↦ counted [] [] ]
                      ]
                ]
          ]
    ]

abbrev pub clash : Counted → Bool
clash x = twice x.lexical || meets x.lexical x.others

-- at some node
abbrev mutual
  pub clashes : Role → Tree → Bool
  clashes r (node k f a ts) = clash (counts r (node k f a ts)) || clashes_f (role k f ts) ts

  pub clashes_f : Role → Forest → Bool
  clashes_f r nil = false
  clashes_f r (cons t ts) = clashes (role_before r ts) t || clashes_f r ts
