-- ECMA-262's grammar of scripts, without Annex B, as far as the kinds 1 to 48 reach: a row for each production, in the order of the kinds. A node stands
-- for a production of more than one symbol; the productions of one nonterminal alone are `steps`. A tree is read in the order of its text: of 11 the
-- statement comes first, and a declaration in the head of 12, which has no `;` of its own, has its form and 3, one in the head of 13 or 14 its form and 6.
-- Assumes nothing: these are definitions.
use Rattle.std.specs.Prelude.{Bool, true, false, List, [], ◌∷◌, ◌++◌, ℕ, zero, suc, ◌+◌, eqb, codes}
use Rattle.def_file.specs.declared.kind.Kind.{Kind}
use Rattle.def_file.specs.declared.kind.Kind.TheVariants as Kinds
use Rattle.def_file.specs.Named.{number_of}
use Rattle.def_text.specs.Words.{Word}
use Rattle.def_text.specs.Grammar.{Symbol, Script, StatementListItem, Statement, Declaration, Block, FunctionBody, Catch, CaseClause, VariableBinding, ForBinding, ForInit, ForHead, PropertyDefinition, BindingIdentifier, BindingPattern, BindingTarget, BindingElement, BindingProperty, AssignmentTarget, AssignmentPattern, AssignmentElement, DestructuringAssignmentTarget, AssignmentProperty, Expression, AssignmentExpression, ConditionalExpression, ShortCircuitExpression, CoalesceExpressionHead, CoalesceExpression, LogicalORExpression, LogicalANDExpression, BitwiseORExpression, BitwiseXORExpression, BitwiseANDExpression, EqualityExpression, RelationalExpression, ShiftExpression, AdditiveExpression, MultiplicativeExpression, ExponentiationExpression, UnaryExpression, UpdateExpression, LeftHandSideExpression, NewExpression, CallExpression, MemberExpression, PrimaryExpression, In, Return, Else, Slot, plus, minus, same, name, variable, number, string, Part, word, own, kid, run, commas, more, look, if_has, if_not, one_default, Rule}

-- productions of one nonterminal alone, each with the same parameters
abbrev pub steps : Symbol → List Symbol
steps Script = []
steps StatementListItem = Statement ∷ Declaration ∷ []
steps Statement = Block ∷ []
steps Declaration = []
steps Block = []
steps FunctionBody = []
steps Catch = []
steps CaseClause = []
steps VariableBinding = []
steps ForBinding = []
steps ForInit = []
steps ForHead = []
steps PropertyDefinition = []
steps BindingIdentifier = []
steps BindingPattern = []
steps BindingTarget = BindingIdentifier ∷ BindingPattern ∷ []
steps BindingElement = BindingTarget ∷ []
steps BindingProperty = []
steps AssignmentTarget = []
steps AssignmentPattern = []
steps AssignmentElement = DestructuringAssignmentTarget ∷ []
steps DestructuringAssignmentTarget = AssignmentTarget ∷ AssignmentPattern ∷ []
steps AssignmentProperty = []
steps Expression = AssignmentExpression ∷ []
steps AssignmentExpression = ConditionalExpression ∷ []
steps ConditionalExpression = ShortCircuitExpression ∷ []
steps ShortCircuitExpression = LogicalORExpression ∷ CoalesceExpression ∷ []
steps CoalesceExpressionHead = CoalesceExpression ∷ BitwiseORExpression ∷ []
steps CoalesceExpression = []
steps LogicalORExpression = LogicalANDExpression ∷ []
steps LogicalANDExpression = BitwiseORExpression ∷ []
steps BitwiseORExpression = BitwiseXORExpression ∷ []
steps BitwiseXORExpression = BitwiseANDExpression ∷ []
steps BitwiseANDExpression = EqualityExpression ∷ []
steps EqualityExpression = RelationalExpression ∷ []
steps RelationalExpression = ShiftExpression ∷ []
steps ShiftExpression = AdditiveExpression ∷ []
steps AdditiveExpression = MultiplicativeExpression ∷ []
steps MultiplicativeExpression = ExponentiationExpression ∷ []
steps ExponentiationExpression = UnaryExpression ∷ []
steps UnaryExpression = UpdateExpression ∷ []
steps UpdateExpression = LeftHandSideExpression ∷ []
steps LeftHandSideExpression = NewExpression ∷ CallExpression ∷ []
steps NewExpression = MemberExpression ∷ []
steps CallExpression = []
steps MemberExpression = PrimaryExpression ∷ []
steps PrimaryExpression = []

-- a symbol's number, by which symbols are compared
abbrev pub code : Symbol → ℕ
code Script = 0
code StatementListItem = 1
code Statement = 2
code Declaration = 3
code Block = 4
code FunctionBody = 5
code Catch = 6
code CaseClause = 7
code VariableBinding = 8
code ForBinding = 9
code ForInit = 10
code ForHead = 11
code PropertyDefinition = 12
code BindingIdentifier = 13
code BindingPattern = 14
code BindingTarget = 15
code BindingElement = 16
code BindingProperty = 17
code AssignmentTarget = 18
code AssignmentPattern = 19
code AssignmentElement = 20
code AssignmentProperty = 21
code Expression = 22
code AssignmentExpression = 23
code ConditionalExpression = 24
code ShortCircuitExpression = 25
code CoalesceExpressionHead = 26
code CoalesceExpression = 27
code LogicalORExpression = 28
code LogicalANDExpression = 29
code BitwiseORExpression = 30
code BitwiseXORExpression = 31
code BitwiseANDExpression = 32
code EqualityExpression = 33
code RelationalExpression = 34
code ShiftExpression = 35
code AdditiveExpression = 36
code MultiplicativeExpression = 37
code ExponentiationExpression = 38
code UnaryExpression = 39
code UpdateExpression = 40
code LeftHandSideExpression = 41
code NewExpression = 42
code CallExpression = 43
code MemberExpression = 44
code PrimaryExpression = 45
code DestructuringAssignmentTarget = 46

-- y is x, or comes from it by steps; no chain of steps has more than the fuel
abbrev search_steps : ℕ → List Symbol → Symbol → Bool
search_steps zero xs y = false
search_steps (suc m) [] y = false
search_steps (suc m) (x ∷ xs) y = elim (eqb (code x) (code y)) [ true ↦ true | false ↦ search_steps m (steps x ++ xs) y ]

unfoldable pub reaches : Symbol → Symbol → Bool
reaches x y = search_steps 64 (x ∷ []) y

-- nonterminals with parameters: X[+In], X[~In], X[?In]; X, which has no [In]; a Statement that ends another; one before an `else`; X[+Return]
abbrev with_in : Symbol → Part
with_in x = kid (record { symbol = x; in_mode = plus; return_mode = same; else_mode = minus })

abbrev without_in : Symbol → Part
without_in x = kid (record { symbol = x; in_mode = minus; return_mode = same; else_mode = minus })

abbrev same_in : Symbol → Part
same_in x = kid (record { symbol = x; in_mode = same; return_mode = same; else_mode = minus })

abbrev plain : Symbol → Slot
plain x = record { symbol = x; in_mode = plus; return_mode = same; else_mode = minus }

abbrev only : Symbol → Part
only x = kid (plain x)

abbrev at_end : Part
at_end = kid (record { symbol = Statement; in_mode = plus; return_mode = same; else_mode = same })

abbrev before_else : Part
before_else = kid (record { symbol = Statement; in_mode = plus; return_mode = same; else_mode = plus })

abbrev items : Part
items = run (plain StatementListItem)

abbrev items_of_function : Part
items_of_function = run (record { symbol = StatementListItem; in_mode = plus; return_mode = plus; else_mode = minus })

abbrev arguments : Part
arguments = commas (plain AssignmentExpression)

abbrev parameters : Part
parameters = commas (plain BindingElement)

abbrev w : Word → Part
w = word

abbrev row : Kind → ℕ → Symbol → List Part → Rule
row k f x ps = record { kind = number_of k; form = f; left = x; right = ps }

-- rows that differ in an operator alone, from a form on
abbrev by_form : (ℕ → Word → Rule) → ℕ → List Word → List Rule
by_form r f [] = []
by_form r f (o ∷ os) = r f o ∷ by_form r (suc f) os

-- X : Y[?In] operator Z[?In]
abbrev binary : Symbol → Symbol → Symbol → ℕ → Word → Rule
binary x y z f o = row Kinds.Bin f x (same_in y ∷ w o ∷ same_in z ∷ [])

-- the same of nonterminals that have no [In]
abbrev binary_below : Symbol → Symbol → Symbol → ℕ → Word → Rule
binary_below x y z f o = row Kinds.Bin f x (only y ∷ w o ∷ only z ∷ [])

abbrev relational : ℕ → Word → Rule
relational f o = row Kinds.Bin f RelationalExpression (same_in RelationalExpression ∷ w o ∷ only ShiftExpression ∷ [])

-- ExpressionStatement : [lookahead ∉ { `{`, function, async function, class, let [ }]; what is left out begins no expression here
abbrev pub statement_start : List (List Word)
statement_start = (codes "{" ∷ []) ∷ (codes "function" ∷ []) ∷ (codes "let" ∷ codes "[" ∷ []) ∷ []

abbrev pub let_bracket : List (List Word)
let_bracket = (codes "let" ∷ codes "[" ∷ []) ∷ []

abbrev pub of_start : List (List Word)
of_start = (codes "let" ∷ []) ∷ (codes "async" ∷ codes "of" ∷ []) ∷ []

-- `for ( start ; test ; update ) Statement` by form: start, then test and update by the bits 2 and 4
abbrev for_rest : List Part → List Part → List Part
for_rest test update = w (codes ";") ∷ (test ++ (w (codes ";") ∷ (update ++ (w (codes ")") ∷ at_end ∷ []))))

abbrev for_rows : ℕ → List Part → List Part → List Rule
for_rows f test update =
    row Kinds.For f Statement (w (codes "for") ∷ w (codes "(") ∷ for_rest test update)
    ∷ row Kinds.For (f + 1) Statement (w (codes "for") ∷ w (codes "(") ∷ look let_bracket ∷ without_in Expression ∷ for_rest test update)
    ∷ row Kinds.For (f + 1) Statement (w (codes "for") ∷ w (codes "(") ∷ without_in ForInit ∷ for_rest test update)
    ∷ []

abbrev e : List Part
e = with_in Expression ∷ []

abbrev statement_rows : List Rule
statement_rows =
    -- 1 to 4
    row Kinds.Script 0 Script (items ∷ [])
    ∷ row Kinds.Block 0 Block (w (codes "{") ∷ items ∷ w (codes "}") ∷ [])
    ∷ row Kinds.Block 0 FunctionBody (w (codes "{") ∷ items_of_function ∷ w (codes "}") ∷ [])
    ∷ row Kinds.Empty 0 Statement (w (codes ";") ∷ [])
    ∷ row Kinds.ExprStmt 0 Statement (look statement_start ∷ with_in Expression ∷ w (codes ";") ∷ [])
    -- 5: a statement or declaration, the start of a `for`, the head of a for-in or for-of
    ∷ row Kinds.VarDecl 0 Statement (w (codes "var") ∷ with_in VariableBinding ∷ more (plain VariableBinding) ∷ w (codes ";") ∷ [])
    ∷ row Kinds.VarDecl 1 Declaration (w (codes "let") ∷ with_in VariableBinding ∷ more (plain VariableBinding) ∷ w (codes ";") ∷ [])
    ∷ row Kinds.VarDecl 2 Declaration (w (codes "const") ∷ with_in VariableBinding ∷ more (plain VariableBinding) ∷ w (codes ";") ∷ [])
    ∷ (by_form (λ f o. row Kinds.VarDecl f ForInit (w o ∷ same_in VariableBinding ∷ more (record { symbol = VariableBinding; in_mode = same; return_mode = same; else_mode = minus }) ∷ [])) 3 (codes "var" ∷ codes "let" ∷ codes "const" ∷ [])
    ++ by_form (λ f o. row Kinds.VarDecl f ForHead (w o ∷ only ForBinding ∷ [])) 6 (codes "var" ∷ codes "let" ∷ codes "const" ∷ []))
    ++ (
    -- 6: a pattern has an initialiser, but for the head of a for-in or for-of, where nothing has one
    row Kinds.VarDeclarator 0 VariableBinding (only BindingIdentifier ∷ [])
    ∷ row Kinds.VarDeclarator 0 VariableBinding (only BindingTarget ∷ w (codes "=") ∷ same_in AssignmentExpression ∷ [])
    ∷ row Kinds.VarDeclarator 0 ForBinding (only BindingTarget ∷ [])
    -- 7 to 11
    ∷ row Kinds.FnDecl 0 Declaration (w (codes "function") ∷ only BindingIdentifier ∷ w (codes "(") ∷ parameters ∷ w (codes ")") ∷ only FunctionBody ∷ [])
    ∷ row Kinds.Return 0 Statement (if_has Return ∷ w (codes "return") ∷ w (codes ";") ∷ [])
    ∷ row Kinds.Return 0 Statement (if_has Return ∷ w (codes "return") ∷ with_in Expression ∷ w (codes ";") ∷ [])
    ∷ row Kinds.If 0 Statement (w (codes "if") ∷ w (codes "(") ∷ with_in Expression ∷ w (codes ")") ∷ before_else ∷ w (codes "else") ∷ at_end ∷ [])
    ∷ row Kinds.If 0 Statement (w (codes "if") ∷ w (codes "(") ∷ with_in Expression ∷ w (codes ")") ∷ at_end ∷ if_not Else ∷ [])
    ∷ row Kinds.While 0 Statement (w (codes "while") ∷ w (codes "(") ∷ with_in Expression ∷ w (codes ")") ∷ at_end ∷ [])
    ∷ row Kinds.DoWhile 0 Statement (w (codes "do") ∷ only Statement ∷ w (codes "while") ∷ w (codes "(") ∷ with_in Expression ∷ w (codes ")") ∷ w (codes ";") ∷ [])
    ∷ (for_rows 0 [] [] ++ for_rows 2 e [] ++ for_rows 4 [] e ++ for_rows 6 e e))
    ++ (
    -- 13, 14: a for-of's right side is no comma expression
    row Kinds.ForIn 0 Statement (w (codes "for") ∷ w (codes "(") ∷ look let_bracket ∷ only AssignmentTarget ∷ w (codes "in") ∷ with_in Expression ∷ w (codes ")") ∷ at_end ∷ [])
    ∷ row Kinds.ForIn 0 Statement (w (codes "for") ∷ w (codes "(") ∷ only AssignmentPattern ∷ w (codes "in") ∷ with_in Expression ∷ w (codes ")") ∷ at_end ∷ [])
    ∷ row Kinds.ForIn 0 Statement (w (codes "for") ∷ w (codes "(") ∷ only ForHead ∷ w (codes "in") ∷ with_in Expression ∷ w (codes ")") ∷ at_end ∷ [])
    ∷ row Kinds.ForOf 0 Statement (w (codes "for") ∷ w (codes "(") ∷ look of_start ∷ only AssignmentTarget ∷ w (codes "of") ∷ with_in AssignmentExpression ∷ w (codes ")") ∷ at_end ∷ [])
    ∷ row Kinds.ForOf 0 Statement (w (codes "for") ∷ w (codes "(") ∷ only AssignmentPattern ∷ w (codes "of") ∷ with_in AssignmentExpression ∷ w (codes ")") ∷ at_end ∷ [])
    ∷ row Kinds.ForOf 0 Statement (w (codes "for") ∷ w (codes "(") ∷ only ForHead ∷ w (codes "of") ∷ with_in AssignmentExpression ∷ w (codes ")") ∷ at_end ∷ [])
    -- 15 to 19
    ∷ row Kinds.Throw 0 Statement (w (codes "throw") ∷ with_in Expression ∷ w (codes ";") ∷ [])
    ∷ row Kinds.Try 1 Statement (w (codes "try") ∷ only Block ∷ only Catch ∷ [])
    ∷ row Kinds.Try 2 Statement (w (codes "try") ∷ only Block ∷ w (codes "finally") ∷ only Block ∷ [])
    ∷ row Kinds.Try 3 Statement (w (codes "try") ∷ only Block ∷ only Catch ∷ w (codes "finally") ∷ only Block ∷ [])
    ∷ row Kinds.CatchClause 0 Catch (w (codes "catch") ∷ only Block ∷ [])
    ∷ row Kinds.CatchClause 0 Catch (w (codes "catch") ∷ w (codes "(") ∷ only BindingTarget ∷ w (codes ")") ∷ only Block ∷ [])
    ∷ row Kinds.Switch 0 Statement (w (codes "switch") ∷ w (codes "(") ∷ with_in Expression ∷ w (codes ")") ∷ w (codes "{") ∷ one_default ∷ run (plain CaseClause) ∷ w (codes "}") ∷ [])
    ∷ row Kinds.SwitchCase 0 CaseClause (w (codes "default") ∷ w (codes ":") ∷ items ∷ [])
    ∷ row Kinds.SwitchCase 1 CaseClause (w (codes "case") ∷ with_in Expression ∷ w (codes ":") ∷ items ∷ [])
    -- 43, 44
    ∷ row Kinds.Break 0 Statement (w (codes "break") ∷ w (codes ";") ∷ [])
    ∷ row Kinds.Continue 0 Statement (w (codes "continue") ∷ w (codes ";") ∷ [])
    ∷ [])

abbrev expression_rows : List Rule
expression_rows =
    -- 20 to 29
    row Kinds.BindingIdent 0 BindingIdentifier (own variable ∷ [])
    ∷ row Kinds.BindingIdent 0 AssignmentTarget (own variable ∷ [])
    ∷ row Kinds.Ident 0 PrimaryExpression (own variable ∷ [])
    ∷ row Kinds.Null 0 PrimaryExpression (w (codes "null") ∷ [])
    ∷ row Kinds.Bool 0 PrimaryExpression (w (codes "false") ∷ [])
    ∷ row Kinds.Bool 1 PrimaryExpression (w (codes "true") ∷ [])
    ∷ row Kinds.Number 0 PrimaryExpression (own number ∷ [])
    ∷ row Kinds.Str 0 PrimaryExpression (own string ∷ [])
    ∷ row Kinds.This 0 PrimaryExpression (w (codes "this") ∷ [])
    ∷ row Kinds.Array 0 PrimaryExpression (w (codes "[") ∷ arguments ∷ w (codes "]") ∷ [])
    ∷ row Kinds.Object 0 PrimaryExpression (w (codes "{") ∷ commas (plain PropertyDefinition) ∷ w (codes "}") ∷ [])
    ∷ row Kinds.Prop 0 PropertyDefinition (own name ∷ w (codes ":") ∷ with_in AssignmentExpression ∷ [])
    -- 30, 31
    ∷ (by_form (λ f o. row Kinds.Unary f UnaryExpression (w o ∷ only UnaryExpression ∷ [])) 0 (codes "void" ∷ codes "typeof" ∷ codes "!" ∷ codes "-" ∷ codes "+" ∷ codes "~" ∷ codes "delete" ∷ [])
    ++ by_form (λ f o. row Kinds.Update f UpdateExpression (w o ∷ only UnaryExpression ∷ [])) 0 (codes "++" ∷ codes "--" ∷ [])
    ++ by_form (λ f o. row Kinds.Update f UpdateExpression (only LeftHandSideExpression ∷ w o ∷ [])) 2 (codes "++" ∷ codes "--" ∷ [])
    -- 32
    ++ by_form (binary LogicalANDExpression LogicalANDExpression BitwiseORExpression) 0 (codes "&&" ∷ [])
    ++ by_form (binary LogicalORExpression LogicalORExpression LogicalANDExpression) 1 (codes "||" ∷ [])
    ++ by_form (binary EqualityExpression EqualityExpression RelationalExpression) 2 (codes "==" ∷ codes "!=" ∷ codes "===" ∷ codes "!==" ∷ [])
    ++ by_form relational 6 (codes "<" ∷ codes "<=" ∷ codes ">" ∷ codes ">=" ∷ [])
    ++ by_form (binary_below ShiftExpression ShiftExpression AdditiveExpression) 10 (codes "<<" ∷ codes ">>" ∷ codes ">>>" ∷ [])
    ++ by_form (binary_below AdditiveExpression AdditiveExpression MultiplicativeExpression) 13 (codes "+" ∷ codes "-" ∷ [])
    ++ by_form (binary_below MultiplicativeExpression MultiplicativeExpression ExponentiationExpression) 15 (codes "*" ∷ codes "/" ∷ codes "%" ∷ [])
    ++ by_form (binary BitwiseORExpression BitwiseORExpression BitwiseXORExpression) 18 (codes "|" ∷ [])
    ++ by_form (binary BitwiseXORExpression BitwiseXORExpression BitwiseANDExpression) 19 (codes "^" ∷ [])
    ++ by_form (binary BitwiseANDExpression BitwiseANDExpression EqualityExpression) 20 (codes "&" ∷ [])
    ++ (row Kinds.Bin 21 RelationalExpression (if_has In ∷ same_in RelationalExpression ∷ w (codes "in") ∷ only ShiftExpression ∷ []) ∷ [])
    ++ by_form relational 22 (codes "instanceof" ∷ [])
    ++ by_form (binary_below ExponentiationExpression UpdateExpression ExponentiationExpression) 23 (codes "**" ∷ [])
    ++ by_form (binary CoalesceExpression CoalesceExpressionHead BitwiseORExpression) 24 (codes "??" ∷ [])
    -- 33
    ++ (row Kinds.Assign 0 AssignmentExpression (only AssignmentPattern ∷ w (codes "=") ∷ same_in AssignmentExpression ∷ []) ∷ [])
    ++ by_form (λ f o. row Kinds.Assign f AssignmentExpression (only AssignmentTarget ∷ w o ∷ same_in AssignmentExpression ∷ [])) 0 (codes "=" ∷ codes "+=" ∷ codes "-=" ∷ codes "*=" ∷ codes "/=" ∷ codes "%=" ∷ codes "<<=" ∷ codes ">>=" ∷ codes ">>>=" ∷ codes "|=" ∷ codes "^=" ∷ codes "&=" ∷ codes "**=" ∷ codes "&&=" ∷ codes "||=" ∷ codes "??=" ∷ []))
    ++ (
    -- 34 to 38
    row Kinds.Cond 0 ConditionalExpression (same_in ShortCircuitExpression ∷ w (codes "?") ∷ with_in AssignmentExpression ∷ w (codes ":") ∷ same_in AssignmentExpression ∷ [])
    ∷ row Kinds.Call 0 CallExpression (only MemberExpression ∷ w (codes "(") ∷ arguments ∷ w (codes ")") ∷ [])
    ∷ row Kinds.Call 0 CallExpression (only CallExpression ∷ w (codes "(") ∷ arguments ∷ w (codes ")") ∷ [])
    ∷ row Kinds.New 0 NewExpression (w (codes "new") ∷ only NewExpression ∷ [])
    ∷ row Kinds.New 1 MemberExpression (w (codes "new") ∷ only MemberExpression ∷ w (codes "(") ∷ arguments ∷ w (codes ")") ∷ [])
    ∷ row Kinds.Member 0 MemberExpression (only MemberExpression ∷ w (codes ".") ∷ own name ∷ [])
    ∷ row Kinds.Member 0 CallExpression (only CallExpression ∷ w (codes ".") ∷ own name ∷ [])
    ∷ row Kinds.Member 0 AssignmentTarget (only MemberExpression ∷ w (codes ".") ∷ own name ∷ [])
    ∷ row Kinds.Member 0 AssignmentTarget (only CallExpression ∷ w (codes ".") ∷ own name ∷ [])
    ∷ row Kinds.Computed 0 MemberExpression (only MemberExpression ∷ w (codes "[") ∷ with_in Expression ∷ w (codes "]") ∷ [])
    ∷ row Kinds.Computed 0 CallExpression (only CallExpression ∷ w (codes "[") ∷ with_in Expression ∷ w (codes "]") ∷ [])
    ∷ row Kinds.Computed 0 AssignmentTarget (only MemberExpression ∷ w (codes "[") ∷ with_in Expression ∷ w (codes "]") ∷ [])
    ∷ row Kinds.Computed 0 AssignmentTarget (only CallExpression ∷ w (codes "[") ∷ with_in Expression ∷ w (codes "]") ∷ [])
    -- 39, 40
    ∷ row Kinds.FnExpr 0 PrimaryExpression (w (codes "function") ∷ w (codes "(") ∷ parameters ∷ w (codes ")") ∷ only FunctionBody ∷ [])
    ∷ row Kinds.FnExpr 1 PrimaryExpression (w (codes "function") ∷ only BindingIdentifier ∷ w (codes "(") ∷ parameters ∷ w (codes ")") ∷ only FunctionBody ∷ [])
    ∷ row Kinds.Arrow 0 AssignmentExpression (w (codes "(") ∷ parameters ∷ w (codes ")") ∷ w (codes "=>") ∷ only FunctionBody ∷ [])
    ∷ row Kinds.Arrow 1 AssignmentExpression (w (codes "(") ∷ parameters ∷ w (codes ")") ∷ w (codes "=>") ∷ look ((codes "{" ∷ []) ∷ []) ∷ same_in AssignmentExpression ∷ [])
    -- 41, 42
    ∷ row Kinds.Paren 0 PrimaryExpression (w (codes "(") ∷ with_in Expression ∷ w (codes ")") ∷ [])
    ∷ row Kinds.Paren 0 AssignmentTarget (w (codes "(") ∷ only AssignmentTarget ∷ w (codes ")") ∷ [])
    ∷ row Kinds.Seq 0 Expression (same_in AssignmentExpression ∷ w (codes ",") ∷ same_in AssignmentExpression ∷ more (record { symbol = AssignmentExpression; in_mode = same; return_mode = same; else_mode = minus }) ∷ [])
    -- 45 to 48
    ∷ row Kinds.ObjectPat 0 BindingPattern (w (codes "{") ∷ commas (plain BindingProperty) ∷ w (codes "}") ∷ [])
    ∷ row Kinds.ObjectPat 0 AssignmentPattern (w (codes "{") ∷ commas (plain AssignmentProperty) ∷ w (codes "}") ∷ [])
    ∷ row Kinds.ArrayPat 0 BindingPattern (w (codes "[") ∷ commas (plain BindingElement) ∷ w (codes "]") ∷ [])
    ∷ row Kinds.ArrayPat 0 AssignmentPattern (w (codes "[") ∷ commas (plain AssignmentElement) ∷ w (codes "]") ∷ [])
    ∷ row Kinds.PatProp 0 BindingProperty (own name ∷ w (codes ":") ∷ only BindingElement ∷ [])
    ∷ row Kinds.PatProp 0 AssignmentProperty (own name ∷ w (codes ":") ∷ only AssignmentElement ∷ [])
    ∷ row Kinds.AssignPat 0 BindingElement (only BindingTarget ∷ w (codes "=") ∷ with_in AssignmentExpression ∷ [])
    ∷ row Kinds.AssignPat 0 AssignmentElement (only DestructuringAssignmentTarget ∷ w (codes "=") ∷ with_in AssignmentExpression ∷ [])
    ∷ [])

unfoldable pub rules : List Rule
rules = statement_rows ++ expression_rows
