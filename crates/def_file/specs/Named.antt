-- The kinds of nodes by name. Assumes nothing: these are definitions.
use Rattle.std.specs.Prelude.{◌≡◌, ◌⊎◌, ◌<◌, ◌&&◌, ℕ, List, [], ◌∷◌, eqb, leb, get_or}
use Rattle.std.specs.Prelude as prelude
use Rattle.def_file.specs.declared.kind.Kind.{Kind}
use Rattle.def_file.specs.declared.kind.Kind.TheVariants.{Script, Block, Empty, ExprStmt, VarDecl, VarDeclarator, FnDecl, Return, If, While, DoWhile, For, ForIn, ForOf, Throw, Try, CatchClause, Switch, SwitchCase, BindingIdent, Ident, Null, Bool, Number, Str, This, Array, Object, Prop, Unary, Update, Bin, Assign, Cond, Call, New, Member, Computed, FnExpr, Arrow, Paren, Seq, Break, Continue, ObjectPat, ArrayPat, PatProp, AssignPat, Invalid}

-- n is the number of a kind
abbrev pub Coded : Kind → ℕ → Type 0
Coded Script n = n ≡ 1
Coded Block n = n ≡ 2
Coded Empty n = n ≡ 3
Coded ExprStmt n = n ≡ 4
Coded VarDecl n = n ≡ 5
Coded VarDeclarator n = n ≡ 6
Coded FnDecl n = n ≡ 7
Coded Return n = n ≡ 8
Coded If n = n ≡ 9
Coded While n = n ≡ 10
Coded DoWhile n = n ≡ 11
Coded For n = n ≡ 12
Coded ForIn n = n ≡ 13
Coded ForOf n = n ≡ 14
Coded Throw n = n ≡ 15
Coded Try n = n ≡ 16
Coded CatchClause n = n ≡ 17
Coded Switch n = n ≡ 18
Coded SwitchCase n = n ≡ 19
Coded BindingIdent n = n ≡ 20
Coded Ident n = n ≡ 21
Coded Null n = n ≡ 22
Coded Bool n = n ≡ 23
Coded Number n = n ≡ 24
Coded Str n = n ≡ 25
Coded This n = n ≡ 26
Coded Array n = n ≡ 27
Coded Object n = n ≡ 28
Coded Prop n = n ≡ 29
Coded Unary n = n ≡ 30
Coded Update n = n ≡ 31
Coded Bin n = n ≡ 32
Coded Assign n = n ≡ 33
Coded Cond n = n ≡ 34
Coded Call n = n ≡ 35
Coded New n = n ≡ 36
Coded Member n = n ≡ 37
Coded Computed n = n ≡ 38
Coded FnExpr n = n ≡ 39
Coded Arrow n = n ≡ 40
Coded Paren n = n ≡ 41
Coded Seq n = n ≡ 42
Coded Break n = n ≡ 43
Coded Continue n = n ≡ 44
Coded ObjectPat n = n ≡ 45
Coded ArrayPat n = n ≡ 46
Coded PatProp n = n ≡ 47
Coded AssignPat n = n ≡ 48
Coded (Invalid m) n = (n ≡ m) × ((n ≡ 0) ⊎ (48 < n))

-- the kinds, each at its number
abbrev pub kinds : List Kind
kinds = Invalid 0 ∷ Script ∷ Block ∷ Empty ∷ ExprStmt ∷ VarDecl ∷ VarDeclarator ∷ FnDecl ∷ Return ∷ If ∷ While ∷ DoWhile ∷ For ∷ ForIn ∷ ForOf ∷ Throw ∷ Try ∷ CatchClause ∷ Switch ∷ SwitchCase ∷ BindingIdent ∷ Ident ∷ Null ∷ Bool ∷ Number ∷ Str ∷ This ∷ Array ∷ Object ∷ Prop ∷ Unary ∷ Update ∷ Bin ∷ Assign ∷ Cond ∷ Call ∷ New ∷ Member ∷ Computed ∷ FnExpr ∷ Arrow ∷ Paren ∷ Seq ∷ Break ∷ Continue ∷ ObjectPat ∷ ArrayPat ∷ PatProp ∷ AssignPat ∷ []

-- the kind of a number
abbrev pub kind_of : ℕ → Kind
kind_of n = get_or kinds n (Invalid n)

-- a kind is that of a number, and the number is the kind's
abbrev pub IsKindOf : ℕ → Kind → Type 0
IsKindOf n k = (k ≡ kind_of n) × (Coded k n)

-- the number of a kind
abbrev pub number_of : Kind → ℕ
number_of Script = 1
number_of Block = 2
number_of Empty = 3
number_of ExprStmt = 4
number_of VarDecl = 5
number_of VarDeclarator = 6
number_of FnDecl = 7
number_of Return = 8
number_of If = 9
number_of While = 10
number_of DoWhile = 11
number_of For = 12
number_of ForIn = 13
number_of ForOf = 14
number_of Throw = 15
number_of Try = 16
number_of CatchClause = 17
number_of Switch = 18
number_of SwitchCase = 19
number_of BindingIdent = 20
number_of Ident = 21
number_of Null = 22
number_of Bool = 23
number_of Number = 24
number_of Str = 25
number_of This = 26
number_of Array = 27
number_of Object = 28
number_of Prop = 29
number_of Unary = 30
number_of Update = 31
number_of Bin = 32
number_of Assign = 33
number_of Cond = 34
number_of Call = 35
number_of New = 36
number_of Member = 37
number_of Computed = 38
number_of FnExpr = 39
number_of Arrow = 40
number_of Paren = 41
number_of Seq = 42
number_of Break = 43
number_of Continue = 44
number_of ObjectPat = 45
number_of ArrayPat = 46
number_of PatProp = 47
number_of AssignPat = 48
number_of (Invalid n) = n

abbrev pub IsNumberOf : Kind → ℕ → Type 0
IsNumberOf k n = n ≡ number_of k

-- is n the number of k; of one of the kinds from j to k
abbrev pub is_kind : Kind → ℕ → prelude.Bool
is_kind k n = eqb n (number_of k)

abbrev pub is_between : Kind → Kind → ℕ → prelude.Bool
is_between j k n = leb (number_of j) n && leb n (number_of k)
