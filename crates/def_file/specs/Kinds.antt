-- The kinds 1 to 44 of document 01, "The tree file", and 45 to 48 of request 4: of each its forms, how many children it has, and what may
-- stand at each child's place.
-- Assumes nothing: these are definitions.
use Rattle.std.specs.Prelude.{Bool, ◌&&◌, ◌||◌, not, List, [], ◌∷◌, ℕ, ◌+◌, ◌/◌, ◌%◌, eqb, leb, get_or}
use Rattle.def_tree.specs.Base.{pick}
use Rattle.def_file.specs.Named.{is_kind, is_between}
use Rattle.def_file.specs.declared.kind.Kind.TheVariants as Kind
use Rattle.def_file.specs.declared.kinds.Class.{Class}
use Rattle.def_file.specs.declared.kinds.Row.{Row}
pub use Rattle.def_file.specs.declared.kinds.Class.TheVariants.{Root, Statement, Expression, Binding, Name, Target, Block, Declarator, Catch, Case, Property, PatternProperty, Updated, Assigned, Destructured, Start, Head}

-- s and e of document 01
abbrev pub is_stmt : ℕ → Bool
is_stmt k = is_between Kind.Block Kind.VarDecl k || is_between Kind.FnDecl Kind.Try k || is_kind Kind.Switch k || is_kind Kind.Break k || is_kind Kind.Continue k

abbrev pub is_expr : ℕ → Bool
is_expr k = is_between Kind.Ident Kind.Seq k && not (is_kind Kind.Prop k)

-- request 4: where a binding may, a pattern may stand as declarator name, catch binding, for head without declaration, left of `=`, and left in
-- a default
abbrev pub is_binding_name : ℕ → Bool
is_binding_name k = is_kind Kind.BindingIdent k || is_kind Kind.ObjectPat k || is_kind Kind.ArrayPat k

-- "A target is 20, 45, 46 or 48": a parameter, or what stands inside a pattern
abbrev pub is_target : ℕ → Bool
is_target k = is_binding_name k || is_kind Kind.AssignPat k

-- may a node of kind k with n children stand at a place
abbrev pub allows : Class → ℕ → ℕ → Bool
allows Root k n = is_kind Kind.Script k
allows Statement k n = is_stmt k
allows Expression k n = is_expr k
allows Binding k n = is_kind Kind.BindingIdent k
allows Name k n = is_binding_name k
allows Target k n = is_target k
allows Block k n = is_kind Kind.Block k
allows Declarator k n = is_kind Kind.VarDeclarator k
allows Catch k n = is_kind Kind.CatchClause k
allows Case k n = is_kind Kind.SwitchCase k
allows Property k n = is_kind Kind.Prop k
allows PatternProperty k n = is_kind Kind.PatProp k
allows Updated k n = is_kind Kind.Ident k || is_kind Kind.Member k || is_kind Kind.Computed k
allows Assigned k n = is_kind Kind.BindingIdent k || is_kind Kind.Member k || is_kind Kind.Computed k
allows Destructured k n = is_binding_name k || is_kind Kind.Member k || is_kind Kind.Computed k
allows Start k n = is_kind Kind.VarDecl k || is_expr k
allows Head k n = is_binding_name k || (is_kind Kind.VarDecl k && eqb n 1)

-- any count: the field for it has two bytes
abbrev pub any : ℕ
any = 65535

-- forms 0 to `to`; n to m children: all of one class; the first of another; the last of another; both
abbrev pub every : ℕ → ℕ → ℕ → Class → Row
every to n m c = record { from = 0; to = to; least = n; most = m; only = c; first = c; rest = c; last = c }

abbrev pub led : ℕ → ℕ → ℕ → Class → Class → Row
led to n m a c = record { from = 0; to = to; least = n; most = m; only = a; first = a; rest = c; last = c }

abbrev pub ended : ℕ → ℕ → ℕ → Class → Class → Row
ended to n m c z = record { from = 0; to = to; least = n; most = m; only = z; first = c; rest = c; last = z }

abbrev pub framed : ℕ → ℕ → ℕ → Class → Class → Class → Row
framed to n m a c z = record { from = 0; to = to; least = n; most = m; only = z; first = a; rest = c; last = z }

-- no such kind: no form will do
abbrev pub no_row : Row
no_row = record { from = 1; to = 0; least = 0; most = 0; only = Expression; first = Expression; rest = Expression; last = Expression }

-- 12 for (form bits 1, 2, 4: start (5 or e), test, update present) then s
abbrev pub for_row : ℕ → Row
for_row f =
    let n = 1 + f % 2 + f / 2 % 2 + f / 4 % 2 in
    record { from = 0; to = 7; least = n; most = n; only = Statement; first = pick (eqb (f % 2) 1) Start Expression; rest = Expression; last = Statement }

-- 13 for-in and 14 for-of: (5 of one declarator, or 20, 45 or 46) e s
abbrev pub head_row : Row
head_row = record { from = 0; to = 0; least = 3; most = 3; only = Head; first = Head; rest = Expression; last = Statement }

-- 16 try 2 (form bits 1: then 17, 2: then 2; not 0)
abbrev pub try_row : ℕ → Row
try_row f =
    let n = 1 + f % 2 + f / 2 % 2 in
    record { from = 1; to = 3; least = n; most = n; only = Block; first = Block; rest = Catch; last = pick (eqb f 1) Catch Block }

-- 19 case (form 1: e) s*
abbrev pub case_row : ℕ → Row
case_row f = led 1 f any (pick (eqb f 1) Expression Statement) Statement

-- 33 assign 20, 37 or 38, e; left of `=`, which is form 0, also 45 or 46
abbrev pub assign_row : ℕ → Row
assign_row f = led 15 2 2 (pick (eqb f 0) Destructured Assigned) Expression

-- 36 new e e* (form 1: has a list)
abbrev pub new_row : ℕ → Row
new_row f = every 1 1 (pick (eqb f 1) any 1) Expression

-- 39 function expression (form 1: b), targets, 2; 40 arrow: targets, then 2 (form 0) or e (form 1)
abbrev pub function_row : ℕ → Row
function_row f = framed 1 (1 + f) any (pick (eqb f 1) Binding Target) Target Block

abbrev pub arrow_row : ℕ → Row
arrow_row f = ended 1 1 any Target (pick (eqb f 1) Expression Block)

-- by kind, from 0 on, and form
abbrev pub rows : List (ℕ → Row)
rows =
    (λ f. no_row)
    -- 1 script s*; 2 block s*; 3 empty; 4 e
    ∷ (λ f. every 0 0 any Statement)
    ∷ (λ f. every 0 0 any Statement)
    ∷ (λ f. every 0 0 0 Expression)
    ∷ (λ f. every 0 1 1 Expression)
    -- 5 declaration 6 (one or more; form 0 var, 1 let, 2 const); 6 declarator: 20, 45 or 46, then [e]; 7 function b, targets, 2
    ∷ (λ f. every 2 1 any Declarator)
    ∷ (λ f. led 0 1 2 Name Expression)
    ∷ (λ f. framed 0 2 any Binding Target Block)
    -- 8 return [e]; 9 if e s [s]; 10 while e s; 11 do e s
    ∷ (λ f. every 0 0 1 Expression)
    ∷ (λ f. led 0 2 3 Expression Statement)
    ∷ (λ f. led 0 2 2 Expression Statement)
    ∷ (λ f. led 0 2 2 Expression Statement)
    -- 12 for; 13 for-in; 14 for-of; 15 throw e; 16 try
    ∷ for_row
    ∷ (λ f. head_row)
    ∷ (λ f. head_row)
    ∷ (λ f. every 0 1 1 Expression)
    ∷ try_row
    -- 17 catch [20, 45 or 46] 2; 18 switch e 19*; 19 case
    ∷ (λ f. ended 0 1 2 Name Block)
    ∷ (λ f. led 0 1 any Expression Case)
    ∷ case_row
    -- 20 binding; 21 identifier; 22 null; 23 boolean (form 0, 1); 24 number; 25 string; 26 this
    ∷ (λ f. every 0 0 0 Expression)
    ∷ (λ f. every 0 0 0 Expression)
    ∷ (λ f. every 0 0 0 Expression)
    ∷ (λ f. every 1 0 0 Expression)
    ∷ (λ f. every 0 0 0 Expression)
    ∷ (λ f. every 0 0 0 Expression)
    ∷ (λ f. every 0 0 0 Expression)
    -- 27 array e*; 28 object 29*; 29 property, e
    ∷ (λ f. every 0 0 any Expression)
    ∷ (λ f. every 0 0 any Property)
    ∷ (λ f. every 0 1 1 Expression)
    -- 30 unary e; 31 update of 21, 37 or 38; 32 binary e e; 33 assign; 34 conditional e e e
    ∷ (λ f. every 6 1 1 Expression)
    ∷ (λ f. every 3 1 1 Updated)
    ∷ (λ f. every 24 2 2 Expression)
    ∷ assign_row
    ∷ (λ f. every 0 3 3 Expression)
    -- 35 call e e*; 36 new; 37 member e; 38 member e e; 39 function expression; 40 arrow
    ∷ (λ f. every 0 1 any Expression)
    ∷ new_row
    ∷ (λ f. every 0 1 1 Expression)
    ∷ (λ f. every 0 2 2 Expression)
    ∷ function_row
    ∷ arrow_row
    -- 41 parenthesis e; 42 sequence e e*; 43 break; 44 continue
    ∷ (λ f. every 0 1 1 Expression)
    ∷ (λ f. every 0 1 any Expression)
    ∷ (λ f. every 0 0 0 Expression)
    ∷ (λ f. every 0 0 0 Expression)
    -- 45 object pattern (47*); 46 array pattern (targets, any count); 47 pattern property (text, target); 48 default (20, 45 or 46, then e)
    ∷ (λ f. every 0 0 any PatternProperty)
    ∷ (λ f. every 0 0 any Target)
    ∷ (λ f. every 0 1 1 Target)
    ∷ (λ f. led 0 2 2 Name Expression)
    ∷ []

-- what kind k asks of a node of form f
unfoldable pub row_of : ℕ → ℕ → Row
row_of k f = get_or rows k (λ f. no_row) f

-- a form, and a number of children, against a row
abbrev pub form_ok : Row → ℕ → Bool
form_ok r f = leb r.from f && leb f r.to

abbrev pub count_ok : Row → ℕ → Bool
count_ok r n = leb r.least n && leb n r.most

-- what child i of n may be
abbrev pub child_of : Row → ℕ → ℕ → Class
child_of r n i = pick (eqb n 1) r.only (pick (eqb i 0) r.first (pick (eqb (i + 1) n) r.last r.rest))

-- the kinds whose text number, and whose 8 bytes, are used; of all others they are 0
abbrev pub uses_text : ℕ → Bool
uses_text k = is_kind Kind.BindingIdent k || is_kind Kind.Ident k || is_kind Kind.Str k || is_kind Kind.Prop k || is_kind Kind.Member k || is_kind Kind.PatProp k

abbrev pub uses_bits : ℕ → Bool
uses_bits k = is_kind Kind.BindingIdent k || is_kind Kind.Ident k || is_kind Kind.Number k
