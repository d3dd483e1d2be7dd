-- Request 4: patterns in each place and each mode, worked out by hand from visit_mut_pat and its callers (mod.rs) and the request's sentences,
-- on core trees. Each row has the script, the runs, the result and the root bindings with their marks.
use Rattle.std.specs.Prelude.{◌≡◌, refl, Bool, true, false, ◌&&◌, List, [], ◌∷◌, map, ℕ, suc, eqb}
use Rattle.def_file.specs.declared.kind.Kind.TheVariants.{Empty, VarDecl, VarDeclarator, For, ForOf, Try, CatchClause, This, Assign, Computed, FnExpr, Arrow, ObjectPat, ArrayPat, PatProp, AssignPat}
use Rattle.def_file.specs.Named.{number_of}
use Rattle.def_pass.specs.Tree.{Tree, Forest, node, nil, cons}
use Rattle.def_pass.specs.Twice.{flagged}
use Rattle.def_pass.specs.Walk.{core_pass, Outcome, refused, result, Rooted}
use Rattle.def_file.specs.Write.{file}
use Rattle.def_pass.specs.Script.{pass_file}
use Rattle.def_pass.specs.Table.{Case, case, n, nodes, refusal, seen}
use Rattle.def_pass.specs.Cases.{yes!, meets, same_mark, f1, f2, f3, f4, name, bind, lit, do', decl, decl_to, script, call, block, arguments, array, assign, fun}

-- builders: patterns, and what holds one
abbrev pub array_pat : Forest → Tree
array_pat ts = node (number_of ArrayPat) 0 0 ts

abbrev pub object_pat : Tree → Tree
object_pat t = node (number_of ObjectPat) 0 0 (f1 (node (number_of PatProp) 0 0 (f1 t)))

abbrev pub or_default : Tree → Tree → Tree
or_default t e = node (number_of AssignPat) 0 0 (f2 t e)

abbrev pub pat_to : ℕ → Tree → Tree → Tree
pat_to f l e = node (number_of VarDecl) f 0 (f1 (node (number_of VarDeclarator) 0 0 (f2 l e)))

abbrev pub pat : ℕ → Tree → Tree
pat f l = node (number_of VarDecl) f 0 (f1 (node (number_of VarDeclarator) 0 0 (f1 l)))

abbrev pub to : Tree → Tree → Tree
to l e = do' (node (number_of Assign) 0 0 (f2 l e))

abbrev pub caught : Tree → Tree
caught l = node (number_of Try) 1 0 (f2 (block nil) (node (number_of CatchClause) 0 0 (f2 l (block nil))))

abbrev pub empty : Tree
empty = node (number_of Empty) 0 0 nil

abbrev pub for_of : Tree → Tree → Tree
for_of l e = node (number_of ForOf) 0 0 (f3 l e empty)

abbrev pub at : ℕ → Tree → Tree
at k e = node (number_of Computed) 0 0 (f2 (name k) e)

abbrev pub fun_expr : Forest → Tree
fun_expr ts = node (number_of FnExpr) 0 0 ts

-- with a block (form 0), or with an expression (form 1)
abbrev pub arrow : ℕ → Forest → Tree
arrow f ts = node (number_of Arrow) f 0 ts

abbrev pub this : Tree
this = node (number_of This) 0 0 nil

-- a script that is one function, of these parameters and this body
abbrev pub taking : Forest → Tree
taking ts = script (f1 (fun (cons (bind 0) ts)))

pub record Row : Type 0 where
  pub input : Tree
  pub runs : ℕ
  pub output : Tree
  pub roots : List (ℕ × Bool)

abbrev pub stays : Tree → List (ℕ × Bool) → Row
stays t rs = record { input = t; runs = 1; output = flagged t; roots = rs }

abbrev pub becomes : Tree → Tree → List (ℕ × Bool) → Row
becomes t u rs = record { input = t; runs = 2; output = u; roots = rs }

abbrev pub same_roots : List Rooted → List (ℕ × Bool) → Bool
same_roots [] [] = true
same_roots [] (s ∷ ss) = false
same_roots (r ∷ rs) [] = false
same_roots (r ∷ rs) (s ∷ ss) = eqb r.0 s.0 && same_mark r.1 s.1 && same_roots rs ss

abbrev pub rooted : Outcome → List (ℕ × Bool) → Bool
rooted (refused n) rs = false
rooted (result k c t ms) rs = same_roots ms rs

unfoldable pub right : Row → Bool
unfolding core_pass
right r = let o = core_pass 16 r.input in meets o (yes! r.runs false r.output) && rooted o r.roots

-- the places of the rows that come out otherwise
unfoldable pub wrong : ℕ → List Row → List ℕ
unfolding right
wrong n [] = []
wrong n (r ∷ rs) = elim (right r) [ true ↦ wrong (suc n) rs | false ↦ n ∷ wrong (suc n) rs ]

-- parameters: each name is declared as one, before its default is walked
abbrev pub parameters : List Row
parameters =
    -- function f([a]) { var c = a; arguments; c; }: a is a parameter, which `arguments` prevents
    stays (taking (f2 (array_pat (f1 (bind 1))) (block (f3 (decl_to 0 2 (name 1)) (do' (arguments 9)) (do' (name 2)))))) ((0, false) ∷ [])
    -- function f({p: [a]}) { var c = a; g(); c; }
    ∷ becomes (taking (f2 (object_pat (array_pat (f1 (bind 1)))) (block (f3 (decl_to 0 2 (name 1)) (do' (call (name 8))) (do' (name 2)))))) (taking (f2 (object_pat (array_pat (f1 (bind 1)))) (block (f3 (decl 0 2) (do' (call (name 8))) (do' (name 1)))))) ((0, false) ∷ [])
    -- function f(a = 1, b) { var c = b; arguments; c; }
    ∷ stays (taking (f3 (or_default (bind 1) (lit 5)) (bind 3) (block (f3 (decl_to 0 2 (name 3)) (do' (arguments 9)) (do' (name 2)))))) ((0, false) ∷ [])
    -- function f(a = x = 1, b) { var c = b; arguments; c; }: the assignment leaves its mode, in which b is written and no parameter
    ∷ becomes (taking (f3 (or_default (bind 1) (assign 7 (lit 5))) (bind 3) (block (f3 (decl_to 0 2 (name 3)) (do' (arguments 9)) (do' (name 2)))))) (taking (f3 (or_default (bind 1) (assign 7 (lit 5))) (bind 3) (block (f3 (decl 0 2) (do' (arguments 9)) (do' (name 3)))))) ((0, false) ∷ [])
    -- function f(a = function () { x = 1; }, b) { var c = b; arguments; c; }: a function's scope keeps the mode to itself
    ∷ stays (taking (f3 (or_default (bind 1) (fun_expr (f1 (block (f1 (do' (assign 7 (lit 5)))))))) (bind 3) (block (f3 (decl_to 0 2 (name 3)) (do' (arguments 9)) (do' (name 2)))))) ((0, false) ∷ [])
    -- let x = 1; function f([a = x]) { }: a default is walked; x is read from within a function and is no var
    ∷ becomes (script (f2 (decl_to 1 7 (lit 5)) (fun (f3 (bind 0) (array_pat (f1 (or_default (bind 1) (name 7)))) (block nil))))) (script (f2 (decl 1 7) (fun (f3 (bind 0) (array_pat (f1 (or_default (bind 1) (lit 5)))) (block nil))))) ((7, false) ∷ (0, false) ∷ [])
    -- var v = ([g]) => { }; g = 1;: an arrow's parameters are walked in the mode that was left
    ∷ stays (script (f2 (decl_to 0 2 (arrow 0 (f2 (array_pat (f1 (bind 1))) (block nil)))) (do' (assign 1 (lit 5))))) ((2, false) ∷ (1, true) ∷ [])
    ∷ []

-- declarators: the initialiser is walked first, once; nothing is declared and nothing taken out
abbrev pub declared : List Row
declared =
    -- var [a] = 1; a;   let {p: a} = 1; a;   const [a] = 1; a;
    stays (script (f2 (pat_to 0 (array_pat (f1 (bind 1))) (lit 5)) (do' (name 1)))) []
    ∷ stays (script (f2 (pat_to 1 (object_pat (bind 1)) (lit 5)) (do' (name 1)))) []
    ∷ stays (script (f2 (pat_to 2 (array_pat (f1 (bind 1))) (lit 5)) (do' (name 1)))) []
    -- var x = 1; var [a = x] = [x];
    ∷ becomes (script (f2 (decl_to 0 7 (lit 5)) (pat_to 0 (array_pat (f1 (or_default (bind 1) (name 7)))) (array (name 7))))) (script (f2 (decl 0 7) (pat_to 0 (array_pat (f1 (or_default (bind 1) (lit 5)))) (array (lit 5))))) ((7, false) ∷ [])
    -- var [a = x = 1, b] = o;: b is written
    ∷ stays (script (f1 (pat_to 0 (array_pat (f2 (or_default (bind 1) (assign 7 (lit 5))) (bind 3))) (name 8)))) ((7, false) ∷ (3, false) ∷ [])
    ∷ []

-- catch bindings and heads
abbrev pub bindings : List Row
bindings =
    -- try { } catch ([g, {p: h}]) { }: each name is prevented, and hoisted
    stays (script (f1 (caught (array_pat (f2 (bind 1) (object_pat (bind 2))))))) ((1, true) ∷ (2, true) ∷ [])
    -- for ([b = d] of c) ;: a parameter of the current scope; then every name on the left is written by force, defaults too, then on the right
    ∷ stays (script (f1 (for_of (array_pat (f1 (or_default (bind 1) (name 3)))) (name 2)))) ((1, true) ∷ (3, true) ∷ (2, true) ∷ [])
    -- try { } catch ([a = x = 1, b]) { }: b is written, and prevented with the others
    ∷ stays (script (f1 (caught (array_pat (f2 (or_default (bind 1) (assign 7 (lit 5))) (bind 2)))))) ((1, true) ∷ (7, true) ∷ (2, true) ∷ [])
    -- { for ([a = x = 1, b] of null) ; }: b is written, and so hoisted, as x is
    ∷ stays (script (f1 (block (f1 (for_of (array_pat (f2 (or_default (bind 1) (assign 7 (lit 5))) (bind 2))) (lit 9)))))) ((7, true) ∷ (2, true) ∷ [])
    -- { for ([b] of null) ; }: a parameter is not hoisted
    ∷ stays (script (f1 (block (f1 (for_of (array_pat (f1 (bind 1))) (lit 5)))))) []
    -- for (var [b] of c) ;: declared by no name, written by force
    ∷ stays (script (f1 (for_of (pat 0 (array_pat (f1 (bind 1)))) (name 2)))) ((1, true) ∷ (2, true) ∷ [])
    -- for (var [a] = b; ; ) ;
    ∷ stays (script (f1 (node (number_of For) 1 0 (f2 (pat_to 0 (array_pat (f1 (bind 1))) (name 2)) empty)))) ((1, true) ∷ (2, true) ∷ [])
    -- try { [a] = b; } finally { }
    ∷ stays (script (f1 (node (number_of Try) 2 0 (f2 (block (f1 (to (array_pat (f1 (bind 1))) (name 2)))) (block nil))))) ((1, true) ∷ (2, true) ∷ [])
    ∷ []

-- `=` to a pattern: the left is walked too, its names are written without force, and prevented if the right is; nothing is stored
abbrev pub assigned : List Row
assigned =
    -- [a] = b;
    stays (script (f1 (to (array_pat (f1 (bind 1))) (name 2)))) ((1, false) ∷ (2, false) ∷ [])
    -- let a = 1; [a] = [2]; k[a];
    ∷ becomes (script (f3 (decl_to 1 1 (lit 5)) (to (array_pat (f1 (bind 1))) (array (lit 10))) (do' (at 8 (name 1))))) (script (f3 (decl 1 1) (to (array_pat (f1 (bind 1))) (array (lit 10))) (do' (at 8 (lit 5))))) ((1, false) ∷ [])
    -- let x = 1; [a = x] = o;: a default is rewritten
    ∷ becomes (script (f2 (decl_to 1 7 (lit 5)) (to (array_pat (f1 (or_default (bind 1) (name 7)))) (name 8)))) (script (f2 (decl 1 7) (to (array_pat (f1 (or_default (bind 1) (lit 5)))) (name 8)))) ((7, false) ∷ (1, false) ∷ (8, false) ∷ [])
    -- let a = 1; let b = 2; [a, {p: b}] = g(); [a]; [b];
    ∷ stays (script (cons (decl_to 1 1 (lit 5)) (f4 (decl_to 1 2 (lit 9)) (to (array_pat (f2 (bind 1) (object_pat (bind 2)))) (call (name 8))) (do' (array (name 1))) (do' (array (name 2)))))) ((1, true) ∷ (2, true) ∷ (8, false) ∷ [])
    ∷ []

-- Contains: the defaults of an arrow's parameters count, those of a function's do not
abbrev pub containing : List Row
containing =
    -- let x = (a = this) => 1; [x];   let x = function (a = this) { }; [x];
    stays (script (f2 (decl_to 1 7 (arrow 1 (f2 (or_default (bind 1) this) (lit 5)))) (do' (array (name 7))))) ((7, true) ∷ [])
    ∷ becomes (script (f2 (decl_to 1 7 (fun_expr (f2 (or_default (bind 1) this) (block nil)))) (do' (array (name 7))))) (script (f2 (decl 1 7) (do' (array (fun_expr (f2 (or_default (bind 1) this) (block nil))))))) ((7, false) ∷ [])
    ∷ []

-- request 8: each bound name of a pattern on the left of `=` or in a head is a target, its defaults are not
abbrev pub aimed : List Row
aimed =
    -- let b = 1; const a = b; [{p: b}] = [2]; a;
    becomes (script (f4 (decl_to 1 2 (lit 5)) (decl_to 2 1 (name 2)) (to (array_pat (f1 (object_pat (bind 2)))) (array (lit 12))) (do' (name 1)))) (script (f4 (decl 1 2) (decl_to 2 1 (lit 5)) (to (array_pat (f1 (object_pat (bind 2)))) (array (lit 12))) (do' (name 1)))) ((2, false) ∷ [])
    -- const a = b; for ([c, b = 1] of d) ; a;
    ∷ stays (script (f3 (decl_to 2 1 (name 2)) (for_of (array_pat (f2 (bind 3) (or_default (bind 2) (lit 5)))) (name 4)) (do' (name 1)))) ((3, true) ∷ (2, true) ∷ (4, true) ∷ [])
    -- const a = b; for (let [b] of d) ; a;
    ∷ stays (script (f3 (decl_to 2 1 (name 2)) (for_of (pat 1 (array_pat (f1 (bind 2)))) (name 4)) (do' (name 1)))) ((2, true) ∷ (4, true) ∷ [])
    -- const a = b; [c = b] = d; a;
    ∷ becomes (script (f3 (decl_to 2 1 (name 2)) (to (array_pat (f1 (or_default (bind 3) (name 2)))) (name 4)) (do' (name 1)))) (script (f3 (decl_to 2 1 (name 2)) (to (array_pat (f1 (or_default (bind 3) (name 2)))) (name 4)) (do' (name 2)))) ((3, false) ∷ (2, false) ∷ (4, false) ∷ [])
    ∷ []

-- request 3: each bound name of a `var` or a parameter is declared; a pattern's initialiser is no literal, a default no initialiser
abbrev pub again : List Row
again =
    -- var a = 1; var [a] = 2; a;
    stays (script (f3 (decl_to 0 1 (lit 5)) (pat_to 0 (array_pat (f1 (bind 1))) (lit 9)) (do' (name 1)))) ((1, true) ∷ [])
    -- var {p: a} = 2; var a; a;
    ∷ stays (script (f3 (pat_to 0 (object_pat (bind 1)) (lit 5)) (decl 0 1) (do' (name 1)))) ((1, true) ∷ [])
    -- var a = g; var [a]; a;: a pattern without an initialiser
    ∷ stays (script (f3 (decl_to 0 1 (name 8)) (pat 0 (array_pat (f1 (bind 1)))) (do' (name 1)))) ((1, true) ∷ [])
    -- var [a]; var a = 1; a;: no initialiser but a literal
    ∷ becomes (script (f3 (pat 0 (array_pat (f1 (bind 1)))) (decl_to 0 1 (lit 5)) (do' (name 1)))) (script (f3 (pat 0 (array_pat (f1 (bind 1)))) (decl 0 1) (do' (lit 5)))) ((1, false) ∷ [])
    -- function f({p: a}) { var a = g; a; }   function f({p: a}) { var a = 1; a; }   function f(a = g) { var a = 1; a; }
    ∷ stays (taking (f2 (object_pat (bind 1)) (block (f2 (decl_to 0 1 (name 8)) (do' (name 1)))))) ((0, false) ∷ [])
    ∷ becomes (taking (f2 (object_pat (bind 1)) (block (f2 (decl_to 0 1 (lit 5)) (do' (name 1)))))) (taking (f2 (object_pat (bind 1)) (block (f2 (decl 0 1) (do' (lit 5)))))) ((0, false) ∷ [])
    ∷ becomes (taking (f2 (or_default (bind 1) (name 8)) (block (f2 (decl_to 0 1 (lit 5)) (do' (name 1)))))) (taking (f2 (or_default (bind 1) (name 8)) (block (f2 (decl 0 1) (do' (lit 5)))))) ((0, false) ∷ [])
    -- function f() { var [b, b] = g; let b = 1; b; }: twice in one pattern
    ∷ stays (taking (f1 (block (f3 (pat_to 0 (array_pat (f2 (bind 1) (bind 1))) (name 8)) (decl_to 1 1 (lit 5)) (do' (name 1)))))) ((0, false) ∷ [])
    ∷ []

pub patterns-right : wrong 0 parameters ∷ wrong 0 declared ∷ wrong 0 bindings ∷ wrong 0 assigned ∷ wrong 0 containing ∷ wrong 0 aimed ∷ wrong 0 again ∷ [] ≡ [] ∷ [] ∷ [] ∷ [] ∷ [] ∷ [] ∷ [] ∷ []
unfolding wrong
patterns-right = refl

-- the same from files on, and places where no pattern may stand
abbrev pub files : List Case
files =
    -- function f({today: today, before: before}) { var c = today; g(); return c - before; }
    case ((102 ∷ []) ∷ (116 ∷ 111 ∷ 100 ∷ 97 ∷ 121 ∷ []) ∷ (98 ∷ 101 ∷ 102 ∷ 111 ∷ 114 ∷ 101 ∷ []) ∷ (99 ∷ []) ∷ (103 ∷ []) ∷ []) (n 1 0 1 0 0 ∷ n 7 0 3 0 0 ∷ n 20 0 0 0 0 ∷ n 45 0 2 0 0 ∷ n 47 0 1 1 0 ∷ n 20 0 0 1 0 ∷ n 47 0 1 2 0 ∷ n 20 0 0 2 0 ∷ n 2 0 3 0 0 ∷ n 5 0 1 0 0 ∷ n 6 0 2 0 0 ∷ n 20 0 0 3 0 ∷ n 21 0 0 1 0 ∷ n 4 0 1 0 0 ∷ n 35 0 1 0 0 ∷ n 21 0 0 4 0 ∷ n 8 0 1 0 0 ∷ n 32 14 2 0 0 ∷ n 21 0 0 3 0 ∷ n 21 0 0 2 0 ∷ []) (nodes 2 false (n 1 0 1 0 0 ∷ n 7 0 3 0 0 ∷ n 20 0 0 0 0 ∷ n 45 0 2 0 0 ∷ n 47 0 1 1 0 ∷ n 20 0 0 1 0 ∷ n 47 0 1 2 0 ∷ n 20 0 0 2 0 ∷ n 2 0 3 0 0 ∷ n 5 0 1 0 0 ∷ n 6 0 1 0 0 ∷ n 20 0 0 3 0 ∷ n 4 0 1 0 0 ∷ n 35 0 1 0 0 ∷ n 21 0 0 4 0 ∷ n 8 0 1 0 0 ∷ n 32 14 2 0 0 ∷ n 21 0 0 1 0 ∷ n 21 0 0 2 0 ∷ []) ((0, 0, false, 0) ∷ []))
    -- var {p: a};: read, and the text of a 47 is its own
    ∷ case ((97 ∷ []) ∷ (112 ∷ []) ∷ []) (n 1 0 1 0 0 ∷ n 5 0 1 0 0 ∷ n 6 0 1 0 0 ∷ n 45 0 1 0 0 ∷ n 47 0 1 1 0 ∷ n 20 0 0 0 0 ∷ []) (nodes 1 false (n 1 0 1 0 0 ∷ n 5 0 1 0 0 ∷ n 6 0 1 0 0 ∷ n 45 0 1 0 0 ∷ n 47 0 1 1 0 ∷ n 20 0 0 0 0 ∷ []) ([]))
    -- [a] += 1;: a pattern stands left of `=` alone
    ∷ case ((97 ∷ []) ∷ []) (n 1 0 1 0 0 ∷ n 4 0 1 0 0 ∷ n 33 1 2 0 0 ∷ n 46 0 1 0 0 ∷ n 20 0 0 0 0 ∷ n 24 0 0 0 4607182418800017408 ∷ []) (refusal 6)
    -- [o.p] = o;: a member is no target of a pattern
    ∷ case ((111 ∷ []) ∷ (112 ∷ []) ∷ []) (n 1 0 1 0 0 ∷ n 4 0 1 0 0 ∷ n 33 0 2 0 0 ∷ n 46 0 1 0 0 ∷ n 37 0 1 1 0 ∷ n 21 0 0 0 0 ∷ n 21 0 0 0 0 ∷ []) (refusal 6)
    -- [a]++;
    ∷ case ((97 ∷ []) ∷ []) (n 1 0 1 0 0 ∷ n 4 0 1 0 0 ∷ n 31 2 1 0 0 ∷ n 46 0 1 0 0 ∷ n 20 0 0 0 0 ∷ []) (refusal 6)
    -- try { } catch (a = 1) { }: a default stands as a parameter or inside a pattern alone
    ∷ case ((97 ∷ []) ∷ []) (n 1 0 1 0 0 ∷ n 16 1 2 0 0 ∷ n 2 0 0 0 0 ∷ n 17 0 2 0 0 ∷ n 48 0 2 0 0 ∷ n 20 0 0 0 0 ∷ n 24 0 0 0 4607182418800017408 ∷ n 2 0 0 0 0 ∷ []) (refusal 6)
    -- a declarator named by a default
    ∷ case ((97 ∷ []) ∷ []) (n 1 0 1 0 0 ∷ n 5 0 1 0 0 ∷ n 6 0 1 0 0 ∷ n 48 0 2 0 0 ∷ n 20 0 0 0 0 ∷ n 24 0 0 0 4607182418800017408 ∷ []) (refusal 6)
    -- function [a]() { }: the name of a function
    ∷ case ((97 ∷ []) ∷ []) (n 1 0 1 0 0 ∷ n 7 0 2 0 0 ∷ n 46 0 1 0 0 ∷ n 20 0 0 0 0 ∷ n 2 0 0 0 0 ∷ []) (refusal 6)
    ∷ []

pub files-right : map (λ (c : Case). seen (pass_file 16 (file c.input))) files ≡ map (λ (c : Case). c.expected) files
unfolding pass_file file
files-right = refl
