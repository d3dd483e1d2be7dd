-- Cases in which a pair is needed or is not, and corners, worked out apart (by a program of another language), one `refl` each. Assumes nothing.
use Rattle.std.specs.Prelude.{◌≡◌, refl, true, false, List, [], ◌∷◌, ◌++◌, ℕ, eqb, get_or, codes}
use Rattle.def_tree.specs.Base.{pick}
use Rattle.def_tree.specs.Tree.{Tree, node, nil, cons}
use Rattle.def_text.specs.Words.{Word}
use Rattle.def_text.specs.Table.{rules, reaches}
use Rattle.def_text.specs.Derives.{right_of, rules_at}
use Rattle.def_text.specs.Print.{walks, has_text, text}

abbrev names : List Word
names = codes "b" ∷ codes "a" ∷ codes "c" ∷ codes "x" ∷ codes "of" ∷ codes "let" ∷ codes "async" ∷ codes "get" ∷ codes "yield" ∷ codes "in" ∷ codes "static" ∷ codes "await" ∷ codes "if" ∷ codes "class" ∷ codes "f" ∷ codes "a-b" ∷ codes "" ∷ []

abbrev numbers : List Word
numbers = codes "0.0000001" ∷ codes "9007199254740992" ∷ codes "0.30000000000000004" ∷ codes "1000000000000000000000" ∷ codes "2.75" ∷ codes "0.1" ∷ codes "0.5" ∷ codes "300" ∷ codes "0" ∷ []

abbrev spell : ℕ → ℕ → Word
spell k a = pick (eqb k 24) (get_or numbers a []) (get_or names a [])

abbrev says : List Word → List ℕ
says [] = []
says (l ∷ ls) = l ++ (10 ∷ says ls)

-- unary minus before minus
abbrev t0 : Tree
t0 = node 1 0 0 (cons (node 4 0 0 (cons (node 30 3 0 (cons (node 30 3 0 (cons (node 21 0 1 nil) nil)) nil)) nil)) (cons (node 4 0 0 (cons (node 30 3 0 (cons (node 31 1 0 (cons (node 21 0 1 nil) nil)) nil)) nil)) (cons (node 4 0 0 (cons (node 32 14 0 (cons (node 21 0 1 nil) (cons (node 30 3 0 (cons (node 21 0 0 nil) nil)) nil))) nil)) nil)))

x0 : text spell t0 ≡ says (codes "- - a ;" ∷ codes "- -- a ;" ∷ codes "a - - b ;" ∷ [])
unfolding rules reaches right_of rules_at walks
x0 = refl

y0 : has_text spell t0 ≡ true
unfolding rules reaches right_of rules_at walks
y0 = refl

-- ** after a unary
abbrev t1 : Tree
t1 = node 1 0 0 (cons (node 4 0 0 (cons (node 32 23 0 (cons (node 30 3 0 (cons (node 21 0 1 nil) nil)) (cons (node 21 0 0 nil) nil))) nil)) (cons (node 4 0 0 (cons (node 30 3 0 (cons (node 32 23 0 (cons (node 21 0 1 nil) (cons (node 21 0 0 nil) nil))) nil)) nil)) (cons (node 4 0 0 (cons (node 32 23 0 (cons (node 21 0 1 nil) (cons (node 30 3 0 (cons (node 21 0 0 nil) nil)) nil))) nil)) (cons (node 4 0 0 (cons (node 32 23 0 (cons (node 32 23 0 (cons (node 21 0 1 nil) (cons (node 21 0 0 nil) nil))) (cons (node 21 0 2 nil) nil))) nil)) (cons (node 4 0 0 (cons (node 32 23 0 (cons (node 21 0 1 nil) (cons (node 32 23 0 (cons (node 21 0 0 nil) (cons (node 21 0 2 nil) nil))) nil))) nil)) nil)))))

x1 : text spell t1 ≡ says (codes "( - a ) ** b ;" ∷ codes "- ( a ** b ) ;" ∷ codes "a ** - b ;" ∷ codes "( a ** b ) ** c ;" ∷ codes "a ** b ** c ;" ∷ [])
unfolding rules reaches right_of rules_at walks
x1 = refl

y1 : has_text spell t1 ≡ true
unfolding rules reaches right_of rules_at walks
y1 = refl

-- ?? beside ||
abbrev t2 : Tree
t2 = node 1 0 0 (cons (node 4 0 0 (cons (node 32 24 0 (cons (node 32 1 0 (cons (node 21 0 1 nil) (cons (node 21 0 0 nil) nil))) (cons (node 21 0 2 nil) nil))) nil)) (cons (node 4 0 0 (cons (node 32 1 0 (cons (node 21 0 1 nil) (cons (node 32 24 0 (cons (node 21 0 0 nil) (cons (node 21 0 2 nil) nil))) nil))) nil)) (cons (node 4 0 0 (cons (node 32 24 0 (cons (node 32 24 0 (cons (node 21 0 1 nil) (cons (node 21 0 0 nil) nil))) (cons (node 21 0 2 nil) nil))) nil)) (cons (node 4 0 0 (cons (node 32 24 0 (cons (node 21 0 1 nil) (cons (node 32 24 0 (cons (node 21 0 0 nil) (cons (node 21 0 2 nil) nil))) nil))) nil)) (cons (node 4 0 0 (cons (node 32 24 0 (cons (node 21 0 1 nil) (cons (node 32 18 0 (cons (node 21 0 0 nil) (cons (node 21 0 2 nil) nil))) nil))) nil)) nil)))))

x2 : text spell t2 ≡ says (codes "( a || b ) ?? c ;" ∷ codes "a || ( b ?? c ) ;" ∷ codes "a ?? b ?? c ;" ∷ codes "a ?? ( b ?? c ) ;" ∷ codes "a ?? b | c ;" ∷ [])
unfolding rules reaches right_of rules_at walks
x2 = refl

y2 : has_text spell t2 ≡ true
unfolding rules reaches right_of rules_at walks
y2 = refl

-- a call below new
abbrev t3 : Tree
t3 = node 1 0 0 (cons (node 4 0 0 (cons (node 36 1 0 (cons (node 35 0 0 (cons (node 21 0 1 nil) nil)) nil)) nil)) (cons (node 4 0 0 (cons (node 36 1 0 (cons (node 37 0 3 (cons (node 35 0 0 (cons (node 21 0 1 nil) nil)) nil)) nil)) nil)) (cons (node 4 0 0 (cons (node 36 0 0 (cons (node 38 0 0 (cons (node 35 0 0 (cons (node 21 0 1 nil) nil)) (cons (node 21 0 0 nil) nil))) nil)) nil)) (cons (node 4 0 0 (cons (node 35 0 0 (cons (node 36 0 0 (cons (node 21 0 1 nil) nil)) nil)) nil)) (cons (node 4 0 0 (cons (node 37 0 3 (cons (node 36 0 0 (cons (node 21 0 1 nil) nil)) nil)) nil)) (cons (node 4 0 0 (cons (node 36 1 0 (cons (node 36 0 0 (cons (node 21 0 1 nil) nil)) nil)) nil)) (cons (node 4 0 0 (cons (node 36 0 0 (cons (node 36 1 0 (cons (node 21 0 1 nil) nil)) nil)) nil)) nil)))))))

x3 : text spell t3 ≡ says (codes "new ( a ( ) ) ( ) ;" ∷ codes "new ( a ( ) ) . x ( ) ;" ∷ codes "new ( a ( ) ) [ b ] ;" ∷ codes "( new a ) ( ) ;" ∷ codes "( new a ) . x ;" ∷ codes "new ( new a ) ( ) ;" ∷ codes "new new a ( ) ;" ∷ [])
unfolding rules reaches right_of rules_at walks
x3 = refl

y3 : has_text spell t3 ≡ true
unfolding rules reaches right_of rules_at walks
y3 = refl

-- ( async ) of
abbrev t4 : Tree
t4 = node 1 0 0 (cons (node 14 0 0 (cons (node 20 0 6 nil) (cons (node 21 0 1 nil) (cons (node 3 0 0 nil) nil)))) (cons (node 14 0 0 (cons (node 20 0 5 nil) (cons (node 21 0 1 nil) (cons (node 3 0 0 nil) nil)))) (cons (node 13 0 0 (cons (node 20 0 6 nil) (cons (node 21 0 1 nil) (cons (node 3 0 0 nil) nil)))) (cons (node 13 0 0 (cons (node 20 0 5 nil) (cons (node 21 0 1 nil) (cons (node 3 0 0 nil) nil)))) (cons (node 14 0 0 (cons (node 20 0 4 nil) (cons (node 21 0 4 nil) (cons (node 3 0 0 nil) nil)))) nil)))))

x4 : text spell t4 ≡ says (codes "for ( ( async ) of a ) ;" ∷ codes "for ( ( let ) of a ) ;" ∷ codes "for ( async in a ) ;" ∷ codes "for ( let in a ) ;" ∷ codes "for ( of of of ) ;" ∷ [])
unfolding rules reaches right_of rules_at walks
x4 = refl

y4 : has_text spell t4 ≡ true
unfolding rules reaches right_of rules_at walks
y4 = refl

-- in in a for start
abbrev t5 : Tree
t5 = node 1 0 0 (cons (node 12 1 0 (cons (node 32 21 0 (cons (node 21 0 1 nil) (cons (node 21 0 0 nil) nil))) (cons (node 3 0 0 nil) nil))) (cons (node 12 1 0 (cons (node 42 0 0 (cons (node 33 0 0 (cons (node 20 0 3 nil) (cons (node 32 21 0 (cons (node 21 0 1 nil) (cons (node 21 0 0 nil) nil))) nil))) (cons (node 32 21 0 (cons (node 32 21 0 (cons (node 21 0 1 nil) (cons (node 21 0 0 nil) nil))) (cons (node 21 0 2 nil) nil))) nil))) (cons (node 3 0 0 nil) nil))) (cons (node 12 1 0 (cons (node 5 0 0 (cons (node 6 0 0 (cons (node 20 0 3 nil) (cons (node 34 0 0 (cons (node 32 21 0 (cons (node 21 0 1 nil) (cons (node 21 0 0 nil) nil))) (cons (node 32 21 0 (cons (node 21 0 1 nil) (cons (node 21 0 0 nil) nil))) (cons (node 32 21 0 (cons (node 21 0 1 nil) (cons (node 21 0 0 nil) nil))) nil)))) nil))) nil)) (cons (node 3 0 0 nil) nil))) (cons (node 12 1 0 (cons (node 40 1 0 (cons (node 32 21 0 (cons (node 21 0 1 nil) (cons (node 21 0 0 nil) nil))) nil)) (cons (node 3 0 0 nil) nil))) (cons (node 12 1 0 (cons (node 35 0 0 (cons (node 21 0 1 nil) (cons (node 32 21 0 (cons (node 21 0 1 nil) (cons (node 21 0 0 nil) nil))) nil))) (cons (node 3 0 0 nil) nil))) nil)))))

x5 : text spell t5 ≡ says (codes "for ( ( a in b ) ; ; ) ;" ∷ codes "for ( x = ( a in b ) , ( a in b in c ) ; ; ) ;" ∷ codes "for ( var x = ( a in b ) ? a in b : ( a in b ) ; ; ) ;" ∷ codes "for ( ( ) => ( a in b ) ; ; ) ;" ∷ codes "for ( a ( a in b ) ; ; ) ;" ∷ [])
unfolding rules reaches right_of rules_at walks
x5 = refl

y5 : has_text spell t5 ≡ true
unfolding rules reaches right_of rules_at walks
y5 = refl

-- statement starts
abbrev t6 : Tree
t6 = node 1 0 0 (cons (node 4 0 0 (cons (node 35 0 0 (cons (node 39 0 0 (cons (node 2 0 0 nil) nil)) nil)) nil)) (cons (node 4 0 0 (cons (node 37 0 3 (cons (node 28 0 0 nil) nil)) nil)) (cons (node 4 0 0 (cons (node 38 0 0 (cons (node 21 0 5 nil) (cons (node 21 0 1 nil) nil))) nil)) (cons (node 4 0 0 (cons (node 33 0 0 (cons (node 38 0 0 (cons (node 21 0 5 nil) (cons (node 21 0 1 nil) nil))) (cons (node 21 0 0 nil) nil))) nil)) (cons (node 4 0 0 (cons (node 37 0 3 (cons (node 21 0 5 nil) nil)) nil)) (cons (node 12 1 0 (cons (node 38 0 0 (cons (node 21 0 5 nil) (cons (node 21 0 1 nil) nil))) (cons (node 3 0 0 nil) nil))) (cons (node 4 0 0 (cons (node 33 0 0 (cons (node 45 0 0 (cons (node 47 0 1 (cons (node 20 0 0 nil) nil)) nil)) (cons (node 21 0 2 nil) nil))) nil)) (cons (node 4 0 0 (cons (node 42 0 0 (cons (node 39 0 0 (cons (node 2 0 0 nil) nil)) (cons (node 21 0 1 nil) nil))) nil)) (cons (node 4 0 0 (cons (node 32 13 0 (cons (node 42 0 0 (cons (node 39 0 0 (cons (node 2 0 0 nil) nil)) (cons (node 21 0 1 nil) nil))) (cons (node 21 0 0 nil) nil))) nil)) nil)))))))))

x6 : text spell t6 ≡ says (codes "( function ( ) { } ) ( ) ;" ∷ codes "( { } ) . x ;" ∷ codes "( let ) [ a ] ;" ∷ codes "( let ) [ a ] = b ;" ∷ codes "let . x ;" ∷ codes "for ( ( let ) [ a ] ; ; ) ;" ∷ codes "( { a : b } = c ) ;" ∷ codes "( function ( ) { } ) , a ;" ∷ codes "( function ( ) { } , a ) + b ;" ∷ [])
unfolding rules reaches right_of rules_at walks
x6 = refl

y6 : has_text spell t6 ≡ true
unfolding rules reaches right_of rules_at walks
y6 = refl

-- arrow bodies
abbrev t7 : Tree
t7 = node 1 0 0 (cons (node 4 0 0 (cons (node 40 1 0 (cons (node 28 0 0 nil) nil)) nil)) (cons (node 4 0 0 (cons (node 40 1 0 (cons (node 37 0 3 (cons (node 28 0 0 nil) nil)) nil)) nil)) (cons (node 4 0 0 (cons (node 40 1 0 (cons (node 33 0 0 (cons (node 45 0 0 nil) (cons (node 21 0 2 nil) nil))) nil)) nil)) (cons (node 4 0 0 (cons (node 40 1 0 (cons (node 39 0 0 (cons (node 2 0 0 nil) nil)) nil)) nil)) (cons (node 4 0 0 (cons (node 34 0 0 (cons (node 40 0 0 (cons (node 2 0 0 nil) nil)) (cons (node 21 0 1 nil) (cons (node 21 0 0 nil) nil)))) nil)) nil)))))

x7 : text spell t7 ≡ says (codes "( ) => ( { } ) ;" ∷ codes "( ) => ( { } ) . x ;" ∷ codes "( ) => ( { } = c ) ;" ∷ codes "( ) => function ( ) { } ;" ∷ codes "( ( ) => { } ) ? a : b ;" ∷ [])
unfolding rules reaches right_of rules_at walks
x7 = refl

y7 : has_text spell t7 ≡ true
unfolding rules reaches right_of rules_at walks
y7 = refl

-- sequences
abbrev t8 : Tree
t8 = node 1 0 0 (cons (node 4 0 0 (cons (node 42 0 0 (cons (node 42 0 0 (cons (node 21 0 1 nil) (cons (node 21 0 0 nil) nil))) (cons (node 21 0 2 nil) nil))) nil)) (cons (node 4 0 0 (cons (node 35 0 0 (cons (node 21 0 1 nil) (cons (node 42 0 0 (cons (node 21 0 0 nil) (cons (node 21 0 2 nil) nil))) nil))) nil)) (cons (node 14 0 0 (cons (node 20 0 3 nil) (cons (node 42 0 0 (cons (node 21 0 1 nil) (cons (node 21 0 0 nil) nil))) (cons (node 3 0 0 nil) nil)))) (cons (node 13 0 0 (cons (node 20 0 3 nil) (cons (node 42 0 0 (cons (node 21 0 1 nil) (cons (node 21 0 0 nil) nil))) (cons (node 3 0 0 nil) nil)))) nil))))

x8 : text spell t8 ≡ says (codes "( a , b ) , c ;" ∷ codes "a ( ( b , c ) ) ;" ∷ codes "for ( x of ( a , b ) ) ;" ∷ codes "for ( x in a , b ) ;" ∷ [])
unfolding rules reaches right_of rules_at walks
x8 = refl

y8 : has_text spell t8 ≡ true
unfolding rules reaches right_of rules_at walks
y8 = refl

-- kind 41 kept, and counted
abbrev t9 : Tree
t9 = node 1 0 0 (cons (node 4 0 0 (cons (node 41 0 0 (cons (node 21 0 1 nil) nil)) nil)) (cons (node 4 0 0 (cons (node 32 15 0 (cons (node 41 0 0 (cons (node 32 13 0 (cons (node 21 0 1 nil) (cons (node 21 0 0 nil) nil))) nil)) (cons (node 21 0 2 nil) nil))) nil)) (cons (node 4 0 0 (cons (node 41 0 0 (cons (node 41 0 0 (cons (node 21 0 1 nil) nil)) nil)) nil)) nil)))

x9 : text spell t9 ≡ says (codes "( a ) ;" ∷ codes "( a + b ) * c ;" ∷ codes "( ( a ) ) ;" ∷ [])
unfolding rules reaches right_of rules_at walks
x9 = refl

y9 : has_text spell t9 ≡ true
unfolding rules reaches right_of rules_at walks
y9 = refl

-- numbers
abbrev t10 : Tree
t10 = node 1 0 0 (cons (node 4 0 0 (cons (node 24 0 8 nil) nil)) (cons (node 4 0 0 (cons (node 24 0 7 nil) nil)) (cons (node 4 0 0 (cons (node 24 0 6 nil) nil)) (cons (node 4 0 0 (cons (node 24 0 5 nil) nil)) (cons (node 4 0 0 (cons (node 24 0 4 nil) nil)) (cons (node 4 0 0 (cons (node 24 0 3 nil) nil)) (cons (node 4 0 0 (cons (node 24 0 2 nil) nil)) (cons (node 4 0 0 (cons (node 24 0 1 nil) nil)) (cons (node 4 0 0 (cons (node 24 0 0 nil) nil)) nil)))))))))

x10 : text spell t10 ≡ says (codes "0 ;" ∷ codes "300 ;" ∷ codes "0.5 ;" ∷ codes "0.1 ;" ∷ codes "2.75 ;" ∷ codes "1000000000000000000000 ;" ∷ codes "0.30000000000000004 ;" ∷ codes "9007199254740992 ;" ∷ codes "0.0000001 ;" ∷ [])
unfolding rules reaches right_of rules_at walks
x10 = refl

y10 : has_text spell t10 ≡ true
unfolding rules reaches right_of rules_at walks
y10 = refl

-- ?? with || and && on its right
abbrev t11 : Tree
t11 = node 1 0 0 (cons (node 4 0 0 (cons (node 32 24 0 (cons (node 21 0 1 nil) (cons (node 32 1 0 (cons (node 21 0 0 nil) (cons (node 21 0 2 nil) nil))) nil))) nil)) (cons (node 4 0 0 (cons (node 32 24 0 (cons (node 21 0 1 nil) (cons (node 32 0 0 (cons (node 21 0 0 nil) (cons (node 21 0 2 nil) nil))) nil))) nil)) (cons (node 4 0 0 (cons (node 32 0 0 (cons (node 21 0 1 nil) (cons (node 32 24 0 (cons (node 21 0 0 nil) (cons (node 21 0 2 nil) nil))) nil))) nil)) nil)))

x11 : text spell t11 ≡ says (codes "a ?? ( b || c ) ;" ∷ codes "a ?? ( b && c ) ;" ∷ codes "a && ( b ?? c ) ;" ∷ [])
unfolding rules reaches right_of rules_at walks
x11 = refl

y11 : has_text spell t11 ≡ true
unfolding rules reaches right_of rules_at walks
y11 = refl

-- do while, dangling else in a block, try
abbrev t12 : Tree
t12 = node 1 0 0 (cons (node 11 0 0 (cons (node 21 0 1 nil) (cons (node 3 0 0 nil) nil))) (cons (node 9 0 0 (cons (node 21 0 1 nil) (cons (node 2 0 0 (cons (node 9 0 0 (cons (node 21 0 0 nil) (cons (node 3 0 0 nil) nil))) nil)) (cons (node 3 0 0 nil) nil)))) (cons (node 16 3 0 (cons (node 2 0 0 nil) (cons (node 17 0 0 (cons (node 20 0 3 nil) (cons (node 2 0 0 nil) nil))) (cons (node 2 0 0 nil) nil)))) nil)))

x12 : text spell t12 ≡ says (codes "do ; while ( a ) ;" ∷ codes "if ( a ) { if ( b ) ; } else ;" ∷ codes "try { } catch ( x ) { } finally { }" ∷ [])
unfolding rules reaches right_of rules_at walks
x12 = refl

y12 : has_text spell t12 ≡ true
unfolding rules reaches right_of rules_at walks
y12 = refl

-- in inside a pair in a for start
abbrev t13 : Tree
t13 = node 1 0 0 (cons (node 12 1 0 (cons (node 32 13 0 (cons (node 32 21 0 (cons (node 21 0 1 nil) (cons (node 21 0 0 nil) nil))) (cons (node 21 0 2 nil) nil))) (cons (node 3 0 0 nil) nil))) (cons (node 12 1 0 (cons (node 27 0 0 (cons (node 32 21 0 (cons (node 21 0 1 nil) (cons (node 21 0 0 nil) nil))) nil)) (cons (node 3 0 0 nil) nil))) nil))

x13 : text spell t13 ≡ says (codes "for ( ( a in b ) + c ; ; ) ;" ∷ codes "for ( [ a in b ] ; ; ) ;" ∷ [])
unfolding rules reaches right_of rules_at walks
x13 = refl

y13 : has_text spell t13 ≡ true
unfolding rules reaches right_of rules_at walks
y13 = refl

-- random 701
abbrev t14 : Tree
t14 = node 1 0 0 (cons (node 4 0 0 (cons (node 36 0 0 (cons (node 30 5 0 (cons (node 36 0 0 (cons (node 38 0 0 (cons (node 27 0 0 (cons (node 21 0 6 nil) (cons (node 31 0 0 (cons (node 37 0 4 (cons (node 42 0 0 (cons (node 36 0 0 (cons (node 33 4 0 (cons (node 37 0 1 (cons (node 28 0 0 nil) nil)) (cons (node 42 0 0 (cons (node 32 13 0 (cons (node 30 5 0 (cons (node 33 0 0 (cons (node 38 0 0 (cons (node 40 1 0 (cons (node 27 0 0 nil) nil)) (cons (node 32 12 0 (cons (node 28 0 0 (cons (node 29 0 9 (cons (node 33 5 0 (cons (node 20 0 7 nil) (cons (node 34 0 0 (cons (node 34 0 0 (cons (node 41 0 0 (cons (node 28 0 0 (cons (node 29 0 1 (cons (node 23 0 0 nil) nil)) nil)) nil)) (cons (node 26 0 0 nil) (cons (node 21 0 1 nil) nil)))) (cons (node 21 0 6 nil) (cons (node 21 0 8 nil) nil)))) nil))) nil)) nil)) (cons (node 21 0 7 nil) nil))) nil))) (cons (node 21 0 5 nil) nil))) nil)) (cons (node 21 0 0 nil) nil))) (cons (node 26 0 0 nil) nil))) nil))) nil)) (cons (node 21 0 6 nil) (cons (node 21 0 3 nil) nil)))) nil)) nil)) nil))) (cons (node 21 0 3 nil) nil))) nil)) nil)) nil)) nil)) (cons (node 43 0 0 nil) (cons (node 3 0 0 nil) nil)))

x14 : text spell t14 ≡ says (codes "new ( ~ new [ async , ++ ( new ( { } . a /= ( ~ ( ( ( ) => [ ] ) [ { in : get %= ( ( { a : false } ) ? this : a ) ? async : yield } >>> get ] = let ) + b , this ) ) , async , x ) . of ] [ x ] ) ;" ∷ codes "break ;" ∷ codes ";" ∷ [])
unfolding rules reaches right_of rules_at walks
x14 = refl

y14 : has_text spell t14 ≡ true
unfolding rules reaches right_of rules_at walks
y14 = refl

-- random 705
abbrev t15 : Tree
t15 = node 1 0 0 (cons (node 7 0 0 (cons (node 20 0 6 nil) (cons (node 20 0 7 nil) (cons (node 20 0 1 nil) (cons (node 2 0 0 (cons (node 3 0 0 nil) nil)) nil))))) nil)

x15 : text spell t15 ≡ says (codes "function async ( get , a ) { ; }" ∷ [])
unfolding rules reaches right_of rules_at walks
x15 = refl

y15 : has_text spell t15 ≡ true
unfolding rules reaches right_of rules_at walks
y15 = refl

-- random 706
abbrev t16 : Tree
t16 = node 1 0 0 (cons (node 4 0 0 (cons (node 38 0 0 (cons (node 31 1 0 (cons (node 37 0 1 (cons (node 30 0 0 (cons (node 21 0 6 nil) nil)) nil)) nil)) (cons (node 28 0 0 (cons (node 29 0 7 (cons (node 27 0 0 (cons (node 31 0 0 (cons (node 38 0 0 (cons (node 30 2 0 (cons (node 30 0 0 (cons (node 21 0 4 nil) nil)) nil)) (cons (node 37 0 0 (cons (node 38 0 0 (cons (node 28 0 0 (cons (node 29 0 12 (cons (node 41 0 0 (cons (node 31 2 0 (cons (node 21 0 11 nil) nil)) nil)) nil)) nil)) (cons (node 32 24 0 (cons (node 30 2 0 (cons (node 35 0 0 (cons (node 21 0 11 nil) nil)) nil)) (cons (node 21 0 3 nil) nil))) nil))) nil)) nil))) nil)) (cons (node 21 0 8 nil) nil))) nil)) (cons (node 29 0 7 (cons (node 26 0 0 nil) nil)) nil))) nil))) nil)) (cons (node 3 0 0 nil) (cons (node 4 0 0 (cons (node 21 0 10 nil) nil)) nil)))

x16 : text spell t16 ≡ says (codes "( -- ( void async ) . a ) [ { get : [ ++ ( ! void of ) [ { if : ( await ++ ) } [ ! await ( ) ?? x ] . b ] , yield ] , get : this } ] ;" ∷ codes ";" ∷ codes "static ;" ∷ [])
unfolding rules reaches right_of rules_at walks
x16 = refl

y16 : has_text spell t16 ≡ true
unfolding rules reaches right_of rules_at walks
y16 = refl

-- random 707
abbrev t17 : Tree
t17 = node 1 0 0 (cons (node 12 6 0 (cons (node 32 0 0 (cons (node 35 0 0 (cons (node 33 6 0 (cons (node 37 0 1 (cons (node 32 19 0 (cons (node 33 7 0 (cons (node 38 0 0 (cons (node 28 0 0 (cons (node 29 0 7 (cons (node 36 0 0 (cons (node 28 0 0 (cons (node 29 0 12 (cons (node 39 0 0 (cons (node 2 0 0 nil) nil)) nil)) (cons (node 29 0 1 (cons (node 21 0 10 nil) nil)) nil))) nil)) nil)) nil)) (cons (node 21 0 11 nil) nil))) (cons (node 21 0 0 nil) nil))) (cons (node 21 0 5 nil) nil))) nil)) (cons (node 21 0 4 nil) nil))) nil)) (cons (node 22 0 0 nil) nil))) (cons (node 26 0 0 nil) (cons (node 4 0 0 (cons (node 21 0 1 nil) nil)) nil)))) (cons (node 43 0 0 nil) nil))

x17 : text spell t17 ≡ says (codes "for ( ; ( ( ( { get : new { if : function ( ) { } , a : static } } [ await ] >>= b ) ^ let ) . a <<= of ) ( ) && null ; this ) a ;" ∷ codes "break ;" ∷ [])
unfolding rules reaches right_of rules_at walks
x17 = refl

y17 : has_text spell t17 ≡ true
unfolding rules reaches right_of rules_at walks
y17 = refl

-- random 708
abbrev t18 : Tree
t18 = node 1 0 0 (cons (node 7 0 0 (cons (node 20 0 11 nil) (cons (node 20 0 5 nil) (cons (node 20 0 0 nil) (cons (node 2 0 0 (cons (node 4 0 0 (cons (node 32 21 0 (cons (node 39 1 0 (cons (node 20 0 10 nil) (cons (node 2 0 0 (cons (node 43 0 0 nil) nil)) nil))) (cons (node 21 0 1 nil) nil))) nil)) nil)) nil))))) (cons (node 3 0 0 nil) nil))

x18 : text spell t18 ≡ says (codes "function await ( let , b ) { ( function static ( ) { break ; } ) in a ; }" ∷ codes ";" ∷ [])
unfolding rules reaches right_of rules_at walks
x18 = refl

y18 : has_text spell t18 ≡ true
unfolding rules reaches right_of rules_at walks
y18 = refl

-- random 709
abbrev t19 : Tree
t19 = node 1 0 0 (cons (node 5 0 0 (cons (node 6 0 0 (cons (node 20 0 1 nil) (cons (node 32 21 0 (cons (node 31 0 0 (cons (node 38 0 0 (cons (node 35 0 0 (cons (node 21 0 4 nil) (cons (node 30 2 0 (cons (node 32 21 0 (cons (node 36 0 0 (cons (node 21 0 0 nil) nil)) (cons (node 42 0 0 (cons (node 37 0 12 (cons (node 42 0 0 (cons (node 21 0 8 nil) (cons (node 21 0 0 nil) (cons (node 21 0 11 nil) nil)))) nil)) (cons (node 21 0 4 nil) nil))) nil))) nil)) (cons (node 21 0 0 nil) nil)))) (cons (node 21 0 0 nil) nil))) nil)) (cons (node 21 0 1 nil) nil))) nil))) nil)) nil)

x19 : text spell t19 ≡ says (codes "var a = ++ of ( ! ( new b in ( ( yield , b , await ) . if , of ) ) , b ) [ b ] in a ;" ∷ [])
unfolding rules reaches right_of rules_at walks
x19 = refl

y19 : has_text spell t19 ≡ true
unfolding rules reaches right_of rules_at walks
y19 = refl

-- random 710
abbrev t20 : Tree
t20 = node 1 0 0 (cons (node 15 0 0 (cons (node 32 24 0 (cons (node 32 24 0 (cons (node 33 0 0 (cons (node 37 0 5 (cons (node 36 0 0 (cons (node 32 23 0 (cons (node 37 0 7 (cons (node 26 0 0 nil) nil)) (cons (node 37 0 0 (cons (node 41 0 0 (cons (node 21 0 0 nil) nil)) nil)) nil))) nil)) nil)) (cons (node 21 0 1 nil) nil))) (cons (node 21 0 0 nil) nil))) (cons (node 21 0 3 nil) nil))) nil)) (cons (node 44 0 0 nil) (cons (node 4 0 0 (cons (node 21 0 5 nil) nil)) nil)))

x20 : text spell t20 ≡ says (codes "throw ( ( new ( this . get ** ( b ) . b ) ) . let = a ) ?? b ?? x ;" ∷ codes "continue ;" ∷ codes "let ;" ∷ [])
unfolding rules reaches right_of rules_at walks
x20 = refl

y20 : has_text spell t20 ≡ true
unfolding rules reaches right_of rules_at walks
y20 = refl

-- random 711
abbrev t21 : Tree
t21 = node 1 0 0 (cons (node 15 0 0 (cons (node 30 1 0 (cons (node 30 2 0 (cons (node 31 2 0 (cons (node 38 0 0 (cons (node 27 0 0 nil) (cons (node 33 0 0 (cons (node 20 0 0 nil) (cons (node 32 21 0 (cons (node 41 0 0 (cons (node 33 0 0 (cons (node 38 0 0 (cons (node 32 23 0 (cons (node 28 0 0 nil) (cons (node 41 0 0 (cons (node 41 0 0 (cons (node 32 22 0 (cons (node 21 0 8 nil) (cons (node 32 24 0 (cons (node 33 0 0 (cons (node 20 0 8 nil) (cons (node 32 15 0 (cons (node 32 23 0 (cons (node 33 0 0 (cons (node 20 0 3 nil) (cons (node 34 0 0 (cons (node 30 6 0 (cons (node 31 0 0 (cons (node 21 0 1 nil) nil)) nil)) (cons (node 26 0 0 nil) (cons (node 21 0 8 nil) nil)))) nil))) (cons (node 21 0 11 nil) nil))) (cons (node 21 0 1 nil) nil))) nil))) (cons (node 41 0 0 (cons (node 21 0 6 nil) nil)) nil))) nil))) nil)) nil)) nil))) (cons (node 41 0 0 (cons (node 21 0 7 nil) nil)) nil))) (cons (node 21 0 11 nil) nil))) nil)) (cons (node 21 0 5 nil) nil))) nil))) nil))) nil)) nil)) nil)) nil)) (cons (node 4 0 0 (cons (node 21 0 8 nil) nil)) (cons (node 4 0 0 (cons (node 21 0 1 nil) nil)) nil)))

x21 : text spell t21 ≡ says (codes "throw typeof ! [ ] [ b = ( ( { } ** ( ( yield instanceof ( ( yield = ( x = delete ++ a ? this : yield ) ** await * a ) ?? ( async ) ) ) ) ) [ ( get ) ] = await ) in let ] ++ ;" ∷ codes "yield ;" ∷ codes "a ;" ∷ [])
unfolding rules reaches right_of rules_at walks
x21 = refl

y21 : has_text spell t21 ≡ true
unfolding rules reaches right_of rules_at walks
y21 = refl

-- random 712
abbrev t22 : Tree
t22 = node 1 0 0 (cons (node 12 1 0 (cons (node 39 1 0 (cons (node 20 0 3 nil) (cons (node 2 0 0 (cons (node 15 0 0 (cons (node 27 0 0 (cons (node 21 0 1 nil) nil)) nil)) (cons (node 9 0 0 (cons (node 35 0 0 (cons (node 30 3 0 (cons (node 21 0 1 nil) nil)) (cons (node 33 0 0 (cons (node 20 0 5 nil) (cons (node 41 0 0 (cons (node 33 0 0 (cons (node 45 0 0 (cons (node 47 0 12 (cons (node 20 0 3 nil) nil)) (cons (node 47 0 4 (cons (node 20 0 11 nil) nil)) nil))) (cons (node 22 0 0 nil) nil))) nil)) nil))) (cons (node 41 0 0 (cons (node 21 0 5 nil) nil)) nil)))) (cons (node 43 0 0 nil) nil))) nil))) nil))) (cons (node 4 0 0 (cons (node 21 0 4 nil) nil)) nil))) (cons (node 43 0 0 nil) (cons (node 3 0 0 nil) nil)))

x22 : text spell t22 ≡ says (codes "for ( function x ( ) { throw [ a ] ; if ( ( - a ) ( let = ( { if : x , of : await } = null ) , ( let ) ) ) break ; } ; ; ) of ;" ∷ codes "break ;" ∷ codes ";" ∷ [])
unfolding rules reaches right_of rules_at walks
x22 = refl

y22 : has_text spell t22 ≡ true
unfolding rules reaches right_of rules_at walks
y22 = refl

-- random 713
abbrev t23 : Tree
t23 = node 1 0 0 (cons (node 9 0 0 (cons (node 32 23 0 (cons (node 31 2 0 (cons (node 37 0 12 (cons (node 32 21 0 (cons (node 21 0 8 nil) (cons (node 30 2 0 (cons (node 28 0 0 (cons (node 29 0 7 (cons (node 41 0 0 (cons (node 41 0 0 (cons (node 36 1 0 (cons (node 41 0 0 (cons (node 32 21 0 (cons (node 22 0 0 nil) (cons (node 21 0 1 nil) nil))) nil)) (cons (node 32 1 0 (cons (node 36 0 0 (cons (node 21 0 0 nil) nil)) (cons (node 37 0 9 (cons (node 41 0 0 (cons (node 40 1 0 (cons (node 27 0 0 (cons (node 31 1 0 (cons (node 38 0 0 (cons (node 32 21 0 (cons (node 21 0 7 nil) (cons (node 40 1 0 (cons (node 20 0 10 nil) (cons (node 20 0 6 nil) (cons (node 21 0 8 nil) nil)))) nil))) (cons (node 21 0 6 nil) nil))) nil)) (cons (node 21 0 0 nil) nil))) nil)) nil)) nil)) nil))) nil))) nil)) nil)) nil)) (cons (node 29 0 4 (cons (node 21 0 6 nil) nil)) nil))) nil)) nil))) nil)) nil)) (cons (node 22 0 0 nil) nil))) (cons (node 3 0 0 nil) nil))) (cons (node 44 0 0 nil) nil))

x23 : text spell t23 ≡ says (codes "if ( ( yield in ! { get : ( ( new ( null in a ) ( new b || ( ( ) => [ -- ( get in ( ( static , async ) => yield ) ) [ async ] , b ] ) . in ) ) ) , of : async } ) . if ++ ** null ) ;" ∷ codes "continue ;" ∷ [])
unfolding rules reaches right_of rules_at walks
x23 = refl

y23 : has_text spell t23 ≡ true
unfolding rules reaches right_of rules_at walks
y23 = refl

-- random 715
abbrev t24 : Tree
t24 = node 1 0 0 (cons (node 5 0 0 (cons (node 6 0 0 (cons (node 46 0 0 (cons (node 45 0 0 (cons (node 47 0 7 (cons (node 45 0 0 (cons (node 47 0 12 (cons (node 46 0 0 nil) nil)) nil)) nil)) (cons (node 47 0 1 (cons (node 46 0 0 nil) nil)) nil))) nil)) (cons (node 32 4 0 (cons (node 27 0 0 (cons (node 36 1 0 (cons (node 21 0 3 nil) (cons (node 32 21 0 (cons (node 28 0 0 nil) (cons (node 21 0 0 nil) nil))) nil))) nil)) (cons (node 21 0 0 nil) nil))) nil))) nil)) nil)

x24 : text spell t24 ≡ says (codes "var [ { get : { if : [ ] } , a : [ ] } ] = [ new x ( { } in b ) ] === b ;" ∷ [])
unfolding rules reaches right_of rules_at walks
x24 = refl

y24 : has_text spell t24 ≡ true
unfolding rules reaches right_of rules_at walks
y24 = refl

-- random 717
abbrev t25 : Tree
t25 = node 1 0 0 (cons (node 16 1 0 (cons (node 2 0 0 nil) (cons (node 17 0 0 (cons (node 2 0 0 nil) nil)) nil))) nil)

x25 : text spell t25 ≡ says (codes "try { } catch { }" ∷ [])
unfolding rules reaches right_of rules_at walks
x25 = refl

y25 : has_text spell t25 ≡ true
unfolding rules reaches right_of rules_at walks
y25 = refl

-- const without a value
abbrev t26 : Tree
t26 = node 1 0 0 (cons (node 5 2 0 (cons (node 6 0 0 (cons (node 20 0 3 nil) nil)) nil)) nil)

x26 : text spell t26 ≡ says (codes "const x ;" ∷ [])
unfolding rules reaches right_of rules_at walks
x26 = refl

y26 : has_text spell t26 ≡ true
unfolding rules reaches right_of rules_at walks
y26 = refl

-- let let
abbrev t27 : Tree
t27 = node 1 0 0 (cons (node 5 1 0 (cons (node 6 0 0 (cons (node 20 0 5 nil) nil)) nil)) nil)

x27 : text spell t27 ≡ says (codes "let let ;" ∷ [])
unfolding rules reaches right_of rules_at walks
x27 = refl

y27 : has_text spell t27 ≡ true
unfolding rules reaches right_of rules_at walks
y27 = refl

-- break outside
abbrev t28 : Tree
t28 = node 1 0 0 (cons (node 43 0 0 nil) nil)

x28 : text spell t28 ≡ says (codes "break ;" ∷ [])
unfolding rules reaches right_of rules_at walks
x28 = refl

y28 : has_text spell t28 ≡ true
unfolding rules reaches right_of rules_at walks
y28 = refl

-- yield, await
abbrev t29 : Tree
t29 = node 1 0 0 (cons (node 4 0 0 (cons (node 32 13 0 (cons (node 21 0 8 nil) (cons (node 21 0 11 nil) nil))) nil)) nil)

x29 : text spell t29 ≡ says (codes "yield + await ;" ∷ [])
unfolding rules reaches right_of rules_at walks
x29 = refl

y29 : has_text spell t29 ≡ true
unfolding rules reaches right_of rules_at walks
y29 = refl

-- key class
abbrev t30 : Tree
t30 = node 1 0 0 (cons (node 4 0 0 (cons (node 37 0 13 (cons (node 21 0 1 nil) nil)) nil)) nil)

x30 : text spell t30 ≡ says (codes "a . class ;" ∷ [])
unfolding rules reaches right_of rules_at walks
x30 = refl

y30 : has_text spell t30 ≡ true
unfolding rules reaches right_of rules_at walks
y30 = refl

-- no text: variable class
n0 : has_text spell (node 1 0 0 (cons (node 4 0 0 (cons (node 21 0 13 nil) nil)) nil)) ≡ false
unfolding rules reaches right_of rules_at walks
n0 = refl

-- no text: inner if
n1 : has_text spell (node 1 0 0 (cons (node 9 0 0 (cons (node 21 0 1 nil) (cons (node 9 0 0 (cons (node 21 0 0 nil) (cons (node 3 0 0 nil) nil))) (cons (node 3 0 0 nil) nil)))) nil)) ≡ false
unfolding rules reaches right_of rules_at walks
n1 = refl

-- no text: inner if in while
n2 : has_text spell (node 1 0 0 (cons (node 9 0 0 (cons (node 21 0 1 nil) (cons (node 10 0 0 (cons (node 21 0 0 nil) (cons (node 9 0 0 (cons (node 21 0 2 nil) (cons (node 3 0 0 nil) nil))) nil))) (cons (node 3 0 0 nil) nil)))) nil)) ≡ false
unfolding rules reaches right_of rules_at walks
n2 = refl

-- no text: sequence of one
n3 : has_text spell (node 1 0 0 (cons (node 4 0 0 (cons (node 42 0 0 (cons (node 21 0 1 nil) nil)) nil)) nil)) ≡ false
unfolding rules reaches right_of rules_at walks
n3 = refl

-- no text: return outside
n4 : has_text spell (node 1 0 0 (cons (node 8 0 0 nil) nil)) ≡ false
unfolding rules reaches right_of rules_at walks
n4 = refl

-- no text: let as body
n5 : has_text spell (node 1 0 0 (cons (node 10 0 0 (cons (node 21 0 1 nil) (cons (node 5 1 0 (cons (node 6 0 0 (cons (node 20 0 3 nil) nil)) nil)) nil))) nil)) ≡ false
unfolding rules reaches right_of rules_at walks
n5 = refl

-- no text: function as branch
n6 : has_text spell (node 1 0 0 (cons (node 9 0 0 (cons (node 21 0 1 nil) (cons (node 7 0 0 (cons (node 20 0 14 nil) (cons (node 2 0 0 nil) nil))) nil))) nil)) ≡ false
unfolding rules reaches right_of rules_at walks
n6 = refl

-- no text: two defaults
n7 : has_text spell (node 1 0 0 (cons (node 18 0 0 (cons (node 21 0 1 nil) (cons (node 19 0 0 nil) (cons (node 19 0 0 nil) nil)))) nil)) ≡ false
unfolding rules reaches right_of rules_at walks
n7 = refl

-- no text: for-in head with a value
n8 : has_text spell (node 1 0 0 (cons (node 13 0 0 (cons (node 5 0 0 (cons (node 6 0 0 (cons (node 20 0 3 nil) (cons (node 21 0 1 nil) nil))) nil)) (cons (node 21 0 0 nil) (cons (node 3 0 0 nil) nil)))) nil)) ≡ false
unfolding rules reaches right_of rules_at walks
n8 = refl

-- no text: pattern without a value
n9 : has_text spell (node 1 0 0 (cons (node 5 0 0 (cons (node 6 0 0 (cons (node 45 0 0 nil) nil)) nil)) nil)) ≡ false
unfolding rules reaches right_of rules_at walks
n9 = refl

-- no text: key
n10 : has_text spell (node 1 0 0 (cons (node 4 0 0 (cons (node 37 0 15 (cons (node 21 0 1 nil) nil)) nil)) nil)) ≡ false
unfolding rules reaches right_of rules_at walks
n10 = refl

-- no text: a word of no letter
n11 : has_text spell (node 1 0 0 (cons (node 4 0 0 (cons (node 21 0 16 nil) nil)) nil)) ≡ false
unfolding rules reaches right_of rules_at walks
n11 = refl
