-- Cases on core trees: a script, and what the pass is to make of it. Assumes nothing: these are definitions.
use Rattle.std.specs.Prelude.{Bool, true, false, ◌&&◌, ℕ, eqb}
use Rattle.def_pass.specs.Tree.{Tree, Forest, node, nil, cons, same}
use Rattle.def_pass.specs.Twice.{flagged}
use Rattle.def_pass.specs.Walk.{core_pass, Outcome, refused, result}

-- builders
abbrev pub f1 : Tree → Forest
f1 a = cons a nil

abbrev pub f2 : Tree → Tree → Forest
f2 a b = cons a (cons b nil)

abbrev pub f3 : Tree → Tree → Tree → Forest
f3 a b c = cons a (cons b (cons c nil))

abbrev pub name : ℕ → Tree
name i = node 21 0 i nil

abbrev pub bind : ℕ → Tree
bind i = node 20 0 i nil

abbrev pub lit : ℕ → Tree
lit o = node 22 0 o nil

abbrev pub do' : Tree → Tree
do' e = node 4 0 0 (f1 e)

abbrev pub decl : ℕ → ℕ → Tree
decl f i = node 5 f 0 (f1 (node 6 0 0 (f1 (bind i))))

abbrev pub decl_to : ℕ → ℕ → Tree → Tree
decl_to f i e = node 5 f 0 (f1 (node 6 0 0 (f2 (bind i) e)))

abbrev pub script : Forest → Tree
script ts = node 1 0 0 ts

abbrev pub call : Tree → Tree
call e = node 35 0 0 (f1 e)

abbrev pub block : Forest → Tree
block ts = node 2 0 0 ts

abbrev pub arguments : ℕ → Tree
arguments i = node 21 1 i nil

abbrev pub op : ℕ → Tree → Tree → Tree
op f a b = node 32 f 0 (f2 a b)

abbrev pub array : Tree → Tree
array e = node 27 0 0 (f1 e)

abbrev pub assign : ℕ → Tree → Tree
assign i e = node 33 0 0 (f2 (bind i) e)

abbrev pub f4 : Tree → Tree → Tree → Tree → Forest
f4 a b c d = cons a (f3 b c d)

-- a function, of its name, its parameters and its body
abbrev pub fun : Forest → Tree
fun ts = node 7 0 0 ts

-- a script, and what is expected: a refusal, or runs, mark and tree
pub data Answer : Type 0 where
  no! : ℕ → Answer
  yes! : ℕ → Bool → Tree → Answer

pub record Case : Type 0 where
  pub input : Tree
  pub answer : Answer

abbrev pub same_mark : Bool → Bool → Bool
same_mark true b = b
same_mark false true = false
same_mark false false = true

abbrev pub meets : Outcome → Answer → Bool
meets (refused n) (no! m) = eqb n m
meets (refused n) (yes! k c t) = false
meets (result k c t ms) (no! m) = false
meets (result k c t ms) (yes! l d u) = eqb k l && same_mark c d && same t u

-- its bindings flagged, as the pass does it first
abbrev pub stays : Tree → Case
stays t = record { input = t; answer = yes! 1 false (flagged t) }

abbrev pub becomes : ℕ → Tree → Tree → Case
becomes n t u = record { input = t; answer = yes! n false u }

abbrev pub is_refused : ℕ → Tree → Case
is_refused n t = record { input = t; answer = no! n }

abbrev pub right : Case → Bool
unfolding core_pass
right c = meets (core_pass 16 c.input) c.answer
