-- What holds of the resolver. Assumes nothing: these are definitions.
use Rattle.std.specs.Prelude.{◌≡◌, Bool, true, false, List, [], ℕ, ◌-◌, ◌<◌, T, length}
use Rattle.std.proofs.Math.Option.{Option, none, some}
use Rattle.def_file.specs.Script.{Script, has_id, same_id, idents, node_at}
use Rattle.def_file.specs.Read.{nodes_ok}
use Rattle.def_pass.specs.Tree.{Tree, count}
use Rattle.def_pass.specs.Script.{Out, Root, Answer, no!, yes!, pass}
use Rattle.def_pass.specs.Paired.{Agree, Number, Paired, Together, AlikeRoots}
use Rattle.laws_pass.specs.Again.{outcome}
use Rattle.def_resolve.specs.Scopes.{apart}
use Rattle.def_resolve.specs.Resolve.{is_name, resolve, names_tree, bare, resolved, clashes_in}
use Rattle.laws_resolve.specs.Variables.{nth, variable, number_of}

-- the n-th node of the resolved tree, if it is a name, has the number of the scope of its variable
abbrev pub Numbered : Type 0
Numbered = (t : Tree) (n : ℕ) → n < count t → T (is_name (nth t n).kind) → (nth (resolve apart t [] 1) n).num ≡ number_of t (variable t n)

-- and no two scopes have one number
abbrev pub NumbersApart : Type 0
NumbersApart = (t : Tree) (m n : ℕ) → m < count t → n < count t → number_of t (variable t m) ≡ number_of t (variable t n) → variable t m ≡ variable t n

-- the place of the scope of the variable at a script's node n; the script passed 6, so that it has a tree
abbrev pub variable_o : Option Tree → ℕ → Option (ℕ × ℕ)
variable_o none n = none
variable_o (some t) n = variable t (n - 1)

unfoldable pub variable_in : Script → ℕ → Option (ℕ × ℕ)
unfolding names_tree
variable_in s n = variable_o (names_tree s) n

-- two nodes mean the same variable, or are one undeclared name: they have one text, and one scope declares it, or none
abbrev pub OneVariable : Script → ℕ → ℕ → Type 0
OneVariable s m n = ((node_at s m).text ≡ (node_at s n).text) × (variable_in s m ≡ variable_in s n)

-- b has one identifier for the nodes m and n exactly where they mean one variable of s
abbrev pub ByVariables : Script → Script → Type 0
ByVariables s b = (m n : ℕ) → Number s m → Number s n → T (has_id (node_at s m)) → T (has_id (node_at s n))
    → (same_id (node_at b m) (node_at b n) ≡ true → OneVariable s m n) × (OneVariable s m n → same_id (node_at b m) (node_at b n) ≡ true)

-- two scripts that differ in nothing but the contexts of their names
pub record SameButContexts (a b : Script) : Type 0 where
  pub count : length a.nodes ≡ length b.nodes
  pub texts : a.texts ≡ b.texts
  pub shape : (n : ℕ) → Number a n → Agree (node_at a n) (node_at b n)
  pub words : (n : ℕ) → Number a n → (node_at a n).text ≡ (node_at b n).text
  pub bits : (n : ℕ) → Number a n → has_id (node_at a n) ≡ false → (node_at a n).bits ≡ (node_at b n).bits

-- two occurrences get one identifier exactly when they mean the same variable or are one undeclared name, and nothing else is changed
abbrev pub Exactly : Type 0
Exactly = (s : Script) → nodes_ok s ≡ true → SameButContexts s (resolved s) × ByVariables s (resolved s)

-- names paired one to one before resolving, `arguments` only with `arguments`: both clash or neither, they get equally many identifiers, and the resolved
-- scripts are paired. Names are so paired exactly if the scripts are paired with all contexts 0
abbrev pub Renamed : Type 0
Renamed = (a b : Script) → nodes_ok a ≡ true → nodes_ok b ≡ true → Paired (bare a) (bare b)
    → (clashes_in a ≡ clashes_in b) × (length (idents (resolved a)) ≡ length (idents (resolved b))) × Paired (resolved a) (resolved b)

-- two scripts differ only, for each name, by a one-to-one change of contexts: names have the same texts, and two are one identifier in both or in neither
pub record ByName (a b : Script) : Type 0 where
  pub same : SameButContexts a b
  pub names : (m n : ℕ) → Number a m → Number a n → T (has_id (node_at a m)) → T (has_id (node_at a n)) → same_id (node_at a m) (node_at a n) ≡ same_id (node_at b m) (node_at b n)

-- two answers of the pass: the same refusal, or the same runs and mark, results that differ only so, by the change of contexts of the two scripts, and
-- root bindings in pairs, with equal marks and counts
pub record ByNameResults (a b : Script) (k l : ℕ) (c d : Bool) (xs ys : List Out) (rs ss : List Root) : Type 0 where
  pub runs : k ≡ l
  pub marks : c ≡ d
  pub nodes : ByName (outcome a xs) (outcome b ys)
  pub together : (n : ℕ) → Number (outcome a xs) n → T (has_id (node_at (outcome a xs) n)) → Together a b (node_at (outcome a xs) n) (node_at (outcome b ys) n)
  pub roots : AlikeRoots a b rs ss

abbrev pub ByNameAnswers : Script → Script → Answer → Answer → Type 0
ByNameAnswers a b (no! n) (no! m) = n ≡ m
ByNameAnswers a b (no! n) (yes! l d ys ss) = ⊥
ByNameAnswers a b (yes! k c xs rs) (no! m) = ⊥
ByNameAnswers a b (yes! k c xs rs) (yes! l d ys ss) = ByNameResults a b k l c d xs ys rs ss

-- a script resolved here, and the same script resolved elsewhere to the same variables: whatever its contexts are, they tell variables of one name apart as
-- the declaring scopes do. The pass gives the same refusal, or results that differ only, for each name, by a one-to-one change of contexts
abbrev pub Elsewhere : Type 0
Elsewhere = (s b : Script) → nodes_ok s ≡ true → SameButContexts s b → ByVariables s b → (n : ℕ) → ByName (resolved s) b × ByNameAnswers (resolved s) b (pass n (resolved s)) (pass n b)

-- the contexts of the given script are never looked at: scripts that differ in nothing else clash both or neither, and are resolved to one script
abbrev pub ContextsIgnored : Type 0
ContextsIgnored = (a b : Script) → nodes_ok a ≡ true → SameButContexts a b → (clashes_in a ≡ clashes_in b) × (resolved a ≡ resolved b)

-- resolving once more changes nothing
abbrev pub Again : Type 0
Again = (s : Script) → (bare (resolved s) ≡ bare s) × (resolved (resolved s) ≡ resolved s)
