-- The same of files: the tree of a file that is read is one that Readable asks for, and so is the result's; and of the `=` in them. Assumes nothing: these are definitions.
use Rattle.std.specs.Prelude.{◌≡◌, refl, Bool, true, false, ◌&&◌, ◌⊎◌, List, [], ◌∷◌, map, ℕ, T, eqb}
use Rattle.std.proofs.Math.Option.{Option, some}
use Rattle.def_tree.specs.Tree.{flat}
use Rattle.def_file.specs.Named.{number_of, is_kind}
use Rattle.def_file.specs.declared.kind.Kind.TheVariants as Kind
use Rattle.def_file.specs.Script.{Script}
use Rattle.def_file.specs.Read.{Read, bad, script, read}
use Rattle.def_pass.specs.Tree.{Tree, Forest, node, nil, cons, head_t, tail_f}
use Rattle.def_pass.specs.Script.{Out, Answer, no!, yes!, core_tree, back, pass_read}
use Rattle.def_pass.specs.Walk.{Rooted, Outcome, refused, result, core_pass}
use Rattle.def_pass.specs.Cases.{f2, f3, name, bind, lit, decl_to}
use Rattle.laws_pass.specs.Readable.{Readable}
use Rattle.laws_pass.specs.Assigns.{Assign, target_o, assigns, assigns_f}

-- no `=` that is asked for stands in an initialiser
abbrev mutual
  pub NoInit : (ℕ → Bool) → Tree → Type 0
  NoInit asked (node k f a ts) = (T (is_kind Kind.VarDeclarator k) → assigns_f asked (tail_f ts) ≡ []) × NoInitF asked ts

  pub NoInitF : (ℕ → Bool) → Forest → Type 0
  NoInitF asked nil = Unit {0}
  NoInitF asked (cons t ts) = NoInit asked t × NoInitF asked ts

-- the `=` with origin o and target l stands in the tree, outside every initialiser
abbrev mutual
  pub Stands : ℕ → Option Tree → Tree → Type 0
  Stands o l (node k f a ts) = (T (is_kind Kind.Assign k && eqb f 0) × (a ≡ o) × (head_t ts ≡ l)) ⊎ StandsIn o l (is_kind Kind.VarDeclarator k) ts

  -- of a declarator only the name is looked at
  pub StandsIn : ℕ → Option Tree → Bool → Forest → Type 0
  StandsIn o l d nil = ⊥
  StandsIn o l true (cons t ts) = Stands o l t
  StandsIn o l false (cons t ts) = Stands o l t ⊎ StandsIn o l false ts

-- every `=` of origin o that stands anywhere in the tree
abbrev pub of_origin : ℕ → Tree → List Assign
of_origin o t = assigns (λ a. eqb a o) t

-- each time that it stands there: `var a = y = 1; var b = a; var c = [b, b];` becomes `var a; var b = y = 1; var c = [y = 1, y = 1];`
abbrev pub stands_in : ℕ → Outcome → List Assign
stands_in o (refused n) = []
stands_in o (result k c t ms) = of_origin o t

pub thrice : stands_in 9 (core_pass 16 (node (number_of Kind.Script) 0 0 (f3 (decl_to 0 1 (node (number_of Kind.Assign) 0 9 (f2 (bind 2) (lit 5)))) (decl_to 0 3 (name 1)) (decl_to 0 4 (node (number_of Kind.Array) 0 0 (f2 (name 3) (name 3))))))) ≡ (9, some (bind 2)) ∷ (9, some (bind 2)) ∷ (9, some (bind 2)) ∷ []
unfolding core_pass
thrice = refl

-- `before` is the script's tree, `after` the one that the pass makes of it in at most n runs, with its origins: in k runs, with the mark c; xs are its nodes
pub record Trees (n : ℕ) (s : Script) (k : ℕ) (c : Bool) (xs : List Out) : Type 0 where
  pub before : Tree
  pub after : Tree
  pub roots : List Rooted
  pub is : core_tree s ≡ some before
  pub passed : core_pass n before ≡ result k c after roots
  pub nodes : xs ≡ map (back s) (flat after [])
  pub readable : Readable before
  pub again : Readable after
  pub assigned : (asked : ℕ → Bool) → NoInit asked before → assigns asked after ≡ assigns asked before
  pub once : (o : ℕ) (l : Option Tree) → Stands o l before → of_origin o after ≡ (o, target_o l) ∷ []

abbrev pub TreesIn : ℕ → Script → Answer → Type 0
TreesIn n s (no! m) = Unit {0}
TreesIn n s (yes! k c xs rs) = Trees n s k c xs

abbrev pub TreesOf : ℕ → Read → Type 0
TreesOf n (bad r) = Unit {0}
TreesOf n (script s) = TreesIn n s (pass_read n (script s))

-- of every file and run limit
abbrev pub FileTrees : Type 0
FileTrees = (n : ℕ) (bs : List ℕ) → TreesOf n (read bs)
