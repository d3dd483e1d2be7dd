-- What the walk makes of a node by the scopes that it opens. Assumes nothing: these are definitions.
use Rattle.std.specs.Prelude.{◌≡◌, Bool, ◌||◌, List, [], ◌∷◌, ℕ, ◌+◌, eqb, length}
use Rattle.def_tree.specs.Base.{pick}
use Rattle.def_file.specs.declared.kind.Kind.TheVariants as Kind
use Rattle.def_file.specs.Named.{is_kind, is_between}
use Rattle.def_pass.specs.Tree.{Tree, Forest, kind, form, kids, count, counts}
use Rattle.def_resolve.specs.Scopes.{Scope, scope, Role, apart, shared, body, role, opened, first_outside}
use Rattle.def_resolve.specs.Resolve.{Numbered, opens, opens_f, resolve, resolve_f}
use Rattle.words.specs.Layout.{tree}
use Rattle.words_nodes.specs.Nodes.{Planted}
use Rattle.words_resolve.specs.Meanings.{OneArguments, View}
use Rattle.words_resolve.specs.Walk.{nums_f, writes}
use Rattle.words_contexts.specs.declared.scopes.Role.TheVariants.{Apart, Shared, Body}
use Rattle.words_contexts.specs.declared.scopes.Role.{Role as Standing}
use Rattle.words_contexts.specs.declared.Place.{Place}

abbrev pub role_of : Standing → Role
role_of Apart = apart
role_of Shared = shared
role_of Body = body

-- of trees of which the last has a role: that of one with so many behind it; and that of the last once that one has given way to its children
abbrev pub last_before : Role → ℕ → Role
last_before r behind = pick (eqb behind 0) r apart

abbrev pub last_after : Role → ℕ → Role
last_after r behind = pick (eqb behind 0) apart r

-- what is no block and no function, and opens a scope
abbrev pub opens_one : ℕ → Bool
opens_one k = (is_between Kind.For Kind.ForOf k || is_kind Kind.Switch k) || (is_kind Kind.CatchClause k || is_kind Kind.Script k)

-- how many of a node's children stand outside its innermost scope
abbrev pub outside : ℕ → ℕ → ℕ → ℕ
outside k f c = pick (first_outside k f) (pick (eqb c 0) 0 1) 0

-- of scopes, the outer first
abbrev pub innermost : List Scope → Scope
innermost [] = scope []
innermost (s ∷ []) = s
innermost (s ∷ (t ∷ ts)) = innermost (t ∷ ts)

-- the innermost scope that a node opens, which has number c
abbrev pub entered : Role → Tree → ℕ → Numbered
entered r t c = record { number = c; scope = innermost (opened r t) }

-- how a node's last child stands
abbrev pub last_role : Tree → Role
last_role t = role (kind t) (form t) (kids t)

-- a node's children with their contexts, es being around its innermost scope
abbrev pub below : Role → Tree → List Numbered → ℕ → Forest
below r t es c = resolve_f (last_role t) (kids t) (pick (first_outside (kind t) (form t)) es (entered r t c ∷ es)) (entered r t c ∷ es) (c + 1)

-- what the walk is lent
pub record Lent (w out : List ℕ) (a : ℕ) : Type 0 where
  pub planted : Planted w
  pub arguments : OneArguments (tree w) a
  pub room : length out ≡ 1024

-- from p to q: trees, the last of which has a role, walked with a table of what names mean
pub record Walked (a : ℕ) (table : List ℕ) (r : Role) (ts : Forest) (p q : Place) (old new : List ℕ) : Type 0 where
  pub at : q.at ≡ p.at + counts ts
  pub next : q.next ≡ p.next + opens_f r ts
  pub long : length new ≡ length old
  pub is : (es : List Numbered) → View a table es → new ≡ writes old p.at (nums_f (resolve_f r ts es es p.next))

-- the children of the tree at p, its innermost scope being the next
pub record Entered (a : ℕ) (table : List ℕ) (r : Role) (t : Tree) (p q : Place) (old new : List ℕ) : Type 0 where
  pub at : q.at ≡ p.at + count t
  pub next : q.next ≡ p.next + 1 + opens_f (last_role t) (kids t)
  pub long : length new ≡ length old
  pub is : (es : List Numbered) → View a table es → new ≡ writes old (p.at + 1) (nums_f (below r t es p.next))

-- the children of the tree at p, with all scopes that it opens
pub record Opened (a : ℕ) (table : List ℕ) (r : Role) (t : Tree) (p q : Place) (old new : List ℕ) : Type 0 where
  pub at : q.at ≡ p.at + count t
  pub next : q.next ≡ p.next + opens r t
  pub long : length new ≡ length old
  pub is : (es : List Numbered) → View a table es → new ≡ writes old (p.at + 1) (nums_f (kids (resolve r t es p.next)))
