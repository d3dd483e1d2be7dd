-- What a walk of the port promises, Did: its answer, and the state that the words then stand for, are those of the walk on the list of nodes; and
-- what it asks for. Assumes nothing: these are definitions.
use Rattle.std.specs.Prelude.{◌≡◌, List, ℕ, suc, ◌+◌, ◌≤◌, ◌<◌, eqb, Bool, true, false, not, ◌&&◌, ◌||◌}
use Rattle.std.proofs.Math.Option.{Option, none, some}
use Rattle.def_tree.specs.Combine.{done, ◌>>◌, and_then, iff, node_at, tree_at, forest_at, set_arity, Walk as One, Walks as Many, on_rest, skip, many, split_f, each_but_f, on_kids_f}
use Rattle.def_tree.specs.Tree.{Tree, Core}
use Rattle.def_file.specs.declared.kind.Kind.TheVariants.{CatchClause, BindingIdent, Ident, Null, Bin, Assign, Empty, This}
use Rattle.def_file.specs.Named.{number_of, is_kind}
use Rattle.words.specs.Layout.{tree, node_of}
use Rattle.def_pass.specs.Scope.{VarType}
use Rattle.def_pass.specs.Walk.{St, as_catch, set_pat_mode, modify, head_bind}
use Rattle.laws_flat.specs.WalkF.{WalksF, visit_mut_stmts_f, catch_param_f, declr_to_f}
use Rattle.words_nodes.specs.Nodes.{Planted}
use Rattle.walk_laws.specs.Shape.{Room}
use Rattle.words_state.specs.State.{abs}
pub use Rattle.scope.specs.Steps.{Did}

-- n trees begin at i, at depth p of the tree, and d levels are left below it
pub record Here (w : List ℕ) (n i p d : ℕ) : Type 0 where
  pub planted : Planted w
  pub room : Room (tree w) n i
  pub depth : p + d ≤ 201

-- an identifier or a literal without children
abbrev pub bare_node : Core → Bool
bare_node c = eqb c.arity 0 && (is_kind Ident c.kind || is_kind Null c.kind)

-- an empty statement or a `this`
abbrev pub leaf_node : Core → Bool
leaf_node c = eqb c.arity 0 && (is_kind Empty c.kind || is_kind This c.kind)

-- no identifier, no && or ||, no assignment
abbrev pub settled_node : Core → Bool
settled_node c = not (is_kind Ident c.kind) && (not (is_kind Bin c.kind) && not (is_kind Assign c.kind))

-- the first of n trees from i on is a binding
pub record Bound (w : List ℕ) (n i : ℕ) : Type 0 where
  pub some : 0 < n
  pub kind : (node_of w i).kind ≡ number_of BindingIdent

-- is the first of n trees from i on, if there is one, no binding
abbrev pub Headed : List ℕ → ℕ → ℕ → Bool → Type 0
Headed w n i true = head_bind (forest_at (abs w) n i) ≡ none
Headed w n i false = (head_bind (forest_at (abs w) n i) ≡ some (tree_at (abs w) i)) × Bound w n i

-- parts of handlers that are functions of their own in the port

-- visit_mut_var_declarator_f of the node q, behind the first walk: its name and initialiser by what was found, then their number
abbrev pub declr_end_f : WalksF → ℕ → ℕ → Option Tree → Bool → VarType → Many St
declr_end_f v p q o b k n i = λ st. and_then (declr_to_f v p o b k n i st) (λ r st₁. done (set_arity q r.0 st₁) r.1)

-- of visitMutTryStmtF: a part behind the block, and all
abbrev pub clause_f : WalksF → ℕ → One St
clause_f v p i = λ st. iff (is_kind CatchClause (node_at st i).kind) (v.full p i) (skip i) st

abbrev pub clauses_f : WalksF → ℕ → Many St
clauses_f v p n i = many (λ i₁ st. iff (is_kind CatchClause (node_at st i₁).kind) (v.full p i₁) (skip i₁) st) n i

-- visit_mut_catch_clause_f inside its scope
abbrev pub caught_f : WalksF → ℕ → One St
caught_f v p i = on_rest (modify (set_pat_mode as_catch)) >> on_kids_f (each_but_f (catch_param_f v (suc p)) (v.full (suc p))) i

-- visit_mut_switch_case_f inside its scope
abbrev pub items_f : WalksF → ℕ → One St
items_f v p i = λ st. iff (eqb (node_at st i).form 1) (on_kids_f (split_f (v.full (suc p)) (visit_mut_stmts_f v (suc p))) i) (on_kids_f (visit_mut_stmts_f v (suc p)) i) st
