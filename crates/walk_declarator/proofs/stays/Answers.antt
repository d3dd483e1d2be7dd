-- Marked, or another `this`. Assumes nothing.
use Rattle.std.proofs.Common.{ℕ, eqb, not, sym, ap, ◌∙◌, arith}
use Rattle.def_tree.specs.Tree.{Forest}
use Rattle.def_pass.specs.Scope.{find_binding, has_same_this}
use Rattle.def_pass.specs.Walk.{stays}
use Rattle.words.specs.Layout.{tree}
use Rattle.words_scopes.specs.State.{stack}
use Rattle.words_nodes.specs.Nodes.{tree_from, forest_from}
use Rattle.scope.proofs.Numbers as numbers
use Rattle.walk_declarator.specs.Steps.{named}
use Rattle.walk_declarator.proofs.Parts as parts
use Rattle.walk_declarator.proofs.stays.Goals as goal

pub returns-then-ident_prevented : goal.returns-then-ident_prevented
returns-then-ident_prevented c = c.if-ident_prevented.true ∙ sym (parts.stays-marked c.args.x (stack c.args.w.now) (forest_from (tree c.args.w.now) c.args.n c.args.i) (sym c.ident_prevented.ensures ∙ c.if-ident_prevented.true))

pub returns-else-n-ne0 : goal.returns-else-n-ne0
returns-else-n-ne0 c = ap (λ (n : ℕ). not (eqb n 0)) c.if-n-ne0.false ∙ sym (ap (λ (ts : Forest). stays (named 0 c.args.x) ts (stack c.args.w.now)) (parts.forest-none (tree c.args.w.now) c.args.n c.args.i c.if-n-ne0.false) ∙ parts.stays-none c.args.x (stack c.args.w.now) (sym c.ident_prevented.ensures ∙ c.if-ident_prevented.false))

pub returns-then-n-ne0 : goal.returns-then-n-ne0
returns-then-n-ne0 c = ap not (c.has_same_this.ensures ∙ ap (has_same_this (find_binding c.args.x (stack c.args.w.now))) (numbers.tree-in c.args.w.now c.args.i (parts.some-trees c.args.w.now c.args.i (omega (arith, c.requires.1, c.if-n-ne0.true))))) ∙ sym (ap (λ (ts : Forest). stays (named 0 c.args.x) ts (stack c.args.w.now)) (parts.forest-some (tree c.args.w.now) c.args.n c.args.i (omega (arith, c.requires.1, c.if-n-ne0.true)) (omega (arith, c.requires.1, c.if-n-ne0.true))) ∙ parts.stays-some c.args.x (stack c.args.w.now) (tree_from (tree c.args.w.now) c.args.i) _ (sym c.ident_prevented.ensures ∙ c.if-ident_prevented.false))
