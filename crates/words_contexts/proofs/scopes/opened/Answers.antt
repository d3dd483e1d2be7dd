-- By its kind. Assumes nothing.
use Rattle.std.proofs.Common.{sym, ◌∙◌}
use Rattle.def_tree.specs.Tree.{kids}
use Rattle.words.specs.Layout.{tree}
use Rattle.words_nodes.specs.Nodes.{tree_from}
use Rattle.words_contexts.specs.Walk.{role_of}
use Rattle.words_contexts.proofs.Opened as opened
use Rattle.words_contexts.proofs.scopes.opened.Goals as goal

pub returns-then-is_block : goal.returns-then-is_block
returns-then-is_block c = opened.block-count c.requires.0 c.requires.1 (role_of c.args.role) (sym (c.is_block.ensures _ c.kind_at-kind.ensures.1) ∙ c.if-is_block.true) (c.opens.ensures (kids (tree_from (tree c.args.w.now) c.args.node)))

pub returns-then-names_itself : goal.returns-then-names_itself
returns-then-names_itself c = opened.two-scopes c.requires.0 c.requires.1 (role_of c.args.role) (sym (c.is_block.ensures _ c.kind_at-kind.ensures.1) ∙ c.if-is_block.false) (sym (c.is_function.ensures _ c.kind_at-kind.ensures.1) ∙ c.if-is_function.true) (sym c.names_itself.ensures ∙ c.if-names_itself.true)

pub returns-else-names_itself : goal.returns-else-names_itself
returns-else-names_itself c = opened.one-scope c.requires.0 c.requires.1 (role_of c.args.role) (sym (c.is_block.ensures _ c.kind_at-kind.ensures.1) ∙ c.if-is_block.false) (sym (c.is_function.ensures _ c.kind_at-kind.ensures.1) ∙ c.if-is_function.true) (sym c.names_itself.ensures ∙ c.if-names_itself.false)

pub returns-then-opens_one : goal.returns-then-opens_one
returns-then-opens_one c = opened.other-one c.requires.0 c.requires.1 (role_of c.args.role) (sym (c.is_block.ensures _ c.kind_at-kind.ensures.1) ∙ c.if-is_block.false) (sym (c.is_function.ensures _ c.kind_at-kind.ensures.1) ∙ c.if-is_function.false) (sym (c.opens_one.ensures _ c.kind_at-kind.ensures.1) ∙ c.if-opens_one.true)

pub returns-else-opens_one : goal.returns-else-opens_one
returns-else-opens_one c = opened.other-none c.requires.0 c.requires.1 (role_of c.args.role) (sym (c.is_block.ensures _ c.kind_at-kind.ensures.1) ∙ c.if-is_block.false) (sym (c.is_function.ensures _ c.kind_at-kind.ensures.1) ∙ c.if-is_function.false) (sym (c.opens_one.ensures _ c.kind_at-kind.ensures.1) ∙ c.if-opens_one.false)
