-- By its kind. Assumes nothing.
use Rattle.std.proofs.Common.{sym, ap, ◌∙◌}
use Rattle.words_resolve.specs.Names.{adds, fresh}
use Rattle.words_contexts.specs.Walk.{role_of}
use Rattle.words_contexts.proofs.Opened as opened
use Rattle.words_contexts.proofs.scopes.declared.Goals as goal

pub returns-in-Body : goal.returns-in-Body
returns-in-Body c = c.body_names.ensures ∙ ap (adds fresh) (opened.block-tops c.requires.0 c.requires.1 c.args.role (sym (c.is_block.ensures _ c.kind_at-kind.ensures.1) ∙ c.if-is_block.true) c.in-Body.is)

pub returns-in_default : goal.returns-in_default
returns-in_default c = c.block_names.ensures ∙ ap (adds fresh) (opened.block-lexical c.requires.0 c.requires.1 c.args.role (sym (c.is_block.ensures _ c.kind_at-kind.ensures.1) ∙ c.if-is_block.true) c.in_default.not-Body c.requires.2)

pub returns-then-is_function : goal.returns-then-is_function
returns-then-is_function c = c.function_names.ensures ∙ ap (adds fresh) (opened.function-names c.requires.0 c.requires.1 (role_of c.args.role) (sym (c.is_block.ensures _ c.kind_at-kind.ensures.1) ∙ c.if-is_block.false) (sym (c.is_function.ensures _ c.kind_at-kind.ensures.1) ∙ c.if-is_function.true))

pub returns-then-is_catch : goal.returns-then-is_catch
returns-then-is_catch c = c.catch_names.ensures ∙ ap (adds fresh) (opened.catch-names c.requires.0 c.requires.1 (role_of c.args.role) (sym (c.is_block.ensures _ c.kind_at-kind.ensures.1) ∙ c.if-is_block.false) (sym (c.is_function.ensures _ c.kind_at-kind.ensures.1) ∙ c.if-is_function.false) (sym (c.is_catch.ensures _ c.kind_at-kind.ensures.1) ∙ c.if-is_catch.true))

pub returns-then-is_script : goal.returns-then-is_script
returns-then-is_script c = c.body_names-then-is_script.ensures ∙ ap (adds fresh) (opened.script-names c.requires.0 c.requires.1 (role_of c.args.role) (sym (c.is_block.ensures _ c.kind_at-kind.ensures.1) ∙ c.if-is_block.false) (sym (c.is_function.ensures _ c.kind_at-kind.ensures.1) ∙ c.if-is_function.false) (sym (c.is_script.ensures _ c.kind_at-kind.ensures.1) ∙ c.if-is_script.true))

pub returns : goal.returns
returns c = c.block_names-2.ensures ∙ ap (adds fresh) (opened.loop-names c.requires.0 c.requires.1 (role_of c.args.role) (sym (c.is_block.ensures _ c.kind_at-kind.ensures.1) ∙ c.if-is_block.false) (sym (c.is_function.ensures _ c.kind_at-kind.ensures.1) ∙ c.if-is_function.false) (sym (c.is_catch.ensures _ c.kind_at-kind.ensures.1) ∙ c.if-is_catch.false) (sym (c.is_script.ensures _ c.kind_at-kind.ensures.1) ∙ c.if-is_script.false) c.requires.2)
