-- A name by the table. Assumes nothing.
use Rattle.std.proofs.Common.{sym, ◌∙◌}
use Rattle.words.specs.Layout.{node_of}
use Rattle.words_resolve.proofs.Views as views
use Rattle.words_resolve.proofs.meanings.number.Goals as goal

pub bounds-table-num : goal.bounds-table-num
bounds-table-num c = views.low-in c.requires.0 c.requires.1 (sym (c.is_name.ensures _ c.kind_at.ensures.1) ∙ c.if-is_name.true) c.num_at-num.ensures c.requires.2

pub returns-then-is_name : goal.returns-then-is_name
returns-then-is_name c a es o v = c.from.ensures ∙ views.by-table c.requires.0 c.requires.1 (sym (c.is_name.ensures _ c.kind_at.ensures.1) ∙ c.if-is_name.true) es c.num_at-num.ensures o v

pub returns-else-is_name : goal.returns-else-is_name
returns-else-is_name c a es o v = c.num_at-num.ensures ∙ views.no-name (node_of c.args.w.now c.args.j) (sym (c.is_name.ensures _ c.kind_at.ensures.1) ∙ c.if-is_name.false) es
