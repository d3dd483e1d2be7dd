-- The records of a window, marked. Assumes nothing.
use Rattle.std.proofs.Common.{ℕ, ◌+◌, List, get_or, ap, ◌∙◌, arith}
use Rattle.words_scopes.specs.Mark.{marked}
use Rattle.words_scopes.specs.declared.binding.Binding.{Binding}
use Rattle.words_scopes.specs.State.{record_at, no_record}
use Rattle.words_scopes.proofs.Words as laws
use Rattle.words_scopes.proofs.marks_of.Goals as goal

pub records-bs-requires : goal.records-bs-requires
records-bs-requires c = c.requires

pub returns : goal.returns
returns c =
    let x = c.from.result in
    λ j l h.
    ap (λ (bs : List Binding). get_or bs j no_record) c.mark_all.ensures ∙ laws.get_d_map (marked x) c.records-bs.result j no_record (omega (arith, c.records-bs.ensures.0)) ∙ ap (marked x) (c.records-bs.ensures.1 j l h) ∙ ap (λ (y : ℕ). marked y (record_at c.args.w.now (c.args.k + j))) c.from.ensures
