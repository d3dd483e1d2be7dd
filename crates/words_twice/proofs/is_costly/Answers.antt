-- The number of children, the name, the initialiser. Assumes nothing.
use Rattle.std.proofs.Common.{ℕ, not, sym, ap, ◌∙◌, arith}
use Rattle.def_file.specs.Named.{kind_of}
use Rattle.words.specs.Layout.{node_of}
use Rattle.words_twice.proofs.Looks as looks
use Rattle.words_twice.proofs.is_costly.Goals.{in-LITERAL, in_default}
use Rattle.words_twice.proofs.is_costly.Goals as goal

pub returns-then-arity_at-lt2 : goal.returns-then-arity_at-lt2
returns-then-arity_at-lt2 c = looks.costly-none c.requires.0 c.requires.1 c.arity_at.ensures (omega (arith, c.if-arity_at-lt2.true))

pub kind_at-requires : goal.kind_at-requires
kind_at-requires c = looks.in-words c.requires.0 (looks.first-in c.requires.0 c.requires.1 c.arity_at.ensures (omega (arith, c.if-arity_at-lt2.false)))

pub returns-then-is_pattern : goal.returns-then-is_pattern
returns-then-is_pattern c = looks.costly-pattern c.requires.0 c.requires.1 c.arity_at.ensures (omega (arith, c.if-arity_at-lt2.false)) (omega (arith, c.if-arity_at-lt2.false)) (sym (c.is_pattern.ensures _ c.kind_at.ensures.1) ∙ c.if-is_pattern.true)

pub skip-requires : goal.skip-requires
skip-requires c = (c.requires.0, looks.first-in c.requires.0 c.requires.1 c.arity_at.ensures (omega (arith, c.if-arity_at-lt2.false)))

pub kind_at-requires-2 : goal.kind_at-requires-2
kind_at-requires-2 c = rw c.skip.ensures.0 (looks.in-words c.requires.0 (looks.second-in c.requires.0 c.requires.1 c.arity_at.ensures (omega (arith, c.if-arity_at-lt2.false)) (omega (arith, c.if-arity_at-lt2.false))))

pub returns : goal.returns
returns c =
    let at = λ (k : ℕ). (node_of c.args.w.now k).kind in
    let o = sym (c.is_pattern.ensures _ c.kind_at.ensures.1) ∙ c.if-is_pattern.false in
    elim c.match-matches.branch [
      | in-LITERAL b ↦ ap not b.matches-is ∙ looks.costly-literal c.requires.0 c.requires.1 c.arity_at.ensures (omega (arith, c.if-arity_at-lt2.false)) (omega (arith, c.if-arity_at-lt2.false)) o (ap at (sym c.skip.ensures.0) ∙ rw b.in-LITERAL.is at c.kind_at-2.ensures.1)
      | in_default b ↦ ap not b.matches-is ∙ looks.costly-value c.requires.0 c.requires.1 c.arity_at.ensures (omega (arith, c.if-arity_at-lt2.false)) (omega (arith, c.if-arity_at-lt2.false)) (λ e. b.in_default.not-Null (c.kind_at-2.ensures.0 ∙ ap kind_of (ap at c.skip.ensures.0 ∙ e)))
    ]
