-- By the first node. Assumes nothing.
use Rattle.std.proofs.Common.{ℕ, sym, ap, ◌∙◌, arith}
use Rattle.def_file.specs.Named.{kind_of}
use Rattle.words.specs.Flags.{flag_at}
use Rattle.words.specs.Layout.{yes}
use Rattle.scope_values.proofs.Targeted as laws
use Rattle.scope_values.proofs.constant.untargeted.Goals as goal

pub returns-then-r-eq0 : goal.returns-then-r-eq0
returns-then-r-eq0 c = laws.left-empty c.args.w.now c.args.r c.requires.1 c.if-r-eq0.true

pub returns-in_default : goal.returns-in_default
returns-in_default c = laws.left_other c.args.w.now c.args.r c.requires.1 (omega (arith, c.if-r-eq0.false)) (λ e. c.in_default.not-Ident (c.kind_at.ensures.0 ∙ ap kind_of e))

pub overflow_cast-x : goal.overflow_cast-x
overflow_cast-x c = omega (arith, laws.named-node c.requires.0 c.args.r.at (omega (arith, c.if-r-eq0.false, c.requires.1.inside)) (rw c.in-Ident.is at c.kind_at.ensures.1), c.num_at-x.ensures)

pub returns-then-flag_at : goal.returns-then-flag_at
returns-then-flag_at c =
    let l = laws.named-node c.requires.0 c.args.r.at (omega (arith, c.if-r-eq0.false, c.requires.1.inside)) (rw c.in-Ident.is at c.kind_at.ensures.1) in
    laws.left_none c.args.w.now c.args.r c.requires.1 (omega (arith, c.if-r-eq0.false)) (rw c.in-Ident.is at c.kind_at.ensures.1) l (ap (λ (n : ℕ). yes (flag_at c.args.w.now 16016 n)) (sym c.num_at-x.ensures) ∙ sym c.flag_at.ensures ∙ c.if-flag_at.true)

pub returns : goal.returns
returns c =
    let l = laws.named-node c.requires.0 c.args.r.at (omega (arith, c.if-r-eq0.false, c.requires.1.inside)) (rw c.in-Ident.is at c.kind_at.ensures.1) in
    laws.left_free c.args.w.now c.args.r c.requires.1 (omega (arith, c.if-r-eq0.false)) (rw c.in-Ident.is at c.kind_at.ensures.1) l (ap (λ (n : ℕ). yes (flag_at c.args.w.now 16016 n)) (sym c.num_at-x.ensures) ∙ sym c.flag_at.ensures ∙ c.if-flag_at.false)
