-- Node by node, as `bounds_l` goes. Assumes nothing.
use Rattle.std.proofs.Common.{◌<◌, arith, sym, ap, ◌∙◌, inl, get_or}
use Rattle.def_file.specs.Named.{kind_of}
use Rattle.words.specs.Layout.{node_of}
use Rattle.words_targets.proofs.Targets as laws
use Rattle.words_targets.proofs.put_bound.Goals.{then-past-gt0, else-past-gt0+then-in_pattern, else-past-gt0+else-in_pattern, in-BindingIdent, in_default}
use Rattle.words_targets.proofs.put_bound.Goals as goal

pub loop-k-init : goal.loop-k-init
loop-k-init c = laws.binding-start c.args.w.now c.args.j

pub returns-then-more-eq0 : goal.returns-then-more-eq0
returns-then-more-eq0 c = laws.binding-all c.loop-k.invariant c.if-more-eq0.true

pub put_name-requires : goal.put_name-requires
put_name-requires c =
    let s = laws.beside-script c.requires c.loop-k.invariant.beside in
    let l : c.loop-k.k < get_or c.loop-k.w 0 0 = rw (c.loop-k.invariant.beside.low 0 (omega arith)) c.loop-k-test.true in
    (s, l, laws.number-low s c.loop-k.k l (inl (rw c.in-BindingIdent.is at c.kind_at-kind.ensures.1)))

pub loop-k-preserved : goal.loop-k-preserved
loop-k-preserved c =
    let d = c.loop-k.invariant in
    let l = c.loop-k-test.true in
    let x = node_of c.loop-k.w c.loop-k.k in
    elim c.if-past-gt0.branch [
      | then-past-gt0 b ↦ rw (b.w-is, b.past-is, b.more-is) (laws.binding-past d c.requires l (omega (arith, c.if-more-eq0.false)) c.arity_at-count.ensures b.if-past-gt0.true)
      | else-past-gt0+then-in_pattern b ↦ rw (b.w-is, b.past-is, b.more-is) (laws.binding-in d c.requires l (omega (arith, c.if-more-eq0.false)) c.arity_at-count.ensures (omega (arith, b.if-past-gt0.false)) (sym (b.in_pattern.ensures _ c.kind_at-kind.ensures.1) ∙ b.if-in_pattern.true))
      | else-past-gt0+else-in_pattern b ↦
          rw (b.w-is, b.past-is, b.more-is)
          (laws.binding-one d c.requires l (omega (arith, c.if-more-eq0.false)) c.arity_at-count.ensures (omega (arith, b.if-past-gt0.false)) (sym (b.in_pattern.ensures _ c.kind_at-kind.ensures.1) ∙ b.if-in_pattern.false)
          (elim b.match-kind.branch [
            | in-BindingIdent v ↦ rw v.w-is (laws.own-name x (rw v.in-BindingIdent.is at c.kind_at-kind.ensures.1) v.put_name.ensures)
            | in_default v ↦ rw v.w-is (laws.no_name x (λ e. v.in_default.not-BindingIdent (c.kind_at-kind.ensures.0 ∙ ap kind_of e)))
          ]))
    ]

pub returns : goal.returns
returns c = laws.binding-last c.loop-k.invariant (omega (arith, c.loop-k-test.false))
