-- Text by text. Assumes nothing.
use Rattle.std.proofs.Common.{◌≡◌, ℕ, ◌<◌, Bool, List, length, sym, ap, ap₂, ◌∙◌, arith, below_more}
use lib.Dec.{eqb}
use lib.Pointwise.{pointwise}
use Rattle.def_file.specs.Script.{same_text, text_at, arguments}
use Rattle.file_read.specs.declared.texts.Texts.{Texts}
use Rattle.file_read.specs.Head.{places}
use Rattle.file_read.specs.Text.{text_in}
use Rattle.file_read.specs.Load.{script_of, Readable}
use Rattle.file_read.proofs.Strings.{same_pointwise, count-texts, text-is}
use Rattle.file_resolve.proofs.Names.{one-arguments, no-arguments}
use Rattle.file_resolve.proofs.load.arguments_text.Goals as goal

-- what `==` says of text k and `arguments`
compared : {bs : List ℕ} {n t k : ℕ} {at : Texts} {x y : List ℕ} {b : Bool} → Readable bs n t → k < t → at ≡ places n t → x ≡ text_in bs at.ends at.bytes k → y ≡ arguments → b ≡ pointwise eqb x y → b ≡ same_text (text_at (script_of bs n t) k) arguments
compared {bs} {n} {t} {k} {at} {x} {y} R l p q a e =
    let named = q ∙ ap (λ (z : Texts). text_in bs z.ends z.bytes k) p ∙ sym (text-is R.placed k l) in
    e ∙ same_pointwise x y ∙ ap₂ {C = Bool} same_text named a

pub returns-then-eq : goal.returns-then-eq
returns-then-eq c =
    let S = c.requires in
    let R = S.readable in
    let s = script_of c.args.file.now c.args.header.nodes c.args.header.texts in
    let l : c.loop-t.t < length s.texts = omega (arith, count-texts R.placed, c.loop-t-test.true) in
    one-arguments s c.loop-t.t S.apart l (sym (compared R c.loop-t-test.true c.places-texts.ensures c.text.ensures c.as_slice.ensures c.eq.ensures) ∙ c.if-eq.true)

pub loop-t-preserved : goal.loop-t-preserved
loop-t-preserved c = below_more _ _ c.loop-t.invariant (sym (compared c.requires.readable c.loop-t-test.true c.places-texts.ensures c.text.ensures c.as_slice.ensures c.eq.ensures) ∙ c.if-eq.false)

pub returns : goal.returns
returns c =
    let R = c.requires.readable in
    let s = script_of c.args.file.now c.args.header.nodes c.args.header.texts in
    let n = count-texts R.placed in
    no-arguments s (omega (arith, n, R.placed.stored.few)) (λ t l. c.loop-t.invariant t (omega (arith, n, l, c.loop-t-test.false)))
