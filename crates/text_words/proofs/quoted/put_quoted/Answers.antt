-- Assumes nothing.
use Rattle.std.proofs.Common.{◌≡◌, ℕ, ◌+◌, ◌<◌, List, [], ◌∷◌, length, get_or, ap, ◌∙◌, subst, arith}
use lib.Seq.{take_all}
use Rattle.def_text.specs.Entry.{escaped}
use Rattle.number_text.specs.Put.{Puts}
use Rattle.text_words.proofs.Escaped.{escaped-rest, quoted-length, next-length, puts-next, puts-quote}
use Rattle.text_words.proofs.quoted.put_quoted.Goals as goal

pub put_escaped-end-requires : goal.put_escaped-end-requires
put_escaped-end-requires c =
    let w = c.args.text.now in
    let k = c.loop-c.c-index in
    omega (arith, c.loop-c.invariant.0, next-length w k (omega arith), escaped-rest w (k + 1), quoted-length w, c.requires)

pub loop-c-preserved : goal.loop-c-preserved
loop-c-preserved c =
    let w = c.args.text.now in
    let k = c.loop-c.c-index in
    let h : k < length w = omega arith in
    let i = c.loop-c.invariant in
    let q = subst (λ (n : ℕ). Puts c.loop-c.out c.put_escaped-end.new.out n (escaped (get_or w k 0 ∷ []))) i.0 c.put_escaped-end.ensures.1 in (
      c.put_escaped-end.ensures.0 ∙ omega (arith, i.0, next-length w k h),
      puts-next c.args.out.now c.loop-c.out c.put_escaped-end.new.out w c.args.«at» k h (omega (arith, escaped-rest w k, quoted-length w, c.requires)) i.1 q,
    )

pub returns : goal.returns
returns c =
    let w = c.args.text.now in
    let i = c.loop-c.invariant in
    let all = take_all c.loop-c.c-index w (omega arith) in
    let e : c.loop-c.end ≡ c.args.«at» + 1 + length (escaped w) = i.0 ∙ ap (λ (v : List ℕ). c.args.«at» + 1 + length (escaped v)) all in
    let p = subst (λ (v : List ℕ). Puts c.args.out.now c.loop-c.out c.args.«at» (34 ∷ escaped v)) all i.1 in
    let q = subst (λ (n : ℕ). Puts c.loop-c.out c.put_byte.new.out n (34 ∷ [])) e c.put_byte.ensures.1 in
    (c.put_byte.ensures.0 ∙ omega (arith, e, quoted-length w), puts-quote c.args.out.now c.loop-c.out c.put_byte.new.out w c.args.«at» (omega (arith, quoted-length w, c.requires)) p q)
