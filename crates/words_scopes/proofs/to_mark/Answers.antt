-- Whether a binding gets a mark that it has not: the mark first, then the name, then the value. Assumes nothing.
use Rattle.std.proofs.Common.{◌≡◌, ℕ, ◌+◌, ◌*◌, List, None, not, get_or, sym, ap, ◌∙◌, arith, nat_eq}
use Rattle.words_scopes.proofs.Words as laws
use Rattle.words_scopes.proofs.to_mark.Goals as goal

-- word d of the record that begins at p
word_of : (w : List ℕ) (p k d : ℕ) → p ≡ 4112 + k * 10 → get_or w (4112 + k * 10 + d) 0 ≡ get_or w (p + d) 0
word_of w p k d e = ap (λ (q : ℕ). get_or w (q + d) 0) (sym e)

pub named-requires : goal.named-requires
named-requires c = (c.requires.0, c.requires.2, omega (arith, laws.room _ c.requires.0.0 _ c.requires.0.1, c.requires.2))

-- it has no value
pub returns-else-w-p-ne0 : goal.returns-else-w-p-ne0
returns-else-w-p-ne0 c =
    let w = c.args.w.now in
    let p = c.args.p in
    let k = c.args.k in
    let e = c.requires.1 in
    ap (λ (n : ℕ). not (nat_eq n 0)) c.if-w-p-ne0.false
    ∙ laws.missing-value w k c.args.x (word_of w p k 4 e ∙ c.if-w-p-eq0.true) (λ z. c.if-w-p.false (ap (λ (q : ℕ). get_or w q 0) e ∙ z ∙ sym c.from.ensures)) None (laws.named_none w k (word_of w p k 8 e ∙ c.if-w-p-ne0.false))
