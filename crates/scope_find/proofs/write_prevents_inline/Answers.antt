-- Outwards: the invariant is that the answer is that of the scopes left. Assumes nothing.
use Rattle.std.proofs.Common.{rules, ◌≡◌, suc, ◌-◌, sym, ap, ◌∙◌, arith}
use Rattle.def_pass.specs.Scope.{is_block, write_prevents_inline}
use Rattle.words_scopes.specs.declared.kinds.ScopeKind.TheVariants.{Block}
use Rattle.words_scopes.specs.Kinds.{kind_of}
use Rattle.scope_find.specs.Look.{scope_at, below, place_below}
use Rattle.scope_find.proofs.Placed as places
use Rattle.scope_find.proofs.Out as out
use Rattle.scope_find.proofs.write_prevents_inline.Goals as goal

pub loop-k-init : goal.loop-k-init
loop-k-init c = (ap (write_prevents_inline c.args.x) (out.below_all c.args.w.now), places.placed-all c.args.w.now c.args.x)

pub found_in-requires : goal.found_in-requires
found_in-requires c =
    let k = c.loop-k.k in
    let q : k ≡ suc (k - 1) = omega arith in
    ((c.requires, omega arith), c.loop-k.invariant.1 ∙ ap (place_below c.args.w.now c.args.x) q)

pub returns-then-is_some : goal.returns-then-is_some
returns-then-is_some c =
    let w = c.args.w.now in
    let k = c.loop-k.k in
    sym (c.loop-k.invariant.0 ∙ ap (write_prevents_inline c.args.x) (out.turn w k c.requires (omega arith) (omega arith))
    ∙ out.writes-here c.args.x (scope_at w (k - 1)) (below w (k - 1)) (out.has-it c.found_in.result c.found_in.ensures c.is_some.ensures ∙ c.if-is_some.true))

pub returns-then-ne : goal.returns-then-ne
returns-then-ne c =
    let w = c.args.w.now in
    let k = c.loop-k.k in
    let h : c.scope_kind.result ≡ Block → ⊥ = search rules in
    sym
    (c.loop-k.invariant.0 ∙ ap (write_prevents_inline c.args.x) (out.turn w k c.requires (omega arith) (omega arith))
    ∙ out.writes-shut c.args.x (scope_at w (k - 1)) (below w (k - 1)) (out.has-it c.found_in.result c.found_in.ensures c.is_some.ensures ∙ c.if-is_some.false) (ap is_block (sym c.scope_kind.ensures) ∙ out.block_other c.scope_kind.result h))

pub loop-k-preserved : goal.loop-k-preserved
loop-k-preserved c =
    let w = c.args.w.now in
    let k = c.loop-k.k in
    let q : k ≡ suc (k - 1) = omega arith in
    let n = out.has-it c.found_in.result c.found_in.ensures c.is_some.ensures ∙ c.if-is_some.false in
    let h : c.scope_kind.result ≡ Block = search rules in (
      c.loop-k.invariant.0 ∙ ap (write_prevents_inline c.args.x) (out.turn w k c.requires (omega arith) (omega arith))
          ∙ out.writes-on c.args.x (scope_at w (k - 1)) (below w (k - 1)) n (ap is_block (sym c.scope_kind.ensures ∙ ap kind_of h)),
      c.loop-k.invariant.1 ∙ ap (place_below w c.args.x) q ∙ places.outer-none w c.requires (k - 1) (omega arith) c.args.x n,
    )

pub returns : goal.returns
returns c = sym (c.loop-k.invariant.0 ∙ ap (write_prevents_inline c.args.x) (out.below_end c.args.w.now c.loop-k.k (omega arith)))
