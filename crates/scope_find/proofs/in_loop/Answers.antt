-- The first scope outwards that is a function or a loop. Assumes nothing.
use Rattle.std.proofs.Common.{rules, ◌≡◌, get_or, ℕ, Some, None, ap, sym, ◌∙◌, arith}
use Rattle.std.specs.Option.{option_map}
use Rattle.std.specs.Iterator.Adapters.{rev_source}
use Rattle.std.proofs.lemmas.Iterator.{YieldsList-from_map_by}
use Rattle.std.proofs.lemmas.Iterator.Search.{find_from_yields_List}
use Rattle.def_pass.specs.Scope.{in_loop}
use Rattle.words_scopes.specs.declared.kinds.ScopeKind.TheVariants.{Cond, Loop, Block, Fn}
use Rattle.words_scopes.specs.Kinds.{kind_of}
use Rattle.scope_find.proofs.Down.{downwards}
use Rattle.scope_find.proofs.Out as out
use Rattle.scope_find.proofs.in_loop.Goals as goal

pub returns : goal.returns
returns c =
    let w = c.args.w.now in
    let d : ℕ = get_or w 2 0 in
    let first = find_from_yields_List out.stops _ _ _ c.find.ensures.ran
    (YieldsList-from_map_by _ kind_of (out.kind-at w) (downwards d (ap rev_source c.map.ensures.source ∙ c.rev.ensures.source)) c.map.ensures.closure (λ x r q h. search rules))
    (λ x b q h. elim x [ Cond ↦ search rules | Loop ↦ search rules | Block ↦ search rules | Fn n ↦ search rules ]) in
    let found : c.is_some_and.result ≡ out.said (option_map kind_of c.find.result) = elim c.find.result [ None ↦ search rules | Some Cond ↦ search rules | Some Loop ↦ search rules | Some Block ↦ search rules | Some (Fn n) ↦ search rules ] in
    found ∙ ap out.said first ∙ out.loop-first w c.requires d (omega arith) ∙ sym (ap in_loop (out.below_all w))
