-- In place, or appended. Assumes nothing.
use Rattle.std.proofs.Common.{◌≡◌, refl, sym, ap, ◌∙◌, arith, true, false, []}
use mathlib.Core.Logic.{inl, inr}
use Rattle.def_pass.specs.Scope.{redeclare}
use Rattle.words_scopes.specs.Kinds.{type_of, alias_of}
use Rattle.words_scopes.specs.State.{bind_at, stack}
use Rattle.scope_values.specs.Steps.{put_at, run_value}
use Rattle.scope_values.proofs.Listed as listed
use Rattle.scope_declare.specs.Kinds.{nodes_of, is_seen}
use Rattle.scope_declare.proofs.Declares as declares
use Rattle.scope_declare.proofs.define.put_declared.Goals as goal

pub returns-then-w-eq0 : goal.returns-then-w-eq0
returns-then-w-eq0 c =
    let w = c.args.w.now in
    let e = listed.stack-none w c.if-w-eq0.true in
    rw e (listed.becomes-self w [] c.requires.0 e, refl)

pub declare_new-requires : goal.declare_new-requires
declare_new-requires c = (c.requires.0, omega (arith, c.if-w-eq0.false), listed.none-offered c.args.w.now 0 (omega arith))

pub returns-in-Seen : goal.returns-in-Seen
returns-in-Seen c =
    let w = c.args.w.now in
    let d = c.args.d in
    let v = c.args.v in
    let r = nodes_of v c.args.len in
    let same = declares.same-declared w v c.args.len c.requires.2 {seen = true} (sym (ap is_seen c.in-Seen.is)) {r = r} refl c.args.x d.prevented d.undefined (type_of d.kind) (alias_of d.alias) (stack w) in
    let there = declares.put-there-is w c.args.x true (run_value w r) d.prevented d.undefined (type_of d.kind) (alias_of d.alias) c.in-Some.k c.in-Some.ensures.own in
    let new = redeclare d.prevented d.undefined (bind_at w c.in-Some.k).value (bind_at w c.in-Some.k) in
    rw (sym same ∙ there) (listed.done-under (listed.listed-becomes (put_at w c.in-Some.k new) refl c.redeclare_seen.ensures))

pub returns-in-NoInit : goal.returns-in-NoInit
returns-in-NoInit c =
    let w = c.args.w.now in
    let d = c.args.d in
    let v = c.args.v in
    let r = nodes_of v c.args.len in
    let unseen : is_seen v ≡ false = elim c.in-NoInit.is [ inl a ↦ ap is_seen a | inr b ↦ ap is_seen b.1 ] in
    let same = declares.same-declared w v c.args.len c.requires.2 {seen = false} (sym unseen) {r = r} refl c.args.x d.prevented d.undefined (type_of d.kind) (alias_of d.alias) (stack w) in
    let there = declares.put-there-is w c.args.x false (run_value w r) d.prevented d.undefined (type_of d.kind) (alias_of d.alias) c.in-Some.k c.in-Some.ensures.own in
    rw (sym same ∙ there) (rw c.nodes.ensures at c.redeclare_as.ensures)

pub returns-in-Seen-v : goal.returns-in-Seen-v
returns-in-Seen-v c =
    let w = c.args.w.now in
    let d = c.args.d in
    let v = c.args.v in
    let r = nodes_of v c.args.len in
    let same = declares.same-declared w v c.args.len c.requires.2 {seen = true} (sym (ap is_seen c.in-Seen-v.is)) {r = r} refl c.args.x d.prevented d.undefined (type_of d.kind) (alias_of d.alias) (stack w) in
    let absent = declares.put-absent-is w c.args.x true (run_value w r) d.prevented d.undefined (type_of d.kind) (alias_of d.alias) c.in-None.ensures.own in
    rw (sym same ∙ absent) (rw (listed.none-value w 0) at c.declare_new.ensures)

pub returns-in-NoInit-v : goal.returns-in-NoInit-v
returns-in-NoInit-v c =
    let w = c.args.w.now in
    let d = c.args.d in
    let v = c.args.v in
    let r = nodes_of v c.args.len in
    let unseen : is_seen v ≡ false = elim c.in-NoInit-v.is [ inl a ↦ ap is_seen a | inr b ↦ ap is_seen b.1 ] in
    let same = declares.same-declared w v c.args.len c.requires.2 {seen = false} (sym unseen) {r = r} refl c.args.x d.prevented d.undefined (type_of d.kind) (alias_of d.alias) (stack w) in
    let absent = declares.put-absent-is w c.args.x false (run_value w r) d.prevented d.undefined (type_of d.kind) (alias_of d.alias) c.in-None.ensures.own in
    rw (sym same ∙ absent) (rw c.nodes-in-NoInit-v.ensures at c.declare_new-in-NoInit-v.ensures)
