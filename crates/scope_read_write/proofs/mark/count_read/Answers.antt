-- By whether a binding is found; then two fields of it. Assumes nothing.
use Rattle.std.proofs.Common.{◌≡◌, List, ℕ, true, false, ◌+◌, ◌*◌, suc, get_or, refl, sym, ap, ◌∙◌}
use borrow.Author.Tests.{lt-ltb, le-ltb}
use Rattle.def_pass.specs.Scope.{is_some, find_binding, one_more}
use Rattle.words_scopes.specs.State.{stack}
use Rattle.scope_find.proofs.Facts as facts
use Rattle.scope_read_write.proofs.Fields as fields
use Rattle.scope_read_write.proofs.mark.count_read.Goals as goal
use Rattle.scope_read_write.proofs.mark.count_read.Goals.{Joined-reads-lt2, then-reads-lt2, else-reads-lt2}

pub returns-in_default : goal.returns-in_default
returns-in_default c =
    let e : is_some (find_binding c.args.x (stack c.args.w.now)) ≡ false = ap is_some (facts.found_at c.args.w.now c.args.x 0 c.in_default.ensures.place) in
    rw e c.add_unresolved.ensures

module _ (c : Joined-reads-lt2) where
  abbrev w : List ℕ
  w = c.args.w.now

  abbrev k : ℕ
  k = c.in-Some.k

  found : is_some (find_binding c.args.x (stack w)) ≡ true
  found = ap is_some (facts.found_at w c.args.x (suc k) c.in-Some.ensures.place)

  counted : c.if-reads-lt2.w ≡ one_more (get_or w (4112 + k * 10 + 3) 0)
  counted = elim c.if-reads-lt2.branch [
    | then-reads-lt2 v ↦ v.w-is ∙ sym (rw (lt-ltb (get_or w (4112 + k * 10 + 3) 0) 2 v.if-reads-lt2.true) refl)
    | else-reads-lt2 v ↦ v.w-is ∙ sym (rw (le-ltb (get_or w (4112 + k * 10 + 3) 0) 2 v.if-reads-lt2.false) refl)
  ]

pub hoisted-requires : goal.hoisted-requires
hoisted-requires c =
    let j = (goal.at.hoisted-requires c).Joined-reads-lt2 in
    fields.counted c.args.w.now c.requires c.in-Some.k c.in-Some.ensures.bound c.if-reads-lt2.w (counted j)

pub returns-then-hoisted : goal.returns-then-hoisted
returns-then-hoisted c =
    let j = (goal.at.returns-then-hoisted c).Joined-reads-lt2 in
    rw (found j) (fields.read-marked c.args.w.now c.requires c.in-Some.k c.in-Some.ensures.bound c.if-reads-lt2.w (counted j) (sym c.hoisted.ensures ∙ c.if-hoisted.true) c.args.x (sym c.in-Some.ensures.place))

pub returns-else-hoisted : goal.returns-else-hoisted
returns-else-hoisted c =
    let j = (goal.at.returns-else-hoisted c).Joined-reads-lt2 in
    rw (found j) (fields.read-plain c.args.w.now c.requires c.in-Some.k c.in-Some.ensures.bound c.if-reads-lt2.w (counted j) (sym c.hoisted.ensures ∙ c.if-hoisted.false) c.args.x (sym c.in-Some.ensures.place))
