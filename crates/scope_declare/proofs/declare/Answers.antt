-- An init that is an identifier may name a binding of the scope. Assumes nothing.
use mathlib.Core.Path.{◌≡◌, refl, sym, ap, ◌∙◌}
use mathlib.Core.Bool.{Bool, ◌||◌}
use mathlib.Core.Logic.{inr}
use mathlib.Core.Option.{Option, some, none}
use Prim.Native.Nat.{ℕ}
use native.Mathlib.Omega.{arith}
use borrow.Author.Tests.{eqb-true}
use Rattle.scope_declare.proofs.Init as init
use Rattle.words.specs.Layout.{tree}
use Rattle.words_nodes.specs.Nodes.{tree_from}
use Rattle.def_tree.specs.Base.{pick}
use Rattle.def_tree.specs.Tree.{kind}
use Rattle.def_pass.specs.Scope.{in_loop, is_inline_prevented, should_prevent_inline_because_of_scope}
use Rattle.words_scopes.specs.State.{stack}
use Rattle.words_scopes.specs.Kinds.{type_of, alias_of}
use Rattle.scope_values.specs.Steps.{Offered}
use Rattle.scope_declare.specs.Kinds.{bar_of, nodes_of, Sized}
use Rattle.scope_declare.proofs.declare.Goals as goal
use Rattle.scope_declare.proofs.declare.Goals.{Joined-again, then-again, else-again}

prevented-is : (c : Joined-again) → c.if-again.prevented ≡ (c.args.again || (should_prevent_inline_because_of_scope c.args.x (stack c.args.w.now) || is_inline_prevented (tree_from (tree c.args.w.now) c.in-Some.i) (stack c.args.w.now)))
prevented-is c = elim c.if-again.branch [
  | then-again v ↦ v.prevented-is ∙ rw v.if-again.true refl
  | else-again v ↦ rw v.if-again.false (v.prevented-is ∙ v.prevented_at-prevented.ensures)
]

given : (c : Joined-again) → Offered c.args.w.now (nodes_of c.args.v c.tree_len-len.result) × Sized c.args.v c.tree_len-len.result
given c =
    let o = init.at-node c.args.v (sym c.in-Some.ensures) in
    (init.offered-tree c.requires.0 (init.at-lt o c.requires.1) o c.tree_len-len.result c.tree_len-len.ensures.0 (omega arith), init.at-sized o (omega arith))

pub returns-in_default : goal.returns-in_default
returns-in_default c = rw (init.bare-node c.args.v (sym c.in_default.ensures) (tree c.args.w.now)) c.declare_bare.ensures

pub declare_with-requires : goal.declare_with-requires
declare_with-requires c = let g = given (goal.at.declare_with-requires c).Joined-again in (c.requires.0.good, g.0, g.1)

pub returns-then-not-is_ident : goal.returns-then-not-is_ident
returns-then-not-is_ident c =
    let o = init.at-node c.args.v (sym c.in-Some.ensures) in
    let e = rw c.plain-d.ensures at c.declare_with.ensures in
    rw (init.value-is c.requires.0 (init.at-lt o c.requires.1) c.args.v o c.args.again c.args.x c.tree_len-len.result c.tree_len-len.ensures.0 c.args.undefined (type_of c.args.kind) c.if-again.prevented (in_loop (stack c.args.w.now)) (prevented-is (goal.at.returns-then-not-is_ident c).Joined-again) refl (sym c.if-not-is_ident.ensures)) at e

pub ident_at-y-requires : goal.ident_at-y-requires
ident_at-y-requires c =
    let i = c.in-Some.i in
    let l = init.at-lt (init.at-node c.args.v (sym c.in-Some.ensures)) c.requires.1 in
    ((c.requires.0.good, l), inr (sym (init.from-kind c.args.w.now i l) ∙ eqb-true (kind (tree_from (tree c.args.w.now) i)) 21 (sym c.if-not-is_ident.ensures)))

pub declare_with-requires-2 : goal.declare_with-requires-2
declare_with-requires-2 c = let g = given (goal.at.declare_with-requires-2 c).Joined-again in (c.requires.0.good, g.0, g.1)

pub returns : goal.returns
returns c =
    let o = init.at-node c.args.v (sym c.in-Some.ensures) in
    let l = init.at-lt o c.requires.1 in
    let y = c.ident_at-y.result in
    let bar = ap bar_of c.then_some-barred.ensures ∙ init.bar-is c.barred_for.result y ∙ ap (λ (b : Bool). pick {A = Option ℕ} b (some y) none) c.barred_for.ensures in
    let e = rw c.plain-d.ensures at c.declare_with-2.ensures in
    rw (init.ident-is c.requires.0 l c.args.v o c.args.again c.args.x c.tree_len-len.result c.tree_len-len.ensures.0 c.args.undefined (type_of c.args.kind) c.if-again.prevented (in_loop (stack c.args.w.now)) (prevented-is (goal.at.returns c).Joined-again) refl (sym c.if-not-is_ident.ensures) y (c.ident_at-y.ensures ∙ sym (init.from-num c.args.w.now c.in-Some.i l)) (alias_of c.alias_for-alias.result) c.alias_for-alias.ensures (bar_of c.then_some-barred.result) bar) at e
