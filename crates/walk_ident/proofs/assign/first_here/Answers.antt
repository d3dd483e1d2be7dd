use Rattle.std.proofs.Common.{◌≡◌, suc, not, true, sym, refl, ap, ◌∙◌}
use mathlib.Core.Option.{Option}
use Rattle.def_tree.specs.Tree.{Tree}
use Rattle.def_pass.specs.Scope.{VarInfo, is_inline_prevented, var_inline_prevented, prevented_o}
use Rattle.words_scopes.specs.State.{stack}
use Rattle.scope_find.specs.Look.{node_tree}
use Rattle.scope_declare.proofs.Init.{node-from}
use Rattle.scope.specs.Handles.{numbered, of_binding}
use Rattle.scope.proofs.Numbers as numbers
use Rattle.walk_ident.specs.Steps.{first_test}
use Rattle.walk_ident.proofs.Assigns as assigns
use Rattle.walk_ident.proofs.assign.first_here.Goals as goal
use Rattle.walk_ident.proofs.assign.first_here.Goals.{then-is_undefined, else-is_undefined}

pub returns-then-not-var_inline_prevented : goal.returns-then-not-var_inline_prevented
returns-then-not-var_inline_prevented c =
    let w = c.args.w.now in
    let o = numbered (stack w) (suc c.in-Some.b) in
    let q = is_inline_prevented (node_tree w c.args.j) (stack w) in
    let e = ap (λ (o : Option VarInfo). first_test o q) c.in-Some.ensures.0 ∙ assigns.first-is o q in
    let p = c.is_inline_prevented.ensures ∙ ap (λ (o : Option Tree). prevented_o o (stack w)) (numbers.tree-in w c.args.j c.requires.1) ∙ ap (λ (t : Tree). is_inline_prevented t (stack w)) (sym (node-from w c.args.j)) in
    elim c.if-is_undefined.branch [
      | then-is_undefined d ↦
          let u = sym c.is_undefined.ensures ∙ d.if-is_undefined.true in
          let v : not (of_binding var_inline_prevented o) ≡ true = ap not (sym d.var_inline_prevented.ensures) ∙ sym d.value-is ∙ c.if-not-var_inline_prevented.true in
          ap not p ∙ sym (e ∙ rw (u, v) refl)
      | else-is_undefined d ↦ absurd (let y = sym d.value-is ∙ c.if-not-var_inline_prevented.true in cc)
    ]
