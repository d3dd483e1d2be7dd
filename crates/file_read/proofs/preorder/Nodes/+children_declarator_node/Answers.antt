-- The readers of a node, of its children and of a declarator meet their contracts: each opens the node's places and fills them. Assumes nothing.
use Rattle.std.proofs.Common.{sym, ap, ◌∙◌, get_or, drop, arith, refl}
use Rattle.std.proofs.lemmas.Result.{err_from_is_err_and}
use Rattle.def_file.specs.declared.Raw.{Raw}
use Rattle.def_file.specs.Script.{zero_node}
use Rattle.def_file.specs.Kinds.{is_binding_name}
use Rattle.def_kinds.specs.Pairs.{under}
use Rattle.file_read.specs.Child.{place, nodes_of}
use Rattle.file_read.specs.declared.preorder.Child.TheVariants.{Binding, Other}
use Rattle.file_read.proofs.Raws.{nodes-length, node-raw}
use Rattle.file_read.proofs.Fill.{upto-more, fitting-read, fitting-left, fitting-none, fitting-all, fitting-refused, unfit, child-at, fill-shut, fill-barred, fill_none, child-of, deep-not, deep-ok, ok-allows, declr-unnamed, declr-no_other, declr-alone, declr-init, declr-bad, rest-same}
use Rattle.file_read.proofs.preorder.Nodes.+children_declarator_node.Goals as goal
use Rattle.file_read.proofs.preorder.Nodes.+children_declarator_node.Goals.{node-then-self-at-via-then-self-at, node-then-self-at-via-else-self-at+then-left-eq0}

pub children-loop-i-init : goal.children-loop-i-init
children-loop-i-init t c = fitting-none c.requires

pub children-overflow_sub-left : goal.children-overflow_sub-left
children-overflow_sub-left t c = fitting-left c.requires

pub children-node-requires : goal.children-node-requires
children-node-requires t c =
    let low = fitting-left c.requires in
    (omega (arith, c.decreases), omega (arith, c.requires.shallow))

pub children-returns-in_err-answer : goal.children-returns-in_err-answer
children-returns-in_err-answer t c =
    let same = fitting-read c.requires c.node_at-x.ensures in
    let many = ap (λ (x : Raw). x.arity) same in
    let f = child-at c.loop-i.i same (c.row_of-row.ensures _ c.from-kind.ensures.1) c.child-class.ensures c.in_err-answer.ensures in
    let e = err_from_is_err_and c.from_residual.result c.from_residual.ensures.1 in
    rw (e.1, e.2) (fitting-refused c.requires c.loop-i.invariant (omega (arith, many, c.loop-i-test.true)) f)

pub children-loop-i-preserved : goal.children-loop-i-preserved
children-loop-i-preserved t c =
    let same = fitting-read c.requires c.node_at-x.ensures in
    let many = ap (λ (x : Raw). x.arity) same in
    let f = child-at c.loop-i.i same (c.row_of-row.ensures _ c.from-kind.ensures.1) c.child-class.ensures c.in_ok-answer.ensures in
    rw c.behind-next.ensures (upto-more c.loop-i.invariant (omega (arith, many, c.loop-i-test.true)) f)

pub children-returns-then-is_binding_name : goal.children-returns-then-is_binding_name
children-returns-then-is_binding_name t c =
    let many = ap (λ (x : Raw). x.arity) (fitting-read c.requires c.node_at-x.ensures) in
    fitting-all c.requires (Binding c.loop-i.next) c.loop-i.invariant (omega (arith, many, c.loop-i-test.false)) refl tt

pub children-returns-else-is_binding_name : goal.children-returns-else-is_binding_name
children-returns-else-is_binding_name t c =
    let same = fitting-read c.requires c.node_at-x.ensures in
    let many = ap (λ (x : Raw). x.arity) same in
    let named = ap (λ (x : Raw). is_binding_name x.kind) (sym same) ∙ sym (c.is_binding_name.ensures _ c.from-kind.ensures.1) ∙ c.if-is_binding_name.false in
    fitting-all c.requires (Other c.loop-i.next) c.loop-i.invariant (omega (arith, many, c.loop-i-test.false)) refl (ok-allows _ _ _ c.requires.fits, named)

pub declarator-overflow_sub-left : goal.declarator-overflow_sub-left
declarator-overflow_sub-left t c = fitting-left c.requires.0

pub declarator-node-requires : goal.declarator-node-requires
declarator-node-requires t c =
    let low = fitting-left c.requires.0 in
    (omega (arith, c.decreases), omega (arith, c.requires.0.shallow))

pub declarator-returns-in_err-name : goal.declarator-returns-in_err-name
declarator-returns-in_err-name t c =
    let e = err_from_is_err_and c.from_residual.result c.from_residual.ensures.1 in
    rw (e.1, e.2) (declr-unnamed c.requires.0 c.requires.1 (child-of (fitting-read c.requires.0 c.node_at-x.ensures) c.in_err-name.ensures))

pub declarator-returns-in_default : goal.declarator-returns-in_default
declarator-returns-in_default t c = absurd (declr-no_other c.requires.0 c.requires.1 (child-of (fitting-read c.requires.0 c.node_at-x.ensures) c.in_ok-name.ensures) c.in_default.is)

pub declarator-returns-then-x-eq1 : goal.declarator-returns-then-x-eq1
declarator-returns-then-x-eq1 t c =
    let same = fitting-read c.requires.0 c.node_at-x.ensures in
    let many = ap (λ (x : Raw). x.arity) same in
    declr-alone c.requires.0 c.requires.1 (child-of same c.in_ok-name.ensures) c.in-Binding.is (omega (arith, many, c.if-x-eq1.true))

pub declarator-overflow_sub-left-2 : goal.declarator-overflow_sub-left-2
declarator-overflow_sub-left-2 t c = fitting-left c.requires.0

pub declarator-node-requires-2 : goal.declarator-node-requires-2
declarator-node-requires-2 t c =
    let low = fitting-left c.requires.0 in
    (omega (arith, c.decreases), omega (arith, c.requires.0.shallow))

pub declarator-returns-in_err-init : goal.declarator-returns-in_err-init
declarator-returns-in_err-init t c =
    let same = fitting-read c.requires.0 c.node_at-x.ensures in
    let many = ap (λ (x : Raw). x.arity) same in
    let e = err_from_is_err_and c.from_residual-in_err-init.result c.from_residual-in_err-init.ensures.1 in
    rw (e.1, e.2) (declr-bad c.requires.0 c.requires.1 (child-of same c.in_ok-name.ensures) c.in-Binding.is (λ o. c.if-x-eq1.false (many ∙ o)) (child-of same c.in_err-init.ensures))

pub declarator-returns : goal.declarator-returns
declarator-returns t c =
    let same = fitting-read c.requires.0 c.node_at-x.ensures in
    let many = ap (λ (x : Raw). x.arity) same in
    declr-init c.requires.0 c.requires.1 (child-of same c.in_ok-name.ensures) c.in-Binding.is (λ o. c.if-x-eq1.false (many ∙ o)) (child-of same c.in_ok-init.ensures) c.behind.ensures

pub node-returns-then-self-at : goal.node-returns-then-self-at
node-returns-then-self-at t c =
    let a = c.args in
    let xs = nodes_of a.self.file.now a.self.count in
    let len = nodes-length a.self.count (drop 32 a.self.file.now) in
    unfit
    (λ ps qs. elim c.then-self-at.branch [
      | node-then-self-at-via-then-self-at w ↦ fill_none a.self.texts a.self.table.now xs a.at (place a.c a.left) a.parent ps qs (omega (arith, w.if-self-at.true))
      | node-then-self-at-via-else-self-at+then-left-eq0 w ↦
          fill-shut a.self.texts a.self.table.now xs a.at (place a.c a.left) a.parent ps qs (omega (arith, w.if-self-at.false)) (deep-not a.self.texts (place a.c a.left) (get_or xs a.at zero_node) w.if-left-eq0.true)
    ])

pub node-returns-then-not-allows_under : goal.node-returns-then-not-allows_under
node-returns-then-not-allows_under t c =
    let a = c.args in
    let xs = nodes_of a.self.file.now a.self.count in
    let len = nodes-length a.self.count (drop 32 a.self.file.now) in
    let same = c.node_at-x.ensures ∙ sym (node-raw a.self.count a.at a.self.file.now (omega (arith, c.if-self-at.false))) in
    unfit (λ ps qs. fill-barred a.self.texts a.self.table.now xs a.at (place a.c a.left) a.parent ps qs (omega (arith, c.if-self-at.false)) (ap (λ (x : Raw). under a.self.table.now a.parent x.kind) (sym same) ∙ sym c.allows_under.ensures ∙ c.if-not-allows_under.true))

pub node-returns-then-not-node_ok : goal.node-returns-then-not-node_ok
node-returns-then-not-node_ok t c =
    let a = c.args in
    let p = place a.c a.left in
    let xs = nodes_of a.self.file.now a.self.count in
    let len = nodes-length a.self.count (drop 32 a.self.file.now) in
    let same = c.node_at-x.ensures ∙ sym (node-raw a.self.count a.at a.self.file.now (omega (arith, c.if-self-at.false))) in
    unfit (λ ps qs. fill-shut a.self.texts a.self.table.now xs a.at p a.parent ps qs (omega (arith, c.if-self-at.false)) (deep-ok a.self.texts p (get_or xs a.at zero_node) (omega (arith, c.if-left-eq0.false)) ∙ rest-same a.self.texts a.c same ∙ sym c.node_ok.ensures ∙ c.if-not-node_ok.true))

pub node-declarator-requires : goal.node-declarator-requires
node-declarator-requires t c =
    let a = c.args in
    let p = place a.c a.left in
    let low = c.if-self-at.false in
    let same = c.node_at-x.ensures ∙ sym (node-raw a.self.count a.at a.self.file.now (omega (arith, low))) in (
      omega (arith, c.decreases),
      (
        record {
          shallow = c.requires;
          less = omega (arith, low);
          fits = deep-ok a.self.texts p (get_or (nodes_of a.self.file.now a.self.count) a.at zero_node) (omega (arith, c.if-left-eq0.false)) ∙ rest-same a.self.texts a.c same ∙ sym c.node_ok.ensures ∙ c.if-not-node_ok.false;
          stands = ap (λ (x : Raw). under a.self.table.now a.parent x.kind) (sym same) ∙ sym c.allows_under.ensures ∙ c.if-not-allows_under.false;
        },
        ap (λ (x : Raw). x.kind) (sym same) ∙ rw c.in-VarDeclarator.is at c.from.ensures.1,
      ),
    )

pub node-children-requires : goal.node-children-requires
node-children-requires t c =
    let a = c.args in
    let p = place a.c a.left in
    let low = c.if-self-at.false in
    let same = c.node_at-x.ensures ∙ sym (node-raw a.self.count a.at a.self.file.now (omega (arith, low))) in (
      omega (arith, c.decreases),
      record {
        shallow = c.requires;
        less = omega (arith, low);
        fits = deep-ok a.self.texts p (get_or (nodes_of a.self.file.now a.self.count) a.at zero_node) (omega (arith, c.if-left-eq0.false)) ∙ rest-same a.self.texts a.c same ∙ sym c.node_ok.ensures ∙ c.if-not-node_ok.false;
        stands = ap (λ (x : Raw). under a.self.table.now a.parent x.kind) (sym same) ∙ sym c.allows_under.ensures ∙ c.if-not-allows_under.false;
      },
    )
