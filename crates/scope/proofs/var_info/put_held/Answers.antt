use Rattle.std.specs.Prelude.{Err}
use Rattle.refusal.specs.declared.Refusal.TheVariants.{Depth}
use Rattle.words_nodes.specs.Nodes.{value_from}
use Rattle.scope.proofs.Numbers as numbers
use Rattle.scope.proofs.var_info.put_held.Goals as goal

pub returns-then-p-gt201 : goal.returns-then-p-gt201
returns-then-p-gt201 c =
    let w = c.args.w.now in
    let v = c.in-Some.v in
    let e = value_from w v.base v.run.at v.run.len in
    rw c.in-Some.is (numbers.puts-at w c.args.p c.args.i e (Err Depth) w (c.in_tree.ensures.0 c.if-not-in_tree.false) (numbers.too-deep w c.args.p c.args.i e c.if-p-gt201.true))

pub returns : goal.returns
returns c =
    let w = c.args.w.now in
    let v = c.in-Some.v in
    rw c.in-Some.is (numbers.puts-at w c.args.p c.args.i (value_from w v.base v.run.at v.run.len) c.replace_at.result _ (c.in_tree.ensures.0 c.if-not-in_tree.false) c.replace_at.ensures)
