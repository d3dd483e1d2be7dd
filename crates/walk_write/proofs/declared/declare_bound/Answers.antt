-- The node turned, the binding declared, the node turned back. Assumes nothing.
use native.Mathlib.Omega.{arith}
use Rattle.words_scopes.specs.Kinds.{type_of}
use Rattle.walk_write.proofs.Declares.{turned-in, bound-needs, bound-act}
use Rattle.scope.proofs.Numbers.{tree-in}
use Rattle.walk_write.proofs.declared.declare_bound.Goals as goal

pub turn-requires-2 : goal.turn-requires-2
turn-requires-2 c = let b = bound-needs c.requires.0 c.args.i c.requires.1 c.requires.2 c.name_at-name.ensures.1 c.unflagged-plain.ensures c.turn.ensures c.declare-declared.new.w c.name_at-name.result.ident (type_of c.args.kind) c.declare-declared.result c.name_at-name.ensures.0 (rw (tree-in c.turn.new.w c.args.i (turned-in c.requires.0 c.args.i c.requires.1 c.requires.2 c.name_at-name.ensures.1 c.unflagged-plain.ensures c.turn.ensures)) at (rw c.twice.ensures at c.declare-declared.ensures)) (omega (arith, c.name_at-name.ensures.1)) in (b.0, b.1, b.2, omega arith, b.3)

pub returns : goal.returns
returns c = (bound-act c.requires.0 c.args.i c.requires.1 c.requires.2 c.name_at-name.ensures.1 c.unflagged-plain.ensures c.turn.ensures c.declare-declared.new.w c.name_at-name.result.ident (type_of c.args.kind) c.declare-declared.result c.name_at-name.ensures.0 (rw (tree-in c.turn.new.w c.args.i (turned-in c.requires.0 c.args.i c.requires.1 c.requires.2 c.name_at-name.ensures.1 c.unflagged-plain.ensures c.turn.ensures)) at (rw c.twice.ensures at c.declare-declared.ensures)) c.turn-2.ensures)
