-- The script's statements, one after the other. Assumes nothing.
use Rattle.std.proofs.Common.{◌≡◌, ℕ, ◌+◌, ◌-◌, ◌<◌, set, sym, ap, ◌∙◌, subst, arith}
use Rattle.def_file.specs.declared.Raw.{Raw}
use Rattle.text_choice.specs.Trees.{tree_of}
use Rattle.words_nodes.proofs.Trees.{count-some}
use Rattle.text_tokens.specs.Tokens.{node_of}
use Rattle.text_walk.proofs.Numbers.{kept-then}
use Rattle.text_walk.proofs.Statements.{Lines, lines-start, lines-here, lines-room, lines-more, lines-none, lines-all}
use Rattle.text_walk.proofs.walk.Printer.script.Goals as goal

left : (i n : ℕ) → i < n → 0 < n - i
left i n l = omega arith

pub loop-i-init : goal.loop-i-init
loop-i-init c =
    let s = c.args.self.nodes in
    let e : c.from-count.result ≡ (node_of s.file.now s.header 0).arity = c.from-count.ensures ∙ ap (λ (x : Raw). x.arity) c.node.ensures in
    let f : c.from-count.result - 0 ≡ c.from-count.result = omega arith in
    subst (λ (n : ℕ). Lines s.file.now s.header s.readable c.args.words.now n 1 (set c.args.words.now 0 0)) (sym (f ∙ e)) (lines-start s.file.now s.header s.readable c.args.words.now c.requires)

pub print-requires : goal.print-requires
print-requires c =
    let s = c.args.self.nodes in
    let L = c.loop-i.invariant in
    let z = left c.loop-i._i c.from-count.result c.loop-i-test.true in
    (lines-here s.file.now s.header s.readable c.args.words.now L z, omega arith, omega arith, omega (arith, L.kept.size, c.requires), omega (arith, lines-room s.file.now s.header s.readable c.args.words.now L z))

pub returns-in_default : goal.returns-in_default
returns-in_default c =
    let s = c.args.self.nodes in
    let L = c.loop-i.invariant in
    let z = left c.loop-i._i c.from-count.result c.loop-i-test.true in
    (lines-none s.file.now s.header s.readable c.args.words.now L z c.in_default.ensures.0, kept-then L.kept c.in_default.ensures.1)

pub push-requires : goal.push-requires
push-requires c =
    let s = c.args.self.nodes in
    let L = c.loop-i.invariant in
    let z = left c.loop-i._i c.from-count.result c.loop-i-test.true in
    let p = c.in-Some.ensures in
    (omega (arith, p.pushed.kept.size, L.kept.size, c.requires), omega (arith, p.few, lines-room s.file.now s.header s.readable c.args.words.now L z, count-some (tree_of s.file.now s.header c.loop-i.next)))

pub loop-i-preserved : goal.loop-i-preserved
loop-i-preserved c =
    let s = c.args.self.nodes in
    let L = c.loop-i.invariant in
    let z = left c.loop-i._i c.from-count.result c.loop-i-test.true in
    let e : c.from-count.result - c.loop-i._i - 1 ≡ c.from-count.result - (c.loop-i._i + 1) = omega arith in
    subst (λ (n : ℕ). Lines s.file.now s.header s.readable c.args.words.now n c.in-Some.end c.push.new.words) e (lines-more s.file.now s.header s.readable c.args.words.now L z c.in-Some.ensures c.push.ensures)

pub returns : goal.returns
returns c = let s = c.args.self.nodes in lines-all s.file.now s.header s.readable c.args.words.now c.requires c.loop-i.invariant (omega arith)
