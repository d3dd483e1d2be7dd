-- All root bindings written. Assumes nothing.
use Rattle.std.proofs.Common.{◌≡◌, ℕ, ◌*◌, ap, ◌∙◌, arith}
use Rattle.std.proofs.lemmas.List.Edits.{sets}
use Rattle.words.specs.Tab.{tab}
use Rattle.pass_roots.specs.Listing.{root_at, root_list}
use Rattle.pass_roots.proofs.Rooted as rooted
use Rattle.pass_roots.proofs.Passed.put_roots.Goals as goal

pub loop-k-init : goal.loop-k-init
loop-k-init c = rooted.list-none (λ j. root_at c.args.self.file.now c.args.self.words.now j) c.args.roots.now

pub loop-k-preserved : goal.loop-k-preserved
loop-k-preserved c =
    let a = c.args in
    let k = c.loop-k.k in
    let b = c.read_root-root.result in
    let put = c.put.ensures ∙ ap (sets c.loop-k.roots (5 * k)) c.from.ensures in
    rooted.list-more (λ j. root_at a.self.file.now a.self.words.now j) k a.roots.now b c.loop-k.invariant c.read_root-root.ensures put

pub returns : goal.returns
returns c = let e : c.loop-k.k ≡ c.args.n = omega arith in c.loop-k.invariant ∙ ap (λ (m : ℕ). sets c.args.roots.now 0 (root_list (tab m (λ j. root_at c.args.self.file.now c.args.self.words.now j)))) e
