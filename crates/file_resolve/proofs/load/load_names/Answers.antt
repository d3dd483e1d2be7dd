-- Node by node. Assumes nothing.
use Rattle.std.proofs.Common.{◌≡◌, ℕ, refl, subst, arith}
use Rattle.file_resolve.specs.Load.{Loaded}
use Rattle.file_read.proofs.Cores.{kept_then}
use Rattle.file_resolve.proofs.Loads.{none-loaded, none-kept, names-loaded}
use Rattle.file_resolve.proofs.load.load_names.Goals as goal

pub loop-k-init : goal.loop-k-init
loop-k-init c = (none-loaded c.wipe.ensures c.wipe-2.ensures c.wipe-3.ensures c.requires.1 c.args.file.now c.args.header.nodes c.args.header.texts, record { size = refl; rest = refl })

pub load_node-requires : goal.load_node-requires
load_node-requires c = record { readable = c.requires.0.readable; arguments = c.arguments_text-arguments.ensures; less = c.loop-k-test.true; loaded = c.loop-k.invariant.0 }

pub loop-k-preserved : goal.loop-k-preserved
loop-k-preserved c = (c.load_node.ensures.loaded, kept_then c.loop-k.invariant.1 c.load_node.ensures.kept)

pub returns : goal.returns
returns c =
    let l = c.loop-k.invariant in
    let all : c.loop-k.k ≡ c.args.header.nodes = omega arith in
    names-loaded c.requires.0.readable (kept_then (none-kept c.wipe.ensures c.wipe-2.ensures c.wipe-3.ensures) l.1) (subst (λ (k : ℕ). Loaded c.args.file.now c.loop-k.words c.args.header.nodes c.args.header.texts k) all l.0) c.arguments_text-arguments.ensures c.number_of.ensures
