-- `file_read::load::load` meets its contract. The invariant: the first k nodes are loaded. Assumes nothing.
use Rattle.std.proofs.Common.{◌≡◌, ℕ, refl, subst, arith}
use Rattle.std.proofs.lemmas.Result.{err_from_is_err_and}
use Rattle.file_read.specs.Load.{Loaded}
use Rattle.file_read.proofs.Cores.{none-loaded, none_kept, kept_then}
use Rattle.file_read.proofs.load.load.Goals as goal

pub loop-k-init : goal.loop-k-init
loop-k-init c = (none-loaded c.requires.1 c.wipe.ensures c.args.file.now c.args.h.nodes c.args.h.texts, record { size = refl; rest = refl })

pub returns-in_err-load_node : goal.returns-in_err-load_node
returns-in_err-load_node c =
    let s = c.in_err-load_node.ensures in
    let e = err_from_is_err_and c.from_residual.result c.from_residual.ensures.1 in
    rw (e.1, e.2) (record { kept = kept_then {w₁ = c.loop-k.words} (kept_then (none_kept c.requires.1 c.wipe.ensures) c.loop-k.invariant.1) s.kept; next = s.next })

pub returns : goal.returns
returns c =
    let l = c.loop-k.invariant in
    let all : c.loop-k.k ≡ c.args.h.nodes = omega arith in
    record { kept = kept_then (none_kept c.requires.1 c.wipe.ensures) l.1; next = subst (λ (k : ℕ). Loaded c.args.file.now c.loop-k.words c.args.h.nodes c.args.h.texts k) all l.0 }
