-- The measure of each walk, the depth that is left and where in one node's walk it stands, and what each loop has done of its list.
use Rattle.std.proofs.Common.{◌+◌, ◌*◌, Ok}
use Rattle.def_tree.specs.Combine.{many}
use Rattle.words_scopes.specs.Kinds.{kind_of}
use Rattle.words_state.specs.State.{abs}
use Rattle.laws_flat.specs.WalkF.{walks_f, visit_with_child_f, catch_param_f, in_cond_f}
use Rattle.walk_laws.specs.Did.{Did, clause_f}
use Rattle.walk.proofs.+walks.Given as goal

abbrev pub decreases-after : goal.decreases-after
decreases-after l = 8 * l.below + 6

abbrev pub decreases-arm : goal.decreases-arm
decreases-arm l = 8 * l.below + 1

abbrev pub decreases-arms : goal.decreases-arms
decreases-arms l = 8 * l.below + 2

abbrev pub decreases-arrow : goal.decreases-arrow
decreases-arrow l = 8 * l.below + 4

abbrev pub decreases-assign : goal.decreases-assign
decreases-assign l = 8 * l.below + 4

abbrev pub decreases-binds : goal.decreases-binds
decreases-binds l = 8 * l.below + 2

abbrev pub decreases-block : goal.decreases-block
decreases-block l = 8 * l.below + 4

abbrev pub decreases-body : goal.decreases-body
decreases-body l = 8 * l.below + 3

abbrev pub decreases-call : goal.decreases-call
decreases-call l = 8 * l.below + 4

abbrev pub decreases-case : goal.decreases-case
decreases-case l = 8 * l.below + 5

abbrev pub decreases-catch : goal.decreases-catch
decreases-catch l = 8 * l.below + 4

abbrev pub decreases-conds : goal.decreases-conds
decreases-conds l = 8 * l.below + 3

abbrev pub decreases-decl : goal.decreases-decl
decreases-decl l = 8 * l.below + 4

abbrev pub decreases-declr : goal.decreases-declr
decreases-declr l = 8 * l.below + 4

abbrev pub decreases-fdecl : goal.decreases-fdecl
decreases-fdecl l = 8 * l.below + 4

abbrev pub decreases-fexpr : goal.decreases-fexpr
decreases-fexpr l = 8 * l.below + 4

abbrev pub decreases-forin : goal.decreases-forin
decreases-forin l = 8 * l.below + 3

abbrev pub decreases-fors : goal.decreases-fors
decreases-fors l = 8 * l.below + 3

abbrev pub decreases-full : goal.decreases-full
decreases-full l = 8 * l.levels

abbrev pub decreases-func : goal.decreases-func
decreases-func l = 8 * l.below + 3

abbrev pub decreases-ident : goal.decreases-ident
decreases-ident l = 8 * l.below + 5

abbrev pub decreases-ifs : goal.decreases-ifs
decreases-ifs l = 8 * l.below + 3

abbrev pub decreases-init : goal.decreases-init
decreases-init l = 8 * l.below + 2

abbrev pub decreases-items : goal.decreases-items
decreases-items l = 8 * l.below + 4

abbrev pub decreases-kids : goal.decreases-kids
decreases-kids l = 8 * l.below + 3

abbrev pub decreases-logic : goal.decreases-logic
decreases-logic l = 8 * l.below + 4

abbrev pub decreases-loops : goal.decreases-loops
decreases-loops l = 8 * l.below + 2

abbrev pub decreases-many : goal.decreases-many
decreases-many l = 8 * l.below + 1

abbrev pub decreases-name : goal.decreases-name
decreases-name l = 8 * l.below + 1

abbrev pub decreases-own : goal.decreases-own
decreases-own l = 8 * l.below + 6

abbrev pub decreases-params : goal.decreases-params
decreases-params l = 8 * l.below + 2

abbrev pub decreases-parts : goal.decreases-parts
decreases-parts l = 8 * l.below + 2

abbrev pub decreases-stmts : goal.decreases-stmts
decreases-stmts l = 8 * l.below + 2

abbrev pub decreases-tail : goal.decreases-tail
decreases-tail l = 8 * l.below + 2

abbrev pub decreases-tries : goal.decreases-tries
decreases-tries l = 8 * l.below + 3

abbrev pub decreases-unary : goal.decreases-unary
decreases-unary l = 8 * l.below + 4

abbrev pub decreases-whiles : goal.decreases-whiles
decreases-whiles l = 8 * l.below + 3

abbrev pub invariant-arms-loop-k : goal.invariant-arms-loop-k
invariant-arms-loop-k l = Did l.initial.w l.w (Ok l.at) (many (visit_with_child_f (walks_f l.below) l.depth (kind_of l.kind)) l._k l.node (abs l.initial.w))

abbrev pub invariant-binds-loop-k : goal.invariant-binds-loop-k
invariant-binds-loop-k l = Did l.initial.w l.w (Ok l.at) (many (catch_param_f (walks_f l.below) l.depth) l._k l.node (abs l.initial.w))

abbrev pub invariant-conds-loop-k : goal.invariant-conds-loop-k
invariant-conds-loop-k l = Did l.initial.w l.w (Ok l.at) (many (λ r. in_cond_f ((walks_f l.below).bare l.depth r)) l._k l.node (abs l.initial.w))

abbrev pub invariant-many-loop-k : goal.invariant-many-loop-k
invariant-many-loop-k l = Did l.initial.w l.w (Ok l.at) (many ((walks_f l.below).full l.depth) l._k l.node (abs l.initial.w))

abbrev pub invariant-parts-loop-k : goal.invariant-parts-loop-k
invariant-parts-loop-k l = Did l.initial.w l.w (Ok l.at) (many (clause_f (walks_f l.below) l.depth) l._k l.node (abs l.initial.w))
