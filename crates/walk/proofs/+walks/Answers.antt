-- The walks meet their contracts: the answers of each member. Assumes nothing.
mod After
mod Arm
mod Arms
mod Arrow
mod Assign
mod Binds
mod Block
mod Body
mod Call
mod Case
mod Catch
mod Conds
mod Decl
mod Declr
mod Fdecl
mod Fexpr
mod Forin
mod Fors
mod Full
mod Func
mod Ident
mod Ifs
mod Init
mod Items
mod Kids
mod Logic
mod Loops
mod Many
mod Name
mod Own
mod Params
mod Parts
mod Stmts
mod Tail
mod Tries
mod Unary
mod Whiles
use Rattle.walk.proofs.+walks.Answers.After as of_after
use Rattle.walk.proofs.+walks.Answers.Arm as of_arm
use Rattle.walk.proofs.+walks.Answers.Arms as of_arms
use Rattle.walk.proofs.+walks.Answers.Arrow as of_arrow
use Rattle.walk.proofs.+walks.Answers.Assign as of_assign
use Rattle.walk.proofs.+walks.Answers.Binds as of_binds
use Rattle.walk.proofs.+walks.Answers.Block as of_block
use Rattle.walk.proofs.+walks.Answers.Body as of_body
use Rattle.walk.proofs.+walks.Answers.Call as of_call
use Rattle.walk.proofs.+walks.Answers.Case as of_case
use Rattle.walk.proofs.+walks.Answers.Catch as of_catch
use Rattle.walk.proofs.+walks.Answers.Conds as of_conds
use Rattle.walk.proofs.+walks.Answers.Decl as of_decl
use Rattle.walk.proofs.+walks.Answers.Declr as of_declr
use Rattle.walk.proofs.+walks.Answers.Fdecl as of_fdecl
use Rattle.walk.proofs.+walks.Answers.Fexpr as of_fexpr
use Rattle.walk.proofs.+walks.Answers.Forin as of_forin
use Rattle.walk.proofs.+walks.Answers.Fors as of_fors
use Rattle.walk.proofs.+walks.Answers.Full as of_full
use Rattle.walk.proofs.+walks.Answers.Func as of_func
use Rattle.walk.proofs.+walks.Answers.Ident as of_ident
use Rattle.walk.proofs.+walks.Answers.Ifs as of_ifs
use Rattle.walk.proofs.+walks.Answers.Init as of_init
use Rattle.walk.proofs.+walks.Answers.Items as of_items
use Rattle.walk.proofs.+walks.Answers.Kids as of_kids
use Rattle.walk.proofs.+walks.Answers.Logic as of_logic
use Rattle.walk.proofs.+walks.Answers.Loops as of_loops
use Rattle.walk.proofs.+walks.Answers.Many as of_many
use Rattle.walk.proofs.+walks.Answers.Name as of_name
use Rattle.walk.proofs.+walks.Answers.Own as of_own
use Rattle.walk.proofs.+walks.Answers.Params as of_params
use Rattle.walk.proofs.+walks.Answers.Parts as of_parts
use Rattle.walk.proofs.+walks.Answers.Stmts as of_stmts
use Rattle.walk.proofs.+walks.Answers.Tail as of_tail
use Rattle.walk.proofs.+walks.Answers.Tries as of_tries
use Rattle.walk.proofs.+walks.Answers.Unary as of_unary
use Rattle.walk.proofs.+walks.Answers.Whiles as of_whiles
use Rattle.walk.proofs.+walks.Goals as goal

pub after-kind_at-requires : goal.after-kind_at-requires
after-kind_at-requires = of_after.after-kind_at-requires

pub after-ident-requires : goal.after-ident-requires
after-ident-requires = of_after.after-ident-requires

pub after-returns-in-Ident : goal.after-returns-in-Ident
after-returns-in-Ident = of_after.after-returns-in-Ident

pub after-logic-requires : goal.after-logic-requires
after-logic-requires = of_after.after-logic-requires

pub after-returns-in-Bin : goal.after-returns-in-Bin
after-returns-in-Bin = of_after.after-returns-in-Bin

pub after-form_at-requires : goal.after-form_at-requires
after-form_at-requires = of_after.after-form_at-requires

pub after-after_assign-requires : goal.after-after_assign-requires
after-after_assign-requires = of_after.after-after_assign-requires

pub after-returns-then-inlining : goal.after-returns-then-inlining
after-returns-then-inlining = of_after.after-returns-then-inlining

pub after-returns-else-form_at-eq-ASSIGN : goal.after-returns-else-form_at-eq-ASSIGN
after-returns-else-form_at-eq-ASSIGN = of_after.after-returns-else-form_at-eq-ASSIGN

pub after-returns-in_default : goal.after-returns-in_default
after-returns-in_default = of_after.after-returns-in_default

pub arm-returns-in_err-enter : goal.arm-returns-in_err-enter
arm-returns-in_err-enter = of_arm.arm-returns-in_err-enter

pub arm-returns-then-below-eq0 : goal.arm-returns-then-below-eq0
arm-returns-then-below-eq0 = of_arm.arm-returns-then-below-eq0

pub arm-own-requires : goal.arm-own-requires
arm-own-requires = of_arm.arm-own-requires

pub arm-returns-in_err-j : goal.arm-returns-in_err-j
arm-returns-in_err-j = of_arm.arm-returns-in_err-j

pub arm-returns : goal.arm-returns
arm-returns = of_arm.arm-returns

pub arms-loop-k-init : goal.arms-loop-k-init
arms-loop-k-init = of_arms.arms-loop-k-init

pub arms-arm-requires : goal.arms-arm-requires
arms-arm-requires = of_arms.arms-arm-requires

pub arms-returns-in_err-at : goal.arms-returns-in_err-at
arms-returns-in_err-at = of_arms.arms-returns-in_err-at

pub arms-loop-k-preserved : goal.arms-loop-k-preserved
arms-loop-k-preserved = of_arms.arms-loop-k-preserved

pub arms-returns : goal.arms-returns
arms-returns = of_arms.arms-returns

pub arrow-returns-in_err-enter : goal.arrow-returns-in_err-enter
arrow-returns-in_err-enter = of_arrow.arrow-returns-in_err-enter

pub arrow-kids-requires : goal.arrow-kids-requires
arrow-kids-requires = of_arrow.arrow-kids-requires

pub arrow-returns-in_err-j : goal.arrow-returns-in_err-j
arrow-returns-in_err-j = of_arrow.arrow-returns-in_err-j

pub arrow-returns : goal.arrow-returns
arrow-returns = of_arrow.arrow-returns

pub assign-form_at-f-requires : goal.assign-form_at-f-requires
assign-form_at-f-requires = of_assign.assign-form_at-f-requires

pub assign-to_pattern-pat-requires : goal.assign-to_pattern-pat-requires
assign-to_pattern-pat-requires = of_assign.assign-to_pattern-pat-requires

pub assign-arity_at-n-requires : goal.assign-arity_at-n-requires
assign-arity_at-n-requires = of_assign.assign-arity_at-n-requires

pub assign-overflow_add-node : goal.assign-overflow_add-node
assign-overflow_add-node = of_assign.assign-overflow_add-node

pub assign-assign_first-requires : goal.assign-assign_first-requires
assign-assign_first-requires = of_assign.assign-assign_first-requires

pub assign-returns-in_err-assign_first : goal.assign-returns-in_err-assign_first
assign-returns-in_err-assign_first = of_assign.assign-returns-in_err-assign_first

pub assign-overflow_add-depth : goal.assign-overflow_add-depth
assign-overflow_add-depth = of_assign.assign-overflow_add-depth

pub assign-overflow_add-node-then-pat : goal.assign-overflow_add-node-then-pat
assign-overflow_add-node-then-pat = of_assign.assign-overflow_add-node-then-pat

pub assign-overflow_add-node-else-pat : goal.assign-overflow_add-node-else-pat
assign-overflow_add-node-else-pat = of_assign.assign-overflow_add-node-else-pat

pub assign-overflow_add-node-2 : goal.assign-overflow_add-node-2
assign-overflow_add-node-2 = of_assign.assign-overflow_add-node-2

pub assign-many-requires : goal.assign-many-requires
assign-many-requires = of_assign.assign-many-requires

pub assign-tail-requires : goal.assign-tail-requires
assign-tail-requires = of_assign.assign-tail-requires

pub assign-returns-in_err-j : goal.assign-returns-in_err-j
assign-returns-in_err-j = of_assign.assign-returns-in_err-j

pub assign-returns-in_err-j-2 : goal.assign-returns-in_err-j-2
assign-returns-in_err-j-2 = of_assign.assign-returns-in_err-j-2

pub assign-assign_last-requires : goal.assign-assign_last-requires
assign-assign_last-requires = of_assign.assign-assign_last-requires

pub assign-returns-in_err-assign_last : goal.assign-returns-in_err-assign_last
assign-returns-in_err-assign_last = of_assign.assign-returns-in_err-assign_last

pub assign-returns : goal.assign-returns
assign-returns = of_assign.assign-returns

pub binds-loop-k-init : goal.binds-loop-k-init
binds-loop-k-init = of_binds.binds-loop-k-init

pub binds-full-requires : goal.binds-full-requires
binds-full-requires = of_binds.binds-full-requires

pub binds-returns-in_err-j : goal.binds-returns-in_err-j
binds-returns-in_err-j = of_binds.binds-returns-in_err-j

pub binds-mark_caught-requires : goal.binds-mark_caught-requires
binds-mark_caught-requires = of_binds.binds-mark_caught-requires

pub binds-loop-k-preserved : goal.binds-loop-k-preserved
binds-loop-k-preserved = of_binds.binds-loop-k-preserved

pub binds-returns : goal.binds-returns
binds-returns = of_binds.binds-returns

pub block-returns-in_err-enter : goal.block-returns-in_err-enter
block-returns-in_err-enter = of_block.block-returns-in_err-enter

pub block-body-requires : goal.block-body-requires
block-body-requires = of_block.block-body-requires

pub block-returns-in_err-j : goal.block-returns-in_err-j
block-returns-in_err-j = of_block.block-returns-in_err-j

pub block-returns : goal.block-returns
block-returns = of_block.block-returns

pub body-arity_at-n-requires : goal.body-arity_at-n-requires
body-arity_at-n-requires = of_body.body-arity_at-n-requires

pub body-overflow_add-depth : goal.body-overflow_add-depth
body-overflow_add-depth = of_body.body-overflow_add-depth

pub body-overflow_add-node : goal.body-overflow_add-node
body-overflow_add-node = of_body.body-overflow_add-node

pub body-stmts-requires : goal.body-stmts-requires
body-stmts-requires = of_body.body-stmts-requires

pub body-returns : goal.body-returns
body-returns = of_body.body-returns

pub call-arity_at-n-requires : goal.call-arity_at-n-requires
call-arity_at-n-requires = of_call.call-arity_at-n-requires

pub call-overflow_add-result : goal.call-overflow_add-result
call-overflow_add-result = of_call.call-overflow_add-result

pub call-returns-then-n-eq0 : goal.call-returns-then-n-eq0
call-returns-then-n-eq0 = of_call.call-returns-then-n-eq0

pub call-overflow_add-depth : goal.call-overflow_add-depth
call-overflow_add-depth = of_call.call-overflow_add-depth

pub call-overflow_add-node : goal.call-overflow_add-node
call-overflow_add-node = of_call.call-overflow_add-node

pub call-full-requires : goal.call-full-requires
call-full-requires = of_call.call-full-requires

pub call-returns-in_err-j : goal.call-returns-in_err-j
call-returns-in_err-j = of_call.call-returns-in_err-j

pub call-overflow_add-node-2 : goal.call-overflow_add-node-2
call-overflow_add-node-2 = of_call.call-overflow_add-node-2

pub call-mark_callee-requires : goal.call-mark_callee-requires
call-mark_callee-requires = of_call.call-mark_callee-requires

pub call-write_args-requires : goal.call-write_args-requires
call-write_args-requires = of_call.call-write_args-requires

pub call-returns-in_err-write_args : goal.call-returns-in_err-write_args
call-returns-in_err-write_args = of_call.call-returns-in_err-write_args

pub call-overflow_add-depth-2 : goal.call-overflow_add-depth-2
call-overflow_add-depth-2 = of_call.call-overflow_add-depth-2

pub call-many-requires : goal.call-many-requires
call-many-requires = of_call.call-many-requires

pub call-returns-in_err-end : goal.call-returns-in_err-end
call-returns-in_err-end = of_call.call-returns-in_err-end

pub call-returns : goal.call-returns
call-returns = of_call.call-returns

pub case-returns-in_err-enter : goal.case-returns-in_err-enter
case-returns-in_err-enter = of_case.case-returns-in_err-enter

pub case-items-requires : goal.case-items-requires
case-items-requires = of_case.case-items-requires

pub case-returns-in_err-j : goal.case-returns-in_err-j
case-returns-in_err-j = of_case.case-returns-in_err-j

pub case-returns : goal.case-returns
case-returns = of_case.case-returns

pub catch-returns-in_err-enter : goal.catch-returns-in_err-enter
catch-returns-in_err-enter = of_catch.catch-returns-in_err-enter

pub catch-arity_at-n-requires : goal.catch-arity_at-n-requires
catch-arity_at-n-requires = of_catch.catch-arity_at-n-requires

pub catch-overflow_add-result : goal.catch-overflow_add-result
catch-overflow_add-result = of_catch.catch-overflow_add-result

pub catch-returns-then-n-eq0 : goal.catch-returns-then-n-eq0
catch-returns-then-n-eq0 = of_catch.catch-returns-then-n-eq0

pub catch-overflow_add-depth : goal.catch-overflow_add-depth
catch-overflow_add-depth = of_catch.catch-overflow_add-depth

pub catch-overflow_add-node : goal.catch-overflow_add-node
catch-overflow_add-node = of_catch.catch-overflow_add-node

pub catch-binds-requires : goal.catch-binds-requires
catch-binds-requires = of_catch.catch-binds-requires

pub catch-returns-in_err-j : goal.catch-returns-in_err-j
catch-returns-in_err-j = of_catch.catch-returns-in_err-j

pub catch-overflow_add-depth-2 : goal.catch-overflow_add-depth-2
catch-overflow_add-depth-2 = of_catch.catch-overflow_add-depth-2

pub catch-full-requires : goal.catch-full-requires
catch-full-requires = of_catch.catch-full-requires

pub catch-returns-in_err-end : goal.catch-returns-in_err-end
catch-returns-in_err-end = of_catch.catch-returns-in_err-end

pub catch-returns : goal.catch-returns
catch-returns = of_catch.catch-returns

pub conds-loop-k-init : goal.conds-loop-k-init
conds-loop-k-init = of_conds.conds-loop-k-init

pub conds-deeper-requires : goal.conds-deeper-requires
conds-deeper-requires = of_conds.conds-deeper-requires

pub conds-returns-in_err-deeper : goal.conds-returns-in_err-deeper
conds-returns-in_err-deeper = of_conds.conds-returns-in_err-deeper

pub conds-arm-requires : goal.conds-arm-requires
conds-arm-requires = of_conds.conds-arm-requires

pub conds-returns-in_err-at : goal.conds-returns-in_err-at
conds-returns-in_err-at = of_conds.conds-returns-in_err-at

pub conds-loop-k-preserved : goal.conds-loop-k-preserved
conds-loop-k-preserved = of_conds.conds-loop-k-preserved

pub conds-returns : goal.conds-returns
conds-returns = of_conds.conds-returns

pub decl-form_at-f-requires : goal.decl-form_at-f-requires
decl-form_at-f-requires = of_decl.decl-form_at-f-requires

pub decl-kids-requires : goal.decl-kids-requires
decl-kids-requires = of_decl.decl-kids-requires

pub decl-returns : goal.decl-returns
decl-returns = of_decl.decl-returns

pub declr-arity_at-n-requires : goal.declr-arity_at-n-requires
declr-arity_at-n-requires = of_declr.declr-arity_at-n-requires

pub declr-overflow_add-depth : goal.declr-overflow_add-depth
declr-overflow_add-depth = of_declr.declr-overflow_add-depth

pub declr-overflow_add-node : goal.declr-overflow_add-node
declr-overflow_add-node = of_declr.declr-overflow_add-node

pub declr-tail-requires : goal.declr-tail-requires
declr-tail-requires = of_declr.declr-tail-requires

pub declr-returns-in_err-tail : goal.declr-returns-in_err-tail
declr-returns-in_err-tail = of_declr.declr-returns-in_err-tail

pub declr-overflow_add-node-2 : goal.declr-overflow_add-node-2
declr-overflow_add-node-2 = of_declr.declr-overflow_add-node-2

pub declr-nameless-requires : goal.declr-nameless-requires
declr-nameless-requires = of_declr.declr-nameless-requires

pub declr-name-requires : goal.declr-name-requires
declr-name-requires = of_declr.declr-name-requires

pub declr-returns-then-nameless : goal.declr-returns-then-nameless
declr-returns-then-nameless = of_declr.declr-returns-then-nameless

pub declr-init-requires : goal.declr-init-requires
declr-init-requires = of_declr.declr-init-requires

pub declr-returns-then-inlining : goal.declr-returns-then-inlining
declr-returns-then-inlining = of_declr.declr-returns-then-inlining

pub declr-overflow_add-node-3 : goal.declr-overflow_add-node-3
declr-overflow_add-node-3 = of_declr.declr-overflow_add-node-3

pub declr-name_at-bound-requires : goal.declr-name_at-bound-requires
declr-name_at-bound-requires = of_declr.declr-name_at-bound-requires

pub declr-overflow_add-node-4 : goal.declr-overflow_add-node-4
declr-overflow_add-node-4 = of_declr.declr-overflow_add-node-4

pub declr-over-requires : goal.declr-over-requires
declr-over-requires = of_declr.declr-over-requires

pub declr-skip-requires : goal.declr-skip-requires
declr-skip-requires = of_declr.declr-skip-requires

pub declr-returns-then-gone : goal.declr-returns-then-gone
declr-returns-then-gone = of_declr.declr-returns-then-gone

pub declr-name-requires-2 : goal.declr-name-requires-2
declr-name-requires-2 = of_declr.declr-name-requires-2

pub declr-returns : goal.declr-returns
declr-returns = of_declr.declr-returns

pub declr-returns-in_err-gone : goal.declr-returns-in_err-gone
declr-returns-in_err-gone = of_declr.declr-returns-in_err-gone

pub fdecl-declare_name-requires : goal.fdecl-declare_name-requires
fdecl-declare_name-requires = of_fdecl.fdecl-declare_name-requires

pub fdecl-returns-in_err-declare_name : goal.fdecl-returns-in_err-declare_name
fdecl-returns-in_err-declare_name = of_fdecl.fdecl-returns-in_err-declare_name

pub fdecl-arity_at-n-requires : goal.fdecl-arity_at-n-requires
fdecl-arity_at-n-requires = of_fdecl.fdecl-arity_at-n-requires

pub fdecl-overflow_add-result : goal.fdecl-overflow_add-result
fdecl-overflow_add-result = of_fdecl.fdecl-overflow_add-result

pub fdecl-returns-then-n-eq0 : goal.fdecl-returns-then-n-eq0
fdecl-returns-then-n-eq0 = of_fdecl.fdecl-returns-then-n-eq0

pub fdecl-overflow_add-node : goal.fdecl-overflow_add-node
fdecl-overflow_add-node = of_fdecl.fdecl-overflow_add-node

pub fdecl-skip-j-requires : goal.fdecl-skip-j-requires
fdecl-skip-j-requires = of_fdecl.fdecl-skip-j-requires

pub fdecl-func-requires : goal.fdecl-func-requires
fdecl-func-requires = of_fdecl.fdecl-func-requires

pub fdecl-returns : goal.fdecl-returns
fdecl-returns = of_fdecl.fdecl-returns

pub fexpr-arity_at-n-requires : goal.fexpr-arity_at-n-requires
fexpr-arity_at-n-requires = of_fexpr.fexpr-arity_at-n-requires

pub fexpr-form_at-f-requires : goal.fexpr-form_at-f-requires
fexpr-form_at-f-requires = of_fexpr.fexpr-form_at-f-requires

pub fexpr-overflow_add-node : goal.fexpr-overflow_add-node
fexpr-overflow_add-node = of_fexpr.fexpr-overflow_add-node

pub fexpr-func-requires : goal.fexpr-func-requires
fexpr-func-requires = of_fexpr.fexpr-func-requires

pub fexpr-returns-then-f-ne-NAMED : goal.fexpr-returns-then-f-ne-NAMED
fexpr-returns-then-f-ne-NAMED = of_fexpr.fexpr-returns-then-f-ne-NAMED

pub fexpr-write_name-requires : goal.fexpr-write_name-requires
fexpr-write_name-requires = of_fexpr.fexpr-write_name-requires

pub fexpr-returns-in_err-write_name : goal.fexpr-returns-in_err-write_name
fexpr-returns-in_err-write_name = of_fexpr.fexpr-returns-in_err-write_name

pub fexpr-overflow_add-result : goal.fexpr-overflow_add-result
fexpr-overflow_add-result = of_fexpr.fexpr-overflow_add-result

pub fexpr-returns-then-n-eq0 : goal.fexpr-returns-then-n-eq0
fexpr-returns-then-n-eq0 = of_fexpr.fexpr-returns-then-n-eq0

pub fexpr-overflow_add-node-2 : goal.fexpr-overflow_add-node-2
fexpr-overflow_add-node-2 = of_fexpr.fexpr-overflow_add-node-2

pub fexpr-skip-j-requires : goal.fexpr-skip-j-requires
fexpr-skip-j-requires = of_fexpr.fexpr-skip-j-requires

pub fexpr-func-requires-2 : goal.fexpr-func-requires-2
fexpr-func-requires-2 = of_fexpr.fexpr-func-requires-2

pub fexpr-returns : goal.fexpr-returns
fexpr-returns = of_fexpr.fexpr-returns

pub forin-arity_at-n-requires : goal.forin-arity_at-n-requires
forin-arity_at-n-requires = of_forin.forin-arity_at-n-requires

pub forin-overflow_add-result : goal.forin-overflow_add-result
forin-overflow_add-result = of_forin.forin-overflow_add-result

pub forin-returns-then-n-eq0 : goal.forin-returns-then-n-eq0
forin-returns-then-n-eq0 = of_forin.forin-returns-then-n-eq0

pub forin-overflow_add-depth : goal.forin-overflow_add-depth
forin-overflow_add-depth = of_forin.forin-overflow_add-depth

pub forin-overflow_add-node : goal.forin-overflow_add-node
forin-overflow_add-node = of_forin.forin-overflow_add-node

pub forin-full-requires : goal.forin-full-requires
forin-full-requires = of_forin.forin-full-requires

pub forin-returns-in_err-j : goal.forin-returns-in_err-j
forin-returns-in_err-j = of_forin.forin-returns-in_err-j

pub forin-overflow_add-node-2 : goal.forin-overflow_add-node-2
forin-overflow_add-node-2 = of_forin.forin-overflow_add-node-2

pub forin-write_tree-requires : goal.forin-write_tree-requires
forin-write_tree-requires = of_forin.forin-write_tree-requires

pub forin-returns-in_err-write_tree : goal.forin-returns-in_err-write_tree
forin-returns-in_err-write_tree = of_forin.forin-returns-in_err-write_tree

pub forin-write_but_last-requires : goal.forin-write_but_last-requires
forin-write_but_last-requires = of_forin.forin-write_but_last-requires

pub forin-returns-in_err-write_but_last : goal.forin-returns-in_err-write_but_last
forin-returns-in_err-write_but_last = of_forin.forin-returns-in_err-write_but_last

pub forin-overflow_add-depth-2 : goal.forin-overflow_add-depth-2
forin-overflow_add-depth-2 = of_forin.forin-overflow_add-depth-2

pub forin-loops-requires : goal.forin-loops-requires
forin-loops-requires = of_forin.forin-loops-requires

pub forin-returns : goal.forin-returns
forin-returns = of_forin.forin-returns

pub fors-write_kids_but_last-requires : goal.fors-write_kids_but_last-requires
fors-write_kids_but_last-requires = of_fors.fors-write_kids_but_last-requires

pub fors-returns-in_err-write_kids_but_last : goal.fors-returns-in_err-write_kids_but_last
fors-returns-in_err-write_kids_but_last = of_fors.fors-returns-in_err-write_kids_but_last

pub fors-form_at-f-requires : goal.fors-form_at-f-requires
fors-form_at-f-requires = of_fors.fors-form_at-f-requires

pub fors-arity_at-n-requires : goal.fors-arity_at-n-requires
fors-arity_at-n-requires = of_fors.fors-arity_at-n-requires

pub fors-overflow_add-depth : goal.fors-overflow_add-depth
fors-overflow_add-depth = of_fors.fors-overflow_add-depth

pub fors-overflow_add-node : goal.fors-overflow_add-node
fors-overflow_add-node = of_fors.fors-overflow_add-node

pub fors-loops-requires : goal.fors-loops-requires
fors-loops-requires = of_fors.fors-loops-requires

pub fors-returns-in_err-j : goal.fors-returns-in_err-j
fors-returns-in_err-j = of_fors.fors-returns-in_err-j

pub fors-returns-then-f-eq-EMPTY_HEAD : goal.fors-returns-then-f-eq-EMPTY_HEAD
fors-returns-then-f-eq-EMPTY_HEAD = of_fors.fors-returns-then-f-eq-EMPTY_HEAD

pub fors-returns-else-f-eq-EMPTY_HEAD : goal.fors-returns-else-f-eq-EMPTY_HEAD
fors-returns-else-f-eq-EMPTY_HEAD = of_fors.fors-returns-else-f-eq-EMPTY_HEAD

pub full-returns-then-levels-eq0 : goal.full-returns-then-levels-eq0
full-returns-then-levels-eq0 = of_full.full-returns-then-levels-eq0

pub full-bare-requires : goal.full-bare-requires
full-bare-requires = of_full.full-bare-requires

pub full-kind_at-requires : goal.full-kind_at-requires
full-kind_at-requires = of_full.full-kind_at-requires

pub full-ident-requires : goal.full-ident-requires
full-ident-requires = of_full.full-ident-requires

pub full-returns-in-Ident : goal.full-returns-in-Ident
full-returns-in-Ident = of_full.full-returns-in-Ident

pub full-overflow_add-result : goal.full-overflow_add-result
full-overflow_add-result = of_full.full-overflow_add-result

pub full-returns-in_default : goal.full-returns-in_default
full-returns-in_default = of_full.full-returns-in_default

pub full-returns-then-leaf : goal.full-returns-then-leaf
full-returns-then-leaf = of_full.full-returns-then-leaf

pub full-own-requires : goal.full-own-requires
full-own-requires = of_full.full-own-requires

pub full-returns-in_err-j : goal.full-returns-in_err-j
full-returns-in_err-j = of_full.full-returns-in_err-j

pub full-settled-requires : goal.full-settled-requires
full-settled-requires = of_full.full-settled-requires

pub full-returns-then-settled : goal.full-returns-then-settled
full-returns-then-settled = of_full.full-returns-then-settled

pub full-after-requires : goal.full-after-requires
full-after-requires = of_full.full-after-requires

pub full-returns : goal.full-returns
full-returns = of_full.full-returns

pub func-returns-in_err-enter : goal.func-returns-in_err-enter
func-returns-in_err-enter = of_func.func-returns-in_err-enter

pub func-params-requires : goal.func-params-requires
func-params-requires = of_func.func-params-requires

pub func-returns-in_err-j : goal.func-returns-in_err-j
func-returns-in_err-j = of_func.func-returns-in_err-j

pub func-returns : goal.func-returns
func-returns = of_func.func-returns

pub ident-constant-requires : goal.ident-constant-requires
ident-constant-requires = of_ident.ident-constant-requires

pub ident-inline_constant-requires : goal.ident-inline_constant-requires
ident-inline_constant-requires = of_ident.ident-inline_constant-requires

pub ident-returns-in_err-inline_constant : goal.ident-returns-in_err-inline_constant
ident-returns-in_err-inline_constant = of_ident.ident-returns-in_err-inline_constant

pub ident-full-requires : goal.ident-full-requires
ident-full-requires = of_ident.ident-full-requires

pub ident-returns-in-Some : goal.ident-returns-in-Some
ident-returns-in-Some = of_ident.ident-returns-in-Some

pub ident-ident_analysis-requires : goal.ident-ident_analysis-requires
ident-ident_analysis-requires = of_ident.ident-ident_analysis-requires

pub ident-skip-requires : goal.ident-skip-requires
ident-skip-requires = of_ident.ident-skip-requires

pub ident-returns-then-not-inlining : goal.ident-returns-then-not-inlining
ident-returns-then-not-inlining = of_ident.ident-returns-then-not-inlining

pub ident-fate-requires : goal.ident-fate-requires
ident-fate-requires = of_ident.ident-fate-requires

pub ident-skip-requires-in-Nothing : goal.ident-skip-requires-in-Nothing
ident-skip-requires-in-Nothing = of_ident.ident-skip-requires-in-Nothing

pub ident-inline_undefined-requires : goal.ident-inline_undefined-requires
ident-inline_undefined-requires = of_ident.ident-inline_undefined-requires

pub ident-inline_value-requires : goal.ident-inline_value-requires
ident-inline_value-requires = of_ident.ident-inline_value-requires

pub ident-returns-in_err-inline_value-in-Value : goal.ident-returns-in_err-inline_value-in-Value
ident-returns-in_err-inline_value-in-Value = of_ident.ident-returns-in_err-inline_value-in-Value

pub ident-logic-requires : goal.ident-logic-requires
ident-logic-requires = of_ident.ident-logic-requires

pub ident-returns-in-Nothing : goal.ident-returns-in-Nothing
ident-returns-in-Nothing = of_ident.ident-returns-in-Nothing

pub ident-returns-in-Void : goal.ident-returns-in-Void
ident-returns-in-Void = of_ident.ident-returns-in-Void

pub ident-returns-in_ok-inline_value-in-Value : goal.ident-returns-in_ok-inline_value-in-Value
ident-returns-in_ok-inline_value-in-Value = of_ident.ident-returns-in_ok-inline_value-in-Value

pub ifs-arity_at-n-requires : goal.ifs-arity_at-n-requires
ifs-arity_at-n-requires = of_ifs.ifs-arity_at-n-requires

pub ifs-overflow_add-result : goal.ifs-overflow_add-result
ifs-overflow_add-result = of_ifs.ifs-overflow_add-result

pub ifs-returns-then-n-eq0 : goal.ifs-returns-then-n-eq0
ifs-returns-then-n-eq0 = of_ifs.ifs-returns-then-n-eq0

pub ifs-overflow_add-depth : goal.ifs-overflow_add-depth
ifs-overflow_add-depth = of_ifs.ifs-overflow_add-depth

pub ifs-overflow_add-node : goal.ifs-overflow_add-node
ifs-overflow_add-node = of_ifs.ifs-overflow_add-node

pub ifs-full-requires : goal.ifs-full-requires
ifs-full-requires = of_ifs.ifs-full-requires

pub ifs-returns-in_err-j : goal.ifs-returns-in_err-j
ifs-returns-in_err-j = of_ifs.ifs-returns-in_err-j

pub ifs-overflow_add-depth-2 : goal.ifs-overflow_add-depth-2
ifs-overflow_add-depth-2 = of_ifs.ifs-overflow_add-depth-2

pub ifs-arms-requires : goal.ifs-arms-requires
ifs-arms-requires = of_ifs.ifs-arms-requires

pub ifs-returns : goal.ifs-returns
ifs-returns = of_ifs.ifs-returns

pub init-name-requires : goal.init-name-requires
init-name-requires = of_init.init-name-requires

pub init-returns-then-is_const : goal.init-returns-then-is_const
init-returns-then-is_const = of_init.init-returns-then-is_const

pub init-overflow_add-node : goal.init-overflow_add-node
init-overflow_add-node = of_init.init-overflow_add-node

pub init-name_at-bound-requires : goal.init-name_at-bound-requires
init-name_at-bound-requires = of_init.init-name_at-bound-requires

pub init-overflow_add-node-2 : goal.init-overflow_add-node-2
init-overflow_add-node-2 = of_init.init-overflow_add-node-2

pub init-skip-j-requires : goal.init-skip-j-requires
init-skip-j-requires = of_init.init-skip-j-requires

pub init-stays-requires : goal.init-stays-requires
init-stays-requires = of_init.init-stays-requires

pub init-skip-requires : goal.init-skip-requires
init-skip-requires = of_init.init-skip-requires

pub init-returns-then-stays : goal.init-returns-then-stays
init-returns-then-stays = of_init.init-returns-then-stays

pub init-declr_after-requires : goal.init-declr_after-requires
init-declr_after-requires = of_init.init-declr_after-requires

pub init-returns-then-n-eq1 : goal.init-returns-then-n-eq1
init-returns-then-n-eq1 = of_init.init-returns-then-n-eq1

pub init-overflow_add-depth : goal.init-overflow_add-depth
init-overflow_add-depth = of_init.init-overflow_add-depth

pub init-full-requires : goal.init-full-requires
init-full-requires = of_init.init-full-requires

pub init-returns-in_err-full : goal.init-returns-in_err-full
init-returns-in_err-full = of_init.init-returns-in_err-full

pub init-skip-end-requires : goal.init-skip-end-requires
init-skip-end-requires = of_init.init-skip-end-requires

pub init-declr_after-requires-2 : goal.init-declr_after-requires-2
init-declr_after-requires-2 = of_init.init-declr_after-requires-2

pub init-returns : goal.init-returns
init-returns = of_init.init-returns

pub items-form_at-f-requires : goal.items-form_at-f-requires
items-form_at-f-requires = of_items.items-form_at-f-requires

pub items-body-requires : goal.items-body-requires
items-body-requires = of_items.items-body-requires

pub items-returns-then-f-ne-TEST : goal.items-returns-then-f-ne-TEST
items-returns-then-f-ne-TEST = of_items.items-returns-then-f-ne-TEST

pub items-arity_at-n-requires : goal.items-arity_at-n-requires
items-arity_at-n-requires = of_items.items-arity_at-n-requires

pub items-overflow_add-result : goal.items-overflow_add-result
items-overflow_add-result = of_items.items-overflow_add-result

pub items-returns-then-n-eq0 : goal.items-returns-then-n-eq0
items-returns-then-n-eq0 = of_items.items-returns-then-n-eq0

pub items-overflow_add-depth : goal.items-overflow_add-depth
items-overflow_add-depth = of_items.items-overflow_add-depth

pub items-overflow_add-node : goal.items-overflow_add-node
items-overflow_add-node = of_items.items-overflow_add-node

pub items-full-requires : goal.items-full-requires
items-full-requires = of_items.items-full-requires

pub items-returns-in_err-j : goal.items-returns-in_err-j
items-returns-in_err-j = of_items.items-returns-in_err-j

pub items-overflow_add-depth-2 : goal.items-overflow_add-depth-2
items-overflow_add-depth-2 = of_items.items-overflow_add-depth-2

pub items-stmts-requires : goal.items-stmts-requires
items-stmts-requires = of_items.items-stmts-requires

pub items-returns : goal.items-returns
items-returns = of_items.items-returns

pub kids-arity_at-n-requires : goal.kids-arity_at-n-requires
kids-arity_at-n-requires = of_kids.kids-arity_at-n-requires

pub kids-overflow_add-depth : goal.kids-overflow_add-depth
kids-overflow_add-depth = of_kids.kids-overflow_add-depth

pub kids-overflow_add-node : goal.kids-overflow_add-node
kids-overflow_add-node = of_kids.kids-overflow_add-node

pub kids-many-requires : goal.kids-many-requires
kids-many-requires = of_kids.kids-many-requires

pub kids-returns : goal.kids-returns
kids-returns = of_kids.kids-returns

pub logic-kind_at-requires : goal.logic-kind_at-requires
logic-kind_at-requires = of_logic.logic-kind_at-requires

pub logic-skip-requires : goal.logic-skip-requires
logic-skip-requires = of_logic.logic-skip-requires

pub logic-returns-in_default : goal.logic-returns-in_default
logic-returns-in_default = of_logic.logic-returns-in_default

pub logic-form_at-f-requires : goal.logic-form_at-f-requires
logic-form_at-f-requires = of_logic.logic-form_at-f-requires

pub logic-skip-requires-then-f-ge-PAST_LOGICAL : goal.logic-skip-requires-then-f-ge-PAST_LOGICAL
logic-skip-requires-then-f-ge-PAST_LOGICAL = of_logic.logic-skip-requires-then-f-ge-PAST_LOGICAL

pub logic-returns-then-f-ge-PAST_LOGICAL : goal.logic-returns-then-f-ge-PAST_LOGICAL
logic-returns-then-f-ge-PAST_LOGICAL = of_logic.logic-returns-then-f-ge-PAST_LOGICAL

pub logic-arity_at-n-requires : goal.logic-arity_at-n-requires
logic-arity_at-n-requires = of_logic.logic-arity_at-n-requires

pub logic-overflow_add-result : goal.logic-overflow_add-result
logic-overflow_add-result = of_logic.logic-overflow_add-result

pub logic-returns-then-n-eq0 : goal.logic-returns-then-n-eq0
logic-returns-then-n-eq0 = of_logic.logic-returns-then-n-eq0

pub logic-overflow_add-node : goal.logic-overflow_add-node
logic-overflow_add-node = of_logic.logic-overflow_add-node

pub logic-skip-j-requires : goal.logic-skip-j-requires
logic-skip-j-requires = of_logic.logic-skip-j-requires

pub logic-overflow_add-depth : goal.logic-overflow_add-depth
logic-overflow_add-depth = of_logic.logic-overflow_add-depth

pub logic-conds-requires : goal.logic-conds-requires
logic-conds-requires = of_logic.logic-conds-requires

pub logic-returns : goal.logic-returns
logic-returns = of_logic.logic-returns

pub loops-returns-then-n-eq0 : goal.loops-returns-then-n-eq0
loops-returns-then-n-eq0 = of_loops.loops-returns-then-n-eq0

pub loops-many-requires : goal.loops-many-requires
loops-many-requires = of_loops.loops-many-requires

pub loops-returns-in_err-j : goal.loops-returns-in_err-j
loops-returns-in_err-j = of_loops.loops-returns-in_err-j

pub loops-arm-requires : goal.loops-arm-requires
loops-arm-requires = of_loops.loops-arm-requires

pub loops-returns : goal.loops-returns
loops-returns = of_loops.loops-returns

pub many-loop-k-init : goal.many-loop-k-init
many-loop-k-init = of_many.many-loop-k-init

pub many-full-requires : goal.many-full-requires
many-full-requires = of_many.many-full-requires

pub many-returns-in_err-at : goal.many-returns-in_err-at
many-returns-in_err-at = of_many.many-returns-in_err-at

pub many-loop-k-preserved : goal.many-loop-k-preserved
many-loop-k-preserved = of_many.many-loop-k-preserved

pub many-returns : goal.many-returns
many-returns = of_many.many-returns

pub name-overflow_add-result : goal.name-overflow_add-result
name-overflow_add-result = of_name.name-overflow_add-result

pub name-returns-then-n-eq0 : goal.name-returns-then-n-eq0
name-returns-then-n-eq0 = of_name.name-returns-then-n-eq0

pub name-overflow_add-depth : goal.name-overflow_add-depth
name-overflow_add-depth = of_name.name-overflow_add-depth

pub name-overflow_add-node : goal.name-overflow_add-node
name-overflow_add-node = of_name.name-overflow_add-node

pub name-full-requires : goal.name-full-requires
name-full-requires = of_name.name-full-requires

pub name-returns-in_err-full : goal.name-returns-in_err-full
name-returns-in_err-full = of_name.name-returns-in_err-full

pub name-skip-requires : goal.name-skip-requires
name-skip-requires = of_name.name-skip-requires

pub name-returns : goal.name-returns
name-returns = of_name.name-returns

pub own-kind_at-requires : goal.own-kind_at-requires
own-kind_at-requires = of_own.own-kind_at-requires

pub own-body-requires : goal.own-body-requires
own-body-requires = of_own.own-body-requires

pub own-block-requires : goal.own-block-requires
own-block-requires = of_own.own-block-requires

pub own-decl-requires : goal.own-decl-requires
own-decl-requires = of_own.own-decl-requires

pub own-declr-requires : goal.own-declr-requires
own-declr-requires = of_own.own-declr-requires

pub own-fdecl-requires : goal.own-fdecl-requires
own-fdecl-requires = of_own.own-fdecl-requires

pub own-ifs-requires : goal.own-ifs-requires
own-ifs-requires = of_own.own-ifs-requires

pub own-fors-requires : goal.own-fors-requires
own-fors-requires = of_own.own-fors-requires

pub own-tries-requires : goal.own-tries-requires
own-tries-requires = of_own.own-tries-requires

pub own-catch-requires : goal.own-catch-requires
own-catch-requires = of_own.own-catch-requires

pub own-case-requires : goal.own-case-requires
own-case-requires = of_own.own-case-requires

pub own-unary-requires : goal.own-unary-requires
own-unary-requires = of_own.own-unary-requires

pub own-assign-requires : goal.own-assign-requires
own-assign-requires = of_own.own-assign-requires

pub own-call-requires : goal.own-call-requires
own-call-requires = of_own.own-call-requires

pub own-call-requires-in-New : goal.own-call-requires-in-New
own-call-requires-in-New = of_own.own-call-requires-in-New

pub own-fexpr-requires : goal.own-fexpr-requires
own-fexpr-requires = of_own.own-fexpr-requires

pub own-arrow-requires : goal.own-arrow-requires
own-arrow-requires = of_own.own-arrow-requires

pub own-whiles-requires : goal.own-whiles-requires
own-whiles-requires = of_own.own-whiles-requires

pub own-forin-requires : goal.own-forin-requires
own-forin-requires = of_own.own-forin-requires

pub own-kids-requires : goal.own-kids-requires
own-kids-requires = of_own.own-kids-requires

pub own-returns-in-Script : goal.own-returns-in-Script
own-returns-in-Script = of_own.own-returns-in-Script

pub own-returns-in-Block : goal.own-returns-in-Block
own-returns-in-Block = of_own.own-returns-in-Block

pub own-returns-in-VarDecl : goal.own-returns-in-VarDecl
own-returns-in-VarDecl = of_own.own-returns-in-VarDecl

pub own-returns-in-VarDeclarator : goal.own-returns-in-VarDeclarator
own-returns-in-VarDeclarator = of_own.own-returns-in-VarDeclarator

pub own-returns-in-FnDecl : goal.own-returns-in-FnDecl
own-returns-in-FnDecl = of_own.own-returns-in-FnDecl

pub own-returns-in-If : goal.own-returns-in-If
own-returns-in-If = of_own.own-returns-in-If

pub own-returns-in-For : goal.own-returns-in-For
own-returns-in-For = of_own.own-returns-in-For

pub own-returns-in-Try : goal.own-returns-in-Try
own-returns-in-Try = of_own.own-returns-in-Try

pub own-returns-in-CatchClause : goal.own-returns-in-CatchClause
own-returns-in-CatchClause = of_own.own-returns-in-CatchClause

pub own-returns-in-SwitchCase : goal.own-returns-in-SwitchCase
own-returns-in-SwitchCase = of_own.own-returns-in-SwitchCase

pub own-returns-in-BindingIdent : goal.own-returns-in-BindingIdent
own-returns-in-BindingIdent = of_own.own-returns-in-BindingIdent

pub own-returns-in-Unary : goal.own-returns-in-Unary
own-returns-in-Unary = of_own.own-returns-in-Unary

pub own-returns-in-Update : goal.own-returns-in-Update
own-returns-in-Update = of_own.own-returns-in-Update

pub own-returns-in-Assign : goal.own-returns-in-Assign
own-returns-in-Assign = of_own.own-returns-in-Assign

pub own-returns-in-Call : goal.own-returns-in-Call
own-returns-in-Call = of_own.own-returns-in-Call

pub own-returns-in-New : goal.own-returns-in-New
own-returns-in-New = of_own.own-returns-in-New

pub own-returns-in-FnExpr : goal.own-returns-in-FnExpr
own-returns-in-FnExpr = of_own.own-returns-in-FnExpr

pub own-returns-in-Arrow : goal.own-returns-in-Arrow
own-returns-in-Arrow = of_own.own-returns-in-Arrow

pub own-returns-in-While : goal.own-returns-in-While
own-returns-in-While = of_own.own-returns-in-While

pub own-returns-in-ForIn : goal.own-returns-in-ForIn
own-returns-in-ForIn = of_own.own-returns-in-ForIn

pub own-returns-in_default : goal.own-returns-in_default
own-returns-in_default = of_own.own-returns-in_default

pub params-returns-then-n-eq0 : goal.params-returns-then-n-eq0
params-returns-then-n-eq0 = of_params.params-returns-then-n-eq0

pub params-many-requires : goal.params-many-requires
params-many-requires = of_params.params-many-requires

pub params-returns-in_err-j : goal.params-returns-in_err-j
params-returns-in_err-j = of_params.params-returns-in_err-j

pub params-returns-then-below-eq0 : goal.params-returns-then-below-eq0
params-returns-then-below-eq0 = of_params.params-returns-then-below-eq0

pub params-body-requires : goal.params-body-requires
params-body-requires = of_params.params-body-requires

pub params-returns : goal.params-returns
params-returns = of_params.params-returns

pub parts-loop-k-init : goal.parts-loop-k-init
parts-loop-k-init = of_parts.parts-loop-k-init

pub parts-kind_at-requires : goal.parts-kind_at-requires
parts-kind_at-requires = of_parts.parts-kind_at-requires

pub parts-skip-at-requires : goal.parts-skip-at-requires
parts-skip-at-requires = of_parts.parts-skip-at-requires

pub parts-full-requires : goal.parts-full-requires
parts-full-requires = of_parts.parts-full-requires

pub parts-returns-in_err-at-in-CatchClause : goal.parts-returns-in_err-at-in-CatchClause
parts-returns-in_err-at-in-CatchClause = of_parts.parts-returns-in_err-at-in-CatchClause

pub parts-loop-k-preserved : goal.parts-loop-k-preserved
parts-loop-k-preserved = of_parts.parts-loop-k-preserved

pub parts-returns : goal.parts-returns
parts-returns = of_parts.parts-returns

pub stmts-many-requires : goal.stmts-many-requires
stmts-many-requires = of_stmts.stmts-many-requires

pub stmts-returns-then-not-inlining : goal.stmts-returns-then-not-inlining
stmts-returns-then-not-inlining = of_stmts.stmts-returns-then-not-inlining

pub stmts-many-requires-2 : goal.stmts-many-requires-2
stmts-many-requires-2 = of_stmts.stmts-many-requires-2

pub stmts-returns-in_err-many : goal.stmts-returns-in_err-many
stmts-returns-in_err-many = of_stmts.stmts-returns-in_err-many

pub stmts-many-requires-3 : goal.stmts-many-requires-3
stmts-many-requires-3 = of_stmts.stmts-many-requires-3

pub stmts-returns : goal.stmts-returns
stmts-returns = of_stmts.stmts-returns

pub tail-returns-then-n-eq0 : goal.tail-returns-then-n-eq0
tail-returns-then-n-eq0 = of_tail.tail-returns-then-n-eq0

pub tail-skip-j-requires : goal.tail-skip-j-requires
tail-skip-j-requires = of_tail.tail-skip-j-requires

pub tail-many-requires : goal.tail-many-requires
tail-many-requires = of_tail.tail-many-requires

pub tail-returns : goal.tail-returns
tail-returns = of_tail.tail-returns

pub tries-arity_at-n-requires : goal.tries-arity_at-n-requires
tries-arity_at-n-requires = of_tries.tries-arity_at-n-requires

pub tries-overflow_add-result : goal.tries-overflow_add-result
tries-overflow_add-result = of_tries.tries-overflow_add-result

pub tries-returns-then-n-eq0 : goal.tries-returns-then-n-eq0
tries-returns-then-n-eq0 = of_tries.tries-returns-then-n-eq0

pub tries-overflow_add-node : goal.tries-overflow_add-node
tries-overflow_add-node = of_tries.tries-overflow_add-node

pub tries-write_tree-requires : goal.tries-write_tree-requires
tries-write_tree-requires = of_tries.tries-write_tree-requires

pub tries-returns-in_err-write_tree : goal.tries-returns-in_err-write_tree
tries-returns-in_err-write_tree = of_tries.tries-returns-in_err-write_tree

pub tries-overflow_add-node-2 : goal.tries-overflow_add-node-2
tries-overflow_add-node-2 = of_tries.tries-overflow_add-node-2

pub tries-skip-j-requires : goal.tries-skip-j-requires
tries-skip-j-requires = of_tries.tries-skip-j-requires

pub tries-overflow_add-depth : goal.tries-overflow_add-depth
tries-overflow_add-depth = of_tries.tries-overflow_add-depth

pub tries-parts-requires : goal.tries-parts-requires
tries-parts-requires = of_tries.tries-parts-requires

pub tries-returns : goal.tries-returns
tries-returns = of_tries.tries-returns

pub unary-form_at-f-requires : goal.unary-form_at-f-requires
unary-form_at-f-requires = of_unary.unary-form_at-f-requires

pub unary-kids-requires : goal.unary-kids-requires
unary-kids-requires = of_unary.unary-kids-requires

pub unary-returns-then-f-ne-DELETE : goal.unary-returns-then-f-ne-DELETE
unary-returns-then-f-ne-DELETE = of_unary.unary-returns-then-f-ne-DELETE

pub unary-returns : goal.unary-returns
unary-returns = of_unary.unary-returns

pub whiles-write_kids_but_last-requires : goal.whiles-write_kids_but_last-requires
whiles-write_kids_but_last-requires = of_whiles.whiles-write_kids_but_last-requires

pub whiles-returns-in_err-write_kids_but_last : goal.whiles-returns-in_err-write_kids_but_last
whiles-returns-in_err-write_kids_but_last = of_whiles.whiles-returns-in_err-write_kids_but_last

pub whiles-arity_at-n-requires : goal.whiles-arity_at-n-requires
whiles-arity_at-n-requires = of_whiles.whiles-arity_at-n-requires

pub whiles-overflow_add-depth : goal.whiles-overflow_add-depth
whiles-overflow_add-depth = of_whiles.whiles-overflow_add-depth

pub whiles-overflow_add-node : goal.whiles-overflow_add-node
whiles-overflow_add-node = of_whiles.whiles-overflow_add-node

pub whiles-loops-requires : goal.whiles-loops-requires
whiles-loops-requires = of_whiles.whiles-loops-requires

pub whiles-returns : goal.whiles-returns
whiles-returns = of_whiles.whiles-returns
