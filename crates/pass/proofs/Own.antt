-- Lent the constant table, a call has the promise that it has without one. Assumes nothing.
use Rattle.std.proofs.Common.{ℕ, List}
use Rattle.file_kinds.specs.declared.TheConstants.{KINDS}
use Rattle.pass_answers.specs.declared.Inlined.{Inlined}
use Rattle.pass_answers.specs.declared.Roots.{Roots}
use Rattle.pass_answers.specs.declared.RootBinding.{RootBinding}
use Rattle.pass_answers.specs.Entry.{InlineIs}
use Rattle.pass_answers.specs.Roots.{RootsIs, RootIs}
use Rattle.pass_answers.specs.Under.{InlineUnderIs, RootsUnderIs, RootUnderIs}
use Rattle.pass_answers.proofs.Today.{own, inline-as, roots-as, root-as}

pub own-inline : {bs r r' w w' : List ℕ} {n : ℕ} {c : Inlined} → InlineUnderIs KINDS bs r r' w w' n c → InlineIs bs r r' w w' n c
own-inline {bs} X = inline-as (own bs) X

pub own-list : {bs r r' w w' : List ℕ} {n : ℕ} {c : Roots} → RootsUnderIs KINDS bs r r' w w' n c → RootsIs bs r r' w w' n c
own-list {bs} X = roots-as (own bs) X

pub own-find : {bs w w' : List ℕ} {n i : ℕ} {c : RootBinding} → RootUnderIs KINDS bs w w' n i c → RootIs bs w w' n i c
own-find {bs} X = root-as (own bs) X
