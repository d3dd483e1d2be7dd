-- A name, which has the number of its text. Assumes nothing.
use Rattle.std.proofs.Common.{eqb, refl, sym, ap, ◌∙◌, subst, arith}
use Rattle.def_tree.specs.Base.{to_nat}
use Rattle.def_file.specs.declared.Raw.{Raw}
use Rattle.def_file.specs.Script.{has_id}
use Rattle.def_file.proofs.Named.{numbered}
use Rattle.file_read.proofs.Cores.{flag_to_nat}
use Rattle.file_resolve.specs.Load.{Entered}
use Rattle.file_resolve.proofs.Loads.{loading-read, loading-text, loading-long, few-before, name-step}
use Rattle.file_resolve.proofs.load.load_name.Goals as goal

pub name_number-num-requires : goal.name_number-num-requires
name_number-num-requires c =
    let L = c.requires.0 in
    let small = loading-text L (ap has_id (sym (loading-read L refl)) ∙ c.requires.1) in
    let text = ap (λ (x : Raw). x.text) (loading-read L c.node_at-x.ensures) in
    (loading-long L, omega (arith, text, small, L.readable.placed.stored.few), few-before L)

pub returns : goal.returns
returns c =
    let a = c.args in
    let L = c.requires.0 in
    let has = ap has_id (sym (loading-read L refl)) ∙ c.requires.1 in
    let same = loading-read L c.node_at-x.ensures in
    name-step L has (numbered c.from.result c.node_at-x.result.kind c.from.ensures.1 ∙ ap (λ (y : Raw). y.kind) same)
    (c.from-2.ensures ∙ flag_to_nat (eqb c.node_at-x.result.text a.arguments) ∙ ap (λ (y : Raw). to_nat (eqb y.text a.arguments)) same)
    (c.from-3.ensures ∙ ap (λ (y : Raw). y.arity) same)
    (subst (λ (y : Raw). Entered a.words.now c.name_number-num.new.words y.text c.name_number-num.result) same c.name_number-num.ensures) c.add_node.ensures
