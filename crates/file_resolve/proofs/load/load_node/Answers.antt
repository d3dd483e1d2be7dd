-- A literal, a name or another node. Assumes nothing.
use Rattle.std.proofs.Common.{◌≡◌, ◌≤◌, ℕ, ap, ◌∙◌, arith}
use mathlib.Core.Logic.{inl, inr}
use Rattle.def_file.specs.Named.{kind_of}
use Rattle.def_file.specs.declared.Raw.{Raw}
use Rattle.def_file.proofs.Named.{numbered}
use Rattle.file_resolve.proofs.Loads.{loading-read, loading-long, loading-sound, literal-step, other-step}
use Rattle.file_resolve.proofs.load.load_node.Goals as goal

pub returns-in-Null : goal.returns-in-Null
returns-in-Null c =
    let kind = ap (λ (y : Raw). y.kind) (loading-read c.requires c.node_at-x.ensures) in
    let from : 22 ≤ c.node_at-x.result.kind = elim c.in-Null.is [ inl a ↦ omega (arith, rw a at c.from-kind.ensures.1) | inr (inl a) ↦ omega (arith, rw a at c.from-kind.ensures.1) | inr (inr (inl a)) ↦ omega (arith, rw a at c.from-kind.ensures.1) | inr (inr (inr a)) ↦ omega (arith, rw a at c.from-kind.ensures.1) ] in
    let to : c.node_at-x.result.kind ≤ 25 = elim c.in-Null.is [ inl a ↦ omega (arith, rw a at c.from-kind.ensures.1) | inr (inl a) ↦ omega (arith, rw a at c.from-kind.ensures.1) | inr (inr (inl a)) ↦ omega (arith, rw a at c.from-kind.ensures.1) | inr (inr (inr a)) ↦ omega (arith, rw a at c.from-kind.ensures.1) ] in
    literal-step c.requires (omega arith) (omega arith) c.add_node.ensures

pub add_node-requires-in_default : goal.add_node-requires-in_default
add_node-requires-in_default c =
    let L = c.requires in
    let same = loading-read L c.node_at-x.ensures in
    let sound = loading-sound L in
    let kind = ap (λ (y : Raw). y.kind) same in
    let form = ap (λ (y : Raw). y.form) same in
    let number = numbered c.from-kind.result c.node_at-x.result.kind c.from-kind.ensures.1 in
    (loading-long L, omega (arith, L.loaded.count, L.less, L.readable.few), (omega (arith, sound.kind, number), omega (arith, sound.form, c.from.ensures), omega (arith, c.node_at-x.type_inv, c.from-in_default.ensures)))

pub returns-in_default : goal.returns-in_default
returns-in_default c =
    let L = c.requires in
    let same = loading-read L c.node_at-x.ensures in
    let kind = ap (λ (y : Raw). y.kind) same in
    let not : (n : ℕ) → (c.from-kind.result ≡ kind_of n → ⊥) → c.node_at-x.result.kind ≡ n → ⊥ = λ n h e. h (c.from-kind.ensures.0 ∙ ap kind_of e) in
    let d = c.in_default in
    other-step L (numbered c.from-kind.result c.node_at-x.result.kind c.from-kind.ensures.1 ∙ kind) (c.from.ensures ∙ ap (λ (y : Raw). y.form) same) (c.from-in_default.ensures ∙ ap (λ (y : Raw). y.arity) same)
    (λ l. omega (arith, not 20 d.not-BindingIdent, not 21 d.not-Ident, not 22 d.not-Null, not 23 d.not-Bool, not 24 d.not-Number, not 25 d.not-Str)) c.add_node-in_default.ensures
