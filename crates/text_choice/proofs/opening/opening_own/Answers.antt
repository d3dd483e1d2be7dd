-- Assumes nothing.
use Rattle.std.proofs.Common.{◌≡◌, ◌∷◌, inl, inr, sym, ap, ◌∙◌, subst}
use Rattle.def_file.specs.declared.Raw.{Raw}
use Rattle.def_file.specs.declared.kind.Kind.{Kind}
use Rattle.def_file.specs.Named.{Coded, kind_of}
use Rattle.def_file.specs.Script.{text_at}
use Rattle.def_text.specs.Words.{Word}
use Rattle.text_tokens.specs.Tokens.{script_at, node_of}
use Rattle.text_tokens.proofs.Found.{number-own, string-own, text-own}
use Rattle.text_spots.specs.Spots.{next_of}
use Rattle.text_choice.specs.declared.opening.Beginning.TheVariants as Beginnings
use Rattle.text_choice.specs.Choice.{Opens}
use Rattle.text_choice.proofs.Openings.{opens-number, opens-string}
use Rattle.text_choice.proofs.opening.opening_own.Goals as goal

pub returns-in-Number : goal.returns-in-Number
returns-in-Number c =
    let s = c.args.nodes in
    let k = c.args.k in
    let n = next_of c.args.next in
    elim c.in-Number.is [
      | inl e ↦ let q : (node_of s.file.now s.header k).kind ≡ 24 = ap (λ (r : Raw). r.kind) (sym c.node.ensures) ∙ subst (λ (q : Kind). Coded q c.node.result.kind) e c.from.ensures.1 in subst (λ (w : Word). Opens Beginnings.Other (w ∷ n)) (sym (number-own s.file.now s.header k q)) (opens-number (node_of s.file.now s.header k).bits n)
      | inr e ↦ let q : (node_of s.file.now s.header k).kind ≡ 25 = ap (λ (r : Raw). r.kind) (sym c.node.ensures) ∙ subst (λ (q : Kind). Coded q c.node.result.kind) e c.from.ensures.1 in subst (λ (w : Word). Opens Beginnings.Other (w ∷ n)) (sym (string-own s.file.now s.header k q)) (opens-string (text_at (script_at s.file.now s.header) (node_of s.file.now s.header k).text) n)
    ]

pub returns-in_default : goal.returns-in_default
returns-in_default c =
    let s = c.args.nodes in
    let k = c.args.k in
    let x = node_of s.file.now s.header k in
    let number : x.kind ≡ 24 → ⊥ = λ e. c.in_default.not-Number (c.from.ensures.0 ∙ ap (λ (r : Raw). kind_of r.kind) c.node.ensures ∙ ap kind_of e) in
    let str : x.kind ≡ 25 → ⊥ = λ e. c.in_default.not-Str (c.from.ensures.0 ∙ ap (λ (r : Raw). kind_of r.kind) c.node.ensures ∙ ap kind_of e) in
    elim c.requires.1 [
      | inl u ↦ subst (λ (w : Word). Opens c.opening_text.result (w ∷ next_of c.args.next)) (c.text.ensures ∙ sym (text-own s.file.now s.header k u str number)) c.opening_text.ensures
      | inr e ↦ absurd (number e)
    ]
