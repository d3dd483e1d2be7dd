-- Assumes nothing.
use mathlib.Core.Path.{subst}
use Rattle.std.proofs.Common.{◌≡◌, Option, Some, None, refl, sym, ap, ◌∙◌}
use Rattle.def_text.specs.Entry.{quoted}
use Rattle.std.specs.Option.{is_some}
use Rattle.def_file.specs.declared.Raw.{Raw}
use Rattle.def_number.specs.Text.{decimal}
use Rattle.number_text.specs.declared.Decimal.{Decimal}
use Rattle.number_text.specs.Given.{decimal_given}
use Rattle.def_text.specs.Words.{Word, is_name, is_variable, is_number, is_string}
use Rattle.laws_text.proofs.Quoted.{quoted-ok}
use Rattle.text_table.specs.declared.Sort.{Sort}
use Rattle.text_words.specs.Decimals.{has_text}
use Rattle.text_words.proofs.Decimals.{number-token}
use Rattle.text_tokens.specs.Tokens.{SortFits, node_of, own_of, own_ok}
use Rattle.text_tokens.proofs.Found.{text-own, string-own, number-own}
use Rattle.text_tokens.proofs.own.own_ok.Goals as goal

pub returns-in-Name : goal.returns-in-Name
returns-in-Name c =
    let s = c.args.nodes in
    let k = c.args.k in
    let f! = subst (λ (z : Sort). SortFits (node_of s.file.now s.header k).kind z) c.in-Name.is c.requires.1 in
    c.is_name.ensures ∙ ap is_name (c.text.ensures ∙ sym (text-own s.file.now s.header k f!.0 f!.1 f!.2)) ∙ ap (own_ok (own_of s.file.now s.header k)) (sym c.in-Name.is)

pub returns-in-Variable : goal.returns-in-Variable
returns-in-Variable c =
    let s = c.args.nodes in
    let k = c.args.k in
    let f! = subst (λ (z : Sort). SortFits (node_of s.file.now s.header k).kind z) c.in-Variable.is c.requires.1 in
    c.is_variable.ensures ∙ ap is_variable (c.text-in-Variable.ensures ∙ sym (text-own s.file.now s.header k f!.0 f!.1 f!.2)) ∙ ap (own_ok (own_of s.file.now s.header k)) (sym c.in-Variable.is)

given-some : (o : Option Decimal) → is_some o ≡ has_text (decimal_given o)
given-some None = refl
given-some (Some x) = refl

pub returns-in-Number : goal.returns-in-Number
returns-in-Number c =
    let s = c.args.nodes in
    let k = c.args.k in
    let f! = subst (λ (z : Sort). SortFits (node_of s.file.now s.header k).kind z) c.in-Number.is c.requires.1 in
    c.is_some.ensures ∙ given-some c.decimal_of.result ∙ ap has_text c.decimal_of.ensures.decimal ∙ ap (λ (x : Raw). has_text (decimal x.bits)) c.node.ensures ∙ sym (number-token (node_of s.file.now s.header k).bits)
    ∙ ap is_number (sym (number-own s.file.now s.header k f!)) ∙ ap (own_ok (own_of s.file.now s.header k)) (sym c.in-Number.is)

pub returns-in-Text : goal.returns-in-Text
returns-in-Text c =
    let s = c.args.nodes in
    let k = c.args.k in
    let f! = subst (λ (z : Sort). SortFits (node_of s.file.now s.header k).kind z) c.in-Text.is c.requires.1 in
    c.is_plain.ensures ∙ sym (quoted-ok c.text-in-Text.result.now) ∙ ap (λ (w : Word). is_string (quoted w)) c.text-in-Text.ensures
    ∙ ap is_string (sym (string-own s.file.now s.header k f!)) ∙ ap (own_ok (own_of s.file.now s.header k)) (sym c.in-Text.is)
