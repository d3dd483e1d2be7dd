-- Assumes nothing.
use Rattle.std.proofs.Common.{◌+◌, ◌-◌, List, ◌∷◌, length, get_or, drop, inl, inr, sym, ap, ◌∙◌, subst}
use Rattle.std.proofs.lemmas.List.{at_drop_more}
use Rattle.def_text.specs.Words.{Word}
use Rattle.text_table.specs.declared.Part.{Part}
use Rattle.text_table.specs.declared.Part.TheVariants as Parts
use Rattle.text_tokens.specs.Tokens.{node_of, own_of}
use Rattle.text_spots.specs.Spots.{next_of}
use Rattle.text_parts.specs.Parts.{begin_parts}
use Rattle.text_parts.proofs.Uses.{fits-drop, fits-take}
use Rattle.text_choice.specs.declared.opening.Beginning.TheVariants as Beginnings
use Rattle.text_choice.specs.Choice.{first_tokens, Opens}
use Rattle.text_choice.proofs.Passing.{kids-none, kids-more, no-token}
use Rattle.text_choice.proofs.opening.opening_parts.Goals as goal
use Rattle.text_choice.proofs.opening.opening_parts.Goals.{in-Kids+in-Run+else-m-gt0, in-Kids+in-More+else-m-gt0-2, in_default}

pub follow-requires : goal.follow-requires
follow-requires c =
    let kind = (node_of c.args.nodes.file.now c.args.nodes.header c.args.k).kind in
    (kind, fits-take kind _ (fits-drop kind c.args.parts.now c.requires.1 (c.loop-j.j + 1)) (length c.args.parts.now - (c.loop-j.j + 1)))

pub follow-requires-in-Own : goal.follow-requires-in-Own
follow-requires-in-Own c =
    let kind = (node_of c.args.nodes.file.now c.args.nodes.header c.args.k).kind in
    (kind, fits-take kind _ (fits-drop kind c.args.parts.now c.requires.1 (c.loop-j.j + 1)) (length c.args.parts.now - (c.loop-j.j + 1)))

pub returns-then-m-gt0-2 : goal.returns-then-m-gt0-2
returns-then-m-gt0-2 c =
    let a = c.args in
    let begin : List Part → List Word = begin_parts a.m (own_of a.nodes.file.now a.nodes.header a.k) (next_of a.next) (first_tokens a.nodes.file.now a.nodes.header a.k) in
    let ps = drop (c.loop-j.j + 1) a.parts.now in
    subst (λ (ws : List Word). Opens Beginnings.Other ws)
    (sym (c.loop-j.invariant ∙ at_drop_more begin a.parts.now c.loop-j.j Parts.End c.loop-j-test.true ∙ ap (λ (p : Part). begin (p ∷ ps)) c.in-Kids.is))
    (kids-more a.m (own_of a.nodes.file.now a.nodes.header a.k) (next_of a.next) (first_tokens a.nodes.file.now a.nodes.header a.k) ps c.in-Kids.kids c.if-m-gt0-2.true c.in-More.is)

pub loop-j-preserved : goal.loop-j-preserved
loop-j-preserved c =
    let a = c.args in
    let o = own_of a.nodes.file.now a.nodes.header a.k in
    let n = next_of a.next in
    let first = first_tokens a.nodes.file.now a.nodes.header a.k in
    let begin : List Part → List Word = begin_parts a.m o n first in
    let ps = drop (c.loop-j.j + 1) a.parts.now in
    c.loop-j.invariant ∙ at_drop_more begin a.parts.now c.loop-j.j Parts.End c.loop-j-test.true
    ∙ (elim c.match-part.branch [
      | in-Kids+in-Run+else-m-gt0 w ↦ ap (λ (p : Part). begin (p ∷ ps)) w.in-Kids.is ∙ kids-none a.m o n first ps w.in-Kids.kids w.if-m-gt0.false (λ e. elim w.in-Run.is [ inl x ↦ cc | inr x ↦ cc ])
      | in-Kids+in-More+else-m-gt0-2 w ↦ ap (λ (p : Part). begin (p ∷ ps)) w.in-Kids.is ∙ kids-none a.m o n first ps w.in-Kids.kids w.if-m-gt0-2.false (λ e. let x = w.in-More.is in cc)
      | in_default w ↦ no-token a.m o n first ps (get_or a.parts.now c.loop-j.j Parts.End) w.in_default.not-End w.in_default.not-Word w.in_default.not-Own w.in_default.not-Kids
    ])
