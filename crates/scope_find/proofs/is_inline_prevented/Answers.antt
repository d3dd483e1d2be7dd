-- By the kind. Assumes nothing.
use Rattle.std.proofs.Common.{◌≡◌, ℕ, true, false, refl, sym, ap, ◌∙◌, inl, inr}
use borrow.Author.Tests.{ne_eqb}
use Rattle.def_file.specs.Named.{kind_of}
use Rattle.def_tree.specs.Tree.{kind, num}
use Rattle.def_pass.specs.Tree.{is_member}
use Rattle.def_pass.specs.Scope.{mark_of, find_binding}
use Rattle.words_scopes.specs.State.{stack}
use Rattle.scope_find.specs.Look.{node_tree}
use Rattle.scope_find.proofs.Facts as facts
use Rattle.scope_find.proofs.is_inline_prevented.Goals as goal

pub ident_at-requires : goal.ident_at-requires
ident_at-requires c = (c.requires, inr (rw c.in-Ident.is at c.kind_at.ensures.1))

pub returns-in-Ident : goal.returns-in-Ident
returns-in-Ident c =
    let w = c.args.w.now in
    let t = facts.node-tree w c.args.i c.requires.1 in
    c.ident_prevented.ensures ∙ ap (λ (x : ℕ). mark_of (find_binding x (stack w))) (c.ident_at.ensures ∙ sym (ap num t)) ∙ sym (facts.expr-ident (node_tree w c.args.i) (stack w) (ap kind t ∙ rw c.in-Ident.is at c.kind_at.ensures.1))

pub returns-in-Member : goal.returns-in-Member
returns-in-Member c =
    let w = c.args.w.now in
    let e = ap kind (facts.node-tree w c.args.i c.requires.1) in
    let m : is_member (node_tree w c.args.i) ≡ true = elim c.in-Member.is [
      | inl a ↦ rw (e ∙ rw a at c.kind_at.ensures.1) refl
      | inr b ↦ rw (e ∙ rw b at c.kind_at.ensures.1) refl
    ] in
    c.object_prevented.ensures ∙ sym (facts.expr-member (node_tree w c.args.i) (stack w) m)

pub returns-in-Update : goal.returns-in-Update
returns-in-Update c =
    let w = c.args.w.now in
    let e = ap kind (facts.node-tree w c.args.i c.requires.1) in
    elim c.in-Update.is [
      | inl a ↦ rw (e ∙ rw a at c.kind_at.ensures.1) refl
      | inr (inl a) ↦ rw (e ∙ rw a at c.kind_at.ensures.1) refl
      | inr (inr (inl a)) ↦ rw (e ∙ rw a at c.kind_at.ensures.1) refl
      | inr (inr (inr a)) ↦ rw (e ∙ rw a at c.kind_at.ensures.1) refl
    ]

pub returns-in_default : goal.returns-in_default
returns-in_default c =
    let w = c.args.w.now in
    let t = node_tree w c.args.i in
    let e = ap kind (facts.node-tree w c.args.i c.requires.1) in
    let d = c.in_default in
    let not : (n : ℕ) → (c.kind_at.result ≡ kind_of n → ⊥) → kind t ≡ n → ⊥ = λ n h k. h (c.kind_at.ensures.0 ∙ ap kind_of (sym e ∙ k)) in
    let m : is_member t ≡ false = rw (ne_eqb (kind t) 37 (not 37 d.not-Member), ne_eqb (kind t) 38 (not 38 d.not-Computed)) refl in
    sym (facts.expr-other t (stack w) (not 21 d.not-Ident) m ∙ rw (ne_eqb (kind t) 31 (not 31 d.not-Update), ne_eqb (kind t) 35 (not 35 d.not-Call), ne_eqb (kind t) 36 (not 36 d.not-New), ne_eqb (kind t) 41 (not 41 d.not-Paren)) refl)
