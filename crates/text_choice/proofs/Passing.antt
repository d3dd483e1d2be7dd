-- Parts that a node does not begin with. Assumes nothing.
use Rattle.std.proofs.Common.{◌≡◌, ℕ, ◌≤◌, ◌<◌, Bool, List, [], ◌∷◌, refl, sym, ap, ◌∙◌, subst, eq-eqb, arith}
use borrow.Author.Tests.{ne_eqb}
use Rattle.def_tree.specs.Base.{pick}
use Rattle.def_text.specs.Words.{Word}
use Rattle.text_table.specs.declared.Style.{Style}
use Rattle.text_table.specs.declared.Style.TheVariants as Styles
use Rattle.text_table.specs.declared.Kids.{Kids}
use Rattle.text_table.specs.declared.Sort.{Sort}
use Rattle.text_table.specs.declared.Part.{Part}
use Rattle.text_table.specs.declared.Part.TheVariants as Parts
use Rattle.text_words.specs.Words.{word}
use Rattle.text_parts.specs.Parts.{comma, begin_list, begin_parts}
use Rattle.text_choice.specs.declared.opening.Beginning.TheVariants as Beginnings
use Rattle.text_choice.specs.Choice.{Opens}
use Rattle.text_choice.proofs.Openings.{opens-other, brace-word, function-word, let-word, async-word}

-- a list without children
list-none : (s : Style) (m : ℕ) (first r : List Word) → m ≤ 0 → (s ≡ Styles.One → ⊥) → begin_list s m first r ≡ r
list-none Styles.One m first r z d = absurd (d refl)
list-none Styles.Run m first r z d = let e : m ≡ 0 = omega arith in ap (λ (b : Bool). pick b r first) (eq-eqb m 0 e)
list-none Styles.Commas m first r z d = let e : m ≡ 0 = omega arith in ap (λ (b : Bool). pick b r first) (eq-eqb m 0 e)
list-none Styles.More m first r z d = let e : m ≡ 0 = omega arith in ap (λ (b : Bool). pick b r comma) (eq-eqb m 0 e)

module _ (m : ℕ) (o : Word) (n first : List Word) (ps : List Part) where
  pub kids-none : (x : Kids) → m ≤ 0 → (x.style ≡ Styles.One → ⊥) → begin_parts m o n first (Parts.Kids x ∷ ps) ≡ begin_parts m o n first ps
  kids-none x z d = list-none x.style m first (begin_parts m o n first ps) z d

  -- a comma
  pub kids-more : (x : Kids) → 0 < m → x.style ≡ Styles.More → Opens Beginnings.Other (begin_parts m o n first (Parts.Kids x ∷ ps))
  kids-more x z e =
      let q : begin_parts m o n first (Parts.Kids x ∷ ps) ≡ comma =
      ap (λ (s : Style). begin_list s m first (begin_parts m o n first ps)) e ∙ ap (λ (b : Bool). pick b (begin_parts m o n first ps) comma) (ne_eqb m 0 (λ p. omega arith))
      in subst (λ (ws : List Word). Opens Beginnings.Other ws) (sym q) (opens-other (word 84) [] (brace-word 84) (function-word 84) (let-word 84) (async-word 84))

  -- no token and no child
  pub no-token : (p : Part) → (p ≡ Parts.End → ⊥) → ((w : ℕ) → p ≡ Parts.Word w → ⊥) → ((q : Sort) → p ≡ Parts.Own q → ⊥) → ((x : Kids) → p ≡ Parts.Kids x → ⊥) → begin_parts m o n first (p ∷ ps) ≡ begin_parts m o n first ps
  no-token Parts.End a b c d = absurd (a refl)
  no-token (Parts.Word w) a b c d = absurd (b w refl)
  no-token (Parts.Own q) a b c d = absurd (c q refl)
  no-token (Parts.Kids x) a b c d = absurd (d x refl)
  no-token (Parts.Look x) a b c d = refl
  no-token (Parts.Has x) a b c d = refl
  no-token (Parts.HasNot x) a b c d = refl
  no-token Parts.OneDefault a b c d = refl
