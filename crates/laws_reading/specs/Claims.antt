-- What is claimed of reading, for every way to spell. Assumes nothing: these are definitions.
use Rattle.std.specs.Prelude.{◌≡◌, T, Bool, true, ◌&&◌, ◌||◌, not, List, ℕ, eqb, leb}
use Rattle.def_tree.specs.Tree.{Tree, Forest, node, nil, cons, kids}
use Rattle.def_file.specs.Kinds.{uses_text}
use Rattle.def_file.specs.Named.{is_kind}
use Rattle.def_file.specs.declared.kind.Kind.TheVariants as Kinds
use Rattle.def_text.specs.Words.{Word, between}
use Rattle.def_text.specs.Grammar.{Expression, Place}
use Rattle.def_text.specs.Derives.{erase, tokens, derives, script, Reads}

-- the kinds and forms of what stands in a script, but for `for` and `switch`
abbrev pub is_plain : ℕ → ℕ → Bool
is_plain k f = between 2 4 k || (eqb k 5 && leb f 2) || between 6 11 k || between 15 17 k || between 20 48 k

abbrev mutual
  pub plain : Tree → Bool
  plain (node k f a ts) = is_plain k f && all_plain ts

  pub all_plain : Forest → Bool
  all_plain nil = true
  all_plain (cons t ts) = plain t && all_plain ts

-- has a node of the kind a token of its own
abbrev pub has_token : ℕ → Bool
has_token k = uses_text k || is_kind Kinds.Number k

module _ (spell : ℕ → ℕ → Word) where
  -- one tree but for the numbers of its nodes, whose own tokens are one by one the same
  abbrev mutual
    pub Alike : Tree → Tree → Type 0
    Alike (node k f a ts) (node l g b us) = (k ≡ l) × (f ≡ g) × (spell k a ≡ spell l b) × (T (not (has_token k)) → a ≡ b) × AllAlike ts us

    pub AllAlike : Forest → Forest → Type 0
    AllAlike nil nil = Unit {0}
    AllAlike nil (cons u us) = ⊥
    AllAlike (cons t ts) nil = ⊥
    AllAlike (cons t ts) (cons u us) = Alike t u × AllAlike ts us

  -- an expression without these is read in one way: derivations of it with the same tokens are one, kind 41 included
  abbrev pub OneExpression : Type 0
  OneExpression = (u v : Tree) (g h : Place) → g.symbol ≡ Expression → h.symbol ≡ Expression → T (plain u) → T (plain v)
      → T (derives spell u g) → T (derives spell v h) → tokens spell u ≡ tokens spell v → Alike u v

  -- and so is a script
  abbrev pub OneScript : Type 0
  OneScript = (u v : Tree) → T (all_plain (kids u)) → T (all_plain (kids v)) → T (derives spell u script) → T (derives spell v script)
      → tokens spell u ≡ tokens spell v → Alike u v

  -- a text reads as at most one tree, but for numbers that are spelt alike
  abbrev pub OneReading : Type 0
  OneReading = (ws : List Word) (s t : Tree) → T (all_plain (kids (erase s))) → T (all_plain (kids (erase t))) → Reads spell ws s → Reads spell ws t → Alike (erase s) (erase t)

  module _ (p : ℕ → ℕ → Bool) where
    -- the numbers of these kinds that have p are told by their tokens
    abbrev pub Distinct : Type 0
    Distinct = (k a b : ℕ) → T (has_token k) → T (p k a) → T (p k b) → spell k a ≡ spell k b → a ≡ b

    -- and these are all in the tree
    abbrev mutual
      pub occur : Tree → Bool
      occur (node k f a ts) = (not (has_token k) || p k a) && all_occur ts

      pub all_occur : Forest → Bool
      all_occur nil = true
      all_occur (cons t ts) = occur t && all_occur ts

    abbrev pub SameReading : Type 0
    SameReading = Distinct → (ws : List Word) (s t : Tree) → T (all_plain (kids (erase s))) → T (all_plain (kids (erase t))) → T (occur (erase s)) → T (occur (erase t))
        → Reads spell ws s → Reads spell ws t → erase s ≡ erase t
