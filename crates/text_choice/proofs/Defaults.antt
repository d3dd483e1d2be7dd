-- Default clauses counted among trees that stand one after the other. Assumes nothing.
use Rattle.std.proofs.Common.{◌≡◌, ℕ, suc, ◌+◌, ◌-◌, ◌<◌, ◌≤◌, Bool, true, false, ◌&&◌, eqb, leb, List, refl, sym, ap, ◌∙◌, subst, arith}
use Rattle.def_tree.specs.Base.{pick}
use Rattle.def_tree.specs.Tree.{Tree, Forest, cons, count}
use Rattle.def_file.specs.declared.kind.Kind.TheVariants as Kinds
use Rattle.def_file.specs.Named.{is_kind}
use Rattle.def_text.specs.Derives.{laid, laid_all, is_default}
use Rattle.file_read.specs.declared.header.Header.{Header}
use Rattle.file_read.specs.Load.{Readable}
use Rattle.text_table.specs.Put.{default_count}
use Rattle.text_tokens.specs.Tokens.{node_of}
use Rattle.words_nodes.proofs.Loops.{open-here, open-past}
use Rattle.words_twice.specs.Twice.{Stand}
use Rattle.words_twice.proofs.Places.{forest-none, forest-cons, stand-open, open-stand}
use Rattle.text_choice.specs.Trees.{cores, tree_of, trees_of}
use Rattle.text_choice.proofs.Planted.{nodes-length, whole, tree-in, tree-node}

-- of n trees from node k on, m of the first i are default clauses, and the others stand from `next` on
pub record Counted (bs : List ℕ) (h : Header) (k n i next m : ℕ) : Type 0 where
  pub stand : Stand (cores bs h) next (n - i)
  pub sum : default_count (laid_all (trees_of bs h n k)) ≡ m + default_count (laid_all (trees_of bs h (n - i) next))
  pub few : m ≤ i

module _ (bs : List ℕ) (h : Header) where
  pub counted-none : (k n : ℕ) → Stand (cores bs h) k n → Counted bs h k n 0 k 0
  counted-none k n s = let e : n ≡ n - 0 = omega arith in record {
    stand = subst (Stand (cores bs h) k) e s;
    sum = ap (λ (j : ℕ). default_count (laid_all (trees_of bs h j k))) e ∙ omega arith;
    few = omega arith;
  }

  module _ (R : Readable bs h.nodes h.texts) {k n i next m : ℕ} (c : Counted bs h k n i next m) where
    module _ (l : i < n) where
      pub counted-here : next < h.nodes
      counted-here = omega (arith, open-here (whole bs h R) (stand-open c.stand) (omega arith), nodes-length bs h R)

      abbrev default_at : ℕ → Bool
      default_at j = is_kind Kinds.SwitchCase (node_of bs h j).kind && eqb (node_of bs h j).form 0

      default-here : is_default (laid (tree_of bs h next)) ≡ default_at next
      default-here = ap (λ (t : Tree). is_default (laid t)) (tree-node bs h R next counted-here)

      abbrev behind : ℕ
      behind = next + count (tree_of bs h next)

      abbrev rest : ℕ
      rest = default_count (laid_all (trees_of bs h (n - (i + 1)) behind))

      one-more : default_count (laid_all (trees_of bs h (n - i) next)) ≡ pick (default_at next) (suc rest) rest
      one-more =
          let e : n - i - 1 ≡ n - (i + 1) = omega arith in
          ap (λ (ts : Forest). default_count (laid_all ts)) (forest-cons (whole bs h R) (stand-open c.stand) (omega arith))
          ∙ ap (λ (j : ℕ). default_count (laid_all (cons (tree_of bs h next) (trees_of bs h j behind)))) e
          ∙ ap (λ (b : Bool). pick b (suc rest) rest) default-here

      pub counted-more : (b : Bool) (q p : ℕ) → b ≡ default_at next → q ≡ behind → p ≡ pick b (m + 1) m → Counted bs h k n (i + 1) q p
      counted-more b q p d e f = rw (e, f) (record {
        stand = let g : n - i - 1 ≡ n - (i + 1) = omega arith in subst (Stand (cores bs h) behind) g (open-stand (omega (arith, tree-in bs h R next counted-here, nodes-length bs h R)) (open-past (whole bs h R) (stand-open c.stand) (omega arith)));
        sum = c.sum ∙ ap (λ (j : ℕ). m + j) (one-more ∙ ap (λ (x : Bool). pick x (suc rest) rest) (sym d)) ∙ go b;
        few = low b;
      })
        where
          go : (b : Bool) → m + pick b (suc rest) rest ≡ pick b (m + 1) m + rest
          go true = omega arith
          go false = refl

          low : (b : Bool) → pick b (m + 1) m ≤ i + 1
          low true = omega (arith, c.few)
          low false = omega (arith, c.few)

    pub counted-all : i ≡ n → leb m 1 ≡ leb (default_count (laid_all (trees_of bs h n k))) 1
    counted-all e =
        let z : n - i ≡ 0 = omega arith in
        ap (λ (j : ℕ). leb j 1) (sym (c.sum ∙ ap (λ (j : ℕ). m + default_count (laid_all (trees_of bs h j next))) z ∙ ap (λ (ts : Forest). m + default_count (laid_all ts)) (forest-none (cores bs h) next) ∙ omega arith))
