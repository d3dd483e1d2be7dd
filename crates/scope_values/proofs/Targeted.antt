-- A value that is an identifier, by its first node, and whether that is targeted. Assumes nothing.
use mathlib.Core.Path.{◌≡◌, refl, ap, ◌∙◌}
use mathlib.Core.Bool.{Bool, true, false, ◌&&◌}
use mathlib.Core.List.{List, [], ◌∷◌}
use mathlib.Core.Logic.{inr}
use mathlib.Core.Option.{Option, none, some}
use Prim.Native.Nat.{ℕ, ◌+◌, ◌*◌, ◌<◌}
use native.Mathlib.Omega.{arith}
use borrow.Author.Tests.{eq-eqb, ne_eqb}
use lib.Dec.{eqb}
use lib.ListN.{length, get_or}
use Rattle.def_tree.specs.Base.{pick}
use Rattle.def_tree.specs.Tree.{Tree, Core, no_core}
use Rattle.def_pass.specs.Tree.{is_ident, num}
use Rattle.def_pass.specs.Scope.{untargeted, Free}
use Rattle.words.specs.Flags.{flag_at}
use Rattle.words.specs.Layout.{yes, run, core_from, node_of}
use Rattle.words.specs.Tab.{get_d-tab}
use Rattle.words.proofs.Nodes.{run_length, run-at, tree-at}
use Rattle.words_scopes.specs.State.{Good, Named, targeted, value_of}
use Rattle.words.specs.declared.Run.{Run}
use Rattle.scope_values.specs.Steps.{Offered, run_value}
use Rattle.scope_values.proofs.Listed.{none-value, none-offered}
use Rattle.scope_values.specs.Consts.{Left}

untargeted-is : (tg : ℕ → Bool) (xs : List Core) → 0 < length xs → untargeted tg (value_of xs) ≡ pick (eqb (get_or xs 0 no_core).kind 21 && tg (get_or xs 0 no_core).num) none (value_of xs)
untargeted-is tg [] h = absurd (omega arith)
untargeted-is tg (c ∷ xs) h = refl

pub free-left : (tg : ℕ → Bool) (v : Option Tree) → Free tg (untargeted tg v)
free-left tg none = tt
free-left tg (some t) = go (is_ident t) refl (tg (num t)) refl
  where
    go : (a : Bool) → is_ident t ≡ a → (b : Bool) → tg (num t) ≡ b → Free tg (pick (a && b) none (some t))
    go true e true d = tt
    go true e false d = λ h. d
    go false e b d = λ h. absurd (let z : ◌≡◌ {A = ℕ} 0 1 = cc in omega arith)

pub targeted-at : (w : List ℕ) (x : ℕ) → x < 256 → targeted w x ≡ yes (flag_at w 16016 x)
unfolding targeted
targeted-at w x h = ap yes (get_d-tab 256 (λ i. flag_at w 16016 i) x 0 h)

-- what is left of a run: all of it, or nothing
module _ (w : List ℕ) (r : Run) (o : Offered w r) where
  pub left-empty : r.len ≡ 0 → Left w r r
  left-empty z = record { is = rw (z, none-value w r.at) refl; offered = o }

  module _ (h : 0 < r.len) where
    test : untargeted (targeted w) (run_value w r) ≡ pick (eqb (node_of w r.at).kind 21 && targeted w (node_of w r.at).num) none (run_value w r)
    test =
        let f : get_or (run w 16 r.at r.len) 0 no_core ≡ node_of w r.at = run-at w 16 r.at r.len 0 h ∙ ap (λ (n : ℕ). core_from w (16 + n * 2)) (omega arith) in
        untargeted-is (targeted w) (run w 16 r.at r.len) (omega (arith, run_length w 16 r.at r.len)) ∙ rw f refl

    pub left_other : ((node_of w r.at).kind ≡ 21 → ⊥) → Left w r r
    left_other e = record { is = rw test (rw (ne_eqb (node_of w r.at).kind 21 e) refl); offered = o }

    module _ (e : (node_of w r.at).kind ≡ 21) (l : (node_of w r.at).num < 256) where
      pub left_free : yes (flag_at w 16016 (node_of w r.at).num) ≡ false → Left w r r
      left_free z = record { is = rw test (rw (eq-eqb (node_of w r.at).kind 21 e, targeted-at w (node_of w r.at).num l, z) refl); offered = o }

      pub left_none : yes (flag_at w 16016 (node_of w r.at).num) ≡ true → Left w r (record { at = r.at; len = 0 })
      left_none z = record {
        is = rw test (rw (eq-eqb (node_of w r.at).kind 21 e, targeted-at w (node_of w r.at).num l, z, none-value w r.at) refl);
        offered = none-offered w r.at (omega (arith, o.inside));
      }

-- an identifier's number is one of 256
pub named-node : {w : List ℕ} → Good w → (i : ℕ) → i < get_or w 0 0 → (node_of w i).kind ≡ 21 → (node_of w i).num < 256
named-node {w} g i h e = let n : Named (node_of w i) = rw (tree-at w i h) at (g.names i) in n (inr e)
