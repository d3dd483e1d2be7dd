-- One of a binding's fields stored. Assumes nothing.
use Rattle.std.proofs.Common.{◌≡◌, ℕ, suc, ◌+◌, ◌*◌, ◌<◌, get_or, set, List, eqb, refl, ap, ◌∙◌, ⊎_elim, arith, eq-eqb, ne_eqb}
use Rattle.def_tree.specs.Base.{pick}
use Rattle.def_pass.specs.Scope.{VarInfo, change, defined}
use Rattle.words.specs.Tab.{same_or_not}
use Rattle.words.specs.Layout.{yes}
use Rattle.words_scopes.specs.Kinds.{var_type_of, alias_at}
use Rattle.words_scopes.specs.State.{value_of, bind_at, heads, binds, stack, Good, Becomes, place}
use Rattle.words_scopes.proofs.Words as words

module _ (w : List ℕ) (g : Good w) (k : ℕ) (h : k < get_or w 1 0) where
  module _ (q v : ℕ) (lo : 0 < q) (hi : q < 8) where
    abbrev w' : List ℕ
    w' = set w (4112 + k * 10 + q) v

    -- the words of the binding after the store
    abbrev now-at : ℕ → ℕ
    now-at p = pick (eqb p q) v (get_or w (4112 + k * 10 + p) 0)

    word : (p : ℕ) → p < 8 → get_or w' (4112 + k * 10 + p) 0 ≡ now-at p
    word p l = ⊎_elim
        (λ (e : p ≡ q). rw (e, eq-eqb q q refl) (words.field-here w g k h q v lo hi))
        (λ (d : p ≡ q → ⊥). rw (ne_eqb p q d) (words.field-same w g k h q v lo hi k p (omega arith) d))
        (same_or_not p q)

    -- and the binding that they are
    abbrev stored : VarInfo
    stored = record {
      id = (bind_at w k).id;
      kind = var_type_of (now-at 1);
      alias_of = alias_at (now-at 2);
      read_cnt = now-at 3;
      inline_prevented = yes (now-at 4);
      is_undefined = yes (now-at 5);
      value = (bind_at w k).value;
      this_sensitive = yes (now-at 6);
      hoisted = yes (now-at 7);
      count = (bind_at w k).count;
    }

    pub store-this : bind_at w' k ≡ stored
    store-this =
        words.bind-eq (words.field-name w g k h q v lo hi k) (ap var_type_of (word 1 (omega arith))) (ap alias_at (word 2 (omega arith))) (word 3 (omega arith))
        (ap yes (word 4 (omega arith))) (ap yes (word 5 (omega arith))) (ap value_of (words.runs-at g (words.field-runs w g k h q v lo hi) k h)) (ap yes (word 6 (omega arith))) (ap yes (word 7 (omega arith))) (words.field-count w g k h q v lo hi k)

    pub store-becomes : (f : VarInfo → VarInfo) → stored ≡ f (bind_at w k) → (x : ℕ) → place x (heads w) (binds w) ≡ suc k → Becomes w w' (change x f (stack w))
    store-becomes f e = words.changed g (words.field-kept w g k h q v lo hi) k h f (store-this ∙ e) (words.field-other w g k h q v lo hi) (words.field-good w g k h q v lo hi)

  pub defined-now : (x : ℕ) → place x (heads w) (binds w) ≡ suc k → Becomes w (set w (4112 + k * 10 + 5) 0) (change x defined (stack w))
  defined-now = store-becomes 5 0 (omega arith) (omega arith) defined refl
