-- has_constant: one scan of the constants of all scopes. Assumes nothing.
use mathlib.Core.Path.{◌≡◌, refl, sym, ap, ◌∙◌}
use mathlib.Core.List.{List, [], ◌∷◌}
use mathlib.Core.Bool.{Bool, true, false, ◌||◌}
use mathlib.Core.Option.{Option}
use Rattle.std.proofs.Common.{Option as Answer, Some, None, is_some as holds}
use Prim.Native.Nat.{ℕ, zero, suc, ◌+◌, ◌*◌, ◌<◌}
use native.Mathlib.Omega.{arith}
use lib.ListN.{length, get_or, take, drop, length-take}
use lib.Dec.{eqb}
use Rattle.def_tree.specs.Tree.{Tree}
use Rattle.def_pass.specs.Scope.{VarInfo, is_some, const_in, has_constant}
use Rattle.words.specs.Tab.{tab, length-tab, get_d-tab}
use Rattle.words.specs.Place.{FirstAt}
use Rattle.words_scopes.specs.State.{Head, split, heads, flags, binds, consts, stack, const_at, CFits, Good}
use Rattle.words_scopes.proofs.Split.{tested}
use Rattle.scope_find.proofs.Out.{no_const, const-is, const-not, const-yes, const-no}

has-cut : (x a : ℕ) (cs : List (ℕ × Option Tree)) → (is_some (const_in x (drop a cs)) || is_some (const_in x (take a cs))) ≡ is_some (const_in x cs)
has-cut x zero cs = none_right (is_some (const_in x cs))
  where
    none_right : (b : Bool) → (b || false) ≡ b
    none_right true = refl
    none_right false = refl
has-cut x (suc a) [] = refl
has-cut x (suc a) (c ∷ cs) = tested (eqb c.0 x)
    (λ e. rw (const-is x c (take a cs) e, const-is x c cs e) (all_right (is_some (const_in x (drop a cs)))))
    (λ e. rw (const-not x c (take a cs) e, const-not x c cs e) (has-cut x a cs))
  where
    all_right : (b : Bool) → (b || true) ≡ true
    all_right true = refl
    all_right false = refl

has_split : (x : ℕ) (hs : List Head) (fl : List ℕ) (bs : List VarInfo) (cs : List (ℕ × Option Tree)) → CFits hs (length cs) → has_constant x (split hs fl bs cs) ≡ is_some (const_in x cs)
has_split x [] fl bs [] f = refl
has_split x [] fl bs (c ∷ cs) f = absurd (omega arith)
has_split x (h ∷ hs) fl bs cs f =
    let a : ℕ = h.cstart in
    let l : length (take a cs) ≡ a = omega (arith, length-take a cs, f.0) in
    ap (λ (b : Bool). is_some (const_in x (drop a cs)) || b) (has_split x hs (take h.start fl) (take h.start bs) (take a cs) (rw l f.1)) ∙ has-cut x a cs

module _ (w : List ℕ) (g : Good w) (x : ℕ) where
  abbrev n : ℕ
  n = get_or w 3 0

  abbrev cs : List (ℕ × Option Tree)
  cs = tab n (λ j. const_at w j)

  at : (j : ℕ) → j < n → (get_or cs j no_const).0 ≡ get_or w (6672 + j * 2) 0
  at j l = ap (λ (c : ℕ × Option Tree). c.0) (get_d-tab n (λ k. const_at w k) j no_const l)

  size : length cs ≡ n
  size = length-tab n (λ j. const_at w j)

  has_all : has_constant x (stack w) ≡ is_some (const_in x cs)
  unfolding stack consts
  has_all = has_split x (heads w) (flags w) (binds w) cs (rw length-tab g.cfits)

  pub has-first : (r : Answer ℕ) → FirstAt w 6672 2 0 n x r → holds r ≡ has_constant x (stack w)
  has-first None m = sym (has_all ∙ const-no x cs (λ j l q. m j (omega arith) (omega (arith, size)) (sym (at j (omega (arith, size))) ∙ q)))
  has-first (Some k) h = sym (has_all ∙ const-yes x cs k (omega (arith, size, h.1)) (at k h.1 ∙ h.2))
