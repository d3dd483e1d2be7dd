-- What the pass asks of a tree is the same after its origins are relabelled (`OriginBlind` of specs/Demand). Assumes nothing.
use mathlib.Core.Path.{◌≡◌, refl, ap, ap₂, ◌∙◌, subst, fun_ext}
use mathlib.Core.Bool.{Bool, true, false, ◌&&◌, ◌||◌}
use mathlib.Core.Option.{Option, none, some}
use mathlib.Core.List.{List, [], ◌∷◌, ◌++◌}
use Prim.Native.Nat.{ℕ, suc, ◌+◌, max}
use lib.Dec.{T, eqb, ltb, eqb→eq}
use lib.ListN.{length}
use Rattle.def_tree.specs.Base.{pick, member}
use Rattle.def_pass.specs.Tree.{Tree, Forest, node, nil, cons, kind, form, num, kids, count, counts, count_o, height, heights, has_this, has_this_f, in_pattern, bound_names, bound_names_f, ident_list, ident_list_f, head_t, tail_f}
use Rattle.def_pass.specs.Targets.{aims, aimed_at, first_is, targets, targets_f}
use Rattle.def_pass.specs.Twice.{unflagged, is_function, is_named, among, no_literal, declarator, declarators, vars, vars_f, params, any_of, twice, flag, flags, flag_named, flagged}
use Rattle.def_pass.specs.Walk.{as_ident, is_bind, but_last}
use Rattle.def_pass.specs.Relabel.{has_origin, relabel, relabel_f}
use Rattle.def_tree.proofs.Tests.{is_T, or_left, or_right}

-- a choice between two relabelled things, by two tests that agree
pub pick_same : {A B : Type 0} (F : A → B) (c d : Bool) (x y : A) (x' y' : B) → d ≡ c → x' ≡ F x → y' ≡ F y → pick d x' y' ≡ F (pick c x y)
pick_same F c d x y x' y' e p q = ap (λ b. pick b x' y') e ∙ go c
  where
    go : (b : Bool) → pick b x' y' ≡ F (pick b x y)
    go true = p
    go false = q

pub elim-same : {A B : Type 0} (F : A → B) (c d : Bool) (x y : A) (x' y' : B) → d ≡ c → x' ≡ F x → y' ≡ F y → elim d [ true ↦ x' | false ↦ y' ] ≡ F (elim c [ true ↦ x | false ↦ y ])
elim-same {A} {B} F c d x y x' y' e p q = ap {B = B} (λ b. elim b [ true ↦ x' | false ↦ y' ]) e ∙ go c
  where
    go : (b : Bool) → elim b [ true ↦ x' | false ↦ y' ] ≡ F (elim b [ true ↦ x | false ↦ y ])
    go true = p
    go false = q

-- a binding or an identifier has no origin
pub no_origin : (k : ℕ) → T (eqb k 20 || eqb k 21) → has_origin k ≡ false
no_origin k t = go (eqb k 22) refl (eqb k 33) refl
  where
    not : (n : ℕ) → eqb k n ≡ true → T (eqb n 20 || eqb n 21)
    not n h = subst T (ap (λ m. eqb m 20 || eqb m 21) (eqb→eq k n (is_T (eqb k n) h))) t

    go : (b : Bool) → eqb k 22 ≡ b → (c : Bool) → eqb k 33 ≡ c → (b || c) ≡ false
    go false h false i = refl
    go true h c i = absurd (not 22 h)
    go false h true i = absurd (not 33 i)

module _ (r : ℕ → ℕ) where
  abbrev pub on_o : Option Tree → Option Tree
  on_o none = none
  on_o (some t) = some (relabel r t)

  -- an identifier's number stays
  pub same-num : (k a : ℕ) → T (eqb k 20 || eqb k 21) → pick (has_origin k) (r a) a ≡ a
  same-num k a t = ap (λ b. pick b (r a) a) (no_origin k t)

  -- a binding, after relabelling: its number, and the identifier made from it
  pub record Bound (t : Tree) : Type 0 where
    pub number : num (relabel r t) ≡ num t
    pub ident : as_ident (relabel r t) ≡ relabel r (as_ident t)

  pub bound : (t : Tree) → T (is_bind t) → Bound t
  bound (node k f a ts) h = (let e = same-num k a (or_left (eqb k 20) (eqb k 21) h) in record { number = e; ident = ap (λ n. node 21 (unflagged f) n (relabel_f r ts)) e })

  pub ident-num : (t : Tree) → T (eqb (kind t) 21) → num (relabel r t) ≡ num t
  ident-num (node k f a ts) h = same-num k a (go (eqb k 20) (eqb k 21) h)
    where
      go : (p q : Bool) → T q → T (p || q)
      go true q t = tt
      go false q t = t

  pub same_kind : (t : Tree) → kind (relabel r t) ≡ kind t
  same_kind (node k f a ts) = refl

  pub same-form : (t : Tree) → form (relabel r t) ≡ form t
  same-form (node k f a ts) = refl

  pub same-kids : (t : Tree) → kids (relabel r t) ≡ relabel_f r (kids t)
  same-kids (node k f a ts) = refl

  pub same_head : (ts : Forest) → head_t (relabel_f r ts) ≡ on_o (head_t ts)
  same_head nil = refl
  same_head (cons t ts) = refl

  pub same-tail : (ts : Forest) → tail_f (relabel_f r ts) ≡ relabel_f r (tail_f ts)
  same-tail nil = refl
  same-tail (cons t ts) = refl

  pub same-but_last : (ts : Forest) → but_last (relabel_f r ts) ≡ relabel_f r (but_last ts)
  same-but_last nil = refl
  same-but_last (cons t nil) = refl
  same-but_last (cons t (cons u us)) = ap (cons (relabel r t)) (same-but_last (cons u us))

  mutual
    pub same_count : (t : Tree) → count (relabel r t) ≡ count t
    same_count (node k f a ts) = ap suc (same-counts ts)

    pub same-counts : (ts : Forest) → counts (relabel_f r ts) ≡ counts ts
    same-counts nil = refl
    same-counts (cons t ts) = ap₂ (λ m n. m + n) (same_count t) (same-counts ts)

  pub same-count_o : (v : Option Tree) → count_o (on_o v) ≡ count_o v
  same-count_o none = refl
  same-count_o (some t) = same_count t

  mutual
    pub same-height : (t : Tree) → height (relabel r t) ≡ height t
    same-height (node k f a ts) = ap (λ n. 1 + n) (same-heights ts)

    same-heights : (ts : Forest) → heights (relabel_f r ts) ≡ heights ts
    same-heights nil = refl
    same-heights (cons t ts) = ap₂ (λ m n. max m n) (same-height t) (same-heights ts)

  mutual
    pub same-this : (t : Tree) → has_this (relabel r t) ≡ has_this t
    same-this (node k f a ts) = ap (λ b. elim (eqb k 26) [ true ↦ true | false ↦ elim (eqb k 39 || eqb k 7) [ true ↦ false | false ↦ b ] ]) (same-this_f ts)

    same-this_f : (ts : Forest) → has_this_f (relabel_f r ts) ≡ has_this_f ts
    same-this_f nil = refl
    same-this_f (cons t ts) = ap₂ ◌||◌ (same-this t) (same-this_f ts)

  mutual
    pub same-idents : (t : Tree) (rest : List Tree) → ident_list (relabel r t) rest ≡ ident_list t rest
    same-idents (node k f a ts) rest = go (eqb k 20 || eqb k 21) refl (same-idents_f ts rest)
      where
        go : (b : Bool) → (eqb k 20 || eqb k 21) ≡ b → ident_list_f (relabel_f r ts) rest ≡ ident_list_f ts rest
            → ◌≡◌ {A = List Tree} (elim b [ true ↦ node k f (pick (has_origin k) (r a) a) nil ∷ rest | false ↦ ident_list_f (relabel_f r ts) rest ]) (elim b [ true ↦ node k f a nil ∷ rest | false ↦ ident_list_f ts rest ])
        go true e h = ap {B = List Tree} (λ n. node k f n nil ∷ rest) (same-num k a (is_T (eqb k 20 || eqb k 21) e))
        go false e h = h

    pub same-idents_f : (ts : Forest) (rest : List Tree) → ident_list_f (relabel_f r ts) rest ≡ ident_list_f ts rest
    same-idents_f nil rest = refl
    same-idents_f (cons t ts) rest = same-idents t (ident_list_f (relabel_f r ts) rest) ∙ ap (ident_list t) (same-idents_f ts rest)

  mutual
    pub same-bound : (t : Tree) (rest : List ℕ) → bound_names (relabel r t) rest ≡ bound_names t rest
    same-bound (node k f a ts) rest = go (eqb k 20) refl (same-bound_f ts rest)
      where
        go : (b : Bool) → eqb k 20 ≡ b → bound_names_f (relabel_f r ts) rest ≡ bound_names_f ts rest
            → ◌≡◌ {A = List ℕ} (elim b [ true ↦ pick (has_origin k) (r a) a ∷ rest | false ↦ elim (in_pattern k) [ true ↦ bound_names_f (relabel_f r ts) rest | false ↦ rest ] ]) (elim b [ true ↦ a ∷ rest | false ↦ elim (in_pattern k) [ true ↦ bound_names_f ts rest | false ↦ rest ] ])
        go true e h = ap (λ (n : ℕ). n ∷ rest) (same-num k a (or_left (eqb k 20) (eqb k 21) (is_T (eqb k 20) e)))
        go false e h = ap {B = List ℕ} (λ (ns : List ℕ). elim (in_pattern k) [ true ↦ ns | false ↦ rest ]) h

    same-bound_f : (ts : Forest) (rest : List ℕ) → bound_names_f (relabel_f r ts) rest ≡ bound_names_f ts rest
    same-bound_f nil rest = refl
    same-bound_f (cons t ts) rest = ap (bound_names (relabel r t)) (same-bound_f ts rest) ∙ same-bound t (bound_names_f ts rest)

  mutual
    same-aimed : (i : ℕ) (t : Tree) → aimed_at i (relabel r t) ≡ aimed_at i t
    same-aimed i (node k f a ts) = elim-same (λ (b : Bool). b) (eqb k 5 || eqb k 6) (eqb k 5 || eqb k 6) (first_is i ts) ((eqb k 21 && eqb a i) || member i (bound_names (node k f a ts) [])) (first_is i (relabel_f r ts)) ((eqb k 21 && eqb (pick (has_origin k) (r a) a) i) || member i (bound_names (relabel r (node k f a ts)) [])) refl (same_first i ts) (ap₂ ◌||◌ (go (eqb k 21) refl) (ap (member i) (same-bound (node k f a ts) [])))
      where
        go : (b : Bool) → eqb k 21 ≡ b → (b && eqb (pick (has_origin k) (r a) a) i) ≡ (b && eqb a i)
        go true e = ap (λ n. eqb n i) (same-num k a (or_right (eqb k 20) (eqb k 21) (is_T (eqb k 21) e)))
        go false e = refl

    same_first : (i : ℕ) (ts : Forest) → first_is i (relabel_f r ts) ≡ first_is i ts
    same_first i nil = refl
    same_first i (cons t ts) = same-aimed i t

  mutual
    pub same-targets : (i : ℕ) (t : Tree) → targets (relabel r t) i ≡ targets t i
    same-targets i (node k f a ts) = ap₂ (λ (b c : Bool). (aims k && b) || c) (same_first i ts) (same-targets_f i ts)

    same-targets_f : (i : ℕ) (ts : Forest) → targets_f (relabel_f r ts) i ≡ targets_f ts i
    same-targets_f i nil = refl
    same-targets_f i (cons t ts) = ap₂ ◌||◌ (same-targets i t) (same-targets_f i ts)

  -- what is declared more than once, and the bindings flagged
  same-no_literal : (name : Tree) (es : Forest) → no_literal (relabel r name) (head_t (relabel_f r es)) ≡ no_literal name (head_t es)
  same-no_literal name nil = refl
  same-no_literal (node k f a ts) (cons (node l g b us) es) = refl

  same-declarator : (i : ℕ) (ts : Forest) → declarator i (relabel_f r ts) ≡ declarator i ts
  same-declarator i nil = refl
  same-declarator i (cons name es) = ap₂ (among i) (same-no_literal name es) (same-bound name [])

  same-declarators : (i : ℕ) (ts : Forest) → declarators i (relabel_f r ts) ≡ declarators i ts
  same-declarators i nil = refl
  same-declarators i (cons (node k f a ts) us) = ap₂ (λ (x y : List Bool). x ++ y) (same-declarator i ts) (same-declarators i us)

  mutual
    same-vars : (i : ℕ) (t : Tree) → vars i (relabel r t) ≡ vars i t
    same-vars i (node k f a ts) = ap₂ {C = List Bool} (λ (x y : List Bool). elim (is_function k) [ true ↦ [] | false ↦ pick (eqb k 5 && eqb f 0) x [] ++ y ]) (same-declarators i ts) (same-vars_f i ts)

    same-vars_f : (i : ℕ) (ts : Forest) → vars_f i (relabel_f r ts) ≡ vars_f i ts
    same-vars_f i nil = refl
    same-vars_f i (cons t ts) = ap₂ (λ (x y : List Bool). x ++ y) (same-vars i t) (same-vars_f i ts)

  same_params : (i : ℕ) (ts : Forest) → params i (relabel_f r ts) ≡ params i ts
  same_params i nil = refl
  same_params i (cons t ts) = ap₂ (λ (x y : List Bool). x ++ y) (ap (among i false) (same-bound t [])) (same_params i ts)

  same-twice : (ts : Forest) → twice (relabel_f r ts) ≡ twice ts
  same-twice ts = fun_ext (λ i. ap₂ (λ (x y : List Bool). ltb 1 (length (x ++ y)) && any_of (x ++ y)) (same_params i ts) (same-vars_f i ts))

  mutual
    same_flag : (b : ℕ → Bool) (t : Tree) → flag b (relabel r t) ≡ relabel r (flag b t)
    same_flag b (node k f a ts) = ap₂ (λ (g : ℕ) (us : Forest). node k g (pick (has_origin k) (r a) a) us) (go (eqb k 20) refl)
        (elim-same (relabel_f r) (is_function k) (is_function k) (elim (is_named k f) [ true ↦ flag_named b ts | false ↦ flags (twice ts) ts ]) (flags b ts) (elim (is_named k f) [ true ↦ flag_named b (relabel_f r ts) | false ↦ flags (twice (relabel_f r ts)) (relabel_f r ts) ]) (flags b (relabel_f r ts)) refl
        (elim-same (relabel_f r) (is_named k f) (is_named k f) (flag_named b ts) (flags (twice ts) ts) (flag_named b (relabel_f r ts)) (flags (twice (relabel_f r ts)) (relabel_f r ts)) refl (same-flag_named b ts) (ap (λ c. flags c (relabel_f r ts)) (same-twice ts) ∙ same_flags (twice ts) ts)) (same_flags b ts))
      where
        go : (c : Bool) → eqb k 20 ≡ c → pick (c && b (pick (has_origin k) (r a) a)) (f + 2) f ≡ pick (c && b a) (f + 2) f
        go true e = ap (λ n. pick (b n) (f + 2) f) (same-num k a (or_left (eqb k 20) (eqb k 21) (is_T (eqb k 20) e)))
        go false e = refl

    same_flags : (b : ℕ → Bool) (ts : Forest) → flags b (relabel_f r ts) ≡ relabel_f r (flags b ts)
    same_flags b nil = refl
    same_flags b (cons t ts) = ap₂ cons (same_flag b t) (same_flags b ts)

    same-flag_named : (b : ℕ → Bool) (ts : Forest) → flag_named b (relabel_f r ts) ≡ relabel_f r (flag_named b ts)
    same-flag_named b nil = refl
    same-flag_named b (cons t ts) = ap₂ cons (same_flag b t) (ap (λ c. flags c (relabel_f r ts)) (same-twice ts) ∙ same_flags (twice ts) ts)

  pub same-flagged : (t : Tree) → flagged (relabel r t) ≡ relabel r (flagged t)
  same-flagged (node k f a ts) = ap (λ c. flag c (relabel r (node k f a ts))) (same-twice ts) ∙ same_flag (twice ts) (node k f a ts)
