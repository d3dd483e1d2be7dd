-- Where something is barred stand expressions and targets alone, and what is barred is short. Assumes nothing.
use mathlib.Core.Path.{◌≡◌, refl, sym, ap, ◌∙◌, subst}
use mathlib.Core.Bool.{Bool, true, false, ◌&&◌, ◌||◌, not}
use mathlib.Core.List.{List, [], ◌∷◌}
use Prim.Native.Nat.{ℕ, zero, suc, ◌-◌, ◌<◌, ◌≤◌}
use lib.Dec.{T, eqb, eqb→eq}
use Rattle.std.proofs.Common.{◌⊎◌, inl, inr, Option, None}
use Rattle.std.proofs.lemmas.Bool.{cases_lt}
use Rattle.std.specs.Prelude.{codes}
use Rattle.def_tree.specs.Base.{pick}
use Rattle.def_tree.specs.Tree.{Tree}
use Rattle.def_file.specs.Script.{same_text}
use Rattle.def_text.specs.Words.{Word, some, every}
use Rattle.def_text.specs.Grammar.{Symbol, Slot, Part, word, own, kid, run, commas, more, look, if_has, if_not, one_default, each, each_after, each_between, write_out, right_for, singles}
use Rattle.def_text.specs.Table.{code}
use Rattle.def_text.specs.Derives.{begins, barred}
use Rattle.def_text.specs.Print.{At, unbarred, opening}
use Rattle.laws_text.proofs.Basics.{and_left, and_right, both, is_true, is_T, T-not, Within, every-at, some-found, passing-in, passing-out}
use Rattle.laws_text.proofs.Alike.{code-eq}
use Rattle.laws_text.proofs.Kids.{bar_ok, short, within-none}
use Rattle.text_table.specs.Rows.{Row, rows}
use Rattle.text_table.specs.Put.{Spot, members, is_bare, at_of, ats, freed, free, as_is, has_bit, spots, spots_of}
use Rattle.laws_put.proofs.Near.{Near, Covers, Alike}
use Rattle.laws_put.proofs.Tests.{below-at, then, flexes, first_flex, looks_flex, flex_row, rows-flex, rows-look, kept_bare, frees-ok, beyond, beyond-freed, members-last}
use Rattle.laws_put.proofs.Fits.{map-in, map-out}
use Rattle.laws_put.proofs.Rows.{Standing, bit-low}

pub data Fine (s : Spot) : Type 0 where
  clear! : s.bars ≡ [] → Fine s
  flexed! : T (short s.bars) → T (flexes s.place) → Fine s

abbrev pub FineAll : List Spot → Type 0
FineAll [] = Unit {0}
FineAll (s ∷ ss) = Fine s × FineAll ss

fine-spots : (c : Option ℕ) (s : Spot) (bs : List (List Word)) (n : List Word) (ps : List Part) → (bs ≡ []) ⊎ (T (short bs) × T (first_flex c ps)) → T (looks_flex c ps) → FineAll (spots c s bs n ps)
fine-spots c s bs n [] e l = tt
fine-spots c s bs n (word w ∷ ps) e l = fine-spots c s [] n ps (inl refl) l
fine-spots c s bs n (own o ∷ ps) e l = fine-spots c s [] n ps (inl refl) l
fine-spots c s bs n (kid x ∷ ps) (inl q) l = (clear! q, fine-spots None s [] s.next ps (inl refl) l)
fine-spots c s bs n (kid x ∷ ps) (inr q) l = (flexed! q.0 q.1, fine-spots None s [] s.next ps (inl refl) l)
fine-spots c s bs n (run x ∷ ps) e l = tt
fine-spots c s bs n (commas x ∷ ps) e l = tt
fine-spots c s bs n (more x ∷ ps) e l = tt
fine-spots c s bs n (look cs ∷ ps) e l =
    let a = and_left (short cs && first_flex c ps) (looks_flex c ps) l in
    fine-spots c s cs [] ps (inr (and_left (short cs) (first_flex c ps) a, and_right (short cs) (first_flex c ps) a)) (and_right (short cs && first_flex c ps) (looks_flex c ps) l)
fine-spots c s bs n (if_has p ∷ ps) e l = fine-spots c s bs n ps e l
fine-spots c s bs n (if_not p ∷ ps) e l = fine-spots c s bs n ps e l
fine-spots c s bs n (one_default ∷ ps) e l = fine-spots c s bs n ps e l

first-out : (c : Option ℕ) (m : ℕ) (ps : List Part) → T (first_flex c ps) → T (first_flex c (write_out m ps))
first-out c m [] h = tt
first-out c m (word w ∷ ps) h = tt
first-out c m (own o ∷ ps) h = tt
first-out c m (kid x ∷ ps) h = h
first-out c m (run x ∷ ps) h = absurd h
first-out c m (commas x ∷ ps) h = absurd h
first-out c m (more x ∷ ps) h = absurd h
first-out c m (look cs ∷ ps) h = tt
first-out c m (if_has p ∷ ps) h = first-out c m ps h
first-out c m (if_not p ∷ ps) h = first-out c m ps h
first-out c m (one_default ∷ ps) h = first-out c m ps h

look-each : (c : Option ℕ) (x : Slot) (m : ℕ) (ps : List Part) → T (looks_flex c ps) → T (looks_flex None ps) → T (looks_flex c (each x m ps))
look-each c x zero ps h k = h
look-each c x (suc m) ps h k = look-each None x m ps k k

look-after : (c : Option ℕ) (x : Slot) (m : ℕ) (ps : List Part) → T (looks_flex c ps) → T (looks_flex None ps) → T (looks_flex c (each_after x m ps))
look-after c x zero ps h k = h
look-after c x (suc m) ps h k = look-after None x m ps k k

look-between : (c : Option ℕ) (x : Slot) (m : ℕ) (ps : List Part) → T (looks_flex c ps) → T (looks_flex None ps) → T (looks_flex c (each_between x m ps))
look-between c x zero ps h k = h
look-between c x (suc m) ps h k = look-after None x m ps k k

look-out : (c : Option ℕ) (m : ℕ) (ps : List Part) → T (looks_flex c ps) → T (looks_flex c (write_out m ps))
look-out c m [] h = tt
look-out c m (word w ∷ ps) h = look-out c m ps h
look-out c m (own o ∷ ps) h = look-out c m ps h
look-out c m (kid x ∷ ps) h = look-out None m ps h
look-out c m (run x ∷ ps) h = look-each c x m (write_out m ps) (look-out c m ps (and_left (looks_flex c ps) (looks_flex None ps) h)) (look-out None m ps (and_right (looks_flex c ps) (looks_flex None ps) h))
look-out c m (commas x ∷ ps) h = look-between c x m (write_out m ps) (look-out c m ps (and_left (looks_flex c ps) (looks_flex None ps) h)) (look-out None m ps (and_right (looks_flex c ps) (looks_flex None ps) h))
look-out c m (more x ∷ ps) h = look-after c x m (write_out m ps) (look-out c m ps (and_left (looks_flex c ps) (looks_flex None ps) h)) (look-out None m ps (and_right (looks_flex c ps) (looks_flex None ps) h))
look-out c m (look cs ∷ ps) h =
    let a = and_left (short cs && first_flex c ps) (looks_flex c ps) h in
    both (short cs && first_flex c (write_out m ps)) (looks_flex c (write_out m ps)) (both (short cs) (first_flex c (write_out m ps)) (and_left (short cs) (first_flex c ps) a) (first-out c m ps (and_right (short cs) (first_flex c ps) a)))
    (look-out c m ps (and_right (short cs && first_flex c ps) (looks_flex c ps) h))
look-out c m (if_has p ∷ ps) h = look-out c m ps h
look-out c m (if_not p ∷ ps) h = look-out c m ps h
look-out c m (one_default ∷ ps) h = look-out c m ps h

pub fine-row : (k f n : ℕ) (s : Spot) (r : Row) → Standing k f n s r → Fine s → FineAll (spots_of r n s)
fine-row k f n s r S h = fine-spots r.first s s.bars s.next (right_for n r.rule) (go h) (look-out r.first (n - singles r.rule.right) r.rule.right (every-at (λ q. looks_flex q.first q.rule.right) r rows rows-look S.inside))
  where
    go : Fine s → (s.bars ≡ []) ⊎ (T (short s.bars) × T (first_flex r.first (right_for n r.rule)))
    go (clear! e) = inl e
    go (flexed! a b) =
        let t = every-at (flex_row s.place) r rows (below-at (λ c. every (flex_row c) rows) 53 s.place rows-flex (bit-low r s.place S.inside S.bit)) S.inside in
        inr (a, first-out r.first (n - singles r.rule.right) r.rule.right (then (has_bit r.at s.place && flexes s.place) (first_flex r.first r.rule.right) t (both (has_bit r.at s.place) (flexes s.place) S.bit b)))

-- ---- the places of a node as it stands

bare-kept : (c : ℕ) → c < 53 → (y : Symbol) → Within y (members c) → T (is_bare y) → Within y (members (freed c))
bare-kept c l y w b =
    let a = and_left (every (λ y. Rattle.laws_put.proofs.Tests.if_then (is_bare y) (some (λ z. eqb (code z) (code y)) (members (freed c)))) (members c)) (every (λ y. is_bare y && some (λ z. eqb (code z) (code y)) (members c)) (members (freed c))) (below-at kept_bare 53 c frees-ok l) in
    let f = some-found (λ z. eqb (code z) (code y)) (members (freed c)) (then (is_bare y) (some (λ z. eqb (code z) (code y)) (members (freed c))) (every-at (λ y. Rattle.laws_put.proofs.Tests.if_then (is_bare y) (some (λ z. eqb (code z) (code y)) (members (freed c)))) y (members c) a w) b) in
    subst (λ (z : Symbol). Within z (members (freed c))) (code-eq f.one y (eqb→eq (code f.one) (code y) f.passes)) f.inside

bare-back : (c : ℕ) → c < 53 → (y : Symbol) → Within y (members (freed c)) → T (is_bare y) × Within y (members c)
bare-back c l y w =
    let a = and_right (every (λ y. Rattle.laws_put.proofs.Tests.if_then (is_bare y) (some (λ z. eqb (code z) (code y)) (members (freed c)))) (members c)) (every (λ y. is_bare y && some (λ z. eqb (code z) (code y)) (members c)) (members (freed c))) (below-at kept_bare 53 c frees-ok l) in
    let b = every-at (λ y. is_bare y && some (λ z. eqb (code z) (code y)) (members c)) y (members (freed c)) a w in
    let f = some-found (λ z. eqb (code z) (code y)) (members c) (and_right (is_bare y) (some (λ z. eqb (code z) (code y)) (members c)) b) in
    (and_left (is_bare y) (some (λ z. eqb (code z) (code y)) (members c)) b, subst (λ (z : Symbol). Within z (members c)) (code-eq f.one y (eqb→eq (code f.one) (code y) f.passes)) f.inside)

module _ (spell : ℕ → ℕ → Word) (t : Tree) (s : Spot) where
  abbrev passes : At → Bool
  passes a = not (barred a.bars (opening spell t a.next))

  not-barred : barred s.bars (opening spell t s.next) ≡ false → (y : Symbol) → T (passes (at_of s y))
  not-barred e y = go (is_bare y)
    where
      go : (b : Bool) → T (not (barred (pick b [] s.bars) (opening spell t s.next)))
      go true = tt
      go false = subst (λ (b : Bool). T (not b)) (sym e) tt

  plain : barred s.bars (opening spell t s.next) ≡ false → Alike (unbarred spell t (ats s)) (ats s)
  plain e = record {
    there! = λ a w. let x = passing-out passes a (ats s) w in record { at = a; within = x.0; near = record { place = refl; bars = refl; next = inr refl } };
    back = λ a w. let y = map-out (at_of s) a (members s.place) w in record { at = a; within = passing-in passes a (ats s) w (subst (λ (z : At). T (passes z)) (sym y.is) (not-barred e y.one)); near = record { place = refl; bars = refl; next = inr refl } };
  }

  only-bare : barred s.bars (opening spell t s.next) ≡ true → (y : Symbol) → T (passes (at_of s y)) → T (is_bare y)
  only-bare e y h = go (is_bare y) refl
    where
      go : (b : Bool) → is_bare y ≡ b → T b
      go true q = tt
      go false q = absurd (T-not (barred s.bars (opening spell t s.next)) (subst (λ (b : Bool). T (not (barred (pick b [] s.bars) (opening spell t s.next)))) q h) (is_T _ e))

  bare-near : (y : Symbol) → T (is_bare y) → Near (at_of s y) (at_of (free s) y)
  bare-near y b = let e = is_true (is_bare y) b in record { place = refl; bars = ap (λ (c : Bool). pick c [] s.bars) e ∙ ap (λ (c : Bool). pick c [] []) (sym e); next = inl (ap (λ (c : Bool). pick c [] s.bars) e) }

  near-bare : (y : Symbol) → T (is_bare y) → Near (at_of (free s) y) (at_of s y)
  near-bare y b = let e = is_true (is_bare y) b in record { place = refl; bars = ap (λ (c : Bool). pick c [] []) e ∙ ap (λ (c : Bool). pick c [] s.bars) (sym e); next = inl (ap (λ (c : Bool). pick c [] []) e) }

  no-members : {A : Type 0} (y : Symbol) → 53 ≤ s.place → Within y (members s.place) → A
  no-members y h w = within-none y (subst (λ (z : List Symbol). Within y z) (beyond s.place h) w)

  freed-to : barred s.bars (opening spell t s.next) ≡ true → Covers (unbarred spell t (ats s)) (ats (free s))
  freed-to e a w =
      let x = passing-out passes a (ats s) w in
      let y = map-out (at_of s) a (members s.place) x.0 in
      let b = only-bare e y.one (subst (λ (z : At). T (passes z)) y.is x.1) in
      record { at = at_of (free s) y.one; within = map-in (at_of (free s)) y.one (members (freed s.place)) (go (cases_lt s.place 53) y.one y.within b); near = subst (λ (z : At). Near z (at_of (free s) y.one)) (sym y.is) (bare-near y.one b) }
    where
      go : (s.place < 53) ⊎ (53 ≤ s.place) → (y : Symbol) → Within y (members s.place) → T (is_bare y) → Within y (members (freed s.place))
      go (inl l) y w b = bare-kept s.place l y w b
      go (inr h) y w b = no-members y h w

  freed-from : barred s.bars (opening spell t s.next) ≡ true → Covers (ats (free s)) (unbarred spell t (ats s))
  freed-from e a w =
      let y = map-out (at_of (free s)) a (members (freed s.place)) w in
      let b = go (cases_lt s.place 53) y.one y.within in
      record { at = at_of s y.one; within = passing-in passes (at_of s y.one) (ats s) (map-in (at_of s) y.one (members s.place) b.1) (free-there y.one b.0); near = subst (λ (z : At). Near z (at_of s y.one)) (sym y.is) (near-bare y.one b.0) }
    where
      go : (s.place < 53) ⊎ (53 ≤ s.place) → (y : Symbol) → Within y (members (freed s.place)) → T (is_bare y) × Within y (members s.place)
      go (inl l) y w = bare-back s.place l y w
      go (inr h) y w = within-none y (subst (λ (z : List Symbol). Within y z) (ap members (beyond-freed s.place h) ∙ members-last) w)

      free-there : (y : Symbol) → T (is_bare y) → T (passes (at_of s y))
      free-there y b = subst (λ (c : Bool). T (not (barred (pick c [] s.bars) (opening spell t s.next)))) (sym (is_true (is_bare y) b)) tt

  pub here-alike : Alike (unbarred spell t (ats s)) (ats (as_is spell t s))
  here-alike = go (barred s.bars (opening spell t s.next)) refl
    where
      go : (b : Bool) → barred s.bars (opening spell t s.next) ≡ b → Alike (unbarred spell t (ats s)) (ats (pick b (free s) s))
      go true e = record { there! = freed-to e; back = freed-from e }
      go false e = plain e

  pub here-fine : Fine s → Fine (as_is spell t s) × (((as_is spell t s).bars ≡ []) ⊎ (barred (as_is spell t s).bars (opening spell t (as_is spell t s).next) ≡ false))
  here-fine h = go (barred s.bars (opening spell t s.next)) refl
    where
      go : (b : Bool) → barred s.bars (opening spell t s.next) ≡ b → Fine (pick b (free s) s) × (((pick b (free s) s).bars ≡ []) ⊎ (barred (pick b (free s) s).bars (opening spell t (pick b (free s) s).next) ≡ false))
      go true e = (clear! refl, inl refl)
      go false e = (h, inr e)

-- a pair begins with nothing that is barred
pub open-free : (bs : List (List Word)) (ws : List Word) → T (short bs) → T (not (barred bs (codes "(" ∷ ws)))
open-free bs ws h = go (barred bs (codes "(" ∷ ws)) refl
  where
    no : (b : List Word) → T (bar_ok b) → T (begins b (codes "(" ∷ ws)) → ⊥
    no [] k c = k
    no (x ∷ []) k c = T-not (same_text x (codes "(")) k (and_left (same_text x (codes "(")) true c)
    no (x ∷ y ∷ []) k c = T-not (same_text x (codes "(")) (and_left (not (same_text x (codes "("))) (same_text x (codes "let") || same_text x (codes "async")) k) (and_left (same_text x (codes "(")) (begins (y ∷ []) ws) c)
    no (x ∷ y ∷ z ∷ b) k c = k

    go : (b : Bool) → barred bs (codes "(" ∷ ws) ≡ b → T (not b)
    go true e = let f = some-found (λ b. begins b (codes "(" ∷ ws)) bs (is_T _ e) in absurd (no f.one (every-at bar_ok f.one bs h f.inside) f.passes)
    go false e = tt
