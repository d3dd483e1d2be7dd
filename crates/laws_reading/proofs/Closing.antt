-- Where a bracket is closed: what is behind it depends on the tokens alone. Assumes nothing.
use mathlib.Core.Path.{◌≡◌, refl, ap, ◌∙◌}
use mathlib.Core.Bool.{Bool, true, false, ◌&&◌, not}
use mathlib.Core.List.{List, [], ◌∷◌, ◌++◌, append_assoc}
use Prim.Native.Nat.{ℕ, zero, suc}
use lib.Dec.{T}
use Rattle.def_text.specs.Words.{Word, among}
use Rattle.def_text.specs.Grammar.{Slot, Part, word, own, kid, run, commas, more, look, if_has, if_not, one_default, each, each_after, each_between, write_out}
use Rattle.def_text.specs.Derives.{fill}
use Rattle.laws_reading.proofs.Tests.{openers, closers, unclosed, bal, owns}

-- what is behind the bracket that closes the one before the tokens, e more being open
abbrev pub cut : ℕ → List Word → List Word
cut e [] = []
cut zero (w ∷ ws) = elim (among w openers) [ true ↦ cut 1 ws | false ↦ elim (among w closers) [ true ↦ ws | false ↦ cut zero ws ] ]
cut (suc e) (w ∷ ws) = elim (among w openers) [ true ↦ cut (suc (suc e)) ws | false ↦ elim (among w closers) [ true ↦ cut e ws | false ↦ cut (suc e) ws ] ]

abbrev pub Passes : List Word → Type 0
Passes l = (d : ℕ) (r : List Word) → cut d (l ++ r) ≡ cut d r

abbrev pub AllPass : List (List Word) → Type 0
AllPass [] = Unit {0}
AllPass (l ∷ ls) = Passes l × AllPass ls

-- a token that is no bracket
abbrev pub is_other : Word → Bool
is_other w = not (among w openers) && not (among w closers)

pub cut-other : (d : ℕ) (w : Word) (r : List Word) → T (is_other w) → cut d (w ∷ r) ≡ cut d r
cut-other zero w r h = go (among w openers) (among w closers) h
  where
    go : (b c : Bool) → T (not b && not c) → (elim b as (λ x. List Word) [ true ↦ cut 1 r | false ↦ elim c as (λ x. List Word) [ true ↦ r | false ↦ cut zero r ] ]) ≡ cut zero r
    go true c h = absurd h
    go false true h = absurd h
    go false false h = refl
cut-other (suc d) w r h = go (among w openers) (among w closers) h
  where
    go : (b c : Bool) → T (not b && not c) → (elim b as (λ x. List Word) [ true ↦ cut (suc (suc d)) r | false ↦ elim c as (λ x. List Word) [ true ↦ cut d r | false ↦ cut (suc d) r ] ]) ≡ cut (suc d) r
    go true c h = absurd h
    go false true h = absurd h
    go false false h = refl

-- a list written out is passed over
record Over (d : ℕ) (zs : List Word) (f : List (List Word) → List Word) : Type 0 where
  pub left : List (List Word)
  pub all : AllPass left
  pub is : cut d zs ≡ cut d (f left)

module _ (o : Word) (r : List Word) where
  over-after : (d : ℕ) (x : Slot) (m : ℕ) (ps : List Part) (ls : List (List Word)) → AllPass ls → Over d (fill o (each_after x m ps) ls ++ r) (λ ls. fill o ps ls ++ r)
  over-after d x zero ps ls h = record { left = ls; all = h; is = refl }
  over-after d x (suc m) ps [] h =
      let i = over-after d x m ps [] h in
      record { left = i.left; all = i.all; is = cut-other d (44 ∷ []) (fill o (each_after x m ps) [] ++ r) tt ∙ i.is }
  over-after d x (suc m) ps (l ∷ ls) h =
      let i = over-after d x m ps ls h.1 in
      record { left = i.left; all = i.all; is = cut-other d (44 ∷ []) ((l ++ fill o (each_after x m ps) ls) ++ r) tt ∙ ap (λ z. cut d z) (append_assoc l (fill o (each_after x m ps) ls) r) ∙ h.0 d (fill o (each_after x m ps) ls ++ r) ∙ i.is }

  over-between : (d : ℕ) (x : Slot) (m : ℕ) (ps : List Part) (ls : List (List Word)) → AllPass ls → Over d (fill o (each_between x m ps) ls ++ r) (λ ls. fill o ps ls ++ r)
  over-between d x zero ps ls h = record { left = ls; all = h; is = refl }
  over-between d x (suc m) ps [] h = over-after d x m ps [] h
  over-between d x (suc m) ps (l ∷ ls) h =
      let i = over-after d x m ps ls h.1 in
      record { left = i.left; all = i.all; is = ap (λ z. cut d z) (append_assoc l (fill o (each_after x m ps) ls) r) ∙ h.0 d (fill o (each_after x m ps) ls ++ r) ∙ i.is }

  over-run : (d : ℕ) (x : Slot) (m : ℕ) (ps : List Part) (ls : List (List Word)) → AllPass ls → Over d (fill o (each x m ps) ls ++ r) (λ ls. fill o ps ls ++ r)
  over-run d x zero ps ls h = record { left = ls; all = h; is = refl }
  over-run d x (suc m) ps [] h = over-run d x m ps [] h
  over-run d x (suc m) ps (l ∷ ls) h =
      let i = over-run d x m ps ls h.1 in
      record { left = i.left; all = i.all; is = ap (λ z. cut d z) (append_assoc l (fill o (each x m ps) ls) r) ∙ h.0 d (fill o (each x m ps) ls ++ r) ∙ i.is }

  -- ---- a right side that closes what it opens is passed over

  abbrev plus : ℕ → ℕ → ℕ
  plus zero d = d
  plus (suc e) d = suc (plus e d)

  -- for each depth what a token does
  open-at : (d : ℕ) (w : Word) (zs : List Word) → among w openers ≡ true → cut d (w ∷ zs) ≡ cut (suc d) zs
  open-at zero w zs e = rw (e, cut) refl
  open-at (suc d) w zs e = rw (e, cut) refl

  close-at : (d : ℕ) (w : Word) (zs : List Word) → among w openers ≡ false → among w closers ≡ true → cut (suc d) (w ∷ zs) ≡ cut d zs
  close-at d w zs e f = rw (e, f, cut) refl

  close-end : (w : Word) (zs : List Word) → among w openers ≡ false → among w closers ≡ true → cut zero (w ∷ zs) ≡ zs
  close-end w zs e f = rw (e, f, cut) refl

  mid-at : (d : ℕ) (w : Word) (zs : List Word) → among w openers ≡ false → among w closers ≡ false → cut d (w ∷ zs) ≡ cut d zs
  mid-at zero w zs e f = rw (e, f, cut) refl
  mid-at (suc d) w zs e f = rw (e, f, cut) refl

  pass-word-zero : (d : ℕ) (w : Word) (ps : List Part) (zs : List Word) (b c : Bool) → among w openers ≡ b → among w closers ≡ c
      → T (elim b [ true ↦ bal 1 ps | false ↦ elim c [ true ↦ false | false ↦ bal zero ps ] ]) → (T (bal 1 ps) → cut (suc d) zs ≡ cut d r) → (T (bal zero ps) → cut d zs ≡ cut d r) → cut d (w ∷ zs) ≡ cut d r
  pass-word-zero d w ps zs true c e f h x y = open-at d w zs e ∙ x h
  pass-word-zero d w ps zs false true e f h x y = absurd h
  pass-word-zero d w ps zs false false e f h x y = mid-at d w zs e f ∙ y h

  pass-word-suc : (n d e : ℕ) (w : Word) (ps : List Part) (zs : List Word) (b c : Bool) → among w openers ≡ b → among w closers ≡ c
      → T (elim b [ true ↦ bal (suc (suc e)) ps | false ↦ elim c [ true ↦ bal e ps | false ↦ bal (suc e) ps ] ])
      → (T (bal (suc (suc e)) ps) → cut (suc (suc n)) zs ≡ cut d r) → (T (bal e ps) → cut n zs ≡ cut d r) → (T (bal (suc e) ps) → cut (suc n) zs ≡ cut d r) → cut (suc n) (w ∷ zs) ≡ cut d r
  pass-word-suc n d e w ps zs true c p q h x y z = open-at (suc n) w zs p ∙ x h
  pass-word-suc n d e w ps zs false true p q h x y z = close-at n w zs p q ∙ y h
  pass-word-suc n d e w ps zs false false p q h x y z = mid-at (suc n) w zs p q ∙ z h

  pub pass-fill : (ps : List Part) (e d m : ℕ) (ls : List (List Word)) → (T (owns ps) → T (is_other o)) → T (bal e ps) → AllPass ls → cut (plus e d) (fill o (write_out m ps) ls ++ r) ≡ cut d r
  pass-fill [] zero d m ls n b h = refl
  pass-fill [] (suc e) d m ls n b h = absurd b
  pass-fill (word w ∷ ps) zero d m ls n b h =
      pass-word-zero d w ps (fill o (write_out m ps) ls ++ r) (among w openers) (among w closers) refl refl b (λ t. pass-fill ps 1 d m ls n t h) (λ t. pass-fill ps zero d m ls n t h)
  pass-fill (word w ∷ ps) (suc e) d m ls n b h =
      pass-word-suc (plus e d) d e w ps (fill o (write_out m ps) ls ++ r) (among w openers) (among w closers) refl refl b
      (λ t. pass-fill ps (suc (suc e)) d m ls n t h) (λ t. pass-fill ps e d m ls n t h) (λ t. pass-fill ps (suc e) d m ls n t h)
  pass-fill (own s ∷ ps) e d m ls n b h = cut-other (plus e d) o (fill o (write_out m ps) ls ++ r) (n tt) ∙ pass-fill ps e d m ls (λ t. n tt) b h
  pass-fill (kid x ∷ ps) e d m [] n b h = pass-fill ps e d m [] n b h
  pass-fill (kid x ∷ ps) e d m (l ∷ ls) n b h = ap (λ z. cut (plus e d) z) (append_assoc l (fill o (write_out m ps) ls) r) ∙ h.0 (plus e d) (fill o (write_out m ps) ls ++ r) ∙ pass-fill ps e d m ls n b h.1
  pass-fill (run x ∷ ps) e d m ls n b h = let i = over-run (plus e d) x m (write_out m ps) ls h in i.is ∙ pass-fill ps e d m i.left n b i.all
  pass-fill (commas x ∷ ps) e d m ls n b h = let i = over-between (plus e d) x m (write_out m ps) ls h in i.is ∙ pass-fill ps e d m i.left n b i.all
  pass-fill (more x ∷ ps) e d m ls n b h = let i = over-after (plus e d) x m (write_out m ps) ls h in i.is ∙ pass-fill ps e d m i.left n b i.all
  pass-fill (look bs ∷ ps) e d m ls n b h = pass-fill ps e d m ls n b h
  pass-fill (if_has q ∷ ps) e d m ls n b h = pass-fill ps e d m ls n b h
  pass-fill (if_not q ∷ ps) e d m ls n b h = pass-fill ps e d m ls n b h
  pass-fill (one_default ∷ ps) e d m ls n b h = pass-fill ps e d m ls n b h

  -- ---- what is left of one behind the bracket that closes

  pub record Closed (e m : ℕ) (zs : List Word) (qs : List Part) : Type 0 where
    pub left : List (List Word)
    pub is : cut e zs ≡ fill o (write_out m qs) left ++ r

  moved : (e f m : ℕ) (ys zs : List Word) (qs : List Part) → cut f ys ≡ cut e zs → Closed e m zs qs → Closed f m ys qs
  moved e f m ys zs qs k c = record { left = c.left; is = k ∙ c.is }

  close-word-zero : (m : ℕ) (w : Word) (ps : List Part) (ls : List (List Word)) (b c : Bool) → among w openers ≡ b → among w closers ≡ c → T (elim b [ true ↦ bal 2 ps | false ↦ elim c [ true ↦ bal zero ps | false ↦ bal 1 ps ] ])
      → (T (bal 2 ps) → Closed 1 m (fill o (write_out m ps) ls ++ r) (unclosed 1 ps)) → (T (bal 1 ps) → Closed zero m (fill o (write_out m ps) ls ++ r) (unclosed zero ps))
      → Closed zero m (w ∷ (fill o (write_out m ps) ls ++ r)) (elim b [ true ↦ unclosed 1 ps | false ↦ elim c [ true ↦ ps | false ↦ unclosed zero ps ] ])
  close-word-zero m w ps ls true c p q h x y = moved 1 zero m _ _ (unclosed 1 ps) (open-at zero w (fill o (write_out m ps) ls ++ r) p) (x h)
  close-word-zero m w ps ls false true p q h x y = record { left = ls; is = close-end w (fill o (write_out m ps) ls ++ r) p q }
  close-word-zero m w ps ls false false p q h x y = moved zero zero m _ _ (unclosed zero ps) (mid-at zero w (fill o (write_out m ps) ls ++ r) p q) (y h)

  close-word-suc : (e m : ℕ) (w : Word) (ps : List Part) (ls : List (List Word)) (b c : Bool) → among w openers ≡ b → among w closers ≡ c → T (elim b [ true ↦ bal (suc (suc (suc e))) ps | false ↦ elim c [ true ↦ bal (suc e) ps | false ↦ bal (suc (suc e)) ps ] ])
      → (T (bal (suc (suc (suc e))) ps) → Closed (suc (suc e)) m (fill o (write_out m ps) ls ++ r) (unclosed (suc (suc e)) ps)) → (T (bal (suc e) ps) → Closed e m (fill o (write_out m ps) ls ++ r) (unclosed e ps))
      → (T (bal (suc (suc e)) ps) → Closed (suc e) m (fill o (write_out m ps) ls ++ r) (unclosed (suc e) ps))
      → Closed (suc e) m (w ∷ (fill o (write_out m ps) ls ++ r)) (elim b [ true ↦ unclosed (suc (suc e)) ps | false ↦ elim c [ true ↦ unclosed e ps | false ↦ unclosed (suc e) ps ] ])
  close-word-suc e m w ps ls true c p q h x y z = moved (suc (suc e)) (suc e) m _ _ (unclosed (suc (suc e)) ps) (open-at (suc e) w (fill o (write_out m ps) ls ++ r) p) (x h)
  close-word-suc e m w ps ls false true p q h x y z = moved e (suc e) m _ _ (unclosed e ps) (close-at e w (fill o (write_out m ps) ls ++ r) p q) (y h)
  close-word-suc e m w ps ls false false p q h x y z = moved (suc e) (suc e) m _ _ (unclosed (suc e) ps) (mid-at (suc e) w (fill o (write_out m ps) ls ++ r) p q) (z h)

  pub close-fill : (ps : List Part) (e m : ℕ) (ls : List (List Word)) → (T (owns ps) → T (is_other o)) → T (bal (suc e) ps) → AllPass ls → Closed e m (fill o (write_out m ps) ls ++ r) (unclosed e ps)
  close-fill [] e m ls n b h = absurd b
  close-fill (word w ∷ ps) zero m ls n b h = close-word-zero m w ps ls (among w openers) (among w closers) refl refl b (λ t. close-fill ps 1 m ls n t h) (λ t. close-fill ps zero m ls n t h)
  close-fill (word w ∷ ps) (suc e) m ls n b h =
      close-word-suc e m w ps ls (among w openers) (among w closers) refl refl b (λ t. close-fill ps (suc (suc e)) m ls n t h) (λ t. close-fill ps e m ls n t h) (λ t. close-fill ps (suc e) m ls n t h)
  close-fill (own s ∷ ps) e m ls n b h = moved e e m _ _ (unclosed e ps) (cut-other e o (fill o (write_out m ps) ls ++ r) (n tt)) (close-fill ps e m ls (λ t. n tt) b h)
  close-fill (kid x ∷ ps) e m [] n b h = close-fill ps e m [] n b h
  close-fill (kid x ∷ ps) e m (l ∷ ls) n b h =
      moved e e m _ _ (unclosed e ps) (ap (λ z. cut e z) (append_assoc l (fill o (write_out m ps) ls) r) ∙ h.0 e (fill o (write_out m ps) ls ++ r)) (close-fill ps e m ls n b h.1)
  close-fill (run x ∷ ps) e m ls n b h = let i = over-run e x m (write_out m ps) ls h in moved e e m _ _ (unclosed e ps) i.is (close-fill ps e m i.left n b i.all)
  close-fill (commas x ∷ ps) e m ls n b h = let i = over-between e x m (write_out m ps) ls h in moved e e m _ _ (unclosed e ps) i.is (close-fill ps e m i.left n b i.all)
  close-fill (more x ∷ ps) e m ls n b h = let i = over-after e x m (write_out m ps) ls h in moved e e m _ _ (unclosed e ps) i.is (close-fill ps e m i.left n b i.all)
  close-fill (look bs ∷ ps) e m ls n b h = close-fill ps e m ls n b h
  close-fill (if_has q ∷ ps) e m ls n b h = close-fill ps e m ls n b h
  close-fill (if_not q ∷ ps) e m ls n b h = close-fill ps e m ls n b h
  close-fill (one_default ∷ ps) e m ls n b h = close-fill ps e m ls n b h
