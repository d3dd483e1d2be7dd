-- Two right sides with the same tokens, walked side by side. Assumes nothing.
use mathlib.Core.Path.{◌≡◌, refl, sym, ap, ◌∙◌, subst}
use mathlib.Core.Bool.{Bool, true, false, ◌&&◌, ◌||◌, not}
use mathlib.Core.List.{List, [], ◌∷◌, ◌++◌, append_assoc}
use Prim.Native.Nat.{ℕ, zero, suc}
use lib.Dec.{T, eqb, eqb_refl}
use Rattle.std.specs.Prelude.{codes}
use Rattle.def_tree.specs.Tree.{Tree, Forest, nil, cons}
use Rattle.def_file.specs.Script.{same_text}
use Rattle.def_text.specs.Words.{Word, every, among}
use Rattle.def_text.specs.Grammar.{Symbol, Place, Slot, at_slot, Sort, Mode, plus, minus, same, by_mode, Part, word, own, kid, run, commas, more, look, if_has, if_not, one_default, each, each_after, each_between, write_out}
use Rattle.def_text.specs.Table.{code}
use Rattle.def_text.specs.Derives.{fill, begins, sort_ok, barred, token_lists, follows, tokens, tokens_all, derives, children}
use Rattle.laws_text.proofs.Basics.{and_left, and_right, both, T-not, text-refl, text-eq, every-at, some-found, some-from}
use Rattle.laws_text.proofs.Fit.{yes-then, no-then, slots}
use Rattle.laws_reading.specs.Claims.{plain, all_plain, Alike, AllAlike}
use Rattle.laws_reading.proofs.Tests.{zones, rooted, within, both_in, meet, meet_closed, ops, shut, open_ended, covers, sort_class, closers, is_plus, is_same, last, ends_open, after, more_end, nothing, closed, longer, like, first_not, in_zone, all_barred, bad, first_bad, all_single, looked, looked_second, run_end, more_shut, is_tail, near, symbol_ok, owns}
use Rattle.laws_reading.proofs.Tokens.{avoids, avoids-none, avoids-less, avoids-drop, avoids-first, opens, closes-not, token_class, sort-class}

pub headW : List Word → Word
headW [] = []
headW (x ∷ xs) = x

pub tailW : List Word → List Word
tailW [] = []
tailW (x ∷ xs) = xs

pub first-same : (v w : Word) (xs ys : List Word) → v ∷ xs ≡ w ∷ ys → v ≡ w
unfolding headW
first-same v w xs ys e = ap headW e

pub rest-same : (v w : Word) (xs ys : List Word) → v ∷ xs ≡ w ∷ ys → xs ≡ ys
unfolding tailW
rest-same v w xs ys e = ap tailW e

-- ---- what stands behind a child

pub avoids-at : (ws zs ys : List Word) → zs ≡ ys → T (avoids ws zs) → T (avoids ws ys)
avoids-at ws zs ys e h = subst (λ (x : List Word). T (avoids ws x)) e h

no-first : (w : Word) (ws zs ys : List Word) → zs ≡ w ∷ ys → T (avoids (w ∷ ws) zs) → ⊥
no-first w ws zs ys e h = avoids-first w ws ys (avoids-at (w ∷ ws) zs (w ∷ ys) e h)

-- behind a statement before which no `else` is told of none stands
abbrev pub elses : Place → List Word
elses g = elim (open_ended g.symbol) [ true ↦ elim g.has_else [ true ↦ [] | false ↦ codes "else" ∷ [] ] | false ↦ [] ]

pub no-elses : (g : Place) (zs : List Word) → T (not (open_ended g.symbol)) → T (avoids (elses g) zs)
no-elses g zs h = go (open_ended g.symbol) h
  where
    go : (b : Bool) → T (not b) → T (avoids (elim b [ true ↦ elim g.has_else [ true ↦ [] | false ↦ codes "else" ∷ [] ] | false ↦ [] ]) zs)
    go true h = absurd h
    go false h = avoids-none zs

-- the end of a right side stands before these tokens
abbrev pub Tail : Place → List Part → List Word → Type 0
Tail g ps x = T (ends_open ps) → T (open_ended g.symbol) × T (avoids (elses g) x)

last-behind : (x : Slot) (ps : List Part) (zs : List Word) → T (avoids (last (kid x ∷ ps)) zs) → T (avoids (last ps) zs)
last-behind x [] zs h = avoids-none zs
last-behind x (p ∷ ps) zs h = h

tail-behind : (g : Place) (p : Part) (ps : List Part) (zs : List Word) → Tail g (p ∷ ps) zs → Tail g ps zs
tail-behind g p [] zs h = λ t. absurd t
tail-behind g (kid x) (q ∷ ps) zs h = h
tail-behind g p (q ∷ ps) zs h = λ t. h (go p t)
  where
    go : (p : Part) → T (ends_open (q ∷ ps)) → T (ends_open (p ∷ q ∷ ps))
    go (word w) t = t
    go (own s) t = t
    go (kid x) t = t
    go (run x) t = t
    go (commas x) t = t
    go (more x) t = t
    go (look bs) t = t
    go (if_has r) t = t
    go (if_not r) t = t
    go one_default t = t

no-word : (ws : List Word) (zs : List Word) → T (nothing ws) → T (avoids ws zs)
no-word [] zs h = avoids-none zs
no-word (w ∷ ws) zs h = absurd h

after-avoids : (o : Word) (m : ℕ) (x : Slot) (ps : List Part) (ls : List (List Word)) (zs : List Word) → T (after x ps) → T (avoids (last (kid x ∷ ps)) zs) → T (avoids (shut x.symbol) (fill o (write_out m ps) ls ++ zs))
after-avoids o m x [] ls zs h k = k
after-avoids o m x (word w ∷ ps) ls zs h k = and_left (not (among w (shut x.symbol))) (is_plus x.else_mode || not (open_ended x.symbol) || not (same_text w (codes "else"))) h
after-avoids o m x (own s ∷ ps) ls zs h k = absurd h
after-avoids o m x (kid y ∷ ps) ls zs h k = no-word (shut x.symbol) (fill o (kid y ∷ write_out m ps) ls ++ zs) (and_left (nothing (shut x.symbol)) (not (open_ended x.symbol)) h)
after-avoids o m x (run y ∷ ps) ls zs h k = absurd h
after-avoids o m x (commas y ∷ ps) ls zs h k = absurd h
after-avoids o m x (more y ∷ ps) ls zs h k =
    let h2 = and_left (not (open_ended x.symbol) && not (among (codes ",") (shut x.symbol))) (more_end x y ps) h in
    go m ps (and_right (not (open_ended x.symbol) && not (among (codes ",") (shut x.symbol))) (more_end x y ps) h) k (and_right (not (open_ended x.symbol)) (not (among (codes ",") (shut x.symbol))) h2)
  where
    go : (m : ℕ) (ps : List Part) → T (more_end x y ps) → T (avoids (last (kid x ∷ more y ∷ ps)) zs) → T (not (among (codes ",") (shut x.symbol))) → T (avoids (shut x.symbol) (fill o (each_after y m (write_out m ps)) ls ++ zs))
    go (suc m) ps e k c = c
    go zero [] e k c = avoids-less (shut y.symbol) (shut x.symbol) zs e (avoids-drop (codes ",") (shut y.symbol) zs k)
    go zero (word w ∷ ps) e k c = e
    go zero ps e k c = absurd e
after-avoids o m x (look bs ∷ ps) ls zs h k = absurd h
after-avoids o m x (if_has p ∷ ps) ls zs h k = absurd h
after-avoids o m x (if_not p ∷ ps) ls zs h k = absurd h
after-avoids o m x (one_default ∷ ps) ls zs h k = absurd h

same-else : (g : Place) (x : Slot) (zs : List Word) → T (is_same x.else_mode) → T (open_ended g.symbol) → T (avoids (elses g) zs) → T (avoids (elses (at_slot g x)) zs)
same-else g x zs s o h = go x.else_mode (open_ended g.symbol) (open_ended x.symbol) s o h
  where
    go : (e : Mode) (b c : Bool) → T (is_same e) → T b → T (avoids (elim b [ true ↦ elim g.has_else [ true ↦ [] | false ↦ codes "else" ∷ [] ] | false ↦ [] ]) zs)
        → T (avoids (elim c [ true ↦ elim (by_mode e g.has_else) [ true ↦ [] | false ↦ codes "else" ∷ [] ] | false ↦ [] ]) zs)
    go plus b c s o h = absurd s
    go minus b c s o h = absurd s
    go same true true s o h = h
    go same true false s o h = avoids-none zs
    go same false c s o h = absurd o

or-split : (p q : Bool) (A : Type 0) → T (p || q) → (T p → A) → (T q → A) → A
or-split true q A h f g = f tt
or-split false q A h f g = g h

plus-else : (g : Place) (x : Slot) (zs : List Word) → T (is_plus x.else_mode) → T (avoids (elses (at_slot g x)) zs)
plus-else g x zs h = go x.else_mode (open_ended x.symbol) h
  where
    go : (e : Mode) (c : Bool) → T (is_plus e) → T (avoids (elim c [ true ↦ elim (by_mode e g.has_else) [ true ↦ [] | false ↦ codes "else" ∷ [] ] | false ↦ [] ]) zs)
    go plus true h = avoids-none zs
    go plus false h = avoids-none zs
    go minus c h = absurd h
    go same c h = absurd h

word-else : (g : Place) (w : Word) (zs : List Word) → T (not (same_text w (codes "else"))) → T (avoids (elses g) (w ∷ zs))
word-else g w zs h = go (open_ended g.symbol) g.has_else
  where
    two : (b : Bool) → T (not b) → T (not (elim b [ true ↦ true | false ↦ false ]))
    two true h = h
    two false h = tt

    go : (b c : Bool) → T (avoids (elim b [ true ↦ elim c [ true ↦ [] | false ↦ codes "else" ∷ [] ] | false ↦ [] ]) (w ∷ zs))
    go true true = tt
    go true false = two (same_text w (codes "else")) h
    go false c = tt

after-elses : (g : Place) (o : Word) (m : ℕ) (x : Slot) (ps : List Part) (ls : List (List Word)) (zs : List Word) → T (after x ps) → Tail g (kid x ∷ ps) zs → T (avoids (elses (at_slot g x)) (fill o (write_out m ps) ls ++ zs))
after-elses g o m x [] ls zs h k = go (open_ended x.symbol) refl h k
  where
    go : (b : Bool) → open_ended x.symbol ≡ b → T (is_same x.else_mode || not b) → (T b → T (open_ended g.symbol) × T (avoids (elses g) zs)) → T (avoids (elses (at_slot g x)) zs)
    go true e h k = or-split (is_same x.else_mode) false (T (avoids (elses (at_slot g x)) zs)) h (λ s. let t = k tt in same-else g x zs s t.0 t.1) (λ s. absurd s)
    go false e h k = no-elses (at_slot g x) zs (subst (λ (b : Bool). T (not b)) (sym e) tt)
after-elses g o m x (word w ∷ ps) ls zs h k =
    let q = and_right (not (among w (shut x.symbol))) (is_plus x.else_mode || not (open_ended x.symbol) || not (same_text w (codes "else"))) h in
    go (is_plus x.else_mode) (not (open_ended x.symbol)) (not (same_text w (codes "else"))) q (λ t. plus-else g x (w ∷ (fill o (write_out m ps) ls ++ zs)) t) (λ t. no-elses (at_slot g x) (w ∷ (fill o (write_out m ps) ls ++ zs)) t) (λ t. word-else (at_slot g x) w (fill o (write_out m ps) ls ++ zs) t)
  where
    go : (a b c : Bool) {A : Type 0} → T (a || b || c) → (T a → A) → (T b → A) → (T c → A) → A
    go true b c h x y z = x tt
    go false true c h x y z = y tt
    go false false true h x y z = z tt
    go false false false h x y z = absurd h
after-elses g o m x (own s ∷ ps) ls zs h k = absurd h
after-elses g o m x (kid y ∷ ps) ls zs h k = no-elses (at_slot g x) (fill o (kid y ∷ write_out m ps) ls ++ zs) (and_right (nothing (shut x.symbol)) (not (open_ended x.symbol)) h)
after-elses g o m x (run y ∷ ps) ls zs h k = absurd h
after-elses g o m x (commas y ∷ ps) ls zs h k = absurd h
after-elses g o m x (more y ∷ ps) ls zs h k = no-elses (at_slot g x) (fill o (each_after y m (write_out m ps)) ls ++ zs) (and_left (not (open_ended x.symbol)) (not (among (codes ",") (shut x.symbol))) (and_left (not (open_ended x.symbol) && not (among (codes ",") (shut x.symbol))) (more_end x y ps) h))
after-elses g o m x (look bs ∷ ps) ls zs h k = absurd h
after-elses g o m x (if_has p ∷ ps) ls zs h k = absurd h
after-elses g o m x (if_not p ∷ ps) ls zs h k = absurd h
after-elses g o m x (one_default ∷ ps) ls zs h k = absurd h

-- a list of children with a comma before each, and behind it what shuts a child
more-avoids : (o : Word) (x : Slot) (m : ℕ) (ps : List Part) (ls : List (List Word)) (zs : List Word) → T (not (among (codes ",") (shut x.symbol))) → ((ls : List (List Word)) → T (avoids (shut x.symbol) (fill o ps ls ++ zs)))
    → T (avoids (shut x.symbol) (fill o (each_after x m ps) ls ++ zs))
more-avoids o x zero ps ls zs c h = h ls
more-avoids o x (suc m) ps ls zs c h = c

pub meet-sym : (x y : Symbol) → T (meet x y) → T (meet y x)
meet-sym x y h =
    let f = some-found (both_in x y) zones h in
    let c = f.one in
    let a = and_left (rooted c x && within c x && rooted c y) (within c y) f.passes in
    let b = and_left (rooted c x && within c x) (rooted c y) a in
    some-from (both_in y x) c zones f.inside
    (both (rooted c y && within c y && rooted c x) (within c x)
    (both (rooted c y && within c y) (rooted c x)
    (both (rooted c y) (within c y) (and_right (rooted c x && within c x) (rooted c y) a) (and_right (rooted c x && within c x && rooted c y) (within c y) f.passes))
    (and_left (rooted c x) (within c x) b)) (and_right (rooted c x) (within c x) b))

module _ (spell : ℕ → ℕ → Word) where
  -- a tree that stands at a place
  pub record Here (u : Tree) (g : Place) : Type 0 where
    pub fine : T (symbol_ok g.symbol)
    pub plain : T (plain u)
    pub derived : T (derives spell u g)

  pub record Whole (u v : Tree) (x y : List Word) : Type 0 where
    pub alike : Alike spell u v
    pub rest : x ≡ y

  -- its tokens are read in one way where what follows does not go on
  abbrev pub One : Tree → Type 0
  One u = (v : Tree) (g h : Place) (x y : List Word) → Here u g → Here v h → T (meet g.symbol h.symbol) → T (avoids (shut g.symbol) x) → T (avoids (ops h.symbol) x)
      → T (avoids (shut h.symbol) y) → T (avoids (ops g.symbol) y) → T (avoids (elses g) x) → T (avoids (elses h) y) → tokens spell u ++ x ≡ tokens spell v ++ y → Whole u v x y

  abbrev pub AllOne : Forest → Type 0
  AllOne nil = Unit {0}
  AllOne (cons t ts) = One t × AllOne ts

  -- children, by a right side that is written out
  pub record Side (g : Place) (o : Word) (ps : List Part) (us : Forest) : Type 0 where
    pub plain : T (all_plain us)
    pub followed : T (follows g o ps (children spell us))

  pub record Res (e w : Bool) (o o' : Word) (us vs : Forest) (x y : List Word) : Type 0 where
    pub same : T e
    pub own-same : T w → o ≡ o'
    pub alike : AllAlike spell us vs
    pub rest : x ≡ y

  -- no closing bracket begins a tree
  abbrev pub Opens : Type 0
  Opens = (u : Tree) (g : Place) (x : List Word) → Here u g → T (opens (tokens spell u ++ x))

  -- what does not begin a tree; and what does, where all that does is barred
  pub record Starts : Type 0 where
    pub opening : Opens
    pub first : (u : Tree) (g : Place) (x ys : List Word) (w : Word) → Here u g → T (first_not g.symbol w) → tokens spell u ++ x ≡ w ∷ ys → ⊥
    pub bad-first : (u : Tree) (g : Place) (x : List Word) (w : Word) (bs : List (List Word)) → Here u g → T (first_bad w bs g.symbol) → (t : Word) × (ys : List Word) × (tokens spell u ++ x ≡ t ∷ ys) × T (bad t || barred bs (w ∷ t ∷ []))
    pub second : (u : Tree) (g : Place) (w d t : Word) (z zs : List Word) → Here u g → T (in_zone (all_single w) g.symbol) → T (not (bad d)) → tokens spell u ++ (d ∷ z) ≡ w ∷ t ∷ zs → T (not (bad t))
    pub bars : (u : Tree) (g : Place) (x : List Word) (bs : List (List Word)) → Here u g → T (in_zone (all_barred bs) g.symbol) → (w : Word) × (ys : List Word) × (tokens spell u ++ x ≡ w ∷ ys) × T (barred bs (w ∷ []))

  kid-of : (g : Place) (o : Word) (x : Slot) (ps : List Part) (u : Tree) (us : Forest) → T (symbol_ok x.symbol) → Side g o (kid x ∷ ps) (cons u us) → Here u (at_slot g x)
  kid-of g o x ps u us f s = record { fine = f; plain = and_left (plain u) (all_plain us) s.plain; derived = (yes-then (derives spell u (at_slot g x)) (follows g o ps (children spell us)) s.followed).0 }

  rest-of : (g : Place) (o : Word) (x : Slot) (ps : List Part) (u : Tree) (us : Forest) → Side g o (kid x ∷ ps) (cons u us) → Side g o ps us
  rest-of g o x ps u us s = record { plain = and_right (plain u) (all_plain us) s.plain; followed = (yes-then (derives spell u (at_slot g x)) (follows g o ps (children spell us)) s.followed).1 }

  with-kid : (e w : Bool) (o o' : Word) (u v : Tree) (us vs : Forest) (x y : List Word) → Alike spell u v → Res e w o o' us vs x y → Res e w o o' (cons u us) (cons v vs) x y
  with-kid e w o o' u v us vs x y a r = record { same = r.same; own-same = r.own-same; alike = (a, r.alike); rest = r.rest }

  -- a child on both sides
  kids-same : (o o' : Word) (g g' : Place) (p q : Slot) (ps qs : List Part) (u v : Tree) (us vs : Forest) (x y : List Word) → One u → T (symbol_ok p.symbol) → T (symbol_ok q.symbol) → T (like p q)
      → Side g o (kid p ∷ ps) (cons u us) → Side g' o' (kid q ∷ qs) (cons v vs)
      → T (avoids (shut p.symbol) (fill o ps (tokens_all spell us) ++ x)) → T (avoids (shut q.symbol) (fill o' qs (tokens_all spell vs) ++ y))
      → T (avoids (elses (at_slot g p)) (fill o ps (tokens_all spell us) ++ x)) → T (avoids (elses (at_slot g' q)) (fill o' qs (tokens_all spell vs) ++ y))
      → fill o (kid p ∷ ps) (tokens_all spell (cons u us)) ++ x ≡ fill o' (kid q ∷ qs) (tokens_all spell (cons v vs)) ++ y
      → Whole u v (fill o ps (tokens_all spell us) ++ x) (fill o' qs (tokens_all spell vs) ++ y)
  kids-same o o' g g' p q ps qs u v us vs x y one f f' l s s' a b ae be e =
      let x1 = fill o ps (tokens_all spell us) ++ x in
      let y1 = fill o' qs (tokens_all spell vs) ++ y in
      let l1 = and_left (meet p.symbol q.symbol && covers (shut p.symbol) (ops q.symbol)) (covers (shut q.symbol) (ops p.symbol)) l in
      one v (at_slot g p) (at_slot g' q) x1 y1 (kid-of g o p ps u us f s) (kid-of g' o' q qs v vs f' s')
      ((and_left (meet p.symbol q.symbol) (covers (shut p.symbol) (ops q.symbol)) l1))
      a (avoids-less (shut p.symbol) (ops q.symbol) x1 (and_right (meet p.symbol q.symbol) (covers (shut p.symbol) (ops q.symbol)) l1) a)
      b (avoids-less (shut q.symbol) (ops p.symbol) y1 (and_right (meet p.symbol q.symbol && covers (shut p.symbol) (ops q.symbol)) (covers (shut q.symbol) (ops p.symbol)) l) b)
      ae be (sym (append_assoc (tokens spell u) (fill o ps (tokens_all spell us)) x) ∙ e ∙ append_assoc (tokens spell v) (fill o' qs (tokens_all spell vs)) y)

  -- ---- lists

  -- what stands behind a list of children
  pub record Stop (g : Place) (o : Word) (p : Slot) (ps : List Part) (x : List Word) : Type 0 where
    pub free : (ls : List (List Word)) → T (avoids (shut p.symbol) (fill o ps ls ++ x))
    pub elseless : (ls : List (List Word)) → T (avoids (elses (at_slot g p)) (fill o ps ls ++ x))

  more-stop : (g : Place) (o : Word) (p : Slot) (m : ℕ) (ps : List Part) (x : List Word) → T (not (among (codes ",") (shut p.symbol))) → Stop g o p ps x → Stop g o p (each_after p m ps) x
  more-stop g o p zero ps x c s = s
  more-stop g o p (suc m) ps x c s = record { free = λ ls. c; elseless = λ ls. word-else (at_slot g p) (codes ",") (fill o (kid p ∷ each_after p m ps) ls ++ x) tt }

  module _ (e w : Bool) (o o' : Word) (g g' : Place) (p q : Slot) (ps qs : List Part) (x y : List Word) (f : T (symbol_ok p.symbol)) (f' : T (symbol_ok q.symbol)) (l : T (like p q)) (st : Stop g o p ps x) (st' : Stop g' o' q qs y)
      (end : (us vs : Forest) → AllOne us → Side g o ps us → Side g' o' qs vs → fill o ps (tokens_all spell us) ++ x ≡ fill o' qs (tokens_all spell vs) ++ y → Res e w o o' us vs x y) where
    module _ (pc : T (not (among (codes ",") (shut p.symbol)))) (qc : T (not (among (codes ",") (shut q.symbol)))) (nc : (ls : List (List Word)) (zs : List Word) → fill o ps ls ++ x ≡ codes "," ∷ zs → ⊥) (nc' : (ls : List (List Word)) (zs : List Word) → fill o' qs ls ++ y ≡ codes "," ∷ zs → ⊥) where
      commas-after : (m n : ℕ) (us vs : Forest) → AllOne us → Side g o (each_after p m ps) us → Side g' o' (each_after q n qs) vs
          → fill o (each_after p m ps) (tokens_all spell us) ++ x ≡ fill o' (each_after q n qs) (tokens_all spell vs) ++ y → Res e w o o' us vs x y
      commas-after zero zero us vs a s s' h = end us vs a s s' h
      commas-after zero (suc n) us vs a s s' h = absurd (nc (tokens_all spell us) _ h)
      commas-after (suc m) zero us vs a s s' h = absurd (nc' (tokens_all spell vs) _ (sym h))
      commas-after (suc m) (suc n) nil vs a s s' h = absurd s.followed
      commas-after (suc m) (suc n) (cons u us) nil a s s' h = absurd s'.followed
      commas-after (suc m) (suc n) (cons u us) (cons v vs) a s s' h =
          let t : Side g o (kid p ∷ each_after p m ps) (cons u us) = record { plain = s.plain; followed = s.followed } in
          let t' : Side g' o' (kid q ∷ each_after q n qs) (cons v vs) = record { plain = s'.plain; followed = s'.followed } in
          let k = more-stop g o p m ps x pc st in
          let k' = more-stop g' o' q n qs y qc st' in
          let r = kids-same o o' g g' p q (each_after p m ps) (each_after q n qs) u v us vs x y a.0 f f' l t t'
          (k.free (tokens_all spell us)) (k'.free (tokens_all spell vs)) (k.elseless (tokens_all spell us)) (k'.elseless (tokens_all spell vs)) (rest-same (codes ",") (codes ",") _ _ h) in
          with-kid e w o o' u v us vs x y r.alike (commas-after m n us vs a.1 (rest-of g o p (each_after p m ps) u us t) (rest-of g' o' q (each_after q n qs) v vs t') r.rest)

      commas-both : Opens → ((ls : List (List Word)) (zs : List Word) → fill o ps ls ++ x ≡ zs → T (opens zs) → ⊥) → ((ls : List (List Word)) (zs : List Word) → fill o' qs ls ++ y ≡ zs → T (opens zs) → ⊥) → (m n : ℕ) (us vs : Forest) → AllOne us
          → Side g o (each_between p m ps) us → Side g' o' (each_between q n qs) vs
          → fill o (each_between p m ps) (tokens_all spell us) ++ x ≡ fill o' (each_between q n qs) (tokens_all spell vs) ++ y → Res e w o o' us vs x y
      commas-both op na nb zero zero us vs a s s' h = end us vs a s s' h
      commas-both op na nb zero (suc n) us nil a s s' h = absurd s'.followed
      commas-both op na nb zero (suc n) us (cons v vs) a s s' h =
          absurd (na (tokens_all spell us) _ (h ∙ append_assoc (tokens spell v) (fill o' (each_after q n qs) (tokens_all spell vs)) y) (op v (at_slot g' q) (fill o' (each_after q n qs) (tokens_all spell vs) ++ y) (kid-of g' o' q (each_after q n qs) v vs f' s')))
      commas-both op na nb (suc m) zero nil vs a s s' h = absurd s.followed
      commas-both op na nb (suc m) zero (cons u us) vs a s s' h =
          absurd (nb (tokens_all spell vs) _ (sym h ∙ append_assoc (tokens spell u) (fill o (each_after p m ps) (tokens_all spell us)) x) (op u (at_slot g p) (fill o (each_after p m ps) (tokens_all spell us) ++ x) (kid-of g o p (each_after p m ps) u us f s)))
      commas-both op na nb (suc m) (suc n) nil vs a s s' h = absurd s.followed
      commas-both op na nb (suc m) (suc n) (cons u us) nil a s s' h = absurd s'.followed
      commas-both op na nb (suc m) (suc n) (cons u us) (cons v vs) a s s' h =
          let k = more-stop g o p m ps x pc st in
          let k' = more-stop g' o' q n qs y qc st' in
          let r = kids-same o o' g g' p q (each_after p m ps) (each_after q n qs) u v us vs x y a.0 f f' l s s'
          (k.free (tokens_all spell us)) (k'.free (tokens_all spell vs)) (k.elseless (tokens_all spell us)) (k'.elseless (tokens_all spell vs)) h in
          with-kid e w o o' u v us vs x y r.alike (commas-after m n us vs a.1 (rest-of g o p (each_after p m ps) u us s) (rest-of g' o' q (each_after q n qs) v vs s') r.rest)

    -- children one after the other; k: none begins so that it may not follow one
    module _ (op : Opens) (k : (u : Tree) (z : List Word) → Here u (at_slot g p) → T (avoids (shut p.symbol) (tokens spell u ++ z)) × T (avoids (elses (at_slot g p)) (tokens spell u ++ z)))
        (k' : (u : Tree) (z : List Word) → Here u (at_slot g' q) → T (avoids (shut q.symbol) (tokens spell u ++ z)) × T (avoids (elses (at_slot g' q)) (tokens spell u ++ z)))
        (na : (ls : List (List Word)) (zs : List Word) → fill o ps ls ++ x ≡ zs → T (opens zs) → ⊥) (nb : (ls : List (List Word)) (zs : List Word) → fill o' qs ls ++ y ≡ zs → T (opens zs) → ⊥) where
      run-left : (m : ℕ) (us : Forest) → Side g o (each p m ps) us → T (avoids (shut p.symbol) (fill o (each p m ps) (tokens_all spell us) ++ x)) × T (avoids (elses (at_slot g p)) (fill o (each p m ps) (tokens_all spell us) ++ x))
      run-left zero us s = (st.free (tokens_all spell us), st.elseless (tokens_all spell us))
      run-left (suc m) nil s = absurd s.followed
      run-left (suc m) (cons u us) s =
          let a = sym (append_assoc (tokens spell u) (fill o (each p m ps) (tokens_all spell us)) x) in
          let r = k u (fill o (each p m ps) (tokens_all spell us) ++ x) (kid-of g o p (each p m ps) u us f s) in
          (avoids-at (shut p.symbol) _ _ a r.0, avoids-at (elses (at_slot g p)) _ _ a r.1)

      run-right : (n : ℕ) (vs : Forest) → Side g' o' (each q n qs) vs → T (avoids (shut q.symbol) (fill o' (each q n qs) (tokens_all spell vs) ++ y)) × T (avoids (elses (at_slot g' q)) (fill o' (each q n qs) (tokens_all spell vs) ++ y))
      run-right zero vs s = (st'.free (tokens_all spell vs), st'.elseless (tokens_all spell vs))
      run-right (suc n) nil s = absurd s.followed
      run-right (suc n) (cons v vs) s =
          let a = sym (append_assoc (tokens spell v) (fill o' (each q n qs) (tokens_all spell vs)) y) in
          let r = k' v (fill o' (each q n qs) (tokens_all spell vs) ++ y) (kid-of g' o' q (each q n qs) v vs f' s) in
          (avoids-at (shut q.symbol) _ _ a r.0, avoids-at (elses (at_slot g' q)) _ _ a r.1)

      pub runs-both : (m n : ℕ) (us vs : Forest) → AllOne us → Side g o (each p m ps) us → Side g' o' (each q n qs) vs
          → fill o (each p m ps) (tokens_all spell us) ++ x ≡ fill o' (each q n qs) (tokens_all spell vs) ++ y → Res e w o o' us vs x y
      runs-both zero zero us vs a s s' h = end us vs a s s' h
      runs-both zero (suc n) us nil a s s' h = absurd s'.followed
      runs-both zero (suc n) us (cons v vs) a s s' h =
          absurd (na (tokens_all spell us) _ (h ∙ append_assoc (tokens spell v) (fill o' (each q n qs) (tokens_all spell vs)) y) (op v (at_slot g' q) (fill o' (each q n qs) (tokens_all spell vs) ++ y) (kid-of g' o' q (each q n qs) v vs f' s')))
      runs-both (suc m) zero nil vs a s s' h = absurd s.followed
      runs-both (suc m) zero (cons u us) vs a s s' h =
          absurd (nb (tokens_all spell vs) _ (sym h ∙ append_assoc (tokens spell u) (fill o (each p m ps) (tokens_all spell us)) x) (op u (at_slot g p) (fill o (each p m ps) (tokens_all spell us) ++ x) (kid-of g o p (each p m ps) u us f s)))
      runs-both (suc m) (suc n) nil vs a s s' h = absurd s.followed
      runs-both (suc m) (suc n) (cons u us) nil a s s' h = absurd s'.followed
      runs-both (suc m) (suc n) (cons u us) (cons v vs) a s s' h =
          let i = run-left m us (rest-of g o p (each p m ps) u us s) in
          let i' = run-right n vs (rest-of g' o' q (each q n qs) v vs s') in
          let r = kids-same o o' g g' p q (each p m ps) (each q n qs) u v us vs x y a.0 f f' l s s' i.0 i'.0 i.1 i'.1 h in
          with-kid e w o o' u v us vs x y r.alike (runs-both m n us vs a.1 (rest-of g o p (each p m ps) u us s) (rest-of g' o' q (each q n qs) v vs s') r.rest)

  -- ---- one child more, and a token behind it

  no-longer : (o' : Word) (g g' : Place) (p q : Slot) (t : Word) (u v : Tree) (x y : List Word) → One u → Here u (at_slot g p) → Here v (at_slot g' q)
      → T (among t (shut p.symbol) && not (among t (ops p.symbol)) && not (among t (shut q.symbol)) && covers (shut p.symbol) (ops q.symbol) && meet_closed p.symbol q.symbol)
      → T (avoids (shut p.symbol) x) → tokens spell u ++ x ≡ tokens spell v ++ (t ∷ y) → ⊥
  no-longer o' g g' p q t u v x y one a b h ax e =
      let h4 = and_left (among t (shut p.symbol) && not (among t (ops p.symbol)) && not (among t (shut q.symbol)) && covers (shut p.symbol) (ops q.symbol)) (meet_closed p.symbol q.symbol) h in
      let h3 = and_left (among t (shut p.symbol) && not (among t (ops p.symbol)) && not (among t (shut q.symbol))) (covers (shut p.symbol) (ops q.symbol)) h4 in
      let h2 = and_left (among t (shut p.symbol) && not (among t (ops p.symbol))) (not (among t (shut q.symbol))) h3 in
      let md = and_right (among t (shut p.symbol) && not (among t (ops p.symbol)) && not (among t (shut q.symbol)) && covers (shut p.symbol) (ops q.symbol)) (meet_closed p.symbol q.symbol) h in
      let mc = and_left (meet p.symbol q.symbol && not (open_ended p.symbol)) (not (open_ended q.symbol)) md in
      let r = one v (at_slot g p) (at_slot g' q) x (t ∷ y) a b (and_left (meet p.symbol q.symbol) (not (open_ended p.symbol)) mc)
      ax (avoids-less (shut p.symbol) (ops q.symbol) x (and_right (among t (shut p.symbol) && not (among t (ops p.symbol)) && not (among t (shut q.symbol))) (covers (shut p.symbol) (ops q.symbol)) h4) ax)
      (and_right (among t (shut p.symbol) && not (among t (ops p.symbol))) (not (among t (shut q.symbol))) h3) (and_right (among t (shut p.symbol)) (not (among t (ops p.symbol))) h2)
      (no-elses (at_slot g p) x (and_right (meet p.symbol q.symbol) (not (open_ended p.symbol)) mc)) (no-elses (at_slot g' q) (t ∷ y) (and_right (meet p.symbol q.symbol && not (open_ended p.symbol)) (not (open_ended q.symbol)) md)) e in
      T-not (among t (shut p.symbol)) (avoids-at (shut p.symbol) x (t ∷ y) r.rest ax) (and_left (among t (shut p.symbol)) (not (among t (ops p.symbol))) h2)

  no-longer-left : (g g' : Place) (p q : Slot) (t : Word) (u v : Tree) (x y : List Word) → One u → Here u (at_slot g p) → Here v (at_slot g' q)
      → T (among t (shut q.symbol) && not (among t (ops q.symbol)) && not (among t (shut p.symbol)) && covers (shut q.symbol) (ops p.symbol) && meet_closed q.symbol p.symbol)
      → T (avoids (shut q.symbol) y) → tokens spell u ++ (t ∷ x) ≡ tokens spell v ++ y → ⊥
  no-longer-left g g' p q t u v x y one a b h ay e =
      let h4 = and_left (among t (shut q.symbol) && not (among t (ops q.symbol)) && not (among t (shut p.symbol)) && covers (shut q.symbol) (ops p.symbol)) (meet_closed q.symbol p.symbol) h in
      let h3 = and_left (among t (shut q.symbol) && not (among t (ops q.symbol)) && not (among t (shut p.symbol))) (covers (shut q.symbol) (ops p.symbol)) h4 in
      let h2 = and_left (among t (shut q.symbol) && not (among t (ops q.symbol))) (not (among t (shut p.symbol))) h3 in
      let md = and_right (among t (shut q.symbol) && not (among t (ops q.symbol)) && not (among t (shut p.symbol)) && covers (shut q.symbol) (ops p.symbol)) (meet_closed q.symbol p.symbol) h in
      let mc = and_left (meet q.symbol p.symbol && not (open_ended q.symbol)) (not (open_ended p.symbol)) md in
      let r = one v (at_slot g p) (at_slot g' q) (t ∷ x) y a b (meet-sym q.symbol p.symbol (and_left (meet q.symbol p.symbol) (not (open_ended q.symbol)) mc))
      (and_right (among t (shut q.symbol) && not (among t (ops q.symbol))) (not (among t (shut p.symbol))) h3) (and_right (among t (shut q.symbol)) (not (among t (ops q.symbol))) h2)
      ay (avoids-less (shut q.symbol) (ops p.symbol) y (and_right (among t (shut q.symbol) && not (among t (ops q.symbol)) && not (among t (shut p.symbol))) (covers (shut q.symbol) (ops p.symbol)) h4) ay)
      (no-elses (at_slot g p) (t ∷ x) (and_right (meet q.symbol p.symbol && not (open_ended q.symbol)) (not (open_ended p.symbol)) md)) (no-elses (at_slot g' q) y (and_right (meet q.symbol p.symbol) (not (open_ended q.symbol)) mc)) e in
      T-not (among t (shut q.symbol)) (avoids-at (shut q.symbol) y (t ∷ x) (sym r.rest) ay) (and_left (among t (shut q.symbol)) (not (among t (ops q.symbol))) h2)

  -- ---- the walk

  two-words : (e : Bool) (l1 l2 : List Word) (ps qs : List Part) (v w : Word) (b : Bool) → same_text v w ≡ b → v ≡ w → T (elim b [ true ↦ near e l1 l2 ps qs | false ↦ true ]) → T (near e l1 l2 ps qs)
  two-words e l1 l2 ps qs v w true k h n = n
  two-words e l1 l2 ps qs v w false k h n = absurd (subst T k (subst (λ (z : Word). T (same_text v z)) h (text-refl v)))

  word-own : (w o : Word) (s : Sort) → w ≡ o → T (not (sort_ok s w)) → T (sort_ok s o) → ⊥
  word-own w o s e n h = T-not (sort_ok s w) n (subst (λ (z : Word). T (sort_ok s z)) (sym e) h)

  two-owns : (e : Bool) (l1 l2 : List Word) (ps qs : List Part) (s t : Sort) (o o' : Word) → T (sort_ok s o) → T (sort_ok t o') → o ≡ o' → (b : Bool) → eqb (sort_class s) (sort_class t) ≡ b → T (elim b [ true ↦ near e l1 l2 ps qs | false ↦ true ]) → T (near e l1 l2 ps qs)
  two-owns e l1 l2 ps qs s t o o' h h' k true q n = n
  two-owns e l1 l2 ps qs s t o o' h h' k false q n =
      absurd (subst T q (subst (λ (i : ℕ). T (eqb (sort_class s) i)) (sym (sort-class s o h) ∙ ap token_class k ∙ sort-class t o' h') (eqb_refl (sort_class s))))

  apart-right : (o o' : Word) (g g' : Place) (m m' : ℕ) (p q : Slot) (ps qs : List Part) (u v : Tree) (us vs : Forest) (x y : List Word) → One u → Here u (at_slot g p) → Here v (at_slot g' q) → T (longer p ps q qs)
      → T (avoids (last (kid p ∷ ps)) x)
      → fill o (kid p ∷ write_out m ps) (tokens_all spell (cons u us)) ++ x ≡ fill o' (kid q ∷ write_out m' qs) (tokens_all spell (cons v vs)) ++ y → ⊥
  apart-right o o' g g' m m' p q [] (word w ∷ qs) u v us vs x y one a b h ax e =
      no-longer o' g g' p q w u v x (fill o' (write_out m' qs) (tokens_all spell vs) ++ y) one a b h ax
      (sym (append_assoc (tokens spell u) [] x) ∙ e ∙ append_assoc (tokens spell v) (fill o' (word w ∷ write_out m' qs) (tokens_all spell vs)) y)
  apart-right o o' g g' m m' p q ps qs u v us vs x y one a b h ax e = absurd h

  apart-left : (o o' : Word) (g g' : Place) (m m' : ℕ) (p q : Slot) (qs ps : List Part) (u v : Tree) (us vs : Forest) (x y : List Word) → One u → Here u (at_slot g p) → Here v (at_slot g' q) → T (longer q qs p ps)
      → T (avoids (last (kid q ∷ qs)) y)
      → fill o (kid p ∷ write_out m ps) (tokens_all spell (cons u us)) ++ x ≡ fill o' (kid q ∷ write_out m' qs) (tokens_all spell (cons v vs)) ++ y → ⊥
  apart-left o o' g g' m m' p q [] (word w ∷ ps) u v us vs x y one a b h ay e =
      no-longer-left g g' p q w u v (fill o (write_out m ps) (tokens_all spell us) ++ x) y one a b h ay
      (sym (append_assoc (tokens spell u) (fill o (word w ∷ write_out m ps) (tokens_all spell us)) x) ∙ e ∙ append_assoc (tokens spell v) [] y)
  apart-left o o' g g' m m' p q qs ps u v us vs x y one a b h ay e = absurd h

  or-not : (p q : Bool) → T (p || q) → (T p → ⊥) → (T q → ⊥) → ⊥
  or-not true q h f g = f tt
  or-not false q h f g = g h

  abbrev Walked : List Part → Type 0
  Walked ps = (e : Bool) (l1 l2 : List Word) (o o' : Word) (g g' : Place) (m m' : ℕ) (qs : List Part) (us vs : Forest) (x y : List Word) → AllOne us → T (slots (λ z. symbol_ok z.symbol) ps) → T (slots (λ z. symbol_ok z.symbol) qs)
      → Side g o (write_out m ps) us → Side g' o' (write_out m' qs) vs → T (near e l1 l2 ps qs) → T (avoids l1 x) → T (avoids l2 y) → Tail g ps x → Tail g' qs y → T (avoids (last ps) x) → T (avoids (last qs) y)
      → fill o (write_out m ps) (tokens_all spell us) ++ x ≡ fill o' (write_out m' qs) (tokens_all spell vs) ++ y → Res e (owns ps) o o' us vs x y

  -- a child on both sides, at one symbol or not
  both-kids : (e : Bool) (l1 l2 : List Word) (o o' : Word) (g g' : Place) (m m' : ℕ) (p q : Slot) (ps qs : List Part) (u v : Tree) (us vs : Forest) (x y : List Word) → Walked ps → One u → AllOne us
      → T (symbol_ok p.symbol) → T (symbol_ok q.symbol) → T (slots (λ z. symbol_ok z.symbol) ps) → T (slots (λ z. symbol_ok z.symbol) qs)
      → Side g o (kid p ∷ write_out m ps) (cons u us) → Side g' o' (kid q ∷ write_out m' qs) (cons v vs)
      → (b : Bool) → T (elim b [ true ↦ like p q && after p ps && after q qs && near e l1 l2 ps qs | false ↦ longer p ps q qs || longer q qs p ps ]) → T (avoids l1 x) → T (avoids l2 y) → Tail g (kid p ∷ ps) x → Tail g' (kid q ∷ qs) y → T (avoids (last (kid p ∷ ps)) x) → T (avoids (last (kid q ∷ qs)) y)
      → fill o (kid p ∷ write_out m ps) (tokens_all spell (cons u us)) ++ x ≡ fill o' (kid q ∷ write_out m' qs) (tokens_all spell (cons v vs)) ++ y → Res e (owns ps) o o' (cons u us) (cons v vs) x y
  both-kids e l1 l2 o o' g g' m m' p q ps qs u v us vs x y walk one all f f' sl sl' s s' true n b1 b2 t1 t2 ax ay h =
      let n3 = and_left (like p q && after p ps && after q qs) (near e l1 l2 ps qs) n in
      let n2 = and_left (like p q && after p ps) (after q qs) n3 in
      let r = kids-same o o' g g' p q (write_out m ps) (write_out m' qs) u v us vs x y one f f' (and_left (like p q) (after p ps) n2) s s'
      (after-avoids o m p ps (tokens_all spell us) x (and_right (like p q) (after p ps) n2) ax) (after-avoids o' m' q qs (tokens_all spell vs) y (and_right (like p q && after p ps) (after q qs) n3) ay)
      (after-elses g o m p ps (tokens_all spell us) x (and_right (like p q) (after p ps) n2) t1) (after-elses g' o' m' q qs (tokens_all spell vs) y (and_right (like p q && after p ps) (after q qs) n3) t2) h in
      with-kid e (owns ps) o o' u v us vs x y r.alike
      (walk e l1 l2 o o' g g' m m' qs us vs x y all sl sl' (rest-of g o p (write_out m ps) u us s) (rest-of g' o' q (write_out m' qs) v vs s') (and_right (like p q && after p ps && after q qs) (near e l1 l2 ps qs) n)
      b1 b2 (tail-behind g (kid p) ps x t1) (tail-behind g' (kid q) qs y t2) (last-behind p ps x ax) (last-behind q qs y ay) r.rest)
  both-kids e l1 l2 o o' g g' m m' p q ps qs u v us vs x y walk one all f f' sl sl' s s' false n b1 b2 t1 t2 ax ay h =
      let a = kid-of g o p (write_out m ps) u us f s in
      let b = kid-of g' o' q (write_out m' qs) v vs f' s' in
      absurd (or-not (longer p ps q qs) (longer q qs p ps) n (λ t. apart-right o o' g g' m m' p q ps qs u v us vs x y one a b t ax h) (λ t. apart-left o o' g g' m m' p q qs ps u v us vs x y one a b t ay h))

  -- of lists with commas, what stands behind them
  closed-stop : (g : Place) (o : Word) (m : ℕ) (p : Slot) (c : Word) (ps : List Part) (x : List Word) → T (closed p (word c ∷ ps)) → Stop g o p (word c ∷ write_out m ps) x
  closed-stop g o m p c ps x h =
      let h3 = and_left (among c closers && not (among c (shut p.symbol)) && not (among (codes ",") (shut p.symbol))) (not (open_ended p.symbol)) h in
      let h2 = and_left (among c closers && not (among c (shut p.symbol))) (not (among (codes ",") (shut p.symbol))) h3 in
      record { free = λ ls. and_right (among c closers) (not (among c (shut p.symbol))) h2; elseless = λ ls. no-elses (at_slot g p) (c ∷ (fill o (write_out m ps) ls ++ x)) (and_right (among c closers && not (among c (shut p.symbol)) && not (among (codes ",") (shut p.symbol))) (not (open_ended p.symbol)) h) }

  closed-comma : (p : Slot) (c : Word) (ps : List Part) → T (closed p (word c ∷ ps)) → T (not (among (codes ",") (shut p.symbol)))
  closed-comma p c ps h = and_right (among c closers && not (among c (shut p.symbol))) (not (among (codes ",") (shut p.symbol))) (and_left (among c closers && not (among c (shut p.symbol)) && not (among (codes ",") (shut p.symbol))) (not (open_ended p.symbol)) h)

  closed-among : (p : Slot) (c : Word) (ps : List Part) → T (closed p (word c ∷ ps)) → T (among c closers)
  closed-among p c ps h = and_left (among c closers) (not (among c (shut p.symbol))) (and_left (among c closers && not (among c (shut p.symbol))) (not (among (codes ",") (shut p.symbol))) (and_left (among c closers && not (among c (shut p.symbol)) && not (among (codes ",") (shut p.symbol))) (not (open_ended p.symbol)) h))

  no-comma : (z : Word) (xs ys : List Word) → T (among z closers) → z ∷ xs ≡ codes "," ∷ ys → ⊥
  no-comma z xs ys h k = subst (λ (i : Word). T (among i closers)) (first-same z (codes ",") xs ys k) h

  both-lists : (op : Opens) (e : Bool) (l1 l2 : List Word) (o o' : Word) (g g' : Place) (m m' : ℕ) (p q : Slot) (ps qs : List Part) (us vs : Forest) (x y : List Word) → Walked ps → AllOne us
      → T (symbol_ok p.symbol) → T (symbol_ok q.symbol) → T (slots (λ z. symbol_ok z.symbol) ps) → T (slots (λ z. symbol_ok z.symbol) qs)
      → Side g o (each_between p m (write_out m ps)) us → Side g' o' (each_between q m' (write_out m' qs)) vs
      → T (like p q) → T (closed p ps) → T (closed q qs) → T (near e l1 l2 ps qs) → T (avoids l1 x) → T (avoids l2 y) → Tail g ps x → Tail g' qs y → T (avoids (last ps) x) → T (avoids (last qs) y)
      → fill o (each_between p m (write_out m ps)) (tokens_all spell us) ++ x ≡ fill o' (each_between q m' (write_out m' qs)) (tokens_all spell vs) ++ y → Res e (owns ps) o o' us vs x y
  both-lists op e l1 l2 o o' g g' m m' p q (word c ∷ ps) (word d ∷ qs) us vs x y walk all f f' sl sl' s s' l cl cl' n b1 b2 t1 t2 ax ay h =
      commas-both e (owns ps) o o' g g' p q (word c ∷ write_out m ps) (word d ∷ write_out m' qs) x y f f' l (closed-stop g o m p c ps x cl) (closed-stop g' o' m' q d qs y cl')
      (λ us vs all s s' h. walk e l1 l2 o o' g g' m m' (word d ∷ qs) us vs x y all sl sl' s s' n b1 b2 t1 t2 ax ay h)
      (closed-comma p c ps cl) (closed-comma q d qs cl') (λ ls zs k. no-comma c _ zs (closed-among p c ps cl) k) (λ ls zs k. no-comma d _ zs (closed-among q d qs cl') k)
      op (λ ls zs k t. closes-not c _ zs (closed-among p c ps cl) k t) (λ ls zs k t. closes-not d _ zs (closed-among q d qs cl') k t)
      m m' us vs all s s' h
  both-lists op e l1 l2 o o' g g' m m' p q (word c ∷ ps) qs us vs x y walk all f f' sl sl' s s' l cl cl' n b1 b2 t1 t2 ax ay h = absurd cl'
  both-lists op e l1 l2 o o' g g' m m' p q ps qs us vs x y walk all f f' sl sl' s s' l cl cl' n b1 b2 t1 t2 ax ay h = absurd cl

  -- of lists with a comma before each
  record Ended (g : Place) (o : Word) (p : Slot) (ps : List Part) (x : List Word) : Type 0 where
    pub stop : Stop g o p ps x
    pub comma : T (not (among (codes ",") (shut p.symbol)))
    pub none! : (ls : List (List Word)) (zs : List Word) → fill o ps ls ++ x ≡ codes "," ∷ zs → ⊥

  more-ended : (g : Place) (o : Word) (m : ℕ) (p : Slot) (ps : List Part) (x : List Word) → T (more_shut p ps) → T (avoids (last (more p ∷ ps)) x) → Ended g o p (write_out m ps) x
  more-ended g o m p [] x h k = record {
    stop = record { free = λ ls. avoids-drop (codes ",") (shut p.symbol) x k; elseless = λ ls. no-elses (at_slot g p) x (and_right (not (among (codes ",") (shut p.symbol))) (not (open_ended p.symbol)) h) };
    comma = and_left (not (among (codes ",") (shut p.symbol))) (not (open_ended p.symbol)) h;
    none! = λ ls zs e. no-first (codes ",") (shut p.symbol) x zs e k;
  }
  more-ended g o m p (word c ∷ ps) x h k =
      let h3 = and_left (not (among c (shut p.symbol)) && not (same_text c (codes ",")) && not (among (codes ",") (shut p.symbol))) (not (open_ended p.symbol)) h in
      let h2 = and_left (not (among c (shut p.symbol)) && not (same_text c (codes ","))) (not (among (codes ",") (shut p.symbol))) h3 in
      record {
        stop = record { free = λ ls. and_left (not (among c (shut p.symbol))) (not (same_text c (codes ","))) h2; elseless = λ ls. no-elses (at_slot g p) (c ∷ (fill o (write_out m ps) ls ++ x)) (and_right (not (among c (shut p.symbol)) && not (same_text c (codes ",")) && not (among (codes ",") (shut p.symbol))) (not (open_ended p.symbol)) h) };
        comma = and_right (not (among c (shut p.symbol)) && not (same_text c (codes ","))) (not (among (codes ",") (shut p.symbol))) h3;
        none! = λ ls zs e. T-not (same_text c (codes ",")) (and_right (not (among c (shut p.symbol))) (not (same_text c (codes ","))) h2) (subst (λ (z : Word). T (same_text z (codes ","))) (sym (first-same c (codes ",") _ zs e)) tt);
      }
  more-ended g o m p ps x h k = absurd h

  last-more : (p : Slot) (ps : List Part) (zs : List Word) → T (avoids (last (more p ∷ ps)) zs) → T (avoids (last ps) zs)
  last-more p [] zs h = avoids-none zs
  last-more p (q ∷ ps) zs h = h

  both-mores : (e : Bool) (l1 l2 : List Word) (o o' : Word) (g g' : Place) (m m' : ℕ) (p q : Slot) (ps qs : List Part) (us vs : Forest) (x y : List Word) → Walked ps → AllOne us
      → T (symbol_ok p.symbol) → T (symbol_ok q.symbol) → T (slots (λ z. symbol_ok z.symbol) ps) → T (slots (λ z. symbol_ok z.symbol) qs)
      → Side g o (each_after p m (write_out m ps)) us → Side g' o' (each_after q m' (write_out m' qs)) vs
      → T (like p q && more_shut p ps && more_shut q qs && near e l1 l2 ps qs) → T (avoids l1 x) → T (avoids l2 y) → Tail g (more p ∷ ps) x → Tail g' (more q ∷ qs) y → T (avoids (last (more p ∷ ps)) x) → T (avoids (last (more q ∷ qs)) y)
      → fill o (each_after p m (write_out m ps)) (tokens_all spell us) ++ x ≡ fill o' (each_after q m' (write_out m' qs)) (tokens_all spell vs) ++ y → Res e (owns ps) o o' us vs x y
  both-mores e l1 l2 o o' g g' m m' p q ps qs us vs x y walk all f f' sl sl' s s' n b1 b2 t1 t2 ax ay h =
      let n3 = and_left (like p q && more_shut p ps && more_shut q qs) (near e l1 l2 ps qs) n in
      let n2 = and_left (like p q && more_shut p ps) (more_shut q qs) n3 in
      let i = more-ended g o m p ps x (and_right (like p q) (more_shut p ps) n2) ax in
      let j = more-ended g' o' m' q qs y (and_right (like p q && more_shut p ps) (more_shut q qs) n3) ay in
      commas-after e (owns ps) o o' g g' p q (write_out m ps) (write_out m' qs) x y f f' (and_left (like p q) (more_shut p ps) n2) i.stop j.stop
      (λ us vs all s s' h. walk e l1 l2 o o' g g' m m' qs us vs x y all sl sl' s s' (and_right (like p q && more_shut p ps && more_shut q qs) (near e l1 l2 ps qs) n) b1 b2 (tail-behind g (more p) ps x t1) (tail-behind g' (more q) qs y t2) (last-more p ps x ax) (last-more q qs y ay) h)
      i.comma j.comma i.none! j.none! m m' us vs all s s' h

  -- of children one after the other
  pub start-not : (op : Starts) (p : Slot) (ws : List Word) → T (every (first_not p.symbol) ws) → (u : Tree) (g : Place) (z : List Word) → Here u (at_slot g p) → T (avoids ws (tokens spell u ++ z))
  start-not op p ws h u g z k = go (tokens spell u ++ z) refl
    where
      two : (b : Bool) → (T b → ⊥) → T (not b)
      two true f = f tt
      two false f = tt

      go : (zs : List Word) → tokens spell u ++ z ≡ zs → T (avoids ws zs)
      go [] e = tt
      go (t ∷ zs) e = two (among t ws) (λ i. let w = some-found (same_text t) ws i in op.first u (at_slot g p) z zs t k (subst (λ (v : Word). T (first_not p.symbol v)) (sym (text-eq t w.one w.passes)) (every-at (first_not p.symbol) w.one ws h w.inside)) e)

  pub else-not : (op : Starts) (p : Slot) → T (first_not p.symbol (codes "else")) → (u : Tree) (g : Place) (z : List Word) → Here u (at_slot g p) → T (avoids (elses (at_slot g p)) (tokens spell u ++ z))
  else-not op p h u g z k = go (open_ended p.symbol) (by_mode p.else_mode g.has_else) (start-not op p (codes "else" ∷ []) (one (first_not p.symbol (codes "else")) h) u g z k)
    where
      one : (b : Bool) → T b → T (elim b [ true ↦ true | false ↦ false ])
      one true t = tt
      one false t = t

      go : (b c : Bool) → T (avoids (codes "else" ∷ []) (tokens spell u ++ z)) → T (avoids (elim b [ true ↦ elim c [ true ↦ [] | false ↦ codes "else" ∷ [] ] | false ↦ [] ]) (tokens spell u ++ z))
      go true true t = avoids-none (tokens spell u ++ z)
      go true false t = t
      go false c t = avoids-none (tokens spell u ++ z)

  record RunEnd (g : Place) (o : Word) (m : ℕ) (p : Slot) (c : Word) (ps : List Part) (x : List Word) : Type 0 where
    pub stop : Stop g o p (word c ∷ write_out m ps) x
    pub close! : T (among c closers)
    pub next : (u : Tree) (z : List Word) → Here u (at_slot g p) → T (avoids (shut p.symbol) (tokens spell u ++ z)) × T (avoids (elses (at_slot g p)) (tokens spell u ++ z))

  run-ended : (op : Starts) (g : Place) (o : Word) (m : ℕ) (p : Slot) (c : Word) (ps : List Part) (x : List Word) → T (run_end p (word c ∷ ps)) → RunEnd g o m p c ps x
  run-ended op g o m p c ps x h =
      let a4 = and_left (among c closers && not (among c (shut p.symbol)) && not (same_text c (codes "else")) && first_not p.symbol (codes "else")) (every (first_not p.symbol) (shut p.symbol)) h in
      let a3 = and_left (among c closers && not (among c (shut p.symbol)) && not (same_text c (codes "else"))) (first_not p.symbol (codes "else")) a4 in
      let a2 = and_left (among c closers && not (among c (shut p.symbol))) (not (same_text c (codes "else"))) a3 in
      record {
        stop = record { free = λ ls. and_right (among c closers) (not (among c (shut p.symbol))) a2; elseless = λ ls. word-else (at_slot g p) c (fill o (write_out m ps) ls ++ x) (and_right (among c closers && not (among c (shut p.symbol))) (not (same_text c (codes "else"))) a3) };
        close! = and_left (among c closers) (not (among c (shut p.symbol))) a2;
        next = λ u z k. (
          start-not op p (shut p.symbol) (and_right (among c closers && not (among c (shut p.symbol)) && not (same_text c (codes "else")) && first_not p.symbol (codes "else")) (every (first_not p.symbol) (shut p.symbol)) h) u g z k,
          else-not op p (and_right (among c closers && not (among c (shut p.symbol)) && not (same_text c (codes "else"))) (first_not p.symbol (codes "else")) a4) u g z k,
        );
      }

  both-runs : (op : Starts) (e : Bool) (l1 l2 : List Word) (o o' : Word) (g g' : Place) (m m' : ℕ) (p q : Slot) (ps qs : List Part) (us vs : Forest) (x y : List Word) → Walked ps → AllOne us
      → T (symbol_ok p.symbol) → T (symbol_ok q.symbol) → T (slots (λ z. symbol_ok z.symbol) ps) → T (slots (λ z. symbol_ok z.symbol) qs)
      → Side g o (each p m (write_out m ps)) us → Side g' o' (each q m' (write_out m' qs)) vs
      → T (like p q) → T (run_end p ps) → T (run_end q qs) → T (near e l1 l2 ps qs) → T (avoids l1 x) → T (avoids l2 y) → Tail g ps x → Tail g' qs y → T (avoids (last ps) x) → T (avoids (last qs) y)
      → fill o (each p m (write_out m ps)) (tokens_all spell us) ++ x ≡ fill o' (each q m' (write_out m' qs)) (tokens_all spell vs) ++ y → Res e (owns ps) o o' us vs x y
  both-runs op e l1 l2 o o' g g' m m' p q (word c ∷ ps) (word d ∷ qs) us vs x y walk all f f' sl sl' s s' l cl cl' n b1 b2 t1 t2 ax ay h =
      let i = run-ended op g o m p c ps x cl in
      let j = run-ended op g' o' m' q d qs y cl' in
      runs-both e (owns ps) o o' g g' p q (word c ∷ write_out m ps) (word d ∷ write_out m' qs) x y f f' l i.stop j.stop
      (λ us vs all s s' h. walk e l1 l2 o o' g g' m m' (word d ∷ qs) us vs x y all sl sl' s s' n b1 b2 t1 t2 ax ay h)
      op.opening i.next j.next (λ ls zs k t. closes-not c _ zs i.close! k t) (λ ls zs k t. closes-not d _ zs j.close! k t) m m' us vs all s s' h
  both-runs op e l1 l2 o o' g g' m m' p q (word c ∷ ps) qs us vs x y walk all f f' sl sl' s s' l cl cl' n b1 b2 t1 t2 ax ay h = absurd cl'
  both-runs op e l1 l2 o o' g g' m m' p q ps qs us vs x y walk all f f' sl sl' s s' l cl cl' n b1 b2 t1 t2 ax ay h = absurd cl

  same-side : (g : Place) (o : Word) (ps qs : List Part) (us : Forest) → (T (follows g o ps (children spell us)) → T (follows g o qs (children spell us))) → Side g o ps us → Side g o qs us
  same-side g o ps qs us f s = record { plain = s.plain; followed = f s.followed }

  owned : (e w : Bool) (o o' : Word) (us vs : Forest) (x y : List Word) → o ≡ o' → Res e w o o' us vs x y → Res e true o o' us vs x y
  owned e w o o' us vs x y k r = record { same = r.same; own-same = λ t. k; alike = r.alike; rest = r.rest }

  -- no right side ends where the other has a token that may not follow
  no-end : (l : List Word) (w : Word) (x zs : List Word) → T (among w l) → T (avoids l x) → x ≡ w ∷ zs → ⊥
  no-end l w x zs h k e = T-not (among w l) (avoids-at l x (w ∷ zs) e k) h

  begins-more : (b zs : List Word) (w : Word) → T (begins b (w ∷ [])) → T (begins b (w ∷ zs))
  begins-more [] zs w h = tt
  begins-more (v ∷ []) zs w h = h
  begins-more (v ∷ t ∷ b) zs w h = absurd (no-and (same_text v w) h)
    where
      no-and : (c : Bool) → T (c && false) → ⊥
      no-and true h = h
      no-and false h = h

  barred-more : (bs : List (List Word)) (zs : List Word) (w : Word) → T (barred bs (w ∷ [])) → T (barred bs (w ∷ zs))
  barred-more bs zs w h =
      let f = some-found (λ b. begins b (w ∷ [])) bs h in
      some-from (λ b. begins b (w ∷ zs)) f.one bs f.inside (begins-more f.one zs w f.passes)

  -- what a lookahead stands before does not begin so
  look-not : (op : Starts) (g : Place) (o : Word) (m : ℕ) (w : Word) (bs : List (List Word)) (ps : List Part) (us : Forest) (x zs : List Word) → T (slots (λ z. symbol_ok z.symbol) ps) → T (looked w bs ps) → Side g o (look bs ∷ write_out m ps) us
      → fill o (write_out m ps) (tokens_all spell us) ++ x ≡ w ∷ zs → ⊥
  look-not op g o m w bs (kid y ∷ ps) nil x zs sl h s e =
      absurd (no-then (barred bs (fill o (kid y ∷ write_out m ps) [])) (follows g o (kid y ∷ write_out m ps) []) s.followed).1
  look-not op g o m w bs (kid y ∷ ps) (cons u us) x zs sl h s e =
      let n = no-then (barred bs (tokens spell u ++ fill o (write_out m ps) (token_lists (children spell us)))) (follows g o (kid y ∷ write_out m ps) (children spell (cons u us))) s.followed in
      let t : Side g o (kid y ∷ write_out m ps) (cons u us) = record { plain = s.plain; followed = n.1 } in
      let k = kid-of g o y (write_out m ps) u us (and_left (symbol_ok y.symbol) (slots (λ z. symbol_ok z.symbol) ps) sl) t in
      or-not (barred bs (w ∷ [])) (first_not y.symbol w) h
      (λ b. first-token (tokens spell u) refl (op.opening u (at_slot g y) [] k) b n.0)
      (λ f. op.first u (at_slot g y) (fill o (write_out m ps) (tokens_all spell us) ++ x) zs w k f (sym (append_assoc (tokens spell u) (fill o (write_out m ps) (tokens_all spell us)) x) ∙ e))
    where
      first-token : (ts : List Word) → tokens spell u ≡ ts → T (opens (tokens spell u ++ [])) → T (barred bs (w ∷ [])) → T (not (barred bs (tokens spell u ++ fill o (write_out m ps) (token_lists (children spell us))))) → ⊥
      first-token [] q i b n = subst (λ (z : List Word). T (opens (z ++ []))) q i
      first-token (t ∷ ts) q i b n =
          let v = first-same t w _ _ (ap (λ (z : List Word). (z ++ fill o (write_out m ps) (tokens_all spell us)) ++ x) (sym q) ∙ e) in
          T-not (barred bs (w ∷ (ts ++ fill o (write_out m ps) (token_lists (children spell us)))))
          (subst (λ (z : Word). T (not (barred bs (z ∷ (ts ++ fill o (write_out m ps) (token_lists (children spell us))))))) v (subst (λ (z : List Word). T (not (barred bs (z ++ fill o (write_out m ps) (token_lists (children spell us)))))) q n))
          (barred-more bs (ts ++ fill o (write_out m ps) (token_lists (children spell us))) w b)
  look-not op g o m w bs ps us x zs sl h s e = absurd h

  begins-two : (b zs : List Word) (w t : Word) → T (begins b (w ∷ t ∷ [])) → T (begins b (w ∷ t ∷ zs))
  begins-two [] zs w t h = tt
  begins-two (v ∷ []) zs w t h = h
  begins-two (v ∷ u ∷ []) zs w t h = h
  begins-two (v ∷ u ∷ a ∷ b) zs w t h = absurd (no-and (same_text v w) (same_text u t) h)
    where
      no-and : (c d : Bool) → T (c && (d && false)) → ⊥
      no-and true true h = h
      no-and true false h = h
      no-and false d h = h

  barred-two : (bs : List (List Word)) (zs : List Word) (w t : Word) → T (barred bs (w ∷ t ∷ [])) → T (barred bs (w ∷ t ∷ zs))
  barred-two bs zs w t h =
      let f = some-found (λ b. begins b (w ∷ t ∷ [])) bs h in
      some-from (λ b. begins b (w ∷ t ∷ zs)) f.one bs f.inside (begins-two f.one zs w t f.passes)

  two-tokens : (bs : List (List Word)) (w t c : Word) (ts more! y ys : List Word) → T (opens (ts ++ [])) → T (barred bs (w ∷ t ∷ [])) → T (not (barred bs (ts ++ (c ∷ more!)))) → (ts ++ (c ∷ more!)) ++ y ≡ w ∷ t ∷ ys → ⊥
  two-tokens bs w t c [] more! y ys o b n e = o
  two-tokens bs w t c (a ∷ []) more! y ys o b n e =
      T-not (barred bs (w ∷ t ∷ more!)) (subst (λ (z : Word). T (not (barred bs (w ∷ z ∷ more!)))) (first-same c t _ _ (rest-same a w _ _ e)) (subst (λ (z : Word). T (not (barred bs (z ∷ c ∷ more!)))) (first-same a w _ _ e) n)) (barred-two bs more! w t b)
  two-tokens bs w t c (a ∷ d ∷ ts) more! y ys o b n e =
      T-not (barred bs (w ∷ t ∷ (ts ++ (c ∷ more!)))) (subst (λ (z : Word). T (not (barred bs (w ∷ z ∷ (ts ++ (c ∷ more!)))))) (first-same d t _ _ (rest-same a w _ _ e)) (subst (λ (z : Word). T (not (barred bs (z ∷ d ∷ (ts ++ (c ∷ more!)))))) (first-same a w _ _ e) n)) (barred-two bs (ts ++ (c ∷ more!)) w t b)

  -- nor does it as w and a child do
  look-second : (op : Starts) (g g' : Place) (o o' : Word) (m m' : ℕ) (w : Word) (bs : List (List Word)) (ps qs : List Part) (us vs : Forest) (x y : List Word) → T (slots (λ z. symbol_ok z.symbol) ps) → T (slots (λ z. symbol_ok z.symbol) qs) → T (looked_second w bs ps qs)
      → Side g o (write_out m ps) us → Side g' o' (look bs ∷ write_out m' qs) vs → w ∷ (fill o (write_out m ps) (tokens_all spell us) ++ x) ≡ fill o' (write_out m' qs) (tokens_all spell vs) ++ y → ⊥
  look-second op g g' o o' m m' w bs (kid p ∷ ps) (kid q ∷ word c ∷ qs) nil vs x y sl sl' h s s' e = s.followed
  look-second op g g' o o' m m' w bs (kid p ∷ ps) (kid q ∷ word c ∷ qs) (cons u us) nil x y sl sl' h s s' e =
      (no-then (barred bs (fill o' (kid q ∷ word c ∷ write_out m' qs) [])) (follows g' o' (kid q ∷ word c ∷ write_out m' qs) []) s'.followed).1
  look-second op g g' o o' m m' w bs (kid p ∷ ps) (kid q ∷ word c ∷ qs) (cons u us) (cons v vs) x y sl sl' h s s' e =
      let n = no-then (barred bs (tokens spell v ++ (c ∷ fill o' (write_out m' qs) (token_lists (children spell vs))))) (follows g' o' (kid q ∷ word c ∷ write_out m' qs) (children spell (cons v vs))) s'.followed in
      let i : Side g' o' (kid q ∷ word c ∷ write_out m' qs) (cons v vs) = record { plain = s'.plain; followed = n.1 } in
      let k = kid-of g' o' q (word c ∷ write_out m' qs) v vs (and_left (symbol_ok q.symbol) (slots (λ z. symbol_ok z.symbol) qs) sl') i in
      let j = kid-of g o p (write_out m ps) u us (and_left (symbol_ok p.symbol) (slots (λ z. symbol_ok z.symbol) ps) sl) s in
      let h2 = and_left (not (bad c) && first_bad w bs p.symbol) (in_zone (all_single w) q.symbol) h in
      let b = op.bad-first u (at_slot g p) (fill o (write_out m ps) (tokens_all spell us) ++ x) w bs j (and_right (not (bad c)) (first_bad w bs p.symbol) h2) in
      let whole = sym e ∙ ap {B = List Word} (λ z. w ∷ z) (append_assoc (tokens spell u) (fill o (write_out m ps) (tokens_all spell us)) x ∙ b.2) in
      or-not (bad b.0) (barred bs (w ∷ b.0 ∷ [])) b.3
      (λ t. T-not (bad b.0) (op.second v (at_slot g' q) w c b.0 (fill o' (write_out m' qs) (tokens_all spell vs) ++ y) b.1 k (and_right (not (bad c) && first_bad w bs p.symbol) (in_zone (all_single w) q.symbol) h) (and_left (not (bad c)) (first_bad w bs p.symbol) h2)
      (sym (append_assoc (tokens spell v) (c ∷ fill o' (write_out m' qs) (tokens_all spell vs)) y) ∙ whole)) t)
      (λ t. two-tokens bs w b.0 c (tokens spell v) (fill o' (write_out m' qs) (token_lists (children spell vs))) y b.1 (op.opening v (at_slot g' q) [] k) t n.0 (ap (λ (ls : List (List Word)). (tokens spell v ++ (c ∷ fill o' (write_out m' qs) ls)) ++ y) (lists-same vs) ∙ whole))
    where
      lists-same : (vs : Forest) → token_lists (children spell vs) ≡ tokens_all spell vs
      lists-same nil = refl
      lists-same (cons v vs) = ap {B = List (List Word)} (λ z. tokens spell v ∷ z) (lists-same vs)
  look-second op g g' o o' m m' w bs ps qs us vs x y sl sl' h s s' e = absurd h

  in-two : (a b : Bool) → T (elim a [ true ↦ true | false ↦ b ]) → (T a → ⊥) → (T b → ⊥) → ⊥
  in-two true b h f g = f tt
  in-two false b h f g = g h

  -- nor as a child does that begins with what is barred
  look-kid : (op : Starts) (g g' : Place) (o o' : Word) (m : ℕ) (bs : List (List Word)) (ps : List Part) (us : Forest) (y : Slot) (v : Tree) (x z : List Word) → T (slots (λ z. symbol_ok z.symbol) ps) → T (is_tail ps) → Side g o (look bs ∷ write_out m ps) us
      → Here v (at_slot g' y) → T (in_zone (all_barred bs) y.symbol) → fill o (write_out m ps) (tokens_all spell us) ++ x ≡ tokens spell v ++ z → ⊥
  look-kid op g g' o o' m bs (kid p ∷ ps) us y v x z sl h s k b e =
      let r = op.bars v (at_slot g' y) z bs k b in
      look-not op g o m r.0 bs (kid p ∷ ps) us x r.1 sl (left (barred bs (r.0 ∷ [])) (first_not p.symbol r.0) r.3) s (e ∙ r.2)
    where
      left : (a c : Bool) → T a → T (a || c)
      left true c t = tt
      left false c t = absurd t
  look-kid op g g' o o' m bs ps us y v x z sl h s k b e = absurd h

  module _ (op : Starts) where
    pub walk : (ps : List Part) → Walked ps
    walk [] e l1 l2 o o' g g' m m' [] nil nil x y all sl sl' s s' n b1 b2 t1 t2 ax ay h = record { same = n; own-same = λ k. absurd k; alike = tt; rest = h }
    walk [] e l1 l2 o o' g g' m m' [] nil (cons v vs) x y all sl sl' s s' n b1 b2 t1 t2 ax ay h = absurd s'.followed
    walk [] e l1 l2 o o' g g' m m' [] (cons u us) vs x y all sl sl' s s' n b1 b2 t1 t2 ax ay h = absurd s.followed
    walk [] e l1 l2 o o' g g' m m' (word w ∷ qs) us vs x y all sl sl' s s' n b1 b2 t1 t2 ax ay h = absurd (no-end l1 w x _ n b1 h)
    walk (word w ∷ ps) e l1 l2 o o' g g' m m' [] us vs x y all sl sl' s s' n b1 b2 t1 t2 ax ay h = absurd (no-end l2 w y _ n b2 (sym h))
    walk (word w ∷ ps) e l1 l2 o o' g g' m m' (word v ∷ qs) us vs x y all sl sl' s s' n b1 b2 t1 t2 ax ay h =
        walk ps e l1 l2 o o' g g' m m' qs us vs x y all sl sl'
        (same-side g o (word w ∷ write_out m ps) (write_out m ps) us (λ t. t) s) (same-side g' o' (word v ∷ write_out m' qs) (write_out m' qs) vs (λ t. t) s')
        (two-words e l1 l2 ps qs w v (same_text w v) refl (first-same w v _ _ h) n) b1 b2 (tail-behind g (word w) ps x t1) (tail-behind g' (word v) qs y t2) ax ay (rest-same w v _ _ h)
    walk (word w ∷ ps) e l1 l2 o o' g g' m m' (own t ∷ qs) us vs x y all sl sl' s s' n b1 b2 t1 t2 ax ay h =
        absurd (word-own w o' t (first-same w o' _ _ h) n (yes-then (sort_ok t o') (follows g' o' (write_out m' qs) (children spell vs)) s'.followed).0)
    walk (own t ∷ ps) e l1 l2 o o' g g' m m' (word w ∷ qs) us vs x y all sl sl' s s' n b1 b2 t1 t2 ax ay h =
        absurd (word-own w o t (sym (first-same o w _ _ h)) n (yes-then (sort_ok t o) (follows g o (write_out m ps) (children spell us)) s.followed).0)
    walk (own t ∷ ps) e l1 l2 o o' g g' m m' (own t' ∷ qs) us vs x y all sl sl' s s' n b1 b2 t1 t2 ax ay h =
        let a = yes-then (sort_ok t o) (follows g o (write_out m ps) (children spell us)) s.followed in
        let b = yes-then (sort_ok t' o') (follows g' o' (write_out m' qs) (children spell vs)) s'.followed in
        let k = first-same o o' _ _ h in
        owned e (owns ps) o o' us vs x y k
        (walk ps e l1 l2 o o' g g' m m' qs us vs x y all sl sl'
        (same-side g o (own t ∷ write_out m ps) (write_out m ps) us (λ i. a.1) s) (same-side g' o' (own t' ∷ write_out m' qs) (write_out m' qs) vs (λ i. b.1) s')
        (two-owns e l1 l2 ps qs t t' o o' a.0 b.0 k (eqb (sort_class t) (sort_class t')) refl n) b1 b2 (tail-behind g (own t) ps x t1) (tail-behind g' (own t') qs y t2) ax ay (rest-same o o' _ _ h))
    walk (word w ∷ ps) e l1 l2 o o' g g' m m' (kid q ∷ qs) us nil x y all sl sl' s s' n b1 b2 t1 t2 ax ay h = absurd s'.followed
    walk (word w ∷ ps) e l1 l2 o o' g g' m m' (kid q ∷ qs) us (cons v vs) x y all sl sl' s s' n b1 b2 t1 t2 ax ay h =
        absurd (op.first v (at_slot g' q) (fill o' (write_out m' qs) (tokens_all spell vs) ++ y) _ w (kid-of g' o' q (write_out m' qs) v vs (and_left (symbol_ok q.symbol) (slots (λ z. symbol_ok z.symbol) qs) sl') s') n
        (sym (append_assoc (tokens spell v) (fill o' (write_out m' qs) (tokens_all spell vs)) y) ∙ sym h))
    walk (kid p ∷ ps) e l1 l2 o o' g g' m m' (word w ∷ qs) nil vs x y all sl sl' s s' n b1 b2 t1 t2 ax ay h = absurd s.followed
    walk (kid p ∷ ps) e l1 l2 o o' g g' m m' (word w ∷ qs) (cons u us) vs x y all sl sl' s s' n b1 b2 t1 t2 ax ay h =
        absurd (op.first u (at_slot g p) (fill o (write_out m ps) (tokens_all spell us) ++ x) _ w (kid-of g o p (write_out m ps) u us (and_left (symbol_ok p.symbol) (slots (λ z. symbol_ok z.symbol) ps) sl) s) n
        (sym (append_assoc (tokens spell u) (fill o (write_out m ps) (tokens_all spell us)) x) ∙ h))
    walk (word w ∷ ps) e l1 l2 o o' g g' m m' (look bs ∷ qs) us vs x y all sl sl' s s' n b1 b2 t1 t2 ax ay h =
        absurd (in-two (looked w bs qs) (looked_second w bs ps qs) n (λ t. look-not op g' o' m' w bs qs vs y _ sl' t s' (sym h))
        (λ t. look-second op g g' o o' m m' w bs ps qs us vs x y sl sl' t (same-side g o (word w ∷ write_out m ps) (write_out m ps) us (λ t. t) s) s' h))
    walk (look bs ∷ ps) e l1 l2 o o' g g' m m' (word w ∷ qs) us vs x y all sl sl' s s' n b1 b2 t1 t2 ax ay h =
        absurd (in-two (looked w bs ps) (looked_second w bs qs ps) n (λ t. look-not op g o m w bs ps us x _ sl t s h)
        (λ t. look-second op g' g o' o m' m w bs qs ps vs us y x sl' sl t (same-side g' o' (word w ∷ write_out m' qs) (write_out m' qs) vs (λ t. t) s') s (sym h)))
    walk (kid p ∷ ps) e l1 l2 o o' g g' m m' (look bs ∷ qs) nil vs x y all sl sl' s s' n b1 b2 t1 t2 ax ay h = absurd s.followed
    walk (kid p ∷ ps) e l1 l2 o o' g g' m m' (look bs ∷ qs) (cons u us) vs x y all sl sl' s s' n b1 b2 t1 t2 ax ay h =
        absurd (look-kid op g' g o' o m' bs qs vs p u y (fill o (write_out m ps) (tokens_all spell us) ++ x) sl' (and_right (in_zone (all_barred bs) p.symbol) (is_tail qs) n) s'
        (kid-of g o p (write_out m ps) u us (and_left (symbol_ok p.symbol) (slots (λ z. symbol_ok z.symbol) ps) sl) s) (and_left (in_zone (all_barred bs) p.symbol) (is_tail qs) n) (sym h ∙ append_assoc (tokens spell u) (fill o (write_out m ps) (tokens_all spell us)) x))
    walk (look bs ∷ ps) e l1 l2 o o' g g' m m' (kid q ∷ qs) us nil x y all sl sl' s s' n b1 b2 t1 t2 ax ay h = absurd s'.followed
    walk (look bs ∷ ps) e l1 l2 o o' g g' m m' (kid q ∷ qs) us (cons v vs) x y all sl sl' s s' n b1 b2 t1 t2 ax ay h =
        absurd (look-kid op g g' o o' m bs ps us q v x (fill o' (write_out m' qs) (tokens_all spell vs) ++ y) sl (and_right (in_zone (all_barred bs) q.symbol) (is_tail ps) n) s
        (kid-of g' o' q (write_out m' qs) v vs (and_left (symbol_ok q.symbol) (slots (λ z. symbol_ok z.symbol) qs) sl') s') (and_left (in_zone (all_barred bs) q.symbol) (is_tail ps) n) (h ∙ append_assoc (tokens spell v) (fill o' (write_out m' qs) (tokens_all spell vs)) y))
    walk (kid p ∷ ps) e l1 l2 o o' g g' m m' (kid q ∷ qs) nil vs x y all sl sl' s s' n b1 b2 t1 t2 ax ay h = absurd s.followed
    walk (kid p ∷ ps) e l1 l2 o o' g g' m m' (kid q ∷ qs) (cons u us) nil x y all sl sl' s s' n b1 b2 t1 t2 ax ay h = absurd s'.followed
    walk (kid p ∷ ps) e l1 l2 o o' g g' m m' (kid q ∷ qs) (cons u us) (cons v vs) x y all sl sl' s s' n b1 b2 t1 t2 ax ay h =
        both-kids e l1 l2 o o' g g' m m' p q ps qs u v us vs x y (walk ps) all.0 all.1
        (and_left (symbol_ok p.symbol) (slots (λ z. symbol_ok z.symbol) ps) sl) (and_left (symbol_ok q.symbol) (slots (λ z. symbol_ok z.symbol) qs) sl')
        (and_right (symbol_ok p.symbol) (slots (λ z. symbol_ok z.symbol) ps) sl) (and_right (symbol_ok q.symbol) (slots (λ z. symbol_ok z.symbol) qs) sl') s s' (eqb (code p.symbol) (code q.symbol)) n b1 b2 t1 t2 ax ay h
    walk (run p ∷ ps) e l1 l2 o o' g g' m m' (run q ∷ qs) us vs x y all sl sl' s s' n b1 b2 t1 t2 ax ay h =
        let n3 = and_left (like p q && run_end p ps && run_end q qs) (near e l1 l2 ps qs) n in
        let n2 = and_left (like p q && run_end p ps) (run_end q qs) n3 in
        both-runs op e l1 l2 o o' g g' m m' p q ps qs us vs x y (walk ps) all
        (and_left (symbol_ok p.symbol) (slots (λ z. symbol_ok z.symbol) ps) sl) (and_left (symbol_ok q.symbol) (slots (λ z. symbol_ok z.symbol) qs) sl')
        (and_right (symbol_ok p.symbol) (slots (λ z. symbol_ok z.symbol) ps) sl) (and_right (symbol_ok q.symbol) (slots (λ z. symbol_ok z.symbol) qs) sl') s s'
        (and_left (like p q) (run_end p ps) n2) (and_right (like p q) (run_end p ps) n2) (and_right (like p q && run_end p ps) (run_end q qs) n3) (and_right (like p q && run_end p ps && run_end q qs) (near e l1 l2 ps qs) n) b1 b2 (tail-behind g (run p) ps x t1) (tail-behind g' (run q) qs y t2) ax ay h
    walk (commas p ∷ ps) e l1 l2 o o' g g' m m' (commas q ∷ qs) us vs x y all sl sl' s s' n b1 b2 t1 t2 ax ay h =
        let n3 = and_left (like p q && closed p ps && closed q qs) (near e l1 l2 ps qs) n in
        let n2 = and_left (like p q && closed p ps) (closed q qs) n3 in
        both-lists op.opening e l1 l2 o o' g g' m m' p q ps qs us vs x y (walk ps) all
        (and_left (symbol_ok p.symbol) (slots (λ z. symbol_ok z.symbol) ps) sl) (and_left (symbol_ok q.symbol) (slots (λ z. symbol_ok z.symbol) qs) sl')
        (and_right (symbol_ok p.symbol) (slots (λ z. symbol_ok z.symbol) ps) sl) (and_right (symbol_ok q.symbol) (slots (λ z. symbol_ok z.symbol) qs) sl') s s'
        (and_left (like p q) (closed p ps) n2) (and_right (like p q) (closed p ps) n2) (and_right (like p q && closed p ps) (closed q qs) n3) (and_right (like p q && closed p ps && closed q qs) (near e l1 l2 ps qs) n) b1 b2 (tail-behind g (commas p) ps x t1) (tail-behind g' (commas q) qs y t2) ax ay h
    walk (look cs ∷ ps) e l1 l2 o o' g g' m m' (look bs ∷ qs) us vs x y all sl sl' s s' n b1 b2 t1 t2 ax ay h =
        walk ps e l1 l2 o o' g g' m m' qs us vs x y all sl sl'
        (same-side g o (look cs ∷ write_out m ps) (write_out m ps) us (λ t. (no-then (barred cs (fill o (write_out m ps) (token_lists (children spell us)))) (follows g o (write_out m ps) (children spell us)) t).1) s)
        (same-side g' o' (look bs ∷ write_out m' qs) (write_out m' qs) vs (λ t. (no-then (barred bs (fill o' (write_out m' qs) (token_lists (children spell vs)))) (follows g' o' (write_out m' qs) (children spell vs)) t).1) s')
        n b1 b2 (tail-behind g (look cs) ps x t1) (tail-behind g' (look bs) qs y t2) ax ay h
    walk (more p ∷ ps) e l1 l2 o o' g g' m m' (more q ∷ qs) us vs x y all sl sl' s s' n b1 b2 t1 t2 ax ay h =
        both-mores e l1 l2 o o' g g' m m' p q ps qs us vs x y (walk ps) all
        (and_left (symbol_ok p.symbol) (slots (λ z. symbol_ok z.symbol) ps) sl) (and_left (symbol_ok q.symbol) (slots (λ z. symbol_ok z.symbol) qs) sl')
        (and_right (symbol_ok p.symbol) (slots (λ z. symbol_ok z.symbol) ps) sl) (and_right (symbol_ok q.symbol) (slots (λ z. symbol_ok z.symbol) qs) sl') s s' n b1 b2 t1 t2 ax ay h
    walk ps e l1 l2 o o' g g' m m' qs us vs x y all sl sl' s s' n b1 b2 t1 t2 ax ay h = absurd n
