-- Two rows that begin alike are told apart by what is behind their first brackets, or behind their own tokens. Assumes nothing.
use mathlib.Core.Path.{◌≡◌, refl, sym, ap, ◌∙◌, subst}
use mathlib.Core.Bool.{Bool, true, false, ◌&&◌, not}
use mathlib.Core.List.{List, [], ◌∷◌, ◌++◌}
use Prim.Native.Nat.{ℕ, zero, suc}
use lib.Dec.{T, leb}
use Rattle.def_tree.specs.Tree.{Tree, Forest, node, nil, cons}
use Rattle.def_file.specs.Script.{same_text}
use Rattle.def_text.specs.Words.{Word, among}
use Rattle.def_text.specs.Grammar.{Symbol, Place, Slot, at_slot, Part, word, own, kid, run, commas, more, look, if_has, if_not, one_default, Rule, each, each_after, each_between, write_out}
use Rattle.def_text.specs.Table.{reaches, rules}
use Rattle.def_text.specs.Derives.{fill, barred, token_lists, defaults, has, sort_ok, follows, tokens, tokens_all, derives, children}
use Rattle.laws_text.proofs.Basics.{and_left, and_right, both, T-not, text-eq, text-refl, some-found, Within, here, there, every-at}
use Rattle.laws_text.proofs.Fit.{yes-then, no-then, slots, slots-out}
use Rattle.laws_reading.specs.Claims.{is_plain, plain, all_plain}
use Rattle.laws_reading.proofs.Tests.{zones, rooted, within, whole, ops, covers, openers, closers, unclosed, bal, skip, paired_starts, used, front, goes, nexts_of, nexts, apart, told, clash, is_tail, behind_ok, skip_ok, symbol_ok, owns, none}
use Rattle.laws_reading.proofs.Tokens.{avoids, covers-at, sort-opens, sort-within}
use Rattle.laws_reading.proofs.Closing.{cut, Passes, AllPass, is_other, pass-fill, close-fill}
use Rattle.laws_reading.proofs.Nodes.{ends-at, Info, info-of}
use Rattle.laws_reading.proofs.Walk.{first-same, rest-same, avoids-at, Here}

-- ---- a node's own token, where it has one

owns-run : (x : Slot) (m : ℕ) (ps : List Part) → T (owns ps) → T (owns (each x m ps))
owns-run x zero ps h = h
owns-run x (suc m) ps h = owns-run x m ps h

owns-after : (x : Slot) (m : ℕ) (ps : List Part) → T (owns ps) → T (owns (each_after x m ps))
owns-after x zero ps h = h
owns-after x (suc m) ps h = owns-after x m ps h

owns-between : (x : Slot) (m : ℕ) (ps : List Part) → T (owns ps) → T (owns (each_between x m ps))
owns-between x zero ps h = h
owns-between x (suc m) ps h = owns-after x m ps h

owns-out : (m : ℕ) (ps : List Part) → T (owns ps) → T (owns (write_out m ps))
owns-out m [] h = h
owns-out m (word w ∷ ps) h = owns-out m ps h
owns-out m (own s ∷ ps) h = tt
owns-out m (kid x ∷ ps) h = owns-out m ps h
owns-out m (run x ∷ ps) h = owns-run x m (write_out m ps) (owns-out m ps h)
owns-out m (commas x ∷ ps) h = owns-between x m (write_out m ps) (owns-out m ps h)
owns-out m (more x ∷ ps) h = owns-after x m (write_out m ps) (owns-out m ps h)
owns-out m (look bs ∷ ps) h = owns-out m ps h
owns-out m (if_has p ∷ ps) h = owns-out m ps h
owns-out m (if_not p ∷ ps) h = owns-out m ps h
owns-out m (one_default ∷ ps) h = owns-out m ps h

-- ---- which tokens go on with a left side

later : (w : Word) (vs ws : List Word) → T (among w ws) → T (among w (vs ++ ws))
later w [] ws h = h
later w (v ∷ vs) ws h = go (same_text w v) (later w vs ws h)
  where
    go : (b : Bool) → T (among w (vs ++ ws)) → T (elim b [ true ↦ true | false ↦ among w (vs ++ ws) ])
    go true r = tt
    go false r = r

first-in : (w : Word) (ws : List Word) → T (among w (w ∷ ws))
first-in w ws = go (same_text w w) (text-refl w)
  where
    go : (b : Bool) → T b → T (elim b [ true ↦ true | false ↦ among w ws ])
    go true t = tt
    go false t = absurd t

module _ (c : ℕ) (s : Symbol) (p : Slot) (w : Word) (ps : List Part) (e : T (reaches p.symbol s)) where
  goes-in : (ws : List Word) → T (among w (goes c s (kid p ∷ word w ∷ ps) ++ ws))
  goes-in ws = go (reaches p.symbol s) e
    where
      go : (b : Bool) → T b → T (among w ((elim b as (λ x. List Word) [ true ↦ w ∷ [] | false ↦ [] ]) ++ ws))
      go true t = first-in w ws
      go false t = absurd t

  nexts-in : (r : Rule) (rs : List Rule) → Within r rs → T (used r) → T (within c r.left) → front r ≡ kid p ∷ word w ∷ ps → T (among w (nexts_of c s rs))
  nexts-in r rs (here ys) u i f = go (used r) (within c r.left) u i
    where
      go : (a b : Bool) → T a → T b → T (among w (elim a [ true ↦ elim b [ true ↦ goes c s (front r) ++ nexts_of c s ys | false ↦ nexts_of c s ys ] | false ↦ nexts_of c s ys ]))
      go true true x y = subst (λ (qs : List Part). T (among w (goes c s qs ++ nexts_of c s ys))) (sym f) (goes-in (nexts_of c s ys))
      go true false x y = absurd y
      go false b x y = absurd x
  nexts-in r rs (there q ys v) u i f = go (used q) (within c q.left) (nexts-in r ys v u i f)
    where
      go : (a b : Bool) → T (among w (nexts_of c s ys)) → T (among w (elim a [ true ↦ elim b [ true ↦ goes c s (front q) ++ nexts_of c s ys | false ↦ nexts_of c s ys ] | false ↦ nexts_of c s ys ]))
      go true true r = later w (goes c s (front q)) (nexts_of c s ys) r
      go true false r = r
      go false b r = r

-- what is behind something that stands first in what is asked for: what is behind all of it, or a token that goes on with it
pub data Next (c : ℕ) (g : Symbol) (y : List Word) : Symbol → List Word → Type 0 where
  top : Next c g y g y
  step : (r : Rule) (p : Slot) (w : Word) (ps : List Part) (ws : List Word) → Within r rules → T (used r) → T (within c r.left) → front r ≡ kid p ∷ word w ∷ ps → T (among w (ops g)) → Next c g y p.symbol (w ∷ ws)

apart-at : (vs ws : List Word) (v w : Word) → T (apart vs ws) → T (among v vs) → T (among w ws) → v ≡ w → ⊥
apart-at vs ws v w h a b e =
    let f = some-found (same_text w) ws b in
    T-not (among f.one vs) (every-at (λ z. not (among z vs)) f.one ws h f.inside) (subst (λ (z : Word). T (among z vs)) (e ∙ text-eq w f.one f.passes) a)

-- what is behind it is no such token
no-token : (c : ℕ) (g h : Symbol) (a : Symbol) (x0 xs : List Word) (s : Symbol) (x : List Word) (w : Word) → Next c g x0 s x → T (reaches s a) → T (not (among w (nexts c a))) → T (avoids (ops h) x0) → T (among w (ops h)) → x ≡ w ∷ xs → ⊥
no-token c g h a x0 xs s x w top r n av o e = T-not (among w (ops h)) (avoids-at (ops h) x0 (w ∷ xs) e av) o
no-token c g h a x0 xs s x w (step q p v ps ws i u k f m) r n av o e =
    T-not (among w (nexts c a)) n (subst (λ (z : Word). T (among z (nexts c a))) (first-same v w ws xs e) (nexts-in c a p v ps r q rules i u k f))

two-ends : (c : ℕ) (g h a b : Symbol) (x0 y0 : List Word) (s t : Symbol) (x z : List Word) → Next c g x0 s x → Next c h y0 t z → T (reaches s a) → T (reaches t b) → (s ≡ g → T (whole c a)) → (t ≡ h → T (whole c b))
    → T (apart (nexts c a) (nexts c b) && not (whole c a && whole c b)) → T (avoids (ops h) x0) → T (avoids (ops g) y0) → x ≡ z → ⊥
two-ends c g h a b x0 y0 s t x z top top r r' i j n av av' e =
    T-not (whole c a && whole c b) (and_right (apart (nexts c a) (nexts c b)) (not (whole c a && whole c b)) n) (both (whole c a) (whole c b) (i refl) (j refl))
two-ends c g h a b x0 y0 s t x z top (step q p v ps ws k u l f m) r r' i j n av av' e = T-not (among v (ops h)) (avoids-at (ops h) x0 (v ∷ ws) e av) m
two-ends c g h a b x0 y0 s t x z (step q p v ps ws k u l f m) top r r' i j n av av' e = T-not (among v (ops g)) (avoids-at (ops g) y0 (v ∷ ws) (sym e) av') m
two-ends c g h a b x0 y0 s t x z (step q p v ps ws k u l f m) (step q' p' v' ps' ws' k' u' l' f' m') r r' i j n av av' e =
    apart-at (nexts c a) (nexts c b) v v' (and_left (apart (nexts c a) (nexts c b)) (not (whole c a && whole c b)) n) (nexts-in c a p v ps r q rules k u l f) (nexts-in c b p' v' ps' r' q' rules k' u' l' f') (first-same v v' ws ws' e)

module _ (spell : ℕ → ℕ → Word) where
  own-other : (g : Place) (o : Word) (ps : List Part) (us : Forest) → T (owns ps) → T (follows g o ps (children spell us)) → T (is_other o)
  own-other g o [] us w h = absurd w
  own-other g o (word v ∷ ps) us w h = own-other g o ps us w h
  own-other g o (own s ∷ ps) us w h =
      let y = (yes-then (sort_ok s o) (follows g o ps (children spell us)) h).0 in
      both (not (among o openers)) (not (among o closers)) (sort-within s o y) (sort-opens s o y)
  own-other g o (kid x ∷ ps) nil w h = absurd h
  own-other g o (kid x ∷ ps) (cons u us) w h = own-other g o ps us w (yes-then (derives spell u (at_slot g x)) (follows g o ps (children spell us)) h).1
  own-other g o (run x ∷ ps) us w h = absurd h
  own-other g o (commas x ∷ ps) us w h = absurd h
  own-other g o (more x ∷ ps) us w h = absurd h
  own-other g o (look bs ∷ ps) us w h = own-other g o ps us w (no-then (barred bs (fill o ps (token_lists (children spell us)))) (follows g o ps (children spell us)) h).1
  own-other g o (if_has q ∷ ps) us w h = own-other g o ps us w (yes-then (has q g) (follows g o ps (children spell us)) h).1
  own-other g o (if_not q ∷ ps) us w h = own-other g o ps us w (no-then (has q g) (follows g o ps (children spell us)) h).1
  own-other g o (one_default ∷ ps) us w h = own-other g o ps us w (yes-then (leb (defaults (children spell us)) 1) (follows g o ps (children spell us)) h).1

  -- ---- brackets are closed inside a tree

  abbrev PassAt : Tree → Type 0
  PassAt u = (g : Place) → Here spell u g → Passes (tokens spell u)

  abbrev PassAll : Forest → Type 0
  PassAll nil = Unit {0}
  PassAll (cons t ts) = PassAt t × PassAll ts

  pass-side : (g : Place) (o : Word) (ps : List Part) (us : Forest) → T (slots (λ z. symbol_ok z.symbol) ps) → T (follows g o ps (children spell us)) → T (all_plain us) → PassAll us → AllPass (tokens_all spell us)
  pass-side g o [] nil s h p a = tt
  pass-side g o [] (cons u us) s h p a = absurd h
  pass-side g o (word v ∷ ps) us s h p a = pass-side g o ps us s h p a
  pass-side g o (own t ∷ ps) us s h p a = pass-side g o ps us s (yes-then (sort_ok t o) (follows g o ps (children spell us)) h).1 p a
  pass-side g o (kid x ∷ ps) nil s h p a = absurd h
  pass-side g o (kid x ∷ ps) (cons u us) s h p a =
      let y = yes-then (derives spell u (at_slot g x)) (follows g o ps (children spell us)) h in (
        a.0 (at_slot g x) (record { fine = and_left (symbol_ok x.symbol) (slots (λ z. symbol_ok z.symbol) ps) s; plain = and_left (plain u) (all_plain us) p; derived = y.0 }),
        pass-side g o ps us (and_right (symbol_ok x.symbol) (slots (λ z. symbol_ok z.symbol) ps) s) y.1 (and_right (plain u) (all_plain us) p) a.1,
      )
  pass-side g o (run x ∷ ps) us s h p a = absurd h
  pass-side g o (commas x ∷ ps) us s h p a = absurd h
  pass-side g o (more x ∷ ps) us s h p a = absurd h
  pass-side g o (look bs ∷ ps) us s h p a = pass-side g o ps us s (no-then (barred bs (fill o ps (token_lists (children spell us)))) (follows g o ps (children spell us)) h).1 p a
  pass-side g o (if_has q ∷ ps) us s h p a = pass-side g o ps us s (yes-then (has q g) (follows g o ps (children spell us)) h).1 p a
  pass-side g o (if_not q ∷ ps) us s h p a = pass-side g o ps us s (no-then (has q g) (follows g o ps (children spell us)) h).1 p a
  pass-side g o (one_default ∷ ps) us s h p a = pass-side g o ps us s (yes-then (leb (defaults (children spell us)) 1) (follows g o ps (children spell us)) h).1 p a

  other-of : (k f a : ℕ) (ts : Forest) (g : Place) (ps : List Part) (i : Info spell k f a ts g ps) → T (owns ps) → T (is_other (spell k a))
  other-of k f a ts g ps i w = own-other g (spell k a) (write_out i.times ps) ts (owns-out i.times ps w) i.followed

  kids-pass : (k f a : ℕ) (ts : Forest) (g : Place) (ps : List Part) (i : Info spell k f a ts g ps) → T (all_plain ts) → PassAll ts → AllPass (tokens_all spell ts)
  kids-pass k f a ts g ps i p r = pass-side g (spell k a) (write_out i.times ps) ts (slots-out (λ z. symbol_ok z.symbol) i.times ps i.slots-ok) i.followed p r

  pass-node : (k f a : ℕ) (ts : Forest) → PassAll ts → PassAt (node k f a ts)
  pass-node k f a ts r g h d rest =
      let n = info-of spell k f a ts g h.fine (and_left (is_plain k f) (all_plain ts) h.plain) h.derived in
      let i = n.info in
      ap (λ (z : List Word). cut d (z ++ rest)) i.tokens-are
      ∙ pass-fill (spell k a) rest n.right 0 d i.times (tokens_all spell ts) (other-of k f a ts g n.right i) i.balanced (kids-pass k f a ts g n.right i (and_right (is_plain k f) (all_plain ts) h.plain) r)

  mutual
    pass-tree : (u : Tree) → PassAt u
    pass-tree (node k f a ts) = pass-node k f a ts (pass-trees ts)

    pass-trees : (ts : Forest) → PassAll ts
    pass-trees nil = tt
    pass-trees (cons t ts) = (pass-tree t, pass-trees ts)

  pub all-pass : (k f a : ℕ) (ts : Forest) (g : Place) (ps : List Part) (i : Info spell k f a ts g ps) → T (all_plain ts) → AllPass (tokens_all spell ts)
  all-pass k f a ts g ps i p = kids-pass k f a ts g ps i p (pass-trees ts)

-- ---- what is left behind two beginnings

record Skipped (o o' : Word) (m m' : ℕ) (ps qs : List Part) (x z : List Word) : Type 0 where
  pub left : List (List Word)
  pub right : List (List Word)
  pub is : fill o (write_out m ps) left ++ x ≡ fill o' (write_out m' qs) right ++ z

skipped : (o o' : Word) (m m' : ℕ) (ps qs : List Part) (ls ls' : List (List Word)) (x z : List Word) → T (paired_starts ps qs) → (T (owns ps) → T (is_other o)) → (T (owns qs) → T (is_other o')) → AllPass ls → AllPass ls'
    → fill o (write_out m ps) ls ++ x ≡ fill o' (write_out m' qs) ls' ++ z → Skipped o o' m m' (skip ps) (skip qs) x z
skipped o o' m m' (word v ∷ ps) (word w ∷ qs) ls ls' x z h n n' a a' e =
    let h3 = and_left (among v openers && among w openers && bal 1 ps) (bal 1 qs) h in
    let h2 = and_left (among v openers && among w openers) (bal 1 ps) h3 in
    let i = close-fill o x ps 0 m ls n (and_right (among v openers && among w openers) (bal 1 ps) h3) a in
    let j = close-fill o' z qs 0 m' ls' n' (and_right (among v openers && among w openers && bal 1 ps) (bal 1 qs) h) a' in
    let s : Skipped o o' m m' (unclosed zero ps) (unclosed zero qs) x z = record { left = i.left; right = j.left; is = sym i.is ∙ ap (λ t. cut 0 t) (rest-same v w _ _ e) ∙ j.is } in
    go (among v openers) (among w openers) (and_left (among v openers) (among w openers) h2) (and_right (among v openers) (among w openers) h2) s
  where
    go : (b c : Bool) → T b → T c → Skipped o o' m m' (unclosed zero ps) (unclosed zero qs) x z
        → Skipped o o' m m' (elim b [ true ↦ unclosed zero ps | false ↦ word v ∷ ps ]) (elim c [ true ↦ unclosed zero qs | false ↦ word w ∷ qs ]) x z
    go true true t u s = s
    go true false t u s = absurd u
    go false c t u s = absurd t
skipped o o' m m' (own s ∷ []) (own t ∷ []) ls ls' x z h n n' a a' e = record { left = []; right = []; is = rest-same o o' x z e }
skipped o o' m m' (own s ∷ []) (own t ∷ q ∷ qs) ls ls' x z h n n' a a' e = absurd h
skipped o o' m m' (own s ∷ p ∷ ps) (own t ∷ qs) ls ls' x z h n n' a a' e = absurd h
skipped o o' m m' ps qs ls ls' x z h n n' a a' e = absurd h

self-left : (ps qs : List Part) → T (paired_starts ps qs) → T (paired_starts ps ps)
self-left (word v ∷ ps) (word w ∷ qs) h =
    let h3 = and_left (among v openers && among w openers && bal 1 ps) (bal 1 qs) h in
    let h2 = and_left (among v openers && among w openers) (bal 1 ps) h3 in
    let a = and_left (among v openers) (among w openers) h2 in
    let b = and_right (among v openers && among w openers) (bal 1 ps) h3 in
    both (among v openers && among v openers && bal 1 ps) (bal 1 ps) (both (among v openers && among v openers) (bal 1 ps) (both (among v openers) (among v openers) a a) b) b
self-left (own s ∷ ps) (own t ∷ qs) h = both (none ps) (none ps) (and_left (none ps) (none qs) h) (and_left (none ps) (none qs) h)
self-left ps qs h = absurd h

self-right : (ps qs : List Part) → T (paired_starts ps qs) → T (paired_starts qs qs)
self-right (word v ∷ ps) (word w ∷ qs) h =
    let h3 = and_left (among v openers && among w openers && bal 1 ps) (bal 1 qs) h in
    let h2 = and_left (among v openers && among w openers) (bal 1 ps) h3 in
    let a = and_right (among v openers) (among w openers) h2 in
    let b = and_right (among v openers && among w openers && bal 1 ps) (bal 1 qs) h in
    both (among w openers && among w openers && bal 1 qs) (bal 1 qs) (both (among w openers && among w openers) (bal 1 qs) (both (among w openers) (among w openers) a a) b) b
self-right (own s ∷ ps) (own t ∷ qs) h = both (none qs) (none qs) (and_right (none ps) (none qs) h) (and_right (none ps) (none qs) h)
self-right ps qs h = absurd h

behind-of : (x : Symbol) (ps : List Part) → is_tail ps ≡ false → T (paired_starts ps ps) → T (skip_ok x ps) → T (behind_ok x (skip ps))
behind-of x ps e p h = go (is_tail ps) (paired_starts ps ps) e p h
  where
    go : (b c : Bool) → b ≡ false → T c → T (elim b [ true ↦ true | false ↦ elim c [ true ↦ behind_ok x (skip ps) | false ↦ true ] ]) → T (behind_ok x (skip ps))
    go true c e p h = absurd (cc)
    go false true e p h = h
    go false false e p h = absurd p

module _ (c : ℕ) (g h a b : Symbol) (x0 y0 : List Word) (s t : Symbol) (x z : List Word) (nx : Next c g x0 s x) (nz : Next c h y0 t z) (r : T (reaches s a)) (r' : T (reaches t b)) (i : s ≡ g → T (whole c a)) (j : t ≡ h → T (whole c b))
    (cov : T (covers (ops g) (ops s))) (cov' : T (covers (ops h) (ops t))) (av : T (avoids (ops h) x0)) (av' : T (avoids (ops g) y0)) (o o' : Word) (m m' : ℕ) (ls ls' : List (List Word)) where
  told-no : (ps qs : List Part) → T (told c a ps b qs) → T (behind_ok s ps) → T (behind_ok t qs) → fill o (write_out m ps) ls ++ x ≡ fill o' (write_out m' qs) ls' ++ z → ⊥
  told-no [] [] n k k' e = two-ends c g h a b x0 y0 s t x z nx nz r r' i j n av av' e
  told-no [] (word w ∷ qs) n k k' e = no-token c g h a x0 _ s x w nx r n av (covers-at (ops h) (ops t) w cov' k') e
  told-no (word w ∷ ps) [] n k k' e = no-token c h g b y0 _ t z w nz r' n av' (covers-at (ops g) (ops s) w cov k) (sym e)
  told-no ps qs n k k' e = absurd n

pub clash-no : (spell : ℕ → ℕ → Word) (c k f d : ℕ) (ts : Forest) (p : Place) (ps : List Part) (l h b : ℕ) (us : Forest) (q : Place) (qs : List Part) (i : Info spell k f d ts p ps) (j : Info spell l h b us q qs) (g g' : Symbol) (x0 y0 x z : List Word)
    → Within c zones → T (rooted c g) → T (rooted c g') → T (all_plain ts) → T (all_plain us) → is_tail ps ≡ false → is_tail qs ≡ false → T (clash c i.rule.left ps j.rule.left qs) → Next c g x0 p.symbol x → Next c g' y0 q.symbol z
    → T (covers (ops g) (ops p.symbol)) → T (covers (ops g') (ops q.symbol)) → T (avoids (ops g') x0) → T (avoids (ops g) y0)
    → fill (spell k d) (write_out i.times ps) (tokens_all spell ts) ++ x ≡ fill (spell l b) (write_out j.times qs) (tokens_all spell us) ++ z → ⊥
clash-no spell c k f d ts p ps l h b us q qs i j g g' x0 y0 x z v ro ro' pl pl' e1 e2 n nx nz cov cov' av av' e =
    let st = and_left (paired_starts ps qs) (told c i.rule.left (skip ps) j.rule.left (skip qs)) n in
    let s = skipped (spell k d) (spell l b) i.times j.times ps qs (tokens_all spell ts) (tokens_all spell us) x z st (other-of spell k f d ts p ps i) (other-of spell l h b us q qs j) (all-pass spell k f d ts p ps i pl) (all-pass spell l h b us q qs j pl') e in
    told-no c g g' i.rule.left j.rule.left x0 y0 p.symbol q.symbol x z nx nz i.reached j.reached
    (λ y. ends-at c p.symbol i.rule.left v i.ended (subst (λ (s : Symbol). T (rooted c s)) (sym y) ro)) (λ y. ends-at c q.symbol j.rule.left v j.ended (subst (λ (s : Symbol). T (rooted c s)) (sym y) ro'))
    cov cov' av av' (spell k d) (spell l b) i.times j.times s.left s.right (skip ps) (skip qs) (and_right (paired_starts ps qs) (told c i.rule.left (skip ps) j.rule.left (skip qs)) n)
    (behind-of p.symbol ps e1 (self-left ps qs st) i.skips) (behind-of q.symbol qs e2 (self-right ps qs st) j.skips) s.is
