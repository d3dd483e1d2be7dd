-- Trees whose nodes are those of some production: their tokens by class, what they weigh, and where a parenthesis that they open first is closed.
-- Assumes nothing.
use mathlib.Core.Path.{◌≡◌, refl, sym, ap, ◌∙◌, subst}
use mathlib.Core.Bool.{Bool, true, false, ◌&&◌, ◌||◌, not}
use mathlib.Core.Option.{some}
use mathlib.Core.List.{List, [], ◌∷◌, ◌++◌}
use Prim.Native.Nat.{ℕ, zero, suc, ◌+◌, ◌≤◌}
use native.Mathlib.Omega.{arith}
use lib.Dec.{T, eqb, eqb→eq}
use Rattle.def_tree.specs.Tree.{Tree, Forest, node, nil, cons, kind, length_f}
use Rattle.def_file.specs.declared.kind.Kind.TheVariants as Kinds
use Rattle.def_file.specs.Named.{is_kind}
use Rattle.def_text.specs.Words.{Word, every}
use Rattle.def_text.specs.Grammar.{Part, word, own, kid, run, commas, more, look, if_has, if_not, one_default, Rule, is_for}
use Rattle.def_text.specs.Table.{rules}
use Rattle.def_text.specs.Derives.{right_of, is_paren}
pub use Rattle.laws_text.specs.Claims.{one_inside, pair_ok}
use Rattle.laws_text.proofs.Basics.{and_left, and_right, both, is_T}
use Rattle.laws_text.proofs.Pieces.{Class, open!, close!, other!, class, Mark, tok, child, runs, lists, mores, marks, spread, marks-of}
use Rattle.laws_text.proofs.Cut.{mfill, children_in, cut, bal, bal-spread, AllPass, cut-fill, cut-append, w, wp, end, Weighs, AllWeigh, weigh-fill, count, shut, shut-spread, end-shut, begins!, begins-spread, head-begins, head-end, Pos, heavy, heavy-spread, heavy-weighs, Behind, leads, leads-spread, lead-fill, lead-child}

abbrev pub is-other : Class → Bool
is-other open! = false
is-other close! = false
is-other other! = true

-- the node's own token is no parenthesis
abbrev pub owned : Word → List Part → Bool
owned o [] = true
owned o (word w ∷ ps) = owned o ps
owned o (own s ∷ ps) = is-other (class o) && owned o ps
owned o (kid x ∷ ps) = owned o ps
owned o (run x ∷ ps) = owned o ps
owned o (commas x ∷ ps) = owned o ps
owned o (more x ∷ ps) = owned o ps
owned o (look bs ∷ ps) = owned o ps
owned o (if_has p ∷ ps) = owned o ps
owned o (if_not p ∷ ps) = owned o ps
owned o (one_default ∷ ps) = owned o ps

abbrev pub some-mark : List Mark → Bool
some-mark [] = false
some-mark (m ∷ ms) = true

abbrev pub marks_at : ℕ → ℕ → ℕ → List Mark
marks_at k f n = marks (right_of k f n)

-- a node that is none of a script, with the children of some production; of kind 41 as a pair has it
abbrev pub node_ok : Word → ℕ → ℕ → ℕ → Bool
node_ok o k f n = not (is_kind Kinds.Script k) && some-mark (marks_at k f n) && eqb (children_in (marks_at k f n)) n && owned o (right_of k f n)

-- ---- what the rows are

abbrev lead_ok : ℕ → List Mark → Bool
lead_ok k [] = true
lead_ok k (tok open! ∷ ms) = is_paren k || leads 0 ms
lead_ok k (tok close! ∷ ms) = true
lead_ok k (tok other! ∷ ms) = true
lead_ok k (child ∷ ms) = is_kind Kinds.VarDeclarator k || (heavy false ms && shut false ms)
lead_ok k (runs ∷ ms) = true
lead_ok k (lists ∷ ms) = true
lead_ok k (mores ∷ ms) = true

abbrev pub good : ℕ → List Mark → Bool
good k ms = begins! ms && shut false ms && bal 0 ms && heavy false ms && lead_ok k ms

abbrev pub good_row : Rule → Bool
good_row r = is_kind Kinds.Script r.kind || good r.kind (marks r.right)

pub rows-good : T (every good_row rules)
unfolding rules
rows-good = tt

pub or-right : (p q : Bool) → T (p || q) → T (not p) → T q
or-right true q h k = absurd k
or-right false q h k = h

or-both : (p q q' : Bool) → T (p || q) → (T q → T q') → T (p || q')
or-both true q q' h f = tt
or-both false q q' h f = f h

lead-spread : (k m : ℕ) (ms : List Mark) → T (begins! ms) → T (lead_ok k ms) → T (lead_ok k (spread m ms))
lead-spread k m [] b h = absurd b
lead-spread k m (tok open! ∷ ms) b h = or-both (is_paren k) (leads 0 ms) (leads 0 (spread m ms)) h (λ t. leads-spread m 0 ms t)
lead-spread k m (tok close! ∷ ms) b h = absurd b
lead-spread k m (tok other! ∷ ms) b h = tt
lead-spread k m (child ∷ ms) b h = or-both (is_kind Kinds.VarDeclarator k) (heavy false ms && shut false ms) (heavy false (spread m ms) && shut false (spread m ms)) h
    (λ t. both (heavy false (spread m ms)) (shut false (spread m ms)) (heavy-spread m false ms (and_left (heavy false ms) (shut false ms) t)) (shut-spread m false ms (and_right (heavy false ms) (shut false ms) t)))
lead-spread k m (runs ∷ ms) b h = absurd b
lead-spread k m (lists ∷ ms) b h = absurd b
lead-spread k m (mores ∷ ms) b h = absurd b

-- the five parts
pub record Good (k : ℕ) (ms : List Mark) : Type 0 where
  pub starts : T (begins! ms)
  pub shuts : T (shut false ms)
  pub balanced : T (bal 0 ms)
  pub weighty : T (heavy false ms)
  pub led : T (lead_ok k ms)

pub good-parts : (k : ℕ) (ms : List Mark) → T (good k ms) → Good k ms
good-parts k ms h =
    let a = and_left (begins! ms && shut false ms && bal 0 ms && heavy false ms) (lead_ok k ms) h in
    let b = and_left (begins! ms && shut false ms && bal 0 ms) (heavy false ms) a in
    let c = and_left (begins! ms && shut false ms) (bal 0 ms) b in
    record {
      starts = and_left (begins! ms) (shut false ms) c;
      shuts = and_right (begins! ms) (shut false ms) c;
      balanced = and_right (begins! ms && shut false ms) (bal 0 ms) b;
      weighty = and_right (begins! ms && shut false ms && bal 0 ms) (heavy false ms) a;
      led = and_right (begins! ms && shut false ms && bal 0 ms && heavy false ms) (lead_ok k ms) h;
    }

good-spread : (k m : ℕ) (ms : List Mark) → Good k ms → Good k (spread m ms)
good-spread k m ms g = record {
  starts = begins-spread m ms g.starts;
  shuts = shut-spread m false ms g.shuts;
  balanced = subst T (sym (bal-spread m 0 ms)) g.balanced;
  weighty = heavy-spread m false ms g.weighty;
  led = lead-spread k m ms g.starts g.led;
}

for-kind : (k f n : ℕ) (r : Rule) → T (is_for k f n r) → r.kind ≡ k
for-kind k f n r h = eqb→eq r.kind k (and_left (eqb r.kind k) (eqb r.form f) (and_left (eqb r.kind k && eqb r.form f) _ h))

pub good_at : (k f n : ℕ) → T (not (is_kind Kinds.Script k)) → T (some-mark (marks_at k f n)) → Good k (marks_at k f n)
good_at k f n s h = marks-of (λ (ms : List Mark). T (some-mark ms) → Good k ms) good_row k f n (λ e. absurd e)
    (λ m r t i e. let p = for-kind k f n r i in
    good-spread k m (marks r.right) (subst (λ (j : ℕ). Good j (marks r.right)) p (good-parts r.kind (marks r.right) (or-right (is_kind Kinds.Script r.kind) (good r.kind (marks r.right)) t (subst (λ (j : ℕ). T (not (is_kind Kinds.Script j))) (sym p) s)))))
    rows-good h

-- ---- trees

module _ (spell : ℕ → ℕ → Word) where
  abbrev mutual
    pub canon : Tree → Bool
    canon (node k f a ts) = node_ok (spell k a) k f (length_f ts) && pair_ok k f a ts && canons ts

    pub canons : Forest → Bool
    canons nil = true
    canons (cons t ts) = canon t && canons ts

-- the classes of a tree's tokens, and its weight
abbrev mutual
  pub ct : Tree → List Class
  ct (node k f a ts) = mfill (marks_at k f (length_f ts)) (cts ts)

  pub cts : Forest → List (List Class)
  cts nil = []
  cts (cons t ts) = ct t ∷ cts ts

abbrev mutual
  pub W : Tree → ℕ
  W (node k f a ts) = wp false (marks_at k f (length_f ts)) (WF ts)

  pub WF : Forest → List ℕ
  WF nil = []
  WF (cons t ts) = W t ∷ WF ts

pub count-WF : (ts : Forest) → count (WF ts) ≡ length_f ts
count-WF nil = refl
count-WF (cons t ts) = ap suc (count-WF ts)

-- the parts of a node that is canonical
pub record Node (k f a : ℕ) (ts : Forest) : Type 0 where
  pub good : Good k (marks_at k f (length_f ts))
  pub counted : children_in (marks_at k f (length_f ts)) ≡ count (WF ts)

module _ (spell : ℕ → ℕ → Word) where
  pub node-of : (k f a : ℕ) (ts : Forest) → T (node_ok (spell k a) k f (length_f ts)) → Node k f a ts
  node-of k f a ts h =
      let n = length_f ts in
      let a' = and_left (not (is_kind Kinds.Script k) && some-mark (marks_at k f n) && eqb (children_in (marks_at k f n)) n) (owned (spell k a) (right_of k f n)) h in
      let b = and_left (not (is_kind Kinds.Script k) && some-mark (marks_at k f n)) (eqb (children_in (marks_at k f n)) n) a' in
      record {
        good = good_at k f n (and_left (not (is_kind Kinds.Script k)) (some-mark (marks_at k f n)) b) (and_right (not (is_kind Kinds.Script k)) (some-mark (marks_at k f n)) b);
        counted = eqb→eq (children_in (marks_at k f n)) n (and_right (not (is_kind Kinds.Script k) && some-mark (marks_at k f n)) (eqb (children_in (marks_at k f n)) n) a') ∙ sym (count-WF ts);
      }

  pub ok-of : (k f a : ℕ) (ts : Forest) → T (canon spell (node k f a ts)) → T (node_ok (spell k a) k f (length_f ts))
  ok-of k f a ts c = and_left (node_ok (spell k a) k f (length_f ts)) (pair_ok k f a ts) (and_left (node_ok (spell k a) k f (length_f ts) && pair_ok k f a ts) (canons spell ts) c)

  pub pair-of : (k f a : ℕ) (ts : Forest) → T (canon spell (node k f a ts)) → T (pair_ok k f a ts)
  pair-of k f a ts c = and_right (node_ok (spell k a) k f (length_f ts)) (pair_ok k f a ts) (and_left (node_ok (spell k a) k f (length_f ts) && pair_ok k f a ts) (canons spell ts) c)

  pub kids-of : (k f a : ℕ) (ts : Forest) → T (canon spell (node k f a ts)) → T (canons spell ts)
  kids-of k f a ts c = and_right (node_ok (spell k a) k f (length_f ts) && pair_ok k f a ts) (canons spell ts) c

  mutual
    pub weighs : (t : Tree) → T (canon spell t) → (b : Bool) (r : List Class) → w b (ct t ++ r) ≡ W t + w false r
    weighs (node k f a ts) c b r =
        let o = node-of k f a ts (ok-of k f a ts c) in
        let ms = marks_at k f (length_f ts) in
        let p = weigh-fill ms (cts ts) (WF ts) b r (weighs-all ts (kids-of k f a ts c)) in
        let q = head-begins b ms (WF ts) o.good.starts o.counted in
        let e = head-end b ms (WF ts) o.good.starts o.counted (end-shut false ms (WF ts) o.good.shuts o.counted) in
        p ∙ ap (λ x. x + w (end b ms (WF ts)) r) q ∙ ap (λ x. wp false ms (WF ts) + w x r) e

    pub weighs-all : (ts : Forest) → T (canons spell ts) → AllWeigh (cts ts) (WF ts)
    weighs-all nil c = tt
    weighs-all (cons t ts) c = ((λ b r. weighs t (and_left (canon spell t) (canons spell ts) c) b r), weighs-all ts (and_right (canon spell t) (canons spell ts) c))

  mutual
    pub passes : (t : Tree) → T (canon spell t) → (d : ℕ) (r : List Class) → cut d (ct t ++ r) ≡ cut d r
    passes (node k f a ts) c d r = cut-fill (marks_at k f (length_f ts)) (cts ts) 0 d r (node-of k f a ts (ok-of k f a ts c)).good.balanced (passes-all ts (kids-of k f a ts c))

    pub passes-all : (ts : Forest) → T (canons spell ts) → AllPass (cts ts)
    passes-all nil c = tt
    passes-all (cons t ts) c = ((λ d r. passes t (and_left (canon spell t) (canons spell ts) c) d r), passes-all ts (and_right (canon spell t) (canons spell ts) c))

  mutual
    pub pos : (t : Tree) → T (canon spell t) → 1 ≤ W t
    pos (node k f a ts) c = let o = node-of k f a ts (ok-of k f a ts c) in heavy-weighs false (marks_at k f (length_f ts)) (WF ts) o.good.weighty o.counted (pos-all ts (kids-of k f a ts c))

    pub pos-all : (ts : Forest) → T (canons spell ts) → Pos (WF ts)
    pos-all nil c = tt
    pos-all (cons t ts) c = (pos t (and_left (canon spell t) (canons spell ts) c), pos-all ts (and_right (canon spell t) (canons spell ts) c))

-- ---- what stands behind the pair that a tree begins with

-- kinds of which something does: in a pair no other stands
abbrev pub extra : ℕ → ℕ
extra k = elim (is_paren k || is_kind Kinds.VarDeclarator k) [ true ↦ 0 | false ↦ 1 ]

abbrev headC : List Class → Class
headC [] = close!
headC (x ∷ xs) = x

abbrev tailC : List Class → List Class
tailC [] = []
tailC (x ∷ xs) = xs

weaker : (k : ℕ) (z : List Class) → Behind (extra k) z → Behind 0 z
weaker k z h = go (extra k) h
  where
    go : (e : ℕ) → Behind e z → Behind 0 z
    go e b = (b.0, b.1, λ r. let g = b.2 r in omega (arith, g))

from-one : (k : ℕ) (z : List Class) → Behind 1 z → Behind (extra k) z
from-one k z h = go (is_paren k || is_kind Kinds.VarDeclarator k)
  where
    go : (b : Bool) → Behind (elim b [ true ↦ 0 | false ↦ 1 ]) z
    go true = (h.0, h.1, λ r. let g = h.2 r in omega (arith, g))
    go false = h

from-none : (k : ℕ) (z : List Class) → T (is_paren k || is_kind Kinds.VarDeclarator k) → Behind 0 z → Behind (extra k) z
from-none k z t h = go (is_paren k || is_kind Kinds.VarDeclarator k) t
  where
    go : (b : Bool) → T b → Behind (elim b [ true ↦ 0 | false ↦ 1 ]) z
    go true t = h
    go false t = absurd t

abbrev LeadT : Tree → Type 0
LeadT t = (z : List Class) → ct t ≡ open! ∷ z → Behind 0 z

abbrev LeadF : Forest → Type 0
LeadF nil = Unit {0}
LeadF (cons t ts) = LeadT t

same-head : (c : Class) (xs : List Class) (z : List Class) → c ∷ xs ≡ open! ∷ z → c ≡ open!
same-head c xs z e = ap headC e

close-not : close! ≡ open! → ⊥
close-not e = absurd (cc)

other-not : other! ≡ open! → ⊥
other-not e = absurd (cc)

or-left : (p q : Bool) → T p → T (p || q)
or-left true q h = tt
or-left false q h = absurd h

or-r : (p q : Bool) → T q → T (p || q)
or-r true q h = tt
or-r false q h = h

no-child : (m : ℕ) → suc m ≡ 0 → ⊥
no-child m e = omega (arith, e)

less! : (m n : ℕ) → suc m ≡ suc n → m ≡ n
less! m n e = omega (arith, e)

pub more-weight : (s r : List Class) (b : Bool) → 0 + w false r ≤ w b (s ++ r)
more-weight [] [] b = omega arith
more-weight [] (open! ∷ r) b = omega arith
more-weight [] (close! ∷ r) true = omega arith
more-weight [] (close! ∷ r) false = omega arith
more-weight [] (other! ∷ r) b = omega arith
more-weight (open! ∷ s) r b = more-weight s r true
more-weight (close! ∷ s) r true = let h = more-weight s r false in omega (arith, h)
more-weight (close! ∷ s) r false = more-weight s r false
more-weight (other! ∷ s) r b = let h = more-weight s r false in omega (arith, h)

-- a right side that closes one more than it opens
closed : (ms : List Mark) (ls : List (List Class)) (e : ℕ) → T (bal (suc e) ms) → AllPass ls → (s : List Class) × (cut e (mfill ms ls) ≡ some s) × ((r : List Class) → 0 + w false r ≤ w false (s ++ r))
closed [] ls e b p = absurd b
closed (tok open! ∷ ms) ls e b p = closed ms ls (suc e) b p
closed (tok close! ∷ ms) ls zero b p = (mfill ms ls, refl, λ r. more-weight (mfill ms ls) r false)
closed (tok close! ∷ ms) ls (suc e) b p = closed ms ls e b p
closed (tok other! ∷ ms) ls e b p = closed ms ls e b p
closed (child ∷ ms) [] e b p = closed ms [] e b p
closed (child ∷ ms) (l ∷ ls) e b p = let c = closed ms ls e b p.1 in (c.0, p.0 e (mfill ms ls) ∙ c.1, c.2)
closed (runs ∷ ms) ls e b p = closed ms ls e b p
closed (lists ∷ ms) ls e b p = closed ms ls e b p
closed (mores ∷ ms) ls e b p = closed ms ls e b p

-- by the first mark
module _ (k : ℕ) where
  lead-open : (ms : List Mark) (ls : List (List Class)) (xs : List ℕ) (b : Bool) → is_paren k ≡ b → T (b || leads 0 ms) → T (bal 1 ms) → children_in ms ≡ count xs → AllPass ls → AllWeigh ls xs → Behind (extra k) (mfill ms ls)
  lead-open ms ls xs true e h l n p g =
      from-none k (mfill ms ls) (or-left (is_paren k) (is_kind Kinds.VarDeclarator k) (is_T (is_paren k) e)) (closed ms ls 0 l p)
  lead-open ms ls xs false e h l n p g = from-one k (mfill ms ls) (lead-fill ms ls xs 0 h n p g)

  lead-child-of : (ms : List Mark) (l : List Class) (ls : List (List Class)) (xs : List ℕ) (z : List Class) (b : Bool) → is_kind Kinds.VarDeclarator k ≡ b → T (b || (heavy false ms && shut false ms)) → children_in ms ≡ count xs
      → AllWeigh ls xs → Pos xs → (c : Class) (l' : List Class) → l ≡ c ∷ l' → c ≡ open! → ((y : List Class) → l ≡ open! ∷ y → Behind 0 y) → l ++ mfill ms ls ≡ open! ∷ z → Behind (extra k) z
  lead-child-of ms l ls xs z true q h n g o c l' d e f i =
      let j = d ∙ ap {B = List Class} (λ y. y ∷ l') e in
      let v = f l' j in
      let u = cut-append l' 0 v.0 (mfill ms ls) v.1 in
      from-none k z (or-r (is_paren k) (is_kind Kinds.VarDeclarator k) (is_T (is_kind Kinds.VarDeclarator k) q))
      (v.0 ++ mfill ms ls, ap (λ y. cut 0 y) (sym (ap tailC (ap (λ y. y ++ mfill ms ls) (sym j) ∙ i))) ∙ u, λ r. more-weight (v.0 ++ mfill ms ls) r false)
  lead-child-of ms l ls xs z false q h n g o c l' d e f i =
      let j = d ∙ ap {B = List Class} (λ y. y ∷ l') e in
      from-one k z (lead-child l (mfill ms ls) l' (λ r.
      let p = weigh-fill ms ls xs false r g in
      let t = ap (λ b. w b r) (end-shut false ms xs (and_right (heavy false ms) (shut false ms) h) n) in
      let y = heavy-weighs false ms xs (and_left (heavy false ms) (shut false ms) h) n o in
      omega (arith, p, t, y)) j (f l' j) z i)

  lead-list : (ms : List Mark) (l : List Class) (ls : List (List Class)) (x : ℕ) (xs : List ℕ) (z : List Class) (m : List Class) → l ≡ m → T (is_kind Kinds.VarDeclarator k || (heavy false ms && shut false ms)) → children_in ms ≡ count xs
      → Weighs l x → 1 ≤ x → AllWeigh ls xs → Pos xs → ((y : List Class) → l ≡ open! ∷ y → Behind 0 y) → l ++ mfill ms ls ≡ open! ∷ z → Behind (extra k) z
  lead-list ms l ls x xs z [] d h n v u g o f e =
      let a = v false [] in
      let b = ap (λ y. w false (y ++ [])) d in
      absurd (omega (arith, a, b, u))
  lead-list ms l ls x xs z (c ∷ m) d h n v u g o f e =
      lead-child-of ms l ls xs z (is_kind Kinds.VarDeclarator k) refl h n g o c m d (ap headC (ap (λ y. y ++ mfill ms ls) (sym d) ∙ e)) f e

  lead-first : (ms : List Mark) (ts : Forest) (xs : List ℕ) (z : List Class) → T (begins! ms) → T (lead_ok k ms) → T (bal 0 ms) → children_in ms ≡ count xs → AllPass (cts ts) → AllWeigh (cts ts) xs → Pos xs → LeadF ts
      → mfill ms (cts ts) ≡ open! ∷ z → Behind (extra k) z
  lead-first [] ts xs z b h l n p g o f e = absurd b
  lead-first (tok open! ∷ ms) ts xs z b h l n p g o f e = subst (λ (y : List Class). Behind (extra k) y) (ap tailC e) (lead-open ms (cts ts) xs (is_paren k) refl h l n p g)
  lead-first (tok close! ∷ ms) ts xs z b h l n p g o f e = absurd b
  lead-first (tok other! ∷ ms) ts xs z b h l n p g o f e = absurd (other-not (same-head other! (mfill ms (cts ts)) z e))
  lead-first (child ∷ ms) nil [] z b h l n p g o f e = absurd (no-child (children_in ms) n)
  lead-first (child ∷ ms) nil (x ∷ xs) z b h l n p g o f e = absurd g
  lead-first (child ∷ ms) (cons t ts) [] z b h l n p g o f e = absurd g
  lead-first (child ∷ ms) (cons t ts) (x ∷ xs) z b h l n p g o f e = lead-list ms (ct t) (cts ts) x xs z (ct t) refl h (less! (children_in ms) (count xs) n) g.0 o.0 g.1 o.1 f e
  lead-first (runs ∷ ms) ts xs z b h l n p g o f e = absurd b
  lead-first (lists ∷ ms) ts xs z b h l n p g o f e = absurd b
  lead-first (mores ∷ ms) ts xs z b h l n p g o f e = absurd b

module _ (spell : ℕ → ℕ → Word) where
  mutual
    pub lead : (t : Tree) → T (canon spell t) → (z : List Class) → ct t ≡ open! ∷ z → Behind (extra (kind t)) z
    lead (node k f a ts) c z e =
        let o = node-of spell k f a ts (ok-of spell k f a ts c) in
        let d = kids-of spell k f a ts c in
        lead-first k (marks_at k f (length_f ts)) ts (WF ts) z o.good.starts o.good.led o.good.balanced o.counted (passes-all spell ts d) (weighs-all spell ts d) (pos-all spell ts d) (lead-all ts d) e

    lead-all : (ts : Forest) → T (canons spell ts) → LeadF ts
    lead-all nil c = tt
    lead-all (cons t ts) c = λ z e. weaker (kind t) z (lead t (and_left (canon spell t) (canons spell ts) c) z e)
