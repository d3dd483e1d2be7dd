-- The same over the words: what a turn of the loop asks for and leaves. Assumes nothing.
use mathlib.Core.Path.{◌≡◌, refl, sym, ap, ap₂, ◌∙◌}
use mathlib.Core.Bool.{Bool, true, false, ◌&&◌}
use mathlib.Core.Logic.{⊎_elim}
use mathlib.Core.List.{List, [], ◌∷◌, ◌++◌}
use Prim.Native.Nat.{ℕ, suc, ◌+◌, ◌-◌, ◌≤◌, ◌<◌}
use native.Mathlib.Omega.{arith}
use lib.ListN.{length, get_or, take, drop, set}
use borrow.Author.Tests.{eq-eqb, ne_eqb}
use lib.Seq.{drop-cons, get_or-drop, get_or_at, set_at, set_split, set-get_or, get_or-set_same, get_or-set_other, length-take-le}
use Rattle.def_tree.specs.Base.{pick}
use Rattle.def_tree.specs.Tree.{Tree, Forest, node, nil, cons, kids, length_f, count, counts, Core, core, no_core, flat, flats, plant, first_t}
use Rattle.def_tree.proofs.Place.{plant-flat}
use Rattle.def_tree.proofs.Whole.{Whole}
use Rattle.def_pass.specs.Tree.{head_t}
use Rattle.def_pass.specs.Twice.{is_function, twice, flag, flags}
use Rattle.laws_flat.specs.PassF.{flagged_o, flagged_l}
use Rattle.words.specs.Layout.{tree, node_of}
use Rattle.words.proofs.Nodes.{tree-length, tree-at}
use Rattle.words.specs.Tab.{same_or_not}
use Rattle.words_scopes.specs.State.{Named, Names}
use Rattle.words_nodes.specs.Nodes.{Planted, One, Apart, NodePut, Replants, tree_from, forest_from, put_at}
use Rattle.words.proofs.Stored.{apart-self, apart-then, put-tree}
use Rattle.words_nodes.proofs.Apart.{replants}
use Rattle.words_nodes.proofs.Words.{tree-whole, in_tree}
use Rattle.words_nodes.proofs.Trees.{flat-from, put_one, length-flat, count-some}
use Rattle.words_nodes.proofs.Loops.{open-first}
use Rattle.words_twice.specs.declared.Seen.{Seen}
use Rattle.words_twice.specs.declared.Seen.TheVariants.{Never}
use Rattle.words_twice.specs.Twice.{told, Tells, outside, Stand, Plain, flag_node, flagged_from}
use Rattle.words_twice.proofs.Places.{open-stand}
use Rattle.words_twice.proofs.Flagging.{Left, left-start, left-all, left_open, in_step, first-stand, body-stand, past-done, place-behind, place-flagged, count-flag, counts-flags}
use Rattle.words_twice.proofs.Looks.{in-words, node-kids}

-- flagging changes nothing behind the trees
module _ (b : ℕ → Bool) (xs : List Core) (n i : ℕ) where
  abbrev ts : Forest
  ts = forest_from xs n i

  abbrev z : List Core
  z = drop (i + counts ts) xs

  behind-from : i ≤ length xs → drop (i + counts ts) (flagged_from b xs n i) ≡ drop (i + counts ts) xs
  unfolding flagged_from
  behind-from l =
      ap (λ (k : ℕ). drop (i + k) (take i xs ++ flats (flags b ts) z)) (sym (counts-flags b ts))
      ∙ place-behind (take i xs) (flags b ts) z (length-take-le i xs l)

  plain-from : i ≤ length xs → Plain xs i → Plain (flagged_from b xs n i) (i + counts ts)
  plain-from l p = record { low = λ j m. let e : get_or (flagged_from b xs n i) j no_core ≡ get_or xs j no_core = same j m in rw e (p.low j (omega arith)) }
    where
      same : (j : ℕ) → i + counts ts ≤ j → get_or (flagged_from b xs n i) j no_core ≡ get_or xs j no_core
      same j m =
          let e : i + counts ts + (j - (i + counts ts)) ≡ j = omega arith in
          ap (λ (k : ℕ). get_or (flagged_from b xs n i) k no_core) (sym e) ∙ sym (get_or-drop (i + counts ts) (flagged_from b xs n i) (j - (i + counts ts)) no_core)
          ∙ ap (λ (ys : List Core). get_or ys (j - (i + counts ts)) no_core) (behind-from l) ∙ get_or-drop (i + counts ts) xs (j - (i + counts ts)) no_core ∙ ap (λ (k : ℕ). get_or xs k no_core) e

plain-later : {xs : List Core} {i j : ℕ} → i ≤ j → Plain xs i → Plain xs j
plain-later l p = record { low = λ k m. p.low k (omega arith) }

plain-set : {xs : List Core} (i : ℕ) (c : Core) → Plain xs i → Plain (set xs i c) (i + 1)
plain-set {xs} i c p = record { low = λ j m. rw (get_or-set_other xs i j c no_core (λ e. omega arith)) (p.low j (omega arith)) }

-- a loop over the n trees from i on of w has come to the node at `at`, and the words are v
pub record Flagging (b : ℕ → Bool) (w v : List ℕ) (n i at more : ℕ) : Type 0 where
  pub left : Left b (flagged_from b (tree w) n i) (i + counts (forest_from (tree w) n i)) (tree v) at more
  pub planted : Planted v
  pub apart : Apart w v
  pub plain : Plain (tree v) at
  pub from : i ≤ at

pub flagging-start : (b : ℕ → Bool) {w : List ℕ} {n i : ℕ} → Planted w → Stand (tree w) i n → Plain (tree w) i → Flagging b w w n i i n
flagging-start b {w} {n} {i} g s p = record { left = left-start b (tree w) n i (tree-whole g) s; planted = g; apart = apart-self w; plain = p; from = omega arith }

pub flagging-all : {b : ℕ → Bool} {w v : List ℕ} {n i at more : ℕ} → Planted w → Flagging b w v n i at more → more ≡ 0 → (at ≡ i + counts (forest_from (tree w) n i)) × Replants w v (flagged_from b (tree w) n i)
flagging-all {b} {w} {v} {n} {i} g F z =
    let e = left-all F.left z in
    (e.0, replants (flagged_from b (tree w) n i) g F.apart F.planted.good.nodes e.1 (rw e.1 at F.planted.good.names) (rw e.1 at F.planted.one))

-- of whatever test it is, so of what the table tells
abbrev pub told_by : List Seen → ℕ → Bool
told_by seen x = told (get_or seen x Never)

pub known : (seen : List Seen) {w v : List ℕ} {n i at more : ℕ} → ((b : ℕ → Bool) → Tells seen b → Flagging b w v n i at more) → Flagging (told_by seen) w v n i at more
known seen F = F (told_by seen) (λ x l. refl)

-- the next node, taken apart
record Cut (b : ℕ → Bool) (goal : List Core) (e : ℕ) (ys : List Core) (at more : ℕ) : Type 0 where
  p : List Core
  k : ℕ
  f : ℕ
  a : ℕ
  us : Forest
  vs : Forest
  z : List Core
  here : ys ≡ p ++ (core k f (length_f us) a ∷ flats us (flats vs z))
  long : length p ≡ at
  many : suc (length_f vs) ≡ more
  ends : at + (suc (counts us) + counts vs) ≡ e
  goes : p ++ flats (flags b (cons (node k f a us) vs)) z ≡ goal

cut : {b : ℕ → Bool} {goal : List Core} {e : ℕ} {ys : List Core} {at more : ℕ} → Left b goal e ys at more → 0 < more → Cut b goal e ys at more
cut {b} {goal} {e} {ys} {at} {more} L z = go L.trees L.here L.many L.ends L.goes
  where
    go : (ts : Forest) → ys ≡ L.before ++ flats ts L.after → length_f ts ≡ more → at + counts ts ≡ e → L.before ++ flats (flags b ts) L.after ≡ goal → Cut b goal e ys at more
    go nil h m n g = absurd (omega arith)
    go (cons (node k f a us) vs) h m n g = record { p = L.before; k = k; f = f; a = a; us = us; vs = vs; z = L.after; here = h; long = L.long; many = m; ends = n; goes = g }

module _ {b : ℕ → Bool} {w v : List ℕ} {n i at more : ℕ} (F : Flagging b w v n i at more) (z : 0 < more) where
  C : Cut b (flagged_from b (tree w) n i) (i + counts (forest_from (tree w) n i)) (tree v) at more
  C = cut F.left z

  abbrev x : Core
  x = core C.k C.f (length_f C.us) C.a

  abbrev rest : List Core
  rest = flats C.us (flats C.vs C.z)

  pub inside : at < get_or v 0 0
  inside = in_tree F.planted (left_open F.left) z

  pub here : (16384 ≤ length v) × (at < 1024)
  here = in-words F.planted inside

  at-is : get_or (tree v) at no_core ≡ x
  at-is = ap (λ (ys : List Core). get_or ys at no_core) C.here ∙ get_or_at C.p x rest no_core at C.long

  node-is : node_of v at ≡ x
  node-is = sym (tree-at v at inside) ∙ at-is

  -- a node that is no function
  module _ {k c : ℕ} (ek : k ≡ (node_of v at).kind) (ec : c ≡ (node_of v at).arity) (h : is_function k ≡ false) where
    pub open_done : {u : List ℕ} → Replants v u (set (tree v) at (flag_node b (get_or (tree v) at no_core))) → Flagging b w u n i (at + 1) (more - 1 + c)
    open_done {u} R =
        let shut : is_function C.k ≡ false = ap is_function (sym (ek ∙ ap (λ (y : Core). y.kind) node-is)) ∙ h in
        let kids : c ≡ length_f C.us = ec ∙ ap (λ (y : Core). y.arity) node-is in
        let one : tree u ≡ C.p ++ (flag_node b x ∷ rest) =
        R.is ∙ ap (λ (y : Core). set (tree v) at (flag_node b y)) at-is ∙ ap (λ (ys : List Core). set ys at (flag_node b x)) C.here ∙ set_at C.p x rest (flag_node b x) at C.long in
        record {
          left = rw (one, kids) (in_step b C.p C.k C.f C.a C.us C.vs C.z C.long C.many C.ends C.goes shut);
          planted = R.planted;
          apart = apart-then F.apart R.apart;
          plain = rw R.is (plain-set at (flag_node b (get_or (tree v) at no_core)) F.plain);
          from = omega (arith, F.from);
        }

  -- a function: its name, then the rest of it
  module _ {k f c out : ℕ} (ek : k ≡ (node_of v at).kind) (ef : f ≡ (node_of v at).form) (ec : c ≡ (node_of v at).arity) (eo : out ≡ outside k f c) where
    kids-are : c ≡ length_f C.us
    kids-are = ec ∙ ap (λ (y : Core). y.arity) node-is

    out-is : out ≡ outside C.k C.f (length_f C.us)
    out-is = eo ∙ rw (ek ∙ ap (λ (y : Core). y.kind) node-is, ef ∙ ap (λ (y : Core). y.form) node-is, kids-are) refl

    name-stands : Stand (tree v) (at + 1) out
    name-stands = rw (out-is, C.here) (first-stand b C.p C.k C.f C.a C.us C.vs C.z C.long)

    name-plain : Plain (tree v) (at + 1)
    name-plain = plain-later (omega arith) F.plain

    -- its name stands, and has room for a flag
    pub name : Stand (tree v) (at + 1) out × Plain (tree v) (at + 1)
    name = (name-stands, name-plain)

    module _ {v₁ : List ℕ} {r₁ : ℕ} (e₁ : r₁ ≡ at + 1 + counts (forest_from (tree v) out (at + 1))) (R₁ : Replants v v₁ (flagged_from b (tree v) out (at + 1))) where
      body-plain : Plain (tree v₁) r₁
      body-plain = rw (e₁, R₁.is) (plain-from b (tree v) out (at + 1) name-stands.inside name-plain)

      name_done : tree v₁ ≡ flagged_from b (C.p ++ (x ∷ rest)) (outside C.k C.f (length_f C.us)) (at + 1)
      name_done = R₁.is ∙ ap (λ (m : ℕ). flagged_from b (tree v) m (at + 1)) out-is ∙ ap (λ (ys : List Core). flagged_from b ys (outside C.k C.f (length_f C.us)) (at + 1)) C.here

      name-ends : r₁ ≡ at + 1 + counts (forest_from (C.p ++ (x ∷ rest)) (outside C.k C.f (length_f C.us)) (at + 1))
      name-ends = e₁ ∙ ap₂ {C = ℕ} (λ (m : ℕ) (ys : List Core). at + 1 + counts (forest_from ys m (at + 1))) out-is C.here

      left_is : c - out ≡ length_f C.us - outside C.k C.f (length_f C.us)
      left_is = ap₂ {C = ℕ} (λ (m o : ℕ). m - o) kids-are out-is

      body-stands : Stand (tree v₁) r₁ (c - out)
      body-stands = rw left_is (body-stand b C.p C.k C.f C.a C.us C.vs C.z C.long name_done name-ends)

      -- the rest of it: where it begins, that it stands, and that it has room for flags
      pub body : (at < r₁) × Stand (tree v₁) r₁ (c - out) × Plain (tree v₁) r₁
      body = (omega (arith, e₁), body-stands, body-plain)

      pub shut-done : {v₂ : List ℕ} {r₂ : ℕ} → is_function k ≡ true → r₂ ≡ r₁ + counts (forest_from (tree v₁) (c - out) r₁) → Replants v₁ v₂ (flagged_from (twice (forest_from (tree v₁) (c - out) r₁)) (tree v₁) (c - out) r₁) → Flagging b w v₂ n i r₂ (more - 1)
      shut-done {v₂} {r₂} h e₂ R₂ =
          let fun : is_function C.k ≡ true = ap is_function (sym (ek ∙ ap (λ (y : Core). y.kind) node-is)) ∙ h in
          let m : ℕ = length_f C.us - outside C.k C.f (length_f C.us) in
          let body-done : tree v₂ ≡ flagged_from (twice (forest_from (tree v₁) m r₁)) (tree v₁) m r₁ = R₂.is ∙ ap (λ (m : ℕ). flagged_from (twice (forest_from (tree v₁) m r₁)) (tree v₁) m r₁) left_is in
          let body-ends : r₂ ≡ r₁ + counts (forest_from (tree v₁) m r₁) = e₂ ∙ ap (λ (m : ℕ). r₁ + counts (forest_from (tree v₁) m r₁)) left_is in
          record {
            left = past-done b C.p C.k C.f C.a C.us C.vs C.z C.long name_done name-ends body-done body-ends C.many C.ends C.goes fun;
            planted = R₂.planted;
            apart = apart-then F.apart (apart-then R₁.apart R₂.apart);
            plain = rw (e₂, R₂.is) (plain-from (twice (forest_from (tree v₁) (c - out) r₁)) (tree v₁) (c - out) r₁ body-stands.inside body-plain);
            from = omega (arith, F.from, e₁, e₂);
          }

-- one node flagged
names-set : (xs : List Core) (i : ℕ) (d : Core) → i < length xs → Named d → Names xs → Names (set xs i d)
names-set xs i d l n h j = ⊎_elim
    (λ (e : j ≡ i). rw (e, get_or-set_same xs i d no_core l) n)
    (λ (e : j ≡ i → ⊥). rw (get_or-set_other xs i j d no_core e) (h j))
    (same_or_not j i)

module _ (xs : List Core) (i : ℕ) (l : i < length xs) (d : Core) (e : d.arity ≡ (get_or xs i no_core).arity) (h : Whole xs) where
  abbrev topped : Tree → Tree
  topped t = node d.kind d.form d.num (kids t)

  flat-topped : (u : Tree) (zs ys : List Core) (c : Core) → flat u zs ≡ c ∷ ys → d.arity ≡ c.arity → flat (topped u) zs ≡ d ∷ ys
  flat-topped (node j f a ts) zs ys c q s =
      let p : core j f (length_f ts) a ≡ c = cc in
      let r : flats ts zs ≡ ys = cc in
      ap₂ {C = List Core} (λ (n : ℕ) (v : List Core). core d.kind d.form n d.num ∷ v) (ap (λ (x : Core). x.arity) p ∙ sym s) r

  set-one : One xs → One (set xs i d)
  unfolding put_at
  set-one o =
      let t : Tree = tree_from xs i in
      let post : List Core = drop (i + count t) xs in
      let put : set xs i d ≡ put_at xs i (topped t) =
      set_split xs i d l ∙ ap (λ (v : List Core). take i xs ++ v) (sym (flat-topped t post (drop (suc i) xs) (get_or xs i no_core) (flat-from xs i l h ∙ drop-cons xs i no_core l) e)) in
      rw put (put_one xs i l (topped t) o)

module _ {w : List ℕ} (g : Planted w) (i : ℕ) (l : i < get_or w 0 0) (b : ℕ → Bool) where
  abbrev xs : List Core
  xs = tree w

  abbrev old : Core
  old = get_or xs i no_core

  old-is : old ≡ node_of w i
  old-is = tree-at w i l

  kept : flag_node b (node_of w i) ≡ node_of w i → Replants w w (set xs i (flag_node b old))
  kept e =
      let same : xs ≡ set xs i (flag_node b old) = sym (ap (set xs i) (ap (flag_node b) old-is ∙ e ∙ sym old-is) ∙ set-get_or xs i no_core) in
      replants (set xs i (flag_node b old)) g (apart-self w) g.good.nodes same (rw same at g.good.names) (rw same at g.one)

  pub no-binding : ((node_of w i).kind ≡ 20 → ⊥) → Replants w w (set xs i (flag_node b old))
  no-binding h = kept (ap (λ (p : Bool). core (node_of w i).kind (pick (p && b (node_of w i).num) ((node_of w i).form + 2) (node_of w i).form) (node_of w i).arity (node_of w i).num) (ne_eqb (node_of w i).kind 20 h))

  module _ (k : (node_of w i).kind ≡ 20) {x : ℕ} (ex : x ≡ (node_of w i).num) where
    by : (p : Bool) → b x ≡ p → flag_node b (node_of w i) ≡ core (node_of w i).kind (pick p ((node_of w i).form + 2) (node_of w i).form) (node_of w i).arity (node_of w i).num
    by p e = ap₂ {C = Core} (λ (p q : Bool). core (node_of w i).kind (pick (p && q) ((node_of w i).form + 2) (node_of w i).form) (node_of w i).arity (node_of w i).num) (eq-eqb (node_of w i).kind 20 k) (ap b (sym ex) ∙ e)

    pub not-twice : b x ≡ false → Replants w w (set xs i (flag_node b old))
    not-twice e = kept (by false e)

    pub flagged-done : b x ≡ true → {u : List ℕ} {f c : ℕ} → f ≡ (node_of w i).form → c ≡ (node_of w i).arity → NodePut w u i (core 20 (f + 2) c x) → Replants w u (set xs i (flag_node b old))
    flagged-done e {u} {f} {c} ef ec s =
        let d : core 20 (f + 2) c x ≡ flag_node b old = rw (ef, ec, ex) (ap (λ (j : ℕ). core j ((node_of w i).form + 2) (node_of w i).arity (node_of w i).num) (sym k) ∙ sym (by true e) ∙ ap (flag_node b) (sym old-is)) in
        replants (set xs i (flag_node b old)) g s.apart (omega (arith, s.count, g.good.nodes)) (put-tree s l ∙ ap (set xs i) d)
        (names-set xs i (flag_node b old) (rw tree-length l) (g.good.names i) g.good.names) (set-one xs i (rw tree-length l) (flag_node b old) refl (tree-whole g) g.one)

  pub room : Plain xs i → (node_of w i).kind ≡ 20 → (node_of w i).form < 30
  room p k = rw old-is at (p.low i (omega arith) (ap (λ (y : Core). y.kind) old-is ∙ k))

-- the whole script
module _ {w : List ℕ} (g : Planted w) where
  abbrev root : Tree
  root = first_t (plant (tree w))

  root_is : tree_from (tree w) 0 ≡ root
  unfolding tree_from
  root_is = refl

  pub some-node : 0 < get_or w 0 0
  some-node = omega (arith, tree-length w, ap length (sym g.one.is) ∙ length-flat root [], count-some root)

  pub root_stands : Stand (tree w) 0 1
  root_stands = open-stand (omega arith) (open-first (tree w) 0 (rw tree-length some-node))

  pub all-flagged : flagged_from (twice (forest_from (tree w) (node_of w 0).arity 1)) (tree w) 1 0 ≡ flagged_l (tree w)
  all-flagged =
      let inner : kids root ≡ forest_from (tree w) (node_of w 0).arity 1 = ap kids (sym root_is) ∙ node-kids g some-node in
      ap (λ (ts : Forest). flagged_from (twice ts) (tree w) 1 0) (sym inner)
      ∙ ap (λ (ys : List Core). flagged_from (twice (kids root)) ys 1 0) (sym g.one.is)
      ∙ place-flagged [] (cons root nil) [] refl (twice (kids root)) refl
      ∙ sym (ap (λ (ys : List Core). flagged_l ys) (sym g.one.is) ∙ ap (λ (ts : Forest). flagged_o (head_t ts)) (plant-flat root []))

  pub flagged-long : length (flagged_l (tree w)) ≡ get_or w 0 0
  flagged-long =
      ap length (sym (ap (λ (ys : List Core). flagged_l ys) g.one.is) ∙ ap (λ (ts : Forest). flagged_o (head_t ts)) (plant-flat root []))
      ∙ omega (arith, length-flat (flag (twice (kids root)) root) [], count-flag (twice (kids root)) root, length-flat root [], ap length g.one.is, tree-length w)
