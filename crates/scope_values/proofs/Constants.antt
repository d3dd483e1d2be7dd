-- Constants: found, replaced in place, appended. Assumes nothing.
use mathlib.Core.Path.{◌≡◌, refl, sym, ap, ◌∙◌}
use mathlib.Core.List.{List, [], ◌∷◌, ◌++◌}
use mathlib.Core.Bool.{Bool, true, false, ◌||◌}
use mathlib.Core.Option.{Option, none, some}
use Rattle.std.proofs.Common as std
use Rattle.std.proofs.Common.{Some, None}
use Prim.Native.Nat.{ℕ, zero, suc, ◌+◌, ◌-◌, ◌*◌, ◌≤◌, ◌<◌}
use native.Mathlib.Omega.{arith}
use borrow.Author.Tests.{eq-eqb, ne_eqb}
use lib.ListN.{length, get_or, set, take, drop, length-set, length-drop, length-append}
use lib.Dec.{eqb, ltb}
use lib.Seq.{drop-set-add, take-set-le, get_or-drop, take-append-le, drop-append-le, get_or_at, set_at}
use Rattle.def_tree.specs.Base.{or_else}
use Rattle.def_tree.specs.Tree.{Tree, Core}
use Rattle.def_pass.specs.Tree.{count_o}
use Rattle.def_pass.specs.Scope.{VarInfo, Stack, const_in, put_const, untargeted, add_const, find_constant, flat, Free, recorded_nodes, live}
use Rattle.words.specs.Tab.{tab, tab-zero, length-tab, get_d-tab, take-tab, sum-part}
use Rattle.words.specs.Layout.{run, core_from}
use Rattle.words.proofs.Nodes.{run_length}
use Rattle.words_scopes.specs.State.{Head, split, head_at, heads_at, heads, flags, binds, consts, stack, const_at, clen_at, off, coff, crun_at, CFits, Good, targeted, value_of}
use Rattle.words_scopes.proofs.Grow.{some-head}
use Rattle.words.specs.declared.Run.{Run}
use Rattle.scope_values.specs.Steps.{Listed, over, Offered, run_value}
use Rattle.scope_values.proofs.Listed.{room, count-tree, same-value, same-offered}
use Rattle.words_scopes.proofs.Words.{targeted-same}
use Rattle.words.specs.Place.{FirstAt}
use Rattle.scope_values.specs.Consts.{Found, Own}
use Rattle.scope_values.proofs.Count.{total, nodes_b, nodes_c, total-set, total-append, recorded-split, live-split, recorded-is, live-is, total-binds, total-consts, length-binds, length-consts, fits-binds, fits-consts, nodes-const}

abbrev pub Const : Type 0
Const = ℕ × Option Tree

abbrev pub no_const : Const
no_const = (0, none)

-- one list: a constant is found where its name first stands
const-yes : (i : ℕ) (c : Const) (cs : List Const) → eqb c.0 i ≡ true → const_in i (c ∷ cs) ≡ some c.1
const-yes i c cs e = ap (λ (p : Bool). elim p [ true ↦ some c.1 | false ↦ const_in i cs ]) e

const-no : (i : ℕ) (c : Const) (cs : List Const) → eqb c.0 i ≡ false → const_in i (c ∷ cs) ≡ const_in i cs
const-no i c cs e = ap (λ (p : Bool). elim p [ true ↦ some c.1 | false ↦ const_in i cs ]) e

cput-yes : (i : ℕ) (v : Option Tree) (c : Const) (cs : List Const) → eqb c.0 i ≡ true → put_const i v (c ∷ cs) ≡ (i, v) ∷ cs
cput-yes i v c cs e = ap (λ (p : Bool). elim p [ true ↦ (i, v) ∷ cs | false ↦ c ∷ put_const i v cs ]) e

cput-no : (i : ℕ) (v : Option Tree) (c : Const) (cs : List Const) → eqb c.0 i ≡ false → put_const i v (c ∷ cs) ≡ c ∷ put_const i v cs
cput-no i v c cs e = ap (λ (p : Bool). elim p [ true ↦ (i, v) ∷ cs | false ↦ c ∷ put_const i v cs ]) e

pub const-hit : (i : ℕ) (cs : List Const) (r : ℕ) → r < length cs → (get_or cs r no_const).0 ≡ i → ((j : ℕ) → j < r → (get_or cs j no_const).0 ≡ i → ⊥)
    → (const_in i cs ≡ some (get_or cs r no_const).1) × ((v : Option Tree) → put_const i v cs ≡ set cs r (i, v))
const-hit i [] r h e m = absurd (omega arith)
const-hit i (c ∷ cs) zero h e m = let q = eq-eqb c.0 i e in (const-yes i c cs q, λ v. cput-yes i v c cs q)
const-hit i (c ∷ cs) (suc r) h e m =
    let t = const-hit i cs r (omega arith) e (λ j l. m (suc j) (omega arith)) in
    let q = ne_eqb c.0 i (m 0 (omega arith)) in
    (const-no i c cs q ∙ t.0, λ v. cput-no i v c cs q ∙ ap (λ (l : List Const). c ∷ l) (t.1 v))

pub const-miss : (i : ℕ) (cs : List Const) → ((j : ℕ) → j < length cs → (get_or cs j no_const).0 ≡ i → ⊥) → (const_in i cs ≡ none) × ((v : Option Tree) → put_const i v cs ≡ cs ++ ((i, v) ∷ []))
const-miss i [] m = (refl, λ v. refl)
const-miss i (c ∷ cs) m =
    let t = const-miss i cs (λ j l. m (suc j) (omega arith)) in
    let q = ne_eqb c.0 i (m 0 (omega arith)) in
    (const-no i c cs q ∙ t.0, λ v. cput-no i v c cs q ∙ ap (λ (l : List Const). c ∷ l) (t.1 v))

-- all scopes: a look-up sees only where they begin, and the constants
abbrev pub find_c : ℕ → List Head → List Const → Option Tree
find_c i [] cs = none
find_c i (h ∷ hs) cs = or_else (flat (const_in i (drop h.cstart cs))) (find_c i hs (take h.cstart cs))

find-split : (i : ℕ) (hs : List Head) (fl : List ℕ) (bs : List VarInfo) (cs : List Const) → find_constant i (split hs fl bs cs) ≡ find_c i hs cs
find-split i [] fl bs cs = refl
find-split i (h ∷ hs) fl bs cs = ap (or_else (flat (const_in i (drop h.cstart cs)))) (find-split i hs (take h.start fl) (take h.start bs) (take h.cstart cs))

-- the words
module _ (w : List ℕ) (c : ℕ) where
  abbrev pub tab_c : List Const
  tab_c = tab c (λ j. const_at w j)

  module _ (a : ℕ) where
    at_c : (j : ℕ) → a + j < c → get_or (drop a tab_c) j no_const ≡ const_at w (a + j)
    at_c j h = get_or-drop a tab_c j no_const ∙ get_d-tab c (λ k. const_at w k) (a + j) no_const h

    len-c : length (drop a tab_c) ≡ c - a
    len-c = length-drop a tab_c ∙ ap (λ (n : ℕ). n - a) (length-tab c (λ k. const_at w k))

    module _ (x r : ℕ) (low : a ≤ r) (miss : (j : ℕ) → a ≤ j → j < r → get_or w (6672 + j * 2) 0 ≡ x → ⊥) where
      other-c : (j : ℕ) → a + j < r → a + j < c → (get_or (drop a tab_c) j no_const).0 ≡ x → ⊥
      other-c j h l q = miss (a + j) (omega arith) h (sym (ap (λ (b : Const). b.0) (at_c j l)) ∙ q)

      pub here-hit : r < c → get_or w (6672 + r * 2) 0 ≡ x → (const_in x (drop a tab_c) ≡ some (const_at w r).1) × ((v : Option Tree) → put_const x v (drop a tab_c) ≡ set (drop a tab_c) (r - a) (x, v))
      here-hit h q =
          let s : a + (r - a) ≡ r = omega arith in
          let there : get_or (drop a tab_c) (r - a) no_const ≡ const_at w r = at_c (r - a) (omega arith) ∙ ap (λ (n : ℕ). const_at w n) s in
          let t = const-hit x (drop a tab_c) (r - a) (omega (arith, len-c)) (ap (λ (b : Const). b.0) there ∙ q) (λ j l. other-c j (omega arith) (omega arith)) in
          (t.0 ∙ ap (λ (b : Const). some b.1) there, t.1)

      pub here-miss : c ≤ r → (const_in x (drop a tab_c) ≡ none) × ((v : Option Tree) → put_const x v (drop a tab_c) ≡ drop a tab_c ++ ((x, v) ∷ []))
      here-miss h = const-miss x (drop a tab_c) (λ j l. other-c j (omega (arith, len-c)) (omega (arith, len-c)))

-- a value of no node, and of some
empty-const : (w : List ℕ) (r : ℕ) → clen_at w r ≡ 0 → (const_at w r).1 ≡ none
unfolding run
empty-const w r z = rw (z, tab-zero (λ j. core_from w (3088 + (coff w r + j) * 2))) refl

some-value : (xs : List Core) → 0 < length xs → (o : Option Tree) → or_else (value_of xs) o ≡ value_of xs
some-value [] h o = absurd (omega arith)
some-value (y ∷ xs) h o = refl

full-const : (w : List ℕ) (r : ℕ) (o : Option Tree) → 0 < clen_at w r → or_else (const_at w r).1 o ≡ (const_at w r).1
full-const w r o z = some-value (crun_at w r) (omega (arith, run_length w 3088 (coff w r) (clen_at w r))) o

-- a walk outwards has come to the first k scopes, whose constants end before e
pub record Walked (w : List ℕ) (x k e : ℕ) : Type 0 where
  pub most : e ≤ get_or w 3 0
  pub fits : CFits (heads_at w k) e
  pub is : find_constant x (stack w) ≡ find_c x (heads_at w k) (tab_c w e)

pub walked_all : (w : List ℕ) → Good w → (x : ℕ) → Walked w x (get_or w 2 0) (get_or w 3 0)
unfolding stack heads consts
walked_all w g x = record { most = omega arith; fits = g.cfits; is = find-split x (heads_at w (get_or w 2 0)) (flags w) (binds w) (tab (get_or w 3 0) (λ j. const_at w j)) }

pub walked_none : {w : List ℕ} {x k e : ℕ} → k ≡ 0 → Walked w x k e → find_constant x (stack w) ≡ none
unfolding heads_at
walked_none {w} {x} {k} {e} z t = rw z at t.is

-- its next scope, whose constants begin at a
module _ {w : List ℕ} {x k e : ℕ} (t : Walked w x k e) (h : 0 < k) {a : ℕ} (is : a ≡ get_or w (7184 + (k - 1) * 4 + 2) 0) where
  fits-here : CFits (heads_at w (suc (k - 1))) e
  fits-here = let q : k ≡ suc (k - 1) = omega arith in rw q at t.fits

  pub next_fits : (a ≤ e) × CFits (heads_at w (k - 1)) a
  unfolding heads_at
  next_fits = rw is (fits-here.0, fits-here.1)

  behind : (o : Option (Option Tree)) → const_in x (drop a (tab_c w e)) ≡ o → find_constant x (stack w) ≡ or_else (flat o) (find_c x (heads_at w (k - 1)) (tab_c w a))
  unfolding heads_at
  behind o p =
      let q : k ≡ suc (k - 1) = omega arith in
      t.is ∙ ap (λ (n : ℕ). find_c x (heads_at w n) (tab_c w e)) q ∙ rw (← is, p, take-tab a e (λ j. const_at w j) next_fits.0) refl

  walked_to : find_constant x (stack w) ≡ find_c x (heads_at w (k - 1)) (tab_c w a) → Walked w x (k - 1) a
  walked_to p = record { most = omega (arith, t.most, next_fits.0); fits = next_fits.1; is = p }

  pub walked-miss : FirstAt w 6672 2 a e x None → Walked w x (k - 1) a
  walked-miss m = walked_to (behind none (here-miss w e a x e next_fits.0 m (omega arith)).0)

  module _ (r : ℕ) (f : FirstAt w 6672 2 a e x (Some r)) where
    hit : find_constant x (stack w) ≡ or_else (const_at w r).1 (find_c x (heads_at w (k - 1)) (tab_c w a))
    hit = behind (some (const_at w r).1) (here-hit w e a x r f.0 f.3 f.1 f.2).0

    pub walked-empty : clen_at w r ≡ 0 → Walked w x (k - 1) a
    walked-empty z = walked_to (hit ∙ rw (empty-const w r z) refl)

    pub found_there : (g : Good w) → 0 < clen_at w r → (at : ℕ) → at ≡ coff w r → Found w x (Some (record { at = at; len = clen_at w r }))
    found_there g z at e =
        let l : r < get_or w 3 0 = omega (arith, f.1, t.most) in
        let part = sum-part (λ j. clen_at w j) r (get_or w 3 0) l in
        rw e (hit ∙ full-const w r (find_c x (heads_at w (k - 1)) (tab_c w a)) z, z, omega (arith, g.cvals), g.cwhole r l, g.cfree r l)

-- the innermost scope
put-split : (tg : ℕ → Bool) (x : ℕ) (v : Option Tree) (h : Head) (hs : List Head) (fl : List ℕ) (bs : List VarInfo) (cs cs' : List Const) → take h.cstart cs' ≡ take h.cstart cs → drop h.cstart cs' ≡ put_const x (untargeted tg v) (drop h.cstart cs)
    → add_const tg x v (split (h ∷ hs) fl bs cs) ≡ split (h ∷ hs) fl bs cs'
put-split tg x v h hs fl bs cs cs' t d = rw (t, d) refl

module _ (w : List ℕ) (g : Good w) (z : 0 < get_or w 2 0) where
  abbrev d : ℕ
  d = get_or w 2 0 - 1

  abbrev top : ℕ
  top = get_or w (7184 + d * 4 + 2) 0

  abbrev c : ℕ
  c = get_or w 3 0

  heads-top : heads w ≡ head_at w d ∷ heads_at w d
  unfolding heads
  heads-top = some-head w (get_or w 2 0) z

  pub top-fits : top ≤ get_or w 3 0
  top-fits = let f : CFits (head_at w d ∷ heads_at w d) (get_or w 3 0) = rw heads-top at g.cfits in f.0

  module _ (x : ℕ) where
    put-there : (r : ℕ) → FirstAt w 6672 2 top c x (Some r) → (tg : ℕ → Bool) (u : Option Tree) → add_const tg x u (stack w) ≡ split (heads w) (flags w) (binds w) (set (consts w) r (x, untargeted tg u))
    unfolding stack consts
    put-there r h tg u =
        let s : top + (r - top) ≡ r = omega arith in
        let v = untargeted tg u in
        rw heads-top (put-split tg x u (head_at w d) (heads_at w d) (flags w) (binds w) (tab_c w c) (set (tab_c w c) r (x, v)) (take-set-le top (tab_c w c) r (x, v) h.0)
        (ap (λ (n : ℕ). drop top (set (tab_c w c) n (x, v))) (sym s) ∙ drop-set-add top (tab_c w c) (r - top) (x, v) ∙ sym ((here-hit w c top x r h.0 h.3 h.1 h.2).1 v)))

    put-absent : FirstAt w 6672 2 top c x None → (tg : ℕ → Bool) (u : Option Tree) → add_const tg x u (stack w) ≡ split (heads w) (flags w) (binds w) (consts w ++ ((x, untargeted tg u) ∷ []))
    unfolding stack consts
    put-absent h tg u =
        let l : top ≤ length (tab_c w c) = rw length-tab top-fits in
        let v = untargeted tg u in
        rw heads-top (put-split tg x u (head_at w d) (heads_at w d) (flags w) (binds w) (tab_c w c) (tab_c w c ++ ((x, v) ∷ [])) (take-append-le top (tab_c w c) ((x, v) ∷ []) l)
        (drop-append-le top (tab_c w c) ((x, v) ∷ []) l ∙ sym ((here-miss w c top x c top-fits h (omega arith)).1 v)))

    pub own : (o : std.Option ℕ) → FirstAt w 6672 2 top c x o → Own w x o
    own None h = put-absent h
    own (Some r) h = (h.1, h.2, put-there r h)

-- row 9 of a constant replaced, and appended
module _ (w : List ℕ) (g : Good w) where
  abbrev stack_c : List Const → Stack
  stack_c cs = split (heads w) (flags w) (binds w) cs

  pub const-there : (k : ℕ) → k < get_or w 3 0 → get_or (consts w) k no_const ≡ const_at w k
  unfolding consts
  const-there k h = get_d-tab (get_or w 3 0) (λ j. const_at w j) k no_const h

  pub cfits-more : 0 < get_or w 2 0 → CFits (heads w) (get_or w 3 0 + 1)
  cfits-more z =
      let e = heads-top w g z in
      let f : CFits (head_at w (get_or w 2 0 - 1) ∷ heads_at w (get_or w 2 0 - 1)) (get_or w 3 0) = rw e at g.cfits in
      rw e (omega (arith, f.0), f.1)

  pub over-cput : (k : ℕ) (c : Const) → k < get_or w 3 0 → over (stack_c (set (consts w) k c)) ≡ (ltb 512 (recorded_nodes (stack w) - clen_at w k + count_o c.1) || ltb 256 (live (stack w) + 0))
  over-cput k c h =
      let len : length (set (consts w) k c) ≡ length (consts w) = simp length-set in
      let p = sum-part (λ j. clen_at w j) k (get_or w 3 0) h in
      let t = total-set nodes_c (consts w) k c no_const (rw (length-consts w g) h) in
      let e : nodes_c (get_or (consts w) k no_const) ≡ clen_at w k = ap nodes_c (const-there k h) ∙ nodes-const w g k h in
      let r : recorded_nodes (stack_c (set (consts w) k c)) ≡ recorded_nodes (stack w) - clen_at w k + count_o c.1 = omega (arith, recorded-split (heads w) (flags w) (binds w) (set (consts w) k c) (fits-binds w g) (rw len (fits-consts w g)), recorded-is w g, total-binds w g, total-consts w g, t, e) in
      let l : live (stack_c (set (consts w) k c)) ≡ live (stack w) + 0 = omega (arith, live-split (heads w) (flags w) (binds w) (set (consts w) k c) (fits-binds w g) (rw len (fits-consts w g)), live-is w g, len, length-binds w g, length-consts w g) in
      rw (r, l) refl

  pub over-cpush : (c : Const) → 0 < get_or w 2 0 → over (stack_c (consts w ++ (c ∷ []))) ≡ (ltb 512 (recorded_nodes (stack w) - 0 + count_o c.1) || ltb 256 (live (stack w) + 1))
  over-cpush c z =
      let len : length (consts w ++ (c ∷ [])) ≡ length (consts w) + 1 = length-append (consts w) (c ∷ []) in
      let f : CFits (heads w) (length (consts w ++ (c ∷ []))) = rw (len, length-consts w g) (cfits-more z) in
      let t = total-append nodes_c (consts w) (c ∷ []) in
      let r : recorded_nodes (stack_c (consts w ++ (c ∷ []))) ≡ recorded_nodes (stack w) - 0 + count_o c.1 = omega (arith, recorded-split (heads w) (flags w) (binds w) (consts w ++ (c ∷ [])) (fits-binds w g) f, recorded-is w g, total-binds w g, total-consts w g, t) in
      let l : live (stack_c (consts w ++ (c ∷ []))) ≡ live (stack w) + 1 = omega (arith, live-split (heads w) (flags w) (binds w) (consts w ++ (c ∷ [])) (fits-binds w g) f, live-is w g, len, length-binds w g, length-consts w g) in
      rw (r, l) refl

-- a run of the tree in place of the value of constant k: what `room_for` and `set_const` ask, and what `room_for` tells
module _ (w : List ℕ) (g : Good w) (k : ℕ) (h : k < get_or w 3 0) (r : Run) (o : Offered w r) where
  pub room-asks : Good w × (clen_at w k ≤ recorded_nodes (stack w)) × (r.len ≤ 1024) × (0 ≤ 1)
  room-asks = let part = sum-part (λ j. clen_at w j) k (get_or w 3 0) h in (g, omega (arith, recorded-is w g), omega (arith, g.nodes, o.inside), omega arith)

  pub put-room : (p : Bool) → p ≡ (ltb 512 (recorded_nodes (stack w) - clen_at w k + r.len) || ltb 256 (live (stack w) + 0)) → p ≡ false
      → r.len + (off w (get_or w 1 0) + coff w (get_or w 3 0)) ≤ 512 + clen_at w k
  put-room p is e =
      let part = room-asks.1 in
      let l = room (recorded_nodes (stack w) - clen_at w k + r.len) (live (stack w) + 0) (sym is ∙ e) in
      omega (arith, l.0, recorded-is w g)

  pub over-run : (i : ℕ) → over (stack_c w g (set (consts w) k (i, run_value w r))) ≡ (ltb 512 (recorded_nodes (stack w) - clen_at w k + r.len) || ltb 256 (live (stack w) + 0))
  over-run i = over-cput w g k (i, run_value w r) h ∙ ap (λ (n : ℕ). ltb 512 (recorded_nodes (stack w) - clen_at w k + n) || ltb 256 (live (stack w) + 0)) (count-tree w r.at r.len o.one)

-- a constant without a value was appended: what a value for it has to fit, and what it then is
pub record Pushed (w u : List ℕ) (x : ℕ) : Type 0 where
  pub count : get_or u 3 0 ≡ get_or w 3 0 + 1
  pub vals : off u (get_or u 1 0) + coff u (get_or u 3 0) ≡ off w (get_or w 1 0) + coff w (get_or w 3 0)
  pub set : (v : Option Tree) → set (consts u) (get_or w 3 0) (get_or u (6672 + get_or w 3 0 * 2) 0, v) ≡ consts w ++ ((x, v) ∷ [])
  pub value : (r : Run) → Offered w r → run_value u r ≡ run_value w r
  pub offered : (r : Run) → Offered w r → Offered u r
  pub free : (r : Run) → Offered w r → Free (targeted w) (run_value w r) → Free (targeted u) (run_value u r)

pub after_push : (w u : List ℕ) → Good w → (x : ℕ) → Listed w u (binds w) (consts w ++ ((x, none) ∷ [])) → Pushed w u x
after_push w u g x l =
    let n : get_or u 3 0 ≡ get_or w 3 0 + 1 = sym (length-consts u l.good) ∙ ap length l.consts ∙ length-append (consts w) ((x, none) ∷ []) ∙ ap (λ (k : ℕ). k + 1) (length-consts w g) in
    let name : get_or u (6672 + get_or w 3 0 * 2) 0 ≡ x = sym (ap (λ (c : Const). c.0) (const-there u l.good (get_or w 3 0) (omega arith))) ∙ ap (λ (cs : List Const). (get_or cs (get_or w 3 0) no_const).0) l.consts ∙ ap (λ (c : Const). c.0) (get_or_at (consts w) (x, none) [] no_const (get_or w 3 0) (length-consts w g)) in
    record {
      count = n;
      vals = omega (arith, total-consts u l.good, ap (total nodes_c) l.consts, total-append nodes_c (consts w) ((x, none) ∷ []), total-consts w g, total-binds u l.good, ap (total nodes_b) l.binds, total-binds w g);
      set = λ v. rw (name, l.consts) (set_at (consts w) (x, none) [] (x, v) (get_or w 3 0) (length-consts w g));
      value = λ r o. same-value w u l.tree r o;
      offered = λ r o. same-offered w u l.tree r o;
      free = λ r o f. rw (same-value w u l.tree r o, targeted-same w u (λ j a b. l.others.high j (omega arith) (omega arith))) f;
    }
