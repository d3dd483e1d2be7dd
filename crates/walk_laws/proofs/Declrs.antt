-- A declarator's walks: its children, of which the last may be taken out. Assumes nothing.
use Rattle.std.proofs.Common.{Result, Ok, Err}
use Rattle.refusal.specs.declared.Refusal.{Refusal}
use Rattle.refusal.specs.Number.{number}
use mathlib.Core.Path.{◌≡◌, refl, sym, ap, ap₂, ◌∙◌, subst}
use mathlib.Core.Bool.{Bool, true, false}
use mathlib.Core.List.{List}
use mathlib.Core.Logic.{◌⊎◌, inl}
use mathlib.Core.Option.{Option, none, some}
use Prim.Native.Nat.{ℕ, suc, ◌+◌, ◌-◌, ◌≤◌, ◌<◌}
use native.Mathlib.Numerals.{add-one}
use native.Mathlib.Omega.{arith}
use lib.ListN.{length, get_or, set}
use lib.Seq.{get_or-take, set-get_or}
use lib.Dec.{eqb}
use borrow.Author.Tests.{eq-eqb, ne_eqb}
use Rattle.def_tree.specs.Base.{pick}
use Rattle.def_tree.specs.Tree.{Tree, Forest, Core, no_core, count, counts, kind, form, num}
use Rattle.def_tree.specs.Combine as Split
use Rattle.def_tree.specs.Combine.{Res, stop, done, M, and_then, ret, iff, Flat, node_at, re_arity, set_arity, tree_at, forest_at, Walks, ReWalks, on_rest, act_f, skip, skips, many, split_f, same, split_r, cut_first, carry}
use Rattle.def_tree.proofs.Whole.{kind_at, form-at, num-at, whole_drop}
use Rattle.def_tree.proofs.Sims.{Sim, SimF, sim-skip, sim-skips, sim-split, then-assoc}
use Rattle.words.specs.Layout.{tree, node_of}
use Rattle.words.proofs.Nodes.{tree-at, tree-length}
use Rattle.words_scopes.specs.State.{Good, stack}
use Rattle.def_pass.specs.Scope.{VarType, Stack, is_const}
use Rattle.def_pass.specs.Walk.{St, set_pat_mode, declaring, head_bind, over_m, stays, takes}
use Rattle.words_nodes.specs.Nodes.{Planted, Child, tree_from, forest_from}
use Rattle.words_nodes.proofs.Trees.{node-count, child-in, tree-at-is}
use Rattle.words_nodes.proofs.Walks.{second-child, forest-at-is}
use Rattle.walk_laws.specs.Shape.{Room}
use Rattle.walk_laws.proofs.Shapes.{shape-trees, room-stays, trees-end, first-stays}
use Rattle.words_state.specs.State.{rest, abs, Turns}
use Rattle.words_state.proofs.Fields.{ok-self, ok-then}
use Rattle.laws_flat.specs.WalkF.{WalksF, name_last_f, declr_inlining_f, declr_to_f, visit_mut_var_declarator_f}
use Rattle.walk_declarator.specs.Steps.{done_of, named, Moves, Stands, declr_after}
use Rattle.walk_declarator.proofs.Acts.{rest-stack}
use Rattle.walk_declarator.proofs.Parts.{forest-none, forest-some, over-name, stays-name, takes-name}
use Rattle.walk_laws.specs.Did.{Did, Here, Bound, Headed, declr_end_f}
use Rattle.walk_laws.proofs.Laws.{did_then, did-stop}
use Rattle.walk_laws.proofs.Rooms.{whole_of, room-one, room-kids, room-node}
use Rattle.walk_laws.proofs.Heres.{here-node, here-again, here-turn}
use Rattle.walk_laws.proofs.Ways.{did-to, did-at, did-skip, modify-then, node-is, split-none, split-stop, split-then}

abbrev F : Type 0 → Type 0
F A = M (Flat St) A

-- the number of children, as the last step of a declarator stores it
abbrev fin : ℕ → ℕ × ℕ → F ℕ
fin q r = λ st. done (set_arity q r.0 st) r.1

-- a node whose n children are walked: it stays, and they end where its tree ends
module _ {f : Forest → M St Forest} {g : Walks St} (s : SimF f g) {w u : List ℕ} {n q p d j : ℕ} (h : Here w 1 q p d) (ar : n ≡ (node_of w q).arity) (x : Did w u (Ok j) (g n (q + 1) (abs w))) where
  kids : Room (tree w) n (q + 1)
  kids = subst (λ (m : ℕ). Room (tree w) m (q + 1)) (sym ar) (room-kids h.planted (here-node h))

  there : Room (tree u) n (q + 1)
  there = room-stays s (abs w) n (q + 1) (whole_of h.planted) kids x.is

  node_in_lem : q < get_or u 0 0
  node_in_lem = omega (arith, there.low, tree-length u)

  pub kids-node : node_of u q ≡ node_of w q
  kids-node =
      let e = (shape-trees s (abs w) n (q + 1) (whole_of h.planted) kids x.is).front in
      let l : q < q + 1 = omega arith in
      sym (tree-at u q node_in_lem) ∙ sym (get_or-take (q + 1) (tree u) q no_core l) ∙ ap (λ (xs : List Core). get_or xs q no_core) e ∙ get_or-take (q + 1) (tree w) q no_core l ∙ tree-at w q (here-node h)

  pub here-node-stays : Here u 1 q p d
  here-node-stays = record { planted = x.ok.planted; room = room-one x.ok.planted node_in_lem; depth = h.depth }

  pub kids-end : j ≡ q + count (tree_from (tree u) q)
  kids-end =
      let a : (get_or (tree u) q no_core).arity ≡ n = ap (λ c. c.arity) (tree-at u q node_in_lem ∙ kids-node) ∙ sym ar in
      let e = trees-end s (abs w) n (q + 1) (whole_of h.planted) kids x.is in
      let k = node-count (tree u) q (omega (arith, node_in_lem, tree-length u)) in
      let y : counts (forest_from (tree u) (get_or (tree u) q no_core).arity (q + 1)) ≡ counts (forest_at (abs u) n (q + 1)) = ap (λ (m : ℕ). counts (forest_from (tree u) m (q + 1))) a ∙ ap counts (sym (forest-at-is (abs u) n (q + 1))) in
      omega (arith, e, k, y)

-- the number is stored that the node has
stored : (w : List ℕ) (n q : ℕ) → q < get_or w 0 0 → n ≡ (node_of w q).arity → set_arity q n (abs w) ≡ abs w
stored w n q l e =
    let c : re_arity n (node_at (abs w) q) ≡ node_at (abs w) q = ap (λ (m : ℕ). re_arity m (node_at (abs w) q)) (e ∙ ap (λ c. c.arity) (sym (tree-at w q l))) in
    ap (λ (xs : List Core). record { nodes = xs; rest = rest w }) (ap (λ (c : Core). set (tree w) q c) c ∙ set-get_or (tree w) q no_core)

-- a walk that keeps the number of the children
module _ {f : Forest → M St Forest} {g : Walks St} (s : SimF f g) {w u : List ℕ} {n q p d : ℕ} {a : Result ℕ Refusal} (h : Here w 1 q p d) (ar : n ≡ (node_of w q).arity) where
  pub same_end : Did w u a (g n (q + 1) (abs w)) → Did w u a (and_then (same g n (q + 1) (abs w)) (fin q))
  same_end x = go a x
    where
      kept : {a : Result ℕ Refusal} → Did w u a (g n (q + 1) (abs w)) → and_then (same g n (q + 1) (abs w)) (fin q) ≡ and_then (and_then (done_of a (abs u)) (λ j. ret (n, j))) (fin q)
      kept x = ap (λ (r : Res (Flat St) ℕ). and_then (and_then r (λ j. ret (n, j))) (fin q)) x.is

      go : (a : Result ℕ Refusal) → Did w u a (g n (q + 1) (abs w)) → Did w u a (and_then (same g n (q + 1) (abs w)) (fin q))
      go (Err e) x = record { ok = x.ok; is = kept x }
      go (Ok j) x = record { ok = x.ok; is = kept x ∙ ap (λ (st : Flat St). done st j) (stored u n q (node_in_lem s h ar x) (ar ∙ sym (ap (λ c. c.arity) (kids-node s h ar x)))) }

-- its first child is walked, and the others are passed
module _ {ft : Tree → M St Tree} (v : WalksF) {w : List ℕ} {n q p d : ℕ} (sim : Sim ft (v.full (suc p))) (h : Here w 1 q p d) (ar : n ≡ (node_of w q).arity) where
  pub name-then : {u : List ℕ} {i e : ℕ} → (n ≡ 0 → ⊥) → Did w u (Ok i) (v.full (p + 1) (q + 1) (abs w)) → e ≡ q + count (tree_from (tree u) q) → Did w u (Ok e) (name_last_f v p n (q + 1) (abs w))
  name-then {u} {i} z x l =
      let full : Did w u (Ok i) (v.full (suc p) (q + 1) (abs w)) = subst (λ (k : ℕ). Did w u (Ok i) (v.full k (q + 1) (abs w))) (add-one p) x in
      let behind : Did u u (Ok (i + counts (forest_at (abs u) (n - 1) i))) (skips (n - 1) i (abs u)) = record { ok = ok-self x.ok.planted; is = refl } in
      let whole = split-then (v.full (suc p)) skips n (q + 1) z full behind in
      did-at (kids-end (sim-split sim sim-skips) h ar whole ∙ sym l) whole

  pub name-stop : {u : List ℕ} {e : Refusal} → (n ≡ 0 → ⊥) → Did w u (Err e) (v.full (p + 1) (q + 1) (abs w)) → Did w u (Err e) (name_last_f v p n (q + 1) (abs w))
  name-stop {u} {e} z x = split-stop (v.full (suc p)) skips n (q + 1) z (subst (λ (k : ℕ). Did w u (Err e) (v.full k (q + 1) (abs w))) (add-one p) x)

-- the first walk of a declarator, and what follows
module _ (v : WalksF) {w : List ℕ} {n q p d : ℕ} (h : Here w 1 q p d) (ar : n ≡ (node_of w q).arity) where
  -- what follows it
  abbrev behind : ℕ → Flat St → Res (Flat St) ℕ
  behind m st = declr_end_f v p q (head_bind (forest_at st m (q + 1))) st.rest.inlining st.rest.var_decl_kind m (q + 1) st

  abbrev turned : ℕ → ℕ → F ℕ
  turned m j = λ st. behind m (record { nodes = st.nodes; rest = set_pat_mode declaring st.rest })

  as-walks : {y : List ℕ} {b : Result ℕ Refusal} → Did w y b (and_then (split_f skip (many (v.full (p + 1))) n (q + 1) (abs w)) (turned n)) → Did w y b (visit_mut_var_declarator_f v p q (abs w))
  unfolding visit_mut_var_declarator_f
  as-walks {y} {b} z =
      let n' : n ≡ (node_at (abs w) q).arity = ar ∙ ap (λ c. c.arity) (sym (node-is h)) in
      did-to (sym (then-assoc (split_f skip (many (v.full (suc p))) (node_at (abs w) q).arity (q + 1) (abs w)) (λ j st. declr_to_f v p (head_bind (forest_at (record { nodes = st.nodes; rest = set_pat_mode declaring st.rest }) (node_at (abs w) q).arity (q + 1))) st.rest.inlining st.rest.var_decl_kind (node_at (abs w) q).arity (q + 1) (record { nodes = st.nodes; rest = set_pat_mode declaring st.rest })) (fin q)))
      (did-to (ap₂ {C = Res (Flat St) ℕ} (λ k m. and_then (split_f skip (many (v.full k)) m (q + 1) (abs w)) (turned m)) (add-one p) n') z)

  pub declr-stop : {u : List ℕ} {e : Refusal} → Did w u (Err e) (split_f skip (many (v.full (p + 1))) n (q + 1) (abs w)) → Did w u (Err e) (visit_mut_var_declarator_f v p q (abs w))
  declr-stop x = as-walks (did-stop (turned n) x)

  pub declr-then : {u t y : List ℕ} {b : Result ℕ Refusal} {j : ℕ} → Did w u (Ok j) (split_f skip (many (v.full (p + 1))) n (q + 1) (abs w)) → Turns u t (set_pat_mode declaring (rest u)) → Did t y b (behind n (abs t)) → Did w y b (visit_mut_var_declarator_f v p q (abs w))
  declr-then x s z = as-walks (did_then (turned n) x (modify-then (set_pat_mode declaring) (λ st. behind n st) s z))

-- the end of a declarator, by what was found
module _ {fn : Forest → M St Forest} (v : WalksF) (p : ℕ) (sim : SimF fn (name_last_f v p)) {w : List ℕ} {n q d : ℕ} (h : Here w 1 q p d) (ar : n ≡ (node_of w q).arity) where
  -- no name
  pub end_none : {u : List ℕ} {a : Result ℕ Refusal} {o : Option Tree} (b : Bool) (k : VarType) → o ≡ none → Did w u a (name_last_f v p n (q + 1) (abs w)) → Did w u a (declr_end_f v p q o b k n (q + 1) (abs w))
  unfolding declr_to_f
  end_none {u} {a} b k e x = subst (λ (o : Option Tree). Did w u a (declr_end_f v p q o b k n (q + 1) (abs w))) (sym e) (same_end sim h ar x)

  -- a constant's in Inlining
  pub end-const : {u : List ℕ} {a : Result ℕ Refusal} (t : Tree) (k : VarType) → is_const k ≡ true → Did w u a (name_last_f v p n (q + 1) (abs w)) → Did w u a (declr_end_f v p q (some t) true k n (q + 1) (abs w))
  unfolding declr_to_f
  end-const {u} {a} t k e x = did-to (ap (λ (b : Bool). and_then (iff b (same (name_last_f v p) n (q + 1)) (split_r skip (declr_inlining_f v p k t) n (q + 1)) (abs w)) (fin q)) (sym e)) (same_end sim h ar x)

  -- in Inlining
  pub end-inlining : {u : List ℕ} {a : Result ℕ Refusal} {o : Option Tree} {b : Bool} (t : Tree) (k : VarType) → o ≡ some t → b ≡ true → Did w u a (declr_end_f v p q (some t) true k n (q + 1) (abs w)) → Did w u a (declr_end_f v p q o b k n (q + 1) (abs w))
  end-inlining {u} {a} t k e i x = did-to (ap₂ {C = Res (Flat St) ℕ} (λ o b. declr_end_f v p q o b k n (q + 1) (abs w)) (sym e) (sym i)) x

  -- in Analysis
  module _ {o : Option Tree} {b : Bool} (t : Tree) (k : VarType) (e : o ≡ some t) (i : b ≡ false) (f : ℕ) (g : f ≡ form t) (x : ℕ) (y : x ≡ num t) where
    abbrev rests : Bool → F (ℕ × ℕ)
    rests over = iff over (same skips n (q + 1)) (same (name_last_f v p) n (q + 1))

    abbrev looked : Res St Bool → Res (Flat St) ℕ
    looked z = and_then (and_then (carry (λ s a. record { nodes = tree w; rest = s }) (λ a. a) z) rests) (fin q)

    -- what was looked at
    module _ {u : List ℕ} where
      over-is : (r : Result Bool Refusal) → Moves w u (over_m (named f x) (forest_from (tree w) n (q + 1)) (rest w)) (done_of r (rest u)) → declr_end_f v p q o b k n (q + 1) (abs w) ≡ looked (done_of r (rest u))
      unfolding declr_to_f
      over-is r m =
          ap₂ {C = Res (Flat St) ℕ} (λ o b. declr_end_f v p q o b k n (q + 1) (abs w)) e i
          ∙ ap (λ (ts : Forest). looked (over_m t ts (rest w))) (forest-at-is (abs w) n (q + 1))
          ∙ ap (λ (f : St → Res St Bool). looked (f (rest w))) (over-name t (forest_from (tree w) n (q + 1)))
          ∙ ap (λ (z : ℕ). looked (over_m (named z (num t)) (forest_from (tree w) n (q + 1)) (rest w))) (sym g)
          ∙ ap (λ (z : ℕ). looked (over_m (named f z) (forest_from (tree w) n (q + 1)) (rest w))) (sym y)
          ∙ ap looked m.is

      pub over-stop : {z : Refusal} → Moves w u (over_m (named f x) (forest_from (tree w) n (q + 1)) (rest w)) (stop (number z)) → Did w u (Err z) (declr_end_f v p q o b k n (q + 1) (abs w))
      over-stop {z} m = record { ok = m.ok; is = over-is (Err z) m }

      module _ {c : Bool} (m : Moves w u (over_m (named f x) (forest_from (tree w) n (q + 1)) (rest w)) (done (rest u) c)) where
        -- the same nodes
        seen : Here u 1 q p d
        seen = record { planted = m.ok.planted; room = subst (λ (xs : List Core). Room xs 1 q) (sym m.nodes) h.room; depth = h.depth }

        pub over-here : Here u 1 q p d × (n ≡ (node_of u q).arity)
        over-here = (seen, ar ∙ ap (λ c. c.arity) (sym (tree-at w q (here-node h)) ∙ ap (λ (xs : List Core). get_or xs q no_core) (sym m.nodes) ∙ tree-at u q (here-node seen)))

        looks : and_then (rests c (abs u)) (fin q) ≡ declr_end_f v p q o b k n (q + 1) (abs w)
        looks = sym (over-is (Ok c) m ∙ ap (λ (xs : List Core). and_then (rests c (record { nodes = xs; rest = rest u })) (fin q)) (sym m.nodes))

        pub over_yes : {z : ℕ} → c ≡ true → z ≡ q + count (tree_from (tree u) q) → Did w u (Ok z) (declr_end_f v p q o b k n (q + 1) (abs w))
        over_yes {z} l j =
            let stays : Did u u (Ok (q + 1 + counts (forest_at (abs u) n (q + 1)))) (skips n (q + 1) (abs u)) = record { ok = ok-self m.ok.planted; is = refl } in
            let end = j ∙ sym (kids-end sim-skips over-here.0 over-here.1 stays) in
            let all = same_end sim-skips over-here.0 over-here.1 stays in
            let whole : Did w u (Ok (q + 1 + counts (forest_at (abs u) n (q + 1)))) (and_then (same skips n (q + 1) (abs u)) (fin q)) = record { ok = m.ok; is = all.is } in
            did-to looks (subst (λ (c : Bool). Did w u (Ok z) (and_then (rests c (abs u)) (fin q))) (sym l) (did-at (sym end) whole))

        pub over_no : {s : List ℕ} {a : Result ℕ Refusal} → c ≡ false → Did u s a (name_last_f v p n (q + 1) (abs u)) → Did w s a (declr_end_f v p q o b k n (q + 1) (abs w))
        over_no {s} {a} l z =
            let all = same_end sim over-here.0 over-here.1 z in
            did-to looks (subst (λ (c : Bool). Did w s a (and_then (rests c (abs u)) (fin q))) (sym l) (record { ok = ok-then m.ok all.ok; is = all.is }))

-- with a name, in Inlining, and no constant
abbrev fin1 : ℕ → ℕ × ℕ → F ℕ
fin1 q r = λ st. done (set_arity q (suc r.0) st) r.1

module _ {ft : Tree → M St Tree} (v : WalksF) (p : ℕ) (sim : Sim ft (v.full (suc p))) {w : List ℕ} {n q d : ℕ} (h : Here w 1 q p d) (ar : n ≡ (node_of w q).arity) (bd : Bound w n (q + 1)) {j : ℕ} (at : j ≡ q + 1 + count (tree_from (tree w) (q + 1))) where
  abbrev W : Walks St
  W = split_f (v.full (suc p)) skips

  some-kids : n ≡ 0 → ⊥
  some-kids z = omega (arith, bd.some, z)

  kids-here : Here w n (q + 1) p 0
  kids-here = record { planted = h.planted; room = subst (λ (m : ℕ). Room (tree w) m (q + 1)) (sym ar) (room-kids h.planted (here-node h)); depth = omega (arith, h.depth) }

  name_in : q + 1 < get_or w 0 0
  name_in = room-node w bd.some kids-here.room

  -- past the name, and then the others
  past-name : {u : List ℕ} {a : Result ℕ Refusal} (g : Walks St) → Did w u a (g (n - 1) j (abs w)) → Did w u a (split_f skip g n (q + 1) (abs w))
  past-name g x = split-then skip g n (q + 1) some-kids (did-skip (q + 1) h.planted at) x

  -- the end of the name's tree, as the walk has it
  name-end : q + 1 + count (tree_at (abs w) (q + 1)) ≡ j
  name-end = ap (λ (t : Tree). q + 1 + count t) (tree-at-is (abs w) (q + 1)) ∙ sym at

  -- the walk of the initialiser
  pub walked : {u : List ℕ} {i e : ℕ} → (n ≡ 1 → ⊥) → Did w u (Ok i) (v.full (p + 1) j (abs w)) → e ≡ q + count (tree_from (tree u) q) → Did w u (Ok e) (W (n - 1) j (abs w))
  walked {u} {i} {e} z x l =
      let z₁ : n - 1 ≡ 0 → ⊥ = λ y. omega (arith, z, bd.some, y) in
      let full : Did w u (Ok i) (v.full (suc p) j (abs w)) = subst (λ (k : ℕ). Did w u (Ok i) (v.full k j (abs w))) (add-one p) x in
      let behind : Did u u (Ok (i + counts (forest_at (abs u) (n - 1 - 1) i))) (skips (n - 1 - 1) i (abs u)) = record { ok = ok-self x.ok.planted; is = refl } in
      let whole = split-then (v.full (suc p)) skips (n - 1) j z₁ full behind in
      did-at (kids-end (sim-split sim-skip (sim-split sim sim-skips)) h ar (past-name W whole) ∙ sym l) whole

  pub unwalked : n ≡ 1 → Did w w (Ok j) (W (n - 1) j (abs w))
  unwalked z = split-none (v.full (suc p)) skips (n - 1) j (omega (arith, z)) h.planted

  -- where the declarator then is
  pub spot : {u : List ℕ} {e : ℕ} → Did w u (Ok e) (W (n - 1) j (abs w)) → (0 < n - 1 → e ≡ q + count (tree_from (tree u) q)) → Stands (tree u) (record { q = q; n = n - 1; i = j; j = e })
  spot {u} {e} x l = record { name = far; arity = sized; at = begins; end = ends }
    where
      all : SimF (Split.split ret (Split.split ft ret)) (split_f skip W)
      all = sim-split sim-skip (sim-split sim sim-skips)

      far : q + 1 < length (tree u)
      far = omega (arith, room-node u bd.some (here-again all kids-here (past-name W x)).room, tree-length u)

      sized : (get_or (tree u) q no_core).arity ≡ suc (n - 1)
      sized = ap (λ c. c.arity) (tree-at u q (omega (arith, far, tree-length u)) ∙ kids-node all h ar (past-name W x)) ∙ sym ar ∙ omega (arith, bd.some)

      begins : j ≡ q + 1 + count (tree_from (tree u) (q + 1))
      begins = at ∙ ap (λ (t : Tree). q + 1 + count t) (sym (tree-at-is (abs w) (q + 1)) ∙ sym (first-stays (sim-split sim sim-skips) (abs w) n (q + 1) (whole_of h.planted) kids-here.room bd.some (past-name W x).is) ∙ tree-at-is (abs u) (q + 1))

      ends : 0 < n - 1 → j + count (tree_from (tree u) j) ≤ e
      ends z =
          let c : Child (tree u) q 1 j = subst (λ (i : ℕ). Child (tree u) q 1 i) (sym begins) (second-child (tree u) q (omega (arith, sized)) far) in
          omega (arith, child-in c (whole_drop q (tree u) (whole_of x.ok.planted)), l z)

  pub spot-none : n ≡ 1 → Stands (tree w) (record { q = q; n = 0; i = j; j = j })
  spot-none z = let m : n - 1 ≡ 0 = omega (arith, z) in subst (λ (k : ℕ). Stands (tree w) (record { q = q; n = k; i = j; j = j })) m (spot (unwalked z) (λ l. absurd (omega (arith, l, m))))

  module _ (k : VarType) (nc : is_const k ≡ false) (f : ℕ) (fy : f ≡ (node_of w (q + 1)).form) (x : ℕ) (y : x ≡ (node_of w (q + 1)).num) where
    abbrev t : Tree
    t = tree_at (abs w) (q + 1)

    form-is : f ≡ form t
    form-is = fy ∙ sym (form-at (abs w) (q + 1) (omega (arith, name_in, tree-length w)) ∙ ap (λ c. c.form) (tree-at w (q + 1) name_in))

    num-is : x ≡ num t
    num-is = y ∙ sym (num-at (abs w) (q + 1) (omega (arith, name_in, tree-length w)) ∙ ap (λ c. c.num) (tree-at w (q + 1) name_in))

    abbrev G : ReWalks St
    G = declr_inlining_f v p k t

    end_is : declr_end_f v p q (some t) true k n (q + 1) (abs w) ≡ and_then (G (n - 1) j (abs w)) (fin1 q)
    unfolding declr_to_f
    end_is =
        let m : n ≡ suc (n - 1) = omega (arith, bd.some) in
        ap (λ (b : Bool). and_then (iff b (same (name_last_f v p) n (q + 1)) (split_r skip G n (q + 1)) (abs w)) (fin q)) nc
        ∙ ap (λ (m : ℕ). and_then (split_r skip G m (q + 1) (abs w)) (fin q)) m
        ∙ then-assoc (G (n - 1) (q + 1 + count (tree_at (abs w) (q + 1))) (abs w)) (λ r. ret (suc r.0, r.1)) (fin q)
        ∙ ap (λ (i : ℕ). and_then (G (n - 1) i (abs w)) (fin1 q)) name-end

    abbrev taken : ℕ → F (ℕ × ℕ)
    taken i = λ st. and_then (act_f (takes k t) (n - 1) j st) (λ gone. iff gone (cut_first (n - 1) j i) (ret (n - 1, i)))

    abbrev by-stays : Bool → Res (Flat St) ℕ
    by-stays b = and_then (iff b (same skips (n - 1) j) (λ st. and_then (W (n - 1) j st) taken) (abs w)) (fin1 q)

    stays-is : (b : Bool) → b ≡ stays (named 0 x) (forest_from (tree w) (n - 1) j) (stack w) → by-stays b ≡ declr_end_f v p q (some t) true k n (q + 1) (abs w)
    unfolding declr_inlining_f
    stays-is b e = sym (end_is ∙ ap by-stays (
        ap (λ (ts : Forest). stays t ts (rest w).stack) (forest-at-is (abs w) (n - 1) j)
        ∙ ap (λ (f : Stack → Bool). f (rest w).stack) (stays-name t (forest_from (tree w) (n - 1) j))
        ∙ ap₂ {C = Bool} (λ z s. stays (named 0 z) (forest_from (tree w) (n - 1) j) s) (sym num-is) (rest-stack w)
        ∙ sym e))

    module _ {b : Bool} (g : b ≡ stays (named 0 x) (forest_from (tree w) (n - 1) j) (stack w)) where
      pub init-stays : {e : ℕ} → b ≡ true → e ≡ q + count (tree_from (tree w) q) → Did w w (Ok e) (declr_end_f v p q (some t) true k n (q + 1) (abs w))
      init-stays {e} z l =
          let here : Did w w (Ok (j + counts (forest_at (abs w) (n - 1) j))) (skips (n - 1) j (abs w)) = record { ok = ok-self h.planted; is = refl } in
          let end : j + counts (forest_at (abs w) (n - 1) j) ≡ e = kids-end (sim-split sim-skip sim-skips) h ar (past-name skips here) ∙ sym l in
          let all : Did w w (Ok e) (by-stays true) = record { ok = ok-self h.planted; is = ap₂ {C = Res (Flat St) ℕ} done (stored w (suc (n - 1)) q (here-node h) (omega (arith, bd.some) ∙ ar)) end } in
          did-to (ap by-stays (sym z) ∙ stays-is b g) all

      module _ (z : b ≡ false) where
        pub init-stop : {u : List ℕ} {e : Refusal} → (n ≡ 1 → ⊥) → Did w u (Err e) (v.full (p + 1) j (abs w)) → Did w u (Err e) (declr_end_f v p q (some t) true k n (q + 1) (abs w))
        init-stop {u} {e} o r =
            let full : Did w u (Err e) (v.full (suc p) j (abs w)) = subst (λ (k : ℕ). Did w u (Err e) (v.full k j (abs w))) (add-one p) r in
            let part = split-stop (v.full (suc p)) skips (n - 1) j (λ y. omega (arith, o, bd.some, y)) full in
            did-to (sym (then-assoc (W (n - 1) j (abs w)) taken (fin1 q)) ∙ ap by-stays (sym z) ∙ stays-is b g) (did-stop (λ i st. and_then (taken i st) (fin1 q)) part)

        pub init-then : {u s : List ℕ} {a : Result ℕ Refusal} {e : ℕ} → Did w u (Ok e) (W (n - 1) j (abs w)) → Did u s a (declr_after q k (named f x) (n - 1) j e (abs u)) → Did w s a (declr_end_f v p q (some t) true k n (q + 1) (abs w))
        init-then {u} {s} {a} {e} r l =
            let ts = forest_at (abs u) (n - 1) j in
            let names : declr_after q k (named f x) (n - 1) j e (abs u) ≡ declr_after q k t (n - 1) j e (abs u) = ap (λ (f : St → Res St Bool). and_then (on_rest f (abs u)) (λ gone st. and_then (iff gone (cut_first (n - 1) j e) (ret (n - 1, e)) st) (fin1 q))) (ap (λ (z : ℕ). takes k (named z x) ts) form-is ∙ ap (λ (z : ℕ). takes k (named (form t) z) ts) num-is ∙ sym (takes-name k t ts)) in
            let last : Did u s a (and_then (taken e (abs u)) (fin1 q)) = did-to (names ∙ sym (then-assoc (act_f (takes k t) (n - 1) j (abs u)) (λ gone. iff gone (cut_first (n - 1) j e) (ret (n - 1, e))) (fin1 q))) l in
            did-to (sym (then-assoc (W (n - 1) j (abs w)) taken (fin1 q)) ∙ ap by-stays (sym z) ∙ stays-is b g) (did_then (λ i st. and_then (taken i st) (fin1 q)) r last)

        pub init-none : {s : List ℕ} {a : Result ℕ Refusal} → n ≡ 1 → Did w s a (declr_after q k (named f x) 0 j j (abs w)) → Did w s a (declr_end_f v p q (some t) true k n (q + 1) (abs w))
        init-none {s} {a} o l = let m : 0 ≡ n - 1 = omega (arith, o) in init-then (unwalked o) (subst (λ (m : ℕ). Did w s a (declr_after q k (named f x) m j j (abs w))) m l)

-- a declarator's end, by the kind that was read
pub after-kind : {w u : List ℕ} {a : Result ℕ Refusal} {t k : VarType} (q f x n i j : ℕ) → t ≡ k → Did w u a (declr_after q t (named f x) n i j (abs w)) → Did w u a (declr_after q k (named f x) n i j (abs w))
after-kind {w} {u} {a} q f x n i j e d = subst (λ (k : VarType). Did w u a (declr_after q k (named f x) n i j (abs w))) e d

-- the node itself, after a walk of its children and a change of a field
module _ {f : Forest → M St Forest} {g : Walks St} (s : SimF f g) {w u x : List ℕ} {n q p d j : ℕ} {t : St} where
  pub kids-again : Here w 1 q p d → n ≡ (node_of w q).arity → Did w u (Ok j) (g n (q + 1) (abs w)) → Turns u x t → Here x 1 q p d × (n ≡ (node_of x q).arity)
  kids-again h ar y c =
      let b = here-turn c (here-node-stays s h ar y) in
      let l = here-node b in
      (b, ar ∙ ap (λ c. c.arity) (sym (kids-node s h ar y) ∙ sym (tree-at u q (node_in_lem s h ar y)) ∙ ap (λ (xs : List Core). get_or xs q no_core) (sym c.nodes) ∙ tree-at x q l))

-- the answer of a look for a name
module _ (w : List ℕ) (n i : ℕ) (b : Bool) (e : Headed w n i b) where
  pub headed-yes : b ≡ true → head_bind (forest_at (abs w) n i) ≡ none
  headed-yes z = subst (λ (b : Bool). Headed w n i b) z e

  pub headed-no : b ≡ false → (head_bind (forest_at (abs w) n i) ≡ some (tree_at (abs w) i)) × Bound w n i
  headed-no z = subst (λ (b : Bool). Headed w n i b) z e

module _ {w : List ℕ} {n i p d : ℕ} (h : Here w n i p d) (bd : Bound w n i) where
  bound-in : i < get_or w 0 0
  bound-in = room-node w bd.some h.room

  pub at_bound : Planted w × (i < get_or w 0 0)
  at_bound = (h.planted, bound-in)

  pub at_name : (Good w × (i < get_or w 0 0)) × (((node_of w i).kind ≡ 20) ⊎ ((node_of w i).kind ≡ 21))
  at_name = ((h.planted.good, bound-in), inl bd.kind)

  pub name-form : {f : ℕ} → f ≡ (node_of w i).form → f ≡ form (tree_at (abs w) i)
  name-form e = e ∙ sym (form-at (abs w) i (omega (arith, bound-in, tree-length w)) ∙ ap (λ c. c.form) (tree-at w i bound-in))

  pub name-num : {x : ℕ} → x ≡ (node_of w i).num → x ≡ num (tree_at (abs w) i)
  name-num e = e ∙ sym (num-at (abs w) i (omega (arith, bound-in, tree-length w)) ∙ ap (λ c. c.num) (tree-at w i bound-in))

-- is there a name
module _ {w : List ℕ} {n i p d : ℕ} (h : Here w n i p d) where
  bind_is : (n ≡ 0 → ⊥) → (b : Bool) → eqb (node_of w i).kind 20 ≡ b → head_bind (forest_at (abs w) n i) ≡ pick b (some (tree_at (abs w) i)) none
  bind_is z b e =
      let l : i < get_or w 0 0 = room-node w (omega (arith, z)) h.room in
      let k : kind (tree_from (tree w) i) ≡ (node_of w i).kind = ap kind (sym (tree-at-is (abs w) i)) ∙ kind_at (abs w) i (omega (arith, l, tree-length w)) ∙ ap (λ c. c.kind) (tree-at w i l) in
      ap head_bind (forest-at-is (abs w) n i ∙ forest-some (tree w) n i (omega (arith, z)) (omega (arith, z, h.room.trees)))
      ∙ ap (λ (c : Bool). pick c (some (tree_from (tree w) i)) none) (ap (λ (m : ℕ). eqb m 20) k ∙ e)
      ∙ ap (λ (t : Tree). pick b (some t) none) (sym (tree-at-is (abs w) i))

  pub headed-none : n ≡ 0 → Headed w n i true
  headed-none z = ap head_bind (forest-at-is (abs w) n i ∙ forest-none (tree w) n i z)

  pub headed-other : {k : ℕ} → (n ≡ 0 → ⊥) → k ≡ (node_of w i).kind → (k ≡ 20 → ⊥) → Headed w n i true
  headed-other z e s = bind_is z false (ne_eqb (node_of w i).kind 20 (λ y. s (e ∙ y)))

  pub headed-name : {k : ℕ} → (n ≡ 0 → ⊥) → k ≡ (node_of w i).kind → k ≡ 20 → Headed w n i false
  headed-name z e s = (bind_is z true (eq-eqb (node_of w i).kind 20 (sym e ∙ s)), record { some = omega (arith, z); kind = sym e ∙ s })
