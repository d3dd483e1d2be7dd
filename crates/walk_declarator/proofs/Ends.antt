-- The end of a declarator: what stays, and what is taken out with its nodes. Assumes nothing.
use Rattle.std.proofs.Common.{Ok, Err}
use mathlib.Core.Path.{◌≡◌, refl, sym, ap, ◌∙◌}
use mathlib.Core.List.{List, ◌++◌}
use mathlib.Core.Bool.{Bool, true, false}
use Prim.Native.Nat.{ℕ, zero, suc, ◌+◌, ◌-◌, ◌≤◌, ◌<◌}
use native.Mathlib.Omega.{arith}
use lib.ListN.{length, get_or, set, take, drop, length-set, length-append, length-drop}
use lib.Seq.{length-take-le, set-get_or}
use Rattle.def_tree.specs.Base.{pick}
use Rattle.def_tree.specs.Tree.{Tree, Forest, Core, no_core, nil, cons, count, plant, take_f}
use Rattle.def_tree.specs.Combine.{Res, stop, done, Nothing, and_then, ret, iff, ◌>>◌, carry, cut_first, Flat, node_at, tree_at, forest_at, set_arity, re_arity}
use Rattle.def_pass.specs.Tree.{is_ident, tail_f}
use Rattle.def_pass.specs.Scope as def
use Rattle.def_pass.specs.Scope.{VarType, is_inline_prevented, prevent_inline}
use Rattle.def_pass.specs.Walk.{St, declare_m, mark, leave, set_nodes, takes}
use Rattle.words.specs.Layout.{tree}
use Rattle.words.proofs.Nodes.{tree-length}
use Rattle.words_nodes.specs.Nodes.{Planted, Child, Replants, tree_from, forest_from, cut_at}
use Rattle.words_nodes.proofs.Trees.{child-lt, behind-le}
use Rattle.words_nodes.proofs.Words.{tree-whole}
use Rattle.words_nodes.proofs.Walks as walks
use Rattle.def_tree.proofs.Whole.{whole_drop}
use Rattle.words_state.specs.State.{rest, abs}
use Rattle.words_state.proofs.Fields.{ok-then, replants-ok, replants-rest}
use Rattle.walk_declarator.specs.Steps.{named, wants, take_ident, take_value, take_or_mark, take_init, Moves, Did, Stands, declr_after}
use Rattle.walk_declarator.specs.declared.Spot.{Spot}
use Rattle.refusal.specs.declared.Refusal.{Refusal}
use Rattle.refusal.specs.Number.{number}
use Rattle.walk_declarator.proofs.Acts as acts
use Rattle.walk_declarator.proofs.Parts as parts

-- the initialiser counted out, if it is taken
abbrev counted : Tree → Bool → St → Res St Bool
counted e gone s = done (pick gone (set_nodes (s.nodes - count e) s) s) gone

module _ (f x : ℕ) (k : VarType) (e : Tree) where
  value-counted : (r : Res St Nothing) → and_then r (λ u s. done (set_nodes (s.nodes - count e) s) true) ≡ and_then (and_then r (λ u. ret true)) (counted e)
  value-counted (stop n) = refl
  value-counted (done s u) = refl

  wanted-counted : (q : Bool) (s : St) → iff q (declare_m (named f x) (def.recorded e) false k >> leave e >> ret true) (ret false) s
      ≡ and_then (iff q (declare_m (named f x) (def.recorded e) false k >> ret true) (ret false) s) (counted e)
  wanted-counted true s = value-counted (declare_m (named f x) (def.recorded e) false k s)
  wanted-counted false s = refl

  marked-counted : (p : Bool) (s : St) → iff p (mark (prevent_inline x) >> ret false) (iff (wants x e s.stack) (declare_m (named f x) (def.recorded e) false k >> leave e >> ret true) (ret false)) s
      ≡ and_then (iff p (mark (prevent_inline x) >> ret false) (take_value f x k e) s) (counted e)
  unfolding take_value
  marked-counted true s = refl
  marked-counted false s = wanted-counted (wants x e s.stack) s

  ident-counted : (r : Res St Nothing)
      → and_then r (λ u s. iff (is_inline_prevented e s.stack) (mark (prevent_inline x) >> ret false) (iff (wants x e s.stack) (declare_m (named f x) (def.recorded e) false k >> leave e >> ret true) (ret false)) s)
      ≡ and_then (and_then r (λ u. take_or_mark f x k e)) (counted e)
  unfolding take_or_mark
  ident-counted (stop n) = refl
  ident-counted (done s u) = marked-counted (is_inline_prevented e s.stack) s

  pub takes-some : (es : Forest) (s : St) → takes k (named f x) (cons e es) s ≡ and_then (take_init f x k e s) (counted e)
  unfolding takes take_init take_ident
  takes-some es s = ident-counted (iff (is_ident e) (declare_m (named f x) (def.recorded e) false k) (ret tt) s)

pub takes_none : (f x : ℕ) (k : VarType) (s : St) → takes k (named f x) nil s ≡ and_then (declare_m (named f x) def.no_init false k s) (λ u. ret false)
unfolding takes
takes_none f x k s = refl

-- declr_after, from what `takes` answers
abbrev after : ℕ → ℕ → ℕ → ℕ → List Core → Res St Bool → Res (Flat St) ℕ
after q n i j xs r = and_then (carry (λ (s : St) (a : Bool). record { nodes = xs; rest = s }) (λ (a : Bool). a) r)
    (λ gone st. and_then (iff gone (cut_first n i j) (ret (n, j)) st) (λ r st₁. done (set_arity q (suc r.0) st₁) r.1))

after_is : (q : ℕ) (k : VarType) (name : Tree) (n i j : ℕ) (w : List ℕ) → declr_after q k name n i j (abs w) ≡ after q n i j (tree w) (takes k name (forest_from (tree w) n i) (rest w))
unfolding forest_at forest_from
after_is q k name n i j w = refl

same-arity : (xs : List Core) (q n : ℕ) (s : St) → (get_or xs q no_core).arity ≡ n → set_arity q n (record { nodes = xs; rest = s }) ≡ record { nodes = xs; rest = s }
same-arity xs q n s e = ap (λ (l : List Core). record { nodes = l; rest = s }) (ap (λ (m : ℕ). set xs q (re_arity m (get_or xs q no_core))) (sym e) ∙ set-get_or xs q no_core)

cut-length : (xs : List Core) (q i : ℕ) → i + count (tree_from xs i) ≤ length xs → length (cut_at xs q i) ≡ length xs - count (tree_from xs i)
unfolding cut_at
cut-length xs q i h =
    let c = count (tree_from xs i) in
    simp length-set (length-append (take i xs) (drop (i + c) xs) ∙ omega (arith, length-take-le i xs (omega arith), length-drop (i + c) xs))

rest-nodes : (w : List ℕ) → (rest w).nodes ≡ length (tree w)
unfolding rest
rest-nodes w = sym (tree-length w)

pub spot-child : {xs : List Core} {s : Spot} → Stands xs s → 0 < s.n → Child xs s.q 1 s.i
spot-child {xs} {s} sp h = rw sp.at (walks.second-child xs s.q (omega (arith, sp.arity)) sp.name)

module _ {w u : List ℕ} (k : VarType) (name : Tree) (q n i j : ℕ) where
  pub after_stop : (e : Refusal) → Moves w u (takes k name (forest_from (tree w) n i) (rest w)) (stop (number e)) → Did w u (Err e) (declr_after q k name n i j (abs w))
  after_stop e p = record { ok = p.ok; is = after_is q k name n i j w ∙ ap (after q n i j (tree w)) p.is }

  pub after_kept : (get_or (tree w) q no_core).arity ≡ suc n → Moves w u (takes k name (forest_from (tree w) n i) (rest w)) (done (rest u) false) → Did w u (Ok j) (declr_after q k name n i j (abs w))
  after_kept a p = record {
    ok = p.ok;
    is = after_is q k name n i j w ∙ ap (after q n i j (tree w)) p.is ∙ ap (λ (st : Flat St). done st j) (same-arity (tree w) q (suc n) (rest u) a ∙ ap (λ (l : List Core). record { nodes = l; rest = rest u }) (sym p.nodes));
  }

-- with the initialiser at i
module _ {w : List ℕ} (g : Planted w) (f x : ℕ) (k : VarType) (s : Spot) (sp : Stands (tree w) s) (z : 0 < s.n) where
  abbrev q : ℕ
  q = s.q

  abbrev n : ℕ
  n = s.n

  abbrev i : ℕ
  i = s.i

  abbrev j : ℕ
  j = s.j

  abbrev e : Tree
  e = tree_from (tree w) i

  places : (q < i) × (i < length (tree w))
  places = child-lt (spot-child sp z) (whole_drop q (tree w) (tree-whole g))

  pub init-in : i < get_or w 0 0
  init-in = omega (arith, places.1, tree-length w)

  takes-here : takes k (named f x) (forest_from (tree w) n i) (rest w) ≡ and_then (take_init f x k e (rest w)) (counted e)
  takes-here =
      ap (λ (ts : Forest). takes k (named f x) ts (rest w)) (parts.forest-some (tree w) n i z (parts.some-tree (drop i (tree w)) (omega (arith, length-drop i (tree w), places.1))))
      ∙ takes-some f x k e (take_f (n - 1) (tail_f (plant (drop i (tree w))))) (rest w)

  pub init-stop : {u : List ℕ} (r : Refusal) → Moves w u (take_init f x k e (rest w)) (stop (number r)) → Did w u (Err r) (declr_after q k (named f x) n i j (abs w))
  init-stop r p = after_stop k (named f x) q n i j r (acts.moves-by takes-here (acts.moves-stop (counted e) p))

  pub init-kept : {u : List ℕ} → Moves w u (take_init f x k e (rest w)) (done (rest u) false) → Did w u (Ok j) (declr_after q k (named f x) n i j (abs w))
  init-kept p = after_kept k (named f x) q n i j sp.arity (acts.moves-by takes-here (acts.moves-then (counted e) p (acts.moves-self p.ok.planted false)))

  -- the list without the initialiser, of which the words have the new count
  abbrev without : St → Flat St
  without s = record { nodes = cut_at (tree w) q i; rest = s }

  after-cut : (s : St) → after q n i j (tree w) (done s true) ≡ done (without s) (j - count e)
  unfolding tree_at tree_from
  after-cut s = go n sp.arity z
    where
      st : Flat St
      st = record { nodes = tree w; rest = s }

      go : (n : ℕ) → (get_or (tree w) q no_core).arity ≡ suc n → 0 < n → after q n i j (tree w) (done s true) ≡ done (without s) (j - count e)
      go zero a h = absurd (omega arith)
      go (suc m) a h =
          let d : suc m ≡ (node_at st q).arity - 1 = omega (arith, a) in
          ap (λ (b : ℕ). done (set_arity q b (record { nodes = take i (tree w) ++ drop (i + count (tree_at st i)) (tree w); rest = s })) (j - count e)) d
          ∙ ap (λ (r : Flat St). done r (j - count e)) (walks.cut-is st q i places.0 (omega (arith, places.1)))

  pub init-gone : {u v : List ℕ} → Moves w u (take_init f x k e (rest w)) (done (rest u) true) → Replants u v (cut_at (tree u) q i) → Did w v (Ok (j - count e)) (declr_after q k (named f x) n i j (abs w))
  init-gone {u} {v} p r =
      let b : i + count e ≤ length (tree w) = behind-le (tree w) i places.1 (tree-whole g) in
      let c : length (cut_at (tree u) q i) ≡ (rest u).nodes - count e = ap (λ (l : List Core). length (cut_at l q i)) p.nodes ∙ cut-length (tree w) q i b ∙ ap (λ (m : ℕ). m - count e) (ap length (sym p.nodes) ∙ sym (rest-nodes u)) in
      let o : rest v ≡ set_nodes ((rest u).nodes - count e) (rest u) = replants-rest r ∙ ap (λ (m : ℕ). set_nodes m (rest u)) c in
      let t : tree v ≡ cut_at (tree w) q i = r.is ∙ ap (λ (l : List Core). cut_at l q i) p.nodes in
      record {
        ok = ok-then p.ok (replants-ok r);
        is = after_is q k (named f x) n i j w ∙ ap (after q n i j (tree w)) (takes-here ∙ ap (λ r. and_then r (counted e)) p.is) ∙ after-cut (set_nodes ((rest u).nodes - count e) (rest u))
            ∙ sym (rw (o, t) refl);
      }

pub child-at : {w : List ℕ} {q i : ℕ} → Planted w → Child (tree w) q 1 i → i < get_or w 0 0
child-at {w} {q} g h = omega (arith, (child-lt h (whole_drop q (tree w) (tree-whole g))).1, tree-length w)

-- without an initialiser
pub bare-here : (f x : ℕ) (k : VarType) (xs : List Core) (i : ℕ) (s : St) → takes k (named f x) (forest_from xs 0 i) s ≡ and_then (declare_m (named f x) def.no_init false k s) (λ u. ret false)
bare-here f x k xs i s = ap (λ (ts : Forest). takes k (named f x) ts s) (parts.forest-none xs 0 i refl) ∙ takes_none f x k s
