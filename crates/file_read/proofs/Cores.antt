-- A script's core, node by node, and the words that hold it. Assumes nothing.
use mathlib.Core.Path.{◌≡◌, refl, sym, ap, ap₂, ◌∙◌, subst}
use mathlib.Core.Bool.{Bool, true, false, ◌&&◌, ◌||◌, not}
use mathlib.Core.List.{List, [], ◌∷◌, ◌++◌}
use Prim.Native.Nat.{ℕ, zero, suc, ◌+◌, ◌-◌, ◌*◌, ◌≤◌, ◌<◌}
use native.Mathlib.Nat.{le_of_suc-le-suc, not-suc-le-zero}
use native.Mathlib.Decide.{dec_le}
use native.Mathlib.Numerals.{add-one}
use native.Mathlib.Omega.{arith}
use borrow.Author.Tests.{le-leb}
use Rattle.std.proofs.lemmas.Bool.Decides.{nat_tests}
use lib.Dec.{T, eqb, leb, leb→le, ltb, ltb→lt, lit≤}
use mir.Val.{bool_byte}
use lib.ListN.{length, get_or, drop, take, set, length-set, length-append, take-append-drop, get_or-eq_default}
use lib.Seq.{take-suc, take-length, get_or-set_same, get_or-set_other}
use Rattle.def_tree.specs.Base.{pick, to_nat}
use Rattle.def_tree.specs.Tree.{Core, core, no_core}
use Rattle.words.specs.Tab.{tab}
use Rattle.words.specs.Layout.{tree}
use Rattle.words.specs.Moved.{Zeroed}
use Rattle.words.specs.Node.{Apart}
use Rattle.words.proofs.Nodes.{tree-length, beyond-same}
use Rattle.def_file.specs.declared.Raw.{Raw}
use Rattle.def_file.specs.declared.kinds.Class.TheVariants.{Root}
use Rattle.def_file.specs.declared.kinds.Row.{Row}
use Rattle.def_file.specs.Kinds.{rows, no_row, row_of, form_ok, uses_text, uses_bits}
use Rattle.def_file.specs.Script.{Script, is_lit, has_id, same_id, known, enter, enter_all, idents, place_of, zero_node, text_at, is_arguments}
use Rattle.def_file.specs.Core.{core_node, core_from, core_nodes}
use Rattle.def_file.specs.Read.{raw_of, Place, node_ok, below, fills, nodes_ok}
use Rattle.file_read.specs.Idents.{ids_of, Listed, Texted}
use Rattle.file_read.specs.Head.{places}
use Rattle.file_read.specs.Load.{script_of, Loaded, Loading, Kept}
use Rattle.file_read.specs.Text.{text_in}
use Rattle.file_read.proofs.Raws.{nodes-length, node-raw}
use Rattle.file_read.proofs.Strings.{count-texts, text-is}
use Rattle.def_file.proofs.Tested.{Tested, tested, lit-no-id}
use Rattle.def_tree.proofs.Tests.{is_T, and_left, and_right}
use Rattle.file_read.proofs.Names.{same_refl, enter-old, enter-new, ids-same, listed_same, texted-same}

-- what row 6 shows of every node

-- no kind has a form above 24: a test over all rows
all_to : List (ℕ → Row) → ℕ → Bool
all_to [] f = true
all_to (r ∷ rs) f = leb (r f).to 24 && all_to rs f

to_at : (rs : List (ℕ → Row)) (k f : ℕ) → T (all_to rs f) → (get_or rs k (λ g. no_row) f).to ≤ 24
unfolding all_to
to_at [] k f h = lit≤ tt
to_at (r ∷ rs) zero f h = leb→le (r f).to 24 (and_left (leb (r f).to 24) (all_to rs f) h)
to_at (r ∷ rs) (suc k) f h = to_at rs k f (and_right (leb (r f).to 24) (all_to rs f) h)

row-to : (k f : ℕ) → (row_of k f).to ≤ 24
unfolding row_of all_to
row-to k f = to_at rows k f tt

row-none : (k f : ℕ) → 49 ≤ k → row_of k f ≡ no_row
unfolding row_of
row-none k f h = ap (λ (r : ℕ → Row). r f) (get_or-eq_default rows (λ g. no_row) h)

pub record Sound (t : ℕ) (x : Raw) : Type 0 where
  pub kind : x.kind < 64
  pub form : x.form < 32
  pub text : T (uses_text x.kind) → x.text < t

sound : (t : ℕ) (p : Place) (x : Raw) → node_ok t p x ≡ true → Sound t x
sound t p x q = record { kind = go (dec_le 49 x.kind); form = omega (arith, leb→le x.form r.to (and_right (leb r.from x.form) (leb x.form r.to) five.form), row-to x.kind x.form); text = λ u. of-text (uses_text x.kind) u known }
  where
    r : Row
    r = row_of x.kind x.form

    five : Tested t p x
    five = tested t p x (is_T _ q)

    known : T (pick (uses_text x.kind) (ltb x.text t) (eqb x.text 0))
    known = and_left (pick (uses_text x.kind) (ltb x.text t) (eqb x.text 0)) (uses_bits x.kind || eqb x.bits 0) five.fields

    of-text : (b : Bool) → T b → T (pick b (ltb x.text t) (eqb x.text 0)) → x.text < t
    of-text true u h = ltb→lt x.text t h
    of-text false u h = absurd u

    none : (f : ℕ) → T (form_ok no_row f) → ⊥
    none f h = omega (arith, leb→le 1 f (and_left (leb 1 f) (leb f 0) h), leb→le f 0 (and_right (leb 1 f) (leb f 0) h))

    go : Dec (49 ≤ x.kind) → x.kind < 64
    go (yes h) = absurd (none x.form (subst (λ (s : Row). T (form_ok s x.form)) (row-none x.kind x.form h) five.form))
    go (no h) = omega arith

filled-sound : (t : ℕ) (ps : List Place) (xs : List Raw) → fills t ps xs ≡ true → (k : ℕ) → k < length xs → Sound t (get_or xs k zero_node)
unfolding fills
filled-sound t ps [] e k h = absurd (not-suc-le-zero h)
filled-sound t [] (x ∷ xs) e k h = absurd (is_T false e)
filled-sound t (p ∷ ps) (x ∷ xs) e zero h = go (node_ok t p x) refl e
  where
    go : (b : Bool) → node_ok t p x ≡ b → elim b [ true ↦ fills t (below (p.left - 1) x 0 x.arity ps) xs | false ↦ false ] ≡ true → Sound t x
    go true q z = sound t p x q
    go false q z = absurd (is_T false z)
filled-sound t (p ∷ ps) (x ∷ xs) e (suc k) h = go (node_ok t p x) refl e (λ z. filled-sound t (below (p.left - 1) x 0 x.arity ps) xs z k (le_of_suc-le-suc h))
  where
    go : (b : Bool) → node_ok t p x ≡ b → elim b [ true ↦ fills t (below (p.left - 1) x 0 x.arity ps) xs | false ↦ false ] ≡ true → (fills t (below (p.left - 1) x 0 x.arity ps) xs ≡ true → Sound t (get_or xs k zero_node)) → Sound t (get_or xs k zero_node)
    go true q z r = r z
    go false q z r = absurd (is_T false z)

pub node-sound : (s : Script) → nodes_ok s ≡ true → (k : ℕ) → k < length s.nodes → Sound (length s.texts) (get_or s.nodes k zero_node)
unfolding nodes_ok
node-sound s e k h = filled-sound (length s.texts) (record { class = Root; left = 200 } ∷ []) s.nodes e k h

-- the core, by place
core-length : (s : Script) (m : ℕ) (xs : List Raw) → length (core_from s m xs) ≡ length xs
core-length s m [] = refl
core-length s m (x ∷ xs) = ap suc (core-length s (suc m) xs)

core_at : (s : Script) (m : ℕ) (xs : List Raw) (k : ℕ) → k < length xs → get_or (core_from s m xs) k no_core ≡ core_node s (m + k) (get_or xs k zero_node)
core_at s m [] k h = absurd (not-suc-le-zero h)
core_at s m (x ∷ xs) zero h = ap (λ (j : ℕ). core_node s j x) (plus m)
  where
    plus : (m : ℕ) → m ≡ m + 0
    plus m = omega arith
core_at s m (x ∷ xs) (suc k) h = core_at s (suc m) xs k (le_of_suc-le-suc h) ∙ ap (λ (j : ℕ). core_node s j (get_or xs k zero_node)) (plus m k)
  where
    plus : (m k : ℕ) → suc m + k ≡ m + suc k
    plus m k = omega arith

pub core-next : (s : Script) (k : ℕ) → k < length s.nodes → take (k + 1) (core_nodes s) ≡ take k (core_nodes s) ++ (core_node s (k + 1) (get_or s.nodes k zero_node) ∷ [])
unfolding core_nodes
core-next s k h = rw add-one (take-suc (core_from s 1 s.nodes) k no_core (rw core-length h) ∙ ap (λ (c : Core). take k (core_from s 1 s.nodes) ++ (c ∷ [])) (core_at s 1 s.nodes k h ∙ ap (λ (j : ℕ). core_node s j (get_or s.nodes k zero_node)) (plus k)))
  where
    plus : (k : ℕ) → 1 + k ≡ suc k
    plus k = omega arith

pub core_all : (s : Script) → take (length s.nodes) (core_nodes s) ≡ core_nodes s
unfolding core_nodes
core_all s = ap (λ (n : ℕ). take n (core_from s 1 s.nodes)) (sym (core-length s 1 s.nodes)) ∙ take-length (core_from s 1 s.nodes)

-- a core node, case by case
module _ (s : Script) (n : ℕ) (x : Raw) where
  pub core-lit : is_lit x ≡ true → core_node s n x ≡ core 22 0 0 n
  unfolding core_node
  core-lit e = rw e refl

  pub core-id : is_lit x ≡ false → has_id x ≡ true → core_node s n x ≡ core x.kind (to_nat (is_arguments s x)) x.arity (place_of x (idents s))
  unfolding core_node
  core-id e q = rw (e, q) refl

  pub core-plain : is_lit x ≡ false → has_id x ≡ false → core_node s n x ≡ core x.kind x.form x.arity n
  unfolding core_node
  core-plain e q = rw (e, q) refl

-- identifiers that are entered keep their places
known-left : (x : Raw) (ids ys : List Raw) → known x ids ≡ true → known x (ids ++ ys) ≡ true
known-left x [] ys h = absurd (is_T false h)
known-left x (i ∷ ids) ys h = go (same_id x i) refl h (known-left x ids ys)
  where
    go : (b : Bool) → same_id x i ≡ b → (b || known x ids) ≡ true → (known x ids ≡ true → known x (ids ++ ys) ≡ true) → (b || known x (ids ++ ys)) ≡ true
    go true e q k = refl
    go false e q k = k q

place-left : (x : Raw) (ids ys : List Raw) → known x ids ≡ true → place_of x (ids ++ ys) ≡ place_of x ids
place-left x [] ys h = absurd (is_T false h)
place-left x (i ∷ ids) ys h = go (same_id x i) refl h (place-left x ids ys)
  where
    go : (b : Bool) → same_id x i ≡ b → (b || known x ids) ≡ true → (known x ids ≡ true → place_of x (ids ++ ys) ≡ place_of x ids) → ◌≡◌ {A = ℕ} (elim b [ true ↦ 0 | false ↦ suc (place_of x (ids ++ ys)) ]) (elim b [ true ↦ 0 | false ↦ suc (place_of x ids) ])
    go true e q k = refl
    go false e q k = ap suc (k q)

-- entering one more keeps what is known, its place and the length
record Keeps (x : Raw) (ids ids' : List Raw) : Type 0 where
  still : known x ids ≡ true → known x ids' ≡ true
  place : known x ids ≡ true → place_of x ids' ≡ place_of x ids
  more : length ids ≤ length ids'

keeps-enter : (x : Raw) (ids : List Raw) (y : Raw) → Keeps x ids (enter ids y)
keeps-enter x ids y = go (has_id y && not (known y ids))
  where
    go : (b : Bool) → Keeps x ids (pick b (ids ++ (y ∷ [])) ids)
    go true = record { still = known-left x ids (y ∷ []); place = place-left x ids (y ∷ []); more = simp length-append (omega arith) }
    go false = record { still = λ h. h; place = λ h. refl; more = omega arith }

keeps-all : (x : Raw) (ids ys : List Raw) → Keeps x ids (enter_all ids ys)
unfolding enter_all
keeps-all x ids [] = record { still = λ h. h; place = λ h. refl; more = omega arith }
keeps-all x ids (y ∷ ys) =
    let a = keeps-enter x ids y in
    let b = keeps-all x (enter ids y) ys in
    record { still = λ h. b.still (a.still h); place = λ h. b.place (a.still h) ∙ a.place h; more = omega (arith, a.more, b.more) }

enter-append : (ids xs ys : List Raw) → enter_all ids (xs ++ ys) ≡ enter_all (enter_all ids xs) ys
unfolding enter_all
enter-append ids [] ys = refl
enter-append ids (x ∷ xs) ys = enter-append (enter ids x) xs ys

known-last : (x : Raw) (ids : List Raw) → known x (ids ++ (x ∷ [])) ≡ true
known-last x [] = rw (same_refl x) refl
known-last x (i ∷ ids) = go (same_id x i) (known-last x ids)
  where
    go : (b : Bool) → known x (ids ++ (x ∷ [])) ≡ true → (b || known x (ids ++ (x ∷ []))) ≡ true
    go true k = refl
    go false k = k

known-enter : (ids : List Raw) (x : Raw) → has_id x ≡ true → known x (enter ids x) ≡ true
known-enter ids x h = go (known x ids) refl
  where
    go : (b : Bool) → known x ids ≡ b → known x (enter ids x) ≡ true
    go true e = ap (known x) (enter-old ids x e) ∙ e
    go false e = ap (known x) (enter-new ids x h e) ∙ known-last x ids

pub enter-none : (ids : List Raw) (x : Raw) → has_id x ≡ false → enter ids x ≡ ids
enter-none ids x h = rw h refl

-- the first k + 1 nodes' identifiers, from the first k nodes'
module _ (s : Script) (k : ℕ) (h : k < length s.nodes) where
  pub ids_next : enter_all [] (take (k + 1) s.nodes) ≡ enter (enter_all [] (take k s.nodes)) (get_or s.nodes k zero_node)
  unfolding enter_all
  ids_next = rw add-one (ap (enter_all []) (take-suc s.nodes k zero_node h) ∙ enter-append [] (take k s.nodes) (get_or s.nodes k zero_node ∷ []))

  all_ids : idents s ≡ enter_all (enter_all [] (take (k + 1) s.nodes)) (drop (k + 1) s.nodes)
  unfolding idents
  all_ids = ap (enter_all []) (sym (take-append-drop (k + 1) s.nodes)) ∙ enter-append [] (take (k + 1) s.nodes) (drop (k + 1) s.nodes)

  -- the place that a node's identifier has now is the place that it has in the end
  pub place-final : has_id (get_or s.nodes k zero_node) ≡ true
      → place_of (get_or s.nodes k zero_node) (idents s) ≡ place_of (get_or s.nodes k zero_node) (enter (enter_all [] (take k s.nodes)) (get_or s.nodes k zero_node))
  place-final e =
      let x = get_or s.nodes k zero_node in
      ap (place_of x) all_ids
      ∙ (keeps-all x (enter_all [] (take (k + 1) s.nodes)) (drop (k + 1) s.nodes)).place (ap (known x) ids_next ∙ known-enter (enter_all [] (take k s.nodes)) x e)
      ∙ ap (place_of x) ids_next

  -- and there are at least as many in the end
  pub ids_more : length (enter (enter_all [] (take k s.nodes)) (get_or s.nodes k zero_node)) ≤ length (idents s)
  ids_more = rw (all_ids, ← ids_next) (keeps-all (get_or s.nodes k zero_node) (enter_all [] (take (k + 1) s.nodes)) (drop (k + 1) s.nodes)).more

-- a node more in the tree
abbrev Added : List ℕ → List ℕ → Core → Type 0
Added w w' c = (tree w' ≡ tree w ++ (c ∷ [])) × Apart w w'

-- the kinds of literals, and those of neither a literal nor a name
lit-kinds : (x : Raw) → 22 ≤ x.kind → x.kind ≤ 25 → is_lit x ≡ true
lit-kinds x h l = rw (le-leb 22 x.kind h, le-leb x.kind 25 l) refl

plain-kinds : (x : Raw) → (20 ≤ x.kind → 26 ≤ x.kind) → (is_lit x ≡ false) × (has_id x ≡ false)
plain-kinds x h = grind (arith, nat_tests)

-- a node with an identifier uses its text
pub id-text : (x : Raw) → has_id x ≡ true → T (uses_text x.kind)
id-text x h = go (eqb x.kind 20) (eqb x.kind 21) h
  where
    go : (p q : Bool) → (p || q) ≡ true → T (p || q || eqb x.kind 25 || eqb x.kind 29 || eqb x.kind 37 || eqb x.kind 47)
    go true q e = tt
    go false true e = tt
    go false false e = absurd (is_T false e)

-- one node more is loaded: w₁ has its identifier entered, and w₂ the node appended
module _ {bs w : List ℕ} {n t k : ℕ} (L : Loading bs w n t k) where
  abbrev s : Script
  s = script_of bs n t

  abbrev x : Raw
  x = get_or s.nodes k zero_node

  long-nodes : k < length s.nodes
  long-nodes = rw nodes-length L.less

  pub loading-read : {y : Raw} → y ≡ raw_of (drop (32 + 16 * k) bs) → y ≡ x
  loading-read e = e ∙ sym (node-raw n k bs L.less)

  pub loading-sound : Sound (length s.texts) x
  loading-sound = node-sound s L.readable.ok k long-nodes

  -- a name's text is one of the file's
  pub loading-text : has_id x ≡ true → x.text < t
  loading-text h = omega (arith, loading-sound.text (id-text x h), count-texts L.readable.placed)

  pub loading-name : has_id x ≡ true → text_in bs (places n t).ends (places n t).bytes x.text ≡ text_at s x.text
  loading-name h = sym (text-is L.readable.placed x.text (loading-text h))

  pub loaded-more : {w₁ w₂ : List ℕ} {c : Core} → c ≡ core_node s (k + 1) x → tree w₁ ≡ tree w → get_or w₁ 0 0 ≡ get_or w 0 0 → ids_of bs w₁ ≡ enter (ids_of bs w) x → Listed w₁ n → Texted bs w₁ → Added w₁ w₂ c → Loaded bs w₂ n t (k + 1)
  loaded-more {w₁} {w₂} {c} e a b i l v p =
      let four : get_or w₂ 4 0 ≡ get_or w₁ 4 0 = p.1.low 4 (omega arith) (omega arith) in
      let list : (i : ℕ) → i < get_or w₁ 4 0 → get_or w₂ (15504 + i) 0 ≡ get_or w₁ (15504 + i) 0 = λ i h. p.1.high (15504 + i) (omega arith) in
      record {
        count = sym (tree-length w₂) ∙ ap (λ (xs : List Core). length xs) p.0 ∙ length-append (tree w₁) (c ∷ []) ∙ omega (arith, tree-length w₁, b, L.loaded.count);
        tree = p.0 ∙ ap₂ {C = List Core} (λ xs y. xs ++ (y ∷ [])) (a ∙ L.loaded.tree) e ∙ sym (core-next s k long-nodes);
        ids = ids-same bs w₁ w₂ four list ∙ i ∙ ap (λ (is : List Raw). enter is x) L.loaded.ids ∙ sym (ids_next s k long-nodes);
        listed = listed_same w₁ w₂ n p.1.size four list l;
        texted = texted-same bs w₁ w₂ four (λ j h. p.1.high j (omega arith)) v;
      }

  loaded-as : {w₂ : List ℕ} {c : Core} → c ≡ core_node s (k + 1) x → has_id x ≡ false → Added w w₂ c → Loaded bs w₂ n t (k + 1)
  loaded-as e z p = loaded-more e refl refl (sym (enter-none (ids_of bs w) x z)) L.loaded.listed L.loaded.texted p

  pub loaded-lit : {w₂ : List ℕ} → 22 ≤ x.kind → x.kind ≤ 25 → Added w w₂ (core 22 0 0 (k + 1)) → Loaded bs w₂ n t (k + 1)
  loaded-lit h l p = let lit = lit-kinds x h l in loaded-as (sym (core-lit s (k + 1) x lit)) (lit-no-id x (is_T (is_lit x) lit)) p

  pub loaded-plain : {w₂ : List ℕ} {kind form arity : ℕ} → kind ≡ x.kind → form ≡ x.form → arity ≡ x.arity → (20 ≤ x.kind → 26 ≤ x.kind) → Added w w₂ (core kind form arity (k + 1)) → Loaded bs w₂ n t (k + 1)
  loaded-plain q f a h p = let z = plain-kinds x h in loaded-as (rw (q, f, a) (sym (core-plain s (k + 1) x z.0 z.1))) z.1 p

  -- the number that its identifier has in the end
  pub number-final : has_id x ≡ true → place_of x (idents s) ≡ place_of x (enter (ids_of bs w) x)
  number-final e = place-final s k long-nodes e ∙ ap (λ (is : List Raw). place_of x (enter is x)) (sym L.loaded.ids)

  -- row 7
  pub over : 256 < length (enter (ids_of bs w) x) → 256 < length (idents s)
  over h = omega (arith, ids_more s k long-nodes, ap (λ (is : List Raw). length (enter is x)) L.loaded.ids)

-- the words past the first 16,384
pub kept_by : {w w' : List ℕ} → length w' ≡ length w → ((j : ℕ) → 2064 ≤ j → get_or w' j 0 ≡ get_or w j 0) → Kept w w'
kept_by {w} {w'} z h = record { size = z; rest = beyond-same w w' z (λ j l. h j (omega arith)) }

pub kept_then : {w w₁ w₂ : List ℕ} → Kept w w₁ → Kept w₁ w₂ → Kept w w₂
kept_then a b = record { size = b.size ∙ a.size; rest = b.rest ∙ a.rest }

pub kept-mid : {w w' : List ℕ} → length w' ≡ length w → ((j : ℕ) → 16016 ≤ j → get_or w' j 0 ≡ get_or w j 0) → Kept w w'
kept-mid {w} {w'} z h = record { size = z; rest = beyond-same w w' z (λ j l. h j (omega arith)) }

-- a node with an identifier, as it is loaded
pub core-ident : (s : Script) (n : ℕ) (x : Raw) {kind form arity j : ℕ} → kind ≡ x.kind → has_id x ≡ true → form ≡ to_nat (is_arguments s x) → arity ≡ x.arity → j ≡ place_of x (idents s) → core kind form arity j ≡ core_node s n x
core-ident s n x k h p a q = rw (k, p, a, q) (sym (core-id s n x (not-lit (is_lit x) refl) h))
  where
    not-lit : (b : Bool) → is_lit x ≡ b → is_lit x ≡ false
    not-lit true z = absurd (is_T false (sym (lit-no-id x (is_T (is_lit x) z)) ∙ h))
    not-lit false z = z

-- a flag is 1 or 0
pub flag_to_nat : (b : Bool) → bool_byte b ≡ to_nat b
flag_to_nat true = refl
flag_to_nat false = refl

-- no node is loaded yet: the words of the texts are wiped, and the two counts are 0
module _ {w w₁ : List ℕ} (long : 16384 ≤ length w) (z : Zeroed w w₁ 15760 256) where
  none-nodes : get_or (set (set w₁ 0 0) 4 0) 0 0 ≡ 0
  none-nodes = get_or-set_other (set w₁ 0 0) 4 0 0 0 (λ e. omega (arith, e)) ∙ get_or-set_same w₁ 0 0 0 (omega (arith, z.size))

  none-ids : get_or (set (set w₁ 0 0) 4 0) 4 0 ≡ 0
  none-ids = get_or-set_same (set w₁ 0 0) 4 0 0 (simp length-set (omega (arith, z.size)))

  none_other : (j : ℕ) → 5 ≤ j → get_or (set (set w₁ 0 0) 4 0) j 0 ≡ get_or w₁ j 0
  none_other j l = get_or-set_other (set w₁ 0 0) 4 j 0 0 (λ e. omega (arith, e)) ∙ get_or-set_other w₁ 0 j 0 0 (λ e. omega (arith, e))

  pub none-loaded : (bs : List ℕ) (n t : ℕ) → Loaded bs (set (set w₁ 0 0) 4 0) n t 0
  unfolding tree ids_of enter_all tab
  none-loaded bs n t = record {
    count = none-nodes;
    tree = rw none-nodes refl;
    ids = rw none-ids refl;
    listed = record {
      long = simp length-set (rw z.size long);
      few = rw none-ids (omega arith);
      low = λ i h. absurd (omega (arith, rw none-ids at h));
      high = λ i h. absurd (omega (arith, rw none-ids at h));
    };
    texted = record {
      some = λ i h. absurd (omega (arith, rw none-ids at h));
      first = λ i h. absurd (omega (arith, rw none-ids at h));
      high = λ t h. omega (arith, none_other (15760 + t) (omega arith), z.here t h);
    };
  }

  pub none_kept : Kept w (set (set w₁ 0 0) 4 0)
  none_kept = record {
    size = simp length-set z.size;
    rest = beyond-same w (set (set w₁ 0 0) 4 0) (simp length-set z.size) (λ j l. none_other j (omega arith) ∙ z.high j (omega arith));
  }
