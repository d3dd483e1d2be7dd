-- From the nodes of a file that is read to its tree. Assumes nothing.
use mathlib.Core.Path.{◌≡◌, refl, sym, ap, ◌∙◌, subst}
use mathlib.Core.Bool.{Bool, true, false, ◌&&◌, ◌||◌}
use mathlib.Core.Option.{Option, some}
use mathlib.Core.Logic.{inl, inr}
use mathlib.Core.List.{List, [], ◌∷◌}
use Prim.Native.Nat.{ℕ, zero, suc, ◌+◌, ◌-◌, ◌*◌, ◌≤◌, ◌<◌}
use native.Mathlib.Omega.{arith}
use lib.Dec.{T, eqb, ltb, leb, eqb→eq, eqb_refl, leb→le}
use lib.ListN.{length, drop, length-append}
use borrow.Author.Tests.{eqb-false, ne_eqb}
use Rattle.def_tree.specs.Base.{pick, to_nat}
use Rattle.def_tree.specs.Tree.{Core, length_f, take_f, drop_f, plant}
use Rattle.def_file.specs.declared.Raw.{Raw}
use Rattle.def_file.specs.declared.kinds.Class.{Class}
use Rattle.def_file.specs.declared.kinds.Class.TheVariants.{Root, Statement, Expression, Binding, Name, Target, Block, Declarator, Catch, Case, Property, PatternProperty, Updated, Assigned, Destructured, Start, Head}
use Rattle.def_file.specs.declared.kinds.Row.{Row}
use Rattle.def_file.specs.Kinds.{allows, row_of, form_ok, count_ok}
use Rattle.def_file.specs.Script.{Script, is_lit, has_id, is_arguments, place_of, idents}
use Rattle.def_file.specs.Read.{Place, node_ok, below, fills, nodes_ok, nodes_from, ends_from, texts_from, rising, distinct, Read, bad, script, checked, u32, read}
use Rattle.def_pass.specs.Tree.{Tree, Forest, node, nil, cons, kind, kids, head_t, tail_f, counts, height, heights}
use Rattle.def_file.specs.Core.{core_node, core_from, core_nodes}
use Rattle.def_pass.specs.Script.{core_tree, pass_tree, pass, answer}
use Rattle.def_pass.specs.Walk as Walk
use Rattle.laws_pass.specs.Readable.{form_of, row_at, Fits, FitsF, Readable, ReadableOut}
use Rattle.laws_pass.specs.Assigns.{Assign, target_o, Expressions, listed, own_assign, assigns, assigns_f, Outside, OutsideF, KeptOut}
use Rattle.laws_pass.specs.FromFile.{NoInit, NoInitF, Stands, StandsIn, TreesIn, TreesOf, FileTrees}
use Rattle.laws_pass.proofs.Readable.{init-value, body_ok, result-readable}
use Rattle.laws_pass.proofs.Assigns.{assigns-kept, at-kind, none_left, none_right}
use Rattle.def_file.proofs.Nodes.{nodes-length}
use Rattle.def_file.proofs.Tested.{Tested, tested, zero_of, lit-kind, lit-leaf}
use Rattle.def_tree.proofs.Tests.{is_T, is_true, and_left, and_right, both}

-- a tree at a place
pub record At (p : Place) (t : Tree) : Type 0 where
  pub allowed : T (allows p.class (kind t) (length_f (kids t)))
  pub fits : Fits t
  pub low : height t ≤ p.left

abbrev pub Filled : List Place → Forest → Type 0
Filled [] nil = Unit {0}
Filled [] (cons t ts) = ⊥
Filled (p ∷ ps) nil = ⊥
Filled (p ∷ ps) (cons t ts) = At p t × Filled ps ts

-- a node's children and what follows them
record Split (l : ℕ) (x : Raw) (i m : ℕ) (ps : List Place) (ts : Forest) : Type 0 where
  fits : FitsF (row_of x.kind x.form) x.arity i (take_f m ts)
  low : heights (take_f m ts) ≤ l
  len : length_f (take_f m ts) ≡ m
  rest : Filled ps (drop_f m ts)

parted : (l : ℕ) (x : Raw) (i m : ℕ) (ps : List Place) (ts : Forest) → Filled (below l x i m ps) ts → Split l x i m ps ts
unfolding below
parted l x i zero ps ts h = record { fits = tt; low = omega arith; len = refl; rest = h }
parted l x i (suc m) ps nil h = absurd h
parted l x i (suc m) ps (cons t ts) h =
    let r = parted l x (suc i) m ps ts h.1 in
    record { fits = (h.0.allowed, h.0.fits, r.fits); low = omega (arith, h.0.low, r.low); len = ap suc r.len; rest = r.rest }

-- literals
abbrev Four : Class → Type 0
Four c = (m : ℕ) → (T (allows c 22 m) → T (allows c 22 0)) × (T (allows c 23 m) → T (allows c 22 0)) × (T (allows c 24 m) → T (allows c 22 0)) × (T (allows c 25 m) → T (allows c 22 0))

four : (c : Class) → Four c
four Root m = (λ h. h, λ h. h, λ h. h, λ h. h)
four Statement m = (λ h. h, λ h. h, λ h. h, λ h. h)
four Expression m = (λ h. h, λ h. h, λ h. h, λ h. h)
four Binding m = (λ h. h, λ h. h, λ h. h, λ h. h)
four Name m = (λ h. h, λ h. h, λ h. h, λ h. h)
four Target m = (λ h. h, λ h. h, λ h. h, λ h. h)
four Block m = (λ h. h, λ h. h, λ h. h, λ h. h)
four Declarator m = (λ h. h, λ h. h, λ h. h, λ h. h)
four Catch m = (λ h. h, λ h. h, λ h. h, λ h. h)
four Case m = (λ h. h, λ h. h, λ h. h, λ h. h)
four Property m = (λ h. h, λ h. h, λ h. h, λ h. h)
four PatternProperty m = (λ h. h, λ h. h, λ h. h, λ h. h)
four Updated m = (λ h. h, λ h. h, λ h. h, λ h. h)
four Assigned m = (λ h. h, λ h. h, λ h. h, λ h. h)
four Destructured m = (λ h. h, λ h. h, λ h. h, λ h. h)
four Start m = (λ h. h, λ h. h, λ h. h, λ h. h)
four Head m = (λ h. h, λ h. h, λ h. h, λ h. h)

pub lit-place : (k : ℕ) → T (leb 22 k && leb k 25) → (c : Class) (m : ℕ) → T (allows c k m) → T (allows c 22 0)
lit-place k h = lit-kind k h (λ n. (c : Class) (m : ℕ) → T (allows c n m) → T (allows c 22 0)) (λ c m. (four c m).0) (λ c m. (four c m).1) (λ c m. (four c m).2) (λ c m. (four c m).3)

-- bindings and identifiers have form 0
id-form : (k f : ℕ) → T (eqb k 20 || eqb k 21) → T (form_ok (row_of k f) f) → f ≡ 0
unfolding row_of
id-form k f h o = go (eqb k 20) refl (eqb k 21) refl h
  where
    go : (p : Bool) → eqb k 20 ≡ p → (q : Bool) → eqb k 21 ≡ q → T (p || q) → f ≡ 0
    go true e q d h = zero_of f (subst (λ (m : ℕ). T (form_ok (row_of m f) f)) (eqb→eq k 20 (is_T _ e)) o)
    go false e true d h = zero_of f (subst (λ (m : ℕ). T (form_ok (row_of m f) f)) (eqb→eq k 21 (is_T _ d)) o)
    go false e false d h = absurd h

leaf-row : T (form_ok (row_of 22 0) 0 && count_ok (row_of 22 0) 0)
unfolding row_of
leaf-row = tt

-- a node whose children are at their places
built : (k f g a : ℕ) (us : Forest) → form_of k f ≡ g → T (form_ok (row_of k g) g && count_ok (row_of k g) (length_f us)) → FitsF (row_of k g) (length_f us) zero us → Fits (node k f a us)
built k f g a us e h o = (subst (λ (m : ℕ). T (form_ok (row_of k m) m && count_ok (row_of k m) (length_f us))) (sym e) h, subst (λ (m : ℕ). FitsF (row_of k m) (length_f us) zero us) (sym e) o)

placed : (p : Place) (x : Raw) (f a : ℕ) (us : Forest) → form_of x.kind f ≡ x.form → length_f us ≡ x.arity → heights us ≤ p.left - 1 → T (ltb 0 p.left) → T (allows p.class x.kind x.arity) → T (form_ok (row_of x.kind x.form) x.form) → T (count_ok (row_of x.kind x.form) x.arity)
    → FitsF (row_of x.kind x.form) x.arity zero us → At p (node x.kind f a us)
placed p x f a us e n l z w u c o =
    let r = row_of x.kind x.form in
    let y = leb→le 1 p.left z in
    record {
      allowed = subst (λ (m : ℕ). T (allows p.class x.kind m)) (sym n) w;
      fits = built x.kind f x.form a us e (both (form_ok r x.form) (count_ok r (length_f us)) u (subst (λ (m : ℕ). T (count_ok r m)) (sym n) c)) (subst (λ (m : ℕ). FitsF r m zero us) (sym n) o);
      low = omega (arith, l, y);
    }

-- a node's core, and its tree
module _ (s : Script) where
  abbrev grown : Core → Forest → Forest
  grown c ts = cons (node c.kind c.form c.num (take_f c.arity ts)) (drop_f c.arity ts)

  core_at : {t : ℕ} (n : ℕ) (p : Place) (x : Raw) (ps : List Place) (ts : Forest) → Tested t p x → Split (p.left - 1) x 0 x.arity ps ts → Filled (p ∷ ps) (grown (core_node s n x) ts)
  unfolding core_node
  core_at n p x ps ts o h = go (is_lit x) refl (has_id x) refl
    where
      plain_form : (q : Bool) → has_id x ≡ q → (f : ℕ) → pick q 0 f ≡ form_of x.kind f
      plain_form q e f = ap (λ (b : Bool). pick b 0 f) (sym e)

      go : (q : Bool) → is_lit x ≡ q → (r : Bool) → has_id x ≡ r
          → Filled (p ∷ ps) (grown (pick q (record { kind = 22; form = 0; arity = 0; num = n }) (pick r (record { kind = x.kind; form = to_nat (is_arguments s x); arity = x.arity; num = place_of x (idents s) }) (record { kind = x.kind; form = x.form; arity = x.arity; num = n }))) ts)
      go true e r d =
          let y = leb→le 1 p.left o.room in
          (record { allowed = lit-place x.kind (is_T _ e) p.class x.arity o.allowed; fits = leaf; low = omega (arith, y) }, subst (λ (m : ℕ). Filled ps (drop_f m ts)) (lit-leaf x.kind (is_T _ e) x.form x.arity o.count) h.rest)
        where
          leaf : Fits (node 22 0 n nil)
          leaf = built 22 0 0 n nil refl leaf-row tt
      go false e true d = (placed p x (to_nat (is_arguments s x)) (place_of x (idents s)) (take_f x.arity ts) (sym (plain_form true d (to_nat (is_arguments s x))) ∙ sym (id-form x.kind x.form (is_T _ d) o.form)) h.len h.low o.room o.allowed o.form o.count h.fits, h.rest)
      go false e false d = (placed p x x.form n (take_f x.arity ts) (sym (plain_form false d x.form)) h.len h.low o.room o.allowed o.form o.count h.fits, h.rest)

  planted : (t n : ℕ) (xs : List Raw) (ps : List Place) → T (fills t ps xs) → Filled ps (plant (core_from s n xs))
  unfolding fills
  planted t n [] [] h = tt
  planted t n (x ∷ xs) [] h = absurd h
  planted t n [] (p ∷ ps) h = absurd h
  planted t n (x ∷ xs) (p ∷ ps) h = go (node_ok t p x) refl h (λ k. planted t (suc n) xs (below (p.left - 1) x 0 x.arity ps) k)
    where
      go : (q : Bool) → node_ok t p x ≡ q → T (elim q [ true ↦ fills t (below (p.left - 1) x 0 x.arity ps) xs | false ↦ false ]) → (T (fills t (below (p.left - 1) x 0 x.arity ps) xs) → Filled (below (p.left - 1) x 0 x.arity ps) (plant (core_from s (suc n) xs))) → Filled (p ∷ ps) (plant (core_node s n x ∷ core_from s (suc n) xs))
      go true e h k = core_at n p x ps (plant (core_from s (suc n) xs)) (tested t p x (is_T _ e)) (parted (p.left - 1) x 0 x.arity ps (plant (core_from s (suc n) xs)) (k h))
      go false e h k = absurd h

-- as many nodes as the list has
parts : (n : ℕ) (ts : Forest) → counts (take_f n ts) + counts (drop_f n ts) ≡ counts ts
parts zero ts = omega arith
parts (suc n) nil = refl
parts (suc n) (cons t ts) = omega (arith, parts n ts)

planted-count : (cs : List Core) → counts (plant cs) ≡ length cs
planted-count [] = refl
planted-count (c ∷ cs) = omega (arith, parts c.arity (plant cs), planted-count cs)

core-count : (s : Script) (n : ℕ) (xs : List Raw) → length (core_from s n xs) ≡ length xs
core-count s n [] = refl
core-count s n (x ∷ xs) = ap suc (core-count s (suc n) xs)

-- a file that is read; one that is not, by which rows
pub record ReadOk (s : Script) : Type 0 where
  pub few : length s.nodes ≤ 1024
  pub shape : T (nodes_ok s)
  pub names : T (leb (length (idents s)) 256)

abbrev pub ReadsOk : Read → Type 0
ReadsOk (bad n) = (2 ≤ n) × (n ≤ 7)
ReadsOk (script s) = ReadOk s

test : (b : Bool) (n : ℕ) (x : Read) → (2 ≤ n) × (n ≤ 7) → (T b → ReadsOk x) → ReadsOk (elim b [ false ↦ bad n | true ↦ x ])
test true n x l h = h tt
test false n x l h = l

pub read_ok : (bs : List ℕ) → ReadsOk (read bs)
unfolding read
read_ok bs =
    let n = u32 bs 8 in
    let t = u32 bs 16 in
    let b = u32 bs 28 in
    let ends = ends_from t (drop (32 + 16 * n) bs) in
    let texts = texts_from 0 ends (drop (32 + 16 * n + 4 * t) bs) in
    let s : Script = record { nodes = nodes_from n (drop 32 bs); texts = texts } in
    test (leb 32 (length bs) && eqb (u32 bs 0) 1) 2 _ (omega arith, omega arith) (λ h₂.
    test (leb 1 n && leb n 1024 && leb t 256 && leb b 4096) 3 _ (omega arith, omega arith) (λ h₃.
    test (eqb (u32 bs 4) (length bs) && eqb (u32 bs 12) 32 && eqb (u32 bs 20) (32 + 16 * n) && eqb (u32 bs 24) (32 + 16 * n + 4 * t) && eqb (u32 bs 4) (32 + 16 * n + 4 * t + b)) 4 _ (omega arith, omega arith) (λ h₄.
    test (rising 0 ends b && distinct texts) 5 (checked s) (omega arith, omega arith) (λ h₅.
    test (nodes_ok s) 6 _ (omega arith, omega arith) (λ h₆. test (leb (length (idents s)) 256) 7 (script s) (omega arith, omega arith) (λ h₇.
    record { few = few n (drop 32 bs) (and_right (leb 1 n) (leb n 1024) (and_left (leb 1 n && leb n 1024) (leb t 256) (and_left (leb 1 n && leb n 1024 && leb t 256) (leb b 4096) h₃))); shape = h₆; names = h₇ }))))))
  where
    few : (n : ℕ) (bs : List ℕ) → T (leb n 1024) → length (nodes_from n bs) ≤ 1024
    few n bs h = subst (λ (m : ℕ). m ≤ 1024) (sym (nodes-length n bs)) (leb→le n 1024 h)

-- and its tree
pub record Whole (s : Script) : Type 0 where
  pub tree : Tree
  pub is : core_tree s ≡ some tree
  pub alone : plant (core_nodes s) ≡ cons tree nil
  pub readable : Readable tree

pub whole : (s : Script) → ReadOk s → Whole s
unfolding nodes_ok core_nodes
whole s o = go (plant (core_nodes s)) refl (planted s (length s.texts) 1 s.nodes (record { class = Root; left = 200 } ∷ []) o.shape) (planted-count (core_nodes s) ∙ core-count s 1 s.nodes)
  where
    go : (ts : Forest) → plant (core_nodes s) ≡ ts → Filled (record { class = Root; left = 200 } ∷ []) ts → counts ts ≡ length s.nodes → Whole s
    go nil e h c = absurd h
    go (cons t nil) e h c = (let l = o.few in record { tree = t; is = ap head_t e; alone = e; readable = record { root = h.0.allowed; fits = h.0.fits; small = (h.0.low, omega (arith, c, l)) } })
    go (cons t (cons u us)) e h c = absurd h.1

-- a leaf's children
leafy : (k f : ℕ) → T (eqb k 20 || eqb k 21 || eqb k 22) → (n : ℕ) → T (form_ok (row_at k f) (form_of k f) && count_ok (row_at k f) n) → n ≡ 0
unfolding row_of
leafy k f h n o = go (eqb k 20) refl (eqb k 21) refl (eqb k 22) refl h
  where
    on : (j : ℕ) → T (eqb k j) → T (form_ok (row_at j f) (form_of j f) && count_ok (row_at j f) n)
    on j e = subst (λ (m : ℕ). T (form_ok (row_at m f) (form_of m f) && count_ok (row_at m f) n)) (eqb→eq k j e) o

    go : (p : Bool) → eqb k 20 ≡ p → (q : Bool) → eqb k 21 ≡ q → (r : Bool) → eqb k 22 ≡ r → T (p || q || r) → n ≡ 0
    go true e q d r c h = zero_of n (and_right (form_ok (row_at 20 f) (form_of 20 f)) (count_ok (row_at 20 f) n) (on 20 (is_T _ e)))
    go false e true d r c h = zero_of n (and_right (form_ok (row_at 21 f) (form_of 21 f)) (count_ok (row_at 21 f) n) (on 21 (is_T _ d)))
    go false e false d true c h = zero_of n (and_right (form_ok (row_at 22 f) (form_of 22 f)) (count_ok (row_at 22 f) n) (on 22 (is_T _ c)))
    go false e false d false c h = absurd h

module _ (asked : ℕ → Bool) where
  empty : (ts : Forest) → length_f ts ≡ 0 → assigns_f asked ts ≡ []
  empty nil e = refl
  empty (cons t ts) e = absurd (omega (arith, e))

  -- an initialiser is an expression
  values : (k f a : ℕ) (ts : Forest) → Fits (node k f a ts) → T (eqb k 6) → Expressions (tail_f ts)
  values k f a nil o x = tt
  values k f a (cons n es) o x = init-value f a n es (subst (λ (m : ℕ). Fits (node m f a (cons n es))) (eqb→eq k 6 x) o)

  mutual
    outside : (t : Tree) → Fits t → NoInit asked t → Outside asked t
    outside (node k f a ts) o h = (record { inits = h.0; values = values k f a ts o; leaves = λ x. empty ts (leafy k f x (length_f ts) o.0); ends = λ x. body_ok k f a ts x o }, outsides (row_at k f) (length_f ts) zero ts o.1 h.1)

    outsides : (r : Row) (n i : ℕ) (ts : Forest) → FitsF r n i ts → NoInitF asked ts → OutsideF asked ts
    outsides r n i nil o h = tt
    outsides r n i (cons t ts) o h = (outside t o.1 h.0, outsides r n (suc i) ts o.2 h.1)

-- one `=` of an origin
empties : (xs : List Assign) → length xs ≡ 0 → xs ≡ []
empties [] e = refl
empties (x ∷ xs) e = absurd (omega (arith, e))

module _ (asked : ℕ → Bool) where
  mutual
    no-init : (t : Tree) → assigns asked t ≡ [] → NoInit asked t
    no-init (node k f a ts) e = (let d = none_right (own_assign asked k f a (head_t ts)) (assigns_f asked ts) e in (λ x. no-tail ts d, no-inits ts d))

    no-inits : (ts : Forest) → assigns_f asked ts ≡ [] → NoInitF asked ts
    no-inits nil e = tt
    no-inits (cons t ts) e = (no-init t (none_left (assigns asked t) (assigns_f asked ts) e), no-inits ts (none_right (assigns asked t) (assigns_f asked ts) e))

    no-tail : (ts : Forest) → assigns_f asked ts ≡ [] → assigns_f asked (tail_f ts) ≡ []
    no-tail nil e = refl
    no-tail (cons t ts) e = none_right (assigns asked t) (assigns_f asked ts) e

  -- how many
  sizes : (t : Tree) (ts : Forest) → length (assigns_f asked (cons t ts)) ≡ length (assigns asked t) + length (assigns_f asked ts)
  sizes t ts = length-append (assigns asked t) (assigns_f asked ts)

  node-size : (k f a : ℕ) (ts : Forest) → length (assigns asked (node k f a ts)) ≡ length (own_assign asked k f a (head_t ts)) + length (assigns_f asked ts)
  node-size k f a ts = length-append (own_assign asked k f a (head_t ts)) (assigns_f asked ts)

module _ (o : ℕ) (l : Option Tree) where
  abbrev asked : ℕ → Bool
  asked = λ a. eqb a o

  own-one : (k f a : ℕ) (ts : Forest) → T (eqb k 33 && eqb f 0) → a ≡ o → head_t ts ≡ l → own_assign asked k f a (head_t ts) ≡ (o, target_o l) ∷ []
  own-one k f a ts h e d = rw (is_true (eqb k 33 && eqb f 0 && eqb a o) (both (eqb k 33 && eqb f 0) (eqb a o) h (subst (λ (m : ℕ). T (eqb a m)) e (eqb_refl a))), e, d) refl

  mutual
    some-here : (t : Tree) → Stands o l t → 1 ≤ length (assigns asked t)
    some-here (node k f a ts) (inl h) = (let e = ap length (own-one k f a ts h.0 h.1 h.2) in omega (arith, e, node-size asked k f a ts))
    some-here (node k f a ts) (inr h) = (let e = some_in (eqb k 6) ts h in omega (arith, e, node-size asked k f a ts))

    some_in : (d : Bool) (ts : Forest) → StandsIn o l d ts → 1 ≤ length (assigns_f asked ts)
    some_in d nil h = absurd h
    some_in true (cons t ts) h = (let e = some-here t h in omega (arith, e, sizes asked t ts))
    some_in false (cons t ts) (inl h) = (let e = some-here t h in omega (arith, e, sizes asked t ts))
    some_in false (cons t ts) (inr h) = (let e = some_in false ts h in omega (arith, e, sizes asked t ts))

  record One (t : Tree) : Type 0 where
    is : assigns asked t ≡ (o, target_o l) ∷ []
    inits : NoInit asked t

  record OneIn (d : Bool) (ts : Forest) : Type 0 where
    is : assigns_f asked ts ≡ (o, target_o l) ∷ []
    inits : NoInitF asked ts
    tail : T d → assigns_f asked (tail_f ts) ≡ []

  mutual
    one : (t : Tree) → Stands o l t → length (assigns asked t) ≤ 1 → One t
    one (node k f a ts) (inl h) n =
        let e = own-one k f a ts h.0 h.1 h.2 in
        let e₁ = ap length e in
        let z = empties (assigns_f asked ts) (omega (arith, n, e₁, node-size asked k f a ts)) in
        record { is = rw (e, z) refl; inits = (λ x. no-tail asked ts z, no-inits asked ts z) }
    one (node k f a ts) (inr h) n =
        let e = some_in (eqb k 6) ts h in
        let z = empties (own_assign asked k f a (head_t ts)) (omega (arith, n, e, node-size asked k f a ts)) in
        let r = one_in (eqb k 6) ts h (omega (arith, n, node-size asked k f a ts)) in
        record { is = rw (z, r.is) refl; inits = (r.tail, r.inits) }

    one_in : (d : Bool) (ts : Forest) → StandsIn o l d ts → length (assigns_f asked ts) ≤ 1 → OneIn d ts
    one_in d nil h n = absurd h
    one_in true (cons t ts) h n =
        let e = some-here t h in
        let z = empties (assigns_f asked ts) (omega (arith, n, e, sizes asked t ts)) in
        let r = one t h (omega (arith, n, sizes asked t ts)) in
        record { is = rw (r.is, z) refl; inits = (r.inits, no-inits asked ts z); tail = λ x. z }
    one_in false (cons t ts) (inl h) n =
        let e = some-here t h in
        let z = empties (assigns_f asked ts) (omega (arith, n, e, sizes asked t ts)) in
        let r = one t h (omega (arith, n, sizes asked t ts)) in
        record { is = rw (r.is, z) refl; inits = (r.inits, no-inits asked ts z); tail = λ x. absurd x }
    one_in false (cons t ts) (inr h) n =
        let e = some_in false ts h in
        let z = empties (assigns asked t) (omega (arith, n, e, sizes asked t ts)) in
        let r = one_in false ts h (omega (arith, n, sizes asked t ts)) in
        record { is = rw (z, r.is) refl; inits = (no-init asked t z, r.inits); tail = λ x. absurd x }

-- in the nodes of a file an origin stands once
module _ (o : ℕ) where
  abbrev hit : Core → ℕ
  hit c = to_nat (eqb c.kind 33 && eqb c.form 0 && eqb c.num o)

  abbrev hits : List Core → ℕ
  hits [] = 0
  hits (c ∷ cs) = hit c + hits cs

  abbrev size : Forest → ℕ
  size ts = length (assigns_f (λ a. eqb a o) ts)

  shared : (n : ℕ) (ts : Forest) → size (take_f n ts) + size (drop_f n ts) ≡ size ts
  shared zero ts = omega arith
  shared (suc n) nil = refl
  shared (suc n) (cons t ts) = omega (arith, shared n ts, sizes (λ a. eqb a o) t (take_f n ts), sizes (λ a. eqb a o) t ts)

  own-size : (b : Bool) (x : Assign) → length (listed b x) ≡ to_nat b
  own-size true x = refl
  own-size false x = refl

  planted-size : (cs : List Core) → size (plant cs) ≡ hits cs
  planted-size [] = refl
  planted-size (c ∷ cs) =
      let ts = plant cs in
      let us = take_f c.arity ts in
      let e₁ = sizes (λ a. eqb a o) (node c.kind c.form c.num us) (drop_f c.arity ts) in
      let e₂ = node-size (λ a. eqb a o) c.kind c.form c.num us in
      let e₃ = own-size (eqb c.kind 33 && eqb c.form 0 && eqb c.num o) (c.num, target_o (head_t us)) in
      omega (arith, e₁, e₂, e₃, shared c.arity ts, planted-size cs)

  -- a node hits at its own number alone
  hit-at : (s : Script) (n : ℕ) (x : Raw) → (n ≡ o → ⊥) → hit (core_node s n x) ≡ 0
  unfolding core_node
  hit-at s n x h = go (is_lit x) (has_id x) refl
    where
      miss : (a b : Bool) → to_nat (a && b && eqb n o) ≡ 0
      miss a b = rw (ne_eqb n o h) (last (a && b))
        where
          last : (c : Bool) → to_nat (c && false) ≡ 0
          last true = refl
          last false = refl

      other : (k : ℕ) → T (eqb k 20 || eqb k 21) → (b c : Bool) → to_nat (eqb k 33 && b && c) ≡ 0
      other k h b c = by (eqb k 33) refl
        where
          by : (p : Bool) → eqb k 33 ≡ p → to_nat (p && b && c) ≡ 0
          by true e = absurd (at-kind (λ m. eqb m 20 || eqb m 21) k 33 (is_T _ e) h)
          by false e = refl

      go : (q r : Bool) → has_id x ≡ r → hit (pick q (record { kind = 22; form = 0; arity = 0; num = n }) (pick r (record { kind = x.kind; form = to_nat (is_arguments s x); arity = x.arity; num = place_of x (idents s) }) (record { kind = x.kind; form = x.form; arity = x.arity; num = n }))) ≡ 0
      go true r d = refl
      go false true d = other x.kind (is_T _ d) (eqb (to_nat (is_arguments s x)) 0) (eqb (place_of x (idents s)) o)
      go false false d = miss (eqb x.kind 33) (eqb x.form 0)

  hit-one : (c : Core) → hit c ≤ 1
  hit-one c = go (eqb c.kind 33 && eqb c.form 0 && eqb c.num o)
    where
      go : (b : Bool) → to_nat b ≤ 1
      go true = omega arith
      go false = omega arith

  past : (s : Script) (n : ℕ) (xs : List Raw) → o < n → hits (core_from s n xs) ≡ 0
  past s n [] h = refl
  past s n (x ∷ xs) h = omega (arith, hit-at s n x (λ e. omega (arith, e, h)), past s (suc n) xs (omega (arith, h)))

  hits-once : (s : Script) (n : ℕ) (xs : List Raw) → hits (core_from s n xs) ≤ 1
  hits-once s n [] = omega arith
  hits-once s n (x ∷ xs) = go (eqb n o) refl (hits-once s (suc n) xs)
    where
      go : (p : Bool) → eqb n o ≡ p → hits (core_from s (suc n) xs) ≤ 1 → hit (core_node s n x) + hits (core_from s (suc n) xs) ≤ 1
      go true e k = (let q = eqb→eq n o (is_T _ e) in omega (arith, hit-one (core_node s n x), past s (suc n) xs (omega (arith, q))))
      go false e k = omega (arith, hit-at s n x (eqb-false n o e), k)

pub file-trees : FileTrees
unfolding pass core_nodes
file-trees n bs = go (read bs) (read_ok bs)
  where
    single : (o : ℕ) (s : Script) (w : Whole s) → length (assigns (λ a. eqb a o) w.tree) ≤ 1
    single o s w =
        let e₁ = ap (size o) w.alone in
        let e₂ = sizes (λ a. eqb a o) w.tree nil in
        omega (arith, e₁, e₂, planted-size o (core_nodes s), hits-once o s 1 s.nodes)

    out : (s : Script) (w : Whole s) (x : Walk.Outcome) → Walk.core_pass n w.tree ≡ x → ReadableOut x → ((asked : ℕ → Bool) → NoInit asked w.tree → KeptOut asked w.tree x) → TreesIn n s (answer s x)
    out s w (Walk.refused r) e h k = tt
    out s w (Walk.result m c u ms) e h k = record { before = w.tree; after = u; roots = ms; is = w.is; passed = e; nodes = refl; readable = w.readable; again = h; assigned = k; once = λ o l h. (let r = one o l w.tree h (single o s w) in k (λ a. eqb a o) r.inits ∙ r.is) }

    by : (s : Script) → Whole s → TreesIn n s (answer s (pass_tree n (core_tree s)))
    by s w = subst (λ (x : Option Tree). TreesIn n s (answer s (pass_tree n x))) (sym w.is) (out s w (Walk.core_pass n w.tree) refl (result-readable n w.tree w.readable) (λ asked h. assigns-kept asked n w.tree (outside asked w.tree w.readable.fits h)))

    go : (r : Read) → ReadsOk r → TreesOf n r
    go (bad r) o = tt
    go (script s) o = by s (whole s o)
