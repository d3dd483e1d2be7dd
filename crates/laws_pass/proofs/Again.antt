-- The result's nodes fill the places of a file again, and it has no more identifiers than its script: rows 6 and 7 let it through. Assumes nothing.
use mathlib.Core.Path.{◌≡◌, refl, sym, ap, ◌∙◌, subst}
use mathlib.Core.Bool.{Bool, true, false, ◌&&◌, ◌||◌, not}
use mathlib.Core.Option.{Option}
use mathlib.Core.List.{List, [], ◌∷◌, ◌++◌, map}
use Prim.Native.Nat.{ℕ, zero, suc, ◌+◌, ◌-◌, ◌≤◌, ◌<◌}
use native.Mathlib.Omega.{arith}
use lib.Dec.{T, eqb, ltb, leb, eqb→eq, leb→le, le→leb}
use lib.ListN.{length, get_or}
use Rattle.def_tree.specs.Base.{pick, to_nat}
use Rattle.def_tree.specs.Tree.{Core, core, length_f, take_f, drop_f, plant, flat, flats}
use Rattle.def_file.specs.declared.Raw.{Raw}
use Rattle.def_file.specs.declared.kinds.Class.{Class}
use Rattle.def_file.specs.declared.kinds.Class.TheVariants.{Root, Statement, Expression, Binding, Name, Target, Block, Declarator, Catch, Case, Property, PatternProperty, Updated, Assigned, Destructured, Start, Head}
use Rattle.def_file.specs.Kinds.{allows, row_of, form_ok, count_ok, child_of, uses_text, uses_bits}
use Rattle.def_file.specs.Script.{Script, is_lit, has_id, known, enter, enter_all, idents, is_arguments, place_of, zero_node, node_at}
use Rattle.def_file.specs.Read.{Place, fields_ok, node_ok, below, fills, nodes_ok, Read, bad, script, checked, read}
use Rattle.def_file.specs.Core.{has_text, core_node, core_from, core_nodes, Out, ident_at, back}
use Rattle.def_pass.specs.Tree.{Tree, Forest, node, nil, cons, heights, kids}
use Rattle.laws_pass.specs.Readable.{form_of, row_at, FitsF, Readable}
use Rattle.def_file.proofs.Tested.{tested, all-tests, lit-kind, lit-leaf}
use Rattle.def_tree.proofs.Tests.{is_T, is_true, and_left, and_right, both}
use Rattle.laws_pass.proofs.All.{All, all_append, get_d-all, get_d-in}
use Rattle.laws_pass.proofs.Keep as Keep
use Rattle.laws_pass.specs.Again.{raws_of, outcome, RefillsIn, RefillsOf, ResultFills}
use Rattle.laws_pass.specs.Readable.{ReadableOut}
use Rattle.def_pass.specs.Twice.{unflagged, twice}
use Rattle.def_pass.specs.Walk as Walk
use Rattle.def_pass.specs.Script.{core_tree, pass_tree, pass, answer}
use Rattle.laws_pass.proofs.Readable.{result-readable}
use Rattle.laws_pass.proofs.Origin.{Named, NamedT, NamedF, NamedC, NamedOut, out-named, flat-named}
use Rattle.laws_pass.proofs.Names.{names-few}
use Rattle.laws_pass.proofs.FromFile.{At, lit-place, ReadOk, ReadsOk, read_ok, Whole, whole}

-- a node of a file, its place aside
pub record Fine (t : ℕ) (x : Raw) : Type 0 where
  pub fields : T (fields_ok t x)
  pub form : T (form_ok (row_of x.kind x.form) x.form)
  pub count : T (count_ok (row_of x.kind x.form) x.arity)

fine : (t : ℕ) (p : Place) (x : Raw) → T (node_ok t p x) → Fine t x
fine t p x h = let i = tested t p x h in record { fields = i.fields; form = i.form; count = i.count }

pub all-fine : (t : ℕ) (xs : List Raw) (ps : List Place) → T (fills t ps xs) → All (Fine t) xs
unfolding fills
all-fine t [] ps h = tt
all-fine t (x ∷ xs) [] h = absurd h
all-fine t (x ∷ xs) (p ∷ ps) h = go (node_ok t p x) refl h (λ k. all-fine t xs (below (p.left - 1) x 0 x.arity ps) k)
  where
    go : (q : Bool) → node_ok t p x ≡ q → T (elim q [ true ↦ fills t (below (p.left - 1) x 0 x.arity ps) xs | false ↦ false ]) → (T (fills t (below (p.left - 1) x 0 x.arity ps) xs) → All (Fine t) xs) → All (Fine t) (x ∷ xs)
    go true e h k = (fine t p x (is_T _ e), k h)
    go false e h k = absurd h

zero-fine : (t : ℕ) → Fine t zero_node
unfolding row_of
zero-fine t = record { fields = tt; form = tt; count = tt }

-- the text of a node that uses it
abbrev pub Texted : ℕ → Raw → Type 0
Texted t x = T (ltb x.text t)

pub texted : (t : ℕ) (x : Raw) → T (uses_text x.kind) → T (fields_ok t x) → Texted t x
texted t x u h = go (uses_text x.kind) (uses_bits x.kind || eqb x.bits 0) u h
  where
    go : (p q : Bool) → T p → T (pick p (ltb x.text t) (eqb x.text 0) && q) → Texted t x
    go true q u h = and_left (ltb x.text t) q h
    go false q u h = absurd u

pub id-text : (k : ℕ) → T (eqb k 20 || eqb k 21) → T (uses_text k)
id-text k h = go (eqb k 20) (eqb k 21) h
  where
    go : (p q : Bool) → T (p || q) → T (p || q || eqb k 25 || eqb k 29 || eqb k 37 || eqb k 47)
    go true q h = tt
    go false true h = tt
    go false false h = absurd h

enter-texted : (t : ℕ) (ids : List Raw) (x : Raw) → Fine t x → All (Texted t) ids → All (Texted t) (enter ids x)
enter-texted t ids x f h = go (has_id x) refl (known x ids)
  where
    go : (p : Bool) → has_id x ≡ p → (q : Bool) → All (Texted t) (pick (p && not q) (ids ++ (x ∷ [])) ids)
    go true e false = all_append (Texted t) ids x h (texted t x (id-text x.kind (is_T _ e)) f.fields)
    go true e true = h
    go false e q = h

all-texted : (t : ℕ) (ids xs : List Raw) → All (Fine t) xs → All (Texted t) ids → All (Texted t) (enter_all ids xs)
unfolding enter_all
all-texted t ids [] f h = h
all-texted t ids (x ∷ xs) f h = all-texted t (enter ids x) xs f.1 (enter-texted t ids x f.0 h)

-- any literal where a literal stood
abbrev Back4 : Class → Type 0
Back4 c = (m : ℕ) → (T (allows c 22 0) → T (allows c 22 m)) × (T (allows c 22 0) → T (allows c 23 m)) × (T (allows c 22 0) → T (allows c 24 m)) × (T (allows c 22 0) → T (allows c 25 m))

back4 : (c : Class) → Back4 c
back4 Root m = (λ h. h, λ h. h, λ h. h, λ h. h)
back4 Statement m = (λ h. h, λ h. h, λ h. h, λ h. h)
back4 Expression m = (λ h. h, λ h. h, λ h. h, λ h. h)
back4 Binding m = (λ h. h, λ h. h, λ h. h, λ h. h)
back4 Name m = (λ h. h, λ h. h, λ h. h, λ h. h)
back4 Target m = (λ h. h, λ h. h, λ h. h, λ h. h)
back4 Block m = (λ h. h, λ h. h, λ h. h, λ h. h)
back4 Declarator m = (λ h. h, λ h. h, λ h. h, λ h. h)
back4 Catch m = (λ h. h, λ h. h, λ h. h, λ h. h)
back4 Case m = (λ h. h, λ h. h, λ h. h, λ h. h)
back4 Property m = (λ h. h, λ h. h, λ h. h, λ h. h)
back4 PatternProperty m = (λ h. h, λ h. h, λ h. h, λ h. h)
back4 Updated m = (λ h. h, λ h. h, λ h. h, λ h. h)
back4 Assigned m = (λ h. h, λ h. h, λ h. h, λ h. h)
back4 Destructured m = (λ h. h, λ h. h, λ h. h, λ h. h)
back4 Start m = (λ h. h, λ h. h, λ h. h, λ h. h)
back4 Head m = (λ h. h, λ h. h, λ h. h, λ h. h)

lit-back : (k : ℕ) → T (leb 22 k && leb k 25) → (c : Class) (m : ℕ) → T (allows c 22 0) → T (allows c k m)
lit-back k h = lit-kind k h (λ n. (c : Class) (m : ℕ) → T (allows c 22 0) → T (allows c n m)) (λ c m. (back4 c m).0) (λ c m. (back4 c m).1) (λ c m. (back4 c m).2) (λ c m. (back4 c m).3)

-- the text of a property, a member or a pattern's property is that of a node that has one
pub record Worded (s : Script) (k f a : ℕ) : Type 0 where
  pub word : T (has_text k) → T (uses_text (node_at s a).kind)

pub worded-ident : (s : Script) (f a : ℕ) → Worded s 20 f a → Worded s 21 (unflagged f) a
worded-ident s f a h = record { word = λ t. absurd t }

pub worded-void : (s : Script) → Worded s 30 0 0
worded-void s = record { word = λ t. absurd t }

pub worded-zero : (s : Script) → Worded s 22 0 0
worded-zero s = record { word = λ t. absurd t }

abbrev pub WordedT : Script → Tree → Type 0
WordedT s t = Keep.OkT (Worded s) (worded-ident s) (worded-void s) (worded-zero s) t

abbrev pub WordedF : Script → Forest → Type 0
WordedF s ts = Keep.OkF (Worded s) (worded-ident s) (worded-void s) (worded-zero s) ts

abbrev pub WordedC : Script → Core → Type 0
WordedC s c = Worded s c.kind c.form c.num

abbrev pub WordedOut : Script → Walk.Outcome → Type 0
WordedOut s x = Keep.OkOut (Worded s) (worded-ident s) (worded-void s) (worded-zero s) x

text-used : (k : ℕ) → T (has_text k) → T (uses_text k)
text-used k h = go (eqb k 20) (eqb k 21) (eqb k 25) (eqb k 29) (eqb k 37) (eqb k 47) h
  where
    go : (a b c d e f : Bool) → T (d || e || f) → T (a || b || c || d || e || f)
    go true b c d e f h = tt
    go false true c d e f h = tt
    go false false true d e f h = tt
    go false false false d e f h = h

core-worded : (s : Script) (n : ℕ) (x : Raw) → node_at s n ≡ x → WordedC s (core_node s n x)
unfolding core_node
core-worded s n x e = go (is_lit x) (has_id x) refl
  where
    go : (q r : Bool) → has_id x ≡ r → WordedC s (pick q (record { kind = 22; form = 0; arity = 0; num = n }) (pick r (record { kind = x.kind; form = to_nat (is_arguments s x); arity = x.arity; num = place_of x (idents s) }) (record { kind = x.kind; form = x.form; arity = x.arity; num = n })))
    go true r d = record { word = λ t. absurd t }
    go false true d = record { word = λ t. absurd (no x.kind (is_T _ d) t) }
      where
        no : (k : ℕ) → T (eqb k 20 || eqb k 21) → T (has_text k) → ⊥
        no k h t = by (eqb k 20) refl (eqb k 21) refl h
          where
            by : (p : Bool) → eqb k 20 ≡ p → (q : Bool) → eqb k 21 ≡ q → T (p || q) → ⊥
            by true e q d h = subst (λ (m : ℕ). T (has_text m)) (eqb→eq k 20 (is_T _ e)) t
            by false e true d h = subst (λ (m : ℕ). T (has_text m)) (eqb→eq k 21 (is_T _ d)) t
            by false e false d h = h
    go false false d = record { word = λ t. subst (λ (y : Raw). T (uses_text y.kind)) (sym e) (text-used x.kind t) }

all-worded : (s : Script) (n : ℕ) (xs : List Raw) → ((i : ℕ) → node_at s (i + n) ≡ get_or xs i zero_node) → All (WordedC s) (core_from s n xs)
all-worded s n [] h = tt
all-worded s n (x ∷ xs) h = (
  (let e : n ≡ 0 + n = omega arith in core-worded s n x (ap (node_at s) e ∙ h 0)),
  all-worded s (suc n) xs (λ i. (let e : i + suc n ≡ suc i + n = omega arith in ap (node_at s) e ∙ h (suc i))),
)

module _ (s : Script) where
  take-worded : (n : ℕ) (ts : Forest) → WordedF s ts → WordedF s (take_f n ts)
  take-worded zero ts h = tt
  take-worded (suc n) nil h = tt
  take-worded (suc n) (cons t ts) h = (h.0, take-worded n ts h.1)

  drop-worded : (n : ℕ) (ts : Forest) → WordedF s ts → WordedF s (drop_f n ts)
  drop-worded zero ts h = h
  drop-worded (suc n) nil h = tt
  drop-worded (suc n) (cons t ts) h = drop-worded n ts h.1

  plant-worded : (cs : List Core) → All (WordedC s) cs → WordedF s (plant cs)
  plant-worded [] h = tt
  plant-worded (c ∷ cs) h = ((h.0, take-worded c.arity (plant cs) (plant-worded cs h.1)), drop-worded c.arity (plant cs) (plant-worded cs h.1))

  nodes-worded : WordedF s (plant (core_nodes s))
  unfolding core_nodes
  nodes-worded = plant-worded (core_nodes s) (all-worded s 1 s.nodes (λ i. (let e : i + 1 ≡ suc i = omega arith in ap (node_at s) e)))

  -- a node put back
  module _ (ok : All (Fine (length s.texts)) s.nodes) where
    abbrev n : ℕ
    n = length s.texts

    at-fine : (a : ℕ) → Fine n (node_at s a)
    at-fine a = get_d-all (Fine n) (zero_node ∷ s.nodes) a zero_node (zero-fine n, ok) (zero-fine n)

    ident-texted : (i : ℕ) → i < length (idents s) → Texted n (ident_at s i)
    unfolding idents
    ident-texted i l = get_d-in (Texted n) (idents s) i zero_node (all-texted n [] s.nodes ok tt) l

    ok5 : (p : Place) (x : Raw) → T (ltb 0 p.left) → T (allows p.class x.kind x.arity) → Fine n x → T (node_ok n p x)
    ok5 p x a b h = all-tests n p x (record { room = a; allowed = b; fields = h.fields; form = h.form; count = h.count })

    put : (p : Place) (ps : List Place) (x : Raw) (xs : List Raw) → T (node_ok n p x) → T (fills n (below (p.left - 1) x 0 x.arity ps) xs) → T (fills n (p ∷ ps) (x ∷ xs))
    unfolding fills
    put p ps x xs h k = subst (λ (q : Bool). T (elim q [ true ↦ fills n (below (p.left - 1) x 0 x.arity ps) xs | false ↦ false ])) (sym (is_true (node_ok n p x) h)) k

    room : (p : Place) (k f a : ℕ) (ts : Forest) → At p (node k f a ts) → T (ltb 0 p.left)
    room p k f a ts h = (let l = h.low in le→leb 1 p.left (omega (arith, l)))

    -- what the file's node of a tree's own node is
    made : (p : Place) (ps : List Place) (k f a : ℕ) (ts : Forest) (rest : List Raw) (xs : List Raw) → At p (node k f a ts) → Named s k f a → Worded s k f a → (length_f ts ≡ 0 → T (fills n ps xs))
        → ((x : Raw) → x.arity ≡ length_f ts → FitsF (row_of x.kind x.form) x.arity 0 ts → T (fills n (below (p.left - 1) x 0 x.arity ps) xs)) → T (fills n (p ∷ ps) ((back s (core k f (length_f ts) a)).raw ∷ xs))
    unfolding back below
    made p ps k f a ts rest xs h nm wd leaf below' = go (leb 22 k && leb k 25) refl (eqb k 20 || eqb k 21) refl
      where
        c : Core
        c = core k f (length_f ts) a

        id_raw : Raw
        id_raw = record { kind = k; form = 0; arity = length_f ts; text = (ident_at s a).text; bits = (ident_at s a).bits }

        plain_raw : Raw
        plain_raw = record { kind = k; form = f; arity = length_f ts; text = pick (has_text k) (node_at s a).text 0; bits = 0 }

        form-at : (g : ℕ) → form_of k f ≡ g → T (form_ok (row_of k g) g && count_ok (row_of k g) (length_f ts))
        form-at g e = subst (λ (m : ℕ). T (form_ok (row_of k m) m && count_ok (row_of k m) (length_f ts))) e h.fits.0

        fits-at : (g : ℕ) → form_of k f ≡ g → FitsF (row_of k g) (length_f ts) zero ts
        fits-at g e = subst (λ (m : ℕ). FitsF (row_of k m) (length_f ts) zero ts) e h.fits.1

        lit : T (leb 22 k && leb k 25) → T (fills n (p ∷ ps) (node_at s a ∷ xs))
        lit l =
            let x = node_at s a in
            let y = nm.lit l in
            let z = lit-leaf k l (form_of k f) (length_f ts) (and_right (form_ok (row_at k f) (form_of k f)) (count_ok (row_at k f) (length_f ts)) h.fits.0) in
            let w = lit-leaf x.kind y x.form x.arity (at-fine a).count in
            put p ps x xs (ok5 p x (room p k f a ts h) (lit-back x.kind y p.class x.arity (lit-place k l p.class (length_f ts) h.allowed)) (at-fine a)) (subst (λ (m : ℕ). T (fills n (below (p.left - 1) x 0 m ps) xs)) (sym w) (leaf z))

        id-fields : T (eqb k 20 || eqb k 21) → T (fields_ok n id_raw)
        id-fields i = by (eqb k 20) (eqb k 21) i (ident-texted a (nm.ident i))
          where
            by : (u v : Bool) → T (u || v) → Texted n (ident_at s a) → T (pick (u || v || eqb k 25 || eqb k 29 || eqb k 37 || eqb k 47) (ltb (ident_at s a).text n) (eqb (ident_at s a).text 0) && (u || v || eqb k 24 || eqb (ident_at s a).bits 0))
            by true v i t = both (ltb (ident_at s a).text n) true t tt
            by false true i t = both (ltb (ident_at s a).text n) true t tt
            by false false i t = absurd i

        ident : T (eqb k 20 || eqb k 21) → (e : (eqb k 20 || eqb k 21) ≡ true) → T (fills n (p ∷ ps) (id_raw ∷ xs))
        ident i e =
            let d : form_of k f ≡ 0 = ap (λ (b : Bool). pick b 0 f) e in
            let g = form-at 0 d in
            put p ps id_raw xs (ok5 p id_raw (room p k f a ts h) h.allowed (record { fields = id-fields i; form = and_left (form_ok (row_of k 0) 0) (count_ok (row_of k 0) (length_f ts)) g; count = and_right (form_ok (row_of k 0) 0) (count_ok (row_of k 0) (length_f ts)) g })) (below' id_raw refl (fits-at 0 d))

        plain-fields : (eqb k 20 || eqb k 21) ≡ false → (leb 22 k && leb k 25) ≡ false → T (fields_ok n plain_raw)
        plain-fields e d = by (has_text k) refl
          where
            -- of the kinds with a text, 29, 37 and 47 are left
            rest-text : uses_text k ≡ has_text k
            rest-text = three (eqb k 20 || eqb k 21) e (eqb k 25) refl (eqb k 29) (eqb k 37) (eqb k 47)
              where
                three : (u : Bool) → u ≡ false → (v : Bool) → eqb k 25 ≡ v → (x y z : Bool) → (u || v || x || y || z) ≡ (x || y || z)
                three true q v r x y z = absurd (subst T q tt)
                three false q true r x y z = absurd (subst T (subst (λ (m : ℕ). (leb 22 m && leb m 25) ≡ false) (eqb→eq k 25 (is_T _ r)) d) tt)
                three false q false r x y z = refl

            by : (u : Bool) → has_text k ≡ u → T (pick (uses_text k) (ltb (pick (has_text k) (node_at s a).text 0) n) (eqb (pick (has_text k) (node_at s a).text 0) 0) && (uses_bits k || true))
            by u q = rw (rest-text, q) (two u q (uses_bits k))
              where
                two : (u : Bool) → has_text k ≡ u → (v : Bool) → T (pick u (ltb (pick u (node_at s a).text 0) n) (eqb (pick u (node_at s a).text 0) 0) && (v || true))
                two true q v = both (ltb (node_at s a).text n) (v || true) (texted n (node_at s a) (wd.word (is_T _ q)) (at-fine a).fields) (last v)
                  where
                    last : (v : Bool) → T (v || true)
                    last true = tt
                    last false = tt
                two false q true = tt
                two false q false = tt

        plain : (e : (eqb k 20 || eqb k 21) ≡ false) → (leb 22 k && leb k 25) ≡ false → T (fills n (p ∷ ps) (plain_raw ∷ xs))
        plain e d =
            let q : form_of k f ≡ f = ap (λ (b : Bool). pick b 0 f) e in
            let g = form-at f q in
            put p ps plain_raw xs (ok5 p plain_raw (room p k f a ts h) h.allowed (record { fields = plain-fields e d; form = and_left (form_ok (row_of k f) f) (count_ok (row_of k f) (length_f ts)) g; count = and_right (form_ok (row_of k f) f) (count_ok (row_of k f) (length_f ts)) g })) (below' plain_raw refl (fits-at f q))

        go : (u : Bool) → (leb 22 k && leb k 25) ≡ u → (v : Bool) → (eqb k 20 || eqb k 21) ≡ v
            → T (fills n (p ∷ ps) ((pick {A = Out} u (record { raw = node_at s a; origin = a }) (pick {A = Out} v (record { raw = id_raw; origin = a }) (record { raw = plain_raw; origin = a }))).raw ∷ xs))
        go true e v d = lit (is_T _ e)
        go false e true d = ident (is_T _ d) d
        go false e false d = plain d e

    none_of : (ts : Forest) → length_f ts ≡ 0 → ts ≡ nil
    none_of nil e = refl
    none_of (cons t ts) e = absurd (omega (arith, e))

    lower : (l h : ℕ) → 1 + h ≤ l → h ≤ l - 1
    lower l h e = omega (arith, e)

    mutual
      unfolding below

      refill : (p : Place) (ps : List Place) (t : Tree) (rest : List Core) → At p t → NamedT s t → WordedT s t → T (fills n ps (raws_of s rest)) → T (fills n (p ∷ ps) (raws_of s (flat t rest)))
      refill p ps (node k f a ts) rest h nm wd r =
          made p ps k f a ts (raws_of s rest) (raws_of s (flats ts rest)) h nm.0 wd.0
          (λ e. subst (λ (us : Forest). T (fills n ps (raws_of s (flats us rest)))) (sym (none_of ts e)) r)
          (λ x e o. subst (λ (m : ℕ). T (fills n (below (p.left - 1) x 0 m ps) (raws_of s (flats ts rest)))) (sym e) (refills (p.left - 1) x 0 ps ts rest o (lower p.left (heights ts) h.low) nm.1 wd.1 r))

      refills : (l : ℕ) (x : Raw) (i : ℕ) (ps : List Place) (ts : Forest) (rest : List Core) → FitsF (row_of x.kind x.form) x.arity i ts → heights ts ≤ l → NamedF s ts → WordedF s ts → T (fills n ps (raws_of s rest)) → T (fills n (below l x i (length_f ts) ps) (raws_of s (flats ts rest)))
      refills l x i ps nil rest o h nm wd r = r
      refills l x i ps (cons t ts) rest o h nm wd r =
          refill (record { class = child_of (row_of x.kind x.form) x.arity i; left = l }) (below l x (suc i) (length_f ts) ps) t (flats ts rest) (record { allowed = o.0; fits = o.1; low = omega (arith, h) }) nm.0 wd.0
          (refills l x (suc i) ps ts rest o.2 (omega (arith, h)) nm.1 wd.1 r)

filled : (s : Script) → ReadOk s → (u : Tree) → Readable u → NamedT s u → WordedT s u → T (nodes_ok (outcome s (map (back s) (flat u []))))
unfolding nodes_ok fills
filled s o u h nm wd = refill s (all-fine (length s.texts) s.nodes (record { class = Root; left = 200 } ∷ []) o.shape) (record { class = Root; left = 200 }) [] u [] (record { allowed = h.root; fits = h.fits; low = h.small.0 }) nm wd tt

named : (s : Script) → ReadOk s → (cs : List Core) → All (NamedC s) cs → T (leb (length (idents (outcome s (map (back s) cs)))) 256)
unfolding idents
named s o cs h = (let a = names-few s cs h in let b = leb→le (length (idents s)) 256 o.names in le→leb (length (enter_all [] (raws_of s cs))) 256 (omega (arith, a, b)))

through : (r : Script) → nodes_ok r ≡ true → leb (length (idents r)) 256 ≡ true → checked r ≡ script r
through r e d = go (nodes_ok r) (leb (length (idents r)) 256) e d
  where
    go : (p q : Bool) → p ≡ true → q ≡ true → elim p as (λ x. Read) [ false ↦ bad 6 | true ↦ elim q as (λ x. Read) [ false ↦ bad 7 | true ↦ script r ] ] ≡ script r
    go true true e d = refl
    go true false e d = absurd (subst T (sym d) tt)
    go false q e d = absurd (subst T (sym e) tt)

-- the same of the result
pub out-worded : (s : Script) → ReadOk s → (n : ℕ) → WordedOut s (pass_tree n (core_tree s))
out-worded s o n = by (whole s o)
  where
    first : (w : Whole s) → WordedT s w.tree
    first w = (subst (WordedF s) w.alone (nodes-worded s)).0

    by : Whole s → WordedOut s (pass_tree n (core_tree s))
    by w = subst (λ (x : Option Tree). WordedOut s (pass_tree n x)) (sym w.is) (Keep.pass-ok (Worded s) (worded-ident s) (worded-void s) (worded-zero s) n w.tree (Keep.flag_ok (Worded s) (worded-ident s) (worded-void s) (worded-zero s) (λ f g a k. record { word = k.word }) (twice (kids w.tree)) w.tree (first w)))

pub fills-again : (n : ℕ) (s : Script) → ReadOk s → RefillsIn s (pass n s)
unfolding pass
fills-again n s o = by (whole s o)
  where
    out : (x : Walk.Outcome) → ReadableOut x → NamedOut s x → WordedOut s x → RefillsIn s (answer s x)
    out (Walk.refused r) h nm wd = tt
    out (Walk.result m c u ms) h nm wd =
        let r = outcome s (map (back s) (flat u [])) in
        let six : T (nodes_ok r) = filled s o u h nm.0 wd.0 in
        let seven : T (leb (length (idents r)) 256) = named s o (flat u []) (flat-named s u [] nm.0 tt) in
        through r (is_true (nodes_ok r) six) (is_true (leb (length (idents r)) 256) seven)

    by : Whole s → RefillsIn s (answer s (pass_tree n (core_tree s)))
    by w = out (pass_tree n (core_tree s)) (subst (λ (x : Option Tree). ReadableOut (pass_tree n x)) (sym w.is) (result-readable n w.tree w.readable)) (out-named s n) (out-worded s o n)

pub result-fills : ResultFills
result-fills n bs = go (read bs) (read_ok bs)
  where
    go : (r : Read) → ReadsOk r → RefillsOf n r
    go (bad r) o = tt
    go (script s) o = fills-again n s o
