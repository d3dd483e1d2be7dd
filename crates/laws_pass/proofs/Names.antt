-- A result has no more identifiers than its script, so that row 7 would not refuse it either, and no more root bindings. Assumes nothing.
use mathlib.Core.Path.{◌≡◌, refl, sym, ap, ◌∙◌, subst}
use mathlib.Core.Bool.{Bool, true, false, ◌&&◌, ◌||◌, not}
use mathlib.Core.List.{List, [], ◌∷◌, ◌++◌, map}
use Prim.Native.Nat.{ℕ, zero, suc, ◌≤◌, ◌<◌}
use native.Mathlib.Omega.{arith}
use lib.Dec.{T, eqb, leb, eqb→eq, eqb_refl}
use lib.ListN.{length, get_or}
use Rattle.def_tree.specs.Base.{pick}
use Rattle.def_tree.specs.Tree.{Core}
use Rattle.def_file.specs.declared.Raw.{Raw}
use Rattle.def_file.specs.Script.{Script, same_id, has_id, known, enter, enter_all, idents, zero_node, node_at}
use Rattle.def_file.specs.Core.{Out, ident_at, lit_out, id_out, plain_out, back}
use Rattle.laws_pass.specs.Again.{raws_of}
use Rattle.def_tree.proofs.Tests.{is_T, and_left, and_right, both}
use Rattle.def_file.specs.Read.{Read, bad, script, read}
use Rattle.def_pass.specs.Walk.{Rooted, Outcome, refused, result}
use Rattle.def_pass.specs.Script.{Root, root_of, answer, pass_tree, core_tree, pass}
use Rattle.laws_pass.specs.Once.{Free, Once, FewIn, FewOf, RootsFew}
use Rattle.laws_pass.proofs.All.{All, all_append}
use Rattle.laws_pass.proofs.Keep as Keep
use Rattle.laws_pass.proofs.Single.{or_no}
use Rattle.laws_pass.proofs.Origin.{NamedC, Named, NamedOut, to-ident, void-named, zero-named, out-named}
use Rattle.laws_pass.proofs.Once.{Lone, lone-all, once-answer}

abbrev Known : List Raw → Raw → Type 0
Known zs y = T (known y zs)

-- one of an identifier taken out
abbrev without : Raw → List Raw → List Raw
without y [] = []
without y (z ∷ zs) = elim (same_id y z) [ true ↦ zs | false ↦ z ∷ without y zs ]

shorter : (y : Raw) (zs : List Raw) → Known zs y → suc (length (without y zs)) ≡ length zs
shorter y [] h = absurd h
shorter y (z ∷ zs) h = go (same_id y z) h (shorter y zs)
  where
    go : (p : Bool) → T (p || known y zs) → (Known zs y → suc (length (without y zs)) ≡ length zs) → suc (length {A = Raw} (elim p [ true ↦ zs | false ↦ z ∷ without y zs ])) ≡ suc (length zs)
    go true h k = refl
    go false h k = ap suc (k h)

-- two that are the same as a third
same-two : (x y z : Raw) → T (same_id x z) → T (same_id y z) → T (same_id x y)
same-two x y z h k =
    let a = eqb→eq x.text z.text (and_left (eqb x.text z.text) (eqb x.bits z.bits) h) in
    let b = eqb→eq x.bits z.bits (and_right (eqb x.text z.text) (eqb x.bits z.bits) h) in
    let c = eqb→eq y.text z.text (and_left (eqb y.text z.text) (eqb y.bits z.bits) k) in
    let d = eqb→eq y.bits z.bits (and_right (eqb y.text z.text) (eqb y.bits z.bits) k) in
    both (eqb x.text y.text) (eqb x.bits y.bits) (subst (λ (m : ℕ). T (eqb x.text m)) (a ∙ sym c) (eqb_refl x.text)) (subst (λ (m : ℕ). T (eqb x.bits m)) (b ∙ sym d) (eqb_refl x.bits))

stays : (x y : Raw) → same_id x y ≡ false → (zs : List Raw) → Known zs y → Known (without x zs) y
stays x y e [] h = h
stays x y e (z ∷ zs) h = go (same_id x z) refl (same_id y z) refl h (stays x y e zs)
  where
    go : (p : Bool) → same_id x z ≡ p → (q : Bool) → same_id y z ≡ q → T (q || known y zs) → (Known zs y → Known (without x zs) y) → Known (elim p [ true ↦ zs | false ↦ z ∷ without x zs ]) y
    go true a true b h k = absurd (subst T e (same-two x y z (is_T _ a) (is_T _ b)))
    go true a false b h k = h
    go false a true b h k = rw b tt
    go false a false b h k = rw b (k h)

all_stay : (x : Raw) (ys zs : List Raw) → known x ys ≡ false → All (Known zs) ys → All (Known (without x zs)) ys
all_stay x [] zs e h = tt
all_stay x (y ∷ ys) zs e h = (let p = or_no (same_id x y) (known x ys) e in (stays x y p.0 zs h.0, all_stay x ys zs p.1 h.1))

-- no two the same, each among zs: not more than zs
few : (ys zs : List Raw) → Lone ys → All (Known zs) ys → length ys ≤ length zs
few [] zs l h = omega arith
few (y ∷ ys) zs l h = (let a = few ys (without y zs) l.1 (all_stay y ys zs l.0 h.1) in omega (arith, a, shorter y zs h.0))

-- what is entered is known
enter-known : (zs ids : List Raw) (x : Raw) → (T (has_id x) → Known zs x) → All (Known zs) ids → All (Known zs) (enter ids x)
enter-known zs ids x f h = go (has_id x) f (known x ids)
  where
    go : (p : Bool) → (T p → Known zs x) → (q : Bool) → All (Known zs) (pick (p && not q) (ids ++ (x ∷ [])) ids)
    go true f false = all_append (Known zs) ids x h (f tt)
    go true f true = h
    go false f q = h

all_known : (zs ids xs : List Raw) → All (λ (x : Raw). T (has_id x) → Known zs x) xs → All (Known zs) ids → All (Known zs) (enter_all ids xs)
unfolding enter_all
all_known zs ids [] f h = h
all_known zs ids (x ∷ xs) f h = all_known zs (enter ids x) xs f.1 (enter-known zs ids x f.0 h)

in_list : (y : Raw) (zs : List Raw) (i : ℕ) → i < length zs → y.text ≡ (get_or zs i zero_node).text → y.bits ≡ (get_or zs i zero_node).bits → Known zs y
in_list y [] i l a b = absurd (omega (arith, l))
in_list y (z ∷ zs) zero l a b = here (same_id y z) (both (eqb y.text z.text) (eqb y.bits z.bits) (subst (λ (m : ℕ). T (eqb y.text m)) a (eqb_refl y.text)) (subst (λ (m : ℕ). T (eqb y.bits m)) b (eqb_refl y.bits)))
  where
    here : (p : Bool) → T p → T (p || known y zs)
    here true h = tt
    here false h = absurd h
in_list y (z ∷ zs) (suc i) l a b = there (same_id y z) (in_list y zs i (omega (arith, l)) a b)
  where
    there : (p : Bool) → T (known y zs) → T (p || known y zs)
    there true h = tt
    there false h = h

module _ (s : Script) where
  no_lit : (k : ℕ) → T (leb 22 k && leb k 25) → T (eqb k 20 || eqb k 21) → ⊥
  no_lit k l h = go (eqb k 20) refl (eqb k 21) refl h
    where
      go : (p : Bool) → eqb k 20 ≡ p → (q : Bool) → eqb k 21 ≡ q → T (p || q) → ⊥
      go true e q d h = subst (λ (m : ℕ). T (leb 22 m && leb m 25)) (eqb→eq k 20 (is_T _ e)) l
      go false e true d h = subst (λ (m : ℕ). T (leb 22 m && leb m 25)) (eqb→eq k 21 (is_T _ d)) l
      go false e false d h = h

  back-known : (c : Core) → NamedC s c → T (has_id (back s c).raw) → Known (idents s) (back s c).raw
  unfolding back
  back-known c h = go (leb 22 c.kind && leb c.kind 25) refl (eqb c.kind 20 || eqb c.kind 21) refl
    where
      made : Bool → Bool → Raw
      made u v = (pick {A = Out} u (lit_out s c) (pick {A = Out} v (id_out s c) (plain_out s c))).raw

      go : (u : Bool) → (leb 22 c.kind && leb c.kind 25) ≡ u → (v : Bool) → (eqb c.kind 20 || eqb c.kind 21) ≡ v → T (has_id (made u v)) → Known (idents s) (made u v)
      go true e v d i = absurd (no_lit (node_at s c.num).kind (h.lit (is_T _ e)) i)
      go false e true d i = in_list (id_out s c).raw (idents s) c.num (h.ident (is_T _ d)) refl refl
      go false e false d i = absurd (subst T d i)

  backs-known : (cs : List Core) → All (NamedC s) cs → All (λ (x : Raw). T (has_id x) → Known (idents s) x) (raws_of s cs)
  backs-known [] h = tt
  backs-known (c ∷ cs) h = (back-known c h.0, backs-known cs h.1)

  pub names-few : (cs : List Core) → All (NamedC s) cs → length (enter_all [] (raws_of s cs)) ≤ length (idents s)
  names-few cs h = few (enter_all [] (raws_of s cs)) (idents s) (lone-all [] (raws_of s cs) tt) (all_known (idents s) [] (raws_of s cs) (backs-known cs h) tt)

-- and no more root bindings
key-count : (rs : List Root) → length (map (λ (r : Root). r.key) rs) ≡ length rs
key-count [] = refl
key-count (r ∷ rs) = ap suc (key-count rs)

not_known : (x : Raw) (rs : List Root) → Free x rs → known x (map (λ (r : Root). r.key) rs) ≡ false
not_known x [] h = refl
not_known x (r ∷ rs) h = rw h.0 (not_known x rs h.1)

lone-keys : (rs : List Root) → Once rs → Lone (map (λ (r : Root). r.key) rs)
lone-keys [] h = tt
lone-keys (r ∷ rs) h = (not_known r.key rs h.0, lone-keys rs h.1)

module _ (s : Script) where
  keys-known : (ms : List Rooted) → All (λ (m : Rooted). Keep.OkId (Named s) (to-ident s) (void-named s) (zero-named s) m.0) ms → All (Known (idents s)) (map (λ (r : Root). r.key) (map (root_of s) ms))
  unfolding root_of
  keys-known [] h = tt
  keys-known (m ∷ ms) h = (in_list (ident_at s m.0) (idents s) m.0 (h.0.ok.ident tt) refl refl, keys-known ms h.1)

  few-out : (o : Outcome) → NamedOut s o → FewIn s (answer s o)
  few-out (refused n) h = tt
  few-out (result k c t ms) h = (let rs = map (root_of s) ms in omega (arith, key-count rs, few (map (λ (r : Root). r.key) rs) (idents s) (lone-keys rs (once-answer s (result k c t ms) h)) (keys-known ms h.1)))

pub roots_few : RootsFew
unfolding pass
roots_few n bs = go (read bs)
  where
    go : (r : Read) → FewOf n r
    go (bad r) = tt
    go (script s) = few-out s (pass_tree n (core_tree s)) (out-named s n)
