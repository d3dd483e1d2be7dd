-- Each root binding is listed once: the root scope has no two bindings of one number, and two numbers are two identifiers. Assumes nothing.
use mathlib.Core.Path.{◌≡◌, refl, sym, ◌∙◌}
use mathlib.Core.Bool.{Bool, true, false, ◌&&◌, not}
use mathlib.Core.Logic.{◌⊎◌, inl, inr, ⊎_elim}
use mathlib.Core.List.{List, [], ◌∷◌, ◌++◌, map}
use Prim.Native.Nat.{ℕ, zero, suc, ◌<◌}
use native.Mathlib.Omega.{arith}
use lib.Dec.{eqb, ltb}
use lib.ListN.{length, get_or}
use borrow.Author.Tests.{eqb-false, ltb-true, ltb-false}
use Rattle.def_tree.specs.Base.{pick}
use Rattle.def_file.specs.declared.Raw.{Raw}
use Rattle.def_file.specs.Script.{Script, same_id, has_id, known, enter, enter_all, idents, zero_node}
use Rattle.def_file.specs.Core.{ident_at}
use Rattle.def_file.specs.Read.{Read, bad, script, read}
use Rattle.def_pass.specs.Walk.{Rooted, Outcome, refused, result}
use Rattle.def_pass.specs.Script.{answer, pass_tree, core_tree, pass, pass_read, pass_file, root_of}
use Rattle.laws_pass.specs.Grown.{ids_of}
use Rattle.laws_pass.specs.Once.{Free, Once, OnceIn, RootsOnce}
use Rattle.laws_pass.proofs.All.{All}
use Rattle.laws_pass.proofs.Keep.{OkId}
use Rattle.laws_pass.proofs.Single.{mem, Single, or_no, no-sym}
use Rattle.laws_pass.proofs.Origin.{Named, NamedOut, to-ident, void-named, zero-named, out-named}

-- a list of identifiers without a second one
abbrev pub Lone : List Raw → Type 0
Lone [] = Unit {0}
Lone (y ∷ ys) = (known y ys ≡ false) × Lone ys

same-sym : (x y : Raw) → same_id x y ≡ same_id y x
same-sym x y = go (eqb x.text y.text) (eqb y.text x.text) (flip x.text y.text) (eqb x.bits y.bits) (eqb y.bits x.bits) (flip x.bits y.bits)
  where
    go : (a b : Bool) → a ≡ b → (c d : Bool) → c ≡ d → (a && c) ≡ (b && d)
    go a b e c d f = rw (e, f) refl

    flip : (m n : ℕ) → eqb m n ≡ eqb n m
    flip m n = by (eqb m n) refl (eqb n m) refl
      where
        by : (p : Bool) → eqb m n ≡ p → (q : Bool) → eqb n m ≡ q → p ≡ q
        by true e true f = refl
        by true e false f = sym e ∙ no-sym n m f
        by false e true f = sym (no-sym m n e) ∙ f
        by false e false f = refl

known-append : (y x : Raw) (ys : List Raw) → known y ys ≡ false → same_id y x ≡ false → known y (ys ++ (x ∷ [])) ≡ false
known-append y x [] h e = rw e refl
known-append y x (z ∷ ys) h e = (let p = or_no (same_id y z) (known y ys) h in rw p.0 (known-append y x ys p.1 e))

lone-append : (ys : List Raw) (x : Raw) → Lone ys → known x ys ≡ false → Lone (ys ++ (x ∷ []))
lone-append [] x h e = (refl, tt)
lone-append (y ∷ ys) x h e =
    let p = or_no (same_id x y) (known x ys) e in
    (known-append y x ys h.0 (same-sym y x ∙ p.0), lone-append ys x h.1 p.1)

lone-enter : (ys : List Raw) (x : Raw) → Lone ys → Lone (enter ys x)
lone-enter ys x h = go (has_id x) (known x ys) refl
  where
    go : (p q : Bool) → known x ys ≡ q → Lone (pick (p && not q) (ys ++ (x ∷ [])) ys)
    go true true e = h
    go true false e = lone-append ys x h e
    go false q e = h

pub lone-all : (ys xs : List Raw) → Lone ys → Lone (enter_all ys xs)
unfolding enter_all
lone-all ys [] h = h
lone-all ys (x ∷ xs) h = lone-all (enter ys x) xs (lone-enter ys x h)

lone-idents : (s : Script) → Lone (idents s)
unfolding idents
lone-idents s = lone-all [] s.nodes tt

-- two places in it
known_at : (x : Raw) (ys : List Raw) (j : ℕ) → known x ys ≡ false → j < length ys → same_id x (get_or ys j zero_node) ≡ false
known_at x [] j h l = absurd (omega arith)
known_at x (y ∷ ys) zero h l = (or_no (same_id x y) (known x ys) h).0
known_at x (y ∷ ys) (suc j) h l = known_at x ys j (or_no (same_id x y) (known x ys) h).1 (omega arith)

lone-lt : (ys : List Raw) → Lone ys → (i j : ℕ) → i < j → j < length ys → same_id (get_or ys i zero_node) (get_or ys j zero_node) ≡ false
lone-lt [] h i j a b = absurd (omega arith)
lone-lt (y ∷ ys) h i zero a b = absurd (omega arith)
lone-lt (y ∷ ys) h zero (suc j) a b = known_at y ys j h.0 (omega arith)
lone-lt (y ∷ ys) h (suc i) (suc j) a b = lone-lt ys h.1 i j (omega arith) (omega arith)

less : (i j : ℕ) → (i ≡ j → ⊥) → (i < j) ⊎ (j < i)
less i j h = go (ltb i j) refl
  where
    go : (p : Bool) → ltb i j ≡ p → (i < j) ⊎ (j < i)
    go true e = inl (ltb-true i j e)
    go false e = inr (omega (arith, ltb-false i j e, h))

lone-ne : (ys : List Raw) → Lone ys → (i j : ℕ) → (i ≡ j → ⊥) → i < length ys → j < length ys → same_id (get_or ys i zero_node) (get_or ys j zero_node) ≡ false
lone-ne ys h i j n a b = ⊎_elim (λ (l : i < j). lone-lt ys h i j l b) (λ (l : j < i). same-sym (get_or ys i zero_node) (get_or ys j zero_node) ∙ lone-lt ys h j i l a) (less i j n)

-- the root bindings
module _ (s : Script) where
  abbrev Has : Rooted → Type 0
  Has m = OkId (Named s) (to-ident s) (void-named s) (zero-named s) m.0

  free : (i : ℕ) → i < length (idents s) → (ms : List Rooted) → All Has ms → mem i (ids_of ms) ≡ false → Free (ident_at s i) (map (root_of s) ms)
  unfolding root_of
  free i l [] h e = tt
  free i l (m ∷ ms) h e =
      let p = or_no (eqb m.0 i) (mem i (ids_of ms)) e in
      (lone-ne (idents s) (lone-idents s) i m.0 (λ q. eqb-false m.0 i p.0 (sym q)) l (h.0.ok.ident tt), free i l ms h.1 p.1)

  once : (ms : List Rooted) → All Has ms → Single (ids_of ms) → Once (map (root_of s) ms)
  unfolding root_of
  once [] h e = tt
  once (m ∷ ms) h e = (free m.0 (h.0.ok.ident tt) ms h.1 e.0, once ms h.1 e.1)

  pub once-answer : (o : Outcome) → NamedOut s o → OnceIn (answer s o)
  once-answer (refused n) h = tt
  once-answer (result k c t ms) h = once ms h.1 h.2

pub roots-once : RootsOnce
unfolding pass_file pass
roots-once runs bs = go (read bs)
  where
    go : (r : Read) → OnceIn (pass_read runs r)
    go (bad n) = tt
    go (script s) = once-answer s (pass_tree runs (core_tree s)) (out-named s runs)
