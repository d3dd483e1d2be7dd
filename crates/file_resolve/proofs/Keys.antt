-- Identifiers by the numbers that tell them apart, and these in the words. Assumes nothing.
use mathlib.Core.Path.{◌≡◌, refl, sym, ap, ap₂, ◌∙◌, subst}
use mathlib.Core.Bool.{Bool, true, false, ◌&&◌, ◌||◌}
use mathlib.Core.List.{List, [], ◌∷◌, ◌++◌}
use Prim.Native.Nat.{ℕ, ◌+◌, ◌*◌, ◌<◌, ◌≤◌}
use native.Mathlib.Omega.{arith}
use lib.Dec.{eqb}
use lib.ListN.{length, get_or, set, take, length-set, length-append}
use lib.Seq.{take_all, length-take-le, get_or-take, get_or-set_same, get_or-set_other}
use borrow.Author.Tests.{eqb-true, eqb-false, eq-eqb, ne_eqb}
use Rattle.std.proofs.Common.{Ok, Err}
use Rattle.refusal.specs.declared.Refusal.TheVariants as Row
use Rattle.def_tree.specs.Base.{pick, member}
use Rattle.def_file.specs.declared.Raw.{Raw}
use Rattle.def_file.specs.Script.{Script, zero_node, has_id, same_id, enter, enter_all, idents}
use Rattle.def_file.specs.Read.{nodes_ok}
use Rattle.def_canon.specs.Canon.{first_use, first_uses}
use Rattle.def_resolve.specs.Resolve.{resolved}
use Rattle.laws_canon.proofs.Uses.{AllZip, zip-length}
use Rattle.laws_resolve.proofs.Scripts.{resolved-length}
use Rattle.words.specs.Tab.{tab, tab-suc, tab-ext, length-tab}
use Rattle.words.proofs.Nodes.{beyond-same}
use Rattle.file_read.proofs.Cores.{ids_more}
use Rattle.file_resolve.specs.Load.{with_number}
use Rattle.file_resolve.specs.Idents.{Contexts, key, keys_of, Noted}
use Rattle.file_resolve.proofs.Numbers.{member-snoc, with-old, with-new, enter-numbered, ids-numbered}
use Rattle.file_resolve.proofs.Names.{text-low, uses-next, used-name, used-none}

-- the search among the first j
eqb-turned : (m n : ℕ) → eqb m n ≡ eqb n m
eqb-turned m n = go (eqb m n) refl
  where
    go : (p : Bool) → eqb m n ≡ p → p ≡ eqb n m
    go true e = sym (eq-eqb n m (sym (eqb-true m n e)))
    go false e = sym (ne_eqb n m (λ q. eqb-false m n e (sym q)))

pub none-noted : (key : ℕ) (f : ℕ → ℕ) → false ≡ member key (tab 0 f)
unfolding tab
none-noted key f = refl

pub noted-next : (key : ℕ) (f : ℕ → ℕ) (j : ℕ) {b c : Bool} → b ≡ member key (tab j f) → c ≡ eqb (f j) key → (b || c) ≡ member key (tab (j + 1) f)
noted-next key f j {b} {c} p q = ap₂ ◌||◌ p (q ∙ eqb-turned (f j) key) ∙ sym (ap (member key) (tab-suc j f) ∙ member-snoc key (tab j f) (f j))

pub noted-all : (key : ℕ) (w : List ℕ) (j : ℕ) {b : Bool} → j ≡ get_or w 4 0 → b ≡ member key (tab j (λ i. get_or w (15504 + i) 0)) → b ≡ member key (keys_of w)
unfolding keys_of
noted-all key w j z e = e ∙ ap (λ (n : ℕ). member key (tab n (λ i. get_or w (15504 + i) 0))) z

keys-length : (w : List ℕ) → length (keys_of w) ≡ get_or w 4 0
unfolding keys_of
keys-length w = length-tab (get_or w 4 0) (λ i. get_or w (15504 + i) 0)

-- one more in the words
module _ (w : List ℕ) (key : ℕ) (long : 16384 ≤ length w) (few : get_or w 4 0 ≤ 256) where
  pub note-old : member key (keys_of w) ≡ true → Noted w w key (Ok tt)
  note-old e = record { kept = record { size = refl; rest = refl }; next = (sym (with-old key (keys_of w) e), few) }

  pub note-full : member key (keys_of w) ≡ false → get_or w 4 0 ≡ 256 → Noted w w key (Err Row.Idents)
  note-full e f = record { kept = record { size = refl; rest = refl }; next = (refl, rw (with-new key (keys_of w) e) (simp length-append (omega (arith, keys-length w, f)))) }

  abbrev c : ℕ
  c = get_or w 4 0

  abbrev w₁ : List ℕ
  w₁ = set (set w (15504 + c) key) 4 (c + 1)

  module _ (room : (get_or w 4 0 ≡ 256 → ⊥)) where
    other : (j : ℕ) → (j ≡ 4 → ⊥) → (j ≡ 15504 + c → ⊥) → get_or w₁ j 0 ≡ get_or w j 0
    other j p q = get_or-set_other (set w (15504 + c) key) 4 j (c + 1) 0 p ∙ get_or-set_other w (15504 + c) j key 0 q

    count : get_or w₁ 4 0 ≡ c + 1
    count = get_or-set_same (set w (15504 + c) key) 4 (c + 1) 0 (simp length-set (omega (arith, long)))

    last : get_or w₁ (15504 + c) 0 ≡ key
    last = get_or-set_other (set w (15504 + c) key) 4 (15504 + c) (c + 1) 0 (λ e. omega (arith, e)) ∙ get_or-set_same w (15504 + c) key 0 (omega (arith, long, few))

    more-keys : keys_of w₁ ≡ keys_of w ++ (key ∷ [])
    unfolding keys_of
    more-keys =
        ap (λ (k : ℕ). tab k (λ i. get_or w₁ (15504 + i) 0)) count
        ∙ tab-suc c (λ i. get_or w₁ (15504 + i) 0)
        ∙ ap₂ {C = List ℕ} (λ xs y. xs ++ (y ∷ []))
        (tab-ext c (λ i. get_or w₁ (15504 + i) 0) (λ i. get_or w (15504 + i) 0) (λ i l. other (15504 + i) (λ e. omega (arith, e)) (λ e. omega (arith, e, l))))
        last

    pub note-new : member key (keys_of w) ≡ false → Noted w (set (set w (15504 + get_or w 4 0) key) 4 (get_or w 4 0 + 1)) key (Ok tt)
    note-new e = record {
      kept = record { size = simp length-set; rest = beyond-same w w₁ (simp length-set) (λ j l. other j (λ z. omega (arith, z, l)) (λ z. omega (arith, z, l, few))) };
      next = (more-keys ∙ sym (with-new key (keys_of w) e), rw count (omega (arith, few, room)));
    }

-- two identifiers are one exactly if their numbers are
abbrev Low : Raw → Type 0
Low x = x.text < 256

key-tells : (x y : Raw) → Low x → Low y → same_id x y ≡ eqb (key x) (key y)
key-tells x y l m = go (eqb x.text y.text) (eqb x.bits y.bits) refl refl
  where
    go : (p q : Bool) → eqb x.text y.text ≡ p → eqb x.bits y.bits ≡ q → (p && q) ≡ eqb (key x) (key y)
    go true true a b = let t = eqb-true x.text y.text a in let c = eqb-true x.bits y.bits b in sym (eq-eqb (key x) (key y) (omega (arith, t, c)))
    go true false a b = let d = eqb-false x.bits y.bits b in sym (ne_eqb (key x) (key y) (λ e. d (omega (arith, e, l, m))))
    go false q a b = let d = eqb-false x.text y.text a in sym (ne_eqb (key x) (key y) (λ e. d (omega (arith, e, l, m))))

-- the identifiers of a resolved script
module _ (s : Script) (ok : nodes_ok s ≡ true) (few : length s.texts ≤ 256) (numbers : List ℕ) (N : Contexts s numbers) where
  abbrev xs : List Raw
  xs = (resolved s).nodes

  node-low : (k : ℕ) → k < length xs → has_id (get_or xs k zero_node) ≡ true → Low (get_or xs k zero_node)
  node-low k l e =
      let m : k < length s.nodes = omega (arith, l, resolved-length s ok) in
      let q = N.is k m in
      subst Low (sym q) (omega (arith, few, text-low s ok k m (sym (ap has_id q) ∙ e)))

  is-key : (k : ℕ) → k < length s.nodes → has_id (get_or s.nodes k zero_node) ≡ true → key (get_or xs k zero_node) ≡ (get_or s.nodes k zero_node).text + 256 * get_or numbers k 0
  is-key k l e = ap key (N.is k l) ∙ ap (λ (p : Bool). (get_or s.nodes k zero_node).text + 256 * pick p (get_or numbers k 0) (get_or s.nodes k zero_node).bits) e

  has-id : (k : ℕ) → k < length s.nodes → has_id (get_or xs k zero_node) ≡ has_id (get_or s.nodes k zero_node)
  has-id k l = ap has_id (N.is k l)

  abbrev uses : ℕ → List ℕ
  uses k = first_uses has_id key [] (take k xs)

  numbered : (k : ℕ) → k ≤ length xs → AllZip (λ (y : Raw) (n : ℕ). Low y × (key y ≡ n)) (enter_all [] (take k xs)) (uses k)
  numbered k l = ids-numbered key Low key-tells (take k xs) at [] [] tt
    where
      at : (i : ℕ) → i < length (take k xs) → has_id (get_or (take k xs) i zero_node) ≡ true → Low (get_or (take k xs) i zero_node)
      at i h e =
          let m : i < k = omega (arith, h, length-take-le k xs l) in
          let q = get_or-take k xs i zero_node m in
          subst Low (sym q) (node-low i (omega (arith, m, l)) (ap has_id (sym q) ∙ e))

  module _ (k : ℕ) (l : k < length s.nodes) where
    there : k < length xs
    there = omega (arith, l, resolved-length s ok)

    uses-named : has_id (get_or s.nodes k zero_node) ≡ true → uses (k + 1) ≡ with_number ((get_or s.nodes k zero_node).text + 256 * get_or numbers k 0) (uses k)
    uses-named e = uses-next has_id key xs k there ∙ used-name key (uses k) (get_or xs k zero_node) (has-id k l ∙ e) ∙ ap (λ (n : ℕ). with_number n (uses k)) (is-key k l e)

    uses-other : has_id (get_or s.nodes k zero_node) ≡ false → uses (k + 1) ≡ uses k
    uses-other e = uses-next has_id key xs k there ∙ used-none key (uses k) (get_or xs k zero_node) (has-id k l ∙ e)

    many : has_id (get_or s.nodes k zero_node) ≡ true → 256 < length (with_number ((get_or s.nodes k zero_node).text + 256 * get_or numbers k 0) (uses k)) → 256 < length (idents (resolved s))
    many e h =
        let x = get_or xs k zero_node in
        let z = zip-length (λ (y : Raw) (n : ℕ). Low y × (key y ≡ n)) (enter (enter_all [] (take k xs)) x) (first_use has_id key (uses k) x)
        (enter-numbered key Low key-tells x (node-low k there) (enter_all [] (take k xs)) (uses k) (numbered k (omega (arith, there)))) in
        let u : length (first_use has_id key (uses k) x) ≡ length (with_number ((get_or s.nodes k zero_node).text + 256 * get_or numbers k 0) (uses k)) = ap length (used-name key (uses k) x (has-id k l ∙ e) ∙ ap (λ (n : ℕ). with_number n (uses k)) (is-key k l e)) in
        omega (arith, h, z, u, ids_more (resolved s) k there)

    -- as the words have them
    module _ (w : List ℕ) (before : keys_of w ≡ uses k) where
      pub counted-other : has_id (get_or s.nodes k zero_node) ≡ false → keys_of w ≡ uses (k + 1)
      counted-other e = before ∙ sym (uses-other e)

      module _ (e : has_id (get_or s.nodes k zero_node) ≡ true) (n : ℕ) (is : n ≡ (get_or s.nodes k zero_node).text + 256 * get_or numbers k 0) where
        noted-is : with_number n (keys_of w) ≡ with_number ((get_or s.nodes k zero_node).text + 256 * get_or numbers k 0) (uses k)
        noted-is = ap₂ {C = List ℕ} (λ m ns. with_number m ns) is before

        pub counted-name : (w' : List ℕ) → keys_of w' ≡ with_number n (keys_of w) → keys_of w' ≡ uses (k + 1)
        counted-name w' q = q ∙ noted-is ∙ sym (uses-named e)

        pub counted-many : 256 < length (with_number n (keys_of w)) → 256 < length (idents (resolved s))
        counted-many h = many e (omega (arith, h, ap length noted-is))

  pub all-ids : (k : ℕ) → k ≡ length s.nodes → length (idents (resolved s)) ≡ length (uses k)
  unfolding idents
  all-ids k e =
      let z = zip-length (λ (y : Raw) (n : ℕ). Low y × (key y ≡ n)) (enter_all [] (take k xs)) (uses k) (numbered k (omega (arith, e, resolved-length s ok))) in
      ap (λ (ys : List Raw). length (enter_all [] ys)) (sym (take_all k xs (omega (arith, e, resolved-length s ok)))) ∙ z

pub no-uses : (w : List ℕ) → get_or w 4 0 ≡ 0 → keys_of w ≡ first_uses has_id key [] []
unfolding keys_of tab first_uses
no-uses w e = rw e refl

pub keys-few : (w : List ℕ) {ns : List ℕ} → keys_of w ≡ ns → get_or w 4 0 ≤ 256 → length ns ≤ 256
keys-few w e h = omega (arith, sym (ap length e), keys-length w, h)
