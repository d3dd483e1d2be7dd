-- The names of a script whose contexts are passed over: their texts, in the order of first use, and the text `arguments`. Assumes nothing.
use mathlib.Core.Path.{◌≡◌, refl, sym, ap, ap₂, ◌∙◌, subst}
use mathlib.Core.Bool.{Bool, true, false, ◌&&◌}
use mathlib.Core.List.{List, [], ◌∷◌, ◌++◌}
use Prim.Native.Nat.{ℕ, suc, ◌+◌, ◌<◌, ◌≤◌}
use native.Mathlib.Numerals.{add-one}
use native.Mathlib.Omega.{arith}
use lib.Dec.{T, eqb, eqb→eq}
use lib.ListN.{length, get_or, take, length-map, get_or-map}
use lib.Seq.{take-suc, get_or-take, length-take-le}
use borrow.Author.Tests.{ne_eqb}
use Rattle.def_tree.specs.Base.{member}
use Rattle.def_tree.proofs.Tests.{is_T, is_true, and_left, and_right}
use Rattle.def_file.specs.declared.Raw.{Raw}
use Rattle.def_file.specs.Script.{Script, zero_node, has_id, same_id, same_text, text_at, arguments, enter, enter_all, idents, place_of}
use Rattle.def_file.specs.Read.{distinct, nodes_ok}
use Rattle.def_canon.specs.Canon.{first_use, first_uses, index_of, text_number}
use Rattle.def_resolve.specs.Resolve.{bare_node, bare}
use Rattle.laws_pass.proofs.All.{All, get_d-in}
use Rattle.laws_canon.proofs.Uses.{AllZip, index-lt, all-used, uses-lone, uses-few, uses-all}
use Rattle.laws_canon.proofs.Texts.{text-eqb}
use Rattle.laws_canon.proofs.Weights.{fewer}
use Rattle.file_read.proofs.Cores.{node-sound, id-text, place-final}
use Rattle.file_resolve.specs.Load.{names_of, with_number, Arguments}
use Rattle.file_resolve.proofs.Numbers.{place-is, enter-numbered, ids-numbered}

-- the text `arguments`
same-eq : (t u : List ℕ) → T (same_text t u) → t ≡ u
same-eq [] [] h = refl
same-eq [] (c ∷ u) h = absurd h
same-eq (b ∷ t) [] h = absurd h
same-eq (b ∷ t) (c ∷ u) h = ap₂ {C = List ℕ} (λ x xs. x ∷ xs) (eqb→eq b c (and_left (eqb b c) (same_text t u) h)) (same-eq t u (and_right (eqb b c) (same_text t u) h))

pub one-arguments : (s : Script) (a : ℕ) → distinct s.texts ≡ true → a < length s.texts → same_text (text_at s a) arguments ≡ true → Arguments s a
one-arguments s a d l e = record { is = λ t k. ap (same_text (text_at s t)) (sym (same-eq (text_at s a) arguments (is_T _ e))) ∙ sym (text-eqb s.texts d t a k l) }

pub no-arguments : (s : Script) → length s.texts ≤ 256 → ((t : ℕ) → t < length s.texts → same_text (text_at s t) arguments ≡ false) → Arguments s 256
no-arguments s f h = record { is = λ t l. h t l ∙ sym (ne_eqb t 256 (λ e. omega (arith, e))) }

-- some uses, and more
uses-append : (has : Raw → Bool) (of : Raw → ℕ) (ns : List ℕ) (xs ys : List Raw) → first_uses has of ns (xs ++ ys) ≡ first_uses has of (first_uses has of ns xs) ys
unfolding first_uses
uses-append has of ns [] ys = refl
uses-append has of ns (x ∷ xs) ys = uses-append has of (first_use has of ns x) xs ys

pub uses-next : (has : Raw → Bool) (of : Raw → ℕ) (xs : List Raw) (k : ℕ) → k < length xs → first_uses has of [] (take (k + 1) xs) ≡ first_use has of (first_uses has of [] (take k xs)) (get_or xs k zero_node)
unfolding first_uses
uses-next has of xs k l = rw add-one (ap (first_uses has of []) (take-suc xs k zero_node l) ∙ uses-append has of [] (take k xs) (get_or xs k zero_node ∷ []))

pub used-name : (of : Raw → ℕ) (ns : List ℕ) (x : Raw) → has_id x ≡ true → first_use has_id of ns x ≡ with_number (of x) ns
used-name of ns x e = rw e refl

pub used-none : (of : Raw → ℕ) (ns : List ℕ) (x : Raw) → has_id x ≡ false → first_use has_id of ns x ≡ ns
used-none of ns x e = rw e refl

-- a name whose context is passed over
bare-bits : (x : Raw) → has_id x ≡ true → (bare_node x).bits ≡ 0
bare-bits x e = rw e refl

abbrev NoContext : Raw → Type 0
NoContext x = x.bits ≡ 0

text-tells : (x y : Raw) → NoContext x → NoContext y → same_id x y ≡ eqb (text_number x) (text_number y)
text-tells x y p q = rw (p, q) (go (eqb x.text y.text))
  where
    go : (b : Bool) → (b && true) ≡ b
    go true = refl
    go false = refl

module _ (s : Script) where
  pub bare-length : length (bare s).nodes ≡ length s.nodes
  bare-length = length-map s.nodes bare_node

  pub bare-at : (k : ℕ) → get_or (bare s).nodes k zero_node ≡ bare_node (get_or s.nodes k zero_node)
  bare-at k = get_or-map bare_node s.nodes k zero_node

  no-context : (k : ℕ) → has_id (get_or (bare s).nodes k zero_node) ≡ true → NoContext (get_or (bare s).nodes k zero_node)
  no-context k e = ap (λ (x : Raw). x.bits) (bare-at k) ∙ bare-bits (get_or s.nodes k zero_node) (sym (ap has_id (bare-at k)) ∙ e)

  -- the identifiers of the first k nodes, and their texts
  numbered : (k : ℕ) → k ≤ length (bare s).nodes → AllZip (λ (y : Raw) (n : ℕ). NoContext y × (text_number y ≡ n)) (enter_all [] (take k (bare s).nodes)) (names_of (take k (bare s).nodes))
  numbered k l = ids-numbered text_number NoContext text-tells (take k (bare s).nodes) at [] [] tt
    where
      at : (i : ℕ) → i < length (take k (bare s).nodes) → has_id (get_or (take k (bare s).nodes) i zero_node) ≡ true → NoContext (get_or (take k (bare s).nodes) i zero_node)
      at i h e =
          let m : i < k = omega (arith, length-take-le k (bare s).nodes l) in
          let q = get_or-take k (bare s).nodes i zero_node m in
          ap (λ (x : Raw). x.bits) q ∙ no-context i (ap has_id (sym q) ∙ e)

  module _ (k : ℕ) (l : k < length s.nodes) (e : has_id (get_or s.nodes k zero_node) ≡ true) where
    abbrev x : Raw
    x = get_or s.nodes k zero_node

    abbrev y : Raw
    y = get_or (bare s).nodes k zero_node

    long : k < length (bare s).nodes
    long = omega (arith, bare-length)

    named : has_id y ≡ true
    named = ap has_id (bare-at k) ∙ e

    text-same : y.text ≡ x.text
    text-same = ap (λ (z : Raw). z.text) (bare-at k)

    -- the number that a name has in the end is that of its text now
    pub number-now : place_of (bare_node x) (idents (bare s)) ≡ index_of x.text (with_number x.text (names_of (take k (bare s).nodes)))
    number-now =
        let ids = enter_all [] (take k (bare s).nodes) in
        let ns = names_of (take k (bare s).nodes) in
        ap (λ (z : Raw). place_of z (idents (bare s))) (sym (bare-at k))
        ∙ place-final (bare s) k long named
        ∙ place-is text_number NoContext text-tells y (no-context k named) (enter ids y) (first_use has_id text_number ns y) (enter-numbered text_number NoContext text-tells y (λ h. no-context k h) ids ns (numbered k (omega (arith, long))))
        ∙ ap (index_of y.text) (used-name text_number ns y named)
        ∙ ap (λ (t : ℕ). index_of t (with_number t ns)) text-same

  -- all names
  abbrev pub texts : List ℕ
  texts = names_of (bare s).nodes

  all-numbered : AllZip (λ (y : Raw) (n : ℕ). NoContext y × (text_number y ≡ n)) (idents (bare s)) texts
  unfolding idents
  all-numbered = ids-numbered text_number NoContext text-tells (bare s).nodes (λ k l e. no-context k e) [] [] tt

  pub number-is : (k : ℕ) → has_id (get_or s.nodes k zero_node) ≡ true → place_of (bare_node (get_or s.nodes k zero_node)) (idents (bare s)) ≡ index_of (get_or s.nodes k zero_node).text texts
  number-is k e =
      let q : has_id (get_or (bare s).nodes k zero_node) ≡ true = ap has_id (bare-at k) ∙ e in
      ap (λ (z : Raw). place_of z (idents (bare s))) (sym (bare-at k))
      ∙ place-is text_number NoContext text-tells (get_or (bare s).nodes k zero_node) (no-context k q) (idents (bare s)) texts all-numbered
      ∙ ap (λ (z : Raw). index_of z.text texts) (bare-at k)

  pub name-there : (k : ℕ) → k < length s.nodes → has_id (get_or s.nodes k zero_node) ≡ true → T (member (get_or s.nodes k zero_node).text texts)
  name-there k l e =
      let t = get_d-in (λ (x : Raw). T (has_id x) → T (member x.text texts)) (bare s).nodes k zero_node (all-used has_id text_number [] (bare s).nodes) (omega (arith, bare-length)) in
      subst (λ (z : Raw). T (member z.text texts)) (bare-at k) (t (is_T _ (ap has_id (bare-at k) ∙ e)))

  module _ (ok : nodes_ok s ≡ true) where
    pub text-low : (k : ℕ) → k < length s.nodes → has_id (get_or s.nodes k zero_node) ≡ true → (get_or s.nodes k zero_node).text < length s.texts
    text-low k l e = (node-sound s ok k l).text (id-text (get_or s.nodes k zero_node) e)

    all-low : (xs : List Raw) → ((k : ℕ) → k < length xs → has_id (get_or xs k zero_node) ≡ true → (get_or xs k zero_node).text < length s.texts) → All (λ (x : Raw). T (has_id x) → x.text < length s.texts) xs
    all-low [] h = tt
    all-low (x ∷ xs) h = ((λ t. h 0 (omega arith) (is_true _ t)), all-low xs (λ k l. h (suc k) (omega (arith, l))))

    -- there are no more of them than texts
    pub few-names : length texts ≤ length s.texts
    few-names = fewer s.texts texts (uses-lone has_id text_number [] (bare s).nodes tt)
        (uses-all has_id text_number (λ (n : ℕ). n < length s.texts) [] (bare s).nodes tt
        (all-low (bare s).nodes (λ k l e. subst (λ (z : Raw). z.text < length s.texts) (sym (bare-at k)) (text-low k (omega (arith, l, bare-length)) (sym (ap has_id (bare-at k)) ∙ e)))))

    pub number-low : (k : ℕ) → k < length s.nodes → has_id (get_or s.nodes k zero_node) ≡ true → place_of (bare_node (get_or s.nodes k zero_node)) (idents (bare s)) < length s.texts
    number-low k l e = omega (arith, number-is k e, index-lt (get_or s.nodes k zero_node).text texts (name-there k l e), few-names)

pub names-few : (xs : List Raw) (k : ℕ) → k ≤ length xs → length (names_of (take k xs)) ≤ k
names-few xs k l = omega (arith, uses-few has_id text_number [] (take k xs), length-take-le k xs l)
