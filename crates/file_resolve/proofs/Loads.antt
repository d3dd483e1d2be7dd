-- The words while names are loaded: the numbers of their texts, and the nodes. Assumes nothing.
use mathlib.Core.Path.{◌≡◌, refl, sym, ap, ap₂, ◌∙◌, subst}
use mathlib.Core.Bool.{Bool, true, false, ◌||◌}
use mathlib.Core.List.{List, [], ◌∷◌, ◌++◌}
use mathlib.Core.Logic.{⊎_elim}
use Prim.Native.Nat.{ℕ, suc, ◌+◌, ◌-◌, ◌*◌, ◌<◌, ◌≤◌}
use native.Mathlib.Nat.{zero-add}
use native.Mathlib.Omega.{arith}
use lib.Dec.{eqb}
use lib.ListN.{length, get_or, set, take, drop, length-set, length-append}
use lib.Seq.{take_all, get_or-set_same, get_or-set_other}
use borrow.Author.Tests.{eq-eqb, ne_eqb, le-leb}
use Rattle.std.proofs.lemmas.Bool.Decides.{nat_tests}
use Rattle.def_tree.specs.Base.{pick, member, to_nat}
use Rattle.def_tree.specs.Tree.{Core, core}
use Rattle.words.specs.Tab.{tab, same_or_not, sum}
use Rattle.words.specs.Layout.{Agree, tree}
use Rattle.words.specs.Moved.{Zeroed}
use Rattle.words.specs.Node.{Apart}
use Rattle.words.proofs.Nodes.{tree-length, tree-same, beyond-same}
use Rattle.words_scopes.specs.State.{Good, heads, heads_at}
use Rattle.words_scopes.proofs.Index.{beside_none}
use Rattle.def_file.specs.declared.Raw.{Raw}
use Rattle.def_file.specs.Script.{Script, zero_node, is_lit, has_id, is_arguments}
use Rattle.def_file.specs.Core.{core_node, core_nodes}
use Rattle.def_file.specs.Read.{raw_of}
use Rattle.def_canon.specs.Canon.{first_uses, index_of, text_number}
use Rattle.def_resolve.specs.Resolve.{bare_node, bare}
use Rattle.file_read.specs.Load.{script_of, Readable, Kept}
use Rattle.file_read.proofs.Raws.{nodes-length, node-raw}
use Rattle.file_read.proofs.Strings.{count-texts}
use Rattle.file_read.proofs.Cores.{Sound, node-sound, core-next, core_all, core-lit, core-plain, core-ident, kept_by, kept_then}
use Rattle.file_resolve.specs.Load.{names_of, with_number, Texts, Entered, Told, Arguments, Unused, Loaded, Loading, Step, NamesLoaded}
use Rattle.file_resolve.proofs.Numbers.{member-snoc, index-old, index-new, with-old, with-new}
use Rattle.file_resolve.proofs.Names.{bare-at, bare-length, number-now, text-low, uses-next, used-name, used-none, names-few, texts}
use Rattle.file_resolve.proofs.Cores.{core-names, core-one, core-stand, core-arguments}

-- text t, by its word
module _ (w : List ℕ) (t : ℕ) (small : t < 256) where
  abbrev first : ℕ
  first = get_or w (15760 + t) 0

  there : (ts : List ℕ) → Texts w ts → 0 < first → (member t ts ≡ true) × (first ≡ suc (index_of t ts))
  there ts X h = go (member t ts) refl (X.each t small)
    where
      go : (p : Bool) → member t ts ≡ p → first ≡ pick p (suc (index_of t ts)) 0 → (member t ts ≡ true) × (first ≡ suc (index_of t ts))
      go true e q = (e, q)
      go false e q = absurd (omega (arith, q, h))

  missing : (ts : List ℕ) → Texts w ts → first ≡ 0 → member t ts ≡ false
  missing ts X h = go (member t ts) refl (X.each t small)
    where
      go : (p : Bool) → member t ts ≡ p → first ≡ pick p (suc (index_of t ts)) 0 → member t ts ≡ false
      go true e q = absurd (omega (arith, q, h))
      go false e q = e

  -- it has a number
  pub entered-old : 0 < first → Entered w w t (first - 1)
  entered-old h = record {
    size = refl;
    other = λ j p q. refl;
    texts = λ ts X. subst (Texts w) (sym (with-old t ts (there ts X h).0)) X;
    is = λ ts X. (let e = (there ts X h).1 in let n : first - 1 ≡ index_of t ts = omega (arith, e) in n ∙ ap (index_of t) (sym (with-old t ts (there ts X h).0)));
  }

  -- or gets one
  module _ (long : 16384 ≤ length w) (new : first ≡ 0) where
    abbrev c : ℕ
    c = get_or w 4 0

    abbrev w₁ : List ℕ
    w₁ = set (set w (15760 + t) (c + 1)) 4 (c + 1)

    kept-word : (j : ℕ) → (j ≡ 4 → ⊥) → (j ≡ 15760 + t → ⊥) → get_or w₁ j 0 ≡ get_or w j 0
    kept-word j p q = get_or-set_other (set w (15760 + t) (c + 1)) 4 j (c + 1) 0 p ∙ get_or-set_other w (15760 + t) j (c + 1) 0 q

    now-count : get_or w₁ 4 0 ≡ c + 1
    now-count = get_or-set_same (set w (15760 + t) (c + 1)) 4 (c + 1) 0 (simp length-set (omega (arith, long)))

    now-first : get_or w₁ (15760 + t) 0 ≡ c + 1
    now-first = get_or-set_other (set w (15760 + t) (c + 1)) 4 (15760 + t) (c + 1) 0 (λ e. omega (arith, e)) ∙ get_or-set_same w (15760 + t) (c + 1) 0 (omega (arith, long, small))

    each-now : (ts : List ℕ) → Texts w ts → (u : ℕ) → u < 256 → get_or w₁ (15760 + u) 0 ≡ pick (member u (ts ++ (t ∷ []))) (suc (index_of u (ts ++ (t ∷ [])))) 0
    each-now ts X u l = ⊎_elim same other (same_or_not u t)
      where
        m : member t ts ≡ false
        m = missing ts X new

        same : u ≡ t → get_or w₁ (15760 + u) 0 ≡ pick (member u (ts ++ (t ∷ []))) (suc (index_of u (ts ++ (t ∷ [])))) 0
        same e =
            let yes : member t (ts ++ (t ∷ [])) ≡ true = member-snoc t ts t ∙ ap₂ ◌||◌ (missing ts X new) (eq-eqb t t refl) in
            let at : index_of t (ts ++ (t ∷ [])) ≡ length ts = index-new t ts (missing ts X new) in
            rw (e, yes) (now-first ∙ (let n : c + 1 ≡ suc (index_of t (ts ++ (t ∷ []))) = omega (arith, at, X.count) in n))

        picked : (p : Bool) → member u ts ≡ p → pick p (suc (index_of u ts)) 0 ≡ pick p (suc (index_of u (ts ++ (t ∷ [])))) 0
        picked true e = ap suc (sym (index-old u ts t e))
        picked false e = refl

        or-false : (p : Bool) → (p || false) ≡ p
        or-false true = refl
        or-false false = refl

        other : (u ≡ t → ⊥) → get_or w₁ (15760 + u) 0 ≡ pick (member u (ts ++ (t ∷ []))) (suc (index_of u (ts ++ (t ∷ [])))) 0
        other d =
            let m : member u (ts ++ (t ∷ [])) ≡ member u ts = member-snoc u ts t ∙ ap (λ (b : Bool). member u ts || b) (ne_eqb u t d) ∙ or-false (member u ts) in
            kept-word (15760 + u) (λ e. omega (arith, e)) (λ e. d (omega (arith, e))) ∙ X.each u l ∙ picked (member u ts) refl ∙ ap (λ (p : Bool). pick p (suc (index_of u (ts ++ (t ∷ [])))) 0) (sym m)

    texts-now : (ts : List ℕ) → Texts w ts → Texts w₁ (ts ++ (t ∷ []))
    texts-now ts X = record {
      long = simp length-set long;
      count = now-count ∙ (let n : c + 1 ≡ length ts + length (t ∷ []) = omega (arith, X.count) in n) ∙ sym (length-append ts (t ∷ []));
      each = each-now ts X;
    }

    pub entered-new : Entered w (set (set w (15760 + t) (get_or w 4 0 + 1)) 4 (get_or w 4 0 + 1)) t (get_or w 4 0)
    entered-new = record {
      size = simp length-set;
      other = kept-word;
      texts = λ ts X. subst (Texts w₁) (sym (with-new t ts (missing ts X new))) (texts-now ts X);
      is = λ ts X. X.count ∙ sym (index-new t ts (missing ts X new)) ∙ ap (index_of t) (sym (with-new t ts (missing ts X new)));
    }

-- a text's number in the end
pub told-out : {w : List ℕ} {t : ℕ} → 256 ≤ t → Told w t 256
told-out {w} {t} h = record { is = λ ts X l. absurd (omega (arith, h, l)); none = λ l. refl }

pub told-none : {w : List ℕ} {t : ℕ} → t < 256 → get_or w (15760 + t) 0 ≡ 0 → Told w t 256
told-none {w} {t} l z = record { is = λ ts X k. ap (λ (p : Bool). pick p (index_of t ts) 256) (sym (missing w t l ts X z)); none = λ k. refl }

pub told-some : {w : List ℕ} {t : ℕ} → t < 256 → 0 < get_or w (15760 + t) 0 → Told w t (get_or w (15760 + t) 0 - 1)
told-some {w} {t} l z = record {
  is = λ ts X k. (let h = there w t l ts X z in let n : get_or w (15760 + t) 0 - 1 ≡ index_of t ts = omega (arith, h.1) in n ∙ ap (λ (p : Bool). pick p (index_of t ts) 256) (sym h.0));
  none = λ k. absurd (omega (arith, k, l));
}

-- what is kept of the texts where a node is added
texts-same : {w w' : List ℕ} {ts : List ℕ} → length w' ≡ length w → get_or w' 4 0 ≡ get_or w 4 0 → ((j : ℕ) → 15760 ≤ j → get_or w' j 0 ≡ get_or w j 0) → Texts w ts → Texts w' ts
texts-same z e h X = record { long = rw z X.long; count = e ∙ X.count; each = λ t l. h (15760 + t) (omega arith) ∙ X.each t l }

unused-same : {w w' : List ℕ} → Agree 1 4 w w' → Agree 7568 7824 w w' → Unused w → Unused w'
unused-same a b U = record {
  bindings = a 1 (omega arith) (omega arith) ∙ U.bindings;
  scopes = a 2 (omega arith) (omega arith) ∙ U.scopes;
  constants = a 3 (omega arith) (omega arith) ∙ U.constants;
  index = λ x l. b (7568 + x) (omega arith) (omega arith) ∙ U.index x l;
}

-- a node more in the tree
abbrev Added : List ℕ → List ℕ → Core → Type 0
Added w w' c = (tree w' ≡ tree w ++ (c ∷ [])) × Apart w w'

lit-kinds : (x : Raw) → 22 ≤ x.kind → x.kind ≤ 25 → is_lit x ≡ true
lit-kinds x h l = rw (le-leb 22 x.kind h, le-leb x.kind 25 l) refl

plain-kinds : (x : Raw) → (20 ≤ x.kind → 26 ≤ x.kind) → (is_lit x ≡ false) × (has_id x ≡ false)
plain-kinds x h = grind (arith, nat_tests)

module _ {bs w : List ℕ} {n t a k : ℕ} (L : Loading bs w n t a k) where
  abbrev s : Script
  s = script_of bs n t

  abbrev x : Raw
  x = get_or s.nodes k zero_node

  long-nodes : k < length s.nodes
  long-nodes = rw nodes-length L.less

  bare-long : k < length (bare s).nodes
  bare-long = omega (arith, long-nodes, bare-length s)

  pub loading-read : {y : Raw} → y ≡ raw_of (drop (32 + 16 * k) bs) → y ≡ x
  loading-read e = e ∙ sym (node-raw n k bs L.less)

  pub loading-sound : Sound (length s.texts) x
  loading-sound = node-sound s L.readable.ok k long-nodes

  pub loading-long : 16384 ≤ length w
  loading-long = L.loaded.texts.long

  -- a name's text is one of the file's
  pub loading-text : has_id x ≡ true → x.text < t
  loading-text h = omega (arith, text-low s L.readable.ok k long-nodes h, count-texts L.readable.placed)

  pub few-before : get_or w 4 0 ≤ 1024
  few-before = omega (arith, L.loaded.texts.count, names-few (bare s).nodes k (omega (arith, bare-long)), L.less, L.readable.few)

  pub arguments-are : has_id x ≡ true → is_arguments (bare s) (bare_node x) ≡ eqb x.text a
  arguments-are h = L.arguments.is x.text (text-low s L.readable.ok k long-nodes h)

  abbrev ns : List ℕ
  ns = names_of (take k (bare s).nodes)

  -- the texts of the next names
  next-name : has_id x ≡ true → names_of (take (k + 1) (bare s).nodes) ≡ with_number x.text ns
  next-name h =
      uses-next has_id text_number (bare s).nodes k bare-long
      ∙ used-name text_number ns (get_or (bare s).nodes k zero_node) (ap has_id (bare-at s k) ∙ h)
      ∙ ap (λ (y : Raw). with_number y.text ns) (bare-at s k)

  next-none : has_id x ≡ false → names_of (take (k + 1) (bare s).nodes) ≡ ns
  next-none h = uses-next has_id text_number (bare s).nodes k bare-long ∙ used-none text_number ns (get_or (bare s).nodes k zero_node) (ap has_id (bare-at s k) ∙ h)

  -- w₁ has the texts of one node more, and w₂ the node too
  more : {w₁ w₂ : List ℕ} {c : Core} → c ≡ core_node (bare s) (k + 1) (bare_node x) → tree w₁ ≡ tree w → get_or w₁ 0 0 ≡ get_or w 0 0 → Texts w₁ (names_of (take (k + 1) (bare s).nodes)) → Unused w₁ → Added w₁ w₂ c → Loaded bs w₂ n t (k + 1)
  more {w₁} {w₂} {c} e b z X U p = record {
    count = sym (tree-length w₂) ∙ ap (λ (xs : List Core). length xs) p.0 ∙ length-append (tree w₁) (c ∷ []) ∙ omega (arith, tree-length w₁, z, L.loaded.count);
    tree = p.0 ∙ ap₂ {C = List Core} (λ xs y. xs ++ (y ∷ [])) (b ∙ L.loaded.tree) (e ∙ ap (core_node (bare s) (k + 1)) (sym (bare-at s k))) ∙ sym (core-next (bare s) k bare-long);
    texts = texts-same p.1.size (p.1.low 4 (omega arith) (omega arith)) (λ j l. p.1.high j (omega arith)) X;
    unused = unused-same (λ j l h. p.1.low j l (omega arith)) (λ j l h. p.1.high j (omega arith)) U;
  }

  plain-step : {w₂ : List ℕ} {c : Core} → c ≡ core_node (bare s) (k + 1) (bare_node x) → has_id x ≡ false → Added w w₂ c → Step bs w w₂ n t k
  plain-step e h p = record { kept = kept_by p.1.size p.1.high; loaded = more e refl refl (subst (Texts w) (sym (next-none h)) L.loaded.texts) L.loaded.unused p }

  no-name : 22 ≤ x.kind → x.kind ≤ 25 → has_id x ≡ false
  no-name h l = rw (ne_eqb x.kind 20 (λ e. omega (arith, e)), ne_eqb x.kind 21 (λ e. omega (arith, e))) refl

  pub literal-step : {w₂ : List ℕ} → 22 ≤ x.kind → x.kind ≤ 25 → Added w w₂ (core 22 0 0 (k + 1)) → Step bs w w₂ n t k
  literal-step h l p = plain-step (sym (core-lit (bare s) (k + 1) (bare_node x) (lit-kinds (bare_node x) h l))) (no-name h l) p

  pub other-step : {w₂ : List ℕ} {kind form arity : ℕ} → kind ≡ x.kind → form ≡ x.form → arity ≡ x.arity → (20 ≤ x.kind → 26 ≤ x.kind) → Added w w₂ (core kind form arity (k + 1)) → Step bs w w₂ n t k
  other-step q f r h p = let z = plain-kinds x h in plain-step (rw (q, f, r) (sym (core-plain (bare s) (k + 1) (bare_node x) z.0 z.1))) z.1 p

  -- a name, whose text has number m
  pub name-step : {w₁ w₂ : List ℕ} {kind form arity m : ℕ} → has_id x ≡ true → kind ≡ x.kind → form ≡ to_nat (eqb x.text a) → arity ≡ x.arity → Entered w w₁ x.text m → Added w₁ w₂ (core kind form arity m) → Step bs w w₂ n t k
  name-step {w₁} {w₂} h q f r E p =
      let small = loading-text h in
      let kept : (j : ℕ) → (j ≡ 4 → ⊥) → (j < 15760) → get_or w₁ j 0 ≡ get_or w j 0 = λ j d l. E.other j d (λ e. omega (arith, e, l)) in
      let count : get_or w₁ 0 0 ≡ get_or w 0 0 = kept 0 (λ e. omega (arith, e)) (omega arith) in
      record {
        kept = kept_then (record { size = E.size; rest = beyond-same w w₁ E.size (λ j l. E.other j (λ e. omega (arith, e, l)) (λ e. omega (arith, e, l, small, L.readable.placed.stored.few))) }) (kept_by p.1.size p.1.high);
        loaded = more (core-ident (bare s) (k + 1) (bare_node x) q h (f ∙ ap to_nat (sym (arguments-are h))) r (E.is ns L.loaded.texts ∙ sym (number-now s k long-nodes h)))
            (tree-same w w₁ (omega (arith, L.loaded.count, L.less, L.readable.few)) count (λ j l g. kept j (λ e. omega (arith, e, l)) (omega (arith, g)))) count
            (subst (Texts w₁) (sym (next-name h)) (E.texts ns L.loaded.texts))
            (unused-same (λ j l g. kept j (λ e. omega (arith, e, g)) (omega (arith, g))) (λ j l g. kept j (λ e. omega (arith, e, l)) (omega (arith, g))) L.loaded.unused) p;
      }

-- no node is loaded yet: the five counts are wiped, the index, and the words of the texts
module _ {w w₁ w₂ w₃ : List ℕ} (a : Zeroed w w₁ 0 5) (b : Zeroed w₁ w₂ 7568 256) (c : Zeroed w₂ w₃ 15760 256) where
  wiped-count : (j : ℕ) → j < 5 → get_or w₃ j 0 ≡ 0
  wiped-count j l = c.low j (omega (arith, l)) ∙ b.low j (omega (arith, l)) ∙ ap (λ (i : ℕ). get_or w₁ i 0) (sym (zero-add j)) ∙ a.here j l

  pub none-loaded : 16384 ≤ length w → (bs : List ℕ) (n t : ℕ) → Loaded bs w₃ n t 0
  unfolding tree tab first_uses
  none-loaded long bs n t = record {
    count = wiped-count 0 (omega arith);
    tree = rw (wiped-count 0 (omega arith)) refl;
    texts = record { long = omega (arith, long, a.size, b.size, c.size); count = wiped-count 4 (omega arith); each = c.here };
    unused = record {
      bindings = wiped-count 1 (omega arith);
      scopes = wiped-count 2 (omega arith);
      constants = wiped-count 3 (omega arith);
      index = λ x l. c.low (7568 + x) (omega (arith, l)) ∙ b.here x l;
    };
  }

  pub none-kept : Kept w w₃
  none-kept = record {
    size = c.size ∙ b.size ∙ a.size;
    rest = beyond-same w w₃ (c.size ∙ b.size ∙ a.size) (λ j l. c.high j (omega (arith, l)) ∙ b.high j (omega (arith, l)) ∙ a.high j (omega (arith, l)));
  }

-- all nodes are loaded
module _ {bs w w₁ : List ℕ} {n t : ℕ} (R : Readable bs n t) (K : Kept w w₁) (l : Loaded bs w₁ n t n) where
  abbrev s' : Script
  s' = script_of bs n t

  all-nodes : length (bare s').nodes ≡ n
  all-nodes = bare-length s' ∙ nodes-length n (drop 32 bs)

  tree-is : tree w₁ ≡ core_nodes (bare s')
  tree-is = l.tree ∙ ap (λ (m : ℕ). take m (core_nodes (bare s'))) (sym all-nodes) ∙ core_all (bare s')

  texts-are : Texts w₁ (texts s')
  texts-are = subst (Texts w₁) (ap names_of (all-of (bare s').nodes n all-nodes)) l.texts
    where
      all-of : (xs : List Raw) (m : ℕ) → length xs ≡ m → take m xs ≡ xs
      all-of xs m e = take_all m xs (omega (arith, e))

  few-texts : length s'.texts ≤ 256
  few-texts = omega (arith, count-texts R.placed, R.placed.stored.few)

  good : Good w₁
  unfolding heads heads_at sum
  good =
      let f = l.unused in
      record {
        long = l.texts.long;
        nodes = omega (arith, l.count, R.few);
        count = rw f.bindings (omega arith);
        depth = rw f.scopes (omega arith);
        ccount = rw f.constants (omega arith);
        vals = rw f.bindings (omega arith);
        cvals = rw f.constants (omega arith);
        live = rw (f.bindings, f.constants) (omega arith);
        recorded = rw (f.bindings, f.constants) (omega arith);
        fits = rw f.scopes f.bindings;
        cfits = rw f.scopes f.constants;
        ids = λ k h. absurd (omega (arith, f.bindings, h));
        cids = λ k h. absurd (omega (arith, f.constants, h));
        names = rw tree-is (core-names s' R.ok few-texts);
        whole = λ k h. absurd (omega (arith, f.bindings, h));
        cwhole = λ k h. absurd (omega (arith, f.constants, h));
        beside = beside_none w₁ f.bindings f.scopes f.index;
        cfree = λ k h. absurd (omega (arith, f.constants, h));
      }

  pub names-loaded : {a b : ℕ} → Arguments s' a → Told w₁ a b → NamesLoaded bs w w₁ n t b
  names-loaded {a} {b} A N = record {
    kept = K;
    tree = tree-is;
    planted = record { good = good; one = rw tree-is (core-one s' R.ok few-texts) };
    stand = rw tree-is (core-stand s' R.ok few-texts);
    arguments = rw tree-is (core-arguments s' R.ok few-texts a b A (λ h. N.is (texts s') texts-are h) N.none);
  }
