-- The canonical form of a script that was read: it differs from the script only as it may, and fits a file. Assumes nothing.
use mathlib.Core.Path.{◌≡◌, refl, sym, ap, ap₂, ◌∙◌, subst}
use mathlib.Core.Bool.{Bool, true, false, ◌||◌}
use mathlib.Core.List.{List, [], ◌∷◌, map}
use Prim.Native.Nat.{ℕ, zero, suc, ◌-◌, ◌≤◌, ◌<◌}
use native.Mathlib.Omega.{arith}
use lib.Dec.{T, eqb, ltb, lt→ltb}
use lib.ListN.{length, get_or, length-map, get_or-map}
use Rattle.def_tree.specs.Base.{pick, member}
use Rattle.def_file.specs.declared.Raw.{Raw}
use Rattle.def_file.specs.declared.kinds.Class.TheVariants.{Root}
use Rattle.def_file.specs.Kinds.{row_of, child_of, uses_text, uses_bits}
use Rattle.def_file.specs.Script.{Script, has_id, text_at, zero_node, idents}
use Rattle.def_file.specs.Read.{Place, fields_ok, node_ok, below, fills, nodes_ok}
use Rattle.def_file.specs.Write.{text_bytes}
use Rattle.laws_roundtrip.specs.Fits.{Bytes, Narrow, Fits}
use Rattle.def_file.proofs.Tested.{tested, all-tests}
use Rattle.def_tree.proofs.Tests.{is_T, is_true, and_right, both}
use Rattle.laws_pass.proofs.All.{All, get_d-in}
use Rattle.laws_pass.proofs.Pairs.{Twins, idents-twins}
use Rattle.def_canon.specs.Canon.{index_of, has_text_number, text_number, context, texts_used, contexts_used, canon_node, canon}
use Rattle.def_canon.specs.Differ.{Differ}
use Rattle.laws_canon.proofs.Uses.{index-le, index-lt, index_is, index-eqb, Lone, all-used, uses-lone, uses-few, uses-all, zip-ext}
use Rattle.laws_canon.proofs.Weights.{fewer, shorter}
use Rattle.laws_canon.proofs.Texts.{some_distinct}
use Rattle.laws_canon.proofs.Same.{Sound, in-range, Like, OneToOne, differs, paired}

twins-length : (a b : Script) (us vs : List Raw) → Twins a b us vs → length us ≡ length vs
twins-length a b [] [] h = refl
twins-length a b [] (v ∷ vs) h = absurd h
twins-length a b (u ∷ us) [] h = absurd h
twins-length a b (u ∷ us) (v ∷ vs) h = ap suc (twins-length a b us vs h.1)

module _ (s : Script) (o : Sound s) where
  abbrev ts : List ℕ
  ts = texts_used s

  abbrev cs : List ℕ
  cs = contexts_used s

  abbrev renumbered : Raw → Raw
  renumbered x = canon_node ts cs x

  abbrev Texted : Raw → Type 0
  Texted x = T (uses_text x.kind) → T (member x.text ts)

  abbrev Placed : Raw → Type 0
  Placed x = T (has_id x) → T (member x.bits cs)

  texted : All Texted s.nodes
  unfolding texts_used
  texted = all-used has_text_number text_number [] s.nodes

  placed : All Placed s.nodes
  unfolding contexts_used
  placed = all-used has_id context [] s.nodes

  ranged : All (λ (n : ℕ). n < length s.texts) ts
  unfolding texts_used
  ranged = uses-all has_text_number text_number (λ (n : ℕ). n < length s.texts) [] s.nodes tt (in-range s o)

  lone : Lone ts
  unfolding texts_used
  lone = uses-lone has_text_number text_number [] s.nodes tt

  -- a context, and its new number
  abbrev Renumbered : ℕ → ℕ → Type 0
  Renumbered c d = T (member c cs) × (d ≡ index_of c cs)

  one-to-one : OneToOne Renumbered
  one-to-one x u y v p q = index-eqb x u cs p.0 q.0 ∙ sym (ap₂ eqb p.1 q.1)

  like : (x : Raw) → Texted x → Placed x → Like s.texts (map (text_at s) ts) Renumbered x (renumbered x)
  like x t c = record {
    agree = record { kinds = refl; forms = refl; arities = refl };
    text = text (uses_text x.kind) refl;
    bits = λ e. sym (ap (λ (p : Bool). pick p (index_of x.bits cs) x.bits) e);
    context = λ h. (c h, ap (λ (p : Bool). pick p (index_of x.bits cs) x.bits) (is_true (has_id x) h));
  }
    where
      text : (p : Bool) → uses_text x.kind ≡ p → T p → text_at s x.text ≡ get_or (map (text_at s) ts) (pick p (index_of x.text ts) 0) []
      text true e h = sym (index_is (text_at s) [] x.text ts (t (is_T (uses_text x.kind) e)))
      text false e h = absurd h

  pub differ-canon : Differ s (canon s)
  unfolding canon
  differ-canon =
      differs s (canon s) Renumbered one-to-one
      (zip-ext (Like s.texts (map (text_at s) ts) Renumbered) s.nodes (map renumbered s.nodes) (sym (length-map s.nodes renumbered))
      (λ i l. subst (λ (y : Raw). Like s.texts (map (text_at s) ts) Renumbered (get_or s.nodes i zero_node) y) (sym (get_or-map renumbered s.nodes i zero_node)) (like (get_or s.nodes i zero_node) (get_d-in Texted s.nodes i zero_node texted l) (get_d-in Placed s.nodes i zero_node placed l))))

  -- its nodes stand where the script's do
  abbrev t' : ℕ
  t' = length (map (text_at s) ts)

  below-same : (x : Raw) (n i m : ℕ) (ps : List Place) → below n x i m ps ≡ below n (renumbered x) i m ps
  unfolding below
  below-same x n i zero ps = refl
  below-same x n i (suc m) ps = ap (λ (qs : List Place). record { class = child_of (row_of x.kind x.form) x.arity i; left = n } ∷ qs) (below-same x n (suc i) m ps)

  fields-same : (x : Raw) → Texted x → T (fields_ok (length s.texts) x) → T (fields_ok t' (renumbered x))
  fields-same x h k =
      both (pick (uses_text x.kind) (ltb (pick (uses_text x.kind) (index_of x.text ts) 0) t') (eqb (pick (uses_text x.kind) (index_of x.text ts) 0) 0)) (uses_bits x.kind || eqb (pick (has_id x) (index_of x.bits cs) x.bits) 0)
      (text (uses_text x.kind) refl) (bits (eqb x.kind 20) (eqb x.kind 21) (eqb x.kind 24) (and_right (pick (uses_text x.kind) (ltb x.text (length s.texts)) (eqb x.text 0)) (uses_bits x.kind || eqb x.bits 0) k))
    where
      text : (p : Bool) → uses_text x.kind ≡ p → T (pick p (ltb (pick p (index_of x.text ts) 0) t') (eqb (pick p (index_of x.text ts) 0) 0))
      text true e = lt→ltb (index_of x.text ts) t' (subst (λ (m : ℕ). index_of x.text ts < m) (sym (length-map ts (text_at s))) (index-lt x.text ts (h (is_T (uses_text x.kind) e))))
      text false e = tt

      bits : (u v w : Bool) → T (u || v || w || eqb x.bits 0) → T (u || v || w || eqb (pick (u || v) (index_of x.bits cs) x.bits) 0)
      bits true v w k = tt
      bits false true w k = tt
      bits false false true k = tt
      bits false false false k = k

  node-same : (p : Place) (x : Raw) → Texted x → T (node_ok (length s.texts) p x) → T (node_ok t' p (renumbered x))
  node-same p x h k =
      let o = tested (length s.texts) p x k in
      all-tests t' p (renumbered x) (record { room = o.room; allowed = o.allowed; fields = fields-same x h o.fields; form = o.form; count = o.count })

  refill : (xs : List Raw) (ps : List Place) → All Texted xs → T (fills (length s.texts) ps xs) → T (fills t' ps (map renumbered xs))
  unfolding fills
  refill [] [] h k = tt
  refill [] (p ∷ ps) h k = absurd k
  refill (x ∷ xs) [] h k = absurd k
  refill (x ∷ xs) (p ∷ ps) h k = go (node_ok (length s.texts) p x) refl k (λ m. refill xs (below (p.left - 1) x 0 x.arity ps) h.1 m)
    where
      go : (q : Bool) → node_ok (length s.texts) p x ≡ q → T (elim q as (λ z. Bool) [ true ↦ fills (length s.texts) (below (p.left - 1) x 0 x.arity ps) xs | false ↦ false ]) → (T (fills (length s.texts) (below (p.left - 1) x 0 x.arity ps) xs) → T (fills t' (below (p.left - 1) x 0 x.arity ps) (map renumbered xs))) → T (elim (node_ok t' p (renumbered x)) as (λ z. Bool) [ true ↦ fills t' (below (p.left - 1) (renumbered x) 0 x.arity ps) (map renumbered xs) | false ↦ false ])
      go true e k f = subst (λ (q : Bool). T (elim q as (λ z. Bool) [ true ↦ fills t' (below (p.left - 1) (renumbered x) 0 x.arity ps) (map renumbered xs) | false ↦ false ])) (sym (is_true (node_ok t' p (renumbered x)) (node-same p x h.0 (is_T (node_ok (length s.texts) p x) e)))) (subst (λ (qs : List Place). T (fills t' qs (map renumbered xs))) (below-same x (p.left - 1) 0 x.arity ps) (f k))
      go false e k f = absurd k

  pub sound : Sound (canon s)
  unfolding canon nodes_ok
  sound = record {
    apart = some_distinct s.texts o.apart ts ranged lone;
    shape = is_true (nodes_ok (canon s)) (refill s.nodes (record { class = Root; left = 200 } ∷ []) texted (is_T (nodes_ok s) o.shape));
  }

  -- it fits a file
  module _ (f : Fits s) where
    few_texts : length ts ≤ length s.texts
    few_texts = fewer s.texts ts lone ranged

    few_contexts : length cs ≤ length s.nodes
    unfolding contexts_used
    few_contexts = (let l = uses-few has_id context [] s.nodes in omega (arith, l))

    narrow : (x : Raw) → Narrow x → Narrow (renumbered x)
    narrow x h = record { kind = h.kind; form = h.form; arity = h.arity; text = text (uses_text x.kind); bits = bits (has_id x) }
      where
        text : (p : Bool) → pick p (index_of x.text ts) 0 < 4294967296
        text true = omega (arith, index-le x.text ts, few_texts, f.texts)
        text false = omega arith

        bits : (p : Bool) → pick p (index_of x.bits cs) x.bits < 18446744073709551616
        bits true = omega (arith, index-le x.bits cs, few_contexts, f.few)
        bits false = h.bits

    texts-bytes : (ns : List ℕ) (k : ℕ) → Bytes (get_or (map (text_at s) ns) k [])
    texts-bytes [] k = λ i. omega arith
    texts-bytes (n ∷ ns) zero = f.bytes n
    texts-bytes (n ∷ ns) (suc k) = texts-bytes ns k

    pub canon-fits : Fits (canon s)
    unfolding canon
    canon-fits =
        let n = length-map s.nodes renumbered in
        let t = length-map ts (text_at s) in
        record {
          narrow = λ k. subst Narrow (sym (get_or-map renumbered s.nodes k zero_node)) (narrow (get_or s.nodes k zero_node) (f.narrow k));
          bytes = texts-bytes ts;
          some = omega (arith, n, f.some);
          few = omega (arith, n, f.few);
          texts = omega (arith, t, few_texts, f.texts);
          size = omega (arith, shorter s.texts ts lone, f.size);
          apart = sound.apart;
          shape = sound.shape;
          names = omega (arith, twins-length s (canon s) (idents s) (idents (canon s)) (idents-twins s (canon s) (paired s (canon s) o sound differ-canon)), f.names);
        }

    -- and is not longer than the script
    pub canon-short : (length (canon s).nodes ≡ length s.nodes) × (length (canon s).texts ≤ length s.texts) × (length (text_bytes (canon s).texts) ≤ length (text_bytes s.texts))
    unfolding canon
    canon-short = (length-map s.nodes renumbered, omega (arith, length-map ts (text_at s), few_texts), shorter s.texts ts lone)
