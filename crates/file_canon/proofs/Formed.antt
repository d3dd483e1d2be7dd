-- The canonical form of the script that the file holds, by the numbers that the words hold. Assumes nothing.
use mathlib.Core.Path.{◌≡◌, refl, sym, ap, ◌∙◌}
use mathlib.Core.Bool.{Bool, true, false, ◌||◌}
use mathlib.Core.List.{List, [], ◌∷◌, map}
use Prim.Native.Nat.{ℕ, zero, suc, ◌+◌, ◌*◌, ◌≤◌, ◌<◌}
use native.Mathlib.Omega.{arith}
use lib.Dec.{eqb}
use lib.ListN.{length, get_or, drop, length-map, get_or-map}
use Rattle.def_file.specs.declared.Raw.{Raw}
use Rattle.def_file.specs.Kinds.{uses_text}
use Rattle.def_file.specs.Script.{Script, has_id, zero_node, text_at}
use Rattle.def_canon.specs.Canon.{index_of, has_text_number, context, texts_used, contexts_used, canon_node, canon}
use Rattle.def_tree.proofs.Tests.{is_T}
use Rattle.laws_canon.proofs.Uses.{uses-few}
use Rattle.file_read.specs.Text.{text_in}
use Rattle.file_read.proofs.Raws.{nodes-length}
use Rattle.file_read.proofs.Strings.{text-is}
use Rattle.file_read.specs.declared.header.Header.{Header}
use Rattle.file_copy.proofs.Zeros.{node-zeros}
use Rattle.file_canon.specs.Uses.{used_at, uses_of, Holds}
use Rattle.file_canon.specs.Form.{read_of, form_of, Held}
use Rattle.file_canon.proofs.Numbers.{uses-length, uses-at}

same-fields : {k f n t b t' b' : ℕ} → t ≡ t' → b ≡ b' → ◌≡◌ {A = Raw} (record { kind = k; form = f; arity = n; text = t; bits = b }) (record { kind = k; form = f; arity = n; text = t'; bits = b' })
same-fields p q = cc

-- a name uses a text
named-texted : (k : ℕ) → (eqb k 20 || eqb k 21) ≡ true → uses_text k ≡ true
named-texted k e = rw e refl

map-at : (f : ℕ → List ℕ) (ns : List ℕ) (i : ℕ) → i < length ns → get_or (map f ns) i [] ≡ f (get_or ns i 0)
map-at f [] i l = absurd (omega (arith, l))
map-at f (n ∷ ns) zero l = refl
map-at f (n ∷ ns) (suc i) l = map-at f ns i (omega (arith, l))

module _ {bs w : List ℕ} {h : Header} (H : Held bs w h) where
  abbrev s : Script
  s = read_of bs h

  abbrev ts : List ℕ
  ts = texts_used s

  abbrev cs : List ℕ
  cs = contexts_used s

  nodes-count : length s.nodes ≡ h.nodes
  nodes-count = nodes-length h.nodes (drop 32 bs)

  texts-used : uses_of w 8336 ≡ ts
  unfolding texts_used
  texts-used = H.used.texts

  contexts-used : uses_of w 10385 ≡ cs
  unfolding contexts_used
  contexts-used = H.used.contexts

  form-texts : (form_of bs h).texts ≡ map (text_at s) ts
  unfolding form_of canon
  form-texts = refl

  form-nodes : (form_of bs h).nodes ≡ map (canon_node ts cs) s.nodes
  unfolding form_of canon
  form-nodes = refl

  pub texts-length : length (uses_of w 8336) ≡ length (form_of bs h).texts
  texts-length = ap length texts-used ∙ sym (ap length form-texts ∙ length-map ts (text_at s))

  pub form-length : length (form_of bs h).nodes ≡ h.nodes
  form-length = ap length form-nodes ∙ length-map s.nodes (canon_node ts cs) ∙ nodes-count

  few-contexts : length cs ≤ length s.nodes
  unfolding contexts_used
  few-contexts = omega (arith, uses-few has_id context [] s.nodes)

  pub holds-texts : Holds w 8336
  holds-texts = record { long = H.used.long; low = omega arith; high = omega arith; few = omega (arith, texts-length, H.few) }

  pub holds-contexts : Holds w 10385
  holds-contexts = record { long = H.used.long; low = omega arith; high = omega arith; few = omega (arith, ap length contexts-used, few-contexts, nodes-count, H.readable.few) }

  -- a node of the form, by that of the script
  module _ (k : ℕ) (l : k < h.nodes) (x : Raw) (e : x ≡ get_or s.nodes k zero_node) where
    node-is : canon_node ts cs x ≡ get_or (form_of bs h).nodes k zero_node
    node-is = ap (canon_node ts cs) e ∙ sym (ap (λ (ys : List Raw). get_or ys k zero_node) form-nodes ∙ get_or-map (canon_node ts cs) s.nodes k zero_node)

    no-text : has_text_number x ≡ false → x.text ≡ 0
    no-text q = ap (λ (y : Raw). y.text) e ∙ (node-zeros s H.readable.ok k (omega (arith, nodes-count))).text (ap has_text_number (sym e) ∙ q)

    no-name : has_text_number x ≡ false → has_id x ≡ false
    no-name q = go (has_id x) refl
      where
        go : (p : Bool) → has_id x ≡ p → p ≡ false
        go true r = absurd (is_T false (sym q ∙ named-texted x.kind r))
        go false r = refl

    pub plain-node : has_text_number x ≡ false → x ≡ get_or (form_of bs h).nodes k zero_node
    plain-node q = same-fields (no-text q) refl ∙ sym (rw (q, no-name q) refl) ∙ node-is

    module _ (q : has_text_number x ≡ true) (t : ℕ) (p : t ≡ index_of x.text (uses_of w 8336)) where
      pub texted-node : has_id x ≡ false → record { kind = x.kind; form = x.form; arity = x.arity; text = t; bits = x.bits } ≡ get_or (form_of bs h).nodes k zero_node
      texted-node r = same-fields (p ∙ ap (index_of x.text) texts-used) refl ∙ sym (rw (q, r) refl) ∙ node-is

      pub named-node : has_id x ≡ true → (b : ℕ) → b ≡ index_of x.bits (uses_of w 10385) → record { kind = x.kind; form = x.form; arity = x.arity; text = t; bits = b } ≡ get_or (form_of bs h).nodes k zero_node
      named-node r b u = same-fields (p ∙ ap (index_of x.text) texts-used) (u ∙ ap (index_of x.bits) contexts-used) ∙ sym (rw (q, r) refl) ∙ node-is

  -- a text of the form
  module _ (i : ℕ) (l : i < length (form_of bs h).texts) where
    number-there : used_at w 8336 i ≡ get_or ts i 0
    number-there = sym (uses-at w 8336 i (omega (arith, uses-length w 8336, texts-length))) ∙ ap (λ (ns : List ℕ). get_or ns i 0) texts-used

    in-ts : i < length ts
    in-ts = omega (arith, ap length texts-used, texts-length)

    pub text-known : used_at w 8336 i < h.texts
    text-known = omega (arith, number-there, H.known i in-ts)

    pub text-there : text_in bs (32 + 16 * h.nodes) (32 + 16 * h.nodes + 4 * h.texts) (used_at w 8336 i) ≡ get_or (form_of bs h).texts i []
    text-there =
        sym (text-is H.readable.placed (used_at w 8336 i) text-known) ∙ ap (text_at s) number-there
        ∙ sym (ap (λ (us : List (List ℕ)). get_or us i []) form-texts ∙ map-at (text_at s) ts i in-ts)
