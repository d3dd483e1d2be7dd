-- The nodes and texts of a readable file. Assumes nothing.
use Rattle.text_tokens.specs.Tokens.{script_at, node_of, own_of}
use Rattle.text_words.specs.Decimals.{decimal_text}
use Rattle.def_text.specs.Entry.{quoted, spell}
use Rattle.file_read.specs.declared.header.Header.{Header}
use Rattle.def_file.specs.Named.{is_kind}
use Rattle.def_file.specs.declared.kind.Kind.TheVariants as Kinds
use Rattle.def_file.specs.declared.Raw.{Raw}
use Rattle.std.proofs.Common.{◌≡◌, ℕ, ◌+◌, ◌-◌, ◌*◌, ◌<◌, ◌≤◌, ◌⊎◌, inl, inr, Bool, true, false, ◌&&◌, eqb, leb, List, [], ◌∷◌, length, get_or, take, drop, refl, sym, ap, subst, arith, length-take, length-drop}
use Rattle.std.specs.Prelude.{T}
use lib.Dec.{ltb→lt}
use lib.ListN.{get_or-eq_default}
use Rattle.std.proofs.lemmas.Bool.{cases_lt, eqb-true}
use Rattle.def_tree.specs.Base.{pick}
use Rattle.def_file.specs.declared.kinds.Class.TheVariants.{Root}
use Rattle.def_file.specs.Kinds.{uses_text}
use Rattle.def_file.specs.Script.{zero_node, text_at}
use Rattle.def_file.specs.Read.{nodes_ok}
use Rattle.laws_roundtrip.proofs.Texts.{texts-length}
use Rattle.laws_pass.proofs.All.{get_d-in}
use Rattle.laws_pass.proofs.Again.{Fine, all-fine, texted}
use Rattle.file_read.specs.Text.{part, text_in}
use Rattle.file_read.specs.Load.{script_of, Readable}
use Rattle.file_read.proofs.Raws.{nodes-length}
use Rattle.file_read.proofs.Strings.{text-is}

module _ {bs : List ℕ} {n t : ℕ} (R : Readable bs n t) where
  texts-are : length (script_of bs n t).texts ≡ t
  texts-are = texts-length t 0 (drop (32 + 16 * n) bs) (drop (32 + 16 * n + 4 * t) bs)

  pub text-few : (k : ℕ) → k < n → T (uses_text (get_or (script_of bs n t).nodes k zero_node).kind) → (get_or (script_of bs n t).nodes k zero_node).text < t
  unfolding nodes_ok
  text-few k h u =
      let s = script_of bs n t in
      let x = get_or s.nodes k zero_node in
      let all = all-fine (length s.texts) s.nodes (record { class = Root; left = 200 } ∷ []) (subst T (sym R.ok) tt) in
      let f = get_d-in (Fine (length s.texts)) s.nodes k zero_node all (omega (arith, nodes-length n (drop 32 bs))) in
      omega (arith, ltb→lt x.text (length s.texts) (texted (length s.texts) x u f.fields), texts-are)

  pub text-there : (k : ℕ) → k < t → text_in bs (32 + 16 * n) (32 + 16 * n + 4 * t) k ≡ text_at (script_of bs n t) k
  text-there k h = sym (text-is R.placed k h)

part-short : (bs : List ℕ) (a b : ℕ) → length (part bs a b) ≤ length bs
part-short bs a b = go (leb a b && leb b (length bs))
  where
    go : (c : Bool) → length (pick c (take (b - a) (drop a bs)) []) ≤ length bs
    go true = omega (arith, length-take (b - a) (drop a bs), length-drop a bs)
    go false = omega arith

pub text-short : (bs : List ℕ) (e f k : ℕ) → length (text_in bs e f k) ≤ length bs
unfolding text_in
text-short bs e f k = part-short bs _ _

pub text-at-short : {bs : List ℕ} {n t : ℕ} → Readable bs n t → (k : ℕ) → length (text_at (script_of bs n t) k) ≤ length bs
text-at-short {bs} {n} {t} R k = go (cases_lt k t)
  where
    go : (k < t) ⊎ (t ≤ k) → length (text_at (script_of bs n t) k) ≤ length bs
    go (inl h) = omega (arith, ap length (text-there R k h), text-short bs (32 + 16 * n) (32 + 16 * n + 4 * t) k)
    go (inr h) = let e : text_at (script_of bs n t) k ≡ [] = get_or-eq_default (script_of bs n t).texts [] {n = k} (omega (arith, texts-are R)) in omega (arith, ap length e)

-- ---- a node's own token by its kind

module _ (bs : List ℕ) (h : Header) (k : ℕ) where
  abbrev x : Raw
  x = node_of bs h k

  pub number-own : x.kind ≡ 24 → own_of bs h k ≡ decimal_text x.bits
  number-own e = ap (λ (j : ℕ). spell decimal_text (script_at bs h) j (pick (uses_text j) x.text (pick (is_kind Kinds.Number j) x.bits 0))) e

  pub string-own : x.kind ≡ 25 → own_of bs h k ≡ quoted (text_at (script_at bs h) x.text)
  string-own e = ap (λ (j : ℕ). spell decimal_text (script_at bs h) j (pick (uses_text j) x.text (pick (is_kind Kinds.Number j) x.bits 0))) e

  pub text-own : T (uses_text x.kind) → (x.kind ≡ 25 → ⊥) → (x.kind ≡ 24 → ⊥) → own_of bs h k ≡ text_at (script_at bs h) x.text
  text-own u s n = go (uses_text x.kind) u (eqb x.kind 24) refl (eqb x.kind 25) refl
    where
      go : (a : Bool) → T a → (b : Bool) → eqb x.kind 24 ≡ b → (c : Bool) → eqb x.kind 25 ≡ c
          → pick b (decimal_text (pick a x.text (pick b x.bits 0))) (pick c (quoted (text_at (script_at bs h) (pick a x.text (pick b x.bits 0)))) (text_at (script_at bs h) (pick a x.text (pick b x.bits 0)))) ≡ text_at (script_at bs h) x.text
      go true t true e c f = absurd (n (eqb-true x.kind 24 e))
      go true t false e true f = absurd (s (eqb-true x.kind 25 f))
      go true t false e false f = refl
      go false t b e c f = absurd t
