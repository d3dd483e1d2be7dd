-- Scripts that differ only in text numbering, in unused texts, and by a one-to-one change of contexts: node for node; they have one canonical form, and
-- they are paired. Assumes nothing.
use mathlib.Core.Path.{◌≡◌, refl, sym, ap, ap₂, ◌∙◌, subst}
use mathlib.Core.Logic.{inr}
use mathlib.Core.Bool.{Bool, true, false, ◌&&◌, ◌||◌}
use mathlib.Core.List.{List, [], ◌∷◌}
use Prim.Native.Nat.{ℕ, zero, suc, ◌≤◌, ◌<◌, suc-le-suc, zero-le}
use native.Mathlib.Omega.{arith}
use lib.Dec.{T, eqb, ltb→lt}
use lib.ListN.{length, get_or}
use Rattle.def_tree.specs.Base.{pick}
use Rattle.def_file.specs.declared.Raw.{Raw}
use Rattle.def_file.specs.declared.kinds.Class.TheVariants.{Root}
use Rattle.def_file.specs.Kinds.{uses_text}
use Rattle.def_file.specs.Script.{Script, has_id, same_text, arguments, text_at, node_at, zero_node}
use Rattle.def_file.specs.Read.{nodes_ok, distinct, script, read}
use Rattle.def_pass.specs.Paired.{Agree, Number, Paired}
use Rattle.laws_roundtrip.proofs.Round.{found}
use Rattle.def_tree.proofs.Tests.{is_T}
use Rattle.laws_pass.proofs.All.{All, get_d-in}
use Rattle.laws_pass.proofs.Again.{Fine, all-fine, texted, id-text}
use Rattle.def_canon.specs.Canon.{index_of, has_text_number, text_number, context, texts_used, contexts_used, canon_node, canon}
use Rattle.def_canon.specs.Differ.{Differ}
use Rattle.laws_canon.proofs.Uses.{AllZip, Mate, zip-index, zip-uses, zip-ext, zip-at, zip-length, zip-maps, zip-mono}
use Rattle.laws_canon.proofs.Texts.{text-eqb}

-- what reading tells: no two texts are equal, and the nodes fill their places, so that each text number that is used is that of a text
pub record Sound (s : Script) : Type 0 where
  pub apart : distinct s.texts ≡ true
  pub shape : nodes_ok s ≡ true

pub sound_read : (bs : List ℕ) (s : Script) → read bs ≡ script s → Sound s
sound_read bs s h = let f = found bs s h in record { apart = f.apart; shape = f.shape }

pub in-range : (s : Script) → Sound s → All (λ (x : Raw). T (uses_text x.kind) → x.text < length s.texts) s.nodes
unfolding nodes_ok
in-range s o = go s.nodes (all-fine (length s.texts) s.nodes (record { class = Root; left = 200 } ∷ []) (is_T (nodes_ok s) o.shape))
  where
    go : (xs : List Raw) → All (Fine (length s.texts)) xs → All (λ (x : Raw). T (uses_text x.kind) → x.text < length s.texts) xs
    go [] h = tt
    go (x ∷ xs) h = ((λ u. ltb→lt x.text (length s.texts) (texted (length s.texts) x u h.0.fields)), go xs h.1)

-- nodes that differ only so, of scripts with the texts ts and us: their contexts are in a relation
pub record Like (ts us : List (List ℕ)) (P : ℕ → ℕ → Type 0) (x y : Raw) : Type 0 where
  pub agree : Agree x y
  pub text : T (uses_text x.kind) → get_or ts x.text [] ≡ get_or us y.text []
  pub bits : has_id x ≡ false → x.bits ≡ y.bits
  pub context : T (has_id x) → P x.bits y.bits

abbrev pub OneToOne : (ℕ → ℕ → Type 0) → Type 0
OneToOne P = (x u y v : ℕ) → P x y → P u v → eqb x u ≡ eqb y v

pub differs : (a b : Script) (P : ℕ → ℕ → Type 0) → OneToOne P → AllZip (Like a.texts b.texts P) a.nodes b.nodes → Differ a b
differs a b P one h = record {
  count = zip-length (Like a.texts b.texts P) a.nodes b.nodes h;
  shape = λ n r. (at n r).agree;
  texts = λ n r. (at n r).text;
  bits = λ n r. (at n r).bits;
  contexts = λ m n r q t u. one (node_at a m).bits (node_at a n).bits (node_at b m).bits (node_at b n).bits ((at m r).context t) ((at n q).context u);
}
  where
    at : (n : ℕ) → Number a n → Like a.texts b.texts P (node_at a n) (node_at b n)
    at zero r = absurd (omega (arith, r.0))
    at (suc i) r = zip-at (Like a.texts b.texts P) a.nodes b.nodes h i r.1

-- the contexts of nodes of one number
pub record Context (a b : Script) (c d : ℕ) : Type 0 where
  pub place : ℕ
  pub number : Number a place
  pub has : T (has_id (node_at a place))
  pub left : c ≡ (node_at a place).bits
  pub right : d ≡ (node_at b place).bits

module _ (a b : Script) (d : Differ a b) where
  pub one-to-one : OneToOne (Context a b)
  one-to-one x u y v p q = ap₂ eqb p.left q.left ∙ d.contexts p.place q.place p.number q.number p.has q.has ∙ sym (ap₂ eqb p.right q.right)

  pub like-at : (i : ℕ) → i < length a.nodes → Like a.texts b.texts (Context a b) (node_at a (suc i)) (node_at b (suc i))
  like-at i l =
      let r : Number a (suc i) = (suc-le-suc zero-le, l) in
      record {
        agree = d.shape (suc i) r;
        text = d.texts (suc i) r;
        bits = d.bits (suc i) r;
        context = λ t. record { place = suc i; number = r; has = t; left = refl; right = refl };
      }

  like : AllZip (Like a.texts b.texts (Context a b)) a.nodes b.nodes
  like = zip-ext (Like a.texts b.texts (Context a b)) a.nodes b.nodes d.count like-at

-- numbers of texts of the same bytes
record Word (ts us : List (List ℕ)) (n m : ℕ) : Type 0 where
  words : get_or ts n [] ≡ get_or us m []
  left : n < length ts
  right : m < length us

raw-same : (k k' f f' r r' t t' b b' : ℕ) → k ≡ k' → f ≡ f' → r ≡ r' → t ≡ t' → b ≡ b'
    → ◌≡◌ {A = Raw} (record { kind = k; form = f; arity = r; text = t; bits = b }) (record { kind = k'; form = f'; arity = r'; text = t'; bits = b' })
raw-same k k' f f' r r' t t' b b' p q s u v = cc

module _ (a b : Script) (A : Sound a) (B : Sound b) (d : Differ a b) where
  abbrev W : ℕ → ℕ → Type 0
  W = Word a.texts b.texts

  abbrev L : Raw → Raw → Type 0
  L = Like a.texts b.texts (Context a b)

  one-word : OneToOne W
  one-word x u y v p q = text-eqb a.texts A.apart x u p.left q.left ∙ ap₂ same_text p.words q.words ∙ sym (text-eqb b.texts B.apart y v p.right q.right)

  -- nodes of one number, with their texts
  record Kin (x y : Raw) : Type 0 where
    like : L x y
    word : T (uses_text x.kind) → W x.text y.text

  kin-at : (i : ℕ) → i < length a.nodes → Kin (node_at a (suc i)) (node_at b (suc i))
  kin-at i l =
      let k = like-at a b d i l in
      record {
        like = k;
        word = λ u. record {
          words = k.text u;
          left = get_d-in (λ (x : Raw). T (uses_text x.kind) → x.text < length a.texts) a.nodes i zero_node (in-range a A) l u;
          right = get_d-in (λ (x : Raw). T (uses_text x.kind) → x.text < length b.texts) b.nodes i zero_node (in-range b B) (subst (λ (m : ℕ). i < m) d.count l) (subst (λ (m : ℕ). T (uses_text m)) k.agree.kinds u);
        };
      }

  kin : AllZip Kin a.nodes b.nodes
  kin = zip-ext Kin a.nodes b.nodes d.count kin-at

  texts-zip : AllZip W (texts_used a) (texts_used b)
  unfolding texts_used
  texts-zip =
      zip-uses W one-word has_text_number text_number a.nodes b.nodes
      (zip-mono Kin (Mate W has_text_number text_number) (λ x y k. record { both = ap uses_text k.like.agree.kinds; pair = k.word }) a.nodes b.nodes kin) [] [] tt

  contexts-zip : AllZip (Context a b) (contexts_used a) (contexts_used b)
  unfolding contexts_used
  contexts-zip =
      zip-uses (Context a b) (one-to-one a b d) has_id context a.nodes b.nodes
      (zip-mono L (Mate (Context a b) has_id context) (λ x y k. record { both = ap (λ (m : ℕ). eqb m 20 || eqb m 21) k.agree.kinds; pair = k.context }) a.nodes b.nodes (like a b d)) [] [] tt

  node_same : (x y : Raw) → Kin x y → canon_node (texts_used a) (contexts_used a) x ≡ canon_node (texts_used b) (contexts_used b) y
  node_same x y k =
      let g = k.like.agree in
      raw-same x.kind y.kind x.form y.form x.arity y.arity
      (pick (uses_text x.kind) (index_of x.text (texts_used a)) 0) (pick (uses_text y.kind) (index_of y.text (texts_used b)) 0)
      (pick (has_id x) (index_of x.bits (contexts_used a)) x.bits) (pick (has_id y) (index_of y.bits (contexts_used b)) y.bits)
      g.kinds g.forms g.arities
      (text (uses_text x.kind) refl ∙ ap (λ (m : ℕ). pick (uses_text m) (index_of y.text (texts_used b)) 0) g.kinds)
      (bits (has_id x) refl ∙ ap (λ (m : ℕ). pick (eqb m 20 || eqb m 21) (index_of y.bits (contexts_used b)) y.bits) g.kinds)
    where
      text : (p : Bool) → uses_text x.kind ≡ p → pick p (index_of x.text (texts_used a)) 0 ≡ pick p (index_of y.text (texts_used b)) 0
      text true e = zip-index W one-word x.text y.text (k.word (is_T (uses_text x.kind) e)) (texts_used a) (texts_used b) texts-zip
      text false e = refl

      bits : (p : Bool) → has_id x ≡ p → pick p (index_of x.bits (contexts_used a)) x.bits ≡ pick p (index_of y.bits (contexts_used b)) y.bits
      bits true e = zip-index (Context a b) (one-to-one a b d) x.bits y.bits (k.like.context (is_T (has_id x) e)) (contexts_used a) (contexts_used b) contexts-zip
      bits false e = k.like.bits e

  pub same-canon : canon a ≡ canon b
  unfolding canon
  same-canon =
      ap₂ {C = Script} (λ (xs : List Raw) (ts : List (List ℕ)). record { nodes = xs; texts = ts })
      (zip-maps Kin (canon_node (texts_used a) (contexts_used a)) (canon_node (texts_used b) (contexts_used b)) node_same a.nodes b.nodes kin)
      (zip-maps W (text_at a) (text_at b) (λ n m w. w.words) (texts_used a) (texts_used b) texts-zip)

  kin-of : (n : ℕ) → Number a n → Kin (node_at a n) (node_at b n)
  kin-of zero r = absurd (omega (arith, r.0))
  kin-of (suc i) r = kin-at i r.1

  pub paired : Paired a b
  paired = record {
    count = d.count;
    shape = λ n r. inr (d.shape n r);
    idents = λ m n r q t u. ap₂ ◌&&◌ (one-word (node_at a m).text (node_at a n).text (node_at b m).text (node_at b n).text ((kin-of m r).word (id-text (node_at a m).kind t)) ((kin-of n q).word (id-text (node_at a n).kind u))) (d.contexts m n r q t u);
    named = λ n r t. ap (λ (w : List ℕ). same_text w arguments) (d.texts n r (id-text (node_at a n).kind t));
  }

-- scripts that differ so from one script differ so
module _ (a b c : Script) (d : Differ a c) (e : Differ b c) where
  across : (n : ℕ) → Number a n → Number b n
  across n r = (r.0, subst (λ (m : ℕ). n ≤ m) (d.count ∙ sym e.count) r.1)

  kinds-same : (n : ℕ) (r : Number a n) → (node_at a n).kind ≡ (node_at b n).kind
  kinds-same n r = (d.shape n r).kinds ∙ sym (e.shape n (across n r)).kinds

  ids-same : (n : ℕ) (r : Number a n) → has_id (node_at a n) ≡ has_id (node_at b n)
  ids-same n r = ap (λ (k : ℕ). eqb k 20 || eqb k 21) (kinds-same n r)

  pub joined : Differ a b
  joined = record {
    count = d.count ∙ sym e.count;
    shape = λ n r. record { kinds = kinds-same n r; forms = (d.shape n r).forms ∙ sym (e.shape n (across n r)).forms; arities = (d.shape n r).arities ∙ sym (e.shape n (across n r)).arities };
    texts = λ n r t. d.texts n r t ∙ sym (e.texts n (across n r) (subst (λ (k : ℕ). T (uses_text k)) (kinds-same n r) t));
    bits = λ n r h. d.bits n r h ∙ sym (e.bits n (across n r) (sym (ids-same n r) ∙ h));
    contexts = λ m n r q t u. d.contexts m n r q t u ∙ sym (e.contexts m n (across m r) (across n q) (subst T (ids-same m r) t) (subst T (ids-same n q) u));
  }
