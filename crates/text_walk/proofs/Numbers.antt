-- The list of tokens in the words: one more, none, and some behind some. Assumes nothing.
use Rattle.std.proofs.Common.{◌≡◌, ℕ, ◌+◌, ◌-◌, ◌<◌, ◌≤◌, inl, inr, Bool, List, [], ◌∷◌, ◌++◌, map, length, set, take, drop, refl, sym, ap, ap₂, ◌∙◌, append_assoc, append-nil, length-append, length-set, length-drop, get_or-set_same, subst, arith}
use Rattle.std.proofs.lemmas.List.{drop-set-lt, drop-set-add, take_more_set}
use Rattle.std.proofs.lemmas.Bool.{lt-ltb, le-ltb}
use Rattle.def_tree.specs.Base.{pick}
use Rattle.file_read.specs.declared.header.Header.{Header}
use Rattle.file_read.specs.Load.{Kept}
use Rattle.words.specs.Layout.{beyond}
use Rattle.def_text.specs.Words.{Word}
use Rattle.text_words.specs.Words.{word}
use Rattle.text_tokens.specs.Tokens.{HasOwn, own_of, token}
use Rattle.text_tokens.specs.Bytes.{Token}
use Rattle.text_walk.specs.Lists.{used, listed, Appended, AllTokens, Pushed}

pub kept-none : (w : List ℕ) → Kept w w
kept-none w = record { size = refl; rest = refl }

pub kept-then : {w v u : List ℕ} → Kept w v → Kept v u → Kept w u
kept-then a b = record { size = b.size ∙ a.size; rest = b.rest ∙ a.rest }

pub kept-set : (w : List ℕ) (i c : ℕ) → i < 16384 → Kept w (set w i c)
unfolding beyond
kept-set w i c l = record { size = length-set w i c; rest = drop-set-lt 16384 w i c l }

pub pushed-one : (w : List ℕ) (c : ℕ) → 16384 ≤ length w → used w < 16383 → Appended w (set (set w (1 + used w) c) 0 (used w + 1)) c
pushed-one w c l f =
    let n = used w in
    let v = set w (1 + n) c in
    let w' = set v 0 (n + 1) in
    let lv : 0 < length v = omega (arith, length-set w (1 + n) c) in
    let count : used w' ≡ n + 1 = get_or-set_same v 0 (n + 1) 0 lv in
    let room : n < length (drop 1 w) = omega (arith, length-drop 1 w) in
    record {
      count = count;
      list = ap (λ (m : ℕ). take m (drop 1 w')) count ∙ ap (take (n + 1)) (drop-set-lt 1 v 0 (n + 1) (omega arith) ∙ drop-set-add 1 w n c) ∙ take_more_set (drop 1 w) n c room;
      kept = kept-then (kept-set w (1 + n) c (omega arith)) (kept-set v 0 (n + 1) (omega arith));
    }

module _ (bs : List ℕ) (h : Header) where
  all-append : (cs ds : List ℕ) → AllTokens bs h cs → AllTokens bs h ds → AllTokens bs h (cs ++ ds)
  all-append [] ds a b = b
  all-append (c ∷ cs) ds a b = (a.0, all-append cs ds a.1 b)

  map-append : (cs ds : List ℕ) → map (token bs h) (cs ++ ds) ≡ map (token bs h) cs ++ map (token bs h) ds
  map-append [] ds = refl
  map-append (c ∷ cs) ds = ap {B = List Word} (λ (v : List Word). token bs h c ∷ v) (map-append cs ds)

  pub pushed-none : (w : List ℕ) → Pushed bs h w w []
  pushed-none w = record { numbers = []; are = refl; each = tt; count = omega arith; list = sym (append-nil (listed w)); kept = kept-none w }

  pub pushed-then : {w v u : List ℕ} {ws vs : List Word} → Pushed bs h w v ws → Pushed bs h v u vs → Pushed bs h w u (ws ++ vs)
  pushed-then {w} {v} {u} {ws} {vs} a b = record {
    numbers = a.numbers ++ b.numbers;
    are = map-append a.numbers b.numbers ∙ ap₂ {C = List Word} (λ (x y : List Word). x ++ y) a.are b.are;
    each = all-append a.numbers b.numbers a.each b.each;
    count = omega (arith, a.count, b.count, length-append a.numbers b.numbers);
    list = b.list ∙ ap (λ (x : List ℕ). x ++ b.numbers) a.list ∙ append_assoc (listed w) a.numbers b.numbers;
    kept = kept-then a.kept b.kept;
  }

  one : (w w' : List ℕ) (c : ℕ) (x : Word) → Appended w w' c → Token bs h c → token bs h c ≡ x → Pushed bs h w w' (x ∷ [])
  one w w' c x l t e = record { numbers = c ∷ []; are = ap (λ (v : Word). v ∷ []) e; each = (t, tt); count = l.count; list = l.list; kept = l.kept }

  pub pushed-word : {w w' : List ℕ} (i : ℕ) → Appended w w' i → i < 85 → Pushed bs h w w' (word i ∷ [])
  pushed-word {w} {w'} i l f = one w w' i (word i) l (inl f) (ap (λ (b : Bool). pick b (word i) (own_of bs h (i - 128))) (lt-ltb i 128 (omega arith)))

  pub pushed-own : {w w' : List ℕ} (c k : ℕ) → Appended w w' c → c ≡ 128 + k → k < h.nodes → HasOwn bs h k → Pushed bs h w w' (own_of bs h k ∷ [])
  pushed-own {w} {w'} c k l e f o =
      let e' : c - 128 ≡ k = omega arith in
      one w w' c (own_of bs h k) l (inr (omega arith, omega arith, subst (HasOwn bs h) (sym e') o))
      (ap (λ (b : Bool). pick b (word c) (own_of bs h (c - 128))) (le-ltb c 128 (omega arith)) ∙ ap (own_of bs h) e')
