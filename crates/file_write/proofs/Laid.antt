-- What stands in the result buffer after header, nodes and texts, and the answers. Assumes nothing.
use mathlib.Core.Path.{◌≡◌, refl, sym, ap, ap₂, ◌∙◌, subst}
use mathlib.Core.List.{List, [], ◌++◌, map, append_assoc, append-nil}
use Prim.Native.Nat.{ℕ, ◌+◌, ◌-◌, ◌*◌, ◌≤◌, ◌<◌}
use native.Mathlib.Nat.{zero-add}
use native.Mathlib.Omega.{arith}
use borrow.Author.Tests.{le-leb, lt-leb}
use lib.Dec.{leb}
use mathlib.Core.Bool.{false, ◌&&◌}
use lib.ListN.{length, get_or, take, drop, length-append, length-drop, drop_of_length-le, length-map}
use lib.Seq.{sets, paste, sets-eq, take_at, drop_at, take_all, drop-drop}
use Rattle.def_file.specs.Read.{Read, bad, u32, header}
use Rattle.def_file.specs.Write.{head_bytes, node_bytes}
use Rattle.words.specs.Layout.{tree}
use Rattle.words.proofs.Nodes.{tree-length}
use Rattle.laws_roundtrip.proofs.Nodes.{node-bytes-length}
use Rattle.file_read.specs.declared.header.Header.{Header}
use Rattle.file_read.specs.Head.{headed, Counts, Headed, HeadIs}
use Rattle.std.specs.Prelude.{Result, Ok, Err}
use Rattle.refusal.specs.declared.Refusal.{Refusal}
use Rattle.refusal.specs.Number.{number}
use Rattle.file_write.specs.Back.{back_in}
use Rattle.file_write.specs.Written.{Answer, refused, wrote, total, in_room, fitted, written, result_bytes, left, Wrote, Counted, none, behind}

-- stores from the first place on
pub sets-front : (l vs : List ℕ) (n : ℕ) → length vs ≡ n → n ≤ length l → sets l 0 vs ≡ vs ++ drop n l
sets-front l vs n e h = sets-eq vs l 0 (omega arith) ∙ ap (λ (k : ℕ). vs ++ drop k l) (zero-add (length vs) ∙ e)

-- r is the buffer at entry, r₁ with the header in it, p the part from 32 on with the nodes in it, and r₃ with the texts copied
module _ (r hs ns ts : List ℕ) (m k : ℕ) (h : length hs ≡ 32) (n : length ns ≡ 16 * m) (t : length ts ≡ k) (l : 32 + 16 * m + k ≤ length r) where
  rest : List ℕ
  rest = drop (32 + 16 * m) r

  module _ (r₁ : List ℕ) (e₁ : r₁ ≡ sets r 0 hs) where
    front : r₁ ≡ hs ++ drop 32 r
    front = e₁ ∙ sets-front r hs 32 h (omega arith)

    head-there : take 32 r₁ ≡ hs
    head-there = ap (take 32) front ∙ take_at hs (drop 32 r) 32 h

    part-there : drop 32 r₁ ≡ drop 32 r
    part-there = ap (drop 32) front ∙ drop_at hs (drop 32 r) 32 h

    module _ (e : ℕ) (q : e ≡ length r) where
      part-is : take (e - 32) (drop 32 r₁) ≡ drop 32 r
      part-is = ap (take (e - 32)) part-there ∙ take_all (e - 32) (drop 32 r) (simp length-drop (omega arith))

      behind-is : drop (e - 32) (drop 32 r₁) ≡ []
      behind-is = ap (drop (e - 32)) part-there ∙ drop_of_length-le (drop 32 r) {i = e - 32} (simp length-drop (omega arith))

      module _ (p : List ℕ) (e₂ : p ≡ sets (take (e - 32) (drop 32 r₁)) 0 ns) where
        nodes-there : p ≡ ns ++ rest
        unfolding rest
        nodes-there =
            e₂ ∙ ap (λ (x : List ℕ). sets x 0 ns) part-is ∙ sets-front (drop 32 r) ns (16 * m) n (simp length-drop (omega arith))
            ∙ ap (λ (x : List ℕ). ns ++ x) (drop-drop (16 * m) 32 r)

        whole : take 32 r₁ ++ (p ++ drop (e - 32) (drop 32 r₁)) ≡ (hs ++ ns) ++ rest
        whole = ap₂ {C = List ℕ} (λ x y. x ++ y) head-there (ap₂ {C = List ℕ} (λ x y. x ++ y) nodes-there behind-is ∙ append-nil (ns ++ rest)) ∙ sym (append_assoc hs ns rest)

        length_both : length (hs ++ ns) ≡ 32 + 16 * m
        length_both = simp length-append (omega arith)

        pub laid : paste (take 32 r₁ ++ (p ++ drop (e - 32) (drop 32 r₁))) (32 + 16 * m) ts k ≡ hs ++ ns ++ ts ++ drop (32 + 16 * m + k) r
        unfolding rest
        laid =
            ap (λ (x : List ℕ). paste x (32 + 16 * m) ts k) whole
            ∙ ap₂ {C = List ℕ} (λ x y. x ++ y)
            (ap₂ {C = List ℕ} (λ x y. x ++ y) (take_at (hs ++ ns) rest (32 + 16 * m) length_both) (take_all k ts (omega arith)))
            (sym (drop-drop k (32 + 16 * m) ((hs ++ ns) ++ rest)) ∙ ap (drop k) (drop_at (hs ++ ns) rest (32 + 16 * m) length_both) ∙ drop-drop k (32 + 16 * m) r)

-- the length of the result
nodes-length : (bs w : List ℕ) → length (node_bytes (map (back_in bs w) (tree w))) ≡ 16 * get_or w 0 0
nodes-length bs w = node-bytes-length (map (back_in bs w) (tree w)) ∙ ap (λ (k : ℕ). 16 * k) (length-map (tree w) (back_in bs w) ∙ tree-length w)

pub bytes-total : (bs w : List ℕ) → length bs ≡ 32 + 16 * u32 bs 8 + 4 * u32 bs 16 + u32 bs 28 → length (result_bytes bs w) ≡ total bs w
unfolding result_bytes
bytes-total bs w e = simp length-append (omega (arith, nodes-length bs w, length-drop (32 + 16 * u32 bs 8) bs))

-- the answers
module _ (bs w : List ℕ) (room : ℕ) where
  pub fit-not : (leb 1 (get_or w 0 0) && leb (get_or w 0 0) 1024) ≡ false → fitted bs w room ≡ refused 9
  unfolding fitted
  fit-not e = rw (e, fitted) refl

  pub fit-room : 1 ≤ get_or w 0 0 → get_or w 0 0 ≤ 1024 → fitted bs w room ≡ in_room (total bs w) room
  unfolding fitted
  fit-room e h = rw (le-leb 1 (get_or w 0 0) e, le-leb (get_or w 0 0) 1024 h, fitted) refl

pub too_short : (n room : ℕ) → room < n → in_room n room ≡ refused 10
too_short n room h = rw (lt-leb n room h, in_room) refl

long-enough : (n room : ℕ) → n ≤ room → in_room n room ≡ wrote n
long-enough n room h = rw (le-leb n room h, in_room) refl

-- an answer, and the buffer that it leaves
module _ (out r : List ℕ) (a : Answer) where
  pub left_so : (k : Refusal) → a ≡ refused (number k) → Wrote out r r a (Err k)
  left_so k e = record { is = sym e; leaves = sym (ap (left out r) e) }

  done : (n : ℕ) (r' : List ℕ) → a ≡ wrote n → r' ≡ out ++ drop n r → Wrote out r r' a (Ok n)
  done n r' e q = record { is = sym e; leaves = q ∙ sym (ap (left out r) e) }

-- all written
pub all-wrote : (bs w r : List ℕ) (h : Header) → Counted bs w h → 1 ≤ get_or w 0 0 → get_or w 0 0 ≤ 1024 → 32 + 16 * get_or w 0 0 + 4 * h.texts + h.bytes ≤ length r
    → (r₁ p r₃ : List ℕ) (e : ℕ) → e ≡ length r → r₁ ≡ sets r 0 (head_bytes (get_or w 0 0) h.texts h.bytes) → p ≡ sets (take (e - 32) (drop 32 r₁)) 0 (node_bytes (map (back_in bs w) (tree w)))
    → r₃ ≡ paste (take 32 r₁ ++ (p ++ drop (e - 32) (drop 32 r₁))) (32 + 16 * get_or w 0 0) (drop (32 + 16 * h.nodes) bs) (4 * h.texts + h.bytes)
    → Wrote (result_bytes bs w) r r₃ (fitted bs w (length r)) (Ok (32 + 16 * get_or w 0 0 + 4 * h.texts + h.bytes))
unfolding result_bytes
all-wrote bs w r h K some few room r₁ p r₃ e q e₁ e₂ e₃ =
    let m = get_or w 0 0 in
    let ns = node_bytes (map (back_in bs w) (tree w)) in
    let ts = drop (32 + 16 * h.nodes) bs in
    let size : 32 + 16 * m + 4 * h.texts + h.bytes ≡ total bs w = omega (arith, K.texts, K.bytes) in
    let tail : length ts ≡ 4 * h.texts + h.bytes = simp length-drop (omega (arith, K.size)) in
    let sum : 32 + 16 * m + (4 * h.texts + h.bytes) ≡ 32 + 16 * m + 4 * h.texts + h.bytes = omega arith in
    let all = laid r (head_bytes m h.texts h.bytes) ns ts m (4 * h.texts + h.bytes) refl (nodes-length bs w) tail (omega arith) r₁ e₁ e q p e₂ in
    done (result_bytes bs w) r (fitted bs w (length r)) (32 + 16 * m + 4 * h.texts + h.bytes) r₃ (fit-room bs w (length r) some few ∙ long-enough (total bs w) (length r) (omega (arith, size)) ∙ ap wrote (sym size))
    (rw (← K.texts, ← K.bytes, ← K.source.count) (e₃ ∙ all ∙ ap (λ (k : ℕ). head_bytes m h.texts h.bytes ++ ns ++ ts ++ drop k r) sum))

-- before that: too few words, and the header
module _ (bs w : List ℕ) (room : ℕ) where
  pub short : length w < 16384 → written bs w room ≡ refused 1
  unfolding written
  short h = rw (lt-leb 16384 (length w) h, written) refl

  module _ (l : 16384 ≤ length w) where
    pub behind-so : (x : Read) → header bs none ≡ x → written bs w room ≡ behind x (fitted bs w room)
    unfolding written
    behind-so x e = rw (← e, le-leb 16384 (length w) l, written) refl

    -- by what read_header gives
    module _ {a : Result Header Refusal} (h : HeadIs bs a) where
      pub head-refused : (k : Refusal) → a ≡ Err k → written bs w room ≡ refused (number k)
      head-refused k e = behind-so (bad (number k)) (h.is none ∙ ap (λ (x : Result Header Refusal). headed x none) e)

      module _ (x : Header) (e : a ≡ Ok x) where
        head-found : written bs w room ≡ fitted bs w room
        head-found = behind-so none (h.is none ∙ ap (λ (y : Result Header Refusal). headed y none) e)

        pub counted : Counted bs w x
        counted =
            let k : Counts bs x = subst (λ (y : Result Header Refusal). Headed bs y) e h.counts in
            record {
              source = record { count = k.nodes; few = k.few; room = omega (arith, k.size); long = l };
              texts = k.texts;
              bytes = k.bytes;
              few = k.few_texts;
              small = k.few_bytes;
              size = k.size;
            }

        pub as-found : {out r r' : List ℕ} {y : Result ℕ Refusal} → Wrote out r r' (fitted bs w room) y → Wrote out r r' (written bs w room) y
        as-found {out} {r} {r'} {y} q = subst (λ (z : Answer). Wrote out r r' z y) (sym head-found) q
