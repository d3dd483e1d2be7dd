-- The resolved script's file: the given one, with other nodes. Assumes nothing.
use mathlib.Core.Path.{◌≡◌, refl, sym, ap, ap₂, ◌∙◌, subst}
use mathlib.Core.Bool.{true, false}
use mathlib.Core.List.{List, ◌++◌, append_assoc}
use Prim.Native.Nat.{ℕ, ◌+◌, ◌-◌, ◌*◌, ◌≤◌, ◌<◌}
use native.Mathlib.Omega.{arith}
use borrow.Author.Tests.{le-leb, lt-leb}
use lib.ListN.{length, get_or, take, drop, length-append, length-drop, take-append-drop}
use lib.Seq.{sets, sets-eq, take_at, drop_at, take_all, drop-drop, length-take-le}
use Rattle.std.proofs.Common.{Ok, Err}
use Rattle.refusal.specs.declared.Refusal.TheVariants as Row
use Rattle.def_file.specs.declared.Raw.{Raw}
use Rattle.def_file.specs.Script.{Script, zero_node, has_id}
use Rattle.def_file.specs.Read.{u32, ends_from, rising}
use Rattle.def_file.specs.Write.{head_bytes, node_bytes, end_bytes, text_bytes, file}
use Rattle.def_resolve.specs.Resolve.{resolved}
use Rattle.def_resolve.specs.Entry.{Resolving, refused, wrote, in_room, parts_shaped, read_shaped}
use Rattle.laws_roundtrip.specs.Fits.{Bytes}
use Rattle.laws_roundtrip.proofs.Numbers.{bytes_drop}
use Rattle.laws_roundtrip.proofs.Nodes.{node-bytes-length, nodes-length}
use Rattle.laws_roundtrip.proofs.Texts.{texts-length, bytes-ends, bytes-texts}
use Rattle.laws_roundtrip.proofs.Header.{Headed, header-passed, head_bytes_lem}
use Rattle.laws_resolve.proofs.Scripts.{resolved-length}
use Rattle.file_write.proofs.Laid.{sets-front}
use Rattle.file_write.specs.Written.{says}
use Rattle.file_read.specs.declared.header.Header.{Header}
use Rattle.file_resolve.specs.Check.{read_of, Shaped}
use Rattle.file_resolve.specs.Idents.{with_context, Contexts}
use Rattle.file_resolve.specs.Resolve.{Wrote}

-- a node
module _ (s : Script) (numbers : List ℕ) (N : Contexts s numbers) (k : ℕ) (l : k < length s.nodes) where
  pub other-node : has_id (get_or s.nodes k zero_node) ≡ false → get_or s.nodes k zero_node ≡ get_or (resolved s).nodes k zero_node
  other-node e = sym (N.is k l ∙ plain (get_or s.nodes k zero_node) e)
    where
      plain : (x : Raw) → has_id x ≡ false → with_context x (get_or numbers k 0) ≡ x
      plain x e = rw e refl

  pub name-node : has_id (get_or s.nodes k zero_node) ≡ true → {x : Raw} {v : ℕ} → x ≡ get_or s.nodes k zero_node → v ≡ get_or numbers k 0 → record { kind = x.kind; form = x.form; arity = x.arity; text = x.text; bits = v } ≡ get_or (resolved s).nodes k zero_node
  name-node e {x} {v} q r = rw (q, r) (sym (N.is k l ∙ named (get_or s.nodes k zero_node) e))
    where
      named : (x : Raw) → has_id x ≡ true → with_context x (get_or numbers k 0) ≡ record { kind = x.kind; form = x.form; arity = x.arity; text = x.text; bits = get_or numbers k 0 }
      named x e = rw e refl

pub nodes-count : {bs : List ℕ} {h : Header} → Shaped bs h → length (resolved (read_of bs h)).nodes ≡ h.nodes
nodes-count {bs} {h} S = resolved-length (read_of bs h) S.readable.ok ∙ nodes-length h.nodes (drop 32 bs)

-- a file with other nodes
module _ {bs : List ℕ} {h : Header} (S : Shaped bs h) (y : Bytes bs) where
  abbrev s : Script
  s = read_of bs h

  abbrev n : ℕ
  n = h.nodes

  abbrev t : ℕ
  t = h.texts

  abbrev b : ℕ
  b = h.bytes

  headed : Headed bs n t b
  unfolding read_shaped
  headed = let C = S.counts in rw (C.nodes, C.texts, C.bytes) (header-passed bs (parts_shaped (u32 bs 8) (u32 bs 16) (u32 bs 28) bs) s S.is).0

  pub total-is : length bs ≡ 32 + 16 * n + 4 * t + b
  total-is = S.counts.size

  rises : rising 0 (ends_from t (drop (32 + 16 * n) bs)) b ≡ true
  rises = let e : length bs - (32 + 16 * n + 4 * t) ≡ b = omega (arith, S.counts.size) in ap (rising 0 (ends_from t (drop (32 + 16 * n) bs))) (sym e) ∙ S.readable.placed.rises

  body-length : length (drop (32 + 16 * n + 4 * t) bs) ≡ b
  body-length = length-drop (32 + 16 * n + 4 * t) bs ∙ omega (arith, S.counts.size)

  texts-written : text_bytes s.texts ≡ drop (32 + 16 * n + 4 * t) bs
  texts-written =
      bytes-texts b 0 (ends_from t (drop (32 + 16 * n) bs)) (drop (32 + 16 * n + 4 * t) bs) (omega (arith, body-length)) rises
      ∙ take_all (b - 0) (drop (32 + 16 * n + 4 * t) bs) (omega (arith, body-length))

  ends-written : end_bytes 0 s.texts ++ text_bytes s.texts ≡ drop (32 + 16 * n) bs
  ends-written =
      let l : 4 * t ≤ length (drop (32 + 16 * n) bs) = simp length-drop (omega (arith, S.counts.size)) in
      ap (λ (r : List ℕ). end_bytes 0 s.texts ++ r) texts-written
      ∙ (rw (drop-drop (4 * t) (32 + 16 * n) bs) at (bytes-ends b t 0 (drop (32 + 16 * n) bs) (drop (32 + 16 * n + 4 * t) bs) (bytes_drop (32 + 16 * n) bs y) l (omega (arith, body-length)) rises))

  texts-count : length s.texts ≡ t
  texts-count = texts-length t 0 (drop (32 + 16 * n) bs) (drop (32 + 16 * n + 4 * t) bs)

  abbrev nb : List ℕ
  nb = node_bytes (resolved s).nodes

  nodes-long : length nb ≡ 16 * n
  nodes-long = node-bytes-length (resolved s).nodes ∙ ap (λ (m : ℕ). 16 * m) (nodes-count S)

  four : (a b c d : List ℕ) → a ++ b ++ c ++ d ≡ a ++ (b ++ (c ++ d))
  four a b c d = simp append_assoc

  file-parts : file (resolved s) ≡ head_bytes n t b ++ (nb ++ drop (32 + 16 * n) bs)
  unfolding file resolved
  file-parts =
      ap (λ (hs : List ℕ). hs ++ nb ++ end_bytes 0 s.texts ++ text_bytes s.texts)
      (ap (λ (m : ℕ). head_bytes m (length s.texts) (length (text_bytes s.texts))) (nodes-count S) ∙ ap (λ (m : ℕ). head_bytes n m (length (text_bytes s.texts))) texts-count ∙ ap (head_bytes n t) (ap length texts-written ∙ body-length))
      ∙ four (head_bytes n t b) nb (end_bytes 0 s.texts) (text_bytes s.texts)
      ∙ ap (λ (r : List ℕ). head_bytes n t b ++ (nb ++ r)) ends-written

  head-length : length (head_bytes n t b) ≡ 32
  head-length = refl

  pub file-length : length (file (resolved s)) ≡ 32 + 16 * n + 4 * t + b
  file-length = ap length file-parts ∙ length-append (head_bytes n t b) (nb ++ drop (32 + 16 * n) bs) ∙ (let l : 16 * n + length (drop (32 + 16 * n) bs) ≡ 16 * n + 4 * t + b = simp length-drop (omega (arith, S.counts.size)) in omega (arith, l, length-append nb (drop (32 + 16 * n) bs), nodes-long))

  -- r₁ is the buffer with the file, and r₂ with the nodes too
  module _ (r : List ℕ) (m : ℕ) (long : 32 + 16 * n + 4 * t + b ≤ length r) (e : m ≡ 32 + 16 * n + 4 * t + b) where
    abbrev rest : List ℕ
    rest = drop (32 + 16 * n) bs ++ drop m r

    copied-front : {r₁ : List ℕ} → r₁ ≡ sets r 0 bs → r₁ ≡ bs ++ drop m r
    copied-front q = q ∙ sets-front r bs m (S.counts.size ∙ sym e) (omega (arith, e))

    front : {r₁ : List ℕ} → r₁ ≡ bs ++ drop m r → r₁ ≡ head_bytes n t b ++ (drop 32 bs ++ drop m r)
    front q = q ∙ ap (λ (x : List ℕ). x ++ drop m r) (sym (head_bytes_lem headed y)) ∙ append_assoc (head_bytes n t b) (drop 32 bs) (drop m r)

    behind : {r₁ : List ℕ} → r₁ ≡ bs ++ drop m r → drop (32 + 16 * n) r₁ ≡ rest
    behind q =
        let p : length (take (32 + 16 * n) bs) ≡ 32 + 16 * n = length-take-le (32 + 16 * n) bs (omega (arith, S.counts.size)) in
        ap (drop (32 + 16 * n)) (q ∙ ap (λ (x : List ℕ). x ++ drop m r) (sym (take-append-drop (32 + 16 * n) bs)) ∙ append_assoc (take (32 + 16 * n) bs) (drop (32 + 16 * n) bs) (drop m r))
        ∙ drop_at (take (32 + 16 * n) bs) rest (32 + 16 * n) p

    pub file-written : {r₁ r₂ : List ℕ} → r₁ ≡ sets r 0 bs → r₂ ≡ sets r₁ 32 nb → r₂ ≡ file (resolved s) ++ drop (length (file (resolved s))) r
    file-written {r₁} {r₂} p q =
        let c = copied-front p in
        let long-r₁ : length r₁ ≡ length bs + length (drop m r) = ap length c ∙ length-append bs (drop m r) in
        let fits : 32 + length nb ≤ length r₁ = omega (arith, long-r₁, nodes-long, S.counts.size) in
        let size : m ≡ length (file (resolved s)) = omega (arith, e, file-length) in
        q ∙ sets-eq nb r₁ 32 fits
        ∙ ap₂ {C = List ℕ} (λ (x z : List ℕ). x ++ nb ++ z) (ap (take 32) (front c) ∙ take_at (head_bytes n t b) (drop 32 bs ++ drop m r) 32 head-length) (ap (λ (i : ℕ). drop (32 + i) r₁) nodes-long ∙ behind c)
        ∙ joined (head_bytes n t b) nb (drop (32 + 16 * n) bs) (drop m r)
        ∙ ap₂ {C = List ℕ} (λ (x : List ℕ) (i : ℕ). x ++ drop i r) (sym file-parts) size
      where
        joined : (a b c d : List ℕ) → a ++ b ++ (c ++ d) ≡ (a ++ (b ++ c)) ++ d
        joined a b c d = simp append_assoc

-- room for a file, or not
module _ (r out : List ℕ) where
  short : length r < length out → in_room (length r) out ≡ refused 10
  short l = rw (lt-leb (length out) (length r) l, in_room) refl

  long-enough : length out ≤ length r → in_room (length r) out ≡ wrote out
  long-enough l = rw (le-leb (length out) (length r) l, in_room) refl

  pub no-room : length r < length out → Wrote r r (in_room (length r) out) (Err Row.Buffer)
  no-room l = subst (λ (x : Resolving). Wrote r r x (Err Row.Buffer)) (sym (short l)) (record { is = refl; leaves = refl })

  pub written : {r' : List ℕ} {n : ℕ} → length out ≤ length r → n ≡ length out → r' ≡ out ++ drop (length out) r → Wrote r r' (in_room (length r) out) (Ok n)
  written {r'} {n} l e q = subst (λ (x : Resolving). Wrote r r' x (Ok n)) (sym (long-enough l)) (record { is = ap says (ap Ok e); leaves = q })
