-- Reading and writing undo each other. Assumes nothing.
use mathlib.Core.Path.{◌≡◌, sym, ap, ap₂, ◌∙◌}
use mathlib.Core.Bool.{true, false, ◌&&◌}
use mathlib.Core.List.{List, ◌++◌, append_assoc}
use Prim.Native.Nat.{ℕ, ◌+◌, ◌-◌, ◌*◌, ◌≤◌}
use native.Mathlib.Nat.{zero-add}
use native.Mathlib.Omega.{arith}
use borrow.Author.Tests.{leb-true, le-leb}
use lib.Dec.{leb}
use lib.ListN.{length, drop, length-append, length-drop}
use lib.Seq.{drop-drop, drop_at, take_all}
use Rattle.def_file.specs.Script.{Script, idents}
use Rattle.def_file.specs.Read.{bad, script, u32, nodes_from, ends_from, texts_from, rising, distinct, nodes_ok, checked, parts, read}
use Rattle.def_file.specs.Write.{head_bytes, node_bytes, end_bytes, text_bytes, file}
use Rattle.laws_roundtrip.specs.Fits.{Bytes, Fits}
use Rattle.laws_roundtrip.proofs.Numbers.{bytes_drop}
use Rattle.laws_roundtrip.proofs.Nodes.{nodes-bytes, bytes-nodes, node-bytes-length, narrow-nodes, nodes-length}
use Rattle.laws_roundtrip.proofs.Texts.{both, ends_of, end-bytes-length, ends-bytes, texts-bytes, ends-rise, bytes-ends, bytes-texts, texts-length, texts-narrow}
use Rattle.laws_roundtrip.proofs.Header.{passed, met, and-true, Headed, header-passed, passes, head_bytes_lem, head-written}

-- what stands behind n nodes, and behind the ends of t texts
abbrev pub ends_part : ℕ → List ℕ → List ℕ
ends_part n bs = drop (32 + 16 * n) bs

abbrev pub texts_part : ℕ → ℕ → List ℕ → List ℕ
texts_part n t bs = drop (32 + 16 * n + 4 * t) bs

-- a script of n nodes and t texts, as it stands in the bytes
abbrev pub script_in : ℕ → ℕ → List ℕ → Script
script_in n t bs = record { nodes = nodes_from n (drop 32 bs); texts = texts_from 0 (ends_from t (ends_part n bs)) (texts_part n t bs) }

-- what reading found
pub record Found (bs : List ℕ) (s : Script) (n t b : ℕ) : Type 0 where
  pub head : Headed bs n t b
  pub is : script_in n t bs ≡ s
  pub rises : rising 0 (ends_from t (ends_part n bs)) b ≡ true
  pub apart : distinct s.texts ≡ true
  pub shape : nodes_ok s ≡ true
  pub names : length (idents s) ≤ 256

pub found : (bs : List ℕ) (s : Script) → read bs ≡ script s → Found bs s (u32 bs 8) (u32 bs 16) (u32 bs 28)
unfolding read
found bs s h =
    let n = u32 bs 8 in
    let t = u32 bs 16 in
    let b = u32 bs 28 in
    let ends = ends_from t (ends_part n bs) in
    let (head, h1) = header-passed bs (parts n t b bs) s h in
    let x = script_in n t bs in
    let (h2, h3) = passed (rising 0 ends b && distinct x.texts) 5 (checked x) s h1 in
    let (rise, dist) = both (rising 0 ends b) (distinct x.texts) h2 in
    let (shape, h4) = passed (nodes_ok x) 6 (elim (leb (length (idents x)) 256) [ false ↦ bad 7 | true ↦ script x ]) s h3 in
    let (names, h5) = passed (leb (length (idents x)) 256) 7 (script x) s h4 in
    let e : x ≡ s = cc in
    record {
      head = head;
      is = e;
      rises = rise;
      apart = rw (← e) dist;
      shape = rw (← e) shape;
      names = rw (← e) (leb-true (length (idents x)) 256 names);
    }

four : (a b c d : List ℕ) → a ++ b ++ c ++ d ≡ a ++ (b ++ (c ++ d))
four a b c d = simp append_assoc

module _ {bs : List ℕ} {s : Script} {n t b : ℕ} (y : Bytes bs) (f : Found bs s n t b) where
  pub body-length : length (texts_part n t bs) ≡ b
  body-length = length-drop (32 + 16 * n + 4 * t) bs ∙ omega (arith, f.head.long)

  -- the texts' bytes are the last part of the file, and the ends the part before it
  pub texts-written : text_bytes (script_in n t bs).texts ≡ texts_part n t bs
  texts-written = bytes-texts b 0 (ends_from t (ends_part n bs)) (texts_part n t bs) (omega (arith, body-length)) f.rises ∙ take_all (b - 0) (texts_part n t bs) (omega (arith, body-length))

  pub ends-written : end_bytes 0 (script_in n t bs).texts ++ texts_part n t bs ≡ ends_part n bs
  ends-written =
      let l : 4 * t ≤ length (ends_part n bs) = simp length-drop (omega (arith, f.head.long)) in
      rw (drop-drop (4 * t) (32 + 16 * n) bs) at (bytes-ends b t 0 (ends_part n bs) (texts_part n t bs) (bytes_drop (32 + 16 * n) bs y) l (omega (arith, body-length)) f.rises)

  nodes-written : node_bytes (nodes_from n (drop 32 bs)) ++ ends_part n bs ≡ drop 32 bs
  nodes-written =
      let l : 16 * n ≤ length (drop 32 bs) = simp length-drop (omega (arith, f.head.long)) in
      rw (drop-drop (16 * n) 32 bs) at (bytes-nodes n (drop 32 bs) (bytes_drop 32 bs y) l)

  file-is : file (script_in n t bs) ≡ bs
  unfolding file
  file-is =
      let ns = node_bytes (nodes_from n (drop 32 bs)) in
      rw (nodes-length n (drop 32 bs), texts-length t 0 (ends_part n bs) (texts_part n t bs), texts-written, body-length)
      (four (head_bytes n t b) ns (end_bytes 0 (script_in n t bs).texts) (texts_part n t bs)
      ∙ ap (λ (r : List ℕ). head_bytes n t b ++ r) (ap (λ (r : List ℕ). ns ++ r) ends-written ∙ nodes-written)
      ∙ head_bytes_lem f.head y)

-- writing what was read gives the file back
pub back : (bs : List ℕ) (s : Script) → Bytes bs → read bs ≡ script s → file s ≡ bs
back bs s y h = let f = found bs s h in rw (← f.is) (file-is y f)

-- and what was read fits a file
pub fits_read : (bs : List ℕ) (s : Script) → Bytes bs → read bs ≡ script s → Fits s
fits_read bs s y h =
    let f = found bs s h in
    let n = u32 bs 8 in
    let t = u32 bs 16 in
    let e = sym f.is in
    record {
      narrow = rw e (narrow-nodes n (drop 32 bs) (bytes_drop 32 bs y));
      bytes = rw e (texts-narrow 0 (ends_from t (ends_part n bs)) (texts_part n t bs) (bytes_drop (32 + 16 * n + 4 * t) bs y));
      some = rw (e, nodes-length n (drop 32 bs)) f.head.some;
      few = rw (e, nodes-length n (drop 32 bs)) f.head.few;
      texts = rw (e, texts-length t 0 (ends_part n bs) (texts_part n t bs)) f.head.named;
      size = rw (e, texts-written y f, body-length y f) f.head.small;
      apart = f.apart;
      shape = f.shape;
      names = f.names;
    }

-- reading what was written gives the script
module _ (s : Script) (h : Fits s) where
  abbrev n' : ℕ
  n' = length s.nodes

  abbrev t' : ℕ
  t' = length s.texts

  abbrev b' : ℕ
  b' = length (text_bytes s.texts)

  rest-length : length (node_bytes s.nodes ++ (end_bytes 0 s.texts ++ text_bytes s.texts)) ≡ 16 * n' + 4 * t' + b'
  rest-length = simp length-append (omega (arith, node-bytes-length s.nodes, end-bytes-length 0 s.texts))

  file-parts : file s ≡ head_bytes n' t' b' ++ (node_bytes s.nodes ++ (end_bytes 0 s.texts ++ text_bytes s.texts))
  unfolding file
  file-parts = four (head_bytes n' t' b') (node_bytes s.nodes) (end_bytes 0 s.texts) (text_bytes s.texts)

  file-headed : Headed (file s) n' t' b'
  file-headed = rw file-parts (head-written n' t' b' (node_bytes s.nodes ++ (end_bytes 0 s.texts ++ text_bytes s.texts)) rest-length h.some h.few h.texts h.size)

  ends_there : drop (32 + 16 * n') (file s) ≡ end_bytes 0 s.texts ++ text_bytes s.texts
  ends_there = rw (file-parts, ← drop-drop (16 * n') 32) (drop_at (node_bytes s.nodes) (end_bytes 0 s.texts ++ text_bytes s.texts) (16 * n') (node-bytes-length s.nodes))

  texts-there : drop (32 + 16 * n' + 4 * t') (file s) ≡ text_bytes s.texts
  texts-there = rw (← drop-drop (4 * t') (32 + 16 * n'), ends_there) (drop_at (end_bytes 0 s.texts) (text_bytes s.texts) (4 * t') (end-bytes-length 0 s.texts))

  ends-are : ends_from t' (drop (32 + 16 * n') (file s)) ≡ ends_of 0 s.texts
  ends-are = rw ends_there (ends-bytes 0 s.texts (text_bytes s.texts) (omega (arith, h.size)))

  nodes-are : nodes_from n' (drop 32 (file s)) ≡ s.nodes
  nodes-are = rw file-parts (nodes-bytes s.nodes (end_bytes 0 s.texts ++ text_bytes s.texts) h.narrow)

  texts-are : texts_from 0 (ends_from t' (drop (32 + 16 * n') (file s))) (drop (32 + 16 * n' + 4 * t') (file s)) ≡ s.texts
  texts-are = rw (ends-are, texts-there) (texts-bytes 0 s.texts)

  read_is : script_in n' t' (file s) ≡ s
  read_is = ap₂ {C = Script} (λ xs ts. record { nodes = xs; texts = ts }) nodes-are texts-are

  rises-there : rising 0 (ends_from t' (drop (32 + 16 * n') (file s))) b' ≡ true
  rises-there = rw (ends-are, ← zero-add b') (ends-rise 0 s.texts)

  pub again : read (file s) ≡ script s
  unfolding read
  again =
      let x = script_in n' t' (file s) in
      let ends = ends_from t' (drop (32 + 16 * n') (file s)) in
      let g = file-headed in
      rw (g.nodes, g.texts, g.size) (passes g (parts n' t' b' (file s))
      ∙ met 5 6 7 (rising 0 ends b' && distinct x.texts) (nodes_ok x) (leb (length (idents x)) 256) (script x) (and-true rises-there (ap distinct texts-are ∙ h.apart)) (ap nodes_ok read_is ∙ h.shape) (ap (λ (z : Script). leb (length (idents z)) 256) read_is ∙ le-leb (length (idents s)) 256 h.names)
      ∙ ap script read_is)
