-- The result of a script that was read, whose identifiers the words list, is the file of the nodes turned back. Assumes nothing.
use mathlib.Core.Path.{◌≡◌, refl, sym, ap, ap₂, ◌∙◌}
use mathlib.Core.Bool.{Bool, true, false, ◌&&◌, ◌||◌}
use mathlib.Core.List.{List, [], ◌∷◌, ◌++◌, map, append_assoc}
use mathlib.Core.Logic.{⊎_elim}
use Prim.Native.Nat.{ℕ, zero, suc, ◌+◌, ◌-◌, ◌*◌, ◌≤◌, ◌<◌}
use native.Mathlib.Omega.{arith}
use borrow.Author.Tests.{le-leb, lt-leb}
use lib.Dec.{leb, eqb}
use lib.ListN.{length, get_or, drop, length-map, get_or-eq_default}
use Rattle.def_tree.specs.Base.{pick}
use Rattle.def_tree.specs.Tree.{Core}
use Rattle.def_file.specs.declared.Raw.{Raw}
use Rattle.def_file.specs.Script.{Script, idents, zero_node, node_at}
use Rattle.def_file.specs.Read.{script, u32, raw_of, nodes_from, ends_from, texts_from, read}
use Rattle.def_file.specs.Write.{head_bytes, node_bytes, end_bytes, text_bytes, file}
use Rattle.def_file.specs.Core.{Out, lit_out, id_out, plain_out, back}
use Rattle.words.specs.Tab.{get_d-tab, get_d-tab-out, below_or_not}
use Rattle.words.specs.Layout.{tree}
use Rattle.words.proofs.Nodes.{tree-length}
use Rattle.file_read.specs.Idents.{numbered, ids_of, Listed}
use Rattle.file_read.proofs.Raws.{node-raw}
use Rattle.laws_roundtrip.specs.Fits.{Bytes}
use Rattle.laws_roundtrip.proofs.Nodes.{nodes-length}
use Rattle.laws_roundtrip.proofs.Texts.{texts-length}
use Rattle.laws_roundtrip.proofs.Header.{and-true, passes}
use Rattle.laws_roundtrip.proofs.Round.{found, texts-written, ends-written, body-length}
use Rattle.std.specs.Prelude.{Result}
use Rattle.refusal.specs.declared.Refusal.{Refusal}
use Rattle.file_write.specs.Back.{node_in, ident_in, text_in, back_in}
use Rattle.file_write.specs.Written.{total, in_room, none, written, result_bytes, Wrote}
use Rattle.file_write.proofs.Laid.{bytes-total, fit-room, behind-so}
use Rattle.file_write.proofs.Backs.{node-there, ident-there, ident-none}

raw-pick : (b : Bool) (x y : Out) → (pick b x y).raw ≡ pick b x.raw y.raw
raw-pick true x y = refl
raw-pick false x y = refl

-- a file, by its counts and what stands behind its nodes
file-so : (ns : List Raw) (ts : List (List ℕ)) (m t b : ℕ) (tail : List ℕ) → length ns ≡ m → length ts ≡ t → length (text_bytes ts) ≡ b → end_bytes 0 ts ++ text_bytes ts ≡ tail
    → file (record { nodes = ns; texts = ts }) ≡ head_bytes m t b ++ node_bytes ns ++ tail
unfolding file
file-so ns ts m t b tail p q r e =
    rw (p, q, r) (append_assoc (head_bytes m t b ++ node_bytes ns) (end_bytes 0 ts) (text_bytes ts) ∙ ap (λ (x : List ℕ). head_bytes m t b ++ node_bytes ns ++ x) e)

-- the script of a result: the tree's nodes turned back, and the texts kept
abbrev pub result_script : Script → List ℕ → Script
result_script s w = record { nodes = map (λ (c : Core). (back s c).raw) (tree w); texts = s.texts }

module _ (bs w : List ℕ) (s : Script) (h : read bs ≡ script s) where
  abbrev n : ℕ
  n = u32 bs 8

  -- a node by its number
  node-past : (m : ℕ) → n < m → node_in bs m ≡ zero_node
  unfolding node_in
  node-past m l = rw (le-leb 1 m (omega arith), lt-leb m n l) refl

  nodes-are : s.nodes ≡ nodes_from n (drop 32 bs)
  nodes-are = ap (λ (x : Script). x.nodes) (sym (found bs s h).is)

  pub node-is : (m : ℕ) → node_in bs m ≡ node_at s m
  unfolding node_in
  node-is zero = refl
  node-is (suc k) = rw nodes-are (⊎_elim
      (λ (l : k < n). node-there bs n (suc k) refl (and-true (le-leb 1 (suc k) (omega arith)) (le-leb (suc k) n (omega arith))) ∙ ap (λ (j : ℕ). raw_of (drop (32 + 16 * j) bs)) (less k) ∙ sym (node-raw n k bs l))
      (λ (l : n ≤ k). node-past (suc k) (omega arith) ∙ sym (get_or-eq_default (nodes_from n (drop 32 bs)) zero_node (rw nodes-length l)))
      (below_or_not k n))
    where
      less : (k : ℕ) → suc k - 1 ≡ k
      less k = omega arith

  module _ (L : Listed w (u32 bs 8)) (e : ids_of bs w ≡ idents s) where
    -- an identifier by its number
    pub ident-is : (i : ℕ) → ident_in bs w i ≡ get_or (idents s) i zero_node
    unfolding ids_of
    ident-is i = rw (← e) (⊎_elim
        (λ (l : i < get_or w 4 0). let j = get_or w (15504 + i) 0 in
        ident-there bs w i l ∙ node-there bs n j refl (and-true (le-leb 1 j (L.low i l)) (le-leb j n (L.high i l))) ∙ sym (get_d-tab (get_or w 4 0) (λ k. numbered bs (get_or w (15504 + k) 0)) i zero_node l))
        (λ (l : get_or w 4 0 ≤ i). ident-none bs w i l ∙ sym (get_d-tab-out (get_or w 4 0) (λ k. numbered bs (get_or w (15504 + k) 0)) i zero_node l))
        (below_or_not i (get_or w 4 0)))

    pub back_is : (c : Core) → back_in bs w c ≡ (back s c).raw
    unfolding back_in text_in back
    back_is c =
        let a = leb 22 c.kind && leb c.kind 25 in
        let b = eqb c.kind 20 || eqb c.kind 21 in
        rw (node-is c.num, ident-is c.num)
        (sym (raw-pick a (lit_out s c) (pick b (id_out s c) (plain_out s c)) ∙ ap (λ (x : Raw). pick a (node_at s c.num) x) (raw-pick b (id_out s c) (plain_out s c))))

    -- the result's bytes
    map_same : (xs : List Core) → map (back_in bs w) xs ≡ map (λ (c : Core). (back s c).raw) xs
    map_same [] = refl
    map_same (x ∷ xs) = ap₂ {C = List Raw} (λ y ys. y ∷ ys) (back_is x) (map_same xs)

    pub result-is : Bytes bs → result_bytes bs w ≡ file (result_script s w)
    unfolding result_bytes
    result-is y =
        let f = found bs s h in
        let t = u32 bs 16 in
        let xs = drop (32 + 16 * n) bs in
        let body = drop (32 + 16 * n + 4 * t) bs in
        let ts : s.texts ≡ texts_from 0 (ends_from t xs) body = ap (λ (x : Script). x.texts) (sym f.is) in
        ap (λ (ns : List Raw). head_bytes (get_or w 0 0) t (u32 bs 28) ++ node_bytes ns ++ xs) (map_same (tree w))
        ∙ sym (file-so (result_script s w).nodes s.texts (get_or w 0 0) t (u32 bs 28) xs
        (length-map (tree w) (λ (c : Core). (back s c).raw) ∙ tree-length w)
        (ap length ts ∙ texts-length t 0 xs body)
        (ap (λ (x : List (List ℕ)). length (text_bytes x)) ts ∙ ap length (texts-written y f) ∙ body-length y f)
        (ap (λ (x : List (List ℕ)). end_bytes 0 x ++ text_bytes x) ts ∙ ap (λ (x : List ℕ). end_bytes 0 (texts_from 0 (ends_from t xs) body) ++ x) (texts-written y f) ∙ ends-written y f))

    pub result-length : Bytes bs → length (file (result_script s w)) ≡ total bs w
    result-length y = ap length (sym (result-is y)) ∙ bytes-total bs w (found bs s h).head.long

    -- what writing answers and leaves, where the words hold a tree
    module _ (y : Bytes bs) (long : 16384 ≤ length w) (some : 1 ≤ get_or w 0 0) (few : get_or w 0 0 ≤ 1024) where
      pub answer-is : (room : ℕ) → written bs w room ≡ in_room (length (file (result_script s w))) room
      answer-is room = behind-so bs w room long none (passes (found bs s h).head none) ∙ fit-room bs w room some few ∙ ap (λ (k : ℕ). in_room k room) (sym (result-length y))

      pub wrote-file : (r r' : List ℕ) (x : Result ℕ Refusal) → Wrote (result_bytes bs w) r r' (written bs w (length r)) x → Wrote (file (result_script s w)) r r' (in_room (length (file (result_script s w))) (length r)) x
      wrote-file r r' x q = rw (← answer-is (length r), ← result-is y) q
