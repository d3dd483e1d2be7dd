-- Rows 5, 6 and 7, one after the other. Assumes nothing.
use mathlib.Core.Path.{◌≡◌, refl, sym, ap, ap₂, ◌∙◌, subst}
use mathlib.Core.Bool.{Bool, true, false, ◌&&◌}
use mathlib.Core.List.{List, [], ◌∷◌}
use Prim.Native.Nat.{ℕ, ◌+◌, ◌-◌, ◌*◌, ◌≤◌}
use native.Mathlib.Omega.{arith}
use borrow.Author.Tests.{le-leb, lt-leb}
use lib.Dec.{leb}
use lib.ListN.{length, drop, take}
use lib.Seq.{take-length}
use Rattle.def_file.specs.Script.{Script, idents, enter_all}
use Rattle.def_file.specs.Core.{core_nodes}
use Rattle.def_file.specs.Read.{Read, bad, script, read, u32, rising, distinct, nodes_ok, fills, nodes_from, ends_from}
use Rattle.def_kinds.specs.Lent.{is_table, within}
use Rattle.def_kinds.specs.Pairs.{pairs}
use Rattle.def_under.proofs.Reading.{lent-read}
use Rattle.def_under.specs.Reading.{pairs_ok, checked_under, parts_under, read_under, constant, lent}
use Rattle.file_kinds.specs.declared.TheConstants.{KINDS}
use Rattle.file_read.proofs.Tables.{own-read}
use Rattle.std.proofs.lemmas.Bool.{and_parts}
use Rattle.file_read.specs.declared.header.Header.{Header}
use Rattle.std.proofs.Common.{Result, Ok, Err, None}
use Rattle.refusal.specs.declared.Refusal.{Refusal}
use Rattle.refusal.specs.declared.Refusal.TheVariants as Row
use Rattle.refusal.specs.Number.{number}
use Rattle.file_read.specs.Child.{root_place}
use Rattle.file_read.specs.declared.texts.Texts.{Texts}
use Rattle.file_read.specs.Text.{Placed, texts_of}
use Rattle.file_read.specs.Idents.{ids_of, Listed}
use Rattle.file_read.specs.Head.{places, HeadIs, Counts}
use Rattle.file_read.specs.Load.{script_of, Readable, Loaded, Done, Kept}
use Rattle.file_read.specs.Table.{table_row}
use Rattle.file_read.specs.Reading.{CheckIs, Held, counts_of, Told, Left, LoadIs, answer_of, ReadsAs}
use Rattle.file_read.proofs.Raws.{nodes-length}
use Rattle.file_read.proofs.Strings.{count-texts}
use Rattle.file_read.proofs.Names.{ids-length}
use Rattle.file_read.proofs.Cores.{core_all}

-- rows 14 and 15
module _ (T bs : List ℕ) where
  abbrev row : Bool → Bool → Result Unit Refusal
  row p q = elim p [ false ↦ Err Row.Table | true ↦ elim q [ false ↦ Err Row.Pairs | true ↦ Ok tt ] ]

  abbrev behind : Bool → Bool → Read
  behind p q = elim p [ false ↦ bad 14 | true ↦ elim q [ false ↦ bad 15 | true ↦ read_under T bs ] ]

  pub table-refused : (m : Refusal) → table_row T ≡ Err m → lent T bs ≡ bad (number m)
  unfolding lent
  table-refused m = go (is_table T) (within T constant)
    where
      told : (k : Refusal) → ◌≡◌ {A = Result Unit Refusal} (Err k) (Err m) → bad (number k) ≡ bad (number m)
      told k e = let s : k ≡ m = cc in ap (λ (x : Refusal). bad (number x)) s

      go : (p q : Bool) → row p q ≡ Err m → behind p q ≡ bad (number m)
      go false q e = told Row.Table e
      go true false e = told Row.Pairs e
      go true true e = cc

  pub table-passed : (u : Unit) → table_row T ≡ Ok u → lent T bs ≡ read_under T bs
  unfolding lent
  table-passed u = go (is_table T) (within T constant)
    where
      go : (p q : Bool) → row p q ≡ Ok u → behind p q ≡ read_under T bs
      go false q e = cc
      go true false e = cc
      go true true e = refl

-- after the header
pub read-not : {bs : List ℕ} {m : Refusal} (T : List ℕ) → HeadIs bs (Err m) → read_under T bs ≡ bad (number m)
unfolding read_under
read-not {bs} T f = f.is (parts_under T (u32 bs 8) (u32 bs 16) (u32 bs 28) bs)

module _ {bs : List ℕ} {h : Header} (T : List ℕ) (f : HeadIs bs (Ok h)) where
  abbrev n : ℕ
  n = h.nodes

  abbrev t : ℕ
  t = h.texts

  abbrev ends : ℕ
  ends = 32 + 16 * n

  abbrev from : ℕ
  from = 32 + 16 * n + 4 * t

  pub counts : Counts bs h
  counts = f.counts

  to-parts : read_under T bs ≡ parts_under T n t h.bytes bs
  unfolding read_under
  to-parts =
      f.is (parts_under T (u32 bs 8) (u32 bs 16) (u32 bs 28) bs)
      ∙ sym (ap (λ (m : ℕ). parts_under T m h.texts h.bytes bs) counts.nodes ∙ ap (λ (m : ℕ). parts_under T (u32 bs 8) m h.bytes bs) counts.texts ∙ ap (λ (m : ℕ). parts_under T (u32 bs 8) (u32 bs 16) m bs) counts.bytes)

  -- what the texts answered, where they stand in places that were computed
  module _ {at : Texts} {b c : Bool} (e : at ≡ places n t) where
    pub rises-as : b ≡ rising 0 (ends_from at.count (drop at.ends bs)) h.bytes → b ≡ c → rising 0 (ends_from t (drop ends bs)) h.bytes ≡ c
    rises-as p q = ap (λ (x : Texts). rising 0 (ends_from x.count (drop x.ends bs)) h.bytes) (sym e) ∙ sym p ∙ q

    pub distinct-as : b ≡ distinct (texts_of bs at) → b ≡ c → distinct (texts_of bs (places n t)) ≡ c
    distinct-as p q = ap (λ (x : Texts). distinct (texts_of bs x)) (sym e) ∙ sym p ∙ q

  step5 : (a b : Bool) → rising 0 (ends_from t (drop ends bs)) h.bytes ≡ a → distinct (texts_of bs (places n t)) ≡ b → read_under T bs ≡ elim (a && b) [ false ↦ bad 5 | true ↦ checked_under T (script_of bs n t) ]
  step5 a b p q = to-parts ∙ ap₂ {C = Read} (λ (x y : Bool). elim (x && y) [ false ↦ bad 5 | true ↦ checked_under T (script_of bs n t) ]) p q

  pub falls : rising 0 (ends_from t (drop ends bs)) h.bytes ≡ false → read_under T bs ≡ bad 5
  falls p = step5 false (distinct (texts_of bs (places n t))) p refl

  pub twice : rising 0 (ends_from t (drop ends bs)) h.bytes ≡ true → distinct (texts_of bs (places n t)) ≡ false → read_under T bs ≡ bad 5
  twice p q = step5 true false p q

  pub placed : rising 0 (ends_from t (drop ends bs)) h.bytes ≡ true → Placed bs (places n t)
  placed p = record {
    stored = record { low = omega (arith, counts.few); high = omega (arith, counts.few, counts.few_texts); few = counts.few_texts; room = omega (arith, counts.size) };
    size = omega (arith, counts.size);
    rises = ap (rising 0 (ends_from t (drop ends bs))) (rest (length bs) h.bytes counts.size) ∙ p;
  }
    where
      rest : (l b : ℕ) → l ≡ 32 + 16 * n + 4 * t + b → l - from ≡ b
      rest l b z = omega arith

  module _ (p : rising 0 (ends_from t (drop ends bs)) h.bytes ≡ true) (q : distinct (texts_of bs (places n t)) ≡ true) where
    abbrev s₁ : Script
    s₁ = script_of bs n t

    -- row 6, as the nodes' reader has it
    abbrev row6 : Bool
    row6 = fills t (root_place ∷ []) (nodes_from n (drop 32 bs)) && pairs T (None ∷ []) (nodes_from n (drop 32 bs))

    same-fills : nodes_ok s₁ ≡ fills t (root_place ∷ []) (nodes_from n (drop 32 bs))
    unfolding nodes_ok
    same-fills = ap (λ (m : ℕ). fills m (root_place ∷ []) (nodes_from n (drop 32 bs))) (count-texts (placed p))

    same_ok : (nodes_ok s₁ && pairs_ok T s₁) ≡ row6
    unfolding pairs_ok
    same_ok = ap (λ (b : Bool). b && pairs T (None ∷ []) (nodes_from n (drop 32 bs))) same-fills

    by-six : (b : Bool) → row6 ≡ b → read_under T bs ≡ elim b [ false ↦ bad 6 | true ↦ elim (leb (length (idents s₁)) 256) [ false ↦ bad 7 | true ↦ script s₁ ] ]
    by-six b o = step5 true true p q ∙ ap {B = Read} (λ (b : Bool). elim b [ false ↦ bad 6 | true ↦ elim (leb (length (idents s₁)) 256) [ false ↦ bad 7 | true ↦ script s₁ ] ]) (same_ok ∙ o)

    pub not-nodes : row6 ≡ false → read_under T bs ≡ bad 6
    not-nodes o = by-six false o

    pub passed : row6 ≡ true → CheckIs T bs (Ok h)
    passed o = (
      counts,
      record { some = counts.some; few = counts.few; placed = placed p; ok = same-fills ∙ (and_parts (fills t (root_place ∷ []) (nodes_from n (drop 32 bs))) (pairs T (None ∷ []) (nodes_from n (drop 32 bs))) o).0 },
      by-six true o,
    )

-- all nodes loaded: the script's core and identifiers, of which there are at most 256
module _ {bs w : List ℕ} {n t : ℕ} (R : Readable bs n t) (l : Loaded bs w n t n) where
  abbrev s : Script
  s = script_of bs n t

  all-nodes : length s.nodes ≡ n
  all-nodes = nodes-length n (drop 32 bs)

  all_ids : ids_of bs w ≡ idents s
  unfolding idents
  all_ids = l.ids ∙ ap (enter_all []) (ap (λ (m : ℕ). take m s.nodes) (sym all-nodes) ∙ take-length s.nodes)

  pub few-ids : length (idents s) ≤ 256
  few-ids = omega (arith, ap length all_ids, ids-length bs w, l.listed.few)

  pub held : Held bs w s
  held = record {
    count = l.count ∙ sym all-nodes;
    tree = l.tree ∙ ap (λ (m : ℕ). take m (core_nodes s)) (sym all-nodes) ∙ core_all s;
    ids = all_ids;
    listed = subst (λ (m : ℕ). Listed w m) (sym all-nodes) l.listed;
  }

-- the ends of loading
load_is : {bs w w' : List ℕ} {r : Result Header Refusal} {y : Read} (x : Read) → y ≡ x → Told bs x r → Left bs w' x → Kept w w' → LoadIs y bs w w' r
load_is {bs} {w} {w'} {r} x e a l k = record { answer = subst (λ (z : Read). Told bs z r) (sym e) a; words = subst (Left bs w') (sym e) l; kept = k }

pub stopped : {bs w : List ℕ} {y : Read} (m : Refusal) → y ≡ bad (number m) → LoadIs y bs w w (Err m)
stopped m e = load_is (bad (number m)) e refl tt (record { size = refl; rest = refl })

module _ (T : List ℕ) {bs : List ℕ} {h : Header} (C : CheckIs T bs (Ok h)) where
  abbrev s₀ : Script
  s₀ = script_of bs h.nodes h.texts

  row7 : (b : Bool) → leb (length (idents s₀)) 256 ≡ b → read_under T bs ≡ elim b [ false ↦ bad 7 | true ↦ script s₀ ]
  row7 b e = C.2 ∙ ap {B = Read} (λ (b : Bool). elim b [ false ↦ bad 7 | true ↦ script s₀ ]) e

  pub few-script : {w w' : List ℕ} (m : Refusal) → lent T bs ≡ read_under T bs → Done bs w w' h.nodes h.texts (Err m) → LoadIs (lent T bs) bs w w' (Err m)
  few-script m l d = load_is (bad 7) (l ∙ row7 false (lt-leb (length (idents s₀)) 256 d.next.1)) (sym (ap (λ (n : ℕ). bad n) d.next.0)) tt d.kept

  pub loaded-script : {w w' : List ℕ} → lent T bs ≡ read_under T bs → Done bs w w' h.nodes h.texts (Ok tt) → LoadIs (lent T bs) bs w w' (Ok h)
  loaded-script l d = load_is (script s₀) (l ∙ row7 true (le-leb (length (idents s₀)) 256 (few-ids C.1 d.next))) (s₀, refl, same) (held C.1 d.next) d.kept
    where
      triple : {a a' b b' c c' : ℕ} → a ≡ a' → b ≡ b' → c ≡ c' → ◌≡◌ {A = Header} (record { nodes = a; texts = b; bytes = c }) (record { nodes = a'; texts = b'; bytes = c' })
      triple p q r = cc

      same : h ≡ counts_of bs s₀
      same = triple (sym (nodes-length h.nodes (drop 32 bs))) (sym (count-texts C.1.placed)) C.0.bytes

-- lent the constant table, reading is reading
pub own : {bs w w' : List ℕ} {r : Result Header Refusal} → ReadsAs (lent KINDS bs) bs w w' r → ReadsAs (read bs) bs w w' r
own {bs} {w} {w'} {r} R = subst (λ (x : Read). ReadsAs x bs w w' r) (own-read bs) R

-- what is read under a table is what is read without it
pub same-read : (T : List ℕ) {bs w w' : List ℕ} {r : Result Header Refusal} (h : Header) → ReadsAs (lent T bs) bs w w' r → r ≡ Ok h → lent T bs ≡ read bs
same-read T {bs} {w} {w'} {r} h R z = let t : Told bs (answer_of (length w) (lent T bs)) (Ok h) = subst (Told bs (answer_of (length w) (lent T bs))) z R.answer in go (leb 16384 (length w)) t.0 t.1
  where
    go : (p : Bool) (x : Script) → elim p [ false ↦ bad 1 | true ↦ lent T bs ] ≡ script x → lent T bs ≡ read bs
    go false x e = cc
    go true x e = e ∙ sym (lent-read T bs x e)

pub read-same : (T : List ℕ) {bs w w' : List ℕ} {r : Result Header Refusal} (h : Header) → ReadsAs (lent T bs) bs w w' r → r ≡ Ok h → ReadsAs (read bs) bs w w' r
read-same T {bs} {w} {w'} {r} h R z = subst (λ (x : Read). ReadsAs x bs w w' r) (same-read T h R z) R
