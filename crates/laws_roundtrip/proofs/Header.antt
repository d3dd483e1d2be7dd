-- The header: what a script that was read says of its file, and the eight numbers of a file that was written. Assumes nothing.
use mathlib.Core.Path.{◌≡◌, refl, sym, ◌∙◌}
use mathlib.Core.Bool.{Bool, true, false, ◌&&◌}
use mathlib.Core.List.{List, [], ◌++◌}
use Prim.Native.Nat.{ℕ, ◌+◌, ◌*◌, ◌≤◌, ◌<◌}
use native.Mathlib.Omega.{arith}
use borrow.Author.Tests.{leb-true, eqb-true, le-leb, eq-eqb}
use lib.Dec.{leb, eqb}
use lib.ListN.{length, drop}
use Rattle.def_file.specs.Script.{Script}
use Rattle.def_file.specs.Read.{Read, bad, script, number, u32, header}
use Rattle.def_file.specs.Write.{bytes, head_bytes}
use Rattle.laws_roundtrip.specs.Fits.{Bytes}
use Rattle.laws_roundtrip.proofs.Numbers.{number-bytes, field}
use Rattle.laws_roundtrip.proofs.Texts.{both}

-- a row that did not refuse
pub passed : (c : Bool) (k : ℕ) (x : Read) (s : Script) → elim c [ false ↦ bad k | true ↦ x ] ≡ script s → (c ≡ true) × (x ≡ script s)
passed true k x s h = (refl, h)
passed false k x s h = let z : ◌≡◌ {A = ℕ} 0 1 = cc in absurd (omega arith)

-- three rows that are met
pub met : (i j k : ℕ) (a b c : Bool) (x : Read) → a ≡ true → b ≡ true → c ≡ true → elim a [ false ↦ bad i | true ↦ elim b [ false ↦ bad j | true ↦ elim c [ false ↦ bad k | true ↦ x ] ] ] ≡ x
met i j k a b c x p q r = rw (p, q, r) refl

pub and-true : {a b : Bool} → a ≡ true → b ≡ true → (a && b) ≡ true
and-true p q = rw (p, q) refl

-- the header of a file of n nodes, t texts and b text bytes
pub record Headed (bs : List ℕ) (n t b : ℕ) : Type 0 where
  pub one : u32 bs 0 ≡ 1
  pub total : u32 bs 4 ≡ 32 + 16 * n + 4 * t + b
  pub nodes : u32 bs 8 ≡ n
  pub from : u32 bs 12 ≡ 32
  pub texts : u32 bs 16 ≡ t
  pub ends : u32 bs 20 ≡ 32 + 16 * n
  pub strings : u32 bs 24 ≡ 32 + 16 * n + 4 * t
  pub size : u32 bs 28 ≡ b
  pub long : length bs ≡ 32 + 16 * n + 4 * t + b
  pub some : 1 ≤ n
  pub few : n ≤ 1024
  pub named : t ≤ 256
  pub small : b ≤ 4096

-- the tests of rows 2 to 4
abbrev pub row2 : List ℕ → Bool
row2 bs = leb 32 (length bs) && eqb (u32 bs 0) 1

abbrev pub row3 : ℕ → ℕ → ℕ → Bool
row3 n t b = leb 1 n && leb n 1024 && leb t 256 && leb b 4096

abbrev pub row4 : List ℕ → ℕ → ℕ → ℕ → Bool
row4 bs n t b = eqb (u32 bs 4) (length bs) && eqb (u32 bs 12) 32 && eqb (u32 bs 20) (32 + 16 * n) && eqb (u32 bs 24) (32 + 16 * n + 4 * t) && eqb (u32 bs 4) (32 + 16 * n + 4 * t + b)

module _ (bs : List ℕ) where
  abbrev n : ℕ
  n = u32 bs 8

  abbrev t : ℕ
  t = u32 bs 16

  abbrev b : ℕ
  b = u32 bs 28

  pub headed : row2 bs ≡ true → row3 n t b ≡ true → row4 bs n t b ≡ true → Headed bs n t b
  headed h2 h3 h4 =
      let sum = 32 + 16 * n + 4 * t + b in
      let a1 = leb 1 n in
      let a2 = leb n 1024 in
      let a3 = leb t 256 in
      let b1 = eqb (u32 bs 4) (length bs) in
      let b2 = eqb (u32 bs 12) 32 in
      let b3 = eqb (u32 bs 20) (32 + 16 * n) in
      let b4 = eqb (u32 bs 24) (32 + 16 * n + 4 * t) in
      let (c3, small) = both (a1 && a2 && a3) (leb b 4096) h3 in
      let (c2, named) = both (a1 && a2) a3 c3 in
      let (some, few) = both a1 a2 c2 in
      let (d4, all) = both (b1 && b2 && b3 && b4) (eqb (u32 bs 4) sum) h4 in
      let (d3, strings) = both (b1 && b2 && b3) b4 d4 in
      let (d2, ends) = both (b1 && b2) b3 d3 in
      let (total, from) = both b1 b2 d2 in
      record {
        one = eqb-true (u32 bs 0) 1 (both (leb 32 (length bs)) (eqb (u32 bs 0) 1) h2).1;
        total = eqb-true (u32 bs 4) sum all;
        nodes = refl;
        from = eqb-true (u32 bs 12) 32 from;
        texts = refl;
        ends = eqb-true (u32 bs 20) (32 + 16 * n) ends;
        strings = eqb-true (u32 bs 24) (32 + 16 * n + 4 * t) strings;
        size = refl;
        long = sym (eqb-true (u32 bs 4) (length bs) total) ∙ eqb-true (u32 bs 4) sum all;
        some = leb-true 1 n some;
        few = leb-true n 1024 few;
        named = leb-true t 256 named;
        small = leb-true b 4096 small;
      }

  -- rows 2 to 4, passed
  pub header-passed : (x : Read) (s : Script) → header bs x ≡ script s → Headed bs n t b × (x ≡ script s)
  header-passed x s h =
      let p2 = passed (row2 bs) 2 _ s h in
      let p3 = passed (row3 n t b) 3 _ s p2.1 in
      let p4 = passed (row4 bs n t b) 4 x s p3.1 in
      (headed p2.0 p3.0 p4.0, p4.1)

module _ {bs : List ℕ} {n t b : ℕ} (h : Headed bs n t b) where
  -- such a header passes them
  pub passes : (x : Read) → header bs x ≡ x
  passes x =
      let same : (m k : ℕ) → m ≡ k → eqb m k ≡ true = eq-eqb in
      met 2 3 4 (row2 bs) (row3 (u32 bs 8) (u32 bs 16) (u32 bs 28)) (row4 bs (u32 bs 8) (u32 bs 16) (u32 bs 28)) x
      (and-true (le-leb 32 (length bs) (omega arith)) (same (u32 bs 0) 1 h.one))
      (rw (h.nodes, h.texts, h.size) (and-true (and-true (and-true (le-leb 1 n h.some) (le-leb n 1024 h.few)) (le-leb t 256 h.named)) (le-leb b 4096 h.small)))
      (rw (h.nodes, h.texts, h.size) (and-true (and-true (and-true (and-true (same (u32 bs 4) (length bs) (h.total ∙ sym h.long)) (same (u32 bs 12) 32 h.from)) (same (u32 bs 20) (32 + 16 * n) h.ends)) (same (u32 bs 24) (32 + 16 * n + 4 * t) h.strings)) (same (u32 bs 4) (32 + 16 * n + 4 * t + b) h.total)))

  -- the header's own bytes
  pub head_bytes_lem : Bytes bs → head_bytes n t b ++ drop 32 bs ≡ bs
  head_bytes_lem y =
      field bs y 4 0 (omega arith) h.one (field bs y 4 4 (omega arith) h.total (field bs y 4 8 (omega arith) h.nodes (field bs y 4 12 (omega arith) h.from
      (field bs y 4 16 (omega arith) h.texts (field bs y 4 20 (omega arith) h.ends (field bs y 4 24 (omega arith) h.strings (field bs y 4 28 (omega arith) h.size refl)))))))

-- eight numbers, written and read
pub head-written : (n t b : ℕ) (rest : List ℕ) → length rest ≡ 16 * n + 4 * t + b → 1 ≤ n → n ≤ 1024 → t ≤ 256 → b ≤ 4096 → Headed (head_bytes n t b ++ rest) n t b
head-written n t b rest l some few named small =
    let f : (x : ℕ) → x < 4294967296 → number 4 (bytes 4 x) ≡ x = λ x l. number-bytes 4 x [] l in
    record {
      one = refl;
      total = f (32 + 16 * n + 4 * t + b) (omega arith);
      nodes = f n (omega arith);
      from = refl;
      texts = f t (omega arith);
      ends = f (32 + 16 * n) (omega arith);
      strings = f (32 + 16 * n + 4 * t) (omega arith);
      size = f b (omega arith);
      long = omega arith;
      some = some;
      few = few;
      named = named;
      small = small;
    }
