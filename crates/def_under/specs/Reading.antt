-- Reading under a lent kind table (request 10). A table is its bytes; def_kinds has where the entry of a parent's kind and a child's stands.
-- Assumes nothing: these are definitions.
use Rattle.std.specs.Prelude.{Bool, true, false, ◌&&◌, List, [], ◌∷◌, map, ℕ, ◌+◌, ◌*◌, ◌/◌, ◌%◌, leb, length, drop, None}
use Rattle.std.specs.List.{range_with_len}
use Rattle.def_tree.specs.Base.{to_nat}
use Rattle.def_kinds.specs.Stands.{stands}
use Rattle.def_kinds.specs.Pairs.{pairs}
use Rattle.def_kinds.specs.Lent.{is_table, within}
use Rattle.def_file.specs.Script.{Script, idents}
use Rattle.def_file.specs.Read.{Read, bad, script, u32, nodes_from, ends_from, texts_from, rising, distinct, nodes_ok, header}

-- "the lent one allows every pair": of parent and child, by their kinds as the file has them
unfoldable pub pairs_ok : List ℕ → Script → Bool
unfolding pairs
pairs_ok T s = pairs T (None ∷ []) s.nodes

-- rows 6 and 7: "a forbidden pair gives 6"
abbrev pub checked_under : List ℕ → Script → Read
checked_under T s = elim (nodes_ok s && pairs_ok T s) [ false ↦ bad 6 | true ↦ elim (leb (length (idents s)) 256) [ false ↦ bad 7 | true ↦ script s ] ]

-- `parts` and `read` of def_file, with row 6 so
abbrev pub parts_under : List ℕ → ℕ → ℕ → ℕ → List ℕ → Read
parts_under T n t b bs =
    let ends = ends_from t (drop (32 + 16 * n) bs) in
    let texts = texts_from 0 ends (drop (32 + 16 * n + 4 * t) bs) in
    elim (rising 0 ends b && distinct texts) [ false ↦ bad 5 | true ↦ checked_under T (record { nodes = nodes_from n (drop 32 bs); texts = texts }) ]

unfoldable pub read_under : List ℕ → List ℕ → Read
unfolding nodes_from ends_from texts_from rising distinct nodes_ok pairs_ok idents
read_under T bs = header bs (parts_under T (u32 bs 8) (u32 bs 16) (u32 bs 28) bs)

-- the constant table: request 5 says what stands in it
unfoldable pub constant : List ℕ
unfolding stands
constant = map (λ n. to_nat (stands (n / 48 + 1) (n % 48 + 1))) (range_with_len 0 2304)

-- 14 "when the length is not 2,304 or a byte is above 1", 15 "when it allows a pair that the constant table forbids"; "both after 1 and before 2, in this order"
unfoldable pub lent : List ℕ → List ℕ → Read
unfolding constant read_under
lent T bs = elim (is_table T) [ false ↦ bad 14 | true ↦ elim (within T constant) [ false ↦ bad 15 | true ↦ read_under T bs ] ]
