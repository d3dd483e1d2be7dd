-- Reading: bytes to a script, or a refusal from 2 to 7 (document 01, "The tree file" and "Refusals in checking order").
-- Assumes nothing: these are definitions.
use Rattle.std.specs.Prelude.{Bool, true, false, ◌&&◌, ◌||◌, not, List, [], ◌∷◌, ℕ, zero, suc, ◌+◌, ◌-◌, ◌*◌, eqb, ltb, leb, length, drop, take}
use Rattle.def_tree.specs.Base.{pick}
use Rattle.def_file.specs.declared.kinds.Class.{Class}
use Rattle.def_file.specs.Kinds.{Root, allows, row_of, form_ok, count_ok, child_of, uses_text, uses_bits}
use Rattle.def_file.specs.declared.Raw.{Raw}
use Rattle.def_file.specs.Script.{Script, same_text, idents}

-- little-endian numbers
abbrev pub number : ℕ → List ℕ → ℕ
number zero bs = 0
number (suc n) [] = 0
number (suc n) (b ∷ bs) = b + 256 * number n bs

abbrev pub u32 : List ℕ → ℕ → ℕ
u32 bs i = number 4 (drop i bs)

-- the node whose 16 bytes stand first
abbrev pub raw_of : List ℕ → Raw
raw_of bs = record { kind = number 1 bs; form = number 1 (drop 1 bs); arity = number 2 (drop 2 bs); text = number 4 (drop 4 bs); bits = number 8 (drop 8 bs) }

unfoldable pub nodes_from : ℕ → List ℕ → List Raw
nodes_from zero bs = []
nodes_from (suc n) bs = raw_of bs ∷ nodes_from n (drop 16 bs)

unfoldable pub ends_from : ℕ → List ℕ → List ℕ
ends_from zero bs = []
ends_from (suc n) bs = number 4 bs ∷ ends_from n (drop 4 bs)

-- texts by their ends, from the place of the first
unfoldable pub texts_from : ℕ → List ℕ → List ℕ → List (List ℕ)
texts_from at [] bs = []
texts_from at (e ∷ es) bs = take (e - at) bs ∷ texts_from e es (drop (e - at) bs)

-- row 5: the ends never fall and the last is n; no text stands twice
unfoldable pub rising : ℕ → List ℕ → ℕ → Bool
rising at [] n = eqb at n
rising at (e ∷ es) n = leb at e && rising e es n

unfoldable pub any_text : List ℕ → List (List ℕ) → Bool
any_text t [] = false
any_text t (u ∷ us) = same_text t u || any_text t us

unfoldable pub distinct : List (List ℕ) → Bool
unfolding any_text
distinct [] = true
distinct (t ∷ ts) = not (any_text t ts) && distinct ts

-- row 6: the places that are still to be filled, the next one first, each with the depth that is left (200 at the root)
pub record Place : Type 0 where
  pub class : Class
  pub left : ℕ

-- unused fields are 0, and a text number is one of t
abbrev pub fields_ok : ℕ → Raw → Bool
fields_ok t x = pick (uses_text x.kind) (ltb x.text t) (eqb x.text 0) && (uses_bits x.kind || eqb x.bits 0)

-- a node, at a place of a script with t texts
unfoldable pub node_ok : ℕ → Place → Raw → Bool
unfolding row_of
node_ok t p x =
    let r = row_of x.kind x.form in
    ltb 0 p.left && allows p.class x.kind x.arity && fields_ok t x && form_ok r x.form && count_ok r x.arity

-- the places of a node's children i to i + m - 1, each with the depth n left, before ps
unfoldable pub below : ℕ → Raw → ℕ → ℕ → List Place → List Place
unfolding row_of
below n x i zero ps = ps
below n x i (suc m) ps = record { class = child_of (row_of x.kind x.form) x.arity i; left = n } ∷ below n x (suc i) m ps

-- the nodes fill the places, none missing and none left over
unfoldable pub fills : ℕ → List Place → List Raw → Bool
unfolding node_ok below
fills t [] [] = true
fills t [] (x ∷ xs) = false
fills t (p ∷ ps) [] = false
fills t (p ∷ ps) (x ∷ xs) = elim (node_ok t p x) [ true ↦ fills t (below (p.left - 1) x 0 x.arity ps) xs | false ↦ false ]

unfoldable pub nodes_ok : Script → Bool
unfolding fills
nodes_ok s = fills (length s.texts) (record { class = Root; left = 200 } ∷ []) s.nodes

pub data Read : Type 0 where
  bad : ℕ → Read
  script : Script → Read

-- rows 2 to 7, each after the ones before
abbrev pub checked : Script → Read
checked s = elim (nodes_ok s) [ false ↦ bad 6 | true ↦ elim (leb (length (idents s)) 256) [ false ↦ bad 7 | true ↦ script s ] ]

abbrev pub parts : ℕ → ℕ → ℕ → List ℕ → Read
parts n t b bs =
    let ends = ends_from t (drop (32 + 16 * n) bs) in
    let texts = texts_from 0 ends (drop (32 + 16 * n + 4 * t) bs) in
    elim (rising 0 ends b && distinct texts) [ false ↦ bad 5 | true ↦ checked (record { nodes = nodes_from n (drop 32 bs); texts = texts }) ]

-- rows 2 to 4, which look at the header alone, then the rest
abbrev pub header : List ℕ → Read → Read
header bs rest =
    let n = u32 bs 8 in
    let t = u32 bs 16 in
    let b = u32 bs 28 in
    elim (leb 32 (length bs) && eqb (u32 bs 0) 1) [
      | false ↦ bad 2
      | true ↦
          elim (leb 1 n && leb n 1024 && leb t 256 && leb b 4096) [
            | false ↦ bad 3
            | true ↦
                elim (eqb (u32 bs 4) (length bs) && eqb (u32 bs 12) 32 && eqb (u32 bs 20) (32 + 16 * n) && eqb (u32 bs 24) (32 + 16 * n + 4 * t) && eqb (u32 bs 4) (32 + 16 * n + 4 * t + b)) [
                  | false ↦ bad 4
                  | true ↦ rest
                ]
          ]
    ]

unfoldable pub read : List ℕ → Read
unfolding nodes_from ends_from texts_from rising distinct nodes_ok idents
read bs = header bs (parts (u32 bs 8) (u32 bs 16) (u32 bs 28) bs)
