-- Scripts with the contexts that they are to get, worked out by hand from ECMA-262's declared names and from the numbering of scopes, each with the rule that
-- it shows; and what the resolver answers at its limits. Assumes nothing: these are definitions.
use Rattle.std.specs.Prelude.{◌≡◌, refl, Bool, true, false, List, [], ◌∷◌, ◌++◌, ℕ, zero, suc, set}
use Rattle.def_tree.specs.Base.{pick}
use Rattle.def_file.specs.declared.Raw.{Raw}
use Rattle.def_file.specs.Script.{Script, has_id, same_text}
use Rattle.def_file.specs.Read.{Read, bad, script, read}
use Rattle.def_file.specs.Write.{file}
use Rattle.def_pass.specs.Table.{n}
use Rattle.def_pass.specs.Vector.{chunks}
use Rattle.def_pass.specs.Refusals.{contexts}
use Rattle.def_resolve.specs.Entry.{Resolving, refused, wrote, resolve_entry}

-- a file in numbers of 16 bytes, with its length and with contexts at random; and 0 and the contexts of the names of what is written for it, in node order, or
-- a refusal's number
pub record Vector : Type 0 where
  pub size : ℕ
  pub file : List ℕ
  pub answer : List ℕ

abbrev pub v : ℕ → List ℕ → List ℕ → Vector
v m f a = record { size = m; file = f; answer = a }

abbrev pub names_of : List Raw → List ℕ
names_of [] = []
names_of (x ∷ xs) = pick (has_id x) (x.bits ∷ []) [] ++ names_of xs

abbrev pub contexts_read : Read → List ℕ
contexts_read (bad r) = r ∷ []
contexts_read (script s) = 0 ∷ names_of s.nodes

abbrev pub seen : Resolving → List ℕ
unfolding read
seen (refused r) = r ∷ []
seen (wrote out) = contexts_read (read out)

unfoldable pub right_vector : Vector → Bool
unfolding resolve_entry read
right_vector x = same_text (seen (resolve_entry 16384 (chunks x.size x.file) x.size)) x.answer

-- the numbers of the vectors that come out otherwise, from n on
unfoldable pub wrong : ℕ → List Vector → List ℕ
unfolding right_vector
wrong i [] = []
wrong i (x ∷ xs) = elim (right_vector x) [ true ↦ wrong (suc i) xs | false ↦ i ∷ wrong (suc i) xs ]

-- contexts
abbrev pub examples : List Vector
examples =
    -- x; -- an undeclared name
    v 85 (0x20000000030000005500000001 ∷ 0x1000000540000005000000001 ∷ 0x10001 ∷ 0x10004 ∷ 0x15 ∷ 0x7800000001 ∷ []) (0 ∷ 0 ∷ [])
    -- var x; x; -- the script's scope is 1
    ∷ v 133 (0x20000000060000008500000001 ∷ 0x1000000840000008000000001 ∷ 0x20001 ∷ 0x10005 ∷ 0x10006 ∷ 0x14 ∷ 0x10004 ∷ 0x15 ∷ 0x7800000001 ∷ []) (0 ∷ 1 ∷ 1 ∷ [])
    -- let x; { x; let y; y; } y; -- a block is 2
    ∷ v 266 (0x200000000e0000010a00000001 ∷ 0x2000001080000010000000002 ∷ 0x30001 ∷ 0x10105 ∷ 0x10006 ∷ 0x14 ∷ 0x30002 ∷ 0x10004 ∷ 0x10000000000000015 ∷ 0x10105 ∷ 0x10006 ∷ 0x70000000100000014 ∷ 0x10004 ∷ 0x100000015 ∷ 0x10004 ∷ 0x70000000100000015 ∷ 0x79780000000200000001 ∷ []) (0 ∷ 1 ∷ 1 ∷ 2 ∷ 2 ∷ 0 ∷ [])
    -- var x; { let x; x; } x; -- a let of a block hides a var
    ∷ v 229 (0x200000000c000000e500000001 ∷ 0x1000000e4000000e000000001 ∷ 0x30001 ∷ 0x10005 ∷ 0x10006 ∷ 0x14 ∷ 0x20002 ∷ 0x10105 ∷ 0x10006 ∷ 0x20000000000000014 ∷ 0x10004 ∷ 0x20000000000000015 ∷ 0x10004 ∷ 0x15 ∷ 0x7800000001 ∷ []) (0 ∷ 1 ∷ 2 ∷ 2 ∷ 1 ∷ [])
    -- { var x; } x; -- a var stands at the top
    ∷ v 149 (0x20000000070000009500000001 ∷ 0x1000000940000009000000001 ∷ 0x20001 ∷ 0x10002 ∷ 0x10005 ∷ 0x10006 ∷ 0x70000000000000014 ∷ 0x10004 ∷ 0x20000000000000015 ∷ 0x7800000001 ∷ []) (0 ∷ 1 ∷ 1 ∷ [])
    -- { function f() { } f; } f; -- a function of a block is lexical there (Annex B left out)
    ∷ v 181 (0x2000000009000000b500000001 ∷ 0x1000000b4000000b000000001 ∷ 0x20001 ∷ 0x20002 ∷ 0x20007 ∷ 0x70000000000000014 ∷ 0x2 ∷ 0x10004 ∷ 0x15 ∷ 0x10004 ∷ 0x15 ∷ 0x6600000001 ∷ []) (0 ∷ 2 ∷ 2 ∷ 0 ∷ [])
    -- function f() { f; } f; -- a function at the top is var-declared
    ∷ v 165 (0x2000000008000000a500000001 ∷ 0x1000000a4000000a000000001 ∷ 0x20001 ∷ 0x20007 ∷ 0x70000000000000014 ∷ 0x10002 ∷ 0x10004 ∷ 0x15 ∷ 0x10004 ∷ 0x70000000000000015 ∷ 0x6600000001 ∷ []) (0 ∷ 1 ∷ 1 ∷ 1 ∷ [])
    -- function f() { } function f() { } var f; -- so twice is no clash
    ∷ v 197 (0x200000000a000000c500000001 ∷ 0x1000000c4000000c000000001 ∷ 0x30001 ∷ 0x20007 ∷ 0x14 ∷ 0x2 ∷ 0x20007 ∷ 0x14 ∷ 0x2 ∷ 0x10005 ∷ 0x10006 ∷ 0x14 ∷ 0x6600000001 ∷ []) (0 ∷ 1 ∷ 1 ∷ 1 ∷ [])
    -- function f(p) { var p; p; } p; -- a function's body shares its function's scope
    ∷ v 234 (0x200000000c000000ea00000001 ∷ 0x2000000e8000000e000000002 ∷ 0x20001 ∷ 0x30007 ∷ 0x14 ∷ 0x10000000100000014 ∷ 0x20002 ∷ 0x10005 ∷ 0x10006 ∷ 0x20000000100000014 ∷ 0x10004 ∷ 0x100000015 ∷ 0x10004 ∷ 0x70000000100000015 ∷ 0x70660000000200000001 ∷ []) (0 ∷ 1 ∷ 2 ∷ 2 ∷ 2 ∷ 0 ∷ [])
    -- function f(a, a) { a; } -- parameters may be one name
    ∷ v 170 (0x2000000008000000aa00000001 ∷ 0x2000000a8000000a000000002 ∷ 0x10001 ∷ 0x40007 ∷ 0x10000000000000014 ∷ 0x70000000100000014 ∷ 0xffffffffffffffff0000000100000014 ∷ 0x10002 ∷ 0x10004 ∷ 0x100000015 ∷ 0x61660000000200000001 ∷ []) (0 ∷ 1 ∷ 2 ∷ 2 ∷ 2 ∷ [])
    -- (function f() { f; }); -- a named function expression's name has a scope just before its own
    ∷ v 165 (0x2000000008000000a500000001 ∷ 0x1000000a4000000a000000001 ∷ 0x10001 ∷ 0x10004 ∷ 0x10029 ∷ 0x20127 ∷ 0x70000000000000014 ∷ 0x10002 ∷ 0x10004 ∷ 0xffffffffffffffff0000000000000015 ∷ 0x6600000001 ∷ []) (0 ∷ 2 ∷ 2 ∷ [])
    -- (function f() { var f; f; }); -- which its own scope hides
    ∷ v 213 (0x200000000b000000d500000001 ∷ 0x1000000d4000000d000000001 ∷ 0x10001 ∷ 0x10004 ∷ 0x10029 ∷ 0x20127 ∷ 0x14 ∷ 0x20002 ∷ 0x10005 ∷ 0x10006 ∷ 0x70000000000000014 ∷ 0x10004 ∷ 0xffffffffffffffff0000000000000015 ∷ 0x6600000001 ∷ []) (0 ∷ 2 ∷ 3 ∷ 3 ∷ [])
    -- (function () { var g; g; }); -- without a name it has one scope
    ∷ v 197 (0x200000000a000000c500000001 ∷ 0x1000000c4000000c000000001 ∷ 0x10001 ∷ 0x10004 ∷ 0x10029 ∷ 0x10027 ∷ 0x20002 ∷ 0x10005 ∷ 0x10006 ∷ 0x14 ∷ 0x10004 ∷ 0x70000000000000015 ∷ 0x6700000001 ∷ []) (0 ∷ 2 ∷ 2 ∷ [])
    -- (p) => p; -- an arrow
    ∷ v 117 (0x20000000050000007500000001 ∷ 0x1000000740000007000000001 ∷ 0x10001 ∷ 0x10004 ∷ 0x20128 ∷ 0xffffffffffffffff0000000000000014 ∷ 0x70000000000000015 ∷ 0x7000000001 ∷ []) (0 ∷ 2 ∷ 2 ∷ [])
    -- (p) => { let q; p; q; }; -- its body shares too
    ∷ v 234 (0x200000000c000000ea00000001 ∷ 0x2000000e8000000e000000002 ∷ 0x10001 ∷ 0x10004 ∷ 0x20028 ∷ 0x10000000000000014 ∷ 0x30002 ∷ 0x10105 ∷ 0x10006 ∷ 0x20000000100000014 ∷ 0x10004 ∷ 0x70000000000000015 ∷ 0x10004 ∷ 0x20000000100000015 ∷ 0x71700000000200000001 ∷ []) (0 ∷ 2 ∷ 2 ∷ 2 ∷ 2 ∷ [])
    -- function f(x = 1) { var x; x; } -- but where a parameter holds a default: two variables
    ∷ v 234 (0x200000000c000000ea00000001 ∷ 0x2000000e8000000e000000002 ∷ 0x10001 ∷ 0x30007 ∷ 0x14 ∷ 0x20030 ∷ 0x100000014 ∷ 0x3ff00000000000000000000000000018 ∷ 0x20002 ∷ 0x10005 ∷ 0x10006 ∷ 0xffffffffffffffff0000000100000014 ∷ 0x10004 ∷ 0x100000015 ∷ 0x78660000000200000001 ∷ []) (0 ∷ 1 ∷ 2 ∷ 3 ∷ 3 ∷ [])
    -- function f({a: [x = y]}) { var y; y; } y; -- a default anywhere in a pattern
    ∷ v 324 (0x20000000110000014400000001 ∷ 0x4000001400000013000000004 ∷ 0x20001 ∷ 0x30007 ∷ 0x10000000000000014 ∷ 0x1002d ∷ 0x10001002f ∷ 0x1002e ∷ 0x20030 ∷ 0x70000000200000014 ∷ 0x20000000300000015 ∷ 0x20002 ∷ 0x10005 ∷ 0x10006 ∷ 0x10000000300000014 ∷ 0x10004 ∷ 0xffffffffffffffff0000000300000015 ∷ 0x10004 ∷ 0x20000000300000015 ∷ 0x4000000030000000200000001 ∷ 0x79786166 ∷ []) (0 ∷ 1 ∷ 2 ∷ 0 ∷ 3 ∷ 3 ∷ 0 ∷ [])
    -- function f(x, y = () => z) { var z; z; x; } -- the body's scope comes behind those of the defaults
    ∷ v 308 (0x20000000100000013400000001 ∷ 0x4000001300000012000000004 ∷ 0x10001 ∷ 0x40007 ∷ 0x14 ∷ 0x100000014 ∷ 0x20030 ∷ 0x70000000200000014 ∷ 0x10128 ∷ 0x20000000300000015 ∷ 0x30002 ∷ 0x10005 ∷ 0x10006 ∷ 0x300000014 ∷ 0x10004 ∷ 0x10000000300000015 ∷ 0x10004 ∷ 0x100000015 ∷ 0x4000000030000000200000001 ∷ 0x7a797866 ∷ []) (0 ∷ 1 ∷ 2 ∷ 2 ∷ 0 ∷ 4 ∷ 4 ∷ 2 ∷ [])
    -- (x = x) => { let z; x; z; }; -- of an arrow, too
    ∷ v 266 (0x200000000e0000010a00000001 ∷ 0x2000001080000010000000002 ∷ 0x10001 ∷ 0x10004 ∷ 0x20028 ∷ 0x20030 ∷ 0x20000000000000014 ∷ 0x15 ∷ 0x30002 ∷ 0x10105 ∷ 0x10006 ∷ 0xffffffffffffffff0000000100000014 ∷ 0x10004 ∷ 0x15 ∷ 0x10004 ∷ 0x70000000100000015 ∷ 0x7a780000000200000001 ∷ []) (0 ∷ 2 ∷ 2 ∷ 3 ∷ 2 ∷ 3 ∷ [])
    -- (x = 1) => x; -- an expression is no body
    ∷ v 149 (0x20000000070000009500000001 ∷ 0x1000000940000009000000001 ∷ 0x10001 ∷ 0x10004 ∷ 0x20128 ∷ 0x20030 ∷ 0x10000000000000014 ∷ 0x3ff00000000000000000000000000018 ∷ 0x10000000000000015 ∷ 0x7800000001 ∷ []) (0 ∷ 2 ∷ 2 ∷ [])
    -- (function f(x = f) { var f; f; }); -- a default sees the name
    ∷ v 266 (0x200000000e0000010a00000001 ∷ 0x2000001080000010000000002 ∷ 0x10001 ∷ 0x10004 ∷ 0x10029 ∷ 0x30127 ∷ 0x70000000000000014 ∷ 0x20030 ∷ 0x20000000100000014 ∷ 0x70000000000000015 ∷ 0x20002 ∷ 0x10005 ∷ 0x10006 ∷ 0x20000000000000014 ∷ 0x10004 ∷ 0x15 ∷ 0x78660000000200000001 ∷ []) (0 ∷ 2 ∷ 3 ∷ 2 ∷ 4 ∷ 4 ∷ [])
    -- try { } catch (e) { let x; e; x; } e; -- a catch's block shares its catch's scope
    ∷ v 282 (0x200000000f0000011a00000001 ∷ 0x2000001180000011000000002 ∷ 0x20001 ∷ 0x20110 ∷ 0x2 ∷ 0x20011 ∷ 0x10000000000000014 ∷ 0x30002 ∷ 0x10105 ∷ 0x10006 ∷ 0x20000000100000014 ∷ 0x10004 ∷ 0xffffffffffffffff0000000000000015 ∷ 0x10004 ∷ 0xffffffffffffffff0000000100000015 ∷ 0x10004 ∷ 0x15 ∷ 0x78650000000200000001 ∷ []) (0 ∷ 3 ∷ 3 ∷ 3 ∷ 3 ∷ 0 ∷ [])
    -- try { } catch ([e = 1]) { let x; e; x; } -- but where its binding holds a default
    ∷ v 298 (0x20000000100000012a00000001 ∷ 0x2000001280000012000000002 ∷ 0x10001 ∷ 0x20110 ∷ 0x2 ∷ 0x20011 ∷ 0x1002e ∷ 0x20030 ∷ 0xffffffffffffffff0000000000000014 ∷ 0x3ff00000000000000000000000000018 ∷ 0x30002 ∷ 0x10105 ∷ 0x10006 ∷ 0x10000000100000014 ∷ 0x10004 ∷ 0xffffffffffffffff0000000000000015 ∷ 0x10004 ∷ 0x70000000100000015 ∷ 0x78650000000200000001 ∷ []) (0 ∷ 3 ∷ 4 ∷ 3 ∷ 4 ∷ [])
    -- try { } catch { let x; x; } x; -- a catch without binding
    ∷ v 229 (0x200000000c000000e500000001 ∷ 0x1000000e4000000e000000001 ∷ 0x20001 ∷ 0x20110 ∷ 0x2 ∷ 0x10011 ∷ 0x20002 ∷ 0x10105 ∷ 0x10006 ∷ 0x20000000000000014 ∷ 0x10004 ∷ 0x10000000000000015 ∷ 0x10004 ∷ 0xffffffffffffffff0000000000000015 ∷ 0x7800000001 ∷ []) (0 ∷ 3 ∷ 3 ∷ 0 ∷ [])
    -- for (let i = i; i; i) { let i; i; } i; -- a loop's scope, and its block's
    ∷ v 293 (0x20000000100000012500000001 ∷ 0x1000001240000012000000001 ∷ 0x20001 ∷ 0x4070c ∷ 0x10105 ∷ 0x20006 ∷ 0xffffffffffffffff0000000000000014 ∷ 0x10000000000000015 ∷ 0x15 ∷ 0x20000000000000015 ∷ 0x20002 ∷ 0x10105 ∷ 0x10006 ∷ 0x10000000000000014 ∷ 0x10004 ∷ 0x15 ∷ 0x10004 ∷ 0x70000000000000015 ∷ 0x6900000001 ∷ []) (0 ∷ 2 ∷ 2 ∷ 2 ∷ 2 ∷ 3 ∷ 3 ∷ 0 ∷ [])
    -- for (var i of i) i; -- a var head
    ∷ v 165 (0x2000000008000000a500000001 ∷ 0x1000000a4000000a000000001 ∷ 0x10001 ∷ 0x3000e ∷ 0x10005 ∷ 0x10006 ∷ 0x14 ∷ 0x15 ∷ 0x10004 ∷ 0x10000000000000015 ∷ 0x6900000001 ∷ []) (0 ∷ 1 ∷ 1 ∷ 1 ∷ [])
    -- for (let i of i) i; i; -- what a head goes over stands inside the loop's scope
    ∷ v 197 (0x200000000a000000c500000001 ∷ 0x1000000c4000000c000000001 ∷ 0x20001 ∷ 0x3000e ∷ 0x10105 ∷ 0x10006 ∷ 0x14 ∷ 0x20000000000000015 ∷ 0x10004 ∷ 0x20000000000000015 ∷ 0x10004 ∷ 0x20000000000000015 ∷ 0x6900000001 ∷ []) (0 ∷ 2 ∷ 2 ∷ 2 ∷ 0 ∷ [])
    -- for (const [i, j] in i) j; -- a pattern
    ∷ v 202 (0x200000000a000000ca00000001 ∷ 0x2000000c8000000c000000002 ∷ 0x10001 ∷ 0x3000d ∷ 0x10205 ∷ 0x10006 ∷ 0x2002e ∷ 0x20000000000000014 ∷ 0x20000000100000014 ∷ 0x70000000000000015 ∷ 0x10004 ∷ 0x10000000100000015 ∷ 0x6a690000000200000001 ∷ []) (0 ∷ 2 ∷ 2 ∷ 2 ∷ 2 ∷ [])
    -- for (i of i) i; -- a head without declaration declares nothing
    ∷ v 133 (0x20000000060000008500000001 ∷ 0x1000000840000008000000001 ∷ 0x10001 ∷ 0x3000e ∷ 0x20000000000000014 ∷ 0x70000000000000015 ∷ 0x10004 ∷ 0x10000000000000015 ∷ 0x6900000001 ∷ []) (0 ∷ 0 ∷ 0 ∷ 0 ∷ [])
    -- switch (x) { case x: let x; default: x; } x; -- what a switch looks at stands outside its one scope
    ∷ v 245 (0x200000000d000000f500000001 ∷ 0x1000000f4000000f000000001 ∷ 0x20001 ∷ 0x30012 ∷ 0x10000000000000015 ∷ 0x20113 ∷ 0xffffffffffffffff0000000000000015 ∷ 0x10105 ∷ 0x10006 ∷ 0x20000000000000014 ∷ 0x10013 ∷ 0x10004 ∷ 0x15 ∷ 0x10004 ∷ 0x15 ∷ 0x7800000001 ∷ []) (0 ∷ 0 ∷ 2 ∷ 2 ∷ 2 ∷ 0 ∷ [])
    -- switch (() => q) { case 1: let q; } -- though its scope is counted before
    ∷ v 181 (0x2000000009000000b500000001 ∷ 0x1000000b4000000b000000001 ∷ 0x10001 ∷ 0x20012 ∷ 0x10128 ∷ 0x15 ∷ 0x20113 ∷ 0x3ff00000000000000000000000000018 ∷ 0x10105 ∷ 0x10006 ∷ 0x14 ∷ 0x7100000001 ∷ []) (0 ∷ 0 ∷ 2 ∷ [])
    -- switch (1) { case 1: function f() { } case 2: f; } -- a function in a case is lexical
    ∷ v 229 (0x200000000c000000e500000001 ∷ 0x1000000e4000000e000000001 ∷ 0x10001 ∷ 0x30012 ∷ 0x3ff00000000000000000000000000018 ∷ 0x20113 ∷ 0x3ff00000000000000000000000000018 ∷ 0x20007 ∷ 0x14 ∷ 0x2 ∷ 0x20113 ∷ 0x40000000000000000000000000000018 ∷ 0x10004 ∷ 0x20000000000000015 ∷ 0x6600000001 ∷ []) (0 ∷ 2 ∷ 2 ∷ [])
    -- if (a) { let a; a; } else { a; } -- if opens no scope
    ∷ v 229 (0x200000000c000000e500000001 ∷ 0x1000000e4000000e000000001 ∷ 0x10001 ∷ 0x30009 ∷ 0x15 ∷ 0x20002 ∷ 0x10105 ∷ 0x10006 ∷ 0x10000000000000014 ∷ 0x10004 ∷ 0x10000000000000015 ∷ 0x10002 ∷ 0x10004 ∷ 0x15 ∷ 0x6100000001 ∷ []) (0 ∷ 0 ∷ 2 ∷ 2 ∷ 0 ∷ [])
    -- while (a) { var a; } -- nor while
    ∷ v 149 (0x20000000070000009500000001 ∷ 0x1000000940000009000000001 ∷ 0x10001 ∷ 0x2000a ∷ 0x70000000000000015 ∷ 0x10002 ∷ 0x10005 ∷ 0x10006 ∷ 0x10000000000000014 ∷ 0x6100000001 ∷ []) (0 ∷ 1 ∷ 1 ∷ [])
    -- do { let a; } while (a); -- nor do: its test stands outside the block
    ∷ v 149 (0x20000000070000009500000001 ∷ 0x1000000940000009000000001 ∷ 0x10001 ∷ 0x2000b ∷ 0x10000000000000015 ∷ 0x10002 ∷ 0x10105 ∷ 0x10006 ∷ 0x14 ∷ 0x6100000001 ∷ []) (0 ∷ 0 ∷ 2 ∷ [])
    -- if (a) var x; x; -- nor if
    ∷ v 170 (0x2000000008000000aa00000001 ∷ 0x2000000a8000000a000000002 ∷ 0x20001 ∷ 0x20009 ∷ 0x15 ∷ 0x10005 ∷ 0x10006 ∷ 0x70000000100000014 ∷ 0x10004 ∷ 0x20000000100000015 ∷ 0x78610000000200000001 ∷ []) (0 ∷ 0 ∷ 1 ∷ 1 ∷ [])
    -- for (var i = 1; ; ) { var x; } i; x; -- of a loop, in its head and in its body
    ∷ v 266 (0x200000000e0000010a00000001 ∷ 0x2000001080000010000000002 ∷ 0x30001 ∷ 0x2010c ∷ 0x10005 ∷ 0x20006 ∷ 0x14 ∷ 0x3ff00000000000000000000000000018 ∷ 0x10002 ∷ 0x10005 ∷ 0x10006 ∷ 0x70000000100000014 ∷ 0x10004 ∷ 0x20000000000000015 ∷ 0x10004 ∷ 0x10000000100000015 ∷ 0x78690000000200000001 ∷ []) (0 ∷ 1 ∷ 1 ∷ 1 ∷ 1 ∷ [])
    -- try { var x; } catch (e) { var y; } finally { var z; } x; y; z; -- of the three blocks of a try
    ∷ v 404 (0x20000000160000019400000001 ∷ 0x4000001900000018000000004 ∷ 0x40001 ∷ 0x30310 ∷ 0x10002 ∷ 0x10005 ∷ 0x10006 ∷ 0x14 ∷ 0x20011 ∷ 0x70000000100000014 ∷ 0x10002 ∷ 0x10005 ∷ 0x10006 ∷ 0x20000000200000014 ∷ 0x10002 ∷ 0x10005 ∷ 0x10006 ∷ 0x10000000300000014 ∷ 0x10004 ∷ 0xffffffffffffffff0000000000000015 ∷ 0x10004 ∷ 0x200000015 ∷ 0x10004 ∷ 0x70000000300000015 ∷ 0x4000000030000000200000001 ∷ 0x7a796578 ∷ []) (0 ∷ 1 ∷ 3 ∷ 1 ∷ 1 ∷ 1 ∷ 1 ∷ 1 ∷ [])
    -- { function f() { var x; x; } x; } x; -- of a function it is seen nowhere around
    ∷ v 266 (0x200000000e0000010a00000001 ∷ 0x2000001080000010000000002 ∷ 0x20001 ∷ 0x20002 ∷ 0x20007 ∷ 0x14 ∷ 0x20002 ∷ 0x10005 ∷ 0x10006 ∷ 0x70000000100000014 ∷ 0x10004 ∷ 0x20000000100000015 ∷ 0x10004 ∷ 0x10000000100000015 ∷ 0x10004 ∷ 0xffffffffffffffff0000000100000015 ∷ 0x78660000000200000001 ∷ []) (0 ∷ 2 ∷ 3 ∷ 3 ∷ 0 ∷ 0 ∷ [])
    -- function f() { arguments; } -- `arguments` is an undeclared name unless declared
    ∷ v 146 (0x20000000060000009200000001 ∷ 0xa000000880000008000000002 ∷ 0x10001 ∷ 0x20007 ∷ 0x70000000000000014 ∷ 0x10002 ∷ 0x10004 ∷ 0x70000000100000015 ∷ 0x6e656d75677261660000000a00000001 ∷ 0x7374 ∷ []) (0 ∷ 1 ∷ 0 ∷ [])
    -- var arguments; function f() { arguments; } arguments; -- a function has its own
    ∷ v 226 (0x200000000b000000e200000001 ∷ 0xa000000d8000000d000000002 ∷ 0x30001 ∷ 0x10005 ∷ 0x10006 ∷ 0xffffffffffffffff0000000000000014 ∷ 0x20007 ∷ 0x100000014 ∷ 0x10002 ∷ 0x10004 ∷ 0x20000000000000015 ∷ 0x10004 ∷ 0xffffffffffffffff0000000000000015 ∷ 0x746e656d756772610000000a00000009 ∷ 0x6673 ∷ []) (0 ∷ 1 ∷ 1 ∷ 0 ∷ 1 ∷ [])
    -- var arguments; (() => arguments); -- an arrow has none
    ∷ v 173 (0x2000000008000000ad00000001 ∷ 0x9000000a4000000a000000001 ∷ 0x20001 ∷ 0x10005 ∷ 0x10006 ∷ 0x20000000000000014 ∷ 0x10004 ∷ 0x10029 ∷ 0x10128 ∷ 0x20000000000000015 ∷ 0x73746e656d7567726100000009 ∷ []) (0 ∷ 1 ∷ 1 ∷ [])
    -- function f() { var arguments; () => arguments; } -- declared
    ∷ v 210 (0x200000000a000000d200000001 ∷ 0xa000000c8000000c000000002 ∷ 0x10001 ∷ 0x20007 ∷ 0x14 ∷ 0x20002 ∷ 0x10005 ∷ 0x10006 ∷ 0x20000000100000014 ∷ 0x10004 ∷ 0x10128 ∷ 0xffffffffffffffff0000000100000015 ∷ 0x6e656d75677261660000000a00000001 ∷ 0x7374 ∷ []) (0 ∷ 1 ∷ 2 ∷ 2 ∷ [])
    -- function f(arguments) { arguments; } -- as a parameter
    ∷ v 162 (0x2000000007000000a200000001 ∷ 0xa000000980000009000000002 ∷ 0x10001 ∷ 0x30007 ∷ 0x14 ∷ 0x100000014 ∷ 0x10002 ∷ 0x10004 ∷ 0x100000015 ∷ 0x6e656d75677261660000000a00000001 ∷ 0x7374 ∷ []) (0 ∷ 1 ∷ 2 ∷ 2 ∷ [])
    -- function f(x = arguments) { var arguments; arguments; } -- in a default it is the function's own
    ∷ v 247 (0x200000000c000000f700000001 ∷ 0xb000000ec000000e000000003 ∷ 0x10001 ∷ 0x30007 ∷ 0x14 ∷ 0x20030 ∷ 0x10000000100000014 ∷ 0x70000000200000015 ∷ 0x20002 ∷ 0x10005 ∷ 0x10006 ∷ 0x200000014 ∷ 0x10004 ∷ 0x200000015 ∷ 0x726178660000000b0000000200000001 ∷ 0x73746e656d7567 ∷ []) (0 ∷ 1 ∷ 2 ∷ 0 ∷ 3 ∷ 3 ∷ [])
    -- (function arguments() { arguments; }); -- hidden by the function's own
    ∷ v 173 (0x2000000008000000ad00000001 ∷ 0x9000000a4000000a000000001 ∷ 0x10001 ∷ 0x10004 ∷ 0x10029 ∷ 0x20127 ∷ 0x14 ∷ 0x10002 ∷ 0x10004 ∷ 0x70000000000000015 ∷ 0x73746e656d7567726100000009 ∷ []) (0 ∷ 2 ∷ 0 ∷ [])
    -- var {a: x, b: [y]} = z; x; y; -- a key is no name
    ∷ v 281 (0x200000000e0000011900000001 ∷ 0x5000001140000010000000005 ∷ 0x30001 ∷ 0x10005 ∷ 0x20006 ∷ 0x2002d ∷ 0x1002f ∷ 0x10000000100000014 ∷ 0x20001002f ∷ 0x1002e ∷ 0x70000000300000014 ∷ 0x400000015 ∷ 0x10004 ∷ 0x100000015 ∷ 0x10004 ∷ 0x300000015 ∷ 0x4000000030000000200000001 ∷ 0x7a7962786100000005 ∷ []) (0 ∷ 1 ∷ 1 ∷ 0 ∷ 1 ∷ 1 ∷ [])
    -- [x] = [y]; let x; -- an assignment declares nothing
    ∷ v 202 (0x200000000a000000ca00000001 ∷ 0x2000000c8000000c000000002 ∷ 0x20001 ∷ 0x10004 ∷ 0x20021 ∷ 0x1002e ∷ 0x14 ∷ 0x1001b ∷ 0xffffffffffffffff0000000100000015 ∷ 0x10105 ∷ 0x10006 ∷ 0x10000000000000014 ∷ 0x79780000000200000001 ∷ []) (0 ∷ 1 ∷ 0 ∷ 1 ∷ [])
    -- if (a) ; else const c = 1; c; -- nor does else: a const that is a branch
    ∷ v 202 (0x200000000a000000ca00000001 ∷ 0x2000000c8000000c000000002 ∷ 0x20001 ∷ 0x30009 ∷ 0x15 ∷ 0x3 ∷ 0x10205 ∷ 0x20006 ∷ 0x70000000100000014 ∷ 0x3ff00000000000000000000000000018 ∷ 0x10004 ∷ 0x20000000100000015 ∷ 0x63610000000200000001 ∷ []) (0 ∷ 0 ∷ 1 ∷ 1 ∷ [])
    -- do function f() { f; } while (f); f; -- a function that is the body of do: its test sees it
    ∷ v 197 (0x200000000a000000c500000001 ∷ 0x1000000c4000000c000000001 ∷ 0x20001 ∷ 0x2000b ∷ 0x15 ∷ 0x20007 ∷ 0x70000000000000014 ∷ 0x10002 ∷ 0x10004 ∷ 0x20000000000000015 ∷ 0x10004 ∷ 0x10000000000000015 ∷ 0x6600000001 ∷ []) (0 ∷ 1 ∷ 1 ∷ 1 ∷ 1 ∷ [])
    -- { let x; } { x; let x; } -- two blocks, in node order; a use before the let
    ∷ v 213 (0x200000000b000000d500000001 ∷ 0x1000000d4000000d000000001 ∷ 0x20001 ∷ 0x10002 ∷ 0x10105 ∷ 0x10006 ∷ 0x14 ∷ 0x20002 ∷ 0x10004 ∷ 0x70000000000000015 ∷ 0x10105 ∷ 0x10006 ∷ 0x20000000000000014 ∷ 0x7800000001 ∷ []) (0 ∷ 2 ∷ 3 ∷ 3 ∷ [])
    -- function f(a = function () { return b; }, b) { var b; b; } -- a function in a default sees the parameters, not the body
    ∷ v 303 (0x20000000100000012f00000001 ∷ 0x30000012c0000012000000003 ∷ 0x10001 ∷ 0x40007 ∷ 0x14 ∷ 0x20030 ∷ 0x70000000100000014 ∷ 0x10027 ∷ 0x10002 ∷ 0x10008 ∷ 0x20000000200000015 ∷ 0x10000000200000014 ∷ 0x20002 ∷ 0x10005 ∷ 0x10006 ∷ 0xffffffffffffffff0000000200000014 ∷ 0x10004 ∷ 0x200000015 ∷ 0x626166000000030000000200000001 ∷ []) (0 ∷ 1 ∷ 2 ∷ 2 ∷ 2 ∷ 4 ∷ 4 ∷ [])
    -- (function f(f = 1) { f; }); -- a parameter of the function's own name
    ∷ v 213 (0x200000000b000000d500000001 ∷ 0x1000000d4000000d000000001 ∷ 0x10001 ∷ 0x10004 ∷ 0x10029 ∷ 0x30127 ∷ 0x14 ∷ 0x20030 ∷ 0x70000000000000014 ∷ 0x3ff00000000000000000000000000018 ∷ 0x10002 ∷ 0x10004 ∷ 0x20000000000000015 ∷ 0x6600000001 ∷ []) (0 ∷ 2 ∷ 3 ∷ 3 ∷ [])
    -- (function f() { let f; f; }); -- a let of the function's own name: no clash
    ∷ v 213 (0x200000000b000000d500000001 ∷ 0x1000000d4000000d000000001 ∷ 0x10001 ∷ 0x10004 ∷ 0x10029 ∷ 0x20127 ∷ 0x14 ∷ 0x20002 ∷ 0x10105 ∷ 0x10006 ∷ 0x70000000000000014 ∷ 0x10004 ∷ 0x20000000000000015 ∷ 0x6600000001 ∷ []) (0 ∷ 2 ∷ 3 ∷ 3 ∷ [])
    -- function f() { { let arguments; arguments; } arguments; } -- declared in a block of it
    ∷ v 242 (0x200000000c000000f200000001 ∷ 0xa000000e8000000e000000002 ∷ 0x10001 ∷ 0x20007 ∷ 0x14 ∷ 0x20002 ∷ 0x20002 ∷ 0x10105 ∷ 0x10006 ∷ 0x70000000100000014 ∷ 0x10004 ∷ 0x20000000100000015 ∷ 0x10004 ∷ 0x10000000100000015 ∷ 0x6e656d75677261660000000a00000001 ∷ 0x7374 ∷ []) (0 ∷ 1 ∷ 3 ∷ 3 ∷ 0 ∷ [])
    -- var arguments; function f() { () => arguments; } -- an arrow has its function's
    ∷ v 210 (0x200000000a000000d200000001 ∷ 0xa000000c8000000c000000002 ∷ 0x20001 ∷ 0x10005 ∷ 0x10006 ∷ 0x14 ∷ 0x20007 ∷ 0x70000000100000014 ∷ 0x10002 ∷ 0x10004 ∷ 0x10128 ∷ 0x20000000000000015 ∷ 0x746e656d756772610000000a00000009 ∷ 0x6673 ∷ []) (0 ∷ 1 ∷ 1 ∷ 0 ∷ [])
    -- try { let a; } catch ([e]) { let a; e; } finally { let a; a; } -- a pattern without a default shares; a try opens no scope
    ∷ v 378 (0x20000000150000017a00000001 ∷ 0x2000001780000017000000002 ∷ 0x10001 ∷ 0x30310 ∷ 0x10002 ∷ 0x10105 ∷ 0x10006 ∷ 0x14 ∷ 0x20011 ∷ 0x1002e ∷ 0x70000000100000014 ∷ 0x20002 ∷ 0x10105 ∷ 0x10006 ∷ 0x20000000000000014 ∷ 0x10004 ∷ 0x10000000100000015 ∷ 0x20002 ∷ 0x10105 ∷ 0x10006 ∷ 0xffffffffffffffff0000000000000014 ∷ 0x10004 ∷ 0x15 ∷ 0x65610000000200000001 ∷ []) (0 ∷ 2 ∷ 3 ∷ 3 ∷ 3 ∷ 4 ∷ 4 ∷ [])
    ∷ []

pub examples-right : wrong 0 examples ≡ []
unfolding wrong
examples-right = refl

-- names that clash, and names that do not
abbrev pub clash_examples : List Vector
clash_examples =
    -- let x; let x; -- a lexical name twice
    v 149 (0x20000000070000009500000001 ∷ 0x1000000940000009000000001 ∷ 0x20001 ∷ 0x10105 ∷ 0x10006 ∷ 0x70000000000000014 ∷ 0x10105 ∷ 0x10006 ∷ 0x10000000000000014 ∷ 0x7800000001 ∷ []) (13 ∷ [])
    -- let x; var x; -- a lexical name that is var-declared
    ∷ v 149 (0x20000000070000009500000001 ∷ 0x1000000940000009000000001 ∷ 0x20001 ∷ 0x10105 ∷ 0x10006 ∷ 0x14 ∷ 0x10005 ∷ 0x10006 ∷ 0x20000000000000014 ∷ 0x7800000001 ∷ []) (13 ∷ [])
    -- { let x; { var x; } } -- of what stands in it too
    ∷ v 181 (0x2000000009000000b500000001 ∷ 0x1000000b4000000b000000001 ∷ 0x10001 ∷ 0x20002 ∷ 0x10105 ∷ 0x10006 ∷ 0x20000000000000014 ∷ 0x10002 ∷ 0x10005 ∷ 0x10006 ∷ 0x20000000000000014 ∷ 0x7800000001 ∷ []) (13 ∷ [])
    -- let f; function f() { } -- a function at the top is var-declared
    ∷ v 149 (0x20000000070000009500000001 ∷ 0x1000000940000009000000001 ∷ 0x20001 ∷ 0x10105 ∷ 0x10006 ∷ 0x14 ∷ 0x20007 ∷ 0x14 ∷ 0x2 ∷ 0x6600000001 ∷ []) (13 ∷ [])
    -- { function f() { } function f() { } } -- in a block it is lexical
    ∷ v 165 (0x2000000008000000a500000001 ∷ 0x1000000a4000000a000000001 ∷ 0x10001 ∷ 0x20002 ∷ 0x20007 ∷ 0x10000000000000014 ∷ 0x2 ∷ 0x20007 ∷ 0xffffffffffffffff0000000000000014 ∷ 0x2 ∷ 0x6600000001 ∷ []) (13 ∷ [])
    -- function f(x) { let x; } -- a parameter of a function's body
    ∷ v 170 (0x2000000008000000aa00000001 ∷ 0x2000000a8000000a000000002 ∷ 0x10001 ∷ 0x30007 ∷ 0xffffffffffffffff0000000000000014 ∷ 0x100000014 ∷ 0x10002 ∷ 0x10105 ∷ 0x10006 ∷ 0x70000000100000014 ∷ 0x78660000000200000001 ∷ []) (13 ∷ [])
    -- function f(x = 1) { let x; } -- also where they have two scopes
    ∷ v 202 (0x200000000a000000ca00000001 ∷ 0x2000000c8000000c000000002 ∷ 0x10001 ∷ 0x30007 ∷ 0x70000000000000014 ∷ 0x20030 ∷ 0x10000000100000014 ∷ 0x3ff00000000000000000000000000018 ∷ 0x10002 ∷ 0x10105 ∷ 0x10006 ∷ 0x100000014 ∷ 0x78660000000200000001 ∷ []) (13 ∷ [])
    -- (x) => { const x = 1; }; -- of an arrow
    ∷ v 181 (0x2000000009000000b500000001 ∷ 0x1000000b4000000b000000001 ∷ 0x10001 ∷ 0x10004 ∷ 0x20028 ∷ 0x14 ∷ 0x10002 ∷ 0x10205 ∷ 0x20006 ∷ 0x70000000000000014 ∷ 0x3ff00000000000000000000000000018 ∷ 0x7800000001 ∷ []) (13 ∷ [])
    -- function f(x) { { let x; } } -- not deeper
    ∷ v 186 (0x2000000009000000ba00000001 ∷ 0x2000000b8000000b000000002 ∷ 0x10001 ∷ 0x30007 ∷ 0xffffffffffffffff0000000000000014 ∷ 0x100000014 ∷ 0x10002 ∷ 0x10002 ∷ 0x10105 ∷ 0x10006 ∷ 0xffffffffffffffff0000000100000014 ∷ 0x78660000000200000001 ∷ []) (0 ∷ 1 ∷ 2 ∷ 3 ∷ [])
    -- function f(x) { function x() { } } -- a function at the top is no lexical name
    ∷ v 170 (0x2000000008000000aa00000001 ∷ 0x2000000a8000000a000000002 ∷ 0x10001 ∷ 0x30007 ∷ 0x70000000000000014 ∷ 0x10000000100000014 ∷ 0x10002 ∷ 0x20007 ∷ 0x100000014 ∷ 0x2 ∷ 0x78660000000200000001 ∷ []) (0 ∷ 1 ∷ 2 ∷ 2 ∷ [])
    -- try { } catch (e) { var e; } -- a catch binding is a lexical name
    ∷ v 181 (0x2000000009000000b500000001 ∷ 0x1000000b4000000b000000001 ∷ 0x10001 ∷ 0x20110 ∷ 0x2 ∷ 0x20011 ∷ 0x14 ∷ 0x10002 ∷ 0x10005 ∷ 0x10006 ∷ 0x70000000000000014 ∷ 0x6500000001 ∷ []) (13 ∷ [])
    -- try { } catch (e) { let e; } -- counted with those of its block
    ∷ v 181 (0x2000000009000000b500000001 ∷ 0x1000000b4000000b000000001 ∷ 0x10001 ∷ 0x20110 ∷ 0x2 ∷ 0x20011 ∷ 0x70000000000000014 ∷ 0x10002 ∷ 0x10105 ∷ 0x10006 ∷ 0x10000000000000014 ∷ 0x6500000001 ∷ []) (13 ∷ [])
    -- try { } catch ([e = 1]) { let e; } -- also where they have two scopes
    ∷ v 229 (0x200000000c000000e500000001 ∷ 0x1000000e4000000e000000001 ∷ 0x10001 ∷ 0x20110 ∷ 0x2 ∷ 0x20011 ∷ 0x1002e ∷ 0x20030 ∷ 0x70000000000000014 ∷ 0x3ff00000000000000000000000000018 ∷ 0x10002 ∷ 0x10105 ∷ 0x10006 ∷ 0x14 ∷ 0x6500000001 ∷ []) (13 ∷ [])
    -- try { } catch ([e, e]) { } -- a catch binding twice
    ∷ v 165 (0x2000000008000000a500000001 ∷ 0x1000000a4000000a000000001 ∷ 0x10001 ∷ 0x20110 ∷ 0x2 ∷ 0x20011 ∷ 0x2002e ∷ 0x20000000000000014 ∷ 0xffffffffffffffff0000000000000014 ∷ 0x2 ∷ 0x6500000001 ∷ []) (13 ∷ [])
    -- try { } catch (e) { { var e; } } -- of what stands in it
    ∷ v 197 (0x200000000a000000c500000001 ∷ 0x1000000c4000000c000000001 ∷ 0x10001 ∷ 0x20110 ∷ 0x2 ∷ 0x20011 ∷ 0x14 ∷ 0x10002 ∷ 0x10002 ∷ 0x10005 ∷ 0x10006 ∷ 0x70000000000000014 ∷ 0x6500000001 ∷ []) (13 ∷ [])
    -- for (let i; ; ) { var i; } -- a loop's
    ∷ v 181 (0x2000000009000000b500000001 ∷ 0x1000000b4000000b000000001 ∷ 0x10001 ∷ 0x2010c ∷ 0x10105 ∷ 0x10006 ∷ 0xffffffffffffffff0000000000000014 ∷ 0x10002 ∷ 0x10005 ∷ 0x10006 ∷ 0x14 ∷ 0x6900000001 ∷ []) (13 ∷ [])
    -- for (let i of x) { let i; } -- its block has another scope
    ∷ v 202 (0x200000000a000000ca00000001 ∷ 0x2000000c8000000c000000002 ∷ 0x10001 ∷ 0x3000e ∷ 0x10105 ∷ 0x10006 ∷ 0x10000000000000014 ∷ 0x20000000100000015 ∷ 0x10002 ∷ 0x10105 ∷ 0x10006 ∷ 0x10000000000000014 ∷ 0x78690000000200000001 ∷ []) (0 ∷ 2 ∷ 0 ∷ 3 ∷ [])
    -- for (let [i, i] of x) ; -- twice in a head
    ∷ v 186 (0x2000000009000000ba00000001 ∷ 0x2000000b8000000b000000002 ∷ 0x10001 ∷ 0x3000e ∷ 0x10105 ∷ 0x10006 ∷ 0x2002e ∷ 0x70000000000000014 ∷ 0x10000000000000014 ∷ 0x20000000100000015 ∷ 0x3 ∷ 0x78690000000200000001 ∷ []) (13 ∷ [])
    -- switch (x) { case 1: let a; default: let a; } -- the cases have one scope
    ∷ v 234 (0x200000000c000000ea00000001 ∷ 0x2000000e8000000e000000002 ∷ 0x10001 ∷ 0x30012 ∷ 0xffffffffffffffff0000000000000015 ∷ 0x20113 ∷ 0x3ff00000000000000000000000000018 ∷ 0x10105 ∷ 0x10006 ∷ 0x10000000100000014 ∷ 0x10013 ∷ 0x10105 ∷ 0x10006 ∷ 0x10000000100000014 ∷ 0x61780000000200000001 ∷ []) (13 ∷ [])
    -- switch (x) { case 1: let a; default: var a; } -- and are looked into
    ∷ v 234 (0x200000000c000000ea00000001 ∷ 0x2000000e8000000e000000002 ∷ 0x10001 ∷ 0x30012 ∷ 0x15 ∷ 0x20113 ∷ 0x3ff00000000000000000000000000018 ∷ 0x10105 ∷ 0x10006 ∷ 0x100000014 ∷ 0x10013 ∷ 0x10005 ∷ 0x10006 ∷ 0x20000000100000014 ∷ 0x61780000000200000001 ∷ []) (13 ∷ [])
    -- let a; (function () { var a; }); -- functions are not looked into
    ∷ v 213 (0x200000000b000000d500000001 ∷ 0x1000000d4000000d000000001 ∷ 0x20001 ∷ 0x10105 ∷ 0x10006 ∷ 0x14 ∷ 0x10004 ∷ 0x10029 ∷ 0x10027 ∷ 0x10002 ∷ 0x10005 ∷ 0x10006 ∷ 0x20000000000000014 ∷ 0x6100000001 ∷ []) (0 ∷ 1 ∷ 2 ∷ [])
    -- var a; { function a() { } } -- of another scope
    ∷ v 165 (0x2000000008000000a500000001 ∷ 0x1000000a4000000a000000001 ∷ 0x20001 ∷ 0x10005 ∷ 0x10006 ∷ 0x70000000000000014 ∷ 0x10002 ∷ 0x20007 ∷ 0x14 ∷ 0x2 ∷ 0x6100000001 ∷ []) (0 ∷ 1 ∷ 2 ∷ [])
    -- if (a) let x; x; -- a let that is a branch is a lexical name of the innermost scope around
    ∷ v 170 (0x2000000008000000aa00000001 ∷ 0x2000000a8000000a000000002 ∷ 0x20001 ∷ 0x20009 ∷ 0xffffffffffffffff0000000000000015 ∷ 0x10105 ∷ 0x10006 ∷ 0x10000000100000014 ∷ 0x10004 ∷ 0xffffffffffffffff0000000100000015 ∷ 0x78610000000200000001 ∷ []) (0 ∷ 0 ∷ 1 ∷ 1 ∷ [])
    -- while (a) function f() { f; } f; -- a function that is a loop's body, too
    ∷ v 202 (0x200000000a000000ca00000001 ∷ 0x2000000c8000000c000000002 ∷ 0x20001 ∷ 0x2000a ∷ 0xffffffffffffffff0000000000000015 ∷ 0x20007 ∷ 0x100000014 ∷ 0x10002 ∷ 0x10004 ∷ 0x20000000100000015 ∷ 0x10004 ∷ 0xffffffffffffffff0000000100000015 ∷ 0x66610000000200000001 ∷ []) (0 ∷ 0 ∷ 1 ∷ 1 ∷ 1 ∷ [])
    -- for (let f; ; ) function g() { f; g; } g; -- where a for has a scope, of the for
    ∷ v 266 (0x200000000e0000010a00000001 ∷ 0x2000001080000010000000002 ∷ 0x20001 ∷ 0x2010c ∷ 0x10105 ∷ 0x10006 ∷ 0x20000000000000014 ∷ 0x20007 ∷ 0x100000014 ∷ 0x20002 ∷ 0x10004 ∷ 0x20000000000000015 ∷ 0x10004 ∷ 0xffffffffffffffff0000000100000015 ∷ 0x10004 ∷ 0x10000000100000015 ∷ 0x67660000000200000001 ∷ []) (0 ∷ 2 ∷ 2 ∷ 2 ∷ 2 ∷ 0 ∷ [])
    -- var f; if (a) function f() { } -- so that a var of that name clashes
    ∷ v 186 (0x2000000009000000ba00000001 ∷ 0x2000000b8000000b000000002 ∷ 0x20001 ∷ 0x10005 ∷ 0x10006 ∷ 0xffffffffffffffff0000000000000014 ∷ 0x20009 ∷ 0x20000000100000015 ∷ 0x20007 ∷ 0x20000000000000014 ∷ 0x2 ∷ 0x61660000000200000001 ∷ []) (13 ∷ [])
    -- for (let f; ; ) function f() { } -- and a let of the head
    ∷ v 165 (0x2000000008000000a500000001 ∷ 0x1000000a4000000a000000001 ∷ 0x10001 ∷ 0x2010c ∷ 0x10105 ∷ 0x10006 ∷ 0x14 ∷ 0x20007 ∷ 0xffffffffffffffff0000000000000014 ∷ 0x2 ∷ 0x6600000001 ∷ []) (13 ∷ [])
    -- const x = 1; { var x; } -- of a const
    ∷ v 181 (0x2000000009000000b500000001 ∷ 0x1000000b4000000b000000001 ∷ 0x20001 ∷ 0x10205 ∷ 0x20006 ∷ 0x14 ∷ 0x3ff00000000000000000000000000018 ∷ 0x10002 ∷ 0x10005 ∷ 0x10006 ∷ 0x70000000000000014 ∷ 0x7800000001 ∷ []) (13 ∷ [])
    -- let x; for (var x of x) ; -- of a loop's head
    ∷ v 197 (0x200000000a000000c500000001 ∷ 0x1000000c4000000c000000001 ∷ 0x20001 ∷ 0x10105 ∷ 0x10006 ∷ 0x14 ∷ 0x3000e ∷ 0x10005 ∷ 0x10006 ∷ 0x70000000000000014 ∷ 0x20000000000000015 ∷ 0x3 ∷ 0x7800000001 ∷ []) (13 ∷ [])
    -- for (var f; ; ) function f() { } -- a var of the head stands in the loop's scope too
    ∷ v 165 (0x2000000008000000a500000001 ∷ 0x1000000a4000000a000000001 ∷ 0x10001 ∷ 0x2010c ∷ 0x10005 ∷ 0x10006 ∷ 0x14 ∷ 0x20007 ∷ 0x70000000000000014 ∷ 0x2 ∷ 0x6600000001 ∷ []) (13 ∷ [])
    -- switch (1) { case 1: function f() { } default: function f() { } } -- functions of two cases
    ∷ v 229 (0x200000000c000000e500000001 ∷ 0x1000000e4000000e000000001 ∷ 0x10001 ∷ 0x30012 ∷ 0x3ff00000000000000000000000000018 ∷ 0x20113 ∷ 0x3ff00000000000000000000000000018 ∷ 0x20007 ∷ 0x14 ∷ 0x2 ∷ 0x10013 ∷ 0x20007 ∷ 0x70000000000000014 ∷ 0x2 ∷ 0x6600000001 ∷ []) (13 ∷ [])
    -- if (a) function f() { } else function f() { } -- functions of two branches have one scope
    ∷ v 186 (0x2000000009000000ba00000001 ∷ 0x2000000b8000000b000000002 ∷ 0x10001 ∷ 0x30009 ∷ 0x15 ∷ 0x20007 ∷ 0x70000000100000014 ∷ 0x2 ∷ 0x20007 ∷ 0x20000000100000014 ∷ 0x2 ∷ 0x66610000000200000001 ∷ []) (13 ∷ [])
    ∷ []

pub clash-examples-right : wrong 0 clash_examples ≡ []
unfolding wrong
clash-examples-right = refl

-- limits: words; the header, by version, numbers and places; equal texts; no script; 257 contexts of one name are one identifier here; 257 variables,
-- and with two of one scope; 256; the room
abbrev pub tree : List (List ℕ) → List Raw → Script
tree ts xs = record { nodes = xs; texts = ts }

abbrev pub x : List ℕ
x = 120 ∷ []

abbrev pub empty : Script
empty = tree (x ∷ []) (n 1 0 1 0 0 ∷ n 3 0 0 0 0 ∷ [])

-- an array of k names of one text and k contexts
abbrev pub names : ℕ → Script
names k = tree (x ∷ []) (n 1 0 1 0 0 ∷ n 4 0 1 0 0 ∷ n 27 0 k 0 0 ∷ contexts k)

-- an array of k arrows `(x) => x`, behind other statements
abbrev pub arrows : ℕ → List Raw
arrows zero = []
arrows (suc k) = n 40 1 2 0 0 ∷ n 20 0 0 0 0 ∷ n 21 0 0 0 0 ∷ arrows k

abbrev pub variables : ℕ → ℕ → List Raw → Script
variables k m xs = tree (x ∷ []) (n 1 0 (suc m) 0 0 ∷ xs ++ (n 4 0 1 0 0 ∷ n 27 0 k 0 0 ∷ arrows k))

-- let x;
abbrev pub let_x : List Raw
let_x = n 5 1 1 0 0 ∷ n 6 0 1 0 0 ∷ n 20 0 0 0 0 ∷ []

abbrev pub kind_of_answer : Resolving → ℕ
kind_of_answer (refused r) = r
kind_of_answer (wrote out) = 0

abbrev pub on : ℕ → Script → ℕ
unfolding resolve_entry file
on room s = kind_of_answer (resolve_entry 16384 (file s) room)

pub answers :
    kind_of_answer (resolve_entry 0 [] 0)
    ∷ kind_of_answer (resolve_entry 16383 (file empty) 64)
    ∷ kind_of_answer (resolve_entry 16384 [] 0)
    ∷ kind_of_answer (resolve_entry 16384 (set (file empty) 8 0) 0)
    ∷ kind_of_answer (resolve_entry 16384 (set (file empty) 4 70) 0)
    ∷ on 0 (tree (x ∷ x ∷ []) (n 1 0 1 0 0 ∷ n 3 0 0 0 0 ∷ []))
    ∷ on 0 (tree [] (n 3 0 0 0 0 ∷ []))
    ∷ on 0 (names 257)
    ∷ on 5000 (names 257)
    ∷ on 0 (variables 257 0 [])
    ∷ on 0 (variables 257 2 (let_x ++ let_x))
    ∷ on 0 (variables 256 0 [])
    ∷ on 12421 (variables 256 0 [])
    ∷ on 68 empty
    ∷ on 69 empty
    ∷ []
    ≡ 1 ∷ 1 ∷ 2 ∷ 3 ∷ 4 ∷ 5 ∷ 6 ∷ 10 ∷ 0 ∷ 7 ∷ 13 ∷ 10 ∷ 0 ∷ 10 ∷ 0 ∷ []
unfolding resolve_entry file
answers = refl
