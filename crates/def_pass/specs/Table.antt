-- The P cases of document 01, and cases against its plausible errors, as one table: what the pass makes of their core trees, and of their files.
use Rattle.std.specs.Prelude.{◌≡◌, refl, Bool, true, false, ◌||◌, List, [], ◌∷◌, map, ℕ, eqb}
use Rattle.def_tree.specs.Base.{pick}
use Rattle.def_tree.specs.Tree.{Core, flat}
use Rattle.def_file.specs.declared.Raw.{Raw}
use Rattle.def_file.specs.Script.{Script}
use Rattle.def_file.specs.Write.{file}
use Rattle.def_pass.specs.Tree.{Tree, node, nil, cons, void_zero}
use Rattle.def_pass.specs.Walk.{core_pass, Rooted}
use Rattle.def_pass.specs.Script.{Out, Root, Answer, no!, yes!, pass_file}
use Rattle.def_pass.specs.Cases.{f1, f2, f3, f4, name, bind, lit, do', decl, decl_to, script, call, block, arguments, op, array, assign, fun, right, stays, becomes, is_refused}
use Rattle.def_pass.specs.Cases.{Case as CoreCase, Answer as CoreAnswer, no! as refuses, yes! as gives}

-- what a file is to give: a refusal, or runs, mark, the result's nodes, and the root bindings
pub data Expected : Type 0 where
  refusal : ℕ → Expected
  nodes : ℕ → Bool → List Raw → List (ℕ × ℕ × Bool × ℕ) → Expected

pub record Case : Type 0 where
  pub input : Script
  pub expected : Expected

-- kind, form, children, text, context or bits
abbrev pub n : ℕ → ℕ → ℕ → ℕ → ℕ → Raw
n k f r t b = record { kind = k; form = f; arity = r; text = t; bits = b }

abbrev pub case : List (List ℕ) → List Raw → Expected → Case
case ts xs e = record { input = record { nodes = xs; texts = ts }; expected = e }

abbrev pub seen : Answer → Expected
seen (no! r) = refusal r
seen (yes! k c xs rs) = nodes k c (map (λ (x : Out). x.raw) xs) (map (λ (r : Root). (r.key.text, r.key.bits, r.mark, r.count)) rs)

-- a row: a case on core trees, and what its file has besides, which are the texts of its identifiers from number 0 on, its literals, which are
-- numbers, by their origins, and the root bindings of its result
pub record Row : Type 0 where
  pub core : CoreCase
  pub texts : List (List ℕ)
  pub numbers : List (ℕ × ℕ)
  pub roots : List Rooted

abbrev pub row : List (List ℕ) → List (ℕ × ℕ) → CoreCase → List Rooted → Row
row ts ns c rs = record { core = c; texts = ts; numbers = ns; roots = rs }

abbrev pub number_of : List (ℕ × ℕ) → ℕ → ℕ
number_of [] o = 0
number_of (x ∷ xs) o = elim (eqb x.0 o) [ true ↦ x.1 | false ↦ number_of xs o ]

-- the file's node of a core node, and the nodes of a tree
abbrev pub raw_in : List (ℕ × ℕ) → Core → Raw
raw_in ns c =
    pick (eqb c.kind 22) (n 24 0 0 0 (number_of ns c.num))
    (pick (eqb c.kind 20 || eqb c.kind 21) (n c.kind 0 c.arity c.num 0)
    (n c.kind c.form c.arity 0 0))

abbrev pub raws : List (ℕ × ℕ) → Tree → List Raw
raws ns t = map (raw_in ns) (flat t [])

abbrev pub expects : List (ℕ × ℕ) → List Rooted → CoreAnswer → Expected
expects ns rs (refuses r) = refusal r
expects ns rs (gives k c t) = nodes k c (raws ns t) (map (λ (r : Rooted). (r.0, 0, r.1, r.2)) rs)

-- a row's file
abbrev pub filed : Row → Case
filed r = case r.texts (raws r.numbers r.core.input) (expects r.numbers r.roots r.core.answer)

-- x++
abbrev pub up : ℕ → Tree
up i = node 31 2 0 (f1 (name i))

abbrev pub table : List Row
table =
    -- (empty)
    row [] [] (stays (script nil)) []
    -- var x = 1; x;
    ∷ row ((120 ∷ []) ∷ []) ((5, 0x3ff0000000000000) ∷ []) (becomes 2 (script (f2 (decl_to 0 0 (lit 5)) (do' (name 0)))) (script (f2 (decl 0 0) (do' (lit 5))))) ((0, false, 1) ∷ [])
    -- var x; x;
    ∷ row ((120 ∷ []) ∷ []) [] (becomes 1 (script (f2 (decl 0 0) (do' (name 0)))) (script (f2 (decl 0 0) (do' void_zero)))) ((0, false, 0) ∷ [])
    -- let x; x;
    ∷ row ((120 ∷ []) ∷ []) [] (stays (script (f2 (decl 1 0) (do' (name 0))))) ((0, false, 0) ∷ [])
    -- var x = 1; while (x) { x; }
    ∷ row ((120 ∷ []) ∷ []) ((5, 0x3ff0000000000000) ∷ []) (stays (script (f2 (decl_to 0 0 (lit 5)) (node 10 0 0 (f2 (name 0) (block (f1 (do' (name 0))))))))) ((0, true, 0) ∷ [])
    -- function f(p) { var a = p; arguments; a; }
    ∷ row ((102 ∷ []) ∷ (112 ∷ []) ∷ (97 ∷ []) ∷ (97 ∷ 114 ∷ 103 ∷ 117 ∷ 109 ∷ 101 ∷ 110 ∷ 116 ∷ 115 ∷ []) ∷ []) [] (stays (script (f1 (fun (f3 (bind 0) (bind 1) (block (f3 (decl_to 0 2 (name 1)) (do' (arguments 3)) (do' (name 2))))))))) ((0, false, 0) ∷ [])
    -- function f(p) { var a = p; g(); a; }
    ∷ row ((102 ∷ []) ∷ (112 ∷ []) ∷ (97 ∷ []) ∷ (103 ∷ []) ∷ []) [] (becomes 2 (script (f1 (fun (f3 (bind 0) (bind 1) (block (f3 (decl_to 0 2 (name 1)) (do' (call (name 3))) (do' (name 2)))))))) (script (f1 (fun (f3 (bind 0) (bind 1) (block (f3 (decl 0 2) (do' (call (name 3))) (do' (name 1))))))))) ((0, false, 0) ∷ [])
    -- var p = h; g(); var a = p; a;
    ∷ row ((112 ∷ []) ∷ (104 ∷ []) ∷ (103 ∷ []) ∷ (97 ∷ []) ∷ []) [] (stays (script (f4 (decl_to 0 0 (name 1)) (do' (call (name 2))) (decl_to 0 3 (name 0)) (do' (name 3))))) ((0, true, 0) ∷ (3, true, 0) ∷ [])
    -- function f(t, c) { var o = t; var o = t + c; if (o > 300) g(); }
    ∷ row ((102 ∷ []) ∷ (116 ∷ []) ∷ (99 ∷ []) ∷ (111 ∷ []) ∷ (103 ∷ []) ∷ []) ((20, 0x4072c00000000000) ∷ []) (stays (script (f1 (fun (f4 (bind 0) (bind 1) (bind 2) (block (f3 (decl_to 0 3 (name 1)) (decl_to 0 3 (op 13 (name 1) (name 2))) (node 9 0 0 (f2 (op 8 (name 3) (lit 20)) (do' (call (name 4)))))))))))) ((0, false, 0) ∷ [])
    -- let b = 1; const a = b; b = 2; a;
    ∷ row ((98 ∷ []) ∷ (97 ∷ []) ∷ []) ((5, 0x3ff0000000000000) ∷ (13, 0x4000000000000000) ∷ []) (becomes 2 (script (f4 (decl_to 1 0 (lit 5)) (decl_to 2 1 (name 0)) (do' (assign 0 (lit 13))) (do' (name 1)))) (script (f4 (decl 1 0) (decl_to 2 1 (lit 5)) (do' (assign 0 (lit 13))) (do' (name 1))))) ((0, false, 1) ∷ [])
    -- function f(y) { var y = b && [y]; z = [y]; }
    ∷ row ((102 ∷ []) ∷ (121 ∷ []) ∷ (98 ∷ []) ∷ (122 ∷ []) ∷ []) [] (stays (script (f1 (fun (f3 (bind 0) (bind 1) (block (f2 (decl_to 0 1 (op 0 (name 2) (array (name 1)))) (do' (assign 3 (array (name 1))))))))))) ((0, false, 0) ∷ [])
    -- const a = a; a;
    ∷ row ((97 ∷ []) ∷ []) [] (is_refused 8 (script (f2 (decl_to 2 0 (name 0)) (do' (name 0))))) []
    -- const a = 7; a;
    ∷ row ((97 ∷ []) ∷ []) ((5, 0x401c000000000000) ∷ []) (becomes 2 (script (f2 (decl_to 2 0 (lit 5)) (do' (name 0)))) (script (f2 (decl_to 2 0 (lit 5)) (do' (lit 5))))) []
    -- var v = [a]; let a = 1; v; -- a fresh root for run 2 forgets that a was read unresolved, and gives `var v; let a; [1];` in 3 runs
    ∷ row ((118 ∷ []) ∷ (97 ∷ []) ∷ []) ((10, 0x3ff0000000000000) ∷ []) (becomes 2 (script (f3 (decl_to 0 0 (array (name 1))) (decl_to 1 1 (lit 10)) (do' (name 0)))) (script (f3 (decl 0 0) (decl_to 1 1 (lit 10)) (do' (array (name 1)))))) ((0, false, 1) ∷ (1, true, 0) ∷ [])
    -- var b = a; function f(a) { a++; } b; -- prevent_inline that ends at the scope of the first match leaves b free
    ∷ row ((98 ∷ []) ∷ (97 ∷ []) ∷ (102 ∷ []) ∷ []) [] (stays (script (f3 (decl_to 0 0 (name 1)) (fun (f3 (bind 2) (bind 1) (block (f1 (do' (up 1)))))) (do' (name 0))))) ((0, true, 0) ∷ (2, false, 0) ∷ [])
    -- var a = h; var b = a; var c = a; a++; b; c; -- prevent_inline that ends at the first binding met leaves b and c free, at the second c
    ∷ row ((97 ∷ []) ∷ (104 ∷ []) ∷ (98 ∷ []) ∷ (99 ∷ []) ∷ []) [] (stays (script (cons (decl_to 0 0 (name 1)) (cons (decl_to 0 2 (name 0)) (f4 (decl_to 0 3 (name 0)) (do' (up 0)) (do' (name 2)) (do' (name 3))))))) ((0, true, 0) ∷ (2, true, 0) ∷ (3, true, 0) ∷ [])
    ∷ []

-- each row comes out as expected: its core tree, and its file
pub core-cases : map (λ (r : Row). right r.core) table ≡ map (λ (r : Row). true) table
unfolding core_pass
core-cases = refl

pub cases : map (λ (r : Row). seen (pass_file 16 (file (filed r).input))) table ≡ map (λ (r : Row). (filed r).expected) table
unfolding pass_file file
cases = refl
