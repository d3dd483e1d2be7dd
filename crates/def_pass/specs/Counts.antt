-- Request 9: how often each variable was replaced. Scripts with their root bindings' counts, the ended total and the replacements made, one theorem.
use Rattle.std.specs.Prelude.{◌≡◌, refl, true, false, List, [], ◌∷◌, map, ℕ, zero, suc}
use Rattle.std.proofs.Math.Option.{none}
use Rattle.def_tree.specs.Combine.{Res, stop, done}
use Rattle.def_file.specs.declared.kind.Kind.TheVariants.{If}
use Rattle.def_file.specs.Named.{number_of}
use Rattle.def_pass.specs.Tree.{Tree, node}
use Rattle.def_pass.specs.Twice.{flagged}
use Rattle.def_pass.specs.Scope.{v_var, count_one}
use Rattle.def_pass.specs.Walk.{St, Rooted, Outcome, refused, result, set_changed, set_is_first_run, start, run, core_pass}
use Rattle.def_pass.specs.Cases.{script, decl, decl_to, do', name, bind, lit, op, array, assign, block, fun, f1, f2, f3, f4}

-- a run limit, a script, and what is expected: of each root binding its identifier and count, then the ended total and the replacements
pub record Counted : Type 0 where
  pub runs : ℕ
  pub input : Tree
  pub roots : List (ℕ × ℕ)
  pub ended : ℕ
  pub replaced : ℕ

abbrev pub counted : ℕ → Tree → List (ℕ × ℕ) → ℕ → ℕ → Counted
counted n t rs e r = record { runs = n; input = t; roots = rs; ended = e; replaced = r }

-- the last column
abbrev pub column : Outcome → List (ℕ × ℕ)
column (refused n) = []
column (result k c t ms) = map (λ (m : Rooted). (m.0, m.2)) ms

-- the two totals after at most n runs
abbrev pub totalled : (Tree → St → ℕ × ℕ) → Res St Tree → ℕ × ℕ
totalled go (stop r) = (0, 0)
totalled go (done s t) = elim s.changed [ true ↦ go t (set_is_first_run false s) | false ↦ (s.ended, s.replaced) ]

unfoldable pub totals : ℕ → Tree → St → ℕ × ℕ
unfolding run
totals zero t s = (s.ended, s.replaced)
totals (suc n) t s = totalled (totals n) (run t (set_changed false s))

unfoldable pub seen : Counted → Counted
unfolding totals core_pass
seen c = (let e = totals c.runs (flagged c.input) (start c.input) in counted c.runs c.input (column (core_pass c.runs c.input)) e.0 e.1)

abbrev pub counts : List Counted
counts =
    -- var x = 1; x;
    counted 16 (script (f2 (decl_to 0 1 (lit 5)) (do' (name 1)))) ((1, 1) ∷ []) 0 1
    -- var x; x; -- void 0 does not count
    ∷ counted 16 (script (f2 (decl 0 1) (do' (name 1)))) ((1, 0) ∷ []) 0 0
    -- const a = 7; a; -- nor do constants
    ∷ counted 16 (script (f2 (decl_to 2 1 (lit 5)) (do' (name 1)))) [] 0 0
    -- function f(p) { p; } -- nor does p, replaced by itself
    ∷ counted 16 (script (f1 (fun (f3 (bind 1) (bind 2) (block (f1 (do' (name 2)))))))) ((1, 0) ∷ []) 0 0
    -- function f() { var x = 1; x; } -- a function's counts end
    ∷ counted 16 (script (f1 (fun (f2 (bind 1) (block (f2 (decl_to 0 2 (lit 5)) (do' (name 2)))))))) ((1, 0) ∷ []) 1 1
    -- { var c = null; x / c; } -- hoisted with its count in run 1, and overwritten in run 2
    ∷ counted 1 (script (f1 (block (f2 (decl_to 0 1 (lit 5)) (do' (op 16 (name 2) (name 1))))))) ((1, 1) ∷ []) 0 1
    ∷ counted 16 (script (f1 (block (f2 (decl_to 0 1 (lit 5)) (do' (op 16 (name 2) (name 1))))))) ((1, 0) ∷ []) 1 1
    -- { let y = 1; y; } -- not hoisted: it ends with its block
    ∷ counted 16 (script (f1 (block (f2 (decl_to 1 1 (lit 5)) (do' (name 1)))))) [] 1 1
    -- var x = 1; x; var x = 2; x; -- redeclaring keeps
    ∷ counted 16 (script (f4 (decl_to 0 1 (lit 5)) (do' (name 1)) (decl_to 0 1 (lit 9)) (do' (name 1)))) ((1, 2) ∷ []) 0 2
    -- let y; var b = y; y = a; b; -- across the runs
    ∷ counted 16 (script (f4 (decl 1 1) (decl_to 0 2 (name 1)) (do' (assign 1 (name 3))) (do' (name 2)))) ((1, 1) ∷ (2, 1) ∷ (3, 0) ∷ []) 0 2
    -- let x = [h]; x; -- a value that moves
    ∷ counted 16 (script (f2 (decl_to 1 1 (array (name 2))) (do' (name 1)))) ((1, 1) ∷ []) 0 1
    -- var p = 1; var a = p; a; a; -- p is replaced in a's initialiser
    ∷ counted 16 (script (f4 (decl_to 0 1 (lit 5)) (decl_to 0 2 (name 1)) (do' (name 2)) (do' (name 2)))) ((1, 1) ∷ (2, 2) ∷ []) 0 3
    -- { var c = 1; c; } { var c = 2; c; } -- hoisted over another, whose count ends
    ∷ counted 1 (script (f2 (block (f2 (decl_to 0 1 (lit 5)) (do' (name 1)))) (block (f2 (decl_to 0 1 (lit 9)) (do' (name 1)))))) ((1, 1) ∷ []) 1 2
    -- function f() { { let y = 1; y; } var x = 2; x; x; } -- a block in a function, then the function
    ∷ counted 16 (script (f1 (fun (f2 (bind 1) (block (f4 (block (f2 (decl_to 1 2 (lit 5)) (do' (name 2)))) (decl_to 0 3 (lit 9)) (do' (name 3)) (do' (name 3)))))))) ((1, 0) ∷ []) 3 3
    -- if (h) { var x = 1; x; } -- out of two scopes
    ∷ counted 1 (script (f1 (node (number_of If) 0 0 (f2 (name 2) (block (f2 (decl_to 0 1 (lit 5)) (do' (name 1)))))))) ((1, 1) ∷ []) 0 1
    ∷ []

pub counts-right : map seen counts ≡ counts
unfolding seen
counts-right = refl

-- a count of 2^32 - 1 goes to 0
pub past_the_end : (let b = count_one (record { id = 0; kind = v_var; alias_of = none; read_cnt = 0; inline_prevented = false; is_undefined = false; value = none; this_sensitive = false; hoisted = false; count = 4294967295 }) in b.count) ≡ 0
past_the_end = refl
