-- The pass over a script, a file's bytes, and the entry, with the walks on the list: `pass`, `pass_file` and `entry` of the definition
-- without a tree. Assumes nothing: these are definitions.
use Rattle.std.specs.Prelude.{Bool, true, false, ◌&&◌, ◌||◌, List, [], ◌∷◌, map, ℕ, zero, suc, ◌+◌, eqb, length}
use Rattle.std.proofs.Math.Option.{Option, none, some}
use Rattle.def_tree.specs.Base.{member}
use Rattle.def_tree.specs.Tree.{Tree, Core, flat, plant}
use Rattle.def_file.specs.declared.kind.Kind.TheVariants.{VarDecl, VarDeclarator, BindingIdent, Ident}
use Rattle.def_file.specs.Named.{is_kind}
use Rattle.def_pass.specs.Tree.{head_t, in_pattern}
use Rattle.def_pass.specs.Twice.{flagged}
use Rattle.def_pass.specs.Targets.{aims}
use Rattle.def_pass.specs.Scope.{v_var, fn, new_scope}
use Rattle.def_pass.specs.Walk.{St, declaring}
use Rattle.def_file.specs.Script.{Script}
use Rattle.def_file.specs.Read.{Read, bad, script, read}
use Rattle.def_file.specs.Core.{back, core_nodes}
use Rattle.def_pass.specs.Script.{Answer, no!, yes!, root_of}
use Rattle.def_pass.specs.Entry.{Entry, refused, written, enough}
use Rattle.laws_flat.specs.WalkF.{OutcomeF, refused_f, result_f, runs_f}

abbrev pub some! : ℕ → Bool
some! zero = false
some! (suc n) = true

-- `bound_names_f` of Tree, node by node: q trees are still to be passed over, and then n trees looked at
abbrev pub bounds_l : ℕ → ℕ → List Core → List ℕ
bounds_l n q [] = []
bounds_l n (suc q) (c ∷ cs) = bounds_l n (c.arity + q) cs
bounds_l zero zero (c ∷ cs) = []
bounds_l (suc n) zero (c ∷ cs) = elim (is_kind BindingIdent c.kind) [ true ↦ c.num ∷ bounds_l n c.arity cs | false ↦ elim (in_pattern c.kind) [ true ↦ bounds_l (c.arity + n) zero cs | false ↦ bounds_l n c.arity cs ] ]

-- `targets` of Targets: a node's first child is the next node of the list
abbrev pub next_is : ℕ → List Core → Bool
next_is i [] = false
next_is i (c ∷ cs) = elim (is_kind VarDecl c.kind || is_kind VarDeclarator c.kind) [ true ↦ some! c.arity && next_is i cs | false ↦ (is_kind Ident c.kind && eqb c.num i) || member i (bounds_l 1 0 (c ∷ cs)) ]

abbrev pub targets_l : List Core → ℕ → Bool
targets_l [] i = false
targets_l (c ∷ cs) i = (aims c.kind && (some! c.arity && next_is i cs)) || targets_l cs i

-- `start` of Walk, for a script of n nodes with these targets
abbrev pub start_f : ℕ → (ℕ → Bool) → St
start_f n tg = record { stack = new_scope (fn false) ∷ []; changed = false; inlining = false; is_first_run = true; var_decl_kind = v_var; pat_mode = declaring; in_test = false; conds = 0; nodes = n; targeted = tg; ended = 0; replaced = 0 }

-- `answer` of Script
abbrev pub answer_f : Script → OutcomeF → Answer
answer_f s (refused_f n) = no! n
answer_f s (result_f k c cs ms) = yes! k c (map (back s) cs) (map (root_of s) ms)

-- `flagged` of Twice, of the tree that the nodes are
abbrev pub flagged_o : Option Tree → List Core
flagged_o none = []
flagged_o (some t) = flat (flagged t) []

abbrev pub flagged_l : List Core → List Core
flagged_l cs = flagged_o (head_t (plant cs))

unfoldable pub pass_f : ℕ → Script → Answer
pass_f n s = answer_f s (runs_f n 0 (record { nodes = flagged_l (core_nodes s); rest = start_f (length s.nodes) (targets_l (core_nodes s)) }))

abbrev pub pass_read_f : ℕ → Read → Answer
pass_read_f n (bad r) = no! r
pass_read_f n (script s) = pass_f n s

unfoldable pub pass_file_f : ℕ → List ℕ → Answer
pass_file_f n bs = pass_read_f n (read bs)

abbrev pub entry_read_f : ℕ → ℕ → Read → Entry
entry_read_f runs room (bad r) = refused r
entry_read_f runs room (script s) = written room s (pass_f runs s)

unfoldable pub entry_f : ℕ → ℕ → List ℕ → ℕ → Entry
entry_f runs words bytes room = elim (enough runs words) [ false ↦ refused 1 | true ↦ entry_read_f runs room (read bytes) ]
