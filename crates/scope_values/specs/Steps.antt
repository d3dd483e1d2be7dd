-- What a step on the records does, and what a step that may pass a limit answers. Assumes nothing: these are definitions.
use Rattle.std.specs.Prelude.{◌≡◌, ◌⊎◌, List, Bool, true, false, Result, Ok, Err, ◌||◌, ℕ, ◌+◌, ◌-◌, ◌*◌, ◌≤◌, ◌<◌, length, get_or, set, ltb}
use Rattle.std.proofs.Math.Option.{Option}
use Rattle.def_tree.specs.Tree.{Tree, Core}
use Rattle.def_pass.specs.Scope.{VarInfo, Stack, recorded_nodes, live}
use Rattle.words.specs.Layout.{run, tree, beyond, nodes_base, values_base, constant_values_base, bindings_base, node_count}
use Rattle.words.specs.Tab.{sum}
use Rattle.words_scopes.specs.State.{split, heads, flags, binds, consts, value_of, run_of, Good, Others, Becomes}
use Rattle.words_scopes.specs.Kinds.{type_of, alias_of}
use Rattle.words.specs.declared.Run.{Run}
use Rattle.words.specs.declared.layout.Table.{Table}
use Rattle.words_scopes.specs.declared.Record.{Record}
use Rattle.refusal.specs.declared.Refusal.{Refusal}
use Rattle.refusal.specs.Number.{number}

-- in a store of values at base: old nodes at `at` gave way to the m nodes of the tree from i on, and those behind, up to `end`, were shifted
pub record Spliced (w w' : List ℕ) (base at old end i m : ℕ) : Type 0 where
  pub size : length w' ≡ length w
  pub here : (j : ℕ) → j < m * 2 → get_or w' (base + at * 2 + j) 0 ≡ get_or w (nodes_base + i * 2 + j) 0
  pub behind : (j : ℕ) → j < (end - at - old) * 2 → get_or w' (base + (at + m) * 2 + j) 0 ≡ get_or w (base + (at + old) * 2 + j) 0
  pub low : (j : ℕ) → j < base + at * 2 → get_or w' j 0 ≡ get_or w j 0
  pub high : (j : ℕ) → base + 1024 ≤ j → get_or w' j 0 ≡ get_or w j 0

-- a store of values: their nodes stand from `base` on with no gap, and their lengths are the words of a table
abbrev pub IsStore : ℕ → Table → Type 0
IsStore base t = (values_base ≤ base) × (base ≤ constant_values_base) × (bindings_base ≤ t.base) × (t.base ≤ 8192) × (0 < t.stride) × (t.stride ≤ 10)

abbrev pub len_in : List ℕ → Table → ℕ → ℕ
len_in w t k = get_or w (t.base + k * t.stride) 0

abbrev pub off_in : List ℕ → Table → ℕ → ℕ
off_in w t k = sum (λ j. len_in w t j) k

abbrev pub run_in : List ℕ → ℕ → Table → ℕ → List Core
run_in w base t k = run w base (off_in w t k) (len_in w t k)

-- value k of n became a run of the tree's nodes, and the others are as they were; so is each word outside the store, but for the length
pub record Refilled (w w' : List ℕ) (base : ℕ) (t : Table) (k n : ℕ) (r : Run) : Type 0 where
  pub size : length w' ≡ length w
  pub this : run_in w' base t k ≡ run w nodes_base r.at r.len
  pub other : (j : ℕ) → j < n → (j ≡ k → ⊥) → run_in w' base t j ≡ run_in w base t j
  pub out : (j : ℕ) → (j < base) ⊎ (base + 1024 ≤ j) → (j ≡ t.base + k * t.stride → ⊥) → get_or w' j 0 ≡ get_or w j 0

-- w became w', with the same scopes: the bindings of all are bs, the constants cs
pub record Listed (w w' : List ℕ) (bs : List VarInfo) (cs : List (ℕ × Option Tree)) : Type 0 where
  pub good : Good w'
  pub heads : heads w' ≡ heads w
  pub flags : flags w' ≡ flags w
  pub binds : binds w' ≡ bs
  pub consts : consts w' ≡ cs
  pub tree : tree w' ≡ tree w
  pub others : Others w w'
  pub rest : beyond w' ≡ beyond w

-- binding k overwritten by c
abbrev pub put_at : List ℕ → ℕ → VarInfo → Stack
put_at w k c = split (heads w) (flags w) (set (binds w) k c) (consts w)

-- a binding whose words but its name, its value and its count are a record's
abbrev pub refill : Record → VarInfo → VarInfo
refill r b = record { id = b.id; kind = type_of r.kind; alias_of = alias_of r.alias; read_cnt = r.reads; inline_prevented = r.prevented; is_undefined = r.undefined; value = b.value; this_sensitive = r.this_sensitive; hoisted = r.hoisted; count = b.count }

-- row 9 is passed
abbrev pub over : Stack → Bool
over st = ltb 512 (recorded_nodes st) || ltb 256 (live st)

-- the words stand for a state, whatever it is: the tree, the words that no scope has, and those past the first 16,384 are as they were
pub record Still (w w' : List ℕ) : Type 0 where
  pub good : Good w'
  pub tree : tree w' ≡ tree w
  pub others : Others w w'
  pub rest : beyond w' ≡ beyond w

-- a step to st that is refused by row n where a test holds, before it stores anything
abbrev pub Limited : ℕ → Bool → List ℕ → List ℕ → Stack → Result Unit Refusal → Type 0
Limited n test w w' st (Ok _) = Becomes w w' st × (test ≡ false)
Limited n test w w' st (Err r) = (number r ≡ n) × (test ≡ true) × (w' ≡ w)

-- a refusal for want of room, if a test holds
abbrev pub Roomed : Result Unit Refusal → Bool → Type 0
Roomed (Ok _) test = test ≡ false
Roomed (Err r) test = (number r ≡ 9) × (test ≡ true)

-- definition's `grow`
abbrev pub Grown : List ℕ → List ℕ → Stack → Result Unit Refusal → Type 0
Grown w w' st r = Limited 9 (over st) w w' st r

-- the same of a step that marks bindings before it is refused
abbrev pub GrownLate : List ℕ → List ℕ → Stack → Result Unit Refusal → Type 0
GrownLate w w' st (Ok x) = Grown w w' st (Ok x)
GrownLate w w' st (Err r) = (number r ≡ 9) × (over st ≡ true) × Still w w'

-- the value that a run of the tree's nodes is, none if it is empty
abbrev pub run_value : List ℕ → Run → Option Tree
run_value w r = value_of (run w nodes_base r.at r.len)

-- a run stands in the tree, and is one tree or none: it may become a value
pub record Offered (w : List ℕ) (r : Run) : Type 0 where
  pub inside : r.at + r.len ≤ node_count w
  pub one : run_of (run_value w r) ≡ run w nodes_base r.at r.len
