-- Sequences of calls of scope.rs with what the program crates/scope_calls printed after each, and which of them the definition ends otherwise.
-- The tables beside this file are written by tools/calls.py. Assumes nothing: these are definitions.
use Rattle.std.specs.Prelude.{Bool, true, false, ◌||◌, List, [], ◌∷◌, ◌++◌, ℕ, zero, suc, ◌+◌, ◌*◌, ◌/◌, ◌%◌, eqb, ltb, length, get_or}
use Rattle.std.proofs.Math.Option.{Option, none, some}
use Rattle.def_tree.specs.Base.{pick, to_nat}
use Rattle.def_tree.specs.Tree.{Core, flat}
use Rattle.def_tree.specs.Combine.{Res, stop, done, Nothing, ret, ◌>>◌}
use Rattle.def_file.specs.Script.{same_text}
use Rattle.def_pass.specs.Tree.{Tree, node, nil, cons, count, count_o}
use Rattle.def_pass.specs.Scope.{VarType, param, v_var, v_let, v_const, ScopeKind, cond, loop, block, fn, VarInfo, Stack, new_scope, defined, with_value, change, is_some, mark_of, idx_val, find_binding, find_binding_from_current, has_constant, find_constant, scope_for, write_prevents_inline, read_prevents_inlining, should_prevent_inline_because_of_scope, var_inline_prevented, is_inline_prevented, has_same_this, in_loop, values_in, values_of, recorded_nodes, live, Init, no_init, recorded, seen, declare, add_read, add_write, close, prevent_inline, prevent_inline_of_params, mark_this_sensitive, store_inline_barrier}
use Rattle.def_pass.specs.Walk.{St, M, declaring, mark, grow, opening, insert_const}
use Rattle.def_pass.specs.Vector.{chunks}

-- calls of four bytes, and the numbers printed, of two bytes, each with their length
pub record Played : Type 0 where
  pub size : ℕ
  pub calls : List ℕ
  pub answer_size : ℕ
  pub answer : List ℕ

abbrev pub p : ℕ → List ℕ → ℕ → List ℕ → Played
p n c m a = record { size = n; calls = c; answer_size = m; answer = a }

-- values, by number: identifiers 0 and 1, a literal, a member of 0, an array, a call of 2, and an array of all
abbrev pub ident : ℕ → Tree
ident i = node 21 0 i nil

abbrev pub member : Tree
member = node 37 0 4 (cons (ident 0) nil)

abbrev pub array : Tree
array = node 27 0 0 (cons (node 22 0 7 nil) (cons (ident 1) nil))

abbrev pub called : Tree
called = node 35 0 0 (cons (ident 2) nil)

abbrev pub whole : Tree
whole = node 27 0 0 (cons (ident 0) (cons (ident 1) (cons (node 22 0 3 nil) (cons member (cons array (cons called nil))))))

abbrev pub value : ℕ → Tree
value v = get_or (whole ∷ ident 0 ∷ ident 1 ∷ node 22 0 3 nil ∷ member ∷ array ∷ called ∷ []) v whole

-- 0 is none, and so is 8, which begins behind the last node
abbrev pub none? : ℕ → Bool
none? v = eqb v 0 || eqb v 8

abbrev pub value_o : ℕ → Option Tree
value_o v = pick (none? v) none (some (value v))

-- bit k of a mark that was divided by 2 ^ k
abbrev pub odd : ℕ → Bool
odd m = eqb (m % 2) 1

abbrev pub init_of : ℕ → ℕ → Init
init_of v m = pick (none? v) no_init (pick (odd (m / 8)) (seen (value v)) (recorded (value v)))

-- the calls by their numbers: an identifier, a value, a mark
abbrev pub steps : List (ℕ → ℕ → ℕ → M Nothing)
steps =
    (λ x v m. ret tt)
    ∷ (λ x v m. opening (get_or (cond ∷ loop ∷ block ∷ fn false ∷ []) m (fn true)))
    ∷ (λ x v m. grow (declare (odd (m / 16)) x (init_of v m) (odd (m / 4)) (get_or (param ∷ v_var ∷ v_let ∷ []) (m % 4) v_const)))
    ∷ (λ x v m. grow (add_write x (odd m) (odd (m / 2))))
    ∷ (λ x v m. grow (change x (with_value (value_o v))))
    ∷ (λ x v m. grow (change x (λ c. defined (with_value (value_o v) c))))
    ∷ (λ x v m. insert_const x (value_o v))
    ∷ (λ x v m. mark close)
    ∷ (λ x v m. mark (add_read x (odd m)))
    ∷ (λ x v m. mark (prevent_inline x))
    ∷ (λ x v m. mark (mark_this_sensitive (some x)))
    ∷ (λ x v m. mark store_inline_barrier)
    ∷ (λ x v m. mark prevent_inline_of_params)
    ∷ (λ x v m. mark (change x defined))
    ∷ []

abbrev pub play : List ℕ → M Nothing
play [] = ret tt
play (c ∷ []) = ret tt
play (c ∷ x ∷ []) = ret tt
play (c ∷ x ∷ v ∷ []) = ret tt
play (c ∷ x ∷ v ∷ m ∷ cs) = get_or steps c (λ x v m. ret tt) x v m >> play cs

abbrev pub start : St
start = record { stack = new_scope (fn false) ∷ []; changed = false; inlining = false; is_first_run = true; var_decl_kind = v_var; pat_mode = declaring; in_test = false; conds = 0; nodes = 11; targeted = λ (j : ℕ). false; ended = 0; replaced = 0 }

-- what the program prints: cases by their numbers
abbrev pub type_no : VarType → ℕ
type_no param = 0
type_no v_var = 1
type_no v_let = 2
type_no v_const = 3

abbrev pub alias_no : Option VarType → ℕ
alias_no none = 0
alias_no (some k) = suc (type_no k)

abbrev pub kind_no : ScopeKind → ℕ
kind_no cond = 0
kind_no loop = 1
kind_no block = 2
kind_no (fn b) = 3 + to_nat b

-- a value: how many nodes, then the kind and the number of each
abbrev pub node_nos : List Core → List ℕ
node_nos [] = []
node_nos (c ∷ cs) = c.kind ∷ c.num ∷ node_nos cs

abbrev pub value_nos : Option Tree → List ℕ
value_nos none = 0 ∷ []
value_nos (some t) = count t ∷ node_nos (flat t [])

-- bindings, from the one at place j on, each with the barrier behind it
abbrev pub binding_nos : (ℕ → Bool) → ℕ → List VarInfo → List ℕ
binding_nos bars j [] = []
binding_nos bars j (b ∷ bs) =
    b.id ∷ type_no b.kind ∷ alias_no b.alias_of ∷ b.read_cnt ∷ to_nat b.inline_prevented ∷ to_nat b.is_undefined ∷ to_nat b.this_sensitive ∷ to_nat b.hoisted
    ∷ to_nat (bars (suc j)) ∷ value_nos b.value ++ binding_nos bars (suc j) bs

abbrev pub const_nos : List (ℕ × Option Tree) → List ℕ
const_nos [] = []
const_nos (c ∷ cs) = c.0 ∷ value_nos c.1 ++ const_nos cs

abbrev pub flags : (ℕ → Bool) → List ℕ
flags t = to_nat (t 0) ∷ to_nat (t 1) ∷ to_nat (t 2) ∷ to_nat (t 3) ∷ []

-- the scopes, root first
abbrev pub scope_nos : Stack → List ℕ
scope_nos [] = []
scope_nos (s ∷ st) = scope_nos st ++ kind_no s.kind ∷ to_nat (s.inline_barriers 0) ∷ binding_nos s.inline_barriers 0 s.bindings ++ const_nos s.constants ++ flags s.unresolved_usages

-- look-ups
abbrev pub here : Stack → List VarInfo
here [] = []
here (s ∷ st) = s.bindings

abbrev pub place_no : Option (ℕ × VarInfo) → ℕ
place_no none = 0
place_no (some b) = suc b.0

abbrev pub found_nos : Option VarInfo → List ℕ
found_nos none = 0 ∷ []
found_nos (some b) = 1 ∷ b.read_cnt ∷ to_nat (var_inline_prevented b) ∷ []

abbrev pub look_nos : ℕ → Stack → List ℕ
look_nos x st =
    let b = find_binding x st in
    let s = scope_for true x st in
    found_nos b
    ++ to_nat (is_some (find_binding_from_current x st)) ∷ place_no (idx_val 0 x (here st)) ∷ to_nat (mark_of b)
    ∷ to_nat (has_constant x st) ∷ to_nat (has_constant x st) ∷ count_o (find_constant x st) ∷ to_nat s.0 ∷ to_nat s.1
    ∷ to_nat (write_prevents_inline x st) ∷ to_nat (read_prevents_inlining x st) ∷ to_nat (should_prevent_inline_because_of_scope x st)
    ∷ to_nat (has_same_this b (some (ident 0))) ∷ to_nat (has_same_this b (some member)) ∷ []

abbrev pub count_nos : Stack → List ℕ
count_nos st =
    to_nat (in_loop st) ∷ length (here st) ∷ recorded_nodes st ∷ live st ∷ to_nat (is_inline_prevented (ident 0) st) ∷ to_nat (is_inline_prevented (node 22 0 3 nil) st)
    ∷ to_nat (is_inline_prevented member st) ∷ to_nat (is_inline_prevented array st) ∷ to_nat (is_inline_prevented called st) ∷ []

-- n nodes are counted already: after how many scopes, from the current one outwards, they are over 512, if ever; k scopes are counted
abbrev pub stop_nos : ℕ → ℕ → Stack → List ℕ
stop_nos k n [] = elim (ltb 512 n) [ true ↦ 1 ∷ k ∷ [] | false ↦ 0 ∷ [] ]
stop_nos k n (s ∷ st) = elim (ltb 512 n) [ true ↦ 1 ∷ k ∷ [] | false ↦ stop_nos (suc k) (n + values_in s.bindings + values_of s.constants) st ]

-- 1 + the number of the innermost binding, among all, root first, 0 if there is none; as the index has it, and as a walk finds it
abbrev pub bound : Stack → ℕ
bound [] = 0
bound (s ∷ st) = length s.bindings + bound st

abbrev pub or_outer : ℕ → ℕ → ℕ → ℕ
or_outer zero n m = m
or_outer (suc k) n m = n + suc k

abbrev pub place_of : ℕ → Stack → ℕ
place_of x [] = 0
place_of x (s ∷ st) = or_outer (place_no (idx_val 0 x s.bindings)) (bound st) (place_of x st)

abbrev pub twice : ℕ → List ℕ → List ℕ
twice n ns = n ∷ n ∷ ns

abbrev pub each_place : Stack → List VarInfo → List ℕ
each_place st [] = []
each_place st (b ∷ bs) = twice (place_of b.id st) (each_place st bs)

abbrev pub all_places : Stack → Stack → List ℕ
all_places st [] = []
all_places st (t ∷ ts) = all_places st ts ++ each_place st t.bindings

abbrev pub place_nos : Stack → List ℕ
place_nos st = twice (place_of 0 st) (twice (place_of 1 st) (twice (place_of 2 st) (twice (place_of 3 st) (all_places st st))))

-- a refusal's number; or 0 and the rest; and 1: index and walk are alike after each call
abbrev pub answer_nos : Res St Nothing → List ℕ
answer_nos (stop n) = n ∷ 1 ∷ []
answer_nos (done s t) = 0 ∷ scope_nos s.stack ++ look_nos 0 s.stack ++ look_nos 1 s.stack ++ look_nos 2 s.stack ++ look_nos 3 s.stack ++ count_nos s.stack ++ stop_nos 0 100 s.stack ++ stop_nos 0 500 s.stack ++ stop_nos 0 512 s.stack ++ stop_nos 0 513 s.stack ++ place_nos s.stack ++ 1 ∷ []

-- bytes two by two
abbrev pub pairs : List ℕ → List ℕ
pairs [] = []
pairs (a ∷ []) = a ∷ []
pairs (a ∷ b ∷ bs) = (a + 256 * b) ∷ pairs bs

unfoldable pub right_played : Played → Bool
unfolding opening declare add_write add_read close
right_played x = same_text (answer_nos (play (chunks x.size x.calls) start)) (pairs (chunks x.answer_size x.answer))

-- the numbers of the sequences that end otherwise, from n on
unfoldable pub wrong : ℕ → List Played → List ℕ
unfolding right_played
wrong n [] = []
wrong n (x ∷ xs) = elim (right_played x) [ true ↦ wrong (suc n) xs | false ↦ n ∷ wrong (suc n) xs ]
