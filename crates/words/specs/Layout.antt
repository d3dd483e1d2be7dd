-- The 16,384 working words: what stands where, the names by which contracts speak of the places, and how a node of the tree is read out of them.
-- Assumes nothing: these are definitions.
--
-- words             what                                       record
-- 0 to 4            counts: nodes, bindings, scopes, constants, identifiers
-- 5 to 11           the visitor's fields: changed, inlining, is_first_run, var_decl_kind, pat_mode, in_test, right sides of && and || open in their Cond scopes
-- 12, 13            the visitor's totals: ended, replaced (request 9)
-- 14, 15            free
-- 16 to 2063        the tree's nodes, at most 1,024            2: kind + 64 * (form + 32 * arity); number
-- 2064 to 3087      nodes of the bindings' values, 512         2: the same. The values stand in the order of the bindings, with no gap
-- 3088 to 4111      nodes of the constants' values, 512        2: the same, in the order of the constants
-- 4112 to 6671      bindings of all scopes, root first, 256    10: id, kind, alias_of, read_cnt, inline_prevented, is_undefined, this_sensitive, hoisted, value's length, barrier after it
-- 6672 to 7183      constants of all scopes, root first, 256   2: id, value's length
-- 7184 to 7311      scopes, root first, 32                     4: kind, first binding, first constant, barrier before the first binding
-- 7312 to 7567      unresolved: a bit for each identifier      8 for each scope
-- 7568 to 7823      index: of each identifier, 256             1: 1 + the number of its innermost binding, 0 where there is none
-- 7824 to 8079      shadowed: of each binding, 256             1: what the index had of its identifier when it was appended
-- 8080 to 8335      counts: of each binding, 256               1: how often an identifier was replaced by its value (request 9)
-- 8336 to 10384     numbers of used texts, 1,024               2 behind one word, how many: low and high half. The writer of canonical files (file_canon) alone uses it
-- 10385 to 12433    used contexts, 1,024                       2 behind one word: the same
-- 12434 to 15503    free
-- 15504 to 15759    identifiers, 256                           1: the number of the first node that has it
-- 15760 to 16015    the first identifier of each text, 256     1: its number from 1, or 0 where there is none; reading alone uses it
-- 16016 to 16023    targeted: a bit for each identifier        a set in 8 words; the script as read fills it (request 8)
-- 16024 to 16383    free
--
-- A name in .._base is where a stretch begins, one in .._place where a record of it or one of its words stands, one in .._count or .._word what
-- is read there.
use Rattle.std.specs.Prelude.{◌≡◌, List, Bool, true, false, ℕ, zero, suc, ◌+◌, ◌*◌, ◌/◌, ◌%◌, ◌≤◌, ◌<◌, get_or, drop}
use Rattle.def_tree.specs.Tree.{Core, core}
use Rattle.words.specs.Tab.{tab}

-- a word as a flag
abbrev pub yes : ℕ → Bool
yes zero = false
yes (suc n) = true

-- where the stretches begin
abbrev pub visitor_base : ℕ
visitor_base = 5

abbrev pub reserved_base : ℕ
reserved_base = 14

abbrev pub nodes_base : ℕ
nodes_base = 16

abbrev pub values_base : ℕ
values_base = 2064

abbrev pub constant_values_base : ℕ
constant_values_base = 3088

abbrev pub bindings_base : ℕ
bindings_base = 4112

abbrev pub constants_base : ℕ
constants_base = 6672

abbrev pub scopes_base : ℕ
scopes_base = 7184

abbrev pub unresolved_base : ℕ
unresolved_base = 7312

abbrev pub index_base : ℕ
index_base = 7568

abbrev pub shadowed_base : ℕ
shadowed_base = 7824

abbrev pub counts_base : ℕ
counts_base = 8080

abbrev pub used_texts_base : ℕ
used_texts_base = 8336

abbrev pub used_contexts_base : ℕ
used_contexts_base = 10385

abbrev pub idents_base : ℕ
idents_base = 15504

abbrev pub first_of_text_base : ℕ
first_of_text_base = 15760

abbrev pub targeted_base : ℕ
targeted_base = 16016

-- counts; of the last one also its place
abbrev pub ident_count_place : ℕ
ident_count_place = 4

abbrev pub node_count : List ℕ → ℕ
node_count w = get_or w 0 0

abbrev pub binding_count : List ℕ → ℕ
binding_count w = get_or w 1 0

abbrev pub scope_count : List ℕ → ℕ
scope_count w = get_or w 2 0

abbrev pub constant_count : List ℕ → ℕ
constant_count w = get_or w 3 0

abbrev pub ident_count : List ℕ → ℕ
ident_count w = get_or w ident_count_place 0

-- the visitor's fields and totals
abbrev pub changed_word : List ℕ → ℕ
changed_word w = get_or w 5 0

abbrev pub inlining_word : List ℕ → ℕ
inlining_word w = get_or w 6 0

abbrev pub is_first_run_word : List ℕ → ℕ
is_first_run_word w = get_or w 7 0

abbrev pub var_decl_kind_word : List ℕ → ℕ
var_decl_kind_word w = get_or w 8 0

abbrev pub pat_mode_word : List ℕ → ℕ
pat_mode_word w = get_or w 9 0

abbrev pub in_test_word : List ℕ → ℕ
in_test_word w = get_or w 10 0

abbrev pub conds_word : List ℕ → ℕ
conds_word w = get_or w 11 0

abbrev pub ended_word : List ℕ → ℕ
ended_word w = get_or w 12 0

abbrev pub replaced_word : List ℕ → ℕ
replaced_word w = get_or w 13 0

-- the record of binding k; its barrier's place; its fields, with the names of `VarInfo` in scope.rs; and of a field by its number
abbrev pub binding_place : ℕ → ℕ
binding_place k = bindings_base + k * 10

abbrev pub barrier_place : ℕ → ℕ
barrier_place k = bindings_base + k * 10 + 9

abbrev pub id_word : List ℕ → ℕ → ℕ
id_word w k = get_or w (binding_place k) 0

abbrev pub field_word : List ℕ → (k field : ℕ) → ℕ
field_word w k field = get_or w (binding_place k + field) 0

abbrev pub kind_word : List ℕ → ℕ → ℕ
kind_word w k = field_word w k 1

abbrev pub alias_of_word : List ℕ → ℕ → ℕ
alias_of_word w k = field_word w k 2

abbrev pub read_cnt_word : List ℕ → ℕ → ℕ
read_cnt_word w k = field_word w k 3

abbrev pub inline_prevented_word : List ℕ → ℕ → ℕ
inline_prevented_word w k = field_word w k 4

abbrev pub is_undefined_word : List ℕ → ℕ → ℕ
is_undefined_word w k = field_word w k 5

abbrev pub this_sensitive_word : List ℕ → ℕ → ℕ
this_sensitive_word w k = field_word w k 6

abbrev pub hoisted_word : List ℕ → ℕ → ℕ
hoisted_word w k = field_word w k 7

abbrev pub value_len_word : List ℕ → ℕ → ℕ
value_len_word w k = field_word w k 8

abbrev pub barrier_word : List ℕ → ℕ → ℕ
barrier_word w k = get_or w (barrier_place k) 0

-- the record of constant k, and its words
abbrev pub constant_place : ℕ → ℕ
constant_place k = constants_base + k * 2

abbrev pub constant_id_word : List ℕ → ℕ → ℕ
constant_id_word w k = get_or w (constant_place k) 0

abbrev pub constant_len_word : List ℕ → ℕ → ℕ
constant_len_word w k = get_or w (constant_place k + 1) 0

-- the record of scope k; the place of the barrier before its first binding; its words; and the place of its set of unresolved identifiers
abbrev pub scope_place : ℕ → ℕ
scope_place k = scopes_base + k * 4

abbrev pub first_barrier_place : ℕ → ℕ
first_barrier_place k = scopes_base + k * 4 + 3

abbrev pub scope_kind_word : List ℕ → ℕ → ℕ
scope_kind_word w k = get_or w (scope_place k) 0

abbrev pub first_binding_word : List ℕ → ℕ → ℕ
first_binding_word w k = get_or w (scope_place k + 1) 0

abbrev pub first_constant_word : List ℕ → ℕ → ℕ
first_constant_word w k = get_or w (scope_place k + 2) 0

abbrev pub first_barrier_word : List ℕ → ℕ → ℕ
first_barrier_word w k = get_or w (first_barrier_place k) 0

abbrev pub unresolved_place : ℕ → ℕ
unresolved_place k = unresolved_base + k * 8

-- the tables beside the bindings: of identifier x; of binding k
abbrev pub index_word : List ℕ → ℕ → ℕ
index_word w x = get_or w (index_base + x) 0

abbrev pub shadowed_word : List ℕ → ℕ → ℕ
shadowed_word w k = get_or w (shadowed_base + k) 0

abbrev pub count_word : List ℕ → ℕ → ℕ
count_word w k = get_or w (counts_base + k) 0

-- of identifier i, and of text t
abbrev pub ident_word : List ℕ → ℕ → ℕ
ident_word w i = get_or w (idents_base + i) 0

abbrev pub first_of_text_word : List ℕ → ℕ → ℕ
first_of_text_word w t = get_or w (first_of_text_base + t) 0

-- the two lists agree from lo up to hi
abbrev pub Agree : ℕ → ℕ → List ℕ → List ℕ → Type 0
Agree lo hi w w' = (j : ℕ) → lo ≤ j → j < hi → get_or w' j 0 ≡ get_or w j 0

-- the node that stands at word p
abbrev pub core_from : List ℕ → ℕ → Core
core_from w p = core (get_or w p 0 % 64) (get_or w p 0 / 64 % 32) (get_or w p 0 / 2048 % 65536) (get_or w (p + 1) 0)

-- n nodes, from the one at o of the store at base
unfoldable pub run : List ℕ → ℕ → ℕ → ℕ → List Core
run w base o n = tab n (λ j. core_from w (base + (o + j) * 2))

-- node k of the tree, and the tree
abbrev pub node_of : List ℕ → ℕ → Core
node_of w k = core_from w (nodes_base + k * 2)

unfoldable pub tree : List ℕ → List Core
tree w = tab (node_count w) (λ k. node_of w k)

-- the words past the first 16,384. Shut, so that nothing counts to 16,384 in unary
unfoldable pub beyond : List ℕ → List ℕ
beyond w = drop 16384 w
