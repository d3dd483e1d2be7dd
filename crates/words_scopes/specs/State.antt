-- The scope state in the words (what stands where: `Layout` of the crate `words`): the decode into the definition's `Stack`, and what makes
-- words good. Assumes nothing: these are definitions.
use Rattle.std.specs.Prelude.{◌≡◌, ℕ, zero, suc, ◌+◌, ◌<◌, ◌≤◌, Bool, true, false, ◌||◌, ◌⊎◌, List, [], ◌∷◌, length, take, drop, ◌==◌, slice_index, slice_index_or}
use Rattle.std.specs.Prelude as std
use Rattle.std.proofs.Math.Option.{Option, none, some}
use Rattle.def_tree.specs.Tree.{Tree, Core, no_core, flat, plant, first_t}
use Rattle.def_tree.specs.Base.{pick}
use Rattle.def_file.specs.declared.kind.Kind.TheVariants.{BindingIdent, Ident}
use Rattle.def_file.specs.Named.{number_of}
use Rattle.def_pass.specs.Tree.{is_ident, num}
use Rattle.words_scopes.specs.declared.binding.Binding.{Binding}
pub use Rattle.words_scopes.specs.Kinds.{var_type_of, alias_at, scope_kind_of}
use Rattle.words_scopes.specs.Kinds.{type_of, alias_of}
use Rattle.words_scopes.specs.declared.Record.{Record}
use Rattle.def_pass.specs.Scope.{ScopeKind, VarInfo, Scope, Stack, Free, has_in, value_is}
use Rattle.std.specs.Int.{from_bool}
use Rattle.words.specs.Tab.{tab, sum}
use Rattle.words.specs.Flags.{flag_at}
use Rattle.words.specs.Layout.{yes, Agree, run, tree, beyond, nodes_base, values_base, constant_values_base, constants_base, counts_base, used_texts_base, targeted_base, node_count, binding_count, scope_count, constant_count, ident_count_place, binding_place, id_word, kind_word, alias_of_word, read_cnt_word, inline_prevented_word, is_undefined_word, this_sensitive_word, hoisted_word, value_len_word, barrier_word, constant_id_word, constant_len_word, scope_kind_word, first_binding_word, first_constant_word, first_barrier_word, unresolved_place, index_word, shadowed_word, count_word}

-- a value: the run of its nodes, no node for none; and the way back
abbrev pub value_of : List Core → Option Tree
value_of [] = none
value_of (x ∷ xs) = some (first_t (plant (x ∷ xs)))

abbrev pub run_of : Option Tree → List Core
run_of none = []
run_of (some t) = flat t []

-- the bindings: lengths of their values, and where a value begins, the sum of the earlier lengths
abbrev pub len_at : List ℕ → ℕ → ℕ
len_at w k = value_len_word w k

abbrev pub off : List ℕ → ℕ → ℕ
off w k = sum (λ j. len_at w j) k

abbrev pub run_at : List ℕ → ℕ → List Core
run_at w k = run w values_base (off w k) (len_at w k)

abbrev pub bind_at : List ℕ → ℕ → VarInfo
bind_at w k = record {
  id = id_word w k;
  kind = var_type_of (kind_word w k);
  alias_of = alias_at (alias_of_word w k);
  read_cnt = read_cnt_word w k;
  inline_prevented = yes (inline_prevented_word w k);
  is_undefined = yes (is_undefined_word w k);
  value = value_of (run_at w k);
  this_sensitive = yes (this_sensitive_word w k);
  hoisted = yes (hoisted_word w k);
  count = count_word w k;
}

-- a binding without a value, by its words
abbrev pub bare_of : (id kind alias reads prevented undef sensitive hoisted count : ℕ) → VarInfo
bare_of i k a r p u s h c = record { id = i; kind = var_type_of k; alias_of = alias_at a; read_cnt = r; inline_prevented = yes p; is_undefined = yes u; value = none; this_sensitive = yes s; hoisted = yes h; count = c }

-- a binding without a value, by its record
abbrev pub recorded : ℕ → Record → ℕ → VarInfo
recorded i r c = record { id = i; kind = type_of r.kind; alias_of = alias_of r.alias; read_cnt = r.reads; inline_prevented = r.prevented; is_undefined = r.undefined; value = none; this_sensitive = r.this_sensitive; hoisted = r.hoisted; count = c }

-- the words of a record, by those of its kind and its alias
abbrev pub words_of : Record → ℕ → ℕ → List ℕ
words_of r kind alias = kind ∷ alias ∷ r.reads ∷ from_bool r.prevented ∷ from_bool r.undefined ∷ from_bool r.this_sensitive ∷ from_bool r.hoisted ∷ []

-- the words xs stand for a record
abbrev pub AreWords : Record → List ℕ → Type 0
AreWords r xs = (xs ≡ words_of r (slice_index_or xs 0 0) (slice_index_or xs 1 0)) × (var_type_of (slice_index_or xs 0 0) ≡ type_of r.kind) × (alias_at (slice_index_or xs 1 0) ≡ alias_of r.alias)

-- r says what the words of record k say, whether it is a binding's or past the last
pub record Recorded (w : List ℕ) (k : ℕ) (r : Record) : Type 0 where
  pub kind : type_of r.kind ≡ var_type_of (kind_word w k)
  pub alias : alias_of r.alias ≡ alias_at (alias_of_word w k)
  pub reads : r.reads ≡ read_cnt_word w k
  pub prevented : r.prevented ≡ yes (inline_prevented_word w k)
  pub undefined : r.undefined ≡ yes (is_undefined_word w k)
  pub this_sensitive : r.this_sensitive ≡ yes (this_sensitive_word w k)
  pub hoisted : r.hoisted ≡ yes (hoisted_word w k)

-- its count alone changed
abbrev pub with_count : ℕ → VarInfo → VarInfo
with_count c b = record { id = b.id; kind = b.kind; alias_of = b.alias_of; read_cnt = b.read_cnt; inline_prevented = b.inline_prevented; is_undefined = b.is_undefined; value = b.value; this_sensitive = b.this_sensitive; hoisted = b.hoisted; count = c }

-- the constants, in the same way
abbrev pub clen_at : List ℕ → ℕ → ℕ
clen_at w k = constant_len_word w k

abbrev pub coff : List ℕ → ℕ → ℕ
coff w k = sum (λ j. clen_at w j) k

abbrev pub crun_at : List ℕ → ℕ → List Core
crun_at w k = run w constant_values_base (coff w k) (clen_at w k)

abbrev pub const_at : List ℕ → ℕ → ℕ × Option Tree
const_at w k = (constant_id_word w k, value_of (crun_at w k))

-- the identifiers that the script as read targets (request 8): a set in eight words
unfoldable pub targeted : List ℕ → ℕ → Bool
targeted w = λ j. yes (slice_index (tab 256 (λ i. flag_at w targeted_base i)) j)

-- a scope's own record
pub record Head : Type 0 where
  pub kind : ScopeKind
  pub start : ℕ
  pub cstart : ℕ
  pub zeroth : ℕ
  pub unres : List ℕ

unfoldable pub unres_at : List ℕ → ℕ → List ℕ
unres_at w k = tab 256 (λ j. flag_at w (unresolved_place k) j)

abbrev pub head_at : List ℕ → ℕ → Head
head_at w k = record {
  kind = scope_kind_of (scope_kind_word w k);
  start = first_binding_word w k;
  cstart = first_constant_word w k;
  zeroth = first_barrier_word w k;
  unres = unres_at w k;
}

-- the first k scopes, innermost first
unfoldable pub heads_at : List ℕ → ℕ → List Head
heads_at w zero = []
heads_at w (suc k) = head_at w k ∷ heads_at w k

-- fl: of each binding of the scope, is there a barrier after it; the one before the first binding is in the scope's own record
abbrev pub scope_of : Head → List ℕ → List VarInfo → List (ℕ × Option Tree) → Scope
scope_of h fl bs cs = record {
  kind = h.kind;
  inline_barriers = λ (j : ℕ). yes (slice_index (h.zeroth ∷ fl) j);
  bindings = bs;
  unresolved_usages = λ (j : ℕ). yes (slice_index h.unres j);
  constants = cs;
}

-- one list for all scopes, cut where each scope begins
abbrev pub split : List Head → List ℕ → List VarInfo → List (ℕ × Option Tree) → Stack
split [] fl bs cs = []
split (h ∷ hs) fl bs cs = scope_of h (drop h.start fl) (drop h.start bs) (drop h.cstart cs) ∷ split hs (take h.start fl) (take h.start bs) (take h.cstart cs)

-- the parts of the state
unfoldable pub heads : List ℕ → List Head
heads w = heads_at w (scope_count w)

unfoldable pub flags : List ℕ → List ℕ
flags w = tab (binding_count w) (λ k. barrier_word w k)

unfoldable pub binds : List ℕ → List VarInfo
binds w = tab (binding_count w) (λ k. bind_at w k)

unfoldable pub consts : List ℕ → List (ℕ × Option Tree)
consts w = tab (constant_count w) (λ k. const_at w k)

unfoldable pub stack : List ℕ → Stack
stack w = split (heads w) (flags w) (binds w) (consts w)

-- scopes begin one after the other, none behind the last record, and no record stands before the root's
abbrev pub Fits : List Head → ℕ → Type 0
Fits [] n = n ≡ 0
Fits (h ∷ hs) n = (h.start ≤ n) × Fits hs h.start

abbrev pub CFits : List Head → ℕ → Type 0
CFits [] n = n ≡ 0
CFits (h ∷ hs) n = (h.cstart ≤ n) × CFits hs h.cstart

-- a binding or an identifier has the number of an identifier
abbrev pub Named : Core → Type 0
Named c = (c.kind ≡ number_of BindingIdent) ⊎ (c.kind ≡ number_of Ident) → c.num < 256

-- each node has; past the end is `no_core`, of kind 0
abbrev pub Names : List Core → Type 0
Names xs = (j : ℕ) → Named (slice_index_or xs j no_core)

-- a run is the nodes of one tree, or empty
pub record Whole (xs : List Core) : Type 0 where
  pub one : run_of (value_of xs) ≡ xs
  pub names : Names xs

-- 1 + the place in the list of all bindings of the innermost binding of an identifier, 0 if there is none
abbrev pub index_in : ℕ → List VarInfo → ℕ
index_in i [] = 0
index_in i (b ∷ bs) = elim (b.id == i) [ true ↦ 0 | false ↦ suc (index_in i bs) ]

abbrev pub place : ℕ → List Head → List VarInfo → ℕ
place i [] bs = 0
place i (h ∷ hs) bs = elim (has_in i (drop h.start bs)) [ true ↦ suc (h.start + index_in i (drop h.start bs)) | false ↦ place i hs (take h.start bs) ]

-- the tables beside the bindings: of each identifier where its innermost binding is, and of each binding where the one of its identifier was when it was made
pub record Beside (w : List ℕ) : Type 0 where
  pub index : (x : ℕ) → x < 256 → index_word w x ≡ place x (heads w) (binds w)
  pub shadow : (k : ℕ) → k < binding_count w → shadowed_word w k ≡ place (id_word w k) (heads w) (tab k (λ j. bind_at w j))

-- counts are within their limits, scopes are in order, identifiers are below 256, values are whole, the tables beside the bindings are those of the
-- scopes, and no constant is a targeted identifier
pub record Good (w : List ℕ) : Type 0 where
  pub long : 16384 ≤ length w
  pub nodes : node_count w ≤ 1024
  pub count : binding_count w ≤ 256
  pub depth : scope_count w ≤ 32
  pub ccount : constant_count w ≤ 256
  pub vals : off w (binding_count w) ≤ 512
  pub cvals : coff w (constant_count w) ≤ 512
  -- row 9: bindings and constants together
  pub live : binding_count w + constant_count w ≤ 256
  pub recorded : off w (binding_count w) + coff w (constant_count w) ≤ 512
  pub fits : Fits (heads w) (binding_count w)
  pub cfits : CFits (heads w) (constant_count w)
  pub ids : (k : ℕ) → k < binding_count w → id_word w k < 256
  pub cids : (k : ℕ) → k < constant_count w → constant_id_word w k < 256
  pub names : Names (tree w)
  pub whole : (k : ℕ) → k < binding_count w → Whole (run_at w k)
  pub cwhole : (k : ℕ) → k < constant_count w → Whole (crun_at w k)
  pub beside : Beside w
  pub cfree : (k : ℕ) → k < constant_count w → Free (targeted w) (value_of (crun_at w k))

-- the words stand for a state, and it has scope k, or binding k
abbrev pub HasScope : List ℕ → ℕ → Type 0
HasScope w k = Good w × (k < scope_count w)

abbrev pub HasBinding : List ℕ → ℕ → Type 0
HasBinding w k = Good w × (k < binding_count w)

-- the words that no scope has, among the first 16,384: the count of identifiers and what is reserved; what is free, and the first nodes of the identifiers
pub record Others (w w' : List ℕ) : Type 0 where
  pub low : Agree ident_count_place nodes_base w w'
  pub high : Agree used_texts_base 16384 w w'

-- the words of the records from k on, and their counts, are as they were
abbrev pub Past : ℕ → List ℕ → List ℕ → Type 0
Past k w w' = Agree (binding_place k) constants_base w w' × Agree (counts_base + k) used_texts_base w w'

-- w became w', whose scopes are st: all else is as it was
pub record Becomes (w w' : List ℕ) (st : Stack) : Type 0 where
  pub good : Good w'
  pub is : stack w' ≡ st
  pub tree : tree w' ≡ tree w
  pub others : Others w w'
  pub rest : beyond w' ≡ beyond w

-- the end of a scope without its hoisting: its records go, and what was unresolved in it is unresolved above
abbrev pub drop_inner : Stack → Stack
drop_inner [] = []
drop_inner (c ∷ []) = []
drop_inner (c ∷ s ∷ st) = record { kind = s.kind; inline_barriers = s.inline_barriers; bindings = s.bindings; unresolved_usages = λ j. c.unresolved_usages j || s.unresolved_usages j; constants = s.constants } ∷ st

-- what prevent_inline asks of a binding
abbrev pub hit_at : List ℕ → ℕ → ℕ → Bool
hit_at w k i = (bind_at w k).id == i || value_is i (bind_at w k).value

-- the identifier that a value is, if it is one
abbrev pub name_of : Option Tree → std.Option ℕ
name_of none = std.None
name_of (some t) = pick (is_ident t) (std.Some (num t)) std.None

-- a binding as the record that is marked
abbrev pub record_at : List ℕ → ℕ → Binding
record_at w k = record { id = (bind_at w k).id; value = name_of (bind_at w k).value; prevented = (bind_at w k).inline_prevented }

-- what a read past the end would give
abbrev pub no_record : Binding
no_record = record { id = 0; value = std.None; prevented = false }

-- the bindings from k on, changed by f, stand in bs as records, oldest first
abbrev pub Window : (Binding → Binding) → List ℕ → ℕ → List Binding → Type 0
Window f w k bs = (j : ℕ) → j < 8 → k + j < binding_count w → slice_index_or bs j no_record ≡ f (record_at w (k + j))
