-- scope.rs: bindings, scopes, and the stack of the open scopes, innermost first, the root last.
use Rattle.std.specs.Prelude.{◌≡◌, Bool, true, false, ◌&&◌, ◌||◌, not, List, [], ◌∷◌, ◌++◌, map, ℕ, zero, suc, ◌+◌, ◌-◌, ◌%◌, eqb, ltb, length}
use Rattle.std.proofs.Math.Option.{Option, none, some}
use Rattle.def_tree.specs.Base.{pick, or_else}
use Rattle.def_file.specs.declared.kind.Kind.TheVariants.{Update, Call, New, Paren}
use Rattle.def_file.specs.Named.{is_kind}
use Rattle.def_pass.specs.Tree.{Tree, kind, num, kids, is_ident, is_member, is_cheap, head_t, count_o}

-- VarType
pub data VarType : Type 0 where
  param v_var v_let v_const : VarType

-- VarInfo::is_param; and the other tests of a VarType
abbrev pub is_param : VarType → Bool
is_param param = true
is_param v_var = false
is_param v_let = false
is_param v_const = false

abbrev pub is_var : VarType → Bool
is_var param = false
is_var v_var = true
is_var v_let = false
is_var v_const = false

abbrev pub is_const : VarType → Bool
is_const param = false
is_const v_var = false
is_const v_let = false
is_const v_const = true

-- ScopeKind
pub data ScopeKind : Type 0 where
  cond loop block : ScopeKind
  fn : Bool → ScopeKind

-- tests of a ScopeKind
abbrev pub is_fn : ScopeKind → Bool
is_fn cond = false
is_fn loop = false
is_fn block = false
is_fn (fn b) = true

abbrev pub is_loop : ScopeKind → Bool
is_loop cond = false
is_loop loop = true
is_loop block = false
is_loop (fn b) = false

abbrev pub is_block : ScopeKind → Bool
is_block cond = false
is_block loop = false
is_block block = true
is_block (fn b) = false

-- VarInfo, without `read_from_nested_scope`, which nothing reads. `count`: of identifiers replaced by its value (request 9)
pub record VarInfo : Type 0 where
  pub id : ℕ
  pub kind : VarType
  pub alias_of : Option VarType
  pub read_cnt : ℕ
  pub inline_prevented : Bool
  pub is_undefined : Bool
  pub value : Option Tree
  pub this_sensitive : Bool
  pub hoisted : Bool
  pub count : ℕ

-- Scope: kind, inline_barriers, bindings, unresolved_usages, constants. Of barriers and unresolved uses only which occur matters: tests
pub record Scope : Type 0 where
  pub kind : ScopeKind
  pub inline_barriers : ℕ → Bool
  pub bindings : List VarInfo
  pub unresolved_usages : ℕ → Bool
  pub constants : List (ℕ × Option Tree)

-- a scope with its parents
abbrev pub Stack : Type 0
Stack = List Scope

-- Scope::new
abbrev pub new_scope : ScopeKind → Scope
new_scope k = record { kind = k; inline_barriers = λ (j : ℕ). false; bindings = []; unresolved_usages = λ (j : ℕ). false; constants = [] }

-- a new VarInfo
abbrev pub fresh : ℕ → VarType → Option VarType → Bool → Bool → Option Tree → VarInfo
fresh i k al p u v = record { id = i; kind = k; alias_of = al; read_cnt = 0; inline_prevented = p; is_undefined = u; value = v; this_sensitive = false; hoisted = false; count = 0 }

-- one field changed
abbrev pub prevent : VarInfo → VarInfo
prevent b = record { id = b.id; kind = b.kind; alias_of = b.alias_of; read_cnt = b.read_cnt; inline_prevented = true; is_undefined = b.is_undefined; value = b.value; this_sensitive = b.this_sensitive; hoisted = b.hoisted; count = b.count }

abbrev pub defined : VarInfo → VarInfo
defined b = record { id = b.id; kind = b.kind; alias_of = b.alias_of; read_cnt = b.read_cnt; inline_prevented = b.inline_prevented; is_undefined = false; value = b.value; this_sensitive = b.this_sensitive; hoisted = b.hoisted; count = b.count }

abbrev pub sensitive_now : VarInfo → VarInfo
sensitive_now b = record { id = b.id; kind = b.kind; alias_of = b.alias_of; read_cnt = b.read_cnt; inline_prevented = b.inline_prevented; is_undefined = b.is_undefined; value = b.value; this_sensitive = true; hoisted = b.hoisted; count = b.count }

abbrev pub with_value : Option Tree → VarInfo → VarInfo
with_value v b = record { id = b.id; kind = b.kind; alias_of = b.alias_of; read_cnt = b.read_cnt; inline_prevented = b.inline_prevented; is_undefined = b.is_undefined; value = v; this_sensitive = b.this_sensitive; hoisted = b.hoisted; count = b.count }

-- read once more; a hoisted binding is then prevented. Reads are counted up to 2: all that is asked of them is whether they are 1
abbrev pub one_more : ℕ → ℕ
one_more n = pick (ltb n 2) (n + 1) n

abbrev pub count_read : VarInfo → VarInfo
count_read b = record { id = b.id; kind = b.kind; alias_of = b.alias_of; read_cnt = one_more b.read_cnt; inline_prevented = b.hoisted || b.inline_prevented; is_undefined = b.is_undefined; value = b.value; this_sensitive = b.this_sensitive; hoisted = b.hoisted; count = b.count }

abbrev pub redeclare : Bool → Bool → Option Tree → VarInfo → VarInfo
redeclare p u v b = record { id = b.id; kind = b.kind; alias_of = b.alias_of; read_cnt = 0; inline_prevented = p; is_undefined = u; value = v; this_sensitive = b.this_sensitive; hoisted = b.hoisted; count = b.count }

-- emptied and hoisted, prevented where it is unresolved above
abbrev pub hoist : (ℕ → Bool) → VarInfo → VarInfo
hoist us b = record { id = b.id; kind = b.kind; alias_of = b.alias_of; read_cnt = b.read_cnt; inline_prevented = us b.id || b.inline_prevented; is_undefined = false; value = none; this_sensitive = b.this_sensitive; hoisted = true; count = b.count }

-- request 9: counts are kept modulo 2^32; an identifier more was replaced by the binding's value
abbrev pub wrap : ℕ → ℕ
wrap n = n % 4294967296

abbrev pub count_one : VarInfo → VarInfo
count_one b = record { id = b.id; kind = b.kind; alias_of = b.alias_of; read_cnt = b.read_cnt; inline_prevented = b.inline_prevented; is_undefined = b.is_undefined; value = b.value; this_sensitive = b.this_sensitive; hoisted = b.hoisted; count = wrap (b.count + 1) }

abbrev pub on_bindings : (List VarInfo → List VarInfo) → Scope → Scope
on_bindings f s = record { kind = s.kind; inline_barriers = s.inline_barriers; bindings = f s.bindings; unresolved_usages = s.unresolved_usages; constants = s.constants }

-- idx_val: the binding of an identifier, its place and itself
abbrev pub idx_val : ℕ → ℕ → List VarInfo → Option (ℕ × VarInfo)
idx_val n i [] = none
idx_val n i (b ∷ bs) = elim (eqb b.id i) [ true ↦ some (n, b) | false ↦ idx_val (suc n) i bs ]

abbrev pub find_in : ℕ → List VarInfo → Option VarInfo
find_in i [] = none
find_in i (b ∷ bs) = elim (eqb b.id i) [ true ↦ some b | false ↦ find_in i bs ]

abbrev pub is_some {ℓ} : {A : Type ℓ} → Option A → Bool
is_some none = false
is_some (some x) = true

abbrev pub has_in : ℕ → List VarInfo → Bool
has_in i bs = is_some (find_in i bs)

-- find_binding_from_current, find_binding
abbrev pub find_binding_from_current : ℕ → Stack → Option VarInfo
find_binding_from_current i [] = none
find_binding_from_current i (s ∷ st) = find_in i s.bindings

abbrev pub find_binding : ℕ → Stack → Option VarInfo
find_binding i [] = none
find_binding i (s ∷ st) = or_else (find_in i s.bindings) (find_binding i st)

abbrev pub change_in : ℕ → (VarInfo → VarInfo) → List VarInfo → List VarInfo
change_in i f [] = []
change_in i f (b ∷ bs) = elim (eqb b.id i) [ true ↦ f b ∷ bs | false ↦ b ∷ change_in i f bs ]

-- change the innermost binding of an identifier
abbrev pub change : ℕ → (VarInfo → VarInfo) → Stack → Stack
change i f [] = []
change i f (s ∷ st) = elim (has_in i s.bindings) [ true ↦ on_bindings (change_in i f) s ∷ st | false ↦ s ∷ change i f st ]

-- IndexMap::insert
abbrev pub put : VarInfo → List VarInfo → List VarInfo
put c [] = c ∷ []
put c (b ∷ bs) = elim (eqb b.id c.id) [ true ↦ c ∷ bs | false ↦ b ∷ put c bs ]

-- Scope::constants: get, insert
abbrev pub const_in : ℕ → List (ℕ × Option Tree) → Option (Option Tree)
const_in i [] = none
const_in i (c ∷ cs) = elim (eqb c.0 i) [ true ↦ some c.1 | false ↦ const_in i cs ]

abbrev pub put_const : ℕ → Option Tree → List (ℕ × Option Tree) → List (ℕ × Option Tree)
put_const i v [] = (i, v) ∷ []
put_const i v (c ∷ cs) = elim (eqb c.0 i) [ true ↦ (i, v) ∷ cs | false ↦ c ∷ put_const i v cs ]

-- request 8: a constant's value, without an identifier that the script targets
abbrev pub untargeted : (ℕ → Bool) → Option Tree → Option Tree
untargeted tg none = none
untargeted tg (some t) = pick (is_ident t && tg (num t)) none (some t)

-- what a look-up of a constant promises of its value: an identifier is not targeted
abbrev pub Free : (ℕ → Bool) → Option Tree → Type 0
Free tg none = Unit {0}
Free tg (some t) = is_ident t ≡ true → tg (num t) ≡ false

abbrev pub add_const : (ℕ → Bool) → ℕ → Option Tree → Stack → Stack
add_const tg i v [] = []
add_const tg i v (s ∷ st) = record { kind = s.kind; inline_barriers = s.inline_barriers; bindings = s.bindings; unresolved_usages = s.unresolved_usages; constants = put_const i (untargeted tg v) s.constants } ∷ st

-- has_constant
abbrev pub has_constant : ℕ → Stack → Bool
has_constant i [] = false
has_constant i (s ∷ st) = is_some (const_in i s.constants) || has_constant i st

abbrev pub flat : Option (Option Tree) → Option Tree
flat none = none
flat (some v) = v

-- find_constant
abbrev pub find_constant : ℕ → Stack → Option Tree
find_constant i [] = none
find_constant i (s ∷ st) = or_else (flat (const_in i s.constants)) (find_constant i st)

-- prevent_inline: is the recorded value the identifier i
abbrev pub value_is : ℕ → Option Tree → Bool
value_is i none = false
value_is i (some t) = is_ident t && eqb (num t) i

abbrev pub prevent_one : ℕ → VarInfo → VarInfo
prevent_one i b = pick (eqb b.id i || value_is i b.value) (prevent b) b

-- prevent_inline: in every open scope
abbrev pub prevent_inline : ℕ → Stack → Stack
prevent_inline i [] = []
prevent_inline i (s ∷ st) = on_bindings (map (prevent_one i)) s ∷ prevent_inline i st

-- prevent_inline of each
abbrev pub prevent_each : List ℕ → Stack → Stack
prevent_each [] st = st
prevent_each (i ∷ is) st = prevent_each is (prevent_inline i st)

abbrev pub prevent_param : VarInfo → VarInfo
prevent_param b = pick (is_param b.kind) (prevent b) b

-- prevent_inline_of_params: up to the nearest function
abbrev pub prevent_inline_of_params : Stack → Stack
prevent_inline_of_params [] = []
prevent_inline_of_params (s ∷ st) = on_bindings (map prevent_param) s ∷ elim (is_fn s.kind) [ true ↦ st | false ↦ prevent_inline_of_params st ]

abbrev pub mark_of : Option VarInfo → Bool
mark_of none = false
mark_of (some b) = b.inline_prevented

abbrev pub ident_of : Option Tree → Option ℕ
ident_of none = none
ident_of (some t) = pick (is_ident t) (some (num t)) none

abbrev pub mark_of_id : Option ℕ → Stack → Bool
mark_of_id none st = false
mark_of_id (some i) st = mark_of (find_binding i st)

-- Scope::is_inline_prevented of an expression
abbrev pub is_inline_prevented : Tree → Stack → Bool
is_inline_prevented t st =
    is_kind Update (kind t) || is_kind Call (kind t) || is_kind New (kind t) || is_kind Paren (kind t)
    || mark_of_id (pick (is_member t) (ident_of (head_t (kids t))) (ident_of (some t))) st

abbrev pub member_o : Option Tree → Bool
member_o none = false
member_o (some t) = is_member t

-- VarInfo::is_inline_prevented
abbrev pub var_inline_prevented : VarInfo → Bool
var_inline_prevented b = b.inline_prevented || (b.this_sensitive && member_o b.value)

abbrev pub is_hoisted_prevented : Option VarInfo → Bool
is_hoisted_prevented none = false
is_hoisted_prevented (some b) = b.hoisted && var_inline_prevented b

-- should_prevent_inline_because_of_scope
abbrev pub should_prevent_inline_because_of_scope : ℕ → Stack → Bool
should_prevent_inline_because_of_scope i [] = false
should_prevent_inline_because_of_scope i (s ∷ st) = s.unresolved_usages i || should_prevent_inline_because_of_scope i st || is_hoisted_prevented (find_binding i st)

-- write_prevents_inline, and the loop of read_prevents_inlining: outwards, is a function, a loop or a condition met before the binding
abbrev pub write_prevents_inline : ℕ → Stack → Bool
write_prevents_inline i [] = false
write_prevents_inline i (s ∷ st) = elim (has_in i s.bindings) [ true ↦ false | false ↦ elim (is_block s.kind) [ true ↦ write_prevents_inline i st | false ↦ true ] ]

abbrev pub free_to_read : Option VarInfo → Bool
free_to_read none = false
free_to_read (some b) = not (is_var b.kind) || b.hoisted

-- read_prevents_inlining
abbrev pub read_prevents_inlining : ℕ → Stack → Bool
read_prevents_inlining i st = not (free_to_read (find_binding i st)) && write_prevents_inline i st

abbrev pub add_unresolved : ℕ → Stack → Stack
add_unresolved i [] = []
add_unresolved i (s ∷ st) = record { kind = s.kind; inline_barriers = s.inline_barriers; bindings = s.bindings; unresolved_usages = λ (j : ℕ). eqb i j || s.unresolved_usages j; constants = s.constants } ∷ st

-- add_read, without `read_from_nested_scope`; `args`: the name is `arguments`
unfoldable pub add_read : ℕ → Bool → Stack → Stack
add_read i args st =
    let st₁ = pick (read_prevents_inlining i st) (prevent_inline i st) st in
    let st₂ = pick args (prevent_inline_of_params st₁) st₁ in
    pick (is_some (find_binding i st₂)) (change i count_read st₂) (add_unresolved i st₂)

-- scope_for: (the binding is in the scope found, that scope is the current one)
abbrev pub scope_for : Bool → ℕ → Stack → Bool × Bool
scope_for here i [] = (false, here)
scope_for here i (s ∷ []) = (has_in i s.bindings, here)
scope_for here i (s ∷ p ∷ st) =
    elim (is_some (const_in i s.constants) || has_in i s.bindings) [
      | true ↦ (has_in i s.bindings, here)
      | false ↦ scope_for false i (p ∷ st)
    ]

abbrev pub append : VarInfo → Stack → Stack
append b [] = []
append b (s ∷ st) = on_bindings (λ bs. bs ++ (b ∷ [])) s ∷ st

-- add_write
unfoldable pub add_write : ℕ → Bool → Bool → Stack → Stack
add_write i args force st =
    let st₁ = pick (write_prevents_inline i st) (prevent_inline i st) st in
    let st₂ = pick args (prevent_inline_of_params st₁) st₁ in
    let where' = scope_for true i st₂ in
    let bound = (let st₃ = change i defined st₂ in pick (not where'.1 || force) (prevent_inline i st₃) st₃) in
    let free = pick (has_constant i st₂) st₂ (append (fresh i v_var none force false none) st₂) in
    pick where'.0 bound free

-- mark_this_sensitive
abbrev pub mark_this_sensitive : Option ℕ → Stack → Stack
mark_this_sensitive none st = st
mark_this_sensitive (some i) st = change i sensitive_now st

-- store_inline_barrier, in Analysis: in every open scope
abbrev pub store_inline_barrier : Stack → Stack
store_inline_barrier st = map (λ (s : Scope). record { kind = s.kind; inline_barriers = λ (j : ℕ). eqb (length s.bindings) j || s.inline_barriers j; bindings = s.bindings; unresolved_usages = s.unresolved_usages; constants = s.constants }) st

-- has_same_this
abbrev pub has_same_this : Option VarInfo → Option Tree → Bool
has_same_this none e = true
has_same_this (some b) e = not (b.this_sensitive && member_o e)

-- the `init` of `declare`: None, Cow::Owned, Cow::Borrowed
pub data Init : Type 0 where
  no_init : Init
  recorded : Tree → Init
  seen : Tree → Init

-- a value that is only seen is recorded if it is a literal or an identifier
abbrev pub seen_init : Tree → Init
seen_init t = pick (is_cheap t) (recorded t) (seen t)

abbrev pub init_of : Init → Option Tree
init_of no_init = none
init_of (recorded t) = some t
init_of (seen t) = some t

abbrev pub prevented_o : Option Tree → Stack → Bool
prevented_o none st = false
prevented_o (some t) st = is_inline_prevented t st

-- the value that a binding has after its declaration, from the one before
abbrev pub kept : Init → Option Tree → Option Tree
kept no_init old = none
kept (recorded t) old = some t
kept (seen t) old = old

abbrev pub idx_val_o : Option ℕ → List VarInfo → Option (ℕ × VarInfo)
idx_val_o none bs = none
idx_val_o (some i) bs = idx_val 0 i bs

-- declare's barrier_exists: does the test hold of one of the n numbers from a on; of one between the two, ends included
abbrev pub any_from : (ℕ → Bool) → ℕ → ℕ → Bool
any_from p a zero = false
any_from p a (suc n) = any_from p a n || p (a + n)

abbrev pub between : ℕ → ℕ → (ℕ → Bool) → Bool
between a b p = any_from p a (suc b - a) || any_from p b (suc a - b)

-- declare: is a loop met before a function
abbrev pub in_loop : Stack → Bool
in_loop [] = false
in_loop (s ∷ st) = elim (is_fn s.kind) [ true ↦ false | false ↦ elim (is_loop s.kind) [ true ↦ true | false ↦ in_loop st ] ]

abbrev pub alias_from : Option (ℕ × VarInfo) → Option VarType
alias_from none = none
alias_from (some b) = some b.1.kind

abbrev pub param_o : Option VarType → Bool
param_o none = false
param_o (some k) = is_param k

abbrev pub place_or : ℕ → Option (ℕ × VarInfo) → ℕ
place_or n none = n
place_or n (some b) = b.0

abbrev pub value_o : Option VarInfo → Option Tree
value_o none = none
value_o (some b) = b.value

-- declare's `value_idx > idx || barrier_exists`: of the value's place, if the value is an identifier bound in the current scope
abbrev pub barred : Option (ℕ × VarInfo) → ℕ → (ℕ → Bool) → Bool
barred none idx bars = false
barred (some v) idx bars = ltb idx v.0 || between v.0 idx bars

abbrev pub prevent_inline_o : Option ℕ → Stack → Stack
prevent_inline_o none st = st
prevent_inline_o (some i) st = prevent_inline i st

-- Inlining::declare, with its is_undefined given; `again`: the binding is flagged (request 3)
unfoldable pub declare : Bool → ℕ → Init → Bool → VarType → Stack → Stack
declare again i v undefined k [] = []
declare again i v undefined k (s ∷ st) =
    let e = init_of v in
    let target = idx_val_o (ident_of e) s.bindings in
    let al = alias_from target in
    let p = again || should_prevent_inline_because_of_scope i (s ∷ st) || prevented_o e (s ∷ st) in
    let idx = place_or (length s.bindings) (idx_val 0 i s.bindings) in
    let old = find_in i s.bindings in
    let new = pick (is_some old) (change_in i (redeclare p undefined (kept v (value_o old))) s.bindings) (s.bindings ++ (fresh i k al p undefined (kept v none) ∷ [])) in
    let st₁ = on_bindings (λ bs. new) s ∷ st in
    let st₂ = pick (in_loop (s ∷ st)) (prevent_inline i st₁) st₁ in
    let works = not (is_param k) && not (param_o al) in
    pick (works && barred target idx s.inline_barriers) (prevent_inline_o (ident_of e) (prevent_inline i st₂)) st₂

-- with_child, at its end: the closed scope and its parent
abbrev pub hoist_all : (ℕ → Bool) → List VarInfo → List VarInfo → List VarInfo
hoist_all us [] bs = bs
hoist_all us (c ∷ cs) bs = hoist_all us cs (pick (is_var c.kind) (put (hoist us c) bs) bs)

abbrev pub close_into : Scope → Scope → Scope
close_into c s =
    let us : ℕ → Bool = λ j. c.unresolved_usages j || s.unresolved_usages j in
    record { kind = s.kind; inline_barriers = s.inline_barriers; bindings = pick (is_fn c.kind) s.bindings (hoist_all us c.bindings s.bindings); unresolved_usages = us; constants = s.constants }

unfoldable pub close : Stack → Stack
close [] = []
close (c ∷ []) = []
close (c ∷ s ∷ st) = close_into c s ∷ st

-- request 9: the counts of records, and of the live ones
abbrev pub counts_in : List VarInfo → ℕ
counts_in [] = 0
counts_in (b ∷ bs) = b.count + counts_in bs

abbrev pub live_counts : Stack → ℕ
live_counts [] = 0
live_counts (s ∷ st) = counts_in s.bindings + live_counts st

-- the count of the record of an identifier, 0 where there is none
abbrev pub count_in : ℕ → List VarInfo → ℕ
count_in i [] = 0
count_in i (b ∷ bs) = elim (eqb b.id i) [ true ↦ b.count | false ↦ count_in i bs ]

-- what ends where `hoist_all` goes: the count of a record that is overwritten, and of one that is not hoisted
abbrev pub ending_all : (ℕ → Bool) → List VarInfo → List VarInfo → ℕ
ending_all us [] bs = 0
ending_all us (c ∷ cs) bs = pick (is_var c.kind) (count_in c.id bs) c.count + ending_all us cs (pick (is_var c.kind) (put (hoist us c) bs) bs)

-- and where `close` goes: of a function all counts end, and the root's with it
unfoldable pub ending : Stack → ℕ
ending [] = 0
ending (c ∷ []) = counts_in c.bindings
ending (c ∷ s ∷ st) = pick (is_fn c.kind) (counts_in c.bindings) (ending_all (λ j. c.unresolved_usages j || s.unresolved_usages j) c.bindings s.bindings)

-- what row 9 counts
abbrev pub values_in : List VarInfo → ℕ
values_in [] = 0
values_in (b ∷ bs) = count_o b.value + values_in bs

abbrev pub values_of : List (ℕ × Option Tree) → ℕ
values_of [] = 0
values_of (c ∷ cs) = count_o c.1 + values_of cs

abbrev pub recorded_nodes : Stack → ℕ
recorded_nodes [] = 0
recorded_nodes (s ∷ st) = values_in s.bindings + values_of s.constants + recorded_nodes st

abbrev pub live : Stack → ℕ
live [] = 0
live (s ∷ st) = length s.bindings + length s.constants + live st
