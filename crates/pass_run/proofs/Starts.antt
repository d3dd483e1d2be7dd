-- The first state. Assumes nothing.
use mathlib.Core.Path.{◌≡◌, refl, sym, ap, ap₂, ◌∙◌}
use mathlib.Core.Bool.{true, false}
use mathlib.Core.List.{List, [], ◌∷◌}
use Prim.Native.Nat.{ℕ, zero, suc, ◌<◌}
use native.Mathlib.Omega.{arith}
use lib.ListN.{length, get_or}
use lib.Dec.{leb}
use Rattle.words.specs.Tab.{sum}
use Rattle.words.specs.Layout.{yes, Agree, tree, beyond}
use Rattle.words.specs.Moved.{Put, Zeroed}
use Rattle.words.proofs.Nodes.{tree-length, tree-same, beyond-same}
use Rattle.def_tree.specs.Tree.{Core}
use Rattle.def_pass.specs.Scope.{Stack, fn, v_var, new_scope}
use Rattle.def_pass.specs.Walk.{St, assigning, as_param, as_catch, declaring, set_nodes}
use Rattle.laws_flat.specs.PassF.{start_f, targets_l, flagged_l}
use Rattle.words_scopes.specs.State.{Good, Becomes, heads, heads_at, stack, targeted}
use Rattle.words_scopes.proofs.Index.{beside_none}
use Rattle.words_scopes.proofs.Words.{targeted-same}
use Rattle.words_targets.specs.Targets.{Script, Targeted}
use Rattle.words_targets.proofs.Targets.{beside-tree}
use Rattle.std.specs.Prelude.{Result, Ok, Err}
use Rattle.std.specs.Result.{IsOk}
use Rattle.refusal.specs.declared.Refusal.{Refusal}
use Rattle.scope_values.specs.Steps.{Limited}
use Rattle.words_scopes.specs.declared.kinds.ScopeKind.{ScopeKind}
use Rattle.words_scopes.specs.Kinds.{var_type_of, kind_of}
use Rattle.words_scopes.proofs.Vars.{var-word}
use Rattle.words_nodes.specs.Nodes.{Planted, Replants}
use Rattle.words_state.specs.declared.PatFoldingMode.TheVariants.{VarDecl}
use Rattle.words_state.specs.State.{mode_of, IsModeWord, rest, Ok as Fine}
use Rattle.words_state.proofs.Fields.{st-eq, becomes-rest, becomes-ok, count_kept, replants-rest}
use Rattle.words_balance.specs.Balance.{WordsBalance}
use Rattle.words_balance.proofs.Balance.{begun}
use Rattle.words_twice.specs.Twice.{Plain}
use Rattle.words_twice.proofs.Steps.{flagged-long}
use Rattle.pass_run.specs.Start.{Loaded, Fields, Started}

declaring-word : (n : ℕ) → mode_of n ≡ declaring → n < 4 → n ≡ 3
declaring-word zero h l = absurd (let z : assigning ≡ declaring = h in cc)
declaring-word (suc zero) h l = absurd (let z : as_param ≡ declaring = h in cc)
declaring-word (suc (suc zero)) h l = absurd (let z : as_catch ≡ declaring = h in cc)
declaring-word (suc (suc (suc n))) h l = omega arith

pub fields : {w u v y z : List ℕ} (k m : ℕ) → var_type_of k ≡ v_var → IsModeWord VarDecl m → Zeroed w u 1 3 → Put u v 5 (0 ∷ 0 ∷ 1 ∷ k ∷ m ∷ []) → Zeroed v y 10 4 → Zeroed y z 7568 256 → Fields w z
fields {w} {u} {v} {y} {z} k m e h a b c d = record {
  size = d.size ∙ c.size ∙ b.size ∙ a.size;
  nodes = d.low 0 (omega arith) ∙ c.low 0 (omega arith) ∙ b.low 0 (omega arith) ∙ a.low 0 (omega arith);
  bindings = d.low 1 (omega arith) ∙ c.low 1 (omega arith) ∙ b.low 1 (omega arith) ∙ a.here 0 (omega arith);
  scopes = d.low 2 (omega arith) ∙ c.low 2 (omega arith) ∙ b.low 2 (omega arith) ∙ a.here 1 (omega arith);
  constants = d.low 3 (omega arith) ∙ c.low 3 (omega arith) ∙ b.low 3 (omega arith) ∙ a.here 2 (omega arith);
  idents = d.low 4 (omega arith) ∙ c.low 4 (omega arith) ∙ b.low 4 (omega arith) ∙ a.high 4 (omega arith);
  changed = d.low 5 (omega arith) ∙ c.low 5 (omega arith) ∙ b.here 0 (omega arith);
  inlining = d.low 6 (omega arith) ∙ c.low 6 (omega arith) ∙ b.here 1 (omega arith);
  is_first_run = d.low 7 (omega arith) ∙ c.low 7 (omega arith) ∙ b.here 2 (omega arith);
  var_decl_kind = d.low 8 (omega arith) ∙ c.low 8 (omega arith) ∙ b.here 3 (omega arith) ∙ var-word k e;
  pat_mode = d.low 9 (omega arith) ∙ c.low 9 (omega arith) ∙ b.here 4 (omega arith) ∙ declaring-word m h.0 h.1;
  in_test = d.low 10 (omega arith) ∙ c.here 0 (omega arith);
  conds = d.low 11 (omega arith) ∙ c.here 1 (omega arith);
  ended = d.low 12 (omega arith) ∙ c.here 2 (omega arith);
  replaced = d.low 13 (omega arith) ∙ c.here 3 (omega arith);
  index = d.here;
  mid = λ j l h. d.low j h ∙ c.high j (omega arith) ∙ b.high j (omega arith) ∙ a.high j (omega arith);
  high = λ j l. d.high j (omega arith) ∙ c.high j (omega arith) ∙ b.high j (omega arith) ∙ a.high j (omega arith);
}

-- no binding, and no count
pub none_yet : {w u : List ℕ} → Fields w u → WordsBalance u
unfolding sum
none_yet f = rw (f.bindings, f.ended, f.replaced) refl

-- what holds before the flags: the tree as it was read
pub record Opened (w u : List ℕ) : Type 0 where
  pub planted : Planted u
  pub size : length u ≡ length w
  pub nodes : tree u ≡ tree w
  pub is : rest u ≡ start_f (get_or w 0 0) (targets_l (tree w))
  pub idents : get_or u 4 0 ≡ get_or w 4 0
  pub high : Agree 15504 16016 w u
  pub rest : beyond u ≡ beyond w

-- no scope is open, and the words are good
module _ {w u : List ℕ} (l : Loaded w) (f : Fields w u) where
  same-tree : tree u ≡ tree w
  same-tree = tree-same w u l.few f.nodes (λ j p h. f.mid j (omega arith) (omega arith))

  good : Good u
  unfolding heads heads_at sum
  good = record {
    long = omega (arith, l.long, f.size);
    nodes = rw f.nodes l.few;
    count = rw f.bindings (omega arith);
    depth = rw f.scopes (omega arith);
    ccount = rw f.constants (omega arith);
    vals = rw f.bindings (omega arith);
    cvals = rw f.constants (omega arith);
    live = rw (f.bindings, f.constants) (omega arith);
    recorded = rw (f.bindings, f.constants) (omega arith);
    fits = rw f.scopes f.bindings;
    cfits = rw f.scopes f.constants;
    ids = λ k h. absurd (omega (arith, f.bindings, h));
    cids = λ k h. absurd (omega (arith, f.constants, h));
    names = rw same-tree l.names;
    whole = λ k h. absurd (omega (arith, f.bindings, h));
    cwhole = λ k h. absurd (omega (arith, f.constants, h));
    beside = beside_none u f.bindings f.scopes f.index;
    cfree = λ k h. absurd (omega (arith, f.constants, h));
  }

  pub planted : Planted u
  planted = record { good = good; one = rw same-tree l.one }

  no-scope : stack u ≡ []
  unfolding stack heads heads_at
  no-scope = rw f.scopes refl

  module _ {v : List ℕ} {st : Stack} (b : Becomes u v st) (size : length v ≡ length u) where
    ok : Fine u v
    ok = becomes-ok planted size b

    field : st ≡ new_scope (fn false) ∷ [] → targeted w ≡ targets_l (tree w) → rest v ≡ start_f (get_or w 0 0) (targets_l (tree w))
    unfolding rest
    field e q = becomes-rest planted (count_kept b) b ∙ st-eq e (ap yes f.changed) (ap yes f.inlining) (ap yes f.is_first_run) (ap var_type_of f.var_decl_kind) (ap mode_of f.pat_mode) (ap yes f.in_test) f.conds f.nodes (targeted-same w u (λ j p h. f.high j (omega arith)) ∙ q) f.ended f.replaced

    scoped : st ≡ new_scope (fn false) ∷ [] → targeted w ≡ targets_l (tree w) → Opened w v
    scoped e q = record {
      planted = ok.planted;
      size = size ∙ f.size;
      nodes = b.tree ∙ same-tree;
      is = field e q;
      idents = ok.idents ∙ f.idents;
      high = λ j p h. ok.high j (omega (arith, p)) (omega arith) ∙ f.high j (omega arith);
      rest = b.rest ∙ beyond-same w u f.size (λ j p. f.high j (omega arith));
    }

  -- the root is opened: one scope passes no limit
  full : leb 32 (length (stack u)) ≡ true → ⊥
  full h = no (sym (ap (λ (st : Stack). leb 32 (length st)) no-scope) ∙ h)
    where
      no : false ≡ true → ⊥
      no q = cc

  pub opens : (v : List ℕ) (k : ScopeKind) (s : Result Unit Refusal) → Limited 8 (leb 32 (length (stack u))) u v (new_scope (kind_of k) ∷ stack u) s → IsOk s
  opens v k (Ok x) h = refl
  opens v k (Err r) h = absurd (full h.1)

  opened : (v : List ℕ) (k : ScopeKind) (s : Result Unit Refusal) → kind_of k ≡ fn false → length v ≡ length u → Limited 8 (leb 32 (length (stack u))) u v (new_scope (kind_of k) ∷ stack u) s → targeted w ≡ targets_l (tree w) → Opened w v
  opened v k (Ok x) e z h q = scoped h.0 z (rw (e, no-scope) refl) q
  opened v k (Err r) e z h q = absurd (full h.1)

-- the targets are marked first
pub as-script : {w : List ℕ} → Loaded w → Script w
as-script l = record { long = l.long; few = l.few; names = l.names }

module _ {w u : List ℕ} (l : Loaded w) (t : Targeted w u) where
  marked-tree : tree u ≡ tree w
  marked-tree = beside-tree (as-script l) t.beside

  pub marked-loaded : Loaded u
  marked-loaded = record { long = rw t.beside.size l.long; few = rw (t.beside.low 0 (omega arith)) l.few; names = rw marked-tree l.names; one = rw marked-tree l.one; plain = rw marked-tree l.plain }

  marked-is : targeted u ≡ targets_l (tree u)
  marked-is = t.is ∙ ap (λ (xs : List Core). targets_l xs) (sym marked-tree)

  from-marked : {v : List ℕ} → Opened u v → Opened w v
  from-marked s = record {
    planted = s.planted;
    size = s.size ∙ t.beside.size;
    nodes = s.nodes ∙ marked-tree;
    is = s.is ∙ ap₂ (λ (n : ℕ) (xs : List Core). start_f n (targets_l xs)) (t.beside.low 0 (omega arith)) marked-tree;
    idents = s.idents ∙ t.beside.low 4 (omega arith);
    high = λ j p h. s.high j p h ∙ t.beside.low j h;
    rest = s.rest ∙ beyond-same w u t.beside.size (λ j p. t.beside.high j (omega arith));
  }

-- the targets, the fields and the root
pub root-opened : {w u y : List ℕ} (l : Loaded w) (t : Targeted w u) (f : Fields u y) (v : List ℕ) (k : ScopeKind) (s : Result Unit Refusal) → kind_of k ≡ fn false → length v ≡ length y
    → Limited 8 (leb 32 (length (stack y))) y v (new_scope (kind_of k) ∷ stack y) s → Opened w v
root-opened l t f v k s e z h = from-marked l t (opened (marked-loaded l t) f v k s e z h (marked-is l t))

-- the flags last
module _ {w u : List ℕ} (o : Opened w u) where
  pub opened-plain : Loaded w → Plain (tree u) 0
  opened-plain l = rw o.nodes l.plain

  as_many : length (flagged_l (tree u)) ≡ get_or w 0 0
  as_many = flagged-long o.planted ∙ sym (tree-length u) ∙ ap length o.nodes ∙ tree-length w

  pub started : {v : List ℕ} → Replants u v (flagged_l (tree u)) → Started w v
  started {v} r = record {
    planted = r.planted;
    size = r.apart.size ∙ o.size;
    nodes = r.is ∙ ap (λ (xs : List Core). flagged_l xs) o.nodes;
    is = replants-rest r ∙ ap₂ {C = St} (λ (n : ℕ) (s : St). set_nodes n s) as_many o.is;
    idents = r.apart.low 4 (omega arith) (omega arith) ∙ o.idents;
    high = λ j p h. r.apart.high j (omega arith) ∙ o.high j p h;
    rest = r.rest ∙ o.rest;
  }

pub balances : {w u : List ℕ} → Started w u → WordsBalance u
balances {w} s = begun (get_or w 0 0) (targets_l (tree w)) s.planted.good s.is
