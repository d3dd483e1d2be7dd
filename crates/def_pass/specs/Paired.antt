-- Paired scripts (document 01) and what results of paired scripts have in common.
use Rattle.std.specs.Prelude.{◌≡◌, ◌⊎◌, Bool, List, [], ◌∷◌, map, ℕ, ◌<◌, ◌≤◌, T, length, get_or}
use Rattle.def_file.specs.declared.Raw.{Raw}
use Rattle.def_file.specs.Script.{Script, is_lit, has_id, same_id, is_arguments, node_at, zero_node}
use Rattle.def_file.specs.Write.{file}
use Rattle.def_pass.specs.Script.{Out, Root, Answer, no!, yes! }
use Rattle.def_pass.specs.Entry.{Entry, refused, passed}

-- agree in kind, form and child count
pub record Agree (x y : Raw) : Type 0 where
  pub kinds : x.kind ≡ y.kind
  pub forms : x.form ≡ y.form
  pub arities : x.arity ≡ y.arity

-- n is the number of a node
abbrev pub Number : Script → ℕ → Type 0
Number s n = (1 ≤ n) × (n ≤ length s.nodes)

pub record Paired (a b : Script) : Type 0 where
  pub count : length a.nodes ≡ length b.nodes
  pub shape : (n : ℕ) → Number a n → (T (is_lit (node_at a n)) × T (is_lit (node_at b n))) ⊎ Agree (node_at a n) (node_at b n)
  pub idents : (m n : ℕ) → Number a m → Number a n → T (has_id (node_at a m)) → T (has_id (node_at a n)) → same_id (node_at a m) (node_at a n) ≡ same_id (node_at b m) (node_at b n)
  pub named : (n : ℕ) → Number a n → T (has_id (node_at a n)) → is_arguments a (node_at a n) ≡ is_arguments b (node_at b n)

-- x and y stand together at some number of the two scripts
pub record Together (a b : Script) (x y : Raw) : Type 0 where
  pub place : ℕ
  pub left-id : T (has_id (node_at a place))
  pub right-id : T (has_id (node_at b place))
  pub left : T (same_id x (node_at a place))
  pub right : T (same_id y (node_at b place))

-- both literals of one origin
pub record BothLit (x y : Out) : Type 0 where
  pub one : T (is_lit x.raw)
  pub two : T (is_lit y.raw)
  pub origins : x.origin ≡ y.origin

pub record Neither (a b : Script) (x y : Out) : Type 0 where
  pub one : T (is_lit x.raw) → ⊥
  pub two : T (is_lit y.raw) → ⊥
  pub agree : Agree x.raw y.raw
  pub ids : T (has_id x.raw) → Together a b x.raw y.raw

abbrev pub AlikeNode : Script → Script → Out → Out → Type 0
AlikeNode a b x y = BothLit x y ⊎ Neither a b x y

abbrev pub no_out : Out
no_out = record { raw = zero_node; origin = 0 }

-- root bindings in pairs, with equal marks and counts
abbrev pub AlikeRoots : Script → Script → List Root → List Root → Type 0
AlikeRoots a b [] [] = Unit {0}
AlikeRoots a b [] (s ∷ ss) = ⊥
AlikeRoots a b (r ∷ rs) [] = ⊥
AlikeRoots a b (r ∷ rs) (s ∷ ss) = Together a b r.key s.key × (r.mark ≡ s.mark) × (r.count ≡ s.count) × AlikeRoots a b rs ss

-- two results
pub record AlikeResults (a b : Script) (k l : ℕ) (c d : Bool) (xs ys : List Out) (rs ss : List Root) : Type 0 where
  pub runs : k ≡ l
  pub marks : c ≡ d
  pub count : length xs ≡ length ys
  pub each : (n : ℕ) → n < length xs → AlikeNode a b (get_or xs n no_out) (get_or ys n no_out)
  pub roots : AlikeRoots a b rs ss

abbrev pub Alike : Script → Script → Answer → Answer → Type 0
Alike a b (no! n) (no! m) = n ≡ m
Alike a b (no! n) (yes! l d ys ss) = ⊥
Alike a b (yes! k c xs rs) (no! m) = ⊥
Alike a b (yes! k c xs rs) (yes! l d ys ss) = AlikeResults a b k l c d xs ys rs ss

-- a literal of a result: its origin is 0 or an input node's number, and it has that node's kind, form, text and bits (of origin 0: the number 0)
pub record KeptLit (s : Script) (x : Out) : Type 0 where
  pub origin : x.origin ≤ length s.nodes
  pub raw : x.raw ≡ node_at s x.origin

abbrev pub KeptAll : Script → List Out → Type 0
KeptAll s [] = Unit {0}
KeptAll s (x ∷ xs) = (T (is_lit x.raw) → KeptLit s x) × KeptAll s xs

abbrev pub Kept : Script → Answer → Type 0
Kept s (no! n) = Unit {0}
Kept s (yes! k c xs rs) = KeptAll s xs

-- the result file of a script, as Entry writes it
abbrev pub file_of : Script → List Out → List ℕ
file_of s xs = file (record { nodes = map (λ (x : Out). x.raw) xs; texts = s.texts })

-- two written results: the files of two lists of nodes that are alike, whose literals are the input's
pub record AlikePassed (a b : Script) (n m k l : ℕ) (c d : Bool) (out out' : List ℕ) (rs ss : List Root) : Type 0 where
  pub one : List Out
  pub two : List Out
  pub one-file : out ≡ file_of a one
  pub two-file : out' ≡ file_of b two
  pub one-length : n ≡ length out
  pub two-length : m ≡ length out'
  pub results : AlikeResults a b k l c d one two rs ss
  pub one_kept : KeptAll a one
  pub two-kept : KeptAll b two

-- two answers of the entry: refusals are the same, but that one result may fit its buffer where the other, with its own texts, does not
abbrev pub AlikeEntry : Script → Script → Entry → Entry → Type 0
AlikeEntry a b (refused n) (refused m) = n ≡ m
AlikeEntry a b (refused n) (passed m l d out' ss) = n ≡ 10
AlikeEntry a b (passed n k c out rs) (refused m) = m ≡ 10
AlikeEntry a b (passed n k c out rs) (passed m l d out' ss) = AlikePassed a b n m k l c d out out' rs ss
