-- Every number in a core, and in a result, names an input node of the right sort. Assumes nothing.
use mathlib.Core.Path.{◌≡◌, refl, sym, ◌∙◌, subst}
use mathlib.Core.Bool.{Bool, true, false, ◌&&◌, ◌||◌}
use mathlib.Core.Option.{Option, none, some}
use mathlib.Core.List.{List, [], ◌∷◌}
use Prim.Native.Nat.{ℕ, zero, suc, ◌+◌, ◌<◌, ◌≤◌, suc-le-suc, zero-le}
use native.Mathlib.Nat.{add-zero, add-suc, suc-add}
use native.Mathlib.Omega.{arith}
use lib.Dec.{T, eqb, leb}
use lib.ListN.{length, get_or}
use Rattle.def_tree.specs.Tree.{Core, plant, take_f, drop_f, flat, flats}
use Rattle.def_tree.specs.Base.{pick, to_nat}
use Rattle.def_pass.specs.Tree.{Tree, Forest, node, nil, cons, kids, head_t}
use Rattle.def_pass.specs.Twice.{unflagged, twice}
use Rattle.def_pass.specs.Walk.{Outcome, core_pass}
use Rattle.def_file.specs.declared.Raw.{Raw}
use Rattle.def_file.specs.Script.{Script, is_lit, has_id, is_arguments, node_at, zero_node, idents, place_of}
use Rattle.def_file.specs.Core.{core_node, core_from, core_nodes}
use Rattle.def_pass.specs.Script.{core_tree, pass_tree}
use Rattle.def_tree.proofs.Tests.{is_T}
use Rattle.laws_pass.proofs.Idents.{ident-lt}
use Rattle.laws_pass.proofs.All.{All}
use Rattle.laws_pass.proofs.Keep as Keep

abbrev pub lit_kind : ℕ → Bool
lit_kind k = leb 22 k && leb k 25

abbrev pub id_kind : ℕ → Bool
id_kind k = eqb k 20 || eqb k 21

-- the number of a literal is 0 or a literal's, and the number of an identifier is one of those that the script has
pub record Named (s : Script) (k f a : ℕ) : Type 0 where
  pub lit : T (lit_kind k) → T (is_lit (node_at s a))
  pub low : T (lit_kind k) → a ≤ length s.nodes
  pub ident : T (id_kind k) → a < length (idents s)

pub to-ident : (s : Script) (f a : ℕ) → Named s 20 f a → Named s 21 (unflagged f) a
to-ident s f a h = record { lit = λ t. absurd t; low = λ t. absurd t; ident = λ t. h.ident tt }

pub void-named : (s : Script) → Named s 30 0 0
void-named s = record { lit = λ t. absurd t; low = λ t. absurd t; ident = λ t. absurd t }

pub zero-named : (s : Script) → Named s 22 0 0
zero-named s = record { lit = λ t. tt; low = λ t. zero-le; ident = λ t. absurd t }

abbrev pub NamedT : Script → Tree → Type 0
NamedT s t = Keep.OkT (Named s) (to-ident s) (void-named s) (zero-named s) t

abbrev pub NamedF : Script → Forest → Type 0
NamedF s ts = Keep.OkF (Named s) (to-ident s) (void-named s) (zero-named s) ts

abbrev pub NamedC : Script → Core → Type 0
NamedC s c = Named s c.kind c.form c.num

abbrev pub NamedOut : Script → Outcome → Type 0
NamedOut s o = Keep.OkOut (Named s) (to-ident s) (void-named s) (zero-named s) o

-- from the nodes of a core to its trees, and back
take-named : (s : Script) (n : ℕ) (ts : Forest) → NamedF s ts → NamedF s (take_f n ts)
take-named s zero ts h = tt
take-named s (suc n) nil h = tt
take-named s (suc n) (cons t ts) h = (h.0, take-named s n ts h.1)

drop_named : (s : Script) (n : ℕ) (ts : Forest) → NamedF s ts → NamedF s (drop_f n ts)
drop_named s zero ts h = h
drop_named s (suc n) nil h = tt
drop_named s (suc n) (cons t ts) h = drop_named s n ts h.1

plant-named : (s : Script) (cs : List Core) → All (NamedC s) cs → NamedF s (plant cs)
plant-named s [] h = tt
plant-named s (c ∷ cs) h = ((h.0, take-named s c.arity (plant cs) (plant-named s cs h.1)), drop_named s c.arity (plant cs) (plant-named s cs h.1))

mutual
  pub flat-named : (s : Script) (t : Tree) (rest : List Core) → NamedT s t → All (NamedC s) rest → All (NamedC s) (flat t rest)
  flat-named s (node k f a ts) rest h r = (h.0, flats-named s ts rest h.1 r)

  pub flats-named : (s : Script) (ts : Forest) (rest : List Core) → NamedF s ts → All (NamedC s) rest → All (NamedC s) (flats ts rest)
  flats-named s nil rest h r = r
  flats-named s (cons t ts) rest h r = flat-named s t (flats ts rest) h.0 (flats-named s ts rest h.1 r)

one-add : (i : ℕ) → 1 + i ≡ suc i
one-add i = omega arith

-- a core node of the input
core-named : (s : Script) (i : ℕ) → i < length s.nodes → NamedC s (core_node s (suc i) (node_at s (suc i)))
unfolding core_node
core-named s i l = go (is_lit x) refl (has_id x) refl
  where
    x : Raw
    x = node_at s (suc i)

    go : (p : Bool) → is_lit x ≡ p → (q : Bool) → has_id x ≡ q
        → NamedC s (pick p (record { kind = 22; form = 0; arity = 0; num = suc i }) (pick q (record { kind = x.kind; form = to_nat (is_arguments s x); arity = x.arity; num = place_of x (idents s) }) (record { kind = x.kind; form = x.form; arity = x.arity; num = suc i })))
    go true e q f = record { lit = λ t. is_T (is_lit x) e; low = λ t. l; ident = λ t. absurd t }
    go false e true f = record { lit = λ t. absurd (subst T e t); low = λ t. absurd (subst T e t); ident = λ t. ident-lt s i l (is_T (has_id x) f) }
    go false e false f = record { lit = λ t. absurd (subst T e t); low = λ t. absurd (subst T e t); ident = λ t. absurd (subst T f t) }

all-core : (s : Script) (n : ℕ) (xs : List Raw) → ((i : ℕ) → i < length xs → NamedC s (core_node s (n + i) (get_or xs i zero_node))) → All (NamedC s) (core_from s n xs)
unfolding core_node
all-core s n [] h = tt
all-core s n (x ∷ xs) h = (
  subst (λ (m : ℕ). NamedC s (core_node s m x)) (add-zero n) (h 0 (suc-le-suc zero-le)),
  all-core s (suc n) xs (λ i l. subst (λ (m : ℕ). NamedC s (core_node s m (get_or xs i zero_node))) (add-suc n i ∙ sym (suc-add n i)) (h (suc i) (suc-le-suc l))),
)

abbrev NamedO : Script → Option Tree → Type 0
NamedO s none = Unit {0}
NamedO s (some t) = NamedT s t

tree-named : (s : Script) → NamedO s (core_tree s)
unfolding core_nodes
tree-named s = go (plant (core_nodes s)) (plant-named s (core_nodes s) (all-core s 1 s.nodes (λ i l. subst (λ (m : ℕ). NamedC s (core_node s m (get_or s.nodes i zero_node))) (sym (one-add i)) (core-named s i l))))
  where
    go : (ts : Forest) → NamedF s ts → NamedO s (head_t ts)
    go nil h = tt
    go (cons t ts) h = h.0

-- the whole pass
pub out-named : (s : Script) (n : ℕ) → NamedOut s (pass_tree n (core_tree s))
unfolding core_pass
out-named s n = go (core_tree s) (tree-named s)
  where
    go : (o : Option Tree) → NamedO s o → NamedOut s (pass_tree n o)
    go none h = tt
    go (some t) h = Keep.pass-ok (Named s) (to-ident s) (void-named s) (zero-named s) n t (Keep.flag_ok (Named s) (to-ident s) (void-named s) (zero-named s) (λ f g a k. record { lit = k.lit; low = k.low; ident = k.ident }) (twice (kids t)) t h)
