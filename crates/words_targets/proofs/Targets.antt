-- What a node of the list targets, and the set of all of them. Assumes nothing.
use mathlib.Core.Path.{◌≡◌, refl, sym, ap, ap₂, ◌∙◌, fun_ext}
use mathlib.Core.List.{List, [], ◌∷◌}
use mathlib.Core.Bool.{Bool, true, false, ◌&&◌, ◌||◌}
use mathlib.Core.Logic.{◌⊎◌, inl, inr, ⊎_elim}
use Prim.Native.Nat.{ℕ, zero, suc, ◌+◌, ◌-◌, ◌*◌, ◌≤◌, ◌<◌}
use native.Mathlib.Omega.{arith}
use native.Mathlib.Numerals.{add-one}
use borrow.Author.Tests.{eqb-true, eq-eqb, ne_eqb}
use lib.Dec.{eqb}
use lib.ListN.{get_or, drop, drop_of_length-le}
use lib.Seq.{drop-cons}
use Rattle.def_tree.specs.Base.{member}
use Rattle.def_tree.specs.Tree.{Core, no_core}
use Rattle.def_file.specs.Named.{Coded}
use Rattle.def_file.specs.declared.kind.Kind.{Kind}
use Rattle.def_file.specs.declared.kind.Kind.TheVariants.{VarDecl, VarDeclarator}
use Rattle.def_pass.specs.Tree.{in_pattern}
use Rattle.def_pass.specs.Targets.{aims}
use Rattle.laws_flat.specs.PassF.{some!, bounds_l, next_is, targets_l}
use Rattle.words.specs.Flags.{flag_at, Flagged}
use Rattle.words.specs.Tab.{get_d-tab, get_d-tab-out, below_or_not, same_or_not}
use Rattle.words.specs.Layout.{yes, node_of, tree}
use Rattle.words.specs.Moved.{Zeroed}
use Rattle.words.proofs.Flags.{flag-none}
use Rattle.words.proofs.Nodes.{tree-length, tree-at, tree-same}
use Rattle.words_scopes.specs.State.{Named, Names, targeted}
use Rattle.std.proofs.Common.{Some, None}
use Rattle.words_scopes.proofs.Split.{never}
use Rattle.words_targets.specs.Targets.{Script, Beside, aimed, Aimed, hits, Joined, Targeted}

-- what has its target in its first child, by the kind and by its number
pub first-number : {k : Kind} {n : ℕ} → (k ≡ VarDecl) ⊎ (k ≡ VarDeclarator) → Coded k n → (n ≡ 5) ⊎ (n ≡ 6)
first-number (inl a) h = inl (rw a at h)
first-number (inr b) h = inr (rw b at h)

or-none : (x : Bool) → (x || false) ≡ x
or-none true = refl
or-none false = refl

-- what begins with a node targets, by its kind
module _ (i : ℕ) (c : Core) (cs : List Core) where
  abbrev by : Bool → Bool
  by b = elim b [ true ↦ some! c.arity && next_is i cs | false ↦ aimed i (c ∷ cs) ]

  next-other : (c.kind ≡ 5 → ⊥) → (c.kind ≡ 6 → ⊥) → next_is i (c ∷ cs) ≡ aimed i (c ∷ cs)
  next-other five six = let none : (eqb c.kind 5 || eqb c.kind 6) ≡ false = rw (ne_eqb c.kind 5 five, ne_eqb c.kind 6 six) refl in ap by none

  pub next-first : (c.kind ≡ 5) ⊎ (c.kind ≡ 6) → next_is i (c ∷ cs) ≡ (some! c.arity && next_is i cs)
  next-first o = ⊎_elim (λ (e : c.kind ≡ 5). rw e refl) (λ (e : c.kind ≡ 6). rw e refl) o

member-first : (i x : ℕ) (is : List ℕ) → member i (x ∷ is) ≡ (eqb x i || member i is)
member-first i x is = ap (λ (b : Bool). elim b as (λ y. Bool) [ true ↦ true | false ↦ member i is ]) flip ∙ go (eqb x i)
  where
    flip : eqb i x ≡ eqb x i
    flip = ⊎_elim (λ (e : i ≡ x). eq-eqb i x e ∙ sym (eq-eqb x i (sym e))) (λ (e : i ≡ x → ⊥). ne_eqb i x e ∙ sym (ne_eqb x i (λ q. e (sym q)))) (same_or_not i x)

    go : (b : Bool) → elim b as (λ y. Bool) [ true ↦ true | false ↦ member i is ] ≡ (b || member i is)
    go true = refl
    go false = refl

-- names as a loop meets them: a node is passed over, is part of a pattern, or binds at most itself
bounds-none : (q : ℕ) (cs : List Core) → bounds_l 0 q cs ≡ []
bounds-none q [] = refl
bounds-none zero (c ∷ cs) = refl
bounds-none (suc q) (c ∷ cs) = bounds-none (c.arity + q) cs

module _ (c : Core) (cs : List Core) where
  pub bounds-past : (n q : ℕ) → 0 < q → bounds_l n q (c ∷ cs) ≡ bounds_l n (q - 1 + c.arity) cs
  bounds-past n zero z = absurd (omega arith)
  bounds-past n (suc q) z = let e : c.arity + q ≡ suc q - 1 + c.arity = omega arith in ap (λ (k : ℕ). bounds_l n k cs) e

  abbrev meet : ℕ → Bool → Bool → List ℕ
  meet n b p = elim b [ true ↦ c.num ∷ bounds_l n c.arity cs | false ↦ elim p [ true ↦ bounds_l (c.arity + n) zero cs | false ↦ bounds_l n c.arity cs ] ]

  met : (n : ℕ) → 0 < n → bounds_l n 0 (c ∷ cs) ≡ meet (n - 1) (eqb c.kind 20) (in_pattern c.kind)
  met zero z = absurd (omega arith)
  met (suc n) z = let e : n ≡ suc n - 1 = omega arith in ap (λ (k : ℕ). meet k (eqb c.kind 20) (in_pattern c.kind)) e

  pub bounds-in : (n : ℕ) → 0 < n → in_pattern c.kind ≡ true → bounds_l n 0 (c ∷ cs) ≡ bounds_l (n - 1 + c.arity) 0 cs
  bounds-in n z e = met n z ∙ ap₂ {C = List ℕ} (λ (b p : Bool). meet (n - 1) b p) (ne_eqb c.kind 20 (λ q. never (sym (ap in_pattern q) ∙ e))) e ∙ let m : c.arity + (n - 1) ≡ n - 1 + c.arity = omega arith in ap (λ (k : ℕ). bounds_l k 0 cs) m

  bounds-one : (n : ℕ) → 0 < n → in_pattern c.kind ≡ false → (i : ℕ) → member i (bounds_l n 0 (c ∷ cs)) ≡ ((eqb c.kind 20 && eqb c.num i) || member i (bounds_l (n - 1) c.arity cs))
  bounds-one n z e i = ap (member i) (met n z ∙ ap (meet (n - 1) (eqb c.kind 20)) e) ∙ go (eqb c.kind 20)
    where
      go : (b : Bool) → member i (meet (n - 1) b false) ≡ ((b && eqb c.num i) || member i (bounds_l (n - 1) c.arity cs))
      go true = member-first i c.num (bounds_l (n - 1) c.arity cs)
      go false = refl

pub some-none : (n : ℕ) → n ≡ 0 → some! n ≡ false
some-none n e = rw e refl

some-yes : (n : ℕ) → (n ≡ 0 → ⊥) → some! n ≡ true
some-yes zero h = absurd (h refl)
some-yes (suc n) h = refl

-- the nodes from k on
node-next : (w : List ℕ) (k : ℕ) → k < get_or w 0 0 → drop k (tree w) ≡ node_of w k ∷ drop (k + 1) (tree w)
node-next w k h =
    drop-cons (tree w) k no_core (omega (arith, tree-length w))
    ∙ rw (tree-at w k h, add-one k) refl

pub no-next : (w : List ℕ) (k : ℕ) → get_or w 0 0 ≤ k → drop k (tree w) ≡ []
no-next w k h = drop_of_length-le (tree w) {i = k} (omega (arith, tree-length w))

-- what begins at j targets what begins at node k, a first child of what came before
module _ (w : List ℕ) (j k : ℕ) (q : (i : ℕ) → next_is i (drop j (tree w)) ≡ next_is i (drop k (tree w))) (h : k < get_or w 0 0) where
  abbrev top : Core
  top = node_of w k

  abbrev tops : List Core
  tops = drop (k + 1) (tree w)

  here : (i : ℕ) → next_is i (drop j (tree w)) ≡ next_is i (top ∷ tops)
  here i = q i ∙ ap (λ (xs : List Core). next_is i xs) (node-next w k h)

  pub aimed-here : (top.kind ≡ 5 → ⊥) → (top.kind ≡ 6 → ⊥) → Aimed w (Some k) (λ i. next_is i (drop j (tree w)))
  aimed-here a b = (h, λ i. here i ∙ next-other i top tops a b ∙ ap (λ (xs : List Core). aimed i xs) (sym (node-next w k h)))

  module _ {m : ℕ} (e : m ≡ top.arity) (o : (top.kind ≡ 5) ⊎ (top.kind ≡ 6)) where
    first : (i : ℕ) → next_is i (drop j (tree w)) ≡ (some! top.arity && next_is i tops)
    first i = here i ∙ next-first i top tops o

    pub aimed-bare : m ≡ 0 → Aimed w None (λ i. next_is i (drop j (tree w)))
    aimed-bare z i = first i ∙ ap (λ (b : Bool). b && next_is i tops) (some-none top.arity (sym e ∙ z))

    pub aimed-first : (m ≡ 0 → ⊥) → (i : ℕ) → next_is i (drop j (tree w)) ≡ next_is i tops
    aimed-first z i = first i ∙ ap (λ (b : Bool). b && next_is i tops) (some-yes top.arity (λ y. z (e ∙ y)))

-- the words beside the set
pub beside-self : (w : List ℕ) → Beside w w
beside-self w = record { size = refl; low = λ j l. refl; high = λ j l. refl }

pub beside-then : {u v w : List ℕ} → Beside u v → Beside v w → Beside u w
beside-then a b = record { size = b.size ∙ a.size; low = λ j l. b.low j l ∙ a.low j l; high = λ j l. b.high j l ∙ a.high j l }

pub beside-tree : {w u : List ℕ} → Script w → Beside w u → tree u ≡ tree w
beside-tree {w} {u} s b = tree-same w u s.few (b.low 0 (omega arith)) (λ j l h. b.low j (omega arith))

pub beside-script : {w u : List ℕ} → Script w → Beside w u → Script u
beside-script s b = record { long = rw b.size s.long; few = rw (b.low 0 (omega arith)) s.few; names = rw (beside-tree s b) s.names }

beside-node : {w u : List ℕ} → Beside w u → (k : ℕ) → k < 1024 → node_of u k ≡ node_of w k
beside-node b k h = rw (b.low (16 + k * 2) (omega arith), b.low (16 + k * 2 + 1) (omega arith)) refl

turn : (p q r : Bool) → (p || (q || r)) ≡ ((q || p) || r)
turn true true r = refl
turn true false r = refl
turn false true r = refl
turn false false r = refl

-- identifiers put into the set: none, one, those of another test that says the same
joined-none : (w : List ℕ) {b : ℕ → Bool} → ((i : ℕ) → b i ≡ false) → Joined w w b
joined-none w {b} h = record { beside = beside-self w; here = λ i l. sym (ap (λ (p : Bool). p || yes (flag_at w 16016 i)) (h i)) }

pub joined-one : {w u : List ℕ} {x : ℕ} {b : ℕ → Bool} → x < 256 → ((i : ℕ) → eqb x i ≡ b i) → Flagged w u 16016 x → Joined w u b
joined-one {w} {u} {x} h e f = record {
  beside = record { size = f.size; low = λ j l. f.other j (λ e. omega arith); high = λ j l. f.other j (λ e. omega arith) };
  here = λ i l. f.here i l ∙ ap (λ (p : Bool). p || yes (flag_at w 16016 i)) (e i);
}

joined_as : {w u : List ℕ} {b c : ℕ → Bool} → ((i : ℕ) → b i ≡ c i) → Joined w u b → Joined w u c
joined_as {w} {u} h j = record { beside = j.beside; here = λ i l. j.here i l ∙ ap (λ (p : Bool). p || yes (flag_at w 16016 i)) (h i) }

-- the identifier of a name
pub number-low : {w : List ℕ} → Script w → (k : ℕ) → k < get_or w 0 0 → ((node_of w k).kind ≡ 20) ⊎ ((node_of w k).kind ≡ 21) → (node_of w k).num < 256
number-low {w} s k h o = let n : Named (node_of w k) = rw (tree-at w k h) at (s.names k) in n o

-- the identifier of a node, if it is a binding
module _ {w : List ℕ} (c : Core) where
  pub own-name : {u : List ℕ} → c.kind ≡ 20 → Joined w u (eqb c.num) → Joined w u (λ i. eqb c.kind 20 && eqb c.num i)
  own-name e j = joined_as (λ i. sym (ap (λ (b : Bool). b && eqb c.num i) (eq-eqb c.kind 20 e))) j

  pub no_name : (c.kind ≡ 20 → ⊥) → Joined w w (λ i. eqb c.kind 20 && eqb c.num i)
  no_name h = joined-none w (λ i. ap (λ (b : Bool). b && eqb c.num i) (ne_eqb c.kind 20 h))

-- a loop over the names that the tree at node j binds has come to node k, and the words are u: what it has put there, with what is still to come, is all
pub record Binding (w u : List ℕ) (j k more past : ℕ) : Type 0 where
  pub beside : Beside w u
  pub few : more + past ≤ 1 + k * 65536
  pub sum : (i : ℕ) → i < 256 → (member i (bounds_l more past (drop k (tree w))) || yes (flag_at u 16016 i)) ≡ (member i (bounds_l 1 0 (drop j (tree w))) || yes (flag_at w 16016 i))

pub binding-start : (w : List ℕ) (j : ℕ) → Binding w w j j 1 0
binding-start w j = record { beside = beside-self w; few = omega arith; sum = λ i l. refl }

module _ {w u : List ℕ} {j k more past : ℕ} (d : Binding w u j k more past) where
  binding-end : bounds_l more past (drop k (tree w)) ≡ [] → Joined w u (λ i. member i (bounds_l 1 0 (drop j (tree w))))
  binding-end e = record { beside = d.beside; here = λ i l. ap (λ (is : List ℕ). member i is || yes (flag_at u 16016 i)) (sym e) ∙ d.sum i l }

  pub binding-all : more ≡ 0 → Joined w u (λ i. member i (bounds_l 1 0 (drop j (tree w))))
  binding-all z = binding-end (ap (λ (n : ℕ). bounds_l n past (drop k (tree w))) z ∙ bounds-none past (drop k (tree w)))

  pub binding-last : get_or w 0 0 ≤ k → Joined w u (λ i. member i (bounds_l 1 0 (drop j (tree w))))
  binding-last h = binding-end (ap (bounds_l more past) (no-next w k h))

  module _ (s : Script w) (h : k < get_or w 0 0) (z : 0 < more) {c : ℕ} (ec : c ≡ (node_of u k).arity) where
    abbrev cs : List Core
    cs = drop (k + 1) (tree w)

    node-is : node_of u k ≡ node_of w k
    node-is = beside-node d.beside k (omega (arith, s.few))

    arity-is : c ≡ (node_of w k).arity
    arity-is = ec ∙ ap (λ (x : Core). x.arity) node-is

    kind-is : (node_of u k).kind ≡ (node_of w k).kind
    kind-is = ap (λ (x : Core). x.kind) node-is

    arity-low : c < 65536
    arity-low = omega (arith, ec)

    here-is : bounds_l more past (drop k (tree w)) ≡ bounds_l more past (node_of w k ∷ cs)
    here-is = ap (bounds_l more past) (node-next w k h)

    -- a node that binds nothing by itself
    go_on : {m q : ℕ} → m + q ≤ more + past + c → bounds_l more past (node_of w k ∷ cs) ≡ bounds_l m q cs → Binding w u j (k + 1) m q
    go_on l e = record { beside = d.beside; few = omega (arith, d.few, arity-low); sum = λ i b. ap (λ (is : List ℕ). member i is || yes (flag_at u 16016 i)) (sym (here-is ∙ e)) ∙ d.sum i b }

    pub binding-past : 0 < past → Binding w u j (k + 1) more (past - 1 + c)
    binding-past p = go_on (omega arith) (bounds-past (node_of w k) cs more past p ∙ ap (λ (a : ℕ). bounds_l more (past - 1 + a) cs) (sym arity-is))

    module _ (p : past ≡ 0) where
      none-past : bounds_l more past (node_of w k ∷ cs) ≡ bounds_l more 0 (node_of w k ∷ cs)
      none-past = ap (λ (q : ℕ). bounds_l more q (node_of w k ∷ cs)) p

      pub binding-in : in_pattern (node_of u k).kind ≡ true → Binding w u j (k + 1) (more - 1 + c) past
      binding-in e = go_on (omega arith) (none-past ∙ bounds-in (node_of w k) cs more z (ap in_pattern (sym kind-is) ∙ e) ∙ ap₂ {C = List ℕ} (λ (a q : ℕ). bounds_l (more - 1 + a) q cs) (sym arity-is) (sym p))

      -- a node that binds at most itself, put into the set if it does
      pub binding-one : {v : List ℕ} → in_pattern (node_of u k).kind ≡ false → Joined u v (λ i. eqb (node_of u k).kind 20 && eqb (node_of u k).num i) → Binding w v j (k + 1) (more - 1) c
      binding-one {v} e b = record { beside = beside-then d.beside b.beside; few = omega (arith, d.few, arity-low); sum = λ i l. ap (λ (q : Bool). still i || q) (b.here i l) ∙ turn (still i) (self i) (yes (flag_at u 16016 i)) ∙ ap (λ (q : Bool). q || yes (flag_at u 16016 i)) (sym (all i)) ∙ d.sum i l }
        where
          still : ℕ → Bool
          still i = member i (bounds_l (more - 1) c cs)

          self : ℕ → Bool
          self i = eqb (node_of u k).kind 20 && eqb (node_of u k).num i

          all : (i : ℕ) → member i (bounds_l more past (drop k (tree w))) ≡ (self i || still i)
          all i =
              ap (member i) (here-is ∙ none-past) ∙ bounds-one (node_of w k) cs more z (ap in_pattern (sym kind-is) ∙ e) i
              ∙ ap₂ {C = Bool} (λ (x : Core) (a : ℕ). (eqb x.kind 20 && eqb x.num i) || member i (bounds_l (more - 1) a cs)) (sym node-is) (sym arity-is)

-- an identifier targets itself alone
ident-aimed : (i : ℕ) (c : Core) (cs : List Core) → c.kind ≡ 21 → aimed i (c ∷ cs) ≡ eqb c.num i
ident-aimed i c cs e = rw (e, bounds-none c.arity cs) (or-none (eqb c.num i))

other-aimed : (i : ℕ) (c : Core) (cs : List Core) → (c.kind ≡ 21 → ⊥) → aimed i (c ∷ cs) ≡ member i (bounds_l 1 0 (c ∷ cs))
other-aimed i c cs e = ap (λ (b : Bool). (b && eqb c.num i) || member i (bounds_l 1 0 (c ∷ cs))) (ne_eqb c.kind 21 e)

-- a node's hits
module _ (w : List ℕ) (k : ℕ) where
  pub none-aimed : aims (node_of w k).kind ≡ false → Joined w w (hits w k)
  none-aimed e = joined-none w (λ i. ap (λ (b : Bool). b && (some! (node_of w k).arity && next_is i (drop (suc k) (tree w)))) e)

  pub none-there : (node_of w k).arity ≡ 0 → Joined w w (hits w k)
  none-there e = joined-none w (λ i. ap (λ (b : Bool). aims (node_of w k).kind && (b && next_is i (drop (suc k) (tree w)))) (some-none (node_of w k).arity e) ∙ no (aims (node_of w k).kind))
    where
      no : (b : Bool) → (b && false) ≡ false
      no true = refl
      no false = refl

  module _ (a : aims (node_of w k).kind ≡ true) (m : (node_of w k).arity ≡ 0 → ⊥) where
    hits-is : (i : ℕ) → hits w k i ≡ next_is i (drop (k + 1) (tree w))
    hits-is i = rw (a, some-yes (node_of w k).arity m) (ap (λ (j : ℕ). next_is i (drop j (tree w))) (sym (add-one k)))

    pub none-hit : Aimed w None (λ i. next_is i (drop (k + 1) (tree w))) → Joined w w (hits w k)
    none-hit n = joined-none w (λ i. hits-is i ∙ n i)

    module _ {j : ℕ} (n : Aimed w (Some j) (λ i. next_is i (drop (k + 1) (tree w)))) where
      hits-here : (i : ℕ) → hits w k i ≡ aimed i (node_of w j ∷ drop (j + 1) (tree w))
      hits-here i = hits-is i ∙ n.1 i ∙ ap (λ (xs : List Core). aimed i xs) (node-next w j n.0)

      pub ident-hit : {u : List ℕ} → (node_of w j).kind ≡ 21 → Joined w u (eqb (node_of w j).num) → Joined w u (hits w k)
      ident-hit e = joined_as (λ i. sym (hits-here i ∙ ident-aimed i (node_of w j) (drop (j + 1) (tree w)) e))

      pub bound-hit : {u : List ℕ} → ((node_of w j).kind ≡ 21 → ⊥) → Joined w u (λ i. member i (bounds_l 1 0 (drop j (tree w)))) → Joined w u (hits w k)
      bound-hit e = joined_as (λ i. ap (λ (xs : List Core). member i (bounds_l 1 0 xs)) (node-next w j n.0) ∙ sym (hits-here i ∙ other-aimed i (node_of w j) (drop (j + 1) (tree w)) e))

-- the set so far, with what the rest of the list targets, is all
abbrev pub Sum : List ℕ → List ℕ → ℕ → Type 0
Sum w u k = (i : ℕ) → i < 256 → (yes (flag_at u 16016 i) || targets_l (drop k (tree w)) i) ≡ targets_l (tree w) i

pub sum-start : {w u : List ℕ} → Zeroed w u 16016 8 → Sum u u 0
sum-start {w} {u} z i l = rw (flag-none u 16016 i l (λ j m. z.here j m)) refl

pub zeroed-beside : {w u : List ℕ} → Zeroed w u 16016 8 → Beside w u
zeroed-beside z = record { size = z.size; low = z.low; high = z.high }

pub sum_step : {w u v : List ℕ} (k : ℕ) → Script w → Beside w u → k < get_or w 0 0 → Sum w u k → Joined u v (hits u k) → Sum w v (k + 1)
sum_step {w} {u} {v} k s b h q c i l =
    let e : hits u k i ≡ hits w k i = ap₂ (λ (n : Core) (xs : List Core). aims n.kind && (some! n.arity && next_is i (drop (suc k) xs))) (beside-node b k (omega (arith, s.few))) (beside-tree s b) in
    ap (λ (x : Bool). x || targets_l (drop (k + 1) (tree w)) i) (c.here i l ∙ ap (λ (x : Bool). x || yes (flag_at u 16016 i)) e)
    ∙ turn (hits w k i) (yes (flag_at u 16016 i)) (targets_l (drop (k + 1) (tree w)) i)
    ∙ ap (λ (x : Bool). yes (flag_at u 16016 i) || x) (sym next)
    ∙ q i l
  where
    turn : (a b c : Bool) → ((a || b) || c) ≡ (b || (a || c))
    turn true true c = refl
    turn true false c = refl
    turn false b c = refl

    next : targets_l (drop k (tree w)) i ≡ (hits w k i || targets_l (drop (k + 1) (tree w)) i)
    next = ap (λ (xs : List Core). targets_l xs i) (node-next w k h) ∙ ap (λ (j : ℕ). (aims (node_of w k).kind && (some! (node_of w k).arity && next_is i (drop j (tree w)))) || targets_l (drop (k + 1) (tree w)) i) (add-one k)

-- identifiers are numbered below 256
far : (c : Core) → Named c → (i : ℕ) → 256 ≤ i → (c.kind ≡ 20) ⊎ (c.kind ≡ 21) → eqb c.num i ≡ false
far c n i h k = ne_eqb c.num i (λ e. omega (arith, n k, e))

bounds-out : (n q : ℕ) (xs : List Core) → Names xs → (i : ℕ) → 256 ≤ i → member i (bounds_l n q xs) ≡ false
bounds-out n q [] m i h = refl
bounds-out n (suc q) (c ∷ cs) m i h = bounds-out n (c.arity + q) cs (λ j. m (suc j)) i h
bounds-out zero zero (c ∷ cs) m i h = refl
bounds-out (suc n) zero (c ∷ cs) m i h = go (eqb c.kind 20) refl (in_pattern c.kind) (bounds-out n c.arity cs (λ j. m (suc j)) i h) (bounds-out (c.arity + n) zero cs (λ j. m (suc j)) i h)
  where
    go : (b : Bool) → eqb c.kind 20 ≡ b → (p : Bool) → member i (bounds_l n c.arity cs) ≡ false → member i (bounds_l (c.arity + n) zero cs) ≡ false → member i (meet c cs n b p) ≡ false
    go true e p x y = member-first i c.num (bounds_l n c.arity cs) ∙ rw (far c (m 0) i h (inl (eqb-true c.kind 20 e)), x) refl
    go false e true x y = y
    go false e false x y = x

next-out : (xs : List Core) → Names xs → (i : ℕ) → 256 ≤ i → next_is i xs ≡ false
next-out [] n i h = refl
next-out (c ∷ cs) n i h = go (eqb c.kind 5 || eqb c.kind 6) (eqb c.kind 21) refl (next-out cs (λ j. n (suc j)) i h) (bounds-out 1 0 (c ∷ cs) n i h)
  where
    and_no : (b : Bool) → (b && false) ≡ false
    and_no true = refl
    and_no false = refl

    go : (a p : Bool) → eqb c.kind 21 ≡ p → next_is i cs ≡ false → member i (bounds_l 1 0 (c ∷ cs)) ≡ false → elim a as (λ x. Bool) [ true ↦ some! c.arity && next_is i cs | false ↦ (p && eqb c.num i) || member i (bounds_l 1 0 (c ∷ cs)) ] ≡ false
    go true p e z y = rw z (and_no (some! c.arity))
    go false true e z y = rw (far c (n 0) i h (inr (eqb-true c.kind 21 e)), y) refl
    go false false e z y = y

targets-out : (xs : List Core) → Names xs → (i : ℕ) → 256 ≤ i → targets_l xs i ≡ false
targets-out [] n i h = refl
targets-out (c ∷ cs) n i h = rw (next-out cs (λ j. n (suc j)) i h, targets-out cs (λ j. n (suc j)) i h) (go (aims c.kind) (some! c.arity))
  where
    go : (a b : Bool) → ((a && (b && false)) || false) ≡ false
    go true true = refl
    go true false = refl
    go false b = refl

pub all-targets : {w u : List ℕ} (k : ℕ) → Script w → Beside w u → get_or w 0 0 ≤ k → Sum w u k → Targeted w u
unfolding targeted
all-targets {w} {u} k s b h q = record { beside = b; is = fun_ext each }
  where
    each : (i : ℕ) → targeted u i ≡ targets_l (tree w) i
    each i = ⊎_elim
        (λ (l : i < 256). ap yes (get_d-tab 256 (λ j. flag_at u 16016 j) i 0 l) ∙ sym (or-none (yes (flag_at u 16016 i))) ∙ ap (λ (xs : List Core). yes (flag_at u 16016 i) || targets_l xs i) (sym (no-next w k h)) ∙ q i l)
        (λ (l : 256 ≤ i). ap yes (get_d-tab-out 256 (λ j. flag_at u 16016 j) i 0 l) ∙ sym (targets-out (tree w) s.names i l)) (below_or_not i 256)

pub from-wiped : {w v u : List ℕ} → Script w → Zeroed w v 16016 8 → Targeted v u → Targeted w u
from-wiped {w} {v} {u} s z t = record { beside = beside-then (zeroed-beside z) t.beside; is = t.is ∙ ap (λ (xs : List Core). targets_l xs) (beside-tree s (zeroed-beside z)) }
