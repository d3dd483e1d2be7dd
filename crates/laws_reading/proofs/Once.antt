-- An expression's tokens are those of one tree: read from the left, what goes on with what is read is told by the next token. Assumes nothing.
use mathlib.Core.Path.{◌≡◌, refl, sym, ap, ap₂, ◌∙◌, subst}
use mathlib.Core.Bool.{Bool, true, false, ◌&&◌, ◌||◌, not}
use mathlib.Core.List.{List, [], ◌∷◌, ◌++◌, append_assoc}
use Prim.Native.Nat.{ℕ, ◌-◌}
use lib.Dec.{T, eqb, eqb→eq}
use Rattle.def_tree.specs.Tree.{Tree, Forest, node, nil, cons, length_f}
use Rattle.def_file.specs.Kinds.{uses_text}
use Rattle.def_file.specs.Named.{is_kind}
use Rattle.def_file.specs.declared.kind.Kind.TheVariants as Kinds
use Rattle.def_file.specs.Script.{same_text}
use Rattle.def_text.specs.Words.{Word, every, among, is_variable}
use Rattle.std.specs.Prelude.{codes}
use Rattle.def_text.specs.Grammar.{Script, Symbol, Expression, Sort, name, variable, number, string, Place, Slot, at_slot, Part, word, own, kid, run, commas, more, look, if_has, if_not, one_default, Rule, each, write_out, singles}
use Rattle.def_text.specs.Table.{reaches, rules}
use Rattle.def_text.specs.Derives.{fill, barred, token_lists, sort_ok, follows, number_ok, tokens, tokens_all, derives, children, script}
use Rattle.laws_text.proofs.Basics.{and_left, and_right, T-not, text-refl, every-at, Within, some-found}
use Rattle.laws_text.proofs.Fit.{yes-then, no-then, slots, derived, root}
use Rattle.laws_text.proofs.Rows.{fill-of}
use Rattle.laws_reading.specs.Claims.{is_plain, plain, all_plain, Alike, AllAlike, OneExpression, OneScript}
use Rattle.laws_reading.proofs.Tests.{zones, rooted, within, whole, both_in, meet, keeps, clash, front, ops, shut, open_ended, covers, last, dangles, ended_by, with_else, ends_open, begins_not, none_begins, inner_not, first_not, in_zone, barred_start, all_barred, bad, is_variable_sort, starts_bad, all_bad, inner_bad, first_bad, single, all_single, near, is_tail, behind, two, used, symbol_ok, like, owns}
use Rattle.laws_reading.proofs.Tokens.{avoids, avoids-less, avoids-drop, covers-at, covers-both, covers-same, opens, sort-opens}
use Rattle.laws_reading.proofs.Nodes.{asked, keeps-at, Info, Node, info-of, two-of, Before, before-of}
use Rattle.laws_reading.proofs.Told.{Next, top, step, clash-no}
use Rattle.laws_reading.proofs.Walk.{first-same, rest-same, avoids-at, elses, Tail, Here, Whole, One, AllOne, Side, Res, Opens, Starts, Stop, runs-both, start-not, else-not, walk}

module _ (spell : ℕ → ℕ → Word) where
  abbrev InfoAt : ℕ → ℕ → ℕ → Forest → Place → List Part → Type 0
  InfoAt k f a ts g ps = Info spell k f a ts g ps

  node-at : (k f a : ℕ) (ts : Forest) (g : Place) → Here spell (node k f a ts) g → Node spell k f a ts g
  node-at k f a ts g h = info-of spell k f a ts g h.fine (and_left (is_plain k f) (all_plain ts) h.plain) h.derived

  kids-at : (k f a : ℕ) (ts : Forest) (g : Place) → Here spell (node k f a ts) g → T (all_plain ts)
  kids-at k f a ts g h = and_right (is_plain k f) (all_plain ts) h.plain

  -- the first child of a row that begins with one
  first-at : (k f a : ℕ) (t : Tree) (ts : Forest) (g : Place) (x : Slot) (ps : List Part) → InfoAt k f a (cons t ts) g (kid x ∷ ps) → T (all_plain (cons t ts)) → Here spell t (at_slot g x)
  first-at k f a t ts g x ps i o = record {
    fine = and_left (symbol_ok x.symbol) (slots (λ z. symbol_ok z.symbol) ps) i.slots-ok;
    plain = and_left (plain t) (all_plain ts) o;
    derived = (yes-then (derives spell t (at_slot g x)) (follows g (spell k a) (write_out i.times ps) (children spell ts)) i.followed).0;
  }

  rest-at : (k f a : ℕ) (t : Tree) (ts : Forest) (g : Place) (x : Slot) (w : Word) (ps : List Part) → (i : InfoAt k f a (cons t ts) g (kid x ∷ word w ∷ ps)) → T (all_plain (cons t ts)) → Side spell g (spell k a) (word w ∷ write_out i.times ps) ts
  rest-at k f a t ts g x w ps i o = record {
    plain = and_right (plain t) (all_plain ts) o;
    followed = (yes-then (derives spell t (at_slot g x)) (follows g (spell k a) (write_out i.times ps) (children spell ts)) i.followed).1;
  }

  no-first-child : (k f a : ℕ) (g : Place) (x : Slot) (ps : List Part) → InfoAt k f a nil g (kid x ∷ ps) → ⊥
  no-first-child k f a g x ps i = i.followed

  -- the tokens of a node, and what is behind them, behind its first child
  split : (k f a : ℕ) (t : Tree) (ts : Forest) (g : Place) (x : Slot) (ps : List Part) (i : InfoAt k f a (cons t ts) g (kid x ∷ ps)) (z : List Word)
      → tokens spell (node k f a (cons t ts)) ++ z ≡ tokens spell t ++ (fill (spell k a) (write_out i.times ps) (tokens_all spell ts) ++ z)
  split k f a t ts g x ps i z = ap (λ (y : List Word). y ++ z) i.tokens-are ∙ append_assoc (tokens spell t) (fill (spell k a) (write_out i.times ps) (tokens_all spell ts)) z

  looked-on : (k f a : ℕ) (t : Tree) (ts : Forest) (g : Place) (bs : List (List Word)) (x : Slot) (ps : List Part) (i : InfoAt k f a (cons t ts) g (look bs ∷ kid x ∷ ps)) → T (follows g (spell k a) (kid x ∷ write_out i.times ps) (children spell (cons t ts)))
  looked-on k f a t ts g bs x ps i = (no-then (barred bs (fill (spell k a) (kid x ∷ write_out i.times ps) (token_lists (children spell (cons t ts))))) (follows g (spell k a) (kid x ∷ write_out i.times ps) (children spell (cons t ts))) i.followed).1

  looked-none : (k f a : ℕ) (g : Place) (bs : List (List Word)) (x : Slot) (ps : List Part) → InfoAt k f a nil g (look bs ∷ kid x ∷ ps) → ⊥
  looked-none k f a g bs x ps i = (no-then (barred bs (fill (spell k a) (kid x ∷ write_out i.times ps) [])) (follows g (spell k a) (kid x ∷ write_out i.times ps) []) i.followed).1

  -- the same behind a lookahead
  looked-at : (k f a : ℕ) (t : Tree) (ts : Forest) (g : Place) (bs : List (List Word)) (x : Slot) (ps : List Part) → InfoAt k f a (cons t ts) g (look bs ∷ kid x ∷ ps) → T (all_plain (cons t ts)) → Here spell t (at_slot g x)
  looked-at k f a t ts g bs x ps i o = record {
    fine = and_left (symbol_ok x.symbol) (slots (λ z. symbol_ok z.symbol) ps) i.slots-ok;
    plain = and_left (plain t) (all_plain ts) o;
    derived = (yes-then (derives spell t (at_slot g x)) (follows g (spell k a) (write_out i.times ps) (children spell ts)) (looked-on k f a t ts g bs x ps i)).0;
  }

  split-look : (k f a : ℕ) (t : Tree) (ts : Forest) (g : Place) (bs : List (List Word)) (x : Slot) (ps : List Part) (i : InfoAt k f a (cons t ts) g (look bs ∷ kid x ∷ ps)) (z : List Word)
      → tokens spell (node k f a (cons t ts)) ++ z ≡ tokens spell t ++ (fill (spell k a) (write_out i.times ps) (tokens_all spell ts) ++ z)
  split-look k f a t ts g bs x ps i z = ap (λ (y : List Word). y ++ z) i.tokens-are ∙ append_assoc (tokens spell t) (fill (spell k a) (write_out i.times ps) (tokens_all spell ts)) z

  -- ---- no closing bracket begins a tree

  abbrev Open : Tree → Type 0
  Open u = (g : Place) (z : List Word) → Here spell u g → T (opens (tokens spell u ++ z))

  abbrev OpenFirst : Forest → Type 0
  OpenFirst nil = Unit {0}
  OpenFirst (cons t ts) = Open t

  open-by : (k f a : ℕ) (ts : Forest) (g : Place) (z : List Word) (ps : List Part) → OpenFirst ts → T (all_plain ts) → InfoAt k f a ts g ps → T (opens (tokens spell (node k f a ts) ++ z))
  open-by k f a ts g z [] r o i = absurd i.on
  open-by k f a ts g z (word w ∷ ps) r o i = subst (λ (y : List Word). T (opens (y ++ z))) (sym i.tokens-are) i.on
  open-by k f a ts g z (own s ∷ ps) r o i =
      subst (λ (y : List Word). T (opens (y ++ z))) (sym i.tokens-are) (sort-opens s (spell k a) (yes-then (sort_ok s (spell k a)) (follows g (spell k a) (write_out i.times ps) (children spell ts)) i.followed).0)
  open-by k f a nil g z (kid x ∷ ps) r o i = absurd (no-first-child k f a g x ps i)
  open-by k f a (cons t ts) g z (kid x ∷ ps) r o i =
      subst (λ (y : List Word). T (opens y)) (sym (split k f a t ts g x ps i z)) (r (at_slot g x) (fill (spell k a) (write_out i.times ps) (tokens_all spell ts) ++ z) (first-at k f a t ts g x ps i o))
  open-by k f a ts g z (run x ∷ ps) r o i = absurd i.on
  open-by k f a ts g z (commas x ∷ ps) r o i = absurd i.on
  open-by k f a ts g z (more x ∷ ps) r o i = absurd i.on
  open-by k f a nil g z (look bs ∷ kid x ∷ ps) r o i = absurd (looked-none k f a g bs x ps i)
  open-by k f a (cons t ts) g z (look bs ∷ kid x ∷ ps) r o i =
      subst (λ (y : List Word). T (opens y)) (sym (split-look k f a t ts g bs x ps i z)) (r (at_slot g x) (fill (spell k a) (write_out i.times ps) (tokens_all spell ts) ++ z) (looked-at k f a t ts g bs x ps i o))
  open-by k f a ts g z (look bs ∷ ps) r o i = absurd i.on
  open-by k f a ts g z (if_has q ∷ ps) r o i = absurd i.on
  open-by k f a ts g z (if_not q ∷ ps) r o i = absurd i.on
  open-by k f a ts g z (one_default ∷ ps) r o i = absurd i.on

  open-node : (k f a : ℕ) (ts : Forest) → OpenFirst ts → Open (node k f a ts)
  open-node k f a ts r g z h = let n = node-at k f a ts g h in open-by k f a ts g z n.right r (kids-at k f a ts g h) n.info

  mutual
    open-tree : (u : Tree) → Open u
    open-tree (node k f a ts) = open-node k f a ts (open-first ts)

    open-first : (ts : Forest) → OpenFirst ts
    open-first nil = tt
    open-first (cons t ts) = open-tree t

  no-closing : Opens spell
  no-closing u g z h = open-tree u g z h

  -- what is asked of a row that goes on with its first child
  record Goes (g : Symbol) (x : Slot) (w : Word) : Type 0 where
    pub token : T (among w (ops g))
    pub more : T (covers (ops g) (ops x.symbol))
    pub kept : T (keeps g x.symbol)

  goes-of : (k f a : ℕ) (ts : Forest) (g : Place) (x : Slot) (w : Word) (ps : List Part) → InfoAt k f a ts g (kid x ∷ word w ∷ ps) → Goes g.symbol x w
  goes-of k f a ts g x w ps i =
      let p = and_left (among w (ops g.symbol) && covers (ops g.symbol) (ops x.symbol)) (keeps g.symbol x.symbol) i.on in
      record { token = and_left (among w (ops g.symbol)) (covers (ops g.symbol) (ops x.symbol)) p; more = and_right (among w (ops g.symbol)) (covers (ops g.symbol) (ops x.symbol)) p; kept = and_right (among w (ops g.symbol) && covers (ops g.symbol) (ops x.symbol)) (keeps g.symbol x.symbol) i.on }

  -- ---- what does not begin a tree

  row-fact : (q : Rule → ℕ → Bool) (c : ℕ) (k f a : ℕ) (ts : Forest) (g : Place) (ps : List Part) (i : InfoAt k f a ts g ps) → Within c zones → T (within c g.symbol)
      → T (every (λ r. elim (used r) [ true ↦ elim (within c r.left) [ true ↦ q r c | false ↦ true ] | false ↦ true ]) rules) → T (q i.rule c)
  row-fact q c k f a ts g ps i v wi h =
      asked (within c i.rule.left) (q i.rule c) (asked (used i.rule) _ (every-at (λ r. elim (used r) [ true ↦ elim (within c r.left) [ true ↦ q r c | false ↦ true ] | false ↦ true ]) i.rule rules h i.inside) i.is-used) (keeps-at c g.symbol i.rule.left v i.kept wi)

  module _ (w : Word) (q : Slot → Bool) (inner : (y : Slot) → T (q y) → (u : Tree) (g : Place) (x ys : List Word) → Here spell u (at_slot g y) → tokens spell u ++ x ≡ w ∷ ys → ⊥) where
    abbrev Not : Tree → Type 0
    Not u = (c : ℕ) (g : Place) (x ys : List Word) → Here spell u g → Within c zones → T (within c g.symbol) → T (none_begins q w c) → tokens spell u ++ x ≡ w ∷ ys → ⊥

    abbrev NotFirst : Forest → Type 0
    NotFirst nil = Unit {0}
    NotFirst (cons t ts) = Not t

    not-by : (c k f a : ℕ) (ts : Forest) (g : Place) (x ys : List Word) (ps : List Part) → NotFirst ts → T (all_plain ts) → InfoAt k f a ts g ps → Within c zones → T (within c g.symbol) → T (none_begins q w c) → T (begins_not c q w ps)
        → tokens spell (node k f a ts) ++ x ≡ w ∷ ys → ⊥
    not-by c k f a ts g x ys [] r o i v wi h n e = absurd n
    not-by c k f a ts g x ys (word t ∷ ps) r o i v wi h n e =
        T-not (same_text w t) n (subst (λ (z : Word). T (same_text z t)) (first-same t w _ _ (sym (ap (λ (z : List Word). z ++ x) i.tokens-are) ∙ e)) (text-refl t))
    not-by c k f a ts g x ys (own s ∷ ps) r o i v wi h n e =
        T-not (sort_ok s w) n (subst (λ (z : Word). T (sort_ok s z)) (first-same (spell k a) w _ _ (sym (ap (λ (z : List Word). z ++ x) i.tokens-are) ∙ e)) (yes-then (sort_ok s (spell k a)) (follows g (spell k a) (write_out i.times ps) (children spell ts)) i.followed).0)
    not-by c k f a nil g x ys (kid y ∷ ps) r o i v wi h n e = no-first-child k f a g y ps i
    not-by c k f a (cons t ts) g x ys (kid y ∷ word d ∷ ps) r o i v wi h n e =
        r c (at_slot g y) (fill (spell k a) (write_out i.times (word d ∷ ps)) (tokens_all spell ts) ++ x) ys (first-at k f a t ts g y (word d ∷ ps) i o) v (keeps-at c g.symbol y.symbol v (goes-of k f a (cons t ts) g y d ps i).kept wi) h
        (sym (split k f a t ts g y (word d ∷ ps) i x) ∙ e)
    not-by c k f a (cons t ts) g x ys (kid y ∷ ps) r o i v wi h n e = absurd i.on
    not-by c k f a nil g x ys (look bs ∷ kid y ∷ ps) r o i v wi h n e = looked-none k f a g bs y ps i
    not-by c k f a (cons t ts) g x ys (look bs ∷ kid y ∷ ps) r o i v wi h n e =
        inner y n t g (fill (spell k a) (write_out i.times ps) (tokens_all spell ts) ++ x) ys (looked-at k f a t ts g bs y ps i o) (sym (split-look k f a t ts g bs y ps i x) ∙ e)
    not-by c k f a ts g x ys ps r o i v wi h n e = absurd n

    not-node : (k f a : ℕ) (ts : Forest) → NotFirst ts → Not (node k f a ts)
    not-node k f a ts r c g x ys d v wi h e =
        let n = node-at k f a ts g d in
        not-by c k f a ts g x ys n.right r (kids-at k f a ts g d) n.info v wi h (subst (λ (ps : List Part). T (begins_not c q w ps)) n.info.right-is (row-fact (λ r c. begins_not c q w (front r)) c k f a ts g n.right n.info v wi h)) e

    mutual
      not-tree : (u : Tree) → Not u
      not-tree (node k f a ts) = not-node k f a ts (not-first ts)

      not-first : (ts : Forest) → NotFirst ts
      not-first nil = tt
      not-first (cons t ts) = not-tree t

  by-zone : (p : ℕ → Bool) (x : Symbol) → T (in_zone p x) → (c : ℕ) × Within c zones × T (within c x) × T (p c)
  by-zone p x h = let f = some-found (λ c. within c x && p c) zones h in (f.one, f.inside, and_left (within f.one x) (p f.one) f.passes, and_right (within f.one x) (p f.one) f.passes)

  not-inner : (w : Word) (y : Slot) → T (inner_not w y) → (u : Tree) (g : Place) (x ys : List Word) → Here spell u (at_slot g y) → tokens spell u ++ x ≡ w ∷ ys → ⊥
  not-inner w y h u g x ys d e = let z = by-zone (none_begins (λ z. false) w) y.symbol h in not-tree w (λ z. false) (λ y b u g x ys d e. absurd b) u z.0 (at_slot g y) x ys d z.1 z.2 z.3 e

  starts-by : (u : Tree) (g : Place) (x ys : List Word) (w : Word) → Here spell u g → T (first_not g.symbol w) → tokens spell u ++ x ≡ w ∷ ys → ⊥
  starts-by u g x ys w d h e = let z = by-zone (none_begins (inner_not w) w) g.symbol h in not-tree w (inner_not w) (not-inner w) u z.0 g x ys d z.1 z.2 z.3 e

  bars-by : (k f a : ℕ) (ts : Forest) (g : Place) (x : List Word) (bs : List (List Word)) (ps : List Part) → InfoAt k f a ts g ps → T (barred_start bs ps) → (w : Word) × (ys : List Word) × (tokens spell (node k f a ts) ++ x ≡ w ∷ ys) × T (barred bs (w ∷ []))
  bars-by k f a ts g x bs (word v ∷ ps) i n = (v, fill (spell k a) (write_out i.times ps) (tokens_all spell ts) ++ x, ap (λ (z : List Word). z ++ x) i.tokens-are, n)
  bars-by k f a ts g x bs ps i n = absurd n

  bars-tree : (u : Tree) (g : Place) (x : List Word) (bs : List (List Word)) → Here spell u g → T (in_zone (all_barred bs) g.symbol) → (w : Word) × (ys : List Word) × (tokens spell u ++ x ≡ w ∷ ys) × T (barred bs (w ∷ []))
  bars-tree (node k f a ts) g x bs d h =
      let z = by-zone (all_barred bs) g.symbol h in
      let n = node-at k f a ts g d in
      bars-by k f a ts g x bs n.right n.info (subst (λ (ps : List Part). T (barred_start bs ps)) n.info.right-is (row-fact (λ r c. barred_start bs (front r)) z.0 k f a ts g n.right n.info z.1 z.2 z.3))

  -- ---- a name or a brace stands behind no name

  sort-variable : (s : Sort) (o : Word) → T (is_variable_sort s) → T (sort_ok s o) → T (is_variable o)
  sort-variable name o h k = absurd h
  sort-variable variable o h k = k
  sort-variable number o h k = absurd h
  sort-variable string o h k = absurd h

  or-left : (a b : Bool) → T a → T (a || b)
  or-left true b t = tt
  or-left false b t = absurd t

  module _ (w : Word) (bs : List (List Word)) (q : Slot → Bool) (inner : (y : Slot) → T (q y) → (u : Tree) (g : Place) (x : List Word) → Here spell u (at_slot g y) → (t : Word) × (ys : List Word) × (tokens spell u ++ x ≡ t ∷ ys) × T (bad t || barred bs (w ∷ t ∷ []))) where
    abbrev Bad : Tree → Type 0
    Bad u = (c : ℕ) (g : Place) (x : List Word) → Here spell u g → Within c zones → T (within c g.symbol) → T (all_bad q w bs c) → (t : Word) × (ys : List Word) × (tokens spell u ++ x ≡ t ∷ ys) × T (bad t || barred bs (w ∷ t ∷ []))

    abbrev BadFirst : Forest → Type 0
    BadFirst nil = Unit {0}
    BadFirst (cons t ts) = Bad t

    bad-by : (c k f a : ℕ) (ts : Forest) (g : Place) (x : List Word) (ps : List Part) → BadFirst ts → T (all_plain ts) → InfoAt k f a ts g ps → Within c zones → T (within c g.symbol) → T (all_bad q w bs c) → T (starts_bad q w bs ps)
        → (t : Word) × (ys : List Word) × (tokens spell (node k f a ts) ++ x ≡ t ∷ ys) × T (bad t || barred bs (w ∷ t ∷ []))
    bad-by c k f a ts g x (word v ∷ ps) r o i z wi h n = (v, fill (spell k a) (write_out i.times ps) (tokens_all spell ts) ++ x, ap (λ (z : List Word). z ++ x) i.tokens-are, n)
    bad-by c k f a ts g x (own s ∷ ps) r o i z wi h n = (
      spell k a,
      fill (spell k a) (write_out i.times ps) (tokens_all spell ts) ++ x,
      ap (λ (z : List Word). z ++ x) i.tokens-are,
      or-left (bad (spell k a)) (barred bs (w ∷ spell k a ∷ [])) (or-left (is_variable (spell k a)) (same_text (spell k a) (codes "{"))
          (sort-variable s (spell k a) n (yes-then (sort_ok s (spell k a)) (follows g (spell k a) (write_out i.times ps) (children spell ts)) i.followed).0)),
    )
    bad-by c k f a nil g x (kid y ∷ ps) r o i z wi h n = absurd (no-first-child k f a g y ps i)
    bad-by c k f a (cons t ts) g x (kid y ∷ word d ∷ ps) r o i z wi h n =
        let b = r c (at_slot g y) (fill (spell k a) (write_out i.times (word d ∷ ps)) (tokens_all spell ts) ++ x) (first-at k f a t ts g y (word d ∷ ps) i o) z (keeps-at c g.symbol y.symbol z (goes-of k f a (cons t ts) g y d ps i).kept wi) h in
        (b.0, b.1, split k f a t ts g y (word d ∷ ps) i x ∙ b.2, b.3)
    bad-by c k f a (cons t ts) g x (kid y ∷ ps) r o i z wi h n = absurd i.on
    bad-by c k f a nil g x (look cs ∷ kid y ∷ ps) r o i z wi h n = absurd (looked-none k f a g cs y ps i)
    bad-by c k f a (cons t ts) g x (look cs ∷ kid y ∷ ps) r o i z wi h n =
        let b = inner y n t g (fill (spell k a) (write_out i.times ps) (tokens_all spell ts) ++ x) (looked-at k f a t ts g cs y ps i o) in
        (b.0, b.1, split-look k f a t ts g cs y ps i x ∙ b.2, b.3)
    bad-by c k f a ts g x ps r o i z wi h n = absurd n

    bad-node : (k f a : ℕ) (ts : Forest) → BadFirst ts → Bad (node k f a ts)
    bad-node k f a ts r c g x d v wi h =
        let n = node-at k f a ts g d in
        bad-by c k f a ts g x n.right r (kids-at k f a ts g d) n.info v wi h (subst (λ (ps : List Part). T (starts_bad q w bs ps)) n.info.right-is (row-fact (λ r c. starts_bad q w bs (front r)) c k f a ts g n.right n.info v wi h))

    mutual
      bad-tree : (u : Tree) → Bad u
      bad-tree (node k f a ts) = bad-node k f a ts (bad-trees ts)

      bad-trees : (ts : Forest) → BadFirst ts
      bad-trees nil = tt
      bad-trees (cons t ts) = bad-tree t

  bad-inner : (w : Word) (bs : List (List Word)) (y : Slot) → T (inner_bad w bs y) → (u : Tree) (g : Place) (x : List Word) → Here spell u (at_slot g y) → (t : Word) × (ys : List Word) × (tokens spell u ++ x ≡ t ∷ ys) × T (bad t || barred bs (w ∷ t ∷ []))
  bad-inner w bs y h u g x d = let z = by-zone (all_bad (λ z. false) w bs) y.symbol h in bad-tree w bs (λ z. false) (λ y b u g x d. absurd b) u z.0 (at_slot g y) x d z.1 z.2 z.3

  bad-start : (u : Tree) (g : Place) (x : List Word) (w : Word) (bs : List (List Word)) → Here spell u g → T (first_bad w bs g.symbol) → (t : Word) × (ys : List Word) × (tokens spell u ++ x ≡ t ∷ ys) × T (bad t || barred bs (w ∷ t ∷ []))
  bad-start u g x w bs d h = let z = by-zone (all_bad (inner_bad w bs) w bs) g.symbol h in bad-tree w bs (inner_bad w bs) (bad-inner w bs) u z.0 g x d z.1 z.2 z.3

  abbrev Single : Tree → Type 0
  Single u = (c : ℕ) (g : Place) (w d t : Word) (z zs : List Word) → Here spell u g → Within c zones → T (within c g.symbol) → T (all_single w c) → T (not (bad d)) → tokens spell u ++ (d ∷ z) ≡ w ∷ t ∷ zs → T (not (bad t))

  abbrev SingleFirst : Forest → Type 0
  SingleFirst nil = Unit {0}
  SingleFirst (cons t ts) = Single t

  single-by : (c k f a : ℕ) (ts : Forest) (g : Place) (w d t : Word) (z zs : List Word) (ps : List Part) → SingleFirst ts → T (all_plain ts) → InfoAt k f a ts g ps → Within c zones → T (within c g.symbol) → T (all_single w c) → T (single w ps) → T (not (bad d))
      → tokens spell (node k f a ts) ++ (d ∷ z) ≡ w ∷ t ∷ zs → T (not (bad t))
  single-by c k f a ts g w d t z zs (word v ∷ ps) r o i q wi h n b e =
      absurd (T-not (same_text w v) n (subst (λ (x : Word). T (same_text x v)) (first-same v w _ _ (sym (ap (λ (x : List Word). x ++ (d ∷ z)) i.tokens-are) ∙ e)) (text-refl v)))
  single-by c k f a ts g w d t z zs (own s ∷ []) r o i q wi h n b e =
      subst (λ (x : Word). T (not (bad x))) (first-same d t _ _ (rest-same (spell k a) w (d ∷ z) (t ∷ zs) (sym (ap (λ (x : List Word). x ++ (d ∷ z)) i.tokens-are) ∙ e))) b
  single-by c k f a nil g w d t z zs (kid y ∷ ps) r o i q wi h n b e = absurd (no-first-child k f a g y ps i)
  single-by c k f a (cons u ts) g w d t z zs (kid y ∷ word v ∷ ps) r o i q wi h n b e =
      r c (at_slot g y) w v t (fill (spell k a) (write_out i.times ps) (tokens_all spell ts) ++ (d ∷ z)) zs (first-at k f a u ts g y (word v ∷ ps) i o) q (keeps-at c g.symbol y.symbol q (goes-of k f a (cons u ts) g y v ps i).kept wi) h n
      (sym (split k f a u ts g y (word v ∷ ps) i (d ∷ z)) ∙ e)
  single-by c k f a ts g w d t z zs ps r o i q wi h n b e = absurd n

  single-node : (k f a : ℕ) (ts : Forest) → SingleFirst ts → Single (node k f a ts)
  single-node k f a ts r c g w d t z zs here! v wi h b e =
      let n = node-at k f a ts g here! in
      single-by c k f a ts g w d t z zs n.right r (kids-at k f a ts g here!) n.info v wi h (subst (λ (ps : List Part). T (single w ps)) n.info.right-is (row-fact (λ r c. single w (front r)) c k f a ts g n.right n.info v wi h)) b e

  mutual
    single-tree : (u : Tree) → Single u
    single-tree (node k f a ts) = single-node k f a ts (single-trees ts)

    single-trees : (ts : Forest) → SingleFirst ts
    single-trees nil = tt
    single-trees (cons t ts) = single-tree t

  second-by : (u : Tree) (g : Place) (w d t : Word) (z zs : List Word) → Here spell u g → T (in_zone (all_single w) g.symbol) → T (not (bad d)) → tokens spell u ++ (d ∷ z) ≡ w ∷ t ∷ zs → T (not (bad t))
  second-by u g w d t z zs k h b e = let q = by-zone (all_single w) g.symbol h in single-tree u q.0 g w d t z zs k q.1 q.2 q.3 b e

  starts : Starts spell
  starts = record { opening = no-closing; first = starts-by; bad-first = bad-start; second = second-by; bars = bars-tree }

  -- ---- what may stand behind a node

  record Stops (k f a : ℕ) (ts : Forest) (g : Place) (ps : List Part) (i : InfoAt k f a ts g ps) (x : List Word) : Type 0 where
    pub over : T (avoids (with_else i.rule) x)
    pub tail : Tail g ps x

  drop-first : (b : Bool) (ws zs : List Word) → T (avoids ((elim b as (λ x. List Word) [ true ↦ codes "finally" ∷ [] | false ↦ [] ]) ++ ws) zs) → T (avoids ws zs)
  drop-first true ws zs h = avoids-drop (codes "finally") ws zs h
  drop-first false ws zs h = h

  drop-else : (b : Bool) (ws zs : List Word) → T (avoids (elim b [ true ↦ codes "else" ∷ ws | false ↦ ws ]) zs) → T (avoids ws zs)
  drop-else true ws zs h = avoids-drop (codes "else") ws zs h
  drop-else false ws zs h = h

  last-of : (k f a : ℕ) (ts : Forest) (g : Place) (ps : List Part) (i : InfoAt k f a ts g ps) (x : List Word) → T (avoids (with_else i.rule) x) → T (avoids (last ps) x)
  last-of k f a ts g ps i x h =
      subst (λ (qs : List Part). T (avoids (last qs) x)) i.right-is
      (drop-first (is_kind Kinds.Try i.rule.kind && eqb i.rule.form 1) (last (front i.rule)) x (drop-else (dangles i.rule.right) (ended_by i.rule) x h))

  with-first : (w : Word) (ws zs : List Word) → T (avoids (w ∷ []) zs) → T (avoids ws zs) → T (avoids (w ∷ ws) zs)
  with-first w ws [] h k = tt
  with-first w ws (z ∷ zs) h k = go (same_text z w) (among z ws) h k
    where
      go : (a b : Bool) → T (not (elim a [ true ↦ true | false ↦ false ])) → T (not b) → T (not (elim a [ true ↦ true | false ↦ b ]))
      go true b h k = h
      go false b h k = k

  or-elim2 : (a b c : Bool) → T (not (a || b) || c) → T a → T c
  or-elim2 true b c h t = h
  or-elim2 false b c h t = absurd t

  or-elim3 : (a b c : Bool) → T (not (a || b) || c) → T b → T c
  or-elim3 true b c h t = h
  or-elim3 false true c h t = h
  or-elim3 false false c h t = absurd t

  stops-of : (k f a : ℕ) (ts : Forest) (g : Place) (ps : List Part) (i : InfoAt k f a ts g ps) (x : List Word) → T (avoids (shut g.symbol) x) → T (avoids (elses g) x) → Stops k f a ts g ps i x
  stops-of k f a ts g ps i x h e = record {
    over = go (dangles i.rule.right) (λ t. or-elim3 (ends_open ps) (dangles i.rule.right) (open_ended g.symbol) i.statement t) i.no-else-behind (avoids-less (shut g.symbol) (ended_by i.rule) x i.shuts h);
    tail = λ t. (or-elim2 (ends_open ps) (dangles i.rule.right) (open_ended g.symbol) i.statement t, e);
  }
    where
      else-in : (b c : Bool) → T b → T (not c) → T (avoids (elim b [ true ↦ elim c [ true ↦ [] | false ↦ codes "else" ∷ [] ] | false ↦ [] ]) x) → T (avoids (codes "else" ∷ []) x)
      else-in true true t n k = absurd n
      else-in true false t n k = k
      else-in false c t n k = absurd t

      go : (b : Bool) → (T b → T (open_ended g.symbol)) → (T b → T (not g.has_else)) → T (avoids (ended_by i.rule) x) → T (avoids (elim b [ true ↦ codes "else" ∷ ended_by i.rule | false ↦ ended_by i.rule ]) x)
      go true p q k = with-first (codes "else") (ended_by i.rule) x (else-in (open_ended g.symbol) g.has_else (p tt) (q tt) e) k
      go false p q k = k

  stops-before : (k f a : ℕ) (ts : Forest) (g : Place) (ps : List Part) (i : InfoAt k f a ts g ps) (o : Word) (x : List Word) → Before spell o i.rule ps → Stops k f a ts g ps i (o ∷ x)
  stops-before k f a ts g ps i o x b = record { over = go (dangles i.rule.right) b.whole! b.free; tail = λ t. absurd (T-not (ends_open ps) b.closed! t) }
    where
      go : (d : Bool) → T (not d) → T (not (among o (ended_by i.rule))) → T (avoids (elim d [ true ↦ codes "else" ∷ ended_by i.rule | false ↦ ended_by i.rule ]) (o ∷ x))
      go true n k = absurd n
      go false n k = k

  -- ---- what of a tree is read: a tree of its left side, its symbol, and the tokens behind it

  module _ (c : ℕ) (V : Tree) (G : Symbol) (y : List Word) where
    data Read : Tree → Symbol → List Word → Type 0 where
      all! : Read V G y
      part : (k f a : ℕ) (t : Tree) (ts : Forest) (z : List Word) (g : Place) (x : Slot) (w : Word) (ps : List Part) (i : InfoAt k f a (cons t ts) g (kid x ∷ word w ∷ ps)) → T (all_plain (cons t ts)) → T (among w (ops G))
          → T (within c g.symbol) → T (within c i.rule.left) → Stops k f a (cons t ts) g (kid x ∷ word w ∷ ps) i z → Read (node k f a (cons t ts)) g.symbol z
          → Read t x.symbol (w ∷ (fill (spell k a) (write_out i.times ps) (tokens_all spell ts) ++ z))

    next-of : (t : Tree) (s : Symbol) (z : List Word) → Read t s z → Next c G y s z
    next-of t s z all! = top
    next-of t s z (part k f a l ts z' g x w ps i o am wi wr av rd) = step i.rule x w ps (fill (spell k a) (write_out i.times ps) (tokens_all spell ts) ++ z') i.inside i.is-used wr i.right-is am

    -- where it begins
    record Start : Type 0 where
      pub k : ℕ
      pub f : ℕ
      pub a : ℕ
      pub ts : Forest
      pub g : Place
      pub right : List Part
      pub info : InfoAt k f a ts g right
      pub plain! : T (all_plain ts)
      pub head : is_tail right ≡ false
      pub z : List Word
      pub shuts : Stops k f a ts g right info z
      pub read : Read (node k f a ts) g.symbol z
      pub level : T (within c g.symbol)
      pub covered : T (covers (ops G) (ops g.symbol))
      pub all : tokens spell V ++ y ≡ tokens spell (node k f a ts) ++ z

    abbrev Begins : Tree → Type 0
    Begins u = (g : Place) (z : List Word) → Here spell u g → ((k f a : ℕ) (ts : Forest) (ps : List Part) (i : InfoAt k f a ts g ps) → Stops k f a ts g ps i z) → T (within c g.symbol) → T (covers (ops G) (ops g.symbol))
        → Read u g.symbol z → tokens spell V ++ y ≡ tokens spell u ++ z → Start

    abbrev BeginsFirst : Forest → Type 0
    BeginsFirst nil = Unit {0}
    BeginsFirst (cons t ts) = Begins t

    module _ (v : Within c zones) where
      begin-tail : (k f a : ℕ) (t : Tree) (ts : Forest) (g : Place) (z : List Word) (x : Slot) (w : Word) (ps : List Part) → Begins t → T (all_plain (cons t ts)) → (i : InfoAt k f a (cons t ts) g (kid x ∷ word w ∷ ps))
          → Stops k f a (cons t ts) g (kid x ∷ word w ∷ ps) i z → T (within c g.symbol) → T (covers (ops G) (ops g.symbol)) → Read (node k f a (cons t ts)) g.symbol z → tokens spell V ++ y ≡ tokens spell (node k f a (cons t ts)) ++ z → Start
      begin-tail k f a t ts g z x w ps r o i av wi cov rd e =
          let q = goes-of k f a (cons t ts) g x w ps i in
          r (at_slot g x) (w ∷ (fill (spell k a) (write_out i.times ps) (tokens_all spell ts) ++ z)) (first-at k f a t ts g x (word w ∷ ps) i o)
          (λ k' f' a' ts' qs j. stops-before k' f' a' ts' (at_slot g x) qs j w (fill (spell k a) (write_out i.times ps) (tokens_all spell ts) ++ z) (before-of spell k' f' a' ts' x w (at_slot g x) qs refl i.before j))
          (keeps-at c g.symbol x.symbol v q.kept wi)
          (covers-both (ops G) (ops g.symbol) (ops x.symbol) cov q.more)
          (part k f a t ts z g x w ps i o (covers-at (ops G) (ops g.symbol) w cov q.token) wi (keeps-at c g.symbol i.rule.left v i.kept wi) av rd)
          (e ∙ split k f a t ts g x (word w ∷ ps) i z)

      begin-by : (k f a : ℕ) (ts : Forest) (g : Place) (z : List Word) (ps : List Part) → BeginsFirst ts → T (all_plain ts) → (i : InfoAt k f a ts g ps) → Stops k f a ts g ps i z → T (within c g.symbol) → T (covers (ops G) (ops g.symbol))
          → Read (node k f a ts) g.symbol z → tokens spell V ++ y ≡ tokens spell (node k f a ts) ++ z → Start
      begin-by k f a ts g z [] r o i av wi cov rd e = absurd i.on
      begin-by k f a ts g z (word w ∷ ps) r o i av wi cov rd e = record { k = k; f = f; a = a; ts = ts; g = g; right = word w ∷ ps; info = i; plain! = o; head = refl; z = z; shuts = av; read = rd; level = wi; covered = cov; all = e }
      begin-by k f a ts g z (own s ∷ ps) r o i av wi cov rd e = record { k = k; f = f; a = a; ts = ts; g = g; right = own s ∷ ps; info = i; plain! = o; head = refl; z = z; shuts = av; read = rd; level = wi; covered = cov; all = e }
      begin-by k f a ts g z (look bs ∷ ps) r o i av wi cov rd e = record { k = k; f = f; a = a; ts = ts; g = g; right = look bs ∷ ps; info = i; plain! = o; head = refl; z = z; shuts = av; read = rd; level = wi; covered = cov; all = e }
      begin-by k f a nil g z (kid x ∷ ps) r o i av wi cov rd e = absurd (no-first-child k f a g x ps i)
      begin-by k f a (cons t ts) g z (kid x ∷ word w ∷ ps) r o i av wi cov rd e = begin-tail k f a t ts g z x w ps r o i av wi cov rd e
      begin-by k f a ts g z ps r o i av wi cov rd e = absurd i.on

      begin-node : (k f a : ℕ) (ts : Forest) → BeginsFirst ts → Begins (node k f a ts)
      begin-node k f a ts r g z h av wi cov rd e = let n = node-at k f a ts g h in begin-by k f a ts g z n.right r (kids-at k f a ts g h) n.info (av k f a ts n.right n.info) wi cov rd e

      mutual
        begin-tree : (u : Tree) → Begins u
        begin-tree (node k f a ts) = begin-node k f a ts (begin-first ts)

        begin-first : (ts : Forest) → BeginsFirst ts
        begin-first nil = tt
        begin-first (cons t ts) = begin-tree t

    record Reached (u : Tree) (x : List Word) : Type 0 where
      pub t : Tree
      pub s : Symbol
      pub z : List Word
      pub read : Read t s z
      pub alike : Alike spell u t
      pub rest : x ≡ z

  -- ---- as far as a tree goes, the other is read as it

  -- the other tree, where it begins, and what is behind all of the two
  record Env (c : ℕ) (V : Tree) (G : Symbol) (y : List Word) (g : Symbol) (x : List Word) : Type 0 where
    pub inside : Within c zones
    pub root : T (rooted c g)
    pub other-root : T (rooted c G)
    pub start : Start c V G y
    pub shut-x : T (avoids (ops G) x)
    pub shut-y : T (avoids (ops g) y)

  abbrev Led : Tree → Type 0
  Led (node k f a ts) = (c : ℕ) (V : Tree) (G : Symbol) (y : List Word) (r : Symbol) (x0 : List Word) → Env c V G y r x0 → (g : Place) (ps : List Part) (i : InfoAt k f a ts g ps) (x : List Word) → T (all_plain ts) → T (within c g.symbol)
      → T (covers (ops r) (ops g.symbol)) → Next c r x0 g.symbol x → Stops k f a ts g ps i x → tokens spell (node k f a ts) ++ x ≡ tokens spell V ++ y → Reached c V G y (node k f a ts) x

  abbrev AllLed : Forest → Type 0
  AllLed nil = Unit {0}
  AllLed (cons t ts) = Led t × AllLed ts

  finish : (c : ℕ) (u v : Tree) (h : Symbol) (x y : List Word) (t : Tree) (s : Symbol) (z : List Word) → Read c v h y t s z → Alike spell u t → x ≡ z → T (avoids (ops h) x) → Whole spell u v x y
  finish c u v h x y t s z all! al e ax = record { alike = al; rest = e }
  finish c u v h x y t s z (part k f a l ts w g q o ps i op am wi wr av rd) al e ax = absurd (T-not (among o (ops h)) (avoids-at (ops h) x _ e ax) am)

  one-by : (u : Tree) → Led u → One spell u
  one-by (node k f a ts) led v g h x y a' b m ax ax' ay ay' ex ey e =
      let w = some-found (both_in g.symbol h.symbol) zones m in
      let c = w.one in
      let p = and_left (rooted c g.symbol && within c g.symbol && rooted c h.symbol) (within c h.symbol) w.passes in
      let q = and_left (rooted c g.symbol && within c g.symbol) (rooted c h.symbol) p in
      let n = node-at k f a ts g a' in
      let s = begin-tree c v h.symbol y w.inside v h y b (λ k' f' b' us ps i. stops-of k' f' b' us h ps i y ay ey) (and_right (rooted c g.symbol && within c g.symbol && rooted c h.symbol) (within c h.symbol) w.passes) (covers-same (ops h.symbol)) all! refl in
      let env : Env c v h.symbol y g.symbol x = record { inside = w.inside; root = and_left (rooted c g.symbol) (within c g.symbol) q; other-root = and_right (rooted c g.symbol && within c g.symbol) (rooted c h.symbol) p; start = s; shut-x = ax'; shut-y = ay' } in
      let r = led c v h.symbol y g.symbol x env g n.right n.info x (kids-at k f a ts g a') (and_right (rooted c g.symbol) (within c g.symbol) q) (covers-same (ops g.symbol)) top (stops-of k f a ts g n.right n.info x ax ex) e in
      finish c (node k f a ts) v h.symbol x y r.t r.s r.z r.read r.alike r.rest ax'

  all-one : (ts : Forest) → AllLed ts → AllOne spell ts
  all-one nil r = tt
  all-one (cons t ts) r = (one-by t r.0, all-one ts r.1)

  -- ---- two nodes with the same row and the same children

  no-number : (p q r : Bool) → T (not (p || q)) → T (p || q || r) → T r
  no-number true q r n h = absurd n
  no-number false true r n h = absurd n
  no-number false false r n h = h

  zero-number : (k a : ℕ) → T (not (uses_text k || is_kind Kinds.Number k)) → T (number_ok k a) → a ≡ 0
  zero-number k a n h = eqb→eq a 0 (no-number (uses_text k) (is_kind Kinds.Number k) (eqb a 0) n h)

  same-number : (k l a b : ℕ) (w : Bool) → k ≡ l → T (w || not (uses_text k || is_kind Kinds.Number k)) → (T w → spell k a ≡ spell l b) → T (number_ok k a) → T (number_ok l b) → spell k a ≡ spell l b
  same-number k l a b true e n f h h' = f tt
  same-number k l a b false e n f h h' =
      ap₂ (λ (i j : ℕ). spell i j) e (zero-number k a n h ∙ sym (zero-number l b (subst (λ (i : ℕ). T (not (uses_text i || is_kind Kinds.Number i))) e n) h'))

  both-nodes : (k f a : ℕ) (ts : Forest) (g : Place) (ps : List Part) (l h b : ℕ) (us : Forest) (g' : Place) (qs : List Part) (w : Bool) (vs ws : Forest) (x z : List Word) → InfoAt k f a ts g ps → InfoAt l h b us g' qs
      → w ≡ owns ps → Res spell (eqb k l && eqb f h) w (spell k a) (spell l b) vs ws x z → AllAlike spell ts us → Alike spell (node k f a ts) (node l h b us)
  both-nodes k f a ts g ps l h b us g' qs w vs ws x z i j e r al =
      let p = eqb→eq k l (and_left (eqb k l) (eqb f h) r.same) in
      (p, eqb→eq f h (and_right (eqb k l) (eqb f h) r.same), same-number k l a b (owns ps) p i.number (λ t. r.own-same (subst T (sym e) t)) i.numbered j.numbered, (λ n. zero-number k a n i.numbered ∙ sym (zero-number l b (subst (λ (m : ℕ). T (not (uses_text m || is_kind Kinds.Number m))) p n) j.numbered)), al)

  two-heads : (c : ℕ) (e : Bool) (l1 l2 : List Word) (a b : Symbol) (ps qs : List Part) → is_tail ps ≡ false → is_tail qs ≡ false → T (two c e l1 l2 a ps b qs) → (T (clash c a ps b qs) → ⊥) → T (near e l1 l2 ps qs)
  two-heads c e l1 l2 a b ps qs p q h n = go (is_tail ps) (is_tail qs) (near e l1 l2 ps qs) p q h
    where
      go : (b' c' d : Bool) → b' ≡ false → c' ≡ false
          → T (elim b' [ true ↦ elim c' [ true ↦ near e l1 l2 (behind ps) (behind qs) | false ↦ true ] | false ↦ elim c' [ true ↦ true | false ↦ elim d [ true ↦ true | false ↦ clash c a ps b qs ] ] ]) → T d
      go true c' d p q h = absurd (cc)
      go false true d p q h = absurd (cc)
      go false false true p q h = tt
      go false false false p q h = absurd (n h)

  led-head : (k f a : ℕ) (ts : Forest) → AllOne spell ts → (c : ℕ) (V : Tree) (G : Symbol) (y : List Word) (r : Symbol) (x0 : List Word) → Env c V G y r x0 → (g : Place) (ps : List Part) (i : InfoAt k f a ts g ps) (x : List Word) → is_tail ps ≡ false
      → T (all_plain ts) → T (within c g.symbol) → T (covers (ops r) (ops g.symbol)) → Next c r x0 g.symbol x → Stops k f a ts g ps i x → tokens spell (node k f a ts) ++ x ≡ tokens spell V ++ y → Reached c V G y (node k f a ts) x
  led-head k f a ts all c V G y r x0 env g ps i x hd o wi cov nx ax e =
      let s = env.start in
      let j = s.info in
      let h = sym (ap (λ (z : List Word). z ++ x) i.tokens-are) ∙ e ∙ s.all ∙ ap (λ (z : List Word). z ++ s.z) j.tokens-are in
      let n = two-heads c (eqb k s.k && eqb f s.f) (with_else i.rule) (with_else j.rule) i.rule.left j.rule.left ps s.right hd s.head (two-of spell c k f a ts g ps s.k s.f s.a s.ts s.g s.right i j env.inside wi s.level)
      (λ t. clash-no spell c k f a ts g ps s.k s.f s.a s.ts s.g s.right i j r G x0 y x s.z env.inside env.root env.other-root o s.plain! hd s.head t nx (next-of c V G y (node s.k s.f s.a s.ts) s.g.symbol s.z s.read) cov s.covered env.shut-x env.shut-y h) in
      let l : Side spell g (spell k a) (write_out i.times ps) ts = record { plain = o; followed = i.followed } in
      let m : Side spell s.g (spell s.k s.a) (write_out j.times s.right) s.ts = record { plain = s.plain!; followed = j.followed } in
      let q = walk spell starts ps (eqb k s.k && eqb f s.f) (with_else i.rule) (with_else j.rule) (spell k a) (spell s.k s.a) g s.g i.times j.times s.right ts s.ts x s.z all i.slots-ok j.slots-ok l m n ax.over s.shuts.over ax.tail s.shuts.tail (last-of k f a ts g ps i x ax.over) (last-of s.k s.f s.a s.ts s.g s.right j s.z s.shuts.over) h in
      record { t = node s.k s.f s.a s.ts; s = s.g.symbol; z = s.z; read = s.read; alike = both-nodes k f a ts g ps s.k s.f s.a s.ts s.g s.right (owns ps) ts s.ts x s.z i j refl q q.alike; rest = q.rest }

  led-on : (k f a : ℕ) (l : Tree) (ls : Forest) → AllOne spell ls → (c : ℕ) (V : Tree) (G : Symbol) (y : List Word) → Within c zones → (g : Place) (p : Slot) (w : Word) (ps : List Part) (i : InfoAt k f a (cons l ls) g (kid p ∷ word w ∷ ps)) (x : List Word)
      → T (all_plain (cons l ls)) → T (within c g.symbol) → T (avoids (ops g.symbol) y) → Stops k f a (cons l ls) g (kid p ∷ word w ∷ ps) i x
      → (t : Tree) (s : Symbol) (z : List Word) → Read c V G y t s z → Alike spell l t → w ∷ (fill (spell k a) (write_out i.times ps) (tokens_all spell ls) ++ x) ≡ z → Reached c V G y (node k f a (cons l ls)) x
  led-on k f a l ls all c V G y v g p w ps i x o wi ay ax t s z all! al e =
      absurd (T-not (among w (ops g.symbol)) (avoids-at (ops g.symbol) y _ (sym e) ay) (goes-of k f a (cons l ls) g p w ps i).token)
  led-on k f a l ls all c V G y v g p w ps i x o wi ay ax t s z (part k' f' a' t' ts' z' g' p' w' qs j o' am wi' wr av rd) al e =
      let n = two-of spell c k f a (cons l ls) g (kid p ∷ word w ∷ ps) k' f' a' (cons t' ts') g' (kid p' ∷ word w' ∷ qs) i j v wi wi' in
      let q = walk spell starts (word w ∷ ps) (eqb k k' && eqb f f') (with_else i.rule) (with_else j.rule) (spell k a) (spell k' a') g g' i.times j.times (word w' ∷ qs) ls ts' x z' all
      (and_right (symbol_ok p.symbol) (slots (λ s. symbol_ok s.symbol) ps) i.slots-ok) (and_right (symbol_ok p'.symbol) (slots (λ s. symbol_ok s.symbol) qs) j.slots-ok)
      (rest-at k f a l ls g p w ps i o) (rest-at k' f' a' t' ts' g' p' w' qs j o') n ax.over av.over ax.tail av.tail (last-of k f a (cons l ls) g (kid p ∷ word w ∷ ps) i x ax.over) (last-of k' f' a' (cons t' ts') g' (kid p' ∷ word w' ∷ qs) j z' av.over) e in
      record { t = node k' f' a' (cons t' ts'); s = g'.symbol; z = z'; read = rd; alike = both-nodes k f a (cons l ls) g (kid p ∷ word w ∷ ps) k' f' a' (cons t' ts') g' (kid p' ∷ word w' ∷ qs) (owns ps) ls ts' x z' i j refl q (al, q.alike); rest = q.rest }

  led-tail : (k f a : ℕ) (l : Tree) (ls : Forest) → Led l → AllOne spell ls → (c : ℕ) (V : Tree) (G : Symbol) (y : List Word) (r : Symbol) (x0 : List Word) → Env c V G y r x0 → (g : Place) (p : Slot) (w : Word) (ps : List Part) (i : InfoAt k f a (cons l ls) g (kid p ∷ word w ∷ ps)) (x : List Word)
      → T (all_plain (cons l ls)) → T (within c g.symbol) → T (covers (ops r) (ops g.symbol)) → Stops k f a (cons l ls) g (kid p ∷ word w ∷ ps) i x
      → tokens spell (node k f a (cons l ls)) ++ x ≡ tokens spell V ++ y → Reached c V G y (node k f a (cons l ls)) x
  led-tail k f a (node k1 f1 a1 ts1) ls led all c V G y r x0 env g p w ps i x o wi cov ax e =
      let l = node k1 f1 a1 ts1 in
      let q = goes-of k f a (cons l ls) g p w ps i in
      let h = first-at k f a l ls g p (word w ∷ ps) i o in
      let n = node-at k1 f1 a1 ts1 (at_slot g p) h in
      let d = led c V G y r x0 env (at_slot g p) n.right n.info (w ∷ (fill (spell k a) (write_out i.times ps) (tokens_all spell ls) ++ x)) (kids-at k1 f1 a1 ts1 (at_slot g p) h)
      (keeps-at c g.symbol p.symbol env.inside q.kept wi) (covers-both (ops r) (ops g.symbol) (ops p.symbol) cov q.more)
      (step i.rule p w ps (fill (spell k a) (write_out i.times ps) (tokens_all spell ls) ++ x) i.inside i.is-used (keeps-at c g.symbol i.rule.left env.inside i.kept wi) i.right-is (covers-at (ops r) (ops g.symbol) w cov q.token))
      (stops-before k1 f1 a1 ts1 (at_slot g p) n.right n.info w (fill (spell k a) (write_out i.times ps) (tokens_all spell ls) ++ x) (before-of spell k1 f1 a1 ts1 p w (at_slot g p) n.right refl i.before n.info))
      (sym (split k f a l ls g p (word w ∷ ps) i x) ∙ e) in
      led-on k f a l ls all c V G y env.inside g p w ps i x o wi (avoids-less (ops r) (ops g.symbol) y cov env.shut-y) ax d.t d.s d.z d.read d.alike d.rest

  led-by : (k f a : ℕ) (ts : Forest) → AllLed ts → (c : ℕ) (V : Tree) (G : Symbol) (y : List Word) (r : Symbol) (x0 : List Word) → Env c V G y r x0 → (g : Place) (ps : List Part) (i : InfoAt k f a ts g ps) (x : List Word) → T (all_plain ts) → T (within c g.symbol)
      → T (covers (ops r) (ops g.symbol)) → Next c r x0 g.symbol x → Stops k f a ts g ps i x → tokens spell (node k f a ts) ++ x ≡ tokens spell V ++ y → Reached c V G y (node k f a ts) x
  led-by k f a ts all c V G y r x0 env g [] i x o wi cov nx ax e = absurd i.on
  led-by k f a ts all c V G y r x0 env g (word w ∷ ps) i x o wi cov nx ax e = led-head k f a ts (all-one ts all) c V G y r x0 env g (word w ∷ ps) i x refl o wi cov nx ax e
  led-by k f a ts all c V G y r x0 env g (own t ∷ ps) i x o wi cov nx ax e = led-head k f a ts (all-one ts all) c V G y r x0 env g (own t ∷ ps) i x refl o wi cov nx ax e
  led-by k f a ts all c V G y r x0 env g (look bs ∷ ps) i x o wi cov nx ax e = led-head k f a ts (all-one ts all) c V G y r x0 env g (look bs ∷ ps) i x refl o wi cov nx ax e
  led-by k f a nil all c V G y r x0 env g (kid p ∷ ps) i x o wi cov nx ax e = absurd (no-first-child k f a g p ps i)
  led-by k f a (cons l ls) all c V G y r x0 env g (kid p ∷ word w ∷ ps) i x o wi cov nx ax e = led-tail k f a l ls all.0 (all-one ls all.1) c V G y r x0 env g p w ps i x o wi cov ax e
  led-by k f a ts all c V G y r x0 env g ps i x o wi cov nx ax e = absurd i.on

  mutual
    led : (u : Tree) → Led u
    led (node k f a ts) = led-by k f a ts (all-led ts)

    all-led : (ts : Forest) → AllLed ts
    all-led nil = tt
    all-led (cons t ts) = (led t, all-led ts)

  pub one : (u : Tree) → One spell u
  one u = one-by u (led u)

-- ---- from the symbol that is first

expression_ok : T (symbol_ok Expression)
unfolding rules reaches rooted within whole ops shut open_ended
expression_ok = tt

expression_meets : T (meet Expression Expression)
unfolding rooted within
expression_meets = tt

pub one-expression : (spell : ℕ → ℕ → Word) → OneExpression spell
one-expression spell u v g h p q a b d d' e =
    let fine = λ (x : Symbol) (r : x ≡ Expression). subst (λ (y : Symbol). T (symbol_ok y)) (sym r) expression_ok in
    let i : Here spell u g = record { fine = fine g.symbol p; plain = a; derived = d } in
    let j : Here spell v h = record { fine = fine h.symbol q; plain = b; derived = d' } in
    (one spell u v g h [] [] i j (subst (λ (y : Symbol). T (meet g.symbol y)) (sym q) (subst (λ (y : Symbol). T (meet y Expression)) (sym p) expression_meets)) tt tt tt tt tt tt (ap (λ (z : List Word). z ++ []) e)).alike

-- ---- a script

abbrev items-of : Slot → Bool
items-of x = symbol_ok x.symbol && every (first_not x.symbol) (shut x.symbol) && first_not x.symbol (codes "else")

abbrev items-two : List Part → List Part → Bool
items-two (run x ∷ []) (run y ∷ []) = like x y && items-of x && items-of y
items-two ps qs = false

abbrev script-rows : Rule → Rule → Bool
script-rows r s = elim (reaches Script r.left) [ true ↦ elim (reaches Script s.left) [ true ↦ items-two r.right s.right | false ↦ true ] | false ↦ true ]

scripts-ok : T (every (λ r. every (script-rows r) rules) rules)
unfolding rules reaches rooted within whole ops shut open_ended
scripts-ok = tt

module _ (spell : ℕ → ℕ → Word) where
  ones : (us : Forest) → AllOne spell us
  ones nil = tt
  ones (cons u us) = (one spell u, ones us)

  no-items : (o : Word) (zs : List Word) → fill o [] [] ++ [] ≡ zs → T (opens zs) → ⊥
  no-items o zs e h = subst (λ (z : List Word). T (opens z)) (sym e) h

  both-items : (o o' : Word) (m n : ℕ) (us vs : Forest) (ps qs : List Part) → T (items-two ps qs) → T (all_plain us) → T (all_plain vs) → T (follows script o (write_out m ps) (children spell us)) → T (follows script o' (write_out n qs) (children spell vs))
      → fill o (write_out m ps) (tokens_all spell us) ++ [] ≡ fill o' (write_out n qs) (tokens_all spell vs) ++ [] → AllAlike spell us vs
  both-items o o' m n us vs (run x ∷ []) (run y ∷ []) h a b f g e =
      let h2 = and_left (like x y && items-of x) (items-of y) h in
      let i = and_right (like x y) (items-of x) h2 in
      let j = and_right (like x y && items-of x) (items-of y) h in
      let i2 = and_left (symbol_ok x.symbol && every (first_not x.symbol) (shut x.symbol)) (first_not x.symbol (codes "else")) i in
      let j2 = and_left (symbol_ok y.symbol && every (first_not y.symbol) (shut y.symbol)) (first_not y.symbol (codes "else")) j in
      let st : Stop spell script o x [] [] = record { free = λ ls. tt; elseless = λ ls. tt } in
      let st' : Stop spell script o' y [] [] = record { free = λ ls. tt; elseless = λ ls. tt } in
      let s : Side spell script o (each x m []) us = record { plain = a; followed = f } in
      let s' : Side spell script o' (each y n []) vs = record { plain = b; followed = g } in
      (runs-both spell true false o o' script script x y [] [] [] [] (and_left (symbol_ok x.symbol) (every (first_not x.symbol) (shut x.symbol)) i2) (and_left (symbol_ok y.symbol) (every (first_not y.symbol) (shut y.symbol)) j2) (and_left (like x y) (items-of x) h2) st st'
      end (no-closing spell)
      (λ u z k. (start-not spell (starts spell) x (shut x.symbol) (and_right (symbol_ok x.symbol) (every (first_not x.symbol) (shut x.symbol)) i2) u script z k, else-not spell (starts spell) x (and_right (symbol_ok x.symbol && every (first_not x.symbol) (shut x.symbol)) (first_not x.symbol (codes "else")) i) u script z k))
      (λ u z k. (start-not spell (starts spell) y (shut y.symbol) (and_right (symbol_ok y.symbol) (every (first_not y.symbol) (shut y.symbol)) j2) u script z k, else-not spell (starts spell) y (and_right (symbol_ok y.symbol && every (first_not y.symbol) (shut y.symbol)) (first_not y.symbol (codes "else")) j) u script z k))
      (λ ls zs k t. no-items o zs k t) (λ ls zs k t. no-items o' zs k t) m n us vs (ones us) s s' e).alike
    where
      end : (us vs : Forest) → AllOne spell us → Side spell script o [] us → Side spell script o' [] vs → fill o [] (tokens_all spell us) ++ [] ≡ fill o' [] (tokens_all spell vs) ++ [] → Res spell true false o o' us vs [] []
      end nil nil a s s' e = record { same = tt; own-same = λ k. absurd k; alike = tt; rest = refl }
      end nil (cons v vs) a s s' e = absurd s'.followed
      end (cons u us) vs a s s' e = absurd s.followed
  both-items o o' m n us vs ps qs h a b f g e = absurd h

pub one-script : (spell : ℕ → ℕ → Word) → OneScript spell
one-script spell (node k f a us) (node l g b vs) p q d d' e =
    let i = derived spell k f a us script d in
    let j = derived spell l g b vs script d' in
    let r = root spell k f a us i in
    let s = root spell l g b vs j in
    let m = length_f us - singles i.rule.right in
    let n = length_f vs - singles j.rule.right in
    let t = asked (reaches Script j.rule.left) _ (asked (reaches Script i.rule.left) _ (every-at (script-rows i.rule) j.rule rules (every-at (λ r. every (script-rows r) rules) i.rule rules scripts-ok i.inside) j.inside) i.reached) j.reached in
    let left = fill-of k f (length_f us) i.rule (spell k a) (tokens_all spell us) i.inside i.is-for in
    let right = fill-of l g (length_f vs) j.rule (spell l b) (tokens_all spell vs) j.inside j.is-for in
    let al = both-items spell (spell k a) (spell l b) m n us vs i.rule.right j.rule.right t p q i.followed j.followed (ap (λ (z : List Word). z ++ []) (sym left ∙ e ∙ right)) in
    (r.kind-is ∙ sym s.kind-is, r.form-is ∙ sym s.form-is, ap₂ (λ (i j : ℕ). spell i j) (r.kind-is ∙ sym s.kind-is) (r.num-is ∙ sym s.num-is), (λ n. r.num-is ∙ sym s.num-is), al)
