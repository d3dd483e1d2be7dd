-- What every call keeps, and where a sequence begins. Assumes nothing.
use Rattle.std.proofs.Common.{rules, ◌≡◌, Result, Ok, Err, ℕ, ◌+◌, ◌<◌, ◌≤◌, Bool, List, [], ◌∷◌, ◌++◌, map, take, length, get_or, All, sym, refl, ap, ◌∙◌, ⊎_elim, arith}
use Rattle.std.proofs.lemmas.List.{length-map, length-take, get_or-map, get_or_past, map_more}
use Rattle.std.proofs.lemmas.List.Elements.{All-from_recursion, All-get_or}
use Rattle.def_file.specs.Named.{number_of}
use Rattle.def_file.specs.declared.kind.Kind.{Kind}
use Rattle.def_file.specs.declared.kind.Kind.TheVariants.{Array, Ident, Null, Member, Call}
use Rattle.def_tree.specs.Tree.{Core, core, no_core}
use Rattle.def_pass.specs.Scope.{Stack}
use Rattle.words.specs.Tab.{tab, sum, below_or_not}
use Rattle.words.specs.Layout.{tree}
use Rattle.words.specs.Moved.{Cleared}
use Rattle.words.proofs.Nodes.{tree-length}
use Rattle.words_scopes.specs.State.{Good, Becomes, Names, heads, heads_at}
use Rattle.words_scopes.proofs.Index.{beside_none}
use Rattle.words_nodes.specs.Nodes.{Planted, Apart}
use Rattle.scope_values.specs.Steps as records
use Rattle.refusal.specs.declared.Refusal.{Refusal}
use Rattle.scope_calls.specs.Begun.{Begun}

pub keep : {w u : List ℕ} → Planted w → Good u → tree u ≡ tree w → Planted u
keep {w} {u} r g e = record { good = g; one = rw (sym e) at r.one }

pub became : {w u : List ℕ} {st : Stack} → Planted w → Becomes w u st → Planted u
became r b = keep r b.good b.tree

-- a step keeps it, whether it is refused or not
pub limited : (n : ℕ) (t : Bool) (w u : List ℕ) (st : Stack) (s : Result Unit Refusal) → Planted w → records.Limited n t w u st s → Planted u
limited n t w u st (Ok _) r l = became r l.0
limited n t w u st (Err _) r l = rw l.2 r

pub late : (w u : List ℕ) (st : Stack) (s : Result Unit Refusal) → Planted w → records.GrownLate w u st s → Planted u
late w u st (Ok _) r l = became r l.0
late w u st (Err _) r l = keep r l.2.good l.2.tree

-- no scope and no node
pub cleared : {w u : List ℕ} → 16384 ≤ length w → Cleared w u → Begun u []
unfolding tree tab
cleared {w} {u} l c = record {
  long = omega (arith, c.size);
  bindings = c.here 1 (omega arith);
  scopes = c.here 2 (omega arith);
  constants = c.here 3 (omega arith);
  index = λ x l. c.here (7568 + x) (omega arith);
  is = rw (c.here 0 (omega arith)) refl;
}

pub grown : {w u : List ℕ} (c : Core) → (tree u ≡ tree w ++ (c ∷ [])) × Apart w u → (xs : List Core) → Begun w xs → Begun u (xs ++ (c ∷ []))
grown {w} {u} c h xs b = record {
  long = rw (sym h.1.size) at b.long;
  bindings = h.1.low 1 (omega arith) (omega arith) ∙ b.bindings;
  scopes = h.1.low 2 (omega arith) (omega arith) ∙ b.scopes;
  constants = h.1.low 3 (omega arith) (omega arith) ∙ b.constants;
  index = λ x l. h.1.high (7568 + x) (omega arith) ∙ b.index x l;
  is = h.0 ∙ ap (λ (ys : List Core). ys ++ (c ∷ [])) b.is;
}

-- how many nodes there are
pub size : {w : List ℕ} {xs : List Core} → Begun w xs → get_or w 0 0 ≡ length xs
size {w} b = sym (tree-length w) ∙ ap (λ (t : List Core). length t) b.is

-- words without a scope are good
pub begun-good : {w : List ℕ} {xs : List Core} → Begun w xs → length xs ≤ 1024 → Names xs → Good w
unfolding heads heads_at sum
begun-good {w} {xs} b l n = record {
  long = b.long;
  nodes = rw (size b) l;
  count = rw b.bindings (omega arith);
  depth = rw b.scopes (omega arith);
  ccount = rw b.constants (omega arith);
  vals = rw b.bindings (omega arith);
  cvals = rw b.constants (omega arith);
  live = rw (b.bindings, b.constants) (omega arith);
  recorded = rw (b.bindings, b.constants) (omega arith);
  fits = rw b.scopes b.bindings;
  cfits = rw b.scopes b.constants;
  ids = λ k h. absurd (omega (arith, b.bindings, h));
  cids = λ k h. absurd (omega (arith, b.constants, h));
  names = rw b.is n;
  whole = λ k h. absurd (omega (arith, b.bindings, h));
  cwhole = λ k h. absurd (omega (arith, b.constants, h));
  beside = beside_none w b.bindings b.scopes b.index;
  cfree = λ k h. absurd (omega (arith, b.constants, h));
}

-- the tree that values are taken from: of each node its kind, its number of children and its number
abbrev pub given : List (Kind × ℕ × ℕ)
given =
    (Array, 6, 0) ∷ (Ident, 0, 0) ∷ (Ident, 0, 1) ∷ (Null, 0, 3) ∷ (Member, 1, 4) ∷ (Ident, 0, 0)
    ∷ (Array, 2, 0) ∷ (Null, 0, 7) ∷ (Ident, 0, 1) ∷ (Call, 1, 0) ∷ (Ident, 0, 2) ∷ []

abbrev pub node-of : Kind × ℕ × ℕ → Core
node-of x = core (number_of x.0) 0 x.1 x.2

abbrev pub planted : List Core
planted = map node-of given

abbrev Fits : Kind × ℕ × ℕ → Type 0
Fits x = (number_of x.0 < 64) × (x.1 < 65536) × (x.2 < 8)

fits : All Fits given
fits = All-from_recursion Fits given (search rules)

-- one more of them
module _ {w : List ℕ} (k : ℕ) (l : k < 11) (d : Kind × ℕ × ℕ) where
  pub one_more : Begun w (map node-of (take k given) ++ (node-of (get_or given k d) ∷ [])) → Begun w (map node-of (take (k + 1) given))
  one_more b = rw (map_more node-of given k d l) b

  pub room : Begun w (map node-of (take k given)) → (16384 ≤ length w) × (get_or w 0 0 < 1024) × (number_of (get_or given k d).0 < 64) × ((get_or given k d).1 < 65536)
  room b =
      let f : Fits (get_or given k d) = All-get_or Fits given k d l fits in
      (b.long, omega (arith, size b, length-map (take k given) node-of, length-take k given), f.0, f.1)

-- every number there is below 8
small : (j : ℕ) → (get_or planted j no_core).num < 8
small j = ⊎_elim
    (λ (l : j < 11). let f : Fits (get_or given j (Null, 0, 0)) = All-get_or Fits given j (Null, 0, 0) l fits in rw (get_or-map node-of given j (Null, 0, 0) no_core l) f.2)
    (λ (h : 11 ≤ j). rw (get_or_past planted j no_core h) (omega arith)) (below_or_not j 11)

pub begun-planted : {w : List ℕ} → Begun w planted → Planted w
begun-planted {w} b = record { good = begun-good b (omega arith) (λ j z. omega (arith, small j)); one = rw b.is (record { is = refl }) }

-- a byte that is not 0 stands within the slice
pub inside : {n i r : ℕ} → (n ≤ i → r ≡ 0) → (r ≡ 0 → ⊥) → i < n
inside {n} {i} h z = ⊎_elim (λ l. l) (λ l. absurd (z (h l))) (below_or_not i n)
