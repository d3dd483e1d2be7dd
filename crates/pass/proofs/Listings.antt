-- The ends of the C functions that tell the root bindings: row 1, rows 2 to 9, row 10, and all bindings or the one of a number. Assumes nothing.
use mathlib.Core.Path.{◌≡◌, refl, sym, ap, ◌∙◌, subst}
use mathlib.Core.Bool.{Bool, true, false}
use mathlib.Core.Option.{Option, none, some}
use mathlib.Core.List.{List, map}
use Prim.Native.Nat.{ℕ}
use native.Mathlib.Omega.{arith}
use lib.Dec.{T as Test}
use lib.ListN.{length, get_or}
use Rattle.words.specs.Moved.{Cleared}
use Rattle.def_file.specs.declared.Raw.{Raw}
use Rattle.def_file.specs.Script.{Script, zero_node}
use Rattle.def_file.specs.Read.{Read, bad, script, nodes_ok}
use Rattle.def_under.specs.Reading.{lent}
use Rattle.def_under.specs.Entry.{pass_under}
use Rattle.std.specs.Prelude.{Result, Ok, Err, Option as Maybe}
use Rattle.refusal.specs.declared.Refusal.{Refusal}
use Rattle.refusal.specs.declared.Refusal.TheVariants.{Call}
use Rattle.refusal.specs.Number.{number}
use Rattle.def_pass.specs.Script.{Root, Answer, root_of, pass_read}
use Rattle.def_pass.specs.Walk.{Rooted, root_marks}
use Rattle.laws_flat.specs.WalkF.{OutcomeF, refused_f}
use Rattle.laws_flat.specs.PassF.{answer_f, pass_f, pass_read_f}
use Rattle.laws_flat.proofs.File.{script-same}
use Rattle.words_scopes.specs.State.{stack}
use Rattle.words_scopes.proofs.Split.{tested}
use Rattle.pass.proofs.Entries.{read-fits, err-same}
use Rattle.file_copy.specs.Copy.{WordsAre}
use Rattle.pass_run.specs.declared.Ran.{Ran}
use Rattle.pass_answers.specs.declared.Roots.{Roots}
use Rattle.pass_run.specs.Inline.{read_runs, Final, FileIs}
use Rattle.def_pass.specs.Entry.{enough}
use Rattle.pass_roots.specs.Listing.{Known, roots_in, Listing, refused, listed, in_room, left, SaysSo, WroteRoots}
use Rattle.pass_roots.specs.declared.Root.{Root as Binding}
use Rattle.pass_roots.specs.Nth.{nth, nth_is}
use Rattle.pass_answers.specs.declared.RootBinding.{RootBinding}
use Rattle.pass_answers.specs.Roots.{said, numbers, counted, NthRoot, stopped, given, nth_numbers, bound}
use Rattle.pass_answers.specs.Under.{over_under, listing_under, nth_under, RootsUnderIs, RootUnderIs}
use Rattle.pass_run.proofs.Files.{is_found, node-count}

-- what is said of the root bindings: how it ends, by row 1, and by the others
module _ {Z : Type 0} (stop : ℕ → Z) (of : List Root → Z) where
  same-said : (n : ℕ) (x : Read) → ((s : Script) → x ≡ script s → Test (nodes_ok s)) → said stop of (pass_read_f n x) ≡ said stop of (pass_read n x)
  same-said n (bad m) h = refl
  same-said n (script s) h = ap (λ (x : Answer). said stop of x) (script-same n s (h s refl))

  over_by : (T : List ℕ) (n words : ℕ) (bs : List ℕ) (p : Bool) → enough n words ≡ p → over_under stop of n words T bs ≡ elim p [ false ↦ stop 1 | true ↦ said stop of (pass_read_f n (lent T bs)) ]
  unfolding over_under pass_under
  over_by T n words bs p e =
      ap {B = Z} (λ (q : Bool). elim q [ false ↦ stop 1 | true ↦ said stop of (pass_read n (lent T bs)) ]) e
      ∙ ap {B = Z} (λ (z : Z). elim p [ false ↦ stop 1 | true ↦ z ]) (sym (same-said n (lent T bs) (read-fits T bs)))

  none_said : (n m : ℕ) (x : Read) → refused_f m ≡ read_runs n x → said stop of (pass_read_f n x) ≡ stop m
  unfolding pass_f
  none_said n m (bad k) e = ap stop (sym (number m k e))
    where
      number : (m k : ℕ) → refused_f m ≡ refused_f k → m ≡ k
      number m k e = cc
  none_said n m (script s) e = ap (λ (x : OutcomeF). said stop of (answer_f s x)) (sym e)

  pub row_one : (T : List ℕ) (n words : ℕ) (bs : List ℕ) → enough n words ≡ false → over_under stop of n words T bs ≡ stop 1
  row_one T n words bs e = over_by T n words bs false e

  pub row-middle : (T : List ℕ) {bs w u : List ℕ} (n : ℕ) (m : Refusal) → enough n (length w) ≡ true → FileIs (lent T bs) bs w u n (Err m) → over_under stop of n (length w) T bs ≡ stop (number m)
  row-middle T {bs} {w} n m e G = over_by T n (length w) bs true e ∙ none_said n (number m) (lent T bs) G.is

roots-is : {T bs r r' w w' : List ℕ} {c : Roots} (n : ℕ) (p : Bool) (z : Listing) → enough n (length w) ≡ p → listing_under n (length w) T bs (length r) ≡ z → c ≡ numbers z → r' ≡ left r z → WordsAre w w' p → RootsUnderIs T bs r r' w w' n c
roots-is {T} {bs} {r} {r'} {w} {w'} n p z q e a l h = record { answer = a ∙ ap numbers (sym e); roots = l ∙ ap (left r) (sym e); words = subst (WordsAre w w') (sym q) h }

pub first-row : {T bs r w : List ℕ} (n : ℕ) → enough n (length w) ≡ false → RootsUnderIs T bs r r w w n (counted (Err Call))
first-row {T} {bs} {r} {w} n e = roots-is n false (refused 1) e (row_one refused (in_room (length r)) T n (length w) bs e) refl refl refl

-- rows 14 and 15, and 2 to 9
pub middle-row : {T bs r w u : List ℕ} {x : Result Ran Refusal} (n : ℕ) (m : Refusal) → enough n (length w) ≡ true → FileIs (lent T bs) bs w u n x → x ≡ Err m → RootsUnderIs T bs r r w u n (counted (Err m))
middle-row {T} {bs} {r} {w} {u} {x} n m e F q =
    let G : FileIs (lent T bs) bs w u n (Err m) = subst (FileIs (lent T bs) bs w u n) q F in
    roots-is n true (refused (number m)) e (row-middle refused (in_room (length r)) T n m e G) refl refl G.words

-- row 1 and those
pub no-rows : {T bs r w u : List ℕ} {n : ℕ} {x : Result Ran Refusal} → (enough n (length w) ≡ false → (x ≡ Err Call) × (u ≡ w)) → (enough n (length w) ≡ true → FileIs (lent T bs) bs w u n x)
    → (m : Refusal) → x ≡ Err m → RootsUnderIs T bs r r w u n (counted (Err m))
no-rows {w = w} {n = n} first rest m q = tested (enough n (length w))
    (λ e. middle-row n m e (rest e) q)
    (λ e. let f = first e in let s : m ≡ Call = err-same (sym q ∙ f.0) in rw (s, f.1) (first-row n e))

-- the identifiers are those of the file's nodes
pub known : {x : Read} {bs w u : List ℕ} → Final x bs w u → Known bs u
known {x} {bs} F = record { long = F.listed.long; few = F.listed.few; low = F.listed.low; room = λ i h. omega (arith, F.listed.high i h, node-count bs F.script F.is, (is_found bs F.script F.is).head.long) }

-- the answer's numbers, by what writing answered
says_so : (z : Result ℕ Refusal) (x : Listing) → SaysSo z x → counted z ≡ numbers x
says_so (Ok n) (refused m) h = absurd h
says_so (Ok n) (listed rs) h = cc
says_so (Err k) (refused m) h = cc
says_so (Err k) (listed rs) h = absurd h

-- the binding of a number: the answer's numbers, and the rows
tells-so : (r : Option Root) → bound (Ok (nth_is r)) ≡ nth_numbers (given r)
tells-so none = refl
tells-so (some r) = refl

root_is : {T bs w w' : List ℕ} {c : RootBinding} (n i : ℕ) (p : Bool) (z : NthRoot) → enough n (length w) ≡ p → nth_under n (length w) T bs i ≡ z → c ≡ nth_numbers z → WordsAre w w' p → RootUnderIs T bs w w' n i c
root_is {T} {bs} {w} {w'} n i p z q e a h = record { answer = a ∙ ap nth_numbers (sym e); words = subst (WordsAre w w') (sym q) h }

pub nth-first : {T bs w : List ℕ} (n i : ℕ) → enough n (length w) ≡ false → RootUnderIs T bs w w n i (bound (Err Call))
nth-first {T} {bs} {w} n i e = root_is n i false (stopped 1) e (row_one stopped (λ rs. given (nth i rs)) T n (length w) bs e) refl refl

pub nth-middle : {T bs w u : List ℕ} {x : Result Ran Refusal} (n i : ℕ) (m : Refusal) → enough n (length w) ≡ true → FileIs (lent T bs) bs w u n x → x ≡ Err m → RootUnderIs T bs w u n i (bound (Err m))
nth-middle {T} {bs} {w} {u} {x} n i m e F q =
    let G : FileIs (lent T bs) bs w u n (Err m) = subst (FileIs (lent T bs) bs w u n) q F in
    root_is n i true (stopped (number m)) e (row-middle stopped (λ rs. given (nth i rs)) T n m e G) refl G.words

pub no-nth : {T bs w u : List ℕ} {n : ℕ} {x : Result Ran Refusal} → (enough n (length w) ≡ false → (x ≡ Err Call) × (u ≡ w)) → (enough n (length w) ≡ true → FileIs (lent T bs) bs w u n x)
    → (i : ℕ) (m : Refusal) → x ≡ Err m → RootUnderIs T bs w u n i (bound (Err m))
no-nth {w = w} {n = n} first rest i m q = tested (enough n (length w))
    (λ e. nth-middle n i m e (rest e) q)
    (λ e. let f = first e in let s : m ≡ Call = err-same (sym q ∙ f.0) in rw (s, f.1) (nth-first n i e))

-- all bindings, or row 10
abbrev as_root : Raw → Bool → ℕ → Root
as_root x b n = record { key = x; mark = b; count = n }

module _ (T : List ℕ) {bs w u : List ℕ} {x : Result Ran Refusal} {n : ℕ} {a : Ran} (f : FileIs (lent T bs) bs w u n x) (q : x ≡ Ok a) where
  ran : FileIs (lent T bs) bs w u n (Ok a)
  ran = subst (FileIs (lent T bs) bs w u n) q f

  same-roots : roots_in bs u ≡ map (root_of ran.words.script) (root_marks (stack u))
  unfolding root_of
  same-roots = ap (λ (is : List Raw). map (λ (r : Rooted). as_root (get_or is r.0 zero_node) r.1 r.2) (root_marks (stack u))) ran.words.ids

  pub row_last : {Z : Type 0} (stop : ℕ → Z) (of : List Root → Z) → enough n (length w) ≡ true → over_under stop of n (length w) T bs ≡ of (roots_in bs u)
  unfolding pass_f
  row_last stop of e =
      over_by stop of T n (length w) bs true e
      ∙ ap (λ (x : Read). said stop of (pass_read_f n x)) ran.words.found
      ∙ ap (λ (x : OutcomeF). said stop of (answer_f ran.words.script x)) (sym (ran.is ∙ ap (read_runs n) ran.words.found))
      ∙ ap of (sym same-roots)

  pub words_are : {w' : List ℕ} → Cleared u w' → WordsAre w w' true
  words_are C = record { size = C.size ∙ ran.words.kept.size; here = C.here; rest = C.rest ∙ ran.words.kept.rest }

  pub last_row : {r r' w' : List ℕ} {z : Result ℕ Refusal} → WroteRoots r r' (in_room (length r) (roots_in bs u)) z → Cleared u w' → enough n (length w) ≡ true → RootsUnderIs T bs r r' w w' n (counted z)
  last_row {r} {r'} {w'} {z} O C e =
      roots-is n true (in_room (length r) (roots_in bs u)) e
      (row_last refused (in_room (length r)) e)
      (says_so z (in_room (length r) (roots_in bs u)) O.says)
      O.leaves
      (words_are C)

  -- the binding of a number
  pub nth-row : {w' : List ℕ} {z : Maybe Binding} (i : ℕ) → z ≡ nth_is (nth i (roots_in bs u)) → Cleared u w' → enough n (length w) ≡ true → RootUnderIs T bs w w' n i (bound (Ok z))
  nth-row i O C e =
      root_is n i true (given (nth i (roots_in bs u))) e (row_last stopped (λ rs. given (nth i rs)) e) (ap (λ (o : Maybe Binding). bound (Ok o)) O ∙ tells-so (nth i (roots_in bs u))) (words_are C)
