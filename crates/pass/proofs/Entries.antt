-- The ends of the C function of the pass: row 1, rows 2 to 9, row 10, and the whole result. Assumes nothing.
use mathlib.Core.Path.{◌≡◌, refl, sym, ap, ◌∙◌, subst}
use mathlib.Core.Bool.{Bool, true, false}
use mathlib.Core.List.{List, [], ◌∷◌, map}
use Prim.Native.Nat.{ℕ, ◌≤◌}
use native.Mathlib.Omega.{arith}
use lib.Dec.{T as Test, leb}
use lib.ListN.{length, get_or}
use Rattle.def_tree.specs.Base.{to_nat}
use Rattle.def_tree.specs.Tree.{Core, plant, first_t}
use Rattle.words.specs.Layout.{tree}
use Rattle.words.specs.Moved.{Cleared}
use Rattle.words.proofs.Nodes.{tree-length}
use Rattle.def_file.specs.declared.Raw.{Raw}
use Rattle.def_file.specs.Script.{Script}
use Rattle.def_file.specs.Core.{Out, back}
use Rattle.def_file.specs.Read.{Read, bad, script, nodes_ok}
use Rattle.def_file.specs.Write.{file}
use Rattle.laws_roundtrip.specs.Fits.{Bytes}
use Rattle.laws_roundtrip.proofs.Round.{found}
use Rattle.def_under.specs.Reading.{lent}
use Rattle.def_under.specs.Entry.{entry_under}
use Rattle.def_under.proofs.Reading.{lent-read}
use Rattle.file_read.specs.Idents.{Listed}
use Rattle.std.specs.Prelude.{Result, Ok, Err}
use Rattle.refusal.specs.declared.Refusal.{Refusal}
use Rattle.refusal.specs.declared.Refusal.TheVariants.{Call}
use Rattle.refusal.specs.Number.{number}
use Rattle.file_write.specs.Written.{Answer as Said, refused as no_room, wrote, says, in_room, written as writes, left as leaves, result_bytes, Wrote}
use Rattle.file_write.proofs.Tied.{wrote-file}
use Rattle.def_pass.specs.Script.{root_of}
use Rattle.def_pass.specs.Entry.{Entry, refused, passed, written, enough, entry_read}
use Rattle.def_pass.specs.Walk.{root_marks}
use Rattle.laws_flat.specs.WalkF.{OutcomeF, refused_f}
use Rattle.laws_flat.specs.PassF.{answer_f, pass_f, entry_read_f}
use Rattle.laws_flat.proofs.File.{script-same}
use Rattle.words_scopes.specs.State.{stack}
use Rattle.words_scopes.proofs.Split.{tested}
use Rattle.words_nodes.specs.Nodes.{Planted}
use Rattle.words_nodes.proofs.Trees.{count-some, length-flat}
use Rattle.file_copy.specs.Copy.{WordsAre}
use Rattle.pass_run.specs.declared.Ran.{Ran}
use Rattle.pass_answers.specs.declared.Inlined.{Inlined}
use Rattle.pass_run.specs.Run.{outcome}
use Rattle.pass_run.specs.Inline.{read_runs, Final, FileIs}
use Rattle.pass_answers.specs.Entry.{numbers, inlined, left}
use Rattle.pass_answers.specs.Under.{InlineUnderIs}
use Rattle.pass_run.proofs.Files.{node-count}

-- how it ends, by row 1
pub read-fits : (T bs : List ℕ) (s : Script) → lent T bs ≡ script s → Test (nodes_ok s)
read-fits T bs s e = subst Test (sym (found bs s (lent-read T bs s e)).shape) tt

same-entry : (n room : ℕ) (x : Read) → ((s : Script) → x ≡ script s → Test (nodes_ok s)) → entry_read_f n room x ≡ entry_read n room x
same-entry n room (bad m) h = refl
same-entry n room (script s) h = ap (written room s) (script-same n s (h s refl))

entry-by : (T : List ℕ) (n words : ℕ) (bs : List ℕ) (room : ℕ) (p : Bool) → enough n words ≡ p → entry_under n words T bs room ≡ elim p [ false ↦ refused 1 | true ↦ entry_read_f n room (lent T bs) ]
unfolding entry_under
entry-by T n words bs room p e =
    ap {B = Entry} (λ (q : Bool). elim q [ false ↦ refused 1 | true ↦ entry_read n room (lent T bs) ]) e
    ∙ ap {B = Entry} (λ (z : Entry). elim p [ false ↦ refused 1 | true ↦ z ]) (sym (same-entry n room (lent T bs) (read-fits T bs)))

inline-is : {T bs r r' w w' : List ℕ} {c : Inlined} (n : ℕ) (p : Bool) (z : Entry) → enough n (length w) ≡ p → entry_under n (length w) T bs (length r) ≡ z → c ≡ numbers z → r' ≡ left r z → WordsAre w w' p → InlineUnderIs T bs r r' w w' n c
inline-is {T} {bs} {r} {r'} {w} {w'} n p z q e a l h = record { answer = a ∙ ap numbers (sym e); result = l ∙ ap (left r) (sym e); words = subst (WordsAre w w') (sym q) h }

pub first-row : {T bs r w : List ℕ} (n : ℕ) → enough n (length w) ≡ false → InlineUnderIs T bs r r w w n (inlined (Err Call))
first-row {T} {bs} {r} {w} n e = inline-is n false (refused 1) e (entry-by T n (length w) bs (length r) false e) refl refl refl

-- rows 14 and 15, and 2 to 9
no-entry : (n room m : ℕ) (x : Read) → refused_f m ≡ read_runs n x → entry_read_f n room x ≡ refused m
unfolding pass_f
no-entry n room m (bad k) e = ap {B = Entry} (λ (i : ℕ). refused i) (sym (number m k e))
  where
    number : (m k : ℕ) → refused_f m ≡ refused_f k → m ≡ k
    number m k e = cc
no-entry n room m (script s) e = ap (λ (x : OutcomeF). written room s (answer_f s x)) (sym e)

pub middle-row : {T bs r w u : List ℕ} {x : Result Ran Refusal} (n : ℕ) (m : Refusal) → enough n (length w) ≡ true → FileIs (lent T bs) bs w u n x → x ≡ Err m → InlineUnderIs T bs r r w u n (inlined (Err m))
middle-row {T} {bs} {r} {w} {u} {x} n m e F q =
    let G : FileIs (lent T bs) bs w u n (Err m) = subst (FileIs (lent T bs) bs w u n) q F in
    inline-is n true (refused (number m)) e (entry-by T n (length w) bs (length r) true e ∙ no-entry n (length r) (number m) (lent T bs) G.is) refl refl G.words

-- rows 1 to 9, by how they ended
err-ok : {m : Refusal} {a : Ran} → ◌≡◌ {A = Result Ran Refusal} (Err m) (Ok a) → ⊥
err-ok q = let y : ◌≡◌ {A = ℕ} 0 1 = cc in omega arith

pub err-same : {m k : Refusal} → ◌≡◌ {A = Result Ran Refusal} (Err m) (Err k) → m ≡ k
err-same q = cc

module _ (T : List ℕ) {bs w u : List ℕ} {n : ℕ} {x : Result Ran Refusal} (first : enough n (length w) ≡ false → (x ≡ Err Call) × (u ≡ w)) (rest : enough n (length w) ≡ true → FileIs (lent T bs) bs w u n x) where
  pub ran-enough : {a : Ran} → x ≡ Ok a → enough n (length w) ≡ true
  ran-enough q = tested (enough n (length w)) (λ e. e) (λ e. absurd (err-ok (sym (first e).0 ∙ q)))

  pub ran-file : {a : Ran} → x ≡ Ok a → FileIs (lent T bs) bs w u n x
  ran-file q = rest (ran-enough q)

  pub refused-row : {r : List ℕ} (m : Refusal) → x ≡ Err m → InlineUnderIs T bs r r w u n (inlined (Err m))
  refused-row m q = tested (enough n (length w))
      (λ e. middle-row n m e (rest e) q)
      (λ e. let f = first e in let s : m ≡ Call = err-same (sym q ∙ f.0) in rw (s, f.1) (first-row n e))

-- a result
map-raw : (s : Script) (cs : List Core) → map (λ (x : Out). x.raw) (map (back s) cs) ≡ map (λ (c : Core). (back s c).raw) cs
map-raw s [] = refl
map-raw s (c ∷ cs) = ap (λ (xs : List Raw). (back s c).raw ∷ xs) (map-raw s cs)

some-node : {w : List ℕ} → Planted w → 1 ≤ get_or w 0 0
some-node {w} p =
    let t = first_t (plant (tree w)) in
    omega (arith, count-some t, length-flat t [], ap (λ (xs : List Core). length xs) p.one.is, tree-length w)

-- the answer's numbers, by what writing answered
abbrev answered : Ran → Said → Inlined
answered a (wrote n) = record { refused = 0; length = n; runs = a.runs; changed = to_nat a.changed }
answered a (no_room m) = record { refused = m; length = 0; runs = 0; changed = 0 }

module _ (T : List ℕ) {bs w u : List ℕ} (F : Final (lent T bs) bs w u) where
  -- the definition's bytes
  abbrev out : List ℕ
  out = file (record { nodes = map (λ (x : Out). x.raw) (map (back F.script) (tree u)); texts = F.script.texts })

  abbrev ended : Ran → ℕ → Entry
  ended a room = elim (leb (length out) room) [ true ↦ passed (length out) a.runs a.changed out (map (root_of F.script) (root_marks (stack u))) | false ↦ refused 10 ]

  some-entry : (n room : ℕ) (a : Ran) → outcome (Ok a) u ≡ read_runs n (lent T bs) → entry_read_f n room (lent T bs) ≡ ended a room
  unfolding pass_f
  some-entry n room a e =
      ap (entry_read_f n room) F.found
      ∙ ap (λ (x : OutcomeF). written room F.script (answer_f F.script x)) (sym (e ∙ ap (read_runs n) F.found))

  module _ (y : Bytes bs) {r r' : List ℕ} {x : Result ℕ Refusal} (O : Wrote (result_bytes bs u) r r' (writes bs u (length r)) x) where
    wrote-out : Wrote out r r' (in_room (length out) (length r)) x
    wrote-out =
        subst (λ (xs : List Raw). let o = file (record { nodes = xs; texts = F.script.texts }) in Wrote o r r' (in_room (length o) (length r)) x) (sym (map-raw F.script (tree u)))
        (wrote-file bs u F.script F.is (subst (λ (m : ℕ). Listed u m) (node-count bs F.script F.is) F.listed) F.ids y F.listed.long
        (some-node F.planted) F.planted.good.nodes r r' x O)

    module _ {w' : List ℕ} (C : Cleared u w') (n : ℕ) (a : Ran) (e : enough n (length w) ≡ true) (is : outcome (Ok a) u ≡ read_runs n (lent T bs)) where
      last_row : (z : Result ℕ Refusal) → x ≡ z → InlineUnderIs T bs r r' w w' n (answered a (says z))
      last_row z q = go (leb (length out) (length r)) refl
        where
          cleared : Cleared w w'
          cleared = record { size = C.size ∙ F.kept.size; here = C.here; rest = C.rest ∙ F.kept.rest }

          said : says z ≡ in_room (length out) (length r)
          said = ap says (sym q) ∙ wrote-out.is

          go : (p : Bool) → leb (length out) (length r) ≡ p → InlineUnderIs T bs r r' w w' n (answered a (says z))
          go p h =
              inline-is n true (by p) e
              (entry-by T n (length w) bs (length r) true e ∙ some-entry n (length r) a is ∙ ap by h)
              (ap (answered a) (said ∙ ap room h) ∙ numbers-by p)
              (wrote-out.leaves ∙ ap (λ (b : Bool). leaves out r (room b)) h ∙ left_by p)
              cleared
            where
              by : Bool → Entry
              by b = elim b [ true ↦ passed (length out) a.runs a.changed out (map (root_of F.script) (root_marks (stack u))) | false ↦ refused 10 ]

              room : Bool → Said
              room b = elim b [ false ↦ no_room 10 | true ↦ wrote (length out) ]

              numbers-by : (b : Bool) → answered a (room b) ≡ numbers (by b)
              numbers-by true = refl
              numbers-by false = refl

              left_by : (b : Bool) → leaves out r (room b) ≡ left r (by b)
              left_by true = refl
              left_by false = refl

-- from the file on
module _ {y : Read} {bs w u : List ℕ} {x : Result Ran Refusal} {n : ℕ} {a : Ran} (f : FileIs y bs w u n x) (q : x ≡ Ok a) where
  pub ran : FileIs y bs w u n (Ok a)
  ran = subst (FileIs y bs w u n) q f

  pub final : Final y bs w u
  final = ran.words

module _ (T : List ℕ) {bs w u : List ℕ} {x : Result Ran Refusal} {n : ℕ} {a : Ran} (f : FileIs (lent T bs) bs w u n x) (q : x ≡ Ok a) where
  module _ (y : Bytes bs) {r r' w' : List ℕ} {z : Result ℕ Refusal} (O : Wrote (result_bytes bs u) r r' (writes bs u (length r)) z) (C : Cleared u w') (e : enough n (length w) ≡ true) where
    pub wrote-row : (l : ℕ) → z ≡ Ok l → InlineUnderIs T bs r r' w w' n (inlined (Ok (record { length = l; runs = a.runs; changed = a.changed })))
    wrote-row l h = last_row T (final f q) y O C n a e (ran f q).is (Ok l) h

    pub short-row : (m : Refusal) → z ≡ Err m → InlineUnderIs T bs r r' w w' n (inlined (Err m))
    short-row m h = last_row T (final f q) y O C n a e (ran f q).is (Err m) h
