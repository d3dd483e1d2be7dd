-- The pass on a script and on its canonical form ends alike. Assumes nothing.
use mathlib.Core.Path.{◌≡◌, refl, sym, ap, ◌∙◌, subst, subst₂}
use mathlib.Core.Bool.{Bool, true, false}
use mathlib.Core.List.{List, [], ◌∷◌, map}
use Prim.Native.Nat.{ℕ, zero, suc, ◌≤◌}
use native.Mathlib.Omega.{arith}
use native.Mathlib.Decide.{dec_le}
use lib.Dec.{T, eqb, leb, eqb→eq, le→leb}
use lib.ListN.{length, get_or-eq_default}
use borrow.Author.Tests.{both_ways}
use Rattle.def_tree.specs.Base.{pick}
use Rattle.def_tree.specs.Tree.{Core, flat, flats, plant}
use Rattle.def_file.specs.declared.Raw.{Raw}
use Rattle.def_file.specs.Kinds.{uses_text}
use Rattle.def_file.specs.Script.{Script, idents, text_at, node_at, zero_node}
use Rattle.def_file.specs.Read.{Read, script, nodes_ok, read}
use Rattle.def_file.specs.Write.{file}
use Rattle.def_file.specs.Core.{has_text, core_nodes, Out, back, lit_out, id_out, plain_out}
use Rattle.def_pass.specs.Tree.{Tree, Forest, node, nil, cons, head_t}
use Rattle.def_pass.specs.Walk.{Outcome, refused, result}
use Rattle.def_pass.specs.Script.{root_of, answer, pass_tree, pass}
use Rattle.def_pass.specs.Entry as entries
use Rattle.def_pass.specs.Entry.{written, enough, entry_read, entry}
use Rattle.def_pass.specs.Paired.{file_of}
use Rattle.laws_roundtrip.specs.Fits.{Fits}
use Rattle.laws_roundtrip.proofs.Round.{fits_read}
use Rattle.laws_pass.specs.Again.{raws_of, outcome, AgainIn}
use Rattle.def_tree.proofs.Tests.{is_T}
use Rattle.laws_pass.proofs.All.{All}
use Rattle.laws_pass.proofs.Pairs.{twins-at, idents-twins, same-cores}
use Rattle.laws_pass.proofs.Origin.{lit_kind, id_kind, NamedC, NamedOut, flat-named, out-named}
use Rattle.laws_pass.proofs.Again.{id-text, WordedT, WordedF, WordedC, WordedOut, out-worded}
use Rattle.laws_pass.proofs.FromFile.{ReadOk}
use Rattle.laws_pass.proofs.ReadsAgain.{again-in}
use Rattle.def_canon.specs.Canon.{canon}
use Rattle.def_canon.specs.Differ.{Differ, SameEnds}
use Rattle.laws_canon.specs.Canon.{Commutes}
use Rattle.laws_canon.proofs.Uses.{AllZip}
use Rattle.laws_canon.proofs.Same.{Sound, sound_read, Like, differs, Context, one-to-one, like-at, same-canon, paired}
use Rattle.laws_canon.proofs.Form.{sound}
use Rattle.laws_canon.proofs.Laws.{fits-canon, read-canon, differ}

mutual
  flat-worded : (s : Script) (t : Tree) (rest : List Core) → WordedT s t → All (WordedC s) rest → All (WordedC s) (flat t rest)
  flat-worded s (node k f a ts) rest h r = (h.0, flats-worded s ts rest h.1 r)

  flats-worded : (s : Script) (ts : Forest) (rest : List Core) → WordedF s ts → All (WordedC s) rest → All (WordedC s) (flats ts rest)
  flats-worded s nil rest h r = r
  flats-worded s (cons t ts) rest h r = flat-worded s t (flats ts rest) h.0 (flats-worded s ts rest h.1 r)

-- what is no literal and no identifier uses a text as a property does, or none
no-text : (k : ℕ) → lit_kind k ≡ false → id_kind k ≡ false → has_text k ≡ false → uses_text k ≡ false
no-text k e f g = rw (f, string (eqb k 25) refl) g
  where
    string : (p : Bool) → eqb k 25 ≡ p → p ≡ false
    string true q = absurd (both_ways (lit_kind k) e (subst (λ (m : ℕ). lit_kind m ≡ true) (sym (eqb→eq k 25 (is_T (eqb k 25) q))) refl))
    string false q = refl

-- nodes put back, of two scripts that differ only so
module _ (s c : Script) (S : Sound s) (C : Sound c) (d : Differ s c) where
  abbrev L : Raw → Raw → Type 0
  L = Like s.texts c.texts (Context s c)

  zeros : L zero_node zero_node
  zeros = record { agree = record { kinds = refl; forms = refl; arities = refl }; text = λ u. absurd u; bits = λ e. refl; context = λ t. absurd t }

  like-node : (n : ℕ) → L (node_at s n) (node_at c n)
  like-node zero = zeros
  like-node (suc i) = go (dec_le (suc i) (length s.nodes))
    where
      go : Dec (suc i ≤ length s.nodes) → L (node_at s (suc i)) (node_at c (suc i))
      go (yes l) = like-at s c d i l
      go (no g) = subst₂ L (sym (get_or-eq_default s.nodes zero_node (omega (arith, g)))) (sym (get_or-eq_default c.nodes zero_node (omega (arith, g, d.count)))) zeros

  like-back : (k : Core) → NamedC s k → WordedC s k → L (back s k).raw (back c k).raw
  unfolding back idents
  like-back k h w = go (lit_kind k.kind) refl (id_kind k.kind) refl
    where
      word : lit_kind k.kind ≡ false → id_kind k.kind ≡ false → (p : Bool) → has_text k.kind ≡ p → T (uses_text k.kind) → text_at s (pick p (node_at s k.num).text 0) ≡ text_at c (pick p (node_at c k.num).text 0)
      word e f true g u = (like-node k.num).text (w.word (is_T (has_text k.kind) g))
      word e f false g u = absurd (subst T (no-text k.kind e f g) u)

      go : (p : Bool) → lit_kind k.kind ≡ p → (q : Bool) → id_kind k.kind ≡ q → L (pick p (lit_out s k) (pick q (id_out s k) (plain_out s k))).raw (pick p (lit_out c k) (pick q (id_out c k) (plain_out c k))).raw
      go true e q f = like-node k.num
      go false e true f =
          let t = twins-at s c (idents s) (idents c) (idents-twins s c (paired s c S C d)) k.num (h.ident (is_T (id_kind k.kind) f)) in
          record {
            agree = record { kinds = refl; forms = refl; arities = refl };
            text = λ u. ap (λ (x : Raw). text_at s x.text) t.left ∙ d.texts t.place t.number (id-text (node_at s t.place).kind t.has) ∙ sym (ap (λ (x : Raw). text_at c x.text) t.right);
            bits = λ b. absurd (both_ways (id_kind k.kind) b f);
            context = λ u. record { place = t.place; number = t.number; has = t.has; left = ap (λ (x : Raw). x.bits) t.left; right = ap (λ (x : Raw). x.bits) t.right };
          }
      go false e false f = record {
        agree = record { kinds = refl; forms = refl; arities = refl };
        text = word e f (has_text k.kind) refl;
        bits = λ b. refl;
        context = λ u. absurd (subst T f u);
      }

  likes-back : (cs : List Core) → All (NamedC s) cs → All (WordedC s) cs → AllZip L (raws_of s cs) (raws_of c cs)
  likes-back [] h w = tt
  likes-back (k ∷ cs) h w = (like-back k h.0 w.0, likes-back cs h.1 w.1)

  -- results of one outcome, both of which are read
  results : (t : Tree) → All (NamedC s) (flat t []) → All (WordedC s) (flat t []) → read (file_of s (map (back s) (flat t []))) ≡ script (outcome s (map (back s) (flat t [])))
      → read (file_of c (map (back c) (flat t []))) ≡ script (outcome c (map (back c) (flat t []))) → canon (outcome s (map (back s) (flat t []))) ≡ canon (outcome c (map (back c) (flat t [])))
  results t h w r r' =
      let a = outcome s (map (back s) (flat t [])) in
      let b = outcome c (map (back c) (flat t [])) in
      same-canon a b (sound_read (file a) a r) (sound_read (file b) b r') (differs a b (Context s c) (one-to-one s c d) (likes-back (flat t []) h w))

  ends : (room room' : ℕ) (x : Outcome) → NamedOut s x → WordedOut s x → AgainIn s (answer s x) → AgainIn c (answer c x) → SameEnds (written room s (answer s x)) (written room' c (answer c x))
  unfolding file
  ends room room' (refused n) h w r r' = refl
  ends room room' (result k m t ms) h w r r' = go (leb (length (file_of s xs)) room) (leb (length (file_of c ys)) room')
    where
      xs : List Out
      xs = map (back s) (flat t [])

      ys : List Out
      ys = map (back c) (flat t [])

      go : (p q : Bool) → SameEnds (elim p as (λ z. entries.Entry) [ true ↦ entries.passed (length (file_of s xs)) k m (file_of s xs) (map (root_of s) ms) | false ↦ entries.refused 10 ]) (elim q as (λ z. entries.Entry) [ true ↦ entries.passed (length (file_of c ys)) k m (file_of c ys) (map (root_of c) ms) | false ↦ entries.refused 10 ])
      go true true = record { runs = refl; marks = refl; one = outcome s xs; two = outcome c ys; one-read = r; two-read = r'; written = ap file (results t (flat-named s t [] h.0 tt) (flat-worded s t [] w.0 tt) r r') }
      go true false = refl
      go false true = refl
      go false false = refl

read-ok : (s : Script) → Fits s → ReadOk s
read-ok s f = record { few = f.few; shape = is_T (nodes_ok s) f.shape; names = le→leb (length (idents s)) 256 f.names }

-- whatever room either has
pub commutes : Commutes
unfolding entry pass
commutes bs s y q runs words room room' = go (enough runs words)
  where
    c : Script
    c = canon s

    S : Sound s
    S = sound_read bs s q

    C : Sound c
    C = sound s S

    f : Fits s
    f = fits_read bs s y q

    e : core_nodes s ≡ core_nodes c
    e = same-cores s c (paired s c S C (differ bs s y q))

    x : List Core → Outcome
    x cs = pass_tree runs (head_t (plant cs))

    by : SameEnds (written room s (answer s (x (core_nodes s)))) (written room' c (answer c (x (core_nodes c))))
    by = subst (λ (cs : List Core). SameEnds (written room s (answer s (x (core_nodes s)))) (written room' c (answer c (x cs)))) e
        (ends s c S C (differ bs s y q) room room' (x (core_nodes s)) (out-named s runs) (out-worded s (read-ok s f) runs) (again-in runs s f (read-ok s f))
        (subst (λ (cs : List Core). AgainIn c (answer c (x cs))) (sym e) (again-in runs c (fits-canon bs s y q) (read-ok c (fits-canon bs s y q)))))

    go : (p : Bool) → SameEnds (elim p as (λ z. entries.Entry) [ false ↦ entries.refused 1 | true ↦ entry_read runs room (read bs) ]) (elim p as (λ z. entries.Entry) [ false ↦ entries.refused 1 | true ↦ entry_read runs room' (read (file (canon s))) ])
    go false = refl
    go true = subst₂ (λ (r r' : Read). SameEnds (entry_read runs room r) (entry_read runs room' r')) (sym q) (sym (read-canon bs s y q)) by
