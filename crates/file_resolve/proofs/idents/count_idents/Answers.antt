-- Node by node. Assumes nothing.
use Rattle.std.proofs.Common.{◌≡◌, ◌+◌, ◌*◌, ◌<◌, ◌≤◌, ℕ, Bool, true, List, get_or, length, drop, set, length-set, sym, ap, ◌∙◌, arith}
use lib.Seq.{get_or-set_same, get_or-set_other}
use Rattle.std.proofs.lemmas.Result.{err_from_is_err_and}
use Rattle.words.proofs.Nodes.{beyond-same}
use Rattle.def_file.specs.declared.Raw.{Raw}
use Rattle.def_file.specs.Script.{Script, zero_node, has_id}
use Rattle.def_file.specs.Read.{raw_of}
use Rattle.file_read.specs.declared.header.Header.{Header}
use Rattle.file_read.proofs.Raws.{nodes-length, node-raw}
use Rattle.file_read.proofs.Strings.{count-texts}
use Rattle.file_resolve.specs.Check.{Shaped, read_of}
use Rattle.file_resolve.specs.Idents.{Contexts}
use Rattle.file_resolve.proofs.Names.{text-low}
use Rattle.file_read.proofs.Cores.{kept_then}
use Rattle.file_resolve.proofs.Keys.{counted-other, counted-name, counted-many, all-ids, no-uses, keys-few}
use Rattle.file_resolve.proofs.idents.count_idents.Goals as goal
use Rattle.file_resolve.proofs.idents.count_idents.Goals.{then-is_name+in_ok-note, else-is_name}

pub loop-k-init : goal.loop-k-init
loop-k-init c =
    let w = c.args.words.now in
    let zero : get_or (set w 4 0) 4 0 ≡ 0 = get_or-set_same w 4 0 0 (omega (arith, c.requires.2)) in
    record {
      kept = record { size = simp length-set; rest = beyond-same w (set w 4 0) (simp length-set) (λ j l. get_or-set_other w 4 j 0 0 (λ e. omega (arith, e, l))) };
      few = rw zero (omega arith);
      keys = no-uses (set w 4 0) zero;
    }

pub bounds-contexts-k : goal.bounds-contexts-k
bounds-contexts-k c = omega (arith, c.requires.1.long, nodes-length c.args.header.nodes (drop 32 c.args.file.now), c.loop-k-test.true)

-- node k of the script, as it was read
module _ {bs : List ℕ} {h : Header} (S : Shaped bs h) {numbers : List ℕ} (N : Contexts (read_of bs h) numbers) {k : ℕ} (l : k < h.nodes) {x : Raw} (e : x ≡ raw_of (drop (32 + 16 * k) bs)) where
  abbrev s : Script
  s = read_of bs h

  there : k < length s.nodes
  there = omega (arith, nodes-length h.nodes (drop 32 bs), l)

  node-is : x ≡ get_or s.nodes k zero_node
  node-is = e ∙ sym (node-raw h.nodes k bs l)

  few : length s.texts ≤ 256
  few = omega (arith, count-texts S.readable.placed, S.counts.few_texts)

  text-is : x.text ≡ (get_or s.nodes k zero_node).text
  text-is = ap (λ (y : Raw). y.text) node-is

  same-id : {b c : Bool} → b ≡ has_id x → b ≡ c → has_id (get_or s.nodes k zero_node) ≡ c
  same-id p q = ap has_id (sym node-is) ∙ sym p ∙ q

  module _ (has : has_id (get_or s.nodes k zero_node) ≡ true) where
    small-context : get_or numbers k 0 ≤ 2048
    small-context = N.small k there has

    small-text : x.text < 256
    small-text = omega (arith, text-is, few, text-low s S.readable.ok k there has)

  key-is : x.text + 256 * get_or numbers k 0 ≡ (get_or s.nodes k zero_node).text + 256 * get_or numbers k 0
  key-is = ap (λ (t : ℕ). t + 256 * get_or numbers k 0) text-is

pub overflow_mul-contexts : goal.overflow_mul-contexts
overflow_mul-contexts c =
    let S = c.requires.0 in
    let N = c.requires.1 in
    let l = c.loop-k-test.true in
    let e = c.node_at-x.ensures in
    let has = same-id S N l e (c.is_name.ensures c.node_at-x.result.kind c.from.ensures.1) c.if-is_name.true in
    omega (arith, small-context S N l e has)

pub overflow_add-x : goal.overflow_add-x
overflow_add-x c =
    let S = c.requires.0 in
    let N = c.requires.1 in
    let l = c.loop-k-test.true in
    let e = c.node_at-x.ensures in
    let has = same-id S N l e (c.is_name.ensures c.node_at-x.result.kind c.from.ensures.1) c.if-is_name.true in
    omega (arith, small-context S N l e has, small-text S N l e has)

pub returns-in_err-note : goal.returns-in_err-note
returns-in_err-note c =
    let S = c.requires.0 in
    let N = c.requires.1 in
    let l = c.loop-k-test.true in
    let e = c.node_at-x.ensures in
    let has = same-id S N l e (c.is_name.ensures c.node_at-x.result.kind c.from.ensures.1) c.if-is_name.true in
    let i = c.loop-k.invariant in
    let n = c.in_err-note.ensures in
    let p = err_from_is_err_and c.from_residual.result c.from_residual.ensures.1 in
    rw (p.1, p.2)
    (record {
      kept = kept_then i.kept n.kept;
      few = (n.next.0, counted-many (read_of c.args.file.now c.args.header) S.readable.ok (few S N l e) c.args.contexts.now N c.loop-k.k (there S N l e) c.loop-k.words i.keys has _ (key-is S N l e) n.next.1);
    })

pub loop-k-preserved : goal.loop-k-preserved
loop-k-preserved c =
    let S = c.requires.0 in
    let N = c.requires.1 in
    let l = c.loop-k-test.true in
    let e = c.node_at-x.ensures in
    let s = read_of c.args.file.now c.args.header in
    let i = c.loop-k.invariant in
    let is = c.is_name.ensures c.node_at-x.result.kind c.from.ensures.1 in
    elim c.if-is_name.branch [
      | then-is_name+in_ok-note w ↦
          let has = same-id S N l e is w.if-is_name.true in
          let n = w.in_ok-note.ensures in
          rw w.words-is (record {
            kept = kept_then i.kept n.kept;
            few = n.next.1;
            keys = counted-name s S.readable.ok (few S N l e) c.args.contexts.now N c.loop-k.k (there S N l e) c.loop-k.words i.keys has _ (key-is S N l e) w.note.new.words n.next.0;
          })
      | else-is_name w ↦
          rw w.words-is (record { kept = i.kept; few = i.few; keys = counted-other s S.readable.ok (few S N l e) c.args.contexts.now N c.loop-k.k (there S N l e) c.loop-k.words i.keys (same-id S N l e is w.if-is_name.false) })
    ]

pub returns : goal.returns
returns c =
    let S = c.requires.0 in
    let s = read_of c.args.file.now c.args.header in
    let i = c.loop-k.invariant in
    let few : length s.texts ≤ 256 = omega (arith, count-texts S.readable.placed, S.counts.few_texts) in
    let all : c.loop-k.k ≡ length s.nodes = omega (arith, nodes-length c.args.header.nodes (drop 32 c.args.file.now), c.loop-k-test.false) in
    record { kept = i.kept; few = omega (arith, all-ids s S.readable.ok few c.args.contexts.now c.requires.1 c.loop-k.k all, keys-few c.loop-k.words i.keys i.few) }
