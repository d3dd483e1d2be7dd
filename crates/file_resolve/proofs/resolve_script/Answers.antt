-- Loaded, and then each row in turn. Assumes nothing.
use Rattle.std.proofs.Common.{◌≡◌, ℕ, List, [], length, drop, refl, ◌∙◌, arith}
use Rattle.std.proofs.lemmas.Result.{err_from_is_err_and}
use Rattle.refusal.specs.declared.Refusal.TheVariants as Row
use Rattle.def_resolve.specs.Scopes.{apart}
use Rattle.def_resolve.specs.Resolve.{resolve}
use Rattle.words.specs.Layout.{tree}
use Rattle.words_nodes.specs.Nodes.{tree_from}
use Rattle.words_resolve.specs.Walk.{nums, writes}
use Rattle.file_read.specs.declared.header.Header.{Header}
use Rattle.file_read.proofs.Raws.{nodes-length}
use Rattle.file_resolve.specs.Check.{Shaped, read_of}
use Rattle.file_resolve.specs.Load.{NamesLoaded}
use Rattle.file_resolve.specs.Idents.{Contexts}
use Rattle.file_read.proofs.Cores.{kept_then}
use Rattle.file_resolve.proofs.Ends.{wrote-none, resolves-as, clash-so, many-so, few-so}
use Rattle.file_resolve.proofs.Contexts.{clashes-are, contexts-are}
use Rattle.file_resolve.proofs.resolve_script.Goals as goal

-- what the walk gives is the contexts of the script's names
names : {bs w w₁ : List ℕ} {h : Header} {a : ℕ} → Shaped bs h → NamesLoaded bs w w₁ h.nodes h.texts a → (old new : List ℕ) → new ≡ writes old 0 (nums (resolve apart (tree_from (tree w₁) 0) [] 1)) → length old ≡ 1024 → Contexts (read_of bs h) new
names {bs} {w} {w₁} {h} S L old new q z = contexts-are (read_of bs h) S.readable.ok (tree w₁) old new (omega (arith, nodes-length h.nodes (drop 32 bs), S.readable.few)) z L.tree q

pub returns-then-clashes : goal.returns-then-clashes
returns-then-clashes c =
    let S = c.requires.0 in
    let L = c.load_names-arguments.ensures in
    resolves-as (clash-so (length c.args.buffer.now) (read_of c.args.file.now c.args.header) (clashes-are (read_of c.args.file.now c.args.header) S.readable.ok L.tree c.clashes.ensures ∙ c.if-clashes.true)) (wrote-none Row.Clash refl) L.kept

pub contexts-requires : goal.contexts-requires
contexts-requires c =
    let L = c.load_names-arguments.ensures in
    (L.planted, L.stand, L.arguments, refl)

pub count_idents-requires : goal.count_idents-requires
count_idents-requires c =
    let S = c.requires.0 in
    let L = c.load_names-arguments.ensures in
    (S, names S L _ c.contexts.new.out c.contexts.ensures refl, omega (arith, L.kept.size, c.requires.1))

pub returns-in_err-count_idents : goal.returns-in_err-count_idents
returns-in_err-count_idents c =
    let S = c.requires.0 in
    let L = c.load_names-arguments.ensures in
    let s = read_of c.args.file.now c.args.header in
    let no = clashes-are s S.readable.ok L.tree c.clashes.ensures ∙ c.if-clashes.false in
    let n = c.in_err-count_idents.ensures in
    let p = err_from_is_err_and c.from_residual.result c.from_residual.ensures.1 in
    rw (p.1, p.2) (resolves-as (many-so (length c.args.buffer.now) s no n.few.1) (wrote-none _ n.few.0) (kept_then L.kept n.kept))

pub invariant_of-resolved : goal.invariant_of-resolved
invariant_of-resolved c =
    let S = c.requires.0 in
    record { shaped = S; bytes = λ i. (c.type_inv.file i).fits; names = names S c.load_names-arguments.ensures _ c.contexts.new.out c.contexts.ensures refl }

pub returns : goal.returns
returns c =
    let S = c.requires.0 in
    let L = c.load_names-arguments.ensures in
    let s = read_of c.args.file.now c.args.header in
    let no = clashes-are s S.readable.ok L.tree c.clashes.ensures ∙ c.if-clashes.false in
    let n = c.in_ok-count_idents.ensures in
    resolves-as (few-so (length c.args.buffer.now) s no n.few) c.write.ensures (kept_then L.kept n.kept)
