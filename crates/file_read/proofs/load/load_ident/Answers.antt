-- `file_read::load::load_ident` meets its contract: the node has the number of its identifier, which is entered where it is new. Assumes nothing.
use Rattle.std.proofs.Common.{◌≡◌, ℕ, ◌+◌, ◌*◌, Bool, Option, ok_or, get_or, drop, refl, sym, ap, ap₂, ◌∙◌, subst, arith}
use Rattle.std.proofs.lemmas.Result.{err_from_is_err_and}
use Rattle.def_tree.specs.Base.{to_nat}
use Rattle.words.proofs.Nodes.{tree-same}
use Rattle.refusal.specs.declared.Refusal.TheVariants as Row
use Rattle.refusal.specs.Number.{number}
use Rattle.def_file.specs.declared.Raw.{Raw}
use Rattle.def_file.proofs.Named.{numbered}
use Rattle.def_file.specs.Script.{zero_node, same_text, is_arguments, has_id, enter as entered, place_of}
use Rattle.def_file.specs.Read.{raw_of}
use Rattle.file_read.proofs.Strings.{same_pointwise}
use Rattle.file_read.specs.declared.texts.Texts.{Texts}
use Rattle.file_read.specs.Text.{text_in}
use Rattle.file_read.specs.Idents.{ids_of, Case}
use Rattle.file_read.specs.Load.{script_of}
use Rattle.file_read.proofs.Cores.{loading-read, loading-text, loading-name, loaded-more, kept_by, kept-mid, kept_then, over, number-final, core-ident, flag_to_nat}
use Rattle.file_read.proofs.load.load_ident.Goals as goal

pub text-name-requires : goal.text-name-requires
text-name-requires c =
    let L = c.requires.0 in
    let P = L.readable.placed in
    let same = loading-read L c.node_at-x.ensures in
    let small = loading-text L (ap has_id (sym (loading-read L refl)) ∙ c.requires.1) in
    let text = ap (λ (x : Raw). x.text) same in
    rw c.places.ensures (P.stored, omega arith)

pub enter-requires : goal.enter-requires
enter-requires c =
    let L = c.requires.0 in
    let P = L.readable.placed in
    let raw = loading-read L refl in
    let small = loading-text L (ap has_id (sym raw) ∙ c.requires.1) in
    let text = ap (λ (x : Raw). x.text) raw in
    (L.loaded.listed, record { few = L.readable.few; room = omega (arith, P.stored.room) }, L.less, c.requires.1, L.loaded.texted, omega (arith, P.stored.few))

pub returns-in_err-j : goal.returns-in_err-j
returns-in_err-j c =
    let a = c.args in
    let L = c.requires.0 in
    let raw = loading-read L refl in
    let E = c.enter.ensures in
    let C = subst (Case a.file.now a.words.now c.enter.new.words a.h.nodes (raw_of (drop (32 + 16 * a.k) a.file.now))) c.in_err-j.ensures.ok_part E.case in
    let e = err_from_is_err_and c.from_residual.result c.from_residual.ensures.1 in
    let row : c.in_err-j.field-0.0 ≡ Row.Idents = cc (c.in_err-j.ensures.value ∙ ap (λ (o : Option ℕ). ok_or o Row.Idents) c.in_err-j.ensures.ok_part) in
    rw e.1 (record { kept = kept-mid E.size E.last; next = (ap number (e.2 ∙ row), over L (rw (sym raw) C)) })

pub returns : goal.returns
returns c =
    let a = c.args in
    let L = c.requires.0 in
    let bs = a.file.now in
    let w = a.words.now in
    let s = script_of bs a.h.nodes a.h.texts in
    let x = get_or s.nodes a.k zero_node in
    let raw = loading-read L refl in
    let has = ap has_id (sym raw) ∙ c.requires.1 in
    let same = loading-read L c.node_at-x.ensures in
    let E = c.enter.ensures in
    let w₁ = c.enter.new.words in
    let count : get_or w₁ 0 0 ≡ get_or w 0 0 = E.first 0 (omega arith) (omega arith) in
    let tree₁ = tree-same w w₁ (omega (arith, L.loaded.count, L.less, L.readable.few)) count (λ j l h. E.mid j (omega arith) (omega arith)) in
    let C = subst (Case bs w w₁ a.h.nodes (raw_of (drop (32 + 16 * a.k) bs))) c.in_ok-j.ensures.ok_part E.case in
    let name = c.text-name.ensures ∙ ap (λ (y : Texts). text_in bs y.ends y.bytes c.node_at-x.result.text) c.places.ensures ∙ ap (text_in bs (32 + 16 * a.h.nodes) (32 + 16 * a.h.nodes + 4 * a.h.texts)) (ap (λ (y : Raw). y.text) same) ∙ loading-name L has in
    let form : c.from-2.result ≡ to_nat (is_arguments s x) =
    c.from-2.ensures ∙ flag_to_nat c.eq-arguments.result ∙ ap to_nat (c.eq-arguments.ensures ∙ same_pointwise c.text-name.result.now c.as_slice.result.now ∙ ap₂ {C = Bool} same_text name c.as_slice.ensures) in
    let j = C.1 ∙ ap (λ (y : Raw). place_of y (entered (ids_of bs w) y)) raw ∙ sym (number-final L has) in
    let p = c.add_node.ensures in
    record {
      kept = kept_then {w₁ = w₁} (kept-mid E.size E.last) (kept_by p.1.size p.1.high);
      next = loaded-more L (core-ident s (a.k + 1) x (numbered c.from.result c.node_at-x.result.kind c.from.ensures.1 ∙ ap (λ (y : Raw). y.kind) same) has form (c.from-3.ensures ∙ ap (λ (y : Raw). y.arity) same) j) tree₁ count (C.0 ∙ ap (λ (y : Raw). entered (ids_of bs w) y) raw) C.2 C.3 p;
    }
