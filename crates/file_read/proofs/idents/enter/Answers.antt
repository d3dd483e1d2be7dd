-- `file_read::idents::enter` meets its contract: a known identifier changes nothing, a new one is listed last. Assumes nothing.
use Rattle.std.proofs.Common.{◌≡◌, ℕ, ◌+◌, ◌-◌, ◌*◌, ◌<◌, [], ◌∷◌, ◌++◌, get_or, drop, set, length-set, length-append, refl, sym, ap, ◌∙◌, arith}
use Rattle.def_file.specs.declared.Raw.{Raw}
use Rattle.def_file.specs.Script.{place_of}
use Rattle.def_file.specs.Read.{raw_of}
use Rattle.file_read.specs.Idents.{numbered, ids_of}
use Rattle.file_read.proofs.Names.{ids-length, ids-same, listed_same, first_count, first-list, known-yes, enter-old, enter-new, place-new, more-size, more-other, more-ids, more-count, more-listed, more-texted}
use Rattle.file_read.proofs.idents.enter.Goals as goal

minus : (k : ℕ) → k + 1 - 1 ≡ k
minus k = omega arith

pub overflow_cast-result : goal.overflow_cast-result
overflow_cast-result c = omega (arith, c.in-Some.ensures.0, ids-length c.args.file.now c.args.words.now, c.requires.0.few)

pub returns-in-Some : goal.returns-in-Some
returns-in-Some c =
    let a = c.args in
    let x = raw_of (drop (32 + 16 * a.k) a.file.now) in
    let ids = ids_of a.file.now a.words.now in
    let at = rw c.node_at-x.ensures at c.in-Some.ensures in
    let old = enter-old ids x (known-yes x ids (omega (arith, at.0, at.1))) in
    record {
      size = refl;
      first = λ j l h. refl;
      mid = λ j l h. refl;
      last = λ j l. refl;
      case = (sym old, at.1 ∙ ap (place_of x) (sym old), c.requires.0, c.requires.4);
    }

pub returns-then-count-eq256 : goal.returns-then-count-eq256
returns-then-count-eq256 c =
    let a = c.args in
    let x = raw_of (drop (32 + 16 * a.k) a.file.now) in
    let ids = ids_of a.file.now a.words.now in
    let len = ids-length a.file.now a.words.now in
    let new = enter-new ids x c.requires.3 (rw c.node_at-x.ensures at c.in_default.ensures) in
    record {
      size = refl;
      first = λ j l h. refl;
      mid = λ j l h. refl;
      last = λ j l. refl;
      case = rw new (simp length-append (omega (arith, len, c.if-count-eq256.true)));
    }

pub set_first-requires : goal.set_first-requires
set_first-requires c = (simp length-set c.requires.0.long, rw c.node_at-x.ensures c.requires.5)

pub returns : goal.returns
returns c =
    let a = c.args in
    let p = c.requires in
    let L = p.0 in
    let bs = a.file.now in
    let w = a.words.now in
    let x = raw_of (drop (32 + 16 * a.k) bs) in
    let ids = ids_of bs w in
    let no = rw c.node_at-x.ensures at c.in_default.ensures in
    let new = enter-new ids x p.3 no in
    let room : get_or w 4 0 < 256 = omega (arith, L.few) in
    let same : numbered bs (a.k + 1) ≡ x = ap (λ (m : ℕ). raw_of (drop (32 + 16 * m) bs)) (minus a.k) in
    let text : x.text ≡ c.node_at-x.result.text = ap (λ (y : Raw). y.text) (sym c.node_at-x.ensures) in
    let small : c.node_at-x.result.text < 256 = omega (arith, text, p.5) in
    let w₁ = set (set w (15504 + get_or w 4 0) (a.k + 1)) 4 (get_or w 4 0 + 1) in
    let w₂ = c.set_first.new.words in
    let F = c.set_first.ensures in
    let other : (j : ℕ) → (j ≡ 4 → ⊥) → (j ≡ 15504 + get_or w 4 0 → ⊥) → (j ≡ 15760 + c.node_at-x.result.text → ⊥) → get_or w₂ j 0 ≡ get_or w j 0 = λ j f i t. F.other j t ∙ more-other bs w a.n (a.k + 1) L room j f i in
    let list : (i : ℕ) → i < get_or w₁ 4 0 → get_or w₂ (15504 + i) 0 ≡ get_or w₁ (15504 + i) 0 = λ i h. first-list F i (omega (arith, more-count bs w a.n (a.k + 1) L room)) in
    record {
      size = F.size ∙ more-size bs w a.n (a.k + 1) L room;
      first = λ j l h. other j (λ z. omega (arith, z)) (λ z. omega (arith, z)) (λ z. omega (arith, z));
      mid = λ j l h. other j (λ z. omega (arith, z)) (λ z. omega (arith, z)) (λ z. omega (arith, z));
      last = λ j l. other j (λ z. omega (arith, z)) (λ z. omega (arith, z)) (λ z. omega (arith, z));
      case = (
        ids-same bs w₁ w₂ (first_count F) list ∙ more-ids bs w a.n (a.k + 1) L room ∙ ap (λ (y : Raw). ids ++ (y ∷ [])) same ∙ sym new,
        sym (ids-length bs w) ∙ sym (ap (place_of x) new ∙ place-new x ids no),
        listed_same w₁ w₂ a.n F.size (first_count F) list (more-listed bs w a.n (a.k + 1) L room (omega arith) (omega (arith, p.2))),
        more-texted bs w a.n (a.k + 1) L room small (ap (λ (y : Raw). y.text) same ∙ text) p.4 F,
      );
    }
