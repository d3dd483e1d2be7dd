-- One binding hoisted. Assumes nothing.
use Rattle.std.proofs.Common.{◌≡◌, ℕ, zero, suc, ◌+◌, ◌*◌, ◌<◌, Bool, true, false, ◌||◌, eqb, List, [], ◌∷◌, length, get_or, set, sym, refl, ap, ◌∙◌, arith}
use mathlib.Core.Option.{Option, none, some}
use Rattle.def_pass.specs.Scope.{VarInfo, Stack, is_var, hoist, with_value, change, append, find_in, find_binding_from_current, count_in, is_some}
use Rattle.words.specs.Layout.{yes, Agree}
use Rattle.words_scopes.specs.State.{Becomes, bind_at, binds, consts, stack, var_type_of, alias_at, recorded, Recorded, with_count}
use Rattle.words_scopes.proofs.Words.{bind-eq}
use Rattle.scope_values.specs.Steps.{Listed, refill}
use Rattle.scope_values.proofs.Listed.{change-at, listed-becomes}
use Rattle.std.proofs.Common.{None}
use Rattle.words_scopes.specs.declared.Record.{Record}
use Rattle.scope_find.specs.Own.{Own, OwnAt}
use Rattle.scope_declare.proofs.Top.{put_top, put-there, put-absent, unres_top}
use Rattle.scope_child.specs.Hoist.{record_at, hoist_one, hoist_up, end_one}

-- what goes up, on the stack
pub hoist-var-is : (c : VarInfo) (st : Stack) → is_var c.kind ≡ true → hoist_one c st ≡ put_top (hoist (unres_top st) c) st
hoist-var-is c [] e = refl
hoist-var-is c (s ∷ st) e = rw e refl

pub hoist-none-is : (c : VarInfo) (st : Stack) → is_var c.kind ≡ false → hoist_one c st ≡ st
hoist-none-is c [] e = refl
hoist-none-is c (s ∷ st) e = rw e refl

-- the count that then ends
abbrev count_here : ℕ → Stack → ℕ
count_here i [] = 0
count_here i (s ∷ st) = count_in i s.bindings

end-var : (c : VarInfo) (st : Stack) → is_var c.kind ≡ true → end_one c st ≡ count_here c.id st
end-var c [] e = rw e refl
end-var c (s ∷ st) e = rw e refl

pub end-other : (c : VarInfo) (st : Stack) → is_var c.kind ≡ false → end_one c st ≡ c.count
end-other c [] e = rw e refl
end-other c (s ∷ st) e = rw e refl

abbrev count_o : Option VarInfo → ℕ
count_o none = 0
count_o (some b) = b.count

count-in : (i : ℕ) (bs : List VarInfo) → count_in i bs ≡ count_o (find_in i bs)
count-in i [] = refl
count-in i (b ∷ bs) = go (eqb b.id i) (count-in i bs)
  where
    go : (c : Bool) → count_in i bs ≡ count_o (find_in i bs) → elim c as (λ x. ℕ) [ true ↦ b.count | false ↦ count_in i bs ] ≡ count_o (elim c as (λ x. Option VarInfo) [ true ↦ some b | false ↦ find_in i bs ])
    go true h = refl
    go false h = h

count-here : (i : ℕ) (st : Stack) (b : VarInfo) → find_binding_from_current i st ≡ some b → count_here i st ≡ b.count
count-here i [] b e = ap count_o e
count-here i (s ∷ st) b e = count-in i s.bindings ∙ ap count_o e

count-away : (i : ℕ) (st : Stack) → is_some (find_binding_from_current i st) ≡ false → count_here i st ≡ 0
count-away i [] e = refl
count-away i (s ∷ st) e = count-in i s.bindings ∙ go (find_in i s.bindings) e
  where
    go : (o : Option VarInfo) → is_some o ≡ false → count_o o ≡ 0
    go none e = refl
    go (some b) e = absurd (let z : ◌≡◌ {A = ℕ} 0 1 = cc in omega arith)

-- in the words: record j of a closed scope, of x, and whether it is prevented then
module _ (w : List ℕ) (j x : ℕ) (r : Record) (t : Recorded w j r) (named : get_or w (4112 + j * 10) 0 ≡ x) (is-var : is_var (record_at w j).kind ≡ true) (p : Bool) (mark : p ≡ (unres_top (stack w) x || r.prevented)) where
  abbrev pub gone : VarInfo
  gone = hoist (unres_top (stack w)) (record_at w j)

  abbrev pub up : Record
  up = record { kind = r.kind; alias = r.alias; reads = r.reads; prevented = p; undefined = false; this_sensitive = r.this_sensitive; hoisted = true }

  prevented-is : p ≡ gone.inline_prevented
  prevented-is = rw named (mark ∙ ap (λ (b : Bool). unres_top (stack w) x || b) t.prevented)

  pub bare-gone : recorded x up (get_or w (8080 + j) 0) ≡ gone
  bare-gone = bind-eq (sym named) t.kind t.alias t.reads prevented-is refl refl t.this_sensitive refl refl

  pub refill-gone : (b : VarInfo) → b.id ≡ x → with_count (get_or w (8080 + j) 0) (refill up (with_value none b)) ≡ gone
  refill-gone b e = bind-eq (e ∙ sym named) t.kind t.alias t.reads prevented-is refl refl t.this_sensitive refl refl

  pub gone-there : {w' : List ℕ} (k : ℕ) → OwnAt w x k → Listed w w' (set (binds w) k gone) (consts w) → Becomes w w' (hoist_one (record_at w j) (stack w))
  gone-there k o l =
      let here : is_some (find_binding_from_current x (stack w)) ≡ true = ap is_some o.found in
      let s : hoist_one (record_at w j) (stack w) ≡ change x (λ b. gone) (stack w) = hoist-var-is (record_at w j) (stack w) is-var ∙ put-there gone (stack w) (rw named here) ∙ ap (λ (n : ℕ). change n (λ b. gone) (stack w)) named in
      listed-becomes (hoist_one (record_at w j) (stack w)) (s ∙ change-at w k o.below x (λ b. gone) o.place) l

  pub gone-absent : Own w x None → hoist_one (record_at w j) (stack w) ≡ append gone (stack w)
  gone-absent o = hoist-var-is (record_at w j) (stack w) is-var ∙ put-absent gone (stack w) (rw named o)

  -- the count that ends: of the binding found, or none
  pub ends_there : (k : ℕ) → OwnAt w x k → get_or w (8080 + k) 0 ≡ end_one (record_at w j) (stack w)
  ends_there k o = sym (end-var (record_at w j) (stack w) is-var ∙ rw named (count-here x (stack w) (bind_at w k) o.found))

  pub ends-absent : Own w x None → 0 ≡ end_one (record_at w j) (stack w)
  ends-absent o = sym (end-var (record_at w j) (stack w) is-var ∙ rw named (count-away x (stack w) o))

-- one after the other
pub length-one : (c : VarInfo) (st : Stack) → length (hoist_one c st) ≡ length st
length-one c [] = refl
length-one c (s ∷ st) = refl

pub length_up : (f : ℕ → VarInfo) (a n : ℕ) (st : Stack) → length (hoist_up f a n st) ≡ length st
length_up f a zero st = refl
length_up f a (suc n) st = length-one (f (a + n)) (hoist_up f a n st) ∙ length_up f a n st

pub record_same : (w w' : List ℕ) (j : ℕ) → Agree (4112 + j * 10) (4112 + j * 10 + 8) w w' → get_or w' (8080 + j) 0 ≡ get_or w (8080 + j) 0 → record_at w' j ≡ record_at w j
record_same w w' j f c =
    let at : (q : ℕ) → q < 8 → get_or w' (4112 + j * 10 + q) 0 ≡ get_or w (4112 + j * 10 + q) 0 = λ q l. f (4112 + j * 10 + q) (omega arith) (omega arith) in
    bind-eq (f (4112 + j * 10) (omega arith) (omega arith)) (ap var_type_of (at 1 (omega arith))) (ap alias_at (at 2 (omega arith))) (at 3 (omega arith))
    (ap yes (at 4 (omega arith))) (ap yes (at 5 (omega arith))) refl (ap yes (at 6 (omega arith))) (ap yes (at 7 (omega arith))) c
