-- The root's bindings in the words, and as they are written. Assumes nothing.
use mathlib.Core.Path.{◌≡◌, refl, sym, ap, ◌∙◌, subst}
use mathlib.Core.Bool.{Bool, true, false}
use mathlib.Core.List.{List, [], ◌∷◌, ◌++◌, map, map-append}
use mathlib.Core.Logic.{⊎_elim}
use mathlib.Core.Option.{Option, none, some}
use Prim.Native.Nat.{ℕ, zero, suc, ◌+◌, ◌*◌, ◌≤◌, ◌<◌}
use native.Mathlib.Nat.{eq-or-lt_of_le}
use native.Mathlib.Omega.{arith}
use borrow.Author.Tests.{le-leb, lt-leb}
use lib.Dec.{leb}
use lib.ListN.{length, get_or, take, drop}
use lib.Seq.{sets, sets-eq, length-take-le}
use Rattle.def_tree.specs.Tree.{Tree}
use Rattle.words.specs.Tab.{tab, tab-zero, tab-suc, length-tab, take-tab, get_d-tab, get_d-tab-out}
use Rattle.words.specs.Layout.{yes}
use Rattle.def_file.specs.declared.Raw.{Raw}
use Rattle.def_file.specs.Script.{zero_node}
use Rattle.file_read.specs.Idents.{numbered, ids_of}
use Rattle.std.specs.Prelude.{Ok, Err, Some, None}
use Rattle.refusal.specs.declared.Refusal.TheVariants.{Buffer}
use Rattle.file_write.proofs.Stores.{first, then}
use Rattle.def_pass.specs.Scope.{VarInfo}
use Rattle.def_pass.specs.Script.{Root}
use Rattle.def_pass.specs.Walk.{Rooted, root_marks}
use Rattle.words_scopes.specs.State.{head_at, heads_at, heads, Fits, bind_at, binds, flags, consts, split, stack, Good}
use Rattle.pass_roots.specs.declared.Root.{Root as Binding}
use Rattle.pass_roots.specs.Nth.{nth, nth_is}
use Rattle.pass_roots.specs.Listing.{marks_to, root_at, roots_in, given, words_of, root_words, root_list, refused, listed, in_room, WroteRoots}

-- identifier, mark and count of each binding
abbrev marks : List VarInfo → List Rooted
marks bs = map (λ (b : VarInfo). (b.id, b.inline_prevented, b.count)) bs

take-take : (m n : ℕ) (bs : List VarInfo) → m ≤ n → take m (take n bs) ≡ take m bs
take-take zero n bs l = refl
take-take (suc m) zero bs l = absurd (omega arith)
take-take (suc m) (suc n) [] l = refl
take-take (suc m) (suc n) (b ∷ bs) l = ap (λ (xs : List VarInfo). b ∷ xs) (take-take m n bs (omega arith))

-- where the second scope's bindings begin
abbrev second : List ℕ → ℕ
second w = (head_at w 1).start

second-low : (w : List ℕ) (d n : ℕ) → Fits (heads_at w (suc (suc d))) n → second w ≤ n
unfolding heads_at
second-low w zero n f = f.0
second-low w (suc d) n f = omega (arith, f.0, second-low w d (head_at w (suc (suc d))).start f.1)

-- the root's bindings are all, if it is the only scope
root-one : (w : List ℕ) (fl : List ℕ) (bs : List VarInfo) (cs : List (ℕ × Option Tree)) → Fits (heads_at w 1) (length bs) → root_marks (split (heads_at w 1) fl bs cs) ≡ marks bs
unfolding heads_at
root-one w fl bs cs f = ap (λ (n : ℕ). marks (drop n bs)) f.1

-- and those before the second scope's, if there are more
root-more : (w : List ℕ) (d : ℕ) (fl : List ℕ) (bs : List VarInfo) (cs : List (ℕ × Option Tree)) → Fits (heads_at w (suc (suc d))) (length bs) → root_marks (split (heads_at w (suc (suc d))) fl bs cs) ≡ marks (take (second w) bs)
unfolding heads_at
root-more w zero fl bs cs f =
    let n = second w in
    let z : length (take n bs) ≡ n = length-take-le n bs f.0 in
    root-one w (take n fl) (take n bs) (take (head_at w 1).cstart cs) (rw z f.1)
root-more w (suc d) fl bs cs f =
    let n = (head_at w (suc (suc d))).start in
    let z : length (take n bs) ≡ n = length-take-le n bs f.0 in
    root-more w d (take n fl) (take n bs) (take (head_at w (suc (suc d))).cstart cs) (rw z f.1)
    ∙ ap marks (take-take (second w) n bs (second-low w d n f.1))

map-tab : (g : VarInfo → Rooted) (n : ℕ) (f : ℕ → VarInfo) → map g (tab n f) ≡ tab n (λ k. g (f k))
unfolding tab
map-tab g zero f = refl
map-tab g (suc n) f = map-append g (tab n f) (f n ∷ []) ∙ ap (λ (r : List Rooted). r ++ (g (f n) ∷ [])) (map-tab g n f)

marks-to : (w : List ℕ) (n : ℕ) → marks (tab n (λ k. bind_at w k)) ≡ marks_to w n
marks-to w n = map-tab (λ (b : VarInfo). (b.id, b.inline_prevented, b.count)) n (λ k. bind_at w k)

module _ {w : List ℕ} (g : Good w) where
  binds-length : length (binds w) ≡ get_or w 1 0
  unfolding binds
  binds-length = length-tab (get_or w 1 0) (λ k. bind_at w k)

  stack_at : (d : ℕ) → get_or w 2 0 ≡ d → stack w ≡ split (heads_at w d) (flags w) (binds w) (consts w)
  unfolding stack heads
  stack_at d e = ap (λ (m : ℕ). split (heads_at w m) (flags w) (binds w) (consts w)) e

  fits-at : (d : ℕ) → get_or w 2 0 ≡ d → Fits (heads_at w d) (length (binds w))
  unfolding heads
  fits-at d e = rw binds-length (subst (λ (m : ℕ). Fits (heads_at w m) (get_or w 1 0)) e g.fits)

  all-marks : marks (binds w) ≡ marks_to w (get_or w 1 0)
  unfolding binds
  all-marks = marks-to w (get_or w 1 0)

  some-marks : (n : ℕ) → n ≤ get_or w 1 0 → marks (take n (binds w)) ≡ marks_to w n
  unfolding binds
  some-marks n l = ap marks (take-tab n (get_or w 1 0) (λ k. bind_at w k) l) ∙ marks-to w n

  -- one scope at most
  pub roots-all : get_or w 2 0 ≤ 1 → root_marks (stack w) ≡ marks_to w (get_or w 1 0)
  unfolding heads_at
  roots-all l = go (get_or w 2 0) refl l
    where
      go : (d : ℕ) → get_or w 2 0 ≡ d → d ≤ 1 → root_marks (stack w) ≡ marks_to w (get_or w 1 0)
      go zero e h = ap root_marks (stack_at 0 e) ∙ sym (ap (marks_to w) (sym binds-length ∙ fits-at 0 e) ∙ tab-zero (λ k. (get_or w (4112 + k * 10) 0, yes (get_or w (4112 + k * 10 + 4) 0), get_or w (8080 + k) 0)))
      go (suc zero) e h = ap root_marks (stack_at 1 e) ∙ root-one w (flags w) (binds w) (consts w) (fits-at 1 e) ∙ all-marks
      go (suc (suc d)) e h = absurd (omega (arith, h))

  -- more
  pub roots-first : 1 < get_or w 2 0 → (root_marks (stack w) ≡ marks_to w (get_or w 7189 0)) × (get_or w 7189 0 ≤ 256)
  roots-first l = go (get_or w 2 0) refl l
    where
      go : (d : ℕ) → get_or w 2 0 ≡ d → 1 < d → (root_marks (stack w) ≡ marks_to w (second w)) × (second w ≤ 256)
      go zero e h = absurd (omega (arith, h))
      go (suc zero) e h = absurd (omega (arith, h))
      go (suc (suc d)) e h =
          let q : second w ≤ get_or w 1 0 = omega (arith, second-low w d (length (binds w)) (fits-at (suc (suc d)) e), binds-length) in
          (ap root_marks (stack_at (suc (suc d)) e) ∙ root-more w d (flags w) (binds w) (consts w) (fits-at (suc (suc d)) e) ∙ some-marks (second w) q, omega (arith, q, g.count))

-- the words of some bindings, and of one more
pub list_length : (rs : List Root) → length (root_list rs) ≡ 5 * length rs
unfolding root_list
list_length [] = refl
list_length (r ∷ rs) = omega (arith, list_length rs)

list-snoc : (rs : List Root) (r : Root) → root_list (rs ++ (r ∷ [])) ≡ root_list rs ++ root_words r
unfolding root_list
list-snoc [] r = refl
list-snoc (x ∷ rs) r = ap (λ (ys : List ℕ). root_words x ++ ys) (list-snoc rs r)

pub list-none : (f : ℕ → Root) (l : List ℕ) → l ≡ sets l 0 (root_list (tab 0 f))
unfolding root_list tab
list-none f l = refl

pub list-more : (f : ℕ → Root) (k : ℕ) (l : List ℕ) {l₁ l₂ : List ℕ} (x : Binding) → l₁ ≡ sets l 0 (root_list (tab k f)) → x ≡ given (f k) → l₂ ≡ sets l₁ (5 * k) (words_of x) → l₂ ≡ sets l 0 (root_list (tab (k + 1) f))
list-more f k l x p e q =
    (then (first l 0 (root_list (tab k f)) p) (5 * k) (words_of x) q (omega (arith, list_length (tab k f), length-tab k f))).is
    ∙ ap (sets l 0) (sym (ap root_list (tab-suc k f) ∙ list-snoc (tab k f) (f k) ∙ ap (λ (b : Binding). root_list (tab k f) ++ words_of b) (sym e)))

-- a binding as it is answered
pub given-as : {x : Raw} (r : Root) (p : Bool) (n : ℕ) → x ≡ r.key → p ≡ r.mark → n ≡ r.count → record { text = x.text; context = x.bits; prevented = p; count = n } ≡ given r
given-as r p n e h k = cc

-- an identifier by its number
pub no-ident : (bs w : List ℕ) (i : ℕ) → get_or w 4 0 ≤ i → zero_node ≡ get_or (ids_of bs w) i zero_node
unfolding ids_of
no-ident bs w i l = sym (get_d-tab-out (get_or w 4 0) (λ k. numbered bs (get_or w (15504 + k) 0)) i zero_node l)

pub some-ident : (bs w : List ℕ) (i : ℕ) → i < get_or w 4 0 → numbered bs (get_or w (15504 + i) 0) ≡ get_or (ids_of bs w) i zero_node
unfolding ids_of
some-ident bs w i l = sym (get_d-tab (get_or w 4 0) (λ k. numbered bs (get_or w (15504 + k) 0)) i zero_node l)

-- all root bindings
map-roots : (g : Rooted → Root) (n : ℕ) (f : ℕ → Rooted) → map g (tab n f) ≡ tab n (λ k. g (f k))
unfolding tab
map-roots g zero f = refl
map-roots g (suc n) f = map-append g (tab n f) (f n ∷ []) ∙ ap (λ (r : List Root). r ++ (g (f n) ∷ [])) (map-roots g n f)

module _ (bs w : List ℕ) (n : ℕ) (h : root_marks (stack w) ≡ marks_to w n) where
  roots-tab : roots_in bs w ≡ tab n (λ k. root_at bs w k)
  roots-tab =
      let g : Rooted → Root = λ (r : Rooted). record { key = get_or (ids_of bs w) r.0 zero_node; mark = r.1; count = r.2 } in
      ap (map g) h ∙ map-roots g n (λ k. (get_or w (4112 + k * 10) 0, yes (get_or w (4112 + k * 10 + 4) 0), get_or w (8080 + k) 0))

  roots-count : length (roots_in bs w) ≡ n
  roots-count = ap (λ (rs : List Root). length rs) roots-tab ∙ length-tab n (λ k. root_at bs w k)

  -- no room
  pub roots-short : (r : List ℕ) → length r < 5 * n → WroteRoots r r (in_room (length r) (roots_in bs w)) (Err Buffer)
  roots-short r l =
      let e : leb (5 * length (roots_in bs w)) (length r) ≡ false = lt-leb (5 * length (roots_in bs w)) (length r) (omega (arith, roots-count)) in
      subst (λ (p : Bool). WroteRoots r r (elim p [ false ↦ refused 10 | true ↦ listed (roots_in bs w) ]) (Err Buffer)) (sym e) (record { says = refl; leaves = refl })

  -- room
  pub roots-wrote : (r r' : List ℕ) → 5 * n ≤ length r → r' ≡ sets r 0 (root_list (tab n (λ k. root_at bs w k))) → WroteRoots r r' (in_room (length r) (roots_in bs w)) (Ok n)
  roots-wrote r r' l q =
      let rs = roots_in bs w in
      let e : leb (5 * length rs) (length r) ≡ true = le-leb (5 * length rs) (length r) (omega (arith, roots-count)) in
      let size : 0 + length (root_list rs) ≡ 5 * length rs = omega (arith, list_length rs) in
      let whole : sets r 0 (root_list rs) ≡ root_list rs ++ drop (5 * length rs) r = sets-eq (root_list rs) r 0 (omega (arith, list_length rs, roots-count)) ∙ ap (λ (k : ℕ). root_list rs ++ drop k r) size in
      subst (λ (p : Bool). WroteRoots r r' (elim p [ false ↦ refused 10 | true ↦ listed rs ]) (Ok n)) (sym e) (record { says = sym roots-count; leaves = q ∙ ap (λ (ys : List Root). sets r 0 (root_list ys)) (sym roots-tab) ∙ whole })

-- the binding of a number: one of those that a table has, or none behind them
nth-append : (rs : List Root) (r : Root) (n : ℕ) → n < length rs → nth n (rs ++ (r ∷ [])) ≡ nth n rs
nth-append [] r n l = absurd (omega arith)
nth-append (x ∷ rs) r zero l = refl
nth-append (x ∷ rs) r (suc n) l = nth-append rs r n (omega arith)

nth_last : (rs : List Root) (r : Root) → nth (length rs) (rs ++ (r ∷ [])) ≡ some r
nth_last [] r = refl
nth_last (x ∷ rs) r = nth_last rs r

nth-none : (rs : List Root) (n : ℕ) → length rs ≤ n → nth n rs ≡ none
nth-none [] n l = refl
nth-none (x ∷ rs) zero l = absurd (omega arith)
nth-none (x ∷ rs) (suc n) l = nth-none rs n (omega arith)

nth-tab : (c : ℕ) (f : ℕ → Root) (n : ℕ) → n < c → nth n (tab c f) ≡ some (f n)
unfolding tab
nth-tab zero f n l = absurd (omega arith)
nth-tab (suc c) f n l = ⊎_elim (λ (e : n ≡ c). at-end e) (λ (h : n < c). nth-append (tab c f) (f c) n (omega (arith, length-tab c f, h)) ∙ nth-tab c f n h) (eq-or-lt_of_le (omega arith))
  where
    at-end : n ≡ c → nth n (tab c f ++ (f c ∷ [])) ≡ some (f n)
    at-end e = ap (λ (m : ℕ). nth m (tab c f ++ (f c ∷ []))) (e ∙ sym (length-tab c f)) ∙ nth_last (tab c f) (f c) ∙ ap (λ (m : ℕ). some (f m)) (sym e)

module _ (bs w : List ℕ) (c : ℕ) (h : root_marks (stack w) ≡ marks_to w c) (n : ℕ) where
  pub nth-out : c ≤ n → None ≡ nth_is (nth n (roots_in bs w))
  nth-out l = sym (ap nth_is (nth-none (roots_in bs w) n (omega (arith, roots-count bs w c h))))

  pub nth_in : n < c → Some (given (root_at bs w n)) ≡ nth_is (nth n (roots_in bs w))
  nth_in l = sym (ap (λ (rs : List Root). nth_is (nth n rs)) (roots-tab bs w c h) ∙ ap nth_is (nth-tab c (λ k. root_at bs w k) n l))
