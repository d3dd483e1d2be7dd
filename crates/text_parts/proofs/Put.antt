-- What is put by the parts of a row is what is put by the row. Assumes nothing.
use Rattle.std.proofs.Common.{◌≡◌, ℕ, zero, suc, ◌+◌, ◌≤◌, Bool, true, false, ◌&&◌, ◌||◌, eqb, leb, List, [], ◌∷◌, length, get_or, Option, Some, None, refl, sym, ap, ap₂, ◌∙◌, arith}
use Rattle.std.specs.Prelude.{T, codes}
use Rattle.std.proofs.lemmas.Bool.{eqb-true}
use Rattle.def_tree.specs.Tree.{Tree, Forest, node, nil, cons, length_f, take_f, drop_f}
use Rattle.def_text.specs.Words.{Word}
use Rattle.def_text.specs.Grammar.{Mode as Given, plus, minus, same, by_mode, Slot, Sort as Asked, name, variable, number, string, Part as Right, word, own, kid, run, commas, more, look, if_has, if_not, one_default, each, each_after, each_between, write_out, singles, has_list, right_for}
use Rattle.def_text.specs.Derives.{sort_ok, number_ok}
use Rattle.def_text.specs.Print.{follow}
use Rattle.laws_text.proofs.Basics.{and_left, and_right, is_true}
use Rattle.text_table.specs.declared.Mode.{Mode}
use Rattle.text_table.specs.declared.Mode.TheVariants as Modes
use Rattle.text_table.specs.declared.Sort.{Sort}
use Rattle.text_table.specs.declared.Sort.TheVariants as Sorts
use Rattle.text_table.specs.declared.Style.{Style}
use Rattle.text_table.specs.declared.Style.TheVariants as Styles
use Rattle.text_table.specs.declared.Kids.{Kids}
use Rattle.text_table.specs.Rows.{Row, rows, no_row, bars, place_of, parts, parts_of}
use Rattle.text_table.specs.Put.{Spot, below as spot_below, if_barred, default_count, parts_ok, spots_of, Choice, made, put, put_all}
use Rattle.text_rows.specs.Rows.{below}
use Rattle.text_tokens.specs.Tokens.{own_ok}
use Rattle.text_spots.specs.Spots.{bars_of}
use Rattle.text_parts.specs.Parts.{list_length, comma, follow_parts, in_front, joined, in_pair, comma_before, behind_child, bars_behind, child_spot, put_kids, put_parts}
use Rattle.text_parts.specs.Claims.{PutByParts, PutNothing}
use Rattle.text_parts.proofs.Tests.{known, need, ended, list_ok, one_list, good, good-at, known-word, comma-word, same_bars, bars-eq, need-list, need-all}
use Rattle.text_parts.proofs.Whole.{front-joined, joined-twice, front-nothing, if_ok, filled, whole, whole-word, whole-own, whole-default, whole-kid, whole-look, whole-has, whole-has-not, whole-behind}
use Rattle.text_parts.proofs.Begins.{follow-same}

-- ---- modes, sorts, places

abbrev mode : Given → Mode
mode plus = Modes.Plus
mode minus = Modes.Minus
mode same = Modes.Same

abbrev sort : Asked → Sort
sort name = Sorts.Name
sort variable = Sorts.Variable
sort number = Sorts.Number
sort string = Sorts.Text

abbrev kids_of : Option ℕ → Slot → Style → Kids
kids_of c x s = record { place = place_of c x; has_in = mode x.in_mode; has_return = mode x.return_mode; has_else = mode x.else_mode; style = s }

mode-is : (m : Given) (b : Bool) → below (mode m) b ≡ by_mode m b
mode-is plus b = refl
mode-is minus b = refl
mode-is same b = refl

sort-is : (q : Asked) (o : Word) → own_ok o (sort q) ≡ sort_ok q o
sort-is name o = refl
sort-is variable o = refl
sort-is number o = refl
sort-is string o = refl

-- a child stands where the row has it
child-is : (c : Option ℕ) (x : Slot) (st : Style) (s : Spot) (bs : List (List Word)) (n m : List Word) → if_barred bs n ≡ if_barred bs m → child_spot (kids_of c x st) s bs n ≡ spot_below c s bs m x
child-is c x st s bs n m e =
    ap₂ (λ (i r : Bool). record { place = place_of c x; has_in = i; has_return = r; has_else = below (mode x.else_mode) s.has_else; bars = bs; next = if_barred bs n }) (mode-is x.in_mode s.has_in) (mode-is x.return_mode s.has_return)
    ∙ ap₂ (λ (l : Bool) (v : List Word). record { place = place_of c x; has_in = by_mode x.in_mode s.has_in; has_return = by_mode x.return_mode s.has_return; has_else = l; bars = bs; next = v }) (mode-is x.else_mode s.has_else) e

barred-twice : (bs : List (List Word)) (n : List Word) → if_barred bs (if_barred bs n) ≡ if_barred bs n
barred-twice [] n = refl
barred-twice (b ∷ bs) n = refl

take-whole : (ts : Forest) → take_f (length_f ts) ts ≡ ts
take-whole nil = refl
take-whole (cons t ts) = ap (cons t) (take-whole ts)

module _ (spell : ℕ → ℕ → Word) (o : Word) (s : Spot) where
  -- ---- one child

  -- with no comma before it, then what is behind
  kid-step : (c : Option ℕ) (x : Slot) (st : Style) (f : Bool) (bs : List (List Word)) (last n : List Word) (ps : List Right) (t : Tree) (us ts : Forest) (w : Option (List Word)) → comma_before st f ≡ []
      → if_barred bs (behind_child st (length_f us) last) ≡ if_barred bs (follow ps n)
      → joined (put_kids spell (kids_of c x st) s false [] last us) w ≡ whole spell o None s [] s.next ps ts
      → joined (put_kids spell (kids_of c x st) s f bs last (cons t us)) w ≡ whole spell o c s bs n (kid x ∷ ps) (cons t ts)
  kid-step c x st f bs last n ps t us ts w e b h =
      ap (λ (v : List Word). joined (in_front v (joined (put spell t (child_spot (kids_of c x st) s (bars_behind v bs) (behind_child st (length_f us) last))) (put_kids spell (kids_of c x st) s false [] last us))) w) e
      ∙ ap (λ (y : Option (List Word)). joined y w) (front-nothing (joined (put spell t (child_spot (kids_of c x st) s bs (behind_child st (length_f us) last))) (put_kids spell (kids_of c x st) s false [] last us)))
      ∙ joined-twice (put spell t (child_spot (kids_of c x st) s bs (behind_child st (length_f us) last))) (put_kids spell (kids_of c x st) s false [] last us) w
      ∙ ap₂ joined (ap (put spell t) (child-is c x st s bs (behind_child st (length_f us) last) (follow ps n) b)) h
      ∙ sym (whole-kid spell o c s bs n x ps t ts)

  -- with a comma before it
  comma-step : (x : Slot) (st : Style) (f : Bool) (bs : List (List Word)) (last n : List Word) (ps : List Right) (t : Tree) (us ts : Forest) (w : Option (List Word)) → comma_before st f ≡ comma
      → joined (put_kids spell (kids_of None x st) s false [] last us) w ≡ whole spell o None s [] s.next ps ts
      → joined (put_kids spell (kids_of None x st) s f bs last (cons t us)) w ≡ whole spell o None s bs n (word (codes ",") ∷ kid x ∷ ps) (cons t ts)
  comma-step x st f bs last n ps t us ts w e h =
      ap (λ (v : List Word). joined (in_front v (joined (put spell t (child_spot (kids_of None x st) s (bars_behind v bs) (behind_child st (length_f us) last))) (put_kids spell (kids_of None x st) s false [] last us))) w) e
      ∙ front-joined comma (joined (put spell t (child_spot (kids_of None x st) s [] (behind_child st (length_f us) last))) (put_kids spell (kids_of None x st) s false [] last us)) w
      ∙ ap (in_front comma) (
      joined-twice (put spell t (child_spot (kids_of None x st) s [] (behind_child st (length_f us) last))) (put_kids spell (kids_of None x st) s false [] last us) w
      ∙ ap₂ joined (ap (put spell t) (child-is None x st s [] (behind_child st (length_f us) last) (follow ps n) refl)) h
      ∙ sym (whole-kid spell o None s [] n x ps t ts))
      ∙ ap (λ (v : Word). in_front (v ∷ []) (whole spell o None s [] n (kid x ∷ ps) (cons t ts))) comma-word
      ∙ sym (whole-word spell o None s bs n (codes ",") (kid x ∷ ps) (cons t ts))

  -- ---- lists

  -- children behind a token or another child
  later-run : (x : Slot) (m : ℕ) (ts : Forest) (last n : List Word) (ps : List Right) → m ≤ length_f ts
      → joined (put_kids spell (kids_of None x Styles.Run) s false [] last (take_f m ts)) (whole spell o None s [] s.next ps (drop_f m ts)) ≡ whole spell o None s [] n (each x m ps) ts
  later-run x zero ts last n ps h = front-nothing (whole spell o None s [] s.next ps ts) ∙ whole-behind spell o None s s.next n ps ts
  later-run x (suc m) nil last n ps h = absurd (omega arith)
  later-run x (suc m) (cons t ts) last n ps h = kid-step None x Styles.Run false [] last n (each x m ps) t (take_f m ts) ts (whole spell o None s [] s.next ps (drop_f m ts)) refl refl (later-run x m ts last s.next ps (omega arith))

  later-commas : (x : Slot) (st : Style) (m : ℕ) (ts : Forest) (last n : List Word) (ps : List Right) → comma_before st false ≡ comma → m ≤ length_f ts
      → joined (put_kids spell (kids_of None x st) s false [] last (take_f m ts)) (whole spell o None s [] s.next ps (drop_f m ts)) ≡ whole spell o None s [] n (each_after x m ps) ts
  later-commas x st zero ts last n ps e h = front-nothing (whole spell o None s [] s.next ps ts) ∙ whole-behind spell o None s s.next n ps ts
  later-commas x st (suc m) nil last n ps e h = absurd (omega arith)
  later-commas x st (suc m) (cons t ts) last n ps e h = comma-step x st false [] last n (each_after x m ps) t (take_f m ts) ts (whole spell o None s [] s.next ps (drop_f m ts)) e (later-commas x st m ts last s.next ps e (omega arith))

  -- no child: what was barred is not behind it
  no-kids : (b : Bool) (bs : List (List Word)) (n : List Word) (ps : List Right) (ts : Forest) → (T b → bs ≡ []) → T (b || ended ps) → whole spell o None s [] s.next ps ts ≡ whole spell o None s bs n ps ts
  no-kids true bs n ps ts f h = whole-behind spell o None s s.next n ps ts ∙ ap (λ (cs : List (List Word)). whole spell o None s cs n ps ts) (sym (f tt))
  no-kids false bs n [] ts f h = refl
  no-kids false bs n (p ∷ ps) ts f h = absurd h

  -- what stands behind the first child
  behind-run : (m : ℕ) (x : Slot) (ts : Forest) (bs : List (List Word)) (n : List Word) (ps : List Right) → m ≤ length_f ts → if_barred bs (behind_child Styles.Run (length_f (take_f m ts)) (if_barred bs (follow ps n))) ≡ if_barred bs (follow (each x m ps) n)
  behind-run zero x ts bs n ps h = barred-twice bs (follow ps n)
  behind-run (suc m) x nil bs n ps h = absurd (omega arith)
  behind-run (suc m) x (cons t ts) bs n ps h = refl

  behind-commas : (m : ℕ) (x : Slot) (ts : Forest) (bs : List (List Word)) (n : List Word) (ps : List Right) → m ≤ length_f ts → if_barred bs (behind_child Styles.Commas (length_f (take_f m ts)) (if_barred bs (follow ps n))) ≡ if_barred bs (follow (each_after x m ps) n)
  behind-commas zero x ts bs n ps h = barred-twice bs (follow ps n)
  behind-commas (suc m) x nil bs n ps h = absurd (omega arith)
  behind-commas (suc m) x (cons t ts) bs n ps h = ap (λ (v : Word). if_barred bs (v ∷ [])) comma-word

  -- a whole list: what is barred is barred before its first child
  first-run : (b : Bool) (x : Slot) (m : ℕ) (ts : Forest) (bs : List (List Word)) (n : List Word) (ps : List Right) → (T b → bs ≡ []) → T (b || ended ps) → m ≤ length_f ts
      → joined (put_kids spell (kids_of None x Styles.Run) s true bs (if_barred bs (follow ps n)) (take_f m ts)) (whole spell o None s [] s.next ps (drop_f m ts)) ≡ whole spell o None s bs n (each x m ps) ts
  first-run b x zero ts bs n ps f g h = front-nothing (whole spell o None s [] s.next ps ts) ∙ no-kids b bs n ps ts f g
  first-run b x (suc m) nil bs n ps f g h = absurd (omega arith)
  first-run b x (suc m) (cons t ts) bs n ps f g h =
      kid-step None x Styles.Run true bs (if_barred bs (follow ps n)) n (each x m ps) t (take_f m ts) ts (whole spell o None s [] s.next ps (drop_f m ts)) refl (behind-run m x ts bs n ps (omega arith)) (later-run x m ts (if_barred bs (follow ps n)) s.next ps (omega arith))

  first-commas : (b : Bool) (x : Slot) (m : ℕ) (ts : Forest) (bs : List (List Word)) (n : List Word) (ps : List Right) → (T b → bs ≡ []) → T (b || ended ps) → m ≤ length_f ts
      → joined (put_kids spell (kids_of None x Styles.Commas) s true bs (if_barred bs (follow ps n)) (take_f m ts)) (whole spell o None s [] s.next ps (drop_f m ts)) ≡ whole spell o None s bs n (each_between x m ps) ts
  first-commas b x zero ts bs n ps f g h = front-nothing (whole spell o None s [] s.next ps ts) ∙ no-kids b bs n ps ts f g
  first-commas b x (suc m) nil bs n ps f g h = absurd (omega arith)
  first-commas b x (suc m) (cons t ts) bs n ps f g h =
      kid-step None x Styles.Commas true bs (if_barred bs (follow ps n)) n (each_after x m ps) t (take_f m ts) ts (whole spell o None s [] s.next ps (drop_f m ts)) refl (behind-commas m x ts bs n ps (omega arith)) (later-commas x Styles.Commas m ts (if_barred bs (follow ps n)) s.next ps refl (omega arith))

  first-more : (b : Bool) (x : Slot) (m : ℕ) (ts : Forest) (bs : List (List Word)) (n : List Word) (ps : List Right) → (T b → bs ≡ []) → T (b || ended ps) → m ≤ length_f ts
      → joined (put_kids spell (kids_of None x Styles.More) s true bs (if_barred bs (follow ps n)) (take_f m ts)) (whole spell o None s [] s.next ps (drop_f m ts)) ≡ whole spell o None s bs n (each_after x m ps) ts
  first-more b x zero ts bs n ps f g h = front-nothing (whole spell o None s [] s.next ps ts) ∙ no-kids b bs n ps ts f g
  first-more b x (suc m) nil bs n ps f g h = absurd (omega arith)
  first-more b x (suc m) (cons t ts) bs n ps f g h =
      comma-step x Styles.More true bs (if_barred bs (follow ps n)) n (each_after x m ps) t (take_f m ts) ts (whole spell o None s [] s.next ps (drop_f m ts)) refl (later-commas x Styles.More m ts (if_barred bs (follow ps n)) s.next ps refl (omega arith))

  -- ---- all parts

  list-first : (c : Option ℕ) (b : Bool) (ps : List Right) → T (list_ok c b ps) → (c ≡ None) × T (b || ended ps)
  list-first None b ps h = (refl, h)
  list-first (Some i) b ps h = absurd h

  -- there are children enough, and as many behind as are asked for
  drop-length : (m k : ℕ) (ts : Forest) → m + k ≡ length_f ts → (m ≤ length_f ts) × (k ≡ length_f (drop_f m ts))
  drop-length zero k ts h = (omega arith, sym (omega arith))
  drop-length (suc m) k nil h = absurd (omega arith)
  drop-length (suc m) k (cons t ts) h = let e : m + k ≡ length_f ts = omega arith in let r = drop-length m k ts e in (omega (arith, r.0), r.1)

  ends-put : (l m : ℕ) (c : Option ℕ) (bs : List (List Word)) (n : List Word) (ts : Forest) → zero ≡ length_f ts → put_parts spell o m s bs n (parts l c []) ts ≡ whole spell o c s bs n [] ts
  ends-put zero m c bs n nil h = refl
  ends-put (suc l) m c bs n nil h = refl
  ends-put l m c bs n (cons t ts) h = absurd (omega arith)

  -- a test for one default clause looks at all children that are left
  defaults-take : (m : ℕ) (ts : Forest) (ps : List Right) → T (eqb (singles ps) 0 && has_list ps && one_list ps) → need m ps ≡ length_f ts → take_f m ts ≡ ts
  defaults-take m ts ps g h =
      let a = and_left (eqb (singles ps) 0 && has_list ps) (one_list ps) g in
      let z = eqb-true (singles ps) 0 (is_true _ (and_left (eqb (singles ps) 0) (has_list ps) a)) in
      let e = need-list m ps (and_right (eqb (singles ps) 0 && has_list ps) (one_list ps) g) (is_true _ (and_right (eqb (singles ps) 0) (has_list ps) a)) in
      let i : m ≡ length_f ts = omega arith in
      ap (λ (k : ℕ). take_f k ts) i ∙ take-whole ts

  -- what is last stays so when it is written out
  ended-out : (b : Bool) (m : ℕ) (ps : List Right) → T (b || ended ps) → T (b || ended (write_out m ps))
  ended-out true m ps h = tt
  ended-out false m [] h = tt
  ended-out false m (p ∷ ps) h = absurd h

  -- the parts put what the right side does that they are of
  parts-put : (l m : ℕ) (c : Option ℕ) (b : Bool) (bs : List (List Word)) (n : List Word) (ps : List Right) (ts : Forest) → length ps ≤ l → T (good c b ps) → (T b → bs ≡ []) → need m ps ≡ length_f ts
      → put_parts spell o m s bs n (parts l c ps) ts ≡ whole spell o c s bs n (write_out m ps) ts
  parts-put l m c b bs n [] ts h g f k = ends-put l m c bs n ts k
  parts-put zero m c b bs n (p ∷ ps) ts h g f k = absurd (omega arith)
  parts-put (suc l) m c b bs n (word w ∷ ps) ts h g f k =
      ap₂ (λ (v : Word) (y : Option (List Word)). in_front (v ∷ []) y) (known-word w (and_left (known w) (good c true ps) g)) (parts-put l m c true [] n ps ts (omega arith) (and_right (known w) (good c true ps) g) (λ t. refl) k)
      ∙ sym (whole-word spell o c s bs n w (write_out m ps) ts)
  parts-put (suc l) m c b bs n (own q ∷ ps) ts h g f k =
      ap₂ (λ (a : Bool) (y : Option (List Word)). elim a as (λ z. Option (List Word)) [ true ↦ in_front (o ∷ []) y | false ↦ None ]) (sort-is q o) (parts-put l m c true [] n ps ts (omega arith) g (λ t. refl) k)
      ∙ sym (whole-own spell o c s bs n q (write_out m ps) ts)
  parts-put (suc l) m c b bs n (kid x ∷ ps) nil h g f k = absurd (omega arith)
  parts-put (suc l) m c b bs n (kid x ∷ ps) (cons t ts) h g f k =
      ap₂ (λ (v : List Word) (y : Option (List Word)). joined (put_kids spell (kids_of c x Styles.One) s true bs (if_barred bs v) (cons t nil)) y) (sym (follow-same l m None true ps n (omega arith) g)) (parts-put l m None true [] s.next ps ts (omega arith) g (λ t. refl) (let e : need m ps ≡ length_f ts = omega arith in e))
      ∙ kid-step c x Styles.One true bs (if_barred bs (follow (write_out m ps) n)) n (write_out m ps) t nil ts (whole spell o None s [] s.next (write_out m ps) ts) refl (barred-twice bs (follow (write_out m ps) n)) (front-nothing (whole spell o None s [] s.next (write_out m ps) ts))
  parts-put (suc l) m c b bs n (run x ∷ ps) ts h g f k =
      let e = list-first c b ps (and_left (list_ok c b ps) (good None true ps) g) in
      let r = and_right (list_ok c b ps) (good None true ps) g in
      let d = drop-length m (need m ps) ts k in
      ap (λ (c : Option ℕ). joined (put_kids spell (kids_of c x Styles.Run) s true bs (if_barred bs (follow_parts m (parts l None ps) n)) (take_f m ts)) (put_parts spell o m s [] s.next (parts l None ps) (drop_f m ts))) e.0
      ∙ ap₂ (λ (v : List Word) (y : Option (List Word)). joined (put_kids spell (kids_of None x Styles.Run) s true bs (if_barred bs v) (take_f m ts)) y) (sym (follow-same l m None true ps n (omega arith) r)) (parts-put l m None true [] s.next ps (drop_f m ts) (omega arith) r (λ t. refl) d.1)
      ∙ first-run b x m ts bs n (write_out m ps) f (ended-out b m ps e.1) d.0
      ∙ ap (λ (c : Option ℕ). whole spell o c s bs n (each x m (write_out m ps)) ts) (sym e.0)
  parts-put (suc l) m c b bs n (commas x ∷ ps) ts h g f k =
      let e = list-first c b ps (and_left (list_ok c b ps) (good None true ps) g) in
      let r = and_right (list_ok c b ps) (good None true ps) g in
      let d = drop-length m (need m ps) ts k in
      ap (λ (c : Option ℕ). joined (put_kids spell (kids_of c x Styles.Commas) s true bs (if_barred bs (follow_parts m (parts l None ps) n)) (take_f m ts)) (put_parts spell o m s [] s.next (parts l None ps) (drop_f m ts))) e.0
      ∙ ap₂ (λ (v : List Word) (y : Option (List Word)). joined (put_kids spell (kids_of None x Styles.Commas) s true bs (if_barred bs v) (take_f m ts)) y) (sym (follow-same l m None true ps n (omega arith) r)) (parts-put l m None true [] s.next ps (drop_f m ts) (omega arith) r (λ t. refl) d.1)
      ∙ first-commas b x m ts bs n (write_out m ps) f (ended-out b m ps e.1) d.0
      ∙ ap (λ (c : Option ℕ). whole spell o c s bs n (each_between x m (write_out m ps)) ts) (sym e.0)
  parts-put (suc l) m c b bs n (more x ∷ ps) ts h g f k =
      let e = list-first c b ps (and_left (list_ok c b ps) (good None true ps) g) in
      let r = and_right (list_ok c b ps) (good None true ps) g in
      let d = drop-length m (need m ps) ts k in
      ap (λ (c : Option ℕ). joined (put_kids spell (kids_of c x Styles.More) s true bs (if_barred bs (follow_parts m (parts l None ps) n)) (take_f m ts)) (put_parts spell o m s [] s.next (parts l None ps) (drop_f m ts))) e.0
      ∙ ap₂ (λ (v : List Word) (y : Option (List Word)). joined (put_kids spell (kids_of None x Styles.More) s true bs (if_barred bs v) (take_f m ts)) y) (sym (follow-same l m None true ps n (omega arith) r)) (parts-put l m None true [] s.next ps (drop_f m ts) (omega arith) r (λ t. refl) d.1)
      ∙ first-more b x m ts bs n (write_out m ps) f (ended-out b m ps e.1) d.0
      ∙ ap (λ (c : Option ℕ). whole spell o c s bs n (each_after x m (write_out m ps)) ts) (sym e.0)
  parts-put (suc l) m c b bs n (look cs ∷ ps) ts h g f k =
      ap (λ (ds : List (List Word)). put_parts spell o m s ds [] (parts l c ps) ts) (bars-eq (bars_of (bars cs)) cs (and_left (same_bars (bars_of (bars cs)) cs) (good c false ps) g))
      ∙ parts-put l m c false cs [] ps ts (omega arith) (and_right (same_bars (bars_of (bars cs)) cs) (good c false ps) g) (λ t. absurd t) k
      ∙ sym (whole-look spell o c s bs n cs (write_out m ps) ts)
  parts-put (suc l) m c b bs n (if_has p ∷ ps) ts h g f k = parts-put l m c b bs n ps ts (omega arith) g f k ∙ sym (whole-has spell o c s bs n p (write_out m ps) ts)
  parts-put (suc l) m c b bs n (if_not p ∷ ps) ts h g f k = parts-put l m c b bs n ps ts (omega arith) g f k ∙ sym (whole-has-not spell o c s bs n p (write_out m ps) ts)
  parts-put (suc l) m c b bs n (one_default ∷ ps) ts h g f k =
      ap₂ (λ (us : Forest) (y : Option (List Word)). elim (leb (default_count us) 1) as (λ z. Option (List Word)) [ true ↦ y | false ↦ None ])
      (defaults-take m ts ps (and_left (eqb (singles ps) 0 && has_list ps && one_list ps) (good c b ps) g) k)
      (parts-put l m c b bs n ps ts (omega arith) (and_right (eqb (singles ps) 0 && has_list ps && one_list ps) (good c b ps) g) f k)
      ∙ sym (whole-default spell o c s bs n (write_out m ps) ts)

-- ---- a node

module _ (spell : ℕ → ℕ → Word) where
  -- a node's tokens by its row
  by-row : (b : Bool) (o : Word) (r : Row) (q : Spot) (N : ℕ) (ok : Bool) (x : Option (List (List Word)))
      → elim (true && ok) as (λ z. Option (List Word)) [ false ↦ None | true ↦ made (record { row = r; spot = q; paired = b }) N o x ] ≡ in_pair b (if_ok ok (filled o (right_for N r.rule) x))
  by-row b o r q N false x = refl
  by-row b o r q N true None = refl
  by-row b o r q N true (Some ls) = refl

  abbrev by-choice : (k f a : ℕ) (ts : Forest) (x : Option Choice) → Option (List Word)
  by-choice k f a ts x = elim x as (λ z. Option (List Word)) [
    | None ↦ None
    | Some c ↦ elim (number_ok k a && parts_ok (spell k a) ts (right_for (length_f ts) c.row.rule)) as (λ z. Option (List Word)) [ false ↦ None | true ↦ made c (length_f ts) (spell k a) (put_all spell ts (spots_of c.row (length_f ts) c.spot)) ]
  ]

pub put-by-parts : PutByParts
unfolding parts_of
put-by-parts spell k f a ts s q i b t l h e =
    let r = get_or rows i no_row in
    let g = good-at i l in
    let N = length_f ts in
    let o = spell k a in
    ap (by-choice spell k f a ts) e
    ∙ ap (λ (c : Bool). elim (c && parts_ok o ts (right_for N r.rule)) as (λ z. Option (List Word)) [ false ↦ None | true ↦ made (record { row = r; spot = q; paired = b }) N o (put_all spell ts (spots_of r N q)) ]) (is_true _ t)
    ∙ by-row spell b o r q N (parts_ok o ts (right_for N r.rule)) (put_all spell ts (spots_of r N q))
    ∙ ap (in_pair b) (sym (parts-put spell o q 11 (list_length i N) r.first false q.bars q.next r.rule.right ts g.short g.fine (λ t. absurd t) (need-all k f N i l h)))

pub put-nothing : PutNothing
put-nothing spell (node k f a ts) s e = ap (by-choice spell k f a ts) e
