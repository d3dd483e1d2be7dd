-- A derived node of an expression: its row without what it asks first, and what the tests say of it. Assumes nothing.
use mathlib.Core.Path.{◌≡◌, refl, sym, ap, ◌∙◌, subst}
use mathlib.Core.Bool.{Bool, true, false, ◌&&◌, ◌||◌, not}
use mathlib.Core.List.{List, [], ◌∷◌, ◌++◌}
use Prim.Native.Nat.{ℕ, zero, suc, ◌-◌}
use lib.Dec.{T, eqb, leb}
use Rattle.def_tree.specs.Tree.{Forest, node, length_f}
use Rattle.def_file.specs.Kinds.{uses_text}
use Rattle.def_file.specs.Named.{is_kind}
use Rattle.def_file.specs.declared.kind.Kind.TheVariants as Kinds
use Rattle.def_text.specs.Words.{Word, some, every, among}
use Rattle.def_text.specs.Grammar.{Symbol, Place, Slot, at_slot, Part, word, own, kid, run, commas, more, look, if_has, if_not, one_default, In, Return, Else, Rule, each, each_after, each_between, write_out, singles}
use Rattle.def_text.specs.Table.{reaches, rules}
use Rattle.def_text.specs.Derives.{fill, barred, sort_ok, has, Child, token_lists, defaults, follows, number_ok, tokens, tokens_all, derives, children}
use Rattle.laws_text.proofs.Basics.{and_left, and_right, Within, every-at}
use Rattle.laws_text.proofs.Fit.{yes-then, no-then, slots, derived}
use Rattle.laws_text.proofs.Rows.{for-kind, for-form, fill-of}
use Rattle.laws_reading.specs.Claims.{is_plain}
use Rattle.laws_reading.proofs.Tests.{stripped, dangles, ended_by, with_else, ends_open, open_ended, zones, rooted, within, whole, shut, covers, front, tail_ok, skip_ok, bal, keeps, ends, goes_on, row_at, symbol_ok, used, fits_before, owns, row_ok, rows_ok, two, two_at, two_ok, twos_ok}

-- ---- what a right side asks first is left out

each-fill : (o : Word) (x : Slot) (m : ℕ) (ps qs : List Part) → ((ls : List (List Word)) → fill o ps ls ≡ fill o qs ls) → (ls : List (List Word)) → fill o (each x m ps) ls ≡ fill o (each x m qs) ls
each-fill o x zero ps qs h ls = h ls
each-fill o x (suc m) ps qs h [] = each-fill o x m ps qs h []
each-fill o x (suc m) ps qs h (l ∷ ls) = ap (λ z. l ++ z) (each-fill o x m ps qs h ls)

after-fill : (o : Word) (x : Slot) (m : ℕ) (ps qs : List Part) → ((ls : List (List Word)) → fill o ps ls ≡ fill o qs ls) → (ls : List (List Word)) → fill o (each_after x m ps) ls ≡ fill o (each_after x m qs) ls
after-fill o x zero ps qs h ls = h ls
after-fill o x (suc m) ps qs h [] = ap {B = List Word} (λ z. (44 ∷ []) ∷ z) (after-fill o x m ps qs h [])
after-fill o x (suc m) ps qs h (l ∷ ls) = ap {B = List Word} (λ z. (44 ∷ []) ∷ (l ++ z)) (after-fill o x m ps qs h ls)

between-fill : (o : Word) (x : Slot) (m : ℕ) (ps qs : List Part) → ((ls : List (List Word)) → fill o ps ls ≡ fill o qs ls) → (ls : List (List Word)) → fill o (each_between x m ps) ls ≡ fill o (each_between x m qs) ls
between-fill o x zero ps qs h ls = h ls
between-fill o x (suc m) ps qs h [] = after-fill o x m ps qs h []
between-fill o x (suc m) ps qs h (l ∷ ls) = ap (λ z. l ++ z) (after-fill o x m ps qs h ls)

strip-fill : (o : Word) (m : ℕ) (ps : List Part) (ls : List (List Word)) → fill o (write_out m ps) ls ≡ fill o (write_out m (stripped ps)) ls
strip-fill o m [] ls = refl
strip-fill o m (word w ∷ ps) ls = ap {B = List Word} (λ z. w ∷ z) (strip-fill o m ps ls)
strip-fill o m (own s ∷ ps) ls = ap {B = List Word} (λ z. o ∷ z) (strip-fill o m ps ls)
strip-fill o m (kid x ∷ ps) [] = strip-fill o m ps []
strip-fill o m (kid x ∷ ps) (l ∷ ls) = ap (λ z. l ++ z) (strip-fill o m ps ls)
strip-fill o m (run x ∷ ps) ls = each-fill o x m (write_out m ps) (write_out m (stripped ps)) (λ ls. strip-fill o m ps ls) ls
strip-fill o m (commas x ∷ ps) ls = between-fill o x m (write_out m ps) (write_out m (stripped ps)) (λ ls. strip-fill o m ps ls) ls
strip-fill o m (more x ∷ ps) ls = after-fill o x m (write_out m ps) (write_out m (stripped ps)) (λ ls. strip-fill o m ps ls) ls
strip-fill o m (look bs ∷ ps) ls = strip-fill o m ps ls
strip-fill o m (if_has p ∷ ps) ls = strip-fill o m ps ls
strip-fill o m (if_not p ∷ ps) ls = strip-fill o m ps ls
strip-fill o m (one_default ∷ ps) ls = strip-fill o m ps ls

kept-kid : (g : Place) (o : Word) (x : Slot) (ps qs : List Part) → ((cs : List Child) → T (follows g o ps cs) → T (follows g o qs cs)) → (cs : List Child) → T (follows g o (kid x ∷ ps) cs) → T (follows g o (kid x ∷ qs) cs)
kept-kid g o x ps qs h [] k = k
kept-kid g o x ps qs h (c ∷ cs) k = go (c.derived (at_slot g x)) k
  where
    go : (b : Bool) → T (elim b [ true ↦ follows g o ps cs | false ↦ false ]) → T (elim b [ true ↦ follows g o qs cs | false ↦ false ])
    go true k = h cs k
    go false k = k

each-follows : (g : Place) (o : Word) (x : Slot) (m : ℕ) (ps qs : List Part) → ((cs : List Child) → T (follows g o ps cs) → T (follows g o qs cs)) → (cs : List Child) → T (follows g o (each x m ps) cs) → T (follows g o (each x m qs) cs)
each-follows g o x zero ps qs h cs k = h cs k
each-follows g o x (suc m) ps qs h cs k = kept-kid g o x (each x m ps) (each x m qs) (λ cs k. each-follows g o x m ps qs h cs k) cs k

after-follows : (g : Place) (o : Word) (x : Slot) (m : ℕ) (ps qs : List Part) → ((cs : List Child) → T (follows g o ps cs) → T (follows g o qs cs)) → (cs : List Child) → T (follows g o (each_after x m ps) cs) → T (follows g o (each_after x m qs) cs)
after-follows g o x zero ps qs h cs k = h cs k
after-follows g o x (suc m) ps qs h cs k = kept-kid g o x (each_after x m ps) (each_after x m qs) (λ cs k. after-follows g o x m ps qs h cs k) cs k

between-follows : (g : Place) (o : Word) (x : Slot) (m : ℕ) (ps qs : List Part) → ((cs : List Child) → T (follows g o ps cs) → T (follows g o qs cs)) → (cs : List Child) → T (follows g o (each_between x m ps) cs) → T (follows g o (each_between x m qs) cs)
between-follows g o x zero ps qs h cs k = h cs k
between-follows g o x (suc m) ps qs h cs k = kept-kid g o x (each_after x m ps) (each_after x m qs) (λ cs k. after-follows g o x m ps qs h cs k) cs k

strip-follows : (g : Place) (o : Word) (m : ℕ) (ps : List Part) (cs : List Child) → T (follows g o (write_out m ps) cs) → T (follows g o (write_out m (stripped ps)) cs)
strip-follows g o m [] cs h = h
strip-follows g o m (word w ∷ ps) cs h = strip-follows g o m ps cs h
strip-follows g o m (own s ∷ ps) cs h = go (sort_ok s o) (λ k. strip-follows g o m ps cs k) h
  where
    go : (b : Bool) → (T (follows g o (write_out m ps) cs) → T (follows g o (write_out m (stripped ps)) cs)) → T (elim b [ true ↦ follows g o (write_out m ps) cs | false ↦ false ]) → T (elim b [ true ↦ follows g o (write_out m (stripped ps)) cs | false ↦ false ])
    go true f k = f k
    go false f k = k
strip-follows g o m (kid x ∷ ps) cs h = kept-kid g o x (write_out m ps) (write_out m (stripped ps)) (λ cs k. strip-follows g o m ps cs k) cs h
strip-follows g o m (run x ∷ ps) cs h = each-follows g o x m (write_out m ps) (write_out m (stripped ps)) (λ cs k. strip-follows g o m ps cs k) cs h
strip-follows g o m (commas x ∷ ps) cs h = between-follows g o x m (write_out m ps) (write_out m (stripped ps)) (λ cs k. strip-follows g o m ps cs k) cs h
strip-follows g o m (more x ∷ ps) cs h = after-follows g o x m (write_out m ps) (write_out m (stripped ps)) (λ cs k. strip-follows g o m ps cs k) cs h
strip-follows g o m (look bs ∷ ps) cs h =
    let y = no-then (barred bs (fill o (write_out m ps) (token_lists cs))) (follows g o (write_out m ps) cs) h in
    go (barred bs (fill o (write_out m (stripped ps)) (token_lists cs))) (subst (λ (z : List Word). T (not (barred bs z))) (strip-fill o m ps (token_lists cs)) y.0) (strip-follows g o m ps cs y.1)
  where
    go : (b : Bool) → T (not b) → T (follows g o (write_out m (stripped ps)) cs) → T (elim b [ true ↦ false | false ↦ follows g o (write_out m (stripped ps)) cs ])
    go true n k = n
    go false n k = k
strip-follows g o m (if_has p ∷ ps) cs h = strip-follows g o m ps cs (yes-then (has p g) (follows g o (write_out m ps) cs) h).1
strip-follows g o m (if_not p ∷ ps) cs h = strip-follows g o m ps cs (no-then (has p g) (follows g o (write_out m ps) cs) h).1
strip-follows g o m (one_default ∷ ps) cs h = strip-follows g o m ps cs (yes-then (leb (defaults cs) 1) (follows g o (write_out m ps) cs) h).1

front-fill : (o : Word) (m : ℕ) (r : Rule) (ls : List (List Word)) → fill o (write_out m r.right) ls ≡ fill o (write_out m (front r)) ls
front-fill o m r ls = go (is_kind Kinds.VarDeclarator r.kind)
  where
    go : (b : Bool) → fill o (write_out m r.right) ls ≡ fill o (write_out m (elim b [ true ↦ look [] ∷ stripped r.right | false ↦ stripped r.right ])) ls
    go true = strip-fill o m r.right ls
    go false = strip-fill o m r.right ls

front-follows : (g : Place) (o : Word) (m : ℕ) (r : Rule) (cs : List Child) → T (follows g o (write_out m r.right) cs) → T (follows g o (write_out m (front r)) cs)
front-follows g o m r cs h = go (is_kind Kinds.VarDeclarator r.kind)
  where
    go : (b : Bool) → T (follows g o (write_out m (elim b [ true ↦ look [] ∷ stripped r.right | false ↦ stripped r.right ])) cs)
    go true = strip-follows g o m r.right cs h
    go false = strip-follows g o m r.right cs h

-- an `if` without else stands where none follows
each-else : (g : Place) (o : Word) (x : Slot) (m : ℕ) (ps : List Part) (A : Type 0) → ((cs : List Child) → T (follows g o ps cs) → A) → (cs : List Child) → T (follows g o (each x m ps) cs) → A
each-else g o x zero ps A h cs k = h cs k
each-else g o x (suc m) ps A h [] k = absurd k
each-else g o x (suc m) ps A h (c ∷ cs) k = each-else g o x m ps A h cs (yes-then (c.derived (at_slot g x)) (follows g o (each x m ps) cs) k).1

after-else : (g : Place) (o : Word) (x : Slot) (m : ℕ) (ps : List Part) (A : Type 0) → ((cs : List Child) → T (follows g o ps cs) → A) → (cs : List Child) → T (follows g o (each_after x m ps) cs) → A
after-else g o x zero ps A h cs k = h cs k
after-else g o x (suc m) ps A h [] k = absurd k
after-else g o x (suc m) ps A h (c ∷ cs) k = after-else g o x m ps A h cs (yes-then (c.derived (at_slot g x)) (follows g o (each_after x m ps) cs) k).1

between-else : (g : Place) (o : Word) (x : Slot) (m : ℕ) (ps : List Part) (A : Type 0) → ((cs : List Child) → T (follows g o ps cs) → A) → (cs : List Child) → T (follows g o (each_between x m ps) cs) → A
between-else g o x zero ps A h cs k = h cs k
between-else g o x (suc m) ps A h [] k = absurd k
between-else g o x (suc m) ps A h (c ∷ cs) k = after-else g o x m ps A h cs (yes-then (c.derived (at_slot g x)) (follows g o (each_after x m ps) cs) k).1

no-else : (g : Place) (o : Word) (m : ℕ) (ps : List Part) (cs : List Child) → T (dangles ps) → T (follows g o (write_out m ps) cs) → T (not g.has_else)
no-else g o m [] cs d h = absurd d
no-else g o m (word w ∷ ps) cs d h = no-else g o m ps cs d h
no-else g o m (own s ∷ ps) cs d h = no-else g o m ps cs d (yes-then (sort_ok s o) (follows g o (write_out m ps) cs) h).1
no-else g o m (kid x ∷ ps) [] d h = absurd h
no-else g o m (kid x ∷ ps) (c ∷ cs) d h = no-else g o m ps cs d (yes-then (c.derived (at_slot g x)) (follows g o (write_out m ps) cs) h).1
no-else g o m (run x ∷ ps) cs d h = each-else g o x m (write_out m ps) (T (not g.has_else)) (λ cs k. no-else g o m ps cs d k) cs h
no-else g o m (commas x ∷ ps) cs d h = between-else g o x m (write_out m ps) (T (not g.has_else)) (λ cs k. no-else g o m ps cs d k) cs h
no-else g o m (more x ∷ ps) cs d h = after-else g o x m (write_out m ps) (T (not g.has_else)) (λ cs k. no-else g o m ps cs d k) cs h
no-else g o m (look bs ∷ ps) cs d h = no-else g o m ps cs d (no-then (barred bs (fill o (write_out m ps) (token_lists cs))) (follows g o (write_out m ps) cs) h).1
no-else g o m (if_has p ∷ ps) cs d h = no-else g o m ps cs d (yes-then (has p g) (follows g o (write_out m ps) cs) h).1
no-else g o m (if_not In ∷ ps) cs d h = no-else g o m ps cs d (no-then (has In g) (follows g o (write_out m ps) cs) h).1
no-else g o m (if_not Return ∷ ps) cs d h = no-else g o m ps cs d (no-then (has Return g) (follows g o (write_out m ps) cs) h).1
no-else g o m (if_not Else ∷ ps) cs d h = (no-then (has Else g) (follows g o (write_out m ps) cs) h).0
no-else g o m (one_default ∷ ps) cs d h = no-else g o m ps cs d (yes-then (leb (defaults cs) 1) (follows g o (write_out m ps) cs) h).1

-- a test that is asked of some
pub asked : (b x : Bool) → T (elim b [ true ↦ x | false ↦ true ]) → T b → T x
asked true x h t = h
asked false x h t = absurd t

given : (b x : Bool) → T b → T x → T (elim b [ true ↦ x | false ↦ false ])
given true x t h = h
given false x t h = absurd t

pub keeps-at : (c : ℕ) (x y : Symbol) → Within c zones → T (keeps x y) → T (within c x) → T (within c y)
keeps-at c x y v h t = asked (within c x) (within c y) (every-at (λ i. elim (within i x) [ true ↦ within i y | false ↦ true ]) c zones h v) t

pub ends-at : (c : ℕ) (x y : Symbol) → Within c zones → T (ends x y) → T (rooted c x) → T (whole c y)
ends-at c x y v h t = asked (rooted c x) (whole c y) (every-at (λ i. elim (rooted i x) [ true ↦ whole i y | false ↦ true ]) c zones h v) t

module _ (spell : ℕ → ℕ → Word) where
  -- the node has this right side
  pub record Info (k f a : ℕ) (ts : Forest) (g : Place) (ps : List Part) : Type 0 where
    pub rule : Rule
    pub inside : Within rule rules
    pub is-used : T (used rule)
    pub right-is : front rule ≡ ps
    pub kind-is : rule.kind ≡ k
    pub form-is : rule.form ≡ f
    pub reached : T (reaches g.symbol rule.left)
    pub kept : T (keeps g.symbol rule.left)
    pub ended : T (ends g.symbol rule.left)
    pub shuts : T (covers (shut g.symbol) (ended_by rule))
    pub statement : T (not (ends_open ps || dangles rule.right) || open_ended g.symbol)
    pub no-else-behind : T (dangles rule.right) → T (not g.has_else)
    pub skips : T (skip_ok g.symbol ps)
    pub on : T (tail_ok (goes_on g.symbol) ps)
    pub slots-ok : T (slots (λ x. symbol_ok x.symbol) ps)
    pub before : T (tail_ok (λ x o. fits_before x o) ps)
    pub balanced : T (bal 0 ps)
    pub number : T (owns ps || not (uses_text k || is_kind Kinds.Number k))
    pub times : ℕ
    pub followed : T (follows g (spell k a) (write_out times ps) (children spell ts))
    pub tokens-are : tokens spell (node k f a ts) ≡ fill (spell k a) (write_out times ps) (tokens_all spell ts)
    pub numbered : T (number_ok k a)

  pub record Node (k f a : ℕ) (ts : Forest) (g : Place) : Type 0 where
    pub right : List Part
    pub info : Info k f a ts g right

  pub info-of : (k f a : ℕ) (ts : Forest) (g : Place) → T (symbol_ok g.symbol) → T (is_plain k f) → T (derives spell (node k f a ts) g) → Node k f a ts g
  info-of k f a ts g s o h =
      let n = length_f ts in
      let d = derived spell k f a ts g h in
      let r = d.rule in
      let ps = front r in
      let ki = for-kind k f n r d.is-for in
      let fo = for-form k f n r d.is-for in
      let ok = subst (λ (j : ℕ). T (is_plain j r.form)) (sym ki) (subst (λ (j : ℕ). T (is_plain k j)) (sym fo) o) in
      let at = asked (reaches g.symbol r.left) (row_at g.symbol r)
      (asked (is_plain r.kind r.form) _ (every-at (λ q. elim (is_plain q.kind q.form) [ true ↦ elim (reaches g.symbol q.left) [ true ↦ row_at g.symbol q | false ↦ true ] | false ↦ true ]) r rules s d.inside) ok) d.reached in
      let a6 = and_left (keeps g.symbol r.left && ends g.symbol r.left && some (λ c. within c r.left) zones && covers (shut g.symbol) (ended_by r) && (not (ends_open ps || dangles r.right) || open_ended g.symbol) && skip_ok g.symbol ps) (tail_ok (goes_on g.symbol) ps) at in
      let a5 = and_left (keeps g.symbol r.left && ends g.symbol r.left && some (λ c. within c r.left) zones && covers (shut g.symbol) (ended_by r) && (not (ends_open ps || dangles r.right) || open_ended g.symbol)) (skip_ok g.symbol ps) a6 in
      let a4 = and_left (keeps g.symbol r.left && ends g.symbol r.left && some (λ c. within c r.left) zones && covers (shut g.symbol) (ended_by r)) (not (ends_open ps || dangles r.right) || open_ended g.symbol) a5 in
      let a3 = and_left (keeps g.symbol r.left && ends g.symbol r.left && some (λ c. within c r.left) zones) (covers (shut g.symbol) (ended_by r)) a4 in
      let a2 = and_left (keeps g.symbol r.left && ends g.symbol r.left) (some (λ c. within c r.left) zones) a3 in
      let u = given (is_plain r.kind r.form) (some (λ c. within c r.left) zones) ok (and_right (keeps g.symbol r.left && ends g.symbol r.left) (some (λ c. within c r.left) zones) a3) in
      let row = asked (used r) (row_ok r) (every-at (λ q. elim (used q) [ true ↦ row_ok q | false ↦ true ]) r rules rows_ok d.inside) u in
      let b3 = and_left (slots (λ x. symbol_ok x.symbol) ps && tail_ok (λ x o. fits_before x o) ps && bal 0 ps) (owns ps || not (uses_text r.kind || is_kind Kinds.Number r.kind)) row in
      let b2 = and_left (slots (λ x. symbol_ok x.symbol) ps && tail_ok (λ x o. fits_before x o) ps) (bal 0 ps) b3 in
      record {
        right = ps;
        info = record {
          rule = r;
          inside = d.inside;
          is-used = u;
          right-is = refl;
          kind-is = ki;
          form-is = fo;
          reached = d.reached;
          kept = and_left (keeps g.symbol r.left) (ends g.symbol r.left) a2;
          ended = and_right (keeps g.symbol r.left) (ends g.symbol r.left) a2;
          shuts = and_right (keeps g.symbol r.left && ends g.symbol r.left && some (λ c. within c r.left) zones) (covers (shut g.symbol) (ended_by r)) a4;
          statement = and_right (keeps g.symbol r.left && ends g.symbol r.left && some (λ c. within c r.left) zones && covers (shut g.symbol) (ended_by r)) (not (ends_open ps || dangles r.right) || open_ended g.symbol) a5;
          no-else-behind = λ d'. no-else g (spell k a) (n - singles r.right) r.right (children spell ts) d' d.followed;
          skips = and_right (keeps g.symbol r.left && ends g.symbol r.left && some (λ c. within c r.left) zones && covers (shut g.symbol) (ended_by r) && (not (ends_open ps || dangles r.right) || open_ended g.symbol)) (skip_ok g.symbol ps) a6;
          on = and_right (keeps g.symbol r.left && ends g.symbol r.left && some (λ c. within c r.left) zones && covers (shut g.symbol) (ended_by r) && (not (ends_open ps || dangles r.right) || open_ended g.symbol) && skip_ok g.symbol ps) (tail_ok (goes_on g.symbol) ps) at;
          slots-ok = and_left (slots (λ x. symbol_ok x.symbol) ps) (tail_ok (λ x o. fits_before x o) ps) b2;
          before = and_right (slots (λ x. symbol_ok x.symbol) ps) (tail_ok (λ x o. fits_before x o) ps) b2;
          balanced = and_right (slots (λ x. symbol_ok x.symbol) ps && tail_ok (λ x o. fits_before x o) ps) (bal 0 ps) b3;
          number = subst (λ (j : ℕ). T (owns ps || not (uses_text j || is_kind Kinds.Number j))) ki (and_right (slots (λ x. symbol_ok x.symbol) ps && tail_ok (λ x o. fits_before x o) ps && bal 0 ps) (owns ps || not (uses_text r.kind || is_kind Kinds.Number r.kind)) row);
          times = n - singles r.right;
          followed = front-follows g (spell k a) (n - singles r.right) r (children spell ts) d.followed;
          tokens-are = fill-of k f n r (spell k a) (tokens_all spell ts) d.inside d.is-for ∙ front-fill (spell k a) (n - singles r.right) r (tokens_all spell ts);
          numbered = d.numbered;
        };
      }

  -- of two nodes in one zone the rows are told apart
  pub two-of : (c k f a : ℕ) (ts : Forest) (g : Place) (ps : List Part) (l h b : ℕ) (us : Forest) (g' : Place) (qs : List Part) (i : Info k f a ts g ps) (j : Info l h b us g' qs) → Within c zones → T (within c g.symbol) → T (within c g'.symbol)
      → T (two c (eqb k l && eqb f h) (with_else i.rule) (with_else j.rule) i.rule.left ps j.rule.left qs)
  two-of c k f a ts g ps l h b us g' qs i j v x y =
      let q = asked (used i.rule) (every (two_ok i.rule) rules) (every-at (λ r. elim (used r) [ true ↦ every (two_ok r) rules | false ↦ true ]) i.rule rules twos_ok i.inside) i.is-used in
      let z = every-at (two_at i.rule j.rule) c zones (asked (used j.rule) _ (every-at (two_ok i.rule) j.rule rules q j.inside) j.is-used) v in
      let s = asked (within c j.rule.left) _ (asked (within c i.rule.left) _ z (keeps-at c g.symbol i.rule.left v i.kept x)) (keeps-at c g'.symbol j.rule.left v j.kept y) in
      subst (λ (z : List Part). T (two c (eqb k l && eqb f h) (with_else i.rule) (with_else j.rule) i.rule.left z j.rule.left qs)) i.right-is
      (subst (λ (z : List Part). T (two c (eqb k l && eqb f h) (with_else i.rule) (with_else j.rule) i.rule.left (front i.rule) j.rule.left z)) j.right-is
      (subst (λ (n : ℕ). T (two c (eqb n l && eqb f h) (with_else i.rule) (with_else j.rule) i.rule.left (front i.rule) j.rule.left (front j.rule))) i.kind-is
      (subst (λ (n : ℕ). T (two c (eqb i.rule.kind n && eqb f h) (with_else i.rule) (with_else j.rule) i.rule.left (front i.rule) j.rule.left (front j.rule))) j.kind-is
      (subst (λ (n : ℕ). T (two c (eqb i.rule.kind j.rule.kind && eqb n h) (with_else i.rule) (with_else j.rule) i.rule.left (front i.rule) j.rule.left (front j.rule))) i.form-is
      (subst (λ (n : ℕ). T (two c (eqb i.rule.kind j.rule.kind && eqb i.rule.form n) (with_else i.rule) (with_else j.rule) i.rule.left (front i.rule) j.rule.left (front j.rule))) j.form-is s)))))

  -- the end of what stands first in a row may be followed by the token behind it
  pub record Before (o : Word) (r : Rule) (ps : List Part) : Type 0 where
    pub free : T (not (among o (ended_by r)))
    pub whole! : T (not (dangles r.right))
    pub closed! : T (not (ends_open ps))

  pub before-of : (k f a : ℕ) (ts : Forest) (x : Slot) (o : Word) (g : Place) (ps : List Part) → g.symbol ≡ x.symbol → T (fits_before x o) → (i : Info k f a ts g ps) → Before o i.rule ps
  before-of k f a ts x o g ps e h i =
      let q = i.rule in
      let r = asked (reaches x.symbol q.left) (not (among o (ended_by q)) && not (dangles q.right) && not (ends_open (front q))) (asked (used q) _ (every-at (λ r. elim (used r) [ true ↦ elim (reaches x.symbol r.left) [ true ↦ not (among o (ended_by r)) && not (dangles r.right) && not (ends_open (front r)) | false ↦ true ] | false ↦ true ]) q rules h i.inside) i.is-used)
      (subst (λ (y : Symbol). T (reaches y q.left)) e i.reached) in
      let b = and_left (not (among o (ended_by q)) && not (dangles q.right)) (not (ends_open (front q))) r in
      record {
        free = and_left (not (among o (ended_by q))) (not (dangles q.right)) b;
        whole! = and_right (not (among o (ended_by q))) (not (dangles q.right)) b;
        closed! = subst (λ (qs : List Part). T (not (ends_open qs))) i.right-is (and_right (not (among o (ended_by q)) && not (dangles q.right)) (not (ends_open (front q))) r);
      }
