-- What walks are made of, twice: on trees, and on the list of nodes with an index. S is the rest of the state, which both sides share
-- as it is: recorded values are trees in it on both sides. Assumes nothing: these are definitions.
use Rattle.std.specs.Prelude.{Bool, true, false, List, ◌++◌, ℕ, zero, suc, ◌+◌, ◌-◌, get_or, take, drop, set}
use Rattle.def_tree.specs.Tree.{Tree, Forest, node, nil, cons, count, counts, Core, core, no_core, flat, plant, take_f, first_t}

-- a refusal's number, or a state and an answer. A refusal has no state: the port's contract then says only that the words are good
pub data Res (S A : Type 0) : Type 0 where
  stop : ℕ → Res S A
  done : S → A → Res S A

abbrev pub M : Type 0 → Type 0 → Type 0
M S A = S → Res S A

abbrev pub Nothing : Type 0
Nothing = Unit {0}

infixr 20 ◌>>◌
infixr 20 ◌>>=◌
module _ {S A B : Type 0} where
  abbrev pub and_then : Res S A → (A → M S B) → Res S B
  and_then (stop n) f = stop n
  and_then (done s a) f = f a s

  abbrev pub ◌>>=◌ : M S A → (A → M S B) → M S B
  ◌>>=◌ m f = λ s. and_then (m s) f

  abbrev pub ◌>>◌ : M S A → M S B → M S B
  ◌>>◌ m k = λ s. and_then (m s) (λ a. k)

module _ {S A : Type 0} where
  abbrev pub ret : A → M S A
  ret a = λ s. done s a

  abbrev pub refuse : ℕ → M S A
  refuse n = λ s. stop n

  abbrev pub iff : Bool → M S A → M S A → M S A
  iff true m k = m
  iff false m k = k

-- on trees
module _ {S : Type 0} where
  -- between `enter`, which may refuse, and `leave`, which sees the state before `enter` and the state now
  abbrev pub within : {A : Type 0} → M S Nothing → (S → S → S) → M S A → M S A
  within enter leave m = λ s. and_then (enter s) (λ u s₁. and_then (m s₁) (λ a s₂. done (leave s s₂) a))

  abbrev pub each : (Tree → M S Tree) → Forest → M S Forest
  each f nil = ret nil
  each f (cons t ts) = do
    t' ← f t
    ts' ← each f ts
    ret (cons t' ts')

  abbrev pub split : (Tree → M S Tree) → (Forest → M S Forest) → Forest → M S Forest
  split f g nil = ret nil
  split f g (cons t ts) = do
    t' ← f t
    ts' ← g ts
    ret (cons t' ts')

  abbrev pub each_but : (Tree → M S Tree) → (Tree → M S Tree) → Forest → M S Forest
  each_but f g nil = ret nil
  each_but f g (cons t nil) = do
    t' ← g t
    ret (cons t' nil)
  each_but f g (cons t (cons u us)) = do
    t' ← f t
    ts' ← each_but f g (cons u us)
    ret (cons t' ts')

  abbrev pub on_kids : (Forest → M S Forest) → Tree → M S Tree
  on_kids g (node k f a ts) = do
    ts' ← g ts
    ret (node k f a ts')

-- on the list: the nodes, and the rest
pub record Flat (S : Type 0) : Type 0 where
  pub nodes : List Core
  pub rest : S

abbrev pub node_at : {S : Type 0} → Flat S → ℕ → Core
node_at st i = get_or st.nodes i no_core

abbrev pub re_arity : ℕ → Core → Core
re_arity n c = core c.kind c.form n c.num

-- the tree whose nodes begin at i, and the first n trees
unfoldable pub tree_at : {S : Type 0} → Flat S → ℕ → Tree
tree_at st i = first_t (plant (drop i st.nodes))

unfoldable pub forest_at : {S : Type 0} → Flat S → ℕ → ℕ → Forest
forest_at st n i = take_f n (plant (drop i st.nodes))

-- what a walk of the tree at i answers: where the next one begins
abbrev pub Walk : Type 0 → Type 0
Walk S = ℕ → M (Flat S) ℕ

-- of n trees from i on
abbrev pub Walks : Type 0 → Type 0
Walks S = ℕ → ℕ → M (Flat S) ℕ

-- of n trees from i on, whose number may change: the new number, and where the next one begins
abbrev pub ReWalks : Type 0 → Type 0
ReWalks S = ℕ → ℕ → M (Flat S) (ℕ × ℕ)

-- a result in other terms: the state by h, the answer by e
abbrev pub carry : {S F A B : Type 0} → (S → A → F) → (A → B) → Res S A → Res F B
carry h e (stop n) = stop n
carry h e (done s a) = done (h s a) (e a)

module _ {S : Type 0} where
  -- something that leaves the nodes alone
  abbrev pub on_rest : {A : Type 0} → M S A → M (Flat S) A
  on_rest m = λ st. carry (λ s a. record { nodes = st.nodes; rest = s }) (λ a. a) (m st.rest)

  -- the same, after a look at the node at i, at the tree there, or at n trees from there on
  abbrev pub act_n : {A : Type 0} → (Core → M S A) → ℕ → M (Flat S) A
  act_n m i = λ st. on_rest (m (node_at st i)) st

  abbrev pub act : {A : Type 0} → (Tree → M S A) → ℕ → M (Flat S) A
  act m i = λ st. on_rest (m (tree_at st i)) st

  abbrev pub act_f : {A : Type 0} → (Forest → M S A) → ℕ → ℕ → M (Flat S) A
  act_f m n i = λ st. on_rest (m (forest_at st n i)) st

  abbrev pub within_f : {A : Type 0} → M S Nothing → (S → S → S) → M (Flat S) A → M (Flat S) A
  within_f enter leave m = λ st. and_then (on_rest enter st) (λ u st₁. and_then (m st₁) (λ a st₂. done (record { nodes = st₂.nodes; rest = leave st.rest st₂.rest }) a))

  -- past the tree at i
  abbrev pub skip : Walk S
  skip i = λ st. done st (i + count (tree_at st i))

  abbrev pub skips : Walks S
  skips n i = λ st. done st (i + counts (forest_at st n i))

  -- e in the place of the tree at i
  abbrev pub put : Tree → Walk S
  put e i = λ st. done (record { nodes = take i st.nodes ++ flat e (drop (i + count (tree_at st i)) st.nodes); rest = st.rest }) (i + count e)

  -- the number of children of the node at i
  abbrev pub set_arity : ℕ → ℕ → Flat S → Flat S
  set_arity i n st = record { nodes = set st.nodes i (re_arity n (node_at st i)); rest = st.rest }

  -- as a loop does it: k trees, and then one more
  unfoldable pub many : Walk S → Walks S
  many f zero i = ret i
  many f (suc n) i = λ st. and_then (many f n i st) f

  abbrev pub split_f : Walk S → Walks S → Walks S
  split_f f g zero i = ret i
  split_f f g (suc n) i = f i >>= g n

  abbrev pub each_but_f : Walk S → Walk S → Walks S
  each_but_f f g zero i = ret i
  each_but_f f g (suc n) i = many f n i >>= g

  abbrev pub on_kids_f : Walks S → Walk S
  on_kids_f g i = λ st. g (node_at st i).arity (i + 1) st

  -- children whose number changes: g answers their new number and the place behind them
  abbrev pub re_kids_f : ReWalks S → Walk S
  re_kids_f g i = λ st. and_then (g (node_at st i).arity (i + 1) st) (λ r st₁. done (set_arity i r.0 st₁) r.1)

  -- the number stays
  abbrev pub same : Walks S → ReWalks S
  same g n i = g n i >>= λ j. ret (n, j)

  abbrev pub split_r : Walk S → ReWalks S → ReWalks S
  split_r f g zero i = ret (0, i)
  split_r f g (suc n) i = f i >>= λ j. g n j >>= λ r. ret (suc r.0, r.1)

  -- the first tree is taken out, of n that end at j; and all
  abbrev pub cut_first : ℕ → ℕ → ℕ → M (Flat S) (ℕ × ℕ)
  cut_first zero i j = ret (0, j)
  cut_first (suc n) i j = λ st. done (record { nodes = take i st.nodes ++ drop (i + count (tree_at st i)) st.nodes; rest = st.rest }) (n, j - count (tree_at st i))

  abbrev pub cut : ℕ → ℕ → M (Flat S) (ℕ × ℕ)
  cut i j = λ st. done (record { nodes = take i st.nodes ++ drop j st.nodes; rest = st.rest }) (0, i)
