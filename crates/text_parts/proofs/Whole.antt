-- What is put by a right side with its list written out, part by part. Assumes nothing.
use Rattle.std.proofs.Common.{◌≡◌, ℕ, Bool, true, false, ◌&&◌, leb, List, [], ◌∷◌, Option, Some, None, refl, ap, append_assoc, append-nil}
use Rattle.def_tree.specs.Tree.{Tree, Forest, cons}
use Rattle.def_text.specs.Words.{Word}
use Rattle.def_text.specs.Grammar.{Parameter, Slot, Sort, Part, word, own, kid, run, commas, more, look, if_has, if_not, one_default}
use Rattle.def_text.specs.Derives.{sort_ok, fill}
use Rattle.def_text.specs.Print.{follow}
use Rattle.text_table.specs.Put.{Spot, below, spots, default_count, parts_ok, both, put, put_all}
use Rattle.text_parts.specs.Parts.{in_front, joined}

-- ---- tokens that may be missing

pub front-joined : (w : List Word) (a b : Option (List Word)) → joined (in_front w a) b ≡ in_front w (joined a b)
front-joined w None b = refl
front-joined w (Some ws) None = refl
front-joined w (Some ws) (Some vs) = ap {B = Option (List Word)} Some (append_assoc w ws vs)

pub joined-twice : (a b c : Option (List Word)) → joined (joined a b) c ≡ joined a (joined b c)
joined-twice None b c = refl
joined-twice (Some ws) b c = front-joined ws b c

pub front-nothing : (a : Option (List Word)) → in_front [] a ≡ a
front-nothing None = refl
front-nothing (Some ws) = refl

pub joined-nothing : (a : Option (List Word)) → joined a (Some []) ≡ a
joined-nothing None = refl
joined-nothing (Some ws) = ap {B = Option (List Word)} Some (append-nil ws)

pub joined-none : (a : Option (List Word)) → joined a None ≡ None
joined-none None = refl
joined-none (Some ws) = refl

-- ---- a right side

abbrev pub filled : Word → List Part → Option (List (List Word)) → Option (List Word)
filled o ps None = None
filled o ps (Some ls) = Some (fill o ps ls)

-- the tokens, if the right side is followed
abbrev pub if_ok : Bool → Option (List Word) → Option (List Word)
if_ok true ws = ws
if_ok false ws = None

if-front : (b : Bool) (o w : Word) (ps qs : List Part) (x : Option (List (List Word))) → ((ls : List (List Word)) → fill o qs ls ≡ w ∷ fill o ps ls) → if_ok b (filled o qs x) ≡ in_front (w ∷ []) (if_ok b (filled o ps x))
if-front false o w ps qs x f = refl
if-front true o w ps qs None f = refl
if-front true o w ps qs (Some ls) f = ap {B = Option (List Word)} Some (f ls)

module _ (spell : ℕ → ℕ → Word) (o : Word) where
  abbrev pub whole : Option ℕ → Spot → List (List Word) → List Word → List Part → Forest → Option (List Word)
  whole c s bs n ps ts = if_ok (parts_ok o ts ps) (filled o ps (put_all spell ts (spots c s bs n ps)))

  -- one part and what the others put
  pub whole-word : (c : Option ℕ) (s : Spot) (bs : List (List Word)) (n : List Word) (w : Word) (ps : List Part) (ts : Forest) → whole c s bs n (word w ∷ ps) ts ≡ in_front (w ∷ []) (whole c s [] n ps ts)
  whole-word c s bs n w ps ts = if-front (parts_ok o ts ps) o w ps (word w ∷ ps) (put_all spell ts (spots c s [] n ps)) (λ ls. refl)

  pub whole-own : (c : Option ℕ) (s : Spot) (bs : List (List Word)) (n : List Word) (q : Sort) (ps : List Part) (ts : Forest)
      → whole c s bs n (own q ∷ ps) ts ≡ elim (sort_ok q o) as (λ z. Option (List Word)) [ true ↦ in_front (o ∷ []) (whole c s [] n ps ts) | false ↦ None ]
  whole-own c s bs n q ps ts = go (sort_ok q o)
    where
      go : (b : Bool) → if_ok (b && parts_ok o ts ps) (filled o (own q ∷ ps) (put_all spell ts (spots c s [] n ps))) ≡ elim b as (λ z. Option (List Word)) [ true ↦ in_front (o ∷ []) (whole c s [] n ps ts) | false ↦ None ]
      go true = if-front (parts_ok o ts ps) o o ps (own q ∷ ps) (put_all spell ts (spots c s [] n ps)) (λ ls. refl)
      go false = refl

  pub whole-default : (c : Option ℕ) (s : Spot) (bs : List (List Word)) (n : List Word) (ps : List Part) (ts : Forest)
      → whole c s bs n (one_default ∷ ps) ts ≡ elim (leb (default_count ts) 1) as (λ z. Option (List Word)) [ true ↦ whole c s bs n ps ts | false ↦ None ]
  whole-default c s bs n ps ts = go (leb (default_count ts) 1)
    where
      same : (x : Option (List (List Word))) → filled o (one_default ∷ ps) x ≡ filled o ps x
      same None = refl
      same (Some ls) = refl

      go : (b : Bool) → if_ok (b && parts_ok o ts ps) (filled o (one_default ∷ ps) (put_all spell ts (spots c s bs n ps))) ≡ elim b as (λ z. Option (List Word)) [ true ↦ whole c s bs n ps ts | false ↦ None ]
      go true = ap (if_ok (parts_ok o ts ps)) (same (put_all spell ts (spots c s bs n ps)))
      go false = refl

  pub whole-kid : (c : Option ℕ) (s : Spot) (bs : List (List Word)) (n : List Word) (x : Slot) (ps : List Part) (t : Tree) (ts : Forest)
      → whole c s bs n (kid x ∷ ps) (cons t ts) ≡ joined (put spell t (below c s bs (follow ps n) x)) (whole None s [] s.next ps ts)
  whole-kid c s bs n x ps t ts = go (parts_ok o ts ps) (put spell t (below c s bs (follow ps n) x)) (put_all spell ts (spots None s [] s.next ps))
    where
      go : (b : Bool) (y : Option (List Word)) (z : Option (List (List Word))) → if_ok b (filled o (kid x ∷ ps) (both y z)) ≡ joined y (if_ok b (filled o ps z))
      go false None z = refl
      go false (Some l) z = refl
      go true None z = refl
      go true (Some l) None = refl
      go true (Some l) (Some ls) = refl

  -- parts that put nothing
  pub whole-look : (c : Option ℕ) (s : Spot) (bs : List (List Word)) (n : List Word) (cs : List (List Word)) (ps : List Part) (ts : Forest) → whole c s bs n (look cs ∷ ps) ts ≡ whole c s cs [] ps ts
  whole-look c s bs n cs ps ts = go (put_all spell ts (spots c s cs [] ps))
    where
      go : (x : Option (List (List Word))) → if_ok (parts_ok o ts ps) (filled o (look cs ∷ ps) x) ≡ if_ok (parts_ok o ts ps) (filled o ps x)
      go None = refl
      go (Some ls) = refl

  pub whole-has : (c : Option ℕ) (s : Spot) (bs : List (List Word)) (n : List Word) (q : Parameter) (ps : List Part) (ts : Forest) → whole c s bs n (if_has q ∷ ps) ts ≡ whole c s bs n ps ts
  whole-has c s bs n q ps ts = go (put_all spell ts (spots c s bs n ps))
    where
      go : (x : Option (List (List Word))) → if_ok (parts_ok o ts ps) (filled o (if_has q ∷ ps) x) ≡ if_ok (parts_ok o ts ps) (filled o ps x)
      go None = refl
      go (Some ls) = refl

  pub whole-has-not : (c : Option ℕ) (s : Spot) (bs : List (List Word)) (n : List Word) (q : Parameter) (ps : List Part) (ts : Forest) → whole c s bs n (if_not q ∷ ps) ts ≡ whole c s bs n ps ts
  whole-has-not c s bs n q ps ts = go (put_all spell ts (spots c s bs n ps))
    where
      go : (x : Option (List (List Word))) → if_ok (parts_ok o ts ps) (filled o (if_not q ∷ ps) x) ≡ if_ok (parts_ok o ts ps) (filled o ps x)
      go None = refl
      go (Some ls) = refl

  -- where nothing is barred it matters not what stands behind
  spots-behind : (c : Option ℕ) (s : Spot) (n m : List Word) (ps : List Part) → spots c s [] n ps ≡ spots c s [] m ps
  spots-behind c s n m [] = refl
  spots-behind c s n m (word w ∷ ps) = spots-behind c s n m ps
  spots-behind c s n m (own q ∷ ps) = spots-behind c s n m ps
  spots-behind c s n m (kid x ∷ ps) = refl
  spots-behind c s n m (run x ∷ ps) = refl
  spots-behind c s n m (commas x ∷ ps) = refl
  spots-behind c s n m (more x ∷ ps) = refl
  spots-behind c s n m (look cs ∷ ps) = refl
  spots-behind c s n m (if_has q ∷ ps) = spots-behind c s n m ps
  spots-behind c s n m (if_not q ∷ ps) = spots-behind c s n m ps
  spots-behind c s n m (one_default ∷ ps) = spots-behind c s n m ps

  pub whole-behind : (c : Option ℕ) (s : Spot) (n m : List Word) (ps : List Part) (ts : Forest) → whole c s [] n ps ts ≡ whole c s [] m ps ts
  whole-behind c s n m ps ts = ap (λ (ss : List Spot). if_ok (parts_ok o ts ps) (filled o ps (put_all spell ts ss))) (spots-behind c s n m ps)
