-- What the resolver answers, and what it leaves in both buffers: what `resolve_entry` says. Assumes nothing: these are definitions.
use Rattle.std.specs.Prelude.{◌≡◌, List, ◌++◌, ℕ, leb, length, drop, Result}
use Rattle.refusal.specs.declared.Refusal.{Refusal}
use Rattle.file_write.specs.Written.{Answer, refused as not_written, wrote as written, says}
use Rattle.file_read.specs.Load.{Kept}
use Rattle.file_copy.specs.declared.Copied.{Copied}
use Rattle.file_copy.specs.Copy.{numbers, WordsAre}
use Rattle.def_resolve.specs.Entry.{Resolving, refused, wrote, resolve_entry}

-- the refusal's number, or the length of what was written
abbrev pub told : Resolving → Answer
told (refused n) = not_written n
told (wrote out) = written (length out)

-- the buffer r: a refusal keeps it, and the bytes behind what was written stay
abbrev pub left : List ℕ → Resolving → List ℕ
left r (refused n) = r
left r (wrote out) = out ++ drop (length out) r

pub record Wrote (r r' : List ℕ) (x : Resolving) (a : Result ℕ Refusal) : Type 0 where
  pub is : says a ≡ told x
  pub leaves : r' ≡ left r x

-- and of the words no more than the first 16,384 are changed
pub record Resolves (r r' w w' : List ℕ) (x : Resolving) (a : Result ℕ Refusal) : Type 0 where
  pub wrote : Wrote r r' x a
  pub kept : Kept w w'

-- the words: where they are too few they are kept; after all else the first 16,384 are 0 and those past them kept
pub record ResolveIs (bs r r' w w' : List ℕ) (c : Copied) : Type 0 where
  pub answer : c ≡ numbers (told (resolve_entry (length w) bs (length r)))
  pub result : r' ≡ left r (resolve_entry (length w) bs (length r))
  pub words : WordsAre w w' (leb 16384 (length w))
