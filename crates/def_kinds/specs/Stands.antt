-- Request 5: which kind may stand anywhere under which, by the kind list and by no table. Assumes nothing: these are definitions.
use Rattle.std.specs.Prelude.{Bool, ◌&&◌, ℕ}
use Rattle.std.specs.List.{list_any, range_with_len}
use Rattle.def_file.specs.declared.kinds.Row.{Row}
use Rattle.def_file.specs.Kinds.{allows, row_of, form_ok, count_ok, child_of}

-- one of the places of n children takes a node of kind c, which has one child: only the head of a for-in or for-of asks how many it has, and of a
-- declaration it asks for one
abbrev pub at_some_place : Row → ℕ → ℕ → Bool
at_some_place r c n = list_any (λ i. allows (child_of r n i) c 1) (range_with_len 0 n)

-- of 1 to 4 children: among 4 are a first, a last and those between, as among any number above
abbrev pub with_some_count : Row → ℕ → Bool
with_some_count r c = list_any (λ n. count_ok r n && at_some_place r c n) (range_with_len 1 4)

-- "1 if that child may stand anywhere under that parent": of some form, with some number of children, at some place. No kind has a form above 24
unfoldable pub stands : ℕ → ℕ → Bool
unfolding row_of
stands p c = list_any (λ f. form_ok (row_of p f) f && with_some_count (row_of p f) c) (range_with_len 0 25)
