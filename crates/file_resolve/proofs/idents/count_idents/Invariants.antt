-- The identifiers of the first nodes are noted. Assumes nothing.
use Rattle.std.proofs.Common.{◌≡◌, ◌≤◌, [], take}
use Rattle.def_file.specs.Script.{has_id}
use Rattle.def_canon.specs.Canon.{first_uses}
use Rattle.def_resolve.specs.Resolve.{resolved}
use Rattle.words.specs.Layout.{ident_count}
use Rattle.file_read.specs.Load.{Kept}
use Rattle.file_resolve.specs.Check.{read_of}
use Rattle.file_resolve.specs.Idents.{key, keys_of}
use Rattle.file_resolve.proofs.idents.count_idents.Given as goal

abbrev pub invariant-loop-k : goal.invariant-loop-k
invariant-loop-k l = record {
  kept : Kept l.fn.words l.words;
  few : ident_count l.words ≤ 256;
  keys : keys_of l.words ≡ first_uses has_id key [] (take l.k (resolved (read_of l.file l.fn.header)).nodes);
}
