-- Assumes nothing.
use Rattle.std.proofs.Common.{length, ap, arith}
use Rattle.text_words.proofs.Escaped.{quoted-length, escaped-length}
use Rattle.text_tokens.specs.Tokens.{node_of}
use Rattle.text_tokens.proofs.Found.{text-at-short}
use Rattle.text_tokens.proofs.own.own_len.Goals as goal

pub quoted_len-requires : goal.quoted_len-requires
quoted_len-requires c =
    let s = c.args.nodes in
    omega (arith, ap length c.text.ensures, text-at-short s.readable (node_of s.file.now s.header c.args.k).text, s.short)

pub returns-in-Str-clause-few : goal.returns-in-Str-clause-few
returns-in-Str-clause-few c =
    let s = c.args.nodes in
    let t = c.text.result.now in
    omega (arith, c.quoted_len.ensures, quoted-length t, escaped-length t, ap length c.text.ensures, text-at-short s.readable (node_of s.file.now s.header c.args.k).text, s.short)

pub returns-in_default-clause-few : goal.returns-in_default-clause-few
returns-in_default-clause-few c =
    let s = c.args.nodes in
    omega (arith, ap length c.text-in_default.ensures, text-at-short s.readable (node_of s.file.now s.header c.args.k).text, s.short)
