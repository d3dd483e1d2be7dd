-- Too few words, or the whole. Assumes nothing.
use Rattle.file_resolve.proofs.Ends.{few-words, ended}
use Rattle.file_resolve.proofs.resolve.Goals as goal

pub returns-then-words-lt16384 : goal.returns-then-words-lt16384
returns-then-words-lt16384 c = few-words c.args.file.now c.args.buffer.now c.args.words.now c.if-words-lt16384.true

pub returns : goal.returns
returns c = ended c.args.file.now c.args.buffer.now c.args.words.now c.if-words-lt16384.false c.resolve_file-answer.ensures c.clear.ensures
