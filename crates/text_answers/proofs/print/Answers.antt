-- The laws of one call. Assumes nothing.
use Rattle.text_answers.proofs.Calls.{written-reads, written-needed, each-answer}
use Rattle.text_answers.proofs.print.Goals as goal

pub returns-clause-text : goal.returns-clause-text
returns-clause-text c z = written-reads c.args.file.now c.args.buffer.now c.negbosun_text.new.buffer c.args.words.now c.negbosun_text.new.words c.negbosun_text.result c.negbosun_text.ensures z

pub returns-clause-pairs : goal.returns-clause-pairs
returns-clause-pairs c z = written-needed c.args.file.now c.args.buffer.now c.negbosun_text.new.buffer c.args.words.now c.negbosun_text.new.words c.negbosun_text.result c.negbosun_text.ensures z

pub returns-clause-reason : goal.returns-clause-reason
returns-clause-reason c = each-answer c.args.file.now c.args.buffer.now c.negbosun_text.new.buffer c.args.words.now c.negbosun_text.new.words c.negbosun_text.result c.negbosun_text.ensures
