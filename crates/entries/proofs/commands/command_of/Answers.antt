use Rattle.std.proofs.Common.{sym, ap, codes, arith, rules}
use Rattle.std.proofs.lemmas.Slice.Eq.{text_from_reads}
use Rattle.entries.specs.Reading.{entry}
use Rattle.entries.proofs.commands.command_of.Goals as goal

-- words of more than five letters
pub returns-in-remove : goal.returns-in-remove
returns-in-remove c = sym (ap entry (text_from_reads c.args.word.now (codes "remove") (omega arith) (search rules)))

pub returns-in-result : goal.returns-in-result
returns-in-result c = sym (ap entry (text_from_reads c.args.word.now (codes "result") (omega arith) (search rules)))

pub returns-in-deputy : goal.returns-in-deputy
returns-in-deputy c = sym (ap entry (text_from_reads c.args.word.now (codes "deputy") (omega arith) (search rules)))

pub returns-in-appoint : goal.returns-in-appoint
returns-in-appoint c = sym (ap entry (text_from_reads c.args.word.now (codes "appoint") (omega arith) (search rules)))
