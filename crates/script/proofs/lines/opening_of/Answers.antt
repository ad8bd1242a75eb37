use Rattle.std.proofs.Common.{sym, ap, codes, arith, rules}
use Rattle.std.proofs.lemmas.Slice.Eq.{text_from_reads}
use Rattle.script.specs.Reading.{opening}
use Rattle.script.proofs.lines.opening_of.Goals as goal

-- a word of more than five letters
pub returns-in-deliver : goal.returns-in-deliver
returns-in-deliver c = sym (ap opening (text_from_reads c.args.word.now (codes "deliver") (omega arith) (search rules)))
