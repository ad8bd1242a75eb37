use Rattle.std.proofs.Common.{sym, ap, codes, arith, rules}
use Rattle.std.proofs.lemmas.Slice.Eq.{text_from_reads}
use Rattle.entries.specs.Fields.{game}
use Rattle.entries.proofs.fields.game_of.Goals as goal

-- a word of more than five letters
pub returns-in-bridge : goal.returns-in-bridge
returns-in-bridge c = sym (ap game (text_from_reads c.args.word.now (codes "bridge") (omega arith) (search rules)))
