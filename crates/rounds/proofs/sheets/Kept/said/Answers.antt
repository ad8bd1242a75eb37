use Rattle.std.proofs.Common.{rules}
use Rattle.rounds.proofs.sheets.Kept.said.Goals as goal

pub asked-requires : goal.asked-requires
asked-requires g c = let room = g.met.C.Cell.roomy in search rules

pub say-requires : goal.say-requires
say-requires g c = let room = g.met.C.Cell.roomy in search rules
