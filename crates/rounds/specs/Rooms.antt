-- What an operation asks fits in memory.
use Rattle.std.specs.Mem.{FitsInMemory}
use denote.RattleType.{RattleType}
use Rattle.rounds.specs.contracts.asks.Ask.{the_row}

abbrev pub AskFitsInMemory : RattleType → RattleType → RattleType → Type 0
AskFitsInMemory A cells totals = FitsInMemory (the_row A cells totals)
