-- A book of eight parts fits in memory.
use Rattle.std.specs.Mem.{FitsInMemory}
use denote.RattleType.{RattleType}
use Rattle.book.specs.contracts.halls.Halls.{the_row}

abbrev pub HallsFitInMemory : RattleType → Type 0
HallsFitInMemory H = FitsInMemory (the_row H)
