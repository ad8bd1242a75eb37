-- What every congress keeps, besides its bounds of 8 halls, 64 entries and 1,024 messages.
use Rattle.std.specs.Prelude.{Bool, true, false, not, ◌&&◌, ◌||◌, List, [], ◌∷◌, ◌==◌, bit_and, bit_or, nat_le, slice_index_or}
use Rattle.std.specs.List.{list_all}
use Rattle.congress.specs.State.{no_hall}
use Rattle.congress.specs.declared.tables.Entry.{Entry}
use Rattle.congress.specs.declared.tables.Hall.{Hall}
use Rattle.congress.specs.declared.tables.Mode.TheVariants.{Timestamp, Locking}
use Rattle.congress.specs.declared.tables.Mode.{Mode}
use Rattle.records.specs.Halls.{names}
use Rattle.records.specs.Transactions.{console, sequence}
use Rattle.records.specs.declared.classes.Class.TheVariants.{Single, Independent, Coordinated}
use Rattle.records.specs.declared.classes.Class.{Class}

-- votes lie among the halls, and the entry's own hall has voted
abbrev pub voted : Entry → Bool
voted e = bit_or e.votes e.halls == e.halls && names e.votes e.hall

abbrev pub locks : Mode → Bool
locks Timestamp = false
locks Locking = true

abbrev pub coordinated : Class → Bool
coordinated Single = false
coordinated Independent = false
coordinated Coordinated = true

-- at its hall: a coordinated entry waits only in locking mode, and the entry's sequence has been taken
abbrev pub suits : Hall → Entry → Bool
suits hall e = (not (coordinated e.class) || locks hall.mode) && nat_le (sequence e.transaction) (slice_index_or hall.taken (console e.transaction) 0)

-- at one hall, two entries differ in transaction and hold no key together
abbrev pub apart : Entry → Entry → Bool
apart x y = not (x.hall == y.hall) || (not (x.transaction == y.transaction) && bit_and x.keys y.keys == 0)

-- of the halls of a congress, and of the entries that wait
abbrev pub kept : List Hall → List Entry → Bool
kept halls [] = true
kept halls (e ∷ es) = voted e && (suits (slice_index_or halls e.hall no_hall) e && (list_all (apart e) es && kept halls es))
