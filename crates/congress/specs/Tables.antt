-- The records of the tables, with some fields changed and the rest as it was. A hall, console or entry as it is at first stands where it is made.
use Rattle.std.specs.Prelude.{ℕ, ◌+◌, Bool, true, List}
use Rattle.congress.specs.declared.tables.Console.{Console}
use Rattle.congress.specs.declared.tables.Entry.{Entry}
use Rattle.congress.specs.declared.tables.Hall.{Hall}
use Rattle.congress.specs.declared.tables.Mode.{Mode}

abbrev pub with_clock : Hall → ℕ → Hall
with_clock hall time = record { clock = time; last = hall.last; mode = hall.mode; taken = hall.taken }

abbrev pub with_last : Hall → ℕ → Hall
with_last hall stamp = record { clock = hall.clock; last = stamp; mode = hall.mode; taken = hall.taken }

abbrev pub with_mode : Hall → Mode → Hall
with_mode hall mode = record { clock = hall.clock; last = hall.last; mode = mode; taken = hall.taken }

abbrev pub with_taken : Hall → List ℕ → Hall
with_taken hall taken = record { clock = hall.clock; last = hall.last; mode = hall.mode; taken = taken }

-- a console whose next transaction is open, at these halls
abbrev pub opened_for : Console → ℕ → Console
opened_for c halls = record { busy = true; sequence = c.sequence + 1; halls = halls; replied = 0; high = c.high }

-- a console that has taken a reply
abbrev pub with_reply : Console → Bool → ℕ → ℕ → Console
with_reply c busy replied high = record { busy = busy; sequence = c.sequence; halls = c.halls; replied = replied; high = high }

abbrev pub with_votes : Entry → ℕ → ℕ → Entry
with_votes e votes stamp =
    record { hall = e.hall; transaction = e.transaction; class = e.class; halls = e.halls; votes = votes; stamp = stamp; keys = e.keys; operation = e.operation }
