-- What an entry bears.
use Rattle.std.specs.Prelude.{ℕ}
use Rattle.congress.specs.declared.tables.Entry.{Entry}

abbrev pub entry_transaction : Entry → ℕ
entry_transaction e = e.transaction
