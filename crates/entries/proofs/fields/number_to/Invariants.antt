use Rattle.std.proofs.Common.{◌≡◌, ◌≤◌, drop}
use Rattle.entries.specs.Fields.{digits_from}
use Rattle.entries.proofs.fields.number_to.Given as goal

abbrev pub invariant-loop-byte : goal.invariant-loop-byte
invariant-loop-byte l = (digits_from l.value (drop l.byte-index l.word) ≡ digits_from 0 l.word) × (l.value ≤ l.limit)
