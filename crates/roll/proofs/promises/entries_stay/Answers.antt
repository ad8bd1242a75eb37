use Rattle.roll.proofs.Entries.{entries_stay_lem}
use Rattle.roll.proofs.promises.entries_stay.Goals as goal

pub returns : goal.returns
returns g c = entries_stay_lem g.B.Book.model g.met.B.Book.lawful
