use Rattle.order.proofs.Main.{always_keeps_well}
use Rattle.order.proofs.promises.congress_is_kept.Goals as goal

pub returns : goal.returns
returns g c = always_keeps_well g.B.Book.model g.met.B.Book.lawful (g.B.Book.pages c.args._book.now) (g.met.B.Book.owned c.args._book.now)
