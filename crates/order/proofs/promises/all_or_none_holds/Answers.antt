use Rattle.order.proofs.Main.{always_all_or_none}
use Rattle.order.proofs.promises.all_or_none_holds.Goals as goal

pub returns : goal.returns
returns g c = always_all_or_none g.B.Book.model g.met.B.Book.lawful (g.B.Book.pages c.args._book.now) (g.met.B.Book.owned c.args._book.now)
