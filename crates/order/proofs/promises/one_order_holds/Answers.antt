use Rattle.order.proofs.Main.{always_one_order}
use Rattle.order.proofs.promises.one_order_holds.Goals as goal

pub returns : goal.returns
returns g c = always_one_order g.B.Book.model g.met.B.Book.lawful (g.B.Book.pages c.args._book.now) (g.met.B.Book.owned c.args._book.now)
