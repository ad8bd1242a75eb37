use Rattle.order.proofs.Main.{always_confirmed_is_done}
use Rattle.order.proofs.promises.confirmed_is_done.Goals as goal

pub returns : goal.returns
returns g c = always_confirmed_is_done g.B.Book.model g.met.B.Book.lawful (g.B.Book.pages c.args._book.now) (g.met.B.Book.owned c.args._book.now)
