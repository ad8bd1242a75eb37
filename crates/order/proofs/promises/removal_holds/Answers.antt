use Rattle.order.proofs.Main.{always_removal_holds}
use Rattle.order.proofs.promises.removal_holds.Goals as goal

pub returns : goal.returns
returns g c roll =
    always_removal_holds g.B.Book.model g.met.B.Book.lawful roll (g.B.Book.pages c.args._book.now) (g.met.B.Book.owned c.args._book.now)
