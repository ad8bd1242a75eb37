use Rattle.std.proofs.Common.{◌≡◌, ◌<◌, length, ap, ◌∙◌, rules}
use Rattle.book.proofs.Turned.{turned_at}
use Rattle.book.specs.Model.{turned}
use Rattle.book.specs.Halls.{page_at}
use Rattle.book.proofs.halls.HallsBook.run.Goals as goal

pub returns-in-Some-clause-pages : goal.returns-in-Some-clause-pages
returns-in-Some-clause-pages g c =
    let halls = c.args.self.now.halls in
    let place = c.get.result in
    let low : place < 8 = search rules in
    let inside : place < length halls = search rules in
    let same : place ≡ c.args.hall = search rules in
    let h = g.H.Hall in
    turned_at h.page h.first h.model halls place c.index-self-get.result c.run.new.self c.args.op low inside c.run.ensures.page
    ∙ ap (λ i. turned h.model (page_at h.page h.first halls) i c.args.op) same
