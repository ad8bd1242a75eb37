use Rattle.std.proofs.Common.{◌≡◌, ◌≤◌, ap, ◌∙◌, rules}
use Rattle.book.specs.Model.{told}
use Rattle.roll.specs.Pages.{told_roll}
use Rattle.roll.specs.Refusals.{answered}
use Rattle.roll.specs.Roll.{roll_model, page_of}
use Rattle.roll.proofs.halls.RollBook.verdict.Goals as goal

pub returns-in-Some : goal.returns-in-Some
returns-in-Some g c =
    let m = g.B.Book.model in
    let pages = g.B.Book.pages in
    let r = c.args.self.now in
    let hall = c.in-Some.place in
    let inside : hall ≤ 7 = search rules in
    let same : hall ≡ c.args.hall = search rules in
    c.answer_with.ensures ∙ ap answered c.verdict_at.ensures ∙ told_roll m pages r hall c.args.op inside ∙ ap (λ h. told (roll_model m) (page_of pages r) h c.args.op) same
