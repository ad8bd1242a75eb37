use Rattle.std.proofs.Common.{◌≡◌, length, set, refl, length-set, ap, ◌∙◌, rules, w64}
use Rattle.measured.proofs.Turns.{numbers_on, no_numbers}
use Rattle.measured.proofs.making.write_pages.Goals as goal
use Rattle.measured.specs.Measured.{number_in}
use Rattle.std.proofs.lemmas.Int.{to_z-of_z}

pub loop-place-init : goal.loop-place-init
loop-place-init g c = (refl, no_numbers (number_in (g.B.Book.pages c.args.book.now)) c.args.pages.now)

pub loop-place-preserved : goal.loop-place-preserved
loop-place-preserved g c =
    let l = c.loop-place in
    let same = to_z-of_z w64 c.number_in.result (search rules) in
    let number = same ∙ c.number_in.ensures in (
      length-set l.pages l.place _ ∙ l.invariant.0,
      ap (set l.pages l.place) number ∙ numbers_on (number_in (g.B.Book.pages c.args.book.now)) c.args.pages.now l.pages l.place l.invariant.1,
    )
