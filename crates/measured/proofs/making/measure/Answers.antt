use Rattle.std.proofs.Common.{◌≡◌, length, map, ap, ◌∙◌, replicate, rules}
use Rattle.book.specs.Below.{table}
use Rattle.congress.specs.Meaning.{scene_of}
use Rattle.congress.specs.State.{Scene}
use Rattle.measured.proofs.making.measure.Goals as goal
use Rattle.measured.specs.Measured.{number_in, first_scene}
use Rattle.measured.specs.Rows.{call_of, rows_of}
use Rattle.measured.specs.declared.rows.ToldRow.{ToldRow}
use Rattle.order.specs.Runs.{beginning, run}
use Rattle.records.specs.declared.messages.Message.{Message}
use Rattle.roll.specs.Roll.{roll_model, page_of}
use Rattle.std.proofs.lemmas.List.Edits.{sets}

pub returns-clause-told : goal.returns-clause-told
returns-clause-told g c = λ _.
    let a = c.args in
    let m = roll_model g.B.Book.model in
    let pages = page_of g.B.Book.pages a.roll in
    let first = scene_of c.new-congress.result (replicate 1024 (Message.Request c.default.result)) pages in
    let start : first ≡ first_scene pages = search rules in
    let rows : c.make_all.new.told ≡ sets a.told.now 0 (rows_of m a.parts.now a.calls.now (beginning first)) = c.make_all.ensures.told in
    let left = c.make_all.ensures.left in
    record {
      rows = rows ∙ ap (λ (s : Scene). sets a.told.now 0 (rows_of m a.parts.now a.calls.now (beginning s))) start;
      numbers = c.write_pages.ensures
          ∙ ap (λ (s : Scene). sets a.pages.now 0 (table (length a.pages.now) (number_in s.pages))) left
          ∙ ap (λ (s : Scene). sets a.pages.now 0 (table (length a.pages.now) (number_in (run m (map (call_of a.parts.now) a.calls.now) (beginning s)).now.pages))) start;
    }
