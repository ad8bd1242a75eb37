use Rattle.std.proofs.Common.{◌≡◌, ◌∙◌, sym, ap, length, drop, rules}
use Rattle.std.proofs.lemmas.List.Edits.{sets}
use Rattle.std.proofs.lemmas.Result.{IfOk-at_ok}
use Rattle.order.proofs.Conducted.{told_length}
use Rattle.order.specs.Conduct.{told}
use Rattle.order.specs.Runs.{beginning}
use Rattle.congress.specs.Meaning.{scene_of}
use Rattle.rehearse.specs.Rehearsal.{rehearsal_told, first_scene}
use Rattle.roll.specs.Roll.{roll_model, page_of}
use Rattle.rehearse.proofs.Written.{all_written}
use Rattle.rehearse.proofs.told_by.Goals as goal

pub returns-clause-told : goal.returns-clause-told
returns-clause-told g c =
    let m = roll_model g.B.Book.model in
    let calls = c.args.script.now.calls.items in
    let pages = page_of g.B.Book.pages c.args.roll.now in
    let t = rehearsal_told m c.args.script.now.at.places pages calls in
    let old = c.in_ok-told.told.items in
    let many : length t ≡ length calls = told_length m calls (beginning (first_scene c.args.script.now.at.places pages)) in
    let room : length old ≡ length calls = search rules in
    let count : c.in_ok-told.told.len ≡ length old = search rules in
    let first = scene_of c.new-congress.result c.as_mut_slice.result.now pages in
    let start : first ≡ first_scene c.args.script.now.at.places pages = search rules in
    let said =
    IfOk-at_ok (λ _. c.conduct.new.answers ≡ sets c.as_mut_slice-2.result.now 0 (told m c.as_slice-calls.result.now (beginning first)))
    c.unwrap.ensures c.conduct.ensures.told in
    let is =
    said
    ∙ ap (λ o. sets o 0 (told m c.as_slice-calls.result.now (beginning first))) c.as_mut_slice-2.ensures.value
    ∙ ap (λ l. sets old 0 (told m l (beginning first))) c.as_slice-calls.ensures.value
    ∙ ap (λ s. sets old 0 (told m calls (beginning s))) start in
    all_written t old c.conduct.new.answers (drop (length c.conduct.new.answers) old) c.in_ok-told.told.len (many ∙ sym room) count is
