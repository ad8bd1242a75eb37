use Rattle.std.proofs.Common.{fold, ap, ◌∙◌, rules}
use Rattle.std.specs.Iterator.{YieldsFirstBy}
use Rattle.std.proofs.lemmas.Iterator.Consumers.{YieldsList-from_first, fold_from_yields_List}
use Rattle.entries.specs.Words.{lines}
use Rattle.scoring.specs.Running.{progress_after}
use Rattle.scoring.proofs.running.headings_of.Goals as goal

pub returns : goal.returns
returns c =
    let text = c.args.text.now in
    fold_from_yields_List {steps = YieldsFirstBy (λ line. line.now) (λ s. lines s.0.now)} {s = record { 0 = c.args.text }}
    _ progress_after c.start_of_sheet.result c.fold.result c.fold.ensures.ran
    (YieldsList-from_first (λ line. line.now) (λ s. lines s.0.now) (lines text) (search rules))
    (λ a x b q k. search rules)
    ∙ ap (λ at. fold progress_after at (lines text)) c.start_of_sheet.ensures
