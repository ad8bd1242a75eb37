use Rattle.std.proofs.Common.{rules, tests, ◌≡◌, ◌∙◌}
use Rattle.bridge.proofs.Lines.{Elsewhere, elsewhere_lines}
use Rattle.bridge.proofs.sheet.Deal.has_elsewhere.Goals as goal
use Rattle.std.specs.List.{list_any, enumerate_from}
use Rattle.std.proofs.lemmas.Iterator.{YieldsList-from_slice}
use Rattle.std.proofs.lemmas.Iterator.Consumers.{YieldsList-from_enumerate}
use Rattle.std.proofs.lemmas.Iterator.Search.{any_from_yields_List}

pub returns : goal.returns
returns c =
    let found : c.any.result ≡ list_any (Elsewhere c.args.b c.args.pair) (enumerate_from 0 c.args.self.now.lines) =
    any_from_yields_List _ _ _ _ c.any.ensures.ran (YieldsList-from_enumerate (YieldsList-from_slice c.args.self.now.lines cc) cc) (λ x b q k. search (rules, tests)) in
    found ∙ elsewhere_lines c.args.self.now c.args.b c.args.pair (search rules)
