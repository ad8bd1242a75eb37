use Rattle.std.proofs.Common.{rules, ◌≡◌, ◌<◌, ◌≤◌, Some, pos, ap, sym, ◌∙◌}
use Rattle.roll.proofs.Numbers.{number_of_token, number_below}
use Rattle.roll.proofs.halls.Roll.number_at.Goals as goal
use Rattle.roll.specs.Roll.{entry, hall_tokens, page_of}
use Rattle.std.specs.List.{slice_get}

pub returns-in-Some : goal.returns-in-Some
returns-in-Some g c =
    let r = c.args.self.now in
    let hall = c.args.hall in
    let inside : c.args.place < 16 = search rules in
    let same : c.in-Some.entry ≡ c.args.place = search rules in
    let found = number_of_token g.B.Book.pages r hall c.args.place inside in
    let token : Some c.from.result ≡ slice_get (page_of g.B.Book.pages r hall) c.args.place =
    ap Some (c.from.ensures ∙ ap pos (c.at.ensures ∙ ap (entry (hall_tokens r.tokens.tokens hall)) same)) ∙ sym found in
    search rules

pub returns-in-None : goal.returns-in-None
returns-in-None g c =
    let inside : c.args.hall < 8 = search rules in
    let past : 16 ≤ c.args.place = search rules in
    c.number.ensures ∙ number_below g.B.Book.pages c.args.self.now c.args.hall c.get.result c.args.place c.get.ensures.value inside past
