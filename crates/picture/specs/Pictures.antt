-- What is drawn of a list of calls.
use Rattle.std.specs.Prelude.{ℕ, ◌+◌, List, [], ◌∷◌}
use Rattle.book.specs.Model.{Model}
use Rattle.congress.specs.State.{Scene, messages}
use Rattle.order.specs.Runs.{step}
use Rattle.order.specs.declared.calls.Call.{Call}
use Rattle.picture.specs.Arrows.{Drawn, nothing_drawn, posted, ended}
use Rattle.picture.specs.declared.arrows.Arrow.{Arrow}

-- the calls from the one of a number on, each with what it told and the messages that it left in the post
abbrev pub drawn_from : Model → ℕ → List Call → Scene → Drawn → Drawn
drawn_from m call [] s d = d
drawn_from m call (made ∷ later) s d =
    drawn_from m (call + 1) later (step m made s).1 (posted call made (step m made s).0 (messages (step m made s).1.world) d)

-- the arrows of all messages
abbrev pub arrows_of : Model → List Call → Scene → List Arrow
arrows_of m calls s = ended (drawn_from m 0 calls s nothing_drawn)
