-- What is written down of the messages in the post is true of them.
use Rattle.std.specs.Prelude.{◌≡◌, ℕ, ◌≤◌, List, length, map, take}
use Rattle.book.specs.Model.{Model}
use Rattle.congress.specs.State.{World, Scene, messages}
use Rattle.order.specs.Runs.{beginning, run}
use Rattle.order.specs.declared.calls.Call.{Call}
use Rattle.picture.specs.Arrows.{Drawn, sent_in, nothing_drawn}
use Rattle.picture.specs.Pictures.{drawn_from}
use Rattle.picture.specs.declared.arrows.Sent.{Sent}
use Rattle.picture.specs.declared.ledger.InPost.{InPost}

-- of which kind a message is, from whom and to whom, whichever call posted it
abbrev pub known : InPost → Sent
known x = record { kind = x.sent.kind; from = x.sent.from; to = x.sent.to; call = 0 }

-- place by place, it is the message in the post
abbrev pub TrueTo : World → Drawn → Type 0
TrueTo w d = map known d.in_post ≡ map (sent_in 0) (messages w)

-- so it is after each of the calls, if no message was in the post before them
abbrev pub TrueToPost : Model → List Call → Scene → Type 0
TrueToPost m calls s =
    s.world.state.count ≡ 0 → (k : ℕ) → k ≤ length calls
    → TrueTo (run m (take k calls) (beginning s)).now.world (drawn_from m 0 (take k calls) s nothing_drawn)
