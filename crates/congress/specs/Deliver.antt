-- Deliver: what it tells and what it leaves.
use Rattle.std.specs.Prelude.{ℕ, cond, Result, nat_le, slice_index_or}
use Rattle.book.specs.Model.{Model}
use Rattle.congress.specs.Replies.{reply_step}
use Rattle.congress.specs.Requests.{request_step}
use Rattle.congress.specs.Sending.{no_message}
use Rattle.congress.specs.State.{Scene, short}
use Rattle.congress.specs.Telling.{refuse, pass_over}
use Rattle.congress.specs.Votes.{vote_step}
use Rattle.congress.specs.declared.outcomes.Report.{Report}
use Rattle.congress.specs.declared.refusals.Refusal.{Refusal}
use Rattle.congress.specs.declared.refusals.Refusal.TheVariants.{NotThere, ShortPost}
use Rattle.records.specs.Messages.{lawful}
use Rattle.records.specs.declared.messages.Message.{Message}

abbrev pub by_kind : Model → Scene → Message → Result Report Refusal × Scene
by_kind m s (Message.Request r) = request_step m s r
by_kind m s (Message.Vote v) = vote_step s v
by_kind m s (Message.Reply r) = reply_step s r

-- an unlawful message is passed over
abbrev pub message_step : Model → Scene → Message → Result Report Refusal × Scene
message_step m s message = cond (lawful s.world.state.opened message) (by_kind m s message) (pass_over s)

-- a delivered message stays in the post
abbrev pub deliver_step : Model → Scene → ℕ → Result Report Refusal × Scene
deliver_step m s place =
    cond (short s.world) (refuse s ShortPost)
    (cond (nat_le s.world.state.count place) (refuse s NotThere)
    (message_step m s (slice_index_or s.world.post place no_message)))
