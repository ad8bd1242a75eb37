-- What is written down of the messages in the post, call by call. Calls are counted from 0.
use Rattle.std.specs.Prelude.{ℕ, true, false, cond, List, [], ◌∷◌, ◌++◌, Ok, Err, Result, drop, length, map, nat_lt, slice_index_or, slice_set}
use Rattle.std.specs.List.{swap_remove}
use Rattle.congress.specs.Sending.{no_message}
use Rattle.congress.specs.declared.refusals.Refusal.{Refusal}
use Rattle.order.specs.declared.calls.Call.{Call}
use Rattle.order.specs.declared.calls.Said.{Said}
use Rattle.picture.specs.declared.arrows.Arrow.{Arrow}
use Rattle.picture.specs.declared.arrows.Fate.{Fate}
use Rattle.picture.specs.declared.arrows.Fate.TheVariants.{Arrived, Again, Lost, Left}
use Rattle.picture.specs.declared.arrows.Kind.TheVariants as kind
use Rattle.picture.specs.declared.arrows.Party.TheVariants.{Console, Hall}
use Rattle.picture.specs.declared.arrows.Sent.{Sent}
use Rattle.picture.specs.declared.ledger.InPost.{InPost}
use Rattle.picture.specs.declared.ledger.Ledger.{Ledger}
use Rattle.records.specs.Transactions.{console}
use Rattle.records.specs.declared.messages.Message.{Message}

-- a message that a call posted: of which kind, from whom and to whom
abbrev pub sent_in : ℕ → Message → Sent
sent_in call (Message.Request r) = record { kind = kind.Request; from = Console (console r.transaction); to = Hall r.to; call = call }
sent_in call (Message.Vote v) = record { kind = kind.Vote; from = Hall v.from; to = Hall v.to; call = call }
sent_in call (Message.Reply r) = record { kind = kind.Reply; from = Hall r.from; to = Console (console r.transaction); call = call }

abbrev pub new_in_post : ℕ → Message → InPost
new_in_post call message = record { sent = sent_in call message; is_delivered = false }

-- this stands for a place past the post
abbrev pub no_place : InPost
no_place = new_in_post 0 no_message

-- the messages in the post, by place, and the arrows of those whose fate is known
pub record Drawn : Type 0 where
  pub in_post : List InPost
  pub arrows : List Arrow

abbrev pub drawn : Ledger → Drawn
drawn l = record { in_post = l.in_post.items; arrows = l.arrows.items }

abbrev pub nothing_drawn : Drawn
nothing_drawn = record { in_post = []; arrows = [] }

abbrev pub arrow : Sent → Fate → ℕ → Arrow
arrow sent fate call = record { sent = sent; fate = fate; call = call }

abbrev pub with_arrow : Drawn → Arrow → Drawn
with_arrow d a = record { in_post = d.in_post; arrows = d.arrows ++ a ∷ [] }

abbrev pub with_post : Drawn → List InPost → Drawn
with_post d in_post = record { in_post = in_post; arrows = d.arrows }

-- what was never delivered
abbrev pub left_by : InPost → List Arrow
left_by x = cond x.is_delivered [] (arrow x.sent Left x.sent.call ∷ [])

abbrev pub left_over : List InPost → List Arrow
left_over [] = []
left_over (x ∷ xs) = left_by x ++ left_over xs

-- the message at a place is delivered, and stays in the post
abbrev pub seen : InPost → InPost
seen x = record { sent = x.sent; is_delivered = true }

abbrev pub delivered_one : ℕ → ℕ → InPost → Drawn → Drawn
delivered_one call place x d =
    with_arrow (with_post d (slice_set d.in_post place (seen x))) (arrow x.sent (cond x.is_delivered Again Arrived) call)

abbrev pub delivered : ℕ → ℕ → Drawn → Drawn
delivered call place d =
    cond (nat_lt place (length d.in_post)) (delivered_one call place (slice_index_or d.in_post place no_place) d) d

-- the message at a place is dropped, and the last takes its place
abbrev pub lost_one : ℕ → ℕ → InPost → Drawn → Drawn
lost_one call place x d =
    record { in_post = swap_remove d.in_post place x; arrows = d.arrows ++ cond x.is_delivered [] (arrow x.sent Lost call ∷ []) }

abbrev pub lost : ℕ → ℕ → Drawn → Drawn
lost call place d =
    cond (nat_lt place (length d.in_post)) (lost_one call place (slice_index_or d.in_post place no_place) d) d

-- an Open leaves no message in the post
abbrev pub opened : Drawn → Drawn
opened d = record { in_post = []; arrows = d.arrows ++ left_over d.in_post }

-- what a call that was not refused does to the messages that were in the post
abbrev pub called : ℕ → Call → Drawn → Drawn
called call (Call.Open halls) d = opened d
called call (Call.Issue console class halls operations) d = d
called call (Call.Deliver place) d = delivered call place d
called call (Call.Work hall) d = d
called call (Call.Clock hall time) d = d
called call (Call.Drop place) d = lost call place d

-- the messages that are in the post then and were not before come to its end
abbrev pub put : ℕ → List Message → Drawn → Drawn
put call messages d = with_post d (d.in_post ++ map (new_in_post call) (drop (length d.in_post) messages))

-- a refused call changes nothing
abbrev pub posted : ℕ → Call → Result Said Refusal → List Message → Drawn → Drawn
posted call made (Ok said) messages d = put call messages (called call made d)
posted call made (Err why) messages d = d

-- the arrows, with those of the messages left at the end
abbrev pub ended : Drawn → List Arrow
ended d = d.arrows ++ left_over d.in_post
