-- Which messages go into the post.
use Rattle.std.specs.Prelude.{ℕ, zero, suc, Bool, cond, not, ◌&&◌, List, [], ◌∷◌, ◌++◌, pos, ◌==◌, slice_index_or}
use Rattle.records.specs.Halls.{bit}
use Rattle.records.specs.declared.Answer.{Answer}
use Rattle.records.specs.declared.Operation.{Operation}
use Rattle.records.specs.declared.messages.Message.{Message}
use Rattle.records.specs.declared.messages.Request.{Request}

-- these stand for an operation and a message past a list, and the answer that says nothing
abbrev pub no_operation : Operation
no_operation = record { kind = 0; grant = 0; token = 0; a = 0; b = 0; c = pos 0; d = 0 }

abbrev pub no_message : Message
no_message = Message.Request (record { transaction = 0; to = 0; class = 0; halls = 0; high = 0; operation = no_operation })

abbrev pub no_answer : Answer
no_answer = record { layer = 0; cause = 0; place = 0; value = pos 0 }

-- a message to each hall below n that is among those meant, ascending
abbrev pub to_each : (ℕ → Bool) → (ℕ → Message) → ℕ → List Message
to_each meant message zero = []
to_each meant message (suc n) = to_each meant message n ++ cond (meant n) (message n ∷ []) []

-- the draft of a transaction's requests as it goes to hall h
abbrev pub to_hall : Request → ℕ → Operation → Request
to_hall draft h operation =
    record { transaction = draft.transaction; to = h; class = draft.class; halls = draft.halls; high = draft.high; operation = operation }

-- the requests to the halls below n, each with its hall's operation
abbrev pub requests_below : Request → List Operation → ℕ → List Message
requests_below draft operations n =
    to_each (bit draft.halls) (λ h. Message.Request (to_hall draft h (slice_index_or operations h no_operation))) n

unfoldable pub requests : Request → List Operation → List Message
requests draft operations = requests_below draft operations 8

-- what hall `own` tells the other halls of a transaction
abbrev pub is_other : ℕ → ℕ → ℕ → Bool
is_other halls own h = bit halls h && not (h == own)

abbrev pub vote_to : ℕ → ℕ → ℕ → ℕ → ℕ → Message
vote_to transaction own stamp status h =
    Message.Vote (record { transaction = transaction; from = own; to = h; stamp = stamp; status = status })

unfoldable pub votes_of : ℕ → ℕ → ℕ → ℕ → ℕ → List Message
votes_of transaction own halls stamp status = to_each (is_other halls own) (vote_to transaction own stamp status) 8

-- and its console
abbrev pub reply_of : ℕ → ℕ → ℕ → ℕ → Answer → Message
reply_of transaction own stamp status answer =
    Message.Reply (record { transaction = transaction; from = own; stamp = stamp; status = status; answer = answer })
