-- Deliver, of a vote; and how an entry leaves.
use Rattle.std.specs.Prelude.{ℕ, ◌^◌, max, Bool, cond, not, ◌&&◌, List, [], ◌∷◌, Some, None, Option, Result, ◌==◌, bit_or, slice_set}
use Rattle.congress.specs.Queue.{entry_in, place_at, any_at, ready, without}
use Rattle.congress.specs.Sending.{no_answer, reply_of}
use Rattle.congress.specs.State.{State, Scene, hall_at, with_hall, with_entries, with_state, lacks_room, sending}
use Rattle.congress.specs.Tables.{with_mode, with_votes}
use Rattle.congress.specs.Telling.{refuse, tell, pass_over}
use Rattle.congress.specs.declared.outcomes.Outcome.TheVariants.{Counted, Readied, Removed}
use Rattle.congress.specs.declared.outcomes.Outcome.{Outcome}
use Rattle.congress.specs.declared.outcomes.Report.{Report}
use Rattle.congress.specs.declared.refusals.Refusal.{Refusal}
use Rattle.congress.specs.declared.refusals.Refusal.TheVariants.{NoRoom}
use Rattle.congress.specs.declared.tables.Entry.{Entry}
use Rattle.congress.specs.declared.tables.Hall.{Hall}
use Rattle.congress.specs.declared.tables.Mode.TheVariants.{Timestamp}
use Rattle.records.specs.Classes.{status_number}
use Rattle.records.specs.Halls.{names}
use Rattle.records.specs.declared.classes.Status.TheVariants.{Commit}
use Rattle.records.specs.declared.messages.Vote.{Vote}

-- a hall without entries is in timestamp mode
abbrev pub settled : List Entry → ℕ → Hall → Hall
settled entries h hall = cond (any_at h entries) hall (with_mode hall Timestamp)

-- the entry at a place leaves hall h
abbrev pub leaving : State → ℕ → ℕ → State
leaving s h place =
    with_entries (with_hall s h (settled (without s.entries place) h (hall_at s h))) (without s.entries place)

-- a vote counts if it comes from a hall that the entry names and does not count yet
abbrev pub counts : Entry → ℕ → Bool
counts e from = names e.halls from && not (names e.votes from)

-- a commit vote is added, and the entry takes the greater stamp
abbrev pub counted : Entry → Vote → Entry
counted e v = with_votes e (bit_or e.votes (2 ^ v.from)) (max e.stamp v.stamp)

abbrev pub counted_as : Entry → Outcome
counted_as e = cond (ready e) Readied Counted

abbrev pub count_vote : Scene → Vote → ℕ → Entry → Result Report Refusal × Scene
count_vote s v place e =
    tell (with_state s (with_entries s.world.state (slice_set s.world.state.entries place e))) (counted_as e) v.transaction v.to e.stamp no_answer

-- any other vote removes the entry, which replies with its own stamp
abbrev pub removed : Scene → Vote → ℕ → Entry → Scene
removed s v place e =
    sending (with_state s (leaving s.world.state v.to place)) (reply_of v.transaction v.to e.stamp v.status no_answer ∷ [])

abbrev pub remove_entry : Scene → Vote → ℕ → Entry → Result Report Refusal × Scene
remove_entry s v place e =
    cond (lacks_room s.world 1) (refuse s NoRoom) (tell (removed s v place e) Removed v.transaction v.to e.stamp no_answer)

abbrev pub vote_on : Scene → Vote → ℕ → Entry → Result Report Refusal × Scene
vote_on s v place e =
    cond (counts e v.from)
    (cond (v.status == status_number Commit) (count_vote s v place (counted e v)) (remove_entry s v place e))
    (pass_over s)

abbrev pub vote_at : Scene → Vote → Option ℕ → Result Report Refusal × Scene
vote_at s v None = pass_over s
vote_at s v (Some place) = vote_on s v place (entry_in s.world.state.entries place)

abbrev pub vote_step : Scene → Vote → Result Report Refusal × Scene
vote_step s v = vote_at s v (place_at v.to v.transaction s.world.state.entries)
