-- Deliver, of a request.
use Rattle.std.specs.Prelude.{ℕ, ◌^◌, max, Bool, true, false, cond, ◌&&◌, List, [], ◌∷◌, ◌++◌, length, Some, None, Option, Ok, Err, Result, nat_le, slice_index_or, slice_set, unwrap_or}
use Rattle.book.specs.Model.{Model, told, turned}
use Rattle.congress.specs.Kept.{locks}
use Rattle.congress.specs.Queue.{any_at, held_at}
use Rattle.congress.specs.Sending.{no_answer, votes_of, reply_of}
use Rattle.congress.specs.State.{Scene, scene, hall_at, with_hall, with_entries, with_state, lacks_room, sending}
use Rattle.congress.specs.Tables.{with_last, with_mode, with_taken}
use Rattle.congress.specs.Telling.{refuse, tell, pass_over}
use Rattle.congress.specs.declared.fates.Fate.{Fate}
use Rattle.congress.specs.declared.fates.Fate.TheVariants.{Enters, Runs, Conflicts, Aborts}
use Rattle.congress.specs.declared.outcomes.Outcome.{Outcome}
use Rattle.congress.specs.declared.outcomes.Outcome.TheVariants.{Entered, DoneAtOnce, MetConflict, Aborted}
use Rattle.congress.specs.declared.outcomes.Report.{Report}
use Rattle.congress.specs.declared.refusals.Refusal.{Refusal}
use Rattle.congress.specs.declared.refusals.Refusal.TheVariants.{TooLate, NoRoom, QueueFull}
use Rattle.congress.specs.declared.tables.Entry.{Entry}
use Rattle.congress.specs.declared.tables.Hall.{Hall}
use Rattle.congress.specs.declared.tables.Mode.{Mode}
use Rattle.congress.specs.declared.tables.Mode.TheVariants.{Locking}
use Rattle.records.specs.Answers.{well_done}
use Rattle.records.specs.Classes.{class_of, status_number}
use Rattle.records.specs.Transactions.{console, sequence, next_stamp}
use Rattle.records.specs.declared.Answer.{Answer}
use Rattle.records.specs.declared.classes.Class.{Class}
use Rattle.records.specs.declared.classes.Class.TheVariants.{Single, Independent, Coordinated}
use Rattle.records.specs.declared.classes.Status.{Status}
use Rattle.records.specs.declared.classes.Status.TheVariants.{Commit, Conflict, Abort}
use Rattle.records.specs.declared.messages.Message.{Message}
use Rattle.records.specs.declared.messages.Request.{Request}

abbrev pub hall_of : Scene → Request → Hall
hall_of s r = hall_at s.world.state r.to

-- the class of a lawful request
abbrev pub class_in : Request → Class
class_in r = unwrap_or (class_of r.class) Single

-- what its part would be answered now
abbrev pub verdict : Model → Scene → Request → Answer
verdict m s r = told m s.pages r.to r.operation

-- What becomes of a request that its hall takes.

-- a coordinated part waits only if it would be well done
abbrev pub by_verdict : Answer → Fate
by_verdict answer = cond (well_done answer) Enters (Aborts answer)

-- in locking mode, where no entry of the hall holds a key of it
abbrev pub fate_free : Answer → Class → Fate
fate_free answer Single = Runs
fate_free answer Independent = Enters
fate_free answer Coordinated = by_verdict answer

abbrev pub fate_locking : Model → Scene → Request → Fate
fate_locking m s r =
    cond (held_at r.to (m.keys r.operation) s.world.state.entries) Conflicts (fate_free (verdict m s r) (class_in r))

-- a coordinated request at a timestamp hall that has entries
abbrev pub fate_busy : Fate
fate_busy = Conflicts

-- in timestamp mode; a coordinated request takes a hall without entries, where no key is held, to locking mode
abbrev pub fate_timestamp : Model → Scene → Request → Class → Fate
fate_timestamp m s r Single = Enters
fate_timestamp m s r Independent = Enters
fate_timestamp m s r Coordinated = cond (any_at r.to s.world.state.entries) fate_busy (by_verdict (verdict m s r))

abbrev pub fate : Model → Scene → Request → Fate
fate m s r = cond (locks (hall_of s r).mode) (fate_locking m s r) (fate_timestamp m s r (class_in r))

-- What its hall then holds.

-- the sequence is recorded, whatever becomes of the request
abbrev pub recorded : Hall → ℕ → Hall
recorded hall transaction = with_taken hall (slice_set hall.taken (console transaction) (sequence transaction))

-- a coordinated part that waits keeps its hall in locking mode
abbrev pub mode_for : Mode → Class → Mode
mode_for mode Single = mode
mode_for mode Independent = mode
mode_for mode Coordinated = Locking

abbrev pub locked_for : Hall → Class → Hall
locked_for hall class = with_mode hall (mode_for hall.mode class)

-- keys are held in locking mode alone
abbrev pub entry_for : Model → Hall → Request → ℕ → Entry
entry_for m hall r stamp = record {
  hall = r.to;
  transaction = r.transaction;
  class = class_in r;
  halls = r.halls;
  votes = 2 ^ r.to;
  stamp = stamp;
  keys = cond (locks (locked_for hall (class_in r)).mode) (m.keys r.operation) 0;
  operation = r.operation;
}

-- What it sends: votes to the other named halls, and a reply where the part does not wait.

abbrev pub falling : Request → ℕ → Status → Answer → List Message
falling r stamp status answer =
    votes_of r.transaction r.to r.halls stamp (status_number status) ++ (reply_of r.transaction r.to stamp (status_number status) answer ∷ [])

abbrev pub sent : Model → Scene → Request → ℕ → Fate → List Message
sent m s r stamp Enters = votes_of r.transaction r.to r.halls stamp (status_number Commit)
sent m s r stamp Runs = reply_of r.transaction r.to stamp (status_number Commit) (verdict m s r) ∷ []
sent m s r stamp Conflicts = falling r stamp Conflict no_answer
sent m s r stamp (Aborts answer) = falling r stamp Abort answer

-- What it leaves, but for what is sent.

abbrev pub entering : Model → Scene → Request → ℕ → Scene
entering m s r stamp =
    with_state s (with_entries
    (with_hall s.world.state r.to (locked_for (recorded (hall_of s r) r.transaction) (class_in r)))
    (s.world.state.entries ++ (entry_for m (hall_of s r) r stamp ∷ [])))

abbrev pub running : Model → Scene → Request → ℕ → Scene
running m s r stamp =
    scene (with_state s (with_hall s.world.state r.to (with_last (recorded (hall_of s r) r.transaction) (max (hall_of s r).last stamp)))).world
    (turned m s.pages r.to r.operation)

abbrev pub recording : Scene → Request → Scene
recording s r = with_state s (with_hall s.world.state r.to (recorded (hall_of s r) r.transaction))

-- a part that falls: its hall votes so, and replies with this answer
abbrev pub fallen : Scene → Request → ℕ → Status → Outcome → Answer → Result Report Refusal × Scene
fallen s r stamp status outcome answer =
    tell (sending (recording s r) (falling r stamp status answer)) outcome r.transaction r.to stamp answer

-- What is told, and what is left.
abbrev pub taken_as : Model → Scene → Request → ℕ → Fate → Result Report Refusal × Scene
taken_as m s r stamp Enters =
    tell (sending (entering m s r stamp) (sent m s r stamp Enters)) Entered r.transaction r.to stamp no_answer
taken_as m s r stamp Runs =
    tell (sending (running m s r stamp) (sent m s r stamp Runs)) DoneAtOnce r.transaction r.to stamp (verdict m s r)
taken_as m s r stamp Conflicts = fallen s r stamp Conflict MetConflict no_answer
taken_as m s r stamp (Aborts answer) = fallen s r stamp Abort Aborted answer

abbrev pub needs_entry : Fate → Bool
needs_entry Enters = true
needs_entry Runs = false
needs_entry Conflicts = false
needs_entry (Aborts answer) = false

-- 64 entries are all that may wait
abbrev pub full : Scene → Bool
full s = nat_le 64 (length s.world.state.entries)

-- whether there is a place for its entry and room for what it sends
abbrev pub places_for : Model → Scene → Request → ℕ → Fate → Result (Unit {0}) Refusal
places_for m s r stamp f =
    cond (needs_entry f && full s) (Err QueueFull)
    (cond (lacks_room s.world (length (sent m s r stamp f))) (Err NoRoom)
    (Ok tt))

abbrev pub take_as : Model → Scene → Request → ℕ → Fate → Result Report Refusal × Scene
take_as m s r stamp f =
    cond (needs_entry f && full s) (refuse s QueueFull)
    (cond (lacks_room s.world (length (sent m s r stamp f))) (refuse s NoRoom)
    (taken_as m s r stamp f))

-- the stamp that the hall gives it
abbrev pub stamp_for : Scene → Request → Option ℕ
stamp_for s r = next_stamp r.high (hall_of s r).last (hall_of s r).clock

abbrev pub take : Model → Scene → Request → Option ℕ → Result Report Refusal × Scene
take m s r None = refuse s TooLate
take m s r (Some stamp) = take_as m s r stamp (fate m s r)

-- whether the hall has taken this request or a later one of the console
abbrev pub is_old : Hall → ℕ → Bool
is_old hall transaction = nat_le (sequence transaction) (slice_index_or hall.taken (console transaction) 0)

abbrev pub request_step : Model → Scene → Request → Result Report Refusal × Scene
request_step m s r = cond (is_old (hall_of s r) r.transaction) (pass_over s) (take m s r (stamp_for s r))
