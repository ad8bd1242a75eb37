-- Calls at hall 0 of two halls, over the book of chess: stamps, the last of them, and whose turn it is.
use Rattle.std.specs.Prelude.{◌≡◌, ℕ, ◌-◌, ◌^◌, true, false, cond, List, [], ◌∷◌, pos, Some, None, Ok, Err, Result, replicate}
use Rattle.book.specs.Model.{Page}
use Rattle.chess.specs.Page.{write, blank, chess_model}
use Rattle.congress.specs.Deliver.{deliver_step}
use Rattle.congress.specs.Kept.{kept, locks}
use Rattle.congress.specs.Queue.{before}
use Rattle.congress.specs.Refusals.{refusal_number}
use Rattle.congress.specs.Sending.{no_answer, no_message}
use Rattle.congress.specs.State.{State, Scene, world, scene, hall_at, new_hall, new_consoles}
use Rattle.congress.specs.Work.{may_run, work_step}
use Rattle.congress.specs.declared.outcomes.Outcome.TheVariants.{Entered, Done}
use Rattle.congress.specs.declared.outcomes.Outcome.{Outcome}
use Rattle.congress.specs.declared.outcomes.Report.{Report}
use Rattle.congress.specs.declared.refusals.Refusal.TheVariants.{TooLate, NothingRuns}
use Rattle.congress.specs.declared.refusals.Refusal.{Refusal}
use Rattle.congress.specs.declared.tables.Entry.{Entry}
use Rattle.congress.specs.declared.tables.Mode.TheVariants.{Timestamp, Locking}
use Rattle.congress.specs.declared.tables.Mode.{Mode}
use Rattle.order.specs.Plain.{Part, comes_before, in_order}
use Rattle.records.specs.Answers.{done_with}
use Rattle.records.specs.Messages.{lawful}
use Rattle.records.specs.declared.Answer.{Answer}
use Rattle.records.specs.declared.Operation.{Operation}
use Rattle.records.specs.declared.classes.Class.TheVariants.{Independent}
use Rattle.records.specs.declared.messages.Message.{Message}
use Rattle.worked.specs.Chess.{asking}

abbrev new_pages : ℕ → Page
new_pages h = write blank

-- players 1 and 2 are seated at a board
abbrev seating : ℕ → Operation
seating board = asking 16 board 1 2

-- what is told of hall 0
abbrev told : Outcome → ℕ → ℕ → Answer → Result Report Refusal
told outcome transaction stamp answer = Ok (record { outcome = outcome; transaction = transaction; hall = 0; stamp = stamp; answer = answer })

-- A request at a clock.

-- console 5 asks halls 0 and 1 for its first transaction
abbrev first_request : Message
first_request = Message.Request (record { transaction = 21; to = 0; class = 2; halls = 3; high = 0; operation = seating 0 })

-- nothing has happened yet but that hall 0 has this clock, and the request is in the post, with a place for a vote after it
abbrev at_clock : ℕ → Scene
at_clock clock =
    scene (world
    (record {
      opened = 2;
      halls = record { clock = clock; last = 0; mode = Timestamp; taken = replicate 16 0 } ∷ new_hall ∷ [];
      consoles = new_consoles;
      entries = [];
      count = 1;
    })
    (first_request ∷ no_message ∷ []))
    new_pages

-- 2^48 is the last stamp, and after it a hall refuses with 5 and changes nothing
pub record LastStamp : Type 0 where
  pub is_lawful : lawful 2 first_request ≡ true
  pub given : (deliver_step chess_model (at_clock (2 ^ 48 - 1)) 0).0 ≡ told Entered 21 (2 ^ 48) no_answer
  pub refused : deliver_step chess_model (at_clock (2 ^ 48)) 0 ≡ (Err TooLate, at_clock (2 ^ 48))
  pub number : refusal_number TooLate ≡ 5

-- Two parts that wait.

-- mode, transaction, votes, stamp, board: a part of an independent transaction of halls 0 and 1; keys are held in locking mode alone
abbrev part : Mode → ℕ → ℕ → ℕ → ℕ → Entry
part mode transaction votes stamp board = record {
  hall = 0;
  transaction = transaction;
  class = Independent;
  halls = 3;
  votes = votes;
  stamp = stamp;
  keys = cond (locks mode) (chess_model.keys (seating board)) 0;
  operation = seating board;
}

-- hall 1 has voted
abbrev ready : Mode → ℕ → ℕ → ℕ → Entry
ready mode transaction stamp board = part mode transaction 3 stamp board

-- hall 1 has not voted yet
abbrev unready : Mode → ℕ → ℕ → ℕ → Entry
unready mode transaction stamp board = part mode transaction 1 stamp board

-- mode and last of hall 0, which has taken the first two transactions of each console, and what waits there
abbrev holding : Mode → ℕ → List Entry → State
holding mode last entries = record {
  opened = 2;
  halls = record { clock = 0; last = last; mode = mode; taken = replicate 16 2 } ∷ new_hall ∷ [];
  consoles = new_consoles;
  entries = entries;
  count = 0;
}

-- transaction 32 is not ready, transaction 37 is ready with stamp 10
abbrev two_parts : Mode → ℕ → ℕ → State
two_parts mode last stamp = holding mode last (unready mode 32 stamp 1 ∷ ready mode 37 10 0 ∷ [])

-- with a place for a reply in the post
abbrev with_parts : State → Scene
with_parts s = scene (world s (no_message ∷ [])) new_pages

-- Work at hall 0
abbrev work : State → Result Report Refusal × Scene
work s = work_step chess_model (with_parts s) 0

abbrev last_after : State → ℕ
last_after s = (hall_at (work s).1.world.state 0).last

-- in timestamp mode a part that is not ready is waited for if its stamp is less
pub record TimestampTurns : Type 0 where
  pub is_kept : kept (two_parts Timestamp 8 9).halls (two_parts Timestamp 8 9).entries ≡ true
  pub nothing_may_run : may_run (two_parts Timestamp 8 9) 0 ≡ None
  pub waits_for_9 : work (two_parts Timestamp 8 9) ≡ (Err NothingRuns, with_parts (two_parts Timestamp 8 9))
  pub number : refusal_number NothingRuns ≡ 8
  pub second_may_run : may_run (two_parts Timestamp 8 11) 0 ≡ Some 1
  pub done_before_11 : (work (two_parts Timestamp 8 11)).0 ≡ told Done 37 10 (done_with 1 (pos 0))
  pub last : last_after (two_parts Timestamp 8 11) ≡ 10

-- in locking mode it is not waited for; and a hall's last never falls
pub record LockingTurns : Type 0 where
  pub is_kept : kept (two_parts Locking 8 9).halls (two_parts Locking 8 9).entries ≡ true
  pub second_may_run : may_run (two_parts Locking 8 9) 0 ≡ Some 1
  pub done_past_9 : (work (two_parts Locking 8 9)).0 ≡ told Done 37 10 (done_with 1 (pos 0))
  pub last : last_after (two_parts Locking 8 9) ≡ 10
  pub done_after_12 : (work (two_parts Locking 12 9)).0 ≡ told Done 37 10 (done_with 1 (pos 0))
  pub last_stays : last_after (two_parts Locking 12 9) ≡ 12

-- Two parts with one stamp.

-- both are ready with stamp 10
abbrev both_ready : Mode → State
both_ready mode = holding mode 8 (ready mode 37 10 0 ∷ ready mode 32 10 1 ∷ [])

abbrev part_done : ℕ → ℕ → Part
part_done transaction board = record {
  hall = 0;
  transaction = transaction;
  stamp = 10;
  coordinated = false;
  operation = seating board;
  answer = done_with 1 (pos 0);
}

-- of stamps 10 and 10 with transactions 37 and 32 the second comes first
pub record OneStamp : Type 0 where
  pub sooner : before 10 32 10 37 ≡ true
  pub not_sooner : before 10 37 10 32 ≡ false
  pub by_timestamp : may_run (both_ready Timestamp) 0 ≡ Some 1
  pub by_lock : may_run (both_ready Locking) 0 ≡ Some 1
  pub earlier : comes_before (part_done 32 1) (part_done 37 0) ≡ true
  pub not_earlier : comes_before (part_done 37 0) (part_done 32 1) ≡ false
  pub plain_order : in_order (part_done 37 0 ∷ part_done 32 1 ∷ []) ≡ part_done 32 1 ∷ part_done 37 0 ∷ []
