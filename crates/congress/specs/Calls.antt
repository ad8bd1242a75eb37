-- What Open, Issue, Clock, Drop and Find answer, and what they leave.
use Rattle.std.specs.Prelude.{◌≡◌, ℕ, ◌+◌, ◌-◌, ◌^◌, cond, not, ◌||◌, List, Ok, Err, Option, Result, ◌==◌, count_ones, nat_le, nat_lt, slice_index_or, slice_set}
use Rattle.std.specs.Result.{OnErr}
use Rattle.congress.specs.Sending.{requests, no_operation, no_message}
use Rattle.congress.specs.Tables.{with_clock, opened_for}
use Rattle.congress.specs.State.{State, World, world, fresh, hall_at, with_hall, console_at, with_console, with_count, short, lacks_room, messages, posting}
use Rattle.congress.specs.declared.refusals.Refusal.TheVariants.{NotThere, Busy, BadHalls, UsedUp, TooLate, NoRoom, ShortPost}
use Rattle.congress.specs.declared.refusals.Refusal.{Refusal}
use Rattle.congress.specs.declared.tables.Console.{Console}
use Rattle.records.specs.Finder.{first_in}
use Rattle.records.specs.Halls.{fit}
use Rattle.records.specs.Messages.{transaction_of}
use Rattle.records.specs.Transactions.{number_of}
use Rattle.records.specs.declared.Operation.{Operation}
use Rattle.records.specs.declared.messages.Request.{Request}

-- a refusal leaves all as it was
abbrev pub Untouched : {A W : Type 0} → Result A Refusal → W → W → Type 0
Untouched r before after = OnErr r (after ≡ before)

-- Open: 1 to 8 halls
abbrev pub open_step : State → ℕ → Result (Unit {0}) Refusal × State
open_step s number = cond (number == 0 || nat_lt 8 number) (Err BadHalls, s) (Ok tt, fresh number)

-- Clock: a hall that is open, and a time up to 2^48
abbrev pub clock_step : State → ℕ → ℕ → Result (Unit {0}) Refusal × State
clock_step s h time =
    cond (nat_le s.opened h) (Err NotThere, s)
    (cond (nat_lt (2 ^ 48) time) (Err TooLate, s)
    (Ok tt, with_hall s h (with_clock (hall_at s h) time)))

-- Issue: the console's next transaction
abbrev pub draft_of : Console → ℕ → ℕ → ℕ → List Operation → Request
draft_of c k class halls operations =
    record { transaction = number_of (c.sequence + 1) k; to = 0; class = class; halls = halls; high = c.high; operation = slice_index_or operations 0 no_operation }

abbrev pub issued : World → ℕ → ℕ → ℕ → List Operation → World
issued w k class halls operations =
    posting (world (with_console w.state k (opened_for (console_at w.state k) halls)) w.post)
    (requests (draft_of (console_at w.state k) k class halls operations) operations)

abbrev pub issue_step : World → ℕ → ℕ → ℕ → List Operation → Result ℕ Refusal × World
issue_step w k class halls operations =
    cond (short w) (Err ShortPost, w)
    (cond (nat_le 16 k) (Err NotThere, w)
    (cond (console_at w.state k).busy (Err Busy, w)
    (cond (not (fit w.state.opened class halls)) (Err BadHalls, w)
    (cond (nat_le 1048576 (console_at w.state k).sequence) (Err UsedUp, w)
    (cond (lacks_room w (count_ones halls)) (Err NoRoom, w)
    (Ok (number_of ((console_at w.state k).sequence + 1) k), issued w k class halls operations))))))

-- Drop: the last message takes the place of the one dropped, all other places stay
abbrev pub dropped : World → ℕ → World
dropped w place =
    world (with_count w.state (w.state.count - 1))
    (slice_set w.post place (slice_index_or w.post (w.state.count - 1) no_message))

abbrev pub drop_step : World → ℕ → Result (Unit {0}) Refusal × World
drop_step w place =
    cond (short w) (Err ShortPost, w)
    (cond (nat_le w.state.count place) (Err NotThere, w)
    (Ok tt, dropped w place))

-- Find: the first place in the post that bears a number
abbrev pub find_answer : World → ℕ → Result (Option ℕ) Refusal
find_answer w number = cond (short w) (Err ShortPost) (Ok (first_in transaction_of number 0 (messages w)))
