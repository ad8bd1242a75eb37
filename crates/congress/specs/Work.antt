-- Work: which entry may run, what is told and what is left.
use Rattle.std.specs.Prelude.{ℕ, max, Bool, true, false, cond, not, ◌&&◌, ◌||◌, List, [], ◌∷◌, Some, None, Option, Result, ◌==◌, nat_le}
use Rattle.book.specs.Model.{Model, told, turned}
use Rattle.congress.specs.Kept.{locks}
use Rattle.congress.specs.Queue.{entry_in, ready, least}
use Rattle.congress.specs.Sending.{reply_of}
use Rattle.congress.specs.State.{State, Scene, scene, hall_at, with_hall, with_state, short, lacks_room, sending}
use Rattle.congress.specs.Tables.{with_last}
use Rattle.congress.specs.Telling.{refuse, tell}
use Rattle.congress.specs.Votes.{leaving}
use Rattle.congress.specs.declared.outcomes.Outcome.TheVariants.{Done}
use Rattle.congress.specs.declared.outcomes.Report.{Report}
use Rattle.congress.specs.declared.refusals.Refusal.{Refusal}
use Rattle.congress.specs.declared.refusals.Refusal.TheVariants.{NotThere, NoRoom, NothingRuns, ShortPost}
use Rattle.congress.specs.declared.tables.Entry.{Entry}
use Rattle.records.specs.Classes.{status_number}
use Rattle.records.specs.declared.Answer.{Answer}
use Rattle.records.specs.declared.classes.Status.TheVariants.{Commit}

-- the entries that Work goes by at a hall: all, or those that are ready
abbrev pub in_turn : ℕ → Bool → Entry → Bool
in_turn h only_ready e = e.hall == h && (not only_ready || ready e)

abbrev pub if_ready : List Entry → Option ℕ → Option ℕ
if_ready entries None = None
if_ready entries (Some place) = cond (ready (entry_in entries place)) (Some place) None

-- in timestamp mode the least entry alone may run, and only if ready; in locking mode the least ready entry runs
abbrev pub may_run : State → ℕ → Option ℕ
may_run s h =
    cond (locks (hall_at s h).mode)
    (least (in_turn h true) s.entries)
    (if_ready s.entries (least (in_turn h false) s.entries))

-- where no entry may run
abbrev pub work_else : Model → Scene → ℕ → Result Report Refusal × Scene
work_else m s h = refuse s NothingRuns

abbrev pub part_answer : Model → Scene → ℕ → Entry → Answer
part_answer m s h e = told m s.pages h e.operation

-- the hall's last becomes the greater of itself and the entry's stamp
abbrev pub raised : State → ℕ → ℕ → State
raised s h stamp = with_hall s h (with_last (hall_at s h) (max (hall_at s h).last stamp))

abbrev pub worked : Model → Scene → ℕ → ℕ → Entry → Scene
worked m s h place e =
    sending (scene (with_state s (leaving (raised s.world.state h e.stamp) h place)).world (turned m s.pages h e.operation))
    (reply_of e.transaction h e.stamp (status_number Commit) (part_answer m s h e) ∷ [])

abbrev pub work_entry : Model → Scene → ℕ → ℕ → Entry → Result Report Refusal × Scene
work_entry m s h place e =
    cond (lacks_room s.world 1) (refuse s NoRoom)
    (tell (worked m s h place e) Done e.transaction h e.stamp (part_answer m s h e))

abbrev pub work_on : Model → Scene → ℕ → Option ℕ → Result Report Refusal × Scene
work_on m s h None = work_else m s h
work_on m s h (Some place) = work_entry m s h place (entry_in s.world.state.entries place)

abbrev pub work_step : Model → Scene → ℕ → Result Report Refusal × Scene
work_step m s h =
    cond (short s.world) (refuse s ShortPost)
    (cond (nat_le s.world.state.opened h) (refuse s NotThere)
    (work_on m s h (may_run s.world.state h)))
