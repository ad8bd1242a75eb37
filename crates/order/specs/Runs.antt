-- What a list of calls comes to.
use Rattle.std.specs.Prelude.{ℕ, cond, ◌&&◌, List, [], ◌∷◌, ◌++◌, Ok, Err, Result}
use Rattle.book.specs.Model.{Model}
use Rattle.congress.specs.Calls.{open_step, issue_step, clock_step, drop_step}
use Rattle.congress.specs.Deliver.{deliver_step}
use Rattle.congress.specs.Outcomes.{outcome_number}
use Rattle.congress.specs.State.{Scene, scene, with_state}
use Rattle.congress.specs.Work.{work_step}
use Rattle.congress.specs.declared.outcomes.Report.{Report}
use Rattle.congress.specs.declared.refusals.Refusal.{Refusal}
use Rattle.order.specs.History.{Issued, issue_of, part_given, does, History, new_history, noted}
use Rattle.order.specs.declared.calls.Call.{Call}
use Rattle.order.specs.declared.calls.Said.TheVariants.{Nothing, Number}
use Rattle.order.specs.declared.calls.Said.{Said}
use Rattle.records.specs.Answers.{well_done}
use Rattle.records.specs.declared.Operation.{Operation}

abbrev pub nothing : Unit {0} → Said
nothing done = Nothing

abbrev pub saying : {A : Type 0} → (A → Said) → Result A Refusal → Result Said Refusal
saying f (Ok answer) = Ok (f answer)
saying f (Err why) = Err why

-- a call: what it tells, and the congress, the post and the pages after it
abbrev pub step : Model → Call → Scene → Result Said Refusal × Scene
step m (Call.Open halls) s =
    (saying nothing (open_step s.world.state halls).0, with_state s (open_step s.world.state halls).1)
step m (Call.Issue console class halls operations) s =
    (saying Number (issue_step s.world console class halls operations).0, scene (issue_step s.world console class halls operations).1 s.pages)
step m (Call.Deliver place) s = (saying Said.Report (deliver_step m s place).0, (deliver_step m s place).1)
step m (Call.Work hall) s = (saying Said.Report (work_step m s hall).0, (work_step m s hall).1)
step m (Call.Clock hall time) s =
    (saying nothing (clock_step s.world.state hall time).0, with_state s (clock_step s.world.state hall time).1)
step m (Call.Drop place) s = (saying nothing (drop_step s.world place).0, scene (drop_step s.world place).1 s.pages)

-- a part that was well done at a hall
pub record Act : Type 0 where
  pub hall : ℕ
  pub operation : Operation

abbrev pub acts_reported : List Issued → Report → List Act
acts_reported issues r =
    cond (does (outcome_number r.outcome) && well_done r.answer)
    (record { hall = r.hall; operation = part_given (issue_of r.transaction issues) r.hall } ∷ [])
    []

abbrev pub acts_said : List Issued → Said → List Act
acts_said issues Nothing = []
acts_said issues (Number t) = []
acts_said issues (Said.Report r) = acts_reported issues r

abbrev pub acts_of : List Issued → Result Said Refusal → List Act
acts_of issues (Ok said) = acts_said issues said
acts_of issues (Err why) = []

-- what a list of calls has come to: the congress with its post and pages now, the history since the last Open, and over all
-- histories the parts that were well done, the latest first
pub record Past : Type 0 where
  pub now : Scene
  pub history : History
  pub acts : List Act

-- before the first call of a list, which is to be an Open
abbrev pub beginning : Scene → Past
beginning s = record { now = s; history = new_history s.pages; acts = [] }

-- one call more, refused or not
abbrev pub one_call : Model → Call → Past → Past
one_call m call g = record {
  now = (step m call g.now).1;
  history = noted g.history g.now.pages call (step m call g.now).0;
  acts = acts_of g.history.issues (step m call g.now).0 ++ g.acts;
}

abbrev pub run : Model → List Call → Past → Past
run m [] g = g
run m (call ∷ calls) g = run m calls (one_call m call g)
