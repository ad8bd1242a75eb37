-- What is promised of the calls that a program makes.
use Rattle.std.specs.Prelude.{◌≡◌, ℕ, ◌≤◌, List, [], ◌∷◌, ◌++◌, length, take, Result}
use Rattle.book.specs.Model.{Model}
use Rattle.congress.specs.State.{Scene}
use Rattle.congress.specs.declared.refusals.Refusal.{Refusal}
use Rattle.order.specs.Promises.{OneOrder, AllOrNone, ConfirmedIsDone, KeepsWell}
use Rattle.order.specs.Removal.{RemovalHolds}
use Rattle.order.specs.Runs.{step, Past, beginning, one_call, run}
use Rattle.order.specs.declared.calls.Call.{Call}
use Rattle.order.specs.declared.calls.Said.{Said}
use Rattle.roll.specs.Over.{IsRoll}

-- what each call of a list tells
abbrev pub told : Model → List Call → Past → List (Result Said Refusal)
told m [] g = []
told m (call ∷ calls) g = (step m call g.now).0 ∷ told m calls (one_call m call g)

-- All that is promised after a call.
pub record Promised (m : Model) (g : Past) : Type 0 where
  pub one_order : OneOrder m g
  pub all_or_none : AllOrNone g
  pub confirmed_is_done : ConfirmedIsDone g
  pub keeps_well : KeepsWell g
  -- where the book is a roll of deputies over some book
  pub removal : IsRoll m → RemovalHolds g

-- a list that begins with an Open that is not refused
pub record BeginsWithOpen (calls : List Call) : Type 0 where
  pub halls : ℕ
  pub rest : List Call
  pub is : calls ≡ Call.Open halls ∷ rest
  pub some : 1 ≤ halls
  pub few : halls ≤ 8

-- P holds after each call of a list, the refused ones too
abbrev pub AfterEach : Model → List Call → Scene → (Past → Type 0) → Type 0
AfterEach m calls s P = (k : ℕ) → 1 ≤ k → k ≤ length calls → P (run m (take k calls) (beginning s))

-- Calls that go on where others ended: wherever a list of calls has led to the congress, post and pages before these, the list with
-- these leads to those after them, and after each of them all is promised, if the first call of all is an Open that is not refused.
abbrev pub LeadsOn : Model → List Call → Scene → Scene → Type 0
LeadsOn m calls before after =
    (s : Scene) (past : List Call) → ((h : ℕ) → m.own (s.pages h)) → (run m past (beginning s)).now ≡ before
    → ((run m (past ++ calls) (beginning s)).now ≡ after)
    × ((k : ℕ) → k ≤ length calls → BeginsWithOpen (past ++ take k calls) → Promised m (run m (past ++ take k calls) (beginning s)))
