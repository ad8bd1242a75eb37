-- The numbers of the roll's refusals, and the fault of each.
use Rattle.std.specs.Prelude.{ℕ, cond, Some, None, Option, Ok, Err, Result, ◌==◌}
use Rattle.records.specs.Answers.{fault_at}
use Rattle.records.specs.declared.Answer.{Answer}
use Rattle.roll.specs.declared.refusals.Refusal.{Refusal}
use Rattle.roll.specs.declared.refusals.Refusal.TheVariants.{NotStanding, NotChief, NoEntry, NoToken}
use Rattle.roll.specs.declared.refusals.Refused.{Refused}

-- the number of each refusal
abbrev pub cause : Refusal → ℕ
cause NotStanding = 1
cause NotChief = 2
cause NoEntry = 3
cause NoToken = 4

abbrev pub refusal_of : ℕ → Option Refusal
refusal_of n =
    cond (n == 1) (Some NotStanding)
    (cond (n == 2) (Some NotChief)
    (cond (n == 3) (Some NoEntry)
    (cond (n == 4) (Some NoToken) None)))

abbrev pub refused : Refused → Answer
refused r = fault_at 3 (cause r.why) r.place

-- the answer to an operation: what is said to it, or why it is refused
abbrev pub answered : Result Answer Refused → Answer
answered (Ok answer) = answer
answered (Err r) = refused r
