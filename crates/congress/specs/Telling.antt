-- What Deliver and Work tell, beside what they leave.
use Rattle.std.specs.Prelude.{ℕ, Ok, Err, Result}
use Rattle.congress.specs.Sending.{no_answer}
use Rattle.congress.specs.State.{Scene}
use Rattle.congress.specs.declared.outcomes.Outcome.{Outcome}
use Rattle.congress.specs.declared.outcomes.Outcome.TheVariants.{PassedOver}
use Rattle.congress.specs.declared.outcomes.Report.{Report}
use Rattle.congress.specs.declared.refusals.Refusal.{Refusal}
use Rattle.records.specs.declared.Answer.{Answer}

-- a refusal leaves all as it was
abbrev pub refuse : Scene → Refusal → Result Report Refusal × Scene
refuse s why = (Err why, s)

-- outcome, transaction, hall, stamp, answer
abbrev pub tell : Scene → Outcome → ℕ → ℕ → ℕ → Answer → Result Report Refusal × Scene
tell s outcome transaction hall stamp answer =
    (Ok (record { outcome = outcome; transaction = transaction; hall = hall; stamp = stamp; answer = answer }), s)

-- outcome 0, and all else zero
abbrev pub pass_over : Scene → Result Report Refusal × Scene
pass_over s = tell s PassedOver 0 0 0 no_answer
