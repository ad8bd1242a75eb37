-- The answers of a book of rounds have their shape.
use Rattle.std.proofs.Common.{◌≡◌, ℕ, false, ℤ, is_ok, Ok, Err, Result, refl, arith}
use Rattle.records.specs.Answers.{Shaped, well_done}
use Rattle.rounds.specs.Faults.{fault_number, answered}
use Rattle.rounds.specs.declared.Fault.{Fault}
use Rattle.rounds.specs.declared.Fault.TheVariants.{NoPlace, NoParty, HasResult, Nothing, OtherRound, BadResult, NotClosable, Elsewhere, UnknownKind}
use Rattle.std.proofs.lemmas.Bool.{true≢false}

cause_not_zero : (f : Fault) → fault_number f ≡ 0 → ⊥
cause_not_zero NoPlace e = omega arith
cause_not_zero NoParty e = omega arith
cause_not_zero HasResult e = omega arith
cause_not_zero Nothing e = omega arith
cause_not_zero OtherRound e = omega arith
cause_not_zero BadResult e = omega arith
cause_not_zero NotClosable e = omega arith
cause_not_zero Elsewhere e = omega arith
cause_not_zero UnknownKind e = omega arith

pub answered_shaped : (layer : ℕ) (r : Result ℤ Fault) (a : ℕ) → Shaped (answered layer r a)
answered_shaped layer (Ok value) a = record { done = λ _. refl; fault = λ not_zero. absurd (not_zero refl) }
answered_shaped layer (Err f) a = record { done = λ e. absurd (cause_not_zero f e); fault = λ _. refl }

-- where the answer is a fault, nothing was said to be well done
pub fault_not_ok : (layer : ℕ) (r : Result ℤ Fault) (a : ℕ) → well_done (answered layer r a) ≡ false → is_ok r ≡ false
fault_not_ok layer (Ok value) a h = absurd (true≢false h)
fault_not_ok layer (Err f) a h = refl
