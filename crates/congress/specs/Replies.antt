-- Deliver, of a reply.
use Rattle.std.specs.Prelude.{ℕ, ◌^◌, max, Bool, cond, not, ◌&&◌, Result, ◌==◌, bit_and, bit_or}
use Rattle.congress.specs.State.{Scene, console_at, with_console, with_state}
use Rattle.congress.specs.Tables.{with_reply}
use Rattle.congress.specs.Telling.{tell, pass_over}
use Rattle.congress.specs.declared.outcomes.Outcome.TheVariants.{Replied, Confirmed, Freed}
use Rattle.congress.specs.declared.outcomes.Outcome.{Outcome}
use Rattle.congress.specs.declared.outcomes.Report.{Report}
use Rattle.congress.specs.declared.refusals.Refusal.{Refusal}
use Rattle.congress.specs.declared.tables.Console.{Console}
use Rattle.records.specs.Classes.{status_number}
use Rattle.records.specs.Halls.{names}
use Rattle.records.specs.Transactions.{console, sequence}
use Rattle.records.specs.declared.classes.Status.TheVariants.{Commit}
use Rattle.records.specs.declared.messages.Reply.{Reply}

abbrev pub console_of : Scene → Reply → Console
console_of s r = console_at s.world.state (console r.transaction)

-- a console waits for a reply of its open transaction, from a named hall that has not replied
abbrev pub awaits : Console → Reply → Bool
awaits c r =
    c.busy && (c.sequence == sequence r.transaction && (names c.halls r.from && not (names c.replied r.from)))

abbrev pub replies : Console → Reply → ℕ
replies c r = bit_or c.replied (2 ^ r.from)

-- with this one every named hall has replied
abbrev pub complete : Console → Reply → Bool
complete c r = bit_and (replies c r) c.halls == c.halls

-- conflict and abort end the transaction, and so does the last commit
abbrev pub outcome_of : Console → Reply → Outcome
outcome_of c r = cond (r.status == status_number Commit) (cond (complete c r) Confirmed Replied) Freed

abbrev pub still_busy : Console → Reply → Bool
still_busy c r = r.status == status_number Commit && not (complete c r)

-- every reply that is taken raises the console's high
abbrev pub answered : Console → Reply → Console
answered c r = with_reply c (still_busy c r) (replies c r) (max c.high r.stamp)

abbrev pub reply_step : Scene → Reply → Result Report Refusal × Scene
reply_step s r =
    cond (awaits (console_of s r) r)
    (tell (with_state s (with_console s.world.state (console r.transaction) (answered (console_of s r) r)))
    (outcome_of (console_of s r) r) r.transaction r.from r.stamp r.answer)
    (pass_over s)
