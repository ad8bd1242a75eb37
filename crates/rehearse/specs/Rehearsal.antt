-- Where a rehearsal begins, and what its calls come to.
use Rattle.std.specs.Prelude.{ℕ, List, Result, replicate}
use Rattle.book.specs.Model.{Page, Model}
use Rattle.congress.specs.Sending.{no_operation}
use Rattle.congress.specs.State.{Scene, fresh, world, scene}
use Rattle.congress.specs.declared.refusals.Refusal.{Refusal}
use Rattle.order.specs.Conduct.{told}
use Rattle.order.specs.Runs.{Past, beginning, run}
use Rattle.order.specs.declared.calls.Call.{Call}
use Rattle.order.specs.declared.calls.Said.{Said}
use Rattle.records.specs.declared.messages.Message.{Message}

-- what stands in a post before the first call, which nobody reads
abbrev pub blank_message : Message
blank_message = Message.Request (record { transaction = 0; to = 0; class = 0; halls = 0; high = 0; operation = no_operation })

-- a congress that was not yet opened, with so many places in the post
abbrev pub first_scene : ℕ → (ℕ → Page) → Scene
first_scene places pages = scene (world (fresh 0) (replicate places blank_message)) pages

-- what the calls of a rehearsal tell, and what they come to
abbrev pub rehearsal_told : Model → ℕ → (ℕ → Page) → List Call → List (Result Said Refusal)
rehearsal_told m places pages calls = told m calls (beginning (first_scene places pages))

abbrev pub rehearsed : Model → ℕ → (ℕ → Page) → List Call → Past
rehearsed m places pages calls = run m calls (beginning (first_scene places pages))
