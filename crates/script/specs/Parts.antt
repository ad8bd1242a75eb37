-- The parts of an issue: the operations of its halls.
use Rattle.std.specs.Prelude.{ℕ, zero, suc, cond, List, pos, Ok, Err, codes, Result, length, replicate, slice_set, ◌==◌}
use Rattle.std.specs.Str.{bytes_eq}
use Rattle.entries.specs.Words.{first_word, past_word}
use Rattle.records.specs.declared.Operation.{Operation}
use Rattle.script.specs.Operations.{operation}
use Rattle.script.specs.Words.{and_then, misread, hall_word}
use Rattle.script.specs.declared.Settings.{Settings}
use Rattle.script.specs.declared.expected.Expected.{Expected}
use Rattle.script.specs.declared.expected.Misread.{Misread}

-- the operations of the halls with one part more, whose first word stands at this place; the line is what follows it
abbrev pub with_part : Settings → List Operation → List ℕ → ℕ → List ℕ → Result (List Operation × ℕ × List ℕ) Misread
with_part at operations first place line =
    cond (bytes_eq first (codes "at"))
    (and_then (hall_word (suc place) line) (λ h.
    and_then (operation at h.1 h.2) (λ o. Ok (slice_set operations h.0 o.0, o.1, o.2))))
    (cond (bytes_eq first (codes "all"))
    (and_then (operation at (suc place) line) (λ o. Ok (replicate 8 o.0, o.1, o.2)))
    (Err (misread place Expected.Part)))

-- the first n parts, or those up to the end of the line
unfoldable pub parts : ℕ → Settings → List Operation → ℕ → List ℕ → Result (List Operation) Misread
parts zero at operations place line = Ok operations
parts (suc n) at operations place line =
    cond (length (first_word line) == 0) (Ok operations)
    (and_then (with_part at operations (first_word line) place (past_word line)) (λ r. parts n at r.0 r.1 r.2))

-- an operation of seven zeros
abbrev pub no_operation : Operation
no_operation = record { kind = 0; grant = 0; token = 0; a = 0; b = 0; c = pos 0; d = 0 }

-- a line has no more parts than bytes
abbrev pub all_parts : Settings → ℕ → List ℕ → Result (List Operation) Misread
all_parts at place line = parts (length line) at (replicate 8 no_operation) place line
