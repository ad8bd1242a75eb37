-- An operation in words.
use Rattle.std.specs.Prelude.{ℕ, suc, List, [], ◌∷◌, ℤ, pos, Some, None, Ok, Err, unsigned_abs}
use Rattle.entries.specs.Reading.{close_kind, total_kind, given, entry}
use Rattle.entries.specs.Words.{first_word, past_word}
use Rattle.entries.specs.declared.Bearer.{Bearer}
use Rattle.entries.specs.declared.Field.{Field}
use Rattle.entries.specs.declared.Game.{Game}
use Rattle.entries.specs.declared.commands.Command.{Command}
use Rattle.records.specs.declared.Operation.{Operation}
use Rattle.script.specs.Words.{Reader, and_then, misread, fields}
use Rattle.script.specs.declared.Settings.{Settings}
use Rattle.script.specs.declared.expected.Expected.{Expected}

-- an operation of the bearer that asks nothing yet
abbrev pub signed : Bearer → Operation
signed bearer = record { kind = 0; grant = bearer.grant; token = bearer.token; a = 0; b = 0; c = pos 0; d = 0 }

-- fields, and the operation that they make
abbrev pub asking : List Field → (List ℤ → Operation) → Reader Operation
asking fs make place line = and_then (fields fs place line) (λ r. Ok (make r.0, r.1, r.2))

abbrev pub number_at : List ℤ → ℕ → ℕ
number_at zs i = unsigned_abs (given zs i)

-- the readers of operations by their first words; what is not given is that of the signed operation
abbrev pub about : ℕ → Operation → Reader Operation
about kind o = asking (Field.Number ∷ []) (λ zs. record o { kind = kind; a = number_at zs 0 })

abbrev pub appointment : Operation → Reader Operation
appointment o = asking (Field.Number ∷ Field.Count ∷ []) (λ zs. record o { kind = 1; a = number_at zs 0; c = given zs 1 })

abbrev pub seating : Operation → Reader Operation
seating o = asking (Field.Number ∷ Field.Number ∷ Field.Count ∷ []) (λ zs. record o { kind = 16; a = number_at zs 0; b = number_at zs 1; c = given zs 2 })

abbrev pub outcome : Operation → Reader Operation
outcome o = asking (Field.Number ∷ Field.Number ∷ Field.Score ∷ []) (λ zs. record o { kind = 17; a = number_at zs 0; b = number_at zs 1; c = given zs 2 })

abbrev pub score : Operation → Reader Operation
score o = asking (Field.Number ∷ Field.Number ∷ Field.Number ∷ Field.Whole ∷ []) (λ zs. record o { kind = 32; a = number_at zs 0; b = number_at zs 1; d = number_at zs 2; c = given zs 3 })

abbrev pub score_line : Operation → Reader Operation
score_line o = asking (Field.Number ∷ Field.Number ∷ []) (λ zs. record o { kind = 33; a = number_at zs 0; b = number_at zs 1 })

-- all seven numbers
abbrev pub any : Reader Operation
any =
    asking (Field.Byte ∷ Field.Byte ∷ Field.Token ∷ Field.Number ∷ Field.Number ∷ Field.Whole ∷ Field.Number ∷ []) (λ zs. record {
      kind = number_at zs 0;
      grant = number_at zs 1;
      token = number_at zs 2;
      a = number_at zs 3;
      b = number_at zs 4;
      c = given zs 5;
      d = number_at zs 6;
    })

abbrev pub operation_after : Game → Operation → Command → Reader Operation
operation_after game o Command.Appoint = appointment o
operation_after game o Command.Remove = about 2 o
operation_after game o Command.Deputy = about 3 o
operation_after game o Command.Seat = seating o
operation_after game o Command.Result = outcome o
operation_after game o Command.Show = about 18 o
operation_after game o Command.Score = score o
operation_after game o Command.Line = score_line o
operation_after game o Command.Close = about (close_kind game) o
operation_after game o Command.Total = about (total_kind game) o
operation_after game o Command.Op = any

abbrev pub operation : Settings → Reader Operation
operation at place line =
    elim (entry (first_word line)) [
      | None ↦ Err (misread place Expected.Operation)
      | Some c ↦ operation_after at.game (signed at.bearer) c (suc place) (past_word line)
    ]
