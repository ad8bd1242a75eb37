-- What the rows mean in which calls come, and what they told is written.
use Rattle.std.specs.Prelude.{ℕ, cond, List, [], ◌∷◌, map, ◌==◌, pos, Ok, Err, Result, replicate, slice_index_or}
use Rattle.std.specs.List.{slice_get}
use Rattle.std.specs.Option.{option_map_or}
use Rattle.book.specs.Model.{Model}
use Rattle.congress.specs.Outcomes.{outcome_number}
use Rattle.congress.specs.Refusals.{refusal_number}
use Rattle.congress.specs.Sending.{no_operation}
use Rattle.congress.specs.State.{Scene}
use Rattle.congress.specs.declared.outcomes.Report.{Report}
use Rattle.congress.specs.declared.refusals.Refusal.{Refusal}
use Rattle.measured.specs.declared.rows.CallRow.{CallRow}
use Rattle.measured.specs.declared.rows.OperationRow.{OperationRow}
use Rattle.measured.specs.declared.rows.PartsRow.{PartsRow}
use Rattle.measured.specs.declared.rows.ToldRow.{ToldRow}
use Rattle.order.specs.Conduct.{told}
use Rattle.order.specs.Runs.{step, Past}
use Rattle.order.specs.declared.calls.Call.{Call}
use Rattle.order.specs.declared.calls.Said.{Said}
use Rattle.records.specs.declared.Operation.{Operation}

abbrev pub operation_of : OperationRow → Operation
operation_of r = record { kind = r.kind; grant = r.grant; token = r.token; a = r.a; b = r.b; c = r.c; d = r.d }

-- stands for a row past the eight
abbrev pub no_operation_row : OperationRow
no_operation_row = record { token = 0; c = pos 0; a = 0; b = 0; d = 0; kind = 0; grant = 0 }

abbrev pub operation_at : PartsRow → ℕ → Operation
operation_at row h = operation_of (slice_index_or row.operations h no_operation_row)

-- what each of the eight halls is asked
abbrev pub operations_of : PartsRow → List Operation
operations_of row =
    operation_at row 0 ∷ operation_at row 1 ∷ operation_at row 2 ∷ operation_at row 3
    ∷ operation_at row 4 ∷ operation_at row 5 ∷ operation_at row 6 ∷ operation_at row 7 ∷ []

-- by the row of this number, and all zero where there is none
abbrev pub parts_at : List PartsRow → ℕ → List Operation
parts_at parts n = option_map_or operations_of (slice_get parts n) (replicate 8 no_operation)

-- by the kind: 0 Open, 1 Issue, 2 Deliver, 3 Work, 4 Clock, any other Drop
abbrev pub call_of : List PartsRow → CallRow → Call
call_of parts r =
    cond (r.kind == 0) (Call.Open r.at)
    (cond (r.kind == 1) (Call.Issue r.at r.class r.halls (parts_at parts r.number))
    (cond (r.kind == 2) (Call.Deliver r.number)
    (cond (r.kind == 3) (Call.Work r.at)
    (cond (r.kind == 4) (Call.Clock r.at r.number) (Call.Drop r.number)))))

abbrev pub nothing_row : ToldRow
nothing_row = record { stamp = 0; transaction = 0; value = pos 0; place = 0; kind = 0; number = 0; hall = 0; layer = 0; cause = 0 }

abbrev pub number_row : ℕ → ToldRow
number_row t = record { stamp = 0; transaction = t; value = pos 0; place = 0; kind = 1; number = 0; hall = 0; layer = 0; cause = 0 }

abbrev pub report_row : Report → ToldRow
report_row r = record {
  stamp = r.stamp;
  transaction = r.transaction;
  value = r.answer.value;
  place = r.answer.place;
  kind = 2;
  number = outcome_number r.outcome;
  hall = r.hall;
  layer = r.answer.layer;
  cause = r.answer.cause;
}

abbrev pub refusal_row : Refusal → ToldRow
refusal_row why = record { stamp = 0; transaction = 0; value = pos 0; place = 0; kind = 3; number = refusal_number why; hall = 0; layer = 0; cause = 0 }

abbrev pub row_of : Result Said Refusal → ToldRow
row_of (Ok Said.Nothing) = nothing_row
row_of (Ok (Said.Number t)) = number_row t
row_of (Ok (Said.Report r)) = report_row r
row_of (Err why) = refusal_row why

-- what the calls tell, as rows
abbrev pub rows_of : Model → List PartsRow → List CallRow → Past → List ToldRow
rows_of m parts calls g = map row_of (told m (map (call_of parts) calls) g)

-- the call of a row: the row of what it tells, and the congress, the post and the pages after it
abbrev pub row_step : Model → List PartsRow → CallRow → Scene → ToldRow × Scene
row_step m parts row s = (row_of (step m (call_of parts row) s).0, (step m (call_of parts row) s).1)
