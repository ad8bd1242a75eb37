-- The turns of the loops: one call more is made and written, one number more is written.
use Rattle.std.proofs.Common.{◌≡◌, ℕ, ◌+◌, ◌<◌, ◌≤◌, List, [], ◌∷◌, ◌++◌, length, map, take, get_or, set, Result, refl, sym, ap, ◌∙◌, arith}
use Rattle.book.proofs.Below.{length-table}
use Rattle.book.specs.Below.{table}
use Rattle.book.specs.Model.{Model}
use Rattle.congress.proofs.Sent.{sets_push}
use Rattle.congress.specs.State.{Scene}
use Rattle.congress.specs.declared.refusals.Refusal.{Refusal}
use Rattle.measured.specs.Rows.{call_of, row_of, rows_of}
use Rattle.measured.specs.declared.rows.CallRow.{CallRow}
use Rattle.measured.specs.declared.rows.PartsRow.{PartsRow}
use Rattle.measured.specs.declared.rows.ToldRow.{ToldRow}
use Rattle.order.proofs.Conducted.{run_push, told_push, told_length}
use Rattle.order.specs.Conduct.{told}
use Rattle.order.specs.Runs.{step, Past, run}
use Rattle.order.specs.declared.calls.Call.{Call}
use Rattle.order.specs.declared.calls.Said.{Said}
use Rattle.std.proofs.lemmas.List.{take_more, length-map, length-take-le, map-append}
use Rattle.std.proofs.lemmas.List.Edits.{sets}
use Rattle.std.proofs.lemmas.List.FromFn.{map-range_with_len_more}

module _ (m : Model) (parts : List PartsRow) (calls : List CallRow) (g : Past) (i : ℕ) (inside : i < length calls) (d : CallRow) where
  abbrev made : List Call
  made = map (call_of parts) (take i calls)

  abbrev now : Call
  now = call_of parts (get_or calls i d)

  next : map (call_of parts) (take (i + 1) calls) ≡ made ++ now ∷ []
  next = ap (map (call_of parts)) (take_more calls i d inside) ∙ map-append (call_of parts) (take i calls) (get_or calls i d ∷ [])

  pub makes_on : (before : Scene) → before ≡ (run m made g).now → (step m now before).1 ≡ (run m (map (call_of parts) (take (i + 1) calls)) g).now
  makes_on before is =
      ap (λ (s : Scene). (step m now s).1) is
      ∙ sym (ap (λ (l : List Call). (run m l g).now) next ∙ ap (λ (p : Past). p.now) (run_push m made now g))

  rows_next : rows_of m parts (take (i + 1) calls) g ≡ rows_of m parts (take i calls) g ++ row_of (step m now (run m made g).now).0 ∷ []
  rows_next =
      ap (λ (l : List Call). map row_of (told m l g)) next
      ∙ ap (map row_of) (told_push m made now g)
      ∙ map-append row_of (told m made g) ((step m now (run m made g).now).0 ∷ [])

  as_many : length (rows_of m parts (take i calls) g) ≡ i
  as_many =
      length-map (told m made g) row_of ∙ told_length m made g
      ∙ length-map (take i calls) (call_of parts) ∙ length-take-le i calls (omega arith)

  pub writes_on : (before : Scene) (first rows : List ToldRow) → before ≡ (run m made g).now → rows ≡ sets first 0 (rows_of m parts (take i calls) g)
      → set rows i (row_of (step m now before).0) ≡ sets first 0 (rows_of m parts (take (i + 1) calls) g)
  writes_on before first rows is so =
      let place : i ≡ 0 + length (rows_of m parts (take i calls) g) = omega (arith, as_many) in
      let row : ToldRow = row_of (step m now (run m made g).now).0 in
      ap (λ (l : List ToldRow). set l i (row_of (step m now before).0)) so
      ∙ ap (λ (s : Scene). set (sets first 0 (rows_of m parts (take i calls) g)) i (row_of (step m now s).0)) is
      ∙ ap (λ (k : ℕ). set (sets first 0 (rows_of m parts (take i calls) g)) k row) place
      ∙ sym (sets_push first 0 (rows_of m parts (take i calls) g) row)
      ∙ ap (sets first 0) (sym rows_next)

module _ {X : Type 0} (f : ℕ → X) where
  table_more : (i : ℕ) → table (i + 1) f ≡ table i f ++ f i ∷ []
  unfolding table
  table_more i = map-range_with_len_more f 0 i i (omega arith)

  pub numbers_on : (first now : List X) (i : ℕ) → now ≡ sets first 0 (table i f) → set now i (f i) ≡ sets first 0 (table (i + 1) f)
  numbers_on first now i is =
      let place : i ≡ 0 + length (table i f) = omega (arith, length-table i f) in
      ap (λ (l : List X). set l i (f i)) is
      ∙ ap (λ (k : ℕ). set (sets first 0 (table i f)) k (f i)) place
      ∙ sym (sets_push first 0 (table i f) (f i))
      ∙ ap (sets first 0) (sym (table_more i))

  pub no_numbers : (first : List X) → first ≡ sets first 0 (table 0 f)
  unfolding table
  no_numbers first = refl
