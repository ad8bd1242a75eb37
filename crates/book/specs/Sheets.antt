-- A book that keeps a sheet for each hall: what its operations mean on a sheet, and how a sheet is written on a page.
use Rattle.std.specs.Prelude.{◌≡◌, ℕ}
use Rattle.book.specs.Model.{Page, Model}
use Rattle.records.specs.declared.Answer.{Answer}
use Rattle.records.specs.declared.Operation.{Operation}

pub record Sheets (S : Type 0) : Type 0 where
  pub layer : ℕ
  pub write : S → Page
  pub read : Page → S
  pub keys : Operation → ℕ
  pub answer : S → Operation → Answer
  pub after : S → Operation → S

-- a page is the book's own if it is the writing of the sheet that is read from it
abbrev pub sheet_model : {S : Type 0} → Sheets S → Model
sheet_model b = record {
  layer = b.layer;
  own = λ p. b.write (b.read p) ≡ p;
  keys = b.keys;
  answer = λ p o. b.answer (b.read p) o;
  next = λ p o. b.write (b.after (b.read p) o);
}
