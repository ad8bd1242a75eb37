-- What is written of calls that are made at a congress not yet opened: what each told, and the pages after them.
use Rattle.std.specs.Prelude.{◌≡◌, ℕ, ◌<◌, ◌/◌, ◌%◌, List, length, map, replicate, ℤ, pos, unwrap_or}
use Rattle.book.specs.Below.{table}
use Rattle.book.specs.Model.{Page, Model, number_at}
use Rattle.congress.specs.Sending.{no_operation}
use Rattle.congress.specs.State.{Scene, fresh, world, scene}
use Rattle.measured.specs.Rows.{call_of, rows_of}
use Rattle.measured.specs.declared.rows.CallRow.{CallRow}
use Rattle.measured.specs.declared.rows.PartsRow.{PartsRow}
use Rattle.measured.specs.declared.rows.ToldRow.{ToldRow}
use Rattle.order.specs.Runs.{beginning, run}
use Rattle.records.specs.declared.messages.Message.{Message}
use Rattle.std.proofs.lemmas.List.Edits.{sets}

-- 512 places for each hall; 0 where its page has no number
abbrev pub number_in : (ℕ → Page) → ℕ → ℤ
number_in pages i = unwrap_or (number_at pages (i / 512) (i % 512)) (pos 0)

-- what stands in a post before the first call, which nobody reads
abbrev pub blank_message : Message
blank_message = Message.Request (record { transaction = 0; to = 0; class = 0; halls = 0; high = 0; operation = no_operation })

-- a congress that was not yet opened, with 1,024 places in the post
abbrev pub first_scene : (ℕ → Page) → Scene
first_scene pages = scene (world (fresh 0) (replicate 1024 blank_message)) pages

-- what is written where the calls are made over a book with these pages
pub record Made (m : Model) (before : ℕ → Page) (parts : List PartsRow) (calls : List CallRow) (told told' : List ToldRow) (pages pages' : List ℤ) : Type 0 where
  pub rows : told' ≡ sets told 0 (rows_of m parts calls (beginning (first_scene before)))
  pub numbers : pages' ≡ sets pages 0 (table (length pages) (number_in (run m (map (call_of parts) calls) (beginning (first_scene before))).now.pages))

-- and over a new book, with this page at each of the eight halls
pub record Measured (m : Model) (first : Page) (parts : List PartsRow) (calls : List CallRow) (told told' : List ToldRow) (pages pages' : List ℤ) : Type 0 where
  pub before : ℕ → Page
  pub new : (h : ℕ) → h < 8 → before h ≡ first
  pub made : Made m before parts calls told told' pages pages'

-- nothing is written
pub record Untouched (told told' : List ToldRow) (pages pages' : List ℤ) : Type 0 where
  pub rows : told' ≡ told
  pub numbers : pages' ≡ pages
