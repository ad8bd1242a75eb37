-- What a congress means: its tables as lists, of the queue only the entries that wait.
use Rattle.std.specs.Prelude.{ℕ, ◌+◌, min, Bool, false, List, [], length, take, replicate, nat_lt, slice_index_or, slice_set}
use Rattle.std.proofs.lemmas.List.Edits.{sets}
use Rattle.book.specs.Model.{Page}
use Rattle.congress.specs.declared.tables.Console.{Console}
use Rattle.congress.specs.declared.tables.Entry.{Entry}
use Rattle.congress.specs.declared.tables.Hall.{Hall}
use Rattle.congress.specs.declared.tables.Mode.TheVariants.{Timestamp}
use Rattle.records.specs.declared.messages.Message.{Message}

pub record State : Type 0 where
  pub opened : ℕ
  pub halls : List Hall
  pub consoles : List Console
  pub entries : List Entry
  pub count : ℕ

-- one setter for each table
abbrev pub with_halls : State → List Hall → State
with_halls s halls = record { opened = s.opened; halls = halls; consoles = s.consoles; entries = s.entries; count = s.count }

abbrev pub with_consoles : State → List Console → State
with_consoles s consoles = record { opened = s.opened; halls = s.halls; consoles = consoles; entries = s.entries; count = s.count }

abbrev pub with_entries : State → List Entry → State
with_entries s entries = record { opened = s.opened; halls = s.halls; consoles = s.consoles; entries = entries; count = s.count }

abbrev pub with_count : State → ℕ → State
with_count s count = record { opened = s.opened; halls = s.halls; consoles = s.consoles; entries = s.entries; count = count }

-- these stand for places past a table; a console is so at first
abbrev pub no_hall : Hall
no_hall = record { clock = 0; last = 0; mode = Timestamp; taken = [] }

abbrev pub no_console : Console
no_console = record { busy = false; sequence = 0; halls = 0; replied = 0; high = 0 }

abbrev pub hall_at : State → ℕ → Hall
hall_at s h = slice_index_or s.halls h no_hall

abbrev pub console_at : State → ℕ → Console
console_at s k = slice_index_or s.consoles k no_console

abbrev pub with_hall : State → ℕ → Hall → State
with_hall s h x = with_halls s (slice_set s.halls h x)

abbrev pub with_console : State → ℕ → Console → State
with_console s k x = with_consoles s (slice_set s.consoles k x)

-- at first everything is 0, in timestamp mode, with nothing waiting and nothing in the post
unfoldable pub new_hall : Hall
new_hall = record { clock = 0; last = 0; mode = Timestamp; taken = replicate 16 0 }

unfoldable pub new_halls : List Hall
new_halls = replicate 8 new_hall

unfoldable pub new_consoles : List Console
new_consoles = replicate 16 no_console

abbrev pub fresh : ℕ → State
fresh number = record { opened = number; halls = new_halls; consoles = new_consoles; entries = []; count = 0 }

-- a congress with its post
pub record World : Type 0 where
  pub state : State
  pub post : List Message

abbrev pub world : State → List Message → World
world s post = record { state = s; post = post }

-- the post is shorter than the count of its messages
abbrev pub short : World → Bool
short w = nat_lt (length w.post) w.state.count

-- it lacks places for n more: at most its first 1,024 are used
abbrev pub lacks_room : World → ℕ → Bool
lacks_room w n = nat_lt (min (length w.post) 1024) (w.state.count + n)

-- the messages in the post
abbrev pub messages : World → List Message
messages w = take w.state.count w.post

-- new messages follow the last; all other places stay
abbrev pub posting : World → List Message → World
posting w new = world (with_count w.state (w.state.count + length new)) (sets w.post w.state.count new)

-- a congress with its post and the pages of its book
pub record Scene : Type 0 where
  pub world : World
  pub pages : ℕ → Page

abbrev pub scene : World → (ℕ → Page) → Scene
scene w pages = record { world = w; pages = pages }

abbrev pub with_state : Scene → State → Scene
with_state s state = scene (world state s.world.post) s.pages

abbrev pub sending : Scene → List Message → Scene
sending s new = scene (posting s.world new) s.pages
