-- The state of a congress, and with it the caller's post.
use Rattle.std.specs.Prelude.{ℕ, List, take}
use Rattle.book.specs.Model.{Page}
use Rattle.congress.specs.State.{State, World, world, Scene, scene}
use Rattle.congress.specs.declared.state.Congress.{Congress}
use Rattle.records.specs.declared.messages.Message.{Message}

abbrev pub state : Congress → State
state c = record { opened = c.opened; halls = c.halls; consoles = c.consoles; entries = take c.waiting c.queue; count = c.count }

abbrev pub with_post : Congress → List Message → World
with_post c post = world (state c) post

-- and with the pages of the book
abbrev pub scene_of : Congress → List Message → (ℕ → Page) → Scene
scene_of c post pages = scene (with_post c post) pages
