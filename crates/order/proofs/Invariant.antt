-- What every call keeps, of a lawful book.
use Rattle.std.proofs.Common.{◌≡◌, ℕ, ◌≤◌, Bool, true, ◌⊎◌, List, get_or, Some}
use Rattle.book.specs.Apart.{Apart}
use Rattle.book.specs.Model.{Page, Model}
use Rattle.congress.specs.Kept.{locks}
use Rattle.congress.specs.Sending.{no_operation}
use Rattle.congress.specs.State.{State, Scene, hall_at, console_at, messages}
use Rattle.congress.specs.declared.tables.Entry.{Entry}
use Rattle.order.proofs.Plain.{AfterOrApart}
use Rattle.order.specs.History.{Issued, Fallen, History, issue_of}
use Rattle.order.specs.Plain.{Part, at_hall, PlainOrder}
use Rattle.order.specs.Promises.{◌∈◌, Once}
use Rattle.records.specs.Answers.{well_done}
use Rattle.records.specs.Classes.{class_number}
use Rattle.records.specs.Halls.{names}
use Rattle.records.specs.Transactions.{console, sequence}
use Rattle.records.specs.declared.Operation.{Operation}
use Rattle.records.specs.declared.classes.Class.TheVariants.{Coordinated}
use Rattle.records.specs.declared.messages.Message.{Message}
use Rattle.records.specs.declared.messages.Message.TheVariants.{Request as request, Vote as vote, Reply as reply}
use Rattle.records.specs.declared.messages.Vote.{Vote}

-- What a hall has said of a transaction since the Open, once it took its request. No field of the congress holds this.
pub data Saying : Type 0 where
  silent : Saying
  agreed : ℕ → Saying
  denied : Saying

-- by transaction, then hall
abbrev pub Sayings : Type 0
Sayings = ℕ → ℕ → Saying

-- a part at hall h is that of an issued transaction, as it was issued; the class is a number
pub record Meant (issues : List Issued) (t class halls h : ℕ) (operation : Operation) : Type 0 where
  pub issue : Issued
  pub found : issue_of t issues ≡ Some issue
  pub class_is : class ≡ issue.class
  pub halls_is : halls ≡ issue.halls
  pub operation_is : operation ≡ get_or issue.operations h no_operation
  pub named : names halls h ≡ true
  pub alone : class ≡ 1 → (k : ℕ) → names halls k ≡ true → k ≡ h

-- what a vote says is what its hall said
pub record TrueVote (said : Sayings) (v : Vote) : Type 0 where
  pub commit : v.status ≡ 1 → said v.transaction v.from ≡ agreed v.stamp
  pub other : (v.status ≡ 1 → ⊥) → said v.transaction v.from ≡ denied

-- a request in the post is one that was issued, and a vote in it is true
abbrev pub Genuine : Sayings → List Issued → Message → Type 0
Genuine said issues (request r) = Meant issues r.transaction r.class r.halls r.to r.operation
Genuine said issues (vote v) = TrueVote said v
Genuine said issues (reply r) = Unit {0}

-- hall k agreed to transaction t, with a stamp up to n
abbrev pub AgreedBy : Sayings → ℕ → ℕ → ℕ → Type 0
AgreedBy said t n k = (s : ℕ) × (said t k ≡ agreed s) × (s ≤ n)

-- one of these halls agreed with stamp n
abbrev pub Topped : Sayings → ℕ → ℕ → ℕ → Type 0
Topped said t n halls = (k : ℕ) × (names halls k ≡ true) × (said t k ≡ agreed n)

-- whence an entry's stamp comes
abbrev pub Stamped : Sayings → Entry → Type 0
Stamped said e = Topped said e.transaction e.stamp e.halls

-- an entry's stamp is the greatest of the stamps that it has counted
pub record Counted (said : Sayings) (issues : List Issued) (e : Entry) : Type 0 where
  pub meant : Meant issues e.transaction (class_number e.class) e.halls e.hall e.operation
  pub voted : (k : ℕ) → names e.votes k ≡ true → AgreedBy said e.transaction e.stamp k
  pub stamped : Stamped said e

-- a part done: all named halls agreed, and its stamp is the greatest of theirs
pub record Agreed (said : Sayings) (issues : List Issued) (x : Part) : Type 0 where
  pub issue : Issued
  pub found : issue_of x.transaction issues ≡ Some issue
  pub here : names issue.halls x.hall ≡ true
  pub all : (k : ℕ) → names issue.halls k ≡ true → AgreedBy said x.transaction x.stamp k
  pub topped : Topped said x.transaction x.stamp issue.halls

-- a part fallen: a named hall denied it
pub record Denied (said : Sayings) (issues : List Issued) (f : Fallen) : Type 0 where
  pub issue : Issued
  pub found : issue_of f.transaction issues ≡ Some issue
  pub by : (k : ℕ) × (names issue.halls k ≡ true) × (said f.transaction k ≡ denied)

-- what has been said and written is of one piece
pub record ToldTrue (said : Sayings) (issues : List Issued) (post : List Message) (entries : List Entry) (done : List Part) (fallen : List Fallen) : Type 0 where
  pub posted : (x : Message) → x ∈ post → Genuine said issues x
  pub queued : (e : Entry) → e ∈ entries → Counted said issues e
  pub did : (x : Part) → x ∈ done → Agreed said issues x
  pub fell : (f : Fallen) → f ∈ fallen → Denied said issues f

-- a hall that has said something has taken the sequence
abbrev pub Heard : Sayings → (ℕ → List ℕ) → Type 0
Heard said taken = (t k : ℕ) → (said t k ≡ silent) ⊎ (sequence t ≤ get_or (taken k) (console t) 0)

-- an issued sequence is not above its console's
abbrev pub Numbered : List Issued → (ℕ → ℕ) → Type 0
Numbered issues sequences = (t : ℕ) (i : Issued) → issue_of t issues ≡ Some i → sequence t ≤ sequences (console t)

-- the entries that wait for their turn
abbrev pub Standing : List Entry → Entry → Type 0
Standing entries e = e ∈ entries

-- what an entry at a locking hall holds
abbrev pub Holds : Model → Entry → Type 0
Holds m e = e.keys ≡ m.keys e.operation

-- the order at the halls, of what stands there
pub record Ordered (m : Model) (last : ℕ → ℕ) (locking : ℕ → Bool) (In : Entry → Type 0) (pages : ℕ → Page) (done : List Part) : Type 0 where
  -- each entry comes after each part done at its hall, or is apart from it
  pub after : (e : Entry) (x : Part) → In e → x ∈ done → x.hall ≡ e.hall → AfterOrApart m e.stamp e.transaction e.operation x
  pub lasts : (x : Part) → x ∈ done → x.stamp ≤ last x.hall
  -- at a locking hall each entry holds its keys, and the entries are apart from each other
  pub holds : (e : Entry) → In e → locking e.hall ≡ true → Holds m e
  pub apart : (e f : Entry) → In e → In f → e.hall ≡ f.hall → locking e.hall ≡ true → (e.transaction ≡ f.transaction → ⊥) → Apart m e.operation f.operation
  -- a coordinated entry stands at a locking hall, and its part would be well done there
  pub locked : (e : Entry) → In e → e.class ≡ Coordinated → locking e.hall ≡ true
  pub sound : (e : Entry) → In e → e.class ≡ Coordinated → well_done (m.answer (pages e.hall) e.operation) ≡ true

-- a part is done once, and its entry is gone
pub record Singly (entries : List Entry) (done : List Part) : Type 0 where
  pub once : Once done
  pub waits : (e : Entry) (x : Part) → e ∈ entries → x ∈ done → x.hall ≡ e.hall → x.transaction ≡ e.transaction → ⊥

-- what was done was done right, on pages of the book's own
pub record DoneRight (m : Model) (first : ℕ → Page) (pages : ℕ → Page) (done : List Part) : Type 0 where
  pub own : (h : ℕ) → m.own (pages h)
  pub no_fault : (x : Part) → x ∈ done → x.coordinated ≡ true → well_done x.answer ≡ true
  pub started : (h : ℕ) → m.own (first h)
  pub plain : (h : ℕ) → PlainOrder m (first h) (at_hall h done) (pages h)

abbrev pub last_of : State → ℕ → ℕ
last_of s h = (hall_at s h).last

abbrev pub locking_of : State → ℕ → Bool
locking_of s h = locks (hall_at s h).mode

abbrev pub taken_of : State → ℕ → List ℕ
taken_of s h = (hall_at s h).taken

abbrev pub sequences : State → ℕ → ℕ
sequences s k = (console_at s k).sequence

pub record Kept (m : Model) (said : Sayings) (s : Scene) (H : History) : Type 0 where
  pub told : ToldTrue said H.issues (messages s.world) s.world.state.entries H.done H.fallen
  pub heard : Heard said (taken_of s.world.state)
  pub numbered : Numbered H.issues (sequences s.world.state)
  pub ordered : Ordered m (last_of s.world.state) (locking_of s.world.state) (Standing s.world.state.entries) s.pages H.done
  pub right : DoneRight m H.first s.pages H.done
  pub single : Singly s.world.state.entries H.done
