-- What a call does: one way for each end that a call can come to, with what is then known. All other proofs go by these ways.
use Rattle.std.proofs.Common.{◌≡◌, ℕ, ◌+◌, ◌<◌, ◌≤◌, Bool, true, false, ◌⊎◌, List, Ok, Err, Some, Result, length, get_or, set}
use Rattle.std.specs.Prelude.{count_ones}
use Rattle.book.specs.Model.{Model}
use Rattle.congress.specs.Calls.{issued, dropped}
use Rattle.congress.specs.Kept.{locks}
use Rattle.congress.specs.Queue.{entry_in, any_at, held_at, ready, sooner}
use Rattle.congress.specs.Replies.{console_of, awaits, complete, answered}
use Rattle.congress.specs.Requests.{hall_of, class_in, verdict, stamp_for, sent, taken_as}
use Rattle.congress.specs.Sending.{no_message, no_answer}
use Rattle.congress.specs.State.{World, Scene, scene, fresh, hall_at, console_at, with_hall, with_console, with_entries, with_state, short, lacks_room}
use Rattle.congress.specs.Tables.{with_clock}
use Rattle.congress.specs.Telling.{tell, pass_over}
use Rattle.congress.specs.Votes.{counted, removed}
use Rattle.congress.specs.Work.{part_answer, worked}
use Rattle.congress.specs.declared.fates.Fate.TheVariants.{Enters, Runs, Conflicts, Aborts}
use Rattle.congress.specs.declared.outcomes.Outcome.TheVariants.{Counted, Readied, Removed, Replied, Confirmed, Freed, Done}
use Rattle.congress.specs.declared.outcomes.Report.{Report}
use Rattle.congress.specs.declared.refusals.Refusal.{Refusal}
use Rattle.congress.specs.declared.tables.Entry.{Entry}
use Rattle.order.specs.Promises.{◌∈◌}
use Rattle.order.specs.Runs.{saying}
use Rattle.order.specs.declared.calls.Call.{Call}
use Rattle.order.specs.declared.calls.Call.TheVariants.{Open, Issue, Deliver, Work, Clock, Drop}
use Rattle.order.specs.declared.calls.Said.{Said}
use Rattle.order.specs.declared.calls.Said.TheVariants.{Nothing, Number}
use Rattle.records.specs.Halls.{names, fit}
use Rattle.records.specs.Messages.{lawful}
use Rattle.records.specs.Transactions.{console, sequence, number_of}
use Rattle.records.specs.declared.Operation.{Operation}
use Rattle.records.specs.declared.classes.Class.TheVariants.{Single, Coordinated}
use Rattle.records.specs.declared.messages.Message.{Message}
use Rattle.records.specs.declared.messages.Message.TheVariants.{Request as request, Vote as vote, Reply as reply}
use Rattle.records.specs.declared.messages.Reply.{Reply}
use Rattle.records.specs.declared.messages.Request.{Request}
use Rattle.records.specs.declared.messages.Vote.{Vote}

-- what a call tells, with what it leaves
abbrev pub reported : Result Report Refusal × Scene → Result Said Refusal × Scene
reported r = (saying Said.Report r.0, r.1)

abbrev pub entries_of : Scene → List Entry
entries_of s = s.world.state.entries

abbrev pub is_locking : Scene → ℕ → Bool
is_locking s h = locks (hall_at s.world.state h).mode

-- the post is as long as it should be, and has room for n messages more
pub record Room (w : World) (n : ℕ) : Type 0 where
  pub long : short w ≡ false
  pub room : lacks_room w n ≡ false

pub record MayIssue (w : World) (k class halls : ℕ) : Type 0 where
  pub low : k < 16
  pub fits : fit w.state.opened class halls ≡ true
  pub left : (console_at w.state k).sequence < 1048576
  pub room : Room w (count_ones halls)

-- a message is delivered
pub record Delivered (s : Scene) (place : ℕ) (message : Message) : Type 0 where
  pub long : short s.world ≡ false
  pub there : place < s.world.state.count
  pub is : get_or s.world.post place no_message ≡ message
  pub law : lawful s.world.state.opened message ≡ true

-- a request that its hall takes, with this stamp
pub record Asked (s : Scene) (place : ℕ) (r : Request) (stamp : ℕ) : Type 0 where
  pub delivered : Delivered s place (request r)
  pub rises : get_or (hall_of s r).taken (console r.transaction) 0 < sequence r.transaction
  pub stamp_is : stamp_for s r ≡ Some stamp

-- what each fate tells of the hall
pub record MayEnter (m : Model) (s : Scene) (r : Request) : Type 0 where
  pub free : is_locking s r.to ≡ true → held_at r.to (m.keys r.operation) (entries_of s) ≡ false
  pub empty : is_locking s r.to ≡ false → class_in r ≡ Coordinated → any_at r.to (entries_of s) ≡ false
  pub sound : class_in r ≡ Coordinated → (verdict m s r).cause ≡ 0
  pub room : length (entries_of s) < 64

pub record MayDo (m : Model) (s : Scene) (r : Request) : Type 0 where
  pub locked : is_locking s r.to ≡ true
  pub single : class_in r ≡ Single
  pub free : held_at r.to (m.keys r.operation) (entries_of s) ≡ false

-- a vote that meets the entry e at place i of the queue
pub record Voted (s : Scene) (place : ℕ) (v : Vote) (i : ℕ) (e : Entry) : Type 0 where
  pub delivered : Delivered s place (vote v)
  pub there : i < length (entries_of s)
  pub is : entry_in (entries_of s) i ≡ e
  pub same_hall : e.hall ≡ v.to
  pub same_transaction : e.transaction ≡ v.transaction
  pub named : names e.halls v.from ≡ true
  pub new : names e.votes v.from ≡ false

-- a reply that its console takes
pub record Answered (s : Scene) (place : ℕ) (r : Reply) : Type 0 where
  pub delivered : Delivered s place (reply r)
  pub waits : awaits (console_of s r) r ≡ true

-- the entry e at place i of the queue, which may be done at hall h
pub record MayWork (s : Scene) (h i : ℕ) (e : Entry) : Type 0 where
  pub exists : h < s.world.state.opened
  pub there : i < length (entries_of s)
  pub is : entry_in (entries_of s) i ≡ e
  pub here : e.hall ≡ h
  pub is_ready : ready e ≡ true
  -- in timestamp mode it is the least of the hall's entries
  pub first : (f : Entry) → f ∈ entries_of s → f.hall ≡ h → (is_locking s h ≡ true) ⊎ (sooner f e ≡ false)
  pub room : Room s.world 1

-- what the vote and the reply that are taken leave
abbrev pub with_vote : Scene → Vote → ℕ → Entry → Scene
with_vote s v i e = with_state s (with_entries s.world.state (set (entries_of s) i (counted e v)))

abbrev pub with_reply_of : Scene → Reply → Scene
with_reply_of s r = with_state s (with_console s.world.state (console r.transaction) (answered (console_of s r) r))

pub data Happens (m : Model) (s : Scene) : Call → Result Said Refusal × Scene → Type 0 where
  refuses : (call : Call) (why : Refusal) → Happens m s call (Err why, s)
  passes : (place : ℕ) → Happens m s (Deliver place) (reported (pass_over s))
  opens : (halls : ℕ) → 1 ≤ halls → halls ≤ 8 → Happens m s (Open halls) (Ok Nothing, with_state s (fresh halls))
  issues : (k class halls : ℕ) (operations : List Operation) → MayIssue s.world k class halls
      → Happens m s (Issue k class halls operations) (Ok (Number (number_of ((console_at s.world.state k).sequence + 1) k)), scene (issued s.world k class halls operations) s.pages)
  enters : (place : ℕ) (r : Request) (stamp : ℕ) → Asked s place r stamp → MayEnter m s r → Room s.world (length (sent m s r stamp Enters))
      → Happens m s (Deliver place) (reported (taken_as m s r stamp Enters))
  runs : (place : ℕ) (r : Request) (stamp : ℕ) → Asked s place r stamp → MayDo m s r → Room s.world (length (sent m s r stamp Runs))
      → Happens m s (Deliver place) (reported (taken_as m s r stamp Runs))
  conflicts : (place : ℕ) (r : Request) (stamp : ℕ) → Asked s place r stamp → Room s.world (length (sent m s r stamp Conflicts))
      → Happens m s (Deliver place) (reported (taken_as m s r stamp Conflicts))
  aborts : (place : ℕ) (r : Request) (stamp : ℕ) → Asked s place r stamp → Room s.world (length (sent m s r stamp (Aborts (verdict m s r))))
      → Happens m s (Deliver place) (reported (taken_as m s r stamp (Aborts (verdict m s r))))
  counts : (place : ℕ) (v : Vote) (i : ℕ) (e : Entry) → Voted s place v i e → v.status ≡ 1
      → Happens m s (Deliver place) (reported (tell (with_vote s v i e) Counted v.transaction v.to (counted e v).stamp no_answer))
  readies : (place : ℕ) (v : Vote) (i : ℕ) (e : Entry) → Voted s place v i e → v.status ≡ 1
      → Happens m s (Deliver place) (reported (tell (with_vote s v i e) Readied v.transaction v.to (counted e v).stamp no_answer))
  removes : (place : ℕ) (v : Vote) (i : ℕ) (e : Entry) → Voted s place v i e → (v.status ≡ 1 → ⊥) → Room s.world 1
      → Happens m s (Deliver place) (reported (tell (removed s v i e) Removed v.transaction v.to e.stamp no_answer))
  replies : (place : ℕ) (r : Reply) → Answered s place r
      → Happens m s (Deliver place) (reported (tell (with_reply_of s r) Replied r.transaction r.from r.stamp r.answer))
  confirms : (place : ℕ) (r : Reply) → Answered s place r → r.status ≡ 1 → complete (console_of s r) r ≡ true
      → Happens m s (Deliver place) (reported (tell (with_reply_of s r) Confirmed r.transaction r.from r.stamp r.answer))
  frees : (place : ℕ) (r : Reply) → Answered s place r
      → Happens m s (Deliver place) (reported (tell (with_reply_of s r) Freed r.transaction r.from r.stamp r.answer))
  works : (h i : ℕ) (e : Entry) → MayWork s h i e
      → Happens m s (Work h) (reported (tell (worked m s h i e) Done e.transaction h e.stamp (part_answer m s h e)))
  clocks : (h time : ℕ) → h < s.world.state.opened
      → Happens m s (Clock h time) (Ok Nothing, with_state s (with_hall s.world.state h (with_clock (hall_at s.world.state h) time)))
  drops : (place : ℕ) → short s.world ≡ false → place < s.world.state.count → Happens m s (Drop place) (Ok Nothing, scene (dropped s.world place) s.pages)
