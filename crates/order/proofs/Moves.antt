-- Each call turns at most one page, by the part that it does.
use Rattle.std.proofs.Common.{◌≡◌, ℕ, ◌<◌, ◌≤◌, true, cond, List, [], ◌∷◌, Option, Result, sym, refl, ap, ◌∙◌, subst, arith}
use Rattle.book.specs.Model.{Model, told}
use Rattle.congress.specs.Queue.{no_entry}
use Rattle.congress.specs.State.{Scene, messages}
use Rattle.congress.specs.declared.refusals.Refusal.{Refusal}
use Rattle.order.proofs.Happens.{Happens, refuses, passes, opens, issues, enters, runs, conflicts, aborts, counts, readies, removes, replies, confirms, frees, works, clocks, drops}
use Rattle.order.proofs.Invariant.{Sayings, Meant, Kept}
use Rattle.order.proofs.Lists.{in_at}
use Rattle.order.proofs.Pages.{put, told_is, turned_is}
use Rattle.order.proofs.Posting.{in_post}
use Rattle.order.specs.History.{Issued, History, issue_of, part_given}
use Rattle.order.specs.Promises.{◌∈◌}
use Rattle.order.specs.Runs.{Act, acts_of}
use Rattle.order.specs.declared.calls.Call.{Call}
use Rattle.order.specs.declared.calls.Said.{Said}
use Rattle.records.specs.Answers.{well_done}
use Rattle.records.specs.Classes.{class_number}
use Rattle.records.specs.Messages.{request_lawful}
use Rattle.records.specs.declared.Answer.{Answer}
use Rattle.records.specs.declared.Operation.{Operation}
use Rattle.records.specs.declared.messages.Message.{Message}
use Rattle.records.specs.declared.messages.Message.TheVariants.{Request as request}
use Rattle.records.specs.declared.messages.Request.{Request}
use Rattle.std.proofs.lemmas.Bool.Decides.{nat_tests}

abbrev pub act : ℕ → Operation → Act
act h o = record { hall = h; operation = o }

-- the act of a part with this answer: none where it is not well done
abbrev pub act_of : ℕ → Operation → Answer → List Act
act_of h o r = cond (well_done r) (act h o ∷ []) []

pub data Moves (m : Model) (s : Scene) (issued : List Issued) (st : Result Said Refusal × Scene) : Type 0 where
  rests : st.1.pages ≡ s.pages → acts_of issued st.0 ≡ [] → Moves m s issued st
  turns : (h : ℕ) (o : Operation) → st.1.pages ≡ put s.pages h (m.next (s.pages h) o)
      → acts_of issued st.0 ≡ act_of h o (m.answer (s.pages h) o) → Moves m s issued st

-- a lawful request goes to a hall that is open
open_hall : (number : ℕ) (r : Request) → request_lawful number r ≡ true → r.to < number
open_hall number r law = grind (arith, nat_tests)

module _ {m : Model} {said : Sayings} {s : Scene} {H : History} (kept : Kept m said s H) (few : s.world.state.opened ≤ 8) where
  -- the operation that the history gives is the one that was done, and the answer that of its page
  done_here : (t h class halls : ℕ) (o : Operation) → h < 8 → Meant H.issues t class halls h o
      → act_of h (part_given (issue_of t H.issues) h) (told m s.pages h o) ≡ act_of h o (m.answer (s.pages h) o)
  done_here t h class halls o l meant =
      ap (λ (q : Operation). act_of h q (told m s.pages h o)) (ap (λ (i : Option Issued). part_given i h) meant.found ∙ sym meant.operation_is)
      ∙ ap (act_of h o) (told_is m s.pages h o l)

  pub call_moves : {call : Call} {st : Result Said Refusal × Scene} → Happens m s call st → Moves m s H.issues st
  call_moves (refuses call why) = rests refl refl
  call_moves (passes place) = rests refl refl
  call_moves (opens halls n l) = rests refl refl
  call_moves (issues k class halls operations may) = rests refl refl
  call_moves (enters place r stamp a may room) = rests refl refl
  call_moves (runs place r stamp a may room) =
      let inside = open_hall s.world.state.opened r a.delivered.law in
      let low : r.to < 8 = omega arith in
      let there : request r ∈ messages s.world = subst (λ (x : Message). x ∈ messages s.world) a.delivered.is (in_post s.world place a.delivered.long a.delivered.there) in
      turns r.to r.operation (turned_is m s.pages r.to r.operation low)
      (done_here r.transaction r.to r.class r.halls r.operation low (kept.told.posted (request r) there))
  call_moves (conflicts place r stamp a room) = rests refl refl
  call_moves (aborts place r stamp a room) = rests refl refl
  call_moves (counts place v i e voted one) = rests refl refl
  call_moves (readies place v i e voted one) = rests refl refl
  call_moves (removes place v i e voted other room) = rests refl refl
  call_moves (replies place r answered) = rests refl refl
  call_moves (confirms place r answered one all) = rests refl refl
  call_moves (frees place r answered) = rests refl refl
  call_moves (works h i e may) =
      let inside = may.exists in
      let low : h < 8 = omega arith in
      let there : e ∈ s.world.state.entries = in_at s.world.state.entries i no_entry e may.there may.is in
      turns h e.operation (turned_is m s.pages h e.operation low)
      (done_here e.transaction h (class_number e.class) e.halls e.operation low
      (subst (λ (k : ℕ). Meant H.issues e.transaction (class_number e.class) e.halls k e.operation) may.here (kept.told.queued e there).meant))
  call_moves (clocks h time l) = rests refl refl
  call_moves (drops place long l) = rests refl refl
