-- A refused call leaves all as it was.
use Rattle.std.proofs.Common.{ℕ, ◌&&◌, eqb, length, Some, None, Option, Result, refl}
use Rattle.book.specs.Model.{Model}
use Rattle.congress.specs.Calls.{Untouched}
use Rattle.congress.specs.Deliver.{message_step}
use Rattle.congress.specs.Queue.{entry_in, place_at}
use Rattle.congress.specs.Replies.{console_of, awaits, reply_step}
use Rattle.congress.specs.Requests.{hall_of, fate, sent, needs_entry, full, taken_as, stamp_for, take, is_old, request_step}
use Rattle.congress.specs.State.{Scene, lacks_room}
use Rattle.congress.specs.Telling.{refuse, pass_over}
use Rattle.congress.specs.Votes.{counts, counted, count_vote, remove_entry, vote_on, vote_at, vote_step}
use Rattle.congress.specs.Work.{work_on}
use Rattle.congress.specs.declared.fates.Fate.{Fate}
use Rattle.congress.specs.declared.fates.Fate.TheVariants.{Enters, Runs, Conflicts, Aborts}
use Rattle.congress.specs.declared.outcomes.Report.{Report}
use Rattle.congress.specs.declared.refusals.Refusal.{Refusal}
use Rattle.congress.specs.declared.refusals.Refusal.TheVariants.{NoRoom, QueueFull}
use Rattle.congress.specs.declared.tables.Entry.{Entry}
use Rattle.records.specs.Messages.{lawful}
use Rattle.records.specs.declared.messages.Message.{Message}
use Rattle.records.specs.declared.messages.Message.TheVariants.{Request as request, Vote as vote, Reply as reply}
use Rattle.records.specs.declared.messages.Reply.{Reply}
use Rattle.records.specs.declared.messages.Request.{Request}
use Rattle.records.specs.declared.messages.Vote.{Vote}
use Rattle.std.proofs.lemmas.Bool.{cond_both}

-- of what a call tells and leaves
abbrev pub Leaves : Scene → Result Report Refusal × Scene → Type 0
Leaves s x = Untouched x.0 s x.1

module _ (m : Model) (s : Scene) where
  taken_leaves : (r : Request) (stamp : ℕ) (f : Fate) → Leaves s (taken_as m s r stamp f)
  taken_leaves r stamp Enters = tt
  taken_leaves r stamp Runs = tt
  taken_leaves r stamp Conflicts = tt
  taken_leaves r stamp (Aborts answer) = tt

  stamped_leaves : (r : Request) (o : Option ℕ) → Leaves s (take m s r o)
  stamped_leaves r None = refl
  stamped_leaves r (Some stamp) =
      cond_both (needs_entry (fate m s r) && full s) (refuse s QueueFull) _ (Leaves s) (λ _. refl) (λ _.
      cond_both (lacks_room s.world (length (sent m s r stamp (fate m s r)))) (refuse s NoRoom) _ (Leaves s) (λ _. refl) (λ _.
      taken_leaves r stamp (fate m s r)))

  request_leaves : (r : Request) → Leaves s (request_step m s r)
  request_leaves r = cond_both (is_old (hall_of s r) r.transaction) (pass_over s) _ (Leaves s) (λ _. tt) (λ _. stamped_leaves r (stamp_for s r))

  on_leaves : (v : Vote) (place : ℕ) (e : Entry) → Leaves s (vote_on s v place e)
  on_leaves v place e =
      cond_both (counts e v.from) _ (pass_over s) (Leaves s)
      (λ _. cond_both (eqb v.status 1) (count_vote s v place (counted e v)) (remove_entry s v place e) (Leaves s) (λ _. tt)
      (λ _. cond_both (lacks_room s.world 1) (refuse s NoRoom) _ (Leaves s) (λ _. refl) (λ _. tt)))
      (λ _. tt)

  found_leaves : (v : Vote) (o : Option ℕ) → Leaves s (vote_at s v o)
  found_leaves v None = tt
  found_leaves v (Some place) = on_leaves v place (entry_in s.world.state.entries place)

  reply_leaves : (r : Reply) → Leaves s (reply_step s r)
  reply_leaves r = cond_both (awaits (console_of s r) r) _ (pass_over s) (Leaves s) (λ _. tt) (λ _. tt)

  pub message_leaves : (x : Message) → Leaves s (message_step m s x)
  message_leaves (request r) = cond_both (lawful s.world.state.opened (request r)) (request_step m s r) (pass_over s) (Leaves s) (λ _. request_leaves r) (λ _. tt)
  message_leaves (vote v) = cond_both (lawful s.world.state.opened (vote v)) (vote_step s v) (pass_over s) (Leaves s) (λ _. found_leaves v (place_at v.to v.transaction s.world.state.entries)) (λ _. tt)
  message_leaves (reply r) = cond_both (lawful s.world.state.opened (reply r)) (reply_step s r) (pass_over s) (Leaves s) (λ _. reply_leaves r) (λ _. tt)

  pub turn_leaves : (h : ℕ) (o : Option ℕ) → Leaves s (work_on m s h o)
  turn_leaves h None = refl
  turn_leaves h (Some place) =
      cond_both (lacks_room s.world 1) (refuse s NoRoom) _ (Leaves s) (λ _. refl) (λ _. tt)
