-- What is kept, after each call of every list; and what it gives.
use Rattle.std.proofs.Common.{◌≡◌, ℕ, ◌<◌, ◌≤◌, false, eqb, ltb, ◌||◌, List, [], ◌∷◌, ◌++◌, length, Ok, Err, Result, sym, ap, subst, arith}
use Rattle.book.specs.Model.{Page, Model, Lawful}
use Rattle.congress.specs.Requests.{hall_of, verdict}
use Rattle.congress.specs.Sending.{no_answer}
use Rattle.congress.specs.State.{State, Scene, scene, world, fresh, with_state, messages}
use Rattle.congress.specs.declared.refusals.Refusal.{Refusal}
use Rattle.congress.specs.declared.tables.Entry.{Entry}
use Rattle.std.proofs.lemmas.Bool.Decides.{nat_tests}
use Rattle.congress.specs.declared.refusals.Refusal.TheVariants.{BadHalls}
use Rattle.order.proofs.Cases.{what_happens}
use Rattle.order.proofs.Changes.{confirms_kept}
use Rattle.order.proofs.Easy.{opens_kept, drops_kept, clocks_kept, reply_kept}
use Rattle.order.proofs.Effects.{says}
use Rattle.order.proofs.Gives.{gives_one_order, gives_all_or_none}
use Rattle.order.proofs.Confirmed.{Replying, opens_replying, replying_step}
use Rattle.order.proofs.Happens.{Delivered, Asked, Voted, Happens}
use Rattle.order.proofs.Invariant.{silent, agreed, denied, Sayings, Genuine, Kept}
use Rattle.order.proofs.Issue.{issues_kept}
use Rattle.order.proofs.Moves.{call_moves}
use Rattle.order.proofs.Posting.{in_post}
use Rattle.order.proofs.Removal.{Guard, guard_begins, guard_opens, guard_stays, guard_gives}
use Rattle.order.proofs.Lawful.{LawfulRequest, lawful_is, vote_to_open}
use Rattle.order.proofs.Request.{stamp_above, falls_now, comes_in, runs_at_once}
use Rattle.order.proofs.Sound.{Sound, opened_sound, sound_step, well_kept}
use Rattle.order.proofs.Vote.{counts_kept, removes_kept}
use Rattle.order.proofs.Work.{works_kept}
use Rattle.order.specs.History.{History, new_history, noted}
use Rattle.order.specs.Promises.{◌∈◌, OneOrder, AllOrNone, KeepsWell, Always, ConfirmedIsDone}
use Rattle.order.specs.Removal.{RemovalHolds}
use Rattle.order.specs.Runs.{saying, nothing, acts_of, step, Past, beginning, one_call, run}
use Rattle.order.specs.declared.calls.Call.{Call}
use Rattle.order.specs.declared.calls.Call.TheVariants.{Open}
use Rattle.order.specs.declared.calls.Said.{Said}
use Rattle.order.specs.declared.calls.Said.TheVariants.{Nothing}
use Rattle.records.specs.declared.messages.Message.{Message}
use Rattle.records.specs.declared.messages.Request.{Request}
use Rattle.records.specs.declared.messages.Vote.{Vote}
use Rattle.roll.specs.Over.{IsRoll}
use Rattle.std.proofs.lemmas.Bool.{cond-false}

-- what the halls have said after a call
abbrev pub said_after : {m : Model} {s : Scene} {c : Call} {st : Result Said Refusal × Scene} → Sayings → Happens m s c st → Sayings
said_after said (Happens.refuses c why) = said
said_after said (Happens.passes place) = said
said_after said (Happens.opens halls l u) = λ _ _. silent
said_after said (Happens.issues k class halls operations may) = said
said_after said (Happens.enters place r stamp a may room) = says said r.transaction r.to (agreed stamp)
said_after said (Happens.runs place r stamp a may room) = says said r.transaction r.to (agreed stamp)
said_after said (Happens.conflicts place r stamp a room) = says said r.transaction r.to denied
said_after said (Happens.aborts place r stamp a room) = says said r.transaction r.to denied
said_after said (Happens.counts place v i e met c) = said
said_after said (Happens.readies place v i e met c) = said
said_after said (Happens.removes place v i e met n room) = said
said_after said (Happens.replies place r a) = said
said_after said (Happens.confirms place r a c all) = said
said_after said (Happens.frees place r a) = said
said_after said (Happens.works h i e may) = said
said_after said (Happens.clocks h time l) = said
said_after said (Happens.drops place l there) = said

module _ (m : Model) (laws : Lawful m) (said : Sayings) (s : Scene) (H : History) (sound : Sound s.world.state) (kept : Kept m said s H) where
  genuine : {place : ℕ} {x : Message} → Delivered s place x → Genuine said H.issues x
  genuine {place} {x} d = kept.told.posted x (subst (λ (y : Message). y ∈ messages s.world) d.is (in_post s.world place d.long d.there))

  lawful_one : {place : ℕ} {r : Request} {stamp : ℕ} → Asked s place r stamp → LawfulRequest s.world.state.opened r
  lawful_one {place} {r} a = lawful_is s.world.state.opened r a.delivered.law

  above : {place : ℕ} {r : Request} {stamp : ℕ} → Asked s place r stamp → (hall_of s r).last < stamp
  above {place} {r} {stamp} a = stamp_above r.high (hall_of s r).last (hall_of s r).clock stamp a.stamp_is

  hall_inside : {place : ℕ} {v : Vote} {i : ℕ} {e : Entry} → Voted s place v i e → v.to < length s.world.state.halls
  hall_inside {place} {v} met =
      let l = vote_to_open s.world.state.opened v met.delivered.law in
      let few = sound.few in
      let eight = sound.eight in
      omega arith

  pub step_kept : {c : Call} {st : Result Said Refusal × Scene} (w : Happens m s c st) → Kept m (said_after said w) st.1 (noted H s.pages c st.0)
  step_kept (Happens.refuses c why) = kept
  step_kept (Happens.passes place) = kept
  step_kept (Happens.opens halls l u) = opens_kept m s halls kept.right.own
  step_kept (Happens.issues k class halls operations may) = issues_kept sound kept k class halls operations may
  step_kept (Happens.enters place r stamp a may room) = comes_in sound kept r (lawful_one a) (genuine a.delivered) a.rises stamp (above a) may room
  step_kept (Happens.runs place r stamp a may room) = runs_at_once sound kept r (lawful_one a) (genuine a.delivered) a.rises stamp (above a) laws may room
  step_kept (Happens.conflicts place r stamp a room) = falls_now sound kept r (lawful_one a) (genuine a.delivered) a.rises stamp 2 no_answer (omega arith) room
  step_kept (Happens.aborts place r stamp a room) = falls_now sound kept r (lawful_one a) (genuine a.delivered) a.rises stamp 3 (verdict m s r) (omega arith) room
  step_kept (Happens.counts place v i e met c) = counts_kept kept place v i e met (genuine met.delivered) c
  step_kept (Happens.readies place v i e met c) = counts_kept kept place v i e met (genuine met.delivered) c
  step_kept (Happens.removes place v i e met n room) = removes_kept kept place v i e met (genuine met.delivered) (hall_inside met) n room
  step_kept (Happens.replies place r a) = reply_kept kept sound r
  step_kept (Happens.confirms place r a c all) = confirms_kept (reply_kept kept sound r) r.transaction
  step_kept (Happens.frees place r a) = reply_kept kept sound r
  step_kept (Happens.works h i e may) = works_kept laws sound kept h i e may
  step_kept (Happens.clocks h time l) = clocks_kept kept sound h time l
  step_kept (Happens.drops place l there) = drops_kept kept place l there

-- what stands after some calls of a list
pub record Stands (m : Model) (g : Past) : Type 0 where
  pub sound : Sound g.now.world.state
  pub said : Sayings
  pub kept : Kept m said g.now g.history
  pub replying : Replying g.now g.history

module _ (m : Model) (laws : Lawful m) where
  pub one_more : (c : Call) (g : Past) → Stands m g → Stands m (one_call m c g)
  one_more c g stands =
      let w = what_happens m c g.now in
      record {
        sound = sound_step w stands.sound;
        said = said_after stands.said w;
        kept = step_kept m laws stands.said g.now g.history stands.sound stands.kept w;
        replying = replying_step stands.sound stands.kept stands.replying w;
      }

  pub all_stand : (cs : List Call) (g : Past) → Stands m g → Stands m (run m cs g)
  all_stand [] g stands = stands
  all_stand (c ∷ cs) g stands = all_stand cs (one_call m c g) (one_more c g stands)

-- the Open is not refused
pub opens_so : (m : Model) (s : Scene) (halls : ℕ) → 1 ≤ halls → halls ≤ 8 → step m (Open halls) s ≡ (Ok Nothing, with_state s (fresh halls))
opens_so m s halls low high =
    ap (λ (r : Result (Unit {0}) Refusal × State). (saying nothing r.0, with_state s r.1))
    (cond-false (eqb halls 0 || ltb 8 halls) (Err BadHalls, s.world.state) (Ok tt, fresh halls) (between halls low high))
  where
    between : (n : ℕ) → 1 ≤ n → n ≤ 8 → (eqb n 0 || ltb 8 n) ≡ false
    between n l u = grind (arith, nat_tests)

pub opened_stands : (m : Model) (s : Scene) (halls : ℕ) → 1 ≤ halls → halls ≤ 8 → ((h : ℕ) → m.own (s.pages h)) → Stands m (one_call m (Open halls) (beginning s))
opened_stands m s halls low high own =
    subst (λ (st : Result Said Refusal × Scene). Stands m (record { now = st.1; history = noted (new_history s.pages) s.pages (Open halls) st.0; acts = acts_of [] st.0 ++ [] }))
    (sym (opens_so m s halls low high))
    (record { sound = opened_sound halls high; said = λ _ _. silent; kept = opens_kept m s halls own; replying = opens_replying m s halls })

module _ (m : Model) (laws : Lawful m) (pages : ℕ → Page) (own : (h : ℕ) → m.own (pages h)) where
  -- a promise that follows from what stands holds after each call
  pub always : (P : Past → Type 0) → ((g : Past) → Stands m g → P g) → Always m pages P
  always P gives state post halls low high calls =
      gives _ (all_stand m laws calls _ (opened_stands m (scene (world state post) pages) halls low high own))

  pub always_one_order : Always m pages (OneOrder m)
  always_one_order = always (OneOrder m) (λ g stands. gives_one_order m g stands.said stands.kept)

  pub always_all_or_none : Always m pages AllOrNone
  always_all_or_none = always AllOrNone (λ g stands. gives_all_or_none m g stands.said stands.kept)

  pub always_confirmed_is_done : Always m pages ConfirmedIsDone
  always_confirmed_is_done = always ConfirmedIsDone (λ g stands. stands.replying.confirmed)

  pub always_keeps_well : Always m pages KeepsWell
  always_keeps_well = always KeepsWell (λ g stands. well_kept g.now.world.state stands.sound)

-- A lawful book that is a roll over some book.
module _ (m : Model) (laws : Lawful m) (roll : IsRoll m) where
  guarded : (cs : List Call) (g : Past) → Stands m g → Guard g → Guard (run m cs g)
  guarded [] g stands guard = guard
  guarded (c ∷ cs) g stands guard =
      guarded cs (one_call m c g) (one_more m laws c g stands)
      (guard_stays m laws roll c g guard (call_moves stands.kept stands.sound.few (what_happens m c g.now)) stands.kept.right.own)

  pub always_removal_holds : (pages : ℕ → Page) → ((h : ℕ) → m.own (pages h)) → Always m pages RemovalHolds
  always_removal_holds pages own state post halls low high calls =
      let s = scene (world state post) pages in
      guard_gives (run m (Open halls ∷ calls) (beginning s))
      (guarded calls (one_call m (Open halls) (beginning s)) (opened_stands m s halls low high own) (guard_opens m halls (beginning s) (guard_begins s)))
