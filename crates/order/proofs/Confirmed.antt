-- What is confirmed is done: a commit that goes to a console is of a part that was done, and so is each that a console has taken.
use Rattle.std.proofs.Common.{◌≡◌, ℕ, ◌+◌, ◌^◌, ◌<◌, Bool, true, false, not, List, [], ◌∷◌, ◌++◌, length, get_or, set, Some, Result, refl, sym, ap, ◌∙◌, subst, inl, inr, arith, get_or-set_other, get_or-set_same}
use Rattle.std.specs.Prelude.{◌==◌, bit_and}
use Rattle.book.specs.Model.{Model}
use Rattle.std.specs.Int.Count.{ones}
use Rattle.congress.proofs.Sent.{requests_is, requests_few}
use Rattle.order.proofs.Easy.{room_less}
use Rattle.order.proofs.Effects.{More, no_more}
use Rattle.congress.proofs.Sets.{names_none, names_or, names_pow, names_all}
use Rattle.congress.specs.Calls.{draft_of, issued, dropped}
use Rattle.congress.specs.Requests.{verdict, falling, sent, entering, running, recording}
use Rattle.congress.specs.Votes.{leaving}
use Rattle.congress.specs.Work.{raised, part_answer}
use Rattle.book.specs.Model.{turned}
use Rattle.congress.specs.declared.fates.Fate.TheVariants.{Enters}
use Rattle.congress.specs.declared.outcomes.Outcome.TheVariants.{DoneAtOnce, Done}
use Rattle.records.specs.declared.classes.Status.TheVariants.{Conflict, Abort}
use Rattle.congress.specs.Replies.{console_of, replies, complete, answered}
use Rattle.congress.specs.Sending.{no_operation, no_answer, to_hall, requests_below, requests, is_other, vote_to, votes_of, reply_of}
use Rattle.congress.specs.State.{Scene, scene, console_at, hall_at, with_hall, with_console, with_state, no_console, new_consoles, messages, sending, fresh}
use Rattle.congress.specs.Tables.{opened_for, with_clock}
use Rattle.congress.specs.declared.tables.Console.{Console}
use Rattle.order.proofs.Happens.{Room, MayIssue, Answered, Happens, with_vote}
use Rattle.order.proofs.Invariant.{Sayings, Kept}
use Rattle.order.proofs.Issue.{more}
use Rattle.order.proofs.Lists.{in_append, in_one}
use Rattle.order.proofs.Posting.{messages_posting, in_post, in_dropped, in_to_each}
use Rattle.order.proofs.Sound.{Sound}
use Rattle.order.specs.History.{Issued, Fallen, History, issue_of, new_history, part_done, with_issued, with_done, with_fallen, with_confirmed, noted}
use Rattle.order.specs.Plain.{Part}
use Rattle.order.specs.Promises.{◌∈◌, DoneAt, DoneWholly}
use Rattle.order.specs.declared.calls.Call.{Call}
use Rattle.order.specs.declared.calls.Said.{Said}
use Rattle.congress.specs.declared.refusals.Refusal.{Refusal}
use Rattle.records.specs.Halls.{bit, names}
use Rattle.records.specs.Transactions.{console, sequence, number_of}
use Rattle.records.specs.declared.Answer.{Answer}
use Rattle.records.specs.declared.Operation.{Operation}
use Rattle.records.specs.declared.messages.Message.{Message}
use Rattle.records.specs.declared.messages.Message.TheVariants.{Request as request, Vote as vote, Reply as reply}
use Rattle.records.specs.declared.messages.Reply.{Reply}
use Rattle.records.specs.declared.messages.Request.{Request}
use Rattle.std.proofs.lemmas.Bool.{and_parts, eqb-true, eq-eqb, cond-true, true≢false, cases_eq, cases_lt}
use Rattle.std.proofs.lemmas.List.{get_or-replicate, get_or_past}

-- console k waits for this transaction, and the halls that have replied have done their parts
pub record Awaited (issues : List Issued) (done : List Part) (k : ℕ) (c : Console) : Type 0 where
  pub issue : Issued
  pub found : issue_of (number_of c.sequence k) issues ≡ Some issue
  pub halls_is : c.halls ≡ issue.halls
  pub replied : (h : ℕ) → names c.replied h ≡ true → DoneAt done (number_of c.sequence k) h

-- a commit among these messages is of a part that was done
abbrev pub Commits : List Part → List Message → Type 0
Commits done messages = (r : Reply) → reply r ∈ messages → r.status ≡ 1 → DoneAt done r.transaction r.from

pub record Replying (s : Scene) (H : History) : Type 0 where
  pub posted : Commits H.done (messages s.world)
  pub waiting : (k : ℕ) → (console_at s.world.state k).busy ≡ true → Awaited H.issues H.done k (console_at s.world.state k)
  pub confirmed : (t : ℕ) → t ∈ H.confirmed → DoneWholly H t

-- Messages that are no replies.

abbrev is_reply : Message → Bool
is_reply (request r) = false
is_reply (vote v) = false
is_reply (reply r) = true

abbrev NoReplies : List Message → Type 0
NoReplies l = (r : Reply) → reply r ∈ l → ⊥

none_commits : (done : List Part) (l : List Message) → NoReplies l → Commits done l
none_commits done l none r i c = absurd (none r i)

votes_none : (t own halls stamp status : ℕ) → NoReplies (votes_of t own halls stamp status)
unfolding votes_of
votes_none t own halls stamp status r i =
    let q = in_to_each (is_other halls own) (vote_to t own stamp status) 8 (reply r) i in
    true≢false (ap is_reply q.3)

requests_none : (draft : Request) (operations : List Operation) → NoReplies (requests draft operations)
requests_none draft operations r i =
    let j : reply r ∈ requests_below draft operations 8 = subst (λ (l : List Message). reply r ∈ l) (sym (requests_is draft operations)) i in
    let q = in_to_each (bit draft.halls) (λ h. request (to_hall draft h (get_or operations h no_operation))) 8 (reply r) j in
    true≢false (ap is_reply q.3)

reply_is : {r q : Reply} → reply r ≡ reply q → r ≡ q
reply_is e = cc

-- a reply of these commits only where its part was done
one_commits : (done : List Part) (t own stamp status : ℕ) (answer : Answer) → (status ≡ 1 → DoneAt done t own) → Commits done (reply_of t own stamp status answer ∷ [])
one_commits done t own stamp status answer did r i c =
    let e : r ≡ record { transaction = t; from = own; stamp = stamp; status = status; answer = answer } = reply_is (in_one i) in
    subst (λ (q : Reply). DoneAt done q.transaction q.from) (sym e) (did (ap (λ (q : Reply). q.status) (sym e) ∙ c))

both_commit : (done : List Part) (one two : List Message) → Commits done one → Commits done two → Commits done (one ++ two)
both_commit done one two a b r i c = elim (in_append (reply r) one two i) [ inl j ↦ a r j c | inr j ↦ b r j c ]

-- More is done.

abbrev Further : List Part → List Part → Type 0
Further done done' = (t h : ℕ) → DoneAt done t h → DoneAt done' t h

one_done : (done : List Part) (x : Part) → Further done (x ∷ done)
one_done done x t h d = (d.0, inr d.1, d.2, d.3)

module _ (s : Scene) (H : History) (a : Replying s H) where
  -- consoles, issues and what is confirmed stay
  moves : (s' : Scene) (H' : History) → s'.world.state.consoles ≡ s.world.state.consoles → H'.issues ≡ H.issues → H'.confirmed ≡ H.confirmed
      → Further H.done H'.done → Commits H'.done (messages s'.world) → Replying s' H'
  moves s' H' consoles issues same further commits = record {
    posted = commits;
    waiting = λ k. subst (λ (cs : List Console). (get_or cs k no_console).busy ≡ true → Awaited H'.issues H'.done k (get_or cs k no_console)) (sym consoles)
        (λ busy. let w = a.waiting k busy in record {
          issue = w.issue;
          found = ap (issue_of (number_of (console_at s.world.state k).sequence k)) issues ∙ w.found;
          halls_is = w.halls_is;
          replied = λ h n. further _ h (w.replied h n);
        });
    confirmed = λ t i.
        let d = a.confirmed t (subst (λ (l : List ℕ). t ∈ l) same i) in
        (d.0, ap (issue_of t) issues ∙ d.1, λ h n. further t h (d.2 h n));
  }

  -- commits go into the post
  sends : (new : List Message) → Room s.world (length new) → Commits H.done new → Replying (sending s new) H
  sends new room commits = moves (sending s new) H refl refl refl (λ t h d. d)
      (λ r i. both_commit H.done (messages s.world) new a.posted commits r (subst (λ (l : List Message). reply r ∈ l) (messages_posting s.world new room) i))

module _ (s : Scene) (H : History) (a : Replying s H) where
  -- a part is done, and its hall replies so
  does : (s' : Scene) (x : Part) → s'.world.state.consoles ≡ s.world.state.consoles → messages s'.world ≡ messages s.world → (stamp : ℕ) (answer : Answer)
      → Room s'.world 1 → Replying (sending s' (reply_of x.transaction x.hall stamp 1 answer ∷ [])) (with_done H x)
  does s' x consoles same stamp answer room =
      sends s' (with_done H x)
      (moves s H a s' (with_done H x) consoles refl refl (one_done H.done x) (λ r i c. one_done H.done x r.transaction r.from (a.posted r (subst (λ (l : List Message). reply r ∈ l) same i) c)))
      (reply_of x.transaction x.hall stamp 1 answer ∷ []) room
      (one_commits (x ∷ H.done) x.transaction x.hall stamp 1 answer (λ _. (x, inl refl, refl, refl)))

  -- a part falls, and what is sent of it is no commit
  denies : (s' : Scene) (f : Fallen) → s'.world.state.consoles ≡ s.world.state.consoles → messages s'.world ≡ messages s.world → (new : List Message)
      → Room s'.world (length new) → Commits H.done new → Replying (sending s' new) (with_fallen H f)
  denies s' f consoles same new room commits =
      sends s' (with_fallen H f)
      (moves s H a s' (with_fallen H f) consoles refl refl (λ _ _ d. d) (λ r i. a.posted r (subst (λ (l : List Message). reply r ∈ l) same i)))
      new room commits

-- what is sent of a request that falls is no commit
falls : (done : List Part) (r : Request) (stamp status : ℕ) (answer : Answer) → (status ≡ 1 → ⊥)
    → Commits done (votes_of r.transaction r.to r.halls stamp status ++ (reply_of r.transaction r.to stamp status answer ∷ []))
falls done r stamp status answer other =
    both_commit done (votes_of r.transaction r.to r.halls stamp status) (reply_of r.transaction r.to stamp status answer ∷ [])
    (none_commits done _ (votes_none r.transaction r.to r.halls stamp status))
    (one_commits done r.transaction r.to stamp status answer (λ commit. absurd (other commit)))

-- A console changes: what it waits for afterwards is known.
module _ (s : Scene) (H : History) (a : Replying s H) (sound : Sound s.world.state) where
  console_changes : (k : ℕ) (c : Console) (H' : History) → k < 16 → More H.issues H'.issues → Further H.done H'.done
      → (c.busy ≡ true → Awaited H'.issues H'.done k c) → ((t : ℕ) → t ∈ H'.confirmed → DoneWholly H' t)
      → Replying (with_state s (with_console s.world.state k c)) H'
  console_changes k c H' low more further new confirmed = record {
    posted = λ r i q. further r.transaction r.from (a.posted r i q);
    waiting = λ j. elim (cases_eq j k) [
      | inl e ↦ subst (λ (x : Console). x.busy ≡ true → Awaited H'.issues H'.done j x)
          (sym (ap (λ (i : ℕ). get_or (set consoles k c) i no_console) e ∙ get_or-set_same consoles k c no_console (let z = sound.sixteen in omega arith)))
          (subst (λ (i : ℕ). c.busy ≡ true → Awaited H'.issues H'.done i c) (sym e) new)
      | inr n ↦ subst (λ (x : Console). x.busy ≡ true → Awaited H'.issues H'.done j x) (sym (get_or-set_other consoles k j c no_console n))
          (λ busy. let w = a.waiting j busy in record {
            issue = w.issue;
            found = more.still _ w.issue w.found;
            halls_is = w.halls_is;
            replied = λ h m. further _ h (w.replied h m);
          })
    ];
    confirmed = confirmed;
  }
    where
      consoles : List Console
      consoles = s.world.state.consoles

-- A transaction is issued.
module _ {m : Model} {said : Sayings} {s : Scene} {H : History} (a : Replying s H) (sound : Sound s.world.state) (kept : Kept m said s H)
    (k class halls : ℕ) (operations : List Operation) (may : MayIssue s.world k class halls) where
  abbrev old : Console
  old = console_at s.world.state k

  abbrev new : Issued
  new = record { transaction = number_of (old.sequence + 1) k; class = class; halls = halls; operations = operations }

  issue_more : More H.issues (new ∷ H.issues)
  issue_more = more sound kept k class halls operations may

  opened_replying : Replying (with_state s (with_console s.world.state k (opened_for old halls))) (with_issued H new)
  opened_replying = console_changes s H a sound k (opened_for old halls) (with_issued H new) may.low issue_more (λ t h d. d)
      (λ _. record {
        issue = new;
        found = cond-true (new.transaction == new.transaction) (Some new) (issue_of new.transaction H.issues) (eq-eqb new.transaction new.transaction refl);
        halls_is = refl;
        replied = λ h n. absurd (names_none h n);
      })
      (λ t i. let d = a.confirmed t i in (d.0, issue_more.still t d.0 d.1, d.2))

  issues_replying : Replying (scene (issued s.world k class halls operations) s.pages) (with_issued H new)
  issues_replying =
      let draft = draft_of old k class halls operations in
      let sent = requests draft operations in
      sends (with_state s (with_console s.world.state k (opened_for old halls))) (with_issued H new) opened_replying sent
      (room_less (with_state s (with_console s.world.state k (opened_for old halls))).world (ones halls) (length sent) (requests_few draft operations)
      (record { long = may.room.long; room = may.room.room }))
      (none_commits H.done sent (requests_none draft operations))

-- A console takes a reply.
module _ (s : Scene) (H : History) (a : Replying s H) (sound : Sound s.world.state) (place : ℕ) (r : Reply) (met : Answered s place r) where
  abbrev k : ℕ
  k = console r.transaction

  abbrev c : Console
  c = console_of s r

  abbrev t : ℕ
  t = number_of c.sequence k

  low : k < 16
  low = omega arith

  busy : c.busy ≡ true
  busy = (and_parts c.busy _ met.waits).0

  -- the reply is of the console's transaction
  mine : r.transaction ≡ t
  mine =
      let rest = (and_parts c.busy _ met.waits).1 in
      let same = eqb-true c.sequence (sequence r.transaction) (and_parts (c.sequence == sequence r.transaction) _ rest).0 in
      omega arith

  awaited : Awaited H.issues H.done k c
  awaited = a.waiting k busy

  did : r.status ≡ 1 → (h : ℕ) → names (replies c r) h ≡ true → DoneAt H.done t h
  did commit h n = elim (names_or c.replied (2 ^ r.from) h n) [
    | inl old ↦ awaited.replied h old
    | inr now ↦ subst (DoneAt H.done t) (sym (names_pow r.from h now)) (subst (λ (u : ℕ). DoneAt H.done u r.from) mine (a.posted r in_messages commit))
  ]
    where
      in_messages : reply r ∈ messages s.world
      in_messages = subst (λ (x : Message). x ∈ messages s.world) met.delivered.is (in_post s.world place met.delivered.long met.delivered.there)

  still_awaited : (answered c r).busy ≡ true → Awaited H.issues H.done k (answered c r)
  still_awaited b = record {
    issue = awaited.issue;
    found = awaited.found;
    halls_is = awaited.halls_is;
    replied = did (eqb-true r.status 1 (and_parts (r.status == 1) (not (complete c r)) b).0);
  }

  takes_replying : Replying (with_state s (with_console s.world.state k (answered c r))) H
  takes_replying = console_changes s H a sound k (answered c r) H low (no_more H.issues) (λ _ _ d. d) still_awaited a.confirmed

  confirms_replying : r.status ≡ 1 → complete c r ≡ true → Replying (with_state s (with_console s.world.state k (answered c r))) (with_confirmed H r.transaction)
  confirms_replying commit all = console_changes s H a sound k (answered c r) (with_confirmed H r.transaction) low (no_more H.issues) (λ _ _ d. d) still_awaited confirmed
    where
      wholly : DoneWholly H t
      wholly = (
        awaited.issue,
        awaited.found,
        λ h n.
            did commit h (names_all (replies c r) c.halls h (eqb-true (bit_and (replies c r) c.halls) c.halls all) (subst (λ (halls : ℕ). names halls h ≡ true) (sym awaited.halls_is) n)),
      )

      confirmed : (u : ℕ) → u ∈ (r.transaction ∷ H.confirmed) → DoneWholly H u
      confirmed u (inl e) = subst (DoneWholly H) (sym (e ∙ mine)) wholly
      confirmed u (inr i) = a.confirmed u i

-- Open

pub opens_replying : (m : Model) (s : Scene) (halls : ℕ) → Replying (with_state s (fresh halls)) (new_history s.pages)
unfolding new_consoles
opens_replying m s halls = record {
  posted = λ r i. absurd i;
  waiting = λ k busy. absurd (true≢false (sym busy ∙ ap (λ (x : Console). x.busy) (none_waits k)));
  confirmed = λ t i. absurd i;
}
  where
    none_waits : (k : ℕ) → get_or new_consoles k no_console ≡ no_console
    none_waits k = elim (cases_lt k 16) [
      | inl l ↦ get_or-replicate 16 k no_console no_console l
      | inr past ↦ get_or_past new_consoles k no_console past
    ]

-- every call keeps it
pub replying_step : {m : Model} {said : Sayings} {s : Scene} {H : History} {call : Call} {st : Result Said Refusal × Scene}
    → Sound s.world.state → Kept m said s H → Replying s H → Happens m s call st → Replying st.1 (noted H s.pages call st.0)
replying_step sound kept a (Happens.refuses call why) = a
replying_step sound kept a (Happens.passes place) = a
replying_step {m} {said} {s} sound kept a (Happens.opens halls some few) = opens_replying m s halls
replying_step sound kept a (Happens.issues k class halls operations may) = issues_replying a sound kept k class halls operations may
replying_step {m} {said} {s} {H} sound kept a (Happens.enters place r stamp asked may room) =
    sends (entering m s r stamp) H (moves s H a (entering m s r stamp) H refl refl refl (λ _ _ d. d) a.posted)
    (sent m s r stamp Enters) (record { long = room.long; room = room.room })
    (none_commits H.done _ (votes_none r.transaction r.to r.halls stamp 1))
replying_step {m} {said} {s} {H} sound kept a (Happens.runs place r stamp asked may room) =
    does s H a (running m s r stamp) (part_done H.issues (record { outcome = DoneAtOnce; transaction = r.transaction; hall = r.to; stamp = stamp; answer = verdict m s r }))
    refl refl stamp (verdict m s r) (record { long = room.long; room = room.room })
replying_step {m} {said} {s} {H} sound kept a (Happens.conflicts place r stamp asked room) =
    denies s H a (recording s r) (record { hall = r.to; transaction = r.transaction }) refl refl (falling r stamp Conflict no_answer) (record { long = room.long; room = room.room })
    (falls H.done r stamp 2 no_answer (λ two. omega arith))
replying_step {m} {said} {s} {H} sound kept a (Happens.aborts place r stamp asked room) =
    denies s H a (recording s r) (record { hall = r.to; transaction = r.transaction }) refl refl (falling r stamp Abort (verdict m s r)) (record { long = room.long; room = room.room })
    (falls H.done r stamp 3 (verdict m s r) (λ three. omega arith))
replying_step {m} {said} {s} {H} sound kept a (Happens.counts place v i e met status) = moves s H a (with_vote s v i e) H refl refl refl (λ _ _ d. d) a.posted
replying_step {m} {said} {s} {H} sound kept a (Happens.readies place v i e met status) = moves s H a (with_vote s v i e) H refl refl refl (λ _ _ d. d) a.posted
replying_step {m} {said} {s} {H} sound kept a (Happens.removes place v i e met other room) =
    denies s H a (with_state s (leaving s.world.state v.to i)) (record { hall = v.to; transaction = v.transaction }) refl refl
    (reply_of v.transaction v.to e.stamp v.status no_answer ∷ []) (record { long = room.long; room = room.room })
    (one_commits H.done v.transaction v.to e.stamp v.status no_answer (λ commit. absurd (other commit)))
replying_step {m} {said} {s} {H} sound kept a (Happens.replies place r met) = takes_replying s H a sound place r met
replying_step {m} {said} {s} {H} sound kept a (Happens.confirms place r met commit all) = confirms_replying s H a sound place r met commit all
replying_step {m} {said} {s} {H} sound kept a (Happens.frees place r met) = takes_replying s H a sound place r met
replying_step {m} {said} {s} {H} sound kept a (Happens.works h i e may) =
    does s H a (scene (with_state s (leaving (raised s.world.state h e.stamp) h i)).world (turned m s.pages h e.operation))
    (part_done H.issues (record { outcome = Done; transaction = e.transaction; hall = h; stamp = e.stamp; answer = part_answer m s h e }))
    refl refl e.stamp (part_answer m s h e) (record { long = may.room.long; room = may.room.room })
replying_step {m} {said} {s} {H} sound kept a (Happens.clocks h time there) =
    moves s H a (with_state s (with_hall s.world.state h (with_clock (hall_at s.world.state h) time))) H refl refl refl (λ _ _ d. d) a.posted
replying_step {m} {said} {s} {H} sound kept a (Happens.drops place long there) =
    moves s H a (scene (dropped s.world place) s.pages) H refl refl refl (λ _ _ d. d) (λ r i. a.posted r (in_dropped s.world place (reply r) long there i))
