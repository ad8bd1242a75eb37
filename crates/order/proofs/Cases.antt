-- What each call does is one of the ways in which a call can end.
use Rattle.std.proofs.Common.{◌≡◌, ℕ, ◌^◌, ◌<◌, true, false, not, ◌&&◌, ◌||◌, eqb, ltb, leb, List, length, get_or, set, Ok, Err, Some, None, Option, Result, sym, refl, ap, ◌∙◌, subst, inl, inr, arith}
use Rattle.std.specs.Prelude.{count_ones}
use Rattle.book.specs.Model.{Model}
use Rattle.congress.specs.Deliver.{by_kind, deliver_step}
use Rattle.congress.specs.Kept.{coordinated}
use Rattle.congress.specs.Queue.{entry_in, no_entry, is_at, place_at, any_at, held_at, ready, least}
use Rattle.congress.specs.Replies.{console_of, awaits, complete, reply_step, answered}
use Rattle.congress.specs.Requests.{hall_of, class_in, verdict, by_verdict, fate_free, fate_locking, fate_busy, fate_timestamp, fate, sent, taken_as, needs_entry, full, stamp_for, take, is_old, request_step}
use Rattle.congress.specs.Sending.{no_message, no_answer}
use Rattle.congress.specs.State.{State, World, Scene, scene, fresh, console_at, with_console, with_entries, with_state, short, lacks_room}
use Rattle.congress.specs.Telling.{refuse, tell, pass_over}
use Rattle.congress.specs.Votes.{counts, counted, count_vote, remove_entry, vote_at, vote_step}
use Rattle.congress.specs.Work.{in_turn, if_ready, may_run, work_on, work_step}
use Rattle.congress.specs.declared.fates.Fate.{Fate}
use Rattle.congress.specs.declared.fates.Fate.TheVariants.{Enters, Runs, Conflicts, Aborts}
use Rattle.congress.specs.declared.outcomes.Outcome.{Outcome}
use Rattle.congress.specs.declared.outcomes.Outcome.TheVariants.{Counted, Readied, Replied, Confirmed, Freed}
use Rattle.congress.specs.declared.outcomes.Report.{Report}
use Rattle.congress.specs.declared.refusals.Refusal.{Refusal}
use Rattle.congress.specs.declared.refusals.Refusal.TheVariants.{NotThere, Busy, BadHalls, UsedUp, TooLate, NoRoom, ShortPost, QueueFull, NothingRuns}
use Rattle.congress.specs.declared.tables.Entry.{Entry}
use Rattle.order.proofs.Happens.{reported, entries_of, is_locking, Room, Delivered, Asked, MayDo, Voted, Answered, MayWork, Happens, refuses, passes, opens, issues, enters, runs, conflicts, aborts, readies, removes, replies, confirms, frees, works, clocks, drops}
use Rattle.order.proofs.Lists.{some_is, none_is_some}
use Rattle.order.proofs.Queue.{least_in, least_least}
use Rattle.order.specs.Runs.{nothing, saying, step}
use Rattle.order.specs.declared.calls.Call.{Call}
use Rattle.order.specs.declared.calls.Call.TheVariants.{Open, Issue, Deliver, Work, Clock, Drop}
use Rattle.order.specs.declared.calls.Said.TheVariants.{Number}
use Rattle.records.specs.Answers.{well_done}
use Rattle.records.specs.Classes.{status_number}
use Rattle.records.specs.Halls.{names, fit}
use Rattle.records.specs.Messages.{lawful}
use Rattle.records.specs.Transactions.{console, sequence}
use Rattle.records.specs.declared.Answer.{Answer}
use Rattle.records.specs.declared.Operation.{Operation}
use Rattle.records.specs.declared.classes.Class.{Class}
use Rattle.records.specs.declared.classes.Class.TheVariants.{Single, Independent, Coordinated}
use Rattle.records.specs.declared.classes.Status.TheVariants.{Commit}
use Rattle.records.specs.declared.messages.Message.{Message}
use Rattle.records.specs.declared.messages.Message.TheVariants.{Request as request, Vote as vote, Reply as reply}
use Rattle.records.specs.declared.messages.Reply.{Reply}
use Rattle.records.specs.declared.messages.Request.{Request}
use Rattle.records.specs.declared.messages.Vote.{Vote}
use Rattle.std.proofs.lemmas.Bool.{cond_both, and_from, and_parts, eqb-true, eqb-false, eq-eqb, leb-false, ltb-false, or_parts, not-false, not-true, true≢false}
use Rattle.std.proofs.lemmas.List.Quantifiers.{position-Some}

-- a request

-- what is known once a request has this fate
abbrev Fated : Model → Scene → Request → Fate → Type 0
Fated m s r Enters =
    (is_locking s r.to ≡ true → held_at r.to (m.keys r.operation) (entries_of s) ≡ false)
    × (is_locking s r.to ≡ false → class_in r ≡ Coordinated → any_at r.to (entries_of s) ≡ false)
    × (class_in r ≡ Coordinated → (verdict m s r).cause ≡ 0)
Fated m s r Runs = MayDo m s r
Fated m s r Conflicts = Unit {0}
Fated m s r (Aborts answer) = answer ≡ verdict m s r

module _ (m : Model) (s : Scene) (r : Request) where
  abbrev Free : Type 0
  Free = is_locking s r.to ≡ true → held_at r.to (m.keys r.operation) (entries_of s) ≡ false

  -- what is not coordinated enters where no key is held
  uncoordinated_fated : Free → coordinated (class_in r) ≡ false → Fated m s r Enters
  uncoordinated_fated free c = (free, λ _ d. absurd (other d), λ d. absurd (other d))
    where
      other : class_in r ≡ Coordinated → ⊥
      other d = true≢false (sym (ap coordinated d) ∙ c)

  by_verdict_fated : Free → (is_locking s r.to ≡ false → any_at r.to (entries_of s) ≡ false) → Fated m s r (by_verdict (verdict m s r))
  by_verdict_fated free empty =
      cond_both (well_done (verdict m s r)) Enters (Aborts (verdict m s r)) (Fated m s r)
      (λ g. (free, λ n _. empty n, λ _. eqb-true (verdict m s r).cause 0 g)) (λ _. refl)

  free_fated : is_locking s r.to ≡ true → held_at r.to (m.keys r.operation) (entries_of s) ≡ false
      → (class : Class) → class_in r ≡ class → Fated m s r (fate_free (verdict m s r) class)
  free_fated k n Single c = record { locked = k; single = c; free = n }
  free_fated k n Independent c = uncoordinated_fated (λ _. n) (ap coordinated c)
  free_fated k n Coordinated c = by_verdict_fated (λ _. n) (λ f. absurd (true≢false (sym k ∙ f)))

  locking_fated : is_locking s r.to ≡ true → Fated m s r (fate_locking m s r)
  locking_fated k =
      cond_both (held_at r.to (m.keys r.operation) (entries_of s)) Conflicts (fate_free (verdict m s r) (class_in r)) (Fated m s r)
      (λ _. tt) (λ n. free_fated k n (class_in r) refl)

  timestamp_fated : is_locking s r.to ≡ false → (class : Class) → class_in r ≡ class → Fated m s r (fate_timestamp m s r class)
  timestamp_fated k Single c = uncoordinated_fated (λ q. absurd (true≢false (sym q ∙ k))) (ap coordinated c)
  timestamp_fated k Independent c = uncoordinated_fated (λ q. absurd (true≢false (sym q ∙ k))) (ap coordinated c)
  timestamp_fated k Coordinated c =
      cond_both (any_at r.to (entries_of s)) fate_busy (by_verdict (verdict m s r)) (Fated m s r)
      (λ _. tt) (λ n. by_verdict_fated (λ q. absurd (true≢false (sym q ∙ k))) (λ _. n))

  fated : Fated m s r (fate m s r)
  fated =
      cond_both (is_locking s r.to) (fate_locking m s r) (fate_timestamp m s r (class_in r)) (Fated m s r)
      locking_fated (λ k. timestamp_fated k (class_in r) refl)

  by_fate : (place stamp : ℕ) → Asked s place r stamp → (f : Fate) → Fated m s r f → (needs_entry f && full s) ≡ false
      → Room s.world (length (sent m s r stamp f)) → Happens m s (Deliver place) (reported (taken_as m s r stamp f))
  by_fate place stamp a Enters t n room =
      enters place r stamp a (record { free = t.0; empty = t.1; sound = t.2; room = leb-false 64 (length (entries_of s)) n }) room
  by_fate place stamp a Runs t n room = runs place r stamp a t room
  by_fate place stamp a Conflicts t n room = conflicts place r stamp a room
  by_fate place stamp a (Aborts answer) t n room =
      subst (λ (x : Answer). Room s.world (length (sent m s r stamp (Aborts x))) → Happens m s (Deliver place) (reported (taken_as m s r stamp (Aborts x))))
      (sym t) (aborts place r stamp a) room

  abbrev Ends : ℕ → Result Report Refusal × Scene → Type 0
  Ends place x = Happens m s (Deliver place) (reported x)

  of_stamp : (place : ℕ) → Delivered s place (request r) → get_or (hall_of s r).taken (console r.transaction) 0 < sequence r.transaction
      → (o : Option ℕ) → stamp_for s r ≡ o → Ends place (take m s r o)
  of_stamp place d new None e = refuses (Deliver place) TooLate
  of_stamp place d new (Some stamp) e =
      let f = fate m s r in
      cond_both (needs_entry f && full s) (refuse s QueueFull) _ (Ends place) (λ _. refuses (Deliver place) QueueFull) (λ n.
      cond_both (lacks_room s.world (length (sent m s r stamp f))) (refuse s NoRoom) _ (Ends place) (λ _. refuses (Deliver place) NoRoom) (λ room.
      by_fate place stamp (record { delivered = d; rises = new; stamp_is = e }) f fated n (record { long = d.long; room = room })))

  of_request : (place : ℕ) → Delivered s place (request r) → Ends place (request_step m s r)
  of_request place d =
      cond_both (is_old (hall_of s r) r.transaction) (pass_over s) _ (Ends place) (λ _. passes place)
      (λ n. of_stamp place d (leb-false (sequence r.transaction) (get_or (hall_of s r).taken (console r.transaction) 0) n) (stamp_for s r) refl)

-- a vote

module _ (m : Model) (s : Scene) (place : ℕ) where
  abbrev Ended : Result Report Refusal × Scene → Type 0
  Ended x = Happens m s (Deliver place) (reported x)

  of_counted : (v : Vote) (i : ℕ) (e : Entry) → Voted s place v i e → v.status ≡ 1 → Ended (count_vote s v i (counted e v))
  of_counted v i e voted c =
      let after = with_state s (with_entries s.world.state (set (entries_of s) i (counted e v))) in
      cond_both (ready (counted e v)) Readied Counted (λ (o : Outcome). Ended (tell after o v.transaction v.to (counted e v).stamp no_answer))
      (λ _. readies place v i e voted c) (λ _. Happens.counts place v i e voted c)

  of_vote_at : (v : Vote) → Delivered s place (vote v) → (o : Option ℕ) → place_at v.to v.transaction (entries_of s) ≡ o → Ended (vote_at s v o)
  of_vote_at v d None q = passes place
  of_vote_at v d (Some i) q =
      let e = entry_in (entries_of s) i in
      let found = position-Some (is_at v.to v.transaction) (entries_of s) i no_entry q in
      let b = and_parts (eqb e.hall v.to) (eqb e.transaction v.transaction) found.1 in
      cond_both (counts e v.from) _ (pass_over s) Ended (λ t.
      let named = and_parts (names e.halls v.from) (not (names e.votes v.from)) t in
      let voted : Voted s place v i e = record {
        delivered = d;
        there = found.0;
        is = refl;
        same_hall = eqb-true e.hall v.to b.0;
        same_transaction = eqb-true e.transaction v.transaction b.1;
        named = named.0;
        new = not-true (names e.votes v.from) named.1;
      } in
      cond_both (eqb v.status (status_number Commit)) _ (remove_entry s v i e) Ended
      (λ c. of_counted v i e voted (eqb-true v.status 1 c))
      (λ c. cond_both (lacks_room s.world 1) (refuse s NoRoom) _ Ended (λ _. refuses (Deliver place) NoRoom)
      (λ room. removes place v i e voted (eqb-false v.status 1 c) (record { long = d.long; room = room }))))
      (λ _. passes place)

  of_vote : (v : Vote) → Delivered s place (vote v) → Ended (vote_step s v)
  of_vote v d = of_vote_at v d (place_at v.to v.transaction (entries_of s)) refl

  -- a reply

  of_reply : (r : Reply) → Delivered s place (reply r) → Ended (reply_step s r)
  of_reply r d =
      let c = console_of s r in
      let after = with_state s (with_console s.world.state (console r.transaction) (answered c r)) in
      let Tells : Outcome → Type 0 = λ o. Ended (tell after o r.transaction r.from r.stamp r.answer) in
      cond_both (awaits c r) _ (pass_over s) Ended (λ w.
      let a : Answered s place r = record { delivered = d; waits = w } in
      cond_both (eqb r.status (status_number Commit)) _ Freed Tells (λ k.
      cond_both (complete c r) Confirmed Replied Tells (λ all. confirms place r a (eqb-true r.status 1 k) all) (λ _. replies place r a))
      (λ _. frees place r a))
      (λ _. passes place)

  -- a message

  of_kind : (message : Message) → Delivered s place message → Ended (by_kind m s message)
  of_kind (request r) d = of_request m s r place d
  of_kind (vote v) d = of_vote v d
  of_kind (reply r) d = of_reply r d

  of_deliver : Ended (deliver_step m s place)
  of_deliver =
      let message = get_or s.world.post place no_message in
      cond_both (short s.world) (refuse s ShortPost) _ Ended (λ _. refuses (Deliver place) ShortPost) (λ long.
      cond_both (leb s.world.state.count place) (refuse s NotThere) _ Ended (λ _. refuses (Deliver place) NotThere) (λ n.
      cond_both (lawful s.world.state.opened message) _ (pass_over s) Ended
      (λ l. of_kind message (record { long = long; there = leb-false s.world.state.count place n; is = refl; law = l }))
      (λ _. passes place)))

-- Work

module _ (m : Model) (s : Scene) (h : ℕ) where
  abbrev Worked : Result Report Refusal × Scene → Type 0
  Worked x = Happens m s (Work h) (reported x)

  found_ready : (entries : List Entry) (o : Option ℕ) (i : ℕ) → if_ready entries o ≡ Some i → (o ≡ Some i) × (ready (entry_in entries i) ≡ true)
  found_ready entries None i e = absurd (none_is_some e)
  found_ready entries (Some k) i e =
      cond_both (ready (entry_in entries k)) (Some k) None (λ (o : Option ℕ). o ≡ Some i → (Some k ≡ Some i) × (ready (entry_in entries i) ≡ true))
      (λ n q. (q, ap (λ (j : ℕ). ready (entry_in entries j)) (sym (some_is q)) ∙ n)) (λ _ q. absurd (none_is_some q)) e

  may_work : (i : ℕ) → h < s.world.state.opened → may_run s.world.state h ≡ Some i → Room s.world 1 → MayWork s h i (entry_in (entries_of s) i)
  may_work i exists e room =
      let q = entries_of s in
      let x = entry_in q i in
      cond_both (is_locking s h) (least (in_turn h true) q) (if_ready q (least (in_turn h false) q)) (λ (o : Option ℕ). o ≡ Some i → MayWork s h i x)
      (λ n k. let found = least_in (in_turn h true) q i k in
      let b = and_parts (eqb x.hall h) (ready x) found.1 in
      record {
        exists = exists;
        there = found.0;
        is = refl;
        here = eqb-true x.hall h b.0;
        is_ready = b.1;
        first = λ f j a. inl n;
        room = room;
      })
      (λ n k. let r = found_ready q (least (in_turn h false) q) i k in
      let found = least_in (in_turn h false) q i r.0 in
      record {
        exists = exists;
        there = found.0;
        is = refl;
        here = eqb-true x.hall h (and_parts (eqb x.hall h) true found.1).0;
        is_ready = r.1;
        first = λ f j a. inr (least_least (in_turn h false) q i f r.0 j (and_from (eqb f.hall h) true (eq-eqb f.hall h a) refl));
        room = room;
      })
      e

  of_turn : short s.world ≡ false → h < s.world.state.opened → (o : Option ℕ) → may_run s.world.state h ≡ o → Worked (work_on m s h o)
  of_turn long l None e = refuses (Work h) NothingRuns
  of_turn long l (Some i) e =
      cond_both (lacks_room s.world 1) (refuse s NoRoom) _ Worked (λ _. refuses (Work h) NoRoom)
      (λ room. works h i (entry_in (entries_of s) i) (may_work i l e (record { long = long; room = room })))

  of_work : Worked (work_step m s h)
  of_work =
      cond_both (short s.world) (refuse s ShortPost) _ Worked (λ _. refuses (Work h) ShortPost) (λ long.
      cond_both (leb s.world.state.opened h) (refuse s NotThere) _ Worked (λ _. refuses (Work h) NotThere) (λ n.
      of_turn long (leb-false s.world.state.opened h n) (may_run s.world.state h) refl))

-- the other calls

of_open : (m : Model) (s : Scene) (halls : ℕ) → Happens m s (Open halls) (step m (Open halls) s)
of_open m s halls =
    cond_both (eqb halls 0 || ltb 8 halls) (Err BadHalls, s.world.state) (Ok tt, fresh halls)
    (λ (x : Result (Unit {0}) Refusal × State). Happens m s (Open halls) (saying nothing x.0, with_state s x.1))
    (λ _. refuses (Open halls) BadHalls)
    (λ n. let b = or_parts (eqb halls 0) (ltb 8 halls) n in
    let some = eqb-false halls 0 b.0 in
    opens halls (omega arith) (ltb-false 8 halls b.1))

of_issue : (m : Model) (s : Scene) (k class halls : ℕ) (operations : List Operation)
    → Happens m s (Issue k class halls operations) (step m (Issue k class halls operations) s)
of_issue m s k class halls operations =
    let call = Issue k class halls operations in
    let c = console_at s.world.state k in
    let P : Result ℕ Refusal × World → Type 0 = λ x. Happens m s call (saying Number x.0, scene x.1 s.pages) in
    cond_both (short s.world) (Err ShortPost, s.world) _ P (λ _. refuses call ShortPost) (λ long.
    cond_both (leb 16 k) (Err NotThere, s.world) _ P (λ _. refuses call NotThere) (λ low.
    cond_both c.busy (Err Busy, s.world) _ P (λ _. refuses call Busy) (λ _.
    cond_both (not (fit s.world.state.opened class halls)) (Err BadHalls, s.world) _ P (λ _. refuses call BadHalls) (λ fits.
    cond_both (leb 1048576 c.sequence) (Err UsedUp, s.world) _ P (λ _. refuses call UsedUp) (λ left.
    cond_both (lacks_room s.world (count_ones halls)) (Err NoRoom, s.world) _ P (λ _. refuses call NoRoom) (λ room.
    issues k class halls operations (record {
      low = leb-false 16 k low;
      fits = not-false (fit s.world.state.opened class halls) fits;
      left = leb-false 1048576 c.sequence left;
      room = record { long = long; room = room };
    })))))))

of_clock : (m : Model) (s : Scene) (h time : ℕ) → Happens m s (Clock h time) (step m (Clock h time) s)
of_clock m s h time =
    let P : Result (Unit {0}) Refusal × State → Type 0 = λ x. Happens m s (Clock h time) (saying nothing x.0, with_state s x.1) in
    cond_both (leb s.world.state.opened h) (Err NotThere, s.world.state) _ P (λ _. refuses (Clock h time) NotThere) (λ n.
    cond_both (ltb (2 ^ 48) time) (Err TooLate, s.world.state) _ P (λ _. refuses (Clock h time) TooLate) (λ _.
    clocks h time (leb-false s.world.state.opened h n)))

of_drop : (m : Model) (s : Scene) (place : ℕ) → Happens m s (Drop place) (step m (Drop place) s)
of_drop m s place =
    let P : Result (Unit {0}) Refusal × World → Type 0 = λ x. Happens m s (Drop place) (saying nothing x.0, scene x.1 s.pages) in
    cond_both (short s.world) (Err ShortPost, s.world) _ P (λ _. refuses (Drop place) ShortPost) (λ long.
    cond_both (leb s.world.state.count place) (Err NotThere, s.world) _ P (λ _. refuses (Drop place) NotThere) (λ n.
    drops place long (leb-false s.world.state.count place n)))

pub what_happens : (m : Model) (call : Call) (s : Scene) → Happens m s call (step m call s)
what_happens m (Open halls) s = of_open m s halls
what_happens m (Issue k class halls operations) s = of_issue m s k class halls operations
what_happens m (Deliver place) s = of_deliver m s place
what_happens m (Work h) s = of_work m s h
what_happens m (Clock h time) s = of_clock m s h time
what_happens m (Drop place) s = of_drop m s place
