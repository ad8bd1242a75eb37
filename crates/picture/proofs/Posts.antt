-- What is written down of the messages in the post is true of them.
use Rattle.std.proofs.Common.{◌≡◌, ℕ, ◌+◌, ◌-◌, ◌<◌, false, List, [], ◌∷◌, ◌++◌, Result, length, get_or, take, drop, set, map, nat_lt, refl, sym, ap, ap₂, ◌∙◌, arith}
use Rattle.std.specs.Prelude.{count_ones}
use Rattle.std.proofs.lemmas.Bool.{cond_both, ltb-false}
use Rattle.std.proofs.lemmas.List.{append-nil, get_or_default, get_or-take, length-map, length-take-le, map-append, map-set, take-map, take-take}
use Rattle.std.proofs.Math.ListN.{get_or-map}
use Rattle.std.proofs.Math.Seq.{drop-append_seam, map-set_same, take-set-lt}
use Rattle.book.specs.Model.{Model}
use Rattle.congress.proofs.Sent.{requests_few}
use Rattle.congress.specs.Calls.{draft_of, dropped}
use Rattle.congress.specs.Requests.{verdict, entering, running, recording, sent}
use Rattle.congress.specs.Sending.{no_answer, no_message, reply_of, requests}
use Rattle.congress.specs.State.{World, world, Scene, console_at, messages, posting, short, with_console, with_state}
use Rattle.congress.specs.Tables.{opened_for}
use Rattle.congress.specs.Votes.{leaving}
use Rattle.congress.specs.Work.{part_answer, raised}
use Rattle.congress.specs.declared.fates.Fate.TheVariants.{Enters, Runs, Conflicts, Aborts}
use Rattle.congress.specs.declared.refusals.Refusal.{Refusal}
use Rattle.order.proofs.Cases.{what_happens}
use Rattle.order.proofs.Easy.{room_less}
use Rattle.order.proofs.Happens.{Happens, Room}
use Rattle.order.proofs.Posting.{long_post, messages_posting}
use Rattle.order.specs.Runs.{step, Past, beginning, one_call, run}
use Rattle.order.specs.declared.calls.Call.{Call}
use Rattle.order.specs.declared.calls.Said.{Said}
use Rattle.picture.specs.Arrows.{Drawn, sent_in, new_in_post, no_place, nothing_drawn, seen, delivered_one, delivered, lost_one, lost, posted, put}
use Rattle.picture.specs.Pictures.{drawn_from}
use Rattle.picture.specs.Posts.{known, TrueTo, TrueToPost}
use Rattle.picture.specs.declared.arrows.Sent.{Sent}
use Rattle.picture.specs.declared.ledger.InPost.{InPost}
use Rattle.records.specs.Classes.{status_number}
use Rattle.records.specs.declared.classes.Status.TheVariants.{Commit}
use Rattle.records.specs.declared.messages.Message.{Message}

known_new : (n : ℕ) (x : Message) → known (new_in_post n x) ≡ sent_in 0 x
known_new n (Message.Request r) = refl
known_new n (Message.Vote v) = refl
known_new n (Message.Reply r) = refl

all_known : (n : ℕ) (xs : List Message) → map known (map (new_in_post n) xs) ≡ map (sent_in 0) xs
all_known n [] = refl
all_known n (x ∷ xs) = ap₂ (λ (y : Sent) (ys : List Sent). y ∷ ys) (known_new n x) (all_known n xs)

-- as many places are written down as there are messages
as_many : (xs : List InPost) (ms : List Message) → map known xs ≡ map (sent_in 0) ms → length xs ≡ length ms
as_many xs ms h = sym (length-map xs known) ∙ ap length h ∙ length-map ms (sent_in 0)

-- messages come to the end of the post
grows : (n : ℕ) (before new : List Message) (d : Drawn) → map known d.in_post ≡ map (sent_in 0) before
    → map known (put n (before ++ new) d).in_post ≡ map (sent_in 0) (before ++ new)
grows n before new d h =
    let rest = drop (length d.in_post) (before ++ new) in
    let all : rest ≡ new = ap (λ (k : ℕ). drop k (before ++ new)) (as_many d.in_post before h) ∙ drop-append_seam before new in
    map-append known d.in_post (map (new_in_post n) rest)
    ∙ ap₂ (λ (ys zs : List Sent). ys ++ zs) h (all_known n rest ∙ ap (map (sent_in 0)) all)
    ∙ sym (map-append (sent_in 0) before new)

-- likewise, with the messages after the call named
grows_to : (n : ℕ) (before new after : List Message) (d : Drawn) → map known d.in_post ≡ map (sent_in 0) before → after ≡ before ++ new
    → map known (put n after d).in_post ≡ map (sent_in 0) after
grows_to n before new after d h is =
    ap (λ (ms : List Message). map known (put n ms d).in_post) is ∙ grows n before new d h ∙ sym (ap (map (sent_in 0)) is)

-- no message comes
stays : (n : ℕ) (ms : List Message) (d : Drawn) → map known d.in_post ≡ map (sent_in 0) ms → map known (put n ms d).in_post ≡ map (sent_in 0) ms
stays n ms d h = grows_to n ms [] ms d h (sym (append-nil ms))

-- a delivered message stays what it is
still_known : (n place : ℕ) (d : Drawn) → map known (delivered n place d).in_post ≡ map known d.in_post
still_known n place d =
    cond_both (nat_lt place (length d.in_post)) (delivered_one n place (get_or d.in_post place no_place) d) d
    (λ (x : Drawn). map known x.in_post ≡ map known d.in_post)
    (λ _. map-set_same known d.in_post place (seen (get_or d.in_post place no_place)) no_place refl)
    (λ _. refl)

-- the last of so many in the place of one
abbrev moved : {X : Type 0} → ℕ → ℕ → X → List X → List X
moved n place d xs = take (n - 1) (set xs place (get_or xs (n - 1) d))

map_moved : {X Y : Type 0} (f : X → Y) (n place : ℕ) (d : X) (xs : List X) → map f (moved n place d xs) ≡ moved n place (f d) (map f xs)
map_moved f n place d xs =
    sym (take-map f (n - 1) (set xs place (get_or xs (n - 1) d)))
    ∙ ap (take (n - 1)) (map-set f xs place (get_or xs (n - 1) d) ∙ ap (set (map f xs) place) (sym (get_or-map f xs (n - 1) d)))

moved_default : {X : Type 0} (n place : ℕ) (d e : X) (xs : List X) → n - 1 < length xs → moved n place d xs ≡ moved n place e xs
moved_default n place d e xs low = ap (λ x. take (n - 1) (set xs place x)) (get_or_default xs (n - 1) d e low)

-- what a drop leaves in the post
messages_dropped : (w : World) (place : ℕ) → short w ≡ false → place < w.state.count
    → messages (dropped w place) ≡ moved w.state.count place no_message (messages w)
messages_dropped w place long low =
    let c = w.state.count in
    let last = get_or w.post (c - 1) no_message in
    let after = set w.post place last in
    sym (take-take (c - 1) c after (omega arith))
    ∙ ap (take (c - 1)) (take-set-lt c w.post place last low ∙ ap (set (take c w.post) place) (sym (get_or-take c w.post (c - 1) no_message (omega arith))))

drops_true : (w : World) (n place : ℕ) (d : Drawn) → short w ≡ false → place < w.state.count → TrueTo w d
    → map known (lost n place d).in_post ≡ map (sent_in 0) (messages (dropped w place))
drops_true w n place d long low h =
    let c = w.state.count in
    let xs = d.in_post in
    let x = get_or xs place no_place in
    let many : length (messages w) ≡ c = length-take-le c w.post (long_post w long) in
    let count : length xs ≡ c = as_many xs (messages w) h ∙ many in
    cond_both (nat_lt place (length xs)) (lost_one n place x d) d
    (λ (y : Drawn). map known y.in_post ≡ map (sent_in 0) (messages (dropped w place)))
    (λ _. map_moved known (length xs) place x xs
    ∙ ap₂ (λ (k : ℕ) (ys : List Sent). moved k place (known x) ys) count h
    ∙ moved_default c place (known x) (sent_in 0 no_message) (map (sent_in 0) (messages w)) (let e = length-map (messages w) (sent_in 0) in omega arith)
    ∙ sym (ap (map (sent_in 0)) (messages_dropped w place long low) ∙ map_moved (sent_in 0) c place no_message (messages w)))
    (λ past. let none = ltb-false place (length xs) past in absurd (omega arith))

module _ (m : Model) (n : ℕ) (s : Scene) (d : Drawn) (h : TrueTo s.world d) where
  -- what is written down after a call that tells this and leaves that
  abbrev After : Call → Result Said Refusal × Scene → Type 0
  After call r = TrueTo r.1.world (posted n call r.0 (messages r.1.world) d)

  told_after : (place : ℕ) → map known (delivered n place d).in_post ≡ map (sent_in 0) (messages s.world)
  told_after place = still_known n place d ∙ h

  sends : (w : World) (new : List Message) (e : Drawn) → Room w (length new) → messages w ≡ messages s.world → map known e.in_post ≡ map (sent_in 0) (messages s.world)
      → map known (put n (messages (posting w new)) e).in_post ≡ map (sent_in 0) (messages (posting w new))
  sends w new e room same k =
      grows_to n (messages w) new (messages (posting w new)) e (k ∙ sym (ap (map (sent_in 0)) same)) (messages_posting w new room)

  turn_true : {call : Call} {r : Result Said Refusal × Scene} → Happens m s call r → After call r
  turn_true (Happens.refuses call why) = h
  turn_true (Happens.passes place) = stays n (messages s.world) (delivered n place d) (told_after place)
  turn_true (Happens.opens halls some few) = refl
  turn_true (Happens.issues k class halls operations may) =
      let draft = draft_of (console_at s.world.state k) k class halls operations in
      let w = world (with_console s.world.state k (opened_for (console_at s.world.state k) halls)) s.world.post in
      sends w (requests draft operations) d
      (room_less w (count_ones halls) (length (requests draft operations)) (requests_few draft operations) (record { long = may.room.long; room = may.room.room }))
      refl h
  turn_true (Happens.enters place q stamp asked may room) =
      sends (entering m s q stamp).world (sent m s q stamp Enters) (delivered n place d) (record { long = room.long; room = room.room }) refl (told_after place)
  turn_true (Happens.runs place q stamp asked may room) =
      sends (running m s q stamp).world (sent m s q stamp Runs) (delivered n place d) (record { long = room.long; room = room.room }) refl (told_after place)
  turn_true (Happens.conflicts place q stamp asked room) =
      sends (recording s q).world (sent m s q stamp Conflicts) (delivered n place d) (record { long = room.long; room = room.room }) refl (told_after place)
  turn_true (Happens.aborts place q stamp asked room) =
      sends (recording s q).world (sent m s q stamp (Aborts (verdict m s q))) (delivered n place d) (record { long = room.long; room = room.room }) refl (told_after place)
  turn_true (Happens.counts place v i e voted commit) = stays n (messages s.world) (delivered n place d) (told_after place)
  turn_true (Happens.readies place v i e voted commit) = stays n (messages s.world) (delivered n place d) (told_after place)
  turn_true (Happens.removes place v i e voted other room) =
      sends (with_state s (leaving s.world.state v.to i)).world (reply_of v.transaction v.to e.stamp v.status no_answer ∷ []) (delivered n place d)
      (record { long = room.long; room = room.room }) refl (told_after place)
  turn_true (Happens.replies place q answered) = stays n (messages s.world) (delivered n place d) (told_after place)
  turn_true (Happens.confirms place q answered commit all) = stays n (messages s.world) (delivered n place d) (told_after place)
  turn_true (Happens.frees place q answered) = stays n (messages s.world) (delivered n place d) (told_after place)
  turn_true (Happens.works hall i e may) =
      sends (with_state s (leaving (raised s.world.state hall e.stamp) hall i)).world
      (reply_of e.transaction hall e.stamp (status_number Commit) (part_answer m s hall e) ∷ []) d
      (record { long = may.room.long; room = may.room.room }) refl h
  turn_true (Happens.clocks hall time low) = stays n (messages s.world) d h
  turn_true (Happens.drops place long low) = stays n (messages (dropped s.world place)) (lost n place d) (drops_true s.world n place d long low h)

true_after : (m : Model) (calls : List Call) (n : ℕ) (g : Past) (d : Drawn) → TrueTo g.now.world d
    → TrueTo (run m calls g).now.world (drawn_from m n calls g.now d)
true_after m [] n g d h = h
true_after m (c ∷ cs) n g d h =
    true_after m cs (n + 1) (one_call m c g) (posted n c (step m c g.now).0 (messages (step m c g.now).1.world) d)
    (turn_true m n g.now d h (what_happens m c g.now))

pub true_to_post : (m : Model) (calls : List Call) (s : Scene) → TrueToPost m calls s
true_to_post m calls s none k low =
    true_after m (take k calls) 0 (beginning s) nothing_drawn (sym (ap (λ (c : ℕ). map (sent_in 0) (take c s.world.post)) none))
