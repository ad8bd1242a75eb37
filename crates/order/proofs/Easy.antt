-- The calls that change little: Open, Clock, Drop, and the delivery of a reply; and what goes into the post.
use Rattle.std.proofs.Common.{◌≡◌, ℕ, ◌<◌, ◌≤◌, ◌+◌, min, List, length, get_or, refl, ap, inl, inr, arith, false, subst}
use Rattle.book.specs.Model.{Model}
use Rattle.congress.specs.Calls.{dropped}
use Rattle.congress.specs.Kept.{locks}
use Rattle.congress.specs.Replies.{console_of, answered}
use Rattle.congress.specs.State.{World, Scene, scene, fresh, hall_at, with_hall, with_console, with_state, messages, posting, sending, short}
use Rattle.congress.specs.Tables.{with_clock}
use Rattle.congress.specs.declared.tables.Hall.{Hall}
use Rattle.order.proofs.Changes.{hall_kept, console_kept, post_kept}
use Rattle.order.proofs.Happens.{Room}
use Rattle.order.proofs.Invariant.{silent, Sayings, Genuine, last_of, locking_of, taken_of, Kept}
use Rattle.order.proofs.Lists.{in_append, none_is_some}
use Rattle.order.proofs.Posting.{messages_posting, in_dropped, room_left}
use Rattle.order.proofs.Sound.{Sound}
use Rattle.order.specs.History.{History, new_history}
use Rattle.order.specs.Promises.{◌∈◌}
use Rattle.records.specs.Transactions.{console}
use Rattle.records.specs.declared.messages.Message.{Message}
use Rattle.records.specs.declared.messages.Reply.{Reply}
use Rattle.std.proofs.lemmas.Bool.{le-ltb}

-- after an Open nothing has been said
pub opens_kept : (m : Model) (s : Scene) (halls : ℕ) → ((h : ℕ) → m.own (s.pages h)) → Kept m (λ _ _. silent) (with_state s (fresh halls)) (new_history s.pages)
opens_kept m s halls own = record {
  told = record { posted = λ x i. absurd i; queued = λ e i. absurd i; did = λ x i. absurd i; fell = λ f i. absurd i };
  heard = λ t k. inl refl;
  numbered = λ t i e. absurd (none_is_some e);
  ordered = record {
    after = λ e x _ i. absurd i;
    lasts = λ x i. absurd i;
    holds = λ e i. absurd i;
    apart = λ e f i. absurd i;
    locked = λ e i. absurd i;
    sound = λ e i. absurd i;
  };
  right = record { own = own; no_fault = λ x i. absurd i; started = own; plain = λ h. record { page = refl; answers = tt } };
  single = record { once = tt; waits = λ e x i. absurd i };
}

-- room for more is room for less
pub room_less : (w : World) (n k : ℕ) → k ≤ n → Room w n → Room w k
room_less w n k l r =
    let a = room_left w n r in
    record { long = r.long; room = le-ltb (min (length w.post) 1024) (w.state.count + k) (omega arith) }

module _ {m : Model} {said : Sayings} {s : Scene} {H : History} (kept : Kept m said s H) where
  -- true messages go into the post
  pub sending_kept : (new : List Message) → Room s.world (length new) → ((x : Message) → x ∈ new → Genuine said H.issues x) → Kept m said (sending s new) H
  sending_kept new room true_all =
      post_kept kept (posting s.world new)
      (λ x i. elim (in_append x (messages s.world) new (subst (λ (l : List Message). x ∈ l) (messages_posting s.world new room) i)) [
        | inl j ↦ kept.told.posted x j
        | inr j ↦ true_all x j
      ])
      refl refl refl

  pub drops_kept : (place : ℕ) → short s.world ≡ false → place < s.world.state.count → Kept m said (scene (dropped s.world place) s.pages) H
  drops_kept place long l = post_kept kept (dropped s.world place) (λ x i. kept.told.posted x (in_dropped s.world place x long l i)) refl refl refl

  module _ (sound : Sound s.world.state) where
    open_hall : (h : ℕ) → h < s.world.state.opened → h < length s.world.state.halls
    open_hall h l = let few = sound.few in let eight = sound.eight in omega arith

    -- a hall changes in nothing that order goes by
    pub idle_kept : (h : ℕ) (x : Hall) → h < s.world.state.opened → x.last ≡ last_of s.world.state h → locks x.mode ≡ locking_of s.world.state h → x.taken ≡ taken_of s.world.state h
        → Kept m said (with_state s (with_hall s.world.state h x)) H
    idle_kept h x l a b c = hall_kept kept h x (record {
      low = open_hall h l;
      rise = λ k. let e : get_or x.taken k 0 ≡ get_or (taken_of s.world.state h) k 0 = ap (λ (w : List ℕ). get_or w k 0) c in omega arith;
      lasts = omega arith;
      mode = λ _ _ _. b;
    })

    pub clocks_kept : (h time : ℕ) → h < s.world.state.opened → Kept m said (with_state s (with_hall s.world.state h (with_clock (hall_at s.world.state h) time))) H
    clocks_kept h time l = idle_kept h (with_clock (hall_at s.world.state h) time) l refl refl refl

    pub reply_kept : (r : Reply) → Kept m said (with_state s (with_console s.world.state (console r.transaction) (answered (console_of s r) r))) H
    reply_kept r = console_kept kept (console r.transaction) (answered (console_of s r) r) (let z = sound.sixteen in omega arith) refl
