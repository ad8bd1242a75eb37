-- The keys of an operation guard the parts that it reads and writes.
use Rattle.std.specs.Prelude.{◌≡◌, ℕ, ◌<◌, true, false, cond, not, Ok, Err, Result, ◌==◌, ◌≢◌, nat_lt}
use Rattle.std.proofs.Common.{inl, inr, sym, subst, arith}
use Rattle.book.proofs.Keys.{held_once}
use Rattle.book.specs.Keys.{Held}
use Rattle.book.specs.Model.{Disjoint}
use Rattle.records.specs.declared.Operation.{Operation}
use Rattle.rounds.specs.Fits.{Covers, Fits}
use Rattle.rounds.specs.Games.{Game}
use Rattle.rounds.specs.Pages.{model}
use Rattle.rounds.specs.Parts.{reads, writes}
use Rattle.rounds.specs.declared.Fault.{Fault}
use Rattle.rounds.specs.declared.asks.Ask.{Ask}
use Rattle.rounds.specs.declared.asks.Ask.TheVariants.{Cell, Close, Total}
use Rattle.std.proofs.lemmas.Bool.{cases_lt, cond-true, cond-false, lt-ltb, le-ltb, eqb-true, or_cases, not-true, false≢true}

module _ {A : Type 0} {cells totals : ℕ} where
  -- The key by which a reader guards part k: a cell's own; for the round and the totals, one that the reader has anyway.
  abbrev score_key : Result (Ask A cells totals) Fault → ℕ
  score_key (Ok (Cell a ask)) = a
  score_key (Ok (Close round)) = 32
  score_key (Ok (Total i)) = 32
  score_key (Err fault) = 32

  abbrev key : Result (Ask A cells totals) Fault → ℕ → ℕ
  key x k = cond (nat_lt k cells) k (score_key x)

  own_key : (keys : ℕ) (x : Result (Ask A cells totals) Fault) (k : ℕ) → k < cells → Held keys k → Held keys (key x k)
  own_key keys x k l h = subst (Held keys) (sym (cond-true (nat_lt k cells) k (score_key x) (lt-ltb k cells l))) h

  other_key : (keys : ℕ) (x : Result (Ask A cells totals) Fault) (k : ℕ) → nat_lt k cells ≡ false → Held keys (score_key x) → Held keys (key x k)
  other_key keys x k l h = subst (Held keys) (sym (cond-false (nat_lt k cells) k (score_key x) l)) h

  the_cell : (keys : ℕ) (x : Result (Ask A cells totals) Fault) (k a : ℕ) → (k == a) ≡ true → a < cells → Held keys a → Held keys (key x k)
  the_cell keys x k a e l h = own_key keys x k (omega (arith, eqb-true k a e)) (subst (Held keys) (sym (eqb-true k a e)) h)

  reader : (keys : ℕ) (x : Result (Ask A cells totals) Fault) (k : ℕ) → Covers keys x → reads x k ≡ true → Held keys (key x k)
  reader keys (Ok (Cell a ask)) k w r =
      elim (or_cases (k == a) (not (nat_lt k cells)) r) [
        | inl e ↦ the_cell keys (Ok (Cell a ask)) k a e w.0 w.1
        | inr e ↦ other_key keys (Ok (Cell a ask)) k (not-true (nat_lt k cells) e) w.1
      ]
  reader keys (Ok (Close round)) k w r =
      elim (cases_lt k cells) [
        | inl l ↦ own_key keys (Ok (Close round)) k l (w.0 k l)
        | inr l ↦ other_key keys (Ok (Close round)) k (le-ltb k cells l) w.1
      ]
  reader keys (Ok (Total i)) k w r = other_key keys (Ok (Total i)) k (not-true (nat_lt k cells) r) w
  reader keys (Err fault) k w r = absurd (false≢true r)

  -- who has the key of every cell and of the totals has that of a reader
  all_keys : (keys others : ℕ) (x : Result (Ask A cells totals) Fault) → Covers others x → ((k : ℕ) → k < cells → Held keys k) → Held keys 32 → Held keys (score_key x)
  all_keys keys others (Ok (Cell a ask)) v each total = each a v.0
  all_keys keys others (Ok (Close round)) v each total = total
  all_keys keys others (Ok (Total i)) v each total = total
  all_keys keys others (Err fault) v each total = total

  -- a writer has each key by which a reader guards what it writes
  writer : (keys others : ℕ) (y x : Result (Ask A cells totals) Fault) (k : ℕ) → Covers keys y → Covers others x → writes y k ≡ true → Held keys (key x k)
  writer keys others (Ok (Cell a ask)) x k w v e = the_cell keys x k a e w.0 w.1
  writer keys others (Ok (Close round)) x k w v e =
      elim (cases_lt k cells) [
        | inl l ↦ own_key keys x k l (w.0 k l)
        | inr l ↦ other_key keys x k (le-ltb k cells l) (all_keys keys others x v w.0 w.1)
      ]
  writer keys others (Ok (Total i)) x k w v e = absurd (false≢true e)
  writer keys others (Err fault) x k w v e = absurd (false≢true e)

module _ {C A : Type 0} {cells totals layer : ℕ} (g : Game C A cells totals) (f : Fits layer g) where
  pub guarded : (o q : Operation) (k : ℕ) → Disjoint (model g) o q → writes (g.asked q) k ≡ true → reads (g.asked o) k ≢ true
  guarded o q k none e r =
      held_once (g.keys o) (g.keys q) (key (g.asked o) k) none
      (reader (g.keys o) (g.asked o) k (f.covers o) r)
      (writer (g.keys q) (g.keys o) (g.asked q) (g.asked o) k (f.covers q) (f.covers o) e)
