-- Every sheet that is read or made has its size, and what is kept stays kept.
use Rattle.std.specs.Prelude.{◌≡◌, ℕ, ◌+◌, ◌*◌, ◌≤◌, Bool, true, false, cond, ℤ, pos, Ok, Err, Result, ◌==◌, nat_le, refl}
use Rattle.std.proofs.Common.{length-set, inl, inr, sym, subst, ◌∙◌, arith}
use Rattle.book.proofs.Below.{length-table, get_or-table, sum_bound}
use Rattle.book.proofs.Tables.{get_or-replicate_same, set_keeps}
use Rattle.book.specs.Model.{Page}
use Rattle.records.specs.declared.Operation.{Operation}
use Rattle.rounds.specs.Fits.{Fits}
use Rattle.rounds.specs.Games.{Game}
use Rattle.rounds.specs.Kept.{Sized, KeptSheet}
use Rattle.rounds.specs.Pages.{read, blank}
use Rattle.rounds.specs.Rounds.{in_turn}
use Rattle.rounds.specs.Sheets.{cell, closable, gain_at, gained, closed, says, changed, left, made, after}
use Rattle.rounds.specs.Totals.{length-raised, small_raised, small_zeros}
use Rattle.rounds.specs.declared.Fault.{Fault}
use Rattle.rounds.specs.declared.Fault.TheVariants.{NotClosable}
use Rattle.rounds.specs.declared.asks.Ask.{Ask}
use Rattle.rounds.specs.declared.asks.Ask.TheVariants.{Cell, Close, Total}
use Rattle.rounds.specs.declared.sheets.Sheet.{Sheet}
use Rattle.std.proofs.lemmas.Bool.{cases_lt, and_parts, eqb-true, leb-true}
use Rattle.std.proofs.lemmas.List.{get_or_past, length-replicate}

module _ {C A : Type 0} {cells totals layer : ℕ} (g : Game C A cells totals) (f : Fits layer g) where
  pub sized_read : (p : Page) → Sized g (read g p)
  sized_read p = record {
    all_cells = length-table cells _;
    all_totals = length-table totals _;
    each = λ a.
        elim (cases_lt a cells) [
          | inl l ↦ subst (λ x. g.sized x ≡ true) (sym (get_or-table cells _ a g.empty l)) (f.sized_read p _)
          | inr l ↦ subst (λ x. g.sized x ≡ true) (sym (get_or_past (read g p).cells a g.empty (omega (arith, length-table cells (λ k. g.read p (Prim.Native.Nat.◌+◌ 1 (Prim.Native.Nat.◌*◌ g.width k))))))) f.sized_empty
        ];
  }

  all_empty : (a : ℕ) → g.sized (cell g (blank g) a) ≡ true
  all_empty a = subst (λ x. g.sized x ≡ true) (sym (get_or-replicate_same cells a g.empty)) f.sized_empty

  pub sized_blank : Sized g (blank g)
  sized_blank = record { all_cells = length-replicate cells g.empty; all_totals = length-replicate totals 0; each = all_empty }

  sized_changed : (s : Sheet C cells totals) (x : Ask A cells totals) → Sized g s → Sized g (changed g s x)
  sized_changed s (Cell a ask) h =
      let new = g.changed (cell g s a) ask in
      record {
        all_cells = length-set s.cells a new ∙ h.all_cells;
        all_totals = h.all_totals;
        each = set_keeps (λ x. g.sized x ≡ true) s.cells a new g.empty (f.sized_changed (cell g s a) ask (h.each a)) h.each;
      }
  sized_changed s (Close round) h = record { all_cells = length-replicate cells g.empty; all_totals = length-raised s.totals _ ∙ h.all_totals; each = all_empty }
  sized_changed s (Total i) h = h

  sized_left : (s : Sheet C cells totals) (x : Ask A cells totals) (r : Result ℤ Fault) → Sized g s → Sized g (left g s x r)
  sized_left s x (Ok value) h = sized_changed s x h
  sized_left s x (Err fault) h = h

  sized_made : (s : Sheet C cells totals) (x : Result (Ask A cells totals) Fault) → Sized g s → Sized g (made g s x)
  sized_made s (Ok ask) h = sized_left s ask (says g s ask) h
  sized_made s (Err fault) h = h

  pub sized_after : (s : Sheet C cells totals) (o : Operation) → Sized g s → Sized g (after g s o)
  sized_after s o h = sized_made s (g.asked o) h

  gained_few : (s : Sheet C cells totals) (i : ℕ) → gained g s i ≤ 2048
  gained_few s i = omega (arith, sum_bound (gain_at g s i) g.most cells (λ a. f.gains i (cell g s a)), f.most)

  pub kept_closed : (s : Sheet C cells totals) → s.round ≤ 99 → KeptSheet g s → KeptSheet g (closed g s)
  kept_closed s last h = record {
    sized = sized_changed s (Close s.round) h.sized;
    small = small_raised s.round s.totals (gained g s) (gained_few s) h.small;
    early = omega arith;
  }

  pub kept_blank : KeptSheet g (blank g)
  kept_blank = record { sized = sized_blank; small = small_zeros 1 totals; early = omega arith }

  -- a round that can be closed is at most the 99th
  closable_early : (s : Sheet C cells totals) (round : ℕ) → closable g s round ≡ true → s.round ≤ 99
  closable_early s round e =
      let turn = and_parts (round == s.round) (nat_le round 99) (and_parts (in_turn s.round round) _ e).0 in
      omega (arith, eqb-true round s.round turn.0, leb-true round 99 turn.1)

  kept_cell : (s : Sheet C cells totals) (a : ℕ) (ask : A) (r : Result ℤ Fault) → KeptSheet g s → KeptSheet g (left g s (Cell a ask) r)
  kept_cell s a ask (Ok value) h = record { sized = sized_changed s (Cell a ask) h.sized; small = h.small; early = h.early }
  kept_cell s a ask (Err fault) h = h

  kept_closing : (s : Sheet C cells totals) (round : ℕ) (can : Bool) → closable g s round ≡ can → KeptSheet g s → KeptSheet g (left g s (Close round) (cond can (Ok (pos (round + 1))) (Err NotClosable)))
  kept_closing s round true e h = kept_closed s (closable_early s round e) h
  kept_closing s round false e h = h

  kept_made : (s : Sheet C cells totals) (x : Result (Ask A cells totals) Fault) → KeptSheet g s → KeptSheet g (made g s x)
  kept_made s (Ok (Cell a ask)) h = kept_cell s a ask (says g s (Cell a ask)) h
  kept_made s (Ok (Close round)) h = kept_closing s round (closable g s round) refl h
  kept_made s (Ok (Total i)) h = h
  kept_made s (Err fault) h = h

  -- every operation keeps it, whatever it answers
  pub kept_after : (s : Sheet C cells totals) (o : Operation) → KeptSheet g s → KeptSheet g (after g s o)
  kept_after s o h = kept_made s (g.asked o) h
