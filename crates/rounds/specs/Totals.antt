-- Totals stay small.
use Rattle.std.proofs.Common.{◌≡◌, ℕ, ◌+◌, ◌≤◌, List, length, get_or, replicate, inl, inr, arith}
use Rattle.book.proofs.Below.{length-table, get_or-table}
use Rattle.book.proofs.Tables.{get_or-replicate_same}
use Rattle.rounds.specs.Rounds.{raised, Small}
use Rattle.std.proofs.lemmas.List.{get_or_past}
use Rattle.std.proofs.lemmas.Bool.{cases_lt}

pub length-raised : (totals : List ℕ) (gain : ℕ → ℕ) → length (raised totals gain) ≡ length totals
length-raised totals gain = length-table (length totals) _

pub small_raised : (round : ℕ) (totals : List ℕ) (gain : ℕ → ℕ) → ((i : ℕ) → gain i ≤ 2048) → Small round totals → Small (round + 1) (raised totals gain)
small_raised round totals gain few h = λ i.
    elim (cases_lt i (length totals)) [
      | inl l ↦ omega (arith, get_or-table (length totals) (λ k. get_or totals k 0 + gain k) i 0 l, h i, few i)
      | inr l ↦ omega (arith, get_or_past (raised totals gain) i 0 (omega (arith, length-raised totals gain)))
    ]

pub small_zeros : (round n : ℕ) → Small round (replicate n 0)
small_zeros round n i = omega (arith, get_or-replicate_same {X = ℕ} n i 0)
