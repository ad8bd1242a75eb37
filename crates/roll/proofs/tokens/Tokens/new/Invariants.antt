use Rattle.std.proofs.Common.{◌≡◌, ℕ, ◌<◌, ◌≤◌, replicate, length}
use Rattle.roll.proofs.tokens.Tokens.new.Given as goal
use Rattle.roll.specs.Roll.{hall_tokens, first_tokens}

abbrev pub invariant-loop-hall : goal.invariant-loop-hall
invariant-loop-hall l =
    (length l.tokens ≡ 128)
    × ((h : ℕ) → h < l.hall → hall_tokens l.tokens h ≡ first_tokens l.chief)
    × ((h : ℕ) → l.hall ≤ h → h < 8 → hall_tokens l.tokens h ≡ replicate 16 0)
