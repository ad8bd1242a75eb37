use Rattle.std.proofs.Common.{◌≡◌, ℕ, ◌+◌, ◌*◌, ◌<◌, length, set, ap, ◌∙◌, inl, inr, arith, refl, lit<, length-set}
use Rattle.roll.specs.Table.{hall_zeros, first_here, put_here, put_others}
use Rattle.roll.proofs.tokens.Tokens.new.Goals as goal
use Rattle.roll.specs.Roll.{hall_tokens}
use Rattle.std.proofs.lemmas.Bool.{cases_eq}

pub loop-hall-init : goal.loop-hall-init
loop-hall-init c = (refl, λ h l. absurd (omega arith), λ h _ m. hall_zeros 128 h)

pub loop-hall-preserved : goal.loop-hall-preserved
loop-hall-preserved c =
    let old = c.loop-hall.tokens in
    let hall = c.loop-hall.hall in
    let inside : hall * 16 + 0 < length old = omega (arith, c.loop-hall.invariant.0) in
    let start : hall * 16 ≡ hall * 16 + 0 = omega arith in
    let new = set old (hall * 16) c.args.chief in
    let here = ap (λ k. hall_tokens (set old k c.args.chief) hall) start ∙ put_here old hall 0 c.args.chief (lit< tt) inside in
    let others : (h : ℕ) → (h ≡ hall → ⊥) → hall_tokens new h ≡ hall_tokens old h =
    λ h n. ap (λ k. hall_tokens (set old k c.args.chief) h) start ∙ put_others old hall 0 c.args.chief (lit< tt) inside h n in (
      length-set old (hall * 16) c.args.chief ∙ c.loop-hall.invariant.0,
      λ h l.
          elim (cases_eq h hall) [
            | inl e ↦ ap (hall_tokens new) e ∙ first_here (hall_tokens new hall) (hall_tokens old hall) c.args.chief (c.loop-hall.invariant.2 hall (omega arith) c.loop-hall-test.true) here
            | inr n ↦ others h n ∙ c.loop-hall.invariant.1 h (omega arith)
          ],
      λ h l m. others h (omega arith) ∙ c.loop-hall.invariant.2 h (omega arith) m,
    )
