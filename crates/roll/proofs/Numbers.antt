-- Each number of a page of the roll: a token, or a number of the page below.
use Rattle.std.proofs.Common.{◌≡◌, ℕ, ◌-◌, ◌<◌, ◌≤◌, List, length, map, pos, Some, None, sym, ap, ◌∙◌, arith}
use Rattle.book.proofs.Below.{slice_get-append_left, slice_get-append_right}
use Rattle.book.specs.Model.{Page, number_at}
use Rattle.roll.specs.Roll.{entry, hall_tokens, page_of}
use Rattle.roll.specs.Table.{length_hall}
use Rattle.roll.specs.declared.halls.Roll.{Roll}
use Rattle.std.specs.List.{slice_get}
use Rattle.std.proofs.lemmas.Bool.{cond_below}
use Rattle.std.proofs.lemmas.List.{length-map, get_or-map}
use Rattle.std.proofs.lemmas.Option.{slice_get-get_or}

module _ {B : Type 0} (pages : B → ℕ → Page) (r : Roll B) (hall : ℕ) where
  abbrev tokens : List ℕ
  tokens = hall_tokens r.tokens.tokens hall

  many : length (map pos tokens) ≡ 16
  many = length-map tokens pos ∙ length_hall r.tokens.tokens hall

  pub number_of_token : (place : ℕ) → place < 16 → slice_get (page_of pages r hall) place ≡ Some (pos (entry tokens place))
  number_of_token place h =
      slice_get-append_left (map pos tokens) (pages r.below hall) place (omega (arith, many))
      ∙ slice_get-get_or (map pos tokens) place (pos 0) (omega (arith, many))
      ∙ ap Some (get_or-map pos tokens place 0 (pos 0) (omega (arith, length_hall r.tokens.tokens hall)))

  pub number_below : (same place : ℕ) → same ≡ hall → hall < 8 → 16 ≤ place
      → number_at (pages r.below) same (place - 16) ≡ slice_get (page_of pages r hall) place
  number_below same place e inside past =
      ap (λ h. number_at (pages r.below) h (place - 16)) e
      ∙ sym (cond_below hall 8 (slice_get (pages r.below hall) (place - 16)) None inside)
      ∙ sym (slice_get-append_right (map pos tokens) (pages r.below hall) 16 place (sym many) past)
