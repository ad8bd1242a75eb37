-- The tokens of a hall in the table of all halls' tokens.
use Rattle.std.specs.Prelude.{◌≡◌, ℕ, ◌+◌, ◌*◌, ◌<◌, List, length, set, replicate, ◌≢◌, slice_index, slice_set, refl}
use Rattle.std.proofs.Common.{length-set, get_or-set_same, get_or-set_other, inl, inr, sym, ap, ◌∙◌, arith}
use Rattle.book.proofs.Below.{length-table, get_or-table, table_all}
use Rattle.book.proofs.Tables.{get_or-replicate_same}
use Rattle.roll.specs.Roll.{entry, hall_tokens, first_tokens}
use Rattle.std.proofs.lemmas.Bool.{cases_eq}

module _ (all : List ℕ) (h : ℕ) where
  pub length_hall : length (hall_tokens all h) ≡ 16
  length_hall = length-table 16 (λ g. slice_index all (h * 16 + g))

  pub entry_hall : (g : ℕ) → g < 16 → entry (hall_tokens all h) g ≡ slice_index all (h * 16 + g)
  entry_hall g l = get_or-table 16 (λ k. slice_index all (h * 16 + k)) g 0 l

  -- a hall's tokens are known by its entries
  pub hall_is : (tokens : List ℕ) → length tokens ≡ 16 → ((g : ℕ) → g < 16 → slice_index all (h * 16 + g) ≡ entry tokens g) → hall_tokens all h ≡ tokens
  hall_is tokens n same = sym (table_all 16 (λ g. slice_index all (h * 16 + g)) tokens 0 n (λ g l. sym (same g l)))

-- a write at one hall's entry
module _ (all : List ℕ) (hall a v : ℕ) (low : a < 16) (inside : hall * 16 + a < length all) where
  pub put_here : hall_tokens (slice_set all (hall * 16 + a) v) hall ≡ slice_set (hall_tokens all hall) a v
  put_here =
      hall_is (slice_set all (hall * 16 + a) v) hall (slice_set (hall_tokens all hall) a v) (simp length-set (length_hall all hall)) (λ g l.
      elim (cases_eq g a) [
        | inl e ↦
            ap (λ k. slice_index (slice_set all (hall * 16 + a) v) (hall * 16 + k)) e ∙ get_or-set_same all (hall * 16 + a) v 0 inside
            ∙ sym (ap (entry (slice_set (hall_tokens all hall) a v)) e ∙ get_or-set_same (hall_tokens all hall) a v 0 (omega (arith, length_hall all hall)))
        | inr n ↦
            get_or-set_other all (hall * 16 + a) (hall * 16 + g) v 0 (omega arith) ∙ sym (entry_hall all hall g l)
            ∙ sym (get_or-set_other (hall_tokens all hall) a g v 0 n)
      ])

  pub put_others : (h : ℕ) → (h ≢ hall) → hall_tokens (slice_set all (hall * 16 + a) v) h ≡ hall_tokens all h
  put_others h n =
      hall_is (slice_set all (hall * 16 + a) v) h (hall_tokens all h) (length_hall all h) (λ g l.
      get_or-set_other all (hall * 16 + a) (h * 16 + g) v 0 (omega arith) ∙ sym (entry_hall all h g l))

pub hall_zeros : (n h : ℕ) → hall_tokens (replicate n 0) h ≡ replicate 16 0
hall_zeros n h =
    hall_is (replicate n 0) h (replicate 16 0) refl (λ g l. get_or-replicate_same n (h * 16 + g) 0 ∙ sym (get_or-replicate_same 16 g 0))

-- the chief's token, put at a hall with no tokens
pub first_here : (tokens empty : List ℕ) (chief : ℕ) → empty ≡ replicate 16 0 → tokens ≡ slice_set empty 0 chief → tokens ≡ first_tokens chief
first_here tokens empty chief e put = put ∙ ap (λ ts. set ts 0 chief) e
