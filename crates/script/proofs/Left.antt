-- The parts that are left, by whether a word is.
use Rattle.std.proofs.Common.{◌≡◌, ℕ, zero, suc, ◌-◌, ◌+◌, ◌<◌, true, false, eqb, List, length, Ok, Err, refl, ap, ◌∙◌, sym, arith}
use Rattle.std.proofs.lemmas.Bool.{cond-true, cond-false}
use Rattle.entries.specs.Words.{first_word, past_word}
use Rattle.records.specs.declared.Operation.{Operation}
use Rattle.script.specs.Parts.{with_part, parts}
use Rattle.script.specs.Words.{and_then}
use Rattle.script.specs.declared.Settings.{Settings}
use Rattle.script.specs.declared.expected.Misread.{Misread}

module _ (at : Settings) (operations : List Operation) (place : ℕ) (line : List ℕ) where
  parts_end : (n : ℕ) → eqb (length (first_word line)) 0 ≡ true → parts n at operations place line ≡ Ok operations
  unfolding parts
  parts_end zero h = refl
  parts_end (suc n) h = cond-true (eqb (length (first_word line)) 0) (Ok operations) _ h

  more_parts : (m : ℕ) → eqb (length (first_word line)) 0 ≡ false →
      parts (suc m) at operations place line
      ≡ and_then (with_part at operations (first_word line) place (past_word line)) (λ r. parts m at r.0 r.1 r.2)
  unfolding parts
  more_parts m e = cond-false (eqb (length (first_word line)) 0) (Ok operations) _ e

  -- the next word, its place, and what follows it
  module _ (word : List ℕ) (word_at : ℕ) (rest : List ℕ)
      (is_word : word ≡ first_word line) (is_place : word_at ≡ place) (is_rest : rest ≡ past_word line) where
    -- no word is left
    pub no_part : (n : ℕ) → eqb (length word) 0 ≡ true → Ok operations ≡ parts n at operations place line
    no_part n h = sym (parts_end n (ap (λ w. eqb (length w) 0) (sym is_word) ∙ h))

    one_part : with_part at operations word word_at rest ≡ with_part at operations (first_word line) place (past_word line)
    one_part =
        ap (λ w. with_part at operations w word_at rest) is_word
        ∙ ap (λ p. with_part at operations (first_word line) p rest) is_place
        ∙ ap (λ r. with_part at operations (first_word line) place r) is_rest

    then_parts : (n i : ℕ) → i < n → eqb (length word) 0 ≡ false →
        and_then (with_part at operations word word_at rest) (λ r. parts (n - (i + 1)) at r.0 r.1 r.2)
        ≡ parts (n - i) at operations place line
    then_parts n i h e =
        let next : n - i ≡ suc (n - (i + 1)) = omega arith in
        let some : eqb (length (first_word line)) 0 ≡ false = ap (λ w. eqb (length w) 0) (sym is_word) ∙ e in
        ap (λ q. and_then q (λ r. parts (n - (i + 1)) at r.0 r.1 r.2)) one_part
        ∙ sym (more_parts (n - (i + 1)) some)
        ∙ ap (λ k. parts k at operations place line) (sym next)

    -- a part is at fault
    pub part_at_fault : (n i : ℕ) → i < n → eqb (length word) 0 ≡ false → (m : Misread) →
        Err m ≡ with_part at operations word word_at rest → Err m ≡ parts (n - i) at operations place line
    part_at_fault n i h e m is =
        ap (λ r. and_then r (λ t. parts (n - (i + 1)) at t.0 t.1 t.2)) is ∙ then_parts n i h e

    -- a part was read
    pub part_read : (n i : ℕ) → i < n → eqb (length word) 0 ≡ false → (r : List Operation × ℕ × List ℕ) →
        Ok r ≡ with_part at operations word word_at rest →
        parts (n - (i + 1)) at r.0 r.1 r.2 ≡ parts (n - i) at operations place line
    part_read n i h e r is =
        ap (λ q. and_then q (λ t. parts (n - (i + 1)) at t.0 t.1 t.2)) is ∙ then_parts n i h e
