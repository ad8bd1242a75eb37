-- What is left of a word's digits, and what they can still come to.
use Rattle.std.proofs.Common.{◌≡◌, ℕ, ◌+◌, ◌-◌, ◌*◌, ◌<◌, ◌≤◌, Bool, cond, leb, List, [], ◌∷◌, length, get_or, drop, Some, None, Option, refl, ap, ◌∙◌, arith}
use Rattle.std.proofs.lemmas.List.{at_drop_more, at_drop_all}
use Rattle.std.proofs.lemmas.Bool.{cond-false, cond_both, lt-leb}
use Rattle.entries.specs.Fields.{digit, digits_from, at_most, number}

-- a word that is not empty, by what its digits come to
pub number_is : (limit : ℕ) (xs : List ℕ) (o : Option ℕ) → 0 < length xs → digits_from 0 xs ≡ o → number limit xs ≡ at_most limit o
number_is limit [] o h e = absurd (omega arith)
number_is limit (b ∷ bs) o h e = ap (at_most limit) e

-- further digits only raise a number, so one that is past the limit stays there
pub past_limit : (limit n : ℕ) (xs : List ℕ) → limit < n → at_most limit (digits_from n xs) ≡ None
past_limit limit n [] h = cond-false (leb n limit) (Some n) None (lt-leb n limit h)
past_limit limit n (b ∷ bs) h =
    let next = n * 10 + (b - 48) in
    cond_both (digit b) (digits_from next bs) None (λ o. at_most limit o ≡ None)
    (λ _. past_limit limit next bs (omega arith))
    (λ _. refl)

-- a loop's step by whether the byte at i is a digit, and its end
module _ (xs : List ℕ) (i n : ℕ) where
  pub digits_more : (t : Bool) → i < length xs → digit (get_or xs i 0) ≡ t →
      digits_from n (drop i xs) ≡ cond t (digits_from (n * 10 + (get_or xs i 0 - 48)) (drop (i + 1) xs)) None
  digits_more t h e =
      at_drop_more (digits_from n) xs i 0 h
      ∙ ap (λ b. cond b (digits_from (n * 10 + (get_or xs i 0 - 48)) (drop (i + 1) xs)) None) e

  pub digits_all : length xs ≤ i → digits_from n (drop i xs) ≡ Some n
  digits_all h = at_drop_all (digits_from n) xs i h
