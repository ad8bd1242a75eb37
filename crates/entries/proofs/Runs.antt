-- The bytes up to the first that passes, and a text in lines.
use Rattle.std.proofs.Common.{◌≡◌, ℕ, suc, ◌<◌, ◌≤◌, Bool, true, false, cond, ltb, not, List, [], ◌∷◌, ◌+◌, length, take, drop, Some, None, unwrap_or, refl, ap, ◌∙◌, position, arith, rules}
use Rattle.std.proofs.lemmas.Bool.{cond_both}
use Rattle.std.proofs.lemmas.Bool.Decides.{nat_tests}
use Rattle.std.proofs.lemmas.List.Sums.{prefix_len-le-length}
use Rattle.std.specs.List.{position_or_len}
use Rattle.entries.specs.Words.{newline, line_of, rest_of, onto, lines}

-- the place of the first that passes, or the length where none does
pub position_or_all : (p : ℕ → Bool) (xs : List ℕ) → unwrap_or (position p xs) (length xs) ≡ position_or_len p xs
position_or_all p xs =
    let n = position_or_len p xs in
    let most : n ≤ length xs = prefix_len-le-length (λ x. not (p x)) xs in
    cond_both (ltb n (length xs)) (Some n) None (λ o. unwrap_or o (length xs) ≡ n)
    (λ _. refl)
    (λ e. grind (arith, nat_tests))

first_by : (end : Bool) (b : ℕ) (bs : List ℕ) → onto b (lines bs) ≡ (b ∷ line_of bs) ∷ lines (rest_of bs)
    → (let n = cond (not end) (1 + position_or_len newline bs) 0 in
    cond end ([] ∷ lines bs) (onto b (lines bs)) ≡ take n (b ∷ bs) ∷ lines (drop 1 (drop n (b ∷ bs))))
first_by true b bs h = refl
first_by false b bs h =
    let n = position_or_len newline bs in
    let next : suc n ≡ 1 + n = omega arith in
    h ∙ ap (λ k. take k (b ∷ bs) ∷ lines (drop 1 (drop k (b ∷ bs)))) next

-- a text that is not empty is its first line and then the lines of the rest
pub lines_first : (b : ℕ) (bs : List ℕ) → lines (b ∷ bs) ≡ line_of (b ∷ bs) ∷ lines (rest_of (b ∷ bs))
lines_first b [] = first_by (newline b) b [] refl
lines_first b (x ∷ xs) = first_by (newline b) b (x ∷ xs) (ap (onto b) (lines_first x xs))

pub lines_cut : (text : List ℕ) → 0 < length text → lines text ≡ line_of text ∷ lines (rest_of text)
lines_cut [] h = absurd (omega arith)
lines_cut (b ∷ bs) h = lines_first b bs

-- a text has no more lines than bytes
pub lines_few : (text : List ℕ) → length (lines text) ≤ length text
lines_few [] = search rules
lines_few (b ∷ bs) =
    let few = lines_few bs in
    cond_both (newline b) ([] ∷ lines bs) (onto b (lines bs)) (λ ls. length ls ≤ suc (length bs))
    (λ _. omega arith)
    (λ _. onto_few b (lines bs) few)
  where
    onto_few : (x : ℕ) (ls : List (List ℕ)) → length ls ≤ length bs → length (onto x ls) ≤ suc (length bs)
    onto_few x [] h = omega arith
    onto_few x (l ∷ ls) h = omega arith
