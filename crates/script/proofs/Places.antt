-- A word that is read leaves a shorter line.
use Rattle.std.proofs.Common.{◌≡◌, ℕ, ◌<◌, ◌≤◌, List, [], length, take, drop, None, refl, arith}
use Rattle.std.proofs.lemmas.List.{length-take, length-drop}
use Rattle.std.specs.List.{position_or_len}
use Rattle.entries.specs.Fields.{value}
use Rattle.entries.specs.Words.{blank, wordy, from_first, first_word, past_word}
use Rattle.entries.specs.declared.Field.{Field}

cut_shorter : (n : ℕ) (xs : List ℕ) → 0 < length (take n xs) → length (drop n xs) < length xs
cut_shorter n xs h = grind (arith, length-take, length-drop)

drop_at_most : (n : ℕ) (xs : List ℕ) → length (drop n xs) ≤ length xs
drop_at_most n xs = grind (arith, length-drop)

pub past_shorter : (line : List ℕ) → 0 < length (first_word line) → length (past_word line) < length line
past_shorter line h =
    let from = from_first wordy line in
    let short = cut_shorter (position_or_len blank from) from h in
    let most = drop_at_most (position_or_len wordy line) line in
    omega arith

-- the empty word stands for nothing
pub no_value : (f : Field) → value f [] ≡ None
no_value Field.Byte = refl
no_value Field.Number = refl
no_value Field.Count = refl
no_value Field.Token = refl
no_value Field.Whole = refl
no_value Field.Score = refl
