-- A turn of the loop over the lines of a sheet.
use Rattle.std.proofs.Common.{◌≡◌, ℕ, ◌+◌, List, [], ◌∷◌, ◌++◌, Option, Result, sym, refl, ap, ap₂, ◌∙◌}
use Rattle.scoring.specs.Running.{State, start, begin, progress_after, pages_after, event_of, noted, taken, scored, sheet}
use Rattle.entries.specs.Words.{lines}
use Rattle.scoring.specs.declared.running.Answered.{Answered}
use Rattle.scoring.specs.declared.running.LogEntry.{LogEntry}
use Rattle.book.specs.Model.{Page, Model}
use Rattle.entries.specs.declared.Misread.{Misread}
use Rattle.entries.specs.declared.Progress.{Progress}

same_state : (s : State) (pages : ℕ → Page) (at : Progress) (count : ℕ) (log : List LogEntry)
    → pages ≡ s.pages → at ≡ s.at → count ≡ s.count → log ≡ s.log
    → record { pages = pages; at = at; count = count; log = log } ≡ s
same_state s pages at count log p a c l =
    ap (λ x. record { pages = x; at = at; count = count; log = log }) p
    ∙ ap (λ x. record { pages = s.pages; at = x; count = count; log = log }) a
    ∙ ap (λ x. record { pages = s.pages; at = s.at; count = x; log = log }) c
    ∙ ap (λ x. record { pages = s.pages; at = s.at; count = s.count; log = x }) l

-- before the first turn all the lines are left
pub at_start : (m : Model) (pages : ℕ → Page) (at : Progress) (count : ℕ) (log : List LogEntry) (left : List (List ℕ)) (text : List ℕ)
    → at ≡ start → count ≡ 0 → log ≡ [] → left ≡ lines text
    → scored m (record { pages = pages; at = at; count = count; log = log }) left ≡ sheet m pages text
at_start m pages at count log left text a c l e =
    ap₂ (λ s ls. scored m s ls) (same_state (begin pages) pages at count log refl a c l) e

-- a turn takes the first of the lines that are left
pub after_turn : (m : Model) (s : State) (line : List ℕ) (rest left : List (List ℕ))
    (pages : ℕ → Page) (at : Progress) (before count : ℕ) (came : Result (Option Answered) Misread) (log : List LogEntry)
    → pages ≡ pages_after m s.pages s.at line → at ≡ progress_after s.at line → came ≡ event_of m s.pages s.at line
    → log ≡ s.log ++ noted (before + 1) came → before ≡ s.count → count ≡ s.count + 1 → left ≡ line ∷ rest
    → scored m (record { pages = pages; at = at; count = count; log = log }) rest ≡ scored m s left
after_turn m s line rest left pages at before count came log p a e g b n l =
    ap (λ t. scored m t rest)
    (same_state (taken m s line) pages at count log p a n (g ∙ ap₂ (λ k x. s.log ++ noted (k + 1) x) b e))
    ∙ sym (ap (scored m s) l)
