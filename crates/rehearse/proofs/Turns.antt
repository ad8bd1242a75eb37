-- A turn of the loop over the lines of a script.
use Rattle.std.proofs.Common.{◌≡◌, ℕ, ◌+◌, List, [], ◌∷◌, ◌++◌, Option, Result, sym, ap, ap₂, ◌∙◌}
use Rattle.entries.specs.Words.{lines}
use Rattle.order.specs.declared.calls.Call.{Call}
use Rattle.rehearse.specs.Scripts.{State, settings_by, calls_by, marks_by, begin, taken, read, script_of}
use Rattle.rehearse.specs.declared.lines.Mark.{Mark}
use Rattle.script.specs.Reading.{first_settings, reading}
use Rattle.script.specs.declared.Line.{Line}
use Rattle.script.specs.declared.Settings.{Settings}
use Rattle.script.specs.declared.expected.Misread.{Misread}

same_state : (s : State) (at : Settings) (count : ℕ) (calls : List Call) (marks : List Mark)
    → at ≡ s.at → count ≡ s.count → calls ≡ s.calls → marks ≡ s.marks
    → record { at = at; count = count; calls = calls; marks = marks } ≡ s
same_state s at count calls marks a n c m =
    ap (λ x. record { at = x; count = count; calls = calls; marks = marks }) a
    ∙ ap (λ x. record { at = s.at; count = x; calls = calls; marks = marks }) n
    ∙ ap (λ x. record { at = s.at; count = s.count; calls = x; marks = marks }) c
    ∙ ap (λ x. record { at = s.at; count = s.count; calls = s.calls; marks = x }) m

-- before the first turn all the lines are left
pub at_start : (at : Settings) (count : ℕ) (calls : List Call) (marks : List Mark) (left : List (List ℕ)) (text : List ℕ)
    → at ≡ first_settings → count ≡ 0 → calls ≡ [] → marks ≡ [] → left ≡ lines text
    → read (record { at = at; count = count; calls = calls; marks = marks }) left ≡ script_of text
at_start at count calls marks left text a n c m l =
    ap₂ (λ s ls. read s ls) (same_state begin at count calls marks a n c m) l

-- a turn takes the first of the lines that are left
pub after_turn : (s : State) (line : List ℕ) (rest left : List (List ℕ)) (at : Settings) (before count : ℕ)
    (said : Result (Option Line) Misread) (calls : List Call) (marks : List Mark)
    → said ≡ reading line s.at → at ≡ settings_by s.at said → calls ≡ s.calls ++ calls_by said → marks ≡ s.marks ++ marks_by (before + 1) said
    → before ≡ s.count → count ≡ s.count + 1 → left ≡ line ∷ rest
    → read (record { at = at; count = count; calls = calls; marks = marks }) rest ≡ read s left
after_turn s line rest left at before count said calls marks e a c m b n l =
    ap (λ t. read t rest)
    (same_state (taken s line) at count calls marks (a ∙ ap (settings_by s.at) e) n (c ∙ ap (λ r. s.calls ++ calls_by r) e)
    (m ∙ ap₂ (λ k r. s.marks ++ marks_by (k + 1) r) b e))
    ∙ sym (ap (read s) l)
