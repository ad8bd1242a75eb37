-- The parts of a sheet, and which of them an operation reads and writes.
use Rattle.std.specs.Prelude.{◌≡◌, ℕ, ◌<◌, Bool, true, false, cond, not, ◌||◌, List, length, ℤ, pos, Ok, Err, Result, ◌==◌, nat_lt, slice_index, refl}
use Rattle.std.proofs.Common.{get_or-set_same, get_or-set_other, sym, ap, ap₂, ◌∙◌, arith}
use Rattle.rounds.specs.Again.{same_sheet}
use Rattle.rounds.specs.Fits.{Covers}
use Rattle.rounds.specs.Games.{Game}
use Rattle.rounds.specs.Kept.{Sized}
use Rattle.rounds.specs.Sheets.{cell, with_cell, says, changed, said, left, made}
use Rattle.rounds.specs.declared.Fault.{Fault}
use Rattle.rounds.specs.declared.asks.Ask.{Ask}
use Rattle.rounds.specs.declared.asks.Ask.TheVariants.{Cell, Close, Total}
use Rattle.rounds.specs.declared.sheets.Sheet.{Sheet}
use Rattle.std.proofs.lemmas.List.{same_lists, get_or_default, set-get_or}
use Rattle.std.proofs.lemmas.Bool.{cond-true, cond-false, lt-ltb, le-ltb, eq-eqb, eqb-true, eqb-false, or_left, or_right, true≢false, false≢true}

-- a cell's part, or the round with the totals
pub data Part (C : Type 0) : Type 0 where
  one : C → Part C
  score : ℕ → List ℕ → Part C

one_same : {C : Type 0} (x y : C) → one x ≡ one y → x ≡ y
one_same x y e = cc

module _ {C : Type 0} where
  abbrev the_score : ℕ → List ℕ → Part C
  the_score r x = score r x

  round_same : (r q : ℕ) (x y : List ℕ) → the_score r x ≡ the_score q y → r ≡ q
  round_same r q x y e = cc

  totals_same : (r q : ℕ) (x y : List ℕ) → the_score r x ≡ the_score q y → x ≡ y
  totals_same r q x y e = cc

-- an operation on a cell reads the round too
abbrev pub reads : {A : Type 0} {cells totals : ℕ} → Result (Ask A cells totals) Fault → ℕ → Bool
reads {cells = cells} (Ok (Cell a ask)) k = k == a || not (nat_lt k cells)
reads {cells = cells} (Ok (Close round)) k = true
reads {cells = cells} (Ok (Total i)) k = not (nat_lt k cells)
reads (Err fault) k = false

abbrev pub writes : {A : Type 0} {cells totals : ℕ} → Result (Ask A cells totals) Fault → ℕ → Bool
writes (Ok (Cell a ask)) k = k == a
writes (Ok (Close round)) k = true
writes (Ok (Total i)) k = false
writes (Err fault) k = false

pub written_read : {A : Type 0} {cells totals : ℕ} (x : Result (Ask A cells totals) Fault) (k : ℕ) → writes x k ≡ true → reads x k ≡ true
written_read {cells = cells} (Ok (Cell a ask)) k h = or_left (k == a) (not (nat_lt k cells)) h
written_read (Ok (Close round)) k h = h
written_read (Ok (Total i)) k h = absurd (false≢true h)
written_read (Err fault) k h = h

module _ {C A : Type 0} {cells totals : ℕ} (g : Game C A cells totals) where
  -- parts below the number of cells are the cells; any other is the round with the totals
  abbrev pub part : Sheet C cells totals → ℕ → Part C
  part s k = cond (nat_lt k cells) (one (cell g s k)) (score s.round s.totals)

  part_cell : (s : Sheet C cells totals) (k : ℕ) → k < cells → part s k ≡ one (cell g s k)
  part_cell s k h = cond-true (nat_lt k cells) _ _ (lt-ltb k cells h)

  abbrev score_of : Sheet C cells totals → Part C
  score_of s = score s.round s.totals

  part_score : (s : Sheet C cells totals) → part s cells ≡ score_of s
  part_score s = cond-false (nat_lt cells cells) _ _ (le-ltb cells cells (omega arith))

  cell_same : (s t : Sheet C cells totals) (k : ℕ) → k < cells → part s k ≡ part t k → cell g s k ≡ cell g t k
  cell_same s t k h e = one_same (cell g s k) (cell g t k) (sym (part_cell s k h) ∙ e ∙ part_cell t k h)

  score_same : (s t : Sheet C cells totals) → part s cells ≡ part t cells → score_of s ≡ score_of t
  score_same s t e = sym (part_score s) ∙ e ∙ part_score t

  same_round : (s t : Sheet C cells totals) → part s cells ≡ part t cells → s.round ≡ t.round
  same_round s t e = round_same s.round t.round s.totals t.totals (score_same s t e)

  same_totals : (s t : Sheet C cells totals) → part s cells ≡ part t cells → s.totals ≡ t.totals
  same_totals s t e = totals_same s.round t.round s.totals t.totals (score_same s t e)

  pub whole : (s t : Sheet C cells totals) → Sized g s → Sized g t → ((k : ℕ) → part s k ≡ part t k) → s ≡ t
  whole s t p q same =
      same_sheet s t
      (same_round s t (same cells))
      (same_lists s.cells t.cells (p.all_cells ∙ sym q.all_cells) (λ k d l.
      get_or_default s.cells k d g.empty l ∙ cell_same s t k (omega (arith, p.all_cells)) (same k) ∙ get_or_default t.cells k g.empty d (omega (arith, p.all_cells, q.all_cells))))
      (same_totals s t (same cells))

  -- a cell that is put leaves the other parts
  put_leaves : (s : Sheet C cells totals) (a k : ℕ) (x : C) → (k == a) ≡ false → part (with_cell g s a x) k ≡ part s k
  put_leaves s a k x h = ap (λ y. cond (nat_lt k cells) (one y) (score s.round s.totals)) (get_or-set_other s.cells a k x g.empty (eqb-false k a h))

  changed_leaves : (s : Sheet C cells totals) (x : Ask A cells totals) (k : ℕ) → writes (Ok x) k ≡ false → part (changed g s x) k ≡ part s k
  changed_leaves s (Cell a ask) k h = put_leaves s a k (g.changed (cell g s a) ask) h
  changed_leaves s (Close round) k h = absurd (true≢false h)
  changed_leaves s (Total i) k h = refl

  left_leaves : (s : Sheet C cells totals) (x : Ask A cells totals) (r : Result ℤ Fault) (k : ℕ) → writes (Ok x) k ≡ false → part (left g s x r) k ≡ part s k
  left_leaves s x (Ok value) k h = changed_leaves s x k h
  left_leaves s x (Err fault) k h = refl

  pub leaves : (s : Sheet C cells totals) (x : Result (Ask A cells totals) Fault) (k : ℕ) → writes x k ≡ false → part (made g s x) k ≡ part s k
  leaves s (Ok ask) k h = left_leaves s ask (says g s ask) k h
  leaves s (Err fault) k h = refl

  module _ (s t : Sheet C cells totals) (p : Sized g s) (q : Sized g t) where
    -- the two sheets are the same in all that is read
    abbrev Alike : Result (Ask A cells totals) Fault → Type 0
    Alike x = (k : ℕ) → reads x k ≡ true → part s k ≡ part t k

    put_same : (a k : ℕ) (x y : C) → a < cells → (k == a) ≡ true → x ≡ y → part (with_cell g s a x) k ≡ part (with_cell g t a y) k
    put_same a k x y l e same =
        let here : a < length s.cells = omega (arith, p.all_cells) in
        let there : a < length t.cells = omega (arith, q.all_cells) in
        ap (part (with_cell g s a x)) (eqb-true k a e) ∙ part_cell (with_cell g s a x) a l
        ∙ ap one (get_or-set_same s.cells a x g.empty here ∙ same ∙ sym (get_or-set_same t.cells a y g.empty there))
        ∙ sym (ap (part (with_cell g t a y)) (eqb-true k a e) ∙ part_cell (with_cell g t a y) a l)

    -- the cell and the round of an operation on a cell
    read_cell : (a : ℕ) (ask : A) → a < cells → Alike (Ok (Cell a ask)) → cell g s a ≡ cell g t a
    read_cell a ask l same = cell_same s t a l (same a (or_left (a == a) _ (eq-eqb a a refl)))

    past : not (nat_lt cells cells) ≡ true
    past = ap not (le-ltb cells cells (omega arith))

    read_round : (a : ℕ) (ask : A) → Alike (Ok (Cell a ask)) → s.round ≡ t.round
    read_round a ask same = same_round s t (same cells (or_right (cells == a) (not (nat_lt cells cells)) past))

    says_same : (keys : ℕ) (x : Ask A cells totals) → Covers keys (Ok x) → Alike (Ok x) → says g s x ≡ says g t x
    says_same keys (Cell a ask) w same = ap₂ (λ y r. g.says y r ask) (read_cell a ask w.0 same) (read_round a ask same)
    says_same keys (Close round) w same = ap (λ u. says g u (Close round)) (whole s t p q (λ k. same k refl))
    says_same keys (Total i) w same = ap (λ ts. Ok (pos (slice_index ts i))) (same_totals s t (same cells past))

    pub answers : (keys : ℕ) (x : Result (Ask A cells totals) Fault) → Covers keys x → Alike x → said g s x ≡ said g t x
    answers keys (Ok ask) w same = says_same keys ask w same
    answers keys (Err fault) w same = refl

    changed_same : (keys : ℕ) (x : Ask A cells totals) → Covers keys (Ok x) → Alike (Ok x) → (k : ℕ) → writes (Ok x) k ≡ true → part (changed g s x) k ≡ part (changed g t x) k
    changed_same keys (Cell a ask) w same k e =
        put_same a k (g.changed (cell g s a) ask) (g.changed (cell g t a) ask) w.0 e (ap (λ y. g.changed y ask) (read_cell a ask w.0 same))
    changed_same keys (Close round) w same k e = ap (λ u. part (changed g u (Close round)) k) (whole s t p q (λ j. same j refl))
    changed_same keys (Total i) w same k e = absurd (false≢true e)

    left_same : (keys : ℕ) (x : Ask A cells totals) (r : Result ℤ Fault) → Covers keys (Ok x) → Alike (Ok x) → (k : ℕ) → writes (Ok x) k ≡ true → part (left g s x r) k ≡ part (left g t x r) k
    left_same keys x (Ok value) w same k e = changed_same keys x w same k e
    left_same keys x (Err fault) w same k e = same k (written_read (Ok x) k e)

    pub makes : (keys : ℕ) (x : Result (Ask A cells totals) Fault) → Covers keys x → Alike x → (k : ℕ) → writes x k ≡ true → part (made g s x) k ≡ part (made g t x) k
    makes keys (Ok ask) w same k e = ap (λ r. part (left g s ask r) k) (says_same keys ask w same) ∙ left_same keys ask (says g t ask) w same k e
    makes keys (Err fault) w same k e = absurd (false≢true e)

    -- what is asked of a cell and looks at no round goes by that cell alone, in the answer and in what it makes of the cell
    module _ (a : ℕ) (ask : A) (no_round : (x : C) (r q : ℕ) → g.says x r ask ≡ g.says x q ask) (same : cell g s a ≡ cell g t a) where
      pub cell_answers : says g s (Cell a ask) ≡ says g t (Cell a ask)
      cell_answers = ap (λ x. g.says x s.round ask) same ∙ no_round (cell g t a) s.round t.round

      cell_left : (r : Result ℤ Fault) → a < cells → part (left g s (Cell a ask) r) a ≡ part (left g t (Cell a ask) r) a
      cell_left (Ok value) l = put_same a a (g.changed (cell g s a) ask) (g.changed (cell g t a) ask) l (eq-eqb a a refl) (ap (λ x. g.changed x ask) same)
      cell_left (Err fault) l = part_cell s a l ∙ ap one same ∙ sym (part_cell t a l)

      pub cell_makes : a < cells → part (made g s (Ok (Cell a ask))) a ≡ part (made g t (Ok (Cell a ask))) a
      cell_makes l = ap (λ r. part (left g s (Cell a ask) r) a) cell_answers ∙ cell_left (says g t (Cell a ask)) l

  -- what changes no cell leaves the sheet
  reading_changes : (s : Sheet C cells totals) (a : ℕ) (ask : A) → g.changed (cell g s a) ask ≡ cell g s a → changed g s (Cell a ask) ≡ s
  reading_changes s a ask idle =
      ap (with_cell g s a) idle ∙ ap (λ xs. record { round = s.round; cells = xs; totals = s.totals }) (set-get_or s.cells a g.empty)

  reading_left : (s : Sheet C cells totals) (a : ℕ) (ask : A) (r : Result ℤ Fault) → g.changed (cell g s a) ask ≡ cell g s a → left g s (Cell a ask) r ≡ s
  reading_left s a ask (Ok value) idle = reading_changes s a ask idle
  reading_left s a ask (Err fault) idle = refl

  pub reading_leaves : (s : Sheet C cells totals) (a : ℕ) (ask : A) → g.changed (cell g s a) ask ≡ cell g s a → made g s (Ok (Cell a ask)) ≡ s
  reading_leaves s a ask idle = reading_left s a ask (says g s (Cell a ask)) idle
