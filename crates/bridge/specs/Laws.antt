-- What the book of bridge has to show of its deals, as a game of rounds.
use Rattle.std.specs.Prelude.{◌≡◌, ℕ, ◌+◌, ◌-◌, ◌*◌, ◌^◌, ◌<◌, ◌≤◌, true, false, cond, not, ◌&&◌, ◌||◌, length, ℤ, pos, Ok, Err, Result, Some, None, ◌==◌, int_lt, nat_le, nat_lt, refl}
use Rattle.std.proofs.Common.{length-set, sym, ap, ap₂, subst, ◌∙◌, arith}
use Rattle.book.proofs.Below.{sum_bound, sum_same, sum_zero, sum_without, length-table, table_all, length-rows, get_or-rows}
use Rattle.book.proofs.Keys.{held_one, held_below}
use Rattle.book.specs.Keys.{Held}
use Rattle.book.specs.Model.{Page}
use Rattle.book.specs.Numbers.{at}
use Rattle.book.specs.Below.{sum_below}
use Rattle.bridge.specs.Asking.{fair, asked_score, asked_line, asked, keys_of, keys, Ask}
use Rattle.bridge.specs.Page.{line_numbers, deal_numbers, line_from, read_line, read_deal, sized, bridge}
use Rattle.bridge.specs.Points.{Line, line, filled, filled_at, count, has_pair, won, against, points_from, points, east_west_at, east_west, deal_points}
use Rattle.bridge.specs.Rules.{changed}
use Rattle.bridge.specs.declared.asking.DealAsk.{DealAsk}
use Rattle.bridge.specs.declared.asking.DealAsk.TheVariants.{Score, Read}
use Rattle.bridge.specs.declared.sheet.Deal.{Deal}
use Rattle.bridge.specs.declared.sheet.Side.{Side}
use Rattle.bridge.specs.declared.sheet.Side.TheVariants.{NorthSouth, EastWest}
use Rattle.records.specs.declared.Operation.{Operation}
use Rattle.rounds.specs.Fits.{Fits, Covers}
use Rattle.rounds.specs.declared.Fault.{Fault}
use Rattle.rounds.specs.declared.Fault.TheVariants.{NoPlace, NoParty, BadResult, UnknownKind}
use Rattle.rounds.specs.declared.asks.Ask.TheVariants.{Cell, Close, Total}
use Rattle.std.proofs.lemmas.Bool.{cond_both, cond-true, not-false, leb-true, eqb-true, or_left, or_right}

-- No deal gives a total more than 128.
module _ (most : ℕ) where
  abbrev Few : ℕ → Type 0
  Few n = n ≤ most

won_few : (side : Side) (x y : ℤ) → won side x y ≤ 2
won_few NorthSouth x y = cond_both (int_lt y x) 2 _ (Few 2) (λ _. omega arith) (λ _. cond_both (int_lt x y) 0 1 (Few 2) (λ _. omega arith) (λ _. omega arith))
won_few EastWest x y = cond_both (int_lt x y) 2 _ (Few 2) (λ _. omega arith) (λ _. cond_both (int_lt y x) 0 1 (Few 2) (λ _. omega arith) (λ _. omega arith))

against_few : (side : Side) (x y : Line) → against side x y ≤ 2
against_few side None y = omega arith
against_few side (Some mine) None = omega arith
against_few side (Some mine) (Some theirs) = won_few side mine.score theirs.score

points_few : (side : Side) (d : Deal) (b : ℕ) → points side d b ≤ 16
points_few side d b =
    sum_bound (points_from side d b) 2 8 (λ i. cond_both (i == b) 0 _ (Few 2) (λ _. omega arith) (λ _. against_few side (line d b) (line d i)))

east_west_few : (d : Deal) (e : ℕ) → east_west d e ≤ 128
east_west_few d e =
    sum_bound (east_west_at d e) 16 8 (λ b. cond_both (has_pair e (line d b)) (points EastWest d b) 0 (Few 16) (λ _. points_few EastWest d b) (λ _. omega arith))

deal_few : (i : ℕ) (d : Deal) → deal_points d i ≤ 128
deal_few i d =
    cond_both (nat_lt i 8) (points NorthSouth d i) (east_west d (i - 8)) (Few 128) (λ _. omega (arith, points_few NorthSouth d i)) (λ _. east_west_few d (i - 8))

-- A deal without lines gives nothing.
term_zero : (f : ℕ → ℕ) (n k : ℕ) → sum_below n f ≡ 0 → k < n → f k ≡ 0
term_zero f n k h l = omega (arith, sum_without f k n l)

empty_line : (x : Line) → ◌≡◌ {A = ℕ} (cond (filled x) 1 0) 0 → x ≡ None
empty_line None h = refl
empty_line (Some x) h = absurd (omega arith)

no_lines_in : (d : Deal) → not (count d == 0) ≡ false → (b : ℕ) → b < 8 → line d b ≡ None
no_lines_in d h b l = empty_line (line d b) (term_zero (filled_at d) 8 b (eqb-true (count d) 0 (not-false (count d == 0) h)) l)

against_none : (side : Side) (x : Line) → against side x None ≡ 0
against_none side None = refl
against_none side (Some mine) = refl

module _ (d : Deal) (none : (b : ℕ) → b < 8 → line d b ≡ None) where
  no_points_from : (side : Side) (b i : ℕ) → i < 8 → points_from side d b i ≡ 0
  no_points_from side b i l =
      cond_both (i == b) 0 (against side (line d b) (line d i)) (λ n. n ≡ 0) (λ _. refl)
      (λ _. ap (against side (line d b)) (none i l) ∙ against_none side (line d b))

  no_points : (side : Side) (b : ℕ) → points side d b ≡ 0
  no_points side b = sum_same (points_from side d b) (λ _. 0) 8 (no_points_from side b) ∙ sum_zero 8

  no_east_west : (e : ℕ) → east_west d e ≡ 0
  no_east_west e =
      sum_same (east_west_at d e) (λ _. 0) 8 (λ b _. cond_both (has_pair e (line d b)) (points EastWest d b) 0 (λ n. n ≡ 0) (λ _. no_points EastWest b) (λ _. refl))
      ∙ sum_zero 8

  empty_points : (i : ℕ) → deal_points d i ≡ 0
  empty_points i =
      cond_both (nat_lt i 8) (points NorthSouth d i) (east_west d (i - 8)) (λ n. n ≡ 0) (λ _. no_points NorthSouth i) (λ _. no_east_west (i - 8))

-- What an operation asks, case by case of its kind.
module _ (o : Operation) (P : Result Ask Fault → Type 0) (refused : (fault : Fault) → P (Err fault)) where
  pub asked_by : ((o.kind == 32 || o.kind == 33) ≡ true → nat_le o.a 15 ≡ true → (ask : DealAsk) → P (Ok (Cell o.a ask)))
      → (o.kind ≡ 34 → P (Ok (Close o.a))) → (o.kind ≡ 35 → P (Ok (Total o.a))) → P (asked o)
  asked_by deal close total =
      cond_both (o.kind == 32) (asked_score o) _ P
      (λ kind. cond_both (nat_le o.a 15) _ (Err NoPlace) P
      (λ low. cond_both (nat_le o.b 7 && nat_le o.d 7) _ (Err NoParty) P
      (λ _. cond_both (fair o.c) _ (Err BadResult) P
      (λ _. deal (or_left (o.kind == 32) (o.kind == 33) kind) low _) (λ _. refused BadResult)) (λ _. refused NoParty)) (λ _. refused NoPlace))
      (λ _. cond_both (o.kind == 33) (asked_line o) _ P
      (λ kind. cond_both (nat_le o.a 15) _ (Err NoPlace) P
      (λ low. cond_both (nat_le o.b 7) _ (Err NoParty) P
      (λ _. deal (or_right (o.kind == 32) (o.kind == 33) kind) low _) (λ _. refused NoParty)) (λ _. refused NoPlace))
      (λ _. cond_both (o.kind == 34) (Ok (Close o.a)) _ P
      (λ kind. close (eqb-true o.kind 34 kind))
      (λ _. cond_both (o.kind == 35) _ (Err UnknownKind) P
      (λ kind. cond_both (nat_le o.a 15) (Ok (Total o.a)) (Err NoParty) P (λ _. total (eqb-true o.kind 35 kind)) (λ _. refused NoParty))
      (λ _. refused UnknownKind))))

-- Keys cover what is asked.
deal_keys : (o : Operation) → (o.kind == 32 || o.kind == 33) ≡ true → nat_le o.a 15 ≡ true → Held (keys o) o.a
deal_keys o kind low = subst (λ m. Held m o.a) (sym (cond-true (o.kind == 32 || o.kind == 33) _ _ kind ∙ cond-true (nat_le o.a 15) _ _ low)) (held_one o.a)

close_keys : (o : Operation) → o.kind ≡ 34 → keys o ≡ 2 ^ 32 + 65535
close_keys o kind = ap (λ k. keys_of k o.a) kind

total_keys : (o : Operation) → o.kind ≡ 35 → keys o ≡ 2 ^ 32
total_keys o kind = ap (λ k. keys_of k o.a) kind

covers : (o : Operation) → Covers (keys o) (asked o)
covers o =
    asked_by o (Covers (keys o)) (λ _. tt)
    (λ kind low ask. (omega (arith, leb-true o.a 15 low), deal_keys o kind low))
    (λ kind.
    let all = sym (close_keys o kind) in
    (λ k l. subst (λ m. Held m k) all (held_below (2 ^ 32 + 65535) 16 refl k l), subst (λ m. Held m 32) all (record { bit = refl })))
    (λ kind. subst (λ m. Held m 32) (sym (total_keys o kind)) (held_one 32))

-- A deal that is written on a page is read again from it.
pub line_wide : (x : Line) → length (line_numbers x) ≡ 3
line_wide None = refl
line_wide (Some x) = refl

line_again : (x : Line) → read_line (line_numbers x) 0 ≡ x
line_again None = refl
line_again (Some x) = refl

pub deal_wide : (d : Deal) → length (deal_numbers d) ≡ 24
deal_wide d = length-rows 3 (λ b. line_numbers (line d b)) (λ b. line_wide (line d b)) 8

module _ (p : Page) (i : ℕ) (d : Deal) (same : (j : ℕ) → j < 24 → at p (i + j) ≡ at (deal_numbers d) j) where
  at_line : (b j k : ℕ) → b < 8 → j < 3 → k ≡ i + 3 * b + j → at p k ≡ at (line_numbers (line d b)) j
  at_line b j k hb hj e =
      ap (at p) (omega arith) ∙ same (3 * b + j) (omega arith)
      ∙ get_or-rows 3 (λ k. line_numbers (line d k)) (λ k. line_wide (line d k)) 8 b j (pos 0) hb hj

  line_read : (b : ℕ) → b < 8 → read_line p (i + 3 * b) ≡ line d b
  line_read b hb =
      let x = line_numbers (line d b) in
      ap₂ (λ y z. line_from y z (at p (i + 3 * b + 2))) (at_line b 0 (i + 3 * b) hb (omega arith) (omega arith)) (at_line b 1 (i + 3 * b + 1) hb (omega arith) refl)
      ∙ ap (line_from (at x 0) (at x 1)) (at_line b 2 (i + 3 * b + 2) hb (omega arith) refl)
      ∙ line_again (line d b)

  deal_again : length d.lines ≡ 8 → read_deal p i ≡ d
  deal_again long = ap (λ lines. record { lines = lines }) (sym (table_all 8 (λ b. read_line p (i + 3 * b)) d.lines None long (λ b hb. sym (line_read b hb))))

sized_changed : (d : Deal) (ask : DealAsk) → sized d ≡ true → sized (changed d ask) ≡ true
sized_changed d (Score b e c) h = ap (λ n. n == 8) (length-set d.lines b (Some (record { pair = e; score = c }))) ∙ h
sized_changed d (Read b) h = h

pub bridge_fits : Fits 2 bridge
bridge_fits = record {
  named = refl;
  covers = covers;
  gains = deal_few;
  most = omega arith;
  idle = λ i d h. empty_points d (no_lines_in d h) i;
  sized_empty = refl;
  sized_changed = sized_changed;
  sized_read = λ p i. ap (λ n. n == 8) (length-table 8 (λ b. read_line p (i + 3 * b)));
  wide = deal_wide;
  read_again = λ p i d sized same. deal_again p i d same (eqb-true (length d.lines) 8 sized);
}
