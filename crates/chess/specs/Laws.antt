-- What the book of chess shows of its boards, so that it keeps the law of books.
use Rattle.std.specs.Prelude.{◌≡◌, ℕ, ◌+◌, ◌<◌, ◌≤◌, ◌^◌, ◌-◌, true, false, cond, not, ◌&&◌, length, pos, Some, None, Ok, Err, Option, ◌==◌, is_some, nat_le, refl}
use Rattle.std.proofs.Common.{ap, ap₂, sym, subst, ◌∙◌, arith}
use Rattle.book.proofs.Keys.{held_one, held_below}
use Rattle.book.specs.Keys.{Held}
use Rattle.book.specs.Model.{Page}
use Rattle.book.specs.Numbers.{natural, at}
use Rattle.chess.specs.Asking.{Asked, player, outcome, seating, at_board, of_board, of_cell, asked, keys_of, keys}
use Rattle.chess.specs.Page.{game_numbers, board_numbers, board_from, read_board, chess}
use Rattle.chess.specs.Rules.{result_number, white_points, black_points, game_gain}
use Rattle.chess.specs.declared.asking.BoardAsk.{BoardAsk}
use Rattle.chess.specs.declared.asking.BoardAsk.TheVariants.{Seat, Enter, Read}
use Rattle.chess.specs.declared.sheet.Board.{Board}
use Rattle.chess.specs.declared.sheet.Game.{Game}
use Rattle.chess.specs.declared.sheet.Outcome.{Outcome}
use Rattle.chess.specs.declared.sheet.Outcome.TheVariants.{White, Draw, Black}
use Rattle.records.specs.declared.Operation.{Operation}
use Rattle.rounds.specs.Fits.{Covers, Fits}
use Rattle.rounds.specs.declared.Fault.{Fault}
use Rattle.rounds.specs.declared.Fault.TheVariants.{NoPlace, NoParty, UnknownKind}
use Rattle.rounds.specs.declared.asks.Ask.TheVariants.{Cell, Close, Total}
use Rattle.std.proofs.lemmas.Bool.{cond_both, leb-true, eqb-true, and_parts, cond-true, true≢false}

outcome_again : (r : Option Outcome) → outcome (pos (result_number r)) ≡ r
outcome_again None = refl
outcome_again (Some White) = refl
outcome_again (Some Draw) = refl
outcome_again (Some Black) = refl

wide : (x : Option Game) → length (game_numbers x) ≡ 4
wide None = refl
wide (Some g) = refl

board_again : (x : Option Game) → read_board (game_numbers x) 0 ≡ record { game = x }
board_again None = refl
board_again (Some g) = ap (λ r. record { game = Some (record { white = g.white; black = g.black; result = r }) }) (outcome_again g.result)

read_again : (p : Page) (i : ℕ) (x : Board) → ((j : ℕ) → j < 4 → at p (i + j) ≡ at (board_numbers x) j) → read_board p i ≡ x
read_again p i x same =
    let n = board_numbers x in
    let start : i ≡ i + 0 = omega arith in
    ap₂ (λ a b. board_from a b (at p (i + 2)) (at p (i + 3))) (ap (at p) start ∙ same 0 (omega arith)) (same 1 (omega arith))
    ∙ ap₂ (λ a b. board_from (at n 0) (at n 1) a b) (same 2 (omega arith)) (same 3 (omega arith))
    ∙ board_again x.game

white_few : (r : Option Outcome) → white_points r ≤ 2
white_few None = omega arith
white_few (Some White) = omega arith
white_few (Some Draw) = omega arith
white_few (Some Black) = omega arith

black_few : (r : Option Outcome) → black_points r ≤ 2
black_few None = omega arith
black_few (Some White) = omega arith
black_few (Some Draw) = omega arith
black_few (Some Black) = omega arith

gain_few : (n : ℕ) (x : Option Game) → game_gain n x ≤ 4
gain_few n None = omega arith
gain_few n (Some g) =
    let white : cond (g.white == n) (white_points g.result) 0 ≤ 2 = cond_both (g.white == n) _ 0 (λ k. k ≤ 2) (λ _. white_few g.result) (λ _. omega arith) in
    let black : cond (g.black == n) (black_points g.result) 0 ≤ 2 = cond_both (g.black == n) _ 0 (λ k. k ≤ 2) (λ _. black_few g.result) (λ _. omega arith) in
    omega arith

-- Whoever is seated is one of the players 1 to 64.
pub record Player (n : ℕ) : Type 0 where
  pub low : 1 ≤ n
  pub high : n ≤ 64

abbrev pub FairSeat : BoardAsk → Type 0
FairSeat (Seat white black) = Player white × Player black
FairSeat (Enter round result) = Unit {0}
FairSeat Read = Unit {0}

is_player : (n : ℕ) → player n ≡ true → Player n
is_player n h = let both = and_parts (nat_le 1 n) (nat_le n 64) h in record { low = leb-true 1 n both.0; high = leb-true n 64 both.1 }

-- What an operation asks, case by case of its kind.
module _ (o : Operation) (P : Asked → Type 0) (refused : (fault : Fault) → P (Err fault)) where
  seated_by : ((ask : BoardAsk) → FairSeat ask → P (Ok (Cell o.a ask))) → P (of_cell o.a (seating o))
  seated_by board =
      let other = not (o.b == natural o.c) in
      cond_both (player o.b && (player (natural o.c) && other)) (Ok (Seat o.b (natural o.c))) (Err NoParty) (λ r. P (of_cell o.a r))
      (λ h.
      let one = and_parts (player o.b) (player (natural o.c) && other) h in
      board (Seat o.b (natural o.c)) (is_player o.b one.0, is_player (natural o.c) (and_parts (player (natural o.c)) other one.1).0))
      (λ _. refused NoParty)

  pub asked_by : (of_board o ≡ true → nat_le o.a 31 ≡ true → (ask : BoardAsk) → FairSeat ask → P (Ok (Cell o.a ask)))
      → (o.kind ≡ 19 → P (Ok (Close o.a))) → (o.kind ≡ 20 → P (Ok (Total (o.a - 1)))) → P (asked o)
  asked_by board close total =
      cond_both (of_board o) (at_board o) _ P
      (λ kind. cond_both (nat_le o.a 31) _ (Err NoPlace) P
      (λ low. cond_both (o.kind == 16) (of_cell o.a (seating o)) _ P
      (λ _. seated_by (board kind low))
      (λ _. cond_both (o.kind == 17) (Ok (Cell o.a (Enter o.b (outcome o.c)))) (Ok (Cell o.a Read)) P (λ _. board kind low (Enter o.b (outcome o.c)) tt) (λ _. board kind low Read tt)))
      (λ _. refused NoPlace))
      (λ _. cond_both (o.kind == 19) (Ok (Close o.a)) _ P
      (λ kind. close (eqb-true o.kind 19 kind))
      (λ _. cond_both (o.kind == 20) _ (Err UnknownKind) P
      (λ kind. cond_both (player o.a) (Ok (Total (o.a - 1))) (Err NoParty) P (λ _. total (eqb-true o.kind 20 kind)) (λ _. refused NoParty))
      (λ _. refused UnknownKind)))

-- Keys cover what is asked.
board_keys : (o : Operation) → of_board o ≡ true → nat_le o.a 31 ≡ true → Held (keys o) o.a
board_keys o board low = subst (λ set. Held set o.a) (sym (cond-true (of_board o) _ _ board ∙ cond-true (nat_le o.a 31) (2 ^ o.a) 0 low)) (held_one o.a)

close_keys : (o : Operation) → o.kind ≡ 19 → keys o ≡ 2 ^ 33 - 1
close_keys o kind = ap (λ k. keys_of k o.a) kind

total_keys : (o : Operation) → o.kind ≡ 20 → keys o ≡ 2 ^ 32
total_keys o kind = ap (λ k. keys_of k o.a) kind

covers : (o : Operation) → Covers (keys o) (asked o)
covers o =
    asked_by o (Covers (keys o)) (λ _. tt)
    (λ board low ask _. (omega (arith, leb-true o.a 31 low), board_keys o board low))
    (λ kind.
    let each : (k : ℕ) → k < 33 → Held (keys o) k = λ k l. subst (λ set. Held set k) (sym (close_keys o kind)) (held_below (2 ^ 33 - 1) 33 refl k l) in
    (λ k l. each k (omega (arith, l)), each 32 (omega arith)))
    (λ kind. subst (λ set. Held set 32) (sym (total_keys o kind)) (held_one 32))

-- nobody gains at a board where nobody is seated
unseated : (n : ℕ) (x : Option Game) → is_some x ≡ false → game_gain n x ≡ 0
unseated n None h = refl
unseated n (Some g) h = absurd (true≢false h)

pub chess_fits : Fits 1 chess
chess_fits = record {
  named = refl;
  covers = covers;
  gains = λ i x. gain_few (i + 1) x.game;
  most = omega arith;
  idle = λ i x. unseated (i + 1) x.game;
  sized_empty = refl;
  sized_changed = λ x ask h. refl;
  sized_read = λ p i. refl;
  wide = λ x. wide x.game;
  read_again = λ p i x h. read_again p i x;
}
