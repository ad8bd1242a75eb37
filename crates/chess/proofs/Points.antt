-- A game gives out one point: what the players gain from a closed round, summed over players and over boards.
use Rattle.std.proofs.Common.{◌≡◌, ℕ, ◌+◌, ◌-◌, ◌*◌, ◌<◌, ◌≤◌, true, false, cond, ◌&&◌, eqb, leb, List, [], ◌∷◌, length, get_or, ℤ, Some, None, Ok, Err, fold, Option, Result, sym, refl, ap, ◌∙◌, subst, inl, inr, arith}
use Rattle.book.proofs.Below.{get_or-table, sum_same, sum_zero, sum_add, sum_times, sum_swap, sum_one, not_all_at}
use Rattle.book.proofs.Tables.{set_keeps}
use Rattle.book.specs.Below.{sum_below, some_below, all_below}
use Rattle.chess.specs.Asking.{Asked, player, at_board, asked}
use Rattle.chess.specs.Laws.{Player, FairSeat, asked_by, chess_fits}
use Rattle.chess.specs.Page.{chess, ChessSheet, blank}
use Rattle.chess.specs.Promises.{played, points_in_all, games, GamesGiveAPoint, PointsStayElse}
use Rattle.chess.specs.Rules.{empty, with_result, seated, finished_game, white_points, black_points, game_gain}
use Rattle.chess.specs.declared.asking.BoardAsk.{BoardAsk}
use Rattle.chess.specs.declared.asking.BoardAsk.TheVariants.{Seat, Enter, Read}
use Rattle.chess.specs.declared.sheet.Board.{Board}
use Rattle.chess.specs.declared.sheet.Game.{Game}
use Rattle.chess.specs.declared.sheet.Outcome.{Outcome}
use Rattle.chess.specs.declared.sheet.Outcome.TheVariants.{White, Draw, Black}
use Rattle.records.specs.Answers.{well_done}
use Rattle.records.specs.declared.Operation.{Operation}
use Rattle.rounds.proofs.Stay.{Closes, totals_stay}
use Rattle.rounds.specs.Faults.{answered}
use Rattle.rounds.specs.Kept.{Sized}
use Rattle.rounds.specs.Sheets.{cell, used_at, settled_at, closable, gain_at, gained, closed, says, changed, said, left, made, answer, after}
use Rattle.rounds.specs.Sizes.{sized_after, sized_blank}
use Rattle.book.proofs.Tables.{get_or-replicate_same}
use Rattle.rounds.specs.declared.Fault.{Fault}
use Rattle.rounds.specs.declared.Fault.TheVariants.{NoParty, NotClosable, UnknownKind}
use Rattle.rounds.specs.declared.asks.Ask.{Ask}
use Rattle.rounds.specs.declared.asks.Ask.TheVariants.{Cell, Close, Total}
use Rattle.std.proofs.lemmas.Bool.{cases_Bool, cases_eq, cond-true, cond-false, and_parts, eq-eqb, ne_eqb, both_ways, false≢true}

abbrev FairGame : Option Game → Type 0
FairGame None = Unit {0}
FairGame (Some g) = Player g.white × Player g.black

abbrev Fair : Board → Type 0
Fair x = FairGame x.game

abbrev FairAsk : Asked → Type 0
FairAsk (Ok (Cell a ask)) = FairSeat ask
FairAsk (Ok (Close round)) = Unit {0}
FairAsk (Ok (Total i)) = Unit {0}
FairAsk (Err fault) = Unit {0}

ask_fair : (o : Operation) → FairAsk (asked o)
ask_fair o = asked_by o FairAsk (λ _. tt) (λ _ _ _ fair. fair) (λ _. tt) (λ _. tt)

abbrev AllFair : ChessSheet → Type 0
AllFair s = (a : ℕ) → Fair (cell chess s a)

no_games_fair : AllFair blank
no_games_fair a = subst Fair (sym (get_or-replicate_same 32 a empty)) tt

with_result_fair : (x : Option Game) (r : Option Outcome) → FairGame x → FairGame (with_result x r)
with_result_fair None r h = tt
with_result_fair (Some g) r h = h

cell_fair : (x : Board) (ask : BoardAsk) → FairSeat ask → Fair x → Fair (chess.changed x ask)
cell_fair x (Seat white black) f h = f
cell_fair x (Enter round result) f h = with_result_fair x.game result h
cell_fair x Read f h = h

changed_fair : (s : ChessSheet) (x : Ask BoardAsk 32 64) → FairAsk (Ok x) → AllFair s → AllFair (changed chess s x)
changed_fair s (Cell a ask) f h = set_keeps Fair s.cells a _ empty (cell_fair (cell chess s a) ask f (h a)) h
changed_fair s (Close round) f h = no_games_fair
changed_fair s (Total i) f h = h

left_fair : (s : ChessSheet) (x : Ask BoardAsk 32 64) (r : Result ℤ Fault) → FairAsk (Ok x) → AllFair s → AllFair (left chess s x r)
left_fair s x (Ok value) f h = changed_fair s x f h
left_fair s x (Err fault) f h = h

made_fair : (s : ChessSheet) (x : Asked) → FairAsk x → AllFair s → AllFair (made chess s x)
made_fair s (Ok ask) f h = left_fair s ask (says chess s ask) f h
made_fair s (Err fault) f h = h

-- what holds of a sheet that was played
pub record Played (s : ChessSheet) : Type 0 where
  pub sized : Sized chess s
  pub fair : AllFair s

played_on : (os : List Operation) (s : ChessSheet) → Played s → Played (fold (after chess) s os)
played_on [] s h = h
played_on (o ∷ os) s h =
    played_on os (after chess s o) (record {
      sized = sized_after chess chess_fits s o h.sized;
      fair = made_fair s (asked o) (ask_fair o) h.fair;
    })

-- the players of a finished game share 2 half points
shared : (r : Option Outcome) (g : Game) → g.result ≡ r → finished_game (Some g) ≡ true → white_points r + black_points r ≡ 2
shared None g e h = absurd (false≢true (sym (ap (λ x. elim x [ None ↦ false | Some y ↦ true ]) e) ∙ h))
shared (Some White) g e h = refl
shared (Some Draw) g e h = refl
shared (Some Black) g e h = refl

one_back : (n i : ℕ) → 1 ≤ n → eqb n (i + 1) ≡ eqb (n - 1) i
one_back n i low =
    elim (cases_eq n (i + 1)) [
      | inl e ↦ eq-eqb n (i + 1) e ∙ sym (eq-eqb (n - 1) i (omega arith))
      | inr ne ↦ ne_eqb n (i + 1) ne ∙ sym (ne_eqb (n - 1) i (λ e. ne (omega arith)))
    ]

-- summed over the players, what stands for one of them counts once
for_player : (n x : ℕ) → Player n → sum_below 64 (λ i. cond (eqb n (i + 1)) x 0) ≡ x
for_player n x p =
    sum_same (λ i. cond (eqb n (i + 1)) x 0) (λ i. cond (eqb (n - 1) i) x 0) 64 (λ i _. ap (λ t. cond t x 0) (one_back n i p.low))
    ∙ sum_one (n - 1) x 64 (omega (arith, p.low, p.high))

game_points : (x : Option Game) → FairGame x → finished_game x ≡ true → sum_below 64 (λ i. game_gain (i + 1) x) ≡ 2 * cond (seated (record { game = x })) 1 0
game_points None f h = sum_zero 64
game_points (Some g) f h =
    let w = white_points g.result in
    let b = black_points g.result in
    sum_add (λ i. cond (eqb g.white (i + 1)) w 0) (λ i. cond (eqb g.black (i + 1)) b 0) 64
    ∙ omega (arith, for_player g.white w f.0, for_player g.black b f.1, shared g.result g refl h)

all_at : (s : ChessSheet) → all_below 32 (settled_at chess s) ≡ true → (a : ℕ) → a < 32 → settled_at chess s a ≡ true
all_at s h a l =
    elim (cases_Bool (settled_at chess s a)) [
      | inl yes_here ↦ yes_here
      | inr no_here ↦ absurd (both_ways (all_below 32 (settled_at chess s)) (not_all_at (settled_at chess s) 32 a l no_here) h)
    ]

closed_points : (s : ChessSheet) → Played s → all_below 32 (settled_at chess s) ≡ true → points_in_all (closed chess s) ≡ points_in_all s + 2 * games s
closed_points s p h =
    let old : ℕ → ℕ = λ i. get_or s.totals i 0 in
    let new : ℕ → ℕ = gained chess s in
    sum_same (λ i. get_or (closed chess s).totals i 0) (λ i. old i + new i) 64 (λ i l. get_or-table (length s.totals) (λ k. old k + new k) i 0 (omega (arith, p.sized.all_totals)))
    ∙ sum_add old new 64
    ∙ ap (λ n. points_in_all s + n)
    (sum_swap (gain_at chess s) 64 32
    ∙ sum_same (λ a. sum_below 64 (λ i. gain_at chess s i a)) (λ a. 2 * cond (used_at chess s a) 1 0) 32 (λ a l. game_points (cell chess s a).game (p.fair a) (all_at s h a l))
    ∙ sum_times (λ a. cond (used_at chess s a) 1 0) 2 32)

asked_close : (o : Operation) → o.kind ≡ 19 → asked o ≡ Ok (Close o.a)
asked_close o e =
    ap (λ k. cond (leb 16 k && leb k 18) (at_board o) (cond (eqb k 19) (Ok (Close o.a)) (cond (eqb k 20) (cond (player o.a) (Ok (Total (o.a - 1))) (Err NoParty)) (Err UnknownKind)))) e

-- a closing that is well done was closable
was_closable : (s : ChessSheet) (round a : ℕ) → well_done (answered 1 (says chess s (Close round)) a) ≡ true → closable chess s round ≡ true
was_closable s round a h =
    elim (cases_Bool (closable chess s round)) [
      | inl e ↦ e
      | inr e ↦ absurd (false≢true (sym (ap (λ r. well_done (answered 1 r a)) (cond-false (closable chess s round) _ (Err NotClosable) e)) ∙ h))
    ]

module _ (s : ChessSheet) (o : Operation) (closing : o.kind ≡ 19) (done : well_done (answer chess s o) ≡ true) where
  can : closable chess s o.a ≡ true
  can = was_closable s o.a o.a (sym (ap (λ x. well_done (answered 1 (said chess s x) o.a)) (asked_close o closing)) ∙ done)

  after_closing : after chess s o ≡ closed chess s
  after_closing = ap (made chess s) (asked_close o closing) ∙ ap (left chess s (Close o.a)) (cond-true (closable chess s o.a) _ _ can)

  all_in : all_below 32 (settled_at chess s) ≡ true
  all_in = (and_parts (some_below 32 (used_at chess s)) _ (and_parts _ (some_below 32 (used_at chess s) && all_below 32 (settled_at chess s)) can).1).1

pub games_give_a_point_lem : GamesGiveAPoint
games_give_a_point_lem os o closing done =
    let s = played os in
    let p = played_on os blank (record { sized = sized_blank chess chess_fits; fair = no_games_fair }) in
    ap points_in_all (after_closing s o closing done) ∙ closed_points s p (all_in s o closing done)

-- only kind 19 asks to close
closes : (o : Operation) → Closes 19 o (asked o)
closes o = asked_by o (Closes 19 o) (λ _. tt) (λ _ _ _ _. tt) (λ kind. kind) (λ _. tt)

pub points_stay_else : PointsStayElse
points_stay_else s o other = totals_stay chess 19 s o other (closes o)
