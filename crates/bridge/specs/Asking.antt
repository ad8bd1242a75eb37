-- What an operation asks of the book of bridge, as far as its own numbers tell, and its keys.
use Rattle.std.specs.Prelude.{ℕ, ◌+◌, ◌%◌, ◌^◌, Bool, cond, ◌&&◌, ◌||◌, ℤ, Ok, Err, Result, ◌==◌, nat_le, unsigned_abs}
use Rattle.bridge.specs.declared.asking.DealAsk.{DealAsk}
use Rattle.bridge.specs.declared.asking.DealAsk.TheVariants.{Score, Read}
use Rattle.records.specs.declared.Operation.{Operation}
use Rattle.rounds.specs.declared.Fault.{Fault}
use Rattle.rounds.specs.declared.asks.Ask.{Ask as AskOf}
use Rattle.rounds.specs.declared.asks.Ask.TheVariants.{Cell, Close, Total}
use Rattle.rounds.specs.declared.Fault.TheVariants.{NoPlace, NoParty, BadResult, UnknownKind}

-- a score is at most 7600 either way, and a multiple of 10
abbrev pub fair : ℤ → Bool
fair c = nat_le (unsigned_abs c) 7600 && unsigned_abs c % 10 == 0

-- what is asked of one of 16 deals or totals
abbrev pub Ask : Type 0
Ask = AskOf DealAsk 16 16

-- deals 0 to 15, and pairs 0 to 7 of either side

-- kind 32: score c on deal a, of North-South pair b against East-West pair d
abbrev pub asked_score : Operation → Result Ask Fault
asked_score o =
    cond (nat_le o.a 15)
    (cond (nat_le o.b 7 && nat_le o.d 7)
    (cond (fair o.c) (Ok (Cell o.a (Score o.b o.d o.c))) (Err BadResult))
    (Err NoParty))
    (Err NoPlace)

-- kind 33: the score on deal a of North-South pair b
abbrev pub asked_line : Operation → Result Ask Fault
asked_line o = cond (nat_le o.a 15) (cond (nat_le o.b 7) (Ok (Cell o.a (Read o.b))) (Err NoParty)) (Err NoPlace)

abbrev pub asked : Operation → Result Ask Fault
asked o =
    cond (o.kind == 32) (asked_score o)
    (cond (o.kind == 33) (asked_line o)
    (cond (o.kind == 34) (Ok (Close o.a))
    (cond (o.kind == 35) (cond (nat_le o.a 15) (Ok (Total o.a)) (Err NoParty))
    (Err UnknownKind))))

-- each deal has its own key, key 32 is the totals', and closing takes them all
abbrev pub keys_of : ℕ → ℕ → ℕ
keys_of kind deal =
    cond (kind == 32 || kind == 33) (cond (nat_le deal 15) (2 ^ deal) 0)
    (cond (kind == 34) (2 ^ 32 + 65535)
    (cond (kind == 35) (2 ^ 32) 0))

abbrev pub keys : Operation → ℕ
keys o = keys_of o.kind o.a
