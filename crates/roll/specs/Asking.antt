-- What an operation asks of the roll, as far as its own numbers tell, and the keys of the entries.
use Rattle.std.specs.Prelude.{ℕ, ◌+◌, ◌^◌, Bool, cond, ◌&&◌, Ok, Err, Result, ◌==◌, nat_le}
use Rattle.book.specs.Numbers.{natural}
use Rattle.records.specs.declared.Operation.{Operation}
use Rattle.roll.specs.declared.asking.Ask.{Ask}
use Rattle.roll.specs.declared.asking.Ask.TheVariants.{Other, Write, Read}
use Rattle.roll.specs.declared.refusals.Refusal.{Refusal}
use Rattle.roll.specs.declared.refusals.Refusal.TheVariants.{NotChief, NoEntry, NoToken}
use Rattle.roll.specs.declared.refusals.Refused.{Refused}

abbrev pub refuse : {X : Type 0} → Refusal → ℕ → Result X Refused
refuse why place = Err (record { why = why; place = place })

-- there is an entry a
abbrev pub entry_named : Operation → Result ℕ Refused
entry_named o = cond (nat_le o.a 15) (Ok o.a) (refuse NoEntry o.a)

-- only the chief, whose grant is 0, appoints and removes, and only at entries 1 to 15
abbrev pub entry_to_write : Operation → Result ℕ Refused
entry_to_write o =
    cond (o.grant == 0)
    (cond (nat_le 1 o.a && nat_le o.a 15) (Ok o.a) (refuse NoEntry o.a))
    (refuse NotChief o.grant)

-- a deputy's token is at least 1
abbrev pub token_appointed : Operation → Result ℕ Refused
token_appointed o = cond (nat_le 1 (natural o.c)) (Ok (natural o.c)) (refuse NoToken o.a)

-- an entry is written where there is one to write and a token for it
abbrev pub writing : Result ℕ Refused → Result ℕ Refused → Result Ask Refused
writing (Ok a) (Ok token) = Ok (Write a token)
writing (Ok a) (Err r) = Err r
writing (Err r) token = Err r

abbrev pub looking : Result ℕ Refused → Result Ask Refused
looking (Ok a) = Ok (Read a)
looking (Err r) = Err r

-- what an operation asks whose grant stands: kind 1 appoints, entry a becomes c; kind 2 removes, it becomes 0; kind 3 reads it
abbrev pub asked : Operation → Result Ask Refused
asked o =
    cond (o.kind == 1) (writing (entry_to_write o) (token_appointed o))
    (cond (o.kind == 2) (writing (entry_to_write o) (Ok 0))
    (cond (o.kind == 3) (looking (entry_named o))
    (Ok Other)))

-- kinds 1 to 3 are the roll's own
abbrev pub of_roll : Operation → Bool
of_roll o = nat_le 1 o.kind && nat_le o.kind 3

-- each entry has its own key, from 48 on
abbrev pub entry_key : ℕ → ℕ
entry_key n = cond (nat_le n 15) (2 ^ (48 + n)) 0
