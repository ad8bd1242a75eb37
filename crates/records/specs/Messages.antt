-- Which messages are lawful.
use Rattle.std.specs.Prelude.{ℕ, ◌^◌, Bool, not, ◌&&◌, is_some, ◌==◌, nat_le, nat_lt}
use Rattle.records.specs.Classes.{status_of}
use Rattle.records.specs.Halls.{names, fit}
use Rattle.records.specs.Transactions.{transaction, stamp}
use Rattle.records.specs.declared.messages.Message.{Message}
use Rattle.records.specs.declared.messages.Reply.{Reply}
use Rattle.records.specs.declared.messages.Request.{Request}
use Rattle.records.specs.declared.messages.Vote.{Vote}

abbrev pub transaction_of : Message → ℕ
transaction_of (Message.Request r) = r.transaction
transaction_of (Message.Vote v) = v.transaction
transaction_of (Message.Reply r) = r.transaction

abbrev pub status : ℕ → Bool
status n = is_some (status_of n)

-- Its numbers are in range and its halls are among the first `number`, which are open.

-- the halls fit the class, and the hall addressed is one of them
abbrev pub request_lawful : ℕ → Request → Bool
request_lawful number r =
    transaction r.transaction && (nat_lt r.to number && (fit number r.class r.halls && (names r.halls r.to && nat_le r.high (2 ^ 48))))

-- the two halls differ
abbrev pub vote_lawful : ℕ → Vote → Bool
vote_lawful number v =
    transaction v.transaction && (nat_lt v.from number && (nat_lt v.to number && (not (v.from == v.to) && (stamp v.stamp && status v.status))))

-- the answer may be anything
abbrev pub reply_lawful : ℕ → Reply → Bool
reply_lawful number r = transaction r.transaction && (nat_lt r.from number && (stamp r.stamp && status r.status))

abbrev pub lawful : ℕ → Message → Bool
lawful number (Message.Request r) = request_lawful number r
lawful number (Message.Vote v) = vote_lawful number v
lawful number (Message.Reply r) = reply_lawful number r
