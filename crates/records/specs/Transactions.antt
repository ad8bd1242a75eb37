-- Transaction numbers and stamps.
use Rattle.std.specs.Prelude.{◌≡◌, ℕ, ◌+◌, ◌-◌, ◌*◌, ◌/◌, ◌%◌, ◌^◌, max, Bool, cond, ◌&&◌, Some, None, Option, nat_le, nat_lt}

-- a transaction number is sequence × 16 + console
abbrev pub number_of : ℕ → ℕ → ℕ
number_of sequence console = sequence * 16 + console

abbrev pub console : ℕ → ℕ
console number = number % 16

abbrev pub sequence : ℕ → ℕ
sequence number = number / 16

-- sequences are 1 to 1,048,576
abbrev pub transaction : ℕ → Bool
transaction number = nat_le 1 (sequence number) && nat_le (sequence number) 1048576

-- stamps are 1 to 2^48
abbrev pub stamp : ℕ → Bool
stamp number = nat_le 1 number && nat_le number (2 ^ 48)

-- a hall gives a request 1 more than the greatest of the console's high and its own last and clock, if that is a stamp
abbrev pub next_stamp : ℕ → ℕ → ℕ → Option ℕ
next_stamp high last clock = cond (nat_lt (max (max high last) clock) (2 ^ 48)) (Some (max (max high last) clock + 1)) None

-- high, last, clock
pub record WorkedStamps : Type 0 where
  pub greatest : next_stamp 12 3 9 ≡ Some 13
  pub last : next_stamp 0 0 (2 ^ 48 - 1) ≡ Some (2 ^ 48)
  pub none : next_stamp 0 0 (2 ^ 48) ≡ None
