-- The queue: which entry is found, which may run, and how one leaves.
use Rattle.std.specs.Prelude.{ℕ, zero, suc, ◌-◌, Bool, cond, not, ◌&&◌, ◌||◌, List, length, take, Some, None, Option, ◌==◌, bit_and, nat_lt, position, slice_index_or, slice_set}
use Rattle.std.specs.List.{list_any}
use Rattle.congress.specs.Sending.{no_operation}
use Rattle.congress.specs.declared.tables.Entry.{Entry}
use Rattle.records.specs.declared.classes.Class.TheVariants.{Single}

-- stands for an entry past the queue
abbrev pub no_entry : Entry
no_entry = record { hall = 0; transaction = 0; class = Single; halls = 0; votes = 0; stamp = 0; keys = 0; operation = no_operation }

abbrev pub entry_in : List Entry → ℕ → Entry
entry_in entries place = slice_index_or entries place no_entry

-- the place of a transaction's entry at a hall
abbrev pub is_at : ℕ → ℕ → Entry → Bool
is_at h t e = e.hall == h && e.transaction == t

abbrev pub place_at : ℕ → ℕ → List Entry → Option ℕ
place_at h t entries = position (is_at h t) entries

abbrev pub any_at : ℕ → List Entry → Bool
any_at h entries = list_any (λ e. e.hall == h) entries

-- an entry of the hall holds one of these keys
abbrev pub holds_at : ℕ → ℕ → Entry → Bool
holds_at h keys e = e.hall == h && not (bit_and e.keys keys == 0)

abbrev pub held_at : ℕ → ℕ → List Entry → Bool
held_at h keys entries = list_any (holds_at h keys) entries

-- every named hall has a vote in it
abbrev pub ready : Entry → Bool
ready e = bit_and e.votes e.halls == e.halls

-- stamp s of transaction t comes before stamp s' of transaction t'
abbrev pub before : ℕ → ℕ → ℕ → ℕ → Bool
before s t s' t' = nat_lt s s' || (s == s' && nat_lt t t')

abbrev pub sooner : Entry → Entry → Bool
sooner x y = before x.stamp x.transaction y.stamp y.transaction

-- the place of the least entry that a test takes: of two places, and of the first n
abbrev pub lesser : List Entry → Option ℕ → ℕ → Option ℕ
lesser entries None n = Some n
lesser entries (Some i) n = cond (sooner (entry_in entries n) (entry_in entries i)) (Some n) (Some i)

abbrev pub least_below : (Entry → Bool) → List Entry → ℕ → Option ℕ
least_below test entries zero = None
least_below test entries (suc n) =
    cond (test (entry_in entries n)) (lesser entries (least_below test entries n) n) (least_below test entries n)

abbrev pub least : (Entry → Bool) → List Entry → Option ℕ
least test entries = least_below test entries (length entries)

-- an entry leaves, and the last takes its place
abbrev pub without : List Entry → ℕ → List Entry
without entries place = take (length entries - 1) (slice_set entries place (entry_in entries (length entries - 1)))
