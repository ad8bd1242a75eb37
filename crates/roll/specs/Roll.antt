-- The roll of deputies over a book: a page of the roll is 16 tokens, and then the page of the book below.
use Rattle.std.specs.Prelude.{◌≡◌, ℕ, ◌+◌, ◌*◌, Bool, cond, not, ◌&&◌, List, ◌∷◌, ◌++◌, map, drop, replicate, ℤ, pos, Ok, Err, Result, ◌==◌, bit_or, nat_le, slice_index, slice_set}
use Rattle.book.specs.Below.{table}
use Rattle.book.specs.Model.{Page, Model}
use Rattle.book.specs.Numbers.{natural, at}
use Rattle.book.specs.Sheets.{Sheets}
use Rattle.records.specs.Answers.{done_with}
use Rattle.records.specs.declared.Answer.{Answer}
use Rattle.records.specs.declared.Operation.{Operation}
use Rattle.roll.specs.Asking.{refuse, asked, of_roll, entry_key}
use Rattle.roll.specs.declared.asking.Ask.{Ask}
use Rattle.roll.specs.declared.asking.Ask.TheVariants.{Other, Write, Read}
use Rattle.roll.specs.Refusals.{answered}
use Rattle.roll.specs.declared.refusals.Refusal.TheVariants.{NotStanding}
use Rattle.roll.specs.declared.refusals.Refused.{Refused}
use Rattle.roll.specs.declared.halls.Roll.{Roll}

-- what a page holds
pub record Sheet : Type 0 where
  pub tokens : List ℕ
  pub below : Page

abbrev pub write : Sheet → Page
write s = map pos s.tokens ++ s.below

abbrev pub read : Page → Sheet
read p = record { tokens = table 16 (λ g. natural (at p g)); below = drop 16 p }

-- entry g; 0 is empty
abbrev pub entry : List ℕ → ℕ → ℕ
entry tokens g = slice_index tokens g

-- a grant stands with the token of its entry, and never with token 0
abbrev pub stands : List ℕ → Operation → Bool
stands tokens o = nat_le o.grant 15 && (not (o.token == 0) && entry tokens o.grant == o.token)

-- where the grant does not stand nothing else is looked at
abbrev pub admitted : List ℕ → Operation → Result Ask Refused
admitted tokens o = cond (stands tokens o) (asked o) (refuse NotStanding o.grant)

-- whether a token fills an entry
abbrev pub filled : ℕ → ℤ
filled token = cond (token == 0) (pos 0) (pos 1)

-- What is said to what is asked: kinds 1 to 3 tell whether the entry was filled before.
abbrev pub said : Model → Sheet → Operation → Result Ask Refused → Result Answer Refused
said m s o (Ok Other) = Ok (m.answer s.below o)
said m s o (Ok (Write a token)) = Ok (done_with 3 (filled (entry s.tokens a)))
said m s o (Ok (Read a)) = Ok (done_with 3 (filled (entry s.tokens a)))
said m s o (Err r) = Err r

abbrev pub says : Model → Sheet → Operation → Result Ask Refused → Answer
says m s o x = answered (said m s o x)

-- What it makes of the sheet.
abbrev pub changed : Model → Sheet → Operation → Result Ask Refused → Sheet
changed m s o (Ok Other) = record { tokens = s.tokens; below = m.next s.below o }
changed m s o (Ok (Write a token)) = record { tokens = slice_set s.tokens a token; below = s.below }
changed m s o (Ok (Read a)) = s
changed m s o (Err r) = s

-- What is said to an operation, what it answers, and the sheet after it.
abbrev pub reply : Model → Sheet → Operation → Result Answer Refused
reply m s o = said m s o (admitted s.tokens o)

abbrev pub answer : Model → Sheet → Operation → Answer
answer m s o = says m s o (admitted s.tokens o)

abbrev pub after : Model → Sheet → Operation → Sheet
after m s o = changed m s o (admitted s.tokens o)

-- the key of the grant; with it in kinds 1 to 3 the key of entry a, in all other kinds the keys below
abbrev pub roll_keys : Model → Operation → ℕ
roll_keys m o = bit_or (entry_key o.grant) (cond (of_roll o) (entry_key o.a) (m.keys o))

abbrev pub roll_sheets : Model → Sheets Sheet
roll_sheets m = record { layer = 3; write = write; read = read; keys = roll_keys m; answer = answer m; after = after m }

-- a page of the roll's own is 16 natural numbers and a page of the book below's own
abbrev pub roll_model : Model → Model
roll_model m = record {
  layer = 3;
  own = λ p. (write (read p) ≡ p) × m.own (read p).below;
  keys = roll_keys m;
  answer = λ p o. answer m (read p) o;
  next = λ p o. write (after m (read p) o);
}

-- the tokens of a hall, of the tokens of all halls
abbrev pub hall_tokens : List ℕ → ℕ → List ℕ
hall_tokens all h = table 16 (λ g. slice_index all (h * 16 + g))

-- the sheet and the page of a hall in a roll over a book with these pages
abbrev pub sheet_of : {B : Type 0} → (B → ℕ → Page) → Roll B → ℕ → Sheet
sheet_of pages r h = record { tokens = hall_tokens r.tokens.tokens h; below = pages r.below h }

abbrev pub page_of : {B : Type 0} → (B → ℕ → Page) → Roll B → ℕ → Page
page_of pages r h = write (sheet_of pages r h)

-- a new roll's tokens of a hall: the chief's, and 15 empty entries
abbrev pub first_tokens : ℕ → List ℕ
first_tokens chief = chief ∷ replicate 15 0

abbrev pub first_page : ℕ → Page → Page
first_page chief page = pos chief ∷ replicate 15 (pos 0) ++ page
