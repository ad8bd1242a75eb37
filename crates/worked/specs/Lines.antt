-- Lines of a scoresheet, and what they say.
use Rattle.std.specs.Prelude.{◌≡◌, ℕ, true, false, ℤ, pos, negsuc, Some, None, Ok, Err, codes}
use Rattle.entries.specs.Reading.{misread, reading}
use Rattle.entries.specs.declared.Expected.TheVariants as Expected
use Rattle.entries.specs.declared.Field.TheVariants as Field
use Rattle.entries.specs.declared.Game.TheVariants as Game
use Rattle.entries.specs.declared.Progress.{Progress}
use Rattle.entries.specs.declared.Reading.{Reading}

-- before the first line; and in a sheet of bridge, among entries by grant 3 with token 77
abbrev fresh : Progress
fresh = record { hall = 0; game = Game.Chess; chief = None; begun = false; bearer = record { grant = 0; token = 0 } }

abbrev later : Progress
later = record { hall = 2; game = Game.Bridge; chief = Some 9; begun = true; bearer = record { grant = 3; token = 77 } }

abbrev by_deputy : ℕ → ℕ → ℕ → ℤ → ℕ → Reading
by_deputy kind a b c d = Reading.Entry (record { kind = kind; grant = 3; token = 77; a = a; b = b; c = c; d = d })

pub record SheetLines : Type 0 where
  pub blank : reading (codes "  ") fresh ≡ Ok None
  pub remark : reading (codes " # ill today") later ≡ Ok None
  pub hall : reading (codes "hall 007") fresh ≡ Ok (Some (Reading.Hall 7))
  pub hall_too_late : reading (codes "hall x y") later ≡ Err (misread 1 Expected.Entry)
  pub chief : reading (codes "chief 4294967295") fresh ≡ Ok (Some (Reading.Chief 4294967295))
  pub no_game : reading (codes "game go") fresh ≡ Err (misread 2 Expected.Game)
  pub bearer : reading (codes "as 3 77") later ≡ Ok (Some (Reading.As (record { grant = 3; token = 77 })))
  pub close : reading (codes "close 4") later ≡ Ok (Some (by_deputy 34 4 0 (pos 0) 0))
  pub score : reading (codes " score 5 0 7  -50 ") later ≡ Ok (Some (by_deputy 32 5 0 (negsuc 49) 7))
  pub result : reading (codes "result 4 1 1/2") later ≡ Ok (Some (by_deputy 17 4 1 (pos 2) 0))
  pub lowest : reading (codes "op 255 0 65535 -2147483648 1") later ≡ Ok (Some (by_deputy 255 0 65535 (negsuc 2147483647) 1))
  pub too_low : reading (codes "op 255 0 65535 -2147483649 1") later ≡ Err (misread 5 (Expected.Value Field.Whole))
  pub no_such_word : reading (codes "Seat 4 1 2") later ≡ Err (misread 1 Expected.Opening)
  pub too_large : reading (codes "hall 256") fresh ≡ Err (misread 2 (Expected.Value Field.Byte))
  pub missing : reading (codes "seat 4 1") later ≡ Err (misread 4 (Expected.Value Field.Count))
  pub too_many : reading (codes "show 4 1") later ≡ Err (misread 3 Expected.End)
