-- A book of rounds keeps the law of books: its sheets are made of parts, and keys guard them.
use Rattle.std.specs.Prelude.{◌≡◌, ℕ, false, ℤ, is_ok, Ok, Err, Result, refl}
use Rattle.std.proofs.Common.{ap}
use Rattle.book.proofs.Parts.{Parted, parted_lawful, own_page}
use Rattle.book.specs.Model.{Lawful}
use Rattle.rounds.specs.Again.{read_write}
use Rattle.rounds.specs.Faults.{answered}
use Rattle.rounds.specs.Fits.{Fits}
use Rattle.rounds.specs.Games.{Game}
use Rattle.rounds.specs.Kept.{Sized}
use Rattle.rounds.specs.Keys.{guarded}
use Rattle.rounds.specs.Pages.{write, sheets, model, blank}
use Rattle.rounds.specs.Parts.{Part, part, reads, writes, written_read, whole, leaves, answers, makes}
use Rattle.rounds.specs.Shapes.{answered_shaped, fault_not_ok}
use Rattle.rounds.specs.Sheets.{says, said, left, made}
use Rattle.rounds.specs.Sizes.{sized_read, sized_after, sized_blank}
use Rattle.rounds.specs.declared.Fault.{Fault}
use Rattle.rounds.specs.declared.asks.Ask.{Ask}
use Rattle.rounds.specs.declared.sheets.Sheet.{Sheet}
use Rattle.std.proofs.lemmas.Bool.{true≢false}

module _ {C A : Type 0} {cells totals layer : ℕ} (g : Game C A cells totals) (f : Fits layer g) where
  left_whole : (s : Sheet C cells totals) (x : Ask A cells totals) (r : Result ℤ Fault) → is_ok r ≡ false → left g s x r ≡ s
  left_whole s x (Ok value) h = absurd (true≢false h)
  left_whole s x (Err fault) h = refl

  fault_leaves : (s : Sheet C cells totals) (x : Result (Ask A cells totals) Fault) → is_ok (said g s x) ≡ false → made g s x ≡ s
  fault_leaves s (Ok ask) h = left_whole s ask (says g s ask) h
  fault_leaves s (Err fault) h = refl

  parted : Parted (Sheet C cells totals) (Part C) (sheets g)
  parted = record {
    sized = Sized g;
    sized_read = sized_read g f;
    sized_after = sized_after g f;
    read_write = read_write g f;
    part = part g;
    whole = whole g;
    reads = λ o. reads (g.asked o);
    writes = λ o. writes (g.asked o);
    written_read = λ o. written_read (g.asked o);
    leaves = λ s o k h. leaves g s (g.asked o) k;
    answers = λ s t o p q same. ap (λ r. answered g.layer r o.a) (answers g s t p q (g.keys o) (g.asked o) (f.covers o) same);
    makes = λ s t o p q same. makes g s t p q (g.keys o) (g.asked o) (f.covers o) same;
    guarded = guarded g f;
    shaped = λ s o. answered_shaped g.layer (said g s (g.asked o)) o.a;
    fault_leaves = λ s o h. fault_leaves s (g.asked o) (fault_not_ok g.layer (said g s (g.asked o)) o.a h);
  }

  pub rounds_lawful : Lawful (model g)
  rounds_lawful = parted_lawful (sheets g) parted

  pub sized_own : (s : Sheet C cells totals) → Sized g s → (model g).own (write g s)
  unfolding parted
  sized_own = own_page (sheets g) parted

  pub blank_own : (model g).own (write g (blank g))
  blank_own = sized_own (blank g) (sized_blank g f)
