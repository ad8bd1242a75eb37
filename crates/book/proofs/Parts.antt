-- A sheet in parts: a book whose operations read and write only parts that their keys guard obeys the law of books.
use Rattle.std.proofs.Common.{◌≡◌, ℕ, ◌≤◌, Bool, true, false, ltb, sym, ap, ◌∙◌, inl, inr, arith}
use lib.Bits.{and_comm}
use Rattle.book.proofs.Turned.{turned_by}
use Rattle.book.specs.Model.{Page, Disjoint, Lawful, told, turned}
use Rattle.book.specs.Sheets.{Sheets, sheet_model}
use Rattle.records.specs.Answers.{Shaped, well_done}
use Rattle.records.specs.declared.Operation.{Operation}
use Rattle.std.proofs.lemmas.Bool.{cases_Bool, cond-true, lt-ltb}

-- What a book of sheets has to show: its sheets are made of parts, of which an operation reads some and writes some.
pub record Parted (S P : Type 0) (b : Sheets S) : Type 1 where
  -- a sheet that has its size is read again from the page on which it is written
  pub sized : S → Type 0
  pub sized_read : (p : Page) → sized (b.read p)
  pub sized_after : (s : S) (o : Operation) → sized s → sized (b.after s o)
  pub read_write : (s : S) → sized s → b.read (b.write s) ≡ s
  -- the parts make the sheet
  pub part : S → ℕ → P
  pub whole : (s t : S) → sized s → sized t → ((k : ℕ) → part s k ≡ part t k) → s ≡ t
  -- what an operation writes it reads too
  pub reads : Operation → ℕ → Bool
  pub writes : Operation → ℕ → Bool
  pub written_read : (o : Operation) (k : ℕ) → writes o k ≡ true → reads o k ≡ true
  -- what it does not write it leaves
  pub leaves : (s : S) (o : Operation) (k : ℕ) → sized s → writes o k ≡ false → part (b.after s o) k ≡ part s k
  -- what it answers and what it writes go by what it reads
  pub answers : (s t : S) (o : Operation) → sized s → sized t → ((k : ℕ) → reads o k ≡ true → part s k ≡ part t k) → b.answer s o ≡ b.answer t o
  pub makes : (s t : S) (o : Operation) → sized s → sized t → ((k : ℕ) → reads o k ≡ true → part s k ≡ part t k)
      → (k : ℕ) → writes o k ≡ true → part (b.after s o) k ≡ part (b.after t o) k
  -- keys guard it: what one operation writes and another reads gives them a key in common
  pub guarded : (o q : Operation) (k : ℕ) → Disjoint (sheet_model b) o q → writes q k ≡ true → reads o k ≡ true → ⊥
  pub shaped : (s : S) (o : Operation) → Shaped (b.answer s o)
  pub fault_leaves : (s : S) (o : Operation) → well_done (b.answer s o) ≡ false → b.after s o ≡ s

module _ {S P : Type 0} (b : Sheets S) (d : Parted S P b) where
  -- an operation reads the same before and after another that shares no key with it
  unread : (s : S) (o q : Operation) → d.sized s → Disjoint (sheet_model b) o q → (k : ℕ) → d.reads o k ≡ true
      → d.part (b.after s q) k ≡ d.part s k
  unread s o q g h k r =
      elim (cases_Bool (d.writes q k)) [
        | inl w ↦ absurd (d.guarded o q k h w r)
        | inr w ↦ d.leaves s q k g w
      ]

  same_answer : (s : S) (o q : Operation) → d.sized s → Disjoint (sheet_model b) o q → b.answer (b.after s q) o ≡ b.answer s o
  same_answer s o q g h = d.answers (b.after s q) s o (d.sized_after s q g) g (unread s o q g h)

  -- a part that o writes is in the end as o alone leaves it
  written : (s : S) (o q : Operation) → d.sized s → Disjoint (sheet_model b) o q → (k : ℕ) → d.writes o k ≡ true
      → d.part (b.after (b.after s o) q) k ≡ d.part (b.after (b.after s q) o) k
  written s o q g h k w =
      unread (b.after s o) o q (d.sized_after s o g) h k (d.written_read o k w)
      ∙ sym (d.makes (b.after s q) s o (d.sized_after s q g) g (unread s o q g h) k w)

  same_sheet : (s : S) (o q : Operation) → d.sized s → Disjoint (sheet_model b) o q
      → b.after (b.after s o) q ≡ b.after (b.after s q) o
  same_sheet s o q g h =
      let back = and_comm (b.keys q) (b.keys o) ∙ h in
      let so = d.sized_after s o g in
      let sq = d.sized_after s q g in
      d.whole _ _ (d.sized_after (b.after s o) q so) (d.sized_after (b.after s q) o sq) (λ k.
      elim (cases_Bool (d.writes o k)) [
        | inl w ↦ written s o q g h k w
        | inr n ↦
            elim (cases_Bool (d.writes q k)) [
              | inl w ↦ sym (written s q o g back k w)
              | inr m ↦ d.leaves (b.after s o) q k so m ∙ d.leaves s o k g n ∙ sym (d.leaves (b.after s q) o k sq n ∙ d.leaves s q k g m)
            ]
      ])

  pub own_page : (s : S) → d.sized s → (sheet_model b).own (b.write s)
  own_page s g = ap b.write (d.read_write s g)

  pub parted_lawful : Lawful (sheet_model b)
  parted_lawful = record {
    keeps = λ p o own. own_page (b.after (b.read p) o) (d.sized_after (b.read p) o (d.sized_read p));
    shaped = λ p o own. d.shaped (b.read p) o;
    fault_leaves = λ p o own f. ap b.write (d.fault_leaves (b.read p) o f) ∙ own;
    same_page = λ p o q own h.
        let s = b.read p in
        let g = d.sized_read p in
        ap (λ t. b.write (b.after t q)) (d.read_write (b.after s o) (d.sized_after s o g))
        ∙ ap b.write (same_sheet s o q g h)
        ∙ sym (ap (λ t. b.write (b.after t o)) (d.read_write (b.after s q) (d.sized_after s q g)));
    same_answer = λ p o q own h.
        let s = b.read p in
        let g = d.sized_read p in
        ap (λ t. b.answer t o) (d.read_write (b.after s q) (d.sized_after s q g)) ∙ same_answer s o q g h;
  }

-- A hall's answer and all pages, where a book keeps a sheet for each hall.
module _ {S : Type 0} (b : Sheets S) (sheets : ℕ → S) (hall : ℕ) (o : Operation) (inside : hall ≤ 7) (again : b.read (b.write (sheets hall)) ≡ sheets hall) where
  pub told_sheet : b.answer (sheets hall) o ≡ told (sheet_model b) (λ h. b.write (sheets h)) hall o
  told_sheet = sym (cond-true (ltb hall 8) _ _ (lt-ltb hall 8 (omega arith)) ∙ ap (λ s. b.answer s o) again)

  pub turned_sheet : (new : ℕ → S) → new hall ≡ b.after (sheets hall) o → ((h : ℕ) → (h ≡ hall → ⊥) → new h ≡ sheets h)
      → (λ h. b.write (new h)) ≡ turned (sheet_model b) (λ h. b.write (sheets h)) hall o
  turned_sheet new here there =
      turned_by (sheet_model b) (λ h. b.write (sheets h)) (λ h. b.write (new h)) hall o (omega arith)
      (ap b.write (here ∙ sym (ap (λ s. b.after s o) again)))
      (λ h n. ap b.write (there h n))
