-- The pages of a book that has a part for each hall, after a write at one of them.
use Rattle.std.proofs.Common.{◌≡◌, ℕ, ◌<◌, List, length, get_or, set, map, eqb, ltb, ◌&&◌, sym, ap, ◌∙◌, inl, inr, arith, get_or-set_same, get_or-set_other}
use mathlib.Core.Path.{fun_ext}
use Rattle.book.specs.Halls.{page_at}
use Rattle.book.specs.Model.{Page, Model, turned}
use Rattle.records.specs.declared.Operation.{Operation}
use Rattle.std.proofs.lemmas.List.{length-map, map-set, get_or-map}
use Rattle.std.proofs.lemmas.Bool.{cases_eq, cond-true, cond-false, lt-ltb, eq-eqb, ne_eqb}

-- the pages after an operation at a hall are known by that hall's and the others'
pub turned_by : (m : Model) (pages new : ℕ → Page) (hall : ℕ) (o : Operation) → hall < 8 → new hall ≡ m.next (pages hall) o
    → ((h : ℕ) → (h ≡ hall → ⊥) → new h ≡ pages h) → new ≡ turned m pages hall o
turned_by m pages new hall o low here others =
    fun_ext (λ h.
    let at_hall : (ltb hall 8 && eqb h hall) ≡ eqb h hall = ap (λ t. t && eqb h hall) (lt-ltb hall 8 low) in
    elim (cases_eq h hall) [
      | inl e ↦
          ap new e ∙ here ∙ ap (λ k. m.next (pages k) o) (sym e)
          ∙ sym (cond-true (ltb hall 8 && eqb h hall) _ _ (at_hall ∙ eq-eqb h hall e))
      | inr n ↦ others h n ∙ sym (cond-false (ltb hall 8 && eqb h hall) _ _ (at_hall ∙ ne_eqb h hall n))
    ])

-- the same of a table of parts; `d` stands for a hall past its end
pub turned_at : {H : Type 0} (page : H → Page) (first : Page) (m : Model) (halls : List H) (i : ℕ) (d new : H) (o : Operation) → i < 8 → i < length halls
    → page new ≡ m.next (page (get_or halls i d)) o → page_at page first (set halls i new) ≡ turned m (page_at page first halls) i o
turned_at page first m halls i d new o low inside made =
    let pages = map page halls in
    let written : (h : ℕ) → page_at page first (set halls i new) h ≡ get_or (set pages i (page new)) h first =
    λ h. ap (λ ps. get_or ps h first) (map-set page halls i new) in
    turned_by m (page_at page first halls) (page_at page first (set halls i new)) i o low
    (written i ∙ get_or-set_same pages i (page new) first (omega (arith, length-map halls page)) ∙ made
    ∙ ap (λ p. m.next p o) (sym (get_or-map page halls i d first inside)))
    (λ h n. written h ∙ get_or-set_other pages i h (page new) first n)
