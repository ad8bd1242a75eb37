-- Functions of the hall, with one value changed; and the pages of a book so.
use Rattle.std.proofs.Common.{◌≡◌, ℕ, ◌<◌, cond, ◌&&◌, eqb, ltb, refl, sym, ap, ◌∙◌}
use mathlib.Core.Path.{fun_ext}
use Rattle.book.specs.Model.{Page, Model, told, turned, no_hall}
use Rattle.records.specs.declared.Operation.{Operation}
use Rattle.std.proofs.lemmas.Bool.{cond_both, cond-true, eqb-true, eqb-false, and_from, lt-ltb, eq-eqb, and_parts}

abbrev pub put : {A : Type 0} → (ℕ → A) → ℕ → A → ℕ → A
put f h v k = cond (eqb k h) v (f k)

pub put_at : {A : Type 0} (P : A → Type 0) (f : ℕ → A) (h : ℕ) (v : A) (k : ℕ) → (k ≡ h → P v) → ((k ≡ h → ⊥) → P (f k)) → P (put f h v k)
put_at P f h v k same other = cond_both (eqb k h) v (f k) P (λ n. same (eqb-true k h n)) (λ n. other (eqb-false k h n))

pub put_here : {A : Type 0} (f : ℕ → A) (h : ℕ) (v : A) (k : ℕ) → k ≡ h → put f h v k ≡ v
put_here f h v k e = put_at (λ x. x ≡ v) f h v k (λ _. refl) (λ n. absurd (n e))

pub put_there : {A : Type 0} (f : ℕ → A) (h : ℕ) (v : A) (k : ℕ) → (k ≡ h → ⊥) → put f h v k ≡ f k
put_there f h v k n = put_at (λ x. x ≡ f k) f h v k (λ e. absurd (n e)) (λ _. refl)

pub put_same : {A : Type 0} (f : ℕ → A) (h : ℕ) → put f h (f h) ≡ f
put_same f h = fun_ext (λ k. put_at (λ x. x ≡ f k) f h (f h) k (λ e. ap f (sym e)) (λ _. refl))

-- a hall of the eight is answered by its page, and turns it
pub told_is : (m : Model) (pages : ℕ → Page) (h : ℕ) (o : Operation) → h < 8 → told m pages h o ≡ m.answer (pages h) o
told_is m pages h o l = cond-true (ltb h 8) (m.answer (pages h) o) (no_hall m h) (lt-ltb h 8 l)

pub turned_is : (m : Model) (pages : ℕ → Page) (h : ℕ) (o : Operation) → h < 8 → turned m pages h o ≡ put pages h (m.next (pages h) o)
turned_is m pages h o l =
    fun_ext (λ k. put_at (λ (p : Page). turned m pages h o k ≡ p) pages h (m.next (pages h) o) k
    (λ e. cond-true (ltb h 8 && eqb k h) (m.next (pages k) o) (pages k) (and_from (ltb h 8) (eqb k h) (lt-ltb h 8 l) (eq-eqb k h e))
    ∙ ap (λ (j : ℕ). m.next (pages j) o) e)
    (λ n. cond_both (ltb h 8 && eqb k h) (m.next (pages k) o) (pages k) (λ (p : Page). p ≡ pages k)
    (λ t. absurd (n (eqb-true k h (and_parts (ltb h 8) (eqb k h) t).1))) (λ _. refl)))
