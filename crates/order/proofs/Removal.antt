-- A removal holds.
use Rattle.std.proofs.Common.{◌≡◌, ℕ, ◌<◌, Bool, true, false, cond, ◌⊎◌, List, [], ◌∷◌, ◌++◌, ℤ, pos, Ok, Err, Result, sym, refl, ap, ◌∙◌, subst, inl, inr, arith}
use Rattle.std.specs.Prelude.{◌||◌, ◌==◌, nat_lt}
use Rattle.book.specs.Model.{Page, Model, Lawful}
use Rattle.book.specs.Numbers.{at}
use Rattle.congress.specs.State.{State, Scene, fresh}
use Rattle.congress.specs.declared.refusals.Refusal.TheVariants.{BadHalls}
use Rattle.congress.specs.declared.refusals.Refusal.{Refusal}
use Rattle.order.proofs.Moves.{Moves, rests, turns, act, act_of}
use Rattle.order.proofs.Pages.{put, put_at, put_same}
use Rattle.order.proofs.Tokens.{TokenNow, same, gone, given, well_borne, token_now}
use Rattle.order.specs.History.{Issued}
use Rattle.order.specs.Promises.{◌∈◌}
use Rattle.order.specs.Removal.{Removes, Appoints, RemovalHolds}
use Rattle.order.specs.Runs.{Act, acts_of, Past, beginning, nothing, saying, step, one_call}
use Rattle.order.specs.declared.calls.Call.{Call}
use Rattle.order.specs.declared.calls.Said.{Said}
use Rattle.records.specs.Answers.{well_done}
use Rattle.records.specs.declared.Operation.{Operation}
use Rattle.roll.specs.Over.{IsRoll}
use Rattle.std.proofs.lemmas.Bool.{cond_both}

-- looking back, an appointment of token t is met before any removal
abbrev pub Guarded : ℕ → ℕ → ℕ → List Act → Type 0
Guarded h g t [] = Unit {0}
Guarded h g t (x ∷ l) = Appoints x h g t ⊎ ((Removes x h g → ⊥) × Guarded h g t l)

abbrev pub AllGuarded : List Act → Type 0
AllGuarded [] = Unit {0}
AllGuarded (w ∷ l) = Guarded w.hall w.operation.grant w.operation.token l × AllGuarded l

-- each token that stands on a page is guarded
abbrev pub Standing : List Act → (ℕ → Page) → Type 0
Standing l pages = (h g t : ℕ) → g < 16 → (t ≡ 0 → ⊥) → at (pages h) g ≡ pos t → Guarded h g t l

-- a log that is guarded, and pages whose tokens it guards
abbrev pub Both : List Act → (ℕ → Page) → Type 0
Both l pages = AllGuarded l × Standing l pages

abbrev pub Guard : Past → Type 0
Guard p = Both p.acts p.now.pages

-- What a guarded log promises.

found_between : (between earlier : List Act) (r : Act) (h g t : ℕ) → Guarded h g t (between ++ (r ∷ earlier)) → Removes r h g
    → (x : Act) × (x ∈ between) × Appoints x h g t
found_between [] earlier r h g t (inl p) removes = let one = p.kind in let two = removes.kind in absurd (omega arith)
found_between [] earlier r h g t (inr k) removes = absurd (k.0 removes)
found_between (x ∷ xs) earlier r h g t (inl p) removes = (x, inl refl, p)
found_between (x ∷ xs) earlier r h g t (inr k) removes = let f = found_between xs earlier r h g t k.1 removes in (f.0, inr f.1, f.2)

guarded_tail : (later rest : List Act) → AllGuarded (later ++ rest) → AllGuarded rest
guarded_tail [] rest all = all
guarded_tail (x ∷ xs) rest all = guarded_tail xs rest all.1

pub guard_gives : (p : Past) → Guard p → RemovalHolds p
guard_gives p guard later between earlier w r e removes =
    found_between between earlier r w.hall w.operation.grant w.operation.token (guarded_tail later (w ∷ (between ++ (r ∷ earlier))) (subst AllGuarded e guard.0)).0 removes

pub guard_begins : (s : Scene) → Guard (beginning s)
guard_begins s = (tt, λ h g t low some stands. tt)

-- an Open does no part, whether or not it is refused
pub guard_opens : (m : Model) (halls : ℕ) (p : Past) → Guard p → Guard (one_call m (Call.Open halls) p)
guard_opens m halls p guard =
    cond_both (halls == 0 || nat_lt 8 halls) (Err BadHalls, p.now.world.state) (Ok tt, fresh halls)
    (λ (r : Result (Unit {0}) Refusal × State). Both (acts_of p.history.issues (saying nothing r.0) ++ p.acts) p.now.pages)
    (λ _. guard) (λ _. guard)

-- One call more.

pos_is : {x y : ℕ} → pos x ≡ pos y → x ≡ y
pos_is e = cc

module _ (m : Model) (lawful : Lawful m) (roll : IsRoll m) (l : List Act) (pages : ℕ → Page) (own : (h : ℕ) → m.own (pages h)) (both : Both l pages)
    (h : ℕ) (o : Operation) where
  module _ (done : well_done (m.answer (pages h) o) ≡ true) where
    act_guarded : Guarded h o.grant o.token l
    act_guarded = let b = well_borne m roll (pages h) o (own h) done in both.1 h o.grant o.token b.low b.some b.token

    elsewhere : (k g t : ℕ) → (k ≡ h → ⊥) → Guarded k g t l → Guarded k g t (act h o ∷ l)
    elsewhere k g t n guarded = inr (λ x. n (sym x.at), guarded)

    here : (g t : ℕ) → g < 16 → (t ≡ 0 → ⊥) → (z : ℤ) → z ≡ pos t → TokenNow (pages h) o g z → Guarded h g t (act h o ∷ l)
    here g t low some z e (same q n) = inr (λ x. n x.kind x.entry, both.1 h g t low some (sym q ∙ e))
    here g t low some z e (gone q) = absurd (some (pos_is (sym e ∙ q)))
    here g t low some z e (given k a q) = inl (record { at = refl; kind = k; entry = a; bears = sym q ∙ e })

    standing_more : Standing (act h o ∷ l) (put pages h (m.next (pages h) o))
    standing_more k g t low some =
        put_at (λ (p : Page). at p g ≡ pos t → Guarded k g t (act h o ∷ l)) pages h (m.next (pages h) o) k
        (λ e q.
        subst (λ (i : ℕ). Guarded i g t (act h o ∷ l)) (sym e)
        (here g t low some (at (m.next (pages h) o) g) q (token_now m roll (pages h) o (own h) done g low)))
        (λ n q. elsewhere k g t n (both.1 k g t low some q))

  -- a part that is not well done is no act, and leaves the page
  one_part : (d : Bool) → well_done (m.answer (pages h) o) ≡ d
      → Both (cond d (act h o ∷ []) [] ++ l) (put pages h (m.next (pages h) o))
  one_part true e = ((act_guarded e, both.0), standing_more e)
  one_part false e =
      subst (Both l) (sym (ap (put pages h) (lawful.fault_leaves (pages h) o (own h) e) ∙ put_same pages h)) both

module _ (m : Model) (lawful : Lawful m) (roll : IsRoll m) (s : Scene) (issued : List Issued) (l : List Act) (own : (h : ℕ) → m.own (s.pages h))
    (both : Both l s.pages) where
  moved : (st : Result Said Refusal × Scene) → Moves m s issued st → Both (acts_of issued st.0 ++ l) st.1.pages
  moved st (rests p a) = subst (λ (k : List Act). Both (k ++ l) st.1.pages) (sym a) (subst (Both l) (sym p) both)
  moved st (turns h o p a) =
      subst (λ (k : List Act). Both (k ++ l) st.1.pages) (sym a)
      (subst (Both (act_of h o (m.answer (s.pages h) o) ++ l)) (sym p)
      (one_part m lawful roll l s.pages own both h o (well_done (m.answer (s.pages h) o)) refl))

pub guard_stays : (m : Model) → Lawful m → IsRoll m → (call : Call) (p : Past) → Guard p
    → Moves m p.now p.history.issues (step m call p.now) → ((h : ℕ) → m.own (p.now.pages h))
    → Guard (one_call m call p)
guard_stays m lawful roll call p guard moves own = moved m lawful roll p.now p.history.issues p.acts own guard (step m call p.now) moves
