-- What is promised of the calls that a program makes.
use Rattle.std.proofs.Common.{◌≡◌, ℕ, zero, suc, ◌+◌, ◌<◌, ◌≤◌, List, [], ◌∷◌, ◌++◌, length, take, get_or, set, Result, refl, sym, ap, ◌∙◌, subst, arith}
use Rattle.book.specs.Model.{Model, Lawful}
use Rattle.congress.proofs.Sent.{sets_push}
use Rattle.congress.specs.State.{Scene}
use Rattle.congress.specs.declared.refusals.Refusal.{Refusal}
use Rattle.order.proofs.Main.{always_one_order, always_all_or_none, always_confirmed_is_done, always_keeps_well, always_removal_holds}
use Rattle.order.specs.Conduct.{told, Promised, BeginsWithOpen, AfterEach, LeadsOn}
use Rattle.order.specs.Runs.{step, Past, beginning, one_call, run}
use Rattle.order.specs.declared.calls.Call.{Call}
use Rattle.order.specs.declared.calls.Call.TheVariants.{Open}
use Rattle.order.specs.declared.calls.Said.{Said}
use Rattle.std.proofs.lemmas.List.{take_more, length-take-le}
use Rattle.std.proofs.lemmas.List.Edits.{sets}

-- one call more at the end of a list
pub run_push : (m : Model) (calls : List Call) (call : Call) (g : Past) → run m (calls ++ call ∷ []) g ≡ one_call m call (run m calls g)
run_push m [] call g = refl
run_push m (c ∷ cs) call g = run_push m cs call (one_call m c g)

pub told_push : (m : Model) (calls : List Call) (call : Call) (g : Past) → told m (calls ++ call ∷ []) g ≡ told m calls g ++ (step m call (run m calls g).now).0 ∷ []
told_push m [] call g = refl
told_push m (c ∷ cs) call g = ap (λ (l : List (Result Said Refusal)). (step m c g.now).0 ∷ l) (told_push m cs call (one_call m c g))

pub told_length : (m : Model) (calls : List Call) (g : Past) → length (told m calls g) ≡ length calls
told_length m [] g = refl
told_length m (c ∷ cs) g = ap suc (told_length m cs (one_call m c g))

module _ (m : Model) (laws : Lawful m) (s : Scene) (own : (h : ℕ) → m.own (s.pages h)) where
  opened_promised : (halls : ℕ) (rest : List Call) → 1 ≤ halls → halls ≤ 8 → Promised m (run m (Open halls ∷ rest) (beginning s))
  opened_promised halls rest low high = record {
    one_order = always_one_order m laws s.pages own s.world.state s.world.post halls low high rest;
    all_or_none = always_all_or_none m laws s.pages own s.world.state s.world.post halls low high rest;
    confirmed_is_done = always_confirmed_is_done m laws s.pages own s.world.state s.world.post halls low high rest;
    keeps_well = always_keeps_well m laws s.pages own s.world.state s.world.post halls low high rest;
    removal = λ roll. always_removal_holds m laws roll s.pages own s.world.state s.world.post halls low high rest;
  }

  pub list_promised : (calls : List Call) → BeginsWithOpen calls → Promised m (run m calls (beginning s))
  list_promised calls b = subst (λ (l : List Call). Promised m (run m l (beginning s))) (sym b.is) (opened_promised b.halls b.rest b.some b.few)

  -- a list that begins so still does when its end is cut off
  pub each_promised : (calls : List Call) → BeginsWithOpen calls → AfterEach m calls s (Promised m)
  each_promised calls b zero low high = absurd (omega arith)
  each_promised calls b (suc k) low high =
      list_promised (take (suc k) calls) (record { halls = b.halls; rest = take k b.rest; is = ap (take (suc k)) b.is; some = b.some; few = b.few })

-- calls that go on where others ended
run_append : (m : Model) (past calls : List Call) (g : Past) → run m (past ++ calls) g ≡ run m calls (run m past g)
run_append m [] calls g = refl
run_append m (c ∷ cs) calls g = run_append m cs calls (one_call m c g)

-- what a list leaves goes by what it finds
run_now : (m : Model) (calls : List Call) (g g' : Past) → g.now ≡ g'.now → (run m calls g).now ≡ (run m calls g').now
run_now m [] g g' e = e
run_now m (c ∷ cs) g g' e = run_now m cs (one_call m c g) (one_call m c g') (ap (λ (s : Scene). (step m c s).1) e)

pub leads_on : (m : Model) → Lawful m → (calls : List Call) (before : Scene) → LeadsOn m calls before (run m calls (beginning before)).now
leads_on m laws calls before s past own reached = (
  ap (λ (g : Past). g.now) (run_append m past calls (beginning s)) ∙ run_now m calls (run m past (beginning s)) (beginning before) reached,
  λ k low begins. list_promised m laws s own (past ++ take k calls) begins,
)

-- a list of calls that are made in turn, with what they tell
module _ (m : Model) (calls : List Call) (g : Past) (i : ℕ) (inside : i < length calls) (d : Call) where
  next : take (i + 1) calls ≡ take i calls ++ get_or calls i d ∷ []
  next = take_more calls i d inside

  pub goes_on : (before : Scene) → before ≡ (run m (take i calls) g).now → (step m (get_or calls i d) before).1 ≡ (run m (take (i + 1) calls) g).now
  goes_on before is =
      ap (λ (s : Scene). (step m (get_or calls i d) s).1) is
      ∙ sym (ap (λ (l : List Call). (run m l g).now) next ∙ ap (λ (p : Past). p.now) (run_push m (take i calls) (get_or calls i d) g))

  pub tells_on : (before : Scene) (first answers : List (Result Said Refusal)) → before ≡ (run m (take i calls) g).now
      → answers ≡ sets first 0 (told m (take i calls) g) → set answers i (step m (get_or calls i d) before).0 ≡ sets first 0 (told m (take (i + 1) calls) g)
  tells_on before first answers is so =
      let place : i ≡ 0 + length (told m (take i calls) g) = omega (arith, told_length m (take i calls) g, length-take-le i calls (omega arith)) in
      ap (λ (l : List (Result Said Refusal)). set l i (step m (get_or calls i d) before).0) so
      ∙ ap (λ (s : Scene). set (sets first 0 (told m (take i calls) g)) i (step m (get_or calls i d) s).0) is
      ∙ ap (λ (k : ℕ). set (sets first 0 (told m (take i calls) g)) k (step m (get_or calls i d) (run m (take i calls) g).now).0) place
      ∙ sym (sets_push first 0 (told m (take i calls) g) (step m (get_or calls i d) (run m (take i calls) g).now).0)
      ∙ ap (sets first 0) (sym (ap (λ (l : List Call). told m l g) next ∙ told_push m (take i calls) (get_or calls i d) g))
