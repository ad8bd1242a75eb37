-- A turn of the loop over the calls.
use Rattle.std.proofs.Common.{◌≡◌, ℕ, ◌+◌, List, [], ◌∷◌, ◌++◌, Result, refl, sym, ap, ap₂, ◌∙◌, append_assoc}
use Rattle.book.specs.Model.{Model}
use Rattle.congress.specs.State.{Scene, messages}
use Rattle.congress.specs.declared.refusals.Refusal.{Refusal}
use Rattle.order.specs.Conduct.{told}
use Rattle.order.specs.Runs.{step, Past, beginning, one_call}
use Rattle.order.specs.declared.calls.Call.{Call}
use Rattle.order.specs.declared.calls.Said.{Said}
use Rattle.picture.specs.Arrows.{Drawn, posted}
use Rattle.picture.specs.Pictures.{drawn_from}
use Rattle.records.specs.declared.messages.Message.{Message}

-- what calls tell goes by the congress, post and pages that they find
pub told_now : (m : Model) (calls : List Call) (g g' : Past) → g.now ≡ g'.now → told m calls g ≡ told m calls g'
told_now m [] g g' e = refl
told_now m (c ∷ cs) g g' e =
    ap₂ (λ (t : Result Said Refusal) (ts : List (Result Said Refusal)). t ∷ ts) (ap (λ (s : Scene). (step m c s).0) e)
    (told_now m cs (one_call m c g) (one_call m c g') (ap (λ (s : Scene). (step m c s).1) e))

-- a turn takes the first of the calls that are left
pub told_turn : (m : Model) (call : Call) (later left : List Call) (s t : Scene) (said : Result Said Refusal) (before : List (Result Said Refusal))
    → (said, t) ≡ step m call s → left ≡ call ∷ later
    → (before ++ said ∷ []) ++ told m later (beginning t) ≡ before ++ told m left (beginning s)
told_turn m call later left s t said before made first =
    append_assoc before (said ∷ []) (told m later (beginning t))
    ∙ ap (λ (ts : List (Result Said Refusal)). before ++ ts)
    (ap₂ (λ (x : Result Said Refusal) (ts : List (Result Said Refusal)). x ∷ ts) (ap (λ (x : Result Said Refusal × Scene). x.0) made)
    (told_now m later (beginning t) (one_call m call (beginning s)) (ap (λ (x : Result Said Refusal × Scene). x.1) made))
    ∙ sym (ap (λ (cs : List Call). told m cs (beginning s)) first))

pub drawn_turn : (m : Model) (n : ℕ) (call : Call) (later left : List Call) (s t : Scene) (said : Result Said Refusal) (d now : Drawn) (found : List Message)
    → (said, t) ≡ step m call s → left ≡ call ∷ later → found ≡ messages t.world → now ≡ posted n call said found d
    → drawn_from m (n + 1) later t now ≡ drawn_from m n left s d
drawn_turn m n call later left s t said d now found made first is drawn =
    ap (drawn_from m (n + 1) later t) (drawn ∙ ap (λ (ms : List Message). posted n call said ms d) is)
    ∙ ap (λ (x : Result Said Refusal × Scene). drawn_from m (n + 1) later x.1 (posted n call x.0 (messages x.1.world) d)) made
    ∙ sym (ap (λ (cs : List Call). drawn_from m n cs s d) first)
