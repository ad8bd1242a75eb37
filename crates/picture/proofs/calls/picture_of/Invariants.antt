use Rattle.std.proofs.Common.{◌≡◌, ◌++◌, drop}
use Rattle.congress.specs.Meaning.{scene_of}
use Rattle.order.specs.Conduct.{told}
use Rattle.order.specs.Runs.{beginning}
use Rattle.picture.specs.Arrows.{drawn, nothing_drawn}
use Rattle.picture.specs.Pictures.{drawn_from}
use Rattle.picture.proofs.calls.picture_of.Given as goal

-- with the calls that are left, made from where the loop stands, the whole
abbrev pub invariant-loop-place : goal.invariant-loop-place
invariant-loop-place g l =
    let m = g.B.Book.model in
    let first = scene_of l.fn.congress l.fn.post (g.B.Book.pages l.fn.book) in
    let now = scene_of l.congress l.post (g.B.Book.pages l.book) in
    let left = drop l.place l.fn.calls in
    (l.told.items ++ told m left (beginning now) ≡ told m l.fn.calls (beginning first))
    × (drawn_from m l.place left now (drawn l.ledger) ≡ drawn_from m 0 l.fn.calls first nothing_drawn)
