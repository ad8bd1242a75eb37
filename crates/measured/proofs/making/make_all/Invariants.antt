use Rattle.std.proofs.Common.{◌≡◌, map, take}
use Rattle.measured.proofs.making.make_all.Given as goal
use Rattle.congress.specs.Meaning.{scene_of}
use Rattle.measured.specs.Rows.{call_of, rows_of}
use Rattle.order.specs.Runs.{beginning, run}
use Rattle.std.proofs.lemmas.List.Edits.{sets}

-- the calls so far are made, and what they told is written
abbrev pub invariant-loop-place : goal.invariant-loop-place
invariant-loop-place g l =
    let m = g.B.Book.model in
    let first = beginning (scene_of l.fn.congress l.fn.post (g.B.Book.pages l.fn.book)) in
    (scene_of l.congress l.post (g.B.Book.pages l.book) ≡ (run m (map (call_of l.fn.parts) (take l.place l.fn.calls)) first).now)
    × (l.told ≡ sets l.fn.told 0 (rows_of m l.fn.parts (take l.place l.fn.calls) first))
