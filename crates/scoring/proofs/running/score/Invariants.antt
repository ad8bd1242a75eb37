use Rattle.std.proofs.Common.{◌≡◌, vec_items}
use Rattle.std.specs.Iterator.Adapters.{enumerate_source, enumerate_count}
use Rattle.entries.specs.Words.{lines}
use Rattle.scoring.proofs.running.score.Given as goal
use Rattle.scoring.specs.Running.{scored, sheet}

-- the lines that are left, scored from where the loop stands, are the whole sheet scored
abbrev pub invariant-loop-before : goal.invariant-loop-before
invariant-loop-before g l =
    let left = lines (enumerate_source l.before-iterator).0.now in
    let count = enumerate_count l.before-iterator in
    (scored g.B.Book.model (record { pages = g.B.Book.pages l.book; at = l.at; count = count; log = vec_items l.log }) left
    ≡ sheet g.B.Book.model (g.B.Book.pages l.initial.book) l.text)
    × (goal.iterator-loop-before g).can_next l.before-iterator
    × (goal.iterator-loop-before g).is_finite l.before-iterator
