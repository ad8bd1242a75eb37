use Rattle.std.proofs.Common.{◌≡◌, vec_items}
use Rattle.std.specs.Iterator.Adapters.{enumerate_source, enumerate_count}
use Rattle.entries.specs.Words.{lines}
use Rattle.rehearse.proofs.lines.read_script.Given as goal
use Rattle.rehearse.specs.Scripts.{read, script_of}

-- the lines that are left, read from where the loop stands, are the whole script read
abbrev pub invariant-loop-before : goal.invariant-loop-before
invariant-loop-before l =
    let left = lines (enumerate_source l.before-iterator).0.now in
    let count = enumerate_count l.before-iterator in
    (read (record { at = l.script.at; count = count; calls = vec_items l.script.calls; marks = vec_items l.script.marks }) left ≡ script_of l.text)
    × goal.iterator-loop-before.can_next l.before-iterator
    × goal.iterator-loop-before.is_finite l.before-iterator
