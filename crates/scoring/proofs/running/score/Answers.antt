use Rattle.std.proofs.Common.{◌≡◌, ◌+◌, ◌<◌, ◌^◌, inl, length, vec_items, sym, ap, ◌∙◌, arith, rules}
use Rattle.std.specs.Iterator.Adapters.{enumerate_source, enumerate_count}
use Rattle.entries.proofs.Runs.{lines_few}
use Rattle.entries.specs.Words.{lines}
use Rattle.scoring.proofs.Turns.{at_start, after_turn}
use Rattle.scoring.proofs.running.score.Goals as goal
use Rattle.scoring.specs.Running.{State, scored, sheet}

pub loop-before-init : goal.loop-before-init
loop-before-init g c =
    let it = c.into_iter-before-iterator.result in
    let text = c.args.text.now in
    let left = lines (enumerate_source it).0.now in
    let all : left ≡ lines text = cc in
    let none : enumerate_count it ≡ 0 = cc in
    let few : enumerate_count it + length left < 2 ^ 64 = omega (arith, lines_few text, ap length all) in (
      at_start g.B.Book.model (g.B.Book.pages c.args.book.now) c.start_of_sheet-at.result (enumerate_count it) (vec_items c.new-log.result) left text
          c.start_of_sheet-at.ensures none c.new-log.ensures.items all,
      (tt, tt, inl few),
      tt,
    )

pub loop-before-preserved : goal.loop-before-preserved
loop-before-preserved g c =
    let was = c.loop-before in
    let it = was.before-iterator in
    let next = c.next.new.self in
    let now : State = record { pages = g.B.Book.pages was.book; at = was.at; count = enumerate_count it; log = vec_items was.log } in
    let taken = c.take_line-came in
    let steps = c.in-Some.ensures.steps in (
      after_turn g.B.Book.model now c.in-Some.line.now (lines (enumerate_source next).0.now) (lines (enumerate_source it).0.now)
          (g.B.Book.pages taken.new.book) taken.new.at c.in-Some.before (enumerate_count next) taken.result (vec_items c.note.new.log)
          taken.ensures.pages taken.ensures.progress taken.ensures.event c.in_ok-note.ensures steps.1 steps.2 steps.0
          ∙ was.invariant.0,
      search rules,
      tt,
    )

pub returns : goal.returns
returns g c =
    let was = c.loop-before in
    let it = was.before-iterator in
    let now : State = record { pages = g.B.Book.pages was.book; at = was.at; count = enumerate_count it; log = vec_items was.log } in
    let all : State = sheet g.B.Book.model (g.B.Book.pages c.args.book.now) c.args.text.now in
    let end : now ≡ all = sym (ap (scored g.B.Book.model now) c.in-None.ensures.steps.0.0) ∙ was.invariant.0 in
    record { made = (ap (λ s. s.at) end, ap (λ s. s.log) end); pages = λ _. ap (λ s. s.pages) end }
