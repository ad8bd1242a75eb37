use Rattle.std.proofs.Common.{◌≡◌, [], ◌+◌, ◌<◌, ◌^◌, inl, length, vec_items, sym, ap, ◌∙◌, arith, rules}
use Rattle.std.specs.Iterator.Adapters.{enumerate_source, enumerate_count}
use Rattle.entries.proofs.Runs.{lines_few}
use Rattle.entries.specs.Words.{lines}
use Rattle.rehearse.proofs.Turns.{at_start, after_turn}
use Rattle.rehearse.proofs.lines.read_script.Goals as goal
use Rattle.rehearse.specs.Scripts.{State, read, script_of}

pub loop-before-init : goal.loop-before-init
loop-before-init c =
    let it = c.into_iter-before-iterator.result in
    let text = c.args.text.now in
    let left = lines (enumerate_source it).0.now in
    let all : left ≡ lines text = cc in
    let none : enumerate_count it ≡ 0 = cc in
    let few : enumerate_count it + length left < 2 ^ 64 = omega (arith, lines_few text, ap length all) in
    let none_called : vec_items c.new.result ≡ [] = c.new.ensures.items in
    let none_marked : vec_items c.new-2.result ≡ [] = c.new-2.ensures.items in (
      at_start c.default.result (enumerate_count it) (vec_items c.new.result) (vec_items c.new-2.result) left text c.default.ensures none
          none_called none_marked all,
      (tt, tt, inl few),
      tt,
    )

pub loop-before-preserved : goal.loop-before-preserved
loop-before-preserved c =
    let was = c.loop-before in
    let it = was.before-iterator in
    let next = c.next.new.self in
    let now : State = record { at = was.script.at; count = enumerate_count it; calls = vec_items was.script.calls; marks = vec_items was.script.marks } in
    let new = c.take.new.self in
    let takes = c.in_ok-take.ensures in
    let steps = c.in-Some.ensures.steps in (
      after_turn now c.in-Some.line.now (lines (enumerate_source next).0.now) (lines (enumerate_source it).0.now) new.at c.in-Some.before
          (enumerate_count next) c.read_line-read.result (vec_items new.calls) (vec_items new.marks) c.read_line-read.ensures takes.at
          takes.calls takes.marks steps.1 steps.2 steps.0
          ∙ was.invariant.0,
      search rules,
      tt,
    )

pub returns : goal.returns
returns c =
    let was = c.loop-before in
    let it = was.before-iterator in
    let now : State = record { at = was.script.at; count = enumerate_count it; calls = vec_items was.script.calls; marks = vec_items was.script.marks } in
    let all : State = script_of c.args.text.now in
    let end : now ≡ all = sym (ap (read now) c.in-None.ensures.steps.0.0) ∙ was.invariant.0 in
    record { at = ap (λ s. s.at) end; calls = ap (λ s. s.calls) end; marks = ap (λ s. s.marks) end }
