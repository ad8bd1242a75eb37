use Rattle.std.proofs.Common.{◌≡◌, ◌-◌, length, ap, sym, ◌∙◌, arith}
use Rattle.std.proofs.lemmas.Result.{err_from_is_err_and}
use Rattle.script.specs.Parts.{parts}
use Rattle.script.proofs.Left.{no_part, part_at_fault, part_read}
use Rattle.script.proofs.parts.parts.Goals as goal

pub returns-then-is_empty : goal.returns-then-is_empty
returns-then-is_empty c =
    let next = c.next-first.ensures in
    let none = sym c.is_empty.ensures ∙ c.if-is_empty.true in
    let n = length c.args.words.rest.now - c.loop.counter in
    no_part c.args.at.now c.loop.operations c.loop.words.place c.loop.words.rest.now _ _ _ next.word next.place next.rest n none
    ∙ c.loop.invariant

pub returns-in_err-operations : goal.returns-in_err-operations
returns-in_err-operations c =
    let p = err_from_is_err_and c.from_residual.result c.from_residual.ensures.1 in
    let next = c.next-first.ensures in
    let some = sym c.is_empty.ensures ∙ c.if-is_empty.false in
    let fault =
    part_at_fault c.args.at.now c.loop.operations c.loop.words.place c.loop.words.rest.now _ _ _ next.word next.place next.rest
    (length c.args.words.rest.now) c.loop.counter c.loop-test.true some c.in_err-operations.field-0.0 c.in_err-operations.ensures in
    rw (p.1, p.2) (fault ∙ c.loop.invariant)

pub loop-preserved : goal.loop-preserved
loop-preserved c =
    let next = c.next-first.ensures in
    let some = sym c.is_empty.ensures ∙ c.if-is_empty.false in
    part_read c.args.at.now c.loop.operations c.loop.words.place c.loop.words.rest.now _ _ _ next.word next.place next.rest
    (length c.args.words.rest.now) c.loop.counter c.loop-test.true some _ c.in_ok-operations.ensures
    ∙ c.loop.invariant

pub returns : goal.returns
unfolding parts
returns c =
    let none : length c.args.words.rest.now - c.loop.counter ≡ 0 = omega arith in
    ap (λ n. parts n c.args.at.now c.loop.operations c.loop.words.place c.loop.words.rest.now) (sym none) ∙ c.loop.invariant
