use Rattle.std.proofs.Common.{ap, sym, ◌∙◌}
use Rattle.congress.proofs.Finding.{here, further, nowhere}
use Rattle.congress.proofs.state.Congress.place_of.Goals as goal
use Rattle.congress.specs.Queue.{place_at}

pub returns-then-entries-place-clause-value : goal.returns-then-entries-place-clause-value
returns-then-entries-place-clause-value c =
    let at =
    here c.args.hall c.args.transaction c.entries-entries.result.now c.loop-place.from c.loop-place.invariant c.in-Some.place
    (sym c.in-Some.ensures.value) c.in-Some.ensures.place.1 c.if-entries-place.true in
    sym at ∙ ap (place_at c.args.hall c.args.transaction) c.entries-entries.ensures

pub loop-place-preserved : goal.loop-place-preserved
loop-place-preserved c =
    further c.args.hall c.args.transaction c.entries-entries.result.now c.loop-place.from c.loop-place.invariant c.in-Some.place
    (sym c.in-Some.ensures.value) c.if-entries-place.false

pub returns-clause-value : goal.returns-clause-value
returns-clause-value c =
    let at =
    nowhere c.args.hall c.args.transaction c.entries-entries.result.now c.loop-place.from c.loop-place.invariant (sym c.in_default.ensures.value) in
    sym at ∙ ap (place_at c.args.hall c.args.transaction) c.entries-entries.ensures
