use Rattle.std.proofs.Common.{◌+◌, replicate, sym, ap₂, subst}
use Rattle.rounds.proofs.sheets.Kept.close.Goals as goal
use Rattle.rounds.specs.Kept.{KeptSheet}
use Rattle.rounds.specs.Sizes.{kept_closed}

pub invariant_of-self : goal.invariant_of-self
invariant_of-self g c =
    let s = c.args.self.now.sheet in
    let game = g.C.Cell.game in
    record {
      kept = subst (KeptSheet game)
          (sym (ap₂ (λ x y. record { round = s.round + 1; cells = replicate g.row.CELLS x; totals = y }) c.empty-cells.ensures c.raised-totals.ensures))
          (kept_closed game g.met.C.Cell.fits s c.requires c.args.self.now.kept);
    }
