use Rattle.std.proofs.Common.{rules}
use Rattle.rounds.proofs.sheets.Kept.total.Goals as goal

pub overflow_cast-result : goal.overflow_cast-result
overflow_cast-result g c =
    let small = c.args.self.now.kept.small c.get.result in
    let early = c.args.self.now.kept.early in
    search rules
