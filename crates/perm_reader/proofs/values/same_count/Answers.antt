use Rattle.perm_reader.proofs.Counts.{counts}
use Rattle.perm_reader.proofs.values.same_count.Goals as goal

pub returns : goal.returns
returns c = counts c.args.some.now c.args.other.now
