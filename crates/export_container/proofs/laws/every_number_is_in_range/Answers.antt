use Rattle.export_container.proofs.EntriesInRange.{in_range}
use Rattle.export_container.proofs.laws.every_number_is_in_range.Goals as goal

pub returns : goal.returns
returns c readings written read = in_range readings written read
