use Rattle.export_fields.proofs.Nested.{reads_by_fields}
use Rattle.export_fields.proofs.laws.parameters_are_read_by_fields.Goals as goal

pub returns : goal.returns
returns c value = reads_by_fields value
