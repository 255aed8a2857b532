use Rattle.data_layer.proofs.CommandKeys.{command_distinct}
use Rattle.data_layer.proofs.laws.commands_keep_keys_distinct.Goals as goal

pub returns : goal.returns
returns c pushed layer distinct kept = command_distinct pushed layer distinct kept
