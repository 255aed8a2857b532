use Rattle.data_layer.proofs.CommandPaths.{command_After}
use Rattle.data_layer.proofs.laws.commands_go_by_paths.Goals as goal

pub returns : goal.returns
returns c pushed model changed command asks does =
    command_After pushed model changed command asks does
