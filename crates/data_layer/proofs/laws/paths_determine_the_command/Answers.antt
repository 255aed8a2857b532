use Rattle.data_layer.proofs.CommandPaths.{HasListAt_determines}
use Rattle.data_layer.proofs.laws.paths_determine_the_command.Goals as goal

pub returns : goal.returns
returns c path items m r s distinct_r distinct_s one two =
    HasListAt_determines path items m r s distinct_r distinct_s one two
