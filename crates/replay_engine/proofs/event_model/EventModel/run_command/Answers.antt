use Rattle.gtm_data.specs.Tree.{tree_of}
use Rattle.page_world.specs.Known.{seen}
use Rattle.replay_engine.proofs.LogLines.{command_line, ran_is}
use Rattle.replay_engine.proofs.event_model.EventModel.run_command.Goals as goal
use Rattle.run_log.specs.LineFault.{is_line_fault}

pub returns-clause-lines : goal.returns-clause-lines
returns-clause-lines g c =
    command_line is_line_fault _ (tree_of c.args.value) _ _ _ _
    (ran_is (seen c.args.self.now.world) (tree_of c.args.value) c.in_ok-ran.ran c.requires.live
    c.in_ok-ran.ensures.told)
    c.put_command.ensures
