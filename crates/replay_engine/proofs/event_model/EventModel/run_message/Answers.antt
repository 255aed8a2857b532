use Rattle.gtm_data.specs.Tree.{tree_of}
use Rattle.replay_engine.proofs.JobTurns.{error_is}
use Rattle.replay_engine.proofs.LogLines.{message_part, message_lines, not_not}
use Rattle.replay_engine.proofs.event_model.EventModel.run_message.Goals as goal
use Rattle.replay_engine.specs.Views.{state_of}
use Rattle.run_log.specs.LineFault.{is_line_fault}

pub returns-in_err-put_message-clause-lines : goal.returns-in_err-put_message-clause-lines
returns-in_err-put_message-clause-lines g c =
    message_part is_line_fault _ _ (state_of c.args.self.now) (tree_of c.args.value) _ _ _
    (error_is _ _ c.from_residual-in_err-put_message.ensures.1)
    (not_not c.in_ok-taken.taken _ c.in_ok-taken.ensures.told) c.in_err-put_message.ensures

pub returns-clause-lines : goal.returns-clause-lines
returns-clause-lines g c =
    message_lines is_line_fault _ is_line_fault _ (state_of c.args.self.now) (tree_of c.args.value)
    _ _ _ _ _
    (not_not c.in_ok-taken.taken _ c.in_ok-taken.ensures.told) c.in_ok-name.ensures
    c.in_ok-put_message.ensures c.count_event.ensures.lines
