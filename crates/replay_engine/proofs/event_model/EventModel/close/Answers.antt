use Rattle.std.proofs.Common.{[], ◌∷◌}
use Rattle.page_world.specs.Known.{seen}
use Rattle.replay_engine.specs.Run.{counts_of}
use Rattle.replay_engine.proofs.LogLines.{line_last, line_then, model_is}
use Rattle.replay_engine.proofs.event_model.EventModel.close.Goals as goal
use Rattle.run_log.specs.LineFault.{is_line_fault}
use Rattle.run_log.specs.Lines.{finish}

pub returns : goal.returns
returns g c =
    let same = model_is (seen c.args.self.now.world) _ c.requires.live c.model.ensures in
    line_then is_line_fault _ is_line_fault _ _ _ _ _
    (finish (counts_of c.args.self.now.steps c.args.self.now.jobs c.args.self.now.events) ∷ [])
    (rw same at c.in_ok-put_model.ensures) (line_last is_line_fault _ _ _ _ c.put_end.ensures)
