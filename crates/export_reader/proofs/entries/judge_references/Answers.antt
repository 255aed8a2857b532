use Rattle.std.proofs.Common.{◌∙◌, sym}
use Rattle.export_reader.proofs.Fits.{loaded_sound}
use Rattle.export_reader.proofs.entries.judge_references.Goals as goal

pub returns-clause-sound : goal.returns-clause-sound
returns-clause-sound c =
    loaded_sound c.args.readings.now c.args.written.now c.judge_container.result
    (sym c.in_ok-path-3.ensures ∙ c.in_default-3.is) c.judge_container.ensures.judged
    c.judge_container.ensures.consistent
