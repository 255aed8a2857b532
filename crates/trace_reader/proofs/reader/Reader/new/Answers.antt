use Rattle.std.proofs.Common.{◌∙◌, ap, Some}
use Rattle.trace_lines.specs.Reading.{waiting}
use Rattle.trace_reader.specs.Trace.{trace_from}
use Rattle.trace_reader.proofs.Told.{whole_left}
use Rattle.trace_reader.proofs.reader.Reader.new.Goals as goal

pub returns-clause-whole : goal.returns-clause-whole
returns-clause-whole c bytes =
    ap (λ position. Some (trace_from 0 position.before (waiting position bytes)))
    c.new.ensures.value ∙ ap Some (whole_left bytes)
