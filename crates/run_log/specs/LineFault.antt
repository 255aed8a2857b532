-- Which errors of a line say that the sink failed.
use Rattle.std.specs.Prelude.{Bool, true, false}
use Rattle.run_log.specs.declared.writing.LineEnd.{LineEnd}
use Rattle.run_log.specs.declared.writing.LineEnd.TheVariants.{OutOfMemory, SinkFault}

-- the sink failed
abbrev pub is_line_fault : LineEnd → Bool
is_line_fault OutOfMemory = false
is_line_fault SinkFault = true
