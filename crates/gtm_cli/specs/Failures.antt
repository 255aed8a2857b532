-- How reading an export and running a trace fail.
use Rattle.std.specs.Prelude.{ℕ, List, Bool, true, false, Option, Some, None, Result, Ok, Err}
use Rattle.std.specs.Prelude.{encode_utf8_all}
use Rattle.gtm_base.specs.declared.status.Status.{Status}
use Rattle.gtm_base.specs.declared.status.Status.TheVariants as status
use Rattle.gtm_cli.specs.declared.failures.ExportFailure.{ExportFailure}
use Rattle.gtm_cli.specs.declared.failures.ExportFailure.TheVariants as export
use Rattle.gtm_cli.specs.declared.failures.RunFailure.{RunFailure}
use Rattle.gtm_cli.specs.declared.failures.RunFailure.TheVariants as run
use Rattle.replay_engine.specs.declared.run_end.RunEnd.{RunEnd}
use Rattle.replay_engine.specs.declared.run_end.RunEnd.TheVariants as engine
use Rattle.trace_reader.specs.declared.reader.TraceEnd.{TraceEnd}
use Rattle.trace_reader.specs.declared.reader.TraceEnd.TheVariants as trace

-- the file of the export could not be read
abbrev pub is_export_fault : ExportFailure → Bool
is_export_fault export.Unread = true
is_export_fault (export.Refused rule path) = false
is_export_fault export.OutOfMemory = false

-- the file of the trace could not be read
abbrev pub is_trace_fault : RunFailure → Bool
is_trace_fault run.Unread = true
is_trace_fault (run.Refused line rule) = false
is_trace_fault (run.EngineRefused text) = false
is_trace_fault (run.JobLimit step) = false
is_trace_fault run.Unwritten = false
is_trace_fault run.OutOfMemory = false

-- the run could not be written
abbrev pub is_out_fault : RunFailure → Bool
is_out_fault run.Unread = false
is_out_fault (run.Refused line rule) = false
is_out_fault (run.EngineRefused text) = false
is_out_fault (run.JobLimit step) = false
is_out_fault run.Unwritten = true
is_out_fault run.OutOfMemory = false

-- what a failure tells of the engines: which text they refused, or that they refused none; want of
-- memory tells nothing, since there may be none for a refused text
abbrev pub trace_refusal : RunFailure → Option (Option (List ℕ))
trace_refusal run.Unread = Some None
trace_refusal (run.Refused line rule) = Some None
trace_refusal (run.EngineRefused text) = Some (Some (encode_utf8_all text))
trace_refusal (run.JobLimit step) = Some None
trace_refusal run.Unwritten = Some None
trace_refusal run.OutOfMemory = None

-- the engines refused no text
abbrev pub RefusesNone : RunFailure → Type 0
RefusesNone run.Unread = Unit {0}
RefusesNone (run.Refused line rule) = Unit {0}
RefusesNone (run.EngineRefused text) = ⊥
RefusesNone (run.JobLimit step) = Unit {0}
RefusesNone run.Unwritten = Unit {0}
RefusesNone run.OutOfMemory = Unit {0}

-- the failure that an engine's end is
abbrev pub failure_of_run : RunEnd → RunFailure
failure_of_run engine.OutOfMemory = run.OutOfMemory
failure_of_run (engine.EngineRefused text) = run.EngineRefused text
failure_of_run (engine.JobLimit step) = run.JobLimit step
failure_of_run engine.SinkFault = run.Unwritten

-- the failure that a reader's end is
abbrev pub failure_of_trace : TraceEnd → RunFailure
failure_of_trace trace.OutOfMemory = run.OutOfMemory
failure_of_trace trace.ReadFault = run.Unread
failure_of_trace (trace.Refused line rule) = run.Refused line rule

-- the status that tells it
abbrev pub status_of_export : ExportFailure → Status
status_of_export export.Unread = status.FileFault
status_of_export (export.Refused rule path) = status.ExportRefused rule path
status_of_export export.OutOfMemory = status.OutOfMemory

-- the status that tells how a trace was run
abbrev pub status_of_run : Result Unit RunFailure → Status
status_of_run (Ok done) = status.Done
status_of_run (Err run.Unread) = status.FileFault
status_of_run (Err (run.Refused line rule)) = status.TraceRefused line rule
status_of_run (Err (run.EngineRefused text)) = status.EngineRefused text
status_of_run (Err (run.JobLimit step)) = status.JobLimit step
status_of_run (Err run.Unwritten) = status.SinkFault
status_of_run (Err run.OutOfMemory) = status.OutOfMemory
